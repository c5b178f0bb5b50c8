-- Which knots may make a table, and why others are refused.
use Rattle.std.specs.Prelude.{ℕ, Bool, true, cond, ◌&&◌, List, [], ◌∷◌, length, neg_ℤ, Some, None, Option, int_le, int_lt, nat_le}
use Rattle.std.specs.List.{list_all}
use Rattle.interval.specs.Rules.{within}
use Rattle.family.specs.Cells.{span}
use Rattle.knots.specs.declared.knots.Knot.{Knot}
use Rattle.knots.specs.declared.knots.TableRefusal.{TableRefusal}
use Rattle.knots.specs.declared.knots.TableRefusal.TheVariants.{Reading, Range, Knots}

-- a table has at most so many knots
abbrev pub most_knots : ℕ
most_knots = 16

-- a refusal, case by case: its number
abbrev pub number_of : TableRefusal → ℕ
number_of Reading = 24
number_of Range = 25
number_of Knots = 28

-- x is an opening and y lies within the limit
abbrev pub ranged : Knot → Bool
ranged k = (int_le (neg_ℤ span) k.x && int_le k.x span) && within k.y

abbrev pub all_ranged : List Knot → Bool
all_ranged ks = list_all ranged ks

-- each x lies to the right of the one before
abbrev pub ascend_from : Knot → List Knot → Bool
ascend_from k [] = true
ascend_from k (l ∷ ls) = int_lt k.x l.x && ascend_from l ls

abbrev pub ascending : List Knot → Bool
ascending [] = true
ascending (k ∷ ks) = ascend_from k ks

-- as many knots as a table may have, in order
abbrev pub lined : List Knot → Bool
lined ks = (nat_le 2 (length ks) && nat_le (length ks) most_knots) && ascending ks

-- why a table is refused; the first cause in this order is told
abbrev pub fault : ℕ → List Knot → Option TableRefusal
fault n ks = cond (nat_le n 7) (cond (all_ranged ks) (cond (lined ks) None (Some Knots)) (Some Range)) (Some Reading)

abbrev pub valid : ℕ → List Knot → Bool
valid n ks = nat_le n 7 && (all_ranged ks && lined ks)
