-- The rules that compute with enclosures. Ends are whole counts of a thousandth. Every rule computes on closed data.
use Rattle.std.specs.Prelude.{◌≡◌, Bool, false, cond, ◌&&◌, ◌||◌, ℤ, pos, negsuc, ◌+ℤ◌, ◌-ℤ◌, ◌*ℤ◌, neg_ℤ, Option, Some, None, FitsSigned, int_le, int_lt, unsigned_abs}
use Rattle.std.specs.Int.{w32, int_min, int_max}
use Rattle.exact.specs.Rounding.{floor, ceiling}
use Rattle.interval.specs.declared.enclosures.Enclosure.{Enclosure}
use Rattle.interval.specs.declared.enclosures.Enclosure.TheVariants.{NoBounds, Bounds}
use Rattle.interval.specs.declared.enclosures.Branch.{Branch}
use Rattle.interval.specs.declared.enclosures.Branch.TheVariants.{First, Second, Both, Neither}
use Rattle.interval.specs.declared.enclosures.Sign.{Sign}
use Rattle.interval.specs.declared.enclosures.Sign.TheVariants.{Plus, Minus}

-- the largest size of an end: two thousand million counts
abbrev pub limit : ℤ
limit = pos 2_000_000_000

abbrev pub within : ℤ → Bool
within z = int_le (neg_ℤ limit) z && int_le z limit

-- the pair of two ends, or no bounds where an end lies beyond the limit
abbrev pub kept : ℤ → ℤ → Enclosure
kept lo hi = cond (within lo && within hi) (Bounds lo hi) NoBounds

-- a rule that reads no bounds gives none
abbrev pub on1 : (ℤ → ℤ → Enclosure) → Enclosure → Enclosure
on1 f NoBounds = NoBounds
on1 f (Bounds a b) = f a b

abbrev pub on2 : (ℤ → ℤ → ℤ → ℤ → Enclosure) → Enclosure → Enclosure → Enclosure
on2 f NoBounds q = NoBounds
on2 f (Bounds a b) NoBounds = NoBounds
on2 f (Bounds a b) (Bounds d e) = f a b d e

-- what a function answers that calls another, with the outcome P, on ends of 32 bits; no bounds where an operand has none
abbrev pub OnOne : (ℤ → ℤ → Enclosure → Type 0) → Enclosure → Enclosure → Type 0
OnOne P NoBounds r = r ≡ NoBounds
OnOne P (Bounds a b) r = FitsSigned w32 a × FitsSigned w32 b × P a b r

abbrev pub OnBoth : (ℤ → ℤ → ℤ → ℤ → Enclosure → Type 0) → Enclosure → Enclosure → Enclosure → Type 0
OnBoth P NoBounds q r = r ≡ NoBounds
OnBoth P (Bounds a b) NoBounds r = r ≡ NoBounds
OnBoth P (Bounds a b) (Bounds d e) r = FitsSigned w32 a × FitsSigned w32 b × FitsSigned w32 d × FitsSigned w32 e × P a b d e r

abbrev pub least : ℤ → ℤ → ℤ → ℤ → ℤ
least a b c d = int_min (int_min a b) (int_min c d)

abbrev pub greatest : ℤ → ℤ → ℤ → ℤ → ℤ
greatest a b c d = int_max (int_max a b) (int_max c d)

-- ---- the rules, with operands [a,b] and [d,e]
unfoldable pub neg : Enclosure → Enclosure
neg = on1 (λ a b. kept (neg_ℤ b) (neg_ℤ a))

unfoldable pub add : Enclosure → Enclosure → Enclosure
add = on2 (λ a b d e. kept (a +ℤ d) (b +ℤ e))

unfoldable pub sub : Enclosure → Enclosure → Enclosure
sub = on2 (λ a b d e. kept (a -ℤ e) (b -ℤ d))

-- the four products of ends over 1000: the least rounded down, the greatest rounded up
abbrev pub low_product : ℤ → ℤ → ℤ → ℤ → ℤ
low_product a b d e = floor (least (a *ℤ d) (a *ℤ e) (b *ℤ d) (b *ℤ e)) (pos 1000)

abbrev pub high_product : ℤ → ℤ → ℤ → ℤ → ℤ
high_product a b d e = ceiling (greatest (a *ℤ d) (a *ℤ e) (b *ℤ d) (b *ℤ e)) (pos 1000)

abbrev pub products : ℤ → ℤ → ℤ → ℤ → Enclosure
products a b d e = kept (low_product a b d e) (high_product a b d e)

unfoldable pub mul : Enclosure → Enclosure → Enclosure
mul = on2 products

-- the four quotients 1000·end / end: the least rounded down, the greatest rounded up (rounding keeps the order, so the
-- least of the rounded quotients is the least quotient, rounded)
abbrev pub low_quotient : ℤ → ℤ → ℤ → ℤ → ℤ
low_quotient a b d e = least (floor (pos 1000 *ℤ a) d) (floor (pos 1000 *ℤ a) e) (floor (pos 1000 *ℤ b) d) (floor (pos 1000 *ℤ b) e)

abbrev pub high_quotient : ℤ → ℤ → ℤ → ℤ → ℤ
high_quotient a b d e = greatest (ceiling (pos 1000 *ℤ a) d) (ceiling (pos 1000 *ℤ a) e) (ceiling (pos 1000 *ℤ b) d) (ceiling (pos 1000 *ℤ b) e)

abbrev pub quotients : ℤ → ℤ → ℤ → ℤ → Enclosure
quotients a b d e = kept (low_quotient a b d e) (high_quotient a b d e)

-- zero lies from d to e
abbrev pub spans_zero : ℤ → ℤ → Bool
spans_zero d e = int_le d (pos 0) && int_le (pos 0) e

-- no bounds if d ≤ 0 ≤ e; ends out of order, which hold no value, are looked at both ways so that no end is 0
abbrev pub quotients_apart : ℤ → ℤ → ℤ → ℤ → Enclosure
quotients_apart a b d e = cond (spans_zero d e || spans_zero e d) NoBounds (quotients a b d e)

unfoldable pub div : Enclosure → Enclosure → Enclosure
div = on2 quotients_apart

abbrev pub size : ℤ → ℤ
size z = pos (unsigned_abs z)

-- the least and the greatest distance of a pair from zero: 0 where it spans zero, else the nearer end's; the farther end's
abbrev pub nearest : ℤ → ℤ → ℤ
nearest a b = cond (spans_zero a b) (pos 0) (int_min (size a) (size b))

abbrev pub farthest : ℤ → ℤ → ℤ
farthest a b = int_max (size a) (size b)

unfoldable pub abs : Enclosure → Enclosure
abs = on1 (λ a b. kept (nearest a b) (farthest a b))

-- the larger of two, end by end
unfoldable pub max : Enclosure → Enclosure → Enclosure
max = on2 (λ a b d e. kept (int_max a d) (int_max b e))

-- the least pair that has both
unfoldable pub hull : Enclosure → Enclosure → Enclosure
hull = on2 (λ a b d e. kept (int_min a d) (int_max b e))

-- what two pairs share; no bounds where they share nothing
unfoldable pub common : Enclosure → Enclosure → Enclosure
common = on2 (λ a b d e. cond (int_le (int_max a d) (int_min b e)) (kept (int_max a d) (int_min b e)) NoBounds)

-- which lines the branch reads: the first where s lies below zero, the second where above, else both
abbrev pub branch : Enclosure → Branch
branch NoBounds = Neither
branch (Bounds a b) = cond (int_lt b (pos 0)) First (cond (int_lt (pos 0) a) Second Both)

-- the enclosure itself, unless an end lies beyond the limit
abbrev pub held : Enclosure → Enclosure
held = on1 kept

abbrev pub taken : Branch → Enclosure → Enclosure → Enclosure
taken First q r = held q
taken Second q r = held r
taken Both q r = hull q r
taken Neither q r = NoBounds

unfoldable pub chi : Enclosure → Enclosure → Enclosure → Enclosure
chi s q r = taken (branch s) q r

-- ---- away from zero
-- plus where the lower end is 1 or more, minus where the upper end is −1 or less, else none
unfoldable pub sign_of : Enclosure → Option Sign
sign_of NoBounds = None
sign_of (Bounds lo hi) = cond (int_le (pos 1) lo) (Some Plus) (cond (int_le hi (negsuc 0)) (Some Minus) None)

-- the lower end is 1 or more, or the upper end −1 or less
unfoldable pub clear : Enclosure → Bool
clear NoBounds = false
clear (Bounds lo hi) = int_le (pos 1) lo || int_le hi (negsuc 0)
