-- What an enclosure, a sign and a branch say of exact values, and the law of a rule.
use Rattle.std.specs.Prelude.{◌≡◌, true, false, ◌⊎◌, ℤ, pos, ◌*ℤ◌, neg_ℤ, ◌≤ℤ◌}
use Rattle.exact.specs.Fraction.{Fraction}
use Rattle.exact.specs.Value.{Value, none, some, negative, choice}
use Rattle.interval.specs.declared.enclosures.Enclosure.{Enclosure}
use Rattle.interval.specs.declared.enclosures.Enclosure.TheVariants.{NoBounds, Bounds}
use Rattle.interval.specs.declared.enclosures.Branch.{Branch}
use Rattle.interval.specs.declared.enclosures.Branch.TheVariants.{First, Second, Both, Neither}
use Rattle.interval.specs.declared.enclosures.Sign.{Sign}
use Rattle.interval.specs.declared.enclosures.Sign.TheVariants.{Plus, Minus}
use Rattle.interval.specs.Rules.{within}

-- lo ≤ 1000·v ≤ hi
abbrev pub Between : ℤ → ℤ → Fraction → Type 0
Between lo hi v = ((lo *ℤ pos v.den) ≤ℤ (pos 1000 *ℤ v.num)) × ((pos 1000 *ℤ v.num) ≤ℤ (hi *ℤ pos v.den))

-- an enclosure, case by case: no bounds say nothing; a pair says that there is a value, and that 1000 times it lies between the ends
abbrev pub Holds : Enclosure → Value → Type 0
Holds NoBounds v = Unit {0}
Holds (Bounds lo hi) none = ⊥
Holds (Bounds lo hi) (some v) = Between lo hi v

-- the ends lie within the limit
abbrev pub InRange : Enclosure → Type 0
InRange NoBounds = Unit {0}
InRange (Bounds lo hi) = (within lo ≡ true) × (within hi ≡ true)

-- one count or more above zero, and below
abbrev pub CountAbove : Fraction → Type 0
CountAbove v = pos v.den ≤ℤ (pos 1000 *ℤ v.num)

abbrev pub CountBelow : Fraction → Type 0
CountBelow v = (pos 1000 *ℤ v.num) ≤ℤ (neg_ℤ (pos v.den))

-- a sign, case by case: what it says of a value
abbrev pub Shows : Sign → Value → Type 0
Shows Plus none = ⊥
Shows Plus (some v) = CountAbove v
Shows Minus none = ⊥
Shows Minus (some v) = CountBelow v

-- one count or more from zero
abbrev pub Away : Value → Type 0
Away none = ⊥
Away (some v) = CountAbove v ⊎ CountBelow v

-- a branch, case by case: what it says of the value that chooses
abbrev pub Chooses : Branch → Value → Type 0
Chooses First none = ⊥
Chooses First (some s) = negative s ≡ true
Chooses Second none = ⊥
Chooses Second (some s) = negative s ≡ false
Chooses Both s = Unit {0}
Chooses Neither s = Unit {0}

-- ---- the law of a rule: where the operands' enclosures hold their values, the result's holds the exact result
abbrev pub Law1 : (Value → Value) → Enclosure → Enclosure → Type 0
Law1 f p r = (x : Value) → Holds p x → Holds r (f x)

abbrev pub Law2 : (Value → Value → Value) → Enclosure → Enclosure → Enclosure → Type 0
Law2 f p q r = (x y : Value) → Holds p x → Holds q y → Holds r (f x y)

-- the hull holds what either holds; the common part holds what both hold
abbrev pub HullLaw : Enclosure → Enclosure → Enclosure → Type 0
HullLaw p q r = (x : Value) → (Holds p x ⊎ Holds q x) → Holds r x

abbrev pub CommonLaw : Enclosure → Enclosure → Enclosure → Type 0
CommonLaw p q r = (x : Value) → Holds p x → Holds q x → Holds r x

-- the branch needs s, and of the other two only the one that s chooses
abbrev pub BranchLaw : Enclosure → Enclosure → Enclosure → Enclosure → Type 0
BranchLaw s q r e = (x y z : Value) → Holds s x → ((u : Fraction) → x ≡ some u → negative u ≡ true → Holds q y) → ((u : Fraction) → x ≡ some u → negative u ≡ false → Holds r z) → Holds e (choice x y z)

-- what every rule's function answers: the rule's own enclosure, for which the law holds, with ends within the limit
pub record Follows (rule : Enclosure) (Law : Enclosure → Type 0) (r : Enclosure) : Type 0 where
  pub same : r ≡ rule
  pub law : Law r
  pub range : InRange r
