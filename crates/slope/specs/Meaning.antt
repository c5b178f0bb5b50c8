-- What an entry with a slope says of exact values at a point and at the middle, and the law of a rule.
use Rattle.std.specs.Prelude.{◌≡◌}
use Rattle.exact.specs.Fraction.{Fraction, whole, in_units, minus, times, ◌≃◌}
use Rattle.exact.specs.Value.{Value, none, some}
use Rattle.interval.specs.declared.enclosures.Enclosure.{Enclosure}
use Rattle.interval.specs.declared.enclosures.Enclosure.TheVariants.{NoBounds, Bounds}
use Rattle.interval.specs.Meaning.{Between, Holds}
use Rattle.family.specs.declared.cells.Cell.{Cell}
use Rattle.family.specs.Cells.{middle}
use Rattle.slope.specs.declared.entries.Slope.{Slope}

-- the way from the middle to the point, in units
abbrev pub gap : Cell → Fraction → Fraction
gap c p = minus (in_units p) (in_units (whole (middle c)))

-- f − g = r·δ for some slope r, with 1000·r within the pair
abbrev pub Slopes : Fraction → Enclosure → Fraction → Fraction → Type 0
Slopes δ NoBounds f g = Unit {0}
Slopes δ (Bounds l h) f g = (r : Fraction) × Between l h r × (minus f g ≃ times r δ)

-- the same wherever both values exist
abbrev pub Sloped : Fraction → Enclosure → Value → Value → Type 0
Sloped δ e none w = Unit {0}
Sloped δ e (some f) none = Unit {0}
Sloped δ e (some f) (some g) = Slopes δ e f g

-- x is the value at the point, m that at the middle, which is a point of the cell too; δ is the way from the middle to the point
pub record Vouches (δ : Fraction) (i : Slope) (x m : Value) : Type 0 where
  pub point : Holds i.v x
  pub inside : Holds i.v m
  pub middle : Holds i.u m
  pub sloped : Sloped δ i.s x m

-- an enclosure has bounds
abbrev pub HasBounds : Enclosure → Type 0
HasBounds NoBounds = ⊥
HasBounds (Bounds l h) = Unit {0}

-- ---- the law of a rule: where the operands vouch for values, the result vouches for the exact result
abbrev pub Law1 : (Value → Value) → Slope → Slope → Type 0
Law1 f i r = (δ : Fraction) (x m : Value) → Vouches δ i x m → Vouches δ r (f x) (f m)

abbrev pub Law2 : (Value → Value → Value) → Slope → Slope → Slope → Type 0
Law2 f i j r = (δ : Fraction) (x m x' m' : Value) → Vouches δ i x m → Vouches δ j x' m' → Vouches δ r (f x x') (f m m')

abbrev pub Law3 : (Value → Value → Value → Value) → Slope → Slope → Slope → Slope → Type 0
Law3 f i j k r = (δ : Fraction) (x m x' m' x'' m'' : Value) → Vouches δ i x m → Vouches δ j x' m' → Vouches δ k x'' m'' → Vouches δ r (f x x' x'') (f m m' m'')

-- what every rule's function answers: the rule's own entry, for which the law holds
pub record Follows (rule : Slope) (Law : Slope → Type 0) (r : Slope) : Type 0 where
  pub same : r ≡ rule
  pub law : Law r
