-- Cells of openings, and the points in them. A point is a fraction, in counts.
use Rattle.std.specs.Prelude.{Bool, ◌&&◌, ℤ, pos, ◌+ℤ◌, ◌*ℤ◌, neg_ℤ, ◌≤ℤ◌, int_le}
use Rattle.exact.specs.Fraction.{Fraction}
use Rattle.exact.specs.Rounding.{floor}
use Rattle.family.specs.declared.cells.Cell.{Cell}

-- openings lie within a million counts
abbrev pub span : ℤ
span = pos 1_000_000

-- the ends ascend and are openings
abbrev pub exists : Cell → Bool
exists c = int_le (neg_ℤ span) c.lo && (int_le c.lo c.hi && int_le c.hi span)

abbrev pub middle : Cell → ℤ
middle c = floor (c.lo +ℤ c.hi) (pos 2)

-- a ≤ x ≤ b
abbrev pub Within : ℤ → ℤ → Fraction → Type 0
Within a b x = ((a *ℤ pos x.den) ≤ℤ x.num) × (x.num ≤ℤ (b *ℤ pos x.den))

abbrev pub InCell : Cell → Fraction → Type 0
InCell c x = Within c.lo c.hi x
