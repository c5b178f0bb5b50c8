-- The least and the greatest height of a table over a cell. A straight line has them at its ends, so they are found among the heights
-- at the cell's ends and those of the knots inside.
use Rattle.std.specs.Prelude.{Bool, cond, ◌&&◌, List, [], ◌∷◌, int_le}
use Rattle.std.specs.Int.{int_min, int_max}
use Rattle.exact.specs.Fraction.{Fraction, whole, smaller, larger, floor_of, ceiling_of, ◌≃◌, ◌≼◌}
use Rattle.family.specs.declared.cells.Cell.{Cell}
use Rattle.family.specs.Cells.{InCell}
use Rattle.knots.specs.declared.knots.Knot.{Knot}
use Rattle.knots.specs.declared.extents.Extent.{Extent}
use Rattle.knots.specs.Values.{height_at}

-- the knot lies in the cell
abbrev pub inside : Cell → Knot → Bool
inside c k = int_le c.lo k.x && int_le k.x c.hi

-- one of two heights is picked, over all knots inside
abbrev pub pick_over : (Fraction → Fraction → Fraction) → Cell → Fraction → List Knot → Fraction
pick_over pick c u [] = u
pick_over pick c u (k ∷ ks) = pick_over pick c (cond (inside c k) (pick u (whole k.y)) u) ks

abbrev pub extreme : (Fraction → Fraction → Fraction) → List Knot → Cell → Fraction
extreme pick ks c = pick_over pick c (pick (height_at ks (whole c.lo)) (height_at ks (whole c.hi))) ks

abbrev pub least : List Knot → Cell → Fraction
least ks c = extreme smaller ks c

abbrev pub greatest : List Knot → Cell → Fraction
greatest ks c = extreme larger ks c

-- the whole counts around: the least rounded down, the greatest rounded up
abbrev pub rounded : Fraction → Fraction → Extent
rounded u v = record { lo = floor_of u; hi = ceiling_of v }

-- the least extent that has both
abbrev pub joined : Extent → Extent → Extent
joined e f = record { lo = int_min e.lo f.lo; hi = int_max e.hi f.hi }

abbrev pub extent_of : List Knot → Cell → Extent
extent_of ks c = rounded (least ks c) (greatest ks c)

-- ---- what least and greatest mean: every point's height lies between, and each is the height at some point of the cell
abbrev pub Taken : List Knot → Cell → Fraction → Type 0
Taken ks c u = (x : Fraction) × (InCell c x × (height_at ks x ≃ u))

pub record Extremes (ks : List Knot) (c : Cell) : Type 0 where
  pub low : (x : Fraction) → InCell c x → least ks c ≼ height_at ks x
  pub high : (x : Fraction) → InCell c x → height_at ks x ≼ greatest ks c
  pub low_taken : Taken ks c (least ks c)
  pub high_taken : Taken ks c (greatest ks c)
