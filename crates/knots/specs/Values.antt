-- The exact height of a table at any point, in counts: the straight line between knots, the nearest end's y outside.
use Rattle.std.specs.Prelude.{ℕ, ◌*◌, max, Bool, cond, List, [], ◌∷◌, ℤ, pos, ◌+ℤ◌, ◌-ℤ◌, ◌*ℤ◌, int_le, unsigned_abs}
use Rattle.std.proofs.Common.{mul-pos, arith}
use Rattle.exact.specs.Fraction.{Fraction, whole}
use Rattle.knots.specs.declared.knots.Knot.{Knot}

-- x ≤ z
abbrev pub up_to : Fraction → ℤ → Bool
up_to x z = int_le x.num (z *ℤ pos x.den)

-- how far to the right the next knot lies (1 stands in where the two do not ascend, which no table has)
abbrev pub stretch : Knot → Knot → ℕ
stretch k l = max 1 (unsigned_abs (l.x -ℤ k.x))

-- the straight line through k and l: k.y + (l.y − k.y)·(x − k.x)/(l.x − k.x)
abbrev pub line : Knot → Knot → Fraction → Fraction
line k l x = record {
  num = k.y *ℤ (pos (stretch k l) *ℤ pos x.den) +ℤ (l.y -ℤ k.y) *ℤ (x.num -ℤ k.x *ℤ pos x.den);
  den = stretch k l * x.den;
  positive = mul-pos (omega arith) x.positive;
}

-- to the right of knot k, with the knots after it
abbrev pub right_of : Knot → List Knot → Fraction → Fraction
right_of k [] x = whole k.y
right_of k (l ∷ ls) x = cond (up_to x l.x) (line k l x) (right_of l ls x)

-- (no table has no knots; 0 stands in)
abbrev pub height_at : List Knot → Fraction → Fraction
height_at [] x = whole (pos 0)
height_at (k ∷ ks) x = cond (up_to x k.x) (whole k.y) (right_of k ks x)
