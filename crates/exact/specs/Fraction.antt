-- Exact fractions: a whole numerator over a denominator above 0. One number has many fractions (1/2 and 2/4), so equality
-- and order are by cross-multiplication. Every operation computes on closed data.
use Rattle.std.specs.Prelude.{◌≡◌, ℕ, ◌*◌, ◌<◌, Bool, cond, ℤ, pos, ◌+ℤ◌, ◌*ℤ◌, neg_ℤ, ◌≤ℤ◌, ◌<ℤ◌, int_lt, unsigned_abs}
use Rattle.std.proofs.Common.{mul-pos, arith}
use Rattle.exact.specs.Rounding.{floor, ceiling}

pub record Fraction : Type 0 where
  pub num : ℤ
  pub den : ℕ
  pub positive : 0 < den

abbrev pub whole : ℤ → Fraction
whole z = record { num = z; den = 1; positive = omega arith }

-- equal, at most, below
infix 4 ◌≃◌ ◌≼◌ ◌≺◌
abbrev pub ◌≃◌ : Fraction → Fraction → Type 0
u ≃ v = u.num *ℤ pos v.den ≡ v.num *ℤ pos u.den

abbrev pub ◌≼◌ : Fraction → Fraction → Type 0
u ≼ v = (u.num *ℤ pos v.den) ≤ℤ (v.num *ℤ pos u.den)

abbrev pub ◌≺◌ : Fraction → Fraction → Type 0
u ≺ v = (u.num *ℤ pos v.den) <ℤ (v.num *ℤ pos u.den)

-- the test of u ≺ v
abbrev pub less : Fraction → Fraction → Bool
less u v = int_lt (u.num *ℤ pos v.den) (v.num *ℤ pos u.den)

abbrev pub plus : Fraction → Fraction → Fraction
plus u v = record { num = u.num *ℤ pos v.den +ℤ v.num *ℤ pos u.den; den = u.den * v.den; positive = mul-pos u.positive v.positive }

abbrev pub negated : Fraction → Fraction
negated u = record { num = neg_ℤ u.num; den = u.den; positive = u.positive }

abbrev pub minus : Fraction → Fraction → Fraction
minus u v = plus u (negated v)

abbrev pub times : Fraction → Fraction → Fraction
times u v = record { num = u.num *ℤ v.num; den = u.den * v.den; positive = mul-pos u.positive v.positive }

abbrev pub absolute : Fraction → Fraction
absolute u = record { num = pos (unsigned_abs u.num); den = u.den; positive = u.positive }

abbrev pub larger : Fraction → Fraction → Fraction
larger u v = cond (less u v) v u

abbrev pub smaller : Fraction → Fraction → Fraction
smaller u v = cond (less v u) v u

-- rounded down, and up
abbrev pub floor_of : Fraction → ℤ
floor_of u = floor u.num (pos u.den)

abbrev pub ceiling_of : Fraction → ℤ
ceiling_of u = ceiling u.num (pos u.den)

-- counts to units: a thousandth of it
abbrev pub in_units : Fraction → Fraction
in_units u = record { num = u.num; den = u.den * 1000; positive = mul-pos u.positive (omega arith) }
