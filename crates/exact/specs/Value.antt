-- A value is a fraction, or none: what divides by zero has no value, and what reads such a value has none either.
use Rattle.std.specs.Prelude.{ℕ, zero, suc, ◌*◌, Bool, cond, ℤ, pos, negsuc, ◌*ℤ◌, neg_ℤ, int_lt}
use Rattle.std.proofs.Common.{mul-pos, arith}
use Rattle.exact.specs.Fraction.{Fraction, ◌≃◌}

pub data Value : Type 0 where
  none : Value
  some : Fraction → Value

-- an operation on fractions, on values
abbrev pub each : (Fraction → Fraction) → Value → Value
each f none = none
each f (some u) = some (f u)

abbrev pub both : (Fraction → Fraction → Fraction) → Value → Value → Value
both f none y = none
both f (some u) none = none
both f (some u) (some v) = some (f u v)

-- u divided by n/d: none at n = 0; a negative n turns u round, since a denominator is above 0
abbrev pub over : Fraction → ℤ → ℕ → Value
over u (pos zero) d = none
over u (pos (suc n)) d = some (record { num = u.num *ℤ pos d; den = u.den * suc n; positive = mul-pos u.positive (omega arith) })
over u (negsuc n) d = some (record { num = neg_ℤ (u.num *ℤ pos d); den = u.den * suc n; positive = mul-pos u.positive (omega arith) })

abbrev pub divided : Fraction → Fraction → Value
divided u v = over u v.num v.den

abbrev pub quotient : Value → Value → Value
quotient none y = none
quotient (some u) none = none
quotient (some u) (some v) = divided u v

-- whether a fraction is below zero
abbrev pub negative : Fraction → Bool
negative s = int_lt s.num (pos 0)

-- q if s < 0, else r: only s and the chosen one are needed
abbrev pub choice : Value → Value → Value → Value
choice none q r = none
choice (some s) q r = cond (negative s) q r

-- both no value, or equal fractions
abbrev pub Alike : Value → Value → Type 0
Alike none none = Unit {0}
Alike none (some v) = ⊥
Alike (some u) none = ⊥
Alike (some u) (some v) = u ≃ v
