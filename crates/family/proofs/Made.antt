-- A reading is the one that its ends make.
use Rattle.std.proofs.Common.{◌≡◌, Bool, true, false, ℤ, Ok, sym, refl, subst, ◌∙◌}
use Rattle.std.proofs.Math.Bool.{Bool-set}
use Rattle.family.specs.declared.readings.Reading.{Reading}
use Rattle.family.specs.Limits.{believable}
use Rattle.family.specs.Readings.{reading_if, reading_of}

made_if : (r : Reading) (b : Bool) (e : believable r.lo r.hi ≡ b) → Ok r ≡ reading_if r.lo r.hi b e
made_if r true e = λ i. Ok (record { lo = r.lo; hi = r.hi; valid = Bool-set (believable r.lo r.hi) true r.valid e i })
made_if r false e = let h : true ≡ false = sym r.valid ∙ e in cc

pub reading_is : (r : Reading) (lo hi : ℤ) → r.lo ≡ lo → r.hi ≡ hi → Ok r ≡ reading_of lo hi
reading_is r lo hi e f = subst (λ (y : ℤ). Ok r ≡ reading_of y hi) e (subst (λ (y : ℤ). Ok r ≡ reading_of r.lo y) f (made_if r (believable r.lo r.hi) refl))
