-- Operations on values respect equality: the quotient of fractions, and each operation where a value may be lacking.
use Rattle.std.proofs.Common.{◌≡◌, ℕ, zero, suc, ◌*◌, ◌<◌, Bool, true, false, cond, ℤ, pos, negsuc, ◌*ℤ◌, neg_ℤ, nat_abs, sym, refl, ap, ◌∙◌, subst, mul_comm, mul-pos, arith}
use lib.Signed.{lt_z}
use borrow.Author.Differences.{ints}
use Rattle.exact.proofs.Integers.{neg-*ℤ}
use Rattle.exact.specs.Fraction.{Fraction, ◌≃◌}
use Rattle.exact.specs.Value.{Value, none, some, each, both, over, divided, quotient, negative, choice, Alike}
use Rattle.exact.proofs.Fractions.{product_same}

module _ (u u' : Fraction) (p : u ≃ u') where
  like : (n n' d d' : ℕ) → suc n * d' ≡ suc n' * d → (u.num *ℤ pos d) *ℤ (pos u'.den *ℤ pos (suc n')) ≡ (u'.num *ℤ pos d') *ℤ (pos u.den *ℤ pos (suc n))
  like n n' d d' e = product_same u.num (pos u.den) u'.num (pos u'.den) (pos d) (pos (suc n)) (pos d') (pos (suc n')) p (ap pos (mul_comm d (suc n') ∙ sym e ∙ mul_comm (suc n) d'))

  over_≃ : (n n' : ℤ) (d d' : ℕ) → 0 < d → 0 < d' → n *ℤ pos d' ≡ n' *ℤ pos d → Alike (over u n d) (over u' n' d')
  over_≃ (pos zero) (pos zero) d d' h k e = tt
  over_≃ (pos zero) (pos (suc n)) d d' h k e = let m : 0 < suc n * d = mul-pos (omega arith) h in absurd (omega (arith, ints, native.Mathlib.Nat.zero-mul d'))
  over_≃ (pos zero) (negsuc n) d d' h k e = let m : 0 < suc n * d = mul-pos (omega arith) h in absurd (omega (arith, ints, native.Mathlib.Nat.zero-mul d'))
  over_≃ (pos (suc n)) (pos zero) d d' h k e = let m : 0 < suc n * d' = mul-pos (omega arith) k in absurd (omega (arith, ints, native.Mathlib.Nat.zero-mul d))
  over_≃ (pos (suc n)) (pos (suc n')) d d' h k e = like n n' d d' (ap nat_abs e)
  over_≃ (pos (suc n)) (negsuc n') d d' h k e = let m : 0 < suc n * d' = mul-pos (omega arith) k in absurd (omega (arith, ints))
  over_≃ (negsuc n) (pos zero) d d' h k e = let m : 0 < suc n * d' = mul-pos (omega arith) k in absurd (omega (arith, ints, native.Mathlib.Nat.zero-mul d))
  over_≃ (negsuc n) (pos (suc n')) d d' h k e = let m : 0 < suc n * d' = mul-pos (omega arith) k in absurd (omega (arith, ints))
  over_≃ (negsuc n) (negsuc n') d d' h k e =
      let s : suc n * d' ≡ suc n' * d = omega (arith, ints) in
      neg-*ℤ (u.num *ℤ pos d) (pos (u'.den * suc n')) ∙ ap neg_ℤ (like n n' d d' s) ∙ sym (neg-*ℤ (u'.num *ℤ pos d') (pos (u.den * suc n)))

pub divided-≃ : (u u' v v' : Fraction) → u ≃ u' → v ≃ v' → Alike (divided u v) (divided u' v')
divided-≃ u u' v v' p q = over_≃ u u' p v.num v'.num v.den v'.den v.positive v'.positive q

-- ---- values
pub each_alike : (f : Fraction → Fraction) → ((u u' : Fraction) → u ≃ u' → f u ≃ f u') → (x x' : Value) → Alike x x' → Alike (each f x) (each f x')
each_alike f h none none p = tt
each_alike f h none (some u) p = absurd p
each_alike f h (some u) none p = absurd p
each_alike f h (some u) (some u') p = h u u' p

pub both_alike : (f : Fraction → Fraction → Fraction) → ((u u' v v' : Fraction) → u ≃ u' → v ≃ v' → f u v ≃ f u' v') → (x x' y y' : Value) → Alike x x' → Alike y y' → Alike (both f x y) (both f x' y')
both_alike f h none none y y' p q = tt
both_alike f h none (some u) y y' p q = absurd p
both_alike f h (some u) none y y' p q = absurd p
both_alike f h (some u) (some u') none none p q = tt
both_alike f h (some u) (some u') none (some v) p q = absurd q
both_alike f h (some u) (some u') (some v) none p q = absurd q
both_alike f h (some u) (some u') (some v) (some v') p q = h u u' v v' p q

pub quotient_alike : (x x' y y' : Value) → Alike x x' → Alike y y' → Alike (quotient x y) (quotient x' y')
quotient_alike none none y y' p q = tt
quotient_alike none (some u) y y' p q = absurd p
quotient_alike (some u) none y y' p q = absurd p
quotient_alike (some u) (some u') none none p q = tt
quotient_alike (some u) (some u') none (some v) p q = absurd q
quotient_alike (some u) (some u') (some v) none p q = absurd q
quotient_alike (some u) (some u') (some v) (some v') p q = divided-≃ u u' v v' p q

-- equal fractions have the same sign
same_sign : (n n' : ℤ) (d d' : ℕ) → 0 < d → 0 < d' → n *ℤ pos d' ≡ n' *ℤ pos d → lt_z n (pos 0) ≡ lt_z n' (pos 0)
same_sign (pos n) (pos n') d d' h k e = grind (arith, ints)
same_sign (pos n) (negsuc n') d d' h k e = let m : 0 < suc n' * d = mul-pos (omega arith) h in absurd (omega (arith, ints))
same_sign (negsuc n) (pos n') d d' h k e = let m : 0 < suc n * d' = mul-pos (omega arith) k in absurd (omega (arith, ints))
same_sign (negsuc n) (negsuc n') d d' h k e = refl

negative-≃ : (s s' : Fraction) → s ≃ s' → negative s ≡ negative s'
negative-≃ s s' e = same_sign s.num s'.num s.den s'.den s.positive s'.positive e

pub choice_alike : (x x' y y' z z' : Value) → Alike x x' → Alike y y' → Alike z z' → Alike (choice x y z) (choice x' y' z')
choice_alike none none y y' z z' p q r = tt
choice_alike none (some s) y y' z z' p q r = absurd p
choice_alike (some s) none y y' z z' p q r = absurd p
choice_alike (some s) (some s') y y' z z' p q r = subst (λ (t : Bool). Alike (choice (some s) y z) (cond t y' z')) (negative-≃ s s' p) (chosen (negative s))
  where
    chosen : (t : Bool) → Alike (cond t y z) (cond t y' z')
    chosen true = q
    chosen false = r
