-- Laws of fractions: equality is an equivalence, every operation respects it, and the order is a linear one.
use Rattle.std.proofs.Common.{◌≡◌, Bool, true, false, cond, ℤ, pos, ◌+ℤ◌, ◌*ℤ◌, neg_ℤ, nat_abs, ◌≤ℤ◌, ◌<ℤ◌, sym, refl, ap, ◌∙◌, subst, arith}
use lib.Signed.{lt_z, clash_ℤ}
use Rattle.std.proofs.lemmas.Int.{by_lt_z, unsigned_abs-mul}
use borrow.Author.Differences.{ints}
use Rattle.exact.proofs.Integers.{linear, product_pos, ≤ℤ-mul, ≤ℤ_cancel, ≡_cancel, by_order}
use Rattle.exact.proofs.Ring.{◌⊕◌, ◌⊗◌, ⊖◌, ◌≐◌, ring2, ring3, ring4, ring6}
use Rattle.exact.specs.Fraction.{Fraction, ◌≃◌, ◌≼◌, ◌≺◌, plus, negated, minus, times, absolute, less, larger}

-- ---- over whole numbers: a/b and a'/b' are equal, and so are c/d and c'/d'
module _ (a b a' b' c d c' d' : ℤ) (p : a *ℤ b' ≡ a' *ℤ b) (q : c *ℤ d' ≡ c' *ℤ d) where
  sum_same : (a *ℤ d +ℤ c *ℤ b) *ℤ (b' *ℤ d') ≡ (a' *ℤ d' +ℤ c' *ℤ b') *ℤ (b *ℤ d)
  sum_same =
      let l = ring6 a b c d b' d' (λ A B C D B' D'. (A ⊗ D ⊕ C ⊗ B) ⊗ (B' ⊗ D') ≐ (A ⊗ B') ⊗ (D ⊗ D') ⊕ (C ⊗ D') ⊗ (B ⊗ B')) refl in
      let r = ring6 a' b c' d b' d' (λ A B C D B' D'. (A ⊗ D' ⊕ C ⊗ B') ⊗ (B ⊗ D) ≐ (A ⊗ B) ⊗ (D ⊗ D') ⊕ (C ⊗ D) ⊗ (B ⊗ B')) refl in
      cc

  pub product_same : (a *ℤ c) *ℤ (b' *ℤ d') ≡ (a' *ℤ c') *ℤ (b *ℤ d)
  product_same =
      let l = ring4 a c b' d' (λ A C B D. (A ⊗ C) ⊗ (B ⊗ D) ≐ (A ⊗ B) ⊗ (C ⊗ D)) refl in
      let r = ring4 a' c' b d (λ A C B D. (A ⊗ C) ⊗ (B ⊗ D) ≐ (A ⊗ B) ⊗ (C ⊗ D)) refl in
      cc

  order_same : pos 0 <ℤ b → pos 0 <ℤ d → pos 0 <ℤ b' → pos 0 <ℤ d' → (a *ℤ d) ≤ℤ (c *ℤ b) → (a' *ℤ d') ≤ℤ (c' *ℤ b')
  order_same hb hd hb' hd' h =
      let s : pos 0 <ℤ (b *ℤ d) = product_pos b d hb hd in
      let t : pos 0 <ℤ (b' *ℤ d') = product_pos b' d' hb' hd' in
      let m = ≤ℤ-mul (a *ℤ d) (c *ℤ b) (b' *ℤ d') h (omega (arith, linear)) in
      let l₁ = ring4 a d b' d' (λ A D B' D'. (A ⊗ D) ⊗ (B' ⊗ D') ≐ (A ⊗ B') ⊗ (D ⊗ D')) refl in
      let l₂ = ring4 a' d' b d (λ A D' B D. (A ⊗ D') ⊗ (B ⊗ D) ≐ (A ⊗ B) ⊗ (D ⊗ D')) refl in
      let r₁ = ring4 c b b' d' (λ C B B' D'. (C ⊗ B) ⊗ (B' ⊗ D') ≐ (C ⊗ D') ⊗ (B ⊗ B')) refl in
      let r₂ = ring4 c' b' b d (λ C B' B D. (C ⊗ B') ⊗ (B ⊗ D) ≐ (C ⊗ D) ⊗ (B ⊗ B')) refl in
      let e₁ : (a *ℤ d) *ℤ (b' *ℤ d') ≡ (a' *ℤ d') *ℤ (b *ℤ d) = cc in
      let e₂ : (c *ℤ b) *ℤ (b' *ℤ d') ≡ (c' *ℤ b') *ℤ (b *ℤ d) = cc in
      ≤ℤ_cancel (a' *ℤ d') (c' *ℤ b') (b *ℤ d) s (rw (e₁, e₂) at m)

same_trans : (a b c d e f : ℤ) → pos 0 <ℤ d → a *ℤ d ≡ c *ℤ b → c *ℤ f ≡ e *ℤ d → a *ℤ f ≡ e *ℤ b
same_trans a b c d e f h p q =
    let l = ring3 a d f (λ A D F. (A ⊗ F) ⊗ D ≐ (A ⊗ D) ⊗ F) refl in
    let m = ring3 c b f (λ C B F. (C ⊗ B) ⊗ F ≐ (C ⊗ F) ⊗ B) refl in
    let r = ring3 e b d (λ E B D. (E ⊗ D) ⊗ B ≐ (E ⊗ B) ⊗ D) refl in
    let k : (a *ℤ f) *ℤ d ≡ (e *ℤ b) *ℤ d = cc in
    ≡_cancel (a *ℤ f) (e *ℤ b) d h k

-- ---- and for fractions
pub den_pos : (u : Fraction) → pos 0 <ℤ pos u.den
den_pos u = let h = u.positive in omega (arith, ints)

pub ≃_refl : (u : Fraction) → u ≃ u
≃_refl u = refl

pub ≃_sym : (u v : Fraction) → u ≃ v → v ≃ u
≃_sym u v e = sym e

pub ≃_trans : (u v w : Fraction) → u ≃ v → v ≃ w → u ≃ w
≃_trans u v w p q = same_trans u.num (pos u.den) v.num (pos v.den) w.num (pos w.den) (den_pos v) p q

pub plus-≃ : (u u' v v' : Fraction) → u ≃ u' → v ≃ v' → plus u v ≃ plus u' v'
plus-≃ u u' v v' p q = sum_same u.num (pos u.den) u'.num (pos u'.den) v.num (pos v.den) v'.num (pos v'.den) p q

pub times-≃ : (u u' v v' : Fraction) → u ≃ u' → v ≃ v' → times u v ≃ times u' v'
times-≃ u u' v v' p q = product_same u.num (pos u.den) u'.num (pos u'.den) v.num (pos v.den) v'.num (pos v'.den) p q

pub ≼-≃ : (u u' v v' : Fraction) → u ≃ u' → v ≃ v' → u ≼ v → u' ≼ v'
≼-≃ u u' v v' p q h = order_same u.num (pos u.den) u'.num (pos u'.den) v.num (pos v.den) v'.num (pos v'.den) p q (den_pos u) (den_pos v) (den_pos u') (den_pos v') h

-- ---- the other operations
pub negated-≃ : (u u' : Fraction) → u ≃ u' → negated u ≃ negated u'
negated-≃ u u' p =
    let l = ring2 u.num (pos u'.den) (λ A B. ⊖ A ⊗ B ≐ ⊖ (A ⊗ B)) refl in
    let r = ring2 u'.num (pos u.den) (λ A B. ⊖ A ⊗ B ≐ ⊖ (A ⊗ B)) refl in
    l ∙ ap neg_ℤ p ∙ sym r

pub absolute-≃ : (u u' : Fraction) → u ≃ u' → absolute u ≃ absolute u'
absolute-≃ u u' p = ap pos (sym (unsigned_abs-mul u.num (pos u'.den)) ∙ ap nat_abs p ∙ unsigned_abs-mul u'.num (pos u.den))

pub less-≃ : (u u' v v' : Fraction) → u ≃ u' → v ≃ v' → less u v ≡ less u' v'
less-≃ u u' v v' p q = by_lt_z X Y
    (λ h. by_lt_z X' Y' (λ k. omega_true X Y h ∙ sym (omega_true X' Y' k)) (λ k. absurd (clash_ℤ h (≼-≃ v' v u' u (sym q) (sym p) k))))
    (λ h. by_lt_z X' Y' (λ k. absurd (clash_ℤ k (≼-≃ v v' u u' q p h))) (λ k. omega_false X Y h ∙ sym (omega_false X' Y' k)))
  where
    X : ℤ
    X = u.num *ℤ pos v.den

    Y : ℤ
    Y = v.num *ℤ pos u.den

    X' : ℤ
    X' = u'.num *ℤ pos v'.den

    Y' : ℤ
    Y' = v'.num *ℤ pos u'.den

    omega_true : (a b : ℤ) → a <ℤ b → lt_z a b ≡ true
    omega_true a b h = grind (arith, ints)

    omega_false : (a b : ℤ) → b ≤ℤ a → lt_z a b ≡ false
    omega_false a b h = grind (arith, ints)

by_test : (t : Bool) (u u' v v' : Fraction) → u ≃ u' → v ≃ v' → cond t v u ≃ cond t v' u'
by_test true u u' v v' p q = q
by_test false u u' v v' p q = p

pub larger-≃ : (u u' v v' : Fraction) → u ≃ u' → v ≃ v' → larger u v ≃ larger u' v'
larger-≃ u u' v v' p q = subst (λ (t : Bool). larger u v ≃ cond t v' u') (less-≃ u u' v v' p q) (by_test (less u v) u u' v v' p q)

pub minus-≃ : (u u' v v' : Fraction) → u ≃ u' → v ≃ v' → minus u v ≃ minus u' v'
minus-≃ u u' v v' p q = plus-≃ u u' (negated v) (negated v') p (negated-≃ v v' q)

-- ---- the order
pub ≼_refl : (u : Fraction) → u ≼ u
≼_refl u = omega (arith, linear)

pub ≃-≼ : (u v : Fraction) → u ≃ v → u ≼ v
≃-≼ u v e = omega (arith, linear)

pub ≺-≼ : (u v : Fraction) → u ≺ v → u ≼ v
≺-≼ u v h = omega (arith, linear)

pub ≼_antisym : (u v : Fraction) → u ≼ v → v ≼ u → u ≃ v
≼_antisym u v h k = omega (arith, linear)

pub ≼_or_≺ : {X : Type 0} (u v : Fraction) → (u ≼ v → X) → (v ≺ u → X) → X
≼_or_≺ u v f g = by_order (u.num *ℤ pos v.den) (v.num *ℤ pos u.den) f g

order_trans : (a b c d e f : ℤ) → pos 0 <ℤ b → pos 0 <ℤ d → pos 0 <ℤ f → (a *ℤ d) ≤ℤ (c *ℤ b) → (c *ℤ f) ≤ℤ (e *ℤ d) → (a *ℤ f) ≤ℤ (e *ℤ b)
order_trans a b c d e f hb hd hf h k =
    let m = ≤ℤ-mul (a *ℤ d) (c *ℤ b) f h (omega (arith, linear)) in
    let n = ≤ℤ-mul (c *ℤ f) (e *ℤ d) b k (omega (arith, linear)) in
    let p = ring3 a d f (λ A D F. (A ⊗ D) ⊗ F ≐ (A ⊗ F) ⊗ D) refl in
    let q = ring3 c b f (λ C B F. (C ⊗ B) ⊗ F ≐ (C ⊗ F) ⊗ B) refl in
    let r = ring3 e b d (λ E B D. (E ⊗ D) ⊗ B ≐ (E ⊗ B) ⊗ D) refl in
    ≤ℤ_cancel (a *ℤ f) (e *ℤ b) d hd (omega (arith, linear))

pub ≼_trans : (u v w : Fraction) → u ≼ v → v ≼ w → u ≼ w
≼_trans u v w h k = order_trans u.num (pos u.den) v.num (pos v.den) w.num (pos w.den) (den_pos u) (den_pos v) (den_pos w) h k
