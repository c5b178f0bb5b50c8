-- The straight line through two knots: it goes through both, and rises or falls all the way.
use Rattle.std.proofs.Common.{◌≡◌, max, ℤ, pos, ◌+ℤ◌, ◌-ℤ◌, ◌*ℤ◌, nat_abs, ◌≤ℤ◌, ◌<ℤ◌, sym, refl, ap, ◌∙◌, arith}
use borrow.Author.Differences.{ints}
use Rattle.exact.specs.Fraction.{Fraction, whole, ◌≃◌, ◌≼◌}
use Rattle.exact.proofs.Integers.{linear, product_nonneg, ≤ℤ-mul, ≤ℤ-mul-neg}
use Rattle.exact.proofs.Ring.{lit, ◌⊕◌, ◌⊗◌, ◌⊝◌, ◌≐◌, ring4, ring5, ring8}
use Rattle.knots.specs.declared.knots.Knot.{Knot}
use Rattle.knots.specs.Values.{stretch, line}

-- the way to the next knot is the difference of the two openings
pub stretch_is : (k l : Knot) → k.x <ℤ l.x → pos (stretch k l) ≡ l.x -ℤ k.x
stretch_is k l h = by (l.x -ℤ k.x) (omega (arith, ints))
  where
    by : (d : ℤ) → pos 0 <ℤ d → pos (max 1 (nat_abs d)) ≡ d
    by (pos n) h = ap pos (omega (arith, ints))
    by (lib.IntN.negsuc n) h = absurd h.lt

pub line_at_left : (k l : Knot) → line k l (whole k.x) ≃ whole k.y
line_at_left k l = ring4 k.x k.y l.y (pos (stretch k l)) (λ X Y Z S. (Y ⊗ (S ⊗ lit (pos 1)) ⊕ (Z ⊝ Y) ⊗ (X ⊝ X ⊗ lit (pos 1))) ⊗ lit (pos 1) ≐ Y ⊗ (S ⊗ lit (pos 1))) refl

pub line_at_right : (k l : Knot) → k.x <ℤ l.x → line k l (whole l.x) ≃ whole l.y
line_at_right k l h =
    let e = stretch_is k l h in
    let r = ring5 k.x k.y l.x l.y (pos (stretch k l)) (λ X Y U V S. (Y ⊗ (S ⊗ lit (pos 1)) ⊕ (V ⊝ Y) ⊗ (U ⊝ X ⊗ lit (pos 1))) ⊗ lit (pos 1) ≐ Y ⊗ S ⊕ (V ⊝ Y) ⊗ (U ⊝ X)) refl in
    let s : k.y *ℤ pos (stretch k l) +ℤ (l.y -ℤ k.y) *ℤ (l.x -ℤ k.x) ≡ k.y *ℤ pos (stretch k l) +ℤ (l.y -ℤ k.y) *ℤ pos (stretch k l) = ap (λ (d : ℤ). k.y *ℤ pos (stretch k l) +ℤ (l.y -ℤ k.y) *ℤ d) (sym e) in
    let t = ring4 k.y l.y (pos (stretch k l)) (pos 1) (λ Y V S O. Y ⊗ S ⊕ (V ⊝ Y) ⊗ S ≐ V ⊗ (S ⊗ lit (pos 1))) refl in
    r ∙ s ∙ t

-- over whole numbers: with a + b·(n/d − x)/s at n/d and at m/e, cross-multiplied
module _ (a b s x n d m e : ℤ) where
  at_first : (a *ℤ (s *ℤ d) +ℤ b *ℤ (n -ℤ x *ℤ d)) *ℤ (s *ℤ e) ≡ (n *ℤ e) *ℤ (b *ℤ s) +ℤ (a *ℤ s -ℤ b *ℤ x) *ℤ (d *ℤ (s *ℤ e))
  at_first = ring8 a b s x n d m e (λ A B S X N D M E. (A ⊗ (S ⊗ D) ⊕ B ⊗ (N ⊝ X ⊗ D)) ⊗ (S ⊗ E) ≐ (N ⊗ E) ⊗ (B ⊗ S) ⊕ (A ⊗ S ⊝ B ⊗ X) ⊗ (D ⊗ (S ⊗ E))) refl

  at_second : (a *ℤ (s *ℤ e) +ℤ b *ℤ (m -ℤ x *ℤ e)) *ℤ (s *ℤ d) ≡ (m *ℤ d) *ℤ (b *ℤ s) +ℤ (a *ℤ s -ℤ b *ℤ x) *ℤ (d *ℤ (s *ℤ e))
  at_second = ring8 a b s x n d m e (λ A B S X N D M E. (A ⊗ (S ⊗ E) ⊕ B ⊗ (M ⊝ X ⊗ E)) ⊗ (S ⊗ D) ≐ (M ⊗ D) ⊗ (B ⊗ S) ⊕ (A ⊗ S ⊝ B ⊗ X) ⊗ (D ⊗ (S ⊗ E))) refl

  rises : pos 0 ≤ℤ s → pos 0 ≤ℤ b → (n *ℤ e) ≤ℤ (m *ℤ d) → ((a *ℤ (s *ℤ d) +ℤ b *ℤ (n -ℤ x *ℤ d)) *ℤ (s *ℤ e)) ≤ℤ ((a *ℤ (s *ℤ e) +ℤ b *ℤ (m -ℤ x *ℤ e)) *ℤ (s *ℤ d))
  rises hs hb h = let p = ≤ℤ-mul (n *ℤ e) (m *ℤ d) (b *ℤ s) h (product_nonneg b s hb hs) in omega (arith, linear, at_first, at_second)

  falls : pos 0 ≤ℤ s → b ≤ℤ pos 0 → (n *ℤ e) ≤ℤ (m *ℤ d) → ((a *ℤ (s *ℤ e) +ℤ b *ℤ (m -ℤ x *ℤ e)) *ℤ (s *ℤ d)) ≤ℤ ((a *ℤ (s *ℤ d) +ℤ b *ℤ (n -ℤ x *ℤ d)) *ℤ (s *ℤ e))
  falls hs hb h =
      let z = ≤ℤ-mul b (pos 0) s hb hs in
      let p = ≤ℤ-mul-neg (n *ℤ e) (m *ℤ d) (b *ℤ s) h (omega (arith, ints)) in
      omega (arith, linear, at_first, at_second)

pub line_rises : (k l : Knot) (p x : Fraction) → k.y ≤ℤ l.y → p ≼ x → line k l p ≼ line k l x
line_rises k l p x h i = rises k.y (l.y -ℤ k.y) (pos (stretch k l)) k.x p.num (pos p.den) x.num (pos x.den) (omega (arith, ints)) (omega (arith, ints)) i

pub line_falls : (k l : Knot) (p x : Fraction) → l.y ≤ℤ k.y → p ≼ x → line k l x ≼ line k l p
line_falls k l p x h i = falls k.y (l.y -ℤ k.y) (pos (stretch k l)) k.x p.num (pos p.den) x.num (pos x.den) (omega (arith, ints)) (omega (arith, ints)) i
