-- The quotient of two enclosed fractions is enclosed.
use Rattle.std.proofs.Common.{◌≡◌, ℕ, zero, suc, ◌*◌, ◌<◌, ℤ, pos, negsuc, ◌*ℤ◌, neg_ℤ, ◌≤ℤ◌, ◌<ℤ◌, refl, subst, arith}
use borrow.Author.Differences.{ints}
use Rattle.exact.proofs.Integers.{linear, ≤ℤ-mul, ≤ℤ-mul-neg, ≤ℤ_cancel, neg-*ℤ}
use Rattle.exact.proofs.Ring.{lit, ◌⊗◌, ⊖◌, ◌≐◌, ring2, ring3}
use Rattle.exact.proofs.Fractions.{den_pos}
use Rattle.exact.proofs.Rounding.{floor_is, ceiling_is}
use Rattle.exact.specs.Fraction.{Fraction}
use Rattle.exact.specs.Value.{over, divided}
use Rattle.exact.specs.Rounding.{floor, ceiling}
use Rattle.interval.specs.declared.enclosures.Enclosure.TheVariants.{Bounds}
use Rattle.interval.specs.Rules.{low_quotient, high_quotient}
use Rattle.interval.specs.Meaning.{Between, Holds}
use Rattle.interval.proofs.OneEnd.{ends_ordered, low_pos, high_neg, between_negated}
use Rattle.interval.proofs.Products.{corner, least_below, greatest_above}

-- ---- a/s below x/s, y between d and e, and lo·d and lo·e at most 1000·a: lo is at most 1000·(x/s)/(y/t)
quotient_low : (a d e lo x y s t : ℤ) → pos 0 <ℤ s → pos 0 <ℤ t → (a *ℤ s) ≤ℤ (pos 1000 *ℤ x) → (d *ℤ t) ≤ℤ (pos 1000 *ℤ y) → (pos 1000 *ℤ y) ≤ℤ (e *ℤ t)
    → (lo *ℤ d) ≤ℤ (pos 1000 *ℤ a) → (lo *ℤ e) ≤ℤ (pos 1000 *ℤ a) → (lo *ℤ (s *ℤ y)) ≤ℤ (pos 1000 *ℤ (x *ℤ t))
quotient_low a d e lo x y s t hs ht p q r f g =
    let n = λ (z w : ℤ). ring2 z w (λ Z W. ⊖ Z ⊗ W ≐ ⊖ (Z ⊗ W)) refl in
    let c = corner (neg_ℤ lo) d e (pos 1000 *ℤ y) t (neg_ℤ (pos 1000 *ℤ a)) ht q r (omega (arith, linear, n lo d)) (omega (arith, linear, n lo e)) in
    let m : (lo *ℤ (pos 1000 *ℤ y)) ≤ℤ ((pos 1000 *ℤ a) *ℤ t) = omega (arith, linear, c, n lo (pos 1000 *ℤ y), n (pos 1000 *ℤ a) t) in
    let ms = ≤ℤ-mul (lo *ℤ (pos 1000 *ℤ y)) ((pos 1000 *ℤ a) *ℤ t) s m (omega (arith, linear)) in
    let xs = ≤ℤ-mul (a *ℤ s) (pos 1000 *ℤ x) (pos 1000 *ℤ t) p (omega (arith, ints)) in
    let e₁ = ring3 lo y s (λ L Y S. (L ⊗ (lit (pos 1000) ⊗ Y)) ⊗ S ≐ L ⊗ (S ⊗ Y) ⊗ lit (pos 1000)) refl in
    let e₂ = ring3 a s t (λ A S T. ((lit (pos 1000) ⊗ A) ⊗ T) ⊗ S ≐ (A ⊗ S) ⊗ (lit (pos 1000) ⊗ T)) refl in
    let e₃ = ring2 x t (λ X T. (lit (pos 1000) ⊗ X) ⊗ (lit (pos 1000) ⊗ T) ≐ lit (pos 1000) ⊗ (X ⊗ T) ⊗ lit (pos 1000)) refl in
    ≤ℤ_cancel (lo *ℤ (s *ℤ y)) (pos 1000 *ℤ (x *ℤ t)) (pos 1000) (record { lt = tt }) (omega (arith, linear))

quotient_high : (b d e hi x y s t : ℤ) → pos 0 <ℤ s → pos 0 <ℤ t → (pos 1000 *ℤ x) ≤ℤ (b *ℤ s) → (d *ℤ t) ≤ℤ (pos 1000 *ℤ y) → (pos 1000 *ℤ y) ≤ℤ (e *ℤ t)
    → (pos 1000 *ℤ b) ≤ℤ (hi *ℤ d) → (pos 1000 *ℤ b) ≤ℤ (hi *ℤ e) → (pos 1000 *ℤ (x *ℤ t)) ≤ℤ (hi *ℤ (s *ℤ y))
quotient_high b d e hi x y s t hs ht p q r f g =
    let n = λ (z w : ℤ). ring2 z w (λ Z W. ⊖ Z ⊗ W ≐ ⊖ (Z ⊗ W)) refl in
    let k = λ (z : ℤ). ring2 z z (λ Z W. lit (pos 1000) ⊗ ⊖ Z ≐ ⊖ (lit (pos 1000) ⊗ Z)) refl in
    let c = quotient_low (neg_ℤ b) d e (neg_ℤ hi) (neg_ℤ x) y s t hs ht (omega (arith, linear, n b s, k x)) q r (omega (arith, linear, n hi d, k b)) (omega (arith, linear, n hi e, k b)) in
    let l = ring2 x t (λ X T. lit (pos 1000) ⊗ (⊖ X ⊗ T) ≐ ⊖ (lit (pos 1000) ⊗ (X ⊗ T))) refl in
    omega (arith, linear, c, n hi (s *ℤ y), l)

-- ---- fractions, by a positive divisor n/t
over_pos : (a b d e lo hi : ℤ) (u : Fraction) (n : ℤ) (t : ℕ) → 0 < t → pos 0 <ℤ n → Between a b u → (d *ℤ pos t) ≤ℤ (pos 1000 *ℤ n) → (pos 1000 *ℤ n) ≤ℤ (e *ℤ pos t)
    → (lo *ℤ d) ≤ℤ (pos 1000 *ℤ a) → (lo *ℤ e) ≤ℤ (pos 1000 *ℤ a) → (pos 1000 *ℤ b) ≤ℤ (hi *ℤ d) → (pos 1000 *ℤ b) ≤ℤ (hi *ℤ e)
    → Holds (Bounds lo hi) (over u n t)
over_pos a b d e lo hi u (pos zero) t ht hn p q r f g f' g' = absurd hn.lt
over_pos a b d e lo hi u (pos (suc n)) t ht hn p q r f g f' g' =
    let tp : pos 0 <ℤ pos t = omega (arith, ints) in (
      quotient_low a d e lo u.num (pos (suc n)) (pos u.den) (pos t) (den_pos u) tp p.0 q r f g,
      quotient_high b d e hi u.num (pos (suc n)) (pos u.den) (pos t) (den_pos u) tp p.1 q r f' g',
    )
over_pos a b d e lo hi u (negsuc n) t ht hn p q r f g f' g' = absurd hn.lt

-- by a negative one: both turned round
over_neg : (a b d e lo hi : ℤ) (u : Fraction) (n : ℤ) (t : ℕ) → 0 < t → n <ℤ pos 0 → Between a b u → (d *ℤ pos t) ≤ℤ (pos 1000 *ℤ n) → (pos 1000 *ℤ n) ≤ℤ (e *ℤ pos t)
    → (pos 1000 *ℤ b) ≤ℤ (lo *ℤ d) → (pos 1000 *ℤ b) ≤ℤ (lo *ℤ e) → (hi *ℤ d) ≤ℤ (pos 1000 *ℤ a) → (hi *ℤ e) ≤ℤ (pos 1000 *ℤ a)
    → Holds (Bounds lo hi) (over u n t)
over_neg a b d e lo hi u (pos n) t ht hn p q r f g f' g' = absurd (omega (arith, ints))
over_neg a b d e lo hi u (negsuc n) t ht hn p q r f g f' g' =
    let tp : pos 0 <ℤ pos t = omega (arith, ints) in
    let m = between_negated a b u p in
    let N = λ (z w : ℤ). ring2 z w (λ Z W. ⊖ Z ⊗ W ≐ ⊖ (Z ⊗ W)) refl in
    let R = λ (z w : ℤ). ring2 z w (λ Z W. Z ⊗ ⊖ W ≐ ⊖ (Z ⊗ W)) refl in
    let y = pos (suc n) in
    let q' : (neg_ℤ e *ℤ pos t) ≤ℤ (pos 1000 *ℤ y) = omega (arith, linear, q, r, N e (pos t), R (pos 1000) (negsuc n)) in
    let r' : (pos 1000 *ℤ y) ≤ℤ (neg_ℤ d *ℤ pos t) = omega (arith, linear, q, r, N d (pos t), R (pos 1000) (negsuc n)) in
    let l = quotient_low (neg_ℤ b) (neg_ℤ e) (neg_ℤ d) lo (neg_ℤ u.num) y (pos u.den) (pos t) (den_pos u) tp m.0 q' r'
    (omega (arith, linear, R lo e, R (pos 1000) b)) (omega (arith, linear, R lo d, R (pos 1000) b)) in
    let h = quotient_high (neg_ℤ a) (neg_ℤ e) (neg_ℤ d) hi (neg_ℤ u.num) y (pos u.den) (pos t) (den_pos u) tp m.1 q' r'
    (omega (arith, linear, R hi e, R (pos 1000) a)) (omega (arith, linear, R hi d, R (pos 1000) a)) in
    let z : neg_ℤ u.num *ℤ pos t ≡ neg_ℤ (u.num *ℤ pos t) = neg-*ℤ u.num (pos t) in
    subst (λ (k : ℤ). ((lo *ℤ pos (u.den * suc n)) ≤ℤ (pos 1000 *ℤ k)) × ((pos 1000 *ℤ k) ≤ℤ (hi *ℤ pos (u.den * suc n)))) z (l, h)

-- ---- the four quotients
-- q at most a quotient that is at most n/d; and so on
at_most : (q f n d : ℤ) → pos 0 <ℤ d → q ≤ℤ f → (f *ℤ d) ≤ℤ n → (q *ℤ d) ≤ℤ n
at_most q f n d h k l = let m = ≤ℤ-mul q f d k (omega (arith, linear)) in omega (arith, linear)

at_least : (q f n d : ℤ) → pos 0 <ℤ d → f ≤ℤ q → n ≤ℤ (f *ℤ d) → n ≤ℤ (q *ℤ d)
at_least q f n d h k l = let m = ≤ℤ-mul f q d k (omega (arith, linear)) in omega (arith, linear)

at_most_neg : (q f n d : ℤ) → d <ℤ pos 0 → q ≤ℤ f → n ≤ℤ (f *ℤ d) → n ≤ℤ (q *ℤ d)
at_most_neg q f n d h k l = let m = ≤ℤ-mul-neg q f d k (omega (arith, linear)) in omega (arith, linear)

at_least-neg : (q f n d : ℤ) → d <ℤ pos 0 → f ≤ℤ q → (f *ℤ d) ≤ℤ n → (q *ℤ d) ≤ℤ n
at_least-neg q f n d h k l = let m = ≤ℤ-mul-neg f q d k (omega (arith, linear)) in omega (arith, linear)

module _ (a b d e : ℤ) (u v : Fraction) (p : Between a b u) (q : Between d e v) where
  pub quotient_pos : pos 0 <ℤ d → Holds (Bounds (low_quotient a b d e) (high_quotient a b d e)) (divided u v)
  quotient_pos hd =
      let lb = least_below (floor (pos 1000 *ℤ a) d) (floor (pos 1000 *ℤ a) e) (floor (pos 1000 *ℤ b) d) (floor (pos 1000 *ℤ b) e) in
      let ga = greatest_above (ceiling (pos 1000 *ℤ a) d) (ceiling (pos 1000 *ℤ a) e) (ceiling (pos 1000 *ℤ b) d) (ceiling (pos 1000 *ℤ b) e) in
      let o = ends_ordered d e v q in
      let he : pos 0 <ℤ e = omega (arith, linear) in
      over_pos a b d e (low_quotient a b d e) (high_quotient a b d e) u v.num v.den v.positive (low_pos v d hd q.0) p q.0 q.1
      (at_most _ _ _ d hd lb.0 ((floor_is (pos 1000 *ℤ a) d).above hd).0) (at_most _ _ _ e he lb.1 ((floor_is (pos 1000 *ℤ a) e).above he).0)
      (at_least _ _ _ d hd ga.2 ((ceiling_is (pos 1000 *ℤ b) d).above hd).1) (at_least _ _ _ e he ga.3 ((ceiling_is (pos 1000 *ℤ b) e).above he).1)

  pub quotient-neg : e <ℤ pos 0 → Holds (Bounds (low_quotient a b d e) (high_quotient a b d e)) (divided u v)
  quotient-neg he =
      let lb = least_below (floor (pos 1000 *ℤ a) d) (floor (pos 1000 *ℤ a) e) (floor (pos 1000 *ℤ b) d) (floor (pos 1000 *ℤ b) e) in
      let ga = greatest_above (ceiling (pos 1000 *ℤ a) d) (ceiling (pos 1000 *ℤ a) e) (ceiling (pos 1000 *ℤ b) d) (ceiling (pos 1000 *ℤ b) e) in
      let o = ends_ordered d e v q in
      let hd : d <ℤ pos 0 = omega (arith, linear) in
      over_neg a b d e (low_quotient a b d e) (high_quotient a b d e) u v.num v.den v.positive (high_neg v e he q.1) p q.0 q.1
      (at_most_neg _ _ _ d hd lb.2 ((floor_is (pos 1000 *ℤ b) d).below hd).0) (at_most_neg _ _ _ e he lb.3 ((floor_is (pos 1000 *ℤ b) e).below he).0)
      (at_least-neg _ _ _ d hd ga.0 ((ceiling_is (pos 1000 *ℤ a) d).below hd).1) (at_least-neg _ _ _ e he ga.1 ((ceiling_is (pos 1000 *ℤ a) e).below he).1)
