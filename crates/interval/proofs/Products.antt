-- Sums and products of enclosed fractions are enclosed.
use Rattle.std.proofs.Common.{ℤ, pos, ◌+ℤ◌, ◌*ℤ◌, neg_ℤ, ◌≤ℤ◌, ◌<ℤ◌, refl, arith}
use borrow.Author.Differences.{ints}
use Rattle.std.proofs.lemmas.Int.{clamps}
use Rattle.exact.proofs.Integers.{linear, product_pos, ≤ℤ-mul, ≤ℤ-mul-neg, ≤ℤ_cancel, by_order}
use Rattle.exact.proofs.Ring.{lit, ◌⊕◌, ◌⊗◌, ⊖◌, ◌≐◌, ring2, ring3, ring4}
use Rattle.exact.proofs.Fractions.{den_pos}
use Rattle.exact.proofs.Rounding.{floor_is, ceiling_is}
use Rattle.exact.specs.Fraction.{Fraction, plus, times}
use Rattle.exact.specs.Rounding.{floor, ceiling}
use Rattle.interval.specs.Rules.{least, greatest, low_product, high_product}
use Rattle.interval.specs.Meaning.{Between}

-- ---- the sum
sum_low : (a d x y s t : ℤ) → pos 0 <ℤ s → pos 0 <ℤ t → (a *ℤ s) ≤ℤ (pos 1000 *ℤ x) → (d *ℤ t) ≤ℤ (pos 1000 *ℤ y) → ((a +ℤ d) *ℤ (s *ℤ t)) ≤ℤ (pos 1000 *ℤ (x *ℤ t +ℤ y *ℤ s))
sum_low a d x y s t hs ht p q =
    let m = ≤ℤ-mul (a *ℤ s) (pos 1000 *ℤ x) t p (omega (arith, linear)) in
    let n = ≤ℤ-mul (d *ℤ t) (pos 1000 *ℤ y) s q (omega (arith, linear)) in
    let l = ring4 a d s t (λ A D S T. (A ⊕ D) ⊗ (S ⊗ T) ≐ (A ⊗ S) ⊗ T ⊕ (D ⊗ T) ⊗ S) refl in
    let r = ring4 x y s t (λ X Y S T. lit (pos 1000) ⊗ (X ⊗ T ⊕ Y ⊗ S) ≐ (lit (pos 1000) ⊗ X) ⊗ T ⊕ (lit (pos 1000) ⊗ Y) ⊗ S) refl in
    omega (arith, linear)

sum_high : (b e x y s t : ℤ) → pos 0 <ℤ s → pos 0 <ℤ t → (pos 1000 *ℤ x) ≤ℤ (b *ℤ s) → (pos 1000 *ℤ y) ≤ℤ (e *ℤ t) → (pos 1000 *ℤ (x *ℤ t +ℤ y *ℤ s)) ≤ℤ ((b +ℤ e) *ℤ (s *ℤ t))
sum_high a d x y s t hs ht p q =
    let m = ≤ℤ-mul (pos 1000 *ℤ x) (a *ℤ s) t p (omega (arith, linear)) in
    let n = ≤ℤ-mul (pos 1000 *ℤ y) (d *ℤ t) s q (omega (arith, linear)) in
    let l = ring4 a d s t (λ A D S T. (A ⊕ D) ⊗ (S ⊗ T) ≐ (A ⊗ S) ⊗ T ⊕ (D ⊗ T) ⊗ S) refl in
    let r = ring4 x y s t (λ X Y S T. lit (pos 1000) ⊗ (X ⊗ T ⊕ Y ⊗ S) ≐ (lit (pos 1000) ⊗ X) ⊗ T ⊕ (lit (pos 1000) ⊗ Y) ⊗ S) refl in
    omega (arith, linear)

pub between_plus : (a b d e : ℤ) (u v : Fraction) → Between a b u → Between d e v → Between (a +ℤ d) (b +ℤ e) (plus u v)
between_plus a b d e u v p q = (
  sum_low a d u.num v.num (pos u.den) (pos v.den) (den_pos u) (den_pos v) p.0 q.0,
  sum_high b e u.num v.num (pos u.den) (pos v.den) (den_pos u) (den_pos v) p.1 q.1,
)

-- ---- the product
-- what is linear in y is least at an end: lo·t ≤ y ≤ hi·t
pub corner : (k lo hi y t m : ℤ) → pos 0 <ℤ t → (lo *ℤ t) ≤ℤ y → y ≤ℤ (hi *ℤ t) → m ≤ℤ (k *ℤ lo) → m ≤ℤ (k *ℤ hi) → (m *ℤ t) ≤ℤ (k *ℤ y)
corner k lo hi y t m ht p q f g = by_order (pos 0) k
    (λ h.
    let i = ≤ℤ-mul (lo *ℤ t) y k p h in
    let j = ≤ℤ-mul m (k *ℤ lo) t f (omega (arith, linear)) in
    let e = ring3 k lo t (λ K L T. (K ⊗ L) ⊗ T ≐ (L ⊗ T) ⊗ K) refl in
    let c = ring2 k y (λ K Y. K ⊗ Y ≐ Y ⊗ K) refl in
    omega (arith, linear))
    (λ h.
    let i = ≤ℤ-mul-neg y (hi *ℤ t) k q (omega (arith, linear)) in
    let j = ≤ℤ-mul m (k *ℤ hi) t g (omega (arith, linear)) in
    let e = ring3 k hi t (λ K L T. (K ⊗ L) ⊗ T ≐ (L ⊗ T) ⊗ K) refl in
    let c = ring2 k y (λ K Y. K ⊗ Y ≐ Y ⊗ K) refl in
    omega (arith, linear))

-- a·s ≤ x ≤ b·s and d·t ≤ y ≤ e·t: m·s·t ≤ x·y, for m below the four products
product_low : (a b d e x y s t m : ℤ) → pos 0 <ℤ s → pos 0 <ℤ t → (a *ℤ s) ≤ℤ x → x ≤ℤ (b *ℤ s) → (d *ℤ t) ≤ℤ y → y ≤ℤ (e *ℤ t)
    → m ≤ℤ (a *ℤ d) → m ≤ℤ (a *ℤ e) → m ≤ℤ (b *ℤ d) → m ≤ℤ (b *ℤ e) → ((m *ℤ t) *ℤ s) ≤ℤ (x *ℤ y)
product_low a b d e x y s t m hs ht p q p' q' f g f' g' =
    let i = corner a d e y t m ht p' q' f g in
    let j = corner b d e y t m ht p' q' f' g' in
    let c = ring2 a y (λ A Y. A ⊗ Y ≐ Y ⊗ A) refl in
    let c' = ring2 b y (λ A Y. A ⊗ Y ≐ Y ⊗ A) refl in
    let l = corner y a b x s (m *ℤ t) hs p q (omega (arith, linear)) (omega (arith, linear)) in
    let r = ring2 x y (λ A Y. A ⊗ Y ≐ Y ⊗ A) refl in
    omega (arith, linear)

-- the same from above, by negation
product_high : (a b d e x y s t m : ℤ) → pos 0 <ℤ s → pos 0 <ℤ t → (a *ℤ s) ≤ℤ x → x ≤ℤ (b *ℤ s) → (d *ℤ t) ≤ℤ y → y ≤ℤ (e *ℤ t)
    → (a *ℤ d) ≤ℤ m → (a *ℤ e) ≤ℤ m → (b *ℤ d) ≤ℤ m → (b *ℤ e) ≤ℤ m → (x *ℤ y) ≤ℤ ((m *ℤ t) *ℤ s)
product_high a b d e x y s t m hs ht p q p' q' f g f' g' =
    let n = λ (z w : ℤ). ring2 z w (λ Z W. ⊖ Z ⊗ W ≐ ⊖ (Z ⊗ W)) refl in
    let k = product_low (neg_ℤ b) (neg_ℤ a) d e (neg_ℤ x) y s t (neg_ℤ m) hs ht (omega (arith, linear, n b s)) (omega (arith, linear, n a s)) p' q'
    (omega (arith, linear, n b d)) (omega (arith, linear, n b e)) (omega (arith, linear, n a d)) (omega (arith, linear, n a e)) in
    let r = ring3 m t s (λ M T S. (⊖ M ⊗ T) ⊗ S ≐ ⊖ ((M ⊗ T) ⊗ S)) refl in
    omega (arith, linear, n x y)

-- ---- rounding
pub least_below : (a b c d : ℤ) → (least a b c d ≤ℤ a) × (least a b c d ≤ℤ b) × (least a b c d ≤ℤ c) × (least a b c d ≤ℤ d)
least_below a b c d = (omega (arith, ints, clamps), omega (arith, ints, clamps), omega (arith, ints, clamps), omega (arith, ints, clamps))

pub greatest_above : (a b c d : ℤ) → (a ≤ℤ greatest a b c d) × (b ≤ℤ greatest a b c d) × (c ≤ℤ greatest a b c d) × (d ≤ℤ greatest a b c d)
greatest_above a b c d = (omega (arith, ints, clamps), omega (arith, ints, clamps), omega (arith, ints, clamps), omega (arith, ints, clamps))

-- q is m / 1000 rounded down, and 1000x, 1000y have the product m bounds
scaled_low : (q m x y s t : ℤ) → pos 0 <ℤ s → pos 0 <ℤ t → (q *ℤ pos 1000) ≤ℤ m → ((m *ℤ t) *ℤ s) ≤ℤ ((pos 1000 *ℤ x) *ℤ (pos 1000 *ℤ y)) → (q *ℤ (s *ℤ t)) ≤ℤ (pos 1000 *ℤ (x *ℤ y))
scaled_low q m x y s t hs ht h k =
    let st = product_pos s t hs ht in
    let i = ≤ℤ-mul (q *ℤ pos 1000) m (s *ℤ t) h (omega (arith, linear)) in
    let e = ring3 m s t (λ M S T. (M ⊗ T) ⊗ S ≐ M ⊗ (S ⊗ T)) refl in
    let f = ring2 x y (λ X Y. (lit (pos 1000) ⊗ X) ⊗ (lit (pos 1000) ⊗ Y) ≐ lit (pos 1000) ⊗ (X ⊗ Y) ⊗ lit (pos 1000)) refl in
    let g = ring3 q s t (λ Q S T. (Q ⊗ lit (pos 1000)) ⊗ (S ⊗ T) ≐ Q ⊗ (S ⊗ T) ⊗ lit (pos 1000)) refl in
    ≤ℤ_cancel (q *ℤ (s *ℤ t)) (pos 1000 *ℤ (x *ℤ y)) (pos 1000) (record { lt = tt }) (omega (arith, linear))

scaled_high : (q m x y s t : ℤ) → pos 0 <ℤ s → pos 0 <ℤ t → m ≤ℤ (q *ℤ pos 1000) → ((pos 1000 *ℤ x) *ℤ (pos 1000 *ℤ y)) ≤ℤ ((m *ℤ t) *ℤ s) → (pos 1000 *ℤ (x *ℤ y)) ≤ℤ (q *ℤ (s *ℤ t))
scaled_high q m x y s t hs ht h k =
    let st = product_pos s t hs ht in
    let i = ≤ℤ-mul m (q *ℤ pos 1000) (s *ℤ t) h (omega (arith, linear)) in
    let e = ring3 m s t (λ M S T. (M ⊗ T) ⊗ S ≐ M ⊗ (S ⊗ T)) refl in
    let f = ring2 x y (λ X Y. (lit (pos 1000) ⊗ X) ⊗ (lit (pos 1000) ⊗ Y) ≐ lit (pos 1000) ⊗ (X ⊗ Y) ⊗ lit (pos 1000)) refl in
    let g = ring3 q s t (λ Q S T. (Q ⊗ lit (pos 1000)) ⊗ (S ⊗ T) ≐ Q ⊗ (S ⊗ T) ⊗ lit (pos 1000)) refl in
    ≤ℤ_cancel (pos 1000 *ℤ (x *ℤ y)) (q *ℤ (s *ℤ t)) (pos 1000) (record { lt = tt }) (omega (arith, linear))

pub between_times : (a b d e : ℤ) (u v : Fraction) → Between a b u → Between d e v
    → Between (low_product a b d e) (high_product a b d e) (times u v)
between_times a b d e u v p q =
    let s = pos u.den in
    let t = pos v.den in
    let x = pos 1000 *ℤ u.num in
    let y = pos 1000 *ℤ v.num in
    let m = least (a *ℤ d) (a *ℤ e) (b *ℤ d) (b *ℤ e) in
    let M = greatest (a *ℤ d) (a *ℤ e) (b *ℤ d) (b *ℤ e) in
    let lb = least_below (a *ℤ d) (a *ℤ e) (b *ℤ d) (b *ℤ e) in
    let ga = greatest_above (a *ℤ d) (a *ℤ e) (b *ℤ d) (b *ℤ e) in
    let low = product_low a b d e x y s t m (den_pos u) (den_pos v) p.0 p.1 q.0 q.1 lb.0 lb.1 lb.2 lb.3 in
    let high = product_high a b d e x y s t M (den_pos u) (den_pos v) p.0 p.1 q.0 q.1 ga.0 ga.1 ga.2 ga.3 in (
      scaled_low (floor m (pos 1000)) m u.num v.num s t (den_pos u) (den_pos v) ((floor_is m (pos 1000)).above (record { lt = tt })).0 low,
      scaled_high (ceiling M (pos 1000)) M u.num v.num s t (den_pos u) (den_pos v) ((ceiling_is M (pos 1000)).above (record { lt = tt })).1 high,
    )
