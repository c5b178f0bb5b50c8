-- Slopes of fractions: how the slope of a result follows from those of the operands, and the slope in between two.
use Rattle.std.proofs.Common.{◌≡◌, ℕ, zero, suc, ◌*◌, ◌<◌, ℤ, pos, negsuc, ◌*ℤ◌, neg_ℤ, ◌≤ℤ◌, ◌<ℤ◌, sym, refl, ap, ◌∙◌, mul-pos, arith}
use lib.Signed.{clash_ℤ}
use borrow.Author.Differences.{ints}
use Rattle.exact.specs.Fraction.{Fraction, ◌≃◌, ◌≼◌, ◌≺◌, plus, minus, negated, times, absolute, larger}
use Rattle.exact.specs.Value.{Value, none, some, over, divided}
use Rattle.exact.proofs.Integers.{linear, product_pos, product_nonneg, ≤ℤ-mul, ≤ℤ_cancel, ≡_cancel, *ℤ-neg, neg-*ℤ}
use Rattle.exact.proofs.Ring.{lit, ◌⊕◌, ◌⊗◌, ⊖◌, ◌≐◌, ring2, ring3, ring4, ring5, zero_by}
use Rattle.exact.proofs.Fractions.{den_pos, ≃_sym, ≃_trans, plus-≃, minus-≃, times-≃, negated-≃, ≼-≃, ≺-≼}
use Rattle.exact.proofs.FractionRing.{◌⊞◌, ◌⊟◌, ◌⊠◌, opp, ◌≑◌, fring2, fring3, fring4, fring5}
use Rattle.interval.specs.Meaning.{Between}
use Rattle.interval.proofs.OneEnd.{absolute_by, larger_by, low_≼, high_≼}

then2 : (u v w z : Fraction) → u ≃ v → v ≃ w → w ≃ z → u ≃ z
then2 u v w z p q r = ≃_trans u v z p (≃_trans v w z q r)

-- ---- f and f' are the values at the point and at the middle, s the slope between them
module _ (δ f f' s : Fraction) (p : minus f f' ≃ times s δ) where
  pub neg_slope_lem : minus (negated f) (negated f') ≃ times (negated s) δ
  neg_slope_lem = then2 (minus (negated f) (negated f')) (negated (minus f f')) (negated (times s δ)) (times (negated s) δ)
      (fring2 f f' (λ F F'. opp F ⊟ opp F' ≑ opp (F ⊟ F')) refl) (negated-≃ (minus f f') (times s δ) p) (fring2 s δ (λ S D. opp (S ⊠ D) ≑ opp S ⊠ D) refl)

  pub add_slope_lem : (g g' t : Fraction) → minus g g' ≃ times t δ → minus (plus f g) (plus f' g') ≃ times (plus s t) δ
  add_slope_lem g g' t q = then2 (minus (plus f g) (plus f' g')) (plus (minus f f') (minus g g')) (plus (times s δ) (times t δ)) (times (plus s t) δ)
      (fring4 f g f' g' (λ F G F' G'. F ⊞ G ⊟ (F' ⊞ G') ≑ F ⊟ F' ⊞ (G ⊟ G')) refl)
      (plus-≃ (minus f f') (times s δ) (minus g g') (times t δ) p q)
      (fring3 s t δ (λ S T D. S ⊠ D ⊞ T ⊠ D ≑ (S ⊞ T) ⊠ D) refl)

  -- f(x)·g(x) − f(c)·g(c) = f(x)·(g(x) − g(c)) + (f(x) − f(c))·g(c)
  pub mul_slope_lem : (g g' t : Fraction) → minus g g' ≃ times t δ → minus (times f g) (times f' g') ≃ times (plus (times f t) (times s g')) δ
  mul_slope_lem g g' t q = then2 (minus (times f g) (times f' g')) (plus (times f (minus g g')) (times (minus f f') g')) (plus (times f (times t δ)) (times (times s δ) g')) (times (plus (times f t) (times s g')) δ)
      (fring4 f g f' g' (λ F G F' G'. F ⊠ G ⊟ F' ⊠ G' ≑ F ⊠ (G ⊟ G') ⊞ (F ⊟ F') ⊠ G') refl)
      (plus-≃ (times f (minus g g')) (times f (times t δ)) (times (minus f f') g') (times (times s δ) g')
      (times-≃ f f (minus g g') (times t δ) refl q) (times-≃ (minus f f') (times s δ) g' g' p refl))
      (fring5 f t s g' δ (λ F T S G D. F ⊠ (T ⊠ D) ⊞ (S ⊠ D) ⊠ G ≑ (F ⊠ T ⊞ S ⊠ G) ⊠ D) refl)

-- ---- quotients
abbrev pub NonZero : ℤ → Type 0
NonZero (pos zero) = ⊥
NonZero (pos (suc n)) = Unit {0}
NonZero (negsuc n) = Unit {0}

≡_cancel' : (a b c : ℤ) → NonZero c → a *ℤ c ≡ b *ℤ c → a ≡ b
≡_cancel' a b (pos zero) h e = absurd h
≡_cancel' a b (pos (suc n)) h e = ≡_cancel a b (pos (suc n)) (omega (arith, ints)) e
≡_cancel' a b (negsuc n) h e = ≡_cancel a b (pos (suc n)) (omega (arith, ints)) (omega (arith, linear, *ℤ-neg a (negsuc n), *ℤ-neg b (negsuc n)))

cancel_≃ : (a b g : Fraction) → NonZero g.num → times a g ≃ times b g → a ≃ b
cancel_≃ a b g h e =
    let l = ring4 a.num (pos b.den) g.num (pos g.den) (λ A B N D. (A ⊗ N) ⊗ (B ⊗ D) ≐ ((A ⊗ B) ⊗ N) ⊗ D) refl in
    let r = ring4 b.num (pos a.den) g.num (pos g.den) (λ A B N D. (A ⊗ N) ⊗ (B ⊗ D) ≐ ((A ⊗ B) ⊗ N) ⊗ D) refl in
    ≡_cancel' (a.num *ℤ pos b.den) (b.num *ℤ pos a.den) g.num h (≡_cancel _ _ (pos g.den) (den_pos g) (sym l ∙ e ∙ r))

over_by : (P : Value → Type 0) (u : Fraction) (n : ℤ) (d : ℕ) (h : 0 < d) → P none → ((q : Fraction) → NonZero n → times q (record { num = n; den = d; positive = h }) ≃ u → P (some q)) → P (over u n d)
over_by P u (pos zero) d h f g = f
over_by P u (pos (suc n)) d h f g = g _ tt (ring4 u.num (pos u.den) (pos (suc n)) (pos d) (λ X S N D. ((X ⊗ D) ⊗ N) ⊗ S ≐ X ⊗ ((S ⊗ N) ⊗ D)) refl)
over_by P u (negsuc n) d h f g = g _ tt (ring4 u.num (pos u.den) (pos (suc n)) (pos d) (λ X S N D. (⊖ (X ⊗ D) ⊗ ⊖ N) ⊗ S ≐ X ⊗ ((S ⊗ N) ⊗ D)) refl)

pub divided_by : (P : Value → Type 0) (u v : Fraction) → P none → ((q : Fraction) → NonZero v.num → times q v ≃ u → P (some q)) → P (divided u v)
divided_by P u v f g = over_by P u v.num v.den v.positive f g

-- (q − q')·g = f − f' − q'·(g − g') = (s − q'·t)·δ = r·g·δ
pub div_slope_lem : (δ f f' s g g' t q q' r : Fraction) → minus f f' ≃ times s δ → minus g g' ≃ times t δ
    → NonZero g.num → times q g ≃ f → times q' g' ≃ f' → times r g ≃ minus s (times q' t) → minus q q' ≃ times r δ
div_slope_lem δ f f' s g g' t q q' r pf pg nz qf qf' rs = cancel_≃ (minus q q') (times r δ) g nz
    (≃_trans (times (minus q q') g) m (times (times r δ) g) left right)
  where
    w : Fraction
    w = times q' (times t δ)

    m : Fraction
    m = minus (times s δ) w

    q'g : times q' g ≃ plus w f'
    q'g = ≃_trans (times q' g) (plus (times q' (minus g g')) (times q' g')) (plus w f')
        (fring3 q' g g' (λ Q G H. Q ⊠ G ≑ Q ⊠ (G ⊟ H) ⊞ Q ⊠ H) refl)
        (plus-≃ (times q' (minus g g')) w (times q' g') f' (times-≃ q' q' (minus g g') (times t δ) refl pg) qf')

    left : times (minus q q') g ≃ m
    left = ≃_trans (times (minus q q') g) (minus (times q g) (times q' g)) m
        (fring3 q q' g (λ Q R G. (Q ⊟ R) ⊠ G ≑ Q ⊠ G ⊟ R ⊠ G) refl)
        (then2 (minus (times q g) (times q' g)) (minus f (plus w f')) (minus (minus f f') w) m
        (minus-≃ (times q g) f (times q' g) (plus w f') qf q'g)
        (fring3 f w f' (λ F W H. F ⊟ (W ⊞ H) ≑ F ⊟ H ⊟ W) refl)
        (minus-≃ (minus f f') (times s δ) w w pf refl))

    right : m ≃ times (times r δ) g
    right = then2 m (times (minus s (times q' t)) δ) (times (times r g) δ) (times (times r δ) g)
        (fring4 s δ q' t (λ S D Q T. S ⊠ D ⊟ Q ⊠ (T ⊠ D) ≑ (S ⊟ Q ⊠ T) ⊠ D) refl)
        (times-≃ (minus s (times q' t)) (times r g) δ δ (≃_sym (times r g) (minus s (times q' t)) rs) refl)
        (fring3 r g δ (λ R G D. (R ⊠ G) ⊠ D ≑ (R ⊠ D) ⊠ G) refl)

-- ---- order of differences
plus_low : (u v w : Fraction) → u ≼ v → plus u w ≼ plus v w
plus_low u v w h =
    let d = den_pos w in
    let z = pos w.den in
    let zz = product_pos z z d d in
    let m = ≤ℤ-mul (u.num *ℤ pos v.den) (v.num *ℤ pos u.den) (z *ℤ z) h (omega (arith, linear)) in
    let l = ring5 u.num (pos u.den) (pos v.den) w.num z (λ A B D K Z. (A ⊗ Z ⊕ K ⊗ B) ⊗ (D ⊗ Z) ≐ (A ⊗ D) ⊗ (Z ⊗ Z) ⊕ K ⊗ B ⊗ D ⊗ Z) refl in
    let r = ring5 v.num (pos u.den) (pos v.den) w.num z (λ C B D K Z. (C ⊗ Z ⊕ K ⊗ D) ⊗ (B ⊗ Z) ≐ (C ⊗ B) ⊗ (Z ⊗ Z) ⊕ K ⊗ B ⊗ D ⊗ Z) refl in
    omega (arith, linear)

pub minus-≼ : (u v w : Fraction) → u ≼ v → minus u w ≼ minus v w
minus-≼ u v w h = plus_low u v (negated w) h

negated-≼ : (u v : Fraction) → u ≼ v → negated v ≼ negated u
negated-≼ u v h = omega (arith, linear, neg-*ℤ u.num (pos v.den), neg-*ℤ v.num (pos u.den))

pub minus-≽ : (w u v : Fraction) → u ≼ v → minus w v ≼ minus w u
minus-≽ w u v h = ≼-≃ (plus (negated v) w) (minus w v) (plus (negated u) w) (minus w u)
    (fring2 v w (λ V W. opp V ⊞ W ≑ W ⊟ V) refl) (fring2 u w (λ V W. opp V ⊞ W ≑ W ⊟ V) refl) (plus_low (negated v) (negated u) w (negated-≼ u v h))

-- ---- the slope in between: p lies between t·δ and s·δ, so it is r·δ for an r between t and s
mean_at : (lo hi : ℤ) (s t p : Fraction) (n : ℤ) (m : ℕ) (h : 0 < m) → Between lo hi s → Between lo hi t
    → times t (record { num = n; den = m; positive = h }) ≼ p → p ≼ times s (record { num = n; den = m; positive = h })
    → (r : Fraction) × Between lo hi r × (p ≃ times r (record { num = n; den = m; positive = h }))
mean_at lo hi s t p (pos zero) m h bs bt lt ls = (s, bs, e)
  where
    mm : pos 0 <ℤ pos m
    mm = omega (arith, ints)

    e : p ≃ times s (record { num = pos zero; den = m; positive = h })
    e =
        let y = p.num in
        let z = pos p.den in
        let dm = product_pos (pos t.den) (pos m) (den_pos t) mm in
        let bm = product_pos (pos s.den) (pos m) (den_pos s) mm in
        let a₀ = ring2 s.num z (λ A Z. (A ⊗ lit (pos 0)) ⊗ Z ≐ lit (pos 0)) refl in
        let c₀ = ring2 t.num z (λ A Z. (A ⊗ lit (pos 0)) ⊗ Z ≐ lit (pos 0)) refl in
        let y₀ : pos 0 ≤ℤ y = ≤ℤ_cancel (pos 0) y (pos t.den *ℤ pos m) dm (omega (arith, linear, zero_by (pos t.den *ℤ pos m))) in
        let k = product_nonneg y (pos s.den *ℤ pos m) y₀ (omega (arith, linear)) in
        omega (arith, linear)
mean_at lo hi s t p (pos (suc n)) m h bs bt lt ls = (r, (low_≼ lo t r bt.0 tr, high_≼ hi s r bs.1 rs), e)
  where
    r : Fraction
    r = record { num = p.num *ℤ pos m; den = p.den * suc n; positive = mul-pos p.positive (omega arith) }

    tr : t ≼ r
    tr =
        let l = ring3 t.num (pos (suc n)) (pos p.den) (λ C N Z. (C ⊗ N) ⊗ Z ≐ C ⊗ (Z ⊗ N)) refl in
        let k = ring3 p.num (pos t.den) (pos m) (λ Y D M. Y ⊗ (D ⊗ M) ≐ (Y ⊗ M) ⊗ D) refl in
        omega (arith, linear)

    rs : r ≼ s
    rs =
        let l = ring3 s.num (pos (suc n)) (pos p.den) (λ C N Z. (C ⊗ N) ⊗ Z ≐ C ⊗ (Z ⊗ N)) refl in
        let k = ring3 p.num (pos s.den) (pos m) (λ Y D M. Y ⊗ (D ⊗ M) ≐ (Y ⊗ M) ⊗ D) refl in
        omega (arith, linear)

    e : p ≃ times r (record { num = pos (suc n); den = m; positive = h })
    e = ring4 p.num (pos p.den) (pos (suc n)) (pos m) (λ Y Z N M. Y ⊗ ((Z ⊗ N) ⊗ M) ≐ ((Y ⊗ M) ⊗ N) ⊗ Z) refl
mean_at lo hi s t p (negsuc n) m h bs bt lt ls = (r, (low_≼ lo s r bs.0 sr, high_≼ hi t r bt.1 rt), e)
  where
    r : Fraction
    r = record { num = neg_ℤ (p.num *ℤ pos m); den = p.den * suc n; positive = mul-pos p.positive (omega arith) }

    sr : s ≼ r
    sr =
        let l = ring3 s.num (pos (suc n)) (pos p.den) (λ C N Z. (C ⊗ ⊖ N) ⊗ Z ≐ ⊖ (C ⊗ (Z ⊗ N))) refl in
        let k = ring3 p.num (pos s.den) (pos m) (λ Y D M. ⊖ (Y ⊗ (D ⊗ M)) ≐ ⊖ (Y ⊗ M) ⊗ D) refl in
        omega (arith, linear)

    rt : r ≼ t
    rt =
        let l = ring3 t.num (pos (suc n)) (pos p.den) (λ C N Z. (C ⊗ ⊖ N) ⊗ Z ≐ ⊖ (C ⊗ (Z ⊗ N))) refl in
        let k = ring3 p.num (pos t.den) (pos m) (λ Y D M. ⊖ (Y ⊗ (D ⊗ M)) ≐ ⊖ (Y ⊗ M) ⊗ D) refl in
        omega (arith, linear)

    e : p ≃ times r (record { num = negsuc n; den = m; positive = h })
    e = ring4 p.num (pos p.den) (pos (suc n)) (pos m) (λ Y Z N M. Y ⊗ ((Z ⊗ N) ⊗ M) ≐ (⊖ (Y ⊗ M) ⊗ ⊖ N) ⊗ Z) refl

pub mean : (lo hi : ℤ) (s t p δ : Fraction) → Between lo hi s → Between lo hi t → times t δ ≼ p → p ≼ times s δ → (r : Fraction) × Between lo hi r × (p ≃ times r δ)
mean lo hi s t p δ bs bt lt ls = mean_at lo hi s t p δ.num δ.den δ.positive bs bt lt ls

-- ---- the larger of two lines, and the absolute of one
module _ (lo hi : ℤ) (δ f f' s g g' t : Fraction) (bs : Between lo hi s) (bt : Between lo hi t) (p : minus f f' ≃ times s δ) (q : minus g g' ≃ times t δ) where
  pub max_slope_lem : (r : Fraction) × Between lo hi r × (minus (larger f g) (larger f' g') ≃ times r δ)
  max_slope_lem = larger_by (λ z. (r : Fraction) × Between lo hi r × (minus z (larger f' g') ≃ times r δ)) f g
      (λ h. larger_by (λ z. (r : Fraction) × Between lo hi r × (minus f z ≃ times r δ)) f' g'
      (λ _. (s, bs, p))
      (λ k. mean lo hi s t (minus f g') δ bs bt
      (≼-≃ (minus g g') (times t δ) (minus f g') (minus f g') q refl (minus-≼ g f g' h))
      (≼-≃ (minus f g') (minus f g') (minus f f') (times s δ) refl p (minus-≽ f f' g' (≺-≼ f' g' k)))))
      (λ h. larger_by (λ z. (r : Fraction) × Between lo hi r × (minus g z ≃ times r δ)) f' g'
      (λ k. mean lo hi t s (minus g f') δ bt bs
      (≼-≃ (minus f f') (times s δ) (minus g f') (minus g f') p refl (minus-≼ f g f' (≺-≼ f g h)))
      (≼-≃ (minus g f') (minus g f') (minus g g') (times t δ) refl q (minus-≽ g g' f' k)))
      (λ _. (t, bt, q)))

-- |f| is the larger of f and −f
pub absolute-larger : (f : Fraction) → larger f (negated f) ≃ absolute f
absolute-larger f = absolute_by (λ z. larger f (negated f) ≃ z) f
    (λ h. larger_by (λ z. z ≃ f) f (negated f) (λ _. refl) (λ k. absurd (up h k)))
    (λ h. larger_by (λ z. z ≃ negated f) f (negated f) (λ k. absurd (down h k)) (λ _. refl))
  where
    up : pos 0 ≤ℤ f.num → f ≺ negated f → ⊥
    up h k = let d = den_pos f in let m = product_nonneg f.num (pos f.den) h (omega (arith, linear)) in omega (arith, linear, neg-*ℤ f.num (pos f.den))

    down : f.num <ℤ pos 0 → negated f ≼ f → ⊥
    down h k = let d = den_pos f in let m = product_pos (neg_ℤ f.num) (pos f.den) (omega (arith, linear)) d in omega (arith, linear, neg-*ℤ f.num (pos f.den))

pub absolute_below : (f : Fraction) → f.num ≤ℤ pos 0 → negated f ≃ absolute f
absolute_below f h = absolute_by (λ z. negated f ≃ z) f (λ k. let e : neg_ℤ f.num ≡ f.num = omega (arith, ints) in ap (λ (z : ℤ). z *ℤ pos f.den) e) (λ _. refl)

pub absolute_above : (f : Fraction) → pos 0 ≤ℤ f.num → f ≃ absolute f
absolute_above f h = absolute_by (λ z. f ≃ z) f (λ _. refl) (λ k. clash_ℤ k h)
