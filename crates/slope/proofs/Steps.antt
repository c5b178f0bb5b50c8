-- A slope as a value that the slope's pair holds, so that the rules on enclosures carry over; and each rule on two fractions.
use Rattle.std.proofs.Common.{◌≡◌, true, cond, ◌&&◌, ℤ, pos, ◌*ℤ◌, ◌≤ℤ◌, ◌<ℤ◌, arith}
use lib.Signed.{lt_z, le_z}
use borrow.Author.Differences.{ints}
use Rattle.std.specs.Int.{int_min, int_max}
use Rattle.std.proofs.lemmas.Int.{clamps}
use Rattle.exact.specs.Fraction.{Fraction, plus, minus, negated, times, absolute, larger, ◌≃◌, ◌≼◌}
use Rattle.exact.specs.Value.{Value, none, some, each, both, quotient}
use Rattle.exact.proofs.Integers.{linear, <ℤ-mul}
use Rattle.exact.proofs.Fractions.{den_pos, ≃_sym, ≃_trans, minus-≃}
use Rattle.interval.specs.declared.enclosures.Enclosure.{Enclosure}
use Rattle.interval.specs.declared.enclosures.Enclosure.TheVariants.{NoBounds, Bounds}
use Rattle.interval.specs.Rules.{within, kept, neg, add, sub, mul, div, hull}
use Rattle.interval.specs.Meaning.{Holds}
use Rattle.interval.proofs.OneEnd.{cond_if, larger_by, widen, high_≼, low_nonneg, high_nonpos}
use Rattle.slope.specs.Rules.{larger_slope, bent_slope}
use Rattle.slope.specs.Meaning.{Slopes}
use Rattle.slope.proofs.Holding.{neg_holds, add_holds, sub_holds, mul_holds, div_holds}
use Rattle.slope.proofs.Mean.{neg_slope_lem, add_slope_lem, mul_slope_lem, NonZero, divided_by, div_slope_lem, max_slope_lem, absolute-larger, absolute_below, absolute_above}

-- ---- a slope, or none
abbrev pub Fits : Fraction → Fraction → Fraction → Value → Type 0
Fits δ f g none = Unit {0}
Fits δ f g (some s) = minus f g ≃ times s δ

pub slope_of : (δ f g : Fraction) (e : Enclosure) → Slopes δ e f g → (v : Value) × Holds e v × Fits δ f g v
slope_of δ f g NoBounds h = (none, tt, tt)
slope_of δ f g (Bounds l u) h = (some h.0, h.1, h.2)

pub has_slope : (δ f g : Fraction) (e : Enclosure) (v : Value) → Holds e v → Fits δ f g v → Slopes δ e f g
has_slope δ f g NoBounds v h k = tt
has_slope δ f g (Bounds l u) none h k = absurd h
has_slope δ f g (Bounds l u) (some s) h k = (s, h, k)

pub has_≃ : (δ f f₁ g g₁ : Fraction) (e : Enclosure) → f ≃ f₁ → g ≃ g₁ → Slopes δ e f g → Slopes δ e f₁ g₁
has_≃ δ f f₁ g g₁ NoBounds p q h = tt
has_≃ δ f f₁ g g₁ (Bounds l u) p q h = (h.0, h.1, ≃_trans (minus f₁ g₁) (minus f g) (times h.0 δ) (≃_sym (minus f g) (minus f₁ g₁) (minus-≃ f f₁ g g₁ p q)) h.2)

kept_has : (δ f g : Fraction) (lo hi : ℤ) → Slopes δ (Bounds lo hi) f g → Slopes δ (kept lo hi) f g
kept_has δ f g lo hi h = cond_if (λ E. Slopes δ E f g) (within lo && within hi) (Bounds lo hi) NoBounds (λ _. h) (λ _. tt)

module _ (δ f f' : Fraction) (S : Enclosure) (p : Slopes δ S f f') where
  pub neg_has : Slopes δ (neg S) (negated f) (negated f')
  neg_has =
      let a = slope_of δ f f' S p in
      has_slope δ (negated f) (negated f') (neg S) (each negated a.0) (neg_holds S a.0 a.1) (fit a.0 a.2)
    where
      fit : (v : Value) → Fits δ f f' v → Fits δ (negated f) (negated f') (each negated v)
      fit none k = tt
      fit (some s) k = neg_slope_lem δ f f' s k

  module _ (g g' : Fraction) (T : Enclosure) (q : Slopes δ T g g') where
    pub add_has : Slopes δ (add S T) (plus f g) (plus f' g')
    add_has =
        let a = slope_of δ f f' S p in
        let b = slope_of δ g g' T q in
        has_slope δ (plus f g) (plus f' g') (add S T) (both plus a.0 b.0) (add_holds S T a.0 b.0 a.1 b.1) (fit a.0 b.0 a.2 b.2)
      where
        fit : (v w : Value) → Fits δ f f' v → Fits δ g g' w → Fits δ (plus f g) (plus f' g') (both plus v w)
        fit none w k l = tt
        fit (some s) none k l = tt
        fit (some s) (some t) k l = add_slope_lem δ f f' s k g g' t l

    pub sub_has : Slopes δ (sub S T) (minus f g) (minus f' g')
    sub_has =
        let a = slope_of δ f f' S p in
        let b = slope_of δ g g' T q in
        has_slope δ (minus f g) (minus f' g') (sub S T) (both minus a.0 b.0) (sub_holds S T a.0 b.0 a.1 b.1) (fit a.0 b.0 a.2 b.2)
      where
        fit : (v w : Value) → Fits δ f f' v → Fits δ g g' w → Fits δ (minus f g) (minus f' g') (both minus v w)
        fit none w k l = tt
        fit (some s) none k l = tt
        fit (some s) (some t) k l = add_slope_lem δ f f' s k (negated g) (negated g') (negated t) (neg_slope_lem δ g g' t l)

    -- V is the first line's pair over the cell, U the second's at the middle
    pub mul_has : (V U : Enclosure) → Holds V (some f) → Holds U (some g') → Slopes δ (add (mul V T) (mul S U)) (times f g) (times f' g')
    mul_has V U hV hU =
        let a = slope_of δ f f' S p in
        let b = slope_of δ g g' T q in
        has_slope δ (times f g) (times f' g') (add (mul V T) (mul S U)) (both plus (both times (some f) b.0) (both times a.0 (some g')))
        (add_holds (mul V T) (mul S U) (both times (some f) b.0) (both times a.0 (some g')) (mul_holds V T (some f) b.0 hV b.1) (mul_holds S U a.0 (some g') a.1 hU))
        (fit a.0 b.0 a.2 b.2)
      where
        fit : (v w : Value) → Fits δ f f' v → Fits δ g g' w → Fits δ (times f g) (times f' g') (both plus (both times (some f) w) (both times v (some g')))
        fit none none k l = tt
        fit none (some t) k l = tt
        fit (some s) none k l = tt
        fit (some s) (some t) k l = mul_slope_lem δ f f' s k g g' t l

    -- z and z' are the quotients at the point and at the middle; V is the second line's pair over the cell, U the quotient's at the middle
    pub div_has : (V U : Enclosure) (z z' : Fraction) → Holds V (some g) → Holds U (some z') → NonZero g.num → times z g ≃ f → times z' g' ≃ f' → Slopes δ (div (sub S (mul U T)) V) z z'
    div_has V U z z' hV hU nz qf qf' =
        let a = slope_of δ f f' S p in
        let b = slope_of δ g g' T q in
        fit a.0 b.0 a.2 b.2
        (div_holds (sub S (mul U T)) V (both minus a.0 (both times (some z') b.0)) (some g)
        (sub_holds S (mul U T) a.0 (both times (some z') b.0) a.1 (mul_holds U T (some z') b.0 hU b.1)) hV)
      where
        E : Enclosure
        E = div (sub S (mul U T)) V

        fit : (v w : Value) → Fits δ f f' v → Fits δ g g' w → Holds E (quotient (both minus v (both times (some z') w)) (some g)) → Slopes δ E z z'
        fit none w k l h = has_slope δ z z' E none h tt
        fit (some s) none k l h = has_slope δ z z' E none h tt
        fit (some s) (some t) k l h = divided_by (λ r. Holds E r → Slopes δ E z z') (minus s (times z' t)) g
            (λ h. has_slope δ z z' E none h tt)
            (λ r _ e h. has_slope δ z z' E (some r) h (div_slope_lem δ f f' s g g' t z z' r k l nz qf qf' e)) h

-- ---- the hull of two slopes is for the larger of two lines
pub hull_has : (δ f f' g g' : Fraction) (S T : Enclosure) → Slopes δ S f f' → Slopes δ T g g' → Slopes δ (hull S T) (larger f g) (larger f' g')
unfolding hull
hull_has δ f f' g g' NoBounds T p q = tt
hull_has δ f f' g g' (Bounds a b) NoBounds p q = tt
hull_has δ f f' g g' (Bounds a b) (Bounds d e) p q =
    let lo = int_min a d in
    let hi = int_max b e in
    kept_has δ (larger f g) (larger f' g') lo hi
    (max_slope_lem lo hi δ f f' p.0 g g' q.0
    (widen a b lo hi p.0 (omega (arith, ints, clamps)) (omega (arith, ints, clamps)) p.1)
    (widen d e lo hi q.0 (omega (arith, ints, clamps)) (omega (arith, ints, clamps)) q.1)
    p.2 q.2)

at_most : (a b : ℤ) → le_z a b ≡ true → a ≤ℤ b
at_most a b e = omega (arith, ints)

below : (a b : ℤ) → lt_z a b ≡ true → a <ℤ b
below a b e = omega (arith, ints)

-- ---- the absolute value
pub bent_has : (δ f f' : Fraction) (V S : Enclosure) → Holds V (some f) → Holds V (some f') → Slopes δ S f f' → Slopes δ (bent_slope V S) (absolute f) (absolute f')
bent_has δ f f' NoBounds S h h' p = tt
bent_has δ f f' (Bounds a b) S h h' p = cond_if (λ E. Slopes δ E (absolute f) (absolute f')) (le_z (pos 0) a) S (cond (le_z b (pos 0)) (neg S) (hull S (neg S)))
    (λ e. has_≃ δ f (absolute f) f' (absolute f') S (absolute_above f (low_nonneg f a (at_most (pos 0) a e) h.0)) (absolute_above f' (low_nonneg f' a (at_most (pos 0) a e) h'.0)) p)
    (λ _. cond_if (λ E. Slopes δ E (absolute f) (absolute f')) (le_z b (pos 0)) (neg S) (hull S (neg S))
    (λ e. has_≃ δ (negated f) (absolute f) (negated f') (absolute f') (neg S) (absolute_below f (high_nonpos f b (at_most b (pos 0) e) h.1)) (absolute_below f' (high_nonpos f' b (at_most b (pos 0) e) h'.1)) (neg_has δ f f' S p))
    (λ _. has_≃ δ (larger f (negated f)) (absolute f) (larger f' (negated f')) (absolute f') (hull S (neg S)) (absolute-larger f) (absolute-larger f')
    (hull_has δ f f' (negated f) (negated f') S (neg S) p (neg_has δ f f' S p))))

-- ---- a pair above another
-- 1000·g ≤ e < a ≤ 1000·f
apart : (a e : ℤ) (f g : Fraction) → e <ℤ a → (a *ℤ pos f.den) ≤ℤ (pos 1000 *ℤ f.num) → (pos 1000 *ℤ g.num) ≤ℤ (e *ℤ pos g.den) → f ≼ g → ⊥
apart a e f g k h l m =
    let n = high_≼ e g f l m in
    let d = <ℤ-mul e a (pos f.den) k (den_pos f) in
    omega (arith, linear)

pub larger_has : (δ f f' g g' : Fraction) (V W S T : Enclosure) → Holds V (some f) → Holds V (some f') → Holds W (some g) → Holds W (some g') → Slopes δ S f f' → Slopes δ T g g'
    → Slopes δ (larger_slope V W S T) (larger f g) (larger f' g')
larger_has δ f f' g g' NoBounds W S T h h' k k' p q = tt
larger_has δ f f' g g' (Bounds a b) NoBounds S T h h' k k' p q = tt
larger_has δ f f' g g' (Bounds a b) (Bounds d e) S T h h' k k' p q = cond_if (λ E. Slopes δ E (larger f g) (larger f' g')) (lt_z e a) S (cond (lt_z b d) T (hull S T))
    (λ l. larger_by (λ z. Slopes δ S z (larger f' g')) f g
    (λ _. larger_by (λ z. Slopes δ S f z) f' g' (λ _. p) (λ m. absurd (apart a e f' g' (below e a l) h'.0 k'.1 (omega (arith, linear)))))
    (λ m. absurd (apart a e f g (below e a l) h.0 k.1 (omega (arith, linear)))))
    (λ _. cond_if (λ E. Slopes δ E (larger f g) (larger f' g')) (lt_z b d) T (hull S T)
    (λ l. larger_by (λ z. Slopes δ T z (larger f' g')) f g
    (λ m. absurd (apart d b g f (below b d l) k.0 h.1 m))
    (λ _. larger_by (λ z. Slopes δ T g z) f' g' (λ m. absurd (apart d b g' f' (below b d l) k'.0 h'.1 m)) (λ _. q)))
    (λ _. hull_has δ f f' g g' S T p q))
