-- Tests by cases, and what one end of a pair says of a fraction.
use Rattle.std.proofs.Common.{◌≡◌, Bool, true, false, cond, ℤ, pos, negsuc, ◌*ℤ◌, neg_ℤ, nat_abs, ◌≤ℤ◌, ◌<ℤ◌, refl, arith}
use lib.Signed.{lt_z}
use borrow.Author.Differences.{ints}
use Rattle.std.specs.Int.{int_min, int_max}
use Rattle.std.proofs.lemmas.Bool.{cond_both}
use Rattle.exact.proofs.Integers.{linear, ≤ℤ-mul, ≤ℤ_cancel, product_nonneg, product_pos, neg-*ℤ, *ℤ-neg}
use Rattle.exact.proofs.Ring.{lit, ◌⊗◌, ◌≐◌, ring2, ring3}
use Rattle.exact.proofs.Fractions.{den_pos}
use Rattle.exact.specs.Fraction.{Fraction, negated, absolute, larger, ◌≃◌, ◌≼◌, ◌≺◌}
use Rattle.interval.specs.Meaning.{Between}

-- ---- eliminators: a test, the absolute, the larger of two
pub cond_if : {A : Type 0} (P : A → Type 0) (t : Bool) (x y : A) → (t ≡ true → P x) → (t ≡ false → P y) → P (cond t x y)
cond_if P t x y f g = cond_both t x y P f g

pub cond_by : {A : Type 0} (P : A → Type 0) (a b : ℤ) (x y : A) → (a <ℤ b → P x) → (b ≤ℤ a → P y) → P (cond (lt_z a b) x y)
cond_by P a b x y f g = by (lt_z a b) refl
  where
    by : (t : Bool) → lt_z a b ≡ t → P (cond t x y)
    by true e = f (omega (arith, ints))
    by false e = g (omega (arith, ints))

abs_by : (P : ℤ → Type 0) (n : ℤ) → (pos 0 ≤ℤ n → P n) → (n <ℤ pos 0 → P (neg_ℤ n)) → P (pos (nat_abs n))
abs_by P (pos k) f g = f (omega (arith, ints))
abs_by P (negsuc k) f g = g (record { lt = tt })

pub absolute_by : (P : Fraction → Type 0) (u : Fraction) → (pos 0 ≤ℤ u.num → P u) → (u.num <ℤ pos 0 → P (negated u)) → P (absolute u)
absolute_by P u f g = abs_by (λ z. P (record { num = z; den = u.den; positive = u.positive })) u.num f g

pub larger_by : (P : Fraction → Type 0) (u v : Fraction) → (v ≼ u → P u) → (u ≺ v → P v) → P (larger u v)
larger_by P u v f g = cond_by P (u.num *ℤ pos v.den) (v.num *ℤ pos u.den) v u g f

pub max_by : (P : ℤ → Type 0) (a b : ℤ) → P a → P b → P (int_max a b)
max_by P a b p q = cond_by P b a a b (λ _. p) (λ _. q)

pub min_by : (P : ℤ → Type 0) (a b : ℤ) → P a → P b → P (int_min a b)
min_by P a b p q = cond_by P b a b a (λ _. q) (λ _. p)

-- ---- one end
-- over whole numbers: lo ≤ 1000·a/b and a/b ≤ c/d; 1000·a/b ≤ hi and c/d ≤ a/b
low_moves : (lo a b c d : ℤ) → pos 0 <ℤ b → pos 0 <ℤ d → (lo *ℤ b) ≤ℤ (pos 1000 *ℤ a) → (a *ℤ d) ≤ℤ (c *ℤ b) → (lo *ℤ d) ≤ℤ (pos 1000 *ℤ c)
low_moves lo a b c d hb hd h k =
    let m = ≤ℤ-mul (lo *ℤ b) (pos 1000 *ℤ a) d h (omega (arith, linear)) in
    let n = ≤ℤ-mul (a *ℤ d) (c *ℤ b) (pos 1000) k (record { le = tt }) in
    let e = ring3 lo b d (λ L B D. (L ⊗ B) ⊗ D ≐ (L ⊗ D) ⊗ B) refl in
    let f = ring2 a d (λ A D. (lit (pos 1000) ⊗ A) ⊗ D ≐ (A ⊗ D) ⊗ lit (pos 1000)) refl in
    let g = ring2 c b (λ C B. (C ⊗ B) ⊗ lit (pos 1000) ≐ (lit (pos 1000) ⊗ C) ⊗ B) refl in
    ≤ℤ_cancel (lo *ℤ d) (pos 1000 *ℤ c) b hb (omega (arith, linear))

high_moves : (hi a b c d : ℤ) → pos 0 <ℤ b → pos 0 <ℤ d → (pos 1000 *ℤ a) ≤ℤ (hi *ℤ b) → (c *ℤ b) ≤ℤ (a *ℤ d) → (pos 1000 *ℤ c) ≤ℤ (hi *ℤ d)
high_moves hi a b c d hb hd h k =
    let m = ≤ℤ-mul (pos 1000 *ℤ a) (hi *ℤ b) d h (omega (arith, linear)) in
    let n = ≤ℤ-mul (c *ℤ b) (a *ℤ d) (pos 1000) k (record { le = tt }) in
    let e = ring3 hi b d (λ L B D. (L ⊗ B) ⊗ D ≐ (L ⊗ D) ⊗ B) refl in
    let f = ring2 a d (λ A D. (lit (pos 1000) ⊗ A) ⊗ D ≐ (A ⊗ D) ⊗ lit (pos 1000)) refl in
    let g = ring2 c b (λ C B. (C ⊗ B) ⊗ lit (pos 1000) ≐ (lit (pos 1000) ⊗ C) ⊗ B) refl in
    ≤ℤ_cancel (pos 1000 *ℤ c) (hi *ℤ d) b hb (omega (arith, linear))

abbrev pub Low : ℤ → Fraction → Type 0
Low lo u = (lo *ℤ pos u.den) ≤ℤ (pos 1000 *ℤ u.num)

abbrev pub High : ℤ → Fraction → Type 0
High hi u = (pos 1000 *ℤ u.num) ≤ℤ (hi *ℤ pos u.den)

pub low_≼ : (lo : ℤ) (u v : Fraction) → Low lo u → u ≼ v → Low lo v
low_≼ lo u v h k = low_moves lo u.num (pos u.den) v.num (pos v.den) (den_pos u) (den_pos v) h k

pub high_≼ : (hi : ℤ) (u v : Fraction) → High hi u → v ≼ u → High hi v
high_≼ hi u v h k = high_moves hi u.num (pos u.den) v.num (pos v.den) (den_pos u) (den_pos v) h k

pub low_less : (lo lo' : ℤ) (u : Fraction) → lo' ≤ℤ lo → Low lo u → Low lo' u
low_less lo lo' u k h = let d = den_pos u in let m = ≤ℤ-mul lo' lo (pos u.den) k (omega (arith, linear)) in omega (arith, linear)

pub high_more : (hi hi' : ℤ) (u : Fraction) → hi ≤ℤ hi' → High hi u → High hi' u
high_more hi hi' u k h = let d = den_pos u in let m = ≤ℤ-mul hi hi' (pos u.den) k (omega (arith, linear)) in omega (arith, linear)

pub widen : (lo hi lo' hi' : ℤ) (u : Fraction) → lo' ≤ℤ lo → hi ≤ℤ hi' → Between lo hi u → Between lo' hi' u
widen lo hi lo' hi' u k l h = (low_less lo lo' u k h.0, high_more hi hi' u l h.1)

-- ---- the sign
module _ (u : Fraction) where
  pub low_nonneg : (lo : ℤ) → pos 0 ≤ℤ lo → Low lo u → pos 0 ≤ℤ u.num
  low_nonneg lo k h = let d = den_pos u in let m = product_nonneg lo (pos u.den) k (omega (arith, linear)) in let n = u.num in omega (arith, ints)

  pub low_pos : (lo : ℤ) → pos 0 <ℤ lo → Low lo u → pos 0 <ℤ u.num
  low_pos lo k h = let m = product_pos lo (pos u.den) k (den_pos u) in let n = u.num in omega (arith, ints)

  pub high_nonpos : (hi : ℤ) → hi ≤ℤ pos 0 → High hi u → u.num ≤ℤ pos 0
  high_nonpos hi k h = let d = den_pos u in let m = product_nonneg (neg_ℤ hi) (pos u.den) (omega (arith, linear)) (omega (arith, linear)) in let e = neg-*ℤ hi (pos u.den) in omega (arith, ints)

  pub high_neg : (hi : ℤ) → hi <ℤ pos 0 → High hi u → u.num <ℤ pos 0
  high_neg hi k h = let m = product_pos (neg_ℤ hi) (pos u.den) (omega (arith, linear)) (den_pos u) in let e = neg-*ℤ hi (pos u.den) in omega (arith, ints)

-- the pair of a fraction has its ends in order
pub ends_ordered : (lo hi : ℤ) (u : Fraction) → Between lo hi u → lo ≤ℤ hi
ends_ordered lo hi u h = Rattle.exact.proofs.Integers.≤ℤ_cancel lo hi (pos u.den) (den_pos u) (omega (arith, linear))

pub between_≃ : (lo hi : ℤ) (u v : Fraction) → u ≃ v → Between lo hi u → Between lo hi v
between_≃ lo hi u v e h = (
  low_moves lo u.num (pos u.den) v.num (pos v.den) (den_pos u) (den_pos v) h.0 (omega (arith, linear)),
  high_moves hi u.num (pos u.den) v.num (pos v.den) (den_pos u) (den_pos v) h.1 (omega (arith, linear)),
)

pub between_negated : (lo hi : ℤ) (u : Fraction) → Between lo hi u → Between (neg_ℤ hi) (neg_ℤ lo) (negated u)
between_negated lo hi u h = (
  omega (arith, linear, neg-*ℤ hi (pos u.den), *ℤ-neg (pos 1000) u.num, h.1),
  omega (arith, linear, neg-*ℤ lo (pos u.den), *ℤ-neg (pos 1000) u.num, h.0),
)
