-- Laws of the whole numbers beyond those of lib.IntN: a commutative ring, its order, and sizes of products.
use Rattle.std.proofs.Common.{◌≡◌, ℕ, ◌+◌, ◌*◌, ◌<◌, ◌≤◌, ℤ, pos, negsuc, ◌+ℤ◌, ◌-ℤ◌, ◌*ℤ◌, neg_ℤ, nat_abs, ◌≤ℤ◌, ◌<ℤ◌, sym, ap, ◌∙◌, mul_assoc, add-mul, mul-le-mul, mul-pos, mul-add, arith}
use lib.IntN.{*ℤ_comm, +ℤ_comm, +ℤ_assoc, neg_ℤ-+ℤ, neg_ℤ-neg_ℤ}
use borrow.Author.Differences.{up, down, ints, same_in, sum_is_lem, product_is, neg_is, at_most_in, below_in, le_out, lt_out, same_out}
use Rattle.std.proofs.lemmas.Int.{by_lt_z, unsigned_abs-mul}

pub up-mul : (a b : ℤ) → up (a *ℤ b) ≡ up a * up b + down a * down b
up-mul a b = (product_is a b).0

pub down-mul : (a b : ℤ) → down (a *ℤ b) ≡ up a * down b + down a * up b
down-mul a b = (product_is a b).1

pub *ℤ_assoc : (a b c : ℤ) → (a *ℤ b) *ℤ c ≡ a *ℤ (b *ℤ c)
*ℤ_assoc a b c = same_in _ _ (simp (up-mul, down-mul, add-mul, mul-add, mul_assoc) (omega arith))

scaled : (u x y d v w k : ℕ) → u + x + y ≡ d + v + w → u * k + x * k + y * k ≡ d * k + v * k + w * k
scaled u x y d v w k e = simp add-mul at (ap (λ (n : ℕ). n * k) e)

pub +ℤ-*ℤ : (a b c : ℤ) → (a +ℤ b) *ℤ c ≡ a *ℤ c +ℤ b *ℤ c
+ℤ-*ℤ a b c = same_in _ _ (omega (arith, sum_is_lem (a *ℤ c) (b *ℤ c), product_is (a +ℤ b) c, product_is a c, product_is b c, scaled _ _ _ _ _ _ (up c) (sum_is_lem a b), scaled _ _ _ _ _ _ (down c) (sum_is_lem a b)))

pub *ℤ-+ℤ : (a b c : ℤ) → a *ℤ (b +ℤ c) ≡ a *ℤ b +ℤ a *ℤ c
*ℤ-+ℤ a b c = *ℤ_comm a (b +ℤ c) ∙ +ℤ-*ℤ b c a ∙ (λ i. *ℤ_comm b a i +ℤ *ℤ_comm c a i)

pub *ℤ_left_comm : (a b c : ℤ) → a *ℤ (b *ℤ c) ≡ b *ℤ (a *ℤ c)
*ℤ_left_comm a b c = sym (*ℤ_assoc a b c) ∙ ap (λ x. x *ℤ c) (*ℤ_comm a b) ∙ *ℤ_assoc b a c

pub +ℤ_left_comm : (a b c : ℤ) → a +ℤ (b +ℤ c) ≡ b +ℤ (a +ℤ c)
+ℤ_left_comm a b c = omega (arith, ints)

pub neg-*ℤ : (a b : ℤ) → neg_ℤ a *ℤ b ≡ neg_ℤ (a *ℤ b)
neg-*ℤ a b = same_in _ _ (simp (up-mul, down-mul, up_neg, down-neg) (omega arith))
  where
    up_neg : (b : ℤ) → up (neg_ℤ b) ≡ down b
    up_neg b = (neg_is b).0

    down-neg : (b : ℤ) → down (neg_ℤ b) ≡ up b
    down-neg b = (neg_is b).1

pub *ℤ-neg : (a b : ℤ) → a *ℤ neg_ℤ b ≡ neg_ℤ (a *ℤ b)
*ℤ-neg a b = *ℤ_comm a (neg_ℤ b) ∙ neg-*ℤ b a ∙ ap neg_ℤ (*ℤ_comm b a)

-- each side as a sorted sum of sorted products
pub ruleset products = (+ℤ-*ℤ, *ℤ-+ℤ, *ℤ_assoc, *ℤ_comm, *ℤ_left_comm, +ℤ_assoc, +ℤ_comm, +ℤ_left_comm, neg-*ℤ, *ℤ-neg, neg_ℤ-+ℤ, neg_ℤ-neg_ℤ)

-- ---- order
pub product_nonneg : (a b : ℤ) → pos 0 ≤ℤ a → pos 0 ≤ℤ b → pos 0 ≤ℤ (a *ℤ b)
product_nonneg (pos a) (pos b) h k = omega (arith, ints)
product_nonneg (pos a) (negsuc b) h k = absurd k.le
product_nonneg (negsuc a) b h k = absurd h.le

pub product_pos : (a b : ℤ) → pos 0 <ℤ a → pos 0 <ℤ b → pos 0 <ℤ (a *ℤ b)
product_pos (pos a) (pos b) h k = let p : 0 < a * b = mul-pos (omega (arith, lt_out _ _ h)) (omega (arith, lt_out _ _ k)) in omega (arith, ints)
product_pos (pos a) (negsuc b) h k = absurd k.lt
product_pos (negsuc a) b h k = absurd h.lt

pub ≤ℤ-mul : (a b c : ℤ) → a ≤ℤ b → pos 0 ≤ℤ c → (a *ℤ c) ≤ℤ (b *ℤ c)
≤ℤ-mul a b c h k =
    let p : pos 0 ≤ℤ ((b -ℤ a) *ℤ c) = product_nonneg (b -ℤ a) c (omega (arith, ints)) k in
    let e : (b -ℤ a) *ℤ c ≡ b *ℤ c -ℤ a *ℤ c = +ℤ-*ℤ b (neg_ℤ a) c ∙ ap (λ x. b *ℤ c +ℤ x) (neg-*ℤ a c) in
    let q : pos 0 ≤ℤ (b *ℤ c -ℤ a *ℤ c) = rw e at p in
    omega (arith, ints)

-- omega's reading of integers, with each product of two unknowns as one unknown
pub ruleset linear = (lt_out, le_out, same_out, at_most_in, below_in, same_in, sum_is_lem, neg_is)

pub <ℤ-mul : (a b c : ℤ) → a <ℤ b → pos 0 <ℤ c → (a *ℤ c) <ℤ (b *ℤ c)
<ℤ-mul a b c h k =
    let p : pos 0 <ℤ ((b -ℤ a) *ℤ c) = product_pos (b -ℤ a) c (omega (arith, linear)) k in
    let e : (b -ℤ a) *ℤ c ≡ b *ℤ c -ℤ a *ℤ c = +ℤ-*ℤ b (neg_ℤ a) c ∙ ap (λ x. b *ℤ c +ℤ x) (neg-*ℤ a c) in
    omega (arith, linear)

-- a factor that is not positive turns the order
pub ≤ℤ-mul-neg : (a b c : ℤ) → a ≤ℤ b → c ≤ℤ pos 0 → (b *ℤ c) ≤ℤ (a *ℤ c)
≤ℤ-mul-neg a b c h k =
    let p = ≤ℤ-mul a b (neg_ℤ c) h (omega (arith, linear)) in
    omega (arith, linear, p, *ℤ-neg a c, *ℤ-neg b c)

pub by_order : {X : Type 0} (a b : ℤ) → (a ≤ℤ b → X) → (b <ℤ a → X) → X
by_order a b f g = by_lt_z b a g f

pub ≤ℤ_cancel : (a b c : ℤ) → pos 0 <ℤ c → (a *ℤ c) ≤ℤ (b *ℤ c) → a ≤ℤ b
≤ℤ_cancel a b c k h = by_order a b (λ p. p) (λ p. absurd (omega (arith, linear, <ℤ-mul b a c p k)))

pub ≡_cancel : (a b c : ℤ) → pos 0 <ℤ c → a *ℤ c ≡ b *ℤ c → a ≡ b
≡_cancel a b c k e = let p = ≤ℤ_cancel a b c k (omega (arith, linear)) in let q = ≤ℤ_cancel b a c k (omega (arith, linear)) in omega (arith, linear)

-- ---- sizes
pub product_size : (a b : ℤ) (m n : ℕ) → nat_abs a ≤ m → nat_abs b ≤ n → nat_abs (a *ℤ b) ≤ m * n
product_size a b m n h k = rw (unsigned_abs-mul a b) (mul-le-mul h k)
