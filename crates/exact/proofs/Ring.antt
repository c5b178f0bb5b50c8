-- A ring solver by computation. A polynomial is `con z`, or `node c q`, which is c + x·q: x is the variable 0, which q has too, and c has the variables from 1 on, counted from 0.
use Rattle.std.proofs.Common.{◌≡◌, ℕ, zero, suc, Bool, true, false, ◌&&◌, eqb, List, [], ◌∷◌, ℤ, pos, negsuc, ◌+ℤ◌, ◌-ℤ◌, ◌*ℤ◌, neg_ℤ, sym, refl, ap, ◌∙◌, arith, eqb-true}
use lib.IntN.{*ℤ_comm, +ℤ_comm, +ℤ_assoc, neg_ℤ-+ℤ, neg_ℤ-neg_ℤ}
use borrow.Author.Differences.{ints}
use Rattle.std.proofs.lemmas.Bool.{and_parts}
use Rattle.exact.proofs.Integers.{products}

-- ---- what the caller writes
pub data Ex : Type 0 where
  var : ℕ → Ex
  lit : ℤ → Ex
  ◌⊕◌ ◌⊗◌ : Ex → Ex → Ex
  ⊖◌ : Ex → Ex

infixl 6 ◌⊕◌ ◌⊝◌
infixl 7 ◌⊗◌
infix 8 ⊖◌
abbrev pub ◌⊝◌ : Ex → Ex → Ex
a ⊝ b = a ⊕ ⊖ b

-- the variables' values
abbrev pub at : List ℤ → ℕ → ℤ
at [] i = pos 0
at (x ∷ xs) zero = x
at (x ∷ xs) (suc i) = at xs i

abbrev pub meaning : (ℕ → ℤ) → Ex → ℤ
meaning ρ (var i) = ρ i
meaning ρ (lit z) = z
meaning ρ (a ⊕ b) = meaning ρ a +ℤ meaning ρ b
meaning ρ (a ⊗ b) = meaning ρ a *ℤ meaning ρ b
meaning ρ (⊖ a) = neg_ℤ (meaning ρ a)

-- ---- polynomials
pub data P : Type 0 where
  con : ℤ → P
  node : P → P → P

abbrev pub next : (ℕ → ℤ) → ℕ → ℤ
next ρ i = ρ (suc i)

abbrev pub value : P → (ℕ → ℤ) → ℤ
value (con z) ρ = z
value (node c q) ρ = value c (next ρ) +ℤ ρ 0 *ℤ value q ρ

abbrev pub addc : ℤ → P → P
addc z (con a) = con (z +ℤ a)
addc z (node c q) = node (addc z c) q

-- node, but the zero polynomial and the constants have one form: without this, products of many variables fill up with zeros
abbrev pub mk0 : P → ℤ → P
mk0 (con a) (pos zero) = con a
mk0 (con a) (pos (suc n)) = node (con a) (con (pos (suc n)))
mk0 (con a) (negsuc n) = node (con a) (con (negsuc n))
mk0 (node c q) z = node (node c q) (con z)

abbrev pub mk : P → P → P
mk c (con z) = mk0 c z
mk c (node d r) = node c (node d r)

abbrev pub add : P → P → P
add (con a) p = addc a p
add (node c q) (con b) = node (addc b c) q
add (node c q) (node c' q') = mk (add c c') (add q q')

abbrev pub scale : ℤ → P → P
scale z (con a) = con (z *ℤ a)
scale z (node c q) = node (scale z c) (scale z q)

abbrev pub scaled : ℤ → P → P
scaled (pos zero) p = con (pos 0)
scaled (pos (suc n)) p = scale (pos (suc n)) p
scaled (negsuc n) p = scale (negsuc n) p

-- the product by c, whose variables are one on; f is that by c among those
abbrev pub lift : (P → P) → P → P → P
lift f c (con b) = mk (scaled b c) (con (pos 0))
lift f c (node c' q') = mk (f c') (lift f c q')

abbrev pub mul : P → P → P
mul (con a) p = scaled a p
mul (node c q) (con b) = scaled b (node c q)
mul (node c q) (node c' q') = add (lift (λ x. mul c x) c (node c' q')) (mk (con (pos 0)) (mul q (node c' q')))

abbrev pub variable : ℕ → P
variable zero = node (con (pos 0)) (con (pos 1))
variable (suc i) = node (variable i) (con (pos 0))

abbrev pub poly : Ex → P
poly (var i) = variable i
poly (lit z) = con z
poly (a ⊕ b) = add (poly a) (poly b)
poly (a ⊗ b) = mul (poly a) (poly b)
poly (⊖ a) = scale (negsuc 0) (poly a)

abbrev pub is_zero : ℤ → Bool
is_zero (pos n) = eqb n 0
is_zero (negsuc n) = false

abbrev pub null : P → Bool
null (con z) = is_zero z
null (node c q) = null c && null q

-- ---- each step keeps the value
addc_is : (z : ℤ) (p : P) (ρ : ℕ → ℤ) → value (addc z p) ρ ≡ z +ℤ value p ρ
addc_is z (con a) ρ = refl
addc_is z (node c q) ρ = rw (addc_is z c (next ρ)) (+ℤ_assoc z (value c (next ρ)) (ρ 0 *ℤ value q ρ))

pub zero_times : (a : ℤ) → a *ℤ pos 0 ≡ pos 0
zero_times a = lib.IntN.*ℤ-zero a

add-zero : (a : ℤ) → a +ℤ pos 0 ≡ a
add-zero a = omega (arith, ints)

mk0_is : (c : P) (z : ℤ) (ρ : ℕ → ℤ) → value (mk0 c z) ρ ≡ value c (next ρ) +ℤ ρ 0 *ℤ z
mk0_is (con a) (pos zero) ρ = rw (zero_times (ρ 0)) (sym (add-zero a))
mk0_is (con a) (pos (suc n)) ρ = refl
mk0_is (con a) (negsuc n) ρ = refl
mk0_is (node c q) z ρ = refl

mk_is : (c q : P) (ρ : ℕ → ℤ) → value (mk c q) ρ ≡ value c (next ρ) +ℤ ρ 0 *ℤ value q ρ
mk_is c (con z) ρ = mk0_is c z ρ
mk_is c (node d r) ρ = refl

add_is : (p q : P) (ρ : ℕ → ℤ) → value (add p q) ρ ≡ value p ρ +ℤ value q ρ
add_is (con a) p ρ = addc_is a p ρ
add_is (node c q) (con b) ρ = rw (addc_is b c (next ρ)) (omega (arith, ints))
add_is (node c q) (node c' q') ρ = mk_is (add c c') (add q q') ρ ∙ rw (add_is c c' (next ρ), add_is q q' ρ) (simp products)

scale_is : (z : ℤ) (p : P) (ρ : ℕ → ℤ) → value (scale z p) ρ ≡ z *ℤ value p ρ
scale_is z (con a) ρ = refl
scale_is z (node c q) ρ = rw (scale_is z c (next ρ), scale_is z q ρ) (simp products)

pub zero_by : (a : ℤ) → pos 0 *ℤ a ≡ pos 0
zero_by a = *ℤ_comm (pos 0) a ∙ zero_times a

scaled_is : (z : ℤ) (p : P) (ρ : ℕ → ℤ) → value (scaled z p) ρ ≡ z *ℤ value p ρ
scaled_is (pos zero) p ρ = sym (zero_by (value p ρ))
scaled_is (pos (suc n)) p ρ = scale_is (pos (suc n)) p ρ
scaled_is (negsuc n) p ρ = scale_is (negsuc n) p ρ

outward : (c d x q : ℤ) → c *ℤ d +ℤ x *ℤ (c *ℤ q) ≡ c *ℤ (d +ℤ x *ℤ q)
outward c d x q = simp products

lift_is : (f : P → P) (c p : P) (ρ : ℕ → ℤ) → ((x : P) (σ : ℕ → ℤ) → value (f x) σ ≡ value c σ *ℤ value x σ) → value (lift f c p) ρ ≡ value c (next ρ) *ℤ value p ρ
lift_is f c (con b) ρ h = mk_is (scaled b c) (con (pos 0)) ρ ∙ rw (scaled_is b c (next ρ), zero_times, add-zero) (*ℤ_comm b (value c (next ρ)))
lift_is f c (node c' q') ρ h = mk_is (f c') (lift f c q') ρ ∙ rw (h c' (next ρ), lift_is f c q' ρ h) (outward (value c (next ρ)) (value c' (next ρ)) (ρ 0) (value q' ρ))

inward : (c p x q : ℤ) → c *ℤ p +ℤ (pos 0 +ℤ x *ℤ (q *ℤ p)) ≡ (c +ℤ x *ℤ q) *ℤ p
inward c p x q = simp (products, lib.IntN.+ℤ_idl)

mul_is : (p q : P) (ρ : ℕ → ℤ) → value (mul p q) ρ ≡ value p ρ *ℤ value q ρ
mul_is (con a) p ρ = scaled_is a p ρ
mul_is (node c q) (con b) ρ = scaled_is b (node c q) ρ ∙ *ℤ_comm b (value (node c q) ρ)
mul_is (node c q) (node c' q') ρ =
    let p = node c' q' in
    add_is (lift (λ x. mul c x) c p) (mk (con (pos 0)) (mul q p)) ρ
    ∙ (λ i. lift_is (λ x. mul c x) c p ρ (λ x σ. mul_is c x σ) i +ℤ mk_is (con (pos 0)) (mul q p) ρ i)
    ∙ rw (mul_is q p ρ) (inward (value c (next ρ)) (value p ρ) (ρ 0) (value q ρ))

variable_is : (i : ℕ) (ρ : ℕ → ℤ) → value (variable i) ρ ≡ ρ i
variable_is zero ρ = omega (arith, ints)
variable_is (suc i) ρ = rw (variable_is i (next ρ), zero_times, add-zero)

pub poly_is : (e : Ex) (ρ : ℕ → ℤ) → value (poly e) ρ ≡ meaning ρ e
poly_is (var i) ρ = variable_is i ρ
poly_is (lit z) ρ = refl
poly_is (a ⊕ b) ρ = add_is (poly a) (poly b) ρ ∙ (λ i. poly_is a ρ i +ℤ poly_is b ρ i)
poly_is (a ⊗ b) ρ = mul_is (poly a) (poly b) ρ ∙ (λ i. poly_is a ρ i *ℤ poly_is b ρ i)
poly_is (⊖ a) ρ = scale_is (negsuc 0) (poly a) ρ ∙ rw (poly_is a ρ) (omega (arith, ints))

is_zero_lem : (z : ℤ) → is_zero z ≡ true → z ≡ pos 0
is_zero_lem (pos n) e = ap pos (eqb-true n 0 e)
is_zero_lem (negsuc n) e = absurd (mathlib.Core.Bool.true≢false (sym e))

null_is : (p : P) (ρ : ℕ → ℤ) → null p ≡ true → value p ρ ≡ pos 0
null_is (con z) ρ e = is_zero_lem z e
null_is (node c q) ρ e = let h = and_parts (null c) (null q) e in rw (null_is c (next ρ) h.0, null_is q ρ h.1, zero_times)

-- the two sides are the same polynomial, so they are equal at all values
pub ring : (xs : List ℤ) (a b : Ex) → null (poly (a ⊝ b)) ≡ true → meaning (at xs) a ≡ meaning (at xs) b
ring xs a b e = let h : meaning (at xs) a -ℤ meaning (at xs) b ≡ pos 0 = sym (poly_is (a ⊝ b) (at xs)) ∙ null_is (poly (a ⊝ b)) (at xs) e in omega (arith, ints)

-- ---- the same with the variables bound by a λ: ring2 a b (λ A B. A ⊗ B ≐ B ⊗ A) refl
infix 4 ◌≐◌
abbrev pub ◌≐◌ : Ex → Ex → Ex × Ex
a ≐ b = (a, b)

abbrev pub Same : Ex × Ex → Type 0
Same e = null (poly (e.0 ⊝ e.1)) ≡ true

abbrev pub Holds : List ℤ → Ex × Ex → Type 0
Holds xs e = meaning (at xs) e.0 ≡ meaning (at xs) e.1

pub solve : (xs : List ℤ) (e : Ex × Ex) → Same e → Holds xs e
solve xs e h = ring xs e.0 e.1 h

pub ring2 : (a b : ℤ) (f : Ex → Ex → Ex × Ex) → Same (f (var 0) (var 1)) → Holds (a ∷ b ∷ []) (f (var 0) (var 1))
ring2 a b f e = solve (a ∷ b ∷ []) (f (var 0) (var 1)) e

pub ring3 : (a b c : ℤ) (f : Ex → Ex → Ex → Ex × Ex) → Same (f (var 0) (var 1) (var 2)) → Holds (a ∷ b ∷ c ∷ []) (f (var 0) (var 1) (var 2))
ring3 a b c f e = solve (a ∷ b ∷ c ∷ []) (f (var 0) (var 1) (var 2)) e

pub ring4 : (a b c d : ℤ) (f : Ex → Ex → Ex → Ex → Ex × Ex) → Same (f (var 0) (var 1) (var 2) (var 3)) → Holds (a ∷ b ∷ c ∷ d ∷ []) (f (var 0) (var 1) (var 2) (var 3))
ring4 a b c d f e = solve (a ∷ b ∷ c ∷ d ∷ []) (f (var 0) (var 1) (var 2) (var 3)) e

pub ring5 : (a b c d k : ℤ) (f : Ex → Ex → Ex → Ex → Ex → Ex × Ex) → Same (f (var 0) (var 1) (var 2) (var 3) (var 4)) → Holds (a ∷ b ∷ c ∷ d ∷ k ∷ []) (f (var 0) (var 1) (var 2) (var 3) (var 4))
ring5 a b c d k f e = solve (a ∷ b ∷ c ∷ d ∷ k ∷ []) (f (var 0) (var 1) (var 2) (var 3) (var 4)) e

pub ring6 : (a b c d k l : ℤ) (f : Ex → Ex → Ex → Ex → Ex → Ex → Ex × Ex) → Same (f (var 0) (var 1) (var 2) (var 3) (var 4) (var 5)) → Holds (a ∷ b ∷ c ∷ d ∷ k ∷ l ∷ []) (f (var 0) (var 1) (var 2) (var 3) (var 4) (var 5))
ring6 a b c d k l f e = solve (a ∷ b ∷ c ∷ d ∷ k ∷ l ∷ []) (f (var 0) (var 1) (var 2) (var 3) (var 4) (var 5)) e

pub ring7 : (a b c d k l m : ℤ) (f : Ex → Ex → Ex → Ex → Ex → Ex → Ex → Ex × Ex) → Same (f (var 0) (var 1) (var 2) (var 3) (var 4) (var 5) (var 6)) → Holds (a ∷ b ∷ c ∷ d ∷ k ∷ l ∷ m ∷ []) (f (var 0) (var 1) (var 2) (var 3) (var 4) (var 5) (var 6))
ring7 a b c d k l m f e = solve (a ∷ b ∷ c ∷ d ∷ k ∷ l ∷ m ∷ []) (f (var 0) (var 1) (var 2) (var 3) (var 4) (var 5) (var 6)) e

pub ring8 : (a b c d k l m n : ℤ) (f : Ex → Ex → Ex → Ex → Ex → Ex → Ex → Ex → Ex × Ex) → Same (f (var 0) (var 1) (var 2) (var 3) (var 4) (var 5) (var 6) (var 7)) → Holds (a ∷ b ∷ c ∷ d ∷ k ∷ l ∷ m ∷ n ∷ []) (f (var 0) (var 1) (var 2) (var 3) (var 4) (var 5) (var 6) (var 7))
ring8 a b c d k l m n f e = solve (a ∷ b ∷ c ∷ d ∷ k ∷ l ∷ m ∷ n ∷ []) (f (var 0) (var 1) (var 2) (var 3) (var 4) (var 5) (var 6) (var 7)) e
