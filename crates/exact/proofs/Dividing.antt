-- How the 64-bit functions reach floor and ceiling from `/`, which rounds toward zero (`quot_z`), and how Euclid's quotient, which leaves a rest of 0 or more, gives them.
use Rattle.std.proofs.Common.{◌≡◌, ℕ, zero, suc, ◌-◌, ◌*◌, ◌/◌, ◌%◌, ◌^◌, ◌<◌, ◌≤◌, Bool, true, false, cond, ◌⊎◌, ℤ, pos, negsuc, ◌+ℤ◌, ◌-ℤ◌, neg_ℤ, ◌<ℤ◌, Some, None, Option, sym, refl, ap, ◌∙◌, subst, inl, inr, mul_comm, mul-le-mul_left, ⊎_elim, mod-lt, suc-mul, div-add-mod', div-le_self, div-mul-le_self, div-one, arith, w64, SFits}
use Rattle.std.proofs.Math.Nat.{zero-div, zero-mod, mod-eq_of_lt, suc-mod, mod_self, div-eq_of_lt-le}
use lib.Signed.{quot_z}
use borrow.Author.Differences.{ints}
use Rattle.std.specs.Int.{CanDivide, int_div_euclid, int_rem_euclid}
use Rattle.std.specs.Option.{IfSome}
use Rattle.exact.specs.Rounding.{floor, ceiling, fits, if_fits, floor_div, ceil_div, IsFloor, IsCeiling}
use Rattle.exact.proofs.Rounding.{floor_is, ceiling_is, floor_size, ceiling_size}

-- ---- the quotient fits 64 bits, but for the least number by −1
abbrev pub Overflows : ℤ → ℤ → Type 0
Overflows n d = (n ≡ negsuc (2 ^ 63 - 1)) × (d ≡ negsuc 0)

half_at_most : (a b : ℕ) → 2 * (a / suc (suc b)) ≤ a
half_at_most a b =
    let q = a / suc (suc b) in
    let k : q * 2 ≤ q * suc (suc b) = mul-le-mul_left q (omega arith) in
    omega (arith, div-mul-le_self a (suc (suc b)), mul_comm 2 q)

pub floor-fits : (n d : ℤ) → SFits w64 n → (Overflows n d → ⊥) → SFits w64 (floor n d)
floor-fits (pos a) d f o = let h = floor_size (pos a) d in omega (arith, ints)
floor-fits (negsuc a) (pos b) f o = let h = div-le_self a b in omega (arith, ints)
floor-fits (negsuc a) (negsuc zero) f o =
    let e : suc a / 1 ≡ suc a = div-one (suc a) in
    let n : a ≡ 2 ^ 63 - 1 → ⊥ = λ p. o (ap negsuc p, refl) in
    let m : a < 2 ^ 63 - 1 = omega (arith, ints) in
    omega (arith, ints)
floor-fits (negsuc a) (negsuc (suc b)) f o = let h = half_at_most (suc a) b in omega (arith, ints)

pub ceiling-fits : (n d : ℤ) → SFits w64 n → (Overflows n d → ⊥) → SFits w64 (ceiling n d)
ceiling-fits (pos a) d f o = let h = ceiling_size (pos a) d in omega (arith, ints)
ceiling-fits (negsuc a) (pos b) f o = let h = div-le_self (suc a) b in omega (arith, ints)
ceiling-fits (negsuc a) (negsuc zero) f o =
    let e : a / 1 ≡ a = div-one a in
    let n : a ≡ 2 ^ 63 - 1 → ⊥ = λ p. o (ap negsuc p, refl) in
    let m : a < 2 ^ 63 - 1 = omega (arith, ints) in
    omega (arith, ints)
ceiling-fits (negsuc a) (negsuc (suc b)) f o = let h = half_at_most a b in omega (arith, ints)

-- ---- from Euclid's quotient
-- the quotient of the next number: one more where it divides, else the same
next : (k a : ℕ) → 0 < k → ((suc (a % k) ≡ k) × (suc a % k ≡ 0) × (suc a / k ≡ suc (a / k))) ⊎ ((suc (a % k) < k) × (suc a % k ≡ suc (a % k)) × (suc a / k ≡ a / k))
next k a h =
    let e = div-add-mod' a k in
    let l = mod-lt a h in
    let s = suc-mul (a / k) k in
    let t = suc-mul (suc (a / k)) k in
    let m = suc-mod a k in
    ⊎_elim (λ (p : suc (a % k) < k). inr (p, m ∙ mod-eq_of_lt p, div-eq_of_lt-le {k = a / k} k (omega arith) (omega arith)))
    (λ (p : suc (a % k) ≡ k). inl (p, m ∙ ap (λ (z : ℕ). z % k) p ∙ mod_self k, div-eq_of_lt-le {k = suc (a / k)} k (omega arith) (omega arith)))
    (below_or_at (suc (a % k)) (omega arith))
  where
    below_or_at : (r : ℕ) → r ≤ k → (r < k) ⊎ (r ≡ k)
    below_or_at r p = grind arith

pub floor_above : (n d : ℤ) → pos 0 <ℤ d → int_div_euclid n d ≡ floor n d
floor_above (pos a) (pos b) h = refl
floor_above (negsuc a) (pos b) h = refl
floor_above n (negsuc b) h = absurd h.lt

pub floor_even : (n d : ℤ) → d <ℤ pos 0 → int_rem_euclid n d ≡ pos 0 → int_div_euclid n d ≡ floor n d
floor_even n (pos b) h r = absurd (omega (arith, ints))
floor_even (pos zero) (negsuc b) h r = let z = zero-div (suc b) in omega (arith, ints)
floor_even (pos (suc m)) (negsuc b) h r = let k = next (suc b) m (omega arith) in omega (arith, ints)
floor_even (negsuc a) (negsuc b) h r = let k = next (suc b) a (omega arith) in omega (arith, ints)

pub floor_uneven : (n d : ℤ) → d <ℤ pos 0 → (int_rem_euclid n d ≡ pos 0 → ⊥) → int_div_euclid n d -ℤ pos 1 ≡ floor n d
floor_uneven n (pos b) h r = absurd (omega (arith, ints))
floor_uneven (pos zero) (negsuc b) h r = absurd (r (ap pos (zero-mod (suc b))))
floor_uneven (pos (suc m)) (negsuc b) h r = let k = next (suc b) m (omega arith) in omega (arith, ints)
floor_uneven (negsuc a) (negsuc b) h r = let k = next (suc b) a (omega arith) in omega (arith, ints)

-- by −d Euclid's quotient is the opposite, with the same rest; and the ceiling by d is the opposite of the floor by −d
opposite : (n : ℤ) (b : ℕ) → (neg_ℤ (int_div_euclid n (negsuc b)) ≡ int_div_euclid n (pos (suc b))) × (int_rem_euclid n (negsuc b) ≡ int_rem_euclid n (pos (suc b)))
opposite (pos a) b = (omega (arith, ints), refl)
opposite (negsuc a) b = (refl, refl)

pub ceiling_below : (n d : ℤ) → d <ℤ pos 0 → int_div_euclid n d ≡ ceiling n d
ceiling_below n (pos b) h = absurd (omega (arith, ints))
ceiling_below (pos zero) (negsuc b) h = refl
ceiling_below (pos (suc m)) (negsuc b) h = refl
ceiling_below (negsuc a) (negsuc b) h = refl

pub ceiling_even : (n d : ℤ) → pos 0 <ℤ d → int_rem_euclid n d ≡ pos 0 → int_div_euclid n d ≡ ceiling n d
ceiling_even n (pos zero) h r = absurd (omega (arith, ints))
ceiling_even n (pos (suc b)) h r = let o = opposite n b in sym o.0 ∙ ap neg_ℤ (floor_even n (negsuc b) (record { lt = tt }) (o.1 ∙ r))
ceiling_even n (negsuc b) h r = absurd h.lt

pub ceiling_uneven : (n d : ℤ) → pos 0 <ℤ d → (int_rem_euclid n d ≡ pos 0 → ⊥) → int_div_euclid n d +ℤ pos 1 ≡ ceiling n d
ceiling_uneven n (pos zero) h r = absurd (omega (arith, ints))
ceiling_uneven n (pos (suc b)) h r =
    let o = opposite n b in
    let f = floor_uneven n (negsuc b) (record { lt = tt }) (λ e. r (sym o.1 ∙ e)) in
    omega (arith, ints)
ceiling_uneven n (negsuc b) h r = absurd h.lt

-- ---- from a quotient rounded toward zero
-- the signs differ: n one nearer to zero, and one less
pub floor_turned_down : (n d : ℤ) → pos 0 <ℤ n → d <ℤ pos 0 → quot_z (n -ℤ pos 1) d -ℤ pos 1 ≡ floor n d
floor_turned_down (pos zero) d h k = absurd h.lt
floor_turned_down (pos (suc m)) (pos b) h k = absurd (omega (arith, ints))
floor_turned_down (pos (suc m)) (negsuc b) h k =
    let e : pos (suc m) -ℤ pos 1 ≡ pos m = omega (arith, ints) in
    ap (λ (z : ℤ). quot_z z (negsuc b) -ℤ pos 1) e ∙ omega (arith, ints)
floor_turned_down (negsuc a) d h k = absurd h.lt

pub floor_turned_up : (n d : ℤ) → n <ℤ pos 0 → pos 0 <ℤ d → quot_z (n +ℤ pos 1) d -ℤ pos 1 ≡ floor n d
floor_turned_up (pos a) d h k = absurd (omega (arith, ints))
floor_turned_up (negsuc a) (negsuc b) h k = absurd k.lt
floor_turned_up (negsuc a) (pos b) h k = from a
  where
    from : (a : ℕ) → quot_z (negsuc a +ℤ pos 1) (pos b) -ℤ pos 1 ≡ negsuc (a / b)
    from zero = let z = zero-div b in omega (arith, ints)
    from (suc m) =
        let e : negsuc (suc m) +ℤ pos 1 ≡ negsuc m = omega (arith, ints) in
        ap (λ (z : ℤ). quot_z z (pos b) -ℤ pos 1) e ∙ omega (arith, ints)

-- ---- the answer
in_range : (q : ℤ) → SFits w64 q → fits q ≡ true
in_range q f = grind (arith, ints)

pub answered : (d q : ℤ) → (d ≡ pos 0 → ⊥) → SFits w64 q → Some q ≡ if_fits d q
answered (pos zero) q z f = absurd (z refl)
answered (pos (suc d)) q z f = ap (λ (t : Bool). cond t (Some q) None) (sym (in_range q f))
answered (negsuc d) q z f = ap (λ (t : Bool). cond t (Some q) None) (sym (in_range q f))

-- what the answer, a quotient or none, means
module _ (P : ℤ → Type 0) (q : ℤ) (p : P q) where
  held_where : (t : Bool) → IfSome (cond t (Some q) None) P
  held_where true = p
  held_where false = tt

  held : (d : ℤ) → IfSome (if_fits d q) P
  held (pos zero) = tt
  held (pos (suc d)) = held_where (fits q)
  held (negsuc d) = held_where (fits q)

pub floor_means : (n d : ℤ) (r : Option ℤ) → r ≡ floor_div n d → IfSome r (IsFloor n d)
floor_means n d r e = subst (λ (o : Option ℤ). IfSome o (IsFloor n d)) (sym e) (held (IsFloor n d) (floor n d) (floor_is n d) d)

pub ceiling_means : (n d : ℤ) (r : Option ℤ) → r ≡ ceil_div n d → IfSome r (IsCeiling n d)
ceiling_means n d r e = subst (λ (o : Option ℤ). IfSome o (IsCeiling n d)) (sym e) (held (IsCeiling n d) (ceiling n d) (ceiling_is n d) d)

-- what is known once a checked quotient is there, and what an answer z is
can_divide : (n d : ℤ) → CanDivide w64 n d → (Overflows n d → ⊥) × (d ≡ pos 0 → ⊥)
can_divide n d (z, f) = (λ o. let g = rw (o.0, o.1) at f in omega (arith, ints), λ e. omega (arith, ints))

pub record Told (n d : ℤ) (answer : ℤ → ℤ → Option ℤ) (Is : ℤ → ℤ → ℤ → Type 0) (z : ℤ) : Type 0 where
  pub fits : SFits w64 z
  pub value : Some z ≡ answer n d
  pub meaning : Is n d z

module _ (n d z : ℤ) (f : SFits w64 n) (can : CanDivide w64 n d) where
  pub told_floor : z ≡ floor n d → Told n d floor_div IsFloor z
  told_floor e =
      let c = can_divide n d can in
      let g = floor-fits n d f c.0 in
      record { fits = subst (SFits w64) (sym e) g; value = ap Some e ∙ answered d (floor n d) c.1 g; meaning = subst (IsFloor n d) (sym e) (floor_is n d) }

  pub told_ceiling : z ≡ ceiling n d → Told n d ceil_div IsCeiling z
  told_ceiling e =
      let c = can_divide n d can in
      let g = ceiling-fits n d f c.0 in
      record { fits = subst (SFits w64) (sym e) g; value = ap Some e ∙ answered d (ceiling n d) c.1 g; meaning = subst (IsCeiling n d) (sym e) (ceiling_is n d) }
