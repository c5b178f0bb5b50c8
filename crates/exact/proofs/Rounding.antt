-- What floor and ceiling mean by inequalities, and what division toward zero gives of them.
use Rattle.std.proofs.Common.{ℕ, suc, ◌/◌, ◌<◌, ◌≤◌, ℤ, pos, negsuc, ◌+ℤ◌, ◌*ℤ◌, neg_ℤ, nat_abs, ◌≤ℤ◌, ◌<ℤ◌, refl, mod-lt, suc-mul, add-mul, div-add-mod', div-le_self, arith}
use borrow.Author.Differences.{ints}
use Rattle.exact.specs.Rounding.{floor_by, floor, ceiling, IsFloor, IsCeiling}
use Rattle.exact.proofs.Integers.{linear}
use Rattle.exact.proofs.Ring.{lit, ◌⊕◌, ◌⊗◌, ⊖◌, ◌≐◌, ring2}

-- ---- what they mean
floor_by_lem : (z : ℤ) (k : ℕ) → 0 < k → ((floor_by z k *ℤ pos k) ≤ℤ z) × (z <ℤ ((floor_by z k +ℤ pos 1) *ℤ pos k))
floor_by_lem (pos a) k h = let e = div-add-mod' a k in let l = mod-lt a h in let d = add-mul (a / k) 1 k in (omega (arith, ints), omega (arith, ints))
floor_by_lem (negsuc a) k h = let e = div-add-mod' a k in let l = mod-lt a h in let d = add-mul (a / k) 1 k in let s = suc-mul (a / k) k in
    let r = ring2 (negsuc (a / k)) (pos k) (λ F K. (F ⊕ lit (pos 1)) ⊗ K ≐ F ⊗ K ⊕ K) refl in (omega (arith, ints), omega (arith, ints))

floor_above : (n d : ℤ) → pos 0 <ℤ d → ((floor n d *ℤ d) ≤ℤ n) × (n <ℤ ((floor n d +ℤ pos 1) *ℤ d))
floor_above n (pos d) h = floor_by_lem n d (omega (arith, ints))
floor_above n (negsuc d) h = absurd h.lt

floor_below : (n d : ℤ) → d <ℤ pos 0 → (n ≤ℤ (floor n d *ℤ d)) × (((floor n d +ℤ pos 1) *ℤ d) <ℤ n)
floor_below n (pos d) h = absurd (omega (arith, ints))
floor_below n (negsuc d) h =
    let f = floor_by_lem (neg_ℤ n) (suc d) (omega arith) in
    let q = floor_by (neg_ℤ n) (suc d) in
    let e = ring2 q (pos (suc d)) (λ Q D. Q ⊗ ⊖ D ≐ ⊖ (Q ⊗ D)) refl in
    let g = ring2 q (pos (suc d)) (λ Q D. (Q ⊕ lit (pos 1)) ⊗ ⊖ D ≐ ⊖ ((Q ⊕ lit (pos 1)) ⊗ D)) refl in
    (omega (arith, linear), omega (arith, linear))

pub floor_is : (n d : ℤ) → IsFloor n d (floor n d)
floor_is n d = record { above = floor_above n d; below = floor_below n d }

pub ceiling_is : (n d : ℤ) → IsCeiling n d (ceiling n d)
ceiling_is n d =
    let q = floor (neg_ℤ n) d in
    let e = ring2 q d (λ F D. ⊖ F ⊗ D ≐ ⊖ (F ⊗ D)) refl in
    let g = ring2 q d (λ F D. (⊖ F ⊕ lit (negsuc 0)) ⊗ D ≐ ⊖ ((F ⊕ lit (pos 1)) ⊗ D)) refl in
    record {
      above = λ h. let f = floor_above (neg_ℤ n) d h in (omega (arith, linear), omega (arith, linear));
      below = λ h. let f = floor_below (neg_ℤ n) d h in (omega (arith, linear), omega (arith, linear));
    }

-- ---- no larger than the dividend
floor_by_size : (n : ℤ) (k : ℕ) → nat_abs (floor_by n k) ≤ nat_abs n
floor_by_size (pos a) k = div-le_self a k
floor_by_size (negsuc a) k = omega (arith, div-le_self a k)

pub floor_size : (n d : ℤ) → nat_abs (floor n d) ≤ nat_abs n
floor_size n (pos d) = floor_by_size n d
floor_size n (negsuc d) = let h = floor_by_size (neg_ℤ n) (suc d) in omega (arith, ints)

pub ceiling_size : (n d : ℤ) → nat_abs (ceiling n d) ≤ nat_abs n
ceiling_size n d = let h = floor_size (neg_ℤ n) d in omega (arith, ints)
