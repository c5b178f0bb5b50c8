-- The numbers on the way to an enclosure fit 64 bits.
use Rattle.std.proofs.Common.{◌≡◌, ℕ, ◌^◌, ◌≤◌, ℤ, pos, ◌+ℤ◌, ◌-ℤ◌, ◌*ℤ◌, nat_abs, Option, unwrap_or, sym, ap, arith, w32, w64, SFits, to_z, of_z}
use borrow.Author.Differences.{ints}
use Rattle.std.specs.Int.{int_min, int_max}
use Rattle.std.proofs.lemmas.Int.{clamps}
use Rattle.exact.specs.Rounding.{floor, ceiling, floor_div, ceil_div}
use Rattle.exact.proofs.Integers.{product_size}
use Rattle.exact.proofs.Dividing.{Overflows, floor-fits, ceiling-fits, answered}
use Rattle.interval.specs.Rules.{least, greatest}

pub product_of_ends : (a d : ℤ) → SFits w32 a → SFits w32 d → nat_abs (a *ℤ d) ≤ 2 ^ 62
product_of_ends a d f g = product_size a d (2 ^ 31) (2 ^ 31) (omega (arith, ints)) (omega (arith, ints))

least_size : (a b : ℤ) (n : ℕ) → nat_abs a ≤ n → nat_abs b ≤ n → nat_abs (int_min a b) ≤ n
least_size a b n h k = omega (arith, ints, clamps)

greatest_size : (a b : ℤ) (n : ℕ) → nat_abs a ≤ n → nat_abs b ≤ n → nat_abs (int_max a b) ≤ n
greatest_size a b n h k = omega (arith, ints, clamps)

module _ (a b c d : ℤ) (n : ℕ) (ha : nat_abs a ≤ n) (hb : nat_abs b ≤ n) (hc : nat_abs c ≤ n) (hd : nat_abs d ≤ n) where
  pub least_of_size : nat_abs (least a b c d) ≤ n
  least_of_size = least_size (int_min a b) (int_min c d) n (least_size a b n ha hb) (least_size c d n hc hd)

  pub greatest_of_size : nat_abs (greatest a b c d) ≤ n
  greatest_of_size = greatest_size (int_max a b) (int_max c d) n (greatest_size a b n ha hb) (greatest_size c d n hc hd)

-- a quotient of a dividend within 2^62 is answered
small : (n d : ℤ) → nat_abs n ≤ 2 ^ 62 → Overflows n d → ⊥
small n d h o = let e = o.0 in omega (arith, ints)

small_fits : (n : ℤ) → nat_abs n ≤ 2 ^ 62 → SFits w64 n
small_fits n h = omega (arith, ints)

module _ (n d : ℤ) (h : nat_abs n ≤ 2 ^ 62) (z : d ≡ pos 0 → ⊥) where
  pub floor_answered : unwrap_or (floor_div n d) (pos 0) ≡ floor n d
  floor_answered = ap (λ (o : Option ℤ). unwrap_or o (pos 0)) (sym (answered d (floor n d) z (floor-fits n d (small_fits n h) (small n d h))))

  pub ceiling_answered : unwrap_or (ceil_div n d) (pos 0) ≡ ceiling n d
  ceiling_answered = ap (λ (o : Option ℤ). unwrap_or o (pos 0)) (sym (answered d (ceiling n d) z (ceiling-fits n d (small_fits n h) (small n d h))))

-- sums of ends fit 64 bits
pub sum_again : (a d : ℤ) → SFits w32 a → SFits w32 d → to_z w64 (of_z w64 (a +ℤ d)) ≡ a +ℤ d
sum_again a d f g = omega (arith, ints)

pub difference_again : (a e : ℤ) → SFits w32 a → SFits w32 e → to_z w64 (of_z w64 (a -ℤ e)) ≡ a -ℤ e
difference_again a e f g = omega (arith, ints)
