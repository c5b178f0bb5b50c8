-- The quotient n/d of two whole numbers rounded down and up, for every d but 0, and what the 64-bit functions answer.
use Rattle.std.specs.Prelude.{ℕ, zero, suc, ◌-◌, ◌/◌, ◌^◌, Bool, cond, ◌&&◌, ℤ, pos, negsuc, ◌+ℤ◌, ◌*ℤ◌, neg_ℤ, ◌≤ℤ◌, ◌<ℤ◌, Some, None, Option, int_le}

-- by a whole number above 0: −(a + 1) over k, rounded down, is −(a/k + 1)
abbrev pub floor_by : ℤ → ℕ → ℤ
floor_by (pos a) k = pos (a / k)
floor_by (negsuc a) k = negsuc (a / k)

-- by d of either sign: n/d is (−n)/(−d)
abbrev pub floor : ℤ → ℤ → ℤ
floor n (pos d) = floor_by n d
floor n (negsuc d) = floor_by (neg_ℤ n) (suc d)

abbrev pub ceiling : ℤ → ℤ → ℤ
ceiling n d = neg_ℤ (floor (neg_ℤ n) d)

-- the whole numbers of 64 bits
abbrev pub fits : ℤ → Bool
fits z = int_le (negsuc (2 ^ 63 - 1)) z && int_le z (pos (2 ^ 63 - 1))

-- a quotient by d, or None where d is 0 or the quotient passes 64 bits
abbrev pub if_fits : ℤ → ℤ → Option ℤ
if_fits (pos zero) q = None
if_fits (pos (suc d)) q = cond (fits q) (Some q) None
if_fits (negsuc d) q = cond (fits q) (Some q) None

-- what `floor_div` and `ceil_div` answer
abbrev pub floor_div : ℤ → ℤ → Option ℤ
floor_div n d = if_fits d (floor n d)

abbrev pub ceil_div : ℤ → ℤ → Option ℤ
ceil_div n d = if_fits d (ceiling n d)

-- q ≤ n/d < q + 1, multiplied by d: a negative d turns the order round
pub record IsFloor (n d q : ℤ) : Type 0 where
  pub above : pos 0 <ℤ d → ((q *ℤ d) ≤ℤ n) × (n <ℤ ((q +ℤ pos 1) *ℤ d))
  pub below : d <ℤ pos 0 → (n ≤ℤ (q *ℤ d)) × (((q +ℤ pos 1) *ℤ d) <ℤ n)

-- q − 1 < n/d ≤ q
pub record IsCeiling (n d q : ℤ) : Type 0 where
  pub above : pos 0 <ℤ d → (((q +ℤ negsuc 0) *ℤ d) <ℤ n) × (n ≤ℤ (q *ℤ d))
  pub below : d <ℤ pos 0 → (n <ℤ ((q +ℤ negsuc 0) *ℤ d)) × ((q *ℤ d) ≤ℤ n)
