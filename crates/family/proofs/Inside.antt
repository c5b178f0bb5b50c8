-- What existing cells and readings have: ends that ascend, a middle inside, ends within the limit.
use Rattle.std.proofs.Common.{◌≡◌, Bool, true, ◌&&◌, ℤ, pos, ◌+ℤ◌, ◌-ℤ◌, ◌*ℤ◌, neg_ℤ, ◌≤ℤ◌, Some, None, Option, refl, arith}
use lib.Signed.{le_z}
use borrow.Author.Differences.{ints}
use Rattle.std.proofs.lemmas.Bool.{and_parts}
use Rattle.exact.specs.Fraction.{Fraction, whole, in_units, minus}
use Rattle.exact.proofs.Integers.{linear, ≤ℤ-mul}
use Rattle.exact.proofs.Ring.{lit, ◌⊕◌, ◌⊗◌, ◌⊝◌, ⊖◌, ◌≐◌, ring2, ring6}
use Rattle.exact.proofs.Rounding.{floor_is}
use Rattle.interval.specs.Rules.{limit, within}
use Rattle.interval.specs.Meaning.{Between, InRange}
use Rattle.family.specs.declared.cells.Cell.{Cell}
use Rattle.family.specs.declared.readings.Reading.{Reading}
use Rattle.family.specs.Readings.{RowOf, reading_at, reading_pair, Allows, Allowed}
use Rattle.family.specs.Cells.{span, exists, middle, Within, InCell}

all_true : (a b c : Bool) → (a && (b && c)) ≡ true → (a ≡ true) × (b ≡ true) × (c ≡ true)
all_true a b c e = let h = and_parts a (b && c) e in let k = and_parts b c h.1 in (h.0, k.0, k.1)

pub ascends : (c : Cell) → exists c ≡ true → c.lo ≤ℤ c.hi
ascends c e = let o = all_true (le_z (neg_ℤ span) c.lo) (le_z c.lo c.hi) (le_z c.hi span) e in let p = o.1 in omega (arith, ints)

pub middle-inside : (c : Cell) → exists c ≡ true → InCell c (whole (middle c))
middle-inside c e =
    let f = (floor_is (c.lo +ℤ c.hi) (pos 2)).above (record { lt = tt }) in
    let o = ascends c e in
    (omega (arith, ints), omega (arith, ints))

ends_within : (lo hi : ℤ) → le_z (neg_ℤ limit) lo ≡ true → le_z lo hi ≡ true → le_z hi limit ≡ true → (within lo ≡ true) × (within hi ≡ true)
ends_within lo hi p q r = (grind (arith, ints), grind (arith, ints))

reading_within : (r : Reading) → (within r.lo ≡ true) × (within r.hi ≡ true)
reading_within r =
    let h = all_true (le_z (neg_ℤ limit) r.lo) (le_z r.lo r.hi) (le_z r.hi limit) r.valid in
    ends_within r.lo r.hi h.0 h.1 h.2

pub reading_range : (o : Option Reading) → InRange (reading_pair o)
reading_range None = tt
reading_range (Some r) = reading_within r

-- from counts to units: lo ≤ u ≤ hi, and 1000 times u/1000 is u
scaled : (k d : ℤ) → k *ℤ (d *ℤ pos 1000) ≡ pos 1000 *ℤ (k *ℤ d)
scaled k d = ring2 k d (λ K D. K ⊗ (D ⊗ lit (pos 1000)) ≐ lit (pos 1000) ⊗ (K ⊗ D)) refl

pub units_between : (lo hi : ℤ) (u : Fraction) → Within lo hi u → Between lo hi (in_units u)
units_between lo hi u h =
    let d = pos u.den in
    let e = scaled lo d in
    let f = scaled hi d in
    (omega (arith, ints, h.0), omega (arith, ints, h.1))

-- a difference: p ≤ u ≤ q and lo ≤ v ≤ hi give p − hi ≤ u − v ≤ q − lo
module _ (z y a b c d : ℤ) (hb : pos 0 ≤ℤ b) (hd : pos 0 ≤ℤ d) where
  low_minus : (z *ℤ b) ≤ℤ a → c ≤ℤ (y *ℤ d) → ((z -ℤ y) *ℤ (b *ℤ d)) ≤ℤ (a *ℤ d +ℤ neg_ℤ c *ℤ b)
  low_minus h k =
      let m = ≤ℤ-mul (z *ℤ b) a d h hd in
      let n = ≤ℤ-mul c (y *ℤ d) b k hb in
      let e = ring6 z y a b c d (λ Z Y A B C D. (Z ⊝ Y) ⊗ (B ⊗ D) ≐ (Z ⊗ B) ⊗ D ⊝ (Y ⊗ D) ⊗ B) refl in
      let f = ring6 z y a b c d (λ Z Y A B C D. A ⊗ D ⊕ ⊖ C ⊗ B ≐ A ⊗ D ⊝ C ⊗ B) refl in
      omega (arith, linear)

  high_minus : a ≤ℤ (z *ℤ b) → (y *ℤ d) ≤ℤ c → (a *ℤ d +ℤ neg_ℤ c *ℤ b) ≤ℤ ((z -ℤ y) *ℤ (b *ℤ d))
  high_minus h k =
      let m = ≤ℤ-mul a (z *ℤ b) d h hd in
      let n = ≤ℤ-mul (y *ℤ d) c b k hb in
      let e = ring6 z y a b c d (λ Z Y A B C D. (Z ⊝ Y) ⊗ (B ⊗ D) ≐ (Z ⊗ B) ⊗ D ⊝ (Y ⊗ D) ⊗ B) refl in
      let f = ring6 z y a b c d (λ Z Y A B C D. A ⊗ D ⊕ ⊖ C ⊗ B ≐ A ⊗ D ⊝ C ⊗ B) refl in
      omega (arith, linear)

pub within-minus : (p q lo hi : ℤ) (u v : Fraction) → Within p q u → Within lo hi v → Within (p -ℤ hi) (q -ℤ lo) (minus u v)
within-minus p q lo hi u v h k =
    let b : pos 0 ≤ℤ pos u.den = omega (arith, ints) in
    let d : pos 0 ≤ℤ pos v.den = omega (arith, ints) in
    (low_minus p hi u.num (pos u.den) v.num (pos v.den) b d h.0 k.1, high_minus q lo u.num (pos u.den) v.num (pos v.den) b d h.1 k.0)

-- ---- every row allows some temperatures, and every cell that exists has a point
abbrev pub some_temperature : Option Reading → Fraction
some_temperature None = whole (pos 0)
some_temperature (Some r) = whole r.lo

pub some_allowed : (row : RowOf) → Allowed row (λ n. some_temperature (reading_at row n))
some_allowed row n = by (reading_at row n)
  where
    by : (o : Option Reading) → Allows o (some_temperature o)
    by None = tt
    by (Some r) =
        let h = all_true (le_z (neg_ℤ limit) r.lo) (le_z r.lo r.hi) (le_z r.hi limit) r.valid in
        let o = h.1 in
        (omega (arith, ints), omega (arith, ints))
