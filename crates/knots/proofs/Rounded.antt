-- Rounding keeps the order, so the least height rounded down is the least of the rounded heights.
use Rattle.std.proofs.Common.{◌≡◌, ℤ, pos, ◌+ℤ◌, ◌*ℤ◌, ◌≤ℤ◌, ◌<ℤ◌, refl, arith}
use borrow.Author.Differences.{ints}
use Rattle.std.specs.Int.{int_min, int_max}
use Rattle.std.proofs.lemmas.Int.{clamps}
use Rattle.exact.specs.Fraction.{Fraction, whole, negated, smaller, larger, floor_of, ceiling_of, ◌≼◌}
use Rattle.exact.proofs.Integers.{linear, by_order, ≤ℤ-mul, <ℤ-mul, neg-*ℤ}
use Rattle.exact.proofs.Ring.{lit, ◌⊕◌, ◌⊗◌, ◌≐◌, ring3}
use Rattle.exact.proofs.Fractions.{den_pos, ≺-≼, ≼_trans}
use Rattle.exact.proofs.Rounding.{floor_is, ceiling_is}
use Rattle.interval.proofs.OneEnd.{larger_by}
use Rattle.family.specs.Cells.{Within}
use Rattle.knots.proofs.Picks.{smaller_by}

-- f ≤ a/b ≤ c/d < g + 1
in_order : (f g a b c d : ℤ) → pos 0 <ℤ b → pos 0 <ℤ d → (f *ℤ b) ≤ℤ a → c <ℤ ((g +ℤ pos 1) *ℤ d) → (a *ℤ d) ≤ℤ (c *ℤ b) → f ≤ℤ g
in_order f g a b c d hb hd p q h = by_order f g (λ o. o) (λ o.
    let m = ≤ℤ-mul (f *ℤ b) a d p (omega (arith, linear)) in
    let n = <ℤ-mul c ((g +ℤ pos 1) *ℤ d) b q hb in
    let o' : (g +ℤ pos 1) ≤ℤ f = omega (arith, ints) in
    let bd = ≤ℤ-mul (pos 0) b d (omega (arith, linear)) (omega (arith, linear)) in
    let k = ≤ℤ-mul (g +ℤ pos 1) f (b *ℤ d) o' (omega (arith, ints)) in
    let e = ring3 f b d (λ F B D. (F ⊗ B) ⊗ D ≐ F ⊗ (B ⊗ D)) refl in
    let i = ring3 g b d (λ G B D. ((G ⊕ lit (pos 1)) ⊗ D) ⊗ B ≐ (G ⊕ lit (pos 1)) ⊗ (B ⊗ D)) refl in
    absurd (omega (arith, linear)))

pub floor_mono : (u v : Fraction) → u ≼ v → floor_of u ≤ℤ floor_of v
floor_mono u v h = in_order (floor_of u) (floor_of v) u.num (pos u.den) v.num (pos v.den) (den_pos u) (den_pos v)
    ((floor_is u.num (pos u.den)).above (den_pos u)).0 ((floor_is v.num (pos v.den)).above (den_pos v)).1 h

-- the ceiling is the floor of the opposite, turned round
pub ceiling_mono : (u v : Fraction) → u ≼ v → ceiling_of u ≤ℤ ceiling_of v
ceiling_mono u v h =
    let e = neg-*ℤ u.num (pos v.den) in
    let f = neg-*ℤ v.num (pos u.den) in
    let m = floor_mono (negated v) (negated u) (omega (arith, linear)) in
    omega (arith, linear)

pub floor-smaller : (u v : Fraction) → floor_of (smaller u v) ≡ int_min (floor_of u) (floor_of v)
floor-smaller u v = smaller_by (λ w. floor_of w ≡ int_min (floor_of u) (floor_of v)) u v
    (λ h. let m = floor_mono u v h in first (floor_of u) (floor_of v) m)
    (λ h. let m = floor_mono v u (≺-≼ v u h) in second (floor_of u) (floor_of v) m)
  where
    first : (a b : ℤ) → a ≤ℤ b → a ≡ int_min a b
    first a b h = omega (arith, ints, clamps)

    second : (a b : ℤ) → b ≤ℤ a → b ≡ int_min a b
    second a b h = omega (arith, ints, clamps)

pub ceiling-larger : (u v : Fraction) → ceiling_of (larger u v) ≡ int_max (ceiling_of u) (ceiling_of v)
ceiling-larger u v = larger_by (λ w. ceiling_of w ≡ int_max (ceiling_of u) (ceiling_of v)) u v
    (λ h. let m = ceiling_mono v u h in first (ceiling_of u) (ceiling_of v) m)
    (λ h. let m = ceiling_mono u v (≺-≼ u v h) in second (ceiling_of u) (ceiling_of v) m)
  where
    first : (a b : ℤ) → b ≤ℤ a → a ≡ int_max a b
    first a b h = omega (arith, ints, clamps)

    second : (a b : ℤ) → a ≤ℤ b → b ≡ int_max a b
    second a b h = omega (arith, ints, clamps)

-- a whole count is its own floor and ceiling
pub floor-whole : (z : ℤ) → floor_of (whole z) ≡ z
floor-whole z = let f = (floor_is z (pos 1)).above (record { lt = tt }) in omega (arith, ints)

pub ceiling-whole : (z : ℤ) → ceiling_of (whole z) ≡ z
ceiling-whole z = let f = (ceiling_is z (pos 1)).above (record { lt = tt }) in omega (arith, ints)

-- a fraction lies between what bounds it, rounded outward
pub around : (u v w : Fraction) → u ≼ v → v ≼ w → Within (floor_of u) (ceiling_of w) v
around u v w h k =
    let a = ((floor_is u.num (pos u.den)).above (den_pos u)).0 in
    let b = ((ceiling_is w.num (pos w.den)).above (den_pos w)).1 in
    let low = ≼_trans (whole (floor_of u)) u v (omega (arith, ints)) h in
    let high = ≼_trans v w (whole (ceiling_of w)) k (omega (arith, ints)) in
    (omega (arith, ints), omega (arith, ints))

-- bounds that are whole counts bound the floor and the ceiling too
pub floor_between : (lo hi : ℤ) (u : Fraction) → whole lo ≼ u → u ≼ whole hi → (lo ≤ℤ floor_of u) × (floor_of u ≤ℤ hi)
floor_between lo hi u h k =
    let a = floor_mono (whole lo) u h in
    let b = floor_mono u (whole hi) k in
    let c = floor-whole lo in
    let d = floor-whole hi in
    (omega (arith, linear), omega (arith, linear))

pub ceiling_between : (lo hi : ℤ) (u : Fraction) → whole lo ≼ u → u ≼ whole hi → (lo ≤ℤ ceiling_of u) × (ceiling_of u ≤ℤ hi)
ceiling_between lo hi u h k =
    let a = ceiling_mono (whole lo) u h in
    let b = ceiling_mono u (whole hi) k in
    let c = ceiling-whole lo in
    let d = ceiling-whole hi in
    (omega (arith, linear), omega (arith, linear))
