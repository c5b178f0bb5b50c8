-- Each half of a wide cell is narrower.
use Rattle.std.proofs.Common.{◌≡◌, ◌<◌, false, cond, ℤ, pos, ◌+ℤ◌, ◌-ℤ◌, nat_abs, ◌<ℤ◌, Some, None, sym, ◌∙◌, arith}
use lib.Signed.{le_z}
use borrow.Author.Differences.{ints}
use Rattle.exact.proofs.Rounding.{floor_is}
use Rattle.family.specs.declared.cells.Cell.{Cell}
use Rattle.family.specs.Cells.{middle}
use Rattle.account.specs.Cells.{width, halved}

module _ (c : Cell) (m : ℤ) (wide : le_z (c.hi -ℤ c.lo) (pos 10) ≡ false) (e : m ≡ middle c) where
  pub halves_are : Some (record { lo = c.lo; hi = m }, record { lo = m; hi = c.hi }) ≡ halved c
  halves_are = (λ i. Some (record { lo = c.lo; hi = e i }, record { lo = e i; hi = c.hi })) ∙ sym (λ i. cond (wide i) None (Some (record { lo = c.lo; hi = middle c }, record { lo = middle c; hi = c.hi })))

  inside : (c.lo <ℤ m) × (m <ℤ c.hi)
  inside = let f = (floor_is (c.lo +ℤ c.hi) (pos 2)).above (record { lt = tt }) in
      let w : pos 10 <ℤ (c.hi -ℤ c.lo) = omega (arith, ints) in (omega (arith, ints), omega (arith, ints))

  pub left_narrower : nat_abs (m -ℤ c.lo) < width c
  left_narrower = let h = inside in omega (arith, ints)

  pub right_narrower : nat_abs (c.hi -ℤ m) < width c
  right_narrower = let h = inside in omega (arith, ints)
