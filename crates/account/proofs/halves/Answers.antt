use Rattle.std.proofs.Common.{◌≡◌, false, pos, ◌-ℤ◌, arith, w32, w64, SFits, rules}
use lib.Signed.{le_z}
use borrow.Author.Differences.{ints}
use Rattle.std.proofs.lemmas.Int.{to_z-of_z}
use Rattle.account.proofs.Narrowing.{halves_are, left_narrower, right_narrower}
use Rattle.account.proofs.halves.Goals as goal

pub returns : goal.returns
returns c =
    let cell = c.args.cell in
    let f : SFits w32 cell.lo = search rules in
    let g : SFits w32 cell.hi = search rules in
    let f' : SFits w64 cell.lo = omega (arith, ints) in
    let g' : SFits w64 cell.hi = omega (arith, ints) in
    let d : SFits w64 (cell.hi -ℤ cell.lo) = omega (arith, ints) in
    let m = c.middle-c.result in
    let k : SFits w32 m = record { sfits = c.middle-c.type_inv } in
    let e = c.middle-c.ensures in
    let w : le_z (cell.hi -ℤ cell.lo) (pos 10) ≡ false = simp to_z-of_z at c.if-cell-le-WIDTH.false in
    record { value = simp to_z-of_z (halves_are cell m w e); narrower = (simp to_z-of_z (left_narrower cell m w e), simp to_z-of_z (right_narrower cell m w e)) }
