use Rattle.std.proofs.Common.{◌^◌, ◌*ℤ◌, arith, w64, SFits}
use borrow.Author.Differences.{ints}
use Rattle.std.proofs.lemmas.Int.{to_z-of_z}
use Rattle.exact.proofs.Integers.{product_size}
use Rattle.knots.proofs.tables.heights.weighted.Goals as goal

pub returns : goal.returns
returns c =
    let f = c.ranges.y in
    let g = c.ranges.way in
    let f' : SFits w64 c.args.y = omega (arith, ints) in
    let s = product_size c.args.y c.args.way (2 ^ 31) (2 ^ 21) (omega (arith, ints)) c.requires in
    let p : SFits w64 (c.args.y *ℤ c.args.way) = omega (arith, ints) in
    record { value = simp to_z-of_z; size = simp to_z-of_z s }
