use Rattle.std.proofs.Common.{◌≡◌, map, take}
use Rattle.bounded.specs.Lists.{items_of}
use Rattle.book.specs.Records.{knot_of}
use Rattle.book.proofs.knot_bytes.read_table.Given as goal

-- the knots of the bytes so far
abbrev pub invariant-loop-bytes : goal.invariant-loop-bytes
invariant-loop-bytes l = items_of l.knots ≡ map knot_of (take l.bytes-index l.bytes-items)
