use Rattle.std.proofs.Common.{◌-◌, length}
use Rattle.book.specs.Told.{place_of}
use Rattle.book.specs.Loading.{listing, tabling}
use Rattle.book.proofs.Gathering.{Loading}
use Rattle.book.proofs.loading.load.Given as goal

-- what is gathered and what is left make up the book
abbrev pub invariant-loop-read : goal.invariant-loop-read
invariant-loop-read l = Loading l.book l.reader.book.now (place_of l.reader) (listing l.curves) (tabling l.knots)

-- how many bytes are left
abbrev pub decreases-loop-read : goal.decreases-loop-read
decreases-loop-read l = length l.book - l.reader.at
