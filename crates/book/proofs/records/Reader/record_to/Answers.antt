use Rattle.book.specs.Told.{said_of}
use Rattle.book.proofs.Parts.{parts_lem}
use Rattle.book.proofs.records.Reader.record_to.Goals as goal

pub returns : goal.returns
returns c = let s = c.args.self.now in parts_lem s.book.now s.at c.args.end (said_of c.args.contents)
