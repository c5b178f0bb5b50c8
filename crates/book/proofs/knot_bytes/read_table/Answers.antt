use Rattle.std.proofs.Common.{◌≡◌, List, ◌∙◌, subst}
use Rattle.knots.specs.declared.knots.Knot.{Knot}
use Rattle.book.specs.Records.{body_reading, body_knots}
use Rattle.book.specs.Reading.{TableRead}
use Rattle.book.proofs.Knotting.{knots_read}
use Rattle.book.proofs.knot_bytes.read_table.Goals as goal

pub returns : goal.returns
returns c =
    let body = c.args.body.now in
    let e : c.as_slice.result.now ≡ body_knots body = c.as_slice.ensures ∙ c.loop-bytes.invariant ∙ knots_read body c.loop-bytes.bytes-index c.as_chunks.result.0.now c.requires c.as_chunks.ensures.front c.loop-bytes-test.false in
    subst (λ (ks : List Knot). TableRead c.args.tables (body_reading body) ks c.table_of.result) e c.table_of.ensures
