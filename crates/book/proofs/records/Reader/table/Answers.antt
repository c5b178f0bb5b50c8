use Rattle.std.proofs.Common.{ap, ◌∙◌, rules}
use Rattle.std.proofs.lemmas.Result.{err_from_is_err_and}
use Rattle.book.specs.declared.refusals.Layer.TheVariants.{Record as RecordLayer}
use Rattle.book.specs.Records.{found, stopped}
use Rattle.book.proofs.Mapped.{mapped_ok, mapped_err}
use Rattle.book.proofs.Parts.{BodyRead, table_there, table_refused}
use Rattle.book.proofs.records.Reader.table.Goals as goal

pub returns-in_err-table : goal.returns-in_err-table
returns-in_err-table c =
    let s = c.args.self.now in
    let w = c.args.width in
    let x = mapped_err (BodyRead s.book.now s.at w s.tables) RecordLayer s.at c.read_table-read.result c.in_err-table.field-0.0 c.read_table-read.ensures (search rules) in
    let p = err_from_is_err_and c.from_residual.result c.from_residual.ensures.1 in
    rw (p.1, p.2) (ap (λ r. stopped r) x.2 ∙ table_refused s.book.now s.at w c.requires.count c.requires.whole s.tables x.0 x.1)

pub returns : goal.returns
returns c =
    let s = c.args.self.now in
    let w = c.args.width in
    let x = mapped_ok (BodyRead s.book.now s.at w s.tables) RecordLayer s.at c.read_table-read.result c.in_ok-table.table c.read_table-read.ensures c.in_ok-table.ensures.cases in
    ap (λ e. found e) c.record_to.ensures ∙ table_there s.book.now s.at w c.requires.count c.requires.whole s.tables c.in_ok-table.table x
