use Rattle.std.proofs.Common.{sym, ap, ◌∙◌, drop}
use Rattle.std.proofs.lemmas.Result.{err_from_is_err_and}
use Rattle.book.specs.Records.{found, curve_by}
use Rattle.book.proofs.Parts.{curve_there}
use Rattle.book.proofs.records.Reader.curve.Goals as goal

pub returns-in_err-list : goal.returns-in_err-list
returns-in_err-list c =
    let s = c.args.self.now in
    let p = err_from_is_err_and c.from_residual.result c.from_residual.ensures.1 in
    rw (p.1, p.2) (sym (curve_there s.book.now s.curves s.tables s.at c.if-self-ge-ROOM.false ∙ ap (curve_by s.at (drop s.at s.book.now)) c.in_err-list.ensures))

pub returns : goal.returns
returns c =
    let s = c.args.self.now in
    ap (λ e. found e) c.record_to.ensures ∙ sym (curve_there s.book.now s.curves s.tables s.at c.if-self-ge-ROOM.false ∙ ap (curve_by s.at (drop s.at s.book.now)) c.in_ok-list.ensures.0)
