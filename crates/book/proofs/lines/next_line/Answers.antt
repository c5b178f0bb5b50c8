use Rattle.std.proofs.Common.{length, sym, ap, ◌∙◌, rules}
use Rattle.std.proofs.lemmas.Result.{err_from_is_err_and}
use Rattle.book.specs.declared.refusals.Refusal.{Refusal}
use Rattle.book.specs.declared.refusals.Layer.TheVariants.{Line as LineLayer}
use Rattle.book.specs.Reading.{lines_in, Grown}
use Rattle.book.specs.Lines.{stops, line_by}
use Rattle.book.proofs.CommandRead.{inside_line}
use Rattle.book.proofs.Mapped.{mapped_ok, mapped_err}
use Rattle.book.proofs.Passing.{refused_line}
use Rattle.book.proofs.lines.next_line.Goals as goal

pub returns-in_ok-list-in-Line : goal.returns-in_ok-list-in-Line
returns-in_ok-list-in-Line c =
    let m = c.in_ok-command in
    let l = c.in-Line.line in
    let ls = lines_in c.args.list in
    let i = inside_line c.args.at c.args.bytes.now (length ls) m.command l m.width m.ensures c.in-Line.is in
    let g = mapped_ok (Grown ls l) LineLayer c.args.at c.grown.result c.in_ok-list-in-Line.list c.grown.ensures c.in_ok-list-in-Line.ensures.cases in
    (l, (i.0 ∙ ap (λ o. line_by o l m.width) g.0, g.1, i.1))

pub returns-in_err-list-in-Line : goal.returns-in_err-list-in-Line
returns-in_err-list-in-Line c =
    let m = c.in_ok-command in
    let l = c.in-Line.line in
    let ls = lines_in c.args.list in
    let i = inside_line c.args.at c.args.bytes.now (length ls) m.command l m.width m.ensures c.in-Line.is in
    let x = mapped_err (Grown ls l) LineLayer c.args.at c.grown.result c.in_err-list-in-Line.field-0.0 c.grown.ensures (search rules) in
    let e = i.0 ∙ refused_line (length ls) l m.width x.0 x.1 in
    let p = err_from_is_err_and c.from_residual-in_err-list-in-Line.result c.from_residual-in_err-list-in-Line.ensures.1 in
    rw (p.1, p.2) (e ∙ sym (ap (λ (r : Refusal). stops r.fault r.layer) x.2), ap (λ (r : Refusal). r.offset) x.2)
