use Rattle.std.proofs.Common.{◌∙◌, subst, arith}
use Rattle.book.specs.Reading.{lines_in}
use Rattle.book.proofs.Passing.{StepSays, told_line}
use Rattle.book.proofs.lines.read_lines.Goals as goal

pub loop-at-preserved : goal.loop-at-preserved
loop-at-preserved c =
    let ls = lines_in c.loop-at.list in
    let step = subst (StepSays c.args.book.now ls c.loop-at.at) c.in-Line.is c.in_ok-longer.ensures in
    (c.loop-at.invariant.0 ∙ told_line c.args.book.now ls c.loop-at.at c.loop-at-test.true c.in-Line.longer c.in-Line.width step, omega (arith, c.loop-at.invariant.1))
