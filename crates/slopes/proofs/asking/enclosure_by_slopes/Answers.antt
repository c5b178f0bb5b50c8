use Rattle.codelist.specs.Lists.{lines_of}
use Rattle.slopes.specs.FamilyLaw.{never_empty}
use Rattle.slopes.proofs.asking.enclosure_by_slopes.Goals as goal

pub returns-clause-bounded : goal.returns-clause-bounded
returns-clause-bounded c = λ there b. rw (c.answer.ensures, c.answer-last.ensures.last) (never_empty c.args.cell c.args.row.now (lines_of c.args.list.now) there b)
