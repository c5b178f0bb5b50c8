use Rattle.std.proofs.Common.{rules}
use Rattle.interval.specs.Rules.{sub}
use Rattle.interval.proofs.Laws.{sub_follows}
use Rattle.interval.proofs.Sizes.{difference_again}
use Rattle.interval.proofs.rules.EnclosureSub.sub.Goals as goal

pub returns : goal.returns
unfolding sub
returns c = sub_follows _ _ _ (search (rules, difference_again))
