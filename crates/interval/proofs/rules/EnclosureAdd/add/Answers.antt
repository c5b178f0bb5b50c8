use Rattle.std.proofs.Common.{rules}
use Rattle.interval.specs.Rules.{add}
use Rattle.interval.proofs.Laws.{add_follows}
use Rattle.interval.proofs.Sizes.{sum_again}
use Rattle.interval.proofs.rules.EnclosureAdd.add.Goals as goal

pub returns : goal.returns
unfolding add
returns c = add_follows _ _ _ (search (rules, sum_again))
