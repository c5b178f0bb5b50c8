use Rattle.std.proofs.Common.{rules}
use Rattle.interval.specs.Rules.{abs}
use Rattle.interval.proofs.Laws.{abs_follows}
use Rattle.interval.proofs.enclosures.Enclosure.abs.Goals as goal

pub returns : goal.returns
unfolding abs
returns c = abs_follows _ _ (search rules)
