use Rattle.std.proofs.Common.{rules}
use Rattle.interval.specs.Rules.{max}
use Rattle.interval.proofs.Laws.{max_follows}
use Rattle.interval.proofs.enclosures.Enclosure.max.Goals as goal

pub returns : goal.returns
unfolding max
returns c = max_follows _ _ _ (search rules)
