use Rattle.std.proofs.Common.{rules}
use Rattle.interval.specs.Rules.{common}
use Rattle.interval.proofs.Laws.{common_follows}
use Rattle.interval.proofs.enclosures.Enclosure.common.Goals as goal

pub returns : goal.returns
unfolding common
returns c = common_follows _ _ _ (search rules)
