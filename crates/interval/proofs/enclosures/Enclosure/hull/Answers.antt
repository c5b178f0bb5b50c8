use Rattle.std.proofs.Common.{rules}
use Rattle.interval.specs.Rules.{hull}
use Rattle.interval.proofs.Laws.{hull_follows}
use Rattle.interval.proofs.enclosures.Enclosure.hull.Goals as goal

pub returns : goal.returns
unfolding hull
returns c = hull_follows _ _ _ (search rules)
