use Rattle.std.proofs.Common.{rules}
use Rattle.interval.specs.Rules.{div}
use Rattle.interval.proofs.Laws.{div_follows}
use Rattle.interval.proofs.rules.EnclosureDiv.div.Goals as goal

pub returns : goal.returns
unfolding div
returns c = div_follows _ _ _ (search rules)
