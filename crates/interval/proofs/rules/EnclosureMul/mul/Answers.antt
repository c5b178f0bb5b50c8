use Rattle.std.proofs.Common.{rules}
use Rattle.interval.specs.Rules.{mul}
use Rattle.interval.proofs.Laws.{mul_follows}
use Rattle.interval.proofs.rules.EnclosureMul.mul.Goals as goal

pub returns : goal.returns
unfolding mul
returns c = mul_follows _ _ _ (search rules)
