use Rattle.std.proofs.Common.{Some, rules}
use Rattle.exact.proofs.Dividing.{ceiling_means}
use Rattle.exact.proofs.ceil_div.Goals as goal

pub returns-then-d-gt0-clause-meaning : goal.returns-then-d-gt0-clause-meaning
returns-then-d-gt0-clause-meaning c = ceiling_means c.args.n c.args.d (Some _) (search rules)

pub returns-then-d-lt0-clause-meaning : goal.returns-then-d-lt0-clause-meaning
returns-then-d-lt0-clause-meaning c = ceiling_means c.args.n c.args.d c.checked_add.result (search rules)

pub returns-else-n-lt0-clause-meaning : goal.returns-else-n-lt0-clause-meaning
returns-else-n-lt0-clause-meaning c = ceiling_means c.args.n c.args.d c.checked_div.result (search rules)
