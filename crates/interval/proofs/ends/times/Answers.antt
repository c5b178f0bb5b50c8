use Rattle.std.proofs.Common.{rules}
use Rattle.interval.proofs.Sizes.{product_of_ends}
use Rattle.interval.proofs.ends.times.Goals as goal

pub returns-clause-size : goal.returns-clause-size
returns-clause-size c = search (rules, product_of_ends)
