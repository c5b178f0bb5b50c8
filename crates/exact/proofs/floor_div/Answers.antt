use Rattle.std.proofs.Common.{arith, rules}
use borrow.Author.Differences.{ints}
use Rattle.exact.proofs.Dividing.{floor_means, floor_turned_down, floor_turned_up}
use Rattle.exact.proofs.floor_div.Goals as goal

pub returns-then-d-gt0-clause-value : goal.returns-then-d-gt0-clause-value
returns-then-d-gt0-clause-value c = let e = floor_turned_up c.args.n c.args.d (omega (arith, ints)) (omega (arith, ints)) in search rules

pub returns-then-d-lt0-clause-value : goal.returns-then-d-lt0-clause-value
returns-then-d-lt0-clause-value c = let e = floor_turned_down c.args.n c.args.d (omega (arith, ints)) (omega (arith, ints)) in search rules

pub returns-then-d-gt0-clause-meaning : goal.returns-then-d-gt0-clause-meaning
returns-then-d-gt0-clause-meaning c = floor_means c.args.n c.args.d _ (returns-then-d-gt0-clause-value c)

pub returns-then-d-lt0-clause-meaning : goal.returns-then-d-lt0-clause-meaning
returns-then-d-lt0-clause-meaning c = floor_means c.args.n c.args.d _ (returns-then-d-lt0-clause-value c)

pub returns-else-n-gt0-clause-meaning : goal.returns-else-n-gt0-clause-meaning
returns-else-n-gt0-clause-meaning c = floor_means c.args.n c.args.d c.checked_div.result (search rules)
