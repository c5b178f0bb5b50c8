use Rattle.std.proofs.Common.{rules}
use Rattle.family.proofs.Made.{reading_is}
use Rattle.family.proofs.readings.Reading.new.Goals as goal

pub returns-then-hi-le-LIMIT : goal.returns-then-hi-le-LIMIT
returns-then-hi-le-LIMIT c = reading_is _ c.args.lo c.args.hi (search rules) (search rules)
