use Rattle.std.proofs.Common.{rules}
use lib.IntN.{+ℤ_idl}
use Rattle.interval.specs.Rules.{neg}
use Rattle.interval.proofs.Laws.{neg_follows}
use Rattle.interval.proofs.rules.EnclosureNeg.neg.Goals as goal

pub returns : goal.returns
unfolding neg
returns c = neg_follows _ _ (search (rules, +ℤ_idl))
