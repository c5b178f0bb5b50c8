use Rattle.std.proofs.Common.{rules}
use lib.Signed.{lt_z}
use Rattle.std.proofs.lemmas.List.Sorted.{answers_always}
use Rattle.knots.proofs.Making.{ascending_answer}
use Rattle.knots.proofs.tables.made.are_ascending.Goals as goal

pub returns : goal.returns
returns c = ascending_answer c.args.knots.now _ (c.is_sorted_by.ensures.cases (λ k l. lt_z k.x l.x) (answers_always _ _ _ (λ a r q k. search rules)))
