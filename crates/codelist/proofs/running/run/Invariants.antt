use Rattle.std.proofs.Common.{◌≡◌, length, take, drop}
use Rattle.codelist.specs.Evaluate.{entries}
use Rattle.codelist.specs.Kinds.{over}
use Rattle.codelist.proofs.running.run.Given as goal

-- the first n places hold the entries of the first n lines; those past the list are as they were
abbrev pub invariant-loop-n : goal.invariant-loop-n
invariant-loop-n g l = record {
  front : take l.n (g.T.Entries.table l.table) ≡ entries (over g.K.LentKind.rules l.cell l.row) g.K.LentKind.divided (take l.n l.lines);
  rest : drop (length l.lines) (g.T.Entries.table l.table) ≡ drop (length l.lines) (g.T.Entries.table l.initial.table);
}
