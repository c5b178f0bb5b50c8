use Rattle.std.proofs.Common.{◌≡◌, ◌-◌, ◌≤◌, [], length, drop}
use Rattle.book.specs.Lines.{lines_from}
use Rattle.book.specs.Reading.{lines_in}
use Rattle.book.proofs.lines.read_lines.Given as goal

-- what is left of the book gives the rest of the lines
abbrev pub invariant-loop-at : goal.invariant-loop-at
invariant-loop-at l = (lines_from [] 0 l.from (drop l.from l.book) ≡ lines_from (lines_in l.list) 0 l.at (drop l.at l.book)) × (l.from ≤ l.at)

abbrev pub decreases-loop-at : goal.decreases-loop-at
decreases-loop-at l = length l.book - l.at
