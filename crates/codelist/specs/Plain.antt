-- What the family of plain lists answers of a list.
use Rattle.std.specs.Prelude.{List}
use Rattle.exact.specs.Fraction.{Fraction}
use Rattle.exact.specs.Value.{Value}
use Rattle.interval.specs.declared.enclosures.Enclosure.{Enclosure}
use Rattle.interval.specs.Rules.{div}
use Rattle.family.specs.declared.cells.Cell.{Cell}
use Rattle.family.specs.Readings.{Temperatures, RowOf}
use Rattle.codelist.specs.declared.lines.Line.{Line}
use Rattle.codelist.specs.declared.lists.CodeList.{CodeList}
use Rattle.codelist.specs.Lists.{lines_of}
use Rattle.codelist.specs.Evaluate.{last_entry}
use Rattle.codelist.specs.Exact.{value_of}
use Rattle.codelist.specs.Kinds.{over}
use Rattle.codelist.specs.Intervals.{pair_rules}

-- the enclosure of a list over a cell: the entry of its last line
abbrev pub enclosure_of : Cell → RowOf → List Line → Enclosure
enclosure_of c row ls = last_entry (over pair_rules c row) div ls

-- the exact value of a list, and its answer
abbrev pub list_value : CodeList → Temperatures → Fraction → Value
list_value l t x = value_of t x (lines_of l)

abbrev pub list_answer : CodeList → Cell → RowOf → Enclosure
list_answer l c row = enclosure_of c row (lines_of l)
