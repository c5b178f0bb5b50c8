-- What the functions that read lines and tables answer.
use Rattle.std.specs.Prelude.{◌≡◌, ℕ, ◌<◌, ◌≤◌, List, [], ◌∷◌, ◌++◌, length, Some, None, Ok, Err, Option, Result}
use Rattle.std.specs.Option.{option_map}
use Rattle.codelist.specs.declared.lines.Line.{Line}
use Rattle.codelist.specs.declared.lists.CodeList.{CodeList}
use Rattle.codelist.specs.Lines.{fault}
use Rattle.codelist.specs.Lists.{lines_of}
use Rattle.knots.specs.declared.knots.Knot.{Knot}
use Rattle.knots.specs.declared.tables.KnotTable.{KnotTable}
use Rattle.knots.specs.Tables.{knots_of}
use Rattle.book.specs.declared.lines.Step.{Step}
use Rattle.book.specs.declared.lines.Step.TheVariants.{Line as Longer, Close as Closed}
use Rattle.book.specs.declared.refusals.Fault.{Fault}
use Rattle.book.specs.declared.refusals.Refusal.{Refusal}
use Rattle.book.specs.Lines.{fault_of, a_line, closes, stops, inside}
use Rattle.book.specs.Records.{table_fault}

-- the lines of a list that may not be begun yet
abbrev pub lines_in : Option CodeList → List Line
lines_in None = []
lines_in (Some c) = lines_of c

abbrev pub Grown : List Line → Line → Result CodeList Fault → Type 0
Grown ls l (Ok c) = (fault (length ls) l ≡ None) × (lines_of c ≡ ls ++ (l ∷ []))
Grown ls l (Err f) = option_map fault_of (fault (length ls) l) ≡ Some f

-- one command at that offset, inside a curve with the lines ls
abbrev pub Stepped : List Line → ℕ → List ℕ → Result Step Refusal → Type 0
Stepped ls at bs (Ok (Longer c w)) = (l : Line) × ((inside (length ls) bs ≡ a_line l w) × (lines_of c ≡ ls ++ (l ∷ [])) × (w < length bs))
Stepped ls at bs (Ok (Closed c)) = (inside (length ls) bs ≡ closes) × (lines_of c ≡ ls)
Stepped ls at bs (Err r) = (inside (length ls) bs ≡ stops r.fault r.layer) × (r.offset ≡ at)

-- all lines: END lies within the book
abbrev pub Read : Result (List Line × ℕ) Refusal → ℕ → ℕ → Result (CodeList × ℕ) Refusal → Type 0
Read rule from end (Ok p) = (rule ≡ Ok (lines_of p.0, p.1)) × (from ≤ p.1) × (p.1 < end)
Read rule from end (Err f) = rule ≡ Err f

-- the table of that reading and those knots, where t tables stand before it; or its fault
abbrev pub TableRead : ℕ → ℕ → List Knot → Result KnotTable Fault → Type 0
TableRead t n ks (Ok k) = (table_fault t n ks ≡ None) × (k.reading ≡ n) × (knots_of k ≡ ks)
TableRead t n ks (Err f) = table_fault t n ks ≡ Some f
