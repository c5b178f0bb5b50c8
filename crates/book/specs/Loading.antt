-- The families that a book fills: its curves and its tables, in order.
use Rattle.std.specs.Prelude.{◌≡◌, ℕ, List, [], ◌∷◌, ◌++◌, map, Some, None, Ok, Err, Option, Result, slice_get}
use Rattle.exact.specs.Fraction.{Fraction, in_units, minus}
use Rattle.exact.specs.Value.{Value, none, some}
use Rattle.bounded.specs.declared.lists.Bounded.{Bounded}
use Rattle.bounded.specs.Lists.{items_of}
use Rattle.family.specs.Items.{item_value}
use Rattle.family.specs.Readings.{Temperatures}
use Rattle.codelist.specs.declared.lines.Line.{Line}
use Rattle.codelist.specs.declared.intervals.Intervals.{Intervals}
use Rattle.codelist.specs.declared.lists.CodeList.{CodeList}
use Rattle.codelist.specs.Lists.{lines_of}
use Rattle.codelist.specs.Exact.{value_of}
use Rattle.codelist.specs.Plain.{list_value}
use Rattle.knots.specs.declared.knots.Knot.{Knot}
use Rattle.knots.specs.declared.tables.KnotTable.{KnotTable}
use Rattle.knots.specs.Tables.{knots_of}
use Rattle.knots.specs.Values.{height_at}
use Rattle.tables.specs.declared.curves.LessReading.{LessReading}
use Rattle.tables.specs.Family.{table_value}
use Rattle.book.specs.declared.refusals.Refusal.{Refusal}
use Rattle.book.specs.Records.{Said, a_curve, a_table, Entry}

-- the curves of a book, each by its lines; the tables, each by its reading's number and its knots
abbrev pub curve_of : Said → List (List Line)
curve_of (a_curve ls) = ls ∷ []
curve_of (a_table n ks) = []

abbrev pub table_of : Said → List (ℕ × List Knot)
table_of (a_curve ls) = []
table_of (a_table n ks) = (n, ks) ∷ []

abbrev pub curves_in : List Entry → List (List Line)
curves_in [] = []
curves_in (e ∷ es) = curve_of e.said ++ curves_in es

abbrev pub tables_in : List Entry → List (ℕ × List Knot)
tables_in [] = []
tables_in (e ∷ es) = table_of e.said ++ tables_in es

-- the same of the lists and tables that code holds
abbrev pub listing : Bounded CodeList 8 → List (List Line)
listing t = map lines_of (items_of t)

abbrev pub knotting : KnotTable → ℕ × List Knot
knotting k = (k.reading, knots_of k)

abbrev pub tabling : Bounded KnotTable 8 → List (ℕ × List Knot)
tabling t = map knotting (items_of t)

-- ---- what loading a book answers and leaves
abbrev pub load_answer : Result (List Entry) Refusal → Result (Unit {0}) Refusal
load_answer (Ok es) = Ok tt
load_answer (Err r) = Err r

-- exactly the book's; or as they were
abbrev pub ListsAfter : Result (List Entry) Refusal → Bounded CodeList 8 → Bounded CodeList 8 → Type 0
ListsAfter (Ok es) old new = listing new ≡ curves_in es
ListsAfter (Err r) old new = new ≡ old

abbrev pub TablesAfter : Result (List Entry) Refusal → Bounded KnotTable 8 → Bounded KnotTable 8 → Type 0
TablesAfter (Ok es) old new = tabling new ≡ tables_in es
TablesAfter (Err r) old new = new ≡ old

-- ---- what the book's curves and tables mean: their exact values, by number
abbrev pub curve_value : Option (List Line) → Temperatures → Fraction → Value
curve_value None t x = none
curve_value (Some ls) t x = value_of t x ls

abbrev pub knots_value : Option (ℕ × List Knot) → Temperatures → Fraction → Value
knots_value None t x = none
knots_value (Some p) t x = some (in_units (minus (height_at p.1 x) (t p.0)))

-- the families mean exactly the book's curves and tables
abbrev pub ListsMean : Result (List Entry) Refusal → Bounded CodeList 8 → Type 0
ListsMean (Ok es) new = (way : Intervals) (k : ℕ) (t : Temperatures) (x : Fraction) → item_value list_value (record { items = new; way = way }) k t x ≡ curve_value (slice_get (curves_in es) k) t x
ListsMean (Err r) new = Unit {0}

abbrev pub TablesMean : Result (List Entry) Refusal → Bounded KnotTable 8 → Type 0
TablesMean (Ok es) new = (way : LessReading) (k : ℕ) (t : Temperatures) (x : Fraction) → table_value (record { items = new; way = way }) k t x ≡ knots_value (slice_get (tables_in es) k) t x
TablesMean (Err r) new = Unit {0}
