-- The records of a book: curves and tables, each with its place in the book.
use Rattle.std.specs.Prelude.{ℕ, zero, suc, ◌+◌, ◌-◌, ◌*◌, cond, List, [], ◌∷◌, length, take, drop, Some, None, Ok, Err, Option, Result, nat_le, nat_lt, slice_index}
use Rattle.codelist.specs.declared.lines.Line.{Line as CodeLine}
use Rattle.knots.specs.declared.knots.Knot.{Knot}
use Rattle.knots.specs.declared.knots.TableRefusal.{TableRefusal}
use Rattle.knots.specs.declared.knots.TableRefusal.TheVariants.{Reading as BadReading, Range as BadRange, Knots as BadKnots}
use Rattle.knots.specs.Knots.{all_ranged, lined}
use Rattle.book.specs.declared.ops.Op.{Op}
use Rattle.book.specs.declared.ops.Command.{Command}
use Rattle.book.specs.declared.ops.Command.TheVariants.{Line, Open, Close, Table}
use Rattle.book.specs.declared.refusals.Fault.{Fault}
use Rattle.book.specs.declared.refusals.Fault.TheVariants.{Unknown, CutShort, Misplaced, Operand, Range, TooMany, Knots}
use Rattle.book.specs.declared.refusals.Layer.TheVariants.{Book as BookLayer, Record as RecordLayer, Line as LineLayer}
use Rattle.book.specs.declared.refusals.Refusal.{Refusal}
use Rattle.book.specs.Ops.{op_of, layer_of, signed_at, command_at}
use Rattle.book.specs.Lines.{refused, lines_from}

-- a book has at most so many curves, and so many tables
abbrev pub most_of_a_kind : ℕ
most_of_a_kind = 8

-- what a record says
pub data Said : Type 0 where
  a_curve : List CodeLine → Said
  -- the reading's number and the knots
  a_table : ℕ → List Knot → Said

-- a record: its offset, its tag and body as parts of the book, and what it says
pub record Entry : Type 0 where
  pub offset : ℕ
  pub tag : List ℕ
  pub body : List ℕ
  pub said : Said

-- how many bytes a record takes: the first byte, the tag, the body, and of a curve END
abbrev pub size_by : Said → ℕ → ℕ
size_by (a_curve ls) n = n + 10
size_by (a_table r ks) n = n + 9

abbrev pub size_of : Entry → ℕ
size_of e = size_by e.said (length e.body)

-- n knots, eight bytes each: x, y
abbrev pub knot_of : List ℕ → Knot
knot_of bs = record { x = signed_at bs 0; y = signed_at bs 4 }

abbrev pub knots_at : ℕ → List ℕ → List Knot
knots_at zero bs = []
knots_at (suc n) bs = knot_of bs ∷ knots_at n (drop 8 bs)

-- a table's body: the reading's number, the knot count, and the knots
abbrev pub body_reading : List ℕ → ℕ
body_reading b = slice_index b 0

abbrev pub body_knots : List ℕ → List Knot
body_knots b = knots_at (slice_index b 1) (drop 2 b)

-- the fault of a table that may not be made
abbrev pub fault_of_table : TableRefusal → Fault
fault_of_table BadReading = Operand
fault_of_table BadRange = Range
fault_of_table BadKnots = Knots

-- why a table is refused where t tables stand before it; the first cause in this order is told
abbrev pub table_fault : ℕ → ℕ → List Knot → Option Fault
table_fault t n ks = cond (nat_le n 7) (cond (all_ranged ks) (cond (nat_lt t most_of_a_kind) (cond (lined ks) None (Some Knots)) (Some TooMany)) (Some Range)) (Some Operand)

-- what stands at a place outside curves
pub data Found : Type 0 where
  found : Entry → Found
  stopped : Refusal → Found

-- ---- bs begins with the record, which stands at that offset
abbrev pub tag_of : List ℕ → List ℕ
tag_of bs = take 8 (drop 1 bs)

-- a curve's body reaches from behind the tag to END
abbrev pub curve_by : ℕ → List ℕ → Result (List CodeLine × ℕ) Refusal → Found
curve_by at bs (Ok p) = found (record { offset = at; tag = tag_of bs; body = take (p.1 - (at + 9)) (drop 9 bs); said = a_curve p.0 })
curve_by at bs (Err r) = stopped r

abbrev pub table_body : List ℕ → List ℕ
table_body bs = take (2 + 8 * slice_index bs 10) (drop 9 bs)

abbrev pub table_by : ℕ → List ℕ → List ℕ → Option Fault → Found
table_by at tag body None = found (record { offset = at; tag = tag; body = body; said = a_table (body_reading body) (body_knots body) })
table_by at tag body (Some f) = stopped (refused f RecordLayer at)

abbrev pub table_found : ℕ → ℕ → List ℕ → Found
table_found t at bs = table_by at (tag_of bs) (table_body bs) (table_fault t (body_reading (table_body bs)) (body_knots (table_body bs)))

-- with c curves and t tables before it
abbrev pub outside_by : ℕ → ℕ → ℕ → List ℕ → Command → Found
outside_by c t at bs (Line l) = stopped (refused Misplaced LineLayer at)
outside_by c t at bs Open = cond (nat_lt c most_of_a_kind) (curve_by at bs (lines_from [] 0 (at + 9) (drop 9 bs))) (stopped (refused TooMany RecordLayer at))
outside_by c t at bs Close = stopped (refused Misplaced RecordLayer at)
outside_by c t at bs Table = table_found t at bs

abbrev pub outside_if : ℕ → ℕ → ℕ → List ℕ → Op → Option Command → Found
outside_if c t at bs op None = stopped (refused CutShort (layer_of op) at)
outside_if c t at bs op (Some m) = outside_by c t at bs m

abbrev pub outside_of : ℕ → ℕ → ℕ → List ℕ → Option Op → Found
outside_of c t at bs None = stopped (refused Unknown BookLayer at)
outside_of c t at bs (Some op) = outside_if c t at bs op (command_at op bs)

abbrev pub record_at : ℕ → ℕ → ℕ → List ℕ → Found
record_at c t at bs = outside_of c t at bs (op_of (slice_index bs 0))
