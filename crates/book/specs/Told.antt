-- What the reader tells: a record by its offset, tag and body, or a refusal.
use Rattle.std.specs.Prelude.{ℕ, ◌+◌, cond, List, length, drop, Some, None, Ok, Err, Option, Result, nat_lt}
use Rattle.codelist.specs.Lists.{lines_of}
use Rattle.knots.specs.Tables.{knots_of}
use Rattle.book.specs.declared.records.Record.{Record}
use Rattle.book.specs.declared.records.Record.TheVariants.{Curve, Table}
use Rattle.book.specs.declared.records.Contents.{Contents}
use Rattle.book.specs.declared.records.Contents.TheVariants.{Curve as CurveRead, Table as TableRead}
use Rattle.book.specs.declared.records.ReadRecord.{ReadRecord}
use Rattle.book.specs.declared.records.Reader.{Reader}
use Rattle.book.specs.declared.refusals.Fault.TheVariants.{TooLong}
use Rattle.book.specs.declared.refusals.Layer.TheVariants.{Book as BookLayer}
use Rattle.book.specs.declared.refusals.Refusal.{Refusal}
use Rattle.book.specs.Lines.{refused}
use Rattle.book.specs.Records.{Said, a_curve, a_table, Entry, size_of, Found, found, stopped, record_at}
use Rattle.book.specs.Books.{most_bytes, curves_after, tables_after}

-- a record, case by case: its offset, tag and body
pub data Told : Type 0 where
  curve_told : ℕ → List ℕ → List ℕ → Told
  table_told : ℕ → List ℕ → List ℕ → Told
  refusal_told : Refusal → Told

abbrev pub told_of : Record → Told
told_of (Curve tag body offset) = curve_told offset tag.now body.now
told_of (Table tag body offset) = table_told offset tag.now body.now

-- the same of what the rules find
abbrev pub entry_by : Said → ℕ → List ℕ → List ℕ → Told
entry_by (a_curve ls) = curve_told
entry_by (a_table n ks) = table_told

abbrev pub entry_told : Entry → Told
entry_told e = entry_by e.said e.offset e.tag e.body

abbrev pub found_told : Found → Told
found_told (found e) = entry_told e
found_told (stopped r) = refusal_told r

-- ---- one record after the other
-- a place in a book, with the curves and tables before it
pub record Place : Type 0 where
  pub at : ℕ
  pub curves : ℕ
  pub tables : ℕ

abbrev pub place_of : Reader → Place
place_of r = record { at = r.at; curves = r.curves; tables = r.tables }

abbrev pub start : Place
start = record { at = 0; curves = 0; tables = 0 }

-- what is found at a place: a book that is too long is refused; at the book's end there is nothing
abbrev pub found_at : List ℕ → Place → Option Found
found_at bs p = cond (nat_lt most_bytes (length bs)) (Some (stopped (refused TooLong BookLayer 0))) (cond (nat_lt p.at (length bs)) (Some (record_at p.curves p.tables p.at (drop p.at bs))) None)

abbrev pub place_after : Place → Option Found → Place
place_after p None = p
place_after p (Some (stopped r)) = p
place_after p (Some (found e)) = record { at = p.at + size_of e; curves = curves_after e.said p.curves; tables = tables_after e.said p.tables }

-- what a call of the reader tells, and what the rules do
abbrev pub next_told : Result (Option Record) Refusal → Option Told
next_told (Ok None) = None
next_told (Ok (Some r)) = Some (told_of r)
next_told (Err f) = Some (refusal_told f)

abbrev pub rule_told : Option Found → Option Told
rule_told None = None
rule_told (Some f) = Some (found_told f)

-- ---- a record that code has read, as the rules have it
abbrev pub said_of : Contents → Said
said_of (CurveRead l) = a_curve (lines_of l)
said_of (TableRead k) = a_table k.reading (knots_of k)

abbrev pub entry_of : ReadRecord → Entry
entry_of r = record { offset = r.offset; tag = r.tag.now; body = r.body.now; said = said_of r.contents }

abbrev pub found_of : Result ReadRecord Refusal → Found
found_of (Ok r) = found (entry_of r)
found_of (Err f) = stopped f

abbrev pub next_of : Result (Option ReadRecord) Refusal → Option Found
next_of (Ok None) = None
next_of (Ok (Some r)) = Some (found (entry_of r))
next_of (Err f) = Some (stopped f)
