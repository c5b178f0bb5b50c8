-- The family of tables is lawful.
use Rattle.std.specs.Prelude.{◌≡◌, true, ◌-ℤ◌, Some, None, Option}
use Rattle.exact.specs.Fraction.{Fraction, in_units, minus}
use Rattle.exact.specs.Value.{some}
use Rattle.interval.specs.Meaning.{Holds, InRange}
use Rattle.interval.proofs.Laws.{kept_holds, kept_range}
use Rattle.family.specs.declared.cells.Cell.{Cell}
use Rattle.family.specs.declared.readings.Reading.{Reading}
use Rattle.family.specs.Cells.{exists, Within, InCell}
use Rattle.family.specs.Readings.{Temperatures, RowOf, reading_at, Allows, Allowed}
use Rattle.family.specs.Meaning.{Lawful}
use Rattle.family.specs.Items.{ItemLaw}
use Rattle.family.specs.ItemLaws.{items_lawful}
use Rattle.family.proofs.Inside.{ascends, units_between, within-minus}
use Rattle.knots.specs.declared.extents.Extent.{Extent}
use Rattle.knots.specs.declared.tables.KnotTable.{KnotTable}
use Rattle.knots.specs.Tables.{knots_of}
use Rattle.knots.specs.Values.{height_at}
use Rattle.knots.specs.Extremes.{least, greatest, extent_of}
use Rattle.knots.proofs.Rounded.{around}
use Rattle.knots.proofs.Walks.{has_extremes}
use Rattle.tables.specs.Family.{height_less, less_reading, table_curve, table_count, table_value, table_answer}

less_holds : (e : Extent) (o : Option Reading) (h t : Fraction) → Within e.lo e.hi h → Allows o t → Holds (less_reading e o) (some (in_units (minus h t)))
less_holds e None h t i a = tt
less_holds e (Some r) h t i a =
    kept_holds (e.lo -ℤ r.hi) (e.hi -ℤ r.lo) (some (in_units (minus h t))) (units_between (e.lo -ℤ r.hi) (e.hi -ℤ r.lo) (minus h t) (within-minus e.lo e.hi r.lo r.hi h t i a))

less_range : (e : Extent) (o : Option Reading) → InRange (less_reading e o)
less_range e None = tt
less_range e (Some r) = kept_range (e.lo -ℤ r.hi) (e.hi -ℤ r.lo)

curve_holds : (k : KnotTable) (c : Cell) (row : RowOf) (t : Temperatures) (x : Fraction) → exists c ≡ true → Allowed row t → InCell c x → Holds (table_curve k c row) (height_less k t x)
curve_holds k c row t x there allowed inside =
    let ks = knots_of k in
    let m = has_extremes k c (ascends c there) in
    less_holds (extent_of ks c) (reading_at row k.reading) (height_at ks x) (t k.reading) (around (least ks c) (height_at ks x) (greatest ks c) (m.low x inside) (m.high x inside)) (allowed k.reading)

pub table_law : ItemLaw height_less table_curve
table_law = record { holds = curve_holds; range = λ k c row. less_range (extent_of (knots_of k) c) (reading_at row k.reading) }

pub tables_lawful : Lawful table_count table_value table_answer
tables_lawful = items_lawful table_law
