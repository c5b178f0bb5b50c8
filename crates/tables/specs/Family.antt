-- The family of knot tables: its curves, their exact values, and its answers.
use Rattle.std.specs.Prelude.{ℕ, ◌-ℤ◌, Some, None, Option}
use Rattle.exact.specs.Fraction.{Fraction, in_units, minus}
use Rattle.exact.specs.Value.{Value, some}
use Rattle.interval.specs.declared.enclosures.Enclosure.{Enclosure}
use Rattle.interval.specs.declared.enclosures.Enclosure.TheVariants.{NoBounds}
use Rattle.interval.specs.Rules.{kept}
use Rattle.family.specs.declared.cells.Cell.{Cell}
use Rattle.family.specs.declared.readings.Reading.{Reading}
use Rattle.family.specs.declared.curves.Curves.{Curves}
use Rattle.family.specs.Readings.{Temperatures, RowOf, reading_at}
use Rattle.family.specs.Items.{item_count, item_value, item_answer}
use Rattle.knots.specs.declared.extents.Extent.{Extent}
use Rattle.knots.specs.declared.tables.KnotTable.{KnotTable}
use Rattle.knots.specs.Tables.{knots_of}
use Rattle.knots.specs.Values.{height_at}
use Rattle.knots.specs.Extremes.{extent_of}
use Rattle.tables.specs.declared.curves.LessReading.{LessReading}

-- the exact value, in units: the table's height less the true temperature of its reading
abbrev pub height_less : KnotTable → Temperatures → Fraction → Value
height_less k t x = some (in_units (minus (height_at (knots_of k) x) (t k.reading)))

-- the enclosure of heights from p to q less a reading [lo, hi]: [p − hi, q − lo], unless an end lies beyond the limit; no bounds where the reading is absent
abbrev pub less_reading : Extent → Option Reading → Enclosure
less_reading e None = NoBounds
less_reading e (Some r) = kept (e.lo -ℤ r.hi) (e.hi -ℤ r.lo)

abbrev pub table_curve : KnotTable → Cell → RowOf → Enclosure
table_curve k c row = less_reading (extent_of (knots_of k) c) (reading_at row k.reading)

-- the family: one curve for each table
abbrev pub table_count : Curves KnotTable LessReading → ℕ
table_count = item_count

abbrev pub table_value : Curves KnotTable LessReading → ℕ → Temperatures → Fraction → Value
table_value = item_value height_less

abbrev pub table_answer : Curves KnotTable LessReading → ℕ → Cell → RowOf → Enclosure
table_answer = item_answer table_curve
