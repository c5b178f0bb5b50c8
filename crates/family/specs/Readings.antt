-- Readings, rows of them, and the true temperatures that a row allows.
use Rattle.std.specs.Prelude.{◌≡◌, ℕ, Bool, true, false, List, ℤ, Some, None, Ok, Err, Option, Result, slice_index_or, refl}
use Rattle.exact.specs.Fraction.{Fraction}
use Rattle.interval.specs.declared.enclosures.Enclosure.{Enclosure}
use Rattle.interval.specs.declared.enclosures.Enclosure.TheVariants.{NoBounds, Bounds}
use Rattle.family.specs.declared.readings.Reading.{Reading}
use Rattle.family.specs.declared.readings.ReadingRefusal.{ReadingRefusal}
use Rattle.family.specs.declared.readings.ReadingRefusal.TheVariants.{Ends}
use Rattle.family.specs.Limits.{believable}
use Rattle.family.specs.Cells.{Within}

-- a refusal, case by case: its number
abbrev pub number_of : ReadingRefusal → ℕ
number_of Ends = 2

-- the reading from lo to hi, or the refusal
abbrev pub reading_if : (lo hi : ℤ) (b : Bool) → believable lo hi ≡ b → Result Reading ReadingRefusal
reading_if lo hi true e = Ok (record { lo = lo; hi = hi; valid = e })
reading_if lo hi false e = Err Ends

abbrev pub reading_of : ℤ → ℤ → Result Reading ReadingRefusal
reading_of lo hi = reading_if lo hi (believable lo hi) refl

-- the eight readings, by number; None where none was taken
abbrev pub RowOf : Type 0
RowOf = List (Option Reading)

abbrev pub reading_at : RowOf → ℕ → Option Reading
reading_at row n = slice_index_or row n None

-- a reading's enclosure: its ends, or no bounds where it is absent
abbrev pub reading_pair : Option Reading → Enclosure
reading_pair None = NoBounds
reading_pair (Some r) = Bounds r.lo r.hi

-- the true temperatures, by the reading's number, in counts
abbrev pub Temperatures : Type 0
Temperatures = ℕ → Fraction

-- a reading allows the temperatures between its ends; an absent one allows all
abbrev pub Allows : Option Reading → Fraction → Type 0
Allows None t = Unit {0}
Allows (Some r) t = Within r.lo r.hi t

abbrev pub Allowed : RowOf → Temperatures → Type 0
Allowed row t = (n : ℕ) → Allows (reading_at row n) (t n)
