-- What a run vouches for.
use Rattle.std.specs.Prelude.{◌≡◌, ℕ, ◌<◌, true, List, length, slice_index_or}
use Rattle.exact.specs.Fraction.{Fraction, whole}
use Rattle.exact.specs.Value.{none}
use Rattle.family.specs.declared.cells.Cell.{Cell}
use Rattle.family.specs.Cells.{exists, middle, InCell}
use Rattle.family.specs.Readings.{Temperatures, RowOf, Allowed}
use Rattle.codelist.specs.declared.lines.Line.{Line}
use Rattle.codelist.specs.Exact.{values}
use Rattle.codelist.specs.Kinds.{Vouching}

-- each line's entry vouches for the line's exact value, for every point of a cell that exists and all temperatures that the row allows
abbrev pub Vouched : {E : Type 0} → Vouching E → E → List E → List Line → Cell → RowOf → Type 0
Vouched vouches blank table ls c row = (t : Temperatures) (p : Fraction) → exists c ≡ true → Allowed row t → InCell c p → (k : ℕ) → k < length ls → vouches (slice_index_or table k blank) c p (slice_index_or (values t p ls) k none) (slice_index_or (values t (whole (middle c)) ls) k none)
