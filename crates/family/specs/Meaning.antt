-- What the answers of a family say of its values.
use Rattle.std.specs.Prelude.{◌≡◌, ℕ, ◌≤◌, false}
use Rattle.exact.specs.Fraction.{Fraction}
use Rattle.exact.specs.Value.{Value}
use Rattle.interval.specs.declared.enclosures.Enclosure.{Enclosure}
use Rattle.interval.specs.declared.enclosures.Enclosure.TheVariants.{NoBounds}
use Rattle.interval.specs.Meaning.{Holds, InRange}
use Rattle.family.specs.declared.cells.Cell.{Cell}
use Rattle.family.specs.Cells.{exists, InCell}
use Rattle.family.specs.Readings.{Temperatures, RowOf, Allowed}

pub record Lawful {S : Type 0} (count : S → ℕ) (value : S → ℕ → Temperatures → Fraction → Value) (answer : S → ℕ → Cell → RowOf → Enclosure) : Type 0 where
  -- at most a thousand curves
  pub few : (s : S) → count s ≤ 1000
  -- for all temperatures that the row allows and every point of the cell, the answer holds the value: a pair says that the value exists
  pub holds : (s : S) (k : ℕ) (c : Cell) (row : RowOf) (t : Temperatures) (x : Fraction) → Allowed row t → InCell c x → Holds (answer s k c row) (value s k t x)
  -- the ends of a pair lie within the limit
  pub range : (s : S) (k : ℕ) (c : Cell) (row : RowOf) → InRange (answer s k c row)
  -- a curve or a cell that does not exist has no bounds
  pub no_curve : (s : S) (k : ℕ) (c : Cell) (row : RowOf) → count s ≤ k → answer s k c row ≡ NoBounds
  pub no_cell : (s : S) (k : ℕ) (c : Cell) (row : RowOf) → exists c ≡ false → answer s k c row ≡ NoBounds
