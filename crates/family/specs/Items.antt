-- A family given by its items, one curve for each: its count, values and answers, and what is asked of the items.
use Rattle.std.specs.Prelude.{◌≡◌, ℕ, true, cond, List, length, Some, None, Option, slice_get}
use Rattle.exact.specs.Fraction.{Fraction}
use Rattle.exact.specs.Value.{Value, none}
use Rattle.bounded.specs.Lists.{items_of}
use Rattle.interval.specs.declared.enclosures.Enclosure.{Enclosure}
use Rattle.interval.specs.declared.enclosures.Enclosure.TheVariants.{NoBounds}
use Rattle.interval.specs.Meaning.{Holds, InRange}
use Rattle.family.specs.declared.cells.Cell.{Cell}
use Rattle.family.specs.declared.curves.Curves.{Curves}
use Rattle.family.specs.Cells.{exists, InCell}
use Rattle.family.specs.Readings.{Temperatures, RowOf, Allowed}

-- over cells that exist, an item's answers hold its values; its answers lie within the limit
pub record ItemLaw {T : Type 0} (value : T → Temperatures → Fraction → Value) (answer : T → Cell → RowOf → Enclosure) : Type 0 where
  pub holds : (i : T) (c : Cell) (row : RowOf) (t : Temperatures) (x : Fraction) → exists c ≡ true → Allowed row t → InCell c x → Holds (answer i c row) (value i t x)
  pub range : (i : T) (c : Cell) (row : RowOf) → InRange (answer i c row)

-- what no item has: a value, bounds
abbrev pub value_by : {T : Type 0} → (T → Temperatures → Fraction → Value) → Option T → Temperatures → Fraction → Value
value_by value None t x = none
value_by value (Some i) t x = value i t x

abbrev pub answer_by : {T : Type 0} → (T → Cell → RowOf → Enclosure) → Option T → Cell → RowOf → Enclosure
answer_by answer None c row = NoBounds
answer_by answer (Some i) c row = answer i c row

-- of a list of items, by number
abbrev pub listed_value : {T : Type 0} → (T → Temperatures → Fraction → Value) → List T → ℕ → Temperatures → Fraction → Value
listed_value value items k t x = value_by value (slice_get items k) t x

-- a cell that does not exist has no bounds
abbrev pub listed_answer : {T : Type 0} → (T → Cell → RowOf → Enclosure) → List T → ℕ → Cell → RowOf → Enclosure
listed_answer answer items k c row = cond (exists c) (answer_by answer (slice_get items k) c row) NoBounds

-- of curves
abbrev pub item_count : {T W : Type 0} → Curves T W → ℕ
item_count s = length (items_of s.items)

abbrev pub item_value : {T W : Type 0} → (T → Temperatures → Fraction → Value) → Curves T W → ℕ → Temperatures → Fraction → Value
item_value value s = listed_value value (items_of s.items)

abbrev pub item_answer : {T W : Type 0} → (T → Cell → RowOf → Enclosure) → Curves T W → ℕ → Cell → RowOf → Enclosure
item_answer answer s = listed_answer answer (items_of s.items)
