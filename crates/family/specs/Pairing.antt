-- Two families as one: its curves, their values and answers.
use Rattle.std.specs.Prelude.{ℕ, ◌+◌, ◌-◌, min, cond, nat_lt}
use Rattle.exact.specs.Fraction.{Fraction}
use Rattle.exact.specs.Value.{Value}
use Rattle.interval.specs.declared.enclosures.Enclosure.{Enclosure}
use Rattle.interval.specs.declared.enclosures.Enclosure.TheVariants.{NoBounds}
use Rattle.family.specs.declared.cells.Cell.{Cell}
use Rattle.family.specs.declared.pairs.paired.Pair.{Pair}
use Rattle.family.specs.Readings.{Temperatures, RowOf}

-- the second's numbers follow the first's: number k goes to one of the two
abbrev pub split : {A B : Type 0} {R : Type 0} → (A → ℕ) → (A → ℕ → R) → (B → ℕ → R) → Pair A B → ℕ → R
split n f g s k = cond (nat_lt k (n s.first)) (f s.first k) (g s.second (k - n s.first))

-- curves past a thousand are left off
abbrev pub pair_count : {A B : Type 0} → (A → ℕ) → (B → ℕ) → Pair A B → ℕ
pair_count n m s = min 1000 (n s.first + m s.second)

abbrev pub pair_value : {A B : Type 0} → (A → ℕ) → (A → ℕ → Temperatures → Fraction → Value) → (B → ℕ → Temperatures → Fraction → Value) → Pair A B → ℕ → Temperatures → Fraction → Value
pair_value n v w = split n v w

abbrev pub pair_answer : {A B : Type 0} → (A → ℕ) → (A → ℕ → Cell → RowOf → Enclosure) → (B → ℕ → Cell → RowOf → Enclosure) → Pair A B → ℕ → Cell → RowOf → Enclosure
pair_answer n a b s k c row = cond (nat_lt k 1000) (split n a b s k c row) NoBounds
