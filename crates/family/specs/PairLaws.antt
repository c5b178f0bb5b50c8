-- The pair of two lawful families is lawful.
use Rattle.std.specs.Prelude.{◌≡◌, ℕ, ◌-◌, ◌<◌, ◌≤◌, Bool, true, false, cond, nat_lt, refl}
use Rattle.std.proofs.Common.{arith, ltb-true, ltb-false}
use Rattle.exact.specs.Fraction.{Fraction}
use Rattle.exact.specs.Value.{Value}
use Rattle.interval.specs.declared.enclosures.Enclosure.{Enclosure}
use Rattle.interval.specs.declared.enclosures.Enclosure.TheVariants.{NoBounds}
use Rattle.interval.specs.Meaning.{Holds, InRange}
use Rattle.family.specs.declared.cells.Cell.{Cell}
use Rattle.family.specs.declared.pairs.paired.Pair.{Pair}
use Rattle.family.specs.Cells.{InCell}
use Rattle.family.specs.Readings.{Temperatures, RowOf, Allowed}
use Rattle.family.specs.Meaning.{Lawful}
use Rattle.family.specs.Pairing.{split, pair_count, pair_value, pair_answer}

module _ {A B : Type 0} {n : A → ℕ} {v : A → ℕ → Temperatures → Fraction → Value} {a : A → ℕ → Cell → RowOf → Enclosure} {m : B → ℕ} {w : B → ℕ → Temperatures → Fraction → Value} {b : B → ℕ → Cell → RowOf → Enclosure} (la : Lawful n v a) (lb : Lawful m w b) where
  -- the answer is a part's, or no bounds past a thousand
  by_part : (s : Pair A B) (k : ℕ) (c : Cell) (row : RowOf) (P : Enclosure → Type 0) → P NoBounds → (k < n s.first → P (a s.first k c row)) → (n s.first ≤ k → k < 1000 → P (b s.second (k - n s.first) c row)) → P (pair_answer n a b s k c row)
  by_part s k c row P none f g = within (nat_lt k 1000) refl
    where
      which : (t : Bool) → nat_lt k (n s.first) ≡ t → k < 1000 → P (cond t (a s.first k) (b s.second (k - n s.first)) c row)
      which true e h = f (omega (arith, ltb-true k (n s.first) e))
      which false e h = g (omega (arith, ltb-false k (n s.first) e)) h

      within : (t : Bool) → nat_lt k 1000 ≡ t → P (cond t (split n a b s k c row) NoBounds)
      within true e = which (nat_lt k (n s.first)) refl (omega (arith, ltb-true k 1000 e))
      within false e = none

  -- the same with the value that the part gives
  held : (s : Pair A B) (k : ℕ) (c : Cell) (row : RowOf) (t : Temperatures) (x : Fraction) → Allowed row t → InCell c x → Holds (pair_answer n a b s k c row) (pair_value n v w s k t x)
  held s k c row t x h i = within (nat_lt k 1000)
    where
      which : (q : Bool) → Holds (cond q (a s.first k) (b s.second (k - n s.first)) c row) (cond q (v s.first k) (w s.second (k - n s.first)) t x)
      which true = la.holds s.first k c row t x h i
      which false = lb.holds s.second (k - n s.first) c row t x h i

      within : (q : Bool) → Holds (cond q (split n a b s k c row) NoBounds) (pair_value n v w s k t x)
      within true = which (nat_lt k (n s.first))
      within false = tt

  pub pair_lawful : Lawful (pair_count n m) (pair_value n v w) (pair_answer n a b)
  pair_lawful = record {
    few = λ s. omega arith;
    holds = held;
    range = λ s k c row. by_part s k c row InRange tt (λ _. la.range s.first k c row) (λ _ _. lb.range s.second (k - n s.first) c row);
    no_curve = λ s k c row h. by_part s k c row (λ e. e ≡ NoBounds) refl (λ l. la.no_curve s.first k c row (omega arith)) (λ l h'. lb.no_curve s.second (k - n s.first) c row (omega arith));
    no_cell = λ s k c row h. by_part s k c row (λ e. e ≡ NoBounds) refl (λ _. la.no_cell s.first k c row h) (λ _ _. lb.no_cell s.second (k - n s.first) c row h);
  }
