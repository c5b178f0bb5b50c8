-- A family given by items is lawful where its items are.
use Rattle.std.specs.Prelude.{◌≡◌, ◌≤◌, Bool, true, cond, List, length, Some, None, Option, slice_get, refl}
use Rattle.std.proofs.Common.{ap, arith}
use Rattle.std.proofs.lemmas.Option.{slice_get_past}
use Rattle.exact.specs.Fraction.{Fraction}
use Rattle.exact.specs.Value.{Value}
use Rattle.bounded.specs.Lists.{items_of}
use Rattle.bounded.proofs.Items.{items_few}
use Rattle.interval.specs.declared.enclosures.Enclosure.{Enclosure}
use Rattle.interval.specs.declared.enclosures.Enclosure.TheVariants.{NoBounds}
use Rattle.interval.specs.Meaning.{Holds, InRange}
use Rattle.interval.proofs.OneEnd.{cond_if}
use Rattle.family.specs.declared.cells.Cell.{Cell}
use Rattle.family.specs.declared.curves.Curves.{Curves}
use Rattle.family.specs.Cells.{exists, InCell}
use Rattle.family.specs.Readings.{Temperatures, RowOf, Allowed}
use Rattle.family.specs.Meaning.{Lawful}
use Rattle.family.specs.Items.{ItemLaw, value_by, answer_by, listed_value, listed_answer, item_count, item_value, item_answer}

module _ {T : Type 0} {value : T → Temperatures → Fraction → Value} {answer : T → Cell → RowOf → Enclosure} (law : ItemLaw value answer) where
  held : (o : Option T) (c : Cell) (row : RowOf) (t : Temperatures) (x : Fraction) → exists c ≡ true → Allowed row t → InCell c x → Holds (answer_by answer o c row) (value_by value o t x)
  held None c row t x e h i = tt
  held (Some j) c row t x e h i = law.holds j c row t x e h i

  in_range : (o : Option T) (c : Cell) (row : RowOf) → InRange (answer_by answer o c row)
  in_range None c row = tt
  in_range (Some j) c row = law.range j c row

  -- whatever lists at most a thousand items
  pub listed_lawful : {S : Type 0} (items : S → List T) → ((s : S) → length (items s) ≤ 1000) → Lawful (λ s. length (items s)) (λ s. listed_value value (items s)) (λ s. listed_answer answer (items s))
  listed_lawful items few = record {
    few = few;
    holds = λ s k c row t x h i. let o = slice_get (items s) k in cond_if (λ e. Holds e (value_by value o t x)) (exists c) (answer_by answer o c row) NoBounds (λ e. held o c row t x e h i) (λ _. tt);
    range = λ s k c row. let o = slice_get (items s) k in cond_if InRange (exists c) (answer_by answer o c row) NoBounds (λ _. in_range o c row) (λ _. tt);
    no_curve = λ s k c row h. let o = slice_get (items s) k in cond_if (λ e. e ≡ NoBounds) (exists c) (answer_by answer o c row) NoBounds (λ _. ap (λ (p : Option T). answer_by answer p c row) (slice_get_past (items s) k h)) (λ _. refl);
    no_cell = λ s k c row h. ap (λ (b : Bool). cond b (answer_by answer (slice_get (items s) k) c row) NoBounds) h;
  }

  pub items_lawful : {W : Type 0} → Lawful (item_count {T = T} {W = W}) (item_value value) (item_answer answer)
  items_lawful {W} = listed_lawful (λ (s : Curves T W). items_of s.items) (λ s. let h = items_few s.items in omega arith)
