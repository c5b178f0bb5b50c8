-- The family of plain lists is lawful: an answer holds the exact value, has its ends within the limit, and what does not exist
-- has no bounds.
use Rattle.std.specs.Prelude.{◌-◌, List, length, pos, refl}
use Rattle.exact.specs.Fraction.{Fraction, whole}
use Rattle.exact.specs.Value.{Value, quotient}
use Rattle.interval.specs.declared.enclosures.Enclosure.{Enclosure}
use Rattle.interval.specs.Rules.{neg, add, sub, mul, div, abs, max, chi}
use Rattle.interval.specs.Meaning.{InRange}
use Rattle.interval.proofs.Laws.{kept_range, neg_follows, add_follows, sub_follows, mul_follows, div_follows, abs_follows, max_follows, chi_follows}
use Rattle.family.specs.declared.cells.Cell.{Cell}
use Rattle.family.specs.declared.curves.Curves.{Curves}
use Rattle.family.specs.Readings.{Temperatures, RowOf, reading_at}
use Rattle.family.specs.Meaning.{Lawful}
use Rattle.family.specs.Items.{ItemLaw, item_count, item_value, item_answer}
use Rattle.family.specs.ItemLaws.{items_lawful}
use Rattle.family.proofs.Inside.{reading_range}
use Rattle.codelist.specs.declared.intervals.Intervals.{Intervals}
use Rattle.codelist.specs.declared.lines.Line.{Line}
use Rattle.codelist.specs.declared.lists.CodeList.{CodeList}
use Rattle.codelist.specs.Lists.{lines_of}
use Rattle.codelist.specs.Exact.{exactly}
use Rattle.codelist.specs.Kinds.{over}
use Rattle.codelist.specs.RunLaw.{Keeps, keeps_at, vouched_at}
use Rattle.codelist.specs.Intervals.{pair_rules, pair_vouches}
use Rattle.codelist.specs.IntervalLaw.{pair_law, pair_division}
use Rattle.codelist.specs.Plain.{enclosure_of, list_value, list_answer}

-- ---- the range
-- whatever the values are
abbrev Ranged : Enclosure → Value → Value → Type 0
Ranged e v w = InRange e

ranges : (c : Cell) (row : RowOf) (t : Temperatures) (x : Fraction) → Keeps Ranged (over pair_rules c row) div (exactly t x) quotient (exactly t x) quotient
ranges c row t x = record {
  blank = tt;
  x = kept_range c.lo c.hi;
  constant = λ v. kept_range v v;
  reading = λ n. reading_range (reading_at row n);
  neg = λ e v w h. (neg_follows e (neg e) refl).range;
  abs = λ e v w h. (abs_follows e (abs e) refl).range;
  add = λ e f v v' w w' h k. (add_follows e f (add e f) refl).range;
  sub = λ e f v v' w w' h k. (sub_follows e f (sub e f) refl).range;
  mul = λ e f v v' w w' h k. (mul_follows e f (mul e f) refl).range;
  max = λ e f v v' w w' h k. (max_follows e f (max e f) refl).range;
  div = λ e f v v' w w' h k. (div_follows e f (div e f) refl).range;
  chi = λ e f g v v' v'' w w' w'' h k m. (chi_follows e f g (chi e f g) refl).range;
}

pub lines_range : (c : Cell) (row : RowOf) (ls : List Line) → InRange (enclosure_of c row ls)
lines_range c row ls =
    let t : Temperatures = λ _. whole (pos 0) in
    let x = whole (pos 0) in
    keeps_at Ranged (over pair_rules c row) div (exactly t x) quotient (exactly t x) quotient (ranges c row t x) ls (length ls - 1)

-- ---- the law
pub plain_law : ItemLaw list_value list_answer
plain_law = record {
  holds = λ l c row t x there allowed inside. (vouched_at pair_rules div pair_vouches pair_law pair_division c row t x there allowed inside (lines_of l) (length (lines_of l) - 1)).0;
  range = λ l c row. lines_range c row (lines_of l);
}

pub plain_lawful : Lawful {S = Curves CodeList Intervals} item_count (item_value list_value) (item_answer list_answer)
plain_lawful = items_lawful plain_law
