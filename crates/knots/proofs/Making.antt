-- What the checks of a table's maker give, and what a made table has.
use Rattle.std.proofs.Common.{◌≡◌, ℕ, zero, suc, ◌+◌, ◌<◌, ◌≤◌, Bool, true, false, ◌&&◌, leb, List, [], ◌∷◌, length, get_or, refl, ap, arith, leb-true}
use native.Mathlib.Numerals.{unary_clauses}
use lib.Signed.{lt_z}
use Rattle.std.specs.List.{AllAdjacentBelow, IsAllAdjacentAnswer}
use Rattle.std.proofs.lemmas.Bool.{and_parts}
use Rattle.knots.specs.declared.knots.Knot.{Knot}
use Rattle.knots.specs.declared.tables.KnotTable.{KnotTable}
use Rattle.knots.specs.Knots.{most_knots, all_ranged, ascend_from, ascending, lined}
use Rattle.knots.specs.Tables.{knots_of}

-- ---- what the library's test for order answers
all_ascend : (k : Knot) (ls : List Knot) → AllAdjacentBelow (λ l m. true ≡ lt_z l.x m.x) (k ∷ ls) (length (k ∷ ls)) → true ≡ ascend_from k ls
all_ascend k [] all = refl
all_ascend k (l ∷ ls) all =
    let here = all 0 k (omega arith) in
    let rest = all_ascend l ls (λ n d h. let e = simp unary_clauses at (all (n + 1) d (omega arith)) in simp unary_clauses e) in
    λ i. here i && rest i

some_falls : (k : Knot) (ls : List Knot) (n : ℕ) → n + 1 < length (k ∷ ls) → ((d : Knot) → false ≡ lt_z (get_or (k ∷ ls) n d).x (get_or (k ∷ ls) (n + 1) d).x) → false ≡ ascend_from k ls
some_falls k [] n h falls = absurd (omega arith)
some_falls k (l ∷ ls) zero h falls = ap (λ b. b && ascend_from l ls) (falls k)
some_falls k (l ∷ ls) (suc n) h falls = by (lt_z k.x l.x) (some_falls l ls n (omega arith) (λ d. let e = simp unary_clauses at (falls d) in simp unary_clauses e))
  where
    by : (b : Bool) → false ≡ ascend_from l ls → false ≡ (b && ascend_from l ls)
    by true e = e
    by false e = refl

pub ascending_answer : (ks : List Knot) (r : Bool) → IsAllAdjacentAnswer (λ k l b. b ≡ lt_z k.x l.x) ks r → r ≡ ascending ks
ascending_answer [] true h = refl
ascending_answer [] false h = absurd (omega (arith, h.1))
ascending_answer (k ∷ ls) true h = all_ascend k ls h
ascending_answer (k ∷ ls) false h = some_falls k ls h.0 h.1 h.2

-- ---- of a table that is made
pub record Sound (n : ℕ) (ks : List Knot) : Type 0 where
  pub number : n ≤ 7
  pub range : all_ranged ks ≡ true
  pub some : 2 ≤ length ks
  pub few : length ks ≤ most_knots
  pub ascends : ascending ks ≡ true

pub table_sound : (t : KnotTable) → Sound t.reading (knots_of t)
table_sound t =
    let ks = knots_of t in
    let v = and_parts (leb t.reading 7) (all_ranged ks && lined ks) t.sound in
    let w = and_parts (all_ranged ks) (lined ks) v.1 in
    let l = and_parts (leb 2 (length ks) && leb (length ks) 16) (ascending ks) w.1 in
    let n = and_parts (leb 2 (length ks)) (leb (length ks) 16) l.0 in
    record {
      number = leb-true t.reading 7 v.0;
      range = w.0;
      some = leb-true 2 (length ks) n.0;
      few = leb-true (length ks) 16 n.1;
      ascends = l.1;
    }
