use Rattle.std.proofs.Common.{◌≡◌, ℕ, ◌<◌, ◌≤◌, ◌-◌, true, List, Some, subst, length, get_or, pos, sym, refl, ap, ◌∙◌, arith, rules, tests}
use borrow.Author.Differences.{ints}
use Rattle.std.proofs.lemmas.Int.{to_z-of_z}
use Rattle.std.proofs.lemmas.Iterator.{IsFirst-from_position, YieldsList-from_slice}
use Rattle.std.proofs.lemmas.List.Recursion.{and_at}
use Rattle.exact.specs.Fraction.{Fraction, whole}
use Rattle.knots.specs.declared.knots.Knot.{Knot}
use Rattle.knots.specs.Knots.{ranged, all_ranged}
use Rattle.knots.specs.Tables.{knots_of}
use Rattle.knots.specs.Values.{line, height_at}
use Rattle.knots.specs.Extremes.{rounded}
use Rattle.knots.proofs.Making.{table_sound}
use Rattle.knots.proofs.Walks.{Reaches, Passed, First, at_first, between_two, past_last}
use Rattle.knots.proofs.tables.KnotTable.height.Goals as goal
use Rattle.knots.proofs.tables.KnotTable.height.Goals.{After-position}

abbrev none : Knot
none = record { x = pos 0; y = pos 0 }

module _ (c : After-position) where
  abbrev ks : List Knot
  ks = c.knots-knots.result.now

  found : First c.args.x none ks c.position.result
  found = IsFirst-from_position _ _ _ (Reaches c.args.x none) (Passed c.args.x none) c.position.ensures.ran (YieldsList-from_slice ks cc) (λ k q h. search (rules, tests)) (λ k q h. search (rules, tests))

  found_at : (n : ℕ) → c.position.result ≡ Some n → First c.args.x none ks (Some n)
  found_at n e = subst (First c.args.x none ks) e found

  -- a height of the knots is one of the table
  told : (u : Fraction) → height_at ks (whole c.args.x) ≡ u → rounded u u ≡ rounded (height_at (knots_of c.args.self.now) (whole c.args.x)) (height_at (knots_of c.args.self.now) (whole c.args.x))
  told u e = ap (λ (v : Fraction). rounded v v) (sym e ∙ ap (λ (ls : List Knot). height_at ls (whole c.args.x)) c.knots-knots.ensures)

  some : 2 ≤ length ks
  some = let s = table_sound c.args.self.now in let e = ap length c.knots-knots.ensures in omega (arith, s.some)

  range : (n : ℕ) → n < length ks → ranged (get_or ks n none) ≡ true
  range n h = let s = table_sound c.args.self.now in and_at all_ranged ranged refl (λ _ _. refl) ks n none h (ap all_ranged c.knots-knots.ensures ∙ s.range)

pub height_toward-requires : goal.height_toward-requires
height_toward-requires c =
    let p = (goal.at.height_toward-requires c).After-position in
    let n = c.in-Some.n in
    let f = found_at p n c.in-Some.is in
    let x = c.ranges.x in
    let reached = f.1 none in
    let passed = f.2 (n - 1) none (omega arith) (omega arith) in
    record {
      left = range p (n - 1) (omega (arith, f.0));
      right = range p n f.0;
      after = simp to_z-of_z (omega (arith, ints));
      upto = simp to_z-of_z (omega (arith, ints));
    }

pub returns-in-Some-eq0 : goal.returns-in-Some-eq0
returns-in-Some-eq0 c =
    let p = (goal.at.returns-in-Some-eq0 c).After-position in
    let f = found_at p 0 (c.in-Some-eq0.is ∙ ap Some (omega arith)) in
    c.level.ensures ∙ told p (whole (get_or (ks p) 0 none).y) (at_first c.args.x none (ks p) f.0 f.1)

pub returns-in-Some : goal.returns-in-Some
returns-in-Some c =
    let p = (goal.at.returns-in-Some c).After-position in
    let n = c.in-Some.n in
    let f = found_at p n c.in-Some.is in
    let x = c.ranges.x in
    let there : c.height_toward.result ≡ rounded (line (get_or (ks p) (n - 1) none) (get_or (ks p) n none) (whole c.args.x)) (line (get_or (ks p) (n - 1) none) (get_or (ks p) n none) (whole c.args.x)) = simp to_z-of_z at c.height_toward.ensures in
    there ∙ told p (line (get_or (ks p) (n - 1) none) (get_or (ks p) n none) (whole c.args.x)) (between_two c.args.x none (ks p) (n - 1) n (omega arith) f.0 f.1 f.2)

pub returns-in-None : goal.returns-in-None
returns-in-None c =
    let p = (goal.at.returns-in-None c).After-position in
    let f = subst (First c.args.x none (ks p)) c.in-None.is (found p) in
    let s = some p in
    c.level-in-None.ensures ∙ told p (whole (get_or (ks p) (length (ks p) - 1) none).y) (past_last c.args.x none (ks p) (length (ks p) - 1) (omega arith) f)
