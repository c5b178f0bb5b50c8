use Rattle.std.proofs.Common.{◌≡◌, ◌∙◌, w32, SFits, rules, tests}
use Rattle.std.proofs.lemmas.Int.{to_z-of_z}
use Rattle.std.proofs.lemmas.Iterator.{YieldsList-from_slice}
use Rattle.std.proofs.lemmas.Iterator.Consumers.{YieldsList-from_filter, fold_from_yields_List}
use Rattle.exact.specs.Fraction.{whole, smaller, larger}
use Rattle.family.proofs.Inside.{ascends}
use Rattle.knots.specs.declared.knots.Knot.{Knot}
use Rattle.knots.specs.declared.extents.Extent.{Extent}
use Rattle.knots.specs.Tables.{knots_of}
use Rattle.knots.specs.Values.{height_at}
use Rattle.knots.specs.Extremes.{inside, rounded, joined}
use Rattle.knots.proofs.Walks.{joined_over, joined_is, joined_over_lem, has_extremes}
use Rattle.knots.proofs.tables.KnotTable.extent.Goals as goal

pub returns-clause-rule : goal.returns-clause-rule
returns-clause-rule c =
    let cell = c.args.cell in
    let ks = c.knots.result.now in
    let folded : c.fold.result ≡ joined_over cell c.joined.result ks =
    fold_from_yields_List _ (λ (e : Extent) (k : Knot). joined e (rounded (whole k.y) (whole k.y))) c.joined.result c.fold.result c.fold.ensures.ran
    (YieldsList-from_filter _ (inside cell) (YieldsList-from_slice ks cc) c.filter.ensures.closure (λ x b q k. search (rules, tests)))
    (λ a x b q k. search (rules, tests)) in
    let u = height_at (knots_of c.args.self.now) (whole cell.lo) in
    let v = height_at (knots_of c.args.self.now) (whole cell.hi) in
    let f : SFits w32 cell.lo = search rules in
    let g : SFits w32 cell.hi = search rules in
    let left : c.height-left.result ≡ rounded u u = simp to_z-of_z at c.height-left.ensures in
    let right : c.height-right.result ≡ rounded v v = simp to_z-of_z at c.height-right.ensures in
    let ends : c.joined.result ≡ rounded (smaller u v) (larger u v) = c.joined.ensures ∙ (λ i. joined (left i) (right i)) ∙ joined_is u u v v in
    folded ∙ (λ i. joined_over cell (ends i) (c.knots.ensures i)) ∙ joined_over_lem cell (smaller u v) (larger u v) (knots_of c.args.self.now)

pub returns-clause-law : goal.returns-clause-law
returns-clause-law c there = has_extremes c.args.self.now c.args.cell (ascends c.args.cell there)
