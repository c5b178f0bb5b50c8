use Rattle.std.proofs.Common.{◌≡◌, Some, None, Option, refl, ap, ◌∙◌}
use Rattle.interval.specs.declared.enclosures.Enclosure.TheVariants.{Bounds}
use Rattle.interval.specs.Rules.{sub}
use Rattle.family.specs.declared.readings.Reading.{Reading}
use Rattle.family.specs.Readings.{reading_at, reading_pair}
use Rattle.knots.specs.declared.extents.Extent.{Extent}
use Rattle.tables.specs.Family.{less_reading}
use Rattle.tables.proofs.asking.table_enclosure.Goals as goal

-- the rule is a SUB of enclosures
is_sub : (e : Extent) (o : Option Reading) → sub (Bounds e.lo e.hi) (reading_pair o) ≡ less_reading e o
unfolding sub
is_sub e None = refl
is_sub e (Some r) = refl

pub returns : goal.returns
returns c =
    let e = c.extent.result in
    let o = reading_at c.args.row.now c.args.table.now.reading in
    let r = c.reading_pair.ensures ∙ ap reading_pair (c.reading_at.ensures ∙ ap (reading_at c.args.row.now) c.reading.ensures) in
    c.sub.ensures.same ∙ (λ i. sub (c.from-height.ensures i) (r i)) ∙ is_sub e o ∙ (λ i. less_reading (c.extent.ensures.rule i) o)
