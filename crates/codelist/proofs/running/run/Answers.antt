use Rattle.std.proofs.Common.{◌≡◌, ℕ, ◌<◌, true, length, get_or, take, set, subst, arith}
use Rattle.std.proofs.lemmas.Grind.{common_steps}
use Rattle.codelist.specs.declared.lines.Line.TheVariants.{X}
use Rattle.codelist.specs.Lines.{earlier}
use Rattle.codelist.specs.Lists.{lines_of}
use Rattle.codelist.specs.Evaluate.{entry, entries}
use Rattle.codelist.specs.Kinds.{over}
use Rattle.codelist.specs.RunLaw.{vouched_in}
use Rattle.codelist.proofs.Listing.{in_table, reads_earlier}
use Rattle.codelist.proofs.Stepping.{next}
use Rattle.codelist.proofs.running.run.Goals as goal

pub loop-n-preserved : goal.loop-n-preserved
loop-n-preserved g c =
    let m = g.K.LentKind in
    let list = c.args.list.now in
    let is = c.lines-lines.ensures in
    let ls = c.lines-lines.result.now in
    let n = c.loop-n.n in
    let lt = c.loop-n-test.true in
    let es = g.T.Entries.table c.loop-n.table in
    let o = over m.rules c.args.cell c.args.row.now in
    let e = entry o m.divided (get_or ls n X) es in
    let b = in_table list ls is n lt in
    let room : n < length es = omega (arith, g.T.Entries.sized c.loop-n.table) in
    let at : n ≡ c.clamped.result.n = omega arith in
    let reads : earlier c.clamped.result.n (get_or ls n X) ≡ true = subst (λ (m : ℕ). earlier m (get_or ls n X) ≡ true) at (reads_earlier list ls is n lt X) in
    let filled : g.T.Entries.table c.fill.new.self ≡ set es n e = grind arith in
    record {
      front = rw filled (next o m.divided ls es n X lt room (reads_earlier list ls is n lt X) c.loop-n.invariant.front);
      rest = grind (arith, common_steps);
    }

pub returns-clause-vouched : goal.returns-clause-vouched
returns-clause-vouched g c =
    let m = g.K.LentKind in
    let ls = lines_of c.args.list.now in
    let es = g.T.Entries.table c.loop-n.table in
    let e : take (length ls) es ≡ entries (over m.rules c.args.cell c.args.row.now) m.divided ls = grind (arith, common_steps) in
    λ t p there allowed inside. vouched_in m.rules m.divided m.vouches m.laws m.division c.args.cell c.args.row.now t p there allowed inside es ls e
