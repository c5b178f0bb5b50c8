use Rattle.std.proofs.Common.{◌≡◌, true, false, ◌++◌, Some, Ok, sym, ap, ◌∙◌, append-nil}
use Rattle.std.specs.Result.{is_ok}
use Rattle.bounded.specs.Lists.{items_of}
use Rattle.codelist.specs.Lists.{lines_of}
use Rattle.knots.specs.Tables.{knots_of}
use Rattle.book.specs.Records.{found}
use Rattle.book.specs.Told.{said_of, entry_of, next_of, place_of, found_at}
use Rattle.book.specs.Loading.{curve_of, table_of, listing, tabling, knotting}
use Rattle.book.proofs.Loaded.{at_the_end, curve_room, table_room, more_kept, pushed, never_full}
use Rattle.book.proofs.loading.load.Goals.{in-Curve, in-Table}
use Rattle.book.proofs.loading.load.Goals as goal

pub loop-read-preserved : goal.loop-read-preserved
loop-read-preserved c =
    let l = c.loop-read in
    let n = c.read_next in
    let m = c.match-read in
    let is : Some (found (entry_of c.in-Some.read)) ≡ found_at l.reader.book.now (place_of l.reader) = ap (λ o. next_of (Ok o)) (sym c.in-Some.is) ∙ c.in_ok-read.ensures.found in
    let t : is_ok m.kept ≡ true = sym c.map_err.ensures.variant ∙ ap is_ok c.in_ok-map_err.was in
    let more = more_kept c.args.book.now l.reader.book.now (place_of l.reader) (listing l.curves) (tabling l.knots) l.invariant (entry_of c.in-Some.read) is (place_of n.new.self) n.new.self.book.now (listing m.curves) (tabling m.knots) n.ensures.place n.ensures.same in
    elim m.branch [
      | in-Curve w ↦
          let s = ap said_of (sym w.in-Curve.is) in
          more (ap listing w.curves-is ∙ pushed lines_of (items_of l.curves) (items_of w.push-kept.new.self) w.in-Curve.list (is_ok w.push-kept.result) (ap is_ok (sym w.kept-is) ∙ t) w.push-kept.ensures.after ∙ ap (λ k. listing l.curves ++ curve_of k) s)
          (ap tabling w.knots-is ∙ sym (append-nil (tabling l.knots)) ∙ ap (λ k. tabling l.knots ++ table_of k) s)
      | in-Table w ↦
          let s = ap said_of (sym w.in-Table.is) in
          let p = w.push-kept-in-Table in
          more (ap listing w.curves-is ∙ sym (append-nil (listing l.curves)) ∙ ap (λ k. listing l.curves ++ curve_of k) s)
          (ap tabling w.knots-is ∙ pushed knotting (items_of l.knots) (items_of p.new.self) w.in-Table.table (is_ok p.result) (ap is_ok (sym w.kept-is) ∙ t) p.ensures.after ∙ ap (λ k. tabling l.knots ++ table_of k) s)
    ]

pub returns-in_err-map_err : goal.returns-in_err-map_err
returns-in_err-map_err c =
    let l = c.loop-read in
    let m = c.match-read in
    let e = entry_of c.in-Some.read in
    let is : Some (found e) ≡ found_at l.reader.book.now (place_of l.reader) = ap (λ o. next_of (Ok o)) (sym c.in-Some.is) ∙ c.in_ok-read.ensures.found in
    let t : is_ok m.kept ≡ false = sym c.map_err.ensures.variant ∙ ap is_ok c.in_err-map_err.was in
    elim m.branch [
      | in-Curve w ↦
          let list = w.in-Curve.list in
          let room = curve_room c.args.book.now l.reader.book.now (place_of l.reader) (listing l.curves) (tabling l.knots) l.invariant e is (lines_of list) (ap said_of w.in-Curve.is) in
          absurd (never_full lines_of (items_of l.curves) (is_ok w.push-kept.result) w.push-kept.ensures.answer room (ap is_ok (sym w.kept-is) ∙ t))
      | in-Table w ↦
          let table = w.in-Table.table in
          let p = w.push-kept-in-Table in
          let room = table_room c.args.book.now l.reader.book.now (place_of l.reader) (listing l.curves) (tabling l.knots) l.invariant e is table.reading (knots_of table) (ap said_of w.in-Table.is) in
          absurd (never_full knotting (items_of l.knots) (is_ok p.result) p.ensures.answer room (ap is_ok (sym w.kept-is) ∙ t))
    ]

pub returns-clause-curves : goal.returns-clause-curves
returns-clause-curves c =
    let l = c.loop-read in
    (at_the_end c.args.book.now l.reader.book.now (place_of l.reader) l.curves l.knots l.invariant (ap (λ o. next_of (Ok o)) (sym c.in_default.is) ∙ c.in_ok-read.ensures.found)).0

pub returns-clause-heights : goal.returns-clause-heights
returns-clause-heights c =
    let l = c.loop-read in
    (at_the_end c.args.book.now l.reader.book.now (place_of l.reader) l.curves l.knots l.invariant (ap (λ o. next_of (Ok o)) (sym c.in_default.is) ∙ c.in_ok-read.ensures.found)).1
