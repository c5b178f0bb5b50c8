-- What the loop of a load keeps: what is gathered so far and what is left of the book make up the whole book.
use Rattle.std.proofs.Common.{◌≡◌, ℕ, ◌<◌, Bool, true, false, cond, ltb, List, [], ◌++◌, length, drop, Some, None, Ok, Err, Option, Result, sym, refl, ap, ◌∙◌, append_assoc, ltb-true}
use Rattle.codelist.specs.declared.lines.Line.{Line}
use Rattle.knots.specs.declared.knots.Knot.{Knot}
use Rattle.book.specs.declared.refusals.Fault.TheVariants.{TooLong}
use Rattle.book.specs.declared.refusals.Layer.TheVariants.{Book as BookLayer}
use Rattle.book.specs.declared.refusals.Refusal.{Refusal}
use Rattle.book.specs.Lines.{refused}
use Rattle.book.specs.Records.{Entry, Found, found, stopped, record_at}
use Rattle.book.specs.Books.{most_bytes, before, read_book}
use Rattle.book.specs.Told.{Place, start, found_at}
use Rattle.book.specs.Loading.{curve_of, table_of, curves_in, tables_in}
use Rattle.book.proofs.Found.{EntrySays, FoundSays, record_says}
use Rattle.book.proofs.Walking.{records_at}

-- the curves and tables with those gathered before
abbrev pub Lot : Type 0
Lot = List (List Line) × List (ℕ × List Knot)

abbrev pub gathered : List (List Line) → List (ℕ × List Knot) → Result (List Entry) Refusal → Result Lot Refusal
gathered cs ts (Ok es) = Ok (cs ++ curves_in es, ts ++ tables_in es)
gathered cs ts (Err r) = Err r

pub gather_step : (cs : List (List Line)) (ts : List (ℕ × List Knot)) (e : Entry) (r : Result (List Entry) Refusal) → gathered cs ts (before e r) ≡ gathered (cs ++ curve_of e.said) (ts ++ table_of e.said) r
gather_step cs ts e (Ok es) = let c = append_assoc cs (curve_of e.said) (curves_in es) in let t = append_assoc ts (table_of e.said) (tables_in es) in (λ i. Ok (sym c i, sym t i))
gather_step cs ts e (Err r) = refl

-- ---- the loop
pub record Loading (book held : List ℕ) (p : Place) (cs : List (List Line)) (ts : List (ℕ × List Knot)) : Type 0 where
  pub same : held ≡ book
  pub rule : gathered cs ts (records_at book p) ≡ gathered [] [] (read_book book)
  pub curves : length cs ≡ p.curves
  pub tables : length ts ≡ p.tables

pub at_start : (book held : List ℕ) (p : Place) (cs : List (List Line)) (ts : List (ℕ × List Knot)) → held ≡ book → p ≡ start → cs ≡ [] → ts ≡ [] → Loading book held p cs ts
at_start book held p cs ts h e f g = record {
  same = h;
  rule = λ i. gathered (f i) (g i) (records_at book (e i));
  curves = ap length f ∙ ap (λ (q : Place). q.curves) (sym e);
  tables = ap length g ∙ ap (λ (q : Place). q.tables) (sym e);
}

-- ---- what is found at a place
abbrev pub Says : List ℕ → Place → Option Found → Type 0
Says bs p None = Unit {0}
Says bs p (Some (stopped r)) = Unit {0}
Says bs p (Some (found e)) = (p.at < length bs) × EntrySays p.curves p.tables (drop p.at bs) e

pub says : (bs : List ℕ) (p : Place) → Says bs p (found_at bs p)
says bs p = by (ltb most_bytes (length bs)) (ltb p.at (length bs)) refl
  where
    some : (f : Found) → FoundSays p.curves p.tables p.at (drop p.at bs) f → p.at < length bs → Says bs p (Some f)
    some (stopped r) s h = tt
    some (found e) s h = (h, s)

    by : (b d : Bool) → ltb p.at (length bs) ≡ d → Says bs p (cond b (Some (stopped (refused TooLong BookLayer 0))) (cond d (Some (record_at p.curves p.tables p.at (drop p.at bs))) None))
    by true d f = tt
    by false true f = some (record_at p.curves p.tables p.at (drop p.at bs)) (record_says p.curves p.tables p.at (drop p.at bs)) (ltb-true p.at (length bs) f)
    by false false f = tt
