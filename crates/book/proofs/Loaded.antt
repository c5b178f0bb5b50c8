-- What each turn of a load does to what is gathered, and what holds at its end.
use Rattle.std.proofs.Common.{◌≡◌, ℕ, ◌<◌, Bool, true, false, cond, ltb, List, [], ◌∷◌, ◌++◌, map, length, slice_get, Some, None, Ok, Err, Option, Result, sym, refl, ap, ◌∙◌, subst, append-nil, arith, lt-ltb, length-append}
use Rattle.std.proofs.lemmas.Bool.{true≢false}
use Rattle.std.proofs.lemmas.List.{length-map, map-append}
use Rattle.std.proofs.lemmas.Option.{slice_get-map}
use Rattle.std.specs.Option.{option_map}
use Rattle.exact.specs.Fraction.{Fraction}
use Rattle.bounded.specs.declared.lists.Bounded.{Bounded}
use Rattle.bounded.specs.Lists.{items_of, item_at}
use Rattle.family.specs.Readings.{Temperatures}
use Rattle.family.specs.Items.{value_by}
use Rattle.codelist.specs.declared.lines.Line.{Line}
use Rattle.codelist.specs.declared.lists.CodeList.{CodeList}
use Rattle.codelist.specs.Lists.{lines_of}
use Rattle.codelist.specs.Plain.{list_value}
use Rattle.knots.specs.declared.knots.Knot.{Knot}
use Rattle.knots.specs.declared.tables.KnotTable.{KnotTable}
use Rattle.tables.specs.Family.{height_less}
use Rattle.book.specs.declared.refusals.Refusal.{Refusal}
use Rattle.book.specs.Records.{Said, a_curve, a_table, Entry, Found, found}
use Rattle.book.specs.Books.{curves_after, tables_after, read_book}
use Rattle.book.specs.Told.{Place, found_at, place_after}
use Rattle.book.specs.Loading.{curve_of, table_of, curves_in, tables_in, listing, tabling, knotting, ListsMean, TablesMean, curve_value, knots_value}
use Rattle.book.proofs.Found.{Room}
use Rattle.book.proofs.Walking.{records_at, on_found, records_at_lem}
use Rattle.book.proofs.Gathering.{Lot, gathered, gather_step, Loading, Says, says}

-- ---- the end of the book
list_means : (o : Option CodeList) (t : Temperatures) (x : Fraction) → value_by list_value o t x ≡ curve_value (option_map lines_of o) t x
list_means None t x = refl
list_means (Some l) t x = refl

table_means : (o : Option KnotTable) (t : Temperatures) (x : Fraction) → value_by height_less o t x ≡ knots_value (option_map knotting o) t x
table_means None t x = refl
table_means (Some k) t x = refl

abbrev lists_in : Result Lot Refusal → List (List Line)
lists_in (Ok l) = l.0
lists_in (Err r) = []

abbrev tables_gathered : Result Lot Refusal → List (ℕ × List Knot)
tables_gathered (Ok l) = l.1
tables_gathered (Err r) = []

-- the families mean what was gathered
finished : (r : Result (List Entry) Refusal) (lists : Bounded CodeList 8) (tables : Bounded KnotTable 8) → gathered (listing lists) (tabling tables) (Ok []) ≡ gathered [] [] r → ListsMean r lists × TablesMean r tables
finished (Err r) lists tables e = absurd cc
finished (Ok es) lists tables e =
    let f : listing lists ≡ curves_in es = sym (append-nil (listing lists)) ∙ ap lists_in e in
    let g : tabling tables ≡ tables_in es = sym (append-nil (tabling tables)) ∙ ap tables_gathered e in (
      λ way k t x. list_means (item_at lists k) t x ∙ ap (λ o. curve_value o t x) (sym (slice_get-map lines_of (items_of lists) k) ∙ ap (λ ls. slice_get ls k) f),
      λ way k t x. table_means (item_at tables k) t x ∙ ap (λ o. knots_value o t x) (sym (slice_get-map knotting (items_of tables) k) ∙ ap (λ ks. slice_get ks k) g),
    )

-- ---- by what the reader found
more_curves : (cs : List (List Line)) (n : ℕ) (k : Said) → length cs ≡ n → length (cs ++ curve_of k) ≡ curves_after k n
more_curves cs n (a_curve ls) e = length-append cs (ls ∷ []) ∙ omega (arith, e)
more_curves cs n (a_table m ks) e = ap length (append-nil cs) ∙ e

more_tables : (ts : List (ℕ × List Knot)) (n : ℕ) (k : Said) → length ts ≡ n → length (ts ++ table_of k) ≡ tables_after k n
more_tables ts n (a_curve ls) e = ap length (append-nil ts) ∙ e
more_tables ts n (a_table m ks) e = length-append ts ((m, ks) ∷ []) ∙ omega (arith, e)

module _ (book held : List ℕ) (p : Place) (cs : List (List Line)) (ts : List (ℕ × List Knot)) (l : Loading book held p cs ts) where
  -- what is gathered so far, by what is found next
  by_found : (o : Option Found) → o ≡ found_at held p → gathered cs ts (on_found book p o) ≡ gathered [] [] (read_book book)
  by_found o e = ap (gathered cs ts) (ap (on_found book p) (e ∙ ap (λ bs. found_at bs p) l.same) ∙ sym (records_at_lem book p)) ∙ l.rule

  -- what holds where a record was found: room for it, and what is kept with one curve or one table more
  module _ (e : Entry) (is : Some (found e) ≡ found_at held p) where
    room : Room p.curves p.tables e.said
    room = (subst (Says held p) (sym is) (says held p)).1.room

    entry_more : gathered (cs ++ curve_of e.said) (ts ++ table_of e.said) (records_at book (place_after p (Some (found e)))) ≡ gathered [] [] (read_book book)
    entry_more = sym (gather_step cs ts e (records_at book (place_after p (Some (found e))))) ∙ by_found (Some (found e)) is

    pub curve_room : (ls : List Line) → e.said ≡ a_curve ls → length cs < 8
    curve_room ls s = let h : p.curves < 8 = subst (Room p.curves p.tables) s room in omega (arith, l.curves)

    pub table_room : (n : ℕ) (ks : List Knot) → e.said ≡ a_table n ks → length ts < 8
    table_room n ks s = let h : p.tables < 8 = subst (Room p.curves p.tables) s room in omega (arith, l.tables)

    -- one curve or one table more
    pub more_kept : (q : Place) (held' : List ℕ) (cs' : List (List Line)) (ts' : List (ℕ × List Knot)) → q ≡ place_after p (found_at held p) → held' ≡ held → cs' ≡ cs ++ curve_of e.said → ts' ≡ ts ++ table_of e.said → Loading book held' q cs' ts'
    more_kept q held' cs' ts' b m f g =
        let here : q ≡ place_after p (Some (found e)) = b ∙ ap (place_after p) (sym is) in
        record {
          same = m ∙ l.same;
          rule = (λ i. gathered (f i) (g i) (records_at book (here i))) ∙ entry_more;
          curves = ap length f ∙ more_curves cs p.curves e.said l.curves ∙ ap (λ (x : Place). x.curves) (sym here);
          tables = ap length g ∙ more_tables ts p.tables e.said l.tables ∙ ap (λ (x : Place). x.tables) (sym here);
        }

pub at_the_end : (book held : List ℕ) (p : Place) (lists : Bounded CodeList 8) (tables : Bounded KnotTable 8) → Loading book held p (listing lists) (tabling tables) → None ≡ found_at held p → ListsMean (read_book book) lists × TablesMean (read_book book) tables
at_the_end book held p lists tables l e = finished (read_book book) lists tables (by_found book held p (listing lists) (tabling tables) l None e)

-- what a push leaves, seen through f, where it was answered that there is room; and there is
pub pushed : {A B : Type 0} (f : A → B) (old new : List A) (item : A) (taken : Bool) → taken ≡ true → new ≡ cond taken (old ++ (item ∷ [])) old → map f new ≡ map f old ++ (f item ∷ [])
pushed {A} f old new item taken t e = ap (map f) (e ∙ ap (λ (q : Bool). cond q (old ++ (item ∷ [])) old) t) ∙ map-append f old (item ∷ [])

pub never_full : {A B : Type 0} (f : A → B) (items : List A) (taken : Bool) → taken ≡ ltb (length items) 8 → length (map f items) < 8 → taken ≡ false → ⊥
never_full f items taken t h e = absurd (true≢false (sym (t ∙ lt-ltb (length items) 8 (rw length-map at h)) ∙ e))
