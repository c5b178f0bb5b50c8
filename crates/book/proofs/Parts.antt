-- The parts of a record, as slices of the book.
use Rattle.std.proofs.Common.{◌≡◌, ℕ, ◌+◌, ◌-◌, ◌*◌, ◌<◌, Bool, cond, List, [], length, get_or, take, drop, Some, None, Ok, Err, Option, Result, sym, ap, ◌∙◌, arith, lt-ltb}
use Rattle.std.proofs.lemmas.List.{drop-drop, get_or-drop}
use Rattle.knots.specs.declared.tables.KnotTable.{KnotTable}
use Rattle.knots.specs.Tables.{knots_of}
use Rattle.book.specs.declared.ops.Command.TheVariants.{Open}
use Rattle.book.specs.declared.records.Contents.TheVariants.{Table as TableContents}
use Rattle.book.specs.declared.refusals.Fault.{Fault}
use Rattle.book.specs.declared.refusals.Fault.TheVariants.{TooMany}
use Rattle.book.specs.declared.refusals.Layer.TheVariants.{Record as RecordLayer}
use Rattle.book.specs.Lines.{refused, lines_from}
use Rattle.book.specs.Records.{Said, a_table, Entry, found, stopped, tag_of, table_body, body_reading, body_knots, table_fault, curve_by, table_by, table_found, outside_by}
use Rattle.book.specs.Reading.{TableRead}
use Rattle.book.specs.Told.{said_of}

-- what stands nine bytes further
pub nine_further : (book : List ℕ) (at : ℕ) → drop (at + 9) book ≡ drop 9 (drop at book)
nine_further book at = sym (drop-drop 9 at book)

-- a record with its parts as the code has them
abbrev pub parted : List ℕ → ℕ → ℕ → Said → Entry
parted book at end s = record { offset = at; tag = take (at + 9 - (at + 1)) (drop (at + 1) book); body = take (end - (at + 9)) (drop (at + 9) book); said = s }

-- and as the rules have them
abbrev pub record_part : List ℕ → ℕ → ℕ → Said → Entry
record_part book at end s = record { offset = at; tag = tag_of (drop at book); body = take (end - (at + 9)) (drop 9 (drop at book)); said = s }

pub parts_lem : (book : List ℕ) (at end : ℕ) (s : Said) → parted book at end s ≡ record_part book at end s
parts_lem book at end s =
    let n : at + 9 - (at + 1) ≡ 8 = omega arith in
    (λ i. record { offset = at; tag = take (n i) (sym (drop-drop 1 at book) i); body = take (end - (at + 9)) (nine_further book at i); said = s })

-- a curve where there is room for it
pub curve_there : (book : List ℕ) (c t at : ℕ) → c < 8 → outside_by c t at (drop at book) Open ≡ curve_by at (drop at book) (lines_from [] 0 (at + 9) (drop (at + 9) book))
curve_there book c t at h =
    ap (λ (b : Bool). cond b (curve_by at (drop at book) (lines_from [] 0 (at + 9) (drop 9 (drop at book)))) (stopped (refused TooMany RecordLayer at))) (lt-ltb c 8 h)
    ∙ ap (λ (bs : List ℕ). curve_by at (drop at book) (lines_from [] 0 (at + 9) bs)) (sym (nine_further book at))

-- what reading the body says, as the code has it; w bytes of operands
abbrev pub BodyRead : List ℕ → ℕ → ℕ → ℕ → Result KnotTable Fault → Type 0
BodyRead book at w t = let body = take (at + 1 + w - (at + 9)) (drop (at + 9) book) in TableRead t (body_reading body) (body_knots body)

module _ (book : List ℕ) (at w : ℕ) (count : w ≡ 10 + 8 * get_or book (at + 10) 0) (whole : at + w < length book) where
  abbrev body : List ℕ
  body = take (at + 1 + w - (at + 9)) (drop (at + 9) book)

  body_size : at + 1 + w - (at + 9) ≡ 2 + 8 * get_or (drop at book) 10 0
  body_size = let e = get_or-drop at book 10 0 in omega arith

  pub body_part : body ≡ table_body (drop at book)
  body_part = (λ i. take (body_size i) (nine_further book at i))

  module _ (t : ℕ) where
    -- the fault, of the body that the rules have
    fault_is : (o : Option Fault) → table_fault t (body_reading body) (body_knots body) ≡ o → o ≡ table_fault t (body_reading (table_body (drop at book))) (body_knots (table_body (drop at book)))
    fault_is o e = sym e ∙ ap (λ (b : List ℕ). table_fault t (body_reading b) (body_knots b)) body_part

    pub table_there : (k : KnotTable) → TableRead t (body_reading body) (body_knots body) (Ok k) → found (record_part book at (at + 1 + w) (said_of (TableContents k))) ≡ table_found t at (drop at book)
    table_there k r =
        let bs = drop at book in
        let n : k.reading ≡ body_reading (table_body bs) = r.1 ∙ ap body_reading body_part in
        let ks : knots_of k ≡ body_knots (table_body bs) = r.2 ∙ ap body_knots body_part in
        (λ i. found (record { offset = at; tag = tag_of bs; body = take (body_size i) (drop 9 bs); said = a_table (n i) (ks i) })) ∙ ap (table_by at (tag_of bs) (table_body bs)) (fault_is None r.0)

    pub table_refused : (f : Fault) → TableRead t (body_reading body) (body_knots body) (Err f) → stopped (refused f RecordLayer at) ≡ table_found t at (drop at book)
    table_refused f r = ap (table_by at (tag_of (drop at book)) (table_body (drop at book))) (fault_is (Some f) r)
