-- The reading of a book from a place on, one record after the other, and what is gathered of it.
use Rattle.std.proofs.Common.{◌≡◌, ℕ, zero, suc, ◌+◌, ◌-◌, ◌<◌, ◌≤◌, Bool, true, false, cond, ltb, List, [], ◌∷◌, length, drop, Some, None, Ok, Err, Option, Result, sym, refl, ap, ◌∙◌, add-zero, arith, ltb-false, ltb-true, le-ltb}
use Rattle.std.proofs.lemmas.List.{length-drop, drop-drop, drop_more, drop_all}
use Rattle.book.specs.declared.refusals.Fault.TheVariants.{TooLong}
use Rattle.book.specs.declared.refusals.Layer.TheVariants.{Book as BookLayer}
use Rattle.book.specs.declared.refusals.Refusal.{Refusal}
use Rattle.book.specs.Lines.{refused}
use Rattle.book.specs.Records.{Said, a_curve, a_table, Entry, size_by, size_of, Found, found, stopped, record_at}
use Rattle.book.specs.Books.{most_bytes, curves_after, tables_after, before, carry_on, records_from}
use Rattle.book.specs.Told.{Place, found_at, place_after}
use Rattle.book.proofs.Found.{FoundSays, record_says}

pub pass_records : (c t n at : ℕ) (bs : List ℕ) → n ≤ length bs → records_from c t n at bs ≡ records_from c t 0 (at + n) (drop n bs)
pass_records c t zero at bs h = ap (λ (m : ℕ). records_from c t 0 m bs) (sym (add-zero at))
pass_records c t (suc n) at [] h = absurd (omega arith)
pass_records c t (suc n) at (b ∷ bs) h = pass_records c t n (suc at) bs (omega arith) ∙ ap (λ (m : ℕ). records_from c t 0 m (drop n bs)) (omega arith)

-- the records from a place on
abbrev pub records_at : List ℕ → Place → Result (List Entry) Refusal
records_at bs p = cond (ltb most_bytes (length bs)) (Err (refused TooLong BookLayer 0)) (records_from p.curves p.tables 0 p.at (drop p.at bs))

-- by what is found there
abbrev pub on_found : List ℕ → Place → Option Found → Result (List Entry) Refusal
on_found bs p None = Ok []
on_found bs p (Some (stopped r)) = Err r
on_found bs p (Some (found e)) = before e (records_at bs (place_after p (Some (found e))))

size_positive : (e : Entry) → 1 ≤ size_of e
size_positive e = by e.said
  where
    by : (k : Said) → 1 ≤ size_by k (length e.body)
    by (a_curve ls) = omega arith
    by (a_table n ks) = omega arith

module _ (bs : List ℕ) (p : Place) (short : length bs ≤ most_bytes) where
  not_long : ltb most_bytes (length bs) ≡ false
  not_long = le-ltb most_bytes (length bs) short

  short_records : (q : Place) → records_at bs q ≡ records_from q.curves q.tables 0 q.at (drop q.at bs)
  short_records q = ap (λ (b : Bool). cond b (Err (refused TooLong BookLayer 0)) (records_from q.curves q.tables 0 q.at (drop q.at bs))) not_long

  module _ (within : p.at < length bs) where
    rest : List ℕ
    rest = drop (p.at + 1) bs

    -- behind a record
    behind : (e : Entry) → size_of e ≤ length (drop p.at bs) → records_from (curves_after e.said p.curves) (tables_after e.said p.tables) (size_of e - 1) (suc p.at) (drop (p.at + 1) bs) ≡ records_at bs (place_after p (Some (found e)))
    behind e h =
        let s = size_positive e in
        let l = length-drop p.at bs in
        let m = length-drop (p.at + 1) bs in
        let c = curves_after e.said p.curves in
        let t = tables_after e.said p.tables in
        let a : suc p.at + (size_of e - 1) ≡ p.at + size_of e = omega arith in
        let b : p.at + 1 + (size_of e - 1) ≡ p.at + size_of e = omega arith in
        pass_records c t (size_of e - 1) (suc p.at) (drop (p.at + 1) bs) (omega arith)
        ∙ (λ i. records_from c t 0 (a i) ((drop-drop (size_of e - 1) (p.at + 1) bs ∙ ap (λ (n : ℕ). drop n bs) b) i))
        ∙ sym (short_records (place_after p (Some (found e))))

    at_record : (f : Found) → record_at p.curves p.tables p.at (drop p.at bs) ≡ f → FoundSays p.curves p.tables p.at (drop p.at bs) f → records_at bs p ≡ on_found bs p (Some f)
    at_record f e s =
        let split = drop_more bs p.at 0 within in
        let next : Entry → Result (List Entry) Refusal = λ x. records_from (curves_after x.said p.curves) (tables_after x.said p.tables) (size_of x - 1) (suc p.at) (drop (p.at + 1) bs) in
        short_records p ∙ ap (records_from p.curves p.tables 0 p.at) split ∙ ap (carry_on next) (ap (record_at p.curves p.tables p.at) (sym split) ∙ e) ∙ by f s
      where
        by : (f : Found) → FoundSays p.curves p.tables p.at (drop p.at bs) f
            → carry_on (λ x. records_from (curves_after x.said p.curves) (tables_after x.said p.tables) (size_of x - 1) (suc p.at) (drop (p.at + 1) bs)) f ≡ on_found bs p (Some f)
        by (stopped r) s = refl
        by (found e) s = ap (before e) (behind e s.size)

  at_end : length bs ≤ p.at → records_at bs p ≡ Ok []
  at_end h = short_records p ∙ ap (records_from p.curves p.tables 0 p.at) (drop_all p.at bs h)

-- the reading goes on by what is found at the place
pub records_at_lem : (bs : List ℕ) (p : Place) → records_at bs p ≡ on_found bs p (found_at bs p)
records_at_lem bs p = by (ltb most_bytes (length bs)) refl
  where
    there : length bs ≤ most_bytes → (b : Bool) → ltb p.at (length bs) ≡ b → records_at bs p ≡ on_found bs p (cond b (Some (record_at p.curves p.tables p.at (drop p.at bs))) None)
    there s true e = at_record bs p s (ltb-true p.at (length bs) e) (record_at p.curves p.tables p.at (drop p.at bs)) refl (record_says p.curves p.tables p.at (drop p.at bs))
    there s false e = at_end bs p s (ltb-false p.at (length bs) e)

    by : (b : Bool) → ltb most_bytes (length bs) ≡ b → records_at bs p ≡ on_found bs p (cond b (Some (stopped (refused TooLong BookLayer 0))) (cond (ltb p.at (length bs)) (Some (record_at p.curves p.tables p.at (drop p.at bs))) None))
    by true e = ap (λ (b : Bool). cond b (Err (refused TooLong BookLayer 0)) (records_from p.curves p.tables 0 p.at (drop p.at bs))) e
    by false e = there (ltb-false most_bytes (length bs) e) (ltb p.at (length bs)) refl
