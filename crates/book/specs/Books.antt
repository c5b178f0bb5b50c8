-- The reading of a book: its records in order, or the one refusal.
use Rattle.std.specs.Prelude.{ℕ, zero, suc, ◌-◌, cond, List, [], ◌∷◌, length, Ok, Err, Result, nat_lt}
use Rattle.book.specs.declared.refusals.Fault.TheVariants.{TooLong}
use Rattle.book.specs.declared.refusals.Layer.TheVariants.{Book as BookLayer}
use Rattle.book.specs.declared.refusals.Refusal.{Refusal}
use Rattle.book.specs.Lines.{refused}
use Rattle.book.specs.Records.{Said, a_curve, a_table, Entry, size_of, Found, found, stopped, record_at}

-- a book has at most so many bytes
abbrev pub most_bytes : ℕ
most_bytes = 8192

-- the curves and tables before the next record, after one that says this
abbrev pub curves_after : Said → ℕ → ℕ
curves_after (a_curve ls) c = suc c
curves_after (a_table n ks) c = c

abbrev pub tables_after : Said → ℕ → ℕ
tables_after (a_curve ls) t = t
tables_after (a_table n ks) t = suc t

abbrev pub before : Entry → Result (List Entry) Refusal → Result (List Entry) Refusal
before e (Ok es) = Ok (e ∷ es)
before e (Err r) = Err r

abbrev pub carry_on : (Entry → Result (List Entry) Refusal) → Found → Result (List Entry) Refusal
carry_on next (found e) = before e (next e)
carry_on next (stopped r) = Err r

-- with c curves and t tables so far, n bytes of the last record still to pass over, and the offset of what is left of the book
abbrev pub records_from : ℕ → ℕ → ℕ → ℕ → List ℕ → Result (List Entry) Refusal
records_from c t n at [] = Ok []
records_from c t (suc n) at (b ∷ bs) = records_from c t n (suc at) bs
records_from c t zero at (b ∷ bs) = carry_on (λ e. records_from (curves_after e.said c) (tables_after e.said t) (size_of e - 1) (suc at) bs) (record_at c t at (b ∷ bs))

abbrev pub read_book : List ℕ → Result (List Entry) Refusal
read_book bs = cond (nat_lt most_bytes (length bs)) (Err (refused TooLong BookLayer 0)) (records_from 0 0 0 0 bs)
