-- The lines of a list: one more may follow them, and each reads earlier lines.
use Rattle.std.proofs.Common.{◌≡◌, ℕ, zero, suc, ◌+◌, ◌<◌, Bool, true, false, cond, if◌then◌else◌, ◌&&◌, List, [], ◌∷◌, ◌++◌, length, get_or, Ok, Err, refl, ap, ◌∙◌, subst, arith}
use Rattle.std.proofs.lemmas.Bool.{and_parts}
use Rattle.bounded.proofs.Items.{items_few}
use Rattle.codelist.specs.declared.lines.Line.{Line}
use Rattle.codelist.specs.declared.lines.LineRefusal.TheVariants.{Operand, Constant}
use Rattle.codelist.specs.declared.lists.CodeList.{CodeList}
use Rattle.codelist.specs.Bound.{line_limit}
use Rattle.codelist.specs.Lines.{earlier, ranged, fit, valid}
use Rattle.codelist.specs.Lists.{lines_of}

-- ---- one line more
pub valid-push : (k m : ℕ) (ls : List Line) (l : Line) → valid k ls ≡ true → m ≡ k + length ls → earlier m l ≡ true → ranged l ≡ true → valid k (ls ++ (l ∷ [])) ≡ true
valid-push k m [] l h e p q = let f : m ≡ k = omega arith in let r = subst (λ (n : ℕ). earlier n l ≡ true) f p in rw (r, q)
valid-push k m (x ∷ ls) l h e p q =
    let b = and_parts (earlier k x && ranged x) (valid (suc k) ls) h in
    rw b.0 (valid-push (suc k) m ls l b.1 (omega arith) p q)

fitting : (k : ℕ) (l : Line) → Ok (tt {0}) ≡ fit k l → (earlier k l ≡ true) × (ranged l ≡ true)
fitting k l e = by (earlier k l) (ranged l) refl refl e
  where
    by : (a b : Bool) → earlier k l ≡ a → ranged l ≡ b → Ok (tt {0}) ≡ cond a (cond b (Ok (tt {0})) (Err Constant)) (Err Operand) → (earlier k l ≡ true) × (ranged l ≡ true)
    by true true p q r = (p, q)
    by true false p q r = cc
    by false b p q r = cc

-- whether or not there was room for it
pub still_valid : (ls : List Line) (l : Line) (k : ℕ) (room : Bool) → valid 0 ls ≡ true → k ≡ length ls → Ok (tt {0}) ≡ fit k l → valid 0 (if room then ls ++ (l ∷ []) else ls) ≡ true
still_valid ls l k true h e r = let f = fitting k l r in valid-push 0 k ls l h (omega arith) f.0 f.1
still_valid ls l k false h e r = h

-- ---- the lines of a list, as the run reads them
pub valid_at : (k m : ℕ) (ls : List Line) (n : ℕ) (d : Line) → valid k ls ≡ true → n < length ls → m ≡ k + n → earlier m (get_or ls n d) ≡ true
valid_at k m [] n d h l e = absurd (omega arith)
valid_at k m (x ∷ ls) zero d h l e =
    let f : k ≡ m = omega arith in
    subst (λ (i : ℕ). earlier i x ≡ true) f (and_parts (earlier k x) (ranged x) (and_parts (earlier k x && ranged x) (valid (suc k) ls) h).0).0
valid_at k m (x ∷ ls) (suc n) d h l e = valid_at (suc k) m ls n d (and_parts (earlier k x && ranged x) (valid (suc k) ls) h).1 (omega arith) (omega arith)

module _ (s : CodeList) (ls : List Line) (is : ls ≡ lines_of s) (n : ℕ) (lt : n < length ls) where
  pub in_table : n < line_limit
  in_table = let e = ap length is in let f = items_few s.lines in omega arith

  pub reads_earlier : (d : Line) → earlier n (get_or ls n d) ≡ true
  reads_earlier d = valid_at 0 n ls n d (ap (valid 0) is ∙ s.sound) lt (omega arith)
