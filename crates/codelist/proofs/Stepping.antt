-- A turn of the run: the table's first places are the entries of the lines so far.
use Rattle.std.proofs.Common.{◌≡◌, ℕ, ◌+◌, ◌<◌, true, ltb, List, [], ◌∷◌, ◌++◌, length, get_or, take, set, sym, refl, ap, ◌∙◌, ltb-true, rules}
use Rattle.std.proofs.lemmas.Bool.{and_parts}
use Rattle.std.proofs.lemmas.List.{take_more, take_more_set, get_or-take}
use Rattle.codelist.specs.declared.lines.Line.{Line}
use Rattle.codelist.specs.declared.lines.Line.TheVariants.{X, C, R, Neg, Abs, Add, Sub, Mul, Div, Max, Chi}
use Rattle.codelist.specs.Lines.{earlier}
use Rattle.codelist.specs.Evaluate.{Operations, entry, onward, entries}

module _ {E : Type 0} (o : Operations E) (d : E → E → E) where
  onward-append : (es : List E) (ks ls : List Line) → onward o d es (ks ++ ls) ≡ onward o d (onward o d es ks) ls
  onward-append es [] ls = refl
  onward-append es (k ∷ ks) ls = onward-append (es ++ (entry o d k es ∷ [])) ks ls

  -- a line that reads lines before number n needs only the first n entries
  front : (es : List E) (n i : ℕ) → ltb i n ≡ true → get_or (take n es) i o.blank ≡ get_or es i o.blank
  front es n i h = get_or-take n es i o.blank (ltb-true i n h)

  entry_front : (es : List E) (n : ℕ) (l : Line) → earlier n l ≡ true → entry o d l (take n es) ≡ entry o d l es
  entry_front es n X h = refl
  entry_front es n (C v) h = refl
  entry_front es n (R i) h = refl
  entry_front es n (Neg i) h = search (rules, front, and_parts)
  entry_front es n (Abs i) h = search (rules, front, and_parts)
  entry_front es n (Add i j) h = search (rules, front, and_parts)
  entry_front es n (Sub i j) h = search (rules, front, and_parts)
  entry_front es n (Mul i j) h = search (rules, front, and_parts)
  entry_front es n (Div i j) h = search (rules, front, and_parts)
  entry_front es n (Max i j) h = search (rules, front, and_parts)
  entry_front es n (Chi s q r) h = search (rules, front, and_parts)

  -- the table es after the entry of line number n is put into its place
  pub next : (ls : List Line) (es : List E) (n : ℕ) (x : Line) → n < length ls → n < length es → earlier n (get_or ls n x) ≡ true
      → take n es ≡ entries o d (take n ls) → take (n + 1) (set es n (entry o d (get_or ls n x) es)) ≡ entries o d (take (n + 1) ls)
  next ls es n x h k ok front =
      let l = get_or ls n x in
      take_more_set es n (entry o d l es) k
      ∙ sym (λ i. take n es ++ (entry_front es n l ok i ∷ []))
      ∙ (λ i. front i ++ (entry o d l (front i) ∷ []))
      ∙ sym (onward-append [] (take n ls) (l ∷ []))
      ∙ ap (entries o d) (sym (take_more ls n x h))
