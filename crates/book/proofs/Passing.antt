-- Passing over operands, and the steps of the reading at a place in the book.
use Rattle.std.proofs.Common.{◌≡◌, ℕ, zero, suc, ◌+◌, ◌-◌, ◌<◌, ◌≤◌, List, [], ◌∷◌, ◌++◌, length, get_or, take, drop, Some, None, Ok, Option, sym, ap, ◌∙◌, subst, add-zero, arith}
use Rattle.std.proofs.lemmas.List.{take_all, length-drop, drop-drop, drop_more}
use Rattle.std.specs.Option.{option_map}
use Rattle.codelist.specs.declared.lines.Line.{Line}
use Rattle.codelist.specs.declared.lines.LineRefusal.{LineRefusal}
use Rattle.codelist.specs.Lines.{fault}
use Rattle.codelist.specs.declared.lists.CodeList.{CodeList}
use Rattle.codelist.specs.Lists.{lines_of}
use Rattle.book.specs.declared.lines.Step.{Step}
use Rattle.book.specs.declared.lines.Step.TheVariants.{Line as Longer}
use Rattle.book.specs.declared.refusals.Fault.{Fault}
use Rattle.book.specs.declared.refusals.Layer.TheVariants.{Line as LineLayer}
use Rattle.book.specs.Reading.{Stepped}
use Rattle.book.specs.Lines.{fault_of, Inside, a_line, stops, line_by, inside, go_on, lines_from}

-- the rest of a slice from a place on, as the code has it
pub rest_is : (bs : List ℕ) (at : ℕ) → take (length bs - at) (drop at bs) ≡ drop at bs
rest_is bs at = take_all (length bs - at) (drop at bs) (omega (arith, length-drop at bs))

-- a line that may not stand in its list
pub refused_line : (k : ℕ) (l : Line) (w : ℕ) (f : Fault) → option_map fault_of (fault k l) ≡ Some f → line_by (fault k l) l w ≡ stops f LineLayer
refused_line k l w f e = by (fault k l) e
  where
    by : (o : Option LineRefusal) → option_map fault_of o ≡ Some f → line_by o l w ≡ stops f LineLayer
    by None e = cc
    by (Some r) e = let h : fault_of r ≡ f = cc in ap (λ (g : Fault). stops g LineLayer) h

-- ---- the lines of a curve
pub pass_lines : (ls : List Line) (w at : ℕ) (bs : List ℕ) → w ≤ length bs → lines_from ls w at bs ≡ lines_from ls 0 (at + w) (drop w bs)
pass_lines ls zero at bs h = ap (λ (n : ℕ). lines_from ls 0 n bs) (sym (add-zero at))
pass_lines ls (suc w) at [] h = absurd (omega arith)
pass_lines ls (suc w) at (b ∷ bs) h = pass_lines ls w (suc at) bs (omega arith) ∙ ap (λ (n : ℕ). lines_from ls 0 n (drop w bs)) (omega arith)

module _ (book : List ℕ) (ls : List Line) (at : ℕ) (within : at < length book) where
  abbrev here : List ℕ
  here = drop at book

  split : here ≡ get_or book at 0 ∷ drop (at + 1) book
  split = drop_more book at 0 within

  -- one command
  at_command : (i : Inside) → inside (length ls) here ≡ i → lines_from ls 0 at here ≡ go_on (λ l w. lines_from (ls ++ (l ∷ [])) w (suc at) (drop (at + 1) book)) ls at i
  at_command i e = ap (lines_from ls 0 at) split ∙ ap (go_on (λ l w. lines_from (ls ++ (l ∷ [])) w (suc at) (drop (at + 1) book)) ls at) (ap (inside (length ls)) (sym split) ∙ e)

  pub line_more : (l : Line) (w : ℕ) → inside (length ls) here ≡ a_line l w → w < length here → lines_from ls 0 at here ≡ lines_from (ls ++ (l ∷ [])) 0 (at + (1 + w)) (drop (at + (1 + w)) book)
  line_more l w e h =
      let k : w ≤ length (drop (at + 1) book) = omega (arith, length-drop (at + 1) book, length-drop at book) in
      at_command (a_line l w) e ∙ pass_lines (ls ++ (l ∷ [])) w (suc at) (drop (at + 1) book) k
      ∙ (λ i. lines_from (ls ++ (l ∷ [])) 0 (sum i) ((drop-drop w (at + 1) book ∙ ap (λ (n : ℕ). drop n book) sum') i))
    where
      sum : suc at + w ≡ at + (1 + w)
      sum = omega arith

      sum' : at + 1 + w ≡ at + (1 + w)
      sum' = omega arith

-- as the code has it: the step is told of the rest of the slice
abbrev pub StepSays : List ℕ → List Line → ℕ → Step → Type 0
StepSays book ls at step = Stepped ls at (take (length book - at) (drop at book)) (Ok step)

pub told_line : (book : List ℕ) (ls : List Line) (at : ℕ) → at < length book → (c : CodeList) (w : ℕ) → StepSays book ls at (Longer c w) → lines_from ls 0 at (drop at book) ≡ lines_from (lines_of c) 0 (at + (1 + w)) (drop (at + (1 + w)) book)
told_line book ls at within c w t =
    let s = subst (λ (bs : List ℕ). Stepped ls at bs (Ok (Longer c w))) (rest_is book at) t in
    line_more book ls at within s.0 w s.1.0 s.1.2 ∙ ap (λ (ms : List Line). lines_from ms 0 (at + (1 + w)) (drop (at + (1 + w)) book)) (sym s.1.1)
