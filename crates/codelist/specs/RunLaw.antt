-- What each operation keeps, a whole run keeps: the entries stay related to the exact values at two points.
use Rattle.std.specs.Prelude.{◌≡◌, ℕ, zero, suc, ◌<◌, true, List, [], ◌∷◌, ◌++◌, length, get_or, take, ℤ, slice_index_or}
use Rattle.std.proofs.Common.{sym, ap, subst, ◌∙◌}
use Rattle.std.proofs.lemmas.List.{get_or-take}
use Rattle.exact.specs.Fraction.{Fraction, whole}
use Rattle.exact.specs.Value.{none, quotient}
use Rattle.family.specs.declared.cells.Cell.{Cell}
use Rattle.family.specs.Cells.{exists, middle, InCell}
use Rattle.family.specs.Readings.{Temperatures, RowOf, reading_at, Allowed}
use Rattle.codelist.specs.declared.lines.Line.{Line}
use Rattle.codelist.specs.declared.lines.Line.TheVariants.{X, C, R, Neg, Abs, Add, Sub, Mul, Div, Max, Chi}
use Rattle.codelist.specs.Evaluate.{Operations, entry, onward, entries}
use Rattle.codelist.specs.Exact.{exactly, values}
use Rattle.codelist.specs.Kinds.{Rules, over, Vouching, KindLaw, DivideLaw}

-- three lists of one length, related place by place
abbrev pub All : {E V W : Type 0} → (E → V → W → Type 0) → List E → List V → List W → Type 0
All P [] [] [] = Unit {0}
All P [] [] (w ∷ ws) = ⊥
All P [] (v ∷ vs) ws = ⊥
All P (e ∷ es) [] ws = ⊥
All P (e ∷ es) (v ∷ vs) [] = ⊥
All P (e ∷ es) (v ∷ vs) (w ∷ ws) = P e v w × All P es vs ws

module _ {E V W : Type 0} (P : E → V → W → Type 0) where
  all_push : (es : List E) (vs : List V) (ws : List W) (e : E) (v : V) (w : W) → All P es vs ws → P e v w → All P (es ++ (e ∷ [])) (vs ++ (v ∷ [])) (ws ++ (w ∷ []))
  all_push [] [] [] e v w h k = (k, tt)
  all_push [] [] (_ ∷ ws) e v w h k = absurd h
  all_push [] (_ ∷ vs) ws e v w h k = absurd h
  all_push (_ ∷ es) [] ws e v w h k = absurd h
  all_push (_ ∷ es) (_ ∷ vs) [] e v w h k = absurd h
  all_push (_ ∷ es) (_ ∷ vs) (_ ∷ ws) e v w h k = (h.0, all_push es vs ws e v w h.1 k)

  pub all_at : (es : List E) (vs : List V) (ws : List W) (e : E) (v : V) (w : W) → All P es vs ws → P e v w → (k : ℕ) → P (slice_index_or es k e) (slice_index_or vs k v) (slice_index_or ws k w)
  all_at [] [] [] e v w h b k = b
  all_at [] [] (_ ∷ ws) e v w h b k = absurd h
  all_at [] (_ ∷ vs) ws e v w h b k = absurd h
  all_at (_ ∷ es) [] ws e v w h b k = absurd h
  all_at (_ ∷ es) (_ ∷ vs) [] e v w h b k = absurd h
  all_at (_ ∷ es) (_ ∷ vs) (_ ∷ ws) e v w h b zero = h.0
  all_at (_ ∷ es) (_ ∷ vs) (_ ∷ ws) e v w h b (suc k) = all_at es vs ws e v w h.1 b k

-- each operation keeps the relation
pub record Keeps {E V W : Type 0} (P : E → V → W → Type 0) (o : Operations E) (d : E → E → E) (p : Operations V) (f : V → V → V) (q : Operations W) (g : W → W → W) : Type 0 where
  pub blank : P o.blank p.blank q.blank
  pub x : P o.x p.x q.x
  pub constant : (z : ℤ) → P (o.constant z) (p.constant z) (q.constant z)
  pub reading : (n : ℕ) → P (o.reading n) (p.reading n) (q.reading n)
  pub neg : (e : E) (v : V) (w : W) → P e v w → P (o.neg e) (p.neg v) (q.neg w)
  pub abs : (e : E) (v : V) (w : W) → P e v w → P (o.abs e) (p.abs v) (q.abs w)
  pub add : (e e' : E) (v v' : V) (w w' : W) → P e v w → P e' v' w' → P (o.add e e') (p.add v v') (q.add w w')
  pub sub : (e e' : E) (v v' : V) (w w' : W) → P e v w → P e' v' w' → P (o.sub e e') (p.sub v v') (q.sub w w')
  pub mul : (e e' : E) (v v' : V) (w w' : W) → P e v w → P e' v' w' → P (o.mul e e') (p.mul v v') (q.mul w w')
  pub max : (e e' : E) (v v' : V) (w w' : W) → P e v w → P e' v' w' → P (o.max e e') (p.max v v') (q.max w w')
  pub div : (e e' : E) (v v' : V) (w w' : W) → P e v w → P e' v' w' → P (d e e') (f v v') (g w w')
  pub chi : (e e' e'' : E) (v v' v'' : V) (w w' w'' : W) → P e v w → P e' v' w' → P e'' v'' w'' → P (o.chi e e' e'') (p.chi v v' v'') (q.chi w w' w'')

module _ {E V W : Type 0} (P : E → V → W → Type 0) (o : Operations E) (d : E → E → E) (p : Operations V) (f : V → V → V) (q : Operations W) (g : W → W → W) (keeps : Keeps P o d p f q g) where
  keeps_entry : (l : Line) (es : List E) (vs : List V) (ws : List W) → ((k : ℕ) → P (slice_index_or es k o.blank) (slice_index_or vs k p.blank) (slice_index_or ws k q.blank)) → P (entry o d l es) (entry p f l vs) (entry q g l ws)
  keeps_entry X es vs ws h = keeps.x
  keeps_entry (C z) es vs ws h = keeps.constant z
  keeps_entry (R n) es vs ws h = keeps.reading n
  keeps_entry (Neg i) es vs ws h = keeps.neg _ _ _ (h i)
  keeps_entry (Abs i) es vs ws h = keeps.abs _ _ _ (h i)
  keeps_entry (Add i j) es vs ws h = keeps.add _ _ _ _ _ _ (h i) (h j)
  keeps_entry (Sub i j) es vs ws h = keeps.sub _ _ _ _ _ _ (h i) (h j)
  keeps_entry (Mul i j) es vs ws h = keeps.mul _ _ _ _ _ _ (h i) (h j)
  keeps_entry (Div i j) es vs ws h = keeps.div _ _ _ _ _ _ (h i) (h j)
  keeps_entry (Max i j) es vs ws h = keeps.max _ _ _ _ _ _ (h i) (h j)
  keeps_entry (Chi i j k) es vs ws h = keeps.chi _ _ _ _ _ _ _ _ _ (h i) (h j) (h k)

  keeps_onward : (ls : List Line) (es : List E) (vs : List V) (ws : List W) → All P es vs ws → All P (onward o d es ls) (onward p f vs ls) (onward q g ws ls)
  keeps_onward [] es vs ws h = h
  keeps_onward (l ∷ ls) es vs ws h = keeps_onward ls (es ++ (entry o d l es ∷ [])) (vs ++ (entry p f l vs ∷ [])) (ws ++ (entry q g l ws ∷ []))
      (all_push P es vs ws (entry o d l es) (entry p f l vs) (entry q g l ws) h (keeps_entry l es vs ws (all_at P es vs ws o.blank p.blank q.blank h keeps.blank)))

  pub keeps_at : (ls : List Line) (k : ℕ) → P (slice_index_or (entries o d ls) k o.blank) (slice_index_or (entries p f ls) k p.blank) (slice_index_or (entries q g ls) k q.blank)
  keeps_at ls k = all_at P (entries o d ls) (entries p f ls) (entries q g ls) o.blank p.blank q.blank (keeps_onward ls [] [] [] tt) keeps.blank k

-- the law of a kind, as what each operation keeps
module _ {E : Type 0} (r : Rules E) (divide : E → E → E) (vouches : Vouching E) (law : KindLaw r vouches) (division : DivideLaw divide vouches) (c : Cell) (row : RowOf) (t : Temperatures) (p : Fraction) (there : exists c ≡ true) (allowed : Allowed row t) (inside : InCell c p) where
  vouching : Keeps (λ e v w. vouches e c p v w) (over r c row) divide (exactly t p) quotient (exactly t (whole (middle c))) quotient
  vouching = record {
    blank = law.blank c p;
    x = law.x c p there inside;
    constant = λ z. law.constant c p z;
    reading = λ n. law.reading c p (reading_at row n) (t n) (allowed n);
    neg = λ e v w h. law.neg c p e v w h;
    abs = λ e v w h. law.abs c p e v w h;
    add = λ e e' v v' w w' h k. law.add c p e e' v w v' w' h k;
    sub = λ e e' v v' w w' h k. law.sub c p e e' v w v' w' h k;
    mul = λ e e' v v' w w' h k. law.mul c p e e' v w v' w' h k;
    max = λ e e' v v' w w' h k. law.max c p e e' v w v' w' h k;
    div = λ e e' v v' w w' h k. division.div c p e e' v w v' w' h k;
    chi = λ e e' e'' v v' v'' w w' w'' h k m. law.chi c p e e' e'' v w v' w' v'' w'' h k m;
  }

  pub vouched_at : (ls : List Line) (k : ℕ) → vouches (slice_index_or (entries (over r c row) divide ls) k r.blank) c p (slice_index_or (values t p ls) k none) (slice_index_or (values t (whole (middle c)) ls) k none)
  vouched_at ls k = keeps_at (λ e v w. vouches e c p v w) (over r c row) divide (exactly t p) quotient (exactly t (whole (middle c))) quotient vouching ls k

  -- the same of a table whose first places are those entries
  pub vouched_in : (es : List E) (ls : List Line) → take (length ls) es ≡ entries (over r c row) divide ls → (k : ℕ) → k < length ls
      → vouches (slice_index_or es k r.blank) c p (slice_index_or (values t p ls) k none) (slice_index_or (values t (whole (middle c)) ls) k none)
  vouched_in es ls e k h =
      let same : get_or (entries (over r c row) divide ls) k r.blank ≡ get_or es k r.blank = sym (ap (λ (xs : List E). get_or xs k r.blank) e) ∙ get_or-take (length ls) es k r.blank h in
      subst (λ (a : E). vouches a c p (slice_index_or (values t p ls) k none) (slice_index_or (values t (whole (middle c)) ls) k none)) same (vouched_at ls k)
