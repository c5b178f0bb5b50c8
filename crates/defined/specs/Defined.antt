-- The kind that tells whether a line surely has a value.
use Rattle.std.specs.Prelude.{Bool, true, false, cond, ◌&&◌, List}
use Rattle.exact.specs.Fraction.{Fraction}
use Rattle.exact.specs.Value.{Value, none, some, each, both, negative, choice}
use Rattle.family.specs.declared.cells.Cell.{Cell}
use Rattle.family.specs.Readings.{RowOf}
use Rattle.codelist.specs.declared.lines.Line.{Line}
use Rattle.codelist.specs.Evaluate.{last_entry}
use Rattle.codelist.specs.Kinds.{Rules, over, Vouching, KindLaw, DivideLaw}

-- the point, a constant and a temperature have a value; what reads such lines has one
abbrev pub surely : Rules Bool
surely = record {
  blank = false;
  x = λ _. true;
  constant = λ _. true;
  reading = λ _. true;
  neg = λ e. e;
  abs = λ e. e;
  add = λ e f. e && f;
  sub = λ e f. e && f;
  mul = λ e f. e && f;
  max = λ e f. e && f;
  chi = λ s q r. s && (q && r);
}

-- a quotient is never sure
abbrev pub never : Bool → Bool → Bool
never e f = false

-- a sure entry says that there is a value
abbrev pub HasValue : Bool → Value → Type 0
HasValue false v = Unit {0}
HasValue true none = ⊥
HasValue true (some v) = Unit {0}

abbrev pub vouches_surely : Vouching Bool
vouches_surely e c p v w = HasValue e v × HasValue e w

-- the entry of a list's last line
abbrev pub sure_of : Cell → RowOf → List Line → Bool
sure_of c row ls = last_entry (over surely c row) never ls

-- ---- the law
one : (f : Fraction → Fraction) (e : Bool) (v : Value) → HasValue e v → HasValue e (each f v)
one f false v h = tt
one f true none h = h
one f true (some v) h = tt

two : (f : Fraction → Fraction → Fraction) (e e' : Bool) (v v' : Value) → HasValue e v → HasValue e' v' → HasValue (e && e') (both f v v')
two f false e' v v' h k = tt
two f true false v v' h k = tt
two f true true none v' h k = h
two f true true (some v) none h k = k
two f true true (some v) (some v') h k = tt

three : (e e' e'' : Bool) (v v' v'' : Value) → HasValue e v → HasValue e' v' → HasValue e'' v'' → HasValue (e && (e' && e'')) (choice v v' v'')
three false e' e'' v v' v'' h k m = tt
three true false e'' v v' v'' h k m = tt
three true true false v v' v'' h k m = tt
three true true true none v' v'' h k m = h
three true true true (some s) v' v'' h k m = chosen (negative s)
  where
    chosen : (t : Bool) → HasValue true (cond t v' v'')
    chosen true = k
    chosen false = m

pub surely_law : KindLaw surely vouches_surely
surely_law = record {
  blank = λ c p. (tt, tt);
  x = λ c p there inside. (tt, tt);
  constant = λ c p v. (tt, tt);
  reading = λ c p o t h. (tt, tt);
  neg = λ c p e v w h. (one _ e v h.0, one _ e w h.1);
  abs = λ c p e v w h. (one _ e v h.0, one _ e w h.1);
  add = λ c p e f v w v' w' h k. (two _ e f v v' h.0 k.0, two _ e f w w' h.1 k.1);
  sub = λ c p e f v w v' w' h k. (two _ e f v v' h.0 k.0, two _ e f w w' h.1 k.1);
  mul = λ c p e f v w v' w' h k. (two _ e f v v' h.0 k.0, two _ e f w w' h.1 k.1);
  max = λ c p e f v w v' w' h k. (two _ e f v v' h.0 k.0, two _ e f w w' h.1 k.1);
  chi = λ c p s q e v w v' w' v'' w'' h k m. (three s q e v v' v'' h.0 k.0 m.0, three s q e w w' w'' h.1 k.1 m.1);
}

pub never_law : DivideLaw never vouches_surely
never_law = record { div = λ c p e f v w v' w' h k. (tt, tt) }
