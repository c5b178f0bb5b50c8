-- What a kind of value is: its rules, what an entry vouches for, and the law that ties them.
use Rattle.std.specs.Prelude.{◌≡◌, true, ℤ, Option}
use Rattle.exact.specs.Fraction.{Fraction, whole, in_units, plus, minus, negated, times, absolute, larger}
use Rattle.exact.specs.Value.{Value, none, some, each, both, quotient, choice}
use Rattle.family.specs.declared.cells.Cell.{Cell}
use Rattle.family.specs.declared.readings.Reading.{Reading}
use Rattle.family.specs.Cells.{exists, middle, InCell}
use Rattle.family.specs.Readings.{RowOf, reading_at, Allows}
use Rattle.codelist.specs.Evaluate.{Operations}

-- the rules of a kind; division stands apart
pub record Rules (E : Type 0) : Type 0 where
  pub blank : E
  pub x : Cell → E
  pub constant : ℤ → E
  pub reading : Option Reading → E
  pub neg : E → E
  pub abs : E → E
  pub add : E → E → E
  pub sub : E → E → E
  pub mul : E → E → E
  pub max : E → E → E
  pub chi : E → E → E → E

-- the rules over one cell, under one row
abbrev pub over : {E : Type 0} → Rules E → Cell → RowOf → Operations E
over r c row = record {
  blank = r.blank;
  x = r.x c;
  constant = r.constant;
  reading = λ n. r.reading (reading_at row n);
  neg = r.neg;
  abs = r.abs;
  add = r.add;
  sub = r.sub;
  mul = r.mul;
  max = r.max;
  chi = r.chi;
}

-- an entry vouches, over a cell, at a point: for the value at the point and for the value at the cell's middle
abbrev pub Vouching : Type 0 → Type 1
Vouching E = E → Cell → Fraction → Value → Value → Type 0

-- the law of a kind: where the entries read vouch for exact values, the filled one vouches for the exact result
pub record KindLaw {E : Type 0} (r : Rules E) (vouches : Vouching E) : Type 0 where
  pub blank : (c : Cell) (p : Fraction) → vouches r.blank c p none none
  pub x : (c : Cell) (p : Fraction) → exists c ≡ true → InCell c p → vouches (r.x c) c p (some (in_units p)) (some (in_units (whole (middle c))))
  pub constant : (c : Cell) (p : Fraction) (v : ℤ) → vouches (r.constant v) c p (some (in_units (whole v))) (some (in_units (whole v)))
  pub reading : (c : Cell) (p : Fraction) (o : Option Reading) (t : Fraction) → Allows o t → vouches (r.reading o) c p (some (in_units t)) (some (in_units t))
  pub neg : (c : Cell) (p : Fraction) (e : E) (v w : Value) → vouches e c p v w → vouches (r.neg e) c p (each negated v) (each negated w)
  pub abs : (c : Cell) (p : Fraction) (e : E) (v w : Value) → vouches e c p v w → vouches (r.abs e) c p (each absolute v) (each absolute w)
  pub add : (c : Cell) (p : Fraction) (e f : E) (v w v' w' : Value) → vouches e c p v w → vouches f c p v' w' → vouches (r.add e f) c p (both plus v v') (both plus w w')
  pub sub : (c : Cell) (p : Fraction) (e f : E) (v w v' w' : Value) → vouches e c p v w → vouches f c p v' w' → vouches (r.sub e f) c p (both minus v v') (both minus w w')
  pub mul : (c : Cell) (p : Fraction) (e f : E) (v w v' w' : Value) → vouches e c p v w → vouches f c p v' w' → vouches (r.mul e f) c p (both times v v') (both times w w')
  pub max : (c : Cell) (p : Fraction) (e f : E) (v w v' w' : Value) → vouches e c p v w → vouches f c p v' w' → vouches (r.max e f) c p (both larger v v') (both larger w w')
  pub chi : (c : Cell) (p : Fraction) (s q e : E) (v w v' w' v'' w'' : Value) → vouches s c p v w → vouches q c p v' w' → vouches e c p v'' w'' → vouches (r.chi s q e) c p (choice v v' v'') (choice w w' w'')

-- the same for division
pub record DivideLaw {E : Type 0} (divide : E → E → E) (vouches : Vouching E) : Type 0 where
  pub div : (c : Cell) (p : Fraction) (e f : E) (v w v' w' : Value) → vouches e c p v w → vouches f c p v' w' → vouches (divide e f) c p (quotient v v') (quotient w w')
