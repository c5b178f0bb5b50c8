-- The exact value of a list at a point, for true temperatures. Points and temperatures are in counts, values in units.
use Rattle.std.specs.Prelude.{List}
use Rattle.exact.specs.Fraction.{Fraction, whole, in_units, plus, minus, negated, times, absolute, larger}
use Rattle.exact.specs.Value.{Value, none, some, each, both, quotient, choice}
use Rattle.family.specs.Readings.{Temperatures}
use Rattle.codelist.specs.declared.lines.Line.{Line}
use Rattle.codelist.specs.Evaluate.{Operations, entries, last_entry}

-- ordinary arithmetic on fractions
abbrev pub exactly : Temperatures → Fraction → Operations Value
exactly t x = record {
  blank = none;
  x = some (in_units x);
  constant = λ v. some (in_units (whole v));
  reading = λ n. some (in_units (t n));
  neg = each negated;
  abs = each absolute;
  add = both plus;
  sub = both minus;
  mul = both times;
  max = both larger;
  chi = choice;
}

-- the exact values of all lines, and that of the last
abbrev pub values : Temperatures → Fraction → List Line → List Value
values t x ls = entries (exactly t x) quotient ls

abbrev pub value_of : Temperatures → Fraction → List Line → Value
value_of t x ls = last_entry (exactly t x) quotient ls
