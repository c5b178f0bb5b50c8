-- Which lines may stand in a list, and why others are refused.
use Rattle.std.specs.Prelude.{ℕ, suc, Bool, true, cond, ◌&&◌, List, [], ◌∷◌, Some, None, Ok, Err, Option, Result, nat_le, nat_lt}
use Rattle.interval.specs.Rules.{within}
use Rattle.codelist.specs.declared.lines.Line.{Line}
use Rattle.codelist.specs.declared.lines.Line.TheVariants.{X, C, R, Neg, Abs, Add, Sub, Mul, Div, Max, Chi}
use Rattle.codelist.specs.declared.lines.LineRefusal.{LineRefusal}
use Rattle.codelist.specs.declared.lines.LineRefusal.TheVariants.{Operand, Constant, Full}
use Rattle.codelist.specs.Bound.{line_limit}

-- a refusal, case by case: its number
abbrev pub number_of : LineRefusal → ℕ
number_of Operand = 24
number_of Constant = 25
number_of Full = 26

-- line number k reads earlier lines alone, and a reading from 0 to 7
abbrev pub earlier : ℕ → Line → Bool
earlier k X = true
earlier k (C v) = true
earlier k (R n) = nat_le n 7
earlier k (Neg i) = nat_lt i k
earlier k (Abs i) = nat_lt i k
earlier k (Add i j) = nat_lt i k && nat_lt j k
earlier k (Sub i j) = nat_lt i k && nat_lt j k
earlier k (Mul i j) = nat_lt i k && nat_lt j k
earlier k (Div i j) = nat_lt i k && nat_lt j k
earlier k (Max i j) = nat_lt i k && nat_lt j k
earlier k (Chi s q r) = nat_lt s k && (nat_lt q k && nat_lt r k)

-- a constant lies within the limit
abbrev pub ranged : Line → Bool
ranged (C v) = within v
ranged l = true

-- whether a line may be line number k, whatever room there is
abbrev pub fit : ℕ → Line → Result (Unit {0}) LineRefusal
fit k l = cond (earlier k l) (cond (ranged l) (Ok tt) (Err Constant)) (Err Operand)

-- why a line is refused as line number k; the first cause in this order is told
abbrev pub fault : ℕ → Line → Option LineRefusal
fault k l = cond (earlier k l) (cond (ranged l) (cond (nat_lt k line_limit) None (Some Full)) (Some Constant)) (Some Operand)

-- the lines of a list that begins at number k may all stand
abbrev pub valid : ℕ → List Line → Bool
valid k [] = true
valid k (l ∷ ls) = (earlier k l && ranged l) && valid (suc k) ls
