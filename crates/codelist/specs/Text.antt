-- A line as text: its operation, then its operands.
use Rattle.std.specs.Prelude.{ℕ, List, ◌++◌, codes, decimal}
use Rattle.std.specs.Fmt.{signed_decimal}
use Rattle.codelist.specs.declared.lines.Line.{Line}
use Rattle.codelist.specs.declared.lines.Line.TheVariants.{X, C, R, Neg, Abs, Add, Sub, Mul, Div, Max, Chi}

abbrev pub two_numbers : ℕ → ℕ → List ℕ
two_numbers i j = decimal i ++ (codes " " ++ decimal j)

abbrev pub text_of : Line → List ℕ
text_of X = codes "X"
text_of (C v) = codes "C " ++ signed_decimal v
text_of (R n) = codes "R " ++ decimal n
text_of (Neg i) = codes "NEG " ++ decimal i
text_of (Abs i) = codes "ABS " ++ decimal i
text_of (Add i j) = codes "ADD " ++ two_numbers i j
text_of (Sub i j) = codes "SUB " ++ two_numbers i j
text_of (Mul i j) = codes "MUL " ++ two_numbers i j
text_of (Div i j) = codes "DIV " ++ two_numbers i j
text_of (Max i j) = codes "MAX " ++ two_numbers i j
text_of (Chi s q r) = codes "CHI " ++ (decimal s ++ (codes " " ++ two_numbers q r))
