-- Running the lines of a list over any operations: one definition serves exact values and every kind of entry.
use Rattle.std.specs.Prelude.{ℕ, ◌-◌, List, [], ◌∷◌, ◌++◌, length, ℤ, slice_index_or}
use Rattle.codelist.specs.declared.lines.Line.{Line}
use Rattle.codelist.specs.declared.lines.Line.TheVariants.{X, C, R, Neg, Abs, Add, Sub, Mul, Div, Max, Chi}

-- what each operation but division gives
pub record Operations (E : Type 0) : Type 0 where
  -- what is read where no line is
  pub blank : E
  pub x : E
  pub constant : ℤ → E
  pub reading : ℕ → E
  pub neg : E → E
  pub abs : E → E
  pub add : E → E → E
  pub sub : E → E → E
  pub mul : E → E → E
  pub max : E → E → E
  pub chi : E → E → E → E

module _ {E : Type 0} (o : Operations E) (divide : E → E → E) where
  -- the entry of a line, from the entries of the lines before it
  abbrev pub entry : Line → List E → E
  entry X es = o.x
  entry (C v) es = o.constant v
  entry (R n) es = o.reading n
  entry (Neg i) es = o.neg (slice_index_or es i o.blank)
  entry (Abs i) es = o.abs (slice_index_or es i o.blank)
  entry (Add i j) es = o.add (slice_index_or es i o.blank) (slice_index_or es j o.blank)
  entry (Sub i j) es = o.sub (slice_index_or es i o.blank) (slice_index_or es j o.blank)
  entry (Mul i j) es = o.mul (slice_index_or es i o.blank) (slice_index_or es j o.blank)
  entry (Div i j) es = divide (slice_index_or es i o.blank) (slice_index_or es j o.blank)
  entry (Max i j) es = o.max (slice_index_or es i o.blank) (slice_index_or es j o.blank)
  entry (Chi s q r) es = o.chi (slice_index_or es s o.blank) (slice_index_or es q o.blank) (slice_index_or es r o.blank)

  -- the entries of all lines, each after those before
  abbrev pub onward : List E → List Line → List E
  onward es [] = es
  onward es (l ∷ ls) = onward (es ++ (entry l es ∷ [])) ls

  abbrev pub entries : List Line → List E
  entries ls = onward [] ls

  -- the entry of the last line
  abbrev pub last_entry : List Line → E
  last_entry ls = slice_index_or (entries ls) (length ls - 1) o.blank
