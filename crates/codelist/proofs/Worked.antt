-- Worked values of lists over the cell [1000, 2000], by computing on the definitions.
use Rattle.std.proofs.Common.{◌≡◌, List, [], ◌∷◌, pos, negsuc, refl}
use Rattle.exact.specs.Fraction.{whole}
use Rattle.exact.specs.Value.{some, Alike}
use Rattle.interval.specs.declared.enclosures.Enclosure.TheVariants.{Bounds}
use Rattle.interval.specs.Rules.{add, sub, mul}
use Rattle.family.specs.declared.cells.Cell.{Cell}
use Rattle.codelist.specs.declared.lines.Line.{Line}
use Rattle.codelist.specs.declared.lines.Line.TheVariants.{X, C, Add, Sub, Mul}
use Rattle.codelist.specs.Exact.{value_of}
use Rattle.codelist.specs.Plain.{enclosure_of}

abbrev pub cell : Cell
cell = record { lo = pos 1000; hi = pos 2000 }

-- x·x − 4
abbrev square : List Line
square = X ∷ Mul 0 0 ∷ C (pos 4000) ∷ Sub 1 2 ∷ []

square_enclosed : enclosure_of cell [] square ≡ Bounds (negsuc 2999) (pos 0)
unfolding mul sub
square_enclosed = refl

-- (x − 2)(x + 2)
abbrev pub factors : List Line
factors = X ∷ C (pos 2000) ∷ Sub 0 1 ∷ Add 0 1 ∷ Mul 2 3 ∷ []

factors_enclosed : enclosure_of cell [] factors ≡ Bounds (negsuc 3999) (pos 0)
unfolding mul sub add
factors_enclosed = refl

-- both are −3 at x = 1
square_exact : Alike (value_of (λ _. whole (pos 0)) (whole (pos 1000)) square) (some (whole (negsuc 2)))
square_exact = refl

factors_exact : Alike (value_of (λ _. whole (pos 0)) (whole (pos 1000)) factors) (some (whole (negsuc 2)))
factors_exact = refl
