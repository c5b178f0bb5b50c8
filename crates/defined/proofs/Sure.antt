-- A list whose last entry is sure has a value.
use Rattle.std.proofs.Common.{◌≡◌, ◌-◌, Bool, true, List, length, sym, subst}
use Rattle.exact.specs.Fraction.{Fraction}
use Rattle.family.specs.declared.cells.Cell.{Cell}
use Rattle.family.specs.Cells.{exists, InCell}
use Rattle.family.specs.Readings.{Temperatures, RowOf, Allowed}
use Rattle.codelist.specs.declared.lines.Line.{Line}
use Rattle.codelist.specs.Exact.{value_of}
use Rattle.codelist.specs.RunLaw.{vouched_at}
use Rattle.defined.specs.Defined.{surely, never, vouches_surely, surely_law, never_law, HasValue, sure_of}

pub sure_holds : (b : Bool) (c : Cell) (row : RowOf) (ls : List Line) (t : Temperatures) (p : Fraction) → b ≡ sure_of c row ls → exists c ≡ true → Allowed row t → InCell c p → HasValue b (value_of t p ls)
sure_holds b c row ls t p e there allowed inside =
    subst (λ (a : Bool). HasValue a (value_of t p ls)) (sym e) (vouched_at surely never vouches_surely surely_law never_law c row t p there allowed inside ls (length ls - 1)).0
