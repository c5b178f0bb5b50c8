-- Halving cells.
use Rattle.std.specs.Prelude.{ℕ, ◌<◌, cond, pos, ◌-ℤ◌, Some, None, Option, int_le, unsigned_abs}
use Rattle.family.specs.declared.cells.Cell.{Cell}
use Rattle.family.specs.Cells.{middle}

abbrev pub width : Cell → ℕ
width c = unsigned_abs (c.hi -ℤ c.lo)

-- a cell at most 10 wide is not halved
abbrev pub halved : Cell → Option (Cell × Cell)
halved c = cond (int_le (c.hi -ℤ c.lo) (pos 10)) None (Some (record { lo = c.lo; hi = middle c }, record { lo = middle c; hi = c.hi }))

-- each half is narrower than the cell
abbrev pub Narrower : Cell → Option (Cell × Cell) → Type 0
Narrower c None = Unit {0}
Narrower c (Some p) = (width p.0 < width c) × (width p.1 < width c)
