-- The largest number of lines of a list.
use Rattle.std.specs.Prelude.{ℕ}

abbrev pub line_limit : ℕ
line_limit = 64
