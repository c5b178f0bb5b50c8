-- The text that an enclosure prints as: its ends in decimal, or that it has none.
use Rattle.std.specs.Prelude.{ℕ, List, ◌++◌, codes}
use Rattle.std.specs.Fmt.{signed_decimal}
use Rattle.interval.specs.declared.enclosures.Enclosure.{Enclosure}
use Rattle.interval.specs.declared.enclosures.Enclosure.TheVariants.{NoBounds, Bounds}

abbrev pub printed : Enclosure → List ℕ
printed NoBounds = codes "no bounds"
printed (Bounds lo hi) = codes "[" ++ (signed_decimal lo ++ (codes ", " ++ (signed_decimal hi ++ codes "]")))
