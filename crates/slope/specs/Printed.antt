-- The text that an entry prints as: its three parts, each as an enclosure prints.
use Rattle.std.specs.Prelude.{ℕ, List, ◌++◌, codes}
use Rattle.interval.specs.Printed.{printed}
use Rattle.slope.specs.declared.entries.Slope.{Slope}

abbrev pub printed_slope : Slope → List ℕ
printed_slope i = codes "V " ++ (printed i.v ++ (codes ", U " ++ (printed i.u ++ (codes ", S " ++ printed i.s))))
