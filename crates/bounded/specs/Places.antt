-- The places of a bounded list: none until the first item comes.
use Rattle.std.specs.Prelude.{List, [], Some, None, Option}

abbrev pub placed : {T : Type 0} → Option (List T) → List T
placed None = []
placed (Some places) = places
