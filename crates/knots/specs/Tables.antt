-- A knot table as the list of its knots, and what making one answers.
use Rattle.std.specs.Prelude.{◌≡◌, ℕ, List, Some, None, Ok, Err, Result}
use Rattle.bounded.specs.Lists.{items_of}
use Rattle.knots.specs.declared.knots.Knot.{Knot}
use Rattle.knots.specs.declared.knots.TableRefusal.{TableRefusal}
use Rattle.knots.specs.declared.tables.KnotTable.{KnotTable}
use Rattle.knots.specs.Knots.{fault}

abbrev pub knots_of : KnotTable → List Knot
knots_of t = items_of t.knots

-- a table of that reading and those knots, where they may make one; otherwise the refusal
abbrev pub Made : ℕ → List Knot → Result KnotTable TableRefusal → Type 0
Made n ks (Ok t) = (fault n ks ≡ None) × (t.reading ≡ n) × (knots_of t ≡ ks)
Made n ks (Err f) = fault n ks ≡ Some f
