-- A bounded list, as a list.
use Rattle.std.specs.Prelude.{◌≡◌, ℕ, ◌≤◌, ◌<◌, List, length, take, Ok, Err, Option, Result, slice_get}
use Rattle.bounded.specs.declared.lists.Full.{Full}
use Rattle.bounded.specs.declared.lists.Bounded.{Bounded}
use Rattle.bounded.specs.Places.{placed}

abbrev pub items_of : {T : Type 0} {N : ℕ} → Bounded T N → List T
items_of t = take t.len (placed t.places)

abbrev pub item_at : {T : Type 0} {N : ℕ} → Bounded T N → ℕ → Option T
item_at t k = slice_get (items_of t) k

-- a list of those items, where there is room for them
abbrev pub Copied : {T : Type 0} {N : ℕ} → List T → Result (Bounded T N) Full → Type 0
Copied {N = N} items (Ok t) = (length items ≤ N) × (items_of t ≡ items)
Copied {N = N} items (Err f) = N < length items
