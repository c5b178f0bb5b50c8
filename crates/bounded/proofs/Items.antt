-- A bounded list has at most as many items as it has room for.
use Rattle.std.proofs.Common.{◌≡◌, ℕ, ◌≤◌, List, [], length, take, Some, None, Option, refl, arith}
use Rattle.std.specs.Option.{ForSome}
use Rattle.std.proofs.lemmas.List.{length-take-le}
use Rattle.bounded.specs.declared.lists.Bounded.{Bounded}
use Rattle.bounded.specs.Places.{placed}
use Rattle.bounded.specs.Lists.{items_of}

taken_few : {T : Type 0} (N n : ℕ) (places : Option (List T)) → ForSome places (λ all. length all ≡ N) → n ≤ length (placed places) → length (take n (placed places)) ≤ N
taken_few {T} N n None sized few = let e = length-take-le {A = T} n [] few in omega arith
taken_few N n (Some all) sized few = let e = length-take-le n all few in let h = sized all refl in omega arith

pub items_few : {T : Type 0} {N : ℕ} (t : Bounded T N) → length (items_of t) ≤ N
items_few {N = N} t = taken_few N t.len t.places t.sized t.few
