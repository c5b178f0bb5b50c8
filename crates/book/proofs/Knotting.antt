-- The knots of a table's body, one after the other.
use Rattle.std.proofs.Common.{◌≡◌, ℕ, zero, suc, ◌+◌, ◌-◌, ◌*◌, ◌/◌, ◌<◌, ◌≤◌, List, ◌∷◌, map, length, get_or, take, drop, to_z, refl, ap, ◌∙◌, arith}
use Rattle.std.proofs.lemmas.List.{take_all, length-drop, get_or-take}
use Rattle.std.specs.Int.{w32}
use Rattle.std.specs.Simd.{first_chunks}
use Rattle.book.specs.Ops.{signed_at}
use Rattle.book.specs.Records.{knot_of, knots_at, body_knots}
use Rattle.book.proofs.Passing.{rest_is}

signed_take : (bs : List ℕ) (i : ℕ) → i + 3 < 8 → signed_at (take 8 bs) i ≡ signed_at bs i
signed_take bs i h =
    let a = get_or-take 8 bs i 0 (omega arith) in
    let b = get_or-take 8 bs (i + 1) 0 (omega arith) in
    let c = get_or-take 8 bs (i + 2) 0 (omega arith) in
    let d = get_or-take 8 bs (i + 3) 0 (omega arith) in
    (λ j. to_z w32 (a j * 16777216 + b j * 65536 + c j * 256 + d j))

knot_take : (bs : List ℕ) → knot_of (take 8 bs) ≡ knot_of bs
knot_take bs = let x = signed_take bs 0 (omega arith) in let y = signed_take bs 4 (omega arith) in (λ j. record { x = x j; y = y j })

-- the first n of more chunks
pub knots_of_chunks : (n m : ℕ) (bs : List ℕ) → n ≤ m → map knot_of (take n (first_chunks 8 m bs)) ≡ knots_at n bs
knots_of_chunks zero m bs h = refl
knots_of_chunks (suc n) zero bs h = absurd (omega arith)
knots_of_chunks (suc n) (suc m) bs h = let k = knot_take bs in let ks = knots_of_chunks n m (drop 8 bs) (omega arith) in (λ j. k j ∷ ks j)

-- as the code has them: all the chunks that it took
pub knots_read : (body : List ℕ) (i : ℕ) (chunks : List (List ℕ)) → 2 + 8 * get_or body 1 0 ≤ length body → chunks ≡ first_chunks 8 (length (take (length body - 2) (drop 2 body)) / 8) (take (length body - 2) (drop 2 body))
    → length (take (get_or body 1 0) chunks) ≤ i → map knot_of (take i (take (get_or body 1 0) chunks)) ≡ body_knots body
knots_read body i chunks h e k =
    let n = get_or body 1 0 in
    let rest = take (length body - 2) (drop 2 body) in
    let r : rest ≡ drop 2 body = rest_is body 2 in
    let l : length rest ≡ length body - 2 = ap (λ (xs : List ℕ). length xs) r ∙ length-drop 2 body in
    ap (map knot_of) (take_all i (take n chunks) k ∙ ap (take n) e) ∙ knots_of_chunks n (length rest / 8) rest (omega arith) ∙ ap (knots_at n) r
