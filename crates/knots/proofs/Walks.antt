-- Walking along the knots of a table, as the code does.
use Rattle.std.proofs.Common.{◌≡◌, ℕ, zero, suc, ◌<◌, ◌≤◌, Bool, true, false, cond, List, [], ◌∷◌, length, get_or, Option, ℤ, ◌≤ℤ◌, sym, refl, ap, ◌∙◌, arith}
use Rattle.std.specs.Option.{MatchOption}
use Rattle.std.specs.List.{fold, filter, AllWithin, HoldsAt}
use Rattle.exact.specs.Fraction.{Fraction, whole, smaller, larger}
use Rattle.family.specs.declared.cells.Cell.{Cell}
use Rattle.knots.specs.declared.knots.Knot.{Knot}
use Rattle.knots.specs.declared.extents.Extent.{Extent}
use Rattle.knots.specs.declared.tables.KnotTable.{KnotTable}
use Rattle.knots.specs.Knots.{ascending}
use Rattle.knots.specs.Tables.{knots_of}
use Rattle.knots.specs.Values.{up_to, line, right_of, height_at}
use Rattle.knots.specs.Extremes.{inside, pick_over, rounded, joined, Extremes}
use Rattle.knots.proofs.Making.{table_sound}
use Rattle.knots.proofs.Picks.{table_extremes}
use Rattle.knots.proofs.Rounded.{floor-smaller, ceiling-larger}

-- ---- the height at one opening, by the first knot that the opening lies at or to the left of
module _ (x : ℤ) (d : Knot) where
  abbrev pub Reaches : Knot → Type 0
  Reaches k = true ≡ up_to (whole x) k.x

  abbrev pub Passed : Knot → Type 0
  Passed k = false ≡ up_to (whole x) k.x

  -- what looking for the first such knot tells
  abbrev pub First : List Knot → Option ℕ → Type 0
  First ks o = MatchOption o (AllWithin Passed ks 0 (length ks)) (λ n. (n < length ks) × HoldsAt Reaches ks n × AllWithin Passed ks 0 n)

  passed_rest : (k : Knot) (ls : List Knot) (n : ℕ) → AllWithin Passed (k ∷ ls) 0 (suc n) → AllWithin Passed ls 0 n
  passed_rest k ls n passed m e l h = passed (suc m) e (omega arith) (omega arith)

  right_of_passed : (k l : Knot) (ls : List Knot) → Passed l → right_of k (l ∷ ls) (whole x) ≡ right_of l ls (whole x)
  right_of_passed k l ls p = ap (λ (b : Bool). cond b (line k l (whole x)) (right_of l ls (whole x))) (sym p)

  right_between : (k : Knot) (ls : List Knot) (n : ℕ) → n < length ls → HoldsAt Reaches ls n → AllWithin Passed ls 0 n → right_of k ls (whole x) ≡ line (get_or (k ∷ ls) n d) (get_or ls n d) (whole x)
  right_between k [] n h here passed = absurd (omega arith)
  right_between k (l ∷ ls) zero h here passed = ap (λ (b : Bool). cond b (line k l (whole x)) (right_of l ls (whole x))) (sym (here l))
  right_between k (l ∷ ls) (suc n) h here passed = right_of_passed k l ls (passed 0 l (omega arith) (omega arith)) ∙ right_between l ls n (omega arith) here (passed_rest l ls n passed)

  right_past : (k : Knot) (ls : List Knot) → AllWithin Passed ls 0 (length ls) → right_of k ls (whole x) ≡ whole (get_or (k ∷ ls) (length ls) d).y
  right_past k [] passed = refl
  right_past k (l ∷ ls) passed = right_of_passed k l ls (passed 0 l (omega arith) (omega arith)) ∙ right_past l ls (passed_rest l ls (length ls) passed)

  pub at_first : (ks : List Knot) → 0 < length ks → HoldsAt Reaches ks 0 → height_at ks (whole x) ≡ whole (get_or ks 0 d).y
  at_first [] h here = absurd (omega arith)
  at_first (k ∷ ks) h here = ap (λ (b : Bool). cond b (whole k.y) (right_of k ks (whole x))) (sym (here k))

  first_passed : (k : Knot) (ks : List Knot) → Passed k → height_at (k ∷ ks) (whole x) ≡ right_of k ks (whole x)
  first_passed k ks p = ap (λ (b : Bool). cond b (whole k.y) (right_of k ks (whole x))) (sym p)

  pub between_two : (ks : List Knot) (m n : ℕ) → n ≡ suc m → n < length ks → HoldsAt Reaches ks n → AllWithin Passed ks 0 n → height_at ks (whole x) ≡ line (get_or ks m d) (get_or ks n d) (whole x)
  between_two [] m n e h here passed = absurd (omega arith)
  between_two (k ∷ ks) m zero e h here passed = absurd (omega arith)
  between_two (k ∷ ks) m (suc n) e h here passed =
      let f : n ≡ m = omega arith in
      first_passed k ks (passed 0 k (omega arith) (omega arith)) ∙ right_between k ks n (omega arith) here (passed_rest k ks n passed) ∙ ap (λ (i : ℕ). line (get_or (k ∷ ks) i d) (get_or ks n d) (whole x)) f

  pub past_last : (ks : List Knot) (m : ℕ) → length ks ≡ suc m → AllWithin Passed ks 0 (length ks) → height_at ks (whole x) ≡ whole (get_or ks m d).y
  past_last [] m e passed = absurd (omega arith)
  past_last (k ∷ ks) m e passed =
      let f : length ks ≡ m = omega arith in
      first_passed k ks (passed 0 k (omega arith) (omega arith)) ∙ right_past k ks (passed_rest k ks (length ks) passed) ∙ ap (λ (i : ℕ). whole (get_or (k ∷ ks) i d).y) f

-- ---- over a cell
abbrev pub joined_over : Cell → Extent → List Knot → Extent
joined_over c e ks = fold (λ f k. joined f (rounded (whole k.y) (whole k.y))) e (filter (inside c) ks)

-- rounding the picked heights is joining the rounded ones
pub joined_is : (u v u' v' : Fraction) → joined (rounded u v) (rounded u' v') ≡ rounded (smaller u u') (larger v v')
joined_is u v u' v' = λ i. record { lo = sym (floor-smaller u u') i; hi = sym (ceiling-larger v v') i }

abbrev picked : Cell → Fraction → Fraction → List Knot → Extent
picked c u v ks = rounded (pick_over smaller c u ks) (pick_over larger c v ks)

pub joined_over_lem : (c : Cell) (u v : Fraction) (ks : List Knot) → joined_over c (rounded u v) ks ≡ picked c u v ks
joined_over_lem c u v [] = refl
joined_over_lem c u v (k ∷ ks) = by (inside c k) (joined_over_lem c (smaller u (whole k.y)) (larger v (whole k.y)) ks) (joined_over_lem c u v ks)
  where
    by : (b : Bool) → joined_over c (rounded (smaller u (whole k.y)) (larger v (whole k.y))) ks ≡ picked c (smaller u (whole k.y)) (larger v (whole k.y)) ks → joined_over c (rounded u v) ks ≡ picked c u v ks
        → fold (λ f l. joined f (rounded (whole l.y) (whole l.y))) (rounded u v) (cond b (k ∷ filter (inside c) ks) (filter (inside c) ks)) ≡ picked c (cond b (smaller u (whole k.y)) u) (cond b (larger v (whole k.y)) v) ks
    by true h rest = ap (λ (e : Extent). joined_over c e ks) (joined_is u v (whole k.y) (whole k.y)) ∙ h
    by false h rest = rest

-- ---- the law, of a made table
pub has_extremes : (t : KnotTable) (c : Cell) → c.lo ≤ℤ c.hi → Extremes (knots_of t) c
has_extremes t c o = let s = table_sound t in by (knots_of t) s.some s.ascends
  where
    by : (ks : List Knot) → 2 ≤ length ks → ascending ks ≡ true → Extremes ks c
    by [] h e = absurd (omega arith)
    by (k ∷ ks) h e = table_extremes k ks c e o
