-- The picked heights are the least and the greatest: they bound the height at every point of the cell, and are heights at points of it.
use Rattle.std.proofs.Common.{◌≡◌, Bool, true, cond, List, [], ◌∷◌, ℤ, pos, ◌*ℤ◌, ◌≤ℤ◌, ◌<ℤ◌, sym, ap, ◌∙◌, subst, arith}
use lib.Signed.{le_z, lt_z}
use borrow.Author.Differences.{ints}
use Rattle.std.proofs.lemmas.Bool.{and_parts}
use Rattle.exact.specs.Fraction.{Fraction, whole, smaller, larger, ◌≃◌, ◌≼◌, ◌≺◌}
use Rattle.exact.proofs.Fractions.{≃_refl, ≼_refl, ≼_trans, ≺-≼}
use Rattle.interval.proofs.OneEnd.{cond_if, cond_by, larger_by}
use Rattle.family.specs.declared.cells.Cell.{Cell}
use Rattle.family.specs.Cells.{InCell}
use Rattle.knots.specs.declared.knots.Knot.{Knot}
use Rattle.knots.specs.Knots.{ascend_from}
use Rattle.knots.specs.Values.{line, right_of, height_at}
use Rattle.knots.specs.Extremes.{inside, pick_over, extreme, least, greatest, Taken, Extremes}
use Rattle.knots.proofs.Lines.{line_at_right}
use Rattle.knots.proofs.Sides.{Known, above, below, height_side, up_to_lem, past, first_below}

pub smaller_by : (P : Fraction → Type 0) (u v : Fraction) → (u ≼ v → P u) → (v ≺ u → P v) → P (smaller u v)
smaller_by P u v f g = cond_by P (v.num *ℤ pos u.den) (u.num *ℤ pos v.den) v u g f

-- ---- one of two is picked, again and again: R is the order in which the picked one comes first
module _ (pick : Fraction → Fraction → Fraction) (R : Fraction → Fraction → Type 0) (R-refl : (u : Fraction) → R u u) (R-trans : (u v w : Fraction) → R u v → R v w → R u w)
    (picks : (P : Fraction → Type 0) (u v : Fraction) → (R u v → P u) → (R v u → P v) → P (pick u v)) (c : Cell) where
  pick_first : (u v : Fraction) → R (pick u v) u
  pick_first u v = picks (λ w. R w u) u v (λ _. R-refl u) (λ h. h)

  pick_second : (u v : Fraction) → R (pick u v) v
  pick_second u v = picks (λ w. R w v) u v (λ h. h) (λ _. R-refl v)

  next_first : (k : Knot) (u : Fraction) → R (cond (inside c k) (pick u (whole k.y)) u) u
  next_first k u = cond_if (λ w. R w u) (inside c k) (pick u (whole k.y)) u (λ _. pick_first u (whole k.y)) (λ _. R-refl u)

  over_first : (u : Fraction) (ks : List Knot) → R (pick_over pick c u ks) u
  over_first u [] = R-refl u
  over_first u (k ∷ ks) = let w = cond (inside c k) (pick u (whole k.y)) u in R-trans (pick_over pick c w ks) w u (over_first w ks) (next_first k u)

  over_known : (u : Fraction) (ks : List Knot) → Known (inside c) (R (pick_over pick c u ks)) ks
  over_known u [] = tt
  over_known u (k ∷ ks) =
      let w = cond (inside c k) (pick u (whole k.y)) u in (
        λ e. R-trans (pick_over pick c w ks) w (whole k.y) (over_first w ks) (subst (λ (b : Bool). R (cond b (pick u (whole k.y)) u) (whole k.y)) (sym e) (pick_second u (whole k.y))),
        over_known w ks,
      )

  -- what holds of both ends and of the knots inside holds of the picked one
  over_has : (P : Fraction → Type 0) (u : Fraction) (ks : List Knot) → P u → Known (inside c) P ks → P (pick_over pick c u ks)
  over_has P u [] h known = h
  over_has P u (k ∷ ks) h known = over_has P (cond (inside c k) (pick u (whole k.y)) u) ks
      (cond_if P (inside c k) (pick u (whole k.y)) u (λ e. picks P u (whole k.y) (λ _. h) (λ _. known.0 e)) (λ _. h)) known.1

  module _ (ks : List Knot) where
    pub extreme_known : Known (inside c) (R (extreme pick ks c)) ks
    extreme_known = over_known (pick (height_at ks (whole c.lo)) (height_at ks (whole c.hi))) ks

    pub extreme_at_lo : R (extreme pick ks c) (height_at ks (whole c.lo))
    extreme_at_lo = let u = height_at ks (whole c.lo) in let v = height_at ks (whole c.hi) in R-trans (extreme pick ks c) (pick u v) u (over_first (pick u v) ks) (pick_first u v)

    pub extreme_at_hi : R (extreme pick ks c) (height_at ks (whole c.hi))
    extreme_at_hi = let u = height_at ks (whole c.lo) in let v = height_at ks (whole c.hi) in R-trans (extreme pick ks c) (pick u v) v (over_first (pick u v) ks) (pick_second u v)

    pub extreme_has : (P : Fraction → Type 0) → P (height_at ks (whole c.lo)) → P (height_at ks (whole c.hi)) → Known (inside c) P ks → P (extreme pick ks c)
    extreme_has P p q known = let u = height_at ks (whole c.lo) in let v = height_at ks (whole c.hi) in over_has P (pick u v) ks (picks P u v (λ _. p) (λ _. q)) known

-- ---- a table takes the heights of its knots
-- f is the table's height; to the right of k it is that of the knots from k on
right_taken : (f : Fraction → Fraction) (c : Cell) (k : Knot) (ls : List Knot) → ascend_from k ls ≡ true → ((z : ℤ) → k.x <ℤ z → f (whole z) ≡ right_of k ls (whole z))
    → Known (inside c) (λ u. (x : Fraction) × (InCell c x × (f x ≃ u))) ls
right_taken f c k [] e same = tt
right_taken f c k (l ∷ ls) e same =
    let up = first_below k l ls e in
    let here : f (whole l.x) ≡ line k l (whole l.x) = same l.x up ∙ ap (λ (b : Bool). cond b (line k l (whole l.x)) (right_of l ls (whole l.x))) (up_to_lem l.x l.x (omega (arith, ints))) in (
      λ t. let h = and_parts (le_z c.lo l.x) (le_z l.x c.hi) t in let a = h.0 in let b = h.1 in
          (whole l.x, ((omega (arith, ints), omega (arith, ints)), subst (λ (u : Fraction). u ≃ whole l.y) (sym here) (line_at_right k l up))),
      right_taken f c l ls (and_parts (lt_z k.x l.x) (ascend_from l ls) e).1
          (λ z h. same z (omega (arith, ints)) ∙ ap (λ (b : Bool). cond b (line k l (whole z)) (right_of l ls (whole z))) (past z l.x h)),
    )

knots_taken : (c : Cell) (k : Knot) (ks : List Knot) → ascend_from k ks ≡ true → Known (inside c) (Taken (k ∷ ks) c) (k ∷ ks)
knots_taken c k ks e = (
  λ t. let h = and_parts (le_z c.lo k.x) (le_z k.x c.hi) t in let a = h.0 in let b = h.1 in
      (whole k.x, ((omega (arith, ints), omega (arith, ints)), subst (λ (u : Fraction). u ≃ whole k.y) (sym (ap (λ (b : Bool). cond b (whole k.y) (right_of k ks (whole k.x))) (up_to_lem k.x k.x (omega (arith, ints))))) (≃_refl (whole k.y)))),
  right_taken (height_at (k ∷ ks)) c k ks e (λ z h. ap (λ (b : Bool). cond b (whole k.y) (right_of k ks (whole z))) (past z k.x h)),
)

-- ---- the law
at_end : (ks : List Knot) (c : Cell) (z : ℤ) → c.lo ≤ℤ z → z ≤ℤ c.hi → Taken ks c (height_at ks (whole z))
at_end ks c z h i = (whole z, ((omega (arith, ints), omega (arith, ints)), ≃_refl (height_at ks (whole z))))

abbrev More : Fraction → Fraction → Type 0
More u v = v ≼ u

pub table_extremes : (k : Knot) (ks : List Knot) (c : Cell) → ascend_from k ks ≡ true → c.lo ≤ℤ c.hi → Extremes (k ∷ ks) c
table_extremes k ks c e o =
    let all = k ∷ ks in
    let taken = knots_taken c k ks e in
    let lo-taken = at_end all c c.lo (omega (arith, ints)) o in
    let hi-taken = at_end all c c.hi o (omega (arith, ints)) in
    record {
      low = λ x h. height_side (above (least all c)) c x h k ks e
          (extreme_known smaller ◌≼◌ ≼_refl ≼_trans smaller_picks c all)
          (extreme_at_lo smaller ◌≼◌ ≼_refl ≼_trans smaller_picks c all)
          (extreme_at_hi smaller ◌≼◌ ≼_refl ≼_trans smaller_picks c all);
      high = λ x h. height_side (below (greatest all c)) c x h k ks e
          (extreme_known larger More ≼_refl (λ u v w p q. ≼_trans w v u q p) larger_picks c all)
          (extreme_at_lo larger More ≼_refl (λ u v w p q. ≼_trans w v u q p) larger_picks c all)
          (extreme_at_hi larger More ≼_refl (λ u v w p q. ≼_trans w v u q p) larger_picks c all);
      low_taken = extreme_has smaller ◌≼◌ ≼_refl ≼_trans smaller_picks c all (Taken all c) lo-taken hi-taken taken;
      high_taken = extreme_has larger More ≼_refl (λ u v w p q. ≼_trans w v u q p) larger_picks c all (Taken all c) lo-taken hi-taken taken;
    }
  where
    smaller_picks : (P : Fraction → Type 0) (u v : Fraction) → (u ≼ v → P u) → (v ≼ u → P v) → P (smaller u v)
    smaller_picks P u v f g = smaller_by P u v f (λ h. g (≺-≼ v u h))

    larger_picks : (P : Fraction → Type 0) (u v : Fraction) → (v ≼ u → P u) → (u ≼ v → P v) → P (larger u v)
    larger_picks P u v f g = larger_by P u v f (λ h. g (≺-≼ u v h))
