-- What holds of the heights at a cell's ends and of the knots inside holds of the height at every point of the cell. `Side` is a bound from
-- below or from above: on a straight line it passes from two points to every point between.
use Rattle.std.proofs.Common.{◌≡◌, Bool, true, false, cond, List, [], ◌∷◌, ℤ, pos, ◌*ℤ◌, ◌≤ℤ◌, ◌<ℤ◌, refl, subst, arith}
use lib.Signed.{lt_z}
use borrow.Author.Differences.{ints}
use Rattle.std.proofs.lemmas.Bool.{and_parts}
use Rattle.exact.specs.Fraction.{Fraction, whole, ◌≃◌, ◌≼◌}
use Rattle.exact.proofs.Integers.{linear, by_order, ≤ℤ_cancel, ≤ℤ-mul}
use Rattle.exact.proofs.Fractions.{den_pos, ≃_sym, ≃-≼, ≼_trans}
use Rattle.interval.proofs.OneEnd.{cond_if}
use Rattle.family.specs.declared.cells.Cell.{Cell}
use Rattle.family.specs.Cells.{InCell}
use Rattle.knots.specs.declared.knots.Knot.{Knot}
use Rattle.knots.specs.Knots.{ascend_from}
use Rattle.knots.specs.Values.{up_to, line, right_of, height_at}
use Rattle.knots.specs.Extremes.{inside}
use Rattle.knots.proofs.Lines.{line_at_left, line_at_right, line_rises, line_falls}

-- ---- whole openings and points: z < x or x ≤ z, cross-multiplied
pub below_cancel : (a b d n : ℤ) → pos 0 <ℤ d → (a *ℤ d) ≤ℤ n → n ≤ℤ (b *ℤ d) → a ≤ℤ b
below_cancel a b d n h p q = ≤ℤ_cancel a b d h (omega (arith, linear))

-- a test of two whole openings
pub up_to_lem : (a b : ℤ) → a ≤ℤ b → up_to (whole a) b ≡ true
up_to_lem a b h = grind (arith, ints)

pub past : (a b : ℤ) → b <ℤ a → up_to (whole a) b ≡ false
past a b h = grind (arith, ints)

inside_is : (c : Cell) (k : Knot) → c.lo ≤ℤ k.x → k.x ≤ℤ c.hi → inside c k ≡ true
inside_is c k p q = grind (arith, ints)

pub first_below : (k l : Knot) (ls : List Knot) → ascend_from k (l ∷ ls) ≡ true → k.x <ℤ l.x
first_below k l ls e = let h = (and_parts (lt_z k.x l.x) (ascend_from l ls) e).0 in omega (arith, ints)

-- what is known of each knot, where a test admits it
abbrev pub Known : (Knot → Bool) → (Fraction → Type 0) → List Knot → Type 0
Known test P [] = Unit {0}
Known test P (k ∷ ks) = (test k ≡ true → P (whole k.y)) × Known test P ks

pub record Side : Type 1 where
  pub Of : Fraction → Type 0
  pub same : (u v : Fraction) → u ≃ v → Of u → Of v
  pub between : (k l : Knot) (p x q : Fraction) → p ≼ x → x ≼ q → Of (line k l p) → Of (line k l q) → Of (line k l x)

-- a bound from below, and from above
abbrev pub above : Fraction → Side
above m = record {
  Of = λ v. m ≼ v;
  same = λ u v e h. ≼_trans m u v h (≃-≼ u v e);
  between = λ k l p x q i j a b. by_order k.y l.y
      (λ h. ≼_trans m (line k l p) (line k l x) a (line_rises k l p x h i))
      (λ h. ≼_trans m (line k l q) (line k l x) b (line_falls k l x q (omega (arith, linear)) j));
}

abbrev pub below : Fraction → Side
below m = record {
  Of = λ v. v ≼ m;
  same = λ u v e h. ≼_trans v u m (≃-≼ v u (≃_sym u v e)) h;
  between = λ k l p x q i j a b. by_order k.y l.y
      (λ h. ≼_trans (line k l x) (line k l q) m (line_rises k l x q h j) b)
      (λ h. ≼_trans (line k l x) (line k l p) m (line_falls k l p x (omega (arith, linear)) i) a);
}

abbrev pub Every : Knot → Bool
Every k = true

module _ (s : Side) where
  abbrev Of : Fraction → Type 0
  Of = s.Of

  -- ---- over a cell
  module _ (c : Cell) (x : Fraction) (here : InCell c x) where
    from_left : (z : ℤ) → (z *ℤ pos x.den) ≤ℤ x.num → whole z ≼ x
    from_left z h = omega (arith, ints)

    to_right : (z : ℤ) → x.num ≤ℤ (z *ℤ pos x.den) → x ≼ whole z
    to_right z h = omega (arith, ints)

    -- on the line from k to l, which the point lies on: a point at or to the left of it, and one at or to the right
    module _ (k l : Knot) (ls : List Knot) (up : k.x <ℤ l.x) (after : (k.x *ℤ pos x.den) <ℤ x.num) (upto : x.num ≤ℤ (l.x *ℤ pos x.den))
        (known : Known (inside c) Of (k ∷ l ∷ ls)) (at-lo : k.x <ℤ c.lo → Of (right_of k (l ∷ ls) (whole c.lo))) (at-hi : k.x <ℤ c.hi → Of (right_of k (l ∷ ls) (whole c.hi))) where
      lo_before : c.lo ≤ℤ l.x
      lo_before = below_cancel c.lo l.x (pos x.den) x.num (den_pos x) here.0 upto

      after_le : (k.x *ℤ pos x.den) ≤ℤ x.num
      after_le = omega (arith, linear)

      hi_after : k.x ≤ℤ c.hi
      hi_after = below_cancel k.x c.hi (pos x.den) x.num (den_pos x) after_le here.1

      left_end : (p : Fraction) × ((p ≼ x) × Of (line k l p))
      left_end = by_order c.lo k.x
          (λ h. (whole k.x, (from_left k.x after_le, s.same (whole k.y) (line k l (whole k.x)) (≃_sym (line k l (whole k.x)) (whole k.y) (line_at_left k l)) (known.0 (inside_is c k h hi_after)))))
          (λ h. (whole c.lo, (from_left c.lo here.0, subst (λ (t : Bool). Of (cond t (line k l (whole c.lo)) (right_of l ls (whole c.lo)))) (up_to_lem c.lo l.x lo_before) (at-lo h))))

      right_end : (q : Fraction) × ((x ≼ q) × Of (line k l q))
      right_end = by_order l.x c.hi
          (λ h. (whole l.x, (to_right l.x upto, s.same (whole l.y) (line k l (whole l.x)) (≃_sym (line k l (whole l.x)) (whole l.y) (line_at_right k l up)) (known.1.0 (inside_is c l lo_before h)))))
          (λ h. let m : c.hi ≤ℤ l.x = omega (arith, linear) in (whole c.hi, (to_right c.hi here.1, subst (λ (t : Bool). Of (cond t (line k l (whole c.hi)) (right_of l ls (whole c.hi)))) (up_to_lem c.hi l.x m) (at-hi strictly))))
        where
          strictly : k.x <ℤ c.hi
          strictly = by_order c.hi k.x (λ h. let m = ≤ℤ-mul c.hi k.x (pos x.den) h (omega (arith, linear, den_pos x)) in absurd (omega (arith, linear, here.1))) (λ h. h)

      on_line : Of (line k l x)
      on_line = s.between k l left_end.0 x right_end.0 left_end.1.0 right_end.1.0 left_end.1.1 right_end.1.1

    right_side : (k : Knot) (ls : List Knot) → ascend_from k ls ≡ true → Known (inside c) Of (k ∷ ls) → (k.x <ℤ c.lo → Of (right_of k ls (whole c.lo))) → (k.x <ℤ c.hi → Of (right_of k ls (whole c.hi)))
        → (k.x *ℤ pos x.den) <ℤ x.num → Of (right_of k ls x)
    right_side k [] e known at-lo at-hi after = by_order c.lo k.x
        (λ h. known.0 (inside_is c k h (below_cancel k.x c.hi (pos x.den) x.num (den_pos x) (omega (arith, linear)) here.1)))
        at-lo
    right_side k (l ∷ ls) e known at-lo at-hi after = cond_if Of (up_to x l.x) (line k l x) (right_of l ls x)
        (λ t. on_line k l ls (first_below k l ls e) after (omega (arith, ints)) known at-lo at-hi)
        (λ t. right_side l ls (and_parts (lt_z k.x l.x) (ascend_from l ls) e).1 known.1
        (λ h. onward c.lo h at-lo)
        (λ h. onward c.hi h at-hi)
        (omega (arith, ints)))
      where
        onward : (z : ℤ) → l.x <ℤ z → (k.x <ℤ z → Of (right_of k (l ∷ ls) (whole z))) → Of (right_of l ls (whole z))
        onward z h f = let u = first_below k l ls e in
            subst (λ (t : Bool). Of (cond t (line k l (whole z)) (right_of l ls (whole z)))) (past z l.x h) (f (omega (arith, linear)))

    pub height_side : (k : Knot) (ks : List Knot) → ascend_from k ks ≡ true → Known (inside c) Of (k ∷ ks) → Of (height_at (k ∷ ks) (whole c.lo)) → Of (height_at (k ∷ ks) (whole c.hi)) → Of (height_at (k ∷ ks) x)
    height_side k ks e known at-lo at-hi = cond_if Of (up_to x k.x) (whole k.y) (right_of k ks x)
        (λ t. by_order k.x c.hi
        (λ h. known.0 (inside_is c k (below_cancel c.lo k.x (pos x.den) x.num (den_pos x) here.0 (omega (arith, ints))) h))
        (λ h. subst (λ (b : Bool). Of (cond b (whole k.y) (right_of k ks (whole c.hi)))) (up_to_lem c.hi k.x (omega (arith, linear))) at-hi))
        (λ t. right_side k ks e known (λ h. beyond c.lo h at-lo) (λ h. beyond c.hi h at-hi) (omega (arith, ints)))
      where
        beyond : (z : ℤ) → k.x <ℤ z → Of (height_at (k ∷ ks) (whole z)) → Of (right_of k ks (whole z))
        beyond z h = subst (λ (b : Bool). Of (cond b (whole k.y) (right_of k ks (whole z)))) (past z k.x h)

  -- ---- at any point, where it holds of all knots
  module _ (x : Fraction) where
    right_all : (k : Knot) (ls : List Knot) → ascend_from k ls ≡ true → Known Every Of (k ∷ ls) → (k.x *ℤ pos x.den) <ℤ x.num → Of (right_of k ls x)
    right_all k [] e known after = known.0 refl
    right_all k (l ∷ ls) e known after = cond_if Of (up_to x l.x) (line k l x) (right_of l ls x)
        (λ t. s.between k l (whole k.x) x (whole l.x) (omega (arith, ints)) (omega (arith, ints))
        (s.same (whole k.y) (line k l (whole k.x)) (≃_sym (line k l (whole k.x)) (whole k.y) (line_at_left k l)) (known.0 refl))
        (s.same (whole l.y) (line k l (whole l.x)) (≃_sym (line k l (whole l.x)) (whole l.y) (line_at_right k l (first_below k l ls e))) (known.1.0 refl)))
        (λ t. right_all l ls (and_parts (lt_z k.x l.x) (ascend_from l ls) e).1 known.1 (omega (arith, ints)))

    pub height_all : (k : Knot) (ks : List Knot) → ascend_from k ks ≡ true → Known Every Of (k ∷ ks) → Of (height_at (k ∷ ks) x)
    height_all k ks e known = cond_if Of (up_to x k.x) (whole k.y) (right_of k ks x) (λ _. known.0 refl) (λ t. right_all k ks e known (omega (arith, ints)))
