-- The answer of an entry holds the value at every point of the cell, and has bounds wherever v has.
use Rattle.std.proofs.Common.{◌≡◌, Bool, true, false, cond, ◌&&◌, ℤ, ◌≤ℤ◌, sym, refl, subst, arith}
use lib.Signed.{le_z}
use borrow.Author.Differences.{ints}
use Rattle.std.specs.Int.{int_min, int_max}
use Rattle.exact.specs.Fraction.{Fraction, whole, in_units, plus, minus, times, ◌≃◌}
use Rattle.exact.specs.Value.{Value, none, some, both}
use Rattle.exact.proofs.Fractions.{≃_sym, ≃_trans, plus-≃}
use Rattle.exact.proofs.FractionRing.{◌⊞◌, ◌⊟◌, ◌≑◌, fring2}
use Rattle.interval.specs.declared.enclosures.Enclosure.{Enclosure}
use Rattle.interval.specs.declared.enclosures.Enclosure.TheVariants.{NoBounds, Bounds}
use Rattle.interval.specs.Rules.{within, kept, add, mul, common, held}
use Rattle.interval.specs.Meaning.{Holds, InRange}
use Rattle.interval.proofs.OneEnd.{max_by, min_by, Low, High, ends_ordered, between_≃}
use Rattle.interval.proofs.Laws.{kept_holds, add_follows, common_follows}
use Rattle.family.specs.declared.cells.Cell.{Cell}
use Rattle.family.specs.Cells.{middle, InCell}
use Rattle.family.proofs.Inside.{units_between}
use Rattle.slope.specs.declared.entries.Slope.{Slope}
use Rattle.slope.specs.Rules.{at, reach, joined, answer_of}
use Rattle.slope.specs.Meaning.{gap, Slopes, Sloped, Vouches, HasBounds}
use Rattle.slope.proofs.Holding.{add_holds, sub_holds, mul_holds}
use Rattle.slope.proofs.Steps.{Fits, slope_of}
use Rattle.slope.proofs.Keeps.{at_count}

-- the way from the middle to a point of the cell lies within the reach
reach_holds : (c : Cell) (p : Fraction) → InCell c p → Holds (reach c) (some (gap c p))
reach_holds c p inside = sub_holds (held (Bounds c.lo c.hi)) (at (middle c)) (some (in_units p)) (some (in_units (whole (middle c))))
    (kept_holds c.lo c.hi (some (in_units p)) (units_between c.lo c.hi p inside)) (at_count (middle c))

-- the same value by another way, or none
abbrev Like : Value → Fraction → Type 0
Like none f = Unit {0}
Like (some h) f = h ≃ f

-- g + r·δ is f
arrives : (δ f g : Fraction) (v : Value) → Fits δ f g v → Like (both plus (some g) (both times v (some δ))) f
arrives δ f g none h = tt
arrives δ f g (some r) h = ≃_trans (plus g (times r δ)) (plus g (minus f g)) f
    (plus-≃ g g (times r δ) (minus f g) refl (≃_sym (minus f g) (times r δ) h)) (fring2 f g (λ F G. G ⊞ (F ⊟ G) ≑ F) refl)

-- ---- the part common to two that hold the value
joined_holds : (V W : Enclosure) (y : Value) (f : Fraction) → Holds V (some f) → Holds W y → Like y f → Holds (joined V W) (some f)
joined_holds V NoBounds y f h k e = h
joined_holds V (Bounds d e) none f h k l = absurd k
joined_holds V (Bounds d e) (some g) f h k l = (common_follows V (Bounds d e) (common V (Bounds d e)) refl).law (some f) h (between_≃ d e g f l k)

nothing : (W : Enclosure) (x : Value) → Holds (joined NoBounds W) x
unfolding common
nothing NoBounds x = tt
nothing (Bounds d e) x = tt

shared_bounds : (a b d e : ℤ) (t : Bool) → le_z (int_max a d) (int_min b e) ≡ t → (int_max a d) ≤ℤ (int_min b e) → within (int_max a d) ≡ true → within (int_min b e) ≡ true → HasBounds (cond t (kept (int_max a d) (int_min b e)) NoBounds)
shared_bounds a b d e true q o p r = subst (λ (s : Bool). HasBounds (cond (s && within (int_min b e)) (Bounds (int_max a d) (int_min b e)) NoBounds)) (sym p)
    (subst (λ (s : Bool). HasBounds (cond s (Bounds (int_max a d) (int_min b e)) NoBounds)) (sym r) tt)
shared_bounds a b d e false q o p r = absurd (omega (arith, ints))

joined_bounds : (V W : Enclosure) (y : Value) (f : Fraction) → InRange V → InRange W → HasBounds V → Holds V (some f) → Holds W y → Like y f → HasBounds (joined V W)
unfolding common
joined_bounds NoBounds W y f rv rw b h k l = absurd b
joined_bounds (Bounds a b) NoBounds y f rv rw hb h k l = tt
joined_bounds (Bounds a b) (Bounds d e) none f rv rw hb h k l = absurd k
joined_bounds (Bounds a b) (Bounds d e) (some g) f rv rw hb h k l =
    let m = between_≃ d e g f l k in
    let o = ends_ordered (int_max a d) (int_min b e) f (max_by (λ z. Low z f) a d h.0 m.0, min_by (λ z. High z f) b e h.1 m.1) in
    shared_bounds a b d e (le_z (int_max a d) (int_min b e)) refl o (max_by (λ z. within z ≡ true) a d rv.0 rw.0) (min_by (λ z. within z ≡ true) b e rv.1 rw.1)

-- ---- the answer, for values that v holds
module _ (c : Cell) (p : Fraction) (inside : InCell c p) (i : Slope) where
  sum_holds : (f g : Fraction) → Holds i.u (some g) → Slopes (gap c p) i.s f g → (y : Value) × Holds (add i.u (mul i.s (reach c))) y × Like y f
  sum_holds f g m s =
      let t = slope_of (gap c p) f g i.s s in (
        both plus (some g) (both times t.0 (some (gap c p))),
        add_holds i.u (mul i.s (reach c)) (some g) (both times t.0 (some (gap c p))) m (mul_holds i.s (reach c) t.0 (some (gap c p)) t.1 (reach_holds c p inside)),
        arrives (gap c p) f g t.0 t.2,
      )

  pub answer_holds : (x m : Value) → Vouches (gap c p) i x m → Holds (answer_of c i) x
  answer_holds x m h = go i.v x m h.point h.inside h.middle h.sloped
    where
      go : (V : Enclosure) (x m : Value) → Holds V x → Holds V m → Holds i.u m → Sloped (gap c p) i.s x m → Holds (joined V (add i.u (mul i.s (reach c)))) x
      go NoBounds x m h k u s = nothing (add i.u (mul i.s (reach c))) x
      go (Bounds a b) none m h k u s = absurd h
      go (Bounds a b) (some f) none h k u s = absurd k
      go (Bounds a b) (some f) (some g) h k u s = let t = sum_holds f g u s in joined_holds (Bounds a b) (add i.u (mul i.s (reach c))) t.0 f h t.1 t.2

  pub answer_bounds : (x m : Value) → Vouches (gap c p) i x m → InRange i.v → HasBounds i.v → HasBounds (answer_of c i)
  answer_bounds x m h r b = go i.v x m h.point h.inside h.middle h.sloped r b
    where
      go : (V : Enclosure) (x m : Value) → Holds V x → Holds V m → Holds i.u m → Sloped (gap c p) i.s x m → InRange V → HasBounds V → HasBounds (joined V (add i.u (mul i.s (reach c))))
      go NoBounds x m h k u s r b = absurd b
      go (Bounds a b) none m h k u s r hb = absurd h
      go (Bounds a b) (some f) none h k u s r hb = absurd k
      go (Bounds a b) (some f) (some g) h k u s r hb =
          let t = sum_holds f g u s in
          joined_bounds (Bounds a b) (add i.u (mul i.s (reach c))) t.0 f r (add_follows i.u (mul i.s (reach c)) (add i.u (mul i.s (reach c))) refl).range hb h t.1 t.2

-- ---- the range
joined_range : (V W : Enclosure) → InRange V → InRange (joined V W)
joined_range V NoBounds h = h
joined_range V (Bounds d e) h = (common_follows V (Bounds d e) (common V (Bounds d e)) refl).range

pub answer_range : (c : Cell) (i : Slope) → InRange i.v → InRange (answer_of c i)
answer_range c i h = joined_range i.v (add i.u (mul i.s (reach c))) h
