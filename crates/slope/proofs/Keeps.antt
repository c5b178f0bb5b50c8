-- The law of each rule on entries with slopes, and that the answer holds the value at every point of the cell.
use Rattle.std.proofs.Common.{◌≡◌, Bool, true, false, cond, ℤ, pos, ◌<ℤ◌, Some, None, Option, sym, refl, subst, arith}
use lib.Signed.{lt_z}
use borrow.Author.Differences.{ints}
use Rattle.exact.specs.Fraction.{Fraction, whole, in_units, plus, minus, negated, times, absolute, larger, ◌≃◌}
use Rattle.exact.specs.Value.{Value, none, some, each, both, divided, quotient, negative, choice}
use Rattle.exact.proofs.Ring.{lit, ◌⊕◌, ◌⊗◌, ⊖◌, ◌≐◌, ring2, ring4}
use Rattle.interval.specs.declared.enclosures.Enclosure.{Enclosure}
use Rattle.interval.specs.declared.enclosures.Enclosure.TheVariants.{NoBounds, Bounds}
use Rattle.interval.specs.declared.enclosures.Branch.{Branch}
use Rattle.interval.specs.declared.enclosures.Branch.TheVariants.{First, Second, Both, Neither}
use Rattle.interval.specs.Rules.{neg, add, sub, mul, div, abs, max, branch}
use Rattle.interval.specs.Meaning
use Rattle.interval.specs.Meaning.{Holds, Chooses}
use Rattle.interval.proofs.OneEnd.{cond_by, low_pos, high_neg}
use Rattle.interval.proofs.Laws.{kept_holds}
use Rattle.family.specs.declared.cells.Cell.{Cell}
use Rattle.family.specs.declared.readings.Reading.{Reading}
use Rattle.family.specs.Cells.{exists, middle, InCell}
use Rattle.family.specs.Readings.{reading_pair, Allows}
use Rattle.family.proofs.Inside.{units_between, middle-inside}
use Rattle.slope.specs.declared.entries.Slope.{Slope}
use Rattle.slope.specs.Rules.{at, x_slope, constant_slope, reading_slope, neg_slope, add_slope, sub_slope, mul_slope, div_slope, max_slope, abs_slope, slope_by, chi_slope}
use Rattle.slope.specs.Meaning.{gap, Slopes, Sloped, Vouches, Law1, Law2, Law3, Follows}
use Rattle.slope.proofs.Holding.{neg_holds, add_holds, sub_holds, mul_holds, div_holds, abs_holds, max_holds, chi_holds}
use Rattle.slope.proofs.Mean.{divided_by}
use Rattle.slope.proofs.Steps.{neg_has, add_has, sub_has, mul_has, div_has, bent_has, larger_has}

-- ---- only fractions are left to show
step1 : (op : Fraction → Fraction) (δ : Fraction) (i : Slope) (S : Enclosure)
    → ((f f' : Fraction) → Vouches δ i (some f) (some f') → Slopes δ S (op f) (op f')) → (x m : Value) → Vouches δ i x m → Sloped δ S (each op x) (each op m)
step1 op δ i S h none m p = tt
step1 op δ i S h (some f) none p = tt
step1 op δ i S h (some f) (some f') p = h f f' p

step2 : (op : Fraction → Fraction → Fraction) (δ : Fraction) (i j : Slope) (S : Enclosure)
    → ((f f' g g' : Fraction) → Vouches δ i (some f) (some f') → Vouches δ j (some g) (some g') → Slopes δ S (op f g) (op f' g'))
    → (x m y n : Value) → Vouches δ i x m → Vouches δ j y n → Sloped δ S (both op x y) (both op m n)
step2 op δ i j S h none m y n p q = tt
step2 op δ i j S h (some f) m none n p q = tt
step2 op δ i j S h (some f) none (some g) n p q = tt
step2 op δ i j S h (some f) (some f') (some g) none p q = tt
step2 op δ i j S h (some f) (some f') (some g) (some g') p q = h f f' g g' p q

-- ---- v and u follow the rule g on enclosures, which holds f's results; only the slope S is left to show
keeps1 : (f : Value → Value) (g : Enclosure → Enclosure) → ((e : Enclosure) → Meaning.Law1 f e (g e)) → (i : Slope) (S : Enclosure)
    → ((δ : Fraction) (x m : Value) → Vouches δ i x m → Sloped δ S (f x) (f m)) → Law1 f i (record { v = g i.v; u = g i.u; s = S })
keeps1 f g holds i S slopes δ x m p = record { point = holds i.v x p.point; inside = holds i.v m p.inside; middle = holds i.u m p.middle; sloped = slopes δ x m p }

keeps2 : (f : Value → Value → Value) (g : Enclosure → Enclosure → Enclosure) → ((d e : Enclosure) → Meaning.Law2 f d e (g d e)) → (i j : Slope) (S : Enclosure)
    → ((δ : Fraction) (x m y n : Value) → Vouches δ i x m → Vouches δ j y n → Sloped δ S (f x y) (f m n)) → Law2 f i j (record { v = g i.v j.v; u = g i.u j.u; s = S })
keeps2 f g holds i j S slopes δ x m y n p q = record {
  point = holds i.v j.v x y p.point q.point;
  inside = holds i.v j.v m n p.inside q.inside;
  middle = holds i.u j.u m n p.middle q.middle;
  sloped = slopes δ x m y n p q;
}

pub neg_keeps : (i : Slope) → Law1 (each negated) i (neg_slope i)
neg_keeps i = keeps1 (each negated) neg neg_holds i (neg i.s) (λ δ. step1 negated δ i (neg i.s) (λ f f' l. neg_has δ f f' i.s l.sloped))

pub abs_keeps : (i : Slope) → Law1 (each absolute) i (abs_slope i)
abs_keeps i = keeps1 (each absolute) abs abs_holds i (abs_slope i).s
    (λ δ. step1 absolute δ i (abs_slope i).s (λ f f' l. bent_has δ f f' i.v i.s l.point l.inside l.sloped))

pub add_keeps : (i j : Slope) → Law2 (both plus) i j (add_slope i j)
add_keeps i j = keeps2 (both plus) add add_holds i j (add i.s j.s)
    (λ δ. step2 plus δ i j (add i.s j.s) (λ f f' g g' l k. add_has δ f f' i.s l.sloped g g' j.s k.sloped))

pub sub_keeps : (i j : Slope) → Law2 (both minus) i j (sub_slope i j)
sub_keeps i j = keeps2 (both minus) sub sub_holds i j (sub i.s j.s)
    (λ δ. step2 minus δ i j (sub i.s j.s) (λ f f' g g' l k. sub_has δ f f' i.s l.sloped g g' j.s k.sloped))

pub mul_keeps : (i j : Slope) → Law2 (both times) i j (mul_slope i j)
mul_keeps i j = keeps2 (both times) mul mul_holds i j (mul_slope i j).s
    (λ δ. step2 times δ i j (mul_slope i j).s (λ f f' g g' l k. mul_has δ f f' i.s l.sloped g g' j.s k.sloped i.v j.u l.point k.middle))

pub max_keeps : (i j : Slope) → Law2 (both larger) i j (max_slope i j)
max_keeps i j = keeps2 (both larger) max max_holds i j (max_slope i j).s
    (λ δ. step2 larger δ i j (max_slope i j).s (λ f f' g g' l k. larger_has δ f f' g g' i.v j.v i.s j.s l.point l.inside k.point k.inside l.sloped k.sloped))

-- ---- the quotient, which a zero divisor lacks
unsloped : (δ : Fraction) (S : Enclosure) (x : Value) → Sloped δ S x none
unsloped δ S none = tt
unsloped δ S (some f) = tt

div_sloped : (δ : Fraction) (i j : Slope) (x m y n : Value) → Vouches δ i x m → Vouches δ j y n → Holds (div i.u j.u) (quotient m n) → Sloped δ (div_slope i j).s (quotient x y) (quotient m n)
div_sloped δ i j none m y n p q h = tt
div_sloped δ i j (some f) m none n p q h = tt
div_sloped δ i j (some f) none (some g) n p q h = unsloped δ (div_slope i j).s (divided f g)
div_sloped δ i j (some f) (some f') (some g) none p q h = unsloped δ (div_slope i j).s (divided f g)
div_sloped δ i j (some f) (some f') (some g) (some g') p q h =
    divided_by (λ v. Sloped δ (div_slope i j).s v (divided f' g')) f g tt
    (λ z nz e. divided_by (λ v. Holds (div i.u j.u) v → Sloped δ (div_slope i j).s (some z) v) f' g' (λ _. tt)
    (λ z' _ e' k. div_has δ f f' i.s p.sloped g g' j.s q.sloped j.v (div i.u j.u) z z' q.point k nz e e') h)

pub div_keeps : (i j : Slope) → Law2 quotient i j (div_slope i j)
div_keeps i j = keeps2 quotient div div_holds i j (div_slope i j).s
    (λ δ x m y n p q. div_sloped δ i j x m y n p q (div_holds i.u j.u m n p.middle q.middle))

-- ---- the choice
lacking : (δ : Fraction) (x m : Value) → Sloped δ NoBounds x m
lacking δ none m = tt
lacking δ (some f) none = tt
lacking δ (some f) (some g) = tt

-- what the branch reads, both values choose
chosen_sloped : (δ : Fraction) (b : Branch) (S T : Enclosure) (s m x n y k : Value) → Chooses b s → Chooses b m → Sloped δ S x n → Sloped δ T y k → Sloped δ (slope_by b S T) (choice s x y) (choice m n k)
chosen_sloped δ First S T none m x n y k h l p q = absurd h
chosen_sloped δ First S T (some s) none x n y k h l p q = absurd l
chosen_sloped δ First S T (some s) (some m) x n y k h l p q =
    subst (λ (t : Bool). Sloped δ S (cond t x y) (cond (negative m) n k)) (sym h) (subst (λ (t : Bool). Sloped δ S x (cond t n k)) (sym l) p)
chosen_sloped δ Second S T none m x n y k h l p q = absurd h
chosen_sloped δ Second S T (some s) none x n y k h l p q = absurd l
chosen_sloped δ Second S T (some s) (some m) x n y k h l p q =
    subst (λ (t : Bool). Sloped δ T (cond t x y) (cond (negative m) n k)) (sym h) (subst (λ (t : Bool). Sloped δ T y (cond t n k)) (sym l) q)
chosen_sloped δ Both S T s m x n y k h l p q = lacking δ (choice s x y) (choice m n k)
chosen_sloped δ Neither S T s m x n y k h l p q = lacking δ (choice s x y) (choice m n k)

chooses : (e : Enclosure) (x : Value) → Holds e x → Chooses (branch e) x
chooses NoBounds x h = tt
chooses (Bounds a b) none h = absurd h
chooses (Bounds a b) (some s) h = cond_by (λ B. Chooses B (some s)) b (pos 0) First (cond (lt_z (pos 0) a) Second Both)
    (λ l. is_negative s.num (high_neg s b l h.1))
    (λ _. cond_by (λ B. Chooses B (some s)) (pos 0) a Second Both (λ l. is_positive s.num (low_pos s a l h.0)) (λ _. tt))
  where
    is_negative : (n : ℤ) → n <ℤ pos 0 → lt_z n (pos 0) ≡ true
    is_negative n h = grind (arith, ints)

    is_positive : (n : ℤ) → pos 0 <ℤ n → lt_z n (pos 0) ≡ false
    is_positive n h = grind (arith, ints)

pub chi_keeps : (i j k : Slope) → Law3 choice i j k (chi_slope i j k)
chi_keeps i j k δ x m x' m' x'' m'' p q r = record {
  point = chi_holds i.v j.v k.v x x' x'' p.point q.point r.point;
  inside = chi_holds i.v j.v k.v m m' m'' p.inside q.inside r.inside;
  middle = chi_holds i.u j.u k.u m m' m'' p.middle q.middle r.middle;
  sloped = chosen_sloped δ (branch i.v) j.s k.s x m x' m' x'' m'' (chooses i.v x p.point) (chooses i.v m p.inside) q.sloped r.sloped;
}

-- ---- the point, a constant, a temperature
pub at_count : (z : ℤ) → Holds (at z) (some (in_units (whole z)))
at_count z = kept_holds z z (some (in_units (whole z))) (units_between z z (whole z) (omega (arith, ints), omega (arith, ints)))

-- f − g is 1 times itself; f − f is 0 times anything
one_times : (f g : Fraction) → minus f g ≃ times (whole (pos 1)) (minus f g)
one_times f g = ring2 (minus f g).num (pos (minus f g).den) (λ N D. N ⊗ (lit (pos 1) ⊗ D) ≐ (lit (pos 1) ⊗ N) ⊗ D) refl

no_slope : (δ f : Fraction) → minus f f ≃ times (whole (pos 0)) δ
no_slope δ f = ring4 f.num (pos f.den) δ.num (pos δ.den) (λ N D K E. (N ⊗ D ⊕ ⊖ N ⊗ D) ⊗ (lit (pos 1) ⊗ E) ≐ (lit (pos 0) ⊗ K) ⊗ (D ⊗ D)) refl

pub x_keeps : (c : Cell) (p : Fraction) → exists c ≡ true → InCell c p → Vouches (gap c p) (x_slope c) (some (in_units p)) (some (in_units (whole (middle c))))
x_keeps c p there inside = record {
  point = kept_holds c.lo c.hi (some (in_units p)) (units_between c.lo c.hi p inside);
  inside = kept_holds c.lo c.hi (some (in_units (whole (middle c)))) (units_between c.lo c.hi (whole (middle c)) (middle-inside c there));
  middle = at_count (middle c);
  sloped = (whole (pos 1), (record { le = tt }, record { le = tt }), one_times (in_units p) (in_units (whole (middle c))));
}

pub constant_keeps : (δ : Fraction) (z : ℤ) → Vouches δ (constant_slope z) (some (in_units (whole z))) (some (in_units (whole z)))
constant_keeps δ z = record { point = at_count z; inside = at_count z; middle = at_count z; sloped = (whole (pos 0), (record { le = tt }, record { le = tt }), no_slope δ (in_units (whole z))) }

pub reading_keeps : (δ : Fraction) (o : Option Reading) (t : Fraction) → Allows o t → Vouches δ (reading_slope o) (some (in_units t)) (some (in_units t))
reading_keeps δ o t h = record { point = holds o h; inside = holds o h; middle = holds o h; sloped = (whole (pos 0), (record { le = tt }, record { le = tt }), no_slope δ (in_units t)) }
  where
    holds : (o : Option Reading) → Allows o t → Holds (reading_pair o) (some (in_units t))
    holds None h = tt
    holds (Some r) h = units_between r.lo r.hi t h

-- ---- what a rule's function answers
pub follows : (rule : Slope) (Law : Slope → Type 0) (r : Slope) → Law rule → r ≡ rule → Follows rule Law r
follows rule Law r l e = record { same = e; law = subst Law (sym e) l }

pub neg_follows : (i r : Slope) → r ≡ neg_slope i → Follows (neg_slope i) (Law1 (each negated) i) r
neg_follows i r = follows (neg_slope i) (Law1 (each negated) i) r (neg_keeps i)

pub abs_follows : (i r : Slope) → r ≡ abs_slope i → Follows (abs_slope i) (Law1 (each absolute) i) r
abs_follows i r = follows (abs_slope i) (Law1 (each absolute) i) r (abs_keeps i)

pub add_follows : (i j r : Slope) → r ≡ add_slope i j → Follows (add_slope i j) (Law2 (both plus) i j) r
add_follows i j r = follows (add_slope i j) (Law2 (both plus) i j) r (add_keeps i j)

pub sub_follows : (i j r : Slope) → r ≡ sub_slope i j → Follows (sub_slope i j) (Law2 (both minus) i j) r
sub_follows i j r = follows (sub_slope i j) (Law2 (both minus) i j) r (sub_keeps i j)

pub mul_follows : (i j r : Slope) → r ≡ mul_slope i j → Follows (mul_slope i j) (Law2 (both times) i j) r
mul_follows i j r = follows (mul_slope i j) (Law2 (both times) i j) r (mul_keeps i j)

pub div_follows : (i j r : Slope) → r ≡ div_slope i j → Follows (div_slope i j) (Law2 quotient i j) r
div_follows i j r = follows (div_slope i j) (Law2 quotient i j) r (div_keeps i j)

pub max_follows : (i j r : Slope) → r ≡ max_slope i j → Follows (max_slope i j) (Law2 (both larger) i j) r
max_follows i j r = follows (max_slope i j) (Law2 (both larger) i j) r (max_keeps i j)

pub chi_follows : (i j k r : Slope) → r ≡ chi_slope i j k → Follows (chi_slope i j k) (Law3 choice i j k) r
chi_follows i j k r = follows (chi_slope i j k) (Law3 choice i j k) r (chi_keeps i j k)
