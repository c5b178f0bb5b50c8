-- What a clear enclosure and its sign say of the value.
use Rattle.std.proofs.Common.{◌≡◌, Bool, true, false, cond, ◌||◌, ℤ, pos, negsuc, ◌≤ℤ◌, Option, Some, None, is_some, sym, refl, ◌∙◌, inl, inr, arith}
use lib.Signed.{le_z}
use borrow.Author.Differences.{ints}
use Rattle.std.specs.Option.{IfSome}
use Rattle.exact.specs.Fraction.{Fraction}
use Rattle.exact.specs.Value.{Value, none, some}
use Rattle.interval.specs.declared.enclosures.Enclosure.{Enclosure}
use Rattle.interval.specs.declared.enclosures.Enclosure.TheVariants.{NoBounds, Bounds}
use Rattle.interval.specs.declared.enclosures.Sign.{Sign}
use Rattle.interval.specs.declared.enclosures.Sign.TheVariants.{Plus, Minus}
use Rattle.interval.specs.Rules.{clear, sign_of}
use Rattle.interval.specs.Meaning.{Holds, CountAbove, CountBelow, Shows, Away}
use Rattle.interval.proofs.OneEnd.{cond_if, Low, High, low_less, high_more}

count_above : (lo : ℤ) (v : Fraction) → le_z (pos 1) lo ≡ true → Low lo v → CountAbove v
count_above lo v e h = let l : pos 1 ≤ℤ lo = omega (arith, ints) in let k = low_less lo (pos 1) v l h in omega (arith, ints)

count_below : (hi : ℤ) (v : Fraction) → le_z hi (negsuc 0) ≡ true → High hi v → CountBelow v
count_below hi v e h = let l : hi ≤ℤ negsuc 0 = omega (arith, ints) in let k = high_more hi (negsuc 0) v l h in omega (arith, ints)

pub sign_shows : (e : Enclosure) (x : Value) → Holds e x → IfSome (sign_of e) (λ s. Shows s x)
unfolding sign_of
sign_shows NoBounds x h = tt
sign_shows (Bounds lo hi) none h = absurd h
sign_shows (Bounds lo hi) (some v) h = cond_if (λ o. IfSome o (λ s. Shows s (some v))) (le_z (pos 1) lo) (Some Plus) (cond (le_z hi (negsuc 0)) (Some Minus) None)
    (λ e. count_above lo v e h.0)
    (λ _. cond_if (λ o. IfSome o (λ s. Shows s (some v))) (le_z hi (negsuc 0)) (Some Minus) None (λ e. count_below hi v e h.1) (λ _. tt))

either_known : (a b : Bool) → (a || b) ≡ is_some (cond a (Some Plus) (cond b (Some Minus) None))
either_known true b = refl
either_known false true = refl
either_known false false = refl

pub clear_known : (e : Enclosure) → clear e ≡ is_some (sign_of e)
unfolding clear sign_of
clear_known NoBounds = refl
clear_known (Bounds lo hi) = either_known (le_z (pos 1) lo) (le_z hi (negsuc 0))

known_away : (o : Option Sign) (x : Value) → is_some o ≡ true → IfSome o (λ s. Shows s x) → Away x
known_away (Some Plus) none e h = h
known_away (Some Plus) (some v) e h = inl h
known_away (Some Minus) none e h = h
known_away (Some Minus) (some v) e h = inr h
known_away None x e h = absurd (mathlib.Core.Bool.true≢false (sym e))

pub record Told (e : Enclosure) (r : Bool) : Type 0 where
  pub rule : r ≡ clear e
  pub law : r ≡ true → (x : Value) → Holds e x → Away x
  pub signed : r ≡ is_some (sign_of e)

pub told : (e : Enclosure) (r : Bool) → r ≡ is_some (sign_of e) → Told e r
told e r p = record {
  rule = p ∙ sym (clear_known e);
  law = λ t x h. known_away (sign_of e) x (sym p ∙ t) (sign_shows e x h);
  signed = p;
}
