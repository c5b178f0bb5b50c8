-- The law of the interval kind, from the laws of the rules on enclosures.
use Rattle.std.specs.Prelude.{Some, None, Option, refl}
use Rattle.std.proofs.Common.{arith}
use Rattle.std.proofs.lemmas.Int.{ints}
use Rattle.exact.specs.Fraction.{Fraction, whole, in_units, plus, minus, negated, times, absolute, larger}
use Rattle.exact.specs.Value.{Value, some, each, both, quotient}
use Rattle.interval.specs.declared.enclosures.Enclosure.{Enclosure}
use Rattle.interval.specs.Meaning.{Holds, Law1, Law2}
use Rattle.interval.specs.Rules.{neg, add, sub, mul, div, abs, max, chi}
use Rattle.interval.proofs.Laws.{kept_holds, neg_follows, add_follows, sub_follows, mul_follows, div_follows, abs_follows, max_follows, chi_follows}
use Rattle.family.specs.declared.cells.Cell.{Cell}
use Rattle.family.specs.declared.readings.Reading.{Reading}
use Rattle.family.specs.Cells.{middle}
use Rattle.family.proofs.Inside.{units_between, middle-inside}
use Rattle.family.specs.Readings.{reading_pair, Allows}
use Rattle.codelist.specs.Kinds.{KindLaw, DivideLaw}
use Rattle.codelist.specs.Intervals.{pair_rules, pair_vouches}

-- what a rule keeps of one value, it keeps of the values at the point and at the middle
one : (f : Value → Value) (e r : Enclosure) → Law1 f e r → (v w : Value) → Holds e v × Holds e w → Holds r (f v) × Holds r (f w)
one f e r law v w h = (law v h.0, law w h.1)

two : (f : Value → Value → Value) (e g r : Enclosure) → Law2 f e g r → (v w v' w' : Value) → Holds e v × Holds e w → Holds g v' × Holds g w' → Holds r (f v v') × Holds r (f w w')
two f e g r law v w v' w' h k = (law v v' h.0 k.0, law w w' h.1 k.1)

pub pair_law : KindLaw pair_rules pair_vouches
pair_law = record {
  blank = λ c p. (tt, tt);
  x = λ c p there inside. (kept_holds c.lo c.hi _ (units_between c.lo c.hi p inside), kept_holds c.lo c.hi _ (units_between c.lo c.hi (whole (middle c)) (middle-inside c there)));
  constant = λ c p v. let h = kept_holds v v (some (in_units (whole v))) (units_between v v (whole v) (omega (arith, ints), omega (arith, ints))) in (h, h);
  reading = reading;
  neg = λ c p e. one (each negated) e (neg e) (neg_follows e (neg e) refl).law;
  abs = λ c p e. one (each absolute) e (abs e) (abs_follows e (abs e) refl).law;
  add = λ c p e g. two (both plus) e g (add e g) (add_follows e g (add e g) refl).law;
  sub = λ c p e g. two (both minus) e g (sub e g) (sub_follows e g (sub e g) refl).law;
  mul = λ c p e g. two (both times) e g (mul e g) (mul_follows e g (mul e g) refl).law;
  max = λ c p e g. two (both larger) e g (max e g) (max_follows e g (max e g) refl).law;
  chi = λ c p s q e v w v' w' v'' w'' h k m. ((chi_follows s q e (chi s q e) refl).law v v' v'' h.0 (λ _ _ _. k.0) (λ _ _ _. m.0), (chi_follows s q e (chi s q e) refl).law w w' w'' h.1 (λ _ _ _. k.1) (λ _ _ _. m.1));
}
  where
    reading : (c : Cell) (p : Fraction) (o : Option Reading) (t : Fraction) → Allows o t → pair_vouches (reading_pair o) c p (some (in_units t)) (some (in_units t))
    reading c p None t h = (tt, tt)
    reading c p (Some r) t h = let b = units_between r.lo r.hi t h in (b, b)

pub pair_division : DivideLaw div pair_vouches
pair_division = record { div = λ c p e g. two quotient e g (div e g) (div_follows e g (div e g) refl).law }
