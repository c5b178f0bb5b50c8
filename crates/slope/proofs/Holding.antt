-- The laws of the rules on enclosures, at the rules themselves.
use Rattle.std.proofs.Common.{refl}
use Rattle.exact.specs.Fraction.{plus, minus, negated, times, absolute, larger}
use Rattle.exact.specs.Value.{Value, each, both, quotient, choice}
use Rattle.interval.specs.declared.enclosures.Enclosure.{Enclosure}
use Rattle.interval.specs.Rules.{neg, add, sub, mul, div, abs, max, chi}
use Rattle.interval.specs.Meaning.{Holds, Law1, Law2}
use Rattle.interval.proofs.Laws.{neg_follows, add_follows, sub_follows, mul_follows, div_follows, abs_follows, max_follows, chi_follows}

pub neg_holds : (p : Enclosure) → Law1 (each negated) p (neg p)
neg_holds p = (neg_follows p (neg p) refl).law

pub abs_holds : (p : Enclosure) → Law1 (each absolute) p (abs p)
abs_holds p = (abs_follows p (abs p) refl).law

pub add_holds : (p q : Enclosure) → Law2 (both plus) p q (add p q)
add_holds p q = (add_follows p q (add p q) refl).law

pub sub_holds : (p q : Enclosure) → Law2 (both minus) p q (sub p q)
sub_holds p q = (sub_follows p q (sub p q) refl).law

pub mul_holds : (p q : Enclosure) → Law2 (both times) p q (mul p q)
mul_holds p q = (mul_follows p q (mul p q) refl).law

pub div_holds : (p q : Enclosure) → Law2 quotient p q (div p q)
div_holds p q = (div_follows p q (div p q) refl).law

pub max_holds : (p q : Enclosure) → Law2 (both larger) p q (max p q)
max_holds p q = (max_follows p q (max p q) refl).law

-- where all three hold their values
pub chi_holds : (s q r : Enclosure) (x y z : Value) → Holds s x → Holds q y → Holds r z → Holds (chi s q r) (choice x y z)
chi_holds s q r x y z h k l = (chi_follows s q r (chi s q r) refl).law x y z h (λ _ _ _. k) (λ _ _ _. l)
