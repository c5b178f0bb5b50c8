-- Ring identities of fractions, up to ≃, by the solver of the integers: a fraction is a numerator and a denominator, two variables.
use Rattle.std.proofs.Common.{[], ◌∷◌, pos}
use Rattle.exact.proofs.Ring.{Ex, var, ◌⊕◌, ◌⊗◌, ⊖◌, ◌≐◌, Same, Holds, solve}
use Rattle.exact.specs.Fraction.{Fraction}

abbrev pub Fx : Type 0
Fx = Ex × Ex

infixl 6 ◌⊞◌ ◌⊟◌
infixl 7 ◌⊠◌
infix 4 ◌≑◌
abbrev pub ◌⊞◌ : Fx → Fx → Fx
a ⊞ b = (a.0 ⊗ b.1 ⊕ b.0 ⊗ a.1, a.1 ⊗ b.1)

abbrev pub ◌⊟◌ : Fx → Fx → Fx
a ⊟ b = (a.0 ⊗ b.1 ⊕ (⊖ b.0) ⊗ a.1, a.1 ⊗ b.1)

abbrev pub ◌⊠◌ : Fx → Fx → Fx
a ⊠ b = (a.0 ⊗ b.0, a.1 ⊗ b.1)

abbrev pub opp : Fx → Fx
opp a = (⊖ a.0, a.1)

abbrev pub ◌≑◌ : Fx → Fx → Ex × Ex
a ≑ b = a.0 ⊗ b.1 ≐ b.0 ⊗ a.1

abbrev v0 : Fx
v0 = (var 0, var 1)

abbrev v1 : Fx
v1 = (var 2, var 3)

abbrev v2 : Fx
v2 = (var 4, var 5)

abbrev v3 : Fx
v3 = (var 6, var 7)

abbrev v4 : Fx
v4 = (var 8, var 9)

pub fring2 : (u v : Fraction) (f : Fx → Fx → Ex × Ex) → Same (f v0 v1) → Holds (u.num ∷ pos u.den ∷ v.num ∷ pos v.den ∷ []) (f v0 v1)
fring2 u v f e = solve (u.num ∷ pos u.den ∷ v.num ∷ pos v.den ∷ []) (f v0 v1) e

pub fring3 : (u v w : Fraction) (f : Fx → Fx → Fx → Ex × Ex) → Same (f v0 v1 v2) → Holds (u.num ∷ pos u.den ∷ v.num ∷ pos v.den ∷ w.num ∷ pos w.den ∷ []) (f v0 v1 v2)
fring3 u v w f e = solve (u.num ∷ pos u.den ∷ v.num ∷ pos v.den ∷ w.num ∷ pos w.den ∷ []) (f v0 v1 v2) e

pub fring4 : (u v w x : Fraction) (f : Fx → Fx → Fx → Fx → Ex × Ex) → Same (f v0 v1 v2 v3)
    → Holds (u.num ∷ pos u.den ∷ v.num ∷ pos v.den ∷ w.num ∷ pos w.den ∷ x.num ∷ pos x.den ∷ []) (f v0 v1 v2 v3)
fring4 u v w x f e = solve (u.num ∷ pos u.den ∷ v.num ∷ pos v.den ∷ w.num ∷ pos w.den ∷ x.num ∷ pos x.den ∷ []) (f v0 v1 v2 v3) e

pub fring5 : (u v w x y : Fraction) (f : Fx → Fx → Fx → Fx → Fx → Ex × Ex) → Same (f v0 v1 v2 v3 v4)
    → Holds (u.num ∷ pos u.den ∷ v.num ∷ pos v.den ∷ w.num ∷ pos w.den ∷ x.num ∷ pos x.den ∷ y.num ∷ pos y.den ∷ []) (f v0 v1 v2 v3 v4)
fring5 u v w x y f e = solve (u.num ∷ pos u.den ∷ v.num ∷ pos v.den ∷ w.num ∷ pos w.den ∷ x.num ∷ pos x.den ∷ y.num ∷ pos y.den ∷ []) (f v0 v1 v2 v3 v4) e
