-- The numbers on the way to a height fit 64 bits, and the height fits 32.
use Rattle.std.proofs.Common.{◌≡◌, ◌*◌, ◌^◌, ◌≤◌, true, ◌&&◌, ℤ, pos, negsuc, ◌+ℤ◌, ◌-ℤ◌, ◌*ℤ◌, neg_ℤ, nat_abs, ◌≤ℤ◌, ◌<ℤ◌, sym, refl, ap, ◌∙◌, arith, w32, w64, SFits, to_z, of_z}
use lib.Signed.{le_z}
use mir.Syntax.{Width}
use borrow.Author.Differences.{ints}
use Rattle.std.proofs.lemmas.Int.{to_z-of_z}
use Rattle.std.proofs.lemmas.Bool.{and_parts}
use Rattle.exact.specs.Fraction.{Fraction, whole, ◌≼◌}
use Rattle.exact.specs.Rounding.{floor, ceiling}
use Rattle.exact.proofs.Integers.{linear, ≤ℤ-mul}
use Rattle.exact.proofs.Ring.{lit, ◌⊕◌, ◌⊗◌, ◌⊝◌, ◌≐◌, ring3, ring6}
use Rattle.interval.specs.Rules.{limit, within}
use Rattle.family.specs.Cells.{span}
use Rattle.knots.specs.declared.knots.Knot.{Knot}
use Rattle.knots.specs.declared.extents.Extent.{Extent}
use Rattle.knots.specs.Knots.{ranged}
use Rattle.knots.specs.Values.{stretch, line}
use Rattle.knots.specs.Extremes.{rounded}
use Rattle.knots.proofs.Lines.{stretch_is}
use Rattle.knots.proofs.Rounded.{floor_between, ceiling_between}

abbrev again : Width → ℤ → ℤ
again w z = to_z w (of_z w z)

-- ---- a quotient between the limits fits 32 bits
pub record Between (q : ℤ) : Type 0 where
  pub fits : SFits w32 q
  pub fits_wide : SFits w64 q

between : (q : ℤ) → neg_ℤ limit ≤ℤ q → q ≤ℤ limit → Between q
between q a b = record { fits = omega (arith, ints); fits_wide = omega (arith, ints) }

module _ (n : ℤ) where
  bounded : (d : ℤ) → pos 0 <ℤ d → (neg_ℤ limit *ℤ d) ≤ℤ n → n ≤ℤ (limit *ℤ d) → Between (floor n d) × Between (ceiling n d)
  bounded (pos m) h low high =
      let u : Fraction = record { num = n; den = m; positive = omega (arith, ints) } in
      let a : whole (neg_ℤ limit) ≼ u = omega (arith, ints) in
      let b : u ≼ whole limit = omega (arith, ints) in
      let f = floor_between (neg_ℤ limit) limit u a b in
      let g = ceiling_between (neg_ℤ limit) limit u a b in
      (between (floor n (pos m)) f.0 f.1, between (ceiling n (pos m)) g.0 g.1)
  bounded (negsuc m) h low high = absurd h.lt

  module _ (d : ℤ) (h : pos 0 <ℤ d) (low : (neg_ℤ limit *ℤ d) ≤ℤ n) (high : n ≤ℤ (limit *ℤ d)) where
    pub floor_bounded : Between (floor n d)
    floor_bounded = (bounded d h low high).0

    pub ceiling_bounded : Between (ceiling n d)
    ceiling_bounded = (bounded d h low high).1

-- ---- the way to a height: y·after + z·before over before + after, the line's height at x, with before = x − k.x and after = l.x − x
pub record Ends (k : Knot) : Type 0 where
  pub x_low : neg_ℤ span ≤ℤ k.x
  pub x_high : k.x ≤ℤ span
  pub y_low : neg_ℤ limit ≤ℤ k.y
  pub y_high : k.y ≤ℤ limit

pub ends_of : (k : Knot) → ranged k ≡ true → Ends k
ends_of k e =
    let h = and_parts (le_z (neg_ℤ span) k.x && le_z k.x span) (within k.y) e in
    let p = and_parts (le_z (neg_ℤ span) k.x) (le_z k.x span) h.0 in
    let q = and_parts (le_z (neg_ℤ limit) k.y) (le_z k.y limit) h.1 in
    let a = p.0 in let b = p.1 in let c = q.0 in let d = q.1 in
    record { x_low = omega (arith, ints); x_high = omega (arith, ints); y_low = omega (arith, ints); y_high = omega (arith, ints) }

-- with p = before, q = after and the two products
record OnTheWay (p q a b : ℤ) : Type 0 where
  pub sum : SFits w64 (a +ℤ b)
  pub whole_way : SFits w64 (p +ℤ q)
  pub size : nat_abs (a +ℤ b) ≤ 2 ^ 62
  pub positive : pos 0 <ℤ (p +ℤ q)
  pub low : (neg_ℤ limit *ℤ (p +ℤ q)) ≤ℤ (a +ℤ b)
  pub high : (a +ℤ b) ≤ℤ (limit *ℤ (p +ℤ q))

module _ (k l : Knot) (x : ℤ) (rk : ranged k ≡ true) (rl : ranged l ≡ true) (h : k.x <ℤ x) (i : x ≤ℤ l.x) where
  -- as the code has them, where a number goes to its bits and back
  x_fits : SFits w32 x
  x_fits = let a = ends_of k rk in let b = ends_of l rl in omega (arith, ints)

  knot_fits : (m : Knot) → ranged m ≡ true → SFits w32 m.x × SFits w32 m.y
  knot_fits m r = let a = ends_of m r in (omega (arith, ints), omega (arith, ints))

  before_is : (p : ℤ) → p ≡ again w32 x -ℤ again w32 k.x → p ≡ x -ℤ k.x
  before_is p e = let f = x_fits in let g = (knot_fits k rk).0 in simp to_z-of_z at e

  after_is : (q : ℤ) → q ≡ again w32 l.x -ℤ again w32 x → q ≡ l.x -ℤ x
  after_is q e = let f = x_fits in let g = (knot_fits l rl).0 in simp to_z-of_z at e

  times_is : (m : Knot) → ranged m ≡ true → (a q : ℤ) → SFits w64 q → a ≡ again w32 m.y *ℤ again w64 q → a ≡ m.y *ℤ q
  times_is m r a q f e = let g = (knot_fits m r).1 in simp to_z-of_z at e

  pub before_size : (p : ℤ) → p ≡ again w32 x -ℤ again w32 k.x → nat_abs p ≤ 2 ^ 21
  before_size p e = let o = before_is p e in let a = ends_of k rk in let b = ends_of l rl in omega (arith, ints)

  pub after_size : (q : ℤ) → q ≡ again w32 l.x -ℤ again w32 x → nat_abs q ≤ 2 ^ 21
  after_size q e = let o = after_is q e in let a = ends_of k rk in let b = ends_of l rl in omega (arith, ints)

  on_the_way : (p q a b : ℤ) → p ≡ x -ℤ k.x → q ≡ l.x -ℤ x → a ≡ k.y *ℤ q → b ≡ l.y *ℤ p → nat_abs a ≤ 2 ^ 52 → nat_abs b ≤ 2 ^ 52 → OnTheWay p q a b
  on_the_way p q a b ep eq ea eb sa sb =
      let u = ends_of k rk in
      let v = ends_of l rl in
      let np : pos 0 <ℤ p = omega (arith, ints) in
      let nq : pos 0 ≤ℤ q = omega (arith, ints) in
      let sp : nat_abs p ≤ 2 ^ 21 = omega (arith, ints) in
      let sq : nat_abs q ≤ 2 ^ 21 = omega (arith, ints) in
      sizes k.y l.y p q a b ea eb sa sb np nq sp sq u.y_low u.y_high v.y_low v.y_high
    where
      sizes : (y z p q a b : ℤ) → a ≡ y *ℤ q → b ≡ z *ℤ p → nat_abs a ≤ 2 ^ 52 → nat_abs b ≤ 2 ^ 52 → pos 0 <ℤ p → pos 0 ≤ℤ q → nat_abs p ≤ 2 ^ 21 → nat_abs q ≤ 2 ^ 21
          → neg_ℤ limit ≤ℤ y → y ≤ℤ limit → neg_ℤ limit ≤ℤ z → z ≤ℤ limit → OnTheWay p q a b
      sizes y z p q a b ea eb sa sb np nq sp sq yl yh zl zh =
          let l₁ = ≤ℤ-mul (neg_ℤ limit) y q yl nq in
          let l₂ = ≤ℤ-mul (neg_ℤ limit) z p zl (omega (arith, linear)) in
          let h₁ = ≤ℤ-mul y limit q yh nq in
          let h₂ = ≤ℤ-mul z limit p zh (omega (arith, linear)) in
          let e = ring3 (neg_ℤ limit) p q (λ B P Q. B ⊗ (P ⊕ Q) ≐ B ⊗ Q ⊕ B ⊗ P) refl in
          let f = ring3 limit p q (λ B P Q. B ⊗ (P ⊕ Q) ≐ B ⊗ Q ⊕ B ⊗ P) refl in
          record {
            sum = (small a b sa sb).0;
            whole_way = near p q sp sq;
            size = (small a b sa sb).1;
            positive = omega (arith, linear);
            low = omega (arith, linear);
            high = omega (arith, linear);
          }
        where
          near : (p q : ℤ) → nat_abs p ≤ 2 ^ 21 → nat_abs q ≤ 2 ^ 21 → SFits w64 (p +ℤ q)
          near p q h k = omega (arith, ints)

          small : (a b : ℤ) → nat_abs a ≤ 2 ^ 52 → nat_abs b ≤ 2 ^ 52 → SFits w64 (a +ℤ b) × (nat_abs (a +ℤ b) ≤ 2 ^ 62)
          small a b h k = (omega (arith, ints), omega (arith, ints))

-- ---- and it is the line's height
module _ (k l : Knot) (x : ℤ) (up : k.x <ℤ l.x) where
  abbrev way : ℤ
  way = (x -ℤ k.x) +ℤ (l.x -ℤ x)

  way_is : pos (stretch k l * 1) ≡ way
  way_is = ap (λ (z : ℤ). z *ℤ pos 1) (stretch_is k l up) ∙ ring3 k.x l.x x (λ K L X. (L ⊝ K) ⊗ lit (pos 1) ≐ (X ⊝ K) ⊕ (L ⊝ X)) refl

  number_is : (line k l (whole x)).num ≡ k.y *ℤ (l.x -ℤ x) +ℤ l.y *ℤ (x -ℤ k.x)
  number_is = ap (λ (z : ℤ). k.y *ℤ (z *ℤ pos 1) +ℤ (l.y -ℤ k.y) *ℤ (x -ℤ k.x *ℤ pos 1)) (stretch_is k l up)
      ∙ ring6 k.x l.x x k.y l.y (pos 1) (λ K L X Y Z O. Y ⊗ ((L ⊝ K) ⊗ lit (pos 1)) ⊕ (Z ⊝ Y) ⊗ (X ⊝ K ⊗ lit (pos 1)) ≐ Y ⊗ (L ⊝ X) ⊕ Z ⊗ (X ⊝ K)) refl

  line-rounded : (e : Extent) (p q a b : ℤ) → p ≡ x -ℤ k.x → q ≡ l.x -ℤ x → a ≡ k.y *ℤ q → b ≡ l.y *ℤ p → e.lo ≡ floor (a +ℤ b) (p +ℤ q) → e.hi ≡ ceiling (a +ℤ b) (p +ℤ q)
      → e ≡ rounded (line k l (whole x)) (line k l (whole x))
  line-rounded e p q a b ep eq ea eb lo hi =
      let d : p +ℤ q ≡ pos (stretch k l * 1) = (λ i. ep i +ℤ eq i) ∙ sym way_is in
      let n : a +ℤ b ≡ (line k l (whole x)).num = (λ i. ea i +ℤ eb i) ∙ (λ i. k.y *ℤ eq i +ℤ l.y *ℤ ep i) ∙ sym number_is in
      λ i. record { lo = (lo ∙ (λ j. floor (n j) (d j))) i; hi = (hi ∙ (λ j. ceiling (n j) (d j))) i }

-- ---- all of it as the code has it
-- the sum n of the two products, the whole way d, and the extent e that rounds n/d
pub record Walked (k l : Knot) (x p q a b : ℤ) : Type 0 where
  pub sum_fits : SFits w64 (again w64 a +ℤ again w64 b)
  pub way_fits : SFits w64 (again w64 p +ℤ again w64 q)
  pub size : nat_abs (again w64 (again w64 a +ℤ again w64 b)) ≤ 2 ^ 62
  pub positive : pos 0 <ℤ again w64 (again w64 p +ℤ again w64 q)
  pub low : (neg_ℤ limit *ℤ again w64 (again w64 p +ℤ again w64 q)) ≤ℤ again w64 (again w64 a +ℤ again w64 b)
  pub high : again w64 (again w64 a +ℤ again w64 b) ≤ℤ (limit *ℤ again w64 (again w64 p +ℤ again w64 q))
  pub is_line : (e : Extent) → e.lo ≡ floor (again w64 (again w64 a +ℤ again w64 b)) (again w64 (again w64 p +ℤ again w64 q)) → e.hi ≡ ceiling (again w64 (again w64 a +ℤ again w64 b)) (again w64 (again w64 p +ℤ again w64 q))
      → e ≡ rounded (line k l (whole x)) (line k l (whole x))

module _ (k l : Knot) (x : ℤ) (rk : ranged k ≡ true) (rl : ranged l ≡ true) (h : k.x <ℤ x) (i : x ≤ℤ l.x) (p q a b : ℤ) (fp : SFits w64 p) (fq : SFits w64 q) (fa : SFits w64 a) (fb : SFits w64 b)
    (ep : p ≡ again w32 x -ℤ again w32 k.x) (eq : q ≡ again w32 l.x -ℤ again w32 x) (ea : a ≡ again w32 k.y *ℤ again w64 q) (eb : b ≡ again w32 l.y *ℤ again w64 p) (sa : nat_abs a ≤ 2 ^ 52) (sb : nat_abs b ≤ 2 ^ 52) where
  before : p ≡ x -ℤ k.x
  before = before_is k l x rk rl h i p ep

  after : q ≡ l.x -ℤ x
  after = after_is k l x rk rl h i q eq

  first : a ≡ k.y *ℤ q
  first = times_is k l x rk rl h i k rk a q fq ea

  second : b ≡ l.y *ℤ p
  second = times_is k l x rk rl h i l rl b p fp eb

  pub walked : Walked k l x p q a b
  walked =
      let w = on_the_way k l x rk rl h i p q a b before after first second sa sb in
      let fn = w.sum in
      let fd = w.whole_way in
      let n : again w64 (again w64 a +ℤ again w64 b) ≡ a +ℤ b = simp to_z-of_z in
      let d : again w64 (again w64 p +ℤ again w64 q) ≡ p +ℤ q = simp to_z-of_z in
      record {
        sum_fits = simp to_z-of_z fn;
        way_fits = simp to_z-of_z fd;
        size = simp to_z-of_z w.size;
        positive = simp to_z-of_z w.positive;
        low = simp to_z-of_z w.low;
        high = simp to_z-of_z w.high;
        is_line = λ e lo hi. line-rounded k l x (omega (arith, linear)) e p q a b before after first second (lo ∙ (λ j. floor (n j) (d j))) (hi ∙ (λ j. ceiling (n j) (d j)));
      }
