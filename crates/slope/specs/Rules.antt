-- The rules that compute with slopes: v over the cell, u at its middle, s the slope. Every part, and every result on the way, follows
-- the rules on enclosures.
use Rattle.std.specs.Prelude.{cond, ℤ, pos, Option, int_le, int_lt}
use Rattle.interval.specs.declared.enclosures.Enclosure.{Enclosure}
use Rattle.interval.specs.declared.enclosures.Enclosure.TheVariants.{NoBounds, Bounds}
use Rattle.interval.specs.declared.enclosures.Branch.{Branch}
use Rattle.interval.specs.declared.enclosures.Branch.TheVariants.{First, Second, Both, Neither}
use Rattle.interval.specs.Rules.{neg, add, sub, mul, div, abs, max, hull, common, branch, held, chi}
use Rattle.family.specs.declared.cells.Cell.{Cell}
use Rattle.family.specs.declared.readings.Reading.{Reading}
use Rattle.family.specs.Cells.{middle}
use Rattle.family.specs.Readings.{reading_pair}
use Rattle.slope.specs.declared.entries.Slope.{Slope}

-- the pair from z to z
abbrev pub at : ℤ → Enclosure
at z = held (Bounds z z)

-- the point: its slope is 1
abbrev pub x_slope : Cell → Slope
x_slope c = record { v = held (Bounds c.lo c.hi); u = at (middle c); s = at (pos 1000) }

-- what is the same at every point: the slope is 0, also where it has no bounds
abbrev pub level_slope : Enclosure → Slope
level_slope e = record { v = e; u = e; s = at (pos 0) }

-- a constant, and a temperature
abbrev pub constant_slope : ℤ → Slope
constant_slope k = level_slope (at k)

abbrev pub reading_slope : Option Reading → Slope
reading_slope o = level_slope (reading_pair o)

abbrev pub neg_slope : Slope → Slope
neg_slope i = record { v = neg i.v; u = neg i.u; s = neg i.s }

abbrev pub add_slope : Slope → Slope → Slope
add_slope i j = record { v = add i.v j.v; u = add i.u j.u; s = add i.s j.s }

abbrev pub sub_slope : Slope → Slope → Slope
sub_slope i j = record { v = sub i.v j.v; u = sub i.u j.u; s = sub i.s j.s }

-- v of i times s of j, plus s of i times u of j
abbrev pub mul_slope : Slope → Slope → Slope
mul_slope i j = record { v = mul i.v j.v; u = mul i.u j.u; s = add (mul i.v j.s) (mul i.s j.u) }

-- (s of i − own u times s of j) divided by v of j
abbrev pub div_slope : Slope → Slope → Slope
div_slope i j = record { v = div i.v j.v; u = div i.u j.u; s = div (sub i.s (mul (div i.u j.u) j.s)) j.v }

-- the slope of the line whose v lies strictly above the other's, else the pair holding both; lacking where a v is
abbrev pub larger_slope : Enclosure → Enclosure → Enclosure → Enclosure → Enclosure
larger_slope NoBounds w s t = NoBounds
larger_slope (Bounds a b) NoBounds s t = NoBounds
larger_slope (Bounds a b) (Bounds d e) s t = cond (int_lt e a) s (cond (int_lt b d) t (hull s t))

abbrev pub max_slope : Slope → Slope → Slope
max_slope i j = record { v = max i.v j.v; u = max i.u j.u; s = larger_slope i.v j.v i.s j.s }

-- s if v ≥ 0, −s if v ≤ 0, else the pair holding both; lacking where v is
abbrev pub bent_slope : Enclosure → Enclosure → Enclosure
bent_slope NoBounds s = NoBounds
bent_slope (Bounds a b) s = cond (int_le (pos 0) a) s (cond (int_le b (pos 0)) (neg s) (hull s (neg s)))

abbrev pub abs_slope : Slope → Slope
abs_slope i = record { v = abs i.v; u = abs i.u; s = bent_slope i.v i.s }

-- the slope of the line that v of s chooses; lacking if none
abbrev pub slope_by : Branch → Enclosure → Enclosure → Enclosure
slope_by First q r = q
slope_by Second q r = r
slope_by Both q r = NoBounds
slope_by Neither q r = NoBounds

abbrev pub chosen_slope : Enclosure → Enclosure → Enclosure → Enclosure
chosen_slope v q r = slope_by (branch v) q r

abbrev pub chi_slope : Slope → Slope → Slope → Slope
chi_slope s q r = record { v = chi s.v q.v r.v; u = chi s.u q.u r.u; s = chosen_slope s.v q.s r.s }

-- ---- the answer over a cell [a,b] with the middle c
-- [a − c, b − c]
abbrev pub reach : Cell → Enclosure
reach c = sub (held (Bounds c.lo c.hi)) (at (middle c))

-- the part common to v and w; v alone where w is lacking
abbrev pub joined : Enclosure → Enclosure → Enclosure
joined v NoBounds = v
joined v (Bounds d e) = common v (Bounds d e)

-- v and u + s·[a − c, b − c]
abbrev pub answer_of : Cell → Slope → Enclosure
answer_of c i = joined i.v (add i.u (mul i.s (reach c)))
