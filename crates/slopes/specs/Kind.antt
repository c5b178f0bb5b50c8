-- The slope kind: entries with slopes, with the rules on slopes.
use Rattle.interval.specs.declared.enclosures.Enclosure.TheVariants.{NoBounds}
use Rattle.slope.specs.declared.entries.Slope.{Slope}
use Rattle.slope.specs.Rules.{x_slope, constant_slope, reading_slope, neg_slope, abs_slope, add_slope, sub_slope, mul_slope, max_slope, chi_slope}
use Rattle.slope.specs.Meaning.{gap, Vouches}
use Rattle.codelist.specs.Kinds.{Rules, Vouching}

abbrev pub blank_slope : Slope
blank_slope = record { v = NoBounds; u = NoBounds; s = NoBounds }

abbrev pub slope_rules : Rules Slope
slope_rules = record {
  blank = blank_slope;
  x = x_slope;
  constant = constant_slope;
  reading = reading_slope;
  neg = neg_slope;
  abs = abs_slope;
  add = add_slope;
  sub = sub_slope;
  mul = mul_slope;
  max = max_slope;
  chi = chi_slope;
}

-- v holds the value at the point and at the middle, u that at the middle, and some slope in s leads from the middle to the point
abbrev pub slope_vouches : Vouching Slope
slope_vouches e c p v w = Vouches (gap c p) e v w
