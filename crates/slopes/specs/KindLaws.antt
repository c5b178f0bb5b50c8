-- The law of the slope kind, from the laws of the rules on slopes.
use Rattle.slope.specs.Rules.{div_slope}
use Rattle.slope.specs.Meaning.{gap}
use Rattle.slope.proofs.Keeps.{x_keeps, constant_keeps, reading_keeps, neg_keeps, abs_keeps, add_keeps, sub_keeps, mul_keeps, div_keeps, max_keeps, chi_keeps}
use Rattle.codelist.specs.Kinds.{KindLaw, DivideLaw}
use Rattle.slopes.specs.Kind.{slope_rules, slope_vouches}

pub slopes_law : KindLaw slope_rules slope_vouches
slopes_law = record {
  blank = λ c p. record { point = tt; inside = tt; middle = tt; sloped = tt };
  x = x_keeps;
  constant = λ c p v. constant_keeps (gap c p) v;
  reading = λ c p o t h. reading_keeps (gap c p) o t h;
  neg = λ c p e v w h. neg_keeps e (gap c p) v w h;
  abs = λ c p e v w h. abs_keeps e (gap c p) v w h;
  add = λ c p e f v w v' w' h k. add_keeps e f (gap c p) v w v' w' h k;
  sub = λ c p e f v w v' w' h k. sub_keeps e f (gap c p) v w v' w' h k;
  mul = λ c p e f v w v' w' h k. mul_keeps e f (gap c p) v w v' w' h k;
  max = λ c p e f v w v' w' h k. max_keeps e f (gap c p) v w v' w' h k;
  chi = λ c p s q e v w v' w' v'' w'' h k m. chi_keeps s q e (gap c p) v w v' w' v'' w'' h k m;
}

pub slopes_division : DivideLaw div_slope slope_vouches
slopes_division = record { div = λ c p e f v w v' w' h k. div_keeps e f (gap c p) v w v' w' h k }
