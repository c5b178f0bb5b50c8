-- The interval kind: enclosures with the rules on enclosures.
use Rattle.interval.specs.declared.enclosures.Enclosure.{Enclosure}
use Rattle.interval.specs.declared.enclosures.Enclosure.TheVariants.{NoBounds, Bounds}
use Rattle.interval.specs.Rules.{neg, add, sub, mul, abs, max, chi, held}
use Rattle.interval.specs.Meaning.{Holds}
use Rattle.family.specs.Readings.{reading_pair}
use Rattle.codelist.specs.Kinds.{Rules, Vouching}

-- X is the cell, C v is [v,v]
abbrev pub pair_rules : Rules Enclosure
pair_rules = record {
  blank = NoBounds;
  x = λ c. held (Bounds c.lo c.hi);
  constant = λ v. held (Bounds v v);
  reading = reading_pair;
  neg = neg;
  abs = abs;
  add = add;
  sub = sub;
  mul = mul;
  max = max;
  chi = chi;
}

-- an enclosure vouches for the values that it holds
abbrev pub pair_vouches : Vouching Enclosure
pair_vouches e c p v w = Holds e v × Holds e w
