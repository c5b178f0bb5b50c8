-- (x − 2)(x + 2) over [1000, 2000] by slopes, by computing on the definitions.
use Rattle.std.proofs.Common.{◌≡◌, [], pos, negsuc, refl}
use Rattle.interval.specs.declared.enclosures.Enclosure.TheVariants.{Bounds}
use Rattle.interval.specs.Rules.{add, sub, mul, common}
use Rattle.codelist.proofs.Worked.{cell, factors}
use Rattle.slopes.specs.Family.{last_slope, slope_enclosure}

factors_entry : last_slope cell [] factors ≡ record { v = Bounds (negsuc 3999) (pos 0); u = Bounds (negsuc 1749) (negsuc 1749); s = Bounds (pos 2500) (pos 3500) }
unfolding add sub mul
factors_entry = refl

factors_enclosed : slope_enclosure cell [] factors ≡ Bounds (negsuc 3499) (pos 0)
unfolding add sub mul common
factors_enclosed = refl
