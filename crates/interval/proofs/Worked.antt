-- Worked values of the rules, by computing on the definitions.
use Rattle.std.proofs.Common.{◌≡◌, pos, negsuc, refl}
use Rattle.interval.specs.declared.enclosures.Enclosure.TheVariants.{NoBounds, Bounds}
use Rattle.interval.specs.Rules.{add, mul, div, abs, hull, chi}

product_of_counts : mul (Bounds (pos 1) (pos 1)) (Bounds (pos 1) (pos 1)) ≡ Bounds (pos 0) (pos 1)
unfolding mul
product_of_counts = refl

product_below_zero : mul (Bounds (negsuc 0) (negsuc 0)) (Bounds (pos 1) (pos 1)) ≡ Bounds (negsuc 0) (pos 0)
unfolding mul
product_below_zero = refl

one_third : div (Bounds (pos 1000) (pos 1000)) (Bounds (pos 3000) (pos 3000)) ≡ Bounds (pos 333) (pos 334)
unfolding div
one_third = refl

by_a_negative : div (Bounds (pos 1000) (pos 2000)) (Bounds (negsuc 2999) (negsuc 1999)) ≡ Bounds (negsuc 999) (negsuc 332)
unfolding div
by_a_negative = refl

by_zero_to_five : div (Bounds (pos 1000) (pos 1000)) (Bounds (pos 0) (pos 5)) ≡ NoBounds
unfolding div
by_zero_to_five = refl

absolute_across_zero : abs (Bounds (negsuc 4) (pos 3)) ≡ Bounds (pos 0) (pos 5)
unfolding abs
absolute_across_zero = refl

branch_from_zero : chi (Bounds (pos 0) (pos 2)) (Bounds (pos 5) (pos 6)) (Bounds (pos 8) (pos 9)) ≡ Bounds (pos 5) (pos 9)
unfolding chi hull
branch_from_zero = refl

branch_above_zero : chi (Bounds (pos 1) (pos 2)) (Bounds (pos 5) (pos 6)) (Bounds (pos 8) (pos 9)) ≡ Bounds (pos 8) (pos 9)
unfolding chi
branch_above_zero = refl

branch_reads_one : chi (Bounds (negsuc 4) (negsuc 0)) (Bounds (pos 5) (pos 6)) NoBounds ≡ Bounds (pos 5) (pos 6)
unfolding chi
branch_reads_one = refl

sum_beyond_the_limit : add (Bounds (pos 1_500_000_000) (pos 1_500_000_000)) (Bounds (pos 600_000_000) (pos 600_000_000)) ≡ NoBounds
unfolding add
sum_beyond_the_limit = refl

sum_at_the_limit : add (Bounds (pos 2_000_000_000) (pos 2_000_000_000)) (Bounds (pos 0) (pos 0)) ≡ Bounds (pos 2_000_000_000) (pos 2_000_000_000)
unfolding add
sum_at_the_limit = refl
