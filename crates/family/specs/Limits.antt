-- When the ends of a reading may stand: in order and within the limit.
use Rattle.std.specs.Prelude.{Bool, ◌&&◌, ℤ, neg_ℤ, int_le}
use Rattle.interval.specs.Rules.{limit}

abbrev pub believable : ℤ → ℤ → Bool
believable lo hi = int_le (neg_ℤ limit) lo && (int_le lo hi && int_le hi limit)
