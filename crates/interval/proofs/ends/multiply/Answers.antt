use Rattle.std.proofs.Common.{◌≡◌, ◌^◌, pos, ◌*ℤ◌, w64, SFits, rules}
use Rattle.std.proofs.lemmas.Int.{to_z-of_z}
use Rattle.exact.specs.Rounding.{floor, ceiling}
use Rattle.interval.specs.Rules.{kept, least, greatest}
use Rattle.interval.proofs.Sizes.{least_of_size, greatest_of_size}
use Rattle.interval.proofs.ends.multiply.Goals as goal

pub down-lo-requires-clause-size : goal.down-lo-requires-clause-size
down-lo-requires-clause-size c =
    let f : SFits w64 c.least_of.result = search rules in
    let e : c.least_of.result ≡ least c.times-ad.result c.times-ae.result c.times-bd.result c.times-be.result = search rules in
    simp to_z-of_z (rw e (least_of_size c.times-ad.result c.times-ae.result c.times-bd.result c.times-be.result (2 ^ 62) c.times-ad.ensures.size c.times-ae.ensures.size c.times-bd.ensures.size c.times-be.ensures.size))

pub up-hi-requires-clause-size : goal.up-hi-requires-clause-size
up-hi-requires-clause-size c =
    let f : SFits w64 c.greatest_of.result = search rules in
    let e : c.greatest_of.result ≡ greatest c.times-ad.result c.times-ae.result c.times-bd.result c.times-be.result = search rules in
    simp to_z-of_z (rw e (greatest_of_size c.times-ad.result c.times-ae.result c.times-bd.result c.times-be.result (2 ^ 62) c.times-ad.ensures.size c.times-ae.ensures.size c.times-bd.ensures.size c.times-be.ensures.size))

pub returns : goal.returns
returns c =
    let ad : c.times-ad.result ≡ c.args.a *ℤ c.args.d = search rules in
    let ae : c.times-ae.result ≡ c.args.a *ℤ c.args.e = search rules in
    let bd : c.times-bd.result ≡ c.args.b *ℤ c.args.d = search rules in
    let be : c.times-be.result ≡ c.args.b *ℤ c.args.e = search rules in
    let lo : c.down-lo.result ≡ floor (least c.times-ad.result c.times-ae.result c.times-bd.result c.times-be.result) (pos 1000) = search rules in
    let hi : c.up-hi.result ≡ ceiling (greatest c.times-ad.result c.times-ae.result c.times-bd.result c.times-be.result) (pos 1000) = search rules in
    let k : c.keep.result ≡ kept c.down-lo.result c.up-hi.result = search rules in
    cc
