use Rattle.std.proofs.Common.{◌≡◌, pos, ◌*ℤ◌, ◌∙◌, rules}
use Rattle.exact.specs.Rounding.{floor, ceiling}
use Rattle.interval.specs.Rules.{kept, least, greatest}
use Rattle.interval.proofs.ends.quotients_of.Goals as goal

pub returns : goal.returns
returns c =
    let d = c.args.d in
    let e = c.args.e in
    let m : c.times-m.result ≡ pos 1000 *ℤ c.args.a = search rules in
    let n : c.times-n.result ≡ pos 1000 *ℤ c.args.b = search rules in
    let l1 : c.down.result ≡ floor c.times-m.result d = search rules in
    let l2 : c.down-2.result ≡ floor c.times-m.result e = search rules in
    let l3 : c.down-3.result ≡ floor c.times-n.result d = search rules in
    let l4 : c.down-4.result ≡ floor c.times-n.result e = search rules in
    let h1 : c.up.result ≡ ceiling c.times-m.result d = search rules in
    let h2 : c.up-2.result ≡ ceiling c.times-m.result e = search rules in
    let h3 : c.up-3.result ≡ ceiling c.times-n.result d = search rules in
    let h4 : c.up-4.result ≡ ceiling c.times-n.result e = search rules in
    let lo : c.least_of-lo.result ≡ least c.down.result c.down-2.result c.down-3.result c.down-4.result = search rules in
    let hi : c.greatest_of-hi.result ≡ greatest c.up.result c.up-2.result c.up-3.result c.up-4.result = search rules in
    let k : c.keep.result ≡ kept c.least_of-lo.result c.greatest_of-hi.result = search rules in
    k ∙ (λ i. kept (lo i) (hi i)) ∙ (λ i. kept (least (l1 i) (l2 i) (l3 i) (l4 i)) (greatest (h1 i) (h2 i) (h3 i) (h4 i)))
    ∙ (λ i. kept (least (floor (m i) d) (floor (m i) e) (floor (n i) d) (floor (n i) e)) (greatest (ceiling (m i) d) (ceiling (m i) e) (ceiling (n i) d) (ceiling (n i) e)))
