use Rattle.std.proofs.Common.{◌≡◌, true, false, rules}
use Rattle.interval.specs.Rules.{quotients, spans_zero}
use Rattle.interval.proofs.ends.divide.Goals as goal
use Rattle.interval.proofs.ends.divide.Goals.{then-spans_zero-via-then-spans_zero, then-spans_zero-via-else-spans_zero+then-spans_zero-2}

pub returns : goal.returns
returns c =
    let s : spans_zero c.args.d c.args.e ≡ false = search rules in
    let t : spans_zero c.args.e c.args.d ≡ false = search rules in
    let q : c.quotients_of.result ≡ quotients c.args.a c.args.b c.args.d c.args.e = search rules in
    rw (s, t) q

pub returns-then-spans_zero : goal.returns-then-spans_zero
returns-then-spans_zero c = elim c.then-spans_zero.branch [
  | then-spans_zero-via-then-spans_zero w ↦ let s : spans_zero c.args.d c.args.e ≡ true = search rules in rw s
  | then-spans_zero-via-else-spans_zero+then-spans_zero-2 w ↦
      let s : spans_zero c.args.d c.args.e ≡ false = search rules in
      let t : spans_zero c.args.e c.args.d ≡ true = search rules in
      rw (s, t)
]
