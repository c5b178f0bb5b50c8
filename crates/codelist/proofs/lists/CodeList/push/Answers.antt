use Rattle.std.proofs.Common.{ap, ◌∙◌, is_ok}
use Rattle.codelist.specs.Lines.{valid}
use Rattle.codelist.specs.Lists.{lines_of}
use Rattle.codelist.proofs.Listing.{still_valid}
use Rattle.codelist.proofs.lists.CodeList.push.Goals as goal

pub invariant_of-self-clause-sound : goal.invariant_of-self-clause-sound
invariant_of-self-clause-sound c =
    let s = c.args.self.now in
    ap (valid 0) c.push.ensures.after ∙ still_valid (lines_of s) c.args.line c.len.result (is_ok c.push.result) s.sound c.len.ensures c.in_ok-fits.ensures
