use Rattle.std.proofs.Common.{◌≡◌, pos, unwrap_or, sym, ap, ◌∙◌, subst, arith, w32, w64, SFits}
use borrow.Author.Differences.{ints}
use Rattle.std.proofs.lemmas.Int.{to_z-of_z}
use Rattle.exact.specs.Rounding.{floor, ceiling}
use Rattle.interval.proofs.Sizes.{floor_answered, ceiling_answered}
use Rattle.knots.proofs.Fits.{Between, floor_bounded, ceiling_bounded}
use Rattle.knots.proofs.tables.heights.round_both.Goals as goal

-- what the two quotients are
floor_is : (c : goal.After-unwrap_or-hi) → c.unwrap_or-lo.result ≡ floor c.args.n c.args.d
floor_is c =
    let f = c.ranges.n in
    let g = c.ranges.d in
    let z : c.args.d ≡ pos 0 → ⊥ = λ e. let p = c.requires.positive in omega (arith, ints) in
    c.unwrap_or-lo.ensures ∙ ap (λ o. unwrap_or o (pos 0)) (simp to_z-of_z at c.floor_div.ensures.value) ∙ floor_answered c.args.n c.args.d c.requires.size z

ceiling_is : (c : goal.After-unwrap_or-hi) → c.unwrap_or-hi.result ≡ ceiling c.args.n c.args.d
ceiling_is c =
    let f = c.ranges.n in
    let g = c.ranges.d in
    let z : c.args.d ≡ pos 0 → ⊥ = λ e. let p = c.requires.positive in omega (arith, ints) in
    c.unwrap_or-hi.ensures ∙ ap (λ o. unwrap_or o (pos 0)) (simp to_z-of_z at c.ceil_div.ensures.value) ∙ ceiling_answered c.args.n c.args.d c.requires.size z

lo_between : (c : goal.After-unwrap_or-hi) → Between c.unwrap_or-lo.result
lo_between c = subst Between (sym (floor_is c)) (floor_bounded c.args.n c.args.d c.requires.positive c.requires.low c.requires.high)

hi_between : (c : goal.After-unwrap_or-hi) → Between c.unwrap_or-hi.result
hi_between c = subst Between (sym (ceiling_is c)) (ceiling_bounded c.args.n c.args.d c.requires.positive c.requires.low c.requires.high)

pub overflow_cast-result : goal.overflow_cast-result
overflow_cast-result c = subst (SFits w32) (sym (to_z-of_z w64 c.unwrap_or-lo.result (lo_between c).fits_wide)) (lo_between c).fits

pub overflow_cast-result-2 : goal.overflow_cast-result-2
overflow_cast-result-2 c = subst (SFits w32) (sym (to_z-of_z w64 c.unwrap_or-hi.result (hi_between c).fits_wide)) (hi_between c).fits

pub returns : goal.returns
returns c =
    let a = (lo_between c).fits_wide in
    let b = (hi_between c).fits_wide in
    let d = (lo_between c).fits in
    let e = (hi_between c).fits in
    record { lo = simp to_z-of_z (floor_is c); hi = simp to_z-of_z (ceiling_is c) }
