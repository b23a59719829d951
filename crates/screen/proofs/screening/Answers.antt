-- `screening` cuts the section at a wall that counts. Assumes nothing.
use mathlib.Core.Path.{◌≡◌, sym, ap, ◌∙◌, subst}
use native.Mathlib.Omega.{arith}
use Rattle.screen.specs.declared.plan.Ratio.{Ratio}
use Rattle.screen.specs.Plan.{fraction_of}
use Rattle.screen.specs.Section.{Upright, section_of, screening, screening_of}
use Rattle.screen.proofs.Lines.{fraction_proper, fraction_most}
use Rattle.screen.proofs.Heights.{section_upright}
use Rattle.screen.proofs.screening.Goals as goal

pub cut-c-requires : goal.cut-c-requires
cut-c-requires c =
    let a = c.args in
    let h = c.requires.fits in
    let e = c.requires.q0_value.1 in
    let proper = fraction_proper a.p a.r a.w h.3 in
    let most = fraction_most a.p a.r a.w h.2 h.3 (omega (arith, c.requires.q0_value.0, e.rises, e.near)) in
    (e, rw c.fraction-f.ensures proper.below, rw c.fraction-f.ensures (omega (arith, proper.below)), h.2.low)

pub screening-requires : goal.screening-requires
screening-requires c =
    let a = c.args in
    let h = c.requires.fits in
    let e : c.cut-c.result ≡ section_of a.q0 a.q (fraction_of a.p a.r a.w) a.height a.w.height =
    c.cut-c.ensures ∙ ap (λ (f : Ratio). section_of a.q0 a.q f a.height a.w.height) c.fraction-f.ensures in
    subst Upright (sym e)
    (section_upright a.q0 a.q (fraction_of a.p a.r a.w) a.height a.w.height c.requires.q0_value.1 (fraction_proper a.p a.r a.w h.3).below h.2.low)

pub returns : goal.returns
unfolding screening_of
returns c =
    let a = c.args in
    c.screening.ensures ∙ ap screening (c.cut-c.ensures ∙ ap (λ (f : Ratio). section_of a.q0 a.q f a.height a.w.height) c.fraction-f.ensures)
