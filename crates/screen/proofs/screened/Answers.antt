-- `screened` has a wall that counts where it screens. Assumes nothing.
use mathlib.Core.Path.{◌≡◌, sym, ap, ◌∙◌}
use native.Mathlib.Omega.{arith}
use Rattle.std.specs.Prelude.{Some}
use Rattle.screen.specs.declared.Met.TheVariants.{One}
use Rattle.screen.specs.Screen.{met_of, loss_by, loss_of}
use Rattle.screen.proofs.Lists.{one_chosen, loss_most}
use Rattle.screen.proofs.screened.Goals as goal

pub screening-requires-clause-fits : goal.screening-requires-clause-fits
screening-requires-clause-fits c =
    let e : met_of c.args.p c.args.r c.args.walls.now ≡ One c.in-One.w = sym c.meet.ensures.0 ∙ c.in-One.is in
    let w = one_chosen c.args.p c.args.r c.args.walls.now c.in-One.w c.meet.ensures.1 e in
    (c.requires.fits.0, c.requires.fits.1, w.stands, w.counted)

pub returns-in-Nothing : goal.returns-in-Nothing
unfolding loss_of
returns-in-Nothing c =
    (sym (ap (loss_by c.args.p c.args.r c.args.height c.args.q0 c.args.q) (sym c.meet.ensures.0 ∙ c.in-Nothing.is)), omega arith)

pub returns-in-One : goal.returns-in-One
unfolding loss_of
returns-in-One c =
    let a = c.args in
    let e : Some c.screening.result ≡ loss_of a.p a.r a.height a.q0 a.q a.walls.now =
    ap Some c.screening.ensures ∙ sym (ap (loss_by a.p a.r a.height a.q0 a.q) (sym c.meet.ensures.0 ∙ c.in-One.is)) in
    (e, loss_most a.p a.r a.height a.q0 a.q a.walls.now c.screening.result c.meet.ensures.1 c.requires.q0_value.1 (sym e))

pub returns-in-Several : goal.returns-in-Several
unfolding loss_of
returns-in-Several c =
    (sym (ap (loss_by c.args.p c.args.r c.args.height c.args.q0 c.args.q) (sym c.meet.ensures.0 ∙ c.in-Several.is)), tt)
