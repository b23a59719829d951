-- `send` puts a source's voices, its whole and its length's term together. Assumes nothing.
use mathlib.Core.Path.{subst⁻¹}
use Prim.Native.Nat.{◌≤◌}
use Rattle.course.specs.declared.Piece.{Piece}
use Rattle.road.specs.Limits.{longest}
use Rattle.road.proofs.Fit.{fit_source, drawn, fit_whole}
use Rattle.emission.proofs.send.Goals as goal

pub whole_of-whole-requires : goal.whole_of-whole-requires
whole_of-whole-requires c = drawn c.args.s.course (fit_source c.args.s c.requires).course

pub length-length-requires : goal.length-length-requires
length-length-requires c =
    let f = fit_whole c.args.s.course (fit_source c.args.s c.requires).course in
    let g = subst⁻¹ (λ (p : Piece). (1 ≤ p.length) × (p.length ≤ longest)) c.whole_of-whole.ensures (f.some, f.short) in
    (g.0, g.1)
