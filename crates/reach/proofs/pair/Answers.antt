-- `pair` hears all of the road as one piece, and cuts one that is told by its ends. Assumes nothing.
use mathlib.Core.Path.{◌≡◌, sym, ap, ◌∙◌, subst, subst⁻¹}
use mathlib.Core.List.{List, [], ◌∷◌}
use Rattle.course.specs.declared.Course.{Course}
use Rattle.course.specs.declared.Piece.{Piece}
use Rattle.course.specs.Course.{whole_of}
use Rattle.screen.specs.declared.Wall.{Wall}
use Rattle.road.specs.declared.Source.{Source}
use Rattle.road.specs.declared.Sent.{Sent}
use Rattle.road.specs.declared.Receiver.{Receiver}
use Rattle.road.specs.Reach.{length_term, pieces_for, shares_over, first_bar, any_of, unless_walls, unless_loud, unless_barred, share_of, pair_over, two_walls, pair_of}
use Rattle.road.specs.Inner.{sent_of, share_by, Moderate}
use Rattle.road.proofs.Fit.{FitSource, FitCourse, FitPiece, fit_source, fit_whole}
use Rattle.road.proofs.Sums.{moderate}
use Rattle.road.proofs.Pairs.{shares_by}
use Rattle.reach.proofs.pair.Goals as goal

-- ---- what the arguments tell: `sent` is what the source sends

whole : (s : Source) (sent : Sent) → sent ≡ sent_of s → sent.whole ≡ whole_of s.course
whole s sent e = ap (λ (x : Sent). x.whole) e

piece : (s : Source) (sent : Sent) → sent ≡ sent_of s → FitSource s → FitPiece sent.whole
piece s sent e f = subst⁻¹ FitPiece (whole s sent e) (fit_whole s.course f.course)

sounding : (s : Source) (sent : Sent) → sent ≡ sent_of s → FitSource s → Moderate sent.voices
sounding s sent e f = subst⁻¹ Moderate (ap (λ (x : Sent). x.voices) e) (moderate s f)

lengthened : (s : Source) (sent : Sent) → sent ≡ sent_of s → sent.length ≡ length_term sent.whole.length
lengthened s sent e = ap (λ (x : Sent). x.length) e ∙ sym (ap (λ (p : Piece). length_term p.length) (whole s sent e))

-- the pair of any pieces by the voices that were sent is that of the source
sent_by : (s : Source) (sent : Sent) (ws : List Wall) (r : Receiver) (ps : List Piece) → sent ≡ sent_of s → pieces_for r s.course ≡ ps
    → pair_over (share_by ws sent.voices r) (two_walls ws r) r ps ≡ pair_of ws s r
unfolding pair_of
sent_by s sent ws r ps e f =
    let two = any_of (two_walls ws r) ps in
    (λ i. unless_barred (first_bar r ps) (unless_walls two (unless_loud (shares_over (share_by ws (e i).voices r) ps))))
    ∙ (λ i. unless_barred (first_bar r ps) (unless_walls two (unless_loud (shares_by ws s r ps i))))
    ∙ sym (ap (pair_over (λ p i. share_of ws s p r i) (two_walls ws r) r) f)

-- and the course that was asked for is the source's
course : (s t : Source) (k : Course) → s ≡ t → s.course ≡ k → t.course ≡ k
course s t k e f = sym (ap (λ (x : Source). x.course) e) ∙ f

-- ---- the goals

pub alone-requires-clause-fits : goal.alone-requires-clause-fits
alone-requires-clause-fits c =
    let s = c.args.from.now in
    (sounding s c.sent-sent.result c.sent-sent.ensures (fit_source s c.source.ensures.1), c.requires, lengthened s c.sent-sent.result c.sent-sent.ensures)

pub alone-requires-clause-x_le_coordinate : goal.alone-requires-clause-x_le_coordinate
alone-requires-clause-x_le_coordinate c =
    let f = piece c.args.from.now c.sent-sent.result c.sent-sent.ensures (fit_source c.args.from.now c.source.ensures.1) in
    (f.x, f.y, f.some, f.short)

pub returns-in-Uncut : goal.returns-in-Uncut
returns-in-Uncut c =
    let s = c.args.from.now in
    let sent = c.sent-sent.result in
    let k = course c.source.result s _ c.source.ensures.0 c.in-Uncut.is in
    let w = whole s sent c.sent-sent.ensures in
    c.alone.ensures
    ∙ sent_by s sent c.args.walls.now c.args.r (sent.whole ∷ []) c.sent-sent.ensures
    (ap (pieces_for c.args.r) k ∙ sym (ap (λ (p : Piece). p ∷ []) (w ∙ ap whole_of k)))

pub along-requires-clause-fits : goal.along-requires-clause-fits
along-requires-clause-fits c =
    (sounding c.args.from.now c.sent-sent.result c.sent-sent.ensures (fit_source c.args.from.now c.source.ensures.1), c.requires)

pub along-requires-clause-mapped : goal.along-requires-clause-mapped
along-requires-clause-mapped c =
    let s = c.args.from.now in
    let k = course c.source.result s _ c.source.ensures.0 c.in-Between.is in
    let f = subst FitCourse k (fit_source s c.source.ensures.1).course in
    (f.mapped, whole s c.sent-sent.result c.sent-sent.ensures ∙ ap whole_of k, f.some, f.short)

pub returns-in-Between : goal.returns-in-Between
returns-in-Between c =
    let s = c.args.from.now in
    let k = course c.source.result s _ c.source.ensures.0 c.in-Between.is in
    c.along.ensures ∙ sent_by s c.sent-sent.result c.args.walls.now c.args.r _ c.sent-sent.ensures (ap (pieces_for c.args.r) k)
