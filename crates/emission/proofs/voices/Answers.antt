-- `voices` works out the three periods from what is the same for all of them. Assumes nothing.
-- pace and steady terms that are the source's are small
use mathlib.Core.Path.{◌≡◌, ap₂, ◌∙◌}
use Prim.Native.Nat.{ℕ}
use mathlib.Core.List.{[], ◌∷◌}
use Rattle.road.specs.declared.Source.{Source}
use Rattle.road.specs.declared.Term.{Term}
use Rattle.road.specs.Results.{Voice}
use Rattle.road.specs.declared.Pace.{Pace}
use Rattle.road.specs.Term.{period}
use Rattle.road.specs.Inner.{pace_of, steady_term, voice_by, voice_of, voices_of}
use Rattle.road.proofs.Fit.{fit_source}
use Rattle.road.proofs.Sums.{Small, Paced, paced, small_steady, voice_is}
use Rattle.emission.proofs.voices.Goals as goal

pace_small : (s : Source) (p : Pace) → p ≡ pace_of s → Paced p
pace_small s p e = rw e (paced s)

steady_small : (s : Source) (t : Term) → t ≡ steady_term s → Small 20000 t
steady_small s t e = rw e (small_steady s)

-- and the voice by them is the source's
voiced : (s : Source) (i : ℕ) (p : Pace) (t : Term) (v : Voice) → p ≡ pace_of s → t ≡ steady_term s → v ≡ voice_by s.lanes p t (period s i) → v ≡ voice_of s i
voiced s i p t v e f g = g ∙ ap₂ (λ (a : Pace) (b : Term). voice_by s.lanes a b (period s i)) e f ∙ voice_is s i

pub voice-requires : goal.voice-requires
voice-requires c =
    let f = fit_source c.args.s c.requires in
    let p = pace_small c.args.s _ c.pace_of-pace.ensures in
    let t = steady_small c.args.s _ c.steady_of-steady.ensures in
    record { fits = (p.car, p.gain, f.day.few, f.day.part); up_bound = (t.up, t.down) }

pub voice-requires-2 : goal.voice-requires-2
voice-requires-2 c =
    let f = fit_source c.args.s c.requires in
    let p = pace_small c.args.s _ c.pace_of-pace.ensures in
    let t = steady_small c.args.s _ c.steady_of-steady.ensures in
    record { fits = (p.car, p.gain, f.evening.few, f.evening.part); up_bound = (t.up, t.down) }

pub voice-requires-3 : goal.voice-requires-3
voice-requires-3 c =
    let f = fit_source c.args.s c.requires in
    let p = pace_small c.args.s _ c.pace_of-pace.ensures in
    let t = steady_small c.args.s _ c.steady_of-steady.ensures in
    record { fits = (p.car, p.gain, f.night.few, f.night.part); up_bound = (t.up, t.down) }

pub returns : goal.returns
unfolding voices_of
returns c =
    let day = voiced c.args.s 0 _ _ _ c.pace_of-pace.ensures c.steady_of-steady.ensures c.voice.ensures in
    let evening = voiced c.args.s 1 _ _ _ c.pace_of-pace.ensures c.steady_of-steady.ensures c.voice-2.ensures in
    let night = voiced c.args.s 2 _ _ _ c.pace_of-pace.ensures c.steady_of-steady.ensures c.voice-3.ensures in
    λ i. day i ∷ evening i ∷ night i ∷ []
