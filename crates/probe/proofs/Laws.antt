-- The kinds that the code does not name are asks.
-- Assumes nothing.
use Prim.Native.Nat.{ℕ, zero, suc}
use mathlib.Core.Path.{◌≡◌, refl}
use Rattle.course.specs.declared.Piece.{Piece}
use Rattle.screen.specs.declared.Wall.{Wall}
use Rattle.road.specs.declared.Receiver.{Receiver}
use Rattle.daily.specs.declared.Daily.{Daily}
use Rattle.request.specs.declared.Request.TheVariants.{Ask}
use Rattle.probe.specs.Raw.{call_by}

pub ask_else : (k slot : ℕ) (r : Receiver) (p : Piece) (f : Daily) (w : Wall) → (k ≡ 1 → ⊥) → (k ≡ 2 → ⊥) → (k ≡ 3 → ⊥) → (k ≡ 4 → ⊥) → (k ≡ 6 → ⊥) → (k ≡ 7 → ⊥) → (k ≡ 8 → ⊥) → (k ≡ 9 → ⊥)
    → call_by k slot r p f w ≡ Ask slot
unfolding call_by
ask_else zero slot r p f w a b c d e g h i = refl
ask_else (suc zero) slot r p f w a b c d e g h i = absurd (a refl)
ask_else (suc (suc zero)) slot r p f w a b c d e g h i = absurd (b refl)
ask_else (suc (suc (suc zero))) slot r p f w a b c d e g h i = absurd (c refl)
ask_else (suc (suc (suc (suc zero)))) slot r p f w a b c d e g h i = absurd (d refl)
ask_else (suc (suc (suc (suc (suc zero))))) slot r p f w a b c d e g h i = refl
ask_else (suc (suc (suc (suc (suc (suc zero)))))) slot r p f w a b c d e g h i = absurd (e refl)
ask_else (suc (suc (suc (suc (suc (suc (suc zero))))))) slot r p f w a b c d e g h i = absurd (g refl)
ask_else (suc (suc (suc (suc (suc (suc (suc (suc zero)))))))) slot r p f w a b c d e g h i = absurd (h refl)
ask_else (suc (suc (suc (suc (suc (suc (suc (suc (suc zero))))))))) slot r p f w a b c d e g h i = absurd (i refl)
ask_else (suc (suc (suc (suc (suc (suc (suc (suc (suc (suc k)))))))))) slot r p f w a b c d e g h i = refl
