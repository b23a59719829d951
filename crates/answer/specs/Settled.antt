-- A contract settles its outcome: two outcomes that meet it are the same to a caller (DECISIONS, 'What a contract settles').
-- `Settles` takes a function's own contract as Rattle reads it, so that no line about it can speak of another one.
use Rattle.std.specs.Prelude.{◌≡◌}

-- outcomes that meet a contract are the same in what a caller sees of them
abbrev pub Agree : {O S : Type 0} → (O → S) → (O → Type 0) → Type 0
Agree {O} seen Meets = (x y : O) → Meets x → Meets y → seen x ≡ seen y

-- `Post`, the reading of an `ensures`, is of lifetimes, arguments, the result and what the arguments are at exit
module _ {L : Type 0} {A R E S : L → Type 0} where
  abbrev pub Settles : ((l : L) → A l → R l → E l → S l) → ((l : L) → A l → R l → E l → Type 0) → Type 0
  Settles seen Post = (l : L) (a : A l) → Agree (λ (o : R l × E l). seen l a o.0 o.1) (λ (o : R l × E l). Post l a o.0 o.1)

-- where nothing is written, the result is all that a caller sees; else there is what it left beside it
module _ {L : Type 0} {A R E : L → Type 0} where
  abbrev pub SettlesResult : ((l : L) → A l → R l → E l → Type 0) → Type 0
  SettlesResult Post = Settles {S = R} (λ l a r e. r) Post

  abbrev pub SettlesBoth : {W : Type 0} → ((l : L) → A l → E l → W) → ((l : L) → A l → R l → E l → Type 0) → Type 0
  SettlesBoth {W} left Post = Settles {S = λ l. R l × W} (λ l a r e. (r, left l a e)) Post
