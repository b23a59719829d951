-- A receiver's account (METHOD 1): three energy sums, to which a source's three shares are added or from which they
-- are taken.
use Rattle.std.specs.Prelude.{◌+◌, ◌-◌, Bool, ◌&&◌, leb}
use Rattle.level.specs.Level.{top}
use Rattle.road.specs.declared.Shares.{Shares}
use Rattle.account.specs.declared.Account.{Account}

-- no sum is above it
abbrev pub sound : Account → Bool
sound a = leb a.day top && leb a.evening top && leb a.night top

-- the shares added
abbrev pub plus_of : Account → Shares → Account
plus_of a s = record { day = a.day + s.day; evening = a.evening + s.evening; night = a.night + s.night }

-- the shares taken off
abbrev pub minus_of : Account → Shares → Account
minus_of a s = record { day = a.day - s.day; evening = a.evening - s.evening; night = a.night - s.night }

-- no share is above its sum
abbrev pub covers : Account → Shares → Bool
covers a s = leb s.day a.day && leb s.evening a.evening && leb s.night a.night

-- the shares lift no sum above the most it may be
abbrev pub room : Account → Shares → Bool
room a s = sound (plus_of a s)

-- an account before any share
abbrev pub nothing : Account
nothing = record { day = 0; evening = 0; night = 0 }
