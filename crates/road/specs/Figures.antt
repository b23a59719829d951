-- The figures worked by hand that are proved: those on Z and lv, on roads and on noise walls, as one table.
-- Each row is a number as the definitions have it, beside the number on paper.
use Rattle.std.specs.Prelude.{ℕ, ◌-◌, List, [], ◌∷◌, ◌++◌}
use Rattle.level.specs.Figures.{Figure, ◌is◌, levels}
use Rattle.course.specs.declared.Piece.{Piece}
use Rattle.course.specs.declared.Course.TheVariants.{Uncut}
use Rattle.screen.specs.Figures.{screens}
use Rattle.road.specs.declared.Term.{Term}
use Rattle.road.specs.declared.Traffic.{Traffic}
use Rattle.road.specs.declared.Source.{Source}
use Rattle.road.specs.declared.Receiver.{Receiver}
use Rattle.road.specs.Emission.{car_level, truck_level, truck_speed, speed_term, gradient_term}
use Rattle.road.specs.Reach.{walls_term, share_level}

-- the 25 m case, with the source at x
abbrev pub counted : ℕ → Traffic
counted m = record { m = m; p = 0 }

abbrev pub piece : ℕ → Piece
piece x = record { x = x; y = 100000; length = 1000 }

abbrev pub road : ℕ → Source
road x = record {
  course = Uncut (piece x);
  lanes = 0;
  car = 100;
  truck = 80;
  surface = 1;
  gradient = 0;
  reflection = 0;
  walls = 0;
  height = 0;
  spacing = 0;
  traffic = counted 1000000 ∷ counted 1000000 ∷ counted 100000 ∷ [];
}

abbrev pub home : Receiver
home = record { x = 100000; y = 100000; height = 400 }

-- a level above 0 and a level below 0
abbrev above : Term → ℕ
above t = t.up - t.down

abbrev below : Term → ℕ
below t = t.down - t.up

unfoldable pub roads : List Figure
roads =
    (car_level 100 is 3724) ∷ (car_level 50 is 3071) ∷ (truck_level 80 is 4688) ∷ (truck_level (truck_speed 100) is 4688)
    ∷ (below (speed_term 100 80 0) is 6) ∷ (below (speed_term 100 80 200) is 7)
    ∷ (above (gradient_term 50) is 0) ∷ (above (gradient_term 51) is 6) ∷ (above (gradient_term 120) is 420)
    ∷ (above (walls_term 1 600 1200) is 200) ∷ (above (walls_term 1 1200 1200) is 320) ∷ (above (walls_term 2 1200 1200) is 160)
    ∷ (above (share_level [] (road 102500) (piece 102500) home 0) is 6028) ∷ (above (share_level [] (road 102500) (piece 102500) home 1) is 6028)
    ∷ (above (share_level [] (road 102500) (piece 102500) home 2) is 5028)
    ∷ (above (share_level [] (road 110000) (piece 110000) home 0) is 4293) ∷ (above (share_level [] (road 110000) (piece 110000) home 1) is 4348)
    ∷ (above (share_level [] (road 110000) (piece 110000) home 2) is 3403) ∷ []

unfoldable pub figures : List Figure
figures = levels ++ roads ++ screens
