-- `call` names the call of each kind; its slot fits sixteen bits.
-- Assumes nothing.
use mathlib.Core.Path.{refl, sym, ap, subst}
use mathlib.Core.List.{[], ◌∷◌, ◌++◌}
use native.Mathlib.Omega.{arith}
use Rattle.layout.specs.Layout.{Within}
use Rattle.road.specs.Fields.{piece_table, receiver_table, wall_table, bits_by}
use Rattle.daily.specs.Daily.{daily_bits}
use Rattle.request.specs.Kinds.{kind_bits, receiver_slot_bits, source_slot_bits, wall_slot_bits, kind_at, layout_of, call_in}
use Rattle.request.proofs.Laws.{slot_there, slot_fits, part_there, part_fits, table_fits}
use Rattle.kinds.specs.declared.Kind.{Kind}
use Rattle.kinds.specs.Kind.{number_of}
use Rattle.kinds.proofs.Laws.{kind_listed}
use Rattle.kinds.proofs.call.Goals as goal

pub bounds-v-1 : goal.bounds-v-1
bounds-v-1 c =
    slot_there (number_of c.args.kind) c.args.v.now (kind_listed c.args.kind) c.requires

pub overflow_cast-slot : goal.overflow_cast-slot
overflow_cast-slot c =
    omega (arith, slot_fits (number_of c.args.kind) c.args.v.now (kind_listed c.args.kind) c.requires)

pub receiver_of-requires : goal.receiver_of-requires
unfolding kind_at
receiver_of-requires c =
    table_fits receiver_table (kind_bits ∷ receiver_slot_bits ∷ []) (5 ∷ []) c.args.v.now refl (subst (λ (k : Kind). Within (layout_of (number_of k)) c.args.v.now) c.in-PlaceReceiver.is c.requires)

pub piece_of-p-requires : goal.piece_of-p-requires
unfolding kind_at
piece_of-p-requires c =
    table_fits piece_table (kind_bits ∷ source_slot_bits ∷ []) (daily_bits ++ (2 ∷ [])) c.args.v.now refl (subst (λ (k : Kind). Within (layout_of (number_of k)) c.args.v.now) c.in-PlaceDaily.is c.requires)

pub slice_bounds-daily_of-end : goal.slice_bounds-daily_of-end
unfolding kind_at
slice_bounds-daily_of-end c =
    part_there (kind_bits ∷ source_slot_bits ∷ bits_by piece_table) daily_bits (2 ∷ []) c.args.v.now (subst (λ (k : Kind). Within (layout_of (number_of k)) c.args.v.now) c.in-PlaceDaily.is c.requires)

pub daily_of-d-requires : goal.daily_of-d-requires
unfolding kind_at
daily_of-d-requires c =
    part_fits (kind_bits ∷ source_slot_bits ∷ bits_by piece_table) daily_bits (2 ∷ []) c.args.v.now (subst (λ (k : Kind). Within (layout_of (number_of k)) c.args.v.now) c.in-PlaceDaily.is c.requires)

pub wall_of-requires : goal.wall_of-requires
unfolding kind_at
wall_of-requires c =
    table_fits wall_table (kind_bits ∷ wall_slot_bits ∷ []) (3 ∷ []) c.args.v.now refl (subst (λ (k : Kind). Within (layout_of (number_of k)) c.args.v.now) c.in-PlaceWall.is c.requires)

pub returns-in-WithdrawReceiver : goal.returns-in-WithdrawReceiver
unfolding kind_at
returns-in-WithdrawReceiver c = ap (λ (k : Kind). call_in (number_of k) c.args.v.now) (sym c.in-WithdrawReceiver.is)
