-- Each public function of the store settles its outcome: one line for each.
-- Assumes nothing.
use mathlib.Core.Path.{sym, ◌∙◌}
use Rattle.answer.specs.Settled.{Settles, SettlesResult}
use Rattle.answer.proofs.Settled.{settled, settled_too}
use Rattle.store.proofs

damaged_settled : SettlesResult proofs.damaged.Reads.Post
damaged_settled l a = settled _ _

wipe_settled : Settles (λ l a r e. e.0.now) proofs.wipe.Reads.Post
wipe_settled l a = settled _ _

-- of every party
read_settled : (T : _) (N : _) (L : _) (F : _) (C : _) (p : _) (d : _) (k : _) (e : _) → SettlesResult (proofs.party.read.Reads.Post T N L F C p d k e)
read_settled T N L F C p d k e l a = settled _ _

put_settled : (T : _) (N : _) (L : _) (F : _) (C : _) (p : _) (d : _) (k : _) (e : _)
    → Settles (λ l a r x. x.0.now) (proofs.party.put.Reads.Post T N L F C p d k e)
put_settled T N L F C p d k e l a = settled _ _

described_settled : (T : _) (N : _) (L : _) (F : _) (C : _) (p : _) (d : _) (k : _) (e : _) → SettlesResult (proofs.party.described.Reads.Post T N L F C p d k e)
described_settled T N L F C p d k e l a = settled _ _

-- of each party: where its slots are, who numbers describe, whether they are those of one that may stand, and the numbers of one
source_slots_settled : Settles (λ l a r e. r.now) proofs.sources.SourceSlottedNUMBERS.slots.Reads.Post
source_slots_settled l a x y p q i = record {
  begin = (p.0.0 ∙ sym q.0.0) i;
  count = (p.0.1 ∙ sym q.0.1) i;
  size = (p.1.0 ∙ sym q.1.0) i;
  widths = (p.1.1 ∙ sym q.1.1) i;
}

source_from_settled : SettlesResult proofs.sources.SourceSlottedNUMBERS.from_numbers.Reads.Post
source_from_settled l a = settled _ _

source_allowed_settled : SettlesResult proofs.sources.SourceSlottedNUMBERS.allowed.Reads.Post
source_allowed_settled l a = settled _ _

source_numbers_settled : SettlesResult proofs.sources.SourceSlottedNUMBERS.numbers.Reads.Post
source_numbers_settled l a = settled_too _ _ _

held_slots_settled : Settles (λ l a r e. r.now) proofs.receivers.HeldSlottedNUMBERS.slots.Reads.Post
held_slots_settled l a x y p q i = record {
  begin = (p.0.0 ∙ sym q.0.0) i;
  count = (p.0.1 ∙ sym q.0.1) i;
  size = (p.1.0 ∙ sym q.1.0) i;
  widths = (p.1.1 ∙ sym q.1.1) i;
}

held_from_settled : SettlesResult proofs.receivers.HeldSlottedNUMBERS.from_numbers.Reads.Post
held_from_settled l a = settled _ _

held_allowed_settled : SettlesResult proofs.receivers.HeldSlottedNUMBERS.allowed.Reads.Post
held_allowed_settled l a = settled _ _

held_numbers_settled : SettlesResult proofs.receivers.HeldSlottedNUMBERS.numbers.Reads.Post
held_numbers_settled l a = settled_too _ _ _

wall_slots_settled : Settles (λ l a r e. r.now) proofs.walls.WallSlottedNUMBERS.slots.Reads.Post
wall_slots_settled l a x y p q i = record {
  begin = (p.0.0 ∙ sym q.0.0) i;
  count = (p.0.1 ∙ sym q.0.1) i;
  size = (p.1.0 ∙ sym q.1.0) i;
  widths = (p.1.1 ∙ sym q.1.1) i;
}

wall_from_settled : SettlesResult proofs.walls.WallSlottedNUMBERS.from_numbers.Reads.Post
wall_from_settled l a = settled _ _

wall_allowed_settled : SettlesResult proofs.walls.WallSlottedNUMBERS.allowed.Reads.Post
wall_allowed_settled l a = settled _ _

wall_numbers_settled : SettlesResult proofs.walls.WallSlottedNUMBERS.numbers.Reads.Post
wall_numbers_settled l a = settled_too _ _ _
