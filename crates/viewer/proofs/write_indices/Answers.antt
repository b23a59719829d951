-- `write_indices` writes the four bytes, or none.
use Rattle.viewer.proofs.Laws.{not_written, all_written}
use Rattle.viewer.proofs.write_indices.Goals as goal

pub returns-then-out-ne-OUTPUT : goal.returns-then-out-ne-OUTPUT
returns-then-out-ne-OUTPUT c =
    not_written c.args.den c.args.night c.args.out.now _ c.if-out-ne-OUTPUT.true c.at_last.ensures

pub returns : goal.returns
returns c =
    rw (c.copy_from_slice.ensures.after, c.to_le_bytes.ensures, c.to_le_bytes-2.ensures, c.word_of.ensures, c.word_of-2.ensures)
    (all_written c.args.den c.args.night c.args.out.now _ c.if-out-ne-OUTPUT.false c.at_last-2.ensures)
