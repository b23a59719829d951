-- `ngoretaiwhe_clear` clears as the book does. Assumes nothing.
use Rattle.viewer.proofs.Laws.{of_clear}
use Rattle.viewer.proofs.ngoretaiwhe_clear.Goals as goal

pub returns : goal.returns
returns c = of_clear _ _ _ _ c.clear-answer.ensures c.of_answer.ensures
