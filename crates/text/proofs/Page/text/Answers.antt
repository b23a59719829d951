-- `text` writes its text at the place that the page is written up to.
use Rattle.std.proofs.Common.{refl}
use Rattle.text.proofs.Pages.{lent}
use Rattle.text.proofs.Page.text.Goals as goal

pub returns : goal.returns
returns c = rw c.copy_from_slice.ensures.after (lent c.args.self.now c.args.text.now _ refl)
