-- `write` puts the sheet on a page from the front on.
-- Assumes nothing.
use Rattle.text.proofs.Pages.{as_written}
use Rattle.longhand.proofs.sheet.write.Goals as goal

pub returns : goal.returns
returns c = as_written _ _ _ c.put_sheet.ensures
