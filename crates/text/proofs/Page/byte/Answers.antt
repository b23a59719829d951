-- `byte` writes one byte.
use Rattle.std.proofs.Common.{◌+◌, ap}
use Rattle.text.proofs.Writing.{over_one}
use Rattle.text.proofs.Pages.{turned}
use Rattle.text.proofs.Page.byte.Goals as goal

pub returns : goal.returns
returns c = ap (turned c.args.self.now (c.args.self.now.at + 1)) (over_one c.args.self.now.at c.args.b c.args.self.now.out.now c.requires)
