use Rattle.assembly_text.proofs.Giving.{given_declared}
use Rattle.assembly_text.proofs.asking.Asking.given.Goals as goal

pub returns : goal.returns
returns c = (given_declared c.args.self.now.scope.maker _ c.args.self.now.given_is_declared).fits
