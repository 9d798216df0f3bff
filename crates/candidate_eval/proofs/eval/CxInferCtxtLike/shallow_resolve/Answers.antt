use Rattle.std.proofs.Common.{refl}
use Rattle.candidate_eval.proofs.eval.CxInferCtxtLike.shallow_resolve.Goals as goal

pub returns-clause-tree : goal.returns-clause-tree
returns-clause-tree c = refl

pub returns-clause-sort : goal.returns-clause-sort
returns-clause-sort c = c.requires
