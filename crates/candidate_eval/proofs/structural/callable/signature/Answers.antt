use Rattle.std.proofs.Common.{refl}
use Rattle.candidate_eval.proofs.Builtins.Callables.{signature_read}
use Rattle.candidate_eval.proofs.structural.callable.signature.Goals as goal

pub returns-clause-callable : goal.returns-clause-callable
returns-clause-callable c = signature_read c.args.cx.now.trees c.args.sig c.sig-sig.result _ c.sig-sig.ensures.fits c.sig-sig.ensures.tree refl
