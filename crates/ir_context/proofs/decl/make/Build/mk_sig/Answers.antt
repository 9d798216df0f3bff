use Rattle.std.proofs.Common.{ap, refl}
use Rattle.std.proofs.lemmas.Result.{err_from_is_err_and}
use Rattle.ir_trees.specs.Syntax.Making.{IsOne}
use Rattle.ir_trees.specs.Syntax.Trees.{SignatureKind}
use Rattle.ir_trees.proofs.Growth.Making.{made-number, made-nothing}
use Rattle.ir_context.proofs.Growth.One.{number-one}
use Rattle.ir_context.proofs.decl.make.Build.mk_sig.Goals as goal

pub make-requires-clause-fits : goal.make-requires-clause-fits
make-requires-clause-fits g c = c.requires

pub make-requires-clause-takes : goal.make-requires-clause-takes
make-requires-clause-takes g c = λ _. tt

pub returns-in_err-make-clause-made : goal.returns-in_err-make-clause-made
returns-in_err-make-clause-made g c =
    let p = err_from_is_err_and c.from_residual.result c.from_residual.ensures.1 in
    rw (p.1, p.2) (made-nothing (λ n. record { 0 = n }) _ _ _ _ c.in_err-make.ensures.made)

pub returns-clause-made : goal.returns-clause-made
returns-clause-made g c = made-number (λ n. record { 0 = n }) _ _ _ _ c.in_ok-make.ensures.made

pub returns-clause-one : goal.returns-clause-one
unfolding IsOne
returns-clause-one g c = λ x i e. ap (λ n. record { 0 = n }) (number-one _ SignatureKind x.0 _ refl c.in_ok-make.ensures.distinct i c.in_ok-make.ensures.made.sort e)
