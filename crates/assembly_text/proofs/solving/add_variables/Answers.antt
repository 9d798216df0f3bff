use Rattle.std.proofs.Common.{◌≡◌, ℕ, suc, ◌+◌, arith, refl, ap, ◌∙◌}
use Rattle.ir_trees.proofs.Growth.Kept.{grows-refl, grows-trans}
use Rattle.ir_trees.specs.declared.ir.heads.VariableSort.TheVariants.{General}
use Rattle.candidate_eval.specs.declared.eval.variable.VariableKind.TheVariants.{Term}
use Rattle.candidate_rounds.specs.Evaluators.Known.{state, with_root}
use Rattle.assembly_text.specs.Solving.{with_roots}
use Rattle.assembly_text.proofs.solving.add_variables.Goals as goal

one-more : (n : ℕ) → suc n ≡ n + 1
one-more n = omega arith

pub loop-made-init : goal.loop-made-init
loop-made-init c = (grows-refl _, refl, refl)

pub returns-in_err-new_root_var-clause-grows : goal.returns-in_err-new_root_var-clause-grows
returns-in_err-new_root_var-clause-grows c = grows-trans _ _ _ c.loop-made.invariant.0 c.new_root_var.ensures.grows

pub returns-in_err-new_root_var-clause-fixed : goal.returns-in_err-new_root_var-clause-fixed
returns-in_err-new_root_var-clause-fixed c = c.new_root_var.ensures.fixed ∙ c.loop-made.invariant.1

pub loop-made-preserved : goal.loop-made-preserved
loop-made-preserved c = (
  grows-trans _ _ _ c.loop-made.invariant.0 c.new_root_var.ensures.grows,
  c.new_root_var.ensures.fixed ∙ c.loop-made.invariant.1,
  c.in_ok-new_root_var.ensures.made ∙ ap (λ S. with_root S (Term General)) c.loop-made.invariant.2 ∙ ap (λ n. with_roots n (state c.args.rounds.now)) (one-more c.loop-made._made),
)
