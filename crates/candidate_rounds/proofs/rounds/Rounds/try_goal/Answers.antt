use Rattle.std.proofs.Common.{◌≡◌, refl, sym, ◌∙◌, ap, subst}
use Rattle.std.proofs.lemmas.Result.{err_from_is_err_and}
use Rattle.ir_trees.specs.Syntax.Trees.{ClausesKind, none, tree, Tree}
use Rattle.ir_trees.specs.declared.ir.heads.Head.TheVariants as H
use Rattle.ir_trees.specs.declared.ir.heads.PartHead.TheVariants as P
use Rattle.ir_trees.specs.Syntax.Words.{IsClause, clause_tree, env_forest}
use Rattle.ir_trees.specs.Hierarchy.Supers.{after_first}
use Rattle.ir_folds.proofs.Instantiation.Joining.{clause-kept}
use Rattle.ir_trees.proofs.Growth.Kept.{grows-trans}
use Rattle.ir_trees.proofs.Growth.Made.{kind_at-grows}
use Rattle.candidate_eval.specs.Derivations.Characterization.{bound_kinds}
use Rattle.candidate_eval.specs.Interface.Evaluators.{kinds_listed, pending_of}
use Rattle.candidate_rounds.specs.Evaluators.Known.{reads, state}
use Rattle.candidate_rounds.specs.Evaluators.Stopping.{IsEvaluationStop, IsGoalStop, goal_memory, held, of_clause}
use Rattle.rounds_judge.specs.Obligations.Settling.{instantiated}
use Rattle.candidate_rounds.proofs.Obligations.Evaluating.{env-kept, instance-made, second-holds, second-tree, tried-done, tried-refused, tried-stays}
use Rattle.candidate_rounds.proofs.Evaluators.Going.{goes-reads, goes-refl, goes-trans}
use Rattle.candidate_rounds.proofs.Stops.SettlingStops.{evaluation-stop, growth-becomes, refusal-passed, stop-becomes}
use Rattle.candidate_rounds.proofs.Evaluators.Exits.{not-refused}
use Rattle.candidate_rounds.proofs.rounds.Rounds.try_goal.Goals as goal

pub try_instance-requires-clause-clause : goal.try_instance-requires-clause-clause
try_instance-requires-clause-clause c =
    let old = c.args.self.now in
    let mid = c.instantiate.new.self in
    let g = c.instantiate.ensures.goes in
    let left = subst (IsClause mid.context.trees) (sym c.left_clause-predicate.ensures)
    (second-holds (IsClause mid.context.trees) c.as_slice-2.result.now c.args.goal.predicate c.in_ok-instance.instance (clause-kept old.context mid.context c.args.goal.predicate g.0 c.requires.1).0 c.in_ok-instance.ensures.sort) in
    left

pub returns-in_err-try_instance-clause-refused : goal.returns-in_err-try_instance-clause-refused
returns-in_err-try_instance-clause-refused c =
    let old = c.args.self.now in
    let mid = c.instantiate.new.self in
    let p = pending_of old.context.trees c.args.source c.args.goal in
    let ks = c.as_slice-2.result.now in
    let k = ap kinds_listed c.as_slice-2.ensures.value ∙ c.in_ok-kinds.ensures.kinds in
    let g = c.instantiate.ensures.goes in
    let was = clause-kept old.context mid.context c.args.goal.predicate g.0 c.requires.1 in
    let e = ap (clause_tree mid.context.trees) c.left_clause-predicate.ensures
    ∙ second-tree mid.context.trees ks c.args.goal.predicate c.in_ok-instance.instance _ _ was.1 c.in_ok-instance.ensures.tree in
    let i = goes-reads old mid g c.recall_well_kept.ensures in
    let r = err_from_is_err_and c.from_residual-in_err-try_instance.result c.from_residual-in_err-try_instance.ensures.1 in
    rw r.1
    (λ n. tried-refused (reads old) (reads mid) (state old) (state mid) p ks (env_forest mid.context.trees c.args.goal.param_env) (clause_tree mid.context.trees c.in_ok-instance.instance) (clause_tree mid.context.trees c.left_clause-predicate.result) i k c.in_ok-instance.ensures.state (env-kept old.context mid.context c.args.goal g.0 c.requires.0)
    c.in_ok-instance.ensures.tree e
    (c.in_err-try_instance.ensures.refused (sym r.2 ∙ n)))

pub returns-then-branch-clause-ok : goal.returns-then-branch-clause-ok
returns-then-branch-clause-ok c =
    let old = c.args.self.now in
    let mid = c.instantiate.new.self in
    let p = pending_of old.context.trees c.args.source c.args.goal in
    let ks = c.as_slice-2.result.now in
    let k = ap kinds_listed c.as_slice-2.ensures.value ∙ c.in_ok-kinds.ensures.kinds in
    let g = c.instantiate.ensures.goes in
    let was = clause-kept old.context mid.context c.args.goal.predicate g.0 c.requires.1 in
    let e = ap (clause_tree mid.context.trees) c.left_clause-predicate.ensures
    ∙ second-tree mid.context.trees ks c.args.goal.predicate c.in_ok-instance.instance _ _ was.1 c.in_ok-instance.ensures.tree in
    let i = goes-reads old mid g c.recall_well_kept.ensures in
    tried-done (reads old) (reads mid) (state old) (state mid) p ks (env_forest mid.context.trees c.args.goal.param_env) (clause_tree mid.context.trees c.in_ok-instance.instance) (clause_tree mid.context.trees c.left_clause-predicate.result) i k c.in_ok-instance.ensures.state (env-kept old.context mid.context c.args.goal g.0 c.requires.0)
    c.in_ok-instance.ensures.tree e
    (state c.try_instance.new.self) c.in_ok-try_instance.field-0 c.if-branch.true c.in_ok-try_instance.ensures.ok

pub returns-clause-sort : goal.returns-clause-sort
returns-clause-sort c =
    let old = c.args.self.now in
    let mid = c.instantiate.new.self in
    let new = c.try_instance.new.self in
    let g = c.instantiate.ensures.goes in
    let left = subst (IsClause mid.context.trees) (sym c.left_clause-predicate.ensures)
    (second-holds (IsClause mid.context.trees) c.as_slice-2.result.now c.args.goal.predicate c.in_ok-instance.instance (clause-kept old.context mid.context c.args.goal.predicate g.0 c.requires.1).0 c.in_ok-instance.ensures.sort) in (
      kind_at-grows old.context new.context c.args.goal.param_env.0 ClausesKind (grows-trans old.context mid.context new.context g.0 c.try_instance.ensures.goes.0) refl c.requires.0,
      (clause-kept mid.context new.context c.left_clause-predicate.result c.try_instance.ensures.goes.0 left).0,
    )

pub returns-clause-ok : goal.returns-clause-ok
returns-clause-ok c =
    let old = c.args.self.now in
    let mid = c.instantiate.new.self in
    let p = pending_of old.context.trees c.args.source c.args.goal in
    let ks = c.as_slice-2.result.now in
    let k = ap kinds_listed c.as_slice-2.ensures.value ∙ c.in_ok-kinds.ensures.kinds in
    let g = c.instantiate.ensures.goes in
    let was = clause-kept old.context mid.context c.args.goal.predicate g.0 c.requires.1 in
    let e = ap (clause_tree mid.context.trees) c.left_clause-predicate.ensures
    ∙ second-tree mid.context.trees ks c.args.goal.predicate c.in_ok-instance.instance _ _ was.1 c.in_ok-instance.ensures.tree in
    let i = goes-reads old mid g c.recall_well_kept.ensures in
    let left = subst (IsClause mid.context.trees) (sym c.left_clause-predicate.ensures)
    (second-holds (IsClause mid.context.trees) c.as_slice-2.result.now c.args.goal.predicate c.in_ok-instance.instance (clause-kept old.context mid.context c.args.goal.predicate g.0 c.requires.1).0 c.in_ok-instance.ensures.sort) in
    let new = c.try_instance.new.self in
    let grown = grows-trans old.context mid.context new.context g.0 c.try_instance.ensures.goes.0 in
    tried-stays (reads old) (reads mid) (state old) (state mid) p ks (env_forest mid.context.trees c.args.goal.param_env) (clause_tree mid.context.trees c.in_ok-instance.instance) (clause_tree mid.context.trees c.left_clause-predicate.result) i k c.in_ok-instance.ensures.state (env-kept old.context mid.context c.args.goal g.0 c.requires.0)
    c.in_ok-instance.ensures.tree e
    (state new) c.in_ok-try_instance.field-0 (pending_of new.context.trees c.args.source (record { param_env = c.args.goal.param_env; predicate = c.left_clause-predicate.result })) c.if-branch.false
    (instance-made p ks (bound_kinds p.goal.clause.children) (instantiated (state old) p.goal.clause).1 (env_forest new.context.trees c.args.goal.param_env) (clause_tree new.context.trees c.left_clause-predicate.result) k
    (env-kept old.context new.context c.args.goal grown c.requires.0)
    ((clause-kept mid.context new.context c.left_clause-predicate.result c.try_instance.ensures.goes.0 left).1 ∙ e))
    c.in_ok-try_instance.ensures.ok

pub returns-in_err-kinds-clause-cause : goal.returns-in_err-kinds-clause-cause
returns-in_err-kinds-clause-cause c =
    let old = c.args.self.now in
    growth-becomes (IsGoalStop (held old) (reads old) (state old) (pending_of old.context.trees c.args.source c.args.goal)) c.from_residual.result c.in_err-kinds.field-0.0 c.from_residual.ensures.1
    c.in_err-kinds.ensures.cause goal_memory

pub returns-in_err-instance-clause-cause : goal.returns-in_err-instance-clause-cause
returns-in_err-instance-clause-cause c =
    let old = c.args.self.now in
    stop-becomes (IsGoalStop (held c.instantiate.new.self) (reads old) (state old) (pending_of old.context.trees c.args.source c.args.goal)) c.from_residual-in_err-instance.result c.in_err-instance.field-0.0
    c.from_residual-in_err-instance.ensures.1 (of_clause c.in_err-instance.ensures.cause)

pub returns-in_err-try_instance-clause-cause : goal.returns-in_err-try_instance-clause-cause
returns-in_err-try_instance-clause-cause c =
    let old = c.args.self.now in
    let mid = c.instantiate.new.self in
    let h = held c.try_instance.new.self in
    let p = pending_of old.context.trees c.args.source c.args.goal in
    let e = env_forest mid.context.trees c.args.goal.param_env in
    let x = clause_tree mid.context.trees c.in_ok-instance.instance in
    refusal-passed (IsGoalStop h (reads old) (state old) p) (IsEvaluationStop h (reads mid) (state mid) e x) c.from_residual-in_err-try_instance.result c.in_err-try_instance.field-0.0
    c.from_residual-in_err-try_instance.ensures.1 c.in_err-try_instance.ensures.cause
    (λ s k. evaluation-stop h (reads old) (reads mid) (state old) (state mid) p e x s (goes-reads old mid c.instantiate.ensures.goes c.recall_well_kept.ensures) c.in_ok-instance.ensures.state
    (env-kept old.context mid.context c.args.goal c.instantiate.ensures.goes.0 c.requires.0) c.in_ok-instance.ensures.tree k)

pub try_instance-requires-clause-env : goal.try_instance-requires-clause-env
try_instance-requires-clause-env c = kind_at-grows c.args.self.now.context c.instantiate.new.self.context c.args.goal.param_env.0 ClausesKind c.instantiate.ensures.goes.0 refl c.requires.0

pub try_instance-requires-clause-unbound : goal.try_instance-requires-clause-unbound
try_instance-requires-clause-unbound c = subst (λ (x : Tree). x.children ≡ tree (H.Part P.Vars) none (after_first x.children)) (sym c.in_ok-instance.ensures.tree) refl

pub instantiate-requires-clause-kinds : goal.instantiate-requires-clause-kinds
instantiate-requires-clause-kinds c = ap kinds_listed c.as_slice.ensures.value ∙ c.in_ok-kinds.ensures.kinds

pub returns-in_err-kinds-clause-goes : goal.returns-in_err-kinds-clause-goes
returns-in_err-kinds-clause-goes c = goes-refl c.args.self.now

pub returns-in_err-kinds-clause-refused : goal.returns-in_err-kinds-clause-refused
returns-in_err-kinds-clause-refused c = not-refused _ c.from_residual.result _ c.from_residual.ensures.1

pub returns-in_err-instance-clause-refused : goal.returns-in_err-instance-clause-refused
returns-in_err-instance-clause-refused c = not-refused _ c.from_residual-in_err-instance.result _ c.from_residual-in_err-instance.ensures.1

pub returns-in_err-try_instance-clause-goes : goal.returns-in_err-try_instance-clause-goes
returns-in_err-try_instance-clause-goes c = goes-trans c.args.self.now c.instantiate.new.self c.try_instance.new.self c.instantiate.ensures.goes c.try_instance.ensures.goes

pub returns-then-branch-clause-goes : goal.returns-then-branch-clause-goes
returns-then-branch-clause-goes c = goes-trans c.args.self.now c.instantiate.new.self c.try_instance.new.self c.instantiate.ensures.goes c.try_instance.ensures.goes

pub returns-clause-goes : goal.returns-clause-goes
returns-clause-goes c = goes-trans c.args.self.now c.instantiate.new.self c.try_instance.new.self c.instantiate.ensures.goes c.try_instance.ensures.goes
