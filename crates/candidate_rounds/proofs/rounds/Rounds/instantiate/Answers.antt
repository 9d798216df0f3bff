use Rattle.std.proofs.Common.{◌≡◌, IfOk, reverse, ◌∙◌, ap, subst}
use Rattle.ir_trees.specs.Instantiation.Opening.{opened_clause}
use Rattle.ir_trees.specs.Syntax.Trees.{Forest, Tree}
use Rattle.ir_trees.specs.Syntax.Words.{args_forest, clause_tree}
use Rattle.ir_folds.proofs.Instantiation.Joining.{clause-kept}
use Rattle.candidate_eval.specs.Interface.Evaluators.{kinds_listed, rigid}
use Rattle.candidate_rounds.specs.Evaluators.Known.{state}
use Rattle.candidate_rounds.proofs.Obligations.Trying.{instantiated-state, instantiated-tree, on-ok}
use Rattle.candidate_rounds.proofs.Stops.SettlingStops.{instance-stop}
use Rattle.candidate_rounds.proofs.Evaluators.Going.{goes-trans}
use Rattle.std.proofs.Common.{sym}
use Rattle.std.specs.Prelude.{IfErr}
use Rattle.ir_trees.specs.Syntax.Words.{IsArgs, IsClause}
use Rattle.candidate_rounds.specs.Evaluators.Known.{Evaluator}
use Rattle.candidate_rounds.specs.Evaluators.Stopping.{IsTreeStop}
use Rattle.candidate_rounds.proofs.Evaluators.Interface.{made-goes, made-same}
use Rattle.candidate_rounds.proofs.Snapshots.ResolvedValues.{evaluator-grown}
use Rattle.candidate_rounds.proofs.rounds.Rounds.instantiate.Goals as goal

pub open_clause-requires-clause-clause : goal.open_clause-requires-clause-clause
open_clause-requires-clause-clause c = subst (λ (e : Evaluator). IsClause e.context.trees c.args.clause) (sym c.self.view_is) (clause-kept c.args.self.now.context c.placeholder_args.new.self.context c.args.clause c.placeholder_args.ensures.goes.0 c.requires.clause).0

pub returns-clause-state : goal.returns-clause-state
returns-clause-state c =
    let old = c.args.self.now in
    on-ok c.open_clause.result (made-same c.self.view_is c.open_clause.ensures.grows c.open_clause.ensures.rest c.self.invariant ∙ (c.in_ok-values.ensures.made ∙ instantiated-state (state old) (clause_tree old.context.trees c.args.clause) c.args.kinds.now c.requires.kinds))

pub returns-clause-tree : goal.returns-clause-tree
returns-clause-tree c =
    let old = c.args.self.now in
    let mid = c.placeholder_args.new.self in
    let was = clause_tree old.context.trees c.args.clause in
    let now = clause_tree mid.context.trees c.args.clause in
    subst (λ (t : Tree). IfOk c.open_clause.result (λ x. clause_tree c.open_clause.new.make.trees x ≡ t))
    (ap (λ (f : Forest). opened_clause f now) c.in_ok-values.ensures.trees
    ∙ (ap (opened_clause (rigid (state old) (kinds_listed c.args.kinds.now))) (clause-kept old.context mid.context c.args.clause c.placeholder_args.ensures.goes.0 c.requires.clause).1
    ∙ instantiated-tree (state old) was c.args.kinds.now c.requires.kinds))
    (subst (λ (e : Evaluator). IfOk c.open_clause.result (λ x. clause_tree c.open_clause.new.make.trees x ≡ opened_clause (args_forest e.context.trees c.in_ok-values.values) (clause_tree e.context.trees c.args.clause))) c.self.view_is
    c.open_clause.ensures.tree)

pub returns-clause-cause : goal.returns-clause-cause
returns-clause-cause c =
    let old = c.args.self.now in
    let mid = c.placeholder_args.new.self in
    let was = clause_tree old.context.trees c.args.clause in
    let now = clause_tree mid.context.trees c.args.clause in
    instance-stop c.open_clause.new.make.trees (state old) was (opened_clause (args_forest mid.context.trees c.in_ok-values.values) now) c.open_clause.result
    (ap (λ (f : Forest). opened_clause f now) c.in_ok-values.ensures.trees
    ∙ (ap (opened_clause (rigid (state old) (kinds_listed c.args.kinds.now))) (clause-kept old.context mid.context c.args.clause c.placeholder_args.ensures.goes.0 c.requires.clause).1
    ∙ instantiated-tree (state old) was c.args.kinds.now c.requires.kinds))
    (subst (λ (e : Evaluator). IfErr c.open_clause.result (λ x. IsTreeStop c.open_clause.new.make.trees (opened_clause (args_forest e.context.trees c.in_ok-values.values) (clause_tree e.context.trees c.args.clause)) x)) c.self.view_is
    c.open_clause.ensures.cause)

pub returns-clause-goes : goal.returns-clause-goes
returns-clause-goes c =
    let i = c.self.inside in
    let new : Evaluator = record { context = c.open_clause.new.make; mode = i.mode; normal = record { pairs = i.normal.items; is_open = i.opens }; opaques = i.opaques.items; goals = i.goals; inference = i.inference; marks = reverse i.probes.items } in
    goes-trans c.args.self.now c.placeholder_args.new.self new c.placeholder_args.ensures.goes (made-goes c.self.view_is c.open_clause.ensures.grows c.open_clause.ensures.rest)

pub open_clause-requires-clause-values : goal.open_clause-requires-clause-values
open_clause-requires-clause-values c = subst (λ (e : Evaluator). IsArgs e.context.trees c.in_ok-values.values) (sym c.self.view_is) c.in_ok-values.ensures.sort

pub invariant_of-self : goal.invariant_of-self
invariant_of-self c = evaluator-grown _ _ _ _ _ _ _ c.open_clause.ensures.grows c.self.invariant
