use Rattle.std.proofs.Common.{rules, ◌≡◌, ◌<◌, ◌≤◌, ◌++◌, ◌∷◌, [], ◌+◌, add-one, drop, length, refl, slice_index_or, false, ◌∙◌, ap, subst, sym}
use Rattle.std.proofs.lemmas.Result.{err_from_is_err_and}
use Rattle.std.proofs.Math.Seq.{drop-cons}
use Rattle.ir_trees.specs.declared.ir.kinds.GoalSource.TheVariants.{ImplWhereBound}
use Rattle.ir_trees.specs.declared.ir.kinds.Clause.{Clause}
use Rattle.ir_trees.specs.Instantiation.Folding.{lacks_argument, substituted_tree}
use Rattle.ir_trees.specs.Syntax.Trees.{ClauseKind, Forest, Tree, tree_holds}
use Rattle.ir_trees.specs.Syntax.Words.{IsClause, args_forest, clause_tree}
use Rattle.ir_trees.proofs.Growth.Kept.{args-kept, grows-trans}
use Rattle.ir_folds.proofs.Instantiation.Joining.{clause-kept}
use Rattle.candidate_eval.proofs.Dynamic.Objects.{env-kept}
use Rattle.candidate_eval.proofs.Interface.Accounts.{memory-somehow}
use Rattle.candidate_eval.proofs.Interface.Probing.{then}
use Rattle.candidate_eval.proofs.Outcomes.Pairs.{clause_there}
use Rattle.overlaps.proofs.JointPairs.{all-added, none-added, one-added}
use Rattle.overlaps.proofs.Refusing.{instance-kept}
use Rattle.overlaps.proofs.Staying.{keeps-refl}
use Rattle.overlaps.proofs.Stopping.{asking-stop, later-kept, later-refl, passed-on, substitute-somehow}
use Rattle.overlaps.specs.Stopping.{IsOverlapStop}
use Rattle.overlaps.proofs.together.add_wheres.Goals as goal

pub loop-number-init : goal.loop-number-init
loop-number-init c =
    let start = c.args.rounds.now.context in
    (keeps-refl c.args.rounds.now, refl, none-added start (args_forest start.trees c.args.of.now.locals) c.args.of.now.wheres.items c.args.goals.now.items c.requires.fit)

pub returns-clause-kept : goal.returns-clause-kept
returns-clause-kept c = c.loop-number.invariant.0

pub returns-clause-same : goal.returns-clause-same
returns-clause-same c = c.loop-number.invariant.1

pub returns-clause-fit : goal.returns-clause-fit
returns-clause-fit c = c.loop-number.invariant.2.fit

pub returns-clause-added : goal.returns-clause-added
returns-clause-added c =
    let start = c.args.rounds.now.context in
    let past : length c.args.of.now.wheres.items ≤ c.loop-number.number = search rules in
    all-added start c.loop-number.rounds.context (args_forest start.trees c.args.of.now.locals) c.args.of.now.wheres.items c.args.goals.now.items c.loop-number.goals.items c.loop-number.number c.loop-number.invariant.2 past

pub substitute-requires-clause-value : goal.substitute-requires-clause-value
substitute-requires-clause-value c =
    let now = c.loop-number.rounds.context in
    let xs = c.args.of.now.wheres.items in
    let x = c.index.result.now in
    let lt : c.loop-number.number < length xs = search rules in
    subst (λ (y : Clause). IsClause now.trees y) (sym c.index.ensures)
    (clause-kept _ now (slice_index_or xs c.loop-number.number x) c.loop-number.invariant.0.grows (clause_there _ xs x c.loop-number.number c.requires.open.2.fit lt)).0

pub substitute-requires-clause-args : goal.substitute-requires-clause-args
substitute-requires-clause-args c = (args-kept _ _ c.args.of.now.locals c.loop-number.invariant.0.grows c.requires.open.0).0

pub substitute-requires-clause-there : goal.substitute-requires-clause-there
substitute-requires-clause-there c =
    let start = c.args.rounds.now.context in
    let now = c.loop-number.rounds.context in
    let xs = c.args.of.now.wheres.items in
    let n = c.loop-number.number in
    let x = c.index.result.now in
    let lt : n < length xs = search rules in
    let grows = c.loop-number.invariant.0.grows in
    let tree = (clause-kept start now (slice_index_or xs n x) grows (clause_there _ xs x n c.requires.open.2.fit lt)).1 in
    let args = (args-kept start now c.args.of.now.locals grows c.requires.open.0).1 in
    let there = subst (λ (q : Forest × Tree). tree_holds (lacks_argument q.0) q.1 ≡ false) (λ i. (sym args i, sym tree i)) (c.requires.open.2.have n x lt) in
    subst (λ (y : Clause). tree_holds (lacks_argument (args_forest now.trees c.args.of.now.locals)) (clause_tree now.trees y) ≡ false) (sym c.index.ensures) there

pub returns-in_err-predicate-clause-kept : goal.returns-in_err-predicate-clause-kept
returns-in_err-predicate-clause-kept c = then c.loop-number.invariant.0 c.substitute.ensures.kept

pub returns-in_err-predicate-clause-same : goal.returns-in_err-predicate-clause-same
returns-in_err-predicate-clause-same c = c.substitute.ensures.same ∙ c.loop-number.invariant.1

pub returns-in_err-predicate-clause-cause : goal.returns-in_err-predicate-clause-cause
returns-in_err-predicate-clause-cause c =
    passed-on (IsOverlapStop c.args.rounds.now c.substitute.new.ecx) c.from_residual.result c.in_err-predicate.field-0.0 c.from_residual.ensures.1
    (asking-stop (later-kept c.loop-number.invariant.0) (substitute-somehow ClauseKind c.index.result.now.0 c.args.of.now.locals.0 c.substitute.ensures.kept c.in_err-predicate.ensures.cause))

pub returns-in_err-push-clause-kept : goal.returns-in_err-push-clause-kept
returns-in_err-push-clause-kept c = then c.loop-number.invariant.0 c.substitute.ensures.kept

pub returns-in_err-push-clause-same : goal.returns-in_err-push-clause-same
returns-in_err-push-clause-same c = c.substitute.ensures.same ∙ c.loop-number.invariant.1

pub returns-in_err-push-clause-cause : goal.returns-in_err-push-clause-cause
returns-in_err-push-clause-cause c =
    let p = err_from_is_err_and c.from_residual-in_err-push.result c.from_residual-in_err-push.ensures.1 in
    rw p.1 (asking-stop (later-refl c.args.rounds.now) (memory-somehow p.2))

pub loop-number-preserved : goal.loop-number-preserved
loop-number-preserved c =
    let start = c.args.rounds.now.context in
    let now = c.loop-number.rounds.context in
    let new = c.substitute.new.ecx.context in
    let xs = c.args.of.now.wheres.items in
    let ls = args_forest start.trees c.args.of.now.locals in
    let n = c.loop-number.number in
    let d = c.index.result.now in
    let x = slice_index_or xs n d in
    let lt : c.loop-number.number < length c.args.of.now.wheres.items = search rules in
    let so = c.loop-number.invariant in
    let split : drop n xs ≡ x ∷ drop (n + 1) xs = rw add-one (drop-cons xs n d lt) in
    let items : c.push.new.self.items ≡ c.loop-number.goals.items ++ (ImplWhereBound, record { param_env = c.args.env; predicate = c.in_ok-predicate.predicate }) ∷ [] = search rules in
    let env = env-kept start new c.args.env (grows-trans start now new so.0.grows c.substitute.ensures.kept.grows) c.requires.env in
    let is : clause_tree new.trees c.in_ok-predicate.predicate ≡ substituted_tree ls (clause_tree start.trees x)
    = c.in_ok-predicate.ensures.tree
    ∙ (ap (λ (y : Clause). substituted_tree (args_forest now.trees c.args.of.now.locals) (clause_tree now.trees y)) c.index.ensures
    ∙ instance-kept start now c.args.of.now.locals x so.0.grows c.requires.open.0 (clause_there _ xs d n c.requires.open.2.fit lt)) in (
      then so.0 c.substitute.ensures.kept,
      c.substitute.ensures.same ∙ so.1,
      one-added start now new ls xs c.args.goals.now.items c.loop-number.goals.items c.push.new.self.items n x c.in_ok-predicate.predicate c.args.env so.2 c.substitute.ensures.kept.grows split env.0 (env.1 ∙ c.requires.empty)
          c.in_ok-predicate.ensures.sort is items,
    )
