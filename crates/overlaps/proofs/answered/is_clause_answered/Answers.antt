use Rattle.std.proofs.Common.{◌≡◌, true, false, None, Some, sym, ap, subst, ◌∙◌}
use Rattle.std.proofs.lemmas.Result.{IfOk-weaker}
use Rattle.ir_trees.specs.Declarations.Context.{Context}
use Rattle.ir_trees.specs.Instantiation.Folding.{substituted_tree}
use Rattle.ir_trees.specs.Syntax.Words.{IsArgs, args_forest, clause_tree, env_forest}
use Rattle.ir_trees.proofs.Growth.Kept.{grows-trans}
use Rattle.candidate_eval.proofs.Dynamic.Objects.{env-kept}
use Rattle.candidate_eval.specs.Dynamic.ObjectRequirements.{arguments_of, trait_said}
use Rattle.candidate_eval.specs.Judges.States.{resolved_tree}
use Rattle.candidate_rounds.specs.Evaluators.Known.{state}
use Rattle.overlaps.specs.Answered.{is_outlives}
use Rattle.overlaps.proofs.PureFolder.{asked-kept, asked-then, clause-answered, clause-assumed, sure-kept, sure-then, sure-twice}
use Rattle.ir_trees.specs.Declarations.References.{ArgumentsFit}
use Rattle.overlaps.proofs.Uncertainty.{clause-says-else, clause-unanswered}
use Rattle.overlaps.proofs.Stopping.{asking-stop, later-kept, later-refl, later-then, passed-on, stop-later, substitute-somehow}
use Rattle.overlaps.specs.Stopping.{IsOverlapStop}
use Rattle.candidate_assembly.proofs.Calls.Causes.{asked-somehow, so-err}
use Rattle.candidate_eval.specs.Interface.Accounts.{resolve}
use Rattle.ir_trees.specs.Syntax.Trees.{ClauseKind}
use Rattle.ir_trees.specs.Unification.Substitutions.{alone}
use Rattle.overlaps.proofs.answered.is_clause_answered.Goals as goal

pub returns-in_err-clause-clause-stays : goal.returns-in_err-clause-clause-stays
returns-in_err-clause-clause-stays c = (asked-kept c.substitute.ensures.kept c.substitute.ensures.same).stays

pub returns-in_err-clause-clause-table : goal.returns-in_err-clause-clause-table
returns-in_err-clause-clause-table c = (asked-kept c.substitute.ensures.kept c.substitute.ensures.same).table

pub returns-in_err-clause-2-clause-stays : goal.returns-in_err-clause-2-clause-stays
returns-in_err-clause-2-clause-stays c =
    let more = asked-kept c.resolve_clause_if_possible.ensures.kept c.resolve_clause_if_possible.ensures.same in
    (asked-then (asked-kept c.substitute.ensures.kept c.substitute.ensures.same) more.stays more.table).stays

pub returns-in_err-clause-2-clause-table : goal.returns-in_err-clause-2-clause-table
returns-in_err-clause-2-clause-table c =
    let more = asked-kept c.resolve_clause_if_possible.ensures.kept c.resolve_clause_if_possible.ensures.same in
    (asked-then (asked-kept c.substitute.ensures.kept c.substitute.ensures.same) more.stays more.table).table

pub returns-then-is_outlives-clause-stays : goal.returns-then-is_outlives-clause-stays
returns-then-is_outlives-clause-stays c =
    let more = asked-kept c.resolve_clause_if_possible.ensures.kept c.resolve_clause_if_possible.ensures.same in
    (asked-then (asked-kept c.substitute.ensures.kept c.substitute.ensures.same) more.stays more.table).stays

pub returns-then-is_outlives-clause-table : goal.returns-then-is_outlives-clause-table
returns-then-is_outlives-clause-table c =
    let more = asked-kept c.resolve_clause_if_possible.ensures.kept c.resolve_clause_if_possible.ensures.same in
    (asked-then (asked-kept c.substitute.ensures.kept c.substitute.ensures.same) more.stays more.table).table

pub returns-then-is_outlives-clause-holds : goal.returns-then-is_outlives-clause-holds
returns-then-is_outlives-clause-holds c = λ e.
    let old = c.args.rounds.now in
    let mid = c.resolve_clause_if_possible.new.self in
    let ts = old.context.trees in
    let x = c.in_ok-clause-2.clause in
    let t = substituted_tree (args_forest ts c.args.locals) (clause_tree ts c.args.clause) in
    let is : clause_tree mid.context.trees x ≡ resolved_tree (state old) t
    = c.in_ok-clause-2.ensures.tree ∙ (ap (λ S. resolved_tree S (clause_tree c.substitute.new.ecx.context.trees c.in_ok-clause.clause)) c.substitute.ensures.same ∙ ap (resolved_tree (state old)) c.in_ok-clause.ensures.tree) in
    let outlives : is_outlives (clause_tree mid.context.trees x).head ≡ true = ap (λ (y : Context). is_outlives (clause_tree y.trees x).head) (sym c.cx.ensures) ∙ (sym c.is_outlives.ensures ∙ c.if-is_outlives.true) in
    clause-assumed old (env_forest ts c.args.env) t (clause_tree mid.context.trees x) is outlives

pub returns-in_default-clause-stays : goal.returns-in_default-clause-stays
returns-in_default-clause-stays c =
    let more = asked-kept c.resolve_clause_if_possible.ensures.kept c.resolve_clause_if_possible.ensures.same in
    (asked-then (asked-kept c.substitute.ensures.kept c.substitute.ensures.same) more.stays more.table).stays

pub returns-in_default-clause-table : goal.returns-in_default-clause-table
returns-in_default-clause-table c =
    let more = asked-kept c.resolve_clause_if_possible.ensures.kept c.resolve_clause_if_possible.ensures.same in
    (asked-then (asked-kept c.substitute.ensures.kept c.substitute.ensures.same) more.stays more.table).table

pub is_predicate_answered-requires-clause-env : goal.is_predicate_answered-requires-clause-env
is_predicate_answered-requires-clause-env c =
    (env-kept _ _ c.args.env (grows-trans _ _ _ c.substitute.ensures.kept.grows c.resolve_clause_if_possible.ensures.kept.grows) c.requires.env).0

pub is_predicate_answered-requires-clause-args : goal.is_predicate_answered-requires-clause-args
is_predicate_answered-requires-clause-args c = subst (λ (x : Context). IsArgs x.trees c.in-Some.predicate.trait_ref.args) c.cx-2.ensures c.in-Some.ensures.fits.0

pub returns-clause-stays : goal.returns-clause-stays
returns-clause-stays c =
    let more = asked-kept c.resolve_clause_if_possible.ensures.kept c.resolve_clause_if_possible.ensures.same in
    let so = asked-then (asked-kept c.substitute.ensures.kept c.substitute.ensures.same) more.stays more.table in
    (asked-then so c.is_predicate_answered.ensures.stays c.is_predicate_answered.ensures.table).stays

pub returns-clause-table : goal.returns-clause-table
returns-clause-table c =
    let more = asked-kept c.resolve_clause_if_possible.ensures.kept c.resolve_clause_if_possible.ensures.same in
    let so = asked-then (asked-kept c.substitute.ensures.kept c.substitute.ensures.same) more.stays more.table in
    (asked-then so c.is_predicate_answered.ensures.stays c.is_predicate_answered.ensures.table).table

pub returns-clause-holds : goal.returns-clause-holds
returns-clause-holds c =
    let old = c.args.rounds.now in
    let mid = c.resolve_clause_if_possible.new.self in
    let ts = old.context.trees in
    let x = c.in_ok-clause-2.clause in
    let p = c.in-Some.predicate in
    let t = substituted_tree (args_forest ts c.args.locals) (clause_tree ts c.args.clause) in
    let so = sure-twice c.substitute.ensures.kept c.substitute.ensures.same c.resolve_clause_if_possible.ensures.kept c.resolve_clause_if_possible.ensures.same in
    let is : clause_tree mid.context.trees x ≡ resolved_tree (state old) t
    = c.in_ok-clause-2.ensures.tree ∙ (ap (λ S. resolved_tree S (clause_tree c.substitute.new.ecx.context.trees c.in_ok-clause.clause)) c.substitute.ensures.same ∙ ap (resolved_tree (state old)) c.in_ok-clause.ensures.tree) in
    let said = subst (λ (y : Context). trait_said (clause_tree y.trees x).head ≡ Some (p.trait_ref.def_id, p.polarity)) c.cx-2.ensures c.in-Some.ensures.said in
    let fits = subst (λ (y : Context). arguments_of (clause_tree y.trees x) ≡ args_forest y.trees p.trait_ref.args) c.cx-2.ensures c.in-Some.ensures.fits.2 in
    IfOk-weaker c.is_predicate_answered.result _ _ (λ b h e. clause-answered old mid c.args.env t x p so c.requires.env is said fits (h e)) c.is_predicate_answered.ensures.answered

pub returns-in_err-clause-clause-cause : goal.returns-in_err-clause-clause-cause
returns-in_err-clause-clause-cause c = passed-on (IsOverlapStop c.args.rounds.now c.substitute.new.ecx) c.from_residual.result c.in_err-clause.field-0.0 c.from_residual.ensures.1 (asking-stop (later-refl c.args.rounds.now) (substitute-somehow ClauseKind c.args.clause.0 c.args.locals.0 c.substitute.ensures.kept c.in_err-clause.ensures.cause))

pub returns-in_err-clause-2-clause-cause : goal.returns-in_err-clause-2-clause-cause
returns-in_err-clause-2-clause-cause c = passed-on (IsOverlapStop c.args.rounds.now c.resolve_clause_if_possible.new.self) c.from_residual-in_err-clause-2.result c.in_err-clause-2.field-0.0 c.from_residual-in_err-clause-2.ensures.1 (asking-stop (later-kept c.substitute.ensures.kept) (asked-somehow (resolve (alone (clause_tree c.substitute.new.ecx.context.trees c.in_ok-clause.clause))) c.resolve_clause_if_possible.ensures.kept c.in_err-clause-2.ensures.cause))

pub returns-clause-cause : goal.returns-clause-cause
returns-clause-cause c = so-err c.is_predicate_answered.result (λ s k. stop-later (later-then (later-kept c.substitute.ensures.kept) (later-kept c.resolve_clause_if_possible.ensures.kept)) k) c.is_predicate_answered.ensures.cause

pub is_predicate_answered-requires-clause-fit : goal.is_predicate_answered-requires-clause-fit
is_predicate_answered-requires-clause-fit c = subst (λ (x : Context). ArgumentsFit x c.in-Some.predicate.trait_ref) c.cx-2.ensures c.in-Some.ensures.fits.1

pub returns-in_default-clause-uncertain : goal.returns-in_default-clause-uncertain
returns-in_default-clause-uncertain c = λ isnt.
    let old = c.args.rounds.now in
    let mid = c.resolve_clause_if_possible.new.self in
    let ts = old.context.trees in
    let x = c.in_ok-clause-2.clause in
    let t = substituted_tree (args_forest ts c.args.locals) (clause_tree ts c.args.clause) in
    let is : clause_tree mid.context.trees x ≡ resolved_tree (state old) t
    = c.in_ok-clause-2.ensures.tree ∙ (ap (λ S. resolved_tree S (clause_tree c.substitute.new.ecx.context.trees c.in_ok-clause.clause)) c.substitute.ensures.same ∙ ap (resolved_tree (state old)) c.in_ok-clause.ensures.tree) in
    let outlives : is_outlives (clause_tree mid.context.trees x).head ≡ false = ap (λ (y : Context). is_outlives (clause_tree y.trees x).head) (sym c.cx.ensures) ∙ (sym c.is_outlives.ensures ∙ c.if-is_outlives.false) in
    clause-says-else old (env_forest ts c.args.env) t (clause_tree mid.context.trees x) is outlives (subst (λ (y : Context). trait_said (clause_tree y.trees x).head ≡ None) c.cx-2.ensures c.in_default.ensures.said)

pub returns-clause-uncertain : goal.returns-clause-uncertain
returns-clause-uncertain c =
    let old = c.args.rounds.now in
    let mid = c.resolve_clause_if_possible.new.self in
    let ts = old.context.trees in
    let x = c.in_ok-clause-2.clause in
    let p = c.in-Some.predicate in
    let t = substituted_tree (args_forest ts c.args.locals) (clause_tree ts c.args.clause) in
    let so = sure-twice c.substitute.ensures.kept c.substitute.ensures.same c.resolve_clause_if_possible.ensures.kept c.resolve_clause_if_possible.ensures.same in
    let is : clause_tree mid.context.trees x ≡ resolved_tree (state old) t
    = c.in_ok-clause-2.ensures.tree ∙ (ap (λ S. resolved_tree S (clause_tree c.substitute.new.ecx.context.trees c.in_ok-clause.clause)) c.substitute.ensures.same ∙ ap (resolved_tree (state old)) c.in_ok-clause.ensures.tree) in
    let said = subst (λ (y : Context). trait_said (clause_tree y.trees x).head ≡ Some (p.trait_ref.def_id, p.polarity)) c.cx-2.ensures c.in-Some.ensures.said in
    let fits = subst (λ (y : Context). arguments_of (clause_tree y.trees x) ≡ args_forest y.trees p.trait_ref.args) c.cx-2.ensures c.in-Some.ensures.fits.2 in
    IfOk-weaker c.is_predicate_answered.result _ _ (λ b h e. clause-unanswered old mid c.args.env t x p so c.requires.env is said fits (h e)) c.is_predicate_answered.ensures.unanswered

pub returns-in_err-clause-clause-sure : goal.returns-in_err-clause-clause-sure
returns-in_err-clause-clause-sure c = (sure-kept c.substitute.ensures.kept c.substitute.ensures.same).sure

pub returns-in_err-clause-2-clause-sure : goal.returns-in_err-clause-2-clause-sure
returns-in_err-clause-2-clause-sure c = (sure-twice c.substitute.ensures.kept c.substitute.ensures.same c.resolve_clause_if_possible.ensures.kept c.resolve_clause_if_possible.ensures.same).sure

pub returns-then-is_outlives-clause-sure : goal.returns-then-is_outlives-clause-sure
returns-then-is_outlives-clause-sure c = (sure-twice c.substitute.ensures.kept c.substitute.ensures.same c.resolve_clause_if_possible.ensures.kept c.resolve_clause_if_possible.ensures.same).sure

pub returns-in_default-clause-sure : goal.returns-in_default-clause-sure
returns-in_default-clause-sure c = (sure-twice c.substitute.ensures.kept c.substitute.ensures.same c.resolve_clause_if_possible.ensures.kept c.resolve_clause_if_possible.ensures.same).sure

pub returns-clause-sure : goal.returns-clause-sure
returns-clause-sure c = (sure-then (sure-twice c.substitute.ensures.kept c.substitute.ensures.same c.resolve_clause_if_possible.ensures.kept c.resolve_clause_if_possible.ensures.same) c.is_predicate_answered.ensures.stays c.is_predicate_answered.ensures.sure).sure
