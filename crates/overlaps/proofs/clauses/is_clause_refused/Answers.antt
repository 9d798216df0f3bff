use Rattle.std.proofs.Common.{◌≡◌, Some, None, ap, subst, ◌∙◌}
use Rattle.std.proofs.lemmas.Result.{IfOk-weaker}
use Rattle.ir_trees.specs.Declarations.Context.{Context}
use Rattle.ir_trees.specs.Instantiation.Folding.{substituted_tree}
use Rattle.ir_trees.specs.Syntax.Words.{IsArgs, args_forest, clause_tree}
use Rattle.ir_trees.proofs.Growth.Kept.{grows-trans}
use Rattle.candidate_eval.proofs.Dynamic.Objects.{env-kept}
use Rattle.candidate_eval.specs.Dynamic.ObjectRequirements.{arguments_of, trait_said}
use Rattle.candidate_eval.specs.Judges.States.{resolved_tree}
use Rattle.ir_trees.specs.Declarations.References.{ArgumentsFit}
use Rattle.candidate_rounds.specs.Evaluators.Interface.{Fixed}
use Rattle.candidate_rounds.specs.Evaluators.Known.{state, table_of}
use Rattle.overlaps.proofs.AskedClauses.{clause-asked, clause-silent}
use Rattle.overlaps.proofs.Refusing.{clause-refused}
use Rattle.overlaps.proofs.Staying.{known-kept, known-then}
use Rattle.overlaps.proofs.Stopping.{asking-stop, later-kept, later-refl, later-then, passed-on, stop-later, substitute-somehow}
use Rattle.overlaps.specs.Stopping.{IsOverlapStop}
use Rattle.candidate_assembly.proofs.Calls.Causes.{asked-somehow, so-err}
use Rattle.candidate_eval.specs.Interface.Accounts.{resolve}
use Rattle.ir_trees.specs.Syntax.Trees.{ClauseKind}
use Rattle.ir_trees.specs.Unification.Substitutions.{alone}
use Rattle.overlaps.proofs.clauses.is_clause_refused.Goals as goal

pub returns-in_err-clause-clause-stays : goal.returns-in_err-clause-clause-stays
returns-in_err-clause-clause-stays c = known-kept c.substitute.ensures.kept

pub returns-in_err-clause-2-clause-stays : goal.returns-in_err-clause-2-clause-stays
returns-in_err-clause-2-clause-stays c = known-then (known-kept c.substitute.ensures.kept) (known-kept c.resolve_clause_if_possible.ensures.kept)

pub returns-in_default-clause-stays : goal.returns-in_default-clause-stays
returns-in_default-clause-stays c = known-then (known-kept c.substitute.ensures.kept) (known-kept c.resolve_clause_if_possible.ensures.kept)

pub is_predicate_refused-requires-clause-env : goal.is_predicate_refused-requires-clause-env
is_predicate_refused-requires-clause-env c =
    (env-kept _ _ c.args.env (grows-trans _ _ _ c.substitute.ensures.kept.grows c.resolve_clause_if_possible.ensures.kept.grows) c.requires.env).0

pub is_predicate_refused-requires-clause-empty : goal.is_predicate_refused-requires-clause-empty
is_predicate_refused-requires-clause-empty c =
    (env-kept _ _ c.args.env (grows-trans _ _ _ c.substitute.ensures.kept.grows c.resolve_clause_if_possible.ensures.kept.grows) c.requires.env).1 ∙ c.requires.empty

pub is_predicate_refused-requires-clause-args : goal.is_predicate_refused-requires-clause-args
is_predicate_refused-requires-clause-args c = subst (λ (x : Context). IsArgs x.trees c.in-Some.predicate.trait_ref.args) c.cx.ensures c.in-Some.ensures.fits.0

pub is_predicate_refused-requires-clause-pending : goal.is_predicate_refused-requires-clause-pending
is_predicate_refused-requires-clause-pending c = ap (λ S. S.pending) (c.resolve_clause_if_possible.ensures.same ∙ c.substitute.ensures.same) ∙ c.requires.pending

pub returns-clause-stays : goal.returns-clause-stays
returns-clause-stays c = known-then (known-kept c.substitute.ensures.kept) (known-then (known-kept c.resolve_clause_if_possible.ensures.kept) c.is_predicate_refused.ensures.stays)

pub returns-clause-refused : goal.returns-clause-refused
returns-clause-refused c =
    let old = c.args.rounds.now in
    let mid = c.resolve_clause_if_possible.new.self in
    let ts = old.context.trees in
    let x = c.in_ok-clause-2.clause in
    let p = c.in-Some.predicate in
    let t = substituted_tree (args_forest ts c.args.locals) (clause_tree ts c.args.clause) in
    let same = c.resolve_clause_if_possible.ensures.same ∙ c.substitute.ensures.same in
    let is : clause_tree mid.context.trees x ≡ resolved_tree (state old) t
    = c.in_ok-clause-2.ensures.tree ∙ (ap (λ S. resolved_tree S (clause_tree c.substitute.new.ecx.context.trees c.in_ok-clause.clause)) c.substitute.ensures.same ∙ ap (resolved_tree (state old)) c.in_ok-clause.ensures.tree) in
    let said = subst (λ (y : Context). trait_said (clause_tree y.trees x).head ≡ Some (p.trait_ref.def_id, p.polarity)) c.cx.ensures c.in-Some.ensures.said in
    let fits = subst (λ (y : Context). arguments_of (clause_tree y.trees x) ≡ args_forest y.trees p.trait_ref.args) c.cx.ensures c.in-Some.ensures.fits.2 in
    IfOk-weaker c.is_predicate_refused.result _ _
    (λ b h e. clause-refused old mid c.is_predicate_refused.new.rounds t x p (grows-trans _ _ _ c.substitute.ensures.kept.grows c.resolve_clause_if_possible.ensures.kept.grows) same is said fits (h e)) c.is_predicate_refused.ensures.refused

pub returns-in_err-clause-clause-cause : goal.returns-in_err-clause-clause-cause
returns-in_err-clause-clause-cause c = passed-on (IsOverlapStop c.args.rounds.now c.substitute.new.ecx) c.from_residual.result c.in_err-clause.field-0.0 c.from_residual.ensures.1 (asking-stop (later-refl c.args.rounds.now) (substitute-somehow ClauseKind c.args.clause.0 c.args.locals.0 c.substitute.ensures.kept c.in_err-clause.ensures.cause))

pub returns-in_err-clause-2-clause-cause : goal.returns-in_err-clause-2-clause-cause
returns-in_err-clause-2-clause-cause c = passed-on (IsOverlapStop c.args.rounds.now c.resolve_clause_if_possible.new.self) c.from_residual-in_err-clause-2.result c.in_err-clause-2.field-0.0 c.from_residual-in_err-clause-2.ensures.1 (asking-stop (later-kept c.substitute.ensures.kept) (asked-somehow (resolve (alone (clause_tree c.substitute.new.ecx.context.trees c.in_ok-clause.clause))) c.resolve_clause_if_possible.ensures.kept c.in_err-clause-2.ensures.cause))

pub returns-clause-cause : goal.returns-clause-cause
returns-clause-cause c = so-err c.is_predicate_refused.result (λ s k. stop-later (later-then (later-kept c.substitute.ensures.kept) (later-kept c.resolve_clause_if_possible.ensures.kept)) k) c.is_predicate_refused.ensures.cause

pub is_predicate_refused-requires-clause-fit : goal.is_predicate_refused-requires-clause-fit
is_predicate_refused-requires-clause-fit c = subst (λ (x : Context). ArgumentsFit x c.in-Some.predicate.trait_ref) c.cx.ensures c.in-Some.ensures.fits.1

pub returns-in_default-clause-asked : goal.returns-in_default-clause-asked
returns-in_default-clause-asked c = λ isnt.
    let old = c.args.rounds.now in
    let mid = c.resolve_clause_if_possible.new.self in
    let ts = old.context.trees in
    let x = c.in_ok-clause-2.clause in
    let t = substituted_tree (args_forest ts c.args.locals) (clause_tree ts c.args.clause) in
    let fixed-same = c.resolve_clause_if_possible.ensures.kept.fixed_same ∙ c.substitute.ensures.kept.fixed_same in
    let is : clause_tree mid.context.trees x ≡ resolved_tree (state old) t
    = c.in_ok-clause-2.ensures.tree ∙ (ap (λ S. resolved_tree S (clause_tree c.substitute.new.ecx.context.trees c.in_ok-clause.clause)) c.substitute.ensures.same ∙ ap (resolved_tree (state old)) c.in_ok-clause.ensures.tree) in
    clause-silent old mid t x c.args.effort (ap (λ (f : Fixed). f.table) fixed-same) is
    (subst (λ (y : Context). trait_said (clause_tree y.trees x).head ≡ None) c.cx.ensures c.in_default.ensures.said)

pub returns-clause-asked : goal.returns-clause-asked
returns-clause-asked c =
    let old = c.args.rounds.now in
    let mid = c.resolve_clause_if_possible.new.self in
    let ts = old.context.trees in
    let x = c.in_ok-clause-2.clause in
    let p = c.in-Some.predicate in
    let t = substituted_tree (args_forest ts c.args.locals) (clause_tree ts c.args.clause) in
    let same = c.resolve_clause_if_possible.ensures.same ∙ c.substitute.ensures.same in
    let fixed-same = c.resolve_clause_if_possible.ensures.kept.fixed_same ∙ c.substitute.ensures.kept.fixed_same in
    let is : clause_tree mid.context.trees x ≡ resolved_tree (state old) t
    = c.in_ok-clause-2.ensures.tree ∙ (ap (λ S. resolved_tree S (clause_tree c.substitute.new.ecx.context.trees c.in_ok-clause.clause)) c.substitute.ensures.same ∙ ap (resolved_tree (state old)) c.in_ok-clause.ensures.tree) in
    let said = subst (λ (y : Context). trait_said (clause_tree y.trees x).head ≡ Some (p.trait_ref.def_id, p.polarity)) c.cx.ensures c.in-Some.ensures.said in
    let fits = subst (λ (y : Context). arguments_of (clause_tree y.trees x) ≡ args_forest y.trees p.trait_ref.args) c.cx.ensures c.in-Some.ensures.fits.2 in
    IfOk-weaker c.is_predicate_refused.result _ _
    (λ b h no. clause-asked old mid t x p c.args.effort (table_of c.is_predicate_refused.new.rounds) (later-then (later-kept c.substitute.ensures.kept) (later-kept c.resolve_clause_if_possible.ensures.kept)) same
    (ap (λ (f : Fixed). f.table) fixed-same) is said fits (h no)) c.is_predicate_refused.ensures.asked
