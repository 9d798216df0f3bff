use Rattle.std.proofs.Common.{rules, ◌≡◌, ◌≤◌, List, length, refl, sym, ◌∙◌, subst}
use Rattle.std.specs.Prelude.{[], map}
use Rattle.std.proofs.lemmas.Result.{err_from_is_err_and}
use Rattle.ir_trees.specs.Declarations.Context.{Context}
use Rattle.ir_trees.specs.declared.ir.kinds.Clause.{Clause}
use Rattle.ir_trees.specs.Hierarchy.Elaboration.{IsElaboration, unlisted}
use Rattle.ir_trees.specs.Syntax.Words.{ClauseListFits, clause_tree}
use Rattle.ir_trees.proofs.Growth.Kept.{grows-refl, grows-trans}
use Rattle.ir_context.proofs.Hierarchy.Listing.{listed_clause, some-inside}
use Rattle.ir_context.proofs.Hierarchy.Walking.{SupersFit, walk_begins, walk_goes_on, walk_ends, walk_stops, begins_without_memory}
use Rattle.ir_folds.proofs.decl.elaborate.elaborate.Goals as goal

pub returns-in_err-list-clause-cause : goal.returns-in_err-list-clause-cause
returns-in_err-list-clause-cause g c =
    let p = err_from_is_err_and c.from_residual.result c.from_residual.ensures.1 in
    rw (p.1, p.2) (begins_without_memory _ _ _ _ refl)

pub loop-walked-init : goal.loop-walked-init
loop-walked-init g c =
    let start = g.M.Build.context c.args.make.now in
    let list = c.in_ok-list.list.keys in
    let fit = subst (λ (x : Context). ClauseListFits x.trees list) c.cx-2.ensures c.in_ok-list.ensures.fit in
    let trees =
    subst (λ (x : Context). map (clause_tree x.trees) list ≡ unlisted [] (map (clause_tree x.trees) c.args.clauses.now)) c.cx-2.ensures c.in_ok-list.ensures.trees in
    (walk_begins start c.args.clauses.now list (grows-refl start) fit trees, refl)

pub push_implied-requires-clause-clause : goal.push_implied-requires-clause-clause
push_implied-requires-clause-clause g c =
    let there = some-inside c.loop-walked.list.keys c.loop-walked.walked c.clause_at-clause.result c.clause_at-clause.ensures in
    listed_clause _ c.loop-walked.list.keys c.loop-walked.walked c.clause_at-clause.result c.loop-walked.invariant.0.fit there.0 there.1

pub returns-in_err-push_implied-clause-cause : goal.returns-in_err-push_implied-clause-cause
returns-in_err-push_implied-clause-cause g c =
    let p = err_from_is_err_and c.from_residual-in_err-push_implied.result c.from_residual-in_err-push_implied.ensures.1 in
    let start = g.M.Build.context c.args.make.now in
    let there = some-inside c.loop-walked.list.keys c.loop-walked.walked c.clause_at-clause.result c.clause_at-clause.ensures in
    let supers : SupersFit start = subst SupersFit c.cx.ensures c.recall_supers_fit.ensures in
    rw (p.1, p.2)
    (walk_stops start _ c.args.clauses.now c.loop-walked.list.keys c.loop-walked.walked _ c.clause_at-clause.result _ supers c.loop-walked.invariant.0 there.0 there.1 c.in_err-push_implied.ensures.cause)

pub loop-walked-preserved : goal.loop-walked-preserved
loop-walked-preserved g c =
    let start = g.M.Build.context c.args.make.now in
    let there = some-inside c.loop-walked.list.keys c.loop-walked.walked c.clause_at-clause.result c.clause_at-clause.ensures in
    let supers : SupersFit start = subst SupersFit c.cx.ensures c.recall_supers_fit.ensures in (
      walk_goes_on start _ _ c.args.clauses.now c.loop-walked.list.keys c.push_implied.new.list.keys c.loop-walked.walked c.clause_at-clause.result supers c.loop-walked.invariant.0 there.0 there.1
          c.push_implied.ensures.grows c.in_ok-push_implied.ensures.sort c.in_ok-push_implied.ensures.trees,
      c.push_implied.ensures.rest ∙ c.loop-walked.invariant.1,
    )

pub returns-clause-list : goal.returns-clause-list
returns-clause-list g c =
    let start = g.M.Build.context c.args.make.now in
    let ts = (g.M.Build.context c.loop-walked.make).trees in
    let past : length c.loop-walked.list.keys ≤ c.loop-walked.walked = search rules in
    let same : c.in_ok-to_vec.field-0.items ≡ c.loop-walked.list.keys = search rules in
    subst (λ (xs : List Clause). IsElaboration start (map (clause_tree start.trees) c.args.clauses.now) (map (clause_tree ts) xs)) (sym same)
    (walk_ends _ _ c.args.clauses.now c.loop-walked.list.keys c.loop-walked.walked c.loop-walked.invariant.0 past)

pub returns-in_err-push_implied-clause-grows : goal.returns-in_err-push_implied-clause-grows
returns-in_err-push_implied-clause-grows g c = grows-trans _ _ _ c.loop-walked.invariant.0.grows c.push_implied.ensures.grows

pub returns-in_err-to_vec-clause-cause : goal.returns-in_err-to_vec-clause-cause
returns-in_err-to_vec-clause-cause g c =
    let p = err_from_is_err_and c.from_residual-in_err-to_vec.result c.from_residual-in_err-to_vec.ensures.1 in
    rw (p.1, p.2) (begins_without_memory _ _ _ _ refl)
