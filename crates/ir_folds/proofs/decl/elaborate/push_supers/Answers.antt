use Rattle.std.proofs.Common.{◌≡◌, ◌≤◌, length, sym, ◌∙◌, ap, subst, inr, arith}
use Rattle.std.proofs.lemmas.Result.{err_from_is_err_and}
use Rattle.std.specs.Prelude.{◌++◌, ◌∷◌, [], map, Some, None, slice_get}
use Rattle.ir_trees.specs.Declarations.Declaring.{trait_at}
use Rattle.ir_trees.specs.Hierarchy.Supers.{supers_at}
use Rattle.ir_trees.specs.Declarations.Context.{Context}
use Rattle.ir_trees.specs.Syntax.Words.{ClauseListFits, clause_tree}
use Rattle.ir_trees.specs.Hierarchy.Elaboration.{unlisted}
use Rattle.ir_trees.proofs.Growth.Kept.{args-kept, grows-trans, header-kept}
use Rattle.ir_context.proofs.Hierarchy.Listing.{all_supers, clauses_kept, no_more_supers, one_more_super, vars_kept, instance_kept, supers_read, super_unmade}
use Rattle.ir_folds.proofs.decl.elaborate.push_supers.Goals as goal
use Rattle.ir_folds.proofs.decl.elaborate.push_supers.Goals.{in-Some+in_ok-clause+in_ok-push_unlisted, in_default}

pub implied-requires-clause-vars : goal.implied-requires-clause-vars
implied-requires-clause-vars g c = (vars_kept _ _ c.args.vars c.loop-place.invariant.0.grows c.requires.vars).0

pub implied-requires-clause-args : goal.implied-requires-clause-args
implied-requires-clause-args g c = (args-kept _ _ c.args.trait_ref.args c.loop-place.invariant.0.grows c.requires.args).0

pub returns-in_err-clause-clause-grows : goal.returns-in_err-clause-clause-grows
returns-in_err-clause-clause-grows g c = grows-trans _ _ _ c.loop-place.invariant.0.grows c.implied.ensures.grows

pub push_unlisted-requires-clause-list : goal.push_unlisted-requires-clause-list
push_unlisted-requires-clause-list g c =
    subst (λ (x : Context). ClauseListFits x.trees c.loop-place.list.keys) (sym c.cx-in-Some.ensures)
    (clauses_kept _ _ c.loop-place.list.keys c.implied.ensures.grows.kept c.loop-place.invariant.0.fit).0

pub returns-in_err-push_unlisted-clause-grows : goal.returns-in_err-push_unlisted-clause-grows
returns-in_err-push_unlisted-clause-grows g c = grows-trans _ _ _ c.loop-place.invariant.0.grows c.implied.ensures.grows

pub loop-place-preserved : goal.loop-place-preserved
loop-place-preserved g c = elim c.match-super_clause.branch [
  | in-Some+in_ok-clause+in_ok-push_unlisted w ↦
      let start = g.M.Build.context c.args.make.now in
      let new = g.M.Build.context w.implied.new.make in
      let i = c.args.trait_ref.def_id.0 in
      let supers = supers_read start _ i c.super_clauses-count.result.now c.cx.ensures c.super_clauses-count.ensures.is c.super_clauses-count.ensures.fit in
      let list = w.push_unlisted.new.list.keys in
      let x = w.in_ok-clause.clause in
      let fit = subst (λ (y : Context). ClauseListFits y.trees list) w.cx-in-Some.ensures w.in_ok-push_unlisted.ensures.fit in
      let trees =
      subst (λ (y : Context). map (clause_tree y.trees) list ≡ map (clause_tree y.trees) c.loop-place.list.keys ++ unlisted (map (clause_tree y.trees) c.loop-place.list.keys) (clause_tree y.trees x ∷ []))
      w.cx-in-Some.ensures w.in_ok-push_unlisted.ensures.trees in
      let is = w.in_ok-clause.ensures.tree ∙ instance_kept start (g.M.Build.context c.loop-place.make) c.args.vars c.args.trait_ref.args (clause_tree (g.M.Build.context c.loop-place.make).trees w.in-Some.own) c.loop-place.invariant.0.grows c.requires.vars c.requires.args in
      let own = subst (λ (y : Context). Some w.in-Some.own ≡ slice_get (supers_at (trait_at y i)) c.loop-place.place) c.cx-in-loop-place.ensures (sym w.in-Some.is ∙ c.super_clause.ensures.is) in
      rw w.make-is
      (rw w.list-is (
        one_more_super start _ new c.args.list.now.keys c.loop-place.list.keys list _ _ i c.loop-place.place w.in-Some.own x c.loop-place.invariant.0 w.in_ok-clause.ensures.grows fit trees is own supers.1,
        w.implied.ensures.rest ∙ c.loop-place.invariant.1,
      ))
  | in_default w ↦
      let i = c.args.trait_ref.def_id.0 in
      let none = subst (λ (y : Context). None ≡ slice_get (supers_at (trait_at y i)) c.loop-place.place) c.cx-in-loop-place.ensures (sym w.in_default.is ∙ c.super_clause.ensures.is) in
      rw w.make-is (rw w.list-is (no_more_supers _ _ _ _ _ _ i c.loop-place.place c.loop-place.invariant.0 none, c.loop-place.invariant.1))
]

pub returns-in_err-clause-clause-cause : goal.returns-in_err-clause-clause-cause
returns-in_err-clause-clause-cause g c =
    let p = err_from_is_err_and c.from_residual.result c.from_residual.ensures.1 in
    let start = g.M.Build.context c.args.make.now in
    let now = g.M.Build.context c.loop-place.make in
    let i = c.args.trait_ref.def_id.0 in
    let supers = supers_read start _ i c.super_clauses-count.result.now c.cx.ensures c.super_clauses-count.ensures.is c.super_clauses-count.ensures.fit in
    let own = subst (λ (y : Context). Some c.in-Some.own ≡ slice_get (supers_at (trait_at y i)) c.loop-place.place) c.cx-in-loop-place.ensures (sym c.in-Some.is ∙ c.super_clause.ensures.is) in
    rw (p.1, p.2)
    (inr
    (super_unmade start now c.args.list.now.keys c.loop-place.list.keys _ _ i c.loop-place.place _ c.in-Some.own _ _ c.loop-place.invariant.0
    (instance_kept start now c.args.vars c.args.trait_ref.args (clause_tree now.trees c.in-Some.own) c.loop-place.invariant.0.grows c.requires.vars c.requires.args) own supers.1 c.in_err-clause.ensures.cause))

pub super_clause-requires : goal.super_clause-requires
super_clause-requires g c =
    rw c.cx-in-loop-place.ensures (header-kept (g.M.Build.context c.args.make.now) (g.M.Build.context c.loop-place.make) c.args.trait_ref c.loop-place.invariant.0.grows c.requires.args c.requires.fit)

pub returns-clause-trees : goal.returns-clause-trees
returns-clause-trees g c =
    let start = g.M.Build.context c.args.make.now in
    let i = c.args.trait_ref.def_id.0 in
    let supers = supers_read start _ i c.super_clauses-count.result.now c.cx.ensures c.super_clauses-count.ensures.is c.super_clauses-count.ensures.fit in
    let all : length (supers_at (trait_at start i)) ≤ c.loop-place.place = omega (arith, ap length supers.0, c.loop-place-test.false) in
    all_supers start _ c.args.list.now.keys c.loop-place.list.keys _ _ i c.loop-place.place c.loop-place.invariant.0 all
