use Rattle.std.proofs.Common.{rules, ◌≡◌, refl, sym, ◌∙◌, ap}
use Rattle.std.specs.Prelude.{option_map}
use Rattle.ir_trees.specs.Instantiation.Folds.{arg_tree, here}
use Rattle.ir_trees.specs.Validity.WellFormed.{TypesFit}
use Rattle.ir_trees.specs.Syntax.Words.{clause_tree, ty_tree}
use Rattle.ir_folds.proofs.Traversal.FoldLaws.{reached-keeps}
use Rattle.ir_trees.proofs.Growth.Kept.{grows-refl, ty-kept}
use Rattle.candidate_eval.specs.Dynamic.Replacing.{answered, finds_own, left_by, types_at, clauses_at}
use Rattle.candidate_eval.proofs.Dynamic.Filling.{clause-fill, clause-without-terms, empty-list, left-by-fit, ok-then, reached-grows, said-at-start}
use Rattle.candidate_eval.proofs.Dynamic.Replacing.{clause-none, unasked-none}
use Rattle.candidate_eval.proofs.Outcomes.Responding.{clauses-kept}
use Rattle.ir_trees.specs.Syntax.Trees.{ClauseKind}
use Rattle.ir_trees.proofs.Syntax.Lists.{below_kind}
use Rattle.candidate_eval.proofs.Interface.Unmade.{fold-unmade}
use Rattle.candidate_eval.proofs.Builtins.Types.{types_kept}
use Rattle.candidate_eval.proofs.objects.replacing.fill.Goals as goal

pub fold-requires-clause-callable : goal.fold-requires-clause-callable
fold-requires-clause-callable g c = record {
  at = λ s x d lent e l grown i n b.
      let a = g.M.Build.context c.args.make.now in
      let held = reached-keeps _ _ _ (λ z. (z.0 ≡ c.args.object) × (z.1.now ≡ c.args.bounds.now) × TypesFit a.trees z.2.now)
      (λ s x d r e n p. let k = n.called in let q = n.lends in let v = n.leaves in
      let left : e.0.2.now ≡ left_by (finds_own (g.M.Build.context s.1).trees s.0.0 s.0.1.now (arg_tree (g.M.Build.context s.1).trees x).head (arg_tree (g.M.Build.context s.1).trees x).children) s.0.2.now = search rules in
      (search rules, search rules, left-by-fit a.trees _ s.0.2.now e.0.2.now left p.2)) _ s l (refl, refl, c.requires.terms) in
      let t = ty-kept a (g.M.Build.context s.1) c.args.object grown c.requires.object in
      let cs = clauses-kept a (g.M.Build.context s.1) c.args.bounds.now grown c.requires.bounds in
      let us = types_kept a.trees (g.M.Build.context s.1).trees s.0.2.now grown.kept held.2 in
      search rules;
}

pub returns-clause-tree : goal.returns-clause-tree
returns-clause-tree g c =
    let a = g.M.Build.context c.args.make.now in
    let f = finds_own a.trees c.args.object c.args.bounds.now in
    ok-then c.fold.result _ _
    (λ x p. clause-fill g.M.Build.context g.M.Build.rest _ f (λ z. types_at a.trees z.2.now) _ (unasked-none (ty_tree a.trees c.args.object) (clauses_at a.trees c.args.bounds.now))
    (λ s d t o e l k.
    let grown = reached-grows g.M.Build.context g.M.Build.rest _ _ s l in
    let held = reached-keeps _ _ _ (λ z. (z.0 ≡ c.args.object) × (z.1.now ≡ c.args.bounds.now) × TypesFit a.trees z.2.now)
    (λ s x d r e n p. let k = n.called in let q = n.lends in let v = n.leaves in
    let left : e.0.2.now ≡ left_by (finds_own (g.M.Build.context s.1).trees s.0.0 s.0.1.now (arg_tree (g.M.Build.context s.1).trees x).head (arg_tree (g.M.Build.context s.1).trees x).children) s.0.2.now = search rules in
    (search rules, search rules, left-by-fit a.trees _ s.0.2.now e.0.2.now left p.2)) _ s l (refl, refl, c.requires.terms) in
    let says = k.says in let called = says.called in let q = says.lends in let v = says.leaves in
    let b = g.M.Build.context s.1 in
    let here-tree = arg_tree b.trees k.of in
    let same : e.1 ≡ s.1 = search rules in
    let answer : option_map (arg_tree b.trees) k.answer ≡ answered (finds_own b.trees c.args.object c.args.bounds.now here-tree.head here-tree.children) here-tree (types_at b.trees s.0.2.now) = search rules in
    let left : e.0.2.now ≡ left_by (finds_own b.trees c.args.object c.args.bounds.now here-tree.head here-tree.children) s.0.2.now = search rules in
    let seen : option_map (arg_tree b.trees) k.answer ≡ o = ap (λ (m : _). option_map (arg_tree (g.M.Build.context m).trees) k.answer) (sym same) ∙ k.seen in
    said-at-start a b c.args.object c.args.bounds.now s.0.2.now e.0.2.now k.of t k.answer o grown c.requires.object c.requires.bounds held.2 k.tree seen answer left)
    (clause_tree a.trees c.args.clause) (clause_tree (g.M.Build.context c.fold.new.make).trees x) here (clause-none a.trees c.args.clause c.args.object c.args.bounds.now c.requires.clause) p)
    c.fold.ensures.outcome.1.folded

pub returns-clause-cause : goal.returns-clause-cause
returns-clause-cause g c =
    let start = g.M.Build.context c.args.make.now in
    fold-unmade g.M.Build.context g.M.Build.rest _ (λ t u y n z says. let called = says.called in let q = says.lends in let v = says.leaves in search rules)
    _ _ 0 ClauseKind c.args.clause.0 c.fold.result (below_kind start.trees c.args.clause.0 ClauseKind refl c.requires.clause) c.fold.ensures.outcome.1.grows c.fold.ensures.outcome.1.stopped

pub returns-then-is_empty-clause-tree : goal.returns-then-is_empty-clause-tree
returns-then-is_empty-clause-tree g c =
    let ts = (g.M.Build.context c.args.make.now).trees in
    clause-without-terms (finds_own ts c.args.object c.args.bounds.now) (types_at ts c.args.terms.now) (clause_tree ts c.args.clause)
    (ap (types_at ts) (empty-list c.args.terms.now (sym c.is_empty.ensures ∙ c.if-is_empty.true)))

pub returns-then-is_empty-clause-grows : goal.returns-then-is_empty-clause-grows
returns-then-is_empty-clause-grows g c = grows-refl _
