use Rattle.std.proofs.Common.{◌≡◌, ap, ◌∙◌}
use Rattle.ir_trees.specs.declared.ir.kinds.Clause.{Clause}
use Rattle.ir_trees.specs.declared.ir.kinds.PredicatePolarity.TheVariants as Pol
use Rattle.ir_trees.specs.Syntax.Trees.{none, Tree}
use Rattle.ir_trees.specs.Syntax.Words.{args_forest, clause_tree, ty_tree}
use Rattle.ir_trees.proofs.Growth.Kept.{args-kept, grows-trans, ty-kept}
use Rattle.candidate_assembly.specs.Rules.BuiltinRules.{holds_of, pair_of}
use Rattle.candidate_assembly.specs.Rules.Unsizing.{tail_of}
use Rattle.candidate_assembly.proofs.Calls.Causes.{so-err, so-ok}
use Rattle.candidate_assembly.proofs.Unsizing.Tails.{adt-fits-still, tail-kept}
use Rattle.std.proofs.lemmas.Result.{err_from_is_err_and}
use Rattle.candidate_eval.proofs.Interface.Unmade.{unmade-before}
use Rattle.candidate_assembly.proofs.trait_goals.unsizing.tails_unsize.Goals as goal

pub tail-requires-2-clause-args : goal.tail-requires-2-clause-args
tail-requires-2-clause-args g c = (args-kept (g.M.Build.context c.args.make.now) (g.M.Build.context c.tail.new.make) c.args.to c.tail.ensures.grows c.requires.to).0

pub tail-requires-2-clause-fit : goal.tail-requires-2-clause-fit
tail-requires-2-clause-fit g c = adt-fits-still (g.M.Build.context c.args.make.now) (g.M.Build.context c.tail.new.make) c.args.adt c.args.to c.tail.ensures.grows c.requires.to c.requires.to_fit

pub unsizes-requires-clause-from : goal.unsizes-requires-clause-from
unsizes-requires-clause-from g c = (ty-kept (g.M.Build.context c.tail.new.make) (g.M.Build.context c.tail-2.new.make) c.in_ok-left.left c.tail-2.ensures.grows c.in_ok-left.ensures.sort).0

pub returns-clause-tree : goal.returns-clause-tree
returns-clause-tree g c =
    let old = g.M.Build.context c.args.make.now in
    let mid = g.M.Build.context c.tail.new.make in
    let last = g.M.Build.context c.tail-2.new.make in
    let end = g.M.Build.context c.unsizes.new.make in
    let n = c.args.adt.0 in
    let t = ty_tree last.trees c.in_ok-left.left in
    let u = ty_tree last.trees c.in_ok-right.right in
    let v = tail_of old n (args_forest old.trees c.args.from) in
    let w = tail_of old n (args_forest old.trees c.args.to) in
    let left : t ≡ v = (ty-kept mid last c.in_ok-left.left c.tail-2.ensures.grows c.in_ok-left.ensures.sort).1 ∙ c.in_ok-left.ensures.tree in
    let right : u ≡ w = c.in_ok-right.ensures.tree ∙ tail-kept old mid n c.args.to c.tail.ensures.grows c.requires.to c.in_ok-left.ensures.declared in
    let is : holds_of c.args.unsize Pol.Positive none (pair_of t u) ≡ holds_of c.args.unsize Pol.Positive none (pair_of v w)
    = ap (λ (x : Tree). holds_of c.args.unsize Pol.Positive none (pair_of x u)) left ∙ ap (λ (x : Tree). holds_of c.args.unsize Pol.Positive none (pair_of v x)) right in
    so-ok c.unsizes.result {P = λ (x : Clause). clause_tree end.trees x ≡ holds_of c.args.unsize Pol.Positive none (pair_of t u)} (λ x m. m ∙ is) c.unsizes.ensures.tree

pub returns-in_err-right-clause-cause : goal.returns-in_err-right-clause-cause
returns-in_err-right-clause-cause g c =
    let p = err_from_is_err_and c.from_residual-in_err-right.result c.from_residual-in_err-right.ensures.1 in
    rw (p.1, p.2) (unmade-before c.tail.ensures.grows c.in_err-right.ensures.cause)

pub returns-clause-cause : goal.returns-clause-cause
returns-clause-cause g c = so-err c.unsizes.result (λ s x. unmade-before (grows-trans _ _ _ c.tail.ensures.grows c.tail-2.ensures.grows) x) c.unsizes.ensures.cause
