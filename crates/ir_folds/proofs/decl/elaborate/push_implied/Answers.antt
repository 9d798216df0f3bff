use Rattle.std.proofs.Common.{◌≡◌, sym, ◌∙◌, subst}
use Rattle.std.specs.Prelude.{◌++◌, map, length, ◌⊎◌, IfOk, IfErr, List}
use Rattle.ir_trees.specs.Syntax.Trees.{Tree}
use Rattle.ir_trees.specs.Declarations.References.{IsWellFormed}
use Rattle.ir_trees.specs.Hierarchy.Elaboration.{unlisted, IsUnmade}
use Rattle.ir_trees.specs.declared.ir.stop.Stop.TheVariants.{Memory}
use Rattle.ir_trees.specs.Syntax.Words.{clause_tree}
use Rattle.ir_folds.proofs.Hierarchy.Saying.{said_takes, said_implies}
use Rattle.ir_folds.proofs.decl.elaborate.push_implied.Goals as goal

pub push_supers-requires-clause-fit : goal.push_supers-requires-clause-fit
push_supers-requires-clause-fit g c =
    said_takes _ _ c.args.clause c.clause-binder.result c.in-Some.trait_ref (subst IsWellFormed c.cx.ensures c.recall_well_formed.ensures) c.cx-2.ensures c.clause-binder.ensures.fits c.clause-binder.ensures.tree
    (sym c.held_reference.ensures ∙ c.in-Some.is)

pub returns-in-Some-clause-trees : goal.returns-in-Some-clause-trees
returns-in-Some-clause-trees g c =
    let start = g.M.Build.context c.args.make.now in
    let before = map (clause_tree start.trees) c.args.list.now.keys in
    let said = said_implies start _ c.args.clause c.clause-binder.result c.in-Some.trait_ref c.cx-2.ensures c.clause-binder.ensures.fits c.clause-binder.ensures.tree (sym c.held_reference.ensures ∙ c.in-Some.is) in
    subst (λ (ts : List Tree). IfOk c.push_supers.result (λ x. map (clause_tree (g.M.Build.context c.push_supers.new.make).trees) c.push_supers.new.list.keys ≡ before ++ unlisted before ts)) said
    c.push_supers.ensures.trees

pub returns-in-Some-clause-cause : goal.returns-in-Some-clause-cause
returns-in-Some-clause-cause g c =
    let start = g.M.Build.context c.args.make.now in
    let said = said_implies start _ c.args.clause c.clause-binder.result c.in-Some.trait_ref c.cx-2.ensures c.clause-binder.ensures.fits c.clause-binder.ensures.tree (sym c.held_reference.ensures ∙ c.in-Some.is) in
    subst (λ (ts : List Tree). IfErr c.push_supers.result (λ s. (s ≡ Memory) ⊎ IsUnmade (length (g.M.Build.context c.push_supers.new.make).trees) ts s)) said c.push_supers.ensures.cause
