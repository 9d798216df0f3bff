use Rattle.std.proofs.Common.{◌≡◌, true, false, map, subst}
use Rattle.ir_trees.specs.Declarations.Context.{Context}
use Rattle.ir_trees.specs.Validity.WellFormed.{IsWellFormedTable}
use Rattle.ir_trees.specs.Syntax.Words.{clause_tree, ty_tree}
use Rattle.ir_trees.proofs.Growth.Made.{IsClause-listed}
use Rattle.candidate_assembly.specs.Calls.Upcasting.{lacks_autos}
use Rattle.candidate_assembly.specs.Rules.DynBounds.{principal_in}
use Rattle.candidate_assembly.specs.Rules.Unsizing.{keeps_principal}
use Rattle.candidate_assembly.proofs.Calls.Causes.{so-ok}
use Rattle.candidate_assembly.proofs.Upcasting.UpcastNeeded.{all-serve, principal-serves}
use Rattle.candidate_assembly.proofs.trait_goals.upcasting.needed_supertraits.Goals as goal

pub returns-then-is_principal_enough-clause-serve : goal.returns-then-is_principal_enough-clause-serve
returns-then-is_principal_enough-clause-serve g c =
    let old = g.M.Build.context c.args.make.now in
    let new = g.M.Build.context c.principal_alone.new.make in
    let t = ty_tree old.trees in
    let table : IsWellFormedTable old = subst (λ (x : Context). IsWellFormedTable x) c.cx.ensures c.recall_well_formed_table.ensures in
    let keeps = subst (λ (x : Context). keeps_principal (principal_in (ty_tree x.trees c.args.from)) (principal_in (ty_tree x.trees c.args.to)) ≡ true) c.cx-2.ensures (c.is_principal_enough.ensures.keeps c.if-is_principal_enough.true) in
    let names = subst (λ (x : Context). lacks_autos x.trees c.args.sources.now c.args.targets.now ≡ false) c.cx-2.ensures (c.is_principal_enough.ensures.names c.if-is_principal_enough.true) in
    so-ok c.principal_alone.result (λ v e. principal-serves old table c.args.from (t c.args.to) c.args.sources.now c.args.targets.now (map (clause_tree new.trees) v.items) c.requires.from_dynamic c.requires.sources_are c.requires.targets_are keeps names e) c.principal_alone.ensures.are

pub returns-clause-serve : goal.returns-clause-serve
returns-clause-serve g c =
    let old = g.M.Build.context c.args.make.now in
    let new = g.M.Build.context c.principal_supertraits.new.make in
    let t = ty_tree old.trees in
    so-ok c.principal_supertraits.result (λ v e. all-serve old (t c.args.from) (t c.args.to) (map (clause_tree new.trees) v.items) e) c.principal_supertraits.ensures.supers

pub returns-clause-sort : goal.returns-clause-sort
returns-clause-sort g c =
    let new = g.M.Build.context c.principal_supertraits.new.make in
    so-ok c.principal_supertraits.result (λ v e. λ k d l. IsClause-listed new.trees v.items k d l e) c.principal_supertraits.ensures.sort
