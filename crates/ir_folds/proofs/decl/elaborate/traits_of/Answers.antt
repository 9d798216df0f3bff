use Rattle.std.proofs.Common.{◌≡◌, subst, refl}
use Rattle.std.specs.Prelude.{slice_index_or, option_map, Option, Some, None}
use Rattle.std.proofs.lemmas.List.{get_or_default}
use Rattle.ir_trees.specs.declared.ir.kinds.Clause.{Clause}
use Rattle.ir_trees.specs.declared.ir.kinds.TraitId.{TraitId}
use Rattle.ir_trees.specs.Syntax.Words.{clause_tree}
use Rattle.ir_trees.specs.Hierarchy.Elaboration.{trait_of}
use Rattle.ir_context.proofs.Hierarchy.Listing.{listed_clause}
use Rattle.ir_folds.proofs.Hierarchy.Numbering.{one_numbered}
use Rattle.ir_folds.proofs.decl.elaborate.traits_of.Goals as goal
use Rattle.ir_folds.proofs.decl.elaborate.traits_of.Goals.{in-Some+in_ok-push_trait, in_default}

pub trait_of-requires : goal.trait_of-requires
trait_of-requires c =
    let past : Clause = record { 0 = 0 } in
    let x = slice_index_or c.args.list.now c.loop-clause.clause-index past in
    listed_clause _ c.args.list.now c.loop-clause.clause-index x c.requires c.loop-clause-test.true (get_or_default c.args.list.now c.loop-clause.clause-index past x c.loop-clause-test.true)

pub loop-clause-preserved : goal.loop-clause-preserved
loop-clause-preserved c =
    let past : Clause = record { 0 = 0 } in
    let x = slice_index_or c.args.list.now c.loop-clause.clause-index past in
    let at = get_or_default c.args.list.now c.loop-clause.clause-index past x c.loop-clause-test.true in
    let Says : Option TraitId → Type 0 = λ o. option_map (λ (i : TraitId). i.0) o ≡ trait_of (clause_tree c.args.cx.now.trees x).head in
    elim c.match-trait_of.branch [
      | in-Some+in_ok-push_trait w ↦
          rw w.ids-is
          (one_numbered _ c.args.list.now c.loop-clause.ids.items _ c.loop-clause.clause-index x (Some w.in-Some.of) c.loop-clause.invariant c.loop-clause-test.true at
          (subst Says w.in-Some.is c.trait_of.ensures) w.in_ok-push_trait.ensures)
      | in_default w ↦
          rw w.ids-is
          (one_numbered _ c.args.list.now c.loop-clause.ids.items _ c.loop-clause.clause-index x None c.loop-clause.invariant c.loop-clause-test.true at (subst Says w.in_default.is c.trait_of.ensures) refl)
    ]
