use Rattle.std.proofs.Common.{sym, ◌∙◌}
use Rattle.std.specs.Prelude.{slice_index_or}
use Rattle.std.proofs.lemmas.List.{get_or_default}
use Rattle.ir_trees.specs.declared.ir.kinds.Clause.{Clause}
use Rattle.ir_context.proofs.Hierarchy.Listing.{listed_clause}
use Rattle.ir_folds.proofs.Hierarchy.Choosing.{one_chosen, one_left}
use Rattle.ir_folds.proofs.decl.elaborate.trait_clauses.Goals as goal
use Rattle.ir_folds.proofs.decl.elaborate.trait_clauses.Goals.{then-is_trait_clause+in_ok-push, else-is_trait_clause}

pub is_trait_clause-requires : goal.is_trait_clause-requires
is_trait_clause-requires c =
    let past : Clause = record { 0 = 0 } in
    let x = slice_index_or c.args.list.now c.loop-clause.clause-index past in
    listed_clause _ c.args.list.now c.loop-clause.clause-index x c.requires c.loop-clause-test.true (get_or_default c.args.list.now c.loop-clause.clause-index past x c.loop-clause-test.true)

pub loop-clause-preserved : goal.loop-clause-preserved
loop-clause-preserved c =
    let past : Clause = record { 0 = 0 } in
    let x = slice_index_or c.args.list.now c.loop-clause.clause-index past in
    let at = get_or_default c.args.list.now c.loop-clause.clause-index past x c.loop-clause-test.true in
    elim c.if-is_trait_clause.branch [
      | then-is_trait_clause+in_ok-push w ↦
          rw w.chosen-is
          (one_chosen _ c.args.list.now c.loop-clause.chosen.items _ c.loop-clause.clause-index x c.loop-clause.invariant c.loop-clause-test.true at
          (listed_clause _ c.args.list.now c.loop-clause.clause-index x c.requires c.loop-clause-test.true at) (sym c.is_trait_clause.ensures ∙ w.if-is_trait_clause.true) w.in_ok-push.ensures.items)
      | else-is_trait_clause w ↦
          rw w.chosen-is
          (one_left _ c.args.list.now c.loop-clause.chosen.items c.loop-clause.clause-index x c.loop-clause.invariant c.loop-clause-test.true at (sym c.is_trait_clause.ensures ∙ w.if-is_trait_clause.false))
    ]
