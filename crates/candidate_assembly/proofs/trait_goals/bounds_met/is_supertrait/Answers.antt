use Rattle.std.proofs.Common.{◌∙◌, sym}
use Rattle.std.specs.Prelude.{slice_index_or}
use Rattle.std.proofs.lemmas.List.{get_or_default}
use Rattle.std.proofs.lemmas.List.Elements.{All-get_or}
use Rattle.ir_trees.specs.declared.ir.kinds.Clause.{Clause}
use Rattle.ir_trees.specs.Syntax.Words.{IsClause, clause_tree}
use Rattle.ir_trees.proofs.Validity.Misplacing.{any_in, any_on, any_past}
use Rattle.candidate_assembly.specs.Rules.BuiltinRules.{is_of_trait}
use Rattle.candidate_assembly.proofs.trait_goals.bounds_met.is_supertrait.Goals as goal

pub is_of_trait-requires : goal.is_of_trait-requires
is_of_trait-requires c = All-get_or (IsClause c.args.cx.now.trees) c.args.supers.now c.loop-clause.clause-index (record { 0 = 0 }) c.loop-clause-test.true c.requires

pub returns-then-is_of_trait : goal.returns-then-is_of_trait
returns-then-is_of_trait c =
    let d : Clause = record { 0 = 0 } in
    let xs = c.args.supers.now in
    let x = slice_index_or xs c.loop-clause.clause-index d in
    let at = get_or_default xs c.loop-clause.clause-index d x c.loop-clause-test.true in
    sym (any_in (λ (p : Clause). is_of_trait c.args.of.0 (clause_tree c.args.cx.now.trees p).head) xs c.loop-clause.clause-index x c.loop-clause-test.true at (sym c.is_of_trait.ensures ∙ c.if-is_of_trait.true))

pub loop-clause-preserved : goal.loop-clause-preserved
loop-clause-preserved c =
    let d : Clause = record { 0 = 0 } in
    let xs = c.args.supers.now in
    let x = slice_index_or xs c.loop-clause.clause-index d in
    let at = get_or_default xs c.loop-clause.clause-index d x c.loop-clause-test.true in
    any_on (λ (p : Clause). is_of_trait c.args.of.0 (clause_tree c.args.cx.now.trees p).head) xs c.loop-clause.clause-index x c.loop-clause-test.true at (sym c.is_of_trait.ensures ∙ c.if-is_of_trait.false) c.loop-clause.invariant

pub returns : goal.returns
returns c = sym (any_past (λ (p : Clause). is_of_trait c.args.of.0 (clause_tree c.args.cx.now.trees p).head) c.args.supers.now c.loop-clause.clause-index c.loop-clause-test.false c.loop-clause.invariant)
