-- The rules of unsizing are no rules of the language: none of them wins over all others.
use Rattle.std.proofs.Common.{refl, ℕ, suc, Bool, true, false, Option, Some, None, List, [], ◌∷◌}
use Rattle.std.specs.Prelude.{if◌then◌else◌}
use Rattle.ir_trees.specs.declared.decl.contents.LangItem.TheVariants as L
use Rattle.ir_trees.specs.declared.ir.kinds.TraitId.{TraitId}
use Rattle.ir_trees.specs.Declarations.Context.{Context}
use Rattle.ir_trees.specs.Declarations.Lookups.{adt_shape, definition}
use Rattle.ir_trees.specs.Syntax.Trees.{Tree}
use Rattle.candidate_eval.specs.declared.eval.source.CandidateSource.TheVariants as Source
use Rattle.candidate_eval.specs.declared.eval.source.BuiltinImplSource.TheVariants as Builtin
use Rattle.candidate_eval.specs.Derivations.ImplRules.{TraitGoal}
use Rattle.candidate_eval.specs.Derivations.Judging.{Ambiguous}
use Rattle.candidate_eval.specs.Dynamic.Replacing.{without_first}
use Rattle.candidate_eval.specs.Derivations.Rules.{Rule}
use Rattle.candidate_assembly.specs.declared.trait_goals.unsizing_rows.UnsizingRow.{UnsizingRow}
use Rattle.candidate_assembly.specs.declared.trait_goals.unsizing_rows.UnsizingRow.TheVariants as R
use Rattle.candidate_assembly.specs.Answers.Assembled.{HaveOtherSources, AddsOthers}
use Rattle.candidate_assembly.specs.Rules.BuiltinRules.{self_of}
use Rattle.candidate_assembly.specs.Rules.DynBounds.{first_listed, principal_in}
use Rattle.candidate_assembly.specs.Goals.TraitGoals.{item_trait}
use Rattle.candidate_assembly.specs.Goals.TraitRules.{trait_bounds}
use Rattle.candidate_assembly.specs.Rules.Unsizing.{any_to_dyn, is_struct, keeps_principal, rules_of_row, struct_to_struct, unsizing_row, upcast_rule, upcasts}

upcasts_others : (c : Context) (supers : List Tree) (g : TraitGoal) (from to : Tree) (n : ℕ) (ts : List Tree) → HaveOtherSources (upcasts c supers g from to n ts)
upcasts_others c supers g from to n [] = tt
upcasts_others c supers g from to n (t ∷ ts) = (refl, upcasts_others c supers g from to (suc n) ts)

if_others : (b : Bool) (xs ys : List Rule) → HaveOtherSources xs → HaveOtherSources ys → HaveOtherSources (if b then xs else ys)
if_others true xs ys h k = h
if_others false xs ys h k = k

to_dyn_others : (c : Context) (g : TraitGoal) (from to : Tree) (sized : Option TraitId) → HaveOtherSources (any_to_dyn c g from to sized)
to_dyn_others c g from to None = tt
to_dyn_others c g from to (Some sized) = (refl, tt)

row_others : (c : Context) (supers : List Tree) (g : TraitGoal) (from to : Tree) (r : UnsizingRow) → HaveOtherSources (rules_of_row c supers g from to r)
row_others c supers g from to R.Ambiguous = (refl, tt)
row_others c supers g from to R.DynToDyn =
    if_others (keeps_principal (principal_in from) (principal_in to))
    (upcast_rule c supers g (Source.BuiltinImpl Builtin.Misc) from to (first_listed supers) ∷ [])
    (upcasts c supers g from to 1 (without_first supers)) (refl, tt) (upcasts_others c supers g from to 1 (without_first supers))
row_others c supers g from to R.ToDyn = to_dyn_others c g from to (item_trait c L.Sized)
row_others c supers g from to R.ArrayToSlice = (refl, tt)
row_others c supers g from to (R.Struct i) =
    if_others (is_struct (adt_shape (definition c i.0))) (struct_to_struct c g i.0 from to ∷ []) [] (refl, tt) tt
row_others c supers g from to R.Nothing = tt

pub trait_adds : (c : Context) → AddsOthers trait_bounds c
trait_adds c = record {
  additional = λ g t. tt;
  unsizing = λ supers g t. row_others c supers g (self_of g) t (unsizing_row (self_of g).head t.head);
}
