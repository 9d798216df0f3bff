-- The rules of unsizing say the same where a context has grown: what they read of it is what is declared.
use Rattle.std.proofs.Common.{◌≡◌, ℕ, suc, Bool, true, false, Option, Some, None, List, [], ◌∷◌, ◌++◌, map, refl, sym, ap, ◌∙◌}
use Rattle.std.specs.List.{filter, flat_map}
use Rattle.std.specs.Prelude.{if◌then◌else◌}
use Rattle.ir_trees.specs.declared.decl.contents.LangItem.TheVariants as L
use Rattle.ir_trees.specs.declared.decl.definition.AdtShape.{AdtShape}
use Rattle.ir_trees.specs.declared.decl.definition.TraitFlags.{TraitFlags}
use Rattle.ir_trees.specs.declared.ir.heads.ClauseHead.TheVariants as Cl
use Rattle.ir_trees.specs.declared.ir.heads.Head.{Head}
use Rattle.ir_trees.specs.declared.ir.heads.Head.TheVariants as H
use Rattle.ir_trees.specs.declared.ir.heads.PartHead.TheVariants as P
use Rattle.ir_trees.specs.declared.ir.heads.PredHead.TheVariants as PH
use Rattle.ir_trees.specs.declared.ir.kinds.PredicatePolarity.TheVariants as Pol
use Rattle.ir_trees.specs.declared.ir.kinds.TraitId.{TraitId}
use Rattle.ir_trees.specs.Declarations.Context.{Context, Grows}
use Rattle.ir_trees.specs.Hierarchy.Elaboration.{number_listed, traits_among}
use Rattle.ir_trees.specs.Declarations.Lookups.{adt_shape, definition}
use Rattle.ir_trees.specs.Syntax.Nodes.{error_tree}
use Rattle.ir_trees.specs.Unification.Substitutions.{alone}
use Rattle.ir_trees.specs.Syntax.Trees.{none, Tree}
use Rattle.ir_trees.specs.Validity.WellFormed.{IsWellFormedTable}
use Rattle.candidate_eval.specs.declared.eval.certainty.Certainty.TheVariants.{Yes}
use Rattle.candidate_eval.specs.declared.eval.source.BuiltinImplSource.TheVariants.{TraitUpcasting}
use Rattle.candidate_eval.specs.declared.eval.source.CandidateSource.{CandidateSource}
use Rattle.candidate_eval.specs.declared.eval.source.CandidateSource.TheVariants.{BuiltinImpl}
use Rattle.candidate_eval.specs.Derivations.ImplRules.{TraitGoal}
use Rattle.candidate_eval.specs.Dynamic.Replacing.{first_or, without_first}
use Rattle.candidate_eval.specs.Derivations.Rules.{equate, ask, nested, nested_misc}
use Rattle.candidate_eval.specs.Builtins.Tables.{last_of}
use Rattle.candidate_assembly.specs.Laws.BuiltinLaws.{field_types_stay}
use Rattle.candidate_assembly.specs.Rules.BuiltinRules.{flag_of_trait, holds_of, is_nonempty, meets, misc, self_of, pair_of}
use Rattle.candidate_assembly.specs.Rules.DynBounds.{auto_of, bound_said, bounds_in, first_listed, is_compatible, number_is_compatible, principal_in, region_in, trait_of_bound}
use Rattle.candidate_assembly.specs.Laws.Given.{AdtIsGiven, shaped_adt}
use Rattle.candidate_assembly.specs.Goals.TraitGoals.{item_trait}
use Rattle.candidate_assembly.specs.declared.trait_goals.unsizing_rows.UnsizingRow.{UnsizingRow}
use Rattle.candidate_assembly.specs.declared.trait_goals.unsizing_rows.UnsizingRow.TheVariants as R
use Rattle.candidate_assembly.specs.Rules.Unsizing.{any_to_dyn, autos, bound_met, bounds_met, dyn_to_dyn, is_struct, keeps_principal, met_by, mixed, outlives, struct_to_struct, unmet, rules_of_row, unsizing_parameters, unsizing_row, unsizing_rules, upcast_rule, upcasts}

if-same : {A : Type 0} (s : Bool) (x y d : A) → (s ≡ true → x ≡ y) → (if s then x else d) ≡ (if s then y else d)
if-same true x y d f = f refl
if-same false x y d f = refl

-- what is a struct has fields that are given
struct-given : (c : Context) → IsWellFormedTable c → (n : ℕ) → is_struct (adt_shape (definition c n)) ≡ true → AdtIsGiven c n
struct-given c t n e = of (adt_shape (definition c n)) refl
  where
    of : (o : Option AdtShape) → adt_shape (definition c n) ≡ o → AdtIsGiven c n
    of None q = let no : false ≡ true = sym (ap is_struct q) ∙ e in absurd cc
    of (Some s) q = shaped_adt c t n s q

module _ (old new : Context) (g : Grows old new) where
  -- Flags of traits.

  flag-stays : (flag : TraitFlags → Bool) (n : ℕ) → flag_of_trait flag new n ≡ flag_of_trait flag old n
  flag-stays flag n = ap (λ (c : Context). flag_of_trait flag c n) g.same

  autos-stay : (supers sources : List Tree) → autos new supers sources ≡ autos old supers sources
  autos-stay supers sources = λ j. flat_map (λ b. auto_of b.head) sources ++ filter (λ n. flag-stays (λ f. f.auto) n j) (traits_among [] supers)

  -- A bound of a `dyn` type is met by the same.
  pub bound_met_stays : (supers sources : List Tree) (p : Option Tree) (n : ℕ) (b : Tree) (h : Head) → bound_met new supers sources p n b h ≡ bound_met old supers sources p n b h
  bound_met_stays supers sources p n b (H.Part (P.Pred (PH.AutoTrait i))) = λ j. if number_listed (autos-stay supers sources j) i.0 then met_by [] n else unmet n
  bound_met_stays supers sources p n b (H.Part (P.Pred (PH.Trait i))) = refl
  bound_met_stays supers sources p n b (H.Part (P.Pred (PH.Projection i))) = refl
  bound_met_stays supers sources p n b _ = refl

  -- `dyn` to `dyn`.

  pub bounds_met_stay : (supers sources : List Tree) (p : Option Tree) (n : ℕ) (bs : List Tree) → bounds_met new supers sources p n bs ≡ bounds_met old supers sources p n bs
  bounds_met_stay supers sources p n [] = refl
  bounds_met_stay supers sources p n (b ∷ bs) =
      let m = bound_met old supers sources p n b b.head in
      ap (λ x. x.steps ++ bounds_met new supers sources p x.next bs) (bound_met_stays supers sources p n b b.head) ∙ ap (λ ss. m.steps ++ ss) (bounds_met_stay supers sources p m.next bs)

  pub upcast_stays : (supers : List Tree) (p : TraitGoal) (s : CandidateSource) (from to : Tree) (o : Option Tree) → upcast_rule new supers p s from to o ≡ upcast_rule old supers p s from to o
  upcast_stays supers p s from to o =
      λ j. record { env = p.env; applies = true; steps = bounds_met_stay supers (bounds_in from) o 0 (bounds_in to) j ++ nested (outlives Cl.RegionOutlives (region_in from) (region_in to) ∷ []); ending = ask s Yes }

  upcasts-stay : (supers : List Tree) (p : TraitGoal) (from to : Tree) (n : ℕ) (ts : List Tree) → upcasts new supers p from to n ts ≡ upcasts old supers p from to n ts
  upcasts-stay supers p from to n [] = refl
  upcasts-stay supers p from to n (u ∷ ts) = λ j. upcast_stays supers p (BuiltinImpl (TraitUpcasting n)) from to (Some u) j ∷ upcasts-stay supers p from to (suc n) ts j

  dyn-stays : (supers : List Tree) (p : TraitGoal) (from to : Tree) → dyn_to_dyn new supers p from to ≡ dyn_to_dyn old supers p from to
  dyn-stays supers p from to =
      λ j. if keeps_principal (principal_in from) (principal_in to) then upcast_stays supers p misc from to (first_listed supers) j ∷ []
      else upcasts-stay supers p from to 1 (without_first supers) j

module _ (old new : Context) (t : IsWellFormedTable old) (g : Grows old new) where
  -- Whether objects of a trait may be made.

  number-stays : (o : Option ℕ) → number_is_compatible new o ≡ number_is_compatible old o
  number-stays None = refl
  number-stays (Some n) = flag-stays old new g (λ f. f.dyn_compatible) n

  pub compatible_stays : (o : Option Tree) → is_compatible new o ≡ is_compatible old o
  compatible_stays None = refl
  compatible_stays (Some p) = number-stays (trait_of_bound p.head)

  -- Any type to `dyn`.

  any-by : (p : TraitGoal) (from to : Tree) (o : Option TraitId) → any_to_dyn new p from to o ≡ any_to_dyn old p from to o
  any-by p from to None = refl
  any-by p from to (Some sized) =
      λ j. record {
        env = p.env;
        applies = compatible_stays (principal_in to) j;
        steps = nested (map (bound_said from) (bounds_in to) ++ meets sized from ∷ []) ++ nested_misc (outlives Cl.TypeOutlives from (region_in to) ∷ []);
        ending = ask misc Yes;
      } ∷ []

  any-stays : (p : TraitGoal) (from to : Tree) → any_to_dyn new p from to (item_trait new L.Sized) ≡ any_to_dyn old p from to (item_trait old L.Sized)
  any-stays p from to = ap (λ (c : Context). any_to_dyn new p from to (item_trait c L.Sized)) g.same ∙ any-by p from to (item_trait old L.Sized)

  -- A structure to the same one.

  parameters-stay : (n : ℕ) → unsizing_parameters new n ≡ unsizing_parameters old n
  parameters-stay n = ap (λ (c : Context). unsizing_parameters c n) g.same

  struct-stays : (p : TraitGoal) (n : ℕ) (from to : Tree) → AdtIsGiven old n → struct_to_struct new p n from to ≡ struct_to_struct old p n from to
  struct-stays p n from to f =
      let first = field_types_stay old new n from.children g f in
      let second = field_types_stay old new n to.children g f in
      λ j. record {
        env = p.env;
        applies = is_nonempty (parameters-stay n j);
        steps = equate (alone (record { head = from.head; children = mixed (parameters-stay n j) 0 from.children to.children })) (alone to)
            ∷ nested (holds_of (record { 0 = p.reference.trait }) Pol.Positive none (pair_of (first_or error_tree (last_of (first j))) (first_or error_tree (last_of (second j)))) ∷ []);
        ending = ask misc Yes;
      }

  structs-stay : (p : TraitGoal) (n : ℕ) (from to : Tree)
      → (if is_struct (adt_shape (definition new n)) then struct_to_struct new p n from to ∷ [] else [])
      ≡ (if is_struct (adt_shape (definition old n)) then struct_to_struct old p n from to ∷ [] else [])
  structs-stay p n from to =
      let rules = struct_to_struct new p n from to ∷ [] in
      ap (λ (c : Context). if is_struct (adt_shape (definition c n)) then rules else []) g.same
      ∙ if-same (is_struct (adt_shape (definition old n))) rules (struct_to_struct old p n from to ∷ []) []
      (λ e. ap (λ r. r ∷ []) (struct-stays p n from to (struct-given old t n e)))

  -- The rows.
  row-stays : (supers : List Tree) (p : TraitGoal) (from to : Tree) (r : UnsizingRow) → rules_of_row new supers p from to r ≡ rules_of_row old supers p from to r
  row-stays supers p from to R.Ambiguous = refl
  row-stays supers p from to R.DynToDyn = dyn-stays old new g supers p from to
  row-stays supers p from to R.ToDyn = any-stays p from to
  row-stays supers p from to R.ArrayToSlice = refl
  row-stays supers p from to (R.Struct i) = structs-stay p i.0 from to
  row-stays supers p from to R.Nothing = refl

pub unsizing_stays : (old new : Context) → IsWellFormedTable old → Grows old new → (supers : List Tree) (p : TraitGoal) (t : Tree) → unsizing_rules new supers p t ≡ unsizing_rules old supers p t
unsizing_stays old new w g supers p t = row-stays old new w g supers p (self_of p) t (unsizing_row (self_of p).head t.head)
