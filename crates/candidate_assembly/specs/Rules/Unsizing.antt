-- Unsizing: how a value of one type becomes one of another whose size is known at run time alone. Each row is a list of rules.
use Rattle.std.specs.Prelude.{◌≡◌, ℕ, suc, Bool, true, false, ◌&&◌, ◌==◌, ◌+◌, Option, Some, None, List, [], ◌∷◌, ◌++◌, length, map, if◌then◌else◌}
use Rattle.std.specs.List.{filter, flat_map}
use Rattle.ir_trees.specs.declared.decl.contents.LangItem.TheVariants as L
use Rattle.ir_trees.specs.declared.decl.definition.AdtShape.{AdtShape}
use Rattle.ir_trees.specs.declared.decl.definition.AdtShape.TheVariants as Shape
use Rattle.ir_trees.specs.declared.ir.heads.Builtin.TheVariants as B
use Rattle.ir_trees.specs.declared.ir.heads.ClauseHead.{ClauseHead}
use Rattle.ir_trees.specs.declared.ir.heads.ClauseHead.TheVariants as Cl
use Rattle.ir_trees.specs.declared.ir.heads.Head.{Head}
use Rattle.ir_trees.specs.declared.ir.heads.VariableSort.{VariableSort}
use Rattle.ir_trees.specs.declared.ir.heads.VariableSort.TheVariants as Sort
use Rattle.ir_trees.specs.declared.ir.kinds.AdtId.{AdtId}
use Rattle.ir_trees.specs.declared.ir.heads.Head.TheVariants as H
use Rattle.ir_trees.specs.declared.ir.heads.PartHead.TheVariants as P
use Rattle.ir_trees.specs.declared.ir.heads.PredHead.TheVariants as PH
use Rattle.ir_trees.specs.declared.ir.kinds.PredicatePolarity.TheVariants as Pol
use Rattle.ir_trees.specs.declared.ir.kinds.TraitId.{TraitId}
use Rattle.ir_trees.specs.Declarations.Context.{Context}
use Rattle.ir_trees.specs.Declarations.Declaring.{adt_at}
use Rattle.ir_trees.specs.Hierarchy.Elaboration.{number_listed, traits_among}
use Rattle.ir_trees.specs.Declarations.Lookups.{adt_shape, definition, maybe}
use Rattle.ir_trees.specs.Syntax.Nodes.{error_tree}
use Rattle.ir_trees.specs.Unification.Substitutions.{alone}
use Rattle.ir_trees.specs.Hierarchy.Supers.{after_first}
use Rattle.ir_trees.specs.Syntax.Trees.{Kind, Forest, none, tree, Tree}
use Rattle.candidate_eval.specs.declared.eval.certainty.Certainty.TheVariants.{Yes}
use Rattle.candidate_eval.specs.declared.eval.source.BuiltinImplSource.TheVariants.{TraitUpcasting}
use Rattle.candidate_eval.specs.declared.eval.source.CandidateSource.{CandidateSource}
use Rattle.candidate_eval.specs.declared.eval.source.CandidateSource.TheVariants.{BuiltinImpl}
use Rattle.candidate_eval.specs.Builtins.Callable.{last_tree}
use Rattle.candidate_eval.specs.Derivations.Characterization.{bound_kinds}
use Rattle.candidate_eval.specs.Derivations.ImplRules.{TraitGoal}
use Rattle.candidate_eval.specs.Derivations.Naming.{named, row_of}
use Rattle.candidate_eval.specs.Dynamic.ObjectRequirements.{first_tree}
use Rattle.candidate_eval.specs.Dynamic.Required.{each_of}
use Rattle.candidate_eval.specs.Dynamic.Replacing.{first_or, without_first}
use Rattle.candidate_eval.specs.Derivations.Rules.{Match, Upcast, Step, fresh, enter, equate, settle, pick, refuse, Rule, ask, nested, nested_misc}
use Rattle.candidate_eval.specs.declared.eval.response.Candidate.{Candidate as OfNumbers}
use Rattle.candidate_eval.specs.Judges.States.{Env, Judge, State}
use Rattle.candidate_eval.specs.Builtins.Tables.{field_types, last_of}
use Rattle.candidate_assembly.specs.Rules.BuiltinRules.{ambiguous_rule, flag_of_trait, holds_of, is_nonempty, meets, misc, positive, self_of, pair_of}
use Rattle.candidate_assembly.specs.Rules.DynBounds.{ArePrincipalSupers, auto_of, bound_said, bounds_in, first_listed, is_compatible, is_dynamic, principal_in, projects, region_in, same_number, trait_of_bound}
use Rattle.candidate_assembly.specs.Answers.Listing.{Listed, after_these, answers}
use Rattle.candidate_assembly.specs.Goals.TraitGoals.{item_trait}
use Rattle.candidate_assembly.specs.declared.trait_goals.unsizing_rows.UnsizingRow.{UnsizingRow}
use Rattle.candidate_assembly.specs.declared.trait_goals.unsizing_rows.UnsizingRow.TheVariants as R

-- That the one outlives the other, under no variables.
abbrev pub outlives : ClauseHead → Tree → Tree → Tree
outlives h a b = record { head = H.Part (P.Clause h); children = tree (H.Part P.Vars) none (pair_of a b) }

-- `dyn` to `dyn`. The target's bounds are met in their order; each goes on with the rule's next variable.

pub record Met : Type 0 where
  pub steps : List Step
  pub next : ℕ

abbrev pub met_by : List Step → ℕ → Met
met_by steps n = record { steps = steps; next = n }

abbrev pub unmet : ℕ → Met
unmet n = met_by (refuse ∷ []) n

abbrev pub kinds_bound : Tree → List Kind
kinds_bound b = bound_kinds b.children

-- What stands under a bound's binder, with the names from that number on; of a trait clause, the same without its self type.

abbrev pub bound_row : ℕ → Tree → Forest
bound_row n b = named n (kinds_bound b) (after_first b.children)

abbrev pub trait_row : ℕ → Tree → Forest
trait_row n clause = after_first (bound_row n clause)

-- The target's principal, its variables as placeholders, is equated with an instance of the source's, and what is pending evaluated.
abbrev pub principal_steps : ℕ → Tree → Tree → List Step
principal_steps n source target =
    enter (kinds_bound target)
    ∷ fresh (kinds_bound source)
    ∷ equate (trait_row (n + length (kinds_bound target)) source) (bound_row n target)
    ∷ settle
    ∷ []

abbrev pub principal_met : ℕ → Option Tree → Tree → Met
principal_met n None target = unmet n
principal_met n (Some source) target =
    if same_number (trait_of_bound source.head) (trait_of_bound target.head)
    then met_by (principal_steps n source target) (n + length (kinds_bound target) + length (kinds_bound source))
    else unmet n

-- A bound of the source that may say the same of the associated type.
abbrev pub bound_match : ℕ → Tree → Tree → Match
bound_match n target source =
    let own = bound_row (n + length (kinds_bound target)) source in
    record { entered = kinds_bound target; instantiated = kinds_bound source; left = own; right = bound_row n target; term = last_tree own }

abbrev pub projection_met : ℕ → ℕ → List Tree → Tree → Met
projection_met n item sources target = met_by (pick Upcast (map (bound_match n target) (filter (λ b. projects item b.head) sources)) ∷ []) (suc n)

-- The auto traits that the source has: those of its bounds, and those among the supertraits of its principal.
abbrev pub autos : Context → List Tree → List Tree → List ℕ
autos c supers sources = flat_map (λ b. auto_of b.head) sources ++ filter (flag_of_trait (λ f. f.auto) c) (traits_among [] supers)

-- One bound of the target, by its head, where the source has these bounds and this principal.
abbrev pub bound_met : Context → List Tree → List Tree → Option Tree → ℕ → Tree → Head → Met
bound_met c supers sources principal n target (H.Part (P.Pred (PH.Trait i))) = principal_met n principal target
bound_met c supers sources principal n target (H.Part (P.Pred (PH.Projection i))) = projection_met n i.0 sources target
bound_met c supers sources principal n target (H.Part (P.Pred (PH.AutoTrait i))) = if number_listed (autos c supers sources) i.0 then met_by [] n else unmet n
bound_met c supers sources principal n target _ = unmet n

abbrev pub bounds_met : Context → List Tree → List Tree → Option Tree → ℕ → List Tree → List Step
bounds_met c supers sources principal n [] = []
bounds_met c supers sources principal n (b ∷ bs) =
    let m = bound_met c supers sources principal n b b.head in
    m.steps ++ bounds_met c supers sources principal m.next bs

-- And the source's region outlives the target's.
abbrev pub upcast_rule : Context → List Tree → TraitGoal → CandidateSource → Tree → Tree → Option Tree → Rule
upcast_rule c supers g s from to principal = record {
  env = g.env;
  applies = true;
  steps = bounds_met c supers (bounds_in from) principal 0 (bounds_in to) ++ nested (outlives Cl.RegionOutlives (region_in from) (region_in to) ∷ []);
  ending = ask s Yes;
}

-- rules for supertraits, by what such a rule is, numbered from there on
abbrev pub numbered_upcasts : (CandidateSource → Option Tree → Rule) → ℕ → List Tree → List Rule
numbered_upcasts rule n [] = []
numbered_upcasts rule n (t ∷ ts) = rule (BuiltinImpl (TraitUpcasting n)) (Some t) ∷ numbered_upcasts rule (suc n) ts

abbrev pub upcasts : Context → List Tree → TraitGoal → Tree → Tree → ℕ → List Tree → List Rule
upcasts c supers g from to n ts = numbered_upcasts (λ s p. upcast_rule c supers g s from to p) n ts

-- the target asks for no principal, or for one of the source's trait
abbrev pub keeps_principal : Option Tree → Option Tree → Bool
keeps_principal source None = true
keeps_principal None (Some target) = false
keeps_principal (Some source) (Some target) = same_number (trait_of_bound source.head) (trait_of_bound target.head)

-- The principal stays; else it becomes one of its proper supertraits, of which each is tried.
abbrev pub dyn_to_dyn : Context → List Tree → TraitGoal → Tree → Tree → List Rule
dyn_to_dyn c supers g from to =
    if keeps_principal (principal_in from) (principal_in to) then upcast_rule c supers g misc from to (first_listed supers) ∷ []
    else upcasts c supers g from to 1 (without_first supers)

-- What becomes pending where a type is to be a `dyn` type, in this order: that it meets the bounds, that it is sized, and that it outlives the
-- region.
abbrev pub dyn_steps : TraitId → Tree → Tree → List Step
dyn_steps sized from to = nested (map (bound_said from) (bounds_in to) ++ meets sized from ∷ []) ++ nested_misc (outlives Cl.TypeOutlives from (region_in to) ∷ [])

-- Any type to `dyn`: it meets the bounds, is sized and outlives the region. Objects of the principal's trait may be made.
abbrev pub any_to_dyn : Context → TraitGoal → Tree → Tree → Option TraitId → List Rule
any_to_dyn c g from to None = []
any_to_dyn c g from to (Some sized) = record {
  env = g.env;
  applies = is_compatible c (principal_in to);
  steps = dyn_steps sized from to;
  ending = ask misc Yes;
} ∷ []

-- Two types are the same, and these clauses hold.
abbrev pub equal_rule : Env → Tree → Tree → List Tree → Rule
equal_rule e t u cs = record {
  env = e;
  applies = true;
  steps = equate (alone t) (alone u) ∷ nested cs;
  ending = ask misc Yes;
}

-- the types whose first part is the type of their elements
abbrev pub has_elements : Head → Bool
has_elements (H.Builtin B.Array) = true
has_elements (H.Builtin B.Slice) = true
has_elements _ = false

-- An array to a slice of the same elements.
abbrev pub array_to_slice : TraitGoal → Tree → Tree → Rule
array_to_slice g from to = record {
  env = g.env;
  applies = true;
  steps = equate (alone (first_tree from.children)) (alone (first_tree to.children)) ∷ [];
  ending = ask misc Yes;
}

-- A structure to the same one with other arguments for the parameters that unsizing may change: with these taken over it is the target,
-- and the source's last field unsizes to the target's.

abbrev pub unsizing_parameters : Context → ℕ → List ℕ
unsizing_parameters c n = maybe [] (λ a. a.unsizing) (adt_at c n)

-- the first arguments, with those of these numbers from the second: as lists, and as rows of trees
abbrev pub mixed_list : {A : Type 0} → List ℕ → ℕ → List A → List A → List A
mixed_list changed n (x ∷ xs) (y ∷ ys) = (if number_listed changed n then y else x) ∷ mixed_list changed (suc n) xs ys
mixed_list changed n _ _ = []

abbrev pub mixed : List ℕ → ℕ → Forest → Forest → Forest
mixed changed n f g = row_of (mixed_list changed n (each_of f) (each_of g))

abbrev pub tail_of : Context → ℕ → Forest → Tree
tail_of c n args = first_or error_tree (last_of (field_types c n args))

abbrev pub tail_unsizes : Context → TraitGoal → ℕ → Tree → Tree → Tree
tail_unsizes c g n from to = holds_of (record { 0 = g.reference.trait }) Pol.Positive none (pair_of (tail_of c n from.children) (tail_of c n to.children))

abbrev pub struct_to_struct : Context → TraitGoal → ℕ → Tree → Tree → Rule
struct_to_struct c g n from to = record {
  env = g.env;
  applies = is_nonempty (unsizing_parameters c n);
  steps = equate (alone (record { head = from.head; children = mixed (unsizing_parameters c n) 0 from.children to.children })) (alone to)
      ∷ nested (tail_unsizes c g n from to ∷ []);
  ending = ask misc Yes;
}

abbrev pub is_struct : Option AdtShape → Bool
is_struct (Some Shape.Struct) = true
is_struct _ = false

abbrev pub is_array : Head → Bool
is_array (H.Builtin B.Array) = true
is_array _ = false

-- Which row there is, by both heads. A target that is a general variable says too little.

abbrev pub row_to_variable : VariableSort → UnsizingRow
row_to_variable Sort.General = R.Ambiguous
row_to_variable _ = R.Nothing

abbrev pub row_to_dyn : Head → UnsizingRow
row_to_dyn h = if is_dynamic h then R.DynToDyn else R.ToDyn

abbrev pub row_to_slice : Head → UnsizingRow
row_to_slice h = if is_array h then R.ArrayToSlice else R.Nothing

abbrev pub row_to_adt : Head → AdtId → UnsizingRow
row_to_adt (H.Adt i) j = if i.0 == j.0 then R.Struct i else R.Nothing
row_to_adt _ j = R.Nothing

abbrev pub unsizing_row : Head → Head → UnsizingRow
unsizing_row h (H.Infer v) = row_to_variable v.sort
unsizing_row h H.Dynamic = row_to_dyn h
unsizing_row h (H.Builtin B.Slice) = row_to_slice h
unsizing_row h (H.Adt j) = row_to_adt h j
unsizing_row h _ = R.Nothing

abbrev pub rules_of_row : Context → List Tree → TraitGoal → Tree → Tree → UnsizingRow → List Rule
rules_of_row c supers g from to R.Ambiguous = ambiguous_rule g true ∷ []
rules_of_row c supers g from to R.DynToDyn = dyn_to_dyn c supers g from to
rules_of_row c supers g from to R.ToDyn = any_to_dyn c g from to (item_trait c L.Sized)
rules_of_row c supers g from to R.ArrayToSlice = array_to_slice g from to ∷ []
rules_of_row c supers g from to (R.Struct i) = if is_struct (adt_shape (definition c i.0)) then struct_to_struct c g i.0 from to ∷ [] else []
rules_of_row c supers g from to R.Nothing = []

-- The rules for a target in normal form, where these are the supertraits of the principal of the goal's self type, if that is a `dyn` type.
abbrev pub unsizing_rules : Context → List Tree → TraitGoal → Tree → List Rule
unsizing_rules c supers g to = rules_of_row c supers g (self_of g) to (unsizing_row (self_of g).head to.head)

-- the type that a positive goal unsizes to
abbrev pub unsizing_target : TraitGoal → Option Tree
unsizing_target g = if positive g then Some (first_tree (after_first g.reference.arguments)) else None

-- The supertraits are asked for where both types are `dyn` types.

abbrev pub AreSupersIf : Bool → Context → Tree → List Tree → Type 0
AreSupersIf false c t ts = ts ≡ []
AreSupersIf true c t ts = ArePrincipalSupers c t ts

abbrev pub AreUnsizingSupers : Context → Tree → Tree → List Tree → Type 0
AreUnsizingSupers c from to ts = AreSupersIf (is_dynamic from.head && is_dynamic to.head) c from ts

-- What comes of a target in normal form, after candidates that are there: what the judge does to these rules.
pub record IsUnsizedTo (J : Judge) (c : Context) (S : State) (g : TraitGoal) (to : Tree) (before : List OfNumbers) (l : Listed) : Type 0 where
  pub supers : List Tree
  pub are : AreUnsizingSupers c (self_of g) to supers
  pub is : l ≡ after_these c.trees before (answers J S (unsizing_rules c supers g to))
