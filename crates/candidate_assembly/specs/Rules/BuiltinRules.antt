-- The rules of the language for goals of traits: each a row of side condition, nested clauses, source and certainty.
use Rattle.std.specs.Prelude.{ℕ, Bool, true, false, ◌&&◌, ◌||◌, ◌==◌, not, Option, Some, None, List, [], ◌∷◌, map, if◌then◌else◌}
use Rattle.std.specs.List.{list_any}
use Rattle.ir_trees.specs.declared.decl.contents.LangItem.TheVariants as L
use Rattle.ir_trees.specs.declared.decl.contents.Sizedness.{Sizedness}
use Rattle.ir_trees.specs.declared.decl.definition.AdtFlags.{AdtFlags}
use Rattle.ir_trees.specs.declared.decl.definition.TraitFlags.{TraitFlags}
use Rattle.ir_trees.specs.declared.ir.heads.Builtin.TheVariants as B
use Rattle.ir_trees.specs.declared.ir.heads.ClauseHead.TheVariants as Cl
use Rattle.ir_trees.specs.declared.ir.heads.Head.{Head}
use Rattle.ir_trees.specs.declared.ir.heads.Head.TheVariants as H
use Rattle.ir_trees.specs.declared.ir.heads.PartHead.TheVariants as P
use Rattle.ir_trees.specs.declared.ir.kinds.AliasKind.TheVariants as AK
use Rattle.ir_trees.specs.declared.ir.kinds.Args.{Args}
use Rattle.ir_trees.specs.declared.ir.kinds.Clause.{Clause}
use Rattle.ir_trees.specs.declared.ir.kinds.ClosureKind.{ClosureKind}
use Rattle.ir_trees.specs.declared.ir.kinds.GoalSource.TheVariants.{ImplWhereBound}
use Rattle.ir_trees.specs.declared.ir.kinds.PredicatePolarity.{PredicatePolarity}
use Rattle.ir_trees.specs.declared.ir.kinds.PredicatePolarity.TheVariants as Pol
use Rattle.ir_trees.specs.declared.ir.kinds.TraitId.{TraitId}
use Rattle.ir_trees.specs.declared.ir.kinds.TraitPredicate.{TraitPredicate}
use Rattle.ir_trees.specs.Declarations.Context.{Context}
use Rattle.ir_trees.specs.Declarations.Contents.{Bounds}
use Rattle.ir_trees.specs.Declarations.Declaring.{bounds_at, trait_at}
use Rattle.ir_trees.specs.Instantiation.Folding.{substituted_tree}
use Rattle.ir_trees.specs.Instantiation.Opening.{opened_tree}
use Rattle.ir_trees.specs.declared.ir.heads.Flag.TheVariants as F
use Rattle.ir_trees.specs.Syntax.Flags.{mark}
use Rattle.ir_trees.specs.Unification.ImplLists.{head_impls}
use Rattle.ir_trees.specs.Unification.Impls.{relevant_impls}
use Rattle.ir_trees.specs.Declarations.Lookups.{adt_flags, definition, maybe, trait_flags}
use Rattle.ir_trees.specs.Syntax.Trees.{Kind, Forest, none, tree, Tree, holds}
use Rattle.ir_trees.specs.Syntax.Words.{args_forest, clause_tree}
use Rattle.ir_trees.specs.Declarations.Worlds.{Reference}
use Rattle.candidate_eval.specs.declared.eval.source.CandidateSource.{CandidateSource}
use Rattle.candidate_eval.specs.declared.eval.source.CandidateSource.TheVariants.{BuiltinImpl}
use Rattle.candidate_eval.specs.declared.eval.source.BuiltinImplSource.TheVariants.{Misc, Trivial}
use Rattle.candidate_eval.specs.Builtins.Callable.{Callable, Calls, CalledWith, Undetermined, calls}
use Rattle.candidate_eval.specs.declared.eval.certainty.Certainty.TheVariants.{Yes}
use Rattle.candidate_eval.specs.Outcomes.Certainties.{AMBIGUOUS}
use Rattle.candidate_eval.specs.Derivations.Characterization.{binder_kinds}
use Rattle.candidate_eval.specs.Derivations.ImplRules.{TraitGoal}
use Rattle.candidate_eval.specs.Derivations.Naming.{named_tree}
use Rattle.candidate_eval.specs.Dynamic.ObjectRequirements.{first_tree, trait_said}
use Rattle.candidate_eval.specs.Derivations.Rules.{Step, fresh, enter, equate, quick, Rule, ask, nested, nested_misc}
use Rattle.candidate_eval.specs.Interface.Evaluators.{rigid}
use Rattle.candidate_eval.specs.Judges.States.{State}
use Rattle.candidate_eval.specs.Builtins.Tables.{Cell, Asks, cell, is_manually_drop, row_of}
use Rattle.candidate_eval.specs.declared.structural.Column.TheVariants as C
use Rattle.candidate_assembly.specs.Goals.Kinds.{BuiltinRule, ErrorRule, AutoTraitRule, TraitAliasRule, SizednessRule, CopyCloneRule, FnTraitRule, FnPtrTraitRule, TupleRule, PointeeRule, DiscriminantKindRule, DestructRule, NoDropRule}
use Rattle.candidate_assembly.specs.declared.trait_goals.no_drop.NoDrop.{NoDrop}
use Rattle.candidate_assembly.specs.declared.trait_goals.no_drop.NoDrop.TheVariants as D
use Rattle.candidate_assembly.specs.Answers.Telling.{asking_rule, flat_rule}
use Rattle.candidate_assembly.specs.Goals.TraitGoals.{is_positive, item_trait, with_first}

abbrev pub self_of : TraitGoal → Tree
self_of g = first_tree g.reference.arguments

abbrev pub positive : TraitGoal → Bool
positive g = is_positive g.polarity

abbrev pub misc : CandidateSource
misc = BuiltinImpl Misc

-- A rule that never applies, one that asks at once, and one that asks after these steps.

abbrev pub no_rule : TraitGoal → Rule
no_rule g = asking_rule g.env false Yes

abbrev pub plain_rule : TraitGoal → Bool → Rule
plain_rule g applies = asking_rule g.env applies Yes

-- what is asked for where the goal says too little
abbrev pub ambiguous_rule : TraitGoal → Bool → Rule
ambiguous_rule g applies = asking_rule g.env applies AMBIGUOUS

-- Clauses.

-- that the trait holds of a tree, under a binder of these variables
abbrev pub holds_of : TraitId → PredicatePolarity → Forest → Forest → Tree
holds_of i p vars args = record { head = H.Part (P.Clause (Cl.Trait i p)); children = tree (H.Part P.Vars) vars args }

-- what a predicate with these arguments says of its self type, said of another
abbrev pub said_of_type : Forest → TraitPredicate → Tree → Tree
said_of_type args p t = holds_of p.trait_ref.def_id p.polarity none (with_first t args)

-- the goal's trait with another self type
abbrev pub for_type : TraitGoal → Tree → Tree
for_type g t = holds_of (record { 0 = g.reference.trait }) g.polarity none (with_first t g.reference.arguments)

abbrev pub for_types : TraitGoal → List Tree → List Tree
for_types g ts = map (for_type g) ts

-- a trait without parameters holds of the type
abbrev pub meets : TraitId → Tree → Tree
meets i t = holds_of i Pol.Positive none (tree t.head t.children none)

-- A tree under a binder of variables of these kinds, with the rule's first variables in their place; where there are none, nothing is named.

abbrev pub with_names : List Kind → Tree → Tree
with_names [] t = t
with_names (k ∷ ks) t = named_tree 0 (k ∷ ks) t

-- What stood under a binder, with trees in the place of its variables; and what stood under none.

abbrev pub opened_by : Option Forest → Tree → Tree
opened_by None t = t
opened_by (Some values) t = opened_tree values t

abbrev pub values_at : List Tree → Option Args → Option Forest
values_at ts None = None
values_at ts (Some a) = Some (args_forest ts a)

-- placeholders of a fresh universe for variables of these kinds, if there are any
abbrev pub entered_values : State → List Kind → Option Forest
entered_values S [] = None
entered_values S (k ∷ ks) = Some (rigid S (k ∷ ks))

-- Parts under a binder of these kinds meet the goal's trait, with placeholders of a fresh universe for its variables.
abbrev pub entered_rule : TraitGoal → Bool → CandidateSource → List Kind → List Tree → Rule
entered_rule g applies s ks ts = record {
  env = g.env;
  applies = applies;
  steps = enter ks ∷ nested (for_types g (map (with_names ks) ts));
  ending = ask s Yes;
}

-- The parts that a cell of the tables asks about meet the goal's trait.
abbrev pub parts_rule : TraitGoal → Bool → CandidateSource → Cell → Rule
parts_rule g applies s (Asks p) = entered_rule g applies s (binder_kinds p.variables) p.types
parts_rule g applies s _ = no_rule g

-- The predicate holds an error, be it a type, a constant or a region.
abbrev pub error_rule : TraitGoal → Rule
error_rule g = plain_rule g (holds (mark F.Error) g.reference.arguments)

-- Auto traits: the parts of a type that no impl may be for.

abbrev pub is_nonempty : {A : Type 0} → List A → Bool
is_nonempty [] = false
is_nonempty (x ∷ xs) = true

abbrev pub has_relevant_impl : Context → Reference → Bool
has_relevant_impl c r = is_nonempty (relevant_impls c r.trait (first_tree r.arguments))

abbrev pub has_impl_of_head : Context → Reference → Bool
has_impl_of_head c r = is_nonempty (head_impls c r.trait (first_tree r.arguments).head)

abbrev pub is_set : {F : Type 0} → (F → Bool) → Option F → Bool
is_set flag None = false
is_set flag (Some f) = flag f

abbrev pub flag_of_trait : (TraitFlags → Bool) → Context → ℕ → Bool
flag_of_trait flag c n = is_set flag (trait_flags (definition c n))

abbrev pub flag_of_adt : (AdtFlags → Bool) → Context → ℕ → Bool
flag_of_adt flag c n = is_set flag (adt_flags (definition c n))

-- whether what is said of a trait is said of this one, of whatever polarity
abbrev pub is_said_of : ℕ → Option (TraitId × PredicatePolarity) → Bool
is_said_of n None = false
is_said_of n (Some said) = said.0.0 == n

abbrev pub is_of_trait : ℕ → Head → Bool
is_of_trait n h = is_said_of n (trait_said h)

-- an opaque type whose own bounds speak of the trait
abbrev pub bounds_name : Context → ℕ → ℕ → Bool
bounds_name c alias n = list_any (λ (x : Clause). is_of_trait n (clause_tree c.trees x).head) (maybe [] (λ (b : Bounds). b.self_bounds) (bounds_at c alias))

-- Whether the head of the self type bars it from the trait: `dyn` types, parameters and placeholders; aliases, but opaque types whose own
-- bounds don't speak of the trait; foreign types, but for a trait that types meet by default; and types with unsafe fields, where the
-- trait is unsafe.
abbrev pub auto_barred : Context → ℕ → Head → Bool
auto_barred c of H.Dynamic = true
auto_barred c of (H.Param n) = true
auto_barred c of (H.Placeholder p) = true
auto_barred c of (H.Alias AK.Opaque i) = bounds_name c i.0 of
auto_barred c of (H.Alias k i) = true
auto_barred c of (H.Foreign i) = not (flag_of_trait (λ f. f.default) c of)
auto_barred c of (H.Adt i) = flag_of_trait (λ f. f.unsafe_) c of && flag_of_adt (λ f. f.unsafe_fields) c i.0
auto_barred c of _ = false

-- whether impls are looked for: not for aliases and errors
abbrev pub may_have_impls : Head → Bool
may_have_impls (H.Alias k i) = false
may_have_impls H.Error = false
may_have_impls _ = true

-- An impl that may be for the type bars it; where the trait says so, one for types with its head does.
abbrev pub has_barring_impl : Context → Reference → Bool
has_barring_impl c r = if flag_of_trait (λ f. f.by_head) c r.trait then has_impl_of_head c r else has_relevant_impl c r

-- An impl says otherwise than the rule.
abbrev pub auto_refused : Context → Reference → Head → Bool
auto_refused c r h = auto_barred c r.trait h || (may_have_impls h && has_barring_impl c r)

-- an integer or floating-point variable says too little
abbrev pub is_numeric_variable : Head → Bool
is_numeric_variable (H.Infer v) = true
is_numeric_variable _ = false

abbrev pub auto_rule : Context → TraitGoal → Rule
auto_rule c g =
    let t = self_of g in
    if is_numeric_variable t.head then ambiguous_rule g (positive g)
    else parts_rule g (positive g && not (auto_refused c g.reference t.head)) misc (cell C.Auto (row_of c t))

-- Trait aliases: the trait's where clauses.
abbrev pub trait_alias_rule : Context → TraitGoal → Rule
trait_alias_rule c g = record {
  env = g.env;
  applies = positive g;
  steps = nested_misc (map (λ (x : Clause). substituted_tree g.reference.arguments (clause_tree c.trees x)) (maybe [] (λ t. t.wheres) (trait_at c g.reference.trait)));
  ending = ask misc Yes;
}

-- Rules over the other columns of the tables.

abbrev pub sizedness_rule : Sizedness → Context → TraitGoal → Rule
sizedness_rule s c g = parts_rule g (positive g) (BuiltinImpl Trivial) (cell (C.Sizedness s) (row_of c (self_of g)))

abbrev pub copy_clone_rule : Context → TraitGoal → Rule
copy_clone_rule c g = parts_rule g (positive g) misc (cell C.CopyClone (row_of c (self_of g)))

-- What is called takes the arguments that the goal names, and its output is sized. The variables of its binder are the rule's first.

abbrev pub call_arguments : TraitGoal → List Kind → Tree → Forest
call_arguments g ks inputs =
    let t = self_of g in
    let i = named_tree 0 ks inputs in
    tree t.head t.children (tree i.head i.children none)

abbrev pub call_steps : TraitGoal → Callable → TraitId → List Step
call_steps g c sized =
    let ks = binder_kinds c.variables in
    let args = call_arguments g ks c.inputs in
    fresh ks ∷ quick g.reference.arguments args ∷ equate g.reference.arguments args ∷ nested (meets sized (named_tree 0 ks c.output) ∷ [])

abbrev pub call_rule : TraitGoal → Calls → Option TraitId → Rule
call_rule g (CalledWith c) (Some sized) = record { env = g.env; applies = positive g; steps = call_steps g c sized; ending = ask misc Yes }
call_rule g Undetermined sized = ambiguous_rule g (positive g)
call_rule g _ sized = no_rule g

abbrev pub fn_rule : ClosureKind → Context → TraitGoal → Rule
fn_rule k c g = call_rule g (calls c k (self_of g)) (item_trait c L.Sized)

-- Function pointers, and for a negative goal types that surely are none.

abbrev pub is_fn_ptr : Head → Bool
is_fn_ptr (H.Builtin (B.FnPtr s)) = true
is_fn_ptr _ = false

abbrev pub is_known_rigid : Head → Bool
is_known_rigid (H.Alias k i) = false
is_known_rigid (H.Param n) = false
is_known_rigid (H.Placeholder p) = false
is_known_rigid (H.Bound v) = false
is_known_rigid (H.Infer v) = false
is_known_rigid H.Error = false
is_known_rigid _ = true

abbrev pub fn_ptr_holds : PredicatePolarity → Head → Bool
fn_ptr_holds Pol.Positive h = is_fn_ptr h
fn_ptr_holds Pol.Negative h = is_known_rigid h && not (is_fn_ptr h)

abbrev pub fn_ptr_rule : TraitGoal → Rule
fn_ptr_rule g = plain_rule g (fn_ptr_holds g.polarity (self_of g).head)

abbrev pub is_tuple : Head → Bool
is_tuple (H.Builtin B.Tuple) = true
is_tuple _ = false

abbrev pub tuple_rule : TraitGoal → Rule
tuple_rule g = plain_rule g (positive g && is_tuple (self_of g).head)

-- No drop: references and what isn't dropped by the language need nothing, tuples and arrays their elements, all else is `Copy`.

abbrev pub no_drop_needs : Context → Head → NoDrop
no_drop_needs c (H.Ref m) = D.Nothing
no_drop_needs c (H.Adt i) = if is_manually_drop (adt_flags (definition c i.0)) then D.Nothing else D.Copy
no_drop_needs c (H.Builtin B.Tuple) = D.Elements
no_drop_needs c (H.Builtin B.Array) = D.Elements
no_drop_needs c _ = D.Copy

abbrev pub copy_rule : TraitGoal → Option TraitId → Rule
copy_rule g None = no_rule g
copy_rule g (Some copy) = flat_rule g.env (positive g) ImplWhereBound (meets copy (self_of g) ∷ []) misc Yes

abbrev pub rule_by_needs : Context → TraitGoal → NoDrop → Rule
rule_by_needs c g D.Nothing = plain_rule g (positive g)
rule_by_needs c g D.Elements = parts_rule g (positive g) misc (cell C.Auto (row_of c (self_of g)))
rule_by_needs c g D.Copy = copy_rule g (item_trait c L.Copy)

abbrev pub no_drop_rule : Context → TraitGoal → Rule
no_drop_rule c g = rule_by_needs c g (no_drop_needs c (self_of g).head)

-- The rules by name.
abbrev pub trait_rule : BuiltinRule → Context → TraitGoal → Rule
trait_rule ErrorRule c g = error_rule g
trait_rule AutoTraitRule c g = auto_rule c g
trait_rule TraitAliasRule c g = trait_alias_rule c g
trait_rule (SizednessRule s) c g = sizedness_rule s c g
trait_rule CopyCloneRule c g = copy_clone_rule c g
trait_rule (FnTraitRule k) c g = fn_rule k c g
trait_rule FnPtrTraitRule c g = fn_ptr_rule g
trait_rule TupleRule c g = tuple_rule g
trait_rule PointeeRule c g = plain_rule g (positive g)
trait_rule DiscriminantKindRule c g = plain_rule g (positive g)
trait_rule DestructRule c g = plain_rule g (positive g)
trait_rule NoDropRule c g = no_drop_rule c g

-- two trees in a row
abbrev pub pair_of : Tree → Tree → Forest
pair_of t u = tree t.head t.children (tree u.head u.children none)
