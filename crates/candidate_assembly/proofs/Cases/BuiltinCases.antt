-- The rules of the language worked out on the small judge, over a few declarations: what each gives a candidate for, and what it refuses.
use Rattle.std.proofs.Common.{◌≡◌, refl, ℕ, List, [], ◌∷◌, true, false, Option, Some, None}
use Rattle.ir_trees.specs.declared.decl.contents.ImplPolarity.{ImplPolarity}
use Rattle.ir_trees.specs.declared.decl.contents.ImplPolarity.TheVariants as I
use Rattle.ir_trees.specs.declared.decl.contents.Sizedness.TheVariants as Z
use Rattle.ir_trees.specs.declared.decl.definition.AdtFlags.{AdtFlags}
use Rattle.ir_trees.specs.declared.decl.definition.AdtShape.TheVariants as Shape
use Rattle.ir_trees.specs.declared.decl.definition.DefinitionKind.{DefinitionKind}
use Rattle.ir_trees.specs.declared.decl.definition.DefinitionKind.TheVariants as D
use Rattle.ir_trees.specs.declared.decl.definition.TraitFlags.{TraitFlags}
use Rattle.ir_trees.specs.declared.ir.heads.Builtin.TheVariants as B
use Rattle.ir_trees.specs.declared.ir.heads.Head.TheVariants as H
use Rattle.ir_trees.specs.declared.ir.heads.ListHead.TheVariants as Li
use Rattle.ir_trees.specs.declared.ir.heads.PartHead.TheVariants as P
use Rattle.ir_trees.specs.declared.ir.heads.Signature.{Signature}
use Rattle.ir_trees.specs.declared.ir.heads.VariableSort.TheVariants as V
use Rattle.ir_trees.specs.declared.ir.kinds.AliasKind.TheVariants as AK
use Rattle.ir_trees.specs.declared.ir.kinds.Binder.{Binder}
use Rattle.ir_trees.specs.declared.ir.kinds.ClosureKind.{ClosureKind}
use Rattle.ir_trees.specs.declared.ir.kinds.ClosureKind.TheVariants as K
use Rattle.ir_trees.specs.declared.ir.kinds.FnSig.{FnSig}
use Rattle.ir_trees.specs.declared.ir.kinds.Mutability.TheVariants as Mut
use Rattle.ir_trees.specs.declared.ir.kinds.PredicatePolarity.{PredicatePolarity}
use Rattle.ir_trees.specs.declared.ir.kinds.PredicatePolarity.TheVariants as Pol
use Rattle.ir_trees.specs.declared.ir.kinds.RegionKind.TheVariants as R
use Rattle.ir_trees.specs.Declarations.Context.{Context}
use Rattle.ir_trees.specs.Declarations.Limits.{first_limits}
use Rattle.ir_trees.specs.Declarations.Declaration.{Declaration}
use Rattle.ir_trees.specs.Instantiation.Folding.{leaf}
use Rattle.ir_trees.specs.Unification.Substitutions.{alone}
use Rattle.ir_trees.specs.Syntax.Trees.{Forest, none, tree, Tree}
use Rattle.candidate_eval.specs.declared.eval.certainty.Certainty.TheVariants.{Yes}
use Rattle.candidate_eval.specs.declared.eval.mode.TypingMode.{TypingMode}
use Rattle.candidate_eval.specs.declared.eval.mode.TypingMode.TheVariants.{Coherence, PostAnalysis}
use Rattle.candidate_eval.specs.declared.eval.source.BuiltinImplSource.TheVariants.{Trivial}
use Rattle.candidate_eval.specs.declared.eval.source.CandidateSource.TheVariants.{BuiltinImpl}
use Rattle.candidate_eval.specs.Outcomes.Certainties.{AMBIGUOUS}
use Rattle.candidate_eval.specs.Derivations.ImplRules.{TraitGoal}
use Rattle.candidate_eval.specs.Derivations.Judging.{judged}
use Rattle.candidate_eval.specs.Derivations.Rules.{Step, enter, nested, nested_misc}
use Rattle.candidate_eval.proofs.Cases.RuleCases.{Told, Says, Nothing, told, impl_trees, misc_says, one_impl, the_impl, goal_of}
use Rattle.candidate_eval.proofs.Cases.RuleToy.{judge, start_with, u8, u16, slice, param, rigid, var, meets}
use Rattle.candidate_assembly.specs.Rules.BuiltinRules.{auto_barred, fn_ptr_holds, is_tuple, no_drop_needs, trait_rule}
use Rattle.candidate_assembly.specs.Goals.Kinds.{BuiltinRule, ErrorRule, AutoTraitRule, TraitAliasRule, SizednessRule, CopyCloneRule, FnTraitRule, FnPtrTraitRule, TupleRule, PointeeRule, DiscriminantKindRule, DestructRule, NoDropRule, rule_of_part}
use Rattle.candidate_assembly.specs.Goals.TraitGoals.{impl_part, serves}
use Rattle.candidate_assembly.specs.declared.trait_goals.no_drop.NoDrop.TheVariants as N

-- What is declared, by its number. Auto traits: one whose impls are unsafe, one that has an impl, and one that types meet by default.

abbrev unsafe_auto : ℕ
unsafe_auto = 0

abbrev auto : ℕ
auto = 1

abbrev default_auto : ℕ
default_auto = 2

-- `Sized`, `MetaSized` and `Copy`, and an alias that stands for the auto trait

abbrev sized : ℕ
sized = 3

abbrev meta_sized : ℕ
meta_sized = 4

abbrev copy : ℕ
copy = 5

abbrev alias : ℕ
alias = 6

-- types of the field `u8`: a plain one, one that an impl of the auto trait is for, one with an unsafe field, one that isn't dropped

abbrev adt : ℕ → Tree
adt n = leaf (H.Adt (record { 0 = n }))

abbrev plain : Tree
plain = adt 7

abbrev with_impl : Tree
with_impl = adt 8

abbrev with_unsafe : Tree
with_unsafe = adt 9

abbrev undropped : Tree
undropped = adt 10

-- a type that hides `u8` and whose bounds speak of the auto trait; a projection; a foreign type

abbrev opaque : Tree
opaque = leaf (H.Alias AK.Opaque (record { 0 = 11 }))

abbrev projected : Tree
projected = leaf (H.Alias AK.Projection (record { 0 = 11 }))

abbrev foreign : Tree
foreign = leaf (H.Foreign (record { 0 = 12 }))

-- an auto trait that an impl for all types is of; `fn(u8) -> u16`, and one that needs features

abbrev blanket : ℕ
blanket = 13

abbrev function : Tree
function = leaf (H.FnDef (record { 0 = 14 }))

abbrev featured : Tree
featured = leaf (H.FnDef (record { 0 = 15 }))

abbrev no_flags : TraitFlags
no_flags = record { auto = false; alias = false; unsafe_ = false; fundamental = false; dyn_compatible = false; default = false; by_head = false; marker = false }

abbrev plain_flags : AdtFlags
plain_flags = record { fundamental = false; phantom_data = false; manually_drop = false; unsafe_fields = false }

-- the signature of the functions
abbrev signature : Binder FnSig
signature = record { vars = record { 0 = 5 }; value = record { inputs = record { 0 = 4 }; output = record { 0 = 6 }; safe = true; rust_abi = true; variadic = false } }

abbrev declared : DefinitionKind → Declaration
declared k = record { crate = record { 0 = 0 }; parameters = []; kind = k }

abbrev declarations : List Declaration
declarations =
    declared (D.Trait (record no_flags { auto = true; unsafe_ = true }) 0)
    ∷ declared (D.Trait (record no_flags { auto = true }) 1)
    ∷ declared (D.Trait (record no_flags { auto = true; default = true }) 0)
    ∷ declared (D.Trait no_flags 0)
    ∷ declared (D.Trait no_flags 0)
    ∷ declared (D.Trait no_flags 0)
    ∷ declared (D.Trait (record no_flags { alias = true }) 2)
    ∷ declared (D.Adt Shape.Struct plain_flags 0)
    ∷ declared (D.Adt Shape.Struct plain_flags 0)
    ∷ declared (D.Adt Shape.Struct (record plain_flags { unsafe_fields = true }) 0)
    ∷ declared (D.Adt Shape.Struct (record plain_flags { manually_drop = true }) 0)
    ∷ declared (D.Opaque (record { 0 = 0 }) 0)
    ∷ declared D.Foreign
    ∷ declared (D.Trait (record no_flags { auto = true }) 3)
    ∷ declared (D.Function (record { is_const = false; target_features = false }) signature)
    ∷ declared (D.Function (record { is_const = false; target_features = true }) signature)
    ∷ []

abbrev vars : Tree
vars = leaf (H.Part P.Vars)

abbrev small : Context
small = record {
  crates = 1;
  local = record { 0 = 0 };
  limits = first_limits;
  declarations = declarations;
  contents = record {
    adts = record { fields = record { 0 = 0 } ∷ []; sized = None; meta_sized = None; destructor = None; unsizing = [] } ∷ [];
    traits =
        record { supers = []; wheres = []; items = []; impls = [] }
        ∷ record { supers = []; wheres = []; items = []; impls = record { 0 = 0 } ∷ [] }
        ∷ record { supers = []; wheres = record { 0 = 1 } ∷ []; items = []; impls = [] }
        ∷ record { supers = []; wheres = []; items = []; impls = record { 0 = 1 } ∷ [] }
        ∷ [];
    bounds = record { self_bounds = record { 0 = 1 } ∷ []; non_self_bounds = [] } ∷ [];
    impls =
        record (one_impl I.Negative) { trait_ref = record { def_id = record { 0 = auto }; args = record { 0 = 2 } } }
        ∷ record (one_impl I.Positive) { trait_ref = record { def_id = record { 0 = blanket }; args = record { 0 = 3 } } }
        ∷ [];
    lang_items = Some (record { 0 = sized }) ∷ Some (record { 0 = meta_sized }) ∷ Some (record { 0 = copy }) ∷ [];
    misnamed = false;
  };
  trees =
      u8
      ∷ meets auto (param 0)
      ∷ record { head = H.List Li.Args; children = alone with_impl }
      ∷ record { head = H.List Li.Args; children = alone (param 0) }
      ∷ record { head = H.List Li.Args; children = alone u8 }
      ∷ vars
      ∷ u16
      ∷ [];
  declared_nodes = 0;
  delayed_bugs = [];
}

-- Goals: a trait holds of a row, or doesn't; and what is told of the rule of one, with so many root variables.

abbrev of_row : PredicatePolarity → ℕ → Forest → TraitGoal
of_row p n ts = record { env = none; reference = record { trait = n; arguments = ts }; polarity = p }

abbrev goal : ℕ → Tree → TraitGoal
goal n t = of_row Pol.Positive n (alone t)

abbrev negative : ℕ → Tree → TraitGoal
negative n t = of_row Pol.Negative n (alone t)

abbrev by : ℕ → BuiltinRule → TraitGoal → Told
by n r g = told (judged (judge []) (start_with PostAnalysis n) (trait_rule r small g))

-- what is nested stays pending
abbrev pends : Told
pends = misc_says none AMBIGUOUS

abbrev holds : Told
holds = misc_says none Yes

-- told where no trait is a lang item
abbrev without_items : BuiltinRule → TraitGoal → Told
without_items r g = told (judged (judge []) (start_with PostAnalysis 0) (trait_rule r (record small { contents = record small.contents { lang_items = [] } }) g))

-- the steps of a rule
abbrev steps : BuiltinRule → TraitGoal → List Step
steps r g = (trait_rule r small g).steps

-- Errors.

-- the type is an error
pub type_error : by 0 ErrorRule (goal copy (leaf H.Error)) ≡ holds
type_error = refl

-- an error counts wherever it stands
pub error_inside : by 0 ErrorRule (goal copy (slice (leaf H.Error))) ≡ holds
error_inside = refl

-- a region counts too, and so does a negative goal
pub region_error : by 0 ErrorRule (of_row Pol.Negative copy (tree u8.head none (alone (leaf (H.Region R.Error))))) ≡ holds
region_error = refl

-- without an error nothing is said
pub no_error : by 0 ErrorRule (goal copy u8) ≡ Nothing
no_error = refl

-- Auto traits.

-- a type without parts
pub auto_of_u8 : by 0 AutoTraitRule (goal auto u8) ≡ holds
auto_of_u8 = refl

-- the parts meet the trait
pub auto_of_parts : by 0 AutoTraitRule (goal auto plain) ≡ pends
auto_of_parts = refl

-- of a struct they are its fields
pub auto_asks_fields : steps AutoTraitRule (goal auto plain) ≡ enter [] ∷ nested (meets auto u8 ∷ [])
auto_asks_fields = refl

-- the rule says nothing of negative goals
pub auto_negative : by 0 AutoTraitRule (negative auto u8) ≡ Nothing
auto_negative = refl

-- an impl says otherwise, be it a negative one
pub auto_with_impl : by 0 AutoTraitRule (goal auto with_impl) ≡ Nothing
auto_with_impl = refl

-- it is of that trait alone
pub auto_with_other_impl : by 0 AutoTraitRule (goal default_auto with_impl) ≡ pends
auto_with_other_impl = refl

-- an impl for all types is for each, but impls for what an alias stands for aren't looked for
pub auto_with_blanket_impl : by 0 AutoTraitRule (goal blanket u8) ≡ Nothing
auto_with_blanket_impl = refl

-- what the alias hides is asked about
pub auto_of_alias_with_impl : by 0 AutoTraitRule (goal blanket opaque) ≡ pends
auto_of_alias_with_impl = refl

-- an integer variable may become one thing or another
pub auto_of_integer : by 0 AutoTraitRule (goal auto (leaf (H.Infer (record { sort = V.Integer; number = 0 })))) ≡ pends
auto_of_integer = refl

-- but no negative goal is left open
pub auto_of_integer_negative : by 0 AutoTraitRule (negative auto (leaf (H.Infer (record { sort = V.Integer; number = 0 })))) ≡ Nothing
auto_of_integer_negative = refl

-- `dyn` types meet auto traits by their bounds
pub dyn_is_barred : auto_barred small auto H.Dynamic ≡ true
dyn_is_barred = refl

-- parameters, and the placeholders that stand for them, by clauses
pub parameter_is_barred : auto_barred small auto (param 0).head ≡ true
parameter_is_barred = refl

-- a placeholder is barred as the parameter that it stands for
pub placeholder_is_barred : auto_barred small auto (rigid 0).head ≡ true
placeholder_is_barred = refl

-- so the rule says nothing of it
pub auto_of_placeholder : by 0 AutoTraitRule (goal auto (rigid 0)) ≡ Nothing
auto_of_placeholder = refl

-- projections, once they are normalised
pub projection_is_barred : auto_barred small auto projected.head ≡ true
projection_is_barred = refl

-- `u8` has nothing that bars it
pub u8_is_not_barred : auto_barred small unsafe_auto u8.head ≡ false
u8_is_not_barred = refl

-- an opaque type is looked into, unless its bounds speak of the trait
pub opaque_says_itself : auto_barred small auto opaque.head ≡ true
opaque_says_itself = refl

-- of another trait they don't
pub opaque_says_nothing : auto_barred small default_auto opaque.head ≡ false
opaque_says_nothing = refl

-- then the type that it hides is asked about
pub auto_of_hidden : steps AutoTraitRule (goal default_auto opaque) ≡ enter [] ∷ nested (meets default_auto u8 ∷ [])
auto_of_hidden = refl

-- foreign types meet what types meet by default
pub foreign_is_barred : by 0 AutoTraitRule (goal auto foreign) ≡ Nothing
foreign_is_barred = refl

-- and are asked about nothing there
pub foreign_by_default : by 0 AutoTraitRule (goal default_auto foreign) ≡ holds
foreign_by_default = refl

-- unsafe fields count where impls are unsafe
pub unsafe_fields_are_barred : by 0 AutoTraitRule (goal unsafe_auto with_unsafe) ≡ Nothing
unsafe_fields_are_barred = refl

-- not where they are safe
pub unsafe_fields_are_safe : by 0 AutoTraitRule (goal auto with_unsafe) ≡ pends
unsafe_fields_are_safe = refl

-- nor fields that are safe
pub safe_fields : by 0 AutoTraitRule (goal unsafe_auto plain) ≡ pends
safe_fields = refl

-- Trait aliases: the where clauses, of the goal's type.

-- with the goal's type for `Self`
pub alias_asks_wheres : steps TraitAliasRule (goal alias plain) ≡ nested_misc (meets auto plain ∷ [])
alias_asks_wheres = refl

-- they stay pending
pub alias_pends : by 0 TraitAliasRule (goal alias plain) ≡ pends
alias_pends = refl

-- the rule says nothing of negative goals
pub alias_negative : by 0 TraitAliasRule (negative alias plain) ≡ Nothing
alias_negative = refl

-- Sizedness: the source is another.

abbrev trivially : Told
trivially = Says (BuiltinImpl Trivial) none Yes

abbrev str : Tree
str = leaf (H.Builtin B.Str)

-- its size is known
pub u8_is_sized : by 0 (SizednessRule Z.Sized) (goal sized u8) ≡ trivially
u8_is_sized = refl

-- that of `str` isn't
pub str_is_unsized : by 0 (SizednessRule Z.Sized) (goal sized str) ≡ Nothing
str_is_unsized = refl

-- but a pointer's metadata tells it
pub str_is_meta_sized : by 0 (SizednessRule Z.MetaSized) (goal meta_sized str) ≡ trivially
str_is_meta_sized = refl

-- the rule says nothing of negative goals
pub sized_negative : by 0 (SizednessRule Z.Sized) (negative sized u8) ≡ Nothing
sized_negative = refl

-- `Copy` and `Clone`: tuples by their elements; those of other types come by impls.

abbrev tuple : Forest → Tree
tuple ts = record { head = H.Builtin B.Tuple; children = ts }

-- each element is asked about
pub copy_of_tuple : steps CopyCloneRule (goal copy (tuple (alone u8))) ≡ enter [] ∷ nested (meets copy u8 ∷ [])
copy_of_tuple = refl

-- where there is none, it holds
pub copy_of_empty_tuple : by 0 CopyCloneRule (goal copy (tuple none)) ≡ holds
copy_of_empty_tuple = refl

-- an impl says it of `u8`
pub copy_of_u8 : by 0 CopyCloneRule (goal copy u8) ≡ Nothing
copy_of_u8 = refl

-- the rule says nothing of negative goals
pub copy_negative : by 0 CopyCloneRule (negative copy (tuple none)) ≡ Nothing
copy_negative = refl

-- What is called: `fn(u8) -> u16`, and closures of that signature.

abbrev pointer_of : Signature → Tree
pointer_of s = record { head = H.Builtin (B.FnPtr s); children = tree vars.head none (tree u8.head none (alone u16)) }

abbrev pointer : Tree
pointer = pointer_of (record { safe = true; rust_abi = true; variadic = false })

abbrev closure : Option ClosureKind → Tree
closure k = record { head = H.Closure (record { 0 = 0 }) k; children = tree (H.Part P.Sig) (tree vars.head none (tree (H.Builtin B.Tuple) (alone u8) (alone u16))) (alone (tuple none)) }

abbrev called : PredicatePolarity → Tree → Tree → TraitGoal
called p t inputs = of_row p 0 (tree t.head t.children (alone inputs))

-- the inputs become the goal's argument, and the output is to be sized
pub pointer_is_called : by 1 (FnTraitRule K.Fn) (called Pol.Positive pointer (var 0)) ≡ misc_says (alone (tuple (alone u8))) AMBIGUOUS
pointer_is_called = refl

-- other inputs are rejected
pub other_inputs : by 0 (FnTraitRule K.Fn) (called Pol.Positive pointer (tuple (alone u16))) ≡ Nothing
other_inputs = refl

-- the rule says nothing of negative goals
pub called_negative : by 0 (FnTraitRule K.Fn) (called Pol.Negative pointer (tuple (alone u8))) ≡ Nothing
called_negative = refl

-- what is no function isn't called
pub u8_is_not_called : by 0 (FnTraitRule K.Fn) (called Pol.Positive u8 (tuple none)) ≡ Nothing
u8_is_not_called = refl

-- where no trait is `Sized`, no output is
pub called_without_sized : without_items (FnTraitRule K.Fn) (called Pol.Positive pointer (tuple (alone u8))) ≡ Nothing
called_without_sized = refl

-- a pointer to an unsafe function isn't called by the traits
pub unsafe_pointer_is_not_called : by 0 (FnTraitRule K.Fn) (called Pol.Positive (pointer_of (record { safe = false; rust_abi = true; variadic = false })) (tuple (alone u8))) ≡ Nothing
unsafe_pointer_is_not_called = refl

-- a function by its signature, unless it needs features
pub function_is_called : by 1 (FnTraitRule K.Fn) (called Pol.Positive function (var 0)) ≡ misc_says (alone (tuple (alone u8))) AMBIGUOUS
function_is_called = refl

-- the target may lack the features
pub featured_is_not_called : by 0 (FnTraitRule K.Fn) (called Pol.Positive featured (tuple (alone u8))) ≡ Nothing
featured_is_not_called = refl

-- it isn't known yet how the closure may be called, but that it may be once is; nothing is equated before that is known
pub undetermined_closure : by 1 (FnTraitRule K.Fn) (called Pol.Positive (closure None) (var 0)) ≡ misc_says (alone (var 0)) AMBIGUOUS
undetermined_closure = refl

-- no negative goal is left open
pub undetermined_negative : by 0 (FnTraitRule K.Fn) (called Pol.Negative (closure None) (tuple (alone u8))) ≡ Nothing
undetermined_negative = refl

-- called once, it takes its inputs
pub undetermined_once : by 1 (FnTraitRule K.FnOnce) (called Pol.Positive (closure None) (var 0)) ≡ misc_says (alone (tuple (alone u8))) AMBIGUOUS
undetermined_once = refl

-- a closure that changes what it holds is called by `FnMut`, not by `Fn`
pub closure_by_mut : by 1 (FnTraitRule K.FnMut) (called Pol.Positive (closure (Some K.FnMut)) (var 0)) ≡ misc_says (alone (tuple (alone u8))) AMBIGUOUS
closure_by_mut = refl

-- it needs more than a shared reference
pub closure_by_reference : by 1 (FnTraitRule K.Fn) (called Pol.Positive (closure (Some K.FnMut)) (var 0)) ≡ Nothing
closure_by_reference = refl

-- Function pointers.

-- a pointer is one
pub pointer_is_one : by 0 FnPtrTraitRule (goal copy pointer) ≡ holds
pointer_is_one = refl

-- `u8` is none
pub u8_is_none : by 0 FnPtrTraitRule (goal copy u8) ≡ Nothing
u8_is_none = refl

-- a negative goal holds of types that surely are none
pub surely_none : by 0 FnPtrTraitRule (negative copy u8) ≡ holds
surely_none = refl

-- of a pointer it doesn't hold
pub pointer_is_surely_one : by 0 FnPtrTraitRule (negative copy pointer) ≡ Nothing
pointer_is_surely_one = refl

-- a placeholder may stand for one
pub placeholder_may_be_one : fn_ptr_holds Pol.Negative (rigid 0).head ≡ false
placeholder_may_be_one = refl

-- an alias too
pub alias_may_be_one : fn_ptr_holds Pol.Negative projected.head ≡ false
alias_may_be_one = refl

-- and a variable
pub variable_may_be_one : fn_ptr_holds Pol.Negative (var 0).head ≡ false
variable_may_be_one = refl

-- an error says nothing
pub error_may_be_one : fn_ptr_holds Pol.Negative H.Error ≡ false
error_may_be_one = refl

-- Tuples.

-- the empty tuple is one
pub tuple_is_one : by 0 TupleRule (goal copy (tuple none)) ≡ holds
tuple_is_one = refl

-- an array is none
pub array_is_no_tuple : is_tuple (H.Builtin B.Array) ≡ false
array_is_no_tuple = refl

-- `u8` is none
pub u8_is_no_tuple : by 0 TupleRule (goal copy u8) ≡ Nothing
u8_is_no_tuple = refl

-- the rule says nothing of negative goals
pub tuple_negative : by 0 TupleRule (negative copy (tuple none)) ≡ Nothing
tuple_negative = refl

-- What holds of each type.

-- also of what is known by clauses alone
pub each_is_pointee : by 0 PointeeRule (goal copy (rigid 0)) ≡ holds
each_is_pointee = refl

-- not negative goals
pub pointee_negative : by 0 PointeeRule (negative copy u8) ≡ Nothing
pointee_negative = refl

-- each type has a discriminant type
pub each_has_discriminant : by 0 DiscriminantKindRule (goal copy (rigid 0)) ≡ holds
each_has_discriminant = refl

-- no type lacks it
pub discriminant_negative : by 0 DiscriminantKindRule (negative copy u8) ≡ Nothing
discriminant_negative = refl

-- each type can be dropped
pub each_is_destruct : by 0 DestructRule (goal copy (rigid 0)) ≡ holds
each_is_destruct = refl

-- no type can't
pub destruct_negative : by 0 DestructRule (negative copy u8) ≡ Nothing
destruct_negative = refl

-- No drop. References and what isn't dropped need nothing.

abbrev reference : Tree
reference = record { head = H.Ref Mut.Mut; children = tree (H.Region R.Static) none (alone plain) }

-- what is referred to isn't dropped
pub reference_needs_nothing : by 0 NoDropRule (goal copy reference) ≡ holds
reference_needs_nothing = refl

-- the language doesn't drop it
pub undropped_needs_nothing : by 0 NoDropRule (goal copy undropped) ≡ holds
undropped_needs_nothing = refl

-- the rule says nothing of negative goals
pub no_drop_negative : by 0 NoDropRule (negative copy reference) ≡ Nothing
no_drop_negative = refl

-- tuples and arrays need it of their elements, by the trait of the goal
pub elements_need_the_same : steps NoDropRule (goal auto (tuple (alone plain))) ≡ enter [] ∷ nested (meets auto plain ∷ [])
elements_need_the_same = refl

-- so do arrays
pub arrays_need_elements : no_drop_needs small (H.Builtin B.Array) ≡ N.Elements
arrays_need_elements = refl

-- where there is no element, it holds
pub empty_tuple_needs_nothing : by 0 NoDropRule (goal auto (tuple none)) ≡ holds
empty_tuple_needs_nothing = refl

-- all else has to be `Copy`
pub else_copy : steps NoDropRule (goal auto plain) ≡ nested (meets copy plain ∷ [])
else_copy = refl

-- slices are no arrays
pub slices_need_copy : no_drop_needs small (H.Builtin B.Slice) ≡ N.Copy
slices_need_copy = refl

-- the rule says nothing of negative goals
pub copy_needed_negative : by 0 NoDropRule (negative auto plain) ≡ Nothing
copy_needed_negative = refl

-- where no trait is `Copy`, nothing is
pub no_copy_to_need : without_items NoDropRule (goal auto plain) ≡ Nothing
no_copy_to_need = refl

-- Clauses that may serve a goal: those of its trait, and `Sized` for `MetaSized`, where that is to hold.

-- a clause of the goal's trait
pub same_trait_serves : serves small (goal copy u8) copy ≡ true
same_trait_serves = refl

-- not one of another trait
pub other_trait_serves_not : serves small (goal copy u8) auto ≡ false
other_trait_serves_not = refl

-- a size that is known tells more than metadata
pub sized_serves_meta_sized : serves small (goal meta_sized u8) sized ≡ true
sized_serves_meta_sized = refl

-- not the other way round
pub meta_sized_serves_no_sized : serves small (goal sized u8) meta_sized ≡ false
meta_sized_serves_no_sized = refl

-- nor for a negative goal
pub sized_serves_no_negative : serves small (negative meta_sized u8) sized ≡ false
sized_serves_no_negative = refl

-- Impls: `impl<T> Trait for [T] where T: Trait`, of some polarity.

abbrev by_impl : TypingMode → PredicatePolarity → ImplPolarity → Tree → Told
by_impl m p i t = told (judged (judge []) (start_with m 0) (rule_of_part none the_impl (impl_part impl_trees m (record (goal_of t) { polarity = p }) (one_impl i))))

-- the where clause stays pending
abbrev impl_pends : Told
impl_pends = Says the_impl none AMBIGUOUS

-- its header fits the goal
pub impl_serves : by_impl PostAnalysis Pol.Positive I.Positive (slice u8) ≡ impl_pends
impl_serves = refl

-- another type doesn't fit
pub impl_is_of_another : by_impl PostAnalysis Pol.Positive I.Positive u8 ≡ Nothing
impl_is_of_another = refl

-- the polarity has to be the goal's
pub negative_impl_serves_no_positive : by_impl PostAnalysis Pol.Positive I.Negative (slice u8) ≡ Nothing
negative_impl_serves_no_positive = refl

-- a negative goal takes a negative impl
pub negative_impl_serves_negative : by_impl PostAnalysis Pol.Negative I.Negative (slice u8) ≡ impl_pends
negative_impl_serves_negative = refl

-- and no positive one
pub positive_impl_serves_no_negative : by_impl PostAnalysis Pol.Negative I.Positive (slice u8) ≡ Nothing
positive_impl_serves_no_negative = refl

-- a reservation counts in coherence alone, for either polarity
pub reservation_in_coherence : by_impl Coherence Pol.Positive I.Reservation (slice u8) ≡ impl_pends
reservation_in_coherence = refl

-- so for a negative goal
pub reservation_of_negative : by_impl Coherence Pol.Negative I.Reservation (slice u8) ≡ impl_pends
reservation_of_negative = refl

-- outside it is no impl
pub reservation_outside : by_impl PostAnalysis Pol.Positive I.Reservation (slice u8) ≡ Nothing
reservation_outside = refl
