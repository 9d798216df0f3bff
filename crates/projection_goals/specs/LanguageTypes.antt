-- What the language says that associated types are: of what can be called its output, of each type the metadata of pointers to it and the type
-- of its discriminant. Its rule for another trait says of no associated type what it is. A goal is seen as that of its trait, and its term as a
-- row of one tree.
use Rattle.std.specs.Prelude.{Bool, true, false, Option, Some, None, List, [], ◌∷◌}
use Rattle.ir_trees.specs.declared.decl.contents.LangItem.TheVariants as L
use Rattle.ir_trees.specs.declared.decl.definition.AdtShape.{AdtShape}
use Rattle.ir_trees.specs.declared.decl.definition.AdtShape.TheVariants as Shape
use Rattle.ir_trees.specs.declared.ir.heads.Builtin.{Builtin}
use Rattle.ir_trees.specs.declared.ir.heads.Builtin.TheVariants as B
use Rattle.ir_trees.specs.declared.ir.heads.Flag.TheVariants as F
use Rattle.ir_trees.specs.declared.ir.heads.Head.{Head}
use Rattle.ir_trees.specs.declared.ir.heads.Head.TheVariants as H
use Rattle.ir_trees.specs.declared.ir.heads.VariableSort.{VariableSort}
use Rattle.ir_trees.specs.declared.ir.heads.VariableSort.TheVariants as V
use Rattle.ir_trees.specs.declared.ir.kinds.TraitId.{TraitId}
use Rattle.ir_trees.specs.declared.ir.kinds.UintTy.TheVariants as U
use Rattle.ir_trees.specs.Declarations.Context.{Context}
use Rattle.ir_trees.specs.Declarations.Lookups.{adt_shape, definition}
use Rattle.ir_trees.specs.Syntax.Flags.{mark}
use Rattle.ir_trees.specs.Syntax.Trees.{Forest, Tree, holds, join, none, tree}
use Rattle.ir_trees.specs.Unification.Substitutions.{alone}
use Rattle.candidate_eval.specs.declared.eval.certainty.Certainty.TheVariants.{Yes}
use Rattle.candidate_eval.specs.Builtins.Callable.{Callable, CalledWith, Calls, Undetermined, calls, tuple_of}
use Rattle.candidate_eval.specs.Derivations.Characterization.{binder_kinds}
use Rattle.candidate_eval.specs.Derivations.ImplRules.{TraitGoal}
use Rattle.candidate_eval.specs.Derivations.Naming.{named_tree}
use Rattle.candidate_eval.specs.Derivations.Rules.{Rule, Step, ask, equate, fresh, nested, quick}
use Rattle.candidate_assembly.specs.Goals.Kinds.{BuiltinRule, DiscriminantKindRule, ErrorRule, FnTraitRule, PointeeRule}
use Rattle.candidate_assembly.specs.Goals.TraitGoals.{item_trait}
use Rattle.candidate_assembly.specs.Rules.BuiltinRules.{ambiguous_rule, call_arguments, meets, misc, no_rule, self_of}
use Rattle.projection_goals.specs.declared.named.NamedType.{NamedType}
use Rattle.projection_goals.specs.declared.named.NamedType.TheVariants as N

-- The types that the rules name.

abbrev pub builtin_type : Builtin → Tree
builtin_type b = record { head = H.Builtin b; children = none }

abbrev pub named_type : NamedType → Tree
named_type N.Error = record { head = H.Error; children = none }
named_type N.Unit = tuple_of none
named_type N.Usize = builtin_type (B.Uint U.Usize)
named_type N.U8 = builtin_type (B.Uint U.U8)

-- The term is this type. Where none is known, the goal says too little.

abbrev pub equal_rule : TraitGoal → Forest → Bool → NamedType → Rule
equal_rule g term applies t = record { env = g.env; applies = applies; steps = equate term (alone (named_type t)) ∷ []; ending = ask misc Yes }

abbrev pub known_rule : TraitGoal → Forest → Option NamedType → Rule
known_rule g term None = ambiguous_rule g true
known_rule g term (Some t) = equal_rule g term true t

-- Of what is called, the term is the output: as the rule of the trait, with an equation for the term. The variables of the binder are the rule's
-- first.

abbrev pub output_steps : TraitGoal → Forest → Callable → TraitId → List Step
output_steps g term c sized =
    let ks = binder_kinds c.variables in
    let args = call_arguments g ks c.inputs in
    let output = named_tree 0 ks c.output in
    fresh ks ∷ quick g.reference.arguments args ∷ equate g.reference.arguments args ∷ equate term (alone output) ∷ nested (meets sized output ∷ [])

abbrev pub output_rule : TraitGoal → Forest → Calls → Option TraitId → Rule
output_rule g term (CalledWith c) (Some sized) = record { env = g.env; applies = true; steps = output_steps g term c sized; ending = ask misc Yes }
output_rule g term Undetermined sized = ambiguous_rule g true
output_rule g term _ sized = no_rule g

-- The metadata of pointers: `()` for types whose heads say that they are sized, `usize` for text and slices. What it is for `dyn` types, for
-- structures and tuples, of which the last part says it, and for types that are known by name alone, the rule doesn't say.

abbrev pub is_nothing : Forest → Bool
is_nothing none = true
is_nothing (tree h below rest) = false

abbrev pub metadata_of_builtin : Builtin → Bool → Option NamedType
metadata_of_builtin B.Str empty = Some N.Usize
metadata_of_builtin B.Slice empty = Some N.Usize
metadata_of_builtin B.Tuple true = Some N.Unit
metadata_of_builtin B.Tuple false = None
metadata_of_builtin B.UnsafeBinder empty = None
metadata_of_builtin b empty = Some N.Unit

abbrev pub metadata_of_shape : Option AdtShape → Option NamedType
metadata_of_shape (Some Shape.Enum) = Some N.Unit
metadata_of_shape (Some Shape.Union) = Some N.Unit
metadata_of_shape _ = None

-- of an integer or floating-point variable, what is so of all types that it may be
abbrev pub if_numeric : VariableSort → NamedType → Option NamedType
if_numeric V.Integer t = Some t
if_numeric V.Floating t = Some t
if_numeric _ t = None

abbrev pub metadata : Context → Head → Forest → Option NamedType
metadata c (H.Builtin b) below = metadata_of_builtin b (is_nothing below)
metadata c (H.Adt i) below = metadata_of_shape (adt_shape (definition c i.0))
metadata c (H.Ref m) below = Some N.Unit
metadata c (H.Foreign i) below = Some N.Unit
metadata c (H.FnDef i) below = Some N.Unit
metadata c (H.Closure i k) below = Some N.Unit
metadata c (H.Infer v) below = if_numeric v.sort N.Unit
metadata c _ below = None

-- The type of the discriminant: `u8` for what is no enumeration. Of an enumeration its representation says it, which isn't declared; of types that
-- are known by name alone nothing is said.

abbrev pub discriminant_of_builtin : Builtin → Option NamedType
discriminant_of_builtin B.UnsafeBinder = None
discriminant_of_builtin b = Some N.U8

abbrev pub discriminant_of_shape : Option AdtShape → Option NamedType
discriminant_of_shape (Some Shape.Struct) = Some N.U8
discriminant_of_shape (Some Shape.Union) = Some N.U8
discriminant_of_shape _ = None

abbrev pub discriminant : Context → Head → Option NamedType
discriminant c (H.Builtin b) = discriminant_of_builtin b
discriminant c (H.Adt i) = discriminant_of_shape (adt_shape (definition c i.0))
discriminant c (H.Ref m) = Some N.U8
discriminant c (H.Foreign i) = Some N.U8
discriminant c H.Dynamic = Some N.U8
discriminant c (H.FnDef i) = Some N.U8
discriminant c (H.Closure i k) = Some N.U8
discriminant c (H.Infer v) = if_numeric v.sort N.U8
discriminant c _ = None

-- The rules by name. What holds an error is an error. A rule that says of no associated type what it is leaves the goal open, since the trait may
-- hold by it.
abbrev pub language_rule : BuiltinRule → Context → TraitGoal → Forest → Rule
language_rule ErrorRule c g term = equal_rule g term (holds (mark F.Error) (join g.reference.arguments term)) N.Error
language_rule (FnTraitRule k) c g term = output_rule g term (calls c k (self_of g)) (item_trait c L.Sized)
language_rule PointeeRule c g term = known_rule g term (metadata c (self_of g).head (self_of g).children)
language_rule DiscriminantKindRule c g term = known_rule g term (discriminant c (self_of g).head)
language_rule _ c g term = ambiguous_rule g true
