-- What holds of all finished declarations, and of every context over them.
use Rattle.std.specs.Prelude.{◌≡◌, ◌≤◌, false, length, take, map, List}
use Rattle.std.specs.List.{list_any}
use Rattle.ir_trees.specs.declared.ir.kinds.Ty.{Ty}
use Rattle.ir_trees.specs.declared.ir.kinds.FnSig.{FnSig}
use Rattle.ir_trees.specs.declared.ir.kinds.Binder.{Binder}
use Rattle.ir_trees.specs.declared.decl.held.Held.{Held}
use Rattle.ir_trees.specs.Declarations.Contents.{Impl}
use Rattle.ir_trees.specs.Syntax.Words.{IsTy, IsArgs, IsVars, ClauseListFits}
use Rattle.ir_trees.specs.Syntax.Trees.{Tree, TypeKind}
use Rattle.ir_trees.specs.Syntax.Kinds.{Child, numbers, sorts}
use Rattle.ir_trees.specs.Syntax.Nodes.{kinds_at}
use Rattle.ir_trees.specs.Declarations.Context.{Context}
use Rattle.ir_trees.specs.Declarations.Limits.{has_bad_limit}
use Rattle.ir_trees.specs.declared.ir.kinds.TraitRef.{TraitRef}
use Rattle.ir_trees.specs.Declarations.References.{IsWellFormed, ArgumentsFit}
use Rattle.ir_trees.specs.Hierarchy.Supertraits.{IsAcyclic}
use Rattle.ir_trees.specs.declared.decl.contents.AssocValue.{AssocValue}
use Rattle.ir_trees.specs.Validity.ListedImpls.{EachIsListed}
use Rattle.ir_trees.specs.Validity.Misplaced.{is_not_given}
use Rattle.ir_trees.specs.Validity.Faults.{all_that_is_held, declarations_misname, contents_misname, has_wrong_parameters, AllArgumentsFit, has_wrong_kind, lacks_tail, item_has_wrong_arity, all_items}

-- what it means that nothing is wrong with the declarations
pub record TableParts (c : Context) : Type 0 where
  -- each crate, definition and impl that is named is there, and so is each type, clause, list and binder that is held
  pub definitions : declarations_misname c ≡ false
  pub impls : contents_misname c ≡ false
  -- and each impl stands in the list of its trait
  pub listed : EachIsListed c.declarations c.contents.traits c.contents.impls
  pub given : list_any (is_not_given c.trees) (all_that_is_held c) ≡ false
  -- a definition has parameters that its flags allow, and no parameter is named that isn't there
  pub parameters : has_wrong_parameters c ≡ false
  -- every node has the arguments that its definition takes, and so has the header of every impl
  pub arguments : AllArgumentsFit c
  -- a parameter is of the kind that it stands for; no variable, placeholder or unbound variable is declared; super clauses
  -- say of `Self` what they may
  pub kinds : has_wrong_kind c ≡ false
  -- no trait is its own supertrait: each has a rank, which its direct supertraits' are below
  pub supertraits : IsAcyclic c
  -- what changes where it is unsized is a struct with a field
  pub tails : list_any (λ d. lacks_tail c.contents d.kind) c.declarations ≡ false
  -- lang items have the parameters of their items
  pub items : list_any (item_has_wrong_arity c.declarations c.contents.lang_items) all_items ≡ false
  -- no limit is 0
  pub limits : has_bad_limit c.limits ≡ false

-- Nothing is wrong with the declarations, over the trees of the context. It is opaque: a tactic reads each part of a fact that
-- it can see into, and few proofs need one.
unfoldable pub IsWellFormedTable : Context → Type 0
IsWellFormedTable c = TableParts c

-- the context as its declarations left it
abbrev pub declared_part : Context → Context
declared_part c = record c { trees = take c.declared_nodes c.trees }

-- Its nodes have the arguments that they take, and nothing is wrong with its declarations.
pub record IsWellFormedContext (c : Context) : Type 0 where
  pub nodes : IsWellFormed c
  pub declared : IsWellFormedTable (declared_part c)
  pub there : c.declared_nodes ≤ length c.trees

abbrev pub type_child : Ty → Child
type_child t = (t.0, TypeKind)

-- the numbers are of types
abbrev pub TypesFit : List Tree → List Ty → Type 0
TypesFit ts xs = kinds_at ts (numbers (map type_child xs)) ≡ sorts (map type_child xs)

-- the numbers in a signature are those of a binder, of a list and of a type
pub record SignatureFits (ts : List Tree) (s : Binder FnSig) : Type 0 where
  pub vars : IsVars ts s.vars
  pub inputs : IsArgs ts s.value.inputs
  pub output : IsTy ts s.value.output

-- the arguments of a header are a list of the context, and those that its trait takes
pub record HeaderFits (c : Context) (r : TraitRef) : Type 0 where
  pub list : IsArgs c.trees r.args
  pub fit : ArgumentsFit c r

-- the types that associated types are
abbrev pub types_of_values : List AssocValue → List Ty
types_of_values vs = map (λ (v : AssocValue). v.ty) vs

-- what is lent of an impl: its header fits, its clauses are clauses of the context, and what associated types are, types of it
pub record ImplIsGiven (c : Context) (x : Impl) : Type 0 where
  pub header : HeaderFits c x.trait_ref
  pub wheres : ClauseListFits c.trees x.wheres
  pub super_outlives : ClauseListFits c.trees x.super_outlives
  pub values : TypesFit c.trees (types_of_values x.values)

-- all that is held among these is there
abbrev pub AreGiven : Context → List Held → Type 0
AreGiven c hs = list_any (is_not_given c.trees) hs ≡ false
