-- What definitions hold besides their parameters and flags, and the impls.
use Rattle.std.specs.Prelude.{ℕ, Bool, Option, List}
use Rattle.ir_trees.specs.declared.ir.kinds.VarKind.{VarKind}
use Rattle.ir_trees.specs.declared.ir.kinds.Ty.{Ty}
use Rattle.ir_trees.specs.declared.ir.kinds.Clause.{Clause}
use Rattle.ir_trees.specs.declared.ir.kinds.AssocId.{AssocId}
use Rattle.ir_trees.specs.declared.ir.kinds.TraitId.{TraitId}
use Rattle.ir_trees.specs.declared.ir.kinds.TraitRef.{TraitRef}
use Rattle.ir_trees.specs.declared.decl.definition.CrateId.{CrateId}
use Rattle.ir_trees.specs.declared.decl.contents.AssocValue.{AssocValue}
use Rattle.ir_trees.specs.declared.decl.contents.ImplId.{ImplId}
use Rattle.ir_trees.specs.declared.decl.contents.Destructor.{Destructor}
use Rattle.ir_trees.specs.declared.decl.contents.ImplPolarity.{ImplPolarity}

pub record AdtContents : Type 0 where
  pub fields : List Ty
  -- the types that have to be sized for it to be: to have a size that is known when the program is compiled, and one that
  -- is known at the latest from a pointer's metadata
  pub sized : Option Ty
  pub meta_sized : Option Ty
  -- how it is dropped, where it has a destructor of its own
  pub destructor : Option Destructor
  -- the numbers of the parameters that change where it is unsized
  pub unsizing : List ℕ

pub record TraitContents : Type 0 where
  -- what holds where the trait does, and what it asks for
  pub supers : List Clause
  pub wheres : List Clause
  -- its associated items, and its impls, in the order of their declaration
  pub items : List AssocId
  pub impls : List ImplId

-- Of an associated type or of an opaque type: those of the alias itself, and those of the alias that it is a projection of.
pub record Bounds : Type 0 where
  pub self_bounds : List Clause
  pub non_self_bounds : List Clause

pub record Impl : Type 0 where
  pub crate : CrateId
  -- the kinds of its parameters
  pub parameters : List VarKind
  pub trait_ref : TraitRef
  pub polarity : ImplPolarity
  pub is_default : Bool
  pub wheres : List Clause
  pub super_outlives : List Clause
  -- the impls that it specialises
  pub specializes : List ImplId
  -- what the associated types of its trait are
  pub values : List AssocValue

pub record Contents : Type 0 where
  -- each sort by itself; a definition says where its own stand
  pub adts : List AdtContents
  pub traits : List TraitContents
  pub bounds : List Bounds
  pub impls : List Impl
  -- the trait that is each lang item, in their order
  pub lang_items : List (Option TraitId)
  -- whether a call has named what was never given
  pub misnamed : Bool
