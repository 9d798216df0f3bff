use Rattle.std.proofs.Common.{refl, sym, ap}
use Rattle.ir_trees.specs.declared.ir.kinds.TyKind.{TyKind}
use Rattle.ir_trees.specs.Syntax.Kinds.{ty_head, ty_children, sorts}
use Rattle.ir_trees.proofs.Traversal.Rebuild.{count-of, inside, one-number, two-numbers, three-numbers}
use Rattle.ir_trees.proofs.ir.kinds.TyKind.with_children.Goals as goal

pub bounds-children-0 : goal.bounds-children-0
bounds-children-0 c = inside 0 1 0 c.args.children.now (count-of c.args.self _ c.args.children.now c.requires c.in-Adt.is) refl

pub bounds-children-0-in-Array : goal.bounds-children-0-in-Array
bounds-children-0-in-Array c = inside 0 2 1 c.args.children.now (count-of c.args.self _ c.args.children.now c.requires c.in-Array.is) refl

pub bounds-children-1 : goal.bounds-children-1
bounds-children-1 c = inside 1 2 0 c.args.children.now (count-of c.args.self _ c.args.children.now c.requires c.in-Array.is) refl

pub bounds-children-0-in-Slice : goal.bounds-children-0-in-Slice
bounds-children-0-in-Slice c = inside 0 1 0 c.args.children.now (count-of c.args.self _ c.args.children.now c.requires c.in-Slice.is) refl

pub bounds-children-0-in-RawPtr : goal.bounds-children-0-in-RawPtr
bounds-children-0-in-RawPtr c = inside 0 1 0 c.args.children.now (count-of c.args.self _ c.args.children.now c.requires c.in-RawPtr.is) refl

pub bounds-children-0-in-Ref : goal.bounds-children-0-in-Ref
bounds-children-0-in-Ref c = inside 0 2 1 c.args.children.now (count-of c.args.self _ c.args.children.now c.requires c.in-Ref.is) refl

pub bounds-children-1-in-Ref : goal.bounds-children-1-in-Ref
bounds-children-1-in-Ref c = inside 1 2 0 c.args.children.now (count-of c.args.self _ c.args.children.now c.requires c.in-Ref.is) refl

pub bounds-children-0-in-FnDef : goal.bounds-children-0-in-FnDef
bounds-children-0-in-FnDef c = inside 0 1 0 c.args.children.now (count-of c.args.self _ c.args.children.now c.requires c.in-FnDef.is) refl

pub bounds-children-0-in-FnPtr : goal.bounds-children-0-in-FnPtr
bounds-children-0-in-FnPtr c = inside 0 3 2 c.args.children.now (count-of c.args.self _ c.args.children.now c.requires c.in-FnPtr.is) refl

pub bounds-children-1-in-FnPtr : goal.bounds-children-1-in-FnPtr
bounds-children-1-in-FnPtr c = inside 1 3 1 c.args.children.now (count-of c.args.self _ c.args.children.now c.requires c.in-FnPtr.is) refl

pub bounds-children-2-in-FnPtr : goal.bounds-children-2-in-FnPtr
bounds-children-2-in-FnPtr c = inside 2 3 0 c.args.children.now (count-of c.args.self _ c.args.children.now c.requires c.in-FnPtr.is) refl

pub bounds-children-0-in-UnsafeBinder : goal.bounds-children-0-in-UnsafeBinder
bounds-children-0-in-UnsafeBinder c = inside 0 2 1 c.args.children.now (count-of c.args.self _ c.args.children.now c.requires c.in-UnsafeBinder.is) refl

pub bounds-children-1-in-UnsafeBinder : goal.bounds-children-1-in-UnsafeBinder
bounds-children-1-in-UnsafeBinder c = inside 1 2 0 c.args.children.now (count-of c.args.self _ c.args.children.now c.requires c.in-UnsafeBinder.is) refl

pub bounds-children-0-in-Dynamic : goal.bounds-children-0-in-Dynamic
bounds-children-0-in-Dynamic c = inside 0 2 1 c.args.children.now (count-of c.args.self _ c.args.children.now c.requires c.in-Dynamic.is) refl

pub bounds-children-1-in-Dynamic : goal.bounds-children-1-in-Dynamic
bounds-children-1-in-Dynamic c = inside 1 2 0 c.args.children.now (count-of c.args.self _ c.args.children.now c.requires c.in-Dynamic.is) refl

pub bounds-children-0-in-Closure : goal.bounds-children-0-in-Closure
bounds-children-0-in-Closure c = inside 0 3 2 c.args.children.now (count-of c.args.self _ c.args.children.now c.requires c.in-Closure.is) refl

pub bounds-children-1-in-Closure : goal.bounds-children-1-in-Closure
bounds-children-1-in-Closure c = inside 1 3 1 c.args.children.now (count-of c.args.self _ c.args.children.now c.requires c.in-Closure.is) refl

pub bounds-children-2-in-Closure : goal.bounds-children-2-in-Closure
bounds-children-2-in-Closure c = inside 2 3 0 c.args.children.now (count-of c.args.self _ c.args.children.now c.requires c.in-Closure.is) refl

pub bounds-children-0-in-Tuple : goal.bounds-children-0-in-Tuple
bounds-children-0-in-Tuple c = inside 0 1 0 c.args.children.now (count-of c.args.self _ c.args.children.now c.requires c.in-Tuple.is) refl

pub bounds-children-0-in-Alias : goal.bounds-children-0-in-Alias
bounds-children-0-in-Alias c = inside 0 1 0 c.args.children.now (count-of c.args.self _ c.args.children.now c.requires c.in-Alias.is) refl

pub returns-in-Adt-clause-numbers : goal.returns-in-Adt-clause-numbers
returns-in-Adt-clause-numbers c = one-number c.args.children.now (count-of c.args.self _ c.args.children.now c.requires c.in-Adt.is)

pub returns-in-Array-clause-numbers : goal.returns-in-Array-clause-numbers
returns-in-Array-clause-numbers c = two-numbers c.args.children.now (count-of c.args.self _ c.args.children.now c.requires c.in-Array.is)

pub returns-in-Slice-clause-numbers : goal.returns-in-Slice-clause-numbers
returns-in-Slice-clause-numbers c = one-number c.args.children.now (count-of c.args.self _ c.args.children.now c.requires c.in-Slice.is)

pub returns-in-RawPtr-clause-numbers : goal.returns-in-RawPtr-clause-numbers
returns-in-RawPtr-clause-numbers c = one-number c.args.children.now (count-of c.args.self _ c.args.children.now c.requires c.in-RawPtr.is)

pub returns-in-Ref-clause-numbers : goal.returns-in-Ref-clause-numbers
returns-in-Ref-clause-numbers c = two-numbers c.args.children.now (count-of c.args.self _ c.args.children.now c.requires c.in-Ref.is)

pub returns-in-FnDef-clause-numbers : goal.returns-in-FnDef-clause-numbers
returns-in-FnDef-clause-numbers c = one-number c.args.children.now (count-of c.args.self _ c.args.children.now c.requires c.in-FnDef.is)

pub returns-in-FnPtr-clause-numbers : goal.returns-in-FnPtr-clause-numbers
returns-in-FnPtr-clause-numbers c = three-numbers c.args.children.now (count-of c.args.self _ c.args.children.now c.requires c.in-FnPtr.is)

pub returns-in-UnsafeBinder-clause-numbers : goal.returns-in-UnsafeBinder-clause-numbers
returns-in-UnsafeBinder-clause-numbers c = two-numbers c.args.children.now (count-of c.args.self _ c.args.children.now c.requires c.in-UnsafeBinder.is)

pub returns-in-Dynamic-clause-numbers : goal.returns-in-Dynamic-clause-numbers
returns-in-Dynamic-clause-numbers c = two-numbers c.args.children.now (count-of c.args.self _ c.args.children.now c.requires c.in-Dynamic.is)

pub returns-in-Closure-clause-numbers : goal.returns-in-Closure-clause-numbers
returns-in-Closure-clause-numbers c = three-numbers c.args.children.now (count-of c.args.self _ c.args.children.now c.requires c.in-Closure.is)

pub returns-in-Tuple-clause-numbers : goal.returns-in-Tuple-clause-numbers
returns-in-Tuple-clause-numbers c = one-number c.args.children.now (count-of c.args.self _ c.args.children.now c.requires c.in-Tuple.is)

pub returns-in-Alias-clause-numbers : goal.returns-in-Alias-clause-numbers
returns-in-Alias-clause-numbers c = one-number c.args.children.now (count-of c.args.self _ c.args.children.now c.requires c.in-Alias.is)

pub returns-in-Adt-clause-head : goal.returns-in-Adt-clause-head
returns-in-Adt-clause-head c = sym (ap ty_head c.in-Adt.is)

pub returns-in-Adt-clause-sorts : goal.returns-in-Adt-clause-sorts
returns-in-Adt-clause-sorts c = sym (ap (λ (k : TyKind). sorts (ty_children k)) c.in-Adt.is)

pub returns-in-Array-clause-head : goal.returns-in-Array-clause-head
returns-in-Array-clause-head c = sym (ap ty_head c.in-Array.is)

pub returns-in-Array-clause-sorts : goal.returns-in-Array-clause-sorts
returns-in-Array-clause-sorts c = sym (ap (λ (k : TyKind). sorts (ty_children k)) c.in-Array.is)

pub returns-in-Slice-clause-head : goal.returns-in-Slice-clause-head
returns-in-Slice-clause-head c = sym (ap ty_head c.in-Slice.is)

pub returns-in-Slice-clause-sorts : goal.returns-in-Slice-clause-sorts
returns-in-Slice-clause-sorts c = sym (ap (λ (k : TyKind). sorts (ty_children k)) c.in-Slice.is)

pub returns-in-RawPtr-clause-head : goal.returns-in-RawPtr-clause-head
returns-in-RawPtr-clause-head c = sym (ap ty_head c.in-RawPtr.is)

pub returns-in-RawPtr-clause-sorts : goal.returns-in-RawPtr-clause-sorts
returns-in-RawPtr-clause-sorts c = sym (ap (λ (k : TyKind). sorts (ty_children k)) c.in-RawPtr.is)

pub returns-in-Ref-clause-head : goal.returns-in-Ref-clause-head
returns-in-Ref-clause-head c = sym (ap ty_head c.in-Ref.is)

pub returns-in-Ref-clause-sorts : goal.returns-in-Ref-clause-sorts
returns-in-Ref-clause-sorts c = sym (ap (λ (k : TyKind). sorts (ty_children k)) c.in-Ref.is)

pub returns-in-FnDef-clause-head : goal.returns-in-FnDef-clause-head
returns-in-FnDef-clause-head c = sym (ap ty_head c.in-FnDef.is)

pub returns-in-FnDef-clause-sorts : goal.returns-in-FnDef-clause-sorts
returns-in-FnDef-clause-sorts c = sym (ap (λ (k : TyKind). sorts (ty_children k)) c.in-FnDef.is)

pub returns-in-FnPtr-clause-head : goal.returns-in-FnPtr-clause-head
returns-in-FnPtr-clause-head c = sym (ap ty_head c.in-FnPtr.is)

pub returns-in-FnPtr-clause-sorts : goal.returns-in-FnPtr-clause-sorts
returns-in-FnPtr-clause-sorts c = sym (ap (λ (k : TyKind). sorts (ty_children k)) c.in-FnPtr.is)

pub returns-in-UnsafeBinder-clause-head : goal.returns-in-UnsafeBinder-clause-head
returns-in-UnsafeBinder-clause-head c = sym (ap ty_head c.in-UnsafeBinder.is)

pub returns-in-UnsafeBinder-clause-sorts : goal.returns-in-UnsafeBinder-clause-sorts
returns-in-UnsafeBinder-clause-sorts c = sym (ap (λ (k : TyKind). sorts (ty_children k)) c.in-UnsafeBinder.is)

pub returns-in-Dynamic-clause-head : goal.returns-in-Dynamic-clause-head
returns-in-Dynamic-clause-head c = sym (ap ty_head c.in-Dynamic.is)

pub returns-in-Dynamic-clause-sorts : goal.returns-in-Dynamic-clause-sorts
returns-in-Dynamic-clause-sorts c = sym (ap (λ (k : TyKind). sorts (ty_children k)) c.in-Dynamic.is)

pub returns-in-Closure-clause-head : goal.returns-in-Closure-clause-head
returns-in-Closure-clause-head c = sym (ap ty_head c.in-Closure.is)

pub returns-in-Closure-clause-sorts : goal.returns-in-Closure-clause-sorts
returns-in-Closure-clause-sorts c = sym (ap (λ (k : TyKind). sorts (ty_children k)) c.in-Closure.is)

pub returns-in-Tuple-clause-head : goal.returns-in-Tuple-clause-head
returns-in-Tuple-clause-head c = sym (ap ty_head c.in-Tuple.is)

pub returns-in-Tuple-clause-sorts : goal.returns-in-Tuple-clause-sorts
returns-in-Tuple-clause-sorts c = sym (ap (λ (k : TyKind). sorts (ty_children k)) c.in-Tuple.is)

pub returns-in-Alias-clause-head : goal.returns-in-Alias-clause-head
returns-in-Alias-clause-head c = sym (ap ty_head c.in-Alias.is)

pub returns-in-Alias-clause-sorts : goal.returns-in-Alias-clause-sorts
returns-in-Alias-clause-sorts c = sym (ap (λ (k : TyKind). sorts (ty_children k)) c.in-Alias.is)
