-- What can be called: with which inputs, as one tuple, and to which output.
use Rattle.std.specs.Prelude.{◌≡◌, ℕ, Bool, true, false, not, ◌&&◌, Option, Some, None, List, [], ◌∷◌, if◌then◌else◌}
use Rattle.ir_trees.specs.declared.ir.heads.Builtin.{Builtin}
use Rattle.ir_trees.specs.declared.ir.heads.Builtin.TheVariants as B
use Rattle.ir_trees.specs.declared.ir.heads.Head.{Head}
use Rattle.ir_trees.specs.declared.ir.heads.Head.TheVariants as H
use Rattle.ir_trees.specs.declared.ir.heads.PartHead.TheVariants as P
use Rattle.ir_trees.specs.declared.ir.heads.VariableSort.{VariableSort}
use Rattle.ir_trees.specs.declared.ir.heads.VariableSort.TheVariants as V
use Rattle.ir_trees.specs.declared.ir.kinds.Args.{Args}
use Rattle.ir_trees.specs.declared.ir.kinds.Binder.{Binder}
use Rattle.ir_trees.specs.declared.ir.kinds.ClosureKind.{ClosureKind}
use Rattle.ir_trees.specs.declared.ir.kinds.ClosureKind.TheVariants as C
use Rattle.ir_trees.specs.declared.ir.kinds.ClosureId.{ClosureId}
use Rattle.ir_trees.specs.declared.ir.kinds.FnId.{FnId}
use Rattle.ir_trees.specs.declared.ir.kinds.FnSig.{FnSig}
use Rattle.ir_trees.specs.declared.ir.kinds.Ty.{Ty}
use Rattle.ir_trees.specs.declared.ir.kinds.TyKind.{TyKind}
use Rattle.ir_trees.specs.declared.ir.kinds.TyKind.TheVariants as K
use Rattle.ir_trees.specs.declared.ir.stop.Stop.{Stop}
use Rattle.ir_trees.specs.declared.decl.definition.FnFlags.{FnFlags}
use Rattle.ir_trees.specs.Declarations.Context.{Context, world}
use Rattle.ir_trees.specs.Syntax.Trees.{Forest, none, tree, Tree, is_type, row}
use Rattle.ir_trees.specs.Instantiation.Folding.{argument, substituted_tree}
use Rattle.ir_trees.specs.Hierarchy.Elaboration.{first_children}
use Rattle.ir_trees.specs.Syntax.Kinds.{is_fn_trait_compatible}
use Rattle.ir_trees.specs.Declarations.Lookups.{definition, fn_flags, fn_sig, is_const_closure}
use Rattle.ir_trees.specs.Declarations.References.{Takes}
use Rattle.ir_trees.specs.Syntax.Words.{IsTy, IsArgs, IsSig, IsVars, KindFits, args_forest, kind_tree, sig_tree, ty_tree, vars_tree}
use Rattle.ir_trees.specs.Declarations.Worlds.{FunctionSort, kinds_of, parameters}
use Rattle.candidate_eval.specs.declared.structural.callable.Called.{Called}
use Rattle.candidate_eval.specs.declared.structural.callable.Called.TheVariants as W
use Rattle.candidate_eval.specs.declared.structural.callable.CallableId.{CallableId}
use Rattle.candidate_eval.specs.declared.structural.callable.CallableId.TheVariants as I
use Rattle.candidate_eval.specs.Builtins.Tables.{IsTypesStop}

-- the inputs as a tuple and the output, and the variables of the binder that they stand under
pub record Callable : Type 0 where
  pub variables : Forest
  pub inputs : Tree
  pub output : Tree

-- What a type says of being called: nothing is asked about it; it can't be; that isn't known yet; or with what it can be.
pub data Calls : Type 0 where
  Excluded : Calls
  Refused : Calls
  Undetermined : Calls
  CalledWith : Callable → Calls

-- Nothing is asked about general variables and bound types.
abbrev pub is_general : VariableSort → Bool
is_general V.Integer = false
is_general V.Floating = false
is_general _ = true

abbrev pub is_unknown : Head → Bool
is_unknown (H.Infer v) = is_general v.sort
is_unknown (H.Bound v) = true
is_unknown _ = false

-- Whether a closure that is called so can also be called as is asked.
abbrev pub extends : ClosureKind → ClosureKind → Bool
extends C.Fn _ = true
extends C.FnMut C.Fn = false
extends C.FnMut _ = true
extends C.FnOnce C.FnOnce = true
extends C.FnOnce _ = false

-- A closure of a known kind, where that extends the kind asked; any closure can be called once.
abbrev pub closure_calls : Option ClosureKind → ClosureKind → Callable → Calls
closure_calls (Some k) asked s = if extends k asked then CalledWith s else Refused
closure_calls None C.FnOnce s = CalledWith s
closure_calls None _ s = Undetermined

-- the last tree in a row but one: of a closure, its signature
abbrev pub last_but_one : Forest → Tree
last_but_one (tree h below (tree g b none)) = record { head = h; children = below }
last_but_one (tree h below rest) = last_but_one rest
last_but_one none = argument none 0

-- a closure's signature: a binder, the inputs as a tuple, and the output
abbrev pub signature_callable : Tree → Callable
signature_callable s = record { variables = first_children s.children; inputs = argument s.children 1; output = argument s.children 2 }

-- the tuple of these types
abbrev pub tuple_of : Forest → Tree
tuple_of ts = record { head = H.Builtin B.Tuple; children = ts }

abbrev pub all_but_first : Forest → Forest
all_but_first none = none
all_but_first (tree h below rest) = rest

abbrev pub all_but_last : Forest → Forest
all_but_last none = none
all_but_last (tree h below none) = none
all_but_last (tree h below rest) = tree h below (all_but_last rest)

abbrev pub last_tree : Forest → Tree
last_tree none = argument none 0
last_tree (tree h below none) = record { head = h; children = below }
last_tree (tree h below rest) = last_tree rest

-- a function pointer: a binder, the inputs one by one, and the output
abbrev pub pointer_callable : Forest → Callable
pointer_callable below = record { variables = first_children below; inputs = tuple_of (all_but_last (all_but_first below)); output = last_tree (all_but_first below) }

abbrev pub fn_ptr_calls : Builtin → Forest → Calls
fn_ptr_calls (B.FnPtr s) below = if s.safe && (s.rust_abi && not s.variadic) then CalledWith (pointer_callable below) else Refused
fn_ptr_calls _ below = Refused

-- A declared function.

abbrev pub are_types : Forest → Bool
are_types none = true
are_types (tree h below rest) = is_type h && are_types rest

-- It can be called where it is safe, of the Rust ABI and not variadic, needs no features that the target may lack, and takes
-- types alone.
abbrev pub can_be_called : List Tree → FnFlags → FnSig → Bool
can_be_called ts f s = is_fn_trait_compatible s && (not f.target_features && are_types (args_forest ts s.inputs))

abbrev pub signature_if_callable : List Tree → Option FnFlags → Option (Binder FnSig) → Option (Binder FnSig)
signature_if_callable ts (Some f) (Some s) = if can_be_called ts f s.value then Some s else None
signature_if_callable ts _ _ = None

-- the signature of a function that can be called, as it is declared
abbrev pub function_signature : Context → ℕ → Option (Binder FnSig)
function_signature c i = signature_if_callable c.trees (fn_flags (definition c i)) (fn_sig (definition c i))

-- it, as a closure's: with its inputs as a tuple
abbrev pub declared_signature : List Tree → Binder FnSig → Tree
declared_signature ts s = record {
  head = H.Part P.Sig;
  children = row (vars_tree ts s.vars) (row (tuple_of (args_forest ts s.value.inputs)) (row (ty_tree ts s.value.output) none));
}

-- The arguments stand in the place of the function's parameters, under the signature's binder.
abbrev pub instance_calls : List Tree → Forest → Option (Binder FnSig) → Calls
instance_calls ts args None = Refused
instance_calls ts args (Some s) = CalledWith (signature_callable (substituted_tree args (declared_signature ts s)))

abbrev pub function_calls : Context → ℕ → Forest → Calls
function_calls c i args = instance_calls c.trees args (function_signature c i)

-- Functions, function pointers and closures can be called, as they say; nothing else can.
abbrev pub head_calls : Context → ClosureKind → Head → Forest → Calls
head_calls c asked (H.FnDef i) below = function_calls c i.0 below
head_calls c asked (H.Builtin b) below = fn_ptr_calls b below
head_calls c asked (H.Closure i k) below = closure_calls k asked (signature_callable (last_but_one below))
head_calls c asked _ below = Refused

abbrev pub calls : Context → ClosureKind → Tree → Calls
calls c asked t = if is_unknown t.head then Excluded else head_calls c asked t.head t.children

-- Where a constant is computed.

-- what is called, with what, and the arguments that it has of its own
pub record ConstCallable : Type 0 where
  pub id : CallableId
  pub callable : Callable
  pub args : Forest

-- nothing is asked about it; it can't be called there; or what is called, and with what
pub data ConstCalls : Type 0 where
  ConstExcluded : ConstCalls
  ConstRefused : ConstCalls
  ConstCalledWith : ConstCallable → ConstCalls

abbrev pub is_const_function : Option FnFlags → Bool
is_const_function None = false
is_const_function (Some f) = f.is_const

abbrev pub called_there : CallableId → Forest → Calls → ConstCalls
called_there i args (CalledWith s) = ConstCalledWith (record { id = i; callable = s; args = args })
called_there i args _ = ConstRefused

abbrev pub const_function_calls : Context → FnId → Forest → ConstCalls
const_function_calls c i args = if is_const_function (fn_flags (definition c i.0)) then called_there (I.Function i) args (function_calls c i.0 args) else ConstRefused

abbrev pub const_closure_calls : Context → ClosureId → Forest → Callable → ConstCalls
const_closure_calls c i args s = if is_const_closure (definition c i.0) then ConstCalledWith (record { id = I.Closure i; callable = s; args = args }) else ConstRefused

-- A function that is said to be called there can be, and such a closure, of any kind; nothing else can. A closure's own arguments
-- are those before its signature and its upvars.
abbrev pub head_const_calls : Context → Head → Forest → ConstCalls
head_const_calls c (H.FnDef i) below = const_function_calls c i below
head_const_calls c (H.Closure i k) below = const_closure_calls c i (all_but_last (all_but_last below)) (signature_callable (last_but_one below))
head_const_calls c _ below = ConstRefused

abbrev pub const_calls : Context → Tree → ConstCalls
const_calls c t = if is_unknown t.head then ConstExcluded else head_const_calls c t.head t.children

-- What was made.

abbrev pub callable_of : List Tree → Binder (Ty × Ty) → Callable
callable_of ts b = record { variables = (vars_tree ts b.vars).children; inputs = ty_tree ts b.value.0; output = ty_tree ts b.value.1 }

-- The numbers are of the context.
pub record IsCallable (ts : List Tree) (b : Binder (Ty × Ty)) : Type 0 where
  pub vars : IsVars ts b.vars
  pub inputs : IsTy ts b.value.0
  pub output : IsTy ts b.value.1

abbrev pub calls_of : List Tree → Option (Binder (Ty × Ty)) → Calls
calls_of ts None = Undetermined
calls_of ts (Some b) = CalledWith (callable_of ts b)

abbrev pub const_callable_of : List Tree → Binder (Ty × Ty) → CallableId → Args → ConstCallable
const_callable_of ts b i a = record { id = i; callable = callable_of ts b; args = args_forest ts a }

abbrev pub const_calls_of : List Tree → Binder (Ty × Ty) → CallableId → Args → ConstCalls
const_calls_of ts b i a = ConstCalledWith (const_callable_of ts b i a)

-- Which trees are made for it, one after the other: of a function its signature as it is declared, and with arguments put in; of a
-- function pointer the tuple of its inputs; of a closure, and of what can't be called, none.
abbrev pub instance_makes : List Tree → Forest → Option (Binder FnSig) → List Tree
instance_makes ts args None = []
instance_makes ts args (Some s) = declared_signature ts s ∷ substituted_tree args (declared_signature ts s) ∷ []

abbrev pub function_makes : Context → ℕ → Forest → List Tree
function_makes c i args = instance_makes c.trees args (function_signature c i)

abbrev pub fn_ptr_makes : Builtin → Forest → List Tree
fn_ptr_makes (B.FnPtr s) below = if s.safe && (s.rust_abi && not s.variadic) then (pointer_callable below).inputs ∷ [] else []
fn_ptr_makes _ below = []

abbrev pub makes : Context → Head → Forest → List Tree
makes c (H.FnDef i) below = function_makes c i.0 below
makes c (H.Builtin b) below = fn_ptr_makes b below
makes c _ below = []

abbrev pub const_function_makes : Context → FnId → Forest → List Tree
const_function_makes c i args = if is_const_function (fn_flags (definition c i.0)) then function_makes c i.0 args else []

abbrev pub const_makes : Context → Head → Forest → List Tree
const_makes c (H.FnDef i) below = const_function_makes c i below
const_makes c _ below = []

-- One of them was not made; where there is none, nothing stops.
abbrev pub IsMadeStop : ℕ → List Tree → Stop → Type 0
IsMadeStop given [] s = ⊥
IsMadeStop given (t ∷ ts) s = IsTypesStop given (t ∷ ts) s

abbrev pub IsCallStop : Context → ℕ → Tree → Stop → Type 0
IsCallStop c given t s = IsMadeStop given (makes c t.head t.children) s

abbrev pub IsConstCallStop : Context → ℕ → Tree → Stop → Type 0
IsConstCallStop c given t s = IsMadeStop given (const_makes c t.head t.children) s

-- What a kind says of being called: the same over numbers.

abbrev pub called_of : TyKind → Called
called_of (K.FnDef i a) = W.Function i a
called_of (K.FnPtr s) = W.Pointer s
called_of (K.Closure i a) = W.Closure i a
called_of _ = W.Nothing

abbrev pub pointer_calls : List Tree → Binder FnSig → Calls
pointer_calls ts s = if is_fn_trait_compatible s.value then CalledWith (pointer_callable (kind_tree ts (K.FnPtr s)).children) else Refused

abbrev pub pointer_makes : List Tree → Binder FnSig → List Tree
pointer_makes ts s = if is_fn_trait_compatible s.value then (pointer_callable (kind_tree ts (K.FnPtr s)).children).inputs ∷ [] else []

abbrev pub called_calls : Context → ClosureKind → Called → Calls
called_calls c asked (W.Function i a) = function_calls c i.0 (args_forest c.trees a)
called_calls c asked (W.Pointer s) = pointer_calls c.trees s
called_calls c asked (W.Closure i a) = closure_calls a.kind asked (signature_callable (sig_tree c.trees a.sig))
called_calls c asked W.Nothing = Refused

abbrev pub called_makes : Context → Called → List Tree
called_makes c (W.Function i a) = function_makes c i.0 (args_forest c.trees a)
called_makes c (W.Pointer s) = pointer_makes c.trees s
called_makes c _ = []

abbrev pub called_const_calls : Context → Called → ConstCalls
called_const_calls c (W.Function i a) = const_function_calls c i (args_forest c.trees a)
called_const_calls c (W.Closure i a) = const_closure_calls c i (args_forest c.trees a.parent) (signature_callable (sig_tree c.trees a.sig))
called_const_calls c _ = ConstRefused

abbrev pub called_const_makes : Context → Called → List Tree
called_const_makes c (W.Function i a) = const_function_makes c i (args_forest c.trees a)
called_const_makes c _ = []

-- its numbers are of the context, and arguments are those that the definition takes
abbrev pub CalledFits : Context → Called → Type 0
CalledFits c (W.Function i a) = IsArgs c.trees a × (parameters (world c) FunctionSort i.0 ≡ Some (kinds_of (args_forest c.trees a)))
CalledFits c (W.Pointer s) = KindFits c.trees (K.FnPtr s) × Takes (world c) (kind_tree c.trees (K.FnPtr s))
CalledFits c (W.Closure i a) = IsArgs c.trees a.parent × IsSig c.trees a.sig
CalledFits c W.Nothing = Unit {0}
