-- The root and the children of each kind.
use Rattle.std.specs.Prelude.{◌≡◌, refl, ℕ, Bool, true, false, not, ◌&&◌, List, [], ◌∷◌, map}
use Rattle.ir_trees.specs.declared.ir.kinds.TyKind.{TyKind}
use Rattle.ir_trees.specs.declared.ir.kinds.TyKind.TheVariants as K
use Rattle.ir_trees.specs.declared.ir.kinds.Pattern.TheVariants as Pat
use Rattle.ir_trees.specs.declared.ir.kinds.InferTy.{InferTy}
use Rattle.ir_trees.specs.declared.ir.kinds.InferTy.TheVariants as I
use Rattle.ir_trees.specs.declared.ir.kinds.ConstKind.{ConstKind}
use Rattle.ir_trees.specs.declared.ir.kinds.ConstKind.TheVariants as CK
use Rattle.ir_trees.specs.declared.ir.kinds.GenericArg.{GenericArg}
use Rattle.ir_trees.specs.declared.ir.kinds.GenericArg.TheVariants as A
use Rattle.ir_trees.specs.declared.ir.kinds.Binder.{Binder}
use Rattle.ir_trees.specs.declared.ir.kinds.ExistentialPredicate.{ExistentialPredicate}
use Rattle.ir_trees.specs.declared.ir.kinds.ExistentialPredicate.TheVariants as E
use Rattle.ir_trees.specs.declared.ir.kinds.ClosureSig.{ClosureSig}
use Rattle.ir_trees.specs.declared.ir.kinds.FnSig.{FnSig}
use Rattle.ir_trees.specs.declared.ir.kinds.ClauseKind.{ClauseKind}
use Rattle.ir_trees.specs.declared.ir.kinds.ClauseKind.TheVariants as Cl
use Rattle.ir_trees.specs.declared.ir.heads.Head.{Head}
use Rattle.ir_trees.specs.declared.ir.heads.Head.TheVariants as H
use Rattle.ir_trees.specs.declared.ir.heads.Builtin.TheVariants as B
use Rattle.ir_trees.specs.declared.ir.heads.PatternShape.TheVariants as S
use Rattle.ir_trees.specs.declared.ir.heads.ConstHead.TheVariants as C
use Rattle.ir_trees.specs.declared.ir.heads.PredHead.{PredHead}
use Rattle.ir_trees.specs.declared.ir.heads.PredHead.TheVariants as PH
use Rattle.ir_trees.specs.declared.ir.heads.ClauseHead.{ClauseHead}
use Rattle.ir_trees.specs.declared.ir.heads.ClauseHead.TheVariants as ClH
use Rattle.ir_trees.specs.declared.ir.heads.Variable.{Variable}
use Rattle.ir_trees.specs.declared.ir.heads.VariableSort.TheVariants as V
use Rattle.ir_trees.specs.Syntax.Trees.{there, Kind, TypeKind, ConstantKind, RegionKind, SignatureKind, BinderKind, ArgumentsKind, PredicatesKind}

abbrev pub variable_of : InferTy → Variable
variable_of (I.TyVar n) = record { sort = V.General; number = n }
variable_of (I.IntVar n) = record { sort = V.Integer; number = n }
variable_of (I.FloatVar n) = record { sort = V.Floating; number = n }

abbrev pub ty_head : TyKind → Head
ty_head K.Bool = H.Builtin B.Bool
ty_head K.Char = H.Builtin B.Char
ty_head (K.Int w) = H.Builtin (B.Int w)
ty_head (K.Uint w) = H.Builtin (B.Uint w)
ty_head (K.Float w) = H.Builtin (B.Float w)
ty_head K.Str = H.Builtin B.Str
ty_head K.Never = H.Builtin B.Never
ty_head (K.Adt id _) = H.Adt id
ty_head (K.Foreign id) = H.Foreign id
ty_head (K.Array _ _) = H.Builtin B.Array
ty_head (K.Slice _) = H.Builtin B.Slice
ty_head (K.Pat _ Pat.NotNull) = H.Builtin (B.Pat S.NotNull)
ty_head (K.Pat _ (Pat.Range _ _)) = H.Builtin (B.Pat S.Range)
ty_head (K.RawPtr _ m) = H.Builtin (B.RawPtr m)
ty_head (K.Ref _ _ m) = H.Ref m
ty_head (K.FnDef id _) = H.FnDef id
ty_head (K.FnPtr sig) =
    H.Builtin (B.FnPtr (record { safe = sig.value.safe; rust_abi = sig.value.rust_abi; variadic = sig.value.variadic }))
ty_head (K.UnsafeBinder _) = H.Builtin B.UnsafeBinder
ty_head (K.Dynamic _ _) = H.Dynamic
ty_head (K.Closure id args) = H.Closure id args.kind
ty_head (K.Tuple _) = H.Builtin B.Tuple
ty_head (K.Alias alias) = H.Alias alias.kind alias.id
ty_head (K.Param n) = H.Param n
ty_head (K.Placeholder p) = H.Placeholder p
ty_head (K.Bound var) = H.Bound var
ty_head (K.Infer v) = H.Infer (variable_of v)
ty_head K.Error = H.Error

abbrev pub const_head : ConstKind → Head
const_head (CK.Value n) = H.Const (C.Value n)
const_head (CK.Param n) = H.Const (C.Param n)
const_head (CK.Placeholder p) = H.Const (C.Placeholder p)
const_head (CK.Bound var) = H.Const (C.Bound var)
const_head (CK.Infer n) = H.Infer (record { sort = V.Constant; number = n })
const_head (CK.Unevaluated id _) = H.Const (C.Unevaluated id)
const_head CK.Error = H.Const C.Error

abbrev bound_head : ExistentialPredicate → PredHead
bound_head (E.Trait r) = PH.Trait r.def_id
bound_head (E.Projection p) = PH.Projection p.def_id
bound_head (E.AutoTrait id) = PH.AutoTrait id

abbrev pub pred_head : Binder ExistentialPredicate → PredHead
pred_head b = bound_head b.value

abbrev fact_head : ClauseKind → ClauseHead
fact_head (Cl.Trait p) = ClH.Trait p.trait_ref.def_id p.polarity
fact_head (Cl.Projection p) = ClH.Projection p.projection_term.def_id
fact_head (Cl.TypeOutlives _ _) = ClH.TypeOutlives
fact_head (Cl.RegionOutlives _ _) = ClH.RegionOutlives
fact_head (Cl.AliasRelate _ _) = ClH.AliasRelate
fact_head (Cl.ConstEquate _ _) = ClH.ConstEquate

abbrev pub clause_head : Binder ClauseKind → ClauseHead
clause_head b = fact_head b.value

abbrev pub arg_number : GenericArg → ℕ
arg_number (A.Ty t) = t.0
arg_number (A.Const c) = c.0
arg_number (A.Region r) = r.0

abbrev pub arg_kind : GenericArg → Kind
arg_kind (A.Ty _) = TypeKind
arg_kind (A.Const _) = ConstantKind
arg_kind (A.Region _) = RegionKind

-- an argument stands for something
pub arg_there : (a : GenericArg) → there (arg_kind a) ≡ true
arg_there (A.Ty _) = refl
arg_there (A.Const _) = refl
arg_there (A.Region _) = refl

-- a child: its number, and what it stands for
abbrev pub Child : Type 0
Child = ℕ × Kind

abbrev pub arg_child : GenericArg → Child
arg_child a = (arg_number a, arg_kind a)

abbrev pub ty_children : TyKind → List Child
ty_children (K.Adt _ list) = (list.0, ArgumentsKind) ∷ []
ty_children (K.Array element len) = (element.0, TypeKind) ∷ (len.0, ConstantKind) ∷ []
ty_children (K.Slice element) = (element.0, TypeKind) ∷ []
ty_children (K.Pat base Pat.NotNull) = (base.0, TypeKind) ∷ []
ty_children (K.Pat base (Pat.Range from to)) = (base.0, TypeKind) ∷ (from.0, ConstantKind) ∷ (to.0, ConstantKind) ∷ []
ty_children (K.RawPtr target _) = (target.0, TypeKind) ∷ []
ty_children (K.Ref lifetime target _) = (lifetime.0, RegionKind) ∷ (target.0, TypeKind) ∷ []
ty_children (K.FnDef _ list) = (list.0, ArgumentsKind) ∷ []
ty_children (K.FnPtr sig) = (sig.vars.0, BinderKind) ∷ (sig.value.inputs.0, ArgumentsKind) ∷ (sig.value.output.0, TypeKind) ∷ []
ty_children (K.UnsafeBinder inner) = (inner.vars.0, BinderKind) ∷ (inner.value.0, TypeKind) ∷ []
ty_children (K.Dynamic bounds lifetime) = (bounds.0, PredicatesKind) ∷ (lifetime.0, RegionKind) ∷ []
ty_children (K.Closure _ args) = (args.parent.0, ArgumentsKind) ∷ (args.sig.0, SignatureKind) ∷ (args.upvars.0, TypeKind) ∷ []
ty_children (K.Tuple list) = (list.0, ArgumentsKind) ∷ []
ty_children (K.Alias alias) = (alias.args.0, ArgumentsKind) ∷ []
ty_children _ = []

abbrev pub const_children : ConstKind → List Child
const_children (CK.Unevaluated _ list) = (list.0, ArgumentsKind) ∷ []
const_children _ = []

abbrev bound_children : ExistentialPredicate → List Child
bound_children (E.Trait r) = (r.args.0, ArgumentsKind) ∷ []
bound_children (E.Projection p) = (p.args.0, ArgumentsKind) ∷ (p.term.0, TypeKind) ∷ []
bound_children (E.AutoTrait _) = []

abbrev pub pred_children : Binder ExistentialPredicate → List Child
pred_children b = (b.vars.0, BinderKind) ∷ bound_children b.value

abbrev pub fact_children : ClauseKind → List Child
fact_children (Cl.Trait p) = (p.trait_ref.args.0, ArgumentsKind) ∷ []
fact_children (Cl.Projection p) = (p.projection_term.args.0, ArgumentsKind) ∷ (p.term.0, TypeKind) ∷ []
fact_children (Cl.TypeOutlives t r) = (t.0, TypeKind) ∷ (r.0, RegionKind) ∷ []
fact_children (Cl.RegionOutlives r s) = (r.0, RegionKind) ∷ (s.0, RegionKind) ∷ []
fact_children (Cl.AliasRelate t u) = (t.0, TypeKind) ∷ (u.0, TypeKind) ∷ []
fact_children (Cl.ConstEquate c d) = (c.0, ConstantKind) ∷ (d.0, ConstantKind) ∷ []

abbrev pub clause_children : Binder ClauseKind → List Child
clause_children b = (b.vars.0, BinderKind) ∷ fact_children b.value

abbrev pub sig_children : Binder ClosureSig → List Child
sig_children b = (b.vars.0, BinderKind) ∷ (b.value.inputs.0, TypeKind) ∷ (b.value.output.0, TypeKind) ∷ []

abbrev pub numbers : List Child → List ℕ
numbers cs = map (λ c. c.0) cs

abbrev pub sorts : List Child → List Kind
sorts cs = map (λ c. c.1) cs

-- A function has the `Fn` traits where it is safe, of the Rust ABI and not variadic.
abbrev pub is_fn_trait_compatible : FnSig → Bool
is_fn_trait_compatible s = s.safe && (s.rust_abi && not s.variadic)

abbrev is_general : InferTy → Bool
is_general (I.TyVar _) = true
is_general _ = false

abbrev pub is_general_variable : TyKind → Bool
is_general_variable (K.Infer v) = is_general v
is_general_variable _ = false

-- What stays as it is, whatever variables become and aliases stand for.
abbrev pub is_known_rigid : TyKind → Bool
is_known_rigid (K.Alias _) = false
is_known_rigid (K.Param _) = false
is_known_rigid (K.Placeholder _) = false
is_known_rigid (K.Bound _) = false
is_known_rigid (K.Infer _) = false
is_known_rigid K.Error = false
is_known_rigid _ = true
