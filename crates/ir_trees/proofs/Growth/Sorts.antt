-- What a number's kind says of its node.
use Rattle.std.proofs.Common.{◌≡◌, ℕ, ◌<◌, List, length, refl, sym, ◌∙◌, ap}
use Rattle.std.proofs.Common.{Vec, Global}
use Rattle.ir_trees.specs.declared.ir.kinds.GenericArg.{GenericArg}
use Rattle.ir_trees.specs.declared.ir.kinds.TyKind.{TyKind}
use Rattle.ir_trees.specs.declared.ir.kinds.TyKind.TheVariants as K
use Rattle.ir_trees.specs.declared.ir.kinds.InferTy.TheVariants as I
use Rattle.ir_trees.specs.declared.ir.kinds.Pattern.TheVariants as Pat
use Rattle.ir_trees.specs.declared.ir.kinds.ConstKind.{ConstKind}
use Rattle.ir_trees.specs.declared.ir.kinds.Pred.{Pred}
use Rattle.ir_trees.specs.declared.ir.kinds.Binder.{Binder}
use Rattle.ir_trees.specs.declared.ir.kinds.Clause.{Clause}
use Rattle.ir_trees.specs.declared.ir.kinds.ClauseKind.{ClauseKind}
use Rattle.ir_trees.specs.declared.ir.kinds.ClosureSig.{ClosureSig}
use Rattle.ir_trees.specs.declared.ir.kinds.RegionKind.{RegionKind}
use Rattle.ir_trees.specs.declared.ir.kinds.Var.{Var}
use Rattle.ir_trees.specs.declared.ir.kinds.VarKind.{VarKind}
use Rattle.ir_trees.specs.declared.ir.kinds.ExistentialPredicate.{ExistentialPredicate}
use Rattle.ir_trees.specs.declared.ir.kinds.ConstKind.TheVariants as CK
use Rattle.ir_trees.specs.Syntax.Trees.{TypeKind, ConstantKind, RegionKind as OfRegion, ArgumentsKind, PredicatesKind, PredicateKind, ClauseKind as OfClause, ClausesKind, SignatureKind, BinderKind, VariableKind, Tree, kind_of, kind_weight, weight}
use Rattle.ir_trees.specs.Syntax.Kinds.{ty_head, const_head}
use Rattle.ir_trees.specs.Syntax.Nodes.{kind_at, head_of}
use Rattle.ir_trees.specs.Syntax.Table.{IsNodeOf}
use Rattle.ir_trees.specs.declared.ir.node.Node.{Node}
use Rattle.ir_trees.specs.declared.ir.node.Node.TheVariants as N
use Rattle.ir_trees.proofs.Syntax.Lists.{below_kind, kind_of-tree_at}

pub node_kind : (ts : List Tree) (n : ℕ) (d : Node) → n < length ts → IsNodeOf ts n d → kind_at ts n ≡ kind_of (head_of d)
node_kind ts n d h i = kind_of-tree_at ts n h ∙ ap (λ (t : Tree). kind_of t.head) i.tree

pub ty_is_type : (k : TyKind) → kind_of (ty_head k) ≡ TypeKind
ty_is_type (K.Infer (I.TyVar _)) = refl
ty_is_type (K.Infer (I.IntVar _)) = refl
ty_is_type (K.Infer (I.FloatVar _)) = refl
ty_is_type (K.Pat _ Pat.NotNull) = refl
ty_is_type (K.Pat _ (Pat.Range _ _)) = refl
ty_is_type _ = refl

pub const_is_constant : (k : ConstKind) → kind_of (const_head k) ≡ ConstantKind
const_is_constant (CK.Unevaluated _ _) = refl
const_is_constant _ = refl

ty_kind : (d : Node) → kind_of (head_of d) ≡ TypeKind → (k : TyKind) × (d ≡ N.Ty k)
ty_kind (N.Ty k) e = (k, refl)
ty_kind (N.Const k) e = absurd (let f = const_is_constant k in cc)
ty_kind _ e = absurd cc

pub ty_node : (ts : List Tree) (n : ℕ) (d : Node) → kind_at ts n ≡ TypeKind → IsNodeOf ts n d → (k : TyKind) × (d ≡ N.Ty k)
ty_node ts n d e i = ty_kind d (sym (node_kind ts n d (below_kind ts n TypeKind refl e) i) ∙ e)

args_list : (d : Node) → kind_of (head_of d) ≡ ArgumentsKind → (v : Vec GenericArg Global) × (d ≡ N.Args v)
args_list (N.Ty k) e = absurd (let f = ty_is_type k in cc)
args_list (N.Const k) e = absurd (let f = const_is_constant k in cc)
args_list (N.Args v) e = (v, refl)
args_list _ e = absurd cc

pub args_node : (ts : List Tree) (n : ℕ) (d : Node) → kind_at ts n ≡ ArgumentsKind → IsNodeOf ts n d → (v : Vec GenericArg Global) × (d ≡ N.Args v)
args_node ts n d e i = args_list d (sym (node_kind ts n d (below_kind ts n ArgumentsKind refl e) i) ∙ e)

pub ty_weight : (d : Node) (k : TyKind) → d ≡ N.Ty k → weight (head_of d) ≡ 1
ty_weight d k e = ap (λ (x : Node). weight (head_of x)) e ∙ ap kind_weight (ty_is_type k)

pub const_weight : (d : Node) (k : ConstKind) → d ≡ N.Const k → weight (head_of d) ≡ 1
const_weight d k e = ap (λ (x : Node). weight (head_of x)) e ∙ ap kind_weight (const_is_constant k)

pub other_weight : (d : Node) → ((k : TyKind) → d ≡ N.Ty k → ⊥) → ((k : ConstKind) → d ≡ N.Const k → ⊥) → weight (head_of d) ≡ 0
other_weight (N.Ty k) p q = absurd (p k refl)
other_weight (N.Const k) p q = absurd (q k refl)
other_weight (N.Region k) p q = refl
other_weight _ p q = refl

preds_list : (d : Node) → kind_of (head_of d) ≡ PredicatesKind → (v : Vec Pred Global) × (d ≡ N.Preds v)
preds_list (N.Ty k) e = absurd (let f = ty_is_type k in cc)
preds_list (N.Const k) e = absurd (let f = const_is_constant k in cc)
preds_list (N.Preds v) e = (v, refl)
preds_list _ e = absurd cc

pub preds_node : (ts : List Tree) (n : ℕ) (d : Node) → kind_at ts n ≡ PredicatesKind → IsNodeOf ts n d → (v : Vec Pred Global) × (d ≡ N.Preds v)
preds_node ts n d e i = preds_list d (sym (node_kind ts n d (below_kind ts n PredicatesKind refl e) i) ∙ e)

pred_of : (d : Node) → kind_of (head_of d) ≡ PredicateKind → (b : Binder ExistentialPredicate) × (d ≡ N.Pred b)
pred_of (N.Ty k) e = absurd (let f = ty_is_type k in cc)
pred_of (N.Const k) e = absurd (let f = const_is_constant k in cc)
pred_of (N.Pred b) e = (b, refl)
pred_of _ e = absurd cc

pub pred_node : (ts : List Tree) (n : ℕ) (d : Node) → kind_at ts n ≡ PredicateKind → IsNodeOf ts n d → (b : Binder ExistentialPredicate) × (d ≡ N.Pred b)
pred_node ts n d e i = pred_of d (sym (node_kind ts n d (below_kind ts n PredicateKind refl e) i) ∙ e)

const_of : (d : Node) → kind_of (head_of d) ≡ ConstantKind → (x : ConstKind) × (d ≡ N.Const x)
const_of (N.Ty k) e = absurd (let f = ty_is_type k in cc)
const_of (N.Const x) e = (x, refl)
const_of _ e = absurd cc

pub const_node : (ts : List Tree) (n : ℕ) (d : Node) → kind_at ts n ≡ ConstantKind → IsNodeOf ts n d → (x : ConstKind) × (d ≡ N.Const x)
const_node ts n d e i = const_of d (sym (node_kind ts n d (below_kind ts n ConstantKind refl e) i) ∙ e)

region_of : (d : Node) → kind_of (head_of d) ≡ OfRegion → (x : RegionKind) × (d ≡ N.Region x)
region_of (N.Ty k) e = absurd (let f = ty_is_type k in cc)
region_of (N.Const k) e = absurd (let f = const_is_constant k in cc)
region_of (N.Region x) e = (x, refl)
region_of _ e = absurd cc

pub region_node : (ts : List Tree) (n : ℕ) (d : Node) → kind_at ts n ≡ OfRegion → IsNodeOf ts n d → (x : RegionKind) × (d ≡ N.Region x)
region_node ts n d e i = region_of d (sym (node_kind ts n d (below_kind ts n OfRegion refl e) i) ∙ e)

sig_of : (d : Node) → kind_of (head_of d) ≡ SignatureKind → (x : Binder ClosureSig) × (d ≡ N.Sig x)
sig_of (N.Ty k) e = absurd (let f = ty_is_type k in cc)
sig_of (N.Const k) e = absurd (let f = const_is_constant k in cc)
sig_of (N.Sig x) e = (x, refl)
sig_of _ e = absurd cc

pub sig_node : (ts : List Tree) (n : ℕ) (d : Node) → kind_at ts n ≡ SignatureKind → IsNodeOf ts n d → (x : Binder ClosureSig) × (d ≡ N.Sig x)
sig_node ts n d e i = sig_of d (sym (node_kind ts n d (below_kind ts n SignatureKind refl e) i) ∙ e)

clause_of : (d : Node) → kind_of (head_of d) ≡ OfClause → (x : Binder ClauseKind) × (d ≡ N.Clause x)
clause_of (N.Ty k) e = absurd (let f = ty_is_type k in cc)
clause_of (N.Const k) e = absurd (let f = const_is_constant k in cc)
clause_of (N.Clause x) e = (x, refl)
clause_of _ e = absurd cc

pub clause_node : (ts : List Tree) (n : ℕ) (d : Node) → kind_at ts n ≡ OfClause → IsNodeOf ts n d → (x : Binder ClauseKind) × (d ≡ N.Clause x)
clause_node ts n d e i = clause_of d (sym (node_kind ts n d (below_kind ts n OfClause refl e) i) ∙ e)

env_of : (d : Node) → kind_of (head_of d) ≡ ClausesKind → (x : Vec Clause Global) × (d ≡ N.Clauses x)
env_of (N.Ty k) e = absurd (let f = ty_is_type k in cc)
env_of (N.Const k) e = absurd (let f = const_is_constant k in cc)
env_of (N.Clauses x) e = (x, refl)
env_of _ e = absurd cc

pub env_node : (ts : List Tree) (n : ℕ) (d : Node) → kind_at ts n ≡ ClausesKind → IsNodeOf ts n d → (x : Vec Clause Global) × (d ≡ N.Clauses x)
env_node ts n d e i = env_of d (sym (node_kind ts n d (below_kind ts n ClausesKind refl e) i) ∙ e)

vars_of : (d : Node) → kind_of (head_of d) ≡ BinderKind → (x : Vec Var Global) × (d ≡ N.Vars x)
vars_of (N.Ty k) e = absurd (let f = ty_is_type k in cc)
vars_of (N.Const k) e = absurd (let f = const_is_constant k in cc)
vars_of (N.Vars x) e = (x, refl)
vars_of _ e = absurd cc

pub vars_node : (ts : List Tree) (n : ℕ) (d : Node) → kind_at ts n ≡ BinderKind → IsNodeOf ts n d → (x : Vec Var Global) × (d ≡ N.Vars x)
vars_node ts n d e i = vars_of d (sym (node_kind ts n d (below_kind ts n BinderKind refl e) i) ∙ e)

var_of : (d : Node) → kind_of (head_of d) ≡ VariableKind → (x : VarKind) × (d ≡ N.Var x)
var_of (N.Ty k) e = absurd (let f = ty_is_type k in cc)
var_of (N.Const k) e = absurd (let f = const_is_constant k in cc)
var_of (N.Var x) e = (x, refl)
var_of _ e = absurd cc

pub var_node : (ts : List Tree) (n : ℕ) (d : Node) → kind_at ts n ≡ VariableKind → IsNodeOf ts n d → (x : VarKind) × (d ≡ N.Var x)
var_node ts n d e i = var_of d (sym (node_kind ts n d (below_kind ts n VariableKind refl e) i) ∙ e)
