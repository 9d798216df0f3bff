-- Clauses out of their binders.
use Rattle.std.proofs.Common.{◌≡◌, ℕ, zero, suc, ◌+◌, ◌-◌, ◌<◌, arith, List, [], ◌∷◌, length, Option, Some, None, Bool, true, false, refl, sym, ◌∙◌, ap, subst, inl, inr}
use Rattle.std.specs.Prelude.{Result, Ok, Err, IfOk, IfSome, map, nat_lt, if◌then◌else◌}
use Rattle.ir_trees.specs.declared.ir.heads.ClauseHead.{ClauseHead}
use Rattle.ir_trees.specs.declared.ir.heads.Head.{Head}
use Rattle.ir_trees.specs.declared.ir.heads.Head.TheVariants as H
use Rattle.ir_trees.specs.declared.ir.heads.ListHead.{ListHead}
use Rattle.ir_trees.specs.declared.ir.heads.ListHead.TheVariants as L
use Rattle.ir_trees.specs.declared.ir.heads.PartHead.TheVariants as P
use Rattle.ir_trees.specs.declared.ir.heads.VariableSort.{VariableSort}
use Rattle.ir_trees.specs.declared.ir.heads.VariableSort.TheVariants as V
use Rattle.ir_trees.specs.declared.ir.kinds.Binder.{Binder}
use Rattle.ir_trees.specs.declared.ir.kinds.BoundVar.{BoundVar}
use Rattle.ir_trees.specs.declared.ir.kinds.Clause.{Clause}
use Rattle.ir_trees.specs.declared.ir.kinds.ClauseKind.{ClauseKind}
use Rattle.ir_trees.specs.declared.ir.kinds.GenericArg.{GenericArg}
use Rattle.ir_trees.specs.declared.ir.kinds.GenericArg.TheVariants as A
use Rattle.ir_trees.specs.declared.ir.kinds.VarKind.{VarKind}
use Rattle.ir_trees.specs.declared.ir.kinds.VarKind.TheVariants as K
use Rattle.ir_trees.specs.declared.ir.kinds.Vars.{Vars}
use Rattle.ir_trees.specs.declared.ir.stop.Stop.{Stop}
use Rattle.ir_trees.specs.Declarations.Context.{Context, parameter_kind}
use Rattle.ir_trees.specs.Hierarchy.Elaboration.{under_binder}
use Rattle.ir_trees.specs.Instantiation.Folding.{fold, fold_tree, leaf, argument, IsSubstStop, no_memory, few_numbers}
use Rattle.ir_trees.specs.Instantiation.Folds.{is_asked, node, IsArg, IsOfKind, arg_tree}
use Rattle.ir_trees.specs.Syntax.Kinds.{arg_number, arg_kind, clause_head}
use Rattle.ir_trees.specs.Syntax.Nodes.{error_tree, rows}
use Rattle.ir_trees.specs.Instantiation.Opening.{is_of, of_kind, error_of, bound_head, opened_head, opened, opened_clause, under_variables}
use Rattle.ir_trees.specs.Declarations.References.{FitsAmong, Takes}
use Rattle.ir_trees.specs.Unification.Substitutions.{alone}
use Rattle.ir_trees.specs.Hierarchy.Supers.{after_first}
use Rattle.ir_trees.specs.Syntax.Trees.{Kind, BinderKind, VariableKind, ClauseKind as ClauseKindOf, Forest, none, tree, Tree, kind_of, count, row, sort_kind, list_kind}
use Rattle.ir_trees.specs.Syntax.Words.{IsVars, IsClause, ClauseFits, clause_tree, clause_kind_tree, vars_tree, var_kind_tree, IsMkListStop}
use Rattle.ir_trees.specs.Declarations.Worlds.{World, Fits, child_kinds, clause_kinds, kinds_of, joined, all_of}
use Rattle.ir_folds.proofs.Traversal.FoldKinds.{takes-again}
use Rattle.ir_trees.proofs.Instantiation.Folding.{HeadAnswers, by_head}
use Rattle.ir_folds.proofs.Traversal.FoldStops.{subst-cause}
use Rattle.ir_folds.proofs.Instantiation.Joining.{AreVariables, fold-variables, over, binder-head, below_binder, below-subst, clause-over, joint-fits, one-deeper}
use Rattle.ir_trees.proofs.Growth.Kept.{grows-refl}
use Rattle.ir_trees.proofs.Syntax.Members.{arg-there}
use Rattle.ir_trees.proofs.Syntax.Rows.{kind-of}

-- Values by their kinds.

error-stays : (k : VarKind) → of_kind k error_tree ≡ leaf (error_of k)
error-stays K.Ty = refl
error-stays K.Const = refl
error-stays K.Region = refl

pub value-missing : (k : VarKind) (vs : Forest) (i : ℕ) → nat_lt i (count vs) ≡ false → of_kind k (argument vs i) ≡ leaf (error_of k)
value-missing k vs i e = ap (of_kind k) (none_there vs i e) ∙ error-stays k
  where
    positive : (n : ℕ) → 0 < 1 + n → nat_lt 0 (1 + n) ≡ true
    positive n h = grind (arith, h)

    smaller : (i n : ℕ) → nat_lt (suc i) (1 + n) ≡ false → nat_lt i n ≡ false
    smaller i n e = grind (arith, e)

    none_there : (vs : Forest) (i : ℕ) → nat_lt i (count vs) ≡ false → argument vs i ≡ error_tree
    none_there none i e = refl
    none_there (tree h below rest) zero e = absurd (let clash : true ≡ false = sym (positive (count rest) (omega arith)) ∙ e in cc)
    none_there (tree h below rest) (suc i) e = none_there rest i (smaller i (count rest) e)

own-kind : (k : VarKind) → is_of k (parameter_kind k) ≡ true
own-kind K.Ty = refl
own-kind K.Const = refl
own-kind K.Region = refl

other-kind : (k : VarKind) (v : GenericArg) → (parameter_kind k ≡ arg_kind v → ⊥) → is_of k (arg_kind v) ≡ false
other-kind K.Ty (A.Ty t) n = absurd (n refl)
other-kind K.Ty (A.Const t) n = refl
other-kind K.Ty (A.Region t) n = refl
other-kind K.Const (A.Ty t) n = refl
other-kind K.Const (A.Const t) n = absurd (n refl)
other-kind K.Const (A.Region t) n = refl
other-kind K.Region (A.Ty t) n = refl
other-kind K.Region (A.Const t) n = refl
other-kind K.Region (A.Region t) n = absurd (n refl)

module _ (k : VarKind) (vs : Forest) (i : ℕ) (ts : List Tree) (v : GenericArg) (is : argument vs i ≡ arg_tree ts v) (f : IsArg ts v) where
  seen : kind_of (argument vs i).head ≡ arg_kind v
  seen = ap (λ (t : Tree). kind_of t.head) is ∙ kind-of ts (arg_number v) (arg_kind v) (arg-there v) f

  pub value-there : arg_kind v ≡ parameter_kind k → of_kind k (argument vs i) ≡ arg_tree ts v
  value-there e =
      ap (λ (b : Bool). if b then argument vs i else leaf (error_of k)) (ap (is_of k) (seen ∙ e) ∙ own-kind k) ∙ is

  pub value-other : (parameter_kind k ≡ arg_kind v → ⊥) → of_kind k (argument vs i) ≡ leaf (error_of k)
  value-other n = ap (λ (b : Bool). if b then argument vs i else leaf (error_of k)) (ap (is_of k) seen ∙ other-kind k v n)

-- What stands for a variable is of its kind.

pub bound-kind : (k : VarKind) (v : BoundVar) → kind_of (bound_head k v) ≡ parameter_kind k
bound-kind K.Ty v = refl
bound-kind K.Const v = refl
bound-kind K.Region v = refl

pub answer-kind : (ts : List Tree) (x : GenericArg) (k : VarKind) (r : Result (Option GenericArg) Stop) → parameter_kind k ≡ arg_kind x
    → IfOk r (λ o. IfSome o (λ a. IsArg ts a × (arg_kind a ≡ parameter_kind k))) → IfOk r (λ o. IsOfKind ts x o)
answer-kind ts x k (Ok None) e p = tt
answer-kind ts x k (Ok (Some a)) e p = (p.0, p.1 ∙ e)
answer-kind ts x k (Err s) e p = tt

pub opened-only : (values : Forest) (d : ℕ) (h : Head) → is_asked h ≡ false → opened_head values d h ≡ None
opened-only values d (H.Bound v) e = absurd cc
opened-only values d (H.Const k) e = absurd cc
opened-only values d (H.Region k) e = absurd cc
opened-only values d _ e = refl

-- The clause that is made.

clause-headed : (h : Head) → kind_of h ≡ ClauseKindOf → (c : ClauseHead) × (h ≡ H.Part (P.Clause c))
clause-headed (H.Part (P.Clause c)) e = (c, refl)
clause-headed (H.Part (P.Pred c)) e = absurd cc
clause-headed (H.Part P.Sig) e = absurd cc
clause-headed (H.Part P.Vars) e = absurd cc
clause-headed (H.Part (P.Var k)) e = absurd cc
clause-headed (H.Infer v) e = at v.sort e
  where
    at : (s : VariableSort) → sort_kind s ≡ ClauseKindOf → (c : ClauseHead) × (H.Infer v ≡ H.Part (P.Clause c))
    at V.Constant e = absurd cc
    at _ e = absurd cc
clause-headed (H.List l) e = at l e
  where
    at : (m : ListHead) → list_kind m ≡ ClauseKindOf → (c : ClauseHead) × (H.List l ≡ H.Part (P.Clause c))
    at L.Args e = absurd cc
    at L.Preds e = absurd cc
    at L.Clauses e = absurd cc
clause-headed _ e = absurd cc

abbrev pub deeper : Forest → HeadAnswers
deeper values d = opened_head values (d - 1)

after-fold : (values ts : Forest) → after_first (fold (by_head (deeper values)) 1 ts) ≡ opened values (after_first ts)
after-fold values none = refl
after-fold values (tree h below rest) = one-deeper (opened_head values) 0 rest

abbrev clause_of : ClauseHead → Head → ClauseHead
clause_of h (H.Part (P.Clause c)) = c
clause_of h _ = h

whole : (values : Forest) (s : Tree) (c h : ClauseHead) (vs below : Forest) → s.head ≡ H.Part (P.Clause c) → fold_tree (by_head (deeper values)) 0 s ≡ over h vs below
    → over h none below ≡ opened_clause values s
whole values s c h vs below e t =
    let headed : Tree = node (H.Part (P.Clause c)) s.children in
    let same : s ≡ headed = ap (λ (x : Head). node x s.children) e in
    let folded : node (H.Part (P.Clause c)) (fold (by_head (deeper values)) 1 s.children) ≡ over h vs below = sym (ap (fold_tree (by_head (deeper values)) 0) same) ∙ t in
    let one : c ≡ h = ap (λ (u : Tree). clause_of c u.head) folded in
    let under : opened values (after_first s.children) ≡ below = sym (after-fold values s.children) ∙ ap under_binder folded in
    sym (ap (opened_clause values) same ∙ (ap (λ (x : ClauseHead). over x none (opened values (after_first s.children))) one ∙ ap (over h none) under))

module _ (values : Forest) (old : List Tree) (x : Clause) (sort : IsClause old x) (new : Context) (empty : Vars) (b : Binder ClauseKind) (y : Clause) (v : IsVars new.trees empty)
    (nothing : vars_tree new.trees empty ≡ node (H.Part P.Vars) none) (f : ClauseFits new.trees b)
    (r : clause_tree new.trees y ≡ over (clause_head b) (vars_tree new.trees b.vars).children (below_binder new.trees b))
    (t : clause_tree new.trees y ≡ fold_tree (by_head (deeper values)) 0 (clause_tree old x)) where
  abbrev made : Binder ClauseKind
  made = record { vars = empty; value = b.value }

  made-over : clause_kind_tree new.trees made ≡ over (clause_head b) none (below_binder new.trees b)
  made-over =
      clause-over new.trees made (joint-fits new new empty b (grows-refl new) v f)
      ∙ ap (λ (u : Tree). over (clause_head b) u.children (below_binder new.trees b)) nothing

  pub opened-tree : clause_kind_tree new.trees made ≡ opened_clause values (clause_tree old x)
  opened-tree =
      let headed = clause-headed (clause_tree old x).head (kind-of old x.0 ClauseKindOf refl sort) in
      made-over ∙ whole values (clause_tree old x) headed.0 (clause_head b) (vars_tree new.trees b.vars).children (below_binder new.trees b) headed.1 (sym t ∙ r)

  pub opened-takes : (w : World) → FitsAmong w (clause_tree new.trees y) → Takes w (clause_kind_tree new.trees made)
  opened-takes w fit =
      let vs = (vars_tree new.trees b.vars).children in
      let own : FitsAmong w (over (clause_head b) vs (below_binder new.trees b)) = subst (FitsAmong w) r fit in
      let again : Takes w (over (clause_head b) none (below_binder new.trees b)) = takes-again w (over (clause_head b) vs (below_binder new.trees b)) (tree (H.Part P.Vars) none (below_binder new.trees b)) own refl in
      subst (Takes w) (sym made-over) again

-- A clause that fits has its binder first, which has variables alone.
variable-head : (h : Head) → kind_of h ≡ VariableKind → (k : VarKind) × (h ≡ H.Part (P.Var k))
variable-head (H.Part (P.Clause c)) e = absurd cc
variable-head (H.Part (P.Pred c)) e = absurd cc
variable-head (H.Part P.Sig) e = absurd cc
variable-head (H.Part P.Vars) e = absurd cc
variable-head (H.Part (P.Var k)) e = (k, refl)
variable-head (H.Infer v) e = at v.sort e
  where
    at : (s : VariableSort) → sort_kind s ≡ VariableKind → (k : VarKind) × (H.Infer v ≡ H.Part (P.Var k))
    at V.Constant e = absurd cc
    at _ e = absurd cc
variable-head (H.List l) e = at l e
  where
    at : (m : ListHead) → list_kind m ≡ VariableKind → (k : VarKind) × (H.List l ≡ H.Part (P.Var k))
    at L.Args e = absurd cc
    at L.Preds e = absurd cc
    at L.Clauses e = absurd cc
variable-head _ e = absurd cc

no-kinds : (ts : Forest) → Some [] ≡ Some (kinds_of ts) → ts ≡ none
no-kinds none e = refl
no-kinds (tree h below rest) e = absurd cc

all-variables : (w : World) (ts : Forest) → Some (all_of VariableKind (kinds_of ts)) ≡ Some (kinds_of ts) → Fits w ts → AreVariables ts
all-variables w none e f = tt
all-variables w (tree h below rest) e f =
    let kind : kind_of h ≡ VariableKind = cc in
    let others : Some (all_of VariableKind (kinds_of rest)) ≡ Some (kinds_of rest) = cc in
    let is = variable-head h kind in
    let own = subst (λ (x : Head). child_kinds w x (kinds_of below) ≡ Some (kinds_of below)) is.1 f.0 in
    (is, no-kinds below own, all-variables w rest others f.2)

first-kind : (k : Kind) (o : Option (List Kind)) (ks : List Kind) → joined (Some (k ∷ [])) o ≡ Some ks → (more : List Kind) × (ks ≡ k ∷ more)
first-kind k None ks e = absurd cc
first-kind k (Some more) ks e = (more, cc)

record Parts (t : Tree) : Type 0 where
  pub said : ClauseHead
  pub variables : Forest
  pub under : Forest
  pub is : t ≡ over said variables under
  pub are : AreVariables variables

parts : (w : World) (t : Tree) → kind_of t.head ≡ ClauseKindOf → FitsAmong w t → Parts t
parts w t k f =
    let headed = clause-headed t.head k in
    let own : Fits w (alone (node (H.Part (P.Clause headed.0)) t.children)) = subst (λ (h : Head). Fits w (row (node h t.children) none)) headed.1 f in
    subst Parts (ap (λ (h : Head). node h t.children) (sym headed.1)) (at headed.0 t.children own.0 own.1)
  where
    at : (c : ClauseHead) (ts : Forest) → child_kinds w (H.Part (P.Clause c)) (kinds_of ts) ≡ Some (kinds_of ts) → Fits w ts → Parts (node (H.Part (P.Clause c)) ts)
    at c none e f = let first = (first-kind BinderKind (clause_kinds w c) [] e).1 in absurd cc
    at c (tree h vs below) e f =
        let first = (first-kind BinderKind (clause_kinds w c) (kind_of h ∷ kinds_of below) e).1 in
        let kind : kind_of h ≡ BinderKind = cc in
        let binder = binder-head h kind in
        record {
          said = c;
          variables = vs;
          under = below;
          is = ap (λ (x : Head). node (H.Part (P.Clause c)) (tree x vs below)) binder;
          are = all-variables w vs (subst (λ (x : Head). child_kinds w x (kinds_of vs) ≡ Some (kinds_of vs)) binder f.0) f.1;
        }

-- Why its fold stopped, so did the clause that was to be made of it.
pub opened-cause : (given : ℕ) (w : World) (values : Forest) (s : Tree) (x : Stop) → kind_of s.head ≡ ClauseKindOf → FitsAmong w s
    → IsSubstStop given (alone (fold_tree (by_head (deeper values)) 0 s)) x → IsSubstStop given (alone (opened_clause values s)) x
opened-cause given w values s x k f c =
    let p = parts w s k f in
    let Stopped : Tree → Type 0 = λ t. IsSubstStop given (alone t) x in
    let below = opened values p.under in
    let still : fold_tree (by_head (deeper values)) 0 s ≡ over p.said p.variables below =
    ap (fold_tree (by_head (deeper values)) 0) p.is
    ∙ (ap (λ (vs : Forest). over p.said vs (fold (by_head (deeper values)) 1 p.under)) (fold-variables (deeper values) (λ d v. refl) 1 p.variables p.are)
    ∙ ap (over p.said p.variables) (one-deeper (opened_head values) 0 p.under)) in
    subst Stopped (sym (ap (opened_clause values) p.is))
    (subst-cause.of_below given (H.Part (P.Clause p.said)) (tree (H.Part P.Vars) none below) none x
    (subst-cause.of_rest given (H.Part P.Vars) none below x (below-subst given p.said p.variables below x p.are (subst Stopped still c))))

-- an empty binder that was not made
pub binder-stop : (old new : Context) (made : Forest) (x : Stop) → new ≡ old → IsMkListStop old.trees 1 0 x → IsSubstStop (length new.trees) made x
binder-stop old new made x e (inl m) = let P : Stop → Type 0 = λ y. IsSubstStop (length new.trees) made y in subst P (sym m) no_memory
binder-stop old new made x e (inr (m, inl few)) =
    let P : Stop → Type 0 = λ y. IsSubstStop (length new.trees) made y in
    let same = ap (λ (c : Context). length c.trees) e in
    subst P (sym m) (few_numbers (omega (arith, few, same)))
binder-stop old new made x e (inr (m, inr tall)) = absurd (omega (arith, tall))

-- The kinds of a binder's variables that were read.
pub kinds-read : (c : Context) (x : Clause) (b : Binder ClauseKind) (ks : List VarKind) → clause_tree c.trees x ≡ over (clause_head b) (vars_tree c.trees b.vars).children (below_binder c.trees b)
    → rows (map var_kind_tree ks) ≡ (vars_tree c.trees b.vars).children → (clause_tree c.trees x).children ≡ under_variables ks (clause_tree c.trees x)
kinds-read c x b ks r e =
    ap (λ (t : Tree). t.children) r
    ∙ (ap (λ (f : Forest). tree (H.Part P.Vars) f (below_binder c.trees b)) (sym e)
    ∙ ap (λ (f : Forest). tree (H.Part P.Vars) (rows (map var_kind_tree ks)) f) (sym (ap under_binder r)))
