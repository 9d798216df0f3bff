-- Arguments in the place of parameters.
use Rattle.std.proofs.Common.{◌≡◌, ℕ, zero, suc, ◌+◌, ◌<◌, ◌≤◌, List, [], ◌∷◌, length, get_or, Option, Some, None, Bool, IsTrue, true, false, refl, sym, ◌∙◌, ap, subst, arith}
use Rattle.std.specs.Prelude.{Result, Ok, Err, IfOk, IfErr, ◌||◌, ◌&&◌, not, nat_lt, if◌then◌else◌}
use Rattle.std.specs.Option.{unwrap_or}
use Rattle.ir_trees.specs.declared.ir.heads.Head.{Head}
use Rattle.ir_trees.specs.declared.ir.heads.Head.TheVariants as H
use Rattle.ir_trees.specs.declared.ir.heads.ConstHead.TheVariants as C
use Rattle.ir_trees.specs.declared.ir.kinds.GenericArg.{GenericArg}
use Rattle.ir_trees.specs.declared.ir.kinds.GenericArg.TheVariants as A
use Rattle.ir_trees.specs.Syntax.Trees.{Kind, TypeKind, ConstantKind, Forest, none, tree, Tree, kind_of, is_type, is_type_kind, binders_of, count, holds, tree_holds, is_list, is_list_kind}
use Rattle.ir_trees.specs.Syntax.Kinds.{arg_number, arg_kind}
use Rattle.ir_trees.specs.declared.ir.stop.Stop.{Stop}
use Rattle.ir_trees.specs.Declarations.Context.{Context}
use Rattle.ir_trees.specs.Syntax.Nodes.{tree_at, kind_at}
use Rattle.ir_trees.specs.Syntax.Words.{ListFits, list_forest}
use Rattle.ir_trees.specs.Unification.Substitutions.{is_constant_kind, alone, as_row, row_of}
use Rattle.ir_trees.specs.Instantiation.Folding.{fold, fold_tree, argument, put, put_if_there, lacks_argument, shift_tree, substituted, substituted_tree, IsSubstStop}
use Rattle.ir_trees.specs.Instantiation.Folds.{is_asked, node, IsArg, arg_tree}
use Rattle.ir_trees.proofs.Instantiation.Folding.{HeadAnswers, by_head, same_row, or-left, or-right}
use Rattle.ir_trees.proofs.Syntax.Members.{arg-there, member, member-kind, count-members}
use Rattle.ir_trees.proofs.Syntax.Rows.{kind-of, list-kind}
use Rattle.ir_trees.proofs.Syntax.Lists.{kind_of-tree_at}
use Rattle.ir_trees.specs.Syntax.Trees.{there}
use Rattle.ir_folds.proofs.Traversal.FoldSteps.{there-head}
use Rattle.ir_trees.proofs.Syntax.Splits.{list-head}
use Rattle.ir_folds.specs.Instantiation.PureFolder.{NumberComesTo}
use Rattle.ir_folds.proofs.Traversal.PureFolder.{once-alone, once-members, once-list}
use Rattle.ir_folds.proofs.Traversal.FoldLaws.{list-by}

pub put-only : (args : Forest) (d : ℕ) (h : Head) → is_asked h ≡ false → put_if_there args d h ≡ None
put-only args d (H.Param i) e = absurd cc
put-only args d (H.Const k) e = absurd cc
put-only args d _ e = refl

-- answers that agree on what stands in trees give one fold
pub fold-agree : (f g : HeadAnswers) (mark : Head → Bool) → ((d : ℕ) (h : Head) → mark h ≡ false → f d h ≡ g d h) → (d : ℕ) (ts : Forest) → holds mark ts ≡ false
    → fold (by_head f) d ts ≡ fold (by_head g) d ts
fold-agree f g mark same d none e = refl
fold-agree f g mark same d (tree h below rest) e =
    let inner = or-right (mark h) (holds mark below || holds mark rest) e in
    let here = same d h (or-left (mark h) (holds mark below || holds mark rest) e) in
    let under = fold-agree f g mark same (d + binders_of h) below (or-left (holds mark below) (holds mark rest) inner) in
    same_row (unwrap_or (f d h) (node h (fold (by_head f) (d + binders_of h) below))) (unwrap_or (g d h) (node h (fold (by_head g) (d + binders_of h) below)))
    (fold (by_head f) d rest) (fold (by_head g) d rest)
    (ap (λ (o : Option Tree). unwrap_or o (node h (fold (by_head f) (d + binders_of h) below))) here
    ∙ ap (λ (ts : Forest). unwrap_or (g d h) (node h ts)) under)
    (fold-agree f g mark same d rest (or-right (holds mark below) (holds mark rest) inner))

-- so what is put where there is an argument is all that a substitution puts
pub there-is-put : (args : Forest) (d : ℕ) (h : Head) → lacks_argument args h ≡ false → put_if_there args d h ≡ put args d h
there-is-put args d h e = ap (λ (b : Bool). if b then None else put args d h) e

pub argument-at : (ts : List Tree) (xs : List GenericArg) (i : ℕ) (d : GenericArg) → ListFits ts xs → i < length xs → argument (list_forest ts xs) i ≡ tree_at ts (arg_number (get_or xs i d))
argument-at ts [] i d f h = absurd (omega arith)
argument-at ts (x ∷ xs) zero d f h = ap (λ (r : Forest). argument r 0) (member ts x xs f)
argument-at ts (x ∷ xs) (suc i) d f h =
    let g : ListFits ts xs = cc in
    ap (λ (r : Forest). argument r (suc i)) (member ts x xs f) ∙ argument-at ts xs i d g (omega arith)

below-true : (i n : ℕ) → i < n → nat_lt i n ≡ true
below-true i n h = grind (arith, h)

-- the argument of a number of a list of a context
pub nth-there : (ts : List Tree) (r : Forest) (xs : List GenericArg) (i : ℕ) (d v : GenericArg) → ListFits ts xs → list_forest ts xs ≡ r → i < length xs → get_or xs i d ≡ v
    → IsArg ts v × (nat_lt i (count r) ≡ true) × (argument r i ≡ arg_tree ts v)
nth-there ts r xs i d v f e h g =
    let n = count-members ts xs f in
    let m = ap count e in
    let l : i < count r = omega arith in
    let At : GenericArg → Type 0 = λ y. IsArg ts y in (
      subst At g (member-kind ts xs i d f h),
      below-true i (count r) l,
      sym (ap (λ (x : Forest). argument x i) e) ∙ (argument-at ts xs i d f h ∙ ap (arg_tree ts) g),
    )

-- a parameter with an argument of its kind, and without
pub type-there : (args : Forest) (i d : ℕ) (ts : List Tree) (v : GenericArg) → nat_lt i (count args) ≡ true → argument args i ≡ arg_tree ts v → IsArg ts v → arg_kind v ≡ TypeKind
    → put_if_there args d (H.Param i) ≡ Some (shift_tree d (arg_tree ts v))
type-there args i d ts v l a f k =
    let kind : kind_of (argument args i).head ≡ TypeKind = ap (λ (t : Tree). kind_of t.head) a ∙ (kind-of ts (arg_number v) (arg_kind v) (arg-there v) f ∙ k) in
    let has : lacks_argument args (H.Param i) ≡ false = ap (λ (b : Bool). not (b && is_type (argument args i).head)) l ∙ ap (λ (x : Kind). not (is_type_kind x)) kind in
    there-is-put args d (H.Param i) has ∙ ap (λ (t : Tree). Some (shift_tree d t)) a

pub constant-there : (args : Forest) (i d : ℕ) (ts : List Tree) (v : GenericArg) → nat_lt i (count args) ≡ true → argument args i ≡ arg_tree ts v → IsArg ts v → arg_kind v ≡ ConstantKind
    → put_if_there args d (H.Const (C.Param i)) ≡ Some (shift_tree d (arg_tree ts v))
constant-there args i d ts v l a f k =
    let kind : kind_of (argument args i).head ≡ ConstantKind = ap (λ (t : Tree). kind_of t.head) a ∙ (kind-of ts (arg_number v) (arg_kind v) (arg-there v) f ∙ k) in
    let has : lacks_argument args (H.Const (C.Param i)) ≡ false = ap (λ (b : Bool). not (b && is_constant_kind (kind_of (argument args i).head))) l ∙ ap (λ (x : Kind). not (is_constant_kind x)) kind in
    there-is-put args d (H.Const (C.Param i)) has ∙ ap (λ (t : Tree). Some (shift_tree d t)) a

pub nth-missing : (ts : List Tree) (r : Forest) (xs : List GenericArg) (i : ℕ) → ListFits ts xs → list_forest ts xs ≡ r → length xs ≤ i → nat_lt i (count r) ≡ false
nth-missing ts r xs i f e h =
    let n = count-members ts xs f in
    let m = ap count e in
    let l : count r ≤ i = omega arith in
    below-false i (count r) l
  where
    below-false : (i n : ℕ) → n ≤ i → nat_lt i n ≡ false
    below-false i n h = grind (arith, h)

-- a parameter without an argument, or with one of another kind, stays
lacks-none : (args : Forest) (d : ℕ) (h : Head) → lacks_argument args h ≡ true → put_if_there args d h ≡ None
lacks-none args d h e = ap (λ (b : Bool). if b then None else put args d h) e

pub type-missing : (args : Forest) (i d : ℕ) → nat_lt i (count args) ≡ false → put_if_there args d (H.Param i) ≡ None
type-missing args i d l = lacks-none args d (H.Param i) (ap (λ (b : Bool). not (b && is_type (argument args i).head)) l)

pub constant-missing : (args : Forest) (i d : ℕ) → nat_lt i (count args) ≡ false → put_if_there args d (H.Const (C.Param i)) ≡ None
constant-missing args i d l = lacks-none args d (H.Const (C.Param i)) (ap (λ (b : Bool). not (b && is_constant_kind (kind_of (argument args i).head))) l)

no-type : (v : GenericArg) → (TypeKind ≡ arg_kind v → ⊥) → is_type_kind (arg_kind v) ≡ false
no-type (A.Ty t) n = absurd (n refl)
no-type (A.Const t) n = refl
no-type (A.Region t) n = refl

no-constant : (v : GenericArg) → (ConstantKind ≡ arg_kind v → ⊥) → is_constant_kind (arg_kind v) ≡ false
no-constant (A.Ty t) n = refl
no-constant (A.Const t) n = absurd (n refl)
no-constant (A.Region t) n = refl

and-false : (a b : Bool) → b ≡ false → not (a && b) ≡ true
and-false true b e = ap not e
and-false false b e = refl

kind-seen : (args : Forest) (i : ℕ) (ts : List Tree) (v : GenericArg) → argument args i ≡ arg_tree ts v → IsArg ts v → kind_of (argument args i).head ≡ arg_kind v
kind-seen args i ts v a f = ap (λ (t : Tree). kind_of t.head) a ∙ kind-of ts (arg_number v) (arg_kind v) (arg-there v) f

pub type-other : (args : Forest) (i d : ℕ) (ts : List Tree) (v : GenericArg) → argument args i ≡ arg_tree ts v → IsArg ts v → (TypeKind ≡ arg_kind v → ⊥)
    → put_if_there args d (H.Param i) ≡ None
type-other args i d ts v a f n =
    lacks-none args d (H.Param i) (and-false (nat_lt i (count args)) (is_type (argument args i).head) (ap is_type_kind (kind-seen args i ts v a f) ∙ no-type v n))

pub constant-other : (args : Forest) (i d : ℕ) (ts : List Tree) (v : GenericArg) → argument args i ≡ arg_tree ts v → IsArg ts v → (ConstantKind ≡ arg_kind v → ⊥)
    → put_if_there args d (H.Const (C.Param i)) ≡ None
constant-other args i d ts v a f n =
    lacks-none args d (H.Const (C.Param i)) (and-false (nat_lt i (count args)) (is_constant_kind (kind_of (argument args i).head)) (ap is_constant_kind (kind-seen args i ts v a f) ∙ no-constant v n))

pub not-both : (b : Bool) → IsTrue b → b ≡ false → ⊥
not-both b t f = let e = sym t ∙ f in cc

there-kind : (ts : List Tree) (n : ℕ) → n < length ts → there (kind_at ts n) ≡ true
there-kind ts n h = ap there (kind_of-tree_at ts n h) ∙ there-head (tree_at ts n).head

-- so of one tree
agree-tree : (f g : HeadAnswers) (mark : Head → Bool) → ((d : ℕ) (h : Head) → mark h ≡ false → f d h ≡ g d h) → (t : Tree) → tree_holds mark t ≡ false
    → fold_tree (by_head f) 0 t ≡ fold_tree (by_head g) 0 t
agree-tree f g mark same t e =
    let here = same 0 t.head (or-left (mark t.head) (holds mark t.children) e) in
    let under = fold-agree f g mark same (0 + binders_of t.head) t.children (or-right (mark t.head) (holds mark t.children) e) in
    ap (λ (o : Option Tree). unwrap_or o (node t.head (fold (by_head f) (0 + binders_of t.head) t.children))) here
    ∙ ap (λ (us : Forest). unwrap_or (g 0 t.head) (node t.head us)) under

module _ {M Rest : Type 0} (context : M → Context) (others : M → Rest) where
  -- A number that was folded by what is put for its parameters is substituted, if it lacks no argument.
  module _ (args : Forest) (s e : M) (n : ℕ) (inside : n < length (context s).trees) (lacks : tree_holds (lacks_argument args) (tree_at (context s).trees n) ≡ false) where
    abbrev Folded : Result ℕ Stop → Type 0
    Folded r = NumberComesTo context others (λ d t. put_if_there args d t.head) IsSubstStop s 0 n r e

    all : fold_tree (λ d t. put_if_there args d t.head) 0 (tree_at (context s).trees n) ≡ substituted_tree args (tree_at (context s).trees n)
    all = agree-tree (put_if_there args) (put args) (lacks_argument args) (there-is-put args) (tree_at (context s).trees n) lacks

    members : fold (λ d t. put_if_there args d t.head) 0 (tree_at (context s).trees n).children ≡ substituted args 0 (tree_at (context s).trees n).children
    members =
        let t = tree_at (context s).trees n in
        fold-agree (put_if_there args) (put args) (lacks_argument args) (there-is-put args) 0 t.children (or-right (lacks_argument args t.head) (holds (lacks_argument args) t.children) lacks)

    th : there (kind_at (context s).trees n) ≡ true
    th = there-kind (context s).trees n inside

    pub put-tree : (result : Result ℕ Stop) → Folded result → IfOk result (λ k. tree_at (context e).trees k ≡ substituted_tree args (tree_at (context s).trees n))
    put-tree (Ok k) h = h.tree ∙ all
    put-tree (Err x) h = tt

    pub put-list : (result : Result ℕ Stop) → Folded result → is_list_kind (kind_at (context s).trees n) ≡ true
        → IfOk result (λ k. (tree_at (context e).trees k).children ≡ substituted args 0 (tree_at (context s).trees n).children)
    put-list (Ok k) h list =
        once-members context others (λ d t. put_if_there args d t.head) IsSubstStop s e n (kind_at (context s).trees n) th refl (Ok k) list (λ t. put-only args 0 t.head) h ∙ members
    put-list (Err x) h list = tt

    pub put-tree-cause : (result : Result ℕ Stop) → Folded result → is_list_kind (kind_at (context s).trees n) ≡ false
        → IfErr result (λ x. IsSubstStop (length (context e).trees) (alone (substituted_tree args (tree_at (context s).trees n))) x)
    put-tree-cause (Ok k) h single = tt
    put-tree-cause (Err x) h single =
        let P : Tree → Type 0 = λ u. IsSubstStop (length (context e).trees) (alone u) x in
        subst P all (once-alone context others (λ d t. put_if_there args d t.head) IsSubstStop s e n (kind_at (context s).trees n) th refl (Err x) single h)

    pub put-list-cause : (result : Result ℕ Stop) → Folded result → is_list_kind (kind_at (context s).trees n) ≡ true
        → IfErr result (λ x. IsSubstStop (length (context e).trees) (substituted args 0 (tree_at (context s).trees n).children) x)
    put-list-cause (Ok k) h list = tt
    put-list-cause (Err x) h list =
        let P : Forest → Type 0 = λ ts. IsSubstStop (length (context e).trees) ts x in
        subst P members (once-list context others (λ d t. put_if_there args d t.head) IsSubstStop s e n (kind_at (context s).trees n) th refl (Err x) list h)

-- a list lacks an argument where a member does
pub list-there : (args : Forest) (ts : List Tree) (n : ℕ) (k : Kind) → there k ≡ true → is_list_kind k ≡ true → kind_at ts n ≡ k
    → holds (lacks_argument args) (tree_at ts n).children ≡ false → tree_holds (lacks_argument args) (tree_at ts n) ≡ false
list-there args ts n k h l i e =
    let t = tree_at ts n in
    let list : is_list t.head ≡ true = ap is_list_kind (kind-of ts n k h i) ∙ l in
    let head = list-head t.head list in
    ap (λ (b : Bool). b || holds (lacks_argument args) t.children) (ap (lacks_argument args) head.1) ∙ e

-- What is substituted in a number: its tree, of a list as of all else.
pub substituted-number : (args : Forest) (ts us : List Tree) (n m : ℕ) (k : Kind) → there k ≡ true → kind_at ts n ≡ k → kind_at us m ≡ kind_at ts n
    → (is_list_kind (kind_at ts n) ≡ false → tree_at us m ≡ substituted_tree args (tree_at ts n))
    → (is_list_kind (kind_at ts n) ≡ true → (tree_at us m).children ≡ substituted args 0 (tree_at ts n).children) → tree_at us m ≡ substituted_tree args (tree_at ts n)
substituted-number args ts us n m k th is same one members = at (is_list_kind (kind_at ts n)) refl
  where
    at : (b : Bool) → is_list_kind (kind_at ts n) ≡ b → tree_at us m ≡ substituted_tree args (tree_at ts n)
    at false single = one single
    at true list =
        let l = list-head (tree_at ts n).head (list-kind ts n k th is ∙ (ap is_list_kind (sym is) ∙ list)) in
        list-by (λ d u. put args d u.head) ts us n m k th (ap is_list_kind (sym is) ∙ list) is (same ∙ is) (ap (put args 0) l.1) (members list)

-- why that stopped
pub substituted-stop : (args : Forest) (ts : List Tree) (n given : ℕ) (k : Kind) (s : Stop) → kind_at ts n ≡ k
    → (is_list_kind (kind_at ts n) ≡ false → IsSubstStop given (alone (substituted_tree args (tree_at ts n))) s)
    → (is_list_kind (kind_at ts n) ≡ true → IsSubstStop given (substituted args 0 (tree_at ts n).children) s) → IsSubstStop given (substituted args 0 (row_of k (tree_at ts n))) s
substituted-stop args ts n given k s is one members = at (is_list_kind k) refl
  where
    at : (b : Bool) → is_list_kind k ≡ b → IsSubstStop given (substituted args 0 (as_row b (tree_at ts n))) s
    at false single = one (ap is_list_kind is ∙ single)
    at true list = members (ap is_list_kind is ∙ list)
