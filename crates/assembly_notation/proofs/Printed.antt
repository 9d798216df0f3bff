-- What is added to a text, byte after byte, and how many words a type of each kind is spelled in.
use Rattle.std.proofs.Common.{◌≡◌, ℕ, ◌+◌, ◌<◌, Bool, true, false, cond, List, [], ◌∷◌, ◌++◌, map, length, get_or, drop, ◌≤◌, refl, sym, subst, ◌∙◌, ap, arith, Result}
use Rattle.std.specs.Prelude.{OnOk, nat_le}
use Rattle.std.specs.Char.{encode_utf8}
use Rattle.std.proofs.lemmas.Result.{on_ok_weaker}
use Rattle.std.proofs.lemmas.List.{append_assoc, append-nil, at_drop_more, at_drop_all}
use Rattle.ir_trees.specs.declared.ir.heads.Head.{Head}
use Rattle.ir_trees.specs.declared.ir.heads.Head.TheVariants as H
use Rattle.ir_trees.specs.declared.ir.heads.PartHead.TheVariants as P
use Rattle.ir_trees.specs.declared.ir.kinds.ExistentialPredicate.TheVariants as E
use Rattle.ir_trees.specs.declared.ir.kinds.GenericArg.{GenericArg}
use Rattle.ir_trees.specs.declared.ir.kinds.GenericArg.TheVariants as A
use Rattle.ir_trees.specs.declared.ir.kinds.Pred.{Pred}
use Rattle.ir_trees.specs.declared.ir.kinds.Var.{Var}
use Rattle.ir_trees.specs.declared.ir.kinds.TyKind.{TyKind}
use Rattle.ir_trees.specs.declared.ir.kinds.TyKind.TheVariants as K
use Rattle.ir_trees.specs.declared.ir.heads.ListHead.TheVariants as L
use Rattle.ir_trees.specs.declared.ir.heads.VariableSort.{VariableSort}
use Rattle.ir_trees.specs.declared.ir.heads.VariableSort.TheVariants as V
use Rattle.ir_trees.specs.declared.ir.heads.ListHead.{ListHead}
use Rattle.ir_trees.specs.Syntax.Kinds.{arg_kind, arg_number, arg_there, numbers}
use Rattle.ir_trees.specs.Syntax.Nodes.{tree_at, kind_at, trees_at, rows, var_child}
use Rattle.ir_trees.specs.Syntax.Trees.{Forest, none, tree, Tree, Kind, ArgumentsKind, PredicatesKind, BinderKind, RegionKind, ConstantKind, VariableKind, is_list, list_kind, sort_kind, is_list_kind, join, put, row, kind_of, there}
use Rattle.ir_trees.specs.Syntax.Words.{KindFits, PredFits, VarListFits, args_forest, kind_tree, list_forest, pred_kind_tree, pred_list_forest, pred_tree, preds_forest, region_tree, ty_tree, vars_kind_tree, vars_tree}
use Rattle.ir_trees.specs.Instantiation.Folds.{IsArg, arg_tree}
use Rattle.ir_trees.proofs.Syntax.Lists.{below_kind, kind_of-tree_at}
use Rattle.ir_trees.proofs.Syntax.Rows.{row-single}
use Rattle.ir_trees.proofs.Syntax.Splits.{list-head}
use Rattle.ir_folds.proofs.Instantiation.Joining.{binder-head}
use Rattle.assembly_notation.proofs.Lines.{spaces-append}
use Rattle.assembly_notation.specs.Spelling.{AddsSpaces, AddsWords, AddsType, AddsAll, AddsEach, AddsFirstWords, begins_static, binder_words, first_spaces, has_few_words, is_static, qualifier_words, region_words, spaces, words, words_at, words_over, tree_words}

pub adds-text : (old text new : List ℕ) (n : ℕ) → new ≡ old ++ text → spaces text ≡ n → AddsSpaces n old new
adds-text old text new n e s = (text, e, s)

-- first these, and then those
pub adds-both : (m n : ℕ) (old mid new : List ℕ) → AddsSpaces m old mid → AddsSpaces n mid new → AddsSpaces (m + n) old new
adds-both m n old mid new f g = (
  f.0 ++ g.0,
  g.1 ∙ (ap (λ t. t ++ g.0) f.1 ∙ append_assoc old f.0 g.0),
  spaces-append f.0 g.0 ∙ (λ i. f.2 i + g.2 i),
)

pub adds-as : (m n : ℕ) (old new : List ℕ) → m ≡ n → AddsSpaces m old new → AddsSpaces n old new
adds-as m n old new e f = (f.0, f.1, f.2 ∙ e)

-- a space, and then words
pub adds-word : (w : ℕ) (old mid new : List ℕ) → AddsSpaces 1 old mid → AddsWords w mid new → AddsSpaces w old new
adds-word w old mid new f g =
    let s : spaces (f.0 ++ g.0) ≡ spaces f.0 + spaces g.0 = spaces-append f.0 g.0 in
    (f.0 ++ g.0, g.1 ∙ (ap (λ t. t ++ g.0) f.1 ∙ append_assoc old f.0 g.0), omega (arith, s, f.2, g.2))

-- words, and then what follows a space each
pub adds-words : (w n : ℕ) (old mid new : List ℕ) → AddsWords w old mid → AddsSpaces n mid new → AddsWords (w + n) old new
adds-words w n old mid new f g =
    let s : spaces (f.0 ++ g.0) ≡ spaces f.0 + spaces g.0 = spaces-append f.0 g.0 in
    (f.0 ++ g.0, g.1 ∙ (ap (λ t. t ++ g.0) f.1 ∙ append_assoc old f.0 g.0), omega (arith, s, f.2, g.2))

pub adds-first : (n w : ℕ) (old new : List ℕ) → AddsSpaces n old new → n + 1 ≡ w → AddsWords w old new
adds-first n w old new f e = (f.0, f.1, omega (arith, f.2, e))

pub space-is : (old new : List ℕ) → new ≡ old ++ encode_utf8 32 → new ≡ old ++ 32 ∷ []
unfolding lib.Utf8.encode
space-is old new e = e

pub adds-space : (old new : List ℕ) → new ≡ old ++ encode_utf8 32 → AddsSpaces 1 old new
adds-space old new e = (32 ∷ [], space-is old new e, refl)

-- the words with which a type begins, and then what follows a space each
pub spelled-over : {A B : Type 0} (r : Result A B) (h n w : ℕ) (old mid new : List ℕ) → AddsSpaces h old mid → OnOk r (AddsSpaces n mid new) → (h + n) + 1 ≡ w → OnOk r (AddsWords w old new)
spelled-over r h n w old mid new f g e = on_ok_weaker r (λ x. adds-first (h + n) w old new (adds-both h n old mid new f x) e) g

pub added-over : {A B : Type 0} (r : Result A B) (h n w : ℕ) (old mid new : List ℕ) → AddsSpaces h old mid → OnOk r (AddsSpaces n mid new) → h + n ≡ w → OnOk r (AddsSpaces w old new)
added-over r h n w old mid new f g e = on_ok_weaker r (λ x. adds-as (h + n) w old new e (adds-both h n old mid new f x)) g

-- Words that are few are printed whole, and else the first ones.

pub prints-whole : {A B : Type 0} (r : Result A B) (t : Tree) (b : Bool) (old new : List ℕ) → b ≡ has_few_words t → b ≡ true → OnOk r (AddsWords (tree_words t) old new) → OnOk r (AddsType t old new)
prints-whole r t b old new e f g = on_ok_weaker r (λ x. subst (λ c. AddsAll c (tree_words t) old new) (sym f ∙ e) x) g

pub prints-first : (t : Tree) (n : ℕ) (b : Bool) (old mid new : List ℕ) → b ≡ has_few_words t → b ≡ false → AddsSpaces n old mid → n < 4 → new ≡ mid ++ (32 ∷ 46 ∷ 46 ∷ []) → AddsType t old new
prints-first t n b old mid new e f g l h =
    let first : AddsFirstWords old new = (g.0, h ∙ (ap (λ x. x ++ (32 ∷ 46 ∷ 46 ∷ [])) g.1 ∙ append_assoc old g.0 (32 ∷ 46 ∷ 46 ∷ [])), omega (arith, g.2, l)) in
    subst (λ c. AddsAll c (tree_words t) old new) (sym f ∙ e) first

pub prints-one : {A B : Type 0} (r : Result A B) (t : Tree) (old new : List ℕ) → tree_words t ≡ 1 → OnOk r (AddsSpaces 0 old new) → OnOk r (AddsType t old new)
prints-one r t old new e g = on_ok_weaker r (λ x. let one : AddsWords 1 old new = (x.0, x.1, omega (arith, x.2)) in subst (λ n. AddsAll (nat_le n 65535) n old new) (sym e) one) g

few-first : (ts : List Tree) (f : Forest) (safe rust_abi : Bool) → binder_words f + qualifier_words safe rust_abi < 4
few-first ts none true true = omega arith
few-first ts none true false = omega arith
few-first ts none false true = omega arith
few-first ts none false false = omega arith
few-first ts (tree h below rest) true true = omega arith
few-first ts (tree h below rest) true false = omega arith
few-first ts (tree h below rest) false true = omega arith
few-first ts (tree h below rest) false false = omega arith

pub first-few : (ts : List Tree) (k : TyKind) → first_spaces ts k < 4
first-few ts (K.FnPtr s) = few-first ts (vars_tree ts s.vars).children s.value.safe s.value.rust_abi
first-few ts _ = omega arith

-- What was added so far, where so many are left.
abbrev pub IsAddedTo : ℕ → ℕ → List ℕ → List ℕ → Type 0
IsAddedTo all left old new = (n : ℕ) × (n + left ≡ all) × AddsSpaces n old new

pub added-none : (all : ℕ) (old : List ℕ) → IsAddedTo all all old old
added-none all old = (0, omega arith, ([], sym (append-nil old), refl))

pub added-more : (all left w rest : ℕ) (old mid new : List ℕ) → IsAddedTo all left old mid → left ≡ w + rest → AddsSpaces w mid new → IsAddedTo all rest old new
added-more all left w rest old mid new f e g = (f.0 + w, omega (arith, f.1, e), adds-both f.0 w old mid new f.2 g)

pub added-all : (all left : ℕ) (old new : List ℕ) → IsAddedTo all left old new → left ≡ 0 → AddsSpaces all old new
added-all all left old new f e = adds-as f.0 all old new (omega (arith, f.1, e)) f.2

-- Of trees in a row the words are those of each.

words-join : (a b : Forest) → words (join a b) ≡ words a + words b
words-join none b = omega arith
words-join (tree h below rest) b =
    let r : words (join rest b) ≡ words rest + words b = words-join rest b in
    let e : words (join (tree h below rest) b) ≡ words_over h below (words below) + words (join rest b) = refl in
    let f : words (tree h below rest) ≡ words_over h below (words below) + words rest = refl in
    omega (arith, r, e, f)

list-words : (t : Tree) → is_list t.head ≡ true → tree_words t ≡ words t.children
list-words t e =
    let l = list-head t.head e in
    let w : tree_words t ≡ 0 + words t.children = ap (λ h. words_over h t.children (words t.children)) l.1 in
    omega (arith, w)

pub row-words : (t : Tree) (rest : Forest) → words (row t rest) ≡ tree_words t + words rest
row-words t rest = at (is_list t.head) refl
  where
    at : (b : Bool) → is_list t.head ≡ b → words (put b t rest) ≡ tree_words t + words rest
    at true r = let j = words-join t.children rest in let l = list-words t r in omega (arith, j, l)
    at false r = refl

-- What stands at a number of a kind.

at-kind : (ts : List Tree) (n : ℕ) (k : Kind) → there k ≡ true → kind_at ts n ≡ k → kind_of (tree_at ts n).head ≡ k
at-kind ts n k h e = sym (kind_of-tree_at ts n (below_kind ts n k h e)) ∙ e

pub args-words : (ts : List Tree) (n : ℕ) → kind_at ts n ≡ ArgumentsKind → tree_words (tree_at ts n) ≡ words (tree_at ts n).children
args-words ts n e = list-words (tree_at ts n) (ap is_list_kind (at-kind ts n ArgumentsKind refl e))

pub preds-words : (ts : List Tree) (n : ℕ) → kind_at ts n ≡ PredicatesKind → tree_words (tree_at ts n) ≡ words (tree_at ts n).children
preds-words ts n e = list-words (tree_at ts n) (ap is_list_kind (at-kind ts n PredicatesKind refl e))

pub vars-words : (ts : List Tree) (n : ℕ) → kind_at ts n ≡ BinderKind → tree_words (tree_at ts n) ≡ binder_words (tree_at ts n).children
vars-words ts n e =
    let t = tree_at ts n in
    let w : tree_words t ≡ binder_words t.children + 0 = ap (λ h. words_over h t.children (words t.children)) (binder-head t.head (at-kind ts n BinderKind refl e)) in
    omega (arith, w)

one-word : (h : Head) (below : Forest) (n : ℕ) → kind_of h ≡ RegionKind → words_over h below n ≡ 1
one-word (H.Region k) below n e = refl
one-word (H.Part (P.Clause c)) below n e = absurd cc
one-word (H.Part (P.Pred c)) below n e = absurd cc
one-word (H.Part P.Sig) below n e = absurd cc
one-word (H.Part P.Vars) below n e = absurd cc
one-word (H.Part (P.Var k)) below n e = absurd cc
one-word (H.Infer v) below n e = at v.sort e
  where
    at : (s : VariableSort) → sort_kind s ≡ RegionKind → words_over (H.Infer v) below n ≡ 1
    at V.Constant e = absurd cc
    at _ e = absurd cc
one-word (H.List l) below n e = at l e
  where
    at : (m : ListHead) → list_kind m ≡ RegionKind → words_over (H.List l) below n ≡ 1
    at L.Args e = absurd cc
    at L.Preds e = absurd cc
    at L.Clauses e = absurd cc
one-word _ below n e = absurd cc

pub region-word : (ts : List Tree) (n : ℕ) → kind_at ts n ≡ RegionKind → words_at ts n ≡ 1
region-word ts n e = let t = tree_at ts n in one-word t.head t.children (words t.children) (at-kind ts n RegionKind refl e)

constant-word : (h : Head) (below : Forest) (n : ℕ) → kind_of h ≡ ConstantKind → words_over h below n ≡ 1
constant-word (H.Const k) below n e = refl
constant-word (H.Infer v) below n e = refl
constant-word (H.Part (P.Clause c)) below n e = absurd cc
constant-word (H.Part (P.Pred c)) below n e = absurd cc
constant-word (H.Part P.Sig) below n e = absurd cc
constant-word (H.Part P.Vars) below n e = absurd cc
constant-word (H.Part (P.Var k)) below n e = absurd cc
constant-word (H.List l) below n e = at l e
  where
    at : (m : ListHead) → list_kind m ≡ ConstantKind → words_over (H.List l) below n ≡ 1
    at L.Args e = absurd cc
    at L.Preds e = absurd cc
    at L.Clauses e = absurd cc
constant-word _ below n e = absurd cc

pub const-word : (ts : List Tree) (n : ℕ) → kind_at ts n ≡ ConstantKind → words_at ts n ≡ 1
const-word ts n e = let t = tree_at ts n in constant-word t.head t.children (words t.children) (at-kind ts n ConstantKind refl e)

-- the words of trees in a row, one, two and three
one-row : (ts : List Tree) (a : ℕ) → words (rows (trees_at ts (a ∷ []))) ≡ words_at ts a
one-row ts a = let f = row-words (tree_at ts a) none in omega (arith, f)

two-rows : (ts : List Tree) (a b : ℕ) → words (rows (trees_at ts (a ∷ b ∷ []))) ≡ words_at ts a + words_at ts b
two-rows ts a b = let f = row-words (tree_at ts a) (rows (trees_at ts (b ∷ []))) in let g = one-row ts b in omega (arith, f, g)

three-rows : (ts : List Tree) (a b c : ℕ) → words (rows (trees_at ts (a ∷ b ∷ c ∷ []))) ≡ words_at ts a + (words_at ts b + words_at ts c)
three-rows ts a b c = let f = row-words (tree_at ts a) (rows (trees_at ts (b ∷ c ∷ []))) in let g = two-rows ts b c in omega (arith, f, g)

-- How many words a type of each kind is spelled in.

module _ (ts : List Tree) where
  pub ref-words : (r t : _) (m : _) → KindFits ts (K.Ref r t m) → tree_words (kind_tree ts (K.Ref r t m)) ≡ 1 + (region_words (region_tree ts r) + tree_words (ty_tree ts t))
  ref-words r t m f =
      let k : kind_at ts r.0 ≡ RegionKind = cc in
      let s : begins_static (rows (trees_at ts (r.0 ∷ t.0 ∷ []))) ≡ is_static (region_tree ts r).head =
      ap begins_static (row-single ts r.0 RegionKind (rows (trees_at ts (t.0 ∷ []))) refl refl k) in
      let c : cond (begins_static (rows (trees_at ts (r.0 ∷ t.0 ∷ [])))) 0 1 ≡ region_words (region_tree ts r) = ap (λ b. cond b 0 1) s in
      let one = region-word ts r.0 k in
      let two = two-rows ts r.0 t.0 in
      omega (arith, c, one, two)

  pub pointer-words : (t : _) (m : _) → tree_words (kind_tree ts (K.RawPtr t m)) ≡ 1 + tree_words (ty_tree ts t)
  pointer-words t m = let one = one-row ts t.0 in omega (arith, one)

  pub slice-words : (t : _) → tree_words (kind_tree ts (K.Slice t)) ≡ 1 + tree_words (ty_tree ts t)
  slice-words t = let one = one-row ts t.0 in omega (arith, one)

  pub array-words : (t c : _) → KindFits ts (K.Array t c) → tree_words (kind_tree ts (K.Array t c)) ≡ 1 + tree_words (ty_tree ts t)
  array-words t c f =
      let k : kind_at ts c.0 ≡ ConstantKind = cc in
      let one = const-word ts c.0 k in
      let two = two-rows ts t.0 c.0 in
      omega (arith, one, two)

  pub tuple-words : (a : _) → KindFits ts (K.Tuple a) → tree_words (kind_tree ts (K.Tuple a)) ≡ 1 + words (args_forest ts a)
  tuple-words a f =
      let k : kind_at ts a.0 ≡ ArgumentsKind = cc in
      let l = args-words ts a.0 k in
      let one = one-row ts a.0 in
      omega (arith, l, one)

  pub adt-words : (id a : _) → KindFits ts (K.Adt id a) → tree_words (kind_tree ts (K.Adt id a)) ≡ 1 + words (args_forest ts a)
  adt-words id a f =
      let k : kind_at ts a.0 ≡ ArgumentsKind = cc in
      let l = args-words ts a.0 k in
      let one = one-row ts a.0 in
      omega (arith, l, one)

  pub alias-words : (a : _) → KindFits ts (K.Alias a) → tree_words (kind_tree ts (K.Alias a)) ≡ 1 + words (args_forest ts a.args)
  alias-words a f =
      let k : kind_at ts a.args.0 ≡ ArgumentsKind = cc in
      let l = args-words ts a.args.0 k in
      let one = one-row ts a.args.0 in
      omega (arith, l, one)

  pub fn-words : (s : _) → KindFits ts (K.FnPtr s)
      → tree_words (kind_tree ts (K.FnPtr s)) ≡ (first_spaces ts (K.FnPtr s) + 1) + (words (args_forest ts s.value.inputs) + tree_words (ty_tree ts s.value.output))
  fn-words s f =
      let b : kind_at ts s.vars.0 ≡ BinderKind = cc in
      let a : kind_at ts s.value.inputs.0 ≡ ArgumentsKind = cc in
      let v = vars-words ts s.vars.0 b in
      let l = args-words ts s.value.inputs.0 a in
      let three = three-rows ts s.vars.0 s.value.inputs.0 s.value.output.0 in
      omega (arith, v, l, three)

  pub dyn-words : (p r : _) → KindFits ts (K.Dynamic p r) → tree_words (kind_tree ts (K.Dynamic p r)) ≡ 1 + words (preds_forest ts p)
  dyn-words p r f =
      let a : kind_at ts p.0 ≡ PredicatesKind = cc in
      let k : kind_at ts r.0 ≡ RegionKind = cc in
      let l = preds-words ts p.0 a in
      let one = region-word ts r.0 k in
      let two = two-rows ts p.0 r.0 in
      omega (arith, l, one, two)

  -- and a bound
  pub trait-bound-words : (v r : _) → PredFits ts (record { vars = v; value = E.Trait r })
      → tree_words (pred_kind_tree ts (record { vars = v; value = E.Trait r })) ≡ (1 + binder_words (vars_tree ts v).children) + words (args_forest ts r.args)
  trait-bound-words v r f =
      let b : kind_at ts v.0 ≡ BinderKind = cc in
      let a : kind_at ts r.args.0 ≡ ArgumentsKind = cc in
      let w = vars-words ts v.0 b in
      let l = args-words ts r.args.0 a in
      let two = two-rows ts v.0 r.args.0 in
      omega (arith, w, l, two)

  pub projection-bound-words : (v p : _) → PredFits ts (record { vars = v; value = E.Projection p })
      → tree_words (pred_kind_tree ts (record { vars = v; value = E.Projection p })) ≡ (1 + binder_words (vars_tree ts v).children) + (words (args_forest ts p.args) + tree_words (ty_tree ts p.term))
  projection-bound-words v p f =
      let b : kind_at ts v.0 ≡ BinderKind = cc in
      let a : kind_at ts p.args.0 ≡ ArgumentsKind = cc in
      let w = vars-words ts v.0 b in
      let l = args-words ts p.args.0 a in
      let three = three-rows ts v.0 p.args.0 p.term.0 in
      omega (arith, w, l, three)

  pub auto-bound-words : (v id : _) → PredFits ts (record { vars = v; value = E.AutoTrait id })
      → tree_words (pred_kind_tree ts (record { vars = v; value = E.AutoTrait id })) ≡ 1 + binder_words (vars_tree ts v).children
  auto-bound-words v id f =
      let b : kind_at ts v.0 ≡ BinderKind = cc in
      let w = vars-words ts v.0 b in
      let one = one-row ts v.0 in
      omega (arith, w, one)

  -- the variables of a binder, if there are any
  pub some-bound : (xs : List Var) (t : Tree) → VarListFits ts xs → vars_kind_tree ts xs ≡ t → 0 < length xs → binder_words t.children ≡ 1
  some-bound [] t f e l = absurd (omega (arith, l))
  some-bound (x ∷ xs) t f e l =
      let k : kind_at ts x.0 ≡ VariableKind = cc in
      let r = row-single ts x.0 VariableKind (rows (trees_at ts (numbers (map var_child xs)))) refl refl k in
      ap (λ u. binder_words u.children) (sym e) ∙ ap binder_words r

  -- The members of a list, from left to right.

  pub args-left : (xs : List GenericArg) (i : ℕ) (d : GenericArg) → i < length xs
      → words (list_forest ts (drop i xs)) ≡ tree_words (arg_tree ts (get_or xs i d)) + words (list_forest ts (drop (i + 1) xs))
  args-left xs i d l =
      at_drop_more (λ ys. words (list_forest ts ys)) xs i d l ∙ row-words (arg_tree ts (get_or xs i d)) (list_forest ts (drop (i + 1) xs))

  pub preds-left : (xs : List Pred) (i : ℕ) (d : Pred) (t : Tree) → i < length xs → t ≡ pred_tree ts (get_or xs i d)
      → words (pred_list_forest ts (drop i xs)) ≡ tree_words t + words (pred_list_forest ts (drop (i + 1) xs))
  preds-left xs i d t l e =
      at_drop_more (λ ys. words (pred_list_forest ts ys)) xs i d l
      ∙ (row-words (pred_tree ts (get_or xs i d)) (pred_list_forest ts (drop (i + 1) xs)) ∙ ap (λ u. tree_words u + words (pred_list_forest ts (drop (i + 1) xs))) (sym e))

  arg-single : (a : GenericArg) → is_list_kind (arg_kind a) ≡ false
  arg-single (A.Ty t) = refl
  arg-single (A.Const c) = refl
  arg-single (A.Region r) = refl

  pub prints-more : (xs : List GenericArg) (i : ℕ) (d : GenericArg) (old mid new : List ℕ) → i < length xs → IsArg ts (get_or xs i d) → AddsType (arg_tree ts (get_or xs i d)) (old ++ 32 ∷ []) mid
      → AddsEach (list_forest ts (drop (i + 1) xs)) mid new → AddsEach (list_forest ts (drop i xs)) old new
  prints-more xs i d old mid new l is f g =
      let a : GenericArg = get_or xs i d in
      let rest = list_forest ts (drop (i + 1) xs) in
      let e : list_forest ts (drop i xs) ≡ tree (arg_tree ts a).head (arg_tree ts a).children rest =
      at_drop_more (λ ys. list_forest ts ys) xs i d l ∙ row-single ts (arg_number a) (arg_kind a) rest (arg_there a) (arg-single a) is in
      subst (λ x. AddsEach x old new) (sym e) (mid, f, g)

  pub prints-all : (xs : List GenericArg) (i : ℕ) (text : List ℕ) → length xs ≤ i → AddsEach (list_forest ts (drop i xs)) text text
  prints-all xs i text l = subst (λ (x : Forest). AddsEach x text text) (sym (at_drop_all (λ ys. list_forest ts ys) xs i l)) refl
