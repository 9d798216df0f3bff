-- What folds by a closure come to where its answers are a function.
use Rattle.ir_trees.specs.declared.ir.heads.Head.{Head}
use Rattle.ir_trees.specs.declared.ir.heads.Head.TheVariants as H
use Rattle.ir_trees.specs.declared.ir.heads.ListHead.{ListHead}
use Rattle.ir_trees.specs.declared.ir.heads.ListHead.TheVariants as L
use Rattle.std.proofs.Common.{◌≡◌, ℕ, ◌+◌, List, Bool, Option, Some, None, Result, Ok, Err, true, false, refl, sym, ◌∙◌, ap, subst}
use Rattle.std.specs.Prelude.{IfOk, option_map}
use Rattle.std.specs.Option.{unwrap_or}
use Rattle.std.specs.Fn.{Mut}
use Rattle.std.specs.Borrow.{MutBor}
use Rattle.ir_trees.specs.declared.ir.kinds.GenericArg.{GenericArg}
use Rattle.ir_trees.specs.declared.ir.stop.Stop.{Stop}
use Rattle.ir_trees.specs.Syntax.Trees.{Kind, Forest, none, tree, Tree, kind_of, is_list_kind, binders_of, row}
use Rattle.ir_trees.specs.Syntax.Nodes.{tree_at, kind_at}
use Rattle.ir_trees.specs.Unification.Substitutions.{alone, as_row, row_of}
use Rattle.ir_trees.specs.Declarations.Context.{Context, Grows}
use Rattle.ir_trees.proofs.Growth.Kept.{grows-refl, grows-trans}
use Rattle.ir_folds.specs.Instantiation.PureFolder.{MayAnswer}
use Rattle.ir_trees.specs.Instantiation.Folding.{Answers, fold, fold_tree, moved}
use Rattle.ir_trees.specs.Instantiation.Folds.{IsArg, arg_tree, Says, is_asked, node, Asks, ended, made, replaced, opened, passed, FoldsBy, StopsBy, IsReached, here, by_call, by_nodes, IsFunction, Outcome, Renumbers}
use Rattle.ir_trees.specs.Syntax.Trees.{there}
use Rattle.ir_trees.proofs.Syntax.Rows.{kind-of, list-kind, row-of, alone-tree}
use Rattle.ir_trees.specs.Syntax.Kinds.{arg_kind}
use Rattle.ir_trees.proofs.Instantiation.Folding.{same_row}
use Rattle.ir_trees.proofs.Syntax.Members.{arg-row}
use Rattle.ir_folds.proofs.Traversal.FoldSteps.{reached-then, folds-reached, list-unasked, list-binders}
use Rattle.ir_trees.proofs.Syntax.Splits.{list_of, list-head, list-head_of}

-- A list is folded by its members.
pub list-by : (a : Answers) (ts us : List Tree) (n m : ℕ) (k : Kind) → there k ≡ true → is_list_kind k ≡ true → kind_at ts n ≡ k → kind_at us m ≡ k → a 0 (tree_at ts n) ≡ None
    → (tree_at us m).children ≡ fold a 0 (tree_at ts n).children → tree_at us m ≡ fold_tree a 0 (tree_at ts n)
list-by a ts us n m k th list is same unsaid e =
    let t = tree_at ts n in
    let l = list-head t.head (list-kind ts n k th is ∙ list) in
    let kind : kind_of (tree_at us m).head ≡ kind_of (H.List l.0) = kind-of us m k th same ∙ (sym (kind-of ts n k th is) ∙ ap kind_of l.1) in
    let q : (tree_at us m).head ≡ t.head = list-head_of (tree_at us m).head l.0 (ap list_of kind ∙ list-named l.0) ∙ sym l.1 in
    let c : (tree_at us m).children ≡ fold a (0 + binders_of t.head) t.children =
    e ∙ (ap (λ (d : ℕ). fold a (0 + d) t.children) (sym (list-binders l.0)) ∙ ap (λ (h : Head). fold a (0 + binders_of h) t.children) (sym l.1)) in
    let kept : Tree = node t.head (fold a (0 + binders_of t.head) t.children) in
    let built : tree_at us m ≡ kept = λ i. record { head = q i; children = c i } in
    built ∙ sym (ap (λ (o : Option Tree). unwrap_or o kept) unsaid)
  where
    list-named : (l : ListHead) → list_of (kind_of (H.List l)) ≡ Some l
    list-named L.Args = refl
    list-named L.Preds = refl
    list-named L.Clauses = refl

module _ {M Rest F : Type 0} (context : M → Context) (others : M → Rest)
    (g : Mut F (MutBor M × (GenericArg × (ℕ × Unit {0}))) (Result (Option GenericArg) Stop × (MutBor M × Unit {0}))) where
  -- a tree without an answer
  pub opened-row : (a : Answers) (d : ℕ) (h : Head) (below inner rest us : Forest) → a d (node h below) ≡ None → inner ≡ fold a (d + binders_of h) below → us ≡ fold a d rest
      → tree h inner us ≡ fold a d (tree h below rest)
  opened-row a d h below inner rest us e i r =
      let kept = node h (fold a (d + binders_of h) below) in
      sym (same_row (unwrap_or (a d (node h below)) kept) (node h inner) (fold a d rest) us
      (ap (λ (o : Option Tree). unwrap_or o kept) e ∙ ap (node h) (sym i)) (sym r))

  -- From here on the closure answers what the function's fold makes of a tree, or nothing where the function doesn't either.
  pub record IsTowards (a : Answers) (s0 : F × M) : Type 0 where
    pub at : (s : F × M) (d : ℕ) (t : Tree) (o : Option Tree) (e : F × M) → IsReached context others g s0 s → Asks context others g s d t o e → MayAnswer a d t o
    pub only : (d : ℕ) (t : Tree) → is_asked t.head ≡ false → a d t ≡ None

  module _ (a : Answers) (s0 : F × M) (f : IsTowards a s0) where
    pub folds-towards : {s e : F × M} {d : ℕ} {ts us : Forest} → IsReached context others g s0 s → FoldsBy context others g s d ts us e → us ≡ fold a d ts
    folds-towards l ended = refl
    folds-towards l (made i p) = folds-towards (by_nodes l i) p
    folds-towards l (replaced {d = d} {h = h} {g = j} {below = below} {inner = inner} {rest = rest} {us = us} x i p) =
        let kept = node h (fold a (d + binders_of h) below) in
        sym (same_row (unwrap_or (a d (node h below)) kept) (node j inner) (fold a d rest) us
        (sym (f.at _ d (node h below) (Some (node j inner)) _ l i)) (sym (folds-towards (by_call l i) p)))
    folds-towards l (opened {d = d} {h = h} {below = below} {inner = inner} {rest = rest} {us = us} x i p r) =
        opened-row a d h below inner rest us (f.at _ d (node h below) None _ l i) (folds-towards (by_call l i) p)
        (folds-towards (reached-then context others g (by_call l i) (folds-reached context others g p)) r)
    folds-towards l (passed {d = d} {h = h} {below = below} {inner = inner} {rest = rest} {us = us} x p r) =
        opened-row a d h below inner rest us (f.only d (node h below) x) (folds-towards l p)
        (folds-towards (reached-then context others g l (folds-reached context others g p)) r)

  -- a function's answers are such
  pub by-function : (a : Answers) (s0 : F × M) → IsFunction context others g a s0 → IsTowards a s0
  by-function a s0 f = record { at = λ s d t o e l k. may d t o (f.at s d t o e l k); only = f.only }
    where
      may : (d : ℕ) (t : Tree) (o : Option Tree) → a d t ≡ o → MayAnswer a d t o
      may d t None e = e
      may d t (Some u) e = sym (ap (λ (o : Option Tree). unwrap_or o (node t.head (fold a (d + binders_of t.head) t.children))) e)

  pub folds-by : (a : Answers) (s0 : F × M) → IsFunction context others g a s0 → {s e : F × M} {d : ℕ} {ts us : Forest} → IsReached context others g s0 s
      → FoldsBy context others g s d ts us e → us ≡ fold a d ts
  folds-by a s0 f l p = folds-towards a s0 (by-function a s0 f) l p

  -- A number of a kind was folded: what it is in a row became what the result is in one.
  pub number-folded : (s e : F × M) (d n k : ℕ) (kind : Kind) → there kind ≡ true → kind_at (context s.1).trees n ≡ kind → Renumbers context others g s d n (Ok k) e
      → FoldsBy context others g s d (row_of kind (tree_at (context s.1).trees n)) (row_of kind (tree_at (context e.1).trees k)) e
  number-folded s e d n k kind th is r =
      let From : Forest → Type 0 = λ ts. FoldsBy context others g s d ts (row_of kind (tree_at (context e.1).trees k)) e in
      let To : Forest → Type 0 = λ us. FoldsBy context others g s d (row (tree_at (context s.1).trees n) none) us e in
      subst From (row-of (context s.1).trees n kind th is) (subst To (row-of (context e.1).trees k kind th (r.sort ∙ is)) r.folded)

  -- so of what has a number
  pub outcome-of : {A : Type 0} (number : A → ℕ) (kind : A → Kind) (s e : F × M) (d k : ℕ) (x y : A) → there (kind x) ≡ true → kind_at (context s.1).trees (number x) ≡ kind x
      → number y ≡ k → kind y ≡ kind x → Renumbers context others g s d (number x) (Ok k) e
      → Outcome context others g (λ ts z. row_of (kind z) (tree_at ts (number z))) s d (row_of (kind x) (tree_at (context s.1).trees (number x))) (Ok y) e
  outcome-of number kind s e d k x y th is same like r =
      let t = tree_at (context s.1).trees (number x) in
      let At : ℕ → Type 0 = λ m. FoldsBy context others g s d (row_of (kind x) t) (row_of (kind x) (tree_at (context e.1).trees m)) e in
      let Of : Kind → Type 0 = λ l. FoldsBy context others g s d (row_of (kind x) t) (row_of l (tree_at (context e.1).trees (number y))) e in
      record { grows = r.grows; folded = subst Of (sym like) (subst At (sym same) (number-folded s e d (number x) k (kind x) th is r)); stopped = tt }

  pub stop-of : {A : Type 0} (seen : List Tree → A → Forest) (s e : F × M) (d n : ℕ) (x : Stop) (kind : Kind) → there kind ≡ true → kind_at (context s.1).trees n ≡ kind
      → Renumbers context others g s d n (Err x) e → Outcome context others g seen s d (row_of kind (tree_at (context s.1).trees n)) (Err x) e
  stop-of seen s e d n x kind th is r =
      let From : Forest → Type 0 = λ ts. StopsBy context others g s d ts x e in
      record { grows = r.grows; folded = tt; stopped = subst From (row-of (context s.1).trees n kind th is) r.stopped }

  -- An argument is one tree.
  pub arg-outcome : (x : GenericArg) (s e : F × M) (d : ℕ) (t : Tree) (r : Result GenericArg Stop) → Outcome context others g (λ ts y. row_of (arg_kind y) (arg_tree ts y)) s d (row_of (arg_kind x) t) r e
      → Outcome context others g (λ ts y. alone (arg_tree ts y)) s d (alone t) r e
  arg-outcome x s e d t (Ok y) o =
      let From : Forest → Type 0 = λ ts. FoldsBy context others g s d ts (alone (arg_tree (context e.1).trees y)) e in
      let To : Forest → Type 0 = λ us. FoldsBy context others g s d (row_of (arg_kind x) t) us e in
      record { grows = o.grows; folded = subst From (arg-row x t) (subst To (arg-row y (arg_tree (context e.1).trees y)) o.folded); stopped = tt }
  arg-outcome x s e d t (Err z) o =
      let From : Forest → Type 0 = λ ts. StopsBy context others g s d ts z e in
      record { grows = o.grows; folded = tt; stopped = subst From (arg-row x t) o.stopped }

  -- where its answers are a function
  module _ (a : Answers) (s e : F × M) (n k : ℕ) (kind : Kind) (f : IsFunction context others g a s) (th : there kind ≡ true) (is : kind_at (context s.1).trees n ≡ kind)
      (r : Renumbers context others g s 0 n (Ok k) e) where
    rows-by : row_of kind (tree_at (context e.1).trees k) ≡ fold a 0 (row_of kind (tree_at (context s.1).trees n))
    rows-by = folds-by a s f here (number-folded s e 0 n k kind th is r)

    pub members-by : is_list_kind kind ≡ true → (tree_at (context e.1).trees k).children ≡ fold a 0 (tree_at (context s.1).trees n).children
    members-by list = subst (λ (b : Bool). as_row b (tree_at (context e.1).trees k) ≡ fold a 0 (as_row b (tree_at (context s.1).trees n))) list rows-by

    pub number-by : tree_at (context e.1).trees k ≡ fold_tree a 0 (tree_at (context s.1).trees n)
    number-by = at (is_list_kind kind) refl rows-by
      where
        at : (b : Bool) → is_list_kind kind ≡ b → as_row b (tree_at (context e.1).trees k) ≡ fold a 0 (as_row b (tree_at (context s.1).trees n))
            → tree_at (context e.1).trees k ≡ fold_tree a 0 (tree_at (context s.1).trees n)
        at true list q =
            let l = list-head (tree_at (context s.1).trees n).head (list-kind (context s.1).trees n kind th is ∙ list) in
            list-by a (context s.1).trees (context e.1).trees n k kind th list is (r.sort ∙ is) (f.only 0 (tree_at (context s.1).trees n) (ap is_asked l.1 ∙ list-unasked l.0)) q
        at false single q = alone-tree (tree_at (context e.1).trees k) (fold_tree a 0 (tree_at (context s.1).trees n)) q

  -- what each call keeps of the closure
  pub reached-keeps : (P : F → Type 0) → ((s : F × M) (x : GenericArg) (d : ℕ) (r : Result (Option GenericArg) Stop) (e : F × M) → Says context others g s x d r e → P s.0 → P e.0)
      → (s e : F × M) → IsReached context others g s e → P s.0 → P e.0
  reached-keeps P h s e here p = p
  reached-keeps P h s e (by_call {m = m} {d = d} l k) p = h m k.of d (Ok k.answer) e k.says (reached-keeps P h s m l p)
  reached-keeps P h s e (by_nodes {m = m} l k) p = subst P (sym k.same) (reached-keeps P h s m l p)

  -- answers by the head alone
  pub head-function : (a : ℕ → Head → Option Tree) (P : F → Type 0) (s0 : F × M) → P s0.0
      → ((s : F × M) (x : GenericArg) (d : ℕ) (r : Result (Option GenericArg) Stop) (e : F × M) → Says context others g s x d r e → P s.0 → P e.0)
      → ((s : F × M) (x : GenericArg) (d : ℕ) (r : Result (Option GenericArg) Stop) (e : F × M) → Says context others g s x d r e → IsArg (context s.1).trees x → Grows (context s0.1) (context s.1) → P s.0
      → IfOk r (λ o. option_map (arg_tree (context e.1).trees) o ≡ a d (arg_tree (context s.1).trees x).head))
      → ((d : ℕ) (h : Head) → is_asked h ≡ false → a d h ≡ None) → IsFunction context others g (λ d t. a d t.head) s0
  head-function a P s0 p keeps answers only = record {
    at = λ s d t o e l k.
        let held = reached-keeps P keeps s0 s l p in
        let q = answers s k.of d (Ok k.answer) e k.says k.is (reached-grows s l) held in
        ap (λ (x : Tree). a d x.head) (sym k.tree) ∙ (sym q ∙ k.seen);
    only = λ d t x. only d t.head x;
  }
    where
      reached-grows : (s : F × M) → IsReached context others g s0 s → Grows (context s0.1) (context s.1)
      reached-grows s here = grows-refl (context s0.1)
      reached-grows s (by_call {m = m} l k) = grows-trans (context s0.1) (context m.1) (context s.1) (reached-grows m l) k.grows
      reached-grows s (by_nodes {m = m} l k) = grows-trans (context s0.1) (context m.1) (context s.1) (reached-grows m l) k.grows

pub moved-only : (n d : ℕ) (h : Head) → is_asked h ≡ false → moved n d h ≡ None
moved-only n d (H.Bound v) e = absurd cc
moved-only n d (H.Const k) e = absurd cc
moved-only n d (H.Region k) e = absurd cc
moved-only n d _ e = refl
