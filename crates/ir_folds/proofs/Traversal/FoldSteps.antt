-- The steps of a fold.
use Rattle.std.proofs.Common.{◌≡◌, ℕ, zero, suc, ◌+◌, ◌<◌, ◌≤◌, List, [], ◌∷◌, ◌++◌, length, take, drop, slice_get, Option, Some, Result, Ok, Err, Bool, true, false, refl, sym, ◌∙◌, ap, subst, arith, add-one, length-append}
use Rattle.std.proofs.lemmas.List.{take_all}
use Rattle.std.specs.Fn.{Mut}
use Rattle.std.specs.Borrow.{MutBor}
use Rattle.ir_trees.specs.declared.ir.kinds.GenericArg.{GenericArg}
use Rattle.ir_trees.specs.declared.ir.stop.Stop.{Stop}
use Rattle.ir_trees.specs.declared.ir.stop.Stop.TheVariants.{Memory}
use Rattle.ir_trees.specs.declared.ir.heads.Head.{Head}
use Rattle.ir_trees.specs.declared.ir.heads.Head.TheVariants as H
use Rattle.ir_trees.specs.declared.ir.heads.ListHead.{ListHead}
use Rattle.ir_trees.specs.declared.ir.heads.ListHead.TheVariants as L
use Rattle.ir_trees.specs.declared.ir.heads.PartHead.{PartHead}
use Rattle.ir_trees.specs.declared.ir.heads.PartHead.TheVariants as P
use Rattle.ir_trees.specs.declared.ir.heads.VariableSort.{VariableSort}
use Rattle.ir_trees.specs.declared.ir.heads.VariableSort.TheVariants as V
use Rattle.ir_trees.specs.Syntax.Trees.{Kind, Forest, none, Tree, kind_of, sort_kind, part_kind, join, binders_of, row, put, is_list}
use Rattle.ir_trees.specs.Syntax.Kinds.{Child, numbers, sorts}
use Rattle.ir_trees.specs.Syntax.Nodes.{tree_at, kind_at, trees_at, kinds_at, rows, Extends}
use Rattle.ir_trees.specs.Syntax.Table.{Below}
use Rattle.ir_trees.specs.Declarations.Context.{Context, Grows}
use Rattle.ir_trees.specs.Instantiation.Folds.{is_asked, ended, made, replaced, opened, passed, memory, Asks, Refuses, OnlyMakes, FoldsBy, StopsBy, IsReached, here, by_call, by_nodes, numbers_given, MayFold, KeepsKinds, Renumbers, Relists}
use Rattle.ir_trees.proofs.Growth.Kept.{grows-refl, grows-trans, number-kept}
use Rattle.ir_trees.proofs.Syntax.Lists.{below_kind, kind_of-tree_at, trees_at-append, kinds_at-append}
use Rattle.ir_trees.specs.Syntax.Trees.{there}
use Rattle.ir_trees.proofs.Syntax.Children.{Below-get}
use Rattle.ir_trees.proofs.Syntax.Splits.{list-head}
use Rattle.ir_trees.proofs.Syntax.Rows.{join-none}
use Rattle.ir_folds.proofs.Traversal.FoldRows.{folds-join, stops-first, stops-then, rows-append}

there-sort : (v : VariableSort) → there (sort_kind v) ≡ true
there-sort V.Constant = refl
there-sort _ = refl

there-part : (p : PartHead) → there (part_kind p) ≡ true
there-part (P.Pred _) = refl
there-part (P.Clause _) = refl
there-part P.Sig = refl
there-part P.Vars = refl
there-part (P.Var _) = refl

pub there-head : (h : Head) → there (kind_of h) ≡ true
there-head (H.Infer v) = there-sort v.sort
there-head (H.Part p) = there-part p
there-head (H.List L.Args) = refl
there-head (H.List L.Preds) = refl
there-head (H.List L.Clauses) = refl
there-head _ = refl

-- a list isn't asked about, and binds nothing
pub list-unasked : (l : ListHead) → is_asked (H.List l) ≡ false
list-unasked L.Args = refl
list-unasked L.Preds = refl
list-unasked L.Clauses = refl

pub asked-single : (h : Head) → is_asked h ≡ true → is_list h ≡ false
asked-single h a = at (is_list h) refl
  where
    at : (b : Bool) → is_list h ≡ b → is_list h ≡ false
    at true e =
        let l = list-head h e in
        let n : is_asked h ≡ false = ap is_asked l.1 ∙ list-unasked l.0 in
        absurd cc
    at false e = e

pub list-binders : (l : ListHead) → binders_of (H.List l) ≡ 0
list-binders l = refl

take-next : (ks : List ℕ) (i k : ℕ) → slice_get ks i ≡ Some k → take (suc i) ks ≡ take i ks ++ k ∷ []
take-next [] i k e = absurd cc
take-next (j ∷ ks) zero k e = let f : j ≡ k = cc in ap (λ (x : ℕ). x ∷ []) f
take-next (j ∷ ks) (suc i) k e = ap (λ (xs : List ℕ). j ∷ xs) (take-next ks i k e)

pub take-one : (ks : List ℕ) (i k : ℕ) → slice_get ks i ≡ Some k → take (i + 1) ks ≡ take i ks ++ k ∷ []
take-one ks i k e = rw add-one (take-next ks i k e)

split-at : (ks : List ℕ) (i k : ℕ) → slice_get ks i ≡ Some k → ks ≡ take i ks ++ (k ∷ drop (suc i) ks)
split-at [] i k e = absurd cc
split-at (j ∷ ks) zero k e = let f : j ≡ k = cc in ap (λ (x : ℕ). x ∷ ks) f
split-at (j ∷ ks) (suc i) k e = ap (λ (xs : List ℕ). j ∷ xs) (split-at ks i k e)

pub trees-append : (ts : List Tree) (ks js : List ℕ) → trees_at ts (ks ++ js) ≡ trees_at ts ks ++ trees_at ts js
trees-append ts [] js = refl
trees-append ts (k ∷ ks) js = ap (λ (xs : List Tree). tree_at ts k ∷ xs) (trees-append ts ks js)

kinds-append : (ts : List Tree) (ks js : List ℕ) → kinds_at ts (ks ++ js) ≡ kinds_at ts ks ++ kinds_at ts js
kinds-append ts [] js = refl
kinds-append ts (k ∷ ks) js = ap (λ (xs : List Kind). kind_at ts k ∷ xs) (kinds-append ts ks js)

pub rows-next : (ts : List Tree) (ks : List ℕ) (k : ℕ) → rows (trees_at ts (ks ++ k ∷ [])) ≡ join (rows (trees_at ts ks)) (row (tree_at ts k) none)
rows-next ts ks k = ap rows (trees-append ts ks (k ∷ [])) ∙ rows-append (trees_at ts ks) (tree_at ts k ∷ [])

-- all children, around one of them
put-first : (b : Bool) (t : Tree) (f : Forest) → put b t f ≡ join (put b t none) f
put-first true t f = sym (ap (λ (y : Forest). join y f) (join-none t.children))
put-first false t f = refl

pub rows-around : (ts : List Tree) (ks : List ℕ) (i k : ℕ) → slice_get ks i ≡ Some k
    → rows (trees_at ts ks) ≡ join (rows (trees_at ts (take i ks))) (join (row (tree_at ts k) none) (rows (trees_at ts (drop (suc i) ks))))
rows-around ts ks i k e =
    ap (λ (xs : List ℕ). rows (trees_at ts xs)) (split-at ks i k e)
    ∙ (ap rows (trees-append ts (take i ks) (k ∷ drop (suc i) ks))
    ∙ (rows-append (trees_at ts (take i ks)) (tree_at ts k ∷ trees_at ts (drop (suc i) ks))
    ∙ ap (join (rows (trees_at ts (take i ks)))) (put-first (is_list (tree_at ts k).head) (tree_at ts k) (rows (trees_at ts (drop (suc i) ks))))))

Below-push : (n k : ℕ) (ks : List ℕ) → Below n ks → k < n → Below n (ks ++ k ∷ [])
Below-push n k [] b h = (h, tt)
Below-push n k (j ∷ ks) b h = (b.0, Below-push n k ks b.1 h)

Below-more : (m n : ℕ) (ks : List ℕ) → m ≤ n → Below m ks → Below n ks
Below-more m n [] h b = tt
Below-more m n (k ∷ ks) h b = (omega (arith, b.0), Below-more m n ks h b.1)

pub extends-length : (a b : List Tree) → Extends a b → length a ≤ length b
extends-length a b e = omega (arith, ap length e.is, length-append a e.added)

trees-kept : (a b : List Tree) (ks : List ℕ) → Extends a b → Below (length a) ks → trees_at b ks ≡ trees_at a ks
trees-kept a b ks e h = ap (λ (x : List Tree). trees_at x ks) e.is ∙ trees_at-append a e.added ks h

kinds-kept : (a b : List Tree) (ks : List ℕ) → Extends a b → Below (length a) ks → kinds_at b ks ≡ kinds_at a ks
kinds-kept a b ks e h = ap (λ (x : List Tree). kinds_at x ks) e.is ∙ kinds_at-append a e.added ks h

module _ {M Rest F : Type 0} (context : M → Context) (others : M → Rest)
    (g : Mut F (MutBor M × (GenericArg × (ℕ × Unit {0}))) (Result (Option GenericArg) Stop × (MutBor M × Unit {0}))) where
  abbrev pub Table : F × M → List Tree
  Table s = (context s.1).trees

  pub reached-then : {s m e : F × M} → IsReached context others g s m → IsReached context others g m e → IsReached context others g s e
  reached-then p here = p
  reached-then p (by_call q a) = by_call (reached-then p q) a
  reached-then p (by_nodes q a) = by_nodes (reached-then p q) a

  pub folds-reached : {s e : F × M} {d : ℕ} {ts us : Forest} → FoldsBy context others g s d ts us e → IsReached context others g s e
  folds-reached ended = here
  folds-reached (made i p) = reached-then (by_nodes here i) (folds-reached p)
  folds-reached (replaced h i p) = reached-then (by_call here i) (folds-reached p)
  folds-reached (opened h i p r) = reached-then (by_call here i) (reached-then (folds-reached p) (folds-reached r))
  folds-reached (passed h p r) = reached-then (folds-reached p) (folds-reached r)

  module _ (s e : F × M) (l : IsReached context others g s e) (h : Grows (context s.1) (context e.1)) where
    pub may-later : MayFold context others g s → MayFold context others g e
    may-later m = record { at = λ x a d lent i q k. m.at x a d lent i (reached-then l q) (grows-trans (context s.1) (context e.1) (context x.1) h k) }

    pub keeps-later : KeepsKinds context others g s → KeepsKinds context others g e
    keeps-later m = record { at = λ x a d r f q k. m.at x a d r f (reached-then l q) (grows-trans (context s.1) (context e.1) (context x.1) h k) }

  pub unchanged-makes : (s : F × M) → OnlyMakes context others g s s
  unchanged-makes s = record { same = refl; grows = grows-refl (context s.1); rest = refl }

  pub renumbers-at : (s e : F × M) (d b n : ℕ) (r : Result ℕ Stop) → d ≡ b → Renumbers context others g s d n r e → Renumbers context others g s b n r e
  renumbers-at s e d b n r h = let P : ℕ → Type 0 = λ x. Renumbers context others g s x n r e in subst P h

  -- how far the fold of children has come
  pub record ChildrenSoFar (s : F × M) (d : ℕ) (ks done : List ℕ) (i : ℕ) (e : F × M) : Type 0 where
    pub grows : Grows (context s.1) (context e.1)
    pub kinds : kinds_at (Table e) done ≡ kinds_at (Table s) (take i ks)
    pub below : Below (length (Table e)) done
    pub folded : FoldsBy context others g s d (rows (trees_at (Table s) (take i ks))) (rows (trees_at (Table e) done)) e

  pub children-begin : (s : F × M) (d : ℕ) (ks : List ℕ) → ChildrenSoFar s d ks [] 0 s
  children-begin s d ks = record { grows = grows-refl (context s.1); kinds = refl; below = tt; folded = ended }

  pub children-next : (s m e : F × M) (d : ℕ) (ks done us : List ℕ) (i k n : ℕ) → Below (length (Table s)) ks → ChildrenSoFar s d ks done i m
      → slice_get ks i ≡ Some k → Renumbers context others g m d k (Ok n) e → us ≡ done ++ n ∷ [] → ChildrenSoFar s d ks us (i + 1) e
  children-next s m e d ks done us i k n b so a r u =
      let h : k < length (Table s) = Below-get (length (Table s)) ks i k b a in
      let same = number-kept (Table s) (Table m) k so.grows.kept h in
      let kind : kind_at (Table e) n ≡ kind_at (Table s) k = r.sort ∙ same.0 in
      let inside : n < length (Table e) = below_kind (Table e) n (kind_at (Table s) k) (ap there (kind_of-tree_at (Table s) k h) ∙ there-head (tree_at (Table s) k).head) kind in
      let P : List ℕ → Type 0 = λ vs. ChildrenSoFar s d ks vs (i + 1) e in
      let From : Forest → Type 0 = λ ts. FoldsBy context others g s d ts (rows (trees_at (Table e) (done ++ n ∷ []))) e in
      let To : Forest → Type 0 = λ ts. FoldsBy context others g s d (join (rows (trees_at (Table s) (take i ks))) (row (tree_at (Table s) k) none)) ts e in
      let Step : Tree → Type 0 = λ t. FoldsBy context others g m d (row t none) (row (tree_at (Table e) n) none) e in
      let Sofar : List Tree → Type 0 = λ ts. FoldsBy context others g s d (rows (trees_at (Table s) (take i ks))) (rows ts) m in
      let step : Step (tree_at (Table s) k) = subst Step same.1 r.folded in
      let before : Sofar (trees_at (Table e) done) = subst Sofar (sym (trees-kept (Table m) (Table e) done r.grows.kept so.below)) so.folded in
      let all = folds-join (Asks context others g) (OnlyMakes context others g) before step in
      subst P (sym u)
      (record {
        grows = grows-trans (context s.1) (context m.1) (context e.1) so.grows r.grows;
        kinds =
            kinds-append (Table e) done (n ∷ [])
            ∙ (ap (λ (xs : List Kind). xs ++ kind_at (Table e) n ∷ []) (kinds-kept (Table m) (Table e) done r.grows.kept so.below ∙ so.kinds)
            ∙ (ap (λ (x : Kind). kinds_at (Table s) (take i ks) ++ x ∷ []) kind
            ∙ (sym (kinds-append (Table s) (take i ks) (k ∷ [])) ∙ ap (kinds_at (Table s)) (sym (take-one ks i k a)))));
        below = Below-push (length (Table e)) n done (Below-more (length (Table m)) (length (Table e)) done (extends-length (Table m) (Table e) r.grows.kept) so.below) inside;
        folded =
            subst From (sym (ap (λ (xs : List ℕ). rows (trees_at (Table s) xs)) (take-one ks i k a) ∙ rows-next (Table s) (take i ks) k))
            (subst To (sym (rows-next (Table e) done n)) all);
      })

  -- a child's fold stopped
  pub children-stop : (s m e : F × M) (d : ℕ) (ks done : List ℕ) (i k : ℕ) (x : Stop) → Below (length (Table s)) ks → ChildrenSoFar s d ks done i m
      → slice_get ks i ≡ Some k → StopsBy context others g m d (row (tree_at (Table m) k) none) x e
      → StopsBy context others g s d (rows (trees_at (Table s) ks)) x e
  children-stop s m e d ks done i k x b so a p =
      let h : k < length (Table s) = Below-get (length (Table s)) ks i k b a in
      let same = number-kept (Table s) (Table m) k so.grows.kept h in
      let At : Tree → Type 0 = λ t. StopsBy context others g m d (row t none) x e in
      let Whole : Forest → Type 0 = λ ts. StopsBy context others g s d ts x e in
      subst Whole (sym (rows-around (Table s) ks i k a))
      (stops-then (Asks context others g) (OnlyMakes context others g) (Refuses context others g) (IsReached context others g) (numbers_given context) so.folded
      (stops-first (Asks context others g) (OnlyMakes context others g) (Refuses context others g) (IsReached context others g) (numbers_given context) _ (subst At same.1 p)))

  pub relisted-stop : {A : Type 0} (listed : A → List ℕ) (s m e : F × M) (d : ℕ) (cs : List Child) (done : List ℕ) (i k : ℕ) (x : Stop)
      → Below (length (Table s)) (numbers cs) → ChildrenSoFar s d (numbers cs) done i m
      → slice_get (numbers cs) i ≡ Some k → Renumbers context others g m d k (Err x) e → Relists context others g listed s d cs (Err x) e
  relisted-stop listed s m e d cs done i k x b so a r = record {
    grows = grows-trans (context s.1) (context m.1) (context e.1) so.grows r.grows;
    sorts_are = tt;
    folded = tt;
    stopped = children-stop s m e d (numbers cs) done i k x b so a r.stopped;
  }

  pub relisted-memory : {A : Type 0} (listed : A → List ℕ) (s e : F × M) (d : ℕ) (cs : List Child) → Grows (context s.1) (context e.1)
      → IsReached context others g s e → Relists context others g listed s d cs (Err Memory) e
  relisted-memory listed s e d cs h l = record { grows = h; sorts_are = tt; folded = tt; stopped = memory l }

  pub relisted : {A : Type 0} (listed : A → List ℕ) (s e : F × M) (d : ℕ) (cs : List Child) (v : A) (i : ℕ) → kinds_at (Table s) (numbers cs) ≡ sorts cs
      → ChildrenSoFar s d (numbers cs) (listed v) i e → length (numbers cs) ≤ i → Relists context others g listed s d cs (Ok v) e
  relisted listed s e d cs v i f so l =
      let all = take_all i (numbers cs) l in
      let P : List ℕ → Type 0 = λ ks. FoldsBy context others g s d (rows (trees_at (Table s) ks)) (rows (trees_at (Table e) (listed v))) e in
      record {
        grows = so.grows;
        sorts_are = so.kinds ∙ (ap (kinds_at (Table s)) all ∙ f);
        folded = subst P all so.folded;
        stopped = tt;
      }
