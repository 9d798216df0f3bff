-- Folds by answers that are a function: what is noted of numbers, and what a fold of a number comes to whose parts may be noted.
use Rattle.std.proofs.Common.{◌≡◌, ℕ, ◌+◌, ◌<◌, List, [], ◌∷◌, length, Option, Some, None, Bool, cond, true, false, Result, Ok, Err, refl, sym, ◌∙◌, ap, subst, arith, if◌then◌else◌}
use Rattle.std.specs.Prelude.{IfOk, IfErr, IfSome, option_map, ◌&&◌, nat_eq}
use Rattle.std.specs.Option.{unwrap_or}
use Rattle.std.specs.Map.{lookup}
use Rattle.std.specs.Fn.{Mut}
use Rattle.std.specs.Borrow.{MutBor}
use Rattle.indexmap.specs.IndexMap.{insert_entry}
use Rattle.ir_folds.specs.declared.decl.answering.Place.{Place}
use Rattle.ir_trees.specs.declared.ir.heads.ListHead.{ListHead}
use Rattle.ir_trees.specs.declared.ir.heads.ListHead.TheVariants as L
use Rattle.ir_trees.specs.declared.ir.heads.Head.TheVariants as H
use Rattle.ir_trees.specs.declared.ir.kinds.Args.{Args}
use Rattle.ir_trees.specs.declared.ir.kinds.GenericArg.{GenericArg}
use Rattle.ir_trees.specs.declared.ir.stop.Stop.{Stop}
use Rattle.ir_trees.specs.declared.ir.stop.Stop.TheVariants.{Memory}
use Rattle.ir_trees.specs.Syntax.Words.{IsArgs, args_forest}
use Rattle.ir_trees.specs.Syntax.Trees.{Kind, ArgumentsKind, Forest, none, Tree, there, kind_of, binders_of, is_list, is_list_kind, row}
use Rattle.ir_trees.specs.Syntax.Kinds.{arg_number, arg_kind}
use Rattle.ir_trees.specs.Syntax.Nodes.{tree_at, kind_at, Extends}
use Rattle.ir_trees.specs.Declarations.Context.{Context, Grows}
use Rattle.ir_trees.specs.Unification.Substitutions.{alone}
use Rattle.ir_trees.specs.Instantiation.Folding.{Answers, fold, fold_tree, IsSubstStop, IsAnswerStop}
use Rattle.ir_trees.specs.Instantiation.Folds.{is_asked, node, IsArg, IsOfKind, arg_tree, Says, OnlyMakes, StopsBy, memory, refused, too_high, full, too_few, after, below_asked, below_passed, later, IsReached, here, by_call, by_nodes, Renumbers}
use Rattle.ir_folds.specs.Instantiation.PureFolder.{IsCause, SaidOfAnswer, MayAnswer, IsFoldOf, AreFolds, PartComesTo, NumberComesTo}
use Rattle.ir_trees.proofs.Growth.Kept.{grows-refl, grows-trans, number-kept}
use Rattle.ir_trees.proofs.Syntax.Lists.{below_kind, kind_of-tree_at}
use Rattle.ir_trees.proofs.Syntax.Members.{arg-there, arg-single}
use Rattle.ir_trees.proofs.Syntax.Rows.{list-kind, alone-tree, row-single, row-list, join-none}
use Rattle.ir_trees.proofs.Syntax.Splits.{list_of, list-head, list-head_of}
use Rattle.ir_folds.proofs.Traversal.FoldLaws.{IsTowards, folds-towards}
use Rattle.ir_folds.proofs.Traversal.FoldNodes.{row-one, row-members, list-binds-nothing}
use Rattle.ir_folds.proofs.Traversal.FoldSteps.{extends-length, folds-reached, list-unasked, there-head}
use Rattle.ir_folds.proofs.Traversal.FoldStops.{stops-towards, said-of-answer}

-- places that are equal are one
pub same-place : (p q : Place) → nat_eq p.number q.number && nat_eq p.binders q.binders ≡ true → q ≡ p
same-place p q e =
    let n : q.number ≡ p.number = grind (arith, e) in
    let b : q.binders ≡ p.binders = grind (arith, e) in
    λ i. record { number = n i; binders = b i }

-- what is noted of a key
pub lookup-fold : (a : Answers) (ts : List Tree) (test : Place → Bool) (p : Place) → ((q : Place) → test q ≡ true → q ≡ p) → (es : List (Place × ℕ)) → AreFolds a ts es
    → IfSome (lookup test es) (IsFoldOf a ts p)
lookup-fold a ts test p one [] h = tt
lookup-fold a ts test p one (e ∷ es) h = at (test e.0) refl (lookup-fold a ts test p one es h.1)
  where
    at : (b : Bool) → test e.0 ≡ b → IfSome (lookup test es) (IsFoldOf a ts p) → IfSome (cond b (Some e.1) (lookup test es)) (IsFoldOf a ts p)
    at true k more = subst (λ (q : Place). IsFoldOf a ts q e.1) (one e.0 k) h.0
    at false k more = more

-- a key that is noted
pub insert-fold : (a : Answers) (ts : List Tree) (eq : Place → Place → Bool) (p : Place) (n : ℕ) → ((q : Place) → eq p q ≡ true → q ≡ p) → IsFoldOf a ts p n
    → (es : List (Place × ℕ)) → AreFolds a ts es → AreFolds a ts (insert_entry eq es p n)
insert-fold a ts eq p n one i [] h = (i, tt)
insert-fold a ts eq p n one i (e ∷ es) h = at (eq p e.0) refl (insert-fold a ts eq p n one i es h.1)
  where
    at : (b : Bool) → eq p e.0 ≡ b → AreFolds a ts (insert_entry eq es p n) → AreFolds a ts (if b then (e.0, n) ∷ es else e ∷ insert_entry eq es p n)
    at true k more = (subst (λ (q : Place). IsFoldOf a ts q n) (sym (one e.0 k)) i, h.1)
    at false k more = (h.0, more)

-- what is noted stays while a table grows
pub folds-grown : (a : Answers) (ts us : List Tree) (es : List (Place × ℕ)) → Extends ts us → AreFolds a ts es → AreFolds a us es
folds-grown a ts us [] g h = tt
folds-grown a ts us (e ∷ es) g h =
    let longer = extends-length ts us g in
    let of = number-kept ts us e.0.number g h.0.inside in
    let to = number-kept ts us e.1 g h.0.there in (
      record {
        inside = omega (arith, longer, h.0.inside);
        there = omega (arith, longer, h.0.there);
        kind = to.0 ∙ (h.0.kind ∙ sym of.0);
        tree = to.1 ∙ (h.0.tree ∙ ap (fold_tree a e.0.binders) (sym of.1));
      },
      folds-grown a ts us es g h.1,
    )

-- a list stays one, with its members
pub args-extend : (ts us : List Tree) (a : Args) → Extends ts us → IsArgs ts a → IsArgs us a × (args_forest us a ≡ args_forest ts a)
args-extend ts us a g h =
    let k = number-kept ts us a.0 g (below_kind ts a.0 ArgumentsKind refl h) in
    (k.0 ∙ h, ap (λ (t : Tree). t.children) k.1)

pub may-answer-as : (a b : Answers) (d : ℕ) (t u : Tree) (o p : Option Tree) → a ≡ b → t ≡ u → o ≡ p → MayAnswer a d t o → MayAnswer b d u p
may-answer-as a b d t u o p q r s h =
    let A : Answers → Type 0 = λ x. MayAnswer x d t o in
    let T : Tree → Type 0 = λ x. MayAnswer b d x o in
    let O : Option Tree → Type 0 = λ x. MayAnswer b d u x in
    subst O s (subst T r (subst A q h))

-- an answer of the function is one that a part of its fold may give
pub may-answer : (a : Answers) (d : ℕ) (t : Tree) (o : Option Tree) → o ≡ a d t → MayAnswer a d t o
may-answer a d t None e = sym e
may-answer a d t (Some u) e = ap (λ (o : Option Tree). unwrap_or o (node t.head (fold a (d + binders_of t.head) t.children))) e

-- where none can be made, the fold's can't
pub said-of-fold : (C : ℕ → Forest → Stop → Type 0) (given : ℕ) (a : Answers) (d : ℕ) (t : Tree) (x : Stop) → SaidOfAnswer C given (a d t) x → C given (alone (fold_tree a d t)) x
said-of-fold C given a d t x c = at (a d t) c
  where
    at : (o : Option Tree) → SaidOfAnswer C given o x → C given (alone (unwrap_or o (node t.head (fold a (d + binders_of t.head) t.children)))) x
    at None c = absurd c
    at (Some u) c = c

-- A row of one tree was folded, so its tree was.
pub tree-of-row : (a : Answers) (d : ℕ) (ts us : List Tree) (n k : ℕ) → n < length ts → kind_at us k ≡ kind_at ts n → ((t : Tree) → is_asked t.head ≡ false → a d t ≡ None)
    → row (tree_at us k) none ≡ fold a d (row (tree_at ts n) none) → tree_at us k ≡ fold_tree a d (tree_at ts n)
tree-of-row a d ts us n k inside same unsaid q = at (is_list (tree_at ts n).head) refl
  where
    t : Tree
    t = tree_at ts n

    u : Tree
    u = tree_at us k

    th : there (kind_at ts n) ≡ true
    th = ap there (kind_of-tree_at ts n inside) ∙ there-head (tree_at ts n).head

    kinds : kind_of u.head ≡ kind_of t.head
    kinds = sym (kind_of-tree_at us k (below_kind us k (kind_at ts n) th same)) ∙ (same ∙ kind_of-tree_at ts n inside)

    lists : is_list u.head ≡ is_list t.head
    lists = list-kind us k (kind_at ts n) th same ∙ sym (list-kind ts n (kind_at ts n) th refl)

    named : (l : ListHead) → list_of (kind_of (H.List l)) ≡ Some l
    named L.Args = refl
    named L.Preds = refl
    named L.Clauses = refl

    at : (b : Bool) → is_list t.head ≡ b → u ≡ fold_tree a d t
    at true l =
        let h = list-head t.head l in
        let head : u.head ≡ t.head = list-head_of u.head h.0 (ap list_of (kinds ∙ ap kind_of h.1) ∙ named h.0) ∙ sym h.1 in
        let below : u.children ≡ fold a (d + binders_of t.head) t.children =
        sym (row-members u (lists ∙ l)) ∙ (q ∙ (ap (fold a d) (row-members t l) ∙ ap (λ (x : ℕ). fold a x t.children) (sym (list-binds-nothing t.head l d)))) in
        let kept : Tree = node t.head (fold a (d + binders_of t.head) t.children) in
        let built : u ≡ kept = λ i. record { head = head i; children = below i } in
        built ∙ sym (ap (λ (o : Option Tree). unwrap_or o kept) (unsaid t (ap is_asked h.1 ∙ list-unasked h.0)))
    at false l = alone-tree u (fold_tree a d t) (sym (row-one u (lists ∙ l)) ∙ (q ∙ ap (fold a d) (row-one t l)))

-- so of a list, whose members stand below it
pub members-of-fold : (a : Answers) (t : Tree) → is_list t.head ≡ true → ((u : Tree) → is_asked u.head ≡ false → a 0 u ≡ None) → (fold_tree a 0 t).children ≡ fold a 0 t.children
members-of-fold a t l unsaid =
    let h = list-head t.head l in
    let kept : Tree = node t.head (fold a (0 + binders_of t.head) t.children) in
    ap (λ (o : Option Tree). (unwrap_or o kept).children) (unsaid t (ap is_asked h.1 ∙ list-unasked h.0))
    ∙ ap (λ (x : ℕ). fold a x t.children) (list-binds-nothing t.head l 0)

-- why an answer stops, in other words
pub said-subst : {A : Type 0} (r : Result A Stop) (given : ℕ) (o : Option Tree) → IfErr r (λ z. IsAnswerStop given o z) → IfErr r (λ z. SaidOfAnswer IsSubstStop given o z)
said-subst (Ok v) given o k = tt
said-subst (Err z) given o k = said-of-answer given o z k

module _ {M Rest : Type 0} (context : M → Context) (others : M → Rest) (a : Answers) (C : ℕ → Forest → Stop → Type 0) where
  -- what was noted is what comes of it now
  pub number-noted : (s : M) (p : Place) (k : ℕ) → IsFoldOf a (context s).trees p k → NumberComesTo context others a C s p.binders p.number (Ok k) s
  number-noted s p k i = record { grows = grows-refl (context s); rest = refl; sort = i.kind; tree = i.tree; cause = tt }

  number-refused : (s e : M) (d n : ℕ) → Grows (context s) (context e) → others e ≡ others s → IsCause C → NumberComesTo context others a C s d n (Err Memory) e
  number-refused s e d n h r i = record { grows = h; rest = r; sort = tt; tree = tt; cause = i.of_memory (length (context e).trees) (fold a d (row (tree_at (context s).trees n) none)) }

  -- it can't be noted
  pub number-unnoted : (s e : M) (d n k : ℕ) (z : Stop) → IsCause C → NumberComesTo context others a C s d n (Ok k) e → z ≡ Memory → NumberComesTo context others a C s d n (Err z) e
  number-unnoted s e d n k z i h q = let P : Stop → Type 0 = λ y. NumberComesTo context others a C s d n (Err y) e in subst P (sym q) (number-refused s e d n h.grows h.rest i)

  pub number-fold : (s e : M) (p : Place) (k : ℕ) → p.number < length (context s).trees → NumberComesTo context others a C s p.binders p.number (Ok k) e → IsFoldOf a (context e).trees p k
  number-fold s e p k inside h =
      let ts = (context s).trees in
      let us = (context e).trees in
      let longer = extends-length ts us h.grows.kept in
      let same = number-kept ts us p.number h.grows.kept inside in
      let th = ap there (kind_of-tree_at ts p.number inside) ∙ there-head (tree_at ts p.number).head in
      record {
        inside = omega (arith, longer, inside);
        there = below_kind us k (kind_at ts p.number) th h.sort;
        kind = h.sort ∙ sym same.0;
        tree = h.tree ∙ ap (fold_tree a p.binders) (sym same.1);
      }

  -- a number of a kind that came to that of its fold: one tree, or a list
  module _ (s e : M) (n : ℕ) (kind : Kind) (th : there kind ≡ true) (is : kind_at (context s).trees n ≡ kind) where
    pub once-alone : (r : Result ℕ Stop) → is_list_kind kind ≡ false → NumberComesTo context others a C s 0 n r e
        → IfErr r (λ z. C (length (context e).trees) (alone (fold_tree a 0 (tree_at (context s).trees n))) z)
    once-alone (Ok k) single h = tt
    once-alone (Err z) single h =
        let P : Forest → Type 0 = λ f. C (length (context e).trees) (fold a 0 f) z in
        subst P (row-single (context s).trees n kind none th single is) h.cause

    pub once-members : (r : Result ℕ Stop) → is_list_kind kind ≡ true → ((u : Tree) → is_asked u.head ≡ false → a 0 u ≡ None) → NumberComesTo context others a C s 0 n r e
        → IfOk r (λ k. (tree_at (context e).trees k).children ≡ fold a 0 (tree_at (context s).trees n).children)
    once-members (Ok k) list unsaid h =
        let t = tree_at (context s).trees n in
        ap (λ (u : Tree). u.children) h.tree ∙ members-of-fold a t (list-kind (context s).trees n kind th is ∙ list) unsaid
    once-members (Err z) list unsaid h = tt

    pub once-list : (r : Result ℕ Stop) → is_list_kind kind ≡ true → NumberComesTo context others a C s 0 n r e
        → IfErr r (λ z. C (length (context e).trees) (fold a 0 (tree_at (context s).trees n).children) z)
    once-list (Ok k) list h = tt
    once-list (Err z) list h =
        let P : Forest → Type 0 = λ f. C (length (context e).trees) (fold a 0 f) z in
        subst P (row-list (context s).trees n kind none th list is ∙ join-none (tree_at (context s).trees n).children) h.cause

  -- a part that is answered by the function, or isn't answered
  pub part-answered : (s e : M) (x : GenericArg) (d : ℕ) (o : Option GenericArg) (es : List (Place × ℕ)) → Grows (context s) (context e) → others e ≡ others s
      → IsOfKind (context e).trees x o → option_map (arg_tree (context e).trees) o ≡ a d (arg_tree (context s).trees x) → AreFolds a (context s).trees es
      → PartComesTo context others a C s x d (Ok o) e es
  part-answered s e x d o es h r k q n = record {
    grows = h;
    rest = r;
    kind = k;
    answer = may-answer a d (arg_tree (context s).trees x) (option_map (arg_tree (context e).trees) o) q;
    noted = folds-grown a (context s).trees (context e).trees es h.kept n;
    cause = tt;
  }

  pub part-refused : (s e : M) (x : GenericArg) (d : ℕ) (z : Stop) (es : List (Place × ℕ)) → Grows (context s) (context e) → others e ≡ others s
      → SaidOfAnswer C (length (context e).trees) (a d (arg_tree (context s).trees x)) z → AreFolds a (context s).trees es → PartComesTo context others a C s x d (Err z) e es
  part-refused s e x d z es h r q n = record {
    grows = h;
    rest = r;
    kind = tt;
    answer = tt;
    noted = folds-grown a (context s).trees (context e).trees es h.kept n;
    cause = said-of-fold C (length (context e).trees) a d (arg_tree (context s).trees x) z q;
  }

  -- a part that stays
  pub part-same : (s : M) (x : GenericArg) (d : ℕ) (es : List (Place × ℕ)) → IsArg (context s).trees x → fold_tree a d (arg_tree (context s).trees x) ≡ arg_tree (context s).trees x
      → AreFolds a (context s).trees es → PartComesTo context others a C s x d (Ok (Some x)) s es
  part-same s x d es i q n = record { grows = grows-refl (context s); rest = refl; kind = (i, refl); answer = sym q; noted = n; cause = tt }

  -- a part whose number was folded from a later state on
  module _ (b : Answers) (s m e : M) (x : GenericArg) (d n : ℕ) (es : List (Place × ℕ)) (same : b ≡ a) (h : Grows (context s) (context m)) (r : others m ≡ others s)
      (is : IsArg (context s).trees x) (of : n ≡ arg_number x) (noted-then : AreFolds b (context e).trees es) where
    inside : arg_number x < length (context s).trees
    inside = below_kind (context s).trees (arg_number x) (arg_kind x) (arg-there x) is

    was : tree_at (context m).trees n ≡ arg_tree (context s).trees x
    was = ap (tree_at (context m).trees) of ∙ (number-kept (context s).trees (context m).trees (arg_number x) h.kept inside).1

    kind-was : kind_at (context m).trees n ≡ arg_kind x
    kind-was = ap (kind_at (context m).trees) of ∙ ((number-kept (context s).trees (context m).trees (arg_number x) h.kept inside).0 ∙ is)

    notes-are : AreFolds a (context e).trees es
    notes-are = let P : Answers → Type 0 = λ f. AreFolds f (context e).trees es in subst P same noted-then

    pub part-folded : (y : GenericArg) (k : ℕ) → arg_number y ≡ k → arg_kind y ≡ arg_kind x → NumberComesTo context others b C m d n (Ok k) e
        → PartComesTo context others a C s x d (Ok (Some y)) e es
    part-folded y k q l c = record {
      grows = grows-trans (context s) (context m) (context e) h c.grows;
      rest = c.rest ∙ r;
      kind = (ap (kind_at (context e).trees) q ∙ (c.sort ∙ (kind-was ∙ sym l)), l);
      answer = ap (tree_at (context e).trees) q ∙ (c.tree ∙ (ap (λ (f : Answers). fold_tree f d (tree_at (context m).trees n)) same ∙ ap (fold_tree a d) was));
      noted = notes-are;
      cause = tt;
    }

    pub part-stopped : (z : Stop) → NumberComesTo context others b C m d n (Err z) e → PartComesTo context others a C s x d (Err z) e es
    part-stopped z c =
        let ts = (context m).trees in
        let one = row-single ts n (arg_kind x) none (arg-there x) (arg-single x) kind-was in
        let F : Forest → Type 0 = λ f. C (length (context e).trees) (fold b d f) z in
        let T : Tree → Type 0 = λ t. C (length (context e).trees) (alone (fold_tree b d t)) z in
        let A : Answers → Type 0 = λ f. C (length (context e).trees) (alone (fold_tree f d (arg_tree (context s).trees x))) z in
        record {
          grows = grows-trans (context s) (context m) (context e) h c.grows;
          rest = c.rest ∙ r;
          kind = tt;
          answer = tt;
          noted = notes-are;
          cause = subst A same (subst T was (subst F one c.cause));
        }

module _ {M Rest F : Type 0} (context : M → Context) (others : M → Rest)
    (g : Mut F (MutBor M × (GenericArg × (ℕ × Unit {0}))) (Result (Option GenericArg) Stop × (MutBor M × Unit {0}))) where
  -- What each call and each node keeps, a fold keeps.
  module _ (Q : F × M → Type 0)
      (call : (t : F × M) (x : GenericArg) (d : ℕ) (r : Result (Option GenericArg) Stop) (u : F × M) → Says context others g t x d r u → IsArg (context t.1).trees x → Q t → Q u)
      (nodes : (t u : F × M) → OnlyMakes context others g t u → Q t → Q u) where
    pub reached-holds : (s e : F × M) → IsReached context others g s e → Q s → Q e
    reached-holds s e here q = q
    reached-holds s e (by_call {m = m} {d = d} l a) q = call m a.of d (Ok a.answer) e a.says a.is (reached-holds s m l q)
    reached-holds s e (by_nodes {m = m} l o) q = nodes m e o (reached-holds s m l q)

    stops-hold : {s e : F × M} {d : ℕ} {ts : Forest} {x : Stop} → StopsBy context others g s d ts x e → Q s → Q e
    stops-hold {s} {e} (memory l) q = reached-holds s e l q
    stops-hold {s} {e} {d = d} {x = x} (refused h a) q = call s a.of d (Err x) e a.says a.is q
    stops-hold {s} {e} (too_high others-left i p h) q = reached-holds s e (folds-reached context others g p) q
    stops-hold {s} {e} (full l h) q = reached-holds s e l q
    stops-hold {s} {e} (too_few others-left i p b h) q = reached-holds s e (folds-reached context others g p) q
    stops-hold {s} (after {m = m} o p) q = stops-hold p (nodes s m o q)
    stops-hold {s} (below_asked {m = m} h a p) q = stops-hold p (reached-holds s m (by_call here a) q)
    stops-hold (below_passed h p) q = stops-hold p q
    stops-hold {s} (later {m = m} p k) q = stops-hold k (reached-holds s m (folds-reached context others g p) q)

    pub number-holds : (s e : F × M) (d n : ℕ) (r : Result ℕ Stop) → Renumbers context others g s d n r e → Q s → Q e
    number-holds s e d n (Ok k) r q = reached-holds s e (folds-reached context others g r.folded) q
    number-holds s e d n (Err x) r q = stops-hold r.stopped q

  -- what each call keeps of the closure
  pub number-keeps : {N : Type 0} (name : F → N)
      → ((t : F × M) (x : GenericArg) (d : ℕ) (r : Result (Option GenericArg) Stop) (u : F × M) → Says context others g t x d r u → name u.0 ≡ name t.0)
      → (s e : F × M) (d n : ℕ) (r : Result ℕ Stop) → Renumbers context others g s d n r e → name e.0 ≡ name s.0
  number-keeps name call s e d n r h =
      number-holds (λ z. name z.0 ≡ name s.0) (λ t x d r u n i q. call t x d r u n ∙ q) (λ t u o q. ap name o.same ∙ q) s e d n r h refl

  -- A fold whose calls answer by a function, or what is noted of its folds.
  module _ {S : Type 0} (answers : S → List Tree → Answers) (is_of : S → List Tree → Type 0) (causes : S → ℕ → Forest → Stop → Type 0) (held : F → S)
      (notes : F → List (Place × ℕ)) (x : S) (stays : (ts us : List Tree) → Extends ts us → is_of x ts → is_of x us × (answers x us ≡ answers x ts))
      (only : (ts : List Tree) (d : ℕ) (t : Tree) → is_asked t.head ≡ false → answers x ts d t ≡ None) (is_cause : IsCause (causes x)) where
    abbrev Table : F × M → List Tree
    Table s = (context s.1).trees

    -- what a call says
    pub record CallSays (t : F × M) (y : GenericArg) (d : ℕ) (r : Result (Option GenericArg) Stop) (u : F × M) : Type 0 where
      pub same : held u.0 ≡ held t.0
      pub part : PartComesTo context others (answers (held t.0) (Table t)) (causes (held t.0)) t.1 y d r u.1 (notes u.0)

    -- what holds in between
    pub record Noting (s0 s : F × M) : Type 0 where
      pub same : held s.0 ≡ x
      pub grows : Grows (context s0.1) (context s.1)
      pub rest : others s.1 ≡ others s0.1
      pub noted : AreFolds (answers x (Table s0)) (Table s) (notes s.0)

    module _ (call : (t : F × M) (y : GenericArg) (d : ℕ) (r : Result (Option GenericArg) Stop) (u : F × M) → Says context others g t y d r u → CallSays t y d r u)
        (s0 : F × M) (begins : is_of x (Table s0)) (starts : held s0.0 ≡ x) (before : AreFolds (answers x (Table s0)) (Table s0) (notes s0.0)) where
      -- the answers stay
      stay : (s : F × M) → Noting s0 s → answers (held s.0) (Table s) ≡ answers x (Table s0)
      stay s k = ap (λ (y : S). answers y (Table s)) k.same ∙ (stays (Table s0) (Table s) k.grows.kept begins).1

      noting-call : (t : F × M) (y : GenericArg) (d : ℕ) (r : Result (Option GenericArg) Stop) (u : F × M) → Says context others g t y d r u → IsArg (Table t) y → Noting s0 t → Noting s0 u
      noting-call t y d r u says i k =
          let c = call t y d r u says in
          let A : Answers → Type 0 = λ b. AreFolds b (Table u) (notes u.0) in
          record {
            same = c.same ∙ k.same;
            grows = grows-trans (context s0.1) (context t.1) (context u.1) k.grows c.part.grows;
            rest = c.part.rest ∙ k.rest;
            noted = subst A (stay t k) c.part.noted;
          }

      noting-nodes : (t u : F × M) → OnlyMakes context others g t u → Noting s0 t → Noting s0 u
      noting-nodes t u o k =
          let N : F → Type 0 = λ f. AreFolds (answers x (Table s0)) (Table u) (notes f) in
          record {
            same = ap held o.same ∙ k.same;
            grows = grows-trans (context s0.1) (context t.1) (context u.1) k.grows o.grows;
            rest = o.rest ∙ k.rest;
            noted = subst N (sym o.same) (folds-grown (answers x (Table s0)) (Table t) (Table u) (notes t.0) o.grows.kept k.noted);
          }

      begin : Noting s0 s0
      begin = record { same = starts; grows = grows-refl (context s0.1); rest = refl; noted = before }

      pub noting-reached : (s : F × M) → IsReached context others g s0 s → Noting s0 s
      noting-reached s l = reached-holds (Noting s0) noting-call noting-nodes s0 s l begin

      noting-number : (e : F × M) (d n : ℕ) (r : Result ℕ Stop) → Renumbers context others g s0 d n r e → Noting s0 e
      noting-number e d n r h = number-holds (Noting s0) noting-call noting-nodes s0 e d n r h begin

      noting-towards : IsTowards context others g (answers x (Table s0)) s0
      noting-towards = record {
        at = λ s d t o e l k.
            let c = call s k.of d (Ok k.answer) e k.says in
            may-answer-as (answers (held s.0) (Table s)) (answers x (Table s0)) d (arg_tree (Table s) k.of) t (option_map (arg_tree (Table e)) k.answer) o (stay s (noting-reached s l)) k.tree k.seen c.part.answer;
        only = only (Table s0);
      }

      noting-tree : (e : F × M) (d n k : ℕ) → n < length (Table s0) → Renumbers context others g s0 d n (Ok k) e → tree_at (Table e) k ≡ fold_tree (answers x (Table s0)) d (tree_at (Table s0) n)
      noting-tree e d n k inside h =
          tree-of-row (answers x (Table s0)) d (Table s0) (Table e) n k inside h.sort (only (Table s0) d) (folds-towards context others g (answers x (Table s0)) s0 noting-towards here h.folded)

      noting-cause : (e : F × M) (d n : ℕ) (z : Stop) → Renumbers context others g s0 d n (Err z) e
          → causes x (length (Table e)) (fold (answers x (Table s0)) d (row (tree_at (Table s0) n) none)) z
      noting-cause e d n z h =
          stops-towards context others g (causes x) is_cause (answers x (Table s0)) s0 noting-towards
          (λ t u d w z l k.
          let c = call t k.of d (Err z) u k.says in
          let n = noting-reached t l in
          let A : Answers → Type 0 = λ b. causes x (length (Table u)) (alone (fold_tree b d w)) z in
          let T : Tree → Type 0 = λ v. causes x (length (Table u)) (alone (fold_tree (answers (held t.0) (Table t)) d v)) z in
          let X : S → Type 0 = λ y. causes y (length (Table u)) (alone (fold_tree (answers (held t.0) (Table t)) d (arg_tree (Table t) k.of))) z in
          subst A (stay t n) (subst T k.tree (subst X n.same c.part.cause)))
          here h.stopped

      pub noting-folds : (e : F × M) (d n : ℕ) (r : Result ℕ Stop) → n < length (Table s0) → Renumbers context others g s0 d n r e
          → NumberComesTo context others (answers x (Table s0)) (causes x) s0.1 d n r e.1 × AreFolds (answers x (Table s0)) (Table e) (notes e.0)
      noting-folds e d n (Ok k) l h =
          let f = noting-number e d n (Ok k) h in
          (record { grows = h.grows; rest = f.rest; sort = h.sort; tree = noting-tree e d n k l h; cause = tt }, f.noted)
      noting-folds e d n (Err z) l h =
          let f = noting-number e d n (Err z) h in
          (record { grows = h.grows; rest = f.rest; sort = tt; tree = tt; cause = noting-cause e d n z h }, f.noted)
