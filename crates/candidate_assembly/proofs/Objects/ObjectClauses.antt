-- The clauses that an object's own bounds give, as numbers of a context.
use Rattle.std.proofs.Common.{◌≡◌, arith, suc, ◌+◌, ◌<◌, ◌≤◌, ℕ, Bool, true, false, not, refl, sym, ap, subst, ◌∙◌, Option, Some, None, List, [], ◌∷◌, ◌++◌, length, map, get_or, All}
use Rattle.std.specs.List.{filter}
use Rattle.std.specs.Prelude.{if◌then◌else◌}
use Rattle.std.proofs.lemmas.List.{append-nil, append_assoc, map-append}
use Rattle.std.proofs.lemmas.List.Elements.{All-cons, All-nil}
use Rattle.std.proofs.Math.ListN.{drop}
use Rattle.ir_trees.specs.declared.ir.kinds.Clause.{Clause}
use Rattle.ir_trees.specs.declared.ir.kinds.Pred.{Pred}
use Rattle.ir_trees.specs.declared.ir.kinds.Ty.{Ty}
use Rattle.ir_trees.specs.Declarations.Context.{Context, Grows}
use Rattle.ir_trees.specs.Syntax.Kinds.{numbers}
use Rattle.ir_trees.specs.Syntax.Nodes.{kind_at, kinds_at, pred_child}
use Rattle.ir_trees.specs.Syntax.Trees.{ClauseKind, PredicateKind, Tree}
use Rattle.ir_trees.specs.Syntax.Words.{ClauseListFits, IsClause, IsPred, IsTy, PredListFits, clause_tree, pred_list_forest, pred_tree, ty_tree}
use Rattle.ir_folds.proofs.Instantiation.Joining.{clause-kept}
use Rattle.ir_trees.proofs.Growth.Kept.{grows-refl, grows-trans, number-kept, ty-kept}
use Rattle.ir_trees.proofs.Syntax.Lists.{below_kind}
use Rattle.ir_trees.proofs.Syntax.Rows.{row-single}
use Rattle.candidate_eval.specs.declared.eval.source.BuiltinImplSource.TheVariants.{Misc, Object}
use Rattle.candidate_eval.specs.declared.eval.source.CandidateSource.{CandidateSource}
use Rattle.candidate_eval.specs.declared.eval.source.CandidateSource.TheVariants.{BuiltinImpl}
use Rattle.candidate_eval.specs.Dynamic.Required.{each_of}
use Rattle.candidate_assembly.specs.Rules.DynBounds.{bound_said, first_listed, is_principal}
use Rattle.candidate_assembly.specs.Rules.ObjectBounds.{OwnClause, numbered, own_clause}
use Rattle.candidate_assembly.specs.Calls.ObjectCalls.{bound_clauses, numbered_from, own_clause_of}
use Rattle.candidate_assembly.proofs.Objects.ObjectLists.{drop-past, drop-step}

-- Bounds of a context that grows.

pub pred-kept : (old new : Context) (p : Pred) → Grows old new → IsPred old.trees p → IsPred new.trees p × (pred_tree new.trees p ≡ pred_tree old.trees p)
pred-kept old new p g i =
    let k = number-kept old.trees new.trees p.0 g.kept (below_kind old.trees p.0 PredicateKind refl i) in
    (k.0 ∙ i, k.1)

pub pred-list-kept : (old new : Context) (xs : List Pred) → Grows old new → PredListFits old.trees xs → PredListFits new.trees xs × (map (pred_tree new.trees) xs ≡ map (pred_tree old.trees) xs)
pred-list-kept old new [] g f = (refl, refl)
pred-list-kept old new (x ∷ xs) g f =
    let here : kind_at old.trees x.0 ≡ PredicateKind = cc in
    let others : PredListFits old.trees xs = cc in
    let k = pred-kept old new x g here in
    let r = pred-list-kept old new xs g others in (
      ap (λ j. j ∷ kinds_at new.trees (numbers (map pred_child xs))) k.0 ∙ ap (λ js. PredicateKind ∷ js) r.0,
      ap (λ t. t ∷ map (pred_tree new.trees) xs) k.1 ∙ ap (λ ts. pred_tree old.trees x ∷ ts) r.1,
    )

pub each-listed : (ts : List Tree) (xs : List Pred) → PredListFits ts xs → each_of (pred_list_forest ts xs) ≡ map (pred_tree ts) xs
each-listed ts [] f = refl
each-listed ts (x ∷ xs) f =
    let here : kind_at ts x.0 ≡ PredicateKind = cc in
    let others : PredListFits ts xs = cc in
    ap each_of (row-single ts x.0 PredicateKind (pred_list_forest ts xs) refl refl here) ∙ ap (λ us. pred_tree ts x ∷ us) (each-listed ts xs others)

-- The first principal.

abbrev pub principal-among : List Tree → Option Tree
principal-among us = first_listed (filter (λ b. is_principal b.head) us)

no-principal-first : (u : Tree) (r : List Tree) → is_principal u.head ≡ false → principal-among (u ∷ r) ≡ principal-among r
no-principal-first u r e = ap (λ b. first_listed (if b then u ∷ filter (λ b. is_principal b.head) r else filter (λ b. is_principal b.head) r)) e

principal-first : (u : Tree) (r : List Tree) → is_principal u.head ≡ true → principal-among (u ∷ r) ≡ Some u
principal-first u r e = ap (λ b. first_listed (if b then u ∷ filter (λ b. is_principal b.head) r else filter (λ b. is_principal b.head) r)) e

module _ (ts : List Tree) (xs : List Pred) (k : ℕ) where
  pub principal-later : (d : Pred) → k < length xs → principal-among (map (pred_tree ts) xs) ≡ principal-among (drop k (map (pred_tree ts) xs)) → is_principal (pred_tree ts (get_or xs k d)).head ≡ false
      → principal-among (map (pred_tree ts) xs) ≡ principal-among (drop (k + 1) (map (pred_tree ts) xs))
  principal-later d l e p = e ∙ (ap principal-among (drop-step (pred_tree ts) xs k d l) ∙ no-principal-first (pred_tree ts (get_or xs k d)) (drop (k + 1) (map (pred_tree ts) xs)) p)

  pub principal-found : (d : Pred) → k < length xs → principal-among (map (pred_tree ts) xs) ≡ principal-among (drop k (map (pred_tree ts) xs)) → is_principal (pred_tree ts (get_or xs k d)).head ≡ true
      → Some (pred_tree ts (get_or xs k d)) ≡ principal-among (map (pred_tree ts) xs)
  principal-found d l e p = sym (e ∙ (ap principal-among (drop-step (pred_tree ts) xs k d l) ∙ principal-first (pred_tree ts (get_or xs k d)) (drop (k + 1) (map (pred_tree ts) xs)) p))

  pub principal-missing : length xs ≤ k → principal-among (map (pred_tree ts) xs) ≡ principal-among (drop k (map (pred_tree ts) xs)) → None ≡ principal-among (map (pred_tree ts) xs)
  principal-missing l e = sym (e ∙ ap principal-among (drop-past (pred_tree ts) xs k l))

-- Clauses with numbers.

same-list : (xs : List Clause) → map (λ (x : Clause). x) xs ≡ xs
same-list [] = refl
same-list (x ∷ xs) = ap (λ ys. x ∷ ys) (same-list xs)

abbrev Pair : Type 0
Pair = CandidateSource × Clause

numbered-more : (xs : List Clause) (k : ℕ) (d : Clause) → k < length xs → numbered_from k (drop k xs) ≡ (BuiltinImpl (Object k), get_or xs k d) ∷ numbered_from (k + 1) (drop (k + 1) xs)
numbered-more xs k d l =
    let step = subst (λ ys. drop k ys ≡ get_or xs k d ∷ drop (k + 1) ys) (same-list xs) (drop-step (λ (x : Clause). x) xs k d l) in
    let more : suc k ≡ k + 1 = omega arith in
    ap (numbered_from k) step ∙ ap (λ n. let x : Pair = (BuiltinImpl (Object k), get_or xs k d) in x ∷ numbered_from n (drop (k + 1) xs)) more

pub one-numbered : (xs : List Clause) (k : ℕ) (d : Clause) (items new whole : List Pair) → k < length xs → items ++ numbered_from k (drop k xs) ≡ whole → new ≡ items ++ (BuiltinImpl (Object k), get_or xs k d) ∷ []
    → new ++ numbered_from (k + 1) (drop (k + 1) xs) ≡ whole
one-numbered xs k d items new whole l e is =
    ap (λ ys. ys ++ numbered_from (k + 1) (drop (k + 1) xs)) is
    ∙ (append_assoc items ((BuiltinImpl (Object k), get_or xs k d) ∷ []) (numbered_from (k + 1) (drop (k + 1) xs)) ∙ (ap (λ ys. items ++ ys) (sym (numbered-more xs k d l)) ∙ e))

pub all-numbered : (xs : List Clause) (k : ℕ) (items whole : List Pair) → length xs ≤ k → items ++ numbered_from k (drop k xs) ≡ whole → items ≡ whole
all-numbered xs k items whole l e =
    let none-left = subst (λ ys. drop k ys ≡ []) (same-list xs) (drop-past (λ (x : Clause). x) xs k l) in
    sym (append-nil items) ∙ (ap (λ ys. items ++ numbered_from k ys) (sym none-left) ∙ e)

pub own-numbered : (ts : List Tree) (n : ℕ) (xs : List Clause) → map (own_clause_of ts) (numbered_from n xs) ≡ numbered n (map (clause_tree ts) xs)
own-numbered ts n [] = refl
own-numbered ts n (x ∷ xs) = ap (λ os. own_clause (BuiltinImpl (Object n)) (clause_tree ts x) ∷ os) (own-numbered ts (suc n) xs)

-- Clauses of a context that grows.

abbrev pub PairsFit : List Tree → List Pair → Type 0
PairsFit ts xs = All (λ x. IsClause ts x.1) xs

pub pairs-joined : (ts : List Tree) (xs ys : List Pair) → PairsFit ts xs → PairsFit ts ys → PairsFit ts (xs ++ ys)
pairs-joined ts [] ys h k = k
pairs-joined ts (x ∷ xs) ys h k = All-cons (λ (z : Pair). IsClause ts z.1) x (xs ++ ys) (h 0 x (omega arith)) (pairs-joined ts xs ys (λ i d l. h (suc i) d (omega (arith, l))) k)

pub numbered-fit : (ts : List Tree) (n : ℕ) (xs : List Clause) → ClauseListFits ts xs → PairsFit ts (numbered_from n xs)
numbered-fit ts n [] f = All-nil (λ (z : Pair). IsClause ts z.1)
numbered-fit ts n (x ∷ xs) f =
    let here : kind_at ts x.0 ≡ ClauseKind = cc in
    let others : ClauseListFits ts xs = cc in
    All-cons (λ (z : Pair). IsClause ts z.1) (BuiltinImpl (Object n), x) (numbered_from (suc n) xs) here (numbered-fit ts (suc n) xs others)

pub pairs-kept : (old new : Context) (xs : List Pair) → Grows old new → PairsFit old.trees xs → PairsFit new.trees xs × (map (own_clause_of new.trees) xs ≡ map (own_clause_of old.trees) xs)
pairs-kept old new [] g h = (All-nil (λ (z : Pair). IsClause new.trees z.1), refl)
pairs-kept old new (x ∷ xs) g h =
    let k = clause-kept old new x.1 g (h 0 x (omega arith)) in
    let r = pairs-kept old new xs g (λ i d l. h (suc i) d (omega (arith, l))) in (
      All-cons (λ (z : Pair). IsClause new.trees z.1) x xs k.0 r.0,
      ap (λ t. own_clause x.0 t ∷ map (own_clause_of new.trees) xs) k.1 ∙ ap (λ os. own_clause x.0 (clause_tree old.trees x.1) ∷ os) r.1,
    )

-- What the bounds before the k-th say was made.
pub record SaidSoFar (start now : Context) (type : Tree) (us : List Tree) (k : ℕ) (items : List Pair) : Type 0 where
  pub grows : Grows start now
  pub fits : PairsFit now.trees items
  pub whole : map (own_clause_of now.trees) items ++ bound_clauses type (drop k us) ≡ bound_clauses type us

pub none-said : (start : Context) (type : Tree) (us : List Tree) (items : List Pair) → items ≡ [] → SaidSoFar start start type us 0 items
none-said start type us items e = rw e (record { grows = grows-refl start; fits = All-nil (λ (z : Pair). IsClause start.trees z.1); whole = refl })

abbrev saying : Tree → Tree → OwnClause
saying type b = own_clause (BuiltinImpl Misc) (bound_said type b)

first-by : (type u : Tree) (r : List Tree) (b : Bool) → is_principal u.head ≡ b → bound_clauses type (u ∷ r) ≡ (if b then bound_clauses type r else saying type u ∷ bound_clauses type r)
first-by type u r true e = ap (λ b. map (saying type) (if not b then u ∷ filter (λ b. not (is_principal b.head)) r else filter (λ b. not (is_principal b.head)) r)) e
first-by type u r false e = ap (λ b. map (saying type) (if not b then u ∷ filter (λ b. not (is_principal b.head)) r else filter (λ b. not (is_principal b.head)) r)) e

module _ (start now : Context) (ty : Ty) (xs : List Pred) (k : ℕ) (d : Pred) (items : List Pair) (l : k < length xs) (s : SaidSoFar start now (ty_tree start.trees ty) (map (pred_tree start.trees) xs) k items) where
  pub principal-passed : is_principal (pred_tree start.trees (get_or xs k d)).head ≡ true → SaidSoFar start now (ty_tree start.trees ty) (map (pred_tree start.trees) xs) (k + 1) items
  principal-passed p =
      let type = ty_tree start.trees ty in
      let us = map (pred_tree start.trees) xs in
      let step = ap (bound_clauses type) (drop-step (pred_tree start.trees) xs k d l) ∙ first-by type (pred_tree start.trees (get_or xs k d)) (drop (k + 1) us) true p in
      record { grows = s.grows; fits = s.fits; whole = ap (λ os. map (own_clause_of now.trees) items ++ os) (sym step) ∙ s.whole }

  pub one-said : (new : Context) (x : Clause) (more : List Pair) → is_principal (pred_tree start.trees (get_or xs k d)).head ≡ false → Grows now new → IsClause new.trees x
      → clause_tree new.trees x ≡ bound_said (ty_tree start.trees ty) (pred_tree start.trees (get_or xs k d)) → more ≡ items ++ (BuiltinImpl Misc, x) ∷ []
      → SaidSoFar start new (ty_tree start.trees ty) (map (pred_tree start.trees) xs) (k + 1) more
  one-said new x more p g i is e =
      let type = ty_tree start.trees ty in
      let u = pred_tree start.trees (get_or xs k d) in
      let us = map (pred_tree start.trees) xs in
      let kept = pairs-kept now new items g s.fits in
      let step = ap (bound_clauses type) (drop-step (pred_tree start.trees) xs k d l) ∙ first-by type u (drop (k + 1) us) false p in
      let last : Pair = (BuiltinImpl Misc, x) in
      rw e (record {
        grows = grows-trans start now new s.grows g;
        fits = pairs-joined new.trees items (last ∷ []) kept.0 (All-cons (λ (z : Pair). IsClause new.trees z.1) last [] i (All-nil (λ (z : Pair). IsClause new.trees z.1)));
        whole = ap (λ os. os ++ bound_clauses type (drop (k + 1) us)) (map-append (own_clause_of new.trees) items (last ∷ []))
            ∙ (append_assoc (map (own_clause_of new.trees) items) (own_clause_of new.trees last ∷ []) (bound_clauses type (drop (k + 1) us))
            ∙ (ap (λ os. os ++ own_clause_of new.trees last ∷ bound_clauses type (drop (k + 1) us)) kept.1
            ∙ (ap (λ t. map (own_clause_of now.trees) items ++ own_clause (BuiltinImpl Misc) t ∷ bound_clauses type (drop (k + 1) us)) is
            ∙ (ap (λ os. map (own_clause_of now.trees) items ++ os) (sym step) ∙ s.whole))));
      })

pub all-said : (start now : Context) (type : Tree) (ts : List Tree) (xs : List Pred) (k : ℕ) (items : List Pair) → length xs ≤ k → SaidSoFar start now type (map (pred_tree ts) xs) k items
    → map (own_clause_of now.trees) items ≡ bound_clauses type (map (pred_tree ts) xs)
all-said start now type ts xs k items l s =
    sym (append-nil (map (own_clause_of now.trees) items)) ∙ (ap (λ us. map (own_clause_of now.trees) items ++ bound_clauses type us) (sym (drop-past (pred_tree ts) xs k l)) ∙ s.whole)

-- what is said in a context that has grown is what is said in the one before
pub said-before : (start now : Context) (ty : Ty) (p : Pred) (t : Tree) → Grows start now → IsTy start.trees ty → IsPred start.trees p → t ≡ bound_said (ty_tree now.trees ty) (pred_tree now.trees p)
    → t ≡ bound_said (ty_tree start.trees ty) (pred_tree start.trees p)
said-before start now ty p t g i j e = e ∙ (ap (λ u. bound_said u (pred_tree now.trees p)) (ty-kept start now ty g i).1 ∙ ap (bound_said (ty_tree start.trees ty)) (pred-kept start now p g j).1)
