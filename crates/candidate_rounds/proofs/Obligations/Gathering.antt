-- Root variables and clauses, gathered one after another.
use Rattle.std.proofs.Common.{◌≡◌, ◌≤◌, ◌<◌, ◌+◌, ℕ, zero, suc, Bool, true, false, List, [], ◌∷◌, ◌++◌, length, map, drop, slice_get, slice_index_or, append_assoc, Option, Some, None, refl, sym, ◌∙◌, ap, subst, arith, if◌then◌else◌}
use Rattle.std.specs.Prelude.{IfOk, IfSome, Result, Ok, Err}
use Rattle.std.specs.Option.{option_map, option_to_list, unwrap_or}
use Rattle.std.proofs.lemmas.List.{append-nil}
use Rattle.std.proofs.lemmas.Option.{slice_get-map}
use Rattle.ir_trees.specs.declared.ir.kinds.Args.{Args}
use Rattle.ir_trees.specs.declared.ir.kinds.Clause.{Clause}
use Rattle.ir_trees.specs.declared.ir.kinds.GenericArg.{GenericArg}
use Rattle.ir_trees.specs.Declarations.Context.{Context, Grows}
use Rattle.ir_trees.specs.Instantiation.Folds.{IsArg, arg_tree}
use Rattle.ir_trees.specs.Syntax.Kinds.{arg_child, numbers}
use Rattle.ir_trees.specs.Syntax.Nodes.{clause_child, kinds_at, trees_at}
use Rattle.ir_trees.specs.Syntax.Trees.{Forest, tree, Tree, ClauseKind}
use Rattle.ir_trees.specs.Syntax.Words.{ClauseListFits, IsArgs, IsClause, ListFits, args_forest, clause_tree, list_forest}
use Rattle.ir_trees.proofs.Instantiation.Folding.{begin}
use Rattle.ir_trees.proofs.Growth.Kept.{args-kept, grows-trans}
use Rattle.ir_trees.proofs.Syntax.Lists.{trees_at-append}
use Rattle.ir_trees.proofs.Growth.Made.{ListFits-grows}
use Rattle.candidate_eval.specs.declared.eval.variable.VariableKind.{VariableKind}
use Rattle.candidate_eval.specs.declared.eval.variable.VariableKind.TheVariants.{Term, Region}
use Rattle.candidate_eval.specs.Judges.States.{State, resolved, resolved_tree, same_kind, variable}
use Rattle.candidate_rounds.specs.declared.rounds.inference.Entry.{Entry}
use Rattle.candidate_eval.specs.declared.eval.response.CanonicalResponse.{CanonicalResponse}
use Rattle.candidate_eval.specs.declared.eval.mode.TypingMode.{TypingMode}
use Rattle.candidate_eval.specs.declared.eval.variable.CanonicalVar.{CanonicalVar}
use Rattle.candidate_eval.specs.Judges.Alike.{info}
use Rattle.candidate_eval.specs.Outcomes.ResponseTrees.{response_of}
use Rattle.candidate_rounds.specs.Calls.Gathered.{open_entry, root_at}
use Rattle.candidate_rounds.specs.Evaluators.Inferences.{Inference, is_of_kind, kept_value, value_of}
use Rattle.candidate_rounds.proofs.Table.Tabled.{clauses-stay}
use Rattle.candidate_rounds.specs.Evaluators.Known.{Each, IsKnown, info_of, state_of}
use Rattle.rounds_judge.specs.Obligations.Responding.{constraints, open_numbers, open_variable, renumbered, renumbered_tree, response, root_values, roots_from, with_numbers, with_numbers_of}
use Rattle.candidate_rounds.proofs.Snapshots.Knowing.{clause-stays, state-stays}
use Rattle.candidate_rounds.proofs.Resolution.Leafing.{below-args, push-fits, push-trees}
use Rattle.candidate_rounds.proofs.Obligations.Noting.{in_row, list-row}
use Rattle.candidate_rounds.proofs.Resolution.Resolving.{kept-tree}
use Rattle.rounds_judge.proofs.States.Bound.{same_sort_itself}
use Rattle.candidate_rounds.proofs.Snapshots.Undoing.{drop-one, drop-beyond}

-- The root variables' trees, from a number on.

abbrev pub with_some : Option Tree → List Tree → List Tree
with_some None us = us
with_some (Some t) us = t ∷ us

abbrev pub root_trees : ℕ → List Entry → List Tree
root_trees n [] = []
root_trees n (e ∷ es) = with_some (root_at n (Some e)) (root_trees (suc n) es)

-- their values, in a row
roots-row : (ts : List Tree) (S : State) (n : ℕ) (es : List Entry) → in_row (map (resolved_tree S) (root_trees n es)) ≡ resolved S (roots_from n (map (info_of ts) es))
roots-row ts S n [] = refl
roots-row ts S n (e ∷ es) = at e.is_root (roots-row ts S (suc n) es)
  where
    one : (k : VariableKind) (r : Forest) → begin (resolved_tree S (variable k n)) (resolved S r) ≡ resolved S (tree (variable k n).head (variable k n).children r)
    one (Term s) r = refl
    one Region r = refl

    at : (b : Bool) → in_row (map (resolved_tree S) (root_trees (suc n) es)) ≡ resolved S (roots_from (suc n) (map (info_of ts) es))
        → in_row (map (resolved_tree S) (with_some (if b then Some (variable e.kind n) else None) (root_trees (suc n) es)))
        ≡ resolved S (if b then tree (variable e.kind n).head (variable e.kind n).children (roots_from (suc n) (map (info_of ts) es)) else roots_from (suc n) (map (info_of ts) es))
    at true r = ap (begin (resolved_tree S (variable e.kind n))) r ∙ one e.kind (roots_from (suc n) (map (info_of ts) es))
    at false r = r

-- Trees of those of so many variables were made, as each function of a family says: with what is left they are all.
pub record RootsSoFar (F : Type 0) (f : F → Tree → Tree) (old now : Context) (es : List Entry) (i : ℕ) (xs : List GenericArg) : Type 0 where
  pub grows : Grows old now
  pub fits : ListFits now.trees xs
  pub left : (m : F) → trees_at now.trees (numbers (map arg_child xs)) ++ map (f m) (root_trees i (drop i es)) ≡ map (f m) (root_trees 0 es)

pub no-roots : (F : Type 0) (f : F → Tree → Tree) (c : Context) (es : List Entry) → Grows c c → RootsSoFar F f c c es 0 []
no-roots F f c es g = record { grows = g; fits = refl; left = λ m. refl }

pub trees-stay : (b c : Context) (xs : List GenericArg) → Grows b c → ListFits b.trees xs → trees_at c.trees (numbers (map arg_child xs)) ≡ trees_at b.trees (numbers (map arg_child xs))
trees-stay b c xs g f = ap (λ us. trees_at us (numbers (map arg_child xs))) g.kept.is ∙ trees_at-append b.trees g.kept.added (numbers (map arg_child xs)) (below-args b.trees xs f)

get-one : {A : Type 0} (xs : List A) (i : ℕ) → i < length xs → (x : A) × (slice_get xs i ≡ Some x) × (drop i xs ≡ x ∷ drop (suc i) xs)
get-one [] i l = absurd (omega (arith, l))
get-one (x ∷ xs) zero l = (x, refl, refl)
get-one (x ∷ xs) (suc i) l = get-one xs i (omega (arith, l))

mapped-some : (g : Tree → Tree) (o : Option Tree) (us : List Tree) → map g (with_some o us) ≡ with_some (option_map g o) (map g us)
mapped-some g None us = refl
mapped-some g (Some t) us = refl

next-roots : (g : Tree → Tree) (es : List Entry) (i : ℕ) (o : Option Tree) → i < length es → o ≡ option_map g (root_at i (slice_get es i))
    → map g (root_trees i (drop i es)) ≡ with_some o (map g (root_trees (suc i) (drop (suc i) es)))
next-roots g es i o l e =
    let p = get-one es i l in
    let us = root_trees (suc i) (drop (suc i) es) in
    ap (λ ds. map g (root_trees i ds)) p.2
    ∙ (mapped-some g (root_at i (Some p.0)) us ∙ ap (λ q. with_some q (map g us)) (sym (e ∙ ap (λ w. option_map g (root_at i w)) p.1)))

module _ (F : Type 0) (f : F → Tree → Tree) (a b c : Context) (es : List Entry) (i : ℕ) (xs : List GenericArg) (s : RootsSoFar F f a b es i xs) (l : i < length es) (g : Grows b c) where
  no-root : ((m : F) → None ≡ option_map (f m) (root_at i (slice_get es i))) → RootsSoFar F f a c es (i + 1) xs
  no-root e = record {
    grows = grows-trans a b c s.grows g;
    fits = ListFits-grows b c xs g s.fits;
    left = λ m.
        ap (λ n. trees_at c.trees (numbers (map arg_child xs)) ++ map (f m) (root_trees n (drop n es))) (let n : i + 1 ≡ suc i = omega arith in n)
        ∙ (ap (λ us. us ++ map (f m) (root_trees (suc i) (drop (suc i) es))) (trees-stay b c xs g s.fits)
        ∙ (ap (λ us. trees_at b.trees (numbers (map arg_child xs)) ++ us) (sym (next-roots (f m) es i None l (e m))) ∙ s.left m));
  }

  one-more-root : (ys : List GenericArg) (x : GenericArg) → IsArg c.trees x → ((m : F) → Some (arg_tree c.trees x) ≡ option_map (f m) (root_at i (slice_get es i))) → ys ≡ xs ++ x ∷ []
      → RootsSoFar F f a c es (i + 1) ys
  one-more-root ys x k e q = subst (λ zs. RootsSoFar F f a c es (i + 1) zs) (sym q) (record {
    grows = grows-trans a b c s.grows g;
    fits = push-fits c.trees xs x (ListFits-grows b c xs g s.fits) k;
    left = λ m.
        let us = map (f m) (root_trees (suc i) (drop (suc i) es)) in
        ap (λ n. trees_at c.trees (numbers (map arg_child (xs ++ x ∷ []))) ++ map (f m) (root_trees n (drop n es))) (let n : i + 1 ≡ suc i = omega arith in n)
        ∙ (ap (λ ts. ts ++ us) (push-trees c.trees xs x)
        ∙ (append_assoc (trees_at c.trees (numbers (map arg_child xs))) (arg_tree c.trees x ∷ []) us
        ∙ (ap (λ ts. ts ++ arg_tree c.trees x ∷ us) (trees-stay b c xs g s.fits)
        ∙ (ap (λ ts. trees_at b.trees (numbers (map arg_child xs)) ++ ts) (sym (next-roots (f m) es i (Some (arg_tree c.trees x)) l (e m))) ∙ s.left m))));
  })

  pub more-roots : (ys : List GenericArg) (o : Option GenericArg) → IfSome o (λ x. IsArg c.trees x) → ((m : F) → option_map (arg_tree c.trees) o ≡ option_map (f m) (root_at i (slice_get es i)))
      → ys ≡ xs ++ option_to_list o → RootsSoFar F f a c es (i + 1) ys
  more-roots ys None k e q = subst (λ zs. RootsSoFar F f a c es (i + 1) zs) (sym (q ∙ append-nil xs)) (no-root e)
  more-roots ys (Some x) k e q = one-more-root ys x k e q

pub all-roots : (F : Type 0) (S : F → State) (a b : Context) (ts : List Tree) (es : List Entry) (i : ℕ) (xs : List GenericArg) → RootsSoFar F (λ m. resolved_tree (S m)) a b es i xs → length es ≤ i
    → (m : F) → list_forest b.trees xs ≡ resolved (S m) (roots_from 0 (map (info_of ts) es))
all-roots F S a b ts es i xs s l m =
    let us = trees_at b.trees (numbers (map arg_child xs)) in
    list-row b.trees xs s.fits
    ∙ (ap in_row (sym (append-nil us) ∙ (ap (λ ds. us ++ map (resolved_tree (S m)) (root_trees i ds)) (sym (drop-beyond es i l)) ∙ s.left m))
    ∙ roots-row ts (S m) 0 es)

-- What stands for a root: its value, or itself.

same-itself : (k : VariableKind) → same_kind k k ≡ true
same-itself (Term s) = same_sort_itself s
same-itself Region = refl

pub root-resolved : (ts : List Tree) (m : TypingMode) (s : Inference) (n : ℕ) (e : Entry) → slice_get s.variables n ≡ Some e
    → resolved_tree (state_of ts m s) (variable e.kind n) ≡ unwrap_or (option_map (arg_tree ts) e.value) (variable e.kind n)
root-resolved ts m s n e g = at e.kind e.value own
  where
    own : kept_value s e.kind n ≡ e.value
    own = ap (λ o. if is_of_kind e.kind o then value_of o else None) g ∙ ap (λ b. if b then e.value else None) (same-itself e.kind)

    at : (k : VariableKind) (o : Option GenericArg) → kept_value s k n ≡ o → resolved_tree (state_of ts m s) (variable k n) ≡ unwrap_or (option_map (arg_tree ts) o) (variable k n)
    at (Term t) o q = ap (λ u. unwrap_or u (variable (Term t) n)) (sym (kept-tree ts m s (variable (Term t) n).head) ∙ ap (option_map (arg_tree ts)) q)
    at Region o q = ap (λ u. unwrap_or u (variable Region n)) (sym (kept-tree ts m s (variable Region n).head) ∙ ap (option_map (arg_tree ts)) q)

-- Clauses that were made of others, one after the other, as each function of a family says.
pub record ClausesSoFar (F : Type 0) (f : F → Tree → Tree) (old now : Context) (cs : List Clause) (i : ℕ) (xs : List Clause) : Type 0 where
  pub grows : Grows old now
  pub fits : ClauseListFits now.trees xs
  pub left : (m : F) → map (clause_tree now.trees) xs ++ map (f m) (map (clause_tree old.trees) (drop i cs)) ≡ map (f m) (map (clause_tree old.trees) cs)

pub no-clauses : (F : Type 0) (f : F → Tree → Tree) (c : Context) (cs : List Clause) → Grows c c → ClausesSoFar F f c c cs 0 []
no-clauses F f c cs g = record { grows = g; fits = refl; left = λ m. refl }

push-clause : (ts : List Tree) (xs : List Clause) (x : Clause) → ClauseListFits ts xs → IsClause ts x → ClauseListFits ts (xs ++ x ∷ [])
push-clause ts [] x e k = ap (λ y. y ∷ []) k
push-clause ts (y ∷ xs) x e k =
    let i : IsClause ts y = cc in
    let f : ClauseListFits ts xs = cc in
    ap (λ z. z ∷ kinds_at ts (numbers (map clause_child (xs ++ x ∷ [])))) i ∙ ap (λ zs. ClauseKind ∷ zs) (push-clause ts xs x f k)

map-pushed : (ts : List Tree) (xs : List Clause) (x : Clause) → map (clause_tree ts) (xs ++ x ∷ []) ≡ map (clause_tree ts) xs ++ clause_tree ts x ∷ []
map-pushed ts [] x = refl
map-pushed ts (y ∷ xs) x = ap (λ us. clause_tree ts y ∷ us) (map-pushed ts xs x)

pub one-more-clause : (F : Type 0) (f : F → Tree → Tree) (a b c : Context) (cs : List Clause) (i : ℕ) (d : Clause) (xs ys : List Clause) (x : Clause) → ClausesSoFar F f a b cs i xs → i < length cs
    → Grows b c → IsClause c.trees x → ((m : F) → clause_tree c.trees x ≡ f m (clause_tree a.trees (slice_index_or cs i d))) → ys ≡ xs ++ x ∷ [] → ClausesSoFar F f a c cs (i + 1) ys
one-more-clause F f a b c cs i d xs ys x s l g k e q = subst (λ zs. ClausesSoFar F f a c cs (i + 1) zs) (sym q) (record {
  grows = grows-trans a b c s.grows g;
  fits = push-clause c.trees xs x (clauses-stay b.trees c.trees xs g.kept s.fits).1 k;
  left = λ m.
      ap (λ n. map (clause_tree c.trees) (xs ++ x ∷ []) ++ map (f m) (map (clause_tree a.trees) (drop n cs))) (let n : i + 1 ≡ suc i = omega arith in n)
      ∙ (ap (λ us. us ++ map (f m) (map (clause_tree a.trees) (drop (suc i) cs))) (map-pushed c.trees xs x)
      ∙ (append_assoc (map (clause_tree c.trees) xs) (clause_tree c.trees x ∷ []) (map (f m) (map (clause_tree a.trees) (drop (suc i) cs)))
      ∙ (ap (λ us. us ++ clause_tree c.trees x ∷ map (f m) (map (clause_tree a.trees) (drop (suc i) cs))) (clauses-stay b.trees c.trees xs g.kept s.fits).0
      ∙ (ap (λ u. map (clause_tree b.trees) xs ++ u ∷ map (f m) (map (clause_tree a.trees) (drop (suc i) cs))) (e m)
      ∙ (ap (λ us. map (clause_tree b.trees) xs ++ map (f m) (map (clause_tree a.trees) us)) (sym (drop-one cs i d l)) ∙ s.left m)))));
})

pub all-clauses : (F : Type 0) (f : F → Tree → Tree) (a b : Context) (cs : List Clause) (i : ℕ) (xs : List Clause) → ClausesSoFar F f a b cs i xs → length cs ≤ i
    → (m : F) → map (clause_tree b.trees) xs ≡ map (f m) (map (clause_tree a.trees) cs)
all-clauses F f a b cs i xs s l m =
    sym (append-nil (map (clause_tree b.trees) xs))
    ∙ (ap (λ us. map (clause_tree b.trees) xs ++ map (f m) (map (clause_tree a.trees) us)) (sym (drop-beyond cs i l)) ∙ s.left m)

-- As more numbers are given.

pub state-later : (m : TypingMode) (s : Inference) (a b : Context) → IsKnown a.trees s → Grows a b → state_of b.trees m s ≡ state_of a.trees m s
state-later m s a b k g = state-stays a.trees b.trees m s g.kept k

pub clauses-kept : (a b : Context) (cs : List Clause) → Grows a b → ClauseListFits a.trees cs → ClauseListFits b.trees cs × (map (clause_tree b.trees) cs ≡ map (clause_tree a.trees) cs)
clauses-kept a b cs g f = let p = clauses-stay a.trees b.trees cs g.kept f in (p.1, p.0)

pub each-index : {A : Type 0} (P : A → Type 0) (xs : List A) (i : ℕ) (d : A) → Each P xs → i < length xs → P (slice_index_or xs i d)
each-index P [] i d e l = absurd (omega (arith, l))
each-index P (x ∷ xs) zero d e l = e.0
each-index P (x ∷ xs) (suc i) d e l = each-index P xs i d e.1 (omega (arith, l))

-- one clause of those that stay, at a state that stays
pub clause-later : (m : TypingMode) (s : Inference) (a b : Context) (cs : List Clause) (i : ℕ) (d : Clause) (t : Tree) → IsKnown a.trees s → Grows a b → i < length cs → Each (IsClause a.trees) cs
    → t ≡ resolved_tree (state_of b.trees m s) (clause_tree b.trees (slice_index_or cs i d)) → t ≡ resolved_tree (state_of a.trees m s) (clause_tree a.trees (slice_index_or cs i d))
clause-later m s a b cs i d t k g l f e =
    e
    ∙ (ap (λ S. resolved_tree S (clause_tree b.trees (slice_index_or cs i d))) (state-later m s a b k g)
    ∙ ap (resolved_tree (state_of a.trees m s)) (clause-stays a.trees b.trees (slice_index_or cs i d) g.kept (each-index (IsClause a.trees) cs i d f l)))

-- What is gathered is the response.

open-is : (ts : List Tree) (m : TypingMode) (s : Inference) (n : ℕ) → open_entry (slice_get s.variables n) ≡ open_variable (info (state_of ts m s) n)
open-is ts m s n = at (slice_get s.variables n) ∙ ap open_variable (sym (slice_get-map (info_of ts) s.variables n))
  where
    at : (o : Option Entry) → open_entry o ≡ open_variable (option_map (info_of ts) o)
    at None = refl
    at (Some e) = refl

pub opens-are : (ts : List Tree) (m : TypingMode) (s : Inference) (ns : List ℕ) → map (λ n. open_entry (slice_get s.variables n)) ns ≡ map (λ n. open_variable (info (state_of ts m s) n)) ns
opens-are ts m s [] = refl
opens-are ts m s (n ∷ ns) = ap (λ v. v ∷ map (λ k. open_entry (slice_get s.variables k)) ns) (open-is ts m s n) ∙ ap (λ vs. open_variable (info (state_of ts m s) n) ∷ vs) (opens-are ts m s ns)

pub record Gathers (m : TypingMode) (s : Inference) (a b c d e : Context) (values others : Args) (regions news : List Clause) (ns : List ℕ) (vars : List CanonicalVar) : Type 0 where
  pub known : IsKnown a.trees s
  pub first : Grows a b
  pub second : Grows b c
  pub third : Grows c d
  pub fourth : Grows d e
  pub are_values : IsArgs b.trees values
  pub values_are : args_forest b.trees values ≡ root_values (state_of a.trees m s)
  pub are_regions : ClauseListFits c.trees regions
  pub regions_are : map (clause_tree c.trees) regions ≡ constraints (state_of b.trees m s)
  pub numbers_are : ns ≡ with_numbers_of (with_numbers [] (args_forest c.trees values)) (map (clause_tree c.trees) regions)
  pub vars_are : vars ≡ map (λ n. open_entry (slice_get s.variables n)) ns
  pub are_others : IsArgs d.trees others
  pub others_are : args_forest d.trees others ≡ renumbered ns (args_forest c.trees values)
  pub news_are : map (clause_tree e.trees) news ≡ map (renumbered_tree ns) (map (clause_tree d.trees) regions)

pub gathered : (m : TypingMode) (s : Inference) (a b c d e : Context) (values : Args) (regions : List Clause) (ns : List ℕ) (r : CanonicalResponse)
    → Gathers m s a b c d e values r.values regions r.regions.items ns r.vars.items → response_of e.trees r ≡ response (state_of a.trees m s) r.certainty
gathered m s a b c d e values regions ns r g =
    let S = state_of a.trees m s in
    let v : args_forest c.trees values ≡ root_values S = (args-kept b c values g.second g.are_values).1 ∙ g.values_are in
    let q : map (clause_tree c.trees) regions ≡ constraints S = g.regions_are ∙ ap constraints (state-later m s a b g.known g.first) in
    let n : ns ≡ open_numbers S = g.numbers_are ∙ (ap (λ ts. with_numbers_of (with_numbers [] ts) (map (clause_tree c.trees) regions)) v ∙ ap (with_numbers_of (with_numbers [] (root_values S))) q) in
    let one : r.vars.items ≡ (response S r.certainty).vars = g.vars_are ∙ (opens-are a.trees m s ns ∙ ap (λ ks. map (λ k. open_variable (info S k)) ks) n) in
    let two : args_forest e.trees r.values ≡ (response S r.certainty).values = (args-kept d e r.values g.fourth g.are_others).1 ∙ (g.others_are ∙ (ap (renumbered ns) v ∙ ap (λ ks. renumbered ks (root_values S)) n)) in
    let three : map (clause_tree e.trees) r.regions.items ≡ (response S r.certainty).regions =
    g.news_are ∙ (ap (map (renumbered_tree ns)) ((clauses-kept c d regions g.third g.are_regions).1 ∙ q) ∙ ap (λ ks. map (renumbered_tree ks) (constraints S)) n) in
    λ i. record { vars = one i; values = two i; regions = three i; certainty = r.certainty }

pub if-ok-then : {A E : Type 0} (r : Result A E) (P Q : A → Type 0) → ((a : A) → P a → Q a) → IfOk r P → IfOk r Q
if-ok-then (Ok a) P Q f p = f a p
if-ok-then (Err e) P Q f p = tt
