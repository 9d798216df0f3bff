-- Why responses aren't made.
use Rattle.std.proofs.Common.{◌≡◌, inl, inr, ℕ, zero, suc, ◌≤◌, ◌<◌, ◌+◌, Bool, true, false, List, [], ◌∷◌, length, map, slice_index_or, Option, Some, None, Result, Ok, Err, if◌then◌else◌, refl, sym, ◌∙◌, ap, subst, arith}
use Rattle.std.specs.Prelude.{◌==◌, ◌&&◌, IfErr, IsErrAnd}
use Rattle.std.specs.List.{Contains}
use Rattle.ir_trees.specs.declared.ir.heads.Head.{Head}
use Rattle.ir_trees.specs.declared.ir.kinds.Args.{Args}
use Rattle.ir_trees.specs.declared.ir.kinds.Clause.{Clause}
use Rattle.ir_trees.specs.declared.ir.kinds.GenericArg.{GenericArg}
use Rattle.ir_trees.specs.declared.ir.stop.Stop.{Stop}
use Rattle.ir_trees.specs.declared.ir.stop.Stop.TheVariants.{Memory, NodesFull}
use Rattle.ir_trees.specs.Declarations.Context.{Context, Grows}
use Rattle.ir_trees.specs.Instantiation.Folding.{IsSubstStop, no_memory, few_numbers, high_tree}
use Rattle.ir_trees.specs.Syntax.Nodes.{tree_at}
use Rattle.ir_trees.specs.Unification.Substitutions.{alone}
use Rattle.ir_trees.specs.Syntax.Trees.{Forest, none, tree, Tree, count, heights, skip, variable_number}
use Rattle.ir_trees.specs.Syntax.Words.{ClauseListFits, IsArgs, IsClause, IsMkStop, args_forest, clause_tree}
use Rattle.ir_folds.proofs.Traversal.FoldStops.{IsCause, SaidOfAnswer, subst-cause}
use Rattle.ir_trees.proofs.Growth.Kept.{args-kept}
use Rattle.ir_trees.proofs.Growth.Made.{IsClause-listed}
use Rattle.candidate_eval.specs.declared.eval.mode.TypingMode.{TypingMode}
use Rattle.candidate_eval.specs.declared.eval.variable.VariableKind.{VariableKind}
use Rattle.candidate_eval.specs.Judges.States.{State, resolved_tree, variable}
use Rattle.candidate_rounds.specs.Calls.Gathered.{renumbered_at}
use Rattle.candidate_rounds.specs.Evaluators.Inferences.{Inference, IsFullAt}
use Rattle.candidate_rounds.specs.Evaluators.Known.{Each, IsKnown, info_of, state_of}
use Rattle.candidate_rounds.specs.Evaluators.Stopping.{IsRenumberingStop, too_many_open, of_made, IsNewNumberStop, AreRenumberingStops, of_one, IsResponseStop, too_many_variables, of_roots, of_constraint, of_values, of_renumbered, IsTreeStop}
use Rattle.rounds_judge.specs.Table.TableSettling.{are_bare, is_bare}
use Rattle.rounds_judge.specs.Obligations.Responding.{constraints, open_numbers, place_of, renumbered, renumbered_tree, root_values, with_number, with_numbers, with_numbers_of}
use Rattle.candidate_rounds.proofs.Obligations.Anew.{variable-anew}
use Rattle.candidate_rounds.proofs.Obligations.Gathering.{each-index, state-later}
use Rattle.candidate_rounds.proofs.Snapshots.Knowing.{clause-stays}

-- A stop that is passed on has its cause.
pub passed-on : {A : Type 0} (P : Stop → Type 0) (r : Result A Stop) (s : Stop) → IsErrAnd r (λ e. e ≡ s) → P s → IfErr r P
passed-on P (Ok a) s e p = absurd e
passed-on P (Err x) s e p = subst P (sym e) p

-- the same where a growth was refused
pub passed-growth : {A : Type 0} (P : Stop → Type 0) (r : Result A Stop) (s : Stop) → IsErrAnd r (λ e. e ≡ s) → s ≡ Memory → P Memory → IfErr r P
passed-growth P r s e m p = passed-on P r s e (subst P (sym m) p)

-- where only a growth may be refused
pub refused-growth : {A : Type 0} (P : Stop → Type 0) (r : Result A Stop) → IfErr r (λ s. s ≡ Memory) → P Memory → IfErr r P
refused-growth P (Ok a) m p = tt
refused-growth P (Err s) m p = subst P (sym m) p

-- What is noted of the children of a node, that there are no fewer than were looked at, and that nothing stands below a variable of these.
pub record NotesBelow (from : List ℕ) (below : Forest) (place : ℕ) (ns : List ℕ) : Type 0 where
  pub noted : with_numbers ns (skip place below) ≡ with_numbers from below
  pub fewer : place ≤ count below
  pub bare : are_bare (skip place below) ≡ are_bare below

pub one-more-child : (place : ℕ) (ts : Forest) (h : Head) (below rest : Forest) → skip place ts ≡ tree h below rest → place + 1 ≤ count ts
one-more-child zero none h below rest e = absurd cc
one-more-child zero (tree g b r) h below rest e = omega arith
one-more-child (suc n) none h below rest e = absurd cc
one-more-child (suc n) (tree g b r) h below rest e = let k = one-more-child n r h below rest e in omega (arith, k)

pub one-more-noted-below : (ts : List Tree) (from ns ms new : List ℕ) (below : Forest) (place child : ℕ) → NotesBelow from below place ns
    → skip place below ≡ tree (tree_at ts child).head (tree_at ts child).children (skip (suc place) below) → ms ≡ with_number ns (variable_number (tree_at ts child).head)
    → new ≡ with_numbers ms (tree_at ts child).children → is_bare (tree_at ts child).head (tree_at ts child).children ≡ true → are_bare (tree_at ts child).children ≡ true
    → NotesBelow from below (place + 1) new
one-more-noted-below ts from ns ms new below place child a e m n one more = record {
  noted =
      (let next : place + 1 ≡ suc place = omega arith in
      let rest = skip (suc place) below in
      ap (λ k. with_numbers new (skip k below)) next
      ∙ (ap (λ xs. with_numbers xs rest) (n ∙ ap (λ xs. with_numbers xs (tree_at ts child).children) m)
      ∙ (ap (with_numbers ns) (sym e) ∙ a.noted)));
  fewer = one-more-child place below (tree_at ts child).head (tree_at ts child).children (skip (suc place) below) e;
  bare =
      (let next : place + 1 ≡ suc place = omega arith in
      let rest = are_bare (skip (suc place) below) in
      ap (λ k. are_bare (skip k below)) next ∙ (sym (ap are_bare e ∙ (ap (λ b. b && (are_bare (tree_at ts child).children && rest)) one ∙ ap (λ b. b && rest) more)) ∙ a.bare));
}

-- What is made of nothing isn't made for want of numbers alone.
pub full-stop : (given : ℕ) (made : Forest) (s : Stop) → IsFullAt given s → IsSubstStop given made s
full-stop given made s (inl e) = subst (IsSubstStop given made) (sym e) no_memory
full-stop given made s (inr (e, l)) = subst (IsSubstStop given made) (sym e) (few_numbers (omega (arith, l)))

-- Variables that are numbered anew.

place-within : (ns : List ℕ) (n : ℕ) → place_of ns n ≤ length ns
place-within [] n = omega arith
place-within (m ∷ ns) n = at (m == n) (place-within ns n)
  where
    at : (b : Bool) → place_of ns n ≤ length ns → (if b then 0 else suc (place_of ns n)) ≤ suc (length ns)
    at true l = omega arith
    at false l = omega (arith, l)

new-number-stop : (ns : List ℕ) (given : ℕ) (t : Tree) (k : VariableKind) (n : ℕ) (s : Stop) → t ≡ variable k n → ((made : Forest) → IsRenumberingStop (length ns) given made s)
    → IsNewNumberStop (length ns) given (renumbered_at ns t) s
new-number-stop ns given t k n s e f =
    subst (λ (o : Option Tree). IsNewNumberStop (length ns) given o s) (sym (ap (renumbered_at ns) e ∙ variable-anew ns k n)) (f (alone (variable k (place_of ns n))))

pub number-too-large : (ns : List ℕ) (given place : ℕ) (t : Tree) (k : VariableKind) (n : ℕ) → t ≡ variable k n → place ≡ place_of ns n → 4294967295 < place
    → IsNewNumberStop (length ns) given (renumbered_at ns t) NodesFull
number-too-large ns given place t k n e p l = let w = place-within ns n in new-number-stop ns given t k n NodesFull e (λ made. too_many_open (omega (arith, w, p, l)))

pub number-unmade : (ns : List ℕ) (given : ℕ) (t : Tree) (k : VariableKind) (n : ℕ) (s : Stop) → t ≡ variable k n → IsFullAt given s → IsNewNumberStop (length ns) given (renumbered_at ns t) s
number-unmade ns given t k n s e f = new-number-stop ns given t k n s e (λ made. of_made (full-stop given made s f))

-- What stops one of them stops a fold.

pub renumbering-cause : (many : ℕ) → IsCause (IsRenumberingStop many)
renumbering-cause many = record {
  of_memory = λ given made. of_made (subst-cause.of_memory given made);
  of_numbers = λ given made l. of_made (subst-cause.of_numbers given made l);
  of_height = λ given made l. of_made (subst-cause.of_height given made l);
  of_below = λ given h below rest x c. lift given below (tree h below rest) x (subst-cause.of_below given h below rest x) c;
  of_rest = λ given h below rest x c. lift given rest (tree h below rest) x (subst-cause.of_rest given h below rest x) c;
  of_first = λ given h below rest x c. lift given (tree h below none) (tree h below rest) x (subst-cause.of_first given h below rest x) c;
}
  where
    lift : (given : ℕ) (a b : Forest) (x : Stop) → (IsSubstStop given a x → IsSubstStop given b x) → IsRenumberingStop many given a x → IsRenumberingStop many given b x
    lift given a b x f (too_many_open l) = too_many_open l
    lift given a b x f (of_made c) = of_made (f c)

pub said-of-number : (many given : ℕ) (o : Option Tree) (r : Result (Option GenericArg) Stop) → IfErr r (λ s. IsNewNumberStop many given o s)
    → IfErr r (λ s. SaidOfAnswer (IsRenumberingStop many) given o s)
said-of-number many given o (Ok v) c = tt
said-of-number many given None (Err s) c = c
said-of-number many given (Some t) (Err s) c = c

-- One clause of several.

pub contains-mapped : {A B : Type 0} (f : A → B) (xs : List A) (i : ℕ) (d : A) → i < length xs → Contains (map f xs) (f (slice_index_or xs i d))
contains-mapped {A = A} f xs i d l = (i, within xs i l, at xs i l)
  where
    within : (xs : List A) (i : ℕ) → i < length xs → i < length (map f xs)
    within [] i l = absurd (omega (arith, l))
    within (x ∷ xs) zero l = omega arith
    within (x ∷ xs) (suc i) l = let k = within xs i (omega (arith, l)) in omega (arith, k)

    at : (xs : List A) (i : ℕ) → i < length xs → slice_index_or (map f xs) i (f (slice_index_or xs i d)) ≡ f (slice_index_or xs i d)
    at [] i l = absurd (omega (arith, l))
    at (x ∷ xs) zero l = refl
    at (x ∷ xs) (suc i) l = at xs i (omega (arith, l))

pub clause-unnumbered : (a b c : Context) (ns : List ℕ) (cs : List Clause) (i : ℕ) (d : Clause) (s : Stop) → i < length cs → ClauseListFits a.trees cs → Grows a b
    → IsRenumberingStop (length ns) (length c.trees) (alone (renumbered_tree ns (clause_tree b.trees (slice_index_or cs i d)))) s → AreRenumberingStops c.trees ns (map (clause_tree a.trees) cs) s
clause-unnumbered a b c ns cs i d s l f g k =
    let P : Tree → Type 0 = λ t. IsRenumberingStop (length ns) (length c.trees) (alone (renumbered_tree ns t)) s in
    of_one (clause_tree a.trees (slice_index_or cs i d)) (contains-mapped (clause_tree a.trees) cs i d l)
    (subst P (clause-stays a.trees b.trees (slice_index_or cs i d) g.kept (IsClause-listed a.trees cs i d l f)) k)

pub constraint-stop : (m : TypingMode) (s : Inference) (a b c : Context) (cs : List Clause) (i : ℕ) (d : Clause) (x : Stop) → IsKnown a.trees s → Grows a b → i < length cs → cs ≡ s.regions
    → IsTreeStop c.trees (resolved_tree (state_of b.trees m s) (clause_tree b.trees (slice_index_or cs i d))) x → IsResponseStop c.trees (state_of a.trees m s) x
constraint-stop m s a b c cs i d x k g l e q =
    let S = state_of a.trees m s in
    let t = clause_tree a.trees (slice_index_or cs i d) in
    let P : State → Type 0 = λ T. IsTreeStop c.trees (resolved_tree T (clause_tree b.trees (slice_index_or cs i d))) x in
    let Q : Tree → Type 0 = λ u. IsTreeStop c.trees (resolved_tree S u) x in
    let R : List Clause → Type 0 = λ rs. Contains (map (clause_tree a.trees) rs) t in
    let is : IsClause a.trees (slice_index_or cs i d) = each-index (IsClause a.trees) cs i d (subst (λ rs. Each (IsClause a.trees) rs) (sym e) k.regions) l in
    of_constraint t (subst R e (contains-mapped (clause_tree a.trees) cs i d l)) (subst Q (clause-stays a.trees b.trees (slice_index_or cs i d) g.kept is) (subst P (state-later m s a b k g) q))

-- The values of the roots.

pub length-mapped : {A B : Type 0} (f : A → B) (xs : List A) → length (map f xs) ≡ length xs
length-mapped f [] = refl
length-mapped f (x ∷ xs) = ap suc (length-mapped f xs)

pub many-variables : (ts us : List Tree) (m : TypingMode) (s : Inference) (x : Stop) → (x ≡ NodesFull) × (4294967295 ≤ length s.variables) → IsResponseStop ts (state_of us m s) x
many-variables ts us m s x (e, l) =
    let n = length-mapped (info_of us) s.variables in
    subst (IsResponseStop ts (state_of us m s)) (sym e) (too_many_variables (omega (arith, l, n)))

list-stop : (a b : Context) (f made : Forest) (s : Stop) → b ≡ a → f ≡ made → IsMkStop a.trees (heights f) s → IsSubstStop (length b.trees) made s
list-stop a b f made s e q (inl z) = subst (IsSubstStop (length b.trees) made) (sym z) no_memory
list-stop a b f made s e q (inr (z, inl few)) =
    let same = ap (λ (c : Context). length c.trees) e in
    subst (IsSubstStop (length b.trees) made) (sym z) (few_numbers (omega (arith, few, same)))
list-stop a b f made s e q (inr (z, inr tall)) = let same = ap heights q in subst (IsSubstStop (length b.trees) made) (sym z) (high_tree (omega (arith, tall, same)))

pub roots-stop : {A : Type 0} (a b : Context) (f : Forest) (S : State) (r : Result A Stop) → f ≡ root_values S → IfErr r (λ _. b ≡ a) → IfErr r (λ s. IsMkStop a.trees (heights f) s)
    → IfErr r (λ s. IsResponseStop b.trees S s)
roots-stop a b f S (Ok x) q e c = tt
roots-stop a b f S (Err s) q e c = of_roots (list-stop a b f (root_values S) s e q c)

-- The parts of a response.

pub state-stops : (ts : List Tree) (m : TypingMode) (s : Inference) (a b : Context) (x : Stop) → IsKnown a.trees s → Grows a b → IsResponseStop ts (state_of b.trees m s) x → IsResponseStop ts (state_of a.trees m s) x
state-stops ts m s a b x k g c = subst (λ S. IsResponseStop ts S x) (state-later m s a b k g) c

-- what was gathered before
pub gathered-before : (m : TypingMode) (s : Inference) (a b c : Context) (values : Args) (regions : List Clause) (ns : List ℕ) → IsKnown a.trees s → Grows a b → Grows b c → IsArgs b.trees values
    → args_forest b.trees values ≡ root_values (state_of a.trees m s) → map (clause_tree c.trees) regions ≡ constraints (state_of b.trees m s)
    → ns ≡ with_numbers_of (with_numbers [] (args_forest c.trees values)) (map (clause_tree c.trees) regions)
    → (args_forest c.trees values ≡ root_values (state_of a.trees m s)) × (map (clause_tree c.trees) regions ≡ constraints (state_of a.trees m s)) × (ns ≡ open_numbers (state_of a.trees m s))
gathered-before m s a b c values regions ns k g h i v q n =
    let S = state_of a.trees m s in
    let v' : args_forest c.trees values ≡ root_values S = (args-kept b c values h i).1 ∙ v in
    let q' : map (clause_tree c.trees) regions ≡ constraints S = q ∙ ap constraints (state-later m s a b k g) in
    (v', q', n ∙ (ap (λ ts. with_numbers_of (with_numbers [] ts) (map (clause_tree c.trees) regions)) v' ∙ ap (with_numbers_of (with_numbers [] (root_values S))) q'))

pub values-stop : (ts : List Tree) (S : State) (ns : List ℕ) (f : Forest) (s : Stop) → f ≡ root_values S → ns ≡ open_numbers S → IsRenumberingStop (length ns) (length ts) (renumbered ns f) s → IsResponseStop ts S s
values-stop ts S ns f s v n c =
    let P : Forest → Type 0 = λ x. IsRenumberingStop (length ns) (length ts) (renumbered ns x) s in
    let Q : List ℕ → Type 0 = λ xs. IsRenumberingStop (length xs) (length ts) (renumbered xs (root_values S)) s in
    of_values (subst Q n (subst P v c))

pub regions-stop : (ts : List Tree) (S : State) (ns : List ℕ) (cs : List Tree) (s : Stop) → cs ≡ constraints S → ns ≡ open_numbers S → AreRenumberingStops ts ns cs s → IsResponseStop ts S s
regions-stop ts S ns cs s q n c =
    let P : List Tree → Type 0 = λ xs. AreRenumberingStops ts ns xs s in
    let Q : List ℕ → Type 0 = λ xs. AreRenumberingStops ts xs (constraints S) s in
    of_renumbered (subst Q n (subst P q c))
