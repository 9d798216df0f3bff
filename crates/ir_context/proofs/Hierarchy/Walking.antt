-- A list of clauses that is walked while it grows.
use Rattle.std.proofs.Common.{◌≡◌, ℕ, zero, suc, ◌+◌, ◌<◌, ◌≤◌, List, [], ◌∷◌, ◌++◌, length, get_or, take, drop, true, ◌⊎◌, inl, inr, refl, sym, ◌∙◌, ap, subst, arith}
use Rattle.std.specs.Prelude.{map, Option, Some, None}
use Rattle.std.proofs.lemmas.List.{take_all, take-append-drop, length-map}
use Rattle.ir_trees.specs.declared.ir.kinds.Clause.{Clause}
use Rattle.ir_trees.specs.Syntax.Trees.{Tree}
use Rattle.ir_trees.specs.Declarations.Context.{Context, Grows}
use Rattle.ir_trees.specs.Declarations.Contents.{TraitContents}
use Rattle.ir_trees.specs.Declarations.Declaring.{no_place, trait_at}
use Rattle.ir_trees.specs.declared.decl.held.Owner.TheVariants as O
use Rattle.ir_trees.specs.Hierarchy.Supers.{supers_at}
use Rattle.ir_trees.specs.Hierarchy.Supertraits.{head_trait}
use Rattle.ir_trees.specs.Validity.WellFormed.{IsWellFormedTable, AreGiven}
use Rattle.ir_trees.specs.Validity.Held.{trait_held, if_there}
use Rattle.ir_trees.specs.Syntax.Words.{ClauseListFits, clause_tree}
use Rattle.ir_trees.specs.Hierarchy.Elaboration.{SuperClauses, Elaborates, ended, step, IsElaboration, super_clauses, implied, implied_by, supers_if, unlisted, lists, AreListed, IsImplied, given, by, AreImplied, IsUnmade, IsElaborationStop, no_memory, unmade}
use Rattle.ir_trees.specs.declared.ir.stop.Stop.{Stop}
use Rattle.ir_trees.specs.declared.ir.stop.Stop.TheVariants.{Memory}
use Rattle.ir_context.proofs.Hierarchy.ElaborationLaws.{implied-listed, each-listed, implied-both, implied-unlisted}
use Rattle.ir_trees.proofs.Growth.Kept.{grows-trans}
use Rattle.ir_context.proofs.Validity.Given.{trait_given, supers_fit}
use Rattle.ir_context.proofs.Hierarchy.Listing.{clauses_kept}

-- All super clauses are of the context.
abbrev pub SupersFit : Context → Type 0
SupersFit c = (i : ℕ) → ClauseListFits c.trees (supers_at (trait_at c i))

pub all_supers_fit : (c : Context) → IsWellFormedTable c → length c.contents.traits ≤ no_place → SupersFit c
all_supers_fit c t l i = of (trait_at c i) (trait_given c t l i)
  where
    of : (o : Option TraitContents) → AreGiven c (if_there (trait_held (O.Definition i)) o) → ClauseListFits c.trees (supers_at o)
    of None g = refl
    of (Some a) g = supers_fit c (O.Definition i) a g

-- so what a clause implies stays while nodes are made
supers-stay : (start now : Context) (i : ℕ) → SupersFit start → Grows start now → super_clauses now i ≡ super_clauses start i
supers-stay start now i f g =
    ap (λ (c : Context). map (clause_tree now.trees) (supers_at (trait_at c i))) g.same ∙ (clauses_kept start.trees now.trees (supers_at (trait_at start i)) g.kept (f i)).1

implied-stays : (start now : Context) (t : Tree) → SupersFit start → Grows start now → implied_by (super_clauses now) t ≡ implied_by (super_clauses start) t
implied-stays start now t f g = ap (map (implied t)) (of (head_trait t.head))
  where
    of : (o : Option ℕ) → supers_if (super_clauses now) o ≡ supers_if (super_clauses start) o
    of None = refl
    of (Some i) = supers-stay start now i f g

-- a list around one of its places
taken : (ts more : List Tree) (k : ℕ) (t : Tree) → k < length ts → t ≡ get_or ts k t → take (suc k) (ts ++ more) ≡ take k ts ++ t ∷ []
taken [] more k t l e = absurd (omega (arith, l))
taken (u ∷ ts) more zero t l e = ap (λ (x : Tree). x ∷ []) (sym e)
taken (u ∷ ts) more (suc k) t l e = let m : k < length ts = omega (arith, l) in ap (λ (us : List Tree). u ∷ us) (taken ts more k t m e)

dropped : (ts : List Tree) (k : ℕ) (t : Tree) → k < length ts → t ≡ get_or ts k t → drop k ts ≡ t ∷ drop (suc k) ts
dropped [] k t l e = absurd (omega (arith, l))
dropped (u ∷ ts) zero t l e = ap (λ (x : Tree). x ∷ ts) (sym e)
dropped (u ∷ ts) (suc k) t l e = let m : k < length ts = omega (arith, l) in dropped ts k t m e

dropped-more : (ts more : List Tree) (k : ℕ) → k < length ts → drop (suc k) (ts ++ more) ≡ drop (suc k) ts ++ more
dropped-more [] more k l = absurd (omega (arith, l))
dropped-more (u ∷ ts) more zero l = refl
dropped-more (u ∷ ts) more (suc k) l = let m : k < length ts = omega (arith, l) in dropped-more ts more k m

drop-none : (ts : List Tree) (k : ℕ) → length ts ≤ k → drop k ts ≡ []
drop-none [] zero l = refl
drop-none [] (suc k) l = refl
drop-none (t ∷ ts) zero l = absurd (omega (arith, l))
drop-none (t ∷ ts) (suc k) l = let m : length ts ≤ k = omega (arith, l) in drop-none ts k m

-- one clause more was walked
one-more : (supers : SuperClauses) (ts : List Tree) (k : ℕ) (t : Tree) (all : List Tree) → k < length ts → t ≡ get_or ts k t
    → Elaborates supers (take (suc k) (ts ++ unlisted ts (implied_by supers t))) (drop (suc k) (ts ++ unlisted ts (implied_by supers t))) all
    → Elaborates supers (take k ts) (drop k ts) all
one-more supers ts k t all l e x =
    let more = unlisted ts (implied_by supers t) in
    let left = drop (suc k) ts in
    let whole : take k ts ++ t ∷ left ≡ ts = ap (λ (us : List Tree). take k ts ++ us) (sym (dropped ts k t l e)) ∙ take-append-drop k ts in
    let y : Elaborates supers (take k ts ++ t ∷ []) (left ++ more) all =
    subst (λ (us : List Tree). Elaborates supers us (left ++ more) all) (taken ts more k t l e)
    (subst (λ (us : List Tree). Elaborates supers (take (suc k) (ts ++ more)) us all) (dropped-more ts more k l) x) in
    let z : Elaborates supers (take k ts ++ t ∷ []) (left ++ unlisted (take k ts ++ t ∷ left) (implied_by supers t)) all =
    subst (λ (us : List Tree). Elaborates supers (take k ts ++ t ∷ []) (left ++ unlisted us (implied_by supers t)) all) (sym whole) y in
    subst (λ (us : List Tree). Elaborates supers (take k ts) us all) (sym (dropped ts k t l e)) (step z)

-- What is left of the walk makes the list of the clauses that it began with.
pub record WalkSoFar (start now : Context) (clauses list : List Clause) (k : ℕ) : Type 0 where
  pub grows : Grows start now
  pub fit : ClauseListFits now.trees list
  pub implied : AreImplied (super_clauses start) (map (clause_tree start.trees) clauses) (map (clause_tree now.trees) list)
  pub goes_on : (all : List Tree) → Elaborates (super_clauses start) (take k (map (clause_tree now.trees) list)) (drop k (map (clause_tree now.trees) list)) all
      → IsElaboration start (map (clause_tree start.trees) clauses) all

-- the clauses are implied by themselves
start-implied : (supers : SuperClauses) (start us : List Tree) → AreListed start us → AreImplied supers start us
start-implied supers start [] l = tt
start-implied supers start (u ∷ us) l = (given l.0, start-implied supers start us l.1)

once-implied : (supers : SuperClauses) (start : List Tree) → AreImplied supers start (unlisted [] start)
once-implied supers start = implied-unlisted supers start [] start (start-implied supers start start (each-listed [] start))

implied-at : (supers : SuperClauses) (start ts : List Tree) (k : ℕ) (u : Tree) → AreImplied supers start ts → k < length ts → u ≡ get_or ts k u → IsImplied supers start u
implied-at supers start [] k u a l e = absurd (omega (arith, l))
implied-at supers start (t ∷ ts) zero u a l e = subst (IsImplied supers start) (sym e) a.0
implied-at supers start (t ∷ ts) (suc k) u a l e = let m : k < length ts = omega (arith, l) in implied-at supers start ts k u a.1 m e

pub walk_begins : (start : Context) (clauses list : List Clause) → Grows start start → ClauseListFits start.trees list
    → map (clause_tree start.trees) list ≡ unlisted [] (map (clause_tree start.trees) clauses) → WalkSoFar start start clauses list 0
walk_begins start clauses list g f e = record {
  grows = g;
  fit = f;
  implied =
      subst (AreImplied (super_clauses start) (map (clause_tree start.trees) clauses)) (sym e) (once-implied (super_clauses start) (map (clause_tree start.trees) clauses));
  goes_on = λ all x. subst (λ (us : List Tree). Elaborates (super_clauses start) [] us all) e x;
}

tree-at : (ts : List Tree) (xs : List Clause) (k : ℕ) (x : Clause) → k < length xs → x ≡ get_or xs k x → clause_tree ts x ≡ get_or (map (clause_tree ts) xs) k (clause_tree ts x)
tree-at ts [] k x l e = absurd (omega (arith, l))
tree-at ts (y ∷ ys) zero x l e = ap (clause_tree ts) e
tree-at ts (y ∷ ys) (suc k) x l e = let m : k < length ys = omega (arith, l) in tree-at ts ys k x m e

pub walk_goes_on : (start now new : Context) (clauses old list : List Clause) (k : ℕ) (x : Clause) → SupersFit start → WalkSoFar start now clauses old k → k < length old → x ≡ get_or old k x
    → Grows now new → ClauseListFits new.trees list
    → map (clause_tree new.trees) list ≡ map (clause_tree now.trees) old ++ unlisted (map (clause_tree now.trees) old) (implied_by (super_clauses now) (clause_tree now.trees x))
    → WalkSoFar start new clauses list (k + 1)
walk_goes_on start now new clauses old list k x s w l e g f t =
    let ts = map (clause_tree now.trees) old in
    let u = clause_tree now.trees x in
    let count = length-map old (clause_tree now.trees) in
    let inside : k < length ts = omega (arith, l, count) in
    let same : map (clause_tree new.trees) list ≡ ts ++ unlisted ts (implied_by (super_clauses start) u) = t ∙ ap (λ (us : List Tree). ts ++ unlisted ts us) (implied-stays start now u s w.grows) in
    let next : k + 1 ≡ suc k = omega arith in
    let first = map (clause_tree start.trees) clauses in
    let here = implied-at (super_clauses start) first ts k u w.implied inside (tree-at now.trees old k x l e) in
    record {
      grows = grows-trans start now new w.grows g;
      fit = f;
      implied =
          subst (AreImplied (super_clauses start) first) (sym same)
          (implied-both (super_clauses start) first ts (unlisted ts (implied_by (super_clauses start) u)) w.implied
          (implied-unlisted (super_clauses start) first ts (implied_by (super_clauses start) u)
          (implied-listed (super_clauses start) first u here (implied_by (super_clauses start) u) (each-listed [] (implied_by (super_clauses start) u)))));
      goes_on = λ all z.
          w.goes_on all
          (one-more (super_clauses start) ts k u all inside (tree-at now.trees old k x l e)
          (subst (λ (us : List Tree). Elaborates (super_clauses start) (take (suc k) us) (drop (suc k) us) all) same
          (subst (λ (m : ℕ). Elaborates (super_clauses start) (take m (map (clause_tree new.trees) list)) (drop m (map (clause_tree new.trees) list)) all) next z)));
    }

-- nothing is left
pub walk_ends : (start now : Context) (clauses list : List Clause) (k : ℕ) → WalkSoFar start now clauses list k → length list ≤ k
    → IsElaboration start (map (clause_tree start.trees) clauses) (map (clause_tree now.trees) list)
walk_ends start now clauses list k w l =
    let ts = map (clause_tree now.trees) list in
    let count = length-map list (clause_tree now.trees) in
    let past : length ts ≤ k = omega (arith, l, count) in
    w.goes_on ts
    (subst (λ (us : List Tree). Elaborates (super_clauses start) us (drop k ts) ts) (sym (take_all k ts past))
    (subst (λ (us : List Tree). Elaborates (super_clauses start) ts us ts) (sym (drop-none ts k past)) ended))

-- why it ends early
pub walk_stops : (start now : Context) (clauses list : List Clause) (k given : ℕ) (x : Clause) (s : Stop) → SupersFit start → WalkSoFar start now clauses list k → k < length list
    → x ≡ get_or list k x → (s ≡ Memory) ⊎ IsUnmade given (implied_by (super_clauses now) (clause_tree now.trees x)) s
    → IsElaborationStop (super_clauses start) (map (clause_tree start.trees) clauses) given s
walk_stops start now clauses list k n x s f w l e (inl m) = subst (IsElaborationStop (super_clauses start) (map (clause_tree start.trees) clauses) n) (sym m) no_memory
walk_stops start now clauses list k n x s f w l e (inr m) =
    let ts = map (clause_tree now.trees) list in
    let u = clause_tree now.trees x in
    let first = map (clause_tree start.trees) clauses in
    let count = length-map list (clause_tree now.trees) in
    let inside : k < length ts = omega (arith, l, count) in
    let here = implied-at (super_clauses start) first ts k u w.implied inside (tree-at now.trees list k x l e) in
    unmade (by here (subst (λ (us : List Tree). lists us m.tree ≡ true) (implied-stays start now u f w.grows) m.listed)) m.stop

pub begins_without_memory : (supers : SuperClauses) (start : List Tree) (n : ℕ) (s : Stop) → s ≡ Memory → IsElaborationStop supers start n s
begins_without_memory supers start n s m = subst (IsElaborationStop supers start n) (sym m) no_memory
