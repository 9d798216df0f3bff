-- Bounds of an object that are tried one after the other, and the only one that matches.
use Rattle.std.proofs.Common.{◌≡◌, ℕ, zero, suc, Bool, true, false, ◌&&◌, ◌+◌, ◌<◌, ◌≤◌, get_or, take, length, List, Option, Some, None, [], ◌∷◌, ◌++◌, map, refl, sym, ◌∙◌, ap, subst, arith}
use Rattle.std.specs.Prelude.{if◌then◌else◌}
use Rattle.std.specs.List.{filter}
use Rattle.std.proofs.lemmas.List.{map_push, map_more, take_all, length-map, append-nil}
use Rattle.std.proofs.lemmas.List.Elements.{filter-append}
use Rattle.ir_trees.specs.declared.ir.kinds.Clause.{Clause}
use Rattle.ir_trees.specs.Declarations.Context.{Context, Grows}
use Rattle.ir_trees.specs.Syntax.Nodes.{kind_at}
use Rattle.ir_trees.specs.Syntax.Trees.{ClauseKind, Forest, Tree}
use Rattle.ir_trees.specs.Syntax.Words.{IsClause, ClauseListFits, clause_tree}
use Rattle.ir_folds.proofs.Instantiation.Joining.{clause-kept}
use Rattle.ir_trees.proofs.Growth.Kept.{grows-refl, grows-trans}
use Rattle.ir_context.proofs.Hierarchy.Listing.{pushed_fits}
use Rattle.candidate_eval.specs.Judges.Lawful.{Lawful}
use Rattle.candidate_eval.specs.Dynamic.Objects.{IsExact, IsPicked, IsPickedAtOnce, Projection, Tried, bound_equated, bound_matches, fresh_instance, is_about, term_in}
use Rattle.candidate_eval.specs.Judges.States.{Env, State, Judge, is_some}
use Rattle.candidate_eval.proofs.Outcomes.Responding.{clauses-kept}

-- Bounds that were tried so far.
pub record TriedSoFar (J : Judge) (e : Env) (p : Projection) (start now : Context) (S T : State) (bounds : List Clause) (k : ℕ) (found : List Clause) : Type 0 where
  pub grows : Grows start now
  pub alike : J.alike S T
  pub fit : ClauseListFits now.trees found
  pub tried : Tried J e p S (map (clause_tree start.trees) (take k bounds)) (map (clause_tree now.trees) found) T

pub none-tried : (J : Judge) (e : Env) (p : Projection) (start : Context) (S : State) (bounds found : List Clause) → Lawful J → found ≡ [] → TriedSoFar J e p start start S S bounds 0 found
none-tried J e p start S bounds found l n = record {
  grows = grows-refl start;
  alike = l.alike_judged_alike.alike_same S;
  fit = subst (ClauseListFits start.trees) (sym n) refl;
  tried = subst (λ (xs : List Clause). Tried J e p S [] (map (clause_tree start.trees) xs) S) (sym n) Tried.none_yet;
}

listed-clause : (ts : List Tree) (xs : List Clause) (k : ℕ) (d : Clause) → ClauseListFits ts xs → k < length xs → IsClause ts (get_or xs k d)
listed-clause ts [] k d f l = absurd (omega (arith, l))
listed-clause ts (x ∷ xs) zero d f l = let here : kind_at ts x.0 ≡ ClauseKind = cc in here
listed-clause ts (x ∷ xs) (suc k) d f l = let rest : ClauseListFits ts xs = cc in listed-clause ts xs k d rest (omega (arith, l))

pub bound-listed : (start now : Context) (bounds : List Clause) (k : ℕ) (d : Clause) → Grows start now → ClauseListFits start.trees bounds → k < length bounds
    → IsClause now.trees (get_or bounds k d) × (clause_tree now.trees (get_or bounds k d) ≡ clause_tree start.trees (get_or bounds k d))
bound-listed start now bounds k d g f l = clause-kept start now (get_or bounds k d) g (listed-clause start.trees bounds k d f l)

-- what a probe says of the next bound, at the start's numbers
abbrev next_tree : Context → List Clause → ℕ → Clause → Tree
next_tree start bounds k d = clause_tree start.trees (get_or bounds k d)

pub one-passed : (J : Judge) (e : Env) (p : Projection) (start now new : Context) (S T U : State) (bounds : List Clause) (k : ℕ) (d : Clause) (found : List Clause) → Lawful J
    → TriedSoFar J e p start now S T bounds k found → k < length bounds → Grows now new → J.alike T U → bound_matches J e T (next_tree start bounds k d) p ≡ false
    → TriedSoFar J e p start new S U bounds (k + 1) found
one-passed J e p start now new S T U bounds k d found l s lt g a m =
    let c = clauses-kept now new found g s.fit in
    let t = Tried.passed T (next_tree start bounds k d) _ _ s.tried m a in
    record {
      grows = grows-trans start now new s.grows g;
      alike = l.alike_judged_alike.alike_along S T U s.alike a;
      fit = c.0;
      tried = subst (λ (xs : List Tree). Tried J e p S xs (map (clause_tree new.trees) found) U) (sym (map_more (clause_tree start.trees) bounds k d lt))
          (subst (λ (xs : List Tree). Tried J e p S (map (clause_tree start.trees) (take k bounds) ++ next_tree start bounds k d ∷ []) xs U) (sym c.1) t);
    }

one-more : (start new : Context) (bounds found : List Clause) (k : ℕ) (d : Clause) → Grows start new → ClauseListFits start.trees bounds → k < length bounds → ClauseListFits new.trees found
    → ClauseListFits new.trees (found ++ get_or bounds k d ∷ []) × (map (clause_tree new.trees) (found ++ get_or bounds k d ∷ []) ≡ map (clause_tree new.trees) found ++ next_tree start bounds k d ∷ [])
one-more start new bounds found k d g f lt h =
    let x = clause-kept start new (get_or bounds k d) g (listed-clause start.trees bounds k d f lt) in
    (pushed_fits new.trees found (found ++ get_or bounds k d ∷ []) (get_or bounds k d) h x.0 refl, map_push (clause_tree new.trees) found (get_or bounds k d) ∙ ap (λ (t : Tree). map (clause_tree new.trees) found ++ t ∷ []) x.1)

pub one-found : (J : Judge) (e : Env) (p : Projection) (start now new : Context) (S T U : State) (bounds : List Clause) (k : ℕ) (d : Clause) (found more : List Clause) → Lawful J
    → TriedSoFar J e p start now S T bounds k found → ClauseListFits start.trees bounds → k < length bounds → Grows now new → J.alike T U → bound_matches J e T (next_tree start bounds k d) p ≡ true
    → more ≡ found ++ get_or bounds k d ∷ [] → TriedSoFar J e p start new S U bounds (k + 1) more
one-found J e p start now new S T U bounds k d found more l s f lt g a m is =
    let c = clauses-kept now new found g s.fit in
    let grown = grows-trans start now new s.grows g in
    let o = one-more start new bounds found k d grown f lt c.0 in
    let t = Tried.found T (next_tree start bounds k d) _ _ s.tried m a in
    let x = next_tree start bounds k d in
    let all : map (clause_tree new.trees) more ≡ map (clause_tree now.trees) found ++ x ∷ [] = ap (map (clause_tree new.trees)) is ∙ (o.1 ∙ ap (λ (xs : List Tree). xs ++ x ∷ []) c.1) in
    record {
      grows = grown;
      alike = l.alike_judged_alike.alike_along S T U s.alike a;
      fit = subst (ClauseListFits new.trees) (sym is) o.0;
      tried = subst (λ (xs : List Tree). Tried J e p S xs (map (clause_tree new.trees) more) U) (sym (map_more (clause_tree start.trees) bounds k d lt))
          (subst (λ (xs : List Tree). Tried J e p S (map (clause_tree start.trees) (take k bounds) ++ x ∷ []) xs U) (sym all) t);
    }

pub all-tried : (J : Judge) (e : Env) (p : Projection) (start now : Context) (S T : State) (bounds : List Clause) (k : ℕ) (found : List Clause) → TriedSoFar J e p start now S T bounds k found → length bounds ≤ k
    → Tried J e p S (map (clause_tree start.trees) bounds) (map (clause_tree now.trees) found) T
all-tried J e p start now S T bounds k found s l = subst (λ (xs : List Clause). Tried J e p S (map (clause_tree start.trees) xs) (map (clause_tree now.trees) found) T) (take_all k bounds l) s.tried

module _ {F : Type 0} (judge : F → Judge) where
  -- what was said of a bound later on
  pub said-then : (f g : F) (T : State) (e d : Env) (c x : Tree) (p q : Projection) (b : Bool) → g ≡ f → d ≡ e → x ≡ c → q ≡ p → b ≡ bound_matches (judge g) d T x q → bound_matches (judge f) e T c p ≡ b
  said-then f g T e d c x p q b h i j k m =
      sym
      (m
      ∙ (ap (λ (y : F). bound_matches (judge y) d T x q) h
      ∙ (ap (λ (y : Env). bound_matches (judge f) y T x q) i
      ∙ (ap (λ (y : Tree). bound_matches (judge f) e T y q) j
      ∙ ap (bound_matches (judge f) e T c) k))))

  pub equated-then : (f g : F) (T : State) (e d : Env) (c x : Tree) (args b : Forest) → g ≡ f → d ≡ e → x ≡ c → b ≡ args → bound_equated (judge g) d T x b ≡ bound_equated (judge f) e T c args
  equated-then f g T e d c x args b h i k j =
      ap (λ (y : F). bound_equated (judge y) d T x b) h
      ∙ (ap (λ (y : Env). bound_equated (judge f) y T x b) i
      ∙ (ap (λ (y : Tree). bound_equated (judge f) e T y b) k
      ∙ ap (bound_equated (judge f) e T c) j))

pub refused-is : {A : Type 0} (o : Option A) → is_some o ≡ false → o ≡ None
refused-is None e = refl
refused-is (Some a) e = cc

-- What matches is about the associated type.

and-first : (a b : Bool) → a && b ≡ true → a ≡ true
and-first true b e = refl
and-first false b e = e

abbrev AllAbout : ℕ → List Tree → Type 0
AllAbout i [] = Unit {0}
AllAbout i (c ∷ cs) = (is_about i c.head ≡ true) × AllAbout i cs

pushed-about : (i : ℕ) (ds : List Tree) (d : Tree) → AllAbout i ds → is_about i d.head ≡ true → AllAbout i (ds ++ d ∷ [])
pushed-about i [] d a h = (h, tt)
pushed-about i (c ∷ cs) d a h = (a.0, pushed-about i cs d a.1 h)

tried-about : {J : Judge} {e : Env} {p : Projection} {S : State} {cs ds : List Tree} {T : State} → Tried J e p S cs ds T → AllAbout p.item ds
tried-about Tried.none_yet = tt
tried-about {p = p} (Tried.found T c cs ds t m a) = pushed-about p.item ds c (tried-about t) (and-first _ _ m)
tried-about (Tried.passed T c cs ds t m a) = tried-about t

-- The only one of a list.

one-item : (xs : List Clause) (x : Clause) → length xs ≡ 1 → x ≡ get_or xs 0 x → xs ≡ x ∷ []
one-item [] x l e = absurd (omega (arith, l))
one-item (y ∷ []) x l e = ap (λ (z : Clause). z ∷ []) (sym e)
one-item (y ∷ z ∷ zs) x l e = absurd (omega (arith, l))

pub only-fits : (ts : List Tree) (xs : List Clause) (x : Clause) → ClauseListFits ts xs → length xs ≡ 1 → x ≡ get_or xs 0 x → IsClause ts x
only-fits ts xs x f l i = subst (IsClause ts) (sym i) (listed-clause ts xs 0 x f (omega (arith, l)))

pub only-tried : (J : Judge) (e : Env) (p : Projection) (S T : State) (cs : List Tree) (ts : List Tree) (xs : List Clause) (x : Clause) → Tried J e p S cs (map (clause_tree ts) xs) T → length xs ≡ 1 → x ≡ get_or xs 0 x
    → Tried J e p S cs (clause_tree ts x ∷ []) T × (is_about p.item (clause_tree ts x).head ≡ true)
only-tried J e p S T cs ts xs x t l i =
    let only = subst (λ (ys : List Clause). Tried J e p S cs (map (clause_tree ts) ys) T) (one-item xs x l i) t in
    let about : AllAbout p.item (clause_tree ts x ∷ []) = tried-about only in
    (only, about.0)

pub not-one : (ts : List Tree) (xs : List Clause) (n : ℕ) → n ≡ length xs → (n ≡ 1 → ⊥) → length (map (clause_tree ts) xs) ≡ 1 → ⊥
not-one ts xs n e h o = h (e ∙ (sym (length-map xs (clause_tree ts)) ∙ o))

-- Where closed probes leave the very state before.

module _ (J : Judge) (e : Env) (p : Projection) (x : IsExact J) where
  one-kept : (S : State) (cs : List Tree) (c : Tree) → bound_matches J e S c p ≡ true → filter (λ d. bound_matches J e S d p) (cs ++ c ∷ []) ≡ filter (λ d. bound_matches J e S d p) cs ++ c ∷ []
  one-kept S cs c m = filter-append (λ d. bound_matches J e S d p) cs (c ∷ []) ∙ ap (λ (b : Bool). filter (λ d. bound_matches J e S d p) cs ++ (if b then c ∷ [] else [])) m

  one-left : (S : State) (cs : List Tree) (c : Tree) → bound_matches J e S c p ≡ false → filter (λ d. bound_matches J e S d p) (cs ++ c ∷ []) ≡ filter (λ d. bound_matches J e S d p) cs
  one-left S cs c m =
      filter-append (λ d. bound_matches J e S d p) cs (c ∷ [])
      ∙ (ap (λ (b : Bool). filter (λ d. bound_matches J e S d p) cs ++ (if b then c ∷ [] else [])) m ∙ append-nil (filter (λ d. bound_matches J e S d p) cs))

  pub tried-at-once : {S T : State} {cs ds : List Tree} → Tried J e p S cs ds T → (T ≡ S) × (ds ≡ filter (λ c. bound_matches J e S c p) cs)
  tried-at-once Tried.none_yet = (refl, refl)
  tried-at-once {S = S} (Tried.found T c cs ds {U} t m a) =
      let s = tried-at-once t in
      let here : bound_matches J e S c p ≡ true = sym (ap (λ (R : State). bound_matches J e R c p) s.0) ∙ m in
      (x T U a ∙ s.0, ap (λ (es : List Tree). es ++ c ∷ []) s.1 ∙ sym (one-kept S cs c here))
  tried-at-once {S = S} (Tried.passed T c cs ds {U} t m a) =
      let s = tried-at-once t in
      let here : bound_matches J e S c p ≡ false = sym (ap (λ (R : State). bound_matches J e R c p) s.0) ∙ m in
      (x T U a ∙ s.0, s.1 ∙ sym (one-left S cs c here))

  pub picked-at-once : {S T : State} {cs : List Tree} {t : Tree} → IsPicked J e p S cs t T → IsPickedAtOnce J e p S cs t T
  picked-at-once {S = S} {T = T} {t = t} r =
      let s = tried-at-once r.tried in
      let same = x r.last r.now r.alike ∙ s.0 in
      record {
        bound = r.bound;
        only = sym s.1;
        equated = sym (ap (λ (R : State). bound_equated J e R r.bound p.arguments) same) ∙ r.equated;
        is = r.is ∙ ap (λ (R : State). term_in (fresh_instance R r.bound)) same;
      }
