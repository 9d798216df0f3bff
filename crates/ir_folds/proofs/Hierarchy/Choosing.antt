-- The clauses of a list that say whether a trait holds.
use Rattle.std.proofs.Common.{◌≡◌, ℕ, ◌+◌, ◌<◌, ◌≤◌, List, [], ◌∷◌, ◌++◌, length, get_or, take, Bool, true, false, refl, sym, ◌∙◌, ap}
use Rattle.std.specs.Prelude.{map}
use Rattle.std.proofs.lemmas.List.{map_push, take_more, take_all}
use Rattle.ir_trees.specs.declared.ir.kinds.Clause.{Clause}
use Rattle.ir_trees.specs.Syntax.Trees.{Tree}
use Rattle.ir_trees.specs.Declarations.Context.{Context}
use Rattle.ir_trees.specs.Syntax.Words.{IsClause, ClauseListFits, clause_tree}
use Rattle.ir_trees.specs.Hierarchy.Elaboration.{is_trait_clause, supertraits, IsElaboration, AreSupertraits}
use Rattle.ir_context.proofs.Hierarchy.Listing.{pushed_fits}

pub record Chosen (ts : List Tree) (list : List Clause) (i : ℕ) (chosen : List Clause) : Type 0 where
  pub fit : ClauseListFits ts chosen
  pub trees : map (clause_tree ts) chosen ≡ supertraits (map (clause_tree ts) (take i list))

pub none_chosen : (ts : List Tree) (list : List Clause) → Chosen ts list 0 []
none_chosen ts list = record { fit = refl; trees = refl }

more-true : (us : List Tree) (t : Tree) → is_trait_clause t ≡ true → supertraits (us ++ t ∷ []) ≡ supertraits us ++ t ∷ []
more-true [] t e = rw e refl
more-true (u ∷ us) t e = of (is_trait_clause u) refl (more-true us t e)
  where
    of : (b : Bool) → is_trait_clause u ≡ b → supertraits (us ++ t ∷ []) ≡ supertraits us ++ t ∷ [] → supertraits (u ∷ (us ++ t ∷ [])) ≡ supertraits (u ∷ us) ++ t ∷ []
    of true q h = rw q (ap (λ (xs : List Tree). u ∷ xs) h)
    of false q h = rw q h

more-false : (us : List Tree) (t : Tree) → is_trait_clause t ≡ false → supertraits (us ++ t ∷ []) ≡ supertraits us
more-false [] t e = rw e refl
more-false (u ∷ us) t e = of (is_trait_clause u) refl (more-false us t e)
  where
    of : (b : Bool) → is_trait_clause u ≡ b → supertraits (us ++ t ∷ []) ≡ supertraits us → supertraits (u ∷ (us ++ t ∷ [])) ≡ supertraits (u ∷ us)
    of true q h = rw q (ap (λ (xs : List Tree). u ∷ xs) h)
    of false q h = rw q h

next : (ts : List Tree) (list : List Clause) (i : ℕ) (c : Clause) → i < length list → c ≡ get_or list i c
    → map (clause_tree ts) (take (i + 1) list) ≡ map (clause_tree ts) (take i list) ++ clause_tree ts c ∷ []
next ts list i c l e = ap (map (clause_tree ts)) (take_more list i c l ∙ ap (λ (x : Clause). take i list ++ x ∷ []) (sym e)) ∙ map_push (clause_tree ts) (take i list) c

pub one_chosen : (ts : List Tree) (list old new : List Clause) (i : ℕ) (c : Clause) → Chosen ts list i old → i < length list → c ≡ get_or list i c → IsClause ts c
    → is_trait_clause (clause_tree ts c) ≡ true → new ≡ old ++ c ∷ [] → Chosen ts list (i + 1) new
one_chosen ts list old new i c o l e k t p = record {
  fit = pushed_fits ts old new c o.fit k p;
  trees = ap (map (clause_tree ts)) p ∙ (map_push (clause_tree ts) old c ∙ (ap (λ (us : List Tree). us ++ clause_tree ts c ∷ []) o.trees
      ∙ sym (ap supertraits (next ts list i c l e) ∙ more-true (map (clause_tree ts) (take i list)) (clause_tree ts c) t)));
}

pub one_left : (ts : List Tree) (list old : List Clause) (i : ℕ) (c : Clause) → Chosen ts list i old → i < length list → c ≡ get_or list i c
    → is_trait_clause (clause_tree ts c) ≡ false → Chosen ts list (i + 1) old
one_left ts list old i c o l e t = record {
  fit = o.fit;
  trees = o.trees ∙ sym (ap supertraits (next ts list i c l e) ∙ more-false (map (clause_tree ts) (take i list)) (clause_tree ts c) t);
}

pub all_chosen : (ts : List Tree) (list chosen : List Clause) (i : ℕ) → Chosen ts list i chosen → length list ≤ i → map (clause_tree ts) chosen ≡ supertraits (map (clause_tree ts) list)
all_chosen ts list chosen i o l = o.trees ∙ ap (λ (xs : List Clause). supertraits (map (clause_tree ts) xs)) (take_all i list l)

pub alone_fits : (ts : List Tree) (c : Clause) → IsClause ts c → ClauseListFits ts (c ∷ [])
alone_fits ts c k = ap (λ x. x ∷ []) k

pub are_supertraits : (start : Context) (t : Tree) (all list : List Tree) → IsElaboration start (t ∷ []) all → list ≡ supertraits all → AreSupertraits start t list
are_supertraits start t all list e l = record { all = all; elaborated = e; are = l }
