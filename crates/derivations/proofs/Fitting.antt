-- The normal form of a type that fits what is declared fits, where each listed type does.
use Rattle.std.proofs.Common.{◌≡◌, Bool, true, false, Some, List, [], ◌∷◌, subst}
use Rattle.std.specs.Prelude.{if◌then◌else◌}
use Rattle.std.specs.List.{All}
use Rattle.std.proofs.lemmas.List.Elements.{All-head, All-tail}
use Rattle.ir_trees.specs.Declarations.Worlds.{World}
use Rattle.ir_trees.specs.Hierarchy.Elaboration.{same_tree}
use Rattle.ir_trees.specs.Syntax.Trees.{Tree}
use Rattle.candidate_eval.specs.Judges.States.{Env, State, resolved_tree}
use Rattle.candidate_assembly.specs.Laws.SuperLaws.{IsFitting}
use Rattle.rounds_judge.specs.Aliases.Listed.{Listing, listed, listed_in}
use Rattle.rounds_judge.specs.Aliases.Normalizing.{normalized, type_or_itself}
use Rattle.rounds_judge.proofs.Lawfulness.JudgeLaws.{WhichType, is_type, itself, same_normal_form, which_type}

-- Each listed type fits.
abbrev pub ListedFit : World → Listing → Type 0
ListedFit w l = All (λ (p : Tree × Tree). IsFitting w p.1) l.pairs

module _ (w : World) where
  fits_among : (ps : List (Tree × Tree)) → All (λ (p : Tree × Tree). IsFitting w p.1) ps → (t u : Tree) → listed_in ps t ≡ Some u → IsFitting w u
  fits_among [] h t u e = absurd cc
  fits_among (p ∷ ps) h t u e = at (same_tree p.0 t) e (λ q. fits_among ps (All-tail (λ (p : Tree × Tree). IsFitting w p.1) p ps h) t u q)
    where
      at : (b : Bool) → (if b then Some p.1 else listed_in ps t) ≡ Some u → (listed_in ps t ≡ Some u → IsFitting w u) → IsFitting w u
      at true q others = let is : p.1 ≡ u = cc in subst (IsFitting w) is (All-head (λ (p : Tree × Tree). IsFitting w p.1) p ps h)
      at false q others = others q

  listed_fits : (l : Listing) → ListedFit w l → (t u : Tree) → listed l t ≡ Some u → IsFitting w u
  listed_fits l h t u e = fits_among l.pairs h t u e

  pub normal_fits : (l : Listing) → ListedFit w l → (S : State) (e : Env) (t u : Tree) → IsFitting w (resolved_tree S t) → normalized l S e t ≡ Some (u, S) → IsFitting w u
  normal_fits l h S e t u fits is = subst (IsFitting w) (same_normal_form l S e t u is) (at (type_or_itself l (resolved_tree S t)) (which_type l (resolved_tree S t)))
    where
      at : (v : Tree) → WhichType l (resolved_tree S t) v → IsFitting w v
      at _ (is_type v q) = listed_fits l h (resolved_tree S t) v q
      at _ itself = fits
