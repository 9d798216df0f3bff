-- A goal without errors of regions has none with its self type in normal form, where the listed types have none.
use Rattle.std.proofs.Common.{◌≡◌, Bool, true, false, Some, List, [], ◌∷◌, if◌then◌else◌, refl, ap, subst}
use Rattle.std.specs.List.{All}
use Rattle.std.proofs.lemmas.List.Elements.{All-head, All-tail}
use Rattle.ir_trees.specs.Hierarchy.Elaboration.{same_tree}
use Rattle.ir_trees.specs.Hierarchy.Supers.{after_first}
use Rattle.ir_trees.specs.declared.ir.heads.Flag.TheVariants as F
use Rattle.ir_trees.specs.Syntax.Flags.{mark}
use Rattle.ir_trees.specs.Syntax.Trees.{Forest, none, tree, Tree, holds}
use Rattle.ir_trees.specs.Unification.Substitutions.{alone}
use Rattle.candidate_eval.specs.Dynamic.ObjectRequirements.{first_tree}
use Rattle.candidate_eval.specs.Judges.Soundness.{AreLeaves}
use Rattle.candidate_eval.proofs.Marks.Holds.{holds_parts}
use Rattle.candidate_assembly.specs.Goals.TraitGoals.{with_first}
use Rattle.rounds_judge.specs.Aliases.Listed.{Listing, listed_in}
use Rattle.rounds_judge.specs.Aliases.Normalizing.{type_or_itself}
use Rattle.rounds_judge.proofs.Lawfulness.JudgeLaws.{WhichType, is_type, itself, which_type}
use Rattle.derivations.specs.Clean.{IsClean, is_error_region}
use Rattle.derivations.specs.DerivedTables.{ListedAreClean}

pub clean_self : (ts : Forest) → IsClean ts → IsClean (alone (first_tree ts))
clean_self none x = (refl, (λ e. refl), tt, tt)
clean_self (tree h below rest) x = (x.0, x.1, x.2, tt)

clean_rest : (ts : Forest) → IsClean ts → IsClean (after_first ts)
clean_rest none x = tt
clean_rest (tree h below rest) x = x.3

pub clean_first : (t : Tree) (ts : Forest) → IsClean (alone t) → IsClean ts → IsClean (with_first t ts)
clean_first t ts x y = (x.0, x.1, x.2, clean_rest ts y)

clean_listed : (ps : List (Tree × Tree)) → All (λ (p : Tree × Tree). IsClean (alone p.1)) ps → (t u : Tree) → listed_in ps t ≡ Some u → IsClean (alone u)
clean_listed [] all t u e = cc
clean_listed (p ∷ ps) all t u e =
    at (same_tree p.0 t) e (All-head (λ (p : Tree × Tree). IsClean (alone p.1)) p ps all) (λ e. clean_listed ps (All-tail (λ (p : Tree × Tree). IsClean (alone p.1)) p ps all) t u e)
  where
    at : (b : Bool) → (if b then Some p.1 else listed_in ps t) ≡ Some u → IsClean (alone p.1) → (listed_in ps t ≡ Some u → IsClean (alone u)) → IsClean (alone u)
    at true e x more = let is : p.1 ≡ u = cc in subst (λ t. IsClean (alone t)) is x
    at false e x more = more e

pub clean_normal : (l : Listing) → ListedAreClean l → (t : Tree) → IsClean (alone t) → IsClean (alone (type_or_itself l t))
clean_normal l listed t x = at (type_or_itself l t) (which_type l t)
  where
    at : (u : Tree) → WhichType l t u → IsClean (alone u)
    at _ (is_type u f) = clean_listed l.pairs listed t u f
    at _ itself = x

-- Where variables and regions are leaves nothing stands below them.
pub clean_without_errors : (ts : Forest) → AreLeaves ts → holds is_error_region ts ≡ false → IsClean ts
clean_without_errors none x e = tt
clean_without_errors (tree h below rest) x e =
    let p = holds_parts is_error_region h below rest e in
    (p.here, (λ is. ap (holds (mark F.Error)) (x.0 is)), clean_without_errors below x.1 p.under, clean_without_errors rest x.2 p.others)
