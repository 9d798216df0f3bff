-- The laws on normal forms: an open alias is a fresh variable, and what is no alias is itself.
use Rattle.std.proofs.Common.{◌≡◌, ℕ, Bool, true, false, ◌&&◌, inl, inr, List, length, Some, refl, sym, ap, subst, ◌∙◌, if◌then◌else◌}
use Rattle.ir_trees.specs.declared.decl.limits.Limits.{Limits}
use Rattle.ir_trees.specs.declared.ir.heads.VariableSort.TheVariants.{General}
use Rattle.ir_trees.specs.Declarations.Worlds.{World}
use Rattle.ir_trees.specs.Syntax.Trees.{Tree, is_alias, is_type}
use Rattle.ir_trees.specs.Unification.Substitutions.{alone}
use Rattle.candidate_eval.specs.declared.eval.variable.VariableKind.TheVariants.{Term}
use Rattle.candidate_eval.specs.Judges.Lawful.{IsNormalForm, NormalFormLaws}
use Rattle.candidate_eval.specs.Judges.Soundness.{Live, IsSound, ValuesFit, AreTreesOf}
use Rattle.candidate_eval.specs.Judges.States.{Env, State, variable, with_fresh}
use Rattle.rounds_judge.specs.Aliases.Listed.{Listing}
use Rattle.rounds_judge.specs.Aliases.Normalizing.{normal_form, normalized, open_form}
use Rattle.rounds_judge.specs.Equations.Opening.{are_open}
use Rattle.rounds_judge.specs.Equations.Standing.{IsListing}
use Rattle.rounds_judge.specs.Table.GoalTable.{GoalTable}
use Rattle.rounds_judge.specs.Table.TableJudge.{table_judge}
use Rattle.rounds_judge.proofs.Lawfulness.JudgeLaws.{is_normal, normal_as_it_is, rigid_stays}
use Rattle.rounds_judge.proofs.States.Later.{fits_later}
use Rattle.rounds_judge.proofs.Table.FreshRows.{fresh_free, fresh_known, lead_fresh, variable_free}
use Rattle.rounds_judge.proofs.Table.TableSettled.{counts_as, fewer_later, fits_with_new, new_count, sound_with_new, still_counts, with_new}

-- a fresh variable, at the state with it
pub open_is_normal : (S : State) (L : Live) (e : Env) (t : Tree) → IsSound S L → ValuesFit S L → IsNormalForm S (with_fresh S (Term General)) L e t (variable (Term General) (length S.variables))
open_is_normal S L e t sound fits =
    let M : Live = with_new S L in
    let lead = lead_fresh S M (Term General) (sound_with_new S L sound) in
    record {
      follows = record { live = M; within = λ n h c. still_counts S L n c; sound = lead.sound; fits = fits_later lead.later (fits_with_new S L fits); later = fewer_later S L (with_fresh S (Term General)) lead.later };
      tree = fresh_known S M (Term General) (new_count S L);
      no_parameter = λ free f p. (fresh_free S M (Term General) (λ n i t c e v. free n i t (counts_as S L n i e c) e v), variable_free (Term General) (length S.variables));
    }

-- what is no alias isn't opened
rigid_form : (l : Listing) (S : State) (t : Tree) → is_alias t.head ≡ false → normal_form l S t ≡ (t, S)
rigid_form l S t a = at (are_open l S) (is_alias t.head) a
  where
    at : (o b : Bool) → b ≡ false → (if o && (b && is_type t.head) then open_form S else (t, S)) ≡ (t, S)
    at true true e = cc
    at false true e = cc
    at true false e = refl
    at false false e = refl

module _ {W : Type 0} (w : World) (local : ℕ) (limits : Limits) (l : Listing) (os : List Tree) (K : GoalTable W) where
  keeps_pending : (S T : State) (e : Env) (t u : Tree) → normalized l S e t ≡ Some (u, T) → T.pending ≡ S.pending
  keeps_pending S T e t u h = elim (is_normal l S T e t u h) [ inl a ↦ ap (λ (R : State). R.pending) (sym a.state) | inr f ↦ ap (λ (R : State). R.pending) (sym f.state) ]

  follows : IsListing l → (S T : State) (L : Live) (e : Env) (t u : Tree) → IsSound S L → ValuesFit S L → AreTreesOf S L (alone t) → normalized l S e t ≡ Some (u, T) → IsNormalForm S T L e t u
  follows listing S T L e t u sound fits a h = elim (is_normal l S T e t u h) [
    | inl n ↦ subst (λ T. IsNormalForm S T L e t u) n.state (subst (IsNormalForm S S L e t) n.tree (normal_as_it_is l listing S L e t sound fits a))
    | inr n ↦ subst (λ T. IsNormalForm S T L e t u) n.state (subst (IsNormalForm S (with_fresh S (Term General)) L e t) n.tree (open_is_normal S L e t sound fits))
  ]

  pub normal_form_laws : IsListing l → NormalFormLaws (table_judge w local limits l os K)
  normal_form_laws listing = record {
    rigid_is_normal = λ S e t r k a. ap (λ u. Some (normal_form l S u)) (rigid_stays l S t r a) ∙ ap Some (rigid_form l S t a);
    normalizing_keeps_pending = keeps_pending;
    normalizing_follows = λ S T L e t u sound fits env a h. follows listing S T L e t u sound fits a h;
  }
