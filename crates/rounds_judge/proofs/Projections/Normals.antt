-- What the tables say that a projection is, is equal to it at every state that follows.
use Rattle.std.proofs.Common.{◌≡◌, Some, inl, inr, refl, ap, subst, ◌∙◌}
use Rattle.ir_trees.specs.declared.ir.heads.Head.TheVariants as H
use Rattle.ir_trees.specs.declared.ir.kinds.AliasKind.TheVariants as A
use Rattle.ir_trees.specs.declared.ir.kinds.AssocId.{AssocId}
use Rattle.ir_trees.specs.Syntax.Trees.{Forest, none, tree, Tree, join}
use Rattle.ir_trees.specs.Unification.Substitutions.{alone}
use Rattle.candidate_eval.specs.Judges.Instances.{Instance, instance}
use Rattle.candidate_eval.specs.Judges.Soundness.{AreTreesOf, IsLater, IsSound, Live, ValuesFit, Within, is_strange, universes}
use Rattle.candidate_eval.specs.Judges.States.{Env, State, resolved, resolved_tree, valued}
use Rattle.candidate_eval.proofs.Marks.Holds.{holds_imply}
use Rattle.rounds_judge.specs.Aliases.Congruence.{AreListed, Same, SameBy, along, back, pair, same}
use Rattle.rounds_judge.specs.Aliases.Listed.{Listing}
use Rattle.rounds_judge.specs.Equations.Standing.{IsListing}
use Rattle.rounds_judge.specs.Obligations.Settling.{alias_of, arguments_of, term_of}
use Rattle.rounds_judge.specs.Projections.ProjectionGoals.{ProjectionTables, new_term, term_asked, with_term}
use Rattle.rounds_judge.specs.Projections.ProjectionGranted.{AreOne}
use Rattle.rounds_judge.specs.Projections.ProjectionNormalizing.{term_given}
use Rattle.rounds_judge.proofs.Aliases.Congruent.{is_stray, resolved_stray, strange_stray}
use Rattle.rounds_judge.proofs.Projections.Carrying.{one_onward, onward}
use Rattle.rounds_judge.proofs.Projections.Dropping.{arguments_before, last_behind, resolved_row}
use Rattle.rounds_judge.proofs.Projections.Equality.{carried, moved, wider}
use Rattle.rounds_judge.proofs.Projections.Normalizing as given
use Rattle.rounds_judge.proofs.Projections.Normalizing.{IsGiven}
use Rattle.rounds_judge.proofs.Projections.Staying.{known_onward}
use Rattle.rounds_judge.proofs.States.Later.{fits_later, later_itself, trees_later}
use Rattle.rounds_judge.proofs.States.Marks.{escape_whole, whole}
use Rattle.rounds_judge.proofs.Table.TableSettled.{ReadsWell, trees_with_new, with_new}
use Rattle.rounds_judge.proofs.Table.TableYes.{given_granted}

module _ {W : Type 0} (Q : ProjectionTables W) (reads_terms : (i : AssocId) → ReadsWell (Q i)) (l : Listing) (listing : IsListing l) (S T : State) (L : Live) (e : Env) (i : AssocId) (args : Forest) (sound : IsSound S L)
    (fits : ValuesFit S L) (env : AreTreesOf S L e) (a : AreTreesOf S L args) (h : term_given (Q i) l S e i args ≡ Some T) where
  abbrev M : Live
  M = with_new S L

  abbrev alias : Forest → Forest
  alias xs = tree (H.Alias A.Projection (record { 0 = i.0 })) xs none

  sound_there : IsSound T M
  sound_there = (given.whole_lead (Q i) (reads_terms i) l listing S T L e i args sound fits env a h).sound

  fits_there : ValuesFit T M
  fits_there = given.fits_last (Q i) (reads_terms i) l listing S T L e i args sound fits env a h

  -- trees of the first state
  there : (ts : Forest) → AreTreesOf S L ts → AreTreesOf T M ts
  there ts k = trees_later S T M M (λ n l c. c) (given.whole_lead (Q i) (reads_terms i) l listing S T L e i args sound fits env a h).later ts (trees_with_new S L ts k)

  -- where the value is given
  said_there : SameBy (AreOne Q l (universes T) (resolved T e)) (alias (resolved T args)) (alone (resolved_tree T (new_term S)))
  said_there =
      let of = given.of (Q i) (reads_terms i) l listing S T L e i args sound fits env a h in
      let first = given.lead (Q i) (reads_terms i) l listing S T L e i args sound fits env a h in
      let known = given.known (Q i) (reads_terms i) l listing S T L e i args sound fits env a h in
      let P : Tree → Tree → Type 0 = AreOne Q l (universes T) (resolved T e) in
      let facts : Forest = resolved T (join args (alone (new_term S))) in
      let row = resolved_row T args (alone (new_term S)) in
      let is_yes = given_granted (Q i) (reads_terms i) l listing T M sound_there fits_there (with_term S e i args) first.sound (fits_later first.later (given.fits_new (Q i) (reads_terms i) l listing S T L e i args sound fits env a h))
      (given.new_there (Q i) (reads_terms i) l listing S T L e i args sound fits env a h) (term_asked S e i args) known of.bare of.response of.way of.read T of.is (later_itself T M sound_there) in
      moved P (alone (alias_of i facts)) (alone (term_of facts)) (alias (resolved T args)) (alone (resolved_tree T (new_term S)))
      (ap alias (ap arguments_of row ∙ arguments_before (resolved T args) (resolved_tree T (new_term S)))) (ap alone (ap term_of row ∙ last_behind (resolved T args) (resolved_tree T (new_term S))))
      (pair (alias_of i facts) (term_of facts) (inr (record { item = i; facts = facts; by = is_yes; alias = refl; type = refl })) (same none))

  module _ (U : State) (N : Live) (sound_last : IsSound U N) (fits_last : ValuesFit U N) (within : Within T M N) (later : IsLater T U M) where
    abbrev on : Instance
    on = onward l listing T U M N sound_last fits_last within later

    abbrev P : Tree → Tree → Type 0
    P = AreOne Q l (universes U) (resolved U e)

    -- what is known there, with all values put in
    onto : (ts : Forest) → AreTreesOf T M ts → SameBy P (valued (instance on) (resolved T ts)) (resolved U ts)
    onto ts k =
        wider (AreListed l) P (λ t u c. inl c)
        (subst (λ x. Same l (valued (instance on) (resolved T ts)) x) (later.values ts k.known)
        (known_onward (Q i) l listing T U M N sound_there fits_there sound_last fits_last within later (resolved T ts)
        (resolved_stray T M sound_there ts (holds_imply (is_strange T M) (is_stray T M) (strange_stray T M) ts k.known))))

    env_there : Same l (valued (instance on) (resolved T e)) (resolved U e)
    env_there =
        let k = there e env in
        subst (λ x. Same l (valued (instance on) (resolved T e)) x) (later.values e k.known)
        (known_onward (Q i) l listing T U M N sound_there fits_there sound_last fits_last within later (resolved T e)
        (resolved_stray T M sound_there e (holds_imply (is_strange T M) (is_stray T M) (strange_stray T M) e k.known)))

    -- Wherever it stands later, the projection is equal to the value.
    pub value_equal : SameBy P (resolved U (alias args)) (resolved U (alone (new_term S)))
    value_equal =
        let term = given.term_there (Q i) (reads_terms i) l listing S T L e i args sound fits env a h in
        let there_alias : AreTreesOf T M (alias args) = record { known = whole (is_strange T M) (H.Alias A.Projection (record { 0 = i.0 })) args none refl (there args a).known refl; is_closed = escape_whole 0 (H.Alias A.Projection (record { 0 = i.0 })) args none refl (there args a).is_closed refl } in
        along (back (onto (alias args) there_alias))
        (along (carried (AreOne Q l (universes T) (resolved T e)) P on (one_onward l listing T U M N sound_last fits_last within later Q (resolved T e) (resolved U e) env_there) (alias (resolved T args)) (alone (resolved_tree T (new_term S))) said_there)
        (onto (alone (new_term S)) term))
