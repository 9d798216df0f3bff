-- The laws of the judge, of an evaluator's calls; and the state of a new evaluator is sound.
use Rattle.std.proofs.Common.{Result, Ok, Err, OnOk, IfOk, ◌≡◌, ℕ, Bool, true, false, List, [], ◌++◌, Option, Some, None, refl, sym, ◌∙◌, ap, slice_get}
use Rattle.ir_trees.specs.Syntax.Trees.{Forest, none}
use Rattle.candidate_eval.specs.Judges.Alike.{info}
use Rattle.candidate_eval.specs.declared.eval.certainty.Certainty.{Certainty}
use Rattle.candidate_eval.specs.Judges.Lawful.{Lawful}
use Rattle.candidate_eval.specs.Judges.Soundness.{AreTreesOf, IsSound, Live, ValuesFit, Follows}
use Rattle.candidate_eval.specs.Judges.States.{State, VariableInfo, Env, Pending, next, with_pending}
use Rattle.rounds_judge.specs.Equations.Equating.{equated}
use Rattle.rounds_judge.specs.Table.TableSettling.{settled_with}
use Rattle.rounds_judge.specs.Aliases.WellListed.{well_listed}
use Rattle.rounds_judge.proofs.Lawfulness.TableLawful.{table_keeps_the_laws}
use Rattle.candidate_eval.specs.Interface.Evaluators.{with_left}
use Rattle.rounds_judge.specs.Aliases.Listed.{Listing}
use Rattle.rounds_judge.specs.Aliases.OpenParts.{all_to_be}
use Rattle.rounds_judge.specs.Equations.Opening.{equation}
use Rattle.rounds_judge.proofs.Lawfulness.OpenEquations.{asks_openly, by, equation_if, is_opened, left_opened, right_opened}
use Rattle.rounds_judge.proofs.Obligations.Settling.{lead_pending}
use Rattle.rounds_judge.proofs.States.Later.{fits_later, follows_along}
use Rattle.candidate_rounds.specs.Evaluators.Following.{FollowsEquation, FollowsSettling}
use Rattle.candidate_rounds.specs.Evaluators.Interface.{fixed, judge_of}
use Rattle.candidate_rounds.specs.Evaluators.Known.{Evaluator, IsGiven, listing, reading, state}
use Rattle.candidate_rounds.proofs.Evaluators.Interface.{as-judged}

lawful : (r : Evaluator) → Lawful (judge_of (fixed r))
lawful r = let f = fixed r in table_keeps_the_laws f.world f.local_crate f.limits f.listing f.opaques f.table

no-trees : (S : State) (L : Live) → AreTreesOf S L none
no-trees S L = record { known = refl; is_closed = refl }

-- to which state an equation leads doesn't depend on the environment
without-env : (l : Listing) (S T : State) (e : Env) (a b : Forest) (gs : List Pending) → equation l S e a b ≡ Some (gs, T) → (hs : List Pending) × (equation l S none a b ≡ Some (hs, T))
without-env l S T e a b gs h = at (asks_openly l S a b) h
  where
    at : (o : Bool) → equation_if o l S e a b ≡ Some (gs, T) → (hs : List Pending) × (equation_if o l S none a b ≡ Some (hs, T))
    at true h =
        let o = by l S a b in
        let is = is_opened (equated l o.state (left_opened l S a b) (right_opened l S a b)) (all_to_be e o.pairs) gs T h in
        (all_to_be none o.pairs, ap (λ (x : Option State). next x (λ R. Some (all_to_be none o.pairs, R))) is.is)
    at false h = (gs, h)

pending-follows : (S T : State) (L : Live) (ps : List Pending) → IsSound S L → Follows S T L → Follows S (with_pending T ps) L
pending-follows S T L ps sound f =
    let p = lead_pending T f.live ps f.sound in
    follows_along S T (with_pending T ps) L sound f (record { live = f.live; within = λ n l c. c; sound = p.sound; fits = fits_later p.later f.fits; later = p.later })

pub equation-follows : (r : Evaluator) (e : Env) (a b : Forest) (gs : List Pending) (T : State) → IsGiven r.context.trees r.normal.pairs r.opaques → equation (listing r) (state r) e a b ≡ Some (gs, T) → FollowsEquation (state r) (with_left (gs, T)) a b
equation-follows r e a b gs T given h = λ L s.
    let bare = without-env (listing r) (state r) T e a b gs h in
    let f = ((lawful r).equations.equating_follows (state r) T L none a b bare.0 s.sound s.fits (no-trees (state r) L) s.left s.right (as-judged r (state r) none a b given ∙ bare.1)).follows in
    pending-follows (state r) T L (T.pending ++ gs) s.sound f

-- so does the state in which they aren't pending yet
pub goals-follow : {A F : Type 0} (r : Evaluator) (e : Env) (a b : Forest) (q : Result A F) (f : A → List Pending) (T : State) → IsGiven r.context.trees r.normal.pairs r.opaques → IfOk q (λ v. equation (listing r) (state r) e a b ≡ Some (f v, T)) → OnOk q (FollowsEquation (state r) T a b)
goals-follow r e a b (Err x) f T given h = tt
goals-follow r e a b (Ok v) f T given h = λ L s.
    let bare = without-env (listing r) (state r) T e a b (f v) h in
    ((lawful r).equations.equating_follows (state r) T L none a b bare.0 s.sound s.fits (no-trees (state r) L) s.left s.right (as-judged r (state r) none a b given ∙ bare.1)).follows

pub settling-follows : (r : Evaluator) (c : Certainty) (T : State) → settled_with (reading r) (well_listed (listing r)) (state r) ≡ Some (c, T) → FollowsSettling (state r) T
settling-follows r c T e = λ L sound fits goals. ((lawful r).granted.settling_follows (state r) T L c sound fits goals e).follows

-- Without variables

nothing : (S : State) (n : ℕ) (i : VariableInfo) → S.variables ≡ [] → info S n ≡ Some i → ⊥
nothing S n i e f = absurd (let g : None ≡ Some i = sym (ap (λ is. slice_get is n) e) ∙ f in cc)

pub new-is-sound : (S : State) (L : Live) → S.variables ≡ [] → IsSound S L
new-is-sound S L e = record {
  allowed = λ s n i t l f. absurd (nothing S n i e f);
  no_higher = λ n i t l f. absurd (nothing S n i e f);
  is_resolved = λ n i t l f. absurd (nothing S n i e f);
  known = λ n i t l f. absurd (nothing S n i e f);
  universes = λ n i l f. absurd (nothing S n i e f);
}

pub new-fits : (S : State) (L : Live) → S.variables ≡ [] → ValuesFit S L
new-fits S L e = λ n l. record { kind = λ i t f. absurd (nothing S n i e f); is_closed = λ i t f. absurd (nothing S n i e f) }
