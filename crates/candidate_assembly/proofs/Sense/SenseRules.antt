-- A rule whose trees are of a state that makes sense: where its candidate is sure, all that is pending at its end is granted there.
use Rattle.std.proofs.Common.{◌≡◌, refl, sym, subst}
use Rattle.ir_trees.specs.Unification.Substitutions.{alone}
use Rattle.candidate_eval.specs.declared.eval.certainty.Certainty.{Certainty}
use Rattle.candidate_eval.specs.declared.eval.certainty.Certainty.TheVariants.{Yes}
use Rattle.candidate_eval.specs.declared.eval.source.CandidateSource.{CandidateSource}
use Rattle.candidate_eval.specs.declared.eval.source.CandidateSource.TheVariants as Source
use Rattle.candidate_eval.specs.declared.eval.source.ParamEnvSource.TheVariants.{Global, NonGlobal}
use Rattle.candidate_eval.specs.Derivations.Characterization.{Finds, Goes, Refuses, Stops, Walk, characterization}
use Rattle.candidate_eval.specs.Derivations.Judging.{Gives, asked, by_finding, concluded}
use Rattle.candidate_eval.specs.Judges.Lawful.{AnswersYes, Lawful}
use Rattle.candidate_eval.specs.Outcomes.Responses.{Candidate}
use Rattle.candidate_eval.specs.Derivations.Rules.{Ending, Rule, ask, characterise}
use Rattle.candidate_eval.specs.Judges.Soundness.{AreTreesOf, GoalsAreOf, IsSound, Live, ValuesFit}
use Rattle.candidate_eval.specs.Judges.States.{Env, Judge, State}
use Rattle.candidate_assembly.proofs.Sense.Sense.{StepsAreOf, goals-stay, trees-stay}
use Rattle.candidate_assembly.proofs.Sense.SenseLater.{later-itself}
use Rattle.candidate_assembly.proofs.Sense.SenseWalks.{Leads, WalkLeads, characterized-leads}
use Rattle.candidate_assembly.proofs.Answers.SureAnswers.{Leaves, asked-sure, characterized-leaves}

abbrev pub EndingIsOf : State → Live → Ending → Type 0
EndingIsOf S L (ask s c) = Unit {0}
EndingIsOf S L (characterise c) = AreTreesOf S L (alone c)

-- The rule's trees are of the state, and it asks about no impl of another crate.
pub record RuleIsOf (S : State) (L : Live) (r : Rule) : Type 0 where
  pub env : AreTreesOf S L r.env
  pub steps : StepsAreOf S L r.steps
  pub ending : EndingIsOf S L r.ending

module _ (J : Judge) (law : Lawful J) (S : State) (L : Live) (sound : IsSound S L) (fits : ValuesFit S L) (goals : GoalsAreOf S L S.pending) where
  abbrev pub AskedThere : Candidate → Type 0
  AskedThere x = (last : State) × (last.pending ≡ S.pending) × (l : Leads S L last) × AnswersYes J last l.live x.result

  abbrev here : Leads S L S
  here = record { live = L; sound = sound; fits = fits; stays = λ h x. x; first = sound; within = λ n l c. c; later = later-itself S L sound }

  asked-there : (T : State) → T.pending ≡ S.pending → (l : Leads S L T) → (s : CandidateSource) (c : Certainty) (x : Candidate) → asked J T s c ≡ Gives x → x.result.certainty ≡ Yes → AskedThere x
  asked-there T kept l s c x given sure =
      let a = asked-sure J law T s c x given sure in
      let there : GoalsAreOf T l.live T.pending = subst (GoalsAreOf T l.live) (sym kept) (goals-stay S L T l.live l.stays S.pending goals) in
      (T, kept, l, law.responses.yes_is_granted T l.live c x.result l.sound l.fits there a.0 sure)

  pub concluded-there : (e : Env) → AreTreesOf S L e → (end : Ending) → EndingIsOf S L end → (x : Candidate) → concluded J e end S ≡ Gives x → x.result.certainty ≡ Yes → AskedThere x
  concluded-there e env (ask s c) of x given sure = asked-there S refl here s c x given sure
  concluded-there e env (characterise c) of x given sure = at (characterization J e S c) (characterized-leaves J law e S c) (characterized-leads J law e S L sound fits env c of) given
    where
      at : (w : Walk) → Leaves S w → WalkLeads S L w → by_finding J w ≡ Gives x → AskedThere x
      at (Goes T) kept l g = asked-there T kept l (Source.ParamEnv Global) Yes x g sure
      at (Finds T d) kept l g = asked-there T kept l (Source.ParamEnv NonGlobal) d x g sure
      at Refuses kept l g = absurd cc
      at (Stops s) kept l g = absurd cc

pub ending-stays : (S : State) (L : Live) (T : State) (m : Leads S L T) (end : Ending) → EndingIsOf S L end → EndingIsOf T m.live end
ending-stays S L T m (ask s c) of = tt
ending-stays S L T m (characterise c) of = trees-stay S L T m.live m.stays (alone c) of
