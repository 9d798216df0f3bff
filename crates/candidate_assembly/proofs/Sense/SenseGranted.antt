-- A sure answer of a goal of a trait that stands: its rule asks at a state that comes after the one at which the goal was asked, and all that is
-- pending there is granted.
use Rattle.std.proofs.Common.{◌≡◌, Option, Some, List, Result, sym, subst}
use Rattle.std.proofs.lemmas.List.Elements.{All-contains}
use Rattle.ir_trees.specs.Declarations.Context.{Context}
use Rattle.ir_trees.specs.Hierarchy.Supers.{after_first}
use Rattle.ir_trees.specs.Syntax.Trees.{Tree}
use Rattle.ir_trees.specs.Unification.Substitutions.{alone}
use Rattle.ir_trees.specs.Validity.WellFormed.{IsWellFormedTable}
use Rattle.candidate_eval.specs.declared.eval.refusal.NoSolutionOrStop.{NoSolutionOrStop}
use Rattle.candidate_eval.specs.declared.eval.response.CanonicalResponse.{CanonicalResponse}
use Rattle.candidate_eval.specs.Derivations.Characterization.{Finds, Goes, Refuses, Stops, Walk, characterization}
use Rattle.candidate_eval.specs.Derivations.ImplRules.{TraitGoal}
use Rattle.candidate_eval.specs.Derivations.Judging.{start}
use Rattle.candidate_eval.specs.Derivations.Rules.{Ending, Rule, ask, characterise}
use Rattle.candidate_eval.specs.Dynamic.ObjectRequirements.{first_tree}
use Rattle.candidate_eval.specs.Dynamic.Required.{each_of}
use Rattle.candidate_eval.specs.Interface.Accounts.{Account}
use Rattle.candidate_eval.specs.Judges.Lawful.{Lawful}
use Rattle.candidate_eval.specs.Judges.Soundness.{AreTreesOf, Follows, GoalsAreOf, IsSound, Live, ValuesFit}
use Rattle.candidate_eval.specs.Judges.States.{Env, Judge, State}
use Rattle.candidate_eval.specs.Outcomes.ResponseTrees.{response_of}
use Rattle.candidate_eval.specs.Outcomes.Responses.{Candidate, Response}
use Rattle.candidate_assembly.specs.declared.assembly.merging.TraitGoalProvenVia.{TraitGoalProvenVia}
use Rattle.candidate_assembly.specs.Answers.Assembled.{resolved_goal}
use Rattle.candidate_assembly.specs.Answers.SureAnswers.{AnswersAfter, AnswersGranted, GoalGranted, IsProved, IsProvedBy, IsRuleOf, RuleGrants, YesIsProved, asked_at, by_bound, by_clause, by_impl, by_language, by_object, by_rule, by_unsizing, walked_to}
use Rattle.candidate_assembly.specs.Answers.TraitAnswers.{Computes}
use Rattle.candidate_assembly.specs.Goals.Standing.{StandsWithPending}
use Rattle.candidate_assembly.specs.Goals.TraitGoals.{with_self_type}
use Rattle.candidate_assembly.specs.Goals.TraitRules.{trait_bounds, trait_rules}
use Rattle.candidate_assembly.specs.Laws.Given.{IsCounted}
use Rattle.candidate_assembly.specs.Rules.Unsizing.{unsizing_rules}
use Rattle.candidate_assembly.proofs.Answers.SureAnswers.{IsProvedThere, computes-proved}
use Rattle.candidate_assembly.proofs.Calls.Causes.{so-ok}
use Rattle.candidate_assembly.proofs.Sense.Sense.{goals-stay, run-makes, start-makes, trees-stay}
use Rattle.candidate_assembly.proofs.Sense.SenseAfter.{answers-along, answers-here, follows-after}
use Rattle.candidate_assembly.proofs.Sense.SenseBounds.{StandsAfter, alike-stands, bound-rule-is-of, chain-stands, form-stands, stands-along}
use Rattle.candidate_assembly.proofs.Sense.SenseKinds.{impl-is-of, where-is-of}
use Rattle.candidate_assembly.proofs.Sense.SenseLanguage.{language-rule-is-of}
use Rattle.candidate_assembly.proofs.Sense.SenseLater.{later-itself}
use Rattle.candidate_assembly.proofs.Sense.SenseNames.{each-tree}
use Rattle.candidate_assembly.proofs.Sense.SenseProved.{first-trees, normal-stands}
use Rattle.candidate_assembly.proofs.Sense.SenseRules.{EndingIsOf, RuleIsOf, ending-stays}
use Rattle.candidate_assembly.proofs.Sense.SenseUnsizing.{after-trees, unsizing-are-of}
use Rattle.candidate_assembly.proofs.Sense.SenseWalks.{Leads, WalkLeads, characterized-leads}
use Rattle.candidate_assembly.proofs.Unsizing.UnsizedTargets.{target-is}

-- Where a rule asks: at a state to which its ending leads.
module _ (J : Judge) (law : Lawful J) (e : Env) (S : State) (L : Live) (sound : IsSound S L) (fits : ValuesFit S L) (env : AreTreesOf S L e) where
  asks-there : (end : Ending) (T : State) → EndingIsOf S L end → asked_at J e end S ≡ Some T → Leads S L T
  asks-there (ask s d) T of is =
      let same : S ≡ T = cc in
      subst (Leads S L) same (record { live = L; sound = sound; fits = fits; stays = λ h x. x; first = sound; within = λ n l c. c; later = later-itself S L sound })
  asks-there (characterise c) T of is = at (characterization J e S c) (characterized-leads J law e S L sound fits env c of) is
    where
      at : (w : Walk) → WalkLeads S L w → walked_to w ≡ Some T → Leads S L T
      at (Goes U) l g = let same : U ≡ T = cc in subst (Leads S L) same l
      at (Finds U d) l g = let same : U ≡ T = cc in subst (Leads S L) same l
      at Refuses l g = absurd cc
      at (Stops s) l g = absurd cc

module _ (J : Judge) (law : Lawful J) (c : Context) (w : IsWellFormedTable c) (few : IsCounted c) where
  -- a rule whose trees are of the state
  rule-granted : (T : State) (M : Live) (g : TraitGoal) → StandsWithPending T M g → (r : Rule) → RuleIsOf T M r → (x : Candidate) → (h : RuleGrants (AnswersGranted J) J T r x) → AnswersAfter J T M h.last x.result
  rule-granted T M g s r of x h =
      let p = h.place in
      let m = run-makes J law T M r.env of.env r.steps of.steps (start T) (start-makes T M s.sound s.fits s.goals) p h.reached in
      let l : Leads T M p.state = record { live = m.live; sound = m.sound; fits = m.fits; stays = m.stays; first = m.first; within = m.within; later = m.later } in
      let k = asks-there J law r.env p.state m.live m.sound m.fits (trees-stay T M p.state m.live m.stays r.env of.env) r.ending h.last (ending-stays T M p.state l r.ending of.ending) h.asked in
      let goals : GoalsAreOf h.last k.live h.last.pending = subst (GoalsAreOf h.last k.live) (sym h.pending) (goals-stay p.state m.live h.last k.live k.stays p.state.pending m.goals) in
      let there : Follows p.state h.last m.live = record { live = k.live; within = k.within; sound = k.sound; fits = k.fits; later = k.later } in
      let yes = h.granted.granted k.live k.sound k.fits goals in
      let first : Follows T p.state M = record { live = m.live; within = m.within; sound = m.sound; fits = m.fits; later = m.later } in
      answers-along J T p.state h.last M x.result s.sound (follows-after T p.state M first) (answers-here J p.state h.last m.live x.result there yes)

  along : (S : State) (L : Live) (T : State) (g : TraitGoal) (t : Tree) → IsSound S L → (a : StandsAfter S L T g t) (r : Rule) → RuleIsOf T a.after.live r → (x : Candidate) → (h : RuleGrants (AnswersGranted J) J T r x) → AnswersAfter J S L h.last x.result
  along S L T g t sound a r of x h = answers-along J S T h.last L x.result sound a.after (rule-granted T a.after.live g a.stands r of x h)

  -- each rule of the goal
  rule-answers : (S : State) (L : Live) (g : TraitGoal) → StandsWithPending S L g → (x : Candidate) (r : Rule) (T : State) → IsRuleOf trait_rules trait_bounds J c S g r T → (h : RuleGrants (AnswersGranted J) J T r x) → AnswersAfter J S L h.last x.result
  rule-answers S L g s x r T (by_clause t there) h =
      rule-granted S L g s r (where-is-of S L g s.env s.arguments c t (All-contains (λ u. AreTreesOf S L (alone u)) (each_of g.env) t (each-tree S L g.env s.env) there)) x h
  rule-answers S L g s x r T (by_bound b t on has there) h =
      let a = chain-stands J law c S L g s b T t on in
      along S L T g t s.sound a r (bound-rule-is-of J law c w few.bounds T a.after.live g b t has a.stands a.tree r there) x h
  rule-answers S L g s x r T (by_language n is) h = rule-granted S L g s r (language-rule-is-of S L g s.env s.arguments c w few n) x h
  rule-answers S L g s x r T (by_unsizing t u V supers is target like normal are fit there) h =
      let args = g.reference.arguments in
      let second = first-trees S L (after_first args) (after-trees S L args s.arguments) in
      let a = alike-stands J law S V L g t like s (subst (λ y. AreTreesOf S L (alone y)) (sym (target-is g t target)) second) in
      let b = stands-along J law S V T L g t u s.sound a (form-stands J law V T a.after.live g t u a.stands a.tree normal) in
      let of = unsizing-are-of T b.after.live g b.stands.env b.stands.arguments u b.tree c w few fit supers are in
      along S L T g u s.sound b r (All-contains (RuleIsOf T b.after.live) (unsizing_rules c supers g u) r of there) x h
  rule-answers S L g s x r T (by_impl n there) h = rule-granted S L g s r (impl-is-of S L g s.env s.arguments c w S.mode n) x h

-- So what a rule proves is granted after the state at which the goal was asked.
module _ (J : Judge) (law : Lawful J) (c : Context) (w : IsWellFormedTable c) (few : IsCounted c) where
  proved-after : (S : State) (g : TraitGoal) (t : Tree) (T : State) → J.normalized S g.env (first_tree g.reference.arguments) ≡ Some (t, T) → (x : Candidate)
      → IsProvedBy trait_rules trait_bounds J c T (resolved_goal trait_rules trait_bounds c T (with_self_type g t)) (AnswersGranted J) x
      → IsProvedBy trait_rules trait_bounds J c T (resolved_goal trait_rules trait_bounds c T (with_self_type g t)) (GoalGranted J S g) x
  proved-after S g t T is x (by_object o) = by_object o
  proved-after S g t T is x (by_rule {r = r} {T = U} of h) = by_rule of (record {
    applies = h.applies;
    gives = h.gives;
    place = h.place;
    reached = h.reached;
    last = h.last;
    asked = h.asked;
    pending = h.pending;
    granted = record {
      here = h.granted;
      granted = λ L s.
          let n = normal-stands J law c S T L g t s is in
          answers-along J S T h.last L x.result s.sound (follows-after S T L n.0) (rule-answers J law c w few T n.0.live (resolved_goal trait_rules trait_bounds c T (with_self_type g t)) n.1 x r U of h);
    };
  })

  pub is-proved : (S : State) (g : TraitGoal) (r : Response) → IsProvedThere J c S g r → IsProved J c S g r
  is-proved S g r p = record {
    normal = p.normal;
    at = p.at;
    is_normal = p.is_normal;
    is_known = p.is_known;
    candidate = p.candidate;
    proved_by = proved-after S g p.normal p.at p.is_normal p.candidate p.proved_by;
    response = p.response;
  }

-- What a call answers says so.
module _ {E X : Type 0} {fixed : E → X} {judge : X → Judge} {state : E → State} {probes : E → List State} {context : E → Context} {stops : Account E} where
  pub computes-granted : ((f : X) → Lawful (judge f)) → (old new : E) (g : TraitGoal) (r : Result (CanonicalResponse × Option TraitGoalProvenVia) NoSolutionOrStop) → IsWellFormedTable (context old) → IsCounted (context old)
      → Computes fixed judge state probes context stops old new g r → YesIsProved (judge (fixed old)) (context old) (state old) g (context new).trees r
  computes-granted law old new g r w few h =
      so-ok r (λ a p sure. is-proved (judge (fixed old)) (law (fixed old)) (context old) w few (state old) g (response_of (context new).trees a.0) (p sure)) (computes-proved law old new g r h)
