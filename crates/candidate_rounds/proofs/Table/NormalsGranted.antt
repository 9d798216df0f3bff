-- A sure answer of a goal that a projection is a term, where the goal stands: what it rests on asks at a state that comes after the one at which
-- the goal was asked, and all that is pending there is granted.
use Rattle.std.proofs.Common.{◌≡◌, ◌++◌, ℕ, true, false, Option, Some, None, List, [], refl, sym, subst}
use Rattle.std.proofs.lemmas.List.Elements.{All-append, All-contains, All-nil}
use Rattle.ir_trees.specs.declared.decl.contents.AliasBoundKind.{AliasBoundKind}
use Rattle.ir_trees.specs.declared.ir.kinds.PredicatePolarity.TheVariants.{Positive}
use Rattle.ir_trees.specs.Declarations.Context.{Context, world}
use Rattle.ir_trees.specs.Syntax.Trees.{Forest, Tree, join, none}
use Rattle.ir_trees.specs.Unification.Substitutions.{alone}
use Rattle.ir_trees.specs.Validity.WellFormed.{IsWellFormedTable}
use Rattle.candidate_eval.specs.declared.eval.certainty.Certainty.TheVariants.{Yes}
use Rattle.candidate_eval.specs.declared.eval.mode.TypingMode.{TypingMode}
use Rattle.candidate_eval.specs.Derivations.Characterization.{Finds, Goes, Refuses, Stops, Walk, characterization}
use Rattle.candidate_eval.specs.Derivations.ImplRules.{TraitGoal}
use Rattle.candidate_eval.specs.Derivations.Judging.{start}
use Rattle.candidate_eval.specs.Derivations.Rules.{Ending, Rule, ask, characterise}
use Rattle.candidate_eval.specs.Dynamic.ObjectRequirements.{first_tree}
use Rattle.candidate_eval.specs.Dynamic.Required.{each_of}
use Rattle.candidate_eval.specs.Interface.Evaluators.{accepted}
use Rattle.candidate_eval.specs.Judges.Lawful.{Lawful}
use Rattle.candidate_eval.specs.Judges.Soundness.{AreTreesOf, Follows, GoalIsOf, GoalsAreOf, IsSound, Live, ValuesFit, is_strange}
use Rattle.candidate_eval.specs.Judges.States.{Env, Goal, Judge, Pending, State, next, resolved, with_pending}
use Rattle.candidate_eval.specs.Outcomes.Responses.{Candidate, Response}
use Rattle.candidate_eval.proofs.Marks.Closed.{closed}
use Rattle.candidate_eval.proofs.Marks.Marking.{unmarked}
use Rattle.candidate_assembly.specs.Answers.Assembled.{resolved_goal}
use Rattle.candidate_assembly.specs.Answers.AssembledCalls.{IsLeftAlike, before, normal as left_normal}
use Rattle.candidate_assembly.specs.Answers.SureAnswers.{AnswersAfter, AnswersGranted, IsOnChain, IsProvedBy, IsProvedWith, IsRuleOf, ObjectGrants, RuleGrants, asked_at, by_bound, by_clause, by_impl, by_language, by_object, by_rule, by_unsizing, first, further, walked_to}
use Rattle.candidate_assembly.specs.Goals.Kinds.{self_type}
use Rattle.candidate_assembly.specs.Goals.Projections.{match_projection}
use Rattle.candidate_assembly.specs.Goals.Standing.{StandsWithPending}
use Rattle.candidate_assembly.specs.Goals.TraitGoals.{with_first}
use Rattle.candidate_assembly.specs.Laws.Given.{IsCounted}
use Rattle.candidate_assembly.proofs.Objects.ObjectLaws.{has_dynamic}
use Rattle.candidate_assembly.specs.Laws.SuperLaws.{IsFitting}
use Rattle.candidate_assembly.specs.Rules.ObjectBounds.{AreAskedIf, all_asked, nested_goals, none_asked}
use Rattle.candidate_assembly.proofs.Answers.SureAnswers.{projection-has}
use Rattle.candidate_assembly.proofs.Goals.Standing.{strange-later, trees-resolved}
use Rattle.candidate_assembly.proofs.Sense.Sense.{StaysKnown, goals-stay, pending-sound, pending-stays, run-makes, start-makes, trees-join, trees-stay}
use Rattle.candidate_assembly.proofs.Sense.SenseAfter.{answers-along, answers-here, follows-after}
use Rattle.candidate_assembly.proofs.Sense.SenseBounds.{StandsAfter, alike-stands, arguments-of, form-stands, stands-along}
use Rattle.candidate_assembly.proofs.Sense.SenseLater.{later-along, later-itself, later-pending}
use Rattle.candidate_assembly.proofs.Sense.SenseNames.{each-tree}
use Rattle.candidate_assembly.proofs.Sense.SenseProved.{changed-trees, first-trees}
use Rattle.candidate_assembly.proofs.Sense.SenseRequired.{own-clause-of}
use Rattle.candidate_assembly.proofs.Sense.SenseRules.{EndingIsOf, RuleIsOf, ending-stays}
use Rattle.candidate_assembly.proofs.Sense.SenseWalks.{Leads, WalkLeads, characterized-leads}
use Rattle.projection_goals.specs.Normalizing.{NormalizesGoal, as_projection, normalizes_bounds, normalizes_rules}
use Rattle.projection_goals.specs.Rows.{parts-join}
use Rattle.rounds_judge.specs.Table.GoalTable.{may_be_asked}
use Rattle.rounds_judge.specs.Table.Keys.{Key, every, start_of}
use Rattle.candidate_rounds.specs.Table.DerivedNormals.{as_type, where_asked}
use Rattle.candidate_rounds.specs.Table.Normalizing.{term_goal, with_term}
use Rattle.derivations.proofs.NormalRules.{bound-rule-is-of, impl-is-of, language-is-of, match-steps, row-parts, where-is-of}
use Rattle.candidate_rounds.proofs.Table.Normalizing.{asked-with-term, term-trees}
use Rattle.candidate_rounds.proofs.Table.Starting.{goal-trees-stand, start-fits, start-sound}

-- The goal as one of a trait that holds of all its trees.
abbrev as_trait : NormalizesGoal → TraitGoal
as_trait g = record { env = g.env; reference = record { trait = 0; arguments = join g.arguments g.term }; polarity = Positive }

-- A goal at a state beside what is pending there: the values of what counts make sense, and what is pending and the goal are of it.
abbrev pub NormalStands : State → Live → NormalizesGoal → Type 0
NormalStands S L g = StandsWithPending S L (as_trait g)

-- Where a rule asks: at a state to which its ending leads.
module _ (J : Judge) (law : Lawful J) (e : Env) (S : State) (L : Live) (sound : IsSound S L) (fits : ValuesFit S L) (env : AreTreesOf S L e) where
  asks-there : (end : Ending) (T : State) → EndingIsOf S L end → asked_at J e end S ≡ Some T → Leads S L T
  asks-there (ask s d) T of is =
      let same : S ≡ T = cc in
      subst (Leads S L) same (record { live = L; sound = sound; fits = fits; stays = λ h x. x; first = sound; within = λ n l c. c; later = later-itself S L sound })
  asks-there (characterise c) T of is = at (characterization J e S c) (characterized-leads J law e S L sound fits env c of) is
    where
      at : (w : Walk) → WalkLeads S L w → walked_to w ≡ Some T → Leads S L T
      at (Goes U) l g = let same : U ≡ T = cc in subst (Leads S L) same l
      at (Finds U d) l g = let same : U ≡ T = cc in subst (Leads S L) same l
      at Refuses l g = absurd cc
      at (Stops s) l g = absurd cc

-- Nothing is asked of an object.
nothing-asked : (J : Judge) (e : Env) (c : Context) (S : State) (n : ℕ) (reference : Tree) (bounds : Forest) (goals : List Goal) (last : State) → AreAskedIf false J e c S n reference bounds goals last
    → nested_goals last goals ≡ with_pending S (S.pending ++ [])
nothing-asked J e c S n reference bounds goals last (all_asked so h) = absurd cc
nothing-asked J e c S n reference bounds _ _ (none_asked so) = refl

-- the goal with that self type and all values put in
abbrev pub normal_goal : Context → State → NormalizesGoal → Tree → NormalizesGoal
normal_goal c T g u = resolved_goal normalizes_rules normalizes_bounds c T (normalizes_rules.with_self_type g u)

module _ (J : Judge) (law : Lawful J) (c : Context) (w : IsWellFormedTable c) (few : IsCounted c) where
  -- by a rule whose trees are of the state
  rule-granted : (T : State) (M : Live) (g : NormalizesGoal) → NormalStands T M g → (r : Rule) → RuleIsOf T M r → (x : Candidate) → (h : RuleGrants (AnswersGranted J) J T r x) → AnswersAfter J T M h.last x.result
  rule-granted T M g s r of x h =
      let p = h.place in
      let m = run-makes J law T M r.env of.env r.steps of.steps (start T) (start-makes T M s.sound s.fits s.goals) p h.reached in
      let l : Leads T M p.state = record { live = m.live; sound = m.sound; fits = m.fits; stays = m.stays; first = m.first; within = m.within; later = m.later } in
      let k = asks-there J law r.env p.state m.live m.sound m.fits (trees-stay T M p.state m.live m.stays r.env of.env) r.ending h.last (ending-stays T M p.state l r.ending of.ending) h.asked in
      let goals : GoalsAreOf h.last k.live h.last.pending = subst (GoalsAreOf h.last k.live) (sym h.pending) (goals-stay p.state m.live h.last k.live k.stays p.state.pending m.goals) in
      let there : Follows p.state h.last m.live = record { live = k.live; within = k.within; sound = k.sound; fits = k.fits; later = k.later } in
      let yes = h.granted.granted k.live k.sound k.fits goals in
      let first : Follows T p.state M = record { live = m.live; within = m.within; sound = m.sound; fits = m.fits; later = m.later } in
      answers-along J T p.state h.last M x.result s.sound (follows-after T p.state M first) (answers-here J p.state h.last m.live x.result there yes)

  -- Along the chain of aliases the goal stands.
  chain-stands : (S : State) (L : Live) (g : NormalizesGoal) → NormalStands S L g → (b : AliasBoundKind) (T : State) (t : Tree) → IsOnChain normalizes_rules normalizes_bounds J c S g b T t → StandsAfter S L T (as_trait g) t
  chain-stands S L g s _ T _ (first like) = alike-stands J law S T L (as_trait g) (first_tree g.arguments) like s (first-trees S L g.arguments (row-parts S L g.arguments g.term s.arguments).0)
  chain-stands S L g s _ U u (further b T V t on proj like is) =
      let x = chain-stands S L g s b T t on in
      let y = alike-stands J law T V x.after.live (as_trait g) t like x.stands x.tree in
      let z = form-stands J law V U y.after.live (as_trait g) (first_tree t.children) u y.stands (first-trees V y.after.live t.children (arguments-of V y.after.live t (projection-has t.head proj) y.tree)) is in
      stands-along J law S T U L (as_trait g) t u s.sound x (stands-along J law T V U x.after.live (as_trait g) t u x.stands.sound y z)

  -- each rule of the goal
  rule-answers : (S : State) (L : Live) (g : NormalizesGoal) → NormalStands S L g → (x : Candidate) (r : Rule) (T : State) → IsRuleOf normalizes_rules normalizes_bounds J c S g r T → (h : RuleGrants (AnswersGranted J) J T r x)
      → AnswersAfter J S L h.last x.result
  rule-answers S L g s x r T (by_clause t there) h =
      let own = row-parts S L g.arguments g.term s.arguments in
      rule-granted S L g s r (where-is-of S L g s.env own.0 own.1 c t (All-contains (λ u. AreTreesOf S L (alone u)) (each_of g.env) t (each-tree S L g.env s.env) there)) x h
  rule-answers S L g s x r T (by_bound b t on has there) h =
      let a = chain-stands S L g s b T t on in
      let M = a.after.live in
      let own = row-parts T M g.arguments g.term a.stands.arguments in
      answers-along J S T h.last L x.result s.sound a.after (rule-granted T M g a.stands r (bound-rule-is-of T M g a.stands.env own.0 own.1 c w few.bounds b t has a.tree r there) x h)
  rule-answers S L g s x r T (by_language n is) h = let own = row-parts S L g.arguments g.term s.arguments in rule-granted S L g s r (language-is-of S L g s.env own.0 own.1 c w few n) x h
  rule-answers S L g s x r T (by_unsizing t u V supers is target like normal are fit there) h = absurd (let no : None ≡ Some t = target in cc)
  rule-answers S L g s x r T (by_impl n there) h = let own = row-parts S L g.arguments g.term s.arguments in rule-granted S L g s r (impl-is-of S L g s.env own.0 own.1 c w S.mode n) x h

  -- and an object's own clause, where the object's type fits what is declared
  object-granted : (S : State) (L : Live) (g : NormalizesGoal) → NormalStands S L g → IsFitting (world c) (first_tree g.arguments) → (x : Candidate) (o : ObjectGrants normalizes_rules normalizes_bounds J c S g x)
      → AnswersAfter J S L (nested_goals o.last o.goals) x.result
  object-granted S L g s fits x o =
      let type = first_tree g.arguments in
      let dynamic = has_dynamic c (normalizes_rules.reference_of c g).trait type o.has_own in
      let a = alike-stands J law S o.before L (as_trait g) type o.alike s (first-trees S L g.arguments (row-parts S L g.arguments g.term s.arguments).0) in
      let B = o.before in
      let A = a.after.live in
      let st = a.stands in
      let parts = row-parts B A g.arguments g.term st.arguments in
      let own = own-clause-of c w few.traits B A type o.supers o.own dynamic fits a.tree o.are_supers o.is_own in
      let m = run-makes J law B A g.env st.env (match_projection (as_projection g) o.own.clause) (match-steps B A g st.env parts.0 parts.1 o.own.clause own.trees) (start B) (start-makes B A st.sound st.fits st.goals) o.place o.matched in
      let P = o.place.state in
      let M = m.live in
      let ps = P.pending ++ [] in
      let V = with_pending P ps in
      let same : nested_goals o.last o.goals ≡ V = nothing-asked J g.env c P _ _ _ o.goals o.last o.are_asked in
      let stays = pending-stays P M ps in
      let IsOf = λ (y : Pending). GoalIsOf P M y.goal in
      let sound = pending-sound P M ps m.sound in
      let goals = goals-stay P M V M stays ps (All-append IsOf P.pending [] m.goals (All-nil IsOf)) in
      let first : Follows B P A = record { live = M; within = m.within; sound = m.sound; fits = m.fits; later = m.later } in
      let then : Follows P V M = record { live = M; within = λ n l k. k; sound = sound; fits = m.fits; later = later-pending P M m.sound ps } in
      let granted = subst (λ Q. AnswersGranted J Q x.result) same o.granted in
      let yes = granted.granted M sound m.fits goals in
      subst (λ Q. AnswersAfter J S L Q x.result) (sym same)
      (answers-along J S B V L x.result s.sound a.after (answers-along J B P V A x.result st.sound (follows-after B P A first) (answers-here J P V M x.result then yes)))

  proved-granted : (S : State) (L : Live) (g : NormalizesGoal) → NormalStands S L g → IsFitting (world c) (first_tree g.arguments) → (x : Candidate) (p : IsProvedBy normalizes_rules normalizes_bounds J c S g (AnswersGranted J) x)
      → AnswersAfter J S L (where_asked p) x.result
  proved-granted S L g s fits x (by_rule {r = r} {T = T} of h) = rule-answers S L g s x r T of h
  proved-granted S L g s fits x (by_object o) = object-granted S L g s fits x o

  -- With its self type in normal form and all values put in the goal stands at the state that normalising leaves, which follows.
  normal-stands : (S T : State) (L : Live) (g : NormalizesGoal) (u : Tree) → NormalStands S L g → J.normalized S g.env (first_tree g.arguments) ≡ Some (u, T) → (f : Follows S T L) × NormalStands T f.live (normal_goal c T g u)
  normal-stands S T L g u s is =
      let own = row-parts S L g.arguments g.term s.arguments in
      let n = law.normal_forms.normalizing_follows S T L g.env (first_tree g.arguments) u s.sound s.fits s.env (first-trees S L g.arguments own.0) is in
      let f = n.follows in
      let M = f.live in
      let stays : StaysKnown S L T M = strange-later S T L M f.within f.later in
      let kept = law.normal_forms.normalizing_keeps_pending S T g.env (first_tree g.arguments) u is in
      let args = with_first u g.arguments in
      let trees = trees-join T M args g.term (changed-trees T M u g.arguments n.tree (trees-stay S L T M stays g.arguments own.0)) (trees-stay S L T M stays g.term own.1) in (
        f,
        record {
          sound = f.sound;
          fits = f.fits;
          goals = subst (GoalsAreOf T M) (sym kept) (goals-stay S L T M stays S.pending s.goals);
          env = trees-resolved T M f.sound f.fits g.env (trees-stay S L T M stays g.env s.env);
          arguments = subst (AreTreesOf T M) (sym (parts-join args (resolved T (join args g.term)))) (trees-resolved T M f.sound f.fits (join args g.term) trees);
        },
      )

  -- So what a sure response rests on asks after the state at which the goal was asked.
  pub sure-granted : (S : State) (L : Live) (g : NormalizesGoal) → NormalStands S L g → (r : Response) (p : IsProvedWith (AnswersGranted J) normalizes_rules normalizes_bounds J c S g r)
      → IsFitting (world c) (self_type normalizes_rules c (normal_goal c p.at g p.normal)) → AnswersAfter J S L (where_asked p.proved_by) r
  sure-granted S L g s r p fits =
      let n = normal-stands S p.at L g p.normal s p.is_normal in
      subst (AnswersAfter J S L (where_asked p.proved_by)) p.response
      (answers-along J S p.at (where_asked p.proved_by) L p.candidate.result s.sound (follows-after S p.at L n.0) (proved-granted p.at n.0.live (normal_goal c p.at g p.normal) n.1 fits p.candidate p.proved_by))

-- The rigid answer, where a term is made equal to the projection itself.

type-trees : (S : State) (L : Live) (g : NormalizesGoal) → AreTreesOf S L g.arguments → AreTreesOf S L (alone (as_type g))
type-trees S L g a =
    let t = as_type g in
    record { known = unmarked (is_strange S L) t.head g.arguments none refl a.known refl; is_closed = closed 0 t.head g.arguments none refl a.is_closed refl }

module _ (J : Judge) (law : Lawful J) where
  -- What the equation of trees of a state leaves pending is granted after it, if the response is sure.
  equation-granted : (S : State) (L : Live) → IsSound S L → ValuesFit S L → GoalsAreOf S L S.pending → (e : Env) (a b : Forest) → AreTreesOf S L e → AreTreesOf S L a → AreTreesOf S L b → (last : State) → accepted J S e a b ≡ Some last
      → (r : Response) → J.responded last Yes ≡ Some r → r.certainty ≡ Yes → AnswersAfter J S L last r
  equation-granted S L sound fits goals e a b env left right last is r responded sure = at (J.equated S e a b) refl is
    where
      at : (o : Option (List Pending × State)) → J.equated S e a b ≡ o → next o (λ q. Some (with_pending q.1 (q.1.pending ++ q.0))) ≡ Some last → AnswersAfter J S L last r
      at None was h = absurd cc
      at (Some q) was h =
          let T = q.1 in
          let ps = T.pending ++ q.0 in
          let U = with_pending T ps in
          let same : U ≡ last = cc in
          let n = law.equations.equating_follows S T L e a b q.0 sound fits env left right was in
          let M = n.follows.live in
          let still : StaysKnown S L T M = strange-later S T L M n.follows.within n.follows.later in
          let kept = law.equations.equating_keeps_pending S T e a b q.0 was in
          let old : GoalsAreOf T M T.pending = subst (GoalsAreOf T M) (sym kept) (goals-stay S L T M still S.pending goals) in
          let all = goals-stay T M U M (pending-stays T M ps) ps (All-append (λ (x : Pending). GoalIsOf T M x.goal) T.pending q.0 old n.goals) in
          let there = pending-sound T M ps n.follows.sound in
          let later = later-along S T U L M sound n.follows.within n.follows.later (later-pending T M n.follows.sound ps) in
          let follows : Follows S U L = record { live = M; within = n.follows.within; sound = there; fits = n.follows.fits; later = later } in
          let own = subst (λ R. J.responded R Yes ≡ Some r) (sym same) responded in
          subst (λ R. AnswersAfter J S L R r) same (answers-here J S U L r follows (law.responses.yes_is_granted U M Yes r there n.follows.fits all own sure))

  -- The goal stands where the equation is made.
  left-stands : (S : State) (L : Live) (g : NormalizesGoal) → NormalStands S L g → (at : State) → IsLeftAlike J S g.env (first_tree g.arguments) at → (u : Tree) × StandsAfter S L at (as_trait g) u
  left-stands S L g s at (before like) =
      let t = first_tree g.arguments in
      (t, alike-stands J law S at L (as_trait g) t like s (first-trees S L g.arguments (row-parts S L g.arguments g.term s.arguments).0))
  left-stands S L g s at (left_normal {u = u} {T = T} is like) =
      let t = first_tree g.arguments in
      let a = form-stands J law S T L (as_trait g) t u s (first-trees S L g.arguments (row-parts S L g.arguments g.term s.arguments).0) is in
      (u, stands-along J law S T at L (as_trait g) u u s.sound a (alike-stands J law T at a.after.live (as_trait g) u like a.stands a.tree))

  pub rigid-granted : (S : State) (L : Live) (g : NormalizesGoal) → NormalStands S L g → (at : State) → IsLeftAlike J S g.env (first_tree g.arguments) at → (last : State)
      → accepted J at g.env (alone (first_tree g.term)) (alone (as_type g)) ≡ Some last → (r : Response) → J.responded last Yes ≡ Some r → r.certainty ≡ Yes → AnswersAfter J S L last r
  rigid-granted S L g s at like last is r responded sure =
      let a = (left-stands S L g s at like).1 in
      let A = a.after.live in
      let st = a.stands in
      let own = row-parts at A g.arguments g.term st.arguments in
      answers-along J S at last L r s.sound a.after
      (equation-granted at A st.sound st.fits st.goals g.env (alone (first_tree g.term)) (alone (as_type g)) st.env (first-trees at A g.term own.1) (type-trees at A g own.0) last is r responded sure)

-- The goal of a key stands where it is computed.
pub term-stands-there : (m : TypingMode) (k : Key) (item : ℕ) → may_be_asked k ≡ true → NormalStands (start_of m (with_term k)) every (term_goal item k)
term-stands-there m k item asked = record {
  sound = start-sound m (with_term k);
  fits = start-fits m (with_term k);
  goals = All-nil (λ (p : Pending). GoalIsOf (start_of m (with_term k)) every p.goal);
  env = (goal-trees-stand m (with_term k) (asked-with-term k asked)).env;
  arguments = term-trees m k asked;
}
