-- The steps of a rule that came to a place have their premises, where what is pending there is granted at a state that follows.
use Rattle.std.proofs.Common.{◌≡◌, ℕ, suc, Bool, true, false, Option, Some, None, List, [], ◌∷◌, ◌++◌, map, refl, sym, ap, subst, ◌∙◌}
use Rattle.std.specs.List.{All, Contains, filter}
use Rattle.std.proofs.lemmas.List.Elements.{All-append, All-cons, All-contains, All-contains_itself, All-filter, All-head, All-nil, All-tail}
use Rattle.ir_trees.specs.declared.ir.heads.VariableSort.TheVariants.{General, Constant}
use Rattle.ir_trees.specs.declared.ir.kinds.GoalSource.{GoalSource}
use Rattle.ir_trees.specs.Declarations.Context.{Context}
use Rattle.ir_trees.specs.Unification.Substitutions.{alone}
use Rattle.ir_trees.specs.Hierarchy.Supers.{after_first}
use Rattle.ir_trees.specs.Syntax.Trees.{Forest, Kind, TypeKind, ConstantKind, RegionKind, Tree, holds, join}
use Rattle.ir_trees.specs.Declarations.Worlds.{kinds_of}
use Rattle.ir_trees.proofs.Syntax.Rows.{join-none}
use Rattle.candidate_eval.specs.declared.eval.certainty.Certainty.{Certainty}
use Rattle.candidate_eval.specs.declared.eval.variable.VariableKind.TheVariants.{Term, Region}
use Rattle.candidate_eval.specs.Derivations.Characterization.{bound_kinds}
use Rattle.candidate_eval.specs.Judges.Instances.{instance}
use Rattle.candidate_eval.specs.Derivations.Judging.{Place, Reached, At, Ambiguous, Over, Refused, at_if, at_state, equated_at, go_on, goal_at, made_fresh, made_rigid, matched, matched_and_settled, matches, picked, put_in, put_in_tree, reached, run, settled_at, step, taken, with_goals, with_locals}
use Rattle.candidate_eval.specs.Judges.Lawful.{AreGranted, Lawful}
use Rattle.candidate_eval.specs.Derivations.Rules.{Match, Pick, Upcast, Require, Step, fresh, enter, equate, quick, add, settle, pick, still_general, unknowable}
use Rattle.candidate_eval.specs.Judges.Soundness.{AreTreesOf, Follows, GoalIsOf, GoalsAreOf, Live, is_strange, universes}
use Rattle.candidate_eval.specs.Judges.States.{Env, Judge, Pending, State, added, fresh_variables, next, placeholders, resolved, valued, with_fresh, with_pending, with_universe}
use Rattle.candidate_eval.proofs.Marks.Holds.{holds_imply}
use Rattle.candidate_assembly.proofs.Refusals.KnownFresh.{counted-still, fits-still, fresh-all, fresher, sound-still, strange-still, wider}
use Rattle.candidate_assembly.proofs.Sense.Sense.{MakesSense, MatchIsOf, StaysKnown, StepIsOf, StepsAreOf, fresh-trees, goals-stay, later-on, pending-sound, pending-stays, placeholders-trees, put-here, trees-join, trees-stay, universe-sound, universe-stays, within-on}
use Rattle.candidate_assembly.proofs.Sense.SenseLater.{later-along, later-fresh, later-pending, later-universe}
use Rattle.candidate_assembly.proofs.Goals.Standing.{strange-later}
use Rattle.candidate_assembly.proofs.Sense.SensePicks.{all-first, all-second}
use Rattle.rounds_judge.specs.Aliases.Congruence.{AreListed, Same, SameBy, along, back}
use Rattle.rounds_judge.specs.Obligations.Granted.{IsFreshFor, facts_in}
use Rattle.rounds_judge.specs.Aliases.Listed.{Listing}
use Rattle.rounds_judge.proofs.Aliases.Congruent.{is_stray, strange_stray, terms_of, without_regions}
use Rattle.rounds_judge.proofs.Projections.Equality.{wider as with_pairs}
use Rattle.rounds_judge.proofs.Obligations.Granting.{fresh_for_later, goal_known, newest_fresh, opened_stray}
use Rattle.rounds_judge.proofs.States.Later.{follows_along, known_later}
use Rattle.derivations.specs.Derivations.{Pairs, PremisesModulo, Reading, done, mentioned, read, shown, steps_of, with_equation, with_goal, with_match, with_placeholders, with_quick, with_settle, with_variables}
use Rattle.derivations.proofs.Putting.{fresh_terms, suited_kinds, terms_suit}
use Rattle.derivations.proofs.Backing.{Backs}
use Rattle.derivations.proofs.Sharing.{shared_listed}

fresh_shown : (S : State) (ks : List Kind) → kinds_of (fresh_variables S ks) ≡ map shown ks
fresh_shown S [] = refl
fresh_shown S (ConstantKind ∷ ks) = ap (λ xs. ConstantKind ∷ xs) (fresh_shown (with_fresh S (Term Constant)) ks)
fresh_shown S (RegionKind ∷ ks) = ap (λ xs. RegionKind ∷ xs) (fresh_shown (with_fresh S Region) ks)
fresh_shown S (_ ∷ ks) = ap (λ xs. TypeKind ∷ xs) (fresh_shown (with_fresh S (Term General)) ks)

-- what follows a state with other goals pending follows the state
pub follows_unpended : (R : State) (ps : List Pending) (U : State) (M : Live) → Follows (with_pending R ps) U M → Follows R U M
follows_unpended R ps U M f = record {
  live = f.live;
  within = f.within;
  sound = f.sound;
  fits = f.fits;
  later = record {
    longer = f.later.longer;
    infos = f.later.infos;
    no_root = f.later.no_root;
    universes = f.later.universes;
    fits = f.later.fits;
    values = f.later.values;
    newest = f.later.newest;
    mode = f.later.mode;
  };
}

-- What a state that follows tells of a state before it: all that is pending there is granted.
pub record Told (J : Judge) (U R : State) (M : Live) : Type 0 where
  pub granted : AreGranted J U R.pending
  pub follows : Follows R U M

abbrev pub reading_at : Env → Forest → State → Reading
reading_at e ts U = record { env = e; trees = ts; values = terms_of U }

-- And of steps from a place on.
pub record Backed (J : Judge) (d : Context) (l : Listing) (E : Pairs) (e : Env) (ts : Forest) (U R : State) (M : Live) (ls : Forest) (ss : List Step) (last : Forest) : Type 0 where
  pub premises : PremisesModulo d l E (universes U) (reading_at e ts U) ls ss last
  pub told : Told J U R M

-- Words of rules: those but one match nothing in probes, and those but two may lead to a Yes.

abbrev pub IsPlain : Step → Type 0
IsPlain (pick k ms) = ⊥
IsPlain (still_general t) = ⊥
IsPlain (unknowable r) = ⊥
IsPlain _ = Unit {0}

abbrev pub Serves : Step → Type 0
Serves (still_general t) = ⊥
Serves (unknowable r) = ⊥
Serves _ = Unit {0}

module _ (J : Judge) (law : Lawful J) (l : Listing) (d : Context) (E : Pairs) (backs : Backs J d l E)
    (S : State) (L : Live) (e : Env) (env : AreTreesOf S L e) (ts : Forest) (trees : AreTreesOf S L ts) where
  -- One step: the place that it comes to makes sense, and what is told of that one is told of the first.
  pub data Took (p : Place) (m : MakesSense S L p) (q : Place) (s : Step) (ss : List Step) : Type 0 where
    took : (n : MakesSense S L q) → StaysKnown p.state m.live q.state n.live
        → ((U : State) (last : Forest) → Backed J d l E e ts U q.state n.live q.locals ss last → Backed J d l E e ts U p.state m.live p.locals (s ∷ ss) last) → Took p m q s ss

  here : (p : Place) (m : MakesSense S L p) (us : Forest) → AreTreesOf S L us → AreTreesOf p.state m.live us
  here p m us a = trees-stay S L p.state m.live m.stays us a

  -- At a state that follows values of regions make no difference.
  module _ (p : Place) (m : MakesSense S L p) (U : State) (f : Follows p.state U m.live) where
    known_at : (us : Forest) → holds (is_strange p.state m.live) us ≡ false → holds (is_strange U f.live) us ≡ false
    known_at us k = known_later p.state U m.live f.live f.within f.later us k

    by_terms : (us : Forest) → holds (is_strange p.state m.live) us ≡ false → Same l (resolved U us) (valued (instance (terms_of U)) us)
    by_terms us k = without_regions l U f.live f.fits us (holds_imply (is_strange U f.live) (is_stray U f.live) (strange_stray U f.live) us (known_at us k))

    -- what is one under the environment with values put in is so with terms put in
    equal_terms : (a b : Forest) → AreTreesOf p.state m.live a → AreTreesOf p.state m.live b → SameBy (E (universes U) (resolved U e)) (resolved U a) (resolved U b)
        → SameBy (E (universes U) (valued (instance (terms_of U)) e)) (valued (instance (terms_of U)) a) (valued (instance (terms_of U)) b)
    equal_terms a b x y h = along (back (wide (by_terms a x.known))) (along (with_pairs (E (universes U) (resolved U e)) There (backs.pairs.moved (universes U) (resolved U e) (valued (instance (terms_of U)) e) (by_terms e (here p m e env).known)) h) (wide (by_terms b y.known)))
      where
        There : Tree → Tree → Type 0
        There = E (universes U) (valued (instance (terms_of U)) e)

        wide : {a b : Forest} → Same l a b → SameBy There a b
        wide q = with_pairs (AreListed l) There (backs.pairs.listed (universes U) (valued (instance (terms_of U)) e)) q

  -- fresh variables

  fresh_took : (p : Place) (m : MakesSense S L p) (ks : List Kind) (ss : List Step) → Took p m (made_fresh p ks) (fresh ks) ss
  fresh_took p m ks ss =
      let R = fresher p.state ks in
      let M = wider p.state m.live in
      let still = strange-still p.state m.live ks in
      let later = later-fresh p.state m.live m.sound ks in
      let vs = fresh_variables p.state ks in
      let made = fresh-trees p.state m.live ks in
      let f : Follows p.state R m.live = record { live = M; within = λ n l c. counted-still p.state m.live ks n c; sound = sound-still p.state m.live ks m.sound; fits = fits-still p.state m.live ks m.fits; later = later } in
      subst (λ (V : State). Took p m (with_locals p V vs) (fresh ks) ss) (sym (fresh-all p.state ks))
      (took
      (record {
        live = M;
        sound = f.sound;
        fits = f.fits;
        goals = goals-stay p.state m.live R M still p.state.pending m.goals;
        locals = trees-join R M p.locals vs (trees-stay p.state m.live R M still p.locals m.locals) made;
        stays = λ h x. still h (m.stays h x);
        first = m.first;
        within = within-on S L p m M f.within;
        later = later-on S L p m R later;
      })
      still
      (λ U last b.
      let g = b.told.follows in
      let known = known_later R U M g.live g.within g.later vs made.known in
      record {
        premises = with_variables ks vs (suited_kinds (terms_of U) vs (terms_suit U g.live g.fits vs known) ∙ fresh_shown p.state ks) b.premises;
        told = record { granted = b.told.granted; follows = follows_along p.state R U m.live m.sound f g };
      }))

  -- placeholders of a fresh universe

  mentioned_known : (p : Place) (m : MakesSense S L p) (U : State) → holds (is_strange p.state m.live) (mentioned (reading_at e ts U) p.locals) ≡ false
  mentioned_known p m U = (trees-join p.state m.live e (join ts p.locals) (here p m e env) (trees-join p.state m.live ts p.locals (here p m ts trees) m.locals)).known

  newest_there : (p : Place) (m : MakesSense S L p) (ks : List Kind) (U : State) → Follows p.state U m.live → IsFreshFor (universes U) ks (suc p.state.newest_universe) (read (reading_at e ts U) (mentioned (reading_at e ts U) p.locals))
  newest_there p m ks U f =
      let us = mentioned (reading_at e ts U) p.locals in
      let k = mentioned_known p m U in
      fresh_terms U f.live f.sound ks (suc p.state.newest_universe) us (known_at p m U f us k)
      (fresh_for_later p.state U m.live f.later ks (suc p.state.newest_universe) us k (newest_fresh p.state m.live m.sound ks us k))

  rigid_took : (p : Place) (m : MakesSense S L p) (ks : List Kind) (ss : List Step) → Took p m (made_rigid p ks) (enter ks) ss
  rigid_took p m [] ss =
      took m (λ h x. x) (λ U last b. record { premises = with_placeholders [] 0 tt (subst (λ ls. PremisesModulo d l E (universes U) (reading_at e ts U) ls ss last) (sym (join-none p.locals)) b.premises); told = b.told })
  rigid_took p m (k ∷ ks) ss =
      let R = with_universe p.state in
      let M = m.live in
      let still = universe-stays p.state M in
      let later = later-universe p.state M m.sound in
      let f : Follows p.state R M = record { live = M; within = λ n l c. c; sound = universe-sound p.state M m.sound; fits = m.fits; later = later } in
      took
      (record {
        live = M;
        sound = f.sound;
        fits = f.fits;
        goals = goals-stay p.state M R M still p.state.pending m.goals;
        locals = trees-join R M p.locals (placeholders (suc p.state.newest_universe) 0 (k ∷ ks)) (trees-stay p.state M R M still p.locals m.locals) (placeholders-trees p.state M (k ∷ ks));
        stays = λ h x. still h (m.stays h x);
        first = m.first;
        within = within-on S L p m M f.within;
        later = later-on S L p m R later;
      })
      still
      (λ U last b.
      let g = follows_along p.state R U M m.sound f b.told.follows in
      record { premises = with_placeholders (k ∷ ks) (suc p.state.newest_universe) (newest_there p m (k ∷ ks) U g) b.premises; told = record { granted = b.told.granted; follows = g } })

  -- an equation

  equated_so : (p : Place) (m : MakesSense S L p) (a b : Forest) (r : List Pending × State) (ss : List Step) → AreTreesOf S L a → AreTreesOf S L b → J.equated p.state e (put_in p a) (put_in p b) ≡ Some r
      → Took p m (with_goals p r) (equate a b) ss
  equated_so p m a b r ss left right was =
      let R = r.1 in
      let x = put-here J law S L e env p m a left in
      let y = put-here J law S L e env p m b right in
      let n = law.equations.equating_follows p.state R m.live e (put_in p a) (put_in p b) r.0 m.sound m.fits (here p m e env) x y was in
      let f = n.follows in
      let M = f.live in
      let still = strange-later p.state R m.live M f.within f.later in
      let ps = R.pending ++ r.0 in
      let V = with_pending R ps in
      let set = pending-stays R M ps in
      let kept = law.equations.equating_keeps_pending p.state R e (put_in p a) (put_in p b) r.0 was in
      let old : GoalsAreOf R M R.pending = subst (GoalsAreOf R M) (sym kept) (goals-stay p.state m.live R M still p.state.pending m.goals) in
      took
      (record {
        live = M;
        sound = pending-sound R M ps f.sound;
        fits = f.fits;
        goals = goals-stay R M V M set ps (All-append (λ (z : Pending). GoalIsOf R M z.goal) R.pending r.0 old n.goals);
        locals = trees-stay R M V M set p.locals (trees-stay p.state m.live R M still p.locals m.locals);
        stays = λ h z. set h (still h (m.stays h z));
        first = m.first;
        within = within-on S L p m M f.within;
        later = later-on S L p m V (later-along p.state R V m.live M m.sound f.within f.later (later-pending R M f.sound ps));
      })
      (λ h z. set h (still h z))
      (λ U last z.
      let g = follows_unpended R ps U M z.told.follows in
      let h = follows_along p.state R U m.live m.sound f g in
      record {
        premises = with_equation a b (equal_terms p m U h (put_in p a) (put_in p b) x y (backs.equated p.state R U m.live e (put_in p a) (put_in p b) r.0 m.sound m.fits (here p m e env) x y f n.goals g (all-second (λ (q : Pending). J.granted U q.goal) R.pending r.0 z.told.granted) was)) z.premises;
        told = record { granted = subst (AreGranted J U) kept (all-first (λ (q : Pending). J.granted U q.goal) R.pending r.0 z.told.granted); follows = h };
      })

  equated_took : (p : Place) (m : MakesSense S L p) (a b : Forest) (q : Place) (ss : List Step) → AreTreesOf S L a → AreTreesOf S L b → equated_at J e p a b ≡ Some q → Took p m q (equate a b) ss
  equated_took p m a b q ss left right is = at (J.equated p.state e (put_in p a) (put_in p b)) refl is
    where
      at : (o : Option (List Pending × State)) → J.equated p.state e (put_in p a) (put_in p b) ≡ o → next o (λ r. Some (with_goals p r)) ≡ Some q → Took p m q (equate a b) ss
      at None was g = absurd cc
      at (Some r) was g = let same : with_goals p r ≡ q = cc in subst (λ (z : Place). Took p m z (equate a b) ss) same (equated_so p m a b r ss left right was)

  -- settling

  settled_so : (p : Place) (m : MakesSense S L p) (r : Certainty × State) (ss : List Step) → J.settled p.state ≡ Some r → Took p m (at_state p r.1) settle ss
  settled_so p m r ss was =
      let R = r.1 in
      let n = law.granted.settling_follows p.state R m.live r.0 m.sound m.fits m.goals was in
      let f = n.follows in
      let M = f.live in
      let still = strange-later p.state R m.live M f.within f.later in
      took
      (record {
        live = M;
        sound = f.sound;
        fits = f.fits;
        goals = n.goals;
        locals = trees-stay p.state m.live R M still p.locals m.locals;
        stays = λ h x. still h (m.stays h x);
        first = m.first;
        within = within-on S L p m M f.within;
        later = later-on S L p m R f.later;
      })
      still
      (λ U last z. record {
        premises = with_settle z.premises;
        told = record {
          granted = law.granted.settling_drops_granted p.state R U m.live r.0 m.sound m.fits m.goals was f n.goals z.told.follows z.told.granted;
          follows = follows_along p.state R U m.live m.sound f z.told.follows;
        };
      })

  settled_took : (p : Place) (m : MakesSense S L p) (q : Place) (ss : List Step) → settled_at J p ≡ Some q → Took p m q settle ss
  settled_took p m q ss is = at (J.settled p.state) refl is
    where
      at : (o : Option (Certainty × State)) → J.settled p.state ≡ o → next o (λ r. Some (at_state p r.1)) ≡ Some q → Took p m q settle ss
      at None was g = absurd cc
      at (Some r) was g = let same : at_state p r.1 ≡ q = cc in subst (λ (z : Place). Took p m z settle ss) same (settled_so p m r ss was)

  -- a goal that becomes pending

  added_took : (p : Place) (m : MakesSense S L p) (s : GoalSource) (x : Tree) (ss : List Step) → AreTreesOf S L (alone x) → Took p m (at_state p (added p.state (goal_at e p s x))) (add s x) ss
  added_took p m s x ss a =
      let R = p.state in
      let M = m.live in
      let own : Pending = goal_at e p s x in
      let ps = R.pending ++ own ∷ [] in
      let V = with_pending R ps in
      let set = pending-stays R M ps in
      let IsOf = λ (z : Pending). GoalIsOf R M z.goal in
      let of : GoalIsOf R M own.goal = record { env = here p m e env; clause = put-here J law S L e env p m (alone x) a } in
      took
      (record {
        live = M;
        sound = pending-sound R M ps m.sound;
        fits = m.fits;
        goals = goals-stay R M V M set ps (All-append IsOf R.pending (own ∷ []) m.goals (All-cons IsOf own [] of (All-nil IsOf)));
        locals = trees-stay R M V M set p.locals m.locals;
        stays = λ h z. set h (m.stays h z);
        first = m.first;
        within = within-on S L p m M (λ n l c. c);
        later = later-on S L p m V (later-pending R M m.sound ps);
      })
      set
      (λ U last z.
      let IsGranted = λ (q : Pending). J.granted U q.goal in
      let f = follows_unpended R ps U M z.told.follows in
      let c = put_in_tree p x in
      let granted = backs.granted U own.goal (All-head IsGranted own [] (all-second IsGranted R.pending (own ∷ []) z.told.granted)) in
      let known = goal_known R M own.goal of in
      let fs = facts_in granted.universe c in
      let stray = opened_stray U f.live granted.universe (bound_kinds c.children) (after_first c.children) (known_at p m U f (after_first c.children) (Rattle.rounds_judge.proofs.Obligations.Granting.facts_known R M own.goal of)) in
      record {
        premises = with_goal s x granted.universe
            (fresh_terms U f.live f.sound (bound_kinds c.children) granted.universe (join e (after_first c.children)) (known_at p m U f (join e (after_first c.children)) known) granted.is_fresh)
            (shared_listed d l E backs.pairs (universes U) granted.facts (valued (instance (terms_of U)) e) (valued (instance (terms_of U)) fs) (by_terms p m U f e (here p m e env).known) (without_regions l U f.live f.fits fs stray))
            z.premises;
        told = record { granted = all-first IsGranted R.pending (own ∷ []) z.told.granted; follows = f };
      })

  -- one step, and all of them

  at_place : (o : Option Place) (q : Place) → reached Refused o ≡ At q → o ≡ Some q
  at_place None q e = absurd cc
  at_place (Some p) q e = let same : p ≡ q = cc in ap (λ (x : Place). Some x) same

  at_same : (p : Place) (b : Bool) (q : Place) → at_if p b ≡ At q → p ≡ q
  at_same p true q e = let same : p ≡ q = cc in same
  at_same p false q e = absurd cc

  step_took : (s : Step) → StepIsOf S L s → IsPlain s → (p : Place) (m : MakesSense S L p) (q : Place) (ss : List Step) → step J e p s ≡ At q → Took p m q s ss
  step_took (fresh ks) of v p m q ss is = let same : made_fresh p ks ≡ q = cc in subst (λ (z : Place). Took p m z (fresh ks) ss) same (fresh_took p m ks ss)
  step_took (enter ks) of v p m q ss is = let same : made_rigid p ks ≡ q = cc in subst (λ (z : Place). Took p m z (enter ks) ss) same (rigid_took p m ks ss)
  step_took (equate a b) of v p m q ss is = equated_took p m a b q ss of.0 of.1 (at_place (equated_at J e p a b) q is)
  step_took (quick a b) of v p m q ss is = subst (λ (z : Place). Took p m z (quick a b) ss) (at_same p _ q is) (took m (λ h x. x) (λ U last z. record { premises = with_quick a b z.premises; told = z.told }))
  step_took (add s x) of v p m q ss is = let same : at_state p (added p.state (goal_at e p s x)) ≡ q = cc in subst (λ (z : Place). Took p m z (add s x) ss) same (added_took p m s x ss of)
  step_took settle of v p m q ss is = settled_took p m q ss (at_place (settled_at J p) q is)
  step_took (pick k ms) of v p m q ss is = absurd v
  step_took (still_general t) of v p m q ss is = absurd v
  step_took (unknowable r) of v p m q ss is = absurd v

  pub data Ran (p : Place) (m : MakesSense S L p) (q : Place) (ss : List Step) : Type 0 where
    ran : (n : MakesSense S L q) → StaysKnown p.state m.live q.state n.live → ((U : State) → Told J U q.state n.live → Backed J d l E e ts U p.state m.live p.locals ss q.locals) → Ran p m q ss

  -- steps, each of which is taken so
  module _ (Is : Step → Type 0) (takes : (s : Step) → StepIsOf S L s → Is s → (p : Place) (m : MakesSense S L p) (q : Place) (ss : List Step) → step J e p s ≡ At q → Took p m q s ss) where
    run_by : (ss : List Step) → StepsAreOf S L ss → All Is ss → (p : Place) (m : MakesSense S L p) (q : Place) → run J e p ss ≡ At q → Ran p m q ss
    run_by [] all v p m q is = let same : p ≡ q = cc in subst (λ (z : Place). Ran p m z []) same (ran m (λ h x. x) (λ U t. record { premises = done; told = t }))
    run_by (s ∷ ss) all v p m q is = at (step J e p s) refl (λ x n g. run_by ss (All-tail (StepIsOf S L) s ss all) (All-tail Is s ss v) x n q g) is
      where
        both : (x : Place) (n : MakesSense S L x) → StaysKnown p.state m.live x.state n.live
            → ((U : State) (last : Forest) → Backed J d l E e ts U x.state n.live x.locals ss last → Backed J d l E e ts U p.state m.live p.locals (s ∷ ss) last) → Ran x n q ss → Ran p m q (s ∷ ss)
        both x n stays so_back (ran k further more) = ran k (λ h y. further h (stays h y)) (λ U t. so_back U q.locals (more U t))

        on : (x : Place) → Took p m x s ss → ((n : MakesSense S L x) → Ran x n q ss) → Ran p m q (s ∷ ss)
        on x (took n stays so_back) k = both x n stays so_back (k n)

        at : (r : Reached) → step J e p s ≡ r → ((x : Place) (n : MakesSense S L x) → run J e x ss ≡ At q → Ran x n q ss) → go_on r (λ x. run J e x ss) ≡ At q → Ran p m q (s ∷ ss)
        at (At x) was k g = on x (takes s (All-head (StepIsOf S L) s ss all) (All-head Is s ss v) p m x ss was) (λ n. k x n g)
        at (Ambiguous R) was k g = absurd cc
        at (Over j) was k g = absurd cc

  -- One of some bounds is matched.

  match_of : (x : Match) → MatchIsOf S L x → StepsAreOf S L (steps_of x)
  match_of x of =
      let P = StepIsOf S L in
      All-cons P (enter x.entered) (fresh x.instantiated ∷ equate x.left x.right ∷ []) tt
      (All-cons P (fresh x.instantiated) (equate x.left x.right ∷ []) tt (All-cons P (equate x.left x.right) [] (of.left, of.right) (All-nil P)))

  match_plain : (x : Match) → All IsPlain (steps_of x)
  match_plain x =
      All-cons IsPlain (enter x.entered) (fresh x.instantiated ∷ equate x.left x.right ∷ []) tt
      (All-cons IsPlain (fresh x.instantiated) (equate x.left x.right ∷ []) tt (All-cons IsPlain (equate x.left x.right) [] tt (All-nil IsPlain)))

  match_runs : (p : Place) (x : Match) (q : Place) → matched J e p x ≡ Some q → run J e p (steps_of x) ≡ At q
  match_runs p x q is = ap (λ o. go_on (reached Refused o) (λ z. At z)) is

  -- what settling adds is nothing
  unsettled : {n : Reading} {w : _} {ls last : Forest} (x : Match) → PremisesModulo d l E w n ls (enter x.entered ∷ fresh x.instantiated ∷ equate x.left x.right ∷ settle ∷ []) last → PremisesModulo d l E w n ls (steps_of x) last
  unsettled x (with_placeholders ks u f (with_variables js more g (with_equation a b h (with_settle p)))) = with_placeholders ks u f (with_variables js more g (with_equation a b h p))

  pub data Met (p : Place) (m : MakesSense S L p) (x : Match) (q : Place) : Type 0 where
    met : (n : MakesSense S L q) → StaysKnown p.state m.live q.state n.live → ((U : State) → Told J U q.state n.live → Backed J d l E e ts U p.state m.live p.locals (steps_of x) q.locals) → Met p m x q

  matched_met : (p : Place) (m : MakesSense S L p) (x : Match) (q : Place) → MatchIsOf S L x → matched J e p x ≡ Some q → Met p m x q
  matched_met p m x q of is = as_met (run_by IsPlain step_took (steps_of x) (match_of x of) (match_plain x) p m q (match_runs p x q is))
    where
      as_met : Ran p m q (steps_of x) → Met p m x q
      as_met (ran n stays so_back) = met n stays so_back

  settled_met : (p : Place) (m : MakesSense S L p) (x : Match) (q : Place) → MatchIsOf S L x → matched_and_settled J e p x ≡ Some q → Met p m x q
  settled_met p m x q of is =
      as_met (run_by IsPlain step_took (enter x.entered ∷ fresh x.instantiated ∷ equate x.left x.right ∷ settle ∷ []) all plain p m q (runs (matched J e p x) is))
    where
      P : Step → Type 0
      P = StepIsOf S L

      all : StepsAreOf S L (enter x.entered ∷ fresh x.instantiated ∷ equate x.left x.right ∷ settle ∷ [])
      all =
          All-cons P (enter x.entered) (fresh x.instantiated ∷ equate x.left x.right ∷ settle ∷ []) tt
          (All-cons P (fresh x.instantiated) (equate x.left x.right ∷ settle ∷ []) tt (All-cons P (equate x.left x.right) (settle ∷ []) (of.left, of.right) (All-cons P settle [] tt (All-nil P))))

      plain : All IsPlain (enter x.entered ∷ fresh x.instantiated ∷ equate x.left x.right ∷ settle ∷ [])
      plain =
          All-cons IsPlain (enter x.entered) (fresh x.instantiated ∷ equate x.left x.right ∷ settle ∷ []) tt
          (All-cons IsPlain (fresh x.instantiated) (equate x.left x.right ∷ settle ∷ []) tt (All-cons IsPlain (equate x.left x.right) (settle ∷ []) tt (All-cons IsPlain settle [] tt (All-nil IsPlain))))

      runs : (o : Option Place) → next o (settled_at J) ≡ Some q → go_on (reached Refused o) (λ z. run J e z (settle ∷ [])) ≡ At q
      runs None g = absurd cc
      runs (Some z) g = ap (λ o. go_on (reached Refused o) (λ y. At y)) g

      as_met : Ran p m q (enter x.entered ∷ fresh x.instantiated ∷ equate x.left x.right ∷ settle ∷ []) → Met p m x q
      as_met (ran n stays so_back) = met n stays (λ U t. let b = so_back U t in record { premises = unsettled x b.premises; told = b.told })

  met_took : (k : Pick) (ms : List Match) (p : Place) (m : MakesSense S L p) (x : Match) (q : Place) (ss : List Step) → Contains ms x → MatchIsOf S L x → Met p m x q → Took p m (with_locals p q.state (alone (put_in_tree q x.term))) (pick k ms) ss
  met_took k ms p m x q ss there of (met n stays so_back) =
      took
      (record {
        live = n.live;
        sound = n.sound;
        fits = n.fits;
        goals = n.goals;
        locals = trees-join q.state n.live p.locals (alone (put_in_tree q x.term)) (trees-stay p.state m.live q.state n.live stays p.locals m.locals) (put-here J law S L e env q n (alone x.term) of.term);
        stays = n.stays;
        first = n.first;
        within = n.within;
        later = n.later;
      })
      stays
      (λ U last z. let b = so_back U z.told in record { premises = with_match k ms x q.locals there b.premises z.premises; told = b.told })

  contains_first : (f : Match → Bool) (ms : List Match) (x : Match) (xs : List Match) → filter f ms ≡ x ∷ xs → Contains ms x
  contains_first f ms x xs is = All-head (Contains ms) x xs (subst (All (Contains ms)) is (All-filter f (Contains ms) ms (All-contains_itself ms)))

  taken_took : (k : Pick) (ms : List Match) (p : Place) (m : MakesSense S L p) (x : Match) (o : Option Place) (q : Place) (ss : List Step) → Contains ms x → MatchIsOf S L x → ((z : Place) → o ≡ Some z → Met p m x z)
      → taken k p x.term o ≡ At q → Took p m q (pick k ms) ss
  taken_took Upcast ms p m x None q ss there of meets is = absurd cc
  taken_took Require ms p m x None q ss there of meets is = absurd cc
  taken_took Upcast ms p m x (Some z) q ss there of meets is =
      let same : with_locals p z.state (alone (put_in_tree z x.term)) ≡ q = cc in subst (λ (y : Place). Took p m y (pick Upcast ms) ss) same (met_took Upcast ms p m x z ss there of (meets z refl))
  taken_took Require ms p m x (Some z) q ss there of meets is =
      let same : with_locals p z.state (alone (put_in_tree z x.term)) ≡ q = cc in subst (λ (y : Place). Took p m y (pick Require ms) ss) same (met_took Require ms p m x z ss there of (meets z refl))

  picked_took : (k : Pick) (ms : List Match) → All (MatchIsOf S L) ms → (p : Place) (m : MakesSense S L p) (xs : List Match) → filter (matches J e k p) ms ≡ xs → (q : Place) (ss : List Step) → picked J e k p xs ≡ At q → Took p m q (pick k ms) ss
  picked_took Upcast ms all p m [] f q ss is = absurd cc
  picked_took Require ms all p m [] f q ss is = absurd cc
  picked_took Upcast ms all p m (x ∷ []) f q ss is =
      let there = contains_first (matches J e Upcast p) ms x [] f in
      let of = All-contains (MatchIsOf S L) ms x all there in
      taken_took Upcast ms p m x (matched_and_settled J e p x) q ss there of (λ z g. settled_met p m x z of g) is
  picked_took Require ms all p m (x ∷ []) f q ss is =
      let there = contains_first (matches J e Require p) ms x [] f in
      let of = All-contains (MatchIsOf S L) ms x all there in
      taken_took Require ms p m x (matched J e p x) q ss there of (λ z g. matched_met p m x z of g) is
  picked_took Upcast ms all p m (x ∷ (y ∷ xs)) f q ss is = absurd cc
  picked_took Require ms all p m (x ∷ (y ∷ xs)) f q ss is = absurd cc

  any_took : (s : Step) → StepIsOf S L s → Serves s → (p : Place) (m : MakesSense S L p) (q : Place) (ss : List Step) → step J e p s ≡ At q → Took p m q s ss
  any_took (pick k ms) of v p m q ss is = picked_took k ms of p m (filter (matches J e k p) ms) refl q ss is
  any_took (fresh ks) of v p m q ss is = step_took (fresh ks) of tt p m q ss is
  any_took (enter ks) of v p m q ss is = step_took (enter ks) of tt p m q ss is
  any_took (equate a b) of v p m q ss is = step_took (equate a b) of tt p m q ss is
  any_took (quick a b) of v p m q ss is = step_took (quick a b) of tt p m q ss is
  any_took (add s x) of v p m q ss is = step_took (add s x) of tt p m q ss is
  any_took settle of v p m q ss is = step_took settle of tt p m q ss is
  any_took (still_general t) of v p m q ss is = absurd v
  any_took (unknowable r) of v p m q ss is = absurd v

  -- All steps.
  pub run_ran : (ss : List Step) → StepsAreOf S L ss → All Serves ss → (p : Place) (m : MakesSense S L p) (q : Place) → run J e p ss ≡ At q → Ran p m q ss
  run_ran ss all v p m q is = run_by Serves any_took ss all v p m q is
