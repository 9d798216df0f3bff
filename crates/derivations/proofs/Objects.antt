-- By a clause that an object states of itself: its match, and what is required of the object as a rule's steps, have their premises.
use Rattle.std.proofs.Common.{◌≡◌, ◌⊎◌, inl, inr, ℕ, true, false, Some, List, [], ◌∷◌, ◌++◌, map, length, refl, sym, ap, subst, ◌∙◌, arith}
use Rattle.std.specs.List.{All}
use Rattle.std.proofs.lemmas.List.Elements.{All-cons, All-nil}
use Rattle.ir_trees.specs.declared.decl.limits.Limits.{Limits}
use Rattle.ir_trees.specs.Declarations.Context.{Context, Grows}
use Rattle.ir_trees.specs.Declarations.Worlds.{World, kinds_of}
use Rattle.ir_trees.specs.Hierarchy.Elaboration.{first_children}
use Rattle.ir_trees.specs.Syntax.Trees.{Forest, Kind, Tree, holds, is_param, join, none, tree}
use Rattle.ir_trees.specs.Unification.Substitutions.{alone}
use Rattle.ir_trees.specs.Validity.WellFormed.{IsWellFormedTable}
use Rattle.candidate_eval.specs.declared.eval.certainty.Certainty.TheVariants.{Yes}
use Rattle.candidate_eval.specs.Builtins.Callable.{all_but_last}
use Rattle.candidate_eval.specs.Derivations.Characterization.{binder_kinds, bound_kinds}
use Rattle.candidate_eval.specs.Derivations.ImplRules.{TraitGoal}
use Rattle.candidate_eval.specs.Derivations.Judging.{At, Gives, Place, answered, asked, comes_to, made_fresh, put_in_tree, run, start}
use Rattle.candidate_eval.specs.Derivations.Naming.{row_of}
use Rattle.candidate_eval.specs.Derivations.Rules.{ask, fresh, nested}
use Rattle.candidate_eval.specs.Dynamic.ObjectRequirements.{AreAsked, first_tree, fresh_arguments, goal_in}
use Rattle.candidate_eval.specs.Dynamic.ObjectRules.{IsRuleAt, named_clauses, picks_of, place_at, projections_in}
use Rattle.candidate_eval.specs.Dynamic.Replacing.{Finds, own_projection}
use Rattle.candidate_eval.specs.Dynamic.Required.{own_bounds}
use Rattle.candidate_eval.specs.Judges.Instances.{instance}
use Rattle.candidate_eval.specs.Judges.Lawful.{AnswersYes, Lawful}
use Rattle.candidate_eval.specs.Judges.Soundness.{AreTreesOf, Follows, GoalsAreOf, IsSound, Live, ValuesFit}
use Rattle.candidate_eval.specs.Judges.States.{Judge, State, fresh_variables, valued}
use Rattle.candidate_eval.specs.Outcomes.Responses.{Candidate}
use Rattle.candidate_assembly.specs.Answers.SureAnswers.{ObjectGrants}
use Rattle.candidate_assembly.specs.Goals.TraitGoals.{match_trait}
use Rattle.candidate_assembly.specs.Goals.TraitRules.{trait_bounds, trait_rules}
use Rattle.candidate_assembly.specs.Laws.Given.{IsCounted}
use Rattle.candidate_assembly.proofs.Objects.ObjectLaws.{has_dynamic}
use Rattle.candidate_assembly.specs.Laws.SuperLaws.{Each, IsFitting}
use Rattle.candidate_assembly.specs.Rules.ObjectBounds.{nested_goals, reference_by, trait_by}
use Rattle.candidate_assembly.proofs.Goals.Standing.{known-below}
use Rattle.candidate_assembly.proofs.Objects.ObjectAsking.{all-required}
use Rattle.candidate_assembly.proofs.Objects.ObjectRuling.{nested-comes}
use Rattle.candidate_assembly.proofs.Sense.Sense.{MakesSense, StaysKnown, StepIsOf, StepsAreOf, trees-join, trees-stay}
use Rattle.candidate_assembly.proofs.Sense.SenseClauses.{IsClauseOf, bounds-of-type, clause-stays-of, own-bounds-of}
use Rattle.candidate_assembly.proofs.Sense.SenseFree.{IsFree, first-free, instance-free, own-bounds-free, own-free}
use Rattle.candidate_assembly.proofs.Sense.SenseKinds.{match-steps}
use Rattle.candidate_assembly.proofs.Sense.SenseLater.{later-itself}
use Rattle.candidate_assembly.proofs.Sense.SenseObjectRules.{all-closed, all-free, rule-trees-of}
use Rattle.candidate_assembly.proofs.Sense.SenseObjects.{clauses-terms, reference-of}
use Rattle.candidate_assembly.proofs.Sense.SensePicks.{IsTerm, all-arguments-of, instance-of}
use Rattle.candidate_assembly.specs.Goals.Standing.{StandsWithPending}
use Rattle.candidate_assembly.proofs.Sense.SenseProved.{first-trees}
use Rattle.candidate_assembly.proofs.Sense.SenseRequired.{own-clause-of, required-of}
use Rattle.rounds_judge.specs.Aliases.Congruence.{same}
use Rattle.rounds_judge.specs.Aliases.Listed.{Listing}
use Rattle.rounds_judge.specs.Table.Keys.{goal_trees}
use Rattle.rounds_judge.proofs.Aliases.Congruent.{terms_of}
use Rattle.rounds_judge.proofs.States.Later.{known_later}
use Rattle.rounds_judge.proofs.Table.TableSettled.{apart}
use Rattle.derivations.specs.Derivations.{Pairs, PremisesModulo, by_object, done, own_steps, read, shown, with_variables}
use Rattle.derivations.proofs.Backing.{Backs}
use Rattle.derivations.specs.Ordinary.{IsOrdinary, IsUnordinary}
use Rattle.derivations.proofs.Assumed.{ordinary_or_not}
use Rattle.derivations.proofs.OpenProjections.{fresh_bare}
use Rattle.derivations.proofs.OwnSteps.{ComesTo, IsQuiet, named_clauses_are, nested_below, quiet_comes, steps_are, steps_have}
use Rattle.derivations.proofs.Putting.{terms_suit}
use Rattle.derivations.proofs.Rules.{IsAnswered, IsReadable, along_follows}
use Rattle.derivations.proofs.Steps.{Backed, Ran, Serves, Told, ran, run_ran}
use Rattle.derivations.proofs.Ways.{match_serves}

abbrev pub world_of : Context → World
world_of c = Rattle.ir_trees.specs.Declarations.Context.world c

-- where steps begin
abbrev begins_at : (S : State) (L : Live) → IsSound S L → ValuesFit S L → GoalsAreOf S L S.pending → MakesSense S L (start S)
begins_at S L sound fits goals = record {
  live = L;
  sound = sound;
  fits = fits;
  goals = goals;
  locals = record { known = refl; is_closed = refl };
  stays = λ h z. z;
  first = sound;
  within = λ n l c. c;
  later = later-itself S L sound;
}

-- The instance has the binder's variables of its clause.

bound_first : (ts : Forest) → binder_kinds (first_children ts) ≡ bound_kinds ts
bound_first none = refl
bound_first (tree h below rest) = refl

-- What stands for fresh variables is of their kinds.
fresh_kinds : {d : Context} {l : Listing} {E : Pairs} {w : _} {n : Rattle.derivations.specs.Derivations.Reading} {ks : List Kind} {last : Forest} → PremisesModulo d l E w n none (fresh ks ∷ []) last → kinds_of (read n last) ≡ map shown ks
fresh_kinds (with_variables ks more e done) = e

module _ (J : Judge) (law : Lawful J) (l : Listing) (d : Context) (E : Pairs) (backs : Backs J d l E)
    (S : State) (L : Live) (g : TraitGoal) (s : StandsWithPending S L g) (readable : IsReadable g) (c : Context) (grows : Grows d c) (well : IsWellFormedTable c) (few : IsCounted c) where
  abbrev arguments : Forest
  arguments = g.reference.arguments

  abbrev type : Tree
  type = first_tree arguments

  abbrev bounds : Forest
  bounds = all_but_last type.children

  abbrev serves : (k : ℕ) (bs : List Tree) (ps : List _) (cs : List Tree) → All Serves (picks_of k bs ps ++ nested cs)
  serves k bs ps cs = steps_have Serves (λ ms. tt) (λ c. tt) k bs ps cs

  module _ (x : Candidate) (sure : x.result.certainty ≡ Yes) (h : ObjectGrants trait_rules trait_bounds J c S g x) (fits : IsFitting (world_of c) type) where
    abbrev clause : Tree
    clause = h.own.clause

    abbrev P : State
    P = h.place.state

    abbrev reference : Tree
    reference = reference_by c clause

    abbrev ks : List Kind
    ks = bound_kinds reference.children

    -- the place with the fresh variables of the instance
    abbrev Q : Place
    Q = made_fresh (start P) ks

    abbrev instances : Forest
    instances = fresh_arguments P reference

    abbrev object : Tree
    object = first_tree instances

    abbrev bs : List Tree
    bs = own_bounds object bounds

    abbrev f : Finds
    f = own_projection object bs

    asked_of : AreAsked J g.env c P (trait_by c clause.head) reference bounds h.goals h.last
    asked_of = all-required true J g.env c P (trait_by c clause.head) reference bounds h.goals h.last refl h.are_asked

    abbrev required : List Tree
    required = asked_of.required

    dynamic : Rattle.candidate_assembly.specs.Rules.DynBounds.is_dynamic type.head ≡ true
    dynamic = has_dynamic c g.reference.trait type h.has_own

    own_of : IsClauseOf S L clause
    own_of = own-clause-of c well few.traits S L type h.supers h.own dynamic fits (first-trees S L arguments s.arguments) h.are_supers h.is_own

    type_free : IsFree type
    type_free = first-free arguments (apart is_param g.env arguments readable.no_parameter).1

    clause_free : holds is_param clause.children ≡ false
    clause_free = own-free c well type h.supers h.own dynamic fits type_free h.are_supers h.is_own

    instances_free : holds is_param instances ≡ false
    instances_free = instance-free c P clause clause_free

    -- What is known at the state with the fresh variables.
    module _ (so : IsOrdinary object bounds required) (M : Live) (stays : StaysKnown S L Q.state M) (args : AreTreesOf Q.state M instances) where
      known : (ts : Forest) → AreTreesOf S L ts → AreTreesOf Q.state M ts
      known ts a = trees-stay S L Q.state M stays ts a

      own_bounds_of : Each (IsClauseOf Q.state M) bs
      own_bounds_of =
          own-bounds-of Q.state M object (first-trees Q.state M instances args) bounds
          (bounds-of-type Q.state M (world_of c) type dynamic fits (known (alone type) (first-trees S L arguments s.arguments)))

      required_terms : Each (IsTerm Q.state M) required
      required_terms = clauses-terms Q.state M required (required-of c well few.traits Q.state M few.bounds (trait_by c clause.head) instances required args asked_of.requirements)

      named_terms : Each (IsTerm Q.state M) (named_clauses f 0 required)
      named_terms = named_clauses_are Q.state M f 0 required required_terms

      own_steps_of : StepsAreOf Q.state M (own_steps object bounds required)
      own_steps_of =
          steps_are Q.state M 0 bs (projections_in f required) (named_clauses f 0 required) own_bounds_of
          (all-arguments-of object bs Q.state M required required_terms so.0) named_terms

      at_rule : IsRuleAt Q.state none (length Q.state.variables) g.env bs required
      at_rule =
          let terms = clauses-terms Q.state M bs own_bounds_of in
          record {
            env = known-below Q.state M g.env (known g.env s.env);
            bounds = rule-trees-of Q.state M bs terms (all-free bs (own-bounds-free object type (first-free instances instances_free) type_free));
            closed = all-closed Q.state M bs terms;
            required = rule-trees-of Q.state M required required_terms so.1;
            there = omega arith;
            locals = refl;
          }

      -- the steps come to a place at which the response is given
      comes : ComesTo J g.env (start Q.state) (own_steps object bounds required) h.own.source (record { source = h.own.source; result = x.result })
      comes =
          let rule = asked_of.as_rule in
          let n = length Q.state.variables in
          let rest = named_clauses f 0 required in
          let y : Candidate = record { source = h.own.source; result = x.result } in
          let last = place_at h.last (join none (row_of rule.terms)) in
          let goals : map (goal_in g.env) (map (put_in_tree last) rest) ≡ h.goals = ap (map (goal_in g.env)) (rule.goals n none at_rule) ∙ sym asked_of.are in
          let gives : comes_to J g.env (start Q.state) (own_steps object bounds required) (ask h.own.source Yes) ≡ Gives y =
          rule.comes n none at_rule (nested rest) (ask h.own.source Yes) (nested_below Q.state M rest named_terms) tt
          ∙ (nested-comes J g.env last rest h.own.source Yes
          ∙ (ap (λ gs. asked J (nested_goals h.last gs) h.own.source Yes) goals ∙ ap (answered h.own.source) h.granted.responded)) in
          quiet_comes J g.env law (start Q.state) (own_steps object bounds required) (steps_have IsQuiet (λ ms. tt) (λ c. tt) 0 bs (projections_in f required) rest) h.own.source y gives sure

    -- Where all is granted that is pending in the end, the goal is derived.
    module _ (first : MakesSense S L h.place) (ran_match : (U : State) → Told J U P first.live → Backed J d l E g.env arguments U S L none (match_trait g clause) h.place.locals)
        (second : MakesSense P first.live Q) (ran_fresh : (U : State) → Told J U Q.state second.live → Backed J d l E g.env arguments U P first.live none (fresh ks ∷ []) Q.locals) where
      ended : IsOrdinary object bounds required → (q : Place) (third : MakesSense Q.state second.live q)
          → ((U : State) → Told J U q.state third.live → Backed J d l E g.env arguments U Q.state second.live none (own_steps object bounds required) q.locals) → J.responded q.state Yes ≡ Some x.result → IsAnswered d l E S L g x.result
      ended so q third ran_own responded =
          let a : AnswersYes J q.state third.live x.result = law.responses.yes_is_granted q.state third.live Yes x.result third.sound third.fits third.goals responded sure in
          let U = a.last in
          let b = ran_own U (record { granted = a.granted; follows = a.follows }) in
          let e = ran_fresh U b.told in
          let m = ran_match U e.told in
          let whole : Follows S U L =
          along_follows S L P first.live first.first first.within first.later U
          (along_follows P first.live Q.state second.live second.first second.within second.later U (along_follows Q.state second.live q.state third.live third.first third.within third.later U a.follows)) in
          let v = terms_of U in
          let kinds : kinds_of (valued (instance v) (fresh_variables P ks)) ≡ map shown (bound_kinds clause.children) = fresh_kinds e.premises ∙ ap (map shown) (bound_first clause.children) in
          record {
            last = U;
            follows = whole;
            response = a.response;
            derivation =
                by_object c g v h.own (fresh_variables P ks) required h.place.locals q.locals grows
                (record {
                  no_parameter = readable.no_parameter;
                  clean = readable.clean;
                  is_known = readable.is_known;
                  suits = terms_suit U whole.live whole.fits (goal_trees g) (known_later S U L whole.live whole.within whole.later (goal_trees g) (trees-join S L g.env arguments s.env s.arguments).known);
                  env = same (valued (instance v) g.env);
                  arguments = same (valued (instance v) arguments);
                })
                (record { clause = record { supers = h.supers; has_own = h.has_own; are_supers = h.are_supers; is_own = h.is_own; passes = h.passed }; kinds = kinds; are = asked_of.requirements; no_parameter = so.1 })
                m.premises b.premises;
          }

    -- Step after step.

    matched_there : run J g.env (start S) (match_trait g clause) ≡ At h.place
    matched_there = subst (λ R. run J g.env (start R) (match_trait g clause) ≡ At h.place) (backs.alike S _ h.alike) h.matched

    module _ (first : MakesSense S L h.place) (ran_match : (U : State) → Told J U P first.live → Backed J d l E g.env arguments U S L none (match_trait g clause) h.place.locals) where
      env_there : AreTreesOf P first.live g.env
      env_there = trees-stay S L P first.live first.stays g.env s.env

      arguments_there : AreTreesOf P first.live arguments
      arguments_there = trees-stay S L P first.live first.stays arguments s.arguments

      module _ (second : MakesSense P first.live Q) (ran_fresh : (U : State) → Told J U Q.state second.live → Backed J d l E g.env arguments U P first.live none (fresh ks ∷ []) Q.locals) where
        stays_there : StaysKnown S L Q.state second.live
        stays_there = λ k z. second.stays k (first.stays k z)

        instances_of : AreTreesOf Q.state second.live instances
        instances_of =
            instance-of Q.state second.live (fresh_variables P ks) reference second.locals
            (trees-stay P first.live Q.state second.live second.stays (alone reference) (reference-of P first.live c clause (clause-stays-of S L P first.live first.stays clause own_of)))

        last_answered : IsOrdinary object bounds required → IsAnswered d l E S L g x.result
        last_answered so =
            let q = comes so second.live stays_there instances_of in
            let M = second.live in
            from q
            (run_ran J law l d E backs Q.state M g.env (known so M stays_there instances_of g.env s.env) arguments (known so M stays_there instances_of arguments s.arguments) (own_steps object bounds required)
            (own_steps_of so M stays_there instances_of) (serves 0 bs (projections_in f required) (named_clauses f 0 required)) (start Q.state) (begins_at Q.state M second.sound second.fits second.goals) q.place q.reached)
          where
            from : (q : ComesTo J g.env (start Q.state) (own_steps object bounds required) h.own.source (record { source = h.own.source; result = x.result }))
                → Ran J law l d E backs Q.state second.live g.env (known so second.live stays_there instances_of g.env s.env) arguments (known so second.live stays_there instances_of arguments s.arguments)
                (start Q.state) (begins_at Q.state second.live second.sound second.fits second.goals) q.place (own_steps object bounds required) → IsAnswered d l E S L g x.result
            from q (ran third stays so_back) = ended first ran_match second ran_fresh so q.place third so_back q.responded

        -- it is ordinary, or assumed
        last_told : IsAnswered d l E S L g x.result ⊎ IsUnordinary c g
        last_told = at (ordinary_or_not object bounds required)
          where
            at : IsOrdinary object bounds required ⊎ (IsOrdinary object bounds required → ⊥) → IsAnswered d l E S L g x.result ⊎ IsUnordinary c g
            at (inl so) = inl (last_answered so)
            at (inr not) = inr (record {
              no_parameter = readable.no_parameter;
              clean = readable.clean;
              closed = s.arguments.is_closed;
              fits = fits;
              supers = h.supers;
              own = h.own;
              has_own = h.has_own;
              are_supers = h.are_supers;
              is_own = h.is_own;
              passes = h.passed;
              more = fresh_variables P ks;
              bare = fresh_bare P ks;
              required = required;
              is_closed = instances_of.is_closed;
              free = instances_free;
              are = asked_of.requirements;
              unordinary = not;
            })

      second_told : IsAnswered d l E S L g x.result ⊎ IsUnordinary c g
      second_told =
          from (run_ran J law l d E backs P first.live g.env env_there arguments arguments_there (fresh ks ∷ []) (All-cons (StepIsOf P first.live) (fresh ks) [] tt (All-nil (StepIsOf P first.live)))
          (All-cons Serves (fresh ks) [] tt (All-nil Serves)) (start P) (begins_at P first.live first.sound first.fits first.goals) Q refl)
        where
          from : Ran J law l d E backs P first.live g.env env_there arguments arguments_there (start P) (begins_at P first.live first.sound first.fits first.goals) Q (fresh ks ∷ []) → IsAnswered d l E S L g x.result ⊎ IsUnordinary c g
          from (ran second stays so_back) = last_told second so_back

    pub object_told : IsAnswered d l E S L g x.result ⊎ IsUnordinary c g
    object_told =
        from (run_ran J law l d E backs S L g.env s.env arguments s.arguments (match_trait g clause) (match-steps S L g s.env s.arguments clause own_of.trees) (match_serves g clause) (start S)
        (begins_at S L s.sound s.fits s.goals) h.place matched_there)
      where
        from : Ran J law l d E backs S L g.env s.env arguments s.arguments (start S) (begins_at S L s.sound s.fits s.goals) h.place (match_trait g clause) → IsAnswered d l E S L g x.result ⊎ IsUnordinary c g
        from (ran first stays so_back) = second_told first so_back
