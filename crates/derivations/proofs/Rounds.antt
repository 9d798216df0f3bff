-- What the goal of a key comes to where nothing but its own variables is known: each allowed instance of a Yes is derived.
use Rattle.std.proofs.Common.{◌≡◌, ◌⊎◌, inl, inr, ◌≤◌, ℕ, zero, suc, arith, Bool, true, false, Option, Some, None, List, [], ◌∷◌, map, length, refl, sym, ap, subst, ◌∙◌}
use Rattle.std.specs.Prelude.{nat_le, nat_lt, slice_get, if◌then◌else◌}
use Rattle.std.proofs.lemmas.Bool.{le-ltb, lt-leb, lt-ltb}
use Rattle.std.proofs.lemmas.List.Elements.{All-nil}
use Rattle.std.proofs.lemmas.Option.{slice_get_within}
use Rattle.ir_trees.specs.declared.decl.limits.Limits.{Limits}
use Rattle.ir_trees.specs.declared.ir.heads.Head.{Head}
use Rattle.ir_trees.specs.declared.ir.heads.Head.TheVariants as H
use Rattle.ir_trees.specs.declared.ir.heads.Variable.{Variable}
use Rattle.ir_trees.specs.declared.ir.kinds.RegionKind.TheVariants as R
use Rattle.ir_trees.specs.Declarations.Context.{Context, Grows}
use Rattle.ir_trees.specs.Unification.Substitutions.{Universes, alone}
use Rattle.ir_trees.specs.Hierarchy.Supers.{after_first}
use Rattle.ir_trees.specs.Syntax.Trees.{Forest, none, tree, Tree, erase, erased_head, holds, is_param}
use Rattle.ir_trees.specs.Validity.WellFormed.{IsWellFormedTable}
use Rattle.ir_trees.specs.Declarations.Worlds.{World}
use Rattle.candidate_eval.specs.declared.eval.certainty.Certainty.TheVariants.{Yes}
use Rattle.candidate_eval.specs.declared.eval.mode.TypingMode.{TypingMode}
use Rattle.candidate_eval.specs.declared.eval.variable.CanonicalVar.{CanonicalVar}
use Rattle.candidate_eval.specs.declared.eval.variable.VariableKind.TheVariants.{Term, Region}
use Rattle.candidate_eval.specs.Judges.Alike.{info}
use Rattle.candidate_eval.specs.Derivations.ImplRules.{TraitGoal}
use Rattle.candidate_eval.specs.Judges.Instances.{HasRootsFirst, IsAllowedInto, IsInstanceOf, answer_values, instance, response_universes}
use Rattle.candidate_eval.specs.Judges.Lawful.{Lawful}
use Rattle.candidate_eval.specs.Derivations.Mentions.{IsBelow, is_from}
use Rattle.candidate_eval.specs.Dynamic.ObjectRequirements.{first_tree}
use Rattle.candidate_eval.specs.Knowability.Orphan.{is_general}
use Rattle.candidate_eval.specs.Outcomes.Responses.{Candidate, Response}
use Rattle.candidate_eval.specs.Judges.Soundness.{AreLeaves, AreTreesOf, GoalIsOf, Live, is_region, is_strange, universes}
use Rattle.candidate_eval.specs.Judges.States.{Judge, Pending, State, Values, VariableInfo, has_kind, resolved, resolved_tree, value_at, value_in, value_of, valued, valued_tree}
use Rattle.candidate_eval.proofs.Marks.Holds.{holds_imply, holds_parts}
use Rattle.candidate_eval.proofs.Marks.Marking.{after-unmarked, unmarked}
use Rattle.candidate_assembly.specs.Answers.Assembled.{resolved_goal}
use Rattle.candidate_assembly.specs.Goals.Standing.{GoalIsValid}
use Rattle.candidate_assembly.specs.Answers.SureAnswers.{AnswersGranted, IsProvedBy, IsRuleOf, ObjectGrants, RuleGrants, by_object, by_rule}
use Rattle.candidate_assembly.specs.Goals.TraitGoals.{with_first, with_self_type}
use Rattle.candidate_assembly.specs.Goals.TraitRules.{trait_bounds, trait_rules, with_arguments}
use Rattle.candidate_assembly.specs.Goals.Standing.{StandsWithPending}
use Rattle.candidate_assembly.specs.Laws.Given.{IsCounted}
use Rattle.candidate_assembly.specs.Laws.SuperLaws.{IsFitting}
use Rattle.candidate_assembly.proofs.Sense.Sense.{join-unmarked}
use Rattle.candidate_assembly.proofs.Sense.SenseProved.{changed-trees, first-trees}
use Rattle.candidate_assembly.proofs.Answers.SureAnswers.{IsProvedThere}
use Rattle.rounds_judge.specs.Aliases.Congruence.{AreListed, Same, SameTree, along, back, heads, regions, same}
use Rattle.rounds_judge.specs.Table.GoalTable.{GoalTable}
use Rattle.rounds_judge.specs.Table.Keys.{Key, root_of, start_of}
use Rattle.rounds_judge.specs.Aliases.Listed.{Listing}
use Rattle.rounds_judge.specs.Aliases.Normalizing.{type_or_itself}
use Rattle.rounds_judge.specs.Equations.Standing.{IsListing}
use Rattle.rounds_judge.specs.Table.TableGranted.{answered}
use Rattle.rounds_judge.specs.Table.TableJudge.{table_judge}
use Rattle.rounds_judge.proofs.Aliases.Congruent.{is_stray, same_instance, strange_stray, terms_of, without_regions}
use Rattle.rounds_judge.proofs.Aliases.Faithful.{normal_equal}
use Rattle.rounds_judge.proofs.Projections.Equality.{joined}
use Rattle.rounds_judge.proofs.Lawfulness.JudgeLaws.{follows_itself, known_normal, normal_closed, normal_known, normal_no_parameter, same_normal_form}
use Rattle.rounds_judge.proofs.States.Later.{has_info, known_later, resolved_stays}
use Rattle.rounds_judge.proofs.Unifiers.Putting.{nowhere}
use Rattle.derivations.specs.Clean.{IsClean}
use Rattle.derivations.specs.Derivations.{Derivation, ListedPairs, object_assumed, said_by}
use Rattle.derivations.specs.DerivedTables.{AreDerived, ListedAreClean, YesIsDerived}
use Rattle.derivations.specs.Ordinary.{IsOfVariables, IsUnordinary}
use Rattle.derivations.proofs.Assumed.{normal_under}
use Rattle.derivations.proofs.Clean.{clean_first, clean_normal, clean_self}
use Rattle.derivations.proofs.Backing.{table_backs}
use Rattle.derivations.proofs.Closing.{stays_derived}
use Rattle.derivations.proofs.Objects.{object_told, world_of}
use Rattle.derivations.proofs.Putting.{instance_of_variables, put_after, valued_put, variables_put}
use Rattle.derivations.proofs.Rules.{IsAnswered, IsReadable}
use Rattle.derivations.proofs.Sharing.{shared_alone}
use Rattle.derivations.proofs.Ways.{way_answered}

-- Trees that differ in regions alone are equal.

region_erased : (h : Head) → is_region h ≡ true → erased_head h ≡ H.Region R.Static
region_erased (H.Region r) e = refl
region_erased _ e = cc

other_erased : (h : Head) → is_region h ≡ false → erased_head h ≡ h
other_erased (H.Region r) e = cc
other_erased _ e = refl

of_region : (h : Head) → H.Region R.Static ≡ erased_head h → is_region h ≡ true
of_region (H.Region r) e = refl
of_region _ e = cc

module _ (l : Listing) where
  pub same_erased : (a b : Forest) → erase a ≡ erase b → Same l a b
  same_erased none none e = same none
  same_erased none (tree g b s) e = cc
  same_erased (tree h a r) none e = cc
  same_erased (tree h a r) (tree g b s) e = at (is_region h) (is_region g) refl refl (λ f. same_erased a b f) (λ f. same_erased r s f)
    where
      head : erased_head h ≡ erased_head g
      head = cc

      below : erase a ≡ erase b
      below = cc

      rest : erase r ≡ erase s
      rest = cc

      at : (x y : Bool) → is_region h ≡ x → is_region g ≡ y → (erase a ≡ erase b → Same l a b) → (erase r ≡ erase s → Same l r s) → Same l (tree h a r) (tree g b s)
      at true true p q under others = regions h g a b p q (others rest)
      at true false p q under others = let no : true ≡ false = sym (of_region g (sym (region_erased h p) ∙ head)) ∙ q in cc
      at false true p q under others = let no : true ≡ false = sym (of_region h (sym (region_erased g q) ∙ sym head)) ∙ p in cc
      at false false p q under others = subst (λ k. Same l (tree h a r) (tree k b s)) (sym (other_erased h p) ∙ (head ∙ other_erased g q)) (heads h (under below) (others rest))

-- At a key's start no variable has a value, and all are roots.

none_there : (vs : List CanonicalVar) (n : ℕ) → value_in (slice_get (map root_of vs) n) ≡ None
none_there [] n = refl
none_there (v ∷ vs) zero = refl
none_there (v ∷ vs) (suc n) = none_there vs n

roots_there : (vs : List CanonicalVar) (n : ℕ) (i : VariableInfo) → slice_get (map root_of vs) n ≡ Some i → i.is_root ≡ true
roots_there [] n i e = cc
roots_there (v ∷ vs) zero i e = let f : root_of v ≡ i = cc in ap (λ (x : VariableInfo). x.is_root) (sym f)
roots_there (v ∷ vs) (suc n) i e = roots_there vs n i e

beyond : (vs : List VariableInfo) (n : ℕ) → slice_get vs n ≡ None → length vs ≤ n
beyond [] n e = omega arith
beyond (v ∷ vs) zero e = cc
beyond (v ∷ vs) (suc n) e = let more = beyond vs n e in omega (arith, more)

module _ (m : TypingMode) (k : Key) where
  no_value_as : (b : Bool) (n : ℕ) → (if b then value_of (start_of m k) n else None) ≡ None
  no_value_as true n = none_there k.variables n
  no_value_as false n = refl

  no_value : (h : Head) → value_at (start_of m k) h ≡ None
  no_value (H.Infer v) = no_value_as (has_kind (Term v.sort) (info (start_of m k) v.number)) v.number
  no_value (H.Region (R.Var n)) = no_value_as (has_kind Region (info (start_of m k) n)) n
  no_value _ = refl

  pub resolved_start : (ts : Forest) → resolved (start_of m k) ts ≡ ts
  resolved_start ts = resolved_stays (start_of m k) ts (holds_imply (λ h. false) _ (λ h e. ap Rattle.candidate_eval.specs.Judges.States.is_some (no_value h)) ts (nowhere ts))

  pub resolved_first : (ts : Forest) → resolved_tree (start_of m k) (first_tree ts) ≡ first_tree ts
  resolved_first ts = ap first_tree (resolved_start (alone (first_tree ts)))

-- Trees of a state mention its variables alone.
below_known : (S : State) (L : Live) (ts : Forest) → holds (is_strange S L) ts ≡ false → IsBelow (length S.variables) ts
below_known S L ts e = holds_imply (is_strange S L) (is_from (length S.variables)) one ts e
  where
    within : (n : ℕ) (i : VariableInfo) → info S n ≡ Some i → nat_le (length S.variables) n ≡ false
    within n i f = lt-leb (length S.variables) n (slice_get_within S.variables n i f)

    one : (h : Head) → is_strange S L h ≡ false → is_from (length S.variables) h ≡ false
    one (H.Infer v) f = let i = has_info (L v.number) (Term v.sort) (info S v.number) f in within v.number i.0 i.1
    one (H.Region (R.Var n)) f = let i = has_info (L n) Region (info S n) f in within n i.0 i.1
    one _ f = refl

-- a row that isn't empty
pub record Begins (ts : Forest) : Type 0 where
  pub head : Head
  pub below : Forest
  pub rest : Forest
  pub is : ts ≡ tree head below rest

-- What is asked of a key's goal: it stands at its start, variables and regions in it are leaves, and it has a self type.
pub record KeyStands (m : TypingMode) (k : Key) : Type 0 where
  pub stands : GoalIsValid trait_rules (start_of m k) k.goal
  pub env_leaves : AreLeaves k.goal.env
  pub leaves : AreLeaves k.goal.reference.arguments
  pub begins : Begins k.goal.reference.arguments

module _ {W : Type 0} (world : World) (local : ℕ) (limits : Limits) (l : Listing) (opaques : List Tree) (T : GoalTable W) (listing : IsListing l) (law : Lawful (table_judge world local limits l opaques T)) (d : Context) (derived : AreDerived d l T)
    (m : TypingMode) (k : Key) (key : KeyStands m k) (listed : ListedAreClean l) (clean : IsClean k.goal.reference.arguments) (c : Context) (grows : Grows d c) (well : IsWellFormedTable c) (few : IsCounted c) where
  abbrev pub J : Judge
  J = table_judge world local limits l opaques T

  abbrev S : State
  S = start_of m k

  abbrev L : Live
  L = key.stands.live

  abbrev g : TraitGoal
  g = k.goal

  abbrev arguments : Forest
  arguments = k.goal.reference.arguments

  -- The goal with its self type in normal form.
  module _ (t : Tree) (normal : J.normalized S g.env (first_tree arguments) ≡ Some (t, S)) (is_known : is_general t.head ≡ false) where
    abbrev goal : TraitGoal
    goal = with_self_type g t

    self_tree : AreTreesOf S L (alone (first_tree arguments))
    self_tree = first-trees S L arguments key.stands.trees

    tree_is : AreTreesOf S L (alone t)
    tree_is =
        subst (λ y. AreTreesOf S L (alone y)) (same_normal_form l S g.env (first_tree arguments) t normal)
        (record { known = normal_known l listing S L key.stands.sound (first_tree arguments) self_tree; is_closed = normal_closed l listing S L key.stands.fits (first_tree arguments) self_tree })

    first_free : (ts : Forest) → holds is_param ts ≡ false → holds is_param (alone (first_tree ts)) ≡ false
    first_free none e = refl
    first_free (tree h below rest) e = let p = holds_parts is_param h below rest e in unmarked is_param h below none p.here p.under refl

    free : holds is_param (alone t) ≡ false
    free =
        subst (λ y. holds is_param (alone y) ≡ false) (same_normal_form l S g.env (first_tree arguments) t normal)
        (normal_no_parameter l listing S L key.stands.values (first_tree arguments) self_tree (first_free arguments key.stands.trees_free))

    goal_stands : StandsWithPending S L goal
    goal_stands = record {
      sound = key.stands.sound;
      fits = key.stands.fits;
      goals = All-nil (λ (p : Pending). GoalIsOf S L p.goal);
      env = key.stands.env;
      arguments = changed-trees S L t arguments tree_is key.stands.trees;
    }

    readable : IsReadable goal
    readable = record {
      no_parameter =
          let p = holds_parts is_param t.head t.children none free in
          join-unmarked is_param g.env (with_first t arguments) key.stands.env_free (unmarked is_param t.head t.children (after_first arguments) p.here p.under (after-unmarked is_param arguments key.stands.trees_free));
      clean =
          clean_first t arguments
          (subst (λ y. IsClean (alone y)) (same_normal_form l S g.env (first_tree arguments) t normal)
          (clean_normal l listed (resolved_tree S (first_tree arguments)) (subst (λ y. IsClean (alone y)) (sym (resolved_first m k arguments)) (clean_self arguments clean)))) clean;
      is_known = is_known;
    }

    -- what is derived of it is derived of the key's goal
    module _ (r : Response) (a : IsAnswered d l (ListedPairs l) S L goal r) where
      abbrev U : State
      U = a.last

      abbrev F : Live
      F = a.follows.live

      roots : HasRootsFirst U (length S.variables)
      roots n i e = at (info S n) refl
        where
          at : (o : Option VariableInfo) → info S n ≡ o → i.is_root ≡ nat_lt n (length S.variables)
          at (Some j) h =
              let y = a.follows.later.infos n j h in
              let both : Some i ≡ Some y.now = sym e ∙ y.there in
              let is : i ≡ y.now = cc in
              ap (λ (x : VariableInfo). x.is_root) is ∙ (y.is_root ∙ (roots_there k.variables n j h ∙ sym (lt-ltb n (length S.variables) (slice_get_within S.variables n j h))))
          at None h = a.follows.later.no_root n i h e ∙ sym (le-ltb n (length S.variables) (beyond S.variables n h))

      known_there : (ts : Forest) → holds (is_strange S L) ts ≡ false → holds (is_strange U F) ts ≡ false
      known_there ts e = known_later S U L F a.follows.within a.follows.later ts e

      by_terms : (ts : Forest) → holds (is_strange S L) ts ≡ false → Same l (resolved U ts) (valued (instance (terms_of U)) ts)
      by_terms ts e = without_regions l U F a.follows.fits ts (holds_imply (is_strange U F) (is_stray U F) (strange_stray U F) ts (known_there ts e))

      self_same : (ts : Forest) → Begins ts → SameTree l (resolved_tree U (first_tree ts)) (resolved_tree U t) → Same l (resolved U (with_first t ts)) (resolved U ts)
      self_same ts b e = subst (λ ts. SameTree l (resolved_tree U (first_tree ts)) (resolved_tree U t) → Same l (resolved U (with_first t ts)) (resolved U ts)) (sym b.is)
          (λ e. joined (AreListed l) (back e) (same (resolved U b.rest))) e

      module _ (w : Universes) (values : Variable → Tree) (allowed : IsAllowedInto (response_universes r) w (λ v. Some (values v))) where
        one : IsInstanceOf U F (length S.variables) w (λ ts. valued (instance (λ v. Some (values v))) (valued (answer_values r) ts))
        one = a.response (length S.variables) roots w (λ v. Some (values v)) allowed

        said : (ts : Forest) → holds (is_strange S L) ts ≡ false → AreLeaves ts → Same l (valued (instance one.of) (resolved U ts)) (answered r values ts)
        said ts e leaves = same_erased l _ _ (sym (one.same ts (below_known S L ts e) (known_there ts e) leaves))

        env_same : Same l (valued (instance one.of) (valued (instance (terms_of U)) g.env)) (answered r values g.env)
        env_same = along (same_instance l listing one.of _ _ (back (by_terms g.env key.stands.env.known))) (said g.env key.stands.env.known key.env_leaves)

        arguments_same : Same l (valued (instance one.of) (valued (instance (terms_of U)) (with_first t arguments))) (answered r values arguments)
        arguments_same =
            along
            (same_instance l listing one.of _ _
            (along (back (by_terms (with_first t arguments) goal_stands.arguments.known))
            (self_same arguments key.begins (normal_equal l listing S S U L g.env (first_tree arguments) t key.stands.sound key.stands.fits self_tree is_known normal (follows_itself S L key.stands.sound key.stands.fits) a.follows))))
            (said arguments key.stands.trees.known key.leaves)

        pub answer_derived : Derivation d l w (answered r values g.env) (said_by g) (answered r values arguments)
        answer_derived = shared_alone d l w (stays_derived d l listing (universes U) w one.of one.allowed _ _ _ a.derivation) (answered r values g.env) (answered r values arguments) env_same arguments_same

    -- by one of the ways of which it is said
    pub way_derived : (x : Candidate) → x.result.certainty ≡ Yes → (r : _) (R : State) (is : IsRuleOf trait_rules trait_bounds J c S goal r R) → RuleGrants (AnswersGranted J) J R r x → YesIsDerived d l k x.result
    way_derived x sure r R is h = answer_derived x.result (way_answered J law l d (ListedPairs l) (table_backs world local limits l opaques T listing law d derived) S L goal goal_stands readable c grows well few x sure r R is h)

    -- What the object has to fulfil isn't ordinary: the goal is assumed, with the values that the response gives, whatever they are.
    assumed_derived : IsUnordinary c goal → (r : Response) → YesIsDerived d l k r
    assumed_derived un r w values allowed = object_assumed c goal v grows of un (put_in g.env) (along self_put (put_in arguments))
      where
        i : Values
        i = instance (λ y. Some (values y))

        v : Values
        v = put_after i (answer_values r)

        answers_of_variables : IsOfVariables (answer_values r)
        answers_of_variables (H.Infer y) e = cc
        answers_of_variables (H.Region (R.Var n)) e = cc
        answers_of_variables _ e = refl

        of : IsOfVariables v
        of = variables_put i (answer_values r) (instance_of_variables (λ y. Some (values y))) answers_of_variables

        put_in : (ts : Forest) → Same l (valued v ts) (answered r values ts)
        put_in ts = subst (λ x. Same l x (answered r values ts)) (valued_put i (answer_values r) ts) (same (answered r values ts))

        normal_is : t ≡ type_or_itself l (first_tree arguments)
        normal_is = sym (same_normal_form l S g.env (first_tree arguments) t normal) ∙ ap (type_or_itself l) (resolved_first m k arguments)

        self_begun : (ts : Forest) → Begins ts → SameTree l (valued_tree v (first_tree ts)) (valued_tree v t) → Same l (valued v (with_first t ts)) (valued v ts)
        self_begun ts b e = subst (λ ts. SameTree l (valued_tree v (first_tree ts)) (valued_tree v t) → Same l (valued v (with_first t ts)) (valued v ts)) (sym b.is)
            (λ e. joined (AreListed l) (back e) (same (valued v b.rest))) e

        self_put : Same l (valued v (with_first t arguments)) (valued v arguments)
        self_put = self_begun arguments key.begins (subst (λ y. SameTree l (valued_tree v (first_tree arguments)) (valued_tree v y)) (sym normal_is) (normal_under l listing v of (first_tree arguments)))

    -- and by a clause that an object states of itself
    pub object_derived : (x : Candidate) → x.result.certainty ≡ Yes → (h : ObjectGrants trait_rules trait_bounds J c S goal x) → IsFitting (world_of c) (first_tree (with_first t arguments)) → YesIsDerived d l k x.result
    object_derived x sure h fits = at (object_told J law l d (ListedPairs l) (table_backs world local limits l opaques T listing law d derived) S L goal goal_stands readable c grows well few x sure h fits)
      where
        at : IsAnswered d l (ListedPairs l) S L goal x.result ⊎ IsUnordinary c goal → YesIsDerived d l k x.result
        at (inl a) = answer_derived x.result a
        at (inr un) = assumed_derived un x.result

  -- The goal at which rules are judged is this one.
  goal_is : (t : Tree) → resolved_goal trait_rules trait_bounds c S (with_self_type g t) ≡ with_self_type g t
  goal_is t = ap (λ e. with_arguments (with_self_type g t) e (resolved S (with_first t arguments))) (resolved_start m k g.env) ∙ ap (λ ts. with_arguments (with_self_type g t) g.env ts) (resolved_start m k (with_first t arguments))

  -- What an answer is proved by.
  abbrev pub ProvedBy : State → TraitGoal → Candidate → Type 0
  ProvedBy R h x = IsProvedBy trait_rules trait_bounds J c R h (AnswersGranted J) x

  -- A sure response by one rule of the goal is derived.
  pub proved_derived : ((t : Tree) → J.normalized S g.env (first_tree arguments) ≡ Some (t, S) → IsFitting (world_of c) t) → (r : Response) → IsProvedThere J c S g r → r.certainty ≡ Yes → YesIsDerived d l k r
  proved_derived fits r p sure =
      let n = known_normal l S p.at g.env (first_tree arguments) p.normal p.is_known p.is_normal in
      let here : ProvedBy S (resolved_goal trait_rules trait_bounds c S (with_self_type g p.normal)) p.candidate =
      subst (λ R. ProvedBy R (resolved_goal trait_rules trait_bounds c R (with_self_type g p.normal)) p.candidate) (sym n.state) p.proved_by in
      let there : ProvedBy S (with_self_type g p.normal) p.candidate = subst (λ h. ProvedBy S h p.candidate) (goal_is p.normal) here in
      subst (YesIsDerived d l k) p.response
      (from p.normal (subst (λ R. J.normalized S g.env (first_tree arguments) ≡ Some (p.normal, R)) (sym n.state) p.is_normal) p.is_known p.candidate (ap (λ (y : Response). y.certainty) p.response ∙ sure) there)
    where
      from : (t : Tree) → J.normalized S g.env (first_tree arguments) ≡ Some (t, S) → is_general t.head ≡ false → (x : Candidate) → x.result.certainty ≡ Yes → ProvedBy S (with_self_type g t) x → YesIsDerived d l k x.result
      from t normal known x certain (by_rule {r = r} {T = Q} is h) = way_derived t normal known x certain r Q is h
      from t normal known x certain (by_object h) = object_derived t normal known x certain h (fits t normal)
