-- The ways in which a goal of a trait is proved: by a clause of the environment, by a bound of an alias, by a rule of the language, by unsizing,
-- and by an impl.
use Rattle.std.proofs.Common.{◌≡◌, Bool, ℕ, zero, suc, true, false, Option, Some, None, List, [], ◌∷◌, ◌++◌, ◌⊎◌, inl, inr, map, arith, refl, sym, ap, subst, ◌∙◌}
use Rattle.std.specs.List.{All, Contains}
use Rattle.std.proofs.lemmas.List.{append-nil}
use Rattle.std.proofs.lemmas.List.Elements.{All-append, All-cons, All-contains, All-contains_itself, All-map, All-nil, All-weaker}
use Rattle.ir_trees.specs.declared.decl.limits.Limits.{Limits}
use Rattle.ir_trees.specs.declared.decl.contents.AliasBoundKind.{AliasBoundKind}
use Rattle.ir_trees.specs.declared.decl.contents.AliasBoundKind.TheVariants.{NonSelfBounds, SelfBounds}
use Rattle.ir_trees.specs.declared.decl.contents.ImplId.{ImplId}
use Rattle.ir_trees.specs.declared.decl.contents.LangItem.TheVariants as Lang
use Rattle.ir_trees.specs.declared.ir.heads.Head.{Head}
use Rattle.ir_trees.specs.declared.ir.heads.Head.TheVariants as H
use Rattle.ir_trees.specs.declared.ir.heads.VariableSort.{VariableSort}
use Rattle.ir_trees.specs.declared.ir.heads.VariableSort.TheVariants as V
use Rattle.ir_trees.specs.declared.ir.kinds.GoalSource.TheVariants.{ImplWhereBound, Misc}
use Rattle.ir_trees.specs.Declarations.Context.{Context, Grows, parameter_kind, world as declared}
use Rattle.ir_trees.specs.Declarations.Contents.{Impl}
use Rattle.ir_trees.specs.Declarations.Declaring.{impl_at}
use Rattle.ir_trees.specs.Declarations.Lookups.{maybe}
use Rattle.ir_trees.specs.Unification.Substitutions.{alone}
use Rattle.ir_trees.specs.Hierarchy.Supers.{after_first}
use Rattle.ir_trees.specs.Syntax.Trees.{Forest, Tree, holds}
use Rattle.ir_trees.specs.Validity.WellFormed.{IsWellFormedTable}
use Rattle.ir_trees.specs.Declarations.Worlds.{Fits, World}
use Rattle.ir_trees.specs.Syntax.Words.{args_forest, clause_tree}
use Rattle.candidate_eval.specs.declared.eval.certainty.Certainty.TheVariants.{Yes}
use Rattle.candidate_eval.specs.declared.eval.mode.TypingMode.{TypingMode}
use Rattle.candidate_eval.specs.declared.eval.source.CandidateSource.TheVariants.{AliasBound}
use Rattle.candidate_eval.specs.Derivations.Characterization.{bound_kinds}
use Rattle.candidate_eval.specs.Derivations.ImplRules.{TraitGoal}
use Rattle.candidate_eval.specs.Judges.Instances.{instance}
use Rattle.candidate_eval.specs.Judges.Lawful.{Lawful}
use Rattle.candidate_eval.specs.Knowability.Orphan.{is_general, is_general_sort}
use Rattle.candidate_eval.specs.Outcomes.Certainties.{AMBIGUOUS}
use Rattle.candidate_eval.specs.Derivations.Naming.{named_clause}
use Rattle.candidate_eval.specs.Dynamic.ObjectRequirements.{first_tree}
use Rattle.candidate_eval.specs.Dynamic.Required.{each_of}
use Rattle.candidate_eval.specs.Outcomes.Responses.{Candidate, Response}
use Rattle.candidate_eval.specs.Derivations.Rules.{Rule, ask, equate, fresh, nested, nested_misc, quick, settle}
use Rattle.candidate_eval.specs.Judges.Soundness.{AreTreesOf, Follows, GoalsAreOf, IsSound, Live, is_strange, universes}
use Rattle.candidate_eval.specs.Judges.States.{Env, Judge, State, resolved, resolved_tree, valued, valued_tree}
use Rattle.candidate_eval.proofs.Marks.Holds.{holds_imply}
use Rattle.candidate_assembly.specs.Rules.AliasBounds.{alias_bounds, bound_rules, has_bounds, is_projection, link, link_rules}
use Rattle.candidate_assembly.specs.Answers.Assembled.{impl_rule, trait_of, where_rule}
use Rattle.candidate_assembly.specs.Laws.Given.{IsCounted}
use Rattle.candidate_assembly.specs.Goals.KindBounds.{KindBounds}
use Rattle.candidate_assembly.specs.Goals.Kinds.{KindRules, self_type}
use Rattle.candidate_assembly.specs.Goals.TraitGoals.{is_item}
use Rattle.candidate_assembly.specs.Rules.BuiltinRules.{ambiguous_rule, pair_of, self_of, trait_rule}
use Rattle.candidate_assembly.specs.Rules.Unsizing.{AreUnsizingSupers, row_to_variable, rules_of_row, unsizing_row, unsizing_rules}
use Rattle.candidate_assembly.specs.Goals.Kinds.{match_rule}
use Rattle.candidate_assembly.specs.Answers.SureAnswers.{AnswersGranted, IsOnChain, IsRuleOf, RuleGrants, by_bound, by_clause, by_impl, by_language, by_unsizing, first, further}
use Rattle.candidate_assembly.specs.Goals.Standing.{StandsWithPending}
use Rattle.candidate_assembly.specs.Goals.TraitGoals.{impl_part, match_trait, no_impl}
use Rattle.candidate_assembly.specs.Goals.TraitRules.{trait_bounds, trait_rules}
use Rattle.candidate_assembly.proofs.Answers.SureAnswers.{ask-sure, projection-has}
use Rattle.candidate_assembly.proofs.Goals.Standing.{strange-later}
use Rattle.candidate_assembly.proofs.Sense.Sense.{StaysKnown, goals-stay, trees-stay}
use Rattle.candidate_assembly.proofs.Sense.SenseBounds.{arguments-of, bound-rule-is-of}
use Rattle.candidate_assembly.proofs.Sense.SenseKinds.{impl-is-of, where-is-of}
use Rattle.candidate_assembly.proofs.Sense.SenseLanguage.{language-rule-is-of}
use Rattle.candidate_assembly.proofs.Sense.SenseNames.{each-tree}
use Rattle.candidate_assembly.proofs.Sense.SenseProved.{first-trees}
use Rattle.candidate_assembly.proofs.Sense.SenseRules.{RuleIsOf}
use Rattle.candidate_assembly.proofs.Sense.SenseUnsizing.{after-trees, unsizing-are-of}
use Rattle.candidate_assembly.proofs.Unsizing.UnsizedTargets.{target-is}
use Rattle.rounds_judge.specs.Aliases.Congruence.{AreListed, Same, SameBy, along, back}
use Rattle.rounds_judge.specs.Aliases.Listed.{Listing}
use Rattle.rounds_judge.proofs.Aliases.Congruent.{is_stray, strange_stray, terms_of, without_regions}
use Rattle.rounds_judge.proofs.Lawfulness.JudgeLaws.{follows_itself}
use Rattle.rounds_judge.proofs.Projections.Equality.{wider}
use Rattle.rounds_judge.proofs.States.Later.{follows_along, known_later}
use Rattle.derivations.specs.Derivations as D
use Rattle.derivations.specs.Derivations.{AreOne, IsLinked, Pairs, said_by}
use Rattle.derivations.proofs.Backing.{Backs, IsNormalBy}
use Rattle.derivations.proofs.Rules.{IsAnswered, IsAnsweredBy, IsReadable, StandThere, goal_stands_there, rule_answered}
use Rattle.derivations.proofs.Serving.{IsOfGoal, adds_serve, language_of_goal, one_serves, unsizing_of_goal}
use Rattle.derivations.proofs.Steps.{Serves}

-- Steps that serve.

impl_serves : (c : Context) (m : TypingMode) (g : TraitGoal) (n : ImplId) → All Serves (impl_rule trait_rules c m g n).steps
impl_serves c m g n = at (impl_at c n)
  where
    at : (o : Option Impl) → All Serves (maybe no_impl (impl_part c.trees m g) o).steps
    at None = All-nil Serves
    at (Some i) =
        let ws = map (clause_tree c.trees) i.wheres in
        let os = map (clause_tree c.trees) i.super_outlives in
        let ks = map parameter_kind i.parameters in
        let b = args_forest c.trees i.trait_ref.args in
        All-append Serves (fresh ks ∷ []) (equate g.reference.arguments b ∷ (nested ws ++ nested_misc os)) (one_serves (fresh ks) tt)
        (All-append Serves (equate g.reference.arguments b ∷ []) (nested ws ++ nested_misc os) (one_serves (equate g.reference.arguments b) tt)
        (All-append Serves (nested ws) (nested_misc os) (adds_serve ImplWhereBound ws) (adds_serve Misc os)))

pub match_serves : (g : TraitGoal) (t : Tree) → All Serves (match_trait g t)
match_serves g t =
    let q = quick g.reference.arguments (after_first t.children) in
    let f = fresh (bound_kinds t.children) in
    let e = equate g.reference.arguments (after_first (named_clause 0 t).children) in
    All-cons Serves q (f ∷ e ∷ []) tt (All-cons Serves f (e ∷ []) tt (one_serves e tt))

where_serves : (c : Context) (g : TraitGoal) (t : Tree) → All Serves (where_rule trait_rules c g t).steps
where_serves c g t = All-append Serves (match_trait g t) (settle ∷ []) (match_serves g t) (one_serves settle tt)

bound_of_goal : (c : Context) (g : TraitGoal) (b : AliasBoundKind) (t : Tree) (r : Rule) → Contains (bound_rules trait_rules c g b t) r → IsOfGoal g r
bound_of_goal c g b t r there =
    let rule = λ (x : Tree). match_rule trait_rules c g x [] (ask (AliasBound b) Yes) in
    let one : (x : Tree) → IsOfGoal g (rule x) = λ x. record { env = refl; serves = All-append Serves (match_trait g x) [] (match_serves g x) (All-nil Serves) } in
    All-contains (IsOfGoal g) (bound_rules trait_rules c g b t) r (All-map (IsOfGoal g) rule (alias_bounds c b t) (All-weaker (Contains (alias_bounds c b t)) (λ x. IsOfGoal g (rule x)) (λ x h. one x) (alias_bounds c b t) (All-contains_itself (alias_bounds c b t)))) there

-- What has bounds is no general variable.
pub bounded-known : (h : Head) → has_bounds h ≡ true → is_general h ≡ true → ⊥
bounded-known (H.Infer v) e f = cc
bounded-known _ e f = cc

-- For a target that is a general variable there is one rule.
general-rules : (c : Context) (supers : List Tree) (g : TraitGoal) (from to : Tree) (h : Head) → is_general h ≡ true → rules_of_row c supers g from to (unsizing_row from.head h) ≡ ambiguous_rule g true ∷ []
general-rules c supers g from to (H.Infer v) e = at v.sort e
  where
    at : (s : VariableSort) → is_general_sort s ≡ true → rules_of_row c supers g from to (row_to_variable s) ≡ ambiguous_rule g true ∷ []
    at V.General e = refl
    at _ e = cc
general-rules c supers g from to _ e = cc

only-one : {X : Type 0} {x y : X} → Contains (x ∷ []) y → x ≡ y
only-one (zero, l, e) = e
only-one (suc n, l, e) = absurd (omega (arith, l))

-- At a state that follows what a tree is with values put in is equal to what it is with terms put in.
with_terms : (l : Listing) (R U : State) (M : Live) → Follows R U M → (us : Forest) → holds (is_strange R M) us ≡ false → Same l (resolved U us) (valued (instance (terms_of U)) us)
with_terms l R U M f us k = without_regions l U f.live f.fits us (holds_imply (is_strange U f.live) (is_stray U f.live) (strange_stray U f.live) us (known_later R U M f.live f.within f.later us k))

module _ (J : Judge) (law : Lawful J) (l : Listing) (d : Context) (E : Pairs) (backs : Backs J d l E) (e : Env) (ts : Forest) where
  -- which trees are one under the environment, with terms put in
  abbrev pub AreOneAt : State → Tree → Tree → Type 0
  AreOneAt U t u = AreOne (E (universes U) (valued (instance (terms_of U)) e)) (valued_tree (instance (terms_of U)) t) (valued_tree (instance (terms_of U)) u)

  -- A normal form is a tree of a state that follows, at which the environment and the trees stand, too; and it is one with what was normalised.
  pub record IsNormalHere (S : State) (L : Live) (t u : Tree) (R : State) : Type 0 where
    pub follows : Follows S R L
    pub stands : StandThere R follows.live e ts
    pub tree : AreTreesOf R follows.live (alone u)
    pub equal : (U : State) → Follows R U follows.live → AreOneAt U t u

  module _ (S : State) (L : Live) (s : StandThere S L e ts) (t u : Tree) (R : State) (a : AreTreesOf S L (alone t)) (is : J.normalized S e t ≡ Some (u, R)) where
    normal_form : IsNormalBy E S L e t R u
    normal_form = backs.normal S R L e t u s.sound s.fits s.env a is

    stand_there : StandThere R normal_form.follows.live e ts
    stand_there =
        let f = normal_form.follows in
        let N = f.live in
        let stays : StaysKnown S L R N = strange-later S R L N f.within f.later in
        record {
          sound = f.sound;
          fits = f.fits;
          goals = subst (GoalsAreOf R N) (sym (law.normal_forms.normalizing_keeps_pending S R e t u is)) (goals-stay S L R N stays S.pending s.goals);
          env = trees-stay S L R N stays e s.env;
          trees = trees-stay S L R N stays ts s.trees;
        }

    one_there : is_general u.head ≡ false → (U : State) → Follows R U normal_form.follows.live → AreOneAt U t u
    one_there known U f =
        let now = valued (instance (terms_of U)) e in
        let There = E (universes U) now in
        let whole = follows_along S R U L s.sound normal_form.follows f in
        let wide : (x y : Forest) → Same l x y → SameBy There x y = λ x y q. wider (AreListed l) There (backs.pairs.listed (universes U) now) q in
        let moved = backs.pairs.moved (universes U) (resolved U e) now (with_terms l S U L whole e s.env.known) in
        let one = normal_form.equal known U f in
        along (back (wide _ _ (with_terms l S U L whole (alone t) a.known))) (along (wider (E (universes U) (resolved U e)) There moved one) (wide _ _ (with_terms l R U normal_form.follows.live f (alone u) normal_form.tree.known)))

    pub normal_or_general : IsNormalHere S L t u R ⊎ (is_general u.head ≡ true)
    normal_or_general = at (is_general u.head) refl
      where
        at : (b : Bool) → is_general u.head ≡ b → IsNormalHere S L t u R ⊎ (is_general u.head ≡ true)
        at true e = inr e
        at false known = inl (record { follows = normal_form.follows; stands = stand_there; tree = normal_form.tree; equal = one_there known })

-- Along the chain of aliases each state follows, unless the chain ends in a general variable.
module _ (J : Judge) (law : Lawful J) (l : Listing) (d : Context) (E : Pairs) (backs : Backs J d l E) {G : Type 0} (K : KindRules G) (B : KindBounds G) (c : Context) (g : G) (ts : Forest)
    (S : State) (L : Live) (s : StandThere S L (K.env_of g) ts) (self : AreTreesOf S L (alone (self_type K c g))) where
  pub record Linked (b : AliasBoundKind) (R : State) (t : Tree) : Type 0 where
    pub follows : Follows S R L
    pub stands : StandThere R follows.live (K.env_of g) ts
    pub tree : AreTreesOf R follows.live (alone t)
    pub linked : (U : State) → Follows R U follows.live → IsLinked K B c (E (universes U) (valued (instance (terms_of U)) (K.env_of g))) (terms_of U) g b t

  begun : Linked SelfBounds S (self_type K c g)
  begun = record { follows = follows_itself S L s.sound s.fits; stands = s; tree = self; linked = λ U f. D.first }

  go_further : (b : AliasBoundKind) (R : State) (t : Tree) → is_projection t.head ≡ true → (h : Linked b R t) → (V : State) (u : Tree) → IsNormalHere J law l d E backs (K.env_of g) ts R h.follows.live (first_tree t.children) u V
      → Linked NonSelfBounds V u
  go_further b R t is h V u n = record {
    follows = follows_along S R V L s.sound h.follows n.follows;
    stands = n.stands;
    tree = n.tree;
    linked = λ U f. D.further u (h.linked U (follows_along R V U h.follows.live h.stands.sound n.follows f)) is (n.equal U f);
  }

  pub chain_linked : (b : AliasBoundKind) (R : State) (t : Tree) → IsOnChain K B J c S g b R t → Linked b R t ⊎ (is_general t.head ≡ true)
  chain_linked _ R _ (first like) = inl (subst (λ R. Linked SelfBounds R (self_type K c g)) (sym (backs.alike S R like)) begun)
  chain_linked _ V u (further b R Q t on is like form) = at (chain_linked b R t on)
    where
      first_of : (M : Live) (t : Tree) → has_bounds t.head ≡ true → AreTreesOf R M (alone t) → AreTreesOf R M (alone (first_tree t.children))
      first_of M t has a = first-trees R M t.children (arguments-of R M t has a)

      at : Linked b R t ⊎ (is_general t.head ≡ true) → Linked NonSelfBounds V u ⊎ (is_general u.head ≡ true)
      at (inr general) = absurd (bounded-known t.head (projection-has t.head is) general)
      at (inl h) =
          elim (normal_or_general J law l d E backs (K.env_of g) ts R h.follows.live h.stands (first_tree t.children) u V (first_of h.follows.live t (projection-has t.head is) h.tree)
          (subst (λ Z. J.normalized Z (K.env_of g) (first_tree t.children) ≡ Some (u, V)) (backs.alike R Q like) form)) [
            | inl n ↦ inl (go_further b R t is h V u n)
            | inr general ↦ inr general
          ]

-- What is answered at a state that follows is answered.
pub answered_before : (d : Context) (l : Listing) (E : Pairs) (S R : State) (L : Live) (e : Env) (h : Head) (ts : Forest) → IsSound S L → (f : Follows S R L) → (r : Response) → IsAnsweredBy d l E R f.live e h ts r → IsAnsweredBy d l E S L e h ts r
answered_before d l E S R L e h ts sound f r a = record { last = a.last; follows = follows_along S R a.last L sound f a.follows; response = a.response; derivation = a.derivation }

module _ (J : Judge) (law : Lawful J) (l : Listing) (d : Context) (E : Pairs) (backs : Backs J d l E)
    (S : State) (L : Live) (g : TraitGoal) (s : StandsWithPending S L g) (readable : IsReadable g) (c : Context) (grows : Grows d c) (well : IsWellFormedTable c) (few : IsCounted c) where
  abbrev standing : StandThere S L g.env g.reference.arguments
  standing = goal_stands_there S L g s

  stands_as_goal : (R : State) (M : Live) → StandThere R M g.env g.reference.arguments → StandsWithPending R M g
  stands_as_goal R M t = record { sound = t.sound; fits = t.fits; goals = t.goals; env = t.env; arguments = t.trees }

  abbrev IsLinkedHere : AliasBoundKind → State → Tree → Type 0
  IsLinkedHere = Linked J law l d E backs trait_rules trait_bounds c g g.reference.arguments S L standing (first-trees S L g.reference.arguments s.arguments)

  abbrev IsNormal : Tree → Tree → State → Type 0
  IsNormal = IsNormalHere J law l d E backs g.env g.reference.arguments S L

  -- by a bound
  bound_answered : (b : AliasBoundKind) (R : State) (t : Tree) → has_bounds t.head ≡ true → IsLinkedHere b R t → (r : Rule) → Contains (link_rules trait_rules trait_bounds.additional c g (link b R t)).rules r
      → (x : Candidate) → RuleGrants (AnswersGranted J) J R r x → x.result.certainty ≡ Yes → IsAnswered d l E S L g x.result
  bound_answered b R t has h r there x grants sure =
      let M = h.follows.live in
      let of = bound-rule-is-of J law c well few.bounds R M g b t has (stands_as_goal R M h.stands) h.tree r there in
      let own = subst (λ rs. Contains rs r) (append-nil (bound_rules trait_rules c g b t)) there in
      let k = bound_of_goal c g b t r own in
      answered_before d l E S R L g.env (said_by g) g.reference.arguments s.sound h.follows x.result (rule_answered J law l d E backs R M g (stands_as_goal R M h.stands) readable c grows r k.env of k.serves x grants sure (λ U f. D.by_bound b t (h.linked U f) has own))

  -- by unsizing, to a target whose normal form is equal to it
  unsized_answered : (x : Candidate) → x.result.certainty ≡ Yes → (r : Rule) (R : State) (t u : Tree) (supers : List Tree) → is_item c Lang.Unsize (trait_of trait_rules c g) ≡ true → trait_bounds.unsizing_target g ≡ Some t → IsNormal t u R
      → AreUnsizingSupers c (self_type trait_rules c g) u supers → Fits (declared c) (pair_of (self_type trait_rules c g) u) → Contains (unsizing_rules c supers g u) r → RuleGrants (AnswersGranted J) J R r x → IsAnswered d l E S L g x.result
  unsized_answered x sure r R t u supers is target n are fit there grants =
      let M = n.follows.live in
      let k = All-contains (IsOfGoal g) (unsizing_rules c supers g u) r (unsizing_of_goal g c supers u) there in
      let of = All-contains (RuleIsOf R M) (unsizing_rules c supers g u) r (unsizing-are-of R M g n.stands.env n.stands.trees u n.tree c well few fit supers are) there in
      answered_before d l E S R L g.env (said_by g) g.reference.arguments s.sound n.follows x.result (rule_answered J law l d E backs R M g (stands_as_goal R M n.stands) readable c grows r k.env of k.serves x grants sure (λ U f. D.by_unsizing t u supers is target (n.equal U f) are there))

  -- a target that is a general variable is never sure
  unsizing_unsure : (x : Candidate) → x.result.certainty ≡ Yes → (r : Rule) (R : State) (u : Tree) (supers : List Tree) → is_general u.head ≡ true → Contains (unsizing_rules c supers g u) r → RuleGrants (AnswersGranted J) J R r x → ⊥
  unsizing_unsure x sure r R u supers general there h =
      let only : ambiguous_rule g true ≡ r = only-one (subst (λ rs. Contains rs r) (general-rules c supers g (self_of g) u u.head general) there) in
      let yes : AMBIGUOUS ≡ Yes = ask-sure J law R r x _ AMBIGUOUS (ap (λ (r : Rule). r.ending) (sym only)) h.gives sure in
      cc

  -- by any of these
  pub way_answered : (x : Candidate) → x.result.certainty ≡ Yes → (r : Rule) (R : State) (is : IsRuleOf trait_rules trait_bounds J c S g r R) → RuleGrants (AnswersGranted J) J R r x → IsAnswered d l E S L g x.result
  way_answered x sure r R (by_clause t there) h =
      rule_answered J law l d E backs S L g s readable c grows (where_rule trait_rules c g t) refl
      (where-is-of S L g s.env s.arguments c t (All-contains (λ u. AreTreesOf S L (alone u)) (each_of g.env) t (each-tree S L g.env s.env) there)) (where_serves c g t) x h sure (λ U f. D.by_clause t there)
  way_answered x sure r R (by_bound b t on has there) h = elim (chain_linked J law l d E backs trait_rules trait_bounds c g g.reference.arguments S L standing (first-trees S L g.reference.arguments s.arguments) b R t on) [ inl k ↦ bound_answered b R t has k r there x h sure | inr general ↦ absurd (bounded-known t.head has general) ]
  way_answered x sure r R (by_language n is) h =
      let k = language_of_goal g c n in
      rule_answered J law l d E backs S L g s readable c grows (trait_rule n c g) k.env (language-rule-is-of S L g s.env s.arguments c well few n) k.serves x h sure (λ U f. D.by_language n is)
  way_answered x sure r R (by_unsizing t u V supers is target like normal are fit there) h =
      let args = g.reference.arguments in
      let second = first-trees S L (after_first args) (after-trees S L args s.arguments) in
      let tree = subst (λ y. AreTreesOf S L (alone y)) (sym (target-is g t target)) second in
      elim (normal_or_general J law l d E backs g.env g.reference.arguments S L standing t u R tree (subst (λ Q. J.normalized Q g.env t ≡ Some (u, R)) (backs.alike S V like) normal)) [
        | inl n ↦ unsized_answered x sure r R t u supers is target n are fit there h
        | inr general ↦ absurd (unsizing_unsure x sure r R u supers general there h)
      ]
  way_answered x sure r R (by_impl n there) h =
      rule_answered J law l d E backs S L g s readable c grows (impl_rule trait_rules c S.mode g n) refl
      (impl-is-of S L g s.env s.arguments c well S.mode n) (impl_serves c S.mode g n) x h sure (λ U f. D.by_impl S.mode n there)
