-- The ways in which it is proved that a projection is a type: by a clause of the environment, by a bound of an alias, by a rule of the language, and
-- by an impl.
use Rattle.std.proofs.Common.{◌≡◌, true, Option, Some, None, List, [], ◌∷◌, ◌++◌, inl, inr, map, refl, subst}
use Rattle.std.specs.List.{All, Contains}
use Rattle.std.specs.Prelude.{option_map}
use Rattle.std.proofs.lemmas.List.{append-nil}
use Rattle.std.proofs.lemmas.List.Elements.{All-append, All-cons, All-contains, All-contains_itself, All-map, All-nil, All-weaker}
use Rattle.ir_trees.specs.declared.decl.contents.AliasBoundKind.{AliasBoundKind}
use Rattle.ir_trees.specs.declared.decl.contents.ImplId.{ImplId}
use Rattle.ir_trees.specs.declared.decl.contents.LangItem.TheVariants as Item
use Rattle.ir_trees.specs.declared.ir.kinds.GoalSource.TheVariants.{ImplWhereBound}
use Rattle.ir_trees.specs.declared.ir.kinds.TraitId.{TraitId}
use Rattle.ir_trees.specs.declared.ir.kinds.Ty.{Ty}
use Rattle.ir_trees.specs.Declarations.Context.{Context, Grows, parameter_kind}
use Rattle.ir_trees.specs.Declarations.Contents.{Impl}
use Rattle.ir_trees.specs.Declarations.Declaring.{impl_at}
use Rattle.ir_trees.specs.Declarations.Lookups.{maybe, value_of}
use Rattle.ir_trees.specs.Hierarchy.Supers.{after_first}
use Rattle.ir_trees.specs.Syntax.Trees.{Forest, Tree}
use Rattle.ir_trees.specs.Syntax.Words.{args_forest, clause_tree, ty_tree}
use Rattle.ir_trees.specs.Unification.Substitutions.{alone}
use Rattle.ir_trees.specs.Validity.WellFormed.{IsWellFormedTable}
use Rattle.candidate_eval.specs.declared.eval.certainty.Certainty.TheVariants.{Yes}
use Rattle.candidate_eval.specs.declared.eval.mode.TypingMode.{TypingMode}
use Rattle.candidate_eval.specs.declared.eval.source.CandidateSource.TheVariants.{AliasBound}
use Rattle.candidate_eval.specs.Builtins.Callable.{CalledWith, Calls, Undetermined, calls}
use Rattle.candidate_eval.specs.Derivations.Characterization.{binder_kinds, bound_kinds}
use Rattle.candidate_eval.specs.Derivations.ImplRules.{TraitGoal}
use Rattle.candidate_eval.specs.Derivations.Naming.{named_clause, named_tree}
use Rattle.candidate_eval.specs.Derivations.Rules.{Rule, add, ask, equate, fresh, nested, quick, settle}
use Rattle.candidate_eval.specs.Dynamic.ObjectRequirements.{first_tree}
use Rattle.candidate_eval.specs.Dynamic.Objects.{arguments_in, term_in}
use Rattle.candidate_eval.specs.Dynamic.Required.{each_of}
use Rattle.candidate_eval.specs.Judges.Lawful.{Lawful}
use Rattle.candidate_eval.specs.Judges.Soundness.{AreTreesOf, Follows, Live}
use Rattle.candidate_eval.specs.Judges.States.{Judge, State}
use Rattle.candidate_eval.specs.Outcomes.Responses.{Candidate}
use Rattle.candidate_assembly.specs.Answers.Assembled.{impl_rule, where_rule}
use Rattle.candidate_assembly.specs.Answers.SureAnswers.{AnswersGranted, IsRuleOf, RuleGrants, by_bound, by_clause, by_impl, by_language, by_unsizing}
use Rattle.candidate_assembly.specs.Goals.Kinds.{BuiltinRule, DiscriminantKindRule, ErrorRule, FnTraitRule, PointeeRule, match_rule}
use Rattle.candidate_assembly.specs.Goals.Projections.{match_projection, part_with}
use Rattle.candidate_assembly.specs.Goals.TraitGoals.{item_trait, no_impl}
use Rattle.candidate_assembly.specs.Laws.Given.{IsCounted}
use Rattle.candidate_assembly.specs.Rules.AliasBounds.{alias_bounds, bound_rules, has_bounds, link, link_rules}
use Rattle.candidate_assembly.specs.Rules.BuiltinRules.{call_arguments, meets, self_of}
use Rattle.candidate_assembly.proofs.Sense.SenseNames.{each-tree}
use Rattle.candidate_assembly.proofs.Sense.SenseProved.{first-trees}
use Rattle.projection_goals.specs.declared.named.NamedType.{NamedType}
use Rattle.projection_goals.specs.LanguageTypes.{discriminant, known_rule, language_rule, metadata, output_rule}
use Rattle.projection_goals.specs.Normalizing.{NormalizesGoal, as_projection, goal_of_trait, normalizes_bounds, normalizes_rules, value_in}
use Rattle.rounds_judge.specs.Aliases.Listed.{Listing}
use Rattle.derivations.specs.Derivations as D
use Rattle.derivations.specs.Derivations.{Pairs, projection_trees, said_of}
use Rattle.derivations.proofs.Backing.{Backs}
use Rattle.derivations.proofs.NormalRules.{bound-rule-is-of, impl-is-of, language-is-of, row-parts, where-is-of}
use Rattle.derivations.proofs.Rules.{AreReadable, IsAnsweredBy, StandThere, projection_answered}
use Rattle.derivations.proofs.Serving.{IsOfGoal, adds_serve, one_serves}
use Rattle.derivations.proofs.Steps.{Serves}
use Rattle.derivations.proofs.Ways.{Linked, answered_before, bounded-known, chain_linked}

-- Steps that serve.

projection_serves : (g : NormalizesGoal) (t : Tree) → All Serves (match_projection (as_projection g) t)
projection_serves g t =
    let q = quick g.arguments (arguments_in t) in
    let f = fresh (bound_kinds t.children) in
    let rows = equate g.arguments (arguments_in (named_clause 0 t)) in
    let terms = equate (alone (first_tree g.term)) (alone (term_in (named_clause 0 t))) in
    All-cons Serves q (f ∷ rows ∷ terms ∷ []) tt (All-cons Serves f (rows ∷ terms ∷ []) tt (All-cons Serves rows (terms ∷ []) tt (one_serves terms tt)))

where_serves : (c : Context) (g : NormalizesGoal) (t : Tree) → All Serves (where_rule normalizes_rules c g t).steps
where_serves c g t = All-append Serves (match_projection (as_projection g) t) (settle ∷ []) (projection_serves g t) (one_serves settle tt)

impl_serves : (c : Context) (m : TypingMode) (g : NormalizesGoal) (n : ImplId) → All Serves (impl_rule normalizes_rules c m g n).steps
impl_serves c m g n = at (impl_at c n)
  where
    with_value : (i : Impl) (u : Option Ty) → All Serves (part_with c.trees (as_projection g) i (option_map (ty_tree c.trees) u)).steps
    with_value i None = All-nil Serves
    with_value i (Some x) =
        let ws = map (clause_tree c.trees) i.wheres in
        let f = fresh (map parameter_kind i.parameters) in
        let rows = equate g.arguments (args_forest c.trees i.trait_ref.args) in
        let terms = equate (alone (ty_tree c.trees x)) (alone (first_tree g.term)) in
        All-cons Serves f (rows ∷ terms ∷ nested ws) tt (All-cons Serves rows (terms ∷ nested ws) tt (All-cons Serves terms (nested ws) tt (adds_serve ImplWhereBound ws)))

    at : (o : Option Impl) → All Serves (maybe no_impl (λ i. part_with c.trees (as_projection g) i (value_in c.trees g.item o)) o).steps
    at None = All-nil Serves
    at (Some i) = with_value i (value_of (record { 0 = g.item }) i)

module _ (h : TraitGoal) (term : Forest) where
  known_of_goal : (o : Option NamedType) → IsOfGoal h (known_rule h term o)
  known_of_goal None = record { env = refl; serves = All-nil Serves }
  known_of_goal (Some t) = record { env = refl; serves = one_serves _ tt }

  output_of_goal : (x : Calls) (o : Option TraitId) → IsOfGoal h (output_rule h term x o)
  output_of_goal (CalledWith s) (Some sized) =
      let ks = binder_kinds s.variables in
      let args = call_arguments h ks s.inputs in
      let output = named_tree 0 ks s.output in
      let q = quick h.reference.arguments args in
      let rows = equate h.reference.arguments args in
      let terms = equate term (alone output) in
      let cs = meets sized output ∷ [] in
      record {
        env = refl;
        serves = All-cons Serves (fresh ks) (q ∷ rows ∷ terms ∷ nested cs) tt (All-cons Serves q (rows ∷ terms ∷ nested cs) tt (All-cons Serves rows (terms ∷ nested cs) tt (All-cons Serves terms (nested cs) tt (adds_serve ImplWhereBound cs))));
      }
  output_of_goal (CalledWith s) None = record { env = refl; serves = All-nil Serves }
  output_of_goal Undetermined o = record { env = refl; serves = All-nil Serves }
  output_of_goal _ o = record { env = refl; serves = All-nil Serves }

  language_of_goal : (c : Context) (n : BuiltinRule) → IsOfGoal h (language_rule n c h term)
  language_of_goal c ErrorRule = record { env = refl; serves = one_serves _ tt }
  language_of_goal c (FnTraitRule k) = output_of_goal (calls c k (self_of h)) (item_trait c Item.Sized)
  language_of_goal c PointeeRule = known_of_goal (metadata c (self_of h).head (self_of h).children)
  language_of_goal c DiscriminantKindRule = known_of_goal (discriminant c (self_of h).head)
  language_of_goal c _ = record { env = refl; serves = All-nil Serves }

-- of a rule by a bound: its environment is the goal's, and its steps serve
record IsServed (g : NormalizesGoal) (r : Rule) : Type 0 where
  env : r.env ≡ g.env
  serves : All Serves r.steps

bound_of_goal : (c : Context) (g : NormalizesGoal) (b : AliasBoundKind) (t : Tree) (r : Rule) → Contains (bound_rules normalizes_rules c g b t) r → IsServed g r
bound_of_goal c g b t r there =
    let rule = λ (x : Tree). match_rule normalizes_rules c g x [] (ask (AliasBound b) Yes) in
    let one : (x : Tree) → IsServed g (rule x) = λ x. record { env = refl; serves = All-append Serves (match_projection (as_projection g) x) [] (projection_serves g x) (All-nil Serves) } in
    All-contains (IsServed g) (bound_rules normalizes_rules c g b t) r (All-map (IsServed g) rule (alias_bounds c b t) (All-weaker (Contains (alias_bounds c b t)) (λ x. IsServed g (rule x)) (λ x h. one x) (alias_bounds c b t) (All-contains_itself (alias_bounds c b t)))) there

module _ (J : Judge) (law : Lawful J) (l : Listing) (d : Context) (E : Pairs) (backs : Backs J d l E)
    (S : State) (L : Live) (g : NormalizesGoal) (s : StandThere S L g.env (projection_trees g)) (readable : AreReadable g.env (projection_trees g)) (c : Context) (grows : Grows d c) (well : IsWellFormedTable c) (few : IsCounted c) where
  abbrev parts : (R : State) (M : Live) → StandThere R M g.env (projection_trees g) → AreTreesOf R M g.arguments × AreTreesOf R M g.term
  parts R M t = row-parts R M g.arguments g.term t.trees

  self_tree : AreTreesOf S L (alone (first_tree g.arguments))
  self_tree = first-trees S L g.arguments (parts S L s).0

  abbrev IsAnsweredHere : Candidate → Type 0
  IsAnsweredHere x = IsAnsweredBy d l E S L g.env (said_of g) (projection_trees g) x.result

  abbrev IsLinkedHere : AliasBoundKind → State → Tree → Type 0
  IsLinkedHere = Linked J law l d E backs normalizes_rules normalizes_bounds c g (projection_trees g) S L s self_tree

  -- by a bound
  bound_answered : (b : AliasBoundKind) (R : State) (t : Tree) → has_bounds t.head ≡ true → IsLinkedHere b R t → (r : Rule) → Contains (link_rules normalizes_rules normalizes_bounds.additional c g (link b R t)).rules r
      → (x : Candidate) → RuleGrants (AnswersGranted J) J R r x → x.result.certainty ≡ Yes → IsAnsweredHere x
  bound_answered b R t has h r there x grants sure =
      let M = h.follows.live in
      let p = parts R M h.stands in
      let of = bound-rule-is-of R M g h.stands.env p.0 p.1 c well few.bounds b t has h.tree r there in
      let own = subst (λ rs. Contains rs r) (append-nil (bound_rules normalizes_rules c g b t)) there in
      let k = bound_of_goal c g b t r own in
      answered_before d l E S R L g.env (said_of g) (projection_trees g) s.sound h.follows x.result (projection_answered J law l d E backs R M g h.stands readable c grows r k.env of k.serves x grants sure (λ U f. D.by_bound b t (h.linked U f) has own))

  -- by any of these
  pub projection_way_answered : (x : Candidate) → x.result.certainty ≡ Yes → (r : Rule) (R : State) (is : IsRuleOf normalizes_rules normalizes_bounds J c S g r R) → RuleGrants (AnswersGranted J) J R r x → IsAnsweredHere x
  projection_way_answered x sure r R (by_clause t there) h =
      let p = parts S L s in
      projection_answered J law l d E backs S L g s readable c grows (where_rule normalizes_rules c g t) refl
      (where-is-of S L g s.env p.0 p.1 c t (All-contains (λ u. AreTreesOf S L (alone u)) (each_of g.env) t (each-tree S L g.env s.env) there)) (where_serves c g t) x h sure (λ U f. D.by_clause t there)
  projection_way_answered x sure r R (by_bound b t on has there) h =
      elim (chain_linked J law l d E backs normalizes_rules normalizes_bounds c g (projection_trees g) S L s self_tree b R t on) [ inl k ↦ bound_answered b R t has k r there x h sure | inr general ↦ absurd (bounded-known t.head has general) ]
  projection_way_answered x sure r R (by_language n is) h =
      let p = parts S L s in
      let k = language_of_goal (goal_of_trait c g) g.term c n in
      projection_answered J law l d E backs S L g s readable c grows (language_rule n c (goal_of_trait c g) g.term) k.env (language-is-of S L g s.env p.0 p.1 c well few n) k.serves x h sure (λ U f. D.by_language n is)
  projection_way_answered x sure r R (by_unsizing t u V supers is target like normal are fit there) h = absurd (let no : None ≡ Some t = target in cc)
  projection_way_answered x sure r R (by_impl n there) h =
      let p = parts S L s in
      projection_answered J law l d E backs S L g s readable c grows (impl_rule normalizes_rules c S.mode g n) refl (impl-is-of S L g s.env p.0 p.1 c well S.mode n) (impl_serves c S.mode g n) x h sure (λ U f. D.by_impl S.mode n there)
