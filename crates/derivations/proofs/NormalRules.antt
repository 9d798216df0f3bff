-- Rules of goals that a projection is a term: their trees are of a state of which the goal is.
use Rattle.std.proofs.Common.{◌≡◌, ◌==◌, ◌≤◌, ◌++◌, Bool, true, false, Option, Some, None, List, [], ◌∷◌, map, length, refl, ap, arith}
use Rattle.std.specs.List.{All, Contains, list_any}
use Rattle.std.specs.Prelude.{IfSome, find, option_map}
use Rattle.std.proofs.lemmas.List.Elements.{All-append, All-cons, All-contains, All-head, All-map, All-nil, All-tail, All-weaker}
use Rattle.ir_trees.specs.declared.decl.contents.AliasBoundKind.{AliasBoundKind}
use Rattle.ir_trees.specs.declared.decl.contents.AssocValue.{AssocValue}
use Rattle.ir_trees.specs.declared.decl.contents.ImplId.{ImplId}
use Rattle.ir_trees.specs.declared.decl.contents.LangItem.TheVariants as Item
use Rattle.ir_trees.specs.declared.ir.heads.Head.{Head}
use Rattle.ir_trees.specs.declared.ir.heads.Head.TheVariants as H
use Rattle.ir_trees.specs.declared.ir.kinds.AssocId.{AssocId}
use Rattle.ir_trees.specs.declared.ir.kinds.Clause.{Clause}
use Rattle.ir_trees.specs.declared.ir.kinds.GoalSource.TheVariants.{ImplWhereBound}
use Rattle.ir_trees.specs.declared.ir.kinds.TraitId.{TraitId}
use Rattle.ir_trees.specs.declared.ir.kinds.Ty.{Ty}
use Rattle.ir_trees.specs.declared.ir.kinds.VarKind.{VarKind}
use Rattle.ir_trees.specs.Syntax.Binders.{escapes}
use Rattle.ir_trees.specs.Declarations.Contents.{Impl}
use Rattle.ir_trees.specs.Declarations.Context.{Context, parameter_kind}
use Rattle.ir_trees.specs.Declarations.Declaring.{impl_at, no_place}
use Rattle.ir_trees.specs.Declarations.Lookups.{maybe, value_of}
use Rattle.ir_trees.specs.Hierarchy.Supers.{after_first}
use Rattle.ir_trees.specs.Instantiation.Folding.{substituted_tree}
use Rattle.ir_trees.specs.Syntax.Trees.{Forest, Tree, holds, join, none}
use Rattle.ir_trees.specs.Syntax.Words.{args_forest, clause_tree, ty_tree}
use Rattle.ir_trees.specs.Unification.Substitutions.{alone, is_made}
use Rattle.ir_trees.specs.Validity.Faults.{all_that_is_held}
use Rattle.ir_trees.specs.Validity.Held.{definitions_held, held_clause, held_clauses, held_type, held_value, held_values, impls_held}
use Rattle.ir_trees.specs.Validity.Misplaced.{kinds_of_impl, kinds_of_owner}
use Rattle.ir_trees.specs.Validity.WellFormed.{ImplIsGiven, IsWellFormedTable}
use Rattle.ir_trees.proofs.Instantiation.Folding.{or-left, or-right}
use Rattle.ir_context.proofs.Instantiation.Owned.{none-stray}
use Rattle.ir_context.proofs.Validity.Given.{impl_given}
use Rattle.ir_context.proofs.Validity.WellFormed.{any-right}
use Rattle.candidate_eval.specs.declared.eval.certainty.Certainty.{Certainty}
use Rattle.candidate_eval.specs.declared.eval.certainty.Certainty.TheVariants.{Yes}
use Rattle.candidate_eval.specs.declared.eval.mode.TypingMode.{TypingMode}
use Rattle.candidate_eval.specs.declared.eval.source.CandidateSource.{CandidateSource}
use Rattle.candidate_eval.specs.declared.eval.source.CandidateSource.TheVariants.{AliasBound}
use Rattle.candidate_eval.specs.Builtins.Callable.{Callable, CalledWith, Calls, Undetermined, calls}
use Rattle.candidate_eval.specs.Derivations.Characterization.{binder_kinds, bound_kinds}
use Rattle.candidate_eval.specs.Derivations.ImplRules.{TraitGoal}
use Rattle.candidate_eval.specs.Derivations.Naming.{named, named_clause, named_tree}
use Rattle.candidate_eval.specs.Derivations.Rules.{Rule, add, ask, equate, fresh, nested, quick, settle}
use Rattle.candidate_eval.specs.Dynamic.ObjectRequirements.{first_tree}
use Rattle.candidate_eval.specs.Dynamic.Objects.{arguments_in, term_in}
use Rattle.candidate_eval.specs.Judges.Soundness.{AreTreesOf, Live, is_strange}
use Rattle.candidate_eval.specs.Judges.States.{State}
use Rattle.candidate_eval.proofs.Marks.Closed.{closed, last-closed}
use Rattle.candidate_eval.proofs.Marks.Holds.{or_false}
use Rattle.candidate_eval.proofs.Marks.Marking.{but-last-unmarked, last-unmarked}
use Rattle.candidate_assembly.specs.Answers.Assembled.{impl_rule, where_rule}
use Rattle.candidate_assembly.specs.Goals.Kinds.{BuiltinRule, DiscriminantKindRule, ErrorRule, FnTraitRule, PointeeRule, match_rule}
use Rattle.candidate_assembly.specs.Goals.Projections.{match_projection, part_with}
use Rattle.candidate_assembly.specs.Goals.TraitGoals.{item_trait, no_impl}
use Rattle.candidate_assembly.specs.Laws.Given.{IsCounted}
use Rattle.candidate_assembly.specs.Rules.AliasBounds.{alias_bounds, bounds_by, has_bounds, link, link_rules}
use Rattle.candidate_assembly.specs.Rules.BuiltinRules.{ambiguous_rule, call_arguments, call_rule, meets, self_of}
use Rattle.candidate_assembly.proofs.Refusals.KnownHeaders.{filled-closed, filled-unmarked, header-bare, header-closed, impl-passes, none-escapes}
use Rattle.candidate_assembly.proofs.Sense.Sense.{StepIsOf, StepsAreOf}
use Rattle.candidate_assembly.proofs.Sense.SenseBounds.{arguments-of, bounds-of}
use Rattle.candidate_assembly.proofs.Sense.SenseClauses.{but-last-closed}
use Rattle.candidate_assembly.proofs.Sense.SenseKinds.{ClauseIsBare, ClauseIsClosed, clauses-of, declared-trees, made-free-tree}
use Rattle.candidate_assembly.proofs.Sense.SenseLanguage.{language-rule-is-of}
use Rattle.candidate_assembly.proofs.Sense.SenseNames.{named-trees}
use Rattle.candidate_assembly.proofs.Sense.SenseParts.{IsUnderOne, call-under, named-of}
use Rattle.candidate_assembly.proofs.Sense.SenseProved.{first-trees}
use Rattle.candidate_assembly.proofs.Sense.SenseRules.{RuleIsOf}
use Rattle.projection_goals.specs.declared.named.NamedType.{NamedType}
use Rattle.projection_goals.specs.declared.named.NamedType.TheVariants as N
use Rattle.projection_goals.specs.LanguageTypes.{discriminant, equal_rule, known_rule, language_rule, metadata, named_type, output_rule}
use Rattle.projection_goals.specs.Rows.{escaping-parts, held-parts}
use Rattle.projection_goals.specs.Normalizing.{NormalizesGoal, as_projection, goal_of_trait, normalizes_bounds, normalizes_rules, value_in}

-- The parts of a row are of the state, too.
pub row-parts : (S : State) (L : Live) (a b : Forest) → AreTreesOf S L (join a b) → AreTreesOf S L a × AreTreesOf S L b
row-parts S L a b h =
    let p = held-parts (is_strange S L) a b h.known in
    let q = escaping-parts 0 a b h.is_closed in
    (record { known = p.0; is_closed = q.0 }, record { known = p.1; is_closed = q.1 })

-- What is declared in an impl: neither in its where clauses nor in what it says of associated types does a variable or a placeholder stand, and
-- no bound variable escapes from them.

abbrev TypeIsBare : Context → Ty → Type 0
TypeIsBare c x = holds is_made (alone (ty_tree c.trees x)) ≡ false

abbrev TypeIsClosed : Context → Ty → Type 0
TypeIsClosed c x = escapes 0 (alone (ty_tree c.trees x)) ≡ false

value-passes : (P : Ty → Type 0) (w : _) (n : AssocId) (vs : List AssocValue) (f : _) → list_any f (held_values w vs) ≡ false → ((x : Ty) → f (held_type w x) ≡ false → P x)
    → IfSome (option_map (λ (v : AssocValue). v.ty) (find (λ (v : AssocValue). v.assoc.0 == n.0) vs)) P
value-passes P w n [] f e has = tt
value-passes P w n (v ∷ vs) f e has = let p = or_false (f (held_value w v)) (list_any f (held_values w vs)) e in of (v.assoc.0 == n.0) refl (has v.ty p.0) (value-passes P w n vs f p.1 has)
  where
    of : (b : Bool) → v.assoc.0 == n.0 ≡ b → P v.ty → IfSome (option_map (λ (x : AssocValue). x.ty) (find (λ (x : AssocValue). x.assoc.0 == n.0) vs)) P
        → IfSome (option_map (λ (x : AssocValue). x.ty) (find (λ (x : AssocValue). x.assoc.0 == n.0) (v ∷ vs))) P
    of true e here more = rw e here
    of false e here more = rw e more

module _ (c : Context) (t : IsWellFormedTable c) (n : ImplId) (i : Impl) (is : impl_at c n ≡ Some i) where
  clauses-have : (P : Clause → Type 0) (f : _) → list_any f (all_that_is_held c) ≡ false
      → ((w : _) (ks : List VarKind) (x : Clause) → kinds_of_owner c.declarations c.contents.impls w ≡ Some ks → f (held_clause w x) ≡ false → P x) → All P i.wheres
  clauses-have P f e has =
      let own = impl-passes f 0 c.contents.impls n.0 n.0 i (any-right f (definitions_held c.contents 0 c.declarations) (impls_held 0 c.contents.impls) e) is (omega arith) in
      (clauses-of P _ i f (or-right _ _ own) (λ x h. has _ i.parameters x (ap kinds_of_impl is) h)).0

  value-has : (P : Ty → Type 0) (f : _) → list_any f (all_that_is_held c) ≡ false
      → ((w : _) (ks : List VarKind) (x : Ty) → kinds_of_owner c.declarations c.contents.impls w ≡ Some ks → f (held_type w x) ≡ false → P x) → (item : AssocId) → IfSome (value_of item i) P
  value-has P f e has item =
      let own = impl-passes f 0 c.contents.impls n.0 n.0 i (any-right f (definitions_held c.contents 0 c.declarations) (impls_held 0 c.contents.impls) e) is (omega arith) in
      value-passes P _ item i.values f
      (any-right f (held_clauses _ i.super_outlives) (held_values _ i.values) (any-right f (held_clauses _ i.wheres) (held_clauses _ i.super_outlives ++ held_values _ i.values) (or-right _ _ own)))
      (λ x h. has _ i.parameters x (ap kinds_of_impl is) h)

  clauses-bare : All (ClauseIsBare c) i.wheres
  clauses-bare =
      clauses-have (ClauseIsBare c) _ (none-stray c t)
      (λ w ks x owner e. let none-is = rw owner at e in made-free-tree _ (clause_tree c.trees x) (or-right _ _ none-is) (or-left _ _ none-is) (λ v. refl) (λ k. refl) (λ p. refl) (λ p. refl) (λ p. refl))

  clauses-closed : All (ClauseIsClosed c) i.wheres
  clauses-closed =
      clauses-have (ClauseIsClosed c) _ (none-escapes c t)
      (λ w ks x owner e. let u = clause_tree c.trees x in closed 0 u.head u.children none (or-left _ _ e) (or-right _ _ e) refl)

  value-bare : (item : AssocId) → IfSome (value_of item i) (TypeIsBare c)
  value-bare =
      value-has (TypeIsBare c) _ (none-stray c t)
      (λ w ks x owner e. let none-is = rw owner at e in made-free-tree _ (ty_tree c.trees x) (or-right _ _ none-is) (or-left _ _ none-is) (λ v. refl) (λ k. refl) (λ p. refl) (λ p. refl) (λ p. refl))

  value-closed : (item : AssocId) → IfSome (value_of item i) (TypeIsClosed c)
  value-closed =
      value-has (TypeIsClosed c) _ (none-escapes c t)
      (λ w ks x owner e. let u = ty_tree c.trees x in closed 0 u.head u.children none (or-left _ _ e) (or-right _ _ e) refl)

  -- each is of every state
  module _ (S : State) (L : Live) where
    clauses-nest : (xs : List Clause) → All (ClauseIsBare c) xs → All (ClauseIsClosed c) xs → StepsAreOf S L (nested (map (clause_tree c.trees) xs))
    clauses-nest [] a b = All-nil (StepIsOf S L)
    clauses-nest (x ∷ xs) a b =
        All-cons (StepIsOf S L) (add ImplWhereBound (clause_tree c.trees x)) (nested (map (clause_tree c.trees) xs))
        (declared-trees S L (alone (clause_tree c.trees x)) (All-head (ClauseIsBare c) x xs a) (All-head (ClauseIsClosed c) x xs b))
        (clauses-nest xs (All-tail (ClauseIsBare c) x xs a) (All-tail (ClauseIsClosed c) x xs b))

    wheres-nest : StepsAreOf S L (nested (map (clause_tree c.trees) i.wheres))
    wheres-nest = clauses-nest i.wheres clauses-bare clauses-closed

    value-trees : (item : AssocId) → IfSome (value_of item i) (λ x. AreTreesOf S L (alone (ty_tree c.trees x)))
    value-trees item = at (value_of item i) (value-bare item) (value-closed item)
      where
        at : (o : Option Ty) → IfSome o (TypeIsBare c) → IfSome o (TypeIsClosed c) → IfSome o (λ x. AreTreesOf S L (alone (ty_tree c.trees x)))
        at None a b = tt
        at (Some x) a b = declared-trees S L (alone (ty_tree c.trees x)) a b

-- A goal of which the environment, the arguments and the term are of a state.
module _ (S : State) (L : Live) (g : NormalizesGoal) (env : AreTreesOf S L g.env) (arguments : AreTreesOf S L g.arguments) (term : AreTreesOf S L g.term) where
  pub match-steps : (t : Tree) → AreTreesOf S L (alone t) → StepsAreOf S L (match_projection (as_projection g) t)
  match-steps t a =
      let P = StepIsOf S L in
      let ks = bound_kinds t.children in
      let row = named 0 ks (after_first t.children) in
      let named = named-trees S L t a in
      let args : AreTreesOf S L (arguments_in (named_clause 0 t)) = record { known = but-last-unmarked (is_strange S L) row named.known; is_closed = but-last-closed S L 0 row named.is_closed } in
      let last : AreTreesOf S L (alone (term_in (named_clause 0 t))) = record { known = last-unmarked (is_strange S L) row refl named.known; is_closed = last-closed 0 row named.is_closed } in
      let terms = equate (alone (first_tree g.term)) (alone (term_in (named_clause 0 t))) in
      let rows = equate g.arguments (arguments_in (named_clause 0 t)) in
      All-cons P (quick g.arguments (arguments_in t)) (fresh ks ∷ rows ∷ terms ∷ []) tt
      (All-cons P (fresh ks) (rows ∷ terms ∷ []) tt
      (All-cons P rows (terms ∷ []) (arguments, args)
      (All-cons P terms [] (first-trees S L g.term term, last) (All-nil P))))

  -- by a clause of the environment, and by a bound
  pub where-is-of : (c : Context) (t : Tree) → AreTreesOf S L (alone t) → RuleIsOf S L (where_rule normalizes_rules c g t)
  where-is-of c t a = record {
    env = env;
    steps = All-append (StepIsOf S L) (match_projection (as_projection g) t) (settle ∷ []) (match-steps t a) (All-cons (StepIsOf S L) settle [] tt (All-nil (StepIsOf S L)));
    ending = a;
  }

  bound-is-of : (c : Context) (t : Tree) (s : CandidateSource) (d : Certainty) → AreTreesOf S L (alone t) → RuleIsOf S L (match_rule normalizes_rules c g t [] (ask s d))
  bound-is-of c t s d a = record { env = env; steps = All-append (StepIsOf S L) (match_projection (as_projection g) t) [] (match-steps t a) (All-nil (StepIsOf S L)); ending = tt }

  -- by an impl
  pub impl-is-of : (c : Context) → IsWellFormedTable c → (m : TypingMode) (n : ImplId) → RuleIsOf S L (impl_rule normalizes_rules c m g n)
  impl-is-of c t m n = record { env = env; steps = at (impl_at c n) refl (impl_given c t n); ending = tt }
    where
      with-value : (i : Impl) → AreTreesOf S L (args_forest c.trees i.trait_ref.args) → StepsAreOf S L (nested (map (clause_tree c.trees) i.wheres)) → (u : Option Ty) → IfSome u (λ x. AreTreesOf S L (alone (ty_tree c.trees x)))
          → StepsAreOf S L (part_with c.trees (as_projection g) i (option_map (ty_tree c.trees) u)).steps
      with-value i head wheres None own = All-nil (StepIsOf S L)
      with-value i head wheres (Some x) own =
          let P = StepIsOf S L in
          let ks = map parameter_kind i.parameters in
          let header = args_forest c.trees i.trait_ref.args in
          let ws = nested (map (clause_tree c.trees) i.wheres) in
          let rows = equate g.arguments header in
          let terms = equate (alone (ty_tree c.trees x)) (alone (first_tree g.term)) in
          All-cons P (fresh ks) (rows ∷ terms ∷ ws) tt (All-cons P rows (terms ∷ ws) (arguments, head) (All-cons P terms ws (own, first-trees S L g.term term) wheres))

      at : (o : Option Impl) → impl_at c n ≡ o → IfSome o (ImplIsGiven c) → StepsAreOf S L (maybe no_impl (λ i. part_with c.trees (as_projection g) i (value_in c.trees g.item o)) o).steps
      at None is given = All-nil (StepIsOf S L)
      at (Some i) is given =
          let header = args_forest c.trees i.trait_ref.args in
          with-value i (declared-trees S L header (header-bare c t n i is) (header-closed c t n i is given.header.list)) (wheres-nest c t n i is S L) (value_of (record { 0 = g.item }) i) (value-trees c t n i is S L (record { 0 = g.item }))

  -- by the language: a type that a rule names, and else what the rule of the trait is of, and the output of what is called

  named-type-of : (k : NamedType) → AreTreesOf S L (alone (named_type k))
  named-type-of N.Error = record { known = refl; is_closed = refl }
  named-type-of N.Unit = record { known = refl; is_closed = refl }
  named-type-of N.Usize = record { known = refl; is_closed = refl }
  named-type-of N.U8 = record { known = refl; is_closed = refl }

  equal-is-of : (h : TraitGoal) → AreTreesOf S L h.env → (b : Bool) (k : NamedType) → RuleIsOf S L (equal_rule h g.term b k)
  equal-is-of h e b k = record { env = e; steps = All-cons (StepIsOf S L) (equate g.term (alone (named_type k))) [] (term, named-type-of k) (All-nil (StepIsOf S L)); ending = tt }

  open-is-of : (h : TraitGoal) → AreTreesOf S L h.env → RuleIsOf S L (ambiguous_rule h true)
  open-is-of h e = record { env = e; steps = All-nil (StepIsOf S L); ending = tt }

  known-is-of : (h : TraitGoal) → AreTreesOf S L h.env → (o : Option NamedType) → RuleIsOf S L (known_rule h g.term o)
  known-is-of h e None = open-is-of h e
  known-is-of h e (Some k) = equal-is-of h e true k

  output-is-of : (h : TraitGoal) → AreTreesOf S L h.env → (x : Calls) (o : Option TraitId) → ((s : Callable) → x ≡ CalledWith s → IsUnderOne S L s.output) → RuleIsOf S L (call_rule h x o)
      → RuleIsOf S L (output_rule h g.term x o)
  output-is-of h e (CalledWith s) (Some sized) under of =
      let P = StepIsOf S L in
      let ks = binder_kinds s.variables in
      let args = call_arguments h ks s.inputs in
      let out = named_tree 0 ks s.output in
      let rows = equate h.reference.arguments args in
      let terms = equate g.term (alone out) in
      let met = add ImplWhereBound (meets sized out) in
      record {
        env = e;
        steps = All-cons P (fresh ks) (quick h.reference.arguments args ∷ rows ∷ terms ∷ met ∷ []) tt
            (All-cons P (quick h.reference.arguments args) (rows ∷ terms ∷ met ∷ []) tt
            (All-cons P rows (terms ∷ met ∷ []) (of.steps 2 rows (omega arith))
            (All-cons P terms (met ∷ []) (term, named-of S L ks s.output (under s refl))
            (All-cons P met [] (of.steps 3 met (omega arith)) (All-nil P)))));
        ending = tt;
      }
  output-is-of h e (CalledWith s) None under of = record { env = e; steps = All-nil (StepIsOf S L); ending = tt }
  output-is-of h e Undetermined o under of = open-is-of h e
  output-is-of h e _ o under of = record { env = e; steps = All-nil (StepIsOf S L); ending = tt }

  pub language-is-of : (c : Context) → IsWellFormedTable c → IsCounted c → (n : BuiltinRule) → RuleIsOf S L (language_rule n c (goal_of_trait c g) g.term)
  language-is-of c w few ErrorRule = equal-is-of (goal_of_trait c g) env _ N.Error
  language-is-of c w few (FnTraitRule k) =
      let h = goal_of_trait c g in
      output-is-of h env (calls c k (self_of h)) (item_trait c Item.Sized) (λ s e. (call-under S L c w k (self_of h) s (first-trees S L g.arguments arguments) e).output)
      (language-rule-is-of S L h env arguments c w few (FnTraitRule k))
  language-is-of c w few PointeeRule = let h = goal_of_trait c g in known-is-of h env (metadata c (self_of h).head (self_of h).children)
  language-is-of c w few DiscriminantKindRule = let h = goal_of_trait c g in known-is-of h env (discriminant c (self_of h).head)
  language-is-of c w few _ = open-is-of (goal_of_trait c g) env

  -- by a bound of an alias of the state
  module _ (c : Context) (w : IsWellFormedTable c) (few : length c.contents.bounds ≤ no_place) where
    abbrev IsOf : Clause → Type 0
    IsOf x = AreTreesOf S L (alone (clause_tree c.trees x))

    bounds-by-of : (k : AliasBoundKind) (h : Head) → All IsOf (bounds_by c k h)
    bounds-by-of k (H.Alias a i) = bounds-of c w few S L k i.0
    bounds-by-of k _ = All-nil IsOf

    -- with the alias's arguments for the parameters
    alias-bounds-of : (k : AliasBoundKind) (u : Tree) → AreTreesOf S L u.children → All (λ x. AreTreesOf S L (alone x)) (alias_bounds c k u)
    alias-bounds-of k u args =
        All-map (λ x. AreTreesOf S L (alone x)) (λ (x : Clause). substituted_tree u.children (clause_tree c.trees x)) (bounds_by c k u.head)
        (All-weaker IsOf (λ (x : Clause). AreTreesOf S L (alone (substituted_tree u.children (clause_tree c.trees x))))
        (λ x a. record {
          known = filled-unmarked (is_strange S L) refl (λ v. refl) (λ v. refl) (λ v. refl) u.children args.known (is_strange S L) (λ h z. z) (alone (clause_tree c.trees x)) a.known;
          is_closed = filled-closed u.children args.is_closed 0 0 (alone (clause_tree c.trees x)) a.is_closed;
        })
        (bounds_by c k u.head) (bounds-by-of k u.head))

    pub bound-rule-is-of : (b : AliasBoundKind) (t : Tree) → has_bounds t.head ≡ true → AreTreesOf S L (alone t) → (r : Rule) → Contains (link_rules normalizes_rules normalizes_bounds.additional c g (link b S t)).rules r → RuleIsOf S L r
    bound-rule-is-of b t has a r there =
        let rule = λ (x : Tree). match_rule normalizes_rules c g x [] (ask (AliasBound b) Yes) in
        let rules = map rule (alias_bounds c b t) in
        let all : All (RuleIsOf S L) rules =
        All-map (RuleIsOf S L) rule (alias_bounds c b t)
        (All-weaker (λ x. AreTreesOf S L (alone x)) (λ x. RuleIsOf S L (rule x)) (λ x h. bound-is-of c x (AliasBound b) Yes h) (alias_bounds c b t) (alias-bounds-of b t (arguments-of S L t has a))) in
        All-contains (RuleIsOf S L) (rules ++ []) r (All-append (RuleIsOf S L) rules [] all (All-nil (RuleIsOf S L))) there
