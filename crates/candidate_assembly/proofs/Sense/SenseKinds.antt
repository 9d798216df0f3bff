-- Rules by which a goal of a trait holds by a clause or by an impl: their trees are of a state of which the goal is.
use Rattle.std.proofs.Common.{◌≡◌, ◌++◌, ℕ, Bool, true, false, Option, Some, None, List, [], ◌∷◌, map, refl, ap, arith}
use Rattle.std.specs.List.{All, list_any}
use Rattle.std.specs.Prelude.{IfSome}
use Rattle.std.proofs.lemmas.List.Elements.{All-append, All-cons, All-head, All-nil, All-tail, All-weaker}
use Rattle.ir_trees.specs.declared.decl.contents.ImplId.{ImplId}
use Rattle.ir_trees.specs.declared.ir.heads.ConstHead.TheVariants as C
use Rattle.ir_trees.specs.declared.ir.heads.Head.{Head}
use Rattle.ir_trees.specs.declared.ir.heads.Head.TheVariants as H
use Rattle.ir_trees.specs.declared.ir.heads.Variable.{Variable}
use Rattle.ir_trees.specs.declared.ir.kinds.Clause.{Clause}
use Rattle.ir_trees.specs.declared.ir.kinds.GoalSource.{GoalSource}
use Rattle.ir_trees.specs.declared.ir.kinds.GoalSource.TheVariants.{ImplWhereBound, Misc}
use Rattle.ir_trees.specs.declared.ir.kinds.RegionKind.TheVariants as R
use Rattle.ir_trees.specs.declared.ir.kinds.VarKind.{VarKind}
use Rattle.ir_trees.specs.Syntax.Binders.{escapes}
use Rattle.ir_trees.specs.Declarations.Contents.{Impl}
use Rattle.ir_trees.specs.Declarations.Context.{Context, parameter_kind}
use Rattle.ir_trees.specs.Declarations.Declaring.{impl_at}
use Rattle.ir_trees.specs.Validity.Faults.{all_that_is_held}
use Rattle.ir_trees.specs.Validity.Held.{definitions_held, held_clause, held_clauses, held_values, impls_held}
use Rattle.ir_trees.specs.Declarations.Lookups.{maybe}
use Rattle.ir_trees.specs.Validity.Misplaced.{kinds_of_impl, kinds_of_owner}
use Rattle.ir_trees.specs.Unification.Substitutions.{alone, is_made}
use Rattle.ir_trees.specs.Hierarchy.Supers.{after_first}
use Rattle.ir_trees.specs.Syntax.Trees.{Forest, Tree, holds, none}
use Rattle.ir_trees.specs.Validity.WellFormed.{ImplIsGiven, IsWellFormedTable}
use Rattle.ir_trees.specs.Syntax.Words.{args_forest, clause_tree}
use Rattle.ir_trees.proofs.Instantiation.Folding.{or-left, or-right}
use Rattle.ir_context.proofs.Validity.Given.{impl_given}
use Rattle.ir_context.proofs.Instantiation.Owned.{none-stray}
use Rattle.ir_context.proofs.Validity.WellFormed.{any-of, any-right}
use Rattle.candidate_eval.specs.declared.eval.mode.TypingMode.{TypingMode}
use Rattle.candidate_eval.specs.declared.eval.source.CandidateSource.{CandidateSource}
use Rattle.candidate_eval.specs.declared.eval.certainty.Certainty.{Certainty}
use Rattle.candidate_eval.specs.Derivations.Characterization.{bound_kinds}
use Rattle.candidate_eval.specs.Derivations.ImplRules.{TraitGoal}
use Rattle.candidate_eval.specs.Derivations.Naming.{named}
use Rattle.candidate_eval.specs.Derivations.Rules.{add, ask, equate, fresh, nested, nested_misc, quick, settle}
use Rattle.candidate_eval.specs.Judges.Soundness.{AreTreesOf, Live, is_strange}
use Rattle.candidate_eval.specs.Judges.States.{State}
use Rattle.candidate_eval.proofs.Marks.Closed.{closed}
use Rattle.candidate_eval.proofs.Marks.Holds.{holds_imply, or_false}
use Rattle.candidate_eval.proofs.Marks.Marking.{unmarked}
use Rattle.candidate_assembly.specs.Answers.Assembled.{impl_rule, where_rule}
use Rattle.candidate_assembly.specs.Goals.Kinds.{match_rule}
use Rattle.candidate_assembly.specs.Goals.TraitGoals.{impl_part, match_trait, no_impl}
use Rattle.candidate_assembly.specs.Goals.TraitRules.{trait_rules}
use Rattle.candidate_assembly.proofs.Refusals.KnownHeaders.{header-bare, header-closed, impl-passes, made-free, none-escapes, root-is-low}
use Rattle.candidate_assembly.proofs.Sense.Sense.{StepIsOf, StepsAreOf}
use Rattle.candidate_assembly.proofs.Sense.SenseNames.{named-trees}
use Rattle.candidate_assembly.proofs.Sense.SenseRules.{RuleIsOf}

-- What is declared in an impl: its clauses hold neither a variable nor a placeholder, and no bound variable escapes from them.

pub each-held : {X : Type 0} (f : X → Bool) (held : Clause → X) (xs : List Clause) → list_any f (map held xs) ≡ false → All (λ x. f (held x) ≡ false) xs
each-held f held [] e = All-nil (λ x. f (held x) ≡ false)
each-held f held (x ∷ xs) e = let p = or_false (f (held x)) (list_any f (map held xs)) e in All-cons (λ y. f (held y) ≡ false) x xs p.0 (each-held f held xs p.1)

pub made-free-tree : (mark : Head → Bool) (t : Tree) → holds mark t.children ≡ false → mark t.head ≡ false → ((v : Variable) → mark (H.Infer v) ≡ true) → ((n : ℕ) → mark (H.Region (R.Var n)) ≡ true)
    → ((p : _) → mark (H.Placeholder p) ≡ true) → ((p : _) → mark (H.Const (C.Placeholder p)) ≡ true) → ((p : _) → mark (H.Region (R.Placeholder p)) ≡ true) → holds is_made (alone t) ≡ false
made-free-tree mark t under here terms regions types constants others = made-free mark (alone t) terms regions types constants others (unmarked mark t.head t.children none here under refl)

abbrev pub ClauseIsBare : Context → Clause → Type 0
ClauseIsBare c x = holds is_made (alone (clause_tree c.trees x)) ≡ false

abbrev pub ClauseIsClosed : Context → Clause → Type 0
ClauseIsClosed c x = escapes 0 (alone (clause_tree c.trees x)) ≡ false

pub clauses-of : (P : Clause → Type 0) (w : _) (i : Impl) (f : _) → list_any f (held_clauses w i.wheres ++ (held_clauses w i.super_outlives ++ held_values w i.values)) ≡ false → ((x : Clause) → f (held_clause w x) ≡ false → P x) → All P i.wheres × All P i.super_outlives
clauses-of P w i f e has =
    let ws = held_clauses w i.wheres in
    let os = held_clauses w i.super_outlives in
    let vs = held_values w i.values in
    let weaker = All-weaker (λ x. f (held_clause w x) ≡ false) P has in
    (weaker i.wheres (each-held f (held_clause w) i.wheres (any-of f ws (os ++ vs) e)), weaker i.super_outlives (each-held f (held_clause w) i.super_outlives (any-of f os vs (any-right f ws (os ++ vs) e))))

module _ (c : Context) (t : IsWellFormedTable c) (n : ImplId) (i : Impl) (is : impl_at c n ≡ Some i) where
  clauses-have : (P : Clause → Type 0) (f : _) → list_any f (all_that_is_held c) ≡ false
      → ((w : _) (ks : List VarKind) (x : Clause) → kinds_of_owner c.declarations c.contents.impls w ≡ Some ks → f (held_clause w x) ≡ false → P x) → All P i.wheres × All P i.super_outlives
  clauses-have P f e has =
      let own = impl-passes f 0 c.contents.impls n.0 n.0 i (any-right f (definitions_held c.contents 0 c.declarations) (impls_held 0 c.contents.impls) e) is (omega arith) in
      clauses-of P _ i f (or-right _ _ own) (λ x h. has _ i.parameters x (ap kinds_of_impl is) h)

  clauses-bare : All (ClauseIsBare c) i.wheres × All (ClauseIsBare c) i.super_outlives
  clauses-bare =
      clauses-have (ClauseIsBare c) _ (none-stray c t)
      (λ w ks x owner e. let none-is = rw owner at e in made-free-tree _ (clause_tree c.trees x) (or-right _ _ none-is) (or-left _ _ none-is) (λ v. refl) (λ k. refl) (λ p. refl) (λ p. refl) (λ p. refl))

  clauses-closed : All (ClauseIsClosed c) i.wheres × All (ClauseIsClosed c) i.super_outlives
  clauses-closed =
      clauses-have (ClauseIsClosed c) _ (none-escapes c t)
      (λ w ks x owner e. let u = clause_tree c.trees x in closed 0 u.head u.children none (or-left _ _ e) (or-right _ _ e) refl)

bare-known : (S : State) (L : Live) (h : Head) → is_made h ≡ false → is_strange S L h ≡ false
bare-known S L (H.Infer v) e = absurd cc
bare-known S L (H.Region (R.Var n)) e = absurd cc
bare-known S L (H.Placeholder p) e = root-is-low S.newest_universe p.universe e
bare-known S L (H.Const (C.Placeholder p)) e = root-is-low S.newest_universe p.universe e
bare-known S L (H.Region (R.Placeholder p)) e = root-is-low S.newest_universe p.universe e
bare-known S L _ e = refl

-- what is declared is of every state
pub declared-trees : (S : State) (L : Live) (ts : Forest) → holds is_made ts ≡ false → escapes 0 ts ≡ false → AreTreesOf S L ts
declared-trees S L ts bare is-closed = record { known = holds_imply is_made (is_strange S L) (bare-known S L) ts bare; is_closed = is-closed }

clauses-nest : (S : State) (L : Live) (c : Context) (s : GoalSource) (xs : List Clause) → All (ClauseIsBare c) xs → All (ClauseIsClosed c) xs → StepsAreOf S L (map (add s) (map (clause_tree c.trees) xs))
clauses-nest S L c s [] a b = All-nil (StepIsOf S L)
clauses-nest S L c s (x ∷ xs) a b =
    All-cons (StepIsOf S L) (add s (clause_tree c.trees x)) (map (add s) (map (clause_tree c.trees) xs)) (declared-trees S L (alone (clause_tree c.trees x)) (first (ClauseIsBare c) a) (first (ClauseIsClosed c) b))
    (clauses-nest S L c s xs (rest (ClauseIsBare c) a) (rest (ClauseIsClosed c) b))
  where
    first : (P : Clause → Type 0) → All P (x ∷ xs) → P x
    first P all = All-head P x xs all

    rest : (P : Clause → Type 0) → All P (x ∷ xs) → All P xs
    rest P all = All-tail P x xs all

-- A goal of which the environment and the arguments are of a state.
module _ (S : State) (L : Live) (g : TraitGoal) (env : AreTreesOf S L g.env) (arguments : AreTreesOf S L g.reference.arguments) where
  pub match-steps : (t : Tree) → AreTreesOf S L (alone t) → StepsAreOf S L (match_trait g t)
  match-steps t a =
      let P = StepIsOf S L in
      let args = g.reference.arguments in
      let row = named 0 (bound_kinds t.children) (after_first t.children) in
      All-cons P (quick args (after_first t.children)) (fresh (bound_kinds t.children) ∷ equate args row ∷ []) tt
      (All-cons P (fresh (bound_kinds t.children)) (equate args row ∷ []) tt (All-cons P (equate args row) [] (arguments, named-trees S L t a) (All-nil P)))

  -- by a clause of the environment, and by a bound
  pub where-is-of : (c : Context) (t : Tree) → AreTreesOf S L (alone t) → RuleIsOf S L (where_rule trait_rules c g t)
  where-is-of c t a = record { env = env; steps = All-append (StepIsOf S L) (match_trait g t) (settle ∷ []) (match-steps t a) (All-cons (StepIsOf S L) settle [] tt (All-nil (StepIsOf S L))); ending = a }

  pub bound-is-of : (c : Context) (t : Tree) (s : CandidateSource) (d : Certainty) → AreTreesOf S L (alone t) → RuleIsOf S L (match_rule trait_rules c g t [] (ask s d))
  bound-is-of c t s d a = record { env = env; steps = All-append (StepIsOf S L) (match_trait g t) [] (match-steps t a) (All-nil (StepIsOf S L)); ending = tt }

  -- by an impl
  pub impl-is-of : (c : Context) → IsWellFormedTable c → (m : TypingMode) (n : ImplId) → RuleIsOf S L (impl_rule trait_rules c m g n)
  impl-is-of c t m n = record { env = env; steps = at (impl_at c n) refl (impl_given c t n); ending = tt }
    where
      at : (o : Option Impl) → impl_at c n ≡ o → IfSome o (ImplIsGiven c) → StepsAreOf S L (maybe no_impl (impl_part c.trees m g) o).steps
      at None is given = All-nil (StepIsOf S L)
      at (Some i) is given =
          let P = StepIsOf S L in
          let ks = map parameter_kind i.parameters in
          let header = args_forest c.trees i.trait_ref.args in
          let ws = nested (map (clause_tree c.trees) i.wheres) in
          let os = nested_misc (map (clause_tree c.trees) i.super_outlives) in
          let bare = clauses-bare c t n i is in
          let shut = clauses-closed c t n i is in
          let head = declared-trees S L header (header-bare c t n i is) (header-closed c t n i is given.header.list) in
          All-cons P (fresh ks) (equate g.reference.arguments header ∷ (ws ++ os)) tt
          (All-cons P (equate g.reference.arguments header) (ws ++ os) (arguments, head)
          (All-append P ws os (clauses-nest S L c ImplWhereBound i.wheres bare.0 shut.0) (clauses-nest S L c Misc i.super_outlives bare.1 shut.1)))
