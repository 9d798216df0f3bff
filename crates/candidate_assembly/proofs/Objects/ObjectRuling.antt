-- What is answered to a clause of a `dyn` type is what the judge says to the clause's rule.
use Rattle.std.proofs.Common.{◌≡◌, ℕ, zero, suc, ◌+◌, Bool, true, false, Option, Some, None, List, [], ◌∷◌, ◌++◌, All, append_assoc, ap, length, map, refl, subst, sym, ◌∙◌, arith}
use Rattle.std.specs.Prelude.{if◌then◌else◌}
use Rattle.std.proofs.lemmas.List.{append-nil}
use Rattle.std.proofs.lemmas.List.Elements.{All-cons, All-head, All-nil, All-tail}
use Rattle.ir_trees.specs.declared.ir.heads.Head.{Head}
use Rattle.ir_trees.specs.declared.ir.heads.Head.TheVariants as H
use Rattle.ir_trees.specs.declared.ir.kinds.GoalSource.TheVariants.{ImplWhereBound}
use Rattle.ir_trees.specs.Declarations.Context.{Context}
use Rattle.ir_trees.specs.Hierarchy.Elaboration.{first_children}
use Rattle.ir_trees.specs.Instantiation.Folding.{leaf}
use Rattle.ir_trees.specs.Instantiation.Folds.{node}
use Rattle.ir_trees.specs.Syntax.Nodes.{error_tree}
use Rattle.ir_trees.specs.Syntax.Trees.{Forest, Tree, count, holds, join, none, tree}
use Rattle.ir_trees.specs.Unification.Substitutions.{alone}
use Rattle.ir_trees.proofs.Syntax.Splits.{count-join}
use Rattle.candidate_eval.specs.declared.eval.certainty.Certainty.{Certainty}
use Rattle.candidate_eval.specs.declared.eval.certainty.Certainty.TheVariants.{Yes}
use Rattle.candidate_eval.specs.declared.eval.source.CandidateSource.{CandidateSource}
use Rattle.candidate_eval.specs.Derivations.Characterization.{binder_kinds, bound_kinds}
use Rattle.candidate_eval.specs.Derivations.Judging.{At, Judged, Over, Place, asked, at_state, comes_to, continued, judged, put_in_tree, start}
use Rattle.candidate_eval.specs.Derivations.Mentions.{IsBelow, StepsBelow, is_from}
use Rattle.candidate_eval.specs.Derivations.Naming.{names_from, row_of}
use Rattle.candidate_eval.specs.Derivations.Rules.{Ending, Step, ask, fresh, nested}
use Rattle.candidate_eval.specs.Dynamic.ObjectRequirements.{AreAsked, AreUnknown, first_tree, fresh_arguments, goal_in}
use Rattle.candidate_eval.specs.Dynamic.ObjectRules.{IsAskedByRule, IsRuleTree, IsUnknownByRule, named_clauses, place_at}
use Rattle.candidate_eval.specs.Dynamic.Objects.{Projection}
use Rattle.candidate_eval.specs.Dynamic.Replacing.{Filled, Finds, filled, filled_clause, filled_from, projections, then_filled}
use Rattle.candidate_eval.specs.Dynamic.Required.{own_bounds}
use Rattle.candidate_eval.specs.Judges.Alike.{JudgesAlike}
use Rattle.candidate_eval.specs.Judges.States.{Env, Goal, Judge, Pending, State, fresh_variables, with_fresh_variables, with_pending}
use Rattle.candidate_eval.specs.Outcomes.Certainties.{AMBIGUOUS}
use Rattle.candidate_eval.proofs.Derivations.RuleRuns.{comes_append, left_is_whole}
use Rattle.candidate_eval.proofs.Marks.Holds.{holds_parts}
use Rattle.candidate_eval.proofs.Marks.Marking.{unmarked}
use Rattle.candidate_assembly.specs.Goals.Kinds.{KindRules, match_rule, passes}
use Rattle.candidate_assembly.specs.Rules.ObjectBounds.{AreAskedIf, AreUnknownIf, ObjectJudged, OwnClause, all_asked, finds_of, match_at, nested_goals, none_asked, object_bounds, object_rule, reference_by, rejected, required, required_steps, trait_by, unknown, unmatched, width}
use Rattle.candidate_assembly.specs.Rules.ObjectRule.{IsAskedAfter, IsJudgedByRule, IsRequired, MakesUpRule, instance_place}
use Rattle.candidate_assembly.proofs.Calls.Considering.{not-both}
use Rattle.candidate_assembly.proofs.Rules.PureFolder.{rule-comes, rule-refused}
use Rattle.candidate_assembly.proofs.Upcasting.UpcastMatches.{count-fresh}

-- With names in the place of projections, clauses mention no other variables than before.

module _ (mark : Head → Bool) where
  abbrev IsUnmarked : Tree → Type 0
  IsUnmarked t = holds mark (alone t) ≡ false

  record AreFilled (r : Filled) : Type 0 where
    trees : holds mark r.trees ≡ false
    left : All IsUnmarked r.left

  filled-unmarked : (f : Finds) (ts : Forest) (us : List Tree) → holds mark ts ≡ false → All IsUnmarked us → AreFilled (filled f ts us)
  filled-unmarked f none us e a = record { trees = refl; left = a }
  filled-unmarked f (tree h below rest) us e a =
      let p = holds_parts mark h below rest e in
      at (f h below) p.here (unmarked mark h below none p.here p.under refl) us a (filled-unmarked f below us p.under a) (λ vs b. filled-unmarked f rest vs p.others b)
    where
      one : (t : Tree) (more : Filled) → IsUnmarked t → AreFilled more → AreFilled (then_filled t more)
      one t more x m =
          let p = holds_parts mark t.head t.children none x in
          record { trees = unmarked mark t.head t.children more.trees p.here p.under m.trees; left = m.left }

      at : (o : Option Projection) → mark h ≡ false → IsUnmarked (node h below) → (vs : List Tree) → All IsUnmarked vs → AreFilled (filled f below us)
          → ((ws : List Tree) → All IsUnmarked ws → AreFilled (filled f rest ws)) → AreFilled (filled_from o (node h below) (filled f below us) vs (filled f rest))
      at None m x vs b under others =
          one (node h (filled f below us).trees) (filled f rest (filled f below us).left) (unmarked mark h (filled f below us).trees none m under.trees refl)
          (others (filled f below us).left under.left)
      at (Some p) m x [] b under others = one (node h below) (filled f rest []) x (others [] (All-nil IsUnmarked))
      at (Some p) m x (v ∷ vs) b under others = one v (filled f rest vs) (All-head IsUnmarked v vs b) (others vs (All-tail IsUnmarked v vs b))

names-below : (n k m : ℕ) → All (IsUnmarked (is_from n)) (names_from k m)
names-below n k zero = All-nil (IsUnmarked (is_from n))
names-below n k (suc m) = All-cons (IsUnmarked (is_from n)) (leaf (H.Param k)) (names_from (suc k) m) refl (names-below n (suc k) m)

clause-below : (n : ℕ) (f : Finds) (us : List Tree) (c : Tree) → IsBelow n (alone c) → All (IsUnmarked (is_from n)) us → IsBelow n (alone (filled_clause f us c))
clause-below n f us c e a =
    let p = holds_parts (is_from n) c.head c.children none e in
    unmarked (is_from n) c.head (filled f c.children us).trees none p.here (filled-unmarked (is_from n) f c.children us p.under a).trees refl

pub named-clauses-below : (n : ℕ) (f : Finds) (k : ℕ) (cs : List Tree) → All (IsRuleTree n) cs → StepsBelow n (nested (named_clauses f k cs))
named-clauses-below n f k [] a = tt
named-clauses-below n f k (c ∷ cs) a =
    let m = length (projections f c.children) in
    (clause-below n f (names_from k m) c (All-head (IsRuleTree n) c cs a).below (names-below n k m), named-clauses-below n f (k + m) cs (All-tail (IsRuleTree n) c cs a))

-- Goals that become pending, one after the other.
pub nested-comes : (J : Judge) (e : Env) (p : Place) (cs : List Tree) (s : CandidateSource) (k : Certainty)
    → comes_to J e p (nested cs) (ask s k) ≡ asked J (nested_goals p.state (map (goal_in e) (map (put_in_tree p) cs))) s k
nested-comes J e p [] s k = ap (λ (ps : List Pending). asked J (with_pending p.state ps) s k) (sym (append-nil p.state.pending))
nested-comes J e p (c ∷ cs) s k =
    let one : Pending = record { source = ImplWhereBound; goal = goal_in e (put_in_tree p c) } in
    let q = at_state p (with_pending p.state (p.state.pending ++ one ∷ [])) in
    nested-comes J e q cs s k
    ∙ ap (λ (ps : List Pending). asked J (with_pending p.state ps) s k) (append_assoc p.state.pending (one ∷ []) (map (λ (x : Goal). let y : Pending = record { source = ImplWhereBound; goal = x } in y) (map (goal_in e) (map (put_in_tree p) cs))))

-- The instance of a clause's reference has the variables of the clause.

bound-first : (ts : Forest) → binder_kinds (first_children ts) ≡ bound_kinds ts
bound-first none = refl
bound-first (tree h below rest) = refl

pub kinds-by : (c : Context) (t : Tree) → bound_kinds (reference_by c t).children ≡ bound_kinds t.children
kinds-by c t = bound-first t.children

module _ {G : Type 0} (K : KindRules G) (J : Judge) (law : JudgesAlike J) (c : Context) (S : State) (g : G) where
  abbrev pub env : Env
  env = K.env_of g

  abbrev pub bounds : Forest
  bounds = object_bounds K c g

  abbrev pub ending : OwnClause → Ending
  ending o = ask o.source Yes

  abbrev object_at : State → OwnClause → Tree
  object_at T o = first_tree (fresh_arguments T (reference_by c o.clause))

  abbrev pub further : OwnClause → Tree → List Tree → List Step
  further o object ts = fresh (bound_kinds o.clause.children) ∷ required_steps object bounds (width o.clause + width o.clause) ts

  -- The rule after its match.

  matched-rule : (T : State) (o : OwnClause) (p : Place) (more : List Step) → passes K c g o.clause ≡ true → match_at K J c S g T o ≡ At p
      → judged J T (match_rule K c g o.clause more (ending o)) ≡ comes_to J env p more (ending o)
  matched-rule T o p more passed is =
      sym (rule-comes K J c T g o.clause more (ending o) passed) ∙ left_is_whole J env (start T) p (K.match_steps g o.clause) more (ending o) is

  over-rule : (T : State) (o : OwnClause) (j : Judged) (more : List Step) → passes K c g o.clause ≡ true → match_at K J c S g T o ≡ Over j
      → judged J T (match_rule K c g o.clause more (ending o)) ≡ j
  over-rule T o j more passed is =
      sym (rule-comes K J c T g o.clause more (ending o) passed)
      ∙ (comes_append J env (start T) (K.match_steps g o.clause) more (ending o) ∙ ap (λ r. continued J (ending o) r (λ q. comes_to J env q more (ending o))) is)

  pub asking-rule : (T : State) (o : OwnClause) (object : Tree) (ts : List Tree) (b : Bool) → K.asks_of_objects ≡ b
      → judged J T (object_rule K c g o object ts) ≡ judged J T (match_rule K c g o.clause (if b then further o object ts else []) (ending o))
  asking-rule T o object ts b is = ap (λ x. judged J T (match_rule K c g o.clause (if x then further o object ts else []) (ending o))) is

  -- What is required of the object, from the place on.

  locals-count : (p : Place) (o : OwnClause) → count p.locals ≡ width o.clause → count (instance_place p o.clause).locals ≡ width o.clause + width o.clause
  locals-count p o m =
      let ks = bound_kinds o.clause.children in
      let joined = count-join p.locals (fresh_variables p.state ks) in
      let fresh = count-fresh p.state ks in
      omega (arith, joined, fresh, m)

  required-comes : (p : Place) (o : OwnClause) (object : Tree) (ts : List Tree) (j : Judged) → count p.locals ≡ width o.clause
      → (let q = instance_place p o.clause in comes_to J env q (required_steps object bounds (count q.locals) ts) (ending o) ≡ j) → comes_to J env p (further o object ts) (ending o) ≡ j
  required-comes p o object ts j m is =
      ap (λ n. comes_to J env (instance_place p o.clause) (required_steps object bounds n ts) (ending o)) (sym (locals-count p o m)) ∙ is

  known-comes : (p : Place) (o : OwnClause) (goals : List Goal) (U : State) (x : AreAsked J env c p.state (trait_by c o.clause.head) (reference_by c o.clause) bounds goals U)
      → MakesUpRule env p o.clause (object_at p.state o) bounds x.required
      → comes_to J env p (further o (object_at p.state o) x.required) (ending o) ≡ asked J (nested_goals U goals) o.source Yes
  known-comes p o goals U x m =
      let object = object_at p.state o in
      let bs = own_bounds object bounds in
      let q = instance_place p o.clause in
      let n = length q.state.variables in
      let a : IsAskedByRule J env object bs q.state x.required x.replaced U =
      subst (λ ks. IsAskedByRule J env object bs (with_fresh_variables p.state ks) x.required x.replaced U) (kinds-by c o.clause) x.as_rule in
      let last = place_at U (join q.locals (row_of a.terms)) in
      let f = finds_of object bounds in
      let rest = named_clauses f (count q.locals) x.required in
      required-comes p o object x.required (asked J (nested_goals U goals) o.source Yes) m.matched
      (a.comes n q.locals m.trees (nested rest) (ending o) (named-clauses-below n f (count q.locals) x.required m.trees.required) tt
      ∙ (nested-comes J env last rest o.source Yes
      ∙ ap (λ gs. asked J (nested_goals U gs) o.source Yes) (ap (map (goal_in env)) (a.goals n q.locals m.trees) ∙ sym x.are)))

  vague-comes : (p : Place) (o : OwnClause) (U : State) (x : AreUnknown J env c p.state (trait_by c o.clause.head) (reference_by c o.clause) bounds U)
      → MakesUpRule env p o.clause (object_at p.state o) bounds x.required
      → comes_to J env p (further o (object_at p.state o) x.required) (ending o) ≡ asked J U o.source AMBIGUOUS
  vague-comes p o U x m =
      let object = object_at p.state o in
      let bs = own_bounds object bounds in
      let q = instance_place p o.clause in
      let n = length q.state.variables in
      let a : IsUnknownByRule J env object bs q.state x.required U =
      subst (λ ks. IsUnknownByRule J env object bs (with_fresh_variables p.state ks) x.required U) (kinds-by c o.clause) x.as_rule in
      let f = finds_of object bounds in
      let rest = named_clauses f (count q.locals) x.required in
      required-comes p o object x.required (asked J U o.source AMBIGUOUS) m.matched
      (a n q.locals m.trees (nested rest) (ending o) (named-clauses-below n f (count q.locals) x.required m.trees.required) tt)

  -- Case by case.

  one-place : (T : State) (o : OwnClause) (p q : Place) → match_at K J c S g T o ≡ At p → match_at K J c S g T o ≡ At q → p ≡ q
  one-place T o p q a b = let same : At p ≡ At q = sym a ∙ b in let is : p ≡ q = cc in is

  required-there : (T : State) (o : OwnClause) (p q : Place) (object : Tree) (ts : List Tree) → match_at K J c S g T o ≡ At p → IsRequired c p.state o.clause object ts
      → IsAskedAfter K J c S g T o q → IsRequired c q.state o.clause object ts
  required-there T o p q object ts is r a = subst (λ (x : Place). IsRequired c x.state o.clause object ts) (one-place T o p q is a.matched) r

  known-so : (T U : State) (p : Place) (goals : List Goal) (o : OwnClause) → J.alike S T → passes K c g o.clause ≡ true → match_at K J c S g T o ≡ At p
      → AreAskedIf K.asks_of_objects J env c p.state (trait_by c o.clause.head) (reference_by c o.clause) bounds goals U → IsJudgedByRule K J c S g o (asked J (nested_goals U goals) o.source Yes)
  known-so T U p goals o a passed is (all_asked on x) =
      let object = object_at p.state o in
      record {
        at = T;
        alike = a;
        object = object;
        required = x.required;
        are_required = λ q y. required-there T o p q object x.required is (record { object_is = refl; are = x.requirements }) y;
        is = λ m.
            sym (asking-rule T o object x.required true on
            ∙ (matched-rule T o p (further o object x.required) passed is ∙ known-comes p o goals U x (m p (record { asks = on; passed = passed; matched = is }))));
      }
  known-so T _ p _ o a passed is (none_asked off) = record {
    at = T;
    alike = a;
    object = error_tree;
    required = [];
    are_required = λ q y. absurd (not-both K.asks_of_objects y.asks off);
    is = λ m.
        sym (asking-rule T o error_tree [] false off
        ∙ (matched-rule T o p [] passed is ∙ ap (λ (ps : List Pending). asked J (with_pending p.state ps) o.source Yes) (sym (append-nil p.state.pending))));
  }

  vague-so : (T U : State) (p : Place) (o : OwnClause) → J.alike S T → passes K c g o.clause ≡ true → match_at K J c S g T o ≡ At p
      → AreUnknownIf K.asks_of_objects J env c p.state (trait_by c o.clause.head) (reference_by c o.clause) bounds U → IsJudgedByRule K J c S g o (asked J U o.source AMBIGUOUS)
  vague-so T U p o a passed is k =
      let object = object_at p.state o in
      let x = k.1 in
      record {
        at = T;
        alike = a;
        object = object;
        required = x.required;
        are_required = λ q y. required-there T o p q object x.required is (record { object_is = refl; are = x.requirements }) y;
        is = λ m.
            sym (asking-rule T o object x.required true k.0
            ∙ (matched-rule T o p (further o object x.required) passed is ∙ vague-comes p o U x (m p (record { asks = k.0; passed = passed; matched = is }))));
      }

  pub judged-by-rule : (o : OwnClause) (j : Judged) → ObjectJudged K J c S g o j → IsJudgedByRule K J c S g o j
  judged-by-rule o _ (rejected e) = record {
    at = S;
    alike = law.alike_same S;
    object = error_tree;
    required = [];
    are_required = λ p a. absurd (not-both (passes K c g o.clause) a.passed e);
    is = λ m. sym (asking-rule S o error_tree [] K.asks_of_objects refl ∙ rule-refused K J c S g o.clause _ (ending o) e);
  }
  judged-by-rule o j (unmatched T a passed is) = record {
    at = T;
    alike = a;
    object = error_tree;
    required = [];
    are_required = λ p x. let clash : At p ≡ Over j = sym x.matched ∙ is in absurd cc;
    is = λ m. sym (over-rule T o j _ passed is);
  }
  judged-by-rule o _ (required T U p goals a passed is k) = known-so T U p goals o a passed is k
  judged-by-rule o _ (unknown T U p a passed is k) = vague-so T U p o a passed is k
