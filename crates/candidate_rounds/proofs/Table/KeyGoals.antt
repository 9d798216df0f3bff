-- Goals of traits with values put in, and with their variables numbered anew.
use Rattle.std.proofs.Common.{◌≡◌, ℕ, ◌+◌, true, ◌==◌, List, [], length, map, slice_get, None, refl, sym, ◌∙◌, ap, subst}
use Rattle.std.specs.Prelude.{◌&&◌}
use Rattle.std.specs.Option.{unwrap_or}
use Rattle.ir_trees.specs.declared.ir.heads.Head.{Head}
use Rattle.ir_trees.specs.declared.ir.heads.Head.TheVariants as H
use Rattle.ir_trees.specs.declared.ir.heads.PartHead.TheVariants as P
use Rattle.ir_trees.specs.declared.ir.kinds.Clause.{Clause}
use Rattle.ir_trees.specs.declared.ir.kinds.Goal.{Goal}
use Rattle.ir_trees.specs.declared.ir.stop.Stop.{Stop}
use Rattle.ir_trees.specs.Declarations.Context.{Context, Grows}
use Rattle.ir_trees.specs.Instantiation.Folding.{fold}
use Rattle.ir_trees.specs.Unification.Substitutions.{alone}
use Rattle.ir_trees.specs.Hierarchy.Supers.{after_first}
use Rattle.ir_trees.specs.Syntax.Trees.{Forest, none, tree, Tree, binders_of, join}
use Rattle.ir_trees.specs.Syntax.Words.{IsClause, IsParamEnv, clause_tree, env_forest}
use Rattle.ir_trees.proofs.Instantiation.Folding.{begin}
use Rattle.candidate_eval.specs.declared.eval.mode.TypingMode.{TypingMode}
use Rattle.candidate_eval.specs.Judges.Alike.{info}
use Rattle.candidate_eval.specs.Derivations.ImplRules.{TraitGoal}
use Rattle.candidate_eval.specs.Judges.Instances.{Instance, instance}
use Rattle.candidate_eval.specs.Dynamic.ObjectRequirements.{trait_said}
use Rattle.candidate_eval.specs.Judges.States.{Env, State, Values, is_some, resolved, resolved_tree, valued, valued_tree, value_at}
use Rattle.rounds_judge.specs.Table.Keys.{goal_trees, key_at, numbers_at, over_trees}
use Rattle.rounds_judge.specs.Obligations.Responding.{open_variable, renumbered, renumbered_region, renumbered_regions, renumbered_tree, renumbering, with_numbers}
use Rattle.rounds_judge.specs.Table.TableSettling.{are_bare}
use Rattle.rounds_judge.proofs.States.Marks.{same_depth, valued_node}
use Rattle.candidate_rounds.specs.declared.rounds.goals.GoalKey.{GoalKey}
use Rattle.candidate_rounds.specs.Calls.Gathered.{open_entry}
use Rattle.candidate_rounds.specs.Table.Goals.{IsTraitGoal, SaysTrait, goal_by, goal_said, goal_seen, key_seen}
use Rattle.candidate_rounds.specs.Evaluators.Inferences.{Inference}
use Rattle.candidate_rounds.specs.Evaluators.Known.{IsKnown, state_of}
use Rattle.candidate_rounds.specs.Evaluators.Stopping.{IsKeyStop, IsNumberedStop, IsRenumberingStop, IsTreeStop, of_goal_clause, of_numbered, of_numbered_clause}
use Rattle.candidate_rounds.proofs.Obligations.Anew.{alone-is}
use Rattle.candidate_rounds.proofs.Obligations.Gathering.{opens-are, state-later}
use Rattle.candidate_rounds.proofs.Table.Keying.{arguments-seen, bare-join, env-seen, numbers-join, over-goal}
use Rattle.candidate_rounds.proofs.Snapshots.Knowing.{clause-stays, kind-stays}
use Rattle.candidate_rounds.proofs.Obligations.Noting.{none-anew, numbers-from}

-- What a goal's trees are, and the numbers in them.

module _ (ts : List Tree) (g : Goal Clause) where
  trees-seen : goal_trees (goal_seen ts g) ≡ join (env_forest ts g.param_env) (after_first (clause_tree ts g.predicate).children)
  trees-seen = λ i. join (env-seen ts g i) (arguments-seen ts g i)

  module _ (says : SaysTrait (clause_tree ts g.predicate)) where
    pub numbers-seen : (ns ms ks : List ℕ) → ns ≡ [] → ms ≡ with_numbers ns (env_forest ts g.param_env) → ks ≡ with_numbers ms (clause_tree ts g.predicate).children
        → ks ≡ with_numbers [] (goal_trees (goal_seen ts g))
    numbers-seen ns ms ks n m k =
        let env = env_forest ts g.param_env in
        let args = after_first (clause_tree ts g.predicate).children in
        k
        ∙ (ap (with_numbers ms) says.unbound
        ∙ (ap (λ xs. with_numbers xs args) (m ∙ ap (λ xs. with_numbers xs env) n)
        ∙ (sym (numbers-join [] env args) ∙ ap (with_numbers []) (sym trees-seen))))

    pub bare-seen : are_bare (env_forest ts g.param_env) ≡ true → are_bare (clause_tree ts g.predicate).children ≡ true → are_bare (goal_trees (goal_seen ts g)) ≡ true
    bare-seen e a =
        let args = after_first (clause_tree ts g.predicate).children in
        let b = sym (ap are_bare says.unbound) ∙ a in
        ap are_bare trees-seen ∙ (bare-join (env_forest ts g.param_env) args ∙ (λ i. e i && b i))

-- Where there are no numbers nothing is numbered anew.
pub none-numbered : (ns : List ℕ) (g : TraitGoal) → (length ns == 0) ≡ true → (ns ≡ [] → with_numbers [] (goal_trees g) ≡ []) → g ≡ over_trees (renumbered ns) g
none-numbered ns g z f =
    let both : ns ≡ [] → with_numbers (with_numbers [] g.env) g.reference.arguments ≡ [] = λ n. sym (numbers-join [] g.env g.reference.arguments) ∙ f n in
    let first : ns ≡ [] → with_numbers [] g.env ≡ [] = λ n. numbers-from (with_numbers [] g.env) g.reference.arguments (both n) in
    let e = none-anew ns g.env z first in
    let a = none-anew ns g.reference.arguments z (λ n. sym (ap (λ xs. with_numbers xs g.reference.arguments) (first n)) ∙ both n) in
    λ i. record { env = e i; reference = record { trait = g.reference.trait; arguments = a i }; polarity = g.polarity }

-- A clause whose arguments were changed, and nothing else.
pub record IsChanged (f : Forest → Forest) (c d : Tree) : Type 0 where
  pub head : d.head ≡ c.head
  pub below : d.children ≡ tree (H.Part P.Vars) none (f (after_first c.children))

pub changed-says : (f : Forest → Forest) (c d : Tree) → SaysTrait c → IsChanged f c d → SaysTrait d
changed-says f c d s x = record {
  is_trait = ap (λ h. is_some (trait_said h)) x.head ∙ s.is_trait;
  unbound = x.below ∙ ap (λ r. tree (H.Part P.Vars) none r) (sym (ap after_first x.below));
}

pub said-over : (f : Forest → Forest) (e a : Env) (c d : Tree) → a ≡ f e → IsChanged f c d → goal_said a d ≡ over_trees f (goal_said e c)
said-over f e a c d p x =
    let h = x.head in
    let b = ap after_first x.below in
    (λ i. goal_by (p i) (h i) (b i)) ∙ over-goal e f c.head (after_first c.children)

-- A clause of a trait is no variable.

trait-value : (S : State) (h : Head) → is_some (trait_said h) ≡ true → value_at S h ≡ None
trait-value S (H.Infer v) e = cc
trait-value S (H.Region r) e = cc
trait-value S _ e = refl

trait-instance : (i : Instance) (h : Head) → is_some (trait_said h) ≡ true → instance i h ≡ None
trait-instance i (H.Infer v) e = cc
trait-instance i _ e = refl

trait-region : (ns : List ℕ) (h : Head) → is_some (trait_said h) ≡ true → renumbered_region ns h ≡ h
trait-region ns (H.Region r) e = cc
trait-region ns _ e = refl

valued-clause : (v : Values) (c : Tree) → v c.head ≡ None → valued_tree v c ≡ record { head = c.head; children = valued v c.children }
valued-clause v c e =
    ap (λ o. unwrap_or o (record { head = c.head; children = fold (λ _ u. v u.head) (0 + binders_of c.head) c.children })) e ∙ ap (λ b. record { head = c.head; children = b }) (same_depth v (0 + binders_of c.head) 0 c.children)

pub resolved-clause : (S : State) (c : Tree) → SaysTrait c → IsChanged (resolved S) c (resolved_tree S c)
resolved-clause S c s =
    let v = valued-clause (value_at S) c (trait-value S c.head s.is_trait) in
    record { head = ap (λ (t : Tree). t.head) v; below = ap (λ (t : Tree). t.children) v ∙ ap (resolved S) s.unbound }

pub renumbered-clause : (ns : List ℕ) (c : Tree) → SaysTrait c → IsChanged (renumbered ns) c (renumbered_tree ns c)
renumbered-clause ns c s =
    let v = valued-clause (instance (renumbering ns)) c (trait-instance (renumbering ns) c.head s.is_trait) in
    record {
      head = ap (λ (t : Tree). renumbered_region ns t.head) v ∙ trait-region ns c.head s.is_trait;
      below = ap (λ (t : Tree). renumbered_regions ns t.children) v ∙ ap (renumbered ns) s.unbound;
    }

-- As more numbers are given.

pub goal-made : (b c : Context) (g : Goal Clause) → Grows b c → IsParamEnv b.trees g.param_env → IsClause c.trees g.predicate → SaysTrait (clause_tree c.trees g.predicate) → IsTraitGoal c.trees g
goal-made b c g w e p s = record { goal = (kind-stays b.trees c.trees g.param_env.0 _ w.kept refl e, p); says = s }

module _ (m : TypingMode) (s : Inference) (a b : Context) (p : Clause) (known : IsKnown a.trees s) (grown : Grows a b) (is : IsClause a.trees p) where
  pub put-in : resolved_tree (state_of b.trees m s) (clause_tree b.trees p) ≡ resolved_tree (state_of a.trees m s) (clause_tree a.trees p)
  put-in = let t = state-later m s a b known grown in let u = clause-stays a.trees b.trees p grown.kept is in λ i. resolved_tree (t i) (u i)

  pub clause-unresolved : (ts : List Tree) (e : Env) (x : Stop) → IsTreeStop ts (resolved_tree (state_of b.trees m s) (clause_tree b.trees p)) x → IsKeyStop ts (state_of a.trees m s) e (clause_tree a.trees p) x
  clause-unresolved ts e x c = of_goal_clause (subst (λ t. IsTreeStop ts t x) put-in c)

pub clause-unnumbered-anew : (a b : Context) (p : Clause) (ts : List Tree) (ns : List ℕ) (e : Env) (x : Stop) → Grows a b → IsClause a.trees p
    → IsRenumberingStop (length ns) (length ts) (renumbered ns (alone (clause_tree b.trees p))) x → IsNumberedStop ts ns e (clause_tree a.trees p) x
clause-unnumbered-anew a b p ts ns e x w i c =
    of_numbered_clause (subst (λ f. IsRenumberingStop (length ns) (length ts) f x) (ap (λ t. renumbered ns (alone t)) (clause-stays a.trees b.trees p w.kept i) ∙ alone-is ns (clause_tree a.trees p)) c)

-- a goal that was made is the other, so changed
pub resolved-seen : (S : State) (ts us : List Tree) (g h : Goal Clause) → SaysTrait (clause_tree ts g.predicate) → env_forest us h.param_env ≡ resolved S (env_forest ts g.param_env)
    → clause_tree us h.predicate ≡ resolved_tree S (clause_tree ts g.predicate) → goal_seen us h ≡ over_trees (resolved S) (goal_seen ts g)
resolved-seen S ts us g h s e c =
    said-over (resolved S) (env_forest ts g.param_env) (env_forest us h.param_env) (clause_tree ts g.predicate) (clause_tree us h.predicate) e
    (subst (IsChanged (resolved S) (clause_tree ts g.predicate)) (sym c) (resolved-clause S (clause_tree ts g.predicate) s))

pub renumbered-seen : (ns : List ℕ) (ts us : List Tree) (g h : Goal Clause) → SaysTrait (clause_tree ts g.predicate) → env_forest us h.param_env ≡ renumbered ns (env_forest ts g.param_env)
    → clause_tree us h.predicate ≡ renumbered_tree ns (clause_tree ts g.predicate) → goal_seen us h ≡ over_trees (renumbered ns) (goal_seen ts g)
renumbered-seen ns ts us g h s e c =
    said-over (renumbered ns) (env_forest ts g.param_env) (env_forest us h.param_env) (clause_tree ts g.predicate) (clause_tree us h.predicate) e
    (subst (IsChanged (renumbered ns) (clause_tree ts g.predicate)) (sym c) (renumbered-clause ns (clause_tree ts g.predicate) s))

-- The key.

valued-join : (v : Values) (a b : Forest) → valued v (join a b) ≡ join (valued v a) (valued v b)
valued-join v none b = refl
valued-join v (tree h below rest) b = valued_node v h below (join rest b) ∙ (ap (begin (unwrap_or (v h) (record { head = h; children = valued v below }))) (valued-join v rest b) ∙ ap (λ r. join r (valued v b)) (sym (valued_node v h below rest)))

pub trees-resolved : (S : State) (g : TraitGoal) → goal_trees (over_trees (resolved S) g) ≡ resolved S (goal_trees g)
trees-resolved S g = sym (valued-join (value_at S) g.env g.reference.arguments)

module _ (S : State) (g r : TraitGoal) (ns : List ℕ) (e : r ≡ over_trees (resolved S) g) where
  pub numbers-noted : ns ≡ with_numbers [] (goal_trees r) → ns ≡ numbers_at S g
  numbers-noted n = n ∙ ap (with_numbers []) (ap goal_trees e ∙ trees-resolved S g)

  pub bare-noted : are_bare (goal_trees r) ≡ true → are_bare (resolved S (goal_trees g)) ≡ true
  bare-noted b = sym (ap are_bare (ap goal_trees e ∙ trees-resolved S g)) ∙ b

pub key-made : (ts : List Tree) (m : TypingMode) (s : Inference) (us : List Tree) (k : GoalKey) (g r : TraitGoal) (ns : List ℕ) → r ≡ over_trees (resolved (state_of ts m s)) g
    → ns ≡ with_numbers [] (goal_trees r) → goal_seen us k.goal ≡ over_trees (renumbered ns) r → k.variables.items ≡ map (λ n. open_entry (slice_get s.variables n)) ns
    → key_seen us k ≡ key_at (state_of ts m s) g
key-made ts m s us k g r ns e n o v =
    let S = state_of ts m s in
    let q = numbers-noted S g r ns e n in
    let w = v ∙ (opens-are ts m s ns ∙ ap (λ ks. map (λ j. open_variable (info S j)) ks) q) in
    let t = o ∙ (λ i. over_trees (renumbered (q i)) (e i)) in
    λ i. record { goal = t i; variables = w i }

pub unnumbered-key : (ts : List Tree) (S : State) (a : Env) (c : Tree) (g r : TraitGoal) (ns : List ℕ) (b : Env) (d : Tree) (x : Stop) → g ≡ goal_said a c → r ≡ over_trees (resolved S) g
    → ns ≡ with_numbers [] (goal_trees r) → b ≡ resolved S a → d ≡ resolved_tree S c → IsNumberedStop ts ns b d x → IsKeyStop ts S a c x
unnumbered-key ts S a c g r ns b d x q e n p t k =
    let w = numbers-noted S g r ns e n ∙ ap (numbers_at S) q in
    of_numbered (subst (λ (z : List ℕ × Env × Tree). IsNumberedStop ts z.0 z.1 z.2 x) (λ i. (w i, p i, t i)) k)
