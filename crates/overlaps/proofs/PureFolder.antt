-- Where clauses that hold by a table, said of earlier evaluators, and of one clause after the other.
use Rattle.std.proofs.Common.{◌≡◌, true, ℕ, zero, suc, ◌+◌, ◌<◌, ◌≤◌, ◌⊎◌, inl, inr, arith, length, List, [], ◌∷◌, Some, slice_get, refl, sym, ap, subst, ◌∙◌}
use Rattle.ir_trees.specs.declared.ir.kinds.Args.{Args}
use Rattle.ir_trees.specs.declared.ir.kinds.Clause.{Clause}
use Rattle.ir_trees.specs.declared.ir.kinds.ParamEnv.{ParamEnv}
use Rattle.ir_trees.specs.declared.ir.kinds.TraitPredicate.{TraitPredicate}
use Rattle.ir_trees.specs.Declarations.Context.{Context, Grows}
use Rattle.ir_trees.specs.Declarations.Contents.{Impl}
use Rattle.ir_trees.specs.Instantiation.Folding.{substituted_tree}
use Rattle.ir_trees.specs.Syntax.Trees.{Forest, none, Tree}
use Rattle.ir_trees.specs.Syntax.Words.{ClauseListFits, IsArgs, IsParamEnv, args_forest, clause_tree, env_forest}
use Rattle.ir_folds.proofs.Instantiation.Joining.{clause-kept}
use Rattle.candidate_eval.specs.Dynamic.ObjectRequirements.{arguments_of, trait_said}
use Rattle.candidate_eval.specs.Interface.Evaluators.{Keeps}
use Rattle.candidate_eval.specs.Judges.States.{Env, State, resolved_tree}
use Rattle.candidate_eval.proofs.Dynamic.Objects.{env-kept}
use Rattle.candidate_assembly.specs.Goals.TraitGoals.{trait_goal}
use Rattle.candidate_rounds.specs.Evaluators.Interface.{Fixed, fixed}
use Rattle.candidate_rounds.specs.Evaluators.Known.{Evaluator, probes, state, sure_of, table_of}
use Rattle.candidate_rounds.specs.Table.Goals.{Via}
use Rattle.candidate_rounds.proofs.Table.Noted.{sure-fixed}
use Rattle.rounds_judge.specs.Table.GoalTable.{GoalTable, verdict_in}
use Rattle.rounds_judge.specs.Table.Keys.{key_at}
use Rattle.overlaps.specs.Answered.{AllHold, BothHold, Holds, ImplHolds, IsPlainYes, answered, assumed, is_outlives}
use Rattle.overlaps.specs.Opening.{IsOpenedOf, IsOpenedWith}
use Rattle.overlaps.specs.Refused.{AreOpen, IsOpen, StaysBesideSteps, locals_of}
use Rattle.overlaps.specs.declared.opening.Opened.{Opened}
use Rattle.overlaps.specs.declared.opening.Pair.{Pair}
use Rattle.overlaps.proofs.Refusing.{got-fits, instance-kept}
use Rattle.overlaps.proofs.Staying.{context_of, stays-kept, stays-refl, stays-trans}

-- All stays but nodes and what is known.
pub record StaysAsAsked (old new : Evaluator) : Type 0 where
  pub stays : StaysBesideSteps old new
  pub table : table_of new ≡ table_of old

pub asked-kept : {r s : Evaluator} → Keeps fixed probes context_of r s → state s ≡ state r → StaysAsAsked r s
asked-kept h e = record { stays = stays-kept h e; table = ap (λ (f : Fixed). f.table) h.fixed_same }

pub asked-refl : (r : Evaluator) → StaysAsAsked r r
asked-refl r = record { stays = stays-refl r; table = refl }

pub asked-then : {r s t : Evaluator} → StaysAsAsked r s → StaysBesideSteps s t → table_of t ≡ table_of s → StaysAsAsked r t
asked-then g h e = record { stays = stays-trans g.stays h; table = e ∙ g.table }

-- The same, told what of the table is sure.
pub record StaysSure (old new : Evaluator) : Type 0 where
  pub stays : StaysBesideSteps old new
  pub sure : sure_of new ≡ sure_of old

pub sure-kept : {r s : Evaluator} → Keeps fixed probes context_of r s → state s ≡ state r → StaysSure r s
sure-kept h e = record { stays = stays-kept h e; sure = sure-fixed h.fixed_same }

pub sure-refl : (r : Evaluator) → StaysSure r r
sure-refl r = record { stays = stays-refl r; sure = refl }

pub sure-then : {r s t : Evaluator} → StaysSure r s → StaysBesideSteps s t → sure_of t ≡ sure_of s → StaysSure r t
sure-then g h e = record { stays = stays-trans g.stays h; sure = e ∙ g.sure }

-- two calls that change nothing of what is fixed, nor the state
pub sure-twice : {r s t : Evaluator} → Keeps fixed probes context_of r s → state s ≡ state r → Keeps fixed probes context_of s t → state t ≡ state s → StaysSure r t
sure-twice h e k f = let more = sure-kept k f in sure-then (sure-kept h e) more.stays more.sure

-- The clause is the instance, with all values put in, of an earlier evaluator.

pub clause-assumed : (old : Evaluator) (env : Env) (t u : Tree) → u ≡ resolved_tree (state old) t → is_outlives u.head ≡ true → Holds env (sure_of old) (state old) (resolved_tree (state old) t)
clause-assumed old env t u is h = assumed (ap (λ (x : Tree). is_outlives x.head) (sym is) ∙ h)

pub clause-answered : (old mid : Evaluator) (env : ParamEnv) (t : Tree) (x : Clause) (p : TraitPredicate) → StaysSure old mid → IsParamEnv old.context.trees env → clause_tree mid.context.trees x ≡ resolved_tree (state old) t
    → trait_said (clause_tree mid.context.trees x).head ≡ Some (p.trait_ref.def_id, p.polarity) → arguments_of (clause_tree mid.context.trees x) ≡ args_forest mid.context.trees p.trait_ref.args
    → IsPlainYes (verdict_in (sure_of mid) (key_at (state mid) (trait_goal mid.context.trees env p))) → Holds (env_forest old.context.trees env) (sure_of old) (state old) (resolved_tree (state old) t)
clause-answered old mid env t x p kept e is said fits sure =
    let g = kept.sure in
    let s = kept.stays.state_same in
    answered (record {
      goal = trait_goal mid.context.trees env p;
      says = ap (λ (u : Tree). trait_said u.head) (sym is) ∙ said;
      arguments = sym fits ∙ ap arguments_of is;
      under = (env-kept old.context mid.context env kept.stays.grows e).1;
      answered = subst (λ (q : GoalTable Via × State). IsPlainYes (verdict_in q.0 (key_at q.1 (trait_goal mid.context.trees env p)))) (λ i. (g i, s i)) sure;
    })

-- One clause after the other

pub record AnsweredSoFar (old now : Evaluator) (env : ParamEnv) (locals : Args) (xs : List Clause) (n : ℕ) : Type 0 where
  pub asked : StaysAsAsked old now
  pub sure : sure_of now ≡ sure_of old
  pub hold : (k : ℕ) (x : Clause) → k < n → slice_get xs k ≡ Some x
      → Holds (env_forest old.context.trees env) (sure_of old) (state old) (resolved_tree (state old) (substituted_tree (args_forest old.context.trees locals) (clause_tree old.context.trees x)))

pub none-answered : (r : Evaluator) (env : ParamEnv) (locals : Args) (xs : List Clause) → AnsweredSoFar r r env locals xs 0
none-answered r env locals xs = record { asked = asked-refl r; sure = refl; hold = λ k x l is. absurd (omega (arith, l)) }

split-last : (k n : ℕ) → k < suc n → (k < n) ⊎ (k ≡ n)
split-last zero zero l = inr refl
split-last zero (suc n) l = inl (omega (arith))
split-last (suc k) zero l = absurd (omega (arith, l))
split-last (suc k) (suc n) l = at (split-last k n (omega (arith, l)))
  where
    at : (k < n) ⊎ (k ≡ n) → (suc k < suc n) ⊎ (suc k ≡ suc n)
    at (inl m) = inl (omega (arith, m))
    at (inr e) = inr (ap suc e)

-- what was said of the clause at a later evaluator, by the same table
holds-earlier : (old now : Evaluator) (f : Env) (locals : Args) (xs : List Clause) (n : ℕ) (x : Clause) → StaysSure old now → IsArgs old.context.trees locals → ClauseListFits old.context.trees xs
    → slice_get xs n ≡ Some x → Holds f (sure_of now) (state now) (resolved_tree (state now) (substituted_tree (args_forest now.context.trees locals) (clause_tree now.context.trees x)))
    → Holds f (sure_of old) (state old) (resolved_tree (state old) (substituted_tree (args_forest old.context.trees locals) (clause_tree old.context.trees x)))
holds-earlier old now f locals xs n x kept a fit is h =
    let g = kept.sure in
    let s = kept.stays.state_same in
    let e = instance-kept old.context now.context locals x kept.stays.grows a (got-fits old.context.trees xs n x fit is) in
    subst (λ (q : GoalTable Via × State × Tree). Holds f q.0 q.1 (resolved_tree q.1 q.2)) (λ i. (g i, s i, e i)) h

pub one-answered : (old now next : Evaluator) (env : ParamEnv) (locals : Args) (xs : List Clause) (n : ℕ) (x : Clause) → AnsweredSoFar old now env locals xs n → StaysBesideSteps now next
    → table_of next ≡ table_of now → sure_of next ≡ sure_of now → IsParamEnv old.context.trees env → IsArgs old.context.trees locals → ClauseListFits old.context.trees xs → slice_get xs n ≡ Some x
    → Holds (env_forest now.context.trees env) (sure_of now) (state now) (resolved_tree (state now) (substituted_tree (args_forest now.context.trees locals) (clause_tree now.context.trees x)))
    → AnsweredSoFar old next env locals xs (n + 1)
one-answered old now next env locals xs n x so stays table sure under a fit is h = record {
  asked = asked-then so.asked stays table;
  sure = sure ∙ so.sure;
  hold = λ k y l there. at k y there (split-last k n (omega (arith, l)));
}
  where
    at : (k : ℕ) (y : Clause) → slice_get xs k ≡ Some y → (k < n) ⊎ (k ≡ n)
        → Holds (env_forest old.context.trees env) (sure_of old) (state old) (resolved_tree (state old) (substituted_tree (args_forest old.context.trees locals) (clause_tree old.context.trees y)))
    at k y there (inl m) = so.hold k y m there
    at k y there (inr e) =
        let same-env = (env-kept old.context now.context env so.asked.stays.grows under).1 in
        let both : Some x ≡ Some y = sym is ∙ (ap (slice_get xs) (sym e) ∙ there) in
        let same : x ≡ y = cc in
        holds-earlier old now (env_forest old.context.trees env) locals xs n y (record { stays = so.asked.stays; sure = so.sure }) a fit (is ∙ both)
        (subst (λ (f : Env). Holds f (sure_of now) (state now) (resolved_tree (state now) (substituted_tree (args_forest now.context.trees locals) (clause_tree now.context.trees y)))) same-env
        (subst (λ (z : Clause). Holds (env_forest now.context.trees env) (sure_of now) (state now) (resolved_tree (state now) (substituted_tree (args_forest now.context.trees locals) (clause_tree now.context.trees z)))) same h))

got-below : (xs : List Clause) (k : ℕ) (x : Clause) → slice_get xs k ≡ Some x → k < length xs
got-below [] k x is = absurd cc
got-below (y ∷ ys) zero x is = omega (arith)
got-below (y ∷ ys) (suc k) x is = let m = got-below ys k x is in omega (arith, m)

pub all-answered : (old now : Evaluator) (env : ParamEnv) (locals : Args) (xs : List Clause) (n : ℕ) → AnsweredSoFar old now env locals xs n → length xs ≤ n
    → AllHold (env_forest old.context.trees env) old.context.trees (sure_of old) (state old) (args_forest old.context.trees locals) xs
all-answered old now env locals xs n so end = λ k x is.
    let below = got-below xs k x is in
    so.hold k x (omega (arith, below, end)) is

pub impl-earlier : (old now : Evaluator) (o : Opened) → StaysBesideSteps old now → sure_of now ≡ sure_of old → IsOpen old.context.trees o
    → ImplHolds now.context.trees (sure_of now) (state now) o → ImplHolds old.context.trees (sure_of old) (state old) o
impl-earlier old now o stays sure known h = λ n x is. holds-earlier old now none o.locals o.wheres.items n x (record { stays = stays; sure = sure }) known.0 known.2.fit is (h n x is)

-- What was said of a later context's trees.

pub all-said : (old new : Context) (f : Env) (T : GoalTable Via) (S : State) (o : Opened) → Grows old new → IsOpen old.trees o → AllHold f new.trees T S (args_forest new.trees o.locals) o.wheres.items
    → AllHold f old.trees T S (args_forest old.trees o.locals) o.wheres.items
all-said old new f T S o g known h = λ n x is.
    let e = instance-kept old new o.locals x g known.0 (got-fits old.trees o.wheres.items n x known.2.fit is) in
    subst (λ (t : Tree). Holds f T S (resolved_tree S t)) e (h n x is)

pub both-said : (old new : Context) (T : GoalTable Via) (S : State) (p : Pair) → Grows old new → AreOpen old.trees p → BothHold new.trees T S p → BothHold old.trees T S p
both-said old new T S p g known h = record { first = all-said old new none T S p.first g known.0 h.first; second = all-said old new none T S p.second g known.1 h.second }

-- What was said of an open impl, said of the declared one, which has these in the place of its parameters.

pub all-declared-with : (c mid : Context) (f : Env) (T : GoalTable Via) (U : State) (ls : Forest) (i : Impl) (o : Opened) → Grows c mid → IsOpenedWith c ls i mid o
    → AllHold f mid.trees T U (args_forest mid.trees o.locals) o.wheres.items → AllHold f c.trees T U ls i.wheres
all-declared-with c mid f T U ls i o g h all = λ n x is.
    let there : slice_get o.wheres.items n ≡ Some x = ap (λ (xs : List Clause). slice_get xs n) h.wheres ∙ is in
    let kept = (clause-kept c mid x g (got-fits c.trees i.wheres n x h.given.wheres is)).1 in
    let e : substituted_tree (args_forest mid.trees o.locals) (clause_tree mid.trees x) ≡ substituted_tree ls (clause_tree c.trees x)
    = ap (λ zs. substituted_tree zs (clause_tree mid.trees x)) h.locals ∙ ap (substituted_tree ls) kept in
    subst (λ (t : Tree). Holds f T U (resolved_tree U t)) e (all n x there)

pub all-declared : (c mid : Context) (T : GoalTable Via) (S U : State) (i : Impl) (o : Opened) → Grows c mid → IsOpenedOf c S i mid o → ImplHolds mid.trees T U o
    → AllHold none c.trees T U (locals_of S i) i.wheres
all-declared c mid T S U i o g h all = all-declared-with c mid none T U (locals_of S i) i o g h all
