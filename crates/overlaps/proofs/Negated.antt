-- Clauses that are known not to hold, by earlier evaluators and by the declared impls.
use Rattle.std.proofs.Common.{◌≡◌, ◌<◌, ◌∷◌, [], ℕ, zero, suc, Bool, true, false, List, Option, Some, None, length, map, slice_get, slice_index_or, Result, Ok, Err, IfOk, refl, sym, ap, arith, inl, inr, subst, ◌∙◌}
use Rattle.std.specs.Prelude.{IfSome}
use Rattle.ir_trees.specs.declared.decl.contents.ImplId.{ImplId}
use Rattle.ir_trees.specs.declared.ir.kinds.Args.{Args}
use Rattle.ir_trees.specs.declared.ir.kinds.Clause.{Clause}
use Rattle.ir_trees.specs.declared.ir.kinds.GenericArg.{GenericArg}
use Rattle.ir_trees.specs.declared.ir.kinds.GenericArg.TheVariants as G
use Rattle.ir_trees.specs.declared.ir.kinds.ParamEnv.{ParamEnv}
use Rattle.ir_trees.specs.declared.ir.kinds.TraitPredicate.{TraitPredicate}
use Rattle.ir_trees.specs.declared.ir.kinds.TraitRef.{TraitRef}
use Rattle.ir_trees.specs.Declarations.Context.{Context, Grows}
use Rattle.ir_trees.specs.Declarations.Contents.{Impl}
use Rattle.ir_trees.specs.Declarations.Declaring.{impl_at}
use Rattle.ir_trees.specs.Hierarchy.Elaboration.{IsElaboration}
use Rattle.ir_trees.specs.Instantiation.Folding.{substituted, substituted_tree}
use Rattle.ir_trees.specs.Instantiation.Folds.{IsArg, arg_tree}
use Rattle.ir_trees.specs.Unification.Substitutions.{alone}
use Rattle.ir_trees.specs.Syntax.Nodes.{kind_at}
use Rattle.ir_trees.specs.Syntax.Trees.{ConstantKind, Forest, none, RegionKind, Tree, TypeKind}
use Rattle.ir_trees.specs.Syntax.Words.{ClauseListFits, IsArgs, IsClause, IsParamEnv, ListFits, args_forest, clause_tree, env_forest, list_forest}
use Rattle.ir_trees.specs.Validity.WellFormed.{ImplIsGiven}
use Rattle.ir_trees.proofs.Growth.Kept.{args-kept, grows-trans}
use Rattle.ir_trees.proofs.Syntax.Rows.{row-single}
use Rattle.ir_folds.proofs.Hierarchy.Implying.{arg-kept}
use Rattle.ir_folds.proofs.Instantiation.Joining.{clause-kept}
use Rattle.candidate_eval.specs.Dynamic.ObjectRequirements.{arguments_of, trait_said}
use Rattle.candidate_eval.specs.Dynamic.Required.{each_of}
use Rattle.candidate_eval.specs.Interface.Evaluators.{HasTrees, accepted, arguments_accepted, rigid, with_rigid}
use Rattle.candidate_eval.specs.Judges.States.{Env, Judge, State, fresh_variables, resolved_tree}
use Rattle.candidate_eval.proofs.Dynamic.Objects.{env-kept}
use Rattle.candidate_eval.proofs.Outcomes.Pairs.{clause_there}
use Rattle.candidate_assembly.specs.Answers.KnownImpls.{header_at, kinds_of_impl}
use Rattle.candidate_assembly.specs.Calls.Impls.{impl_kinds}
use Rattle.candidate_assembly.specs.Goals.TraitGoals.{trait_goal}
use Rattle.candidate_assembly.proofs.Rules.ImplSteps.{impl-same}
use Rattle.candidate_rounds.specs.Evaluators.Interface.{Fixed, fixed, judge_of}
use Rattle.candidate_rounds.specs.Evaluators.Known.{Evaluator, state, sure_of}
use Rattle.candidate_rounds.specs.Evaluators.Leaking.{Leaks}
use Rattle.candidate_rounds.specs.Table.Goals.{Via}
use Rattle.candidate_rounds.proofs.Stops.ResponseStops.{contains-mapped}
use Rattle.candidate_rounds.proofs.Table.Noted.{sure-fixed}
use Rattle.rounds_judge.specs.Table.GoalTable.{GoalTable, verdict_in}
use Rattle.rounds_judge.specs.Table.Keys.{key_at}
use Rattle.overlaps.specs.Answered.{HoldsForAll, IsPlainYes}
use Rattle.overlaps.specs.Apart.{OfDeclared, aside, entered, opened}
use Rattle.overlaps.specs.Negated.{AreImplied, ArePlugged, BothArePlugged, ClauseIsNegated, ImpliesDenied, IsDenied, IsEnvironmentAt, IsNegatedAt, IsNegatedBy, IsNegatedFrom, IsNegatedOfPair, IsNegatedUnder, MayBePlugged, OneIsDenied, OneIsNegated, both_forests, clauses_at, names_of, no_more, one_more, turned, variables_of, with_names}
use Rattle.overlaps.specs.Opening.{AreOpened, IsOpenedOf, IsOpenedWith}
use Rattle.overlaps.specs.Refused.{AreOpen, IsOpen, MakesHeadersEqual, StaysBesideSteps, clause_at, headers_equated, locals_of}
use Rattle.overlaps.specs.Specialized.{IsEnvironmentOf}
use Rattle.overlaps.specs.declared.opening.Opened.{Opened}
use Rattle.overlaps.specs.declared.opening.Pair.{Pair}
use Rattle.overlaps.proofs.OpenedImpls.{given-early, kinds-there, opened-earlier}
use Rattle.overlaps.proofs.Refusing.{got-fits}
use Rattle.overlaps.proofs.Specialized.{environment-earlier}
use Rattle.overlaps.proofs.Universes.{both-universe}

-- what is something isn't nothing
pub some-not-none : {A : Type 0} (o : Option A) (x : A) → o ≡ Some x → o ≡ None → ⊥
some-not-none o x e n = let clash : Some x ≡ None = sym e ∙ n in absurd cc

-- two things that are said of a result
pub both-ok : {A E : Type 0} (P Q : A → Type 0) (r : Result A E) → IfOk r P → IfOk r Q → IfOk r (λ x. P x × Q x)
both-ok P Q (Ok x) p q = (p, q)
both-ok P Q (Err e) p q = tt

-- what is said of something holds of it still
pub some-weaker : {A : Type 0} {P Q : A → Type 0} → ((x : A) → P x → Q x) → (o : Option A) → IfSome o P → IfSome o Q
some-weaker f None h = tt
some-weaker f (Some x) h = f x h

pub some-holds : {A : Type 0} (P : A → Type 0) (o : Option A) (x : A) → o ≡ Some x → IfSome o P → P x
some-holds P o x e h = subst (λ (q : Option _). IfSome q P) e h

-- Variables that become placeholders

-- One more does, by what was said of it alone.
pub plugged-next : (J : Judge) (S T U : State) (vs ns : Forest) (place : ℕ) (x name : Tree) → ArePlugged J S vs ns T → slice_get (each_of vs) place ≡ Some x → slice_get (each_of ns) place ≡ Some name
    → MayBePlugged J T x name U → ArePlugged J S vs ns U
plugged-next J S T U vs ns place x name so one other (inl e) = subst (ArePlugged J S vs ns) (sym e) so
plugged-next J S T U vs ns place x name so one other (inr e) = one_more place x name so one other e

-- They do alike for a judge that accepts the same.
plugged-by : (J K : Judge) → ((S : State) (f g : Forest) → accepted J S none f g ≡ accepted K S none f g) → {S : State} {vs ns : Forest} {T : State} → ArePlugged J S vs ns T → ArePlugged K S vs ns T
plugged-by J K same no_more = no_more
plugged-by J K same (one_more {T = T} place x name more one other e) = one_more place x name (plugged-by J K same more) one other (sym (same T (alone x) (alone name)) ∙ e)

both-plugged-by : (J K : Judge) → ((S : State) (f g : Forest) → accepted J S none f g ≡ accepted K S none f g) → (S T : State) (vs ns : Forest × Forest) → BothArePlugged J S vs ns T
    → BothArePlugged K S vs ns T
both-plugged-by J K same S T vs ns h = record { between = h.between; first = plugged-by J K same h.first; second = plugged-by J K same h.second }

-- What is answered of an equation of two arguments, by an evaluator before, which is at the same state.
pub equation-before : (old mid : Evaluator) (env : ParamEnv) (a b : GenericArg) (r : Option State) → Grows old.context mid.context → fixed mid ≡ fixed old → state mid ≡ state old
    → IsParamEnv old.context.trees env → IsArg old.context.trees a → IsArg old.context.trees b → arguments_accepted (judge_of (fixed mid)) (state mid) mid.context.trees env a b ≡ r
    → arguments_accepted (judge_of (fixed old)) (state old) old.context.trees env a b ≡ r
equation-before old mid env a b r g f s e i j h =
    let x = (env-kept old.context mid.context env g e).1 in
    let y = ap alone (arg-kept old.context mid.context a g i).1 in
    let z = ap alone (arg-kept old.context mid.context b g j).1 in
    subst (λ (q : Fixed × State × Env × Forest × Forest). accepted (judge_of q.0) q.1 q.2 q.3 q.4 ≡ r) (λ k. (f k, s k, x k, y k, z k)) h

-- It was accepted where it was answered so or so, and isn't refused.
pub led-on : (J : Judge) (S T : State) (ts : List Tree) (env : ParamEnv) (a b : GenericArg) (c : Bool) → env_forest ts env ≡ none → (c ≡ true → arguments_accepted J S ts env a b ≡ Some T)
    → (c ≡ false → arguments_accepted J S ts env a b ≡ None) → (arguments_accepted J S ts env a b ≡ None → ⊥) → MayBePlugged J S (arg_tree ts a) (arg_tree ts b) T
led-on J S T ts env a b true empty accepts refuses isnt = inr (subst (λ (e : Env). accepted J S e (alone (arg_tree ts a)) (alone (arg_tree ts b)) ≡ Some T) empty (accepts refl))
led-on J S T ts env a b false empty accepts refuses isnt = absurd (isnt (refuses refl))

-- what stands in a place of a list of arguments

each-arg : (ts : List Tree) (xs : List GenericArg) → ListFits ts xs → each_of (list_forest ts xs) ≡ map (arg_tree ts) xs
each-arg ts [] f = refl
each-arg ts (x ∷ xs) f =
    let others : ListFits ts xs = cc in
    one x f ∙ ap (λ (us : List Tree). arg_tree ts x ∷ us) (each-arg ts xs others)
  where
    one : (x : GenericArg) → ListFits ts (x ∷ xs) → each_of (list_forest ts (x ∷ xs)) ≡ arg_tree ts x ∷ each_of (list_forest ts xs)
    one (G.Ty t) f = let i : kind_at ts t.0 ≡ TypeKind = cc in ap each_of (row-single ts t.0 TypeKind (list_forest ts xs) refl refl i)
    one (G.Const t) f = let i : kind_at ts t.0 ≡ ConstantKind = cc in ap each_of (row-single ts t.0 ConstantKind (list_forest ts xs) refl refl i)
    one (G.Region t) f = let i : kind_at ts t.0 ≡ RegionKind = cc in ap each_of (row-single ts t.0 RegionKind (list_forest ts xs) refl refl i)

got-mapped : {A B : Type 0} (f : A → B) (xs : List A) (n : ℕ) (d : A) → n < length xs → slice_get (map f xs) n ≡ Some (f (slice_index_or xs n d))
got-mapped f [] n d l = absurd (omega (arith, l))
got-mapped f (x ∷ xs) zero d l = refl
got-mapped f (x ∷ xs) (suc n) d l = let m : n < length xs = omega (arith, l) in got-mapped f xs n d m

pub tree-in-place : (ts : List Tree) (of : Args) (xs : List GenericArg) (d : GenericArg) (n : ℕ) → ListFits ts xs → list_forest ts xs ≡ args_forest ts of → n < length xs
    → slice_get (each_of (args_forest ts of)) n ≡ Some (arg_tree ts (slice_index_or xs n d))
tree-in-place ts of xs d n fit is l = ap (λ (us : List Tree). slice_get us n) (sym (ap each_of is) ∙ each-arg ts xs fit) ∙ got-mapped (arg_tree ts) xs n d l

-- The opposite of what a clause says

pub clause-denied : (old mid : Evaluator) (env : ParamEnv) (x : Clause) (p q : TraitPredicate) (T : GoalTable Via) → StaysBesideSteps old mid → IsParamEnv old.context.trees env
    → IsArgs old.context.trees p.trait_ref.args → q.trait_ref ≡ p.trait_ref → p.polarity ≡ turned q.polarity
    → trait_said (clause_tree old.context.trees x).head ≡ Some (p.trait_ref.def_id, p.polarity) → arguments_of (clause_tree old.context.trees x) ≡ args_forest old.context.trees p.trait_ref.args
    → IsPlainYes (verdict_in T (key_at (state mid) (trait_goal mid.context.trees env q))) → HoldsForAll (verdict_in T (key_at (state mid) (trait_goal mid.context.trees env q)))
    → IsDenied (env_forest old.context.trees env) T (state old) (clause_tree old.context.trees x)
clause-denied old mid env x p q T stays e a reference turns said fits sure all =
    let s = stays.state_same in
    let r = sym reference in
    record {
      goal = trait_goal mid.context.trees env q;
      says = said ∙ (λ i. Some ((r i).def_id, turns i));
      arguments = ap (λ (y : TraitRef). args_forest mid.context.trees y.args) reference ∙ ((args-kept old.context mid.context p.trait_ref.args stays.grows a).1 ∙ sym fits);
      under = (env-kept old.context mid.context env stays.grows e).1;
      answered = subst (λ (S : State). IsPlainYes (verdict_in T (key_at S (trait_goal mid.context.trees env q)))) s sure;
      for_all = subst (λ (S : State). HoldsForAll (verdict_in T (key_at S (trait_goal mid.context.trees env q)))) s all;
    }

-- One of several clauses, said of a later evaluator.
pub one-denied : (old now : Evaluator) (env : ParamEnv) (xs : List Clause) (n : ℕ) (d : Clause) (T : GoalTable Via) → StaysBesideSteps old now → IsParamEnv old.context.trees env
    → ClauseListFits old.context.trees xs → n < length xs → IsDenied (env_forest now.context.trees env) T (state now) (clause_tree now.context.trees (slice_index_or xs n d))
    → OneIsDenied (env_forest old.context.trees env) T (state old) (map (clause_tree old.context.trees) xs)
one-denied old now env xs n d T stays e fit l h =
    let x = slice_index_or xs n d in
    let f = (env-kept old.context now.context env stays.grows e).1 in
    let s = stays.state_same in
    let t = (clause-kept old.context now.context x stays.grows (clause_there old.context.trees xs d n fit l)).1 in
    record {
      clause = clause_tree old.context.trees x;
      there = contains-mapped (clause_tree old.context.trees) xs n d l;
      denied = subst (λ (q : Env × State × Tree). IsDenied q.0 T q.1 q.2) (λ i. (f i, s i, t i)) h;
    }

-- What a clause implies was made meanwhile.
pub clause-negated : (old mid : Evaluator) (env : ParamEnv) (locals : Args) (x : Clause) (all xs : List Clause) (T : GoalTable Via) → Grows old.context mid.context → state mid ≡ state old
    → IsParamEnv old.context.trees env → AreImplied old.context (state old) (args_forest old.context.trees locals) x (map (clause_tree mid.context.trees) all) → xs ≡ all
    → OneIsDenied (env_forest mid.context.trees env) T (state mid) (map (clause_tree mid.context.trees) xs) → ClauseIsNegated old T env locals x
clause-negated old mid env locals x all xs T g s e implied same h =
    let f = (env-kept old.context mid.context env g e).1 in
    record {
      all = map (clause_tree mid.context.trees) all;
      implied = implied;
      one = subst (λ (q : Env × State × List Clause). OneIsDenied q.0 T q.1 (map (clause_tree mid.context.trees) q.2)) (λ i. (f i, s i, same i)) h;
    }

-- By earlier contexts

implies-earlier : (env : Env) (c d : Context) (T : GoalTable Via) (S : State) (locals : Forest) (x : Clause) → Grows c d → clause_tree d.trees x ≡ clause_tree c.trees x
    → ImpliesDenied env d T S locals x → ImpliesDenied env c T S locals x
implies-earlier env c d T S locals x g same h = record {
  all = h.all;
  implied = record {
    later = h.implied.later;
    grows = grows-trans c d h.implied.later g h.implied.grows;
    elaborated = subst (λ (t : Tree). IsElaboration h.implied.later (resolved_tree S (substituted_tree locals t) ∷ []) h.all) same h.implied.elaborated;
  };
  one = h.one;
}

at-earlier : (env : Env) (c d : Context) (T : GoalTable Via) (S : State) (locals : Forest) (xs : List Clause) (n : ℕ) → Grows c d → ClauseListFits c.trees xs
    → IsNegatedAt env d T S locals xs n → IsNegatedAt env c T S locals xs n
at-earlier env c d T S locals xs n g fit h = record {
  clause = h.clause;
  is = h.is;
  negated = implies-earlier env c d T S locals h.clause g (clause-kept c d h.clause g (got-fits c.trees xs n h.clause fit h.is)).1 h.negated;
}

-- The clause of that number, said of a later evaluator.
pub one-negated : (old now : Evaluator) (env : ParamEnv) (locals : Args) (xs : List Clause) (n : ℕ) (x : Clause) (T : GoalTable Via) → StaysBesideSteps old now → IsParamEnv old.context.trees env
    → IsArgs old.context.trees locals → ClauseListFits old.context.trees xs → slice_get xs n ≡ Some x → ClauseIsNegated now T env locals x → OneIsNegated old T env locals xs n
one-negated old now env locals xs n x T stays e a fit is h =
    let f = (env-kept old.context now.context env stays.grows e).1 in
    let s = stays.state_same in
    let l = (args-kept old.context now.context locals stays.grows a).1 in
    record {
      clause = x;
      is = is;
      negated =
          implies-earlier (env_forest old.context.trees env) old.context now.context T (state old) (args_forest old.context.trees locals) x stays.grows
          (clause-kept old.context now.context x stays.grows (got-fits old.context.trees xs n x fit is)).1
          (subst (λ (q : Env × State × Forest). ImpliesDenied q.0 now.context T q.1 q.2 x) (λ i. (f i, s i, l i)) h);
    }

-- the same clauses, by a later context
clauses-kept : (c d : Context) (S : State) (ls : Forest) (xs : List Clause) → Grows c d → ClauseListFits c.trees xs → clauses_at d S ls xs ≡ clauses_at c S ls xs
clauses-kept c d S ls [] g f = refl
clauses-kept c d S ls (x ∷ xs) g f =
    let here : IsClause c.trees x = cc in
    let others : ClauseListFits c.trees xs = cc in
    let e = (clause-kept c d x g here).1 in
    ap (λ (t : Tree). resolved_tree S (substituted_tree ls t) ∷ clauses_at d S ls xs) e
    ∙ ap (λ (ts : List Tree). clause_at c S ls x ∷ ts) (clauses-kept c d S ls xs g others)

environment-at-earlier : (c d : Context) (S : State) (o : Opened) (env : Env) → Grows c d → IsOpen c.trees o → IsEnvironmentAt d S o env → IsEnvironmentAt c S o env
environment-at-earlier c d S o env g known h =
    let l = (args-kept c d o.locals g known.0).1 in
    environment-earlier c d (clauses_at c S (args_forest c.trees o.locals) o.wheres.items) (clauses_at d S (args_forest d.trees o.locals) o.wheres.items) env g
    (ap (λ (ls : Forest). clauses_at d S ls o.wheres.items) l ∙ clauses-kept c d S (args_forest c.trees o.locals) o.wheres.items g known.2.fit) h

-- Open impls

second-earlier : (c d : Context) (env : Env) (T : GoalTable Via) (S : State) (o : Opened) (n : ℕ) → Grows c d → IsOpen c.trees o
    → IsNegatedAt env d T S (args_forest d.trees o.locals) o.wheres.items n → IsNegatedAt env c T S (args_forest c.trees o.locals) o.wheres.items n
second-earlier c d env T S o n g known h =
    at-earlier env c d T S (args_forest c.trees o.locals) o.wheres.items n g known.2.fit
    (subst (λ (ls : Forest). IsNegatedAt env d T S ls o.wheres.items n) (args-kept c d o.locals g known.0).1 h)

pub negated-under : (old mid : Evaluator) (env : ParamEnv) (p : Pair) (xs : List Clause) (T : GoalTable Via) → Grows old.context mid.context → state mid ≡ state old → AreOpen old.context.trees p
    → IsEnvironmentAt old.context (state old) p.first (env_forest mid.context.trees env) → xs ≡ p.second.wheres.items → (n : ℕ) → OneIsNegated mid T env p.second.locals xs n → IsNegatedUnder old T p n
negated-under old mid env p xs T g s known e same n h =
    let f = env_forest mid.context.trees env in
    record {
      env = f;
      is_env = e;
      negated =
          second-earlier old.context mid.context f T (state old) p.second n g known.1
          (subst (λ (q : State × List Clause). IsNegatedAt f mid.context T q.0 (args_forest mid.context.trees p.second.locals) q.1 n) (λ i. (s i, same i)) h);
    }

-- Variables of both became placeholders up to where it is known.
pub negated-from : (old one now : Evaluator) (p : Pair) (placeholders : Args × Args) (T : GoalTable Via) → Grows old.context one.context → Grows one.context now.context → fixed one ≡ fixed old
    → ArePlugged (judge_of (fixed old)) (state old) (args_forest old.context.trees p.first.locals) (args_forest old.context.trees placeholders.0) (state one)
    → ArePlugged (judge_of (fixed one)) (state one) (args_forest one.context.trees p.second.locals) (args_forest one.context.trees placeholders.1) (state now) → AreOpen old.context.trees p
    → IsArgs old.context.trees placeholders.1 → (n : ℕ) → IsNegatedUnder now T p n → IsNegatedFrom old (state old) (both_forests old.context.trees placeholders) T p n
negated-from old one now p placeholders T g h f first second known fits n x =
    let c = old.context in
    let whole = grows-trans old.context one.context now.context g h in
    let l = (args-kept c one.context p.second.locals g known.1.0).1 in
    let k = (args-kept c one.context placeholders.1 g fits).1 in
    record {
      plugged = state now;
      leads = record {
        between = state one;
        first = first;
        second = subst (λ (q : Fixed × Forest × Forest). ArePlugged (judge_of q.0) (state one) q.1 q.2 (state now)) (λ i. (f i, l i, k i)) second;
      };
      env = x.env;
      is_env = environment-at-earlier c now.context (state now) p.first x.env whole known.0 x.is_env;
      negated = second-earlier c now.context x.env T (state now) p.second n whole known.1 x.negated;
    }

pub negated-of-pair : (old now : Evaluator) (p : Pair) (placeholders : Args × Args) (T : GoalTable Via) → Grows old.context now.context → fixed now ≡ fixed old → AreOpen old.context.trees p
    → IsArgs old.context.trees placeholders.0 → IsArgs old.context.trees placeholders.1 → headers_equated old p ≡ Some (state now) → (Leaks (state old).newest_universe (state now) → ⊥)
    → (n : ℕ) → IsNegatedFrom now (state now) (both_forests now.context.trees placeholders) T p n → IsNegatedOfPair old (both_forests old.context.trees placeholders) T p n
negated-of-pair old now p placeholders T g f known one other equal kept n h =
    let c = old.context in
    let d = now.context in
    let v = (args-kept c d p.first.locals g known.0.0).1 in
    let w = (args-kept c d p.second.locals g known.1.0).1 in
    let a = (args-kept c d placeholders.0 g one).1 in
    let b = (args-kept c d placeholders.1 g other).1 in
    record {
      after = state now;
      equal = equal;
      no_leak = kept;
      from = record {
        plugged = h.plugged;
        leads = subst (λ (q : Fixed × (Forest × Forest) × Forest × Forest). BothArePlugged (judge_of q.0) (state now) q.1 (q.2, q.3) h.plugged) (λ i. (f i, (v i, w i), a i, b i)) h.leads;
        env = h.env;
        is_env = environment-at-earlier c d h.plugged p.first h.env g known.0 h.is_env;
        negated = second-earlier c d h.env T h.plugged p.second n g known.1 h.negated;
      };
    }

-- By the declared impls

clauses-declared : (c mid : Context) (S : State) (ls : Forest) (i : Impl) (o : Opened) → Grows c mid → IsOpenedWith c ls i mid o
    → clauses_at mid S (args_forest mid.trees o.locals) o.wheres.items ≡ clauses_at c S ls i.wheres
clauses-declared c mid S ls i o g h =
    let a = h.locals in
    let b = h.wheres in
    ap (λ (q : Forest × List Clause). clauses_at mid S q.0 q.1) (λ k. (a k, b k)) ∙ clauses-kept c mid S ls i.wheres g h.given.wheres

negated-declared : (c mid : Context) (env : Env) (T : GoalTable Via) (S : State) (ls : Forest) (i : Impl) (o : Opened) (n : ℕ) → Grows c mid → IsOpenedWith c ls i mid o
    → IsNegatedAt env mid T S (args_forest mid.trees o.locals) o.wheres.items n → IsNegatedAt env c T S ls i.wheres n
negated-declared c mid env T S ls i o n g h x =
    let a = h.locals in
    let b = h.wheres in
    at-earlier env c mid T S ls i.wheres n g h.given.wheres (subst (λ (q : Forest × List Clause). IsNegatedAt env mid T S q.0 q.1 n) (λ k. (a k, b k)) x)

-- Placeholders were made for both, and then variables.
module _ (old one two mid : Evaluator) (a b : ImplId) (p : Pair) (first : Grows old.context one.context) (second : Grows one.context two.context) (third : Grows two.context mid.context) where
  pub negated-here : (T : GoalTable Via) (of_first of_second : Args) → fixed mid ≡ fixed old → IfSome (impl_at old.context a) (ImplIsGiven old.context)
      → IfSome (impl_at old.context b) (ImplIsGiven old.context) → state one ≡ with_rigid (state old) (impl_kinds old.context a) → state two ≡ with_rigid (state one) (impl_kinds one.context b)
      → HasTrees one.context.trees of_first (rigid (state old) (impl_kinds old.context a)) → HasTrees two.context.trees of_second (rigid (state one) (impl_kinds one.context b))
      → AreOpened two.context (state two) a b mid.context (state mid) p → (n : ℕ) → IsNegatedOfPair mid (both_forests mid.context.trees (of_first, of_second)) T p n
      → OfDeclared old.context a b (IsNegatedBy old (state old) T n)
  negated-here T of_first of_second f given other s t named-first named-second o n h =
      let c = old.context in
      let g = grows-trans old.context one.context two.context first second in
      let whole = grows-trans old.context two.context mid.context g third in
      let S = state old in
      let i = o.i in
      let j = o.j in
      let one-is = given-early c two.context a i g given o.first_is in
      let other-is = given-early c two.context b j g other o.second_is in
      let between : impl_at one.context b ≡ Some j = impl-same c one.context b first ∙ other-is.0 in
      let W = with_names S i j in
      let entered-first : state one ≡ entered S i = s ∙ ap (with_rigid S) (kinds-there c a i one-is.0) in
      let named : state two ≡ W = t ∙ (ap (with_rigid (state one)) (kinds-there one.context b j between) ∙ ap (λ (U : State). entered U j) entered-first) in
      let first-names : args_forest mid.context.trees of_first ≡ rigid S (kinds_of_impl i)
      = (args-kept one.context mid.context of_first (grows-trans one.context two.context mid.context second third) named-first.0).1 ∙ (named-first.1 ∙ ap (rigid S) (kinds-there c a i one-is.0)) in
      let second-names : args_forest mid.context.trees of_second ≡ rigid (entered S i) (kinds_of_impl j)
      = (args-kept two.context mid.context of_second third named-second.0).1
      ∙ (named-second.1 ∙ (ap (rigid (state one)) (kinds-there one.context b j between) ∙ ap (λ (U : State). rigid U (kinds_of_impl j)) entered-first)) in
      let x = subst (λ (U : State). IsOpenedOf c U i mid.context p.first) named (opened-earlier c two.context mid.context (fresh_variables (state two) (kinds_of_impl i)) i p.first g one-is.1 o.first) in
      let y = subst (λ (U : State). IsOpenedOf c (opened U i) j mid.context p.second) named
      (opened-earlier c two.context mid.context (fresh_variables (opened (state two) i) (kinds_of_impl j)) j p.second g other-is.1 o.second) in
      let u : state mid ≡ opened (opened W i) j = o.left_is ∙ ap (λ (U : State). opened (opened U i) j) named in
      let v = x.header in
      let w = y.header in
      let l = x.locals in
      let m = y.locals in
      record {
        i = i;
        j = j;
        first_is = one-is.0;
        second_is = other-is.0;
        holds = record {
          after = h.after;
          equal = subst (λ (q : Fixed × State × Forest × Forest). accepted (judge_of q.0) q.1 none q.2 q.3 ≡ Some h.after) (λ k. (f k, u k, v k, w k)) h.equal;
          no_leak = λ l. h.no_leak (subst (λ (q : ℕ). Leaks q h.after) (sym (ap (λ (U : State). U.newest_universe) u ∙ both-universe W i j)) l);
          plugged = h.from.plugged;
          leads =
              subst (λ (q : Fixed × (Forest × Forest) × Forest × Forest). BothArePlugged (judge_of q.0) h.after q.1 (q.2, q.3) h.from.plugged)
              (λ k. (f k, (l k, m k), first-names k, second-names k)) h.from.leads;
          env = h.from.env;
          is_env =
              environment-earlier c mid.context (clauses_at c h.from.plugged (locals_of W i) i.wheres) (clauses_at mid.context h.from.plugged (args_forest mid.context.trees p.first.locals) p.first.wheres.items) h.from.env whole
              (clauses-declared c mid.context h.from.plugged (locals_of W i) i p.first whole x) h.from.is_env;
          negated = negated-declared c mid.context h.from.env T h.from.plugged (locals_of (opened W i) j) j p.second n whole y h.from.negated;
        };
      }

-- A probe that was open meanwhile, in which nothing was pending at first, changes nothing of it.
pub negated-probed : (old began ran new : Evaluator) (a b : ImplId) → began.context ≡ old.context → fixed began ≡ fixed old → state began ≡ aside (state old) → fixed new ≡ fixed ran
    → (n : ℕ) → OfDeclared began.context a b (IsNegatedBy began (state began) (sure_of ran) n) → OfDeclared old.context a b (IsNegatedBy old (aside (state old)) (sure_of new) n)
negated-probed old began ran new a b cx f s g n h =
    let t : sure_of ran ≡ sure_of new = sym (sure-fixed g) in
    let k = h.holds in
    let i = h.i in
    let j = h.j in
    record {
      i = i;
      j = j;
      first_is = ap (λ (c : Context). impl_at c a) (sym cx) ∙ h.first_is;
      second_is = ap (λ (c : Context). impl_at c b) (sym cx) ∙ h.second_is;
      holds = record {
        after = k.after;
        equal = subst (λ (q : Fixed × Context × State). MakesHeadersEqual (judge_of q.0) q.1 (with_names q.2 i j) i j k.after) (λ z. (f z, cx z, s z)) k.equal;
        no_leak = λ x. k.no_leak (subst (λ (U : State). Leaks (with_names U i j).newest_universe k.after) (sym s) x);
        plugged = k.plugged;
        leads =
            subst (λ (q : Fixed × State). BothArePlugged (judge_of q.0) k.after (variables_of (with_names q.1 i j) i j) (names_of q.1 i j) k.plugged) (λ z. (f z, s z)) k.leads;
        env = k.env;
        is_env = subst (λ (q : Context × State). IsEnvironmentOf q.0 (clauses_at q.0 k.plugged (locals_of (with_names q.1 i j) i) i.wheres) k.env) (λ z. (cx z, s z)) k.is_env;
        negated = subst (λ (q : Context × GoalTable Via × State). IsNegatedAt k.env q.0 q.1 k.plugged (locals_of (opened (with_names q.2 i j) i) j) j.wheres n) (λ z. (cx z, t z, s z)) k.negated;
      };
    }

-- the header of an impl, by a later context
header-kept : (c d : Context) (S : State) (i : Impl) → Grows c d → ImplIsGiven c i → (header_at d S i).arguments ≡ (header_at c S i).arguments
header-kept c d S i g given = ap (substituted (fresh_variables S (kinds_of_impl i)) 0) (args-kept c d i.trait_ref.args g given.header.list).1

-- It is so of an earlier evaluator, from which all stays but the table: equations read none.
pub negated-earlier : (old mid : Evaluator) (a b : ImplId) (T : GoalTable Via) → StaysBesideSteps old mid → IfSome (impl_at old.context a) (ImplIsGiven old.context)
    → IfSome (impl_at old.context b) (ImplIsGiven old.context) → (n : ℕ) → OfDeclared mid.context a b (IsNegatedBy mid (aside (state mid)) T n)
    → OfDeclared old.context a b (IsNegatedBy old (aside (state old)) T n)
negated-earlier old mid a b T stays given other n h =
    let c = old.context in
    let d = mid.context in
    let g = stays.grows in
    let k = h.holds in
    let i = h.i in
    let j = h.j in
    let one-is = given-early c d a i g given h.first_is in
    let other-is = given-early c d b j g other h.second_is in
    let f = stays.fixed_same in
    let s : aside (state mid) ≡ aside (state old) = ap aside stays.state_same in
    let same : (U : State) (x y : Forest) → accepted (judge_of (fixed mid)) U none x y ≡ accepted (judge_of (fixed old)) U none x y = λ U x y. ap (λ (z : Fixed). accepted (judge_of z) U none x y) f in
    let W = with_names (aside (state mid)) i j in
    let v = header-kept c d W i g one-is.1 in
    let w = header-kept c d (opened W i) j g other-is.1 in
    let equal : MakesHeadersEqual (judge_of (fixed old)) c W i j k.after
    = subst (λ (q : Forest × Forest). accepted (judge_of (fixed old)) (opened (opened W i) j) none q.0 q.1 ≡ Some k.after) (λ z. (v z, w z))
    (sym (same (opened (opened W i) j) (header_at d W i).arguments (header_at d (opened W i) j).arguments) ∙ k.equal) in
    let is-env
    = environment-earlier c d (clauses_at c k.plugged (locals_of W i) i.wheres) (clauses_at d k.plugged (locals_of W i) i.wheres) k.env g (clauses-kept c d k.plugged (locals_of W i) i.wheres g one-is.1.wheres) k.is_env in
    let negated = at-earlier k.env c d T k.plugged (locals_of (opened W i) j) j.wheres n g other-is.1.wheres k.negated in
    record {
      i = i;
      j = j;
      first_is = one-is.0;
      second_is = other-is.0;
      holds = record {
        after = k.after;
        equal = subst (λ (U : State). MakesHeadersEqual (judge_of (fixed old)) c (with_names U i j) i j k.after) s equal;
        no_leak = λ x. k.no_leak (subst (λ (U : State). Leaks (with_names U i j).newest_universe k.after) (sym s) x);
        plugged = k.plugged;
        leads =
            subst (λ (U : State). BothArePlugged (judge_of (fixed old)) k.after (variables_of (with_names U i j) i j) (names_of U i j) k.plugged) s
            (both-plugged-by (judge_of (fixed mid)) (judge_of (fixed old)) same k.after k.plugged (variables_of W i j) (names_of (aside (state mid)) i j) k.leads);
        env = k.env;
        is_env = subst (λ (U : State). IsEnvironmentOf c (clauses_at c k.plugged (locals_of (with_names U i j) i) i.wheres) k.env) s is-env;
        negated = subst (λ (U : State). IsNegatedAt k.env c T k.plugged (locals_of (opened (with_names U i j) i) j) j.wheres n) s negated;
      };
    }
