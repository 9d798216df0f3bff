-- Clauses that aren't certain, said of earlier evaluators and of declared impls.
use Rattle.std.proofs.Common.{◌≡◌, ◌⊎◌, inl, inr, true, false, Bool, ℕ, List, Option, None, Some, slice_get, refl, sym, ap, subst, ◌∙◌}
use Rattle.std.specs.Prelude.{◌&&◌, IfSome, not}
use Rattle.ir_trees.specs.declared.decl.contents.ImplId.{ImplId}
use Rattle.ir_trees.specs.declared.ir.kinds.Args.{Args}
use Rattle.ir_trees.specs.declared.ir.kinds.Clause.{Clause}
use Rattle.ir_trees.specs.declared.ir.kinds.ParamEnv.{ParamEnv}
use Rattle.ir_trees.specs.declared.ir.kinds.TraitPredicate.{TraitPredicate}
use Rattle.ir_trees.specs.Declarations.Context.{Context, Grows}
use Rattle.ir_trees.specs.Declarations.Contents.{Impl}
use Rattle.ir_trees.specs.Declarations.Declaring.{impl_at}
use Rattle.ir_trees.specs.Instantiation.Folding.{substituted_tree}
use Rattle.ir_trees.specs.Syntax.Trees.{Forest, none, Tree}
use Rattle.ir_trees.specs.Syntax.Words.{ClauseListFits, IsArgs, IsParamEnv, args_forest, clause_tree, env_forest}
use Rattle.ir_trees.proofs.Growth.Kept.{args-kept, grows-trans}
use Rattle.candidate_eval.specs.Derivations.ImplRules.{TraitGoal}
use Rattle.candidate_eval.specs.Dynamic.ObjectRequirements.{arguments_of, trait_said}
use Rattle.candidate_eval.specs.Interface.Evaluators.{accepted}
use Rattle.candidate_eval.specs.Judges.States.{Env, State, resolved_tree}
use Rattle.candidate_eval.proofs.Dynamic.Objects.{env-kept}
use Rattle.candidate_assembly.specs.Goals.TraitGoals.{trait_goal}
use Rattle.candidate_rounds.specs.Evaluators.Interface.{Fixed, fixed, judge_of}
use Rattle.candidate_rounds.specs.Evaluators.Known.{Evaluator, state, sure_of, table_of}
use Rattle.candidate_rounds.specs.Evaluators.Leaking.{Leaks}
use Rattle.candidate_rounds.specs.Table.Goals.{Via, unless_noted}
use Rattle.candidate_rounds.proofs.Table.Noted.{sure-fixed}
use Rattle.rounds_judge.specs.Table.GoalTable.{GoalTable, verdict_in}
use Rattle.rounds_judge.specs.Table.Keys.{key_at}
use Rattle.rounds_judge.specs.Table.Verdicts.{Verdict}
use Rattle.overlaps.specs.Answered.{IsPlainYes, is_outlives}
use Rattle.overlaps.specs.Apart.{OfDeclared, aside, opened}
use Rattle.overlaps.specs.Instance.{first_header, second_header, unless_leaking}
use Rattle.overlaps.specs.Opening.{AreOpened, IsOpenedOf}
use Rattle.overlaps.specs.Refused.{AreOpen, IsOpen, MakesHeadersEqual, StaysBesideSteps, clause_at, headers_equated, locals_of}
use Rattle.overlaps.specs.Uncertain.{EitherHoldsNot, HeadersHaveAlias, HoldsNot, HoldsNotAt, ImplHoldsNot, ImplsAreUncertain, IsUnanswered, IsUncertainWhereEqual, OneHoldsNot, PairIsUncertain, WhereUncertain, by_part, impls_have_alias, impls_have_clause, impls_leak, no_goal, no_plain_yes, pair_has_alias, pair_has_clause, pair_leaks, says_else, unanswered}
use Rattle.overlaps.specs.declared.opening.Opened.{Opened}
use Rattle.overlaps.specs.declared.opening.Pair.{Pair}
use Rattle.overlaps.specs.declared.overlap.Overlap.{Overlap}
use Rattle.overlaps.specs.declared.overlap.Overlap.TheVariants as O
use Rattle.overlaps.proofs.PureFolder.{StaysSure}
use Rattle.overlaps.proofs.AskedClauses.{AreClausesOf, clauses-kept}
use Rattle.overlaps.proofs.Refusing.{got-fits, instance-kept}
use Rattle.overlaps.proofs.Universes.{both-universe}

-- the goal of a predicate, by a later context
pub goal-later : (old mid : Evaluator) (env : ParamEnv) (p : TraitPredicate) → Grows old.context mid.context → IsParamEnv old.context.trees env → IsArgs old.context.trees p.trait_ref.args
    → trait_goal mid.context.trees env p ≡ trait_goal old.context.trees env p
goal-later old mid env p g e a =
    let x = (env-kept old.context mid.context env g e).1 in
    let y = (args-kept old.context mid.context p.trait_ref.args g a).1 in
    ap (λ (q : Env × Forest). let z : TraitGoal = record { env = q.0; reference = record { trait = p.trait_ref.def_id.0; arguments = q.1 }; polarity = p.polarity } in z) (λ i. (x i, y i))

-- What is sure of a goal, by what was noted of it at a later evaluator.
pub sure-there : (old mid : Evaluator) (env : ParamEnv) (p : TraitPredicate) (noted : Bool) → StaysBesideSteps old mid → table_of mid ≡ table_of old → sure_of mid ≡ sure_of old → IsParamEnv old.context.trees env
    → IsArgs old.context.trees p.trait_ref.args
    → verdict_in (sure_of mid) (key_at (state mid) (trait_goal mid.context.trees env p)) ≡ unless_noted noted (verdict_in (table_of mid) (key_at (state mid) (trait_goal mid.context.trees env p)))
    → verdict_in (sure_of old) (key_at (state old) (trait_goal old.context.trees env p)) ≡ unless_noted noted (verdict_in (table_of old) (key_at (state old) (trait_goal old.context.trees env p)))
sure-there old mid env p noted stays t u e a h =
    let s = stays.state_same in
    let g = goal-later old mid env p stays.grows e a in
    subst (λ (q : GoalTable Via × GoalTable Via × State × TraitGoal). verdict_in q.0 (key_at q.2 q.3) ≡ unless_noted noted (verdict_in q.1 (key_at q.2 q.3))) (λ i. (u i, t i, s i, g i)) h

pub plain-there : (v w : Option (Verdict Via)) (noted : Bool) → noted ≡ false → v ≡ unless_noted noted w → IsPlainYes w → IsPlainYes v
plain-there v w noted isnt is plain = subst IsPlainYes (sym (is ∙ ap (λ b. unless_noted b w) isnt)) plain

pub noted-not : (v w : Option (Verdict Via)) (noted : Bool) → noted ≡ true → v ≡ unless_noted noted w → IsPlainYes v → ⊥
noted-not v w noted so is plain = subst IsPlainYes (is ∙ ap (λ b. unless_noted b w) so) plain

pub no-then : (b : Bool) → not b ≡ true → b ≡ false
no-then false e = refl
no-then true e = absurd cc

pub of-not : (b : Bool) → not b ≡ false → b ≡ true
of-not true e = refl
of-not false e = absurd cc

-- what is said of a number that is there
pub some-holds-not : (o : Option ℕ) (n : ℕ) (P : ℕ → Type 0) → o ≡ Some n → IfSome o P → (m : ℕ) × P m
some-holds-not o n P e h = (n, subst (λ (x : Option ℕ). IfSome x P) e h)

-- what follows where it isn't certain
pub uncertain-weaker : {P Q : Type 0} → (P → Q) → (o : Overlap) → WhereUncertain P o → WhereUncertain Q o
uncertain-weaker f (O.May x) p = λ e. f (p e)
uncertain-weaker f O.NoCommonTrait p = tt
uncertain-weaker f (O.Allowed w) p = tt
uncertain-weaker f O.DisjointHeaders p = tt
uncertain-weaker f (O.DisjointClause w) p = tt

and-true : (b : Bool) → b && true ≡ b
and-true true = refl
and-true false = refl

-- The same where nothing is certain since a region leaks.
pub unless-uncertain : (P : Type 0) (leaks : Bool) (o : Overlap) → WhereUncertain P o → WhereUncertain ((leaks ≡ true) ⊎ P) (unless_leaking leaks o)
unless-uncertain P false (O.May x) h = λ e. inr (h (sym (and-true x.is_certain) ∙ e))
unless-uncertain P true (O.May x) h = λ e. inl refl
unless-uncertain P leaks O.NoCommonTrait h = tt
unless-uncertain P leaks (O.Allowed w) h = tt
unless-uncertain P leaks O.DisjointHeaders h = tt
unless-uncertain P leaks (O.DisjointClause w) h = tt

-- By a context that comes after it is so by an earlier one.

unanswered-earlier : (c d : Context) (T : GoalTable Via) (S : State) (g : _) → Grows c d → IsUnanswered d T S g → IsUnanswered c T S g
unanswered-earlier c d T S g w (no_goal n) = no_goal n
unanswered-earlier c d T S g w (no_plain_yes n) = no_plain_yes n
unanswered-earlier c d T S g w (by_part later v m) = by_part later (grows-trans c d later w v) m

holds-not-earlier : (f : Env) (c d : Context) (T : GoalTable Via) (S : State) (t : Tree) → Grows c d → HoldsNot f d T S t → HoldsNot f c T S t
holds-not-earlier f c d T S t w (says_else n e) = says_else n e
holds-not-earlier f c d T S t w (unanswered g a h) = unanswered g a (unanswered-earlier c d T S g w h)

at-earlier : (f : Env) (c d : Context) (T : GoalTable Via) (S : State) (locals : Forest) (xs : List Clause) (n : ℕ) → Grows c d → AreClausesOf c d xs → HoldsNotAt f d T S locals xs n
    → HoldsNotAt f c T S locals xs n
at-earlier f c d T S locals xs n w same h = record {
  clause = h.clause;
  is = h.is;
  why =
      holds-not-earlier f c d T S (clause_at c S locals h.clause) w
      (subst (λ (t : Tree). HoldsNot f d T S (resolved_tree S (substituted_tree locals t))) (same n h.clause h.is) h.why);
}

one-earlier : (c d : Context) (T : GoalTable Via) (S : State) (locals : Forest) (xs : List Clause) → Grows c d → AreClausesOf c d xs → OneHoldsNot none d T S locals xs → OneHoldsNot none c T S locals xs
one-earlier c d T S locals xs w same h = (h.0, at-earlier none c d T S locals xs h.0 w same h.1)

-- A clause with all values put in.

pub clause-says-else : (old : Evaluator) (f : Env) (t u : Tree) → u ≡ resolved_tree (state old) t → is_outlives u.head ≡ false → trait_said u.head ≡ None
    → HoldsNot f old.context (sure_of old) (state old) (resolved_tree (state old) t)
clause-says-else old f t u is n said = subst (HoldsNot f old.context (sure_of old) (state old)) is (says_else n said)

pub clause-unanswered : (old mid : Evaluator) (env : ParamEnv) (t : Tree) (x : Clause) (p : TraitPredicate) → StaysSure old mid → IsParamEnv old.context.trees env → clause_tree mid.context.trees x ≡ resolved_tree (state old) t
    → trait_said (clause_tree mid.context.trees x).head ≡ Some (p.trait_ref.def_id, p.polarity) → arguments_of (clause_tree mid.context.trees x) ≡ args_forest mid.context.trees p.trait_ref.args
    → IsUnanswered mid.context (sure_of mid) (state mid) (trait_goal mid.context.trees env p) → HoldsNot (env_forest old.context.trees env) old.context (sure_of old) (state old) (resolved_tree (state old) t)
clause-unanswered old mid env t x p kept under is said fits h =
    let g = kept.sure in
    let s = kept.stays.state_same in
    unanswered (trait_goal mid.context.trees env p)
    (record {
      says = ap (λ (u : Tree). trait_said u.head) (sym is) ∙ said;
      arguments = sym fits ∙ ap arguments_of is;
      under = (env-kept old.context mid.context env kept.stays.grows under).1;
    })
    (unanswered-earlier old.context mid.context (sure_of old) (state old) (trait_goal mid.context.trees env p) kept.stays.grows
    (subst (λ (q : GoalTable Via × State). IsUnanswered mid.context q.0 q.1 (trait_goal mid.context.trees env p)) (λ i. (g i, s i)) h))

-- One of several, said of a later evaluator by the same table.
pub one-not : (old now : Evaluator) (env : ParamEnv) (locals : Args) (xs : List Clause) (n : ℕ) (x : Clause) → StaysSure old now → IsParamEnv old.context.trees env → IsArgs old.context.trees locals
    → ClauseListFits old.context.trees xs → slice_get xs n ≡ Some x
    → HoldsNot (env_forest now.context.trees env) now.context (sure_of now) (state now) (clause_at now.context (state now) (args_forest now.context.trees locals) x)
    → HoldsNotAt (env_forest old.context.trees env) old.context (sure_of old) (state old) (args_forest old.context.trees locals) xs n
one-not old now env locals xs n x kept under a fit is h =
    let g = kept.sure in
    let s = kept.stays.state_same in
    let e = instance-kept old.context now.context locals x kept.stays.grows a (got-fits old.context.trees xs n x fit is) in
    let f = (env-kept old.context now.context env kept.stays.grows under).1 in
    record {
      clause = x;
      is = is;
      why =
          holds-not-earlier (env_forest old.context.trees env) old.context now.context (sure_of old) (state old) (clause_at old.context (state old) (args_forest old.context.trees locals) x) kept.stays.grows
          (subst (λ (q : Env × GoalTable Via × State × Tree). HoldsNot q.0 now.context q.1 q.2 (resolved_tree q.2 q.3)) (λ i. (f i, g i, s i, e i)) h);
    }

-- Those of an open impl, by a later context, and of either of two.

pub impl-not-earlier : (c d : Context) (T : GoalTable Via) (S : State) (o : Opened) → Grows c d → IsOpen c.trees o → ImplHoldsNot d T S o → ImplHoldsNot c T S o
impl-not-earlier c d T S o w known h =
    one-earlier c d T S (args_forest c.trees o.locals) o.wheres.items w (clauses-kept c d o.wheres.items w known.2.fit)
    (subst (λ (f : Forest). OneHoldsNot none d T S f o.wheres.items) (args-kept c d o.locals w known.0).1 h)

pub either-earlier : (c d : Context) (T : GoalTable Via) (S : State) (p : Pair) → Grows c d → AreOpen c.trees p → EitherHoldsNot d T S p → EitherHoldsNot c T S p
either-earlier c d T S p w known (inl h) = inl (impl-not-earlier c d T S p.first w known.0 h)
either-earlier c d T S p w known (inr h) = inr (impl-not-earlier c d T S p.second w known.1 h)

alias-earlier : (c d : Context) (p : Pair) → Grows c d → AreOpen c.trees p → HeadersHaveAlias (args_forest d.trees p.first.header) (args_forest d.trees p.second.header)
    → HeadersHaveAlias (args_forest c.trees p.first.header) (args_forest c.trees p.second.header)
alias-earlier c d p w known h =
    let f = (args-kept c d p.first.header w known.0.1).1 in
    let g = (args-kept c d p.second.header w known.1.1).1 in
    subst (λ (q : Forest × Forest). HeadersHaveAlias q.0 q.1) (λ i. (f i, g i)) h

-- Where the headers are equal, said of an earlier evaluator with the same state, by that table.
pub where-equal-earlier : (c d : Context) (T : GoalTable Via) (S : State) (p : Pair) → Grows c d → AreOpen c.trees p → IsUncertainWhereEqual d T S p → IsUncertainWhereEqual c T S p
where-equal-earlier c d T S p w known (inl h) = inl (alias-earlier c d p w known h)
where-equal-earlier c d T S p w known (inr h) = inr (either-earlier c d T S p w known h)

-- In a probe that began where the headers were made equal, and that has ended.
pub pair-uncertain : (old began ran new : Evaluator) (p : Pair) (after : State) → Grows old.context began.context → AreOpen old.context.trees p → headers_equated old p ≡ Some after
    → state began ≡ aside after → fixed new ≡ fixed ran → (leaks : Bool) → (leaks ≡ true → Leaks (state old).newest_universe after)
    → (leaks ≡ true) ⊎ IsUncertainWhereEqual began.context (sure_of ran) (state began) p → PairIsUncertain old (sure_of new) p
pair-uncertain old began ran new p after w known equal s f leaks leak (inl e) = pair_leaks after equal (leak e)
pair-uncertain old began ran new p after w known equal s f leaks leak (inr h) =
    let u : sure_of ran ≡ sure_of new = sym (sure-fixed f) in
    at (where-equal-earlier old.context began.context (sure_of new) (aside after) p w known (subst (λ (q : State × GoalTable Via). IsUncertainWhereEqual began.context q.1 q.0 p) (λ i. (s i, u i)) h))
  where
    at : IsUncertainWhereEqual old.context (sure_of new) (aside after) p → PairIsUncertain old (sure_of new) p
    at (inl a) = pair_has_alias a
    at (inr e) = pair_has_clause after equal e

-- What was said of an open impl, said of the declared one.
impl-not-declared : (c mid : Context) (T : GoalTable Via) (S U : State) (i : Impl) (o : Opened) → Grows c mid → IsOpenedOf c S i mid o → ImplHoldsNot mid T U o
    → OneHoldsNot none c T U (locals_of S i) i.wheres
impl-not-declared c mid T S U i o w h not =
    let a = h.locals in
    let b = h.wheres in
    one-earlier c mid T U (locals_of S i) i.wheres w (clauses-kept c mid i.wheres w h.given.wheres)
    (subst (λ (q : Forest × List Clause). OneHoldsNot none mid T U q.0 q.1) (λ i. (a i, b i)) not)

-- The same of both, which were opened where the first evaluator stood.
pub uncertain-declared : (old mid : Evaluator) (a b : ImplId) (p : Pair) (U : GoalTable Via) → Grows old.context mid.context → fixed mid ≡ fixed old
    → AreOpened old.context (state old) a b mid.context (state mid) p → PairIsUncertain mid U p → OfDeclared old.context a b (ImplsAreUncertain old (state old) U)
uncertain-declared old mid a b p U w same o h = record { i = o.i; j = o.j; first_is = o.first_is; second_is = o.second_is; holds = at h }
  where
    one : (after : State) → EitherHoldsNot mid.context U (aside after) p
        → OneHoldsNot none old.context U (aside after) (locals_of (state old) o.i) o.i.wheres ⊎ OneHoldsNot none old.context U (aside after) (locals_of (opened (state old) o.i) o.j) o.j.wheres
    one after (inl n) = inl (impl-not-declared old.context mid.context U (state old) (aside after) o.i p.first w o.first n)
    one after (inr n) = inr (impl-not-declared old.context mid.context U (opened (state old) o.i) (aside after) o.j p.second w o.second n)

    at : PairIsUncertain mid U p → ImplsAreUncertain old (state old) U o.i o.j
    at (pair_has_alias alias) =
        let f = o.first.header in
        let g = o.second.header in
        impls_have_alias (subst (λ (q : Forest × Forest). HeadersHaveAlias q.0 q.1) (λ i. (f i, g i)) alias)
    at (pair_leaks after e l) =
        let s = o.left_is in
        let f = o.first.header in
        let g = o.second.header in
        impls_leak after (subst (λ (q : Fixed × State × Forest × Forest). accepted (judge_of q.0) q.1 none q.2 q.3 ≡ Some after) (λ i. (same i, s i, f i, g i)) e)
        (subst (λ (u : ℕ). Leaks u after) (ap (λ (W : State). W.newest_universe) s ∙ both-universe (state old) o.i o.j) l)
    at (pair_has_clause after e n) =
        let s = o.left_is in
        let f = o.first.header in
        let g = o.second.header in
        impls_have_clause after (subst (λ (q : Fixed × State × Forest × Forest). accepted (judge_of q.0) q.1 none q.2 q.3 ≡ Some after) (λ i. (same i, s i, f i, g i)) e) (one after n)

-- A probe that was open meanwhile, in which nothing was pending at first, changes nothing of it.
pub uncertain-probed : (old began ran new : Evaluator) (S : State) (a b : ImplId) → began.context ≡ old.context → fixed began ≡ fixed old → state began ≡ S → fixed new ≡ fixed ran
    → OfDeclared began.context a b (ImplsAreUncertain began (state began) (sure_of ran)) → OfDeclared old.context a b (ImplsAreUncertain old S (sure_of new))
uncertain-probed old began ran new S a b cx f s g h = record {
  i = h.i;
  j = h.j;
  first_is = ap (λ (c : Context). impl_at c a) (sym cx) ∙ h.first_is;
  second_is = ap (λ (c : Context). impl_at c b) (sym cx) ∙ h.second_is;
  holds = at h.holds;
}
  where
    u : sure_of ran ≡ sure_of new
    u = sym (sure-fixed g)

    at : ImplsAreUncertain began (state began) (sure_of ran) h.i h.j → ImplsAreUncertain old S (sure_of new) h.i h.j
    at (impls_have_alias alias) = impls_have_alias (subst (λ (q : Context × State). HeadersHaveAlias (first_header q.0 q.1 h.i h.j) (second_header q.0 q.1 h.i h.j)) (λ i. (cx i, s i)) alias)
    at (impls_leak after e l) =
        impls_leak after (subst (λ (q : Fixed × Context × State). MakesHeadersEqual (judge_of q.0) q.1 q.2 h.i h.j after) (λ i. (f i, cx i, s i)) e) (subst (λ (W : State). Leaks W.newest_universe after) s l)
    at (impls_have_clause after e n) =
        impls_have_clause after (subst (λ (q : Fixed × Context × State). MakesHeadersEqual (judge_of q.0) q.1 q.2 h.i h.j after) (λ i. (f i, cx i, s i)) e)
        (subst (λ (q : Context × State × GoalTable Via).
        OneHoldsNot none q.0 q.2 (aside after) (locals_of q.1 h.i) h.i.wheres ⊎ OneHoldsNot none q.0 q.2 (aside after) (locals_of (opened q.1 h.i) h.j) h.j.wheres) (λ i. (cx i, s i, u i)) n)
