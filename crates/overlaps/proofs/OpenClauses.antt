-- Where clauses that are open, said of earlier evaluators and of declared impls.
use Rattle.std.specs.Prelude.{All, IfErr, IfOk, IfSome, OnOk}
use Rattle.std.proofs.lemmas.List.Elements.{All-nil, All-push, All-same}
use Rattle.std.proofs.Common.{◌≡◌, ◌⊎◌, ◌+◌, ◌<◌, ◌≤◌, arith, ◌++◌, ◌∷◌, [], add-one, inl, inr, true, false, Bool, ℕ, zero, suc, List, Option, None, Some, Result, Ok, Err, length, slice_get, refl, sym, ap, subst, ◌∙◌}
use Rattle.ir_trees.specs.declared.decl.contents.ImplId.{ImplId}
use Rattle.ir_trees.specs.declared.ir.kinds.Args.{Args}
use Rattle.ir_trees.specs.declared.ir.kinds.Clause.{Clause}
use Rattle.ir_trees.specs.declared.ir.kinds.ParamEnv.{ParamEnv}
use Rattle.ir_trees.specs.declared.ir.kinds.TraitId.{TraitId}
use Rattle.ir_trees.specs.declared.ir.kinds.TraitPredicate.{TraitPredicate}
use Rattle.ir_trees.specs.declared.ir.kinds.TraitRef.{TraitRef}
use Rattle.ir_trees.specs.declared.ir.stop.Stop.{Stop}
use Rattle.ir_trees.specs.Declarations.Context.{Context, Grows}
use Rattle.ir_trees.specs.Declarations.Contents.{Impl}
use Rattle.ir_trees.specs.Declarations.Declaring.{impl_at}
use Rattle.ir_trees.specs.Declarations.References.{reference_of}
use Rattle.ir_trees.specs.Instantiation.Folding.{substituted_tree}
use Rattle.ir_trees.specs.Syntax.Trees.{Forest, none, Tree}
use Rattle.ir_trees.specs.Syntax.Words.{ClauseListFits, IsArgs, IsClause, IsParamEnv, args_forest, clause_tree, env_forest}
use Rattle.ir_trees.proofs.Growth.Kept.{args-kept, grows-trans}
use Rattle.ir_folds.proofs.Instantiation.Joining.{clause-kept}
use Rattle.candidate_eval.specs.declared.coherence.Conflict.{Conflict}
use Rattle.candidate_eval.specs.declared.coherence.OrphanStop.TheVariants as O
use Rattle.candidate_eval.specs.Derivations.ImplRules.{TraitGoal}
use Rattle.candidate_eval.specs.Interface.Evaluators.{accepted}
use Rattle.candidate_eval.specs.Interface.Knowing.{StopsKnowing, is_evaluator_stop}
use Rattle.candidate_eval.specs.Interface.Shown as shown
use Rattle.candidate_eval.specs.Judges.States.{Env, State, resolved_tree}
use Rattle.candidate_eval.specs.Knowability.Answers.{KnownResult, knowledge_of, known_by}
use Rattle.candidate_eval.specs.Knowability.Normalizer.{IsTold}
use Rattle.candidate_eval.specs.Knowability.Orphan.{Checked, Knowability}
use Rattle.candidate_eval.specs.Outcomes.Responses.{Response}
use Rattle.candidate_eval.proofs.Dynamic.Objects.{env-kept}
use Rattle.candidate_assembly.proofs.Lists.Unknowing.{knowing-stops}
use Rattle.candidate_assembly.proofs.Rules.ImplSteps.{owned-still}
use Rattle.candidate_rounds.specs.Evaluators.Interface.{Fixed, fixed, judge_of}
use Rattle.candidate_rounds.specs.Evaluators.Known.{Evaluator, listing, state, table_of}
use Rattle.candidate_rounds.specs.Table.Goals.{Via}
use Rattle.candidate_rounds.specs.Table.Normalizing.{rounds_shown}
use Rattle.candidate_rounds.specs.Table.Running.{judged_by, with_table}
use Rattle.rounds_judge.specs.Equations.Opening.{are_open}
use Rattle.rounds_judge.specs.Table.GoalTable.{verdict_in}
use Rattle.rounds_judge.specs.Table.Keys.{key_at}
use Rattle.rounds_judge.specs.Table.Verdicts.{Maybe, Refused, Verdict, Yes}
use Rattle.overlaps.specs.Answered.{Holds, HoldsWith}
use Rattle.overlaps.specs.Apart.{AreOfOtherTraits, OfDeclared, aside, opened}
use Rattle.overlaps.specs.Asked.{AsksUnder}
use Rattle.overlaps.specs.Instance.{first_header, second_header}
use Rattle.overlaps.specs.Opening.{AreOpened, IsOpenedOf}
use Rattle.overlaps.specs.Reasons.{AddsIfOpen, HasOpenClausesAt, Here, IsAnsweredAt, IsAskedAt, IsCause, IsCauseByVerdict, IsCauseOfGoal, IsCauseOfMaybe, IsCauseOfYes, IsOpenAt, ListsAll, ListsBoth, ListsOfImpls, ListsOfPair, ListsOpen, ListsWhereEqual, OpenImpl, by_verdict, conflict_known, declared_impl, gives_values, here_after, here_at, impls_apart, impls_equal, impls_undecided, lists_none, lists_one, of_declared, of_goal, of_other_traits, open_impl, pair_apart, pair_equal, pair_undecided, passes_over, rests_on_part, says_else, stands_not, KeepsHeadersApart}
use Rattle.overlaps.specs.Refused.{AreOpen, IsOpen, MakesHeadersEqual, StaysBesideSteps, clause_at, headers_equated, locals_of}
use Rattle.overlaps.specs.Uncertain.{HeadersHaveAlias}
use Rattle.overlaps.specs.declared.opening.Opened.{Opened}
use Rattle.overlaps.specs.declared.opening.Pair.{Pair}
use Rattle.overlaps.specs.declared.reasons.Cause.{Cause}
use Rattle.overlaps.specs.declared.reasons.OpenClause.{OpenClause}
use Rattle.overlaps.proofs.AskedClauses.{AreClausesOf, clauses-kept}
use Rattle.overlaps.proofs.PureFolder.{StaysAsAsked, asked-refl}
use Rattle.overlaps.proofs.Refusing.{got-fits, instance-kept}
use Rattle.overlaps.proofs.Staying.{stays-trans}

-- what is fixed stays where all stays but nodes
pub fixed-kept : {r s : Evaluator} → StaysAsAsked r s → judged_by s ≡ judged_by r
fixed-kept {r} {s} k = ap (λ (f : Fixed). with_table f (table_of s)) k.stays.fixed_same ∙ ap (with_table (fixed r)) k.table

pub judged-same : (r s : Evaluator) → fixed s ≡ fixed r → judged_by s ≡ judged_by r
judged-same r s e = ap (λ (f : Fixed). with_table f f.table) e

-- Why a Maybe is one, said of an evaluator before it.
pub maybe-earlier : (old mid : Evaluator) (env : ParamEnv) (r : TraitRef) (w : Cause) → StaysAsAsked old mid → IsParamEnv old.context.trees env → IsArgs old.context.trees r.args
    → IsCauseOfMaybe (judge_of (fixed mid)) (state mid) (env_forest mid.context.trees env) (reference_of mid.context.trees r) w
    → IsCauseOfMaybe (judge_of (fixed old)) (state old) (env_forest old.context.trees env) (reference_of old.context.trees r) w
maybe-earlier old mid env r w k e a h =
    let f = fixed-kept k in
    let s = k.stays.state_same in
    let n = (env-kept old.context mid.context env k.stays.grows e).1 in
    let g = (args-kept old.context mid.context r.args k.stays.grows a).1 in
    subst (λ (q : Fixed × State × Env × Forest). IsCauseOfMaybe (judge_of q.0) q.1 q.2 (record { trait = r.def_id.0; arguments = q.3 }) w) (λ i. (f i, s i, n i, g i)) h

-- What is so by a context that comes after is so by an earlier one.

pub yes-earlier : (c d : Context) (a : Response) (t : TraitId) (w : Cause) → Grows c d → IsCauseOfYes d a t w → IsCauseOfYes c a t w
yes-earlier c d a t w g (gives_values e) = gives_values e
yes-earlier c d a t w g (rests_on_part later v e m) = rests_on_part later (grows-trans c d later g v) e m

verdict-earlier : (h : Here) (d : Context) (g : TraitGoal) (v : Option (Verdict Via)) (w : Cause) → Grows h.context d → IsCauseByVerdict (record h { context = d }) g v w → IsCauseByVerdict h g v w
verdict-earlier h d g None w l k = k
verdict-earlier h d g (Some Refused) w l k = k
verdict-earlier h d g (Some (Maybe a v)) w l k = k
verdict-earlier h d g (Some (Yes a v)) w l k = yes-earlier h.context d a (record { 0 = g.reference.trait }) w l k

goal-earlier : (h : Here) (d : Context) (g : TraitGoal) (w : Cause) → Grows h.context d → IsCauseOfGoal (record h { context = d }) g w → IsCauseOfGoal h g w
goal-earlier h d g _ l (stands_not n) = stands_not n
goal-earlier h d g w l (by_verdict k) = by_verdict (verdict-earlier h d g _ w l k)

cause-earlier : (h : Here) (d : Context) (t : Tree) (w : Cause) → Grows h.context d → IsCause (record h { context = d }) t w → IsCause h t w
cause-earlier h d t _ l (says_else n e) = says_else n e
cause-earlier h d t w l (of_goal g a k) = of_goal g a (goal-earlier h d g w l k)

-- where an evaluator stands, with the context of one before it
here-same : {old mid : Evaluator} (env : ParamEnv) → StaysAsAsked old mid → IsParamEnv old.context.trees env
    → here_at mid env ≡ record (here_at old env) { context = mid.context }
here-same {old} {mid} env k e =
    let f = fixed-kept k in
    let s = k.stays.state_same in
    let n = (env-kept old.context mid.context env k.stays.grows e).1 in
    ap (λ (q : Fixed × State × Env). let h : Here = record { context = mid.context; fixed = q.0; state = q.1; env = q.2 } in h) (λ i. (f i, s i, n i))

pub cause-before : (old mid : Evaluator) (env : ParamEnv) (t : Tree) (w : Cause) → StaysAsAsked old mid → IsParamEnv old.context.trees env → IsCause (here_at mid env) t w → IsCause (here_at old env) t w
cause-before old mid env t w k e h =
    cause-earlier (here_at old env) mid.context t w k.stays.grows (subst (λ (q : Here). IsCause q t w) (here-same env k e) h)

pub holds-before : (old mid : Evaluator) (env : ParamEnv) (t : Tree) → StaysAsAsked old mid → IsParamEnv old.context.trees env → Holds (env_forest mid.context.trees env) (table_of mid) (state mid) t
    → Holds (env_forest old.context.trees env) (table_of old) (state old) t
holds-before old mid env t k e h = subst (λ (q : Here). Holds q.env q.fixed.table q.state t) (here-same env k e) h

-- That is the cause, by what the table has; and a Yes that isn't certain is none.

pub cause-by : (h : Here) (g : TraitGoal) (v : Option (Verdict Via)) (w : Cause) → verdict_in h.fixed.table (key_at h.state g) ≡ v → IsCauseByVerdict h g v w → IsCauseOfGoal h g w
cause-by h g v w e k = by_verdict (subst (λ (q : Option (Verdict Via)). IsCauseByVerdict h g q w) (sym e) k)

pub some-yes : (h : Here) (d : Context) (g : TraitGoal) (a : Response) (v : Option Via) (o : Option Cause) → Grows h.context d → verdict_in h.fixed.table (key_at h.state g) ≡ Some (Yes a v)
    → IfSome o (IsCauseOfYes d a (record { 0 = g.reference.trait })) → IfSome o (IsCauseOfGoal h g)
some-yes h d g a v None l e k = tt
some-yes h d g a v (Some w) l e k = cause-by h g (Some (Yes a v)) w e (yes-earlier h.context d a (record { 0 = g.reference.trait }) w l k)

-- what is so of a goal is so of the clause that asks it
pub some-cause : (o : Option Cause) (h : Here) (t : Tree) (g : TraitGoal) → AsksUnder h.env t g → IfSome o (IsCauseOfGoal h g) → IfSome o (IsCause h t)
some-cause None h t g a k = tt
some-cause (Some w) h t g a k = of_goal g a k

-- Clauses one after the other

answered-earlier : (h : Here) (d : Context) (o : OpenImpl) (n : ℕ) → AreClausesOf h.context d o.wheres → IsAnsweredAt (record h { context = d }) o n → IsAnsweredAt h o n
answered-earlier h d o n same k = record {
  clause = k.clause;
  is = k.is;
  holds = subst (λ (t : Tree). Holds h.env h.fixed.table h.state (resolved_tree h.state (substituted_tree o.locals t))) (same n k.clause k.is) k.holds;
}

open-earlier : (h : Here) (d : Context) (ts : List Tree) (o : OpenImpl) (n : ℕ) (x : OpenClause) → Grows h.context d → AreClausesOf h.context d o.wheres → IsOpenAt (record h { context = d }) ts o n x
    → IsOpenAt h ts o n x
open-earlier h d ts o n x l same k =
    let e = ap (λ (t : Tree). resolved_tree h.state (substituted_tree o.locals t)) (same n k.clause k.is) in
    record {
      clause = k.clause;
      is = k.is;
      place = k.place;
      sort = k.sort;
      says = k.says ∙ e;
      cause = subst (λ (t : Tree). IsCause h t x.cause) e (cause-earlier h d (clause_at d h.state o.locals k.clause) x.cause l k.cause);
    }

lists-earlier : (h : Here) (d : Context) (ts : List Tree) (o : OpenImpl) (before : List OpenClause) (n : ℕ) (l : List OpenClause) → Grows h.context d → AreClausesOf h.context d o.wheres
    → ListsOpen (record h { context = d }) ts o before n l → ListsOpen h ts o before n l
lists-earlier h d ts o before zero _ g same lists_none = lists_none
lists-earlier h d ts o before (suc n) l g same (passes_over k a) = passes_over (lists-earlier h d ts o before n l g same k) (answered-earlier h d o n same a)
lists-earlier h d ts o before (suc n) _ g same (lists_one {l = m} x k a) = lists_one x (lists-earlier h d ts o before n m g same k) (open-earlier h d ts o n x g same a)

-- what was listed is of each later context
lists-later : (h : Here) (c d : Context) (o : OpenImpl) (before : List OpenClause) (n : ℕ) (l : List OpenClause) → Grows c d → ListsOpen h c.trees o before n l → ListsOpen h d.trees o before n l
lists-later h c d o before zero _ g lists_none = lists_none
lists-later h c d o before (suc n) l g (passes_over k a) = passes_over (lists-later h c d o before n l g k) a
lists-later h c d o before (suc n) _ g (lists_one {l = m} x k a) =
    let kept = clause-kept c d x.clause g a.sort in
    lists_one x (lists-later h c d o before n m g k) (record { clause = a.clause; is = a.is; place = a.place; sort = kept.0; says = kept.1 ∙ a.says; cause = a.cause })

-- The clause of that number, as a later evaluator has it, behind those before it.

one-listed : (h : Here) (ts : List Tree) (o : OpenImpl) (before : List OpenClause) (n : ℕ) (l m : List OpenClause) (a : Option OpenClause) → ListsOpen h ts o before n l → IsAskedAt h ts o n a → AddsIfOpen a l m
    → ListsOpen h ts o before (n + 1) m
one-listed h ts o before n l m None k asked e = subst (λ (q : ℕ × List OpenClause). ListsOpen h ts o before q.0 q.1) (λ i. (sym (add-one n) i, sym e i)) (passes_over k asked)
one-listed h ts o before n l m (Some x) k asked e = subst (λ (q : ℕ × List OpenClause). ListsOpen h ts o before q.0 q.1) (λ i. (sym (add-one n) i, sym e i)) (lists_one x k asked)

asked-earlier : (h : Here) (d : Context) (ts : List Tree) (o : OpenImpl) (n : ℕ) (a : Option OpenClause) → Grows h.context d → AreClausesOf h.context d o.wheres → IsAskedAt (record h { context = d }) ts o n a
    → IsAskedAt h ts o n a
asked-earlier h d ts o n None l same k = answered-earlier h d o n same k
asked-earlier h d ts o n (Some x) l same k = open-earlier h d ts o n x l same k

-- the same impl, as an evaluator before has it
same-impl : (c d : Context) (o : Opened) → Grows c d → IsOpen c.trees o → open_impl d.trees o ≡ open_impl c.trees o
same-impl c d o g known = ap (λ (f : Forest). let i : OpenImpl = record { number = o.of; locals = f; wheres = o.wheres.items } in i) (args-kept c d o.locals g known.0).1

-- it stays open
pub impl-later : (c d : Context) (o : Opened) → Grows c d → IsOpen c.trees o → IsOpen d.trees o
impl-later c d o g h = ((args-kept c d o.locals g h.0).0, (args-kept c d o.header g h.1).0, owned-still c d o.locals o.wheres.items g h.0 h.2)

-- So many clauses of an open impl were looked at; all stays but nodes.
pub record ListedSoFar (old now : Evaluator) (env : ParamEnv) (o : Opened) (before : List OpenClause) (n : ℕ) (l : List OpenClause) : Type 0 where
  pub asked : StaysAsAsked old now
  pub lists : ListsOpen (here_at old env) now.context.trees (open_impl old.context.trees o) before n l

pub none-listed : (r : Evaluator) (env : ParamEnv) (o : Opened) (l : List OpenClause) → ListedSoFar r r env o l 0 l
none-listed r env o l = record { asked = asked-refl r; lists = lists_none }

got-below : (xs : List Clause) (k : ℕ) (x : Clause) → slice_get xs k ≡ Some x → k < length xs
got-below [] k x is = absurd cc
got-below (y ∷ ys) zero x is = omega (arith)
got-below (y ∷ ys) (suc k) x is = let m = got-below ys k x is in omega (arith, m)

-- there are as many clauses as were looked at
lists-below : (h : Here) (ts : List Tree) (o : OpenImpl) (before : List OpenClause) (n : ℕ) (l : List OpenClause) → ListsOpen h ts o before n l → n ≤ length o.wheres
lists-below h ts o before zero _ lists_none = omega (arith)
lists-below h ts o before (suc n) l (passes_over k a) = let m = got-below o.wheres n a.clause a.is in omega (arith, m)
lists-below h ts o before (suc n) _ (lists_one x k a) = let m = got-below o.wheres n a.clause a.is in omega (arith, m)

pub all-listed : (old now : Evaluator) (env : ParamEnv) (o : Opened) (before : List OpenClause) (n : ℕ) (l : List OpenClause) → ListedSoFar old now env o before n l → length o.wheres.items ≤ n
    → ListsAll (here_at old env) now.context.trees (open_impl old.context.trees o) before l
all-listed old now env o before n l so end =
    let below = lists-below (here_at old env) now.context.trees (open_impl old.context.trees o) before n l so.lists in
    let all : n ≡ length o.wheres.items = omega (arith, below, end) in
    subst (λ (k : ℕ). ListsOpen (here_at old env) now.context.trees (open_impl old.context.trees o) before k l) all so.lists

pub one-more : (old now next : Evaluator) (env : ParamEnv) (o : Opened) (before : List OpenClause) (n : ℕ) (l m : List OpenClause) (a : Option OpenClause) → ListedSoFar old now env o before n l
    → StaysAsAsked old next → Grows now.context next.context → IsParamEnv old.context.trees env → IsOpen old.context.trees o
    → IsAskedAt (here_at now env) next.context.trees (open_impl now.context.trees o) n a → AddsIfOpen a l m → ListedSoFar old next env o before (n + 1) m
one-more old now next env o before n l m a so k g e known asked added =
    let i = open_impl old.context.trees o in
    let same = clauses-kept old.context now.context o.wheres.items so.asked.stays.grows known.2.fit in
    let here = here-same env so.asked e in
    let impl = same-impl old.context now.context o so.asked.stays.grows known in
    let there : IsAskedAt (record (here_at old env) { context = now.context }) next.context.trees i n a
    = subst (λ (q : Here × OpenImpl). IsAskedAt q.0 next.context.trees q.1 n a) (λ j. (here j, impl j)) asked in
    record {
      asked = k;
      lists = one-listed (here_at old env) next.context.trees i before n l m a (lists-later (here_at old env) now.context next.context i before n l g so.lists)
          (asked-earlier (here_at old env) now.context next.context.trees i n a so.asked.stays.grows same there) added;
    }

-- Where the headers are equal: the first impl's clauses were looked at by a table that a run had left, and then the second one's.

-- by what a later evaluator has, without an environment
pub lists-before : (old mid new : Evaluator) (env : ParamEnv) (o : Opened) (before l : List OpenClause) (ts : List Tree) → Grows old.context mid.context → state mid ≡ state old → judged_by mid ≡ judged_by new
    → env_forest mid.context.trees env ≡ none → IsOpen old.context.trees o → ListsAll (here_at mid env) ts (open_impl mid.context.trees o) before l
    → ListsAll (here_after old new (state old)) ts (open_impl old.context.trees o) before l
lists-before old mid new env o before l ts g s f n known h =
    let same = clauses-kept old.context mid.context o.wheres.items g known.2.fit in
    let impl = same-impl old.context mid.context o g known in
    lists-earlier (here_after old new (state old)) mid.context ts (open_impl old.context.trees o) before (length o.wheres.items) l g same
    (subst (λ (q : Fixed × State × Env × OpenImpl). ListsOpen (record { context = mid.context; fixed = q.0; state = q.1; env = q.2 }) ts q.3 before (length o.wheres.items) l)
    (λ i. (f i, s i, n i, impl i)) h)

-- and by the trees of the last one
pub lists-there : (old new : Evaluator) (o : Opened) (c d : Context) (before l : List OpenClause) → Grows c d → ListsAll (here_after old new (state old)) c.trees (open_impl old.context.trees o) before l
    → ListsAll (here_after old new (state old)) d.trees (open_impl old.context.trees o) before l
lists-there old new o c d before l g h = lists-later (here_after old new (state old)) c d (open_impl old.context.trees o) before (length o.wheres.items) l g h

-- In a probe that began where the headers were made equal, and that has ended.
pub pair-lists : (old began ran new : Evaluator) (p : Pair) (after : State) (l : List OpenClause) → Grows old.context began.context → AreOpen old.context.trees p → headers_equated old p ≡ Some after
    → state began ≡ aside after → fixed new ≡ fixed ran → new.context ≡ ran.context → ListsWhereEqual began ran (state began) p l → ListsOfPair old new p l
pair-lists old began ran new p after l g known equal s f c h =
    let fs = judged-same new ran (sym f) in
    let cs = sym c in
    let there : ListsBoth (record { context = began.context; fixed = judged_by new; state = aside after; env = none }) new.context.trees (open_impl began.context.trees p.first) (open_impl began.context.trees p.second) l
    = subst (λ (q : Fixed × State × Context). ListsBoth (record { context = began.context; fixed = q.0; state = q.1; env = none }) q.2.trees (open_impl began.context.trees p.first) (open_impl began.context.trees p.second) l)
    (λ i. (fs i, s i, cs i)) h in
    pair_equal after equal (record { between = there.between; of_first = side p.first known.0 [] there.between there.of_first; of_second = side p.second known.1 there.between l there.of_second })
  where
    side : (o : Opened) → IsOpen old.context.trees o → (xs ys : List OpenClause)
        → ListsAll (record { context = began.context; fixed = judged_by new; state = aside after; env = none }) new.context.trees (open_impl began.context.trees o) xs ys
        → ListsAll (here_after old new (aside after)) new.context.trees (open_impl old.context.trees o) xs ys
    side o is xs ys k =
        let same = clauses-kept old.context began.context o.wheres.items g is.2.fit in
        let impl = same-impl old.context began.context o g is in
        lists-earlier (here_after old new (aside after)) began.context new.context.trees (open_impl old.context.trees o) xs (length o.wheres.items) ys g same
        (subst (λ (q : OpenImpl). ListsOpen (record { context = began.context; fixed = judged_by new; state = aside after; env = none }) new.context.trees q xs (length o.wheres.items) ys) impl k)

-- What was said of open impls, said of the declared ones, which were opened where the first evaluator stood.

declared-lists : (c mid : Context) (h : Here) (S : State) (n : ImplId) (i : Impl) (o : Opened) (ts : List Tree) (xs ys : List OpenClause) → h.context ≡ c → Grows c mid → o.of ≡ n → IsOpenedOf c S i mid o
    → ListsAll (record h { context = mid }) ts (open_impl mid.trees o) xs ys → ListsAll h ts (declared_impl n (locals_of S i) i) xs ys
declared-lists c mid h S n i o ts xs ys here g number is k =
    let a = is.locals in
    let b = is.wheres in
    let d = declared_impl n (locals_of S i) i in
    let from = subst (λ (q : Context). Grows q mid) (sym here) g in
    let same : AreClausesOf h.context mid i.wheres = subst (λ (q : Context). AreClausesOf q mid i.wheres) (sym here) (clauses-kept c mid i.wheres g is.given.wheres) in
    lists-earlier h mid ts d xs (length i.wheres) ys from same
    (subst (λ (q : ImplId × Forest × List Clause). ListsOpen (record h { context = mid }) ts (record { number = q.0; locals = q.1; wheres = q.2 }) xs (length q.2) ys) (λ j. (number j, a j, b j)) k)

pub lists-declared : (old mid new : Evaluator) (a b : ImplId) (p : Pair) (l : List OpenClause) → Grows old.context mid.context → fixed mid ≡ fixed old
    → AreOpened old.context (state old) a b mid.context (state mid) p → ListsOfPair mid new p l → HasOpenClausesAt old new (state old) a b l
lists-declared old mid new a b p l g same o h = of_declared (record { i = o.i; j = o.j; first_is = o.first_is; second_is = o.second_is; holds = at h })
  where
    equated : (r : Option State) → headers_equated mid p ≡ r
        → accepted (judge_of (fixed old)) (opened (opened (state old) o.i) o.j) none (first_header old.context (state old) o.i o.j) (second_header old.context (state old) o.i o.j) ≡ r
    equated r e =
        let s = o.left_is in
        let f = o.first.header in
        let k = o.second.header in
        subst (λ (q : Fixed × State × Forest × Forest). accepted (judge_of q.0) q.1 none q.2 q.3 ≡ r) (λ i. (same i, s i, f i, k i)) e

    at : ListsOfPair mid new p l → ListsOfImpls old new (state old) a b l o.i o.j
    at (pair_apart e none-there) = impls_apart (equated None e) none-there
    at (pair_undecided rigid alias none-there) =
        let s = o.left_is in
        let f = o.first.header in
        let k = o.second.header in
        impls_undecided (subst (λ (q : Fixed × State). are_open q.0.listing q.1 ≡ false) (λ i. (same i, s i)) rigid)
        (subst (λ (q : Forest × Forest). HeadersHaveAlias q.0 q.1) (λ i. (f i, k i)) alias) none-there
    at (pair_equal after e both) =
        impls_equal after (equated (Some after) e)
        (record {
          between = both.between;
          of_first = declared-lists old.context mid.context (here_after old new (aside after)) (state old) a o.i p.first new.context.trees [] both.between refl g o.first_number o.first both.of_first;
          of_second = declared-lists old.context mid.context (here_after old new (aside after)) (opened (state old) o.i) b o.j p.second new.context.trees both.between l refl g o.second_number o.second both.of_second;
        })

-- A probe that was open meanwhile, in which nothing was pending at first, changes nothing of it.
pub lists-probed : (old began ran new : Evaluator) (S : State) (a b : ImplId) (l : List OpenClause) → began.context ≡ old.context → fixed began ≡ fixed old → state began ≡ S → fixed new ≡ fixed ran
    → new.context ≡ ran.context → HasOpenClausesAt began ran (state began) a b l → HasOpenClausesAt old new S a b l
lists-probed old began ran new S a b l cx f s g c (of_other_traits other none-there) = of_other_traits (subst (λ (q : Context). AreOfOtherTraits q a b) cx other) none-there
lists-probed old began ran new S a b l cx f s g c (of_declared h) = of_declared (record {
  i = h.i;
  j = h.j;
  first_is = ap (λ (q : Context). impl_at q a) (sym cx) ∙ h.first_is;
  second_is = ap (λ (q : Context). impl_at q b) (sym cx) ∙ h.second_is;
  holds = at h.holds;
})
  where
    at : ListsOfImpls began ran (state began) a b l h.i h.j → ListsOfImpls old new S a b l h.i h.j
    at (impls_apart e none-there) =
        impls_apart (subst (λ (q : Fixed × Context × State). KeepsHeadersApart (judge_of q.0) q.1 q.2 h.i h.j) (λ i. (f i, cx i, s i)) e) none-there
    at (impls_undecided rigid alias none-there) =
        impls_undecided (subst (λ (q : Fixed × State). are_open q.0.listing (opened (opened q.1 h.i) h.j) ≡ false) (λ i. (f i, s i)) rigid)
        (subst (λ (q : Context × State). HeadersHaveAlias (first_header q.0 q.1 h.i h.j) (second_header q.0 q.1 h.i h.j)) (λ i. (cx i, s i)) alias) none-there
    at (impls_equal after e both) =
        let gs = judged-same new ran (sym g) in
        let cs = sym c in
        impls_equal after (subst (λ (q : Fixed × Context × State). MakesHeadersEqual (judge_of q.0) q.1 q.2 h.i h.j after) (λ i. (f i, cx i, s i)) e)
        (subst (λ (q : Fixed × Context × Context × State).
        ListsBoth (record { context = q.2; fixed = q.0; state = aside after; env = none }) q.1.trees (declared_impl a (locals_of q.3 h.i) h.i) (declared_impl b (locals_of (opened q.3 h.i) h.j) h.j) l)
        (λ i. (gs i, cs i, cx i, s i)) both)

-- Why the check of a reference stopped, where that is a stop of the evaluator's.
pub knowing-own : {first last : Evaluator} {s : Stop} → is_evaluator_stop s ≡ true → shown.StopsKnowing rounds_shown first last s → shown.StopsSomehow rounds_shown first last s
knowing-own {first} {last} {s} own h = knowing-stops rounds_shown.fixed rounds_shown.context rounds_shown.state rounds_shown.stops first last s h own

-- What is known of a reference, where the check came to an end that isn't the evaluator's stop.

pub conflict-asked : (r : Result (Option Conflict) Stop) (k : KnownResult (Unit {0})) (S : State) (x : Checked State (Knowability (Unit {0}))) (y : Option Conflict)
    → IfOk r (λ o. o ≡ conflict_known (knowledge_of k)) → OnOk r (IsTold is_evaluator_stop k) → (IsTold is_evaluator_stop k → x ≡ known_by k S) → y ≡ conflict_known x.answer → IfOk r (λ o. o ≡ y)
conflict-asked (Ok o) k S x y is told answer e = is ∙ (ap (λ (q : Checked State (Knowability (Unit {0}))). conflict_known q.answer) (sym (answer told)) ∙ sym e)
conflict-asked (Err s) k S x y is told answer e = tt

pub conflict-stop : (r : Result (Option Conflict) Stop) (k : KnownResult (Unit {0})) (P : Stop → Type 0) → IfErr r (λ s. k ≡ Err (O.Stop s)) → IfErr r (λ s. is_evaluator_stop s ≡ true)
    → ((s : Stop) → k ≡ Err (O.Stop s) → is_evaluator_stop s ≡ true → P s) → IfErr r P
conflict-stop (Ok o) k P stopped own f = tt
conflict-stop (Err s) k P stopped own f = f s stopped own

-- What is listed is of the context.

lists-fit : (h : Here) (ts : List Tree) (o : OpenImpl) (before : List OpenClause) (n : ℕ) (l : List OpenClause) → All (λ (x : OpenClause). IsClause ts x.clause) before → ListsOpen h ts o before n l
    → All (λ (x : OpenClause). IsClause ts x.clause) l
lists-fit h ts o before zero _ all lists_none = all
lists-fit h ts o before (suc n) l all (passes_over k a) = lists-fit h ts o before n l all k
lists-fit h ts o before (suc n) _ all (lists_one {l = m} x k a) = All-push (λ (y : OpenClause). IsClause ts y.clause) m x (lists-fit h ts o before n m all k) a.sort

none-fit : (ts : List Tree) (l : List OpenClause) → l ≡ [] → All (λ (x : OpenClause). IsClause ts x.clause) l
none-fit ts l e = All-same (λ (x : OpenClause). IsClause ts x.clause) l [] e (All-nil (λ (x : OpenClause). IsClause ts x.clause))

pub clauses-fit : (old new : Evaluator) (S : State) (a b : ImplId) (l : List OpenClause) → HasOpenClausesAt old new S a b l → All (λ (x : OpenClause). IsClause new.context.trees x.clause) l
clauses-fit old new S a b l (of_other_traits other e) = none-fit new.context.trees l e
clauses-fit old new S a b l (of_declared h) = at h.holds
  where
    at : ListsOfImpls old new S a b l h.i h.j → All (λ (x : OpenClause). IsClause new.context.trees x.clause) l
    at (impls_apart d e) = none-fit new.context.trees l e
    at (impls_undecided d f e) = none-fit new.context.trees l e
    at (impls_equal after d both) =
        lists-fit (here_after old new (aside after)) new.context.trees (declared_impl b (locals_of (opened S h.i) h.j) h.j) both.between (length h.j.wheres) l
        (lists-fit (here_after old new (aside after)) new.context.trees (declared_impl a (locals_of S h.i) h.i) [] (length h.i.wheres) both.between (All-nil (λ (x : OpenClause). IsClause new.context.trees x.clause)) both.of_first)
        both.of_second
