-- Environments of where clauses, and what is said of impls that specialise others, by earlier evaluators and by the declared impls.
use Rattle.std.proofs.Common.{◌≡◌, ◌≤◌, ◌+◌, ◌++◌, ℕ, List, [], ◌∷◌, Some, drop, length, map, refl, sym, ap, subst, ◌∙◌}
use Rattle.std.proofs.lemmas.List.{append-nil, append_assoc, drop_all}
use Rattle.ir_trees.specs.declared.decl.contents.ImplId.{ImplId}
use Rattle.ir_trees.specs.declared.ir.kinds.Clause.{Clause}
use Rattle.ir_trees.specs.declared.ir.kinds.ParamEnv.{ParamEnv}
use Rattle.ir_trees.specs.Declarations.Context.{Context, Grows}
use Rattle.ir_trees.specs.Declarations.Contents.{Impl}
use Rattle.ir_trees.specs.Declarations.Declaring.{impl_at}
use Rattle.ir_trees.specs.Hierarchy.Elaboration.{IsElaboration}
use Rattle.ir_trees.specs.Instantiation.Folding.{substituted_tree}
use Rattle.ir_trees.specs.Syntax.Nodes.{kind_at}
use Rattle.ir_trees.specs.Syntax.Trees.{ClauseKind, Forest, Tree}
use Rattle.ir_trees.specs.Syntax.Words.{ClauseListFits, IsClause, IsParamEnv, args_forest, clause_list_forest, clause_tree, env_forest}
use Rattle.ir_trees.proofs.Growth.Kept.{args-kept, grows-refl, grows-trans}
use Rattle.ir_folds.proofs.Instantiation.Joining.{clause-kept}
use Rattle.ir_trees.proofs.Syntax.Rows.{row-single}
use Rattle.candidate_eval.specs.Dynamic.Required.{each_of}
use Rattle.candidate_eval.specs.Interface.Evaluators.{accepted, rigid}
use Rattle.candidate_eval.specs.Judges.States.{Env, State}
use Rattle.candidate_eval.proofs.Dynamic.Objects.{env-kept}
use Rattle.candidate_eval.proofs.Dynamic.Required.{pushed_fit, pushed_trees}
use Rattle.candidate_assembly.specs.Answers.KnownImpls.{kinds_of_impl}
use Rattle.candidate_rounds.specs.Evaluators.Interface.{Fixed, fixed, judge_of}
use Rattle.candidate_rounds.specs.Evaluators.Known.{Evaluator, state, sure_of}
use Rattle.candidate_rounds.specs.Evaluators.Leaking.{Leaks}
use Rattle.candidate_rounds.specs.Table.Goals.{Via}
use Rattle.candidate_rounds.proofs.Table.Noted.{sure-fixed}
use Rattle.rounds_judge.specs.Table.GoalTable.{GoalTable}
use Rattle.overlaps.specs.Apart.{IfDeclared, aside, entered}
use Rattle.overlaps.specs.Instance.{HaveNoAlias}
use Rattle.overlaps.specs.Opening.{AreEntered, IsOpenedWith}
use Rattle.overlaps.specs.Refused.{AreOpen, IsOpen, locals_of}
use Rattle.overlaps.specs.Specialized.{AreAlike, HoldBy, IsEnvironmentOf, IsEnvironmentOfOpen, IsFoundOfPair, IsFoundWhereEqual, IsInstanceBy, IsSpecialization, IsSpecializationAt, clauses_with, entered_wheres}
use Rattle.overlaps.specs.declared.opening.Opened.{Opened}
use Rattle.overlaps.specs.declared.opening.Pair.{Pair}
use Rattle.overlaps.specs.declared.specializing.Specialization.{Specialization}
use Rattle.overlaps.specs.declared.specializing.Specialization.TheVariants as answer
use Rattle.overlaps.specs.Stopping.{IsLater}
use Rattle.overlaps.proofs.Stopping.{later-begun}
use Rattle.overlaps.proofs.Typed.{hold-by-earlier}
use Rattle.overlaps.proofs.OpenedImpls.{opened-later}
use Rattle.overlaps.proofs.Universes.{opened-universe}

-- Where clauses with what stands for the parameters, put in one after the other

-- The clauses so far, and those that are left, are all of them.
pub record PutSoFar (start now : Context) (f : Tree → Tree) (xs list : List Clause) (n : ℕ) : Type 0 where
  pub grows : Grows start now
  pub fit : ClauseListFits now.trees list
  pub trees : map (clause_tree now.trees) list ++ map (λ (x : Clause). f (clause_tree start.trees x)) (drop n xs) ≡ map (λ (x : Clause). f (clause_tree start.trees x)) xs

pub none-put : (start : Context) (f : Tree → Tree) (xs list : List Clause) → ClauseListFits start.trees list → list ≡ [] → PutSoFar start start f xs list 0
none-put start f xs list fit e = record {
  grows = grows-refl start;
  fit = fit;
  trees = ap (λ (ys : List Clause). map (clause_tree start.trees) ys ++ map (λ (x : Clause). f (clause_tree start.trees x)) xs) e;
}

pub one-put : (start now new : Context) (f : Tree → Tree) (xs list more : List Clause) (n : ℕ) (x y : Clause) → PutSoFar start now f xs list n → Grows now new → drop n xs ≡ x ∷ drop (n + 1) xs → IsClause new.trees y
    → clause_tree new.trees y ≡ f (clause_tree start.trees x) → more ≡ list ++ y ∷ [] → PutSoFar start new f xs more (n + 1)
one-put start now new f xs list more n x y so g split fit is e =
    let F : Clause → Tree = λ (z : Clause). f (clause_tree start.trees z) in
    record {
      grows = grows-trans start now new so.grows g;
      fit = pushed_fit now new list more y g so.fit fit e;
      trees =
          ap (λ (ts : List Tree). ts ++ map F (drop (n + 1) xs)) (pushed_trees now new list more y (F x) g so.fit e is)
          ∙ (append_assoc (map (clause_tree now.trees) list) (F x ∷ []) (map F (drop (n + 1) xs))
          ∙ (ap (λ (zs : List Clause). map (clause_tree now.trees) list ++ map F zs) (sym split) ∙ so.trees));
    }

pub all-put : (start now : Context) (f : Tree → Tree) (xs list : List Clause) (n : ℕ) → PutSoFar start now f xs list n → length xs ≤ n
    → map (clause_tree now.trees) list ≡ map (λ (x : Clause). f (clause_tree start.trees x)) xs
all-put start now f xs list n so end =
    let F : Clause → Tree = λ (z : Clause). f (clause_tree start.trees z) in
    sym (ap (λ (zs : List Clause). map (clause_tree now.trees) list ++ map F zs) (drop_all n xs end) ∙ append-nil (map (clause_tree now.trees) list)) ∙ so.trees

-- Environments

-- the clauses of a row
each-clause : (ts : List Tree) (xs : List Clause) → ClauseListFits ts xs → each_of (clause_list_forest ts xs) ≡ map (clause_tree ts) xs
each-clause ts [] f = refl
each-clause ts (x ∷ xs) f =
    let here : kind_at ts x.0 ≡ ClauseKind = cc in
    let others : ClauseListFits ts xs = cc in
    ap each_of (row-single ts x.0 ClauseKind (clause_list_forest ts xs) refl refl here) ∙ ap (λ (us : List Tree). clause_tree ts x ∷ us) (each-clause ts xs others)

-- What is made of the elaboration of clauses.
pub environment-made : (c mid last : Context) (ts : List Tree) (clauses all : List Clause) (env : Env) → Grows c mid → map (clause_tree mid.trees) clauses ≡ ts
    → IsElaboration mid (map (clause_tree mid.trees) clauses) (map (clause_tree last.trees) all) → ClauseListFits last.trees all → env ≡ clause_list_forest last.trees all → IsEnvironmentOf c ts env
environment-made c mid last ts clauses all env g are e fit made =
    let same : map (clause_tree last.trees) all ≡ each_of env = sym (ap each_of made ∙ each-clause last.trees all fit) in
    record {
      later = mid;
      grows = g;
      elaborated = subst (λ (q : List Tree × List Tree). IsElaboration mid q.0 q.1) (λ i. (are i, same i)) e;
    }

-- the same by an earlier context
pub environment-earlier : (c d : Context) (ts us : List Tree) (env : Env) → Grows c d → us ≡ ts → IsEnvironmentOf d us env → IsEnvironmentOf c ts env
environment-earlier c d ts us env g same h = record {
  later = h.later;
  grows = grows-trans c d h.later g h.grows;
  elaborated = subst (λ (xs : List Tree). IsElaboration h.later xs (each_of env)) same h.elaborated;
}

-- the where clauses of an impl that was opened, by those that are declared
wheres-kept : (c mid : Context) (ls : Forest) (xs : List Clause) → Grows c mid → ClauseListFits c.trees xs
    → map (λ (x : Clause). substituted_tree ls (clause_tree mid.trees x)) xs ≡ map (λ (x : Clause). substituted_tree ls (clause_tree c.trees x)) xs
wheres-kept c mid ls [] g f = refl
wheres-kept c mid ls (x ∷ xs) g f =
    let here : IsClause c.trees x = cc in
    let others : ClauseListFits c.trees xs = cc in
    let e = (clause-kept c mid x g here).1 in
    ap (λ (t : Tree). substituted_tree ls t ∷ map (λ (y : Clause). substituted_tree ls (clause_tree mid.trees y)) xs) e
    ∙ ap (λ (ts : List Tree). substituted_tree ls (clause_tree c.trees x) ∷ ts) (wheres-kept c mid ls xs g others)

opened-clauses : (c mid : Context) (ls : Forest) (i : Impl) (o : Opened) → Grows c mid → IsOpenedWith c ls i mid o
    → clauses_with mid.trees (args_forest mid.trees o.locals) o.wheres.items ≡ clauses_with c.trees ls i.wheres
opened-clauses c mid ls i o g h =
    let a = h.locals in
    let b = h.wheres in
    ap (λ (q : Forest × List Clause). clauses_with mid.trees q.0 q.1) (λ i. (a i, b i)) ∙ wheres-kept c mid ls i.wheres g h.given.wheres

environment-declared : (c mid : Context) (ls : Forest) (i : Impl) (o : Opened) (env : Env) → Grows c mid → IsOpenedWith c ls i mid o → IsEnvironmentOfOpen mid o env
    → IsEnvironmentOf c (map (λ (x : Clause). substituted_tree ls (clause_tree c.trees x)) i.wheres) env
environment-declared c mid ls i o env g h e =
    let same = opened-clauses c mid ls i o g h in
    record {
      later = e.later;
      grows = grows-trans c mid e.later g e.grows;
      elaborated = subst (λ (ts : List Tree). IsElaboration e.later ts (each_of env)) same e.elaborated;
    }

-- Open impls

is-open : (c : Context) (ls : Forest) (i : Impl) (later : Context) (o : Opened) → IsOpenedWith c ls i later o → IsOpen later.trees o
is-open c ls i later o h = (h.locals_fit, h.header_fits, h.owned)

pub are-open : (c : Context) (S : State) (a b : ImplId) (later : Context) (left : State) (p : Pair) → AreEntered c S a b later left p → AreOpen later.trees p
are-open c S a b later left p h =
    (is-open c (rigid S (kinds_of_impl h.i)) h.i later p.first h.first, is-open c (locals_of (entered S h.i) h.j) h.j later p.second h.second)

-- The where clauses of an open impl stay later on.
pub open-clauses : (c d : Context) (o : Opened) → Grows c d → IsOpen c.trees o
    → clauses_with d.trees (args_forest d.trees o.locals) o.wheres.items ≡ clauses_with c.trees (args_forest c.trees o.locals) o.wheres.items
open-clauses c d o g known =
    let ls = (args-kept c d o.locals g known.0).1 in
    ap (λ (f : Forest). clauses_with d.trees f o.wheres.items) ls ∙ wheres-kept c d (args_forest c.trees o.locals) o.wheres.items g known.2.fit

-- What is found where the headers are equal, by what their equation left, in a probe that began then and has ended.
pub found-under : (old began ran new : Evaluator) (env : ParamEnv) (p : Pair) (after : State) → Grows old.context began.context → IsParamEnv old.context.trees env → AreOpen old.context.trees p
    → HaveNoAlias (args_forest old.context.trees p.second.header) (args_forest old.context.trees p.first.header)
    → accepted (judge_of (fixed old)) (state old) (env_forest old.context.trees env) (args_forest old.context.trees p.second.header) (args_forest old.context.trees p.first.header) ≡ Some after
    → (Leaks (state old).newest_universe after → ⊥) → IsLater old began → state began ≡ aside after → fixed new ≡ fixed ran → (x : Specialization)
    → IsFoundWhereEqual began (env_forest began.context.trees env) (sure_of ran) p.second x
    → IsFoundOfPair old (env_forest old.context.trees env) (sure_of new) p x
found-under old began ran new env p after g e known plain equal kept l s f answer.Specializes h =
    let E = (env-kept old.context began.context env g e).1 in
    let t : sure_of ran ≡ sure_of new = sym (sure-fixed f) in
    let w = open-clauses old.context began.context p.second g known.1 in
    record {
      no_alias = plain;
      after = after;
      equal = equal;
      no_leak = kept;
      hold =
          hold-by-earlier l (subst (λ (q : Env × GoalTable Via × State × List Tree). HoldBy began q.0 q.1 q.2 [] q.3) (λ i. (E i, t i, s i, w i)) h);
    }
found-under old began ran new env p after g e known plain equal kept l s f answer.Unlike h = h
found-under old began ran new env p after g e known plain equal kept l s f answer.NoInstance h = tt
found-under old began ran new env p after g e known plain equal kept l s f (answer.Unanswered n) h = tt

-- What is found of two open impls, by those that are declared.
pub found-here : (old mid now : Evaluator) (a b : ImplId) (p : Pair) (env : Env) (T : GoalTable Via) → Grows old.context mid.context → Grows mid.context now.context → fixed now ≡ fixed old → state now ≡ state mid
    → AreEntered old.context (state old) a b mid.context (state mid) p → IfDeclared old.context a b AreAlike → IsEnvironmentOfOpen mid.context p.first env
    → (x : Specialization) → IsFoundOfPair now env T p x → IsSpecializationAt old (state old) T a b x
found-here old mid now a b p env T g h f s o alike e answer.Specializes k =
    let c = old.context in
    let S = state old in
    let first = opened-later c mid.context now.context (rigid S (kinds_of_impl o.i)) o.i p.first h o.first in
    let second = opened-later c mid.context now.context (locals_of (entered S o.i) o.j) o.j p.second h o.second in
    let u = s ∙ o.left_is in
    let x = second.header in
    let y = first.header in
    record {
      i = o.i;
      j = o.j;
      first_is = o.first_is;
      second_is = o.second_is;
      holds = record {
        alike = alike o.i o.j o.first_is o.second_is;
        env = env;
        is_env = environment-declared c mid.context (rigid S (kinds_of_impl o.i)) o.i p.first env g o.first e;
        after = k.after;
        instance = record {
          no_alias = subst (λ (q : Forest × Forest). HaveNoAlias q.0 q.1) (λ i. (x i, y i)) k.no_alias;
          equal = subst (λ (q : Fixed × State × Forest × Forest). accepted (judge_of q.0) q.1 env q.2 q.3 ≡ Some k.after) (λ i. (f i, u i, x i, y i)) k.equal;
        };
        no_leak = λ l. k.no_leak (subst (λ (n : ℕ). Leaks n k.after) (sym (ap (λ (U : State). U.newest_universe) u ∙ opened-universe (entered S o.i) o.j)) l);
        hold =
            let w = opened-clauses c now.context (locals_of (entered S o.i) o.j) o.j p.second (grows-trans c mid.context now.context g h) second in
            hold-by-earlier (later-begun (grows-trans c mid.context now.context g h) f) (subst (HoldBy now env T (aside k.after) []) w k.hold);
      };
    }
found-here old mid now a b p env T g h f s o alike e answer.Unlike k = absurd k
found-here old mid now a b p env T g h f s o alike e answer.NoInstance k = tt
found-here old mid now a b p env T g h f s o alike e (answer.Unanswered n) k = tt

-- A probe that was open meanwhile, in which nothing was pending at first, changes nothing of it.
pub found-probed : (old began ran new : Evaluator) (a b : ImplId) → began.context ≡ old.context → fixed began ≡ fixed old → state began ≡ aside (state old) → fixed new ≡ fixed ran
    → (x : Specialization) → IsSpecializationAt began (state began) (sure_of ran) a b x → IsSpecialization old new a b x
found-probed old began ran new a b cx f s g answer.Specializes h =
    let t : sure_of ran ≡ sure_of new = sym (sure-fixed g) in
    let k = h.holds in
    let i = h.i in
    let j = h.j in
    record {
      i = i;
      j = j;
      first_is = ap (λ (c : Context). impl_at c a) (sym cx) ∙ h.first_is;
      second_is = ap (λ (c : Context). impl_at c b) (sym cx) ∙ h.second_is;
      holds = record {
        alike = k.alike;
        env = k.env;
        is_env = subst (λ (q : Context × State). IsEnvironmentOf q.0 (entered_wheres q.0 q.1 i) k.env) (λ z. (cx z, s z)) k.is_env;
        after = k.after;
        instance = subst (λ (q : Fixed × Context × State). IsInstanceBy (judge_of q.0) q.1 q.2 k.env i j k.after) (λ z. (f z, cx z, s z)) k.instance;
        no_leak = λ l. k.no_leak (subst (λ (U : State). Leaks (entered U i).newest_universe k.after) (sym s) l);
        hold =
            let l = later-begun (subst (Grows old.context) (sym cx) (grows-refl old.context)) f in
            hold-by-earlier l
            (subst (λ (q : Context × GoalTable Via × State). HoldBy began k.env q.1 (aside k.after) [] (clauses_with q.0.trees (locals_of (entered q.2 i) j) j.wheres)) (λ z. (cx z, t z, s z)) k.hold);
      };
    }
found-probed old began ran new a b cx f s g answer.Unlike h = λ i j first second alike. subst (λ (c : Context). IfDeclared c a b (λ x y. ⊥)) cx h i j first second
found-probed old began ran new a b cx f s g answer.NoInstance h = tt
found-probed old began ran new a b cx f s g (answer.Unanswered n) h = tt
