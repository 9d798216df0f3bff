-- Goals of two impls that can't hold together: of open impls, of declared ones, and in a probe.
use Rattle.std.proofs.Common.{◌≡◌, ◌≤◌, ◌+◌, ◌++◌, ◌∷◌, [], ℕ, List, Some, drop, length, refl, sym, ap, subst, ◌∙◌}
use Rattle.std.proofs.lemmas.List.{append-nil, append_assoc, drop_all}
use Rattle.ir_trees.specs.declared.decl.contents.ImplId.{ImplId}
use Rattle.ir_trees.specs.declared.ir.kinds.Clause.{Clause}
use Rattle.ir_trees.specs.declared.ir.kinds.ParamEnv.{ParamEnv}
use Rattle.ir_trees.specs.declared.ir.kinds.GoalSource.TheVariants.{ImplWhereBound}
use Rattle.ir_trees.specs.Declarations.Context.{Context, Grows}
use Rattle.ir_trees.specs.Declarations.Contents.{Impl}
use Rattle.ir_trees.specs.Declarations.Declaring.{impl_at}
use Rattle.ir_trees.specs.Instantiation.Folding.{substituted_tree}
use Rattle.ir_trees.specs.Syntax.Trees.{Forest, none}
use Rattle.ir_trees.specs.Syntax.Words.{ClauseListFits, IsClause, IsParamEnv, args_forest, clause_tree, env_forest}
use Rattle.ir_trees.proofs.Growth.Kept.{args-kept, grows-refl, grows-trans}
use Rattle.ir_folds.proofs.Instantiation.Joining.{clause-kept}
use Rattle.candidate_eval.specs.Judges.States.{Pending, State}
use Rattle.candidate_assembly.specs.Answers.KnownImpls.{header_at}
use Rattle.candidate_rounds.specs.Evaluators.Interface.{Fixed, fixed, judge_of}
use Rattle.candidate_rounds.specs.Evaluators.Known.{Each, Evaluator, state}
use Rattle.candidate_rounds.proofs.Obligations.Evaluating.{goals-kept as obligations-kept, pendings-kept}
use Rattle.candidate_rounds.proofs.Snapshots.Knowing.{each-append}
use Rattle.candidate_eval.specs.Interface.Evaluators.{accepted, pending_of, pendings_of}
use Rattle.overlaps.proofs.Pairs.{equated-declared}
use Rattle.overlaps.proofs.Stopping.{later-begun}
use Rattle.overlaps.proofs.Jointly.{cannot-earlier, pendings-more}
use Rattle.overlaps.specs.Apart.{OfDeclared, aside, opened}
use Rattle.overlaps.specs.Opening.{AreOpened, IsOpenedWith}
use Rattle.overlaps.specs.Refused.{AreOpen, IsOpen, MakesHeadersEqual, headers_equated, locals_of}
use Rattle.overlaps.specs.Stopping.{IsLater}
use Rattle.overlaps.specs.Together.{CannotBothHold, CannotHold, ImplsCannotHold, IsObligation, Obligation, goals_of, goals_of_opened, pendings_at}
use Rattle.overlaps.specs.declared.opening.Opened.{Opened}
use Rattle.overlaps.specs.declared.opening.Pair.{Pair}

-- Clauses are the same goals by a later context.
pub goals-kept : (c d : Context) (ls : Forest) (xs : List Clause) → Grows c d → ClauseListFits c.trees xs → goals_of d ls xs ≡ goals_of c ls xs
goals-kept c d ls [] g f = refl
goals-kept c d ls (x ∷ xs) g f =
    let here : IsClause c.trees x = cc in
    let others : ClauseListFits c.trees xs = cc in
    let e = (clause-kept c d x g here).1 in
    ap (λ t. record { source = ImplWhereBound; goal = record { env = none; clause = substituted_tree ls t } } ∷ goals_of d ls xs) e
    ∙ ap (λ (ps : List Pending). record { source = ImplWhereBound; goal = record { env = none; clause = substituted_tree ls (clause_tree c.trees x) } } ∷ ps) (goals-kept c d ls xs g others)

-- those of an open impl
pub opened-kept : (c d : Context) (o : Opened) → Grows c d → IsOpen c.trees o → goals_of_opened d o ≡ goals_of_opened c o
opened-kept c d o g known =
    ap (λ (ls : Forest). goals_of d ls o.wheres.items) (args-kept c d o.locals g known.0).1 ∙ goals-kept c d (args_forest c.trees o.locals) o.wheres.items g known.2.fit

goals-declared : (c mid : Context) (ls : Forest) (i : Impl) (o : Opened) → Grows c mid → IsOpenedWith c ls i mid o → goals_of_opened mid o ≡ goals_of c ls i.wheres
goals-declared c mid ls i o g h =
    let a = h.locals in
    let b = h.wheres in
    ap (λ (q : Forest × List Clause). goals_of mid q.0 q.1) (λ k. (a k, b k)) ∙ goals-kept c mid ls i.wheres g h.given.wheres

-- What is said of the open impls is so of the declared ones.
pub together-declared : (old mid : Evaluator) (a b : ImplId) (p : Pair) → Grows old.context mid.context → IsLater old mid → fixed mid ≡ fixed old
    → AreOpened old.context (state old) a b mid.context (state mid) p → CannotBothHold mid p → OfDeclared old.context a b (ImplsCannotHold old (state old))
together-declared old mid a b p grows l f o h =
    let c = old.context in
    let S = state old in
    let one = goals-declared c mid.context (locals_of S o.i) o.i p.first grows o.first in
    let other = goals-declared c mid.context (locals_of (opened S o.i) o.j) o.j p.second grows o.second in
    record {
      i = o.i;
      j = o.j;
      first_is = o.first_is;
      second_is = o.second_is;
      holds = record {
        after = h.after;
        equal = subst (λ (x : Fixed). accepted (judge_of x) (opened (opened S o.i) o.j) none (header_at c S o.i).arguments (header_at c (opened S o.i) o.j).arguments ≡ Some h.after) f
            (equated-declared c S a b mid p o (Some h.after) h.equal);
        cannot = subst (λ (q : List Pending × List Pending). CannotHold old (aside h.after) (h.after.pending ++ (q.0 ++ q.1))) (λ k. (one k, other k)) (cannot-earlier l h.cannot);
      };
    }

-- A probe that was open meanwhile, in which nothing was pending at first, changes nothing of it.
pub together-probed : (old began : Evaluator) (a b : ImplId) → began.context ≡ old.context → fixed began ≡ fixed old → state began ≡ aside (state old)
    → OfDeclared began.context a b (ImplsCannotHold began (state began)) → OfDeclared old.context a b (ImplsCannotHold old (aside (state old)))
together-probed old began a b cx f s h =
    let k = h.holds in
    let i = h.i in
    let j = h.j in
    let l : IsLater old began = later-begun (subst (Grows old.context) (sym cx) (grows-refl old.context)) f in
    record {
      i = i;
      j = j;
      first_is = ap (λ (c : Context). impl_at c a) (sym cx) ∙ h.first_is;
      second_is = ap (λ (c : Context). impl_at c b) (sym cx) ∙ h.second_is;
      holds = record {
        after = k.after;
        equal = subst (λ (q : Fixed × Context × State). MakesHeadersEqual (judge_of q.0) q.1 q.2 i j k.after) (λ z. (f z, cx z, s z)) k.equal;
        cannot = subst (λ (q : Context × State). CannotHold old (aside k.after) (k.after.pending ++ (goals_of q.0 (locals_of q.1 i) i.wheres ++ goals_of q.0 (locals_of (opened q.1 i) j) j.wheres)))
            (λ z. (cx z, s z)) (cannot-earlier l k.cannot);
      };
    }

-- So many clauses of an impl are goals, after those that were there.
pub record AddedSoFar (start now : Context) (ls : Forest) (xs : List Clause) (first list : List Obligation) (n : ℕ) : Type 0 where
  pub grows : Grows start now
  pub fit : Each (IsObligation now.trees) list
  pub trees : pendings_of now.trees list ++ goals_of start ls (drop n xs) ≡ pendings_of start.trees first ++ goals_of start ls xs

pub none-added : (start : Context) (ls : Forest) (xs : List Clause) (first : List Obligation) → Each (IsObligation start.trees) first → AddedSoFar start start ls xs first first 0
none-added start ls xs first fit = record { grows = grows-refl start; fit = fit; trees = refl }

pub one-added : (start now new : Context) (ls : Forest) (xs : List Clause) (first list more : List Obligation) (n : ℕ) (x y : Clause) (env : ParamEnv) → AddedSoFar start now ls xs first list n → Grows now new
    → drop n xs ≡ x ∷ drop (n + 1) xs → IsParamEnv new.trees env → env_forest new.trees env ≡ none → IsClause new.trees y → clause_tree new.trees y ≡ substituted_tree ls (clause_tree start.trees x)
    → more ≡ list ++ (ImplWhereBound, record { param_env = env; predicate = y }) ∷ [] → AddedSoFar start new ls xs first more (n + 1)
one-added start now new ls xs first list more n x y env so g split env-fits empty fit is e =
    let goal : Obligation = (ImplWhereBound, record { param_env = env; predicate = y }) in
    let q : Pending = record { source = ImplWhereBound; goal = record { env = none; clause = substituted_tree ls (clause_tree start.trees x) } } in
    let kept = pendings-kept now new list g so.fit in
    let one : pending_of new.trees ImplWhereBound goal.1 ≡ q = λ k. record { source = ImplWhereBound; goal = record { env = empty k; clause = is k } } in
    let all : pendings_of new.trees more ≡ pendings_of now.trees list ++ q ∷ []
    = ap (pendings_of new.trees) e ∙ (pendings-more new.trees list (goal ∷ []) ∙ (λ k. kept k ++ one k ∷ [])) in
    record {
      grows = grows-trans start now new so.grows g;
      fit = subst (Each (IsObligation new.trees)) (sym e) (each-append (IsObligation new.trees) list goal (obligations-kept now new list g so.fit) (env-fits, fit));
      trees =
          ap (λ (ps : List Pending). ps ++ goals_of start ls (drop (n + 1) xs)) all
          ∙ (append_assoc (pendings_of now.trees list) (q ∷ []) (goals_of start ls (drop (n + 1) xs))
          ∙ (ap (λ (zs : List Clause). pendings_of now.trees list ++ goals_of start ls zs) (sym split) ∙ so.trees));
    }

pub all-added : (start now : Context) (ls : Forest) (xs : List Clause) (first list : List Obligation) (n : ℕ) → AddedSoFar start now ls xs first list n → length xs ≤ n
    → pendings_of now.trees list ≡ pendings_of start.trees first ++ goals_of start ls xs
all-added start now ls xs first list n so end =
    sym (ap (λ (zs : List Clause). pendings_of now.trees list ++ goals_of start ls zs) (drop_all n xs end) ∙ append-nil (pendings_of now.trees list)) ∙ so.trees

-- What can't hold after the headers were made equal, and what that left pending and both impls' where clauses were gathered.
pub pair-cannot : (old equal wheres first second : Evaluator) (p : Pair) (none_yet some more all : List Obligation) → AreOpen old.context.trees p → Grows old.context wheres.context → Grows old.context first.context
    → IsLater old second → headers_equated old p ≡ Some (state equal) → none_yet ≡ [] → state second ≡ aside (state equal)
    → pendings_at wheres some ≡ pendings_at wheres none_yet ++ (state equal).pending → pendings_at first more ≡ pendings_at wheres some ++ goals_of_opened wheres.context p.first
    → pendings_at second all ≡ pendings_at first more ++ goals_of_opened first.context p.second → CannotHold second (state second) (pendings_at second all) → CannotBothHold old p
pair-cannot old equal wheres first second p none_yet some more all known g k l is nothing s one two three h =
    let ps = (state equal).pending in
    let a = goals_of_opened old.context p.first in
    let b = goals_of_opened old.context p.second in
    let here : pendings_at wheres some ≡ ps = one ∙ ap (λ (gs : List Obligation). pendings_at wheres gs ++ ps) nothing in
    let x = opened-kept old.context wheres.context p.first g known.0 in
    let y = opened-kept old.context first.context p.second k known.1 in
    let there : pendings_at first more ≡ ps ++ a = two ∙ (λ i. here i ++ x i) in
    let everything : pendings_at second all ≡ ps ++ (a ++ b) = three ∙ ((λ i. there i ++ y i) ∙ append_assoc ps a b) in
    record { after = state equal; equal = is; cannot = subst (λ (q : State × List Pending). CannotHold old q.0 q.1) (λ i. (s i, everything i)) (cannot-earlier l h) }
