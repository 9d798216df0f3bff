-- The rules for a goal whose self type is a general variable.
use Rattle.std.proofs.Common.{◌≡◌, ◌<◌, ℕ, Bool, true, false, Option, Some, None, Result, Err, List, [], ◌∷◌, ◌++◌, get_or, length, map, refl, sym, ap, subst, ◌∙◌}
use Rattle.std.specs.Prelude.{if◌then◌else◌}
use Rattle.ir_trees.specs.declared.decl.contents.ImplId.{ImplId}
use Rattle.ir_trees.specs.declared.ir.heads.Head.{Head}
use Rattle.ir_trees.specs.declared.ir.heads.Head.TheVariants as H
use Rattle.ir_trees.specs.declared.ir.kinds.Clause.{Clause}
use Rattle.ir_trees.specs.declared.ir.kinds.InferTy.TheVariants as IT
use Rattle.ir_trees.specs.declared.ir.kinds.ParamEnv.{ParamEnv}
use Rattle.ir_trees.specs.declared.ir.kinds.Pattern.TheVariants as Pat
use Rattle.ir_trees.specs.declared.ir.kinds.Ty.{Ty}
use Rattle.ir_trees.specs.declared.ir.kinds.TyKind.{TyKind}
use Rattle.ir_trees.specs.declared.ir.kinds.TyKind.TheVariants as TK
use Rattle.ir_trees.specs.Declarations.Context.{Context, Grows}
use Rattle.ir_trees.specs.Unification.Impls.{blanket_impls}
use Rattle.ir_trees.specs.Syntax.Kinds.{is_general_variable}
use Rattle.ir_trees.specs.Unification.Substitutions.{alone}
use Rattle.ir_trees.specs.Syntax.Trees.{TypeKind, Forest, Tree, holds, is_param, kind_of, none, tree_holds}
use Rattle.ir_trees.specs.Validity.WellFormed.{IsWellFormedTable}
use Rattle.ir_trees.specs.Syntax.Words.{ClauseListFits, clause_tree, kind_tree, ty_tree}
use Rattle.ir_trees.specs.Declarations.Worlds.{Reference}
use Rattle.ir_trees.proofs.Instantiation.Folding.{or-right}
use Rattle.ir_folds.proofs.Instantiation.Joining.{clause-kept}
use Rattle.ir_trees.proofs.Growth.Made.{IsClause-listed}
use Rattle.candidate_eval.specs.declared.eval.mode.TypingMode.{TypingMode}
use Rattle.candidate_eval.specs.declared.eval.refusal.NoSolutionOrStop.{NoSolutionOrStop}
use Rattle.candidate_eval.specs.declared.eval.refusal.NoSolutionOrStop.TheVariants as N
use Rattle.candidate_eval.specs.declared.eval.response.CanonicalResponse.{CanonicalResponse}
use Rattle.candidate_eval.specs.declared.eval.certainty.Certainty.{Certainty}
use Rattle.candidate_eval.specs.declared.eval.source.CandidateSource.{CandidateSource}
use Rattle.candidate_eval.specs.Judges.Alike.{JudgesAlike}
use Rattle.candidate_eval.specs.Outcomes.Certainties.{AMBIGUOUS}
use Rattle.candidate_eval.specs.Derivations.Judging.{Ambiguous, At, Over, Reached, Refused, answered, at_if, comes_to, concluded, continued, go_on, judged, run, start}
use Rattle.candidate_eval.specs.Derivations.Mentions.{IsBelow, StepsBelow, is_from}
use Rattle.candidate_eval.specs.Dynamic.ObjectRequirements.{first_tree}
use Rattle.candidate_eval.specs.Knowability.Orphan.{is_general}
use Rattle.candidate_eval.specs.Outcomes.Responses.{Response}
use Rattle.candidate_eval.specs.Derivations.Rules.{Step, ask, still_general}
use Rattle.candidate_eval.specs.Judges.States.{Env, Judge, State, resolved_root, resolved_tree, value_at}
use Rattle.candidate_eval.proofs.Marks.Holds.{holds_parts}
use Rattle.candidate_eval.proofs.Derivations.RuleRuns.{comes_append}
use Rattle.candidate_assembly.specs.Answers.Closures.{Responds}
use Rattle.candidate_assembly.specs.Goals.Kinds.{GoalBelow, ImplPart, KindRules, part_judged, self_type}
use Rattle.candidate_assembly.specs.Rules.Opaques.{AreBelow, open_impl_rule, open_rule_of, open_rules, non_default_impls, responded_if_general}
use Rattle.candidate_assembly.specs.Answers.Telling.{HaveNoParameter, standing}
use Rattle.candidate_assembly.proofs.Rules.Flat.{nothing-put}
use Rattle.candidate_assembly.proofs.Lists.Listing.{judged-alike}
use Rattle.candidate_assembly.proofs.Rules.MatchesBelow.{steps-joined}

-- A type that resolves to a general variable at its root resolves to one.
pub general-root : (S : State) (h : Head) (below : Forest) → kind_of h ≡ TypeKind → is_general (resolved_root S (record { head = h; children = below })).head ≡ is_general (resolved_tree S (record { head = h; children = below })).head
general-root S (H.Infer v) below e = of (value_at S (H.Infer v)) refl
  where
    of : (o : Option Tree) → value_at S (H.Infer v) ≡ o → is_general (resolved_root S (record { head = H.Infer v; children = below })).head ≡ is_general (resolved_tree S (record { head = H.Infer v; children = below })).head
    of None q = rw q refl
    of (Some u) q = rw q refl
general-root S (H.Region r) below e = absurd cc
general-root S _ below e = refl

pub general-kind : (ts : List Tree) (k : TyKind) → is_general_variable k ≡ is_general (kind_tree ts k).head
general-kind ts (TK.Infer (IT.TyVar n)) = refl
general-kind ts (TK.Infer (IT.IntVar n)) = refl
general-kind ts (TK.Infer (IT.FloatVar n)) = refl
general-kind ts (TK.Pat t Pat.NotNull) = refl
general-kind ts (TK.Pat t (Pat.Range a b)) = refl
general-kind ts _ = refl

-- what is found out of a type that was resolved at its root
pub still-is : (read c : Context) → read ≡ c → (S : State) (k : TyKind) (t : Tree) (u : Ty) (b : Bool) → kind_of t.head ≡ TypeKind → b ≡ is_general_variable k → kind_tree read.trees k ≡ ty_tree read.trees u → ty_tree c.trees u ≡ resolved_root S t
    → is_general (resolved_tree S t).head ≡ b
still-is read c same S k t u b sort found is resolves =
    let there : ty_tree read.trees u ≡ resolved_root S t = ap (λ (x : Context). ty_tree x.trees u) same ∙ resolves in
    sym (found ∙ (general-kind read.trees k ∙ (ap (λ (x : Tree). is_general x.head) (is ∙ there) ∙ general-root S t.head t.children sort)))

-- What is answered by it.

pub general-refused : (ts : List Tree) (J : Judge) (S : State) (t : Tree) (sure : Certainty) → is_general (resolved_tree S t).head ≡ false → Responds ts (Err N.NoSolution) (responded_if_general J t sure S)
general-refused ts J S t sure e = record { ok = tt; fits = tt; refused = λ n. ap (λ b. if b then J.responded S sure else None) e; stopped = tt }

pub general-told : (ts : List Tree) (J : Judge) (S : State) (t : Tree) (sure : Certainty) (r : Result CanonicalResponse NoSolutionOrStop) → is_general (resolved_tree S t).head ≡ true → Responds ts r (J.responded S sure) → Responds ts r (responded_if_general J t sure S)
general-told ts J S t sure r e h = subst (λ (o : Option Response). Responds ts r o) (sym (ap (λ b. if b then J.responded S sure else None) e)) h

-- the same of the first judge, where it was called with an evaluator that keeps what is fixed
pub general-at : {E X : Type 0} (fixed : E → X) (judge : X → Judge) (state : E → State) (context : E → Context) (first shown x left y : E) (self : Ty) (sure : Certainty) (r : Result CanonicalResponse NoSolutionOrStop)
    → shown ≡ x → left ≡ y → fixed x ≡ fixed first → ty_tree (context x).trees self ≡ ty_tree (context first).trees self
    → Responds (context left).trees r (responded_if_general (judge (fixed shown)) (ty_tree (context shown).trees self) sure (state shown))
    → Responds (context y).trees r (responded_if_general (judge (fixed first)) (ty_tree (context first).trees self) sure (state x))
general-at fixed judge state context first shown x left y self sure r shows leaves same tree h =
    let at-x : Responds (context left).trees r (responded_if_general (judge (fixed x)) (ty_tree (context x).trees self) sure (state x))
    = subst (λ z. Responds (context left).trees r (responded_if_general (judge (fixed z)) (ty_tree (context z).trees self) sure (state z))) shows h in
    let by-first : Responds (context left).trees r (responded_if_general (judge (fixed first)) (ty_tree (context x).trees self) sure (state x))
    = subst (λ f. Responds (context left).trees r (responded_if_general (judge f) (ty_tree (context x).trees self) sure (state x))) same at-x in
    let of-tree : Responds (context left).trees r (responded_if_general (judge (fixed first)) (ty_tree (context first).trees self) sure (state x))
    = subst (λ (u : Tree). Responds (context left).trees r (responded_if_general (judge (fixed first)) u sure (state x))) tree by-first in
    subst (λ z. Responds (context z).trees r (responded_if_general (judge (fixed first)) (ty_tree (context first).trees self) sure (state x))) leaves of-tree

-- a tree alone, without parameters
pub tree-free : (t : Tree) → holds is_param (alone t) ≡ false → tree_holds is_param t ≡ false
tree-free t e = let p = holds_parts is_param t.head t.children none e in rw (p.here, p.under) refl

-- An impl's steps, after which a closure answers, are judged as the rule with the steps that come to what it answers.
part-as-steps : (J : Judge) (S : State) (e : Env) (s : CandidateSource) (p : ImplPart) (k : State → Option Response) (more : List Step) (sure : Certainty)
    → ((ls : Forest) (T : State) → comes_to J e (standing T ls) more (ask s sure) ≡ answered s (k T))
    → part_judged J e S s p k ≡ judged J S (record { env = e; applies = p.applies; steps = p.steps ++ more; ending = ask s sure })
part-as-steps J S e s p k more sure same =
    ap (λ z. if p.applies then z else Refused) (at (run J e (start S) p.steps) ∙ sym (comes_append J e (start S) p.steps more (ask s sure)))
  where
    at : (r : Reached) → continued J (ask s AMBIGUOUS) r (λ q. answered s (k q.state)) ≡ continued J (ask s sure) r (λ q. comes_to J e q more (ask s sure))
    at (At p) = sym (same p.locals p.state)
    at (Ambiguous T) = refl
    at (Over j) = refl

-- So the test that the type is a general variable still is the last step.
pub general-as-step : (J : Judge) (S : State) (e : Env) (s : CandidateSource) (p : ImplPart) (t : Tree) (sure : Certainty) → tree_holds is_param t ≡ false
    → part_judged J e S s p (responded_if_general J t sure) ≡ judged J S (record { env = e; applies = p.applies; steps = p.steps ++ still_general t ∷ []; ending = ask s sure })
general-as-step J S e s p t sure free = part-as-steps J S e s p (responded_if_general J t sure) (still_general t ∷ []) sure same
  where
    by : (ls : Forest) (T : State) (b : Bool) → continued J (ask s sure) (go_on (at_if (standing T ls) b) (λ q. run J e q [])) (λ q. concluded J e (ask s sure) q.state) ≡ answered s (if b then J.responded T sure else None)
    by ls T true = refl
    by ls T false = refl

    same : (ls : Forest) (T : State) → comes_to J e (standing T ls) (still_general t ∷ []) (ask s sure) ≡ answered s (responded_if_general J t sure T)
    same ls T =
        ap (λ (u : Tree). continued J (ask s sure) (go_on (at_if (standing T ls) (is_general (resolved_tree T u).head)) (λ q. run J e q [])) (λ q. concluded J e (ask s sure) q.state)) (nothing-put ls t free)
        ∙ by ls T (is_general (resolved_tree T t).head)

-- What is judged of an impl for any type later, by other words for its parts, is what is judged of it at the first state.
pub open-judged : {G F : Type 0} (K : KindRules G) (judge : F → Judge) (f h : F) → ((x : F) → JudgesAlike (judge x))
    → ((c : Context) → IsWellFormedTable c → (n : ℕ) (m : TypingMode) (g : G) (i : ImplId) → IsBelow n (K.trees_of g) → StepsBelow n (K.impl_part c m g i).steps)
    → ((old new : Context) → IsWellFormedTable old → Grows old new → (m : TypingMode) (g : G) (i : ImplId) → K.impl_part new m g i ≡ K.impl_part old m g i)
    → ((mark : Head → Bool) (c : Context) (g : G) → mark H.Error ≡ false → holds mark (K.trees_of g) ≡ false → holds mark (alone (self_type K c g)) ≡ false)
    → (old now : Context) → IsWellFormedTable old → Grows old now → (S T : State) (g d : G) (i : ImplId) → h ≡ f → d ≡ g → K.reference_of now g ≡ K.reference_of old g → (judge f).alike S T → GoalBelow K (length S.variables) g
    → judged (judge h) T (open_rule_of K now T.mode d i) ≡ judged (judge f) S (open_rule_of K old S.mode g i)
open-judged K judge f h law mentions stays selves old now t grows S T g d i same seen refers a below =
    ap (λ z. judged (judge z) T (open_rule_of K now T.mode d i)) same
    ∙ (ap (judged (judge f) T)
    (ap (λ x. open_rule_of K now T.mode x i) seen
    ∙ (ap (λ m. open_rule_of K now m g i) ((law f).alike_looks S T a).mode
    ∙ (ap (open_impl_rule (K.env_of g) i (self_type K now g)) (stays old now t grows S.mode g i)
    ∙ ap (λ (r : Reference). open_impl_rule (K.env_of g) i (first_tree r.arguments) (K.impl_part old S.mode g i)) refers)))
    ∙ judged-alike (judge f) (law f) S T (open_rule_of K old S.mode g i) a (record {
      env = below.env;
      steps = steps-joined (length S.variables) (K.impl_part old S.mode g i).steps (still_general (self_type K old g) ∷ []) (mentions old t (length S.variables) S.mode g i below.trees)
          (selves (is_from (length S.variables)) old g refl below.trees, tt);
      ending = tt;
    }))

-- The rules by the impls that were read.
pub open-rules-read : {G P : Type 0} (K : KindRules G) (see : List Tree → ParamEnv → P → G) (old c : Context) (m : TypingMode) (e : ParamEnv) (p : P) (n : ℕ) (xs : List ImplId) → c ≡ old → n ≡ (K.reference_of c (see c.trees e p)).trait
    → xs ≡ non_default_impls c (blanket_impls c n) → open_rules K old m (see old.trees e p) ≡ map (open_rule_of K old m (see old.trees e p)) xs
open-rules-read K see old c m e p n xs same trait is =
    let read : xs ≡ non_default_impls c (blanket_impls c (K.reference_of c (see c.trees e p)).trait) = is ∙ ap (λ j. non_default_impls c (blanket_impls c j)) trait in
    ap (map (open_rule_of K old m (see old.trees e p))) (sym (subst (λ (x : Context). xs ≡ non_default_impls x (blanket_impls x (K.reference_of x (see x.trees e p)).trait)) same read))

-- A clause of the context, where that has grown.
pub clause-at : (old now : Context) (n : ℕ) (xs : List Clause) (k : ℕ) (d : Clause) → Grows old now → ClauseListFits old.trees xs → HaveNoParameter old.trees xs → AreBelow old.trees n xs → k < length xs
    → (clause_tree now.trees (get_or xs k d) ≡ clause_tree old.trees (get_or xs k d)) × (holds is_param (clause_tree now.trees (get_or xs k d)).children ≡ false) × IsBelow n (alone (clause_tree old.trees (get_or xs k d)))
clause-at old now n xs k d grows fit free below l =
    let x = get_or xs k d in
    let same = (clause-kept old now x grows (IsClause-listed old.trees xs k d l fit)).1 in
    (same, ap (λ (t : Tree). holds is_param t.children) same ∙ or-right (is_param (clause_tree old.trees x).head) (holds is_param (clause_tree old.trees x).children) (free k d l), below k d l)
