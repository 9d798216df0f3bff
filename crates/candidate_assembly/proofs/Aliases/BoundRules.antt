-- The rules of the bounds of an alias.
use Rattle.std.proofs.Common.{◌≡◌, ◌<◌, ◌≤◌, arith, Bool, false, ℕ, zero, suc, All, List, [], ◌∷◌, length, map, get_or, refl, sym, subst, ap, ◌∙◌, Result, Err}
use Rattle.std.proofs.lemmas.List.{append-nil}
use Rattle.std.proofs.lemmas.List.Elements.{All-cons, All-get_or, All-nil}
use Rattle.ir_trees.specs.declared.decl.contents.AliasBoundKind.{AliasBoundKind}
use Rattle.ir_trees.specs.declared.decl.contents.AliasBoundKind.TheVariants.{SelfBounds, NonSelfBounds}
use Rattle.ir_trees.specs.declared.ir.heads.Head.{Head}
use Rattle.ir_trees.specs.declared.ir.kinds.AliasTy.{AliasTy}
use Rattle.ir_trees.specs.declared.ir.kinds.Clause.{Clause}
use Rattle.ir_trees.specs.declared.ir.kinds.TyKind.TheVariants as TK
use Rattle.ir_trees.specs.declared.ir.stop.Stop.{Stop}
use Rattle.ir_trees.specs.Declarations.Context.{Context}
use Rattle.ir_trees.specs.Declarations.Declaring.{bounds_at}
use Rattle.ir_trees.specs.Instantiation.Folding.{substituted_tree}
use Rattle.ir_trees.specs.Declarations.Lookups.{maybe}
use Rattle.ir_trees.specs.Instantiation.Owned.{bounds_among, is_unsolved}
use Rattle.ir_trees.specs.Unification.Substitutions.{alone}
use Rattle.ir_trees.specs.Syntax.Trees.{ArgumentsKind, Forest, Tree, holds, is_param, none, tree_holds}
use Rattle.ir_trees.specs.Syntax.Words.{IsArgs, args_forest, clause_tree, kind_tree}
use Rattle.ir_trees.proofs.Syntax.Rows.{join-none, row-list}
use Rattle.candidate_eval.specs.declared.eval.certainty.Certainty.{Certainty}
use Rattle.candidate_eval.specs.declared.eval.certainty.Certainty.TheVariants.{Yes}
use Rattle.candidate_eval.specs.declared.eval.response.Candidate.{Candidate as OfNumbers}
use Rattle.candidate_eval.specs.declared.eval.source.CandidateSource.{CandidateSource}
use Rattle.candidate_eval.specs.declared.eval.source.CandidateSource.TheVariants.{AliasBound}
use Rattle.candidate_eval.specs.Interface.Accounts.{Account}
use Rattle.candidate_eval.specs.Judges.Alike.{JudgesAlike}
use Rattle.candidate_eval.specs.Interface.Evaluators.{Keeps}
use Rattle.candidate_eval.specs.Derivations.Judging.{judged}
use Rattle.candidate_eval.specs.Interface.Knowing.{is_evaluator_stop}
use Rattle.candidate_eval.specs.Derivations.Mentions.{IsBelow, StepsBelow, is_from}
use Rattle.candidate_eval.specs.Outcomes.ResponseTrees.{AreCandidates, candidates_of}
use Rattle.candidate_eval.specs.Derivations.Rules.{Rule, ask}
use Rattle.candidate_eval.specs.Judges.States.{Judge, State}
use Rattle.candidate_eval.proofs.Marks.Holds.{holds_parts}
use Rattle.candidate_eval.proofs.Marks.Marking.{alone-unmarked}
use Rattle.candidate_eval.proofs.Builtins.PartsFree.{put-below, put-parameterless}
use Rattle.candidate_assembly.specs.Rules.AliasBounds.{bound_rules, bounds_of_kind}
use Rattle.candidate_assembly.specs.Goals.Kinds.{GoalBelow, KindRules, match_rule}
use Rattle.candidate_assembly.specs.Answers.Listing.{ConsidersAll, Listed, Lists}
use Rattle.candidate_assembly.proofs.Rules.PureFolder.{rule-moved}
use Rattle.candidate_assembly.proofs.Calls.Causes.{made-here}
use Rattle.candidate_assembly.proofs.Calls.Considering.{not-both}
use Rattle.candidate_assembly.proofs.Lists.Listing.{ListedSoFar, candidates-kept, judged-alike}
use Rattle.candidate_assembly.proofs.Rules.MatchesBelow.{steps-joined}
use Rattle.candidate_assembly.proofs.Calls.Stepping.{unmade-own}
use Rattle.candidate_eval.specs.Interface.Unmade.{IsUnmade}

-- the bounds that are read are those that count
pub declared-by-kind : (c : Context) (k : AliasBoundKind) (n : ℕ) → maybe [] (bounds_among k) (bounds_at c n) ≡ bounds_of_kind c k n
declared-by-kind c SelfBounds n = refl
declared-by-kind c NonSelfBounds n = refl

-- One of the bounds.

-- Trees that are those of clauses: there are as many, and in each place is that of the clause in it.

pub as-many : (f : Clause → Tree) (xs : List Clause) (us : List Tree) (k : ℕ) → map f xs ≡ us → k < length xs → k < length us
as-many f [] us k e l = absurd (omega (arith, l))
as-many f (x ∷ xs) [] k e l = absurd cc
as-many f (x ∷ xs) (u ∷ us) zero e l = omega arith
as-many f (x ∷ xs) (u ∷ us) (suc k) e l =
    let rest : map f xs ≡ us = cc in
    let more = as-many f xs us k rest (omega (arith, l)) in
    omega (arith, more)

pub as-few : (f : Clause → Tree) (xs : List Clause) (us : List Tree) (k : ℕ) → map f xs ≡ us → length xs ≤ k → length us ≤ k
as-few f [] us k e l = subst (λ (ys : List Tree). length ys ≤ k) e l
as-few f (x ∷ xs) [] k e l = absurd cc
as-few f (x ∷ xs) (u ∷ us) zero e l = absurd (omega (arith, l))
as-few f (x ∷ xs) (u ∷ us) (suc k) e l =
    let rest : map f xs ≡ us = cc in
    let more = as-few f xs us k rest (omega (arith, l)) in
    omega (arith, more)

pub in-place : (f : Clause → Tree) (xs : List Clause) (us : List Tree) (k : ℕ) (d : Clause) (e : Tree) → map f xs ≡ us → k < length xs → f (get_or xs k d) ≡ get_or us k e
in-place f [] us k d e is l = absurd (omega (arith, l))
in-place f (x ∷ xs) [] k d e is l = absurd cc
in-place f (x ∷ xs) (u ∷ us) zero d e is l = cc
in-place f (x ∷ xs) (u ∷ us) (suc k) d e is l =
    let rest : map f xs ≡ us = cc in
    in-place f xs us k d e rest (omega (arith, l))

each-unmarked : (mark : Head → Bool) (f : Clause → Tree) (ws : List Clause) → All (λ w. tree_holds mark (f w) ≡ false) ws → All (λ t. holds mark (alone t) ≡ false) (map f ws)
each-unmarked mark f [] h = All-nil (λ (t : Tree). holds mark (alone t) ≡ false)
each-unmarked mark f (w ∷ ws) h =
    let now : holds mark (alone (f w)) ≡ false = alone-unmarked mark (f w) (h 0 w (omega arith)) in
    All-cons (λ (t : Tree). holds mark (alone t) ≡ false) (f w) (map f ws) now (each-unmarked mark f ws (λ k d l. h (suc k) d (omega (arith, l))))

abbrev put-into : List Tree → Forest → Clause → Tree
put-into ts args w = substituted_tree args (clause_tree ts w)

-- A bound mentions no other variables than its arguments,
pub bound-below : (n : ℕ) (ts : List Tree) (args : Forest) (ws : List Clause) (k : ℕ) (d : Tree) → IsBelow n args → All (λ w. tree_holds is_unsolved (clause_tree ts w) ≡ false) ws → k < length (map (put-into ts args) ws)
    → IsBelow n (alone (get_or (map (put-into ts args) ws) k d))
bound-below n ts args ws k d a h l =
    All-get_or (λ (t : Tree). holds (is_from n) (alone t) ≡ false) (map (put-into ts args) ws) k d l
    (each-unmarked (is_from n) (put-into ts args) ws (λ i e m. put-below n args (clause_tree ts (get_or ws i e)) a (h i e m)))

-- and no parameter stands in it, where none does in these.
pub bound-free : (ts : List Tree) (args : Forest) (ws : List Clause) (k : ℕ) (d : Tree) → holds is_param args ≡ false → k < length (map (put-into ts args) ws)
    → holds is_param (get_or (map (put-into ts args) ws) k d).children ≡ false
bound-free ts args ws k d a l =
    let t = get_or (map (put-into ts args) ws) k d in
    let all = All-get_or (λ (u : Tree). holds is_param (alone u) ≡ false) (map (put-into ts args) ws) k d l
    (each-unmarked is_param (put-into ts args) ws (λ i e m. put-parameterless args (clause_tree ts (get_or ws i e)) a)) in
    (holds_parts is_param t.head t.children none all).under

-- the rule of a bound
abbrev pub bound_rule : {G : Type 0} → KindRules G → Context → G → AliasBoundKind → Tree → Rule
bound_rule K c g b t = match_rule K c g t [] (ask (AliasBound b) Yes)

-- the rules of the bounds that were read
pub bound-rules-read : {G : Type 0} (K : KindRules G) (c : Context) (g : G) (b : AliasBoundKind) (a : AliasTy) → IsArgs c.trees a.args
    → bound_rules K c g b (kind_tree c.trees (TK.Alias a)) ≡ map (bound_rule K c g b) (map (put-into c.trees (args_forest c.trees a.args)) (bounds_of_kind c b a.id.0))
bound-rules-read K c g b a is =
    ap (λ (ts : Forest). map (bound_rule K c g b) (map (put-into c.trees ts) (bounds_of_kind c b a.id.0))) (row-list c.trees a.args.0 ArgumentsKind none refl refl is ∙ join-none (args_forest c.trees a.args))

-- What is judged later of a clause that is matched, by other words for its parts, is what is judged of it at the first state.
pub matched-judged : {G F : Type 0} (K : KindRules G) (judge : F → Judge) (f h : F) → ((x : F) → JudgesAlike (judge x)) → ((n : ℕ) (g : G) (t : Tree) → IsBelow n (K.trees_of g) → IsBelow n (alone t) → StepsBelow n (K.match_steps g t))
    → (old now : Context) (S T : State) (g d : G) (s : CandidateSource) (sure : Certainty) (t u : Tree) → h ≡ f → d ≡ g → u ≡ t → ((x : Head) → K.fits now g x ≡ K.fits old g x) → (judge f).alike S T → GoalBelow K (length S.variables) g
    → IsBelow (length S.variables) (alone t) → judged (judge h) T (match_rule K now d u [] (ask s sure)) ≡ judged (judge f) S (match_rule K old g t [] (ask s sure))
matched-judged K judge f h law matches old now S T g d s sure t u same seen is fits a below there =
    ap (λ z. judged (judge z) T (match_rule K now d u [] (ask s sure))) same
    ∙ (ap (judged (judge f) T) (rule-moved K old now g d t u [] (ask s sure) (ask s sure) seen is fits refl)
    ∙ judged-alike (judge f) (law f) S T (match_rule K old g t [] (ask s sure)) a (record {
      env = below.env;
      steps = steps-joined (length S.variables) (K.match_steps g t) [] (matches (length S.variables) g t below.trees there) tt;
      ending = tt;
    }))

-- so is that of a bound
pub bound-judged : {G F : Type 0} (K : KindRules G) (judge : F → Judge) (f h : F) → ((x : F) → JudgesAlike (judge x)) → ((n : ℕ) (g : G) (t : Tree) → IsBelow n (K.trees_of g) → IsBelow n (alone t) → StepsBelow n (K.match_steps g t))
    → (old now : Context) (S T : State) (g d : G) (b : AliasBoundKind) (t u : Tree) → h ≡ f → d ≡ g → u ≡ t → ((x : Head) → K.fits now g x ≡ K.fits old g x) → (judge f).alike S T → GoalBelow K (length S.variables) g → IsBelow (length S.variables) (alone t)
    → judged (judge h) T (bound_rule K now d b u) ≡ judged (judge f) S (bound_rule K old g b t)
bound-judged K judge f h law matches old now S T g d b t u same seen is fits a below there = matched-judged K judge f h law matches old now S T g d (AliasBound b) Yes t u same seen is fits a below there

-- Nodes are made before rules are listed: none is yet, and the state is the same.
module _ {E X : Type 0} {fixed : E → X} {judge : X → Judge} {state : E → State} {probes : E → List State} {context : E → Context} (law : (f : X) → JudgesAlike (judge f)) where
  pub none-listed-after : (first mid : E) (before : List OfNumbers) → AreCandidates (context first).trees before → Keeps fixed probes context first mid → state mid ≡ state first
      → ListedSoFar fixed judge state probes context first mid before before []
  none-listed-after first mid before fit kept rests =
      let k = candidates-kept (context first) (context mid) before kept.grows fit in
      record {
        kept = kept;
        alike = subst (λ (x : State). (judge (fixed first)).alike (state first) x) (sym rests) ((law (fixed first)).alike_same (state first));
        fits = k.0;
        whole = ap Lists (k.1 ∙ sym (append-nil (candidates_of (context first).trees before)));
      }

  pub not-made-listed : {stops : Account E} {A : Type 0} (first mid : E) {left : A → List OfNumbers} {R : Listed → Type 0} (result : Result A Stop) (z : Stop) → result ≡ Err z → IsUnmade (context first) (context mid) z → Keeps fixed probes context first mid → state mid ≡ state first
      → ConsidersAll fixed judge state probes context stops first mid (state first) left R result
  not-made-listed first mid result z is m kept rests = rw is (record {
    kept = kept;
    alike = subst (λ (x : State). (judge (fixed first)).alike (state first) x) (sym rests) ((law (fixed first)).alike_same (state first));
    told = record { ok = tt; fits = tt; stopped = λ other. absurd (not-both (is_evaluator_stop z) (unmade-own z m) other) };
    cause = made-here m;
  })
