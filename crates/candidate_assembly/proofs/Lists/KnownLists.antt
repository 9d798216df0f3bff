-- All candidates but for what is unknowable, exit by exit: as an earlier context has them, at a state alike the one that is there.
use Rattle.std.proofs.Common.{◌≡◌, ℕ, false, sym, ap, subst, ◌∙◌, List, [], length, Result, Ok, Err}
use Rattle.ir_trees.specs.declared.ir.kinds.Args.{Args}
use Rattle.ir_trees.specs.declared.ir.kinds.ParamEnv.{ParamEnv}
use Rattle.ir_trees.specs.declared.ir.kinds.Ty.{Ty}
use Rattle.ir_trees.specs.declared.ir.stop.Stop.{Stop}
use Rattle.ir_trees.specs.Declarations.Context.{Context, Grows}
use Rattle.ir_trees.specs.Validity.WellFormed.{IsWellFormedTable}
use Rattle.ir_trees.specs.Syntax.Trees.{Tree, holds, is_param}
use Rattle.ir_trees.specs.Syntax.Words.{env_forest}
use Rattle.ir_trees.proofs.Growth.Kept.{grows-trans}
use Rattle.candidate_eval.specs.declared.eval.response.Candidate.{Candidate as OfNumbers}
use Rattle.candidate_eval.specs.Interface.Accounts.{Account}
use Rattle.candidate_eval.specs.Judges.Alike.{JudgesAlike}
use Rattle.candidate_eval.specs.Interface.Evaluators.{KeepsBut}
use Rattle.candidate_eval.specs.Outcomes.ResponseTrees.{AreCandidates, candidates_of}
use Rattle.candidate_eval.specs.Outcomes.Responses.{Candidate}
use Rattle.candidate_eval.specs.Judges.States.{Judge, State}
use Rattle.candidate_eval.proofs.Interface.Accounts.{reaches}
use Rattle.candidate_eval.proofs.Interface.Probing.{keeps-as, then-keeps}
use Rattle.candidate_assembly.specs.declared.assembly.opaques.AssembleCandidatesFrom.{AssembleCandidatesFrom}
use Rattle.candidate_assembly.proofs.Aliases.AliasWalks.{first-put-off}
use Rattle.candidate_assembly.specs.Rules.AliasBounds.{ChainComes, ChainEnd}
use Rattle.candidate_assembly.specs.Rules.AliasFaults.{ChainEnds, PutsOffAtEnd, PutsOffOnce}
use Rattle.candidate_assembly.specs.Calls.AliasChains.{ChainFollows}
use Rattle.candidate_assembly.specs.Answers.Assembled.{AfterWhereBounds, AllKnown, where_rules}
use Rattle.candidate_assembly.specs.Calls.Assembling.{ListsKnown, WasAsked}
use Rattle.candidate_assembly.specs.Calls.Earlier.{AtEachEarlier}
use Rattle.candidate_assembly.specs.Goals.KindBounds.{KindBounds}
use Rattle.candidate_assembly.specs.Goals.KindLaws.{KindLaws}
use Rattle.candidate_assembly.specs.Goals.Kinds.{IsGoal, KindRules, SaysTheSame}
use Rattle.candidate_assembly.specs.Answers.Listing.{ConsidersAll, ConsidersAllBut, GoesOn, Listed, Lists, Stops, after_these, answers, lists, stops as none_follow, together}
use Rattle.candidate_assembly.specs.Goals.Standing.{GoalIsValid}
use Rattle.candidate_assembly.proofs.Aliases.AliasChains.{alike-then, list-as}
use Rattle.candidate_assembly.proofs.Lists.AssembledLists.{list-goes-on}
use Rattle.candidate_assembly.proofs.Lists.AssembledBack.{MovesOn, builtins-before, fits-before, further-back, where-back}
use Rattle.candidate_assembly.proofs.Calls.Causes.{later, so-err}
use Rattle.candidate_assembly.proofs.Aliases.Chains.{together-empty}

-- At one context: the chain was walked at a state alike.
module _ {G : Type 0} (K : KindRules G) (B : KindBounds G) (c : Context) (J : Judge) (S : State) (g : G) (from : AssembleCandidatesFrom) (law : JudgesAlike J) (T : State) (like : J.alike S T) where
  abbrev Follows : List Candidate → Listed → Type 0
  Follows xs l = AfterWhereBounds K B c J S g xs from l

  abbrev by-where : Listed
  by-where = answers J S (where_rules K c g)

  nearer : (l : Listed) → ChainComes K B.additional J c g T l → ChainComes K B.additional J c g S l
  nearer l ch = record { at = ch.at; alike = law.alike_along S T ch.at like ch.alike; aliases = ch.aliases; is_chain = ch.is_chain; is = ch.is }

  -- what is known, where what follows does so from the chain's list
  known : (a l : Listed) → ChainFollows K B.additional J c g T [] a → GoesOn Follows (together a by-where) l → AllKnown K B c J S g from l
  known a l f goes = record {
    by_aliases = f.by_aliases;
    chain = nearer f.by_aliases f.chain;
    further = subst (λ b. GoesOn Follows (together b by-where) l) (f.is ∙ together-empty f.by_aliases) goes;
  }

  pub chain-stops : (z : Stop) → ChainFollows K B.additional J c g T [] (Stops z) → AllKnown K B c J S g from (Stops z)
  chain-stops z f = known (Stops z) (Stops z) f none_follow

  pub clause-stops : (xs : List Candidate) (w : Listed) (z : Stop) → w ≡ by-where → ChainFollows K B.additional J c g T [] (Lists xs) → Stops z ≡ together (Lists xs) w → AllKnown K B c J S g from (Stops z)
  clause-stops xs w z same f is = known (Lists xs) (Stops z) f (subst (λ a. GoesOn Follows a (Stops z)) (is ∙ ap (together (Lists xs)) same) none_follow)

  pub then-further : (xs ys : List Candidate) (w l : Listed) → w ≡ by-where → ChainFollows K B.additional J c g T [] (Lists xs) → Lists ys ≡ together (Lists xs) w → AfterWhereBounds K B c J S g ys from l → AllKnown K B c J S g from l
  then-further xs ys w l same f is h = known (Lists xs) l f (subst (λ a. GoesOn Follows a l) (is ∙ ap (together (Lists xs)) same) (lists h))

module _ {E X G P : Type 0} (fixed : E → X) (judge : X → Judge) (state : E → State) (probes : E → List State) (context : E → Context) (stops : Account E)
    {K : KindRules G} {B : KindBounds G} {arguments : P → Args} {types : P → List Ty} {see : List Tree → ParamEnv → P → G} (law : (f : X) → JudgesAlike (judge f)) (laws : KindLaws K B arguments types see)
    (stays : (old new : Context) (env : ParamEnv) (p : P) → Grows old new → IsGoal K arguments types see old env p → SaysTheSame K see old new env p)
    (first : E) (env : ParamEnv) (p : P) (from : AssembleCandidatesFrom) (table : IsWellFormedTable (context first)) (goal : IsGoal K arguments types see (context first) env p) where
  abbrev asked : G
  asked = see (context first).trees env p

  abbrev Earlier : Context → State → Type 0
  Earlier c S = WasAsked K (judge (fixed first)) c (context first) S (state first) asked

  -- how the chain ends
  abbrev EndsSo : ChainEnd → Type 0
  EndsSo = ChainEnds K (judge (fixed first)) (context first) asked (state first)

  abbrev Chained : {A : Type 0} → E → List OfNumbers → Result A Stop → Type 0
  Chained mid xs answer = ConsidersAllBut (PutsOffAtEnd EndsSo answer) fixed judge state probes context stops first mid (state first) (λ _. xs) (AtEachEarlier (context first) (λ c. ChainFollows K B.additional (judge (fixed first)) c asked (state first) [])) answer

  abbrev IsKnown : {A : Type 0} → E → (A → List OfNumbers) → Result A Stop → Type 0
  IsKnown new items answer = ListsKnown fixed judge state probes context stops K B see first new env p from items answer

  -- the answers by clauses of the environment, where the evaluator is
  abbrev where-at : E → Listed
  where-at x = answers (judge (fixed x)) (state x) (where_rules K (context x) (see (context x).trees env p))

  -- what follows there
  abbrev FollowsAt : E → List OfNumbers → Listed → Type 0
  FollowsAt x ys l = AfterWhereBounds K B (context x) (judge (fixed x)) (state x) (see (context x).trees env p) (candidates_of (context x).trees ys) from l

  moved : {P : List (List ℕ) → List (List ℕ) → Type 0} (mid : E) → KeepsBut P fixed probes context first mid → (judge (fixed first)).alike (state first) (state mid) → (c : Context) (S : State) → Earlier c S
      → MovesOn K (judge (fixed first)) c (context mid) S (state mid) asked (see (context mid).trees env p)
  moved mid kept like c S w =
      record {
        law = law (fixed first);
        table = w.earlier.table;
        grows = grows-trans c (context first) (context mid) w.earlier.grows kept.grows;
        fits = fits-before laws c (context first) env p w.earlier table goal;
        same_goal = (stays (context first) (context mid) env p kept.grows goal).seen;
        alike = (law (fixed first)).alike_along S (state first) (state mid) w.alike like;
        below = w.below;
        builtins = builtins-before laws c (context first) env p w.earlier table goal (length S.variables) w.below;
      }

  -- Where both lists are there, one after the other.
  pub both-there : {A C : Type 0} {P : List (List ℕ) → List (List ℕ) → Type 0} {left : C → List OfNumbers} {R Q : Listed → Type 0} (mid next : E) (xs : List OfNumbers) (x : A) (result : Result C Stop) → ConsidersAllBut {A = A} P fixed judge state probes context stops first mid (state first) (λ _. xs) R (Ok x)
      → ConsidersAll fixed judge state probes context stops mid next (state mid) left Q result → ConsidersAllBut P fixed judge state probes context stops first next (state first) left Q result
  both-there mid next xs x result f d = list-goes-on law first mid next xs x result f (λ l r. r) d

  -- The list was empty before.
  pub from-nothing : {A : Type 0} (mid : E) (before xs : List OfNumbers) (answer : Result A Stop) → before ≡ []
      → ConsidersAllBut (PutsOffAtEnd EndsSo answer) fixed judge state probes context stops first mid (state first) (λ _. xs)
      (AtEachEarlier (context first) (λ c. ChainFollows K B.additional (judge (fixed first)) c asked (state first) (candidates_of (context first).trees before))) answer
      → Chained mid xs answer
  from-nothing mid before xs answer is f =
      subst (λ ys. ConsidersAllBut (PutsOffAtEnd EndsSo answer) fixed judge state probes context stops first mid (state first) (λ _. xs) (AtEachEarlier (context first) (λ c. ChainFollows K B.additional (judge (fixed first)) c asked (state first) (candidates_of (context first).trees ys))) answer) is f

  -- The chain stops.
  pub known-chain-stops : {A C : Type 0} {items : C → List OfNumbers} (mid : E) (xs : List OfNumbers) (z : Stop) (result : Result C Stop) → result ≡ Err z → Chained {A = A} mid xs (Err z) → IsKnown mid items result
  known-chain-stops mid xs z result is f = rw is (record {
    kept = keeps-as fixed probes context first mid (λ us vs e. record { once = PutsOffOnce.none e.stopped; ok = tt }) f.kept;
    alike = f.alike;
    told = λ c S w. record { ok = tt; fits = tt; stopped = λ own. chain-stops K B c (judge (fixed first)) S asked from (law (fixed first)) (state first) w.alike z (f.told.stopped own c w.earlier) };
    cause = f.cause;
  })

  module _ {A : Type 0} (mid : E) (xs : List OfNumbers) (x : A) (f : Chained {A = A} mid xs (Ok x)) where
    same-where : (c : Context) (S : State) → Earlier c S → where-at mid ≡ answers (judge (fixed first)) S (where_rules K c asked)
    same-where c S w =
        ap (λ j. answers (judge j) (state mid) (where_rules K (context mid) (see (context mid).trees env p))) f.kept.fixed_same ∙ where-back K B laws (moved mid f.kept f.alike c S w)

    -- A clause of the environment stops.
    pub known-clause-stops : {C D : Type 0} {left : C → List OfNumbers} {items : D → List OfNumbers} (new : E) (z : Stop) (result : Result D Stop) → result ≡ Err z
        → ConsidersAll fixed judge state probes context stops mid new (state mid) left (λ l. l ≡ after_these (context mid).trees xs (where-at mid)) (Err z) → IsKnown new items result
    known-clause-stops new z result is d = rw is (record {
      kept = then-keeps fixed probes context first mid new (λ us vs e. first-put-off (Err z) us vs e.ok) f.kept d.kept;
      alike = alike-then judge law (fixed first) (fixed mid) (state first) (state mid) (state new) f.kept.fixed_same f.alike d.alike;
      told = λ c S w. record {
        ok = tt;
        fits = tt;
        stopped = λ own. clause-stops K B c (judge (fixed first)) S asked from (law (fixed first)) (state first) w.alike (candidates_of (context mid).trees xs) (where-at mid) z (same-where c S w) (f.told.ok c w.earlier) (d.told.stopped own);
      };
      cause = later (reaches f.kept) d.cause;
    })

    -- What follows is listed, or stops.
    pub known-further : {C D : Type 0} {items : D → List OfNumbers} (next new : E) (ys : List OfNumbers) (y : C) (result : Result D Stop)
        → ConsidersAll {A = C} fixed judge state probes context stops mid next (state mid) (λ _. ys) (λ l. l ≡ after_these (context mid).trees xs (where-at mid)) (Ok y)
        → ConsidersAll fixed judge state probes context stops next new (state next) items (FollowsAt next ys) result → IsKnown new items result
    known-further {items = items} next new ys y result d h =
        let J = judge (fixed first) in
        let kept = then-keeps fixed probes context first mid next (λ us vs e. e) f.kept d.kept in
        let like = alike-then judge law (fixed first) (fixed mid) (state first) (state mid) (state next) f.kept.fixed_same f.alike d.alike in
        record {
          kept = then-keeps fixed probes context first next new (λ us vs e. first-put-off result us vs e.ok) kept h.kept;
          alike = alike-then judge law (fixed first) (fixed next) (state first) (state next) (state new) kept.fixed_same like h.alike;
          told = λ c S w. list-as items (context new).trees result (λ l e.
              then-further K B c (judge (fixed first)) S asked from (law (fixed first)) (state first) w.alike (candidates_of (context mid).trees xs) (candidates_of (context next).trees ys) (where-at mid) l (same-where c S w) (f.told.ok c w.earlier) d.told.ok
              (further-back K B laws (moved next kept like c S w) (candidates_of (context next).trees ys) from l
              (subst (λ j. AfterWhereBounds K B (context next) j (state next) (see (context next).trees env p) (candidates_of (context next).trees ys) from l) (ap judge kept.fixed_same) e))) h.told;
          cause = so-err result (λ z. later (reaches kept)) h.cause;
        }

-- no parameter stands in the environment of a goal that stands
pub env-free : {G P : Type 0} (K : KindRules G) (see : List Tree → ParamEnv → P → G) (ts : List Tree) (S : State) (env : ParamEnv) (p : P) → K.env_of (see ts env p) ≡ env_forest ts env → GoalIsValid K S (see ts env p)
    → holds is_param (env_forest ts env) ≡ false
env-free K see ts S env p given s = subst (λ e. holds is_param e ≡ false) given s.env_free

module _ {E X : Type 0} {fixed : E → X} {judge : X → Judge} {state : E → State} {probes : E → List State} {context : E → Context} {stops : Account E} where
  -- A list that was added to is answered.
  pub list-handed-on : {A C : Type 0} {P : List (List ℕ) → List (List ℕ) → Type 0} {R : Listed → Type 0} {items : C → List OfNumbers} (first new : E) (xs : List OfNumbers) (x : A) (y : C) → items y ≡ xs
      → ConsidersAllBut {A = A} P fixed judge state probes context stops first new (state first) (λ _. xs) R (Ok x) → ConsidersAllBut P fixed judge state probes context stops first new (state first) items R (Ok y)
  list-handed-on {R = R} first new xs x y is c = record {
    kept = c.kept;
    alike = c.alike;
    told = record {
      ok = subst (λ zs. R (Lists (candidates_of (context new).trees zs))) (sym is) c.told.ok;
      fits = subst (AreCandidates (context new).trees) (sym is) c.told.fits;
      stopped = tt;
    };
    cause = tt;
  }
