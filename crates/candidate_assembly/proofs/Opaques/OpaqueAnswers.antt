-- What a goal comes to whose self type is a general variable, by the opaque types that were found.
use Rattle.std.proofs.Common.{◌≡◌, arith, false, length, suc, true, ◌==◌, List, [], ◌∷◌, ◌++◌, refl, sym, ap, subst, ◌∙◌, Result, Err}
use Rattle.std.specs.List.{flat_map}
use Rattle.std.proofs.lemmas.Bool.{eqb-true}
use Rattle.std.proofs.lemmas.List.Elements.{All-cons, All-nil}
use Rattle.ir_trees.specs.declared.ir.kinds.AliasTy.{AliasTy}
use Rattle.ir_trees.specs.declared.ir.stop.Stop.{Stop}
use Rattle.ir_trees.specs.Declarations.Context.{Context}
use Rattle.ir_trees.specs.Syntax.Trees.{Tree}
use Rattle.candidate_eval.specs.declared.eval.certainty.Certainty.{Certainty}
use Rattle.candidate_eval.specs.declared.eval.certainty.Certainty.TheVariants.{Maybe}
use Rattle.candidate_eval.specs.declared.eval.certainty.MaybeCause.TheVariants.{Ambiguity}
use Rattle.candidate_eval.specs.declared.eval.certainty.OpaqueTypesJank.TheVariants.{ErrorIfRigidSelfTy}
use Rattle.candidate_eval.specs.declared.eval.response.Candidate.{Candidate as OfNumbers}
use Rattle.candidate_eval.specs.Interface.Accounts.{Account}
use Rattle.candidate_eval.specs.Judges.Alike.{JudgesAlike, LooksAlike}
use Rattle.candidate_eval.specs.Outcomes.Certainties.{AMBIGUOUS}
use Rattle.candidate_eval.specs.Interface.Evaluators.{Keeps, alias_trees}
use Rattle.candidate_eval.specs.Interface.Knowing.{is_evaluator_stop}
use Rattle.candidate_eval.specs.Derivations.Mentions.{IsBelow, RuleBelow}
use Rattle.candidate_eval.specs.Outcomes.ResponseTrees.{AreCandidates, candidates_of}
use Rattle.candidate_eval.specs.Judges.States.{Env, Judge, State}
use Rattle.candidate_eval.proofs.Marks.Marking.{below-more}
use Rattle.candidate_assembly.specs.declared.assembly.opaques.AssembleCandidatesFrom.{AssembleCandidatesFrom}
use Rattle.candidate_assembly.specs.Goals.Kinds.{GoalBelow, KindRules, self_type}
use Rattle.candidate_assembly.specs.Answers.Listing.{ConsidersAll, Listed, Lists, Stops, after_list, after_these, answers}
use Rattle.candidate_assembly.specs.Rules.Opaques.{by_opaques, hidden_behind, opaque_rules, open_impl_rules, or_rigid, variable_answers}
use Rattle.candidate_assembly.specs.Answers.Telling.{StopsOfItself, asking_rule}
use Rattle.candidate_assembly.proofs.Aliases.AliasChains.{answers-alike, no-fewer}
use Rattle.candidate_assembly.proofs.Aliases.Chains.{together-empty}
use Rattle.candidate_assembly.proofs.Calls.Considering.{not-both}
use Rattle.candidate_assembly.proofs.Opaques.OpaqueLists.{like-first, moved-back}

-- a list with nothing in it
pub none-there : (ts : List Tree) (xs : List OfNumbers) → xs ≡ [] → AreCandidates ts xs
none-there ts xs e = subst (AreCandidates ts) (sym e) (λ k d l. absurd (omega (arith, l)))

pub from-none : (ts : List Tree) (xs : List OfNumbers) (l : Listed) → xs ≡ [] → after_these ts xs l ≡ l
from-none ts xs l e = ap (λ (ys : List OfNumbers). after_these ts ys l) e ∙ together-empty l

-- Lists that are empty, as they were tested.

pub empty-is : {X : Type 0} (xs : List X) → (length xs == 0) ≡ true → xs ≡ []
empty-is [] e = refl
empty-is (x ∷ xs) e = let z = eqb-true (suc (length xs)) 0 e in absurd (omega (arith, z))

pub not-empty : {X : Type 0} (xs : List X) → (length xs == 0) ≡ false → xs ≡ [] → ⊥
not-empty [] e n = absurd cc
not-empty (x ∷ xs) e n = absurd cc

pub no-trees : (ts : List Tree) (xs : List AliasTy) → (length xs == 0) ≡ true → alias_trees ts xs ≡ []
no-trees ts xs e = ap (alias_trees ts) (empty-is xs e)

pub some-trees : (ts : List Tree) (xs : List AliasTy) → (length xs == 0) ≡ false → alias_trees ts xs ≡ [] → ⊥
some-trees ts [] e n = absurd cc
some-trees ts (x ∷ xs) e n = absurd cc

-- The goal mentions no other variables than those of a state that is alike.
pub below-later : {G : Type 0} (K : KindRules G) (S T : State) (g d : G) → LooksAlike S T → d ≡ g → GoalBelow K (length S.variables) g → GoalBelow K (length T.variables) d
below-later K S T g d a same b =
    let more = no-fewer S T a in
    subst (GoalBelow K (length T.variables)) (sym same)
    (record { env = below-more (length S.variables) (length T.variables) (K.env_of g) more b.env; trees = below-more (length S.variables) (length T.variables) (K.trees_of g) more b.trees })

module _ {G : Type 0} (K : KindRules G) (J : Judge) (c : Context) (S : State) (g : G) (from : AssembleCandidatesFrom) (us : List Tree) (are : us ≡ hidden_behind J S (self_type K c g) S.mode) where
  found : variable_answers K J c S g from ≡ by_opaques K J c S g from us
  found = ap (by_opaques K J c S g from) (sym are)

  -- no opaque type may be hidden
  pub none-found : us ≡ [] → answers J S (asking_rule (K.env_of g) true AMBIGUOUS ∷ []) ≡ variable_answers K J c S g from
  none-found e = sym (found ∙ ap (by_opaques K J c S g from) e)

  abbrev pub said-answers : Listed
  said-answers = answers J S (flat_map (opaque_rules K c g) us ++ open_impl_rules K J c S.mode g from)

  -- one may be
  some-found : (us ≡ [] → ⊥) → variable_answers K J c S g from ≡ after_list said-answers (or_rigid K J c S g)
  some-found n = found ∙ of us n
    where
      of : (vs : List Tree) → (vs ≡ [] → ⊥) → by_opaques K J c S g from vs ≡ after_list (answers J S (flat_map (opaque_rules K c g) vs ++ open_impl_rules K J c S.mode g from)) (or_rigid K J c S g)
      of [] m = absurd (m refl)
      of (v ∷ vs) m = refl

  pub said-stops : (us ≡ [] → ⊥) → (z : Stop) → Stops z ≡ said-answers → Stops z ≡ variable_answers K J c S g from
  said-stops n z e = sym (some-found n ∙ ap (λ l. after_list l (or_rigid K J c S g)) (sym e))

  -- They say something,
  pub said-something : (us ≡ [] → ⊥) → (vs : List Tree) (xs : List OfNumbers) → (xs ≡ [] → ⊥) → Lists (candidates_of vs xs) ≡ said-answers → Lists (candidates_of vs xs) ≡ variable_answers K J c S g from
  said-something n vs [] m e = absurd (m refl)
  said-something n vs (x ∷ xs) m e = sym (some-found n ∙ ap (λ l. after_list l (or_rigid K J c S g)) (sym e))

  -- or nothing.
  pub said-nothing : (us ≡ [] → ⊥) → (vs : List Tree) (xs : List OfNumbers) → xs ≡ [] → Lists (candidates_of vs xs) ≡ said-answers
      → answers J S (asking_rule (K.env_of g) true (Maybe (record { cause = Ambiguity; opaque_types_jank = ErrorIfRigidSelfTy })) ∷ []) ≡ variable_answers K J c S g from
  said-nothing n vs [] z e = sym (some-found n ∙ ap (λ l. after_list l (or_rigid K J c S g)) (sym e))
  said-nothing n vs (x ∷ xs) z e = absurd cc

module _ {E X : Type 0} {fixed : E → X} {judge : X → Judge} {state : E → State} {probes : E → List State} {context : E → Context} {stops : Account E} (law : (f : X) → JudgesAlike (judge f)) where
  -- Nothing was listed, since the evaluator stopped of itself.
  pub not-found : {A : Type 0} {left : A → List OfNumbers} {R : Listed → Type 0} (first mid : E) (result : Result A Stop) (z : Stop) → result ≡ Err z → Keeps fixed probes context first mid → state mid ≡ state first → is_evaluator_stop z ≡ true
      → StopsOfItself fixed context state stops first mid z → ConsidersAll fixed judge state probes context stops first mid (state first) left R result
  not-found first mid result z is kept rests own why = rw is (record {
    kept = kept;
    alike = like-first fixed judge state law first mid rests;
    told = record { ok = tt; fits = tt; stopped = λ other. absurd (not-both (is_evaluator_stop z) own other) };
    cause = why;
  })

  -- The one candidate that asks at once, at a state that is alike and in other words for the environment.
  pub asked-back : {A : Type 0} {left : A → List OfNumbers} {Q : Listed → Type 0} (first mid new : E) (e f : Env) (sure : Certainty) (result : Result A Stop) → Keeps fixed probes context first mid → (judge (fixed first)).alike (state first) (state mid) → f ≡ e
      → IsBelow (length (state first).variables) e → ((l : Listed) → l ≡ answers (judge (fixed first)) (state first) (asking_rule e true sure ∷ []) → Q l)
      → ConsidersAll fixed judge state probes context stops mid new (state mid) left (λ l. l ≡ answers (judge (fixed mid)) (state mid) (asking_rule f true sure ∷ [])) result
      → ConsidersAll fixed judge state probes context stops first new (state first) left Q result
  asked-back first mid new e f sure result kept like is below weaker c =
      let n = length (state first).variables in
      let r = asking_rule e true sure in
      let same = answers-alike (judge (fixed first)) (law (fixed first)) (state first) (state mid) (r ∷ []) like (All-cons (RuleBelow n) r [] (record { env = below; steps = tt; ending = tt }) (All-nil (RuleBelow n))) in
      moved-back law first mid new result kept like
      (λ l h.
      weaker l
      (h
      ∙ (ap (λ j. answers (judge j) (state mid) (asking_rule f true sure ∷ [])) kept.fixed_same
      ∙ (ap (λ x. answers (judge (fixed first)) (state mid) (asking_rule x true sure ∷ [])) is ∙ same)))) c
