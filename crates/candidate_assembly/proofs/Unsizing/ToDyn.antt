-- The rule by which a type becomes a `dyn` type, and that there is none or one that doesn't apply.
use Rattle.std.proofs.Common.{◌≡◌, Bool, true, false, Option, Some, None, List, [], ◌∷◌, Result, Ok, refl, sym, ap, subst, ◌∙◌}
use Rattle.std.specs.Prelude.{IfSome, if◌then◌else◌}
use Rattle.ir_trees.specs.declared.decl.contents.LangItem.TheVariants as L
use Rattle.ir_trees.specs.declared.ir.kinds.TraitId.{TraitId}
use Rattle.ir_trees.specs.declared.ir.kinds.Ty.{Ty}
use Rattle.ir_trees.specs.declared.ir.stop.Stop.{Stop}
use Rattle.ir_trees.specs.Declarations.Context.{Context, world}
use Rattle.ir_trees.specs.Syntax.Trees.{Tree}
use Rattle.ir_trees.specs.Syntax.Words.{ty_tree}
use Rattle.ir_trees.specs.Declarations.Worlds.{TraitSort, parameters}
use Rattle.candidate_eval.specs.declared.eval.certainty.Certainty.TheVariants.{Yes}
use Rattle.candidate_eval.specs.declared.eval.refusal.NoSolutionOrStop.{NoSolutionOrStop}
use Rattle.candidate_eval.specs.declared.eval.response.Candidate.{Candidate as OfNumbers}
use Rattle.candidate_eval.specs.Interface.Accounts.{Account}
use Rattle.candidate_eval.specs.Judges.Alike.{JudgesAlike}
use Rattle.candidate_eval.specs.Derivations.ImplRules.{TraitGoal}
use Rattle.candidate_eval.specs.Derivations.Judging.{Refused, comes_to, start}
use Rattle.candidate_eval.specs.Outcomes.ResponseTrees.{AreCandidates, candidates_of}
use Rattle.candidate_eval.specs.Derivations.Rules.{Rule, ask}
use Rattle.candidate_eval.specs.Judges.States.{Env, Judge, State}
use Rattle.candidate_assembly.specs.Rules.BuiltinRules.{misc}
use Rattle.candidate_assembly.specs.Rules.DynBounds.{is_compatible, principal_in}
use Rattle.candidate_assembly.specs.Answers.Listing.{Adds, ConsidersAll, Listed, Lists, answers, listed, together}
use Rattle.candidate_assembly.specs.Rules.Requirements.{requiring_rule}
use Rattle.candidate_assembly.specs.Answers.Telling.{Considers}
use Rattle.candidate_assembly.specs.Goals.TraitGoals.{item_trait}
use Rattle.candidate_assembly.specs.Rules.Unsizing.{any_to_dyn, dyn_steps}
use Rattle.candidate_assembly.proofs.Calls.Considering.{considers-same}
use Rattle.candidate_assembly.proofs.Lists.Listing.{no-rule-listed, one-listed, whole_list}

-- the rule, where it applies or not
abbrev pub dyn-rule : Bool → Env → TraitId → Tree → Tree → Rule
dyn-rule b e sized from to = record { env = e; applies = b; steps = dyn_steps sized from to; ending = ask misc Yes }

-- What was read of a context that is this one.

pub no-some : {A : Type 0} (o : Option A) → ((x : A) → o ≡ Some x → ⊥) → o ≡ None
no-some None n = refl
no-some (Some x) n = absurd (n x refl)

pub sized-read : (seen old : Context) (o : Option TraitId) (i : TraitId) → seen ≡ old → o ≡ item_trait seen L.Sized → o ≡ Some i → item_trait old L.Sized ≡ Some i
sized-read seen old o i this e is = subst (λ (x : Context). item_trait x L.Sized ≡ Some i) this (sym e ∙ is)

pub no-sized-read : (seen old : Context) (o : Option TraitId) → seen ≡ old → o ≡ item_trait seen L.Sized → ((i : TraitId) → o ≡ Some i → ⊥) → item_trait old L.Sized ≡ None
no-sized-read seen old o this e n = subst (λ (x : Context). item_trait x L.Sized ≡ None) this (sym e ∙ no-some o n)

pub compatible-read : (seen old : Context) (t : Ty) (b flag : Bool) → seen ≡ old → b ≡ is_compatible seen (principal_in (ty_tree seen.trees t)) → b ≡ flag → is_compatible old (principal_in (ty_tree old.trees t)) ≡ flag
compatible-read seen old t b flag this e is = subst (λ (x : Context). is_compatible x (principal_in (ty_tree x.trees t)) ≡ flag) this (sym e ∙ is)

pub no-parameters-read : (seen old : Context) (i : TraitId) → seen ≡ old → IfSome (item_trait seen L.Sized) (λ (i : TraitId). parameters (world seen) TraitSort i.0 ≡ Some []) → item_trait old L.Sized ≡ Some i
    → parameters (world old) TraitSort i.0 ≡ Some []
no-parameters-read seen old i this h is =
    let has = subst (λ (x : Context). IfSome (item_trait x L.Sized) (λ (i : TraitId). parameters (world x) TraitSort i.0 ≡ Some [])) this h in
    subst (λ (o : Option TraitId). IfSome o (λ (i : TraitId). parameters (world old) TraitSort i.0 ≡ Some [])) is has

-- No rule, or one that doesn't apply, adds nothing.

pub without-sized : (J : Judge) (S : State) (c : Context) (g : TraitGoal) (from to : Tree) (o : Option TraitId) → o ≡ None → Lists [] ≡ answers J S (any_to_dyn c g from to o)
without-sized J S c g from to o e = ap (λ x. answers J S (any_to_dyn c g from to x)) (sym e)

incompatible : (J : Judge) (S : State) (b : Bool) (e : Env) (sized : TraitId) (from to : Tree) → b ≡ false → Lists [] ≡ answers J S (dyn-rule b e sized from to ∷ [])
incompatible J S b e sized from to n =
    sym (ap (λ (x : Bool). together (listed (if x then comes_to J e (start S) (dyn_steps sized from to) (ask misc Yes) else Refused)) (Lists [])) n)

pub not-compatible : (J : Judge) (S : State) (c : Context) (g : TraitGoal) (from to : Tree) (o : Option TraitId) (sized : TraitId) → o ≡ Some sized → is_compatible c (principal_in to) ≡ false
    → Lists [] ≡ answers J S (any_to_dyn c g from to o)
not-compatible J S c g from to o sized e n =
    incompatible J S (is_compatible c (principal_in to)) g.env sized from to n ∙ ap (λ x. answers J S (any_to_dyn c g from to x)) (sym e)

module _ {E X : Type 0} {fixed : E → X} {judge : X → Judge} {state : E → State} {probes : E → List State} {context : E → Context} {stops : Account E} (law : (f : X) → JudgesAlike (judge f)) where
  pub nothing-listed : {A : Type 0} (first : E) (before : List OfNumbers) (x : A) (rules : List Rule) → AreCandidates (context first).trees before → Lists [] ≡ answers (judge (fixed first)) (state first) rules
      → ConsidersAll fixed judge state probes context stops first first (state first) (λ _. before) (whole_list fixed judge state context first before rules) (Ok x)
  nothing-listed first before x rules fit e =
      let s = no-rule-listed {fixed = fixed} {judge = judge} {state = state} {probes = probes} {context = context} {stops = stops} law first before x fit in
      record {
        kept = s.kept;
        alike = s.alike;
        told = record { ok = s.told.ok ∙ ap (λ (l : Listed). together (Lists (candidates_of (context first).trees before)) l) e; fits = fit; stopped = tt };
        cause = tt;
      }

  -- The rule was considered, and its answer added.
  pub dyn-listed : {A : Type 0} (first new : E) (before items : List OfNumbers) (c : Context) (g : TraitGoal) (from to : Tree) (o : Option TraitId) (sized : TraitId) (answer : Result OfNumbers NoSolutionOrStop) (result : Result A Stop)
      → AreCandidates (context first).trees before → o ≡ Some sized → is_compatible c (principal_in to) ≡ true
      → Considers fixed judge state probes context stops first new (requiring_rule g.env (dyn_steps sized from to)) answer → Adds answer before items result
      → ConsidersAll fixed judge state probes context stops first new (state first) (λ _. items) (whole_list fixed judge state context first before (any_to_dyn c g from to o)) result
  dyn-listed first new before items c g from to o sized answer result fit e applied told adds =
      let rule = dyn-rule (is_compatible c (principal_in to)) g.env sized from to in
      let same : requiring_rule g.env (dyn_steps sized from to) ≡ rule = ap (λ b. dyn-rule b g.env sized from to) (sym applied) in
      subst (λ (x : Option TraitId). ConsidersAll fixed judge state probes context stops first new (state first) (λ _. items) (whole_list fixed judge state context first before (any_to_dyn c g from to x)) result) (sym e)
      (one-listed law first new before items rule answer result fit (considers-same first new rule (requiring_rule g.env (dyn_steps sized from to)) answer same told) adds)
