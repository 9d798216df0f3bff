-- What stands by the test of what is known is a valid goal of the state.
use Rattle.std.proofs.Common.{◌≡◌, ℕ, zero, suc, ◌≤◌, Bool, true, false, not, ◌&&◌, List, [], ◌∷◌, map, slice_get, Option, Some, None, refl, sym, ◌∙◌, ap, subst}
use Rattle.std.specs.Option.{option_map}
use Rattle.std.proofs.lemmas.Bool.{and_from, and_parts, not-true}
use Rattle.std.proofs.lemmas.Option.{slice_get-map}
use Rattle.ir_trees.specs.declared.ir.heads.Head.{Head}
use Rattle.ir_trees.specs.declared.ir.heads.Head.TheVariants as H
use Rattle.ir_trees.specs.declared.ir.heads.ConstHead.TheVariants as C
use Rattle.ir_trees.specs.declared.ir.kinds.RegionKind.TheVariants as R
use Rattle.ir_trees.specs.declared.ir.kinds.GenericArg.{GenericArg}
use Rattle.ir_trees.specs.Instantiation.Folds.{arg_tree}
use Rattle.ir_trees.specs.Syntax.Binders.{escapes}
use Rattle.ir_trees.specs.Syntax.Trees.{Forest, Tree, holds, is_param}
use Rattle.candidate_eval.specs.declared.eval.mode.TypingMode.{TypingMode}
use Rattle.candidate_eval.specs.declared.eval.variable.VariableKind.{VariableKind}
use Rattle.candidate_eval.specs.declared.eval.variable.VariableKind.TheVariants.{Term, Region}
use Rattle.candidate_eval.specs.Derivations.ImplRules.{TraitGoal}
use Rattle.candidate_eval.specs.Judges.Alike.{info}
use Rattle.candidate_eval.specs.Judges.Soundness.{is_strange}
use Rattle.candidate_eval.specs.Judges.States.{State, VariableInfo, has_kind, is_some, same_kind}
use Rattle.candidate_assembly.specs.Goals.Standing.{GoalIsValid}
use Rattle.candidate_assembly.specs.Goals.TraitRules.{trait_rules}
use Rattle.candidate_rounds.specs.declared.rounds.inference.Entry.{Entry}
use Rattle.candidate_rounds.specs.Calls.Standing.{free, is_free, is_free_as, is_strange_to, stands_at}
use Rattle.candidate_rounds.specs.Calls.Starting.{stand}
use Rattle.candidate_rounds.specs.Evaluators.Inferences.{Inference}
use Rattle.candidate_rounds.specs.Evaluators.Known.{Each, IsConsistent, info_of, state_of}
use Rattle.candidate_rounds.proofs.Snapshots.Holding.{tidy-now}

-- What is marked by what is known is what is strange to the state.

module _ (ts : List Tree) (m : TypingMode) (s : Inference) where
  abbrev S : State
  S = state_of ts m s

  no-more : (o : Option GenericArg) → not (is_some (option_map (arg_tree ts) o)) ≡ not (is_some o)
  no-more None = refl
  no-more (Some x) = refl

  free-as : (k : VariableKind) (o : Option Entry) → is_free_as k o ≡ is_free (option_map (info_of ts) o) && has_kind k (option_map (info_of ts) o)
  free-as k None = refl
  free-as k (Some e) = ap (λ b. b && same_kind e.kind k) (sym (no-more e.value))

  free-at : (k : VariableKind) (n : ℕ) → not (is_free_as k (slice_get s.variables n)) ≡ not (free S n && has_kind k (info S n))
  free-at k n =
      ap not (free-as k (slice_get s.variables n)
      ∙ ap (λ o. is_free o && has_kind k o) (sym (slice_get-map (info_of ts) s.variables n)))

  pub strange-same : (h : Head) → is_strange_to s h ≡ is_strange S (free S) h
  strange-same (H.Infer v) = free-at (Term v.sort) v.number
  strange-same (H.Region (R.Var n)) = free-at Region n
  strange-same (H.Placeholder p) = refl
  strange-same (H.Const (C.Placeholder p)) = refl
  strange-same (H.Region (R.Placeholder p)) = refl
  strange-same _ = refl

  pub stand-same : (f : Forest) → stand (is_strange_to s) f ≡ stand (is_strange S (free S)) f
  stand-same f = ap (λ (p : Head → Bool). stand p f) (λ i h. strange-same h i)

  -- no variable that counts has a value
  no-value : {A : Type 0} (n : ℕ) (i : VariableInfo) (t : Tree) → free S n ≡ true → info S n ≡ Some i → i.value ≡ Some t → A
  no-value n i t l e v = absurd (let clash : false ≡ true = sym (ap (λ o. not (is_some o)) v) ∙ (sym (ap is_free e) ∙ l) in cc)

  below : (u n : ℕ) (es : List Entry) (i : VariableInfo) → Each (λ (e : Entry). e.universe ≤ u) es → slice_get (map (info_of ts) es) n ≡ Some i → i.universe ≤ u
  below u n [] i h e = absurd cc
  below u zero (x ∷ xs) i h e = let f : info_of ts x ≡ i = cc in subst (λ (j : VariableInfo). j.universe ≤ u) f h.0
  below u (suc n) (x ∷ xs) i h e = below u n xs i h.1 e

  record Stands (f : Forest) : Type 0 where
    pub known : holds (is_strange S (free S)) f ≡ false
    pub is_closed : escapes 0 f ≡ false
    pub no_parameter : holds is_param f ≡ false

  of-stand : (f : Forest) → stand (is_strange S (free S)) f ≡ true → Stands f
  of-stand f e =
      let a = holds (is_strange S (free S)) f in
      let b = escapes 0 f in
      let d = holds is_param f in
      let p = and_parts (not a) (not b && not d) e in
      let q = and_parts (not b) (not d) p.1 in
      record { known = not-true a p.0; is_closed = not-true b q.0; no_parameter = not-true d q.1 }

  pub stands-valid : (ks : List ℕ) (g : TraitGoal) → IsConsistent ts s ks → stands_at S g ≡ true → GoalIsValid trait_rules S g
  stands-valid ks g h e =
      let p = and_parts (stand (is_strange S (free S)) g.env) (stand (is_strange S (free S)) g.reference.arguments) e in
      let env = of-stand g.env p.0 in
      let args = of-stand g.reference.arguments p.1 in
      let tidy = tidy-now ts s ks h in
      record {
        live = free S;
        sound = record {
          allowed = λ k n i t l a v. no-value n i t l a v;
          no_higher = λ n i t l a v. no-value n i t l a v;
          is_resolved = λ n i t l a v. no-value n i t l a v;
          known = λ n i t l a v. no-value n i t l a v;
          universes = λ n i l a. below s.newest_universe n s.variables i tidy.universes a;
        };
        fits = λ n l. record { kind = λ i t a v. no-value n i t l a v; is_closed = λ i t a v. no-value n i t l a v };
        values = λ n i t l a v. no-value n i t l a v;
        env = record { known = env.known; is_closed = env.is_closed };
        trees = record { known = args.known; is_closed = args.is_closed };
        env_free = env.no_parameter;
        trees_free = args.no_parameter;
      }

  -- by what a call answers of both
  pub stands-by : (g : TraitGoal) (a b : Bool) → a ≡ stand (is_strange_to s) g.env → a ≡ true → b ≡ stand (is_strange_to s) g.reference.arguments → b ≡ true → stands_at S g ≡ true
  stands-by g a b e at f bt =
      and_from (stand (is_strange S (free S)) g.env) (stand (is_strange S (free S)) g.reference.arguments)
      (sym (stand-same g.env) ∙ sym e ∙ at) (sym (stand-same g.reference.arguments) ∙ sym f ∙ bt)

  pub env-stands : (g : TraitGoal) → stands_at S g ≡ true → stand (is_strange_to s) g.env ≡ true
  env-stands g e = stand-same g.env ∙ (and_parts (stand (is_strange S (free S)) g.env) (stand (is_strange S (free S)) g.reference.arguments) e).0

  pub arguments-stand : (g : TraitGoal) → stands_at S g ≡ true → stand (is_strange_to s) g.reference.arguments ≡ true
  arguments-stand g e = stand-same g.reference.arguments ∙ (and_parts (stand (is_strange S (free S)) g.env) (stand (is_strange S (free S)) g.reference.arguments) e).1
