-- The rule for what can be called, by what is read of the goal's self type.
use Rattle.std.proofs.Common.{◌≡◌, true, false, Option, Some, None, refl, sym, ap, ◌∙◌}
use Rattle.std.specs.Prelude.{if◌then◌else◌}
use Rattle.ir_trees.specs.declared.ir.kinds.Binder.{Binder}
use Rattle.ir_trees.specs.declared.ir.kinds.TraitId.{TraitId}
use Rattle.ir_trees.specs.declared.ir.kinds.Ty.{Ty}
use Rattle.ir_trees.specs.Declarations.Context.{Context, Grows}
use Rattle.ir_trees.specs.Syntax.Trees.{Forest, Tree}
use Rattle.ir_trees.specs.Syntax.Words.{ty_tree, vars_tree}
use Rattle.ir_trees.proofs.Growth.Kept.{ty-kept}
use Rattle.ir_context.proofs.Hierarchy.Listing.{vars_kept}
use Rattle.candidate_eval.specs.declared.eval.certainty.Certainty.TheVariants.{Yes}
use Rattle.candidate_eval.specs.Builtins.Callable.{Callable, Calls, CalledWith, Excluded, IsCallable, Refused as NotCalled, Undetermined, callable_of}
use Rattle.candidate_eval.specs.Outcomes.Certainties.{AMBIGUOUS}
use Rattle.candidate_eval.specs.Derivations.ImplRules.{TraitGoal}
use Rattle.candidate_eval.specs.Derivations.Judging.{Refused, asked, comes_to, judged, start}
use Rattle.candidate_eval.specs.Derivations.Rules.{ask}
use Rattle.candidate_eval.specs.Judges.States.{Env, Judge, State}
use Rattle.candidate_assembly.specs.Rules.BuiltinRules.{call_rule, call_steps, misc, positive}
use Rattle.candidate_assembly.specs.Answers.Telling.{asking_rule}

-- What is called so is the same where a context has grown.
pub callable-kept : (old new : Context) (b : Binder (Ty × Ty)) → Grows old new → IsCallable old.trees b → IsCallable new.trees b × (callable_of new.trees b ≡ callable_of old.trees b)
callable-kept old new b g h =
    let vars = vars_kept old new b.vars g h.vars in
    let inputs = ty-kept old new b.value.0 g h.inputs in
    let output = ty-kept old new b.value.1 g h.output in
    let with : Forest → Tree → Tree → Callable = λ v i o. record { variables = v; inputs = i; output = o } in (
      record { vars = vars.0; inputs = inputs.0; output = output.0 },
      ap (λ (v : Tree). with v.children (ty_tree new.trees b.value.0) (ty_tree new.trees b.value.1)) vars.1
          ∙ (ap (λ t. with (vars_tree old.trees b.vars).children t (ty_tree new.trees b.value.1)) inputs.1
          ∙ ap (with (vars_tree old.trees b.vars).children (ty_tree old.trees b.value.0)) output.1),
    )

-- Where the rule refuses.

-- a goal that isn't positive
pub refused-negative : (J : Judge) (S : State) (g : TraitGoal) (x : Calls) (o : Option TraitId) → positive g ≡ false → judged J S (call_rule g x o) ≡ Refused
refused-negative J S g (CalledWith c) (Some i) n = ap (λ b. if b then comes_to J g.env (start S) (call_steps g c i) (ask misc Yes) else Refused) n
refused-negative J S g (CalledWith c) None n = refl
refused-negative J S g Undetermined o n = ap (λ b. if b then asked J S misc AMBIGUOUS else Refused) n
refused-negative J S g Excluded o n = refl
refused-negative J S g NotCalled o n = refl

-- what can't be called
pub refused-uncalled : (J : Judge) (S : State) (g : TraitGoal) (x : Calls) (o : Option TraitId) → x ≡ NotCalled → judged J S (call_rule g x o) ≡ Refused
refused-uncalled J S g x o e = ap (λ y. judged J S (call_rule g y o)) e

-- where no trait is `Sized`
pub refused-unsized : (J : Judge) (S : State) (g : TraitGoal) (x : Calls) (c : Callable) (o : Option TraitId) → x ≡ CalledWith c → o ≡ None → judged J S (call_rule g x o) ≡ Refused
refused-unsized J S g x c o e n = ap (λ y. judged J S (call_rule g y o)) e ∙ ap (λ y. judged J S (call_rule g (CalledWith c) y)) n

-- The rule where that isn't known yet, and where the self type is called so.

pub rule-undetermined : (g : TraitGoal) (e : Env) (x : Calls) (o : Option TraitId) → e ≡ g.env → positive g ≡ true → x ≡ Undetermined → asking_rule e true AMBIGUOUS ≡ call_rule g x o
rule-undetermined g e x o q p is =
    ap (λ y. asking_rule y true AMBIGUOUS) q ∙ (ap (λ b. asking_rule g.env b AMBIGUOUS) (sym p) ∙ ap (λ y. call_rule g y o) (sym is))

pub rule-called : (g h : TraitGoal) (x : Calls) (c d : Callable) (o : Option TraitId) (i : TraitId) → h ≡ g → d ≡ c → x ≡ CalledWith c → o ≡ Some i → call_rule h (CalledWith d) (Some i) ≡ call_rule g x o
rule-called g h x c d o i p q is s =
    ap (λ y. call_rule y (CalledWith d) (Some i)) p
    ∙ (ap (λ y. call_rule g (CalledWith y) (Some i)) q ∙ (ap (λ y. call_rule g y (Some i)) (sym is) ∙ ap (call_rule g x) (sym s)))
