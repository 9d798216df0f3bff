-- What is so at a function's exits and before its later calls, once others have gone on.
use Rattle.std.proofs.Common.{◌≡◌, ℕ, ◌≤◌, ◌<◌, length, List, None, Result, Ok, Err, IfErr, IsErrAnd, true, sym, ◌∙◌, ap, subst, arith, if◌then◌else◌}
use Rattle.std.proofs.lemmas.Bool.{and_parts}
use Rattle.std.proofs.lemmas.List.{length-append}
use Rattle.ir_trees.specs.declared.ir.heads.Head.{Head}
use Rattle.ir_trees.specs.declared.ir.heads.Head.TheVariants as H
use Rattle.ir_trees.specs.declared.ir.heads.Variable.{Variable}
use Rattle.ir_trees.specs.declared.ir.stop.Stop.{Stop}
use Rattle.ir_trees.specs.Syntax.Nodes.{Extends, tree_at}
use Rattle.ir_trees.specs.Syntax.Trees.{Tree}
use Rattle.ir_trees.proofs.Growth.Kept.{number-kept}
use Rattle.candidate_eval.specs.declared.eval.refusal.NoSolutionOrStop.{NoSolutionOrStop}
use Rattle.candidate_eval.specs.declared.eval.variable.VariableKind.TheVariants.{Term}
use Rattle.candidate_eval.specs.Judges.Alike.{info}
use Rattle.candidate_eval.specs.Interface.Evaluators.{root_value}
use Rattle.candidate_eval.specs.Judges.States.{State, has_kind, value_at, value_of}
use Rattle.rounds_judge.specs.Equations.Binding.{may_take}
use Rattle.candidate_rounds.specs.Evaluators.Known.{AreMarks, Evaluator, GoesOn, KeepsGiven, state}

-- A number of the context is one still.

pub below-stays : (ts us : List Tree) (n : ℕ) → Extends ts us → n < length ts → n < length us
below-stays ts us n e i = let k = ap (λ (xs : List Tree). length xs) e.is ∙ length-append ts e.added in omega (arith, i, k)

pub below-goes : (r s : Evaluator) (n : ℕ) → GoesOn r s → n < length r.context.trees → n < length s.context.trees
below-goes r s n g i = below-stays r.context.trees s.context.trees n g.0.kept i

-- and its variable has no value still, where the state is what it was
pub free-goes : (r s : Evaluator) (n : ℕ) → GoesOn r s → state s ≡ state r → n < length r.context.trees → root_value (state r) (tree_at r.context.trees n).head ≡ None
    → root_value (state s) (tree_at s.context.trees n).head ≡ None
free-goes r s n g e i f =
    ap (λ (t : Tree). root_value (state s) t.head) (number-kept r.context.trees s.context.trees n g.0.kept i).1
    ∙ (ap (λ S. root_value S (tree_at r.context.trees n).head) e ∙ f)

-- A variable that may take a value has none, where it gives its head none.
pub free-value : (S T : State) (v : Variable) (h : Head) (t : Tree) → h ≡ H.Infer v → root_value S h ≡ None → T ≡ S → may_take T v t ≡ true → value_of T v.number ≡ None
free-value S T v h t is f same may =
    let kind = (and_parts (has_kind (Term v.sort) (info T v.number)) _ may).0 in
    let none : value_at T (H.Infer v) ≡ None = ap (λ U. value_at U (H.Infer v)) same ∙ (sym (ap (root_value S) is) ∙ f) in
    sym (ap (λ b. if b then value_of T v.number else None) kind) ∙ none

-- What `?` makes of a stop is no refusal.

no-refusal : (P : Type 0) (z : Stop) → NoSolutionOrStop.Stop z ≡ NoSolutionOrStop.NoSolution → P
no-refusal P z e = cc

pub not-refused : {A : Type 0} (P : Type 0) (r : Result A NoSolutionOrStop) (z : Stop) → IsErrAnd r (λ e. e ≡ NoSolutionOrStop.Stop z) → IfErr r (λ e. e ≡ NoSolutionOrStop.NoSolution → P)
not-refused P (Ok a) z h = tt
not-refused P (Err e) z h = λ n. no-refusal P z (sym h ∙ n)

-- What was known can be come back to: there were no more changes then, nor when open probes began.

pub few-back : (old mid : Evaluator) (n : ℕ) → n ≡ length old.inference.trail → GoesOn old mid → n ≤ length mid.inference.trail
few-back old mid n e g = let l = g.4.0 in omega (arith, e, l)

pub marks-back : (old mid : Evaluator) (n : ℕ) → n ≡ length old.inference.trail → GoesOn old mid → AreMarks (length old.inference.trail) old.marks → AreMarks n mid.marks
marks-back old mid n e g m = subst (λ k. AreMarks k mid.marks) (sym e) (subst (AreMarks (length old.inference.trail)) (sym g.3) m)

-- What was given stays so, as it did before.
pub given-trans : (r s t : Evaluator) → KeepsGiven r s → KeepsGiven s t → KeepsGiven r t
given-trans r s t g h = (h.0 ∙ g.0, h.1 ∙ g.1, h.2 ∙ g.2, h.3 ∙ g.3)
