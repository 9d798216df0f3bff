-- What stays of an evaluator of rounds while a goal is asked, and the refusal of the goal, said of the evaluator before.
use Rattle.std.proofs.Common.{◌≡◌, ℕ, List, [], sym, ap, subst}
use Rattle.ir_trees.specs.declared.ir.kinds.TraitPredicate.{TraitPredicate}
use Rattle.ir_trees.specs.Declarations.Context.{Grows}
use Rattle.ir_trees.specs.Syntax.Trees.{Forest, none}
use Rattle.ir_trees.specs.Syntax.Words.{IsArgs}
use Rattle.ir_trees.proofs.Growth.Kept.{args-kept, grows-trans}
use Rattle.candidate_eval.specs.Derivations.ImplRules.{TraitGoal}
use Rattle.candidate_eval.specs.Judges.States.{State}
use Rattle.candidate_rounds.specs.Evaluators.Interface.{Rest, fixed, judge_of, rest}
use Rattle.candidate_rounds.specs.Evaluators.Known.{Evaluator}
use Rattle.candidate_rounds.specs.Table.Running.{PutsOffByGoals, StaysBesideTable, none_off, with_table}
use Rattle.overlaps.specs.Goals.{WasRefused}
use Rattle.overlaps.specs.Refused.{RefusesPredicate}

no-faults : {xs ys : List (List ℕ)} → ys ≡ xs → PutsOffByGoals xs ys
no-faults {xs = xs} e = subst (PutsOffByGoals xs) (sym e) none_off

-- a call that makes a node
pub stays-made : {r s : Evaluator} → Grows r.context s.context → rest s ≡ rest r → StaysBesideTable r s
stays-made g e = record {
  grows = g;
  fixed_same = ap (λ (x : Rest). with_table x.fixed []) e;
  state_same = ap (λ (x : Rest). x.state) e;
  probes_same = ap (λ (x : Rest). x.probes) e;
  faults = no-faults (ap (λ (x : Rest). x.faults) e);
}

-- It is so of an earlier evaluator, from which all stayed but the table.
pub refused-before : (old one new : Evaluator) (p : TraitPredicate) → StaysBesideTable old one → IsArgs old.context.trees p.trait_ref.args → RefusesPredicate one new p → RefusesPredicate old new p
refused-before old one new p stays a h =
    let s = stays.state_same in
    let k = (args-kept old.context one.context p.trait_ref.args stays.grows a).1 in
    let goal : Forest → TraitGoal
    = λ xs. record { env = none; reference = record { trait = p.trait_ref.def_id.0; arguments = xs }; polarity = p.polarity } in
    record {
      context = h.context;
      earlier = grows-trans old.context one.context h.context stays.grows h.earlier;
      refused = subst (λ (q : State × Forest). WasRefused (judge_of (fixed new)) h.context q.0 (goal q.1)) (λ i. (s i, k i)) h.refused;
    }
