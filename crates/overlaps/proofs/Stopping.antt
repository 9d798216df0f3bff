-- Why calls stopped, from one call to the next.
use Rattle.std.proofs.Common.{◌≡◌, ℕ, List, [], length, Result, Ok, Err, IfErr, refl, sym, ap, subst, ◌∙◌}
use Rattle.std.specs.Prelude.{IsErrAnd}
use Rattle.ir_trees.specs.declared.ir.kinds.ParamEnv.{ParamEnv}
use Rattle.ir_trees.specs.declared.ir.kinds.TraitPredicate.{TraitPredicate}
use Rattle.ir_trees.specs.declared.ir.stop.Stop.{Stop}
use Rattle.ir_trees.specs.Declarations.Context.{Context, Grows}
use Rattle.ir_trees.specs.Instantiation.Folding.{IsSubstStop, substituted}
use Rattle.ir_trees.specs.Syntax.Nodes.{Extends, tree_at}
use Rattle.ir_trees.specs.Syntax.Trees.{Kind, Tree}
use Rattle.ir_trees.specs.Unification.Substitutions.{row_of}
use Rattle.ir_trees.specs.Syntax.Words.{IsArgs, IsParamEnv}
use Rattle.ir_trees.proofs.Growth.Kept.{args-kept, grows-refl, grows-trans}
use Rattle.candidate_eval.proofs.Dynamic.Objects.{env-kept}
use Rattle.candidate_eval.specs.Interface.Accounts.{Account, StopsSomehow}
use Rattle.candidate_eval.specs.Interface.Accounts.StopsSomehow.{making}
use Rattle.candidate_eval.specs.Interface.Evaluators.{Keeps, KeepsBut}
use Rattle.candidate_eval.specs.Interface.Shown as shown
use Rattle.candidate_eval.specs.Interface.Unmade.{of_trees, with_arguments}
use Rattle.candidate_eval.specs.Judges.States.{State}
use Rattle.candidate_rounds.specs.Evaluators.Interface.{Fixed, fixed}
use Rattle.candidate_rounds.specs.Evaluators.Known.{Evaluator, probes, table_of}
use Rattle.candidate_rounds.specs.Table.Normalizing.{rounds_shown}
use Rattle.candidate_rounds.specs.Table.Running.{as_it_is, with_table}
use Rattle.candidate_rounds.proofs.Table.Coming.{comes-before, comes-same, comes-then}
use Rattle.overlaps.specs.Refused.{StaysBesideKnown, StaysBesideSteps}
use Rattle.overlaps.specs.Stopping.{IsLater, IsOverlapStop, IsStepStop, IsThere, step_asking}
use Rattle.overlaps.proofs.Staying.{context_of}

-- what is said of the stop that a `?` hands on
pub passed-on : {A : Type 0} (P : Stop → Type 0) (r : Result A Stop) (s : Stop) → IsErrAnd r (λ e. e ≡ s) → P s → IfErr r P
passed-on P (Ok a) s e p = absurd e
passed-on P (Err x) s e p = subst P (sym e) p

-- a node, or a list's members, wasn't made with a list in the place of the parameters
pub substitute-somehow : {E X : Type 0} {fixed : E → X} {context : E → Context} {state : E → State} {stops : Account E} {probes : E → List State} {a b : E} {s : Stop} (k : Kind) (n list : ℕ)
    → Keeps fixed probes context a b → IsSubstStop (length (context b).trees) (substituted (tree_at (context a).trees list).children 0 (row_of k (tree_at (context a).trees n))) s
    → StopsSomehow fixed context state stops a b s
substitute-somehow {context = context} {a = a} k n list kept h = making (of_trees (context a) (grows-refl (context a)) kept.grows (with_arguments k n list) h)

-- Later evaluators

pub later-refl : (r : Evaluator) → IsLater r r
later-refl r = record { grows = grows-refl r.context; fixed_same = refl; table = as_it_is }

-- what is of the context stays so
pub there : {ts : List Tree} {r s : Evaluator} (e : ParamEnv) (p : TraitPredicate) → IsLater r s → IsParamEnv r.context.trees e → IsArgs r.context.trees p.trait_ref.args
    → Extends s.context.trees ts → IsThere ts s e p
there {ts} {r} {s} e p l x y k = (k, (env-kept r.context s.context e l.grows x).0, (args-kept r.context s.context p.trait_ref.args l.grows y).0)

pub later-then : {r s t : Evaluator} → IsLater r s → IsLater s t → IsLater r t
later-then {r} {s} {t} g h = record {
  grows = grows-trans r.context s.context t.context g.grows h.grows;
  fixed_same = h.fixed_same ∙ g.fixed_same;
  table = comes-then g.table (comes-before g.grows g.fixed_same h.table);
}

pub later-begun : {r s : Evaluator} → Grows r.context s.context → fixed s ≡ fixed r → IsLater r s
later-begun g f = record { grows = g; fixed_same = ap (λ x. with_table x []) f; table = comes-same (ap (λ (x : Fixed). x.table) f) }

pub later-kept : {P : List (List ℕ) → List (List ℕ) → Type 0} {r s : Evaluator} → KeepsBut P fixed probes context_of r s → IsLater r s
later-kept h = later-begun h.grows h.fixed_same

pub later-steps : {r s : Evaluator} → StaysBesideSteps r s → IsLater r s
later-steps h = record { grows = h.grows; fixed_same = h.fixed_same; table = h.table }

pub later-known : {r s : Evaluator} → StaysBesideKnown r s → IsLater r s
later-known h = record { grows = h.grows; fixed_same = h.fixed_same; table = h.table }

-- Stops

pub step-stop : {old mid new : Evaluator} {s : Stop} → IsLater old mid → IsStepStop mid new.context.trees (table_of new) s → IsOverlapStop old new s
step-stop {mid = mid} l k = record { first = mid; later = l; step = k }

pub asking-stop : {old mid new : Evaluator} {s : Stop} → IsLater old mid → shown.StopsSomehow rounds_shown mid new s → IsOverlapStop old new s
asking-stop {mid = mid} {new} l k = record { first = mid; later = l; step = step_asking new (grows-refl new.context).kept k }

pub stop-later : {old mid new : Evaluator} {s : Stop} → IsLater old mid → IsOverlapStop mid new s → IsOverlapStop old new s
stop-later l k = record { first = k.first; later = later-then l k.later; step = k.step }

-- The probe that is closed then leaves trees and table.
pub stop-left : {old ran new : Evaluator} {s : Stop} → new.context ≡ ran.context → fixed new ≡ fixed ran → IsOverlapStop old ran s → IsOverlapStop old new s
stop-left {s = s} c f k =
    let t = sym c in
    let g = sym f in
    record { first = k.first; later = k.later; step = subst (λ (q : Context × Fixed). IsStepStop k.first q.0.trees q.1.table s) (λ i. (t i, g i)) k.step }
