-- What stays of an evaluator of rounds, call after call.
use Rattle.std.proofs.Common.{◌≡◌, List, [], ◌∷◌, ℕ, Result, OnOk, IfErr, refl, sym, ap, subst, ◌∙◌}
use Rattle.ir_trees.specs.declared.ir.stop.Stop.{Stop}
use Rattle.ir_trees.specs.Declarations.Context.{Context, Grows}
use Rattle.ir_trees.specs.Syntax.Trees.{Tree}
use Rattle.ir_trees.proofs.Growth.Kept.{grows-refl, grows-trans}
use Rattle.candidate_eval.specs.Derivations.ImplRules.{TraitGoal}
use Rattle.candidate_eval.specs.Interface.Evaluators.{Keeps, KeepsBut, NoFault}
use Rattle.candidate_eval.specs.Judges.States.{State}
use Rattle.candidate_assembly.specs.Rules.AliasBounds.{ChainEnd}
use Rattle.candidate_assembly.specs.Rules.AliasFaults.{PutsOffOnce, none, once}
use Rattle.candidate_rounds.specs.declared.rounds.effort.Effort.{Effort}
use Rattle.candidate_rounds.specs.Evaluators.Interface.{Fixed, Rest, fixed, judge_of, rest}
use Rattle.candidate_rounds.specs.Evaluators.Known.{Evaluator, probes, state, table_of}
use Rattle.candidate_rounds.specs.Table.Efforts.{IsLeftBy, Runs}
use Rattle.candidate_rounds.specs.Table.Running.{ComesFrom, PutsOffByGoals, StaysBesideTable, as_it_is, computing, none_off, one_off, with_table}
use Rattle.candidate_rounds.proofs.Table.Coming.{comes-before, comes-run, comes-same, comes-then}
use Rattle.rounds_judge.specs.Table.Keys.{key_at}
use Rattle.overlaps.specs.Goals.{PutsOffOneAtMost}
use Rattle.overlaps.specs.Refused.{StaysBesideKnown, StaysBesideSteps}

-- the context of an evaluator
abbrev pub context_of : Evaluator → Context
context_of r = r.context

-- Faults

by-goals-trans : {xs ys zs : List (List ℕ)} → PutsOffByGoals xs ys → PutsOffByGoals ys zs → PutsOffByGoals xs zs
by-goals-trans g none_off = g
by-goals-trans g (one_off h) = one_off (by-goals-trans g h)

by-goal : {F : ChainEnd → Type 0} {xs ys : List (List ℕ)} → PutsOffOnce F xs ys → PutsOffByGoals xs ys
by-goal {xs = xs} (none e) = subst (PutsOffByGoals xs) (sym e) none_off
by-goal {xs = xs} (once so e) = subst (PutsOffByGoals xs) (sym e) (one_off none_off)

no-faults : {xs ys : List (List ℕ)} → ys ≡ xs → PutsOffByGoals xs ys
no-faults {xs = xs} e = subst (PutsOffByGoals xs) (sym e) none_off

-- All but what is known, the table and faults

pub known-refl : (r : Evaluator) → StaysBesideKnown r r
known-refl r = record { grows = grows-refl r.context; fixed_same = refl; probes_same = refl; faults = none_off; table = as_it_is }

pub known-then : {r s t : Evaluator} → StaysBesideKnown r s → StaysBesideKnown s t → StaysBesideKnown r t
known-then {r} {s} {t} g h = record {
  grows = grows-trans r.context s.context t.context g.grows h.grows;
  fixed_same = h.fixed_same ∙ g.fixed_same;
  probes_same = h.probes_same ∙ g.probes_same;
  faults = by-goals-trans g.faults h.faults;
  table = comes-then g.table (comes-before g.grows g.fixed_same h.table);
}

pub known-beside : {r s : Evaluator} → StaysBesideSteps r s → StaysBesideKnown r s
known-beside h = record { grows = h.grows; fixed_same = h.fixed_same; probes_same = h.probes_same; faults = h.faults; table = h.table }

-- the table, where all that is fixed is the same
table-same : (r s : Evaluator) → fixed s ≡ fixed r → ComesFrom r (table_of r) (table_of s)
table-same r s e = comes-same (ap (λ (x : Fixed). x.table) e)

pub known-kept : {r s : Evaluator} → Keeps fixed probes context_of r s → StaysBesideKnown r s
known-kept {r} {s} h = record { grows = h.grows; fixed_same = ap (λ f. with_table f []) h.fixed_same; probes_same = h.probes_same; faults = no-faults h.faults; table = table-same r s h.fixed_same }

pub known-computed : {r s : Evaluator} → KeepsBut PutsOffOneAtMost fixed probes context_of r s → StaysBesideKnown r s
known-computed {r} {s} h = record { grows = h.grows; fixed_same = ap (λ f. with_table f []) h.fixed_same; probes_same = h.probes_same; faults = by-goal h.faults; table = table-same r s h.fixed_same }

pub known-made : {r s : Evaluator} → Grows r.context s.context → rest s ≡ rest r → StaysBesideKnown r s
known-made {r} {s} g e = record {
  grows = g;
  fixed_same = ap (λ (x : Rest). with_table x.fixed []) e;
  probes_same = ap (λ (x : Rest). x.probes) e;
  faults = no-faults (ap (λ (x : Rest). x.faults) e);
  table = table-same r s (ap (λ (x : Rest). x.fixed) e);
}

-- All but the table and faults

pub stays-refl : (r : Evaluator) → StaysBesideSteps r r
stays-refl r = record { grows = grows-refl r.context; fixed_same = refl; state_same = refl; probes_same = refl; faults = none_off; table = as_it_is }

pub stays-trans : {r s t : Evaluator} → StaysBesideSteps r s → StaysBesideSteps s t → StaysBesideSteps r t
stays-trans {r} {s} {t} g h = record {
  grows = grows-trans r.context s.context t.context g.grows h.grows;
  fixed_same = h.fixed_same ∙ g.fixed_same;
  state_same = h.state_same ∙ g.state_same;
  probes_same = h.probes_same ∙ g.probes_same;
  faults = by-goals-trans g.faults h.faults;
  table = comes-then g.table (comes-before g.grows g.fixed_same h.table);
}

pub stays-kept : {r s : Evaluator} → Keeps fixed probes context_of r s → state s ≡ state r → StaysBesideSteps r s
stays-kept {r} {s} h e = record { grows = h.grows; fixed_same = ap (λ f. with_table f []) h.fixed_same; state_same = e; probes_same = h.probes_same; faults = no-faults h.faults; table = table-same r s h.fixed_same }

-- A call of the evaluator itself, after which the table comes by steps, or is as it was.

pub stays-by : {r s : Evaluator} → StaysBesideTable r s → ComesFrom r (table_of r) (table_of s) → StaysBesideSteps r s
stays-by h t = record { grows = h.grows; fixed_same = h.fixed_same; state_same = h.state_same; probes_same = h.probes_same; faults = h.faults; table = t }

pub stays-same : {r s : Evaluator} → StaysBesideTable r s → table_of s ≡ table_of r → StaysBesideSteps r s
stays-same h e = stays-by h (comes-same e)

pub stays-run : {A : Type 0} (ts : List Tree) (g : TraitGoal) {r s : Evaluator} (effort : Effort) (q : Result A Stop) → StaysBesideTable r s
    → OnOk q (Runs (computing r) (key_at (state r) g) effort (table_of r) (table_of s)) → IfErr q (λ e. IsLeftBy ts r g effort (table_of r) (table_of s) e) → StaysBesideSteps r s
stays-run ts g effort q h ran left = stays-by h (comes-run ts g effort q ran left)

-- A probe that began and has ended, in which all stayed but that: what is known stays, too.
pub probe-stays : (old began ran new : Evaluator) → fixed began ≡ fixed old → Grows old.context began.context → NoFault old.context began.context → probes began ≡ state old ∷ probes old
    → StaysBesideKnown began ran → fixed new ≡ fixed ran → Grows ran.context new.context → NoFault ran.context new.context
    → ((S : State) (others : List State) → probes ran ≡ S ∷ others → (judge_of (fixed ran)).alike S (state new)) → ((S : State) (others : List State) → probes ran ≡ S ∷ others → probes new ≡ others)
    → StaysBesideSteps old new
probe-stays old began ran new f g n p stays h i m closed left = record {
  grows = grows-trans old.context ran.context new.context (grows-trans old.context began.context ran.context g stays.grows) i;
  fixed_same = ap (λ x. with_table x []) h ∙ (stays.fixed_same ∙ ap (λ x. with_table x []) f);
  state_same = closed (state old) (probes old) (stays.probes_same ∙ p);
  probes_same = left (state old) (probes old) (stays.probes_same ∙ p);
  faults = by-goals-trans (no-faults n) (by-goals-trans stays.faults (no-faults m));
  table = comes-then (table-same old began f) (comes-then (comes-before g (ap (λ x. with_table x []) f) stays.table) (comes-same (ap (λ (x : Fixed). x.table) h)));
}

-- what a call keeps that does nothing
pub keeps-refl : {E F : Type 0} {fixed : E → F} {probes : E → List State} {context : E → Context} (a : E) → Keeps fixed probes context a a
keeps-refl {context = context} a = record { fixed_same = refl; probes_same = refl; grows = grows-refl (context a); faults = refl }
