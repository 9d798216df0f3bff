use Rattle.std.proofs.Common.{rules, ◌≤◌, length, refl, sym, ◌∙◌}
use Rattle.std.proofs.lemmas.List.Elements.{All-get_or}
use Rattle.ir_trees.specs.declared.ir.kinds.Pred.{Pred}
use Rattle.ir_trees.specs.Syntax.Words.{IsPred}
use Rattle.candidate_assembly.proofs.Objects.ObjectClauses.{principal-found, principal-later, principal-missing}
use Rattle.candidate_assembly.proofs.assembly.dyn_bounds.principal_among.Goals as goal

pub loop-bound-init : goal.loop-bound-init
loop-bound-init c = refl

pub is_principal-requires : goal.is_principal-requires
is_principal-requires c =
    let d : Pred = record { 0 = 0 } in
    All-get_or (IsPred c.args.cx.now.trees) c.args.bounds.now c.loop-bound.bound-index d c.loop-bound-test.true c.requires

pub returns-then-is_principal-clause-sort : goal.returns-then-is_principal-clause-sort
returns-then-is_principal-clause-sort c =
    let d : Pred = record { 0 = 0 } in
    All-get_or (IsPred c.args.cx.now.trees) c.args.bounds.now c.loop-bound.bound-index d c.loop-bound-test.true c.requires

pub returns-then-is_principal-clause-first : goal.returns-then-is_principal-clause-first
returns-then-is_principal-clause-first c =
    let d : Pred = record { 0 = 0 } in
    principal-found c.args.cx.now.trees c.args.bounds.now c.loop-bound.bound-index d c.loop-bound-test.true c.loop-bound.invariant (sym c.is_principal.ensures ∙ c.if-is_principal.true)

pub loop-bound-preserved : goal.loop-bound-preserved
loop-bound-preserved c =
    let d : Pred = record { 0 = 0 } in
    principal-later c.args.cx.now.trees c.args.bounds.now c.loop-bound.bound-index d c.loop-bound-test.true c.loop-bound.invariant (sym c.is_principal.ensures ∙ c.if-is_principal.false)

pub returns-clause-first : goal.returns-clause-first
returns-clause-first c =
    let past : length c.args.bounds.now ≤ c.loop-bound.bound-index = search rules in
    principal-missing c.args.cx.now.trees c.args.bounds.now c.loop-bound.bound-index past c.loop-bound.invariant
