use Rattle.std.proofs.Common.{◌≡◌, true, sym, ◌∙◌, subst}
use Rattle.std.specs.Cmp.Lexicographic.{pointwise}
use Rattle.ir_trees.specs.contracts.ir.kinds.ClausePartialEq.TheImpl as clause
use Rattle.candidate_eval.specs.contracts.eval.variable.CanonicalVarPartialEq.TheImpl as variable
use Rattle.candidate_rounds.proofs.Table.Equal.{args-are, certainty-is, clauses-are, clauses-same, passed-or-not}
use Rattle.candidate_rounds.proofs.Table.Finding.{variables-themselves}
use Rattle.rounds_judge.proofs.Table.TableKeys.{variables_are}
use Rattle.candidate_rounds.proofs.rounds.writing.is_same_response.Goals as goal

pub returns-then-eq-3-clause-same : goal.returns-then-eq-3-clause-same
returns-then-eq-3-clause-same c = λ t.
    let a = c.args.a.now in
    let b = c.args.b.now in
    let vars : pointwise variable.eq-value.it a.vars.items b.vars.items ≡ true =
    (λ i. pointwise variable.eq-value.it (sym c.as_slice.ensures.value i) (sym c.as_slice-then-eq-2.ensures.value i)) ∙ (sym c.eq-then-eq-2.ensures ∙ c.if-eq-3.true) in
    let regions : pointwise clause.eq-value.it a.regions.items b.regions.items ≡ true =
    (λ i. pointwise clause.eq-value.it (sym c.as_slice-then-eq-3.ensures.value i) (sym c.as_slice-then-eq-3-2.ensures.value i)) ∙ (sym c.eq-then-eq-3.ensures ∙ t) in
    record {
      vars = sym (variables_are a.vars.items b.vars.items vars);
      values = sym (args-are a.values b.values (sym c.eq.ensures ∙ c.if-eq.true));
      regions = sym (clauses-are a.regions.items b.regions.items regions);
      certainty = sym (certainty-is a.certainty b.certainty (sym c.eq-then-eq.ensures ∙ c.if-eq-2.true));
    }

pub returns-else-eq-3-clause-other : goal.returns-else-eq-3-clause-other
returns-else-eq-3-clause-other c = λ _ copy.
    let a = c.args.a.now in
    let b = c.args.b.now in
    let same = subst (λ vs. pointwise variable.eq-value.it a.vars.items vs ≡ true) (sym copy.vars) (variables-themselves a.vars.items) in
    let is = (λ i. pointwise variable.eq-value.it (c.as_slice.ensures.value i) (c.as_slice-then-eq-2.ensures.value i)) ∙ same in
    passed-or-not c.eq-then-eq-2.result (c.eq-then-eq-2.ensures ∙ is) c.if-eq-3.false

pub returns-then-eq-3-clause-other : goal.returns-then-eq-3-clause-other
returns-then-eq-3-clause-other c = λ f copy.
    let a = c.args.a.now in
    let b = c.args.b.now in
    let is = (λ i. pointwise clause.eq-value.it (c.as_slice-then-eq-3.ensures.value i) (c.as_slice-then-eq-3-2.ensures.value i)) ∙ clauses-same a.regions.items b.regions.items (sym copy.regions) in
    passed-or-not c.eq-then-eq-3.result (c.eq-then-eq-3.ensures ∙ is) f
