use Rattle.std.proofs.Common.{◌≡◌, ℕ, List, map, subst, sym, ◌∙◌, ap}
use Rattle.std.proofs.lemmas.Result.{IfOk-weaker}
use Rattle.ir_trees.specs.declared.ir.kinds.Clause.{Clause}
use Rattle.ir_trees.specs.Syntax.Words.{clause_tree}
use Rattle.candidate_rounds.specs.declared.rounds.inference.Entry.{Entry}
use Rattle.candidate_rounds.specs.Evaluators.Known.{info_of}
use Rattle.candidate_rounds.specs.Evaluators.Leaking.{IsAmong, IsRecorded, RegionsLeak, ValueLeaks}
use Rattle.candidate_rounds.specs.Table.Goals.{Each}
use Rattle.candidate_rounds.proofs.Leaking.{nothing-leaks, recorded-leaks, value-leaks}
use Rattle.candidate_rounds.proofs.rounds.leaking.leaks_in.Goals as goal

pub returns-then-values_leak-clause-yes : goal.returns-then-values_leak-clause-yes
returns-then-values_leak-clause-yes c = λ m _.
    let s = c.args.inference.now in
    let w = c.values_leak.ensures.yes c.if-values_leak.true in
    value-leaks c.args.cx.now.trees m s c.args.above w.0 (subst (λ es. IsAmong es w.0) c.variables.ensures w.1) w.2

pub returns-clause-yes : goal.returns-clause-yes
returns-clause-yes c = λ m.
    let ts = c.args.cx.now.trees in
    let s = c.args.inference.now in
    let us : c.as_slice.result.now ≡ map (λ (e : Entry). e.universe) s.variables = c.as_slice.ensures.value ∙ (c.in_ok-universes.ensures.are ∙ ap (map (λ (e : Entry). e.universe)) c.variables-2.ensures) in
    let rs : c.regions.result.now ≡ s.regions = c.regions.ensures in
    IfOk-weaker c.regions_leak.result _ _ (λ b h e. recorded-leaks ts m s c.args.above (subst (λ (q : List Clause × List ℕ). RegionsLeak (IsRecorded (map (clause_tree ts) q.0)) c.args.above q.1) (λ i. (rs i, us i)) (h e)))
    c.regions_leak.ensures.yes

pub returns-clause-no : goal.returns-clause-no
returns-clause-no c = λ m.
    let ts = c.args.cx.now.trees in
    let s = c.args.inference.now in
    let us : c.as_slice.result.now ≡ map (λ (e : Entry). e.universe) s.variables = c.as_slice.ensures.value ∙ (c.in_ok-universes.ensures.are ∙ ap (map (λ (e : Entry). e.universe)) c.variables-2.ensures) in
    let rs : c.regions.result.now ≡ s.regions = c.regions.ensures in
    let values = subst (λ es. Each (λ (e : Entry). ValueLeaks c.args.above (info_of ts e) → ⊥) es) c.variables.ensures (c.values_leak.ensures.no c.if-values_leak.false) in
    IfOk-weaker c.regions_leak.result _ _
    (λ b h e. nothing-leaks ts m s c.args.above values (λ r. h e (subst (λ (q : List Clause × List ℕ). RegionsLeak (IsRecorded (map (clause_tree ts) q.0)) c.args.above q.1) (λ i. (sym rs i, sym us i)) r)))
    c.regions_leak.ensures.no
