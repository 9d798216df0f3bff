use Rattle.std.proofs.Common.{List, [], ap, append_assoc, arith, rules, suc, sym, ℕ, ◌++◌, ◌+◌, ◌∙◌, ◌∷◌, ◌≡◌}
use Rattle.ir_trees.specs.Syntax.Nodes.{tree_at}
use Rattle.candidate_eval.proofs.Interface.StopKinds.{child-beyond, growth_noted, wide-node}
use Rattle.std.proofs.lemmas.List.{append-nil, map-append}
use Rattle.ir_trees.specs.declared.ir.kinds.VarKind.{VarKind}
use Rattle.ir_trees.specs.declared.ir.heads.Head.{Head}
use Rattle.ir_trees.specs.Declarations.Context.{parameter_kind}
use Rattle.ir_trees.specs.Syntax.Trees.{Forest, Kind, skip, tree}
use Rattle.candidate_eval.specs.Derivations.Characterization.{binder_kinds, variable_of_binder}
use Rattle.candidate_eval.specs.Interface.Evaluators.{kinds_listed}
use Rattle.candidate_assembly.proofs.assembly.characterize.bound_kinds.Goals.{in-Some-variable_kind+in_ok-push, in_default-variable_kind}
use Rattle.candidate_assembly.proofs.assembly.characterize.bound_kinds.Goals as goal

next-kinds : (now later : List VarKind) (vars : Forest) (place : ℕ) (h : Head) (below : Forest) (whole : List Kind) → kinds_listed later ≡ kinds_listed now ++ variable_of_binder h
    → skip place vars ≡ tree h below (skip (suc place) vars) → kinds_listed now ++ binder_kinds (skip place vars) ≡ whole → kinds_listed later ++ binder_kinds (skip (place + 1) vars) ≡ whole
next-kinds now later vars place h below whole l there w =
    let one : suc place ≡ place + 1 = omega arith in
    let row : skip place vars ≡ tree h below (skip (place + 1) vars) = there ∙ ap (λ (n : ℕ). tree h below (skip n vars)) one in
    ap (λ (ks : List Kind). ks ++ binder_kinds (skip (place + 1) vars)) l
    ∙ (append_assoc (kinds_listed now) (variable_of_binder h) (binder_kinds (skip (place + 1) vars)) ∙ (sym (ap (λ (ts : Forest). kinds_listed now ++ binder_kinds ts) row) ∙ w))

one-kind : (now later : List VarKind) (k : VarKind) (ks : List Kind) → later ≡ now ++ k ∷ [] → ks ≡ parameter_kind k ∷ [] → kinds_listed later ≡ kinds_listed now ++ ks
one-kind now later k ks e s = ap kinds_listed e ∙ (map-append parameter_kind now (k ∷ []) ∙ ap (λ (xs : List Kind). kinds_listed now ++ xs) (sym s))

no-kind : (now later : List VarKind) (ks : List Kind) → later ≡ now → ks ≡ [] → kinds_listed later ≡ kinds_listed now ++ ks
no-kind now later ks e s = ap kinds_listed e ∙ (sym (append-nil (kinds_listed now)) ∙ ap (λ (xs : List Kind). kinds_listed now ++ xs) (sym s))

pub loop-place-preserved : goal.loop-place-preserved
loop-place-preserved c =
    let ts = c.args.cx.now.trees in
    let below = (tree_at ts c.in-Some.binder).children in
    let t = tree_at ts c.in-Some-child.variable in
    let beyond = child-beyond c.loop-place.place below t.head t.children _ c.in-Some-child.ensures.1 in
    let more : kinds_listed c.match-variable_kind.kinds.items ≡ kinds_listed c.loop-place.kinds.items ++ variable_of_binder t.head = elim c.match-variable_kind.branch [
      | in-Some-variable_kind+in_ok-push w ↦
          let k = w.in-Some-variable_kind.kind in
          let pushed : c.match-variable_kind.kinds.items ≡ c.loop-place.kinds.items ++ k ∷ [] = search rules in
          let said : variable_of_binder t.head ≡ parameter_kind k ∷ [] = search rules in
          one-kind c.loop-place.kinds.items c.match-variable_kind.kinds.items k (variable_of_binder t.head) pushed said
      | in_default-variable_kind w ↦
          let same : c.match-variable_kind.kinds.items ≡ c.loop-place.kinds.items = search rules in
          let said : variable_of_binder t.head ≡ [] = search rules in
          no-kind c.loop-place.kinds.items c.match-variable_kind.kinds.items (variable_of_binder t.head) same said
    ] in
    (omega (arith, beyond), next-kinds c.loop-place.kinds.items c.match-variable_kind.kinds.items below c.loop-place.place t.head t.children _ more c.in-Some-child.ensures.1 c.loop-place.invariant.1)

pub returns-clause-cause : goal.returns-clause-cause
returns-clause-cause c =
    wide-node c.args.cx.now.trees c.in-Some.binder c.loop-place.place (omega (arith, c.in-Some.ensures.0, c.requires)) c.loop-place.invariant.0 c.loop-place-test.false

pub returns-in_err-push-clause-cause : goal.returns-in_err-push-clause-cause
returns-in_err-push-clause-cause c = growth_noted c.args.cx.now.trees c.from_residual.result c.from_residual.ensures.1
