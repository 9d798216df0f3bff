use Rattle.std.proofs.Common.{rules, ◌≡◌, ◌≤◌, All, [], ◌++◌, length, get_or, refl, subst, ◌∙◌}
use Rattle.std.proofs.lemmas.List.{take_all}
use Rattle.std.proofs.lemmas.List.Elements.{All-nil}
use Rattle.ir_trees.specs.declared.ir.kinds.AliasKind.TheVariants as AK
use Rattle.ir_trees.specs.declared.ir.kinds.AliasTy.{AliasTy}
use Rattle.ir_trees.specs.Declarations.Context.{Context}
use Rattle.ir_trees.specs.Validity.WellFormed.{IsWellFormedTable}
use Rattle.ir_trees.proofs.Growth.Kept.{grows-trans, ty-kept}
use Rattle.candidate_eval.proofs.Dynamic.Required.{all_gathered, more_gathered, none_added}
use Rattle.candidate_assembly.specs.Rules.Opaques.{AreClosedBounds}
use Rattle.candidate_assembly.proofs.Aliases.AliasChains.{alias-kept}
use Rattle.candidate_assembly.proofs.Opaques.SaidBounds.{all-said-of, appended-fit, appended-trees, closed-before, one-more-of, said-kept, said-of}
use Rattle.std.proofs.lemmas.Result.{err_from_is_err_and}
use Rattle.candidate_eval.specs.Interface.Unmade.IsUnmade.{no_memory}
use Rattle.candidate_eval.proofs.Interface.Unmade.{unmade-before}
use Rattle.candidate_assembly.proofs.assembly.opaques.all_bounds_said.Goals as goal

pub loop-opaque-init : goal.loop-opaque-init
loop-opaque-init g c = (none_added _ _ _ _ refl c.new-clauses.ensures.items refl, refl, All-nil (AreClosedBounds (g.M.Build.context c.args.make.now)))

pub bounds_said-requires-clause-opaque : goal.bounds_said-requires-clause-opaque
bounds_said-requires-clause-opaque g c =
    let xs = c.args.opaques.now in
    let d : AliasTy = record { kind = AK.Projection; id = record { 0 = 0 }; args = record { 0 = 0 } } in
    let k = c.loop-opaque.opaque-index in
    (alias-kept _ _ (get_or xs k d) c.loop-opaque.invariant.0.grows (c.requires.opaques k d c.loop-opaque-test.true)).0

pub bounds_said-requires-clause-ty : goal.bounds_said-requires-clause-ty
bounds_said-requires-clause-ty g c = (ty-kept _ _ c.args.ty c.loop-opaque.invariant.0.grows c.requires.ty).0

pub returns-in_err-said-clause-grows : goal.returns-in_err-said-clause-grows
returns-in_err-said-clause-grows g c = grows-trans _ _ _ c.loop-opaque.invariant.0.grows c.bounds_said.ensures.grows

pub returns-in_err-append-clause-grows : goal.returns-in_err-append-clause-grows
returns-in_err-append-clause-grows g c = grows-trans _ _ _ c.loop-opaque.invariant.0.grows c.bounds_said.ensures.grows

pub loop-opaque-preserved : goal.loop-opaque-preserved
loop-opaque-preserved g c =
    let start = g.M.Build.context c.args.make.now in
    let now = g.M.Build.context c.loop-opaque.make in
    let new = g.M.Build.context c.bounds_said.new.make in
    let so = c.loop-opaque.invariant.0 in
    let xs = c.args.opaques.now in
    let k = c.loop-opaque.opaque-index in
    let d : AliasTy = record { kind = AK.Projection; id = record { 0 = 0 }; args = record { 0 = 0 } } in
    let a = get_or xs k d in
    let table : IsWellFormedTable start = subst (λ (x : Context). IsWellFormedTable x) c.cx.ensures c.recall_well_formed_table.ensures in
    let bounded = c.requires.opaques k d c.loop-opaque-test.true in
    let old = c.loop-opaque.clauses.items in
    let list = c.append.new.self.items in
    let said = c.in_ok-said.said.items in
    let items : list ≡ old ++ said = c.in_ok-append.ensures.items in
    let trees = appended-trees now new old list said _ c.bounds_said.ensures.grows so.fit items (c.in_ok-said.ensures.trees ∙ said-kept start now a c.args.ty table so.grows bounded c.requires.ty) in (
      more_gathered start now new [] old list (said-of start c.args.ty) xs k d so c.loop-opaque-test.true c.bounds_said.ensures.grows (appended-fit now new old list said c.bounds_said.ensures.grows so.fit c.in_ok-said.ensures.sort items) trees,
      c.bounds_said.ensures.rest ∙ c.loop-opaque.invariant.1,
      one-more-of (AreClosedBounds start) xs k d c.loop-opaque-test.true c.loop-opaque.invariant.2 (closed-before start now a table so.grows bounded c.in_ok-said.ensures.closed),
    )

pub returns-clause-trees : goal.returns-clause-trees
returns-clause-trees g c =
    let start = g.M.Build.context c.args.make.now in
    let xs = c.args.opaques.now in
    let past : length xs ≤ c.loop-opaque.opaque-index = search rules in
    all_gathered start _ [] c.loop-opaque.clauses.items (said-of start c.args.ty) xs c.loop-opaque.opaque-index c.loop-opaque.invariant.0 past ∙ all-said-of start c.args.ty xs

pub returns-clause-closed : goal.returns-clause-closed
returns-clause-closed g c =
    let start = g.M.Build.context c.args.make.now in
    let xs = c.args.opaques.now in
    let past : length xs ≤ c.loop-opaque.opaque-index = search rules in
    subst (All (AreClosedBounds start)) (take_all c.loop-opaque.opaque-index xs past) c.loop-opaque.invariant.2

pub returns-in_err-append-clause-cause : goal.returns-in_err-append-clause-cause
returns-in_err-append-clause-cause g c =
    let p = err_from_is_err_and c.from_residual-in_err-append.result c.from_residual-in_err-append.ensures.1 in
    rw (p.1, p.2) no_memory

pub returns-in_err-said-clause-cause : goal.returns-in_err-said-clause-cause
returns-in_err-said-clause-cause g c =
    let p = err_from_is_err_and c.from_residual.result c.from_residual.ensures.1 in
    rw (p.1, p.2) (unmade-before c.loop-opaque.invariant.0.grows c.in_err-said.ensures.cause)
