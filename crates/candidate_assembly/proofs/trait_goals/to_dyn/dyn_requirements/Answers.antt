use Rattle.std.proofs.Common.{rules, ◌≡◌, [], ◌∷◌, ◌++◌, ap, subst, ◌∙◌}
use Rattle.ir_trees.specs.declared.ir.kinds.GoalSource.TheVariants.{ImplWhereBound, Misc}
use Rattle.ir_trees.specs.Declarations.Context.{Context}
use Rattle.ir_trees.specs.Syntax.Words.{IsPreds, IsRegion}
use Rattle.ir_trees.specs.Declarations.Worlds.{World, TraitSort, parameters}
use Rattle.ir_trees.proofs.Growth.Kept.{grows-trans, ty-kept, world-kept}
use Rattle.candidate_assembly.proofs.Unsizing.DynRequirements.{ArePartsOf, dyn-required, region-still}
use Rattle.std.proofs.lemmas.Result.{err_from_is_err_and}
use Rattle.candidate_eval.specs.Interface.Unmade.IsUnmade.{no_memory}
use Rattle.candidate_eval.proofs.Interface.Unmade.{unmade-before}
use Rattle.candidate_assembly.proofs.trait_goals.to_dyn.dyn_requirements.Goals as goal

pub bound_requirements-requires-clause-bounds : goal.bound_requirements-requires-clause-bounds
bound_requirements-requires-clause-bounds g c = subst (λ (x : Context). IsPreds x.trees c.dyn_parts.result.0) c.cx.ensures c.dyn_parts.ensures.preds

pub meets_trait-requires-clause-ty : goal.meets_trait-requires-clause-ty
meets_trait-requires-clause-ty g c = (ty-kept (g.M.Build.context c.args.make.now) (g.M.Build.context c.bound_requirements.new.make) c.args.ty c.bound_requirements.ensures.grows c.requires.ty).0

pub meets_trait-requires-clause-no_parameters : goal.meets_trait-requires-clause-no_parameters
meets_trait-requires-clause-no_parameters g c =
    ap (λ (w : World). parameters w TraitSort c.args.sized.0) (world-kept (g.M.Build.context c.args.make.now) (g.M.Build.context c.bound_requirements.new.make) c.bound_requirements.ensures.grows).0 ∙ c.requires.sized

pub outlives-requires-clause-ty : goal.outlives-requires-clause-ty
outlives-requires-clause-ty g c =
    let start = g.M.Build.context c.args.make.now in
    let mid = g.M.Build.context c.meets_trait.new.make in
    (ty-kept start mid c.args.ty (grows-trans start (g.M.Build.context c.bound_requirements.new.make) mid c.bound_requirements.ensures.grows c.meets_trait.ensures.grows) c.requires.ty).0

pub outlives-requires-clause-region : goal.outlives-requires-clause-region
outlives-requires-clause-region g c =
    let start = g.M.Build.context c.args.make.now in
    let mid = g.M.Build.context c.meets_trait.new.make in
    let region = subst (λ (x : Context). IsRegion x.trees c.dyn_parts.result.1) c.cx.ensures c.dyn_parts.ensures.region in
    (region-still start mid c.dyn_parts.result.1 (grows-trans start (g.M.Build.context c.bound_requirements.new.make) mid c.bound_requirements.ensures.grows c.meets_trait.ensures.grows) region).0

pub returns-in_err-is_sized-clause-grows : goal.returns-in_err-is_sized-clause-grows
returns-in_err-is_sized-clause-grows g c =
    grows-trans (g.M.Build.context c.args.make.now) (g.M.Build.context c.bound_requirements.new.make) (g.M.Build.context c.meets_trait.new.make) c.bound_requirements.ensures.grows c.meets_trait.ensures.grows

pub returns-in_err-lives-clause-grows : goal.returns-in_err-lives-clause-grows
returns-in_err-lives-clause-grows g c =
    let start = g.M.Build.context c.args.make.now in
    let mid = g.M.Build.context c.meets_trait.new.make in
    grows-trans start mid (g.M.Build.context c.outlives.new.make) (grows-trans start (g.M.Build.context c.bound_requirements.new.make) mid c.bound_requirements.ensures.grows c.meets_trait.ensures.grows) c.outlives.ensures.grows

pub returns-in_err-push-clause-grows : goal.returns-in_err-push-clause-grows
returns-in_err-push-clause-grows g c =
    let start = g.M.Build.context c.args.make.now in
    let mid = g.M.Build.context c.meets_trait.new.make in
    grows-trans start mid (g.M.Build.context c.outlives.new.make) (grows-trans start (g.M.Build.context c.bound_requirements.new.make) mid c.bound_requirements.ensures.grows c.meets_trait.ensures.grows) c.outlives.ensures.grows

pub returns-in_err-push-2-clause-grows : goal.returns-in_err-push-2-clause-grows
returns-in_err-push-2-clause-grows g c =
    let start = g.M.Build.context c.args.make.now in
    let mid = g.M.Build.context c.meets_trait.new.make in
    grows-trans start mid (g.M.Build.context c.outlives.new.make) (grows-trans start (g.M.Build.context c.bound_requirements.new.make) mid c.bound_requirements.ensures.grows c.meets_trait.ensures.grows) c.outlives.ensures.grows

pub returns-clause-grows : goal.returns-clause-grows
returns-clause-grows g c =
    let start = g.M.Build.context c.args.make.now in
    let mid = g.M.Build.context c.meets_trait.new.make in
    grows-trans start mid (g.M.Build.context c.outlives.new.make) (grows-trans start (g.M.Build.context c.bound_requirements.new.make) mid c.bound_requirements.ensures.grows c.meets_trait.ensures.grows) c.outlives.ensures.grows

pub returns-clause-fit : goal.returns-clause-fit
returns-clause-fit g c =
    let start = g.M.Build.context c.args.make.now in
    let list = c.push.new.self.items in
    let one : list ≡ c.in_ok-requirements.requirements.items ++ (ImplWhereBound, c.in_ok-is_sized.is_sized) ∷ [] = search rules in
    let two : c.push-2.new.self.items ≡ list ++ (Misc, c.in_ok-lives.lives) ∷ [] = search rules in
    let parts = c.dyn_parts.ensures in
    let read = subst (λ (x : Context). ArePartsOf x.trees c.args.target c.dyn_parts.result.0 c.dyn_parts.result.1) c.cx.ensures (record { region = parts.region; bounds = parts.bounds; region_tree = parts.region_tree }) in
    (dyn-required start (g.M.Build.context c.bound_requirements.new.make) (g.M.Build.context c.meets_trait.new.make) (g.M.Build.context c.outlives.new.make) c.args.ty c.args.target c.dyn_parts.result.0 c.dyn_parts.result.1 c.args.sized
    c.in_ok-requirements.requirements.items list c.push-2.new.self.items c.in_ok-is_sized.is_sized c.in_ok-lives.lives read c.requires.ty
    c.bound_requirements.ensures.grows c.in_ok-requirements.ensures.fit c.in_ok-requirements.ensures.steps
    c.meets_trait.ensures.grows c.in_ok-is_sized.ensures.sort c.in_ok-is_sized.ensures.tree c.outlives.ensures.grows c.in_ok-lives.ensures.sort c.in_ok-lives.ensures.tree one two).fit

pub returns-clause-steps : goal.returns-clause-steps
returns-clause-steps g c =
    let start = g.M.Build.context c.args.make.now in
    let list = c.push.new.self.items in
    let one : list ≡ c.in_ok-requirements.requirements.items ++ (ImplWhereBound, c.in_ok-is_sized.is_sized) ∷ [] = search rules in
    let two : c.push-2.new.self.items ≡ list ++ (Misc, c.in_ok-lives.lives) ∷ [] = search rules in
    let parts = c.dyn_parts.ensures in
    let read = subst (λ (x : Context). ArePartsOf x.trees c.args.target c.dyn_parts.result.0 c.dyn_parts.result.1) c.cx.ensures (record { region = parts.region; bounds = parts.bounds; region_tree = parts.region_tree }) in
    (dyn-required start (g.M.Build.context c.bound_requirements.new.make) (g.M.Build.context c.meets_trait.new.make) (g.M.Build.context c.outlives.new.make) c.args.ty c.args.target c.dyn_parts.result.0 c.dyn_parts.result.1 c.args.sized
    c.in_ok-requirements.requirements.items list c.push-2.new.self.items c.in_ok-is_sized.is_sized c.in_ok-lives.lives read c.requires.ty
    c.bound_requirements.ensures.grows c.in_ok-requirements.ensures.fit c.in_ok-requirements.ensures.steps
    c.meets_trait.ensures.grows c.in_ok-is_sized.ensures.sort c.in_ok-is_sized.ensures.tree c.outlives.ensures.grows c.in_ok-lives.ensures.sort c.in_ok-lives.ensures.tree one two).are

pub returns-in_err-push-clause-cause : goal.returns-in_err-push-clause-cause
returns-in_err-push-clause-cause g c =
    let p = err_from_is_err_and c.from_residual-in_err-push.result c.from_residual-in_err-push.ensures.1 in
    rw (p.1, p.2) no_memory

pub returns-in_err-push-2-clause-cause : goal.returns-in_err-push-2-clause-cause
returns-in_err-push-2-clause-cause g c =
    let p = err_from_is_err_and c.from_residual-in_err-push-2.result c.from_residual-in_err-push-2.ensures.1 in
    rw (p.1, p.2) no_memory

pub returns-in_err-is_sized-clause-cause : goal.returns-in_err-is_sized-clause-cause
returns-in_err-is_sized-clause-cause g c =
    let p = err_from_is_err_and c.from_residual-in_err-is_sized.result c.from_residual-in_err-is_sized.ensures.1 in
    rw (p.1, p.2) (unmade-before c.bound_requirements.ensures.grows c.in_err-is_sized.ensures.cause)

pub returns-in_err-lives-clause-cause : goal.returns-in_err-lives-clause-cause
returns-in_err-lives-clause-cause g c =
    let p = err_from_is_err_and c.from_residual-in_err-lives.result c.from_residual-in_err-lives.ensures.1 in
    rw (p.1, p.2) (unmade-before (grows-trans _ _ _ c.bound_requirements.ensures.grows c.meets_trait.ensures.grows) c.in_err-lives.ensures.cause)
