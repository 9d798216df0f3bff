use Rattle.std.proofs.Common.{rules, ◌≤◌, [], ◌++◌, List, length, refl, ◌∙◌, ap, map}
use Rattle.ir_trees.specs.Syntax.Trees.{Tree}
use Rattle.ir_trees.specs.Syntax.Words.{clause_tree}
use Rattle.ir_trees.proofs.Growth.Kept.{args-kept, grows-trans, ty-kept}
use Rattle.candidate_eval.proofs.Dynamic.Required.{all_gathered, more_gathered, none_added}
use Rattle.candidate_eval.proofs.Builtins.Types.{ty_at}
use Rattle.candidate_assembly.proofs.Rules.PartClauses.{part-kept, parts-said, said_of_part, under-kept}
use Rattle.candidate_assembly.proofs.Goals.TraitClauses.{fit-kept}
use Rattle.std.proofs.lemmas.Result.{err_from_is_err_and}
use Rattle.candidate_eval.proofs.Interface.Unmade.{unmade-before}
use Rattle.candidate_assembly.proofs.trait_goals.parts.for_parts.Goals as goal

pub loop-ty-init : goal.loop-ty-init
loop-ty-init g c = (none_added _ _ _ _ refl c.new-list.ensures.items refl, refl)

pub push_part-requires-clause-args : goal.push_part-requires-clause-args
push_part-requires-clause-args g c = (args-kept _ _ c.args.predicate.trait_ref.args c.loop-ty.invariant.0.grows c.requires.args).0

pub push_part-requires-clause-fit : goal.push_part-requires-clause-fit
push_part-requires-clause-fit g c = fit-kept _ _ c.args.predicate.trait_ref c.loop-ty.invariant.0.grows c.requires.args c.requires.fit

pub push_part-requires-clause-under : goal.push_part-requires-clause-under
push_part-requires-clause-under g c = (under-kept _ _ c.args.under c.loop-ty.invariant.0.grows c.requires.under).0

pub push_part-requires-clause-ty : goal.push_part-requires-clause-ty
push_part-requires-clause-ty g c =
    (ty-kept (g.M.Build.context c.args.make.now) _ _ c.loop-ty.invariant.0.grows (ty_at (g.M.Build.context c.args.make.now).trees c.args.types.now c.loop-ty.ty-index _ c.requires.types c.loop-ty-test.true)).0

pub loop-ty-preserved : goal.loop-ty-preserved
loop-ty-preserved g c =
    let start = g.M.Build.context c.args.make.now in
    let so = c.loop-ty.invariant.0 in
    let is = ty_at start.trees c.args.types.now c.loop-ty.ty-index _ c.requires.types c.loop-ty-test.true in
    let stays = part-kept start (g.M.Build.context c.loop-ty.make) c.args.predicate c.args.under _ so.grows c.requires.args c.requires.under is in (
      more_gathered start (g.M.Build.context c.loop-ty.make) (g.M.Build.context c.push_part.new.make) [] c.loop-ty.list.items c.push_part.new.list.items (said_of_part start.trees c.args.predicate c.args.under) c.args.types.now c.loop-ty.ty-index _ so
          c.loop-ty-test.true c.push_part.ensures.grows c.in_ok-push_part.ensures.sort (c.in_ok-push_part.ensures.trees ∙ ap (λ (ts : List Tree). map (clause_tree (g.M.Build.context c.loop-ty.make).trees) c.loop-ty.list.items ++ ts) stays),
      c.push_part.ensures.rest ∙ c.loop-ty.invariant.1,
    )

pub returns-clause-trees : goal.returns-clause-trees
returns-clause-trees g c =
    let start = g.M.Build.context c.args.make.now in
    let past : length c.args.types.now ≤ c.loop-ty.ty-index = search rules in
    all_gathered start _ [] c.loop-ty.list.items (said_of_part start.trees c.args.predicate c.args.under) c.args.types.now c.loop-ty.ty-index c.loop-ty.invariant.0 past ∙ parts-said start.trees c.args.predicate c.args.under c.args.types.now

pub returns-in_err-push_part-clause-grows : goal.returns-in_err-push_part-clause-grows
returns-in_err-push_part-clause-grows g c = grows-trans _ _ _ c.loop-ty.invariant.0.grows c.push_part.ensures.grows

pub returns-in_err-push_part-clause-cause : goal.returns-in_err-push_part-clause-cause
returns-in_err-push_part-clause-cause g c =
    let p = err_from_is_err_and c.from_residual.result c.from_residual.ensures.1 in
    rw (p.1, p.2) (unmade-before c.loop-ty.invariant.0.grows c.in_err-push_part.ensures.cause)
