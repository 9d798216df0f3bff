use Rattle.std.proofs.Common.{refl, ◌∙◌, ap}
use Rattle.ir_trees.specs.Syntax.Trees.{ArgumentsKind, holds, is_param}
use Rattle.ir_trees.proofs.Growth.Made.{IsArgs-grows}
use Rattle.assembly_notation.proofs.Lacking.{lacks-grows, args-lacks, trait-lacks}
use Rattle.ir_trees.proofs.Growth.Kept.{grows-trans}
use Rattle.assembly_notation.proofs.building.trait_bound.Goals as goal

pub returns-clause-fits : goal.returns-clause-fits
returns-clause-fits g c =
    let args = IsArgs-grows _ _ c.in_ok-args.args c.binder.ensures.grows c.in_ok-args.ensures.sort in
    let vars = c.in_ok-vars.ensures.sort in
    cc

pub returns-clause-no_param : goal.returns-clause-no_param
returns-clause-no_param g c = λ s.
    let args = c.in_ok-args.args in
    let is = c.in_ok-args.ensures.sort in
    let below = args-lacks _ args is (ap (holds is_param) c.in_ok-args.ensures.tree ∙ c.requires.no_param s) in
    trait-lacks _ c.in_ok-vars.vars c.args.id args c.in_ok-vars.ensures.no_param
    (lacks-grows _ _ args.0 ArgumentsKind c.binder.ensures.grows refl is below)

pub returns-in_err-vars-clause-grows : goal.returns-in_err-vars-clause-grows
returns-in_err-vars-clause-grows g c = grows-trans _ _ _ c.args-2.ensures.kept c.binder.ensures.grows

pub returns-clause-grows : goal.returns-clause-grows
returns-clause-grows g c = grows-trans _ _ _ c.args-2.ensures.kept c.binder.ensures.grows
