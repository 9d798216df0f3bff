use Rattle.std.proofs.Common.{refl, ◌∙◌, ap}
use Rattle.ir_trees.specs.Syntax.Trees.{TypeKind, ArgumentsKind, holds, is_param}
use Rattle.ir_trees.proofs.Growth.Made.{IsTy-grows, IsArgs-grows}
use Rattle.assembly_notation.proofs.Lacking.{lacks-grows, args-lacks, projection-lacks}
use Rattle.ir_trees.proofs.Growth.Kept.{grows-trans}
use Rattle.assembly_notation.proofs.building.projection_bound.Goals as goal

pub returns-clause-fits : goal.returns-clause-fits
returns-clause-fits g c =
    let args = IsArgs-grows _ _ c.in_ok-args.args c.binder.ensures.grows c.in_ok-args.ensures.sort in
    let vars = c.in_ok-vars.ensures.sort in
    let now = IsTy-grows _ _ c.args.term c.args-2.ensures.kept c.requires.term in
    let term = IsTy-grows _ _ c.args.term c.binder.ensures.grows now in
    cc

pub returns-clause-no_param : goal.returns-clause-no_param
returns-clause-no_param g c = λ s.
    let args = c.in_ok-args.args in
    let is = c.in_ok-args.ensures.sort in
    let below = args-lacks _ args is (ap (holds is_param) c.in_ok-args.ensures.tree ∙ c.requires.list_no_param s) in
    let term = c.args.term in
    let now = IsTy-grows _ _ term c.args-2.ensures.kept c.requires.term in
    let lacks = lacks-grows _ _ term.0 TypeKind c.args-2.ensures.kept refl c.requires.term (c.requires.term_no_param s) in
    projection-lacks _ c.in_ok-vars.vars c.args.id args term c.in_ok-vars.ensures.no_param
    (lacks-grows _ _ args.0 ArgumentsKind c.binder.ensures.grows refl is below)
    (lacks-grows _ _ term.0 TypeKind c.binder.ensures.grows refl now lacks)

pub returns-in_err-vars-clause-grows : goal.returns-in_err-vars-clause-grows
returns-in_err-vars-clause-grows g c = grows-trans _ _ _ c.args-2.ensures.kept c.binder.ensures.grows

pub returns-clause-grows : goal.returns-clause-grows
returns-clause-grows g c = grows-trans _ _ _ c.args-2.ensures.kept c.binder.ensures.grows
