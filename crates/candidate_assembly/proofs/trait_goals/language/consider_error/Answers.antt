use Rattle.std.proofs.Common.{◌≡◌, refl, subst, ap}
use Rattle.ir_trees.specs.Declarations.Context.{Context}
use Rattle.ir_trees.specs.declared.ir.heads.Flag.TheVariants as F
use Rattle.ir_trees.specs.Syntax.Flags.{mark}
use Rattle.ir_trees.specs.Syntax.Trees.{holds}
use Rattle.ir_trees.specs.Syntax.Words.{args_forest}
use Rattle.candidate_assembly.specs.Rules.BuiltinRules.{error_rule, plain_rule}
use Rattle.candidate_assembly.specs.Goals.TraitGoals.{trait_goal}
use Rattle.candidate_assembly.proofs.Calls.Considering.{considers-same}
use Rattle.candidate_assembly.proofs.trait_goals.language.consider_error.Goals as goal

pub returns : goal.returns
returns g c =
    let old = g.E.Build.context c.args.ecx.now in
    let now = trait_goal old.trees c.args.env c.args.predicate in
    let is = subst (λ (x : Context). c.has-applies.result ≡ holds (mark F.Error) (args_forest x.trees c.args.predicate.trait_ref.args)) c.cx.ensures (c.has-applies.ensures.list refl) in
    considers-same c.args.ecx.now c.consider_unconditional.new.ecx (error_rule now) (plain_rule now c.has-applies.result) c.consider_unconditional.result (ap (plain_rule now) is) c.consider_unconditional.ensures
