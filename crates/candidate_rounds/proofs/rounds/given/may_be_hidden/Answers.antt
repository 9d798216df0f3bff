use Rattle.std.proofs.Common.{ap, refl, subst}
use Rattle.ir_trees.specs.declared.ir.heads.Head.TheVariants as H
use Rattle.ir_trees.specs.declared.ir.kinds.AliasKind.{AliasKind}
use Rattle.std.specs.Prelude.{◌↔◌, IsTrue, Bool}
use Rattle.ir_trees.specs.declared.ir.kinds.TyKind.TheVariants as K
use Rattle.ir_trees.specs.Instantiation.Owned.{is_unsolved}
use Rattle.ir_trees.specs.Syntax.Trees.{holds, is_param}
use Rattle.ir_trees.specs.Syntax.Words.{args_forest, kind_tree}
use Rattle.candidate_rounds.specs.Evaluators.Known.{MayBeHidden, is_opaque}
use Rattle.candidate_rounds.proofs.Evaluators.Given.{first, hidden-if, second, third}
use Rattle.candidate_rounds.proofs.rounds.given.may_be_hidden.Goals as goal

pub returns-then-not-has_marked : goal.returns-then-not-has_marked
returns-then-not-has_marked c =
    let ts = c.args.cx.now.trees in
    subst (λ (b : Bool). IsTrue b ↔ MayBeHidden (kind_tree ts (K.Alias c.args.opaque))) (third c.has_escaping_bound_vars.result c.has_marked.result c.has.result c.if-not-has_escaping_bound_vars.true c.if-not-has_marked.true)
    (hidden-if ts c.args.opaque c.requires (ap (λ (k : AliasKind). is_opaque (H.Alias k c.args.opaque.id)) c.in-Opaque.is) c.has_escaping_bound_vars.result c.has_marked.result c.has.result (c.has_escaping_bound_vars.ensures.list refl) (c.has_marked.ensures.list refl) (c.has.ensures.list refl))

pub returns-else-not-has_marked : goal.returns-else-not-has_marked
returns-else-not-has_marked c =
    let ts = c.args.cx.now.trees in
    subst (λ (b : Bool). IsTrue b ↔ MayBeHidden (kind_tree ts (K.Alias c.args.opaque))) (second c.has_escaping_bound_vars.result c.has_marked.result (holds is_param (args_forest c.args.cx.now.trees c.args.opaque.args)) c.if-not-has_escaping_bound_vars.true c.if-not-has_marked.false)
    (hidden-if ts c.args.opaque c.requires (ap (λ (k : AliasKind). is_opaque (H.Alias k c.args.opaque.id)) c.in-Opaque.is) c.has_escaping_bound_vars.result c.has_marked.result (holds is_param (args_forest c.args.cx.now.trees c.args.opaque.args)) (c.has_escaping_bound_vars.ensures.list refl) (c.has_marked.ensures.list refl) refl)

pub returns-else-not-has_escaping_bound_vars : goal.returns-else-not-has_escaping_bound_vars
returns-else-not-has_escaping_bound_vars c =
    let ts = c.args.cx.now.trees in
    subst (λ (b : Bool). IsTrue b ↔ MayBeHidden (kind_tree ts (K.Alias c.args.opaque))) (first c.has_escaping_bound_vars.result (holds is_unsolved (args_forest c.args.cx.now.trees c.args.opaque.args)) (holds is_param (args_forest c.args.cx.now.trees c.args.opaque.args)) c.if-not-has_escaping_bound_vars.false)
    (hidden-if ts c.args.opaque c.requires (ap (λ (k : AliasKind). is_opaque (H.Alias k c.args.opaque.id)) c.in-Opaque.is) c.has_escaping_bound_vars.result (holds is_unsolved (args_forest c.args.cx.now.trees c.args.opaque.args)) (holds is_param (args_forest c.args.cx.now.trees c.args.opaque.args)) (c.has_escaping_bound_vars.ensures.list refl) refl refl)
