use Rattle.std.proofs.Common.{ap, sym, ◌∙◌}
use Rattle.ir_trees.specs.Instantiation.Folds.{arg_tree}
use Rattle.ir_trees.specs.Syntax.Kinds.{arg_kind}
use Rattle.ir_trees.specs.Unification.Substitutions.{fits_sort, is_constant_kind}
use Rattle.ir_trees.specs.Syntax.Trees.{is_type_kind}
use Rattle.ir_trees.proofs.Traversal.Asking.{arg-below}
use Rattle.candidate_rounds.proofs.Equations.Assigning.{fits-constant, fits-general, not-constant, not-type}
use Rattle.candidate_rounds.proofs.rounds.binding.fits_sort.Goals as goal

pub head-head-requires : goal.head-head-requires
head-head-requires c = rw c.number.ensures (arg-below c.args.cx.now.trees c.args.arg c.requires)

pub returns-in-Ty : goal.returns-in-Ty
returns-in-Ty c =
    let ts = c.args.cx.now.trees in
    sym (ap (λ s. fits_sort s (arg_tree ts c.args.arg).head) c.in-General.is ∙ (fits-general ts c.args.arg c.requires ∙ ap (λ a. is_type_kind (arg_kind a)) c.in-Ty.is))

pub returns-in_default : goal.returns-in_default
returns-in_default c =
    let ts = c.args.cx.now.trees in
    sym (ap (λ s. fits_sort s (arg_tree ts c.args.arg).head) c.in-General.is ∙ (fits-general ts c.args.arg c.requires ∙ not-type c.args.arg c.in_default.not-Ty))

pub returns-in-Const : goal.returns-in-Const
returns-in-Const c =
    let ts = c.args.cx.now.trees in
    sym (ap (λ s. fits_sort s (arg_tree ts c.args.arg).head) c.in-Constant.is ∙ (fits-constant ts c.args.arg c.requires ∙ ap (λ a. is_constant_kind (arg_kind a)) c.in-Const.is))

pub returns-in_default-matches-3 : goal.returns-in_default-matches-3
returns-in_default-matches-3 c =
    let ts = c.args.cx.now.trees in
    sym (ap (λ s. fits_sort s (arg_tree ts c.args.arg).head) c.in-Constant.is ∙ (fits-constant ts c.args.arg c.requires ∙ not-constant c.args.arg c.in_default-matches-3.not-Const))
