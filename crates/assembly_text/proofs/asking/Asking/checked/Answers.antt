use Rattle.std.proofs.Common.{rules}
use Rattle.std.proofs.Common.{refl, sym, ◌∙◌, ap}
use Rattle.ir_trees.specs.Declarations.Context.{world}
use Rattle.ir_trees.specs.Syntax.Words.{args_forest}
use Rattle.candidate_eval.specs.Knowability.Orphan.{plain, bare_answer}
use Rattle.candidate_eval.proofs.Knowability.Lowering.{plain_answer}
use Rattle.candidate_eval.specs.Knowability.Normalizer.{exactly, refused_growth}
use Rattle.candidate_eval.proofs.Knowability.Resolved.{all-resolved}
use Rattle.candidate_eval.proofs.Frontier.Calls.{told-unless-refused}
use Rattle.assembly_text.proofs.Giving.{declared_grows}
use Rattle.assembly_text.proofs.asking.Asking.checked.Goals as goal

pub returns-clause-no_foreign_header : goal.returns-clause-no_foreign_header
returns-clause-no_foreign_header c = λ p m ok.
    c.orphan_check_trait_ref.ensures.no_foreign_header
    (record {
      normaliser = record { at = λ f x t a f' x' q g i b n v. let k = n.called in let l = n.lends in let m = n.leaves in search rules; values = λ f x t q g. refl };
      resolved = all-resolved _;
    }) p m ok

pub returns-clause-answer : goal.returns-clause-answer
returns-clause-answer c = λ ne.
    let cx = c.args.self.now.scope.maker in
    let e = c.orphan_check_trait_ref.ensures.answer (exactly (λ x. x) refused_growth refl plain)
    (record { at = λ f x t a f' x' q g i b n v. let k = n.called in let l = n.lends in let m = n.leaves in search rules; values = λ f x t q g. refl }) (told-unless-refused _ ne) in
    sym (ap bare_answer e.answer)
    ∙ plain_answer _ (world cx) cx.local.0 c.args.in_crate cx.limits.orphan_walk (λ s t. t) _ (args_forest cx.trees c.args.trait_ref.args) (all-resolved _)

pub invariant_of-self : goal.invariant_of-self
invariant_of-self c = record { given_is_declared = declared_grows _ _ _ c.orphan_check_trait_ref.ensures.grows c.args.self.now.given_is_declared }
