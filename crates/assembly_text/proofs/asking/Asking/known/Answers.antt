use Rattle.std.proofs.Common.{rules}
use Rattle.std.proofs.Common.{refl, sym, ◌∙◌, ap}
use Rattle.ir_trees.specs.Declarations.Context.{world}
use Rattle.ir_trees.specs.Declarations.References.{reference_of}
use Rattle.candidate_eval.specs.Knowability.Orphan.{plain, bare_knowledge}
use Rattle.candidate_eval.proofs.Knowability.Lowering.{plain_knowledge}
use Rattle.candidate_eval.specs.Knowability.Normalizer.{exactly, refused_growth}
use Rattle.candidate_eval.proofs.Knowability.Resolved.{all-resolved}
use Rattle.candidate_eval.proofs.Frontier.Calls.{told-unless-refused}
use Rattle.assembly_text.proofs.Giving.{declared_grows}
use Rattle.assembly_text.proofs.asking.Asking.known.Goals as goal

pub returns-clause-no_unnamed_header : goal.returns-clause-no_unnamed_header
returns-clause-no_unnamed_header c = λ na ok.
    c.trait_ref_is_knowable.ensures.no_unnamed_header
    (record {
      normaliser = record { at = λ f x t a f' x' q g i b n v. let k = n.called in let l = n.lends in let m = n.leaves in search rules; values = λ f x t q g. refl };
      resolved = all-resolved _;
    }) na ok

pub returns-clause-downstream_header : goal.returns-clause-downstream_header
returns-clause-downstream_header c = λ p ok d.
    c.trait_ref_is_knowable.ensures.downstream_header
    (record {
      normaliser = record { at = λ f x t a f' x' q g i b n v. let k = n.called in let l = n.lends in let m = n.leaves in search rules; values = λ f x t q g. refl };
      resolved = all-resolved _;
    }) p ok d

pub returns-clause-no_covered_header : goal.returns-clause-no_covered_header
returns-clause-no_covered_header c = λ na ok o.
    c.trait_ref_is_knowable.ensures.no_covered_header
    (record {
      normaliser = record { at = λ f x t a f' x' q g i b n v. let k = n.called in let l = n.lends in let m = n.leaves in search rules; values = λ f x t q g. refl };
      resolved = all-resolved _;
    }) na ok o

pub returns-clause-answer : goal.returns-clause-answer
returns-clause-answer c = λ ne.
    let cx = c.args.self.now.scope.maker in
    let e = c.trait_ref_is_knowable.ensures.answer (exactly (λ x. x) refused_growth refl plain)
    (record { at = λ f x t a f' x' q g i b n v. let k = n.called in let l = n.lends in let m = n.leaves in search rules; values = λ f x t q g. refl }) (told-unless-refused _ ne) in
    sym (ap bare_knowledge e.answer)
    ∙ plain_knowledge _ (world cx) cx.local.0 cx.limits.orphan_walk (λ s t. t) _ (reference_of cx.trees c.args.trait_ref) (all-resolved _)

pub invariant_of-self : goal.invariant_of-self
invariant_of-self c = record { given_is_declared = declared_grows _ _ _ c.trait_ref_is_knowable.ensures.grows c.args.self.now.given_is_declared }
