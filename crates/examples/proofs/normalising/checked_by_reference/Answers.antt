use Rattle.std.proofs.Common.{rules, refl, sym, ◌∙◌}
use Rattle.ir_trees.specs.Declarations.Context.{world}
use Rattle.ir_trees.specs.Syntax.Words.{args_forest}
use Rattle.candidate_eval.specs.Knowability.Orphan.{Sees, view, stateless}
use Rattle.candidate_eval.proofs.Knowability.Simulation.{answer_seen}
use Rattle.examples.specs.Looks.{referenced, refused_node}
use Rattle.examples.proofs.Made.{sees-answer, sight-answer, told-unless-full}
use Rattle.examples.proofs.normalising.checked_by_reference.Goals as goal

pub returns : goal.returns
returns c = record {
  answer = λ m f.
      let cx = c.args.cx.now in
      let e = c.orphan_check_trait_ref.ensures.answer
      (record { untold = refused_node; refused = refl; stands = λ s. (s.0, cx); normal = stateless (λ t. Sees (referenced t)) })
      (record {
        at = λ f x t r f' x' q g i b n told. let k = n.called in let l = n.lends in let v = n.leaves in
            sight-answer _ _ _ _ _ r (search rules) (sees-answer _ _ r (search rules) (search rules) told);
        values = λ f x t q g. refl;
      }) (told-unless-full _ m f) in
      sym e.answer
      ∙ sym (answer_seen (λ s. tt) (view (λ s t. t) (stateless (λ t. Sees (referenced t)))) (view (λ s t. t) (stateless (λ t. Sees (referenced t)))) (λ s t. refl)
      (world cx) cx.local.0 c.args.in_crate cx.limits.orphan_walk _ (args_forest cx.trees c.args.trait_ref.args)).answer;
}
