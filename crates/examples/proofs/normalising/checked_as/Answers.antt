use Rattle.std.proofs.Common.{◌≡◌, rules, refl, sym, ◌∙◌}
use Rattle.ir_trees.specs.Declarations.Context.{world}
use Rattle.ir_trees.specs.Syntax.Words.{args_forest, ty_tree}
use Rattle.candidate_eval.specs.Knowability.Normalizer.{refused_growth}
use Rattle.candidate_eval.specs.Knowability.Orphan.{Sees, view, stateless}
use Rattle.candidate_eval.proofs.Frontier.Calls.{reached-keeps, told-unless-refused}
use Rattle.candidate_eval.proofs.Knowability.Simulation.{answer_seen}
use Rattle.examples.proofs.Made.{sees-held, sight-answer, keeps-held}
use Rattle.examples.proofs.normalising.checked_as.Goals as goal

pub orphan_check_trait_ref-requires-clause-keeps : goal.orphan_check_trait_ref-requires-clause-keeps
orphan_check_trait_ref-requires-clause-keeps c = record {
  at = λ f x t r f' x' q g i b n.
      let held : f.0 ≡ c.args.seen = reached-keeps _ _ (λ z. z.0 ≡ c.args.seen) (λ f x t r f' x' n p. let k = n.called in let l = n.lends in let m = n.leaves in search rules) _ _ f x q refl in
      let k = n.called in let l = n.lends in let m = n.leaves in
      keeps-held c.args.cx.now x x' c.args.seen r g c.requires.seen (search rules) (search rules);
}

pub returns : goal.returns
returns c = record {
  answer = λ ne.
      let cx = c.args.cx.now in
      let e = c.orphan_check_trait_ref.ensures.answer (record { untold = refused_growth; refused = refl; stands = λ s. (s.0, cx); normal = stateless (λ t. Sees (ty_tree cx.trees c.args.seen)) })
      (record {
        at = λ f x t r f' x' q g i b n told.
            let held : f.0 ≡ c.args.seen = reached-keeps _ _ (λ z. z.0 ≡ c.args.seen) (λ f x t r f' x' n p. let k = n.called in let l = n.lends in let m = n.leaves in search rules) _ _ f x q refl in
            let k = n.called in let l = n.lends in let m = n.leaves in
            sight-answer _ _ _ _ _ r (search rules) (sees-held cx x x' c.args.seen r g c.requires.seen (search rules) (search rules));
        values = λ f x t q g. refl;
      }) (told-unless-refused _ ne) in
      sym e.answer
      ∙ sym (answer_seen (λ s. tt) (view (λ s t. t) (stateless (λ t. Sees (ty_tree cx.trees c.args.seen)))) (view (λ s t. t) (stateless (λ t. Sees (ty_tree cx.trees c.args.seen)))) (λ s t. refl)
      (world cx) cx.local.0 c.args.in_crate cx.limits.orphan_walk _ (args_forest cx.trees c.args.trait_ref.args)).answer;
}
