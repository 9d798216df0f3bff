use Rattle.std.proofs.Common.{◌≡◌, true, false, refl, sym, ap, subst, ◌∙◌}
use Rattle.ir_trees.specs.Syntax.Binders.{escapes}
use Rattle.ir_trees.specs.Declarations.Context.{Context}
use Rattle.ir_trees.specs.Syntax.Words.{args_forest}
use Rattle.ir_trees.proofs.Growth.Kept.{args-kept, grows-trans}
use Rattle.candidate_eval.proofs.Dynamic.Objects.{env-kept}
use Rattle.candidate_assembly.proofs.Calls.Keeping.{trait-goal-kept}
use Rattle.candidate_rounds.specs.Evaluators.Interface.{Rest}
use Rattle.candidate_rounds.specs.Evaluators.Known.{state}
use Rattle.assembly_text.specs.Solving.{roots_for, with_roots}
use Rattle.assembly_text.proofs.MayBeGiven.{goal-of}
use Rattle.assembly_text.proofs.solving.environment.Goals as goal

pub returns-then-has_escaping_bound_vars-clause-ready : goal.returns-then-has_escaping_bound_vars-clause-ready
returns-then-has_escaping_bound_vars-clause-ready c =
    subst (λ (x : Context). escapes 0 (args_forest x.trees c.args.predicate.trait_ref.args) ≡ true) c.cx.ensures (sym (c.has_escaping_bound_vars.ensures.list refl) ∙ c.if-has_escaping_bound_vars.true)

pub add_roots-requires : goal.add_roots-requires
add_roots-requires c = (args-kept _ _ c.args.predicate.trait_ref.args c.in_ok-env.ensures.made.kept c.requires.read.args).0

pub returns-in_err-add_roots-clause-grows : goal.returns-in_err-add_roots-clause-grows
returns-in_err-add_roots-clause-grows c = grows-trans _ _ _ c.in_ok-env.ensures.made.kept c.add_roots.ensures.grows

pub returns-clause-grows : goal.returns-clause-grows
returns-clause-grows c = grows-trans _ _ _ c.in_ok-env.ensures.made.kept c.add_roots.ensures.grows

pub returns-clause-goal : goal.returns-clause-goal
returns-clause-goal c =
    let old = c.args.rounds.now.context in
    let mid = c.mk_param_env.new.self.context in
    let closed = subst (λ (x : Context). escapes 0 (args_forest x.trees c.args.predicate.trait_ref.args) ≡ false) c.cx.ensures (sym (c.has_escaping_bound_vars.ensures.list refl) ∙ c.if-has_escaping_bound_vars.false) in
    (trait-goal-kept mid c.add_roots.new.rounds.context c.in_ok-env.env c.args.predicate c.add_roots.ensures.grows
    (goal-of old mid c.in_ok-env.env c.args.predicate c.in_ok-env.ensures.made.kept c.in_ok-env.ensures.made.sort c.requires.read closed)).0

pub returns-clause-ready : goal.returns-clause-ready
returns-clause-ready c =
    let old = c.args.rounds.now in
    let mid = c.mk_param_env.new.self in
    let last = c.add_roots.new.rounds in
    let rest = c.in_ok-env.ensures.rest in
    let kept = c.in_ok-env.ensures.made.kept in
    let env = env-kept mid.context last.context c.in_ok-env.env c.add_roots.ensures.grows c.in_ok-env.ensures.made.sort in
    record {
      grows = grows-trans _ _ _ kept c.add_roots.ensures.grows;
      fixed_same = c.add_roots.ensures.fixed ∙ ap (λ (x : Rest). x.fixed) rest;
      roots = c.in_ok-add_roots.ensures.roots
          ∙ (ap (λ f. with_roots (roots_for f) (state mid)) (args-kept _ _ c.args.predicate.trait_ref.args kept c.requires.read.args).1
          ∙ ap (λ S. with_roots (roots_for (args_forest old.context.trees c.args.predicate.trait_ref.args)) S) (ap (λ (x : Rest). x.state) rest));
      sort = env.0;
      clauses = env.1 ∙ c.in_ok-env.ensures.made.tree;
    }
