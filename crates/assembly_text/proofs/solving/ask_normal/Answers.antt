use Rattle.std.proofs.Common.{◌≡◌, true, false, refl, sym, ap, subst, ◌∙◌}
use Rattle.ir_trees.specs.Syntax.Binders.{escapes}
use Rattle.ir_trees.specs.Declarations.Context.{Context}
use Rattle.ir_trees.specs.Syntax.Words.{args_forest}
use Rattle.ir_trees.proofs.Growth.Kept.{args-kept, grows-trans}
use Rattle.candidate_eval.proofs.Dynamic.Objects.{env-kept}
use Rattle.candidate_rounds.specs.Evaluators.Interface.{Rest}
use Rattle.candidate_rounds.specs.Evaluators.Known.{state}
use Rattle.candidate_rounds.specs.Table.Normalizing.{trait_predicate}
use Rattle.assembly_text.specs.Normalizing.NormalComesUnder.{asked, open_projection}
use Rattle.assembly_text.specs.Solving.{IsReady, roots_for, with_roots}
use Rattle.assembly_text.proofs.Answered.{on-answer}
use Rattle.assembly_text.proofs.Projections.{projection-kept, projection-of}
use Rattle.assembly_text.proofs.solving.ask_normal.Goals as goal

pub returns-then-has_escaping_bound_vars-clause-comes : goal.returns-then-has_escaping_bound_vars-clause-comes
returns-then-has_escaping_bound_vars-clause-comes c =
    open_projection (subst (λ (x : Context). escapes 0 (args_forest x.trees c.args.alias.args) ≡ true) c.cx.ensures (sym (c.has_escaping_bound_vars.ensures.list refl) ∙ c.if-has_escaping_bound_vars.true))

pub add_roots-requires : goal.add_roots-requires
add_roots-requires c = (args-kept _ _ c.args.alias.args c.in_ok-under.ensures.made.kept c.requires.projection.sort).0

pub run_normal-requires-clause-projection : goal.run_normal-requires-clause-projection
run_normal-requires-clause-projection c =
    let old = c.args.rounds.now.context in
    let mid = c.mk_param_env.new.self.context in
    let closed = subst (λ (x : Context). escapes 0 (args_forest x.trees c.args.alias.args) ≡ false) c.cx.ensures (sym (c.has_escaping_bound_vars.ensures.list refl) ∙ c.if-has_escaping_bound_vars.false) in
    projection-kept mid c.add_roots.new.rounds.context c.in_ok-under.under c.args.alias c.add_roots.ensures.grows
    (projection-of old mid c.in_ok-under.under c.args.alias c.in_ok-under.ensures.made.kept c.in_ok-under.ensures.made.sort c.requires.projection closed)

pub returns-in_err-add_roots-clause-grows : goal.returns-in_err-add_roots-clause-grows
returns-in_err-add_roots-clause-grows c = grows-trans _ _ _ c.in_ok-under.ensures.made.kept c.add_roots.ensures.grows

pub returns-clause-grows : goal.returns-clause-grows
returns-clause-grows c = grows-trans _ _ _ (grows-trans _ _ _ c.in_ok-under.ensures.made.kept c.add_roots.ensures.grows) c.run_normal.ensures.grows

pub returns-clause-comes : goal.returns-clause-comes
returns-clause-comes c =
    let old = c.args.rounds.now in
    let mid = c.mk_param_env.new.self in
    let last = c.add_roots.new.rounds in
    let rest = c.in_ok-under.ensures.rest in
    let kept = c.in_ok-under.ensures.made.kept in
    let sort = c.requires.projection.sort in
    let env = env-kept mid.context last.context c.in_ok-under.under c.add_roots.ensures.grows c.in_ok-under.ensures.made.sort in
    let ready : IsReady old c.args.clauses.now (trait_predicate old.context c.args.alias) last c.in_ok-under.under = record {
      grows = grows-trans _ _ _ kept c.add_roots.ensures.grows;
      fixed_same = c.add_roots.ensures.fixed ∙ ap (λ (x : Rest). x.fixed) rest;
      roots = c.in_ok-add_roots.ensures.roots
          ∙ (ap (λ f. with_roots (roots_for f) (state mid)) (args-kept _ _ c.args.alias.args kept sort).1
          ∙ ap (λ S. with_roots (roots_for (args_forest old.context.trees c.args.alias.args)) S) (ap (λ (x : Rest). x.state) rest));
      sort = env.0;
      clauses = env.1 ∙ c.in_ok-under.ensures.made.tree;
    } in
    on-answer c.run_normal.result (λ v h. asked last c.in_ok-under.under ready h) c.run_normal.ensures.comes
