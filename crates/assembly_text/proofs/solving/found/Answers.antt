use Rattle.ir_trees.proofs.Growth.Kept.{args-kept, grows-trans}
use Rattle.candidate_eval.proofs.Dynamic.Objects.{env-kept}
use Rattle.candidate_assembly.proofs.Goals.TraitClauses.{fact-fits, fact-takes, fit-kept}
use Rattle.assembly_text.proofs.solving.found.Goals as goal

pub mk_clause-requires-clause-fits : goal.mk_clause-requires-clause-fits
mk_clause-requires-clause-fits c =
    let grows = grows-trans _ _ _ c.in_ok-param_env.ensures.made.kept c.in_ok-vars.ensures.made.kept in
    fact-fits _ c.in_ok-vars.vars c.args.predicate c.in_ok-vars.ensures.made.sort (args-kept _ _ c.args.predicate.trait_ref.args grows c.requires.args).0

pub mk_clause-requires-clause-takes : goal.mk_clause-requires-clause-takes
mk_clause-requires-clause-takes c = λ strict.
    let grows = grows-trans c.args.rounds.now.context _ c.mk_vars.new.self.context c.in_ok-param_env.ensures.made.kept c.in_ok-vars.ensures.made.kept in
    fact-takes c.mk_vars.new.self.context c.in_ok-vars.vars c.args.predicate c.in_ok-vars.ensures.made.sort (args-kept _ _ c.args.predicate.trait_ref.args grows c.requires.args).0
    (fit-kept c.args.rounds.now.context c.mk_vars.new.self.context c.args.predicate.trait_ref grows c.requires.args c.requires.fit)

pub add_goal-requires : goal.add_goal-requires
add_goal-requires c = (
  (env-kept _ _ c.in_ok-param_env.param_env (grows-trans _ _ _ c.in_ok-vars.ensures.made.kept c.in_ok-predicate.ensures.made.kept) c.in_ok-param_env.ensures.made.sort).0,
  c.in_ok-predicate.ensures.made.sort,
)
