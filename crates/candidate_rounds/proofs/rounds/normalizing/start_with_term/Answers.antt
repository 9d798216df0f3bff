use Rattle.std.proofs.Common.{sym, ap, ◌∙◌}
use Rattle.ir_trees.specs.Declarations.Context.{Context}
use Rattle.ir_trees.specs.declared.ir.heads.VariableSort.TheVariants.{General}
use Rattle.candidate_eval.specs.declared.eval.variable.VariableKind.TheVariants.{Term}
use Rattle.candidate_eval.specs.Judges.States.{variable}
use Rattle.projection_goals.specs.Normalizing.{trait_named}
use Rattle.rounds_judge.specs.Table.Keys.{Key}
use Rattle.candidate_rounds.specs.Calls.Starting.{started}
use Rattle.candidate_rounds.specs.Table.Goals.{key_seen}
use Rattle.candidate_rounds.proofs.Table.Normalizing.{key-with-term, newest-with-term, seen-with-term, takes-grown, term-goal-is, term-goal-says}
use Rattle.candidate_rounds.proofs.rounds.normalizing.start_with_term.Goals as goal

pub predicate_of-predicate-requires : goal.predicate_of-predicate-requires
predicate_of-predicate-requires c =
    key-with-term c.args.cx.now.trees c.term.new.cx.trees c.term.ensures.grows.kept c.args.key c.add_term.new.key c.in_ok-newest.newest c.requires.key c.in_ok-newest.ensures.newest c.add_term.ensures.goal c.in_ok-number.ensures.variables

pub returns-clause-inference : goal.returns-clause-inference
returns-clause-inference c =
    let k = key_seen c.args.cx.now.trees c.args.key in
    let seen = seen-with-term c.args.cx.now.trees c.term.new.cx.trees c.term.ensures.grows.kept c.args.key c.add_term.new.key c.in_ok-newest.newest c.requires.key c.in_ok-newest.ensures.newest c.add_term.ensures.goal c.in_ok-number.ensures.variables in
    let newest = c.in_ok-newest.ensures.newest ∙ sym (newest-with-term k) in
    let variables = c.as_slice.ensures.value ∙ ap (λ (y : Key). y.variables) seen in
    c.in_ok-inference.ensures.started ∙ (λ i. started (newest i) (variables i))

pub returns-clause-goal : goal.returns-clause-goal
returns-clause-goal c =
    let us = c.term.new.cx in
    let grows = c.term.ensures.grows in
    let seen = seen-with-term c.args.cx.now.trees us.trees grows.kept c.args.key c.add_term.new.key c.in_ok-newest.newest c.requires.key c.in_ok-newest.ensures.newest c.add_term.ensures.goal c.in_ok-number.ensures.variables in
    let said = c.predicate_of-predicate.ensures in
    let number = c.in_ok-number.ensures.number in
    term-goal-is us c.add_term.new.key.goal.param_env (key_seen c.args.cx.now.trees c.args.key) c.args.alias c.in_ok-term.term c.predicate_of-predicate.result said.goal (said.says ∙ ap (λ (y : Key). y.goal) seen)
    (takes-grown c.args.cx.now us c.args.alias grows c.requires.takes) (c.requires.of ∙ ap (λ (y : Context). trait_named y c.args.alias.id.0) (sym grows.same))
    c.in_ok-term.ensures.sort (c.in_ok-term.ensures.tree ∙ ap (λ n. variable (Term General) n) number)

pub returns-clause-says : goal.returns-clause-says
returns-clause-says c =
    let us = c.term.new.cx in
    let grows = c.term.ensures.grows in
    let seen = seen-with-term c.args.cx.now.trees us.trees grows.kept c.args.key c.add_term.new.key c.in_ok-newest.newest c.requires.key c.in_ok-newest.ensures.newest c.add_term.ensures.goal c.in_ok-number.ensures.variables in
    let said = c.predicate_of-predicate.ensures in
    let number = c.in_ok-number.ensures.number in
    term-goal-says us c.add_term.new.key.goal.param_env (key_seen c.args.cx.now.trees c.args.key) c.args.alias c.in_ok-term.term c.predicate_of-predicate.result said.goal (said.says ∙ ap (λ (y : Key). y.goal) seen)
    (takes-grown c.args.cx.now us c.args.alias grows c.requires.takes) (c.requires.of ∙ ap (λ (y : Context). trait_named y c.args.alias.id.0) (sym grows.same))
    c.in_ok-term.ensures.sort (c.in_ok-term.ensures.tree ∙ ap (λ n. variable (Term General) n) number)
