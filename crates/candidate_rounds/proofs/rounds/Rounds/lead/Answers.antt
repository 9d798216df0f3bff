use Rattle.std.proofs.Common.{sym, ◌∙◌}
use Rattle.ir_trees.specs.Instantiation.Folds.{arg_tree}
use Rattle.ir_trees.specs.Syntax.Words.{env_forest}
use Rattle.ir_trees.specs.Unification.Substitutions.{alone}
use Rattle.candidate_eval.proofs.Dynamic.Objects.{env-kept}
use Rattle.candidate_rounds.specs.Evaluators.Known.{listing, state}
use Rattle.candidate_rounds.specs.Evaluators.Stopping.{IsOpeningStop}
use Rattle.candidate_rounds.proofs.Equations.Leading.{follows-rigidly, if-opening, if-unled, list-stops, on-led, singles-cause, singles-follow, singles-led, singles-unled}
use Rattle.candidate_rounds.proofs.Evaluators.Between.{parts}
use Rattle.candidate_rounds.proofs.Evaluators.Going.{goes-trans}
use Rattle.candidate_rounds.proofs.Stops.SettlingStops.{stop-becomes}
use Rattle.candidate_rounds.proofs.rounds.Rounds.lead.Goals as goal

pub returns-then-not-opens_aliases-clause-ok : goal.returns-then-not-opens_aliases-clause-ok
returns-then-not-opens_aliases-clause-ok c =
    let old = c.args.self.now in
    let ts = old.context.trees in
    on-led old (env_forest ts c.args.env) (alone (arg_tree ts c.args.a)) (alone (arg_tree ts c.args.b)) (sym c.opens_aliases.ensures ∙ c.if-not-opens_aliases.true) c.equate.result (state c.equate.new.self) c.equate.ensures.ok

pub returns-then-not-opens_aliases-clause-refused : goal.returns-then-not-opens_aliases-clause-refused
returns-then-not-opens_aliases-clause-refused c =
    let old = c.args.self.now in
    let ts = old.context.trees in
    if-unled old (env_forest ts c.args.env) (alone (arg_tree ts c.args.a)) (alone (arg_tree ts c.args.b)) (sym c.opens_aliases.ensures ∙ c.if-not-opens_aliases.true) c.equate.result c.equate.ensures.refused

pub returns-then-not-opens_aliases-clause-follows : goal.returns-then-not-opens_aliases-clause-follows
returns-then-not-opens_aliases-clause-follows c =
    let old = c.args.self.now in
    let ts = old.context.trees in
    follows-rigidly old (env_forest ts c.args.env) (alone (arg_tree ts c.args.a)) (alone (arg_tree ts c.args.b)) (sym c.opens_aliases.ensures ∙ c.if-not-opens_aliases.true) (parts c.recall_well_kept.ensures).given c.equate.result (state c.equate.new.self) c.equate.ensures.ok

pub returns-then-not-opens_aliases-clause-cause : goal.returns-then-not-opens_aliases-clause-cause
returns-then-not-opens_aliases-clause-cause c =
    let old = c.args.self.now in
    let ts = old.context.trees in
    if-opening old (env_forest ts c.args.env) (alone (arg_tree ts c.args.a)) (alone (arg_tree ts c.args.b)) (sym c.opens_aliases.ensures ∙ c.if-not-opens_aliases.true) c.equate.result c.equate.new.self.context.trees c.equate.ensures.cause

pub returns-in_err-a-clause-cause : goal.returns-in_err-a-clause-cause
returns-in_err-a-clause-cause c =
    let old = c.args.self.now in
    let ts = old.context.trees in
    stop-becomes (IsOpeningStop c.singles.new.self.context.trees (listing old) (state old) (env_forest ts c.args.env) (alone (arg_tree ts c.args.a)) (alone (arg_tree ts c.args.b)))
    c.from_residual.result c.in_err-a.field-0.0 c.from_residual.ensures.1
    (list-stops old (env_forest ts c.args.env) c.args.a c.args.b c.singles.new.self.context.trees _ (sym c.opens_aliases.ensures ∙ c.if-not-opens_aliases.false) c.in_err-a.ensures.cause)

pub lead_args-requires-clause-env : goal.lead_args-requires-clause-env
lead_args-requires-clause-env c = (env-kept c.args.self.now.context c.singles.new.self.context c.args.env c.singles.ensures.goes.0 c.requires.env).0

pub returns-clause-goes : goal.returns-clause-goes
returns-clause-goes c = goes-trans c.args.self.now c.singles.new.self c.lead_args.new.self c.singles.ensures.goes c.lead_args.ensures.goes

pub returns-clause-ok : goal.returns-clause-ok
returns-clause-ok c =
    singles-led c.args.self.now c.singles.new.self c.args.env c.args.a c.args.b c.in_ok-a.a c.in_ok-a.b (parts c.recall_well_kept.ensures).given c.requires.env c.singles.ensures.goes c.singles.ensures.state c.in_ok-a.ensures.left.1 c.in_ok-a.ensures.right.1
    c.lead_args.result (state c.lead_args.new.self) c.lead_args.ensures.ok

pub returns-clause-follows : goal.returns-clause-follows
returns-clause-follows c =
    singles-follow c.args.self.now c.singles.new.self c.args.env c.args.a c.args.b c.in_ok-a.a c.in_ok-a.b (parts c.recall_well_kept.ensures).given c.requires.env c.singles.ensures.goes c.singles.ensures.state c.in_ok-a.ensures.left.1 c.in_ok-a.ensures.right.1
    c.lead_args.result (state c.lead_args.new.self) c.lead_args.ensures.follows

pub returns-clause-refused : goal.returns-clause-refused
returns-clause-refused c =
    singles-unled c.args.self.now c.singles.new.self c.args.env c.args.a c.args.b c.in_ok-a.a c.in_ok-a.b (parts c.recall_well_kept.ensures).given c.requires.env c.singles.ensures.goes c.singles.ensures.state c.in_ok-a.ensures.left.1 c.in_ok-a.ensures.right.1
    c.lead_args.result c.lead_args.ensures.refused

pub returns-clause-cause : goal.returns-clause-cause
returns-clause-cause c =
    singles-cause c.args.self.now c.singles.new.self c.args.env c.args.a c.args.b c.in_ok-a.a c.in_ok-a.b (parts c.recall_well_kept.ensures).given c.requires.env c.singles.ensures.goes c.singles.ensures.state c.in_ok-a.ensures.left.1 c.in_ok-a.ensures.right.1
    c.lead_args.result c.lead_args.new.self.context.trees c.lead_args.ensures.cause
