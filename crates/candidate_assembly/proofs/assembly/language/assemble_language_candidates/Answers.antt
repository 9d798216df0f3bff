use Rattle.std.proofs.Common.{◌≡◌, List, None, Some, Ok, ap, subst}
use Rattle.ir_trees.specs.Declarations.Context.{Context}
use Rattle.candidate_eval.specs.Derivations.Rules.{Rule}
use Rattle.candidate_assembly.specs.Answers.Assembled.{named_rules, rule_name}
use Rattle.candidate_assembly.specs.Rules.Language.{rule_named}
use Rattle.candidate_assembly.specs.Answers.Listing.{ConsidersAll}
use Rattle.candidate_assembly.proofs.Lists.Listing.{no-rule-listed, one-listed, whole_list}
use Rattle.candidate_assembly.proofs.assembly.language.assemble_language_candidates.Goals as goal

pub returns-in_default : goal.returns-in_default
returns-in_default g c =
    let E = g.E.EvalCtxt in
    let K = g.G.GoalKind in
    let context = g.E.Build.context in
    let first = c.args.ecx.now in
    let old = context first in
    let seen = K.kind.seen old.trees c.args.env c.args.predicate in
    let named : None ≡ rule_name K.kind.rules old seen = subst (λ (x : Context). None ≡ rule_name K.kind.rules x (K.kind.seen x.trees c.args.env c.args.predicate)) c.cx.ensures c.in_default.ensures in
    subst (λ (rs : List Rule). ConsidersAll E.fixed E.judge E.state E.probes context E.stops first first (E.state first) (λ x. c.args.candidates.now.items) (whole_list E.fixed E.judge E.state context first c.args.candidates.now.items rs) (Ok tt))
    (ap (named_rules K.kind.rules old seen) named)
    (no-rule-listed (λ f. (g.met.E.EvalCtxt.lawful f).alike_judged_alike) first c.args.candidates.now.items tt c.requires.candidates)

pub returns : goal.returns
returns g c =
    let E = g.E.EvalCtxt in
    let K = g.G.GoalKind in
    let context = g.E.Build.context in
    let first = c.args.ecx.now in
    let old = context first in
    let seen = K.kind.seen old.trees c.args.env c.args.predicate in
    let named : Some (rule_named c.in-Some.rule) ≡ rule_name K.kind.rules old seen = subst (λ (x : Context). Some (rule_named c.in-Some.rule) ≡ rule_name K.kind.rules x (K.kind.seen x.trees c.args.env c.args.predicate)) c.cx.ensures c.in-Some.ensures in
    subst (λ (rs : List Rule). ConsidersAll E.fixed E.judge E.state E.probes context E.stops first c.consider_builtin_candidate-answer.new.ecx (E.state first) (λ x. c.push_considered.new.candidates.items) (whole_list E.fixed E.judge E.state context first c.args.candidates.now.items rs) c.push_considered.result)
    (ap (named_rules K.kind.rules old seen) named)
    (one-listed (λ f. (g.met.E.EvalCtxt.lawful f).alike_judged_alike) first c.consider_builtin_candidate-answer.new.ecx c.args.candidates.now.items c.push_considered.new.candidates.items _ _ c.push_considered.result c.requires.candidates c.consider_builtin_candidate-answer.ensures c.push_considered.ensures)
