use Rattle.std.proofs.Common.{◌≡◌, sym, ap, subst, ◌∙◌}
use Rattle.ir_trees.specs.Declarations.Context.{Context}
use Rattle.ir_trees.specs.Syntax.Words.{ty_tree}
use Rattle.candidate_eval.specs.Interface.Accounts.Question.{delay}
use Rattle.candidate_assembly.specs.Rules.AliasBounds.{end_at, variable_rule}
use Rattle.candidate_assembly.specs.Calls.AliasChains.{as_seen}
use Rattle.candidate_assembly.proofs.Aliases.AliasChains.{delayed, ended-as, list-none}
use Rattle.candidate_assembly.proofs.Lists.Listing.{no-rule-listed, one-listed}
use Rattle.candidate_assembly.proofs.assembly.alias_chain.consider_chain_end.Goals as goal

pub returns-in-Done : goal.returns-in-Done
returns-in-Done g c =
    let E = g.E.EvalCtxt in
    let G = g.G.GoalKind in
    let first = c.args.ecx.now in
    let old = g.E.Build.context first in
    let is = sym (subst (λ (x : Context). as_seen (E.state first) c.chain_end.result ≡ end_at c.args.kind (E.state first) (ty_tree x.trees c.args.ty).head) c.cx.ensures (c.chain_end.ensures (E.state first))) ∙ ap (as_seen (E.state first)) c.in-Done.is in
    ended-as G.kind.rules first first c.args.candidates.now.items c.args.candidates.now.items (G.kind.seen old.trees c.args.env c.args.predicate) _ is
    (list-none first first (E.state first) _ (no-rule-listed (λ f. (g.met.E.EvalCtxt.lawful f).alike_judged_alike) first c.args.candidates.now.items _ c.requires.candidates))

pub returns-in-Misplaced : goal.returns-in-Misplaced
returns-in-Misplaced g c =
    let E = g.E.EvalCtxt in
    let G = g.G.GoalKind in
    let first = c.args.ecx.now in
    let old = g.E.Build.context first in
    let is = sym (subst (λ (x : Context). as_seen (E.state first) c.chain_end.result ≡ end_at c.args.kind (E.state first) (ty_tree x.trees c.args.ty).head) c.cx.ensures (c.chain_end.ensures (E.state first))) ∙ ap (as_seen (E.state first)) c.in-Misplaced.is in
    ended-as G.kind.rules first c.delay_bug.new.self c.args.candidates.now.items c.args.candidates.now.items (G.kind.seen old.trees c.args.env c.args.predicate) c.delay_bug.result is
    (delayed (λ f. (g.met.E.EvalCtxt.lawful f).alike_judged_alike) g.met.E.EvalCtxt.stops_itself first c.delay_bug.new.self (delay _) c.args.candidates.now.items c.delay_bug.result c.requires.candidates c.delay_bug.ensures.kept c.delay_bug.ensures.same c.delay_bug.ensures.cause)

pub returns-in-AtVariable : goal.returns-in-AtVariable
returns-in-AtVariable g c =
    let E = g.E.EvalCtxt in
    let G = g.G.GoalKind in
    let first = c.args.ecx.now in
    let old = g.E.Build.context first in
    let is = sym (subst (λ (x : Context). as_seen (E.state first) c.chain_end.result ≡ end_at c.args.kind (E.state first) (ty_tree x.trees c.args.ty).head) c.cx.ensures (c.chain_end.ensures (E.state first))) ∙ ap (as_seen (E.state first)) c.in-AtVariable.is in
    ended-as G.kind.rules first c.consider_behind_variable-answer.new.ecx c.push_considered.new.candidates.items c.args.candidates.now.items (G.kind.seen old.trees c.args.env c.args.predicate) c.push_considered.result is
    (list-none first c.consider_behind_variable-answer.new.ecx (E.state first) c.push_considered.result
    (one-listed (λ f. (g.met.E.EvalCtxt.lawful f).alike_judged_alike) first c.consider_behind_variable-answer.new.ecx c.args.candidates.now.items c.push_considered.new.candidates.items (variable_rule G.kind.rules (G.kind.seen old.trees c.args.env c.args.predicate)) c.consider_behind_variable-answer.result c.push_considered.result c.requires.candidates
    c.consider_behind_variable-answer.ensures c.push_considered.ensures))
