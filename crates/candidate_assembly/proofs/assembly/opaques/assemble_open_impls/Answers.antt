use Rattle.std.proofs.Common.{sym, ap, ◌∙◌}
use Rattle.candidate_assembly.specs.declared.assembly.opaques.AssembleCandidatesFrom.{AssembleCandidatesFrom}
use Rattle.candidate_assembly.specs.Answers.Listing.{after_these, answers}
use Rattle.candidate_assembly.specs.Rules.Opaques.{open_impl_rules}
use Rattle.candidate_assembly.proofs.Aliases.AliasChains.{told-as}
use Rattle.candidate_assembly.proofs.Lists.Listing.{no-rule-listed}
use Rattle.candidate_assembly.proofs.assembly.opaques.assemble_open_impls.Goals as goal

pub returns-in-All : goal.returns-in-All
returns-in-All g c =
    let E = g.E.EvalCtxt in
    let G = g.G.GoalKind in
    let first = c.args.ecx.now in
    let old = g.E.Build.context first in
    let J = E.judge (E.fixed first) in
    let S = E.state first in
    told-as first c.assemble_blanket_impls.new.ecx S c.assemble_blanket_impls.result
    (λ l e. e ∙ ap (λ (x : AssembleCandidatesFrom). after_these old.trees c.args.candidates.now.items (answers J S (open_impl_rules G.kind.rules J old S.mode (G.kind.seen old.trees c.args.env c.args.predicate) x))) (sym c.in-All.is))
    c.assemble_blanket_impls.ensures

pub returns-in-EnvAndBounds : goal.returns-in-EnvAndBounds
returns-in-EnvAndBounds g c =
    let E = g.E.EvalCtxt in
    let G = g.G.GoalKind in
    let first = c.args.ecx.now in
    let old = g.E.Build.context first in
    let J = E.judge (E.fixed first) in
    let S = E.state first in
    told-as first first S _
    (λ l e. e ∙ ap (λ (x : AssembleCandidatesFrom). after_these old.trees c.args.candidates.now.items (answers J S (open_impl_rules G.kind.rules J old S.mode (G.kind.seen old.trees c.args.env c.args.predicate) x))) (sym c.in-EnvAndBounds.is))
    (no-rule-listed (λ f. (g.met.E.EvalCtxt.lawful f).alike_judged_alike) first c.args.candidates.now.items _ c.requires.candidates)
