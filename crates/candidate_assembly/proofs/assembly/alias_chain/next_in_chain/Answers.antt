use Rattle.std.proofs.Common.{◌≡◌, true, subst, ap}
use Rattle.ir_trees.specs.declared.ir.heads.Head.TheVariants as H
use Rattle.ir_trees.specs.declared.ir.kinds.AliasKind.{AliasKind}
use Rattle.ir_trees.specs.declared.ir.kinds.TyKind.TheVariants as K
use Rattle.ir_trees.specs.Declarations.Context.{Context}
use Rattle.ir_trees.specs.Syntax.Words.{env_forest, kind_tree, ty_tree}
use Rattle.candidate_eval.specs.Interface.Accounts.{by_stop}
use Rattle.candidate_eval.specs.Interface.Accounts.Question.{normalize}
use Rattle.candidate_eval.specs.Dynamic.ObjectRequirements.{first_tree}
use Rattle.candidate_assembly.specs.Rules.AliasBounds.{is_projection}
use Rattle.candidate_assembly.proofs.Aliases.AliasChains.{ends-here, goes-further, goes-nowhere, goes-stopped}
use Rattle.candidate_assembly.proofs.Calls.Considering.{not-both}
use Rattle.candidate_assembly.proofs.assembly.alias_chain.next_in_chain.Goals.{in-Projection, in_default}
use Rattle.candidate_assembly.proofs.assembly.alias_chain.next_in_chain.Goals as goal

pub returns-then-not-matches : goal.returns-then-not-matches
returns-then-not-matches g c = ends-here c.args.ecx.now (env_forest (g.E.Build.context c.args.ecx.now).trees c.args.env) (g.E.Build.context c.args.ecx.now).trees c.args.alias c.requires.alias.has
    (elim c.match-matches.branch [ in-Projection w ↦ absurd (not-both c.match-matches.matches w.matches-is c.if-not-matches.true) | in_default w ↦ w.in_default.not-Projection ])

pub returns-in-Ok : goal.returns-in-Ok
returns-in-Ok g c =
    let old = g.E.Build.context c.args.ecx.now in
    let is = subst (λ (x : Context). ty_tree x.trees c.self_ty_of-self_ty.result ≡ first_tree (kind_tree x.trees (K.Alias c.args.alias)).children) c.cx.ensures c.self_ty_of-self_ty.ensures.tree in
    let p : is_projection (H.Alias c.args.alias.kind c.args.alias.id) ≡ true = elim c.match-matches.branch [ in-Projection w ↦ ap (λ (k : AliasKind). is_projection (H.Alias k c.args.alias.id)) w.in-Projection.is | in_default w ↦ absurd (not-both c.match-matches.matches c.if-not-matches.false w.matches-is) ] in
    goes-further c.args.ecx.now c.structurally_normalize_ty.new.self (env_forest old.trees c.args.env) old.trees c.args.alias (ty_tree old.trees c.self_ty_of-self_ty.result) c.in-Ok.ty p is c.in-Ok.ensures.kept c.in-Ok.ensures.sort c.in-Ok.ensures.ok

pub returns-in-Err-NoSolution : goal.returns-in-Err-NoSolution
returns-in-Err-NoSolution g c =
    let old = g.E.Build.context c.args.ecx.now in
    let is = subst (λ (x : Context). ty_tree x.trees c.self_ty_of-self_ty.result ≡ first_tree (kind_tree x.trees (K.Alias c.args.alias)).children) c.cx.ensures c.self_ty_of-self_ty.ensures.tree in
    let p : is_projection (H.Alias c.args.alias.kind c.args.alias.id) ≡ true = elim c.match-matches.branch [ in-Projection w ↦ ap (λ (k : AliasKind). is_projection (H.Alias k c.args.alias.id)) w.in-Projection.is | in_default w ↦ absurd (not-both c.match-matches.matches c.if-not-matches.false w.matches-is) ] in
    goes-nowhere c.args.ecx.now c.structurally_normalize_ty.new.self (env_forest old.trees c.args.env) old.trees c.args.alias (ty_tree old.trees c.self_ty_of-self_ty.result) p is c.in-Err-NoSolution.ensures.kept (c.in-Err-NoSolution.ensures.refused c.in-Err-NoSolution.field-0-is)

pub returns-in-Err-Stop : goal.returns-in-Err-Stop
returns-in-Err-Stop g c =
    let old = g.E.Build.context c.args.ecx.now in
    goes-stopped c.args.ecx.now c.structurally_normalize_ty.new.self _ _ (normalize (env_forest old.trees c.args.env) (ty_tree old.trees c.self_ty_of-self_ty.result)) c.in-Err-Stop.stop g.met.E.EvalCtxt.stops_itself c.in-Err-Stop.ensures.kept
    (subst (by_stop (λ s. g.E.EvalCtxt.stops c.structurally_normalize_ty.new.self (g.E.EvalCtxt.state c.args.ecx.now) (normalize (env_forest old.trees c.args.env) (ty_tree old.trees c.self_ty_of-self_ty.result)) s)) c.in-Err-Stop.field-0-is c.in-Err-Stop.ensures.cause)

pub self_ty_of-self_ty-requires-clause-projection : goal.self_ty_of-self_ty-requires-clause-projection
self_ty_of-self_ty-requires-clause-projection g c =
    elim c.match-matches.branch [ in-Projection w ↦ ap (λ (k : AliasKind). is_projection (H.Alias k c.args.alias.id)) w.in-Projection.is | in_default w ↦ absurd (not-both c.match-matches.matches c.if-not-matches.false w.matches-is) ]
