use Rattle.std.proofs.Common.{◌≡◌, ◌-◌, arith, true, false, Option, Ok, Err, refl, sym, ap, subst, ◌∙◌}
use Rattle.std.proofs.lemmas.Result.{err_from_is_err_and}
use Rattle.ir_trees.specs.declared.ir.kinds.Ty.{Ty}
use Rattle.ir_trees.specs.declared.ir.kinds.TyKind.TheVariants as TK
use Rattle.ir_trees.specs.declared.decl.limits.Limits.{Limits}
use Rattle.ir_trees.specs.Declarations.Context.{Context}
use Rattle.ir_trees.specs.Syntax.Trees.{Tree}
use Rattle.ir_trees.specs.Syntax.Words.{IsTy, env_forest, kind_tree, ty_tree}
use Rattle.ir_trees.proofs.Growth.Kept.{grows-trans}
use Rattle.candidate_eval.proofs.Dynamic.Objects.{env-kept}
use Rattle.candidate_assembly.specs.Rules.AliasBounds.{has_bounds}
use Rattle.candidate_assembly.specs.Calls.AliasChains.{Continues, IsBoundedAlias}
use Rattle.candidate_assembly.specs.Goals.Kinds.{self_type}
use Rattle.candidate_assembly.specs.Goals.Standing.{IsValidBeside}
use Rattle.candidate_assembly.proofs.Aliases.AliasChains.{alias-kept}
use Rattle.candidate_assembly.proofs.Aliases.AliasWalks.{chain-begins, ended-after, ended-there, goes-on, one-less, stopped-after, stopped-there, too-deep}
use Rattle.candidate_assembly.proofs.Calls.Keeping.{goal-kept}
use Rattle.candidate_assembly.proofs.assembly.alias_chain.walk_chain.Goals as goal

pub loop-alias-init : goal.loop-alias-init
loop-alias-init g c =
    let E = g.E.EvalCtxt in
    let K = g.G.GoalKind in
    let first = c.args.ecx.now in
    let is = subst (λ (x : Context). ty_tree x.trees c.self_ty-ty.result ≡ self_type K.kind.rules x (K.kind.seen x.trees c.args.env c.args.predicate)) c.cx.ensures c.self_ty-ty.ensures.tree in
    chain-begins g.met.E.EvalCtxt.lawful g.met.G.GoalKind.laws g.met.G.GoalKind.stays g.met.G.GoalKind.env_given c.args.env c.args.predicate first c.args.candidates.now.items _ _ c.requires.goal c.requires.candidates
    (subst (λ (x : Context). IsTy x.trees c.self_ty-ty.result) c.cx.ensures c.self_ty-ty.ensures.sort) is c.requires.stands (ap (λ (l : Limits). l.alias_chain) (g.met.E.EvalCtxt.walks first ∙ (sym (ap (λ (x : Context). x.limits) c.cx-2.ensures) ∙ sym c.limits-left.ensures.is)))

pub bounded_alias-requires : goal.bounded_alias-requires
bounded_alias-requires g c =
    subst (λ (x : Context). IsTy x.trees c.loop-alias.ty) (sym c.cx-in-loop-alias.ensures) c.loop-alias.invariant.sort

pub returns-then-left-eq0 : goal.returns-then-left-eq0
returns-then-left-eq0 g c =
    let E = g.E.EvalCtxt in
    let K = g.G.GoalKind in
    let first = c.args.ecx.now in
    let now = g.E.Build.context c.loop-alias.ecx in
    let a = c.in-Some.alias in
    let bounded = subst (λ (x : Context). IsBoundedAlias x a) c.cx-in-loop-alias.ensures c.in-Some.ensures.alias in
    let tree-is = subst (λ (x : Context). kind_tree x.trees (TK.Alias a) ≡ ty_tree x.trees c.loop-alias.ty) c.cx-in-loop-alias.ensures c.in-Some.ensures.tree in
    too-deep g.met.E.EvalCtxt.lawful g.met.G.GoalKind.laws g.met.G.GoalKind.stays g.met.G.GoalKind.env_given c.args.env c.args.predicate first c.loop-alias.ecx c.args.candidates.now.items c.loop-alias.candidates.items c.loop-alias.ty c.loop-alias.kind c.loop-alias.left c.loop-alias.invariant _ refl c.if-left-eq0.true (subst (λ (t : Tree). has_bounds t.head ≡ true) tree-is bounded.has)

pub consider_alias-requires-clause-goal : goal.consider_alias-requires-clause-goal
consider_alias-requires-clause-goal g c =
    let grows = c.loop-alias.invariant.kept.grows in
    goal-kept grows (g.met.G.GoalKind.stays (g.E.Build.context c.args.ecx.now) (g.E.Build.context c.loop-alias.ecx) c.args.env c.args.predicate grows c.requires.goal) c.requires.goal

pub consider_alias-requires-clause-stands : goal.consider_alias-requires-clause-stands
consider_alias-requires-clause-stands g c =
    let E = g.E.EvalCtxt in
    let K = g.G.GoalKind in
    let first = c.args.ecx.now in
    let now = g.E.Build.context c.loop-alias.ecx in
    let a = c.in-Some.alias in
    let bounded = subst (λ (x : Context). IsBoundedAlias x a) c.cx-in-loop-alias.ensures c.in-Some.ensures.alias in
    let tree-is = subst (λ (x : Context). kind_tree x.trees (TK.Alias a) ≡ ty_tree x.trees c.loop-alias.ty) c.cx-in-loop-alias.ensures c.in-Some.ensures.tree in
    subst (λ (t : Tree). IsValidBeside K.kind.rules (E.state c.loop-alias.ecx) (K.kind.seen now.trees c.args.env c.args.predicate) t) (sym tree-is) c.loop-alias.invariant.stands

pub consider_alias-requires-clause-candidates : goal.consider_alias-requires-clause-candidates
consider_alias-requires-clause-candidates g c = c.loop-alias.invariant.fits

pub returns-in_err-consider_alias : goal.returns-in_err-consider_alias
returns-in_err-consider_alias g c =
    let E = g.E.EvalCtxt in
    let K = g.G.GoalKind in
    let first = c.args.ecx.now in
    let now = g.E.Build.context c.loop-alias.ecx in
    let a = c.in-Some.alias in
    let bounded = subst (λ (x : Context). IsBoundedAlias x a) c.cx-in-loop-alias.ensures c.in-Some.ensures.alias in
    let tree-is = subst (λ (x : Context). kind_tree x.trees (TK.Alias a) ≡ ty_tree x.trees c.loop-alias.ty) c.cx-in-loop-alias.ensures c.in-Some.ensures.tree in
    let p = err_from_is_err_and c.from_residual.result c.from_residual.ensures.1 in
    stopped-there g.met.E.EvalCtxt.lawful g.met.G.GoalKind.laws g.met.G.GoalKind.stays g.met.G.GoalKind.env_given c.args.env c.args.predicate first c.loop-alias.ecx c.args.candidates.now.items c.loop-alias.candidates.items c.loop-alias.ty c.loop-alias.kind c.loop-alias.left c.loop-alias.invariant a (c.loop-alias.left - 1) bounded tree-is (one-less c.loop-alias.left c.if-left-eq0.false) c.consider_alias.new.ecx c.consider_alias.new.candidates.items c.consider_alias.new.candidates.items c.in_err-consider_alias.field-0.0 c.from_residual.result (p.1 ∙ ap Err p.2) c.in_err-consider_alias.ensures

pub next_in_chain-requires-clause-env : goal.next_in_chain-requires-clause-env
next_in_chain-requires-clause-env g c =
    (env-kept (g.E.Build.context c.args.ecx.now) (g.E.Build.context c.consider_alias.new.ecx) c.args.env (grows-trans _ _ _ c.loop-alias.invariant.kept.grows c.consider_alias.ensures.kept.grows) c.requires.goal.env).0

pub next_in_chain-requires-clause-alias : goal.next_in_chain-requires-clause-alias
next_in_chain-requires-clause-alias g c =
    let E = g.E.EvalCtxt in
    let K = g.G.GoalKind in
    let first = c.args.ecx.now in
    let now = g.E.Build.context c.loop-alias.ecx in
    let a = c.in-Some.alias in
    let bounded = subst (λ (x : Context). IsBoundedAlias x a) c.cx-in-loop-alias.ensures c.in-Some.ensures.alias in
    (alias-kept now (g.E.Build.context c.consider_alias.new.ecx) a c.consider_alias.ensures.kept.grows bounded).0

pub returns-in_err-next : goal.returns-in_err-next
returns-in_err-next g c =
    let E = g.E.EvalCtxt in
    let K = g.G.GoalKind in
    let first = c.args.ecx.now in
    let now = g.E.Build.context c.loop-alias.ecx in
    let a = c.in-Some.alias in
    let bounded = subst (λ (x : Context). IsBoundedAlias x a) c.cx-in-loop-alias.ensures c.in-Some.ensures.alias in
    let tree-is = subst (λ (x : Context). kind_tree x.trees (TK.Alias a) ≡ ty_tree x.trees c.loop-alias.ty) c.cx-in-loop-alias.ensures c.in-Some.ensures.tree in
    let p = err_from_is_err_and c.from_residual-in_err-next.result c.from_residual-in_err-next.ensures.1 in
    stopped-after g.met.E.EvalCtxt.lawful g.met.G.GoalKind.laws g.met.G.GoalKind.stays g.met.G.GoalKind.env_given c.args.env c.args.predicate first c.loop-alias.ecx c.args.candidates.now.items c.loop-alias.candidates.items c.loop-alias.ty c.loop-alias.kind c.loop-alias.left c.loop-alias.invariant a (c.loop-alias.left - 1) bounded tree-is (one-less c.loop-alias.left c.if-left-eq0.false) c.consider_alias.new.ecx c.consider_alias.new.candidates.items _ c.in_ok-consider_alias.ensures c.next_in_chain.new.ecx c.in_err-next.field-0.0 c.from_residual-in_err-next.result (p.1 ∙ ap Err p.2) c.in_err-next.ensures

pub returns-in-None : goal.returns-in-None
returns-in-None g c =
    let E = g.E.EvalCtxt in
    let K = g.G.GoalKind in
    let first = c.args.ecx.now in
    let now = g.E.Build.context c.loop-alias.ecx in
    let a = c.in-Some.alias in
    let bounded = subst (λ (x : Context). IsBoundedAlias x a) c.cx-in-loop-alias.ensures c.in-Some.ensures.alias in
    let tree-is = subst (λ (x : Context). kind_tree x.trees (TK.Alias a) ≡ ty_tree x.trees c.loop-alias.ty) c.cx-in-loop-alias.ensures c.in-Some.ensures.tree in
    let mid = g.E.Build.context c.consider_alias.new.ecx in
    let next = subst (λ (o : Option Ty). Continues E.fixed E.judge E.state E.probes g.E.Build.context E.stops c.consider_alias.new.ecx c.next_in_chain.new.ecx (env_forest mid.trees c.args.env) (kind_tree mid.trees (TK.Alias a)) (Ok o)) c.in-None.is c.in_ok-next.ensures in
    ended-after g.met.E.EvalCtxt.lawful g.met.G.GoalKind.laws g.met.G.GoalKind.stays g.met.G.GoalKind.env_given c.args.env c.args.predicate first c.loop-alias.ecx c.args.candidates.now.items c.loop-alias.candidates.items c.loop-alias.ty c.loop-alias.kind c.loop-alias.left c.loop-alias.invariant a (c.loop-alias.left - 1) bounded tree-is (one-less c.loop-alias.left c.if-left-eq0.false) c.consider_alias.new.ecx c.consider_alias.new.candidates.items _ c.in_ok-consider_alias.ensures c.next_in_chain.new.ecx _ next

pub loop-alias-smaller : goal.loop-alias-smaller
loop-alias-smaller g c =
    let n = c.if-left-eq0.false in omega (arith, n)

pub loop-alias-preserved : goal.loop-alias-preserved
loop-alias-preserved g c =
    let E = g.E.EvalCtxt in
    let K = g.G.GoalKind in
    let first = c.args.ecx.now in
    let now = g.E.Build.context c.loop-alias.ecx in
    let a = c.in-Some.alias in
    let bounded = subst (λ (x : Context). IsBoundedAlias x a) c.cx-in-loop-alias.ensures c.in-Some.ensures.alias in
    let tree-is = subst (λ (x : Context). kind_tree x.trees (TK.Alias a) ≡ ty_tree x.trees c.loop-alias.ty) c.cx-in-loop-alias.ensures c.in-Some.ensures.tree in
    let mid = g.E.Build.context c.consider_alias.new.ecx in
    let next = subst (λ (o : Option Ty). Continues E.fixed E.judge E.state E.probes g.E.Build.context E.stops c.consider_alias.new.ecx c.next_in_chain.new.ecx (env_forest mid.trees c.args.env) (kind_tree mid.trees (TK.Alias a)) (Ok o)) c.in-Some-2.is c.in_ok-next.ensures in
    goes-on g.met.E.EvalCtxt.lawful g.met.G.GoalKind.laws g.met.G.GoalKind.stays g.met.G.GoalKind.env_given c.args.env c.args.predicate first c.loop-alias.ecx c.args.candidates.now.items c.loop-alias.candidates.items c.loop-alias.ty c.loop-alias.kind c.loop-alias.left c.loop-alias.invariant a (c.loop-alias.left - 1) bounded tree-is (one-less c.loop-alias.left c.if-left-eq0.false) c.consider_alias.new.ecx c.consider_alias.new.candidates.items _ c.in_ok-consider_alias.ensures
    (goal-kept c.loop-alias.invariant.kept.grows (g.met.G.GoalKind.stays (g.E.Build.context first) now c.args.env c.args.predicate c.loop-alias.invariant.kept.grows c.requires.goal) c.requires.goal) c.next_in_chain.new.ecx c.in-Some-2.next next

pub consider_chain_end-requires-clause-goal : goal.consider_chain_end-requires-clause-goal
consider_chain_end-requires-clause-goal g c =
    let grows = c.loop-alias.invariant.kept.grows in
    goal-kept grows (g.met.G.GoalKind.stays (g.E.Build.context c.args.ecx.now) (g.E.Build.context c.loop-alias.ecx) c.args.env c.args.predicate grows c.requires.goal) c.requires.goal

pub consider_chain_end-requires-clause-ty : goal.consider_chain_end-requires-clause-ty
consider_chain_end-requires-clause-ty g c = c.loop-alias.invariant.sort

pub consider_chain_end-requires-clause-candidates : goal.consider_chain_end-requires-clause-candidates
consider_chain_end-requires-clause-candidates g c = c.loop-alias.invariant.fits

pub returns : goal.returns
returns g c =
    let first = c.args.ecx.now in
    let other = subst (λ (x : Context). has_bounds (ty_tree x.trees c.loop-alias.ty).head ≡ false) c.cx-in-loop-alias.ensures (c.in_default.ensures.other refl) in
    ended-there g.met.E.EvalCtxt.lawful g.met.G.GoalKind.laws g.met.G.GoalKind.stays g.met.G.GoalKind.env_given c.args.env c.args.predicate first c.loop-alias.ecx c.args.candidates.now.items c.loop-alias.candidates.items c.loop-alias.ty c.loop-alias.kind c.loop-alias.left c.loop-alias.invariant c.consider_chain_end.new.ecx c.consider_chain_end.new.candidates.items c.consider_chain_end.result other c.consider_chain_end.ensures
