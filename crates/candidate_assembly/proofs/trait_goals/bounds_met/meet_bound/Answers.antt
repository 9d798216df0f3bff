use Rattle.std.proofs.Common.{rules, ◌≡◌, ◌∙◌, false, map, subst, sym}
use Rattle.std.specs.Prelude.{option_map}
use Rattle.ir_trees.specs.declared.ir.kinds.ExistentialPredicate.TheVariants.{AutoTrait, Projection, Trait}
use Rattle.ir_trees.specs.Declarations.Context.{Context}
use Rattle.ir_trees.specs.Hierarchy.Elaboration.{number_listed}
use Rattle.ir_trees.specs.Syntax.Words.{clause_tree, env_forest, pred_kind_tree, pred_tree}
use Rattle.candidate_assembly.specs.Rules.Unsizing.{autos}
use Rattle.candidate_assembly.proofs.Upcasting.UpcastMet.{as-principal, as-projection, auto-met, auto-not-met, head-read}
use Rattle.candidate_assembly.proofs.trait_goals.bounds_met.meet_bound.Goals as goal

pub returns-in-Trait-clause-met : goal.returns-in-Trait-clause-met
returns-in-Trait-clause-met g c =
    let E = g.E.EvalCtxt in
    let old = c.args.ecx.now in
    let start = g.E.Build.context old in
    let read = subst (λ (x : Context). pred_kind_tree x.trees c.pred.result ≡ pred_tree x.trees c.args.target) c.cx.ensures c.pred.ensures.tree in
    as-principal start (map (clause_tree start.trees) c.args.supers.now) (map (pred_tree start.trees) c.args.sources.now) (option_map (clause_tree start.trees) c.args.principal) (E.judge (E.fixed old)) (env_forest start.trees c.args.env) (E.state old)
    (E.state c.meet_principal.new.ecx) (pred_tree start.trees c.args.target) c.meet_principal.result c.in-Trait.reference.def_id
    (head-read start.trees c.args.target c.pred.result (Trait c.in-Trait.reference) read c.in-Trait.is) c.meet_principal.ensures.met

pub returns-in-Projection-clause-met : goal.returns-in-Projection-clause-met
returns-in-Projection-clause-met g c =
    let E = g.E.EvalCtxt in
    let old = c.args.ecx.now in
    let start = g.E.Build.context old in
    let read = subst (λ (x : Context). pred_kind_tree x.trees c.pred.result ≡ pred_tree x.trees c.args.target) c.cx.ensures c.pred.ensures.tree in
    as-projection start (map (clause_tree start.trees) c.args.supers.now) (map (pred_tree start.trees) c.args.sources.now) (option_map (clause_tree start.trees) c.args.principal) (E.judge (E.fixed old)) (env_forest start.trees c.args.env) (E.state old)
    (E.state c.meet_projection.new.ecx) (pred_tree start.trees c.args.target) c.meet_projection.result c.in-Projection.said.def_id
    (head-read start.trees c.args.target c.pred.result (Projection c.in-Projection.said) read c.in-Projection.is) c.meet_projection.ensures.met

pub returns-then-has_auto_trait-clause-met : goal.returns-then-has_auto_trait-clause-met
returns-then-has_auto_trait-clause-met g c =
    let E = g.E.EvalCtxt in
    let old = c.args.ecx.now in
    let start = g.E.Build.context old in
    let read = subst (λ (x : Context). pred_kind_tree x.trees c.pred.result ≡ pred_tree x.trees c.args.target) c.cx.ensures c.pred.ensures.tree in
    let said = subst (λ (x : Context). c.has_auto_trait.result ≡ number_listed (autos x (map (clause_tree x.trees) c.args.supers.now) (map (pred_tree x.trees) c.args.sources.now)) c.in-AutoTrait.of.0) c.cx-in-AutoTrait.ensures c.has_auto_trait.ensures in
    auto-met start (map (clause_tree start.trees) c.args.supers.now) (map (pred_tree start.trees) c.args.sources.now) (option_map (clause_tree start.trees) c.args.principal) (E.judge (E.fixed old)) (env_forest start.trees c.args.env) (E.state old)
    (pred_tree start.trees c.args.target) c.in-AutoTrait.of (head-read start.trees c.args.target c.pred.result (AutoTrait c.in-AutoTrait.of) read c.in-AutoTrait.is) (sym said ∙ c.if-has_auto_trait.true)

pub returns-else-has_auto_trait-clause-met : goal.returns-else-has_auto_trait-clause-met
returns-else-has_auto_trait-clause-met g c =
    let E = g.E.EvalCtxt in
    let old = c.args.ecx.now in
    let start = g.E.Build.context old in
    let read = subst (λ (x : Context). pred_kind_tree x.trees c.pred.result ≡ pred_tree x.trees c.args.target) c.cx.ensures c.pred.ensures.tree in
    let said = subst (λ (x : Context). c.has_auto_trait.result ≡ number_listed (autos x (map (clause_tree x.trees) c.args.supers.now) (map (pred_tree x.trees) c.args.sources.now)) c.in-AutoTrait.of.0) c.cx-in-AutoTrait.ensures c.has_auto_trait.ensures in
    let not-so : c.has_auto_trait.result ≡ false = search rules in
    auto-not-met start (map (clause_tree start.trees) c.args.supers.now) (map (pred_tree start.trees) c.args.sources.now) (option_map (clause_tree start.trees) c.args.principal) (E.judge (E.fixed old)) (env_forest start.trees c.args.env) (E.state old)
    (pred_tree start.trees c.args.target) c.in-AutoTrait.of (head-read start.trees c.args.target c.pred.result (AutoTrait c.in-AutoTrait.of) read c.in-AutoTrait.is) (sym said ∙ not-so)
