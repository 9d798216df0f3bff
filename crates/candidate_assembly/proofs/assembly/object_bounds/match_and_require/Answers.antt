use Rattle.std.proofs.Common.{rules, subst, sym, ap, ◌∙◌}
use Rattle.ir_trees.specs.Declarations.Context.{Context}
use Rattle.ir_trees.specs.Declarations.References.{Takes}
use Rattle.ir_trees.specs.Declarations.Context.{world}
use Rattle.ir_trees.specs.Validity.WellFormed.{IsWellFormedTable}
use Rattle.ir_trees.specs.Syntax.Words.{ClauseFits, IsParamEnv, IsPreds, clause_kind_tree, clause_tree, env_forest, preds_forest}
use Rattle.candidate_eval.specs.Builtins.Callable.{all_but_last}
use Rattle.candidate_eval.specs.Derivations.Judging.{run, start}
use Rattle.candidate_eval.specs.Dynamic.ObjectRequirements.{reference_clause}
use Rattle.candidate_eval.proofs.Dynamic.Objects.{env-kept}
use Rattle.candidate_assembly.specs.Goals.Kinds.{self_type}
use Rattle.candidate_assembly.specs.Rules.ObjectBounds.{own_clause, reference_by, trait_by}
use Rattle.candidate_assembly.specs.Calls.ObjectCalls.{AsksOfObject, IsAskedOfObject, IsReferenceBy}
use Rattle.candidate_assembly.proofs.Objects.ObjectLaws.{clause_speaks}
use Rattle.candidate_assembly.proofs.Calls.Quieting.{after-quiet, any-kept, quiet-kept}
use Rattle.candidate_assembly.proofs.Rules.PureFolder.{after-accounted}
use Rattle.candidate_assembly.proofs.Objects.ObjectJudging.{asked-before, told-after, told-more}
use Rattle.candidate_assembly.proofs.Objects.ObjectReferences.{bounds-read, preds-kept, reference-there}
use Rattle.candidate_assembly.proofs.assembly.object_bounds.match_and_require.Goals as goal

pub match_assumption-requires-clause-callable : goal.match_assumption-requires-clause-callable
match_assumption-requires-clause-callable g c =
    let E = g.E.EvalCtxt in
    let context = g.E.Build.context in
    let old = context c.args.ecx.now in
    let t = clause_tree old.trees c.args.clause in
    let of = c.reference_in-trait_ref.result in
    let b = c.dyn_parts.result.0 in
    let table = subst IsWellFormedTable c.cx.ensures c.recall_well_formed_table.ensures in
    let has = g.met.G.GoalKind.laws.fit.arguments old table c.args.env c.args.predicate c.requires.goal c.args.clause c.requires.clause c.requires.matches.passes in
    let by = subst (λ (x : Context). IsReferenceBy x (clause_tree x.trees c.args.clause) of) c.cx-4.ensures c.reference_in-trait_ref.ensures in
    let preds = subst (λ (x : Context). IsPreds x.trees b) c.cx-3.ensures c.dyn_parts.ensures.preds in
    record {
      may = λ x k p e.
          let there = reference-there old (context x) t of k.grows has by in
          let env-there : IsParamEnv (context p.now).trees c.args.env = subst (λ z. IsParamEnv (context z).trees c.args.env) (sym e) (env-kept old (context x) c.args.env k.grows c.requires.goal.env).0 in
          let fits-there : ClauseFits (context p.now).trees (reference_clause of) = subst (λ z. ClauseFits (context z).trees (reference_clause of)) (sym e) there.fits in
          let takes-there : Takes (world (context p.now)) (clause_kind_tree (context p.now).trees (reference_clause of)) = subst (λ z. Takes (world (context z)) (clause_kind_tree (context z).trees (reference_clause of))) (sym e) there.takes in
          let preds-there : IsPreds (context p.now).trees b = subst (λ z. IsPreds (context z).trees b) (sym e) (preds-kept old (context x) b k.grows preds).0 in
          search rules;
      keeps = λ x r y k is.
          let asks : AsksOfObject E.fixed E.judge E.state E.probes context E.stops x y c.asks_of_objects-asks.result (env_forest (context x).trees c.args.env) of (preds_forest (context x).trees b) c.args.source r = search rules in
          any-kept asks.kept;
    }

pub returns : goal.returns
returns g c =
    let E = g.E.EvalCtxt in
    let K = g.G.GoalKind in
    let context = g.E.Build.context in
    let first = c.args.ecx.now in
    let old = context first in
    let ts = old.trees in
    let J = E.judge (E.fixed first) in
    let seen = K.kind.seen ts c.args.env c.args.predicate in
    let t = clause_tree ts c.args.clause in
    let o = own_clause c.args.source t in
    let of = c.reference_in-trait_ref.result in
    let b = c.dyn_parts.result.0 in
    let table = subst IsWellFormedTable c.cx.ensures c.recall_well_formed_table.ensures in
    let has = g.met.G.GoalKind.laws.fit.arguments old table c.args.env c.args.predicate c.requires.goal c.args.clause c.requires.clause c.requires.matches.passes in
    let by = subst (λ (x : Context). IsReferenceBy x (clause_tree x.trees c.args.clause) of) c.cx-4.ensures c.reference_in-trait_ref.ensures in
    let preds = subst (λ (x : Context). IsPreds x.trees b) c.cx-3.ensures c.dyn_parts.ensures.preds in
    let bounds = bounds-read old c.cx-2.result.now c.cx-3.result.now c.self_ty-self_ty.result b (self_type K.kind.rules old seen) c.cx-2.ensures c.cx-3.ensures
    (c.self_ty-self_ty.ensures.tree ∙ ap (λ (x : Context). self_type K.kind.rules x (K.kind.seen x.trees c.args.env c.args.predicate)) c.cx-2.ensures) c.dyn_parts.ensures.bounds in
    let given = clause_speaks old table c.args.clause c.requires.speaks in
    let call = c.match_assumption in
    record {
      kept = quiet-kept call.ensures.kept
          (after-quiet first (run J (K.kind.rules.env_of seen) (start (E.state first)) (K.kind.rules.match_steps seen t)) call.result call.new.ecx
          (λ x r y k met.
          let asks : AsksOfObject E.fixed E.judge E.state E.probes context E.stops x y c.asks_of_objects-asks.result (env_forest (context x).trees c.args.env) of (preds_forest (context x).trees b) c.args.source r = search rules in
          asks.kept.faults)
          call.ensures.after);
      told = told-after K.kind.rules J (g.met.E.EvalCtxt.lawful (E.fixed first)).alike_judged_alike old seen o first call.result call.new.ecx c.requires.matches.passes
          (λ x r y k met.
          let asks : AsksOfObject E.fixed E.judge E.state E.probes context E.stops x y c.asks_of_objects-asks.result (env_forest (context x).trees c.args.env) of (preds_forest (context x).trees b) c.args.source r = search rules in
          let there = reference-there old (context x) t of k.grows has by in
          told-more (context y).trees r
          (λ j a. asked-before K.kind.rules.asks_of_objects E.judge (E.fixed first) (E.fixed x) old (context x) (env_forest (context x).trees c.args.env) (K.kind.rules.env_of seen) (E.state x) of.value.def_id.0 (trait_by old t.head)
          (clause_kind_tree (context x).trees (reference_clause of)) (reference_by old t) (preds_forest (context x).trees b) (all_but_last (self_type K.kind.rules old seen).children) c.args.source j table k.grows k.fixed_same
          ((env-kept old (context x) c.args.env k.grows c.requires.goal.env).1 ∙ sym (g.met.G.GoalKind.env_given ts c.args.env c.args.predicate)) by.trait there.is ((preds-kept old (context x) b k.grows preds).1 ∙ bounds) given
          (subst (λ z. IsAskedOfObject z (E.judge (E.fixed x)) (env_forest (context x).trees c.args.env) (context x) (E.state x) of.value.def_id.0 (clause_kind_tree (context x).trees (reference_clause of)) (preds_forest (context x).trees b) c.args.source j) c.asks_of_objects-asks.ensures a))
          asks.told)
          call.ensures.after;
      cause =
          after-accounted first (run J (K.kind.rules.env_of seen) (start (E.state first)) (K.kind.rules.match_steps seen t)) call.result call.new.ecx
          (λ x r y k met.
          let asks : AsksOfObject E.fixed E.judge E.state E.probes context E.stops x y c.asks_of_objects-asks.result (env_forest (context x).trees c.args.env) of (preds_forest (context x).trees b) c.args.source r = search rules in
          asks.cause)
          call.ensures.after;
    }
