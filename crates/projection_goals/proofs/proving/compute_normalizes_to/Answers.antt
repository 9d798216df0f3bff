use Rattle.std.proofs.Common.{◌≡◌, ◌∙◌, ap, rules, subst, sym, None}
use Rattle.ir_trees.specs.Declarations.Context.{Grows}
use Rattle.ir_trees.proofs.Growth.Kept.{grows-refl}
use Rattle.candidate_assembly.specs.Answers.MergedKinds.{Answers}
use Rattle.candidate_assembly.specs.Goals.KindShown.{IsGoal}
use Rattle.candidate_assembly.proofs.Calls.Keeping.{goal-kept}
use Rattle.candidate_assembly.proofs.Calls.Quieting.{any-kept}
use Rattle.projection_goals.specs.Closures.{always}
use Rattle.projection_goals.specs.Normalizing.{normalizes_bounds, normalizes_goal, normalizes_kind, normalizes_rules}
use Rattle.projection_goals.specs.NormalizingLaws.{normalizes_goal_stays}
use Rattle.projection_goals.proofs.Answered.{answered-as}
use Rattle.projection_goals.proofs.Rigid.{rigid-at, rigid-closure}
use Rattle.projection_goals.proofs.proving.compute_normalizes_to.Goals as goal

pub returns-clause-answered : goal.returns-clause-answered
returns-clause-answered g c =
    let ran = c.assemble_and_merge_candidates in
    let E = g.E.EvalCtxt in
    answered-as E.fixed E.judge E.state E.probes g.E.Build.context E.stops _ _ _ _ (always None) tt (rigid-closure E.fixed E.judge E.state E.probes g.E.Build.context E.stops c.args.env c.args.goal) tt normalizes_rules normalizes_bounds c.args.ecx.now (normalizes_goal (g.E.Build.context c.args.ecx.now).trees c.args.env c.args.goal) c.args.proven_via ran.result ran.new.ecx ran.ensures.answered
    (λ x r y m. let p = m.met in record { shown = m.shown; shows = m.shows; left = m.left; met = (search rules, search rules); leaves = m.leaves })
    (λ x r y m. let p = m.met in record { shown = m.shown; shows = m.shows; left = m.left; met = search rules; leaves = m.leaves })

pub assemble_and_merge_candidates-requires-clause-ambiguity : goal.assemble_and_merge_candidates-requires-clause-ambiguity
assemble_and_merge_candidates-requires-clause-ambiguity g c =
    let E = g.E.EvalCtxt in
    record {
      may = search rules;
      keeps = λ x r y k l m.
          let p = m.met in
          let same : m.left.now ≡ m.shown.now = search rules in
          let e = sym m.leaves ∙ same ∙ m.shows in
          record { fixed_same = ap E.fixed e; probes_same = ap E.probes e; grows = subst (λ z. Grows (g.E.Build.context x) (g.E.Build.context z)) (sym e) (grows-refl (g.E.Build.context x)); faults = tt };
    }

pub assemble_and_merge_candidates-requires-clause-rigid : goal.assemble_and_merge_candidates-requires-clause-rigid
assemble_and_merge_candidates-requires-clause-rigid g c =
    let E = g.E.EvalCtxt in
    let context = g.E.Build.context in
    let old = context c.args.ecx.now in
    record {
      may = λ x k l p e.
          let there : IsGoal normalizes_kind (context p.now) c.args.env c.args.goal =
          subst (λ z. IsGoal normalizes_kind (context z) c.args.env c.args.goal) (sym e) (goal-kept k.grows (normalizes_goal_stays old (context x) c.args.env c.args.goal k.grows c.requires.goal) c.requires.goal) in
          let projection = c.requires.projection in
          search rules;
      keeps = λ x r y k l m.
          let a : Answers E.fixed E.judge E.state E.probes context E.stops x y (rigid-at E.fixed E.judge E.state E.probes context E.stops c.args.env c.args.goal x) r = search rules in
          any-kept a.kept;
    }
