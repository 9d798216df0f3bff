use Rattle.std.proofs.Common.{refl}
use Rattle.ir_trees.specs.Syntax.Words.{ty_tree}
use Rattle.candidate_assembly.specs.Goals.TraitGoals.{trait_goal}
use Rattle.candidate_assembly.specs.declared.trait_goals.unsizing_rows.UnsizingRow.TheVariants as R
use Rattle.candidate_assembly.proofs.Unsizing.UnsizedRows.{by-row, listed-as, none-by-row, one-by-row, row-found}
use Rattle.candidate_assembly.proofs.trait_goals.unsizing_rows.unsize_by_row.Goals as goal

pub returns-in-Ambiguous : goal.returns-in-Ambiguous
returns-in-Ambiguous g c =
    let first = c.args.ecx.now in
    let old = g.E.Build.context first in
    let goal = trait_goal old.trees c.args.env c.args.predicate in
    let row = row-found c.cx-cx.result.now old c.args.predicate c.args.target c.self_head.result c.head_of.result R.Ambiguous c.unsizing_row.result c.cx-cx.ensures c.self_head.ensures c.head_of.ensures c.unsizing_row.ensures c.in-Ambiguous.is in
    one-by-row (λ f. (g.met.E.EvalCtxt.lawful f).alike_judged_alike) first c.forced_ambiguity-answer.new.ecx c.args.candidates.now.items c.push_considered.new.candidates.items _ _ c.push_considered.result goal (ty_tree old.trees c.args.target) R.Ambiguous
    c.requires.candidates row refl refl c.forced_ambiguity-answer.ensures c.push_considered.ensures

pub returns-in-ArrayToSlice : goal.returns-in-ArrayToSlice
returns-in-ArrayToSlice g c =
    let first = c.args.ecx.now in
    let old = g.E.Build.context first in
    let goal = trait_goal old.trees c.args.env c.args.predicate in
    let row = row-found c.cx-cx.result.now old c.args.predicate c.args.target c.self_head.result c.head_of.result R.ArrayToSlice c.unsizing_row.result c.cx-cx.ensures c.self_head.ensures c.head_of.ensures c.unsizing_row.ensures c.in-ArrayToSlice.is in
    one-by-row (λ f. (g.met.E.EvalCtxt.lawful f).alike_judged_alike) first c.unsize_array-answer.new.ecx c.args.candidates.now.items c.push_considered-in-ArrayToSlice.new.candidates.items _ _ c.push_considered-in-ArrayToSlice.result goal (ty_tree old.trees c.args.target) R.ArrayToSlice
    c.requires.candidates row refl refl c.unsize_array-answer.ensures c.push_considered-in-ArrayToSlice.ensures

pub returns-in-ToDyn : goal.returns-in-ToDyn
returns-in-ToDyn g c =
    let E = g.E.EvalCtxt in
    let first = c.args.ecx.now in
    let old = g.E.Build.context first in
    let goal = trait_goal old.trees c.args.env c.args.predicate in
    let row = row-found c.cx-cx.result.now old c.args.predicate c.args.target c.self_head.result c.head_of.result R.ToDyn c.unsizing_row.result c.cx-cx.ensures c.self_head.ensures c.head_of.ensures c.unsizing_row.ensures c.in-ToDyn.is in
    listed-as first c.unsize_to_dyn.new.ecx (E.state first) _ _ _
    (λ l e. by-row (E.judge (E.fixed first)) old (E.state first) goal (ty_tree old.trees c.args.target) c.args.candidates.now.items R.ToDyn _ l row refl refl e) c.unsize_to_dyn.result c.unsize_to_dyn.ensures

pub returns-in-Struct : goal.returns-in-Struct
returns-in-Struct g c =
    let E = g.E.EvalCtxt in
    let first = c.args.ecx.now in
    let old = g.E.Build.context first in
    let goal = trait_goal old.trees c.args.env c.args.predicate in
    let row = row-found c.cx-cx.result.now old c.args.predicate c.args.target c.self_head.result c.head_of.result (R.Struct c.in-Struct.adt) c.unsizing_row.result c.cx-cx.ensures c.self_head.ensures c.head_of.ensures c.unsizing_row.ensures c.in-Struct.is in
    listed-as first c.unsize_same.new.ecx (E.state first) _ _ _
    (λ l e. by-row (E.judge (E.fixed first)) old (E.state first) goal (ty_tree old.trees c.args.target) c.args.candidates.now.items (R.Struct c.in-Struct.adt) _ l row refl refl e) c.unsize_same.result c.unsize_same.ensures

pub returns-in-Nothing : goal.returns-in-Nothing
returns-in-Nothing g c =
    let first = c.args.ecx.now in
    let old = g.E.Build.context first in
    let goal = trait_goal old.trees c.args.env c.args.predicate in
    let row = row-found c.cx-cx.result.now old c.args.predicate c.args.target c.self_head.result c.head_of.result R.Nothing c.unsizing_row.result c.cx-cx.ensures c.self_head.ensures c.head_of.ensures c.unsizing_row.ensures c.in-Nothing.is in
    none-by-row (λ f. (g.met.E.EvalCtxt.lawful f).alike_judged_alike) first c.args.candidates.now.items tt goal (ty_tree old.trees c.args.target) R.Nothing c.requires.candidates row refl refl
