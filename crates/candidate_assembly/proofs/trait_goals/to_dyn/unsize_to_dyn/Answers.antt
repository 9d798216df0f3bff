use Rattle.std.proofs.Common.{true, false}
use Rattle.ir_trees.specs.declared.decl.contents.LangItem.TheVariants.{Sized}
use Rattle.ir_trees.specs.Syntax.Words.{ty_tree}
use Rattle.candidate_assembly.specs.Rules.BuiltinRules.{self_of}
use Rattle.candidate_assembly.specs.Goals.TraitGoals.{item_trait, trait_goal}
use Rattle.candidate_assembly.specs.Rules.Unsizing.{any_to_dyn}
use Rattle.candidate_assembly.proofs.Unsizing.DynRequirements.{alone-free}
use Rattle.candidate_assembly.proofs.Unsizing.ToDyn.{compatible-read, dyn-listed, no-parameters-read, no-sized-read, not-compatible, nothing-listed, sized-read, without-sized}
use Rattle.candidate_assembly.proofs.trait_goals.to_dyn.unsize_to_dyn.Goals as goal

pub returns-in_default : goal.returns-in_default
returns-in_default g c =
    let E = g.E.EvalCtxt in
    let first = c.args.ecx.now in
    let old = g.E.Build.context first in
    let now = trait_goal old.trees c.args.env c.args.predicate in
    let to = ty_tree old.trees c.args.target in
    nothing-listed (λ f. (g.met.E.EvalCtxt.lawful f).alike_judged_alike) first c.args.candidates.now.items tt (any_to_dyn old now (self_of now) to (item_trait old Sized)) c.requires.candidates
    (without-sized (E.judge (E.fixed first)) (E.state first) old now (self_of now) to (item_trait old Sized) (no-sized-read c.cx-2.result.now old c.lang_item.result c.cx-2.ensures c.lang_item.ensures c.in_default.not-Some))

pub returns-then-not-is_dyn_compatible : goal.returns-then-not-is_dyn_compatible
returns-then-not-is_dyn_compatible g c =
    let E = g.E.EvalCtxt in
    let first = c.args.ecx.now in
    let old = g.E.Build.context first in
    let now = trait_goal old.trees c.args.env c.args.predicate in
    let to = ty_tree old.trees c.args.target in
    nothing-listed (λ f. (g.met.E.EvalCtxt.lawful f).alike_judged_alike) first c.args.candidates.now.items tt (any_to_dyn old now (self_of now) to (item_trait old Sized)) c.requires.candidates
    (not-compatible (E.judge (E.fixed first)) (E.state first) old now (self_of now) to (item_trait old Sized) c.in-Some.sized
    (sized-read c.cx-2.result.now old c.lang_item.result c.in-Some.sized c.cx-2.ensures c.lang_item.ensures c.in-Some.is)
    (compatible-read c.cx-3.result.now old c.args.target c.is_dyn_compatible.result false c.cx-3.ensures c.is_dyn_compatible.ensures c.if-not-is_dyn_compatible.true))

pub consider_dyn-answer-requires-clause-sized : goal.consider_dyn-answer-requires-clause-sized
consider_dyn-answer-requires-clause-sized g c =
    let old = g.E.Build.context c.args.ecx.now in
    no-parameters-read c.cx.result.now old c.in-Some.sized c.cx.ensures c.recall_item_has_no_parameters.ensures (sized-read c.cx-2.result.now old c.lang_item.result c.in-Some.sized c.cx-2.ensures c.lang_item.ensures c.in-Some.is)

pub consider_dyn-answer-requires-clause-free : goal.consider_dyn-answer-requires-clause-free
consider_dyn-answer-requires-clause-free g c = alone-free (ty_tree (g.E.Build.context c.args.ecx.now).trees c.args.target) c.requires.stands.tree.trees_free

pub returns : goal.returns
returns g c =
    let first = c.args.ecx.now in
    let old = g.E.Build.context first in
    let now = trait_goal old.trees c.args.env c.args.predicate in
    dyn-listed (λ f. (g.met.E.EvalCtxt.lawful f).alike_judged_alike) first c.consider_dyn-answer.new.ecx c.args.candidates.now.items c.push_considered.new.candidates.items old now (self_of now) (ty_tree old.trees c.args.target)
    (item_trait old Sized) c.in-Some.sized c.consider_dyn-answer.result c.push_considered.result c.requires.candidates
    (sized-read c.cx-2.result.now old c.lang_item.result c.in-Some.sized c.cx-2.ensures c.lang_item.ensures c.in-Some.is)
    (compatible-read c.cx-3.result.now old c.args.target c.is_dyn_compatible.result true c.cx-3.ensures c.is_dyn_compatible.ensures c.if-not-is_dyn_compatible.false)
    c.consider_dyn-answer.ensures c.push_considered.ensures
