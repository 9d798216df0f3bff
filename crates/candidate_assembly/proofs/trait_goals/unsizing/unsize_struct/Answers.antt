use Rattle.std.proofs.Common.{◌≡◌, [], ◌∷◌, false, sym, ap, subst, ◌∙◌}
use Rattle.std.proofs.lemmas.List.Elements.{All-cons, All-nil}
use Rattle.std.proofs.lemmas.Result.{err_from_is_err_and}
use Rattle.ir_trees.specs.declared.ir.kinds.Clause.{Clause}
use Rattle.ir_trees.specs.Declarations.Context.{Context}
use Rattle.ir_trees.specs.Syntax.Trees.{holds, is_param, tree_holds}
use Rattle.ir_trees.specs.Syntax.Words.{args_forest, clause_tree, env_forest, ty_tree}
use Rattle.ir_trees.proofs.Growth.Kept.{ty-kept}
use Rattle.candidate_eval.proofs.Dynamic.Objects.{env-kept}
use Rattle.candidate_eval.proofs.Interface.Probing.{made}
use Rattle.candidate_assembly.specs.Rules.BuiltinRules.{self_of}
use Rattle.candidate_assembly.specs.Goals.TraitGoals.{trait_goal}
use Rattle.candidate_assembly.specs.Rules.Unsizing.{equal_rule, struct_to_struct, tail_of, unsizing_parameters}
use Rattle.candidate_assembly.proofs.Calls.Causes.{answered-stop, made-here}
use Rattle.candidate_assembly.proofs.Calls.Considering.{considers-after, not-made}
use Rattle.candidate_assembly.proofs.Unsizing.MixedForests.{mixed-free}
use Rattle.candidate_assembly.proofs.Calls.Stepping.{unmade-own}
use Rattle.candidate_assembly.proofs.Unsizing.StructParts.{first-free, pair-free, struct-same, tail-free}
use Rattle.candidate_assembly.proofs.trait_goals.unsizing.unsize_struct.Goals as goal

pub returns-in_err-mixed : goal.returns-in_err-mixed
returns-in_err-mixed g c =
    let first = c.args.ecx.now in
    let old = g.E.Build.context first in
    let goal = trait_goal old.trees c.args.env c.args.predicate in
    let r = g.met.E.EvalCtxt.by_rest first c.struct_parts.new.make c.struct_parts.ensures.rest in
    let s = c.in_err-mixed.field-0.0 in
    let m = c.in_err-mixed.ensures.cause in
    not-made (λ f. (g.met.E.EvalCtxt.lawful f).alike_judged_alike) first c.struct_parts.new.make (struct_to_struct old goal c.args.adt.0 (self_of goal) (ty_tree old.trees c.args.target)) c.from_residual.result s
    (answered-stop c.from_residual.result s (err_from_is_err_and c.from_residual.result c.from_residual.ensures.1)) (unmade-own s m) (made r c.struct_parts.ensures.grows) r.1 (made-here m)

pub consider_equal-requires-clause-env : goal.consider_equal-requires-clause-env
consider_equal-requires-clause-env g c = (env-kept (g.E.Build.context c.args.ecx.now) _ c.args.env c.struct_parts.ensures.grows c.requires.goal.env).0

pub consider_equal-requires-clause-right : goal.consider_equal-requires-clause-right
consider_equal-requires-clause-right g c = (ty-kept (g.E.Build.context c.args.ecx.now) _ c.args.target c.struct_parts.ensures.grows c.requires.target).0

pub consider_equal-requires-clause-right_free : goal.consider_equal-requires-clause-right_free
consider_equal-requires-clause-right_free g c =
    let same = (ty-kept (g.E.Build.context c.args.ecx.now) (g.E.Build.context c.struct_parts.new.make) c.args.target c.struct_parts.ensures.grows c.requires.target).1 in
    ap (tree_holds is_param) same ∙ c.requires.free

pub consider_equal-requires-clause-left_free : goal.consider_equal-requires-clause-left_free
consider_equal-requires-clause-left_free g c =
    let old = g.E.Build.context c.args.ecx.now in
    let from = first-free _ (trait_goal old.trees c.args.env c.args.predicate).reference.arguments c.requires.goal.no_parameter c.requires.source in
    let to : holds is_param (args_forest old.trees c.args.to) ≡ false = ap (tree_holds is_param) (sym c.requires.into) ∙ c.requires.free in
    ap (tree_holds is_param) c.in_ok-mixed.ensures.mixed.1
    ∙ mixed-free (unsizing_parameters old c.args.adt.0) 0 (args_forest old.trees c.args.from) (args_forest old.trees c.args.to) from to

pub consider_equal-requires-clause-free : goal.consider_equal-requires-clause-free
consider_equal-requires-clause-free g c =
    let old = g.E.Build.context c.args.ecx.now in
    let mid = g.E.Build.context c.struct_parts.new.make in
    let from = first-free _ (trait_goal old.trees c.args.env c.args.predicate).reference.arguments c.requires.goal.no_parameter c.requires.source in
    let to : holds is_param (args_forest old.trees c.args.to) ≡ false = ap (tree_holds is_param) (sym c.requires.into) ∙ c.requires.free in
    let free = pair-free c.args.predicate.trait_ref.def_id (tail_of old c.args.adt.0 (args_forest old.trees c.args.from)) (tail_of old c.args.adt.0 (args_forest old.trees c.args.to))
    (tail-free old c.args.adt.0 (args_forest old.trees c.args.from) from) (tail-free old c.args.adt.0 (args_forest old.trees c.args.to) to) in
    All-cons (λ (x : Clause). tree_holds is_param (clause_tree mid.trees x) ≡ false) c.in_ok-mixed.clause [] (ap (tree_holds is_param) c.in_ok-mixed.ensures.clause.1 ∙ free) (All-nil _)

pub returns : goal.returns
returns g c =
    let first = c.args.ecx.now in
    let middle = c.struct_parts.new.make in
    let old = g.E.Build.context first in
    let mid = g.E.Build.context middle in
    let goal = trait_goal old.trees c.args.env c.args.predicate in
    let r = g.met.E.EvalCtxt.by_rest first middle c.struct_parts.ensures.rest in
    let grows = c.struct_parts.ensures.grows in
    let to = ty_tree old.trees c.args.target in
    let parameters = subst (λ (x : Context). c.unsizing_parameters.result.now ≡ unsizing_parameters x c.args.adt.0) c.cx.ensures c.unsizing_parameters.ensures in
    considers-after first middle c.consider_equal.new.ecx (struct_to_struct old goal c.args.adt.0 (self_of goal) to)
    (equal_rule (env_forest mid.trees c.args.env) (ty_tree mid.trees c.in_ok-mixed.mixed) (ty_tree mid.trees c.args.target) (clause_tree mid.trees c.in_ok-mixed.clause ∷ []))
    c.consider_equal.result (made r grows) r.1
    (struct-same old goal c.args.adt (args_forest old.trees c.args.from) (args_forest old.trees c.args.to) (self_of goal) to c.unsizing_parameters.result.now parameters (sym c.is_empty.ensures ∙ c.if-is_empty.false)
    c.requires.source c.requires.into (env_forest mid.trees c.args.env) (ty_tree mid.trees c.in_ok-mixed.mixed) (ty_tree mid.trees c.args.target) (clause_tree mid.trees c.in_ok-mixed.clause)
    (env-kept old mid c.args.env grows c.requires.goal.env).1 c.in_ok-mixed.ensures.mixed.1 (ty-kept old mid c.args.target grows c.requires.target).1 c.in_ok-mixed.ensures.clause.1)
    c.consider_equal.ensures
