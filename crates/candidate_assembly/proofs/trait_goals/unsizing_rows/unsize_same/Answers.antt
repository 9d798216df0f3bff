use Rattle.std.proofs.Common.{◌≡◌, Bool, [], ◌∷◌, List, sym, ap, subst, ◌∙◌}
use Rattle.std.specs.Prelude.{if◌then◌else◌}
use Rattle.ir_trees.specs.Declarations.Context.{Context}
use Rattle.ir_trees.specs.Declarations.Lookups.{adt_shape, definition}
use Rattle.ir_trees.specs.Syntax.Words.{ty_tree}
use Rattle.candidate_eval.specs.Derivations.Rules.{Rule}
use Rattle.candidate_assembly.specs.Rules.BuiltinRules.{self_of}
use Rattle.candidate_assembly.specs.Answers.Listing.{ConsidersAll}
use Rattle.candidate_assembly.specs.Goals.TraitGoals.{trait_goal}
use Rattle.candidate_assembly.specs.Rules.Unsizing.{is_struct, struct_to_struct}
use Rattle.candidate_assembly.proofs.Lists.Listing.{one-listed, whole_list}
use Rattle.candidate_assembly.proofs.trait_goals.unsizing_rows.unsize_same.Goals as goal

pub returns : goal.returns
returns g c =
    let E = g.E.EvalCtxt in
    let context = g.E.Build.context in
    let first = c.args.ecx.now in
    let old = context first in
    let goal = trait_goal old.trees c.args.env c.args.predicate in
    let rule = struct_to_struct old goal c.args.adt.0 (self_of goal) (ty_tree old.trees c.args.target) in
    let some = subst (λ (x : Context). c.is_struct.result ≡ is_struct (adt_shape (definition x c.args.adt.0))) c.cx.ensures c.is_struct.ensures in
    subst (λ (rs : List Rule). ConsidersAll E.fixed E.judge E.state E.probes context E.stops first c.consider_struct-answer.new.ecx (E.state first) (λ x. c.push_considered.new.candidates.items) (whole_list E.fixed E.judge E.state context first c.args.candidates.now.items rs) c.push_considered.result)
    (ap (λ (b : Bool). if b then rule ∷ [] else []) (sym c.if-not-is_struct.false ∙ some))
    (one-listed (λ f. (g.met.E.EvalCtxt.lawful f).alike_judged_alike) first c.consider_struct-answer.new.ecx c.args.candidates.now.items c.push_considered.new.candidates.items rule _ c.push_considered.result c.requires.candidates c.consider_struct-answer.ensures c.push_considered.ensures)
