use Rattle.std.proofs.Common.{refl, sym, ◌∙◌, ap, subst, Some, None}
use Rattle.std.specs.Prelude.{slice_get, List}
use Rattle.std.proofs.lemmas.Option.{slice_get_past, slice_get_read}
use Rattle.ir_trees.specs.declared.ir.kinds.Clause.{Clause}
use Rattle.ir_builder.specs.Calls.Cycles.{IsNearer, framed}
use Rattle.ir_trees.specs.Declarations.Declaring.{contents_of}
use Rattle.ir_trees.specs.Hierarchy.Supertraits.{named_supers}
use Rattle.ir_builder.proofs.Hierarchy.Cycles.{step_closes, step_passes, step_by_meeting}
use Rattle.ir_context.proofs.Hierarchy.Supertraits.{named_at, named_none}
use Rattle.ir_builder.proofs.decl.cycles.Search.step.Goals as goal

pub returns-in_default : goal.returns-in_default
returns-in_default c =
    let contents = contents_of c.args.contents.now in
    let names = named_supers c.args.nodes.now c.args.definitions.now contents in
    subst (IsNearer names (framed c.args.frame c.args.self.now)) (sym c.leave.ensures)
    (step_closes names (framed c.args.frame c.args.self.now) c.args.frame c.args.self.now.frames refl
    (named_none c.args.nodes.now c.args.definitions.now contents c.args.frame.number c.args.frame.looked
    (ap (λ (xs : List Clause). slice_get xs c.args.frame.looked) (sym c.declared_supers-supers.ensures)
    ∙ slice_get_past c.declared_supers-supers.result.now c.args.frame.looked c.in_default.ensures.lookup.3))
    c.requires)

pub returns-in-Some-clause_supertrait : goal.returns-in-Some-clause_supertrait
returns-in-Some-clause_supertrait c =
    let contents = contents_of c.args.contents.now in
    let names = named_supers c.args.nodes.now c.args.definitions.now contents in
    step_by_meeting names c.args.self.now c.push.new.self c.meet.new.self c.args.frame c.in-Some-clause_supertrait.of.0 c.meet.result
    (named_at c.args.nodes.now c.args.definitions.now contents c.args.frame.number c.args.frame.looked c.in-Some.clause.now (Some c.in-Some-clause_supertrait.of.0)
    (ap (λ (xs : List Clause). slice_get xs c.args.frame.looked) (sym c.declared_supers-supers.ensures)
    ∙ slice_get_read c.declared_supers-supers.result.now _ c.args.frame.looked c.in-Some.clause.now refl c.in-Some.ensures.lookup.3.0 c.in-Some.ensures.lookup.1)
    c.in-Some-clause_supertrait.ensures)
    c.in_ok-push.ensures c.meet.ensures.«open» c.meet.ensures.met c.requires

pub returns-in-None : goal.returns-in-None
returns-in-None c =
    let contents = contents_of c.args.contents.now in
    let names = named_supers c.args.nodes.now c.args.definitions.now contents in
    subst (IsNearer names (framed c.args.frame c.args.self.now)) (sym c.in_ok-push.ensures)
    (step_passes names (framed c.args.frame c.args.self.now) c.args.frame c.args.self.now.frames refl
    (named_at c.args.nodes.now c.args.definitions.now contents c.args.frame.number c.args.frame.looked c.in-Some.clause.now None
    (ap (λ (xs : List Clause). slice_get xs c.args.frame.looked) (sym c.declared_supers-supers.ensures)
    ∙ slice_get_read c.declared_supers-supers.result.now _ c.args.frame.looked c.in-Some.clause.now refl c.in-Some.ensures.lookup.3.0 c.in-Some.ensures.lookup.1)
    c.in-None.ensures)
    c.requires)
