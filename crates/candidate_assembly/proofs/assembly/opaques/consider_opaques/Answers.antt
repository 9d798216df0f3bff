use Rattle.std.proofs.Common.{◌≡◌, Err, ap, false, get_or, length, map, refl, subst, sym, ◌∙◌}
use Rattle.std.specs.List.{flat_map}
use Rattle.std.proofs.lemmas.Result.{err_from_is_err_and}
use Rattle.ir_trees.specs.declared.ir.kinds.Clause.{Clause}
use Rattle.ir_trees.specs.Declarations.Context.{Context}
use Rattle.ir_trees.specs.Syntax.Trees.{Tree, holds, is_param}
use Rattle.ir_trees.specs.Validity.WellFormed.{IsWellFormedTable}
use Rattle.ir_trees.specs.Unification.Substitutions.{alone}
use Rattle.ir_trees.specs.Syntax.Words.{ClauseListFits, IsTy, clause_tree, ty_tree}
use Rattle.candidate_eval.specs.Interface.Evaluators.{alias_trees}
use Rattle.candidate_eval.specs.Derivations.Mentions.{IsBelow, is_from}
use Rattle.candidate_eval.specs.Judges.States.{State}
use Rattle.candidate_eval.proofs.Interface.Probing.{made}
use Rattle.candidate_assembly.specs.Goals.Kinds.{self_type}
use Rattle.candidate_assembly.specs.Rules.Opaques.{AreBelow, ambiguous_rule, opaque_rules, open_impl_rules}
use Rattle.candidate_assembly.proofs.Aliases.BoundRules.{not-made-listed}
use Rattle.candidate_assembly.proofs.Calls.Keeping.{goal-kept}
use Rattle.candidate_assembly.proofs.Opaques.OpaqueAnswers.{below-later, none-there}
use Rattle.candidate_assembly.proofs.Opaques.OpaqueLists.{added-behind, begun-with, gathered-rules, like-first, lists-as, open-answers, stops-as, stops-before}
use Rattle.candidate_assembly.proofs.Opaques.SaidBounds.{all-said-of, hidden-bounded}
use Rattle.candidate_assembly.proofs.Opaques.SaidFree.{all-said-below, all-said-free}
use Rattle.candidate_assembly.proofs.assembly.opaques.consider_opaques.Goals as goal

pub all_bounds_said-requires-clause-opaques : goal.all_bounds_said-requires-clause-opaques
all_bounds_said-requires-clause-opaques g c =
    let first = c.args.ecx.now in
    let old = g.E.Build.context first in
    let opaques = c.args.opaques.now in
    λ k d l. hidden-bounded old _ (get_or opaques k d) (c.requires.opaques k d l)

pub all_bounds_said-requires-clause-ty : goal.all_bounds_said-requires-clause-ty
all_bounds_said-requires-clause-ty g c =
    subst (λ (x : Context). IsTy x.trees c.self_ty-self_ty.result) c.cx-2.ensures c.self_ty-self_ty.ensures.sort

pub returns-in_err-clauses : goal.returns-in_err-clauses
returns-in_err-clauses g c =
    let first = c.args.ecx.now in
    let mid = c.all_bounds_said.new.make in
    let grows = c.all_bounds_said.ensures.grows in
    let r = g.met.E.EvalCtxt.by_rest first mid c.all_bounds_said.ensures.rest in
    let p = err_from_is_err_and c.from_residual.result c.from_residual.ensures.1 in
    not-made-listed (λ f. (g.met.E.EvalCtxt.lawful f).alike_judged_alike) first mid c.from_residual.result c.in_err-clauses.field-0.0 (p.1 ∙ ap Err p.2) c.in_err-clauses.ensures.cause (made r grows) r.1

pub consider_opaque_bounds-requires-clause-goal : goal.consider_opaque_bounds-requires-clause-goal
consider_opaque_bounds-requires-clause-goal g c =
    let first = c.args.ecx.now in
    let old = g.E.Build.context first in
    let mid = c.all_bounds_said.new.make in
    let now = g.E.Build.context mid in
    let grows = c.all_bounds_said.ensures.grows in
    goal-kept grows (g.met.G.GoalKind.stays old now c.args.env c.args.predicate grows c.requires.goal) c.requires.goal

pub consider_opaque_bounds-requires-clause-below : goal.consider_opaque_bounds-requires-clause-below
consider_opaque_bounds-requires-clause-below g c =
    let E = g.E.EvalCtxt in
    let G = g.G.GoalKind in
    let first = c.args.ecx.now in
    let old = g.E.Build.context first in
    let mid = c.all_bounds_said.new.make in
    let now = g.E.Build.context mid in
    let grows = c.all_bounds_said.ensures.grows in
    let r = g.met.E.EvalCtxt.by_rest first mid c.all_bounds_said.ensures.rest in
    let says = g.met.G.GoalKind.stays old now c.args.env c.args.predicate grows c.requires.goal in
    let like = like-first E.fixed E.judge E.state (λ f. (g.met.E.EvalCtxt.lawful f).alike_judged_alike) first mid r.1 in
    below-later G.kind.rules (E.state first) (E.state mid) _ _ ((g.met.E.EvalCtxt.lawful (E.fixed first)).alike_judged_alike.alike_looks (E.state first) (E.state mid) like) says.seen c.requires.below

pub consider_opaque_bounds-requires-clause-clauses : goal.consider_opaque_bounds-requires-clause-clauses
consider_opaque_bounds-requires-clause-clauses g c =
    let mid = c.all_bounds_said.new.make in
    let now = g.E.Build.context mid in
    subst (ClauseListFits now.trees) (sym c.as_slice.ensures.value) c.in_ok-clauses.ensures.sort

pub consider_opaque_bounds-requires-clause-free : goal.consider_opaque_bounds-requires-clause-free
consider_opaque_bounds-requires-clause-free g c =
    let E = g.E.EvalCtxt in
    let G = g.G.GoalKind in
    let first = c.args.ecx.now in
    let old = g.E.Build.context first in
    let mid = c.all_bounds_said.new.make in
    let now = g.E.Build.context mid in
    let seen = G.kind.seen old.trees c.args.env c.args.predicate in
    let self = c.self_ty-self_ty.result in
    let is : ty_tree old.trees self ≡ self_type G.kind.rules old seen = subst (λ (x : Context). ty_tree x.trees self ≡ self_type G.kind.rules x (G.kind.seen x.trees c.args.env c.args.predicate)) c.cx-2.ensures c.self_ty-self_ty.ensures.tree in
    let xs = c.as_slice.result.now in
    let are = ap (map (clause_tree now.trees)) c.as_slice.ensures.value ∙ c.in_ok-clauses.ensures.trees in
    let n = length (E.state first).variables in
    let opaques = c.args.opaques.now in
    let free : holds is_param (alone (ty_tree old.trees self)) ≡ false = subst (λ (x : Tree). holds is_param (alone x) ≡ false) (sym is) (g.met.G.GoalKind.laws.change.self_type_holds is_param old seen refl c.requires.goal.no_parameter) in
    all-said-free old n opaques (ty_tree old.trees self) c.requires.opaques now.trees xs (are ∙ sym (all-said-of old self opaques)) free

pub consider_opaque_bounds-requires-clause-clauses_below : goal.consider_opaque_bounds-requires-clause-clauses_below
consider_opaque_bounds-requires-clause-clauses_below g c =
    let E = g.E.EvalCtxt in
    let G = g.G.GoalKind in
    let first = c.args.ecx.now in
    let old = g.E.Build.context first in
    let mid = c.all_bounds_said.new.make in
    let now = g.E.Build.context mid in
    let r = g.met.E.EvalCtxt.by_rest first mid c.all_bounds_said.ensures.rest in
    let seen = G.kind.seen old.trees c.args.env c.args.predicate in
    let self = c.self_ty-self_ty.result in
    let is : ty_tree old.trees self ≡ self_type G.kind.rules old seen = subst (λ (x : Context). ty_tree x.trees self ≡ self_type G.kind.rules x (G.kind.seen x.trees c.args.env c.args.predicate)) c.cx-2.ensures c.self_ty-self_ty.ensures.tree in
    let xs = c.as_slice.result.now in
    let are = ap (map (clause_tree now.trees)) c.as_slice.ensures.value ∙ c.in_ok-clauses.ensures.trees in
    let n = length (E.state first).variables in
    let opaques = c.args.opaques.now in
    let below : IsBelow n (alone (ty_tree old.trees self)) = subst (λ (x : Tree). IsBelow n (alone x)) (sym is) (g.met.G.GoalKind.laws.change.self_type_holds (is_from n) old seen refl c.requires.below.trees) in
    subst (λ (s : State). AreBelow now.trees (length s.variables) xs) (sym r.1)
    (all-said-below old n opaques (ty_tree old.trees self) c.requires.opaques now.trees xs (are ∙ sym (all-said-of old self opaques)) c.in_ok-clauses.ensures.closed below)

pub consider_opaque_bounds-requires-clause-candidates : goal.consider_opaque_bounds-requires-clause-candidates
consider_opaque_bounds-requires-clause-candidates g c =
    let mid = c.all_bounds_said.new.make in
    let now = g.E.Build.context mid in
    none-there now.trees _ c.new-candidates.ensures.items

pub returns-in_err-consider_opaque_bounds : goal.returns-in_err-consider_opaque_bounds
returns-in_err-consider_opaque_bounds g c =
    let E = g.E.EvalCtxt in
    let G = g.G.GoalKind in
    let first = c.args.ecx.now in
    let old = g.E.Build.context first in
    let mid = c.all_bounds_said.new.make in
    let now = g.E.Build.context mid in
    let grows = c.all_bounds_said.ensures.grows in
    let r = g.met.E.EvalCtxt.by_rest first mid c.all_bounds_said.ensures.rest in
    let says = g.met.G.GoalKind.stays old now c.args.env c.args.predicate grows c.requires.goal in
    let seen = G.kind.seen old.trees c.args.env c.args.predicate in
    let self = c.self_ty-self_ty.result in
    let is : ty_tree old.trees self ≡ self_type G.kind.rules old seen = subst (λ (x : Context). ty_tree x.trees self ≡ self_type G.kind.rules x (G.kind.seen x.trees c.args.env c.args.predicate)) c.cx-2.ensures c.self_ty-self_ty.ensures.tree in
    let xs = c.as_slice.result.now in
    let are = ap (map (clause_tree now.trees)) c.as_slice.ensures.value ∙ c.in_ok-clauses.ensures.trees in
    let opaques = c.args.opaques.now in
    let firsts = flat_map (opaque_rules G.kind.rules old seen) (alias_trees old.trees opaques) in
    let opens = open_impl_rules G.kind.rules (E.judge (E.fixed first)) old (E.state first).mode seen c.args.from in
    let listed = map (λ (x : Clause). ambiguous_rule G.kind.rules now (G.kind.seen now.trees c.args.env c.args.predicate) (clause_tree now.trees x)) xs in
    let rules = gathered-rules G.kind.rules old now seen (G.kind.seen now.trees c.args.env c.args.predicate) says.seen says.fits xs (alias_trees old.trees opaques) (ty_tree old.trees self) is are in
    let late = c.consider_opaque_bounds.new.ecx in
    let p = err_from_is_err_and c.from_residual-in_err-consider_opaque_bounds.result c.from_residual-in_err-consider_opaque_bounds.ensures.1 in
    let z = c.in_err-consider_opaque_bounds.field-0.0 in
    stops-as first late (E.state first) z c.from_residual-in_err-consider_opaque_bounds.result (p.1 ∙ ap Err p.2) (stops-before (E.judge (E.fixed first)) (E.state first) firsts opens z)
    (begun-with (λ f. (g.met.E.EvalCtxt.lawful f).alike_judged_alike) first mid late _ firsts listed (Err z) (made r grows) r.1 c.new-candidates.ensures.items rules c.in_err-consider_opaque_bounds.ensures)

pub assemble_open_impls-requires-clause-goal : goal.assemble_open_impls-requires-clause-goal
assemble_open_impls-requires-clause-goal g c =
    let G = g.G.GoalKind in
    let first = c.args.ecx.now in
    let old = g.E.Build.context first in
    let mid = c.all_bounds_said.new.make in
    let now = g.E.Build.context mid in
    let grows = c.all_bounds_said.ensures.grows in
    let r = g.met.E.EvalCtxt.by_rest first mid c.all_bounds_said.ensures.rest in
    let says = g.met.G.GoalKind.stays old now c.args.env c.args.predicate grows c.requires.goal in
    let seen = G.kind.seen old.trees c.args.env c.args.predicate in
    let self = c.self_ty-self_ty.result in
    let is : ty_tree old.trees self ≡ self_type G.kind.rules old seen = subst (λ (x : Context). ty_tree x.trees self ≡ self_type G.kind.rules x (G.kind.seen x.trees c.args.env c.args.predicate)) c.cx-2.ensures c.self_ty-self_ty.ensures.tree in
    let xs = c.as_slice.result.now in
    let are = ap (map (clause_tree now.trees)) c.as_slice.ensures.value ∙ c.in_ok-clauses.ensures.trees in
    let opaques = c.args.opaques.now in
    let firsts = flat_map (opaque_rules G.kind.rules old seen) (alias_trees old.trees opaques) in
    let listed = map (λ (x : Clause). ambiguous_rule G.kind.rules now (G.kind.seen now.trees c.args.env c.args.predicate) (clause_tree now.trees x)) xs in
    let rules = gathered-rules G.kind.rules old now seen (G.kind.seen now.trees c.args.env c.args.predicate) says.seen says.fits xs (alias_trees old.trees opaques) (ty_tree old.trees self) is are in
    let late = c.consider_opaque_bounds.new.ecx in
    let far = g.E.Build.context late in
    let done = begun-with (λ f. (g.met.E.EvalCtxt.lawful f).alike_judged_alike) first mid late _ firsts listed _ (made r grows) r.1 c.new-candidates.ensures.items rules c.in_ok-consider_opaque_bounds.ensures in
    let says-late = g.met.G.GoalKind.stays old far c.args.env c.args.predicate done.kept.grows c.requires.goal in
    goal-kept done.kept.grows says-late c.requires.goal

pub assemble_open_impls-requires-clause-below : goal.assemble_open_impls-requires-clause-below
assemble_open_impls-requires-clause-below g c =
    let E = g.E.EvalCtxt in
    let G = g.G.GoalKind in
    let first = c.args.ecx.now in
    let old = g.E.Build.context first in
    let mid = c.all_bounds_said.new.make in
    let now = g.E.Build.context mid in
    let grows = c.all_bounds_said.ensures.grows in
    let r = g.met.E.EvalCtxt.by_rest first mid c.all_bounds_said.ensures.rest in
    let says = g.met.G.GoalKind.stays old now c.args.env c.args.predicate grows c.requires.goal in
    let seen = G.kind.seen old.trees c.args.env c.args.predicate in
    let self = c.self_ty-self_ty.result in
    let is : ty_tree old.trees self ≡ self_type G.kind.rules old seen = subst (λ (x : Context). ty_tree x.trees self ≡ self_type G.kind.rules x (G.kind.seen x.trees c.args.env c.args.predicate)) c.cx-2.ensures c.self_ty-self_ty.ensures.tree in
    let xs = c.as_slice.result.now in
    let are = ap (map (clause_tree now.trees)) c.as_slice.ensures.value ∙ c.in_ok-clauses.ensures.trees in
    let opaques = c.args.opaques.now in
    let firsts = flat_map (opaque_rules G.kind.rules old seen) (alias_trees old.trees opaques) in
    let listed = map (λ (x : Clause). ambiguous_rule G.kind.rules now (G.kind.seen now.trees c.args.env c.args.predicate) (clause_tree now.trees x)) xs in
    let rules = gathered-rules G.kind.rules old now seen (G.kind.seen now.trees c.args.env c.args.predicate) says.seen says.fits xs (alias_trees old.trees opaques) (ty_tree old.trees self) is are in
    let late = c.consider_opaque_bounds.new.ecx in
    let far = g.E.Build.context late in
    let done = begun-with (λ f. (g.met.E.EvalCtxt.lawful f).alike_judged_alike) first mid late _ firsts listed _ (made r grows) r.1 c.new-candidates.ensures.items rules c.in_ok-consider_opaque_bounds.ensures in
    let says-late = g.met.G.GoalKind.stays old far c.args.env c.args.predicate done.kept.grows c.requires.goal in
    below-later G.kind.rules (E.state first) (E.state late) _ _ ((g.met.E.EvalCtxt.lawful (E.fixed first)).alike_judged_alike.alike_looks (E.state first) (E.state late) done.alike) says-late.seen c.requires.below

pub assemble_open_impls-requires-clause-candidates : goal.assemble_open_impls-requires-clause-candidates
assemble_open_impls-requires-clause-candidates g c =
    c.in_ok-consider_opaque_bounds.ensures.told.fits

pub returns-in_err-assemble_open_impls : goal.returns-in_err-assemble_open_impls
returns-in_err-assemble_open_impls g c =
    let E = g.E.EvalCtxt in
    let G = g.G.GoalKind in
    let first = c.args.ecx.now in
    let old = g.E.Build.context first in
    let mid = c.all_bounds_said.new.make in
    let now = g.E.Build.context mid in
    let grows = c.all_bounds_said.ensures.grows in
    let r = g.met.E.EvalCtxt.by_rest first mid c.all_bounds_said.ensures.rest in
    let says = g.met.G.GoalKind.stays old now c.args.env c.args.predicate grows c.requires.goal in
    let seen = G.kind.seen old.trees c.args.env c.args.predicate in
    let self = c.self_ty-self_ty.result in
    let is : ty_tree old.trees self ≡ self_type G.kind.rules old seen = subst (λ (x : Context). ty_tree x.trees self ≡ self_type G.kind.rules x (G.kind.seen x.trees c.args.env c.args.predicate)) c.cx-2.ensures c.self_ty-self_ty.ensures.tree in
    let xs = c.as_slice.result.now in
    let are = ap (map (clause_tree now.trees)) c.as_slice.ensures.value ∙ c.in_ok-clauses.ensures.trees in
    let opaques = c.args.opaques.now in
    let firsts = flat_map (opaque_rules G.kind.rules old seen) (alias_trees old.trees opaques) in
    let opens = open_impl_rules G.kind.rules (E.judge (E.fixed first)) old (E.state first).mode seen c.args.from in
    let listed = map (λ (x : Clause). ambiguous_rule G.kind.rules now (G.kind.seen now.trees c.args.env c.args.predicate) (clause_tree now.trees x)) xs in
    let rules = gathered-rules G.kind.rules old now seen (G.kind.seen now.trees c.args.env c.args.predicate) says.seen says.fits xs (alias_trees old.trees opaques) (ty_tree old.trees self) is are in
    let late = c.consider_opaque_bounds.new.ecx in
    let far = g.E.Build.context late in
    let done = begun-with (λ f. (g.met.E.EvalCtxt.lawful f).alike_judged_alike) first mid late _ firsts listed _ (made r grows) r.1 c.new-candidates.ensures.items rules c.in_ok-consider_opaque_bounds.ensures in
    let says-late = g.met.G.GoalKind.stays old far c.args.env c.args.predicate done.kept.grows c.requires.goal in
    let table : IsWellFormedTable old = subst (λ (x : Context). IsWellFormedTable x) c.cx.ensures c.recall_well_formed_table.ensures in
    let same = open-answers G.kind.rules G.kind.bounds g.met.G.GoalKind.laws old far table done.kept.grows seen (G.kind.seen far.trees c.args.env c.args.predicate) says-late.seen says-late.reference E.judge (E.fixed first) (E.fixed late)
    (g.met.E.EvalCtxt.lawful (E.fixed first)).alike_judged_alike done.kept.fixed_same (E.state first) (E.state late) done.alike c.requires.below c.args.from in
    let last = c.assemble_open_impls.new.ecx in
    let p = err_from_is_err_and c.from_residual-in_err-assemble_open_impls.result c.from_residual-in_err-assemble_open_impls.ensures.1 in
    let z = c.in_err-assemble_open_impls.field-0.0 in
    stops-as first last (E.state first) z c.from_residual-in_err-assemble_open_impls.result (p.1 ∙ ap Err p.2) (λ e. e)
    (added-behind (λ f. (g.met.E.EvalCtxt.lawful f).alike_judged_alike) first late last _ _ firsts opens _ (Err z) done c.in_err-assemble_open_impls.ensures same)

pub returns : goal.returns
returns g c =
    let E = g.E.EvalCtxt in
    let G = g.G.GoalKind in
    let first = c.args.ecx.now in
    let old = g.E.Build.context first in
    let mid = c.all_bounds_said.new.make in
    let now = g.E.Build.context mid in
    let grows = c.all_bounds_said.ensures.grows in
    let r = g.met.E.EvalCtxt.by_rest first mid c.all_bounds_said.ensures.rest in
    let says = g.met.G.GoalKind.stays old now c.args.env c.args.predicate grows c.requires.goal in
    let seen = G.kind.seen old.trees c.args.env c.args.predicate in
    let self = c.self_ty-self_ty.result in
    let is : ty_tree old.trees self ≡ self_type G.kind.rules old seen = subst (λ (x : Context). ty_tree x.trees self ≡ self_type G.kind.rules x (G.kind.seen x.trees c.args.env c.args.predicate)) c.cx-2.ensures c.self_ty-self_ty.ensures.tree in
    let xs = c.as_slice.result.now in
    let are = ap (map (clause_tree now.trees)) c.as_slice.ensures.value ∙ c.in_ok-clauses.ensures.trees in
    let opaques = c.args.opaques.now in
    let firsts = flat_map (opaque_rules G.kind.rules old seen) (alias_trees old.trees opaques) in
    let opens = open_impl_rules G.kind.rules (E.judge (E.fixed first)) old (E.state first).mode seen c.args.from in
    let listed = map (λ (x : Clause). ambiguous_rule G.kind.rules now (G.kind.seen now.trees c.args.env c.args.predicate) (clause_tree now.trees x)) xs in
    let rules = gathered-rules G.kind.rules old now seen (G.kind.seen now.trees c.args.env c.args.predicate) says.seen says.fits xs (alias_trees old.trees opaques) (ty_tree old.trees self) is are in
    let late = c.consider_opaque_bounds.new.ecx in
    let far = g.E.Build.context late in
    let done = begun-with (λ f. (g.met.E.EvalCtxt.lawful f).alike_judged_alike) first mid late _ firsts listed _ (made r grows) r.1 c.new-candidates.ensures.items rules c.in_ok-consider_opaque_bounds.ensures in
    let says-late = g.met.G.GoalKind.stays old far c.args.env c.args.predicate done.kept.grows c.requires.goal in
    let table : IsWellFormedTable old = subst (λ (x : Context). IsWellFormedTable x) c.cx.ensures c.recall_well_formed_table.ensures in
    let same = open-answers G.kind.rules G.kind.bounds g.met.G.GoalKind.laws old far table done.kept.grows seen (G.kind.seen far.trees c.args.env c.args.predicate) says-late.seen says-late.reference E.judge (E.fixed first) (E.fixed late)
    (g.met.E.EvalCtxt.lawful (E.fixed first)).alike_judged_alike done.kept.fixed_same (E.state first) (E.state late) done.alike c.requires.below c.args.from in
    let last = c.assemble_open_impls.new.ecx in
    lists-as first last (E.state first) _ _ refl
    (added-behind (λ f. (g.met.E.EvalCtxt.lawful f).alike_judged_alike) first late last _ _ firsts opens _ _ done c.in_ok-assemble_open_impls.ensures same)
