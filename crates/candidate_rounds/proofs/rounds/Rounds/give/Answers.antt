use Rattle.std.proofs.Common.{map, refl, sym, ap, subst, ◌∙◌}
use Rattle.std.proofs.lemmas.Result.{err_from_is_err_and}
use Rattle.ir_trees.specs.Declarations.Context.{Context}
use Rattle.ir_trees.specs.Syntax.Words.{ClauseListFits, args_forest, clause_tree}
use Rattle.ir_trees.proofs.Growth.Kept.{args-kept}
use Rattle.candidate_eval.specs.Outcomes.ResponseTrees.{IsResponse, response_of}
use Rattle.candidate_eval.specs.Judges.States.{valued, valued_tree}
use Rattle.candidate_rounds.specs.Calls.Giving.{AreConstraintsStop, lift_of, with_constraints}
use Rattle.candidate_rounds.specs.Table.Goals.{IsTraitGoal, key_seen}
use Rattle.candidate_rounds.specs.Evaluators.Known.{listing, state}
use Rattle.candidate_rounds.specs.Evaluators.Stopping.{IsEquationStop, IsGivingStop, IsLiftStop, of_row}
use Rattle.candidate_rounds.proofs.Evaluators.Between.{parts}
use Rattle.candidate_rounds.proofs.Table.Giving.{all-given, is-ready, no-constraints, no-values, none-given, not-lifted, not-named, unequal}
use Rattle.candidate_rounds.proofs.Evaluators.Going.{goes-listing, goes-trans}
use Rattle.candidate_rounds.proofs.Stops.SettlingStops.{refusal-passed, stop-becomes}
use Rattle.candidate_rounds.proofs.Table.Tabled.{response-stays, clauses-stay}
use Rattle.rounds_judge.specs.Table.TableSettling.{translation}
use Rattle.candidate_rounds.proofs.rounds.Rounds.give.Goals as goal

-- What is required of each call.

pub lift-requires-clause-key : goal.lift-requires-clause-key
lift-requires-clause-key c = subst (λ (x : Context). IsTraitGoal x.trees c.args.key.now.goal) (sym c.names.ensures.context) c.requires.key

pub lift-requires-clause-response : goal.lift-requires-clause-response
lift-requires-clause-response c = subst (λ (x : Context). IsResponse x.trees c.args.response.now) (sym c.names.ensures.context) c.requires.response

pub translate-requires : goal.translate-requires
translate-requires c =
    let f = goes-trans c.args.self.now c.names.new.self c.lift.new.self c.names.ensures.goes c.lift.ensures.goes in
    let g = goes-trans c.args.self.now c.lift.new.self c.own_variables.new.self f c.own_variables.ensures.goes in
    (args-kept c.args.self.now.context c.own_variables.new.self.context c.args.response.now.values g.0 c.requires.response.values).0

pub equate_args-requires-clause-left : goal.equate_args-requires-clause-left
equate_args-requires-clause-left c = (args-kept c.own_variables.new.self.context c.translate.new.self.context c.in_ok-row.row c.translate.ensures.goes.0 c.in_ok-row.ensures.sort).0

pub record_given-requires : goal.record_given-requires
record_given-requires c =
    let old = c.args.self.now in
    let two = c.own_variables.new.self in
    let three = c.translate.new.self in
    let four = c.equate_args.new.self in
    let f = goes-trans old c.names.new.self c.lift.new.self c.names.ensures.goes c.lift.ensures.goes in
    let g = goes-trans old c.lift.new.self two f c.own_variables.ensures.goes in
    let h = goes-trans old two three g c.translate.ensures.goes in
    let k = goes-trans old three four h c.equate_args.ensures.goes in
    subst (ClauseListFits four.context.trees) (sym c.as_slice-2.ensures.value) (response-stays old.context.trees four.context.trees k.0.kept c.args.response.now c.requires.response).regions

-- It goes on.

pub returns-in_err-lift-clause-goes : goal.returns-in_err-lift-clause-goes
returns-in_err-lift-clause-goes c = goes-trans c.args.self.now c.names.new.self c.lift.new.self c.names.ensures.goes c.lift.ensures.goes

pub returns-in_err-row-clause-goes : goal.returns-in_err-row-clause-goes
returns-in_err-row-clause-goes c =
    let f = goes-trans c.args.self.now c.names.new.self c.lift.new.self c.names.ensures.goes c.lift.ensures.goes in
    goes-trans c.args.self.now c.lift.new.self c.own_variables.new.self f c.own_variables.ensures.goes

pub returns-in_err-values-clause-goes : goal.returns-in_err-values-clause-goes
returns-in_err-values-clause-goes c =
    let f = goes-trans c.args.self.now c.names.new.self c.lift.new.self c.names.ensures.goes c.lift.ensures.goes in
    let g = goes-trans c.args.self.now c.lift.new.self c.own_variables.new.self f c.own_variables.ensures.goes in
    goes-trans c.args.self.now c.own_variables.new.self c.translate.new.self g c.translate.ensures.goes

pub returns-in_err-equate_args-clause-goes : goal.returns-in_err-equate_args-clause-goes
returns-in_err-equate_args-clause-goes c =
    let f = goes-trans c.args.self.now c.names.new.self c.lift.new.self c.names.ensures.goes c.lift.ensures.goes in
    let g = goes-trans c.args.self.now c.lift.new.self c.own_variables.new.self f c.own_variables.ensures.goes in
    let h = goes-trans c.args.self.now c.own_variables.new.self c.translate.new.self g c.translate.ensures.goes in
    goes-trans c.args.self.now c.translate.new.self c.equate_args.new.self h c.equate_args.ensures.goes

pub returns-in_err-record_given-clause-goes : goal.returns-in_err-record_given-clause-goes
returns-in_err-record_given-clause-goes c =
    let f = goes-trans c.args.self.now c.names.new.self c.lift.new.self c.names.ensures.goes c.lift.ensures.goes in
    let g = goes-trans c.args.self.now c.lift.new.self c.own_variables.new.self f c.own_variables.ensures.goes in
    let h = goes-trans c.args.self.now c.own_variables.new.self c.translate.new.self g c.translate.ensures.goes in
    let k = goes-trans c.args.self.now c.translate.new.self c.equate_args.new.self h c.equate_args.ensures.goes in
    goes-trans c.args.self.now c.equate_args.new.self c.record_given.new.self k c.record_given.ensures.goes

pub returns-clause-goes : goal.returns-clause-goes
returns-clause-goes c =
    let f = goes-trans c.args.self.now c.names.new.self c.lift.new.self c.names.ensures.goes c.lift.ensures.goes in
    let g = goes-trans c.args.self.now c.lift.new.self c.own_variables.new.self f c.own_variables.ensures.goes in
    let h = goes-trans c.args.self.now c.own_variables.new.self c.translate.new.self g c.translate.ensures.goes in
    let k = goes-trans c.args.self.now c.translate.new.self c.equate_args.new.self h c.equate_args.ensures.goes in
    goes-trans c.args.self.now c.equate_args.new.self c.record_given.new.self k c.record_given.ensures.goes

-- Stops of what is made.

pub returns-in_err-names-clause-cause : goal.returns-in_err-names-clause-cause
returns-in_err-names-clause-cause c =
    let old = c.args.self.now in
    let ts = c.names.new.self.context.trees in
    let k = key_seen old.context.trees c.args.key.now in
    let r = response_of old.context.trees c.args.response.now in
    stop-becomes (IsGivingStop ts (listing old) (state old) k c.args.numbers.now r) c.from_residual.result c.in_err-names.field-0.0 c.from_residual.ensures.1
    (not-named (listing old) (state old) k c.args.numbers.now r ts c.in_err-names.field-0.0 c.in_err-names.ensures.cause)

pub returns-in_err-lift-clause-cause : goal.returns-in_err-lift-clause-cause
returns-in_err-lift-clause-cause c =
    let old = c.args.self.now in
    let one = c.names.new.self in
    let ts = c.lift.new.self.context.trees in
    let k = key_seen old.context.trees c.args.key.now in
    let r = response_of old.context.trees c.args.response.now in
    let s = c.in_err-lift.field-0.0 in
    stop-becomes (IsGivingStop ts (listing old) (state old) k c.args.numbers.now r) c.from_residual-in_err-lift.result s c.from_residual-in_err-lift.ensures.1
    (not-lifted (listing old) (state old) k c.args.numbers.now r (state one) c.in_ok-names.names.items ts s c.in_ok-names.ensures.names
    (let P : Context → Type 0 = λ x. IsLiftStop x.trees (state one) (key_seen x.trees c.args.key.now) (response_of x.trees c.args.response.now) s in
    subst (λ (x : Context). IsLiftStop x.trees (state one) k r s) (sym (c.lift.ensures.context ∙ c.names.ensures.context)) (subst P c.names.ensures.context c.in_err-lift.ensures.cause)))

pub returns-in_err-row-clause-cause : goal.returns-in_err-row-clause-cause
returns-in_err-row-clause-cause c =
    let old = c.args.self.now in
    let k = key_seen old.context.trees c.args.key.now in
    let r = response_of old.context.trees c.args.response.now in
    stop-becomes (IsGivingStop c.own_variables.new.self.context.trees (listing old) (state old) k c.args.numbers.now r) c.from_residual-in_err-row.result c.in_err-row.field-0.0 c.from_residual-in_err-row.ensures.1
    (of_row c.in_err-row.ensures.cause)

pub returns-in_err-values-clause-cause : goal.returns-in_err-values-clause-cause
returns-in_err-values-clause-cause c =
    let old = c.args.self.now in
    let one = c.names.new.self in
    let ready = c.lift.new.self in
    let two = c.own_variables.new.self in
    let ts = c.translate.new.self.context.trees in
    let k = key_seen old.context.trees c.args.key.now in
    let r = response_of old.context.trees c.args.response.now in
    let s = c.in_err-values.field-0.0 in
    let ms = c.in_ok-names.names.items in
    let v = translation (lift_of c.in_ok-lift.lift) c.as_slice.result.now in
    let y = is-ready old one ready c.args.key.now c.args.numbers.now c.args.response.now c.in_ok-lift.lift ms c.as_slice.result.now c.in_ok-names.ensures.names c.names.ensures.context c.in_ok-lift.ensures.made
    c.in_ok-lift.ensures.lift c.as_slice.ensures.value in
    let f = goes-trans old one ready c.names.ensures.goes c.lift.ensures.goes in
    let g = goes-trans old ready two f c.own_variables.ensures.goes in
    let same = (args-kept old.context two.context c.args.response.now.values g.0 c.requires.response.values).1 in
    stop-becomes (IsGivingStop ts (listing old) (state old) k c.args.numbers.now r) c.from_residual-in_err-values.result s c.from_residual-in_err-values.ensures.1
    (no-values (listing old) (state old) k c.args.numbers.now r (state ready) ms v y ts (args_forest two.context.trees c.args.response.now.values) s same c.in_err-values.ensures.cause)

pub returns-in_err-record_given-clause-cause : goal.returns-in_err-record_given-clause-cause
returns-in_err-record_given-clause-cause c =
    let old = c.args.self.now in
    let one = c.names.new.self in
    let ready = c.lift.new.self in
    let two = c.own_variables.new.self in
    let three = c.translate.new.self in
    let four = c.equate_args.new.self in
    let ts = c.record_given.new.self.context.trees in
    let k = key_seen old.context.trees c.args.key.now in
    let r = response_of old.context.trees c.args.response.now in
    let s = c.in_err-record_given.field-0.0 in
    let ms = c.in_ok-names.names.items in
    let v = translation (lift_of c.in_ok-lift.lift) c.as_slice.result.now in
    let y = is-ready old one ready c.args.key.now c.args.numbers.now c.args.response.now c.in_ok-lift.lift ms c.as_slice.result.now c.in_ok-names.ensures.names c.names.ensures.context c.in_ok-lift.ensures.made
    c.in_ok-lift.ensures.lift c.as_slice.ensures.value in
    let f = goes-trans old one ready c.names.ensures.goes c.lift.ensures.goes in
    let g = goes-trans old ready two f c.own_variables.ensures.goes in
    let h = goes-trans old two three g c.translate.ensures.goes in
    let x = goes-trans old three four h c.equate_args.ensures.goes in
    let same = (clauses-stay old.context.trees four.context.trees c.args.response.now.regions.items x.0.kept c.requires.response.regions).0 in
    stop-becomes (IsGivingStop ts (listing old) (state old) k c.args.numbers.now r) c.from_residual-in_err-record_given.result s c.from_residual-in_err-record_given.ensures.1
    (no-constraints (listing old) (state old) k c.args.numbers.now r (state ready) ms v y ts (map (clause_tree four.context.trees) c.args.response.now.regions.items) s same
    (subst (λ cs. AreConstraintsStop ts v (map (clause_tree four.context.trees) cs) s) c.as_slice-2.ensures.value c.in_err-record_given.ensures.cause))

-- The equation.

pub returns-in_err-equate_args-clause-refused : goal.returns-in_err-equate_args-clause-refused
returns-in_err-equate_args-clause-refused c =
    let old = c.args.self.now in
    let one = c.names.new.self in
    let ready = c.lift.new.self in
    let two = c.own_variables.new.self in
    let three = c.translate.new.self in
    let k = key_seen old.context.trees c.args.key.now in
    let r = response_of old.context.trees c.args.response.now in
    let ms = c.in_ok-names.names.items in
    let v = translation (lift_of c.in_ok-lift.lift) c.as_slice.result.now in
    let y = is-ready old one ready c.args.key.now c.args.numbers.now c.args.response.now c.in_ok-lift.lift ms c.as_slice.result.now c.in_ok-names.ensures.names c.names.ensures.context c.in_ok-lift.ensures.made
    c.in_ok-lift.ensures.lift c.as_slice.ensures.value in
    let f = goes-trans old one ready c.names.ensures.goes c.lift.ensures.goes in
    let g = goes-trans old ready two f c.own_variables.ensures.goes in
    let h = goes-trans old two three g c.translate.ensures.goes in
    let row = (args-kept two.context three.context c.in_ok-row.row c.translate.ensures.goes.0 c.in_ok-row.ensures.sort).1 ∙ c.in_ok-row.ensures.trees in
    let same = (args-kept old.context two.context c.args.response.now.values g.0 c.requires.response.values).1 in
    let values = c.in_ok-values.ensures.list refl ∙ ap (valued v) same in
    let a = args_forest three.context.trees c.in_ok-row.row in
    let b = args_forest three.context.trees c.in_ok-values.values in
    let i = goes-listing old three h (parts c.recall_well_kept.ensures).given in
    let j = c.translate.ensures.state ∙ c.own_variables.ensures.state in
    let p = err_from_is_err_and c.from_residual-in_err-equate_args.result c.from_residual-in_err-equate_args.ensures.1 in
    rw p.1
    (λ e. none-given (listing old) (state old) k c.args.numbers.now r (state ready) ms v y (listing three) (state three) a b i j row values (c.in_err-equate_args.ensures.refused (sym p.2 ∙ e)))

pub returns-in_err-equate_args-clause-cause : goal.returns-in_err-equate_args-clause-cause
returns-in_err-equate_args-clause-cause c =
    let old = c.args.self.now in
    let one = c.names.new.self in
    let ready = c.lift.new.self in
    let two = c.own_variables.new.self in
    let three = c.translate.new.self in
    let k = key_seen old.context.trees c.args.key.now in
    let r = response_of old.context.trees c.args.response.now in
    let ms = c.in_ok-names.names.items in
    let v = translation (lift_of c.in_ok-lift.lift) c.as_slice.result.now in
    let y = is-ready old one ready c.args.key.now c.args.numbers.now c.args.response.now c.in_ok-lift.lift ms c.as_slice.result.now c.in_ok-names.ensures.names c.names.ensures.context c.in_ok-lift.ensures.made
    c.in_ok-lift.ensures.lift c.as_slice.ensures.value in
    let f = goes-trans old one ready c.names.ensures.goes c.lift.ensures.goes in
    let g = goes-trans old ready two f c.own_variables.ensures.goes in
    let h = goes-trans old two three g c.translate.ensures.goes in
    let row = (args-kept two.context three.context c.in_ok-row.row c.translate.ensures.goes.0 c.in_ok-row.ensures.sort).1 ∙ c.in_ok-row.ensures.trees in
    let same = (args-kept old.context two.context c.args.response.now.values g.0 c.requires.response.values).1 in
    let values = c.in_ok-values.ensures.list refl ∙ ap (valued v) same in
    let a = args_forest three.context.trees c.in_ok-row.row in
    let b = args_forest three.context.trees c.in_ok-values.values in
    let i = goes-listing old three h (parts c.recall_well_kept.ensures).given in
    let j = c.translate.ensures.state ∙ c.own_variables.ensures.state in
    let ts = c.equate_args.new.self.context.trees in
    refusal-passed (IsGivingStop ts (listing old) (state old) k c.args.numbers.now r) (IsEquationStop ts (listing three) (state three) a b) c.from_residual-in_err-equate_args.result c.in_err-equate_args.field-0.0
    c.from_residual-in_err-equate_args.ensures.1 c.in_err-equate_args.ensures.cause
    (λ s x. unequal (listing old) (state old) k c.args.numbers.now r (state ready) ms v y (listing three) (state three) a b i j row values ts s x)

pub returns-clause-ok : goal.returns-clause-ok
returns-clause-ok c =
    let old = c.args.self.now in
    let one = c.names.new.self in
    let ready = c.lift.new.self in
    let two = c.own_variables.new.self in
    let three = c.translate.new.self in
    let k = key_seen old.context.trees c.args.key.now in
    let r = response_of old.context.trees c.args.response.now in
    let ms = c.in_ok-names.names.items in
    let v = translation (lift_of c.in_ok-lift.lift) c.as_slice.result.now in
    let y = is-ready old one ready c.args.key.now c.args.numbers.now c.args.response.now c.in_ok-lift.lift ms c.as_slice.result.now c.in_ok-names.ensures.names c.names.ensures.context c.in_ok-lift.ensures.made
    c.in_ok-lift.ensures.lift c.as_slice.ensures.value in
    let f = goes-trans old one ready c.names.ensures.goes c.lift.ensures.goes in
    let g = goes-trans old ready two f c.own_variables.ensures.goes in
    let h = goes-trans old two three g c.translate.ensures.goes in
    let row = (args-kept two.context three.context c.in_ok-row.row c.translate.ensures.goes.0 c.in_ok-row.ensures.sort).1 ∙ c.in_ok-row.ensures.trees in
    let same = (args-kept old.context two.context c.args.response.now.values g.0 c.requires.response.values).1 in
    let values = c.in_ok-values.ensures.list refl ∙ ap (valued v) same in
    let a = args_forest three.context.trees c.in_ok-row.row in
    let b = args_forest three.context.trees c.in_ok-values.values in
    let i = goes-listing old three h (parts c.recall_well_kept.ensures).given in
    let j = c.translate.ensures.state ∙ c.own_variables.ensures.state in
    let four = c.equate_args.new.self in
    let x = goes-trans old three four h c.equate_args.ensures.goes in
    let cs = map (clause_tree four.context.trees) c.args.response.now.regions.items in
    let regions = (clauses-stay old.context.trees four.context.trees c.args.response.now.regions.items x.0.kept c.requires.response.regions).0 in
    let recorded = c.in_ok-record_given.ensures.recorded ∙ ap (λ us. with_constraints (state four) (map (valued_tree v) (map (clause_tree four.context.trees) us))) c.as_slice-2.ensures.value in
    all-given (listing old) (state old) k c.args.numbers.now r (state ready) ms v y (listing three) (state three) a b i j row values
    (state four) (state c.record_given.new.self) cs c.in_ok-equate_args.ensures.ok regions recorded
