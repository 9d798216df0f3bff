use Rattle.std.proofs.Common.{◌≡◌, Some, sym, ◌∙◌, ap, subst}
use Rattle.std.specs.Prelude.{map}
use Rattle.std.proofs.lemmas.Result.{err_from_is_err_and}
use Rattle.ir_trees.specs.declared.decl.contents.LangItem.TheVariants as L
use Rattle.ir_trees.specs.declared.ir.stop.Stop.{Stop}
use Rattle.ir_trees.specs.Declarations.Context.{Context}
use Rattle.ir_trees.specs.Syntax.Words.{ty_tree}
use Rattle.ir_trees.proofs.Growth.Kept.{ty-kept, grows-trans}
use Rattle.candidate_eval.specs.Builtins.Tables.{row_of}
use Rattle.candidate_eval.specs.Builtins.Asked.{asked_cell}
use Rattle.candidate_eval.specs.Builtins.Destruct.{lang, own_conditions, own_destructor, own_references, destruct_conditions, IsConditionsStop}
use Rattle.candidate_eval.proofs.Builtins.Conditions.{all_are, all_stop, made_types_stop, stop_of}
use Rattle.candidate_eval.proofs.structural.destruct.const_conditions_for_destruct.Goals as goal

pub returns-in_err-types-clause-cause : goal.returns-in_err-types-clause-cause
returns-in_err-types-clause-cause g c =
    let start = g.M.Build.context c.args.make.now in
    let ty = c.args.ty in
    let asked = c.cell-asked.result in
    let own = c.own_condition-own.result in
    let of = c.in-Some.of in
    let p = err_from_is_err_and c.from_residual.result c.from_residual.ensures.1 in
    let cell = subst (λ (x : Context). asked_cell x asked ≡ (row_of x (ty_tree x.trees ty)).destruct) c.cx.ensures c.cell-asked.ensures.cell in
    let some = subst (λ (x : Context). own_conditions x (ty_tree x.trees ty) (own_destructor x (ty_tree x.trees ty).head) ≡ Some (own_references (ty_tree x.trees ty) own)) c.cx-2.ensures
    (c.own_condition-own.ensures.some (sym c.is_refused-2.ensures ∙ c.if-is_refused-2.false)) in
    let item = subst (λ (x : Context). Some of ≡ lang x L.Destruct) c.cx-3.ensures (sym c.in-Some.is ∙ c.lang_item.ensures) in
    stop_of (λ (s : Stop). IsConditionsStop _ (destruct_conditions start (ty_tree start.trees ty)) s) c.from_residual.result p.0 c.in_err-types.field-0.0 p.1 p.2
    (made_types_stop _ start (ty_tree start.trees ty) asked of own _ item cell (sym c.is_refused.ensures ∙ c.if-is_refused.false) some c.in_err-types.ensures.cause)

pub all_conditions-requires-clause-ty : goal.all_conditions-requires-clause-ty
all_conditions-requires-clause-ty g c = (ty-kept (g.M.Build.context c.args.make.now) _ c.args.ty c.made.ensures.grows c.requires.ty).0

pub returns-in_err-conditions-clause-cause : goal.returns-in_err-conditions-clause-cause
returns-in_err-conditions-clause-cause g c =
    let start = g.M.Build.context c.args.make.now in
    let mid = g.M.Build.context c.made.new.make in
    let ty = c.args.ty in
    let asked = c.cell-asked.result in
    let own = c.own_condition-own.result in
    let of = c.in-Some.of in
    let p = err_from_is_err_and c.from_residual-in_err-conditions.result c.from_residual-in_err-conditions.ensures.1 in
    let cell = subst (λ (x : Context). asked_cell x asked ≡ (row_of x (ty_tree x.trees ty)).destruct) c.cx.ensures c.cell-asked.ensures.cell in
    let some = subst (λ (x : Context). own_conditions x (ty_tree x.trees ty) (own_destructor x (ty_tree x.trees ty).head) ≡ Some (own_references (ty_tree x.trees ty) own)) c.cx-2.ensures
    (c.own_condition-own.ensures.some (sym c.is_refused-2.ensures ∙ c.if-is_refused-2.false)) in
    let item = subst (λ (x : Context). Some of ≡ lang x L.Destruct) c.cx-3.ensures (sym c.in-Some.is ∙ c.lang_item.ensures) in
    let types = ap (map (ty_tree mid.trees)) c.as_slice.ensures.value ∙ c.in_ok-types.ensures.trees in
    stop_of (λ (s : Stop). IsConditionsStop _ (destruct_conditions start (ty_tree start.trees ty)) s) c.from_residual-in_err-conditions.result p.0 c.in_err-conditions.field-0.0 p.1 p.2
    (all_stop _ start (ty_tree start.trees ty) (ty_tree mid.trees ty) asked of own _ _ item cell (sym c.is_refused.ensures ∙ c.if-is_refused.false) some types
    (ty-kept start mid ty c.made.ensures.grows c.requires.ty).1 c.in_err-conditions.ensures.cause)

pub returns-clause-conditions : goal.returns-clause-conditions
returns-clause-conditions g c =
    let start = g.M.Build.context c.args.make.now in
    let mid = g.M.Build.context c.made.new.make in
    let ty = c.args.ty in
    let asked = c.cell-asked.result in
    let own = c.own_condition-own.result in
    let of = c.in-Some.of in
    let cell = subst (λ (x : Context). asked_cell x asked ≡ (row_of x (ty_tree x.trees ty)).destruct) c.cx.ensures c.cell-asked.ensures.cell in
    let some = subst (λ (x : Context). own_conditions x (ty_tree x.trees ty) (own_destructor x (ty_tree x.trees ty).head) ≡ Some (own_references (ty_tree x.trees ty) own)) c.cx-2.ensures
    (c.own_condition-own.ensures.some (sym c.is_refused-2.ensures ∙ c.if-is_refused-2.false)) in
    let item = subst (λ (x : Context). Some of ≡ lang x L.Destruct) c.cx-3.ensures (sym c.in-Some.is ∙ c.lang_item.ensures) in
    let types = ap (map (ty_tree mid.trees)) c.as_slice.ensures.value ∙ c.in_ok-types.ensures.trees in
    all_are start (ty_tree start.trees ty) (ty_tree mid.trees ty) asked of own _ _ item cell (sym c.is_refused.ensures ∙ c.if-is_refused.false) some types
    (ty-kept start mid ty c.made.ensures.grows c.requires.ty).1 c.in_ok-conditions.ensures.trees

pub returns-in_err-conditions-clause-grows : goal.returns-in_err-conditions-clause-grows
returns-in_err-conditions-clause-grows g c =
    grows-trans _ _ _ c.made.ensures.grows c.all_conditions.ensures.grows

pub returns-clause-grows : goal.returns-clause-grows
returns-clause-grows g c =
    grows-trans _ _ _ c.made.ensures.grows c.all_conditions.ensures.grows
