use Rattle.std.proofs.Common.{◌≡◌, Bool, [], refl, sym, ◌∙◌, ap, subst, if◌then◌else◌}
use Rattle.std.specs.Prelude.{All, length}
use Rattle.std.proofs.lemmas.List.Elements.{All-nil}
use Rattle.ir_trees.specs.Declarations.References.{IsWellFormed}
use Rattle.ir_trees.specs.Syntax.Trees.{TypeKind, is_type_kind}
use Rattle.ir_trees.specs.Syntax.Words.{ty_tree, kind_tree}
use Rattle.ir_trees.proofs.Syntax.Rows.{kind-of}
use Rattle.candidate_eval.specs.Interface.Evaluators.{IsHiddenOpaque, alias_trees}
use Rattle.candidate_rounds.specs.Evaluators.Known.{Evaluator, state}
use Rattle.candidate_rounds.proofs.Evaluators.HiddenOpaques.{all-hidden}
use Rattle.candidate_rounds.proofs.Evaluators.Between.{parts}
use Rattle.candidate_rounds.proofs.Resolution.Values.{general-read}
use Rattle.candidate_rounds.proofs.rounds.evaluator.RoundsEvalCtxt.opaques_with_sub_unified_hidden_type.Goals as goal

pub returns-then-not-is_ty_var-clause-ok : goal.returns-then-not-is_ty_var-clause-ok
returns-then-not-is_ty_var-clause-ok c =
    let r = c.args.self.now in
    let ts = r.context.trees in
    let g = general-read ts (state r) c.kind.result (ty_tree ts c.args.ty) (ty_tree ts c.shallow_resolve.result) (subst (λ (e : Evaluator). kind_tree e.context.trees c.kind.result ≡ ty_tree e.context.trees c.shallow_resolve.result) c.self.view_is c.kind.ensures.tree) c.shallow_resolve.ensures.tree (ap is_type_kind (kind-of ts c.args.ty.0 TypeKind refl c.requires)) in
    ap (alias_trees ts) c.new.ensures.items ∙ ap (λ (b : Bool). if b then alias_trees ts r.opaques else []) (c.if-not-is_ty_var.ensures ∙ g)

pub returns-then-not-is_ty_var-clause-hidden : goal.returns-then-not-is_ty_var-clause-hidden
returns-then-not-is_ty_var-clause-hidden c =
    subst (All (IsHiddenOpaque c.args.self.now.context (length (state c.args.self.now).variables))) (sym c.new.ensures.items) (All-nil (IsHiddenOpaque c.args.self.now.context (length (state c.args.self.now).variables)))

pub returns-clause-hidden : goal.returns-clause-hidden
returns-clause-hidden c =
    let r = c.args.self.now in
    let g = (parts c.recall_well_kept.ensures).given in
    let n = length (state r).variables in
    subst (All (IsHiddenOpaque r.context n)) (sym (c.in_ok-from_slice.ensures.items ∙ (c.as_slice.ensures.value ∙ ap (λ (e : Evaluator). e.opaques) c.self.view_is)))
    (all-hidden r.context n r.opaques (subst (λ (e : Evaluator). IsWellFormed e.context) c.self.view_is c.recall_well_formed.ensures) g.opaques_fit g.opaques_are g.opaques_hidden)
