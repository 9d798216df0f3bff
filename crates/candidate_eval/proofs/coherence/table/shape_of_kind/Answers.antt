use Rattle.std.proofs.Common.{refl, sym, ◌∙◌, ap, subst}
use Rattle.ir_trees.specs.declared.ir.kinds.TyKind.{TyKind}
use Rattle.ir_trees.specs.Declarations.Context.{world}
use Rattle.ir_trees.specs.Syntax.Words.{KindFits, kind_tree}
use Rattle.candidate_eval.specs.declared.coherence.table.Shape.TheVariants as S
use Rattle.candidate_eval.specs.Knowability.Orphan.{crate_test}
use Rattle.candidate_eval.specs.Calls.Shapes.{IsReference, IsShape}
use Rattle.candidate_eval.specs.Calls.Table.{owned_in}
use Rattle.candidate_eval.proofs.Frontier.ShapeLemmas.{reference-shape, dynamic-principal}
use Rattle.candidate_eval.proofs.coherence.table.shape_of_kind.Goals as goal

pub returns-in-Ref : goal.returns-in-Ref
returns-in-Ref c =
    let ts = c.args.cx.now.trees in
    let P : TyKind → Type 0 = λ k. IsReference ts (kind_tree ts k) c.in-Ref.target in
    let Q : TyKind → Type 0 = λ k. KindFits ts k in
    subst P (sym c.in-Ref.is) (reference-shape ts c.in-Ref.field-0 c.in-Ref.target c.in-Ref.field-2 (subst Q c.in-Ref.is c.requires.fits))

pub returns-in-Dynamic : goal.returns-in-Dynamic
returns-in-Dynamic c =
    let cx = c.args.cx.now in
    let P : TyKind → Type 0 = λ k. IsShape cx c.args.in_crate (kind_tree cx.trees k) (S.Item c.principal_class.result) in
    let Q : TyKind → Type 0 = λ k. KindFits cx.trees k in
    subst P (sym c.in-Dynamic.is) (
      refl,
      ap owned_in (dynamic-principal (world cx) (crate_test c.args.in_crate cx.local.0) cx.trees c.in-Dynamic.preds c.in-Dynamic.field-1 (subst Q c.in-Dynamic.is c.requires.fits))
          ∙ sym c.principal_class.ensures,
    )
