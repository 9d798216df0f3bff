use Rattle.std.proofs.Common.{◌≡◌, refl, subst}
use Rattle.std.specs.Prelude.{option_map}
use Rattle.ir_trees.specs.Declarations.Context.{Context}
use Rattle.ir_trees.specs.Instantiation.Folds.{arg_tree}
use Rattle.ir_trees.specs.Syntax.Trees.{TypeKind}
use Rattle.ir_trees.specs.Syntax.Words.{ty_tree}
use Rattle.ir_trees.proofs.Growth.Kept.{grows-refl}
use Rattle.ir_trees.proofs.Syntax.Rows.{kind-of}
use Rattle.candidate_assembly.specs.Rules.Opaques.{type_for}
use Rattle.candidate_assembly.proofs.Opaques.TypesFor.{answer-of-arg}
use Rattle.candidate_assembly.proofs.assembly.opaques.TypeForPureFolder.answer.Goals as goal

pub returns-clause-grows : goal.returns-clause-grows
returns-clause-grows g c = grows-refl _

pub returns-clause-answer : goal.returns-clause-answer
returns-clause-answer g c =
    let ts = (g.M.Build.context c.args.make.now).trees in
    answer-of-arg ts (ty_tree ts c.args.self.now.old) (ty_tree ts c.args.self.now.new) c.args.arg5 c.args.arg (option_map (arg_tree ts) c.type_for.result) (kind-of ts c.args.self.now.old.0 TypeKind refl c.requires.of.0)
    (subst (λ (x : Context). option_map (arg_tree x.trees) c.type_for.result ≡ type_for (ty_tree x.trees c.args.self.now.old) (ty_tree x.trees c.args.self.now.new) (arg_tree x.trees c.args.arg)) c.cx.ensures c.type_for.ensures.answer)
