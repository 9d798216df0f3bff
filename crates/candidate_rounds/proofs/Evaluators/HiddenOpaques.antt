-- What is known of opaque types that may be hidden behind a variable.
use Rattle.std.proofs.Common.{◌≡◌, ℕ, true, List, [], ◌∷◌, refl, sym, ◌∙◌}
use Rattle.std.specs.Prelude.{All}
use Rattle.std.proofs.lemmas.List.Elements.{All-cons, All-nil}
use Rattle.ir_trees.specs.declared.ir.heads.Head.TheVariants as H
use Rattle.ir_trees.specs.declared.ir.kinds.AliasId.{AliasId}
use Rattle.ir_trees.specs.declared.ir.kinds.AliasKind.{AliasKind}
use Rattle.ir_trees.specs.declared.ir.kinds.AliasKind.TheVariants as AK
use Rattle.ir_trees.specs.declared.ir.kinds.AliasTy.{AliasTy}
use Rattle.ir_trees.specs.declared.ir.kinds.TyKind.TheVariants as K
use Rattle.ir_trees.specs.Declarations.Context.{Context}
use Rattle.ir_trees.specs.Syntax.Nodes.{kind_at}
use Rattle.ir_trees.specs.Declarations.References.{IsWellFormed}
use Rattle.ir_trees.specs.Syntax.Trees.{ArgumentsKind}
use Rattle.ir_trees.specs.Syntax.Words.{KindFits, args_forest, kind_tree}
use Rattle.ir_context.proofs.Instantiation.Declared.{alias_fits}
use Rattle.candidate_eval.specs.Interface.Evaluators.{IsHiddenOpaque, alias_trees}
use Rattle.candidate_eval.proofs.Builtins.Cells.{kind_takes}
use Rattle.candidate_eval.proofs.Marks.Declared.{unsolved-below}
use Rattle.candidate_rounds.specs.Evaluators.Known.{Each, IsType, MayBeHidden, is_opaque}
use Rattle.candidate_rounds.proofs.Evaluators.Given.{no-parameter-in, no-variable-in}

opaque-kind : (k : AliasKind) (i : AliasId) → is_opaque (H.Alias k i) ≡ true → k ≡ AK.Opaque
opaque-kind AK.Opaque i e = refl
opaque-kind AK.Projection i e = absurd cc
opaque-kind AK.Inherent i e = absurd cc
opaque-kind AK.Free i e = absurd cc

hidden-one : (c : Context) (n : ℕ) (a : AliasTy) → IsWellFormed c → KindFits c.trees (K.Alias a) → IsType c.trees a → MayBeHidden (kind_tree c.trees (K.Alias a)) → IsHiddenOpaque c n a
hidden-one c n a w f i m =
    let args : kind_at c.trees a.args.0 ≡ ArgumentsKind = cc in
    record {
      is_opaque = opaque-kind a.kind a.id m.is_opaque;
      args = args;
      fit = alias_fits c a args (kind_takes c i.ty (K.Alias a) w i.sort (sym i.tree));
      no_parameter = sym (no-parameter-in c.trees a args) ∙ m.no_parameter;
      below = unsolved-below n (args_forest c.trees a.args) (sym (no-variable-in c.trees a args) ∙ m.has_no_variable);
    }

-- each of those that were given
pub all-hidden : (c : Context) (n : ℕ) (xs : List AliasTy) → IsWellFormed c → Each (λ a. KindFits c.trees (K.Alias a)) xs → Each (IsType c.trees) xs → Each MayBeHidden (alias_trees c.trees xs) → All (IsHiddenOpaque c n) xs
all-hidden c n [] w f i m = All-nil (IsHiddenOpaque c n)
all-hidden c n (x ∷ xs) w f i m = All-cons (IsHiddenOpaque c n) x xs (hidden-one c n x w f.0 i.0 m.0) (all-hidden c n xs w f.1 i.1 m.1)
