use Rattle.std.proofs.Common.{refl, rules, subst, sym}
use Rattle.ir_trees.specs.declared.ir.kinds.TyKind.TheVariants as TK
use Rattle.ir_trees.specs.Declarations.Context.{world}
use Rattle.ir_trees.specs.Syntax.Words.{kind_tree}
use Rattle.ir_trees.specs.Declarations.References.{Takes}
use Rattle.candidate_assembly.proofs.Aliases.AliasChains.{alias-tree}
use Rattle.projection_goals.proofs.kind.NormalizesTo.fits.Goals as goal

pub returns-then-not-args_fit-clause-all : goal.returns-then-not-args_fit-clause-all
returns-then-not-args_fit-clause-all c = λ f.
    let now = c.args.cx.now in
    let taken : Takes (world now) (kind_tree now.trees (TK.Alias c.args.self.alias)) = subst (Takes (world now)) (sym (alias-tree now.trees c.args.self.alias c.requires)) (λ e. f.alias_fits) in
    search rules

pub returns-clause-fits : goal.returns-clause-fits
returns-clause-fits c = λ e.
    let now = c.args.cx.now in
    record {
      projection = search rules;
      of = c.trait_of.result;
      named = c.trait_of.ensures;
      alias_fits = subst (Takes (world now)) (alias-tree now.trees c.args.self.alias c.requires) (search rules) refl;
      reference_fits = search rules;
    }
