use Rattle.std.proofs.Common.{sym, ◌∙◌, ap}
use Rattle.ir_trees.specs.Instantiation.Folds.{arg_tree}
use Rattle.ir_trees.proofs.Growth.Kept.{grows-trans}
use Rattle.ir_folds.proofs.Hierarchy.Implying.{arg-kept}
use Rattle.rounds_judge.specs.Aliases.Listed.{normalized_tree}
use Rattle.candidate_rounds.specs.Evaluators.Known.{listing_of}
use Rattle.candidate_rounds.proofs.Resolution.Listing.{listing-kept, types-kept}
use Rattle.candidate_rounds.proofs.rounds.repeating.put_in.Goals as goal

pub normalized-requires-clause-types : goal.normalized-requires-clause-types
normalized-requires-clause-types c = types-kept c.args.cx.now c.resolved_arg.new.cx c.args.normal.now c.resolved_arg.ensures.grows c.requires.types

pub returns-clause-grows : goal.returns-clause-grows
returns-clause-grows c = grows-trans _ _ _ c.resolved_arg.ensures.grows c.normalized.ensures.grows

pub returns-clause-sort : goal.returns-clause-sort
returns-clause-sort c = (
  (arg-kept c.resolved_arg.new.cx c.normalized.new.cx c.in-Ok.resolved c.normalized.ensures.grows c.in-Ok.ensures.sort.0).0,
  c.in-Ok-normalized.ensures.sort.0,
)

pub returns-clause-put : goal.returns-clause-put
returns-clause-put c = λ m.
    let mid = c.resolved_arg.new.cx in
    let x = c.in-Ok.resolved in
    let stays = (arg-kept mid c.normalized.new.cx x c.normalized.ensures.grows c.in-Ok.ensures.sort.0).1 in
    record {
      resolved = stays ∙ c.in-Ok.ensures.tree m;
      listed =
          c.in-Ok-normalized.ensures.tree
          ∙ (ap (λ l. normalized_tree l (arg_tree mid.trees x)) (listing-kept c.args.cx.now mid c.args.normal.now c.resolved_arg.ensures.grows c.requires.types)
          ∙ ap (normalized_tree (listing_of c.args.cx.now.trees c.args.normal.now)) (sym stays));
    }
