use Rattle.std.proofs.Common.{◌≡◌}
use Rattle.std.proofs.Math.ListN.{drop}
use Rattle.ir_trees.specs.Validity.Faults.{all_items}
use Rattle.candidate_assembly.specs.Answers.Assembled.{rule_among}
use Rattle.candidate_assembly.proofs.assembly.language.rule_among_items.Given as goal

-- those left say which rule the trait has
abbrev pub invariant-loop-item : goal.invariant-loop-item
invariant-loop-item l = rule_among l.fn.cx l.fn.trait_id.0 (drop l.item-index l.item-items) ≡ rule_among l.fn.cx l.fn.trait_id.0 all_items
