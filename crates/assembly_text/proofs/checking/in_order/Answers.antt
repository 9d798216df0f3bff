use Rattle.std.proofs.Common.{rules}
use Rattle.std.specs.List.Sorted.{IsNonDecreasingBy}
use Rattle.std.proofs.lemmas.List.Filters.{dedup_is}
use Rattle.std.proofs.lemmas.List.Sorted.{IsNonDecreasingBy-from_sort_by_key}
use Rattle.ir_trees.specs.declared.decl.contents.ImplId.{ImplId}
use Rattle.assembly_text.proofs.Ordering.{once-in-order, once-the-same, same_impl}
use Rattle.assembly_text.proofs.checking.in_order.Goals as goal

pub returns-clause-order : goal.returns-clause-order
returns-clause-order c =
    let sorted = c.sort_unstable_by_key.new.self.items in
    let up : IsNonDecreasingBy (λ (n : ImplId). n.0) sorted = IsNonDecreasingBy-from_sort_by_key (λ (n : ImplId). n.0) sorted c.sort_unstable_by_key.ensures.sorted (λ a r q k. search rules) in
    once-in-order sorted c.dedup.new.self.items up (dedup_is same_impl sorted c.dedup.new.self.items c.dedup.ensures.filtered)

pub returns-clause-same : goal.returns-clause-same
returns-clause-same c =
    let sorted = c.sort_unstable_by_key.new.self.items in
    once-the-same c.args.impls.items sorted c.dedup.new.self.items c.sort_unstable_by_key.ensures.permutation (dedup_is same_impl sorted c.dedup.new.self.items c.dedup.ensures.filtered)
