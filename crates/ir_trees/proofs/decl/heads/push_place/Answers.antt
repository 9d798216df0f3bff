use Rattle.std.proofs.Common.{List, [], ◌∷◌, ◌++◌, ℕ, rules, ◌∙◌, ap}
use Rattle.std.specs.Option.{unwrap_or}
use Rattle.indexmap.specs.Entry.{map_with_value}
use Rattle.indexmap.specs.IndexMap.{get}
use Rattle.ir_trees.specs.declared.decl.contents.ImplId.{ImplId}
use Rattle.ir_trees.specs.Unification.ImplLists.{same_list}
use Rattle.ir_trees.proofs.Unification.ImplLists.{items-or, one-updated}
use Rattle.ir_trees.proofs.decl.heads.push_place.Goals as goal

pub returns : goal.returns
returns c =
    let before = ap (λ v. v.items) (c.or_insert-listed.ensures.value ∙ ap (λ o. unwrap_or o c.new.result) c.in_ok-lists.ensures.value) ∙ items-or (get same_list c.args.lists.now c.args.list) c.new.result c.new.ensures.items in
    one-updated c.args.lists.now (map_with_value c.in_ok-lists.field-0 c.push.new.self) _ c.args.list c.push.new.self c.args.impl_id
    (c.in_ok-push.ensures.items ∙ ap (λ (xs : List (ℕ × ImplId)). xs ++ c.args.impl_id ∷ []) before) (c.in_ok-lists.ensures.update.0 c.push.new.self) (search rules)
