-- Which rule of the language a trait has, lang item by lang item.
use Rattle.std.proofs.Common.{◌≡◌, ◌<◌, ◌≤◌, ◌+◌, ℕ, sym, ap, ◌∙◌, List, length, get_or, Option, Some, None}
use Rattle.std.proofs.Math.ListN.{drop, drop_of_length-le}
use Rattle.std.proofs.lemmas.List.{drop_more}
use Rattle.ir_trees.specs.declared.decl.contents.LangItem.{LangItem}
use Rattle.ir_trees.specs.Declarations.Context.{Context}
use Rattle.candidate_assembly.specs.Answers.Assembled.{or_else, rule_among}
use Rattle.candidate_assembly.specs.Goals.Kinds.{BuiltinRule}
use Rattle.candidate_assembly.specs.Rules.Language.{rule_by_item}

module _ (c : Context) (n : ℕ) (xs : List LangItem) (k : ℕ) (d : LangItem) (whole : Option BuiltinRule) (so : rule_among c n (drop k xs) ≡ whole) where
  next-item : (o : Option BuiltinRule) → o ≡ rule_by_item c n (get_or xs k d) → k < length xs → or_else o (rule_among c n (drop (k + 1) xs)) ≡ whole
  next-item o is l = ap (λ x. or_else x (rule_among c n (drop (k + 1) xs))) is ∙ (sym (ap (rule_among c n) (drop_more xs k d l)) ∙ so)

  -- the item has a rule
  pub item-found : (r : BuiltinRule) → Some r ≡ rule_by_item c n (get_or xs k d) → k < length xs → Some r ≡ whole
  item-found r is l = next-item (Some r) is l

  -- it has none
  pub item-passed : None ≡ rule_by_item c n (get_or xs k d) → k < length xs → rule_among c n (drop (k + 1) xs) ≡ whole
  item-passed is l = next-item None is l

  -- no item is left
  pub items-ended : length xs ≤ k → None ≡ whole
  items-ended l = sym (ap (rule_among c n) (drop_of_length-le xs l)) ∙ so
