-- The rules of the language by the names that the code has for them.
use Rattle.std.specs.Prelude.{ℕ, Option, Some, None, if◌then◌else◌}
use Rattle.ir_trees.specs.declared.decl.contents.LangItem.{LangItem}
use Rattle.ir_trees.specs.Declarations.Context.{Context}
use Rattle.candidate_assembly.specs.declared.assembly.language.LanguageRule.{LanguageRule}
use Rattle.candidate_assembly.specs.declared.assembly.language.LanguageRule.TheVariants as R
use Rattle.candidate_assembly.specs.Answers.Assembled.{rule_of_item}
use Rattle.candidate_assembly.specs.Goals.Kinds.{BuiltinRule, ErrorRule, AutoTraitRule, TraitAliasRule, SizednessRule, CopyCloneRule, FnTraitRule, FnPtrTraitRule, TupleRule, PointeeRule, DiscriminantKindRule, DestructRule, NoDropRule}
use Rattle.candidate_assembly.specs.Goals.TraitGoals.{is_item}

-- the rule of that name
abbrev pub rule_named : LanguageRule → BuiltinRule
rule_named R.Error = ErrorRule
rule_named R.AutoTrait = AutoTraitRule
rule_named R.TraitAlias = TraitAliasRule
rule_named (R.Sizedness s) = SizednessRule s
rule_named R.CopyClone = CopyCloneRule
rule_named (R.FnTrait k) = FnTraitRule k
rule_named R.FnPtrTrait = FnPtrTraitRule
rule_named R.Tuple = TupleRule
rule_named R.Pointee = PointeeRule
rule_named R.DiscriminantKind = DiscriminantKindRule
rule_named R.Destruct = DestructRule
rule_named R.NoDrop = NoDropRule

abbrev pub if_named : Option LanguageRule → Option BuiltinRule
if_named None = None
if_named (Some r) = Some (rule_named r)

-- the rule of the item, where the trait is that item
abbrev pub rule_by_item : Context → ℕ → LangItem → Option BuiltinRule
rule_by_item c n i = if is_item c i n then rule_of_item i else None
