use Rattle.ir_trees.specs.declared.decl.contents.LangItem.TheVariants as L
use Rattle.ir_trees.specs.Validity.Faults.{all_items}
use Rattle.candidate_assembly.specs.Answers.Assembled.{rule_among}
use Rattle.candidate_assembly.specs.Rules.Language.{rule_named}
use Rattle.candidate_assembly.proofs.Rules.LanguageRules.{item-found, item-passed, items-ended}
use Rattle.candidate_assembly.proofs.assembly.language.rule_among_items.Goals as goal

pub loop-item-preserved : goal.loop-item-preserved
loop-item-preserved c =
    item-passed c.args.cx.now c.args.trait_id.0 all_items c.loop-item.item-index _ (rule_among c.args.cx.now c.args.trait_id.0 all_items) c.loop-item.invariant c.in_default.ensures c.loop-item-test.true

pub returns-in-Some : goal.returns-in-Some
returns-in-Some c =
    item-found c.args.cx.now c.args.trait_id.0 all_items c.loop-item.item-index _ (rule_among c.args.cx.now c.args.trait_id.0 all_items) c.loop-item.invariant (rule_named c.in-Some.rule) c.in-Some.ensures c.loop-item-test.true

pub returns : goal.returns
returns c =
    items-ended c.args.cx.now c.args.trait_id.0 all_items c.loop-item.item-index L.Sized (rule_among c.args.cx.now c.args.trait_id.0 all_items) c.loop-item.invariant c.loop-item-test.false
