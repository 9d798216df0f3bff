use Rattle.std.proofs.Common.{◌≡◌, ◌++◌, None, rules}
use Rattle.ir_trees.specs.Unification.Impls.{impls_of, relevant_impls}
use Rattle.ir_trees.specs.Syntax.Words.{ty_tree}
use Rattle.assembly_text.specs.Paired.{listed_of, trait_with_alias}
use Rattle.assembly_text.proofs.Pairing.{all-of-trait, relevant-and-aliased}
use Rattle.assembly_text.proofs.checking.may_overlap.Goals as goal

pub returns-then-is_some : goal.returns-then-is_some
returns-then-is_some c =
    let cx = c.args.cx.now in
    let all : c.extend_from_slice.new.self.items ≡ impls_of cx c.args.header.def_id.0 = search rules in
    all-of-trait cx c.args.with_aliases.now.number c.args.of c.args.header c.extend_from_slice.new.self.items c.recall_well_formed_table.ensures c.requires.open all

pub returns : goal.returns
returns c =
    let cx = c.args.cx.now in
    let self = ty_tree cx.trees c.self_ty-self_ty.result in
    let none : trait_with_alias cx c.args.of ≡ None = search rules in
    let all : c.extend_from_slice-3.new.self.items ≡ relevant_impls cx c.args.header.def_id.0 self ++ listed_of c.args.with_aliases.now.of c.args.header.def_id.0 = search rules in
    relevant-and-aliased cx c.args.of c.args.header c.args.with_aliases.now self c.recall_well_formed_table.ensures c.requires.open c.requires.aliases none c.self_ty-self_ty.ensures.tree c.extend_from_slice-3.new.self.items all
