use Rattle.indexmap.proofs.MapLemmas.{OnOk-map}
use Rattle.ir_trees.proofs.Unification.ImplLists.{impl-once, impl-twice}
use Rattle.std.proofs.Common.{sym, ◌∙◌}
use Rattle.ir_trees.proofs.decl.heads.list_impl.Goals as goal

pub returns-in-Some : goal.returns-in-Some
returns-in-Some c =
    OnOk-map c.push_place-in-Some.result _ _
    (impl-twice c.args.lists.now c.push_place.new.lists c.push_place-in-Some.new.lists c.args.of c.args.head c.class-class.result c.in-Some.class c.args.impl_id c.class-class.ensures
    (sym c.number_class.ensures ∙ c.in-Some.is) c.in_ok-push_place.ensures) c.push_place-in-Some.ensures

pub returns-in-None : goal.returns-in-None
returns-in-None c =
    impl-once c.args.lists.now c.push_place.new.lists c.args.of c.args.head c.class-class.result c.args.impl_id c.class-class.ensures (sym c.number_class.ensures ∙ c.in-None.is) c.in_ok-push_place.ensures
