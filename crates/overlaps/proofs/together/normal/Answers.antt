use Rattle.std.proofs.Common.{◌≡◌, true, ap, subst, sym, ◌∙◌}
use Rattle.ir_trees.specs.declared.ir.kinds.TraitPredicate.{TraitPredicate}
use Rattle.ir_trees.specs.declared.ir.kinds.TyKind.TheVariants as K
use Rattle.ir_trees.specs.Declarations.Context.{Context, world}
use Rattle.ir_trees.specs.Declarations.References.{Takes}
use Rattle.ir_trees.specs.Syntax.Words.{IsArgs, args_forest, kind_tree}
use Rattle.ir_trees.proofs.Growth.Kept.{args-kept}
use Rattle.candidate_eval.proofs.Dynamic.Objects.{env-kept}
use Rattle.candidate_eval.proofs.Interface.Accounts.{memory-somehow}
use Rattle.candidate_assembly.proofs.Calls.Keeping.{trait-goal-kept}
use Rattle.candidate_rounds.specs.Evaluators.Known.{sure_of}
use Rattle.candidate_rounds.specs.Table.Normalizing.{trait_predicate}
use Rattle.candidate_rounds.proofs.Table.Coming.{comes-normalized}
use Rattle.overlaps.proofs.JointNormals.{alias-args, came-of, normalizing-stop, of-projection, projection-later, still-projection, trait-key-later}
use Rattle.overlaps.proofs.Stopping.{asking-stop, later-steps, passed-on, step-stop, stop-later}
use Rattle.rounds_judge.specs.Table.GoalTable.{may_be_asked}
use Rattle.rounds_judge.specs.Table.Keys.{Key}
use Rattle.overlaps.specs.PartTraits.{HaveVariable, RestsOnPart}
use Rattle.overlaps.specs.Stopping.{IsOverlapStop, step_key}
use Rattle.overlaps.specs.Together.{HasYes}
use Rattle.overlaps.proofs.Staying.{stays-by, stays-refl, stays-same, stays-trans}
use Rattle.overlaps.proofs.together.normal.Goals as goal

pub returns-then-not-args_fit-clause-stays : goal.returns-then-not-args_fit-clause-stays
returns-then-not-args_fit-clause-stays c = stays-refl c.args.rounds.now

pub stands_here-requires-clause-env : goal.stands_here-requires-clause-env
stands_here-requires-clause-env c = (env-kept _ _ c.args.env c.verdict_here.ensures.stays.grows c.requires.env).0

pub stands_here-requires-clause-args : goal.stands_here-requires-clause-args
stands_here-requires-clause-args c =
    let old = c.args.rounds.now.context in
    let now = c.verdict_here.new.rounds.context in
    let is : c.trait_predicate-predicate.result ≡ trait_predicate old c.args.alias = c.trait_predicate-predicate.ensures ∙ ap (λ (y : Context). trait_predicate y c.args.alias) c.cx-2.ensures in
    subst (λ (q : TraitPredicate). IsArgs now.trees q.trait_ref.args) (sym is) (args-kept old now c.args.alias.args c.verdict_here.ensures.stays.grows (alias-args old.trees c.args.alias c.requires.alias)).0

pub returns-in_err-may_be_run-clause-stays : goal.returns-in_err-may_be_run-clause-stays
returns-in_err-may_be_run-clause-stays c = stays-trans c.verdict_here.ensures.stays (stays-same c.may_be_run.ensures.stays c.may_be_run.ensures.table)

pub returns-in_err-may_be_run-clause-cause : goal.returns-in_err-may_be_run-clause-cause
returns-in_err-may_be_run-clause-cause c =
    let old = c.args.rounds.now.context in
    let now = c.verdict_here.new.rounds.context in
    let grows = c.verdict_here.ensures.stays.grows in
    let is : c.trait_predicate-predicate.result ≡ trait_predicate old c.args.alias = c.trait_predicate-predicate.ensures ∙ ap (λ (y : Context). trait_predicate y c.args.alias) c.cx-2.ensures in
    let args = subst (λ (q : TraitPredicate). IsArgs now.trees q.trait_ref.args) (sym is) (args-kept old now c.args.alias.args grows (alias-args old.trees c.args.alias c.requires.alias)).0 in
    passed-on (IsOverlapStop c.args.rounds.now c.may_be_run.new.self) c.from_residual-in_err-may_be_run.result c.in_err-may_be_run.field-0.0 c.from_residual-in_err-may_be_run.ensures.1
    (step-stop (later-steps c.verdict_here.ensures.stays) (step_key c.args.env c.trait_predicate-predicate.result (c.may_be_run.ensures.stays.grows.kept, (env-kept old now c.args.env grows c.requires.env).0, args) c.in_err-may_be_run.ensures.cause))

pub returns-then-not-branch-clause-stays : goal.returns-then-not-branch-clause-stays
returns-then-not-branch-clause-stays c = stays-trans c.verdict_here.ensures.stays (stays-same c.may_be_run.ensures.stays c.may_be_run.ensures.table)

pub returns-in_err-is_proved-clause-stays : goal.returns-in_err-is_proved-clause-stays
returns-in_err-is_proved-clause-stays c = stays-trans (stays-trans c.verdict_here.ensures.stays (stays-same c.may_be_run.ensures.stays c.may_be_run.ensures.table)) c.is_proved.ensures.stays

pub returns-in_err-is_proved-clause-cause : goal.returns-in_err-is_proved-clause-cause
returns-in_err-is_proved-clause-cause c =
    let later = later-steps (stays-trans c.verdict_here.ensures.stays (stays-same c.may_be_run.ensures.stays c.may_be_run.ensures.table)) in
    passed-on (IsOverlapStop c.args.rounds.now c.is_proved.new.rounds) c.from_residual-in_err-is_proved.result c.in_err-is_proved.field-0.0 c.from_residual-in_err-is_proved.ensures.1
    (stop-later later c.in_err-is_proved.ensures.cause)

pub returns-then-not-branch-2-clause-stays : goal.returns-then-not-branch-2-clause-stays
returns-then-not-branch-2-clause-stays c = stays-trans (stays-trans c.verdict_here.ensures.stays (stays-same c.may_be_run.ensures.stays c.may_be_run.ensures.table)) c.is_proved.ensures.stays

pub refuses_instances-requires : goal.refuses_instances-requires
refuses_instances-requires c =
    let old = c.args.rounds.now.context in
    let s = c.is_proved.new.rounds.context in
    let alias = c.args.alias in
    let is : c.trait_predicate-predicate.result ≡ trait_predicate old alias = c.trait_predicate-predicate.ensures ∙ ap (λ (y : Context). trait_predicate y alias) c.cx-2.ensures in
    let stays = stays-trans (stays-trans c.verdict_here.ensures.stays (stays-same c.may_be_run.ensures.stays c.may_be_run.ensures.table)) c.is_proved.ensures.stays in
    let there = (args-kept old s alias.args stays.grows (alias-args old.trees alias c.requires.alias)).0 in
    subst (λ (y : Context). IsArgs y.trees c.trait_predicate-predicate.result.trait_ref.args) (sym c.cx-3.ensures) (subst (λ (q : TraitPredicate). IsArgs s.trees q.trait_ref.args) (sym is) there)

pub returns-in_err-refuses_instances-clause-stays : goal.returns-in_err-refuses_instances-clause-stays
returns-in_err-refuses_instances-clause-stays c = stays-trans (stays-trans c.verdict_here.ensures.stays (stays-same c.may_be_run.ensures.stays c.may_be_run.ensures.table)) c.is_proved.ensures.stays

pub returns-in_err-refuses_instances-clause-cause : goal.returns-in_err-refuses_instances-clause-cause
returns-in_err-refuses_instances-clause-cause c =
    let later = later-steps (stays-trans (stays-trans c.verdict_here.ensures.stays (stays-same c.may_be_run.ensures.stays c.may_be_run.ensures.table)) c.is_proved.ensures.stays) in
    passed-on (IsOverlapStop c.args.rounds.now c.is_proved.new.rounds) c.from_residual-in_err-refuses_instances.result c.in_err-refuses_instances.field-0.0 c.from_residual-in_err-refuses_instances.ensures.1
    (asking-stop later (memory-somehow c.in_err-refuses_instances.ensures.cause))

pub returns-then-not-branch-3-clause-stays : goal.returns-then-not-branch-3-clause-stays
returns-then-not-branch-3-clause-stays c = stays-trans (stays-trans c.verdict_here.ensures.stays (stays-same c.may_be_run.ensures.stays c.may_be_run.ensures.table)) c.is_proved.ensures.stays

pub normalize-requires-clause-projection : goal.normalize-requires-clause-projection
normalize-requires-clause-projection c =
    let old = c.args.rounds.now.context in
    let asked = c.may_be_run.new.self.context in
    let now = c.is_proved.new.rounds.context in
    let alias = c.args.alias in
    let p = c.trait_predicate-predicate.result in
    let is : p ≡ trait_predicate old alias = c.trait_predicate-predicate.ensures ∙ ap (λ (y : Context). trait_predicate y alias) c.cx-2.ensures in
    let grows = (stays-trans (stays-trans c.verdict_here.ensures.stays (stays-same c.may_be_run.ensures.stays c.may_be_run.ensures.table)) c.is_proved.ensures.stays).grows in
    let takes : Takes (world old) (kind_tree old.trees (K.Alias alias))
    = subst (λ (y : Context). Takes (world y) (kind_tree y.trees (K.Alias alias))) c.cx.ensures (c.args_fit.ensures.0 c.if-not-args_fit.false) in
    projection-later old now c.args.env alias p grows c.requires.alias c.requires.projection takes is
    (trait-goal-kept asked now c.args.env p c.is_proved.ensures.stays.grows c.may_be_run.ensures.goal).0

pub normalize-requires-clause-asked : goal.normalize-requires-clause-asked
normalize-requires-clause-asked c =
    let old = c.args.rounds.now.context in
    let r = c.may_be_run.new.self in
    let s = c.is_proved.new.rounds in
    let alias = c.args.alias in
    let p = c.trait_predicate-predicate.result in
    let is : p ≡ trait_predicate old alias = c.trait_predicate-predicate.ensures ∙ ap (λ (y : Context). trait_predicate y alias) c.cx-2.ensures in
    let grows = (stays-trans (stays-trans c.verdict_here.ensures.stays (stays-same c.may_be_run.ensures.stays c.may_be_run.ensures.table)) c.is_proved.ensures.stays).grows in
    let key = trait-key-later r s old c.args.env alias p c.is_proved.ensures.stays grows is c.may_be_run.ensures.goal in
    subst (λ (k : Key). may_be_asked k ≡ true) key (sym c.in_ok-may_be_run.ensures.is ∙ c.if-not-branch.false)

pub returns-clause-stays : goal.returns-clause-stays
returns-clause-stays c = stays-trans (stays-trans (stays-trans c.verdict_here.ensures.stays (stays-same c.may_be_run.ensures.stays c.may_be_run.ensures.table)) c.is_proved.ensures.stays) (stays-by c.normalize.ensures.stays (comes-normalized c.args.effort c.normalize.ensures.normalized))

pub returns-clause-projection : goal.returns-clause-projection
returns-clause-projection c =
    let old = c.args.rounds.now.context in
    let asked = c.may_be_run.new.self.context in
    let now = c.is_proved.new.rounds.context in
    let alias = c.args.alias in
    let p = c.trait_predicate-predicate.result in
    let is : p ≡ trait_predicate old alias = c.trait_predicate-predicate.ensures ∙ ap (λ (y : Context). trait_predicate y alias) c.cx-2.ensures in
    let grows = (stays-trans (stays-trans c.verdict_here.ensures.stays (stays-same c.may_be_run.ensures.stays c.may_be_run.ensures.table)) c.is_proved.ensures.stays).grows in
    let takes : Takes (world old) (kind_tree old.trees (K.Alias alias))
    = subst (λ (y : Context). Takes (world y) (kind_tree y.trees (K.Alias alias))) c.cx.ensures (c.args_fit.ensures.0 c.if-not-args_fit.false) in
    let projection = projection-later old now c.args.env alias p grows c.requires.alias c.requires.projection takes is
    (trait-goal-kept asked now c.args.env p c.is_proved.ensures.stays.grows c.may_be_run.ensures.goal).0 in
    still-projection now c.normalize.new.self.context c.args.env alias c.normalize.result c.normalize.ensures.stays.grows projection

pub returns-clause-comes : goal.returns-clause-comes
returns-clause-comes c =
    let old = c.args.rounds.now in
    let r = c.may_be_run.new.self in
    let s = c.is_proved.new.rounds in
    let alias = c.args.alias in
    let p = c.trait_predicate-predicate.result in
    let is : p ≡ trait_predicate old.context alias = c.trait_predicate-predicate.ensures ∙ ap (λ (y : Context). trait_predicate y alias) c.cx-2.ensures in
    let stays = stays-trans (stays-trans c.verdict_here.ensures.stays (stays-same c.may_be_run.ensures.stays c.may_be_run.ensures.table)) c.is_proved.ensures.stays in
    let key = trait-key-later r s old.context c.args.env alias p c.is_proved.ensures.stays stays.grows is c.may_be_run.ensures.goal in
    let never
    = subst (λ (y : Context). HaveVariable (args_forest y.trees p.trait_ref.args) → RestsOnPart y p.trait_ref.def_id → ⊥) c.cx-3.ensures (c.in_ok-refuses_instances.ensures.instances c.if-not-branch-3.false) in
    came-of old s c.normalize.new.self c.args.env alias c.args.effort c.normalize.result stays
    (subst (HasYes (sure_of s)) key (c.in_ok-is_proved.ensures.yes c.if-not-branch-2.false)) (of-projection old.context s.context c.args.env alias p stays.grows is never) c.normalize.ensures.normalized

pub returns-clause-cause : goal.returns-clause-cause
returns-clause-cause c =
    let old = c.args.rounds.now.context in
    let asked = c.may_be_run.new.self.context in
    let now = c.is_proved.new.rounds.context in
    let alias = c.args.alias in
    let p = c.trait_predicate-predicate.result in
    let is : p ≡ trait_predicate old alias = c.trait_predicate-predicate.ensures ∙ ap (λ (y : Context). trait_predicate y alias) c.cx-2.ensures in
    let stays = stays-trans (stays-trans c.verdict_here.ensures.stays (stays-same c.may_be_run.ensures.stays c.may_be_run.ensures.table)) c.is_proved.ensures.stays in
    let takes : Takes (world old) (kind_tree old.trees (K.Alias alias))
    = subst (λ (y : Context). Takes (world y) (kind_tree y.trees (K.Alias alias))) c.cx.ensures (c.args_fit.ensures.0 c.if-not-args_fit.false) in
    let projection = projection-later old now c.args.env alias p stays.grows c.requires.alias c.requires.projection takes is
    (trait-goal-kept asked now c.args.env p c.is_proved.ensures.stays.grows c.may_be_run.ensures.goal).0 in
    normalizing-stop c.args.rounds.now c.is_proved.new.rounds c.normalize.new.self c.args.env alias c.args.effort c.normalize.result (later-steps stays) c.normalize.ensures.stays.grows projection c.normalize.ensures.normalized
