use Rattle.std.proofs.Common.{◌≡◌, true, subst}
use Rattle.std.specs.Prelude.{IfOk}
use Rattle.ir_trees.specs.declared.decl.contents.ImplId.{ImplId}
use Rattle.candidate_rounds.specs.Evaluators.Known.{state}
use Rattle.overlaps.specs.Apart.{OfDeclared, aside}
use Rattle.overlaps.specs.Together.{ImplsCannotHold}
use Rattle.overlaps.proofs.Staying.{stays-refl}
use Rattle.overlaps.proofs.together.kept_apart_by_clauses.Goals as goal

pub returns-then-not-opens_aliases-clause-stays : goal.returns-then-not-opens_aliases-clause-stays
returns-then-not-opens_aliases-clause-stays c = stays-refl c.args.rounds.now

pub returns-then-not-have_common_trait-clause-stays : goal.returns-then-not-have_common_trait-clause-stays
returns-then-not-have_common_trait-clause-stays c = stays-refl c.args.rounds.now

pub returns-clause-apart : goal.returns-clause-apart
returns-clause-apart c =
    let old = c.args.rounds.now in
    subst (λ (p : ImplId × ImplId). IfOk c.apart_aside.result (λ b. b ≡ true → OfDeclared old.context p.0 p.1 (ImplsCannotHold old (aside (state old))))) c.in_order-pair.ensures c.apart_aside.ensures.apart
