use Rattle.std.proofs.Common.{inl, inr, subst}
use Rattle.std.proofs.lemmas.Result.{IfOk-weaker}
use Rattle.ir_trees.specs.Declarations.Context.{Context}
use Rattle.ir_trees.specs.Syntax.Words.{args_forest}
use Rattle.overlaps.specs.Uncertain.{HeadersHaveAlias}
use Rattle.overlaps.proofs.Staying.{stays-refl}
use Rattle.overlaps.proofs.overlap.are_certain.Goals as goal

pub returns-then-have_aliases-clause-stays : goal.returns-then-have_aliases-clause-stays
returns-then-have_aliases-clause-stays c = stays-refl c.args.rounds.now

pub returns-then-have_aliases-clause-uncertain : goal.returns-then-have_aliases-clause-uncertain
returns-then-have_aliases-clause-uncertain c = λ no. inl (subst (λ (x : Context). HeadersHaveAlias (args_forest x.trees c.args.pair.now.first.header) (args_forest x.trees c.args.pair.now.second.header)) c.cx.ensures (c.have_aliases.ensures.some c.if-have_aliases.true))

pub returns-clause-uncertain : goal.returns-clause-uncertain
returns-clause-uncertain c = IfOk-weaker c.are_answered.result _ _ (λ b h e. inr (h e)) c.are_answered.ensures.uncertain
