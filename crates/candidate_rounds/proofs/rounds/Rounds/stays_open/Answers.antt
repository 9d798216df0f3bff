use Rattle.std.proofs.Common.{◌≡◌, ◌&&◌, Bool, true, false, refl, sym, ◌∙◌}
use Rattle.candidate_rounds.proofs.Equations.OpenSides.{if-ok}
use Rattle.candidate_rounds.proofs.rounds.Rounds.stays_open.Goals as goal

both-are : (o a b : Bool) → o ≡ true → a ≡ b → a ≡ (o && b)
both-are true a b o e = e
both-are false a b o e = absurd cc

neither-is : (o b : Bool) → o ≡ false → false ≡ (o && b)
neither-is true b e = absurd cc
neither-is false b e = refl

pub returns-then-not-opens_aliases-clause-is : goal.returns-then-not-opens_aliases-clause-is
returns-then-not-opens_aliases-clause-is c = neither-is _ _ (sym c.opens_aliases.ensures ∙ c.if-not-opens_aliases.true)

pub returns-clause-is : goal.returns-clause-is
returns-clause-is c = if-ok c.has_unlisted.result _ _ (λ b k. both-are _ b _ (sym c.opens_aliases.ensures ∙ c.if-not-opens_aliases.false) k) c.has_unlisted.ensures.is
