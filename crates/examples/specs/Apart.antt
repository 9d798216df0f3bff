-- What an overlap checker may rely on.
use Rattle.std.specs.Prelude.{◌≡◌, ℕ, Some}
use Rattle.ir_trees.specs.declared.decl.contents.ImplId.{ImplId}
use Rattle.candidate_rounds.specs.Evaluators.Known.{Evaluator, listing, state, table_of}
use Rattle.overlaps.specs.declared.allowance.Allowance.{Allowance}
use Rattle.overlaps.specs.Allowed.{allowance_of}
use Rattle.overlaps.specs.Apart.{AreApart, AreOfOtherTraits, IfDeclared, aside}
use Rattle.overlaps.specs.Asked.{ClausesWereAsked}
use Rattle.overlaps.specs.Ordered.{in_order}
use Rattle.overlaps.specs.Refused.{ClauseIsRefused}
use Rattle.examples.specs.declared.apart.Reason.{Reason}
use Rattle.examples.specs.declared.apart.Reason.TheVariants as reason
use Rattle.candidate_rounds.specs.declared.rounds.effort.Effort.{Effort}

-- Of the impls of these numbers, if they are declared: no reference is an instance of both headers, whatever the aliases are that
-- aren't listed; or, where the headers were made equal, that where clause was refused. The evaluator is that of the call, and that which it left.
abbrev pub KeepsApartAsGiven : Evaluator → Evaluator → ImplId → ImplId → Reason → Type 0
KeepsApartAsGiven old new a b reason.Headers = IfDeclared old.context a b (AreApart old.context (listing old) (aside (state old)))
KeepsApartAsGiven old new a b (reason.Clause w) = IfDeclared old.context a b (ClauseIsRefused old (aside (state old)) new a b w)

-- The same of two in the order of their numbers, whichever is given first.
abbrev pub KeepsApart : Evaluator → Evaluator → ImplId → ImplId → Reason → Type 0
KeepsApart old new a b why = let p = in_order a b in KeepsApartAsGiven old new p.0 p.1 why

-- Why two impls aren't kept apart: they are of different traits; their overlap is allowed, by what they declare; or where their headers are
-- equal each where clause of both was asked in so many rounds, and none is refused.
pub data AreNotKeptApart (old new : Evaluator) (effort : Effort) (a b : ImplId) : Type 0 where
  other_traits : AreOfOtherTraits old.context (in_order a b).0 (in_order a b).1 → AreNotKeptApart old new effort a b
  is_allowed : (w : Allowance) → allowance_of old.context a b ≡ Some w → AreNotKeptApart old new effort a b
  clauses_stay : ClausesWereAsked old effort (table_of new) a b → AreNotKeptApart old new effort a b
