-- What each answer says of two impls: where their headers are equal, where they are open, and as they are declared.
use Rattle.std.specs.Prelude.{◌≡◌, Some}
use Rattle.ir_trees.specs.declared.decl.contents.ImplId.{ImplId}
use Rattle.candidate_eval.specs.Judges.States.{State}
use Rattle.candidate_rounds.specs.Evaluators.Known.{Evaluator, listing, state}
use Rattle.overlaps.specs.Allowed.{allowance_of_ordered}
use Rattle.overlaps.specs.Apart.{AreApart, AreOfOtherTraits, IfDeclared, OfDeclared, aside}
use Rattle.overlaps.specs.Instance.{IsCommonInstance, IsInstanceOfPair, IsInstanceWhereEqual}
use Rattle.overlaps.specs.Ordered.{in_order}
use Rattle.overlaps.specs.Refused.{ClauseIsRefused, EqualAndRefused, HeadersAreRefused, RefusesOfPair}
use Rattle.overlaps.specs.declared.opening.Pair.{Pair}
use Rattle.overlaps.specs.declared.overlap.Overlap.{Overlap}
use Rattle.overlaps.specs.declared.overlap.Overlap.TheVariants as O

-- Of open impls whose headers are equal.
abbrev pub IsFoundWhereEqual : Evaluator → Evaluator → Pair → Overlap → Type 0
IsFoundWhereEqual old new p (O.DisjointClause w) = RefusesOfPair old new p w
IsFoundWhereEqual old new p (O.May x) = IsInstanceWhereEqual old new (state old) p x
IsFoundWhereEqual old new p _ = ⊥

-- Of open impls.
abbrev pub IsFoundOfPair : Evaluator → Evaluator → Pair → Overlap → Type 0
IsFoundOfPair old new p O.DisjointHeaders = HeadersAreRefused old p
IsFoundOfPair old new p (O.DisjointClause w) = EqualAndRefused old new p w
IsFoundOfPair old new p (O.May x) = IsInstanceOfPair old new p x
IsFoundOfPair old new p _ = ⊥

-- Of the impls of these numbers, at that state of an evaluator: they are of different traits; by what they declare it is allowed; there is no
-- common instance of their headers, whatever the aliases are that aren't listed; that clause is refused where these are equal; or that is an
-- instance of both.
abbrev pub IsFoundAt : Evaluator → State → Evaluator → ImplId → ImplId → Overlap → Type 0
IsFoundAt old S new a b O.NoCommonTrait = AreOfOtherTraits old.context a b
IsFoundAt old S new a b (O.Allowed w) = allowance_of_ordered old.context a b ≡ Some w
IsFoundAt old S new a b O.DisjointHeaders = IfDeclared old.context a b (AreApart old.context (listing old) S)
IsFoundAt old S new a b (O.DisjointClause w) = IfDeclared old.context a b (ClauseIsRefused old S new a b w)
IsFoundAt old S new a b (O.May x) = OfDeclared old.context a b (IsCommonInstance old S new x)

-- Of two impls, with nothing pending: that of the lower number is the first one, whichever is given first.
abbrev pub IsOverlap : Evaluator → Evaluator → ImplId → ImplId → Overlap → Type 0
IsOverlap old new a b o = let p = in_order a b in IsFoundAt old (aside (state old)) new p.0 p.1 o

-- it is another answer than that what is declared allows it
abbrev pub IsNotAllowed : Overlap → Type 0
IsNotAllowed (O.Allowed w) = ⊥
IsNotAllowed _ = Unit {0}
