-- Pending goals are evaluated: what comes of one that is of no trait, and how sure a state is by what stays.
use Rattle.std.specs.Prelude.{Bool, true, false, ◌&&◌, ◌||◌, if◌then◌else◌, Option, Some, None, List, [], ◌∷◌, ◌++◌}
use Rattle.ir_trees.specs.declared.ir.heads.Head.{Head}
use Rattle.ir_trees.specs.declared.ir.heads.Head.TheVariants as H
use Rattle.ir_trees.specs.declared.ir.heads.PartHead.TheVariants as P
use Rattle.ir_trees.specs.declared.ir.heads.ClauseHead.TheVariants as Cl
use Rattle.ir_trees.specs.declared.ir.kinds.AliasKind.TheVariants as A
use Rattle.ir_trees.specs.declared.ir.kinds.AssocId.{AssocId}
use Rattle.ir_trees.specs.Syntax.Trees.{Kind, Forest, none, tree, Tree, holds, is_alias}
use Rattle.ir_trees.specs.Syntax.Nodes.{error_tree}
use Rattle.ir_trees.specs.Unification.Substitutions.{alone}
use Rattle.candidate_eval.specs.declared.eval.certainty.Certainty.{Certainty}
use Rattle.candidate_eval.specs.declared.eval.certainty.Certainty.TheVariants.{Yes}
use Rattle.candidate_eval.specs.Outcomes.Certainties.{AMBIGUOUS}
use Rattle.candidate_eval.specs.Judges.States.{State, VariableInfo, Pending, resolved_tree, with_pending, next}
use Rattle.candidate_eval.specs.Derivations.Characterization.{under_binder, group_at}
use Rattle.rounds_judge.specs.Aliases.Listed.{Listing, listed}
use Rattle.rounds_judge.specs.Aliases.OpenParts.{first_or}
use Rattle.rounds_judge.specs.Equations.Equating.{equated, without_goals}
use Rattle.rounds_judge.specs.Equations.Opening.{are_open, readied}

-- The facts of a projection clause are the alias's arguments, and then the term.

abbrev pub last_or : Tree → Forest → Tree
last_or t none = t
last_or t (tree h below rest) = last_or (record { head = h; children = below }) rest

abbrev pub without_last : Tree → Forest → Forest
without_last t none = none
without_last t (tree h below rest) = tree t.head t.children (without_last (record { head = h; children = below }) rest)

abbrev pub term_of : Forest → Tree
term_of none = error_tree
term_of (tree h below rest) = last_or (record { head = h; children = below }) rest

abbrev pub arguments_of : Forest → Forest
arguments_of none = none
arguments_of (tree h below rest) = without_last (record { head = h; children = below }) rest

abbrev pub alias_of : AssocId → Forest → Tree
alias_of i ts = record { head = H.Alias A.Projection (record { 0 = i.0 }); children = arguments_of ts }

-- What comes of a goal: the goals that stay in its place, and the state; or it is refused.
abbrev pub Outcome : Type 0
Outcome = Option (List Pending × State)

-- The facts of a clause, with placeholders of a fresh universe for what its binder binds; no variables, no universe.
abbrev pub instantiated : State → Tree → State × Forest
instantiated S c = group_at S (under_binder c.children)

-- the clause with these facts, under an empty binder
abbrev pub with_facts : Tree → Forest → Tree
with_facts c ts = record { head = c.head; children = tree (H.Part P.Vars) none ts }

-- A goal under a binder that has variables becomes its instance.
abbrev pub instance_of : Pending → List Kind → Forest → Pending
instance_of p [] ts = p
instance_of p (k ∷ ks) ts = record { source = p.source; goal = record { env = p.goal.env; clause = with_facts p.goal.clause ts } }

abbrev pub stays : State → Pending → Outcome
stays S p = Some (p ∷ [], S)

abbrev pub recorded : State → Tree → State
recorded S c = record S { regions = S.regions ++ c ∷ [] }

-- An alias stands in the trees that no pair lists, once all values are put in.
abbrev pub has_unlisted : Listing → State → Forest → Bool
has_unlisted l S ts = holds is_alias (readied l S ts)

-- An alias that is listed has its type equated with the term: once no open alias stands in that.
abbrev pub projected : Listing → State → Pending → Tree → Option Tree → Outcome
projected l S p t None = stays S p
projected l S p t (Some u) = if are_open l S && has_unlisted l S (alone t) then stays S p else without_goals (equated l S (alone u) (alone t))

-- Two trees that are to be one are equated, once no alias stands in them that isn't listed.
abbrev pub related : Listing → State → Pending → Tree → Tree → Outcome
related l S p t u = if has_unlisted l S (alone t) || has_unlisted l S (alone u) then stays S p else without_goals (equated l S (alone t) (alone u))

-- the first of the facts, an error where there is none
abbrev pub first_fact : Forest → Tree
first_fact ts = first_or error_tree ts

-- An instance by the head of its clause: outlives clauses are recorded, and goals of traits stay.
abbrev pub tried_as : Listing → State → Pending → Forest → Head → Outcome
tried_as l S p ts (H.Part (P.Clause (Cl.Projection i))) = projected l S p (term_of ts) (listed l (resolved_tree S (alias_of i ts)))
tried_as l S p ts (H.Part (P.Clause Cl.AliasRelate)) = related l S p (first_fact ts) (term_of ts)
tried_as l S p ts (H.Part (P.Clause Cl.ConstEquate)) = related l S p (first_fact ts) (term_of ts)
tried_as l S p ts (H.Part (P.Clause Cl.TypeOutlives)) = Some ([], recorded S p.goal.clause)
tried_as l S p ts (H.Part (P.Clause Cl.RegionOutlives)) = Some ([], recorded S p.goal.clause)
tried_as l S p ts _ = stays S p

-- what stays of one goal comes before what stays of those after it
abbrev pub before : List Pending → Outcome → Outcome
before ps o = next o (λ q. Some (ps ++ q.0, q.1))

-- the state with what stays pending
abbrev pub with_staying : List Pending × State → State
with_staying q = with_pending q.1 q.0

-- Whether a variable that had no value has one now. Asked variable by variable, since there may be new ones, without values.

abbrev pub got_a_value : Option Tree → Option Tree → Bool
got_a_value None (Some t) = true
got_a_value _ _ = false

abbrev pub gave_a_value : List VariableInfo → List VariableInfo → Bool
gave_a_value [] js = false
gave_a_value (i ∷ is) [] = false
gave_a_value (i ∷ is) (j ∷ js) = got_a_value i.value j.value || gave_a_value is js

-- sure, if nothing is left
abbrev pub certainty_of : List Pending → Certainty
certainty_of [] = Yes
certainty_of (p ∷ ps) = AMBIGUOUS

abbrev pub with_certainty : State → Certainty × State
with_certainty S = (certainty_of S.pending, S)
