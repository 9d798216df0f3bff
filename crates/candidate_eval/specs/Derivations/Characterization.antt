-- Characterisation of a clause of the environment: the first finding among its normalised parts says whether it is global.
use Rattle.std.specs.Prelude.{ℕ, zero, suc, Bool, true, false, ◌==◌, ◌||◌, ◌+◌, not, nat_lt, Option, Some, None, List, [], ◌∷◌, ◌++◌, if◌then◌else◌}
use Rattle.ir_trees.specs.declared.ir.heads.Head.{Head}
use Rattle.ir_trees.specs.declared.ir.heads.Head.TheVariants as H
use Rattle.ir_trees.specs.declared.ir.heads.ConstHead.TheVariants as C
use Rattle.ir_trees.specs.declared.ir.heads.PartHead.TheVariants as P
use Rattle.ir_trees.specs.declared.ir.kinds.RegionKind.TheVariants as R
use Rattle.ir_trees.specs.declared.ir.stop.Stop.{Stop}
use Rattle.ir_trees.specs.declared.ir.stop.Stop.TheVariants.{ConstDepth}
use Rattle.ir_trees.specs.Syntax.Trees.{Kind, TypeKind, ConstantKind, RegionKind, Forest, none, tree, Tree, kind_of, binders_of, holds, is_alias}
use Rattle.ir_trees.specs.Unification.Substitutions.{alone}
use Rattle.ir_trees.specs.Hierarchy.Supers.{after_first}
use Rattle.ir_trees.specs.Instantiation.Opening.{opened}
use Rattle.ir_trees.specs.Declarations.Context.{parameter_kind}
use Rattle.candidate_eval.specs.Outcomes.Certainties.{Certainty, Yes, Maybe, Overflow, AllGood, AMBIGUOUS}
use Rattle.candidate_eval.specs.Judges.States.{Env, State, Judge, resolved_tree, with_universe, placeholders}

-- The kinds of a binder's variables.

abbrev pub variable_of_binder : Head → List Kind
variable_of_binder (H.Part (P.Var k)) = parameter_kind k ∷ []
variable_of_binder _ = []

abbrev pub binder_kinds : Forest → List Kind
binder_kinds none = []
binder_kinds (tree h below rest) = variable_of_binder h ++ binder_kinds rest

-- of the trees below what binds, of which the first holds the binder's variables
abbrev pub bound_kinds : Forest → List Kind
bound_kinds none = []
bound_kinds (tree h below rest) = binder_kinds below

-- Trees that stand under one binder, or under none.
pub data Group : Type 0 where
  Loose : Forest → Group
  Bounded : List Kind → Forest → Group

abbrev pub under_binder : Forest → Group
under_binder below = Bounded (bound_kinds below) (after_first below)

abbrev pub group_of : Head → Forest → Group
group_of (H.Part p) below = under_binder below
group_of h below = Loose (tree h below none)

-- a bound of a `dyn` type and the signature of a closure have binders of their own
abbrev pub each_group_of : Forest → List Group
each_group_of none = []
each_group_of (tree h below rest) = group_of h below ∷ each_group_of rest

-- the trees below a head by their binders
abbrev pub groups : Head → Forest → List Group
groups h below = if binders_of h == 0 then each_group_of below else under_binder below ∷ []

-- No finding yet; a finding that says that the clause isn't global, with its certainty; a refused normalisation; a stop.
pub data Walk : Type 0 where
  Goes : State → Walk
  Finds : State → Certainty → Walk
  Refuses : Walk
  Stops : Stop → Walk

abbrev pub and_then : Walk → (State → Walk) → Walk
and_then (Goes S) k = k S
and_then w k = w

abbrev pub each : (State → Tree → Walk) → State → Forest → Walk
each visit S none = Goes S
each visit S (tree h below rest) = and_then (visit S (record { head = h; children = below })) (λ T. each visit T rest)

-- placeholders of a fresh universe stand for what a binder binds; no variables, no universe
abbrev pub group_at : State → Group → State × Forest
group_at S (Loose ts) = (S, ts)
group_at S (Bounded [] ts) = (S, opened none ts)
group_at S (Bounded (k ∷ ks) ts) = (with_universe S, opened (placeholders (suc S.newest_universe) 0 (k ∷ ks)) ts)

abbrev pub each_group : (State → Tree → Walk) → State → List Group → Walk
each_group visit S [] = Goes S
each_group visit S (g ∷ gs) =
    let at = group_at S g in
    and_then (each visit at.0 at.1) (λ T. each_group visit T gs)

-- Marks.

abbrev pub is_placeholder : Head → Bool
is_placeholder (H.Placeholder p) = true
is_placeholder (H.Const (C.Placeholder p)) = true
is_placeholder (H.Region (R.Placeholder p)) = true
is_placeholder _ = false

abbrev pub is_root_placeholder : Head → Bool
is_root_placeholder (H.Placeholder p) = p.universe == 0
is_root_placeholder (H.Const (C.Placeholder p)) = p.universe == 0
is_root_placeholder (H.Region (R.Placeholder p)) = p.universe == 0
is_root_placeholder _ = false

abbrev pub is_any_variable : Head → Bool
is_any_variable (H.Infer v) = true
is_any_variable (H.Region (R.Var n)) = true
is_any_variable _ = false

abbrev pub is_any_bound : Head → Bool
is_any_bound (H.Bound v) = true
is_any_bound (H.Const (C.Bound v)) = true
is_any_bound (H.Region (R.Bound v)) = true
is_any_bound _ = false

-- what may still say something: a placeholder, a variable or an alias
abbrev pub is_of_interest : Head → Bool
is_of_interest h = is_placeholder h || (is_any_variable h || is_alias h)

-- a higher limit may help, and what was found isn't kept
abbrev pub too_deep : Certainty
too_deep = Maybe (record { cause = Overflow true false; opaque_types_jank = AllGood })

-- A normal form, by the first row that applies:
--   a placeholder of the root universe: found, and sure;
--   another placeholder: nothing;
--   a variable: found, and ambiguous;
--   nothing of interest in it: nothing;
--   types are nested too deep: found, and an overflow;
--   else what is below it is visited.
abbrev pub looked : (State → Tree → Walk) → Bool → State → Tree → Walk
looked deeper is_too_deep S t =
    if is_root_placeholder t.head then Finds S Yes
    else (if is_placeholder t.head then Goes S
    else (if is_any_variable t.head then Finds S AMBIGUOUS
    else (if not (holds is_of_interest (alone t)) then Goes S
    else (if is_too_deep then Finds S too_deep
    else each_group deeper S (groups t.head t.children)))))

abbrev pub in_normal_form : Option (Tree × State) → (State → Tree → Walk) → Walk
in_normal_form None k = Refuses
in_normal_form (Some n) k = k n.1 n.0

-- a region, with its value in its place
abbrev pub region_seen : State → Head → Walk
region_seen S h = if is_root_placeholder h || is_any_variable h then Finds S Yes else Goes S

-- One part. `level` counts the types that it stands in and itself, `depth` the constants that it stands in; `deeper` visits
-- what is below at a level and a depth.
abbrev pub visited_as : Judge → Env → (ℕ → ℕ → State → Tree → Walk) → ℕ → ℕ → State → Tree → Kind → Walk
visited_as J e deeper level depth S t TypeKind =
    in_normal_form (J.normalized S e t) (looked (deeper (suc level) depth) (nat_lt J.limits.recursion level))
visited_as J e deeper level depth S t ConstantKind =
    if nat_lt depth J.limits.const_depth then in_normal_form (J.normalized S e t) (looked (deeper level (suc depth)) false)
    else Stops ConstDepth
visited_as J e deeper level depth S t RegionKind = region_seen S (resolved_tree S t).head
visited_as J e deeper level depth S t _ = Goes S

-- The visits end where the levels of types and constants do: the first number is more than both together.
abbrev pub visited : Judge → Env → ℕ → ℕ → ℕ → State → Tree → Walk
visited J e zero level depth S t = Refuses
visited J e (suc n) level depth S t = visited_as J e (visited J e n) level depth S t (kind_of t.head)

abbrev pub most_visits : Judge → ℕ
most_visits J = suc (suc (J.limits.recursion + J.limits.const_depth))

-- A clause with a bound variable is never global. Else its parts are visited in their order.
abbrev pub characterization : Judge → Env → State → Tree → Walk
characterization J e S c =
    if holds is_any_bound c.children then Finds S Yes
    else each (visited J e (most_visits J) 1 0) S (opened none (after_first c.children))
