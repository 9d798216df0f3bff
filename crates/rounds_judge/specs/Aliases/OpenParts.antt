-- Where aliases are open: the parts of trees that may be any type or constant, trees with others in their places, and the goals that both are
-- one.
use Rattle.std.specs.Prelude.{Bool, false, not, ◌&&◌, ◌||◌, List, [], ◌∷◌, ◌++◌, map, if◌then◌else◌}
use Rattle.ir_trees.specs.declared.ir.heads.Head.{Head}
use Rattle.ir_trees.specs.declared.ir.heads.Head.TheVariants as H
use Rattle.ir_trees.specs.declared.ir.heads.PartHead.TheVariants as P
use Rattle.ir_trees.specs.declared.ir.heads.ClauseHead.TheVariants as Cl
use Rattle.ir_trees.specs.declared.ir.kinds.GoalSource.TheVariants.{Misc}
use Rattle.ir_trees.specs.Hierarchy.Supers.{after_first}
use Rattle.ir_trees.specs.Hierarchy.Elaboration.{same_tree}
use Rattle.ir_trees.specs.Instantiation.Folding.{fold}
use Rattle.ir_trees.specs.Instantiation.Folds.{node}
use Rattle.ir_trees.specs.Syntax.Binders.{escapes}
use Rattle.ir_trees.specs.Syntax.Trees.{Kind, ConstantKind, Forest, none, tree, Tree, is_alias, kind_of}
use Rattle.candidate_eval.specs.Judges.Lawful.{is_type_or_constant}
use Rattle.candidate_eval.specs.Judges.States.{Env, Pending}
use Rattle.rounds_judge.specs.Aliases.Listed.{listed_in}

-- a type or constant from which no bound variable escapes
abbrev pub is_closed_term : Head → Forest → Bool
is_closed_term h below = is_type_or_constant (kind_of h) && not (escapes 0 (tree h below none))

-- An alias stands in the trees, and not within a closed type or constant.
abbrev pub has_loose_alias : Forest → Bool
has_loose_alias none = false
has_loose_alias (tree h below rest) = (not (is_closed_term h below) && (is_alias h || has_loose_alias below)) || has_loose_alias rest

-- An open part: a closed alias; or what binds a variable that an alias in it names, since nothing outside of the binder stands for that alias.
abbrev pub is_open_part : Head → Forest → Bool
is_open_part h below = is_closed_term h below && (is_alias h || has_loose_alias below)

abbrev pub is_among : List Tree → Tree → Bool
is_among [] t = false
is_among (p ∷ ps) t = same_tree p t || is_among ps t

abbrev pub with_part : List Tree → Tree → List Tree
with_part ps t = if is_among ps t then ps else ps ++ t ∷ []

-- The trees, and then each open part that isn't among them, from the top and from the left; nothing is looked for inside one.
abbrev pub with_parts : List Tree → Forest → List Tree
with_parts ps none = ps
with_parts ps (tree h below rest) = with_parts (if is_open_part h below then with_part ps (node h below) else with_parts ps below) rest

abbrev pub kinds_of : List Tree → List Kind
kinds_of ps = map (λ (t : Tree). kind_of t.head) ps

abbrev pub first_or : Tree → Forest → Tree
first_or t none = t
first_or t (tree h below rest) = node h below

-- each of the parts with the next of others
abbrev pub paired : List Tree → Forest → List (Tree × Tree)
paired [] vs = []
paired (t ∷ ts) vs = (t, first_or t vs) ∷ paired ts (after_first vs)

-- The trees with what each open part is paired with in its place, from the top.
abbrev pub opened : List (Tree × Tree) → Forest → Forest
opened ps ts = fold (λ d u. listed_in ps u) 0 ts

-- The goal that both are one, types or constants.

abbrev pub relation : Kind → Head
relation ConstantKind = H.Part (P.Clause Cl.ConstEquate)
relation _ = H.Part (P.Clause Cl.AliasRelate)

abbrev pub are_one : Tree → Tree → Tree
are_one t u = record { head = relation (kind_of t.head); children = tree (H.Part P.Vars) none (tree t.head t.children (tree u.head u.children none)) }

abbrev pub to_be_one : Env → Tree → Tree → Pending
to_be_one e t u = record { source = Misc; goal = record { env = e; clause = are_one t u } }

-- each of the parts and what it is paired with
abbrev pub all_to_be : Env → List (Tree × Tree) → List Pending
all_to_be e ps = map (λ (p : Tree × Tree). to_be_one e p.0 p.1) ps
