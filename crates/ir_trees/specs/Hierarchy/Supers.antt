-- Which clauses may be a trait's super clauses.
use Rattle.std.specs.Prelude.{Bool, true, false, not, ◌&&◌, ◌==◌, Option, Some, None, List, [], slice_get}
use Rattle.std.specs.List.{list_any}
use Rattle.ir_trees.specs.declared.ir.heads.Head.{Head}
use Rattle.ir_trees.specs.declared.ir.heads.Head.TheVariants as H
use Rattle.ir_trees.specs.declared.ir.heads.PartHead.TheVariants as P
use Rattle.ir_trees.specs.declared.ir.heads.ClauseHead.{ClauseHead}
use Rattle.ir_trees.specs.declared.ir.heads.ClauseHead.TheVariants as Cl
use Rattle.ir_trees.specs.declared.ir.kinds.PredicatePolarity.TheVariants as Polarity
use Rattle.ir_trees.specs.declared.ir.kinds.Clause.{Clause}
use Rattle.ir_trees.specs.declared.decl.definition.DefinitionKind.{DefinitionKind}
use Rattle.ir_trees.specs.declared.decl.definition.DefinitionKind.TheVariants as D
use Rattle.ir_trees.specs.Syntax.Trees.{Forest, none, tree, Tree}
use Rattle.ir_trees.specs.Syntax.Nodes.{tree_at}
use Rattle.ir_trees.specs.Declarations.Contents.{TraitContents, Contents}

abbrev pub first_head : Forest → Option Head
first_head none = None
first_head (tree h below rest) = Some h

abbrev pub after_first : Forest → Forest
after_first none = none
after_first (tree h below rest) = rest

-- what a clause is about: the first of its trees after the binder
abbrev pub subject : Tree → Option Head
subject t = first_head (after_first t.children)

abbrev pub is_self : Option Head → Bool
is_self (Some (H.Param i)) = i == 0
is_self _ = false

-- that a trait holds, that an associated type is a type, that a type outlives a region
abbrev pub says_of_type : ClauseHead → Bool
says_of_type (Cl.Trait i Polarity.Positive) = true
says_of_type (Cl.Projection i) = true
says_of_type Cl.TypeOutlives = true
says_of_type _ = false

abbrev pub head_says_of_type : Head → Bool
head_says_of_type (H.Part (P.Clause c)) = says_of_type c
head_says_of_type _ = false

-- It says one of these, about `Self`.
abbrev pub is_super_clause : Tree → Bool
is_super_clause t = head_says_of_type t.head && is_self (subject t)

abbrev pub supers_at : Option TraitContents → List Clause
supers_at None = []
supers_at (Some t) = t.supers

abbrev pub supers_of : Contents → DefinitionKind → List Clause
supers_of c (D.Trait flags n) = supers_at (slice_get c.traits n)
supers_of c _ = []

abbrev pub is_no_super : List Tree → Clause → Bool
is_no_super ts x = not (is_super_clause (tree_at ts x.0))

-- A super clause of it says something else, or of something else.
abbrev pub has_wrong_super : List Tree → Contents → DefinitionKind → Bool
has_wrong_super ts c k = list_any (is_no_super ts) (supers_of c k)
