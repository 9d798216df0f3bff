-- What tests of what an evaluator is given say.
use Rattle.std.proofs.Common.{◌≡◌, ℕ, Bool, true, false, not, List, [], ◌∷◌, if◌then◌else◌, refl, sym, ◌∙◌, ap, subst}
use Rattle.std.specs.Prelude.{◌&&◌, ◌||◌, ◌↔◌, IsTrue}
use Rattle.std.proofs.lemmas.Bool.{and_parts, not-true}
use Rattle.ir_trees.specs.declared.ir.kinds.AliasTy.{AliasTy}
use Rattle.ir_trees.specs.declared.ir.kinds.TyKind.TheVariants as K
use Rattle.ir_trees.specs.Syntax.Binders.{escapes}
use Rattle.ir_trees.specs.Syntax.Nodes.{kind_at, tree_at}
use Rattle.ir_trees.specs.Instantiation.Owned.{is_unsolved}
use Rattle.ir_trees.specs.Unification.Substitutions.{alone}
use Rattle.ir_trees.specs.Syntax.Trees.{ArgumentsKind, Forest, none, Tree, TypeKind, holds, is_alias, is_param, is_type, is_type_kind, tree_holds}
use Rattle.ir_trees.specs.Syntax.Words.{IsArgs, args_forest, kind_tree}
use Rattle.ir_trees.proofs.Syntax.Lists.{below_kind, kind_of-tree_at}
use Rattle.ir_trees.proofs.Syntax.Rows.{join-none, row-list}
use Rattle.std.proofs.lemmas.List.Elements.{All-head}
use Rattle.rounds_judge.proofs.Aliases.WellListed.{well-listed}
use Rattle.rounds_judge.specs.Equations.Standing.{IsListed, IsListing}
use Rattle.rounds_judge.specs.Aliases.WellListed.{is_fixed, may_be_listed}
use Rattle.candidate_rounds.specs.Evaluators.Known.{MayBeHidden, is_opaque, rigid_otherwise}
use Rattle.candidate_rounds.proofs.Equations.Assigning.{holds-alone}

-- the root of a type is one
pub type-head : (ts : List Tree) (n : ℕ) → kind_at ts n ≡ TypeKind → is_type (tree_at ts n).head ≡ true
type-head ts n e = ap is_type_kind (sym (kind_of-tree_at ts n (below_kind ts n TypeKind refl e)) ∙ e)

pub listed-so : (a t : Tree) (h x : Bool) → is_fixed a ≡ true → is_fixed t ≡ true → is_type t.head ≡ true → h ≡ tree_holds is_alias t → h ≡ false → x ≡ is_alias a.head → x ≡ may_be_listed (a, t)
listed-so a t h x e f k is n l =
    let none : holds is_alias (alone t) ≡ false = holds-alone is_alias t ∙ (sym is ∙ n) in
    rw (e, f, k, none) l

or-none : (b : Bool) → b || false ≡ b
or-none true = refl
or-none false = refl

-- an opaque type, by its arguments
alias-is : (ts : List Tree) (a : AliasTy) → IsArgs ts a.args → kind_tree ts (K.Alias a) ≡ record { head = (kind_tree ts (K.Alias a)).head; children = args_forest ts a.args }
alias-is ts a p =
    ap (λ (f : Forest). let t : Tree = record { head = (kind_tree ts (K.Alias a)).head; children = f } in t) (row-list ts a.args.0 ArgumentsKind none refl refl p ∙ join-none (args_forest ts a.args))

pub no-variable-in : (ts : List Tree) (a : AliasTy) → IsArgs ts a.args → holds is_unsolved (alone (kind_tree ts (K.Alias a))) ≡ holds is_unsolved (args_forest ts a.args)
no-variable-in ts a given = ap (λ (t : Tree). holds is_unsolved (alone t)) (alias-is ts a given) ∙ or-none (holds is_unsolved (args_forest ts a.args))

pub no-parameter-in : (ts : List Tree) (a : AliasTy) → IsArgs ts a.args → holds is_param (alone (kind_tree ts (K.Alias a))) ≡ holds is_param (args_forest ts a.args)
no-parameter-in ts a given = ap (λ (t : Tree). holds is_param (alone t)) (alias-is ts a given) ∙ or-none (holds is_param (args_forest ts a.args))

-- what the three tests of an opaque type's arguments say of it
pub hidden-if : (ts : List Tree) (a : AliasTy) → IsArgs ts a.args → is_opaque (kind_tree ts (K.Alias a)).head ≡ true → (e u p : Bool) → e ≡ escapes 0 (args_forest ts a.args) → u ≡ holds is_unsolved (args_forest ts a.args) → p ≡ holds is_param (args_forest ts a.args)
    → IsTrue (not e && (not u && not p)) ↔ MayBeHidden (kind_tree ts (K.Alias a))
hidden-if ts a given o e u p ee ue pe = (forth, back)
  where
    T : Tree
    T = kind_tree ts (K.Alias a)

    closed : escapes 0 (alone T) ≡ e
    closed = ap (λ (t : Tree). escapes 0 (alone t)) (alias-is ts a given) ∙ (or-none (escapes 0 (args_forest ts a.args)) ∙ sym ee)

    unsolved : holds is_unsolved (alone T) ≡ u
    unsolved = no-variable-in ts a given ∙ sym ue

    parameter : holds is_param (alone T) ≡ p
    parameter = no-parameter-in ts a given ∙ sym pe

    forth : IsTrue (not e && (not u && not p)) → MayBeHidden T
    forth i =
        let l = and_parts (not e) _ i in
        let r = and_parts (not u) _ l.1 in
        record { is_opaque = o; is_closed = closed ∙ not-true e l.0; has_no_variable = unsolved ∙ not-true u r.0; no_parameter = parameter ∙ not-true p r.1 }

    back : MayBeHidden T → IsTrue (not e && (not u && not p))
    back m = rw (sym closed ∙ m.is_closed, sym unsolved ∙ m.has_no_variable, sym parameter ∙ m.no_parameter) refl

-- the tests stop at the first that fails

pub third : (e u p : Bool) → e ≡ false → u ≡ false → not e && (not u && not p) ≡ not p
third e u p a b = ap (λ x. not x && (not u && not p)) a ∙ ap (λ x. not x && not p) b

pub second : (e u p : Bool) → e ≡ false → u ≡ true → not e && (not u && not p) ≡ not u
second e u p a b = ap (λ x. not x && (not u && not p)) a ∙ (ap (λ x. not x && not p) b ∙ sym (ap not b))

pub first : (e u p : Bool) → e ≡ true → not e && (not u && not p) ≡ not e
first e u p a = ap (λ x. not x && (not u && not p)) a ∙ sym (ap not a)

-- a pair that the test lets through may be listed
pub listed-pair : (p : Tree × Tree) → may_be_listed p ≡ true → IsListed p
listed-pair p e = All-head IsListed p [] (subst (λ b. IsListing (rigid_otherwise (if b then p ∷ [] else []))) e (well-listed (rigid_otherwise (p ∷ []))))
