-- What goals are asked under stays of its table.
use Rattle.std.proofs.Common.{◌≡◌, ℕ, zero, suc, List, [], ◌∷◌, ◌++◌, length, All, take, drop, refl, sym, ◌∙◌, ap, subst}
use Rattle.std.specs.Prelude.{Bool, true, false, if◌then◌else◌, max}
use Rattle.std.proofs.Math.Nat.{le-max_right, le_refl}
use Rattle.std.proofs.lemmas.List.{take-take, take_all, take-append-drop}
use Rattle.std.proofs.lemmas.List.Elements.{All-weaker, All-push}
use Rattle.ir_trees.specs.declared.ir.kinds.Ty.{Ty}
use Rattle.ir_trees.specs.declared.ir.kinds.Clause.{Clause}
use Rattle.ir_trees.specs.Syntax.Trees.{Tree, Kind, is_alias}
use Rattle.ir_trees.specs.Syntax.Nodes.{kind_at, Extends}
use Rattle.ir_trees.specs.Declarations.Context.{Context, Grows}
use Rattle.ir_trees.specs.Syntax.Words.{IsTy, IsClause}
use Rattle.ir_trees.proofs.Syntax.Lists.{below_kind}
use Rattle.ir_trees.specs.Syntax.Trees.{there}
use Rattle.ir_trees.proofs.Growth.Kept.{number-kept}
use Rattle.assembly_notation.specs.declared.given.Given.{Given}
use Rattle.assembly_notation.specs.Given.{names_alias, IsNormalForm, GivenFits, GivenIsDeclared}

kept : (old new : List Tree) (n : ℕ) (k : Kind) → there k ≡ true → Extends old new → kind_at old n ≡ k → kind_at new n ≡ k
kept old new n k h e i = (number-kept old new n e (below_kind old n k h i)).0 ∙ i

pub alias_kept : (old new : List Tree) (t : Ty) → Extends old new → IsTy old t → names_alias new t ≡ names_alias old t
alias_kept old new t e i = ap (λ (u : Tree). is_alias u.head) (number-kept old new t.0 e (below_kind old t.0 _ refl i)).1

form-kept : (old new : List Tree) (p : Ty × Ty) → Extends old new → IsNormalForm old p → IsNormalForm new p
form-kept old new p e f = record {
  sort = kept old new p.0.0 _ refl e f.sort;
  alias = alias_kept old new p.0 e f.sort ∙ f.alias;
  ty = kept old new p.1.0 _ refl e f.ty;
  no_alias = alias_kept old new p.1 e f.ty ∙ f.no_alias;
}

pub given_extends : (old new : List Tree) (g : Given) → Extends old new → GivenFits old g → GivenFits new g
given_extends old new g e f = record {
  clauses = All-weaker (IsClause old) (IsClause new) (λ c i. kept old new c.0 _ refl e i) g.clauses.items f.clauses;
  normal_forms = All-weaker (IsNormalForm old) (IsNormalForm new) (λ p i. form-kept old new p e i) g.normal_forms.items f.normal_forms;
}

pub given_grows : (a b : Context) (g : Given) → Grows a b → GivenFits a.trees g → GivenFits b.trees g
given_grows a b g w f = given_extends a.trees b.trees g w.kept f

-- the first so many of a list that has more behind it
pub take-extends : (n : ℕ) (xs ys : List Tree) → Extends (take n xs) (take n (xs ++ ys))
take-extends zero xs ys = record { added = []; is = refl }
take-extends (suc n) [] ys = record { added = take (suc n) ys; is = refl }
take-extends (suc n) (x ∷ xs) ys = let r = take-extends n xs ys in record { added = r.added; is = ap (λ (zs : List Tree). x ∷ zs) r.is }

pub declared_grows : (a b : Context) (g : Given) → Grows a b → GivenIsDeclared a g → GivenIsDeclared b g
declared_grows a b g w f =
    let n : b.declared_nodes ≡ a.declared_nodes = ap (λ (c : Context). c.declared_nodes) w.same in
    subst (λ (ts : List Tree). GivenFits ts g) (sym (ap (λ (i : ℕ). take i b.trees) n ∙ ap (λ (ts : List Tree). take a.declared_nodes ts) w.kept.is))
    (given_extends _ _ g (take-extends a.declared_nodes a.trees w.kept.added) f)

-- what is taken back is none of it
pub declared_stays : (a b : Context) (n : ℕ) (g : Given) → b ≡ record a { trees = take (max n a.declared_nodes) a.trees } → GivenIsDeclared a g → GivenIsDeclared b g
declared_stays a b n g e f =
    subst (λ (c : Context). GivenIsDeclared c g) (sym e)
    (subst (λ (ts : List Tree). GivenFits ts g) (sym (take-take a.declared_nodes (max n a.declared_nodes) a.trees (le-max_right n a.declared_nodes))) f)

-- all that was read came with the declarations
pub declared_at_last : (a b : Context) (g : Given) → b ≡ record a { declared_nodes = length a.trees } → GivenFits a.trees g → GivenIsDeclared b g
declared_at_last a b g e f =
    subst (λ (c : Context). GivenIsDeclared c g) (sym e)
    (subst (λ (ts : List Tree). GivenFits ts g) (sym (take_all (length a.trees) a.trees (le_refl (length a.trees)))) f)

pub given_declared : (c : Context) (g : Given) → GivenIsDeclared c g → GivenFits c.trees g
given_declared c g f =
    given_extends _ _ g (record { added = drop c.declared_nodes c.trees; is = sym (take-append-drop c.declared_nodes c.trees) }) f

-- one more alias, or none where a growth was refused
pub form_given : (ts : List Tree) (g h : Given) (p : Ty × Ty) (b : Bool) → h.clauses.items ≡ g.clauses.items
    → h.normal_forms.items ≡ (if b then g.normal_forms.items ++ p ∷ [] else g.normal_forms.items) → IsNormalForm ts p → GivenFits ts g → GivenFits ts h
form_given ts g h p b s e i f = record {
  clauses = subst (λ (cs : List Clause). All (IsClause ts) cs) (sym s) f.clauses;
  normal_forms = subst (λ (ps : List (Ty × Ty)). All (IsNormalForm ts) ps) (sym e) (forms b);
}
  where
    forms : (b : Bool) → All (IsNormalForm ts) (if b then g.normal_forms.items ++ p ∷ [] else g.normal_forms.items)
    forms true = All-push (IsNormalForm ts) g.normal_forms.items p f.normal_forms i
    forms false = f.normal_forms
