-- What is given is of the context's table, and each of its aliases may be listed, while the context grows.
use Rattle.std.proofs.Common.{◌≡◌, ℕ, Bool, true, false, List, [], ◌∷◌, All, length, take, drop, refl, sym, ◌∙◌, ap, subst}
use Rattle.std.specs.Prelude.{◌||◌, max}
use Rattle.std.proofs.Math.Nat.{le-max_right, le_refl}
use Rattle.std.proofs.lemmas.List.{take-take, take_all, take-append-drop}
use Rattle.std.proofs.lemmas.List.Elements.{All-cons, All-head, All-nil, All-tail, All-weaker}
use Rattle.ir_trees.specs.declared.ir.kinds.Clause.{Clause}
use Rattle.ir_trees.specs.declared.ir.kinds.Ty.{Ty}
use Rattle.ir_trees.specs.Declarations.Context.{Context, Grows}
use Rattle.ir_trees.specs.Syntax.Nodes.{Extends}
use Rattle.ir_trees.specs.Syntax.Trees.{Tree, is_alias}
use Rattle.ir_trees.specs.Syntax.Words.{IsClause, IsTy, ty_tree}
use Rattle.ir_trees.proofs.Growth.Kept.{number-kept}
use Rattle.ir_trees.proofs.Syntax.Lists.{below_kind}
use Rattle.rounds_judge.specs.Aliases.WellListed.{may_be_listed, well_listed}
use Rattle.rounds_judge.specs.Equations.Standing.{IsListed}
use Rattle.rounds_judge.proofs.Aliases.WellListed.{all-listed}
use Rattle.candidate_rounds.specs.Evaluators.Known.{AreTypes, Each, IsGiven, listing_of, pairs_of}
use Rattle.candidate_rounds.proofs.Evaluators.Given.{listed-pair}
use Rattle.assembly_notation.specs.declared.given.Given.{Given}
use Rattle.assembly_notation.specs.Given.{GivenFits, IsNormalForm}
use Rattle.assembly_notation.proofs.Giving.{given_extends, take-extends}
use Rattle.assembly_text.specs.Solving.{GivenIsListed, IsListedForm, ListedIsDeclared}

kept-tree : (old new : List Tree) (t : Ty) → Extends old new → IsTy old t → ty_tree new t ≡ ty_tree old t
kept-tree old new t e i = (number-kept old new t.0 e (below_kind old t.0 _ refl i)).1

kept-sort : (old new : List Tree) (t : Ty) → Extends old new → IsTy old t → IsTy new t
kept-sort old new t e i = (number-kept old new t.0 e (below_kind old t.0 _ refl i)).0 ∙ i

form-kept : (old new : List Tree) (p : Ty × Ty) → Extends old new → IsListedForm old p → IsListedForm new p
form-kept old new p e f =
    let a = kept-tree old new p.0 e f.sort in
    let b = kept-tree old new p.1 e f.ty in
    record { sort = kept-sort old new p.0 e f.sort; ty = kept-sort old new p.1 e f.ty; may_be = ap (λ (t : Tree). may_be_listed (t, ty_tree new p.1)) a ∙ (ap (λ (t : Tree). may_be_listed (ty_tree old p.0, t)) b ∙ f.may_be) }

pub listed_extends : (old new : List Tree) (g : Given) → Extends old new → GivenIsListed old g → GivenIsListed new g
listed_extends old new g e f = record {
  fits = given_extends old new g e f.fits;
  listed = All-weaker (IsListedForm old) (IsListedForm new) (λ p i. form-kept old new p e i) g.normal_forms.items f.listed;
}

pub given_grows : (a b : Context) (g : Given) → Grows a b → GivenIsListed a.trees g → GivenIsListed b.trees g
given_grows a b g w f = listed_extends a.trees b.trees g w.kept f

pub declared_grows : (a b : Context) (g : Given) → Grows a b → ListedIsDeclared a g → ListedIsDeclared b g
declared_grows a b g w f =
    let n : b.declared_nodes ≡ a.declared_nodes = ap (λ (c : Context). c.declared_nodes) w.same in
    subst (λ (ts : List Tree). GivenIsListed ts g) (sym (ap (λ (i : ℕ). take i b.trees) n ∙ ap (λ (ts : List Tree). take a.declared_nodes ts) w.kept.is))
    (listed_extends _ _ g (take-extends a.declared_nodes a.trees w.kept.added) f)

-- what is taken back is none of it
pub declared_stays : (a b : Context) (n : ℕ) (g : Given) → b ≡ record a { trees = take (max n a.declared_nodes) a.trees } → ListedIsDeclared a g → ListedIsDeclared b g
declared_stays a b n g e f =
    subst (λ (c : Context). ListedIsDeclared c g) (sym e)
    (subst (λ (ts : List Tree). GivenIsListed ts g) (sym (take-take a.declared_nodes (max n a.declared_nodes) a.trees (le-max_right n a.declared_nodes))) f)

-- all that was read came with the declarations
pub declared_at_last : (c : Context) (g : Given) → c.declared_nodes ≡ length c.trees → GivenIsListed c.trees g → ListedIsDeclared c g
declared_at_last c g e f =
    subst (λ (ts : List Tree). GivenIsListed ts g) (sym (ap (λ (n : ℕ). take n c.trees) e ∙ take_all (length c.trees) c.trees (le_refl (length c.trees)))) f

pub given_declared : (c : Context) (g : Given) → ListedIsDeclared c g → GivenIsListed c.trees g
given_declared c g f =
    listed_extends _ _ g (record { added = drop c.declared_nodes c.trees; is = sym (take-append-drop c.declared_nodes c.trees) }) f

first-false : (a b : Bool) → a || b ≡ false → a ≡ false
first-false true b e = e
first-false false b e = refl

-- what may be listed is an alias, and a type that is none
normal-form : (ts : List Tree) (p : Ty × Ty) → IsListedForm ts p → IsNormalForm ts p
normal-form ts p f =
    let l = listed-pair (ty_tree ts p.0, ty_tree ts p.1) f.may_be in
    record { sort = f.sort; alias = l.is_alias; ty = f.ty; no_alias = first-false (is_alias (ty_tree ts p.1).head) _ l.no_alias }

-- Those alone are left that may be listed.
pub listed-alone : (ts : List Tree) (old new : Given) → new.clauses.items ≡ old.clauses.items → GivenFits ts old → All (IsListedForm ts) new.normal_forms.items → GivenIsListed ts new
listed-alone ts old new s f i = record {
  fits = record {
    clauses = subst (λ (cs : List Clause). All (IsClause ts) cs) (sym s) f.clauses;
    normal_forms = All-weaker (IsListedForm ts) (IsNormalForm ts) (λ p k. normal-form ts p k) new.normal_forms.items i;
  };
  listed = i;
}

types-of : (ts : List Tree) (ps : List (Ty × Ty)) → All (IsListedForm ts) ps → Each (AreTypes ts) ps
types-of ts [] a = tt
types-of ts (p ∷ ps) a = let f = All-head (IsListedForm ts) p ps a in ((f.sort, f.ty), types-of ts ps (All-tail (IsListedForm ts) p ps a))

pairs-listed : (ts : List Tree) (ps : List (Ty × Ty)) → All (IsListedForm ts) ps → All IsListed (pairs_of ts ps)
pairs-listed ts [] a = All-nil IsListed
pairs-listed ts (p ∷ ps) a =
    All-cons IsListed (ty_tree ts p.0, ty_tree ts p.1) (pairs_of ts ps) (listed-pair _ (All-head (IsListedForm ts) p ps a).may_be) (pairs-listed ts ps (All-tail (IsListedForm ts) p ps a))

-- They may be given to an evaluator, and are all of those that may be listed.

pub given-of : (ts : List Tree) (ps : List (Ty × Ty)) → All (IsListedForm ts) ps → IsGiven ts ps []
given-of ts ps a = record { types = types-of ts ps a; listing = pairs-listed ts ps a; opaques_fit = tt; opaques_are = tt; opaques_hidden = tt }

pub all-of : (ts : List Tree) (ps : List (Ty × Ty)) → All (IsListedForm ts) ps → listing_of ts ps ≡ well_listed (listing_of ts ps)
all-of ts ps a = sym (all-listed (listing_of ts ps) (pairs-listed ts ps a))
