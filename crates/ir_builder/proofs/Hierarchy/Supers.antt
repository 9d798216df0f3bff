-- What clauses are about.
use Rattle.std.proofs.Common.{◌≡◌, ℕ, zero, suc, ◌<◌, ◌≤◌, List, [], ◌∷◌, length, get_or, Bool, true, false, Some, None, IsTrue, ◌↔◌, ◌⊎◌, inl, inr, refl, sym, ◌∙◌, ap, subst, arith}
use Rattle.std.specs.Prelude.{◌&&◌, slice_index_or}
use Rattle.std.proofs.lemmas.List.{get_or_past}
use Rattle.ir_trees.specs.declared.ir.heads.Head.{Head}
use Rattle.ir_trees.specs.declared.ir.kinds.GenericArg.{GenericArg}
use Rattle.ir_trees.specs.declared.ir.kinds.GenericArg.TheVariants as A
use Rattle.ir_trees.specs.declared.ir.kinds.Args.{Args}
use Rattle.ir_trees.specs.declared.ir.kinds.Const.{Const}
use Rattle.ir_trees.specs.declared.ir.kinds.Ty.{Ty}
use Rattle.ir_trees.specs.declared.ir.kinds.Region.{Region}
use Rattle.ir_trees.specs.declared.ir.kinds.Binder.{Binder}
use Rattle.ir_trees.specs.declared.ir.kinds.ClauseKind.{ClauseKind}
use Rattle.ir_trees.specs.declared.ir.kinds.ClauseKind.TheVariants as Cl
use Rattle.ir_trees.specs.declared.ir.kinds.TraitPredicate.{TraitPredicate}
use Rattle.ir_trees.specs.declared.ir.kinds.ProjectionPredicate.{ProjectionPredicate}
use Rattle.ir_trees.specs.Syntax.Trees.{TypeKind, ConstantKind, RegionKind, BinderKind, ArgumentsKind, ClauseKind as ClauseKindOf, Forest, none, tree, Tree, kind_of, row, join}
use Rattle.ir_trees.specs.Syntax.Kinds.{arg_number, arg_kind, numbers, fact_children, clause_head}
use Rattle.ir_trees.specs.Syntax.Nodes.{tree_at, kind_at, trees_at, rows, error_tree}
use Rattle.ir_trees.specs.Syntax.Words.{IsArgs, IsClause, ListFits, ClauseFits, list_forest, args_forest, clause_kind_tree, clause_tree}
use Rattle.ir_trees.specs.declared.ir.kinds.Clause.{Clause}
use Rattle.ir_trees.specs.declared.ir.heads.Head.TheVariants as H
use Rattle.ir_trees.specs.declared.ir.heads.PartHead.TheVariants as P
use Rattle.ir_trees.specs.declared.ir.heads.ClauseHead.{ClauseHead}
use Rattle.ir_trees.specs.Hierarchy.Supers.{first_head, after_first, subject, head_says_of_type, is_super_clause, is_self, says_of_type}
use Rattle.ir_trees.proofs.Syntax.Lists.{below_kind, kind_of-tree_at}
use Rattle.ir_trees.proofs.Syntax.Members.{member, member-kind, arg-there}
use Rattle.ir_trees.proofs.Syntax.Rows.{row-single, row-list, join-none}

-- the first member of a list
pub no_first : (ts : List Tree) (xs : List GenericArg) (a : Args) → list_forest ts xs ≡ args_forest ts a → length xs ≡ 0 → first_head (args_forest ts a) ≡ None
no_first ts [] a e l = ap first_head (sym e)
no_first ts (x ∷ xs) a e l = absurd (omega (arith, l))

pub first_of : (ts : List Tree) (xs : List GenericArg) (a : Args) (x : GenericArg) (n : ℕ) → ListFits ts xs → list_forest ts xs ≡ args_forest ts a → 0 < length xs
    → x ≡ get_or xs 0 x → n ≡ arg_number x → (n < length ts) × (first_head (args_forest ts a) ≡ Some (tree_at ts n).head)
first_of ts [] a x n f e l g s = absurd (omega (arith, l))
first_of ts (y ∷ ys) a x n f e l g s =
    let k : kind_at ts (arg_number y) ≡ arg_kind y = member-kind ts (y ∷ ys) 0 y f l in
    let same : n ≡ arg_number y = s ∙ ap arg_number g in (
      subst (λ (m : ℕ). m < length ts) (sym same) (below_kind ts (arg_number y) (arg_kind y) (arg-there y) k),
      ap first_head (sym e ∙ member ts y ys f) ∙ ap (λ (m : ℕ). Some (tree_at ts m).head) (sym same),
    )

pub first_is : (ts : List Tree) (xs : List GenericArg) (a : Args) (n : ℕ) → ListFits ts xs → list_forest ts xs ≡ args_forest ts a → 0 < length xs
    → n ≡ arg_number (slice_index_or xs 0 (A.Ty (record { 0 = 0 }))) → (n < length ts) × (first_head (args_forest ts a) ≡ Some (tree_at ts n).head)
first_is ts [] a n f e l s = absurd (omega (arith, l))
first_is ts (y ∷ ys) a n f e l s = first_of ts (y ∷ ys) a y n f e l refl s

-- the trees of a clause after its binder
after-binder : (ts : List Tree) (b : Binder ClauseKind) → kind_at ts b.vars.0 ≡ BinderKind → after_first (clause_kind_tree ts b).children ≡ rows (trees_at ts (numbers (fact_children b.value)))
after-binder ts b k = ap after_first (row-single ts b.vars.0 BinderKind (rows (trees_at ts (numbers (fact_children b.value)))) refl refl k)

abbrev about : Binder ClauseKind → ClauseKind → Binder ClauseKind
about b x = record { vars = b.vars; value = x }

fits-about : (ts : List Tree) (b : Binder ClauseKind) (x : ClauseKind) → b.value ≡ x → ClauseFits ts b → ClauseFits ts (about b x)
fits-about ts b x e f = subst (λ (y : ClauseKind). ClauseFits ts (about b y)) e f

-- what a number of a subject is
abbrev pub IsSubject : List Tree → Binder ClauseKind → ℕ → Type 0
IsSubject ts b n = (n < length ts) × (subject (clause_kind_tree ts b) ≡ Some (tree_at ts n).head)

subject-list : (ts : List Tree) (b : Binder ClauseKind) (t : TraitPredicate) → b.value ≡ Cl.Trait t → ClauseFits ts b
    → subject (clause_kind_tree ts b) ≡ first_head (args_forest ts t.trait_ref.args)
subject-list ts b t e f =
    let g : ClauseFits ts (about b (Cl.Trait t)) = fits-about ts b (Cl.Trait t) e f in
    let v : kind_at ts b.vars.0 ≡ BinderKind = cc in
    let i : IsArgs ts t.trait_ref.args = cc in
    ap first_head (after-binder ts b v ∙ ap (λ (x : ClauseKind). rows (trees_at ts (numbers (fact_children x)))) e
    ∙ (row-list ts t.trait_ref.args.0 ArgumentsKind none refl refl i ∙ join-none (args_forest ts t.trait_ref.args)))

-- of a trait's clause, the first argument
pub trait_subject : (ts : List Tree) (b : Binder ClauseKind) (t : TraitPredicate) (n : ℕ) → b.value ≡ Cl.Trait t → ClauseFits ts b → n < length ts
    → first_head (args_forest ts t.trait_ref.args) ≡ Some (tree_at ts n).head → IsSubject ts b n
trait_subject ts b t n e f l h = (l, subject-list ts b t e f ∙ h)

pub no_trait_subject : (ts : List Tree) (b : Binder ClauseKind) (t : TraitPredicate) → b.value ≡ Cl.Trait t → ClauseFits ts b
    → first_head (args_forest ts t.trait_ref.args) ≡ None → subject (clause_kind_tree ts b) ≡ None
no_trait_subject ts b t e f h = subject-list ts b t e f ∙ h

first-of-both : (a b : Forest) (h : Head) → first_head a ≡ Some h → first_head (join a b) ≡ Some h
first-of-both none b h e = absurd cc
first-of-both (tree g below rest) b h e = e

first-of-second : (a b : Forest) → first_head a ≡ None → first_head (join a b) ≡ first_head b
first-of-second none b e = refl
first-of-second (tree g below rest) b e = absurd cc

subject-both : (ts : List Tree) (b : Binder ClauseKind) (t : ProjectionPredicate) → b.value ≡ Cl.Projection t → ClauseFits ts b
    → (subject (clause_kind_tree ts b) ≡ first_head (join (args_forest ts t.projection_term.args) (tree (tree_at ts t.term.0).head (tree_at ts t.term.0).children none))) × (t.term.0 < length ts)
subject-both ts b t e f =
    let g : ClauseFits ts (about b (Cl.Projection t)) = fits-about ts b (Cl.Projection t) e f in
    let v : kind_at ts b.vars.0 ≡ BinderKind = cc in
    let i : IsArgs ts t.projection_term.args = cc in
    let o : kind_at ts t.term.0 ≡ TypeKind = cc in (
      ap first_head (after-binder ts b v ∙ ap (λ (x : ClauseKind). rows (trees_at ts (numbers (fact_children x)))) e
          ∙ (row-list ts t.projection_term.args.0 ArgumentsKind (row (tree_at ts t.term.0) none) refl refl i
          ∙ ap (join (args_forest ts t.projection_term.args)) (row-single ts t.term.0 TypeKind none refl refl o))),
      below_kind ts t.term.0 TypeKind refl o,
    )

-- of a projection's, too; where it has no arguments, the type that it is
pub projection_subject : (ts : List Tree) (b : Binder ClauseKind) (t : ProjectionPredicate) (n : ℕ) → b.value ≡ Cl.Projection t → ClauseFits ts b → n < length ts
    → first_head (args_forest ts t.projection_term.args) ≡ Some (tree_at ts n).head → IsSubject ts b n
projection_subject ts b t n e f l h = (l, (subject-both ts b t e f).0 ∙ first-of-both (args_forest ts t.projection_term.args) _ (tree_at ts n).head h)

pub term_subject : (ts : List Tree) (b : Binder ClauseKind) (t : ProjectionPredicate) → b.value ≡ Cl.Projection t → ClauseFits ts b
    → first_head (args_forest ts t.projection_term.args) ≡ None → IsSubject ts b t.term.0
term_subject ts b t e f h = ((subject-both ts b t e f).1, (subject-both ts b t e f).0 ∙ first-of-second (args_forest ts t.projection_term.args) _ h)

-- of what outlives a region, that
pub type_subject : (ts : List Tree) (b : Binder ClauseKind) (t : Ty) (r : Region) → b.value ≡ Cl.TypeOutlives t r → ClauseFits ts b → IsSubject ts b t.0
type_subject ts b t r e f =
    let g : ClauseFits ts (about b (Cl.TypeOutlives t r)) = fits-about ts b (Cl.TypeOutlives t r) e f in
    let v : kind_at ts b.vars.0 ≡ BinderKind = cc in
    let o : kind_at ts t.0 ≡ TypeKind = cc in (
      below_kind ts t.0 TypeKind refl o,
      ap first_head (after-binder ts b v ∙ ap (λ (x : ClauseKind). rows (trees_at ts (numbers (fact_children x)))) e
          ∙ row-single ts t.0 TypeKind (rows (trees_at ts (r.0 ∷ []))) refl refl o),
    )

pub region_subject : (ts : List Tree) (b : Binder ClauseKind) (t r : Region) → b.value ≡ Cl.RegionOutlives t r → ClauseFits ts b → IsSubject ts b t.0
region_subject ts b t r e f =
    let g : ClauseFits ts (about b (Cl.RegionOutlives t r)) = fits-about ts b (Cl.RegionOutlives t r) e f in
    let v : kind_at ts b.vars.0 ≡ BinderKind = cc in
    let o : kind_at ts t.0 ≡ RegionKind = cc in (
      below_kind ts t.0 RegionKind refl o,
      ap first_head (after-binder ts b v ∙ ap (λ (x : ClauseKind). rows (trees_at ts (numbers (fact_children x)))) e
          ∙ row-single ts t.0 RegionKind (rows (trees_at ts (r.0 ∷ []))) refl refl o),
    )

-- of what says that two are one, the first
pub related_subject : (ts : List Tree) (b : Binder ClauseKind) (t r : Ty) → b.value ≡ Cl.AliasRelate t r → ClauseFits ts b → IsSubject ts b t.0
related_subject ts b t r e f =
    let g : ClauseFits ts (about b (Cl.AliasRelate t r)) = fits-about ts b (Cl.AliasRelate t r) e f in
    let v : kind_at ts b.vars.0 ≡ BinderKind = cc in
    let o : kind_at ts t.0 ≡ TypeKind = cc in (
      below_kind ts t.0 TypeKind refl o,
      ap first_head (after-binder ts b v ∙ ap (λ (x : ClauseKind). rows (trees_at ts (numbers (fact_children x)))) e
          ∙ row-single ts t.0 TypeKind (rows (trees_at ts (r.0 ∷ []))) refl refl o),
    )

pub equated_subject : (ts : List Tree) (b : Binder ClauseKind) (t r : Const) → b.value ≡ Cl.ConstEquate t r → ClauseFits ts b → IsSubject ts b t.0
equated_subject ts b t r e f =
    let g : ClauseFits ts (about b (Cl.ConstEquate t r)) = fits-about ts b (Cl.ConstEquate t r) e f in
    let v : kind_at ts b.vars.0 ≡ BinderKind = cc in
    let o : kind_at ts t.0 ≡ ConstantKind = cc in (
      below_kind ts t.0 ConstantKind refl o,
      ap first_head (after-binder ts b v ∙ ap (λ (x : ClauseKind). rows (trees_at ts (numbers (fact_children x)))) e
          ∙ row-single ts t.0 ConstantKind (rows (trees_at ts (r.0 ∷ []))) refl refl o),
    )

head-kind : (h : Head) → head_says_of_type h ≡ true → kind_of h ≡ ClauseKindOf
head-kind (H.Part (P.Clause c)) e = refl
head-kind (H.Part (P.Pred c)) e = absurd cc
head-kind (H.Part P.Sig) e = absurd cc
head-kind (H.Part P.Vars) e = absurd cc
head-kind (H.Part (P.Var k)) e = absurd cc
head-kind _ e = absurd cc

past : (ts : List Tree) (n : ℕ) → length ts ≤ n → tree_at ts n ≡ error_tree
past ts n h = get_or_past ts n error_tree h

either : (n m : ℕ) → (n < m) ⊎ (m ≤ n)
either n zero = inr (omega arith)
either zero (suc m) = inl (omega arith)
either (suc n) (suc m) = at (either n m)
  where
    at : (n < m) ⊎ (m ≤ n) → (suc n < suc m) ⊎ (suc m ≤ suc n)
    at (inl l) = inl (omega (arith, l))
    at (inr l) = inr (omega (arith, l))

-- what is no clause is no super clause
pub not_super : (ts : List Tree) (c : Clause) (b : Bool) → IsTrue b ↔ IsClause ts c → b ≡ false → false ≡ is_super_clause (tree_at ts c.0)
not_super ts c b r e = of (head_says_of_type (tree_at ts c.0).head) refl
  where
    inside : head_says_of_type (tree_at ts c.0).head ≡ true → (c.0 < length ts) ⊎ (length ts ≤ c.0) → ⊥
    inside s (inl l) = let t : IsTrue b = r.1 (kind_of-tree_at ts c.0 l ∙ head-kind (tree_at ts c.0).head s) in cc
    inside s (inr l) = let g = sym s ∙ ap (λ (t : Tree). head_says_of_type t.head) (past ts c.0 l) in cc

    of : (x : Bool) → head_says_of_type (tree_at ts c.0).head ≡ x → false ≡ is_super_clause (tree_at ts c.0)
    of true s = absurd (inside s (either c.0 (length ts)))
    of false s = sym (ap (λ (y : Bool). y && is_self (subject (tree_at ts c.0))) s)

-- a clause that says something else, and one that says it of something
super-of : (ts : List Tree) (c : Clause) (b : Binder ClauseKind) → clause_kind_tree ts b ≡ clause_tree ts c
    → is_super_clause (tree_at ts c.0) ≡ says_of_type (clause_head b) && is_self (subject (clause_kind_tree ts b))
super-of ts c b e = ap is_super_clause (sym e)

pub says_else : (ts : List Tree) (c : Clause) (b : Binder ClauseKind) (h : ClauseHead) (r : Bool) → clause_kind_tree ts b ≡ clause_tree ts c → h ≡ clause_head b
    → r ≡ says_of_type h → r ≡ false → false ≡ is_super_clause (tree_at ts c.0)
says_else ts c b h r e g s f =
    sym (super-of ts c b e ∙ ap (λ (x : Bool). x && is_self (subject (clause_kind_tree ts b))) (ap says_of_type (sym g) ∙ (sym s ∙ f)))

pub says_of_self : (ts : List Tree) (c : Clause) (b : Binder ClauseKind) (h : ClauseHead) (r x : Bool) (g : Head) (n : ℕ) → clause_kind_tree ts b ≡ clause_tree ts c → h ≡ clause_head b
    → r ≡ says_of_type h → r ≡ true → IsSubject ts b n → g ≡ (tree_at ts n).head → x ≡ is_self (Some g) → x ≡ is_super_clause (tree_at ts c.0)
says_of_self ts c b h r x g n e i s f u v w =
    w ∙ ap (λ (y : Head). is_self (Some y)) v
    ∙ sym (super-of ts c b e ∙ (ap (λ (y : Bool). y && is_self (subject (clause_kind_tree ts b))) (ap says_of_type (sym i) ∙ (sym s ∙ f)) ∙ ap is_self u.1))

pub says_of_nothing : (ts : List Tree) (c : Clause) (b : Binder ClauseKind) (h : ClauseHead) (r : Bool) → clause_kind_tree ts b ≡ clause_tree ts c → h ≡ clause_head b
    → r ≡ says_of_type h → r ≡ true → subject (clause_kind_tree ts b) ≡ None → false ≡ is_super_clause (tree_at ts c.0)
says_of_nothing ts c b h r e i s f u =
    sym (super-of ts c b e ∙ (ap (λ (y : Bool). y && is_self (subject (clause_kind_tree ts b))) (ap says_of_type (sym i) ∙ (sym s ∙ f)) ∙ ap is_self u))
