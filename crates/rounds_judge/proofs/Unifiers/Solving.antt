-- A solution and a look: what stands for variables, and why a variable may take what a solution makes equal to it.
use Rattle.std.proofs.Common.{◌≡◌, ◌⊎◌, inl, inr, ℕ, ◌+◌, Bool, true, false, ◌||◌, Option, Some, None, refl, sym, ap, subst, ◌∙◌}
use Rattle.std.specs.Option.{unwrap_or}
use Rattle.std.proofs.lemmas.Bool.{eqb-true}
use Rattle.ir_trees.specs.declared.ir.heads.Head.{Head}
use Rattle.ir_trees.specs.declared.ir.heads.Head.TheVariants as H
use Rattle.ir_trees.specs.declared.ir.heads.Variable.{Variable}
use Rattle.ir_trees.specs.declared.ir.heads.VariableSort.{VariableSort}
use Rattle.ir_trees.specs.declared.ir.heads.VariableSort.TheVariants as V
use Rattle.ir_trees.specs.declared.ir.kinds.RegionKind.{RegionKind}
use Rattle.ir_trees.specs.declared.ir.kinds.RegionKind.TheVariants as R
use Rattle.ir_trees.specs.Syntax.Trees.{Forest, none, tree, Tree, erase, erased_head, holds, binders_of, is_number}
use Rattle.ir_trees.specs.Syntax.Binders.{is_beyond, escapes}
use Rattle.ir_trees.specs.Instantiation.Folding.{leaf}
use Rattle.ir_trees.specs.Unification.Substitutions.{Substitution, IsAllowedBinding, lookup, apply, alone, fits_sort}
use Rattle.ir_trees.proofs.Unification.Instances.{same_sort_is}
use Rattle.candidate_eval.specs.declared.eval.variable.VariableKind.{VariableKind}
use Rattle.candidate_eval.specs.declared.eval.variable.VariableKind.TheVariants.{Term, Region}
use Rattle.candidate_eval.specs.Judges.States.{State, VariableInfo, Values, value_as, value_at, has_kind, same_kind}
use Rattle.candidate_eval.specs.Judges.Alike.{info}
use Rattle.candidate_eval.specs.Judges.Soundness.{Live, ValuesFit, AreLeaves, is_leaf, is_region, is_strange, fits_kind, universes, variable_tree}
use Rattle.candidate_eval.specs.Judges.Lawful.{HasLeafValues}
use Rattle.candidate_eval.proofs.Marks.Holds.{holds_parts}
use Rattle.rounds_judge.proofs.States.Marks.{whole, escape_parts, escape_whole}
use Rattle.rounds_judge.proofs.States.Later.{has_info, kind_there, value_as_kind, value_there}
use Rattle.rounds_judge.proofs.Unifiers.Putting.{node, put_in, assigned, apply_is}
use Rattle.rounds_judge.proofs.Equations.Sides.{Absorbs, IsQuiet, value_leaves}
use Rattle.rounds_judge.proofs.Equations.Offered.{is_unknown, binders_erased}

abbrev pub value_under : Substitution → Variable → Tree
value_under s v = lookup s v (leaf (H.Infer v))

-- The substitution solves the state, so far as what counts says: what it gives to such a variable is allowed, and extends the values.
pub record IsMet (S : State) (L : Live) (s : Substitution) : Type 0 where
  pub allowed : (v : Variable) → is_unknown S L (H.Infer v) ≡ false → IsAllowedBinding (universes S) (record { variable = v; value = value_under s v })
  pub extends : (v : Variable) (i : VariableInfo) (t : Tree) → L v.number ≡ true → info S v.number ≡ Some i → i.kind ≡ Term v.sort → i.value ≡ Some t
      → erase (apply s (variable_tree v)) ≡ erase (apply s (alone t))

-- what trees come to, up to regions
abbrev pub made : Substitution → Forest → Forest
made s ts = erase (put_in (assigned s) ts)

pub made_is : (s : Substitution) (ts : Forest) → AreLeaves ts → erase (apply s ts) ≡ made s ts
made_is s ts l = ap erase (apply_is s ts l)

pub variable_made : (s : Substitution) (v : Variable) → erase (apply s (variable_tree v)) ≡ erase (alone (value_under s v))
variable_made s v = refl

pub is_quiet : (s : Substitution) → IsQuiet (assigned s)
is_quiet s = record { bound = λ v. refl; placeholder = λ p. refl }

pub kind_same : (j k : VariableKind) → same_kind j k ≡ true → j ≡ k
kind_same (Term s) (Term t) e = ap Term (same_sort_is s t e)
kind_same Region Region e = refl
kind_same (Term s) Region e = cc
kind_same Region (Term t) e = cc

pub kind_is : (i : VariableInfo) (s : VariableSort) → has_kind (Term s) (Some i) ≡ true → i.kind ≡ Term s
kind_is i s e = kind_same i.kind (Term s) e

-- a value that is put in is of the kind of what it stands for
pub value_fits : (S : State) (L : Live) → ValuesFit S L → (k : VariableKind) (n : ℕ) (t : Tree) → L n ≡ true → value_as S k n ≡ Some t → fits_kind k t.head ≡ true
value_fits S L fits k n t counts e = at (info S n) refl (value_as_kind S k n t e)
  where
    at : (o : Option VariableInfo) → info S n ≡ o → has_kind k o ≡ true → fits_kind k t.head ≡ true
    at None there c = cc
    at (Some i) there c = ap (λ k. fits_kind k t.head) (sym (kind_same i.kind k c)) ∙ (fits n counts).kind i t there (value_there S k n i t there e)

pub leaf_region : (h : Head) → is_region h ≡ true → is_leaf h ≡ true
leaf_region (H.Region r) e = by r
  where
    by : (r : RegionKind) → is_leaf (H.Region r) ≡ true
    by (R.Var n) = refl
    by _ = refl
leaf_region _ e = cc

region_row : (w : Values) → ((r : RegionKind) → w (H.Region r) ≡ None) → (t : Tree) → is_region t.head ≡ true → AreLeaves (alone t) → erase (put_in w (alone t)) ≡ tree (H.Region R.Static) none none
region_row w none_there t is l = at t.head t.children is (l.0 (leaf_region t.head is))
  where
    at : (h : Head) (c : Forest) → is_region h ≡ true → c ≡ none → erase (put_in w (tree h c none)) ≡ tree (H.Region R.Static) none none
    at (H.Region r) c e f = ap (λ c. erase (put_in w (tree (H.Region r) c none))) f ∙ ap (λ o. erase (alone (unwrap_or o (leaf (H.Region r))))) (none_there r)
    at _ c e f = cc

pub met_absorbs : (S : State) (L : Live) (s : Substitution) → ValuesFit S L → HasLeafValues S L → IsMet S L s → Absorbs (assigned s) S L
met_absorbs S L s fits leafy m h t k e = at h k e (value_leaves S L leafy h t k e)
  where
    at : (h : Head) → is_strange S L h ≡ false → value_at S h ≡ Some t → AreLeaves (alone t) → made s (alone t) ≡ made s (tree h none none)
    at (H.Infer v) k e l =
        let i = has_info (L v.number) (Term v.sort) (info S v.number) k in
        let kind : i.0.kind ≡ Term v.sort = kind_is i.0 v.sort (sym (ap (has_kind (Term v.sort)) i.1) ∙ kind_there (L v.number) (Term v.sort) (info S v.number) k) in
        sym (made_is s (alone t) l) ∙ sym (m.extends v i.0 t i.2 i.1 kind (value_there S (Term v.sort) v.number i.0 t i.1 e))
    at (H.Region (R.Var n)) k e l = region_row (assigned s) (λ r. refl) t (value_fits S L fits Region n t (has_info (L n) Region (info S n) k).2 e) l
    at _ k e l = cc

-- What erasing leaves

pub fits_erased : (s : VariableSort) (h : Head) → fits_sort s (erased_head h) ≡ fits_sort s h
fits_erased V.General (H.Region r) = refl
fits_erased V.Integer (H.Region r) = refl
fits_erased V.Floating (H.Region r) = refl
fits_erased V.Constant (H.Region r) = refl
fits_erased s h = refl

pub fits_region : (s : VariableSort) (h : Head) → fits_sort s h ≡ true → is_region h ≡ false
fits_region V.General (H.Region r) e = cc
fits_region V.Integer (H.Region r) e = cc
fits_region V.Floating (H.Region r) e = cc
fits_region V.Constant (H.Region r) e = cc
fits_region s h e = refl

beyond_erased : (d : ℕ) (h : Head) → is_beyond d h ≡ false → is_beyond d (erased_head h) ≡ false
beyond_erased d (H.Region r) e = refl
beyond_erased d h e = e

pub erased_closed : (d : ℕ) (ts : Forest) → escapes d ts ≡ false → escapes d (erase ts) ≡ false
erased_closed d none e = refl
erased_closed d (tree h a r) e =
    let p = escape_parts d h a r e in
    escape_whole d (erased_head h) (erase a) (erase r) (beyond_erased d h p.here)
    (subst (λ n. escapes (d + n) (erase a) ≡ false) (sym (binders_erased h)) (erased_closed (d + binders_of h) a p.under))
    (erased_closed d r p.others)

-- what escapes from no instance escapes from no tree
pub back_closed : (s : Substitution) (d : ℕ) (ts : Forest) → AreLeaves ts → escapes d (made s ts) ≡ false → escapes d (erase ts) ≡ false
back_closed s d none l e = refl
back_closed s d (tree h a r) l e =
    let it : Tree = node (assigned s) h (put_in (assigned s) a) in
    let p = escape_parts d (erased_head it.head) (erase it.children) (made s r) e in
    at h l.0 p.here p.under (λ n. back_closed s n a l.1) (back_closed s d r l.2 p.others)
  where
    at : (h : Head) → (is_leaf h ≡ true → a ≡ none)
        → (let it : Tree = node (assigned s) h (put_in (assigned s) a) in is_beyond d (erased_head it.head) ≡ false)
        → (let it : Tree = node (assigned s) h (put_in (assigned s) a) in escapes (d + binders_of (erased_head it.head)) (erase it.children) ≡ false)
        → ((n : ℕ) → escapes n (made s a) ≡ false → escapes n (erase a) ≡ false) → escapes d (erase r) ≡ false → escapes d (erase (tree h a r)) ≡ false
    at (H.Infer v) l here under below rest = escape_whole d (H.Infer v) (erase a) (erase r) refl (ap (λ c. escapes (d + 0) (erase c)) (l refl)) rest
    at h l here under below rest = escape_whole d (erased_head h) (erase a) (erase r) here (below (d + binders_of (erased_head h)) under) rest

-- a mark that no variable bears, and no instance, is borne by no tree
pub back_marked : (s : Substitution) (mark : Head → Bool) → ((v : Variable) → mark (H.Infer v) ≡ false) → (ts : Forest) → AreLeaves ts → holds mark (made s ts) ≡ false → holds mark (erase ts) ≡ false
back_marked s mark m none l e = refl
back_marked s mark m (tree h a r) l e =
    let it : Tree = node (assigned s) h (put_in (assigned s) a) in
    let p = holds_parts mark (erased_head it.head) (erase it.children) (made s r) e in
    at h l.0 p.here p.under (back_marked s mark m a l.1) (back_marked s mark m r l.2 p.others)
  where
    at : (h : Head) → (is_leaf h ≡ true → a ≡ none)
        → (let it : Tree = node (assigned s) h (put_in (assigned s) a) in mark (erased_head it.head) ≡ false)
        → (let it : Tree = node (assigned s) h (put_in (assigned s) a) in holds mark (erase it.children) ≡ false)
        → (holds mark (made s a) ≡ false → holds mark (erase a) ≡ false) → holds mark (erase r) ≡ false → holds mark (erase (tree h a r)) ≡ false
    at (H.Infer v) l here under below rest = whole mark (H.Infer v) (erase a) (erase r) (m v) (ap (λ c. holds mark (erase c)) (l refl)) rest
    at h l here under below rest = whole mark (erased_head h) (erase a) (erase r) here (below under) rest

-- Which variable has a number

two_kinds : (s : VariableSort) (k : VariableKind) → same_kind k (Term s) ≡ true → same_kind k Region ≡ true → ⊥
two_kinds s (Term t) e f = cc
two_kinds s Region e f = cc

two_sorts : (s t : VariableSort) (k : VariableKind) → same_kind k (Term s) ≡ true → same_kind k (Term t) ≡ true → s ≡ t
two_sorts s t (Term z) e f = sym (same_sort_is z s e) ∙ same_sort_is z t f
two_sorts s t Region e f = cc

pub numbered_head : (S : State) (L : Live) (v : Variable) (h : Head) → is_unknown S L (H.Infer v) ≡ false → is_unknown S L h ≡ false → is_number v.number h ≡ true → h ≡ H.Infer v
numbered_head S L v (H.Infer w) k u e =
    let i = has_info (L v.number) (Term v.sort) (info S v.number) k in
    let n : w.number ≡ v.number = eqb-true w.number v.number e in
    let one : same_kind i.0.kind (Term v.sort) ≡ true = sym (ap (has_kind (Term v.sort)) i.1) ∙ kind_there (L v.number) (Term v.sort) (info S v.number) k in
    let two : same_kind i.0.kind (Term w.sort) ≡ true = sym (ap (has_kind (Term w.sort)) (ap (info S) n ∙ i.1)) ∙ kind_there (L w.number) (Term w.sort) (info S w.number) u in
    let z : w.sort ≡ v.sort = two_sorts w.sort v.sort i.0.kind two one in
    λ j. H.Infer (record { sort = z j; number = n j })
numbered_head S L v (H.Region (R.Var m)) k u e =
    let i = has_info (L v.number) (Term v.sort) (info S v.number) k in
    let n : m ≡ v.number = eqb-true m v.number e in
    let one : same_kind i.0.kind (Term v.sort) ≡ true = sym (ap (has_kind (Term v.sort)) i.1) ∙ kind_there (L v.number) (Term v.sort) (info S v.number) k in
    let two : same_kind i.0.kind Region ≡ true = sym (ap (has_kind Region) (ap (info S) n ∙ i.1)) ∙ kind_there (L m) Region (info S m) u in
    absurd (two_kinds v.sort i.0.kind one two)
numbered_head S L v _ k u e = cc

-- Where a variable stands in trees, what stands for it is part of what the trees come to.

pub or_either : (a b : Bool) → (a || b) ≡ true → (a ≡ true) ⊎ (b ≡ true)
or_either true b e = inl refl
or_either false b e = inr e

pub part_marked : (S : State) (L : Live) (s : Substitution) (v : Variable) → is_unknown S L (H.Infer v) ≡ false → (mark : Head → Bool) (ts : Forest) → holds (is_unknown S L) ts ≡ false
    → holds (is_number v.number) ts ≡ true → AreLeaves ts → holds mark (made s ts) ≡ false → holds mark (erase (alone (value_under s v))) ≡ false
part_marked S L s v k mark none u o l e = cc
part_marked S L s v k mark (tree h a r) u o l e =
    let it : Tree = node (assigned s) h (put_in (assigned s) a) in
    let p = holds_parts mark (erased_head it.head) (erase it.children) (made s r) e in
    let q = holds_parts (is_unknown S L) h a r u in
    at (or_either (is_number v.number h) (holds (is_number v.number) a || holds (is_number v.number) r) o)
    (λ n. here (numbered_head S L v h k q.here n) (whole mark (erased_head it.head) (erase it.children) none p.here p.under refl))
    (λ n. inside h (l.0) p.under n (λ f. part_marked S L s v k mark a q.under n l.1 f))
    (λ n. part_marked S L s v k mark r q.others n l.2 p.others)
  where
    here : h ≡ H.Infer v → (let it : Tree = node (assigned s) h (put_in (assigned s) a) in holds mark (erase (alone it)) ≡ false) → holds mark (erase (alone (value_under s v))) ≡ false
    here e f = subst (λ g. holds mark (erase (alone (node (assigned s) g (put_in (assigned s) a)))) ≡ false) e f

    inside : (h : Head) → (is_leaf h ≡ true → a ≡ none) → (let it : Tree = node (assigned s) h (put_in (assigned s) a) in holds mark (erase it.children) ≡ false)
        → holds (is_number v.number) a ≡ true → (holds mark (made s a) ≡ false → holds mark (erase (alone (value_under s v))) ≡ false) → holds mark (erase (alone (value_under s v))) ≡ false
    inside (H.Infer w) l e n f = let clash : false ≡ true = sym (ap (holds (is_number v.number)) (l refl)) ∙ n in cc
    inside h l e n f = f e

    at : (is_number v.number h ≡ true) ⊎ ((holds (is_number v.number) a || holds (is_number v.number) r) ≡ true)
        → (is_number v.number h ≡ true → holds mark (erase (alone (value_under s v))) ≡ false)
        → (holds (is_number v.number) a ≡ true → holds mark (erase (alone (value_under s v))) ≡ false)
        → (holds (is_number v.number) r ≡ true → holds mark (erase (alone (value_under s v))) ≡ false)
        → holds mark (erase (alone (value_under s v))) ≡ false
    at (inl n) f g j = f n
    at (inr n) f g j = by (or_either (holds (is_number v.number) a) (holds (is_number v.number) r) n)
      where
        by : (holds (is_number v.number) a ≡ true) ⊎ (holds (is_number v.number) r ≡ true) → holds mark (erase (alone (value_under s v))) ≡ false
        by (inl n) = g n
        by (inr n) = j n
