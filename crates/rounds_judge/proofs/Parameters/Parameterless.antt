-- Equating brings no parameter in.
use Rattle.std.proofs.Common.{◌≡◌, ◌≤◌, ◌++◌, ◌&&◌, if◌then◌else◌, ℕ, zero, suc, Bool, true, false, Option, Some, None, List, [], ◌∷◌, refl, sym, ap, subst, ◌∙◌}
use Rattle.std.specs.Option.{unwrap_or}
use Rattle.std.specs.List.{All}
use Rattle.std.proofs.lemmas.List.Elements.{All-append, All-cons, All-head, All-nil, All-tail}
use Rattle.ir_trees.specs.declared.ir.heads.ClauseHead.TheVariants as Cl
use Rattle.ir_trees.specs.declared.ir.heads.Head.{Head}
use Rattle.ir_trees.specs.declared.ir.heads.Head.TheVariants as H
use Rattle.ir_trees.specs.declared.ir.heads.PartHead.TheVariants as P
use Rattle.ir_trees.specs.declared.ir.heads.Variable.{Variable}
use Rattle.ir_trees.specs.declared.ir.kinds.RegionKind.TheVariants as R
use Rattle.ir_trees.specs.Syntax.Trees.{Forest, none, tree, Tree, holds, is_param}
use Rattle.ir_trees.specs.Unification.Unify.{same_head}
use Rattle.ir_trees.specs.Unification.Substitutions.{alone}
use Rattle.candidate_eval.specs.declared.eval.variable.VariableKind.TheVariants.{Term, Region}
use Rattle.candidate_eval.specs.Judges.States.{State, VariableInfo, value_at, value_in, resolved, resolved_tree, with_universe}
use Rattle.candidate_eval.specs.Judges.Alike.{info}
use Rattle.candidate_eval.specs.Judges.Soundness.{AreTreesOf, IsSound, Live, ValuesFit, is_strange}
use Rattle.candidate_eval.specs.Judges.Lawful.{HasNoParameter, RegionsHaveNoParameter}
use Rattle.candidate_eval.specs.Interface.Evaluators.{resolved_root, root_value}
use Rattle.candidate_eval.proofs.Marks.Holds.{holds_parts}
use Rattle.rounds_judge.specs.Aliases.Listed.{Listing, current}
use Rattle.rounds_judge.specs.Equations.Scopes.{Scope, placed_head, placed_tree, entered, has_binder, has_variables, scope_below}
use Rattle.rounds_judge.specs.Equations.Binding.{single, bound}
use Rattle.rounds_judge.specs.Equations.Equating.{Pair, Visit, Done, Refused, Left, equated, looked, looks, outlives, value_for, with_equal_regions, met, visited}
use Rattle.rounds_judge.specs.Equations.Standing.{IsListing, PairStands, Stands}
use Rattle.rounds_judge.proofs.States.Marks.{fold_marked, whole}
use Rattle.rounds_judge.proofs.States.Bound.{ValueAfter, own, put, before, value_after, single_is}
use Rattle.rounds_judge.proofs.Equations.Current.{WhichListed, is_type, itself, listed_fixed, placed_is, root_at, value_marked, which_listed}
use Rattle.rounds_judge.proofs.States.Later.{has_info, value_as_of}
use Rattle.rounds_judge.proofs.Equations.Looks.{left_known, meets, right_known, same_left, start_stands, visited_stands, x_known, y_known}
use Rattle.rounds_judge.proofs.Equations.Staying.{entered_variables, regions_variables}

pub record IsFree (p : Pair) : Type 0 where
  pub left : holds is_param p.left ≡ false
  pub right : holds is_param p.right ≡ false

-- no parameter stands in pairs and values; nor in recorded regions, where none did before
pub record AreFree (before : Type 0) (S : State) (L : Live) (ps : List Pair) : Type 0 where
  pub pairs : All IsFree ps
  pub values : HasNoParameter S L
  pub regions : before → RegionsHaveNoParameter S

pub record LeavesFree (before : Type 0) (S : State) (L : Live) : Type 0 where
  pub values : HasNoParameter S L
  pub regions : before → RegionsHaveNoParameter S

-- Regions that are recorded

outlives-free : (r s : Tree) → holds is_param (alone r) ≡ false → holds is_param (alone s) ≡ false → holds is_param (alone (outlives r s)) ≡ false
outlives-free r s n m =
    let p = holds_parts is_param r.head r.children none n in
    let q = holds_parts is_param s.head s.children none m in
    whole is_param (H.Part (P.Clause Cl.RegionOutlives)) (outlives r s).children none refl
    (whole is_param (H.Part P.Vars) none (tree r.head r.children (tree s.head s.children none)) refl refl
    (whole is_param r.head r.children (tree s.head s.children none) p.here p.under (whole is_param s.head s.children none q.here q.under refl)))
    refl

abbrev Free : Tree → Type 0
Free t = holds is_param (alone t) ≡ false

equal-regions-free : (S : State) (r s : Tree) → holds is_param (alone r) ≡ false → holds is_param (alone s) ≡ false → RegionsHaveNoParameter S → RegionsHaveNoParameter (with_equal_regions S r s)
equal-regions-free S r s n m free = at (same_head r.head s.head)
  where
    at : (b : Bool) → RegionsHaveNoParameter (if b then S else record S { regions = S.regions ++ outlives r s ∷ outlives s r ∷ [] })
    at true = free
    at false =
        All-append Free S.regions (outlives r s ∷ outlives s r ∷ []) free
        (All-cons Free (outlives r s) (outlives s r ∷ []) (outlives-free r s n m) (All-cons Free (outlives s r) [] (outlives-free s r m n) (All-nil Free)))

placed-free : (us : Scope) (t : Tree) → holds is_param (alone t) ≡ false → holds is_param (alone (placed_tree us t)) ≡ false
placed-free us t n =
    fold_marked (λ d u. placed_head us d u.head) is_param is_param is_param (λ d x a b e. a)
    (λ d x w a b e. let p = placed_is us d x.head w e in subst (λ w. holds is_param (alone w) ≡ false) p.3 refl) 0 (alone t) n n

entered-free : (S : State) (h : Head) (a : Forest) → RegionsHaveNoParameter S → RegionsHaveNoParameter (entered S h a)
entered-free S h a free = at (has_binder h && has_variables a)
  where
    at : (b : Bool) → RegionsHaveNoParameter (if b then with_universe S else S)
    at true = free
    at false = free

-- A variable gets a value

module _ (S : State) (L : Live) (v : Variable) (t : Tree) (free : holds is_param (alone t) ≡ false) where
  values_bound : HasNoParameter S L → HasNoParameter (bound S v t) L
  values_bound before_it n j x c there value =
      let b = before S v t n j there in
      at b.old b.there (value_after S v t n b.old x (ap (λ (i : VariableInfo). i.value) b.is ∙ value))
    where
      at : (i : VariableInfo) → info S n ≡ Some i → ValueAfter S v t n i x → holds is_param (alone x) ≡ false
      at i there (own m f) = subst (λ z. holds is_param (alone z) ≡ false) f free
      at i there (put y m f g) =
          let n = before_it n i y c there f in
          subst (λ z. holds is_param (alone z) ≡ false) g
          (fold_marked (λ _ u. single v t u.head) is_param is_param is_param (λ d x a b f. a) (λ d x u a b f. subst (λ z. holds is_param (alone z) ≡ false) (single_is v t x.head u f).1 free) 0 (alone y) n n)

-- Other looks give no value.
values_same : (S T : State) (L : Live) → T.variables ≡ S.variables → HasNoParameter S L → HasNoParameter T L
values_same S T L e free = subst (λ vs. HasNoParameter (record T { variables = vs }) L) (sym e) free

module _ (l : Listing) (listing : IsListing l) (S : State) (L : Live) (sound : IsSound S L) (free : HasNoParameter S L) where
  value-free : (h : Head) (t : Tree) → is_strange S L h ≡ false → value_at S h ≡ Some t → holds is_param (alone t) ≡ false
  value-free (H.Infer v) t e f = let i = has_info (L v.number) (Term v.sort) (info S v.number) e in free v.number i.0 t i.2 i.1 (sym (ap value_in i.1) ∙ value_as_of S (Term v.sort) v.number t f)
  value-free (H.Region (R.Var n)) t e f = let i = has_info (L n) Region (info S n) e in free n i.0 t i.2 i.1 (sym (ap value_in i.1) ∙ value_as_of S Region n t f)
  value-free _ t e f = cc

  pub resolved-free : (ts : Forest) → holds (is_strange S L) ts ≡ false → holds is_param ts ≡ false → holds is_param (resolved S ts) ≡ false
  resolved-free ts k n = fold_marked (λ d t. value_at S t.head) (is_strange S L) is_param is_param (λ d t a b e. b) (λ d t u a b e. value-free t.head u a e) 0 ts k n

  root-free : (t : Tree) → holds (is_strange S L) (alone t) ≡ false → holds is_param (alone t) ≡ false → holds is_param (alone (resolved_root S t)) ≡ false
  root-free t k n = at (root_value S t.head) refl
    where
      at : (o : Option Tree) → root_value S t.head ≡ o → holds is_param (alone (unwrap_or o t)) ≡ false
      at None e = n
      at (Some x) e = value-free t.head x (holds_parts (is_strange S L) t.head t.children none k).here (root_at S t.head x e)

  pub current-free : (t : Tree) → holds (is_strange S L) (alone t) ≡ false → holds is_param (alone t) ≡ false → holds is_param (alone (current l S t)) ≡ false
  current-free t k n = at (current l S t) (which_listed l S (resolved_root S t))
    where
      at : (x : Tree) → WhichListed l S (resolved_root S t) x → holds is_param (alone x) ≡ false
      at _ (is_type u a e) = (listed_fixed l listing (resolved_tree S (resolved_root S t)) u e).no_parameter
      at _ itself = root-free t k n

  pub value-for-free : (us : Scope) → All (λ u. u ≤ S.newest_universe) us → (t : Tree) → holds (is_strange S L) (alone t) ≡ false → holds is_param (alone t) ≡ false
      → holds is_param (alone (value_for l S us t)) ≡ false
  value-for-free us universes t k n = value_marked l listing S L sound is_param us (λ u i h. refl) (λ x u e. (listed_fixed l listing x u e).no_parameter) universes t (resolved-free (alone t) k n)

-- Two trees meet

module _ (l : Listing) (listing : IsListing l) (L : Live) (S : State) (us : Scope) (h g : Head) (a r b s : Forest) (more : List Pair)
    (st : Stands S L (record { scope = us; left = tree h a r; right = tree g b s } ∷ more)) (before : Type 0)
    (fr : AreFree before S L (record { scope = us; left = tree h a r; right = tree g b s } ∷ more)) where
  abbrev pair : Pair
  pair = record { scope = us; left = tree h a r; right = tree g b s }

  abbrev others : List Pair
  others = record { scope = us; left = r; right = s } ∷ more

  abbrev x : Tree
  x = current l S (record { head = h; children = a })

  abbrev y : Tree
  y = current l S (record { head = g; children = b })

  here : IsFree pair
  here = All-head IsFree pair more fr.pairs

  first-free : (h : Head) (a r : Forest) → holds is_param (tree h a r) ≡ false → holds is_param (alone (record { head = h; children = a })) ≡ false
  first-free h a r n = let p = holds_parts is_param h a r n in whole is_param h a none p.here p.under refl

  x-free : holds is_param (alone x) ≡ false
  x-free = current-free l listing S L st.sound fr.values (record { head = h; children = a }) (left_known l listing L S us h g a r b s more st) (first-free h a r here.left)

  y-free : holds is_param (alone y) ≡ false
  y-free = current-free l listing S L st.sound fr.values (record { head = g; children = b }) (right_known l listing L S us h g a r b s more st) (first-free g b s here.right)

  others-free : All IsFree others
  others-free =
      All-cons IsFree (record { scope = us; left = r; right = s }) more
      (record { left = (holds_parts is_param h a r here.left).others; right = (holds_parts is_param g b s here.right).others }) (All-tail IsFree pair more fr.pairs)

  regions-free : AreFree before (with_equal_regions S (placed_tree us x) (placed_tree us y)) L others
  regions-free =
      let p = placed_tree us x in
      let q = placed_tree us y in
      record {
        pairs = others-free;
        values = values_same S (with_equal_regions S p q) L (regions_variables S p q) fr.values;
        regions = λ none_yet. equal-regions-free S p q (placed-free us x x-free) (placed-free us y y-free) (fr.regions none_yet);
      }

  bound-free : (v : Variable) (t : Tree) → holds is_param (alone t) ≡ false → AreFree before (bound S v t) L others
  bound-free v t n = record { pairs = others-free; values = values_bound S L v t n fr.values; regions = fr.regions }

  universes : All (λ u. u ≤ S.newest_universe) us
  universes = (All-head (PairStands S L) pair more st.pairs).universes

  enters-free : AreFree before (entered S x.head x.children) L (record { scope = scope_below S us x.head x.children; left = x.children; right = y.children } ∷ others)
  enters-free =
      let p : Pair = record { scope = scope_below S us x.head x.children; left = x.children; right = y.children } in
      record {
        pairs = All-cons IsFree p others (record { left = (holds_parts is_param x.head x.children none x-free).under; right = (holds_parts is_param y.head y.children none y-free).under }) others-free;
        values = values_same S (entered S x.head x.children) L (entered_variables S x.head x.children) fr.values;
        regions = λ none_yet. entered-free S x.head x.children (fr.regions none_yet);
      }

  pub met-free : (T : State) (rest : List Pair) → met l S us x y others ≡ Left T rest → AreFree before T L rest
  met-free T rest e =
      meets l S us x y others (λ T rest. AreFree before T L rest)
      (λ v i m. bound-free v (value_for l S us y) (value-for-free l listing S L st.sound fr.values us universes y (y_known l listing L S us h g a r b s more st) y-free))
      (λ v i m. bound-free v (value_for l S us x) (value-for-free l listing S L st.sound fr.values us universes x (x_known l listing L S us h g a r b s more st) x-free))
      (λ n. regions-free)
      (λ n i. enters-free) T rest e

module _ (l : Listing) (listing : IsListing l) (L : Live) (before : Type 0) where
  visited-free : (S T : State) (ps rest : List Pair) → Stands S L ps → AreFree before S L ps → visited l S ps ≡ Left T rest → AreFree before T L rest
  visited-free S T [] rest st fr e = cc
  visited-free S T (p ∷ more) rest st fr e = rows p.left p.right st fr e
    where
      rows : (a b : Forest) → Stands S L (record { scope = p.scope; left = a; right = b } ∷ more) → AreFree before S L (record { scope = p.scope; left = a; right = b } ∷ more)
          → visited l S (record { scope = p.scope; left = a; right = b } ∷ more) ≡ Left T rest → AreFree before T L rest
      rows none none st fr e = same_left (λ T rest. AreFree before T L rest) S T more rest e (record { pairs = All-tail IsFree (record { scope = p.scope; left = none; right = none }) more fr.pairs; values = fr.values; regions = fr.regions })
      rows none (tree g b s) st fr e = cc
      rows (tree h a r) none st fr e = cc
      rows (tree h a r) (tree g b s) st fr e = met-free l listing L S p.scope h g a r b s more st before fr T rest e

  looked-free : (n : ℕ) (S T : State) (ps : List Pair) → Stands S L ps → AreFree before S L ps → looked l n S ps ≡ Some T → LeavesFree before T L
  looked-free zero S T ps st fr e = cc
  looked-free (suc n) S T ps st fr e = at (visited l S ps) refl (λ R rest stands fr e. looked-free n R T rest stands fr e) e
    where
      at : (w : Visit) → visited l S ps ≡ w → ((R : State) (rest : List Pair) → Stands R L rest → AreFree before R L rest → looked l n R rest ≡ Some T → LeavesFree before T L)
          → elim w [ Done ↦ Some S | Refused ↦ None | Left R more ↦ looked l n R more ] ≡ Some T → LeavesFree before T L
      at Done f ih e = subst (λ (R : State). LeavesFree before R L) (let is : S ≡ T = cc in is) (record { values = fr.values; regions = fr.regions })
      at Refused f ih e = cc
      at (Left R rest) f ih e = ih R rest (visited_stands l listing L S R ps rest st f) (visited-free S R ps rest st fr f) e

-- An equation of sides without parameters leaves none in values; nor in recorded regions, where none was there.
pub equated-free : (l : Listing) → IsListing l → (S T : State) (L : Live) (before : Type 0) (a b : Forest) → IsSound S L → ValuesFit S L → AreTreesOf S L a → AreTreesOf S L b
    → HasNoParameter S L → (before → RegionsHaveNoParameter S) → holds is_param a ≡ false → holds is_param b ≡ false → equated l S a b ≡ Some T → LeavesFree before T L
equated-free l listing S T L before a b sound fits left right free recorded m n e =
    let p : Pair = record { scope = []; left = a; right = b } in
    looked-free l listing L before (looks l S (p ∷ [])) S T (p ∷ []) (start_stands S L a b sound fits left right)
    (record { pairs = All-cons IsFree p [] (record { left = m; right = n }) (All-nil IsFree); values = free; regions = recorded }) e
