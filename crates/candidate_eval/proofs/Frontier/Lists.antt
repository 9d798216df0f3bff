-- A walk over a list, as what is left of it.
use Rattle.std.proofs.Common.{◌≡◌, ◌+◌, ◌<◌, ℕ, Bool, true, false, List, [], ◌++◌, length, get_or, Some, None, refl, sym, ◌∙◌, ap, append_assoc, if◌then◌else◌}
use Rattle.std.proofs.lemmas.List.{append-nil}
use Rattle.ir_trees.specs.declared.ir.kinds.Ty.{Ty}
use Rattle.ir_trees.specs.declared.ir.kinds.GenericArg.{GenericArg}
use Rattle.ir_trees.specs.declared.ir.kinds.GenericArg.TheVariants as A
use Rattle.ir_trees.specs.Syntax.Kinds.{arg_number, arg_kind}
use Rattle.ir_trees.specs.Syntax.Nodes.{tree_at, kind_at}
use Rattle.ir_trees.specs.Syntax.Trees.{TypeKind, ConstantKind, RegionKind, Forest, none, tree, Tree, is_type, is_type_kind, skip}
use Rattle.ir_trees.specs.Syntax.Words.{ListFits, list_forest, IsTy, ty_tree}
use Rattle.ir_trees.proofs.Syntax.Members.{member-kind, skip-member}
use Rattle.ir_trees.proofs.Syntax.Rows.{kind-of}
use Rattle.candidate_eval.specs.declared.coherence.walk.Walk.{Walk}
use Rattle.candidate_eval.specs.Knowability.Orphan.{View, Step, Class, Entry, entries, first_step, left}
use Rattle.candidate_eval.specs.Calls.Walk.{Setting, classes, type_steps, list_steps, deciding, still, entries_of, Passed, Found}
use Rattle.candidate_eval.proofs.Frontier.Steps.{first-append, found-append, entries-append, left-append, still-some}

-- Walking over all from the begin is walking over the rest from here.
pub record Sofar {S E : Type 0} (p : Setting) (see : View S E) (n : ℕ) (ts : List Tree) (old now : Walk) (start s : S) (all rest : Forest) : Type 0 where
  pub decision : first_step (deciding old.seeks_local) (classes p) (list_steps p see n start all) ≡ first_step (deciding old.seeks_local) (classes p) (list_steps p see n s rest)
  pub leaves : left start (list_steps p see n start all) ≡ left s (list_steps p see n s rest)
  pub recorded : entries_of ts old.non_local.items ++ entries old.is_first (classes p) (list_steps p see n start all)
      ≡ entries_of ts now.non_local.items ++ entries now.is_first (classes p) (list_steps p see n s rest)

module _ {S E : Type 0} (p : Setting) (see : View S E) (n : ℕ) where
  pub sofar-begin : (ts : List Tree) (old : Walk) (s : S) (all : Forest) → Sofar p see n ts old old s s all all
  sofar-begin ts old s all = record { decision = refl; leaves = refl; recorded = refl }

  -- nothing is left
  pub sofar-end : (ts : List Tree) (old now : Walk) (start s : S) (all rest : Forest) → rest ≡ none → Sofar p see n ts old now start s all rest
      → Passed ts (classes p) old now start s (list_steps p see n start all)
  sofar-end ts old now start s all rest e f =
      let l : list_steps p see n s rest ≡ [] = ap (list_steps p see n s) e in
      record {
        none = f.decision ∙ ap (first_step (deciding old.seeks_local) (classes p)) l;
        leaves = f.leaves ∙ ap (left s) l;
        recorded = sym (f.recorded ∙ (ap (λ (xs : List (Step S E)). entries_of ts now.non_local.items ++ entries now.is_first (classes p) xs) l ∙ append-nil (entries_of ts now.non_local.items)));
      }

  -- what is no type is passed over
  skipped : (s : S) (t : Tree) (rest : Forest) → is_type t.head ≡ false → list_steps p see n s (tree t.head t.children rest) ≡ list_steps p see n s rest
  skipped s t rest e =
      ap (λ (b : Bool). if b then type_steps p see n s t ++ list_steps p see n (left s (type_steps p see n s t)) rest else list_steps p see n s rest) e

  visited : (s : S) (t : Tree) (rest : Forest) → is_type t.head ≡ true
      → list_steps p see n s (tree t.head t.children rest) ≡ type_steps p see n s t ++ list_steps p see n (left s (type_steps p see n s t)) rest
  visited s t rest e =
      ap (λ (b : Bool). if b then type_steps p see n s t ++ list_steps p see n (left s (type_steps p see n s t)) rest else list_steps p see n s rest) e

  pub sofar-skip : (ts : List Tree) (old now : Walk) (start s : S) (all rest others : Forest) (t : Tree) → rest ≡ tree t.head t.children others
      → is_type t.head ≡ false → Sofar p see n ts old now start s all rest → Sofar p see n ts old now start s all others
  sofar-skip ts old now start s all rest others t e h f =
      let l : list_steps p see n s rest ≡ list_steps p see n s others = ap (list_steps p see n s) e ∙ skipped s t others h in
      record {
        decision = f.decision ∙ ap (first_step (deciding old.seeks_local) (classes p)) l;
        leaves = f.leaves ∙ ap (left s) l;
        recorded = f.recorded ∙ ap (λ (xs : List (Step S E)). entries_of ts now.non_local.items ++ entries now.is_first (classes p) xs) l;
      }

  -- a type was visited, and the context has grown
  pub sofar-visit : (ts us : List Tree) (old now next : Walk) (start s after : S) (all rest others : Forest) (t : Tree)
      → rest ≡ tree t.head t.children others → is_type t.head ≡ true
      → entries_of us old.non_local.items ≡ entries_of ts old.non_local.items → entries_of us now.non_local.items ≡ entries_of ts now.non_local.items
      → now.seeks_local ≡ old.seeks_local → next.is_first ≡ false → still true (type_steps p see n s t) ≡ false
      → Passed us (classes p) now next s after (type_steps p see n s t)
      → Sofar p see n ts old now start s all rest → Sofar p see n us old next start after all others
  sofar-visit ts us old now next start s after all rest others t e h k1 k2 seeks first some f so =
      let xs = type_steps p see n s t in
      let after-is : left s xs ≡ after = f.leaves in
      let ys = list_steps p see n after others in
      let l : list_steps p see n s rest ≡ xs ++ ys =
      ap (list_steps p see n s) e ∙ (visited s t others h ∙ ap (λ (x : S). xs ++ list_steps p see n x others) after-is) in
      let none-of : first_step (deciding old.seeks_local) (classes p) xs ≡ None =
      ap (λ (b : Bool). first_step (deciding b) (classes p) xs) (sym seeks) ∙ f.none in
      record {
        decision = so.decision ∙ (ap (first_step (deciding old.seeks_local) (classes p)) l ∙ first-append (deciding old.seeks_local) (classes p) xs ys none-of);
        leaves = so.leaves ∙ (ap (left s) l ∙ (left-append s xs ys ∙ ap (λ (x : S). left x ys) after-is));
        recorded =
            ap (λ (es : List Entry). es ++ entries old.is_first (classes p) (list_steps p see n start all)) k1
            ∙ (so.recorded
            ∙ (ap (λ (zs : List (Step S E)). entries_of ts now.non_local.items ++ entries now.is_first (classes p) zs) l
            ∙ (ap (λ (es : List Entry). entries_of ts now.non_local.items ++ es) (entries-append (deciding old.seeks_local) (classes p) now.is_first xs ys)
            ∙ (sym (append_assoc (entries_of ts now.non_local.items) (entries now.is_first (classes p) xs) (entries (still now.is_first xs) (classes p) ys))
            ∙ (ap (λ (es : List Entry). (es ++ entries now.is_first (classes p) xs) ++ entries (still now.is_first xs) (classes p) ys) (sym k2)
            ∙ (ap (λ (es : List Entry). es ++ entries (still now.is_first xs) (classes p) ys) (sym f.recorded)
            ∙ ap (λ (b : Bool). entries_of us next.non_local.items ++ entries b (classes p) ys) (still-some now.is_first xs some ∙ sym first)))))));
      }

  -- a type broke the walk off
  pub sofar-found : (ts : List Tree) (old now : Walk) (start s after : S) (all rest others : Forest) (t : Tree) (c : Class E)
      → rest ≡ tree t.head t.children others → is_type t.head ≡ true → now.seeks_local ≡ old.seeks_local
      → Found (classes p) now.seeks_local (type_steps p see n s t) c after
      → Sofar p see n ts old now start s all rest
      → Found (classes p) old.seeks_local (list_steps p see n start all) c after
  sofar-found ts old now start s after all rest others t c e h seeks f so =
      let xs = type_steps p see n s t in
      let ys = list_steps p see n (left s xs) others in
      let l : list_steps p see n s rest ≡ xs ++ ys = ap (list_steps p see n s) e ∙ visited s t others h in
      let is : first_step (deciding old.seeks_local) (classes p) xs ≡ Some f.step =
      ap (λ (b : Bool). first_step (deciding b) (classes p) xs) (sym seeks) ∙ f.is in
      record {
        step = f.step;
        is = so.decision ∙ (ap (first_step (deciding old.seeks_local) (classes p)) l ∙ found-append (deciding old.seeks_local) (classes p) xs ys f.step is);
        class_is = f.class_is;
        leaves = f.leaves;
      }

-- what stands at number i of a list
pub member-at : (ts : List Tree) (xs : List GenericArg) (i : ℕ) (d : GenericArg) (f : Forest) → list_forest ts xs ≡ f → ListFits ts xs → i < length xs
    → skip i f ≡ tree (tree_at ts (arg_number (get_or xs i d))).head (tree_at ts (arg_number (get_or xs i d))).children (skip (i + 1) f)
member-at ts xs i d f e l h =
    let t = tree_at ts (arg_number (get_or xs i d)) in
    ap (skip i) (sym e) ∙ (skip-member ts xs i d l h ∙ ap (λ (x : Forest). tree t.head t.children (skip (i + 1) x)) e)

-- which it is
pub type-at : (ts : List Tree) (xs : List GenericArg) (i : ℕ) (d : GenericArg) (u : Ty) → ListFits ts xs → i < length xs → get_or xs i d ≡ A.Ty u
    → IsTy ts u × (tree_at ts (arg_number (get_or xs i d)) ≡ ty_tree ts u) × (is_type (ty_tree ts u).head ≡ true)
type-at ts xs i d u l h e =
    let k : kind_at ts u.0 ≡ TypeKind = ap (λ (x : GenericArg). kind_at ts (arg_number x)) (sym e) ∙ (member-kind ts xs i d l h ∙ ap arg_kind e) in
    (k, ap (λ (x : GenericArg). tree_at ts (arg_number x)) e, ap is_type_kind (kind-of ts u.0 TypeKind refl k))

no-type-of : (ts : List Tree) (x : GenericArg) → kind_at ts (arg_number x) ≡ arg_kind x → ((u : Ty) → x ≡ A.Ty u → ⊥)
    → is_type (tree_at ts (arg_number x)).head ≡ false
no-type-of ts (A.Ty u) k n = absurd (n u refl)
no-type-of ts (A.Const u) k n = ap is_type_kind (kind-of ts u.0 ConstantKind refl k)
no-type-of ts (A.Region u) k n = ap is_type_kind (kind-of ts u.0 RegionKind refl k)

pub no-type-at : (ts : List Tree) (xs : List GenericArg) (i : ℕ) (d : GenericArg) → ListFits ts xs → i < length xs
    → ((u : Ty) → get_or xs i d ≡ A.Ty u → ⊥) → is_type (tree_at ts (arg_number (get_or xs i d))).head ≡ false
no-type-at ts xs i d l h n = no-type-of ts (get_or xs i d) (member-kind ts xs i d l h) n
