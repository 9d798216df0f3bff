-- Arguments for parameters, and fresh variables that a substitution maps to them: trees with the variables in the place of their parameters
-- become the trees with the arguments.
use Rattle.std.proofs.Common.{◌≡◌, ◌+◌, ◌<◌, ℕ, zero, suc, Bool, true, false, not, ◌&&◌, List, [], ◌∷◌, length, map, slice_get, Some, refl, sym, ap, subst, ◌∙◌, arith, nat_lt, if◌then◌else◌}
use Rattle.std.specs.Option.{unwrap_or}
use Rattle.std.proofs.lemmas.Bool.{eq-eqb}
use Rattle.std.proofs.lemmas.List.{length-append}
use Rattle.ir_trees.specs.declared.ir.heads.ConstHead.{ConstHead}
use Rattle.ir_trees.specs.declared.ir.heads.ConstHead.TheVariants as C
use Rattle.ir_trees.specs.declared.ir.heads.Head.{Head}
use Rattle.ir_trees.specs.declared.ir.heads.Head.TheVariants as H
use Rattle.ir_trees.specs.declared.ir.heads.Variable.{Variable}
use Rattle.ir_trees.specs.declared.ir.heads.VariableSort.{VariableSort}
use Rattle.ir_trees.specs.declared.ir.heads.VariableSort.TheVariants as V
use Rattle.ir_trees.specs.declared.ir.kinds.VarKind.{VarKind}
use Rattle.ir_trees.specs.declared.ir.kinds.VarKind.TheVariants as P
use Rattle.ir_trees.specs.Syntax.Binders.{escapes}
use Rattle.ir_trees.specs.Declarations.Context.{parameter_kind}
use Rattle.ir_trees.specs.Declarations.Worlds.{kinds_of}
use Rattle.ir_trees.specs.Instantiation.Folding.{argument, lacks_argument, put, shift_tree, substituted}
use Rattle.ir_trees.specs.Unification.Substitutions.{IsAllowed, IsAllowedBinding, Substitution, Universes, alone, apply, fits_sort, is_constant_kind, is_made, is_placeholder_above, lookup, same_variable}
use Rattle.ir_trees.specs.Syntax.Trees.{ConstantKind, Forest, Kind, RegionKind, TypeKind, none, tree, Tree, binders_of, count, erase, erased_head, holds, is_type, is_type_kind, kind_of}
use Rattle.ir_trees.proofs.Instantiation.Folding.{same_row}
use Rattle.candidate_eval.specs.declared.eval.variable.VariableKind.{VariableKind}
use Rattle.candidate_eval.specs.declared.eval.variable.VariableKind.TheVariants.{Term, Region}
use Rattle.candidate_eval.specs.Judges.States.{State, fresh_info, fresh_variables, variable, variable_kind, with_fresh}
use Rattle.candidate_eval.proofs.Marks.Closed.{Parts as ClosedParts, closed, closed-parts, closed-shift}
use Rattle.candidate_eval.proofs.Marks.Holds.{Parts as FreeParts, holds_parts}
use Rattle.candidate_eval.proofs.Marks.Marking.{unmarked}
use Rattle.candidate_assembly.proofs.Refusals.KnownInstances.{instance_of, same_sort_itself, same_variable_is}

-- One of a row.

argument-closed : (F : Forest) (i : ℕ) → escapes 0 F ≡ false → escapes 0 (alone (argument F i)) ≡ false
argument-closed none i e = refl
argument-closed (tree h below rest) zero e = let p = closed-parts 0 h below rest e in closed 0 h below none p.here p.under refl
argument-closed (tree h below rest) (suc i) e = argument-closed rest i (closed-parts 0 h below rest e).others

-- No region is to stand in its place, since no parameter of a region is replaced.
abbrev pub IsNoRegion : Forest → ℕ → Type 0
IsNoRegion F i = kind_of (argument F i).head ≡ RegionKind → ⊥

second-holds : (a b : Bool) → not (a && b) ≡ false → b ≡ true
second-holds true true e = refl
second-holds true false e = absurd cc
second-holds false b e = absurd cc

type-no-region : (k : Kind) → is_type_kind k ≡ true → k ≡ RegionKind → ⊥
type-no-region TypeKind e r = cc
type-no-region _ e r = cc

constant-no-region : (k : Kind) → is_constant_kind k ≡ true → k ≡ RegionKind → ⊥
constant-no-region ConstantKind e r = cc
constant-no-region _ e r = cc

-- An instance of trees with one row put in are the trees with the other, if what is in the second are the instances of what is in the first.
module _ (s : Substitution) (V F : Forest) (v-closed : escapes 0 V ≡ false) (f-closed : escapes 0 F ≡ false)
    (same : (i : ℕ) → IsNoRegion F i → instance_of s (argument V i) ≡ argument F i) where
  put-same : (d i : ℕ) → IsNoRegion F i → instance_of s (shift_tree d (argument V i)) ≡ shift_tree d (argument F i)
  put-same d i n =
      ap (instance_of s) (closed-shift d (argument V i) (argument-closed V i v-closed)) ∙ (same i n ∙ sym (closed-shift d (argument F i) (argument-closed F i f-closed)))

  node-same : (d : ℕ) (h : Head) → is_made h ≡ false → lacks_argument F h ≡ false → (a b : Forest) → apply s a ≡ b
      → instance_of s (unwrap_or (put V d h) (record { head = h; children = a })) ≡ unwrap_or (put F d h) (record { head = h; children = b })
  node-same d (H.Infer v) m l a b e = absurd cc
  node-same d (H.Param i) m l a b e =
      put-same d i (type-no-region (kind_of (argument F i).head) (second-holds (nat_lt i (count F)) (is_type (argument F i).head) l))
  node-same d (H.Const c) m l a b e = at c l
    where
      at : (c : ConstHead) → lacks_argument F (H.Const c) ≡ false
          → instance_of s (unwrap_or (put V d (H.Const c)) (record { head = H.Const c; children = a })) ≡ unwrap_or (put F d (H.Const c)) (record { head = H.Const c; children = b })
      at (C.Param i) l =
          put-same d i (constant-no-region (kind_of (argument F i).head) (second-holds (nat_lt i (count F)) (is_constant_kind (kind_of (argument F i).head)) l))
      at c l = ap (λ x. let t : Tree = record { head = H.Const c; children = x } in t) e
  node-same d h m l a b e = ap (λ x. let t : Tree = record { head = h; children = x } in t) e

  pub instance-filled : (d : ℕ) (ts : Forest) → holds is_made ts ≡ false → holds (lacks_argument F) ts ≡ false → apply s (substituted V d ts) ≡ substituted F d ts
  instance-filled d none m l = refl
  instance-filled d (tree h below rest) m l =
      let p = holds_parts is_made h below rest m in
      let q = holds_parts (lacks_argument F) h below rest l in
      let under = substituted V (d + binders_of h) below in
      let becomes = substituted F (d + binders_of h) below in
      same_row (instance_of s (unwrap_or (put V d h) (record { head = h; children = under }))) (unwrap_or (put F d h) (record { head = h; children = becomes }))
      (apply s (substituted V d rest)) (substituted F d rest)
      (node-same d h p.here q.here under becomes (instance-filled (d + binders_of h) below p.under q.under)) (instance-filled d rest p.others q.others)

-- The variables from a number on, mapped to the trees of a row; a region's variable stays.

abbrev pub with_binding : VariableKind → ℕ → Tree → Substitution → Substitution
with_binding (Term z) n t rest = record { variable = record { sort = z; number = n }; value = t } ∷ rest
with_binding Region n t rest = rest

abbrev pub mapping : ℕ → Forest → Substitution
mapping n none = []
mapping n (tree h below rest) = with_binding (variable_kind (kind_of h)) n (record { head = h; children = below }) (mapping (suc n) rest)

other-number : (z : VariableSort) (n : ℕ) (v : Variable) → (v.number ≡ n → ⊥) → same_variable (record { sort = z; number = n }) v ≡ false
other-number z n v d = at (same_variable (record { sort = z; number = n }) v) refl
  where
    at : (x : Bool) → same_variable (record { sort = z; number = n }) v ≡ x → x ≡ false
    at false e = refl
    at true e = absurd (d (sym (ap (λ (w : Variable). w.number) (same_variable_is (record { sort = z; number = n }) v e))))

own-number : (z : VariableSort) (n m : ℕ) → n ≡ m → same_variable (record { sort = z; number = n }) (record { sort = z; number = m }) ≡ true
own-number z n m e = rw (eq-eqb n m e, same_sort_itself z) refl

passed-over : (w : VariableKind) (n : ℕ) (t : Tree) (rest : Substitution) (v : Variable) (o : Tree) → (v.number ≡ n → ⊥) → lookup (with_binding w n t rest) v o ≡ lookup rest v o
passed-over Region n t rest v o d = refl
passed-over (Term z) n t rest v o d = ap (λ x. if x then t else lookup rest v o) (other-number z n v d)

no-more : (n : ℕ) → n ≡ n + 0
no-more n = omega arith

one-more : (n j : ℕ) → n + suc j ≡ suc n + j
one-more n j = omega arith

differs : (n j : ℕ) → n + suc j ≡ n → ⊥
differs n j e = omega (arith, e)

-- it holds of the variable with a place's number what stands in the place
abbrev Gives : Substitution → ℕ → Forest → Type 0
Gives s n F =
    (j : ℕ) (z : VariableSort) (o : Tree) → j < count F → variable_kind (kind_of (argument F j).head) ≡ Term z
    → lookup s (record { sort = z; number = n + j }) o ≡ argument F j

mapping-gives : (n : ℕ) (F : Forest) → Gives (mapping n F) n F
mapping-gives n none j z o l e = absurd (omega (arith, l))
mapping-gives n (tree h below rest) zero z o l e =
    let t : Tree = record { head = h; children = below } in
    let others = mapping (suc n) rest in
    let v : Variable = record { sort = z; number = n + 0 } in
    ap (λ w. lookup (with_binding w n t others) v o) e ∙ ap (λ x. if x then t else lookup others v o) (own-number z n (n + 0) (no-more n))
mapping-gives n (tree h below rest) (suc j) z o l e =
    let t : Tree = record { head = h; children = below } in
    let others = mapping (suc n) rest in
    passed-over (variable_kind (kind_of h)) n t others (record { sort = z; number = n + suc j }) o (differs n j)
    ∙ (ap (λ m. lookup others (record { sort = z; number = m }) o) (one-more n j) ∙ mapping-gives (suc n) rest j z o (omega (arith, l)) e)

region-kind : (k : Kind) → variable_kind k ≡ Region → k ≡ RegionKind
region-kind RegionKind e = refl
region-kind _ e = absurd cc

-- so fresh variables become what stands in their places
gives-arguments : (s : Substitution) (S : State) (ks : List Kind) (F : Forest) → kinds_of F ≡ ks → Gives s (length S.variables) F → (i : ℕ) → IsNoRegion F i
    → instance_of s (argument (fresh_variables S ks) i) ≡ argument F i
gives-arguments s S [] none e g i n = refl
gives-arguments s S [] (tree h below rest) e g i n = absurd cc
gives-arguments s S (k ∷ ks) none e g i n = absurd cc
gives-arguments s S (k ∷ ks) (tree h below rest) e g zero n = at (variable_kind k) refl
  where
    N : ℕ
    N = length S.variables

    here : kind_of h ≡ k
    here = cc

    at : (w : VariableKind) → variable_kind k ≡ w → instance_of s (variable (variable_kind k) N) ≡ record { head = h; children = below }
    at (Term z) q =
        let o : Tree = variable (Term z) N in
        ap (λ w. instance_of s (variable w N)) q
        ∙ (ap (λ m. lookup s (record { sort = z; number = m }) o) (no-more N) ∙ g 0 z o (omega arith) (ap variable_kind here ∙ q))
    at Region q = absurd (n (here ∙ region-kind k q))
gives-arguments s S (k ∷ ks) (tree h below rest) e g (suc i) n = gives-arguments s U ks rest others gives i n
  where
    U : State
    U = with_fresh S (variable_kind k)

    others : kinds_of rest ≡ ks
    others = cc

    later : (n m j : ℕ) → m ≡ n + 1 → m + j ≡ n + suc j
    later n m j e = omega (arith, e)

    gives : Gives s (length U.variables) rest
    gives j z o l q =
        let same = later (length S.variables) (length U.variables) j (length-append S.variables (fresh_info S (variable_kind k) ∷ [])) in
        ap (λ m. lookup s (record { sort = z; number = m }) o) same ∙ g (suc j) z o (omega (arith, l)) q

pub mapping-arguments : (S : State) (ks : List Kind) (F : Forest) → kinds_of F ≡ ks → (i : ℕ) → IsNoRegion F i
    → instance_of (mapping (length S.variables) F) (argument (fresh_variables S ks) i) ≡ argument F i
mapping-arguments S ks F e i n = gives-arguments (mapping (length S.variables) F) S ks F e (mapping-gives (length S.variables) F) i n

-- It is allowed, where each tree is of its parameter's kind.

with-allowed : (u : Universes) (w : VariableKind) (n : ℕ) (t : Tree) (rest : Substitution)
    → ((z : VariableSort) → w ≡ Term z → IsAllowedBinding u (record { variable = record { sort = z; number = n }; value = t })) → IsAllowed u rest → IsAllowed u (with_binding w n t rest)
with-allowed u (Term z) n t rest one others = (one z refl, others)
with-allowed u Region n t rest one others = others

kind-fits : (p : VarKind) (h : Head) (z : VariableSort) → kind_of h ≡ parameter_kind p → variable_kind (kind_of h) ≡ Term z → fits_sort z h ≡ true
kind-fits P.Ty h z k e =
    let whole : Term V.General ≡ Term z = sym (ap variable_kind k) ∙ e in
    let sort : V.General ≡ z = cc in
    subst (λ y. fits_sort y h ≡ true) sort (ap is_type_kind k)
kind-fits P.Const h z k e =
    let whole : Term V.Constant ≡ Term z = sym (ap variable_kind k) ∙ e in
    let sort : V.Constant ≡ z = cc in
    subst (λ y. fits_sort y h ≡ true) sort (ap is_constant_kind k)
kind-fits P.Region h z k e = let whole : Region ≡ Term z = sym (ap variable_kind k) ∙ e in absurd cc

-- the fresh variables for parameters of these kinds, from a number on, are of that universe
abbrev pub AreIn : Universes → ℕ → ℕ → List Kind → Type 0
AreIn universe u n ks = (j : ℕ) (k : Kind) (z : VariableSort) → slice_get ks j ≡ Some k → universe (record { sort = z; number = n + j }) ≡ u

pub mapping-allowed : (universe : Universes) (u n : ℕ) (ps : List VarKind) (F : Forest) → kinds_of F ≡ map parameter_kind ps → escapes 0 F ≡ false
    → holds (is_placeholder_above u) (erase F) ≡ false → AreIn universe u n (map parameter_kind ps) → IsAllowed universe (mapping n F)
mapping-allowed universe u n ps none e c l at = tt
mapping-allowed universe u n [] (tree h below rest) e c l at = absurd cc
mapping-allowed universe u n (p ∷ ps) (tree h below rest) e c l at =
    with-allowed universe (variable_kind (kind_of h)) n (record { head = h; children = below }) (mapping (suc n) rest) one
    (mapping-allowed universe u (suc n) ps rest others parts.others low.others
    (λ j k z q. ap (λ m. universe (record { sort = z; number = m })) (sym (one-more n j)) ∙ at (suc j) k z q))
  where
    here : kind_of h ≡ parameter_kind p
    here = cc

    others : kinds_of rest ≡ map parameter_kind ps
    others = cc

    parts : ClosedParts 0 h below rest
    parts = closed-parts 0 h below rest c

    low : FreeParts (is_placeholder_above u) (erased_head h) (erase below) (erase rest)
    low = holds_parts (is_placeholder_above u) (erased_head h) (erase below) (erase rest) l

    one : (z : VariableSort) → variable_kind (kind_of h) ≡ Term z
        → IsAllowedBinding universe (record { variable = record { sort = z; number = n }; value = record { head = h; children = below } })
    one z q =
        let level : universe (record { sort = z; number = n }) ≡ u = ap (λ m. universe (record { sort = z; number = m })) (no-more n) ∙ at 0 (parameter_kind p) z refl in
        record {
          fits = kind-fits p h z here q;
          is_closed = closed 0 h below none parts.here parts.under refl;
          in_universe = subst (λ x. holds (is_placeholder_above x) (erase (tree h below none)) ≡ false) (sym level)
              (unmarked (is_placeholder_above u) (erased_head h) (erase below) none low.here low.under refl);
        }
