-- References that are made of types.
use Rattle.std.proofs.Common.{◌≡◌, ℕ, zero, suc, Option, Some, None, true, false, ◌+◌, ◌<◌, ◌≤◌, get_or, take, List, [], ◌∷◌, ◌++◌, length, ◌⊎◌, inl, inr, refl, sym, ◌∙◌, ap, subst, arith}
use Rattle.std.specs.Prelude.{map, option_map, slice_get, Result, Ok, Err, IfErr}
use Rattle.candidate_eval.specs.declared.eval.refusal.NoSolutionOrStop.{NoSolutionOrStop}
use Rattle.candidate_eval.specs.declared.eval.refusal.NoSolutionOrStop.TheVariants as N
use Rattle.std.proofs.lemmas.List.{map_push, map_more, take_all, append-nil}
use Rattle.std.proofs.lemmas.Option.{slice_get-get_or, slice_get-map}
use Rattle.ir_trees.specs.Validity.WellFormed.{TypesFit}
use Rattle.candidate_eval.specs.Builtins.Tables.{Cell, Excluded, Refused, Asks, row_of, IsTypesStop}
use Rattle.candidate_eval.specs.declared.structural.asked.Asked.{Asked}
use Rattle.candidate_eval.specs.Builtins.Asked as made
use Rattle.candidate_eval.specs.Builtins.Asked.{asked_cell, asked_types}
use Rattle.candidate_eval.proofs.Builtins.Cells.{refused_cell, not-refused}
use Rattle.candidate_eval.proofs.Builtins.Types.{ty_at}
use Rattle.ir_trees.specs.declared.ir.kinds.Args.{Args}
use Rattle.ir_trees.specs.declared.ir.kinds.GenericArg.TheVariants as G
use Rattle.ir_trees.specs.declared.ir.kinds.TraitId.{TraitId}
use Rattle.ir_trees.specs.declared.ir.kinds.TraitRef.{TraitRef}
use Rattle.ir_trees.specs.declared.ir.kinds.Ty.{Ty}
use Rattle.ir_trees.specs.declared.ir.stop.Stop.{Stop}
use Rattle.ir_trees.specs.declared.ir.stop.Stop.TheVariants.{Memory}
use Rattle.ir_trees.specs.Declarations.Context.{Context, Grows}
use Rattle.ir_trees.specs.Instantiation.Folding.{IsSubstStop, few_numbers, high_tree}
use Rattle.ir_trees.specs.Declarations.References.{reference_of}
use Rattle.ir_trees.specs.Unification.Substitutions.{alone}
use Rattle.ir_trees.specs.Syntax.Trees.{TypeKind, Forest, none, Tree, heights}
use Rattle.ir_trees.specs.Syntax.Words.{IsTy, IsArgs, IsMkStop, kind_tree, ty_tree, args_forest, list_forest}
use Rattle.ir_trees.specs.Declarations.Worlds.{Reference}
use Rattle.ir_trees.proofs.Growth.Kept.{args-kept, ty-kept, grows-refl, grows-trans}
use Rattle.ir_trees.proofs.Syntax.Rows.{row-single}
use Rattle.candidate_eval.specs.Builtins.Destruct.{cell_meets, appended, destruct_conditions, lang, meets, each_meets, own_destructor, own_conditions, kind_destructor, drop_by, own_drop_of, is_refused, own_references, all_references, references_of, AreReferences, IsConditionsStop}
use Rattle.candidate_eval.specs.declared.structural.destruct.OwnDrop.{OwnDrop}
use Rattle.candidate_eval.specs.declared.structural.destruct.OwnDrop.TheVariants as O
use Rattle.ir_trees.specs.declared.decl.contents.Destructor.{Destructor}
use Rattle.ir_trees.specs.declared.decl.contents.Destructor.TheVariants as D
use Rattle.ir_trees.specs.declared.decl.contents.LangItem.TheVariants as L
use Rattle.ir_trees.specs.declared.ir.kinds.TyKind.{TyKind}
use Rattle.ir_trees.specs.declared.ir.kinds.TyKind.TheVariants as K
use Rattle.ir_trees.specs.declared.ir.kinds.Pattern.TheVariants as Pat
use Rattle.ir_trees.specs.Syntax.Kinds.{ty_head}

references-kept : (old new : Context) (rs : List TraitRef) → Grows old new → AreReferences old.trees rs → AreReferences new.trees rs × (references_of new.trees rs ≡ references_of old.trees rs)
references-kept old new [] g a = (tt, refl)
references-kept old new (r ∷ rs) g a =
    let k = args-kept old new r.args g a.0 in
    let rest = references-kept old new rs g a.1 in
    let one : reference_of new.trees r ≡ reference_of old.trees r = ap (λ (f : Forest). let x : Reference = record { trait = r.def_id.0; arguments = f } in x) k.1 in
    ((k.0, rest.0), ap (λ (x : Reference). x ∷ references_of new.trees rs) one ∙ ap (λ (xs : List Reference). reference_of old.trees r ∷ xs) rest.1)

push-references : (c : Context) (rs : List TraitRef) (r : TraitRef) → AreReferences c.trees rs → IsArgs c.trees r.args → AreReferences c.trees (rs ++ r ∷ [])
push-references c [] r a e = (e, tt)
push-references c (x ∷ xs) r a e = (a.0, push-references c xs r a.1 e)

list-alone : (c : Context) (t : Ty) → IsTy c.trees t → list_forest c.trees (G.Ty t ∷ []) ≡ alone (ty_tree c.trees t)
list-alone c t e = row-single c.trees t.0 TypeKind none refl refl e

pub pushed_references : (old new : Context) (rs now : List TraitRef) (of : TraitId) (a : Args) → Grows old new → AreReferences old.trees rs → IsArgs new.trees a
    → now ≡ rs ++ record { def_id = of; args = a } ∷ [] → AreReferences new.trees now
pushed_references old new rs now of a g r e n = subst (AreReferences new.trees) (sym n) (push-references new rs (record { def_id = of; args = a }) (references-kept old new rs g r).0 e)

pub pushed_are : (old new : Context) (rs now : List TraitRef) (of : TraitId) (a : Args) (t : Ty) → Grows old new → AreReferences old.trees rs → IsTy old.trees t
    → args_forest new.trees a ≡ list_forest old.trees (G.Ty t ∷ []) → now ≡ rs ++ record { def_id = of; args = a } ∷ []
    → references_of new.trees now ≡ references_of old.trees rs ++ meets of (ty_tree old.trees t) ∷ []
pushed_are old new rs now of a t g r i e n =
    let x : TraitRef = record { def_id = of; args = a } in
    ap (references_of new.trees) n
    ∙ (map_push (reference_of new.trees) rs x
    ∙ (ap (λ (xs : List Reference). xs ++ reference_of new.trees x ∷ []) (references-kept old new rs g r).1
    ∙ ap (λ (f : Forest). let y : Reference = record { trait = of.0; arguments = f } in references_of old.trees rs ++ y ∷ []) (e ∙ list-alone old t i)))

pub reference_unmade : (old new : Context) (t : Ty) (s : Stop) → IsTy old.trees t → new ≡ old → IsMkStop old.trees (heights (list_forest old.trees (G.Ty t ∷ []))) s
    → (s ≡ Memory) ⊎ IsSubstStop (length new.trees) (alone (ty_tree old.trees t)) s
reference_unmade old new t s i e (inl m) = inl m
reference_unmade old new t s i e (inr (f, inl n)) =
    let same : length new.trees ≡ 4294967295 = ap (λ (c : Context). length c.trees) e ∙ n in
    inr (subst (IsSubstStop (length new.trees) (alone (ty_tree old.trees t))) (sym f) (few_numbers (omega (arith, same))))
reference_unmade old new t s i e (inr (f, inr h)) =
    let high : 1024 < heights (alone (ty_tree old.trees t)) = subst (λ (x : Forest). 1024 < heights x) (list-alone old t i) h in
    inr (subst (IsSubstStop (length new.trees) (alone (ty_tree old.trees t))) (sym f) (high_tree high))

-- The conditions of the types so far.
pub record ConditionsSoFar (start now : Context) (of : TraitId) (types : List Ty) (k : ℕ) (rs : List TraitRef) : Type 0 where
  pub grows : Grows start now
  pub fit : AreReferences now.trees rs
  pub are : references_of now.trees rs ≡ map (λ t. meets of (ty_tree start.trees t)) (take k types)

pub no_conditions : (start : Context) (of : TraitId) (types : List Ty) (rs : List TraitRef) → rs ≡ [] → ConditionsSoFar start start of types 0 rs
no_conditions start of types rs e = record {
  grows = grows-refl start;
  fit = subst (AreReferences start.trees) (sym e) tt;
  are = ap (references_of start.trees) e;
}

pub one_more_condition : (start now new : Context) (of : TraitId) (types : List Ty) (k : ℕ) (d : Ty) (old rs : List TraitRef) → ConditionsSoFar start now of types k old → TypesFit start.trees types
    → k < length types → Grows now new → AreReferences new.trees rs → references_of new.trees rs ≡ references_of now.trees old ++ meets of (ty_tree now.trees (get_or types k d)) ∷ []
    → ConditionsSoFar start new of types (k + 1) rs
one_more_condition start now new of types k d old rs s f l g r e =
    let x = get_or types k d in
    let h : Ty → Reference = λ t. meets of (ty_tree start.trees t) in
    let same : ty_tree now.trees x ≡ ty_tree start.trees x = (ty-kept start now x s.grows (ty_at start.trees types k d f l)).1 in
    record {
      grows = grows-trans start now new s.grows g;
      fit = r;
      are = e
          ∙ (ap (λ (xs : List Reference). xs ++ meets of (ty_tree now.trees x) ∷ []) s.are
          ∙ (ap (λ (t : Tree). map h (take k types) ++ meets of t ∷ []) same ∙ sym (map_more h types k d l)));
    }

maps : (start : Context) (of : TraitId) (types : List Ty) → map (λ (t : Ty). meets of (ty_tree start.trees t)) types ≡ map (meets of) (map (ty_tree start.trees) types)
maps start of [] = refl
maps start of (t ∷ ts) = ap (λ (xs : List Reference). meets of (ty_tree start.trees t) ∷ xs) (maps start of ts)

pub all_conditions : (start now : Context) (of : TraitId) (types : List Ty) (k : ℕ) (rs : List TraitRef) → ConditionsSoFar start now of types k rs → length types ≤ k
    → references_of now.trees rs ≡ map (meets of) (map (ty_tree start.trees) types)
all_conditions start now of types k rs s l = s.are ∙ (ap (map (λ (t : Ty). meets of (ty_tree start.trees t))) (take_all k types l) ∙ maps start of types)

pub condition_stop : (start now : Context) (of : TraitId) (types : List Ty) (k given : ℕ) (d : Ty) (rs : List TraitRef) (s : Stop) → ConditionsSoFar start now of types k rs → TypesFit start.trees types
    → k < length types → (s ≡ Memory) ⊎ IsSubstStop given (alone (ty_tree now.trees (get_or types k d))) s → IsTypesStop given (map (ty_tree start.trees) types) s
condition_stop start now of types k given d rs s w f l (inl m) = inl m
condition_stop start now of types k given d rs s w f l (inr h) =
    let x = get_or types k d in
    let same : ty_tree now.trees x ≡ ty_tree start.trees x = (ty-kept start now x w.grows (ty_at start.trees types k d f l)).1 in
    inr (record {
      place = k;
      type = ty_tree start.trees x;
      is = slice_get-map (ty_tree start.trees) types k ∙ ap (option_map (ty_tree start.trees)) (slice_get-get_or types k d l);
      stop = subst (λ (t : Tree). IsSubstStop given (alone t) s) same h;
    })

-- What the type itself has to meet

kind-destructor : (c : Context) (k : TyKind) → own_destructor c (ty_head k) ≡ kind_destructor c k
kind-destructor c (K.Pat t Pat.NotNull) = refl
kind-destructor c (K.Pat t (Pat.Range from to)) = refl
kind-destructor c _ = refl

drop-some : (t : Tree) (o : Option TraitId) → is_refused (drop_by o) ≡ false → each_meets o (t ∷ []) ≡ Some (own_references t (drop_by o))
drop-some t None e = absurd cc
drop-some t (Some i) e = refl

drop-none : (t : Tree) (o : Option TraitId) → is_refused (drop_by o) ≡ true → each_meets o (t ∷ []) ≡ None
drop-none t None e = refl
drop-none t (Some i) e = absurd cc

own-some : (c : Context) (t : Tree) (d : Option Destructor) → is_refused (own_drop_of c d) ≡ false → own_conditions c t d ≡ Some (own_references t (own_drop_of c d))
own-some c t None e = refl
own-some c t (Some D.NotConst) e = absurd cc
own-some c t (Some D.Const) e = drop-some t (lang c L.Drop) e

own-none : (c : Context) (t : Tree) (d : Option Destructor) → is_refused (own_drop_of c d) ≡ true → own_conditions c t d ≡ None
own-none c t None e = absurd cc
own-none c t (Some D.NotConst) e = refl
own-none c t (Some D.Const) e = drop-none t (lang c L.Drop) e

same-destructor : (c : Context) (t : Tree) (k : TyKind) → kind_tree c.trees k ≡ t → own_destructor c t.head ≡ kind_destructor c k
same-destructor c t k e = ap (λ (u : Tree). own_destructor c u.head) (sym e) ∙ kind-destructor c k

pub own_is : (c : Context) (t : Ty) (k : TyKind) (d : Option Destructor) (o : OwnDrop) → kind_tree c.trees k ≡ ty_tree c.trees t → d ≡ kind_destructor c k → o ≡ own_drop_of c d → is_refused o ≡ false
    → own_conditions c (ty_tree c.trees t) (own_destructor c (ty_tree c.trees t).head) ≡ Some (own_references (ty_tree c.trees t) o)
own_is c t k d o e q p r =
    let u = ty_tree c.trees t in
    let same : own_destructor c u.head ≡ d = same-destructor c u k e ∙ sym q in
    ap (own_conditions c u) same ∙ (own-some c u d (ap is_refused (sym p) ∙ r) ∙ ap (λ (x : OwnDrop). Some (own_references u x)) (sym p))

pub own_refused : (c : Context) (t : Ty) (k : TyKind) (d : Option Destructor) (o : OwnDrop) → kind_tree c.trees k ≡ ty_tree c.trees t → d ≡ kind_destructor c k → o ≡ own_drop_of c d → is_refused o ≡ true
    → own_conditions c (ty_tree c.trees t) (own_destructor c (ty_tree c.trees t).head) ≡ None
own_refused c t k d o e q p r =
    let u = ty_tree c.trees t in
    let same : own_destructor c u.head ≡ d = same-destructor c u k e ∙ sym q in
    ap (own_conditions c u) same ∙ own-none c u d (ap is_refused (sym p) ∙ r)

-- Why they were not made

get-left : (xs ys : List Reference) (k : ℕ) (r : Reference) → slice_get xs k ≡ Some r → slice_get (xs ++ ys) k ≡ Some r
get-left [] ys k r e = absurd cc
get-left (x ∷ xs) ys zero r e = e
get-left (x ∷ xs) ys (suc k) r e = get-left xs ys k r e

get-last : (xs : List Reference) (r : Reference) → slice_get (xs ++ r ∷ []) (length xs) ≡ Some r
get-last [] r = refl
get-last (x ∷ xs) r = get-last xs r

pub types_stop : (given : ℕ) (of : TraitId) (ts : List Tree) (t : Tree) (o : OwnDrop) (s : Stop) → IsTypesStop given ts s → IsConditionsStop given (Some (all_references of ts t o)) s
types_stop given of ts t o s (inl m) = inl m
types_stop given of ts t o s (inr h) = inr (record {
  place = h.place;
  reference = meets of h.type;
  is = get-left (map (meets of) ts) (own_references t o) h.place (meets of h.type) (slice_get-map (meets of) ts h.place ∙ ap (option_map (meets of)) h.is);
  stop = h.stop;
})

pub is_evaluator_stop : (given : ℕ) (i : TraitId) (t : Tree) (s : Stop) → (s ≡ Memory) ⊎ IsSubstStop given (alone t) s → IsConditionsStop given (Some (own_references t (O.Drop i))) s
is_evaluator_stop given i t s (inl m) = inl m
is_evaluator_stop given i t s (inr h) = inr (record { place = 0; reference = meets i t; is = refl; stop = h })

get-right : (xs ys : List Reference) (k : ℕ) → slice_get (xs ++ ys) (k + length xs) ≡ slice_get ys k
get-right [] ys k = ap (slice_get ys) (let z : k + 0 ≡ k = omega arith in z)
get-right (x ∷ xs) ys k = ap (slice_get (x ∷ (xs ++ ys))) (let z : k + length (x ∷ xs) ≡ suc (k + length xs) = omega arith in z) ∙ get-right xs ys k

pub no_more : (xs : List Reference) → xs ≡ xs ++ []
no_more xs = sym (append-nil xs)

pub own_after : (given : ℕ) (of : TraitId) (ts : List Tree) (old now : Context) (u : Ty) (o : OwnDrop) (s : Stop) → Grows old now → IsTy old.trees u
    → IsConditionsStop given (Some (own_references (ty_tree now.trees u) o)) s → IsConditionsStop given (Some (all_references of ts (ty_tree old.trees u) o)) s
own_after given of ts old now u o s g e (inl m) = inl m
own_after given of ts old now u o s g e (inr h) =
    let same : own_references (ty_tree now.trees u) o ≡ own_references (ty_tree old.trees u) o = ap (λ (t : Tree). own_references t o) (ty-kept old now u g e).1 in
    inr (record {
      place = h.place + length (map (meets of) ts);
      reference = h.reference;
      is = get-right (map (meets of) ts) (own_references (ty_tree old.trees u) o) h.place ∙ (ap (λ (rs : List Reference). slice_get rs h.place) (sym same) ∙ h.is);
      stop = h.stop;
    })

pub own_kept : (of : TraitId) (ts : List Tree) (old now : Context) (u : Ty) (o : OwnDrop) (rs ns : List Reference) → Grows old now → IsTy old.trees u → rs ≡ map (meets of) ts
    → ns ≡ rs ++ own_references (ty_tree now.trees u) o → ns ≡ all_references of ts (ty_tree old.trees u) o
own_kept of ts old now u o rs ns g e q n =
    n ∙ (ap (λ (xs : List Reference). xs ++ own_references (ty_tree now.trees u) o) q ∙ ap (λ (t : Tree). map (meets of) ts ++ own_references t o) (ty-kept old now u g e).1)

-- The conditions in whole

pub undeclared : (c : Context) (t : Tree) → None ≡ lang c L.Destruct → destruct_conditions c t ≡ None
undeclared c t e =
    ap (λ (o : Option TraitId). appended (cell_meets o (row_of c t).destruct) (own_conditions c t (own_destructor c t.head))) (sym e) ∙ of (row_of c t).destruct
  where
    of : (x : Cell) → appended (cell_meets None x) (own_conditions c t (own_destructor c t.head)) ≡ None
    of Excluded = refl
    of Refused = refl
    of (Asks p) = refl

pub cell_refused : (c : Context) (t : Tree) (a : Asked) → asked_cell c a ≡ (row_of c t).destruct → made.is_refused a ≡ true → destruct_conditions c t ≡ None
cell_refused c t a e r =
    ap (λ (x : Cell). appended (cell_meets (lang c L.Destruct) x) (own_conditions c t (own_destructor c t.head))) (sym e ∙ refused_cell c a r)

appended-none : (o : Option (List Reference)) → appended o None ≡ None
appended-none None = refl
appended-none (Some xs) = refl

pub own_refuses : (c : Context) (t : Tree) → own_conditions c t (own_destructor c t.head) ≡ None → destruct_conditions c t ≡ None
own_refuses c t e = ap (appended (cell_meets (lang c L.Destruct) (row_of c t).destruct)) e ∙ appended-none _

conditions-are : (c : Context) (t : Tree) (a : Asked) (i : TraitId) (o : OwnDrop) → Some i ≡ lang c L.Destruct → asked_cell c a ≡ (row_of c t).destruct → made.is_refused a ≡ false
    → own_conditions c t (own_destructor c t.head) ≡ Some (own_references t o) → destruct_conditions c t ≡ Some (all_references i (asked_types c a) t o)
conditions-are c t a i o l e r q =
    ap (λ (x : Option TraitId). appended (cell_meets x (row_of c t).destruct) (own_conditions c t (own_destructor c t.head))) (sym l)
    ∙ (ap (λ (x : Cell). appended (cell_meets (Some i) x) (own_conditions c t (own_destructor c t.head))) (sym e ∙ not-refused c a r)
    ∙ ap (appended (Some (map (meets i) (asked_types c a)))) q)

pub all_are : (c : Context) (t u : Tree) (a : Asked) (i : TraitId) (o : OwnDrop) (ts : List Tree) (rs : List Reference) → Some i ≡ lang c L.Destruct → asked_cell c a ≡ (row_of c t).destruct
    → made.is_refused a ≡ false → own_conditions c t (own_destructor c t.head) ≡ Some (own_references t o) → ts ≡ asked_types c a → u ≡ t → rs ≡ all_references i ts u o
    → destruct_conditions c t ≡ Some rs
all_are c t u a i o ts rs l e r q m k n =
    conditions-are c t a i o l e r q
    ∙ ap Some (ap (λ (xs : List Tree). all_references i xs t o) (sym m) ∙ (ap (λ (x : Tree). all_references i ts x o) (sym k) ∙ sym n))

pub all_stop : (given : ℕ) (c : Context) (t u : Tree) (a : Asked) (i : TraitId) (o : OwnDrop) (ts : List Tree) (s : Stop) → Some i ≡ lang c L.Destruct → asked_cell c a ≡ (row_of c t).destruct
    → made.is_refused a ≡ false → own_conditions c t (own_destructor c t.head) ≡ Some (own_references t o) → ts ≡ asked_types c a → u ≡ t
    → IsConditionsStop given (Some (all_references i ts u o)) s → IsConditionsStop given (destruct_conditions c t) s
all_stop given c t u a i o ts s l e r q m k h =
    subst (λ (x : Option (List Reference)). IsConditionsStop given x s) (sym (all_are c t u a i o ts (all_references i ts u o) l e r q m k refl)) h

pub made_types_stop : (given : ℕ) (c : Context) (t : Tree) (a : Asked) (i : TraitId) (o : OwnDrop) (s : Stop) → Some i ≡ lang c L.Destruct → asked_cell c a ≡ (row_of c t).destruct
    → made.is_refused a ≡ false → own_conditions c t (own_destructor c t.head) ≡ Some (own_references t o) → IsTypesStop given (asked_types c a) s
    → IsConditionsStop given (destruct_conditions c t) s
made_types_stop given c t a i o s l e r q h = all_stop given c t t a i o (asked_types c a) s l e r q refl refl (types_stop given i (asked_types c a) t o s h)

-- a stop that a `?` hands on
pub stop_of : {T : Type 0} (P : Stop → Type 0) (r : Result T NoSolutionOrStop) (y : NoSolutionOrStop) (s : Stop) → r ≡ Err y → y ≡ N.Stop s → P s → IfErr r (λ e. (u : Stop) → e ≡ N.Stop u → P u)
stop_of P (Ok x) y s e q p = tt
stop_of P (Err z) y s e q p = λ u w. let same : s ≡ u = cc in subst P same p
