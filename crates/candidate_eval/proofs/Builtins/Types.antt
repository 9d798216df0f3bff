-- The types that a cell asks about, as they are made.
use Rattle.std.proofs.Common.{◌≡◌, ℕ, ◌+◌, ◌<◌, ◌≤◌, List, [], ◌∷◌, ◌++◌, length, get_or, take, Bool, true, false, Option, Some, None, inl, inr, refl, sym, ◌∙◌, ap, subst, arith}
use Rattle.std.specs.Prelude.{if◌then◌else◌, map, option_map, Result, Ok, Err, IfOk}
use Rattle.std.proofs.lemmas.List.{append-nil, map_push, map_more, take_more, take_all}
use Rattle.std.proofs.lemmas.Option.{slice_get-map, slice_get-get_or}
use Rattle.ir_trees.specs.declared.ir.kinds.GenericArg.{GenericArg}
use Rattle.ir_trees.specs.declared.ir.kinds.GenericArg.TheVariants as G
use Rattle.ir_trees.specs.declared.ir.kinds.Args.{Args}
use Rattle.ir_trees.specs.declared.ir.kinds.Ty.{Ty}
use Rattle.ir_trees.specs.declared.ir.stop.Stop.{Stop}
use Rattle.ir_trees.specs.Syntax.Trees.{Kind, TypeKind, ConstantKind, RegionKind, is_type_kind, is_list_kind, Forest, none, Tree, tree_holds, row, height, heights}
use Rattle.ir_trees.specs.declared.ir.kinds.TyKind.TheVariants as K
use Rattle.ir_trees.specs.Syntax.Nodes.{kind_at, tree_at, Extends}
use Rattle.ir_trees.specs.Declarations.Context.{Context, Grows}
use Rattle.ir_trees.specs.Instantiation.Folding.{substituted_tree, lacks_argument, IsSubstStop, few_numbers}
use Rattle.ir_trees.specs.Unification.Substitutions.{alone}
use Rattle.ir_trees.specs.Validity.WellFormed.{TypesFit}
use Rattle.ir_trees.specs.Syntax.Words.{IsTy, IsArgs, ListFits, list_forest, IsMkStop, ty_tree, args_forest, kind_tree}
use Rattle.ir_trees.proofs.Growth.Kept.{number-kept, ty-kept, args-kept, grows-refl, grows-trans}
use Rattle.ir_trees.proofs.Syntax.Lists.{below_kind}
use Rattle.ir_trees.specs.Syntax.Trees.{there}
use Rattle.ir_context.proofs.Instantiation.Owned.{listed_type}
use Rattle.ir_trees.proofs.Syntax.Rows.{kind-of, row-single}
use Rattle.candidate_eval.specs.Builtins.Tables.{u8, bytes, types_of, first_of, last_type, last_of, optional, with_args, IsTypesStop}
use Rattle.candidate_eval.specs.Builtins.Asked.{ty_args, first_ty, HaveArguments}
use Rattle.candidate_eval.proofs.Builtins.Cells.{one-more, no-more, last_pushed}

args-join : (xs ys : List GenericArg) → ty_args (xs ++ ys) ≡ ty_args xs ++ ty_args ys
args-join [] ys = refl
args-join (G.Ty t ∷ xs) ys = ap (λ (ts : List Ty). t ∷ ts) (args-join xs ys)
args-join (G.Const c ∷ xs) ys = args-join xs ys
args-join (G.Region r ∷ xs) ys = args-join xs ys

taken : (list : List GenericArg) (i : ℕ) (d : GenericArg) → i < length list → ty_args (take (i + 1) list) ≡ ty_args (take i list) ++ ty_args (get_or list i d ∷ [])
taken list i d l = ap ty_args (take_more list i d l) ∙ args-join (take i list) (get_or list i d ∷ [])

-- the types among the arguments so far
pub record TypesSoFar (list : List GenericArg) (i : ℕ) (types : List Ty) : Type 0 where
  pub are : types ≡ ty_args (take i list)

pub no_types : (list : List GenericArg) → TypesSoFar list 0 []
no_types list = record { are = refl }

one_more_type : (list : List GenericArg) (old new : List Ty) (i : ℕ) (d : GenericArg) → TypesSoFar list i old → i < length list → new ≡ old ++ ty_args (get_or list i d ∷ [])
    → TypesSoFar list (i + 1) new
one_more_type list old new i d s l e = record { are = e ∙ (ap (λ (ts : List Ty). ts ++ ty_args (get_or list i d ∷ [])) s.are ∙ sym (taken list i d l)) }

pub all_types : (list : List GenericArg) (types : List Ty) (i : ℕ) → TypesSoFar list i types → length list ≤ i → types ≡ ty_args list
all_types list types i s l = s.are ∙ ap ty_args (take_all i list l)

-- what an argument is, if it is a type, and if it is none
one-type : (x : GenericArg) (t : Ty) → x ≡ G.Ty t → ty_args (x ∷ []) ≡ t ∷ []
one-type x t e = ap (λ (y : GenericArg). ty_args (y ∷ [])) e

not-type : (x : GenericArg) → ((t : Ty) → x ≡ G.Ty t → ⊥) → ty_args (x ∷ []) ≡ []
not-type (G.Ty t) n = absurd (n t refl)
not-type (G.Const c) n = refl
not-type (G.Region r) n = refl

pub another_type : (list : List GenericArg) (old new : List Ty) (i : ℕ) (d : GenericArg) (t : Ty) → TypesSoFar list i old → i < length list → get_or list i d ≡ G.Ty t → new ≡ old ++ t ∷ []
    → TypesSoFar list (i + 1) new
another_type list old new i d t s l e n = one_more_type list old new i d s l (n ∙ ap (λ (ts : List Ty). old ++ ts) (sym (one-type (get_or list i d) t e)))

pub no_type : (list : List GenericArg) (old : List Ty) (i : ℕ) (d : GenericArg) → TypesSoFar list i old → i < length list → ((t : Ty) → get_or list i d ≡ G.Ty t → ⊥) → TypesSoFar list (i + 1) old
no_type list old i d s l n = one_more_type list old old i d s l (sym (append-nil old) ∙ ap (λ (ts : List Ty). old ++ ts) (sym (not-type (get_or list i d) n)))

-- the last of them so far
pub record LastSoFar (list : List GenericArg) (i : ℕ) (last : Option Ty) : Type 0 where
  pub is : optional last ≡ last_of (ty_args (take i list))

pub no_last : (list : List GenericArg) → LastSoFar list 0 None
no_last list = record { is = refl }

last-again : (xs ys : List Ty) → last_of (last_of xs ++ ys) ≡ last_of (xs ++ ys)
last-again [] ys = refl
last-again (x ∷ []) ys = refl
last-again (x ∷ (y ∷ zs)) ys = last-again (y ∷ zs) ys

one_more_last : (list : List GenericArg) (old new : Option Ty) (i : ℕ) (d : GenericArg) → LastSoFar list i old → i < length list
    → optional new ≡ last_of (optional old ++ ty_args (get_or list i d ∷ [])) → LastSoFar list (i + 1) new
one_more_last list old new i d s l e =
    let own = ty_args (get_or list i d ∷ []) in
    record { is = e ∙ (ap (λ (ts : List Ty). last_of (ts ++ own)) s.is ∙ (last-again (ty_args (take i list)) own ∙ sym (ap last_of (taken list i d l)))) }

pub another_last : (list : List GenericArg) (old : Option Ty) (i : ℕ) (d : GenericArg) (t : Ty) → LastSoFar list i old → i < length list → get_or list i d ≡ G.Ty t → LastSoFar list (i + 1) (Some t)
another_last list old i d t s l e =
    one_more_last list old (Some t) i d s l (sym (last_pushed (optional old) t) ∙ ap (λ (ts : List Ty). last_of (optional old ++ ts)) (sym (one-type (get_or list i d) t e)))

pub same_last : (list : List GenericArg) (old : Option Ty) (i : ℕ) (d : GenericArg) → LastSoFar list i old → i < length list → ((t : Ty) → get_or list i d ≡ G.Ty t → ⊥) → LastSoFar list (i + 1) old
same_last list old i d s l n =
    one_more_last list old old i d s l (alone old ∙ ap last_of (sym (append-nil (optional old)) ∙ ap (λ (ts : List Ty). optional old ++ ts) (sym (not-type (get_or list i d) n))))
  where
    alone : (o : Option Ty) → optional o ≡ last_of (optional o)
    alone None = refl
    alone (Some t) = refl

pub all_last : (list : List GenericArg) (last : Option Ty) (i : ℕ) → LastSoFar list i last → length list ≤ i → optional last ≡ last_of (ty_args list)
all_last list last i s l = s.is ∙ ap (λ (xs : List GenericArg). last_of (ty_args xs)) (take_all i list l)

-- Types stay what they are while a table grows.
pub types_kept : (old new : List Tree) (xs : List Ty) → Extends old new → TypesFit old xs → TypesFit new xs × (map (ty_tree new) xs ≡ map (ty_tree old) xs)
types_kept old new [] e f = (refl, refl)
types_kept old new (x ∷ xs) e f =
    let here : kind_at old x.0 ≡ TypeKind = cc in
    let others : TypesFit old xs = cc in
    let k = number-kept old new x.0 e (below_kind old x.0 TypeKind refl here) in
    let rest = types_kept old new xs e others in
    let now : kind_at new x.0 ≡ TypeKind = k.0 ∙ here in
    let all : TypesFit new xs = rest.0 in
    (cc, ap (λ (t : Tree). t ∷ map (ty_tree new) xs) k.1 ∙ ap (λ (us : List Tree). ty_tree old x ∷ us) rest.1)

types-push : (ts : List Tree) (xs : List Ty) (x : Ty) → TypesFit ts xs → IsTy ts x → TypesFit ts (xs ++ x ∷ [])
types-push ts [] x f e = cc
types-push ts (y ∷ ys) x f e =
    let here : kind_at ts y.0 ≡ TypeKind = cc in
    let others : TypesFit ts ys = cc in
    let rest : TypesFit ts (ys ++ x ∷ []) = types-push ts ys x others e in
    cc

-- one more type
pub pushed_fit : (c d : Context) (old new : List Ty) (x : Ty) → Grows c d → TypesFit c.trees old → IsTy d.trees x → new ≡ old ++ x ∷ [] → TypesFit d.trees new
pushed_fit c d old new x g f e n = subst (TypesFit d.trees) (sym n) (types-push d.trees old x (types_kept c.trees d.trees old g.kept f).0 e)

-- a type of a list of types
pub ty_at : (ts : List Tree) (types : List Ty) (k : ℕ) (d : Ty) → TypesFit ts types → k < length types → IsTy ts (get_or types k d)
ty_at ts types k d f l = listed_type ts types k (get_or types k d) f (sym (slice_get-get_or types k d l))

-- The types of a list so far, with arguments put in.
pub record PutSoFar (start now : Context) (args : Forest) (declared : List Ty) (k : ℕ) (types : List Ty) : Type 0 where
  pub grows : Grows start now
  pub fit : TypesFit now.trees types
  pub trees : map (ty_tree now.trees) types ≡ with_args start args (take k declared)

pub none_put : (start : Context) (args : Forest) (declared : List Ty) → PutSoFar start start args declared 0 []
none_put start args declared = record { grows = grows-refl start; fit = refl; trees = refl }

put-now : (start now : Context) (a : Args) (t : Ty) → Grows start now → IsArgs start.trees a → IsTy start.trees t
    → substituted_tree (args_forest now.trees a) (ty_tree now.trees t) ≡ substituted_tree (args_forest start.trees a) (ty_tree start.trees t)
put-now start now a t g h e =
    ap (λ (f : Forest). substituted_tree f (ty_tree now.trees t)) (args-kept start now a g h).1
    ∙ ap (substituted_tree (args_forest start.trees a)) (ty-kept start now t g e).1

-- its parameters have arguments in a context that grew
pub has_now : (start now : Context) (a : Args) (declared : List Ty) (k : ℕ) (d : Ty) → Grows start now → IsArgs start.trees a → TypesFit start.trees declared → k < length declared
    → HaveArguments start a declared → tree_holds (lacks_argument (args_forest now.trees a)) (ty_tree now.trees (get_or declared k d)) ≡ false
has_now start now a declared k d g h f l have =
    let t = get_or declared k d in
    ap (λ (x : Forest). tree_holds (lacks_argument x) (ty_tree now.trees t)) (args-kept start now a g h).1
    ∙ (ap (tree_holds (lacks_argument (args_forest start.trees a))) (ty-kept start now t g (ty_at start.trees declared k d f l)).1 ∙ have k d l)

pub one_more_put : (start now new : Context) (a : Args) (declared : List Ty) (k : ℕ) (d : Ty) (old types : List Ty) (x : Ty) → PutSoFar start now (args_forest start.trees a) declared k old
    → IsArgs start.trees a → TypesFit start.trees declared → k < length declared → Grows now new → IsTy new.trees x
    → ty_tree new.trees x ≡ substituted_tree (args_forest now.trees a) (ty_tree now.trees (get_or declared k d)) → types ≡ old ++ x ∷ []
    → PutSoFar start new (args_forest start.trees a) declared (k + 1) types
one_more_put start now new a declared k d old types x s h f l g i e n =
    let args = args_forest start.trees a in
    let put : Ty → Tree = λ t. substituted_tree args (ty_tree start.trees t) in
    let same = e ∙ put-now start now a (get_or declared k d) s.grows h (ty_at start.trees declared k d f l) in
    record {
      grows = grows-trans start now new s.grows g;
      fit = pushed_fit now new old types x g s.fit i n;
      trees = ap (map (ty_tree new.trees)) n
          ∙ (map_push (ty_tree new.trees) old x
          ∙ (ap (λ (ts : List Tree). ts ++ ty_tree new.trees x ∷ []) ((types_kept now.trees new.trees old g.kept s.fit).1 ∙ s.trees)
          ∙ (ap (λ (t : Tree). map put (take k declared) ++ t ∷ []) same ∙ sym (map_more put declared k d l))));
    }

pub all_put : (start now : Context) (args : Forest) (declared : List Ty) (k : ℕ) (types : List Ty) → PutSoFar start now args declared k types → length declared ≤ k
    → map (ty_tree now.trees) types ≡ with_args start args declared
all_put start now args declared k types s l = s.trees ∙ ap (with_args start args) (take_all k declared l)

pub put_stop : (start now : Context) (a : Args) (declared : List Ty) (k : ℕ) (d : Ty) (types : List Ty) (given : ℕ) (s : Stop) → PutSoFar start now (args_forest start.trees a) declared k types
    → IsArgs start.trees a → TypesFit start.trees declared → k < length declared
    → IsSubstStop given (alone (substituted_tree (args_forest now.trees a) (ty_tree now.trees (get_or declared k d)))) s
    → IsTypesStop given (with_args start (args_forest start.trees a) declared) s
put_stop start now a declared k d types given s so h f l c =
    let args = args_forest start.trees a in
    let put : Ty → Tree = λ t. substituted_tree args (ty_tree start.trees t) in
    let t = get_or declared k d in
    inr (record {
      place = k;
      type = put t;
      is = slice_get-map put declared k ∙ ap (option_map put) (slice_get-get_or declared k d l);
      stop = subst (λ (u : Tree). IsSubstStop given (alone u) s) (put-now start now a t so.grows h (ty_at start.trees declared k d f l)) c;
    })

-- The slice of bytes

pub made_stop : (old new : Context) (high : ℕ) (s : Stop) → new ≡ old → IsMkStop old.trees high s → high ≤ 2 → IsTypesStop (length new.trees) (bytes ∷ []) s
made_stop old new high s e (inl m) l = inl m
made_stop old new high s e (inr (f, inl n)) l =
    let same : length new.trees ≡ 4294967295 = ap (λ (c : Context). length c.trees) e ∙ n in
    inr (record { place = 0; type = bytes; is = refl; stop = subst (IsSubstStop (length new.trees) (alone bytes)) (sym f) (few_numbers (omega (arith, same))) })
made_stop old new high s e (inr (f, inr h)) l = absurd (omega (arith, h, l))

pub slice_stop : (old new : Context) (b : Ty) (s : Stop) → ty_tree old.trees b ≡ u8 → new ≡ old → IsMkStop old.trees (height (kind_tree old.trees (K.Slice b))) s
    → IsTypesStop (length new.trees) (bytes ∷ []) s
slice_stop old new b s e same cause =
    let high : height (kind_tree old.trees (K.Slice b)) ≡ 2 = ap (λ (t : Tree). 1 + heights (row t none)) e in
    made_stop old new (height (kind_tree old.trees (K.Slice b))) s same cause (omega (arith, high))

-- The types among the arguments of a list
pub listed_fit : (ts : List Tree) (xs : List GenericArg) → ListFits ts xs → TypesFit ts (ty_args xs) × (map (ty_tree ts) (ty_args xs) ≡ types_of (list_forest ts xs))
listed_fit ts [] f = (refl, refl)
listed_fit ts (G.Ty t ∷ xs) f =
    let here : kind_at ts t.0 ≡ TypeKind = cc in
    let others : ListFits ts xs = cc in
    let rest = listed_fit ts xs others in
    let all : TypesFit ts (ty_args xs) = rest.0 in
    (cc, ap (λ (us : List Tree). ty_tree ts t ∷ us) rest.1 ∙ sym (one-more ts t.0 (list_forest ts xs) here))
listed_fit ts (G.Const x ∷ xs) f =
    let here : kind_at ts x.0 ≡ ConstantKind = cc in
    let others : ListFits ts xs = cc in
    let rest = listed_fit ts xs others in
    (rest.0, rest.1 ∙ sym (no-more ts x.0 ConstantKind (list_forest ts xs) refl refl refl here))
listed_fit ts (G.Region r ∷ xs) f =
    let here : kind_at ts r.0 ≡ RegionKind = cc in
    let others : ListFits ts xs = cc in
    let rest = listed_fit ts xs others in
    (rest.0, rest.1 ∙ sym (no-more ts r.0 RegionKind (list_forest ts xs) refl refl refl here))

map-last : (f : Ty → Tree) (xs : List Ty) → map f (last_of xs) ≡ last_of (map f xs)
map-last f [] = refl
map-last f (x ∷ []) = refl
map-last f (x ∷ (y ∷ ys)) = map-last f (y ∷ ys)

last-fit : (ts : List Tree) (xs : List Ty) → TypesFit ts xs → TypesFit ts (last_of xs)
last-fit ts [] f = refl
last-fit ts (x ∷ []) f = f
last-fit ts (x ∷ (y ∷ ys)) f = let rest : TypesFit ts (y ∷ ys) = cc in last-fit ts (y ∷ ys) rest

-- What a cell asks about, as it was read

pub one_given : (ts : List Tree) (t : Ty) (v : List Ty) → IsTy ts t → v ≡ optional (Some t) → TypesFit ts v × (map (ty_tree ts) v ≡ ty_tree ts t ∷ [])
one_given ts t v e q =
    let fit : TypesFit ts (t ∷ []) = cc in
    (subst (TypesFit ts) (sym q) fit, ap (map (ty_tree ts)) q)

pub members_given : (ts : List Tree) (a : Args) (xs : List GenericArg) (v : List Ty) → ListFits ts xs → list_forest ts xs ≡ args_forest ts a → v ≡ ty_args xs
    → TypesFit ts v × (map (ty_tree ts) v ≡ types_of (args_forest ts a))
members_given ts a xs v f e q =
    let r = listed_fit ts xs f in
    (subst (TypesFit ts) (sym q) r.0, ap (map (ty_tree ts)) q ∙ (r.1 ∙ ap types_of e))

pub last_given : (ts : List Tree) (a : Args) (xs : List GenericArg) (o : Option Ty) (v : List Ty) → ListFits ts xs → list_forest ts xs ≡ args_forest ts a → optional o ≡ last_of (ty_args xs) → v ≡ optional o
    → TypesFit ts v × (map (ty_tree ts) v ≡ last_type (args_forest ts a))
last_given ts a xs o v f e q p =
    let r = listed_fit ts xs f in
    let is = p ∙ q in
    (subst (TypesFit ts) (sym is) (last-fit ts (ty_args xs) r.0), ap (map (ty_tree ts)) is ∙ (map-last (ty_tree ts) (ty_args xs) ∙ ap last_of (r.1 ∙ ap types_of e)))

first-tree : (ts : List Tree) (n : ℕ) (k : Kind) (f : Forest) → there k ≡ true → is_list_kind k ≡ false → kind_at ts n ≡ k → first_of (row (tree_at ts n) f) ≡ (if is_type_kind k then tree_at ts n ∷ [] else [])
first-tree ts n k f h l e =
    ap first_of (row-single ts n k f h l e) ∙ ap (λ (b : Bool). if b then tree_at ts n ∷ [] else []) (ap is_type_kind (kind-of ts n k h e))

pub first_given : (ts : List Tree) (a : Args) (xs : List GenericArg) (v : List Ty) → ListFits ts xs → list_forest ts xs ≡ args_forest ts a → v ≡ optional (first_ty xs)
    → TypesFit ts v × (map (ty_tree ts) v ≡ first_of (args_forest ts a))
first_given ts a xs v f e q =
    let r = of xs f in
    (subst (TypesFit ts) (sym q) r.0, ap (map (ty_tree ts)) q ∙ (r.1 ∙ ap first_of e))
  where
    of : (ys : List GenericArg) → ListFits ts ys → TypesFit ts (optional (first_ty ys)) × (map (ty_tree ts) (optional (first_ty ys)) ≡ first_of (list_forest ts ys))
    of [] g = (refl, refl)
    of (G.Ty t ∷ ys) g =
        let here : kind_at ts t.0 ≡ TypeKind = cc in
        (cc, sym (first-tree ts t.0 TypeKind (list_forest ts ys) refl refl here))
    of (G.Const x ∷ ys) g =
        let here : kind_at ts x.0 ≡ ConstantKind = cc in
        (refl, sym (first-tree ts x.0 ConstantKind (list_forest ts ys) refl refl here))
    of (G.Region x ∷ ys) g =
        let here : kind_at ts x.0 ≡ RegionKind = cc in
        (refl, sym (first-tree ts x.0 RegionKind (list_forest ts ys) refl refl here))

-- what holds of a list where it was made
pub if_ok : {E : Type 0} → {X : Type 0} → {P : X → Type 0} → {Q : X → Type 0} → (r : Result X E) → ((v : X) → P v → Q v) → IfOk r P → IfOk r Q
if_ok (Ok v) f h = f v h
if_ok (Err e) f h = tt
