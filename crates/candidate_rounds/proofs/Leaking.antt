-- What is found of regions that leak.
use Rattle.std.proofs.Common.{◌≡◌, ◌⊎◌, ◌+◌, ◌<◌, ◌≤◌, ◌++◌, ◌∷◌, [], inl, inr, ℕ, zero, suc, Bool, true, false, Option, Some, None, List, length, map, take, drop, slice_get, refl, sym, ◌∙◌, ap, subst, arith, rules}
use Rattle.std.specs.List.{remove}
use Rattle.std.specs.Option.{option_to_list}
use Rattle.std.specs.Prelude.{IfSome, not}
use Rattle.std.proofs.lemmas.List.{append-nil, map-append}
use Rattle.ir_trees.specs.contracts.ir.kinds.PlaceholderPartialEq.TheImpl as placeholder
use Rattle.ir_trees.specs.contracts.ir.kinds.RegionKindPartialEq.TheImpl as region
use Rattle.ir_trees.specs.declared.ir.heads.Head.TheVariants as H
use Rattle.ir_trees.specs.declared.ir.heads.PartHead.TheVariants as P
use Rattle.ir_trees.specs.declared.ir.heads.ClauseHead.TheVariants as Cl
use Rattle.ir_trees.specs.declared.ir.kinds.Binder.{Binder}
use Rattle.ir_trees.specs.declared.ir.kinds.Clause.{Clause}
use Rattle.ir_trees.specs.declared.ir.kinds.ClauseKind.{ClauseKind}
use Rattle.ir_trees.specs.declared.ir.kinds.ClauseKind.TheVariants as K
use Rattle.ir_trees.specs.declared.ir.kinds.Placeholder.{Placeholder}
use Rattle.ir_trees.specs.declared.ir.kinds.Region.{Region}
use Rattle.ir_trees.specs.declared.ir.kinds.RegionKind.{RegionKind}
use Rattle.ir_trees.specs.declared.ir.kinds.RegionKind.TheVariants as R
use Rattle.ir_trees.specs.declared.ir.kinds.Vars.{Vars}
use Rattle.ir_trees.specs.Hierarchy.Supers.{after_first}
use Rattle.ir_trees.specs.Syntax.Nodes.{tree_at}
use Rattle.ir_trees.specs.Syntax.Trees.{Forest, none, tree, Tree, BinderKind, RegionKind as RegionSort, row}
use Rattle.ir_trees.specs.Syntax.Words.{ClauseListFits, IsClause, IsRegion, IsVars, clause_kind_tree, clause_tree, region_kind_tree, region_tree}
use Rattle.ir_trees.proofs.Syntax.Rows.{row-single}
use Rattle.candidate_eval.specs.Judges.States.{VariableInfo}
use Rattle.candidate_eval.specs.declared.eval.mode.TypingMode.{TypingMode}
use Rattle.candidate_rounds.specs.declared.rounds.inference.Entry.{Entry}
use Rattle.candidate_rounds.specs.declared.rounds.leaking.RegionOutlives.{RegionOutlives}
use Rattle.candidate_rounds.specs.Calls.Leaking.{AreOutlived, AreSaid, IsSaid}
use Rattle.candidate_rounds.specs.Evaluators.Leaking.{CantName, IsAmong, IsRecorded, Leaks, Outlives, OutlivesTooMuch, RegionsLeak, SaysOutlives, ValueLeaks}
use Rattle.candidate_rounds.specs.Evaluators.Inferences.{Inference}
use Rattle.candidate_rounds.specs.Evaluators.Known.{info_of, state_of}
use Rattle.candidate_rounds.specs.Evaluators.Leaking.Leaks.{by_regions, by_value}
use Rattle.candidate_rounds.specs.Evaluators.Leaking.Outlives.{further, itself}
use Rattle.candidate_rounds.specs.Evaluators.Leaking.CantName.{older, other, static}
use Rattle.candidate_rounds.specs.Table.Goals.{Each}
use Rattle.candidate_rounds.proofs.Equations.Recording.{said as outlives-said}
use Rattle.candidate_rounds.proofs.Table.Running.{take-all}
use Rattle.candidate_rounds.proofs.Table.Steps.{each-push, take-more}

-- Equality decides.

pub region-is : (a b : RegionKind) → region.eq-value.it a b ≡ true → a ≡ b
region-is a b e = search rules

pub region-isnt : (a b : RegionKind) → region.eq-value.it a b ≡ false → a ≡ b → ⊥
region-isnt a b e = search rules

-- Members of a list.

pub among-first : {A : Type 0} (xs ys : List A) (x : A) → IsAmong xs x → IsAmong (xs ++ ys) x
among-first [] ys x m = absurd m
among-first (z ∷ zs) ys x (inl e) = inl e
among-first (z ∷ zs) ys x (inr m) = inr (among-first zs ys x m)

pub among-last : {A : Type 0} (xs : List A) (x : A) → IsAmong (xs ++ x ∷ []) x
among-last [] x = inl refl
among-last (z ∷ zs) x = inr (among-last zs x)

pub among-push : {A : Type 0} (xs : List A) (y x : A) → IsAmong (xs ++ y ∷ []) x → IsAmong xs x ⊎ (y ≡ x)
among-push [] y x (inl e) = inr e
among-push [] y x (inr m) = absurd m
among-push (z ∷ zs) y x (inl e) = inl (inl e)
among-push (z ∷ zs) y x (inr m) = later (among-push zs y x m)
  where
    later : IsAmong zs x ⊎ (y ≡ x) → ((z ≡ x) ⊎ IsAmong zs x) ⊎ (y ≡ x)
    later (inl k) = inl (inr k)
    later (inr e) = inr e

pub among-get : {A : Type 0} (xs : List A) (n : ℕ) (x : A) → slice_get xs n ≡ Some x → IsAmong xs x
among-get [] n x e = absurd cc
among-get (y ∷ ys) zero x e = inl cc
among-get (y ∷ ys) (suc n) x e = inr (among-get ys n x e)

pub got-same : {A : Type 0} (xs : List A) (n : ℕ) (y x : A) → slice_get xs n ≡ Some y → slice_get xs n ≡ Some x → y ≡ x
got-same xs n y x e f = let g : Some y ≡ Some x = sym e ∙ f in cc

pub among-removed : {A : Type 0} (xs : List A) (n : ℕ) (y x : A) → slice_get xs n ≡ Some y → IsAmong xs x → (y ≡ x) ⊎ IsAmong (remove xs n) x
among-removed [] n y x e m = absurd m
among-removed (z ∷ zs) zero y x e (inl k) = let q : z ≡ y = cc in inl (sym q ∙ k)
among-removed (z ∷ zs) zero y x e (inr m) = inr m
among-removed (z ∷ zs) (suc n) y x e (inl k) = inr (inl k)
among-removed (z ∷ zs) (suc n) y x e (inr m) = later (among-removed zs n y x e m)
  where
    later : (y ≡ x) ⊎ IsAmong (remove zs n) x → (y ≡ x) ⊎ IsAmong (remove (z ∷ zs) (suc n)) x
    later (inl k) = inl k
    later (inr k) = inr (inr k)

pub among-before : {A : Type 0} (xs : List A) (n : ℕ) (x : A) → IsAmong (remove xs n) x → IsAmong xs x
among-before [] zero x m = absurd m
among-before [] (suc n) x m = absurd m
among-before (z ∷ zs) zero x m = inr m
among-before (z ∷ zs) (suc n) x (inl k) = inl k
among-before (z ∷ zs) (suc n) x (inr m) = inr (among-before zs n x m)

pub each-among : {A : Type 0} (P : A → Type 0) (xs : List A) (x : A) → Each P xs → IsAmong xs x → P x
each-among P [] x h m = absurd m
each-among P (y ∷ ys) x h (inl e) = subst P e h.0
each-among P (y ∷ ys) x h (inr m) = each-among P ys x h.1 m

-- A clause of two regions says it of these, and no other clause does.

regions-row : (ts : List Tree) (vs : Vars) (a b : Region) → IsVars ts vs → IsRegion ts a → IsRegion ts b
    → after_first (clause_kind_tree ts (outlives-said vs a b)).children ≡ tree (tree_at ts a.0).head (tree_at ts a.0).children (tree (tree_at ts b.0).head (tree_at ts b.0).children none)
regions-row ts vs a b v i j =
    let f : Forest = row (tree_at ts a.0) (row (tree_at ts b.0) none) in
    ap after_first (row-single ts vs.0 BinderKind f refl refl v)
    ∙ (row-single ts a.0 RegionSort (row (tree_at ts b.0) none) refl refl i
    ∙ ap (tree (tree_at ts a.0).head (tree_at ts a.0).children) (row-single ts b.0 RegionSort none refl refl j))

pub says-outlives : (ts : List Tree) (t : Tree) (vs : Vars) (a b : Region) (k l : RegionKind) → IsVars ts vs → IsRegion ts a → IsRegion ts b → region_kind_tree k ≡ region_tree ts a
    → region_kind_tree l ≡ region_tree ts b → clause_kind_tree ts (outlives-said vs a b) ≡ t → SaysOutlives t k l
says-outlives ts t vs a b k l v i j e g is =
    subst (λ (x : Tree). SaysOutlives x k l) is (record {
      says = refl;
      regions = regions-row ts vs a b v i j ∙ sym (λ n. tree (e n).head (e n).children (tree (g n).head (g n).children none));
    })

pub says-once : (t : Tree) (a b k l : RegionKind) → SaysOutlives t a b → SaysOutlives t k l → (a ≡ k) × (b ≡ l)
says-once t a b k l x y = let e : tree (H.Region a) none (tree (H.Region b) none none) ≡ tree (H.Region k) none (tree (H.Region l) none none) = sym x.regions ∙ y.regions in (first e, second e)
  where
    first : tree (H.Region a) none (tree (H.Region b) none none) ≡ tree (H.Region k) none (tree (H.Region l) none none) → a ≡ k
    first e = cc

    second : tree (H.Region a) none (tree (H.Region b) none none) ≡ tree (H.Region k) none (tree (H.Region l) none none) → b ≡ l
    second e = cc

-- What is said, clause by clause.

pub none-said : AreSaid [] []
none-said = record { recorded = tt; all = λ a b r. r.is }

recorded-first : (cs ds : List Tree) (a b : RegionKind) → IsRecorded cs a b → IsRecorded (cs ++ ds) a b
recorded-first cs ds a b r = record { clause = r.clause; is = among-first cs ds r.clause r.is; says = r.says }

recorded-on : (cs ds : List Tree) (xs : List RegionOutlives) → Each (λ (x : RegionOutlives). IsRecorded cs x.longer x.shorter) xs → Each (λ (x : RegionOutlives). IsRecorded (cs ++ ds) x.longer x.shorter) xs
recorded-on cs ds [] h = tt
recorded-on cs ds (x ∷ xs) h = (recorded-first cs ds x.longer x.shorter h.0, recorded-on cs ds xs h.1)

pub said-more : (cs : List Tree) (t : Tree) (xs : List RegionOutlives) (x : RegionOutlives) → AreSaid cs xs → SaysOutlives t x.longer x.shorter → AreSaid (cs ++ t ∷ []) (xs ++ x ∷ [])
said-more cs t xs x h s = record {
  recorded = each-push (λ (y : RegionOutlives). IsRecorded (cs ++ t ∷ []) y.longer y.shorter) xs x (recorded-on cs (t ∷ []) xs h.recorded) (record { clause = t; is = among-last cs t; says = s });
  all = λ a b r. at a b r (among-push cs t r.clause r.is);
}
  where
    at : (a b : RegionKind) (r : IsRecorded (cs ++ t ∷ []) a b) → IsAmong cs r.clause ⊎ (t ≡ r.clause) → IsSaid (xs ++ x ∷ []) a b
    at a b r (inl m) = among-first xs (x ∷ []) _ (h.all a b (record { clause = r.clause; is = m; says = r.says }))
    at a b r (inr e) =
        let q = says-once r.clause x.longer x.shorter a b (subst (λ (u : Tree). SaysOutlives u x.longer x.shorter) e s) r.says in
        subst (IsAmong (xs ++ x ∷ [])) (λ i. record { longer = q.0 i; shorter = q.1 i }) (among-last xs x)

pub said-else : (cs : List Tree) (t : Tree) (xs : List RegionOutlives) → AreSaid cs xs → ((a b : RegionKind) → SaysOutlives t a b → ⊥) → AreSaid (cs ++ t ∷ []) xs
said-else cs t xs h unsaid = record { recorded = recorded-on cs (t ∷ []) xs h.recorded; all = λ a b r. at a b r (among-push cs t r.clause r.is) }
  where
    at : (a b : RegionKind) (r : IsRecorded (cs ++ t ∷ []) a b) → IsAmong cs r.clause ⊎ (t ≡ r.clause) → IsSaid xs a b
    at a b r (inl m) = h.all a b (record { clause = r.clause; is = m; says = r.says })
    at a b r (inr e) = absurd (unsaid a b (subst (λ (u : Tree). SaysOutlives u a b) (sym e) r.says))

-- While regions are looked for that one has to outlive, by pairs of which these are left: what is found, and that what was gone through led on.
pub record Reached (said left : List RegionOutlives) (longer : RegionKind) (list : List RegionKind) : Type 0 where
  pub outlived : Each (Outlives (IsSaid said) longer) list
  pub start : IsAmong list longer
  pub some : (x : RegionOutlives) → IsAmong left x → IsAmong said x
  pub rest : (x : RegionOutlives) → IsAmong said x → IsAmong left x ⊎ IsAmong list x.shorter

pub reached-first : (said : List RegionOutlives) (longer : RegionKind) → Reached said said longer (longer ∷ [])
reached-first said longer = record { outlived = (itself, tt); start = inl refl; some = λ x m. m; rest = λ x m. inl m }

pub reached-more : (said left : List RegionOutlives) (longer : RegionKind) (list : List RegionKind) (n : ℕ) (y : RegionOutlives) → Reached said left longer list → slice_get left n ≡ Some y → IsAmong list y.longer
    → Reached said (remove left n) longer (list ++ y.shorter ∷ [])
reached-more said left longer list n y h e m = record {
  outlived = each-push (Outlives (IsSaid said) longer) list y.shorter h.outlived (further y.longer y.shorter (each-among (Outlives (IsSaid said) longer) list y.longer h.outlived m) (h.some y (among-get left n y e)));
  start = among-first list (y.shorter ∷ []) longer h.start;
  some = λ x k. h.some x (among-before left n x k);
  rest = λ x k. at x (h.rest x k);
}
  where
    gone : (x : RegionOutlives) → (y ≡ x) ⊎ IsAmong (remove left n) x → IsAmong (remove left n) x ⊎ IsAmong (list ++ y.shorter ∷ []) x.shorter
    gone x (inl q) = inr (subst (λ (z : RegionOutlives). IsAmong (list ++ y.shorter ∷ []) z.shorter) q (among-last list y.shorter))
    gone x (inr k) = inl k

    at : (x : RegionOutlives) → IsAmong left x ⊎ IsAmong list x.shorter → IsAmong (remove left n) x ⊎ IsAmong (list ++ y.shorter ∷ []) x.shorter
    at x (inl k) = gone x (among-removed left n y x e k)
    at x (inr k) = inr (among-first list (y.shorter ∷ []) x.shorter k)

pub reached-all : (said left : List RegionOutlives) (longer : RegionKind) (list : List RegionKind) → Reached said left longer list → Each (λ (x : RegionOutlives). IsAmong list x.longer → ⊥) left → AreOutlived said longer list
reached-all said left longer list h unsaid = record { outlived = h.outlived; all = all }
  where
    on : (a b : RegionKind) → IsAmong list a → IsAmong left (record { longer = a; shorter = b }) ⊎ IsAmong list b → IsAmong list b
    on a b m (inl k) = absurd (each-among (λ (x : RegionOutlives). IsAmong list x.longer → ⊥) left _ unsaid k m)
    on a b m (inr k) = k

    all : (r : RegionKind) → Outlives (IsSaid said) longer r → IsAmong list r
    all _ itself = h.start
    all _ (further a b o s) = on a b (all a o) (h.rest _ s)

-- A placeholder that has to outlive too much: none is itself too much, so something is said of it.

pub some-said : (Said : RegionKind → RegionKind → Type 0) (a r : RegionKind) → Outlives Said a r → (a ≡ r) ⊎ ((b : RegionKind) × Said a b)
some-said Said a _ itself = inl refl
some-said Said a _ (further b c o s) = on (some-said Said a b o)
  where
    on : (a ≡ b) ⊎ ((d : RegionKind) × Said a d) → (a ≡ c) ⊎ ((d : RegionKind) × Said a d)
    on (inl e) = inr (c, subst (λ (x : RegionKind). Said x c) (sym e) s)
    on (inr d) = inr d

names-itself : (us : List ℕ) (p : Placeholder) (r : RegionKind) → R.Placeholder p ≡ r → CantName us p r → ⊥
names-itself us p _ e static = cc
names-itself us p _ e (other q n) = let d : q ≡ p = cc in n d
names-itself us p _ e (older n u g l) = cc

pub too-much-said : (Said : RegionKind → RegionKind → Type 0) (us : List ℕ) (p : Placeholder) → OutlivesTooMuch Said us p → (b : RegionKind) × Said (R.Placeholder p) b
too-much-said Said us p t = at (some-said Said (R.Placeholder p) t.region t.outlives)
  where
    at : (R.Placeholder p ≡ t.region) ⊎ ((b : RegionKind) × Said (R.Placeholder p) b) → (b : RegionKind) × Said (R.Placeholder p) b
    at (inl e) = absurd (names-itself us p t.region e t.cant_name)
    at (inr b) = b

-- What is said in two ways leaks in both.

outlives-also : (Said Other : RegionKind → RegionKind → Type 0) (a r : RegionKind) → ((x y : RegionKind) → Said x y → Other x y) → Outlives Said a r → Outlives Other a r
outlives-also Said Other a _ f itself = itself
outlives-also Said Other a _ f (further b c o s) = further b c (outlives-also Said Other a b f o) (f b c s)

pub too-much-also : (Said Other : RegionKind → RegionKind → Type 0) (us : List ℕ) (p : Placeholder) → ((x y : RegionKind) → Said x y → Other x y) → OutlivesTooMuch Said us p → OutlivesTooMuch Other us p
too-much-also Said Other us p f t = record { region = t.region; outlives = outlives-also Said Other (R.Placeholder p) t.region f t.outlives; cant_name = t.cant_name }

pub recorded-said : (cs : List Tree) (xs : List RegionOutlives) → AreSaid cs xs → (a b : RegionKind) → IsSaid xs a b → IsRecorded cs a b
recorded-said cs xs h a b m = each-among (λ (x : RegionOutlives). IsRecorded cs x.longer x.shorter) xs _ h.recorded m

-- Loops over a list go on by one member, and end.

pub each-next : {A : Type 0} (P : A → Type 0) (xs : List A) (n : ℕ) (x : A) → slice_get xs n ≡ Some x → Each P (take n xs) → P x → Each P (take (n + 1) xs)
each-next P xs n x e h p = subst (Each P) (sym (take-more xs n x e)) (each-push P (take n xs) x h p)

pub each-all : {A : Type 0} (P : A → Type 0) (xs : List A) (n : ℕ) → length xs ≤ n → Each P (take n xs) → Each P xs
each-all P xs n l h = subst (Each P) (take-all xs n l) h

pub among-next : {A : Type 0} (xs : List A) (n : ℕ) (y x : A) → slice_get xs n ≡ Some y → (IsAmong (take n xs) x → ⊥) → (y ≡ x → ⊥) → IsAmong (take (n + 1) xs) x → ⊥
among-next xs n y x e before differs m = at (among-push (take n xs) y x (subst (λ ys. IsAmong ys x) (take-more xs n y e) m))
  where
    at : IsAmong (take n xs) x ⊎ (y ≡ x) → ⊥
    at (inl k) = before k
    at (inr q) = differs q

pub map-next : {A B : Type 0} (f : A → B) (xs : List A) (n : ℕ) (x : A) (ys : List B) → slice_get xs n ≡ Some x → ys ≡ map f (take n xs) → ys ++ f x ∷ [] ≡ map f (take (n + 1) xs)
map-next f xs n x ys e h = ap (λ zs. zs ++ f x ∷ []) h ∙ (sym (map-append f (take n xs) (x ∷ [])) ∙ ap (map f) (sym (take-more xs n x e)))

pub said-next : (f : Clause → Tree) (xs : List Clause) (n : ℕ) (x : Clause) (list : List RegionOutlives) (y : RegionOutlives) → slice_get xs n ≡ Some x → AreSaid (map f (take n xs)) list → SaysOutlives (f x) y.longer y.shorter
    → AreSaid (map f (take (n + 1) xs)) (list ++ y ∷ [])
said-next f xs n x list y e h s =
    subst (λ cs. AreSaid cs (list ++ y ∷ [])) (sym (ap (map f) (take-more xs n x e) ∙ map-append f (take n xs) (x ∷ []))) (said-more (map f (take n xs)) (f x) list y h s)

pub else-next : (f : Clause → Tree) (xs : List Clause) (n : ℕ) (x : Clause) (list : List RegionOutlives) → slice_get xs n ≡ Some x → AreSaid (map f (take n xs)) list → ((a b : RegionKind) → SaysOutlives (f x) a b → ⊥)
    → AreSaid (map f (take (n + 1) xs)) list
else-next f xs n x list e h unsaid = subst (λ cs. AreSaid cs list) (sym (ap (map f) (take-more xs n x e) ∙ map-append f (take n xs) (x ∷ []))) (said-else (map f (take n xs)) (f x) list h unsaid)

-- What a clause says, or that it says nothing.
pub option-next : (f : Clause → Tree) (xs : List Clause) (n : ℕ) (x : Clause) (list : List RegionOutlives) (o : Option RegionOutlives) → slice_get xs n ≡ Some x → AreSaid (map f (take n xs)) list
    → IfSome o (λ y. SaysOutlives (f x) y.longer y.shorter) → (o ≡ None → (a b : RegionKind) → SaysOutlives (f x) a b → ⊥) → AreSaid (map f (take (n + 1) xs)) (list ++ option_to_list o)
option-next f xs n x list (Some y) e h s unsaid = said-next f xs n x list y e h s
option-next f xs n x list None e h s unsaid = subst (AreSaid (map f (take (n + 1) xs))) (sym (append-nil list)) (else-next f xs n x list e h (unsaid refl))

-- A region that can't name a placeholder.

pub placeholder-is : (a b : Placeholder) → placeholder.eq-value.it a b ≡ true → a ≡ b
placeholder-is a b e = search rules

pub placeholder-isnt : (a b : Placeholder) → placeholder.eq-value.it a b ≡ false → a ≡ b → ⊥
placeholder-isnt a b e = search rules

pub placeholder-other : (a b : Placeholder) → not (placeholder.eq-value.it a b) ≡ true → a ≡ b → ⊥
placeholder-other a b e = placeholder-isnt a b (off (placeholder.eq-value.it a b) e)
  where
    off : (t : Bool) → not t ≡ true → t ≡ false
    off true f = cc
    off false f = refl

-- Leaks of a state by what an evaluator keeps.

pub among-map : {A B : Type 0} (f : A → B) (xs : List A) (x : A) → IsAmong xs x → IsAmong (map f xs) (f x)
among-map f [] x m = absurd m
among-map f (y ∷ ys) x (inl e) = inl (ap f e)
among-map f (y ∷ ys) x (inr m) = inr (among-map f ys x m)

each-map : {A B : Type 0} (P : B → Type 0) (f : A → B) (xs : List A) (y : B) → Each (λ x. P (f x)) xs → IsAmong (map f xs) y → P y
each-map P f [] y h m = absurd m
each-map P f (x ∷ xs) y h (inl e) = subst P e h.0
each-map P f (x ∷ xs) y h (inr m) = each-map P f xs y h.1 m

universes-same : (ts : List Tree) (es : List Entry) → map (λ (i : VariableInfo). i.universe) (map (info_of ts) es) ≡ map (λ (e : Entry). e.universe) es
universes-same ts [] = refl
universes-same ts (e ∷ es) = ap (λ us. e.universe ∷ us) (universes-same ts es)

pub value-leaks : (ts : List Tree) (m : TypingMode) (s : Inference) (above : ℕ) (e : Entry) → IsAmong s.variables e → ValueLeaks above (info_of ts e) → Leaks above (state_of ts m s)
value-leaks ts m s above e there v = by_value (info_of ts e) (among-map (info_of ts) s.variables e there) v

pub recorded-leaks : (ts : List Tree) (m : TypingMode) (s : Inference) (above : ℕ) → RegionsLeak (IsRecorded (map (clause_tree ts) s.regions)) above (map (λ (e : Entry). e.universe) s.variables) → Leaks above (state_of ts m s)
recorded-leaks ts m s above r = by_regions (subst (RegionsLeak (IsRecorded (map (clause_tree ts) s.regions)) above) (sym (universes-same ts s.variables)) r)

pub nothing-leaks : (ts : List Tree) (m : TypingMode) (s : Inference) (above : ℕ) → Each (λ (e : Entry). ValueLeaks above (info_of ts e) → ⊥) s.variables
    → (RegionsLeak (IsRecorded (map (clause_tree ts) s.regions)) above (map (λ (e : Entry). e.universe) s.variables) → ⊥) → Leaks above (state_of ts m s) → ⊥
nothing-leaks ts m s above values regions (by_value i there v) = each-map (λ (x : VariableInfo). ValueLeaks above x → ⊥) (info_of ts) s.variables i values there v
nothing-leaks ts m s above values regions (by_regions r) = regions (subst (RegionsLeak (IsRecorded (map (clause_tree ts) s.regions)) above) (universes-same ts s.variables) r)

pub each-clause : (ts : List Tree) (xs : List Clause) → ClauseListFits ts xs → Each (IsClause ts) xs
each-clause ts [] e = tt
each-clause ts (x ∷ xs) e =
    let first : IsClause ts x = cc in
    let others : ClauseListFits ts xs = cc in
    (first, each-clause ts xs others)
