-- What stands at a state: it mentions only the state's variables, and it stands at states alike that one, with normal forms, and with values put
-- in.
use Rattle.std.proofs.Common.{◌≡◌, ◌<◌, ◌≤◌, ◌+◌, ℕ, get_or, Bool, true, false, not, ◌&&◌, Option, Some, None, ◌∷◌, length, refl, sym, ap, subst, ◌∙◌, arith, nat_le, nat_lt, if◌then◌else◌, inl, inr, ◌⊎◌}
use Rattle.std.specs.Option.{unwrap_or}
use Rattle.std.proofs.lemmas.Bool.{and_parts, le-ltb, lt-leb, lt-ltb, ltb-false, ltb-true}
use Rattle.std.proofs.lemmas.Option.{slice_get_cases, slice_get_within}
use Rattle.std.proofs.Math.Nat.{le_trans}
use Rattle.ir_trees.specs.declared.ir.heads.Builtin.TheVariants as B
use Rattle.ir_trees.specs.declared.ir.heads.ConstHead.TheVariants as C
use Rattle.ir_trees.specs.declared.ir.heads.Head.{Head}
use Rattle.ir_trees.specs.declared.ir.heads.Head.TheVariants as H
use Rattle.ir_trees.specs.declared.ir.heads.VariableSort.{VariableSort}
use Rattle.ir_trees.specs.declared.ir.heads.VariableSort.TheVariants as V
use Rattle.ir_trees.specs.declared.ir.kinds.RegionKind.TheVariants as R
use Rattle.ir_trees.specs.Syntax.Binders.{escapes, is_beyond}
use Rattle.ir_trees.specs.Declarations.Context.{Context}
use Rattle.ir_trees.specs.Instantiation.Folding.{fold}
use Rattle.ir_trees.specs.Unification.Substitutions.{alone, fits_sort, is_constant_kind, is_placeholder_above, same_sort}
use Rattle.ir_trees.specs.Syntax.Trees.{ConstantKind, Kind, RegionKind, TypeKind, Forest, none, tree, Tree, binders_of, erase, erased_head, holds, is_param, is_type_kind, kind_of, sort_kind}
use Rattle.ir_trees.specs.Declarations.Worlds.{kinds_of}
use Rattle.ir_trees.proofs.Instantiation.Folding.{begin}
use Rattle.candidate_eval.specs.declared.eval.variable.VariableKind.{VariableKind}
use Rattle.candidate_eval.specs.declared.eval.variable.VariableKind.TheVariants.{Term, Region}
use Rattle.candidate_eval.specs.Judges.Alike.{JudgesAlike, LooksAlike, info}
use Rattle.candidate_eval.specs.Judges.Lawful.{HasNoParameter, NormalFormLaws}
use Rattle.candidate_eval.specs.Derivations.Mentions.{IsBelow, is_from}
use Rattle.candidate_eval.specs.Dynamic.ObjectRequirements.{first_tree}
use Rattle.candidate_eval.specs.Judges.Soundness.{AreTreesOf, FitsVariable, IsLater, IsSound, Live, ValuesFit, Within, has_value, is_strange, is_variable_above, universe_in, universes, fits_kind, is_region}
use Rattle.candidate_eval.specs.Judges.States.{Env, Judge, State, Values, VariableInfo, has_kind, is_some, resolved, same_kind, value_as, value_at, value_in, value_of}
use Rattle.candidate_eval.proofs.Marks.Closed.{closed, closed-on, closed-parts}
use Rattle.candidate_eval.proofs.Marks.Holds.{holds_imply, holds_parts}
use Rattle.candidate_eval.proofs.Marks.Marking.{unmarked}
use Rattle.candidate_assembly.specs.Goals.KindBounds.{KindBounds}
use Rattle.candidate_assembly.specs.Goals.KindLaws.{TreesChange}
use Rattle.candidate_assembly.specs.Goals.Kinds.{KindRules, self_type}
use Rattle.candidate_assembly.specs.Goals.Standing.{GoalIsValid, IsValidAt, IsValidBeside}

-- Marks.

-- what bears neither of two marks bears no third
pub neither : (a b c : Head → Bool) → ((h : Head) → a h ≡ false → b h ≡ false → c h ≡ false) → (ts : Forest) → holds a ts ≡ false → holds b ts ≡ false → holds c ts ≡ false
neither a b c f none p q = refl
neither a b c f (tree h below rest) p q =
    let x = holds_parts a h below rest p in
    let y = holds_parts b h below rest q in
    unmarked c h below rest (f h x.here y.here) (neither a b c f below x.under y.under) (neither a b c f rest x.others y.others)

-- a mark of trees without regions is a mark of the trees
pub erased-holds : (mark : Head → Bool) (ts : Forest) → holds mark (erase ts) ≡ holds (λ h. mark (erased_head h)) ts
erased-holds mark none = refl
erased-holds mark (tree h below rest) = rw (erased-holds mark below, erased-holds mark rest) refl

-- Variables that count.

pub not-false : (b : Bool) → not b ≡ false → b ≡ true
not-false true e = refl
not-false false e = cc

-- what is there of a variable that counts
pub counted : (x : Bool) (k : VariableKind) (o : Option VariableInfo) → not (x && has_kind k o) ≡ false → (i : VariableInfo) × (o ≡ Some i) × (x ≡ true)
counted true k None e = cc
counted false k o e = cc
counted true k (Some i) e = (i, refl, refl)

pub kind-there : (x : Bool) (k : VariableKind) (o : Option VariableInfo) → not (x && has_kind k o) ≡ false → has_kind k o ≡ true
kind-there true k o e = not-false (has_kind k o) e
kind-there false k o e = cc

counts : (x : Bool) (k : VariableKind) (o : Option VariableInfo) → x ≡ true → has_kind k o ≡ true → not (x && has_kind k o) ≡ false
counts x k o e f = rw (e, f) refl

-- its number is below that of the variables
counted-below : (S : State) (x : Bool) (k : VariableKind) (n : ℕ) → not (x && has_kind k (info S n)) ≡ false → n < length S.variables
counted-below S x k n e = let i = counted x k (info S n) e in slice_get_within S.variables n i.0 i.1

above : (S : State) (x : Bool) (k : VariableKind) (n : ℕ) → not (x && has_kind k (info S n)) ≡ false → nat_le (length S.variables) n ≡ false
above S x k n e = lt-leb (length S.variables) n (counted-below S x k n e)

strange-from : (S : State) (L : Live) (h : Head) → is_strange S L h ≡ false → is_from (length S.variables) h ≡ false
strange-from S L (H.Infer v) e = above S (L v.number) (Term v.sort) v.number e
strange-from S L (H.Region (R.Var n)) e = above S (L n) Region n e
strange-from S L _ e = refl

-- Trees of a state mention only its variables.
pub known-below : (S : State) (L : Live) (ts : Forest) → AreTreesOf S L ts → IsBelow (length S.variables) ts
known-below S L ts a = holds_imply (is_strange S L) (is_from (length S.variables)) (strange-from S L) ts a.known

pub stands-below : (S : State) (e : Env) (ts : Forest) → IsValidAt S e ts → IsBelow (length S.variables) e × IsBelow (length S.variables) ts
stands-below S e ts s = (known-below S s.live e s.env, known-below S s.live ts s.trees)

-- What is made up of what stands there, and what bears no more marks, stands there too.
pub stands-made : (S : State) (e : Env) (ts us : Forest) → IsValidAt S e ts → ((mark : Head → Bool) → holds mark ts ≡ false → holds mark us ≡ false) → (escapes 0 ts ≡ false → escapes 0 us ≡ false) → IsValidAt S e us
stands-made S e ts us s marks escaping = record {
  live = s.live;
  sound = s.sound;
  fits = s.fits;
  values = s.values;
  env = s.env;
  trees = record { known = marks (is_strange S s.live) s.trees.known; is_closed = escaping s.trees.is_closed };
  env_free = s.env_free;
  trees_free = marks is_param s.trees_free;
}

-- At a state that is alike: of what counts there, the variables of the first count.

abbrev pub still : State → Live → Live
still S L n = nat_lt n (length S.variables) && L n

module _ (S T : State) (a : LooksAlike S T) (L : Live) where
  info-there : (n : ℕ) → still S L n ≡ true → (L n ≡ true) × (info T n ≡ info S n)
  info-there n e =
      let p = and_parts (nat_lt n (length S.variables)) (L n) e in
      (p.1, there (slice_get_cases S.variables n).1)
    where
      there : ((x : VariableInfo) × (n < length S.variables) × (info S n ≡ Some x) × (get_or S.variables n x ≡ x)) ⊎ ((length S.variables ≤ n) × (info S n ≡ None)) → info T n ≡ info S n
      there (inl x) = a.kept n x.0 x.2 ∙ sym x.2
      there (inr x) = let less = ltb-true n (length S.variables) (and_parts (nat_lt n (length S.variables)) (L n) e).0 in let past = x.0 in absurd (omega (arith, less, past))

  same-info : (x : Bool) (k : VariableKind) (n : ℕ) → not (x && has_kind k (info S n)) ≡ false → info T n ≡ info S n
  same-info x k n e = let i = counted x k (info S n) e in a.kept n i.0 i.1 ∙ sym i.1

  still-counts : (n : ℕ) (k : VariableKind) → not (L n && has_kind k (info S n)) ≡ false → not (still S L n && has_kind k (info T n)) ≡ false
  still-counts n k e =
      counts (still S L n) k (info T n) (rw (lt-ltb n (length S.variables) (counted-below S (L n) k n e), (counted (L n) k (info S n) e).2) refl)
      (ap (has_kind k) (same-info (L n) k n e) ∙ kind-there (L n) k (info S n) e)

  same-universe : (u : ℕ) → nat_lt S.newest_universe u ≡ false → nat_lt T.newest_universe u ≡ false
  same-universe u e = ap (λ n. nat_lt n u) a.newest_universe ∙ e

  pub strange-alike : (h : Head) → is_strange S L h ≡ false → is_strange T (still S L) h ≡ false
  strange-alike (H.Infer v) e = still-counts v.number (Term v.sort) e
  strange-alike (H.Region (R.Var n)) e = still-counts n Region e
  strange-alike (H.Placeholder p) e = same-universe p.universe e
  strange-alike (H.Const (C.Placeholder p)) e = same-universe p.universe e
  strange-alike (H.Region (R.Placeholder p)) e = same-universe p.universe e
  strange-alike _ e = refl

  known-alike : (ts : Forest) → holds (is_strange S L) ts ≡ false → holds (is_strange T (still S L)) ts ≡ false
  known-alike ts e = holds_imply (is_strange S L) (is_strange T (still S L)) strange-alike ts e

  pub trees-alike : (ts : Forest) → AreTreesOf S L ts → AreTreesOf T (still S L) ts
  trees-alike ts t = record { known = known-alike ts t.known; is_closed = t.is_closed }

  erased-strange : (h : Head) → is_strange S L h ≡ false → is_strange S L (erased_head h) ≡ false
  erased-strange (H.Region r) e = refl
  erased-strange _ e = e

  erased-known : (ts : Forest) → holds (is_strange S L) ts ≡ false → holds (is_strange S L) (erase ts) ≡ false
  erased-known ts e = erased-holds (is_strange S L) ts ∙ holds_imply (is_strange S L) (λ h. is_strange S L (erased_head h)) erased-strange ts e

  no-higher : (u : ℕ) (h : Head) → is_variable_above (universes S) u h ≡ false → is_strange S L h ≡ false → is_variable_above (universes T) u h ≡ false
  no-higher u (H.Infer v) e k = ap (λ o. nat_lt u (universe_in o)) (same-info (L v.number) (Term v.sort) v.number k) ∙ e
  no-higher u _ e k = refl

  no-value : (h : Head) → has_value S h ≡ false → is_strange S L h ≡ false → has_value T h ≡ false
  no-value (H.Infer v) e k = ap (λ o. is_some (if has_kind (Term v.sort) o then value_in o else None)) (same-info (L v.number) (Term v.sort) v.number k) ∙ e
  no-value (H.Region (R.Var n)) e k = ap (λ o. is_some (if has_kind Region o then value_in o else None)) (same-info (L n) Region n k) ∙ e
  no-value _ e k = refl

  module _ (sound : IsSound S L) where
    of-first : (n : ℕ) (i : VariableInfo) → still S L n ≡ true → info T n ≡ Some i → (L n ≡ true) × (info S n ≡ Some i)
    of-first n i e f = let p = info-there n e in (p.0, sym p.1 ∙ f)

    pub sound-alike : IsSound T (still S L)
    sound-alike = record {
      allowed = λ s n i t e f v k.
          let p = of-first n i e f in
          let x = sound.allowed s n i t p.0 p.1 v k in
          record { fits = x.fits; is_closed = x.is_closed; in_universe = subst (λ u. holds (is_placeholder_above u) (erase (alone t)) ≡ false) (ap universe_in (sym (info-there n e).1)) x.in_universe };
      no_higher = λ n i t e f v.
          let p = of-first n i e f in
          neither (is_variable_above (universes S) i.universe) (is_strange S L) (is_variable_above (universes T) i.universe) (no-higher i.universe) (erase (alone t)) (sound.no_higher n i t p.0 p.1 v) (erased-known (alone t) (sound.known n i t p.0 p.1 v));
      is_resolved = λ n i t e f v. let p = of-first n i e f in neither (has_value S) (is_strange S L) (has_value T) no-value (alone t) (sound.is_resolved n i t p.0 p.1 v) (sound.known n i t p.0 p.1 v);
      known = λ n i t e f v. let p = of-first n i e f in known-alike (alone t) (sound.known n i t p.0 p.1 v);
      universes = λ n i e f. let p = of-first n i e f in subst (λ u. i.universe ≤ u) (sym a.newest_universe) (sound.universes n i p.0 p.1);
    }

  pub fits-alike : ValuesFit S L → ValuesFit T (still S L)
  fits-alike fits n e = let p = info-there n e in subst FitsVariable (sym p.1) (fits n p.0)

  free-alike : HasNoParameter S L → HasNoParameter T (still S L)
  free-alike values n i t e f v = let p = info-there n e in values n i t p.0 (sym p.1 ∙ f) v

pub stands-alike : (J : Judge) → JudgesAlike J → (S T : State) (e : Env) (ts : Forest) → J.alike S T → IsValidAt S e ts → IsValidAt T e ts
stands-alike J law S T e ts like s =
    let a = law.alike_looks S T like in
    record {
      live = still S s.live;
      sound = sound-alike S T a s.live s.sound;
      fits = fits-alike S T a s.live s.fits;
      values = free-alike S T a s.live s.values;
      env = trees-alike S T a s.live e s.env;
      trees = trees-alike S T a s.live ts s.trees;
      env_free = s.env_free;
      trees_free = s.trees_free;
    }

-- With a normal form: it stands before what stood at the state that was normalised.

module _ (S T : State) (L M : Live) (within : Within S L M) (later : IsLater S T L) where
  later-counts : (n : ℕ) (k : VariableKind) → not (L n && has_kind k (info S n)) ≡ false → not (M n && has_kind k (info T n)) ≡ false
  later-counts n k e =
      let i = counted (L n) k (info S n) e in
      let j = later.infos n i.0 i.1 in
      counts (M n) k (info T n) (within n (slice_get_within S.variables n i.0 i.1) i.2) (ap (has_kind k) j.there ∙ (ap (λ l. same_kind l k) j.kind ∙ (sym (ap (has_kind k) i.1) ∙ kind-there (L n) k (info S n) e)))

  later-universe : (u : ℕ) → nat_lt S.newest_universe u ≡ false → nat_lt T.newest_universe u ≡ false
  later-universe u e = le-ltb T.newest_universe u (le_trans (ltb-false S.newest_universe u e) later.newest)

  pub strange-later : (h : Head) → is_strange S L h ≡ false → is_strange T M h ≡ false
  strange-later (H.Infer v) e = later-counts v.number (Term v.sort) e
  strange-later (H.Region (R.Var n)) e = later-counts n Region e
  strange-later (H.Placeholder p) e = later-universe p.universe e
  strange-later (H.Const (C.Placeholder p)) e = later-universe p.universe e
  strange-later (H.Region (R.Placeholder p)) e = later-universe p.universe e
  strange-later _ e = refl

  pub trees-later : (ts : Forest) → AreTreesOf S L ts → AreTreesOf T M ts
  trees-later ts a = record { known = holds_imply (is_strange S L) (is_strange T M) strange-later ts a.known; is_closed = a.is_closed }

-- one tree before others
trees-before : (S : State) (L : Live) (t : Tree) (ts : Forest) → AreTreesOf S L (alone t) → AreTreesOf S L ts → AreTreesOf S L (begin t ts)
trees-before S L t ts a b =
    let p = holds_parts (is_strange S L) t.head t.children none a.known in
    let q = closed-parts 0 t.head t.children none a.is_closed in
    record { known = unmarked (is_strange S L) t.head t.children ts p.here p.under b.known; is_closed = closed 0 t.head t.children ts q.here q.under b.is_closed }

-- A tree that stands where others do.
pub record StandsThere (S : State) (e : Env) (ts : Forest) (stands : IsValidAt S e ts) (t : Tree) : Type 0 where
  pub trees : AreTreesOf S stands.live (alone t)
  pub free : holds is_param (alone t) ≡ false

pub stands-normal : (J : Judge) → NormalFormLaws J → (S T : State) (e : Env) (t u : Tree) (ts : Forest) (s : IsValidAt S e ts) → StandsThere S e ts s t → J.normalized S e t ≡ Some (u, T) → IsValidAt T e (begin u ts)
stands-normal J law S T e t u ts s there is =
    let n = law.normalizing_follows S T s.live e t u s.sound s.fits s.env there.trees is in
    let f = n.no_parameter s.values s.env_free there.free in
    let p = holds_parts is_param u.head u.children none f.1 in
    record {
      live = n.follows.live;
      sound = n.follows.sound;
      fits = n.follows.fits;
      values = f.0;
      env = trees-later S T s.live n.follows.live n.follows.within n.follows.later e s.env;
      trees = trees-before T n.follows.live u ts n.tree (trees-later S T s.live n.follows.live n.follows.within n.follows.later ts s.trees);
      env_free = s.env_free;
      trees_free = unmarked is_param u.head u.children ts p.here p.under s.trees_free;
    }

-- The first of them, and those after it.

pub first-there : (S : State) (e : Env) (t : Tree) (ts : Forest) (s : IsValidAt S e (begin t ts)) → StandsThere S e (begin t ts) s t
first-there S e t ts s =
    let p = holds_parts (is_strange S s.live) t.head t.children ts s.trees.known in
    let q = closed-parts 0 t.head t.children ts s.trees.is_closed in
    let r = holds_parts is_param t.head t.children ts s.trees_free in
    record {
      trees = record { known = unmarked (is_strange S s.live) t.head t.children none p.here p.under refl; is_closed = closed 0 t.head t.children none q.here q.under refl };
      free = unmarked is_param t.head t.children none r.here r.under refl;
    }

pub others-stand : (S : State) (e : Env) (t : Tree) (ts : Forest) → IsValidAt S e (begin t ts) → IsValidAt S e ts
others-stand S e t ts s = stands-made S e (begin t ts) ts s (λ m h. (holds_parts m t.head t.children ts h).others) (λ h. (closed-parts 0 t.head t.children ts h).others)

pub first-stands : (S : State) (e : Env) (t : Tree) (ts : Forest) → IsValidAt S e (begin t ts) → IsValidAt S e (alone t)
first-stands S e t ts s =
    stands-made S e (begin t ts) (alone t) s (λ m h. let p = holds_parts m t.head t.children ts h in unmarked m t.head t.children none p.here p.under refl)
    (λ h. let p = closed-parts 0 t.head t.children ts h in closed 0 t.head t.children none p.here p.under refl)

-- The first of the trees below the first, where no binder stands between them.
pub argument-there : (S : State) (e : Env) (h : Head) (below ts : Forest) → binders_of h ≡ 0 → (s : IsValidAt S e (tree h below ts)) → StandsThere S e (tree h below ts) s (first_tree below)
argument-there S e h below ts b s =
    let p = holds_parts (is_strange S s.live) h below ts s.trees.known in
    let q = closed-parts 0 h below ts s.trees.is_closed in
    let r = holds_parts is_param h below ts s.trees_free in
    record {
      trees = record { known = first-unmarked (is_strange S s.live) below refl p.under; is_closed = first-closed below (subst (λ n. escapes n below ≡ false) (ap (λ n. 0 + n) b) q.under) };
      free = first-unmarked is_param below refl r.under;
    }
  where
    first-unmarked : (mark : Head → Bool) (us : Forest) → mark H.Error ≡ false → holds mark us ≡ false → holds mark (alone (first_tree us)) ≡ false
    first-unmarked mark none x e = unmarked mark H.Error none none x refl refl
    first-unmarked mark (tree g inner rest) x e = let p = holds_parts mark g inner rest e in unmarked mark g inner none p.here p.under refl

    first-closed : (us : Forest) → escapes 0 us ≡ false → escapes 0 (alone (first_tree us)) ≡ false
    first-closed none e = refl
    first-closed (tree g inner rest) e = let p = closed-parts 0 g inner rest e in closed 0 g inner none p.here p.under refl

-- Two of them, without the one between.
pub second-dropped : (S : State) (e : Env) (u t : Tree) (ts : Forest) → IsValidAt S e (begin u (begin t ts)) → IsValidAt S e (begin u ts)
second-dropped S e u t ts s =
    stands-made S e (begin u (begin t ts)) (begin u ts) s
    (λ m h. let p = holds_parts m u.head u.children (begin t ts) h in let q = holds_parts m t.head t.children ts p.others in unmarked m u.head u.children ts p.here p.under q.others)
    (λ h. let p = closed-parts 0 u.head u.children (begin t ts) h in let q = closed-parts 0 t.head t.children ts p.others in closed 0 u.head u.children ts p.here p.under q.others)

-- Beside a goal: its self type, and the normal form of what an alias is one of.

pub self-type-beside : {G : Type 0} (K : KindRules G) (B : KindBounds G) → TreesChange K B → (S : State) (c : Context) (g : G) → GoalIsValid K S g → IsValidBeside K S g (self_type K c g)
self-type-beside K B change S c g s =
    let t = self_type K c g in
    let ts = K.trees_of g in
    record {
      live = s.live;
      sound = s.sound;
      fits = s.fits;
      values = s.values;
      env = s.env;
      trees = trees-before S s.live t ts (record { known = change.self_type_holds (is_strange S s.live) c g refl s.trees.known; is_closed = change.self_type_escapes 0 c g s.trees.is_closed }) s.trees;
      env_free = s.env_free;
      trees_free = let p = holds_parts is_param t.head t.children none (change.self_type_holds is_param c g refl s.trees_free) in unmarked is_param t.head t.children ts p.here p.under s.trees_free;
    }

pub normal-beside : {G : Type 0} (K : KindRules G) (J : Judge) → NormalFormLaws J → (S T : State) (g d : G) (t u : Tree) → d ≡ g → binders_of t.head ≡ 0 → IsValidBeside K S g t → J.normalized S (K.env_of g) (first_tree t.children) ≡ Some (u, T)
    → IsValidBeside K T d u
normal-beside K J law S T g d t u same binders s is =
    let ts = K.trees_of g in
    let e = K.env_of g in
    let there = argument-there S e t.head t.children ts binders s in
    subst (λ x. IsValidBeside K T x u) (sym same) (second-dropped T e u t ts (stands-normal J law S T e (first_tree t.children) u (begin t ts) s there is))

-- The goal with a normal form of its self type.
pub replaced-stands : {G : Type 0} (K : KindRules G) (B : KindBounds G) → TreesChange K B → (S : State) (g : G) (t : Tree) → IsValidBeside K S g t → GoalIsValid K S (K.with_self_type g t)
replaced-stands K B change S g t s =
    let ts = K.trees_of g in
    subst (λ e. IsValidAt S e (K.trees_of (K.with_self_type g t))) (sym (change.same_env g t))
    (stands-made S (K.env_of g) (begin t ts) (K.trees_of (K.with_self_type g t)) s
    (λ m h. let p = holds_parts m t.head t.children ts h in change.holds_no_more m g t p.others (unmarked m t.head t.children none p.here p.under refl))
    (λ h. let p = closed-parts 0 t.head t.children ts h in change.escapes_no_more 0 g t p.others (closed 0 t.head t.children none p.here p.under refl)))

-- Values put in.

module _ (v : Values) (a b c : Head → Bool) (heads : (h : Head) → a h ≡ false → b h ≡ false → c h ≡ false)
    (puts : (h : Head) (u : Tree) → a h ≡ false → b h ≡ false → v h ≡ Some u → holds c (alone u) ≡ false) where
  pub valued-unmarked : (d : ℕ) (ts : Forest) → holds a ts ≡ false → holds b ts ≡ false → holds c (fold (λ _ t. v t.head) d ts) ≡ false
  valued-unmarked d none p q = refl
  valued-unmarked d (tree h below rest) p q =
      let x = holds_parts a h below rest p in
      let y = holds_parts b h below rest q in
      node (v h) refl (heads h x.here y.here) x.here y.here (valued-unmarked (d + binders_of h) below x.under y.under) (valued-unmarked d rest x.others y.others)
    where
      node : (o : Option Tree) → v h ≡ o → c h ≡ false → a h ≡ false → b h ≡ false → holds c (fold (λ _ t. v t.head) (d + binders_of h) below) ≡ false → holds c (fold (λ _ t. v t.head) d rest) ≡ false
          → holds c (begin (unwrap_or o (record { head = h; children = fold (λ _ t. v t.head) (d + binders_of h) below })) (fold (λ _ t. v t.head) d rest)) ≡ false
      node None e here p q under others = unmarked c h (fold (λ _ t. v t.head) (d + binders_of h) below) (fold (λ _ t. v t.head) d rest) here under others
      node (Some u) e here p q under others =
          let z = holds_parts c u.head u.children none (puts h u p q e) in
          unmarked c u.head u.children (fold (λ _ t. v t.head) d rest) z.here z.under others

module _ (v : Values) (m : Head → Bool) (are-closed : (h : Head) (u : Tree) → m h ≡ false → v h ≡ Some u → escapes 0 (alone u) ≡ false) where
  valued-closed : (n d : ℕ) (ts : Forest) → holds m ts ≡ false → escapes n ts ≡ false → escapes n (fold (λ _ t. v t.head) d ts) ≡ false
  valued-closed n d none k e = refl
  valued-closed n d (tree h below rest) k e =
      let p = closed-parts n h below rest e in
      let q = holds_parts m h below rest k in
      node (v h) refl q.here p.here (valued-closed (n + binders_of h) (d + binders_of h) below q.under p.under) (valued-closed n d rest q.others p.others)
    where
      node : (o : Option Tree) → v h ≡ o → m h ≡ false → is_beyond n h ≡ false → escapes (n + binders_of h) (fold (λ _ t. v t.head) (d + binders_of h) below) ≡ false → escapes n (fold (λ _ t. v t.head) d rest) ≡ false
          → escapes n (begin (unwrap_or o (record { head = h; children = fold (λ _ t. v t.head) (d + binders_of h) below })) (fold (λ _ t. v t.head) d rest)) ≡ false
      node None e k here under others = closed n h (fold (λ _ t. v t.head) (d + binders_of h) below) (fold (λ _ t. v t.head) d rest) here under others
      node (Some u) e k here under others =
          let z = closed-parts n u.head u.children none (closed-on 0 n (alone u) (omega arith) (are-closed h u k e)) in
          closed n u.head u.children (fold (λ _ t. v t.head) d rest) z.here z.under others

-- What a variable that counts stands for is its value.

pub value-as-is : (x : Bool) (S : State) (k : VariableKind) (n : ℕ) (t : Tree) (i : VariableInfo) → not (x && has_kind k (info S n)) ≡ false → info S n ≡ Some i → value_as S k n ≡ Some t → i.value ≡ Some t
value-as-is x S k n t i c e v = sym (ap value_in e) ∙ (sym (ap (λ b. if b then value_of S n else None) (kind-there x k (info S n) c)) ∙ v)

-- what is said of values holds of what stands for a head
pub value-has : (S : State) (L : Live) (P : Tree → Type 0) → ((n : ℕ) (i : VariableInfo) (t : Tree) → L n ≡ true → info S n ≡ Some i → i.value ≡ Some t → P t) → (h : Head) (t : Tree) → is_strange S L h ≡ false → value_at S h ≡ Some t → P t
value-has S L P f (H.Infer v) t e k = let i = counted (L v.number) (Term v.sort) (info S v.number) e in f v.number i.0 t i.2 i.1 (value-as-is (L v.number) S (Term v.sort) v.number t i.0 e i.1 k)
value-has S L P f (H.Region (R.Var n)) t e k = let i = counted (L n) Region (info S n) e in f n i.0 t i.2 i.1 (value-as-is (L n) S Region n t i.0 e i.1 k)
value-has S L P f _ t e k = cc

pub trees-resolved : (S : State) (L : Live) → IsSound S L → ValuesFit S L → (ts : Forest) → AreTreesOf S L ts → AreTreesOf S L (resolved S ts)
trees-resolved S L sound fits ts a = record {
  known = valued-unmarked (value_at S) (is_strange S L) (is_strange S L) (is_strange S L) (λ h p q. p) (λ h u p q e. value-has S L (λ t. holds (is_strange S L) (alone t) ≡ false) sound.known h u p e) 0 ts a.known a.known;
  is_closed = valued-closed (value_at S) (is_strange S L) (λ h u p e. value-has S L (λ t. escapes 0 (alone t) ≡ false) (λ n i t c f v. (fits n c).is_closed i t f v) h u p e) 0 0 ts a.known a.is_closed;
}

free-resolved : (S : State) (L : Live) → HasNoParameter S L → (ts : Forest) → AreTreesOf S L ts → holds is_param ts ≡ false → holds is_param (resolved S ts) ≡ false
free-resolved S L values ts a e = valued-unmarked (value_at S) (is_strange S L) is_param is_param (λ h p q. q) (λ h u p q f. value-has S L (λ t. holds is_param (alone t) ≡ false) values h u p f) 0 ts a.known e

pub stands-resolved : (S : State) (e : Env) (ts : Forest) → IsValidAt S e ts → IsValidAt S (resolved S e) (resolved S ts)
stands-resolved S e ts s = record {
  live = s.live;
  sound = s.sound;
  fits = s.fits;
  values = s.values;
  env = trees-resolved S s.live s.sound s.fits e s.env;
  trees = trees-resolved S s.live s.sound s.fits ts s.trees;
  env_free = free-resolved S s.live s.values e s.env s.env_free;
  trees_free = free-resolved S s.live s.values ts s.trees s.trees_free;
}

-- Values are of their variables' kinds, so trees keep theirs.

pub sort-kind : (s : VariableSort) (h : Head) → fits_sort s h ≡ true → kind_of h ≡ sort_kind s
sort-kind V.General h e = type-kind (kind_of h) e
  where
    type-kind : (k : Kind) → is_type_kind k ≡ true → k ≡ TypeKind
    type-kind TypeKind e = refl
    type-kind _ e = cc
sort-kind V.Integer (H.Builtin (B.Int w)) e = refl
sort-kind V.Integer (H.Builtin (B.Uint w)) e = refl
sort-kind V.Integer (H.Infer v) e = same v.sort e
  where
    same : (s : VariableSort) → same_sort s V.Integer ≡ true → sort_kind s ≡ TypeKind
    same V.Integer e = refl
    same _ e = cc
sort-kind V.Integer _ e = cc
sort-kind V.Floating (H.Builtin (B.Float w)) e = refl
sort-kind V.Floating (H.Infer v) e = same v.sort e
  where
    same : (s : VariableSort) → same_sort s V.Floating ≡ true → sort_kind s ≡ TypeKind
    same V.Floating e = refl
    same _ e = cc
sort-kind V.Floating _ e = cc
sort-kind V.Constant h e = constant-kind (kind_of h) e
  where
    constant-kind : (k : Kind) → is_constant_kind k ≡ true → k ≡ ConstantKind
    constant-kind ConstantKind e = refl
    constant-kind _ e = cc

region-kind : (h : Head) → is_region h ≡ true → kind_of h ≡ RegionKind
region-kind (H.Region r) e = refl
region-kind _ e = cc

abbrev kind-fitting : VariableKind → Kind
kind-fitting (Term s) = sort_kind s
kind-fitting Region = RegionKind

fitting-kind : (k : VariableKind) (h : Head) → fits_kind k h ≡ true → kind_of h ≡ kind-fitting k
fitting-kind (Term s) h e = sort-kind s h e
fitting-kind Region h e = region-kind h e

same-fitting : (k l : VariableKind) → same_kind k l ≡ true → kind-fitting k ≡ kind-fitting l
same-fitting (Term V.General) (Term V.General) e = refl
same-fitting (Term V.Integer) (Term V.Integer) e = refl
same-fitting (Term V.Floating) (Term V.Floating) e = refl
same-fitting (Term V.Constant) (Term V.Constant) e = refl
same-fitting Region Region e = refl
same-fitting _ _ e = cc

value-kind : (S : State) (L : Live) → ValuesFit S L → (k : VariableKind) (n : ℕ) (t : Tree) → not (L n && has_kind k (info S n)) ≡ false → value_as S k n ≡ Some t → kind_of t.head ≡ kind-fitting k
value-kind S L fits k n t e v =
    let i = counted (L n) k (info S n) e in
    fitting-kind i.0.kind t.head ((fits n i.2).kind i.0 t i.1 (value-as-is (L n) S k n t i.0 e i.1 v)) ∙ same-fitting i.0.kind k (ap (has_kind k) (sym i.1) ∙ kind-there (L n) k (info S n) e)

head-kind : (S : State) (L : Live) → ValuesFit S L → (h : Head) (t : Tree) → is_strange S L h ≡ false → value_at S h ≡ Some t → kind_of t.head ≡ kind_of h
head-kind S L fits (H.Infer v) t e f = value-kind S L fits (Term v.sort) v.number t e f
head-kind S L fits (H.Region (R.Var n)) t e f = value-kind S L fits Region n t e f
head-kind S L fits _ t e f = cc

pub kinds-resolved : (S : State) (L : Live) → ValuesFit S L → (ts : Forest) → holds (is_strange S L) ts ≡ false → kinds_of (resolved S ts) ≡ kinds_of ts
kinds-resolved S L fits none e = refl
kinds-resolved S L fits (tree h below rest) e =
    let p = holds_parts (is_strange S L) h below rest e in
    node (value_at S h) refl p.here (kinds-resolved S L fits rest p.others)
  where
    node : (o : Option Tree) → value_at S h ≡ o → is_strange S L h ≡ false → kinds_of (resolved S rest) ≡ kinds_of rest
        → kinds_of (begin (unwrap_or o (record { head = h; children = fold (λ _ t. value_at S t.head) (0 + binders_of h) below })) (resolved S rest)) ≡ kinds_of (tree h below rest)
    node None e k others = ap (λ ks. kind_of h ∷ ks) others
    node (Some t) e k others = ap (λ x. x ∷ kinds_of (resolved S rest)) (head-kind S L fits h t k e) ∙ ap (λ ks. kind_of h ∷ ks) others
