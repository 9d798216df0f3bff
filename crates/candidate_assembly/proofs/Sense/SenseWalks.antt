-- The walk over a clause that is characterised comes to a state whose values make sense.
use Rattle.std.proofs.Common.{◌≡◌, ◌+◌, ◌==◌, ℕ, zero, suc, Bool, true, false, not, Option, Some, None, List, [], ◌∷◌, refl, sym, subst, ◌∙◌, arith, nat_le, nat_lt, if◌then◌else◌}
use Rattle.std.specs.List.{All}
use Rattle.std.specs.Option.{unwrap_or}
use Rattle.std.specs.Prelude.{◌||◌}
use Rattle.std.proofs.lemmas.Bool.{eqb-true}
use Rattle.std.proofs.Math.Nat.{le_trans}
use Rattle.std.proofs.lemmas.List.Elements.{All-cons, All-head, All-nil, All-tail, All-weaker}
use Rattle.ir_trees.specs.declared.ir.heads.ConstHead.TheVariants as C
use Rattle.ir_trees.specs.declared.ir.heads.Head.{Head}
use Rattle.ir_trees.specs.declared.ir.heads.Head.TheVariants as H
use Rattle.ir_trees.specs.declared.ir.kinds.BoundVar.{BoundVar}
use Rattle.ir_trees.specs.declared.ir.kinds.RegionKind.TheVariants as R
use Rattle.ir_trees.specs.declared.ir.kinds.VarKind.{VarKind}
use Rattle.ir_trees.specs.declared.ir.kinds.VarKind.TheVariants as V
use Rattle.ir_trees.specs.declared.ir.stop.Stop.TheVariants.{ConstDepth}
use Rattle.ir_trees.specs.Syntax.Binders.{escapes, is_beyond}
use Rattle.ir_trees.specs.Instantiation.Folding.{argument, fold, leaf, shift_tree}
use Rattle.ir_trees.specs.Instantiation.Opening.{bound_head, error_of, is_of, nearer, of_kind, opened, opened_head, opened_variable}
use Rattle.ir_trees.specs.Unification.Substitutions.{alone}
use Rattle.ir_trees.specs.Hierarchy.Supers.{after_first}
use Rattle.ir_trees.specs.Syntax.Trees.{ConstantKind, Forest, Kind, RegionKind, Tree, TypeKind, binders_of, holds, kind_of, none, tree}
use Rattle.ir_trees.proofs.Instantiation.Folding.{begin}
use Rattle.candidate_eval.specs.declared.eval.certainty.Certainty.TheVariants.{Yes}
use Rattle.candidate_eval.specs.Outcomes.Certainties.{AMBIGUOUS}
use Rattle.candidate_eval.specs.Derivations.Characterization.{Bounded, Finds, Goes, Group, Loose, Refuses, Stops, Walk, and_then, characterization, each, each_group, each_group_of, group_at, group_of, groups, in_normal_form, is_any_bound, is_any_variable, is_of_interest, is_placeholder, is_root_placeholder, looked, most_visits, too_deep, under_binder, visited, visited_as}
use Rattle.candidate_eval.specs.Judges.Lawful.{Lawful}
use Rattle.candidate_eval.specs.Judges.Soundness.{AreTreesOf, IsLater, IsSound, Live, ValuesFit, Within, is_strange}
use Rattle.candidate_eval.specs.Judges.States.{Env, Judge, State, placeholders, resolved_tree, with_universe}
use Rattle.candidate_eval.proofs.Marks.Closed.{after-closed, binder-one, closed, closed-on, closed-parts, closed-shift}
use Rattle.candidate_eval.proofs.Marks.Holds.{holds_imply, holds_parts}
use Rattle.candidate_eval.proofs.Marks.Marking.{after-unmarked, argument-unmarked, unmarked}
use Rattle.candidate_assembly.proofs.Refusals.KnownHeaders.{argument-closed}
use Rattle.candidate_assembly.proofs.Sense.Sense.{StaysKnown, placeholders-trees, trees-stay, universe-sound, universe-stays}
use Rattle.candidate_assembly.proofs.Sense.SenseLater.{later-along, later-itself, later-universe}
use Rattle.candidate_assembly.proofs.Goals.Standing.{strange-later}

-- What stood under a binder, with trees in the place of its variables.

-- What stands for a head: an argument, a variable that is bound further out, or nothing.
data Opens (F : Forest) (d : ℕ) (h : Head) : Option Tree → Type 0 where
  argument_of : (k : VarKind) (i : ℕ) → Opens F d h (Some (shift_tree d (of_kind k (argument F i))))
  further_out : (k : VarKind) (v : BoundVar) → is_beyond (suc d) h ≡ true → Opens F d h (Some (leaf (bound_head k v)))
  itself : (is_beyond (suc d) h ≡ false → is_beyond d h ≡ false) → Opens F d h None

module _ (F : Forest) (d : ℕ) (h : Head) (v : BoundVar) (k : VarKind) (depth : (n : ℕ) → is_beyond n h ≡ nat_le n v.depth) where
  opens-variable : Opens F d h (opened_variable F d k v)
  opens-variable = at (v.depth == d) refl
    where
      less : (n m : ℕ) → (n == m) ≡ false → nat_lt m n ≡ false → nat_le m n ≡ false
      less n m e f = grind (arith, e, f)

      by : (b : Bool) → nat_lt d v.depth ≡ b → (v.depth == d) ≡ false → Opens F d h (if b then Some (leaf (bound_head k (nearer v))) else None)
      by true e f = further_out k (nearer v) (depth (suc d) ∙ e)
      by false e f = itself (λ g. depth d ∙ less v.depth d f e)

      at : (b : Bool) → (v.depth == d) ≡ b → Opens F d h (if b then Some (shift_tree d (of_kind k (argument F v.index))) else (if nat_lt d v.depth then Some (leaf (bound_head k (nearer v))) else None))
      at true e = argument_of k v.index
      at false e = by (nat_lt d v.depth) refl e

which-opens : (F : Forest) (d : ℕ) (h : Head) → Opens F d h (opened_head F d h)
which-opens F d (H.Bound v) = opens-variable F d (H.Bound v) v V.Ty (λ n. refl)
which-opens F d (H.Const (C.Bound v)) = opens-variable F d (H.Const (C.Bound v)) v V.Const (λ n. refl)
which-opens F d (H.Region (R.Bound v)) = opens-variable F d (H.Region (R.Bound v)) v V.Region (λ n. refl)
which-opens F d _ = itself (λ e. refl)

of-kind-has : (P : Tree → Type 0) (k : VarKind) (t : Tree) → P t → P (leaf (error_of k)) → P (of_kind k t)
of-kind-has P k t a b = at (is_of k (kind_of t.head))
  where
    at : (x : Bool) → P (if x then t else leaf (error_of k))
    at true = a
    at false = b

abbrev opens : Forest → ℕ → Forest → Forest
opens F d ts = fold (λ d t. opened_head F d t.head) d ts

module _ (F : Forest) (e : escapes 0 F ≡ false) where
  error-closed : (k : VarKind) → escapes 0 (alone (leaf (error_of k))) ≡ false
  error-closed V.Ty = refl
  error-closed V.Const = refl
  error-closed V.Region = refl

  kind-closed : (k : VarKind) (i : ℕ) → escapes 0 (alone (of_kind k (argument F i))) ≡ false
  kind-closed k i = of-kind-has (λ t. escapes 0 (alone t) ≡ false) k (argument F i) (argument-closed F i e) (error-closed k)

  -- the argument itself
  unshifted : (P : Tree → Type 0) (d : ℕ) (k : VarKind) (i : ℕ) → P (of_kind k (argument F i)) → P (shift_tree d (of_kind k (argument F i)))
  unshifted P d k i a = subst P (sym (closed-shift d (of_kind k (argument F i)) (kind-closed k i))) a

  opened-closed : (d : ℕ) (ts : Forest) → escapes (suc d) ts ≡ false → escapes d (opens F d ts) ≡ false
  opened-closed d none x = refl
  opened-closed d (tree h below rest) x =
      let p = closed-parts (suc d) h below rest x in
      node (opened_head F d h) (which-opens F d h) p.here
      (opened-closed (d + binders_of h) below (closed-on (suc d + binders_of h) (suc (d + binders_of h)) below (omega arith) p.under))
      (opened-closed d rest p.others)
    where
      node : (o : Option Tree) → Opens F d h o → is_beyond (suc d) h ≡ false → escapes (d + binders_of h) (opens F (d + binders_of h) below) ≡ false → escapes d (opens F d rest) ≡ false
          → escapes d (begin (unwrap_or o (record { head = h; children = opens F (d + binders_of h) below })) (opens F d rest)) ≡ false
      node _ (argument_of k i) q under others =
          let t : Tree = shift_tree d (of_kind k (argument F i)) in
          let z = closed-parts d t.head t.children none (unshifted (λ u. escapes d (alone u) ≡ false) d k i (closed-on 0 d (alone (of_kind k (argument F i))) (omega arith) (kind-closed k i))) in
          closed d t.head t.children (opens F d rest) z.here z.under others
      node _ (further_out k v f) q under others = absurd (let clash : true ≡ false = sym f ∙ q in cc)
      node _ (itself f) q under others = closed d h (opens F (d + binders_of h) below) (opens F d rest) (f q) under others

  module _ (mark : Head → Bool) (error : (k : VarKind) → mark (error_of k) ≡ false) (bound : (k : VarKind) (v : BoundVar) → mark (bound_head k v) ≡ false) (given : holds mark F ≡ false) where
    pub opened-unmarked : (d : ℕ) (ts : Forest) → holds mark ts ≡ false → holds mark (opens F d ts) ≡ false
    opened-unmarked d none x = refl
    opened-unmarked d (tree h below rest) x =
        let p = holds_parts mark h below rest x in
        node (opened_head F d h) (which-opens F d h) p.here (opened-unmarked (d + binders_of h) below p.under) (opened-unmarked d rest p.others)
      where
        node : (o : Option Tree) → Opens F d h o → mark h ≡ false → holds mark (opens F (d + binders_of h) below) ≡ false → holds mark (opens F d rest) ≡ false
            → holds mark (begin (unwrap_or o (record { head = h; children = opens F (d + binders_of h) below })) (opens F d rest)) ≡ false
        node _ (argument_of k i) q under others =
            let t : Tree = shift_tree d (of_kind k (argument F i)) in
            let a = of-kind-has (λ u. holds mark (alone u) ≡ false) k (argument F i) (argument-unmarked mark F i (error V.Ty) given) (unmarked mark (error_of k) none none (error k) refl refl) in
            let z = holds_parts mark t.head t.children none (unshifted (λ u. holds mark (alone u) ≡ false) d k i a) in
            unmarked mark t.head t.children (opens F d rest) z.here z.under others
        node _ (further_out k v f) q under others = unmarked mark (bound_head k v) none (opens F d rest) (bound k v) refl others
        node _ (itself f) q under others = unmarked mark h (opens F (d + binders_of h) below) (opens F d rest) q under others

pub error-known : (S : State) (L : Live) (k : VarKind) → is_strange S L (error_of k) ≡ false
error-known S L V.Ty = refl
error-known S L V.Const = refl
error-known S L V.Region = refl

pub bound-known : (S : State) (L : Live) (k : VarKind) (v : BoundVar) → is_strange S L (bound_head k v) ≡ false
bound-known S L V.Ty v = refl
bound-known S L V.Const v = refl
bound-known S L V.Region v = refl

pub opened-trees : (S : State) (L : Live) (F ts : Forest) → AreTreesOf S L F → holds (is_strange S L) ts ≡ false → escapes 1 ts ≡ false → AreTreesOf S L (opened F ts)
opened-trees S L F ts a known is-closed = record {
  known = opened-unmarked F a.is_closed (is_strange S L) (error-known S L) (bound-known S L) a.known 0 ts known;
  is_closed = opened-closed F a.is_closed 0 ts is-closed;
}

-- A state to which a walk leads.
pub record Leads (S : State) (L : Live) (T : State) : Type 0 where
  pub live : Live
  pub sound : IsSound T live
  pub fits : ValuesFit T live
  pub stays : StaysKnown S L T live
  pub first : IsSound S L
  pub within : Within S L live
  pub later : IsLater S T L

abbrev leads-itself : (S : State) (L : Live) → IsSound S L → ValuesFit S L → Leads S L S
leads-itself S L sound fits = record { live = L; sound = sound; fits = fits; stays = λ h x. x; first = sound; within = λ n l c. c; later = later-itself S L sound }

leads-along : (S : State) (L : Live) (T : State) (l : Leads S L T) (U : State) → Leads T l.live U → Leads S L U
leads-along S L T l U m = record {
  live = m.live;
  sound = m.sound;
  fits = m.fits;
  stays = λ h x. m.stays h (l.stays h x);
  first = l.first;
  within = λ n k c. m.within n (le_trans k l.later.longer) (l.within n k c);
  later = later-along S T U L l.live l.first l.within l.later m.later;
}

abbrev pub WalkLeads : State → Live → Walk → Type 0
WalkLeads S L (Goes T) = Leads S L T
WalkLeads S L (Finds T c) = Leads S L T
WalkLeads S L Refuses = Unit {0}
WalkLeads S L (Stops s) = Unit {0}

walk-along : (S : State) (L : Live) (T : State) (l : Leads S L T) (w : Walk) → WalkLeads T l.live w → WalkLeads S L w
walk-along S L T l (Goes U) h = leads-along S L T l U h
walk-along S L T l (Finds U c) h = leads-along S L T l U h
walk-along S L T l Refuses h = tt
walk-along S L T l (Stops s) h = tt

and-then-leads : (S : State) (L : Live) (w : Walk) (k : State → Walk) → WalkLeads S L w → ((T : State) (l : Leads S L T) → WalkLeads T l.live (k T)) → WalkLeads S L (and_then w k)
and-then-leads S L (Goes T) k h on = walk-along S L T h (k T) (on T h)
and-then-leads S L (Finds T c) k h on = h
and-then-leads S L Refuses k h on = tt
and-then-leads S L (Stops s) k h on = tt

if-leads : (S : State) (L : Live) (b : Bool) (v w : Walk) → WalkLeads S L v → WalkLeads S L w → WalkLeads S L (if b then v else w)
if-leads S L true v w h k = h
if-leads S L false v w h k = k

abbrev pub VisitLeads : Env → (State → Tree → Walk) → Type 0
VisitLeads e visit = (S : State) (L : Live) → IsSound S L → ValuesFit S L → AreTreesOf S L e → (t : Tree) → AreTreesOf S L (alone t) → WalkLeads S L (visit S t)

each-leads : (e : Env) (visit : State → Tree → Walk) → VisitLeads e visit → (S : State) (L : Live) → IsSound S L → ValuesFit S L → AreTreesOf S L e → (ts : Forest) → AreTreesOf S L ts → WalkLeads S L (each visit S ts)
each-leads e visit h S L sound fits env none a = leads-itself S L sound fits
each-leads e visit h S L sound fits env (tree head below rest) a =
    let p = holds_parts (is_strange S L) head below rest a.known in
    let q = closed-parts 0 head below rest a.is_closed in
    let t : Tree = record { head = head; children = below } in
    and-then-leads S L (visit S t) (λ T. each visit T rest)
    (h S L sound fits env t (record { known = unmarked (is_strange S L) head below none p.here p.under refl; is_closed = closed 0 head below none q.here q.under refl }))
    (λ T l. each-leads e visit h T l.live l.sound l.fits (trees-stay S L T l.live l.stays e env) rest (trees-stay S L T l.live l.stays rest (record { known = p.others; is_closed = q.others })))

-- Groups of trees of a state; under a binder its variables may stand.

abbrev GroupIsOf : State → Live → Group → Type 0
GroupIsOf S L (Loose ts) = AreTreesOf S L ts
GroupIsOf S L (Bounded ks ts) = (holds (is_strange S L) ts ≡ false) × (escapes 1 ts ≡ false)

group-stays : (S : State) (L : Live) (T : State) (M : Live) → StaysKnown S L T M → (g : Group) → GroupIsOf S L g → GroupIsOf T M g
group-stays S L T M stays (Loose ts) a = trees-stay S L T M stays ts a
group-stays S L T M stays (Bounded ks ts) a = (holds_imply (is_strange S L) (is_strange T M) stays ts a.0, a.1)

abbrev GroupLeads : State → Live → State × Forest → Type 0
GroupLeads S L at = (l : Leads S L at.0) × AreTreesOf at.0 l.live at.1

group-leads : (S : State) (L : Live) → IsSound S L → ValuesFit S L → (g : Group) → GroupIsOf S L g → GroupLeads S L (group_at S g)
group-leads S L sound fits (Loose ts) a = (leads-itself S L sound fits, a)
group-leads S L sound fits (Bounded [] ts) a = (leads-itself S L sound fits, opened-trees S L none ts (record { known = refl; is_closed = refl }) a.0 a.1)
group-leads S L sound fits (Bounded (k ∷ ks) ts) a =
    let T = with_universe S in (
      record { live = L; sound = universe-sound S L sound; fits = fits; stays = universe-stays S L; first = sound; within = λ n l c. c; later = later-universe S L sound },
      opened-trees T L (placeholders (suc S.newest_universe) 0 (k ∷ ks)) ts (placeholders-trees S L (k ∷ ks)) (holds_imply (is_strange S L) (is_strange T L) (universe-stays S L) ts a.0) a.1,
    )

groups-lead : (e : Env) (visit : State → Tree → Walk) → VisitLeads e visit → (S : State) (L : Live) → IsSound S L → ValuesFit S L → AreTreesOf S L e → (gs : List Group) → All (GroupIsOf S L) gs → WalkLeads S L (each_group visit S gs)
groups-lead e visit h S L sound fits env [] all = leads-itself S L sound fits
groups-lead e visit h S L sound fits env (g ∷ gs) all =
    let at = group_at S g in
    let x = group-leads S L sound fits g (All-head (GroupIsOf S L) g gs all) in
    let l = x.0 in
    and-then-leads S L (each visit at.0 at.1) (λ T. each_group visit T gs)
    (walk-along S L at.0 l (each visit at.0 at.1) (each-leads e visit h at.0 l.live l.sound l.fits (trees-stay S L at.0 l.live l.stays e env) at.1 x.1))
    (λ T m. groups-lead e visit h T m.live m.sound m.fits (trees-stay S L T m.live m.stays e env) gs (All-weaker (GroupIsOf S L) (GroupIsOf T m.live) (group-stays S L T m.live m.stays) gs (All-tail (GroupIsOf S L) g gs all)))

under-binder : (S : State) (L : Live) (h : Head) (below : Forest) → holds (is_strange S L) below ≡ false → escapes (0 + binders_of h) below ≡ false → GroupIsOf S L (under_binder below)
under-binder S L h below known is-closed =
    let few = binder-one h in
    (after-unmarked (is_strange S L) below known, after-closed 1 below (closed-on (0 + binders_of h) 1 below (omega (arith, few)) is-closed))

group-is-of : (S : State) (L : Live) (h : Head) (below : Forest) → is_strange S L h ≡ false → holds (is_strange S L) below ≡ false → is_beyond 0 h ≡ false → escapes (0 + binders_of h) below ≡ false → GroupIsOf S L (group_of h below)
group-is-of S L (H.Part p) below a b c d = under-binder S L (H.Part p) below b d
group-is-of S L h below a b c d = record { known = unmarked (is_strange S L) h below none a b refl; is_closed = closed 0 h below none c d refl }

each-group-is-of : (S : State) (L : Live) (ts : Forest) → holds (is_strange S L) ts ≡ false → escapes 0 ts ≡ false → All (GroupIsOf S L) (each_group_of ts)
each-group-is-of S L none a b = All-nil (GroupIsOf S L)
each-group-is-of S L (tree h below rest) a b =
    let p = holds_parts (is_strange S L) h below rest a in
    let q = closed-parts 0 h below rest b in
    All-cons (GroupIsOf S L) (group_of h below) (each_group_of rest) (group-is-of S L h below p.here p.under q.here q.under) (each-group-is-of S L rest p.others q.others)

groups-are-of : (S : State) (L : Live) (h : Head) (below : Forest) → holds (is_strange S L) below ≡ false → escapes (0 + binders_of h) below ≡ false → All (GroupIsOf S L) (groups h below)
groups-are-of S L h below a b = at (binders_of h == 0) refl
  where
    at : (x : Bool) → (binders_of h == 0) ≡ x → All (GroupIsOf S L) (if x then each_group_of below else under_binder below ∷ [])
    at true e = each-group-is-of S L below a (subst (λ n. escapes (0 + n) below ≡ false) (eqb-true (binders_of h) 0 e) b)
    at false e = All-cons (GroupIsOf S L) (under_binder below) [] (under-binder S L h below a b) (All-nil (GroupIsOf S L))

looked-leads : (e : Env) (deeper : State → Tree → Walk) → VisitLeads e deeper → (b : Bool) → VisitLeads e (looked deeper b)
looked-leads e deeper h b S L sound fits env t a =
    let same = leads-itself S L sound fits in
    let below = each_group deeper S (groups t.head t.children) in
    let deep = if b then Finds S too_deep else below in
    let plain = if not (holds is_of_interest (alone t)) then Goes S else deep in
    let open_one = if is_any_variable t.head then Finds S AMBIGUOUS else plain in
    let rigid = if is_placeholder t.head then Goes S else open_one in
    let p = holds_parts (is_strange S L) t.head t.children none a.known in
    let q = closed-parts 0 t.head t.children none a.is_closed in
    if-leads S L (is_root_placeholder t.head) (Finds S Yes) rigid same
    (if-leads S L (is_placeholder t.head) (Goes S) open_one same
    (if-leads S L (is_any_variable t.head) (Finds S AMBIGUOUS) plain same
    (if-leads S L (not (holds is_of_interest (alone t))) (Goes S) deep same
    (if-leads S L b (Finds S too_deep) below same (groups-lead e deeper h S L sound fits env (groups t.head t.children) (groups-are-of S L t.head t.children p.under q.under))))))

module _ (J : Judge) (law : Lawful J) (e : Env) where
  normal-leads : (k : State → Tree → Walk) → VisitLeads e k → VisitLeads e (λ S t. in_normal_form (J.normalized S e t) k)
  normal-leads k h S L sound fits env t a = at (J.normalized S e t) refl
    where
      at : (o : Option (Tree × State)) → J.normalized S e t ≡ o → WalkLeads S L (in_normal_form o k)
      at None is = tt
      at (Some n) is =
          let T = n.1 in
          let x = law.normal_forms.normalizing_follows S T L e t n.0 sound fits env a is in
          let f = x.follows in
          let l : Leads S L T = record { live = f.live; sound = f.sound; fits = f.fits; stays = strange-later S T L f.live f.within f.later; first = sound; within = f.within; later = f.later } in
          walk-along S L T l (k T n.0) (h T f.live f.sound f.fits (trees-stay S L T f.live l.stays e env) n.0 x.tree)

  -- a part by its kind, where deeper visits lead on
  part-leads : (n level depth : ℕ) → ((l d : ℕ) → VisitLeads e (visited J e n l d)) → (k : Kind) → VisitLeads e (λ S t. visited_as J e (visited J e n) level depth S t k)
  part-leads n level depth h TypeKind S L sound fits env t a =
      normal-leads (looked (visited J e n (suc level) depth) (nat_lt J.limits.recursion level)) (looked-leads e (visited J e n (suc level) depth) (h (suc level) depth) (nat_lt J.limits.recursion level)) S L sound fits env t a
  part-leads n level depth h ConstantKind S L sound fits env t a =
      if-leads S L (nat_lt depth J.limits.const_depth) (in_normal_form (J.normalized S e t) (looked (visited J e n level (suc depth)) false)) (Stops ConstDepth)
      (normal-leads (looked (visited J e n level (suc depth)) false) (looked-leads e (visited J e n level (suc depth)) (h level (suc depth)) false) S L sound fits env t a) tt
  part-leads n level depth h RegionKind S L sound fits env t a =
      let head = (resolved_tree S t).head in
      if-leads S L (is_root_placeholder head || is_any_variable head) (Finds S Yes) (Goes S) (leads-itself S L sound fits) (leads-itself S L sound fits)
  part-leads n level depth h _ S L sound fits env t a = leads-itself S L sound fits

  visited-leads : (n level depth : ℕ) → VisitLeads e (visited J e n level depth)
  visited-leads zero level depth S L sound fits env t a = tt
  visited-leads (suc n) level depth S L sound fits env t a = part-leads n level depth (λ l d. visited-leads n l d) (kind_of t.head) S L sound fits env t a

  pub characterized-leads : (S : State) (L : Live) → IsSound S L → ValuesFit S L → AreTreesOf S L e → (c : Tree) → AreTreesOf S L (alone c) → WalkLeads S L (characterization J e S c)
  characterized-leads S L sound fits env c a =
      let parts = opened none (after_first c.children) in
      let p = holds_parts (is_strange S L) c.head c.children none a.known in
      let q = closed-parts 0 c.head c.children none a.is_closed in
      let u = under-binder S L c.head c.children p.under q.under in
      if-leads S L (holds is_any_bound c.children) (Finds S Yes) (each (visited J e (most_visits J) 1 0) S parts) (leads-itself S L sound fits)
      (each-leads e (visited J e (most_visits J) 1 0) (visited-leads (most_visits J) 1 0) S L sound fits env parts (opened-trees S L none (after_first c.children) (record { known = refl; is_closed = refl }) u.0 u.1))
