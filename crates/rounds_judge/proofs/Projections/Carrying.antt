-- What a Yes and what is listed say of trees at a state is said of them at one that follows.
use Rattle.std.proofs.Common.{◌≡◌, ◌≤◌, ◌<◌, ℕ, Bool, true, false, Option, Some, None, inl, inr, arith, refl, sym, ap, subst, ◌∙◌, if◌then◌else◌}
use Rattle.std.specs.Option.{unwrap_or}
use Rattle.std.proofs.lemmas.Bool.{leb-false, lt-leb}
use Rattle.ir_trees.specs.declared.ir.heads.ConstHead.TheVariants as C
use Rattle.ir_trees.specs.declared.ir.heads.Head.{Head}
use Rattle.ir_trees.specs.declared.ir.heads.Head.TheVariants as H
use Rattle.ir_trees.specs.declared.ir.heads.Variable.{Variable}
use Rattle.ir_trees.specs.declared.ir.heads.VariableSort.{VariableSort}
use Rattle.ir_trees.specs.declared.ir.heads.VariableSort.TheVariants as V
use Rattle.ir_trees.specs.declared.ir.kinds.AssocId.{AssocId}
use Rattle.ir_trees.specs.Syntax.Binders.{escapes}
use Rattle.ir_trees.specs.Syntax.Trees.{Forest, none, tree, Tree, holds}
use Rattle.ir_trees.specs.Unification.Substitutions.{Universes, alone, fits_sort}
use Rattle.ir_trees.proofs.Instantiation.Folding.{begin}
use Rattle.candidate_eval.specs.Derivations.ImplRules.{TraitGoal}
use Rattle.candidate_eval.specs.Judges.Instances.{Instance, IsAllowedInto, answer_values, instance, is_of_universe, response_universes}
use Rattle.candidate_eval.specs.Judges.Soundness.{IsLater, IsSound, Live, ValuesFit, Within, is_strange, universes}
use Rattle.candidate_eval.specs.Judges.States.{Env, State, Values, resolved, valued, valued_tree, value_at}
use Rattle.candidate_eval.specs.Outcomes.Responses.{Response}
use Rattle.rounds_judge.specs.Aliases.Congruence.{Same, SameBy, along, back, pair, same}
use Rattle.rounds_judge.specs.Aliases.Listed.{Listing}
use Rattle.rounds_judge.specs.Equations.Standing.{IsListing, is_made}
use Rattle.rounds_judge.specs.Obligations.Settling.{alias_of, arguments_of, first_fact, last_or, term_of, without_last}
use Rattle.rounds_judge.specs.Projections.ProjectionGoals.{ProjectionTables, projection_goal}
use Rattle.rounds_judge.specs.Projections.ProjectionGranted.{AreOne}
use Rattle.rounds_judge.specs.Table.GoalTable.{GoalTable}
use Rattle.rounds_judge.specs.Table.TableGranted.{IsGrantedByYes, answered}
use Rattle.rounds_judge.proofs.Aliases.Congruent.{fixed_stays, is_stray, listed_pair, same_instance, terms_of, without_regions}
use Rattle.rounds_judge.proofs.Projections.Equality.{moved}
use Rattle.rounds_judge.proofs.States.Bound.{fits_through}
use Rattle.rounds_judge.proofs.States.Later.{strange_stays, value_closed}
use Rattle.rounds_judge.proofs.States.Marks.{fold_closed, fold_marked, valued_same, valued_twice}
use Rattle.rounds_judge.proofs.Table.TableGranting.{plain, universe_falls, value_fits, value_low}
use Rattle.rounds_judge.proofs.Unifiers.Putting.{nowhere}

-- Values in the facts of a projection

last_put : (v : Values) (t : Tree) (ts : Forest) → last_or (valued_tree v t) (valued v ts) ≡ valued_tree v (last_or t ts)
last_put v t none = refl
last_put v t (tree h below rest) = last_put v (record { head = h; children = below }) rest

without_last_put : (v : Values) (t : Tree) (ts : Forest) → without_last (valued_tree v t) (valued v ts) ≡ valued v (without_last t ts)
without_last_put v t none = refl
without_last_put v t (tree h below rest) = ap (begin (valued_tree v t)) (without_last_put v (record { head = h; children = below }) rest)

arguments_put : (v : Values) (ts : Forest) → arguments_of (valued v ts) ≡ valued v (arguments_of ts)
arguments_put v none = refl
arguments_put v (tree h below rest) = without_last_put v (record { head = h; children = below }) rest

module _ (i : Instance) where
  pub term_put : (ts : Forest) → term_of (valued (instance i) ts) ≡ valued_tree (instance i) (term_of ts)
  term_put none = refl
  term_put (tree h below rest) = last_put (instance i) (record { head = h; children = below }) rest

  pub alias_put : (n : AssocId) (ts : Forest) → alias_of n (valued (instance i) ts) ≡ valued_tree (instance i) (alias_of n ts)
  alias_put n ts = ap (λ xs. record { head = (alias_of n ts).head; children = xs }) (arguments_put (instance i) ts)

  pub first_put : (ts : Forest) → first_fact (valued (instance i) ts) ≡ valued_tree (instance i) (first_fact ts)
  first_put none = refl
  first_put (tree h below rest) = refl

-- Values that are allowed, and then those that are allowed further on

module _ (u w x : Universes) (values : Variable → Tree) (o : Instance) (before : IsAllowedInto u w (λ v. Some (values v))) (further : IsAllowedInto w x o) where
  abbrev pub both_put : Variable → Tree
  both_put v = valued_tree (instance o) (values v)

  put_fits : (s : VariableSort) (t : Tree) → fits_sort s t.head ≡ true → fits_sort s (valued_tree (instance o) t).head ≡ true
  put_fits s t = at t.head t.children
    where
      variable : (v : Variable) (below : Forest) → fits_sort s (H.Infer v) ≡ true → (m : Option Tree) → o v ≡ m → fits_sort s (unwrap_or m (record { head = H.Infer v; children = below })).head ≡ true
      variable v below e None f = e
      variable v below e (Some y) f = fits_through s v y.head e (further.fits v y f)

      at : (h : Head) (below : Forest) → fits_sort s h ≡ true → fits_sort s (valued_tree (instance o) (record { head = h; children = below })).head ≡ true
      at (H.Infer v) below e = variable v (valued (instance o) below) e (o v) refl
      at h below e = e

  put_closed : (h : Head) (t : Tree) → instance o h ≡ Some t → escapes 0 (alone t) ≡ false
  put_closed (H.Infer v) t e = further.is_closed v t e
  put_closed _ t e = cc

  left_low : (n : ℕ) (h : Head) → is_of_universe w n h ≡ false → instance o h ≡ None → is_of_universe x n h ≡ false
  left_low n (H.Infer v) e f =
      let low = further.stays v f in
      let less = leb-false n (w v) e in
      lt-leb n (x v) (omega (arith, low, less))
  left_low n (H.Placeholder p) e f = e
  left_low n (H.Const (C.Placeholder p)) e f = e
  left_low n _ e f = refl

  put_low : (n : ℕ) (h : Head) (t : Tree) → is_of_universe w n h ≡ false → instance o h ≡ Some t → holds (is_of_universe x n) (alone t) ≡ false
  put_low n (H.Infer v) t e f = further.in_universe v t n f (leb-false n (w v) e)
  put_low n _ t e f = cc

  said : (P : Tree → Type 0) (v : Variable) (t : Tree) → Some (both_put v) ≡ Some t → P (both_put v) → P t
  said P v t e y = subst P (let is : both_put v ≡ t = cc in is) y

  pub both_allowed : IsAllowedInto u x (λ v. Some (both_put v))
  both_allowed = record {
    fits = λ v t e. said (λ t. fits_sort v.sort t.head ≡ true) v t e (put_fits v.sort (values v) (before.fits v (values v) refl));
    is_closed = λ v t e. said (λ t. escapes 0 (alone t) ≡ false) v t e (fold_closed (λ d y. instance o y.head) (λ d y z f. put_closed y.head z f) 0 0 (alone (values v)) (before.is_closed v (values v) refl));
    in_universe = λ v t n e less.
        let low = before.in_universe v (values v) n refl less in
        said (λ t. holds (is_of_universe x n) (alone t) ≡ false) v t e
        (fold_marked (λ d y. instance o y.head) (is_of_universe w n) (is_of_universe w n) (is_of_universe x n) (λ d y a b f. left_low n y.head a f) (λ d y z a b f. put_low n y.head z a f) 0 (alone (values v)) low low);
    stays = λ v e. absurd (let clash : Some (both_put v) ≡ None = e in cc);
  }

-- what is answered, and then put in
module _ (values : Variable → Tree) (o : Instance) where
  one_put : (h : Head) (t : Tree) → instance (λ v. Some (values v)) h ≡ Some t → instance (λ v. Some (valued_tree (instance o) (values v))) h ≡ Some (valued_tree (instance o) t)
  one_put (H.Infer v) t e = ap (λ y. Some (valued_tree (instance o) y)) (let is : values v ≡ t = cc in is)
  one_put _ t e = cc

  none_put : (h : Head) → instance (λ v. Some (values v)) h ≡ None → instance (λ v. Some (valued_tree (instance o) (values v))) h ≡ instance o h
  none_put (H.Infer v) e = cc
  none_put _ e = refl

  pub answered_put : (r : Response) (ts : Forest) → valued (instance o) (answered r values ts) ≡ answered r (λ v. valued_tree (instance o) (values v)) ts
  answered_put r ts =
      valued_twice (instance (λ v. Some (values v))) (instance o) (instance (λ v. Some (valued_tree (instance o) (values v)))) (λ h. false) (λ h t m e. one_put h t e) (λ h m e. none_put h e)
      (valued (answer_values r) ts) (nowhere (valued (answer_values r) ts))

-- The values of the state that follows, and something plain for what the first one doesn't know.

module _ (l : Listing) (listing : IsListing l) (S T : State) (L M : Live) (sound : IsSound T M) (fits : ValuesFit T M) (within : Within S L M) (later : IsLater S T L) where
  abbrev pub strange : Variable → Bool
  strange v = is_strange S L (H.Infer v)

  abbrev pub known_value : Variable → Bool → Option Tree
  known_value v b = if b then Some (plain v.sort) else value_at T (H.Infer v)

  abbrev pub onward : Instance
  onward v = known_value v (strange v)

  plain_fits : (s : VariableSort) → fits_sort s (plain s).head ≡ true
  plain_fits V.General = refl
  plain_fits V.Integer = refl
  plain_fits V.Floating = refl
  plain_fits V.Constant = refl

  plain_closed : (s : VariableSort) → escapes 0 (alone (plain s)) ≡ false
  plain_closed V.General = refl
  plain_closed V.Integer = refl
  plain_closed V.Floating = refl
  plain_closed V.Constant = refl

  plain_low : (n : ℕ) (s : VariableSort) → holds (is_of_universe (universes T) n) (alone (plain s)) ≡ false
  plain_low n V.General = refl
  plain_low n V.Integer = refl
  plain_low n V.Floating = refl
  plain_low n V.Constant = refl

  is_plain : (P : Tree → Type 0) (s : VariableSort) (t : Tree) → Some (plain s) ≡ Some t → P (plain s) → P t
  is_plain P s t e x = subst P (let is : plain s ≡ t = cc in is) x

  onward_fits : (v : Variable) (t : Tree) (b : Bool) → strange v ≡ b → known_value v b ≡ Some t → fits_sort v.sort t.head ≡ true
  onward_fits v t true k e = is_plain (λ t. fits_sort v.sort t.head ≡ true) v.sort t e (plain_fits v.sort)
  onward_fits v t false k e = value_fits l listing S T L M sound fits within later v t k e

  onward_closed : (v : Variable) (t : Tree) (b : Bool) → strange v ≡ b → known_value v b ≡ Some t → escapes 0 (alone t) ≡ false
  onward_closed v t true k e = is_plain (λ t. escapes 0 (alone t) ≡ false) v.sort t e (plain_closed v.sort)
  onward_closed v t false k e = value_closed T M fits (H.Infer v) t (strange_stays S T L M within later (H.Infer v) k) e

  onward_low : (v : Variable) (t : Tree) (n : ℕ) (b : Bool) → strange v ≡ b → known_value v b ≡ Some t → universes S v < n → holds (is_of_universe (universes T) n) (alone t) ≡ false
  onward_low v t n true k e less = is_plain (λ t. holds (is_of_universe (universes T) n) (alone t) ≡ false) v.sort t e (plain_low n v.sort)
  onward_low v t n false k e less = value_low l listing S T L M sound fits within later v t n k less e

  onward_stays : (v : Variable) (b : Bool) → strange v ≡ b → known_value v b ≡ None → universes T v ≤ universes S v
  onward_stays v true k e = cc
  onward_stays v false k e = universe_falls l listing S T L M sound fits within later v k

  pub onward_allowed : IsAllowedInto (universes S) (universes T) onward
  onward_allowed = record {
    fits = λ v t e. onward_fits v t (strange v) refl e;
    is_closed = λ v t e. onward_closed v t (strange v) refl e;
    in_universe = λ v t n e less. onward_low v t n (strange v) refl e less;
    stays = λ v e. onward_stays v (strange v) refl e;
  }

  -- trees that are known get the values of the state that follows
  agree : (h : Head) → is_stray S L h ≡ false → instance onward h ≡ instance (terms_of T) h
  agree (H.Infer v) e = ap (known_value v) e
  agree _ e = refl

  pub onward_known : (ts : Forest) → holds (is_stray S L) ts ≡ false → holds (is_stray T M) ts ≡ false → Same l (valued (instance onward) ts) (resolved T ts)
  onward_known ts k m = subst (λ x. Same l x (resolved T ts)) (sym (valued_same (instance onward) (instance (terms_of T)) (is_stray S L) agree ts k)) (back (without_regions l T M fits ts m))

  -- A Yes, and pairs

  module _ {W : Type 0} (K : GoalTable W) where
    pub yes_onward : (g : TraitGoal) (e : Env) → Same l (valued (instance onward) g.env) e → IsGrantedByYes K l (universes S) g
        → IsGrantedByYes K l (universes T) (record { env = e; reference = record { trait = g.reference.trait; arguments = valued (instance onward) g.reference.arguments }; polarity = g.polarity })
    yes_onward g e same_env a = record {
      entry = a.entry;
      entered = a.entered;
      response = a.response;
      way = a.way;
      is_yes = a.is_yes;
      values = λ v. valued_tree (instance onward) (a.values v);
      allowed = both_allowed (response_universes a.response) (universes S) (universes T) a.values onward a.allowed onward_allowed;
      same_trait = a.same_trait;
      same_polarity = a.same_polarity;
      env = along (onto a.entry.key.goal.env g.env a.env) same_env;
      arguments = onto a.entry.key.goal.reference.arguments g.reference.arguments a.arguments;
    }
      where
        onto : (ts us : Forest) → Same l (answered a.response a.values ts) us → Same l (answered a.response (λ v. valued_tree (instance onward) (a.values v)) ts) (valued (instance onward) us)
        onto ts us s = subst (λ x. Same l x (valued (instance onward) us)) (answered_put a.values onward a.response ts) (same_instance l listing onward (answered a.response a.values ts) us s)

  module _ {W : Type 0} (Q : ProjectionTables W) (e f : Env) (same_env : Same l (valued (instance onward) e) f) where
    fixed_free : (h : Head) → is_made h ≡ false → instance onward h ≡ None
    fixed_free (H.Infer v) m = cc
    fixed_free _ m = refl

    pub one_onward : (t s : Tree) → AreOne Q l (universes S) e t s → SameBy (AreOne Q l (universes T) f) (alone (valued_tree (instance onward) t)) (alone (valued_tree (instance onward) s))
    one_onward t s (inl c) =
        let p : Tree × Tree = (t, s) in
        let k = listed_pair l listing p c.is_among in
        moved (AreOne Q l (universes T) f) (alone t) (alone s) _ _ (ap alone (sym (fixed_stays (instance onward) fixed_free t k.alias))) (ap alone (sym (fixed_stays (instance onward) fixed_free s k.type)))
        (pair t s (inl c) (same none))
    one_onward t s (inr a) =
        pair (valued_tree (instance onward) t) (valued_tree (instance onward) s)
        (inr (record {
          item = a.item;
          facts = valued (instance onward) a.facts;
          by = yes_onward (Q a.item) (projection_goal e a.item a.facts) f same_env a.by;
          alias = alias_put onward a.item a.facts ∙ ap (valued_tree (instance onward)) a.alias;
          type = term_put onward a.facts ∙ ap (valued_tree (instance onward)) a.type;
        })) (same none)
