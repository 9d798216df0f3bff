-- The laws on normal forms by the tables.
use Rattle.std.proofs.Common.{◌≡◌, ℕ, Bool, true, false, ◌&&◌, List, [], ◌∷◌, ◌++◌, map, Option, Some, None, refl, sym, ap, subst, ◌∙◌, if◌then◌else◌}
use Rattle.ir_trees.specs.declared.decl.limits.Limits.{Limits}
use Rattle.ir_trees.specs.declared.ir.heads.Head.{Head}
use Rattle.ir_trees.specs.declared.ir.heads.Head.TheVariants as H
use Rattle.ir_trees.specs.declared.ir.kinds.AliasKind.TheVariants as A
use Rattle.ir_trees.specs.declared.ir.kinds.AssocId.{AssocId}
use Rattle.ir_trees.specs.Declarations.Worlds.{World}
use Rattle.ir_trees.specs.Syntax.Trees.{Forest, none, tree, Tree, holds, is_alias, is_type}
use Rattle.ir_trees.specs.Unification.Substitutions.{alone}
use Rattle.candidate_eval.specs.declared.eval.variable.CanonicalVar.{CanonicalVar}
use Rattle.candidate_eval.specs.Derivations.ImplRules.{TraitGoal}
use Rattle.candidate_eval.specs.Judges.Lawful.{HasNoParameter, IsNormalForm, NormalFormLaws}
use Rattle.candidate_eval.specs.Judges.Soundness.{AreTreesOf, IsSound, Live, ValuesFit, is_strange}
use Rattle.candidate_eval.specs.Judges.States.{Env, State, Values, next, resolved, resolved_tree, valued, valued_tree}
use Rattle.candidate_eval.specs.Outcomes.Responses.{Response}
use Rattle.rounds_judge.specs.Aliases.Listed.{Listing}
use Rattle.rounds_judge.specs.Aliases.Normalizing.{open_form, type_or_itself}
use Rattle.rounds_judge.specs.Equations.Equating.{equated}
use Rattle.rounds_judge.specs.Equations.Opening.{are_open}
use Rattle.rounds_judge.specs.Equations.Standing.{IsListing}
use Rattle.rounds_judge.specs.Projections.ProjectionGoals.{ProjectionTables, new_term, term_asked, term_variable, with_term}
use Rattle.rounds_judge.specs.Projections.ProjectionJudge.{projection_judge}
use Rattle.rounds_judge.specs.Projections.ProjectionNormalizing.{given_by, normal_form_by, normalized_by, open_form_by, term_given, value_or_open}
use Rattle.rounds_judge.specs.Table.GoalTable.{GoalTable, verdict_in}
use Rattle.rounds_judge.specs.Table.Keys.{Key, goal_trees, key_at, numbers_at}
use Rattle.rounds_judge.specs.Table.TableSettling.{are_bare, given, lift_to, named_at, own_variable, ready_for, translation, variables_row, with_open}
use Rattle.rounds_judge.specs.Equations.Binding.{numbered}
use Rattle.rounds_judge.specs.Table.Verdicts.{Verdict, Yes, Maybe, Refused}
use Rattle.rounds_judge.proofs.Equations.Looks.{SoundLater, equated_pending}
use Rattle.rounds_judge.proofs.Lawfulness.JudgeLaws.{normal_as_it_is, normal_closed, normal_known, rigid_stays}
use Rattle.rounds_judge.proofs.Lawfulness.NormalForms.{open_is_normal}
use Rattle.rounds_judge.proofs.Obligations.Settling.{lead_along}
use Rattle.rounds_judge.proofs.Parameters.Parameterless.{resolved-free}
use Rattle.rounds_judge.proofs.Parameters.TableParameterless.{free_open, given_free}
use Rattle.rounds_judge.proofs.Projections.Leaving.{asked_known, children_are_of, counts_still, lead_term, term_known}
use Rattle.rounds_judge.proofs.States.Later.{fits_later, resolved_closed, resolved_known, trees_later}
use Rattle.rounds_judge.proofs.Table.TableFresh.{CountsNew}
use Rattle.rounds_judge.proofs.Table.TableGiving.{given_leads}
use Rattle.rounds_judge.proofs.Table.TableSettled.{ReadsWell, counts_as, fewer_later, fits_with_new, key_low, key_numbers, new_count, sound_with_new, still_counts, trees_with_new, with_new}

-- What a Yes gives leaves what is pending.

named_pending : (S : State) (cs : List CanonicalVar) (os : List (Option ℕ)) → (named_at S cs os).0.pending ≡ S.pending
named_pending S (c ∷ cs) (Some n ∷ os) = named_pending S cs os
named_pending S (c ∷ cs) (None ∷ os) = named_pending (with_open S c) cs os
named_pending S [] os = refl
named_pending S (c ∷ cs) [] = refl

given_pending : (l : Listing) (S T : State) (k : Key) (ns : List ℕ) (r : Response) → given l S k ns r ≡ Some T → T.pending ≡ S.pending
given_pending l S T k ns r e = at (equated l begun.0 (variables_row k.variables ns) (valued says r.values)) refl e
  where
    begun : State × List ℕ
    begun = ready_for S k ns r

    says : Values
    says = translation (lift_to begun.0 k r) begun.1

    at : (o : Option State) → equated l begun.0 (variables_row k.variables ns) (valued says r.values) ≡ o
        → next o (λ R. Some (record R { regions = R.regions ++ map (valued_tree says) r.regions })) ≡ Some T → T.pending ≡ S.pending
    at None f e = cc
    at (Some R) f e =
        let is : record R { regions = R.regions ++ map (valued_tree says) r.regions } ≡ T = cc in
        ap (λ (T : State). T.pending) (sym is) ∙ equated_pending l begun.0 R (variables_row k.variables ns) (valued says r.values) f ∙ named_pending S r.vars (numbered (own_variable k.variables ns r.values) 0 r.vars)

-- A Yes that was read

module _ {W : Type 0} (K : GoalTable W) (l : Listing) (S T : State) (e : Env) (i : AssocId) (args : Forest) where
  pub record IsGiven : Type 0 where
    pub response : Response
    pub way : Option W
    pub bare : are_bare (resolved (with_term S e i args) (goal_trees (term_asked S e i args))) ≡ true
    pub read : verdict_in K (key_at (with_term S e i args) (term_asked S e i args)) ≡ Some (Yes response way)
    pub is : given l (with_term S e i args) (key_at (with_term S e i args) (term_asked S e i args)) (numbers_at (with_term S e i args) (term_asked S e i args)) response ≡ Some T

  is_given : term_given K l S e i args ≡ Some T → IsGiven
  is_given h = at (are_bare (resolved (with_term S e i args) (goal_trees (term_asked S e i args)))) refl h
    where
      by : are_bare (resolved (with_term S e i args) (goal_trees (term_asked S e i args))) ≡ true → (v : Option (Verdict W)) → verdict_in K (key_at (with_term S e i args) (term_asked S e i args)) ≡ v → given_by l (with_term S e i args) (term_asked S e i args) v ≡ Some T → IsGiven
      by bare (Some (Yes r w)) f h = record { response = r; way = w; bare = bare; read = f; is = h }
      by bare (Some (Maybe r w)) f h = cc
      by bare (Some Refused) f h = cc
      by bare None f h = cc

      at : (b : Bool) → are_bare (resolved (with_term S e i args) (goal_trees (term_asked S e i args))) ≡ b
          → (if b then given_by l (with_term S e i args) (term_asked S e i args) (verdict_in K (key_at (with_term S e i args) (term_asked S e i args))) else None) ≡ Some T → IsGiven
      at true bare h = by bare (verdict_in K (key_at (with_term S e i args) (term_asked S e i args))) refl h
      at false bare h = cc

-- what the variable is then

module _ {W : Type 0} (K : GoalTable W) (reads : ReadsWell K) (l : Listing) (listing : IsListing l) (S T : State) (L : Live) (e : Env) (i : AssocId) (args : Forest) (sound : IsSound S L) (fits : ValuesFit S L)
    (env : AreTreesOf S L e) (a : AreTreesOf S L args) (h : term_given K l S e i args ≡ Some T) where
  abbrev pub M : Live
  M = with_new S L

  abbrev pub R : State
  R = with_term S e i args

  abbrev pub g : TraitGoal
  g = term_asked S e i args

  pub sound_new : IsSound S M
  sound_new = sound_with_new S L sound

  pub fits_new : ValuesFit S M
  fits_new = fits_with_new S L fits

  pub lead : SoundLater S M R
  lead = lead_term S M sound_new (new_count S L) e i args

  pub new_there : CountsNew R M
  new_there = counts_still S R M lead.later (new_count S L)

  pub known : holds (is_strange R M) (goal_trees g) ≡ false
  known = asked_known S M sound_new (new_count S L) e i args (trees_with_new S L e env) (trees_with_new S L args a)

  pub of : IsGiven K l S T e i args
  of = is_given K l S T e i args h

  pub leads : SoundLater R M T
  leads =
      given_leads l listing R M lead.sound (fits_later lead.later fits_new) new_there (key_at R g) (numbers_at R g) (key_numbers R M lead.sound g known) (key_low R M lead.sound g known) of.response
      (reads (key_at R g) of.response of.way of.read) T of.is

  pub whole_lead : SoundLater S M T
  whole_lead = lead_along S R T M sound_new lead leads

  pub fits_last : ValuesFit T M
  fits_last = fits_later whole_lead.later fits_new

  pub term_there : AreTreesOf T M (alone (new_term S))
  term_there = trees_later R T M M (λ n l c. c) leads.later (alone (new_term S)) (term_known S M sound_new (new_count S L) e i args)

  unfoldable pub value_is_normal : (t : Tree) → IsNormalForm S T L e t (resolved_tree T (new_term S))
  value_is_normal t = record {
    follows = record { live = M; within = λ n h c. still_counts S L n c; sound = whole_lead.sound; fits = fits_last; later = fewer_later S L T whole_lead.later };
    tree = record { known = resolved_known T M whole_lead.sound (alone (new_term S)) term_there.known; is_closed = resolved_closed T M fits_last 0 (alone (new_term S)) term_there.known term_there.is_closed };
    no_parameter = λ free x p.
        let free_new : HasNoParameter S M = λ n i t c f v. free n i t (counts_as S L n i f c) f v in
        let left = given_free K reads l listing M ⊥ R lead.sound (fits_later lead.later fits_new) new_there (free_open S (term_variable S e i args) M free_new) (λ u. absurd u) g known of.response
        (reads (key_at R g) of.response of.way of.read) T of.is in
        (left.values, resolved-free l listing T M whole_lead.sound left.values (alone (new_term S)) term_there.known refl);
  }

-- The tree itself or its type; or else a fresh variable, or the value that a Yes gives.

module _ {W : Type 0} (Q : ProjectionTables W) (reads_terms : (i : AssocId) → ReadsWell (Q i)) (l : Listing) (listing : IsListing l) (S : State) (L : Live) (e : Env) (sound : IsSound S L) (fits : ValuesFit S L) (env : AreTreesOf S L e) (t : Tree) where
  abbrev Normal : Tree × State → Type 0
  Normal q = IsNormalForm S q.1 L e t q.0

  opens_normal : Normal (open_form S)
  opens_normal = open_is_normal S L e t sound fits

  value_normal : (i : AssocId) (args : Forest) → AreTreesOf S L args → (o : Option State) → term_given (Q i) l S e i args ≡ o → Normal (value_or_open S o)
  value_normal i args a None h = opens_normal
  value_normal i args a (Some T) h = at (is_alias (resolved_tree T (new_term S)).head)
    where
      at : (b : Bool) → Normal (if b then open_form S else (resolved_tree T (new_term S), T))
      at true = opens_normal
      at false = value_is_normal (Q i) (reads_terms i) l listing S T L e i args sound fits env a h t

  alias_normal : (x : Head) (below : Forest) → AreTreesOf S L (tree x below none) → Normal (open_form_by Q l S e x below)
  alias_normal (H.Alias A.Projection i) args a = value_normal (record { 0 = i.0 }) args (children_are_of S L i args a) (term_given (Q (record { 0 = i.0 })) l S e (record { 0 = i.0 }) args) refl
  alias_normal _ below a = opens_normal

  pub form_normal : (u : Tree) → AreTreesOf S L (alone u) → Normal (u, S) → Normal (normal_form_by Q l S e u)
  form_normal u a itself = at (are_open l S && (is_alias u.head && is_type u.head))
    where
      at : (b : Bool) → Normal (if b then open_form_by Q l S e u.head u.children else (u, S))
      at true = alias_normal u.head u.children a
      at false = itself

-- what is pending stays

module _ {W : Type 0} (Q : ProjectionTables W) (l : Listing) (S : State) (e : Env) where
  abbrev Keeps : Tree × State → Type 0
  Keeps q = q.1.pending ≡ S.pending

  value_keeps : (i : AssocId) (args : Forest) (o : Option State) → term_given (Q i) l S e i args ≡ o → Keeps (value_or_open S o)
  value_keeps i args None h = refl
  value_keeps i args (Some T) h = at (is_alias (resolved_tree T (new_term S)).head)
    where
      at : (b : Bool) → Keeps (if b then open_form S else (resolved_tree T (new_term S), T))
      at true = refl
      at false =
          let of = is_given (Q i) l S T e i args h in
          given_pending l (with_term S e i args) T (key_at (with_term S e i args) (term_asked S e i args)) (numbers_at (with_term S e i args) (term_asked S e i args)) of.response of.is

  alias_keeps : (x : Head) (below : Forest) → Keeps (open_form_by Q l S e x below)
  alias_keeps (H.Alias A.Projection i) args = value_keeps (record { 0 = i.0 }) args (term_given (Q (record { 0 = i.0 })) l S e (record { 0 = i.0 }) args) refl
  alias_keeps _ below = refl

  form_keeps : (u : Tree) → Keeps (normal_form_by Q l S e u)
  form_keeps u = at (are_open l S && (is_alias u.head && is_type u.head))
    where
      at : (b : Bool) → Keeps (if b then open_form_by Q l S e u.head u.children else (u, S))
      at true = alias_keeps u.head u.children
      at false = refl

-- what is no alias isn't opened
rigid_form : {W : Type 0} (Q : ProjectionTables W) (l : Listing) (S : State) (e : Env) (t : Tree) → is_alias t.head ≡ false → normal_form_by Q l S e t ≡ (t, S)
rigid_form Q l S e t a = at (are_open l S) (is_alias t.head) a
  where
    at : (o b : Bool) → b ≡ false → (if o && (b && is_type t.head) then open_form_by Q l S e t.head t.children else (t, S)) ≡ (t, S)
    at true true e = cc
    at false true e = cc
    at true false e = refl
    at false false e = refl

module _ {W : Type 0} (w : World) (local : ℕ) (limits : Limits) (l : Listing) (os : List Tree) (Q : ProjectionTables W) (reads_terms : (i : AssocId) → ReadsWell (Q i)) (K : GoalTable W) where
  keeps_pending : (S T : State) (e : Env) (t u : Tree) → normalized_by Q l S e t ≡ Some (u, T) → T.pending ≡ S.pending
  keeps_pending S T e t u h =
      let is : normal_form_by Q l S e (type_or_itself l (resolved_tree S t)) ≡ (u, T) = cc in
      ap (λ (q : Tree × State). q.1.pending) (sym is) ∙ form_keeps Q l S e (type_or_itself l (resolved_tree S t))

  follows : IsListing l → (S T : State) (L : Live) (e : Env) (t u : Tree) → IsSound S L → ValuesFit S L → AreTreesOf S L e → AreTreesOf S L (alone t) → normalized_by Q l S e t ≡ Some (u, T) → IsNormalForm S T L e t u
  follows listing S T L e t u sound fits env a h =
      let x : Tree = type_or_itself l (resolved_tree S t) in
      let is : normal_form_by Q l S e x ≡ (u, T) = cc in
      subst (λ (q : Tree × State). IsNormalForm S q.1 L e t q.0) is
      (form_normal Q reads_terms l listing S L e sound fits env t x (record { known = normal_known l listing S L sound t a; is_closed = normal_closed l listing S L fits t a }) (normal_as_it_is l listing S L e t sound fits a))

  pub normal_form_laws_by : IsListing l → NormalFormLaws (projection_judge w local limits l os Q K)
  normal_form_laws_by listing = record {
    rigid_is_normal = λ S e t r k a. ap (λ u. Some (normal_form_by Q l S e u)) (rigid_stays l S t r a) ∙ ap Some (rigid_form Q l S e t a);
    normalizing_keeps_pending = keeps_pending;
    normalizing_follows = λ S T L e t u sound fits env a h. follows listing S T L e t u sound fits env a h;
  }
