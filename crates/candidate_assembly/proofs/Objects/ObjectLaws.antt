-- What an object's own bounds give in a context that has grown is what they give in the one before.
use Rattle.std.proofs.Common.{◌≡◌, ℕ, suc, Bool, true, false, not, Option, Some, None, List, [], ◌∷◌, ◌++◌, map, refl, sym, ap, subst, ◌∙◌, ◌+◌}
use Rattle.std.specs.List.{filter}
use Rattle.std.specs.Option.{unwrap_or}
use Rattle.std.specs.Prelude.{◌&&◌, if◌then◌else◌}
use Rattle.ir_trees.specs.declared.ir.heads.ClauseHead.TheVariants as Cl
use Rattle.ir_trees.specs.declared.ir.heads.Head.{Head}
use Rattle.ir_trees.specs.declared.ir.heads.Head.TheVariants as H
use Rattle.ir_trees.specs.declared.ir.heads.ListHead.{ListHead}
use Rattle.ir_trees.specs.declared.ir.heads.ListHead.TheVariants as LH
use Rattle.ir_trees.specs.declared.ir.heads.PartHead.TheVariants as P
use Rattle.ir_trees.specs.declared.ir.heads.PredHead.TheVariants as PH
use Rattle.ir_trees.specs.declared.ir.heads.VariableSort.{VariableSort}
use Rattle.ir_trees.specs.declared.ir.heads.VariableSort.TheVariants as V
use Rattle.ir_trees.specs.declared.ir.kinds.Clause.{Clause}
use Rattle.ir_trees.specs.declared.ir.kinds.ParamEnv.{ParamEnv}
use Rattle.ir_trees.specs.declared.ir.kinds.PredicatePolarity.TheVariants as Pol
use Rattle.ir_trees.specs.declared.ir.kinds.TraitPredicate.{TraitPredicate}
use Rattle.ir_trees.specs.declared.ir.unify.RightSide.TheVariants as Side
use Rattle.ir_trees.specs.Declarations.Context.{Context, Grows, world}
use Rattle.ir_trees.specs.Declarations.Declaring.{trait_at}
use Rattle.ir_trees.specs.Hierarchy.Elaboration.{IsElaboration, is_there, super_clauses, trait_of}
use Rattle.ir_trees.specs.Instantiation.Folding.{fold, lacks_argument, put}
use Rattle.ir_trees.specs.Declarations.Lookups.{assoc_trait, definition}
use Rattle.ir_trees.specs.Syntax.Nodes.{kind_at}
use Rattle.ir_trees.specs.Declarations.References.{FitsAmong}
use Rattle.ir_trees.specs.Hierarchy.Supers.{supers_at}
use Rattle.ir_trees.specs.Syntax.Trees.{Kind, TypeKind, ClauseKind, BinderKind, PredicateKind, Forest, none, tree, Tree, binders_of, kind_of, sort_kind, list_kind, tree_holds}
use Rattle.ir_trees.specs.Unification.Unify.{may_unify}
use Rattle.ir_trees.specs.Validity.WellFormed.{IsWellFormedTable}
use Rattle.ir_trees.specs.Syntax.Words.{ClauseListFits, clause_tree}
use Rattle.ir_trees.specs.Declarations.Worlds.{AssociatedTypeSort, Fits, Reference, World, bounds_of, child_kinds, joined, kinds_of, parameters}
use Rattle.ir_trees.proofs.Kinding.References.{fit-at}
use Rattle.ir_trees.proofs.Syntax.Rows.{kind-of}
use Rattle.candidate_eval.specs.declared.eval.source.BuiltinImplSource.TheVariants.{Misc}
use Rattle.candidate_eval.specs.declared.eval.source.CandidateSource.TheVariants.{BuiltinImpl}
use Rattle.candidate_eval.specs.Builtins.Callable.{all_but_last}
use Rattle.candidate_eval.specs.Derivations.Judging.{Judged}
use Rattle.candidate_eval.specs.Dynamic.ObjectRequirements.{AreAsked, AreUnknown, first_tree, fresh_arguments}
use Rattle.candidate_eval.specs.Dynamic.Required.{AreRequirements, each_of, with_arguments}
use Rattle.candidate_eval.specs.Judges.States.{Env, Goal, Judge, State}
use Rattle.candidate_eval.proofs.Dynamic.Requiring.{required_stays}
use Rattle.candidate_assembly.specs.Laws.BuiltinLaws.{nodes_fit}
use Rattle.candidate_assembly.specs.Rules.DynBounds.{ArePrincipalSupers, bound_said, bounds_in, clause_head_by, is_dynamic, is_principal, principal_in, AreSupersOf}
use Rattle.candidate_assembly.specs.Laws.Given.{TraitIsGiven, item_trait_given}
use Rattle.candidate_assembly.specs.Goals.Kinds.{IsGoal, KindRules, compared_arguments, passes, self_type}
use Rattle.candidate_assembly.specs.Answers.Listing.{Listed}
use Rattle.candidate_assembly.specs.Rules.ObjectBounds.{AreAskedIf, AreUnknownIf, ObjectJudged, ObjectList, ObjectsAnswer, OwnClause, all_asked, answer, has_own_clauses, is_sizedness, none_asked, none_left, nothing, numbered, one, own_clause, own_clauses, reference_by, rejected, required, speaks_of_trait, stopped, trait_by, unknown, unmatched}
use Rattle.candidate_assembly.specs.Goals.Projections.{trait_number}
use Rattle.candidate_assembly.specs.Laws.Staying.{trait_goal_stays}
use Rattle.candidate_assembly.specs.Laws.SuperLaws.{Each, arguments_fit, IsFitting, NameGiven, NamesGiven, TakeTheirs, TakesThem}
use Rattle.candidate_assembly.proofs.Objects.SuperLaws.{bounds_take, elaboration_back, first_fits, principal_supers_back, said_names, super_clauses_stay, declared_name, filtered_each}
use Rattle.candidate_assembly.specs.Goals.TraitGoals.{arguments_held, trait_goal, types_held}
use Rattle.candidate_assembly.specs.Goals.TraitRules.{trait_rules}
use Rattle.candidate_assembly.specs.Laws.UnsizingLaws.{compatible_stays}

-- Whether there are some.
pub has_own_clauses_stay : (old new : Context) → IsWellFormedTable old → Grows old new → (n : ℕ) (t : Tree) → has_own_clauses new n t ≡ has_own_clauses old n t
has_own_clauses_stay old new w g n t =
    let sized = ap (λ (c : Context). is_sizedness c n) g.same in
    λ j. not (sized j) && (is_dynamic t.head && compatible_stays old new w g (principal_in t) j)

-- What is required of an object of a trait that is given.

-- a clause keeps its head where arguments are put in
put-nothing : (args : Forest) (h : Head) → kind_of h ≡ ClauseKind → put args 0 h ≡ None
put-nothing args (H.Param i) e = absurd cc
put-nothing args (H.Const k) e = absurd cc
put-nothing args _ e = refl

with-names : (c : Context) (args : Forest) (t : Tree) → kind_of t.head ≡ ClauseKind → NamesGiven c t.head → NamesGiven c (with_arguments args t).head
with-names c args t k f = of (tree_holds (lacks_argument args) t) (put args 0 t.head) (put-nothing args t.head k)
  where
    of : (b : Bool) (o : Option Tree) → o ≡ None → NamesGiven c (if b then t else unwrap_or o (record { head = t.head; children = fold (λ e u. put args e u.head) (0 + binders_of t.head) t.children })).head
    of true o e = f
    of false None e = f
    of false (Some u) e = absurd cc

all-with-names : (c : Context) (args : Forest) (xs : List Clause) → ClauseListFits c.trees xs → NameGiven c (map (clause_tree c.trees) xs) → NameGiven c (map (with_arguments args) (map (clause_tree c.trees) xs))
all-with-names c args [] k f = tt
all-with-names c args (x ∷ xs) k f =
    let here : kind_at c.trees x.0 ≡ ClauseKind = cc in
    let others : ClauseListFits c.trees xs = cc in
    (with-names c args (clause_tree c.trees x) (kind-of c.trees x.0 ClauseKind refl here) f.0, all-with-names c args xs others f.1)

module _ (old new : Context) (t : IsWellFormedTable old) (g : Grows old new) where
  pub requirements_back : (n : ℕ) (args : Forest) (ts : List Tree) → TraitIsGiven old n → AreRequirements new n args ts → AreRequirements old n args ts
  requirements_back n args ts f r =
      let xs = supers_at (trait_at old n) in
      let names = all-with-names old args xs f.supers (declared_name old t xs) in
      let begun = subst (λ (us : List Tree). IsElaboration new (map (with_arguments args) us) r.supers) (super_clauses_stay old new t g n f) r.elaborated in
      record {
        supers = r.supers;
        elaborated = (elaboration_back old new t g (map (with_arguments args) (super_clauses old n)) r.supers names begun).0;
        are = r.are ∙ ap (λ (us : List Tree). r.supers ++ map (with_arguments args) us) (required_stays old new n t g);
      }

  pub asked_back : (J : Judge) (e : Env) (S : State) (n : ℕ) (reference : Tree) (bounds : Forest) (goals : List Goal) (T : State) → TraitIsGiven old n
      → AreAsked J e new S n reference bounds goals T → AreAsked J e old S n reference bounds goals T
  asked_back J e S n reference bounds goals T f a = record {
    required = a.required;
    requirements = requirements_back n (fresh_arguments S reference) a.required f a.requirements;
    replaced = a.replaced;
    are_replaced = a.are_replaced;
    are = a.are;
    as_rule = a.as_rule;
  }

  pub unknown_back : (J : Judge) (e : Env) (S : State) (n : ℕ) (reference : Tree) (bounds : Forest) (T : State) → TraitIsGiven old n
      → AreUnknown J e new S n reference bounds T → AreUnknown J e old S n reference bounds T
  unknown_back J e S n reference bounds T f a = record {
    required = a.required;
    requirements = requirements_back n (fresh_arguments S reference) a.required f a.requirements;
    stuck = a.stuck;
    as_rule = a.as_rule;
  }

  -- and if a kind of goals asks for it
  pub asked_if_back : (asks : Bool) (J : Judge) (e : Env) (S : State) (n : ℕ) (reference : Tree) (bounds : Forest) (goals : List Goal) (T : State) → TraitIsGiven old n
      → AreAskedIf asks J e new S n reference bounds goals T → AreAskedIf asks J e old S n reference bounds goals T
  asked_if_back asks J e S n reference bounds goals T f (all_asked on a) = all_asked on (asked_back J e S n reference bounds goals T f a)
  asked_if_back asks J e S n reference bounds _ _ f (none_asked off) = none_asked off

  -- the trait that a clause speaks of is the same
  pub trait_by_stays : (h : Head) → trait_by new h ≡ trait_by old h
  trait_by_stays (H.Part (P.Clause (Cl.Projection i))) = ap (λ (c : Context). trait_by c (H.Part (P.Clause (Cl.Projection i)))) g.same
  trait_by_stays (H.Part (P.Clause (Cl.Trait i p))) = refl
  trait_by_stays _ = refl

-- The clauses of a `dyn` type that fits speak of traits that are given.

abbrev pub SpeakGiven : Context → List OwnClause → Type 0
SpeakGiven c [] = Unit {0}
SpeakGiven c (o ∷ os) = TraitIsGiven c (trait_by c o.clause.head) × SpeakGiven c os

abbrev pub IsPredicate : Tree → Type 0
IsPredicate t = kind_of t.head ≡ PredicateKind

abbrev pub SaysATrait : Tree → Type 0
SaysATrait t = is_there (trait_of t.head) ≡ true

pub no_variable : (s : VariableSort) → sort_kind s ≡ PredicateKind → ⊥
no_variable V.Constant e = absurd cc
no_variable _ e = absurd cc

pub no_list : (l : ListHead) → list_kind l ≡ PredicateKind → ⊥
no_list LH.Args e = absurd cc
no_list LH.Preds e = absurd cc
no_list LH.Clauses e = absurd cc

pub dynamic_bounds : (w : World) (h : Head) (ks : List Kind) → is_dynamic h ≡ true → child_kinds w h ks ≡ Some ks → bounds_of ks ≡ ks
dynamic_bounds w H.Dynamic ks d e = cc
dynamic_bounds w _ ks d e = absurd cc

pub are_predicates : (ts : Forest) → bounds_of (kinds_of ts) ≡ kinds_of ts → Each IsPredicate (each_of (all_but_last ts))
are_predicates none e = tt
are_predicates (tree h below none) e = tt
are_predicates (tree h below (tree k under rest)) e =
    let here : kind_of h ≡ PredicateKind = cc in
    let others : bounds_of (kinds_of (tree k under rest)) ≡ kinds_of (tree k under rest) = cc in
    (here, are_predicates (tree k under rest) others)

-- the elements that pass a test pass it
all-pass : (test : Tree → Bool) (ts : List Tree) → Each (λ u. test u ≡ true) (filter test ts)
all-pass test [] = tt
all-pass test (t ∷ ts) = of (test t) refl (all-pass test ts)
  where
    of : (b : Bool) → test t ≡ b → Each (λ u. test u ≡ true) (filter test ts) → Each (λ u. test u ≡ true) (if b then t ∷ filter test ts else filter test ts)
    of true e r = (e, r)
    of false e r = r

module _ (c : Context) (t : IsWellFormedTable c) where
  item-speaks : (n : ℕ) (o : Option (List Kind)) (ks : List Kind) → parameters (world c) AssociatedTypeSort n ≡ o → joined (Some (BinderKind ∷ [])) (joined o (Some (TypeKind ∷ []))) ≡ Some ks
      → TraitIsGiven c (trait_number (assoc_trait (definition c n)))
  item-speaks n None ks q e = absurd cc
  item-speaks n (Some ps) ks q e = item_trait_given c t n ps q

  bound-speaks : (h : Head) (ks : List Kind) → kind_of h ≡ PredicateKind → child_kinds (world c) h ks ≡ Some ks → TraitIsGiven c (trait_by c (clause_head_by h))
  bound-speaks (H.Part (P.Pred (PH.Trait i))) ks k e = said_names c t (H.Part (P.Pred (PH.Trait i))) ks e
  bound-speaks (H.Part (P.Pred (PH.AutoTrait i))) ks k e = said_names c t (H.Part (P.Pred (PH.AutoTrait i))) ks e
  bound-speaks (H.Part (P.Pred (PH.Projection i))) ks k e = item-speaks i.0 (parameters (world c) AssociatedTypeSort i.0) ks refl e
  bound-speaks (H.Infer v) ks k e = absurd (no_variable v.sort k)
  bound-speaks (H.List l) ks k e = absurd (no_list l k)
  bound-speaks _ ks k e = absurd cc

  clause-item-speaks : (n : ℕ) (o : Option (List Kind)) (ks : List Kind) → parameters (world c) AssociatedTypeSort n ≡ o → joined (Some (BinderKind ∷ [])) (joined (joined (Some (TypeKind ∷ [])) o) (Some (TypeKind ∷ []))) ≡ Some ks
      → TraitIsGiven c (trait_number (assoc_trait (definition c n)))
  clause-item-speaks n None ks q e = absurd cc
  clause-item-speaks n (Some ps) ks q e = item_trait_given c t n ps q

  head-speaks : (h : Head) (below : Forest) → speaks_of_trait h ≡ true → (let u : Tree = record { head = h; children = below } in FitsAmong (world c) u) → TraitIsGiven c (trait_by c h)
  head-speaks (H.Part (P.Clause (Cl.Trait i p))) below s f = said_names c t (H.Part (P.Clause (Cl.Trait i p))) (kinds_of below) f.0
  head-speaks (H.Part (P.Clause (Cl.Projection i))) below s f = clause-item-speaks i.0 (parameters (world c) AssociatedTypeSort i.0) (kinds_of below) refl f.0
  head-speaks _ below s f = absurd cc

  -- and so does each clause of the context that speaks of a trait
  pub clause_speaks : (x : Clause) → speaks_of_trait (clause_tree c.trees x).head ≡ true → TraitIsGiven c (trait_by c (clause_tree c.trees x).head)
  clause_speaks x s = let u = clause_tree c.trees x in head-speaks u.head u.children s (fit-at (world c) c.trees (nodes_fit c t) x.0)

  bounds-speak : (type : Tree) (bs : List Tree) (more : List OwnClause) → Each IsPredicate bs → TakeTheirs (world c) bs → SpeakGiven c more
      → SpeakGiven c (map (λ b. own_clause (BuiltinImpl Misc) (bound_said type b)) bs ++ more)
  bounds-speak type [] more p f m = m
  bounds-speak type (b ∷ bs) more p f m = (bound-speaks b.head (kinds_of b.children) p.0 f.0, bounds-speak type bs more p.1 f.1 m)

  trait-speaks : (h : Head) → is_there (trait_of h) ≡ true → NamesGiven c h → TraitIsGiven c (trait_by c h)
  trait-speaks (H.Part (P.Clause (Cl.Trait i p))) s f = f
  trait-speaks _ s f = absurd cc

  numbered-speak : (n : ℕ) (ts : List Tree) → Each SaysATrait ts → NameGiven c ts → SpeakGiven c (numbered n ts)
  numbered-speak n [] s f = tt
  numbered-speak n (u ∷ us) s f = (trait-speaks u.head s.0 f.0, numbered-speak (suc n) us s.1 f.1)

  pub supers_say : (type : Tree) (o : Option Tree) (ts : List Tree) → AreSupersOf c type o ts → Each SaysATrait ts
  supers_say type None ts s = subst (Each SaysATrait) (sym s) tt
  supers_say type (Some p) ts s = subst (Each SaysATrait) (sym s.are) (all-pass (λ u. is_there (trait_of u.head)) s.all)

  pub own_clauses_speak : (type : Tree) (supers : List Tree) → is_dynamic type.head ≡ true → IsFitting (world c) type → ArePrincipalSupers c type supers → NameGiven c supers
      → SpeakGiven c (own_clauses type supers)
  own_clauses_speak type supers d f s names =
      let w = world c in
      let others = λ (b : Tree). not (is_principal b.head) in
      let predicates = are_predicates type.children (dynamic_bounds w type.head (kinds_of type.children) d f.takes) in
      bounds-speak type (filter others (bounds_in type)) (numbered 0 supers) (filtered_each IsPredicate others (bounds_in type) predicates)
      (filtered_each (TakesThem w) others (bounds_in type) (bounds_take w type f.below))
      (numbered-speak 0 supers (supers_say type (principal_in type) supers s) names)

and-second : (a b : Bool) → a && b ≡ true → b ≡ true
and-second true b e = e
and-second false b e = absurd cc

and-first : (a b : Bool) → a && b ≡ true → a ≡ true
and-first true b e = refl
and-first false b e = absurd cc

-- what has such clauses is a `dyn` type
pub has_dynamic : (c : Context) (n : ℕ) (t : Tree) → has_own_clauses c n t ≡ true → is_dynamic t.head ≡ true
has_dynamic c n t e = and-first (is_dynamic t.head) _ (and-second (not (is_sizedness c n)) _ e)

-- So all that they give is the same, for a goal whose arguments fit, and that is about the same and is matched by the same.
module _ {G : Type 0} (K : KindRules G) (J : Judge) (old new : Context) (t : IsWellFormedTable old) (w : Grows old new) (S : State) (g : G)
    (same : K.reference_of new g ≡ K.reference_of old g) (matched : (h : Head) → K.fits new g h ≡ K.fits old g h) where
  passes-same : (u : Tree) → passes K new g u ≡ passes K old g u
  passes-same u = ap (λ b. b && may_unify Side.Plain (K.compared g) (compared_arguments u)) (matched u.head)

  self-same : self_type K new g ≡ self_type K old g
  self-same = ap (λ (r : Reference). first_tree r.arguments) same

  has-same : has_own_clauses new (K.reference_of new g).trait (self_type K new g) ≡ has_own_clauses old (K.reference_of old g).trait (self_type K old g)
  has-same = ap (λ (r : Reference). has_own_clauses new r.trait (first_tree r.arguments)) same ∙ has_own_clauses_stay old new t w (K.reference_of old g).trait (self_type K old g)

  -- the reference that a clause holds of, by the number of its trait
  abbrev reference_with : ℕ → Tree → Tree
  reference_with n u = record {
    head = H.Part (P.Clause (Cl.Trait (record { 0 = n }) Pol.Positive));
    children = (reference_by old u).children;
  }

  pub judged_back : (o : OwnClause) (j : Judged) → TraitIsGiven old (trait_by old o.clause.head) → ObjectJudged K J new S g o j → ObjectJudged K J old S g o j
  judged_back o j f (rejected e) = rejected (sym (passes-same o.clause) ∙ e)
  judged_back o j f (unmatched T a q m) = unmatched T a (sym (passes-same o.clause) ∙ q) m
  judged_back o j f (required T U p goals a q m k) =
      let u = o.clause in
      let n = trait_by old u.head in
      let Asked : ℕ → Tree → Type 0 = λ i self. AreAskedIf K.asks_of_objects J (K.env_of g) new p.state i (reference_with i u) (all_but_last self.children) goals U in
      let same-trait = subst (λ i. Asked i (self_type K new g)) (trait_by_stays old new t w u.head) k in
      let here = subst (Asked n) self-same same-trait in
      required T U p goals a (sym (passes-same u) ∙ q) m (asked_if_back old new t w K.asks_of_objects J (K.env_of g) p.state n (reference_with n u) (all_but_last (self_type K old g).children) goals U f here)
  judged_back o j f (unknown T U p a q m k) =
      let u = o.clause in
      let n = trait_by old u.head in
      let Unknown : ℕ → Tree → Type 0 = λ i self. AreUnknownIf K.asks_of_objects J (K.env_of g) new p.state i (reference_with i u) (all_but_last self.children) U in
      let same-trait = subst (λ i. Unknown i (self_type K new g)) (trait_by_stays old new t w u.head) k in
      let here = subst (Unknown n) self-same same-trait in
      unknown T U p a (sym (passes-same u) ∙ q) m (here.0, unknown_back old new t w J (K.env_of g) p.state n (reference_with n u) (all_but_last (self_type K old g).children) U f here.1)

  pub answers_back : (os : List OwnClause) (l : Listed) → SpeakGiven old os → ObjectsAnswer K J new S g os l → ObjectsAnswer K J old S g os l
  answers_back [] l f none_left = none_left
  answers_back (o ∷ os) l f (one {j = j} {l = rest} h r) = one (judged_back o j f.0 h) (answers_back os rest f.1 r)
  answers_back (o ∷ os) l f (stopped h) = stopped (judged_back o _ f.0 h)

  pub object_list_back : Fits (world old) (K.reference_of old g).arguments → (l : Listed) → ObjectList K J new S g l → ObjectList K J old S g l
  object_list_back fit l (nothing e) = nothing (sym has-same ∙ e)
  object_list_back fit l (answer supers e s a) =
      let self = self_type K old g in
      let has = sym has-same ∙ e in
      let f = first_fits (world old) (K.reference_of old g).arguments fit in
      let r = principal_supers_back old new t w self f.below supers (subst (λ u. ArePrincipalSupers new u supers) self-same s) in
      let speak = own_clauses_speak old t self supers (has_dynamic old (K.reference_of old g).trait self has) f r.0 r.1 in
      answer supers has r.0 (answers_back (own_clauses self supers) l speak (subst (λ u. ObjectsAnswer K J new S g (own_clauses u supers) l) self-same a))

-- So it is of a goal of a trait.
pub trait_object_list_back : (J : Judge) (old new : Context) → IsWellFormedTable old → Grows old new → (S : State) (env : ParamEnv) (p : TraitPredicate) → IsGoal trait_rules arguments_held types_held trait_goal old env p
    → (l : Listed) → ObjectList trait_rules J new S (trait_goal old.trees env p) l → ObjectList trait_rules J old S (trait_goal old.trees env p) l
trait_object_list_back J old new t g S env p h l o =
    let stays = trait_goal_stays old new env p g h in
    object_list_back trait_rules J old new t g S (trait_goal old.trees env p) stays.reference stays.fits (arguments_fit old t p.trait_ref.args h.arguments) l o
