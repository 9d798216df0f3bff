-- The laws of the judge that need nothing but its definitions: alike states and normal forms. And when two certainties come to a sure one.
use Rattle.std.proofs.Common.{◌≡◌, ℕ, Bool, true, false, ◌&&◌, ◌||◌, ◌⊎◌, inl, inr, List, [], ◌∷◌, ◌++◌, length, Option, Some, None, arith, refl, sym, ap, subst, ◌∙◌, if◌then◌else◌}
use Rattle.std.specs.Option.{unwrap_or}
use Rattle.ir_trees.specs.declared.ir.heads.Head.{Head}
use Rattle.ir_trees.specs.declared.ir.heads.Head.TheVariants as H
use Rattle.ir_trees.specs.declared.ir.heads.VariableSort.TheVariants.{General}
use Rattle.ir_trees.specs.declared.ir.kinds.RegionKind.TheVariants as R
use Rattle.ir_trees.specs.Syntax.Trees as trees
use Rattle.ir_trees.specs.Syntax.Trees.{Forest, none, tree, Tree, holds, is_alias, is_param}
use Rattle.ir_trees.specs.Syntax.Binders.{escapes}
use Rattle.ir_trees.specs.Unification.Substitutions.{alone}
use Rattle.ir_trees.specs.declared.decl.limits.Limits.{Limits}
use Rattle.ir_trees.specs.Declarations.Worlds.{World}
use Rattle.candidate_eval.specs.declared.eval.certainty.Certainty.{Certainty}
use Rattle.candidate_eval.specs.declared.eval.certainty.Certainty.TheVariants.{Yes, Maybe}
use Rattle.candidate_eval.specs.Outcomes.Certainties.{certainty_and}
use Rattle.candidate_eval.specs.declared.eval.variable.VariableKind.TheVariants.{Term, Region}
use Rattle.candidate_eval.specs.Judges.States.{Env, State, VariableInfo, Judge, fresh_info, value_in, value_at, resolved_tree, variable, with_fresh, with_pending}
use Rattle.candidate_eval.specs.Derivations.Judging.{Place, Normal, normal_at, is_at, run, comes_to}
use Rattle.candidate_eval.specs.Knowability.Orphan.{is_general}
use Rattle.candidate_eval.specs.Judges.Alike.{info, LooksAlike, BothNormal, JudgesAlike}
use Rattle.candidate_eval.specs.Judges.Soundness.{Live, IsSound, ValuesFit, IsResolved, AreTreesOf, Follows, is_strange}
use Rattle.candidate_eval.specs.Judges.Lawful.{IsNormalForm, HasNoParameter}
use Rattle.rounds_judge.specs.Table.GoalTable.{GoalTable}
use Rattle.rounds_judge.specs.Aliases.Listed.{Listing, listed}
use Rattle.rounds_judge.specs.Equations.Standing.{IsListing}
use Rattle.rounds_judge.specs.Aliases.Normalizing.{type_or_itself, normal_form, normalized, open_form}
use Rattle.rounds_judge.specs.Equations.Opening.{are_open}
use Rattle.rounds_judge.specs.Obligations.Settling.{got_a_value, gave_a_value}
use Rattle.rounds_judge.specs.Table.TableJudge.{table_judge}
use Rattle.rounds_judge.proofs.States.Marks.{fold_marked}
use Rattle.rounds_judge.proofs.States.Later.{later_itself, resolved_stays, resolved_known, resolved_closed, has_info, value_as_of}
use Rattle.rounds_judge.proofs.Equations.Current.{listed_fixed, listed_known}

-- States that are alike are equal

pub same_normal : (o : Option Normal) → BothNormal (λ p q. (q.state ≡ p.state) × (q.locals ≡ p.locals)) o o
same_normal None = BothNormal.refused
same_normal (Some m) = BothNormal.normal refl refl (refl, refl)

pub same_place : (p q : Place) → (q.state ≡ p.state) × (q.locals ≡ p.locals) → q ≡ p
same_place p q s = ap (λ S. let r : Place = record { state = S; locals = q.locals } in r) s.0 ∙ ap (λ ls. let r : Place = record { state = p.state; locals = ls } in r) s.1

pub looks_alike : (S : State) → LooksAlike S S
looks_alike S = record { newest_universe = refl; regions = refl; pending = refl; mode = refl; kept = λ n i e. e; no_root = λ n i a b. absurd (let clash : None ≡ Some i = sym a ∙ b in cc) }

module _ {W : Type 0} (w : World) (local : ℕ) (limits : Limits) (l : Listing) (os : List Tree) (K : GoalTable W) where
  abbrev J : Judge
  J = table_judge w local limits l os K

  pub alike_judged_alike : JudgesAlike J
  alike_judged_alike = record {
    alike_same = λ S. refl;
    alike_along = λ S T U p q. q ∙ p;
    alike_aside = λ S T e. ap (λ R. with_pending R []) e;
    alike_looks = λ S T e. subst (LooksAlike S) (sym e) (looks_alike S);
    alike_places = λ S T ls e b. (e, refl);
    same_answers = λ n p q e steps end s a b c. ap (λ x. comes_to J e x steps end) (same_place p q s);
    same_refusals = λ n p q e steps s a b. ap (λ x. is_at (run J e x steps)) (same_place p q s);
    same_normal_forms = λ n p q e t s a b.
        subst (λ x. BothNormal (λ p q. (q.state ≡ p.state) × (q.locals ≡ p.locals)) (normal_at J e p t) (normal_at J e x t)) (sym (same_place p q s)) (same_normal (normal_at J e p t));
  }

-- Normal forms

-- what the tree is, or a listed type
pub data WhichType (l : Listing) (t : Tree) : Tree → Type 0 where
  is_type : (u : Tree) → listed l t ≡ Some u → WhichType l t u
  itself : WhichType l t t

pub which_type : (l : Listing) (t : Tree) → WhichType l t (type_or_itself l t)
which_type l t = at (is_alias t.head)
  where
    by : (o : Option Tree) → listed l t ≡ o → WhichType l t (unwrap_or o t)
    by None e = itself
    by (Some u) e = is_type u e

    at : (b : Bool) → WhichType l t (if b then unwrap_or (listed l t) t else t)
    at true = by (listed l t) refl
    at false = itself

abbrev pub follows_itself : (S : State) (L : Live) → IsSound S L → ValuesFit S L → Follows S S L
follows_itself S L sound fits = record { live = L; within = λ n l c. c; sound = sound; fits = fits; later = later_itself S L sound }

module _ (l : Listing) (listing : IsListing l) (S : State) where
  pub normal_known : (L : Live) → IsSound S L → (t : Tree) → AreTreesOf S L (alone t) → holds (is_strange S L) (alone (type_or_itself l (resolved_tree S t))) ≡ false
  normal_known L sound t a = at (type_or_itself l (resolved_tree S t)) (which_type l (resolved_tree S t))
    where
      at : (u : Tree) → WhichType l (resolved_tree S t) u → holds (is_strange S L) (alone u) ≡ false
      at _ (is_type u e) = listed_known l listing (resolved_tree S t) u e S L
      at _ itself = resolved_known S L sound (alone t) a.known

  pub normal_closed : (L : Live) → ValuesFit S L → (t : Tree) → AreTreesOf S L (alone t) → escapes 0 (alone (type_or_itself l (resolved_tree S t))) ≡ false
  normal_closed L fits t a = at (type_or_itself l (resolved_tree S t)) (which_type l (resolved_tree S t))
    where
      at : (u : Tree) → WhichType l (resolved_tree S t) u → escapes 0 (alone u) ≡ false
      at _ (is_type u f) = (listed_fixed l listing (resolved_tree S t) u f).is_closed
      at _ itself = resolved_closed S L fits 0 (alone t) a.known a.is_closed

  -- values of what counts hold no parameter
  value_no_parameter : (L : Live) → HasNoParameter S L → (h : Head) (t : Tree) → is_strange S L h ≡ false → value_at S h ≡ Some t → holds is_param (alone t) ≡ false
  value_no_parameter L free (H.Infer v) t e f = let i = has_info (L v.number) (Term v.sort) (info S v.number) e in free v.number i.0 t i.2 i.1 (sym (ap value_in i.1) ∙ value_as_of S (Term v.sort) v.number t f)
  value_no_parameter L free (H.Region (R.Var n)) t e f = let i = has_info (L n) Region (info S n) e in free n i.0 t i.2 i.1 (sym (ap value_in i.1) ∙ value_as_of S Region n t f)
  value_no_parameter L free _ t e f = cc

  pub normal_no_parameter : (L : Live) → HasNoParameter S L → (t : Tree) → AreTreesOf S L (alone t) → holds is_param (alone t) ≡ false → holds is_param (alone (type_or_itself l (resolved_tree S t))) ≡ false
  normal_no_parameter L free t a p = at (type_or_itself l (resolved_tree S t)) (which_type l (resolved_tree S t))
    where
      at : (u : Tree) → WhichType l (resolved_tree S t) u → holds is_param (alone u) ≡ false
      at _ (is_type u f) = (listed_fixed l listing (resolved_tree S t) u f).no_parameter
      at _ itself = fold_marked (λ d t. value_at S t.head) (is_strange S L) is_param is_param (λ d t a b e. b) (λ d t u a b e. value_no_parameter L free t.head u a e) 0 (alone t) a.known p

  unfoldable pub normal_as_it_is : (L : Live) (e : Env) (t : Tree) → IsSound S L → ValuesFit S L → AreTreesOf S L (alone t) → IsNormalForm S S L e t (type_or_itself l (resolved_tree S t))
  normal_as_it_is L e t sound fits a = record {
    follows = follows_itself S L sound fits;
    tree = record { known = normal_known L sound t a; is_closed = normal_closed L fits t a };
    no_parameter = λ free f p. (free, normal_no_parameter L free t a p);
  }

-- the tree itself or its type, and the state stays; or an open alias is a fresh variable
pub record IsAsItIs (l : Listing) (S T : State) (t u : Tree) : Type 0 where
  pub tree : type_or_itself l (resolved_tree S t) ≡ u
  pub state : S ≡ T

pub record IsOpenForm (S T : State) (u : Tree) : Type 0 where
  pub tree : variable (Term General) (length S.variables) ≡ u
  pub state : with_fresh S (Term General) ≡ T

abbrev pub is_open_alias : Listing → State → Tree → Bool
is_open_alias l S t = are_open l S && (is_alias t.head && trees.is_type t.head)

pub is_normal : (l : Listing) (S T : State) (e : Env) (t u : Tree) → normalized l S e t ≡ Some (u, T) → IsAsItIs l S T t u ⊎ IsOpenForm S T u
is_normal l S T e t u h =
    let is : normal_form l S (type_or_itself l (resolved_tree S t)) ≡ (u, T) = cc in
    at (is_open_alias l S (type_or_itself l (resolved_tree S t))) is
  where
    at : (b : Bool) → (if b then open_form S else (type_or_itself l (resolved_tree S t), S)) ≡ (u, T) → IsAsItIs l S T t u ⊎ IsOpenForm S T u
    at true is = inr (record { tree = ap (λ (q : Tree × State). q.0) is; state = ap (λ (q : Tree × State). q.1) is })
    at false is = inl (record { tree = ap (λ (q : Tree × State). q.0) is; state = ap (λ (q : Tree × State). q.1) is })

-- a fresh variable is a general one
pub general_form : (S T : State) (u : Tree) → IsOpenForm S T u → is_general u.head ≡ true
general_form S T u f = ap (λ (t : Tree). is_general t.head) (sym f.tree)

-- where it is no general variable, the state stays
pub known_normal : (l : Listing) (S T : State) (e : Env) (t u : Tree) → is_general u.head ≡ false → normalized l S e t ≡ Some (u, T) → IsAsItIs l S T t u
known_normal l S T e t u known h = elim (is_normal l S T e t u h) [ inl a ↦ a | inr f ↦ absurd (let clash : true ≡ false = sym (general_form S T u f) ∙ known in cc) ]

-- so it is where the state stayed
pub same_normal_form : (l : Listing) (S : State) (e : Env) (t u : Tree) → normalized l S e t ≡ Some (u, S) → type_or_itself l (resolved_tree S t) ≡ u
same_normal_form l S e t u h = elim (is_normal l S S e t u h) [ inl a ↦ a.tree | inr f ↦ absurd (longer S.variables (ap (λ (R : State). length R.variables) f.state)) ]
  where
    longer : (is : List VariableInfo) → length (is ++ fresh_info S (Term General) ∷ []) ≡ length is → ⊥
    longer [] e = cc
    longer (i ∷ is) e = let fewer : length (is ++ fresh_info S (Term General) ∷ []) ≡ length is = omega (arith, e) in longer is fewer

pub rigid_stays : (l : Listing) (S : State) (t : Tree) → IsResolved S (alone t) → is_alias t.head ≡ false → type_or_itself l (resolved_tree S t) ≡ t
rigid_stays l S t r a =
    let is : resolved_tree S t ≡ t = ap (argument_of t) (resolved_stays S (alone t) r) in
    ap (type_or_itself l) is ∙ ap (λ b. if b then unwrap_or (listed l t) t else t) a
  where
    argument_of : Tree → Forest → Tree
    argument_of t none = t
    argument_of t (tree h below rest) = record { head = h; children = below }

-- Certainties

pub and_yes : (c : Certainty) → certainty_and c Yes ≡ c
and_yes Yes = refl
and_yes (Maybe a) = refl

pub yes_both : (c d : Certainty) → certainty_and c d ≡ Yes → (c ≡ Yes) × (d ≡ Yes)
yes_both Yes d e = (refl, e)
yes_both (Maybe a) Yes e = cc
yes_both (Maybe a) (Maybe b) e = cc

-- Where the state stays no variable gets a value.

pub gives_nothing : (is : List VariableInfo) → gave_a_value is is ≡ false
gives_nothing [] = refl
gives_nothing (i ∷ is) = at i.value (gives_nothing is)
  where
    at : (o : Option Tree) → gave_a_value is is ≡ false → got_a_value o o || gave_a_value is is ≡ false
    at None e = e
    at (Some t) e = e
