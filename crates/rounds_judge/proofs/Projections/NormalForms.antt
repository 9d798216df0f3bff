-- A normal form by tables that say what projections are is equal to what was normalised, unless it is a fresh variable.
use Rattle.std.proofs.Common.{◌≡◌, Bool, true, false, Option, Some, None, inl, refl, subst}
use Rattle.std.specs.Prelude.{◌&&◌, if◌then◌else◌}
use Rattle.ir_trees.specs.declared.ir.heads.Head.{Head}
use Rattle.ir_trees.specs.declared.ir.heads.Head.TheVariants as H
use Rattle.ir_trees.specs.declared.ir.kinds.AliasKind.TheVariants as A
use Rattle.ir_trees.specs.declared.ir.kinds.AssocId.{AssocId}
use Rattle.ir_trees.specs.Syntax.Trees.{Forest, Tree, is_alias, is_type, none, tree}
use Rattle.ir_trees.specs.Unification.Substitutions.{alone}
use Rattle.candidate_eval.specs.Judges.Lawful.{IsNormalForm}
use Rattle.candidate_eval.specs.Judges.Soundness.{AreTreesOf, Follows, IsSound, Live, ValuesFit, universes}
use Rattle.candidate_eval.specs.Judges.States.{Env, State, resolved, resolved_tree}
use Rattle.candidate_eval.specs.Knowability.Orphan.{is_general}
use Rattle.rounds_judge.specs.Aliases.Congruence.{AreListed, SameBy, SameTree, along, same}
use Rattle.rounds_judge.specs.Aliases.Listed.{Listing}
use Rattle.rounds_judge.specs.Aliases.Normalizing.{open_form, type_or_itself}
use Rattle.rounds_judge.specs.Equations.Opening.{are_open}
use Rattle.rounds_judge.specs.Equations.Standing.{IsListing}
use Rattle.rounds_judge.specs.Projections.ProjectionGoals.{ProjectionTables, new_term}
use Rattle.rounds_judge.specs.Projections.ProjectionGranted.{AreOne}
use Rattle.rounds_judge.specs.Projections.ProjectionNormalizing.{normal_form_by, normalized_by, open_form_by, term_given, value_or_open}
use Rattle.rounds_judge.proofs.Aliases.Faithful.{as_it_is_equal}
use Rattle.rounds_judge.proofs.Lawfulness.JudgeLaws.{follows_itself, normal_as_it_is, normal_closed, normal_known}
use Rattle.rounds_judge.proofs.Lawfulness.NormalForms.{open_is_normal}
use Rattle.rounds_judge.proofs.Projections.Equality.{wider}
use Rattle.rounds_judge.proofs.Projections.Leaving.{children_are_of}
use Rattle.rounds_judge.proofs.Projections.Normalizing.{term_there, value_is_normal}
use Rattle.rounds_judge.proofs.Projections.Normals.{value_equal}
use Rattle.rounds_judge.proofs.States.Later.{follows_along}
use Rattle.rounds_judge.proofs.Table.TableSettled.{ReadsWell}

module _ {W : Type 0} (Q : ProjectionTables W) (reads_terms : (i : AssocId) → ReadsWell (Q i)) (l : Listing) (listing : IsListing l) (S : State) (L : Live) (e : Env) (sound : IsSound S L) (fits : ValuesFit S L) (env : AreTreesOf S L e)
    (t : Tree) (known : AreTreesOf S L (alone t)) where
  -- A tree and a state to which normalising leads: a normal form, which is one with the tree at each state that follows.
  pub record IsEqualForm (q : Tree × State) : Type 0 where
    pub form : IsNormalForm S q.1 L e t q.0
    pub equal : is_general q.0.head ≡ false → (U : State) → Follows q.1 U form.follows.live → SameBy (AreOne Q l (universes U) (resolved U e)) (resolved U (alone t)) (resolved U (alone q.0))

  abbrev now : Tree
  now = type_or_itself l (resolved_tree S t)

  now_is : AreTreesOf S L (alone now)
  now_is = record { known = normal_known l listing S L sound t known; is_closed = normal_closed l listing S L fits t known }

  -- as it is, or as its listed type
  now_equal : (U : State) → Follows S U L → SameBy (AreOne Q l (universes U) (resolved U e)) (resolved U (alone t)) (resolved U (alone now))
  now_equal U f =
      let s : SameTree l (resolved_tree U t) (resolved_tree U now) = as_it_is_equal l listing S S U L t now sound fits known (record { tree = refl; state = refl }) (follows_itself S L sound fits) f in
      wider (AreListed l) (AreOne Q l (universes U) (resolved U e)) (λ x y c. inl c) s

  fresh_equal : IsEqualForm (open_form S)
  fresh_equal = record { form = open_is_normal S L e t sound fits; equal = λ k U f. absurd (let clash : true ≡ false = k in cc) }

  itself_equal : IsEqualForm (now, S)
  unfolding normal_as_it_is
  itself_equal = record { form = normal_as_it_is l listing S L e t sound fits known; equal = λ k U f. now_equal U f }

  value_forms : (i : AssocId) (args : Forest) → AreTreesOf S L args → tree (H.Alias A.Projection (record { 0 = i.0 })) args none ≡ alone now → (o : Option State) → term_given (Q i) l S e i args ≡ o → IsEqualForm (value_or_open S o)
  unfolding value_is_normal
  value_forms i args a is None h = fresh_equal
  value_forms i args a is (Some T) h = at (is_alias (resolved_tree T (new_term S)).head)
    where
      form : IsNormalForm S T L e t (resolved_tree T (new_term S))
      form = value_is_normal (Q i) (reads_terms i) l listing S T L e i args sound fits env a h t

      equal : (U : State) → Follows T U form.follows.live → SameBy (AreOne Q l (universes U) (resolved U e)) (resolved U (alone t)) (resolved U (alone (resolved_tree T (new_term S))))
      equal U f =
          let P : Tree → Tree → Type 0 = AreOne Q l (universes U) (resolved U e) in
          let v = value_equal Q reads_terms l listing S T L e i args sound fits env a h U f.live f.sound f.fits f.within f.later in
          let k = term_there (Q i) (reads_terms i) l listing S T L e i args sound fits env a h in
          along (now_equal U (follows_along S T U L sound form.follows f))
          (along (subst (λ x. SameBy P (resolved U x) (resolved U (alone (new_term S)))) is v) (subst (λ x. SameBy P x (resolved U (alone (resolved_tree T (new_term S))))) (f.later.values (alone (new_term S)) k.known) (same _)))

      at : (b : Bool) → IsEqualForm (if b then open_form S else (resolved_tree T (new_term S), T))
      at true = fresh_equal
      at false = record { form = form; equal = λ k U f. equal U f }

  alias_forms : (x : Head) (below : Forest) → tree x below none ≡ alone now → AreTreesOf S L (tree x below none) → IsEqualForm (open_form_by Q l S e x below)
  alias_forms (H.Alias A.Projection i) args is a = value_forms (record { 0 = i.0 }) args (children_are_of S L i args a) is (term_given (Q (record { 0 = i.0 })) l S e (record { 0 = i.0 }) args) refl
  alias_forms _ below is a = fresh_equal

  form_equal : IsEqualForm (normal_form_by Q l S e now)
  form_equal = at (are_open l S && (is_alias now.head && is_type now.head))
    where
      at : (b : Bool) → IsEqualForm (if b then open_form_by Q l S e now.head now.children else (now, S))
      at true = alias_forms now.head now.children refl now_is
      at false = itself_equal

  pub normalized_equal : (u : Tree) (R : State) → normalized_by Q l S e t ≡ Some (u, R) → IsEqualForm (u, R)
  normalized_equal u R h = let is : normal_form_by Q l S e now ≡ (u, R) = cc in subst IsEqualForm is form_equal
