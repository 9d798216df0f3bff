-- Rows of unsizing by their heads.
use Rattle.std.proofs.Common.{◌≡◌, Bool, true, false, ◌&&◌, refl, sym, ap, subst, ◌∙◌, List, [], ◌∷◌, Result, Ok, Err, if◌then◌else◌}
use Rattle.ir_trees.specs.declared.ir.heads.Head.{Head}
use Rattle.ir_trees.specs.declared.ir.heads.Head.TheVariants as H
use Rattle.ir_trees.specs.declared.ir.kinds.TraitPredicate.{TraitPredicate}
use Rattle.ir_trees.specs.declared.ir.kinds.Ty.{Ty}
use Rattle.ir_trees.specs.declared.ir.stop.Stop.{Stop}
use Rattle.ir_trees.specs.Declarations.Context.{Context}
use Rattle.ir_trees.specs.Syntax.Trees.{Tree}
use Rattle.ir_trees.specs.Syntax.Words.{args_forest, ty_tree}
use Rattle.candidate_eval.specs.declared.eval.refusal.NoSolutionOrStop.{NoSolutionOrStop}
use Rattle.candidate_eval.specs.declared.eval.response.Candidate.{Candidate as OfNumbers}
use Rattle.candidate_eval.specs.Interface.Accounts.{Account}
use Rattle.candidate_eval.specs.Judges.Alike.{JudgesAlike}
use Rattle.candidate_eval.specs.Derivations.ImplRules.{TraitGoal}
use Rattle.candidate_eval.specs.Outcomes.ResponseTrees.{AreCandidates, candidates_of}
use Rattle.candidate_eval.specs.Dynamic.ObjectRequirements.{first_tree}
use Rattle.candidate_eval.specs.Derivations.Rules.{Rule}
use Rattle.candidate_eval.specs.Judges.States.{Judge, State}
use Rattle.candidate_assembly.specs.Rules.BuiltinRules.{self_of}
use Rattle.candidate_assembly.specs.Rules.DynBounds.{is_dynamic}
use Rattle.candidate_assembly.specs.Answers.Listing.{Adds, ConsidersAll, Listed, Lists, Stops, ToldList, after_these, answers}
use Rattle.candidate_assembly.specs.Answers.Telling.{Considers}
use Rattle.candidate_assembly.specs.Rules.Unsizing.{AreSupersIf, AreUnsizingSupers, IsUnsizedTo, rules_of_row, unsizing_row}
use Rattle.candidate_assembly.specs.declared.trait_goals.unsizing_rows.UnsizingRow.{UnsizingRow}
use Rattle.candidate_assembly.specs.declared.trait_goals.unsizing_rows.UnsizingRow.TheVariants as R
use Rattle.candidate_assembly.proofs.Lists.Listing.{no-rule-listed, one-listed, whole_list}

-- A list that is told, of which something else holds, too.
pub told-as : {A : Type 0} (items : A → List OfNumbers) (ts : List Tree) (R Q : Listed → Type 0) → ((l : Listed) → R l → Q l) → (answer : Result A Stop) → ToldList items ts R answer → ToldList items ts Q answer
told-as items ts R Q f (Ok x) t = record { ok = f (Lists (candidates_of ts (items x))) t.ok; fits = t.fits; stopped = tt }
told-as items ts R Q f (Err s) t = record { ok = tt; fits = tt; stopped = λ own. f (Stops s) (t.stopped own) }

module _ {E X A : Type 0} {fixed : E → X} {judge : X → Judge} {state : E → State} {probes : E → List State} {context : E → Context} {stops : Account E} where
  pub listed-as : (old new : E) (left : State) (items : A → List OfNumbers) (R Q : Listed → Type 0) → ((l : Listed) → R l → Q l) → (answer : Result A Stop)
      → ConsidersAll fixed judge state probes context stops old new left items R answer → ConsidersAll fixed judge state probes context stops old new left items Q answer
  listed-as old new left items R Q f answer c = record { kept = c.kept; alike = c.alike; told = told-as items (context new).trees R Q f answer c.told; cause = c.cause }

-- A row other than that of two `dyn` types asks for no supertraits.

abbrev pub is-upcast : UnsizingRow → Bool
is-upcast R.DynToDyn = true
is-upcast _ = false

dynamic-is : (k : Head) → is_dynamic k ≡ true → k ≡ H.Dynamic
dynamic-is H.Dynamic e = refl
dynamic-is _ e = absurd cc

both-dynamic : (h k : Head) → is-upcast (unsizing_row h k) ≡ false → (is_dynamic h && is_dynamic k) ≡ false
both-dynamic h k e = at (is_dynamic h) refl (is_dynamic k) refl
  where
    at : (a : Bool) → is_dynamic h ≡ a → (b : Bool) → is_dynamic k ≡ b → (a && b) ≡ false
    at false p b q = refl
    at true p false q = refl
    at true p true q =
        let row : unsizing_row h k ≡ R.DynToDyn = ap (unsizing_row h) (dynamic-is k q) ∙ ap (λ (x : Bool). if x then R.DynToDyn else R.ToDyn) p in
        let no : true ≡ false = sym (ap is-upcast row) ∙ e in absurd cc

no-supers : (c : Context) (from to : Tree) → is-upcast (unsizing_row from.head to.head) ≡ false → AreUnsizingSupers c from to []
no-supers c from to e = subst (λ (b : Bool). AreSupersIf b c from []) (sym (both-dynamic from.head to.head e)) refl

-- What is listed by the rules of a row, which is the row of these types and asks for no supertraits.
pub by-row : (J : Judge) (c : Context) (S : State) (g : TraitGoal) (to : Tree) (before : List OfNumbers) (r : UnsizingRow) (rules : List Rule) (l : Listed) → unsizing_row (self_of g).head to.head ≡ r → is-upcast r ≡ false
    → rules ≡ rules_of_row c [] g (self_of g) to r → l ≡ after_these c.trees before (answers J S rules) → IsUnsizedTo J c S g to before l
by-row J c S g to before r rules l is single are whole = record {
  supers = [];
  are = no-supers c (self_of g) to (ap is-upcast is ∙ single);
  is = whole ∙ ap (λ (rs : List Rule). after_these c.trees before (answers J S rs)) (are ∙ ap (rules_of_row c [] g (self_of g) to) (sym is));
}

-- the row by what was read of both types
pub row-found : (x c : Context) (p : TraitPredicate) (t : Ty) (h k : Head) (r s : UnsizingRow) → x ≡ c → h ≡ (first_tree (args_forest x.trees p.trait_ref.args)).head → k ≡ (ty_tree x.trees t).head → s ≡ unsizing_row h k → s ≡ r
    → unsizing_row (first_tree (args_forest c.trees p.trait_ref.args)).head (ty_tree c.trees t).head ≡ r
row-found x c p t h k r s e a b is found =
    ap (λ (y : Context). unsizing_row (first_tree (args_forest y.trees p.trait_ref.args)).head (ty_tree y.trees t).head) (sym e)
    ∙ (ap (λ i. unsizing_row i (ty_tree x.trees t).head) (sym a) ∙ (ap (unsizing_row h) (sym b) ∙ (sym is ∙ found)))

module _ {E X : Type 0} {fixed : E → X} {judge : X → Judge} {state : E → State} {probes : E → List State} {context : E → Context} {stops : Account E} (law : (f : X) → JudgesAlike (judge f)) where
  -- the candidate of the row's one rule was added, if there is one
  pub one-by-row : {A : Type 0} (first new : E) (before items : List OfNumbers) (rule : Rule) (answer : Result OfNumbers NoSolutionOrStop) (result : Result A Stop) (g : TraitGoal) (to : Tree) (r : UnsizingRow) → AreCandidates (context first).trees before
      → unsizing_row (self_of g).head to.head ≡ r → is-upcast r ≡ false → rule ∷ [] ≡ rules_of_row (context first) [] g (self_of g) to r
      → Considers fixed judge state probes context stops first new rule answer → Adds answer before items result
      → ConsidersAll fixed judge state probes context stops first new (state first) (λ _. items) (IsUnsizedTo (judge (fixed first)) (context first) (state first) g to before) result
  one-by-row first new before items rule answer result g to r fit is single are c a =
      let J = judge (fixed first) in
      listed-as first new (state first) (λ _. items) (whole_list fixed judge state context first before (rule ∷ [])) (IsUnsizedTo J (context first) (state first) g to before)
      (λ l e. by-row J (context first) (state first) g to before r (rule ∷ []) l is single are e) result (one-listed law first new before items rule answer result fit c a)

  -- the row has no rule
  pub none-by-row : {A : Type 0} (first : E) (before : List OfNumbers) (x : A) (g : TraitGoal) (to : Tree) (r : UnsizingRow) → AreCandidates (context first).trees before
      → unsizing_row (self_of g).head to.head ≡ r → is-upcast r ≡ false → [] ≡ rules_of_row (context first) [] g (self_of g) to r
      → ConsidersAll fixed judge state probes context stops first first (state first) (λ _. before) (IsUnsizedTo (judge (fixed first)) (context first) (state first) g to before) (Ok x)
  none-by-row first before x g to r fit is single are =
      let J = judge (fixed first) in
      listed-as first first (state first) (λ _. before) (whole_list fixed judge state context first before []) (IsUnsizedTo J (context first) (state first) g to before)
      (λ l e. by-row J (context first) (state first) g to before r [] l is single are e) (Ok x) (no-rule-listed law first before x fit)
