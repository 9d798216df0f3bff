-- The candidates from one `dyn` type to another: which rules there are, and that they were listed.
use Rattle.std.proofs.Common.{◌≡◌, ℕ, suc, Bool, true, false, ◌&&◌, Option, Some, Result, Ok, Err, IfErr, List, [], ◌∷◌, ◌++◌, All, length, map, refl, sym, ap, subst, ◌∙◌}
use Rattle.std.specs.Prelude.{IfSome, if◌then◌else◌, option_map}
use Rattle.std.proofs.lemmas.List.Elements.{All-head}
use Rattle.ir_trees.specs.declared.ir.heads.Head.{Head}
use Rattle.ir_trees.specs.declared.ir.heads.Head.TheVariants as H
use Rattle.ir_trees.specs.declared.ir.kinds.Clause.{Clause}
use Rattle.ir_trees.specs.declared.ir.stop.Stop.{Stop}
use Rattle.ir_trees.specs.Declarations.Context.{Context, Grows}
use Rattle.ir_trees.specs.Unification.Substitutions.{alone}
use Rattle.ir_trees.specs.Syntax.Trees.{Forest, none, tree, Tree, holds, is_param}
use Rattle.ir_trees.specs.Syntax.Words.{clause_tree}
use Rattle.candidate_eval.specs.declared.eval.certainty.Certainty.TheVariants.{Yes}
use Rattle.candidate_eval.specs.declared.eval.response.Candidate.{Candidate as OfNumbers}
use Rattle.candidate_eval.specs.declared.eval.source.BuiltinImplSource.TheVariants.{TraitUpcasting}
use Rattle.candidate_eval.specs.declared.eval.source.CandidateSource.{CandidateSource}
use Rattle.candidate_eval.specs.declared.eval.source.CandidateSource.TheVariants.{BuiltinImpl}
use Rattle.candidate_eval.specs.Interface.Accounts.{Account}
use Rattle.candidate_eval.specs.Judges.Alike.{JudgesAlike}
use Rattle.candidate_eval.specs.Interface.Evaluators.{Keeps}
use Rattle.candidate_eval.specs.Derivations.ImplRules.{TraitGoal}
use Rattle.candidate_eval.specs.Interface.Knowing.{is_evaluator_stop}
use Rattle.candidate_eval.specs.Derivations.Mentions.{IsBelow, is_from}
use Rattle.candidate_eval.specs.Dynamic.ObjectRequirements.{first_tree}
use Rattle.candidate_eval.specs.Dynamic.Replacing.{without_first}
use Rattle.candidate_eval.specs.Outcomes.ResponseTrees.{AreCandidates}
use Rattle.candidate_eval.specs.Derivations.Rules.{Rule, ask, nested}
use Rattle.candidate_eval.specs.Judges.States.{Env, Judge, State}
use Rattle.candidate_eval.proofs.Interface.Accounts.{reaches}
use Rattle.candidate_eval.proofs.Marks.Holds.{holds_parts}
use Rattle.candidate_eval.proofs.Marks.Marking.{unmarked}
use Rattle.candidate_eval.proofs.Interface.Probing.{then}
use Rattle.candidate_eval.specs.Dynamic.ObjectRules.{IsRuleTree}
use Rattle.candidate_assembly.specs.declared.trait_goals.upcasting.Upcast.{Upcast}
use Rattle.candidate_assembly.specs.Rules.BuiltinRules.{misc, self_of}
use Rattle.candidate_assembly.specs.Rules.DynBounds.{first_listed, is_dynamic, principal_in}
use Rattle.candidate_assembly.specs.Answers.Listing.{ConsidersAll, Listed, Lists, after_these, answers, together}
use Rattle.candidate_assembly.specs.Goals.Standing.{BothAreValid}
use Rattle.candidate_assembly.specs.Answers.Telling.{StopsOfItself}
use Rattle.candidate_assembly.specs.Goals.TraitRules.{trait_rules}
use Rattle.candidate_assembly.specs.Rules.Unsizing.{AreSupersIf, AreUnsizingSupers, IsUnsizedTo, bounds_met, dyn_to_dyn, keeps_principal, rules_of_row, unsizing_row, unsizing_rules, upcast_rule, upcasts}
use Rattle.candidate_assembly.specs.Laws.UnsizingLaws.{upcast_stays}
use Rattle.candidate_assembly.specs.Calls.Upcasting.{IsUpcastOf, upcast_by, upcasts_by}
use Rattle.candidate_assembly.proofs.Calls.Causes.{later, made-here}
use Rattle.candidate_assembly.proofs.Calls.Considering.{not-both}
use Rattle.candidate_assembly.proofs.Lists.Listing.{candidates-kept}
use Rattle.candidate_assembly.proofs.Goals.Standing.{stands-below}
use Rattle.candidate_assembly.proofs.Calls.Stepping.{unmade-own}
use Rattle.candidate_assembly.proofs.Unsizing.UnsizedRows.{told-as}
use Rattle.candidate_eval.specs.Interface.Unmade.{IsUnmade}

-- The rules, by what the upcast is made of.

module _ (old mid : Context) (grows : Grows old mid) (g : TraitGoal) (e : Env) (same : e ≡ g.env) (u : Upcast) (from to : Tree) (is : IsUpcastOf old mid u from to) where
  abbrev supers : List Tree
  supers = map (clause_tree mid.trees) u.supers.items

  pub rule-is : (p : Option Tree) (s : CandidateSource) → upcast_by mid e u p s ≡ upcast_rule old supers g s from to p
  rule-is p s =
      (λ j. record {
        env = same j;
        applies = true;
        steps = bounds_met mid supers (is.sources j) p 0 (is.targets j) ++ nested (is.outlives j ∷ []);
        ending = ask s Yes;
      })
      ∙ upcast_stays old mid grows supers g s from to p

  rules-from : (n : ℕ) (ts : List Tree) → upcasts_by mid e u n ts ≡ upcasts old supers g from to n ts
  rules-from n [] = refl
  rules-from n (t ∷ ts) = λ j. rule-is (Some t) (BuiltinImpl (TraitUpcasting n)) j ∷ rules-from (suc n) ts j

  -- the principal doesn't stay
  pub rules-proper : keeps_principal (principal_in from) (principal_in to) ≡ false → upcasts_by mid e u 1 (without_first supers) ≡ dyn_to_dyn old supers g from to
  rules-proper k =
      rules-from 1 (without_first supers)
      ∙ sym (ap (λ b. if b then upcast_rule old supers g misc from to (first_listed supers) ∷ [] else upcasts old supers g from to 1 (without_first supers)) k)

  -- it stays
  pub rule-only : keeps_principal (principal_in from) (principal_in to) ≡ true → upcast_by mid e u (first_listed supers) misc ∷ [] ≡ dyn_to_dyn old supers g from to
  rule-only k =
      ap (λ (r : Rule). r ∷ []) (rule-is (first_listed supers) misc)
      ∙ sym (ap (λ b. if b then upcast_rule old supers g misc from to (first_listed supers) ∷ [] else upcasts old supers g from to 1 (without_first supers)) k)

-- Both are `dyn` types.

row-is : (old : Context) (supers : List Tree) (g : TraitGoal) (to : Tree) → (self_of g).head ≡ H.Dynamic → to.head ≡ H.Dynamic → unsizing_rules old supers g to ≡ dyn_to_dyn old supers g (self_of g) to
row-is old supers g to a b = ap (λ (h : Head). rules_of_row old supers g (self_of g) to (unsizing_row h to.head)) a ∙ ap (λ (k : Head). rules_of_row old supers g (self_of g) to (unsizing_row H.Dynamic k)) b

supers-asked : (c : Context) (from to : Tree) (ts : List Tree) → from.head ≡ H.Dynamic → to.head ≡ H.Dynamic → AreSupersIf true c from ts → AreUnsizingSupers c from to ts
supers-asked c from to ts a b s = subst (λ (x : Bool). AreSupersIf x c from ts) (sym (ap (λ (h : Head). is_dynamic h && is_dynamic to.head) a ∙ ap (λ (k : Head). true && is_dynamic k) b)) s

pub unsized-by : (J : Judge) (S : State) (old mid : Context) (u : Upcast) (g : TraitGoal) (to : Tree) (before : List OfNumbers) (rules : List Rule) (l : Listed) → (self_of g).head ≡ H.Dynamic → to.head ≡ H.Dynamic → IsUpcastOf old mid u (self_of g) to
    → rules ≡ dyn_to_dyn old (map (clause_tree mid.trees) u.supers.items) g (self_of g) to → l ≡ after_these old.trees before (answers J S rules) → IsUnsizedTo J old S g to before l
unsized-by J S old mid u g to before rules l a b is same e =
    let all = is.supers in
    record {
      supers = all.supers;
      are = supers-asked old (self_of g) to all.supers a b all.are;
      is = e ∙ ap (λ (rs : List Rule). after_these old.trees before (answers J S rs)) (same ∙ (all.same g ∙ sym (row-is old all.supers g to a b)));
    }

-- What was listed after calls that leave the state as it was.
module _ {E X A : Type 0} {fixed : E → X} {judge : X → Judge} {state : E → State} {probes : E → List State} {context : E → Context} {stops : Account E} where
  pub listed-later : (old mid new : E) (items : A → List OfNumbers) (before : List OfNumbers) (rules : List Rule) (Q : Listed → Type 0) (result : Result A Stop) → Keeps fixed probes context old mid → state mid ≡ state old → AreCandidates (context old).trees before
      → ((l : Listed) → l ≡ after_these (context old).trees before (answers (judge (fixed old)) (state old) rules) → Q l)
      → ConsidersAll fixed judge state probes context stops mid new (state mid) items (λ l. l ≡ after_these (context mid).trees before (answers (judge (fixed mid)) (state mid) rules)) result
      → ConsidersAll fixed judge state probes context stops old new (state old) items Q result
  listed-later old mid new items before rules Q result k s fit q c =
      let words = (candidates-kept (context old) (context mid) before k.grows fit).1 in
      record {
        kept = (then) k c.kept;
        alike = subst (λ (x : State). (judge (fixed old)).alike x (state new)) s (subst (λ (x : X). (judge x).alike (state mid) (state new)) k.fixed_same c.alike);
        told = told-as items (context new).trees (λ l. l ≡ after_these (context mid).trees before (answers (judge (fixed mid)) (state mid) rules)) Q
            (λ l e. q l (e ∙ (ap (λ cs. together (Lists cs) (answers (judge (fixed mid)) (state mid) rules)) words
            ∙ (ap (λ x. after_these (context old).trees before (answers (judge x) (state mid) rules)) k.fixed_same ∙ ap (λ x. after_these (context old).trees before (answers (judge (fixed old)) x rules)) s)))) result c.told;
        cause = of result c.cause;
      }
    where
      of : (r : Result A Stop) → IfErr r (StopsOfItself fixed context state stops mid new) → IfErr r (StopsOfItself fixed context state stops old new)
      of (Ok x) h = tt
      of (Err z) h = later (reaches k) h

  -- what to consider wasn't made
  pub not-made-list : ((f : X) → JudgesAlike (judge f)) → (old mid : E) (items : A → List OfNumbers) (R : Listed → Type 0) (result : Result A Stop) (z : Stop) → Keeps fixed probes context old mid → state mid ≡ state old → result ≡ Err z → IsUnmade (context old) (context mid) z
      → ConsidersAll fixed judge state probes context stops old mid (state old) items R result
  not-made-list law old mid items R result z k s is m = rw is (record {
    kept = k;
    alike = subst (λ (x : State). (judge (fixed old)).alike (state old) x) (sym s) ((law (fixed old)).alike_same (state old));
    told = record { ok = tt; fits = tt; stopped = λ other. absurd (not-both (is_evaluator_stop z) (unmade-own z m) other) };
    cause = made-here m;
  })

-- Both types may stand in a rule, where the goal and the target stand at the state.

first-unmarked : (mark : Head → Bool) (ts : Forest) → mark H.Error ≡ false → holds mark ts ≡ false → holds mark (alone (first_tree ts)) ≡ false
first-unmarked mark none e f = unmarked mark H.Error none none e refl refl
first-unmarked mark (tree h below rest) e f = let p = holds_parts mark h below rest f in unmarked mark h below none p.here p.under refl

pub source-stands : (S : State) (g : TraitGoal) (to : Tree) → BothAreValid trait_rules S g to → IsRuleTree (length S.variables) (self_of g)
source-stands S g to s =
    let b = stands-below S g.env g.reference.arguments s.goal in
    record { no_parameter = first-unmarked is_param g.reference.arguments refl s.goal.trees_free; below = first-unmarked (is_from (length S.variables)) g.reference.arguments refl b.1 }

pub target-stands : (S : State) (g : TraitGoal) (to : Tree) → BothAreValid trait_rules S g to → IsRuleTree (length S.variables) to
target-stands S g to s = record { no_parameter = s.tree.trees_free; below = (stands-below S g.env (alone to) s.tree).1 }

pub env-low : (S : State) (g : TraitGoal) (to : Tree) → BothAreValid trait_rules S g to → IsBelow (length S.variables) g.env
env-low S g to s = (stands-below S g.env (alone to) s.tree).0

-- what is said of as many variables
pub as-many-there : (P : ℕ → Type 0) (S T : State) → T ≡ S → P (length S.variables) → P (length T.variables)
as-many-there P S T e p = subst (λ (x : State). P (length x.variables)) (sym e) p

-- the first of the clauses
pub first-there : (P : Clause → Type 0) (xs : List Clause) (o : Option Clause) → o ≡ first_listed xs → All P xs → IfSome o P
first-there P xs o e a = subst (λ (x : Option Clause). IfSome x P) (sym e) (of xs a)
  where
    of : (ys : List Clause) → All P ys → IfSome (first_listed ys) P
    of [] b = tt
    of (y ∷ ys) b = All-head P y ys b

pub first-tree : (h : Clause → Tree) (xs : List Clause) (o : Option Clause) → o ≡ first_listed xs → option_map h o ≡ first_listed (map h xs)
first-tree h xs o e = ap (option_map h) e ∙ of xs
  where
    of : (ys : List Clause) → option_map h (first_listed ys) ≡ first_listed (map h ys)
    of [] = refl
    of (y ∷ ys) = refl
