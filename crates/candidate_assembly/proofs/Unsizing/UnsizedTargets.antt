-- The target of unsizing, before and after it was normalised.
use Rattle.std.proofs.Common.{Global, Vec, ◌≡◌, ◌∷◌, IfErr, Bool, true, false, refl, sym, ap, subst, ◌∙◌, List, [], Result, Ok, Err, Some, None, if◌then◌else◌}
use Rattle.ir_trees.specs.declared.ir.heads.Head.{Head}
use Rattle.ir_trees.specs.declared.ir.heads.Head.TheVariants as H
use Rattle.ir_trees.specs.declared.ir.kinds.ParamEnv.{ParamEnv}
use Rattle.ir_trees.specs.declared.ir.kinds.TraitPredicate.{TraitPredicate}
use Rattle.ir_trees.specs.declared.ir.stop.Stop.{Stop}
use Rattle.ir_trees.specs.Syntax.Binders.{escapes}
use Rattle.ir_trees.specs.declared.ir.kinds.Ty.{Ty}
use Rattle.ir_trees.specs.Declarations.Context.{Context, Grows, world}
use Rattle.ir_trees.specs.Declarations.Worlds.{Fits}
use Rattle.ir_trees.specs.Unification.Substitutions.{alone}
use Rattle.ir_trees.specs.Hierarchy.Supers.{after_first}
use Rattle.ir_trees.specs.Syntax.Trees.{Forest, none, put, tree, Tree, TypeKind, holds, is_param}
use Rattle.ir_trees.specs.Validity.WellFormed.{IsWellFormedTable}
use Rattle.ir_trees.specs.Syntax.Words.{IsTy, args_forest, env_forest, ty_tree}
use Rattle.candidate_eval.specs.declared.eval.response.Candidate.{Candidate as OfNumbers}
use Rattle.candidate_eval.specs.Interface.Accounts.{Account}
use Rattle.candidate_eval.specs.Judges.Alike.{JudgesAlike}
use Rattle.candidate_eval.specs.Derivations.ImplRules.{TraitGoal}
use Rattle.candidate_eval.specs.Judges.Lawful.{NormalFormLaws}
use Rattle.candidate_eval.specs.Dynamic.ObjectRequirements.{first_tree}
use Rattle.candidate_eval.specs.Outcomes.ResponseTrees.{AreCandidates, IsResponse, candidates_of}
use Rattle.candidate_eval.specs.Judges.Soundness.{is_strange}
use Rattle.candidate_eval.specs.Judges.States.{Env, Judge, State}
use Rattle.ir_trees.proofs.Growth.Kept.{grows-refl}
use Rattle.ir_trees.proofs.Kinding.References.{fit-at}
use Rattle.ir_trees.proofs.Syntax.Rows.{list-kind}
use Rattle.std.proofs.lemmas.List.Elements.{All-nil}
use Rattle.candidate_eval.specs.Interface.Evaluators.{Keeps, NoFault}
use Rattle.candidate_eval.proofs.Marks.Closed.{after-closed, closed, closed-parts}
use Rattle.candidate_eval.proofs.Marks.Holds.{holds_parts}
use Rattle.candidate_eval.proofs.Marks.Marking.{after-unmarked, unmarked}
use Rattle.candidate_eval.proofs.Interface.Probing.{alike-probe, keeps-probe}
use Rattle.candidate_assembly.specs.Laws.BuiltinLaws.{nodes_fit}
use Rattle.candidate_assembly.specs.Rules.BuiltinRules.{pair_of, positive, self_of}
use Rattle.candidate_assembly.specs.Goals.KindBounds.{UnsizingList, no_target, refused, rules}
use Rattle.candidate_assembly.specs.Goals.Kinds.{IsGoal}
use Rattle.candidate_assembly.specs.Answers.Listing.{ConsidersAll, Listed, Lists, ToldList, answers}
use Rattle.candidate_assembly.specs.Goals.Standing.{BothAreValid, GoalIsValid, IsValidAt}
use Rattle.candidate_assembly.specs.Laws.SuperLaws.{arguments_fit}
use Rattle.candidate_assembly.proofs.Objects.SuperLaws.{first_fits, first_supers_back}
use Rattle.candidate_assembly.specs.Answers.Telling.{StopsOfItself}
use Rattle.candidate_assembly.specs.Goals.TraitGoals.{arguments_held, trait_goal, types_held}
use Rattle.candidate_assembly.specs.Goals.TraitRules.{trait_bounds, trait_rules}
use Rattle.candidate_assembly.specs.Rules.Unsizing.{AreUnsizingSupers, IsUnsizedTo, unsizing_rules, unsizing_target}
use Rattle.candidate_assembly.specs.Laws.UnsizingLaws.{unsizing_stays}
use Rattle.candidate_assembly.proofs.Aliases.AliasWalks.{list-grown}
use Rattle.candidate_assembly.proofs.Calls.Causes.{so-err, within}
use Rattle.candidate_assembly.proofs.Aliases.Chains.{together-empty}
use Rattle.candidate_assembly.proofs.Calls.Keeping.{trait-goal-kept}
use Rattle.candidate_assembly.proofs.Goals.Standing.{StandsThere, first-stands, others-stand, stands-normal}

first-marked : (mark : Head → Bool) (ts : Forest) → mark H.Error ≡ false → holds mark ts ≡ false → holds mark (alone (first_tree ts)) ≡ false
first-marked mark none x h = unmarked mark H.Error none none x refl refl
first-marked mark (tree h below rest) x e = let p = holds_parts mark h below rest e in unmarked mark h below none p.here p.under refl

first-shut : (ts : Forest) → escapes 0 ts ≡ false → escapes 0 (alone (first_tree ts)) ≡ false
first-shut none h = refl
first-shut (tree h below rest) e = let p = closed-parts 0 h below rest e in closed 0 h below none p.here p.under refl

-- the second of some trees stands where they do
pub second-there : (S : State) (e : Env) (ts : Forest) (s : IsValidAt S e ts) → StandsThere S e ts s (first_tree (after_first ts))
second-there S e ts s = record {
  trees = record {
    known = first-marked (is_strange S s.live) (after_first ts) refl (after-unmarked (is_strange S s.live) ts s.trees.known);
    is_closed = first-shut (after_first ts) (after-closed 0 ts s.trees.is_closed);
  };
  free = first-marked is_param (after_first ts) refl (after-unmarked is_param ts s.trees_free);
}

abbrev target-in : TraitGoal → Tree
target-in g = first_tree (after_first g.reference.arguments)

pub target-is : (g : TraitGoal) (t : Tree) → unsizing_target g ≡ Some t → t ≡ target-in g
target-is g t e = of (positive g) e
  where
    of : (b : Bool) → (if b then Some (target-in g) else None) ≡ Some t → t ≡ target-in g
    of true e = let f : target-in g ≡ t = cc in sym f
    of false e = absurd cc

-- the goal and the target's normal form, at the state that normalising left
pub normal-target : (J : Judge) → NormalFormLaws J → (S T : State) (g d : TraitGoal) (t u : Tree) → d ≡ g → t ≡ target-in g → GoalIsValid trait_rules S g → J.normalized S g.env t ≡ Some (u, T) → BothAreValid trait_rules T d u
normal-target J law S T g d t u same is s n =
    let there = stands-normal J law S T g.env (target-in g) u g.reference.arguments s (second-there S g.env g.reference.arguments s) (ap (J.normalized S g.env) (sym is) ∙ n) in
    subst (λ (x : TraitGoal). BothAreValid trait_rules T x u) (sym same)
    (record { goal = others-stand T g.env u g.reference.arguments there; tree = first-stands T g.env u g.reference.arguments there })

-- a type of the context takes the children that it has
pub type-fits : (c : Context) → IsWellFormedTable c → (t : Ty) → IsTy c.trees t → Fits (world c) (alone (ty_tree c.trees t))
type-fits c w t is = subst (λ b. Fits (world c) (put b (ty_tree c.trees t) none)) (list-kind c.trees t.0 TypeKind refl is) (fit-at (world c) c.trees (nodes_fit c w) t.0)

-- What was listed for the target's normal form is what unsizing gives.
pub unsized-there : (J : Judge) → JudgesAlike J → (old new : Context) (S U : State) (env : ParamEnv) (p : TraitPredicate) (t u : Tree) → IsWellFormedTable old → Grows old new → IsGoal trait_rules arguments_held types_held trait_goal old env p
    → unsizing_target (trait_goal old.trees env p) ≡ Some t → J.normalized S (env_forest old.trees env) t ≡ Some (u, U) → Fits (world new) (alone u)
    → (l : Listed) → IsUnsizedTo J new U (trait_goal new.trees env p) u [] l → UnsizingList trait_rules trait_bounds J old S (trait_goal old.trees env p) l
unsized-there J law old new S U env p t u w grows h is n fit l x =
    let g = trait_goal old.trees env p in
    let same = (trait-goal-kept old new env p grows h).1 in
    let supers = first_supers_back old new w grows p.trait_ref.args h.arguments u x.supers (subst (λ (y : TraitGoal). AreUnsizingSupers new (self_of y) u x.supers) same x.are) in
    let whole : l ≡ answers J U (unsizing_rules old x.supers g u)
    = x.is ∙ (together-empty (answers J U (unsizing_rules new x.supers (trait_goal new.trees env p) u))
    ∙ (ap (λ y. answers J U (unsizing_rules new x.supers y u)) same ∙ ap (answers J U) (unsizing_stays old new w grows x.supers g u))) in
    let self = first_fits (world old) (args_forest old.trees p.trait_ref.args) (arguments_fit old w p.trait_ref.args h.arguments) in
    let here : Fits (world old) (alone u) = subst (λ (c : Context). Fits (world c) (alone u)) grows.same fit in
    subst (UnsizingList trait_rules trait_bounds J old S g) (sym whole) (rules S x.supers is (law.alike_same S) n supers (self.takes, self.below, here))

-- It is what unsizing gives where the context hadn't grown yet.
pub unsizing-list-back : (J : Judge) (old new : Context) (S : State) (env : ParamEnv) (p : TraitPredicate) → IsWellFormedTable old → Grows old new → IsGoal trait_rules arguments_held types_held trait_goal old env p
    → (l : Listed) → UnsizingList trait_rules trait_bounds J new S (trait_goal new.trees env p) l → UnsizingList trait_rules trait_bounds J old S (trait_goal old.trees env p) l
unsizing-list-back J old new S env p w grows h l x = of l (subst (λ (y : TraitGoal). UnsizingList trait_rules trait_bounds J new S y l) (trait-goal-kept old new env p grows h).1 x)
  where
    of : (l : Listed) → UnsizingList trait_rules trait_bounds J new S (trait_goal old.trees env p) l → UnsizingList trait_rules trait_bounds J old S (trait_goal old.trees env p) l
    of _ (no_target e) = no_target e
    of _ (refused T e a n) = refused T e a n
    of _ (rules {u = u} {U = U} T supers e a n s f) =
        subst (λ rs. UnsizingList trait_rules trait_bounds J old S (trait_goal old.trees env p) (answers J U rs)) (sym (unsizing_stays old new w grows supers (trait_goal old.trees env p) u))
        (rules T supers e a n (first_supers_back old new w grows p.trait_ref.args h.arguments u supers s)
        (subst (λ (c : Context). Fits (world c) (pair_of (self_of (trait_goal old.trees env p)) u)) grows.same f))

pub target-none : (g : TraitGoal) → positive g ≡ false → unsizing_target g ≡ None
target-none g e = ap (λ (b : Bool). if b then Some (target-in g) else None) e

pub target-some : (g : TraitGoal) (t : Tree) → positive g ≡ true → t ≡ target-in g → unsizing_target g ≡ Some t
target-some g t e is = ap (λ (b : Bool). if b then Some (target-in g) else None) e ∙ ap Some (sym is)

pub nothing-told : (ts : List Tree) (R : Listed → Type 0) (v : Vec OfNumbers Global) → v.items ≡ [] → R (Lists []) → ToldList {A = Vec OfNumbers Global} (λ (w : Vec OfNumbers Global). w.items) ts R (Ok v)
nothing-told ts R v is there = record {
  ok = subst (λ ys. R (Lists (candidates_of ts ys))) (sym is) there;
  fits = subst (AreCandidates ts) (sym is) (All-nil (λ (c : OfNumbers). IsResponse ts c.result));
  stopped = tt;
}

-- The list that is answered, by the one that was added to.
module _ {E X : Type 0} {fixed : E → X} {judge : X → Judge} {state : E → State} {probes : E → List State} {context : E → Context} {stops : Account E} where
  pub handed-list : (old new : E) (left : State) (xs : List OfNumbers) (R : Listed → Type 0) (v : Vec OfNumbers Global) → v.items ≡ xs → ConsidersAll {A = Unit {0}} fixed judge state probes context stops old new left (λ _. xs) R (Ok tt)
      → ConsidersAll {A = Vec OfNumbers Global} fixed judge state probes context stops old new left (λ (w : Vec OfNumbers Global). w.items) R (Ok v)
  handed-list old new left xs R v is c = record {
    kept = c.kept;
    alike = c.alike;
    told = record {
      ok = subst (λ ys. R (Lists (candidates_of (context new).trees ys))) (sym is) c.told.ok;
      fits = subst (AreCandidates (context new).trees) (sym is) c.told.fits;
      stopped = tt;
    };
    cause = tt;
  }

  pub handed-stop : {A B : Type 0} (old new : E) (left : State) (items : A → List OfNumbers) (others : B → List OfNumbers) (R : Listed → Type 0) (s : Stop) (r : Result B Stop) → r ≡ Err s
      → ConsidersAll fixed judge state probes context stops old new left items R (Err s) → ConsidersAll fixed judge state probes context stops old new left others R r
  handed-stop old new left items others R s r is c = rw is (record { kept = c.kept; alike = c.alike; told = record { ok = tt; fits = tt; stopped = c.told.stopped }; cause = c.cause })

  -- What was told in a probe, after it.
  pub listed-in-probe : {A : Type 0} (items : A → List OfNumbers) (R : Listed → Type 0) (old began ran new : E) (answer : Result A Stop) → fixed began ≡ fixed old → probes began ≡ state old ∷ probes old → Grows (context old) (context began)
      → NoFault (context old) (context began) → Keeps fixed probes context began ran → ToldList items (context ran).trees R answer → IfErr answer (StopsOfItself fixed context state stops began ran) → fixed new ≡ fixed ran → Grows (context ran) (context new)
      → NoFault (context ran) (context new)
      → ((T : State) (others : List State) → probes ran ≡ T ∷ others → probes new ≡ others)
      → ((T : State) (others : List State) → probes ran ≡ T ∷ others → (judge (fixed ran)).alike T (state new))
      → ConsidersAll fixed judge state probes context stops old new (state old) items R answer
  listed-in-probe items R old began ran new answer f opens grows n kept told cause ends-same after-grows m left closed = record {
    kept = keeps-probe fixed probes context old began ran new (state old) f grows n opens kept ends-same after-grows m left;
    alike = alike-probe fixed probes judge state old began ran new f opens kept.fixed_same kept.probes_same closed;
    told = list-grown items (context ran) (context new) answer after-grows told;
    cause = so-err answer (λ z h. within (record { same = f; grows = grows }) h (record { same = ends-same; grows = after-grows })) cause;
  }

  -- There is nothing to consider.
  pub nothing-listed : ((f : X) → JudgesAlike (judge f)) → (old : E) (R : Listed → Type 0) (v : Vec OfNumbers Global) → v.items ≡ [] → R (Lists [])
      → ConsidersAll {A = Vec OfNumbers Global} fixed judge state probes context stops old old (state old) (λ (w : Vec OfNumbers Global). w.items) R (Ok v)
  nothing-listed law old R v is there = record {
    kept = record { fixed_same = refl; probes_same = refl; grows = grows-refl (context old); faults = refl };
    alike = (law (fixed old)).alike_same (state old);
    told = nothing-told (context old).trees R v is there;
    cause = tt;
  }
