-- Accounts of stops, from one call to the next.
use Rattle.std.proofs.Common.{◌≡◌, ◌∙◌, ◌<◌, ℕ, get_or, refl, sym, subst, arith, length, map, Result, Ok, Err, List, [], ◌∷◌, inl, inr}
use Rattle.std.proofs.lemmas.List.{get_or-map, length-map}
use Rattle.std.proofs.lemmas.List.Elements.{Contains-append_cases, Contains-append_left, Contains-append_right}
use Rattle.std.specs.Prelude.{IfErr}
use Rattle.std.specs.List.{Contains}
use Rattle.ir_trees.specs.declared.ir.stop.Stop.{Stop}
use Rattle.ir_trees.specs.declared.ir.stop.Stop.TheVariants.{Memory}
use Rattle.ir_trees.specs.declared.ir.kinds.Clause.{Clause}
use Rattle.ir_trees.specs.Declarations.Context.{Context}
use Rattle.ir_trees.specs.Instantiation.Folding.{IsSubstStop}
use Rattle.ir_trees.specs.Unification.Substitutions.{alone}
use Rattle.ir_trees.specs.Syntax.Nodes.{tree_at}
use Rattle.ir_trees.specs.Syntax.Trees.{Forest, Tree}
use Rattle.ir_trees.specs.Syntax.Words.{clause_tree}
use Rattle.ir_trees.proofs.Growth.Kept.{grows-refl, grows-trans}
use Rattle.candidate_eval.specs.declared.eval.refusal.NoSolutionOrStop.{NoSolutionOrStop}
use Rattle.candidate_eval.specs.declared.eval.refusal.NoSolutionOrStop.TheVariants as N
use Rattle.candidate_eval.specs.Interface.Accounts.{Account, Question, Reaches, IsAccounted, StopsBy, StopsSomehow, by_stop}
use Rattle.candidate_eval.specs.Interface.Accounts.StopsBy.{no_memory, accounted, unmade}
use Rattle.candidate_eval.specs.Interface.Accounts.StopsSomehow.{making, asking}
use Rattle.candidate_eval.specs.Interface.Evaluators.{KeepsBut}
use Rattle.candidate_eval.specs.Dynamic.Objects.{IsInstance, IsInstanceOfOne, Projection, Tried, by_object_stop, fresh_instance}
use Rattle.candidate_eval.specs.Judges.States.{Env, Judge, State}
use Rattle.candidate_eval.specs.declared.objects.object.AmbiguousOrStop.{AmbiguousOrStop}
use Rattle.candidate_eval.specs.declared.objects.object.AmbiguousOrStop.TheVariants as A
use Rattle.candidate_eval.specs.Interface.Unmade.{AreValues, IsMade, IsUnmade}
use Rattle.candidate_eval.proofs.Interface.Unmade.{longer, memory-unmade, subst-more, unmade-before, unmade-later}

module _ {E F : Type 0} {fixed : E → F} {context : E → Context} where
  -- what a call keeps, an evaluator reaches
  pub reaches : {P : List (List ℕ) → List (List ℕ) → Type 0} {probes : E → List State} {a b : E} → KeepsBut P fixed probes context a b → Reaches fixed context a b
  reaches k = record { same = k.fixed_same; grows = k.grows }

  pub stays-there : (a : E) → Reaches fixed context a a
  stays-there a = record { same = refl; grows = grows-refl (context a) }

  pub reaches-on : {a b c : E} → Reaches fixed context a b → Reaches fixed context b c → Reaches fixed context a c
  reaches-on {a} {b} {c} g h = record { same = h.same ∙ g.same; grows = grows-trans (context a) (context b) (context c) g.grows h.grows }

  module _ {state : E → State} {stops : Account E} where
    -- a stop of the evaluator that was asked first
    pub accounted-here : {a b : E} {s : Stop} (q : Question) → Reaches fixed context a b → stops b (state a) q s → IsAccounted fixed context state stops a b s
    accounted-here {a} {b} q r x = record { asked = a; left = b; question = q; before = stays-there a; during = r; after = stays-there b; accounts = x }

    -- The same stop, where the call begins earlier; where it ends later; and both.

    pub accounted-later : {a b l : E} {s : Stop} → Reaches fixed context a b → IsAccounted fixed context state stops b l s → IsAccounted fixed context state stops a l s
    accounted-later r x =
        record { asked = x.asked; left = x.left; question = x.question; before = reaches-on r x.before; during = x.during; after = x.after; accounts = x.accounts }

    pub accounted-until : {a l m : E} {s : Stop} → IsAccounted fixed context state stops a l s → Reaches fixed context l m → IsAccounted fixed context state stops a m s
    accounted-until x r =
        record { asked = x.asked; left = x.left; question = x.question; before = x.before; during = x.during; after = reaches-on x.after r; accounts = x.accounts }

    pub accounted-within : {a b l m : E} {s : Stop} → Reaches fixed context a b → IsAccounted fixed context state stops b l s → Reaches fixed context l m
        → IsAccounted fixed context state stops a m s
    accounted-within r x t = accounted-later r (accounted-until x t)

    pub stops-later : {a b l : E} {P Q : Forest → Type 0} {s : Stop} → Reaches fixed context a b → ((ts : Forest) → P ts → Q ts)
        → StopsBy fixed context state stops b l P s → StopsBy fixed context state stops a l Q s
    stops-later r f no_memory = no_memory
    stops-later r f (accounted x) = accounted (accounted-later r x)
    stops-later r f (unmade ts m c) = unmade ts (f ts m) c

    pub stops-until : {a l m : E} {P : Forest → Type 0} {s : Stop} → StopsBy fixed context state stops a l P s → Reaches fixed context l m → StopsBy fixed context state stops a m P s
    stops-until no_memory r = no_memory
    stops-until (accounted x) r = accounted (accounted-until x r)
    stops-until {l = l} {m} (unmade ts p c) r = unmade ts p (subst-more (longer (context l).trees (context m).trees r.grows.kept) c)

    pub stops-within : {a b l m : E} {P Q : Forest → Type 0} {s : Stop} → Reaches fixed context a b → ((ts : Forest) → P ts → Q ts)
        → StopsBy fixed context state stops b l P s → Reaches fixed context l m → StopsBy fixed context state stops a m Q s
    stops-within r f x t = stops-later r f (stops-until x t)

    pub somehow : {a l : E} {P : Forest → Type 0} {s : Stop} → Reaches fixed context a l → ((ts : Forest) → P ts → IsMade (context a).trees ts)
        → StopsBy fixed context state stops a l P s → StopsSomehow fixed context state stops a l s
    somehow r f no_memory = making IsUnmade.no_memory
    somehow r f (accounted x) = asking x
    somehow {a} r f (unmade ts m c) = making (IsUnmade.of_trees (context a) (grows-refl (context a)) r.grows (f ts m) c)

    pub memory-somehow : {a l : E} {s : Stop} → s ≡ Memory → StopsSomehow fixed context state stops a l s
    memory-somehow e = making (memory-unmade e)

    pub somehow-later : {a b l : E} {s : Stop} → Reaches fixed context a b → StopsSomehow fixed context state stops b l s → StopsSomehow fixed context state stops a l s
    somehow-later r (making u) = making (unmade-before r.grows u)
    somehow-later r (asking x) = asking (accounted-later r x)

    pub somehow-until : {a l m : E} {s : Stop} → StopsSomehow fixed context state stops a l s → Reaches fixed context l m → StopsSomehow fixed context state stops a m s
    somehow-until (making u) r = making (unmade-later r.grows u)
    somehow-until (asking x) r = asking (accounted-until x r)

    pub somehow-within : {a b l m : E} {s : Stop} → Reaches fixed context a b → StopsSomehow fixed context state stops b l s → Reaches fixed context l m
        → StopsSomehow fixed context state stops a m s
    somehow-within r x t = somehow-later r (somehow-until x t)

-- what a call would have made
pub unmade-result : {E F X : Type 0} (fixed : E → F) (context : E → Context) (state : E → State) (stops : Account E) (P : Forest → Type 0) (r : Result X Stop) (a last : E) (ts us : Forest)
    → P us → ts ≡ us → IfErr r (λ s. IsSubstStop (length (context last).trees) ts s) → IfErr r (StopsBy fixed context state stops a last P)
unmade-result fixed context state stops P (Ok v) a last ts us m e c = tt
unmade-result fixed context state stops P (Err s) a last ts us m e c = unmade us m (subst (λ x. IsSubstStop (length (context last).trees) x s) e c)

-- What is said of a stop, where an error may be another thing.

pub by-stop : {P Q : Stop → Type 0} (e : NoSolutionOrStop) → ((s : Stop) → P s → Q s) → by_stop P e → by_stop Q e
by-stop N.NoSolution f x = tt
by-stop (N.Stop s) f x = f s x

pub by-object-stop : {P Q : Stop → Type 0} (e : AmbiguousOrStop) → ((s : Stop) → P s → Q s) → by_object_stop P e → by_object_stop Q e
by-object-stop A.Ambiguous f x = tt
by-object-stop (A.Stop s) f x = f s x

pub at-stop : (P : Stop → Type 0) (e : NoSolutionOrStop) (s : Stop) → e ≡ N.Stop s → by_stop P e → P s
at-stop P e s is x = let y : by_stop P (N.Stop s) = subst (by_stop P) is x in y

-- Instances of bounds.

pub instance-made : (ts : List Tree) (n : ℕ) {us : Forest} → IsInstance (tree_at ts n) us → IsMade ts us
instance-made ts n i = subst (IsMade ts) (sym i.is) (IsMade.instance n (AreValues.variables i.state _))

pub listed-made : (ts : List Tree) (cs : List Clause) {us : Forest} → IsInstanceOfOne (map (clause_tree ts) cs) us → IsMade ts us
listed-made ts cs {us} i =
    let d : Clause = record { 0 = 0 } in
    let k = i.listed.0 in
    let same = get_or-map (clause_tree ts) cs k d i.bound (omega (arith, i.listed.1, length-map cs (clause_tree ts))) in
    instance-made ts (get_or cs k d).0 (subst (λ (x : Tree). IsInstance x us) (sym i.listed.2 ∙ same) i.instance)

pub an-instance : (bound : Tree) (S : State) → IsInstance bound (alone (fresh_instance S bound))
an-instance b S = record { state = S; is = refl }

pub same-bound : {b d : Tree} → b ≡ d → (ts : Forest) → IsInstance b ts → IsInstance d ts
same-bound e ts i = subst (λ (x : Tree). IsInstance x ts) e i

pub listed-bound : (f : Clause → Tree) (xs : List Clause) (k : ℕ) (d : Clause) {b : Tree} → k < length xs → b ≡ f (get_or xs k d) → (ts : Forest) → IsInstance b ts → IsInstanceOfOne (map f xs) ts
listed-bound f xs k d {b} l e ts i = record {
  bound = b;
  listed = (k, omega (arith, l, length-map xs f), get_or-map f xs k d b l ∙ sym e);
  instance = i;
}

-- bounds that match are among those that were tried
pub tried-listed : {J : Judge} {e : Env} {p : Projection} {S : State} {cs ds : List Tree} {T : State} → Tried J e p S cs ds T → (x : Tree) → Contains ds x → Contains cs x
tried-listed Tried.none_yet x h = h
tried-listed (Tried.found T c cs ds t m a) x h =
    elim (Contains-append_cases ds (c ∷ []) x h) [ inl y ↦ Contains-append_left cs (c ∷ []) x (tried-listed t x y) | inr y ↦ Contains-append_right cs (c ∷ []) x y ]
tried-listed (Tried.passed T c cs ds t m a) x h = Contains-append_left cs (c ∷ []) x (tried-listed t x h)

pub only-listed : {J : Judge} {e : Env} {p : Projection} {S : State} {cs : List Tree} {d : Tree} {T : State} → Tried J e p S cs (d ∷ []) T → (ts : Forest) → IsInstance d ts → IsInstanceOfOne cs ts
only-listed {d = d} t ts i = record { bound = d; listed = tried-listed t d (0, omega arith, refl); instance = i }
