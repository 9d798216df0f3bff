-- All candidates by an object's own bounds, by those of its clauses.
use Rattle.std.proofs.Common.{◌≡◌, true, false, refl, sym, ap, subst, ◌∙◌, List, [], map, Result, Ok}
use Rattle.ir_trees.specs.declared.ir.heads.Head.{Head}
use Rattle.ir_trees.specs.declared.ir.heads.Head.TheVariants as H
use Rattle.ir_trees.specs.declared.ir.kinds.Clause.{Clause}
use Rattle.ir_trees.specs.declared.ir.kinds.Ty.{Ty}
use Rattle.ir_trees.specs.declared.ir.stop.Stop.{Stop}
use Rattle.ir_trees.specs.Declarations.Context.{Context, Grows, world}
use Rattle.ir_trees.specs.Declarations.References.{FitsAmong}
use Rattle.ir_trees.specs.Syntax.Trees.{Forest, Tree}
use Rattle.ir_trees.specs.Validity.WellFormed.{IsWellFormedTable}
use Rattle.ir_trees.specs.Syntax.Words.{ty_tree}
use Rattle.ir_trees.specs.Declarations.Worlds.{World}
use Rattle.ir_trees.proofs.Growth.Kept.{grows-refl}
use Rattle.ir_trees.proofs.Kinding.References.{fit-at}
use Rattle.candidate_eval.specs.declared.eval.response.Candidate.{Candidate as OfNumbers}
use Rattle.candidate_eval.specs.declared.eval.source.CandidateSource.{CandidateSource}
use Rattle.candidate_eval.specs.Interface.Accounts.{Account}
use Rattle.candidate_eval.specs.Judges.Alike.{JudgesAlike}
use Rattle.candidate_eval.specs.Interface.Evaluators.{Keeps}
use Rattle.candidate_eval.specs.Outcomes.ResponseTrees.{AreCandidates, candidates_of}
use Rattle.candidate_eval.specs.Judges.States.{Judge, State}
use Rattle.candidate_eval.proofs.Interface.Accounts.{reaches}
use Rattle.candidate_eval.proofs.Interface.Probing.{then as after}
use Rattle.candidate_assembly.specs.Laws.BuiltinLaws.{nodes_fit}
use Rattle.candidate_assembly.specs.Rules.DynBounds.{ArePrincipalSupers, is_dynamic}
use Rattle.candidate_assembly.specs.Goals.Kinds.{KindRules, self_type}
use Rattle.candidate_assembly.specs.Answers.Listing.{ConsidersAll, Listed, Lists, together}
use Rattle.candidate_assembly.specs.Rules.ObjectBounds.{ObjectsAnswer, answer, has_own_clauses, nothing, own_clauses}
use Rattle.candidate_assembly.specs.Calls.ObjectCalls.{AreOwnClauses, ObjectFollows, ObjectsFollow, own_clause_of}
use Rattle.candidate_assembly.proofs.Objects.ObjectLaws.{answers_back, has_dynamic, own_clauses_speak}
use Rattle.candidate_assembly.specs.Laws.SuperLaws.{IsFitting}
use Rattle.candidate_assembly.proofs.Objects.SuperLaws.{principal_supers_back}
use Rattle.candidate_assembly.proofs.Aliases.AliasChains.{list-as}
use Rattle.candidate_assembly.proofs.Calls.Causes.{later, so-err}
use Rattle.candidate_assembly.proofs.Aliases.Chains.{together-last}
use Rattle.candidate_assembly.proofs.Lists.Listing.{candidates-kept}

-- A `dyn` type of a context fits.

dynamic-fits : (w : World) (h : Head) (below : Forest) → h ≡ H.Dynamic → (let u : Tree = record { head = h; children = below } in FitsAmong w u) → (let u : Tree = record { head = h; children = below } in IsFitting w u)
dynamic-fits w H.Dynamic below e f = record { takes = f.0; below = f.1 }
dynamic-fits w _ below e f = absurd cc

pub type-fits : (c : Context) → IsWellFormedTable c → (ty : Ty) → (ty_tree c.trees ty).head ≡ H.Dynamic → IsFitting (world c) (ty_tree c.trees ty)
type-fits c t ty e = let u = ty_tree c.trees ty in dynamic-fits (world c) u.head u.children e (fit-at (world c) c.trees (nodes_fit c t) ty.0)

pub dynamic-head : (h : Head) → is_dynamic h ≡ true → h ≡ H.Dynamic
dynamic-head H.Dynamic e = refl
dynamic-head _ e = absurd cc

module _ {E G X : Type 0} {fixed : E → X} {judge : X → Judge} {state : E → State} {probes : E → List State} {context : E → Context} {stops : Account E} (law : (f : X) → JudgesAlike (judge f)) (K : KindRules G) (g : G) where
  -- no bound says anything
  pub nothing-said : {A : Type 0} (first : E) (before : List OfNumbers) (x : A) → AreCandidates (context first).trees before → has_own_clauses (context first) (K.reference_of (context first) g).trait (self_type K (context first) g) ≡ false
      → ConsidersAll {A = A} fixed judge state probes context stops first first (state first) (λ _. before) (ObjectFollows K (judge (fixed first)) (context first) (state first) g before) (Ok x)
  nothing-said first before x fit e = record {
    kept = record { fixed_same = refl; probes_same = refl; grows = grows-refl (context first); faults = refl };
    alike = (law (fixed first)).alike_same (state first);
    told = record {
      ok = record { by_bounds = Lists []; list = nothing e; is = sym (together-last (Lists (candidates_of (context first).trees before))) };
      fits = fit;
      stopped = tt;
    };
    cause = tt;
  }

-- what comes of the clauses comes of the whole
followed : {F G : Type 0} (K : KindRules G) (judge : F → Judge) (f h : F) (old mid : Context) (S T : State) (g d : G) (ty : Ty) (before : List OfNumbers) (xs : List (CandidateSource × Clause)) → IsWellFormedTable old → Grows old mid
    → h ≡ f → T ≡ S → d ≡ g → K.reference_of mid g ≡ K.reference_of old g → ((x : Head) → K.fits mid g x ≡ K.fits old g x) → ty_tree old.trees ty ≡ self_type K old g → AreCandidates old.trees before
    → has_own_clauses old (K.reference_of old g).trait (self_type K old g) ≡ true → AreOwnClauses old mid (ty_tree old.trees ty) xs
    → (l : Listed) → ObjectsFollow K (judge h) mid T d before (map (own_clause_of mid.trees) xs) l → ObjectFollows K (judge f) old S g before l
followed K judge f h old mid S T g d ty before xs table grows same rests seen reference fits is fit has own l o =
    let type = ty_tree old.trees ty in
    let J = judge f in
    let dynamic : is_dynamic type.head ≡ true = ap (λ (t : Tree). is_dynamic t.head) is ∙ has_dynamic old (K.reference_of old g).trait (self_type K old g) has in
    let fitting = type-fits old table ty (dynamic-head type.head dynamic) in
    let r = principal_supers_back old old table (grows-refl old) type fitting.below own.supers own.are_supers in
    let os = own_clauses type own.supers in
    let there = subst (λ z. ObjectsAnswer K J mid S g z o.by_clauses) own.are
    (subst (λ z. ObjectsAnswer K J mid S z (map (own_clause_of mid.trees) xs) o.by_clauses) seen
    (subst (λ z. ObjectsAnswer K J mid z d (map (own_clause_of mid.trees) xs) o.by_clauses) rests
    (subst (λ z. ObjectsAnswer K (judge z) mid T d (map (own_clause_of mid.trees) xs) o.by_clauses) same o.answers))) in
    let here = answers_back K J old mid table grows S g reference fits os o.by_clauses (own_clauses_speak old table type own.supers dynamic fitting own.are_supers r.1) there in
    record {
      by_bounds = o.by_clauses;
      list = answer own.supers has (subst (λ t. ArePrincipalSupers old t own.supers) is own.are_supers) (subst (λ t. ObjectsAnswer K J old S g (own_clauses t own.supers) o.by_clauses) is here);
      is = o.is ∙ ap (λ cs. together (Lists cs) o.by_clauses) (candidates-kept old mid before grows fit).1;
    }

module _ {E G X : Type 0} {fixed : E → X} {judge : X → Judge} {state : E → State} {probes : E → List State} {context : E → Context} {stops : Account E} (K : KindRules G) where
  pub bounds-listed : {A : Type 0} (first mid new : E) (g d : G) (ty : Ty) (before items : List OfNumbers) (xs : List (CandidateSource × Clause)) (r : Result A Stop) → IsWellFormedTable (context first) → Keeps fixed probes context first mid → state mid ≡ state first
      → d ≡ g → K.reference_of (context mid) g ≡ K.reference_of (context first) g → ((x : Head) → K.fits (context mid) g x ≡ K.fits (context first) g x) → ty_tree (context first).trees ty ≡ self_type K (context first) g → AreCandidates (context first).trees before
      → has_own_clauses (context first) (K.reference_of (context first) g).trait (self_type K (context first) g) ≡ true → AreOwnClauses (context first) (context mid) (ty_tree (context first).trees ty) xs
      → ConsidersAll fixed judge state probes context stops mid new (state mid) (λ _. items) (ObjectsFollow K (judge (fixed mid)) (context mid) (state mid) d before (map (own_clause_of (context mid).trees) xs)) r
      → ConsidersAll fixed judge state probes context stops first new (state first) (λ _. items) (ObjectFollows K (judge (fixed first)) (context first) (state first) g before) r
  bounds-listed first mid new g d ty before items xs r table kept rests seen reference fits is fit has own c = record {
    kept = after kept c.kept;
    alike = subst (λ (x : State). (judge (fixed first)).alike x (state new)) rests (subst (λ (x : X). (judge x).alike (state mid) (state new)) kept.fixed_same c.alike);
    told = list-as (λ _. items) (context new).trees r
        (followed K judge (fixed first) (fixed mid) (context first) (context mid) (state first) (state mid) g d ty before xs table kept.grows kept.fixed_same rests seen reference fits is fit has own) c.told;
    cause = so-err r (λ s. later (reaches kept)) c.cause;
  }
