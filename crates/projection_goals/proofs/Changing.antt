-- Goals that a projection is a term, with another self type, and with values put in.
use Rattle.std.proofs.Common.{◌≡◌, ◌∙◌, ◌||◌, ℕ, Bool, true, false, refl, sym, ap, subst, Some, [], ◌∷◌}
use Rattle.ir_trees.specs.declared.ir.heads.Head.{Head}
use Rattle.ir_trees.specs.declared.ir.kinds.ParamEnv.{ParamEnv}
use Rattle.ir_trees.specs.declared.ir.kinds.PredicatePolarity.TheVariants as Pol
use Rattle.ir_trees.specs.declared.ir.kinds.TraitPredicate.{TraitPredicate}
use Rattle.ir_trees.specs.declared.ir.kinds.TraitRef.{TraitRef}
use Rattle.ir_trees.specs.Declarations.Context.{Context, Grows, world}
use Rattle.ir_trees.specs.Declarations.References.{ArgumentsFit}
use Rattle.ir_trees.specs.Declarations.Worlds.{Reference, TraitSort, World, joined, kinds_of, parameters}
use Rattle.ir_trees.specs.Syntax.Binders.{escapes}
use Rattle.ir_trees.specs.Syntax.Trees.{Forest, Tree, TypeKind, holds, is_param, join, none, tree, tree_holds}
use Rattle.ir_trees.specs.Syntax.Words.{IsArgs, IsParamEnv, IsTy, args_forest, env_forest, ty_tree}
use Rattle.ir_trees.specs.Unification.Substitutions.{alone}
use Rattle.ir_trees.proofs.Growth.Kept.{ty-kept, world-kept}
use Rattle.ir_trees.proofs.Instantiation.Folding.{begin}
use Rattle.ir_trees.proofs.Syntax.Splits.{holds-join}
use Rattle.candidate_eval.specs.Judges.States.{Env, State, resolved, resolved_tree}
use Rattle.candidate_eval.proofs.Dynamic.Objects.{env-kept}
use Rattle.candidate_assembly.specs.Goals.KindShown.{IsGoal, trait_kind}
use Rattle.candidate_assembly.specs.Goals.Standing.{GoalIsValid}
use Rattle.candidate_assembly.specs.Goals.TraitGoals.{trait_goal, with_self_type}
use Rattle.candidate_assembly.proofs.Goals.Standing.{kinds-resolved, stands-resolved}
use Rattle.projection_goals.specs.declared.kind.NormalizesTo.{NormalizesTo}
use Rattle.projection_goals.specs.Normalizing.{NormalizesGoal, left_after, normalizes_goal, normalizes_kind, normalizes_rules, reference_of_goal, trait_named, trait_of_item, with_trees}
use Rattle.projection_goals.specs.NormalizingLaws.{reference-is, reference-stays, takes-alike, term-is}
use Rattle.projection_goals.specs.Rows.{as-many-resolved, escaping-join, escaping-parts, held-join, held-parts, left-resolved}

-- The reference of a goal.

pub reference-here : (c : Context) (env : ParamEnv) (p : NormalizesTo) → IsGoal normalizes_kind c env p
    → reference_of_goal c (normalizes_goal c.trees env p) ≡ record { trait = trait_named c p.alias.id.0; arguments = args_forest c.trees p.alias.args }
reference-here c env p h = reference-is c (normalizes_goal c.trees env p) (takes-alike c p.alias.id.0 _ h.fit)

pub fit-here : (c : Context) (env : ParamEnv) (p : NormalizesTo) → IsGoal normalizes_kind c env p
    → joined (Some (TypeKind ∷ [])) (parameters (world c) TraitSort (trait_named c p.alias.id.0)) ≡ Some (kinds_of (args_forest c.trees p.alias.args))
fit-here c env p h =
    subst (λ (r : Reference). joined (Some (TypeKind ∷ [])) (parameters (world c) TraitSort r.trait) ≡ Some (kinds_of r.arguments)) (reference-here c env p h) h.fit

-- that the trait holds of the arguments is a goal of a trait
pub as-trait-goal : (c : Context) (env : ParamEnv) (p : NormalizesTo) (r : TraitRef) → IsGoal normalizes_kind c env p → r.args ≡ p.alias.args → ArgumentsFit c r
    → IsGoal trait_kind c env (record { trait_ref = r; polarity = Pol.Positive })
as-trait-goal c env p r h e f =
    let args = args_forest c.trees p.alias.args in
    let term = alone (ty_tree c.trees p.term) in
    record {
      env = h.env;
      arguments = subst (λ a. IsArgs c.trees a) (sym e) h.arguments;
      types = refl;
      fit = f;
      no_parameter = ap (λ a. holds is_param (args_forest c.trees a)) e ∙ (held-parts is_param args term h.no_parameter).0;
      is_closed = ap (λ a. escapes 0 (args_forest c.trees a)) e ∙ (escaping-parts 0 args term h.is_closed).0;
    }

-- Another self type.

abbrev goal-with : Env → ℕ → Forest → Tree → NormalizesGoal
goal-with e i a t = record { env = e; item = i; arguments = a; term = alone t }

pub same-goal : (old new : Context) (env other : ParamEnv) (p q : NormalizesTo) (a : Forest) (t : Tree) → q.alias.id ≡ p.alias.id → env_forest new.trees other ≡ env_forest old.trees other → args_forest new.trees q.alias.args ≡ a
    → ty_tree new.trees q.term ≡ t → normalizes_goal new.trees other q ≡ record { env = env_forest old.trees other; item = p.alias.id.0; arguments = a; term = alone t }
same-goal old new env other p q a t i e x y =
    ap (λ n. goal-with (env_forest new.trees other) n.0 (args_forest new.trees q.alias.args) (ty_tree new.trees q.term)) i
    ∙ (ap (λ z. goal-with z p.alias.id.0 (args_forest new.trees q.alias.args) (ty_tree new.trees q.term)) e
    ∙ (ap (λ z. goal-with (env_forest old.trees other) p.alias.id.0 z (ty_tree new.trees q.term)) x
    ∙ ap (goal-with (env_forest old.trees other) p.alias.id.0 a) y))

-- the reference of it fits, where it is to the same trait
fit-of-other : (old new : Context) (env other : ParamEnv) (p q : NormalizesTo) → Grows old new → IsGoal normalizes_kind old env p → q.alias.id ≡ p.alias.id
    → joined (Some (TypeKind ∷ [])) (parameters (world new) TraitSort (trait_named old p.alias.id.0)) ≡ Some (kinds_of (args_forest new.trees q.alias.args))
    → joined (Some (TypeKind ∷ [])) (parameters (world new) TraitSort (reference_of_goal new (normalizes_goal new.trees other q)).trait) ≡ Some (kinds_of (args_forest new.trees q.alias.args))
fit-of-other old new env other p q grows h i f =
    let there : trait_of_item new q.alias.id.0 ≡ trait_named old p.alias.id.0 =
    ap (λ n. trait_of_item new n.0) i ∙ (ap (λ (r : Reference). r.trait) (reference-stays old new (normalizes_goal old.trees env p) grows) ∙ ap (λ (r : Reference). r.trait) (reference-here old env p h)) in
    ap (λ n. joined (Some (TypeKind ∷ [])) (parameters (world new) TraitSort n)) there ∙ f

pub other-goal : (old new : Context) (env : ParamEnv) (p q : NormalizesTo) (r s : TraitPredicate) (t : Tree) → Grows old new → IsGoal normalizes_kind old env p → q.alias.id ≡ p.alias.id → q.term ≡ p.term
    → q.alias.args ≡ s.trait_ref.args → r.trait_ref.def_id.0 ≡ trait_named old p.alias.id.0 → trait_goal new.trees env s ≡ with_self_type (trait_goal old.trees env r) t → IsGoal trait_kind new env s
    → IsGoal normalizes_kind new env q
other-goal old new env p q r s t grows h i same args-are names is there =
    let term = ty-kept old new p.term grows (term-is old env p h) in
    let args = args_forest old.trees p.alias.args in
    let own = alone (ty_tree old.trees p.term) in
    let term-there : alone (ty_tree new.trees q.term) ≡ own = ap (λ x. alone (ty_tree new.trees x)) same ∙ ap alone term.1 in
    let free : holds is_param (args_forest new.trees q.alias.args) ≡ false = ap (λ a. holds is_param (args_forest new.trees a)) args-are ∙ there.no_parameter in
    let shut : escapes 0 (args_forest new.trees q.alias.args) ≡ false = ap (λ a. escapes 0 (args_forest new.trees a)) args-are ∙ there.is_closed in
    record {
      env = there.env;
      arguments = subst (λ a. IsArgs new.trees a) (sym args-are) there.arguments;
      types = ap (λ z. z ∷ []) (subst (λ x. IsTy new.trees x) (sym same) term.0);
      fit = fit-of-other old new env env p q grows h i
          (ap (λ n. joined (Some (TypeKind ∷ [])) (parameters (world new) TraitSort n)) (sym (ap (λ g. g.reference.trait) is ∙ names))
          ∙ (there.fit ∙ ap (λ a. Some (kinds_of (args_forest new.trees a))) (sym args-are)));
      no_parameter = held-join is_param (args_forest new.trees q.alias.args) (alone (ty_tree new.trees q.term)) free (ap (holds is_param) term-there ∙ (held-parts is_param args own h.no_parameter).1);
      is_closed = escaping-join 0 (args_forest new.trees q.alias.args) (alone (ty_tree new.trees q.term)) shut (ap (escapes 0) term-there ∙ (escaping-parts 0 args own h.is_closed).1);
    }

-- Values put in.

resolved-join : (S : State) (a b : Forest) → resolved S (join a b) ≡ join (resolved S a) (resolved S b)
resolved-join S none b = refl
resolved-join S (tree h below rest) b = ap (begin (resolved_tree S (record { head = h; children = below }))) (resolved-join S rest b)

pub put-in : (S : State) (g : NormalizesGoal) (e : Env) (t : Tree) → g.term ≡ alone t
    → with_trees g e (resolved S (join g.arguments g.term)) ≡ record { env = e; item = g.item; arguments = resolved S g.arguments; term = alone (resolved_tree S t) }
put-in S g e t is =
    ap (λ (x : Forest). record { env = e; item = g.item; arguments = x; term = left_after g.arguments (resolved S (join g.arguments g.term)) }) (as-many-resolved S g.arguments g.term)
    ∙ ap (λ (x : Forest). record { env = e; item = g.item; arguments = resolved S g.arguments; term = x }) (left-resolved S g.arguments g.term ∙ ap (resolved S) is)

pub resolved-goal : (old new : Context) (S : State) (env other : ParamEnv) (p q : NormalizesTo) → Grows old new → IsGoal normalizes_kind old env p → IsParamEnv old.trees other → IsArgs new.trees q.alias.args → IsTy new.trees q.term
    → q.alias.id ≡ p.alias.id → args_forest new.trees q.alias.args ≡ resolved S (args_forest old.trees p.alias.args) → ty_tree new.trees q.term ≡ resolved_tree S (ty_tree old.trees p.term)
    → GoalIsValid normalizes_rules S (normalizes_goal old.trees env p) → IsGoal normalizes_kind new other q
resolved-goal old new S env other p q grows h w i k same a t s =
    let args = args_forest old.trees p.alias.args in
    let own = alone (ty_tree old.trees p.term) in
    let r = stands-resolved S (env_forest old.trees env) (join args own) s in
    let trees : join (args_forest new.trees q.alias.args) (alone (ty_tree new.trees q.term)) ≡ resolved S (join args own) =
    ap (λ x. join x (alone (ty_tree new.trees q.term))) a ∙ (ap (λ x. join (resolved S args) (alone x)) t ∙ sym (resolved-join S args own)) in
    record {
      env = (env-kept old new other grows w).0;
      arguments = i;
      types = ap (λ z. z ∷ []) k;
      fit = fit-of-other old new env other p q grows h same
          (ap (λ (v : World). joined (Some (TypeKind ∷ [])) (parameters v TraitSort (trait_named old p.alias.id.0))) (world-kept old new grows).0
          ∙ (fit-here old env p h ∙ ap Some (sym (ap kinds_of a ∙ kinds-resolved S s.live s.fits args (held-parts _ args own s.trees.known).0))));
      no_parameter = ap (holds is_param) trees ∙ r.trees_free;
      is_closed = ap (escapes 0) trees ∙ r.trees.is_closed;
    }

-- A mark on either part.

pub or-nothing : (a : Bool) → (a || false) ≡ a
or-nothing true = refl
or-nothing false = refl

pub held-either : (mark : Head → Bool) (a : Forest) (t : Tree) (x y : Bool) → x ≡ holds mark a → y ≡ tree_holds mark t → holds mark (join a (alone t)) ≡ x || y
held-either mark a t x y e f =
    holds-join mark a (alone t)
    ∙ (ap (λ z. z || (mark t.head || (holds mark t.children || false))) (sym e)
    ∙ ap (λ z. x || z) (ap (λ z. mark t.head || z) (or-nothing (holds mark t.children)) ∙ sym f))
