-- Goals of traits keep the laws of a kind of goals.
use Rattle.std.proofs.Common.{◌≡◌, ℕ, Bool, true, false, refl, ap, Option, Some, None, List, [], ◌∷◌}
use Rattle.std.specs.Prelude.{◌&&◌}
use Rattle.std.proofs.lemmas.List.Elements.{All-nil}
use Rattle.ir_trees.specs.declared.ir.heads.ClauseHead.TheVariants as Cl
use Rattle.ir_trees.specs.declared.ir.heads.Head.{Head}
use Rattle.ir_trees.specs.declared.ir.heads.Head.TheVariants as H
use Rattle.ir_trees.specs.declared.ir.heads.PartHead.TheVariants as P
use Rattle.ir_trees.specs.declared.ir.kinds.Clause.{Clause}
use Rattle.ir_trees.specs.Syntax.Binders.{escapes}
use Rattle.ir_trees.specs.Declarations.Context.{Context, world}
use Rattle.ir_trees.specs.Declarations.References.{FitsAmong, IsWellFormed}
use Rattle.ir_trees.specs.Unification.Substitutions.{alone}
use Rattle.ir_trees.specs.Hierarchy.Supers.{after_first}
use Rattle.ir_trees.specs.Syntax.Trees.{Kind, TypeKind, BinderKind, Forest, none, tree, Tree, holds}
use Rattle.ir_trees.specs.Syntax.Words.{clause_tree}
use Rattle.ir_trees.specs.Declarations.Worlds.{TraitSort, joined, kinds_of, parameters}
use Rattle.ir_trees.proofs.Kinding.References.{fit-at}
use Rattle.candidate_eval.specs.Derivations.ImplRules.{TraitGoal}
use Rattle.candidate_eval.specs.Derivations.Mentions.{RuleBelow}
use Rattle.candidate_eval.specs.Dynamic.ObjectRequirements.{first_tree}
use Rattle.candidate_eval.specs.Judges.States.{State, resolved, resolved_tree}
use Rattle.candidate_eval.proofs.Marks.Closed.{after-closed, closed, closed-parts}
use Rattle.candidate_eval.proofs.Marks.Holds.{holds_parts}
use Rattle.candidate_eval.proofs.Marks.Marking.{after-unmarked, unmarked}
use Rattle.candidate_assembly.specs.Laws.BuiltinLaws.{goal_builtin_stays, nodes_fit}
use Rattle.candidate_assembly.specs.Laws.BuiltinsBelow.{goal-rule-below}
use Rattle.candidate_assembly.specs.Laws.ImplLaws.{impl_part_stays, impl_steps_below}
use Rattle.candidate_assembly.specs.Goals.KindLaws.{KindLaws}
use Rattle.candidate_assembly.specs.Goals.Kinds.{passes}
use Rattle.candidate_assembly.specs.Laws.Matching.{match_below}
use Rattle.candidate_assembly.specs.Rules.ObjectBounds.{HasArguments}
use Rattle.candidate_assembly.specs.Laws.UnsizingSources.{trait_adds}
use Rattle.candidate_assembly.specs.Laws.Staying.{same_fits}
use Rattle.candidate_assembly.specs.Laws.SuperLaws.{arguments_fit}
use Rattle.candidate_assembly.specs.Goals.TraitGoals.{arguments_held, fits, trait_goal, types_held, with_first}
use Rattle.candidate_assembly.specs.Goals.TraitRules.{trait_bounds, trait_rules}
use Rattle.candidate_assembly.specs.Laws.UnsizingLaws.{unsizing_stays}

-- a row with another first tree

holds_with_first : (mark : Head → Bool) (t : Tree) (ts : Forest) → holds mark ts ≡ false → holds mark (alone t) ≡ false → holds mark (with_first t ts) ≡ false
holds_with_first mark t ts h k = let p = holds_parts mark t.head t.children none k in rw (p.here, p.under) (after-unmarked mark ts h)

escapes_with_first : (n : ℕ) (t : Tree) (ts : Forest) → escapes n ts ≡ false → escapes n (alone t) ≡ false → escapes n (with_first t ts) ≡ false
escapes_with_first n t ts h k = let p = closed-parts n t.head t.children none k in closed n t.head t.children (after_first ts) p.here p.under (after-closed n ts h)

first_holds : (mark : Head → Bool) (ts : Forest) → mark H.Error ≡ false → holds mark ts ≡ false → holds mark (alone (first_tree ts)) ≡ false
first_holds mark none x h = unmarked mark H.Error none none x refl refl
first_holds mark (tree h below rest) x e = let p = holds_parts mark h below rest e in unmarked mark h below none p.here p.under refl

first_escapes : (n : ℕ) (ts : Forest) → escapes n ts ≡ false → escapes n (alone (first_tree ts)) ≡ false
first_escapes n none h = refl
first_escapes n (tree h below rest) e = let p = closed-parts n h below rest e in closed n h below none p.here p.under refl

first_resolved : (S : State) (ts : Forest) → first_tree (resolved S ts) ≡ resolved_tree S (first_tree ts)
first_resolved S none = refl
first_resolved S (tree h below rest) = refl

-- a clause that says of a trait that it holds, or doesn't: what stands under its binder is what the trait takes

after_binder : (o : Option (List Kind)) (below : Forest) → joined (Some (BinderKind ∷ [])) (joined (Some (TypeKind ∷ [])) o) ≡ Some (kinds_of below) → joined (Some (TypeKind ∷ [])) o ≡ Some (kinds_of (after_first below))
after_binder None below e = absurd cc
after_binder (Some ks) none e = absurd cc
after_binder (Some ks) (tree h under rest) e =
    let same : TypeKind ∷ ks ≡ kinds_of rest = cc in ap (λ (x : List Kind). Some x) same

fitting_arguments : (c : Context) (g : TraitGoal) (h : Head) (below : Forest) → (let t : Tree = record { head = h; children = below } in FitsAmong (world c) t) → fits c g h ≡ true
    → (let t : Tree = record { head = h; children = below } in HasArguments c t)
fitting_arguments c g (H.Part (P.Clause (Cl.Trait i p))) below f e = after_binder (parameters (world c) TraitSort i.0) below f.0
fitting_arguments c g _ below f e = absurd cc

passing_fits : (a b : Bool) → a && b ≡ true → a ≡ true
passing_fits true b e = refl
passing_fits false b e = absurd cc

passing_arguments : (c : Context) → IsWellFormed c → (g : TraitGoal) (x : Clause) → passes trait_rules c g (clause_tree c.trees x) ≡ true → HasArguments c (clause_tree c.trees x)
passing_arguments c w g x e =
    let t = clause_tree c.trees x in
    fitting_arguments c g t.head t.children (fit-at (world c) c.trees w x.0) (passing_fits (fits c g t.head) _ e)

pub trait_laws : KindLaws trait_rules trait_bounds arguments_held types_held trait_goal
trait_laws = record {
  adds = trait_adds;
  arguments = λ c t env p h. arguments_fit c t p.trait_ref.args h.arguments;
  fit = record { arguments = λ c t env p h x i e. passing_arguments c (nodes_fit c t) (trait_goal c.trees env p) x e };
  below = record {
    matches = λ n g c a e. match_below n g c a e;
    impls = impl_steps_below;
    builtins = λ c t w n r env p h b. goal-rule-below n r c env p t w h b.env b.trees;
    additional = λ c t n g alias b e. All-nil (RuleBelow n);
  };
  stay = record {
    reference = λ old new t g p. refl;
    fits = λ old new t grows g h. same_fits old new g (ap (λ (c : Context). c.contents) grows.same) h;
    impls = impl_part_stays;
    builtins = goal_builtin_stays;
    additional = λ old new t grows g alias. refl;
    unsizing = unsizing_stays;
  };
  change = record {
    same_env = λ g t. refl;
    self_type_is = λ c g t. refl;
    self_type_alone = λ c g t. refl;
    reference_holds = λ mark c g h. h;
    self_type_holds = λ mark c g x h. first_holds mark g.reference.arguments x h;
    self_type_escapes = λ n c g h. first_escapes n g.reference.arguments h;
    holds_no_more = λ mark g t h k. holds_with_first mark t g.reference.arguments h k;
    escapes_no_more = λ n g t h k. escapes_with_first n t g.reference.arguments h k;
    put_env = λ g e ts. refl;
    put_trees = λ g e ts. refl;
    put_reference = λ S c g e. refl;
    put_self_type = λ S c g e. first_resolved S g.reference.arguments;
  };
}
