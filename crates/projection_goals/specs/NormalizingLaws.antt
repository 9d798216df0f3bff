-- Goals that a projection is a term keep the laws of a kind of goals.
use Rattle.std.proofs.Common.{◌≡◌, ◌∙◌, ℕ, Bool, true, false, refl, sym, ap, Option, Some, None, List, [], ◌∷◌, ◌++◌, length, if◌then◌else◌}
use Rattle.std.specs.Prelude.{◌&&◌, ◌==◌}
use Rattle.std.specs.Option.{option_map}
use Rattle.std.proofs.lemmas.Bool.{eqb-true}
use Rattle.std.proofs.lemmas.List.Elements.{All-nil}
use Rattle.std.proofs.lemmas.Option.{slice_get-map, slice_get_past}
use Rattle.std.proofs.Math.Nat.{le_refl}
use Rattle.ir_trees.specs.declared.ir.heads.ClauseHead.TheVariants as Cl
use Rattle.ir_trees.specs.declared.ir.heads.Head.{Head}
use Rattle.ir_trees.specs.declared.ir.heads.Head.TheVariants as H
use Rattle.ir_trees.specs.declared.ir.heads.PartHead.TheVariants as P
use Rattle.ir_trees.specs.declared.ir.kinds.Clause.{Clause}
use Rattle.ir_trees.specs.declared.ir.kinds.ParamEnv.{ParamEnv}
use Rattle.ir_trees.specs.declared.ir.kinds.PredicatePolarity.TheVariants.{Positive}
use Rattle.ir_trees.specs.declared.ir.kinds.TraitRef.{TraitRef}
use Rattle.ir_trees.specs.Declarations.Context.{Context, Grows, definition_of, world}
use Rattle.ir_trees.specs.Declarations.References.{FitsAmong, IsWellFormed}
use Rattle.ir_trees.specs.Declarations.Worlds.{AssociatedTypeSort, Reference, TraitSort, joined, kinds_of, parameters, parameters_of}
use Rattle.ir_trees.specs.Hierarchy.Supers.{after_first}
use Rattle.ir_trees.specs.Syntax.Trees.{BinderKind, ConstantKind, Forest, Kind, RegionKind, Tree, TypeKind, join, kind_of, none, tree}
use Rattle.ir_trees.specs.Syntax.Words.{IsTy, args_forest, clause_tree, env_forest, ty_tree}
use Rattle.ir_trees.specs.Unification.Substitutions.{alone}
use Rattle.ir_trees.specs.Validity.WellFormed.{IsWellFormedTable}
use Rattle.ir_trees.proofs.Growth.Kept.{args-kept, ty-kept}
use Rattle.ir_trees.proofs.Kinding.References.{fit-at, is-reference}
use Rattle.candidate_eval.specs.Builtins.Callable.{all_but_last}
use Rattle.candidate_eval.specs.Derivations.Characterization.{bound_kinds}
use Rattle.candidate_eval.specs.Derivations.Mentions.{IsBelow, RuleBelow, StepsBelow, is_from}
use Rattle.candidate_eval.specs.Derivations.Naming.{named_clause}
use Rattle.candidate_eval.specs.Dynamic.ObjectRequirements.{first_tree}
use Rattle.candidate_eval.specs.Dynamic.Objects.{is_about}
use Rattle.candidate_eval.specs.Judges.States.{Env}
use Rattle.candidate_eval.proofs.Derivations.Naming.{named-row-below}
use Rattle.candidate_eval.proofs.Dynamic.Objects.{env-kept}
use Rattle.candidate_eval.proofs.Marks.Holds.{holds_parts}
use Rattle.candidate_eval.proofs.Marks.Marking.{after-unmarked, but-last-unmarked, last-unmarked}
use Rattle.candidate_assembly.specs.Goals.KindLaws.{KindLaws}
use Rattle.candidate_assembly.specs.Goals.Kinds.{BuiltinRule, GoalBelow, IsGoal, SaysTheSame, passes}
use Rattle.candidate_assembly.specs.Goals.Projections.{match_projection}
use Rattle.candidate_assembly.specs.Laws.BuiltinLaws.{nodes_fit}
use Rattle.candidate_assembly.specs.Laws.SuperLaws.{arguments_fit}
use Rattle.candidate_assembly.specs.Rules.ObjectBounds.{HasArguments}
use Rattle.projection_goals.specs.declared.kind.NormalizesTo.{NormalizesTo}
use Rattle.projection_goals.specs.Rows.{as-many-resolved, escaping-parts, first-escapes, first-held, first-resolved, held-parts, parts-join, with-first-closed, with-first-held}
use Rattle.projection_goals.specs.ImplLaws.{impls-below, impls-stay}
use Rattle.projection_goals.specs.LanguageLaws.{language-below, language-stays}
use Rattle.projection_goals.specs.LanguageTypes.{language_rule}
use Rattle.projection_goals.specs.Normalizing.{NormalizesGoal, alias_arguments, as_projection, goal_of_trait, normalizes_bounds, normalizes_goal, normalizes_rules, reference_of_goal, same_kind, same_kinds, take_alike, takes_as_trait, term_types, trait_named, trait_of_item}

-- What an associated type takes.

both-true : (a b : Bool) → (a && b) ≡ true → (a ≡ true) × (b ≡ true)
both-true true b e = (refl, e)
both-true false b e = absurd cc

kind-is : (k j : Kind) → same_kind k j ≡ true → k ≡ j
kind-is TypeKind TypeKind e = refl
kind-is ConstantKind ConstantKind e = refl
kind-is RegionKind RegionKind e = refl
kind-is _ _ e = absurd cc

kinds-are : (ks js : List Kind) → same_kinds ks js ≡ true → ks ≡ js
kinds-are [] [] e = refl
kinds-are [] (j ∷ js) e = absurd cc
kinds-are (k ∷ ks) [] e = absurd cc
kinds-are (k ∷ ks) (j ∷ js) e =
    let p = both-true (same_kind k j) (same_kinds ks js) e in
    ap (λ x. x ∷ ks) (kind-is k j p.0) ∙ ap (λ xs. j ∷ xs) (kinds-are ks js p.1)

pub alike-takes : (a b : Option (List Kind)) → take_alike a b ≡ true → a ≡ b
alike-takes None b e = absurd cc
alike-takes (Some ks) None e = absurd cc
alike-takes (Some ks) (Some js) e = ap Some (kinds-are ks js e)

-- no trait has a number that no definition has
no-parameters : (c : Context) → parameters (world c) TraitSort (length c.declarations) ≡ None
no-parameters c =
    ap (parameters_of TraitSort) (slice_get-map definition_of c.declarations (length c.declarations))
    ∙ ap (λ o. parameters_of TraitSort (option_map definition_of o)) (slice_get_past c.declarations (length c.declarations) (le_refl (length c.declarations)))

pub takes-alike : (c : Context) (item : ℕ) (ks : List Kind) → joined (Some (TypeKind ∷ [])) (parameters (world c) TraitSort (trait_of_item c item)) ≡ Some ks → takes_as_trait c item ≡ true
takes-alike c item ks e = of (takes_as_trait c item) e
  where
    of : (b : Bool) → joined (Some (TypeKind ∷ [])) (parameters (world c) TraitSort (if b then trait_named c item else length c.declarations)) ≡ Some ks → b ≡ true
    of true e = refl
    of false e = let no : None ≡ Some ks = sym (ap (joined (Some (TypeKind ∷ []))) (no-parameters c)) ∙ e in absurd cc

-- the reference then is to the trait, whose parameters are those of the associated type
pub reference-is : (c : Context) (g : NormalizesGoal) → takes_as_trait c g.item ≡ true → reference_of_goal c g ≡ record { trait = trait_named c g.item; arguments = g.arguments }
reference-is c g e = ap (λ (b : Bool). record { trait = if b then trait_named c g.item else length c.declarations; arguments = g.arguments }) e

-- A clause that passes: what stands under its binder, but for the term, is what the trait takes.

but-last-kinds : (ks : List Kind) (k : Kind) (ts : Forest) → ks ++ k ∷ [] ≡ kinds_of ts → ks ≡ kinds_of (all_but_last ts)
but-last-kinds [] k none e = absurd cc
but-last-kinds [] k (tree h below none) e = refl
but-last-kinds [] k (tree h below (tree g inner rest)) e = absurd cc
but-last-kinds (j ∷ ks) k none e = absurd cc
but-last-kinds (j ∷ []) k (tree h below none) e = absurd cc
but-last-kinds (j ∷ (i ∷ ks)) k (tree h below none) e = absurd cc
but-last-kinds (j ∷ ks) k (tree h below (tree g inner rest)) e =
    let first : j ≡ kind_of h = cc in
    let others : ks ++ k ∷ [] ≡ kinds_of (tree g inner rest) = cc in
    ap (λ x. x ∷ ks) first ∙ ap (λ xs. kind_of h ∷ xs) (but-last-kinds ks k (tree g inner rest) others)

after_binder : (o : Option (List Kind)) (below : Forest) → joined (Some (BinderKind ∷ [])) (joined (joined (Some (TypeKind ∷ [])) o) (Some (TypeKind ∷ []))) ≡ Some (kinds_of below)
    → joined (Some (TypeKind ∷ [])) o ≡ Some (kinds_of (all_but_last (after_first below)))
after_binder None below e = absurd cc
after_binder (Some ks) none e = absurd cc
after_binder (Some ks) (tree h under rest) e =
    let same : (TypeKind ∷ ks) ++ TypeKind ∷ [] ≡ kinds_of rest = cc in
    ap Some (but-last-kinds (TypeKind ∷ ks) TypeKind rest same)

equal-is : (n m : ℕ) → (n == m) ≡ true → n ≡ m
equal-is n m e = eqb-true n m e

fitting_arguments : (c : Context) (g : NormalizesGoal) (h : Head) (below : Forest) → takes_as_trait c g.item ≡ true
    → (let t : Tree = record { head = h; children = below } in FitsAmong (world c) t) → is_about g.item h ≡ true → (let t : Tree = record { head = h; children = below } in HasArguments c t)
fitting_arguments c g (H.Part (P.Clause (Cl.Projection i))) below alike f e =
    let is = equal-is i.0 g.item e in
    let takes : parameters (world c) AssociatedTypeSort g.item ≡ parameters (world c) TraitSort (trait_named c g.item) = alike-takes _ _ alike in
    ap (λ n. joined (Some (TypeKind ∷ [])) (parameters (world c) TraitSort (trait_named c n))) is
    ∙ (ap (joined (Some (TypeKind ∷ []))) (sym takes)
    ∙ (ap (λ n. joined (Some (TypeKind ∷ [])) (parameters (world c) AssociatedTypeSort n)) (sym is)
    ∙ after_binder (parameters (world c) AssociatedTypeSort i.0) below f.0))
fitting_arguments c g _ below alike f e = absurd cc

passing_arguments : (c : Context) → IsWellFormed c → (g : NormalizesGoal) (x : Clause) → takes_as_trait c g.item ≡ true → passes normalizes_rules c g (clause_tree c.trees x) ≡ true
    → HasArguments c (clause_tree c.trees x)
passing_arguments c w g x alike e =
    let t = clause_tree c.trees x in
    fitting_arguments c g t.head t.children alike (fit-at (world c) c.trees w x.0) (both-true (is_about g.item t.head) _ e).0

-- What rules mention.

-- by a clause: its arguments, and its term
match-below : (n : ℕ) (g : NormalizesGoal) (t : Tree) → IsBelow n (join g.arguments g.term) → IsBelow n (alone t) → StepsBelow n (match_projection (as_projection g) t)
match-below n g t b e =
    let own = held-parts (is_from n) g.arguments g.term b in
    let under = after-unmarked (is_from n) t.children (holds_parts (is_from n) t.head t.children none e).under in
    let named = named-row-below n 0 (bound_kinds t.children) (after_first t.children) under in (
      (own.0, but-last-unmarked (is_from n) (after_first t.children) under),
      (
        tt,
        (
          (own.0, but-last-unmarked (is_from n) (after_first (named_clause 0 t).children) named),
          ((first-held (is_from n) g.term refl own.1, last-unmarked (is_from n) (after_first (named_clause 0 t).children) refl named), tt),
        ),
      ),
    )

-- by the language
builtins-below : (c : Context) → IsWellFormedTable c → IsWellFormed c → (n : ℕ) (r : BuiltinRule) (env : ParamEnv) (p : NormalizesTo) → IsGoal normalizes_rules alias_arguments term_types normalizes_goal c env p
    → GoalBelow normalizes_rules n (normalizes_goal c.trees env p) → RuleBelow n (normalizes_rules.builtin_rule r c (normalizes_goal c.trees env p))
builtins-below c t w n r env p h b =
    let g = normalizes_goal c.trees env p in
    let own = held-parts (is_from n) g.arguments g.term b.trees in
    let of : TraitRef = record { def_id = record { 0 = trait_of_item c p.alias.id.0 }; args = p.alias.args } in
    language-below n (goal_of_trait c g) g.term b.env own.1 r c t (is-reference c of w h.arguments h.fit) own.0

-- A goal says the same where a context has grown.

pub term-is : (c : Context) (env : ParamEnv) (p : NormalizesTo) → IsGoal normalizes_rules alias_arguments term_types normalizes_goal c env p → IsTy c.trees p.term
term-is c env p h = let k = h.types in cc

abbrev goal_with : NormalizesTo → Env → Forest → Tree → NormalizesGoal
goal_with p e a t = record { env = e; item = p.alias.id.0; arguments = a; term = alone t }

pub reference-stays : (old new : Context) (g : NormalizesGoal) → Grows old new → reference_of_goal new g ≡ reference_of_goal old g
reference-stays old new g grows = ap (λ (c : Context). reference_of_goal c g) grows.same

builtins-stay : (old new : Context) → IsWellFormedTable old → Grows old new → (g : NormalizesGoal) (r : BuiltinRule) → normalizes_rules.builtin_rule r new g ≡ normalizes_rules.builtin_rule r old g
builtins-stay old new t grows g r =
    ap (λ (q : Reference). language_rule r new (record { env = g.env; reference = q; polarity = Positive }) g.term) (reference-stays old new g grows)
    ∙ language-stays old new t grows r (goal_of_trait old g) g.term

pub normalizes_goal_stays : (old new : Context) (env : ParamEnv) (p : NormalizesTo) → Grows old new → IsGoal normalizes_rules alias_arguments term_types normalizes_goal old env p
    → SaysTheSame normalizes_rules normalizes_goal old new env p
normalizes_goal_stays old new env p grows h = record {
  seen = ap (λ z. goal_with p z (args_forest new.trees p.alias.args) (ty_tree new.trees p.term)) (env-kept old new env grows h.env).1
      ∙ (ap (λ z. goal_with p (env_forest old.trees env) z (ty_tree new.trees p.term)) (args-kept old new p.alias.args grows h.arguments).1
      ∙ ap (goal_with p (env_forest old.trees env) (args_forest old.trees p.alias.args)) (ty-kept old new p.term grows (term-is old env p h)).1);
  reference = reference-stays old new (normalizes_goal old.trees env p) grows;
  fits = λ h. refl;
}

pub normalizes_laws : KindLaws normalizes_rules normalizes_bounds alias_arguments term_types normalizes_goal
normalizes_laws = record {
  arguments = λ c t env p h. arguments_fit c t p.alias.args h.arguments;
  fit = record { arguments = λ c t env p h x i e. passing_arguments c (nodes_fit c t) (normalizes_goal c.trees env p) x (takes-alike c p.alias.id.0 _ h.fit) e };
  adds = λ c. record { additional = λ g t. tt; unsizing = λ supers g t. tt };
  below = record {
    matches = λ n g t a e. match-below n g t a e;
    impls = impls-below;
    builtins = λ c t w n r env p h b. builtins-below c t w n r env p h b;
    additional = λ c t n g alias b e. All-nil (RuleBelow n);
  };
  stay = record {
    reference = λ old new t grows g. reference-stays old new g grows;
    fits = λ old new t grows g h. refl;
    impls = impls-stay;
    builtins = λ old new t grows g fits r. builtins-stay old new t grows g r;
    additional = λ old new t grows g alias. refl;
    unsizing = λ old new t grows supers g target. refl;
  };
  change = record {
    same_env = λ g t. refl;
    self_type_is = λ c g t. refl;
    self_type_alone = λ c g t. refl;
    reference_holds = λ mark c g h. (held-parts mark g.arguments g.term h).0;
    self_type_holds = λ mark c g x h. first-held mark g.arguments x (held-parts mark g.arguments g.term h).0;
    self_type_escapes = λ n c g h. first-escapes n g.arguments (escaping-parts n g.arguments g.term h).0;
    holds_no_more = λ mark g t h k. with-first-held mark t g.arguments g.term h k;
    escapes_no_more = λ n g t h k. with-first-closed n t g.arguments g.term h k;
    put_env = λ g e ts. refl;
    put_trees = λ g e ts. parts-join g.arguments ts;
    put_reference = λ S c g e. ap (λ (a : Forest). record { trait = trait_of_item c g.item; arguments = a }) (as-many-resolved S g.arguments g.term);
    put_self_type = λ S c g e. ap first_tree (as-many-resolved S g.arguments g.term) ∙ first-resolved S g.arguments;
  };
}
