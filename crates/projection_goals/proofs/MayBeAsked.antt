-- What is found to fit and to be closed is a goal of the context.
use Rattle.std.proofs.Common.{◌≡◌, ◌∙◌, ℕ, Bool, true, false, refl, sym, ap, subst, Option, Some, None, List, [], ◌∷◌}
use Rattle.std.specs.Prelude.{◌==◌, if◌then◌else◌, map, slice_get}
use Rattle.std.specs.Option.{option_map}
use Rattle.std.proofs.lemmas.Option.{slice_get-map}
use Rattle.ir_trees.specs.declared.ir.kinds.AliasKind.{AliasKind}
use Rattle.ir_trees.specs.declared.ir.kinds.ParamEnv.{ParamEnv}
use Rattle.ir_trees.specs.declared.ir.kinds.VarKind.{VarKind}
use Rattle.ir_trees.specs.declared.ir.kinds.VarKind.TheVariants as V
use Rattle.ir_trees.specs.Declarations.Context.{Context, definition_of, parameter_kind, world}
use Rattle.ir_trees.specs.Declarations.Declaration.{Declaration}
use Rattle.ir_trees.specs.Declarations.Worlds.{AssociatedTypeSort, DefinitionSort, Reference, TraitSort, alias_kinds, joined, kinds_of, parameters, parameters_of, sort_number}
use Rattle.ir_trees.specs.Syntax.Trees.{Kind, TypeKind}
use Rattle.ir_trees.specs.Syntax.Words.{IsArgs, IsParamEnv, IsTy, args_forest}
use Rattle.candidate_assembly.specs.Goals.KindShown.{IsGoal}
use Rattle.projection_goals.specs.declared.kind.NormalizesTo.{NormalizesTo}
use Rattle.projection_goals.specs.MayBeAsked.{Fits, IsClosed}
use Rattle.projection_goals.specs.Normalizing.{normalizes_goal, normalizes_kind, same_kinds, take_alike, takes_as_trait, trait_named}
use Rattle.projection_goals.specs.NormalizingLaws.{reference-is}

-- Kinds of parameters are the same as themselves.

kinds-same : (ks : List VarKind) → same_kinds (map parameter_kind ks) (map parameter_kind ks) ≡ true
kinds-same [] = refl
kinds-same (V.Ty ∷ ks) = kinds-same ks
kinds-same (V.Const ∷ ks) = kinds-same ks
kinds-same (V.Region ∷ ks) = kinds-same ks

sorted : (b : Bool) (d : Declaration) (xs : List Kind) → (if b then Some (map parameter_kind d.parameters) else None) ≡ Some xs → same_kinds xs xs ≡ true
sorted true d xs e =
    let same : map parameter_kind d.parameters ≡ xs = cc in
    subst (λ ys. same_kinds ys ys ≡ true) same (kinds-same d.parameters)
sorted false d xs e = absurd cc

declared-same : (o : Option Declaration) (s : DefinitionSort) (xs : List Kind) → parameters_of s (option_map definition_of o) ≡ Some xs → same_kinds xs xs ≡ true
declared-same None s xs e = absurd cc
declared-same (Some d) s xs e = sorted (sort_number (definition_of d).sort == sort_number s) d xs e

parameters-same : (c : Context) (s : DefinitionSort) (n : ℕ) (xs : List Kind) → parameters (world c) s n ≡ Some xs → same_kinds xs xs ≡ true
parameters-same c s n xs e = declared-same (slice_get c.declarations n) s xs (sym (ap (parameters_of s) (slice_get-map definition_of c.declarations n)) ∙ e)

-- Two that give the same arguments their kinds are alike.
alike-of : (a b : Option (List Kind)) (ks : List Kind) → ((xs : List Kind) → a ≡ Some xs → same_kinds xs xs ≡ true) → joined (Some (TypeKind ∷ [])) a ≡ Some ks → joined (Some (TypeKind ∷ [])) b ≡ Some ks → take_alike a b ≡ true
alike-of None b ks own e f = absurd cc
alike-of (Some xs) None ks own e f = absurd cc
alike-of (Some xs) (Some ys) ks own e f =
    let same : xs ≡ ys = cc in
    subst (λ zs. same_kinds xs zs ≡ true) same (own xs refl)

pub goal-of-parts : (c : Context) (env : ParamEnv) (p : NormalizesTo) → IsParamEnv c.trees env → IsArgs c.trees p.alias.args → IsTy c.trees p.term → Fits c p → IsClosed c p → IsGoal normalizes_kind c env p
goal-of-parts c env p e a t f s =
    let ks = kinds_of (args_forest c.trees p.alias.args) in
    let item = p.alias.id.0 in
    let own : joined (Some (TypeKind ∷ [])) (parameters (world c) AssociatedTypeSort item) ≡ Some ks = subst (λ (k : AliasKind). alias_kinds (world c) k item ≡ Some ks) f.projection f.alias_fits in
    let theirs : joined (Some (TypeKind ∷ [])) (parameters (world c) TraitSort (trait_named c item)) ≡ Some ks =
    ap (λ n. joined (Some (TypeKind ∷ [])) (parameters (world c) TraitSort n)) (sym f.named) ∙ f.reference_fits in
    let alike : takes_as_trait c item ≡ true = alike-of (parameters (world c) AssociatedTypeSort item) (parameters (world c) TraitSort (trait_named c item)) ks (parameters-same c AssociatedTypeSort item) own theirs in
    record {
      env = e;
      arguments = a;
      types = ap (λ z. z ∷ []) t;
      fit = ap (λ (r : Reference). joined (Some (TypeKind ∷ [])) (parameters (world c) TraitSort r.trait)) (reference-is c (normalizes_goal c.trees env p) alike) ∙ theirs;
      no_parameter = s.no_parameter;
      is_closed = s.closed;
    }
