-- The chain of aliases that a goal's self type begins, from one alias to the next.
use Rattle.std.proofs.Common.{◌≡◌, ◌<◌, ◌≤◌, ℕ, zero, suc, true, false, ◌==◌, Option, Some, None, List, [], ◌∷◌, ◌++◌, length, map, refl, sym, ap, subst, ◌∙◌, arith, slice_get, get_or, if◌then◌else◌, option_map, inl, inr, ◌⊎◌, All}
use Rattle.std.specs.Prelude.{IfErr, IfSome, Result, Ok, Err}
use Rattle.std.proofs.lemmas.List.{append-nil, map-append}
use Rattle.std.proofs.lemmas.List.Elements.{All-cons}
use Rattle.std.proofs.lemmas.Option.{slice_get-map, slice_get_cases, slice_get_within}
use Rattle.ir_trees.specs.declared.decl.contents.AliasBoundKind.{AliasBoundKind}
use Rattle.ir_trees.specs.declared.decl.contents.AliasBoundKind.TheVariants.{SelfBounds, NonSelfBounds}
use Rattle.ir_trees.specs.declared.decl.definition.AssocKind.TheVariants as A
use Rattle.ir_trees.specs.declared.decl.definition.DefinitionKind.{DefinitionKind}
use Rattle.ir_trees.specs.declared.decl.definition.DefinitionKind.TheVariants as D
use Rattle.ir_trees.specs.declared.ir.heads.Head.TheVariants as H
use Rattle.ir_trees.specs.declared.ir.kinds.AliasId.{AliasId}
use Rattle.ir_trees.specs.declared.ir.kinds.AliasKind.{AliasKind}
use Rattle.ir_trees.specs.declared.ir.kinds.AliasKind.TheVariants as AK
use Rattle.ir_trees.specs.declared.ir.kinds.AliasTy.{AliasTy}
use Rattle.ir_trees.specs.declared.ir.kinds.GenericArg.{GenericArg}
use Rattle.ir_trees.specs.declared.ir.kinds.GenericArg.TheVariants as G
use Rattle.ir_trees.specs.declared.ir.kinds.TyKind.TheVariants as TK
use Rattle.ir_trees.specs.declared.decl.definition.DefinitionSort.{DefinitionSort}
use Rattle.ir_trees.specs.declared.ir.heads.Head.{Head}
use Rattle.ir_trees.specs.declared.ir.kinds.Clause.{Clause}
use Rattle.ir_trees.specs.declared.ir.kinds.Args.{Args}
use Rattle.ir_trees.specs.declared.ir.kinds.ParamEnv.{ParamEnv}
use Rattle.ir_trees.specs.declared.ir.kinds.Ty.{Ty}
use Rattle.ir_trees.specs.declared.ir.stop.Stop.{Stop}
use Rattle.ir_trees.specs.Declarations.Context.{Context, Grows, definition_of, parameter_kind, sort_of, world}
use Rattle.ir_trees.specs.Declarations.Contents.{Bounds}
use Rattle.ir_trees.specs.Declarations.Declaration.{Declaration}
use Rattle.ir_trees.specs.Declarations.Declaring.{bounds_at, bounds_place, place_of}
use Rattle.ir_trees.specs.Instantiation.Folding.{substituted_tree}
use Rattle.ir_trees.specs.Validity.Held.{bounds_held, definition_held, if_there}
use Rattle.ir_trees.specs.Declarations.Lookups.{kind_of_declared, maybe}
use Rattle.ir_trees.specs.Instantiation.Folds.{node}
use Rattle.ir_trees.specs.Syntax.Nodes.{kind_at, tree_at}
use Rattle.ir_trees.specs.Instantiation.Owned.{bounds_among}
use Rattle.ir_trees.specs.Validity.WellFormed.{AreGiven, IsWellFormedTable}
use Rattle.ir_trees.specs.Syntax.Trees.{Kind, ArgumentsKind, ConstantKind, NoKind, RegionKind, TypeKind, Forest, none, tree, Tree, holds, is_param, kind_of}
use Rattle.ir_trees.specs.Unification.Substitutions.{alone}
use Rattle.ir_trees.specs.Syntax.Words.{ClauseListFits, IsArgs, IsClause, IsTy, ListFits, clause_tree, args_forest, kind_tree, list_forest, ty_tree}
use Rattle.ir_trees.specs.Declarations.Worlds.{World, AssociatedTypeSort, OpaqueSort, alias_kinds, joined, kinds_of, parameters, parameters_of, sort_number}
use Rattle.ir_context.proofs.Validity.Given.{definition_given, non_self_bounds_fit, self_bounds_fit}
use Rattle.ir_folds.proofs.Instantiation.Joining.{clause-kept}
use Rattle.ir_trees.proofs.Instantiation.Folding.{or-right}
use Rattle.ir_trees.proofs.Growth.Kept.{args-kept, grows-refl, world-kept}
use Rattle.ir_trees.proofs.Syntax.Rows.{join-none, kind-of, row-list, row-single}
use Rattle.candidate_eval.specs.declared.eval.certainty.Certainty.TheVariants.{Yes}
use Rattle.candidate_eval.specs.declared.eval.source.CandidateSource.TheVariants.{AliasBound}
use Rattle.candidate_eval.specs.Judges.Alike.{JudgesAlike, LooksAlike, info}
use Rattle.candidate_eval.specs.Builtins.Asked.{first_ty}
use Rattle.candidate_eval.specs.Derivations.Judging.{judged}
use Rattle.candidate_eval.specs.declared.eval.response.Candidate.{Candidate as OfNumbers}
use Rattle.candidate_eval.specs.Interface.Accounts.{Account, Question}
use Rattle.candidate_eval.specs.Interface.Evaluators.{IsEvaluatorStop, Keeps, KeepsBut, PutsOffIfOk}
use Rattle.candidate_eval.specs.Interface.Knowing.{is_evaluator_stop}
use Rattle.candidate_eval.specs.Derivations.Mentions.{IsBelow, RuleBelow, is_from}
use Rattle.candidate_eval.specs.Outcomes.ResponseTrees.{AreCandidates, IsResponse, candidate_of, candidates_of}
use Rattle.candidate_eval.specs.Outcomes.Responses.{Candidate}
use Rattle.candidate_eval.proofs.Interface.Accounts.{reaches}
use Rattle.candidate_eval.proofs.Marks.Holds.{holds_parts}
use Rattle.candidate_eval.proofs.Marks.Marking.{unmarked}
use Rattle.candidate_eval.proofs.Interface.Probing.{keeps-but, then as after}
use Rattle.candidate_eval.specs.Dynamic.ObjectRequirements.{first_tree}
use Rattle.candidate_eval.specs.Dynamic.Required.{non_self_bounds, self_bounds}
use Rattle.candidate_eval.specs.Derivations.Rules.{Rule, ask}
use Rattle.candidate_eval.specs.Judges.States.{Env, Judge, State, VariableInfo}
use Rattle.candidate_assembly.specs.Rules.AliasBounds.{ChainEnd, bound_rules, bounds_of_kind, end_answers, has_bounds, is_opaque, is_projection}
use Rattle.candidate_assembly.specs.Rules.AliasFaults.{faults_at}
use Rattle.candidate_assembly.specs.Calls.AliasChains.{Continues, IsBoundedAlias}
use Rattle.candidate_assembly.specs.Calls.AliasChains.GoesTo.{ends, further, nowhere}
use Rattle.candidate_assembly.specs.Goals.KindBounds.{KindBounds}
use Rattle.candidate_assembly.specs.Goals.KindLaws.{KindLaws, RulesStay}
use Rattle.candidate_assembly.specs.Goals.Standing.{IsValidAt, IsValidBeside}
use Rattle.candidate_assembly.specs.Goals.Kinds.{GoalBelow, KindRules}
use Rattle.candidate_assembly.specs.Answers.Listing.{ConsidersAll, ConsidersAllBut, Listed, Lists, Stops, ToldList, after_these, answers, listed, together}
use Rattle.candidate_assembly.proofs.Rules.PureFolder.{rule-moved}
use Rattle.candidate_assembly.proofs.Aliases.BoundRules.{bound_rule}
use Rattle.candidate_assembly.proofs.Calls.Causes.{asked-here, later, memory-here}
use Rattle.candidate_assembly.proofs.Aliases.Chains.{together-joined}
use Rattle.candidate_assembly.proofs.Calls.Considering.{not-both}
use Rattle.candidate_assembly.proofs.Lists.Listing.{answers-joined, candidates-kept, judged-alike, whole_list}
use Rattle.candidate_assembly.proofs.Goals.Standing.{stands-alike, stands-below}
use Rattle.candidate_assembly.proofs.Calls.Stepping.{evaluator-own, memory-own}
use Rattle.ir_trees.specs.declared.ir.stop.Stop.TheVariants.{Memory}

-- Aliases.

-- the tree of an alias
pub alias-tree : (ts : List Tree) (a : AliasTy) → IsArgs ts a.args → kind_tree ts (TK.Alias a) ≡ node (H.Alias a.kind a.id) (args_forest ts a.args)
alias-tree ts a k = ap (node (H.Alias a.kind a.id)) (row-list ts a.args.0 ArgumentsKind none refl refl k ∙ join-none (args_forest ts a.args))

-- It stays where a context grows.
pub alias-kept : (old new : Context) (a : AliasTy) → Grows old new → IsBoundedAlias old a → IsBoundedAlias new a × (kind_tree new.trees (TK.Alias a) ≡ kind_tree old.trees (TK.Alias a))
alias-kept old new a grows b =
    let k = args-kept old new a.args grows b.args in (
      record {
        args = k.0;
        fit = ap (λ (w : World). alias_kinds w a.kind a.id.0) (world-kept old new grows).0 ∙ (b.fit ∙ ap (λ (ts : Forest). Some (kinds_of ts)) (sym k.1));
        has = b.has;
      },
      alias-tree new.trees a k.0 ∙ (ap (node (H.Alias a.kind a.id)) k.1 ∙ sym (alias-tree old.trees a b.args)),
    )

-- A projection's first argument is a type.

abbrev first-kind : List Kind → Kind
first-kind [] = NoKind
first-kind (k ∷ ks) = k

first-of : (ps : Option (List Kind)) (ks : List Kind) → joined (Some (TypeKind ∷ [])) ps ≡ Some ks → first-kind ks ≡ TypeKind
first-of None ks e = absurd cc
first-of (Some ps) ks e = let same : TypeKind ∷ ps ≡ ks = cc in ap first-kind (sym same)

projection-kinds : (w : World) (k : AliasKind) (i : AliasId) (ks : List Kind) → is_projection (H.Alias k i) ≡ true → alias_kinds w k i.0 ≡ Some ks → first-kind ks ≡ TypeKind
projection-kinds w AK.Projection i ks p e = first-of (parameters w AssociatedTypeSort i.0) ks e
projection-kinds w AK.Opaque i ks p e = absurd cc
projection-kinds w AK.Inherent i ks p e = absurd cc
projection-kinds w AK.Free i ks p e = absurd cc

pub projection-first : (c : Context) (a : AliasTy) (xs : List GenericArg) → IsBoundedAlias c a → is_projection (H.Alias a.kind a.id) ≡ true → ListFits c.trees xs → list_forest c.trees xs ≡ args_forest c.trees a.args → first_ty xs ≡ None → ⊥
projection-first c a xs b p l s n = at xs l n (ap (λ (ts : Forest). first-kind (kinds_of ts)) s ∙ projection-kinds (world c) a.kind a.id (kinds_of (args_forest c.trees a.args)) p b.fit)
  where
    other : (m : ℕ) (k : Kind) (rest ts : Forest) → ts ≡ tree (tree_at c.trees m).head (tree_at c.trees m).children rest → kind_of (tree_at c.trees m).head ≡ k → first-kind (kinds_of ts) ≡ TypeKind → k ≡ TypeKind
    other m k rest ts e q h = sym q ∙ (sym (ap (λ (us : Forest). first-kind (kinds_of us)) e) ∙ h)

    at : (ys : List GenericArg) → ListFits c.trees ys → first_ty ys ≡ None → first-kind (kinds_of (list_forest c.trees ys)) ≡ TypeKind → ⊥
    at [] l n h = absurd cc
    at (G.Ty t ∷ ys) l n h = absurd cc
    at (G.Const t ∷ ys) l n h =
        let i : kind_at c.trees t.0 ≡ ConstantKind = cc in
        let z = other t.0 ConstantKind (list_forest c.trees ys) (list_forest c.trees (G.Const t ∷ ys)) (row-single c.trees t.0 ConstantKind (list_forest c.trees ys) refl refl i) (kind-of c.trees t.0 ConstantKind refl i) h in
        absurd cc
    at (G.Region t ∷ ys) l n h =
        let i : kind_at c.trees t.0 ≡ RegionKind = cc in
        let z = other t.0 RegionKind (list_forest c.trees ys) (list_forest c.trees (G.Region t ∷ ys)) (row-single c.trees t.0 RegionKind (list_forest c.trees ys) refl refl i) (kind-of c.trees t.0 RegionKind refl i) h in
        absurd cc

pub has-one-of : (k : AliasKind) (i : AliasId) → (k ≡ AK.Projection) ⊎ (k ≡ AK.Opaque) → has_bounds (H.Alias k i) ≡ true
has-one-of k i (inl e) = ap (λ (x : AliasKind). has_bounds (H.Alias x i)) e
has-one-of k i (inr e) = ap (λ (x : AliasKind). has_bounds (H.Alias x i)) e

-- What is declared as bounds of an alias are clauses.

abbrev BoundsFit : List Tree → AliasBoundKind → Option Bounds → Type 0
BoundsFit ts b o = ClauseListFits ts (maybe [] (bounds_among b) o)

given-fit : (c : Context) (o : _) (b : AliasBoundKind) (x : Option Bounds) → AreGiven c (if_there (bounds_held o) x) → BoundsFit c.trees b x
given-fit c o b None g = nothing b
  where
    nothing : (b : AliasBoundKind) → BoundsFit c.trees b None
    nothing SelfBounds = refl
    nothing NonSelfBounds = refl
given-fit c o SelfBounds (Some x) g = self_bounds_fit c o x g
given-fit c o NonSelfBounds (Some x) g = non_self_bounds_fit c o x g

abbrev parameters-if : ℕ → DefinitionKind → List Kind → Option (List Kind)
parameters-if s k ps = if sort_number (sort_of k) == s then Some ps else None

item-bounds : (c : Context) (b : AliasBoundKind) (n : ℕ) (k : DefinitionKind) (ps ks : List Kind) → parameters-if 3 k ps ≡ Some ks → AreGiven c (definition_held c.contents n k) → BoundsFit c.trees b (slice_get c.contents.bounds (bounds_place k))
item-bounds c b n (D.Assoc i A.Type sized p) ps ks e g = given-fit c _ b (slice_get c.contents.bounds p) g
item-bounds c b n (D.Assoc i A.Const sized p) ps ks e g = absurd cc
item-bounds c b n (D.Adt _ _ _) ps ks e g = absurd cc
item-bounds c b n (D.Trait _ _) ps ks e g = absurd cc
item-bounds c b n D.Foreign ps ks e g = absurd cc
item-bounds c b n (D.Alias _) ps ks e g = absurd cc
item-bounds c b n (D.Opaque _ _) ps ks e g = absurd cc
item-bounds c b n (D.Function _ _) ps ks e g = absurd cc
item-bounds c b n (D.Closure _) ps ks e g = absurd cc

opaque-bounds : (c : Context) (b : AliasBoundKind) (n : ℕ) (k : DefinitionKind) (ps ks : List Kind) → parameters-if 6 k ps ≡ Some ks → AreGiven c (definition_held c.contents n k) → BoundsFit c.trees b (slice_get c.contents.bounds (bounds_place k))
opaque-bounds c b n (D.Opaque hidden p) ps ks e g = given-fit c _ b (slice_get c.contents.bounds p) (or-right _ _ g)
opaque-bounds c b n (D.Assoc i A.Type sized p) ps ks e g = absurd cc
opaque-bounds c b n (D.Assoc i A.Const sized p) ps ks e g = absurd cc
opaque-bounds c b n (D.Adt _ _ _) ps ks e g = absurd cc
opaque-bounds c b n (D.Trait _ _) ps ks e g = absurd cc
opaque-bounds c b n D.Foreign ps ks e g = absurd cc
opaque-bounds c b n (D.Alias _) ps ks e g = absurd cc
opaque-bounds c b n (D.Function _ _) ps ks e g = absurd cc
opaque-bounds c b n (D.Closure _) ps ks e g = absurd cc

held : (c : Context) (n : ℕ) (d : Declaration) → IsWellFormedTable c → slice_get c.declarations n ≡ Some d → AreGiven c (definition_held c.contents n d.kind)
held c n d t q = subst (λ (o : Option Declaration). IfSome (kind_of_declared o) (λ k. AreGiven c (definition_held c.contents n k))) q (definition_given c t n)

-- of a definition of that sort, where those of its kind are
sort-bounds : (c : Context) (b : AliasBoundKind) (n : ℕ) (s : DefinitionSort) (ks : List Kind) → IsWellFormedTable c → parameters (world c) s n ≡ Some ks
    → ((k : DefinitionKind) (ps ks : List Kind) → parameters-if (sort_number s) k ps ≡ Some ks → AreGiven c (definition_held c.contents n k) → BoundsFit c.trees b (slice_get c.contents.bounds (bounds_place k)))
    → BoundsFit c.trees b (bounds_at c n)
sort-bounds c b n s ks t p kinds = of (slice_get c.declarations n) refl
  where
    there : parameters_of s (option_map definition_of (slice_get c.declarations n)) ≡ Some ks
    there = sym (ap (parameters_of s) (slice_get-map definition_of c.declarations n)) ∙ p

    of : (o : Option Declaration) → slice_get c.declarations n ≡ o → BoundsFit c.trees b (bounds_at c n)
    of None q = let no : None ≡ Some ks = sym (ap (λ (o : Option Declaration). parameters_of s (option_map definition_of o)) q) ∙ there in absurd cc
    of (Some d) q =
        subst (λ (o : Option Declaration). BoundsFit c.trees b (slice_get c.contents.bounds (place_of bounds_place o))) (sym q)
        (kinds d.kind (map parameter_kind d.parameters) ks (sym (ap (λ (o : Option Declaration). parameters_of s (option_map definition_of o)) q) ∙ there) (held c n d t q))

joined-there : (o : Option (List Kind)) (ks : List Kind) → joined (Some (TypeKind ∷ [])) o ≡ Some ks → (js : List Kind) × (o ≡ Some js)
joined-there None ks e = absurd cc
joined-there (Some js) ks e = (js, refl)

kind-bounds : (c : Context) (b : AliasBoundKind) (k : AliasKind) (i : AliasId) (ks : List Kind) → IsWellFormedTable c → has_bounds (H.Alias k i) ≡ true → alias_kinds (world c) k i.0 ≡ Some ks → BoundsFit c.trees b (bounds_at c i.0)
kind-bounds c b AK.Projection i ks t h e = let js = joined-there (parameters (world c) AssociatedTypeSort i.0) ks e in sort-bounds c b i.0 AssociatedTypeSort js.0 t js.1 (item-bounds c b i.0)
kind-bounds c b AK.Opaque i ks t h e = sort-bounds c b i.0 OpaqueSort ks t e (opaque-bounds c b i.0)
kind-bounds c b AK.Inherent i ks t h e = absurd cc
kind-bounds c b AK.Free i ks t h e = absurd cc

by-kind : (c : Context) (b : AliasBoundKind) (n : ℕ) → maybe [] (bounds_among b) (bounds_at c n) ≡ bounds_of_kind c b n
by-kind c SelfBounds n = refl
by-kind c NonSelfBounds n = refl

-- those of an alias of a context that has grown
pub bounds-fit : (c now : Context) (a : AliasTy) (b : AliasBoundKind) → IsWellFormedTable c → Grows c now → IsBoundedAlias now a → ClauseListFits c.trees (bounds_of_kind c b a.id.0)
bounds-fit c now a b t grows h =
    subst (ClauseListFits c.trees) (by-kind c b a.id.0)
    (kind-bounds c b a.kind a.id (kinds_of (args_forest now.trees a.args)) t h.has (ap (λ (w : World). alias_kinds w a.kind a.id.0) (sym (world-kept c now grows).0) ∙ h.fit))

-- Its rules stay.

abbrev put-into : List Tree → Forest → Clause → Tree
put-into ts args x = substituted_tree args (clause_tree ts x)

moved-rules : {G : Type 0} (K : KindRules G) (c now : Context) (g d : G) (b : AliasBoundKind) (args : Forest) (xs : List Clause) → Grows c now → d ≡ g → ((h : Head) → K.fits now g h ≡ K.fits c g h) → ClauseListFits c.trees xs
    → map (bound_rule K now d b) (map (put-into now.trees args) xs) ≡ map (bound_rule K c g b) (map (put-into c.trees args) xs)
moved-rules K c now g d b args [] grows same fits f = refl
moved-rules K c now g d b args (x ∷ xs) grows same fits f =
    let here : IsClause c.trees x = cc in
    let rest : ClauseListFits c.trees xs = cc in
    let tree-same : put-into now.trees args x ≡ put-into c.trees args x = ap (substituted_tree args) (clause-kept c now x grows here).1 in
    ap (λ r. r ∷ map (bound_rule K now d b) (map (put-into now.trees args) xs)) (rule-moved K c now g d (put-into c.trees args x) (put-into now.trees args x) [] (ask (AliasBound b) Yes) (ask (AliasBound b) Yes) same tree-same fits refl)
    ∙ ap (λ rs. bound_rule K c g b (put-into c.trees args x) ∷ rs) (moved-rules K c now g d b args xs grows same fits rest)

pub same-bounds : (c now : Context) (b : AliasBoundKind) (n : ℕ) → Grows c now → bounds_of_kind now b n ≡ bounds_of_kind c b n
same-bounds c now SelfBounds n grows = ap (λ (x : Context). self_bounds x n) grows.same
same-bounds c now NonSelfBounds n grows = ap (λ (x : Context). non_self_bounds x n) grows.same

-- the rules of a link, by the alias's numbers
abbrev link-by : {G : Type 0} → KindRules G → KindBounds G → Context → G → AliasBoundKind → Tree → List Rule
link-by K B c g b t = bound_rules K c g b t ++ B.additional c g t

pub link-kept : {G : Type 0} (K : KindRules G) (B : KindBounds G) → RulesStay K B → (c now : Context) (g d : G) (b : AliasBoundKind) (a : AliasTy) → IsWellFormedTable c → Grows c now → IsBoundedAlias now a → d ≡ g → ((h : Head) → K.fits now g h ≡ K.fits c g h)
    → link-by K B now d b (kind_tree now.trees (TK.Alias a)) ≡ link-by K B c g b (kind_tree now.trees (TK.Alias a))
link-kept K B stay c now g d b a t grows h same fits =
    let u = kind_tree now.trees (TK.Alias a) in
    let rules : bound_rules K now d b u ≡ bound_rules K c g b u
    = ap (λ xs. map (bound_rule K now d b) (map (put-into now.trees u.children) xs)) (same-bounds c now b a.id.0 grows) ∙ moved-rules K c now g d b u.children (bounds_of_kind c b a.id.0) grows same fits (bounds-fit c now a b t grows h) in
    ap (λ rs. rs ++ B.additional now d u) rules
    ∙ (ap (λ x. bound_rules K c g b u ++ B.additional now x u) same ∙ ap (λ rs. bound_rules K c g b u ++ rs) (stay.additional c now t grows g u))

-- Rules that mention only the state's variables are answered alike at states that are alike.
pub answers-alike : (J : Judge) → JudgesAlike J → (S T : State) (rs : List Rule) → J.alike S T → All (RuleBelow (length S.variables)) rs → answers J T rs ≡ answers J S rs
answers-alike J law S T [] like below = refl
answers-alike J law S T (r ∷ rs) like below =
    ap (λ j. together (listed j) (answers J T rs)) (judged-alike J law S T r like (below 0 r (omega arith)))
    ∙ ap (together (listed (judged J S r))) (answers-alike J law S T rs like (λ k d l. below (suc k) d (omega (arith, l))))

-- States that are alike have no fewer variables.
pub no-fewer : (S T : State) → LooksAlike S T → length S.variables ≤ length T.variables
no-fewer S T a = at (length S.variables) refl
  where
    at : (n : ℕ) → length S.variables ≡ n → n ≤ length T.variables
    at zero e = omega arith
    at (suc n) e = of (slice_get_cases S.variables n).1
      where
        of : ((x : VariableInfo) × (n < length S.variables) × (info S n ≡ Some x) × (get_or S.variables n x ≡ x)) ⊎ ((length S.variables ≤ n) × (info S n ≡ None)) → suc n ≤ length T.variables
        of (inl x) = let l = slice_get_within T.variables n x.0 (a.kept n x.0 x.2) in omega (arith, l)
        of (inr x) = let l = x.0 in absurd (omega (arith, l, e))

-- What an alias gives that stands beside a goal: neither mentions other variables than the state's, and no parameter stands in its arguments.
pub record AliasParts {G : Type 0} (K : KindRules G) (S : State) (ts : List Tree) (g : G) (a : AliasTy) : Type 0 where
  pub goal : GoalBelow K (length S.variables) g
  pub free : holds is_param (args_forest ts a.args) ≡ false
  pub below : IsBelow (length S.variables) (args_forest ts a.args)

pub alias-parts : {G : Type 0} (K : KindRules G) (S : State) (ts : List Tree) (g : G) (a : AliasTy) → IsArgs ts a.args → IsValidBeside K S g (kind_tree ts (TK.Alias a)) → AliasParts K S ts g a
alias-parts K S ts g a k s =
    let h = H.Alias a.kind a.id in
    let args = args_forest ts a.args in
    let st : IsValidAt S (K.env_of g) (tree h args (K.trees_of g)) = subst (λ (t : Tree). IsValidBeside K S g t) (alias-tree ts a k) s in
    let b = stands-below S (K.env_of g) (tree h args (K.trees_of g)) st in
    let p = holds_parts (is_from (length S.variables)) h args (K.trees_of g) b.1 in
    record {
      goal = record { env = b.0; trees = p.others };
      free = (holds_parts is_param h args (K.trees_of g) st.trees_free).under;
      below = p.under;
    }

-- the same goal and the same tree at a state that is alike
pub beside-alike : {G : Type 0} (K : KindRules G) (J : Judge) → JudgesAlike J → (S T : State) (g d : G) (t u : Tree) → d ≡ g → u ≡ t → J.alike S T → IsValidBeside K S g t → IsValidBeside K T d u
beside-alike K J law S T g d t u same is like s =
    subst (λ x. IsValidBeside K T d x) (sym is) (subst (λ x. IsValidBeside K T x t) (sym same) (stands-alike J law S T (K.env_of g) (tree t.head t.children (K.trees_of g)) like s))

-- What a kind adds at the alias, later and at a state that is alike, is what it adds at first.
pub additional-same : {G P : Type 0} (K : KindRules G) (B : KindBounds G) {arguments : P → Args} {types : P → List Ty} {see : List Tree → ParamEnv → P → G} → KindLaws K B arguments types see → (J L : Judge) → JudgesAlike J → L ≡ J
    → (c now : Context) (S T : State) (g d : G) (t u : Tree) → IsWellFormedTable c → Grows c now → d ≡ g → u ≡ t → J.alike S T → GoalBelow K (length S.variables) g → IsBelow (length S.variables) (alone t)
    → answers L T (B.additional now d u) ≡ answers J S (B.additional c g t)
additional-same K B laws J L law judge c now S T g d t u table grows same is like below there =
    ap (λ x. answers x T (B.additional now d u)) judge
    ∙ (ap (λ x. answers J T (B.additional now x u)) same
    ∙ (ap (λ x. answers J T (B.additional now g x)) is
    ∙ (ap (answers J T) (laws.stay.additional c now table grows g t)
    ∙ answers-alike J law S T (B.additional c g t) like (laws.below.additional c table (length S.variables) g t below there))))

-- Candidates in a row.

pub candidates-joined : (ts : List Tree) (xs ys : List OfNumbers) → AreCandidates ts xs → AreCandidates ts ys → AreCandidates ts (xs ++ ys)
candidates-joined ts [] ys h k = k
candidates-joined ts (x ∷ xs) ys h k =
    All-cons (λ (c : OfNumbers). IsResponse ts c.result) x (xs ++ ys) (h 0 x (omega arith)) (candidates-joined ts xs ys (λ i d l. h (suc i) d (omega (arith, l))) k)

-- along states that are alike, by one judge
pub alike-then : {X : Type 0} (judge : X → Judge) → ((f : X) → JudgesAlike (judge f)) → (f h : X) (S T U : State) → h ≡ f → (judge f).alike S T → (judge h).alike T U → (judge f).alike S U
alike-then judge law f h S T U same a b = (law f).alike_along S T U a (subst (λ x. (judge x).alike T U) same b)

joined-whole : (J : Judge) (S : State) (cs : List Candidate) (bs more : List Rule) (l : Listed) → l ≡ together (Lists cs) (answers J S bs) → together l (answers J S more) ≡ together (Lists cs) (answers J S (bs ++ more))
joined-whole J S cs bs more l is =
    ap (λ x. together x (answers J S more)) is ∙ (together-joined (Lists cs) (answers J S bs) (answers J S more) ∙ ap (together (Lists cs)) (sym (answers-joined J S bs more)))

-- Rules are considered, and then others: what each comes to.
module _ {E X : Type 0} {fixed : E → X} {judge : X → Judge} {state : E → State} {probes : E → List State} {context : E → Context} {stops : Account E} (law : (f : X) → JudgesAlike (judge f)) where
  module _ (first mid : E) (before : List OfNumbers) (bs more : List Rule) where
    -- the first stop
    pub first-stop : {A C : Type 0} {left : A → List OfNumbers} {next : C → List OfNumbers} (z : Stop) → ConsidersAll fixed judge state probes context stops first mid (state first) left (whole_list fixed judge state context first before bs) (Err z)
        → (result : Result C Stop) → result ≡ Err z → ConsidersAll fixed judge state probes context stops first mid (state first) next (whole_list fixed judge state context first before (bs ++ more)) result
    first-stop z c result is = rw is (record {
      kept = c.kept;
      alike = c.alike;
      told = record { ok = tt; fits = tt; stopped = λ own. joined-whole (judge (fixed first)) (state first) (candidates_of (context first).trees before) bs more (Stops z) (c.told.stopped own) };
      cause = c.cause;
    })

    module _ {A : Type 0} (new : E) (xs : List OfNumbers) (x : A) (f : ConsidersAll {A = A} fixed judge state probes context stops first mid (state first) (λ _. xs) (whole_list fixed judge state context first before bs) (Ok x)) (last : Listed)
        (same : last ≡ answers (judge (fixed first)) (state first) more) where
      -- the others stop
      pub second-stop : {C D : Type 0} {left : C → List OfNumbers} {next : D → List OfNumbers} (z : Stop) → ConsidersAll fixed judge state probes context stops mid new (state mid) left (λ l. l ≡ last) (Err z)
          → (result : Result D Stop) → result ≡ Err z → ConsidersAll fixed judge state probes context stops first new (state first) next (whole_list fixed judge state context first before (bs ++ more)) result
      second-stop z c result is = rw is (record {
        kept = after f.kept c.kept;
        alike = alike-then judge law (fixed first) (fixed mid) (state first) (state mid) (state new) f.kept.fixed_same f.alike c.alike;
        told = record {
          ok = tt;
          fits = tt;
          stopped = λ own. ap (together (Lists (candidates_of (context mid).trees xs))) (c.told.stopped own ∙ same) ∙ joined-whole (judge (fixed first)) (state first) (candidates_of (context first).trees before) bs more (Lists (candidates_of (context mid).trees xs)) f.told.ok;
        };
        cause = later (reaches f.kept) c.cause;
      })

      -- the list of the others, and that it isn't added
      pub not-joined : {C D : Type 0} {left : C → List OfNumbers} {next : D → List OfNumbers} (y : C) (z : Stop) → z ≡ Memory → ConsidersAll fixed judge state probes context stops mid new (state mid) left (λ l. l ≡ last) (Ok y)
          → (result : Result D Stop) → result ≡ Err z → ConsidersAll fixed judge state probes context stops first new (state first) next (whole_list fixed judge state context first before (bs ++ more)) result
      not-joined y z m c result is = rw is (record {
        kept = after f.kept c.kept;
        alike = alike-then judge law (fixed first) (fixed mid) (state first) (state mid) (state new) f.kept.fixed_same f.alike c.alike;
        told = record { ok = tt; fits = tt; stopped = λ other. absurd (not-both (is_evaluator_stop z) (memory-own z m) other) };
        cause = memory-here m;
      })

      pub both-listed : {C D : Type 0} (left : C → List OfNumbers) (y : C) (items : List OfNumbers) (d : D) → items ≡ xs ++ left y → ConsidersAll fixed judge state probes context stops mid new (state mid) left (λ l. l ≡ last) (Ok y)
          → ConsidersAll {A = D} fixed judge state probes context stops first new (state first) (λ _. items) (whole_list fixed judge state context first before (bs ++ more)) (Ok d)
      both-listed left y items d is c =
          let k = candidates-kept (context mid) (context new) xs c.kept.grows f.told.fits in
          let ts = (context new).trees in
          let ys = left y in
          rw is (record {
            kept = after f.kept c.kept;
            alike = alike-then judge law (fixed first) (fixed mid) (state first) (state mid) (state new) f.kept.fixed_same f.alike c.alike;
            told = record {
              ok = ap Lists (map-append (candidate_of ts) xs ys)
                  ∙ (ap (λ cs. together (Lists cs) (Lists (candidates_of ts ys))) k.1
                  ∙ (ap (together (Lists (candidates_of (context mid).trees xs))) (c.told.ok ∙ same) ∙ joined-whole (judge (fixed first)) (state first) (candidates_of (context first).trees before) bs more (Lists (candidates_of (context mid).trees xs)) f.told.ok));
              fits = candidates-joined ts xs ys k.0 c.told.fits;
              stopped = tt;
            };
            cause = tt;
          })

-- The same later, at a state that is alike.

pub alias-parts-later : {G : Type 0} (K : KindRules G) (J : Judge) → JudgesAlike J → (old now : Context) (S T : State) (g d : G) (a : AliasTy) → d ≡ g → Grows old now → IsBoundedAlias old a → J.alike S T
    → IsValidBeside K S g (kind_tree old.trees (TK.Alias a)) → AliasParts K T now.trees d a
alias-parts-later K J law old now S T g d a same grows b like s =
    let k = alias-kept old now a grows b in
    alias-parts K T now.trees d a k.0.args (beside-alike K J law S T g d (kind_tree old.trees (TK.Alias a)) (kind_tree now.trees (TK.Alias a)) same k.1 like s)

pub additional-at : {G P : Type 0} (K : KindRules G) (B : KindBounds G) {arguments : P → Args} {types : P → List Ty} {see : List Tree → ParamEnv → P → G} → KindLaws K B arguments types see → (J L : Judge) → JudgesAlike J → L ≡ J
    → (c now : Context) (S T : State) (g d : G) (a : AliasTy) → IsWellFormedTable c → Grows c now → d ≡ g → IsBoundedAlias c a → J.alike S T → IsValidBeside K S g (kind_tree c.trees (TK.Alias a))
    → answers L T (B.additional now d (kind_tree now.trees (TK.Alias a))) ≡ answers J S (B.additional c g (kind_tree c.trees (TK.Alias a)))
additional-at K B laws J L law judge c now S T g d a table grows same b like s =
    let t = kind_tree c.trees (TK.Alias a) in
    let st = stands-below S (K.env_of g) (tree t.head t.children (K.trees_of g)) s in
    let p = holds_parts (is_from (length S.variables)) t.head t.children (K.trees_of g) st.1 in
    additional-same K B laws J L law judge c now S T g d t (kind_tree now.trees (TK.Alias a)) table grows same (alias-kept c now a grows b).1 like (record { env = st.0; trees = p.others })
    (unmarked (is_from (length S.variables)) t.head t.children none p.here p.under refl)

-- Where the chain goes on.

opaque-if : (k : AliasKind) (i : AliasId) → has_bounds (H.Alias k i) ≡ true → (k ≡ AK.Projection → ⊥) → is_opaque (H.Alias k i) ≡ true
opaque-if AK.Projection i h n = absurd (n refl)
opaque-if AK.Opaque i h n = refl
opaque-if AK.Inherent i h n = absurd cc
opaque-if AK.Free i h n = absurd cc

module _ {E X : Type 0} {fixed : E → X} {judge : X → Judge} {state : E → State} {probes : E → List State} {context : E → Context} {stops : Account E} where
  -- It ends at an opaque type, of which nothing was asked.
  pub ends-here : (old : E) (e : Env) (ts : List Tree) (a : AliasTy) → has_bounds (H.Alias a.kind a.id) ≡ true → (a.kind ≡ AK.Projection → ⊥) → Continues fixed judge state probes context stops old old e (kind_tree ts (TK.Alias a)) (Ok None)
  ends-here old e ts a h n = record {
    kept = record { fixed_same = refl; probes_same = refl; grows = grows-refl (context old); faults = refl };
    sort = tt;
    goes = ends (opaque-if a.kind a.id h n);
    own = tt;
    cause = tt;
  }

module _ {E X : Type 0} {fixed : E → X} {judge : X → Judge} {state : E → State} {probes : E → List State} {context : E → Context} {stops : Account E} where
  -- From a projection it goes on at the normal form of its self type,
  pub goes-further : (old new : E) (e : Env) (ts : List Tree) (a : AliasTy) (t : Tree) (x : Ty) → is_projection (H.Alias a.kind a.id) ≡ true → t ≡ first_tree (kind_tree ts (TK.Alias a)).children → Keeps fixed probes context old new → IsTy (context new).trees x
      → (judge (fixed old)).normalized (state old) e t ≡ Some (ty_tree (context new).trees x, state new) → Continues fixed judge state probes context stops old new e (kind_tree ts (TK.Alias a)) (Ok (Some x))
  goes-further old new e ts a t x p is kept sort normal = record {
    kept = kept;
    sort = sort;
    goes = further p (sym (ap ((judge (fixed old)).normalized (state old) e) is) ∙ normal);
    own = tt;
    cause = tt;
  }

  -- or ends, where that is refused;
  pub goes-nowhere : (old new : E) (e : Env) (ts : List Tree) (a : AliasTy) (t : Tree) → is_projection (H.Alias a.kind a.id) ≡ true → t ≡ first_tree (kind_tree ts (TK.Alias a)).children → Keeps fixed probes context old new
      → (judge (fixed old)).normalized (state old) e t ≡ None → Continues fixed judge state probes context stops old new e (kind_tree ts (TK.Alias a)) (Ok None)
  goes-nowhere old new e ts a t p is kept none-is = record {
    kept = kept;
    sort = tt;
    goes = nowhere p (sym (ap ((judge (fixed old)).normalized (state old) e) is) ∙ none-is);
    own = tt;
    cause = tt;
  }

  -- or the evaluator stops.
  pub goes-stopped : (old new : E) (e : Env) (u : Tree) (q : Question) (s : Stop) → ((x : E) (S : State) (q : Question) (s : Stop) → stops x S q s → IsEvaluatorStop s) → Keeps fixed probes context old new → stops new (state old) q s
      → Continues fixed judge state probes context stops old new e u (Err s)
  goes-stopped old new e u q s itself kept why = record { kept = kept; sort = tt; goes = tt; own = evaluator-own s (itself new (state old) q s why); cause = asked-here q kept why }

-- What is told in other words.

pub list-as : {A : Type 0} (items : A → List OfNumbers) (ts : List Tree) {R Q : Listed → Type 0} (r : Result A Stop) → ((l : Listed) → R l → Q l) → ToldList items ts R r → ToldList items ts Q r
list-as items ts (Ok a) weaker t = record { ok = weaker (Lists (candidates_of ts (items a))) t.ok; fits = t.fits; stopped = tt }
list-as items ts (Err s) weaker t = record { ok = tt; fits = tt; stopped = λ own. weaker (Stops s) (t.stopped own) }

module _ {E X : Type 0} {fixed : E → X} {judge : X → Judge} {state : E → State} {probes : E → List State} {context : E → Context} {stops : Account E} where
  pub told-as : {A : Type 0} {P : List (List ℕ) → List (List ℕ) → Type 0} {items : A → List OfNumbers} {R Q : Listed → Type 0} (old new : E) (left : State) (r : Result A Stop) → ((l : Listed) → R l → Q l)
      → ConsidersAllBut P fixed judge state probes context stops old new left items R r → ConsidersAllBut P fixed judge state probes context stops old new left items Q r
  told-as {items = items} old new left r weaker c = record { kept = c.kept; alike = c.alike; told = list-as items (context new).trees r weaker c.told; cause = c.cause }

  -- A fault is put off: nothing is listed.
  pub delayed : {A : Type 0} {P : List (List ℕ) → List (List ℕ) → Type 0} → ((f : X) → JudgesAlike (judge f)) → ((x : E) (S : State) (q : Question) (s : Stop) → stops x S q s → IsEvaluatorStop s) → (old new : E) (q : Question) (before : List OfNumbers) (r : Result A Stop)
      → AreCandidates (context old).trees before → KeepsBut P fixed probes context old new → state new ≡ state old → IfErr r (stops new (state old) q)
      → ConsidersAllBut P fixed judge state probes context stops old new (state old) (λ _. before) (λ l. l ≡ after_these (context old).trees before (Lists [])) r
  delayed law itself old new q before (Ok x) fit kept same cause =
      let k = candidates-kept (context old) (context new) before kept.grows fit in
      record {
        kept = kept;
        alike = subst (λ (S : State). (judge (fixed old)).alike (state old) S) (sym same) ((law (fixed old)).alike_same (state old));
        told = record { ok = ap Lists (k.1 ∙ sym (append-nil (candidates_of (context old).trees before))); fits = k.0; stopped = tt };
        cause = tt;
      }
  delayed law itself old new q before (Err s) fit kept same cause = record {
    kept = kept;
    alike = subst (λ (S : State). (judge (fixed old)).alike (state old) S) (sym same) ((law (fixed old)).alike_same (state old));
    told = record { ok = tt; fits = tt; stopped = λ other. absurd (not-both (is_evaluator_stop s) (evaluator-own s (itself new (state old) q s cause)) other) };
    cause = asked-here q kept cause;
  }

  -- A list that puts off no fault is one that puts off what is said, if that holds of none.
  pub list-but : {A : Type 0} {P : List (List ℕ) → List (List ℕ) → Type 0} {items : A → List OfNumbers} {R : Listed → Type 0} (old new : E) (left : State) (r : Result A Stop) → ((xs ys : List (List ℕ)) → ys ≡ xs → P xs ys)
      → ConsidersAll fixed judge state probes context stops old new left items R r → ConsidersAllBut P fixed judge state probes context stops old new left items R r
  list-but old new left r holds c = record { kept = keeps-but fixed probes context old new holds c.kept; alike = c.alike; told = c.told; cause = c.cause }

  -- what a chain's end gives, where it ends so
  pub ended-as : {A G : Type 0} (K : KindRules G) (old new : E) (items before : List OfNumbers) (g : G) (r : Result A Stop) {x end : ChainEnd} → x ≡ end
      → ConsidersAllBut (PutsOffIfOk (faults_at end) r) fixed judge state probes context stops old new (state old) (λ _. items) (λ l. l ≡ after_these (context old).trees before (end_answers K (judge (fixed old)) g end)) r
      → ConsidersAllBut (PutsOffIfOk (faults_at x) r) fixed judge state probes context stops old new (state old) (λ _. items) (λ l. l ≡ after_these (context old).trees before (end_answers K (judge (fixed old)) g x)) r
  ended-as K old new items before g r is c =
      subst (λ (y : ChainEnd). ConsidersAllBut (PutsOffIfOk (faults_at y) r) fixed judge state probes context stops old new (state old) (λ _. items) (λ l. l ≡ after_these (context old).trees before (end_answers K (judge (fixed old)) g y)) r) (sym is) c

-- Nothing is put off, where there is nothing to be.
nothing-put-off : {A S : Type 0} (r : Result A S) (xs ys : List (List ℕ)) → ys ≡ xs → PutsOffIfOk [] r xs ys
nothing-put-off (Ok x) xs ys e = (e ∙ sym (append-nil xs), tt)
nothing-put-off (Err s) xs ys e = (tt, e)

pub list-none : {E X A : Type 0} {fixed : E → X} {judge : X → Judge} {state : E → State} {probes : E → List State} {context : E → Context} {stops : Account E} {items : A → List OfNumbers} {R : Listed → Type 0}
    (old new : E) (left : State) (r : Result A Stop) → ConsidersAll fixed judge state probes context stops old new left items R r
    → ConsidersAllBut (PutsOffIfOk [] r) fixed judge state probes context stops old new left items R r
list-none old new left r c = list-but old new left r (nothing-put-off r) c
