-- What is told of a rule over parts, where clauses about them became pending.
use Rattle.std.proofs.Common.{◌≡◌, zero, suc, List, [], ◌∷◌, map, Option, Bool, true, false, Result, refl, sym, ap, subst, ◌∙◌, arith}
use Rattle.std.proofs.lemmas.List.Elements.{All-map}
use Rattle.std.specs.Prelude.{◌||◌, All}
use Rattle.ir_trees.specs.declared.ir.kinds.Args.{Args}
use Rattle.ir_trees.specs.declared.ir.kinds.Clause.{Clause}
use Rattle.ir_trees.specs.declared.ir.kinds.GoalSource.TheVariants.{ImplWhereBound}
use Rattle.ir_trees.specs.declared.ir.kinds.ParamEnv.{ParamEnv}
use Rattle.ir_trees.specs.declared.ir.kinds.TraitPredicate.{TraitPredicate}
use Rattle.ir_trees.specs.declared.ir.kinds.Ty.{Ty}
use Rattle.ir_trees.specs.declared.ir.kinds.VarKind.{VarKind}
use Rattle.ir_trees.specs.Declarations.Context.{Context, Grows}
use Rattle.ir_trees.specs.Instantiation.Folding.{substituted_tree}
use Rattle.candidate_eval.specs.Derivations.ImplRules.{TraitGoal}
use Rattle.ir_trees.specs.Syntax.Trees.{Kind, Forest, none, tree, Tree, holds, is_param, tree_holds}
use Rattle.ir_trees.specs.Syntax.Words.{IsArgs, IsParamEnv, args_forest, clause_tree, ty_tree}
use Rattle.ir_trees.proofs.Growth.Kept.{args-kept, grows-trans}
use Rattle.candidate_eval.specs.declared.eval.certainty.Certainty.TheVariants.{Yes}
use Rattle.candidate_eval.specs.declared.eval.refusal.NoSolutionOrStop.{NoSolutionOrStop}
use Rattle.candidate_eval.specs.declared.eval.response.Candidate.{Candidate}
use Rattle.candidate_eval.specs.declared.eval.source.CandidateSource.{CandidateSource}
use Rattle.candidate_eval.specs.declared.structural.Constituents.{Constituents}
use Rattle.candidate_eval.specs.Builtins.Asked.{parts_of, variables}
use Rattle.candidate_eval.specs.Derivations.Characterization.{binder_kinds}
use Rattle.candidate_eval.specs.Dynamic.ObjectRequirements.{first_tree}
use Rattle.candidate_eval.specs.Builtins.Tables.{Cell, Asks}
use Rattle.ir_trees.proofs.Instantiation.Folding.{or-left, or-right}
use Rattle.candidate_eval.specs.Interface.Evaluators.{kinds_listed, rigid, with_goals_of, with_rigid}
use Rattle.candidate_eval.specs.Derivations.Judging.{asked, comes_to, judged}
use Rattle.candidate_eval.specs.Dynamic.ObjectRequirements.{goals_in}
use Rattle.candidate_eval.specs.Derivations.Rules.{ask, nested}
use Rattle.candidate_eval.specs.Judges.States.{State, Judge}
use Rattle.candidate_eval.proofs.Dynamic.Objects.{env-kept}
use Rattle.candidate_assembly.specs.Rules.BuiltinRules.{entered_rule, entered_values, for_types, opened_by, parts_rule, said_of_type, values_at, with_names}
use Rattle.candidate_assembly.specs.Answers.Telling.{Told, standing}
use Rattle.candidate_assembly.specs.Goals.TraitGoals.{trait_goal}
use Rattle.candidate_assembly.proofs.Rules.Flat.{nested-comes}
use Rattle.candidate_assembly.proofs.Rules.PartClauses.{none-of, entered-parts, listed-kinds, rigid-start}

-- the clauses that were made, with what they are made of as it was before
clauses-moved : (old mid : Context) (S : State) (p : TraitPredicate) (ks : List VarKind) (under : Option Args) (xs : List Ty) → Grows old mid → IsArgs old.trees p.trait_ref.args
    → map (ty_tree mid.trees) xs ≡ map (ty_tree old.trees) xs → values_at mid.trees under ≡ entered_values S (kinds_listed ks)
    → map (λ t. said_of_type (args_forest mid.trees p.trait_ref.args) p (opened_by (values_at mid.trees under) t)) (map (ty_tree mid.trees) xs)
    ≡ map (λ t. said_of_type (args_forest old.trees p.trait_ref.args) p (opened_by (entered_values S (kinds_listed ks)) t)) (map (ty_tree old.trees) xs)
clauses-moved old mid S p ks under xs g a e v =
    ap (λ (x : Forest). map (λ t. said_of_type x p (opened_by (values_at mid.trees under) t)) (map (ty_tree mid.trees) xs)) (args-kept old mid p.trait_ref.args g a).1
    ∙ (ap (λ (x : Option Forest). map (λ t. said_of_type (args_forest old.trees p.trait_ref.args) p (opened_by x t)) (map (ty_tree mid.trees) xs)) v
    ∙ ap (map (λ t. said_of_type (args_forest old.trees p.trait_ref.args) p (opened_by (entered_values S (kinds_listed ks)) t))) e)

pub parts-told : (J : Judge) (old mid last : Context) (ran : List Tree) (S : State) (env : ParamEnv) (p : TraitPredicate) (ks : List VarKind) (xs : List Ty) (under : Option Args) (cs : List Clause) (source : CandidateSource) (r : Result Candidate NoSolutionOrStop)
    → Grows old mid → Grows mid last → IsParamEnv old.trees env → IsArgs old.trees p.trait_ref.args → map (ty_tree mid.trees) xs ≡ map (ty_tree old.trees) xs
    → holds is_param (args_forest old.trees p.trait_ref.args) ≡ false → All (λ t. tree_holds is_param (ty_tree old.trees t) ≡ false) xs
    → values_at mid.trees under ≡ entered_values S (kinds_listed ks)
    → map (clause_tree last.trees) cs ≡ map (λ t. said_of_type (args_forest mid.trees p.trait_ref.args) p (opened_by (values_at mid.trees under) t)) (map (ty_tree mid.trees) xs)
    → Told ran r (asked J (with_goals_of last.trees (with_rigid S (kinds_listed ks)) ImplWhereBound (goals_in env cs)) source Yes)
    → Told ran r (judged J S (entered_rule (trait_goal old.trees env p) true source (kinds_listed ks) (map (ty_tree old.trees) xs)))
parts-told J old mid last ran S env p ks xs under cs source r g h e a types free each v made told =
    let K = kinds_listed ks in
    let goal = trait_goal old.trees env p in
    let ts = map (ty_tree old.trees) xs in
    let steps = nested (for_types goal (map (with_names K) ts)) in
    let are : map (substituted_tree (rigid S K)) (for_types goal (map (with_names K) ts)) ≡ map (clause_tree last.trees) cs
    = entered-parts S p.trait_ref.def_id p.polarity (args_forest old.trees p.trait_ref.args) free K (listed-kinds ks) ts (All-map (λ t. tree_holds is_param t ≡ false) (ty_tree old.trees) xs each)
    ∙ sym (made ∙ clauses-moved old mid S p ks under xs g a types v) in
    let comes : comes_to J goal.env (standing (with_rigid S K) (rigid S K)) steps (ask source Yes) ≡ asked J (with_goals_of last.trees (with_rigid S K) ImplWhereBound (goals_in env cs)) source Yes
    = ap (λ z. comes_to J z (standing (with_rigid S K) (rigid S K)) steps (ask source Yes)) (sym (env-kept old last env (grows-trans old mid last g h) e).1)
    ∙ nested-comes J last.trees env ImplWhereBound source Yes (with_rigid S K) (rigid S K) (for_types goal (map (with_names K) ts)) cs are in
    subst (λ j. Told ran r j) (sym (ap (λ z. comes_to J goal.env z steps (ask source Yes)) (rigid-start S K) ∙ comes)) told

-- types without parameters have none where a context has grown
pub free-types : (old new : List Tree) (xs : List Ty) → map (ty_tree new) xs ≡ map (ty_tree old) xs → All (λ t. tree_holds is_param (ty_tree old t) ≡ false) xs → All (λ t. tree_holds is_param (ty_tree new t) ≡ false) xs
free-types old new [] e h = λ k d l. absurd (omega (arith, l))
free-types old new (x ∷ xs) e h =
    let here : ty_tree new x ≡ ty_tree old x = cc in
    let rest : map (ty_tree new) xs ≡ map (ty_tree old) xs = cc in
    begins (ap (tree_holds is_param) here ∙ h 0 x (omega arith)) (free-types old new xs rest (λ k d l. h (suc k) d (omega (arith, l))))
  where
    begins : tree_holds is_param (ty_tree new x) ≡ false → All (λ t. tree_holds is_param (ty_tree new t) ≡ false) xs → All (λ t. tree_holds is_param (ty_tree new t) ≡ false) (x ∷ xs)
    begins now more zero d l = now
    begins now more (suc k) d l = more k d (omega (arith, l))

-- The same rule over parts, where the context has grown.
pub entered-moved : (g h : TraitGoal) (source : CandidateSource) (ks : List Kind) (ts us : List Tree) → h ≡ g → us ≡ ts → entered_rule h true source ks us ≡ entered_rule g true source ks ts
entered-moved g h source ks ts us p q = ap (λ (x : TraitGoal). entered_rule x true source ks us) p ∙ ap (entered_rule g true source ks) q

-- the first tree of a row without parameters has none
pub first-parameterless : (ts : Forest) → holds is_param ts ≡ false → tree_holds is_param (first_tree ts) ≡ false
first-parameterless none e = refl
first-parameterless (tree h below rest) e =
    let more : (holds is_param below || holds is_param rest) ≡ false = or-right (is_param h) (holds is_param below || holds is_param rest) e in
    none-of (is_param h) (holds is_param below) (or-left (is_param h) (holds is_param below || holds is_param rest) e) (or-left (holds is_param below) (holds is_param rest) more)

-- what holds of trees of types, said of the types
pub all-types : (ts : List Tree) (xs : List Ty) → All (λ t. tree_holds is_param t ≡ false) (map (ty_tree ts) xs) → All (λ t. tree_holds is_param (ty_tree ts t) ≡ false) xs
all-types ts [] h = λ k d l. absurd (omega (arith, l))
all-types ts (x ∷ xs) h = begins (h 0 (ty_tree ts x) (omega arith)) (all-types ts xs (λ k d l. h (suc k) d (omega (arith, l))))
  where
    begins : tree_holds is_param (ty_tree ts x) ≡ false → All (λ t. tree_holds is_param (ty_tree ts t) ≡ false) xs → All (λ t. tree_holds is_param (ty_tree ts t) ≡ false) (x ∷ xs)
    begins now more zero d l = now
    begins now more (suc k) d l = more k d (omega (arith, l))

-- The rule by what the cell asks about.
pub rule-of-cell : (g h : TraitGoal) (applies : Bool) (source : CandidateSource) (c : Cell) (ts : List Tree) (parts : Constituents) (ks : List VarKind) → h ≡ g → applies ≡ true → c ≡ Asks (parts_of ts parts)
    → kinds_listed ks ≡ binder_kinds (variables ts parts.under) → entered_rule h true source (kinds_listed ks) (map (ty_tree ts) parts.types.items) ≡ parts_rule g applies source c
rule-of-cell g h applies source c ts parts ks p a e k =
    ap (λ (x : TraitGoal). entered_rule x true source (kinds_listed ks) (map (ty_tree ts) parts.types.items)) p
    ∙ (ap (λ js. entered_rule g true source js (map (ty_tree ts) parts.types.items)) k
    ∙ (ap (λ b. parts_rule g b source (Asks (parts_of ts parts))) (sym a) ∙ ap (parts_rule g applies source) (sym e)))
