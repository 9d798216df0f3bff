-- The rules of the clauses of an environment.
use Rattle.std.proofs.Common.{◌≡◌, Bool, false, refl, sym, ap, ◌∙◌, ℕ, List, [], ◌∷◌, length, map}
use Rattle.std.specs.List.{All}
use Rattle.std.proofs.lemmas.List.Elements.{All-cons, All-nil}
use Rattle.std.proofs.lemmas.Simd.{map-map}
use Rattle.ir_trees.specs.declared.ir.heads.Head.{Head}
use Rattle.ir_trees.specs.declared.ir.kinds.Clause.{Clause}
use Rattle.ir_trees.specs.declared.ir.kinds.ParamEnv.{ParamEnv}
use Rattle.ir_trees.specs.Declarations.Context.{Context}
use Rattle.ir_trees.specs.Syntax.Nodes.{kind_at}
use Rattle.ir_trees.specs.Unification.Substitutions.{alone}
use Rattle.ir_trees.specs.Syntax.Trees.{ClauseKind, Forest, Tree, holds}
use Rattle.ir_trees.specs.Syntax.Words.{ClauseListFits, clause_list_forest, clause_tree, env_forest}
use Rattle.ir_trees.proofs.Syntax.Rows.{row-single}
use Rattle.candidate_eval.specs.Judges.Alike.{JudgesAlike}
use Rattle.candidate_eval.specs.Derivations.Judging.{judged}
use Rattle.candidate_eval.specs.Derivations.Mentions.{IsBelow, StepsBelow}
use Rattle.candidate_eval.specs.Dynamic.Required.{each_of}
use Rattle.candidate_eval.specs.Derivations.Rules.{characterise, settle}
use Rattle.candidate_eval.specs.Judges.States.{Judge, State}
use Rattle.candidate_eval.proofs.Marks.Holds.{holds_parts}
use Rattle.candidate_assembly.specs.Answers.Assembled.{where_rule, where_rules}
use Rattle.candidate_assembly.specs.Goals.Kinds.{GoalBelow, KindRules, match_rule}
use Rattle.candidate_assembly.proofs.Rules.PureFolder.{rule-moved}
use Rattle.candidate_assembly.proofs.Lists.Listing.{judged-alike}
use Rattle.candidate_assembly.proofs.Rules.MatchesBelow.{steps-joined}

-- the clauses of a row

row-of : (ts : List Tree) (x : Clause) (xs : List Clause) → kind_at ts x.0 ≡ ClauseKind → clause_list_forest ts (x ∷ xs) ≡ Forest.tree (clause_tree ts x).head (clause_tree ts x).children (clause_list_forest ts xs)
row-of ts x xs is = row-single ts x.0 ClauseKind (clause_list_forest ts xs) refl refl is

each-clause : (ts : List Tree) (xs : List Clause) → ClauseListFits ts xs → each_of (clause_list_forest ts xs) ≡ map (clause_tree ts) xs
each-clause ts [] f = refl
each-clause ts (x ∷ xs) f =
    let here : kind_at ts x.0 ≡ ClauseKind = cc in
    let others : ClauseListFits ts xs = cc in
    ap each_of (row-of ts x xs here) ∙ ap (λ (us : List Tree). clause_tree ts x ∷ us) (each-clause ts xs others)

-- what stands nowhere in an environment stands in none of its clauses
pub clauses-hold-none : (mark : Head → Bool) (ts : List Tree) (xs : List Clause) → ClauseListFits ts xs → holds mark (clause_list_forest ts xs) ≡ false → All (λ (x : Clause). holds mark (alone (clause_tree ts x)) ≡ false) xs
clauses-hold-none mark ts [] f e = All-nil (λ (y : Clause). holds mark (alone (clause_tree ts y)) ≡ false)
clauses-hold-none mark ts (x ∷ xs) f e =
    let here : kind_at ts x.0 ≡ ClauseKind = cc in
    let others : ClauseListFits ts xs = cc in
    let p = holds_parts mark (clause_tree ts x).head (clause_tree ts x).children (clause_list_forest ts xs) (sym (ap (holds mark) (row-of ts x xs here)) ∙ e) in
    let first : holds mark (alone (clause_tree ts x)) ≡ false = rw (p.here, p.under) refl in
    let rest : All (λ (y : Clause). holds mark (alone (clause_tree ts y)) ≡ false) xs = clauses-hold-none mark ts xs others p.others in
    All-cons (λ (y : Clause). holds mark (alone (clause_tree ts y)) ≡ false) x xs first rest

-- The rules by the clauses that were read.
pub where-rules-read : {G : Type 0} (K : KindRules G) (c : Context) (g : G) (e : ParamEnv) (xs : List Clause) → K.env_of g ≡ env_forest c.trees e → ClauseListFits c.trees xs → clause_list_forest c.trees xs ≡ env_forest c.trees e
    → where_rules K c g ≡ map (λ x. where_rule K c g (clause_tree c.trees x)) xs
where-rules-read K c g e xs given f is =
    ap (λ (ts : Forest). map (where_rule K c g) (each_of ts)) (given ∙ sym is) ∙ (ap (map (where_rule K c g)) (each-clause c.trees xs f) ∙ map-map (where_rule K c g) (clause_tree c.trees) xs)

-- What is judged of a clause at a state that is alike.
pub where-judged-alike : {G : Type 0} (K : KindRules G) (J : Judge) → JudgesAlike J → ((n : ℕ) (g : G) (t : Tree) → IsBelow n (K.trees_of g) → IsBelow n (alone t) → StepsBelow n (K.match_steps g t))
    → (c : Context) (S T : State) (g : G) (t : Tree) → J.alike S T → GoalBelow K (length S.variables) g → IsBelow (length S.variables) (alone t) → judged J T (where_rule K c g t) ≡ judged J S (where_rule K c g t)
where-judged-alike K J law matches c S T g t a below there =
    judged-alike J law S T (where_rule K c g t) a (record {
      env = below.env;
      steps = steps-joined (length S.variables) (K.match_steps g t) (settle ∷ []) (matches (length S.variables) g t below.trees there) (tt, tt);
      ending = there;
    })

-- What is judged of a clause later, by other words for its parts, is what is judged of it at the first state.
pub where-judged : {G F : Type 0} (K : KindRules G) (judge : F → Judge) (f h : F) → ((x : F) → JudgesAlike (judge x)) → ((n : ℕ) (g : G) (t : Tree) → IsBelow n (K.trees_of g) → IsBelow n (alone t) → StepsBelow n (K.match_steps g t))
    → (old now : Context) (S T : State) (g d : G) (t u : Tree) → h ≡ f → d ≡ g → u ≡ t → ((x : Head) → K.fits now g x ≡ K.fits old g x) → (judge f).alike S T → GoalBelow K (length S.variables) g → IsBelow (length S.variables) (alone t)
    → judged (judge h) T (match_rule K now d u (settle ∷ []) (characterise u)) ≡ judged (judge f) S (where_rule K old g t)
where-judged K judge f h law matches old now S T g d t u same seen is fits a below there =
    ap (λ z. judged (judge z) T (match_rule K now d u (settle ∷ []) (characterise u))) same
    ∙ (ap (judged (judge f) T) (rule-moved K old now g d t u (settle ∷ []) (characterise t) (characterise u) seen is fits (ap characterise is))
    ∙ where-judged-alike K (judge f) (law f) matches old S T g t a below there)
