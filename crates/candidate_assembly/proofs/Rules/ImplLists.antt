-- The rules of the impls that may be for a goal's self type.
use Rattle.std.proofs.Common.{◌≡◌, sym, subst, ap, ◌∙◌, ℕ, List, length, map}
use Rattle.ir_trees.specs.declared.decl.contents.ImplId.{ImplId}
use Rattle.ir_trees.specs.declared.ir.kinds.ParamEnv.{ParamEnv}
use Rattle.ir_trees.specs.Declarations.Context.{Context, Grows}
use Rattle.ir_trees.specs.Unification.Impls.{relevant_impls}
use Rattle.ir_trees.specs.Syntax.Trees.{Tree}
use Rattle.ir_trees.specs.Validity.WellFormed.{IsWellFormedTable}
use Rattle.candidate_eval.specs.declared.eval.mode.TypingMode.{TypingMode}
use Rattle.candidate_eval.specs.declared.eval.source.CandidateSource.TheVariants as Source
use Rattle.candidate_eval.specs.Judges.Alike.{JudgesAlike}
use Rattle.candidate_eval.specs.Derivations.Judging.{judged}
use Rattle.candidate_eval.specs.Derivations.Mentions.{IsBelow, StepsBelow}
use Rattle.candidate_eval.specs.Judges.States.{Judge, State}
use Rattle.candidate_assembly.specs.Answers.Assembled.{impl_rule, impl_rules, trait_of}
use Rattle.candidate_assembly.specs.Goals.Kinds.{GoalBelow, KindRules, rule_of_part, self_type}
use Rattle.candidate_assembly.specs.Rules.Opaques.{non_default_impls}
use Rattle.candidate_assembly.proofs.Lists.Listing.{judged-alike}

-- What is judged of an impl later, by other words for its parts, is what is judged of it at the first state.
pub impl-judged : {G F : Type 0} (K : KindRules G) (judge : F → Judge) (f h : F) → ((x : F) → JudgesAlike (judge x))
    → ((c : Context) → IsWellFormedTable c → (n : ℕ) (m : TypingMode) (g : G) (i : ImplId) → IsBelow n (K.trees_of g) → StepsBelow n (K.impl_part c m g i).steps)
    → ((old new : Context) → IsWellFormedTable old → Grows old new → (m : TypingMode) (g : G) (i : ImplId) → K.impl_part new m g i ≡ K.impl_part old m g i)
    → (old now : Context) → IsWellFormedTable old → Grows old now → (S T : State) (g d : G) (i : ImplId) → h ≡ f → d ≡ g → (judge f).alike S T → GoalBelow K (length S.variables) g
    → judged (judge h) T (rule_of_part (K.env_of d) (Source.Impl i) (K.impl_part now T.mode d i)) ≡ judged (judge f) S (impl_rule K old S.mode g i)
impl-judged K judge f h law mentions stays old now t grows S T g d i same seen a below =
    ap (λ z. judged (judge z) T (rule_of_part (K.env_of d) (Source.Impl i) (K.impl_part now T.mode d i))) same
    ∙ (ap (judged (judge f) T)
    (ap (λ x. rule_of_part (K.env_of x) (Source.Impl i) (K.impl_part now T.mode x i)) seen
    ∙ (ap (λ m. rule_of_part (K.env_of g) (Source.Impl i) (K.impl_part now m g i)) ((law f).alike_looks S T a).mode
    ∙ ap (rule_of_part (K.env_of g) (Source.Impl i)) (stays old now t grows S.mode g i)))
    ∙ judged-alike (judge f) (law f) S T (impl_rule K old S.mode g i) a (record {
      env = below.env;
      steps = mentions old t (length S.variables) S.mode g i below.trees;
      ending = tt;
    }))

-- The rules by the impls that were read.
pub impl-rules-read : {G P : Type 0} (K : KindRules G) (see : List Tree → ParamEnv → P → G) (old c : Context) (m : TypingMode) (e : ParamEnv) (p : P) (xs : List ImplId) → c ≡ old
    → xs ≡ non_default_impls c (relevant_impls c (trait_of K c (see c.trees e p)) (self_type K c (see c.trees e p)))
    → impl_rules K old m (see old.trees e p) ≡ map (impl_rule K old m (see old.trees e p)) xs
impl-rules-read K see old c m e p xs same is =
    ap (map (impl_rule K old m (see old.trees e p)))
    (sym (subst (λ (x : Context). xs ≡ non_default_impls x (relevant_impls x (trait_of K x (see x.trees e p)) (self_type K x (see x.trees e p)))) same is))
