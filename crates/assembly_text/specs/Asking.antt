-- What queries of a text are answered.
use Rattle.std.specs.Prelude.{◌≡◌, ◌++◌, ◌∷◌, [], ℕ, Bool, List, Result, Ok, nat_eq, take}
use Rattle.std.specs.Cmp.Lexicographic.{pointwise}
use Rattle.ir_trees.specs.declared.ir.kinds.AliasTy.{AliasTy}
use Rattle.ir_trees.specs.declared.ir.kinds.TraitPredicate.{TraitPredicate}
use Rattle.ir_trees.specs.declared.ir.kinds.TraitRef.{TraitRef}
use Rattle.ir_trees.specs.Declarations.Context.{Context, Grows}
use Rattle.candidate_eval.specs.declared.coherence.Conflict.{Conflict}
use Rattle.candidate_eval.specs.declared.coherence.InCrate.{InCrate}
use Rattle.candidate_eval.specs.Knowability.Answers.{knowledge_of}
use Rattle.candidate_eval.specs.Knowability.Calls.{plain_check_of, plain_knowledge_about}
use Rattle.assembly_notation.specs.declared.given.Given.{Given}
use Rattle.assembly_notation.specs.Lines.{first_word}
use Rattle.assembly_text.specs.Efforts.{effort_of_line}
use Rattle.assembly_text.specs.Explaining.{AddsCandidates}
use Rattle.assembly_text.specs.Printing.{IsCheckText, known_text}
use Rattle.assembly_text.specs.Normalizing.{AddsNormal}
use Rattle.assembly_text.specs.Solving.{AddsGoal, AddsGoalWithValues}

-- the context without what queries made in it
abbrev pub declared_part : Context → Context
declared_part c = record c { trees = take c.declared_nodes c.trees }

-- What some goal comes to over what is declared, under what is given, by the effort that the line names: to which goal its words lead isn't said.
pub record AddsSomeGoal (line : List ℕ) (first : Context) (g : Given) (last : Context) (old new : List ℕ) : Type 0 where
  pub context : Context
  pub read : Grows first context
  pub left : Grows context last
  pub predicate : TraitPredicate
  pub adds : AddsGoal context g predicate (effort_of_line line) last old new

-- The same with what variables stand for, or why it is so.
pub record AddsSomeValues (line : List ℕ) (first : Context) (g : Given) (last : Context) (old new : List ℕ) : Type 0 where
  pub context : Context
  pub read : Grows first context
  pub left : Grows context last
  pub predicate : TraitPredicate
  pub adds : AddsGoalWithValues context g predicate (effort_of_line line) last old new

-- The same behind words for the goal's candidates.
pub record AddsSomeCandidates (line : List ℕ) (first : Context) (g : Given) (last : Context) (old new : List ℕ) : Type 0 where
  pub context : Context
  pub read : Grows first context
  pub left : Grows context last
  pub predicate : TraitPredicate
  pub adds : AddsCandidates context g predicate (effort_of_line line) last old new

-- whether the first word of what is left of a line is `*`: as many rounds as it takes
abbrev pub names_all : List ℕ → Bool
names_all line = pointwise nat_eq (first_word line) (42 ∷ [])

-- What some projection comes to over what is declared, under what is given, by the effort that the line names; behind `*` once the goal of its
-- trait is final.
pub record AddsSomeNormal (line : List ℕ) (first : Context) (g : Given) (last : Context) (old new : List ℕ) : Type 0 where
  pub context : Context
  pub read : Grows first context
  pub left : Grows context last
  pub alias : AliasTy
  pub adds : AddsNormal context g alias (effort_of_line line) (names_all line) last old new

-- Whether all impls of some reference are known by what is declared, where no type is normalised.
pub record AddsSomeKnown (first last : Context) (old new : List ℕ) : Type 0 where
  pub context : Context
  pub read : Grows first context
  pub left : Grows context last
  pub trait_ref : TraitRef
  pub known : Result (Unit {0}) Conflict
  pub is : plain_knowledge_about context trait_ref ≡ knowledge_of (Ok known)
  pub added : new ≡ old ++ known_text known

-- What the orphan check of some reference comes to, for some crate, by what is declared, where no type is normalised.
pub record AddsSomeCheck (first last : Context) (old new : List ℕ) : Type 0 where
  pub context : Context
  pub read : Grows first context
  pub left : Grows context last
  pub in_crate : InCrate
  pub trait_ref : TraitRef
  pub text : List ℕ
  pub is : IsCheckText (plain_check_of context in_crate trait_ref) text
  pub added : new ≡ old ++ text
