-- What is read of impls, with fresh variables or placeholders in the place of their parameters.
use Rattle.std.specs.Prelude.{◌≡◌, Some, List}
use Rattle.ir_trees.specs.declared.decl.contents.ImplId.{ImplId}
use Rattle.ir_trees.specs.Declarations.Context.{Context}
use Rattle.ir_trees.specs.Declarations.Contents.{Impl}
use Rattle.ir_trees.specs.Declarations.Declaring.{impl_at}
use Rattle.ir_trees.specs.Instantiation.Folding.{substituted}
use Rattle.ir_trees.specs.Instantiation.Owned.{ClausesAreOwned}
use Rattle.ir_trees.specs.Syntax.Trees.{Forest, Kind}
use Rattle.ir_trees.specs.Syntax.Words.{IsArgs, args_forest}
use Rattle.ir_trees.specs.Validity.WellFormed.{ImplIsGiven}
use Rattle.candidate_eval.specs.Interface.Evaluators.{rigid}
use Rattle.candidate_eval.specs.Judges.States.{State, fresh_variables}
use Rattle.candidate_assembly.specs.Answers.KnownImpls.{header_of, kinds_of_impl}
use Rattle.overlaps.specs.Apart.{IfDeclared, entered, opened}
use Rattle.overlaps.specs.declared.opening.Opened.{Opened}
use Rattle.overlaps.specs.declared.opening.Pair.{Pair}

-- It is the declared impl, with these in the place of its parameters, by numbers of a later context.
pub record IsOpenedWith (c : Context) (values : Forest) (i : Impl) (later : Context) (o : Opened) : Type 0 where
  pub given : ImplIsGiven c i
  pub of_trait : o.def_id ≡ i.trait_ref.def_id
  pub locals_fit : IsArgs later.trees o.locals
  pub locals : args_forest later.trees o.locals ≡ values
  pub header_fits : IsArgs later.trees o.header
  pub header : args_forest later.trees o.header ≡ substituted values 0 (header_of c i)
  pub wheres : o.wheres.items ≡ i.wheres
  pub owned : ClausesAreOwned later.trees (args_forest later.trees o.locals) o.wheres.items

-- the same with the state's fresh variables
abbrev pub IsOpenedOf : Context → State → Impl → Context → Opened → Type 0
IsOpenedOf c S i later o = IsOpenedWith c (fresh_variables S (kinds_of_impl i)) i later o

-- The same of the impl of that number, told what stands for parameters of any kinds.
pub record IsOpenedAs (c : Context) (values : List Kind → Forest) (n : ImplId) (later : Context) (o : Opened) : Type 0 where
  pub by : Impl
  pub is : impl_at c n ≡ Some by
  pub number : o.of ≡ n
  pub opens : IsOpenedWith c (values (kinds_of_impl by)) by later o

-- the same with the state's fresh variables, and with its placeholders

abbrev pub IsOpened : Context → State → ImplId → Context → Opened → Type 0
IsOpened c S n later o = IsOpenedAs c (fresh_variables S) n later o

abbrev pub IsEntered : Context → State → ImplId → Context → Opened → Type 0
IsEntered c S n later o = IsOpenedAs c (rigid S) n later o

-- Both are, the second after the first, and this state is left.
pub record AreOpened (c : Context) (S : State) (a b : ImplId) (later : Context) (left : State) (p : Pair) : Type 0 where
  pub i : Impl
  pub j : Impl
  pub first_is : impl_at c a ≡ Some i
  pub second_is : impl_at c b ≡ Some j
  pub first_number : p.first.of ≡ a
  pub second_number : p.second.of ≡ b
  pub first : IsOpenedOf c S i later p.first
  pub second : IsOpenedOf c (opened S i) j later p.second
  pub left_is : left ≡ opened (opened S i) j

-- The first one is with placeholders in the place of its parameters, and then the second one with fresh variables; and this state is left.
pub record AreEntered (c : Context) (S : State) (a b : ImplId) (later : Context) (left : State) (p : Pair) : Type 0 where
  pub i : Impl
  pub j : Impl
  pub first_is : impl_at c a ≡ Some i
  pub second_is : impl_at c b ≡ Some j
  pub first : IsOpenedWith c (rigid S (kinds_of_impl i)) i later p.first
  pub second : IsOpenedOf c (entered S i) j later p.second
  pub left_is : left ≡ opened (entered S i) j

-- one of them isn't declared
abbrev pub AreNotDeclared : Context → ImplId → ImplId → Type 0
AreNotDeclared c a b = IfDeclared c a b (λ i j. ⊥)
