-- What is read of an impl, where the context has grown, and the steps of its rule.
use Rattle.std.proofs.Common.{◌≡◌, true, ap, refl, sym, subst, ◌∙◌, List, [], ◌∷◌, map, Option, Some, None, slice_index_or}
use Rattle.std.specs.Prelude.{IfSome}
use Rattle.ir_trees.specs.declared.decl.contents.ImplId.{ImplId}
use Rattle.ir_trees.specs.declared.ir.kinds.Args.{Args}
use Rattle.ir_trees.specs.declared.ir.kinds.Clause.{Clause}
use Rattle.ir_trees.specs.Declarations.Context.{Context, Grows, parameter_kind}
use Rattle.ir_trees.specs.Declarations.Contents.{Impl}
use Rattle.ir_trees.specs.Declarations.Declaring.{impl_at}
use Rattle.ir_trees.specs.Instantiation.Folding.{lacks_argument}
use Rattle.ir_trees.specs.Declarations.Lookups.{maybe}
use Rattle.ir_trees.specs.Instantiation.Owned.{ClausesAreOwned, is_unsolved}
use Rattle.ir_trees.specs.Syntax.Trees.{Forest, Tree, tree_holds}
use Rattle.ir_trees.specs.Validity.WellFormed.{ImplIsGiven}
use Rattle.ir_trees.specs.Syntax.Words.{IsArgs, args_forest, clause_tree}
use Rattle.ir_trees.specs.Declarations.Worlds.{kinds_of}
use Rattle.ir_folds.proofs.Instantiation.Joining.{clause-kept}
use Rattle.ir_trees.proofs.Growth.Kept.{args-kept}
use Rattle.candidate_eval.specs.declared.eval.source.CandidateSource.{CandidateSource}
use Rattle.candidate_eval.specs.declared.eval.mode.TypingMode.{TypingMode}
use Rattle.candidate_eval.specs.Derivations.ImplRules.{TraitGoal, declared_steps, impl_steps}
use Rattle.candidate_eval.specs.Derivations.Judging.{Place, Reached, run, start}
use Rattle.candidate_eval.specs.Outcomes.Responses.{Response}
use Rattle.candidate_eval.specs.Derivations.Rules.{Step, fresh}
use Rattle.candidate_eval.specs.Judges.States.{Env, Judge, State, fresh_variables, with_fresh_variables}
use Rattle.candidate_eval.proofs.Outcomes.Pairs.{clause_there}
use Rattle.candidate_eval.proofs.Outcomes.Responding.{clauses-kept}
use Rattle.candidate_assembly.specs.declared.trait_goals.impls.DeclaredImpl.{DeclaredImpl}
use Rattle.candidate_assembly.specs.Calls.Impls.{IsDeclared, impl_kinds, steps_at}
use Rattle.candidate_assembly.specs.Goals.Kinds.{steps_judged}
use Rattle.candidate_assembly.specs.Goals.TraitGoals.{impl_part, impl_part_at, no_impl}
use Rattle.candidate_assembly.specs.Answers.Telling.{standing}
use Rattle.candidate_assembly.proofs.Calls.Stepping.{fresh-kinds}

-- Clauses

pub owned-kept : (old new : Context) (args : Forest) (xs : List Clause) → Grows old new → ClausesAreOwned old.trees args xs → ClausesAreOwned new.trees args xs
owned-kept old new args xs g h = record {
  fit = (clauses-kept old new xs g h.fit).0;
  have = λ k d l. ap (tree_holds (lacks_argument args)) (clause-kept old new (slice_index_or xs k d) g (clause_there old.trees xs d k h.fit l)).1 ∙ h.have k d l;
  closed = λ k d l. ap (tree_holds is_unsolved) (clause-kept old new (slice_index_or xs k d) g (clause_there old.trees xs d k h.fit l)).1 ∙ h.closed k d l;
}

-- the same, by the numbers of the arguments
pub owned-still : (old new : Context) (a : Args) (xs : List Clause) → Grows old new → IsArgs old.trees a → ClausesAreOwned old.trees (args_forest old.trees a) xs
    → ClausesAreOwned new.trees (args_forest new.trees a) xs
owned-still old new a xs g i h = rw (args-kept old new a g i).1 (owned-kept old new (args_forest old.trees a) xs g h)

-- The impl of a number

pub impl-same : (old new : Context) (n : ImplId) → Grows old new → impl_at new n ≡ impl_at old n
impl-same old new n g = ap (λ (c : Context). impl_at c n) g.same

-- fresh variables are of the kinds of its parameters, as the grown context declares them
pub kinds-fit : (old new : Context) (n : ImplId) (S : State) (args : Forest) → Grows old new → args ≡ fresh_variables S (impl_kinds old n) → kinds_of args ≡ impl_kinds new n
kinds-fit old new n S args g e =
    ap kinds_of e
    ∙ (fresh-kinds S (maybe [] (λ (i : Impl). i.parameters) (impl_at old n)) ∙ ap (λ (o : Option Impl). map parameter_kind (maybe [] (λ (i : Impl). i.parameters) o)) (sym (impl-same old new n g)))

-- Runs of the steps of its rule

-- after the variables
pub impl-run : (J : Judge) (e : Env) (S T : State) (c : Context) (a ls : Forest) (n : ImplId) (i : Impl) (r : Reached) → impl_at c n ≡ Some i → T ≡ with_fresh_variables S (impl_kinds c n)
    → ls ≡ fresh_variables S (impl_kinds c n)
    → run J e (standing T ls) (declared_steps a (args_forest c.trees i.trait_ref.args) (map (clause_tree c.trees) i.wheres) (map (clause_tree c.trees) i.super_outlives)) ≡ r
    → run J e (start S) (steps_at c a n) ≡ r
impl-run J e S T c a ls n i r is t l h =
    let rest = declared_steps a (args_forest c.trees i.trait_ref.args) (map (clause_tree c.trees) i.wheres) (map (clause_tree c.trees) i.super_outlives) in
    let same = t ∙ ap (λ (o : Option Impl). with_fresh_variables S (map parameter_kind (maybe [] (λ (x : Impl). x.parameters) o))) is in
    let those = l ∙ ap (λ (o : Option Impl). fresh_variables S (map parameter_kind (maybe [] (λ (x : Impl). x.parameters) o))) is in
    ap (λ (o : Option Impl). run J e (start S) (maybe [] (impl_steps c.trees a) o)) is
    ∙ (ap (λ U. run J e (standing U (fresh_variables S (map parameter_kind i.parameters))) rest) (sym same)
    ∙ (ap (λ fs. run J e (standing T fs) rest) (sym those) ∙ h))

-- the same run in other words
pub moved-run : {X : Type 0} (judge : X → Judge) (f h : X) (e d : Env) (p : Place) (a b header : Forest) (ws os : List Tree) (r : Reached) → h ≡ f → d ≡ e → b ≡ a
    → run (judge h) d p (declared_steps b header ws os) ≡ r → run (judge f) e p (declared_steps a header ws os) ≡ r
moved-run judge f h e d p a b header ws os r x y z k =
    ap (λ q. run (judge q) e p (declared_steps a header ws os)) (sym x) ∙ (ap (λ q. run (judge h) q p (declared_steps a header ws os)) (sym y) ∙ (ap (λ q. run (judge h) d p (declared_steps q header ws os)) (sym z) ∙ k))

-- by what is read of it later
module _ (old new : Context) (n : ImplId) (args : Forest) (d : DeclaredImpl) (g : Grows old new) (is : IsDeclared new n args d) where
  pub declared-run : IfSome (impl_at old n) (ImplIsGiven old) → (J : Judge) (e : Env) (S T : State) (a : Forest) (ws os : List Clause) (r : Reached) → ws ≡ d.wheres.items → os ≡ d.super_outlives.items
      → T ≡ with_fresh_variables S (impl_kinds old n) → args ≡ fresh_variables S (impl_kinds old n)
      → run J e (standing T args) (declared_steps a (args_forest new.trees d.header) (map (clause_tree new.trees) ws) (map (clause_tree new.trees) os)) ≡ r
      → run J e (start S) (steps_at old a n) ≡ r
  declared-run given J e S T a ws os r w o t l h =
      let here : impl_at old n ≡ Some is.by = sym (impl-same old new n g) ∙ is.is in
      let early : ImplIsGiven old is.by = subst (λ (x : Option Impl). IfSome x (ImplIsGiven old)) here given in
      let header : args_forest old.trees is.by.trait_ref.args ≡ args_forest new.trees d.header
      = sym (args-kept old new is.by.trait_ref.args g early.header.list).1 ∙ ap (args_forest new.trees) (sym is.header) in
      let wheres : map (clause_tree old.trees) is.by.wheres ≡ map (clause_tree new.trees) ws
      = sym (clauses-kept old new is.by.wheres g early.wheres).1 ∙ ap (map (clause_tree new.trees)) (sym (w ∙ is.wheres)) in
      let outlives : map (clause_tree old.trees) is.by.super_outlives ≡ map (clause_tree new.trees) os
      = sym (clauses-kept old new is.by.super_outlives g early.super_outlives).1 ∙ ap (map (clause_tree new.trees)) (sym (o ∙ is.super_outlives)) in
      impl-run J e S T old a args n is.by r here t l
      (ap (λ x. run J e (standing T args) (declared_steps a x (map (clause_tree old.trees) is.by.wheres) (map (clause_tree old.trees) is.by.super_outlives))) header
      ∙ (ap (λ (x : List Tree). run J e (standing T args) (declared_steps a (args_forest new.trees d.header) x (map (clause_tree old.trees) is.by.super_outlives))) wheres
      ∙ (ap (λ (x : List Tree). run J e (standing T args) (declared_steps a (args_forest new.trees d.header) (map (clause_tree new.trees) ws) x)) outlives ∙ h)))

-- The steps stay where the context grows.
pub steps-kept : (old new : Context) (a : Forest) (n : ImplId) → Grows old new → IfSome (impl_at old n) (ImplIsGiven old) → steps_at new a n ≡ steps_at old a n
steps-kept old new a n g given = ap (maybe [] (impl_steps new.trees a)) (impl-same old new n g) ∙ of (impl_at old n) given
  where
    of : (o : Option Impl) → IfSome o (ImplIsGiven old) → maybe [] (impl_steps new.trees a) o ≡ maybe [] (impl_steps old.trees a) o
    of None t = refl
    of (Some i) t =
        let with : Forest → List Tree → List Tree → List Step = λ h ws os. fresh (map parameter_kind i.parameters) ∷ declared_steps a h ws os in
        ap (λ x. with x (map (clause_tree new.trees) i.wheres) (map (clause_tree new.trees) i.super_outlives)) (args-kept old new i.trait_ref.args g t.header.list).1
        ∙ (ap (λ (x : List Tree). with (args_forest old.trees i.trait_ref.args) x (map (clause_tree new.trees) i.super_outlives)) (clauses-kept old new i.wheres g t.wheres).1
        ∙ ap (λ (x : List Tree). with (args_forest old.trees i.trait_ref.args) (map (clause_tree old.trees) i.wheres) x) (clauses-kept old new i.super_outlives g t.super_outlives).1)

-- What is judged of them is the same in other words.
pub judged-moved : {X : Type 0} (judge : X → Judge) (f h : X) (e d : Env) (S T : State) (s : CandidateSource) (xs ys : List Step) (k : State → Option Response) → h ≡ f → d ≡ e → T ≡ S → ys ≡ xs
    → steps_judged (judge h) d T s ys k ≡ steps_judged (judge f) e S s xs k
judged-moved judge f h e d S T s xs ys k p q r t =
    ap (λ z. steps_judged (judge z) d T s ys k) p ∙ (ap (λ z. steps_judged (judge f) z T s ys k) q ∙ (ap (λ z. steps_judged (judge f) e z s ys k) r ∙ ap (λ z. steps_judged (judge f) e S s z k) t))

pub run-moved : {X : Type 0} (judge : X → Judge) (f h : X) (e d : Env) (S T : State) (xs ys : List Step) → h ≡ f → d ≡ e → T ≡ S → ys ≡ xs → run (judge h) d (start T) ys ≡ run (judge f) e (start S) xs
run-moved judge f h e d S T xs ys p q r t =
    ap (λ z. run (judge z) d (start T) ys) p ∙ (ap (λ z. run (judge f) z (start T) ys) q ∙ (ap (λ z. run (judge f) e (start z) ys) r ∙ ap (λ z. run (judge f) e (start S) z) t))

-- The steps of an impl's part, where that applies.
pub part-steps : (c : Context) (m : TypingMode) (g : TraitGoal) (n : ImplId) → (impl_part_at c m g n).applies ≡ true → (impl_part_at c m g n).steps ≡ steps_at c g.reference.arguments n
part-steps c m g n = of (impl_at c n)
  where
    of : (o : Option Impl) → (maybe no_impl (impl_part c.trees m g) o).applies ≡ true → (maybe no_impl (impl_part c.trees m g) o).steps ≡ maybe [] (impl_steps c.trees g.reference.arguments) o
    of None e = absurd cc
    of (Some i) e = refl
