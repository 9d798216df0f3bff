use Rattle.std.proofs.Common.{◌≡◌, List, length, subst, sym}
use Rattle.std.specs.Prelude.{IfErr, IfOk}
use Rattle.ir_trees.specs.Instantiation.Folding.{Answers, IsSubstStop, fold}
use Rattle.ir_trees.specs.Syntax.Words.{args_forest}
use Rattle.std.proofs.Common.{refl}
use Rattle.ir_trees.specs.declared.ir.kinds.Ty.{Ty}
use Rattle.ir_trees.specs.Syntax.Trees.{Tree}
use Rattle.candidate_rounds.specs.Calls.PureFolder.{listed_answers}
use Rattle.rounds_judge.specs.Aliases.Listed.{listed}
use Rattle.candidate_rounds.specs.Evaluators.Known.{AreTypes, Each, Evaluator, listing, listing_of}
use Rattle.candidate_rounds.proofs.Evaluators.Between.{parts}
use Rattle.candidate_rounds.proofs.Evaluators.Interface.{made-goes, made-same}
use Rattle.candidate_rounds.proofs.Resolution.Listing.{listed-are}
use Rattle.candidate_rounds.proofs.Snapshots.ResolvedValues.{evaluator-grown}
use Rattle.candidate_rounds.proofs.rounds.Rounds.with_listed_types.Goals as goal

pub invariant_of-self : goal.invariant_of-self
invariant_of-self c = evaluator-grown _ _ _ _ _ _ _ c.fold_answers.ensures.grows c.self.invariant

pub returns-clause-goes : goal.returns-clause-goes
returns-clause-goes c = made-goes c.self.view_is c.fold_answers.ensures.grows c.fold_answers.ensures.rest

pub returns-clause-state : goal.returns-clause-state
returns-clause-state c = made-same c.self.view_is c.fold_answers.ensures.grows c.fold_answers.ensures.rest c.self.invariant

types-fit : (ts : List Tree) (ps qs : List (Ty × Ty)) → qs ≡ ps → Each (AreTypes ts) ps → Each (AreTypes ts) qs
types-fit ts ps qs e a = subst (Each (AreTypes ts)) (sym e) a

pub fold_answers-requires-clause-of : goal.fold_answers-requires-clause-of
fold_answers-requires-clause-of c = types-fit c.self.inside.cx.trees c.self.inside.normal.items c.as_slice-normal.result.now c.as_slice-normal.ensures.value (parts c.self.invariant).given.types

-- what is said of the slice's pairs, said of the listing
as-listed : (P : Answers → Type 0) (ts : List Tree) (ps qs : List (Ty × Ty)) → qs ≡ ps → Each (AreTypes ts) ps → P (listed_answers ts qs) → P (λ d u. listed (listing_of ts ps) u)
as-listed P ts ps qs e a p = subst P (listed-are ts ps a) (subst (λ xs. P (listed_answers ts xs)) e p)

pub returns-clause-tree : goal.returns-clause-tree
returns-clause-tree c =
    let i = c.self.inside in
    let x = c.fold_answers.new.make.trees in
    let P : Answers → Type 0 = λ f. IfOk c.fold_answers.result (λ y. args_forest x y ≡ fold f 0 (args_forest i.cx.trees c.args.list)) in
    let Q : Evaluator → Type 0 = λ e. IfOk c.fold_answers.result (λ y. args_forest x y ≡ fold (λ d u. listed (listing e) u) 0 (args_forest e.context.trees c.args.list)) in
    subst Q c.self.view_is (as-listed P i.cx.trees i.normal.items c.as_slice-normal.result.now c.as_slice-normal.ensures.value (parts c.self.invariant).given.types (c.fold_answers.ensures.list refl))

pub returns-clause-cause : goal.returns-clause-cause
returns-clause-cause c =
    let i = c.self.inside in
    let n = length c.fold_answers.new.make.trees in
    let P : Answers → Type 0 = λ f. IfErr c.fold_answers.result (λ s. IsSubstStop n (fold f 0 (args_forest i.cx.trees c.args.list)) s) in
    let Q : Evaluator → Type 0 = λ e. IfErr c.fold_answers.result (λ s. IsSubstStop n (fold (λ d u. listed (listing e) u) 0 (args_forest e.context.trees c.args.list)) s) in
    subst Q c.self.view_is (as-listed P i.cx.trees i.normal.items c.as_slice-normal.result.now c.as_slice-normal.ensures.value (parts c.self.invariant).given.types c.fold_answers.ensures.cause)
