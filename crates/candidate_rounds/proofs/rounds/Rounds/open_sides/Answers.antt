use Rattle.std.proofs.Common.{length, inl, inr, refl, subst, ◌∙◌}
use Rattle.std.proofs.lemmas.Result.{err_from_is_err_and}
use Rattle.ir_trees.specs.Instantiation.Folding.{IsSubstStop}
use Rattle.ir_trees.specs.Syntax.Trees.{Forest}
use Rattle.candidate_eval.proofs.Dynamic.Objects.{env-kept}
use Rattle.rounds_judge.specs.Aliases.OpenParts.{all_to_be, opened}
use Rattle.candidate_rounds.specs.Evaluators.Stopping.{IsPairsStop, of_opening, of_pairs, of_side}
use Rattle.candidate_rounds.proofs.Equations.OpenSides.{list-kept, opened-kept}
use Rattle.candidate_rounds.proofs.Evaluators.Going.{goes-trans}
use Rattle.candidate_rounds.proofs.rounds.Rounds.open_sides.Goals as goal

pub returns-in_err-by-clause-cause : goal.returns-in_err-by-clause-cause
returns-in_err-by-clause-cause c =
    let p = err_from_is_err_and c.from_residual.result c.from_residual.ensures.1 in
    rw (p.1, p.2) (of_opening c.in_err-by.ensures.cause)

pub opened-requires-clause-list : goal.opened-requires-clause-list
opened-requires-clause-list c = (list-kept c.args.self.now.context c.opening.new.self.context c.args.a c.opening.ensures.goes.0 c.requires.left).0

pub returns-in_err-left-clause-goes : goal.returns-in_err-left-clause-goes
returns-in_err-left-clause-goes c = goes-trans c.args.self.now c.opening.new.self c.opened.new.self c.opening.ensures.goes c.opened.ensures.goes

pub returns-in_err-left-clause-cause : goal.returns-in_err-left-clause-cause
returns-in_err-left-clause-cause c =
    let p = err_from_is_err_and c.from_residual-in_err-left.result c.from_residual-in_err-left.ensures.1 in
    let a = (list-kept c.args.self.now.context c.opening.new.self.context c.args.a c.opening.ensures.goes.0 c.requires.left).1 in
    let o = c.in_ok-by.ensures.is in
    rw (p.1, p.2) (of_side _ (inl refl) (subst (λ (f : Forest). IsSubstStop (length c.opened.new.self.context.trees) f c.in_err-left.field-0.0) (λ i. opened (o i) (a i)) c.in_err-left.ensures.cause))

pub opened-requires-2-clause-list : goal.opened-requires-2-clause-list
opened-requires-2-clause-list c =
    let one = list-kept c.args.self.now.context c.opening.new.self.context c.args.b c.opening.ensures.goes.0 c.requires.right in
    (list-kept c.opening.new.self.context c.opened.new.self.context c.args.b c.opened.ensures.goes.0 one.0).0

pub opened-requires-2-clause-by : goal.opened-requires-2-clause-by
opened-requires-2-clause-by c = (opened-kept c.opening.new.self.context c.opened.new.self.context c.in_ok-by.by c.opened.ensures.goes.0 c.in_ok-by.ensures.paired).0

pub returns-in_err-right-clause-goes : goal.returns-in_err-right-clause-goes
returns-in_err-right-clause-goes c =
    goes-trans c.args.self.now c.opened.new.self c.opened-2.new.self (goes-trans c.args.self.now c.opening.new.self c.opened.new.self c.opening.ensures.goes c.opened.ensures.goes) c.opened-2.ensures.goes

pub returns-in_err-right-clause-cause : goal.returns-in_err-right-clause-cause
returns-in_err-right-clause-cause c =
    let p = err_from_is_err_and c.from_residual-in_err-right.result c.from_residual-in_err-right.ensures.1 in
    let goes = goes-trans c.args.self.now c.opening.new.self c.opened.new.self c.opening.ensures.goes c.opened.ensures.goes in
    let b = (list-kept c.args.self.now.context c.opened.new.self.context c.args.b goes.0 c.requires.right).1 in
    let o = (opened-kept c.opening.new.self.context c.opened.new.self.context c.in_ok-by.by c.opened.ensures.goes.0 c.in_ok-by.ensures.paired).1 ∙ c.in_ok-by.ensures.is in
    rw (p.1, p.2) (of_side _ (inr refl) (subst (λ (f : Forest). IsSubstStop (length c.opened-2.new.self.context.trees) f c.in_err-right.field-0.0) (λ i. opened (o i) (b i)) c.in_err-right.ensures.cause))

pub goals_of-requires-clause-env : goal.goals_of-requires-clause-env
goals_of-requires-clause-env c =
    let goes = goes-trans c.args.self.now c.opened.new.self c.opened-2.new.self (goes-trans c.args.self.now c.opening.new.self c.opened.new.self c.opening.ensures.goes c.opened.ensures.goes) c.opened-2.ensures.goes in
    (env-kept c.args.self.now.context c.opened-2.new.self.context c.args.env goes.0 c.requires.env).0

pub goals_of-requires-clause-by : goal.goals_of-requires-clause-by
goals_of-requires-clause-by c =
    let goes = goes-trans c.opening.new.self c.opened.new.self c.opened-2.new.self c.opened.ensures.goes c.opened-2.ensures.goes in
    (opened-kept c.opening.new.self.context c.opened-2.new.self.context c.in_ok-by.by goes.0 c.in_ok-by.ensures.paired).0

pub returns-in_err-goals-clause-goes : goal.returns-in_err-goals-clause-goes
returns-in_err-goals-clause-goes c =
    let goes = goes-trans c.args.self.now c.opened.new.self c.opened-2.new.self (goes-trans c.args.self.now c.opening.new.self c.opened.new.self c.opening.ensures.goes c.opened.ensures.goes) c.opened-2.ensures.goes in
    goes-trans c.args.self.now c.opened-2.new.self c.goals_of.new.self goes c.goals_of.ensures.goes

pub returns-in_err-goals-clause-cause : goal.returns-in_err-goals-clause-cause
returns-in_err-goals-clause-cause c =
    let p = err_from_is_err_and c.from_residual-in_err-goals.result c.from_residual-in_err-goals.ensures.1 in
    let goes = goes-trans c.opening.new.self c.opened.new.self c.opened-2.new.self c.opened.ensures.goes c.opened-2.ensures.goes in
    let o = (opened-kept c.opening.new.self.context c.opened-2.new.self.context c.in_ok-by.by goes.0 c.in_ok-by.ensures.paired).1 ∙ c.in_ok-by.ensures.is in
    rw (p.1, p.2) (of_pairs (subst (λ ps. IsPairsStop c.goals_of.new.self.context.trees ps c.in_err-goals.field-0.0) o c.in_err-goals.ensures.cause))

pub returns-clause-goes : goal.returns-clause-goes
returns-clause-goes c =
    let goes = goes-trans c.args.self.now c.opened.new.self c.opened-2.new.self (goes-trans c.args.self.now c.opening.new.self c.opened.new.self c.opening.ensures.goes c.opened.ensures.goes) c.opened-2.ensures.goes in
    goes-trans c.args.self.now c.opened-2.new.self c.goals_of.new.self goes c.goals_of.ensures.goes

pub returns-clause-fit : goal.returns-clause-fit
returns-clause-fit c =
    let goes = goes-trans c.opened.new.self c.opened-2.new.self c.goals_of.new.self c.opened-2.ensures.goes c.goals_of.ensures.goes in
    record {
      left = (list-kept c.opened.new.self.context c.goals_of.new.self.context c.in_ok-left.left goes.0 c.in_ok-left.ensures.sort).0;
      right = (list-kept c.opened-2.new.self.context c.goals_of.new.self.context c.in_ok-right.right c.goals_of.ensures.goes.0 c.in_ok-right.ensures.sort).0;
      goals = c.in_ok-goals.ensures.sort;
    }

pub returns-clause-are : goal.returns-clause-are
returns-clause-are c =
    let old = c.args.self.now in
    let one = c.opening.new.self in
    let two = c.opened.new.self in
    let three = c.opened-2.new.self in
    let last = c.goals_of.new.self in
    let to_two = goes-trans old one two c.opening.ensures.goes c.opened.ensures.goes in
    let to_three = goes-trans old two three to_two c.opened-2.ensures.goes in
    let from_two = goes-trans two three last c.opened-2.ensures.goes c.goals_of.ensures.goes in
    let from_one = goes-trans one two three c.opened.ensures.goes c.opened-2.ensures.goes in
    let is = c.in_ok-by.ensures.is in
    let a = (list-kept old.context one.context c.args.a c.opening.ensures.goes.0 c.requires.left).1 in
    let b = (list-kept old.context two.context c.args.b to_two.0 c.requires.right).1 in
    let o_two = (opened-kept one.context two.context c.in_ok-by.by c.opened.ensures.goes.0 c.in_ok-by.ensures.paired).1 ∙ is in
    let o_three = (opened-kept one.context three.context c.in_ok-by.by from_one.0 c.in_ok-by.ensures.paired).1 ∙ is in
    let e = (env-kept old.context three.context c.args.env to_three.0 c.requires.env).1 in
    record {
      left = (list-kept two.context last.context c.in_ok-left.left from_two.0 c.in_ok-left.ensures.sort).1 ∙ (c.in_ok-left.ensures.tree ∙ (λ i. opened (is i) (a i)));
      right = (list-kept three.context last.context c.in_ok-right.right c.goals_of.ensures.goes.0 c.in_ok-right.ensures.sort).1 ∙ (c.in_ok-right.ensures.tree ∙ (λ i. opened (o_two i) (b i)));
      goals = c.in_ok-goals.ensures.are ∙ (λ i. all_to_be (e i) (o_three i));
    }
