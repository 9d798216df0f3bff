use Rattle.std.proofs.Common.{rules, ◌≡◌, ◌∷◌, subst}
use Rattle.ir_trees.specs.Validity.WellFormed.{TypesFit}
use Rattle.candidate_eval.proofs.Dynamic.Replacing.{first-type-fits, is-a-type}
use Rattle.candidate_eval.proofs.objects.replacing.next_term.Goals as goal

pub returns-in-Some-clause-kind : goal.returns-in-Some-clause-kind
returns-in-Some-clause-kind c =
    let ts = c.args.cx.now.trees in
    let terms : c.args.terms.now.now ≡ c.in-Some.term ∷ c.split_term.new.terms.now = search rules in
    (first-type-fits ts c.in-Some.term _ (subst (TypesFit ts) terms c.requires.terms), is-a-type ts c.args.arg c.args.object c.args.bounds.now c.requires.arg (search rules))
