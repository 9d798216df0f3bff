use Rattle.std.proofs.Common.{[], refl, ◌∙◌, ◌∷◌}
use Rattle.ir_trees.specs.declared.ir.kinds.PredicatePolarity.TheVariants.{Positive}
use Rattle.ir_trees.specs.declared.ir.kinds.TraitPredicate.{TraitPredicate}
use Rattle.ir_trees.specs.Syntax.Words.{ty_tree}
use Rattle.ir_trees.proofs.Growth.Kept.{args-kept, grows-trans}
use Rattle.candidate_assembly.proofs.Rules.CallSteps.{two-types}
use Rattle.candidate_assembly.proofs.Calls.Causes.{so-err, so-ok}
use Rattle.candidate_assembly.proofs.Goals.TraitClauses.{fact-fits, fact-takes}
use Rattle.candidate_assembly.proofs.Unsizing.UnsizingClauses.{fits-pair, made-to-hold}
use Rattle.candidate_assembly.proofs.trait_goals.unsizing.unsizes.Goals as goal
use Rattle.candidate_assembly.specs.Rules.BuiltinRules.{pair_of}
use Rattle.std.proofs.lemmas.Result.{err_from_is_err_and}
use Rattle.candidate_eval.proofs.Interface.Unmade.{binder-unmade, clause-unmade, members-unmade}
use Rattle.candidate_eval.specs.Dynamic.ObjectRequirements.{trait_fact}

pub mk_clause-requires-clause-fits : goal.mk_clause-requires-clause-fits
mk_clause-requires-clause-fits g c =
    let p : TraitPredicate = record { trait_ref = record { def_id = c.args.unsize; args = c.in_ok-args.args }; polarity = Positive } in
    let made = g.M.Build.context c.mk_args.new.self in
    let mid = g.M.Build.context c.mk_vars.new.self in
    fact-fits mid.trees c.in_ok-vars.vars p c.in_ok-vars.ensures.made.sort (args-kept made mid c.in_ok-args.args c.mk_vars.ensures.made.kept c.in_ok-args.ensures.made.sort).0

pub mk_clause-requires-clause-takes : goal.mk_clause-requires-clause-takes
mk_clause-requires-clause-takes g c = λ strict.
    let p : TraitPredicate = record { trait_ref = record { def_id = c.args.unsize; args = c.in_ok-args.args }; polarity = Positive } in
    let old = g.M.Build.context c.args.make.now in
    let made = g.M.Build.context c.mk_args.new.self in
    let mid = g.M.Build.context c.mk_vars.new.self in
    let there = args-kept made mid c.in_ok-args.args c.mk_vars.ensures.made.kept c.in_ok-args.ensures.made.sort in
    fact-takes mid c.in_ok-vars.vars p c.in_ok-vars.ensures.made.sort there.0
    (fits-pair old mid p.trait_ref c.args.from c.args.to (grows-trans old made mid c.mk_args.ensures.made.kept c.mk_vars.ensures.made.kept) c.requires.from c.requires.to c.requires.takes_a_type
    (there.1 ∙ (c.in_ok-args.ensures.made.tree ∙ two-types old.trees c.args.from c.args.to c.requires.from c.requires.to)))

pub returns-clause-tree : goal.returns-clause-tree
returns-clause-tree g c =
    let p : TraitPredicate = record { trait_ref = record { def_id = c.args.unsize; args = c.in_ok-args.args }; polarity = Positive } in
    let old = g.M.Build.context c.args.make.now in
    let made = g.M.Build.context c.mk_args.new.self in
    let mid = g.M.Build.context c.mk_vars.new.self in
    let there = args-kept made mid c.in_ok-args.args c.mk_vars.ensures.made.kept c.in_ok-args.ensures.made.sort in
    let is = made-to-hold mid c.in_ok-vars.vars p (pair_of (ty_tree old.trees c.args.from) (ty_tree old.trees c.args.to)) c.in_ok-vars.ensures.made.tree c.in_ok-vars.ensures.made.sort there.0 refl
    (there.1 ∙ (c.in_ok-args.ensures.made.tree ∙ two-types old.trees c.args.from c.args.to c.requires.from c.requires.to)) in
    so-ok c.mk_clause.result (λ x m. m ∙ is) c.mk_clause.ensures.made.tree

pub returns-in_err-vars-clause-grows : goal.returns-in_err-vars-clause-grows
returns-in_err-vars-clause-grows g c =
    grows-trans (g.M.Build.context c.args.make.now) (g.M.Build.context c.mk_args.new.self) (g.M.Build.context c.mk_vars.new.self) c.mk_args.ensures.made.kept c.mk_vars.ensures.made.kept

pub returns-clause-grows : goal.returns-clause-grows
returns-clause-grows g c =
    let old = g.M.Build.context c.args.make.now in
    let made = g.M.Build.context c.mk_args.new.self in
    let mid = g.M.Build.context c.mk_vars.new.self in
    let last = g.M.Build.context c.mk_clause.new.self in
    grows-trans old mid last (grows-trans old made mid c.mk_args.ensures.made.kept c.mk_vars.ensures.made.kept) c.mk_clause.ensures.made.kept

pub returns-in_err-args-clause-cause : goal.returns-in_err-args-clause-cause
returns-in_err-args-clause-cause g c =
    let p = err_from_is_err_and c.from_residual.result c.from_residual.ensures.1 in
    rw (p.1, p.2) (members-unmade (c.args.from.0 ∷ c.args.to.0 ∷ []) c.mk_args.ensures.made.kept c.in_err-args.ensures.made.cause)

pub returns-in_err-vars-clause-cause : goal.returns-in_err-vars-clause-cause
returns-in_err-vars-clause-cause g c =
    let p = err_from_is_err_and c.from_residual-in_err-vars.result c.from_residual-in_err-vars.ensures.1 in
    rw (p.1, p.2) (binder-unmade c.mk_vars.ensures.made.kept c.in_err-vars.ensures.made.cause)

pub returns-clause-cause : goal.returns-clause-cause
returns-clause-cause g c = so-err c.mk_clause.result (λ s x. clause-unmade (trait_fact c.in_ok-vars.vars (record { trait_ref = record { def_id = c.args.unsize; args = c.in_ok-args.args }; polarity = Positive })) c.mk_clause.ensures.made.kept x) c.mk_clause.ensures.made.cause
