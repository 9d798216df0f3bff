use Rattle.std.proofs.Common.{[], refl, ◌∙◌, ◌∷◌}
use Rattle.ir_trees.specs.declared.ir.kinds.PredicatePolarity.TheVariants.{Positive}
use Rattle.ir_trees.specs.declared.ir.kinds.TraitPredicate.{TraitPredicate}
use Rattle.ir_trees.specs.Syntax.Words.{ty_tree}
use Rattle.ir_trees.proofs.Growth.Kept.{args-kept, grows-trans}
use Rattle.candidate_assembly.proofs.Calls.Causes.{so-err, so-ok}
use Rattle.candidate_assembly.proofs.Rules.MeetingClauses.{fits-alone, made-to-meet, one-type}
use Rattle.candidate_assembly.proofs.Goals.TraitClauses.{fact-fits, fact-takes}
use Rattle.std.proofs.lemmas.Result.{err_from_is_err_and}
use Rattle.candidate_eval.proofs.Interface.Unmade.{binder-unmade, clause-unmade, members-unmade}
use Rattle.candidate_eval.specs.Dynamic.ObjectRequirements.{trait_fact}
use Rattle.candidate_assembly.proofs.trait_goals.meeting.meets_trait.Goals as goal

pub mk_clause-requires-clause-fits : goal.mk_clause-requires-clause-fits
mk_clause-requires-clause-fits g c =
    let p : TraitPredicate = record { trait_ref = record { def_id = c.args.trait_id; args = c.in_ok-args.args }; polarity = Positive } in
    fact-fits (g.M.Build.context c.mk_vars.new.self).trees c.in_ok-vars.vars p c.in_ok-vars.ensures.made.sort (args-kept _ _ c.in_ok-args.args c.mk_vars.ensures.made.kept c.in_ok-args.ensures.made.sort).0

pub mk_clause-requires-clause-takes : goal.mk_clause-requires-clause-takes
mk_clause-requires-clause-takes g c = λ strict.
    let p : TraitPredicate = record { trait_ref = record { def_id = c.args.trait_id; args = c.in_ok-args.args }; polarity = Positive } in
    let old = g.M.Build.context c.args.make.now in
    let mid = g.M.Build.context c.mk_vars.new.self in
    let there = args-kept _ mid c.in_ok-args.args c.mk_vars.ensures.made.kept c.in_ok-args.ensures.made.sort in
    fact-takes mid c.in_ok-vars.vars p c.in_ok-vars.ensures.made.sort there.0
    (fits-alone old mid p.trait_ref c.args.ty (grows-trans old _ mid c.mk_args.ensures.made.kept c.mk_vars.ensures.made.kept) c.requires.ty c.requires.no_parameters
    (there.1 ∙ (c.in_ok-args.ensures.made.tree ∙ one-type old.trees c.args.ty c.requires.ty)))

pub returns-clause-tree : goal.returns-clause-tree
returns-clause-tree g c =
    let p : TraitPredicate = record { trait_ref = record { def_id = c.args.trait_id; args = c.in_ok-args.args }; polarity = Positive } in
    let old = g.M.Build.context c.args.make.now in
    let mid = g.M.Build.context c.mk_vars.new.self in
    let there = args-kept _ mid c.in_ok-args.args c.mk_vars.ensures.made.kept c.in_ok-args.ensures.made.sort in
    let is = made-to-meet mid c.in_ok-vars.vars p (ty_tree old.trees c.args.ty) c.in_ok-vars.ensures.made.tree c.in_ok-vars.ensures.made.sort there.0 refl
    (there.1 ∙ (c.in_ok-args.ensures.made.tree ∙ one-type old.trees c.args.ty c.requires.ty)) in
    so-ok c.mk_clause.result (λ x made. made ∙ is) c.mk_clause.ensures.made.tree

pub returns-in_err-vars-clause-grows : goal.returns-in_err-vars-clause-grows
returns-in_err-vars-clause-grows g c = grows-trans _ _ _ c.mk_args.ensures.made.kept c.mk_vars.ensures.made.kept

pub returns-clause-grows : goal.returns-clause-grows
returns-clause-grows g c = grows-trans _ _ _ (grows-trans _ _ _ c.mk_args.ensures.made.kept c.mk_vars.ensures.made.kept) c.mk_clause.ensures.made.kept

pub returns-in_err-args-clause-cause : goal.returns-in_err-args-clause-cause
returns-in_err-args-clause-cause g c =
    let p = err_from_is_err_and c.from_residual.result c.from_residual.ensures.1 in
    rw (p.1, p.2) (members-unmade (c.args.ty.0 ∷ []) c.mk_args.ensures.made.kept c.in_err-args.ensures.made.cause)

pub returns-in_err-vars-clause-cause : goal.returns-in_err-vars-clause-cause
returns-in_err-vars-clause-cause g c =
    let p = err_from_is_err_and c.from_residual-in_err-vars.result c.from_residual-in_err-vars.ensures.1 in
    rw (p.1, p.2) (binder-unmade c.mk_vars.ensures.made.kept c.in_err-vars.ensures.made.cause)

pub returns-clause-cause : goal.returns-clause-cause
returns-clause-cause g c = so-err c.mk_clause.result (λ s x. clause-unmade (trait_fact c.in_ok-vars.vars (record { trait_ref = record { def_id = c.args.trait_id; args = c.in_ok-args.args }; polarity = Positive })) c.mk_clause.ensures.made.kept x) c.mk_clause.ensures.made.cause
