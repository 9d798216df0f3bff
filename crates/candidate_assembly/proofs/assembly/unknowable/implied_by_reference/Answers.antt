use Rattle.std.proofs.Common.{[], ◌∷◌, List, map, subst, ◌∙◌}
use Rattle.std.proofs.lemmas.Result.{err_from_is_err_and}
use Rattle.ir_trees.specs.declared.ir.kinds.PredicatePolarity.TheVariants.{Positive}
use Rattle.ir_trees.specs.declared.ir.kinds.TraitPredicate.{TraitPredicate}
use Rattle.ir_trees.specs.Hierarchy.Elaboration.{IsElaboration}
use Rattle.ir_trees.specs.Declarations.References.{reference_of}
use Rattle.ir_trees.specs.Syntax.Trees.{Tree}
use Rattle.ir_trees.specs.Validity.WellFormed.{IsWellFormedTable}
use Rattle.ir_trees.specs.Syntax.Words.{args_forest, clause_tree}
use Rattle.ir_trees.specs.Declarations.Worlds.{kinds_of}
use Rattle.ir_trees.proofs.Growth.Kept.{args-kept, grows-trans}
use Rattle.candidate_eval.proofs.Interface.Probing.{made, then}
use Rattle.candidate_assembly.specs.Laws.BuiltinLaws.{takes_declared}
use Rattle.candidate_assembly.proofs.Objects.SuperLaws.{elaboration_back}
use Rattle.candidate_assembly.specs.Rules.Unknowable.{positive_clause}
use Rattle.candidate_assembly.proofs.Objects.Elaborated.{clauses-free, elaborated-under}
use Rattle.candidate_assembly.proofs.Goals.TraitClauses.{fact-fits, fact-takes, fit-kept}
use Rattle.candidate_assembly.proofs.Lists.Unknowing.{positive-made}
use Rattle.candidate_eval.specs.Interface.Unmade.IsUnmade.{of_elaboration}
use Rattle.candidate_eval.proofs.Interface.Unmade.{binder-unmade, unmade-before}
use Rattle.candidate_assembly.proofs.assembly.unknowable.implied_by_reference.Goals as goal

pub trait_clause-requires-clause-fits : goal.trait_clause-requires-clause-fits
trait_clause-requires-clause-fits g c =
    let p : TraitPredicate = record { trait_ref = c.args.trait_ref; polarity = Positive } in
    let old = g.E.Build.context c.args.ecx.now in
    let mid = g.E.Build.context c.mk_vars.new.self in
    fact-fits mid.trees c.in_ok-vars.vars p c.in_ok-vars.ensures.made.sort (args-kept old mid c.args.trait_ref.args c.mk_vars.ensures.made.kept c.requires.args).0

pub trait_clause-requires-clause-takes : goal.trait_clause-requires-clause-takes
trait_clause-requires-clause-takes g c =
    let p : TraitPredicate = record { trait_ref = c.args.trait_ref; polarity = Positive } in
    let old = g.E.Build.context c.args.ecx.now in
    let mid = g.E.Build.context c.mk_vars.new.self in
    let grows = c.mk_vars.ensures.made.kept in
    fact-takes mid c.in_ok-vars.vars p c.in_ok-vars.ensures.made.sort (args-kept old mid c.args.trait_ref.args grows c.requires.args).0 (fit-kept old mid c.args.trait_ref grows c.requires.args c.requires.fit)

pub returns-in_err-clause-clause-kept : goal.returns-in_err-clause-clause-kept
returns-in_err-clause-clause-kept g c =
    let r = g.met.E.EvalCtxt.by_rest c.args.ecx.now c.mk_vars.new.self c.mk_vars.ensures.rest in
    then (made r c.mk_vars.ensures.made.kept) c.trait_clause.ensures.kept

pub returns-in_err-clause-clause-same : goal.returns-in_err-clause-clause-same
returns-in_err-clause-clause-same g c =
    let r = g.met.E.EvalCtxt.by_rest c.args.ecx.now c.mk_vars.new.self c.mk_vars.ensures.rest in
    c.trait_clause.ensures.same ∙ r.1

pub returns-in_err-implied-clause-kept : goal.returns-in_err-implied-clause-kept
returns-in_err-implied-clause-kept g c =
    let r = g.met.E.EvalCtxt.by_rest c.args.ecx.now c.mk_vars.new.self c.mk_vars.ensures.rest in
    let q = g.met.E.EvalCtxt.by_rest c.trait_clause.new.ecx c.elaborate.new.make c.elaborate.ensures.rest in
    then (then (made r c.mk_vars.ensures.made.kept) c.trait_clause.ensures.kept) (made q c.elaborate.ensures.grows)

pub returns-in_err-implied-clause-same : goal.returns-in_err-implied-clause-same
returns-in_err-implied-clause-same g c =
    let r = g.met.E.EvalCtxt.by_rest c.args.ecx.now c.mk_vars.new.self c.mk_vars.ensures.rest in
    let q = g.met.E.EvalCtxt.by_rest c.trait_clause.new.ecx c.elaborate.new.make c.elaborate.ensures.rest in
    q.1 ∙ (c.trait_clause.ensures.same ∙ r.1)

pub returns-in_err-implied-clause-cause : goal.returns-in_err-implied-clause-cause
returns-in_err-implied-clause-cause g c =
    let p = err_from_is_err_and c.from_residual-in_err-implied.result c.from_residual-in_err-implied.ensures.1 in
    rw (p.1, p.2) (of_elaboration (g.E.Build.context c.trait_clause.new.ecx) (c.in_ok-clause.clause ∷ []) (grows-trans _ _ _ c.mk_vars.ensures.made.kept c.trait_clause.ensures.kept.grows) c.elaborate.ensures.grows c.in_err-implied.ensures.cause)

pub returns-clause-kept : goal.returns-clause-kept
returns-clause-kept g c =
    let r = g.met.E.EvalCtxt.by_rest c.args.ecx.now c.mk_vars.new.self c.mk_vars.ensures.rest in
    let q = g.met.E.EvalCtxt.by_rest c.trait_clause.new.ecx c.elaborate.new.make c.elaborate.ensures.rest in
    then (then (made r c.mk_vars.ensures.made.kept) c.trait_clause.ensures.kept) (made q c.elaborate.ensures.grows)

pub returns-clause-same : goal.returns-clause-same
returns-clause-same g c =
    let r = g.met.E.EvalCtxt.by_rest c.args.ecx.now c.mk_vars.new.self c.mk_vars.ensures.rest in
    let q = g.met.E.EvalCtxt.by_rest c.trait_clause.new.ecx c.elaborate.new.make c.elaborate.ensures.rest in
    q.1 ∙ (c.trait_clause.ensures.same ∙ r.1)

pub returns-clause-list : goal.returns-clause-list
returns-clause-list g c =
    let old = g.E.Build.context c.args.ecx.now in
    let vars = g.E.Build.context c.mk_vars.new.self in
    let mid = g.E.Build.context c.trait_clause.new.ecx in
    let r = g.met.E.EvalCtxt.by_rest c.args.ecx.now c.mk_vars.new.self c.mk_vars.ensures.rest in
    let kept = then (made r c.mk_vars.ensures.made.kept) c.trait_clause.ensures.kept in
    let is = positive-made old vars c.in_ok-vars.vars c.args.trait_ref (clause_tree mid.trees c.in_ok-clause.clause) c.mk_vars.ensures.made.kept c.requires.args c.in_ok-vars.ensures.made.tree c.in_ok-vars.ensures.made.sort
    c.in_ok-clause.ensures.tree in
    let start : List Tree = positive_clause (reference_of old.trees c.args.trait_ref) ∷ [] in
    let all = map (clause_tree (g.E.Build.context c.elaborate.new.make).trees) c.in_ok-implied.implied.items in
    let e : IsElaboration mid start all = subst (λ (t : Tree). IsElaboration mid (t ∷ []) all) is c.in_ok-implied.ensures.list in
    (elaboration_back old mid c.requires.table kept.grows start all (takes_declared old c.requires.table c.args.trait_ref.def_id.0 (kinds_of (args_forest old.trees c.args.trait_ref.args)) c.requires.fit, tt) e).0

pub returns-clause-free : goal.returns-clause-free
returns-clause-free g c =
    let old = g.E.Build.context c.args.ecx.now in
    let vars = g.E.Build.context c.mk_vars.new.self in
    let mid = g.E.Build.context c.trait_clause.new.ecx in
    let new = g.E.Build.context c.elaborate.new.make in
    let is = positive-made old vars c.in_ok-vars.vars c.args.trait_ref (clause_tree mid.trees c.in_ok-clause.clause) c.mk_vars.ensures.made.kept c.requires.args c.in_ok-vars.ensures.made.tree c.in_ok-vars.ensures.made.sort
    c.in_ok-clause.ensures.tree in
    let start : List Tree = positive_clause (reference_of old.trees c.args.trait_ref) ∷ [] in
    let all = map (clause_tree new.trees) c.in_ok-implied.implied.items in
    let e : IsElaboration mid start all = subst (λ (t : Tree). IsElaboration mid (t ∷ []) all) is c.in_ok-implied.ensures.list in
    let table : IsWellFormedTable new = subst IsWellFormedTable c.cx.ensures c.recall_well_formed_table.ensures in
    clauses-free new table c.in_ok-implied.implied.items c.in_ok-implied.ensures.sort (elaborated-under mid start all (c.requires.free, tt) e)

pub returns-in_err-vars-clause-cause : goal.returns-in_err-vars-clause-cause
returns-in_err-vars-clause-cause g c =
    let p = err_from_is_err_and c.from_residual.result c.from_residual.ensures.1 in
    rw (p.1, p.2) (binder-unmade c.mk_vars.ensures.made.kept c.in_err-vars.ensures.made.cause)

pub returns-in_err-clause-clause-cause : goal.returns-in_err-clause-clause-cause
returns-in_err-clause-clause-cause g c =
    let p = err_from_is_err_and c.from_residual-in_err-clause.result c.from_residual-in_err-clause.ensures.1 in
    rw (p.1, p.2) (unmade-before c.mk_vars.ensures.made.kept c.in_err-clause.ensures.cause)
