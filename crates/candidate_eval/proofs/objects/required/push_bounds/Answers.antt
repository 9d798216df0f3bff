use Rattle.std.proofs.Common.{◌≡◌, List, subst}
use Rattle.std.specs.Prelude.{map, IfOk}
use Rattle.ir_trees.specs.Syntax.Trees.{Tree}
use Rattle.ir_trees.specs.Validity.WellFormed.{IsWellFormedTable}
use Rattle.ir_trees.specs.Syntax.Words.{clause_tree}
use Rattle.ir_trees.proofs.Growth.Kept.{args-kept, grows-trans}
use Rattle.candidate_eval.proofs.Dynamic.Requiring.{both_bounds}
use Rattle.std.proofs.lemmas.Result.{IfErr-weaker}
use Rattle.candidate_eval.proofs.Interface.Unmade.{unmade-before}
use Rattle.candidate_eval.proofs.objects.required.push_bounds.Goals as goal

pub push_declared-requires-2-clause-args : goal.push_declared-requires-2-clause-args
push_declared-requires-2-clause-args g c = (args-kept _ _ c.args.args c.in_ok-push_declared.ensures.grows c.requires.args).0

pub returns-clause-trees : goal.returns-clause-trees
returns-clause-trees g c =
    let start = g.M.Build.context c.args.make.now in
    let table = subst IsWellFormedTable c.cx.ensures c.recall_well_formed_table.ensures in
    subst (λ (ts : List Tree). IfOk c.push_declared-2.result (λ _. map (clause_tree (g.M.Build.context c.push_declared-2.new.make).trees) c.push_declared-2.new.list.items ≡ ts))
    (both_bounds start (g.M.Build.context c.push_declared.new.make) c.args.item c.args.args c.args.list.now.items c.push_declared.new.list.items table c.requires.required c.requires.args c.in_ok-push_declared.ensures.grows
    c.in_ok-push_declared.ensures.trees) c.push_declared-2.ensures.trees

pub returns-clause-grows : goal.returns-clause-grows
returns-clause-grows g c =
    grows-trans _ _ _ c.push_declared.ensures.grows c.push_declared-2.ensures.grows

pub returns-clause-cause : goal.returns-clause-cause
returns-clause-cause g c = IfErr-weaker c.push_declared-2.result _ _ (λ s x. unmade-before c.push_declared.ensures.grows x) c.push_declared-2.ensures.cause
