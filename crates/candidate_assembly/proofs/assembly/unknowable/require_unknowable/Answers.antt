use Rattle.std.proofs.Common.{Err, Ok, ap, ◌∙◌}
use Rattle.ir_trees.specs.Declarations.References.{reference_of}
use Rattle.ir_trees.specs.Syntax.Words.{env_forest}
use Rattle.candidate_assembly.proofs.Lists.Unknowing.{conflict-reaches, failure-refuses, known-refuses, knowing-stops, stop-stops}
use Rattle.candidate_assembly.proofs.assembly.unknowable.require_unknowable.Goals as goal

pub returns-in-Ok-Err-clause-ok : goal.returns-in-Ok-Err-clause-ok
returns-in-Ok-Err-clause-ok g c =
    let E = g.E.EvalCtxt in
    let first = c.args.ecx.now in
    let ts = (g.E.Build.context first).trees in
    conflict-reaches (E.judge (E.fixed first)) (env_forest ts c.args.env) (E.state first) (E.state c.is_knowable.new.ecx) (reference_of ts c.args.trait_ref) c.requires.free c.is_knowable.result c.in-Ok-Err.field-0-0 (c.in-Ok-Err.is ∙ ap Ok c.in-Ok-Err.field-0-is) c.is_knowable.ensures.answer

pub returns-in-Ok-Ok-clause-refused : goal.returns-in-Ok-Ok-clause-refused
returns-in-Ok-Ok-clause-refused g c = λ n.
    let E = g.E.EvalCtxt in
    let first = c.args.ecx.now in
    let ts = (g.E.Build.context first).trees in
    known-refuses (E.judge (E.fixed first)) (env_forest ts c.args.env) (E.state first) (E.state c.is_knowable.new.ecx) (reference_of ts c.args.trait_ref) c.requires.free c.is_knowable.result (c.in-Ok-Ok.is ∙ ap Ok c.in-Ok-Ok.field-0-is) c.is_knowable.ensures.answer

pub returns-in-Err-Normalize-clause-refused : goal.returns-in-Err-Normalize-clause-refused
returns-in-Err-Normalize-clause-refused g c = λ n.
    let E = g.E.EvalCtxt in
    let first = c.args.ecx.now in
    let ts = (g.E.Build.context first).trees in
    failure-refuses (E.judge (E.fixed first)) (env_forest ts c.args.env) (E.state first) (E.state c.is_knowable.new.ecx) (reference_of ts c.args.trait_ref) c.requires.free c.is_knowable.result (c.in-Err-Normalize.is ∙ ap Err c.in-Err-Normalize.field-0-is) c.is_knowable.ensures.answer

pub returns-in-Err-Stop-clause-stopped : goal.returns-in-Err-Stop-clause-stopped
returns-in-Err-Stop-clause-stopped g c =
    let E = g.E.EvalCtxt in
    let first = c.args.ecx.now in
    let ts = (g.E.Build.context first).trees in
    stop-stops (E.judge (E.fixed first)) (env_forest ts c.args.env) (E.state first) (E.state c.is_knowable.new.ecx) (reference_of ts c.args.trait_ref) c.requires.free c.is_knowable.result c.in-Err-Stop.stop (c.in-Err-Stop.is ∙ ap Err c.in-Err-Stop.field-0-is) c.is_knowable.ensures.answer

pub returns-in-Err-Stop-clause-cause : goal.returns-in-Err-Stop-clause-cause
returns-in-Err-Stop-clause-cause g c =
    let E = g.E.EvalCtxt in
    knowing-stops E.fixed g.E.Build.context E.state E.stops c.args.ecx.now c.is_knowable.new.ecx c.in-Err-Stop.stop (c.is_knowable.ensures.cause c.in-Err-Stop.stop (c.in-Err-Stop.is ∙ ap Err c.in-Err-Stop.field-0-is))
