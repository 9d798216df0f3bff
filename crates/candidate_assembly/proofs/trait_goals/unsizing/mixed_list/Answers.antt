use Rattle.std.proofs.Common.{◌≡◌, ◌≤◌, ◌++◌, [], ◌∷◌, Bool, length, get_or, sym, ap, ◌∙◌, arith}
use Rattle.std.specs.Prelude.{if◌then◌else◌}
use Rattle.ir_trees.specs.declared.ir.kinds.GenericArg.{GenericArg}
use Rattle.ir_trees.specs.declared.ir.kinds.GenericArg.TheVariants as G
use Rattle.ir_trees.specs.Hierarchy.Elaboration.{number_listed}
use Rattle.candidate_assembly.proofs.Unsizing.Mixing.{all-mixed, one-mixed}
use Rattle.candidate_assembly.proofs.trait_goals.unsizing.mixed_list.Goals as goal
use Rattle.candidate_assembly.proofs.trait_goals.unsizing.mixed_list.Goals.{then-is_listed, else-is_listed}

pub loop-i-preserved : goal.loop-i-preserved
loop-i-preserved c =
    let cs = c.args.changed.now in
    let xs = c.args.first.now in
    let ys = c.args.second.now in
    let i = c.loop-i.i in
    let d : GenericArg = G.Ty (record { 0 = 0 }) in
    let arg : c.if-is_listed.arg ≡ (if number_listed cs i then get_or ys i d else get_or xs i d)
    = elim c.if-is_listed.branch [
      | then-is_listed w ↦ w.arg-is ∙ ap (λ (b : Bool). if b then get_or ys i d else get_or xs i d) (sym (sym c.is_listed.ensures ∙ w.if-is_listed.true))
      | else-is_listed w ↦ w.arg-is ∙ ap (λ (b : Bool). if b then get_or ys i d else get_or xs i d) (sym (sym c.is_listed.ensures ∙ w.if-is_listed.false))
    ] in
    one-mixed cs xs ys i c.loop-i.list.items c.push.new.self.items d c.loop-i.invariant c.loop-i-test.true c.requires (c.in_ok-push.ensures.items ∙ ap (λ (z : GenericArg). c.loop-i.list.items ++ z ∷ []) arg)

pub returns : goal.returns
returns c =
    let xs = c.args.first.now in
    let past : length xs ≤ c.loop-i.i = omega (arith, c.loop-i-test.false) in
    all-mixed c.args.changed.now xs c.args.second.now c.loop-i.i c.loop-i.list.items c.loop-i.invariant past c.requires
