use Rattle.std.proofs.Common.{List, [], ap, subst, sym, ◌∙◌}
use Rattle.ir_trees.specs.declared.ir.kinds.Ty.{Ty}
use Rattle.candidate_rounds.specs.Evaluators.Known.{IsGiven, listing_of}
use Rattle.assembly_text.proofs.Giving.{all-of, given-of}
use Rattle.assembly_text.proofs.solving.normal_forms.Goals as goal

pub returns-clause-given : goal.returns-clause-given
returns-clause-given c =
    let ts = c.args.cx.now.trees in
    let items = c.in_ok-from_slice.ensures.items ∙ c.as_slice.ensures.value in
    subst (λ (ps : List (Ty × Ty)). IsGiven ts ps []) (sym items) (given-of ts c.args.given.now.normal_forms.items c.requires.listed)

pub returns-clause-listed : goal.returns-clause-listed
returns-clause-listed c =
    let ts = c.args.cx.now.trees in
    let items = c.in_ok-from_slice.ensures.items ∙ c.as_slice.ensures.value in
    ap (listing_of ts) items ∙ all-of ts c.args.given.now.normal_forms.items c.requires.listed
