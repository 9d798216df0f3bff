use Rattle.std.proofs.Common.{◌≡◌, All, List, ℕ, suc, ◌+◌, ◌++◌, ◌∷◌, [], arith, take, sym, ap, subst, ◌∙◌}
use Rattle.std.proofs.Math.Seq.{take-suc}
use Rattle.std.proofs.lemmas.List.Elements.{All-get_or, All-nil, All-push}
use Rattle.ir_trees.specs.declared.ir.kinds.Ty.{Ty}
use Rattle.candidate_rounds.specs.Evaluators.Known.{listing_of}
use Rattle.rounds_judge.specs.Aliases.WellListed.{well_listed}
use Rattle.assembly_notation.specs.Given.{IsNormalForm}
use Rattle.assembly_text.specs.Solving.{IsListedForm}
use Rattle.assembly_text.proofs.ListedPairs.{listed-on, passed-over}
use Rattle.assembly_text.proofs.solving.which_may_be_listed.Goals as goal
use Rattle.assembly_text.proofs.solving.which_may_be_listed.Goals.{then-may_be_listed+in_ok-push, else-may_be_listed}

one-more : (n : ℕ) → n + 1 ≡ suc n
one-more n = omega arith

form-is : (c : goal.Joined-may_be_listed) → IsNormalForm c.args.cx.now.trees c.index.result.now
form-is c =
    let few = c.len-i-end.ensures in
    subst (IsNormalForm c.args.cx.now.trees) (sym c.index.ensures)
    (All-get_or (IsNormalForm c.args.cx.now.trees) c.args.given.now.normal_forms.items c.loop-i.i c.index.result.now (omega (arith, few, c.loop-i-test.true)) c.requires.normal_forms)

pub loop-i-preserved : goal.loop-i-preserved
loop-i-preserved c =
    let ts = c.args.cx.now.trees in
    let all = c.args.given.now.normal_forms.items in
    let p = c.index.result.now in
    let few = c.len-i-end.ensures in
    let next : take (c.loop-i.i + 1) all ≡ take c.loop-i.i all ++ p ∷ [] = ap (λ n. take n all) (one-more c.loop-i.i) ∙ take-suc all c.loop-i.i p (omega (arith, few, c.loop-i-test.true)) ∙ ap (λ (q : Ty × Ty). take c.loop-i.i all ++ q ∷ []) (sym c.index.ensures) in
    let so_far = c.loop-i.invariant in
    elim c.if-may_be_listed.branch [
      | then-may_be_listed+in_ok-push w ↦
          let may = sym c.may_be_listed.ensures ∙ w.if-may_be_listed.true in
          subst (λ v. All (IsListedForm ts) v.items × (listing_of ts v.items ≡ well_listed (listing_of ts (take (c.loop-i.i + 1) all)))) (sym w.list-is) (
            subst (λ (ps : List (Ty × Ty)). All (IsListedForm ts) ps) (sym w.in_ok-push.ensures.items) (All-push (IsListedForm ts) c.loop-i.list.items p so_far.0 (record { sort = (form-is c).sort; ty = (form-is c).ty; may_be = may })),
            ap (listing_of ts) w.in_ok-push.ensures.items ∙ (listed-on ts (take c.loop-i.i all) p c.loop-i.list.items so_far.1 may ∙ ap (λ xs. well_listed (listing_of ts xs)) (sym next)),
          )
      | else-may_be_listed w ↦
          let may_not = sym c.may_be_listed.ensures ∙ w.if-may_be_listed.false in
          subst (λ v. All (IsListedForm ts) v.items × (listing_of ts v.items ≡ well_listed (listing_of ts (take (c.loop-i.i + 1) all)))) (sym w.list-is)
          (so_far.0, passed-over ts (take c.loop-i.i all) p c.loop-i.list.items so_far.1 may_not ∙ ap (λ xs. well_listed (listing_of ts xs)) (sym next))
    ]

pub loop-i-init : goal.loop-i-init
loop-i-init c = (subst (λ (ps : List (Ty × Ty)). All (IsListedForm c.args.cx.now.trees) ps) (sym c.new-list.ensures.items) (All-nil (IsListedForm c.args.cx.now.trees)), ap (listing_of c.args.cx.now.trees) c.new-list.ensures.items)
