-- Frames that are passed over: one node is on both sides, and nothing is active below it.
use Rattle.std.proofs.Common.{◌≡◌, ◌<◌, ◌++◌, ◌||◌, ◌∷◌, [], ℕ, Bool, false, List, Option, Some, None, length, take, reverse, refl, sym, ◌∙◌, ap, subst}
use Rattle.std.specs.Option.{option_map}
use Rattle.std.proofs.lemmas.List.{length-take-le}
use Rattle.ir_trees.specs.declared.ir.heads.Head.{Head}
use Rattle.ir_trees.specs.declared.ir.heads.Head.TheVariants as H
use Rattle.ir_trees.specs.Instantiation.Folds.{arg_tree}
use Rattle.ir_trees.specs.Syntax.Nodes.{tree_at}
use Rattle.ir_trees.specs.Syntax.Trees.{none, Tree, holds, is_alias, skip, tree_holds}
use Rattle.candidate_eval.specs.declared.eval.mode.TypingMode.{TypingMode}
use Rattle.candidate_eval.specs.Interface.Evaluators.{root_value}
use Rattle.candidate_eval.specs.Judges.States.{State, is_some}
use Rattle.candidate_eval.proofs.Marks.Holds.{holds_imply, holds_parts}
use Rattle.candidate_eval.proofs.Marks.Marking.{alone-unmarked}
use Rattle.rounds_judge.specs.Aliases.Listed.{Listing}
use Rattle.rounds_judge.specs.Equations.Active.{is_active}
use Rattle.rounds_judge.specs.Equations.Equating.{looks, unified}
use Rattle.rounds_judge.specs.Equations.Scopes.{has_binder}
use Rattle.rounds_judge.specs.Equations.Standing.{AreResolved, IsListing}
use Rattle.rounds_judge.proofs.Equations.Passing.{looks-fewer, passed, twice, unified-passed}
use Rattle.candidate_rounds.specs.declared.rounds.equating.Frame.{Frame}
use Rattle.candidate_rounds.specs.Calls.Frames.{AreFrames, AreNested, IsFrame, pair_of, pairs_of, scope_of}
use Rattle.candidate_rounds.specs.Calls.Walking.{has_kept, is_active_at}
use Rattle.candidate_rounds.specs.Evaluators.Inferences.{Inference, kept_at}
use Rattle.candidate_rounds.specs.Evaluators.Known.{Each, state_of}
use Rattle.candidate_rounds.specs.Evaluators.Stopping.{IsUnifyingStop, StopsAsBefore, later}
use Rattle.candidate_rounds.proofs.Equations.Framing.{reverse-one}
use Rattle.candidate_rounds.proofs.Equations.Visiting.{pairs-cut}
use Rattle.candidate_rounds.proofs.Resolution.Resolving.{kept-tree}

-- What is kept of a variable's value is what the state says.

module _ (ts : List Tree) (m : TypingMode) (s : Inference) where
  mapped : {A B : Type 0} (f : A → B) (o : Option A) → is_some (option_map f o) ≡ is_some o
  mapped f None = refl
  mapped f (Some a) = refl

  kept-root : (h : Head) → has_kept s h ≡ is_some (root_value (state_of ts m s) h)
  kept-root (H.Infer v) = sym (mapped (arg_tree ts) (kept_at s (H.Infer v))) ∙ ap is_some (kept-tree ts m s (H.Infer v))
  kept-root _ = refl

  active-at : (h : Head) → is_active_at s h ≡ is_active (state_of ts m s) h
  active-at h = ap (λ b. has_binder h || (is_alias h || b)) (kept-root h)

  pub passive-at : (t : Tree) (b : Bool) → b ≡ tree_holds (is_active_at s) t → b ≡ false → holds (is_active (state_of ts m s)) t.children ≡ false
  passive-at t b is off =
      let below = (holds_parts (is_active_at s) t.head t.children none (alone-unmarked (is_active_at s) t (sym is ∙ off))).under in
      holds_imply (is_active_at s) (is_active (state_of ts m s)) (λ h e. sym (active-at h) ∙ e) t.children below

-- A frame that stood last is taken off: the binders that were entered stand up to those around it.

module _ (ts : List Tree) (us vs : List ℕ) (fs : List Frame) (f : Frame) (cut : vs ≡ take f.binders us) (frames : AreFrames ts us (fs ++ f ∷ [])) where
  pub frames-cut : AreFrames ts vs fs
  frames-cut =
      let each = subst (Each (IsFrame ts)) (reverse-one fs f) frames.0 in
      let nested = subst (AreNested (length us)) (reverse-one fs f) frames.1 in
      let whole : length vs ≡ f.binders = ap length cut ∙ length-take-le f.binders us nested.0 in
      (each.1, subst (λ n. AreNested n (reverse fs)) (sym whole) nested.1)

  pub looks-cut : (l : Listing) (S : State) → looks l S (pairs_of ts vs fs) < looks l S (pairs_of ts us (fs ++ f ∷ []))
  looks-cut l S = subst (λ ps. looks l S (pairs_of ts vs fs) < looks l S ps) (pairs-cut ts us vs fs f cut frames) (looks-fewer l S (pair_of ts vs f) (pairs_of ts vs fs))

  -- It may be passed over.
  module _ (l : Listing) (listing : IsListing l) (S : State) (one : f.right ≡ f.left) (start : f.place ≡ 0) (still : holds (is_active S) (tree_at ts f.left).children ≡ false) where
    rows-are : pair_of ts vs f ≡ twice (scope_of vs f.binders) (tree_at ts f.left).children
    rows-are =
        ap (λ n. record { scope = scope_of vs f.binders; left = skip f.place (tree_at ts f.left).children; right = skip f.place (tree_at ts n).children }) one
        ∙ ap (λ n. twice (scope_of vs f.binders) (skip n (tree_at ts f.left).children)) start

    all-are : twice (scope_of vs f.binders) (tree_at ts f.left).children ∷ pairs_of ts vs fs ≡ pairs_of ts us (fs ++ f ∷ [])
    all-are = ap (λ p. p ∷ pairs_of ts vs fs) (sym rows-are) ∙ pairs-cut ts us vs fs f cut frames

    pub pass-on : AreResolved S → unified l S (pairs_of ts us (fs ++ f ∷ [])) ≡ unified l S (pairs_of ts vs fs)
    pass-on resolved = ap (unified l S) (sym all-are) ∙ unified-passed l listing S (scope_of vs f.binders) resolved (tree_at ts f.left).children (pairs_of ts vs fs) still

    pub pass-later : StopsAsBefore l S (pairs_of ts us (fs ++ f ∷ [])) l S (pairs_of ts vs fs)
    pass-later = λ zs s k. subst (λ ps. IsUnifyingStop zs l s S ps) all-are
        (passed l listing S (scope_of vs f.binders) (λ ps. IsUnifyingStop zs l s S ps) (λ ps qs v q. later v q) (tree_at ts f.left).children (pairs_of ts vs fs) still k)
