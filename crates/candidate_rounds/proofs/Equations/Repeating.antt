-- Frames of numbers that meet again and are one by now: they are passed over. What is so at an evaluator stays so once it went on without
-- knowing more.
use Rattle.std.proofs.Common.{◌≡◌, ◌++◌, ◌∷◌, [], ℕ, false, List, Option, Some, None, length, take, sym, ◌∙◌, ap, subst}
use Rattle.std.specs.Prelude.{IfSome}
use Rattle.std.proofs.lemmas.List.{length-take-le}
use Rattle.ir_trees.specs.declared.ir.kinds.GenericArg.{GenericArg}
use Rattle.ir_trees.specs.Instantiation.Folds.{arg_tree}
use Rattle.ir_trees.specs.Syntax.Nodes.{Extends, tree_at}
use Rattle.ir_trees.specs.Syntax.Trees.{Tree, skip, variable_number}
use Rattle.ir_trees.specs.Unification.Substitutions.{alone}
use Rattle.candidate_eval.specs.declared.eval.mode.TypingMode.{TypingMode}
use Rattle.ir_trees.specs.declared.ir.stop.Stop.{Stop}
use Rattle.candidate_eval.specs.Judges.States.{State, resolved_tree}
use Rattle.rounds_judge.specs.Aliases.Listed.{Listing, normalized_tree}
use Rattle.rounds_judge.specs.Equations.Active.{AreOne, stirs}
use Rattle.rounds_judge.specs.Equations.Equating.{Pair, unified}
use Rattle.rounds_judge.specs.Equations.Standing.{AreResolved, IsListing}
use Rattle.rounds_judge.proofs.Equations.Repeating.{passed-one, ready_below, unified-one}
use Rattle.candidate_rounds.specs.declared.rounds.equating.Frame.{Frame}
use Rattle.candidate_rounds.specs.Calls.Frames.{AreFrames, AreNested, IsFrame, pair_of, pairs_of, scope_of}
use Rattle.candidate_rounds.specs.Calls.Repeating.{ArePutIn, IsReady, IsReadyAt, KeepsState, tree_stirs}
use Rattle.candidate_rounds.specs.Evaluators.Inferences.{Inference}
use Rattle.candidate_rounds.specs.Evaluators.Known.{Each, Evaluator, GoesOn, IsGiven, listing, rigid_otherwise, state, state_of}
use Rattle.candidate_rounds.specs.Evaluators.Stopping.{IsUnifyingStop, StopsAsBefore, later}
use Rattle.candidate_rounds.proofs.Equations.Framing.{frames-kept, pairs-kept, reverse-one}
use Rattle.candidate_rounds.proofs.Equations.Passing.{frames-cut}
use Rattle.candidate_rounds.proofs.Equations.Visiting.{pairs-cut}
use Rattle.candidate_rounds.proofs.Evaluators.Going.{goes-listing}
use Rattle.candidate_rounds.proofs.Resolution.Stirring.{still-at}

-- A number with all values and listed types put in.

pub ready-at : (ts us : List Tree) (m : TypingMode) (s : Inference) (pairs : List (Tree × Tree)) (t a b : Tree) (p : GenericArg × GenericArg) → a ≡ t → b ≡ t → variable_number t.head ≡ None
    → ArePutIn us pairs (state_of ts m s) a p → KeepsState s b (arg_tree us p.0) (arg_tree us p.1) → IsReadyAt pairs (state_of ts m s) t (arg_tree us p.1)
ready-at ts us m s pairs t a b p e f n put k =
    let S = state_of ts m s in
    let is : arg_tree us p.0 ≡ resolved_tree S t = put.resolved ∙ ap (resolved_tree S) e in
    record {
      ready = put.listed ∙ ap (normalized_tree (rigid_otherwise pairs)) is;
      root = k.root ∙ ap (λ (t : Tree). t.head) f;
      no_variable = n;
      standing = still-at ts m s t (subst (λ (t : Tree). tree_stirs s t ≡ false) f k.standing);
      valued = subst (λ (u : Tree). stirs S (alone u) ≡ false) is (still-at ts m s (arg_tree us p.0) k.valued);
      listed = still-at ts m s (arg_tree us p.1) k.listed;
    }

pub ready-some : (us : List Tree) (l : Listing) → IsListing l → (S : State) (t : Tree) (r : Option GenericArg) → IfSome r (λ a. IsReadyAt l.pairs S t (arg_tree us a)) → IfSome r (λ a. IsReady l S t (arg_tree us a))
ready-some us l listing S t None k = tt
ready-some us l listing S t (Some a) k =
    let below = ready_below l listing S t k.no_variable (sym (ap (λ (t : Tree). t.head) k.ready) ∙ k.root) (record {
      standing = k.standing;
      valued = k.valued;
      ready = subst (λ (t : Tree). stirs S (alone t) ≡ false) k.ready k.listed;
    }) in
    record { below = below.1 ∙ sym (ap (λ (t : Tree). t.children) k.ready); still = below.0 }

pub are-one : (l : Listing) (S : State) (t u v w : Tree) → IsReady l S t v → IsReady l S u w → v ≡ w → AreOne l S t.children u.children
are-one l S t u v w a b e = record { left_is_still = a.still; right_is_still = b.still; same = a.below ∙ (ap (λ (t : Tree). t.children) e ∙ sym b.below) }

-- At an evaluator that went on.

module _ (old mid : Evaluator) (g : GoesOn old mid) (given : IsGiven old.context.trees old.normal.pairs old.opaques) (same : state mid ≡ state old) where
  pub judged-on : {A : Type 0} (f : Listing → State → A) → f (listing old) (state old) ≡ f (listing mid) (state mid)
  judged-on f = sym (ap (λ l. f l (state mid)) (goes-listing old mid g given) ∙ ap (f (listing old)) same)

  pub ready-on : (t u v : Tree) → u ≡ t → IsReady (listing mid) (state mid) u v → IsReady (listing old) (state old) t v
  ready-on t u v e k = subst (λ t. IsReady (listing old) (state old) t v) e (subst (λ S. IsReady (listing old) S u v) same (subst (λ l. IsReady l (state mid) u v) (goes-listing old mid g given) k))

  pub stop-on : (zs : List Tree) (s : Stop) (ps qs : List Pair) → ps ≡ qs → IsUnifyingStop zs (listing mid) s (state mid) ps → IsUnifyingStop zs (listing old) s (state old) qs
  stop-on zs s ps qs e k =
      subst (λ ps. IsUnifyingStop zs (listing old) s (state old) ps) e
      (subst (λ S. IsUnifyingStop zs (listing old) s S ps) same (subst (λ l. IsUnifyingStop zs l s (state mid) ps) (goes-listing old mid g given) k))

-- Frames, of which the last was taken off.

pub frame-last : (ts : List Tree) (us : List ℕ) (fs : List Frame) (f : Frame) → AreFrames ts us (fs ++ f ∷ []) → IsFrame ts f
frame-last ts us fs f a = (subst (Each (IsFrame ts)) (reverse-one fs f) a.0).0

module _ (ts zs : List Tree) (us vs ws : List ℕ) (fs gs : List Frame) (f : Frame) (cut : vs ≡ take f.binders us) (frames : AreFrames ts us (fs ++ f ∷ [])) (grown : Extends ts zs) (w : ws ≡ vs) (g : gs ≡ fs) where
  pub frames-again : AreFrames zs ws gs
  frames-again = subst (λ ws. AreFrames zs ws gs) (sym w) (subst (AreFrames zs vs) (sym g) (frames-kept ts zs vs fs grown (frames-cut ts us vs fs f cut frames)))

  whole : AreFrames zs us (fs ++ f ∷ [])
  whole = frames-kept ts zs us (fs ++ f ∷ []) grown frames

  pub frame-again : IsFrame zs f
  frame-again = frame-last zs us fs f whole

  pub binders-again : f.binders ≡ length ws
  binders-again =
      let nested = subst (AreNested (length us)) (reverse-one fs f) frames.1 in
      sym (ap length (w ∙ cut) ∙ length-take-le f.binders us nested.0)

  pub pairs-again : pairs_of zs ws gs ≡ pairs_of ts vs fs
  pairs-again = ap (λ ws. pairs_of zs ws gs) w ∙ (ap (pairs_of zs vs) g ∙ pairs-kept ts zs vs fs grown (frames-cut ts us vs fs f cut frames))

  pub all-again : pair_of zs ws f ∷ pairs_of zs ws gs ≡ pairs_of ts us (fs ++ f ∷ [])
  all-again =
      ap (λ ws. pair_of zs ws f ∷ pairs_of zs ws gs) w
      ∙ (ap (λ gs. pair_of zs vs f ∷ pairs_of zs vs gs) g
      ∙ (pairs-cut zs us vs fs f cut whole ∙ pairs-kept ts zs us (fs ++ f ∷ []) grown frames))

-- It may be passed over.

module _ (ts : List Tree) (us vs : List ℕ) (fs : List Frame) (f : Frame) (cut : vs ≡ take f.binders us) (frames : AreFrames ts us (fs ++ f ∷ [])) (l : Listing) (listing : IsListing l) (S : State) (values : AreResolved S)
    (start : f.place ≡ 0) (one : AreOne l S (tree_at ts f.left).children (tree_at ts f.right).children) where
  abbrev first : Pair
  first = record { scope = scope_of vs f.binders; left = (tree_at ts f.left).children; right = (tree_at ts f.right).children }

  all-are : first ∷ pairs_of ts vs fs ≡ pairs_of ts us (fs ++ f ∷ [])
  all-are =
      ap (λ n. record { scope = scope_of vs f.binders; left = skip n (tree_at ts f.left).children; right = skip n (tree_at ts f.right).children } ∷ pairs_of ts vs fs) (sym start)
      ∙ pairs-cut ts us vs fs f cut frames

  pub one-on : unified l S (pairs_of ts us (fs ++ f ∷ [])) ≡ unified l S (pairs_of ts vs fs)
  one-on = ap (unified l S) (sym all-are) ∙ unified-one l listing S values (scope_of vs f.binders) (tree_at ts f.left).children (tree_at ts f.right).children (pairs_of ts vs fs) one

  pub one-later : StopsAsBefore l S (pairs_of ts us (fs ++ f ∷ [])) l S (pairs_of ts vs fs)
  one-later = λ zs s k. subst (λ ps. IsUnifyingStop zs l s S ps) all-are
      (passed-one l listing S values (λ ps. IsUnifyingStop zs l s S ps) (λ ps qs v q. later v q) (scope_of vs f.binders) (tree_at ts f.left).children (tree_at ts f.right).children (pairs_of ts vs fs) one k)
