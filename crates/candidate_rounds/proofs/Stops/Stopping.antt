-- Why calls of an evaluator that works in rounds stop.
use Rattle.std.proofs.Common.{◌≡◌, Bool, ℕ, ◌≤◌, List, Option, Some, Result, Ok, Err, ◌∙◌, ap, subst, arith}
use Rattle.std.specs.Prelude.{IfErr, length}
use Rattle.ir_trees.specs.declared.ir.kinds.RegionKind.{RegionKind}
use Rattle.ir_trees.specs.declared.ir.stop.Stop.{Stop}
use Rattle.ir_trees.specs.declared.ir.kinds.GenericArg.{GenericArg}
use Rattle.ir_trees.specs.declared.ir.kinds.Ty.{Ty}
use Rattle.ir_trees.specs.Declarations.Context.{Context, Grows}
use Rattle.ir_trees.specs.Instantiation.Folds.{arg_tree}
use Rattle.ir_trees.specs.Instantiation.Folding.{Answers, IsSubstStop, IsAnswerStop, fold, fold_tree}
use Rattle.ir_trees.specs.Syntax.Kinds.{arg_kind}
use Rattle.ir_trees.specs.Syntax.Trees.{Forest, Tree, height}
use Rattle.ir_trees.specs.Syntax.Words.{IsMkStop, region_kind_tree}
use Rattle.ir_trees.specs.Unification.Substitutions.{alone, row_of}
use Rattle.ir_trees.proofs.Syntax.Members.{arg-row}
use Rattle.ir_folds.proofs.Traversal.FoldStops.{leaf-stop}
use Rattle.candidate_rounds.specs.Evaluators.Stopping.{IsTreeStop, IsValueStop, of_listed, of_placed, of_resolved}
use Rattle.candidate_eval.specs.Judges.States.{State, resolved_tree}
use Rattle.candidate_rounds.specs.Evaluators.Known.{AreTypes, Each, listing_by, listing_of}
use Rattle.rounds_judge.specs.Aliases.Listed.{normalized_tree}
use Rattle.rounds_judge.specs.Equations.Scopes.{Scope}
use Rattle.candidate_rounds.proofs.Resolution.Listing.{listing-kept}

-- Why an argument wasn't folded: it is one tree.
pub arg-stop : (f : Answers) (given : ℕ) (ts : List Tree) (x : GenericArg) (r : Result GenericArg Stop) → IfErr r (IsSubstStop given (fold f 0 (row_of (arg_kind x) (arg_tree ts x))))
    → IfErr r (IsSubstStop given (alone (fold_tree f 0 (arg_tree ts x))))
arg-stop f given ts x r c = let P : Forest → Type 0 = λ us. IfErr r (IsSubstStop given (fold f 0 us)) in subst P (arg-row x (arg_tree ts x)) c

-- A placeholder for a region, which has no children.

low-region : (k : RegionKind) → height (region_kind_tree k) ≤ 1
low-region k = omega arith

pub region-unmade : (old new : Context) (k : RegionKind) (o : Option Tree) (s : Stop) → Some (region_kind_tree k) ≡ o → new ≡ old → IsMkStop old.trees (height (region_kind_tree k)) s → IsAnswerStop (length new.trees) o s
region-unmade old new k o s e same c =
    subst (λ a. IsAnswerStop (length new.trees) a s) e (leaf-stop old new _ _ s same (low-region k) c)

pub region-stop : {A : Type 0} (old new : Context) (k : RegionKind) (made : Tree) (r : Result A Stop) → IfErr r (λ _. new ≡ old) → IfErr r (λ s. IsMkStop old.trees (height (region_kind_tree k)) s)
    → IfErr r (λ s. IsTreeStop new.trees made s)
region-stop old new k made (Ok a) same c = tt
region-stop old new k made (Err s) same c = leaf-stop old new _ _ s same (low-region k) c

-- What a tree with all values put in is, once listed types stand in the place of their aliases.
pub normal-is : (a b : Context) (ps : List (Ty × Ty)) (S : State) (x y : GenericArg) → Grows a b → Each (AreTypes a.trees) ps → arg_tree b.trees y ≡ resolved_tree S (arg_tree a.trees x)
    → normalized_tree (listing_of b.trees ps) (arg_tree b.trees y) ≡ normalized_tree (listing_of a.trees ps) (resolved_tree S (arg_tree a.trees x))
normal-is a b ps S x y g k e = ap (λ l. normalized_tree l (arg_tree b.trees y)) (listing-kept a b ps g k) ∙ ap (normalized_tree (listing_of a.trees ps)) e

-- Whether other aliases are open doesn't matter for a value.
value-stop : (ts us : List Tree) (ps : List (Ty × Ty)) (b : Bool) (S : State) (c : Scope) (t : Tree) (s : Stop) → IsValueStop ts (listing_of us ps) S c t s → IsValueStop ts (listing_by us (record { pairs = ps; is_open = b })) S c t s
value-stop ts us ps b S c t s (of_resolved k) = of_resolved k
value-stop ts us ps b S c t s (of_listed k) = of_listed k
value-stop ts us ps b S c t s (of_placed k) = of_placed k

pub value-stops : {A : Type 0} (r : Result A Stop) (ts us : List Tree) (ps : List (Ty × Ty)) (b : Bool) (S : State) (c : Scope) (t : Tree) → IfErr r (λ s. IsValueStop ts (listing_of us ps) S c t s)
    → IfErr r (λ s. IsValueStop ts (listing_by us (record { pairs = ps; is_open = b })) S c t s)
value-stops (Ok x) ts us ps b S c t k = tt
value-stops (Err s) ts us ps b S c t k = value-stop ts us ps b S c t s k
