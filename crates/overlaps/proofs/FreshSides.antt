-- Where sides are ones whose aliases may be read as any types: only fresh variables count, and the sides are rows of arguments.
use Rattle.std.proofs.Common.{◌≡◌, ◌≤◌, ◌<◌, ℕ, ◌+◌, ◌-◌, true, false, List, length, get_or, Option, Some, None, refl, sym, ap, subst, ◌∙◌, arith}
use Rattle.std.specs.Option.{unwrap_or}
use Rattle.std.proofs.lemmas.List.Elements.{All-weaker}
use Rattle.std.proofs.lemmas.List.{length-append, length-map}
use Rattle.std.proofs.lemmas.Option.{slice_get-get_or, slice_get_within}
use Rattle.ir_trees.specs.Instantiation.Folds.{node}
use Rattle.ir_trees.specs.Syntax.Trees.{Kind, TypeKind, Forest, none, tree, Tree, binders_of, is_type, is_type_kind, kind_of}
use Rattle.ir_trees.proofs.Instantiation.Folding.{begin}
use Rattle.candidate_eval.specs.Judges.Alike.{info}
use Rattle.candidate_eval.specs.Judges.Soundness.{AreLeaves, AreTreesOf, Live}
use Rattle.candidate_eval.specs.Judges.States.{State, VariableInfo, fresh_info, resolved, variable_kind}
use Rattle.candidate_assembly.proofs.Refusals.KnownFresh.{Which, fresh-there, fresh_infos, fresher, which, wider}
use Rattle.candidate_assembly.proofs.Refusals.KnownFresh as known
use Rattle.rounds_judge.specs.Aliases.Listed.{Listing, listed_in}
use Rattle.rounds_judge.specs.Aliases.OpenParts.{has_loose_alias}
use Rattle.rounds_judge.specs.Equations.Opening.{readied}
use Rattle.rounds_judge.specs.Equations.Standing.{IsListed, IsListing}
use Rattle.rounds_judge.proofs.Aliases.OpenedParts.{AllPairs, pair_found}
use Rattle.rounds_judge.proofs.Lawfulness.OpenEquations.{readied_trees}
use Rattle.overlaps.proofs.Sides.{AllFresh, IsFresh, OpenSides}
use Rattle.overlaps.proofs.ReadSides.{AreArguments, LeafyValue, arguments_not_loose, is_argument, placed, placed_leaves}
use Rattle.overlaps.proofs.Unsolved.{fits_fresh, no_value_there, nothing_resolved, sound_fresh}

-- Fresh variables are fresh, and those before them stay so.

pub nothing_fresh : (S : State) → AllFresh S (λ n. false)
nothing_fresh S n i c e = absurd cc

fresh_is : (S : State) (k : Kind) (i : VariableInfo) → fresh_info S (variable_kind k) ≡ i → IsFresh S i
fresh_is S k i e = record {
  of = k;
  kind = ap (λ (x : VariableInfo). x.kind) (sym e);
  universe = ap (λ (x : VariableInfo). x.universe) (sym e);
  value = ap (λ (x : VariableInfo). x.value) (sym e);
}

some_is : {A : Type 0} (a b : A) → Some a ≡ Some b → a ≡ b
some_is a b e = cc

near_enough : (n m k : ℕ) → n < m + k → m ≤ n → n - m < k
near_enough n m k h g = omega (arith, h, g)

put_back : (n m : ℕ) → n ≤ m → n + (m - n) ≡ m
put_back n m h = omega (arith, h)

pub fresh_more : (S : State) (L : Live) (ks : List Kind) → AllFresh S L → AllFresh (fresher S ks) (wider S L)
fresh_more S L ks fresh n i c e = at (which S L ks n i e)
  where
    N : ℕ
    N = length S.variables

    many : length (fresher S ks).variables ≡ N + length ks
    many = length-append S.variables (fresh_infos S ks) ∙ ap (λ m. N + m) (length-map ks (λ k. fresh_info S (variable_kind k)))

    at : Which S L ks n i → IsFresh (fresher S ks) i
    at (known.old h) = let f = fresh n i (known.counted-before S L ks n i h c) h in record { of = f.of; kind = f.kind; universe = f.universe; value = f.value }
    at (known.new far v u) =
        let within = slice_get_within (fresher S ks).variables n i e in
        let j = n - N in
        let near : j < length ks = near_enough n N (length ks) (subst (λ m. n < m) many within) far in
        let k = get_or ks j TypeKind in
        let there = fresh-there S L ks j k (slice_get-get_or ks j TypeKind near) in
        let is : Some (fresh_info S (variable_kind k)) ≡ Some i = sym there ∙ (ap (info (fresher S ks)) (put_back N n far) ∙ e) in
        fresh_is (fresher S ks) k i (some_is (fresh_info S (variable_kind k)) i is)

-- Rows of arguments, readied

module _ (l : Listing) (listing : IsListing l) where
  types_listed : AllPairs (λ t u. is_type u.head ≡ true) l.pairs
  types_listed = All-weaker IsListed (λ (p : Tree × Tree). is_type p.1.head ≡ true) (λ (p : Tree × Tree) k. k.is_type) l.pairs listing

  type_is_argument : (k : Kind) → is_type_kind k ≡ true → is_argument k ≡ true
  type_is_argument TypeKind e = refl
  type_is_argument _ e = absurd cc

  listed_arguments : (d : ℕ) (ts : Forest) → AreArguments ts → AreArguments (placed l.pairs d ts)
  listed_arguments d none a = tt
  listed_arguments d (tree h below rest) a = at (listed_in l.pairs (node h below)) refl (listed_arguments d rest a.1)
    where
      at : (o : Option Tree) → listed_in l.pairs (node h below) ≡ o → AreArguments (placed l.pairs d rest)
          → AreArguments (begin (unwrap_or o (node h (placed l.pairs (d + binders_of h) below))) (placed l.pairs d rest))
      at None e others = (a.0, others)
      at (Some u) e others = (type_is_argument (kind_of u.head) (pair_found (λ t u. is_type u.head ≡ true) l.pairs (node h below) u e types_listed), others)

  -- Rows of arguments whose variables and regions are leaves are such sides, where those of the listed types are leaves, too.
  module _ (leaves : AllPairs LeafyValue l.pairs) (S : State) (L : Live) (fresh : AllFresh S L) where
    readied_leaves : (ts : Forest) → AreTreesOf S L ts → AreLeaves ts → AreLeaves (readied l S ts)
    readied_leaves ts k a = placed_leaves l.pairs leaves 0 (resolved S ts) (subst AreLeaves (sym (nothing_resolved S L (λ n i t c e v. no_value_there S L fresh n i t c e v) ts k.known)) a)

    readied_not_loose : (ts : Forest) → AreTreesOf S L ts → AreLeaves ts → AreArguments ts → has_loose_alias (readied l S ts) ≡ false
    readied_not_loose ts k a g =
        arguments_not_loose (readied l S ts)
        (listed_arguments 0 (resolved S ts) (subst AreArguments (sym (nothing_resolved S L (λ n i t c e v. no_value_there S L fresh n i t c e v) ts k.known)) g))
        (readied_leaves ts k a) (readied_trees l listing L S (sound_fresh S L fresh) ts (fits_fresh S L fresh) k).is_closed

    pub open_sides : (a b : Forest) → AreTreesOf S L a → AreTreesOf S L b → AreLeaves a → AreLeaves b → AreArguments a → AreArguments b → OpenSides l S L a b
    open_sides a b left right left_leaves right_leaves left_arguments right_arguments = record {
      fresh = fresh;
      left = left;
      right = right;
      left_has_leaves = readied_leaves a left left_leaves;
      right_has_leaves = readied_leaves b right right_leaves;
      left_not_loose = readied_not_loose a left left_leaves left_arguments;
      right_not_loose = readied_not_loose b right right_leaves right_arguments;
    }
