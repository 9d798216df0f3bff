-- Over an empty table nodes can be made: what says why they weren't made does not hold of every context.
use Rattle.std.proofs.Common.{◌≡◌, ◌∙◌, ◌≤◌, ◌⊎◌, ◌||◌, ◌++◌, Bool, true, false, List, [], ◌∷◌, length, map, Option, Some, None, inl, inr, arith, refl, sym, ap, subst}
use Rattle.ir_trees.specs.declared.ir.kinds.Clause.{Clause}
use Rattle.ir_trees.specs.declared.ir.kinds.TraitId.{TraitId}
use Rattle.ir_trees.specs.declared.ir.stop.Stop.TheVariants.{NodesFull}
use Rattle.ir_trees.specs.declared.decl.contents.LangItem.TheVariants as L
use Rattle.ir_trees.specs.Declarations.Context.{Context, Grows}
use Rattle.ir_trees.specs.Hierarchy.Elaboration.{IsElaborationStop, IsImplied, IsInstanceStop, IsRenumberStop, SuperClauses, implied_by, lists, same_tree, super_clauses}
use Rattle.ir_trees.specs.Instantiation.Folding.{IsSubstStop, substituted}
use Rattle.ir_trees.specs.Syntax.Nodes.{error_tree, tallest, tree_at}
use Rattle.ir_trees.specs.Syntax.Trees.{Forest, Tree, is_list_kind, none}
use Rattle.ir_trees.specs.Syntax.Words.{clause_tree}
use Rattle.ir_trees.specs.Unification.Substitutions.{alone, as_row}
use Rattle.ir_context.proofs.Hierarchy.Elaboration.{tree_is}
use Rattle.candidate_eval.specs.declared.structural.Column.{Column}
use Rattle.candidate_eval.specs.declared.structural.Column.TheVariants as C
use Rattle.candidate_eval.specs.Builtins.Callable.{IsCallStop, IsConstCallStop}
use Rattle.candidate_eval.specs.Builtins.Destruct.{IsConditionsStop, appended, destruct_conditions, each_meets, lang}
use Rattle.candidate_eval.specs.Builtins.Tables as tables
use Rattle.candidate_eval.specs.Builtins.Tables.{IsCellStop, IsTypesStop, cell}
use Rattle.candidate_eval.specs.Interface.Unmade.{IsFilled, IsMade, IsUnmade}

-- Nothing, and an error alone, can be made.

none-made : IsSubstStop 0 none NodesFull → ⊥
none-made (IsSubstStop.few_numbers l) = omega (arith, l)
none-made (IsSubstStop.high_tree l) = omega (arith, l)
none-made (IsSubstStop.far_variable e) = absurd cc

error-made : IsSubstStop 0 (alone error_tree) NodesFull → ⊥
error-made (IsSubstStop.few_numbers l) = omega (arith, l)
error-made (IsSubstStop.high_tree l) = omega (arith, l)
error-made (IsSubstStop.far_variable e) = absurd cc

row-made : (b : Bool) → IsSubstStop 0 (substituted none 0 (as_row b error_tree)) NodesFull → ⊥
row-made true k = none-made k
row-made false k = error-made k

-- the only trees of an empty table are errors
filled-none : {us : Forest} → IsFilled [] none us → us ≡ none
filled-none IsFilled.ended = refl

filled-error : {us : Forest} → IsFilled [] (alone error_tree) us → (us ≡ none) ⊎ (us ≡ alone error_tree)
filled-error IsFilled.ended = inl refl
filled-error (IsFilled.stays b r) = let e = filled-none b in let f = filled-none r in inr cc
filled-error (IsFilled.put_in n l r) = absurd (omega (arith, l))
filled-error (IsFilled.within p) = inl (filled-none p)
filled-error (IsFilled.later p) = inl (filled-none p)

filled-made : (b : Bool) {us : Forest} → IsFilled [] (as_row b error_tree) us → IsSubstStop 0 us NodesFull → ⊥
filled-made true p k = none-made (subst (λ us. IsSubstStop 0 us NodesFull) (filled-none p) k)
filled-made false p k =
    elim (filled-error p) [ inl e ↦ none-made (subst (λ us. IsSubstStop 0 us NodesFull) e k) | inr e ↦ error-made (subst (λ us. IsSubstStop 0 us NodesFull) e k) ]

all-made : {us : Forest} → IsMade [] us → IsSubstStop 0 us NodesFull → ⊥
all-made (IsMade.with_arguments k n list) s = row-made (is_list_kind k) s
all-made (IsMade.under_binder n v) s = error-made s
all-made (IsMade.instance n v) (IsSubstStop.few_numbers l) = omega (arith, l)
all-made (IsMade.instance n v) (IsSubstStop.high_tree l) = omega (arith, l)
all-made (IsMade.instance n v) (IsSubstStop.far_variable e) = absurd cc
all-made (IsMade.filled k n p) s = filled-made (is_list_kind k) p s

-- An error implies nothing.

listed-error : (xs : List Clause) (u : Tree) → lists (map (clause_tree []) xs) u ≡ true → error_tree ≡ u
listed-error [] u e = absurd cc
listed-error (x ∷ xs) u e = at (same_tree error_tree u) refl e (λ k. listed-error xs u k)
  where
    at : (b : Bool) → same_tree error_tree u ≡ b → b || lists (map (clause_tree []) xs) u ≡ true → (lists (map (clause_tree []) xs) u ≡ true → error_tree ≡ u) → error_tree ≡ u
    at true is k more = tree_is error_tree u is
    at false is k more = more k

implied-error : (supers : SuperClauses) (xs : List Clause) (u : Tree) → IsImplied supers (map (clause_tree []) xs) u → error_tree ≡ u
implied-error supers xs u (IsImplied.given e) = listed-error xs u e
implied-error supers xs u (IsImplied.by {t = t} i e) =
    let never : lists (implied_by supers error_tree) u ≡ true = subst (λ (x : Tree). lists (implied_by supers x) u ≡ true) (sym (implied-error supers xs t i)) e in absurd cc

error-instance : IsInstanceStop 0 error_tree NodesFull → ⊥
error-instance (inl (IsRenumberStop.unput k)) = error-made k
error-instance (inl (IsRenumberStop.high_variable e)) = absurd cc
error-instance (inr k) = omega (arith, k.1)

elaborated : (supers : SuperClauses) (xs : List Clause) → IsElaborationStop supers (map (clause_tree []) xs) 0 NodesFull → ⊥
elaborated supers xs (IsElaborationStop.unmade {u = u} i k) = error-instance (subst (λ (x : Tree). IsInstanceStop 0 x NodesFull) (sym (implied-error supers xs u i)) k)

-- It is asked about no type.

no-types : IsTypesStop 0 [] NodesFull → ⊥
no-types (inl e) = absurd cc
no-types (inr m) = let e = m.is in absurd cc

no-cell : (c : Context) (column : Column) → IsCellStop 0 (cell column (tables.row_of c error_tree)) NodesFull → ⊥
no-cell c C.Auto k = no-types k
no-cell c (C.Sizedness s) k = no-types k
no-cell c C.CopyClone k = no-types k
no-cell c C.Destruct k = no-types k

no-conditions : (o : Option TraitId) → IsConditionsStop 0 (appended (each_meets o []) (Some [])) NodesFull → ⊥
no-conditions None k = k
no-conditions (Some i) (inl e) = absurd cc
no-conditions (Some i) (inr m) = let e = m.is in absurd cc

-- So it is of a context without nodes.

first-none : {X : Type 0} (xs ys : List X) → [] ≡ xs ++ ys → xs ≡ []
first-none [] ys e = refl
first-none (x ∷ xs) ys e = absurd cc

none-before : (c old : Context) → Grows old c → c.trees ≡ [] → old.trees ≡ []
none-before c old g e = first-none old.trees g.kept.added (sym e ∙ g.kept.is)

pub nothing-unmade : (b c : Context) → c.trees ≡ [] → IsUnmade b c NodesFull → ⊥
nothing-unmade b c e (IsUnmade.no_number l) = omega (arith, l, ap length e)
nothing-unmade b c e (IsUnmade.wide_node w) = omega (arith, w.inside, ap length e)
nothing-unmade b c e (IsUnmade.high_tree l) = let none-high = subst (λ ts. 1024 ≤ tallest ts) e l in omega (arith, none-high)
nothing-unmade b c e (IsUnmade.of_trees {made = us} old f g m k) =
    all-made (subst (λ (ts : List Tree). IsMade ts us) (none-before c old g e) m) (subst (λ (ts : List Tree). IsSubstStop (length ts) us NodesFull) e k)
nothing-unmade b c e (IsUnmade.of_elaboration old xs f g k) =
    elaborated (super_clauses old) xs
    (subst (λ (ts : List Tree). IsElaborationStop (super_clauses old) (map (clause_tree ts) xs) 0 NodesFull) (none-before c old g e)
    (subst (λ (us : List Tree). IsElaborationStop (super_clauses old) (map (clause_tree old.trees) xs) (length us) NodesFull) e k))
nothing-unmade b c e (IsUnmade.of_cell old column n f g k) =
    no-cell old column
    (subst (λ (ts : List Tree). IsCellStop 0 (cell column (tables.row_of old (tree_at ts n))) NodesFull) (none-before c old g e)
    (subst (λ (us : List Tree). IsCellStop (length us) (cell column (tables.row_of old (tree_at old.trees n))) NodesFull) e k))
nothing-unmade b c e (IsUnmade.of_conditions old n f g k) =
    no-conditions (lang old L.Destruct)
    (subst (λ (ts : List Tree). IsConditionsStop 0 (destruct_conditions old (tree_at ts n)) NodesFull) (none-before c old g e)
    (subst (λ (us : List Tree). IsConditionsStop (length us) (destruct_conditions old (tree_at old.trees n)) NodesFull) e k))
nothing-unmade b c e (IsUnmade.of_call old n f g k) = subst (λ (ts : List Tree). IsCallStop old (length c.trees) (tree_at ts n) NodesFull) (none-before c old g e) k
nothing-unmade b c e (IsUnmade.of_const_call old n f g k) = subst (λ (ts : List Tree). IsConstCallStop old (length c.trees) (tree_at ts n) NodesFull) (none-before c old g e) k
