-- Fresh variables for open parts: each is of its part's kind.
use Rattle.std.proofs.Common.{◌≡◌, ◌⊎◌, inl, inr, ℕ, Bool, true, false, if◌then◌else◌, Some, None, List, [], ◌∷◌, ◌++◌, ◌||◌, not, length, map, refl, sym, ap, subst, ◌∙◌, ◌==◌, suc, arith}
use Rattle.ir_trees.specs.declared.ir.kinds.GenericArg.{GenericArg}
use Rattle.ir_trees.specs.declared.ir.kinds.GenericArg.TheVariants as A
use Rattle.ir_trees.specs.declared.ir.kinds.VarKind.{VarKind}
use Rattle.ir_trees.specs.declared.ir.stop.Stop.{Stop}
use Rattle.ir_trees.specs.Declarations.Context.{Context, Grows}
use Rattle.candidate_eval.specs.Interface.Evaluators.{kinds_listed}
use Rattle.std.specs.List.{All}
use Rattle.std.proofs.lemmas.Bool.{and_parts, eqb-true}
use Rattle.std.proofs.lemmas.List.{length-map}
use Rattle.std.proofs.lemmas.List.Elements.{All-append, All-cons, All-head, All-nil, All-tail}
use Rattle.ir_trees.specs.Instantiation.Folds.{node}
use Rattle.ir_trees.specs.Syntax.Binders.{escapes}
use Rattle.candidate_eval.specs.Judges.Lawful.{is_type_or_constant}
use Rattle.candidate_rounds.specs.Table.Goals.{Each}
use Rattle.rounds_judge.specs.Aliases.OpenParts.{first_or, has_loose_alias, is_among, is_closed_term, is_open_part, kinds_of, opened, paired, with_part, with_parts}
use Rattle.rounds_judge.specs.Aliases.Listed.{listed_in}
use Rattle.candidate_rounds.specs.Evaluators.Inferences.{IsFullAt, IsOutOfRoom}
use Rattle.candidate_rounds.specs.Evaluators.Stopping.{IsVariablesStop, variables_entered, variables_made}
use Rattle.candidate_rounds.proofs.Equations.OpenParts.{kinds-are}
use Rattle.ir_trees.specs.Hierarchy.Elaboration.{same_tree}
use Rattle.ir_trees.specs.Hierarchy.Supers.{after_first}
use Rattle.ir_trees.specs.Instantiation.Folds.{IsArg, arg_tree, is_asked, is_asked_kind}
use Rattle.ir_context.proofs.Hierarchy.Elaboration.{tree_is}
use Rattle.ir_trees.specs.Syntax.Kinds.{arg_kind, arg_number}
use Rattle.ir_trees.specs.Syntax.Nodes.{Extends, kind_at}
use Rattle.ir_trees.specs.Syntax.Trees.{Forest, Kind, none, tree, Tree, holds, is_alias, kind_of}
use Rattle.ir_trees.specs.Syntax.Words.{ListFits, list_forest}
use Rattle.ir_folds.proofs.Hierarchy.Implying.{arg-kept}
use Rattle.ir_trees.proofs.Instantiation.Folding.{fold-nothing}
use Rattle.ir_trees.proofs.Syntax.Rows.{kind-of}
use Rattle.candidate_eval.specs.Judges.States.{State, fresh_variables, variable, variable_kind, with_fresh}
use Rattle.candidate_rounds.specs.Calls.Opening.{AreArgs, ArePaired, IsPair, opened_answers, pairs_at, trees_of}
use Rattle.candidate_rounds.proofs.Obligations.Noting.{arg-row}
use Rattle.candidate_rounds.proofs.Snapshots.Knowing.{kind-stays, there-arg, tree-stays}

-- parts are the same as a context grows
pub trees-kept : (a b : Context) (xs : List GenericArg) → Grows a b → AreArgs a.trees xs → trees_of b.trees xs ≡ trees_of a.trees xs
trees-kept a b [] g f = refl
trees-kept a b (x ∷ xs) g f = let k = (arg-kept a b x g f.0).1 in let rest = trees-kept a b xs g f.1 in λ i. k i ∷ rest i

pub args-kept : (a b : Context) (xs : List GenericArg) → Grows a b → AreArgs a.trees xs → AreArgs b.trees xs
args-kept a b [] g f = tt
args-kept a b (x ∷ xs) g f = ((arg-kept a b x g f.0).0, args-kept a b xs g f.1)

-- types and constants
abbrev pub AreTerms : List GenericArg → Type 0
AreTerms xs = Each (λ x. is_type_or_constant (arg_kind x) ≡ true) xs

term-added : (ps : List Tree) (t : Tree) → All (λ (p : Tree). is_type_or_constant (kind_of p.head) ≡ true) ps → is_type_or_constant (kind_of t.head) ≡ true → All (λ (p : Tree). is_type_or_constant (kind_of p.head) ≡ true) (with_part ps t)
term-added ps t a e = at (is_among ps t)
  where
    at : (b : Bool) → All (λ (p : Tree). is_type_or_constant (kind_of p.head) ≡ true) (if b then ps else ps ++ t ∷ [])
    at true = a
    at false = All-append (λ (p : Tree). is_type_or_constant (kind_of p.head) ≡ true) ps (t ∷ []) a (All-cons (λ (p : Tree). is_type_or_constant (kind_of p.head) ≡ true) t [] e (All-nil (λ (p : Tree). is_type_or_constant (kind_of p.head) ≡ true)))

pub parts-terms : (ps : List Tree) (ts : Forest) → All (λ (p : Tree). is_type_or_constant (kind_of p.head) ≡ true) ps → All (λ (p : Tree). is_type_or_constant (kind_of p.head) ≡ true) (with_parts ps ts)
parts-terms ps none a = a
parts-terms ps (tree h below rest) a =
    parts-terms (if is_open_part h below then with_part ps (node h below) else with_parts ps below) rest (at (is_open_part h below) refl (parts-terms ps below a))
  where
    at : (b : Bool) → is_open_part h below ≡ b → All (λ (p : Tree). is_type_or_constant (kind_of p.head) ≡ true) (with_parts ps below)
        → All (λ (p : Tree). is_type_or_constant (kind_of p.head) ≡ true) (if b then with_part ps (node h below) else with_parts ps below)
    at true e under =
        let closed = (and_parts (is_closed_term h below) (is_alias h || has_loose_alias below) e).0 in
        term-added ps (node h below) a (and_parts (is_type_or_constant (kind_of h)) (not (escapes 0 (tree h below none))) closed).0
    at false e under = under

pub args-terms : (ts : List Tree) (xs : List GenericArg) → AreArgs ts xs → All (λ (p : Tree). is_type_or_constant (kind_of p.head) ≡ true) (trees_of ts xs) → AreTerms xs
args-terms ts [] a m = tt
args-terms ts (x ∷ xs) a m = (
  ap is_type_or_constant (sym (kind-of ts (arg_number x) (arg_kind x) (there-arg x) a.0)) ∙ All-head (λ (p : Tree). is_type_or_constant (kind_of p.head) ≡ true) (arg_tree ts x) (trees_of ts xs) m,
  args-terms ts xs a.1 (All-tail (λ (p : Tree). is_type_or_constant (kind_of p.head) ≡ true) (arg_tree ts x) (trees_of ts xs) m),
)

-- a variable for an argument is of its kind
variable-kind : (x : GenericArg) (n : ℕ) → kind_of (variable (variable_kind (arg_kind x)) n).head ≡ arg_kind x
variable-kind (A.Ty y) n = refl
variable-kind (A.Const y) n = refl
variable-kind (A.Region y) n = refl

abbrev first_head : Forest → Kind → Kind
first_head none k = k
first_head (tree h below rest) k = kind_of h

abbrev after : Forest → Forest
after none = none
after (tree h below rest) = rest

pub variables-paired : (ts : List Tree) (xs ys : List GenericArg) (S : State) → AreArgs ts xs → AreTerms xs → ListFits ts ys → list_forest ts ys ≡ fresh_variables S (map arg_kind xs) → ArePaired ts xs ys
variables-paired ts [] [] S a m f e = tt
variables-paired ts [] (y ∷ ys) S a m f e =
    let i : IsArg ts y = cc in
    let clash = sym (arg-row ts y (list_forest ts ys) i) ∙ e in absurd cc
variables-paired ts (x ∷ xs) [] S a m f e = absurd cc
variables-paired ts (x ∷ xs) (y ∷ ys) S a m f e =
    let i : kind_at ts (arg_number y) ≡ arg_kind y = cc in
    let g : ListFits ts ys = cc in
    let both = sym (arg-row ts y (list_forest ts ys) i) ∙ e in
    let k : kind_of (arg_tree ts y).head ≡ arg_kind x = ap (λ r. first_head r (arg_kind y)) both ∙ variable-kind x (length S.variables) in (
      record { part = a.0; other = i; kind = sym (kind-of ts (arg_number y) (arg_kind y) (there-arg y) i) ∙ k; is_term = m.0 },
      variables-paired ts xs ys (with_fresh S (variable_kind (arg_kind x))) a.1 m.1 g (ap after both),
    )

-- the kinds of variables for parts
pub kinds-same : (ts : List Tree) (xs ys : List GenericArg) (vs ws : List VarKind) (ps : List Tree) → AreArgs ts xs → trees_of ts xs ≡ ps → ys ≡ xs → kinds_listed vs ≡ map arg_kind ys → ws ≡ vs → kinds_listed ws ≡ kinds_of ps
kinds-same ts xs ys vs ws ps a e y k w = ap kinds_listed w ∙ (k ∙ (ap (map arg_kind) y ∙ (sym (kinds-are ts xs a) ∙ ap kinds_of e)))

-- why they weren't made
pub variables-stop : (ts : List Tree) (S : State) (ps : List Tree) (ks : List Kind) (s : Stop) → ks ≡ kinds_of ps → IsOutOfRoom (length S.variables) (length ks) s ⊎ IsFullAt (length ts) s → IsVariablesStop ts S ps s
variables-stop ts S ps ks s e (inl k) = variables_entered (subst (λ n. IsOutOfRoom (length S.variables) n s) (ap length e ∙ length-map ps (λ (t : Tree). kind_of t.head)) k)
variables-stop ts S ps ks s e (inr k) = variables_made k

-- Answers for open parts

-- an argument is asked for
pub arg-asked : (ts : List Tree) (x : GenericArg) → IsArg ts x → is_asked (arg_tree ts x).head ≡ true
arg-asked ts x i = ap is_asked_kind (kind-of ts (arg_number x) (arg_kind x) (there-arg x) i) ∙ asked x
  where
    asked : (y : GenericArg) → is_asked_kind (arg_kind y) ≡ true
    asked (A.Ty z) = refl
    asked (A.Const z) = refl
    asked (A.Region z) = refl

pub pairs-first : (ts : List Tree) (x y : GenericArg) (xs ys : List GenericArg) → IsPair ts x y → pairs_at ts (x ∷ xs) (y ∷ ys) ≡ (arg_tree ts x, arg_tree ts y) ∷ pairs_at ts xs ys
pairs-first ts x y xs ys p =
    ap (λ (r : Forest). (arg_tree ts x, first_or (arg_tree ts x) r) ∷ paired (trees_of ts xs) (after_first r)) (arg-row ts y (list_forest ts ys) p.other)

pub paired-extend : (ts us : List Tree) (xs ys : List GenericArg) → Extends ts us → ArePaired ts xs ys → ArePaired us xs ys
paired-extend ts us [] [] x k = tt
paired-extend ts us [] (b ∷ bs) x k = absurd k
paired-extend ts us (v ∷ vs) [] x k = absurd k
paired-extend ts us (v ∷ vs) (b ∷ bs) x k = (
  record {
    part = kind-stays ts us (arg_number v) (arg_kind v) x (there-arg v) k.0.part;
    other = kind-stays ts us (arg_number b) (arg_kind b) x (there-arg b) k.0.other;
    kind = k.0.kind;
    is_term = k.0.is_term;
  },
  paired-extend ts us vs bs x k.1,
)

pub pairs-extend : (ts us : List Tree) (xs ys : List GenericArg) → Extends ts us → ArePaired ts xs ys → pairs_at us xs ys ≡ pairs_at ts xs ys
pairs-extend ts us [] [] x k = refl
pairs-extend ts us [] (b ∷ bs) x k = absurd k
pairs-extend ts us (v ∷ vs) [] x k = absurd k
pairs-extend ts us (v ∷ vs) (b ∷ bs) x k =
    let one = tree-stays ts us (arg_number v) (arg_kind v) x (there-arg v) k.0.part in
    let other = tree-stays ts us (arg_number b) (arg_kind b) x (there-arg b) k.0.other in
    let rest = pairs-extend ts us vs bs x k.1 in
    pairs-first us v b vs bs (paired-extend ts us (v ∷ vs) (b ∷ bs) x k).0 ∙ ((λ i. (one i, other i) ∷ rest i) ∙ sym (pairs-first ts v b vs bs k.0))

-- nothing stands for what isn't asked for
unasked-none : (ts : List Tree) (xs ys : List GenericArg) (t : Tree) → ArePaired ts xs ys → is_asked t.head ≡ false → listed_in (pairs_at ts xs ys) t ≡ None
unasked-none ts [] [] t k e = refl
unasked-none ts [] (b ∷ bs) t k e = absurd k
unasked-none ts (v ∷ vs) [] t k e = absurd k
unasked-none ts (v ∷ vs) (b ∷ bs) t k e =
    ap (λ (ps : List (Tree × Tree)). listed_in ps t) (pairs-first ts v b vs bs k.0) ∙ at (same_tree (arg_tree ts v) t) refl (unasked-none ts vs bs t k.1 e)
  where
    at : (c : Bool) → same_tree (arg_tree ts v) t ≡ c → listed_in (pairs_at ts vs bs) t ≡ None → (if c then Some (arg_tree ts b) else listed_in (pairs_at ts vs bs) t) ≡ None
    at true s f = let clash : true ≡ false = sym (arg-asked ts v k.0.part) ∙ (ap (λ (u : Tree). is_asked u.head) (tree_is (arg_tree ts v) t s) ∙ e) in absurd cc
    at false s f = f

pub opened-are : (ts : List Tree) (xs ys : List GenericArg) → ArePaired ts xs ys → opened_answers xs ys ts ≡ (λ d u. listed_in (pairs_at ts xs ys) u)
opened-are ts xs ys k = λ i d t. at t (is_asked t.head) refl i
  where
    at : (t : Tree) (b : Bool) → is_asked t.head ≡ b → (if b then listed_in (pairs_at ts xs ys) t else None) ≡ listed_in (pairs_at ts xs ys) t
    at t true e = refl
    at t false e = sym (unasked-none ts xs ys t k e)

unmarked : (ts : Forest) → holds (λ h. false) ts ≡ false
unmarked none = refl
unmarked (tree h below rest) = ap (λ b. b || holds (λ h. false) rest) (unmarked below) ∙ unmarked rest

-- Where there are no parts, trees are as they stand.
pub none-opened : (ts : List Tree) (xs ys : List GenericArg) (f : Forest) → (length xs == 0) ≡ true → f ≡ opened (pairs_at ts xs ys) f
none-opened ts [] ys f e = sym (fold-nothing (λ d u. listed_in [] u) (λ h. false) (λ d u q. refl) 0 f (unmarked f))
none-opened ts (x ∷ xs) ys f e = let z = eqb-true (suc (length xs)) 0 e in absurd (omega (arith, z))
