-- The response of a state: on the root variables each allowed instance of it is one of the state.
use Rattle.std.proofs.Common.{◌||◌, ◌≡◌, ◌<◌, ℕ, zero, suc, ◌+◌, Bool, true, false, not, ◌&&◌, List, [], ◌∷◌, Option, Some, None, slice_get, nat_le, nat_lt, arith, refl, sym, ap, subst, ◌∙◌, if◌then◌else◌}
use Rattle.std.specs.Option.{unwrap_or, option_map}
use Rattle.std.proofs.lemmas.Bool.{leb-false, lt-ltb}
use Rattle.std.proofs.lemmas.Option.{slice_get-map}
use Rattle.ir_trees.specs.declared.ir.heads.Head.{Head}
use Rattle.ir_trees.specs.declared.ir.heads.Head.TheVariants as H
use Rattle.ir_trees.specs.declared.ir.heads.Variable.{Variable}
use Rattle.ir_trees.specs.declared.ir.kinds.RegionKind.TheVariants as R
use Rattle.ir_trees.specs.Syntax.Trees.{Forest, none, tree, Tree, erase, erased_head, holds, variable_number}
use Rattle.ir_trees.specs.Unification.Substitutions.{Universes, alone}
use Rattle.ir_trees.proofs.Instantiation.Folding.{begin}
use Rattle.ir_trees.proofs.Unification.Instances.{same_sort_is}
use Rattle.candidate_eval.specs.declared.eval.certainty.Certainty.{Certainty}
use Rattle.candidate_eval.specs.declared.eval.certainty.Certainty.TheVariants.{Yes}
use Rattle.candidate_eval.specs.declared.eval.variable.VariableKind.{VariableKind}
use Rattle.candidate_eval.specs.declared.eval.variable.VariableKind.TheVariants.{Term, Region}
use Rattle.candidate_eval.specs.Outcomes.Responses.{Response}
use Rattle.candidate_eval.specs.Judges.States.{State, Pending, VariableInfo, Values, variable, valued, valued_tree, value_at, resolved, resolved_tree, is_some, has_kind, same_kind}
use Rattle.candidate_eval.specs.Judges.Alike.{info}
use Rattle.candidate_eval.specs.Derivations.Mentions.{IsBelow, is_from}
use Rattle.candidate_eval.specs.Judges.Soundness.{Live, AreLeaves, universes, universe_in, is_strange, is_region}
use Rattle.candidate_eval.specs.Judges.Instances.{Instance, instance, tree_number, answer_values, universe_or_root, response_universes, HasRootsFirst, IsResponseOf}
use Rattle.candidate_eval.proofs.Marks.Holds.{holds_parts}
use Rattle.rounds_judge.specs.Obligations.Settling.{certainty_of}
use Rattle.rounds_judge.specs.Obligations.Responding.{roots_from, is_seen, place_of, renumbering, renumbered_region, renumbered_regions, renumbered_tree, root_values, constraints, open_numbers, open_variable, response}
use Rattle.rounds_judge.proofs.States.Marks.{whole, valued_node}
use Rattle.rounds_judge.proofs.States.Later.{has_info, kind_there}
use Rattle.rounds_judge.proofs.Obligations.Renumbering.{is_missing, none_is_missing, place_is, new_variable, of_old, old_allowed, renumbered_same}

-- Trees by their numbers

pub number_valued : (v : Values) (ts : Forest) (n : ℕ) → tree_number (valued v ts) n ≡ option_map (valued_tree v) (tree_number ts n)
number_valued v none n = refl
number_valued v (tree h below rest) zero = refl
number_valued v (tree h below rest) (suc n) = number_valued v rest n

abbrev with_regions_renumbered : List ℕ → Tree → Tree
with_regions_renumbered ns t = record { head = renumbered_region ns t.head; children = renumbered_regions ns t.children }

number_regions : (ns : List ℕ) (ts : Forest) (n : ℕ) → tree_number (renumbered_regions ns ts) n ≡ option_map (with_regions_renumbered ns) (tree_number ts n)
number_regions ns none n = refl
number_regions ns (tree h below rest) zero = refl
number_regions ns (tree h below rest) (suc n) = number_regions ns rest n

pub number_marked : (mark : Head → Bool) (ts : Forest) (n : ℕ) (t : Tree) → holds mark ts ≡ false → tree_number ts n ≡ Some t → holds mark (alone t) ≡ false
number_marked mark none n t e f = cc
number_marked mark (tree h below rest) zero t e f =
    let p = holds_parts mark h below rest e in
    let is : record { head = h; children = below } ≡ t = cc in
    subst (λ t. holds mark (alone t) ≡ false) is (whole mark h below none p.here p.under refl)
number_marked mark (tree h below rest) (suc n) t e f = number_marked mark rest n t (holds_parts mark h below rest e).others f

-- The root variables come first.
roots_number : (is : List VariableInfo) (b m : ℕ) → ((n : ℕ) (i : VariableInfo) → slice_get is n ≡ Some i → i.is_root ≡ nat_lt (b + n) m) → (n : ℕ) (i : VariableInfo) → slice_get is n ≡ Some i → b + n < m
    → tree_number (roots_from b is) n ≡ Some (variable i.kind (b + n))
roots_number [] b m first n i e less = cc
roots_number (j ∷ is) b m first n i e less =
    ap (λ x. tree_number (if x then begin (variable j.kind b) (roots_from (suc b) is) else roots_from (suc b) is) n) (first 0 j refl ∙ lt-ltb (b + 0) m (lower b n m less))
    ∙ at n e less (λ n e less. roots_number is (suc b) m (λ n i e. first (suc n) i e ∙ ap (λ k. nat_lt k m) (one_more b n)) n i e less)
  where
    lower : (b n m : ℕ) → b + n < m → b + 0 < m
    lower b n m h = omega (arith, h)

    one_more : (b n : ℕ) → b + suc n ≡ suc b + n
    one_more b n = omega arith

    none_more : (b : ℕ) → b ≡ b + 0
    none_more b = omega arith

    at : (n : ℕ) → slice_get (j ∷ is) n ≡ Some i → b + n < m → ((n : ℕ) → slice_get is n ≡ Some i → suc b + n < m → tree_number (roots_from (suc b) is) n ≡ Some (variable i.kind (suc b + n)))
        → tree_number (begin (variable j.kind b) (roots_from (suc b) is)) n ≡ Some (variable i.kind (b + n))
    at zero e less ih = ap (λ (i : VariableInfo). Some (variable i.kind b)) (let is : j ≡ i = cc in is) ∙ ap (λ k. Some (variable i.kind k)) (none_more b)
    at (suc n) e less ih = ih n e (subst (λ k. k < m) (one_more b n) less) ∙ ap (λ k. Some (variable i.kind k)) (sym (one_more b n))

kind_is : (k l : VariableKind) → same_kind k l ≡ true → k ≡ l
kind_is (Term s) (Term t) e = ap Term (same_sort_is s t e)
kind_is Region Region e = refl
kind_is (Term s) Region e = cc
kind_is Region (Term t) e = cc

-- The state's response

module _ (S : State) (L : Live) (c : Certainty) where
  abbrev ns : List ℕ
  ns = open_numbers S

  abbrev r : Response
  r = response S c

  old_universe : (v : Variable) → is_seen ns v.number ≡ true → response_universes r (new_variable ns v) ≡ universes S v
  old_universe v e = ap universe_or_root (slice_get-map (λ n. open_variable (info S n)) ns (place_of ns v.number) ∙ ap (option_map (λ n. open_variable (info S n))) (place_is ns v.number e)) ∙ at (info S v.number)
    where
      at : (o : Option VariableInfo) → (open_variable o).universe ≡ universe_in o
      at None = refl
      at (Some i) = refl

  module _ (m : ℕ) (first : HasRootsFirst S m) (w : Universes) (i : Instance) where
    abbrev o : Instance
    o = of_old ns i

    -- what is known of a root variable
    pub record IsRoot (n : ℕ) (k : VariableKind) : Type 0 where
      pub value : tree_number (root_values S) n ≡ Some (resolved_tree S (variable k n))
      pub answer : tree_number r.values n ≡ Some (renumbered_tree ns (resolved_tree S (variable k n)))

    root_is : (n : ℕ) (k : VariableKind) (j : VariableInfo) → info S n ≡ Some j → j.kind ≡ k → n < m → IsRoot n k
    root_is n k j e f less =
        let root : tree_number (roots_from 0 S.variables) n ≡ Some (variable j.kind (0 + n)) = roots_number S.variables 0 m (λ n i e. first n i e ∙ ap (λ k. nat_lt k m) (none_less n)) n j e (subst (λ k. k < m) (none_less n) less) in
        let there : tree_number (roots_from 0 S.variables) n ≡ Some (variable k n) = root ∙ ap (λ k. Some (variable j.kind k)) (sym (none_less n)) ∙ ap (λ k. Some (variable k n)) f in
        let value : tree_number (root_values S) n ≡ Some (resolved_tree S (variable k n)) = number_valued (value_at S) (roots_from 0 S.variables) n ∙ ap (option_map (resolved_tree S)) there in
        record {
          value = value;
          answer = number_regions ns (valued (instance (renumbering ns)) (root_values S)) n
              ∙ ap (option_map (with_regions_renumbered ns)) (number_valued (instance (renumbering ns)) (root_values S) n ∙ ap (option_map (valued_tree (instance (renumbering ns)))) value);
        }
      where
        none_less : (n : ℕ) → n ≡ 0 + n
        none_less n = omega arith

    -- what is said of a root variable is what is said of its value
    root_same : (n : ℕ) (k : VariableKind) → IsRoot n k → erase (alone (valued_tree (instance i) (renumbered_tree ns (resolved_tree S (variable k n))))) ≡ erase (alone (valued_tree (instance o) (resolved_tree S (variable k n))))
    root_same n k root = renumbered_same ns i (alone (resolved_tree S (variable k n))) (number_marked (is_missing ns) (root_values S) n (resolved_tree S (variable k n)) (none_is_missing (root_values S) (constraints S)) root.value)

    with_rest : Forest → Forest → Forest
    with_rest x none = none
    with_rest x (tree h a b) = tree h a x

    -- a root variable, and what comes after it
    root_row : (n : ℕ) (k : VariableKind) (rest : Forest) (p : Option Tree) → p ≡ Some (renumbered_tree ns (resolved_tree S (variable k n))) → IsRoot n k
        → erase (valued (instance i) (valued (answer_values r) rest)) ≡ erase (valued (instance o) (resolved S rest))
        → erase (valued (instance i) (begin (unwrap_or p (variable k n)) (valued (answer_values r) rest))) ≡ erase (valued (instance o) (begin (resolved_tree S (variable k n)) (resolved S rest)))
    unfolding with_rest
    root_row n k rest p e root others =
        ap (λ q. erase (valued (instance i) (begin (unwrap_or q (variable k n)) (valued (answer_values r) rest)))) e
        ∙ ap (with_rest (erase (valued (instance i) (valued (answer_values r) rest)))) (root_same n k root)
        ∙ ap (λ x. with_rest x (erase (alone (valued_tree (instance o) (resolved_tree S (variable k n)))))) others

    is_root : (n : ℕ) (k : VariableKind) → nat_le m n ≡ false → not (L n && has_kind k (info S n)) ≡ false → IsRoot n k
    is_root n k e known =
        let j = has_info (L n) k (info S n) known in
        root_is n k j.0 j.1 (kind_is j.0.kind k (ap (has_kind k) (sym j.1) ∙ kind_there (L n) k (info S n) known)) (leb-false m n e)

    other_node : (v : Values) (h : Head) (below rest : Forest) → v h ≡ None → valued v (tree h below rest) ≡ tree h (valued v below) (valued v rest)
    other_node v h below rest e = valued_node v h below rest ∙ ap (λ q. begin (unwrap_or q (record { head = h; children = valued v below })) (valued v rest)) e

    answers_same : (ts : Forest) → IsBelow m ts → holds (is_strange S L) ts ≡ false → AreLeaves ts → erase (valued (instance i) (valued (answer_values r) ts)) ≡ erase (valued (instance o) (resolved S ts))
    answers_same none b k l = refl
    answers_same (tree h below rest) b k l =
        let p = holds_parts (is_from m) h below rest b in
        let q = holds_parts (is_strange S L) h below rest k in
        node h p.here q.here (λ e. l.0 (ap (λ x. x || is_region h) e)) (answers_same below p.under q.under l.1) (answers_same rest p.others q.others l.2)
      where
        Said : Forest → Type 0
        Said ts = erase (valued (instance i) (valued (answer_values r) ts)) ≡ erase (valued (instance o) (resolved S ts))

        other : (h : Head) → answer_values r h ≡ None → value_at S h ≡ None → instance i h ≡ None → instance o h ≡ None → Said below → Said rest → Said (tree h below rest)
        other h a b c d under others =
            ap (λ ts. erase (valued (instance i) ts)) (other_node (answer_values r) h below rest a)
            ∙ ap erase (other_node (instance i) h (valued (answer_values r) below) (valued (answer_values r) rest) c)
            ∙ ap (λ b. tree (erased_head h) b (erase (valued (instance i) (valued (answer_values r) rest)))) under ∙ ap (tree (erased_head h) (erase (valued (instance o) (resolved S below)))) others
            ∙ ap erase (sym (other_node (instance o) h (resolved S below) (resolved S rest) d)) ∙ ap (λ ts. erase (valued (instance o) ts)) (sym (other_node (value_at S) h below rest b))

        node : (h : Head) → is_from m h ≡ false → is_strange S L h ≡ false → (is_some (variable_number h) ≡ true → below ≡ none) → Said below → Said rest → Said (tree h below rest)
        node (H.Infer v) b k l under others =
            let root = is_root v.number (Term v.sort) b k in
            subst (λ x. Said (tree (H.Infer v) x rest)) (sym (l refl)) (root_row v.number (Term v.sort) rest (tree_number r.values v.number) root.answer root others)
        node (H.Region (R.Var n)) b k l under others =
            let root = is_root n Region b k in
            subst (λ x. Said (tree (H.Region (R.Var n)) x rest)) (sym (l refl)) (root_row n Region rest (tree_number r.values n) root.answer root others)
        node h b k l under others = other h refl refl refl refl under others

  -- On the root variables each allowed instance of the response is one of the state.
  pub response_is : IsResponseOf S L r
  response_is m first w i allowed = record {
    of = of_old ns i;
    allowed = old_allowed ns i (universes S) (response_universes r) w old_universe allowed;
    same = λ ts b k l. answers_same m first w i ts b k l;
  }

pub none_pending : (ps : List Pending) → certainty_of ps ≡ Yes → ps ≡ []
none_pending [] e = refl
none_pending (p ∷ ps) e = cc
