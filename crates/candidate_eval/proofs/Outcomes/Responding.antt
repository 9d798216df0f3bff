-- Responses of a context that grows, and those that no evaluator refuses.
use Rattle.std.proofs.Common.{◌≡◌, refl, ap, sym, ◌∙◌, List, [], ◌∷◌, map, Some, None}
use Rattle.ir_trees.specs.declared.ir.kinds.Clause.{Clause}
use Rattle.ir_trees.specs.Syntax.Trees.{Forest, Tree}
use Rattle.ir_trees.specs.Declarations.Context.{Context, Grows}
use Rattle.ir_trees.specs.Syntax.Words.{IsClause, ClauseListFits, clause_tree}
use Rattle.ir_folds.proofs.Instantiation.Joining.{clause-kept}
use Rattle.ir_trees.proofs.Growth.Kept.{args-kept}
use Rattle.candidate_eval.specs.declared.eval.response.CanonicalResponse.{CanonicalResponse}
use Rattle.candidate_eval.specs.Outcomes.Certainties.{Certainty}
use Rattle.candidate_eval.specs.Judges.Instances.{IsResponseOf}
use Rattle.candidate_eval.specs.Outcomes.Responses.{Response}
use Rattle.candidate_eval.specs.Judges.Soundness.{Live}
use Rattle.candidate_eval.specs.Outcomes.ResponseTrees.{IsResponse, response_of}
use Rattle.candidate_eval.specs.Judges.States.{State, Judge, with_pending}
use Rattle.candidate_eval.specs.Judges.Lawful.{Lawful}

pub clauses-kept : (old new : Context) (xs : List Clause) → Grows old new → ClauseListFits old.trees xs
    → ClauseListFits new.trees xs × (map (clause_tree new.trees) xs ≡ map (clause_tree old.trees) xs)
clauses-kept old new [] g h = (refl, refl)
clauses-kept old new (x ∷ xs) g h =
    let first : IsClause old.trees x = cc in
    let rest : ClauseListFits old.trees xs = cc in
    let k = clause-kept old new x g first in
    let l = clauses-kept old new xs g rest in
    let now : IsClause new.trees x = k.0 in
    let more : ClauseListFits new.trees xs = l.0 in
    (cc, ap (λ t. t ∷ map (clause_tree new.trees) xs) k.1 ∙ ap (λ ts. clause_tree old.trees x ∷ ts) l.1)

pub response-fits : (old new : Context) (r : CanonicalResponse) → Grows old new → IsResponse old.trees r → IsResponse new.trees r
response-fits old new r g h = record {
  values = (args-kept old new r.values g h.values).0;
  regions = (clauses-kept old new r.regions.items g h.regions).0;
}

abbrev of_parts : CanonicalResponse → Forest → List Tree → Response
of_parts r values regions = record { vars = r.vars.items; values = values; regions = regions; certainty = r.certainty }

same-parts : (r : CanonicalResponse) (xs ys : Forest) (ts us : List Tree) → xs ≡ ys → ts ≡ us → of_parts r xs ts ≡ of_parts r ys us
same-parts r xs ys ts us e f = ap (λ x. of_parts r x ts) e ∙ ap (of_parts r ys) f

pub response-kept : (old new : Context) (r : CanonicalResponse) → Grows old new → IsResponse old.trees r → response_of new.trees r ≡ response_of old.trees r
response-kept old new r g h = same-parts r _ _ _ _ (args-kept old new r.values g h.values).1 (clauses-kept old new r.regions.items g h.regions).1

none-is-none : {A : Type 0} (a : A) → None ≡ Some a → ⊥
none-is-none a e = absurd cc

-- With nothing pending no response is refused, and its certainty is the one asked.

pub not-refused : (J : Judge) → Lawful J → (S : State) (c : Certainty) → J.responded (with_pending S []) c ≡ None → ⊥
not-refused J law S c e =
    let a = law.responses.empty_is_answered (with_pending S []) c refl in
    none-is-none a.response (sym e ∙ a.is)

pub as-asked : (J : Judge) → Lawful J → (S : State) (c : Certainty) (r : Response) → J.responded (with_pending S []) c ≡ Some r → r.certainty ≡ c
as-asked J law S c r e =
    let a = law.responses.empty_is_answered (with_pending S []) c refl in
    let f : Some r ≡ Some a.response = sym e ∙ a.is in
    let same : r ≡ a.response = cc in
    ap (λ (x : Response). x.certainty) same ∙ a.as_asked

pub of-state : (J : Judge) → Lawful J → (S : State) (L : Live) (c : Certainty) (r : Response) → J.responded (with_pending S []) c ≡ Some r → IsResponseOf (with_pending S []) L r
of-state J law S L c r e = law.responses.empty_is_of_state (with_pending S []) L c r refl e
