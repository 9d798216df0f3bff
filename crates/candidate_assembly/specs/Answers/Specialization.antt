-- Impls that give way to others that specialise them.
use Rattle.std.specs.Prelude.{◌≡◌, Bool, true, false, not, ◌&&◌, ◌==◌, List, [], ◌∷◌, ◌++◌, if◌then◌else◌}
use Rattle.std.specs.List.{filter, list_any}
use Rattle.ir_trees.specs.declared.decl.contents.ImplId.{ImplId}
use Rattle.ir_trees.specs.Declarations.Context.{Context}
use Rattle.ir_trees.specs.Declarations.Contents.{Impl}
use Rattle.ir_trees.specs.Declarations.Declaring.{impl_at}
use Rattle.ir_trees.specs.Declarations.Lookups.{maybe}
use Rattle.candidate_eval.specs.declared.eval.mode.TypingMode.{TypingMode}
use Rattle.candidate_eval.specs.declared.eval.source.CandidateSource.{CandidateSource}
use Rattle.candidate_eval.specs.declared.eval.source.CandidateSource.TheVariants as Source
use Rattle.candidate_eval.specs.Outcomes.Responses.{Candidate, Response, has_only_region_constraints}
use Rattle.candidate_assembly.specs.declared.assembly.specialization.AllowInferenceConstraints.{AllowInferenceConstraints}
use Rattle.candidate_assembly.specs.declared.assembly.specialization.AllowInferenceConstraints.TheVariants as Allow
use Rattle.candidate_assembly.specs.Answers.Assembled.{is_coherence}

-- The first impl is declared to specialise the second.
abbrev pub specializes : Context → ImplId → ImplId → Bool
specializes c m n = maybe false (λ (i : Impl). list_any (λ (j : ImplId). j.0 == n.0) i.specializes) (impl_at c m)

-- A candidate with such a response may drive others out: any may, or only one that finds no value of a variable.
abbrev pub is_eligible : AllowInferenceConstraints → Response → Bool
is_eligible Allow.Yes r = true
is_eligible Allow.No r = has_only_region_constraints r

-- It is an impl that specialises that one.
abbrev pub is_special_case : Context → ImplId → CandidateSource → Bool
is_special_case c n (Source.Impl m) = specializes c m n
is_special_case c n _ = false

module _ (c : Context) (a : AllowInferenceConstraints) where
  abbrev pub drives_out : ImplId → Candidate → Bool
  drives_out n x = is_special_case c n x.source && is_eligible a x.result

  -- One of the candidates is eligible and by an impl that specialises it.
  abbrev pub is_driven_out : List Candidate → CandidateSource → Bool
  is_driven_out xs (Source.Impl n) = list_any (drives_out n) xs
  is_driven_out xs _ = false

  -- What stays of candidates, where the first list is what stayed before them: each is compared with those that stayed and with those that
  -- come after it. What is gone no longer counts.
  abbrev pub scanned : List Candidate → List Candidate → List Candidate
  scanned stayed [] = stayed
  scanned stayed (x ∷ xs) = if is_driven_out (stayed ++ xs) x.source then scanned stayed xs else scanned (stayed ++ x ∷ []) xs

-- The list without impls that others of it specialise, looked through from the front. In coherence all stay.
abbrev pub unspecialized : Context → TypingMode → AllowInferenceConstraints → List Candidate → List Candidate
unspecialized c m a xs = if is_coherence m then xs else scanned c a [] xs

-- No impl specialises itself, and what specialises a special case of an impl specialises that impl.
pub record IsStrictOrder (R : ImplId → ImplId → Bool) : Type 0 where
  pub irreflexive : (n : ImplId) → R n n ≡ false
  pub transitive : (l m n : ImplId) → R l m ≡ true → R m n ≡ true → R l n ≡ true

-- The candidates that no candidate of the whole list drives out.
abbrev pub undriven : Context → TypingMode → AllowInferenceConstraints → List Candidate → List Candidate
undriven c m a xs = if is_coherence m then xs else filter (λ (x : Candidate). not (is_driven_out c a xs x.source)) xs
