use Rattle.std.proofs.Common.{◌≡◌, All, take}
use Rattle.std.specs.Prelude.{string_bytes}
use Rattle.ir_trees.specs.Syntax.Words.{IsTy}
use Rattle.candidate_eval.specs.Knowability.Answers.{entries_of}
use Rattle.assembly_text.proofs.Checked.{EntriesSoFar}
use Rattle.assembly_text.proofs.asking.Asking.print_nonlocal.Given as goal

-- the types are still those of the context, and the entries before stand in the text
abbrev pub invariant-loop-ty : goal.invariant-loop-ty
invariant-loop-ty l =
    All (λ e. IsTy l.self.scope.maker.trees e.0) l.entries × (l.self.scope ≡ l.fn.self.scope)
    × EntriesSoFar (entries_of l.fn.self.scope.maker.trees (take l.ty-index l.entries)) (string_bytes l.fn.self.answer) (string_bytes l.self.answer)
    × (l.self.given ≡ l.fn.self.given)
