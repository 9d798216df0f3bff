-- Closures over an evaluator: one that always gives the same answer, and one that answers as where an alias is rigid.
use Rattle.std.specs.Prelude.{◌≡◌, ⊤}
use Rattle.std.specs.Borrow.{MutBor}
use Rattle.std.specs.Fn.{Once}
use Rattle.ir_trees.specs.declared.ir.kinds.ParamEnv.{ParamEnv}
use Rattle.candidate_eval.specs.Interface.Shown.{Shown}
use Rattle.candidate_assembly.specs.Answers.Shown.{Answers, Asked, Responded}
use Rattle.projection_goals.specs.declared.kind.NormalizesTo.{NormalizesTo}
use Rattle.projection_goals.specs.Equations.{rigid_response}

-- the evaluator stays as it is
abbrev pub always : {E R : Type 0} → R → Once (Unit {0}) (MutBor E × Unit {0}) (R × (MutBor E × Unit {0}))
always r = record { pre = λ f a. ⊤; post = λ f a b. (b.0 ≡ r) × (b.1.0.now ≡ a.0.now) }

-- the response where the term of the goal is the alias itself, in a probe
abbrev pub answers_rigid : {E : Type 0} → Shown E → ParamEnv → NormalizesTo → Asked E (Unit {0}) Responded
answers_rigid v env p = record { pre = λ f a. ⊤; post = λ f a b. Answers v a.0.now b.1.0.now (λ V. rigid_response V env p) b.0 }
