-- Kinds of sources, by which it is said which candidates win.
use Rattle.std.specs.Prelude.{Bool, true, false, Option, Some, None}
use Rattle.ir_trees.specs.declared.decl.contents.AliasBoundKind.TheVariants.{SelfBounds}
use Rattle.candidate_eval.specs.declared.eval.source.BuiltinImplSource.TheVariants as Builtin
use Rattle.candidate_eval.specs.declared.eval.source.CandidateSource.{CandidateSource}
use Rattle.candidate_eval.specs.declared.eval.source.CandidateSource.TheVariants as Source
use Rattle.candidate_eval.specs.declared.eval.source.ParamEnvSource.TheVariants.{Global, NonGlobal}
use Rattle.candidate_assembly.specs.declared.assembly.sources.SourceKind.{SourceKind}
use Rattle.candidate_assembly.specs.declared.assembly.sources.SourceKind.TheVariants as Kind
use Rattle.candidate_assembly.specs.Answers.Assembled.{is_of_environment, is_trivial}
use Rattle.candidate_eval.specs.declared.eval.certainty.Certainty.{Certainty}
use Rattle.candidate_eval.specs.declared.eval.certainty.Certainty.TheVariants.{Yes}
use Rattle.candidate_eval.specs.declared.eval.source.ParamEnvSource.{ParamEnvSource}
use Rattle.candidate_eval.specs.Derivations.Characterization.{Walk, Goes, Finds}
use Rattle.candidate_eval.specs.Judges.States.{State}

abbrev pub is_impl : CandidateSource → Bool
is_impl (Source.Impl n) = true
is_impl _ = false

-- a bound that an object states of itself
abbrev pub is_object : CandidateSource → Bool
is_object (Source.BuiltinImpl (Builtin.Object n)) = true
is_object _ = false

abbrev pub is_alias_bound : CandidateSource → Bool
is_alias_bound (Source.AliasBound b) = true
is_alias_bound _ = false

-- a bound of the alias itself, and not of one that it stands in
abbrev pub is_self_bound : CandidateSource → Bool
is_self_bound (Source.AliasBound SelfBounds) = true
is_self_bound _ = false

abbrev pub is_non_global : CandidateSource → Bool
is_non_global (Source.ParamEnv NonGlobal) = true
is_non_global _ = false

abbrev pub is_global : CandidateSource → Bool
is_global (Source.ParamEnv Global) = true
is_global _ = false

-- of that kind
abbrev pub is_of : SourceKind → CandidateSource → Bool
is_of Kind.Trivial s = is_trivial s
is_of Kind.Impl s = is_impl s
is_of Kind.Object s = is_object s
is_of Kind.AliasBound s = is_alias_bound s
is_of Kind.SelfBound s = is_self_bound s
is_of Kind.WhereBound s = is_of_environment s
is_of Kind.NonGlobal s = is_non_global s
is_of Kind.Global s = is_global s

-- The source and certainty of a clause that was characterised, and the state that the walk leaves.
abbrev pub answer_of : Walk → Option ((ParamEnvSource × Certainty) × State)
answer_of (Goes S) = Some ((Global, Yes), S)
answer_of (Finds S c) = Some ((NonGlobal, c), S)
answer_of _ = None
