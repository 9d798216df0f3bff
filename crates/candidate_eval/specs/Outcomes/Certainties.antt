-- How sure two answers together are.
use Rattle.std.specs.Prelude.{◌||◌, ◌&&◌}
pub use Rattle.candidate_eval.specs.declared.eval.certainty.Certainty.{Certainty}
pub use Rattle.candidate_eval.specs.declared.eval.certainty.Certainty.TheVariants.{Yes, Maybe}
pub use Rattle.candidate_eval.specs.declared.eval.certainty.MaybeInfo.{MaybeInfo}
pub use Rattle.candidate_eval.specs.declared.eval.certainty.MaybeCause.{MaybeCause}
pub use Rattle.candidate_eval.specs.declared.eval.certainty.MaybeCause.TheVariants.{Ambiguity, Overflow}
pub use Rattle.candidate_eval.specs.declared.eval.certainty.OpaqueTypesJank.{OpaqueTypesJank}
pub use Rattle.candidate_eval.specs.declared.eval.certainty.OpaqueTypesJank.TheVariants.{AllGood, ErrorIfRigidSelfTy}

-- too little is known, and there is nothing to report
abbrev pub AMBIGUOUS : Certainty
AMBIGUOUS = Maybe (record { cause = Ambiguity; opaque_types_jank = AllGood })

-- An overflow, if either is one. A higher limit may help, if it may help either; constraints are kept, if all overflows keep
-- them.
abbrev pub cause_and : MaybeCause → MaybeCause → MaybeCause
cause_and Ambiguity c = c
cause_and (Overflow s k) Ambiguity = Overflow s k
cause_and (Overflow s k) (Overflow t l) = Overflow (s || t) (k && l)

abbrev pub jank_and : OpaqueTypesJank → OpaqueTypesJank → OpaqueTypesJank
jank_and AllGood j = j
jank_and ErrorIfRigidSelfTy j = ErrorIfRigidSelfTy

abbrev pub info_and : MaybeInfo → MaybeInfo → MaybeInfo
info_and a b = record { cause = cause_and a.cause b.cause; opaque_types_jank = jank_and a.opaque_types_jank b.opaque_types_jank }

-- As sure as the one that is less so; a Yes leaves the other as it is.
abbrev pub certainty_and : Certainty → Certainty → Certainty
certainty_and Yes c = c
certainty_and (Maybe a) Yes = Maybe a
certainty_and (Maybe a) (Maybe b) = Maybe (info_and a b)
