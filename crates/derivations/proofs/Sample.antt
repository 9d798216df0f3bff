-- A derivation, written out: where a clause of the environment says of the trait number 7 that it holds of `u8`, it does, whatever is declared.
use Rattle.std.proofs.Common.{List, [], ◌∷◌, refl, false}
use Rattle.std.specs.List.{Contains}
use Rattle.std.proofs.lemmas.List.Elements.{All-contains_itself, All-head}
use Rattle.ir_trees.specs.declared.ir.heads.Builtin.TheVariants as B
use Rattle.ir_trees.specs.declared.ir.heads.ClauseHead.TheVariants as Cl
use Rattle.ir_trees.specs.declared.ir.heads.Head.TheVariants as H
use Rattle.ir_trees.specs.declared.ir.heads.PartHead.TheVariants as P
use Rattle.ir_trees.specs.declared.ir.kinds.PredicatePolarity.TheVariants as Pol
use Rattle.ir_trees.specs.declared.ir.kinds.UintTy.TheVariants as U
use Rattle.ir_trees.specs.Declarations.Context.{Context, Grows}
use Rattle.ir_trees.specs.Unification.Substitutions.{Universes, alone}
use Rattle.ir_trees.specs.Syntax.Trees.{none, tree, Tree}
use Rattle.candidate_eval.specs.Derivations.ImplRules.{TraitGoal}
use Rattle.candidate_assembly.specs.Answers.Assembled.{where_rule}
use Rattle.candidate_assembly.specs.Goals.TraitRules.{trait_rules}
use Rattle.rounds_judge.specs.Aliases.Congruence.{same}
use Rattle.derivations.specs.Derivations.{Derivation, by_clause, by_rule, done, said_by, with_equation, with_quick, with_settle, with_variables}

abbrev u8 : Tree
u8 = record { head = H.Builtin (B.Uint U.U8); children = none }

abbrev clause : Tree
clause = record { head = H.Part (P.Clause (Cl.Trait (record { 0 = 7 }) Pol.Positive)); children = tree (H.Part P.Vars) none (alone u8) }

abbrev goal : TraitGoal
goal = record { env = alone clause; reference = record { trait = 7; arguments = alone u8 }; polarity = Pol.Positive }

abbrev clauses : List Tree
clauses = clause ∷ []

pub derived : (d : Context) (w : Universes) → Grows d d → Derivation d (record { pairs = []; is_open = false }) w goal.env (said_by goal) goal.reference.arguments
derived d w grows =
    by_rule d goal (λ v. Rattle.std.specs.Prelude.None) (where_rule trait_rules d goal clause) none grows
    (record { no_parameter = refl; clean = (refl, (λ e. refl), tt, tt); is_known = refl; suits = refl; env = same goal.env; arguments = same goal.reference.arguments })
    (by_clause clause (All-head (Contains clauses) clause [] (All-contains_itself clauses))) refl tt
    (with_quick (alone u8) (alone u8) (with_variables [] none refl (with_equation (alone u8) (alone u8) (same (alone u8)) (with_settle done))))
