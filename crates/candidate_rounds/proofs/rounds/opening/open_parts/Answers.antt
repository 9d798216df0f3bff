use Rattle.ir_trees.specs.Syntax.Trees.{ArgumentsKind}
use Rattle.ir_trees.proofs.Syntax.Lists.{below_kind}
use Rattle.std.proofs.Common.{refl}
use Rattle.candidate_rounds.proofs.rounds.opening.open_parts.Goals as goal

pub note_parts-requires-clause-number : goal.note_parts-requires-clause-number
note_parts-requires-clause-number c = below_kind c.args.cx.now.trees c.args.a.0 ArgumentsKind refl c.requires.left

pub note_parts-requires-2-clause-number : goal.note_parts-requires-2-clause-number
note_parts-requires-2-clause-number c = below_kind c.args.cx.now.trees c.args.b.0 ArgumentsKind refl c.requires.right
