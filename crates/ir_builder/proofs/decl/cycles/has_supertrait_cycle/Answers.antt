use Rattle.std.proofs.Common.{None, length, sym, ◌∙◌, ap, subst, arith}
use Rattle.ir_builder.specs.Calls.Cycles.{Search, Knows, HasEnded}
use Rattle.ir_trees.specs.Declarations.Declaring.{contents_of}
use Rattle.ir_trees.specs.Hierarchy.Supertraits.{named_supers}
use Rattle.ir_builder.proofs.Hierarchy.Cycles.{knows_start, none_seen_length, turn_knows, turn_seen, turn_length, ended, all_seen_ranked}
use Rattle.ir_context.proofs.Hierarchy.Supertraits.{no_names_past}
use Rattle.ir_builder.proofs.decl.cycles.has_supertrait_cycle.Goals as goal

pub loop-number-init : goal.loop-number-init
loop-number-init c =
    let names = named_supers c.args.nodes.now c.args.definitions.now (contents_of c.args.contents.now) in record {
      knows = subst (λ (s : Search). Knows names s None) (sym c.in_ok-search.ensures) (knows_start names (length c.args.definitions.now));
      ended = ap (λ (s : Search). s.frames) c.in_ok-search.ensures;
      all = ap (λ (s : Search). length s.visits) c.in_ok-search.ensures ∙ none_seen_length (length c.args.definitions.now);
      seen = λ i l u. absurd (omega (arith, l));
    }

pub run-requires : goal.run-requires
run-requires c =
    turn_knows (named_supers c.args.nodes.now c.args.definitions.now (contents_of c.args.contents.now)) c.loop-number.search c.meet.new.self c.loop-number.number c.in_ok-meet.field-0
    c.loop-number.invariant.knows c.loop-number.invariant.ended c.in_ok-meet.ensures.«open» c.if-branch.false c.in_ok-meet.ensures.met

pub loop-number-preserved : goal.loop-number-preserved
loop-number-preserved c =
    let names = named_supers c.args.nodes.now c.args.definitions.now (contents_of c.args.contents.now) in
    let end : HasEnded names c.meet.new.self c.run.new.self = ended names c.meet.new.self c.run.new.self c.in_ok-run.field-0 c.if-branch-2.false c.in_ok-run.ensures in record {
      knows = end.knows;
      ended = end.ended;
      all = turn_length c.loop-number.search c.meet.new.self c.run.new.self c.loop-number.number c.in_ok-meet.ensures.met end.kept ∙ c.loop-number.invariant.all;
      seen = turn_seen c.loop-number.search c.meet.new.self c.run.new.self c.loop-number.number c.loop-number.invariant.seen c.in_ok-meet.ensures.met end.kept;
    }

pub returns : goal.returns
returns c =
    let contents = contents_of c.args.contents.now in
    all_seen_ranked (named_supers c.args.nodes.now c.args.definitions.now contents) c.loop-number.search c.loop-number.invariant.knows c.loop-number.invariant.ended
    (λ i l. no_names_past c.args.nodes.now c.args.definitions.now contents i (omega (arith, l, c.loop-number.invariant.all)))
    (λ i l. c.loop-number.invariant.seen i (omega (arith, l, c.loop-number.invariant.all, c.loop-number-test.false)))
