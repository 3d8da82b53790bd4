use Rattle.std.proofs.Common.{◌∙◌, sym}
use Rattle.c_lexer.proofs.ReachLemmas.{stop-kept}
use Rattle.c_lexer.proofs.lexing.fault_of.Goals as goal

pub spot_in-requires-clause-rising : goal.spot_in-requires-clause-rising
spot_in-requires-clause-rising c =
    (stop-kept c.args.text.now.0 c.requires.stops.0 c.requires.stops.1 c.args.text.now.1 c.args.front.now c.args.stop
    c.requires.stops.2 (λ e. let h = sym c.in-BadByte.is ∙ e in cc)).rising

pub spot_in-requires-in-Unended-clause-rising : goal.spot_in-requires-in-Unended-clause-rising
spot_in-requires-in-Unended-clause-rising c =
    (stop-kept c.args.text.now.0 c.requires.stops.0 c.requires.stops.1 c.args.text.now.1 c.args.front.now c.args.stop
    c.requires.stops.2 (λ e. let h = sym c.in-Unended.is ∙ e in cc)).rising

pub spot_in-requires-in-UnknownQualifier-clause-rising : goal.spot_in-requires-in-UnknownQualifier-clause-rising
spot_in-requires-in-UnknownQualifier-clause-rising c =
    (stop-kept c.args.text.now.0 c.requires.stops.0 c.requires.stops.1 c.args.text.now.1 c.args.front.now c.args.stop
    c.requires.stops.2 (λ e. let h = sym c.in-UnknownQualifier.is ∙ e in cc)).rising
