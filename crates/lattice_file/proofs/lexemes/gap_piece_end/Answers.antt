use Rattle.std.proofs.Common.{sym, ◌∙◌}
use Rattle.lattice_file.proofs.GapLemmas.{blank_gap, gap_none}
use Rattle.lattice_file.proofs.lexemes.gap_piece_end.Goals as goal

pub returns-then-is_blank_byte-clause-gap : goal.returns-then-is_blank_byte-clause-gap
returns-then-is_blank_byte-clause-gap c =
    blank_gap c.args.bytes.now c.args.at c.requires (sym c.is_blank_byte.ensures ∙ c.if-is_blank_byte.true)

pub returns-else-bytes-at-eq47-clause-gap : goal.returns-else-bytes-at-eq47-clause-gap
returns-else-bytes-at-eq47-clause-gap c = gap_none c.args.bytes.now c.args.at
