-- The tokens inside brackets are read by a loop.
use Rattle.c_reading.specs.Tokens.{bracket_turn}
use Rattle.reader_base.specs.Looping.{IsLoop}
use Rattle.reader_base.proofs.Looping.{is_loop}
use Rattle.c_reading.proofs.Groups.{bracket_shrinks}

pub bracket_loop : IsLoop bracket_turn
bracket_loop = is_loop bracket_turn bracket_shrinks
