use Rattle.std.proofs.Common.{take, reverse}
use Rattle.name_state.specs.NameLinks.Tables.{AreStatics}
use Rattle.sig_writer.proofs.functions.find_statics.Given as goal

abbrev pub invariant-loop-it : goal.invariant-loop-it
invariant-loop-it l = AreStatics (reverse (take l.it-index l.statics)) l.known
