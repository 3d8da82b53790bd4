use Rattle.std.proofs.Common.{◌-◌, length}
use Rattle.sig_writer.proofs.types.+put_before.Given as goal

-- parts have higher numbers
abbrev pub decreases-put_before : goal.decreases-put_before
decreases-put_before l = length l.typed.now.vars.now - l.at
