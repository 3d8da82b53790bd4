-- Names by the tapes of units, one after another.
use Rattle.std.specs.Prelude.{List, [], ◌∷◌}
use Rattle.tape_ops.specs.declared.op.Op.{Op}
use Rattle.name_rules.specs.Spellings.{Spelling}
use Rattle.name_rules.specs.Scopes.{Names}
use Rattle.name_rules.specs.Units.{unit_begun}
use Rattle.name_rules.specs.NameSteps.State.{with_names}
use Rattle.name_rules.specs.NameSteps.Steps.{run}

-- the tape of a unit, and what is read from its tokens
pub record Tape : Type 0 where
  pub spelling : Spelling
  pub ops : List Op

-- what is known of names behind the tape of a unit
abbrev pub tape_named : Tape → Names → Names
tape_named it s = (run it.spelling it.ops (with_names s)).names

-- what is known of names behind the tapes of units, one after another
abbrev pub tapes_named : List Tape → Names → Names
tapes_named [] s = s
tapes_named (it ∷ tapes) s = tapes_named tapes (tape_named it (unit_begun it.spelling.unit s))
