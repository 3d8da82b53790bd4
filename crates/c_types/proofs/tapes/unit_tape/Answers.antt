use Rattle.std.proofs.Common.{◌∙◌, ap, List}
use Rattle.tape_ops.specs.declared.op.Op.{Op}
use Rattle.name_rules.specs.Spellings.{Spelling}
use Rattle.name_rules.specs.NameSteps.Units.{Tape}
use Rattle.c_types.specs.SourceSpelling.Tokens.{spelling_behind}
use Rattle.c_types.proofs.tapes.unit_tape.Goals as goal

-- the tape of a source is that which the rules give it behind the earlier units
pub returns : goal.returns
returns c =
    λ units are.
    ap (λ (u : Spelling). let t : Tape = record { spelling = u; ops = c.in_ok-ops.ops.items } in t)
    (c.in_ok-spelling.ensures units are)
    ∙ ap (λ (os : List Op).
    let t : Tape = record { spelling = spelling_behind units c.args.source.now.tokens; ops = os } in t)
    c.in_ok-ops.ensures
