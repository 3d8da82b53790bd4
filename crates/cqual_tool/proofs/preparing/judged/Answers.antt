use Rattle.cqual_tool.proofs.Joining.{read_all}
use Rattle.cqual_tool.proofs.preparing.judged.Goals as goal

-- the earlier units as tokens and tapes give what is prepared of them
pub returns : goal.returns
returns c = λ number units earlier.
    c.resolved.ensures units
    (record {
      parts = c.into_parts-tokens.ensures units earlier.are;
      read = read_all units earlier.may.formed;
      differ = earlier.may.differ;
    })
