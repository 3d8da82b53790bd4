use Rattle.answer_laws.proofs.Checked.{rejected_is_checked}
use Rattle.answer_laws.proofs.laws.rejected_is_checked.Goals as goal

pub returns : goal.returns
returns c =
    rejected_is_checked c.programs_are_owned.ensures c.elements_are_named.ensures.named c.rejected_reads_back.ensures
    c.tokens_have_no_feed.ensures
