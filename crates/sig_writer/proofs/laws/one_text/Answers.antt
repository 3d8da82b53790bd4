use Rattle.sig_writer.proofs.OneText.{one_text}
use Rattle.sig_writer.proofs.laws.one_text.Goals as goal

pub returns : goal.returns
returns c = one_text
