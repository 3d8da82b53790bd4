use Rattle.report_laws.proofs.Spelled.{tokens_have_no_feed}
use Rattle.report_laws.proofs.laws.tokens_have_no_feed.Goals as goal

pub returns : goal.returns
returns c = tokens_have_no_feed
