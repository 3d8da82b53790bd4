use Rattle.token_laws.proofs.Numbers as numbers
use Rattle.token_laws.proofs.laws.counted_are_read.Goals as goal

pub returns : goal.returns
returns c = numbers.counted_are_read
