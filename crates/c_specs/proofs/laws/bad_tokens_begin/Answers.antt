use Rattle.c_specs.proofs.BadTokens.{bad_tokens_begin}
use Rattle.c_specs.proofs.laws.bad_tokens_begin.Goals as goal

pub returns : goal.returns
returns c = bad_tokens_begin
