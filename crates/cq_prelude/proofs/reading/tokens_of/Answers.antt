use Rattle.std.proofs.Common.{◌∙◌}
use Rattle.cq_prelude.proofs.ReadLemmas.{lex_only, lex_refusal, same_lexed}
use Rattle.cq_prelude.proofs.reading.tokens_of.Goals as goal

-- the tokens that were read are those that the bytes spell by any reading
pub returns-in-Ok-clause-only : goal.returns-in-Ok-clause-only
returns-in-Ok-clause-only c lexed h =
    same_lexed _ _ _ _ lexed
    (rw c.new.ensures at c.in-Ok.ensures.unit) c.in-Ok.ensures.wide c.in-Ok.ensures.bytes c.in-Ok.ensures.keywords h
    (rw c.new.ensures at c.in-Ok.ensures.only)

pub returns-in-Err-clause-refused : goal.returns-in-Err-clause-refused
returns-in-Err-clause-refused c =
    rw c.lex_refused.ensures (lex_refusal _ _ _ c.in-Err.fault (rw c.new.ensures at c.in-Err.ensures.refused))

pub returns-in-Err-clause-only : goal.returns-in-Err-clause-only
returns-in-Err-clause-only c lexed h =
    c.lex_refused.ensures ∙ lex_only _ _ _ lexed c.in-Err.fault h (rw c.new.ensures at c.in-Err.ensures.only)
