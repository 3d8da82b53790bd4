use Rattle.std.proofs.Common.{◌∙◌, refl}
use Rattle.std.proofs.lemmas.Result.{err_from_is_err_and}
use Rattle.cq_prelude.proofs.ReadLemmas.{memory_only, not_parsed, parse_fault, unit_fault, unit_is}
use Rattle.cq_prelude.proofs.reading.read_prelude.Goals as goal

-- where bytes are a prelude, reading their tokens fails by want of memory alone
pub returns-in_err-tokens-clause-only : goal.returns-in_err-tokens-clause-only
returns-in_err-tokens-clause-only c it marks h =
    let p = err_from_is_err_and c.from_residual.result c.from_residual.ensures.1 in
    rw p.1 (p.2 ∙ c.in_err-tokens.ensures.only it.lexed h.parses.lexes)

-- a fault of the unit that was parsed is a fault of the bytes
pub returns-in_err-prelude-in-Ok-clause-refused : goal.returns-in_err-prelude-in-Ok-clause-refused
returns-in_err-prelude-in-Ok-clause-refused c =
    let p =
    err_from_is_err_and c.from_residual-in_err-prelude-in-Ok.result c.from_residual-in_err-prelude-in-Ok.ensures.1 in
    rw (p.1, p.2) (unit_fault _ _ _ _ _
    (record { lexes = c.in_ok-tokens.ensures.lexes; formed = c.in-Ok.ensures.unit })
    c.in_err-prelude-in-Ok.ensures.fault)

-- where bytes are a prelude, judging the unit that was parsed fails by want of memory alone
pub returns-in_err-prelude-in-Ok-clause-only : goal.returns-in_err-prelude-in-Ok-clause-only
returns-in_err-prelude-in-Ok-clause-only c it marks h =
    let p =
    err_from_is_err_and c.from_residual-in_err-prelude-in-Ok.result c.from_residual-in_err-prelude-in-Ok.ensures.1 in
    let same =
    unit_is _ _ _ it marks _ _ (c.in_ok-tokens.ensures.only it.lexed h.parses.lexes) c.in-Ok.ensures.only h in
    rw p.1 (p.2 ∙ memory_only _ _ _ it marks _ _ same h c.in_err-prelude-in-Ok.ensures.fault)

pub returns-in-Ok-clause-only : goal.returns-in-Ok-clause-only
returns-in-Ok-clause-only c it marks h =
    unit_is _ _ _ it marks _ _ (c.in_ok-tokens.ensures.only it.lexed h.parses.lexes) c.in-Ok.ensures.only h

pub returns-clause-refused : goal.returns-clause-refused
returns-clause-refused c =
    rw c.parse_refused.ensures (parse_fault _ _ _ _ _ c.in_ok-tokens.ensures.lexes (c.in-Err.ensures.refused _ refl))

-- where bytes are a prelude, their parse fails by want of memory alone
pub returns-clause-only : goal.returns-clause-only
returns-clause-only c it marks h =
    c.parse_refused.ensures ∙ not_parsed _ _ _ it marks _ _ (c.in_ok-tokens.ensures.only it.lexed h.parses.lexes)
    (λ reason. (c.in-Err.ensures.refused _ refl reason).none) h
