use Rattle.std.proofs.Common.{sym, ◌∙◌}
use Rattle.std.proofs.lemmas.List.{take_rest}
use Rattle.c_lexer.proofs.QuoteLemmas.{u8-shifted, shifted-long, shifted-none}
use Rattle.c_lexer.proofs.fronts.text_len.Goals as goal

-- `u8` and the longest quoted bytes behind it are the longest string literal
pub returns-in-Some : goal.returns-in-Some
returns-in-Some c =
    let begins = sym c.begins_with_u8.ensures ∙ c.if-not-begins_with_u8.false in
    shifted-long (u8-shifted c.args.bytes.now begins) c.in-Some.n (rw take_rest at c.in-Some.ensures.longest)

-- `u8` with no quoted bytes behind it is no string literal
pub returns-in-None : goal.returns-in-None
returns-in-None c =
    let begins = sym c.begins_with_u8.ensures ∙ c.if-not-begins_with_u8.false in
    shifted-none (u8-shifted c.args.bytes.now begins) (rw take_rest at c.in-None.ensures.longest)
