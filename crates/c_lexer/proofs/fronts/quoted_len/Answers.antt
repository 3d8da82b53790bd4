use Rattle.std.proofs.Common.{sym, ◌∙◌}
use Rattle.std.proofs.lemmas.List.{take_rest}
use Rattle.c_lexer.proofs.QuoteLemmas.{quoted-shifted, shifted-long, shifted-shorter, shifted-none}
use Rattle.c_lexer.proofs.fronts.quoted_len.Goals as goal

-- a quote and the longest tail behind it are the longest quoted bytes
pub returns-in-Some-clause-longest : goal.returns-in-Some-clause-longest
returns-in-Some-clause-longest c =
    let begins = sym c.begins_with_byte.ensures ∙ c.if-not-begins_with_byte.false in
    shifted-long (quoted-shifted c.args.quote c.args.bytes.now begins) c.in-Some.n
    (rw take_rest at c.in-Some.ensures.longest)

-- a quote with no tail behind it has nothing quoted in front
pub returns-in-None-clause-longest : goal.returns-in-None-clause-longest
returns-in-None-clause-longest c =
    let begins = sym c.begins_with_byte.ensures ∙ c.if-not-begins_with_byte.false in
    shifted-none (quoted-shifted c.args.quote c.args.bytes.now begins) (rw take_rest at c.in-None.ensures.longest)

-- no front shorter than the quoted bytes that were found is quoted
pub returns-in-Some-clause-only : goal.returns-in-Some-clause-only
returns-in-Some-clause-only c =
    let begins = sym c.begins_with_byte.ensures ∙ c.if-not-begins_with_byte.false in
    shifted-shorter (quoted-shifted c.args.quote c.args.bytes.now begins) c.in-Some.n
    (rw take_rest at c.in-Some.ensures.only)
