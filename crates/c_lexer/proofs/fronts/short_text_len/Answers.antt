use Rattle.c_lexer.specs.Spelling.{is_text, is_quoted}
use Rattle.std.proofs.Common.{sym, ◌∙◌}
use Rattle.std.proofs.lemmas.List.{take_rest}
use Rattle.c_lexer.proofs.QuoteLemmas.{text-shifted, text-plain, alike, shifted-long, shifted-none}
use Rattle.c_lexer.proofs.fronts.short_text_len.Goals as goal

pub returns-then-not-begins_with_wide : goal.returns-then-not-begins_with_wide
returns-then-not-begins_with_wide c =
    alike is_text (is_quoted 34) c.args.bytes.now (text-plain c.args.bytes.now
    (sym c.begins_with_wide.ensures ∙ c.if-not-begins_with_wide.true)) c.quoted_len.result c.quoted_len.ensures.longest

-- a prefix of one byte and the longest quoted bytes behind it are the longest string literal
pub returns-in-Some : goal.returns-in-Some
returns-in-Some c =
    let begins = sym c.begins_with_wide.ensures ∙ c.if-not-begins_with_wide.false in
    shifted-long (text-shifted c.args.bytes.now begins c.requires) c.in-Some.n
    (rw take_rest at c.in-Some.ensures.longest)

-- a prefix of one byte with no quoted bytes behind it is no string literal
pub returns-in-None : goal.returns-in-None
returns-in-None c =
    let begins = sym c.begins_with_wide.ensures ∙ c.if-not-begins_with_wide.false in
    shifted-none (text-shifted c.args.bytes.now begins c.requires) (rw take_rest at c.in-None.ensures.longest)
