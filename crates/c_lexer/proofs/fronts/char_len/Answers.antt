use Rattle.c_lexer.specs.Spelling.{is_char, is_quoted}
use Rattle.std.proofs.Common.{sym, ◌∙◌}
use Rattle.std.proofs.lemmas.List.{take_rest}
use Rattle.c_lexer.proofs.QuoteLemmas.{char-shifted, char-plain, alike, shifted-long, shifted-none}
use Rattle.c_lexer.proofs.fronts.char_len.Goals as goal

pub returns-then-not-begins_with_wide : goal.returns-then-not-begins_with_wide
returns-then-not-begins_with_wide c =
    alike is_char (is_quoted 39) c.args.bytes.now (char-plain c.args.bytes.now
    (sym c.begins_with_wide.ensures ∙ c.if-not-begins_with_wide.true)) c.quoted_len.result c.quoted_len.ensures.longest

-- a prefix and the longest quoted bytes behind it are the longest character constant
pub returns-in-Some : goal.returns-in-Some
returns-in-Some c =
    let begins = sym c.begins_with_wide.ensures ∙ c.if-not-begins_with_wide.false in
    shifted-long (char-shifted c.args.bytes.now begins) c.in-Some.n (rw take_rest at c.in-Some.ensures.longest)

-- a prefix with no quoted bytes behind it is no character constant
pub returns-in-None : goal.returns-in-None
returns-in-None c =
    let begins = sym c.begins_with_wide.ensures ∙ c.if-not-begins_with_wide.false in
    shifted-none (char-shifted c.args.bytes.now begins) (rw take_rest at c.in-None.ensures.longest)
