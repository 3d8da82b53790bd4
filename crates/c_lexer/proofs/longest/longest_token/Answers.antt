use Rattle.std.proofs.Common.{sym, ◌∙◌}
use Rattle.c_lexer.proofs.TokenLemmas.{longest-char, longest-text, longest-word, longest-dollar, longest-number, longest-sign, longest-none}
use Rattle.c_lexer.proofs.longest.longest_token.Goals as goal

pub returns-in-Some-clause-longest : goal.returns-in-Some-clause-longest
returns-in-Some-clause-longest c = longest-char c.args.bytes.now c.in-Some.n c.in-Some.ensures

pub returns-in-Some-text_len-clause-longest : goal.returns-in-Some-text_len-clause-longest
returns-in-Some-text_len-clause-longest c =
    longest-text c.args.bytes.now c.in-Some-text_len.n c.in_default.ensures c.in-Some-text_len.ensures

pub returns-then-begins_with_letter-clause-longest : goal.returns-then-begins_with_letter-clause-longest
returns-then-begins_with_letter-clause-longest c =
    longest-word c.args.bytes.now c.word_len.result c.in_default.ensures c.in_default-text_len.ensures
    (sym c.begins_with_letter.ensures ∙ c.if-begins_with_letter.true) c.word_len.ensures

pub returns-then-begins_with_dollar-clause-longest : goal.returns-then-begins_with_dollar-clause-longest
returns-then-begins_with_dollar-clause-longest c =
    longest-dollar c.args.bytes.now c.dollar_len.result c.in_default.ensures c.in_default-text_len.ensures
    (sym c.begins_with_dollar.ensures ∙ c.if-begins_with_dollar.true) c.dollar_len.ensures

-- a number is the longest token where no literal, letter or `$` is in front
pub returns-in-Some-number_len-clause-longest : goal.returns-in-Some-number_len-clause-longest
returns-in-Some-number_len-clause-longest c =
    longest-number c.args.bytes.now c.in-Some-number_len.n c.in_default.ensures c.in_default-text_len.ensures
    (sym c.begins_with_letter.ensures ∙ c.if-begins_with_letter.false)
    (sym c.begins_with_dollar.ensures ∙ c.if-begins_with_dollar.false) c.in-Some-number_len.ensures

-- a sign is the longest token where nothing else is in front
pub returns-in-Some-sign_in_front-clause-longest : goal.returns-in-Some-sign_in_front-clause-longest
returns-in-Some-sign_in_front-clause-longest c =
    longest-sign c.args.bytes.now c.in-Some-sign_in_front.n c.in_default.ensures c.in_default-text_len.ensures
    (sym c.begins_with_letter.ensures ∙ c.if-begins_with_letter.false) (sym c.begins_with_dollar.ensures
    ∙ c.if-begins_with_dollar.false) c.in_default-number_len.ensures c.in-Some-sign_in_front.ensures.1

-- where no kind of token is in front, no token is
pub returns-in-None-clause-longest : goal.returns-in-None-clause-longest
returns-in-None-clause-longest c =
    longest-none c.args.bytes.now c.in_default.ensures c.in_default-text_len.ensures
    (sym c.begins_with_letter.ensures ∙ c.if-begins_with_letter.false)
    (sym c.begins_with_dollar.ensures ∙ c.if-begins_with_dollar.false) c.in_default-number_len.ensures c.in-None.ensures
