use Rattle.std.proofs.Common.{sym, ◌∙◌}
use Rattle.std.proofs.lemmas.List.{take_rest}
use Rattle.c_lexer.proofs.FrontLemmas.{digits-number, fraction-number, no-number}
use Rattle.c_lexer.proofs.fronts.number_len.Goals as goal

pub returns-then-begins_with_digit : goal.returns-then-begins_with_digit
returns-then-begins_with_digit c =
    digits-number c.args.bytes.now c.digits_len.result
    (sym c.begins_with_digit.ensures ∙ c.if-begins_with_digit.true) c.digits_len.ensures

pub returns-then-begins_with_fraction : goal.returns-then-begins_with_fraction
returns-then-begins_with_fraction c =
    fraction-number c.args.bytes.now _ (sym c.begins_with_fraction.ensures ∙ c.if-begins_with_fraction.true)
    (rw take_rest at c.digits_len-then-begins_with_fraction.ensures)

pub returns : goal.returns
returns c =
    no-number c.args.bytes.now (sym c.begins_with_digit.ensures ∙ c.if-begins_with_digit.false)
    (sym c.begins_with_fraction.ensures ∙ c.if-begins_with_fraction.false)
