use Rattle.std.proofs.Common.{sym, ◌∙◌, arith}
use Rattle.c_lexer.proofs.SignLemmas.{NoneAt, sign-found, sign-none, above_two, above_one, above_zero}
use Rattle.c_lexer.proofs.signs.sign_in_front.Goals as goal

pub returns-in-Some : goal.returns-in-Some
returns-in-Some c =
    sign-found c.args.bytes.now 3 c.in-Some.sign (omega arith) (sym c.three_in_front.ensures ∙ c.in-Some.is)
    (λ m lt le. absurd (omega arith))

-- a sign of two bytes, where none of three is, is the longest
pub returns-in-Some-two_in_front : goal.returns-in-Some-two_in_front
returns-in-Some-two_in_front c =
    let bytes = c.args.bytes.now in
    let three : NoneAt bytes 3 = sym c.three_in_front.ensures ∙ c.in_default.is in
    sign-found bytes 2 c.in-Some-two_in_front.sign (omega arith)
    (sym c.two_in_front.ensures ∙ c.in-Some-two_in_front.is) (above_two (NoneAt bytes) three)

-- a sign of one byte, where none of two or three is, is the longest
pub returns-in-Some-one_in_front : goal.returns-in-Some-one_in_front
returns-in-Some-one_in_front c =
    let bytes = c.args.bytes.now in
    let three : NoneAt bytes 3 = sym c.three_in_front.ensures ∙ c.in_default.is in
    let two : NoneAt bytes 2 = sym c.two_in_front.ensures ∙ c.in_default-two_in_front.is in
    sign-found bytes 1 c.in-Some-one_in_front.sign (omega arith)
    (sym c.one_in_front.ensures ∙ c.in-Some-one_in_front.is) (above_one (NoneAt bytes) three two)

-- where no sign of one, two or three bytes is found, there is none
pub returns-in-None : goal.returns-in-None
returns-in-None c =
    let bytes = c.args.bytes.now in
    let three : NoneAt bytes 3 = sym c.three_in_front.ensures ∙ c.in_default.is in
    let two : NoneAt bytes 2 = sym c.two_in_front.ensures ∙ c.in_default-two_in_front.is in
    let one : NoneAt bytes 1 = sym c.one_in_front.ensures ∙ c.in-None.is in
    sign-none bytes (above_zero (NoneAt bytes) three two one)
