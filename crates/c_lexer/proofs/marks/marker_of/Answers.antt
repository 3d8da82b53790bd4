use Rattle.std.proofs.Common.{sym, ◌∙◌}
use Rattle.std.proofs.lemmas.List.{take_rest}
use Rattle.c_lexer.proofs.MarkLemmas.{IsReadAt, short-no_marker, no-name, no-flags, digits-all, found-marker}
use Rattle.c_lexer.proofs.marks.marker_of.Goals as goal

-- a line whose parts have the wrong lengths is no linemarker
pub returns-then-not-are_long_enough : goal.returns-then-not-are_long_enough
returns-then-not-are_long_enough c =
    let read : IsReadAt c.args.line.now c.parts_of-parts.result = record {
      digits_at = c.parts_of-parts.ensures.digits_at;
      digits_end = c.parts_of-parts.ensures.digits_end;
      quote_at = c.parts_of-parts.ensures.quote_at;
    } in
    short-no_marker c.args.line.now c.parts_of-parts.result read
    (sym c.are_long_enough.ensures ∙ c.if-not-are_long_enough.true)

-- a line with no quoted name is no linemarker
pub returns-in_default : goal.returns-in_default
returns-in_default c =
    let read : IsReadAt c.args.line.now c.parts_of-parts.result = record {
      digits_at = c.parts_of-parts.ensures.digits_at;
      digits_end = c.parts_of-parts.ensures.digits_end;
      quote_at = c.parts_of-parts.ensures.quote_at;
    } in
    no-name c.args.line.now c.parts_of-parts.result read (rw take_rest at c.in_default.ensures.longest)

-- a line with more than flags behind its name is no linemarker
pub returns-then-not-are_all_flags : goal.returns-then-not-are_all_flags
returns-then-not-are_all_flags c =
    let read : IsReadAt c.args.line.now c.parts_of-parts.result = record {
      digits_at = c.parts_of-parts.ensures.digits_at;
      digits_end = c.parts_of-parts.ensures.digits_end;
      quote_at = c.parts_of-parts.ensures.quote_at;
    } in
    no-flags c.args.line.now c.parts_of-parts.result read c.in-Some.file (rw take_rest at c.in-Some.ensures.longest)
    (rw take_rest at c.in-Some.ensures.only)
    (rw take_rest at (sym c.are_all_flags.ensures ∙ c.if-not-are_all_flags.true))

-- the bytes that are read as a number are digits
pub number_of-requires-clause-digits : goal.number_of-requires-clause-digits
number_of-requires-clause-digits c =
    let read : IsReadAt c.args.line.now c.parts_of-parts.result = record {
      digits_at = c.parts_of-parts.ensures.digits_at;
      digits_end = c.parts_of-parts.ensures.digits_end;
      quote_at = c.parts_of-parts.ensures.quote_at;
    } in
    digits-all c.args.line.now c.parts_of-parts.result read

-- a line with all its parts is the linemarker that is answered
pub returns : goal.returns
returns c =
    let read : IsReadAt c.args.line.now c.parts_of-parts.result = record {
      digits_at = c.parts_of-parts.ensures.digits_at;
      digits_end = c.parts_of-parts.ensures.digits_end;
      quote_at = c.parts_of-parts.ensures.quote_at;
    } in
    found-marker c.args.line.now c.parts_of-parts.result read c.requires
    (sym c.are_long_enough.ensures ∙ c.if-not-are_long_enough.false) c.in-Some.file c.number_of.result
    (rw take_rest at c.in-Some.ensures.longest)
    (rw take_rest at (sym c.are_all_flags.ensures ∙ c.if-not-are_all_flags.false)) c.number_of.ensures
