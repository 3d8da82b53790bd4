use Rattle.std.proofs.Common.{◌≡◌, List, sym, ap, subst, ◌∙◌}
use Rattle.c_tree.specs.declared.lexeme.Lexeme.{Lexeme}
use Rattle.c_reading.specs.Knot.{unit_at}
use Rattle.reader_base.specs.Gives.{Fails}
use Rattle.c_parser.specs.Parsing.{lexemes_of}
use Rattle.c_parser.specs.Taping.{tape_at}
use Rattle.c_parser.specs.Whole.{unit_found}
use Rattle.c_parser.proofs.Numbering.{numbered_from_zero}
use Rattle.c_parser.proofs.TapeOfItems.{taped_unit, whole, fails_alike}
use Rattle.c_parser.proofs.parsing.parse_tape.Goals as goal

-- a tape that is made from the lexemes is that of the one well-formed unit of the tokens
pub returns-in-Ok-unit_tape-clause-tape : goal.returns-in-Ok-unit_tape-clause-tape
returns-in-Ok-unit_tape-clause-tape c =
    let same : c.as_slice.result.now ≡ lexemes_of c.args.tokens.now = c.as_slice.ensures.value ∙ c.in-Ok.ensures in
    let wide = c.args.tokens.now.wide in
    let all = lexemes_of c.args.tokens.now in
    let found = whole wide (unit_at wide all) _
    (sym (taped_unit wide all) ∙ ap (tape_at wide) (sym same) ∙ rw c.is_wide.ensures at c.in-Ok-unit_tape.ensures) in
    record {
      items = found.0;
      formed = c.unit_is_well_formed.ensures wide all (numbered_from_zero c.args.tokens.now.tokens)
          (unit_found wide found.0) found.1;
      taped = found.2;
    }

-- an error of `parse_tape` is that with which the reader refuses the tokens' lexemes
pub refusal-requires : goal.refusal-requires
refusal-requires c =
    let same : c.as_slice.result.now ≡ lexemes_of c.args.tokens.now = c.as_slice.ensures.value ∙ c.in-Ok.ensures in
    fails_alike c.args.tokens.now.wide c.in-Err.error (lexemes_of c.args.tokens.now)
    (subst (λ (all : List Lexeme). Fails c.in-Err.error (tape_at c.args.tokens.now.wide all)) same
    (rw c.is_wide.ensures at c.in-Err.ensures))
