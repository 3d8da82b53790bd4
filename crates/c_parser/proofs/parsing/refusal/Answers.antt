use Rattle.std.proofs.Common.{◌≡◌, ℕ, Bool, List, Ok, Err, sym, ◌∙◌}
use Rattle.c_tree.specs.Unit.{Item}
use Rattle.c_reading.specs.Knot.{unit_at}
use Rattle.c_reading.specs.Reading.{Read, Refusal}
use Rattle.c_parser.specs.Parsing.{lexemes_of}
use Rattle.c_parser.specs.Whole.{unit_found}
use Rattle.c_parser.proofs.Numbering.{numbered_from_zero}
use Rattle.c_parser.proofs.Refusals.{IsRefused, fault_in, first_of, height_of, allowed_of, deep_of, refusal_of}
use Rattle.c_parser.proofs.parsing.refusal.Goals as goal

-- what was refused was not read
not_read : (wide : Bool) (read : Read (List Item)) (items : List Item) (refusal : Refusal) → read ≡ Err refusal
    → read ≡ Ok (unit_found wide items) → ⊥
not_read wide read items refusal refused found = cc

-- a refusal other than for memory names the first bad token, with a code that is allowed there
pub returns : goal.returns
returns c =
    λ reason.
    let lexed = c.args.tokens.now in
    let found = fault_in c.args.error reason in
    let refused : unit_at lexed.wide (lexemes_of lexed) ≡ Err (found.0, found.1) =
    refusal_of (unit_at lexed.wide (lexemes_of lexed)) c.args.error found.0 found.1 found.2 c.requires in
    let it : IsRefused lexed.wide lexed.tokens c.args.error =
    record { named = found.0; token = found.1; is = found.2; refused = refused } in
    record {
      none = λ items formed.
          not_read lexed.wide (unit_at lexed.wide (lexemes_of lexed)) items (found.0, found.1) refused
          (c.well_formed_is_read.ensures lexed.wide (lexemes_of lexed) (numbered_from_zero lexed.tokens) items formed);
      first = first_of lexed.wide lexed.tokens c.is_ended.ensures c.place_is_first.ensures c.args.error it;
      height = height_of lexed.wide lexed.tokens c.is_ended.ensures c.height_alone.ensures c.args.error it;
      allowed = λ token is.
          allowed_of lexed.wide lexed.tokens c.is_ended.ensures c.syntax_is_allowed.ensures token
          (record { named = found.0; token = found.1; is = sym is ∙ found.2; refused = refused });
      deep = λ token is.
          deep_of lexed.wide lexed.tokens c.is_ended.ensures c.only_the_height.ensures token
          (record { named = found.0; token = found.1; is = sym is ∙ found.2; refused = refused });
    }
