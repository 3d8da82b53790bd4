use Rattle.std.proofs.Common.{◌≡◌, Bool, List, Ok, Err, sym, ap, subst, ◌∙◌}
use Rattle.c_tree.specs.declared.lexeme.Lexeme.{Lexeme}
use Rattle.c_tree.specs.Unit.{Item, items_of}
use Rattle.c_reading.specs.Knot.{unit_at}
use Rattle.c_reading.specs.Reading.{Read}
use Rattle.reader_base.specs.Gives.{Fails}
use Rattle.c_parser.specs.Parsing.{lexemes_of}
use Rattle.c_parser.specs.Whole.{unit_found}
use Rattle.c_parser.proofs.Numbering.{numbered_from_zero}
use Rattle.c_parser.proofs.parsing.parse.Goals as goal

abbrev items_in : List Item → Read (List Item) → List Item
items_in none (Ok x) = x.tree
items_in none (Err refusal) = none

same_items : (wide : Bool) (read : Read (List Item)) (items others : List Item) → read ≡ Ok (unit_found wide items)
    → read ≡ Ok (unit_found wide others) → items ≡ others
same_items wide read items others one other = ap (items_in items) (sym one ∙ other)

-- a unit that is read from the lexemes is well formed of the tokens
pub returns-in-Ok-unit-clause-unit : goal.returns-in-Ok-unit-clause-unit
returns-in-Ok-unit-clause-unit c =
    let same : c.as_slice.result.now ≡ lexemes_of c.args.tokens.now = c.as_slice.ensures.value ∙ c.in-Ok.ensures in
    c.unit_is_well_formed.ensures c.args.tokens.now.wide (lexemes_of c.args.tokens.now)
    (numbered_from_zero c.args.tokens.now.tokens) (unit_found c.args.tokens.now.wide (items_of c.in-Ok-unit.found))
    (ap (unit_at c.args.tokens.now.wide) (sym same) ∙ rw c.is_wide.ensures at c.in-Ok-unit.ensures)

-- where a unit is read from the lexemes, it is the only well-formed one of the tokens
pub returns-in-Ok-unit-clause-only : goal.returns-in-Ok-unit-clause-only
returns-in-Ok-unit-clause-only c =
    let same : c.as_slice.result.now ≡ lexemes_of c.args.tokens.now = c.as_slice.ensures.value ∙ c.in-Ok.ensures in
    λ items is.
    let again = c.well_formed_is_read.ensures c.args.tokens.now.wide (lexemes_of c.args.tokens.now)
    (numbered_from_zero c.args.tokens.now.tokens) items is in
    same_items c.args.tokens.now.wide _ (items_of c.in-Ok-unit.found) items
    (rw c.is_wide.ensures at c.in-Ok-unit.ensures) (ap (unit_at c.args.tokens.now.wide) same ∙ again)

-- an error of `parse` is that with which the reader refuses the tokens' lexemes
pub refusal-requires : goal.refusal-requires
refusal-requires c =
    let same : c.as_slice.result.now ≡ lexemes_of c.args.tokens.now = c.as_slice.ensures.value ∙ c.in-Ok.ensures in
    subst (λ (all : List Lexeme). Fails c.in-Err.error (unit_at c.args.tokens.now.wide all)) same
    (rw c.is_wide.ensures at c.in-Err.ensures)
