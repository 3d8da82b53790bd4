use Rattle.std.proofs.Common.{arith, sym, ◌∙◌, length}
use Rattle.c_lexer.proofs.WordLemmas.{of_length, past_all}
use Rattle.c_lexer.proofs.words.find_by_length.Goals as goal

pub returns-then-word-tables : goal.returns-then-word-tables
returns-then-word-tables c =
    sym (past_all _ 0 c.args.tables.now c.args.word.now c.requires (let le = c.if-word-tables.true in omega arith))

-- a word that is found among the words of its length is found among all words
pub returns : goal.returns
returns c =
    c.find_word.ensures
    ∙ of_length _ 0 (length c.args.word.now) c.args.tables.now _ c.args.word.now c.requires (omega arith)
    (let lt = c.if-word-tables.false in omega arith)
