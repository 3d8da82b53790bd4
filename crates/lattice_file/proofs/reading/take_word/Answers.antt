use Rattle.std.proofs.Common.{◌≡◌, ◌≤◌, false, length, ap, arith}
use Rattle.std.specs.Prelude.{is_some}
use Rattle.std.specs.List.{slice_range}
use Rattle.lattice_file.specs.Steps.{WordLexeme, next}
use Rattle.lattice_file.specs.Extents.{may_come}
use Rattle.lattice_file.specs.Reading.{standing_of}
use Rattle.lattice_file.proofs.LexemeLemmas.{word_goes, word_fails_inside, word_fails_behind, word_longer, taken, not_taken}
use Rattle.lattice_file.proofs.reading.take_word.Goals as goal

-- a word of which only a front may come fails behind that
pub returns-then-front-word-clause-fails : goal.returns-then-front-word-clause-fails
returns-then-front-word-clause-fails c =
    let end = c.word_end-end in
    word_fails_inside (standing_of c.args.reader.now) c.args.bytes.now c.args.at end.result c.word_front-front.result
    (word_longer c.args.bytes.now c.args.at end.result end.ensures.later c.requires.within c.requires.word
    end.ensures.ends) end.ensures.within end.ensures.word c.word_front-front.ensures c.if-front-word.true

-- a word that the reader takes goes on to its end
pub returns-then-branch-clause-goes : goal.returns-then-branch-clause-goes
returns-then-branch-clause-goes c =
    let old = standing_of c.args.reader.now in
    let new = standing_of c.take_word.new.self in
    let word = slice_range c.args.bytes.now c.args.at c.word_end-end.result in
    word_goes old new c.args.bytes.now c.args.at c.word_end-end.result c.word_end-end.ensures.ends
    (taken (next old (WordLexeme word)) c.in_ok-take_word.field-0 new c.if-branch.true c.in_ok-take_word.ensures)

-- a word that begins one that may come, but is none, fails at its end
pub returns-else-branch-clause-fails : goal.returns-else-branch-clause-fails
returns-else-branch-clause-fails c =
    let old = standing_of c.args.reader.now in
    let new = standing_of c.take_word.new.self in
    let end = c.word_end-end in
    let word = slice_range c.args.bytes.now c.args.at end.result in
    let long : length word ≤ c.word_front-front.result = omega (arith, c.if-front-word.false) in
    let none =
    not_taken (next old (WordLexeme word)) c.in_ok-take_word.field-0 new c.if-branch.false c.in_ok-take_word.ensures in
    let refused : may_come old word ≡ false = ap is_some none in
    word_fails_behind old c.args.bytes.now c.args.at end.result c.word_front-front.result
    (word_longer c.args.bytes.now c.args.at end.result end.ensures.later c.requires.within c.requires.word
    end.ensures.ends) end.ensures.within end.ensures.word end.ensures.ends c.word_front-front.ensures long refused
