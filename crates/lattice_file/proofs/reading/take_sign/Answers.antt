use Rattle.std.proofs.Common.{get_or}
use Rattle.lattice_file.specs.Steps.{SignLexeme, TextLexeme, next}
use Rattle.lattice_file.specs.Reading.{standing_of}
use Rattle.lattice_file.proofs.LexemeLemmas.{sign_goes, sign_fails, taken, not_taken, none_from}
use Rattle.lattice_file.proofs.reading.take_sign.Goals as goal

-- a sign that the reader takes goes on to the next place
pub returns-then-branch-clause-goes : goal.returns-then-branch-clause-goes
returns-then-branch-clause-goes c =
    let old = standing_of c.args.reader.now in
    let new = standing_of c.take_sign.new.self in
    sign_goes old new c.args.bytes.now c.args.at c.requires.within (taken (next old (SignLexeme
    (get_or c.args.bytes.now c.args.at 0))) c.in_ok-take_sign.field-0 new c.if-branch.true c.in_ok-take_sign.ensures)

-- a sign that the reader does not take fails at its place
pub returns-else-branch-clause-fails : goal.returns-else-branch-clause-fails
returns-else-branch-clause-fails c =
    let old = standing_of c.args.reader.now in
    let new = standing_of c.take_sign.new.self in
    sign_fails old c.args.bytes.now c.args.at c.requires.within c.requires.no_word
    (not_taken (next old (SignLexeme (get_or c.args.bytes.now c.args.at 0))) c.in_ok-take_sign.field-0 new
    c.if-branch.false c.in_ok-take_sign.ensures)
    (λ quote. none_from (next old TextLexeme) (c.requires.no_text quote))
