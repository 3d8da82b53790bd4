use Rattle.std.proofs.Common.{arith, ◌<◌, length}
use Rattle.std.proofs.lemmas.Result.{err_from_is_err_and}
use Rattle.row_adding.proofs.Wording.{word_behind, stops_at_word}
use Rattle.row_adding.proofs.marks.add_words.Goals as goal

-- what one annotation word more gives comes behind what the words so far give
pub loop-word-preserved : goal.loop-word-preserved
loop-word-preserved c =
    let test = c.loop-word-test.true in
    let within : c.loop-word.word-index < length c.args.words.now = omega arith in
    λ w s. word_behind w c.args.var c.args.graph.now c.loop-word.graph c.add_word.new.graph c.args.words.now
    c.loop-word.word-index c.word-item.result c.word-item.is within (c.loop-word.invariant w s)
    (c.in_ok-add_word.ensures.ok w s)

-- where what a word gives halts, that of all words halts there
pub returns-in_err-add_word-clause-err : goal.returns-in_err-add_word-clause-err
returns-in_err-add_word-clause-err c =
    let test = c.loop-word-test.true in
    let within : c.loop-word.word-index < length c.args.words.now = omega arith in
    let failed = err_from_is_err_and c.from_residual.result c.from_residual.ensures.1 in
    rw (failed.1, failed.2) (λ w s. stops_at_word w c.args.var c.args.graph.now c.loop-word.graph c.add_word.new.graph
    c.in_err-add_word.field-0.0 c.args.words.now c.loop-word.word-index c.word-item.result c.word-item.is within
    (c.loop-word.invariant w s) (c.in_err-add_word.ensures.err w s))
