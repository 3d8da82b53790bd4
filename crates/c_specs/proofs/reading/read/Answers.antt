use Rattle.std.proofs.Common.{◌+◌, sym, subst, take, drop}
use Rattle.c_tree.specs.Tree.{SpecWords}
use Rattle.c_tree.specs.View.{spec_word_of}
use Rattle.c_tree.specs.Unit.{spec_words_from}
use Rattle.c_specs.specs.Reading.{AreRead}
use Rattle.c_specs.proofs.Begun.{begun}
use Rattle.c_specs.proofs.WordLists.{words_next, words_split, words_all}
use Rattle.c_specs.proofs.reading.read.Goals as goal

-- a word that the mix so far does not go on with is the first bad word
pub returns-in-None-clause-fault : goal.returns-in-None-clause-fault
returns-in-None-clause-fault c =
    let front = spec_words_from (take c.loop-word.word-index c.args.words.now) in
    record {
      front = front;
      word = spec_word_of c.word-item.result;
      more = spec_words_from (drop (c.loop-word.word-index + 1) c.args.words.now);
      parts =
          words_split c.args.words.now c.loop-word.word-index c.word-item.result c.loop-word-test.true c.word-item.is;
      begun = begun c.loop-word.mix front c.loop-word.invariant;
      bad = c.in-None.ensures.read front c.loop-word.invariant;
      place = c.word_token.ensures;
    }

-- one word more: the mix stays what is read of the words up to it
pub loop-word-preserved : goal.loop-word-preserved
loop-word-preserved c =
    let front = spec_words_from (take c.loop-word.word-index c.args.words.now) in
    subst (λ (ws : SpecWords). AreRead c.in-Some.next ws)
    (sym (words_next c.args.words.now c.loop-word.word-index c.word-item.result c.loop-word-test.true c.word-item.is))
    (c.in-Some.ensures.read front c.loop-word.invariant)

-- where the mix of all words has a whole type, they are a mix
pub returns-then-is_whole-clause-whole : goal.returns-then-is_whole-clause-whole
returns-then-is_whole-clause-whole c =
    let all = subst (λ (ws : SpecWords). AreRead c.loop-word.mix ws)
    (words_all c.args.words.now c.loop-word.word-index c.loop-word-test.false) c.loop-word.invariant in
    (c.is_whole.ensures.listed (spec_words_from c.args.words.now) all).0 c.if-is_whole.true

-- where the mix of all words has no whole type, they begin a mix and are none
pub returns-else-is_whole-clause-fault : goal.returns-else-is_whole-clause-fault
returns-else-is_whole-clause-fault c =
    let all = subst (λ (ws : SpecWords). AreRead c.loop-word.mix ws)
    (words_all c.args.words.now c.loop-word.word-index c.loop-word-test.false) c.loop-word.invariant in (
      begun c.loop-word.mix (spec_words_from c.args.words.now) all,
      λ is. let whole = (c.is_whole.ensures.listed (spec_words_from c.args.words.now) all).1 is in
          let none = c.if-is_whole.false in
          absurd cc,
    )
