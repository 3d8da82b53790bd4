use Rattle.std.proofs.Common.{◌≡◌, map, drop}
use Rattle.c_lexer.specs.Words.{kind_in}
use Rattle.c_lexer.proofs.words.find_word.Given as goal

abbrev pub invariant-loop-spelling : goal.invariant-loop-spelling
invariant-loop-spelling l = kind_in (map (λ entry. (entry.0.now, entry.1)) l.table) l.word
    ≡ kind_in (map (λ entry. (entry.0.now, entry.1)) (drop l.spelling-index l.table)) l.word
