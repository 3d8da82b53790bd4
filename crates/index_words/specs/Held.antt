-- The words that a prelude holds, and the one at a token.
use Rattle.std.specs.Prelude.{ℕ, nat_eq, List, [], ◌∷◌, Option, None, Some, if◌then◌else◌}
use Rattle.index_words.specs.declared.prelude.Word.{Word}
use Rattle.index_words.specs.Marks.{IndexMark}

-- a word that a prelude holds, as a mark
abbrev pub mark_of : Word → IndexMark
mark_of it = record { token = it.token; numbers = it.numbers.items }

-- the numbers of the word at a token, where there is one
abbrev pub word_at : List IndexMark → ℕ → Option (List ℕ)
word_at [] token = None
word_at (it ∷ marks) token = if nat_eq it.token token then Some it.numbers else word_at marks token
