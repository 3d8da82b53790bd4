-- Words that ask for the annotated source name one source.
use Rattle.std.proofs.Common.{arith, ◌≡◌, ◌==◌, ℕ, true, List, length, Some}
use Rattle.std.proofs.lemmas.Bool.Decides.{nat_tests}
use Rattle.cqual_words.specs.Words.{Annotate, Ask, FileNames, Text, meaning_of}
use Rattle.cqual_words.proofs.Laws.{asked_fits}

is_one : (n : ℕ) → (n == 1) ≡ true → n ≡ 1
is_one n h = grind (arith, nat_tests)

pub annotated_names_one : (words : List Text) (files : FileNames) → meaning_of words ≡ Some (Ask Annotate files)
    → length files.sources ≡ 1
annotated_names_one words files is = is_one (length files.sources) (asked_fits words Annotate files is)
