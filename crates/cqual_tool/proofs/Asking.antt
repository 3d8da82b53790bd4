-- Words with a meaning name 1 to 256 sources.
use Rattle.std.proofs.Common.{◌≡◌, ℕ, List, length, Bor, sym, ◌∙◌, ap, subst}
use Rattle.std.proofs.lemmas.List.{length-map}
use Rattle.cqual_words.specs.Words.{IsSourceCount, Question}
use Rattle.cqual_words.specs.Asked as asked
use Rattle.cqual_words.specs.declared.asked.FileWords.{FileWords}
use Rattle.cqual_tool.specs.Words.{FileNames, of_files}

-- the files of words have the sources of the words
pub counted : (named : FileNames) (files : FileWords) (question : Question)
    → named ≡ of_files (asked.names_in files) question → IsSourceCount (length files.sources.items)
    → IsSourceCount (length named.sources)
counted named files question is count =
    subst IsSourceCount
    (sym (ap (λ (it : FileNames). length it.sources) is
    ∙ length-map files.sources.items (λ (name : Bor (List ℕ)). name.now))) count
