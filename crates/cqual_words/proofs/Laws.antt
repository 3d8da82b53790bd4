-- What holds of all words that ask something, for crates above.
use Rattle.std.proofs.Common.{refl, subst, ◌≡◌, ℕ, Bool, true, false, cond, List, [], ◌∷◌, Option, Some, None, option_map}
use Rattle.std.specs.Prelude.{⊤, ◌&&◌}
use Rattle.std.specs.List.{list_all}
use Rattle.cqual_words.specs.Words.{FileNames, Piece, Question, Task, Text, Ask, Generate, Infer, Annotate, Check, Certify, Verify, Who, Sign}
use Rattle.cqual_words.specs.Words.{Lattice, Number, Prelude, Source, are_fit, asked_behind, asked_of, behind_wide, files_of, fits, goes_with, made_of, meaning_of, number_of}
use Rattle.cqual_words.specs.Words.{parts, pieces_of, stands_among, task_of_parts, task_with, texts_of, value_among, widened}

-- a task's question has as many sources as it may have
abbrev HasFit : Task → Type 0
HasFit (Ask question files) = fits question files.sources ≡ true
HasFit (Generate number) = ⊤

abbrev AllFit : Option Task → Type 0
AllFit None = ⊤
AllFit (Some task) = HasFit task

-- what is asked of files has as many sources as its question may have
asked_has : (files : FileNames) (question : Option Question) → AllFit (asked_of files question)
asked_has files None = tt
asked_has files (Some question) = go (fits question files.sources) (goes_with question files.prelude) refl
  where
    go : (b c : Bool) → fits question files.sources ≡ b → AllFit (cond (b && c) (Some (Ask question files)) None)
    go true true e = e
    go true false e = tt
    go false c e = tt

-- what a number asks is a made source, which has no files to fit
made_has : (n : Text) (p : Option Text) (question : Option Question) (sources : List Text)
    → AllFit (made_of n p question sources)
made_has n (Some p) question sources = tt
made_has n None None sources = tt
made_has n None (Some Infer) [] = go (number_of n)
  where
    go : (o : Option ℕ) → AllFit (option_map (λ number. Generate number) o)
    go None = tt
    go (Some number) = tt
made_has n None (Some Infer) (s ∷ sources) = tt
made_has n None (Some Annotate) sources = tt
made_has n None (Some (Check r)) sources = tt
made_has n None (Some Certify) sources = tt
made_has n None (Some (Verify v)) sources = tt
made_has n None (Some (Who w)) sources = tt
made_has n None (Some Sign) sources = tt

-- what lattice, prelude, number, question and sources ask has as many sources as it may
task_has : (l p n : Option Text) (question : Option Question) (sources : List Text)
    → AllFit (task_with l p n question sources)
task_has (Some l) p None question sources = asked_has (files_of l p sources) question
task_has (Some l) p (Some n) question sources = tt
task_has None p (Some n) question sources = made_has n p question sources
task_has None p None question sources = tt

-- what the words behind `--wide` ask has as many sources as it may
behind_has : (words : List Text) → AllFit (asked_behind words)
behind_has words = go (list_all (λ part. are_fit part (texts_of part pieces)) parts)
  where
    pieces : List Piece
    pieces = pieces_of words

    go : (b : Bool)
        → AllFit (cond b (task_of_parts (value_among pieces) (stands_among pieces) (texts_of Source pieces)) None)
    go true =
        task_has (value_among pieces Lattice) (value_among pieces Prelude) (value_among pieces Number) _
        (texts_of Source pieces)
    go false = tt

-- what fits still does when its sources are read as wider C
widened_has : (wide : Bool) (task : Option Task) → AllFit task → AllFit (option_map (widened wide) task)
widened_has wide None fit = tt
widened_has wide (Some (Ask question files)) fit = fit
widened_has wide (Some (Generate number)) fit = tt

words_have : (words : List Text) → AllFit (meaning_of words)
words_have words =
    widened_has (behind_wide words).0 (asked_behind (behind_wide words).1) (behind_has (behind_wide words).1)

-- a question that words ask has as many sources as it may have
pub asked_fits : (words : List Text) (question : Question) (files : FileNames)
    → meaning_of words ≡ Some (Ask question files)
    → fits question files.sources ≡ true
asked_fits words question files is = subst AllFit is (words_have words)
