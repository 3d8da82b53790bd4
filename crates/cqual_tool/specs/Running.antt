-- What one call of the tool does.
use Rattle.std.specs.Prelude.{◌≡◌, ◌≢◌, ◌⊎◌, ◌↔◌, ℕ, ◌+◌, true, false, List, [], ◌++◌, Some, None}
use Rattle.outside.specs.Readings.{AreWhole, Reading, ReadOn, ReadsAs, Standing, has_broken}
use Rattle.cqual_words.specs.Words.{Generate, meaning_of}
use Rattle.cqual_tool.specs.declared.status.Status.{Status}
use Rattle.cqual_tool.specs.declared.status.Status.TheVariants.{BadWords, ReadFault, WriteFault, NoMemory}
use Rattle.cqual_tool.specs.Inputs.{Inputs, asked}
use Rattle.cqual_tool.specs.Outcome.{Answers, IsAnswer, StartsFor}
use Rattle.cqual_tool.specs.Sending.{AppendsFront}

-- Of the words: the files before it and after it, the bytes that were written and the puts that failed before and after
-- it, the status that it answers, and its readings.
pub record Ran (words : List (List ℕ)) (old new : Standing) (before after : List ℕ) (failed fails : ℕ) (status : Status)
    (these : List Reading)
    : Type 0 where
  pub read : ReadOn old new these
  pub in_turn : AreWhole these
  pub there : (inputs : Inputs) × ReadsAs (asked words inputs) these
  pub started : StartsFor words status these
  pub outcome : IsAnswer status → (text : List ℕ) × (after ≡ before ++ text) × Answers words these status text
  pub front : status ≡ WriteFault
      → (other : Status) × (text : List ℕ) × AppendsFront before after text × Answers words these other text
  pub write_fault : status ≡ WriteFault → fails ≡ failed + 1
  pub writes : status ≢ WriteFault → fails ≡ failed
  pub read_fault : (status ≡ ReadFault) ↔ (has_broken these ≡ true)
  pub no_read : status ≡ ReadFault → after ≡ before
  pub no_memory : status ≡ NoMemory → after ≡ before
  pub bad_words : status ≡ BadWords → meaning_of words ≡ None
  pub no_meaning : meaning_of words ≡ None → (status ≡ BadWords) ⊎ ((status ≡ WriteFault) ⊎ (status ≡ NoMemory))
  pub generated : (number : ℕ) → meaning_of words ≡ Some (Generate number) → these ≡ []
  pub complete : has_broken these ≡ false → fails ≡ failed → status ≢ NoMemory → IsAnswer status
