-- What the words of a command line mean.
use Rattle.std.specs.Prelude.{◌≤◌, ℕ, Bool, true, false, ◌==◌, ◌&&◌, not, List, [], ◌∷◌, length, map, Option, Some, None, codes}
use Rattle.std.specs.Prelude.{nat_le, if◌then◌else◌, find, is_some, option_map, slice_get}
use Rattle.std.specs.List.{list_all, list_any, before_first, after_first}
use Rattle.std.specs.Str.{bytes_eq}
use Rattle.std.specs.Str.Parse.{digits_value}

-- the bytes of a word
abbrev pub Text : Type 0
Text = List ℕ

-- the files that are named: 1 to 256 sources, in their order, and whether they are read as wider C
pub record FileNames : Type 0 where
  pub lattice : Text
  pub prelude : Option Text
  pub sources : List Text
  pub wide : Bool

-- What is asked of a program: its report, its report with the annotated source behind it, what the report of a file
-- comes to, its certificate, what the certificate of a file comes to, what reaches the declared names of one spelling
-- and what they reach, or its signatures as a library.
pub data Question : Type 0 where
  Infer : Question
  Annotate : Question
  Check : Text → Question
  Certify : Question
  Verify : Text → Question
  Who : Text → Question
  Sign : Question

-- what is asked: that of the program that files are, or the report of a source that the tool makes itself
pub data Task : Type 0 where
  Ask : Question → FileNames → Task
  Generate : ℕ → Task

-- ---- the pieces that words spell

-- the options that have a value
pub data Key : Type 0 where
  Lattice : Key
  Prelude : Key
  Report : Key
  Certificate : Key
  Name : Key
  Number : Key

-- the name of such an option
abbrev pub key_name : Key → Text
key_name Lattice = codes "lattice"
key_name Prelude = codes "prelude"
key_name Report = codes "check"
key_name Certificate = codes "verify"
key_name Name = codes "who"
key_name Number = codes "generate"

-- the options that have none
pub data Flag : Type 0 where
  Annotation : Flag
  Certification : Flag
  Signing : Flag

-- the name of such an option
abbrev pub flag_name : Flag → Text
flag_name Annotation = codes "annotate"
flag_name Certification = codes "certify"
flag_name Signing = codes "signatures"

-- the parts of a command line: the options with a value, the flags, and the words that are no options
pub data Part : Type 0 where
  Valued : Key → Part
  Flagged : Flag → Part
  Source : Part

-- Each part has a name of its own. That of an option or a flag stands behind two hyphens, and no word spells `source`.
abbrev pub name_of : Part → Text
name_of (Valued key) = key_name key
name_of (Flagged flag) = flag_name flag
name_of Source = codes "source"

-- all parts, in the order in which the reader of the command line is given them
abbrev pub parts : List Part
parts =
    Valued Lattice ∷ Valued Prelude ∷ Valued Report ∷ Valued Certificate ∷ Valued Name ∷ Valued Number
    ∷ Flagged Annotation ∷ Flagged Certification ∷ Flagged Signing ∷ Source ∷ []

-- what words give: an option with its value, a flag, or a word that is no option
pub data Piece : Type 0 where
  Value : Key → Text → Piece
  Set : Flag → Piece
  Plain : Text → Piece

-- the part that a piece is of
abbrev pub part_of : Piece → Part
part_of (Value key text) = Valued key
part_of (Set flag) = Flagged flag
part_of (Plain word) = Source

-- a flag has no text of its own: where it stands it reads as `true`, which has a meaning
abbrev pub text_of : Piece → Text
text_of (Value key text) = text
text_of (Set flag) = codes "true"
text_of (Plain word) = word

-- one word: `--`, which ends the options; an option whose value is the next word; or a whole piece
pub data Word : Type 0 where
  Ends : Word
  Opens : Key → Word
  Whole : Piece → Word

-- what a word has behind two hyphens at its start
abbrev pub behind_hyphens : Text → Option Text
behind_hyphens [] = None
behind_hyphens (a ∷ []) = None
behind_hyphens (a ∷ b ∷ more) = if a == 45 && b == 45 then Some more else None

-- the name behind two hyphens is that of this option or flag
abbrev pub spells : Text → Part → Bool
spells name (Valued key) = bytes_eq (key_name key) name
spells name (Flagged flag) = bytes_eq (flag_name flag) name
spells name Source = false

-- the option or the flag of this name, in full
abbrev pub named : Text → Option Part
named name = find (spells name) parts

-- whether a byte is `=`
abbrev pub is_equals : ℕ → Bool
is_equals b = b == 61

-- what stands before the first `=`
abbrev pub name_in : Text → Text
name_in text = before_first is_equals text

-- what stands behind the first `=`, where there is one
abbrev pub value_in : Text → Option Text
value_in text = if list_any is_equals text then Some (after_first is_equals text) else None

-- the word of an option, by its name and the value that is attached; a word that names no option, and a flag with a
-- value, is read as a plain word, which begins with a hyphen and so has no meaning
abbrev pub option_word : Text → Option Part → Option Text → Word
option_word word (Some (Flagged flag)) None = Whole (Set flag)
option_word word (Some (Flagged flag)) (Some value) = Whole (Plain word)
option_word word (Some Source) value = Whole (Plain word)
option_word word (Some (Valued key)) None = Opens key
option_word word (Some (Valued key)) (Some value) = Whole (Value key value)
option_word word None value = Whole (Plain word)

-- a word by what it has behind two hyphens at its start, if it has them
abbrev pub word_behind : Text → Option Text → Word
word_behind word None = Whole (Plain word)
word_behind word (Some []) = Ends
word_behind word (Some (b ∷ more)) = option_word word (named (name_in (b ∷ more))) (value_in (b ∷ more))

-- `--`, `--name`, `--name=value`, or else a plain word
abbrev pub word_of : Text → Word
word_of word = word_behind word (behind_hyphens word)

-- the pieces of a word and of the words behind it; behind `--` each word is plain
abbrev pub with_word : Word → List Text → (Option Key → List Piece) → List Piece
with_word Ends words more = map Plain words
with_word (Opens key) words more = more (Some key)
with_word (Whole piece) words more = piece ∷ more None

-- the pieces of the words, where the first may be the value of an option before them; with no word left that value is
-- empty
unfoldable pub pieces_from : Option Key → List Text → List Piece
pieces_from None [] = []
pieces_from None (word ∷ words) = with_word (word_of word) words (λ opened. pieces_from opened words)
pieces_from (Some key) [] = Value key [] ∷ []
pieces_from (Some key) (word ∷ words) = Value key word ∷ pieces_from None words

-- the pieces of all words
abbrev pub pieces_of : List Text → List Piece
pieces_of words = pieces_from None words

-- ---- what the pieces ask

-- two parts are the same where they have one name
abbrev pub is_part : Part → Part → Bool
is_part a b = bytes_eq (name_of a) (name_of b)

-- the texts of a part, in the order of the words
abbrev pub texts_of : Part → List Piece → List Text
texts_of part [] = []
texts_of part (piece ∷ pieces) =
    if is_part (part_of piece) part then text_of piece ∷ texts_of part pieces else texts_of part pieces

-- a text that has a meaning: it is not empty and does not begin with a hyphen
abbrev pub has_meaning : Text → Bool
has_meaning [] = false
has_meaning (b ∷ more) = not (b == 45)

-- how often a part may stand: an option or a flag once, sources 256 times
abbrev pub most_of : Part → ℕ
most_of (Valued key) = 1
most_of (Flagged flag) = 1
most_of Source = 256

-- the texts that a part may have: at most so many, and each has a meaning
abbrev pub are_fit : Part → List Text → Bool
are_fit part texts = list_all has_meaning texts && nat_le (length texts) (most_of part)

-- a decimal numeral with no sign and no 0 at its start
abbrev pub begins_number : Text → Bool
begins_number [] = false
begins_number (b ∷ more) = nat_le 49 b && nat_le b 57

-- a decimal digit
abbrev pub is_digit : ℕ → Bool
is_digit b = nat_le 48 b && nat_le b 57

-- whether a text is a decimal numeral without a sign and without 0 at its start
abbrev pub is_numeral : Text → Bool
is_numeral text = begins_number text && list_all is_digit text

-- the number of a made source: 1 to 1000, as a numeral
abbrev pub number_of : Text → Option ℕ
number_of text = if is_numeral text && nat_le (digits_value 10 text) 1000 then Some (digits_value 10 text) else None

-- a number that the tool makes a source of
abbrev pub IsMade : ℕ → Type 0
IsMade number = (1 ≤ number) × (number ≤ 1000)

-- the files that words name, not yet read as wider C
abbrev pub files_of : Text → Option Text → List Text → FileNames
files_of lattice prelude sources = record { lattice = lattice; prelude = prelude; sources = sources; wide = false }

-- as many sources as words may name
abbrev pub IsSourceCount : ℕ → Type 0
IsSourceCount count = (1 ≤ count) × (count ≤ 256)

-- What is asked of a program, by what is there of a report, of a certificate and of a name, and by whether the flags
-- `--annotate`, `--certify` and `--signatures` stand: at most one of them.
abbrev pub question_of : Option Text → Option Text → Option Text → Bool → Bool → Bool → Option Question
question_of None None None false false false = Some Infer
question_of None None None true false false = Some Annotate
question_of None None None false true false = Some Certify
question_of None None None false false true = Some Sign
question_of (Some r) None None false false false = Some (Check r)
question_of None (Some v) None false false false = Some (Verify v)
question_of None None (Some w) false false false = Some (Who w)
question_of r v w annotate certify sign = None

-- as many sources as a question may have: one where it is annotated
abbrev pub fits : Question → List Text → Bool
fits Infer sources = not (nat_le (length sources) 0)
fits Annotate sources = length sources == 1
fits (Check r) sources = not (nat_le (length sources) 0)
fits Certify sources = not (nat_le (length sources) 0)
fits (Verify v) sources = not (nat_le (length sources) 0)
fits (Who w) sources = not (nat_le (length sources) 0)
fits Sign sources = not (nat_le (length sources) 0)

-- beside a prelude, where there is one: signatures are of sources alone
abbrev pub goes_with : Question → Option Text → Bool
goes_with Infer prelude = true
goes_with Annotate prelude = true
goes_with (Check r) prelude = true
goes_with Certify prelude = true
goes_with (Verify v) prelude = true
goes_with (Who w) prelude = true
goes_with Sign prelude = not (is_some prelude)

-- with a lattice
abbrev pub asked_of : FileNames → Option Question → Option Task
asked_of files None = None
asked_of files (Some question) =
    if fits question files.sources && goes_with question files.prelude then Some (Ask question files) else None

-- the report of a made source stands alone
abbrev pub made_of : Text → Option Text → Option Question → List Text → Option Task
made_of n None (Some Infer) [] = option_map (λ number. Generate number) (number_of n)
made_of n prelude question sources = None

-- by what is there of the lattice, the prelude and the number: files are of a lattice, and a number has none
abbrev pub task_with : Option Text → Option Text → Option Text → Option Question → List Text → Option Task
task_with (Some l) p None question sources = asked_of (files_of l p sources) question
task_with None p (Some n) question sources = made_of n p question sources
task_with (Some l) p (Some n) question sources = None
task_with None p None question sources = None

-- what the parts ask together, by the value of each option, by which flags stand, and by the sources
abbrev pub task_of_parts : (Key → Option Text) → (Flag → Bool) → List Text → Option Task
task_of_parts value stands sources = task_with (value Lattice) (value Prelude) (value Number)
    (question_of (value Report) (value Certificate) (value Name) (stands Annotation) (stands Certification)
    (stands Signing)) sources

-- the value of an option among the pieces, where it stands once
abbrev pub value_among : List Piece → Key → Option Text
value_among pieces key = slice_get (texts_of (Valued key) pieces) 0

-- whether a flag stands among the pieces
abbrev pub stands_among : List Piece → Flag → Bool
stands_among pieces flag = is_some (slice_get (texts_of (Flagged flag) pieces) 0)

-- what the pieces ask: nothing where a part stands too often or with a text that has no meaning
abbrev pub task_in : List Piece → Option Task
task_in pieces = if list_all (λ part. are_fit part (texts_of part pieces)) parts
    then task_of_parts (value_among pieces) (stands_among pieces) (texts_of Source pieces) else None

-- what the words behind `--wide` ask
abbrev pub asked_behind : List Text → Option Task
asked_behind words = task_in (pieces_of words)

-- `--wide`, which stands before all other words, once
abbrev pub is_wide : Text → Bool
is_wide word = bytes_eq (codes "--wide") word

-- whether the first word is `--wide`, with the words behind it
abbrev pub behind_wide : List Text → Bool × List Text
behind_wide [] = (false, [])
behind_wide (word ∷ words) = if is_wide word then (true, words) else (false, word ∷ words)

-- what is asked, of sources that are read as wider C or not
abbrev pub widened : Bool → Task → Task
widened wide (Ask question files) = Ask question (record files { wide = wide })
widened wide (Generate number) = Generate number

-- what the words behind the program's name ask, or nothing where they have no meaning
abbrev pub meaning_of : List Text → Option Task
meaning_of words = option_map (widened (behind_wide words).0) (asked_behind (behind_wide words).1)
