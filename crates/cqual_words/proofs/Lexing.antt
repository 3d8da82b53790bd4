-- What one word is, as `specs/Words.antt` and clap's reader see it.
use Rattle.std.proofs.Common.{refl, ◌≡◌, ◌==◌, ℕ, Bool, true, false, [], ◌∷◌, Option, Some, None}
use Rattle.std.specs.Prelude.{slice_get}
use Rattle.std.specs.Str.{bytes_eq, chars}
use Rattle.clap.specs.Lexer.{long_of, short_of}
use Rattle.clap.specs.Walk.{Held, Step, Waiting, bundle, bundle_met, idle, option, plain, plain_word, positional, long_word}
use Rattle.clap.specs.Walk.{trailing, subcommand_met, word_met}
use Rattle.clap.specs.Walk.{arg_by_long}
use Rattle.clap.specs.Faults.{bundle_fault, flags_fault, long_fault, word_fault}
use Rattle.clap.specs.Kinds.{Kinds}
use Rattle.clap.specs.declared.error.kind.ErrorKind.TheVariants as kind
use Rattle.cqual_words.specs.Words.{Text, Ends, Plain, Whole, has_meaning, name_in, named, option_word, value_in, word_of}
use Rattle.cqual_words.proofs.Rules.{all_rules, shape}

abbrev pub hyphens : Text
hyphens = 45 ∷ 45 ∷ []

-- `--`, an option's word, `-` with more behind it, or any other word
pub data Looks (word : Text) : Type 0 where
  Dashes : bytes_eq word hyphens ≡ true → word_of word ≡ Ends → has_meaning word ≡ false → Looks word
  Long : (name : Text) (value : Option Text) → bytes_eq word hyphens ≡ false → long_of word ≡ Some (name, value)
      → word_of word ≡ option_word word (named name) value → has_meaning word ≡ false → Looks word
  Short : (b : ℕ) (more : Text) → bytes_eq word hyphens ≡ false → long_of word ≡ None → short_of word ≡ Some (b ∷ more)
      → word_of word ≡ Whole (Plain word) → has_meaning word ≡ false → Looks word
  Other : bytes_eq word hyphens ≡ false → long_of word ≡ None → short_of word ≡ None → word_of word ≡ Whole (Plain word)
      → Looks word

-- a word is `--`, an option's word, a hyphen with more behind it, or any other
pub looks : (word : Text) → Looks word
looks [] = Other refl refl refl refl
looks (a ∷ []) = go (a == 45) refl
  where
    go : (p : Bool) → (a == 45) ≡ p → Looks (a ∷ [])
    go true e = Other (rw e refl) (rw e refl) (rw e refl) refl
    go false e = Other (rw e refl) (rw e refl) (rw e refl) refl
looks (a ∷ b ∷ []) = go (a == 45) (b == 45) refl refl
  where
    go : (p q : Bool) → (a == 45) ≡ p → (b == 45) ≡ q → Looks (a ∷ b ∷ [])
    go false q e f = Other (rw e refl) (rw e refl) (rw e refl) (rw e refl)
    go true false e f = Short b [] (rw (e, f) refl) (rw (e, f) refl) (rw (e, f) refl) (rw (e, f) refl) (rw e refl)
    go true true e f = Dashes (rw (e, f) refl) (rw (e, f) refl) (rw e refl)
looks (a ∷ b ∷ c ∷ more) = go (a == 45) (b == 45) refl refl
  where
    go : (p q : Bool) → (a == 45) ≡ p → (b == 45) ≡ q → Looks (a ∷ b ∷ c ∷ more)
    go false q e f = Other (rw e refl) (rw e refl) (rw e refl) (rw e refl)
    go true false e f =
        Short b (c ∷ more) (rw (e, f) refl) (rw (e, f) refl) (rw (e, f) refl) (rw (e, f) refl) (rw e refl)
    go true true e f =
        Long (name_in (c ∷ more)) (value_in (c ∷ more)) (rw (e, f) refl) (rw (e, f) refl) (rw (e, f) refl) (rw e refl)

-- ---- what clap makes of each

-- no word is a subcommand, whatever waits
pub no_subcommand : (waiting : Waiting) (word : Text) → subcommand_met [] waiting word ≡ None
no_subcommand idle word = refl
no_subcommand (option id) word = refl
no_subcommand positional word = refl

abbrev pub meets : Waiting → ℕ → Text → Held → Held × Step
meets waiting position word h = word_met all_rules [] false waiting position word h

abbrev pub faults : Waiting → Text → Held → Kinds
faults waiting word h = word_fault shape [] false waiting word h

-- `--` ends the options
pub dashes_met : (waiting : Waiting) (i : ℕ) (word : Text) (h : Held) → bytes_eq word hyphens ≡ true
    → meets waiting i word h ≡ (h, trailing i)
dashes_met waiting i word h e = rw (no_subcommand waiting word, e) refl

pub dashes_fine : (waiting : Waiting) (word : Text) (h : Held) → bytes_eq word hyphens ≡ true
    → faults waiting word h ≡ []
dashes_fine waiting word h e = rw (no_subcommand waiting word, e) refl

-- an option's word, by its name
pub long_met_by : (waiting : Waiting) (i : ℕ) (word name : Text) (value : Option Text) (h : Held)
    → bytes_eq word hyphens ≡ false
    → long_of word ≡ Some (name, value) → meets waiting i word h ≡ long_word all_rules waiting word name value h
long_met_by waiting i word name value h e long = rw (no_subcommand waiting word, e, long) refl

pub long_faults : (waiting : Waiting) (word name : Text) (value : Option Text) (h : Held)
    → bytes_eq word hyphens ≡ false
    → long_of word ≡ Some (name, value)
    → faults waiting word h ≡ long_fault all_rules false (arg_by_long all_rules name) value h
long_faults waiting word name value h e long = rw (no_subcommand waiting word, e, long) refl

-- any other word
pub other_met : (waiting : Waiting) (i : ℕ) (word : Text) (h : Held) → bytes_eq word hyphens ≡ false
    → long_of word ≡ None
    → short_of word ≡ None
    → meets waiting i word h ≡ plain_word all_rules waiting word h
other_met waiting i word h e long short = rw (no_subcommand waiting word, e, long, short) refl

pub other_fine : (waiting : Waiting) (word : Text) (h : Held) → bytes_eq word hyphens ≡ false → long_of word ≡ None
    → short_of word ≡ None
    → faults waiting word h ≡ []
other_fine waiting word h e long short = rw (no_subcommand waiting word, e, long, short) refl

-- short options: there is none, so that clap refuses the word or, where its bytes spell no characters, reads it as any
-- other
pub data ReadsShort (waiting : Waiting) (word : Text) (h : Held) : Type 0 where
  Refuses : faults waiting word h ≡ kind.UnknownArgument ∷ [] → ReadsShort waiting word h
  Passes : faults waiting word h ≡ [] → ((i : ℕ) → meets waiting i word h ≡ plain_word all_rules waiting word h)
      → ReadsShort waiting word h

abbrev no_skip : Held → Held
no_skip h = record h { skip = 0 }

bundle_is : (b : ℕ) (more : Text) (h : Held) → slice_get (chars (b ∷ more)) 0 ≡ None
    → bundle all_rules (b ∷ more) (no_skip h) ≡ (no_skip h, plain)
unfolding bundle_met
bundle_is b more h e = rw e refl

no_fault : (b : ℕ) (more : Text) (h : Held) → slice_get (chars (b ∷ more)) 0 ≡ None
    → bundle_fault all_rules false (b ∷ more) (no_skip h) ≡ []
unfolding flags_fault
no_fault b more h e = rw e refl

refused : (b : ℕ) (more : Text) (h : Held) (x : ℕ) → slice_get (chars (b ∷ more)) 0 ≡ Some x
    → bundle_fault all_rules false (b ∷ more) (no_skip h) ≡ kind.UnknownArgument ∷ []
unfolding flags_fault
refused b more h x e = rw e refl

-- a short option is refused, or read as any other word where its bytes spell no characters
pub short_read : (waiting : Waiting) (word : Text) (h : Held) (b : ℕ) (more : Text) → bytes_eq word hyphens ≡ false
    → long_of word ≡ None
    → short_of word ≡ Some (b ∷ more) → ReadsShort waiting word (no_skip h)
short_read waiting word h b more e long short = go (slice_get (chars (b ∷ more)) 0) refl
  where
    go : (o : Option ℕ) → slice_get (chars (b ∷ more)) 0 ≡ o → ReadsShort waiting word (no_skip h)
    go None f = Passes (rw (no_subcommand waiting word, e, long, short) (no_fault b more h f))
        (λ i. rw (no_subcommand waiting word, e, long, short, bundle_is b more h f) refl)
    go (Some x) f = Refuses (rw (no_subcommand waiting word, e, long, short) (refused b more h x f))
