-- Qualifiers among specifiers: those of all places but `_Atomic` before a parenthesis.
use Rattle.std.proofs.Common.{◌≡◌, ℕ, None, refl}
use Rattle.std.specs.Prelude.{if◌then◌else◌}
use Rattle.c_words.specs.declared.kinds.Keyword.TheVariants as keywords
use Rattle.c_words.specs.declared.kinds.TokenKind.{TokenKind}
use Rattle.c_words.specs.declared.kinds.TokenKind.TheVariants as kinds
use Rattle.c_reading.specs.Tokens.{qual_of, word_qual_of}
use Rattle.reader_base.specs.Rows.{is_atomic_type, made_of}

-- `_Atomic` before a parenthesis is none, and each other kind is the qualifier that it is elsewhere
pub word_qual_is : (kind : TokenKind) (token : ℕ)
    → made_of (word_qual_of kind) token ≡ (if is_atomic_type kind then None else made_of (qual_of kind) token)
word_qual_is (kinds.Keyword keywords.AtomicType) token = refl
word_qual_is kind token = refl
