-- Names with a comma between two.
use Rattle.std.proofs.Common.{◌≡◌, ℕ, Bool, true, false, refl}
use Rattle.c_words.specs.declared.kinds.TokenKind.{TokenKind}
use Rattle.c_syntax.specs.declared.parts.Identifier.{Identifier}
use Rattle.c_reading.specs.Reading.{Reader, one_more, ends, listed, is_comma}
use Rattle.c_reading.specs.Declaring.{next_name, names_list}
use Rattle.c_reading.proofs.Forms.{Falls, Shrinks, shrinks_falls}
use Rattle.reading_steps.specs.Steps.{any, Law}
use Rattle.reading_steps.proofs.Steps.{law_before}
use Rattle.reading_steps.proofs.Lists.{listed_law}
use Rattle.reading_steps.proofs.Chains.{ends_falls, behind_falls}
use Rattle.token_places.proofs.Single.{mapped_law}

-- They end before a token that is no comma, where each name is read whatever stands behind it.
pub names_law : (keep : Bool) (name : Reader Identifier) → Shrinks name → (front stops : TokenKind → Bool) →
    ((kind : TokenKind) → stops kind ≡ true → is_comma kind ≡ false) → Law keep name front any
    → Law keep (names_list name) front stops
unfolding names_list
names_law keep name shrinks front stops off law =
    mapped_law keep (listed name (next_name name)) (λ xs. xs.items) front stops
    (listed_law keep (next_name name) falls any stops (λ kind h. refl) off next_law name front law)
  where
    falls : (comma : ℕ) → Falls (next_name name comma)
    falls comma = behind_falls name (λ x. ends (one_more x)) (shrinks_falls name shrinks) (λ x. ends_falls (one_more x))

    next_law : (comma : ℕ) → Law keep (next_name name comma) any stops
    next_law comma =
        mapped_law keep name one_more any stops
        (law_before keep name front any any stops (λ kind h. refl) (λ kind h. refl) law)
