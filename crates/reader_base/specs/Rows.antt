-- The turns of the rows of like tokens.
use Rattle.std.specs.Prelude.{ℕ, Bool, true, false, List, Option, option_map}
use Rattle.c_words.specs.declared.kinds.Keyword.TheVariants as keywords
use Rattle.c_words.specs.declared.kinds.TokenKind.{TokenKind}
use Rattle.c_words.specs.declared.kinds.TokenKind.TheVariants as kinds
use Rattle.c_syntax.specs.declared.parts.Attr.{Attr}
use Rattle.c_syntax.specs.declared.parts.Qual.{Qual}
use Rattle.c_syntax.specs.declared.parts.Word.{Word}
use Rattle.c_syntax.specs.declared.parts.PointerWord.{PointerWord}
use Rattle.c_syntax.specs.declared.parts.ArrayWord.{ArrayWord}
use Rattle.c_reading.specs.Reading.{Turn, fits, take_one, repeated_turn}
use Rattle.c_reading.specs.Tokens.{is_extension, is_text, is_attribute, word_qual_of, array_word_of, asm_word_of, is_made, made_at, attr_at, begins_pointer_word, pointer_word_at}

-- one more `__extension__`
abbrev pub extension_turn : ℕ → Turn (List ℕ)
extension_turn room = repeated_turn is_extension (λ s ts. fits 2 room ts (take_one s ts))

-- one more adjacent string literal
abbrev pub text_turn : Turn (List ℕ)
text_turn = repeated_turn is_text take_one

-- one more qualifier before `...`
abbrev pub qual_turn : Turn (List Qual)
qual_turn = repeated_turn (λ kind. is_made (word_qual_of kind)) (made_at word_qual_of)

-- one more qualifier or `static` behind the `[` of an array declarator
abbrev pub array_word_turn : Turn (List ArrayWord)
array_word_turn = repeated_turn (λ kind. is_made (array_word_of kind)) (made_at array_word_of)

-- one more word between `asm` and its parenthesis
abbrev pub asm_word_turn : Turn (List Word)
asm_word_turn = repeated_turn (λ kind. is_made (asm_word_of kind)) (made_at asm_word_of)

-- one more attribute
abbrev pub attr_turn : ℕ → Turn (List Attr)
attr_turn room = repeated_turn is_attribute (λ s ts. fits 2 room ts (attr_at s ts))

-- one more qualifier or attribute behind the `*` of a pointer
abbrev pub pointer_word_turn : ℕ → Turn (List PointerWord)
pointer_word_turn room = repeated_turn begins_pointer_word (pointer_word_at room)

-- what is made of a token with this number
abbrev pub made_of : {A : Type 0} → Option (ℕ → A) → ℕ → Option A
made_of make token = option_map (λ make. make token) make

-- `_Atomic` before a parenthesis, which begins a type among specifiers
abbrev pub is_atomic_type : TokenKind → Bool
is_atomic_type (kinds.Keyword keywords.AtomicType) = true
is_atomic_type kind = false
