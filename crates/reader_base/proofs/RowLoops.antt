-- The rows of like tokens and the groups are read by loops.
use Rattle.std.proofs.Common.{◌≡◌, ℕ, ◌<◌, Bool, List, [], ◌∷◌, length, Some, ap, arith}
use Rattle.c_words.specs.declared.kinds.TokenKind.{TokenKind}
use Rattle.c_tree.specs.declared.lexeme.Lexeme.{Lexeme}
use Rattle.c_syntax.specs.declared.parts.Attr.{Attr}
use Rattle.c_units.specs.HeldScopes.{HeldScopes}
use Rattle.c_reading.specs.Reading.{Found, Reader, fits, take_one, repeated_turn}
use Rattle.c_reading.specs.Tokens.{is_extension, is_text, is_attribute, word_qual_of, array_word_of, asm_word_of, is_made, made_at, attr_at, begins_pointer_word, pointer_word_at}
use Rattle.c_reading.proofs.Binding.{ok_is, bind_ok, fits_ok, take_falls, token_falls}
use Rattle.c_reading.proofs.Forms.{Shrinks}
use Rattle.c_reading.proofs.Rows.{row_turn_shrinks}
use Rattle.c_reading.proofs.TokenRows.{made_shrinks}
use Rattle.c_reading.proofs.Groups.{group_shrinks}
use Rattle.c_reading.proofs.TokensShown.{pointer_word_shrinks}
use Rattle.reader_base.specs.Looping.{IsLoop}
use Rattle.reader_base.specs.Rows.{extension_turn, text_turn, qual_turn, array_word_turn, asm_word_turn, attr_turn, pointer_word_turn}
use Rattle.reader_base.proofs.Looping.{is_loop}

-- a row goes on as long as its items take tokens
pub repeated_loop : {T : Type 0} (begins : TokenKind → Bool) (read : Reader T) → Shrinks read
    → IsLoop (repeated_turn begins read)
repeated_loop begins read shrinks = is_loop (repeated_turn begins read) (row_turn_shrinks begins read shrinks)

take_shrinks : Shrinks take_one
take_shrinks s ts x e = let one = take_falls s ts x e in omega (arith, one)

fits_shrinks : {T : Type 0} (least room : ℕ) (read : Reader T) → Shrinks read
    → Shrinks (λ s ts. fits least room ts (read s ts))
fits_shrinks least room read shrinks s ts x e = shrinks s ts x (fits_ok least room ts e).1

attr_shrinks : Shrinks attr_at
unfolding attr_at
attr_shrinks s ts x e =
    let a = bind_ok e in
    let b = bind_ok a.2 in
    let end = ap (λ (x : Found Attr). length x.rest) (ok_is b.2) in
    omega (arith, token_falls is_attribute _ _ _ a.1, group_shrinks _ _ _ b.1, end)

pub extension_loop : (room : ℕ) → IsLoop (extension_turn room)
extension_loop room =
    repeated_loop is_extension (λ s ts. fits 2 room ts (take_one s ts)) (fits_shrinks 2 room take_one take_shrinks)

pub text_loop : IsLoop text_turn
text_loop = repeated_loop is_text take_one take_shrinks

pub qual_loop : IsLoop qual_turn
qual_loop = repeated_loop (λ kind. is_made (word_qual_of kind)) (made_at word_qual_of) (made_shrinks word_qual_of)

pub array_word_loop : IsLoop array_word_turn
array_word_loop =
    repeated_loop (λ kind. is_made (array_word_of kind)) (made_at array_word_of) (made_shrinks array_word_of)

pub asm_word_loop : IsLoop asm_word_turn
asm_word_loop = repeated_loop (λ kind. is_made (asm_word_of kind)) (made_at asm_word_of) (made_shrinks asm_word_of)

pub attr_loop : (room : ℕ) → IsLoop (attr_turn room)
attr_loop room =
    repeated_loop is_attribute (λ s ts. fits 2 room ts (attr_at s ts)) (fits_shrinks 2 room attr_at attr_shrinks)

pub pointer_word_loop : (room : ℕ) → IsLoop (pointer_word_turn room)
pointer_word_loop room = repeated_loop begins_pointer_word (pointer_word_at room) (pointer_word_shrinks [] room)
