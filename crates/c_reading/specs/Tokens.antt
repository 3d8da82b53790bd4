-- Readers of names, of rows of like tokens, and of groups in which brackets match.
use Rattle.std.specs.Prelude.{ℕ, Bool, true, false, List, [], ◌∷◌, Option, None, Some, if◌then◌else◌}
use Rattle.c_words.specs.declared.kinds.TokenKind.{TokenKind}
use Rattle.c_words.specs.declared.kinds.TokenKind.TheVariants as kinds
use Rattle.c_words.specs.declared.kinds.Punct.TheVariants.{OpenParen, CloseParen, OpenBracket, CloseBracket, OpenBrace, CloseBrace, Colon, Ellipsis, Equal, Semicolon, Star}
use Rattle.c_words.specs.declared.kinds.Keyword.{Keyword}
use Rattle.c_words.specs.declared.kinds.Keyword.TheVariants as keywords
use Rattle.c_tree.specs.declared.lexeme.Lexeme.{Lexeme}
use Rattle.c_syntax.specs.declared.parts.Identifier.{Identifier}
use Rattle.c_syntax.specs.declared.parts.Word.{Word}
use Rattle.c_syntax.specs.declared.parts.Group.{Group}
use Rattle.c_syntax.specs.declared.parts.Attr.{Attr}
use Rattle.c_syntax.specs.declared.parts.Assert.{Assert}
use Rattle.c_syntax.specs.declared.parts.Qual.{Qual}
use Rattle.c_syntax.specs.declared.parts.Qual.TheVariants as quals
use Rattle.c_syntax.specs.declared.parts.PointerWord.{PointerWord}
use Rattle.c_syntax.specs.declared.parts.PointerWord.TheVariants as pointer_words
use Rattle.c_syntax.specs.declared.parts.ArrayWord.{ArrayWord}
use Rattle.c_syntax.specs.declared.parts.ArrayWord.TheVariants as array_words
use Rattle.c_reading.specs.declared.kinds.FaultKind.TheVariants.{Unexpected}
use Rattle.c_reading.specs.declared.kinds.Bracket.{Bracket}
use Rattle.c_reading.specs.declared.kinds.Bracket.TheVariants.{Paren, Square, Brace}
use Rattle.c_reading.specs.declared.kinds.Inside.{Inside}
use Rattle.c_reading.specs.declared.kinds.Inside.TheVariants.{Opens, Closes, Plain, Stops}
pub use Rattle.c_reading.specs.Reading.{is_comma}
use Rattle.c_units.specs.HeldScopes.{HeldScopes}
use Rattle.c_reading.specs.Reading.{Reader, Read, Turn, kind_at, ◌>>=◌, ends, refuses, fits, take_one, token_at, run, repeated}

-- the sign `(`
abbrev pub is_open_paren : TokenKind → Bool
is_open_paren (kinds.Punct OpenParen) = true
is_open_paren kind = false

-- the sign `)`
abbrev pub is_close_paren : TokenKind → Bool
is_close_paren (kinds.Punct CloseParen) = true
is_close_paren kind = false

-- the sign `[`
abbrev pub is_open_bracket : TokenKind → Bool
is_open_bracket (kinds.Punct OpenBracket) = true
is_open_bracket kind = false

-- the sign `]`
abbrev pub is_close_bracket : TokenKind → Bool
is_close_bracket (kinds.Punct CloseBracket) = true
is_close_bracket kind = false

-- the sign `{`
abbrev pub is_open_brace : TokenKind → Bool
is_open_brace (kinds.Punct OpenBrace) = true
is_open_brace kind = false

-- the sign `}`
abbrev pub is_close_brace : TokenKind → Bool
is_close_brace (kinds.Punct CloseBrace) = true
is_close_brace kind = false

-- the sign `:`
abbrev pub is_colon : TokenKind → Bool
is_colon (kinds.Punct Colon) = true
is_colon kind = false

-- the sign `...`
abbrev pub is_dots : TokenKind → Bool
is_dots (kinds.Punct Ellipsis) = true
is_dots kind = false

-- the sign `=`
abbrev pub is_equal : TokenKind → Bool
is_equal (kinds.Punct Equal) = true
is_equal kind = false

-- the sign `;`
abbrev pub is_semicolon : TokenKind → Bool
is_semicolon (kinds.Punct Semicolon) = true
is_semicolon kind = false

-- the sign `*`
abbrev pub is_star : TokenKind → Bool
is_star (kinds.Punct Star) = true
is_star kind = false

-- the end of the unit
abbrev pub is_end : TokenKind → Bool
is_end kinds.End = true
is_end kind = false

-- a string literal
abbrev pub is_text : TokenKind → Bool
is_text kinds.Text = true
is_text kind = false

-- the keyword `__extension__`
abbrev pub is_extension : TokenKind → Bool
is_extension (kinds.Keyword keywords.Extension) = true
is_extension kind = false

-- the keyword `__attribute__`
abbrev pub is_attribute : TokenKind → Bool
is_attribute (kinds.Keyword keywords.Attribute) = true
is_attribute kind = false

-- the keyword `asm`
abbrev pub is_asm : TokenKind → Bool
is_asm (kinds.Keyword keywords.Asm) = true
is_asm kind = false

-- the keyword `_Static_assert`
abbrev pub is_static_assert : TokenKind → Bool
is_static_assert (kinds.Keyword keywords.StaticAssert) = true
is_static_assert kind = false

-- the keyword `while`
abbrev pub is_while : TokenKind → Bool
is_while (kinds.Keyword keywords.While) = true
is_while kind = false

-- the keyword `else`
abbrev pub is_else : TokenKind → Bool
is_else (kinds.Keyword keywords.Else) = true
is_else kind = false

-- the keyword `__label__`
abbrev pub is_label_word : TokenKind → Bool
is_label_word (kinds.Keyword keywords.LabelWord) = true
is_label_word kind = false

-- the keyword `default`
abbrev pub is_default : TokenKind → Bool
is_default (kinds.Keyword keywords.Default) = true
is_default kind = false

-- a base word: a keyword that stands alone as a type, as `__builtin_va_list` does
abbrev pub is_base_word : TokenKind → Bool
is_base_word (kinds.Keyword keywords.BaseWord) = true
is_base_word kind = false

-- the keyword `static`
abbrev pub is_static : TokenKind → Bool
is_static (kinds.Keyword keywords.Static) = true
is_static kind = false

-- the name of a name's token
abbrev pub spelled_name : TokenKind → Option ℕ
spelled_name (kinds.Name name) = Some name
spelled_name kind = None

-- a name of a token of this number
abbrev pub identifier_of : ℕ → ℕ → Identifier
identifier_of token name = record { token = token; name = name }

-- a keyword of a token of this number
abbrev pub word_of : Keyword → ℕ → Word
word_of keyword token = record { token = token; keyword = keyword }

-- the name of a token, which is refused where it is none
abbrev pub name_by : Option ℕ → Lexeme → Reader Identifier
name_by (Some name) t s ts = ends (identifier_of t.at name) s ts
name_by None t s ts = refuses Unexpected (t ∷ ts)

-- the name at the first token, which must be one
abbrev pub name_at : Reader Identifier
name_at s [] = refuses Unexpected []
name_at s (t ∷ ts) = name_by (spelled_name t.kind) t s ts

-- the name of a token as a tag; another token stays, and there is no tag
abbrev pub tag_by : Option ℕ → Lexeme → Reader (Option Identifier)
tag_by (Some name) t s ts = ends (Some (identifier_of t.at name)) s ts
tag_by None t s ts = ends None s (t ∷ ts)

-- a tag, where a name stands
abbrev pub tag_at : Reader (Option Identifier)
tag_at s [] = ends None s []
tag_at s (t ∷ ts) = tag_by (spelled_name t.kind) t s ts

-- ext* , each of a node that has two levels at least
unfoldable pub extensions_at : ℕ → Reader (List ℕ)
extensions_at room s ts = repeated is_extension (λ s ts. fits 2 room ts (take_one s ts)) s ts

-- Text*
unfoldable pub texts_at : Reader (List ℕ)
texts_at s ts = repeated is_text take_one s ts

-- what a token is as a qualifier: a word, a `$` word that names an element, or an index
abbrev pub qual_of : TokenKind → Option (ℕ → Qual)
qual_of (kinds.Keyword keywords.Const) = Some (λ token. quals.Word (word_of keywords.Const token))
qual_of (kinds.Keyword keywords.Volatile) = Some (λ token. quals.Word (word_of keywords.Volatile token))
qual_of (kinds.Keyword keywords.Restrict) = Some (λ token. quals.Word (word_of keywords.Restrict token))
qual_of (kinds.Keyword keywords.Atomic) = Some (λ token. quals.Word (word_of keywords.Atomic token))
qual_of (kinds.Keyword keywords.AtomicType) = Some (λ token. quals.Word (word_of keywords.AtomicType token))
qual_of (kinds.Keyword keywords.Seg) = Some (λ token. quals.Word (word_of keywords.Seg token))
qual_of (kinds.Qual lattice elem) = Some quals.Element
qual_of kinds.Index = Some quals.Index
qual_of kind = None

-- a token as what it may be
abbrev pub made_by : {A : Type 0} → Option (ℕ → A) → Lexeme → Reader A
made_by None t s ts = refuses Unexpected (t ∷ ts)
made_by (Some make) t s ts = ends (make t.at) s ts

-- the first token as what it may be, which must be so
abbrev pub made_at : {A : Type 0} → (TokenKind → Option (ℕ → A)) → Reader A
made_at of s [] = refuses Unexpected []
made_at of s (t ∷ ts) = made_by (of t.kind) t s ts

-- whether a token may be so
abbrev pub is_made : {A : Type 0} → Option A → Bool
is_made None = false
is_made (Some a) = true

-- a qualifier among specifiers, where `_Atomic` before a parenthesis begins a type
abbrev pub word_qual_of : TokenKind → Option (ℕ → Qual)
word_qual_of (kinds.Keyword keywords.AtomicType) = None
word_qual_of kind = qual_of kind

-- qual*
unfoldable pub quals_at : Reader (List Qual)
quals_at s ts = repeated (λ kind. is_made (word_qual_of kind)) (made_at word_qual_of) s ts

-- a qualifier or `static` behind the bracket of an array declarator, by what the token is as a qualifier
abbrev pub array_word_by : Option (ℕ → Qual) → TokenKind → Option (ℕ → ArrayWord)
array_word_by (Some make) kind = Some (λ token. array_words.Qual (make token))
array_word_by None kind = if is_static kind then Some array_words.Static else None

-- what a token is behind the bracket of an array declarator: a qualifier or `static`
abbrev pub array_word_of : TokenKind → Option (ℕ → ArrayWord)
array_word_of kind = array_word_by (qual_of kind) kind

-- (static | qual)*
unfoldable pub array_words_at : Reader (List ArrayWord)
array_words_at s ts = repeated (λ kind. is_made (array_word_of kind)) (made_at array_word_of) s ts

-- what a token is between `asm` and its parenthesis
abbrev pub asm_word_of : TokenKind → Option (ℕ → Word)
asm_word_of (kinds.Keyword keywords.Volatile) = Some (word_of keywords.Volatile)
asm_word_of (kinds.Keyword keywords.Goto) = Some (word_of keywords.Goto)
asm_word_of (kinds.Keyword keywords.Inline) = Some (word_of keywords.Inline)
asm_word_of kind = None

-- (volatile | goto | inline)*
unfoldable pub asm_words_at : Reader (List Word)
asm_words_at s ts = repeated (λ kind. is_made (asm_word_of kind)) (made_at asm_word_of) s ts

-- what a token is inside brackets
abbrev pub inside_of : TokenKind → Inside
inside_of (kinds.Punct OpenParen) = Opens Paren
inside_of (kinds.Punct CloseParen) = Closes Paren
inside_of (kinds.Punct OpenBracket) = Opens Square
inside_of (kinds.Punct CloseBracket) = Closes Square
inside_of (kinds.Punct OpenBrace) = Opens Brace
inside_of (kinds.Punct CloseBrace) = Closes Brace
inside_of kinds.End = Stops
inside_of kind = Plain

-- whether two brackets are of one kind
abbrev pub is_same : Bracket → Bracket → Bool
is_same Paren Paren = true
is_same Square Square = true
is_same Brace Brace = true
is_same _ _ = false

-- the brackets that are open, the innermost first, and the number of the last token
pub record Opened : Type 0 where
  pub brackets : List Bracket
  pub last : ℕ

-- a token inside of brackets: one more opens, the innermost is closed by its own kind, or it stands plain
abbrev pub bracket_by : Inside → Bracket → List Bracket → Lexeme → Reader Opened
bracket_by (Opens other) b bs t s ts = ends (record { brackets = other ∷ b ∷ bs; last = t.at }) s ts
bracket_by (Closes other) b bs t s ts =
    if is_same other b then ends (record { brackets = bs; last = t.at }) s ts else refuses Unexpected (t ∷ ts)
bracket_by Plain b bs t s ts = ends (record { brackets = b ∷ bs; last = t.at }) s ts
bracket_by Stops b bs t s ts = refuses Unexpected (t ∷ ts)

-- one token inside of brackets, of which this is the innermost
abbrev pub bracket_step : Bracket → List Bracket → Reader Opened
bracket_step b bs s [] = refuses Unexpected []
bracket_step b bs s (t ∷ ts) = bracket_by (inside_of t.kind) b bs t s ts

-- one token of a group, as long as a bracket is open
abbrev pub bracket_turn_by : List Bracket → HeldScopes → List Lexeme → Option (Read Opened)
bracket_turn_by [] s ts = None
bracket_turn_by (b ∷ bs) s ts = Some (bracket_step b bs s ts)

-- one token of a group, by the brackets that are open
abbrev pub bracket_turn : Turn Opened
bracket_turn state s ts = bracket_turn_by state.brackets s ts

-- bal: a group from a parenthesis to its own
unfoldable pub group_at : Reader Group
group_at s ts = do
  opening ← token_at is_open_paren s ts
  inside ← run bracket_turn (record { brackets = Paren ∷ []; last = opening.tree }) opening.scopes opening.rest
  ends (record { first = opening.tree; last = inside.tree.last }) inside.scopes inside.rest

-- Align = _Alignas bal
unfoldable pub align_at : Reader Attr
align_at s ts = do
  keyword ← take_one s ts
  group ← group_at keyword.scopes keyword.rest
  ends (record { keyword = keyword.tree; group = group.tree }) group.scopes group.rest

-- Attr = attribute bal
unfoldable pub attr_at : Reader Attr
attr_at s ts = do
  keyword ← token_at is_attribute s ts
  group ← group_at keyword.scopes keyword.rest
  ends (record { keyword = keyword.tree; group = group.tree }) group.scopes group.rest

-- Attr* of a node that has two levels at least where one stands
unfoldable pub attrs_at : ℕ → Reader (List Attr)
attrs_at room s ts = repeated is_attribute (λ s ts. fits 2 room ts (attr_at s ts)) s ts

-- (qual | Attr)*
unfoldable pub pointer_word_at : ℕ → Reader PointerWord
pointer_word_at room s ts =
    if is_attribute (kind_at ts)
    then fits 2 room ts (attr_at s ts >>= λ attr. ends (pointer_words.Attr attr.tree) attr.scopes attr.rest)
    else made_at qual_of s ts >>= λ qual. ends (pointer_words.Qual qual.tree) qual.scopes qual.rest

-- whether an attribute or a qualifier stands behind the `*` of a pointer
abbrev pub begins_pointer_word : TokenKind → Bool
begins_pointer_word kind = if is_attribute kind then true else is_made (qual_of kind)

-- (qual | Attr)*, behind the `*` of a pointer
unfoldable pub pointer_words_at : ℕ → Reader (List PointerWord)
pointer_words_at room s ts = repeated begins_pointer_word (pointer_word_at room) s ts

-- Assert = _Static_assert bal ;
unfoldable pub assert_at : Reader Assert
assert_at s ts = do
  keyword ← token_at is_static_assert s ts
  group ← group_at keyword.scopes keyword.rest
  semi ← token_at is_semicolon group.scopes group.rest
  ends (record { keyword = keyword.tree; group = group.tree; semi = semi.tree }) semi.scopes semi.rest
