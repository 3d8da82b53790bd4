-- The readers of specifiers at a number of the knot, and what they answer.
use Rattle.std.specs.Prelude.{◌≡◌, ℕ, ◌-◌, max, Bool, List, map, Option, None, Some, Result, if◌then◌else◌}
use Rattle.c_syntax.specs.declared.parts.Identifier.{Identifier}
use Rattle.c_syntax.specs.declared.parts.Listed.{Listed}
use Rattle.c_syntax.specs.declared.specifier.Enumerator.{Enumerator}
use Rattle.c_syntax.specs.declared.specifier.MemDeclr.{MemDeclr as RustMemDeclr}
use Rattle.c_words.specs.declared.kinds.Keyword.{Keyword}
use Rattle.c_tree.specs.declared.lexeme.Lexeme.{Lexeme}
use Rattle.c_tree.specs.Tree.{SpecWords, SpecWord, SomeValue, no_value, some_value, SomeEnumBody, SomeBody, StructItem, MemDeclr}
use Rattle.c_tree.specs.Lists.{some_value_from, some_enum_body_from, some_body_from}
use Rattle.c_tree.specs.View.{spec_word_of, struct_item_of, mem_declr_of}
use Rattle.c_specs.specs.Reading.{pushed}
use Rattle.c_nodes.specs.declared.sized.SizedWord.{SizedWord}
use Rattle.c_nodes.specs.declared.sized.SizedValue.{SizedValue}
use Rattle.c_nodes.specs.declared.sized.SizedEnumerator.{SizedEnumerator}
use Rattle.c_nodes.specs.declared.sized.SizedEnumBody.{SizedEnumBody}
use Rattle.c_nodes.specs.declared.sized.SizedMemDeclr.{SizedMemDeclr}
use Rattle.c_nodes.specs.declared.sized.SizedMember.{SizedMember}
use Rattle.c_nodes.specs.declared.sized.SizedMembers.{SizedMembers}
use Rattle.c_nodes.specs.declared.sized.SizedStructItem.{SizedStructItem}
use Rattle.c_nodes.specs.declared.sized.SizedStructItems.{SizedStructItems}
use Rattle.c_nodes.specs.declared.sized.SizedBody.{SizedBody}
use Rattle.c_nodes.specs.Sized.{enumerator_of}
use Rattle.c_reading.specs.declared.kinds.Reach.TheVariants.{Conditional}
use Rattle.c_reading.specs.declared.kinds.Role.{Role}
use Rattle.c_reading.specs.declared.kinds.SpecStart.{SpecStart}
use Rattle.c_reading.specs.Reading.{Reader, Turn, Next, CommaList, with_next, ◌>>=◌, ends, fits, take_one, run, comma_turn, listed, repeated_turn, repeated}
use Rattle.c_reading.specs.Parts.{nothing, EnumItem, MemberItem}
use Rattle.c_reading.specs.Knot.{knot}
use Rattle.c_reading.specs.Specifying.{word_by, word_with, word_turn, specs_with, enumerator_behind, enumerator_named, enumerator_with, next_enumerator, enumerators_with, enum_body_with, enum_with, width_with, field_with, mem_declr_with, first_member, next_member, mem_declrs_with, member_with, struct_item_with, members_with, body_with, struct_with}
use Rattle.c_reading.specs.Turns.{no_close_brace}
use Rattle.reader_base.specs.declared.fault.ReadError.{ReadError}
use Rattle.reader_base.specs.declared.cursor.Cursor.{Cursor}
use Rattle.reader_base.specs.Gives.{Reads}
use Rattle.reader_base.specs.Lent.{sized_specs}
use Rattle.spec_forms.specs.declared.mixed.Mixed.{Mixed}
use Rattle.spec_forms.specs.declared.enums.EnumList.{EnumList}

-- the tree of the words so far
abbrev pub words_in : Mixed → SpecWords
words_in m = sized_specs m.words

-- what readers answer, at a cursor

-- a word of specifiers is read as the reader of lists gives it
abbrev pub ReadsWord : Cursor → Cursor → Result SizedWord ReadError → Reader SpecWord → Type 0
ReadsWord before after result reader = Reads (λ x. spec_word_of x.word) before after result reader

-- the words so far, with those that were read, are what the reader of lists gives
abbrev pub ReadsMixed : Mixed → Cursor → Cursor → Result (Unit {0}) ReadError → Reader SpecWords → Type 0
ReadsMixed mixed before after result reader = Reads (λ _. words_in mixed) before after result reader

-- a width or a value with the sign before it, if any, is read so
abbrev pub ReadsValue : Cursor → Cursor → Result SizedValue ReadError → Reader SomeValue → Type 0
ReadsValue before after result reader = Reads (λ x. some_value_from x.value) before after result reader

-- an enumerator with its attributes and value
abbrev pub enum_item : Enumerator → EnumItem
enum_item e = record { name = e.name; attrs = e.attrs.items; value = some_value_from e.value }

-- an enumerator is read so
abbrev pub ReadsEnumerator : Cursor → Cursor → Result SizedEnumerator ReadError → Reader EnumItem → Type 0
ReadsEnumerator before after result reader = Reads (λ x. enum_item (enumerator_of x)) before after result reader

-- enumerators so far, and the comma that ended their list
abbrev pub enum_list : EnumList → CommaList EnumItem ℕ
enum_list l = record { items = map enum_item l.items.items.items; ending = l.ending }

-- the list of enumerators, with those that were read, is what the reader of lists gives
abbrev pub ReadsEnumList : EnumList → Cursor → Cursor → Result (Unit {0}) ReadError → Reader (CommaList EnumItem ℕ)
    → Type 0
ReadsEnumList l before after result reader = Reads (λ _. enum_list l) before after result reader

-- a list of enumerators is read so
abbrev pub ReadsEnums : Cursor → Cursor → Result EnumList ReadError → Reader (CommaList EnumItem ℕ) → Type 0
ReadsEnums before after result reader = Reads enum_list before after result reader

-- the body of an enumeration, if any, is read so
abbrev pub ReadsEnumBody : Cursor → Cursor → Result SizedEnumBody ReadError → Reader SomeEnumBody → Type 0
ReadsEnumBody before after result reader = Reads (λ x. some_enum_body_from x.body) before after result reader

-- a member's declarator is read so
abbrev pub ReadsMemDeclr : Cursor → Cursor → Result SizedMemDeclr ReadError → Reader MemDeclr → Type 0
ReadsMemDeclr before after result reader = Reads (λ x. mem_declr_of x.declr) before after result reader

-- a member's declarator, with the attributes before it
abbrev pub member_item : Listed RustMemDeclr → MemberItem
member_item d = record { attrs = d.attrs.items; declr = mem_declr_of d.item }

-- the same of one that was read and is not yet in the list
abbrev pub listed_item : SizedMember → MemberItem
listed_item x = record { attrs = x.attrs.items; declr = mem_declr_of x.declr }

-- a member's declarator with the attributes before it is read so
abbrev pub ReadsMember : Cursor → Cursor → Result SizedMember ReadError → Reader MemberItem → Type 0
ReadsMember before after result reader = Reads listed_item before after result reader

-- declarators of a member's declaration so far
abbrev pub member_list : SizedMembers → CommaList MemberItem ⊥
member_list l = record { items = map member_item l.items.items; ending = None }

-- the list of declarators, with those that were read, is what the reader of lists gives
abbrev pub ReadsMemberList : SizedMembers → Cursor → Cursor → Result (Unit {0}) ReadError
    → Reader (CommaList MemberItem ⊥) → Type 0
ReadsMemberList l before after result reader = Reads (λ _. member_list l) before after result reader

-- the declarators of a member's declaration are read so
abbrev pub ReadsMembers : Cursor → Cursor → Result SizedMembers ReadError → Reader (List MemberItem) → Type 0
ReadsMembers before after result reader = Reads (λ x. map member_item x.items.items) before after result reader

-- a member's declaration is read so
abbrev pub ReadsStructItem : Cursor → Cursor → Result SizedStructItem ReadError → Reader StructItem → Type 0
ReadsStructItem before after result reader = Reads (λ x. struct_item_of x.item) before after result reader

-- the trees of members so far
abbrev pub struct_items : SizedStructItems → List StructItem
struct_items l = map struct_item_of l.items.items

-- the list of members, with those that were read, is what the reader of lists gives
abbrev pub ReadsStructItems : SizedStructItems → Cursor → Cursor → Result (Unit {0}) ReadError
    → Reader (List StructItem)
    → Type 0
ReadsStructItems l before after result reader = Reads (λ _. struct_items l) before after result reader

-- the members of a struct or union are read so
abbrev pub ReadsItems : Cursor → Cursor → Result SizedStructItems ReadError → Reader (List StructItem) → Type 0
ReadsItems before after result reader = Reads struct_items before after result reader

-- the body of a struct or union, if any, is read so
abbrev pub ReadsBody : Cursor → Cursor → Result SizedBody ReadError → Reader SomeBody → Type 0
ReadsBody before after result reader = Reads (λ x. some_body_from x.body) before after result reader

-- words

-- a word that begins so
abbrev pub word_at : ℕ → SpecStart → ℕ → Reader SpecWord
word_at depth start room s ts = word_by (knot depth) start room s ts

-- the words with one more that begins so
abbrev pub words_with : ℕ → Role → SpecStart → Mixed → ℕ → Reader SpecWords
words_with depth role start words room s ts =
    word_with (knot depth) role (words_in words) start room s ts >>= λ word.
    ends (pushed (words_in words) word.tree) word.scopes word.rest

-- the words with as many more as stand
abbrev pub words_at : ℕ → Role → Mixed → ℕ → Reader SpecWords
words_at depth role words room s ts = run (word_turn (knot depth) role room) (words_in words) s ts

-- Specs, behind words that were read already
abbrev pub specs_at : ℕ → Role → SpecWords → ℕ → Reader SpecWords
specs_at depth role known room s ts = specs_with (knot depth) role known room s ts

-- values

-- a value behind its sign, where that stands
abbrev pub value_at : ℕ → Bool → ℕ → Reader SomeValue
value_at depth stands room s ts =
    if stands
    then fits 2 room ts (take_one s ts >>= λ token.
    (knot depth).expr Conditional nothing (room - 1) token.scopes token.rest >>= λ e.
    ends (some_value token.tree e.tree) e.scopes e.rest)
    else ends no_value s ts

-- enums

-- Attr* [= cond], behind the name of an enumerator
abbrev pub behind_name : ℕ → Identifier → ℕ → Reader EnumItem
behind_name depth name room s ts = enumerator_behind (knot depth) name room s ts

-- the same with the name, which its scope must be able to declare, and which is refused at these tokens
abbrev pub named_at : ℕ → Identifier → List Lexeme → ℕ → Reader EnumItem
named_at depth name at room s ts = enumerator_named (knot depth) name room at s ts

-- Enumerator = Name Attr* [= cond]
abbrev pub enumerator_at : ℕ → ℕ → Reader EnumItem
enumerator_at depth room s ts = enumerator_with (knot depth) room s ts

-- behind a comma with this number
abbrev pub behind_comma : ℕ → ℕ → EnumList → ℕ → Reader (CommaList EnumItem ℕ)
behind_comma depth comma known room s ts =
    next_enumerator (knot depth) room comma s ts >>= λ x.
    ends (with_next (enum_list known).items x.tree) x.scopes x.rest

-- one more enumerator, or the end of the list, behind a comma
unfoldable pub enumerator_turn : ℕ → ℕ → Turn (CommaList EnumItem ℕ)
enumerator_turn depth room known s ts = comma_turn (next_enumerator (knot depth) room) known s ts

-- enumerators behind others
abbrev pub more_at : ℕ → EnumList → ℕ → Reader (CommaList EnumItem ℕ)
more_at depth known room s ts = run (enumerator_turn depth room) (enum_list known) s ts

-- enumerators, of which one stands at least
abbrev pub enums_at : ℕ → ℕ → Reader (CommaList EnumItem ℕ)
enums_at depth room s ts = listed (enumerator_with (knot depth) room) (next_enumerator (knot depth) room) s ts

-- { Enumerator (, Enumerator)* [,] }
abbrev pub enumerators_at : ℕ → ℕ → Reader SomeEnumBody
enumerators_at depth room s ts = enumerators_with (knot depth) room s ts

-- [{ Enumerator (, Enumerator)* [,] }], behind a tag or none
abbrev pub enum_body_at : ℕ → Option Identifier → ℕ → Reader SomeEnumBody
enum_body_at depth tag room s ts = enum_body_with (knot depth) tag room s ts

-- Enum = enum Attr* [Name] [{ Enumerator (, Enumerator)* [,] }]
abbrev pub enum_at : ℕ → ℕ → Reader SpecWord
enum_at depth room s ts = enum_with (knot depth) room s ts

-- structs and unions

-- : cond Attr*
abbrev pub width_at : ℕ → ℕ → Reader MemDeclr
width_at depth room s ts = width_with (knot depth) room s ts

-- declr [: cond] Attr*
abbrev pub field_at : ℕ → ℕ → Reader MemDeclr
field_at depth room s ts = field_with (knot depth) room s ts

-- MemDeclr = declr [: cond] Attr* | : cond Attr*
abbrev pub mem_declr_at : ℕ → ℕ → Reader MemDeclr
mem_declr_at depth room s ts = mem_declr_with (knot depth) room s ts

-- the first MemDeclr of a declaration, which has no attributes before it
abbrev pub first_member_at : ℕ → ℕ → Reader MemberItem
first_member_at depth room s ts = first_member (knot depth) room s ts

-- behind a comma with this number
abbrev pub member_behind : ℕ → ℕ → SizedMembers → ℕ → Reader (CommaList MemberItem ⊥)
member_behind depth comma known room s ts =
    next_member (knot depth) room comma s ts >>= λ x. ends (with_next (member_list known).items x.tree) x.scopes x.rest

-- one more declarator of a member's declaration, behind a comma
unfoldable pub member_turn : ℕ → ℕ → Turn (CommaList MemberItem ⊥)
member_turn depth room known s ts = comma_turn (next_member (knot depth) room) known s ts

-- declarators of a member behind others
abbrev pub more_members_at : ℕ → SizedMembers → ℕ → Reader (CommaList MemberItem ⊥)
more_members_at depth known room s ts = run (member_turn depth room) (member_list known) s ts

-- [MemDeclr (, Attr* MemDeclr)*]
abbrev pub mem_declrs_at : ℕ → ℕ → Reader (List MemberItem)
mem_declrs_at depth room s ts = mem_declrs_with (knot depth) room s ts

-- Member = ext* Specs [MemDeclr (, Attr* MemDeclr)*] ;
abbrev pub member_at : ℕ → ℕ → Reader StructItem
member_at depth room s ts = member_with (knot depth) room s ts

-- member = Member | Semi | Assert
abbrev pub struct_item_at : ℕ → ℕ → Reader StructItem
struct_item_at depth room s ts = struct_item_with (knot depth) room s ts

-- one more member of a struct or union, up to `}`
unfoldable pub struct_item_turn : ℕ → ℕ → Turn (List StructItem)
struct_item_turn depth room known s ts = repeated_turn no_close_brace (struct_item_with (knot depth) room) known s ts

-- items behind others
abbrev pub more_items_at : ℕ → SizedStructItems → ℕ → Reader (List StructItem)
more_items_at depth known room s ts = run (struct_item_turn depth room) (struct_items known) s ts

-- member*
abbrev pub items_at : ℕ → ℕ → Reader (List StructItem)
items_at depth room s ts = repeated no_close_brace (struct_item_with (knot depth) room) s ts

-- { member* }
abbrev pub members_at : ℕ → ℕ → Reader SomeBody
members_at depth room s ts = members_with (knot depth) room s ts

-- [{ member* }], behind a tag or none
abbrev pub body_at : ℕ → Option Identifier → ℕ → Reader SomeBody
body_at depth tag room s ts = body_with (knot depth) tag room s ts

-- Struct = (struct | union) Attr* [Name] [{ member* }]
abbrev pub struct_at : ℕ → Keyword → ℕ → Reader SpecWord
struct_at depth keyword room s ts = struct_with (knot depth) keyword room s ts
