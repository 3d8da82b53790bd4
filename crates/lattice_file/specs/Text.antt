-- Lattice texts: the bytes of a list of blocks, with gaps between their words and signs.
-- Each relation is between bytes and the rest of them that stands behind what it speaks of.
use Rattle.std.specs.Prelude.{◌≡◌, ℕ, ◌+◌, ◌<◌, Bool, true, false, ◌&&◌, ◌||◌, List, [], ◌∷◌, ◌++◌, length, nat_eq, nat_le, codes, Some, None, slice_index, unwrap_or, is_some, not}
use Rattle.std.specs.List.{list_all}
use Rattle.std.specs.Str.{bytes_eq}
use Rattle.lattice_core.specs.declared.Entry.{Entry}
use Rattle.lattice_core.specs.declared.Pair.{Pair}
use Rattle.lattice_core.specs.declared.Direction.{Direction}
use Rattle.lattice_core.specs.declared.Direction.TheVariants.{Up, Down}
use Rattle.lattice_core.specs.declared.Flows.{Flows}
use Rattle.lattice_core.specs.Passing.{no_flows}
use Rattle.lattice_core.specs.declared.Level.{Level}
use Rattle.lattice_core.specs.declared.Sign.{Sign}
use Rattle.lattice_core.specs.declared.Level.TheVariants.{Ref, Value}
use Rattle.lattice_core.specs.declared.Sign.TheVariants.{Pos, Neg, Eq}
use Rattle.lattice_file.specs.declared.words.Attribute.{Attribute}
use Rattle.lattice_file.specs.declared.words.Attribute.TheVariants as attributes
use Rattle.lattice_file.specs.declared.words.Given.{Given}
use Rattle.lattice_file.specs.declared.passing.BlockAttribute.{BlockAttribute}
use Rattle.lattice_file.specs.declared.passing.BlockAttribute.TheVariants.{Ptrflow, Fieldflow}
use Rattle.lattice_file.specs.Blocks.{BlockView}
use Rattle.lattice_core.specs.declared.Deref.{Deref}
use Rattle.lattice_core.specs.declared.Deref.TheVariants as derefs

-- space, tab, carriage return, line feed
abbrev pub is_blank : ℕ → Bool
is_blank b = nat_eq b 32 || nat_eq b 9 || nat_eq b 13 || nat_eq b 10

-- a letter of ASCII
abbrev pub is_letter : ℕ → Bool
is_letter b = (nat_le 97 b && nat_le b 122) || (nat_le 65 b && nat_le b 90)

-- a letter, a digit or _
abbrev pub is_name_byte : ℕ → Bool
is_name_byte b = is_letter b || (nat_le 48 b && nat_le b 57) || nat_eq b 95

-- a byte of a name or $
abbrev pub stands_in_words : ℕ → Bool
stands_in_words b = is_name_byte b || nat_eq b 36

-- a word that stands before these bytes goes on
abbrev pub lengthens : List ℕ → Bool
lengthens [] = false
lengthens (b ∷ bytes) = stands_in_words b

-- no */ stands in a comment's text
abbrev pub StaysOpen : List ℕ → Type 0
StaysOpen text = (k : ℕ) → k + 1 < length text → slice_index text k ≡ 42 → slice_index text (k + 1) ≡ 47 → ⊥

-- no line feed
abbrev pub stays_on_line : ℕ → Bool
stays_on_line b = not (nat_eq b 10)

-- the end of the bytes, or a line feed
abbrev pub ends_line : List ℕ → Bool
ends_line [] = true
ends_line (b ∷ bytes) = nat_eq b 10

-- blanks, /* */ comments and // comments to the end of the line, in any number
pub data Gap : List ℕ → List ℕ → Type 0 where
  Nothing : (rest : List ℕ) → Gap rest rest
  Blank : (b : ℕ) (bytes rest : List ℕ) → is_blank b ≡ true → Gap bytes rest → Gap (b ∷ bytes) rest
  Comment : (text bytes rest : List ℕ) → StaysOpen text → Gap bytes rest → Gap (47 ∷ 42 ∷ text ++ 42 ∷ 47 ∷ bytes) rest
  Line : (text bytes rest : List ℕ) → list_all stays_on_line text ≡ true → ends_line bytes ≡ true → Gap bytes rest
      → Gap (47 ∷ 47 ∷ text ++ bytes) rest

-- a word behind a gap, as long as it goes
pub record TakesWord (word bytes rest : List ℕ) : Type 0 where
  pub behind : List ℕ
  pub gap : Gap bytes behind
  pub is : behind ≡ word ++ rest
  pub ends : lengthens rest ≡ false

-- a sign behind a gap
pub record TakesSign (sign : ℕ) (bytes rest : List ℕ) : Type 0 where
  pub behind : List ℕ
  pub gap : Gap bytes behind
  pub is : behind ≡ sign ∷ rest

-- neither a quote nor a line feed
abbrev pub stands_in_text : ℕ → Bool
stands_in_text b = not (nat_eq b 34 || nat_eq b 10)

-- a colour text behind a gap
pub record TakesText (bytes rest : List ℕ) : Type 0 where
  pub behind : List ℕ
  pub gap : Gap bytes behind
  pub text : List ℕ
  pub is : behind ≡ 34 ∷ text ++ 34 ∷ rest
  pub inside : list_all stands_in_text text ≡ true

-- $, a letter, then letters, digits and _
abbrev pub begins_with_dollar : List ℕ → Bool
begins_with_dollar [] = false
begins_with_dollar (b ∷ []) = false
begins_with_dollar (b ∷ c ∷ more) = nat_eq b 36 && is_letter c && list_all is_name_byte more

-- such a word, or one of C's three qualifiers
abbrev pub is_element_name : List ℕ → Bool
is_element_name word =
    begins_with_dollar word || bytes_eq word (codes "const") || bytes_eq word (codes "volatile")
    || bytes_eq word (codes "restrict")

-- the word of an attribute
abbrev pub attribute_word : Attribute → List ℕ
attribute_word attributes.Level = codes "level"
attribute_word attributes.Sign = codes "sign"
attribute_word attributes.Color = codes "color"
attribute_word attributes.Write = codes "write"
attribute_word attributes.Deref = codes "deref"

-- whether an entry has the attribute `deref`
abbrev pub is_deref : Deref → Bool
is_deref derefs.No = false
is_deref derefs.Yes = true
is_deref derefs.Access = true

-- an entry has this attribute already
abbrev pub has_attribute : Given → Attribute → Bool
has_attribute given attributes.Level = is_some given.level
has_attribute given attributes.Sign = is_some given.sign
has_attribute given attributes.Color = given.color
has_attribute given attributes.Write = given.write
has_attribute given attributes.Deref = is_deref given.deref

-- the word of a level
abbrev pub level_word : Level → List ℕ
level_word Ref = codes "ref"
level_word Value = codes "value"

-- the word of a sign
abbrev pub sign_word : Sign → List ℕ
sign_word Pos = codes "pos"
sign_word Neg = codes "neg"
sign_word Eq = codes "eq"

-- a word is that of a level
abbrev pub IsLevel : List ℕ → Level → Type 0
IsLevel word level = word ≡ level_word level

-- a word is that of a sign
abbrev pub IsSign : List ℕ → Sign → Type 0
IsSign word sign = word ≡ sign_word sign

-- `access` in files of wider C alone
abbrev pub IsDeref : Bool → List ℕ → Deref → Type 0
IsDeref wide word derefs.No = ⊥
IsDeref wide word derefs.Yes = word ≡ codes "yes"
IsDeref wide word derefs.Access = (wide ≡ true) × (word ≡ codes "access")

-- what a word as the value of an attribute makes of the attributes
abbrev pub Gives : Attribute → List ℕ → Given → Given → Type 0
Gives attributes.Level word given then =
    (level : Level) × IsLevel word level × (then ≡ record given { level = Some level })
Gives attributes.Sign word given then = (sign : Sign) × IsSign word sign × (then ≡ record given { sign = Some sign })
Gives attributes.Color word given then = ⊥
Gives attributes.Write word given then = (word ≡ codes "yes") × (then ≡ record given { write = true })
Gives attributes.Deref word given then =
    (deref : Deref) × IsDeref given.wide word deref × (then ≡ record given { deref = deref })

-- a value of an attribute
pub data TakesValue : Attribute → Given → Given → List ℕ → List ℕ → Type 0 where
  Word : (attribute : Attribute) (word : List ℕ) (given then : Given) (bytes rest : List ℕ)
      → Gives attribute word given then → TakesWord word bytes rest → TakesValue attribute given then bytes rest
  Color : (given : Given) (bytes rest : List ℕ) → TakesText bytes rest
      → TakesValue attributes.Color given (record given { color = true }) bytes rest

-- the attributes of an entry, none of which it has already, with commas between them, and ]
pub data Attributes : Given → Given → List ℕ → List ℕ → Type 0 where
  Last : (attribute : Attribute) (given then : Given) (b0 b1 b2 b3 rest : List ℕ)
      → has_attribute given attribute ≡ false → TakesWord (attribute_word attribute) b0 b1 → TakesSign 61 b1 b2 →
      TakesValue attribute given then b2 b3 → TakesSign 93 b3 rest → Attributes given then b0 rest
  More : (attribute : Attribute) (given then end : Given) (b0 b1 b2 b3 b4 rest : List ℕ)
      → has_attribute given attribute ≡ false → TakesWord (attribute_word attribute) b0 b1 → TakesSign 61 b1 b2 →
      TakesValue attribute given then b2 b3 → TakesSign 44 b3 b4 → Attributes then end b4 rest
      → Attributes given end b0 rest

-- an element by its name and its attributes: on values and both ways where they do not say otherwise
abbrev pub entry_of : List ℕ → Given → Entry
entry_of name given = record {
  name = name;
  level = unwrap_or given.level Value;
  sign = unwrap_or given.sign Eq;
  write = given.write;
  deref = given.deref;
}

-- of an entry of a file that is read as wider C or not
abbrev pub no_attribute : Bool → Given
no_attribute wide = record { wide = wide; level = None; sign = None; color = false; write = false; deref = derefs.No }

-- entries and order lines, mixed in any order, and }
pub data Items (wide : Bool) : List Entry → List Pair → List ℕ → List ℕ → Type 0 where
  Close : (bytes rest : List ℕ) → TakesSign 125 bytes rest → Items wide [] [] bytes rest
  EntryItem : (name : List ℕ) (given : Given) (entries : List Entry) (pairs : List Pair) (b0 b1 b2 b3 rest : List ℕ)
      → is_element_name name ≡ true → TakesWord name b0 b1 → TakesSign 91 b1 b2 →
      Attributes (no_attribute wide) given b2 b3 → Items wide entries pairs b3 rest
      → Items wide (entry_of name given ∷ entries) pairs b0 rest
  LineItem : (low high : List ℕ) (entries : List Entry) (pairs : List Pair) (b0 b1 b2 b3 rest : List ℕ)
      → is_element_name low ≡ true → is_element_name high ≡ true → TakesWord low b0 b1 → TakesSign 60 b1 b2 →
      TakesWord high b2 b3 → Items wide entries pairs b3 rest
      → Items wide entries (record { low = low; high = high } ∷ pairs) b0 rest

-- the word of an attribute of a block
abbrev pub block_attribute_word : BlockAttribute → List ℕ
block_attribute_word Ptrflow = codes "ptrflow"
block_attribute_word Fieldflow = codes "fieldflow"

-- a block has this attribute already
abbrev pub has_flow : Flows → BlockAttribute → Bool
has_flow flows Ptrflow = is_some flows.ptr
has_flow flows Fieldflow = flows.field

-- the word of a direction
abbrev pub direction_word : Direction → List ℕ
direction_word Up = codes "up"
direction_word Down = codes "down"

-- what a word as the value of an attribute makes of the attributes of a block
abbrev pub GivesFlow : BlockAttribute → List ℕ → Flows → Flows → Type 0
GivesFlow Ptrflow word flows then =
    (direction : Direction) × (word ≡ direction_word direction) × (then ≡ record flows { ptr = Some direction })
GivesFlow Fieldflow word flows then = (word ≡ codes "down") × (then ≡ record flows { field = true })

-- an attribute that the block does not have yet, with its value
pub record TakesFlow (flows then : Flows) (bytes rest : List ℕ) : Type 0 where
  pub attribute : BlockAttribute
  pub free : has_flow flows attribute ≡ false
  pub b1 : List ℕ
  pub name : TakesWord (block_attribute_word attribute) bytes b1
  pub b2 : List ℕ
  pub equals : TakesSign 61 b1 b2
  pub word : List ℕ
  pub value : TakesWord word b2 rest
  pub gives : GivesFlow attribute word flows then

-- the attributes of a block, none of which it has already, with commas between them, and ]
pub data BlockAttributes : Flows → Flows → List ℕ → List ℕ → Type 0 where
  LastFlow : (flows then : Flows) (b0 b1 rest : List ℕ) → TakesFlow flows then b0 b1 → TakesSign 93 b1 rest
      → BlockAttributes flows then b0 rest
  MoreFlows : (flows then end : Flows) (b0 b1 b2 rest : List ℕ) → TakesFlow flows then b0 b1 → TakesSign 44 b1 b2
      → BlockAttributes then end b2 rest → BlockAttributes flows end b0 rest

-- what stands before the items of a block: its attributes, where it has any, and {
pub data Head : Flows → List ℕ → List ℕ → Type 0 where
  Plain : (b0 rest : List ℕ) → TakesSign 123 b0 rest → Head no_flows b0 rest
  WithFlows : (flows : Flows) (b0 b1 b2 rest : List ℕ) → TakesSign 91 b0 b1 → BlockAttributes no_flows flows b1 b2
      → TakesSign 123 b2 rest → Head flows b0 rest

-- the bytes are a lattice text of these blocks, each with at least one entry, which is read as one of wider C or not
pub data IsLatticeText (wide : Bool) : List BlockView → List ℕ → Type 0 where
  End : (bytes : List ℕ) → Gap bytes [] → IsLatticeText wide [] bytes
  NextBlock : (block : BlockView) (blocks : List BlockView) (b0 b1 b2 b3 rest : List ℕ)
      → TakesWord (codes "partial") b0 b1 → TakesWord (codes "order") b1 b2 → Head block.flows b2 b3 →
      Items wide block.entries block.pairs b3 rest → 0 < length block.entries → IsLatticeText wide blocks rest
      → IsLatticeText wide (block ∷ blocks) b0
