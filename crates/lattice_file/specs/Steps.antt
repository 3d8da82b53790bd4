-- The words, signs and colour texts of a lattice text, and where its reader stands behind each of them.
use Rattle.std.specs.Prelude.{◌≡◌, ℕ, Bool, true, false, ◌&&◌, List, [], ◌∷◌, ◌++◌, nat_eq, codes, Option, Some, None, is_some, not}
use Rattle.std.specs.List.{list_all}
use Rattle.std.specs.Str.{bytes_eq}
use Rattle.std.specs.Option.{option_or}
use Rattle.lattice_core.specs.declared.Entry.{Entry}
use Rattle.lattice_core.specs.declared.Direction.{Direction}
use Rattle.lattice_core.specs.declared.Direction.TheVariants.{Up, Down}
use Rattle.lattice_core.specs.declared.Flows.{Flows}
use Rattle.lattice_core.specs.Passing.{no_flows}
use Rattle.lattice_core.specs.declared.Level.{Level}
use Rattle.lattice_core.specs.declared.Sign.{Sign}
use Rattle.lattice_core.specs.declared.Level.TheVariants.{Ref, Value}
use Rattle.lattice_core.specs.declared.Sign.TheVariants.{Pos, Neg, Eq}
use Rattle.lattice_file.specs.declared.words.Attribute.{Attribute}
use Rattle.lattice_file.specs.declared.words.Attribute.TheVariants as attributes
use Rattle.lattice_file.specs.declared.words.Given.{Given}
use Rattle.lattice_file.specs.declared.passing.BlockAttribute.{BlockAttribute}
use Rattle.lattice_file.specs.declared.passing.BlockAttribute.TheVariants.{Ptrflow, Fieldflow}
use Rattle.lattice_file.specs.declared.blocks.Stage.{Stage}
use Rattle.lattice_file.specs.declared.blocks.Stage.TheVariants as stages
use Rattle.lattice_file.specs.Blocks.{BlockView}
use Rattle.lattice_file.specs.Text.{lengthens, stands_in_text, is_element_name, entry_of, no_attribute, attribute_word, has_attribute, is_deref, block_attribute_word, has_flow}
use Rattle.lattice_file.specs.Going.{Draft, Goes}
use Rattle.lattice_core.specs.declared.Deref.{Deref}
use Rattle.lattice_core.specs.declared.Deref.TheVariants as derefs

-- a word, a sign by its byte, or a colour text
pub data Lexeme : Type 0 where
  WordLexeme : List ℕ → Lexeme
  SignLexeme : ℕ → Lexeme
  TextLexeme : Lexeme

-- bytes are a lexeme and the rest behind it
abbrev pub Spells : Lexeme → List ℕ → List ℕ → Type 0
Spells (WordLexeme word) bytes rest = (bytes ≡ word ++ rest) × (lengthens rest ≡ false)
Spells (SignLexeme sign) bytes rest = bytes ≡ sign ∷ rest
Spells TextLexeme bytes rest =
    (text : List ℕ) × (bytes ≡ 34 ∷ text ++ 34 ∷ rest) × (list_all stands_in_text text ≡ true)

-- what may come next, the attributes of an entry, and what is read
pub record Standing : Type 0 where
  pub stage : Stage
  pub given : Given
  pub draft : Draft

-- the rest is what a text of all these blocks has behind here
abbrev pub GoesFrom : Standing → List ℕ → List BlockView → Type 0
GoesFrom standing rest all = Goes standing.stage standing.given standing.draft rest all

-- a value, where a test holds
abbrev pub only_if : {A : Type 0} → Bool → A → Option A
only_if true to = Some to
only_if false to = None

-- a function on a value that may be there
abbrev pub map_some : {A B : Type 0} → (A → B) → Option A → Option B
map_some f (Some one) = Some (f one)
map_some f None = None

-- this attribute, if a word is its name and it is not given yet
abbrev pub if_named : Given → List ℕ → Attribute → Option Attribute
if_named given word attribute =
    only_if (bytes_eq word (attribute_word attribute) && not (has_attribute given attribute)) attribute

-- the attribute of a name, if it is not given yet
abbrev pub attribute_named : Given → List ℕ → Option Attribute
attribute_named given word =
    option_or (if_named given word attributes.Level) (option_or (if_named given word attributes.Sign)
    (option_or (if_named given word attributes.Color)
    (option_or (if_named given word attributes.Write) (if_named given word attributes.Deref))))

-- the level of a word, if it is one: `ref` or `value`
abbrev pub level_named : List ℕ → Option Level
level_named word = option_or (only_if (bytes_eq word (codes "ref")) Ref) (only_if (bytes_eq word (codes "value")) Value)

-- the sign of a word, if it is one: `pos`, `neg` or `eq`
abbrev pub sign_named : List ℕ → Option Sign
sign_named word =
    option_or (only_if (bytes_eq word (codes "pos")) Pos)
    (option_or (only_if (bytes_eq word (codes "neg")) Neg) (only_if (bytes_eq word (codes "eq")) Eq))

-- `access` in files of wider C alone
abbrev pub deref_named : Bool → List ℕ → Option Deref
deref_named wide word =
    option_or (only_if (bytes_eq word (codes "yes")) derefs.Yes)
    (only_if (wide && bytes_eq word (codes "access")) derefs.Access)

-- the attributes with a word as the value of one
abbrev pub with_value : Attribute → Given → List ℕ → Option Given
with_value attributes.Level given word = map_some (λ level. record given { level = Some level }) (level_named word)
with_value attributes.Sign given word = map_some (λ sign. record given { sign = Some sign }) (sign_named word)
with_value attributes.Color given word = None
with_value attributes.Write given word = only_if (bytes_eq word (codes "yes")) (record given { write = true })
with_value attributes.Deref given word =
    map_some (λ deref. record given { deref = deref }) (deref_named given.wide word)

-- no attribute is left
abbrev pub is_full : Given → Bool
is_full given = is_some given.level && is_some given.sign && given.color && given.write && is_deref given.deref

-- this attribute of a block, if a word is its name and the block does not have it yet
abbrev pub if_flow : Flows → List ℕ → BlockAttribute → Option BlockAttribute
if_flow flows word attribute =
    only_if (bytes_eq word (block_attribute_word attribute) && not (has_flow flows attribute)) attribute

-- the attribute of a name, if the block does not have it yet
abbrev pub flow_named : Flows → List ℕ → Option BlockAttribute
flow_named flows word = option_or (if_flow flows word Ptrflow) (if_flow flows word Fieldflow)

-- the direction of a word, if it is one: `up` or `down`
abbrev pub direction_named : List ℕ → Option Direction
direction_named word = option_or (only_if (bytes_eq word (codes "up")) Up) (only_if (bytes_eq word (codes "down")) Down)

-- the attributes of a block with a word as the value of one
abbrev pub with_flow : BlockAttribute → Flows → List ℕ → Option Flows
with_flow Ptrflow flows word = map_some (λ direction. record flows { ptr = Some direction }) (direction_named word)
with_flow Fieldflow flows word = only_if (bytes_eq word (codes "down")) (record flows { field = true })

-- no attribute of a block is left
abbrev pub has_all_flows : Flows → Bool
has_all_flows flows = is_some flows.ptr && flows.field

-- whether a block has an entry
abbrev pub is_nonempty : List Entry → Bool
is_nonempty [] = false
is_nonempty (entry ∷ entries) = true

-- where a reader stands behind a word, if the word may come
abbrev pub next_by_word : Stage → Given → Draft → List ℕ → Option Standing
next_by_word stages.Outside given draft word =
    only_if (bytes_eq word (codes "partial")) (record { stage = stages.Order; given = given; draft = draft })
next_by_word stages.Order given draft word =
    only_if (bytes_eq word (codes "order")) (record { stage = stages.Open; given = given; draft = draft })
next_by_word stages.Open given draft word = None
next_by_word stages.FlowName given draft word =
    map_some (λ attribute. record { stage = stages.FlowEquals attribute; given = given; draft = draft })
    (flow_named draft.flows word)
next_by_word (stages.FlowEquals attribute) given draft word = None
next_by_word (stages.FlowValue attribute) given draft word =
    map_some (λ flows. record { stage = stages.Flowed; given = given; draft = record draft { flows = flows } })
    (with_flow attribute draft.flows word)
next_by_word stages.Flowed given draft word = None
next_by_word stages.Braced given draft word = None
next_by_word stages.Items given draft word =
    only_if (is_element_name word)
    (record { stage = stages.Named; given = given; draft = record draft { name = word } })
next_by_word stages.Named given draft word = None
next_by_word stages.High given draft word = only_if (is_element_name word)
    (record {
      stage = stages.Items;
      given = given;
      draft = record draft { pairs = draft.pairs ++ record { low = draft.name; high = word } ∷ [] };
    })
next_by_word stages.Attribute given draft word =
    map_some (λ attribute. record { stage = stages.Equals attribute; given = given; draft = draft })
    (attribute_named given word)
next_by_word (stages.Equals attribute) given draft word = None
next_by_word (stages.Value attribute) given draft word =
    map_some (λ then. record { stage = stages.Attributed; given = then; draft = draft })
    (with_value attribute given word)
next_by_word stages.Attributed given draft word = None

-- a block more, of the entries, the order lines and the attributes that are read
abbrev pub with_block : Draft → Draft
with_block draft = record {
  name = draft.name;
  entries = [];
  pairs = [];
  flows = draft.flows;
  blocks = draft.blocks ++ record { entries = draft.entries; pairs = draft.pairs; flows = draft.flows } ∷ [];
}

-- an entry more, of the name that was read and these attributes
abbrev pub with_entry : Given → Draft → Draft
with_entry given draft = record draft { entries = draft.entries ++ entry_of draft.name given ∷ [] }

-- where a reader stands behind a block
abbrev pub behind_block : Standing → Standing
behind_block standing = record { stage = stages.Outside; given = standing.given; draft = with_block standing.draft }

-- and behind an entry
abbrev pub behind_entry : Standing → Standing
behind_entry standing =
    record { stage = stages.Items; given = standing.given; draft = with_entry standing.given standing.draft }

-- and so behind a sign
abbrev pub next_by_sign : Stage → Given → Draft → ℕ → Option Standing
next_by_sign stages.Outside given draft sign = None
next_by_sign stages.Order given draft sign = None
next_by_sign stages.Open given draft sign = option_or
    (only_if (nat_eq sign 123) (record {
      stage = stages.Items;
      given = given;
      draft = record draft { entries = []; pairs = []; flows = no_flows };
    }))
    (only_if (nat_eq sign 91)
    (record { stage = stages.FlowName; given = given; draft = record draft { flows = no_flows } }))
next_by_sign stages.FlowName given draft sign = None
next_by_sign (stages.FlowEquals attribute) given draft sign =
    only_if (nat_eq sign 61) (record { stage = stages.FlowValue attribute; given = given; draft = draft })
next_by_sign (stages.FlowValue attribute) given draft sign = None
next_by_sign stages.Flowed given draft sign = option_or
    (only_if (nat_eq sign 44 && not (has_all_flows draft.flows))
    (record { stage = stages.FlowName; given = given; draft = draft }))
    (only_if (nat_eq sign 93) (record { stage = stages.Braced; given = given; draft = draft }))
next_by_sign stages.Braced given draft sign =
    only_if (nat_eq sign 123)
    (record { stage = stages.Items; given = given; draft = record draft { entries = []; pairs = [] } })
next_by_sign stages.Items given draft sign =
    only_if (nat_eq sign 125 && is_nonempty draft.entries)
    (record { stage = stages.Outside; given = given; draft = with_block draft })
next_by_sign stages.Named given draft sign = option_or
    (only_if (nat_eq sign 91) (record { stage = stages.Attribute; given = no_attribute given.wide; draft = draft }))
    (only_if (nat_eq sign 60) (record { stage = stages.High; given = given; draft = draft }))
next_by_sign stages.High given draft sign = None
next_by_sign stages.Attribute given draft sign = None
next_by_sign (stages.Equals attribute) given draft sign =
    only_if (nat_eq sign 61) (record { stage = stages.Value attribute; given = given; draft = draft })
next_by_sign (stages.Value attribute) given draft sign = None
next_by_sign stages.Attributed given draft sign = option_or
    (only_if (nat_eq sign 44 && not (is_full given))
    (record { stage = stages.Attribute; given = given; draft = draft }))
    (only_if (nat_eq sign 93) (record { stage = stages.Items; given = given; draft = with_entry given draft }))

-- and so behind a colour text
abbrev pub next_by_text : Stage → Given → Draft → Option Standing
next_by_text (stages.Value attributes.Color) given draft =
    Some (record { stage = stages.Attributed; given = record given { color = true }; draft = draft })
next_by_text _ given draft = None

-- where a reader stands behind a lexeme, if it may come at a stage
abbrev pub next_by : Stage → Given → Draft → Lexeme → Option Standing
next_by stage given draft (WordLexeme word) = next_by_word stage given draft word
next_by stage given draft (SignLexeme sign) = next_by_sign stage given draft sign
next_by stage given draft TextLexeme = next_by_text stage given draft

-- where a reader stands behind a lexeme, if it may come
abbrev pub next : Standing → Lexeme → Option Standing
next standing lexeme = next_by standing.stage standing.given standing.draft lexeme
