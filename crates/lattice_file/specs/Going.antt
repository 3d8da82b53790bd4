-- How a reader goes on: what the rest of the bytes must be for the whole to be a text of all these blocks.
use Rattle.std.specs.Prelude.{◌≡◌, ℕ, true, ◌<◌, List, [], ◌∷◌, ◌++◌, length, codes, Bool}
use Rattle.lattice_core.specs.declared.Entry.{Entry}
use Rattle.lattice_core.specs.declared.Pair.{Pair}
use Rattle.lattice_core.specs.declared.Flows.{Flows}
use Rattle.lattice_file.specs.declared.words.Attribute.{Attribute}
use Rattle.lattice_file.specs.declared.words.Given.{Given}
use Rattle.lattice_file.specs.declared.passing.BlockAttribute.{BlockAttribute}
use Rattle.lattice_file.specs.declared.blocks.Stage.{Stage}
use Rattle.lattice_file.specs.declared.blocks.Stage.TheVariants as stages
use Rattle.lattice_file.specs.Blocks.{BlockView}
use Rattle.lattice_file.specs.Text.{TakesWord, TakesSign, TakesValue, Attributes, Items, IsLatticeText, is_element_name, entry_of, no_attribute, GivesFlow, BlockAttributes, Head}

-- what a reader has read: the name of an item, the items and the attributes of a block, and the blocks before it
pub record Draft : Type 0 where
  pub name : List ℕ
  pub entries : List Entry
  pub pairs : List Pair
  pub flows : Flows
  pub blocks : List BlockView

-- the rest has the other items of a block, and then the other blocks
pub record GoesOnItems (wide : Bool) (flows : Flows) (entries : List Entry) (pairs : List Pair)
    (blocks : List BlockView) (rest : List ℕ) (all : List BlockView) : Type 0 where
  pub more_entries : List Entry
  pub more_pairs : List Pair
  pub more : List BlockView
  pub behind : List ℕ
  pub items : Items wide more_entries more_pairs rest behind
  pub filled : 0 < length (entries ++ more_entries)
  pub others : IsLatticeText wide more behind
  pub is : all ≡ blocks
      ++ record { entries = entries ++ more_entries; pairs = pairs ++ more_pairs; flows = flows } ∷ more

-- the rest has the other attributes of an entry, and then goes on in its block
pub record GoesOnAttributes (given : Given) (draft : Draft) (rest : List ℕ) (all : List BlockView) : Type 0 where
  pub end : Given
  pub behind : List ℕ
  pub attributes : Attributes given end rest behind
  pub items : GoesOnItems given.wide draft.flows
      (draft.entries ++ entry_of draft.name end ∷ []) draft.pairs draft.blocks behind all

-- behind an attribute: the entry ends, or a comma and others follow
pub data GoesBehindAttribute (given : Given) (draft : Draft) (rest : List ℕ) (all : List BlockView) : Type 0 where
  EndEntry : (behind : List ℕ) → TakesSign 93 rest behind
      → GoesOnItems given.wide draft.flows
      (draft.entries ++ entry_of draft.name given ∷ []) draft.pairs draft.blocks behind all
      → GoesBehindAttribute given draft rest all
  Comma : (behind : List ℕ) → TakesSign 44 rest behind → GoesOnAttributes given draft behind all
      → GoesBehindAttribute given draft rest all

-- the upper name of an order line
pub record GoesOnHigh (wide : Bool) (draft : Draft) (rest : List ℕ) (all : List BlockView) : Type 0 where
  pub high : List ℕ
  pub behind : List ℕ
  pub named : is_element_name high ≡ true
  pub word : TakesWord high rest behind
  pub items : GoesOnItems wide draft.flows draft.entries
      (draft.pairs ++ record { low = draft.name; high = high } ∷ []) draft.blocks behind all

-- behind the name of an item
pub data GoesBehindName (wide : Bool) (draft : Draft) (rest : List ℕ) (all : List BlockView) : Type 0 where
  Bracket : (behind : List ℕ) → TakesSign 91 rest behind → GoesOnAttributes (no_attribute wide) draft behind all
      → GoesBehindName wide draft rest all
  Below : (behind : List ℕ) → TakesSign 60 rest behind → GoesOnHigh wide draft behind all
      → GoesBehindName wide draft rest all

-- { and a block's items, behind its attributes
pub record GoesOnBraced (wide : Bool) (flows : Flows) (blocks : List BlockView) (rest : List ℕ)
    (all : List BlockView) : Type 0 where
  pub behind : List ℕ
  pub sign : TakesSign 123 rest behind
  pub items : GoesOnItems wide flows [] [] blocks behind all

-- the rest has the other attributes of a block, and then its items
pub record GoesOnFlows (wide : Bool) (flows : Flows) (blocks : List BlockView) (rest : List ℕ)
    (all : List BlockView) : Type 0 where
  pub end : Flows
  pub behind : List ℕ
  pub attributes : BlockAttributes flows end rest behind
  pub braced : GoesOnBraced wide end blocks behind all

-- behind an attribute of a block: its items follow, or a comma and others
pub data GoesBehindFlow (wide : Bool) (flows : Flows) (blocks : List BlockView) (rest : List ℕ)
    (all : List BlockView) : Type 0 where
  EndFlows : (behind : List ℕ) → TakesSign 93 rest behind → GoesOnBraced wide flows blocks behind all
      → GoesBehindFlow wide flows blocks rest all
  CommaFlows : (behind : List ℕ) → TakesSign 44 rest behind → GoesOnFlows wide flows blocks behind all
      → GoesBehindFlow wide flows blocks rest all

-- a value of an attribute of a block and what follows it
pub record GoesOnFlow (wide : Bool) (attribute : BlockAttribute) (flows : Flows) (blocks : List BlockView)
    (rest : List ℕ) (all : List BlockView) : Type 0 where
  pub word : List ℕ
  pub then : Flows
  pub behind : List ℕ
  pub value : TakesWord word rest behind
  pub gives : GivesFlow attribute word flows then
  pub attributes : GoesBehindFlow wide then blocks behind all

-- the attributes of a block, where it has any, { and its items
pub record GoesOnOpen (wide : Bool) (draft : Draft) (rest : List ℕ) (all : List BlockView) : Type 0 where
  pub flows : Flows
  pub behind : List ℕ
  pub head : Head flows rest behind
  pub items : GoesOnItems wide flows [] [] draft.blocks behind all

-- a value of an attribute and what follows it
pub record GoesOnValue (attribute : Attribute) (given : Given) (draft : Draft) (rest : List ℕ)
    (all : List BlockView) : Type 0 where
  pub then : Given
  pub behind : List ℕ
  pub value : TakesValue attribute given then rest behind
  pub attributes : GoesBehindAttribute then draft behind all

-- at a stage the rest is what a text of all these blocks has behind it
abbrev pub Goes : Stage → Given → Draft → List ℕ → List BlockView → Type 0
Goes stages.Outside given draft rest all =
    (more : List BlockView) × IsLatticeText given.wide more rest × (all ≡ draft.blocks ++ more)
Goes stages.Order given draft rest all =
    (behind : List ℕ) × TakesWord (codes "order") rest behind × GoesOnOpen given.wide draft behind all
Goes stages.Open given draft rest all = GoesOnOpen given.wide draft rest all
Goes stages.FlowName given draft rest all = GoesOnFlows given.wide draft.flows draft.blocks rest all
Goes (stages.FlowEquals attribute) given draft rest all =
    (behind : List ℕ) × TakesSign 61 rest behind × GoesOnFlow given.wide attribute draft.flows draft.blocks behind all
Goes (stages.FlowValue attribute) given draft rest all =
    GoesOnFlow given.wide attribute draft.flows draft.blocks rest all
Goes stages.Flowed given draft rest all = GoesBehindFlow given.wide draft.flows draft.blocks rest all
Goes stages.Braced given draft rest all = GoesOnBraced given.wide draft.flows draft.blocks rest all
Goes stages.Items given draft rest all =
    GoesOnItems given.wide draft.flows draft.entries draft.pairs draft.blocks rest all
Goes stages.Named given draft rest all = GoesBehindName given.wide draft rest all
Goes stages.High given draft rest all = GoesOnHigh given.wide draft rest all
Goes stages.Attribute given draft rest all = GoesOnAttributes given draft rest all
Goes (stages.Equals attribute) given draft rest all =
    (behind : List ℕ) × TakesSign 61 rest behind × GoesOnValue attribute given draft behind all
Goes (stages.Value attribute) given draft rest all = GoesOnValue attribute given draft rest all
Goes stages.Attributed given draft rest all = GoesBehindAttribute given draft rest all
