-- What a reader has read and what follows it, put together.
use Rattle.std.proofs.Common.{◌≡◌, ℕ, ◌<◌, Bool, true, false, List, [], ◌∷◌, ◌++◌, length, refl, sym, ◌∙◌, ap, subst, append_assoc, append-nil}
use Rattle.std.specs.Prelude.{codes}
use Rattle.lattice_core.specs.declared.Entry.{Entry}
use Rattle.lattice_core.specs.declared.Pair.{Pair}
use Rattle.lattice_core.specs.declared.Flows.{Flows}
use Rattle.lattice_file.specs.declared.words.Attribute.{Attribute}
use Rattle.lattice_file.specs.declared.words.Attribute.TheVariants as attributes
use Rattle.lattice_file.specs.declared.words.Given.{Given}
use Rattle.lattice_file.specs.declared.passing.BlockAttribute.{BlockAttribute}
use Rattle.lattice_file.specs.Blocks.{BlockView}
use Rattle.lattice_file.specs.Text.{TakesWord, TakesSign, TakesValue, Word, Color, Gives, Attributes, Last, More, Close, EntryItem, LineItem, IsLatticeText, NextBlock, TakesFlow, LastFlow, MoreFlows, block_attribute_word, has_flow, is_element_name, attribute_word, has_attribute, entry_of, no_attribute}
use Rattle.lattice_file.specs.Going.{Draft, GoesOnItems, GoesOnAttributes, GoesBehindAttribute, EndEntry, Comma, GoesBehindName, Bracket, Below, GoesOnOpen, GoesOnValue, GoesOnFlows, GoesBehindFlow, EndFlows, CommaFlows, GoesOnFlow}

pub block_is : (block : BlockView) (entries : List Entry) (pairs : List Pair) (flows : Flows) → block.entries ≡ entries
    → block.pairs ≡ pairs → block.flows ≡ flows →
    block ≡ record { entries = entries; pairs = pairs; flows = flows }
block_is block entries pairs flows e f g = rw (← e, ← f, ← g) refl

-- whether a file is read as one of wider C stays
pub gives_wide : (attribute : Attribute) (given then : Given) (word : List ℕ) → Gives attribute word given then
    → then.wide ≡ given.wide
gives_wide attributes.Level given then word (level, is, e) = ap (λ (g : Given). g.wide) e
gives_wide attributes.Sign given then word (sign, is, e) = ap (λ (g : Given). g.wide) e
gives_wide attributes.Color given then word gives = absurd gives
gives_wide attributes.Write given then word (is, e) = ap (λ (g : Given). g.wide) e
gives_wide attributes.Deref given then word (deref, is, e) = ap (λ (g : Given). g.wide) e

-- a value changes nothing of whether the file is wide
pub value_wide : (attribute : Attribute) (given then : Given) (bytes rest : List ℕ)
    → TakesValue attribute given then bytes rest → then.wide ≡ given.wide
value_wide _ given then bytes rest (Word attribute word _ _ _ _ gives takes) =
    gives_wide attribute given then word gives
value_wide _ given then bytes rest (Color _ _ _ takes) = refl

-- one block more
pub open_goes : (wide : Bool) (draft : Draft) (rest after : List ℕ) (all : List BlockView)
    → TakesWord (codes "partial") rest after →
    (behind : List ℕ) × TakesWord (codes "order") after behind × GoesOnOpen wide draft behind all
    → (more : List BlockView) × IsLatticeText wide more rest × (all ≡ draft.blocks ++ more)
open_goes wide draft rest after all word goes =
    let opened = goes.2 in
    let items = opened.items in (
      record { entries = items.more_entries; pairs = items.more_pairs; flows = opened.flows } ∷ items.more,
      NextBlock (record { entries = items.more_entries; pairs = items.more_pairs; flows = opened.flows }) items.more
          rest after goes.0 opened.behind items.behind word goes.1 opened.head items.items items.filled items.others,
      items.is,
    )

-- the end of a block
pub close_goes : (wide : Bool) (flows : Flows) (entries : List Entry) (pairs : List Pair) (blocks : List BlockView)
    (rest after : List ℕ) (all : List BlockView)
    → 0 < length entries → TakesSign 125 rest after →
    (more : List BlockView) × IsLatticeText wide more after
    × (all ≡ (blocks ++ record { entries = entries; pairs = pairs; flows = flows } ∷ []) ++ more)
    → GoesOnItems wide flows entries pairs blocks rest all
close_goes wide flows entries pairs blocks rest after all filled sign goes = record {
  more_entries = [];
  more_pairs = [];
  more = goes.0;
  behind = after;
  items = Close rest after sign;
  filled = rw (append-nil entries) filled;
  others = goes.1;
  is = goes.2 ∙ append_assoc blocks (record { entries = entries; pairs = pairs; flows = flows } ∷ []) goes.0
      ∙ ap (λ (p : List Entry × List Pair). blocks ++ record { entries = p.0; pairs = p.1; flows = flows } ∷ goes.0)
      (sym (both (append-nil entries) (append-nil pairs)));
}
  where
    both : {A B : Type 0} {a a' : A} {b b' : B} → a ≡ a' → b ≡ b'
        → (let p : A × B = (a, b) in p) ≡ (let p : A × B = (a', b') in p)
    both e f = cc

-- an entry more
entry_goes : (wide : Bool) (flows : Flows) (name : List ℕ) (given : Given) (entries : List Entry) (pairs : List Pair)
    (blocks : List BlockView) (b0 b1 b2 b3 : List ℕ) (all : List BlockView) →
    is_element_name name ≡ true → TakesWord name b0 b1 → TakesSign 91 b1 b2
    → Attributes (no_attribute wide) given b2 b3 →
    GoesOnItems wide flows (entries ++ entry_of name given ∷ []) pairs blocks b3 all
    → GoesOnItems wide flows entries pairs blocks b0 all
entry_goes wide flows name given entries pairs blocks b0 b1 b2 b3 all named word sign attributes goes =
    let same : (entries ++ entry_of name given ∷ []) ++ goes.more_entries ≡ entries
    ++ (entry_of name given ∷ goes.more_entries) = append_assoc entries (entry_of name given ∷ []) goes.more_entries in
    record {
      more_entries = entry_of name given ∷ goes.more_entries;
      more_pairs = goes.more_pairs;
      more = goes.more;
      behind = goes.behind;
      items = EntryItem name given goes.more_entries goes.more_pairs b0 b1 b2 b3 goes.behind named word sign
          attributes goes.items;
      filled = rw same at goes.filled;
      others = goes.others;
      is = goes.is ∙ ap (λ (es : List Entry). blocks
          ++ record { entries = es; pairs = pairs ++ goes.more_pairs; flows = flows } ∷ goes.more) same;
    }

-- an order line more
line_goes : (wide : Bool) (flows : Flows) (low high : List ℕ) (entries : List Entry) (pairs : List Pair)
    (blocks : List BlockView) (b0 b1 b2 b3 : List ℕ) (all : List BlockView) →
    is_element_name low ≡ true → is_element_name high ≡ true → TakesWord low b0 b1 → TakesSign 60 b1 b2
    → TakesWord high b2 b3 →
    GoesOnItems wide flows entries (pairs ++ record { low = low; high = high } ∷ []) blocks b3 all
    → GoesOnItems wide flows entries pairs blocks b0 all
line_goes wide flows low high entries pairs blocks b0 b1 b2 b3 all named named_high word sign word_high goes =
    let pair : Pair = record { low = low; high = high } in
    let same : (pairs ++ pair ∷ []) ++ goes.more_pairs ≡ pairs ++ (pair ∷ goes.more_pairs) =
    append_assoc pairs (pair ∷ []) goes.more_pairs in
    record {
      more_entries = goes.more_entries;
      more_pairs = pair ∷ goes.more_pairs;
      more = goes.more;
      behind = goes.behind;
      items = LineItem low high goes.more_entries goes.more_pairs b0 b1 b2 b3 goes.behind named named_high word sign
          word_high goes.items;
      filled = goes.filled;
      others = goes.others;
      is = goes.is ∙ ap (λ (ps : List Pair). blocks
          ++ record { entries = entries ++ goes.more_entries; pairs = ps; flows = flows } ∷ goes.more) same;
    }

-- the name of an item
pub name_goes : (wide : Bool) (draft : Draft) (rest after : List ℕ) (all : List BlockView)
    → is_element_name draft.name ≡ true → TakesWord draft.name rest after → GoesBehindName wide draft after all →
    GoesOnItems wide draft.flows draft.entries draft.pairs draft.blocks rest all
name_goes wide draft rest after all named word (Bracket behind sign on) =
    entry_goes wide draft.flows draft.name on.end draft.entries draft.pairs draft.blocks rest after behind on.behind all
    named word sign on.attributes on.items
name_goes wide draft rest after all named word (Below behind sign on) =
    line_goes wide draft.flows draft.name on.high draft.entries draft.pairs draft.blocks rest after behind on.behind all
    named on.named word sign on.word on.items

-- an attribute's name, its = and its value
pub attribute_goes : (attribute : Attribute) (given : Given) (draft : Draft) (rest after : List ℕ)
    (all : List BlockView)
    → has_attribute given attribute ≡ false → TakesWord (attribute_word attribute) rest after →
    (behind : List ℕ) × TakesSign 61 after behind × GoesOnValue attribute given draft behind all
    → GoesOnAttributes given draft rest all
attribute_goes attribute given draft rest after all new word goes = go goes.2.attributes
  where
    value : GoesOnValue attribute given draft goes.0 all
    value = goes.2

    same : value.then.wide ≡ given.wide
    same = value_wide attribute given value.then goes.0 value.behind value.value

    as_given : (end : Given) (behind : List ℕ)
        → GoesOnItems value.then.wide draft.flows
        (draft.entries ++ entry_of draft.name end ∷ []) draft.pairs draft.blocks behind all →
        GoesOnItems given.wide draft.flows
        (draft.entries ++ entry_of draft.name end ∷ []) draft.pairs draft.blocks behind all
    as_given end behind items =
        subst (λ (w : Bool). GoesOnItems w draft.flows
        (draft.entries ++ entry_of draft.name end ∷ []) draft.pairs draft.blocks behind all) same items

    go : GoesBehindAttribute value.then draft value.behind all → GoesOnAttributes given draft rest all
    go (EndEntry behind sign items) = record {
      end = value.then;
      behind = behind;
      attributes =
          Last attribute given value.then rest after goes.0 value.behind behind new word goes.1 value.value sign;
      items = as_given value.then behind items;
    }
    go (Comma behind sign on) = record {
      end = on.end;
      behind = on.behind;
      attributes = More attribute given value.then on.end rest after goes.0 value.behind behind on.behind new word
          goes.1 value.value sign on.attributes;
      items = as_given on.end on.behind on.items;
    }

-- an attribute of a block: its name, its = and its value
pub flow_goes : (wide : Bool) (attribute : BlockAttribute) (flows : Flows) (blocks : List BlockView)
    (rest after : List ℕ) (all : List BlockView)
    → has_flow flows attribute ≡ false → TakesWord (block_attribute_word attribute) rest after →
    (behind : List ℕ) × TakesSign 61 after behind × GoesOnFlow wide attribute flows blocks behind all
    → GoesOnFlows wide flows blocks rest all
flow_goes wide attribute flows blocks rest after all free name goes = go goes.2.attributes
  where
    value : GoesOnFlow wide attribute flows blocks goes.0 all
    value = goes.2

    takes : TakesFlow flows value.then rest value.behind
    takes = record {
      attribute = attribute;
      free = free;
      b1 = after;
      name = name;
      b2 = goes.0;
      equals = goes.1;
      word = value.word;
      value = value.value;
      gives = value.gives;
    }

    go : GoesBehindFlow wide value.then blocks value.behind all → GoesOnFlows wide flows blocks rest all
    go (EndFlows behind sign braced) = record {
      end = value.then;
      behind = behind;
      attributes = LastFlow flows value.then rest value.behind behind takes sign;
      braced = braced;
    }
    go (CommaFlows behind sign on) = record {
      end = on.end;
      behind = on.behind;
      attributes = MoreFlows flows value.then on.end rest value.behind behind on.behind takes sign on.attributes;
      braced = on.braced;
    }
