-- What goes on from where a reader stands begins with a lexeme that may come, or ends outside the blocks.
use Rattle.std.proofs.Common.{◌≡◌, ℕ, ◌<◌, Bool, true, false, ◌&&◌, List, [], ◌∷◌, ◌++◌, length, refl, sym, ◌∙◌, ap, subst, Some, append_assoc, append-nil}
use Rattle.std.specs.Prelude.{codes, is_some}
use Rattle.lattice_core.specs.declared.Entry.{Entry}
use Rattle.lattice_core.specs.declared.Pair.{Pair}
use Rattle.lattice_core.specs.declared.Flows.{Flows}
use Rattle.lattice_core.specs.Passing.{no_flows}
use Rattle.lattice_file.specs.declared.words.Attribute.{Attribute}
use Rattle.lattice_file.specs.declared.words.Attribute.TheVariants as attributes
use Rattle.lattice_file.specs.declared.words.Given.{Given}
use Rattle.lattice_file.specs.declared.blocks.Stage.{Stage}
use Rattle.lattice_file.specs.declared.blocks.Stage.TheVariants as stages
use Rattle.lattice_file.specs.declared.passing.BlockAttribute.{BlockAttribute}
use Rattle.lattice_file.specs.declared.passing.BlockAttribute.TheVariants.{Ptrflow, Fieldflow}
use Rattle.lattice_file.specs.Blocks.{BlockView}
use Rattle.lattice_file.specs.Text.{Gap, TakesValue, Word, Color, Attributes, Last, More, Items, Close, EntryItem, LineItem, IsLatticeText, End, NextBlock, BlockAttributes, LastFlow, MoreFlows, Head, Plain, WithFlows, block_attribute_word, has_flow, attribute_word, has_attribute, is_deref, entry_of, no_attribute}
use Rattle.lattice_file.specs.Going.{Draft, Goes, GoesOnItems, GoesBehindAttribute, EndEntry, Comma, Bracket, Below, GoesOnBraced, EndFlows, CommaFlows}
use Rattle.lattice_file.specs.Steps.{Lexeme, WordLexeme, SignLexeme, TextLexeme, Standing, GoesFrom, is_full, has_all_flows, is_nonempty, with_block, with_entry, next}
use Rattle.lattice_file.proofs.LexemeUnique.{Takes}
use Rattle.lattice_file.proofs.GoingLemmas.{value_wide}
use Rattle.lattice_file.proofs.StepLeads.{At, word_takes, sign_takes, text_takes, named_new, is_value, flow_new, flow_given, long_nonempty}

pub data Seen (old : Standing) (rest : List ℕ) (all : List BlockView) : Type 0 where
  AtEnd : old.stage ≡ stages.Outside → Gap rest [] → all ≡ old.draft.blocks → Seen old rest all
  Further : (lexeme : Lexeme) (new : Standing) (after : List ℕ) → next old lexeme ≡ Some new → Takes lexeme rest after
      → GoesFrom new after all → Seen old rest all

-- outside of blocks the text ends, or the word `partial` comes
sees_outside : (given : Given) (draft : Draft) (rest : List ℕ) (all more : List BlockView)
    → IsLatticeText given.wide more rest → all ≡ draft.blocks ++ more → Seen (At stages.Outside given draft) rest all
sees_outside given draft rest all more (End _ gap) is = AtEnd refl gap (is ∙ append-nil draft.blocks)
sees_outside given draft rest all more
    (NextBlock block blocks _ b1 b2 b3 behind partial order head items filled others) is =
    Further (WordLexeme (codes "partial")) (At stages.Order given draft) b1 refl
    (word_takes (codes "partial") rest b1 partial) (
      b2,
      order,
      record {
        flows = block.flows;
        behind = b3;
        head = head;
        items = record {
          more_entries = block.entries;
          more_pairs = block.pairs;
          more = blocks;
          behind = behind;
          items = items;
          filled = filled;
          others = others;
          is = is;
        };
      },
    )

-- at the items of a block a name comes, or the sign that closes it
sees_items : (given : Given) (draft : Draft) (rest behind : List ℕ) (all more : List BlockView)
    (more_entries : List Entry) (more_pairs : List Pair)
    → Items given.wide more_entries more_pairs rest behind →
    0 < length (draft.entries ++ more_entries) → IsLatticeText given.wide more behind → all ≡ draft.blocks
    ++ record { entries = draft.entries ++ more_entries; pairs = draft.pairs ++ more_pairs; flows = draft.flows } ∷ more
    →
    Seen (At stages.Items given draft) rest all
sees_items given draft rest behind all more more_entries more_pairs (Close _ _ sign) filled others is =
    let long : is_nonempty draft.entries ≡ true =
    long_nonempty draft.entries (rw (append-nil draft.entries) at filled) in
    let block : BlockView = record { entries = draft.entries; pairs = draft.pairs; flows = draft.flows } in
    let same : all ≡ (draft.blocks ++ block ∷ []) ++ more =
    is ∙ ap (λ (p : List Entry × List Pair). draft.blocks ++ record { entries = p.0; pairs = p.1; flows = draft.flows }
    ∷ more) (both (append-nil draft.entries) (append-nil draft.pairs))
    ∙ sym (append_assoc draft.blocks (block ∷ []) more) in
    Further (SignLexeme 125) (At stages.Outside given (with_block draft)) behind (rw long refl)
    (sign_takes 125 rest behind sign) (more, others, same)
  where
    both : {A B : Type 0} {a a' : A} {b b' : B} → a ≡ a' → b ≡ b'
        → (let p : A × B = (a, b) in p) ≡ (let p : A × B = (a', b') in p)
    both e f = cc
sees_items given draft rest behind all more more_entries more_pairs
    (EntryItem name with entries pairs _ b1 b2 b3 _ named word sign attributes items) filled others is =
    let entry : Entry = entry_of name with in
    let same : (draft.entries ++ entry ∷ []) ++ entries ≡ draft.entries ++ (entry ∷ entries) =
    append_assoc draft.entries (entry ∷ []) entries in
    Further (WordLexeme name) (At stages.Named given (record draft { name = name })) b1 (rw named refl)
    (word_takes name rest b1 word)
    (Bracket b2 sign (record {
      end = with;
      behind = b3;
      attributes = attributes;
      items = record {
        more_entries = entries;
        more_pairs = pairs;
        more = more;
        behind = behind;
        items = items;
        filled = rw same filled;
        others = others;
        is = is ∙ ap (λ (es : List Entry). draft.blocks
            ++ record { entries = es; pairs = draft.pairs ++ pairs; flows = draft.flows } ∷ more) (sym same);
      };
    }))
sees_items given draft rest behind all more more_entries more_pairs
    (LineItem low high entries pairs _ b1 b2 b3 _ named named_high word sign word_high items) filled others is =
    let pair : Pair = record { low = low; high = high } in
    let same : (draft.pairs ++ pair ∷ []) ++ pairs ≡ draft.pairs ++ (pair ∷ pairs) =
    append_assoc draft.pairs (pair ∷ []) pairs in
    Further (WordLexeme low) (At stages.Named given (record draft { name = low })) b1 (rw named refl)
    (word_takes low rest b1 word)
    (Below b2 sign (record {
      high = high;
      behind = b3;
      named = named_high;
      word = word_high;
      items = record {
        more_entries = entries;
        more_pairs = pairs;
        more = more;
        behind = behind;
        items = items;
        filled = filled;
        others = others;
        is = is ∙ ap (λ (ps : List Pair). draft.blocks
            ++ record { entries = draft.entries ++ entries; pairs = ps; flows = draft.flows } ∷ more) (sym same);
      };
    }))

-- items go on behind a value as behind all that was given
as_then : (attribute : Attribute) (given then end : Given) (draft : Draft) (b2 b3 behind : List ℕ)
    (all : List BlockView)
    → TakesValue attribute given then b2 b3 →
    GoesOnItems given.wide draft.flows
    (draft.entries ++ entry_of draft.name end ∷ []) draft.pairs draft.blocks behind all
    → GoesOnItems then.wide draft.flows
    (draft.entries ++ entry_of draft.name end ∷ []) draft.pairs draft.blocks behind all
as_then attribute given then end draft b2 b3 behind all value items =
    subst (λ (w : Bool). GoesOnItems w draft.flows (draft.entries ++ entry_of draft.name end ∷ []) draft.pairs
    draft.blocks behind all) (sym (value_wide attribute given then b2 b3 value)) items

-- at the attributes of an entry the name of one that it does not have comes
sees_attributes : (given end : Given) (draft : Draft) (rest behind : List ℕ) (all : List BlockView)
    → Attributes given end rest behind →
    GoesOnItems given.wide draft.flows
    (draft.entries ++ entry_of draft.name end ∷ []) draft.pairs draft.blocks behind all
    → Seen (At stages.Attribute given draft) rest all
sees_attributes given end draft rest behind all (Last attribute _ _ _ b1 b2 b3 _ free word equals value sign) items =
    Further (WordLexeme (attribute_word attribute)) (At (stages.Equals attribute) given draft) b1
    (rw (named_new given attribute free) refl) (word_takes (attribute_word attribute) rest b1 word) (
      b2,
      equals,
      record {
        then = end;
        behind = b3;
        value = value;
        attributes = EndEntry behind sign (as_then attribute given end end draft b2 b3 behind all value items);
      },
    )
sees_attributes given end draft rest behind all (More attribute _
    then _ _ b1 b2 b3 b4 _ free word equals value sign others) items =
    Further (WordLexeme (attribute_word attribute)) (At (stages.Equals attribute) given draft) b1
    (rw (named_new given attribute free) refl) (word_takes (attribute_word attribute) rest b1 word) (
      b2,
      equals,
      record {
        then = then;
        behind = b3;
        value = value;
        attributes = Comma b4 sign (record {
          end = end;
          behind = behind;
          attributes = others;
          items = as_then attribute given then end draft b2 b3 behind all value items;
        });
      },
    )

-- at the value of an entry's attribute a word or a colour text comes that gives it one
sees_value : (attribute : Attribute) (given then : Given) (draft : Draft) (rest behind : List ℕ) (all : List BlockView)
    → TakesValue attribute given then rest behind →
    GoesBehindAttribute then draft behind all → Seen (At (stages.Value attribute) given draft) rest all
sees_value attribute given then draft rest behind all (Word _ word _ _ _ _ gives takes) goes =
    Further (WordLexeme word) (At stages.Attributed then draft) behind
    (rw (is_value attribute given then word gives) refl) (word_takes word rest behind takes) goes
sees_value attribute given then draft rest behind all (Color _ _ _ takes) goes =
    Further TextLexeme (At stages.Attributed (record given { color = true }) draft) behind refl
    (text_takes rest behind takes) goes

-- an entry that lacks an attribute does not have all
free_full : (given : Given) (attribute : Attribute) → has_attribute given attribute ≡ false → is_full given ≡ false
free_full given attributes.Level e = rw e refl
free_full given attributes.Sign e = by (is_some given.level)
  where
    by : (a : Bool) → (a && is_some given.sign && given.color && given.write && is_deref given.deref) ≡ false
    by true = rw e refl
    by false = refl
free_full given attributes.Color e = by (is_some given.level && is_some given.sign)
  where
    by : (a : Bool) → (a && given.color && given.write && is_deref given.deref) ≡ false
    by true = rw e refl
    by false = refl
free_full given attributes.Write e = by (is_some given.level && is_some given.sign && given.color)
  where
    by : (a : Bool) → (a && given.write && is_deref given.deref) ≡ false
    by true = rw e refl
    by false = refl
free_full given attributes.Deref e = by (is_some given.level && is_some given.sign && given.color && given.write)
  where
    by : (a : Bool) → (a && is_deref given.deref) ≡ false
    by true = e
    by false = refl

-- where an attribute follows, not all are given
attributes_free : (given end : Given) (rest behind : List ℕ) → Attributes given end rest behind → is_full given ≡ false
attributes_free given end rest behind (Last attribute _ _ _ b1 b2 b3 _ free word equals value sign) =
    free_full given attribute free
attributes_free given end rest behind (More attribute _ then _ _ b1 b2 b3 b4 _ free word equals value sign others) =
    free_full given attribute free

-- at the attributes of a block the name of one that it does not have comes
sees_flows : (given : Given) (draft : Draft) (end : Flows) (rest behind : List ℕ) (all : List BlockView)
    → BlockAttributes draft.flows end rest behind →
    GoesOnBraced given.wide end draft.blocks behind all → Seen (At stages.FlowName given draft) rest all
sees_flows given draft end rest behind all (LastFlow _ _ _ b1 _ takes sign) braced =
    Further (WordLexeme (block_attribute_word takes.attribute)) (At (stages.FlowEquals takes.attribute) given draft)
    takes.b1 (rw (flow_new draft.flows takes.attribute takes.free) refl)
    (word_takes (block_attribute_word takes.attribute) rest takes.b1 takes.name) (
      takes.b2,
      takes.equals,
      record {
        word = takes.word;
        then = end;
        behind = b1;
        value = takes.value;
        gives = takes.gives;
        attributes = EndFlows behind sign braced;
      },
    )
sees_flows given draft end rest behind all (MoreFlows _ then _ _ b1 b2 _ takes sign others) braced =
    Further (WordLexeme (block_attribute_word takes.attribute)) (At (stages.FlowEquals takes.attribute) given draft)
    takes.b1 (rw (flow_new draft.flows takes.attribute takes.free) refl)
    (word_takes (block_attribute_word takes.attribute) rest takes.b1 takes.name) (
      takes.b2,
      takes.equals,
      record {
        word = takes.word;
        then = then;
        behind = b1;
        value = takes.value;
        gives = takes.gives;
        attributes = CommaFlows b2 sign (record { end = end; behind = behind; attributes = others; braced = braced });
      },
    )

-- behind `order` the sign that opens the items or the attributes of a block comes
sees_open : (given : Given) (draft : Draft) (flows : Flows) (rest behind : List ℕ) (all : List BlockView)
    → Head flows rest behind → GoesOnItems given.wide flows [] [] draft.blocks behind all
    → Seen (At stages.Open given draft) rest all
sees_open given draft flows rest behind all (Plain _ _ sign) items =
    Further (SignLexeme 123) (At stages.Items given
    (record draft { entries = []; pairs = []; flows = no_flows })) behind refl (sign_takes 123 rest behind sign) items
sees_open given draft flows rest behind all (WithFlows _ _ b1 b2 _ sign attributes brace) items =
    Further (SignLexeme 91) (At stages.FlowName given (record draft { flows = no_flows })) b1 refl
    (sign_takes 91 rest b1 sign)
    (record {
      end = flows;
      behind = b2;
      attributes = attributes;
      braced = record { behind = behind; sign = brace; items = items };
    })

-- a block that lacks an attribute does not have all
free_flows : (flows : Flows) (attribute : BlockAttribute) → has_flow flows attribute ≡ false
    → has_all_flows flows ≡ false
free_flows flows Ptrflow e = rw e refl
free_flows flows Fieldflow e = by (is_some flows.ptr)
  where
    by : (a : Bool) → (a && flows.field) ≡ false
    by true = e
    by false = refl

-- where an attribute of a block follows, not all of its block are given
flows_free : (flows end : Flows) (rest behind : List ℕ) → BlockAttributes flows end rest behind
    → has_all_flows flows ≡ false
flows_free flows end rest behind (LastFlow _ _ _ b1 _ takes sign) = free_flows flows takes.attribute takes.free
flows_free flows end rest behind (MoreFlows _ then _ _ b1 b2 _ takes sign others) =
    free_flows flows takes.attribute takes.free

-- at any stage the text ends outside of blocks, or a lexeme comes that may come there
sees_at : (stage : Stage) (given : Given) (draft : Draft) (rest : List ℕ) (all : List BlockView)
    → Goes stage given draft rest all → Seen (At stage given draft) rest all
sees_at stages.Outside given draft rest all (more, text, is) = sees_outside given draft rest all more text is
sees_at stages.Order given draft rest all (behind, word, goes) =
    Further (WordLexeme (codes "order")) (At stages.Open given draft) behind refl
    (word_takes (codes "order") rest behind word) goes
sees_at stages.Open given draft rest all goes =
    sees_open given draft goes.flows rest goes.behind all goes.head goes.items
sees_at stages.FlowName given draft rest all goes =
    sees_flows given draft goes.end rest goes.behind all goes.attributes goes.braced
sees_at (stages.FlowEquals attribute) given draft rest all (behind, sign, goes) =
    Further (SignLexeme 61) (At (stages.FlowValue attribute) given draft) behind refl
    (sign_takes 61 rest behind sign) goes
sees_at (stages.FlowValue attribute) given draft rest all goes =
    Further (WordLexeme goes.word) (At stages.Flowed given (record draft { flows = goes.then })) goes.behind
    (rw (flow_given attribute draft.flows goes.then goes.word goes.gives) refl)
    (word_takes goes.word rest goes.behind goes.value) goes.attributes
sees_at stages.Flowed given draft rest all (EndFlows behind sign goes) =
    Further (SignLexeme 93) (At stages.Braced given draft) behind refl (sign_takes 93 rest behind sign) goes
sees_at stages.Flowed given draft rest all (CommaFlows behind sign goes) =
    Further (SignLexeme 44) (At stages.FlowName given draft) behind
    (rw (flows_free draft.flows goes.end behind goes.behind goes.attributes) refl) (sign_takes 44 rest behind sign) goes
sees_at stages.Braced given draft rest all goes =
    Further (SignLexeme 123) (At stages.Items given (record draft { entries = []; pairs = [] })) goes.behind refl
    (sign_takes 123 rest goes.behind goes.sign) goes.items
sees_at stages.Items given draft rest all goes =
    sees_items given draft rest goes.behind all goes.more goes.more_entries goes.more_pairs goes.items goes.filled
    goes.others goes.is
sees_at stages.Named given draft rest all (Bracket behind sign goes) =
    Further (SignLexeme 91) (At stages.Attribute (no_attribute given.wide) draft) behind refl
    (sign_takes 91 rest behind sign) goes
sees_at stages.Named given draft rest all (Below behind sign goes) =
    Further (SignLexeme 60) (At stages.High given draft) behind refl (sign_takes 60 rest behind sign) goes
sees_at stages.High given draft rest all goes =
    Further (WordLexeme goes.high) (At stages.Items given
    (record draft { pairs = draft.pairs ++ record { low = draft.name; high = goes.high } ∷ [] })) goes.behind
    (rw goes.named refl) (word_takes goes.high rest goes.behind goes.word) goes.items
sees_at stages.Attribute given draft rest all goes =
    sees_attributes given goes.end draft rest goes.behind all goes.attributes goes.items
sees_at (stages.Equals attribute) given draft rest all (behind, sign, goes) =
    Further (SignLexeme 61) (At (stages.Value attribute) given draft) behind refl (sign_takes 61 rest behind sign) goes
sees_at (stages.Value attribute) given draft rest all goes =
    sees_value attribute given goes.then draft rest goes.behind all goes.value goes.attributes
sees_at stages.Attributed given draft rest all (EndEntry behind sign goes) =
    Further (SignLexeme 93) (At stages.Items given (with_entry given draft)) behind refl
    (sign_takes 93 rest behind sign) goes
sees_at stages.Attributed given draft rest all (Comma behind sign goes) =
    Further (SignLexeme 44) (At stages.Attribute given draft) behind
    (rw (attributes_free given goes.end behind goes.behind goes.attributes) refl) (sign_takes 44 rest behind sign) goes

pub sees : (old : Standing) (rest : List ℕ) (all : List BlockView) → GoesFrom old rest all → Seen old rest all
sees old rest all goes = sees_at old.stage old.given old.draft rest all goes
