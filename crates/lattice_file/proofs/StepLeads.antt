-- A reader's step leads on, it is the only one, and behind it the blocks can be brought to an end.
use Rattle.std.proofs.Common.{◌≡◌, ℕ, ◌<◌, Bool, true, false, not, ◌&&◌, nat_eq, List, [], ◌∷◌, ◌++◌, length, refl, sym, subst, arith, ◌⊎◌, inl, inr, Option, Some, None}
use Rattle.std.specs.Prelude.{codes}
use Rattle.std.specs.Str.{bytes_eq}
use Rattle.std.specs.Option.{option_or}
use Rattle.std.proofs.lemmas.Bool.{eqb-true}
use Rattle.std.proofs.lemmas.Slice.Eq.{bytes_eq-Decides}
use Rattle.std.proofs.lemmas.Option.{same_Some}
use Rattle.qual_base.proofs.Tests.{and_second, and_first}
use Rattle.lattice_core.specs.declared.Entry.{Entry}
use Rattle.lattice_core.specs.declared.Direction.{Direction}
use Rattle.lattice_core.specs.declared.Direction.TheVariants.{Up, Down}
use Rattle.lattice_core.specs.declared.Flows.{Flows}
use Rattle.lattice_core.specs.Passing.{no_flows}
use Rattle.lattice_core.specs.declared.Level.{Level}
use Rattle.lattice_core.specs.declared.Sign.{Sign}
use Rattle.lattice_core.specs.declared.Deref.{Deref}
use Rattle.lattice_core.specs.declared.Deref.TheVariants as derefs
use Rattle.lattice_core.specs.declared.Level.TheVariants.{Ref, Value}
use Rattle.lattice_core.specs.declared.Sign.TheVariants.{Pos, Neg, Eq}
use Rattle.lattice_file.specs.declared.words.Attribute.{Attribute}
use Rattle.lattice_file.specs.declared.words.Attribute.TheVariants as attributes
use Rattle.lattice_file.specs.declared.words.Given.{Given}
use Rattle.lattice_file.specs.declared.blocks.Stage.{Stage}
use Rattle.lattice_file.specs.declared.blocks.Stage.TheVariants as stages
use Rattle.lattice_file.specs.declared.passing.BlockAttribute.{BlockAttribute}
use Rattle.lattice_file.specs.declared.passing.BlockAttribute.TheVariants.{Ptrflow, Fieldflow}
use Rattle.lattice_file.specs.Blocks.{BlockView}
use Rattle.lattice_file.specs.Text.{TakesWord, TakesSign, TakesText, Word, Color, is_element_name, attribute_word, has_attribute, no_attribute, Gives, IsLevel, IsSign, IsDeref, block_attribute_word, has_flow, direction_word, GivesFlow, Plain, WithFlows}
use Rattle.lattice_file.specs.Going.{Draft, Goes, GoesBehindAttribute, EndEntry, Comma, GoesBehindName, Bracket, Below, GoesOnOpen, GoesBehindFlow, EndFlows, CommaFlows}
use Rattle.lattice_file.specs.Steps.{Lexeme, WordLexeme, SignLexeme, TextLexeme, Standing, GoesFrom, only_if, map_some, if_named, attribute_named, level_named, sign_named, deref_named, with_value, if_flow, flow_named, direction_named, with_flow, has_all_flows, is_full, is_nonempty, with_block, with_entry, next_by, next}
use Rattle.lattice_file.proofs.LexemeUnique.{Takes}
use Rattle.lattice_file.proofs.GoingLemmas.{open_goes, close_goes, name_goes, attribute_goes, flow_goes}

pub only_is : {A : Type 0} (b : Bool) (to new : A) → only_if b to ≡ Some new → (b ≡ true) × (to ≡ new)
only_is true to new e = (refl, cc)
only_is false to new e = absurd cc

pub first_is : {A : Type 0} (one other : Option A) (new : A) → option_or one other ≡ Some new
    → (one ≡ Some new) ⊎ (other ≡ Some new)
first_is (Some one) other new e = inl e
first_is None other new e = inr e

pub map_is : {A B : Type 0} (f : A → B) (one : Option A) (new : B) → map_some f one ≡ Some new
    → (x : A) × (one ≡ Some x) × (f x ≡ new)
map_is f (Some one) new e = (one, refl, cc)
map_is f None new e = absurd cc

pub word_is : (word name : List ℕ) → bytes_eq word name ≡ true → word ≡ name
word_is word name e = (bytes_eq-Decides word name).0 e

pub is_word : (word name : List ℕ) → word ≡ name → bytes_eq word name ≡ true
is_word word name e = (bytes_eq-Decides word name).1 e

takes_word : (word bytes rest : List ℕ) → Takes (WordLexeme word) bytes rest → TakesWord word bytes rest
takes_word word bytes rest t = record { behind = t.behind; gap = t.gap; is = t.spells.0; ends = t.spells.1 }

pub word_takes : (word bytes rest : List ℕ) → TakesWord word bytes rest → Takes (WordLexeme word) bytes rest
word_takes word bytes rest t = record { behind = t.behind; gap = t.gap; spells = (t.is, t.ends) }

takes_sign : (sign : ℕ) (bytes rest : List ℕ) → Takes (SignLexeme sign) bytes rest → TakesSign sign bytes rest
takes_sign sign bytes rest t = record { behind = t.behind; gap = t.gap; is = t.spells }

pub sign_takes : (sign : ℕ) (bytes rest : List ℕ) → TakesSign sign bytes rest → Takes (SignLexeme sign) bytes rest
sign_takes sign bytes rest t = record { behind = t.behind; gap = t.gap; spells = t.is }

pub takes_text : (bytes rest : List ℕ) → Takes TextLexeme bytes rest → TakesText bytes rest
takes_text bytes rest t =
    record { behind = t.behind; gap = t.gap; text = t.spells.0; is = t.spells.1; inside = t.spells.2 }

pub text_takes : (bytes rest : List ℕ) → TakesText bytes rest → Takes TextLexeme bytes rest
text_takes bytes rest t = record { behind = t.behind; gap = t.gap; spells = (t.text, t.is, t.inside) }

-- what the names say
if_named_is : (given : Given) (word : List ℕ) (attribute new : Attribute) → if_named given word attribute ≡ Some new
    → (word ≡ attribute_word new) × (has_attribute given new ≡ false)
if_named_is given word attribute new e =
    let p = only_is (bytes_eq word (attribute_word attribute) && not (has_attribute given attribute)) attribute new e in
    let named : word ≡ attribute_word attribute = word_is word (attribute_word attribute)
    (and_first (bytes_eq word (attribute_word attribute)) (not (has_attribute given attribute)) p.0) in
    let free : has_attribute given attribute ≡ false = not_true (has_attribute given attribute)
    (and_second (bytes_eq word (attribute_word attribute)) (not (has_attribute given attribute)) p.0) in
    subst (λ (a : Attribute). (word ≡ attribute_word a) × (has_attribute given a ≡ false)) p.1 (named, free)
  where
    not_true : (b : Bool) → not b ≡ true → b ≡ false
    not_true true e = absurd cc
    not_true false e = refl

-- a word that names an attribute of an entry is its word, and the entry does not have it yet
pub attribute_is : (given : Given) (word : List ℕ) (new : Attribute) → attribute_named given word ≡ Some new
    → (word ≡ attribute_word new) × (has_attribute given new ≡ false)
attribute_is given word new e = first (first_is (if_named given word attributes.Level) _ new e)
  where
    fourth : (if_named given word attributes.Write ≡ Some new) ⊎ (if_named given word attributes.Deref ≡ Some new)
        → (word ≡ attribute_word new) × (has_attribute given new ≡ false)
    fourth (inl e) = if_named_is given word attributes.Write new e
    fourth (inr e) = if_named_is given word attributes.Deref new e

    third : (if_named given word attributes.Color ≡ Some new)
        ⊎ (option_or (if_named given word attributes.Write) (if_named given word attributes.Deref) ≡ Some new)
        → (word ≡ attribute_word new) × (has_attribute given new ≡ false)
    third (inl e) = if_named_is given word attributes.Color new e
    third (inr e) = fourth (first_is (if_named given word attributes.Write) _ new e)

    second : (if_named given word attributes.Sign ≡ Some new) ⊎ (option_or (if_named given word attributes.Color)
        (option_or (if_named given word attributes.Write) (if_named given word attributes.Deref)) ≡ Some new)
        → (word ≡ attribute_word new) × (has_attribute given new ≡ false)
    second (inl e) = if_named_is given word attributes.Sign new e
    second (inr e) = third (first_is (if_named given word attributes.Color) _ new e)

    first : (if_named given word attributes.Level ≡ Some new)
        ⊎ (option_or (if_named given word attributes.Sign) (option_or (if_named given word attributes.Color)
        (option_or (if_named given word attributes.Write) (if_named given word attributes.Deref))) ≡ Some new)
        → (word ≡ attribute_word new) × (has_attribute given new ≡ false)
    first (inl e) = if_named_is given word attributes.Level new e
    first (inr e) = second (first_is (if_named given word attributes.Sign) _ new e)

-- the word of an attribute that an entry does not have yet names it
pub named_new : (given : Given) (attribute : Attribute) → has_attribute given attribute ≡ false
    → attribute_named given (attribute_word attribute) ≡ Some attribute
named_new given attributes.Level e = rw e refl
named_new given attributes.Sign e = rw e refl
named_new given attributes.Color e = rw e refl
named_new given attributes.Write e = rw e refl
named_new given attributes.Deref e = rw e refl

-- a word that is read as a level is that level's word
level_is : (word : List ℕ) (level : Level) → level_named word ≡ Some level → IsLevel word level
level_is word level e = by (first_is (only_if (bytes_eq word (codes "ref")) Ref) _ level e)
  where
    by : (only_if (bytes_eq word (codes "ref")) Ref ≡ Some level)
        ⊎ (only_if (bytes_eq word (codes "value")) Value ≡ Some level)
        → IsLevel word level
    by (inl e) =
        let p = only_is (bytes_eq word (codes "ref")) Ref level e in
        subst (λ (l : Level). IsLevel word l) p.1 (word_is word (codes "ref") p.0)
    by (inr e) =
        let p = only_is (bytes_eq word (codes "value")) Value level e in
        subst (λ (l : Level). IsLevel word l) p.1 (word_is word (codes "value") p.0)

-- a word that is read as a sign is that sign's word
sign_is : (word : List ℕ) (sign : Sign) → sign_named word ≡ Some sign → IsSign word sign
sign_is word sign e = by (first_is (only_if (bytes_eq word (codes "pos")) Pos) _ sign e)
  where
    by_last : (only_if (bytes_eq word (codes "neg")) Neg ≡ Some sign)
        ⊎ (only_if (bytes_eq word (codes "eq")) Eq ≡ Some sign)
        → IsSign word sign
    by_last (inl e) =
        let p = only_is (bytes_eq word (codes "neg")) Neg sign e in
        subst (λ (s : Sign). IsSign word s) p.1 (word_is word (codes "neg") p.0)
    by_last (inr e) =
        let p = only_is (bytes_eq word (codes "eq")) Eq sign e in
        subst (λ (s : Sign). IsSign word s) p.1 (word_is word (codes "eq") p.0)

    by : (only_if (bytes_eq word (codes "pos")) Pos ≡ Some sign)
        ⊎ (option_or (only_if (bytes_eq word (codes "neg")) Neg) (only_if (bytes_eq word (codes "eq")) Eq) ≡ Some sign)
        → IsSign word sign
    by (inl e) =
        let p = only_is (bytes_eq word (codes "pos")) Pos sign e in
        subst (λ (s : Sign). IsSign word s) p.1 (word_is word (codes "pos") p.0)
    by (inr e) = by_last (first_is (only_if (bytes_eq word (codes "neg")) Neg) _ sign e)

-- a word that is read as a value of `deref` is its word, `access` in wider C alone
deref_is : (wide : Bool) (word : List ℕ) (deref : Deref) → deref_named wide word ≡ Some deref → IsDeref wide word deref
deref_is wide word deref e = by (first_is (only_if (bytes_eq word (codes "yes")) derefs.Yes) _ deref e)
  where
    by : (only_if (bytes_eq word (codes "yes")) derefs.Yes ≡ Some deref)
        ⊎ (only_if (wide && bytes_eq word (codes "access")) derefs.Access ≡ Some deref)
        → IsDeref wide word deref
    by (inl e) =
        let p = only_is (bytes_eq word (codes "yes")) derefs.Yes deref e in
        subst (λ (d : Deref). IsDeref wide word d) p.1 (word_is word (codes "yes") p.0)
    by (inr e) =
        let p = only_is (wide && bytes_eq word (codes "access")) derefs.Access deref e in
        let named : word ≡ codes "access" =
        word_is word (codes "access") (and_second wide (bytes_eq word (codes "access")) p.0) in
        subst (λ (d : Deref). IsDeref wide word d) p.1 (and_first wide (bytes_eq word (codes "access")) p.0, named)

-- a word that is read as a value of an entry's attribute gives it that value
pub value_is : (attribute : Attribute) (given then : Given) (word : List ℕ)
    → with_value attribute given word ≡ Some then → Gives attribute word given then
value_is attributes.Level given then word e =
    let p = map_is (λ level. record given { level = Some level }) (level_named word) then e in
    (p.0, level_is word p.0 p.1, sym p.2)
value_is attributes.Sign given then word e =
    let p = map_is (λ sign. record given { sign = Some sign }) (sign_named word) then e in
    (p.0, sign_is word p.0 p.1, sym p.2)
value_is attributes.Color given then word e = absurd cc
value_is attributes.Write given then word e =
    let p = only_is (bytes_eq word (codes "yes")) (record given { write = true }) then e in
    (word_is word (codes "yes") p.0, sym p.1)
value_is attributes.Deref given then word e =
    let p = map_is (λ deref. record given { deref = deref }) (deref_named given.wide word) then e in
    (p.0, deref_is given.wide word p.0 p.1, sym p.2)

-- a word that gives an entry's attribute a value is read as that value
pub is_value : (attribute : Attribute) (given then : Given) (word : List ℕ) → Gives attribute word given then
    → with_value attribute given word ≡ Some then
is_value attributes.Level given then word (Ref, e, f) = rw (e, f) refl
is_value attributes.Level given then word (Value, e, f) = rw (e, f) refl
is_value attributes.Sign given then word (Pos, e, f) = rw (e, f) refl
is_value attributes.Sign given then word (Neg, e, f) = rw (e, f) refl
is_value attributes.Sign given then word (Eq, e, f) = rw (e, f) refl
is_value attributes.Color given then word h = absurd h
is_value attributes.Write given then word (e, f) = rw (e, f) refl
is_value attributes.Deref given then word (derefs.No, e, f) = absurd e
is_value attributes.Deref given then word (derefs.Yes, e, f) = rw (e, f) refl
is_value attributes.Deref given then word (derefs.Access, (wide, e), f) = rw (e, f, wide) refl

-- a word that is read as one attribute of a block is its word, and the block does not have it yet
if_flow_is : (flows : Flows) (word : List ℕ) (attribute new : BlockAttribute) → if_flow flows word attribute ≡ Some new
    → (word ≡ block_attribute_word new) × (has_flow flows new ≡ false)
if_flow_is flows word attribute new e =
    let p =
    only_is (bytes_eq word (block_attribute_word attribute) && not (has_flow flows attribute)) attribute new e in
    let named : word ≡ block_attribute_word attribute = word_is word (block_attribute_word attribute)
    (and_first (bytes_eq word (block_attribute_word attribute)) (not (has_flow flows attribute)) p.0) in
    let free : has_flow flows attribute ≡ false = not_true (has_flow flows attribute)
    (and_second (bytes_eq word (block_attribute_word attribute)) (not (has_flow flows attribute)) p.0) in
    subst (λ (a : BlockAttribute). (word ≡ block_attribute_word a) × (has_flow flows a ≡ false)) p.1 (named, free)
  where
    not_true : (b : Bool) → not b ≡ true → b ≡ false
    not_true true e = absurd cc
    not_true false e = refl

-- a word that names some attribute of a block is its word, and the block does not have it yet
pub flow_is : (flows : Flows) (word : List ℕ) (new : BlockAttribute) → flow_named flows word ≡ Some new
    → (word ≡ block_attribute_word new) × (has_flow flows new ≡ false)
flow_is flows word new e = by (first_is (if_flow flows word Ptrflow) _ new e)
  where
    by : (if_flow flows word Ptrflow ≡ Some new) ⊎ (if_flow flows word Fieldflow ≡ Some new)
        → (word ≡ block_attribute_word new) × (has_flow flows new ≡ false)
    by (inl e) = if_flow_is flows word Ptrflow new e
    by (inr e) = if_flow_is flows word Fieldflow new e

pub flow_new : (flows : Flows) (attribute : BlockAttribute) → has_flow flows attribute ≡ false
    → flow_named flows (block_attribute_word attribute) ≡ Some attribute
flow_new flows Ptrflow e = rw e refl
flow_new flows Fieldflow e = rw e refl

-- a word that is read as a direction is that direction's word
direction_is : (word : List ℕ) (direction : Direction) → direction_named word ≡ Some direction
    → word ≡ direction_word direction
direction_is word direction e = by (first_is (only_if (bytes_eq word (codes "up")) Up) _ direction e)
  where
    by : (only_if (bytes_eq word (codes "up")) Up ≡ Some direction)
        ⊎ (only_if (bytes_eq word (codes "down")) Down ≡ Some direction)
        → word ≡ direction_word direction
    by (inl e) =
        let p = only_is (bytes_eq word (codes "up")) Up direction e in
        subst (λ (d : Direction). word ≡ direction_word d) p.1 (word_is word (codes "up") p.0)
    by (inr e) =
        let p = only_is (bytes_eq word (codes "down")) Down direction e in
        subst (λ (d : Direction). word ≡ direction_word d) p.1 (word_is word (codes "down") p.0)

-- a word that is read as a value of a block's attribute gives it that value
pub gives_flow : (attribute : BlockAttribute) (flows then : Flows) (word : List ℕ)
    → with_flow attribute flows word ≡ Some then → GivesFlow attribute word flows then
gives_flow Ptrflow flows then word e =
    let p = map_is (λ direction. record flows { ptr = Some direction }) (direction_named word) then e in
    (p.0, direction_is word p.0 p.1, sym p.2)
gives_flow Fieldflow flows then word e =
    let p = only_is (bytes_eq word (codes "down")) (record flows { field = true }) then e in
    (word_is word (codes "down") p.0, sym p.1)

-- a word that gives a block's attribute a value is read as that value
pub flow_given : (attribute : BlockAttribute) (flows then : Flows) (word : List ℕ) → GivesFlow attribute word flows then
    → with_flow attribute flows word ≡ Some then
flow_given Ptrflow flows then word (Up, e, f) = rw (e, f) refl
flow_given Ptrflow flows then word (Down, e, f) = rw (e, f) refl
flow_given Fieldflow flows then word (e, f) = rw (e, f) refl

pub nonempty_long : (entries : List Entry) → is_nonempty entries ≡ true → 0 < length entries
nonempty_long [] e = absurd cc
nonempty_long (entry ∷ entries) e = omega arith

pub long_nonempty : (entries : List Entry) → 0 < length entries → is_nonempty entries ≡ true
long_nonempty [] h = absurd (omega (arith, h))
long_nonempty (entry ∷ entries) h = refl

abbrev pub At : Stage → Given → Draft → Standing
At stage given draft = record { stage = stage; given = given; draft = draft }

-- from where a reader stands behind a lexeme to where it stood before
abbrev Leads : Stage → Given → Draft → Lexeme → Type 0
Leads stage given draft lexeme =
    (new : Standing) (rest after : List ℕ) (all : List BlockView) → next_by stage given draft lexeme ≡ Some new
    → Takes lexeme rest after → GoesFrom new after all → Goes stage given draft rest all

moved : (to new : Standing) (after : List ℕ) (all : List BlockView) → to ≡ new → GoesFrom new after all
    → GoesFrom to after all
moved to new after all e goes = subst (λ (s : Standing). GoesFrom s after all) (sym e) goes

-- a word that may come at a stage leads on: what goes on behind it goes on with it
leads_word : (stage : Stage) (given : Given) (draft : Draft) (word : List ℕ) → Leads stage given draft (WordLexeme word)
leads_word stages.Outside given draft word new rest after all e takes goes =
    let p = only_is (bytes_eq word (codes "partial")) (At stages.Order given draft) new e in
    open_goes given.wide draft rest after all (subst (λ (w : List ℕ). TakesWord w rest after)
    (word_is word (codes "partial") p.0) (takes_word word rest after takes))
    (moved (At stages.Order given draft) new after all p.1 goes)
leads_word stages.Order given draft word new rest after all e takes goes =
    let p = only_is (bytes_eq word (codes "order")) (At stages.Open given draft) new e in (
      after,
      subst (λ (w : List ℕ). TakesWord w rest after) (word_is word (codes "order") p.0)
          (takes_word word rest after takes),
      moved (At stages.Open given draft) new after all p.1 goes,
    )
leads_word stages.Open given draft word new rest after all e takes goes = absurd cc
leads_word stages.FlowName given draft word new rest after all e takes goes =
    let p = map_is (λ attribute. At (stages.FlowEquals attribute) given draft) (flow_named draft.flows word) new e in
    let q = flow_is draft.flows word p.0 p.1 in
    flow_goes given.wide p.0 draft.flows draft.blocks rest after all q.1
    (subst (λ (w : List ℕ). TakesWord w rest after) q.0 (takes_word word rest after takes))
    (moved (At (stages.FlowEquals p.0) given draft) new after all p.2 goes)
leads_word (stages.FlowEquals attribute) given draft word new rest after all e takes goes = absurd cc
leads_word (stages.FlowValue attribute) given draft word new rest after all e takes goes =
    let p = map_is (λ flows. At stages.Flowed given (record draft { flows = flows }))
    (with_flow attribute draft.flows word) new e in
    record {
      word = word;
      then = p.0;
      behind = after;
      value = takes_word word rest after takes;
      gives = gives_flow attribute draft.flows p.0 word p.1;
      attributes = moved (At stages.Flowed given (record draft { flows = p.0 })) new after all p.2 goes;
    }
leads_word stages.Flowed given draft word new rest after all e takes goes = absurd cc
leads_word stages.Braced given draft word new rest after all e takes goes = absurd cc
leads_word stages.Items given draft word new rest after all e takes goes =
    let p = only_is (is_element_name word) (At stages.Named given (record draft { name = word })) new e in
    name_goes given.wide (record draft { name = word }) rest after all p.0 (takes_word word rest after takes)
    (moved (At stages.Named given (record draft { name = word })) new after all p.1 goes)
leads_word stages.Named given draft word new rest after all e takes goes = absurd cc
leads_word stages.High given draft word new rest after all e takes goes =
    let to =
    At stages.Items given (record draft { pairs = draft.pairs ++ record { low = draft.name; high = word } ∷ [] }) in
    let p = only_is (is_element_name word) to new e in
    record {
      high = word;
      behind = after;
      named = p.0;
      word = takes_word word rest after takes;
      items = moved to new after all p.1 goes;
    }
leads_word stages.Attribute given draft word new rest after all e takes goes =
    let p = map_is (λ attribute. At (stages.Equals attribute) given draft) (attribute_named given word) new e in
    let q = attribute_is given word p.0 p.1 in
    attribute_goes p.0 given draft rest after all q.1 (subst (λ (w : List ℕ). TakesWord w rest after) q.0
    (takes_word word rest after takes)) (moved (At (stages.Equals p.0) given draft) new after all p.2 goes)
leads_word (stages.Equals attribute) given draft word new rest after all e takes goes = absurd cc
leads_word (stages.Value attribute) given draft word new rest after all e takes goes =
    let p = map_is (λ then. At stages.Attributed then draft) (with_value attribute given word) new e in
    record {
      then = p.0;
      behind = after;
      value = Word attribute word given p.0 rest after (value_is attribute given p.0 word p.1)
          (takes_word word rest after takes);
      attributes = moved (At stages.Attributed p.0 draft) new after all p.2 goes;
    }
leads_word stages.Attributed given draft word new rest after all e takes goes = absurd cc

sign_same : (sign other : ℕ) (rest after : List ℕ) → nat_eq sign other ≡ true → Takes (SignLexeme sign) rest after
    → TakesSign other rest after
sign_same sign other rest after e takes =
    subst (λ (s : ℕ). TakesSign s rest after) (eqb-true sign other e) (takes_sign sign rest after takes)

-- a sign that may come at a stage leads on: what goes on behind it goes on with it
leads_sign : (stage : Stage) (given : Given) (draft : Draft) (sign : ℕ) → Leads stage given draft (SignLexeme sign)
leads_sign stages.Outside given draft sign new rest after all e takes goes = absurd cc
leads_sign stages.Order given draft sign new rest after all e takes goes = absurd cc
leads_sign stages.Open given draft sign new rest after all e takes goes =
    by (first_is (only_if (nat_eq sign 123)
    (At stages.Items given (record draft { entries = []; pairs = []; flows = no_flows }))) _ new e)
  where
    by : (only_if (nat_eq sign 123)
        (At stages.Items given (record draft { entries = []; pairs = []; flows = no_flows })) ≡ Some new)
        ⊎ (only_if (nat_eq sign 91) (At stages.FlowName given (record draft { flows = no_flows })) ≡ Some new)
        → GoesOnOpen given.wide draft rest all
    by (inl e) =
        let to = At stages.Items given (record draft { entries = []; pairs = []; flows = no_flows }) in
        let p = only_is (nat_eq sign 123) to new e in
        record {
          flows = no_flows;
          behind = after;
          head = Plain rest after (sign_same sign 123 rest after p.0 takes);
          items = moved to new after all p.1 goes;
        }
    by (inr e) =
        let to = At stages.FlowName given (record draft { flows = no_flows }) in
        let p = only_is (nat_eq sign 91) to new e in
        let on = moved to new after all p.1 goes in
        record {
          flows = on.end;
          behind = on.braced.behind;
          head = WithFlows on.end rest after on.behind on.braced.behind
              (sign_same sign 91 rest after p.0 takes) on.attributes on.braced.sign;
          items = on.braced.items;
        }
leads_sign stages.FlowName given draft sign new rest after all e takes goes = absurd cc
leads_sign (stages.FlowEquals attribute) given draft sign new rest after all e takes goes =
    let p = only_is (nat_eq sign 61) (At (stages.FlowValue attribute) given draft) new e in (
      after,
      sign_same sign 61 rest after p.0 takes,
      moved (At (stages.FlowValue attribute) given draft) new after all p.1 goes,
    )
leads_sign (stages.FlowValue attribute) given draft sign new rest after all e takes goes = absurd cc
leads_sign stages.Flowed given draft sign new rest after all e takes goes =
    by (first_is (only_if (nat_eq sign 44 && not (has_all_flows draft.flows)) (At stages.FlowName given draft)) _ new e)
  where
    by : (only_if (nat_eq sign 44 && not (has_all_flows draft.flows)) (At stages.FlowName given draft) ≡ Some new)
        ⊎ (only_if (nat_eq sign 93) (At stages.Braced given draft) ≡ Some new)
        → GoesBehindFlow given.wide draft.flows draft.blocks rest all
    by (inl e) =
        let p = only_is (nat_eq sign 44 && not (has_all_flows draft.flows)) (At stages.FlowName given draft) new e in
        CommaFlows after
        (sign_same sign 44 rest after (and_first (nat_eq sign 44) (not (has_all_flows draft.flows)) p.0) takes)
        (moved (At stages.FlowName given draft) new after all p.1 goes)
    by (inr e) =
        let p = only_is (nat_eq sign 93) (At stages.Braced given draft) new e in
        EndFlows after (sign_same sign 93 rest after p.0 takes)
        (moved (At stages.Braced given draft) new after all p.1 goes)
leads_sign stages.Braced given draft sign new rest after all e takes goes =
    let to = At stages.Items given (record draft { entries = []; pairs = [] }) in
    let p = only_is (nat_eq sign 123) to new e in
    record { behind = after; sign = sign_same sign 123 rest after p.0 takes; items = moved to new after all p.1 goes }
leads_sign stages.Items given draft sign new rest after all e takes goes =
    let p = only_is (nat_eq sign 125 && is_nonempty draft.entries) (At stages.Outside given (with_block draft)) new e in
    close_goes given.wide draft.flows draft.entries draft.pairs draft.blocks rest after all
    (nonempty_long draft.entries (and_second (nat_eq sign 125) (is_nonempty draft.entries) p.0))
    (sign_same sign 125 rest after (and_first (nat_eq sign 125) (is_nonempty draft.entries) p.0) takes)
    (moved (At stages.Outside given (with_block draft)) new after all p.1 goes)
leads_sign stages.Named given draft sign new rest after all e takes goes =
    by (first_is (only_if (nat_eq sign 91) (At stages.Attribute (no_attribute given.wide) draft)) _ new e)
  where
    by : (only_if (nat_eq sign 91) (At stages.Attribute (no_attribute given.wide) draft) ≡ Some new)
        ⊎ (only_if (nat_eq sign 60) (At stages.High given draft) ≡ Some new)
        → GoesBehindName given.wide draft rest all
    by (inl e) =
        let p = only_is (nat_eq sign 91) (At stages.Attribute (no_attribute given.wide) draft) new e in
        Bracket after (sign_same sign 91 rest after p.0 takes)
        (moved (At stages.Attribute (no_attribute given.wide) draft) new after all p.1 goes)
    by (inr e) =
        let p = only_is (nat_eq sign 60) (At stages.High given draft) new e in
        Below after (sign_same sign 60 rest after p.0 takes) (moved (At stages.High given draft) new after all p.1 goes)
leads_sign stages.High given draft sign new rest after all e takes goes = absurd cc
leads_sign stages.Attribute given draft sign new rest after all e takes goes = absurd cc
leads_sign (stages.Equals attribute) given draft sign new rest after all e takes goes =
    let p = only_is (nat_eq sign 61) (At (stages.Value attribute) given draft) new e in (
      after,
      sign_same sign 61 rest after p.0 takes,
      moved (At (stages.Value attribute) given draft) new after all p.1 goes,
    )
leads_sign (stages.Value attribute) given draft sign new rest after all e takes goes = absurd cc
leads_sign stages.Attributed given draft sign new rest after all e takes goes =
    by (first_is (only_if (nat_eq sign 44 && not (is_full given)) (At stages.Attribute given draft)) _ new e)
  where
    by : (only_if (nat_eq sign 44 && not (is_full given)) (At stages.Attribute given draft) ≡ Some new)
        ⊎ (only_if (nat_eq sign 93) (At stages.Items given (with_entry given draft)) ≡ Some new)
        → GoesBehindAttribute given draft rest all
    by (inl e) =
        let p = only_is (nat_eq sign 44 && not (is_full given)) (At stages.Attribute given draft) new e in
        Comma after (sign_same sign 44 rest after (and_first (nat_eq sign 44) (not (is_full given)) p.0) takes)
        (moved (At stages.Attribute given draft) new after all p.1 goes)
    by (inr e) =
        let p = only_is (nat_eq sign 93) (At stages.Items given (with_entry given draft)) new e in
        EndEntry after (sign_same sign 93 rest after p.0 takes)
        (moved (At stages.Items given (with_entry given draft)) new after all p.1 goes)

-- a colour text that may come at a stage leads on: what goes on behind it goes on with it
leads_text : (stage : Stage) (given : Given) (draft : Draft) → Leads stage given draft TextLexeme
leads_text (stages.Value attributes.Color) given draft new rest after all e takes goes =
    record {
      then = record given { color = true };
      behind = after;
      value = Color given rest after (takes_text rest after takes);
      attributes = moved (At stages.Attributed (record given { color = true }) draft) new after all
          (same_Some (At stages.Attributed (record given { color = true }) draft) new e) goes;
    }
leads_text _ given draft new rest after all e takes goes = absurd cc

-- a lexeme that may come leads on: what goes on behind it goes on from where the reader stood
pub leads : (old : Standing) (lexeme : Lexeme) (new : Standing) (rest after : List ℕ) (all : List BlockView)
    → next old lexeme ≡ Some new → Takes lexeme rest after → GoesFrom new after all → GoesFrom old rest all
leads old (WordLexeme word) new rest after all e takes goes =
    leads_word old.stage old.given old.draft word new rest after all e takes goes
leads old (SignLexeme sign) new rest after all e takes goes =
    leads_sign old.stage old.given old.draft sign new rest after all e takes goes
leads old TextLexeme new rest after all e takes goes =
    leads_text old.stage old.given old.draft new rest after all e takes goes
