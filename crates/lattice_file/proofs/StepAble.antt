-- What may come next is a proper lexeme, and behind it the text can be brought to an end.
use Rattle.std.proofs.Common.{◌≡◌, ℕ, Bool, true, false, not, ◌&&◌, ◌||◌, nat_eq, List, [], ◌∷◌, ◌++◌, refl, sym, ◌∙◌, subst, ◌⊎◌, inl, inr, Some}
use Rattle.std.specs.Prelude.{codes, is_some}
use Rattle.std.specs.Str.{bytes_eq}
use Rattle.std.proofs.lemmas.Bool.{eqb-true, not-true, or_cases}
use Rattle.lattice_core.specs.declared.Entry.{Entry}
use Rattle.lattice_core.specs.declared.Direction.TheVariants.{Up, Down}
use Rattle.lattice_core.specs.declared.Flows.{Flows}
use Rattle.lattice_core.specs.Passing.{no_flows}
use Rattle.lattice_core.specs.declared.Level.TheVariants.{Ref, Value}
use Rattle.lattice_core.specs.declared.Sign.TheVariants.{Pos, Neg, Eq}
use Rattle.lattice_core.specs.declared.Deref.TheVariants as derefs
use Rattle.lattice_file.specs.declared.words.Attribute.{Attribute}
use Rattle.lattice_file.specs.declared.words.Attribute.TheVariants as attributes
use Rattle.lattice_file.specs.declared.words.Given.{Given}
use Rattle.lattice_file.specs.declared.blocks.Stage.{Stage}
use Rattle.lattice_file.specs.declared.blocks.Stage.TheVariants as stages
use Rattle.lattice_file.specs.declared.passing.BlockAttribute.{BlockAttribute}
use Rattle.lattice_file.specs.declared.passing.BlockAttribute.TheVariants.{Ptrflow, Fieldflow}
use Rattle.lattice_file.specs.Blocks.{BlockView}
use Rattle.lattice_file.specs.Text.{End, is_element_name, attribute_word, has_attribute, is_deref, entry_of, no_attribute, Gives, block_attribute_word, has_flow, GivesFlow}
use Rattle.lattice_file.specs.Going.{Draft}
use Rattle.lattice_file.specs.Steps.{Lexeme, WordLexeme, SignLexeme, TextLexeme, Spells, Standing, GoesFrom, only_if, attribute_named, with_value, flow_named, with_flow, has_all_flows, is_full, is_nonempty, next_by_word, with_block, with_entry, next_by_sign, next_by_text, next}
use Rattle.std.specs.List.{list_all}
use Rattle.std.proofs.lemmas.Option.{same_Some}
use Rattle.qual_base.proofs.Tests.{and_second, and_first}
use Rattle.lattice_file.specs.Text.{Nothing, Blank, stands_in_words, is_letter, is_name_byte, begins_with_dollar}
use Rattle.lattice_file.proofs.LexemeUnique.{IsProper, kind_of, AtSign}
use Rattle.lattice_file.proofs.GoingLemmas.{gives_wide}
use Rattle.lattice_file.proofs.StepLeads.{At, only_is, first_is, map_is, attribute_is, value_is, word_is, named_new, flow_is, flow_new, gives_flow, leads}

-- an attribute is left where one may come
abbrev pub IsReadyAt : Stage → Given → Draft → Type 0
IsReadyAt stages.Attribute given draft = is_full given ≡ false
IsReadyAt stages.FlowName given draft = has_all_flows draft.flows ≡ false
IsReadyAt _ given draft = Unit {0}

abbrev pub IsReady : Standing → Type 0
IsReady standing = IsReadyAt standing.stage standing.given standing.draft

ready_as : (wide : Bool) (to new : Standing) → to ≡ new → IsReady to → to.given.wide ≡ wide
    → IsReady new × (new.given.wide ≡ wide)
ready_as wide to new e h is = (subst IsReady e h, subst (λ (s : Standing). s.given.wide ≡ wide) e is)

-- behind a word that may come the reader is ready, and wider C stays as it is
ready_word : (stage : Stage) (given : Given) (draft : Draft) (word : List ℕ) (new : Standing)
    → next_by_word stage given draft word ≡ Some new → IsReady new × (new.given.wide ≡ given.wide)
ready_word stages.Outside given draft word new e =
    let p = only_is (bytes_eq word (codes "partial")) (At stages.Order given draft) new e in
    ready_as given.wide (At stages.Order given draft) new p.1 tt refl
ready_word stages.Order given draft word new e =
    let p = only_is (bytes_eq word (codes "order")) (At stages.Open given draft) new e in
    ready_as given.wide (At stages.Open given draft) new p.1 tt refl
ready_word stages.Open given draft word new e = absurd cc
ready_word stages.FlowName given draft word new e =
    let p = map_is (λ attribute. At (stages.FlowEquals attribute) given draft) (flow_named draft.flows word) new e in
    ready_as given.wide (At (stages.FlowEquals p.0) given draft) new p.2 tt refl
ready_word (stages.FlowEquals attribute) given draft word new e = absurd cc
ready_word (stages.FlowValue attribute) given draft word new e =
    let p = map_is (λ flows. At stages.Flowed given (record draft { flows = flows }))
    (with_flow attribute draft.flows word) new e in
    ready_as given.wide (At stages.Flowed given (record draft { flows = p.0 })) new p.2 tt refl
ready_word stages.Flowed given draft word new e = absurd cc
ready_word stages.Braced given draft word new e = absurd cc
ready_word stages.Items given draft word new e =
    let to = At stages.Named given (record draft { name = word }) in
    let p = only_is (is_element_name word) to new e in
    ready_as given.wide to new p.1 tt refl
ready_word stages.Named given draft word new e = absurd cc
ready_word stages.High given draft word new e =
    let to =
    At stages.Items given (record draft { pairs = draft.pairs ++ record { low = draft.name; high = word } ∷ [] }) in
    let p = only_is (is_element_name word) to new e in
    ready_as given.wide to new p.1 tt refl
ready_word stages.Attribute given draft word new e =
    let p = map_is (λ attribute. At (stages.Equals attribute) given draft) (attribute_named given word) new e in
    ready_as given.wide (At (stages.Equals p.0) given draft) new p.2 tt refl
ready_word (stages.Equals attribute) given draft word new e = absurd cc
ready_word (stages.Value attribute) given draft word new e =
    let p = map_is (λ then. At stages.Attributed then draft) (with_value attribute given word) new e in
    ready_as given.wide (At stages.Attributed p.0 draft) new p.2 tt
    (gives_wide attribute given p.0 word (value_is attribute given p.0 word p.1))
ready_word stages.Attributed given draft word new e = absurd cc

-- behind a sign that may come the reader is ready, and wider C stays as it is
ready_sign : (stage : Stage) (given : Given) (draft : Draft) (sign : ℕ) (new : Standing)
    → next_by_sign stage given draft sign ≡ Some new → IsReady new × (new.given.wide ≡ given.wide)
ready_sign stages.Outside given draft sign new e = absurd cc
ready_sign stages.Order given draft sign new e = absurd cc
ready_sign stages.Open given draft sign new e =
    by (first_is (only_if (nat_eq sign 123)
    (At stages.Items given (record draft { entries = []; pairs = []; flows = no_flows }))) _ new e)
  where
    by : (only_if (nat_eq sign 123)
        (At stages.Items given (record draft { entries = []; pairs = []; flows = no_flows })) ≡ Some new)
        ⊎ (only_if (nat_eq sign 91) (At stages.FlowName given (record draft { flows = no_flows })) ≡ Some new)
        → IsReady new × (new.given.wide ≡ given.wide)
    by (inl e) =
        let to = At stages.Items given (record draft { entries = []; pairs = []; flows = no_flows }) in
        let p = only_is (nat_eq sign 123) to new e in
        ready_as given.wide to new p.1 tt refl
    by (inr e) =
        let to = At stages.FlowName given (record draft { flows = no_flows }) in
        let p = only_is (nat_eq sign 91) to new e in
        ready_as given.wide to new p.1 refl refl
ready_sign stages.FlowName given draft sign new e = absurd cc
ready_sign (stages.FlowEquals attribute) given draft sign new e =
    let p = only_is (nat_eq sign 61) (At (stages.FlowValue attribute) given draft) new e in
    ready_as given.wide (At (stages.FlowValue attribute) given draft) new p.1 tt refl
ready_sign (stages.FlowValue attribute) given draft sign new e = absurd cc
ready_sign stages.Flowed given draft sign new e =
    by (first_is (only_if (nat_eq sign 44 && not (has_all_flows draft.flows)) (At stages.FlowName given draft)) _ new e)
  where
    by : (only_if (nat_eq sign 44 && not (has_all_flows draft.flows)) (At stages.FlowName given draft) ≡ Some new)
        ⊎ (only_if (nat_eq sign 93) (At stages.Braced given draft) ≡ Some new)
        → IsReady new × (new.given.wide ≡ given.wide)
    by (inl e) =
        let p = only_is (nat_eq sign 44 && not (has_all_flows draft.flows)) (At stages.FlowName given draft) new e in
        ready_as given.wide (At stages.FlowName given draft) new p.1
        (not-true (has_all_flows draft.flows) (and_second (nat_eq sign 44) (not (has_all_flows draft.flows)) p.0)) refl
    by (inr e) =
        let p = only_is (nat_eq sign 93) (At stages.Braced given draft) new e in
        ready_as given.wide (At stages.Braced given draft) new p.1 tt refl
ready_sign stages.Braced given draft sign new e =
    let to = At stages.Items given (record draft { entries = []; pairs = [] }) in
    let p = only_is (nat_eq sign 123) to new e in
    ready_as given.wide to new p.1 tt refl
ready_sign stages.Items given draft sign new e =
    let p = only_is (nat_eq sign 125 && is_nonempty draft.entries) (At stages.Outside given (with_block draft)) new e in
    ready_as given.wide (At stages.Outside given (with_block draft)) new p.1 tt refl
ready_sign stages.Named given draft sign new e =
    by (first_is (only_if (nat_eq sign 91) (At stages.Attribute (no_attribute given.wide) draft)) _ new e)
  where
    by : (only_if (nat_eq sign 91) (At stages.Attribute (no_attribute given.wide) draft) ≡ Some new)
        ⊎ (only_if (nat_eq sign 60) (At stages.High given draft) ≡ Some new)
        → IsReady new × (new.given.wide ≡ given.wide)
    by (inl e) =
        let p = only_is (nat_eq sign 91) (At stages.Attribute (no_attribute given.wide) draft) new e in
        ready_as given.wide (At stages.Attribute (no_attribute given.wide) draft) new p.1 refl refl
    by (inr e) =
        let p = only_is (nat_eq sign 60) (At stages.High given draft) new e in
        ready_as given.wide (At stages.High given draft) new p.1 tt refl
ready_sign stages.High given draft sign new e = absurd cc
ready_sign stages.Attribute given draft sign new e = absurd cc
ready_sign (stages.Equals attribute) given draft sign new e =
    let p = only_is (nat_eq sign 61) (At (stages.Value attribute) given draft) new e in
    ready_as given.wide (At (stages.Value attribute) given draft) new p.1 tt refl
ready_sign (stages.Value attribute) given draft sign new e = absurd cc
ready_sign stages.Attributed given draft sign new e =
    by (first_is (only_if (nat_eq sign 44 && not (is_full given)) (At stages.Attribute given draft)) _ new e)
  where
    by : (only_if (nat_eq sign 44 && not (is_full given)) (At stages.Attribute given draft) ≡ Some new)
        ⊎ (only_if (nat_eq sign 93) (At stages.Items given (with_entry given draft)) ≡ Some new)
        → IsReady new × (new.given.wide ≡ given.wide)
    by (inl e) =
        let p = only_is (nat_eq sign 44 && not (is_full given)) (At stages.Attribute given draft) new e in
        ready_as given.wide (At stages.Attribute given draft) new p.1
        (not-true (is_full given) (and_second (nat_eq sign 44) (not (is_full given)) p.0)) refl
    by (inr e) =
        let p = only_is (nat_eq sign 93) (At stages.Items given (with_entry given draft)) new e in
        ready_as given.wide (At stages.Items given (with_entry given draft)) new p.1 tt refl

-- a text leads to a standing that is ready, and as wide as before
ready_text : (stage : Stage) (given : Given) (draft : Draft) (new : Standing)
    → next_by_text stage given draft ≡ Some new → IsReady new × (new.given.wide ≡ given.wide)
ready_text (stages.Value attributes.Color) given draft new e =
    let to = At stages.Attributed (record given { color = true }) draft in
    ready_as given.wide to new (same_Some to new e) tt refl
ready_text _ given draft new e = absurd cc

-- behind any lexeme that may come the reader is ready, and wider C stays as it is
follows : (old : Standing) (lexeme : Lexeme) (new : Standing) → next old lexeme ≡ Some new
    → IsReady new × (new.given.wide ≡ old.given.wide)
follows old (WordLexeme word) new e = ready_word old.stage old.given old.draft word new e
follows old (SignLexeme sign) new e = ready_sign old.stage old.given old.draft sign new e
follows old TextLexeme new e = ready_text old.stage old.given old.draft new e

pub ready : (old : Standing) (lexeme : Lexeme) (new : Standing) → next old lexeme ≡ Some new → IsReady new
ready old lexeme new e = (follows old lexeme new e).0

pub wide_stays : (old : Standing) (lexeme : Lexeme) (new : Standing) → next old lexeme ≡ Some new
    → new.given.wide ≡ old.given.wide
wide_stays old lexeme new e = (follows old lexeme new e).1

-- what may come is proper
as_proper : (word name : List ℕ) → word ≡ name → IsProper (WordLexeme name) → IsProper (WordLexeme word)
as_proper word name e h = subst (λ (w : List ℕ). IsProper (WordLexeme w)) (sym e) h

-- bytes of names stand in words
name_bytes : (bytes : List ℕ) → list_all is_name_byte bytes ≡ true → list_all stands_in_words bytes ≡ true
name_bytes [] h = refl
name_bytes (b ∷ bytes) h =
    let first : is_name_byte b ≡ true = and_first (is_name_byte b) (list_all is_name_byte bytes) h in
    rw first (name_bytes bytes (and_second (is_name_byte b) (list_all is_name_byte bytes) h))

-- a name that begins with a dollar is a proper word
dollar_proper : (word : List ℕ) → begins_with_dollar word ≡ true → IsProper (WordLexeme word)
dollar_proper [] h = absurd cc
dollar_proper (b ∷ []) h = absurd cc
dollar_proper (b ∷ c ∷ more) h =
    let both : (nat_eq b 36 && is_letter c) ≡ true =
    and_first (nat_eq b 36 && is_letter c) (list_all is_name_byte more) h in
    let dollar : b ≡ 36 = eqb-true b 36 (and_first (nat_eq b 36) (is_letter c) both) in
    let letter : is_letter c ≡ true = and_second (nat_eq b 36) (is_letter c) both in
    let rest : list_all stands_in_words more ≡ true =
    name_bytes more (and_second (nat_eq b 36 && is_letter c) (list_all is_name_byte more) h) in
    let first : stands_in_words b ≡ true = subst (λ (b : ℕ). stands_in_words b ≡ true) (sym dollar) refl in
    let second : stands_in_words c ≡ true = rw letter refl in (
      b,
      c ∷ more,
      refl,
      all_three (stands_in_words b) (stands_in_words c) (list_all stands_in_words more) first second rest,
    )
  where
    all_three : (x y z : Bool) → x ≡ true → y ≡ true → z ≡ true → (x && (y && z)) ≡ true
    all_three x y z e f g = rw (e, f, g) refl

-- the name of an element is a proper word
name_proper : (word : List ℕ) → is_element_name word ≡ true → IsProper (WordLexeme word)
name_proper word h =
    by_last (or_cases (begins_with_dollar word || bytes_eq word (codes "const") || bytes_eq word (codes "volatile"))
    (bytes_eq word (codes "restrict")) h)
  where
    by_first : (begins_with_dollar word ≡ true) ⊎ (bytes_eq word (codes "const") ≡ true) → IsProper (WordLexeme word)
    by_first (inl e) = dollar_proper word e
    by_first (inr e) = as_proper word (codes "const") (word_is word (codes "const") e) (99, codes "onst", refl, refl)

    by_second : ((begins_with_dollar word || bytes_eq word (codes "const")) ≡ true)
        ⊎ (bytes_eq word (codes "volatile") ≡ true)
        → IsProper (WordLexeme word)
    by_second (inl e) = by_first (or_cases (begins_with_dollar word) (bytes_eq word (codes "const")) e)
    by_second (inr e) =
        as_proper word (codes "volatile") (word_is word (codes "volatile") e) (118, codes "olatile", refl, refl)

    by_last : ((begins_with_dollar word || bytes_eq word (codes "const") || bytes_eq word (codes "volatile")) ≡ true)
        ⊎ (bytes_eq word (codes "restrict") ≡ true)
        → IsProper (WordLexeme word)
    by_last (inl e) = by_second
        (or_cases (begins_with_dollar word || bytes_eq word (codes "const")) (bytes_eq word (codes "volatile")) e)
    by_last (inr e) =
        as_proper word (codes "restrict") (word_is word (codes "restrict") e) (114, codes "estrict", refl, refl)

-- the name of an entry's attribute is a proper word
attribute_proper : (attribute : Attribute) → IsProper (WordLexeme (attribute_word attribute))
attribute_proper attributes.Level = (108, codes "evel", refl, refl)
attribute_proper attributes.Sign = (115, codes "ign", refl, refl)
attribute_proper attributes.Color = (99, codes "olor", refl, refl)
attribute_proper attributes.Write = (119, codes "rite", refl, refl)
attribute_proper attributes.Deref = (100, codes "eref", refl, refl)

-- a word that is the value of an entry's attribute is proper
value_proper : (attribute : Attribute) (given then : Given) (word : List ℕ) → Gives attribute word given then
    → IsProper (WordLexeme word)
value_proper attributes.Level given then word (Ref, e, f) = as_proper word (codes "ref") e (114, codes "ef", refl, refl)
value_proper attributes.Level given then word (Value, e, f) =
    as_proper word (codes "value") e (118, codes "alue", refl, refl)
value_proper attributes.Sign given then word (Pos, e, f) = as_proper word (codes "pos") e (112, codes "os", refl, refl)
value_proper attributes.Sign given then word (Neg, e, f) = as_proper word (codes "neg") e (110, codes "eg", refl, refl)
value_proper attributes.Sign given then word (Eq, e, f) = as_proper word (codes "eq") e (101, codes "q", refl, refl)
value_proper attributes.Color given then word h = absurd h
value_proper attributes.Write given then word (e, f) = as_proper word (codes "yes") e (121, codes "es", refl, refl)
value_proper attributes.Deref given then word (derefs.No, e, f) = absurd e
value_proper attributes.Deref given then word (derefs.Yes, e, f) =
    as_proper word (codes "yes") e (121, codes "es", refl, refl)
value_proper attributes.Deref given then word (derefs.Access, (wide, e), f) =
    as_proper word (codes "access") e (97, codes "ccess", refl, refl)

block_attribute_proper : (attribute : BlockAttribute) → IsProper (WordLexeme (block_attribute_word attribute))
block_attribute_proper Ptrflow = (112, codes "trflow", refl, refl)
block_attribute_proper Fieldflow = (102, codes "ieldflow", refl, refl)

-- a word that is the value of a block's attribute is proper
flow_proper : (attribute : BlockAttribute) (flows then : Flows) (word : List ℕ) → GivesFlow attribute word flows then
    → IsProper (WordLexeme word)
flow_proper Ptrflow flows then word (Up, e, f) = as_proper word (codes "up") e (117, codes "p", refl, refl)
flow_proper Ptrflow flows then word (Down, e, f) = as_proper word (codes "down") e (100, codes "own", refl, refl)
flow_proper Fieldflow flows then word (e, f) = as_proper word (codes "down") e (100, codes "own", refl, refl)

-- a word that may come at a stage is proper
proper_word : (stage : Stage) (given : Given) (draft : Draft) (word : List ℕ) (new : Standing)
    → next_by_word stage given draft word ≡ Some new → IsProper (WordLexeme word)
proper_word stages.Outside given draft word new e =
    let p = only_is (bytes_eq word (codes "partial")) (At stages.Order given draft) new e in
    as_proper word (codes "partial") (word_is word (codes "partial") p.0) (112, codes "artial", refl, refl)
proper_word stages.Order given draft word new e =
    let p = only_is (bytes_eq word (codes "order")) (At stages.Open given draft) new e in
    as_proper word (codes "order") (word_is word (codes "order") p.0) (111, codes "rder", refl, refl)
proper_word stages.Open given draft word new e = absurd cc
proper_word stages.FlowName given draft word new e =
    let p = map_is (λ attribute. At (stages.FlowEquals attribute) given draft) (flow_named draft.flows word) new e in
    as_proper word (block_attribute_word p.0) (flow_is draft.flows word p.0 p.1).0 (block_attribute_proper p.0)
proper_word (stages.FlowEquals attribute) given draft word new e = absurd cc
proper_word (stages.FlowValue attribute) given draft word new e =
    let p = map_is (λ flows. At stages.Flowed given (record draft { flows = flows }))
    (with_flow attribute draft.flows word) new e in
    flow_proper attribute draft.flows p.0 word (gives_flow attribute draft.flows p.0 word p.1)
proper_word stages.Flowed given draft word new e = absurd cc
proper_word stages.Braced given draft word new e = absurd cc
proper_word stages.Items given draft word new e =
    name_proper word (only_is (is_element_name word) (At stages.Named given (record draft { name = word })) new e).0
proper_word stages.Named given draft word new e = absurd cc
proper_word stages.High given draft word new e =
    name_proper word (only_is (is_element_name word) (At stages.Items given
    (record draft { pairs = draft.pairs ++ record { low = draft.name; high = word } ∷ [] })) new e).0
proper_word stages.Attribute given draft word new e =
    let p = map_is (λ attribute. At (stages.Equals attribute) given draft) (attribute_named given word) new e in
    as_proper word (attribute_word p.0) (attribute_is given word p.0 p.1).0 (attribute_proper p.0)
proper_word (stages.Equals attribute) given draft word new e = absurd cc
proper_word (stages.Value attribute) given draft word new e =
    let p = map_is (λ then. At stages.Attributed then draft) (with_value attribute given word) new e in
    value_proper attribute given p.0 word (value_is attribute given p.0 word p.1)
proper_word stages.Attributed given draft word new e = absurd cc

as_sign : (sign other : ℕ) → nat_eq sign other ≡ true → kind_of other ≡ AtSign → kind_of sign ≡ AtSign
as_sign sign other e h = subst (λ (s : ℕ). kind_of s ≡ AtSign) (sym (eqb-true sign other e)) h

-- a sign that may come at a stage begins nothing but a sign
proper_sign : (stage : Stage) (given : Given) (draft : Draft) (sign : ℕ) (new : Standing)
    → next_by_sign stage given draft sign ≡ Some new → kind_of sign ≡ AtSign
proper_sign stages.Outside given draft sign new e = absurd cc
proper_sign stages.Order given draft sign new e = absurd cc
proper_sign stages.Open given draft sign new e =
    by (first_is (only_if (nat_eq sign 123)
    (At stages.Items given (record draft { entries = []; pairs = []; flows = no_flows }))) _ new e)
  where
    by : (only_if (nat_eq sign 123)
        (At stages.Items given (record draft { entries = []; pairs = []; flows = no_flows })) ≡ Some new)
        ⊎ (only_if (nat_eq sign 91) (At stages.FlowName given (record draft { flows = no_flows })) ≡ Some new)
        → kind_of sign ≡ AtSign
    by (inl e) =
        as_sign sign 123 (only_is (nat_eq sign 123)
        (At stages.Items given (record draft { entries = []; pairs = []; flows = no_flows })) new e).0 refl
    by (inr e) =
        as_sign sign 91
        (only_is (nat_eq sign 91) (At stages.FlowName given (record draft { flows = no_flows })) new e).0 refl
proper_sign stages.FlowName given draft sign new e = absurd cc
proper_sign (stages.FlowEquals attribute) given draft sign new e =
    as_sign sign 61 (only_is (nat_eq sign 61) (At (stages.FlowValue attribute) given draft) new e).0 refl
proper_sign (stages.FlowValue attribute) given draft sign new e = absurd cc
proper_sign stages.Flowed given draft sign new e =
    by (first_is (only_if (nat_eq sign 44 && not (has_all_flows draft.flows)) (At stages.FlowName given draft)) _ new e)
  where
    by : (only_if (nat_eq sign 44 && not (has_all_flows draft.flows)) (At stages.FlowName given draft) ≡ Some new)
        ⊎ (only_if (nat_eq sign 93) (At stages.Braced given draft) ≡ Some new)
        → kind_of sign ≡ AtSign
    by (inl e) =
        as_sign sign 44 (and_first (nat_eq sign 44) (not (has_all_flows draft.flows))
        (only_is (nat_eq sign 44 && not (has_all_flows draft.flows)) (At stages.FlowName given draft) new e).0) refl
    by (inr e) = as_sign sign 93 (only_is (nat_eq sign 93) (At stages.Braced given draft) new e).0 refl
proper_sign stages.Braced given draft sign new e =
    as_sign sign 123
    (only_is (nat_eq sign 123) (At stages.Items given (record draft { entries = []; pairs = [] })) new e).0 refl
proper_sign stages.Items given draft sign new e =
    as_sign sign 125 (and_first (nat_eq sign 125) (is_nonempty draft.entries)
    (only_is (nat_eq sign 125 && is_nonempty draft.entries) (At stages.Outside given (with_block draft)) new e).0) refl
proper_sign stages.Named given draft sign new e =
    by (first_is (only_if (nat_eq sign 91) (At stages.Attribute (no_attribute given.wide) draft)) _ new e)
  where
    by : (only_if (nat_eq sign 91) (At stages.Attribute (no_attribute given.wide) draft) ≡ Some new)
        ⊎ (only_if (nat_eq sign 60) (At stages.High given draft) ≡ Some new)
        → kind_of sign ≡ AtSign
    by (inl e) =
        as_sign sign 91 (only_is (nat_eq sign 91) (At stages.Attribute (no_attribute given.wide) draft) new e).0 refl
    by (inr e) = as_sign sign 60 (only_is (nat_eq sign 60) (At stages.High given draft) new e).0 refl
proper_sign stages.High given draft sign new e = absurd cc
proper_sign stages.Attribute given draft sign new e = absurd cc
proper_sign (stages.Equals attribute) given draft sign new e =
    as_sign sign 61 (only_is (nat_eq sign 61) (At (stages.Value attribute) given draft) new e).0 refl
proper_sign (stages.Value attribute) given draft sign new e = absurd cc
proper_sign stages.Attributed given draft sign new e =
    by (first_is (only_if (nat_eq sign 44 && not (is_full given)) (At stages.Attribute given draft)) _ new e)
  where
    by : (only_if (nat_eq sign 44 && not (is_full given)) (At stages.Attribute given draft) ≡ Some new)
        ⊎ (only_if (nat_eq sign 93) (At stages.Items given (with_entry given draft)) ≡ Some new)
        → kind_of sign ≡ AtSign
    by (inl e) =
        as_sign sign 44 (and_first (nat_eq sign 44) (not (is_full given))
        (only_is (nat_eq sign 44 && not (is_full given)) (At stages.Attribute given draft) new e).0) refl
    by (inr e) =
        as_sign sign 93 (only_is (nat_eq sign 93) (At stages.Items given (with_entry given draft)) new e).0 refl

-- a lexeme that may come is proper
pub proper : (old : Standing) (lexeme : Lexeme) (new : Standing) → next old lexeme ≡ Some new → IsProper lexeme
proper old (WordLexeme word) new e = proper_word old.stage old.given old.draft word new e
proper old (SignLexeme sign) new e = proper_sign old.stage old.given old.draft sign new e
proper old TextLexeme new e = tt

-- a text that begins on a new line can be read to its end from here
pub record Able (standing : Standing) : Type 0 where
  pub more : List ℕ
  pub all : List BlockView
  pub goes : GoesFrom standing (10 ∷ more) all

-- a reader can be brought to an end where a lexeme that may come leads to one that can
pub able_by : (old : Standing) (lexeme : Lexeme) (new : Standing) (text : List ℕ) → next old lexeme ≡ Some new
    → ((more : List ℕ) → Spells lexeme (text ++ 10 ∷ more) (10 ∷ more)) → Able new → Able old
able_by old lexeme new text e spells a = record {
  more = text ++ 10 ∷ a.more;
  all = a.all;
  goes = leads old lexeme new (10 ∷ text ++ 10 ∷ a.more) (10 ∷ a.more) a.all e
      (record {
        behind = text ++ 10 ∷ a.more;
        gap = Blank 10 (text ++ 10 ∷ a.more) (text ++ 10 ∷ a.more) refl (Nothing (text ++ 10 ∷ a.more));
        spells = spells a.more;
      }) a.goes;
}

able_word : (old : Standing) (word : List ℕ) (new : Standing) → next old (WordLexeme word) ≡ Some new → Able new
    → Able old
able_word old word new e a = able_by old (WordLexeme word) new word e (λ more. (refl, refl)) a

able_sign : (old : Standing) (sign : ℕ) (new : Standing) → next old (SignLexeme sign) ≡ Some new → Able new → Able old
able_sign old sign new e a = able_by old (SignLexeme sign) new (sign ∷ []) e (λ more. refl) a

able_outside : (given : Given) (draft : Draft) → Able (At stages.Outside given draft)
able_outside given draft =
    record { more = []; all = draft.blocks ++ []; goes = ([], End (10 ∷ []) (Blank 10 [] [] refl (Nothing [])), refl) }

-- among items, of which one is there, the text can be brought to an end
able_filled : (given : Given) (draft : Draft) → is_nonempty draft.entries ≡ true → Able (At stages.Items given draft)
able_filled given draft h =
    able_sign (At stages.Items given draft) 125 (At stages.Outside given (with_block draft)) (rw h refl)
    (able_outside given (with_block draft))

-- behind an attribute of an entry the text can be brought to an end
able_attributed : (given : Given) (draft : Draft) → Able (At stages.Attributed given draft)
able_attributed given draft =
    able_sign (At stages.Attributed given draft) 93 (At stages.Items given (with_entry given draft)) refl
    (able_filled given (with_entry given draft) (long draft.entries (entry_of draft.name given)))
  where
    long : (entries : List Entry) (entry : Entry) → is_nonempty (entries ++ entry ∷ []) ≡ true
    long [] entry = refl
    long (e ∷ entries) entry = refl

-- at the value of an entry's attribute the text can be brought to an end
able_value : (attribute : Attribute) (given : Given) (draft : Draft) → Able (At (stages.Value attribute) given draft)
able_value attributes.Level given draft =
    let then = record given { level = Some Ref } in
    able_word (At (stages.Value attributes.Level) given draft) (codes "ref") (At stages.Attributed then draft) refl
    (able_attributed then draft)
able_value attributes.Sign given draft =
    let then = record given { sign = Some Eq } in
    able_word (At (stages.Value attributes.Sign) given draft) (codes "eq") (At stages.Attributed then draft) refl
    (able_attributed then draft)
able_value attributes.Color given draft =
    let then = record given { color = true } in
    able_by (At (stages.Value attributes.Color) given draft) TextLexeme (At stages.Attributed then draft)
    (34 ∷ 34 ∷ []) refl (λ more. ([], refl, refl)) (able_attributed then draft)
able_value attributes.Write given draft =
    let then = record given { write = true } in
    able_word (At (stages.Value attributes.Write) given draft) (codes "yes") (At stages.Attributed then draft) refl
    (able_attributed then draft)
able_value attributes.Deref given draft =
    let then = record given { deref = derefs.Yes } in
    able_word (At (stages.Value attributes.Deref) given draft) (codes "yes") (At stages.Attributed then draft) refl
    (able_attributed then draft)

-- at the `=` of an attribute the text can be brought to an end
able_equals : (attribute : Attribute) (given : Given) (draft : Draft) → Able (At (stages.Equals attribute) given draft)
able_equals attribute given draft =
    able_sign (At (stages.Equals attribute) given draft) 61 (At (stages.Value attribute) given draft) refl
    (able_value attribute given draft)

-- at an attribute of an entry, where one is left, the text can be brought to an end
able_attribute : (given : Given) (draft : Draft) → is_full given ≡ false → Able (At stages.Attribute given draft)
able_attribute given draft h = by_level (is_some given.level) refl
  where
    able_with : (attribute : Attribute) → has_attribute given attribute ≡ false → Able (At stages.Attribute given draft)
    able_with attribute e =
        able_word (At stages.Attribute given draft) (attribute_word attribute)
        (At (stages.Equals attribute) given draft) (rw (named_new given attribute e) refl)
        (able_equals attribute given draft)

    by_deref : (e : is_some given.level ≡ true) (f : is_some given.sign ≡ true) (g : given.color ≡ true)
        (i : given.write ≡ true) (b : Bool)
        → is_deref given.deref ≡ b → Able (At stages.Attribute given draft)
    by_deref e f g i false j = able_with attributes.Deref j
    by_deref e f g i true j =
        let full : is_full given ≡ true = rw (e, f, g, i, j) refl in
        let clash : false ≡ true = sym h ∙ full in
        absurd cc

    by_write : (e : is_some given.level ≡ true) (f : is_some given.sign ≡ true) (g : given.color ≡ true) (b : Bool)
        → given.write ≡ b → Able (At stages.Attribute given draft)
    by_write e f g false j = able_with attributes.Write j
    by_write e f g true j = by_deref e f g j (is_deref given.deref) refl

    by_color : (e : is_some given.level ≡ true) (f : is_some given.sign ≡ true) (b : Bool) → given.color ≡ b
        → Able (At stages.Attribute given draft)
    by_color e f false j = able_with attributes.Color j
    by_color e f true j = by_write e f j given.write refl

    by_sign : (e : is_some given.level ≡ true) (b : Bool) → is_some given.sign ≡ b
        → Able (At stages.Attribute given draft)
    by_sign e false j = able_with attributes.Sign j
    by_sign e true j = by_color e j given.color refl

    by_level : (b : Bool) → is_some given.level ≡ b → Able (At stages.Attribute given draft)
    by_level false j = able_with attributes.Level j
    by_level true j = by_sign j (is_some given.sign) refl

-- behind the name of an entry the text can be brought to an end
able_named : (given : Given) (draft : Draft) → Able (At stages.Named given draft)
able_named given draft =
    able_sign (At stages.Named given draft) 91 (At stages.Attribute (no_attribute given.wide) draft) refl
    (able_attribute (no_attribute given.wide) draft refl)

-- among items the text can be brought to an end
able_items : (given : Given) (draft : Draft) → Able (At stages.Items given draft)
able_items given draft =
    let then = record draft { name = codes "$a" } in
    able_word (At stages.Items given draft) (codes "$a") (At stages.Named given then) refl (able_named given then)

-- at the upper name of an order line the text can be brought to an end
able_high : (given : Given) (draft : Draft) → Able (At stages.High given draft)
able_high given draft =
    let then = record draft { pairs = draft.pairs ++ record { low = draft.name; high = codes "$a" } ∷ [] } in
    able_word (At stages.High given draft) (codes "$a") (At stages.Items given then) refl (able_items given then)

-- where a block opens the text can be brought to an end
able_open : (given : Given) (draft : Draft) → Able (At stages.Open given draft)
able_open given draft =
    let then = record draft { entries = []; pairs = []; flows = no_flows } in
    able_sign (At stages.Open given draft) 123 (At stages.Items given then) refl (able_items given then)

-- at the brace of a block with attributes the text can be brought to an end
able_braced : (given : Given) (draft : Draft) → Able (At stages.Braced given draft)
able_braced given draft =
    let then = record draft { entries = []; pairs = [] } in
    able_sign (At stages.Braced given draft) 123 (At stages.Items given then) refl (able_items given then)

able_flowed : (given : Given) (draft : Draft) → Able (At stages.Flowed given draft)
able_flowed given draft =
    able_sign (At stages.Flowed given draft) 93 (At stages.Braced given draft) refl (able_braced given draft)

-- at the value of a block's attribute the text can be brought to an end
able_flow : (attribute : BlockAttribute) (given : Given) (draft : Draft)
    → Able (At (stages.FlowValue attribute) given draft)
able_flow Ptrflow given draft =
    let then = record draft { flows = record draft.flows { ptr = Some Up } } in
    able_word (At (stages.FlowValue Ptrflow) given draft) (codes "up") (At stages.Flowed given then) refl
    (able_flowed given then)
able_flow Fieldflow given draft =
    let then = record draft { flows = record draft.flows { field = true } } in
    able_word (At (stages.FlowValue Fieldflow) given draft) (codes "down") (At stages.Flowed given then) refl
    (able_flowed given then)

-- at the `=` of an attribute of a block the text can be brought to an end
able_flow_equals : (attribute : BlockAttribute) (given : Given) (draft : Draft)
    → Able (At (stages.FlowEquals attribute) given draft)
able_flow_equals attribute given draft =
    able_sign (At (stages.FlowEquals attribute) given draft) 61 (At (stages.FlowValue attribute) given draft) refl
    (able_flow attribute given draft)

-- at an attribute of a block, where one is left, the text can be brought to an end
able_flows : (given : Given) (draft : Draft) → has_all_flows draft.flows ≡ false → Able (At stages.FlowName given draft)
able_flows given draft h = by_ptr (is_some draft.flows.ptr) refl
  where
    able_with : (attribute : BlockAttribute) → has_flow draft.flows attribute ≡ false
        → Able (At stages.FlowName given draft)
    able_with attribute e =
        able_word (At stages.FlowName given draft) (block_attribute_word attribute)
        (At (stages.FlowEquals attribute) given draft) (rw (flow_new draft.flows attribute e) refl)
        (able_flow_equals attribute given draft)

    by_field : (e : is_some draft.flows.ptr ≡ true) (b : Bool) → draft.flows.field ≡ b
        → Able (At stages.FlowName given draft)
    by_field e false j = able_with Fieldflow j
    by_field e true j =
        let full : has_all_flows draft.flows ≡ true = rw (e, j) refl in
        let clash : false ≡ true = sym h ∙ full in
        absurd cc

    by_ptr : (b : Bool) → is_some draft.flows.ptr ≡ b → Able (At stages.FlowName given draft)
    by_ptr false j = able_with Ptrflow j
    by_ptr true j = by_field j draft.flows.field refl

-- at any stage where the reader is ready the text can be brought to an end
able_at : (stage : Stage) (given : Given) (draft : Draft) → IsReadyAt stage given draft → Able (At stage given draft)
able_at stages.Outside given draft h = able_outside given draft
able_at stages.Order given draft h =
    able_word (At stages.Order given draft) (codes "order") (At stages.Open given draft) refl (able_open given draft)
able_at stages.Open given draft h = able_open given draft
able_at stages.FlowName given draft h = able_flows given draft h
able_at (stages.FlowEquals attribute) given draft h = able_flow_equals attribute given draft
able_at (stages.FlowValue attribute) given draft h = able_flow attribute given draft
able_at stages.Flowed given draft h = able_flowed given draft
able_at stages.Braced given draft h = able_braced given draft
able_at stages.Items given draft h = able_items given draft
able_at stages.Named given draft h = able_named given draft
able_at stages.High given draft h = able_high given draft
able_at stages.Attribute given draft h = able_attribute given draft h
able_at (stages.Equals attribute) given draft h = able_equals attribute given draft
able_at (stages.Value attribute) given draft h = able_value attribute given draft
able_at stages.Attributed given draft h = able_attributed given draft

pub able : (standing : Standing) → IsReady standing → Able standing
able standing h = able_at standing.stage standing.given standing.draft h
