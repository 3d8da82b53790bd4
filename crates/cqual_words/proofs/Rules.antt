-- clap's rules for the parts, and one use of each.
use Rattle.std.proofs.Common.{refl, sym, ap, ◌≡◌, ◌∙◌, ◌&&◌, ◌||◌, ◌++◌, Bool, true, false, cond, map, List, [], ◌∷◌, Some}
use Rattle.std.proofs.Common.{true≢false, append-nil}
use Rattle.std.specs.Prelude.{find, is_some, not, option_map}
use Rattle.std.specs.Str.{bytes_eq}
use Rattle.clap.specs.Walk.{Row, Rule, arg_by_id, arg_by_long, at_row, has_long, has_row, used, without}
use Rattle.clap.specs.Simple.{Shape, built, filled, with_index}
use Rattle.clap.specs.Faults.{use_fault}
use Rattle.clap.specs.declared.error.kind.ErrorKind.TheVariants as kind
use Rattle.clap.proofs.WalkLemmas.{find-map}
use Rattle.cqual_words.specs.Words.{Flag, Key, Part, Piece, Text, Valued, Flagged, Source, Plain, Set, Value, flag_name, key_name}
use Rattle.cqual_words.specs.Words.{name_of, named, parts, spells}
use Rattle.cqual_words.specs.Tool.{rule_of_part, tool}
use Rattle.cqual_words.proofs.Pieces.{found, with_piece}

-- the filled rule of a part, as the parser has it
abbrev pub rule_for : Part → Rule
rule_for (Valued key) = filled (rule_of_part (Valued key))
rule_for (Flagged flag) = filled (rule_of_part (Flagged flag))
rule_for Source = with_index 1 (filled (rule_of_part Source))

abbrev pub shape : Shape
shape = (built tool).top

abbrev pub all_rules : List Rule
all_rules = map rule_for parts

-- ---- rows

-- a change at an id without a row puts what is missing behind the rows
pub at_none : (id : Text) (change : Row → List Row) (missing rows : List Row) → has_row id rows ≡ false
    → at_row id change missing rows ≡ rows ++ missing
at_none id change missing [] h = refl
at_none id change missing (r ∷ rows) h = go (bytes_eq r.id id) h (at_none id change missing rows)
  where
    go : (b : Bool) → (b || has_row id rows) ≡ false
        → (has_row id rows ≡ false → at_row id change missing rows ≡ rows ++ missing)
        → cond b (change r ++ rows) (r ∷ at_row id change missing rows) ≡ r ∷ rows ++ missing
    go true h next = absurd (true≢false h)
    go false h next = ap (λ rs. r ∷ rs) (next h)

-- where an id has no row, none goes
pub without_none : (id : Text) (rows : List Row) → has_row id rows ≡ false → without id rows ≡ rows
without_none id rows h = at_none id (λ _. []) [] rows h ∙ append-nil rows

-- ---- the parts that wait for their use: an option with its value, or a word that is none
pub data Hand : Type 0 where
  OfKey : Key → Text → Hand
  OfSource : Text → Hand

abbrev pub piece_of : Hand → Piece
piece_of (OfKey key text) = Value key text
piece_of (OfSource text) = Plain text

-- a use of an option that is not there yet adds its row
pub used_key : (key : Key) (text : Text) (rows : List Row) → has_row (key_name key) rows ≡ false
    → used (rule_for (Valued key)) (text ∷ []) rows ≡ with_piece rows (Value key text)
used_key key text rows h = ap (λ rs. with_piece rs (Value key text)) (without_none (key_name key) rows h)

-- and so does a use of a flag
pub used_flag : (flag : Flag) (rows : List Row) → has_row (flag_name flag) rows ≡ false
    → used (rule_for (Flagged flag)) [] rows ≡ with_piece rows (Set flag)
used_flag flag rows h = ap (λ rs. with_piece rs (Set flag)) (without_none (flag_name flag) rows h)

-- a word that is no option joins those before it
pub used_source : (text : Text) (rows : List Row)
    → used (rule_for Source) (text ∷ []) rows ≡ with_piece rows (Plain text)
used_source text rows = refl

-- the faults of these uses
pub key_fine : (key : Key) (text : Text) (rows : List Row) → has_row (key_name key) rows ≡ false
    → use_fault false (rule_for (Valued key)) (text ∷ []) rows ≡ []
key_fine key text rows h = rw h refl

pub key_again : (key : Key) (text : Text) (rows : List Row) → has_row (key_name key) rows ≡ true
    → use_fault false (rule_for (Valued key)) (text ∷ []) rows ≡ kind.ArgumentConflict ∷ []
key_again key text rows h = rw h refl

pub source_fine : (text : Text) (rows : List Row) → use_fault false (rule_for Source) (text ∷ []) rows ≡ []
source_fine text rows = refl

pub flag_fine : (flag : Flag) (rows : List Row) → has_row (flag_name flag) rows ≡ false
    → use_fault false (rule_for (Flagged flag)) [] rows ≡ []
flag_fine flag rows h = rw h refl

pub flag_again : (flag : Flag) (rows : List Row) → has_row (flag_name flag) rows ≡ true
    → use_fault false (rule_for (Flagged flag)) [] rows ≡ kind.ArgumentConflict ∷ []
flag_again flag rows h = rw h refl

-- an option that has no value
pub none_faulty : (key : Key) (rows : List Row)
    → use_fault false (rule_for (Valued key)) [] rows ≡ kind.InvalidValue ∷ []
none_faulty key rows = refl

-- ---- look-ups

-- the rule that passes a test is that of the part whose rule does
rule_found : (test : Rule → Bool) → find test all_rules ≡ option_map rule_for (find (λ a. test (rule_for a)) parts)
rule_found test = sym (find-map test rule_for parts)

-- the part of a name has the rule of that name
pub by_id : (a : Part) → arg_by_id all_rules (name_of a) ≡ Some (rule_for a)
by_id a = rule_found (λ r. bytes_eq r.id (name_of a))
    ∙ ap (option_map rule_for) ((λ i. find (λ b. bytes_eq (id_is b i) (name_of a)) parts) ∙ found a)
  where
    id_is : (b : Part) → (rule_for b).id ≡ name_of b
    id_is (Valued key) = refl
    id_is (Flagged flag) = refl
    id_is Source = refl

or_false : (b : Bool) → (b || false) ≡ b
or_false true = refl
or_false false = refl

-- a name finds the rule of its option or flag
pub by_name : (name : Text) → arg_by_long all_rules name ≡ option_map rule_for (named name)
by_name name = rule_found (λ r. not (is_some r.index) && has_long r name)
    ∙ ap (option_map rule_for) (λ i. find (λ b. spelt b i) parts)
  where
    spelt : (b : Part) → (not (is_some (rule_for b).index) && has_long (rule_for b) name) ≡ spells name b
    spelt (Valued key) = or_false (bytes_eq (key_name key) name)
    spelt (Flagged flag) = or_false (bytes_eq (flag_name flag) name)
    spelt Source = refl
