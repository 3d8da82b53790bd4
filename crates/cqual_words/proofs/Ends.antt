-- What the matches ask at the end of the words, where each option and each flag stands once.
use Rattle.std.proofs.Common.{refl, sym, ap, ap₂, ◌≡◌, ◌∙◌, ◌&&◌, ◌||◌, ◌++◌, Bool, true, false, cond, map, List, [], ◌∷◌, Option}
use Rattle.std.proofs.Common.{Some, None, true≢false, fold, is_some, option_map}
use Rattle.std.specs.Prelude.{option_and_then, slice_get, codes, length, nat_le}
use Rattle.std.specs.List.{find, list_all}
use Rattle.std.specs.Str.{bytes_eq}
use Rattle.clap.specs.Values.{bool_text, read_as}
use Rattle.clap.specs.Walk.{Row, all_of, first_of, has_row, is_empty, more_values, one_of, row_text, with_default, with_values}
use Rattle.clap.specs.Faults.{default_fault, defaults_fault, check_fault, given_default_fault}
use Rattle.clap.specs.declared.parser.matches.ValueSource.{ValueSource}
use Rattle.clap.specs.declared.parser.matches.ValueSource.TheVariants.{CommandLine, DefaultValue}
use Rattle.clap.specs.declared.builder.value_parser.Reading.TheVariants.{AsWritten}
use Rattle.cqual_words.specs.Words.{Flag, Key, Part, Piece, Task, Text, Valued, Flagged, Source, Plain, Set, Value, are_fit, flag_name}
use Rattle.cqual_words.specs.Words.{has_meaning, is_part, key_name, name_of, part_of, parts, stands_among, task_in, task_of_parts}
use Rattle.cqual_words.specs.Words.{text_of, texts_of, value_among}
use Rattle.cqual_words.specs.Tool.{asked_by, fits_part, is_fit, plain_texts, sources_of}
use Rattle.cqual_words.proofs.Pieces.{all_more, all_other, fails, first_by, first_in, first_joined, found, is_id, joined, part_same}
use Rattle.cqual_words.proofs.Pieces.{plain_are, rows_at, same_part, some_row, texts_are, with_piece}
use Rattle.cqual_words.proofs.Rules.{all_rules, rule_for, shape}
use Rattle.cqual_words.proofs.States.{OnceEach, is_once}

-- the rows at the end: a flag that does not stand among the words gets the text `false`
abbrev pub end_rows : List Row → List Row
end_rows rows = fold with_default rows all_rules

-- ---- no default is at fault

-- the default of a part, a flag's `false` or none, is not at fault
fine_default : (rows : List Row) (a : Part) → default_fault rows (rule_for a) ≡ []
fine_default rows a = go (has_row (rule_for a).id rows || is_empty (rule_for a).defaults)
  where
    fine : (b : Part) → given_default_fault (rule_for b) (rule_for b).defaults ≡ []
    fine (Valued key) = refl
    fine (Flagged flag) = refl
    fine Source = refl

    go : (b : Bool) → cond b [] (given_default_fault (rule_for a) (rule_for a).defaults) ≡ []
    go true = refl
    go false = fine a

all_fine : (bs : List Part) (rows : List Row) → defaults_fault rows (map rule_for bs) ≡ []
unfolding defaults_fault
all_fine [] rows = refl
all_fine (b ∷ bs) rows = rw (fine_default rows b) (all_fine bs (with_default rows (rule_for b)))

pub defaults_fine : (rows : List Row) → defaults_fault rows all_rules ≡ []
defaults_fine rows = all_fine parts rows

pub check_fine : (rows : List Row) → check_fault shape rows false ≡ []
check_fine rows = refl

-- ---- the texts of a part at the end

abbrev off_rows : Flag → List Row → List Row
off_rows flag rows = with_values (flag_name flag) AsWritten DefaultValue (codes "false" ∷ []) rows

-- the texts of a part, with the default of a flag
abbrev with_off : Part → Option (List Text) → Option (List Text)
with_off (Valued key) texts = texts
with_off (Flagged flag) None = Some (codes "false" ∷ [])
with_off (Flagged flag) (Some texts) = Some texts
with_off Source texts = texts

-- giving a part its default twice is giving it once
off_again : (a : Part) (texts : Option (List Text)) → with_off a (with_off a texts) ≡ with_off a texts
off_again (Valued key) texts = refl
off_again (Flagged flag) None = refl
off_again (Flagged flag) (Some texts) = refl
off_again Source texts = refl

cond_same : {X : Type 0} (b : Bool) (x : X) → cond b x x ≡ x
cond_same true x = refl
cond_same false x = refl

-- the default of the part itself
own_default : (a : Part) (rows : List Row)
    → all_of (name_of a) (with_default rows (rule_for a)) ≡ with_off a (all_of (name_of a) rows)
own_default (Valued key) rows = ap (all_of (key_name key)) (cond_same (has_row (key_name key) rows) rows)
own_default Source rows = ap (all_of (codes "source")) (cond_same (has_row (codes "source") rows) rows)
own_default (Flagged flag) rows =
    go (has_row (flag_name flag) rows) (all_of (flag_name flag) rows) (some_row (flag_name flag) rows)
    (all_more (flag_name flag) DefaultValue (codes "false") rows (part_same (Flagged flag))) refl
  where
    go : (b : Bool) (o : Option (List Text)) → b ≡ is_some o
        → all_of (flag_name flag) (off_rows flag rows) ≡ Some (plain_texts o ++ codes "false" ∷ [])
        → all_of (flag_name flag) rows ≡ o
        → all_of (flag_name flag) (cond b rows (off_rows flag rows)) ≡ with_off (Flagged flag) o
    go true None e more is = absurd (true≢false e)
    go true (Some texts) e more is = is
    go false None e more is = more
    go false (Some texts) e more is = absurd (true≢false (sym e))

-- and that of another part
other_default : (a b : Part) (rows : List Row) → is_part b a ≡ false
    → all_of (name_of a) (with_default rows (rule_for b)) ≡ all_of (name_of a) rows
other_default a (Valued key) rows other = ap (all_of (name_of a)) (cond_same (has_row (key_name key) rows) rows)
other_default a Source rows other = ap (all_of (name_of a)) (cond_same (has_row (codes "source") rows) rows)
other_default a (Flagged flag) rows other = go (has_row (flag_name flag) rows)
  where
    go : (b : Bool) → all_of (name_of a) (cond b rows (off_rows flag rows)) ≡ all_of (name_of a) rows
    go true = refl
    go false = all_other (flag_name flag) (name_of a) DefaultValue (codes "false") rows other

-- the defaults of some parts, by whether this part is among them
texts_behind : (a : Part) (bs : List Part) (rows : List Row)
    → all_of (name_of a) (fold with_default rows (map rule_for bs))
    ≡ cond (is_some (find (λ b. is_part b a) bs)) (with_off a (all_of (name_of a) rows)) (all_of (name_of a) rows)
texts_behind a [] rows = refl
texts_behind a (b ∷ bs) rows = texts_behind a bs (with_default rows (rule_for b)) ∙ go (is_part b a) refl
  where
    before : Option (List Text)
    before = all_of (name_of a) rows

    after : Option (List Text)
    after = all_of (name_of a) (with_default rows (rule_for b))

    own : is_part b a ≡ true → after ≡ with_off a before
    own e = ap (λ c. all_of (name_of a) (with_default rows (rule_for c))) (same_part b a e) ∙ own_default a rows

    twice_off : (c : Bool) → cond c (with_off a (with_off a before)) (with_off a before) ≡ with_off a before
    twice_off true = off_again a before
    twice_off false = refl

    go : (t : Bool) → is_part b a ≡ t → cond (is_some (find (λ c. is_part c a) bs)) (with_off a after) after
        ≡ cond (is_some (cond t (Some b) (find (λ c. is_part c a) bs))) (with_off a before) before
    go true e = ap (λ o. cond (is_some (find (λ c. is_part c a) bs)) (with_off a o) o) (own e)
        ∙ twice_off (is_some (find (λ c. is_part c a) bs))
    go false e = ap (λ o. cond (is_some (find (λ c. is_part c a) bs)) (with_off a o) o) (other_default a b rows e)

-- at the end the texts of a part are those among the pieces, and `false` for a flag that does not stand
end_texts : (a : Part) (ps : List Piece)
    → all_of (name_of a) (end_rows (rows_at ps)) ≡ with_off a (joined None (texts_of a ps))
end_texts a ps = texts_behind a parts (rows_at ps)
    ∙ ap
    (λ o. cond (is_some o) (with_off a (all_of (name_of a) (rows_at ps))) (all_of (name_of a) (rows_at ps))) (found a)
    ∙ ap (with_off a) (texts_are a ps)

-- ---- a flag that stands has the text `true`

-- whether a part is a flag
abbrev is_flagged : Part → Bool
is_flagged (Valued key) = false
is_flagged (Flagged flag) = true
is_flagged Source = false

-- a piece that is a flag has the text `true`
says_true : (p : Piece) (flag : Flag) → part_of p ≡ Flagged flag → text_of p ≡ codes "true"
says_true (Set other) flag e = refl
says_true (Value key text) flag e = absurd (true≢false (sym (ap is_flagged e)))
says_true (Plain word) flag e = absurd (true≢false (sym (ap is_flagged e)))

-- all texts of a flag among pieces are `true`
flag_texts : (flag : Flag) (ps : List Piece)
    → texts_of (Flagged flag) ps ≡ map (λ _. codes "true") (texts_of (Flagged flag) ps)
flag_texts flag [] = refl
flag_texts flag (p ∷ ps) = go (is_part (part_of p) (Flagged flag)) refl (flag_texts flag ps)
  where
    go : (b : Bool) → is_part (part_of p) (Flagged flag) ≡ b
        → texts_of (Flagged flag) ps ≡ map (λ _. codes "true") (texts_of (Flagged flag) ps)
        → cond b (text_of p ∷ texts_of (Flagged flag) ps) (texts_of (Flagged flag) ps)
        ≡ map (λ _. codes "true") (cond b (text_of p ∷ texts_of (Flagged flag) ps) (texts_of (Flagged flag) ps))
    go true e next = ap₂ (λ t ts. t ∷ ts) (says_true p flag (same_part (part_of p) (Flagged flag) e)) next
    go false e next = next

-- ---- each text reads as it was written

abbrev AreWritten : List Row → Type 0
AreWritten [] = Unit {0}
AreWritten (r ∷ rows) = (r.reading ≡ AsWritten) × AreWritten rows

-- a new text that reads as it was written leaves all rows reading so
values_written : (id : Text) (s : ValueSource) (t : Text) (rows : List Row) → AreWritten rows
    → AreWritten (with_values id AsWritten s (t ∷ []) rows)
values_written id s t [] all = (refl, tt)
values_written id s t (r ∷ rows) all = go (bytes_eq r.id id) (values_written id s t rows all.1)
  where
    go : (b : Bool) → AreWritten (with_values id AsWritten s (t ∷ []) rows)
        → AreWritten (cond b (more_values s (t ∷ []) r ++ rows) (r ∷ with_values id AsWritten s (t ∷ []) rows))
    go true next = all
    go false next = (all.0, next)

-- rows of pieces read as they were written
pieces_written : (ps : List Piece) (rows : List Row) → AreWritten rows → AreWritten (fold with_piece rows ps)
pieces_written [] rows all = all
pieces_written (p ∷ ps) rows all =
    pieces_written ps (with_piece rows p) (values_written (name_of (part_of p)) CommandLine (text_of p) rows all)

-- the default of a part leaves all rows reading as they were written
default_written : (a : Part) (rows : List Row) → AreWritten rows → AreWritten (with_default rows (rule_for a))
default_written (Valued key) rows all = go (has_row (key_name key) rows)
  where
    go : (b : Bool) → AreWritten (cond b rows rows)
    go true = all
    go false = all
default_written (Flagged flag) rows all = go (has_row (flag_name flag) rows)
  where
    go : (b : Bool) → AreWritten (cond b rows (off_rows flag rows))
    go true = all
    go false = values_written (flag_name flag) DefaultValue (codes "false") rows all
default_written Source rows all = go (has_row (codes "source") rows)
  where
    go : (b : Bool) → AreWritten (cond b rows rows)
    go true = all
    go false = all

end_written : (bs : List Part) (rows : List Row) → AreWritten rows
    → AreWritten (fold with_default rows (map rule_for bs))
end_written [] rows all = all
end_written (b ∷ bs) rows all = end_written bs (with_default rows (rule_for b)) (default_written b rows all)

-- a row that reads as it was written has its first value as its text
row_written : (r : Row) → r.reading ≡ AsWritten → row_text r ≡ slice_get r.values 0
row_written r e = ap (λ how. option_map (read_as how) (slice_get r.values 0)) e ∙ go (slice_get r.values 0)
  where
    go : (o : Option Text) → option_map (λ t. t) o ≡ o
    go None = refl
    go (Some t) = refl

-- where rows read as they were written, the one text of an id is its first value
one_written : (id : Text) (rows : List Row) → AreWritten rows → one_of id rows ≡ first_of id rows
one_written id [] all = refl
one_written id (r ∷ rows) all = go (bytes_eq r.id id) (one_written id rows all.1)
  where
    go : (b : Bool) → one_of id rows ≡ first_of id rows
        → option_and_then row_text (cond b (Some r) (find (is_id id) rows))
        ≡ option_and_then (λ (x : Row). slice_get x.values 0) (cond b (Some r) (find (is_id id) rows))
    go true e = row_written r all.0
    go false e = e

-- ---- what the matches say of each part

-- of a flag, whether it stands
pub flag_reads : (ps : List Piece) (flag : Flag)
    → one_of (flag_name flag) (end_rows (rows_at ps)) ≡ Some (bool_text (stands_among ps flag))
flag_reads ps flag =
    one_written (flag_name flag) (end_rows (rows_at ps)) (end_written parts (rows_at ps) (pieces_written ps [] tt))
    ∙ first_by (flag_name flag) (end_rows (rows_at ps)) ∙ ap first_in (end_texts (Flagged flag) ps)
    ∙ go (texts_of (Flagged flag) ps) (flag_texts flag ps)
  where
    go : (ts : List Text) → ts ≡ map (λ _. codes "true") ts
        → first_in (with_off (Flagged flag) (joined None ts)) ≡ Some (bool_text (is_some (slice_get ts 0)))
    go [] e = refl
    go (t ∷ ts) e = ap (λ xs. slice_get xs 0) e

-- of an option, its first value
value_is : (ps : List Piece) (key : Key) → first_of (key_name key) (end_rows (rows_at ps)) ≡ value_among ps key
value_is ps key = first_by (key_name key) (end_rows (rows_at ps)) ∙ ap first_in (end_texts (Valued key) ps)
    ∙ first_joined (texts_of (Valued key) ps)

sources_given : (ps : List Piece) → plain_texts (all_of (codes "source") (end_rows (rows_at ps))) ≡ texts_of Source ps
sources_given ps = ap plain_texts (end_texts Source ps ∙ sym (texts_are Source ps)) ∙ plain_are ps

-- ---- the parts together

-- the texts of options and flags are fit
abbrev options_fit : List Piece → Part → Bool
options_fit ps (Valued key) = are_fit (Valued key) (texts_of (Valued key) ps)
options_fit ps (Flagged flag) = are_fit (Flagged flag) (texts_of (Flagged flag) ps)
options_fit ps Source = true

-- an option with at most one text is fit just if that text has a meaning
fit_once : (ts : List Text) → is_once ts ≡ true
    → is_fit (slice_get ts 0) ≡ (list_all has_meaning ts && nat_le (length ts) 1)
fit_once [] h = refl
fit_once (t ∷ []) h = go (has_meaning t)
  where
    go : (b : Bool) → b ≡ ((b && true) && true)
    go true = refl
    go false = refl
fit_once (t ∷ s ∷ ts) h = absurd (true≢false (sym h))

-- a flag with at most one text, which is `true`, is fit
flag_fit : (ts : List Text) → ts ≡ map (λ _. codes "true") ts → is_once ts ≡ true
    → true ≡ (list_all has_meaning ts && nat_le (length ts) 1)
flag_fit [] e h = refl
flag_fit (t ∷ []) e h = ap (λ xs. list_all has_meaning xs && true) (sym e)
flag_fit (t ∷ s ∷ ts) e h = absurd (true≢false (sym h))

abbrev first_at : List Piece → Text → Option Text
first_at ps id = first_of id (end_rows (rows_at ps))

-- where each option stands once, a part among the matches is fit just if its texts among the pieces are
part_fits : (ps : List Piece) → OnceEach ps → (a : Part) → fits_part (first_at ps) a ≡ options_fit ps a
part_fits ps once (Valued key) =
    ap is_fit (value_is ps key) ∙ fit_once (texts_of (Valued key) ps) (once (Valued key) refl)
part_fits ps once (Flagged flag) = flag_fit (texts_of (Flagged flag) ps) (flag_texts flag ps) (once (Flagged flag) refl)
part_fits ps once Source = refl

-- what the pieces ask, with the sources looked at first
sources_first : (ps : List Piece)
    → option_and_then
    (λ sources. cond (list_all (options_fit ps) parts) (task_of_parts (value_among ps) (stands_among ps) sources) None)
    (sources_of (texts_of Source ps)) ≡ task_in ps
sources_first ps = go (are_fit Source (texts_of Source ps)) refl
  where
    asked : Bool → List Text → Option Task
    asked b sources = cond b (task_of_parts (value_among ps) (stands_among ps) sources) None

    same : are_fit Source (texts_of Source ps) ≡ true → (a : Part) → options_fit ps a ≡ are_fit a (texts_of a ps)
    same e (Valued key) = refl
    same e (Flagged flag) = refl
    same e Source = sym e

    go : (b : Bool) → are_fit Source (texts_of Source ps) ≡ b
        → option_and_then (λ sources. asked (list_all (options_fit ps) parts) sources)
        (cond b (Some (texts_of Source ps)) None)
        ≡ asked (list_all (λ a. are_fit a (texts_of a ps)) parts) (texts_of Source ps)
    go true e = λ i. asked (list_all (λ a. same e a i) parts) (texts_of Source ps)
    go false e = ap (λ b. asked b (texts_of Source ps)) (sym (fails (λ a. are_fit a (texts_of a ps)) Source e))

-- where each option stands once, the matches at the end ask what the pieces ask
pub asked_is : (ps : List Piece) → OnceEach ps
    → asked_by (stands_among ps) (first_at ps) (all_of (codes "source") (end_rows (rows_at ps))) ≡ task_in ps
asked_is ps once =
    (λ i. option_and_then (λ sources. cond (list_all (λ a. part_fits ps once a i) parts)
    (task_of_parts (λ key. value_is ps key i) (stands_among ps) sources) None) (sources_of (sources_given ps i)))
    ∙ sources_first ps
