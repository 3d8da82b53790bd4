-- Where clap's walk stands, by the pieces that it has read.
use Rattle.std.proofs.Common.{refl, sym, ap, ◌≡◌, ◌∙◌, ◌++◌, Bool, true, false, cond, List, [], ◌∷◌, Option, Some}
use Rattle.std.proofs.Common.{None, true≢false, append-nil, append_assoc}
use Rattle.std.specs.Option.{option_map_or}
use Rattle.clap.specs.Walk.{Held, Waiting, Walk, has_row, idle, option, option_word, plain_word, positional, next, settled}
use Rattle.clap.specs.Walk.{settled_rows, used, used_by_id}
use Rattle.clap.specs.Faults.{settle_fault, use_fault}
use Rattle.clap.specs.declared.error.kind.ErrorKind.TheVariants as kind
use Rattle.cqual_words.specs.Words.{Key, Part, Piece, Text, Valued, Source, Value, Plain, is_part, key_name, name_of, part_of, task_in}
use Rattle.cqual_words.specs.Words.{text_of, texts_of}
use Rattle.cqual_words.proofs.Pieces.{has_any, has_row_is, is_option, part_same, rows_at, rows_more, same_part, texts_append, twice}
use Rattle.cqual_words.proofs.Pieces.{with_piece}
use Rattle.cqual_words.proofs.Rules.{Hand, OfKey, OfSource, all_rules, by_id, key_again, key_fine, none_faulty, piece_of, rule_for}
use Rattle.cqual_words.proofs.Rules.{source_fine, used_key, used_source}

-- what waits behind the pieces that clap has used: nothing, a piece that comes with the next flag or word, or an option
-- whose value is to come
pub data Pend : Type 0 where
  Free : Pend
  Holds : Hand → Pend
  Wants : Key → Pend

-- the id and the texts that wait to be used, by the piece that waits
abbrev pub pending_at : Pend → Option (Text × List Text)
pending_at Free = None
pending_at (Holds hand) = Some (name_of (part_of (piece_of hand)), text_of (piece_of hand) ∷ [])
pending_at (Wants key) = Some (key_name key, [])

-- what the walk waits for, by the piece that waits
abbrev pub waits_for : Pend → Waiting
waits_for Free = idle
waits_for (Holds (OfKey key text)) = idle
waits_for (Holds (OfSource text)) = positional
waits_for (Wants key) = option (key_name key)

-- all pieces that were read
abbrev pub all_at : List Piece → Pend → List Piece
all_at ps Free = ps
all_at ps (Holds hand) = ps ++ piece_of hand ∷ []
all_at ps (Wants key) = ps

abbrev pub held_at : List Piece → Pend → Held
held_at ps pend = record { rows = rows_at ps; pending = pending_at pend; skip = 0 }

-- the words that are no options all go to the one place for them
abbrev pub walk_at : Held → Waiting → Bool → Walk
walk_at h waiting is_trailing =
    record { held = h; waiting = waiting; position = 1; is_trailing = is_trailing; stopped = None }

-- ---- each option and each flag once

-- whether there is at most one text
abbrev pub is_once : List Text → Bool
is_once [] = true
is_once (t ∷ []) = true
is_once (t ∷ s ∷ ts) = false

abbrev pub OnceEach : List Piece → Type 0
OnceEach ps = (a : Part) → is_option a ≡ true → is_once (texts_of a ps) ≡ true

none_there : (xs : List Text) (t : Text) → has_any xs ≡ false → is_once (xs ++ t ∷ []) ≡ true
none_there [] t h = refl
none_there (x ∷ xs) t h = absurd (true≢false h)

-- a piece of an option that has no row yet keeps each option standing once
pub once_more : (ps : List Piece) (p : Piece) → OnceEach ps
    → (is_option (part_of p) ≡ true → has_row (name_of (part_of p)) (rows_at ps) ≡ false) → OnceEach (ps ++ p ∷ [])
once_more ps p once none a once_only = ap is_once (texts_append a ps (p ∷ [])) ∙ go (is_part (part_of p) a) refl
  where
    go : (b : Bool) → is_part (part_of p) a ≡ b → is_once (texts_of a ps ++ cond b (text_of p ∷ []) []) ≡ true
    go false e = ap is_once (append-nil (texts_of a ps)) ∙ once a once_only
    go true e =
        let same = same_part (part_of p) a e in
        none_there (texts_of a ps) (text_of p) (ap (λ c. has_any (texts_of c ps)) (sym same)
        ∙ sym (has_row_is (part_of p) ps)
        ∙ none (ap is_option same ∙ once_only))

-- ---- the use of the piece that waits

pub data Settling (ps : List Piece) (pend : Pend) : Type 0 where
  -- nothing waits, or it is used: an option that stands once, or a word that is no option
  Settles : settle_fault all_rules false (held_at ps pend) ≡ []
      → settled all_rules (held_at ps pend) ≡ held_at (all_at ps pend) Free
      → OnceEach (all_at ps pend) → Settling ps pend
  -- it is an option that was there before
  Repeats : settle_fault all_rules false (held_at ps pend) ≡ kind.ArgumentConflict ∷ [] → ((more : List Piece)
      → task_in (all_at ps pend ++ more) ≡ None)
      → Settling ps pend
  -- it is an option without its value
  Lacks : (key : Key) → pend ≡ Wants key → settle_fault all_rules false (held_at ps pend) ≡ kind.InvalidValue ∷ []
      → Settling ps pend

settle_uses : (ps : List Piece) (a : Part) (texts : List Text)
    → settle_fault all_rules false (record { rows = rows_at ps; pending = Some (name_of a, texts); skip = 0 })
    ≡ use_fault false
    (rule_for a) texts (rows_at ps)
settle_uses ps a texts = ap (λ o. option_map_or (λ r. use_fault false r texts (rows_at ps)) o []) (by_id a)

settled_uses : (ps : List Piece) (a : Part) (texts : List Text)
    → settled_rows all_rules (Some (name_of a, texts)) (rows_at ps) ≡ used (rule_for a) texts (rows_at ps)
settled_uses ps a texts = ap (λ o. used_by_id o texts (rows_at ps)) (by_id a)

pub wants_fault : (ps : List Piece) (key : Key)
    → settle_fault all_rules false (held_at ps (Wants key)) ≡ kind.InvalidValue ∷ []
wants_fault ps key = settle_uses ps (Valued key) [] ∙ none_faulty key (rows_at ps)

-- a piece that waits is used with those before it
held_more : (ps : List Piece) (hand : Hand)
    → used (rule_for (part_of (piece_of hand))) (text_of (piece_of hand) ∷ []) (rows_at ps)
    ≡ with_piece (rows_at ps) (piece_of hand)
    → settled all_rules (held_at ps (Holds hand)) ≡ held_at (all_at ps (Holds hand)) Free
held_more ps hand e = ap (λ rs. record { rows = rs; pending = None; skip = 0 })
    (settled_uses ps (part_of (piece_of hand)) (text_of (piece_of hand) ∷ []) ∙ e ∙ sym (rows_more ps (piece_of hand)))

-- the piece that waits is used, or it is an option that was there before or lacks its value
pub settling : (ps : List Piece) (pend : Pend) → OnceEach ps → Settling ps pend
settling ps Free once = Settles refl refl once
settling ps (Wants key) once = Lacks key refl (wants_fault ps key)
settling ps (Holds (OfSource text)) once = Settles (settle_uses ps Source (text ∷ []) ∙ source_fine text (rows_at ps))
    (held_more ps (OfSource text) (used_source text (rows_at ps)))
    (once_more ps (Plain text) once (λ none. absurd (true≢false (sym none))))
settling ps (Holds (OfKey key text)) once = go (has_row (key_name key) (rows_at ps)) refl
  where
    go : (b : Bool) → has_row (key_name key) (rows_at ps) ≡ b → Settling ps (Holds (OfKey key text))
    go false e = Settles (settle_uses ps (Valued key) (text ∷ []) ∙ key_fine key text (rows_at ps) e)
        (held_more ps (OfKey key text) (used_key key text (rows_at ps) e))
        (once_more ps (Value key text) once (λ _. e))
    go true e = Repeats (settle_uses ps (Valued key) (text ∷ []) ∙ key_again key text (rows_at ps) e)
        (λ more. ap task_in (append_assoc ps (Value key text ∷ []) more) ∙ twice ps (Value key text) more refl e)

-- the value of an option that waits for it
pub value_read : (ps : List Piece) (key : Key) (word : Text)
    → plain_word all_rules (option (key_name key)) word (held_at ps (Wants key))
    ≡ (held_at ps (Holds (OfKey key word)), next idle)
value_read ps key word =
    ap (λ o. (
      (option_word o (key_name key) word (held_at ps (Wants key))).0,
      next (option_word o (key_name key) word (held_at ps (Wants key))).1,
    )) (by_id (Valued key)) ∙ rw (part_same (Valued key)) refl
