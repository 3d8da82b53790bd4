-- The induction over the words.
use Rattle.std.proofs.Common.{refl, sym, ap, ap₂, subst, ◌≡◌, ◌∙◌, ◌++◌, Bool, true, false, cond, List, [], ◌∷◌, Option, Some}
use Rattle.std.proofs.Common.{None, true≢false, append-nil, append_assoc}
use Rattle.std.specs.Prelude.{find, option_map}
use Rattle.std.specs.Str.{bytes_eq}
use Rattle.std.proofs.lemmas.Option.{none-some, same_Some}
use Rattle.clap.specs.Lexer.{long_of}
use Rattle.clap.specs.Walk.{Held, Outcome, Row, Rule, Step, Waiting, after_flag, done, has_row, idle, long_met, next, option, plain_word}
use Rattle.clap.specs.Walk.{positional, reacted, settled, used, value, waits}
use Rattle.clap.specs.Faults.{long_fault, react_fault, settle_fault, use_fault}
use Rattle.clap.specs.Kinds.{or_else}
use Rattle.clap.specs.declared.error.kind.ErrorKind.{ErrorKind}
use Rattle.clap.specs.declared.error.kind.ErrorKind.TheVariants as kind
use Rattle.cqual_words.specs.Words.{Flag, Key, Part, Piece, Task, Text, Word, Valued, Flagged, Source, Plain, Set, Value, Whole}
use Rattle.cqual_words.specs.Words.{flag_name, has_meaning, key_name, name_of, named, option_word, part_of, parts, pieces_from}
use Rattle.cqual_words.specs.Words.{spells, task_in, with_word, word_of}
use Rattle.cqual_words.proofs.Pieces.{rows_at, rows_more, spoilt, twice, with_piece}
use Rattle.cqual_words.proofs.Rules.{OfKey, OfSource, all_rules, by_name, flag_again, flag_fine, key_again, key_fine, piece_of}
use Rattle.cqual_words.proofs.Rules.{rule_for, used_flag, used_key}
use Rattle.cqual_words.proofs.Lexing.{Looks, Dashes, Long, Short, Other, ReadsShort, Refuses, Passes, dashes_fine, dashes_met, faults}
use Rattle.cqual_words.proofs.Lexing.{hyphens, long_faults, long_met_by, looks, meets, other_fine, other_met, short_read}
use Rattle.cqual_words.proofs.States.{Pend, Free, Holds, Wants, OnceEach, Settling, Settles, Repeats, Lacks, all_at, held_at, once_more}
use Rattle.cqual_words.proofs.States.{settling, value_read, wants_fault, waits_for, walk_at}
use Rattle.cqual_words.proofs.Steps.{Claim, end_read, ends, is_wanting, not_wanting, reads, refuses, source_read, trail_lacks}
use Rattle.cqual_words.proofs.Steps.{trails, end_faulty}

-- ---- an option's word

-- where the piece before it is at fault, so is the word
long_faulty : (o : Option Part) (v : Option Text) (h : Held) (k : ErrorKind) → settle_fault all_rules false h ≡ k ∷ []
    → (l : ErrorKind) × (long_fault all_rules false (option_map rule_for o) v h ≡ l ∷ [])
long_faulty None v h k e = (kind.UnknownArgument, refl)
long_faulty (Some (Flagged flag)) (Some t) h k e = (kind.TooManyValues, refl)
long_faulty (Some (Flagged flag)) None h k e =
    (k, ap (λ ks. or_else ks (use_fault false (rule_for (Flagged flag)) [] (settled all_rules h).rows)) e)
long_faulty (Some Source) (Some t) h k e =
    (k, ap (λ ks. or_else ks (use_fault false (rule_for Source) (t ∷ []) (settled all_rules h).rows)) e)
long_faulty (Some Source) None h k e = (k, e)
long_faulty (Some (Valued key)) (Some t) h k e =
    (k, ap (λ ks. or_else ks (use_fault false (rule_for (Valued key)) (t ∷ []) (settled all_rules h).rows)) e)
long_faulty (Some (Valued key)) None h k e = (k, e)

value_fault : (key : Key) (t : Text) (h : Held)
    → long_fault all_rules false (Some (rule_for (Valued key))) (Some t) h
    ≡ react_fault all_rules false (rule_for (Valued key)) (t ∷ []) h
value_fault key t h = refl

opens_fault : (key : Key) (h : Held)
    → long_fault all_rules false (Some (rule_for (Valued key))) None h ≡ settle_fault all_rules false h
opens_fault key h = refl

value_met : (key : Key) (t : Text) (h : Held)
    → long_met all_rules (Some (rule_for (Valued key))) (Some t) h
    ≡ (reacted all_rules (rule_for (Valued key)) (t ∷ []) h, done)
value_met key t h = refl

opens_met : (key : Key) (h : Held) → long_met all_rules (Some (rule_for (Valued key))) None h
    ≡ (record (settled all_rules h) { pending = Some (key_name key, []) }, waits (key_name key))
opens_met key h = refl

-- what is found by a name is spelt by it
spelt_by : (name : Text) (bs : List Part) (a : Part) → find (spells name) bs ≡ Some a → spells name a ≡ true
spelt_by name [] a e = absurd (none-some a e)
spelt_by name (b ∷ bs) a e = go (spells name b) refl e (spelt_by name bs a)
  where
    go : (t : Bool) → spells name b ≡ t → cond t (Some b) (find (spells name) bs) ≡ Some a
        → (find (spells name) bs ≡ Some a → spells name a ≡ true) → spells name a ≡ true
    go true spell is rest = ap (spells name) (sym (same_Some b a is)) ∙ spell
    go false spell is rest = rest is

-- no name behind two hyphens is that of the words that are no options
never_source : (name : Text) → named name ≡ Some Source → {T : Type 0} → T
never_source name e = absurd (true≢false (sym (spelt_by name parts Source e)))

-- what is held after a use of a new part
used_held : (all : List Piece) (p : Piece) (rows : List Row) → rows ≡ with_piece (rows_at all) p
    → ◌≡◌ {A = Held} (record { rows = rows; pending = None; skip = 0 }) (held_at (all ++ p ∷ []) Free)
used_held all p rows e = ap (λ rs. record { rows = rs; pending = None; skip = 0 }) (e ∙ sym (rows_more all p))

-- ---- the induction's hypothesis

abbrev opened : Pend → Option Key
opened (Wants key) = Some key
opened _ = None

-- what is claimed of a walk over these words, wherever it begins
abbrev Walks : List Text → Type 0
Walks words = (ps : List Piece) (pend : Pend) → OnceEach ps
    → Claim (walk_at (held_at ps pend) (waits_for pend) false) words
    (task_in (all_at ps pend ++ pieces_from (opened pend) words))

module _ (ps : List Piece) (pend : Pend) (waiting : Waiting) (word : Text) (words : List Text) (name : Text)
    (v : Option Text)
    (part : bytes_eq word hyphens ≡ false) (is_long : long_of word ≡ Some (name, v)) where
  abbrev h : Held
  h = held_at ps pend

  abbrev all : List Piece
  all = all_at ps pend

  fault_as : (o : Option Part) (w : Option Text) → named name ≡ o → v ≡ w
      → faults waiting word h ≡ long_fault all_rules false (option_map rule_for o) w h
  fault_as o w e f =
      long_faults waiting word name v h part is_long ∙ ap₂ (λ r u. long_fault all_rules false r u h) (by_name name
      ∙ ap (option_map rule_for) e) f

  abbrev flagged : Held × Outcome → Held × Step
  flagged m = after_flag all_rules waiting word m.0 m.1

  met_as : (o : Option Part) (w : Option Text) → named name ≡ o → v ≡ w
      → meets waiting 1 word h ≡ flagged (long_met all_rules (option_map rule_for o) w h)
  met_as o w e f =
      long_met_by waiting 1 word name v h part is_long ∙ ap₂ (λ r u. flagged (long_met all_rules r u h)) (by_name name
      ∙ ap (option_map rule_for) e) f

  pub long_lacks : (task : Option Task) (k : ErrorKind) → settle_fault all_rules false h ≡ k ∷ [] → task ≡ None
      → Claim (walk_at h waiting false) (word ∷ words) task
  long_lacks task k fault none =
      let l = long_faulty (named name) v h k fault in
      refuses h waiting word words task l.0 (fault_as (named name) v refl refl ∙ l.1) none

  abbrev task_as : Option Part → Option Text → Option Task
  task_as o w = task_in (all ++ with_word (option_word word o w) words (λ key. pieces_from key words))

  module _ (bad : has_meaning word ≡ false) (fine : settle_fault all_rules false h ≡ [])
      (held : settled all_rules h ≡ held_at all Free)
      (once : OnceEach all) (next_words : Walks words) where
    uses_fault : (a : Rule) (values : List Text)
        → react_fault all_rules false a values h ≡ use_fault false a values (rows_at all)
    uses_fault a values = ap₂ (λ ks (g : Held). or_else ks (use_fault false a values g.rows)) fine held

    uses_held : (a : Rule) (values : List Text) (p : Piece) → used a values (rows_at all) ≡ with_piece (rows_at all) p
        → ◌≡◌ {A = Held × Step} (reacted all_rules a values h, next idle) (held_at (all ++ p ∷ []) Free, next idle)
    uses_held a values p e =
        ap (λ (g : Held). (record { rows = used a values g.rows; pending = None; skip = 0 }, next idle)) held
        ∙ ap (λ (g : Held). (g, next idle)) (used_held all p _ e)

    goes_with : (p : Piece) → has_row (name_of (part_of p)) (rows_at all) ≡ false
        → Claim (walk_at (held_at (all ++ p ∷ []) Free) idle false) words (task_in (all ++ p ∷ pieces_from None words))
    goes_with p e = subst (λ qs. Claim (walk_at (held_at (all ++ p ∷ []) Free) idle false) words (task_in qs))
        (append_assoc all (p ∷ []) (pieces_from None words))
        (next_words (all ++ p ∷ []) Free (once_more all p once (λ other. e)))

    flag_case : (flag : Flag) → named name ≡ Some (Flagged flag) → v ≡ None → (b : Bool)
        → has_row (flag_name flag) (rows_at all) ≡ b
        → Claim (walk_at h waiting false) (word ∷ words) (task_as (Some (Flagged flag)) None)
    flag_case flag e f true r = refuses h waiting word words _ kind.ArgumentConflict
        (fault_as (Some (Flagged flag)) None e f ∙ uses_fault (rule_for (Flagged flag)) []
        ∙ flag_again flag (rows_at all) r)
        (twice all (Set flag) (pieces_from None words) refl r)
    flag_case flag e f false r = reads h waiting word words _ (held_at (all ++ Set flag ∷ []) Free) idle
        (fault_as (Some (Flagged flag)) None e f ∙ uses_fault (rule_for (Flagged flag)) []
        ∙ flag_fine flag (rows_at all) r)
        (met_as (Some (Flagged flag)) None e f
        ∙ uses_held (rule_for (Flagged flag)) [] (Set flag) (used_flag flag (rows_at all) r)) (goes_with (Set flag) r)

    value_case : (key : Key) (t : Text) → named name ≡ Some (Valued key) → v ≡ Some t → (b : Bool)
        → has_row (key_name key) (rows_at all) ≡ b
        → Claim (walk_at h waiting false) (word ∷ words) (task_as (Some (Valued key)) (Some t))
    value_case key t e f true r = refuses h waiting word words _ kind.ArgumentConflict
        (fault_as (Some (Valued key)) (Some t) e f ∙ value_fault key t h ∙ uses_fault (rule_for (Valued key)) (t ∷ [])
        ∙ key_again key t (rows_at all) r)
        (twice all (Value key t) (pieces_from None words) refl r)
    value_case key t e f false r = reads h waiting word words _ (held_at (all ++ Value key t ∷ []) Free) idle
        (fault_as (Some (Valued key)) (Some t) e f ∙ value_fault key t h ∙ uses_fault (rule_for (Valued key)) (t ∷ [])
        ∙ key_fine key t (rows_at all) r)
        (met_as (Some (Valued key)) (Some t) e f ∙ ap flagged (value_met key t h)
        ∙ uses_held (rule_for (Valued key)) (t ∷ []) (Value key t) (used_key key t (rows_at all) r))
        (goes_with (Value key t) r)

    pub long_settled : (o : Option Part) (w : Option Text) → named name ≡ o → v ≡ w
        → Claim (walk_at h waiting false) (word ∷ words) (task_as o w)
    long_settled None w e f =
        refuses h waiting word words _ kind.UnknownArgument (fault_as None w e f) (spoilt all (Plain word)
        (pieces_from None words) bad)
    long_settled (Some Source) w e f = never_source name e
    long_settled (Some (Flagged flag)) (Some t) e f = refuses h waiting word words _ kind.TooManyValues
        (fault_as (Some (Flagged flag)) (Some t) e f) (spoilt all (Plain word) (pieces_from None words) bad)
    long_settled (Some (Flagged flag)) None e f = flag_case flag e f (has_row (flag_name flag) (rows_at all)) refl
    long_settled (Some (Valued key)) (Some t) e f = value_case key t e f (has_row (key_name key) (rows_at all)) refl
    long_settled (Some (Valued key)) None e f =
        reads h waiting word words _ (held_at all (Wants key)) (option (key_name key))
        (fault_as (Some (Valued key)) None e f ∙ opens_fault key h ∙ fine)
        (met_as (Some (Valued key)) None e f ∙ ap flagged (opens_met key h)
        ∙ ap (λ (g : Held). (record g { pending = Some (key_name key, []) }, next (option (key_name key)))) held)
        (next_words all (Wants key) once)

-- ---- one word

pieces_next : (word : Text) (words : List Text)
    → pieces_from None (word ∷ words) ≡ with_word (word_of word) words (λ key. pieces_from key words)
unfolding pieces_from
pieces_next word words = refl

pieces_value : (key : Key) (word : Text) (words : List Text)
    → pieces_from (Some key) (word ∷ words) ≡ Value key word ∷ pieces_from None words
unfolding pieces_from
pieces_value key word words = refl

-- where nothing waits for a value, a plain word is a source
plain_still : (pend : Pend) (word : Text) (h : Held) → is_wanting pend ≡ false
    → plain_word all_rules (waits_for pend) word h ≡ (h, value)
plain_still Free word h still = refl
plain_still (Holds (OfKey key text)) word h still = refl
plain_still (Holds (OfSource text)) word h still = refl
plain_still (Wants key) word h still = absurd (true≢false still)

module _ (words : List Text) (next_words : Walks words) (word : Text) (ps : List Piece) (pend : Pend)
    (still : is_wanting pend ≡ false) (once : OnceEach ps) where
  abbrev awaits : Waiting
  awaits = waits_for pend

  abbrev after : Word → List Piece
  after w = all_at ps pend ++ with_word w words (λ key. pieces_from key words)

  abbrev Here : Word → Type 0
  Here w = Claim (walk_at (held_at ps pend) awaits false) (word ∷ words) (task_in (after w))

  plainly : faults awaits word (held_at ps pend) ≡ []
      → meets awaits 1 word (held_at ps pend) ≡ plain_word all_rules awaits word (held_at ps pend)
      → Here (Whole (Plain word))
  plainly fine met = source_read ps pend awaits false word words (task_in (after (Whole (Plain word))))
      (fine, met ∙ plain_still pend word (held_at ps pend) still) (settling ps pend once)
      (λ key e. not_wanting pend still key e) (λ none. none (Plain word ∷ pieces_from None words))
      (λ once_all. subst
      (λ qs. Claim (walk_at (held_at (all_at ps pend) (Holds (OfSource word))) positional false) words (task_in qs))
      (append_assoc (all_at ps pend) (Plain word ∷ []) (pieces_from None words))
      (next_words (all_at ps pend) (Holds (OfSource word)) once_all))

  by_short : has_meaning word ≡ false → ReadsShort awaits word (held_at ps pend) → Here (Whole (Plain word))
  by_short bad (Refuses fault) =
      refuses (held_at ps pend) awaits word words _ kind.UnknownArgument fault (spoilt (all_at ps pend)
      (Plain word) (pieces_from None words) bad)
  by_short bad (Passes fine met) = plainly fine (met 1)

  by_long : (name : Text) (v : Option Text) (part : bytes_eq word hyphens ≡ false)
      (long : long_of word ≡ Some (name, v))
      → has_meaning word ≡ false
      → Settling ps pend → Here (option_word word (named name) v)
  by_long name v part long bad (Settles fine held once_all) =
      long_settled ps pend awaits word words name v part long bad fine held once_all next_words (named name) v refl refl
  by_long name v part long bad (Repeats fault none) =
      long_lacks ps pend awaits word words name v part long _ kind.ArgumentConflict fault
      (none _)
  by_long name v part long bad (Lacks key wants fault) = not_wanting pend still key wants

  by_look : Looks word → Here (word_of word)
  by_look (Dashes d w bad) = subst Here (sym w)
      (ends (held_at ps pend) awaits word words _ (dashes_fine awaits word (held_at ps pend) d)
      (dashes_met awaits 1 word (held_at ps pend) d)
      (trails words ps pend awaits still once))
  by_look (Long name v d long w bad) = subst Here (sym w) (by_long name v d long bad (settling ps pend once))
  by_look (Short b more d long short w bad) =
      subst Here (sym w) (by_short bad (short_read awaits word (held_at ps pend) b more d long short))
  by_look (Other d long short w) = subst Here (sym w)
      (plainly (other_fine awaits word (held_at ps pend) d long short)
      (other_met awaits 1 word (held_at ps pend) d long short))

  pub step : Claim (walk_at (held_at ps pend) awaits false) (word ∷ words)
      (task_in (all_at ps pend ++ pieces_from None (word ∷ words)))
  step =
      subst (λ qs. Claim (walk_at (held_at ps pend) awaits false) (word ∷ words) (task_in (all_at ps pend ++ qs))) (sym
      (pieces_next word words)) (by_look (looks word))

-- where an option waits for its value
module _ (words : List Text) (next_words : Walks words) (word : Text) (ps : List Piece) (key : Key)
    (once : OnceEach ps) where
  abbrev held : Held
  held = held_at ps (Wants key)

  abbrev waiting : Waiting
  waiting = option (key_name key)

  abbrev task : Option Task
  task = task_in (ps ++ Value key word ∷ pieces_from None words)

  abbrev There : Type 0
  There = Claim (walk_at held waiting false) (word ∷ words) task

  as_value : faults waiting word held ≡ [] → meets waiting 1 word held ≡ plain_word all_rules waiting word held → There
  as_value fine met =
      reads held waiting word words task (held_at ps (Holds (OfKey key word))) idle fine (met ∙ value_read ps key word)
      (subst (λ qs. Claim (walk_at (held_at ps (Holds (OfKey key word))) idle false) words (task_in qs))
      (append_assoc ps
      (Value key word ∷ []) (pieces_from None words)) (next_words ps (Holds (OfKey key word)) once))

  spoils : has_meaning word ≡ false → task ≡ None
  spoils bad = spoilt ps (Value key word) (pieces_from None words) bad

  value_short : has_meaning word ≡ false → ReadsShort waiting word held → There
  value_short bad (Refuses fault) = refuses held waiting word words task kind.UnknownArgument fault (spoils bad)
  value_short bad (Passes fine met) = as_value fine (met 1)

  value_look : settle_fault all_rules false held ≡ kind.InvalidValue ∷ [] → Looks word → There
  value_look fault (Dashes d w bad) = ends held waiting word words task (dashes_fine waiting word held d)
      (dashes_met waiting 1 word held d) (trail_lacks words ps key waiting task fault (spoils bad))
  value_look fault (Long name v d long w bad) = long_lacks ps
      (Wants key) waiting word words name v d long task kind.InvalidValue fault (spoils bad)
  value_look fault (Short b more d long short w bad) =
      value_short bad (short_read waiting word held b more d long short)
  value_look fault (Other d long short w) = as_value (other_fine waiting word held d long short)
      (other_met waiting 1 word held d long short)

  pub value_step : Claim (walk_at held waiting false) (word ∷ words)
      (task_in (ps ++ pieces_from (Some key) (word ∷ words)))
  value_step =
      subst (λ qs. Claim (walk_at held waiting false) (word ∷ words) (task_in (ps ++ qs)))
      (sym (pieces_value key word words))
      (value_look (wants_fault ps key) (looks word))

-- ---- all words

pub walks : (words : List Text) → Walks words
unfolding pieces_from
walks [] ps Free once = end_read ps Free idle false _ (settling ps Free once) (λ key e. not_wanting Free refl key e)
    (λ none. none []) (ap task_in (sym (append-nil ps)))
walks [] ps (Holds hand) once =
    end_read ps (Holds hand) (waits_for (Holds hand)) false _ (settling ps (Holds hand) once)
    (λ key e. not_wanting (Holds hand) refl key e)
    (λ none. none []) (ap task_in (sym (append-nil (ps ++ piece_of hand ∷ []))))
walks [] ps (Wants key) once = end_faulty ps (Wants key) (option (key_name key)) false _ kind.InvalidValue
    (wants_fault ps key) (spoilt ps (Value key []) [] refl)
walks (word ∷ words) ps Free once = step words (walks words) word ps Free refl once
walks (word ∷ words) ps (Holds hand) once = step words (walks words) word ps (Holds hand) refl once
walks (word ∷ words) ps (Wants key) once = value_step words (walks words) word ps key once
