-- clap's walk and its faults agree with the meaning of the words, word by word.
use Rattle.std.proofs.Common.{refl, sym, ap, ap₂, subst, ◌≡◌, ◌∙◌, ◌&&◌, ◌||◌, ◌++◌, Bool, true, false, cond, map, List, [], ◌∷◌}
use Rattle.std.proofs.Common.{Option, Some, None, true≢false, append-nil, append_assoc}
use Rattle.std.specs.Prelude.{codes, fold}
use Rattle.clap.specs.Values.{bool_text}
use Rattle.clap.specs.Walk.{Held, Row, Step, Waiting, Walk, word_met, pushed, after_step, all_of, finished, first_of}
use Rattle.clap.specs.Walk.{next, one_of, positional, settled, trailing, value, walked, is_pending, with_default}
use Rattle.clap.specs.Faults.{check_fault, defaults_fault, settle_fault, step_fault, turn_fault, walk_fault, word_fault}
use Rattle.clap.specs.Kinds.{Kinds, or_else}
use Rattle.clap.specs.declared.error.kind.ErrorKind.{ErrorKind}
use Rattle.clap.specs.declared.error.kind.ErrorKind.TheVariants as kind
use Rattle.cqual_words.specs.Words.{Flag, Key, Piece, Task, Text, Source, Plain, flag_name, stands_among, task_in}
use Rattle.cqual_words.specs.Tool.{asked_by}
use Rattle.cqual_words.proofs.Pieces.{rows_at}
use Rattle.cqual_words.proofs.Rules.{OfSource, all_rules, rule_for, shape}
use Rattle.cqual_words.proofs.Lexing.{faults, meets}
use Rattle.cqual_words.proofs.States.{Pend, Holds, Wants, OnceEach, Settling, Settles, Repeats, Lacks, all_at, held_at, settling}
use Rattle.cqual_words.proofs.States.{walk_at}
use Rattle.cqual_words.proofs.Ends.{asked_is, check_fine, defaults_fine, end_rows, flag_reads}

-- ---- what is claimed

-- with no fault the rows say which flags stand and ask the task, and with a fault there is none
abbrev pub Judged : Kinds → List Row → Option Task → Type 0
Judged [] rows task =
    (stands : Flag → Bool) × ((flag : Flag) → one_of (flag_name flag) rows ≡ Some (bool_text (stands flag)))
    × (asked_by stands (λ id. first_of id rows) (all_of (codes "source") rows) ≡ task)
Judged (k ∷ ks) rows task = task ≡ None

abbrev pub end_fault : Held → Kinds
end_fault h = or_else (settle_fault all_rules false h)
    (or_else (defaults_fault (settled all_rules h).rows all_rules) (check_fault shape (finished all_rules h) false))

abbrev pub end_of : Walk → List Text → Held
end_of w words = (fold (walked all_rules []) w words).held

-- the claim of a walk and the words that are left: what it held and its first fault come to the task
abbrev pub Claim : Walk → List Text → Option Task → Type 0
Claim w words task =
    Judged (or_else (walk_fault shape [] w words) (end_fault (end_of w words)))
    (finished all_rules (end_of w words)) task

-- ---- one word more

goes_on : (w after : Walk) (word : Text) (words : List Text) (task : Option Task) → turn_fault shape [] w word ≡ []
    → walked all_rules [] w word ≡ after
    → Claim after words task → Claim w (word ∷ words) task
unfolding walk_fault
goes_on w after word words task fine is claim =
    subst (λ ks.
    Judged (or_else (or_else ks (walk_fault shape [] (walked all_rules [] w word) words)) (end_fault (end_of
    (walked all_rules [] w word) words)))
    (finished all_rules (end_of (walked all_rules [] w word) words)) task) (sym fine)
    (subst (λ v. Claim v words task) (sym is) claim)

stops : (w : Walk) (word : Text) (words : List Text) (task : Option Task) (k : ErrorKind)
    → turn_fault shape [] w word ≡ k ∷ []
    → task ≡ None
    → Claim w (word ∷ words) task
unfolding walk_fault
stops w word words task k fault none =
    subst (λ ks.
    Judged (or_else (or_else ks (walk_fault shape [] (walked all_rules [] w word) words)) (end_fault (end_of
    (walked all_rules [] w word) words)))
    (finished all_rules (end_of (walked all_rules [] w word) words)) task) (sym fault) none

module _ (h : Held) (waiting : Waiting) (word : Text) (words : List Text) (task : Option Task) where
  -- the word is at fault
  pub refuses : (k : ErrorKind) → faults waiting word h ≡ k ∷ [] → task ≡ None
      → Claim (walk_at h waiting false) (word ∷ words) task
  refuses k fault none = stops (walk_at h waiting false) word words task k
      (ap (λ ks. or_else ks (step_fault shape 1 (meets waiting 1 word h).0 (meets waiting 1 word h).1)) fault) none

  -- the word is a flag or a value of an option
  pub reads : (after : Held) (then_ : Waiting) → faults waiting word h ≡ []
      → meets waiting 1 word h ≡ (after, next then_)
      → Claim (walk_at after then_ false) words task → Claim (walk_at h waiting false) (word ∷ words) task
  unfolding walked
  reads after then_ fine met claim = goes_on (walk_at h waiting false) (walk_at after then_ false) word words task
      (ap₂ (λ ks (m : Held × Step). or_else ks (step_fault shape 1 m.0 m.1)) fine met)
      (ap (λ (m : Held × Step). after_step all_rules word (walk_at h waiting false) m.0 m.1) met) claim

  -- the word ends the options
  pub ends : faults waiting word h ≡ [] → meets waiting 1 word h ≡ (h, trailing 1)
      → Claim (walk_at h waiting true) words task → Claim (walk_at h waiting false) (word ∷ words) task
  unfolding walked
  ends fine met claim = goes_on (walk_at h waiting false) (walk_at h waiting true) word words task
      (ap₂ (λ ks (m : Held × Step). or_else ks (step_fault shape 1 m.0 m.1)) fine met)
      (ap (λ (m : Held × Step). after_step all_rules word (walk_at h waiting false) m.0 m.1) met) claim

-- ---- a word that is no option

and_false : (b : Bool) → (b && false) ≡ false
and_false true = refl
and_false false = refl

or_false : (b : Bool) → (b || false) ≡ b
or_false true = refl
or_false false = refl

positional_is : (h : Held) → step_fault shape 1 h value ≡ settle_fault all_rules false h
positional_is h =
    ap (λ b. cond b [] (settle_fault all_rules false h)) (and_false (is_pending (rule_for Source) h.pending))

-- a value is held as one more source
source_held : (h : Held) (waiting : Waiting) (t : Bool) (word : Text)
    → after_step all_rules word (walk_at h waiting t) h value
    ≡ walk_at (pushed (codes "source") word (settled all_rules h)) positional t
source_held h waiting t word =
    ap₂ (λ b u. walk_at (pushed (codes "source") word (cond b h (settled all_rules h))) positional u)
    (and_false (is_pending (rule_for Source) h.pending)) (or_false t)

module _ (ps : List Piece) (pend : Pend) (waiting : Waiting) (t : Bool) (word : Text) (words : List Text)
    (task : Option Task) where
  abbrev here : Walk
  here = walk_at (held_at ps pend) waiting t

  abbrev pub IsSource : Type 0
  IsSource = (word_fault shape [] t waiting word (held_at ps pend) ≡ [])
      × (word_met all_rules [] t waiting 1 word (held_at ps pend) ≡ (held_at ps pend, value))

  turn_is : IsSource → turn_fault shape [] here word ≡ settle_fault all_rules false (held_at ps pend)
  turn_is is =
      ap₂ (λ ks (m : Held × Step). or_else ks (step_fault shape 1 m.0 m.1)) is.0 is.1 ∙ positional_is (held_at ps pend)

  walked_is : IsSource → walked all_rules [] here word ≡ after_step all_rules word here (held_at ps pend) value
  unfolding walked
  walked_is is = ap (λ (m : Held × Step). after_step all_rules word here m.0 m.1) is.1

  -- the option before it has no value, or there is a fault before it
  pub source_lacks : IsSource → (k : ErrorKind) → settle_fault all_rules false (held_at ps pend) ≡ k ∷ [] → task ≡ None
      → Claim here (word ∷ words) task
  source_lacks is k fault none = stops here word words task k (turn_is is ∙ fault) none

  -- it is one more source
  pub source_read : IsSource → Settling ps pend → ((key : Key) → pend ≡ Wants key → task ≡ None)
      → (((more : List Piece) → task_in (all_at ps pend ++ more) ≡ None) → task ≡ None)
      → (OnceEach (all_at ps pend)
      → Claim (walk_at (held_at (all_at ps pend) (Holds (OfSource word))) positional t) words task)
      → Claim here (word ∷ words) task
  source_read is (Settles fine held once) lacks again claim =
      goes_on here (walk_at (held_at (all_at ps pend) (Holds (OfSource word))) positional t) word words task
      (turn_is is ∙ fine)
      (walked_is is ∙ source_held (held_at ps pend) waiting t word
      ∙ ap (λ h. walk_at (pushed (codes "source") word h) positional t) held) (claim once)
  source_read is (Repeats fault none) lacks again claim = source_lacks is kind.ArgumentConflict fault (again none)
  source_read is (Lacks key wants fault) lacks again claim = source_lacks is kind.InvalidValue fault (lacks key wants)

-- ---- the end of the words

module _ (ps : List Piece) (pend : Pend) (waiting : Waiting) (t : Bool) (task : Option Task) where
  pub end_faulty : (k : ErrorKind) → settle_fault all_rules false (held_at ps pend) ≡ k ∷ [] → task ≡ None
      → Claim (walk_at (held_at ps pend) waiting t) [] task
  unfolding walk_fault
  end_faulty k fault none = subst (λ ks. Judged (or_else ks
      (or_else (defaults_fault (settled all_rules (held_at ps pend)).rows all_rules)
      (check_fault shape (finished all_rules
      (held_at ps pend)) false)))
      (finished all_rules (held_at ps pend)) task) (sym fault) none

  pub end_read : Settling ps pend → ((key : Key) → pend ≡ Wants key → task ≡ None) → (((more : List Piece)
      → task_in (all_at ps pend ++ more) ≡ None) → task ≡ None)
      → task_in (all_at ps pend) ≡ task → Claim (walk_at (held_at ps pend) waiting t) [] task
  unfolding walk_fault
  end_read (Lacks key wants fault) lacks again is = end_faulty kind.InvalidValue fault (lacks key wants)
  end_read (Repeats fault none) lacks again is = end_faulty kind.ArgumentConflict fault (again none)
  end_read (Settles fine held once) lacks again is =
      let rows : finished all_rules (held_at ps pend) ≡ end_rows (rows_at (all_at ps pend)) =
      ap (λ (h : Held). fold with_default h.rows all_rules) held in
      let faults_are : end_fault (held_at ps pend) ≡ [] =
      ap (λ ks.
      or_else ks (or_else (defaults_fault (settled all_rules (held_at ps pend)).rows all_rules) (check_fault shape
      (finished all_rules (held_at ps pend)) false))) fine
      ∙ ap (λ ks. or_else ks (check_fault shape (finished all_rules (held_at ps pend)) false))
      (defaults_fine (settled all_rules
      (held_at ps pend)).rows)
      ∙ check_fine (finished all_rules (held_at ps pend)) in
      let judged : Judged [] (end_rows (rows_at (all_at ps pend))) task =
      (stands_among (all_at ps pend), flag_reads (all_at ps pend), asked_is (all_at ps pend) once ∙ is) in
      subst (λ ks. Judged ks (finished all_rules (held_at ps pend)) task) (sym faults_are)
      (subst (λ rs. Judged [] rs task)
      (sym rows) judged)

-- ---- behind `--`

abbrev pub is_wanting : Pend → Bool
is_wanting (Wants key) = true
is_wanting _ = false

pub not_wanting : (pend : Pend) → is_wanting pend ≡ false → (key : Key) → pend ≡ Wants key → {T : Type 0} → T
not_wanting pend still key e = absurd (true≢false (sym (ap is_wanting e) ∙ still))

-- behind `--` the walk's answer is what the pieces and the words, all plain, ask
pub trails : (words : List Text) (ps : List Piece) (pend : Pend) (waiting : Waiting) → is_wanting pend ≡ false
    → OnceEach ps
    → Claim (walk_at (held_at ps pend) waiting true) words (task_in (all_at ps pend ++ map Plain words))
trails [] ps pend waiting still once =
    end_read ps pend waiting true (task_in (all_at ps pend ++ [])) (settling ps pend once)
    (λ key e. not_wanting pend still key e) (λ none. none []) (ap task_in (sym (append-nil (all_at ps pend))))
trails (word ∷ words) ps pend waiting still once = source_read ps pend waiting true word words
    (task_in (all_at ps pend ++ Plain word ∷ map Plain words)) (refl, refl) (settling ps pend once)
    (λ key e. not_wanting pend still key e) (λ none. none (Plain word ∷ map Plain words))
    (λ once_all.
    subst (λ qs. Claim (walk_at (held_at (all_at ps pend) (Holds (OfSource word))) positional true) words (task_in qs))
    (append_assoc (all_at ps pend) (Plain word ∷ []) (map Plain words))
    (trails words (all_at ps pend) (Holds (OfSource word)) positional refl once_all))

-- behind `--` an option without its value is a fault at the first word or at the end
pub trail_lacks : (words : List Text) (ps : List Piece) (key : Key) (waiting : Waiting) (task : Option Task)
    → settle_fault all_rules false (held_at ps (Wants key)) ≡ kind.InvalidValue ∷ [] → task ≡ None
    → Claim (walk_at (held_at ps (Wants key)) waiting true) words task
trail_lacks [] ps key waiting task fault none = end_faulty ps (Wants key) waiting true task kind.InvalidValue fault none
trail_lacks (word ∷ words) ps key waiting task fault none =
    source_lacks ps (Wants key) waiting true word words task (refl, refl) kind.InvalidValue fault none
