-- Which associations of selections are candidates, one op after the other.
use Rattle.std.proofs.Common.{◌≡◌, ◌∙◌, ℕ, zero, suc, ◌-◌, ◌<◌, ◌≤◌, ◌+◌, Bool, not, ◌||◌, List, [], ◌∷◌, ◌++◌, length, drop, get_or, Option, None, refl, sym, ap, arith, append_assoc, append-nil}
use Rattle.qual_base.proofs.Lists.{drop_past}
use Rattle.tape_ops.specs.declared.op.Op.{Op}
use Rattle.type_table.specs.Types.{CType}
use Rattle.name_rules.specs.Spellings.{Spelling, Place}
use Rattle.name_rules.specs.Scopes.{Names}
use Rattle.name_rules.specs.Values.{is_of_type}
use Rattle.name_rules.specs.ShapeSteps.State.{State, type_at}
use Rattle.name_rules.specs.ShapeSteps.Steps.{associations, step, twice}
use Rattle.name_tables.specs.PlaceMap.Values.{or_else, there}
use Rattle.name_tables.proofs.PlaceMap.Adding.{or_none, or_assoc}
use Rattle.name_tables.specs.declared.place_flags.PlaceFlags.{PlaceFlags}
use Rattle.name_tables.specs.PlaceFlags.Flags.{row_at}
use Rattle.row_rules.specs.Starting.{Selection, Start, candidate_flags}
use Rattle.row_rules.specs.RowSteps.Rounds.{Rounds, round_step}
use Rattle.row_rules.specs.RowSteps.Starting.{op_selections, op_starts, selection_at, selections_found, starts_found}
use Rattle.unit_starts.specs.Selecting.{AddsSelections, row_among, selection_row}

-- the flags of one association after the other
pub flags_next : (h : Bool) (t : Option CType) (front : List Bool) (n : ℕ) (st : State) → 0 < n →
    (front ++ (not h || is_of_type t (type_at (suc (twice (n - 1))) st)) ∷ [])
    ++ candidate_flags h t (associations (n - 1) st) ≡
    front ++ candidate_flags h t (associations n st)
flags_next h t front zero st lt = absurd (omega arith)
flags_next h t front (suc n) st lt =
    let e : suc n - 1 ≡ n = omega arith in
    rw e (append_assoc front ((not h || is_of_type t (type_at (suc (twice n)) st)) ∷ [])
    (candidate_flags h t (associations n st)))

-- the flags at a place among two lists of selections are those of the first, or else those of the second
row_more : (xs ys : List Selection) (p : Place) → row_among (xs ++ ys) p ≡ or_else (row_among xs p) (row_among ys p)
row_more [] ys p = refl
row_more (it ∷ xs) ys p =
    ap (or_else (there it.at it.flags p)) (row_more xs ys p) ∙
    sym (or_assoc (there it.at it.flags p) (row_among xs p) (row_among ys p))

pub adds_none : (it : PlaceFlags) → AddsSelections it it []
adds_none it = λ p. sym (or_none (row_at it p))

-- flags with a row put at the place of a selection, where none stood, are those with this selection added
pub adds_one : (old new : PlaceFlags) (u : Spelling) (st : State) (token count : ℕ) (at : Place) (row : List Bool) →
    at ≡ (selection_at u st token count).at → row ≡ selection_row count st →
    ((p : Place) → row_at new p ≡ or_else (row_at old p) (there at row p)) →
    AddsSelections old new (selection_at u st token count ∷ [])
adds_one old new u st token count at row at_is row_is added = λ p.
    added p ∙ (λ i. or_else (row_at old p) (there (at_is i) (row_is i) p)) ∙
    ap (or_else (row_at old p)) (sym (or_none (there (selection_at u st token count).at (selection_row count st) p)))

-- flags to which selections and then others are added are those with both added
pub adds_more : (a b c : PlaceFlags) (xs ys : List Selection) → AddsSelections a b xs → AddsSelections b c ys →
    AddsSelections a c (xs ++ ys)
adds_more a b c xs ys first second = λ p.
    second p ∙ ap (λ o. or_else o (row_among ys p)) (first p)
    ∙ or_assoc (row_at a p) (row_among xs p) (row_among ys p) ∙
    ap (or_else (row_at a p)) (sym (row_more xs ys p))

-- from the index of an element on a list is this element and those from the next index on
drop_there : {A : Type 0} (xs : List A) (n : ℕ) (x : A) → x ≡ get_or xs n x → n < length xs
    → drop n xs ≡ x ∷ drop (n + 1) xs
drop_there [] n x is lt = absurd (omega arith)
drop_there (y ∷ ys) zero x is lt = ap (λ z. z ∷ ys) (sym is)
drop_there (y ∷ ys) (suc n) x is lt =
    let e : suc n + 1 ≡ suc (n + 1) = omega arith in rw e (drop_there ys n x is (omega arith))

next_selected : (u : Spelling) (s : Names) (st : State) (tape : List Op) (n : ℕ) (op : Op) → op ≡ get_or tape n op
    → n < length tape →
    selections_found u s st (drop n tape) ≡ op_selections u st op
    ++ selections_found u s (step u s st op) (drop (n + 1) tape)
next_selected u s st tape n op is lt = ap (selections_found u s st) (drop_there tape n op is lt)

-- what the ops so far selected, and what is left
pub record Selected (u : Spelling) (s : Names) (first st : State) (tape : List Op) (n : ℕ)
    (old now : PlaceFlags) : Type 0 where
  pub some : List Selection
  pub added : AddsSelections old now some
  pub left : some ++ selections_found u s st (drop n tape) ≡ selections_found u s first tape

-- before the first op no selection is added
pub at_first : (u : Spelling) (s : Names) (st : State) (tape : List Op) (it : PlaceFlags)
    → Selected u s st st tape 0 it it
at_first u s st tape it =
    record { some = []; added = adds_none it; left = ap (selections_found u s st) (none tape) } where
      none : (tape : List Op) → drop 0 tape ≡ tape
      none [] = refl
      none (op ∷ tape) = refl

-- behind one op more the selections of the ops so far are added
pub at_next : (u : Spelling) (s : Names) (first st after : State) (tape : List Op) (n : ℕ) (op : Op)
    (old now new : PlaceFlags) →
    op ≡ get_or tape n op → n < length tape → Selected u s first st tape n old now →
    AddsSelections now new (op_selections u st op) → after ≡ step u s st op
    → Selected u s first after tape (n + 1) old new
at_next u s first st after tape n op old now new is lt so more next = record {
  some = so.some ++ op_selections u st op;
  added = adds_more old now new so.some (op_selections u st op) so.added more;
  left =
      append_assoc so.some (op_selections u st op) (selections_found u s after (drop (n + 1) tape)) ∙
      ap (λ a. so.some ++ (op_selections u st op ++ selections_found u s a (drop (n + 1) tape))) next ∙
      ap (λ (all : List Selection). so.some ++ all) (sym (next_selected u s st tape n op is lt)) ∙ so.left;
}

-- behind the last op the selections of the whole tape are added
pub at_last : (u : Spelling) (s : Names) (first st : State) (tape : List Op) (n : ℕ) (old now : PlaceFlags)
    → length tape ≤ n →
    Selected u s first st tape n old now → AddsSelections old now (selections_found u s first tape)
at_last u s first st tape n old now le so = λ p.
    so.added p ∙ ap (λ (all : List Selection). or_else (row_at old p) (row_among all p))
    (sym (append-nil so.some)
    ∙ ap (λ (ops : List Op). so.some ++ selections_found u s st ops) (sym (drop_past tape n le)) ∙ so.left)

-- what begins along a tape, one op after the other

next_begun : (u : Spelling) (s : Names) (st : State) (r : Rounds) (tape : List Op) (n : ℕ) (op : Op)
    → op ≡ get_or tape n op →
    n < length tape →
    starts_found u s st r (drop n tape) ≡
    op_starts u s st r op ++ starts_found u s (step u s st op) (round_step st.declarations r op) (drop (n + 1) tape)
next_begun u s st r tape n op is lt = ap (starts_found u s st r) (drop_there tape n op is lt)

-- behind one op more the skeletons of the ops so far and those of the ops still to come are those of the whole tape
pub begun_next : (u : Spelling) (s : Names) (found more whole : List Start) (st after : State) (r next : Rounds)
    (tape : List Op)
    (n : ℕ) (op : Op) → op ≡ get_or tape n op → n < length tape → found ++ starts_found u s st r (drop n tape) ≡ whole →
    more ≡ found ++ op_starts u s st r op → next ≡ round_step st.declarations r op → after ≡ step u s st op →
    more ++ starts_found u s after next (drop (n + 1) tape) ≡ whole
begun_next u s found more whole st after r next tape n op is lt so row round stack =
    let rest = starts_found u s (step u s st op) (round_step st.declarations r op) (drop (n + 1) tape) in
    (λ i. row i ++ starts_found u s (stack i) (round i) (drop (n + 1) tape)) ∙
    append_assoc found (op_starts u s st r op) rest ∙
    ap (λ (all : List Start). found ++ all) (sym (next_begun u s st r tape n op is lt)) ∙ so

pub begun_last : (u : Spelling) (s : Names) (found whole : List Start) (st : State) (r : Rounds)
    (tape : List Op) (n : ℕ) →
    length tape ≤ n → found ++ starts_found u s st r (drop n tape) ≡ whole → found ≡ whole
begun_last u s found whole st r tape n le so =
    sym (append-nil found) ∙ ap (λ (ops : List Op). found ++ starts_found u s st r ops) (sym (drop_past tape n le)) ∙ so
