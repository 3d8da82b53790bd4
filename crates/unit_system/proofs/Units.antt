-- Constraints are added unit by unit.
use Rattle.std.proofs.Common.{◌≡◌, ◌<◌, ◌≤◌, ◌+◌, ℕ, zero, suc, Bool, List, [], ◌∷◌, ◌++◌, length, take, drop, slice_index_or, refl, sym, ◌∙◌, ap, subst, arith, append_assoc, append-nil}
use Rattle.std.proofs.lemmas.List.{take-append-le}
use Rattle.std.proofs.Math.Seq.{take-append-add}
use Rattle.flow_graph.specs.declared.constraint.Constraint.{Constraint}
use Rattle.flow_graph.specs.declared.graph.GraphFault.{GraphFault}
use Rattle.flow_graph.specs.System.{System}
use Rattle.flow_rules.specs.Adding.{with}
use Rattle.row_adding.specs.Adding.{StopsEarly}
use Rattle.row_rules.specs.Starting as rules
use Rattle.row_rules.specs.Annotations.{has_access}
use Rattle.row_rules.specs.RowSteps.Starting.{unit_starts, selections_found}
use Rattle.name_rules.specs.ShapeSteps.State.{nothing}
use Rattle.name_tables.specs.declared.place_flags.PlaceFlags.{PlaceFlags}
use Rattle.unit_starts.specs.Selecting.{AddsSelections}
use Rattle.unit_starts.proofs.Selecting.{adds_none, adds_more}
use Rattle.unit_types.specs.declared.program.UnitTape.{UnitTape}
use Rattle.unit_types.specs.Resolved.{Resolved, tape_of, tapes_of}
use Rattle.unit_system.specs.declared.adding.Shared.{Shared}
use Rattle.unit_system.specs.Sharing.{meant_in, tape_rows, rows_on}
use Rattle.unit_system.specs.Systems.{names_on, starts_on, starts_among, selections_on, selections_among, rows_among}
use Rattle.unit_system.proofs.UnitRows.RowLists.{stops_within}

with_none : (sys : System) → sys ≡ with sys []
with_none sys = sym (ap (λ (cs : List Constraint). record sys { constraints = cs }) (append-nil sys.constraints))

with_more : (sys : System) (xs ys : List Constraint) → with (with sys xs) ys ≡ with sys (xs ++ ys)
with_more sys xs ys =
    ap (λ (cs : List Constraint). record sys { constraints = cs }) (append_assoc sys.constraints xs ys)

take_in : (xs ys zs : List Constraint) (n : ℕ) → n ≤ length ys
    → take (length xs + n) (xs ++ (ys ++ zs)) ≡ xs ++ take n ys
take_in xs ys zs n le =
    take-append-add xs (ys ++ zs) n ∙ ap (λ (l : List Constraint). xs ++ l) (take-append-le n ys zs le)

-- the next unit
behind : (xs : List UnitTape) (i : ℕ) (x : UnitTape) → i < length xs → x ≡ slice_index_or xs i x
    → tapes_of (drop i xs) ≡ tape_of x ∷ tapes_of (drop (i + 1) xs)
behind [] i x lt is = absurd (omega arith)
behind (y ∷ xs) zero x lt is = ap (λ (z : UnitTape). tape_of z ∷ tapes_of xs) (sym is)
behind (y ∷ xs) (suc i) x lt is =
    let e : suc i + 1 ≡ suc (i + 1) = omega arith in rw e (behind xs i x (omega arith) is)

-- there is none
past : (xs : List UnitTape) (i : ℕ) → length xs ≤ i → tapes_of (drop i xs) ≡ []
past [] zero le = refl
past [] (suc i) le = refl
past (x ∷ xs) zero le = absurd (omega arith)
past (x ∷ xs) (suc i) le = past xs i (omega arith)

-- what units begin and select, one unit after the other

pub record Begun (access : Bool) (program : Resolved) (units : List UnitTape) (i : ℕ) (found : List rules.Start)
    (old now : PlaceFlags) : Type 0 where
  pub starts : found ++ starts_among access (names_on program) (tapes_of (drop i units)) ≡ starts_on access program
  pub some : List rules.Selection
  pub added : AddsSelections old now some
  pub selections : some ++ selections_among (names_on program) (tapes_of (drop i units)) ≡ selections_on program

-- before the first unit no skeletons and no selections are found, and all are to come
pub begun_first : (access : Bool) (program : Resolved) (units : List UnitTape) (found : List rules.Start)
    (old : PlaceFlags)
    → units ≡ program.units → found ≡ [] → Begun access program units 0 found old old
begun_first access program units found old is none = record {
  starts = ap (λ fs. fs ++ starts_among access (names_on program) (tapes_of (drop 0 units))) none
      ∙ ap (λ us. starts_among access (names_on program) (tapes_of us)) (none_dropped units ∙ is);
  some = [];
  added = adds_none old;
  selections = ap (λ us. selections_among (names_on program) (tapes_of us)) (none_dropped units ∙ is);
} where
  none_dropped : (xs : List UnitTape) → drop 0 xs ≡ xs
  none_dropped [] = refl
  none_dropped (x ∷ xs) = refl

-- behind one unit more its skeletons are found and its selections added
pub begun_next : (access : Bool) (program : Resolved) (units : List UnitTape) (i : ℕ) (unit : UnitTape)
    (found more : List rules.Start)
    (old now new : PlaceFlags) → i < length units → unit ≡ slice_index_or units i unit
    → Begun access program units i found old now
    → more ≡ found ++ unit_starts access (tape_of unit).spelling (names_on program) (tape_of unit).ops
    → AddsSelections now new (selections_found (tape_of unit).spelling (names_on program) nothing (tape_of unit).ops)
    → Begun access program units (i + 1) more old new
begun_next access program units i unit found more old now new lt is so row added =
    let s = names_on program in
    let starts = unit_starts access (tape_of unit).spelling s (tape_of unit).ops in
    let selections = selections_found (tape_of unit).spelling s nothing (tape_of unit).ops in
    record {
      starts = ap (λ fs. fs ++ starts_among access s (tapes_of (drop (i + 1) units))) row
          ∙ append_assoc found starts (starts_among access s (tapes_of (drop (i + 1) units)))
          ∙ ap (λ ts. found ++ starts_among access s ts) (sym (behind units i unit lt is)) ∙ so.starts;
      some = so.some ++ selections;
      added = adds_more old now new so.some selections so.added added;
      selections = append_assoc so.some selections (selections_among s (tapes_of (drop (i + 1) units)))
          ∙ ap (λ ts. so.some ++ selections_among s ts) (sym (behind units i unit lt is)) ∙ so.selections;
    }

-- behind the last unit the skeletons of all units are found
pub begun_starts : (access : Bool) (program : Resolved) (units : List UnitTape) (i : ℕ) (found : List rules.Start)
    (old now : PlaceFlags) → length units ≤ i → Begun access program units i found old now
    → found ≡ starts_on access program
begun_starts access program units i found old now le so =
    sym (append-nil found)
    ∙ ap (λ ts. found ++ starts_among access (names_on program) ts) (sym (past units i le)) ∙ so.starts

-- behind the last unit the selections of all units are added
pub begun_selections : (access : Bool) (program : Resolved) (units : List UnitTape) (i : ℕ) (found : List rules.Start)
    (old now : PlaceFlags) → length units ≤ i → Begun access program units i found old now
    → AddsSelections old now (selections_on program)
begun_selections access program units i found old now le so =
    subst (AddsSelections old now)
    (sym (append-nil so.some)
    ∙ ap (λ ts. so.some ++ selections_among (names_on program) ts) (sym (past units i le)) ∙ so.selections) so.added

module _ (it : Shared) where
  abbrev rows_left : List UnitTape → List Constraint
  rows_left units =
      rows_among (meant_in it) (names_on it.program.now) (starts_on (has_access it.lattices.now) it.program.now)
      (selections_on it.program.now) (tapes_of units)

  -- what stands in the graph while the constraints of these units are not added yet
  pub record Reached (old now : System) (units : List UnitTape) : Type 0 where
    pub before : List Constraint
    pub rows : now ≡ with old before
    pub split : rows_on it ≡ before ++ rows_left units

  pub at_first : (old : System) (units : List UnitTape) → units ≡ it.program.now.units → Reached old old units
  at_first old units is = record { before = []; rows = with_none old; split = ap rows_left (sym is) }

  pub at_next : (old now new : System) (units : List UnitTape) (i : ℕ) (unit : UnitTape)
      → Reached old now (drop i units)
      → i < length units → unit ≡ slice_index_or units i unit → new ≡ with now (tape_rows it (tape_of unit))
      → Reached old new (drop (i + 1) units)
  at_next old now new units i unit so lt is row = record {
    before = so.before ++ tape_rows it (tape_of unit);
    rows = row ∙ ap (λ (sys : System). with sys (tape_rows it (tape_of unit))) so.rows
        ∙ with_more old so.before (tape_rows it (tape_of unit));
    split = so.split
        ∙ ap (λ ts. so.before ++ rows_among (meant_in it) (names_on it.program.now)
        (starts_on (has_access it.lattices.now) it.program.now) (selections_on it.program.now) ts)
        (behind units i unit lt is)
        ∙ sym (append_assoc so.before (tape_rows it (tape_of unit)) (rows_left (drop (i + 1) units)));
  }

  pub at_end : (old now : System) (units : List UnitTape) (i : ℕ) → Reached old now (drop i units) → length units ≤ i
      → now ≡ with old (rows_on it)
  at_end old now units i so le =
      so.rows
      ∙ ap (with old) (sym (so.split
      ∙ ap (λ ts. so.before ++ rows_among (meant_in it) (names_on it.program.now)
      (starts_on (has_access it.lattices.now) it.program.now) (selections_on it.program.now) ts) (past units i le)
      ∙ append-nil so.before))

  -- the adding of a unit's constraints stopped
  pub at_stop : (old now new : System) (fault : GraphFault) (units : List UnitTape) (i : ℕ) (unit : UnitTape)
      → Reached old now (drop i units) → i < length units → unit ≡ slice_index_or units i unit
      → StopsEarly now new fault (tape_rows it (tape_of unit)) → StopsEarly old new fault (rows_on it)
  at_stop old now new fault units i unit so lt is stop =
      stops_within old now new fault so.before (tape_rows it (tape_of unit)) (rows_left (drop (i + 1) units))
      (rows_on it) so.rows (so.split ∙ ap (λ ts. so.before ++ rows_among (meant_in it) (names_on it.program.now)
      (starts_on (has_access it.lattices.now) it.program.now) (selections_on it.program.now) ts)
      (behind units i unit lt is)) stop
