-- The folds of names and of faults, a unit at a time.
use Rattle.std.proofs.Common.{arith, ◌≡◌, ℕ, zero, suc, ◌+◌, ◌<◌, List, [], ◌∷◌, ◌++◌, length, drop, slice_index_or, ◌∙◌, ap, append_assoc}
use Rattle.type_table.specs.declared.row.TypeRow.{TypeRow}
use Rattle.type_table.specs.Types.{CType}
use Rattle.name_state.specs.NameTypes.Known.{Knows, Grows}
use Rattle.name_rules.specs.Faults.{Fault}
use Rattle.name_rules.specs.Scopes.{Names}
use Rattle.name_rules.specs.Units.{unit_begun}
use Rattle.name_rules.specs.NameSteps.Units.{tape_named, tapes_named}
use Rattle.name_rules.specs.ShapeSteps.State.{nothing}
use Rattle.name_rules.specs.ShapeSteps.Found.{faults_found}
use Rattle.unit_types.specs.declared.program.UnitTape.{UnitTape}
use Rattle.unit_types.specs.Resolved.{tape_of, tapes_of, faults_among}

-- the types of a table are those of any that it grew from
pub knows_before : (old new : List TypeRow) (t : ℕ → CType) → Grows old new → Knows t new → Knows t old
knows_before old new t grows knows = λ n lt. knows n (let l = grows.longer in omega arith) ∙ grows.keeps n lt

-- where a unit's tape leads from some names to others, those on the tapes from that unit on come from the others
pub names_on_from : (units : List UnitTape) (i : ℕ) (it : UnitTape) (s after : Names) → it ≡ slice_index_or units i it
    → i < length units → after ≡ tape_named (tape_of it) (unit_begun (tape_of it).spelling.unit s)
    → tapes_named (tapes_of (drop (i + 1) units)) after ≡ tapes_named (tapes_of (drop i units)) s
names_on_from [] i it s after is lt made = absurd (omega arith)
names_on_from (x ∷ units) zero it s after is lt made =
    ap (tapes_named (tapes_of units))
    (made ∙ ap (λ (u : UnitTape). tape_named (tape_of u) (unit_begun (tape_of u).spelling.unit s)) is)
names_on_from (x ∷ units) (suc i) it s after is lt made =
    let e : suc i + 1 ≡ suc (i + 1) = omega arith in rw e (names_on_from units i it s after is (omega arith) made)

module _ (s : Names) where
  abbrev pub found_in : UnitTape → List Fault
  found_in it = faults_found (tape_of it).spelling s nothing (tape_of it).ops

  pub faults_from : (units : List UnitTape) (i : ℕ) (it : UnitTape) (so_far : List Fault)
      → it ≡ slice_index_or units i it
      → i < length units
      → (so_far ++ found_in it) ++ faults_among s (tapes_of (drop (i + 1) units))
      ≡ so_far ++ faults_among s (tapes_of (drop i units))
  faults_from [] i it so_far is lt = absurd (omega arith)
  faults_from (x ∷ units) zero it so_far is lt =
      append_assoc so_far (found_in it) (faults_among s (tapes_of units))
      ∙ ap (λ (u : UnitTape). so_far ++ (found_in u ++ faults_among s (tapes_of units))) is
  faults_from (x ∷ units) (suc i) it so_far is lt =
      let e : suc i + 1 ≡ suc (i + 1) = omega arith in rw e (faults_from units i it so_far is (omega arith))
