-- What is found on the tapes of sources is what the rules say of them.
use Rattle.std.proofs.Common.{arith, ◌≡◌, ℕ, zero, suc, ◌+◌, ◌<◌, List, [], ◌∷◌, ◌++◌, length, map, drop, slice_index_or, Option, Some, None, refl, sym, ◌∙◌, ap, subst, append_assoc}
use Rattle.std.specs.Prelude.{All, IfSome}
use Rattle.qual_base.proofs.Lists.{map_more}
use Rattle.name_rules.specs.Faults.{Fault, IsFirst}
use Rattle.name_rules.specs.Scopes.{Names}
use Rattle.name_rules.specs.Linking.{body_faults}
use Rattle.resolve_laws.specs.NameLaws.NameLaws.{NamesOfTapes, IsSound, tape_of_source}
use Rattle.name_rules.specs.NameSteps.Units.{Tape}
use Rattle.resolve_laws.specs.ShapeLaws.Laws.{found_on, all_found, FirstFaultIsFound, NoneIsFound}
use Rattle.name_rules.specs.ShapeSteps.State.{nothing}
use Rattle.name_rules.specs.ShapeSteps.Found.{faults_found}
use Rattle.type_rules.specs.Program.{Source, names_of, HasNoFault, IsFirstFault}
use Rattle.unit_types.specs.declared.fault.ShapeFault.{ShapeFault}
use Rattle.unit_types.specs.declared.program.UnitTape.{UnitTape}
use Rattle.unit_types.specs.Faults.{fault_in, IsFirstUnlessMemory}
use Rattle.unit_types.specs.Resolved.{tape_of, tapes_of, names_on, faults_among, faults_on}
use Rattle.c_lexer.specs.Tokens.{Lexed}
use Rattle.c_types.specs.declared.source.Source.{Source as Read}
use Rattle.c_types.specs.Sources.{unit_of, units_of, source_behind, sources_behind, IsFirstFaultUnlessMemory}

module _ {A B : Type 0} (f : A → B) where
  dropped : (xs : List A) (i : ℕ) (x : A) → i < length xs → x ≡ slice_index_or xs i x
      → f x ∷ map f (drop (i + 1) xs) ≡ map f (drop i xs)
  dropped [] i x lt is = absurd (omega arith)
  dropped (y ∷ xs) zero x lt is = ap (λ (z : A). f z ∷ map f xs) is
  dropped (y ∷ xs) (suc i) x lt is =
      let e : suc i + 1 ≡ suc (i + 1) = omega arith in rw e (dropped xs i x (omega arith) is)

  -- one item more
  pub mapped_on : (xs : List A) (i : ℕ) (x : A) (ys : List B) → i < length xs → x ≡ slice_index_or xs i x
      → (ys ++ f x ∷ []) ++ map f (drop (i + 1) xs) ≡ ys ++ map f (drop i xs)
  mapped_on xs i x ys lt is =
      append_assoc ys (f x ∷ []) (map f (drop (i + 1) xs)) ∙ ap (λ (zs : List B). ys ++ zs) (dropped xs i x lt is)

-- the tapes of the sources from one on, behind others
abbrev pub tapes_from : List Lexed → List Read → List Tape
tapes_from before sources = map tape_of_source (sources_behind before (units_of sources))

-- the tape of the source at a position, then those of the sources behind it, are those from the position on
next_tape : (sources : List Read) (i : ℕ) (it : Read) (before : List Lexed) → it ≡ slice_index_or sources i it
    → i < length sources
    → tape_of_source (source_behind before (unit_of it)) ∷ tapes_from (before ++ it.tokens ∷ []) (drop (i + 1) sources)
    ≡ tapes_from before (drop i sources)
next_tape [] i it before is lt = absurd (omega arith)
next_tape (x ∷ sources) zero it before is lt =
    ap (λ (r : Read). tape_of_source (source_behind before (unit_of r))
    ∷ tapes_from (before ++ r.tokens ∷ []) sources) is
next_tape (x ∷ sources) (suc i) it before is lt =
    let e : suc i + 1 ≡ suc (i + 1) = omega arith in rw e (next_tape sources i it before is (omega arith))

-- one tape more
pub tapes_on : (sources : List Read) (i : ℕ) (it : Read) (before : List Lexed) (units : List UnitTape) (unit : UnitTape)
    → it ≡ slice_index_or sources i it → i < length sources
    → tape_of unit ≡ tape_of_source (source_behind before (unit_of it))
    → tapes_of (units ++ unit ∷ []) ++ tapes_from (before ++ it.tokens ∷ []) (drop (i + 1) sources)
    ≡ tapes_of units ++ tapes_from before (drop i sources)
tapes_on sources i it before units unit is lt made =
    let rest = tapes_from (before ++ it.tokens ∷ []) (drop (i + 1) sources) in
    ap (λ (ts : List Tape). ts ++ rest) (map_more tape_of units (unit ∷ []))
    ∙ append_assoc (tapes_of units) (tape_of unit ∷ []) rest
    ∙ ap (λ (t : Tape). tapes_of units ++ (t ∷ rest)) made
    ∙ ap (λ (ts : List Tape). tapes_of units ++ ts) (next_tape sources i it before is lt)

-- what is found on tapes

-- the faults found along the tapes of sources are those found on the sources
found_is : (sources : List Source) (s : Names) → faults_among s (map tape_of_source sources) ≡ found_on sources s
found_is [] s = refl
found_is (it ∷ sources) s =
    ap (λ (fs : List Fault). faults_found it.spelling s nothing (tape_of_source it).ops ++ fs) (found_is sources s)

some_weaker : {A : Type 0} (P Q : A → Type 0) (o : Option A) → ((x : A) → P x → Q x) → IfSome o P → IfSome o Q
some_weaker P Q None more is = tt
some_weaker P Q (Some x) more is = more x is

module _ (law : NamesOfTapes) (sources : List Source) (sound : All IsSound sources) (tapes : List Tape)
    (taped : tapes ≡ map tape_of_source sources) where
  pub named_is : (s : Names) → s ≡ names_on tapes → s ≡ names_of sources
  named_is s is = is ∙ ap names_on taped ∙ law sources sound

  faults_are : faults_on tapes ≡ all_found sources
  faults_are =
      ap faults_on taped
      ∙ ap (λ (s : Names). s.faults ++ (body_faults s ++ faults_among s (map tape_of_source sources)))
      (law sources sound)
      ∙ ap (λ (fs : List Fault). (names_of sources).faults ++ (body_faults (names_of sources) ++ fs))
      (found_is sources (names_of sources))

  pub none_is : NoneIsFound → faults_on tapes ≡ [] → HasNoFault sources
  none_is none is = (none sources).0 (sym faults_are ∙ is)

  pub first_is : FirstFaultIsFound → (fault : ShapeFault) → IsFirstUnlessMemory fault (faults_on tapes)
      → IsFirstFaultUnlessMemory fault sources
  first_is first fault is =
      some_weaker (λ f. IsFirst f (faults_on tapes)) (λ f. IsFirstFault sources f) (fault_in fault)
      (λ f here. (first sources f).0 (subst (IsFirst f) faults_are here)) is
