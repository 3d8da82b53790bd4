-- What is answered behind the reading of each file in turn: the lattice file, the prelude, each source and the report.
use Rattle.std.proofs.Common.{◌≡◌, arith, ◌<◌, ◌≤◌, ◌+◌, ◌-◌, ℕ, false, List, [], ◌∷◌, ◌++◌, length, codes, Option, Some, None, Ok, Err, refl, sym, ◌∙◌, ap, subst, append-nil}
use Rattle.std.specs.declared.result.Result.{Result}
use Rattle.std.specs.declared.vec.Vec.{Vec}
use Rattle.std.specs.declared.alloc.Global.{Global}
use Rattle.outside.specs.Readings.{Going, MayGive, Reading, ReadOn, ReadsAs, Standing, Whole, is_broken, names_read}
use Rattle.lattice_core.specs.View.{LatticeView}
use Rattle.c_types.specs.Sources.{UnitRead}
use Rattle.index_words.specs.Marks.{IndexMark}
use Rattle.cqual_tool.specs.declared.answer.Answer.{Answer}
use Rattle.cqual_tool.specs.declared.status.Status.{Status}
use Rattle.cqual_tool.specs.declared.status.Status.TheVariants.{Malformed}
use Rattle.cqual_tool.specs.declared.taking.Failure.{Failure}
use Rattle.cqual_tool.specs.declared.taking.Failure.TheVariants.{ReadFault, NoMemory}
use Rattle.cqual_words.specs.Words.{Generate, Task}
use Rattle.cqual_tool.specs.Words.{FileNames, names_of, saved_in}
use Rattle.cqual_tool.specs.Programs.{Judging, judging_of}
use Rattle.cqual_tool.specs.Inputs.{Inputs, behind_first, files_named, files_of, files_with, first_of, from_prelude, from_saved, from_sources, one_file}
use Rattle.cqual_tool.specs.Outcome.{AreBefore, AreCounted, InOrder, IsEnd, LatticeAlone, LatticesRead, MadeAlone, NoPrelude, NoSource, NotCounted, NotParsed, OfFiles, OfProgram, OfSources, OfTask, OfUnits, PreludeRead, Refused, SourceParses, SourceRefused, SourcesRead, Starts, TooLarge, UnitsRefused, limit_in, named_one, sources_of, total_limit}
use Rattle.cqual_tool.specs.declared.preparing.Earlier.{Earlier}
use Rattle.cqual_tool.specs.Statuses.{Says}
use Rattle.cqual_tool.specs.Texts.{malformed_line}
use Rattle.cqual_tool.specs.Preparing.{IsEarlier, EndStarts, NoneSaved, NoUnit, NoneLeft, OneSaved, PreludeAlone, SomeStart, SourcesStart, UnitsStart}
use Rattle.cqual_tool.specs.Answering.{Answered, EndAnswered, FilesAnswered, FilesGo, Finds, IsSaid, SourcesAnswered, SourcesGo, TaskAnswered, UnitsAnswered, UnitsGo}
use Rattle.cqual_tool.proofs.Readings as reading
use Rattle.cqual_tool.proofs.Outcomes.{at_equal}
use Rattle.cqual_tool.proofs.Readings.{past_limit, whole_is}
use Rattle.cqual_tool.proofs.Starting.{all_start, at_name, end_starts, one_of, one_starts, rest_of, units_start}

-- what was found of a file
pub found_some : (limit : ℕ) (r : Reading) (found : Option (Vec ℕ Global)) (bytes : Vec ℕ Global) → found ≡ Some bytes
    → Finds limit r (Ok found)
    → (r.end ≡ Whole) × (r.bytes ≡ bytes.items) × (length r.bytes ≤ limit)
found_some limit r found bytes is finds = subst (λ (o : Option (Vec ℕ Global)). Finds limit r (Ok o)) is finds

pub found_none : (limit : ℕ) (r : Reading) (found : Option (Vec ℕ Global)) → found ≡ None → Finds limit r (Ok found)
    → (r.end ≡ Going) × (limit < length r.bytes)
found_none limit r found is finds = subst (λ (o : Option (Vec ℕ Global)). Finds limit r (Ok o)) is finds

pub whole_stands : (r : Reading) → r.end ≡ Whole → is_broken r.end ≡ false
whole_stands r is = ap is_broken is

pub going_stands : (r : Reading) → r.end ≡ Going → is_broken r.end ≡ false
going_stands r is = ap is_broken is

-- parts at other bytes
abbrev with_lattice : Inputs → List ℕ → Inputs
with_lattice inputs bytes =
    record { lattice = bytes; prelude = inputs.prelude; sources = inputs.sources; saved = inputs.saved }

abbrev with_prelude : Inputs → List ℕ → Inputs
with_prelude inputs bytes =
    record { lattice = inputs.lattice; prelude = bytes; sources = inputs.sources; saved = inputs.saved }

-- the inputs with other bytes of the first source
abbrev with_source : Inputs → List ℕ → Inputs
with_source inputs bytes = record {
  lattice = inputs.lattice;
  prelude = inputs.prelude;
  sources = bytes ∷ behind_first inputs.sources;
  saved = inputs.saved;
}

abbrev with_saved : Inputs → List ℕ → Inputs
with_saved inputs bytes =
    record { lattice = inputs.lattice; prelude = inputs.prelude; sources = inputs.sources; saved = bytes }

-- where the prelude or the report has this name, or none
pub at_prelude : (named : FileNames) (o : Option (List ℕ)) → named.prelude ≡ o
    → (P : (Inputs → List (List ℕ × List ℕ)) → Type 0)
    → P (λ inputs. one_file o inputs.prelude ++ from_sources named named.sources inputs) → P (from_prelude named)
at_prelude named o is P there =
    subst (λ (name : Option (List ℕ)). P
    (λ inputs. one_file name inputs.prelude ++ from_sources named named.sources inputs)) (sym is) there

pub at_saved : (named : FileNames) (o : Option (List ℕ)) → saved_in named ≡ o
    → (P : (Inputs → List (List ℕ × List ℕ)) → Type 0)
    → P (λ inputs. one_file o inputs.saved) → P (from_saved named)
at_saved named o is P there =
    subst (λ (name : Option (List ℕ)). P (λ inputs. one_file name inputs.saved)) (sym is) there

-- readings of a prelude and then of the sources are those of all files
behind_prelude : (named : FileNames) (o : Option (List ℕ)) → named.prelude ≡ o
    → (inputs : Inputs) (these : List Reading)
    → ReadsAs (from_prelude named inputs) these
    → ReadsAs (one_file o inputs.prelude ++ from_sources named named.sources inputs) these
behind_prelude named o is inputs these reads =
    subst (λ (name : Option (List ℕ)). ReadsAs
    (one_file name inputs.prelude ++ from_sources named named.sources inputs) these) is reads

-- where memory is wanting before any file is read
pub units_lack : (s : Standing) (named : FileNames) (lattices : List LatticeView) (failure : Failure)
    → failure ≡ NoMemory
    → UnitsAnswered s s named lattices (Err failure)
units_lack s named lattices failure is =
    subst (λ (it : Failure). UnitsAnswered s s named lattices (Err it)) (sym is) (
      [],
      record {
        read = reading.nothing_read s;
        in_turn = tt;
        there = (reading.none, tt);
        starts = NoUnit;
        says = refl;
      },
    )

-- what is answered behind units and marks is answered behind equal marks
pub at_marks : (old new : Standing) (named : FileNames) (lattices : List LatticeView) (units : List UnitRead)
    (marks same : List IndexMark)
    (number left : ℕ) (names : List (List ℕ)) (result : Result Answer Failure) → marks ≡ same
    → SourcesAnswered old new named lattices units marks number left names result
    → SourcesAnswered old new named lattices units same number left names result
at_marks old new named lattices units marks same number left names result is more =
    subst (λ (ms : List IndexMark). SourcesAnswered old new named lattices units ms number left names result) is more

-- sources that are named alike
pub at_sources : (old new : Standing) (named : FileNames) (lattices : List LatticeView) (units : List UnitRead)
    (marks : List IndexMark)
    (number left : ℕ) (names same : List (List ℕ)) (result : Result Answer Failure) → same ≡ names
    → SourcesAnswered old new named lattices units marks number left names result
    → SourcesAnswered old new named lattices units marks number left same result
at_sources old new named lattices units marks number left names same result is more =
    subst
    (λ (ns : List (List ℕ)). SourcesAnswered old new named lattices units marks number left ns result) (sym is) more

module _ (old mid : Standing) (r : Reading) (read : ReadOn old mid (r ∷ [])) (named : FileNames) where
  -- the lattice file
  module _ (same : r.name ≡ named.lattice) where
    lattice_alone : FilesGo named (r ∷ [])
    lattice_alone =
        at_name (Starts named (λ inputs. ReadsAs ((named.lattice, inputs.lattice) ∷ from_prelude named inputs)
        (r ∷ []))) r named.lattice [] same LatticeAlone

    pub lattice_stops : (limit : ℕ) (failure : Failure) → Finds limit r (Err failure)
        → FilesAnswered old mid named (Err failure)
    lattice_stops limit failure is =
        reading.stops old mid r read named.lattice same (λ i. i.lattice) with_lattice (from_prelude named)
        (λ i b. refl) (λ i b. refl)
        (λ inputs. OfFiles named inputs) (FilesGo named) limit failure lattice_alone is

    pub lattice_lacks : (failure : Failure) → failure ≡ NoMemory → is_broken r.end ≡ false
        → FilesAnswered old mid named (Err failure)
    lattice_lacks failure is whole =
        reading.lacks old mid r read named.lattice same (λ i. i.lattice) with_lattice (from_prelude named)
        (λ i b. refl) (λ i b. refl)
        (λ inputs. OfFiles named inputs) (FilesGo named) failure is lattice_alone whole

    pub lattice_answers : (answer : Answer) → is_broken r.end ≡ false
        → ((inputs : Inputs) → MayGive r.end inputs.lattice r.bytes
        → OfFiles named inputs answer.status answer.text.items)
        → FilesAnswered old mid named (Ok answer)
    lattice_answers answer whole of =
        reading.answers old mid r read named.lattice same (λ i. i.lattice) with_lattice (from_prelude named)
        (λ i b. refl) (λ i b. refl)
        (λ inputs. OfFiles named inputs) (FilesGo named) answer lattice_alone whole of

    pub lattice_goes : (new : Standing) (lattices : List LatticeView) (whole : r.end ≡ Whole)
        → LatticesRead named.wide r.bytes lattices
        → ((inputs : Inputs) (status : Status) (text : List ℕ) → inputs.lattice ≡ r.bytes
        → OfUnits named inputs lattices status text → OfFiles named inputs status text)
        → (result : Result Answer Failure) → UnitsAnswered mid new named lattices result
        → FilesAnswered old new named result
    lattice_goes new lattices whole reads of result more =
        reading.goes old mid r read named.lattice same (λ i. i.lattice) with_lattice (from_prelude named)
        (λ i b. refl) (λ i b. refl)
        (λ inputs. OfFiles named inputs) (FilesGo named) new (λ inputs. OfUnits named inputs lattices)
        (UnitsGo named lattices) whole starting of result more
      where
        starting : (these : List Reading) → UnitsGo named lattices these → FilesGo named (r ∷ these)
        starting these starts =
            at_name (Starts named (λ inputs. ReadsAs ((named.lattice, inputs.lattice) ∷ from_prelude named inputs)
            (r ∷ these))) r named.lattice _ same
            (all_start named lattices _ (λ inputs. ReadsAs (from_prelude named inputs) these) _
            (λ inputs given. given.2)
            (λ inputs given. subst (λ (bytes : List ℕ). LatticesRead named.wide bytes lattices)
            (sym (whole_is r inputs.lattice whole given.1)) reads) starts)

  -- a source, and those behind it
  module _ (file : List ℕ) (same : r.name ≡ file) (lattices : List LatticeView) (before : List UnitRead)
      (marks : List IndexMark) (number left : ℕ)
      (names : List (List ℕ)) where
    abbrev Of : Inputs → Status → List ℕ → Type 0
    Of inputs =
        OfSources named lattices before marks (IsEnd named inputs.saved) number left
        (files_with (file ∷ names) inputs.sources)

    abbrev Go : List Reading → Type 0
    Go = SourcesGo named lattices before marks number left (file ∷ names)

    abbrev rest : Inputs → List (List ℕ × List ℕ)
    rest inputs = from_sources named names (rest_of inputs)

    source_alone : Go (r ∷ [])
    source_alone =
        at_name (SourcesStart named lattices before marks number left (file ∷ names)
        (λ inputs. ReadsAs (from_sources named (file ∷ names) inputs) (r ∷ []))) r file [] same
        (SomeStart 0 (omega arith) (λ inputs given. ([], NoSource number left)))

    pub source_stops : (limit : ℕ) (failure : Failure) → Finds limit r (Err failure)
        → SourcesAnswered old mid named lattices before marks number left (file ∷ names) (Err failure)
    source_stops limit failure is =
        reading.stops old mid r read file same (λ i. first_of i.sources) with_source rest (λ i b. refl)
        (λ i b. refl) Of Go limit failure source_alone is

    pub source_lacks : (failure : Failure) → failure ≡ NoMemory → is_broken r.end ≡ false
        → SourcesAnswered old mid named lattices before marks number left (file ∷ names) (Err failure)
    source_lacks failure is whole =
        reading.lacks old mid r read file same (λ i. first_of i.sources) with_source rest (λ i b. refl)
        (λ i b. refl) Of Go failure is source_alone whole

    pub source_answers : (answer : Answer) → is_broken r.end ≡ false
        → ((inputs : Inputs) → MayGive r.end (first_of inputs.sources) r.bytes
        → Of inputs answer.status answer.text.items)
        → SourcesAnswered old mid named lattices before marks number left (file ∷ names) (Ok answer)
    source_answers answer whole of =
        reading.answers old mid r read file same (λ i. first_of i.sources) with_source rest (λ i b. refl)
        (λ i b. refl) Of Go answer source_alone whole of

    -- its bytes are no unit, or too many
    pub source_refused : (answer : Answer) (bytes : List ℕ) → r.end ≡ Whole → r.bytes ≡ bytes
        → length r.bytes ≤ limit_in left
        → answer.status ≡ Malformed → SourceRefused named.wide lattices number file bytes answer.text.items
        → SourcesAnswered old mid named lattices before marks number left (file ∷ names) (Ok answer)
    source_refused answer bytes whole same_bytes within status is =
        source_answers answer (whole_stands r whole) (λ inputs gives.
        let content : first_of inputs.sources ≡ r.bytes = whole_is r (first_of inputs.sources) whole gives in
        let text = answer.text.items in
        at_equal (Of inputs) answer.status Malformed text text status refl
        (NotParsed text
        (Refused number left (file, first_of inputs.sources) (files_with names (behind_first inputs.sources)) text
        (subst (λ (b : List ℕ). length b ≤ limit_in left) (sym content) within)
        (subst (λ (b : List ℕ). SourceRefused named.wide lattices number file b text)
        (sym (content ∙ same_bytes)) is))))

    pub source_too_large : (answer : Answer) → (r.end ≡ Going) × (limit_in left < length r.bytes)
        → Says Malformed (malformed_line file (codes "F2")) answer
        → SourcesAnswered old mid named lattices before marks number left (file ∷ names) (Ok answer)
    source_too_large answer past says =
        source_answers answer (going_stands r past.0) (λ inputs gives.
        at_equal (Of inputs) answer.status Malformed answer.text.items (malformed_line file (codes "F2")) says.0 says.1
        (NotParsed _
        (TooLarge number left (file, first_of inputs.sources) (files_with names (behind_first inputs.sources))
        (past_limit (limit_in left) r (first_of inputs.sources) past gives))))

    -- it is the unit
    module _ (new : Standing) (unit : UnitRead) (whole : r.end ≡ Whole) (within : length r.bytes ≤ limit_in left)
        (parses : SourceParses named.wide lattices number r.bytes unit) where
      abbrev OfRest : Inputs → Status → List ℕ → Type 0
      OfRest inputs =
          OfSources named lattices (before ++ unit ∷ []) marks (IsEnd named inputs.saved) (number + 1)
          (left - length r.bytes)
          (files_with names (behind_first inputs.sources))

      abbrev GoRest : List Reading → Type 0
      GoRest = SourcesGo named lattices (before ++ unit ∷ []) marks (number + 1) (left - length r.bytes) names

      -- those behind it, by the parts of all
      among : (these : List Reading) (result : Result Answer Failure)
          → IsSaid (from_sources named names)
          (λ inputs. OfSources named lattices (before ++ unit ∷ []) marks (IsEnd named inputs.saved) (number + 1)
          (left - length r.bytes) (files_with names inputs.sources)) these result
          → IsSaid rest OfRest these result
      among these (Ok answer) says = (says.0, λ inputs reads. says.1 (rest_of inputs) reads)
      among these (Err ReadFault) says = says
      among these (Err NoMemory) says = says

      in_front : Inputs → Inputs
      in_front inputs = record {
        lattice = inputs.lattice;
        prelude = inputs.prelude;
        sources = [] ∷ inputs.sources;
        saved = inputs.saved;
      }

      behind : (result : Result Answer Failure)
          → SourcesAnswered mid new named lattices (before ++ unit ∷ []) marks (number + 1)
          (left - length r.bytes) names result
          → Answered mid new rest OfRest GoRest result
      unfolding in_front
      behind result (these, by) = (
        these,
        record {
          read = by.read;
          in_turn = by.in_turn;
          there = (in_front by.there.0, by.there.1);
          starts = by.starts;
          says = among these result by.says;
        },
      )

      starting : (these : List Reading) → GoRest these → Go (r ∷ these)
      starting these starts =
          at_name (SourcesStart named lattices before marks number left (file ∷ names)
          (λ inputs. ReadsAs (from_sources named (file ∷ names) inputs) (r ∷ these))) r file _ same
          (one_starts named lattices before marks number left file r.bytes unit within parses names _
          (λ inputs. ReadsAs (from_sources named names inputs) these) _
          (λ inputs given. (whole_is r (first_of inputs.sources) whole given.1, given.2)) starts)

      of : (inputs : Inputs) (status : Status) (text : List ℕ) → first_of inputs.sources ≡ r.bytes
          → OfRest inputs status text → Of inputs status text
      of inputs status text here is =
          subst (λ (content : List ℕ). OfSources named lattices before marks (IsEnd named inputs.saved) number left
          ((file, content) ∷ files_with names (behind_first inputs.sources)) status text) (sym here)
          (one_of named lattices before marks number left file r.bytes unit within parses (IsEnd named inputs.saved)
          (files_with names (behind_first inputs.sources)) status text is)

      pub source_goes : (result : Result Answer Failure)
          → SourcesAnswered mid new named lattices (before ++ unit ∷ []) marks (number + 1)
          (left - length r.bytes) names result
          → SourcesAnswered old new named lattices before marks number left (file ∷ names) result
      source_goes result more =
          reading.goes old mid r read file same (λ i. first_of i.sources) with_source rest (λ i b. refl) (λ i b. refl)
          Of Go new OfRest GoRest whole starting of result (behind result more)

    -- the same, by what is made of its bytes
    pub source_joins : (new : Standing) (it : Earlier) (bytes : List ℕ) (rest_left : ℕ) → r.end ≡ Whole
        → r.bytes ≡ bytes
        → length r.bytes ≤ limit_in left → rest_left ≡ left - length bytes
        → (is : (unit : UnitRead) × SourceParses named.wide lattices number bytes unit
        × IsEarlier (number + 1) (before ++ unit ∷ []) it × (it.prelude ≡ marks))
        → (result : Result Answer Failure)
        → SourcesAnswered mid new named lattices (before ++ is.0 ∷ []) it.prelude (number + 1) rest_left names result
        → SourcesAnswered old new named lattices before marks number left (file ∷ names) result
    source_joins new it bytes rest_left whole same_bytes within less is result more =
        source_goes new is.0 whole within
        (subst (λ (b : List ℕ). SourceParses named.wide lattices number b is.0) (sym same_bytes) is.1) result
        (subst (λ (n : ℕ).
        SourcesAnswered mid new named lattices (before ++ is.0 ∷ []) marks (number + 1) n names result)
        (less ∙ ap (λ (b : List ℕ). left - length b) (sym same_bytes))
        (at_marks mid new named lattices (before ++ is.0 ∷ []) it.prelude marks
        (number + 1) rest_left names result is.3 more))

  -- a prelude
  module _ (file : List ℕ) (same : r.name ≡ file) (is : named.prelude ≡ Some file) (lattices : List LatticeView) where
    abbrev Prelude : (Inputs → List (List ℕ × List ℕ)) → Standing → Result Answer Failure → Type 0
    Prelude files new result =
        Answered old new files (λ inputs. OfUnits named inputs lattices) (UnitsGo named lattices) result

    prelude_alone : UnitsGo named lattices (r ∷ [])
    prelude_alone =
        at_name (UnitsStart named lattices (λ inputs. ReadsAs (from_prelude named inputs) (r ∷ []))) r file [] same
        (PreludeAlone file is)

    pub prelude_stops : (limit : ℕ) (failure : Failure) → Finds limit r (Err failure)
        → UnitsAnswered old mid named lattices (Err failure)
    prelude_stops limit failure finds =
        at_prelude named (Some file) is (λ files. Prelude files mid (Err failure))
        (reading.stops old mid r read file same (λ i. i.prelude) with_prelude (from_sources named named.sources)
        (λ i b. refl) (λ i b. refl)
        (λ inputs. OfUnits named inputs lattices) (UnitsGo named lattices) limit failure prelude_alone finds)

    pub prelude_lacks : (failure : Failure) → failure ≡ NoMemory → is_broken r.end ≡ false
        → UnitsAnswered old mid named lattices (Err failure)
    prelude_lacks failure memory whole =
        at_prelude named (Some file) is (λ files. Prelude files mid (Err failure))
        (reading.lacks old mid r read file same (λ i. i.prelude) with_prelude (from_sources named named.sources)
        (λ i b. refl) (λ i b. refl)
        (λ inputs. OfUnits named inputs lattices) (UnitsGo named lattices) failure memory prelude_alone whole)

    pub prelude_answers : (answer : Answer) → is_broken r.end ≡ false
        → ((inputs : Inputs) → MayGive r.end inputs.prelude r.bytes
        → OfUnits named inputs lattices answer.status answer.text.items)
        → UnitsAnswered old mid named lattices (Ok answer)
    prelude_answers answer whole of =
        at_prelude named (Some file) is (λ files. Prelude files mid (Ok answer))
        (reading.answers old mid r read file same (λ i. i.prelude) with_prelude (from_sources named named.sources)
        (λ i b. refl) (λ i b. refl)
        (λ inputs. OfUnits named inputs lattices) (UnitsGo named lattices) answer prelude_alone whole of)

    pub prelude_goes : (new : Standing) (before : List UnitRead) (marks : List IndexMark) (whole : r.end ≡ Whole)
        → 1 ≤ length named.sources
        → ((inputs : Inputs) → inputs.prelude ≡ r.bytes → AreBefore named inputs lattices before marks)
        → (result : Result Answer Failure)
        → SourcesAnswered mid new named lattices before marks 1 total_limit named.sources result
        → UnitsAnswered old new named lattices result
    prelude_goes new before marks whole some are result more =
        at_prelude named (Some file) is (λ files. Prelude files new result)
        (reading.goes old mid r read file same (λ i. i.prelude) with_prelude (from_sources named named.sources)
        (λ i b. refl) (λ i b. refl)
        (λ inputs. OfUnits named inputs lattices) (UnitsGo named lattices) new
        (λ inputs.
        OfSources named lattices before marks (IsEnd named inputs.saved) 1 total_limit (sources_of named inputs))
        (SourcesGo named lattices before marks 1 total_limit named.sources) whole starting
        (λ inputs status text here of. PreludeRead before marks status text (are inputs here) of) result more)
      where
        starting : (these : List Reading) → SourcesGo named lattices before marks 1 total_limit named.sources these
            → UnitsGo named lattices (r ∷ these)
        starting these starts =
            at_name
            (UnitsStart named lattices (λ inputs. ReadsAs (from_prelude named inputs) (r ∷ these))) r file _ same
            (units_start named lattices _ (λ inputs. ReadsAs (from_sources named named.sources inputs) these) before
            marks _ (file ∷ []) (ap named_one is) some
            (λ inputs given. (behind_prelude named (Some file) is inputs (r ∷ these) given).2)
            (λ inputs given. are inputs
            (whole_is r inputs.prelude whole (behind_prelude named (Some file) is inputs (r ∷ these) given).1)) starts)

  -- a report
  module _ (file : List ℕ) (same : r.name ≡ file) (is : saved_in named ≡ Some file) (it : Judging) where
    abbrev Report : (Inputs → List (List ℕ × List ℕ)) → Result Answer Failure → Type 0
    Report files result =
        Answered old mid files (λ inputs. IsEnd named inputs.saved it)
        (λ these. EndStarts named (names_read these)) result

    saved_alone : EndStarts named (r.name ∷ [])
    saved_alone = at_name (EndStarts named) r file [] same (OneSaved file is)

    pub saved_stops : (limit : ℕ) (failure : Failure) → Finds limit r (Err failure)
        → EndAnswered old mid named it (Err failure)
    saved_stops limit failure finds =
        at_saved named (Some file) is (λ files. Report files (Err failure))
        (reading.stops old mid r read file same (λ i. i.saved) with_saved (λ i. []) (λ i b. refl) (λ i b. refl)
        (λ inputs. IsEnd named inputs.saved it)
        (λ these. EndStarts named (names_read these)) limit failure saved_alone finds)

    pub saved_lacks : (failure : Failure) → failure ≡ NoMemory → is_broken r.end ≡ false
        → EndAnswered old mid named it (Err failure)
    saved_lacks failure memory whole =
        at_saved named (Some file) is (λ files. Report files (Err failure))
        (reading.lacks old mid r read file same (λ i. i.saved) with_saved (λ i. []) (λ i b. refl) (λ i b. refl)
        (λ inputs. IsEnd named inputs.saved it)
        (λ these. EndStarts named (names_read these)) failure memory saved_alone whole)

    pub saved_answers : (answer : Answer) → is_broken r.end ≡ false
        → ((inputs : Inputs) → MayGive r.end inputs.saved r.bytes
        → IsEnd named inputs.saved it answer.status answer.text.items)
        → EndAnswered old mid named it (Ok answer)
    saved_answers answer whole of =
        at_saved named (Some file) is (λ files. Report files (Ok answer))
        (reading.answers old mid r read file same (λ i. i.saved) with_saved (λ i. []) (λ i b. refl) (λ i b. refl)
        (λ inputs. IsEnd named inputs.saved it)
        (λ these. EndStarts named (names_read these)) answer saved_alone whole of)

-- where no prelude is named
pub no_prelude : (old new : Standing) (named : FileNames) (lattices : List LatticeView) → named.prelude ≡ None
    → 1 ≤ length named.sources
    → (result : Result Answer Failure) → SourcesAnswered old new named lattices [] [] 1 total_limit named.sources result
    → UnitsAnswered old new named lattices result
no_prelude old new named lattices is some result (these, by) = (
  these,
  record {
    read = by.read;
    in_turn = by.in_turn;
    there = (by.there.0, at_prelude named None is (λ files. ReadsAs (files by.there.0) these) by.there.1);
    starts =
        units_start named lattices _ (λ inputs. ReadsAs (from_sources named named.sources inputs) these) [] [] _ []
        (ap named_one is) some
        (λ inputs given. behind_prelude named None is inputs these given) (λ inputs given. NoPrelude is) by.starts;
    says = said result by.says;
  },
)
  where
    said : (result : Result Answer Failure) → IsSaid (from_sources named named.sources)
        (λ inputs. OfSources named lattices [] [] (IsEnd named inputs.saved) 1 total_limit
        (sources_of named inputs)) these result
        → IsSaid (from_prelude named) (λ inputs. OfUnits named inputs lattices) these result
    said (Ok answer) says = (
      says.0,
      λ inputs given.
          PreludeRead [] [] answer.status answer.text.items (NoPrelude is)
          (says.1 inputs (behind_prelude named None is inputs these given)),
    )
    said (Err ReadFault) says = says
    said (Err NoMemory) says = says

-- where no report is asked for
pub none_saved : (s : Standing) (named : FileNames) (it : Judging) (result : Result Answer Failure)
    → IsSaid (from_saved named) (λ inputs. IsEnd named inputs.saved it) [] result → EndAnswered s s named it result
none_saved s named it result says = (
  [],
  record {
    read = reading.nothing_read s;
    in_turn = tt;
    there = (reading.none, tt);
    starts = NoneSaved;
    says = says;
  },
)

-- where no source is left: what comes of a program

module _ (old new : Standing) (named : FileNames) (lattices : List LatticeView) (units : List UnitRead)
    (marks : List IndexMark) (number left : ℕ) where
  behind_none : (P : List UnitRead → Type 0) → P units → P (units ++ [])
  behind_none P is = subst P (sym (append-nil units)) is

  pub program_goes : AreCounted named lattices marks units → (result : Result Answer Failure)
      → EndAnswered old new named (judging_of named lattices marks units) result
      → SourcesAnswered old new named lattices units marks number left [] result
  program_goes counted result (these, by) = (
    these,
    record {
      read = by.read;
      in_turn = by.in_turn;
      there = by.there;
      starts = end_starts named lattices units marks number left _ _ by.starts
          (λ inputs given. ([], NoSource number left, all));
      says = said result by.says;
    },
  )
    where
      all : AreCounted named lattices marks (units ++ [])
      all = behind_none (AreCounted named lattices marks) counted

      said : (result : Result Answer Failure)
          → IsSaid (from_saved named)
          (λ inputs. IsEnd named inputs.saved (judging_of named lattices marks units)) these result
          → IsSaid (from_sources named [])
          (λ inputs. OfSources named lattices units marks (IsEnd named inputs.saved) number left
          (files_with [] inputs.sources)) these result
      said (Ok answer) says = (
        says.0,
        λ inputs reads.
            SourcesRead [] answer.status answer.text.items (NoSource number left) all
            (behind_none (λ us. IsEnd named inputs.saved
            (judging_of named lattices marks us) answer.status answer.text.items) (says.1 inputs reads)),
      )
      said (Err ReadFault) says = says
      said (Err NoMemory) says = says

module _ (s : Standing) (named : FileNames) (lattices : List LatticeView) (units : List UnitRead)
    (marks : List IndexMark) (number left : ℕ) where
  no_more : (result : Result Answer Failure)
      → IsSaid (from_sources named [])
      (λ inputs. OfSources named lattices units marks (IsEnd named inputs.saved) number left
      (files_with [] inputs.sources)) [] result
      → SourcesAnswered s s named lattices units marks number left [] result
  no_more result says = (
    [],
    record {
      read = reading.nothing_read s;
      in_turn = tt;
      there = (reading.none, tt);
      starts = NoneLeft refl;
      says = says;
    },
  )

  pub program_lacks : SourcesAnswered s s named lattices units marks number left [] (Err NoMemory)
  program_lacks = no_more (Err NoMemory) refl

  pub program_refused : (answer : Answer) → answer.status ≡ Malformed
      → UnitsRefused named lattices marks units answer.text.items
      → SourcesAnswered s s named lattices units marks number left [] (Ok answer)
  program_refused answer status is =
      no_more (Ok answer) (
        refl,
        λ inputs reads.
            subst (λ (st : Status). OfSources named lattices units marks (IsEnd named inputs.saved) number left
            [] st answer.text.items) (sym status)
            (NotCounted [] answer.text.items (NoSource number left)
            (behind_none s s named lattices units marks number left
            (λ us. UnitsRefused named lattices marks us answer.text.items) is)),
      )

-- the files of a task
pub of_task : (old new : Standing) (task : Task) (named : FileNames) → names_of task ≡ Some named
    → (result : Result Answer Failure)
    → FilesAnswered old new named result → TaskAnswered old new task result
of_task old new task named is result (these, by) = (
  these,
  record {
    read = by.read;
    in_turn = by.in_turn;
    there = (by.there.0, at_names (λ files. ReadsAs (files by.there.0) these) by.there.1);
    starts = InOrder named _ is
        (at_names (λ files. Starts named (λ inputs. ReadsAs (files inputs) these) (names_read these)) by.starts);
    says = said result by.says;
  },
)
  where
    at_names : (P : (Inputs → List (List ℕ × List ℕ)) → Type 0) → P (files_of named) → P (files_named (names_of task))
    at_names P there = subst (λ (o : Option FileNames). P (files_named o)) (sym is) there

    said : (result : Result Answer Failure) → IsSaid (files_of named) (λ inputs. OfFiles named inputs) these result
        → IsSaid (files_named (names_of task)) (λ inputs. OfTask inputs task) these result
    said (Ok answer) says = (
      says.0,
      λ inputs reads.
          OfProgram named answer.status answer.text.items is
          (says.1 inputs (subst (λ (o : Option FileNames). ReadsAs (files_named o inputs) these) is reads)),
    )
    said (Err ReadFault) says = says
    said (Err NoMemory) says = says

-- a source that the tool makes itself
pub of_made : (s : Standing) (task : Task) (number : ℕ) → task ≡ Generate number → (result : Result Answer Failure)
    → IsSaid (files_named (names_of task)) (λ inputs. OfTask inputs task) [] result → TaskAnswered s s task result
of_made s task number is result says = (
  [],
  record {
    read = reading.nothing_read s;
    in_turn = tt;
    there = (reading.none, tt);
    starts = MadeAlone number is;
    says = says;
  },
)
