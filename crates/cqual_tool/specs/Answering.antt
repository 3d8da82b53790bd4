-- What is answered of the files that a call reads, by its readings.
use Rattle.std.specs.Prelude.{◌≡◌, ◌<◌, ◌≤◌, ℕ, true, false, List, length, Option, Some, None, Ok, Err}
use Rattle.std.specs.declared.result.Result.{Result}
use Rattle.std.specs.declared.vec.Vec.{Vec}
use Rattle.std.specs.declared.alloc.Global.{Global}
use Rattle.outside.specs.Readings.{AreWhole, Broken, Going, Reading, ReadOn, ReadsAs, Standing, Whole, has_broken, is_broken, names_read}
use Rattle.lattice_core.specs.View.{LatticeView}
use Rattle.c_types.specs.Sources.{UnitRead}
use Rattle.index_words.specs.Marks.{IndexMark}
use Rattle.cqual_tool.specs.declared.answer.Answer.{Answer}
use Rattle.cqual_tool.specs.declared.status.Status.{Status}
use Rattle.cqual_tool.specs.declared.taking.Failure.{Failure}
use Rattle.cqual_tool.specs.declared.taking.Failure.TheVariants.{ReadFault, NoMemory}
use Rattle.cqual_words.specs.Words.{Task}
use Rattle.cqual_tool.specs.Words.{FileNames, names_of}
use Rattle.cqual_tool.specs.Programs.{Judging}
use Rattle.cqual_tool.specs.Inputs.{Inputs, files_named, files_of, files_with, from_prelude, from_saved, from_sources}
use Rattle.cqual_tool.specs.Outcome.{IsEnd, OfFiles, OfSources, OfTask, OfUnits, Starts, TaskStarts}
use Rattle.cqual_tool.specs.Preparing.{EndStarts, SourcesStart, UnitsStart}

-- what taking a file gives, by its reading: all its bytes, or none where it has more than the limit
abbrev pub Finds : ℕ → Reading → Result (Option (Vec ℕ Global)) Failure → Type 0
Finds limit reading (Ok (Some v)) = (reading.end ≡ Whole) × (reading.bytes ≡ v.items) × (length reading.bytes ≤ limit)
Finds limit reading (Ok None) = (reading.end ≡ Going) × (limit < length reading.bytes)
Finds limit reading (Err ReadFault) = reading.end ≡ Broken
Finds limit reading (Err NoMemory) = is_broken reading.end ≡ false

-- What is said of readings: an answer is that of all parts whose files give them, and no read of them failed; a fault
-- is of a read of them.
abbrev pub IsSaid : (Inputs → List (List ℕ × List ℕ)) → (Inputs → Status → List ℕ → Type 0) → List Reading
    → Result Answer Failure → Type 0
IsSaid files Of these (Ok answer) =
    (has_broken these ≡ false)
    × ((inputs : Inputs) → ReadsAs (files inputs) these → Of inputs answer.status answer.text.items)
IsSaid files Of these (Err ReadFault) = has_broken these ≡ true
IsSaid files Of these (Err NoMemory) = has_broken these ≡ false

-- In a call that went through these readings: they are of these files in their order, each before the last was read to
-- its end, and the files are started as they are to be.
pub record AnsweredBy (old new : Standing) (files : Inputs → List (List ℕ × List ℕ))
    (Of : Inputs → Status → List ℕ → Type 0)
    (Starting : List Reading → Type 0) (result : Result Answer Failure) (these : List Reading) : Type 0 where
  pub read : ReadOn old new these
  pub in_turn : AreWhole these
  pub there : (inputs : Inputs) × ReadsAs (files inputs) these
  pub starts : Starting these
  pub says : IsSaid files Of these result

-- the same for some readings that the call went through
abbrev pub Answered : Standing → Standing → (Inputs → List (List ℕ × List ℕ)) → (Inputs → Status → List ℕ → Type 0)
    → (List Reading → Type 0)
    → Result Answer Failure → Type 0
Answered old new files Of Starting result = (these : List Reading) × AnsweredBy old new files Of Starting result these

-- what is answered behind the sources: of the saved file and what is asked
abbrev pub EndAnswered : Standing → Standing → FileNames → Judging → Result Answer Failure → Type 0
EndAnswered old new named it result =
    Answered old new (from_saved named) (λ inputs. IsEnd named inputs.saved it)
    (λ these. EndStarts named (names_read these)) result

-- from some sources on, the first of which has this number, where so many bytes are left for all of them
abbrev pub SourcesGo : FileNames → List LatticeView → List UnitRead → List IndexMark → ℕ → ℕ → List (List ℕ)
    → List Reading → Type 0
SourcesGo named lattices before marks number left names these =
    SourcesStart named lattices before marks number left names
    (λ inputs. ReadsAs (from_sources named names inputs) these) (names_read these)

-- what is answered from some sources on
abbrev pub SourcesAnswered : Standing → Standing → FileNames → List LatticeView → List UnitRead → List IndexMark → ℕ → ℕ
    → List (List ℕ)
    → Result Answer Failure → Type 0
SourcesAnswered old new named lattices before marks number left names result =
    Answered old new (from_sources named names)
    (λ inputs.
    OfSources named lattices before marks (IsEnd named inputs.saved) number left (files_with names inputs.sources))
    (SourcesGo named lattices before marks number left names) result

-- the files behind the lattice file are started as they are to be
abbrev pub UnitsGo : FileNames → List LatticeView → List Reading → Type 0
UnitsGo named lattices these =
    UnitsStart named lattices (λ inputs. ReadsAs (from_prelude named inputs) these) (names_read these)

-- what is answered behind the lattice file
abbrev pub UnitsAnswered : Standing → Standing → FileNames → List LatticeView → Result Answer Failure → Type 0
UnitsAnswered old new named lattices result =
    Answered old new (from_prelude named) (λ inputs. OfUnits named inputs lattices) (UnitsGo named lattices) result

-- all files are started as they are to be
abbrev pub FilesGo : FileNames → List Reading → Type 0
FilesGo named these = Starts named (λ inputs. ReadsAs (files_of named inputs) these) (names_read these)

-- what is answered of all files that are named
abbrev pub FilesAnswered : Standing → Standing → FileNames → Result Answer Failure → Type 0
FilesAnswered old new named result =
    Answered old new (files_of named) (λ inputs. OfFiles named inputs) (FilesGo named) result

-- the files of a task are started as they are to be
abbrev pub TaskGoes : Task → List Reading → Type 0
TaskGoes task these = TaskStarts task (λ inputs. ReadsAs (files_named (names_of task) inputs) these) (names_read these)

-- what is answered of a task
abbrev pub TaskAnswered : Standing → Standing → Task → Result Answer Failure → Type 0
TaskAnswered old new task result =
    Answered old new (files_named (names_of task)) (λ inputs. OfTask inputs task) (TaskGoes task) result
