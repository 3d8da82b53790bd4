-- What one call of the tool does, by what was read, decided and sent.
use Rattle.std.proofs.Common.{◌≡◌, inl, inr, ℕ, ◌+◌, ◌<◌, ◌||◌, Bool, true, false, List, [], ◌∷◌, ◌++◌, map, Option, Some, None, Ok, Err, All, refl, sym, ◌∙◌, ap, subst, arith}
use Rattle.std.proofs.lemmas.List.Elements.{All-head, All-tail}
use Rattle.outside.specs.Readings.{Agrees, MayGive, Reading, ReadsAs, Standing, broken_in, content_of, has_broken, is_broken, names_read, one_if, since}
use Rattle.cqual_words.specs.Words.{Generate, Task, meaning_of}
use Rattle.cqual_tool.specs.declared.answer.Answer.{Answer}
use Rattle.cqual_tool.specs.declared.status.Status.{Status}
use Rattle.cqual_tool.specs.declared.status.Status.TheVariants.{Accepted, Rejected, PathsHold, PathBad, CertificateHolds, CertificateBad, Answered, NoName, NoSignature, Malformed, BadWords, ReadFault, WriteFault, NoMemory}
use Rattle.cqual_tool.specs.declared.taking.Failure.{Failure}
use Rattle.cqual_tool.specs.declared.taking.Failure.TheVariants as failures
use Rattle.cqual_tool.specs.Words.{FileNames, names_of, saved_in}
use Rattle.cqual_tool.specs.Texts.{usage_line}
use Rattle.cqual_tool.specs.Inputs.{Inputs, asked, behind_first, content_named, files_asked, files_named, files_with, first_of, inputs_asked, inputs_in, inputs_of, one_file}
use Rattle.cqual_tool.specs.Outcome.{Answers, ForTask, IsAnswer, IsDecided, NoFile, NoMeaningYet, OfTask, StartsFor, TaskStarts, WithMeaning, WithoutMeaning}
use Rattle.cqual_tool.specs.Sending.{Sends}
use Rattle.cqual_tool.specs.Answering.{AnsweredBy, IsSaid, TaskGoes}
use Rattle.cqual_tool.specs.Running.{Ran}
use Rattle.cqual_tool.proofs.Readings.{none, nothing_read, since_is}

-- a status that says what was decided of the files is an answer
decided_answers : (status : Status) → IsDecided status → IsAnswer status
decided_answers Accepted is = tt
decided_answers Rejected is = tt
decided_answers PathsHold is = tt
decided_answers PathBad is = tt
decided_answers CertificateHolds is = tt
decided_answers CertificateBad is = tt
decided_answers Answered is = tt
decided_answers NoName is = tt
decided_answers NoSignature is = tt
decided_answers Malformed is = tt
decided_answers BadWords is = absurd is
decided_answers ReadFault is = absurd is
decided_answers WriteFault is = absurd is
decided_answers NoMemory is = absurd is

nothing_of : (these : List Reading) → ReadsAs [] these → these ≡ []
nothing_of [] reads = refl
nothing_of (r ∷ these) reads = absurd reads

-- what was read is what came behind the log that was there
pub by_since : (words : List (List ℕ)) (old new : Standing) (before after : List ℕ) (failed fails : ℕ) (status : Status)
    (these : List Reading)
    → Ran words old new before after failed fails status these
    → Ran words old new before after failed fails status (since old.log new.log)
by_since words old new before after failed fails status these ran =
    let same : since old.log new.log ≡ these = ap (since old.log) ran.read.behind ∙ since_is old.log these in
    subst (Ran words old new before after failed fails status) (sym same) ran

module _ (words : List (List ℕ)) (old new : Standing) (before after : List ℕ) (failed fails : ℕ) where
  -- a task
  module _ (task : Task) (meaning : meaning_of words ≡ Some task) where
    asked_now : (P : (Inputs → List (List ℕ × List ℕ)) → Type 0) → P (files_named (names_of task)) → P (asked words)
    asked_now P is = subst (λ (o : Option Task). P (files_asked o)) (sym meaning) is

    named_now : (these : List Reading) (inputs : Inputs) → ReadsAs (asked words inputs) these
        → ReadsAs (files_named (names_of task) inputs) these
    named_now these inputs reads = subst (λ (o : Option Task). ReadsAs (files_asked o inputs) these) meaning reads

    no_files : (these : List Reading) (inputs : Inputs) → ReadsAs (asked words inputs) these → (number : ℕ)
        → meaning_of words ≡ Some (Generate number) → these ≡ []
    no_files these inputs reads number is =
        nothing_of these (subst (λ (o : Option Task). ReadsAs (files_asked o inputs) these) is reads)

    has_meaning : {P : Type 0} → meaning_of words ≡ None → P
    has_meaning is = absurd cc

    start : (status : Status) (these : List Reading) → TaskGoes task these → StartsFor words status these
    start status these goes =
        ForTask task (names_read these) meaning
        (asked_now (λ files. TaskStarts task (λ inputs. ReadsAs (files inputs) these) (names_read these)) goes)

    -- an answer that is sent
    pub ran_sent : (answer : Answer) (these : List Reading) (status : Status)
        → AnsweredBy old new (files_named (names_of task)) (λ inputs. OfTask inputs task) (TaskGoes task)
        (Ok answer) these
        → IsDecided answer.status → Sends before after failed fails answer.status answer.text.items status
        → Ran words old new before after failed fails status these
    ran_sent answer these status by decided sends =
        let text = answer.text.items in
        let there = asked_now (λ files. ReadsAs (files by.there.0) these) by.there.1 in
        let whole = by.says.0 in
        let answers : Answers words these answer.status text = λ inputs reads.
        WithMeaning task answer.status text meaning (by.says.1 inputs (named_now these inputs reads)) in
        elim sends [
          | inl all ↦ let is : IsDecided status = subst IsDecided (sym all.0) decided in record {
            read = by.read;
            in_turn = by.in_turn;
            there = (by.there.0, there);
            started = start status these by.starts;
            outcome = λ _. (text, all.1, subst (λ (s : Status). Answers words these s text) (sym all.0) answers);
            front = λ e. absurd (subst IsDecided e is);
            write_fault = λ e. absurd (subst IsDecided e is);
            writes = λ _. all.2;
            read_fault = (λ e. absurd (subst IsDecided e is), λ e. absurd cc);
            no_read = λ e. absurd (subst IsDecided e is);
            no_memory = λ e. absurd (subst IsDecided e is);
            bad_words = λ e. absurd (subst IsDecided e is);
            no_meaning = λ e. has_meaning e;
            generated = λ number e. no_files these by.there.0 there number e;
            complete = λ _ _ _. decided_answers status is;
          }
          | inr part ↦ let one_more = part.2 in record {
            read = by.read;
            in_turn = by.in_turn;
            there = (by.there.0, there);
            started = start status these by.starts;
            outcome = λ is. absurd (subst IsAnswer part.0 is);
            front = λ _. (answer.status, text, part.1, answers);
            write_fault = λ _. part.2;
            writes = λ other. absurd (other part.0);
            read_fault = (λ e. let wrong : WriteFault ≡ ReadFault = sym part.0 ∙ e in absurd cc, λ e. absurd cc);
            no_read = λ e. let wrong : WriteFault ≡ ReadFault = sym part.0 ∙ e in absurd cc;
            no_memory = λ e. let wrong : WriteFault ≡ NoMemory = sym part.0 ∙ e in absurd cc;
            bad_words = λ e. let wrong : WriteFault ≡ BadWords = sym part.0 ∙ e in absurd cc;
            no_meaning = λ e. has_meaning e;
            generated = λ number e. no_files these by.there.0 there number e;
            complete = λ _ same _. absurd (omega (arith, one_more, same));
          }
        ]

-- nothing was written
module _ (words : List (List ℕ)) (old new : Standing) (written : List ℕ) (failed : ℕ) where
  module _ (task : Task) (meaning : meaning_of words ≡ Some task) (these : List Reading) where
    said : (failure other : Failure) (readings : List Reading) → failure ≡ other
        → IsSaid (files_named (names_of task)) (λ inputs. OfTask inputs task) readings (Err failure)
        → IsSaid (files_named (names_of task)) (λ inputs. OfTask inputs task) readings (Err other)
    said failure other readings is says =
        subst
        (λ (s : Failure). IsSaid (files_named (names_of task)) (λ inputs. OfTask inputs task) readings (Err s)) is says

    pub ran_read_fault : (failure : Failure) → failure ≡ failures.ReadFault
        → AnsweredBy old new (files_named (names_of task)) (λ inputs. OfTask inputs task) (TaskGoes task)
        (Err failure) these
        → Ran words old new written written failed failed ReadFault these
    ran_read_fault failure is by =
        let there = asked_now words old new written written failed failed task meaning
        (λ files. ReadsAs (files by.there.0) these) by.there.1 in
        let broken : has_broken these ≡ true = said failure failures.ReadFault these is by.says in record {
          read = by.read;
          in_turn = by.in_turn;
          there = (by.there.0, there);
          started = start words old new written written failed failed task meaning ReadFault these by.starts;
          outcome = λ is. absurd is;
          front = λ e. absurd cc;
          write_fault = λ e. absurd cc;
          writes = λ _. refl;
          read_fault = (λ _. broken, λ _. refl);
          no_read = λ _. refl;
          no_memory = λ e. refl;
          bad_words = λ e. absurd cc;
          no_meaning = λ e. has_meaning words old new written written failed failed task meaning e;
          generated = λ number e.
              no_files words old new written written failed failed task meaning these by.there.0 there number e;
          complete = λ whole _ _. absurd cc;
        }

    pub ran_no_memory : (failure : Failure) → failure ≡ failures.NoMemory
        → AnsweredBy old new (files_named (names_of task)) (λ inputs. OfTask inputs task) (TaskGoes task)
        (Err failure) these
        → Ran words old new written written failed failed NoMemory these
    ran_no_memory failure is by =
        let there = asked_now words old new written written failed failed task meaning
        (λ files. ReadsAs (files by.there.0) these) by.there.1 in
        let whole : has_broken these ≡ false = said failure failures.NoMemory these is by.says in record {
          read = by.read;
          in_turn = by.in_turn;
          there = (by.there.0, there);
          started = start words old new written written failed failed task meaning NoMemory these by.starts;
          outcome = λ is. absurd is;
          front = λ e. absurd cc;
          write_fault = λ e. absurd cc;
          writes = λ _. refl;
          read_fault = (λ e. absurd cc, λ e. absurd cc);
          no_read = λ e. refl;
          no_memory = λ _. refl;
          bad_words = λ e. absurd cc;
          no_meaning = λ e. has_meaning words old new written written failed failed task meaning e;
          generated = λ number e.
              no_files words old new written written failed failed task meaning these by.there.0 there number e;
          complete = λ _ _ other. absurd (other refl);
        }

-- no file was read
module _ (words : List (List ℕ)) (s : Standing) (before after : List ℕ) (failed fails : ℕ) where
  pub ran_usage : (status : Status) → meaning_of words ≡ None
      → Sends before after failed fails BadWords usage_line status
      → Ran words s s before after failed fails status []
  ran_usage status meaning sends =
      let answers : Answers words [] BadWords usage_line = λ inputs reads. WithoutMeaning meaning in
      elim sends [
        | inl all ↦ record {
          read = nothing_read s;
          in_turn = tt;
          there = (none, tt);
          started = NoFile meaning;
          outcome = λ _. (usage_line, all.1, subst (λ (s : Status). Answers words [] s usage_line) (sym all.0) answers);
          front = λ e. let wrong : BadWords ≡ WriteFault = sym all.0 ∙ e in absurd cc;
          write_fault = λ e. let wrong : BadWords ≡ WriteFault = sym all.0 ∙ e in absurd cc;
          writes = λ _. all.2;
          read_fault = (λ e. let wrong : BadWords ≡ ReadFault = sym all.0 ∙ e in absurd cc, λ e. absurd cc);
          no_read = λ e. let wrong : BadWords ≡ ReadFault = sym all.0 ∙ e in absurd cc;
          no_memory = λ e. let wrong : BadWords ≡ NoMemory = sym all.0 ∙ e in absurd cc;
          bad_words = λ _. meaning;
          no_meaning = λ _. inl all.0;
          generated = λ number e. refl;
          complete = λ _ _ _. subst IsAnswer (sym all.0) tt;
        }
        | inr part ↦ let one_more = part.2 in record {
          read = nothing_read s;
          in_turn = tt;
          there = (none, tt);
          started = NoFile meaning;
          outcome = λ is. absurd (subst IsAnswer part.0 is);
          front = λ _. (BadWords, usage_line, part.1, answers);
          write_fault = λ _. part.2;
          writes = λ other. absurd (other part.0);
          read_fault = (λ e. let wrong : WriteFault ≡ ReadFault = sym part.0 ∙ e in absurd cc, λ e. absurd cc);
          no_read = λ e. let wrong : WriteFault ≡ ReadFault = sym part.0 ∙ e in absurd cc;
          no_memory = λ e. let wrong : WriteFault ≡ NoMemory = sym part.0 ∙ e in absurd cc;
          bad_words = λ _. meaning;
          no_meaning = λ _. inr (inl part.0);
          generated = λ number e. refl;
          complete = λ _ same _. absurd (omega (arith, one_more, same));
        }
      ]

-- where memory is wanting before any file is started, nothing was read or written, and the status says so
pub ran_not : (words : List (List ℕ)) (s : Standing) (written : List ℕ) (failed : ℕ)
    → Ran words s s written written failed failed NoMemory []
ran_not words s written failed = record {
  read = nothing_read s;
  in_turn = tt;
  there = (none, tt);
  started = NoMeaningYet refl;
  outcome = λ is. absurd is;
  front = λ e. absurd cc;
  write_fault = λ e. absurd cc;
  writes = λ _. refl;
  read_fault = (λ e. absurd cc, λ e. absurd cc);
  no_read = λ e. refl;
  no_memory = λ _. refl;
  bad_words = λ e. absurd cc;
  no_meaning = λ _. inr (inr refl);
  generated = λ number e. refl;
  complete = λ _ _ other. absurd (other refl);
}

-- the number of readings that broke
pub some_broken : (these : List Reading) → has_broken these ≡ true → 0 < broken_in these
some_broken [] is = absurd cc
some_broken (r ∷ these) is = by (is_broken r.end) is (λ e. some_broken these e)
  where
    by : (b : Bool) → (b || has_broken these) ≡ true → (has_broken these ≡ true → 0 < broken_in these)
        → 0 < one_if b + broken_in these
    by true e more = omega arith
    by false e more = let some = more e in omega (arith, some)

-- where no call for readings failed by their count, none of them is broken
pub none_broken : (these : List Reading) → (0 < broken_in these → ⊥) → has_broken these ≡ false
none_broken these not = by (has_broken these) refl
  where
    by : (b : Bool) → has_broken these ≡ b → b ≡ false
    by true e = absurd (not (some_broken these e))
    by false e = refl

-- Readings of files that are told are those of their contents.
module _ (files : List (List ℕ × List ℕ)) where
  step : (name content : List ℕ) (rest told : List (List ℕ × List ℕ)) (these : List Reading)
      → ReadsAs ((name, content) ∷ rest) these
      → All (Agrees files) these
      → ((more : List Reading) → ReadsAs rest more → All (Agrees files) more → ReadsAs told more)
      → ReadsAs ((name, content_of files name) ∷ told) these
  step name content rest told [] reads agree on = tt
  step name content rest told (r ∷ more) reads agree on = (
    reads.0,
    subst (λ (n : List ℕ). MayGive r.end (content_of files n) r.bytes) reads.0 (All-head (Agrees files) r more agree),
    on more reads.2 (All-tail (Agrees files) r more agree),
  )

  may : (o : Option (List ℕ)) (content : List ℕ) (rest told : List (List ℕ × List ℕ)) (these : List Reading)
      → ReadsAs (one_file o content ++ rest) these
      → All (Agrees files) these
      → ((more : List Reading) → ReadsAs rest more → All (Agrees files) more → ReadsAs told more)
      → ReadsAs (one_file o (content_named files o) ++ told) these
  may None content rest told these reads agree on = on these reads agree
  may (Some name) content rest told these reads agree on = step name content rest told these reads agree on

  last : (o : Option (List ℕ)) (content : List ℕ) (these : List Reading) → ReadsAs (one_file o content) these
      → All (Agrees files) these
      → ReadsAs (one_file o (content_named files o)) these
  last None content these reads agree = reads
  last (Some name) content these reads agree = step name content [] [] these reads agree (λ more reads agree. reads)

  among : (names contents : List (List ℕ)) (rest told : List (List ℕ × List ℕ)) (these : List Reading)
      → ReadsAs (files_with names contents ++ rest) these
      → All (Agrees files) these
      → ((more : List Reading) → ReadsAs rest more → All (Agrees files) more → ReadsAs told more)
      → ReadsAs (files_with names (map (content_of files) names) ++ told) these
  among [] contents rest told these reads agree on = on these reads agree
  among (name ∷ names) contents rest told these reads agree on =
      step name (first_of contents) _ _ these reads agree (λ more reads agree.
      among names (behind_first contents) rest told more reads agree on)

  by_names : (named : Option FileNames) (inputs : Inputs) (these : List Reading)
      → ReadsAs (files_named named inputs) these → All (Agrees files) these
      → ReadsAs (files_named named (inputs_of files named)) these
  by_names None inputs these reads agree = reads
  by_names (Some named) inputs these reads agree =
      step named.lattice inputs.lattice _ _ these reads agree (λ more reads agree.
      may named.prelude inputs.prelude _ _ more reads agree (λ more reads agree.
      among named.sources inputs.sources _ _ more reads agree (λ more reads agree.
      last (saved_in named) inputs.saved more reads agree)))

  by_task : (o : Option Task) (inputs : Inputs) (these : List Reading) → ReadsAs (files_asked o inputs) these
      → All (Agrees files) these
      → ReadsAs (files_asked o (inputs_asked files o)) these
  by_task None inputs these reads agree = reads
  by_task (Some task) inputs these reads agree = by_names (names_of task) inputs these reads agree

  pub reads_told : (words : List (List ℕ)) (these : List Reading)
      → (inputs : Inputs) × ReadsAs (asked words inputs) these → All (Agrees files) these
      → ReadsAs (asked words (inputs_in files words)) these
  reads_told words these there agree = by_task (meaning_of words) there.0 these there.1 agree
