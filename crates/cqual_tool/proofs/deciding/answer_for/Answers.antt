use Rattle.std.proofs.Common.{Some, Ok, Err, ap, refl, subst, sym, ◌∙◌}
use Rattle.std.proofs.lemmas.Result.{err_from_is_err_and}
use Rattle.cqual_words.specs.declared.asked.Asked.{Asked}
use Rattle.cqual_words.specs.Asked.{NamesSources, task_of}
use Rattle.cqual_tool.specs.declared.taking.Failure.TheVariants.{NoMemory}
use Rattle.cqual_tool.specs.Words.{names_in, names_of}
use Rattle.cqual_tool.specs.Outcome.{OfGenerated}
use Rattle.cqual_tool.proofs.Asking.{counted}
use Rattle.cqual_tool.proofs.Stages.{of_made, of_task}
use Rattle.cqual_tool.proofs.deciding.answer_for.Goals as goal

-- where memory is wanting for a source that the tool makes itself, the task is answered so without a reading
pub returns-in_err-made_answer-in-Generate-clause-reads : goal.returns-in_err-made_answer-in-Generate-clause-reads
returns-in_err-made_answer-in-Generate-clause-reads g c =
    let gives = err_from_is_err_and c.from_residual.result c.from_residual.ensures.1 in
    rw (gives.1, gives.2) (of_made _ (task_of c.args.asked.now) _ (ap task_of c.in-Generate.is) (Err NoMemory) refl)

-- the answer for files that are named is that of the task that names them
pub returns-in-Ask-clause-reads : goal.returns-in-Ask-clause-reads
returns-in-Ask-clause-reads g c =
    let some = ap (λ (a : Asked). names_of (task_of a)) c.in-Ask.is ∙ ap Some (sym c.of_files.ensures) in
    of_task _ _ (task_of c.args.asked.now) (names_in c.of_files.result) some c.answer.result c.answer.ensures.reads

-- the answer for a source that the tool makes itself is that of the task, without a reading
pub returns-in_ok-made_answer-in-Generate-clause-reads : goal.returns-in_ok-made_answer-in-Generate-clause-reads
returns-in_ok-made_answer-in-Generate-clause-reads g c =
    let is = ap task_of c.in-Generate.is in
    of_made _ (task_of c.args.asked.now) _ is (Ok c.in_ok-made_answer-in-Generate.field-0)
    (refl, λ inputs reads. OfGenerated _ _ _ is c.in_ok-made_answer-in-Generate.ensures.outcome)

-- the task that is asked names 1 to 256 sources, as the call of `answer` requires
pub answer-requires : goal.answer-requires
answer-requires g c =
    let count =
    counted (names_in c.of_files.result) c.in-Ask.names _ c.of_files.ensures
    (subst NamesSources c.in-Ask.is c.requires.sources) in
    record { some = count.0; few = count.1 }
