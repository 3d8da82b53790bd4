use Rattle.std.proofs.Common.{◌≡◌, ◌≤◌, ℕ, List, length, Err, refl, ap, sym, ◌∙◌, subst}
use Rattle.std.specs.Option.{option_map}
use Rattle.std.proofs.lemmas.Result.{err_from_is_err_and}
use Rattle.cqual_tool.specs.declared.taking.Failure.TheVariants.{NoMemory}
use Rattle.cqual_tool.specs.declared.status.Status.TheVariants.{Malformed}
use Rattle.cqual_tool.specs.Words.{names_in}
use Rattle.cqual_tool.specs.Programs.{judging_of}
use Rattle.cqual_tool.specs.Outcome.{IsOfSaved, IsEnd, AnsweredAlone, SavedTooLarge, SavedJudged, saved_limit}
use Rattle.cqual_tool.proofs.Readings.{past_limit, whole_is}
use Rattle.cqual_tool.proofs.Outcomes.{at_equal}
use Rattle.cqual_tool.proofs.Stages.{found_none, found_some, going_stands, none_saved, saved_answers, saved_lacks, saved_stops, whole_stands}
use Rattle.cqual_tool.proofs.ending.end.Goals as goal

-- where memory is wanting for an answer without a saved file, no file is read behind the sources
pub returns-in_err-alone-in-None-clause-reads : goal.returns-in_err-alone-in-None-clause-reads
returns-in_err-alone-in-None-clause-reads g c = λ marks units is.
    let gives = err_from_is_err_and c.from_residual.result c.from_residual.ensures.1 in
    rw (gives.1, gives.2) (none_saved _ (names_in c.args.named.now) _ (Err NoMemory) refl)

-- an answer without a saved file is the end of a call that reads no file behind the sources
pub returns-in_ok-alone-in-None-clause-reads : goal.returns-in_ok-alone-in-None-clause-reads
returns-in_ok-alone-in-None-clause-reads g c = λ marks units is.
    let none = sym c.saved.ensures ∙ ap (option_map (λ name. name.now)) c.in-None.is in
    none_saved _ (names_in c.args.named.now) _ _
    (refl, λ inputs reads. AnsweredAlone _ _ none (c.in_ok-alone-in-None.ensures.alone units marks is))

-- where taking the saved file stops, by a failed read or want of memory, the call ends with that
pub returns-in_err-text-in-Some-clause-reads : goal.returns-in_err-text-in-Some-clause-reads
returns-in_err-text-in-Some-clause-reads g c = λ marks units is.
    let some = sym c.saved.ensures ∙ ap (option_map (λ name. name.now)) c.in-Some.is in
    let read = c.in_err-text-in-Some.ensures.read in
    let gives =
    err_from_is_err_and c.from_residual-in_err-text-in-Some.result c.from_residual-in_err-text-in-Some.ensures.1 in
    rw (gives.1, gives.2)
    (saved_stops _ _ read.0 read.1 (names_in c.args.named.now) c.in-Some.file.now read.2 some _ saved_limit _ read.3)

-- where memory is wanting to judge the saved file, the call ends so behind its whole reading
pub returns-in_err-of_saved-in-Some-2-clause-reads : goal.returns-in_err-of_saved-in-Some-2-clause-reads
returns-in_err-of_saved-in-Some-2-clause-reads g c = λ marks units is.
    let some = sym c.saved.ensures ∙ ap (option_map (λ name. name.now)) c.in-Some.is in
    let read = c.in_ok-text-in-Some.ensures.read in
    let found = found_some saved_limit read.0 c.in_ok-text-in-Some.field-0 c.in-Some-2.text c.in-Some-2.is read.3 in
    let gives = err_from_is_err_and c.from_residual-in_err-of_saved-in-Some-2.result
    c.from_residual-in_err-of_saved-in-Some-2.ensures.1 in
    rw (gives.1, gives.2)
    (saved_lacks _ _ read.0 read.1 (names_in c.args.named.now) c.in-Some.file.now read.2 some _ NoMemory refl
    (whole_stands read.0 found.0))

-- where memory is wanting for the line of a saved file that is too large, the call ends so behind its reading
pub returns-in_err-too_large-in-None-2-clause-reads : goal.returns-in_err-too_large-in-None-2-clause-reads
returns-in_err-too_large-in-None-2-clause-reads g c = λ marks units is.
    let some = sym c.saved.ensures ∙ ap (option_map (λ name. name.now)) c.in-Some.is in
    let read = c.in_ok-text-in-Some.ensures.read in
    let found = found_none saved_limit read.0 c.in_ok-text-in-Some.field-0 c.in-None-2.is read.3 in
    let gives = err_from_is_err_and c.from_residual-in_err-too_large-in-None-2.result
    c.from_residual-in_err-too_large-in-None-2.ensures.1 in
    rw (gives.1, gives.2)
    (saved_lacks _ _ read.0 read.1 (names_in c.args.named.now) c.in-Some.file.now read.2 some _ NoMemory refl
    (going_stands read.0 found.0))

-- what the saved file comes to is the end of the call, behind its whole reading within the limit
pub returns-in_ok-of_saved-in-Some-2-clause-reads : goal.returns-in_ok-of_saved-in-Some-2-clause-reads
returns-in_ok-of_saved-in-Some-2-clause-reads g c = λ marks units is.
    let named = names_in c.args.named.now in
    let some = sym c.saved.ensures ∙ ap (option_map (λ name. name.now)) c.in-Some.is in
    let file = c.in-Some.file.now in
    let it = judging_of named c.args.lattices.now marks units in
    let answer = c.in_ok-of_saved-in-Some-2.field-0 in
    let Judged : List ℕ → Type 0 = λ saved. IsOfSaved named.asked it saved answer.status answer.text.items in
    let read = c.in_ok-text-in-Some.ensures.read in
    let r = read.0 in
    let found = found_some saved_limit r c.in_ok-text-in-Some.field-0 c.in-Some-2.text c.in-Some-2.is read.3 in
    let same : c.deref.result.now ≡ r.bytes = c.deref.ensures.value ∙ sym found.1 in
    let says = subst Judged same (c.in_ok-of_saved-in-Some-2.ensures.judged it refl (sym is.made.system)) in
    saved_answers _ _ r read.1 named file read.2 some it answer (whole_stands r found.0)
    (λ inputs gives.
    let content = sym (whole_is r inputs.saved found.0 gives) in
    let Short : List ℕ → Type 0 = λ b. length b ≤ saved_limit in
    SavedJudged file _ _ some (subst Short content found.2) (subst Judged content says))

-- the line of a saved file over its limit is the end of the call, behind its reading past the limit
pub returns-in_ok-too_large-in-None-2-clause-reads : goal.returns-in_ok-too_large-in-None-2-clause-reads
returns-in_ok-too_large-in-None-2-clause-reads g c = λ marks units is.
    let named = names_in c.args.named.now in
    let some = sym c.saved.ensures ∙ ap (option_map (λ name. name.now)) c.in-Some.is in
    let file = c.in-Some.file.now in
    let it = judging_of named c.args.lattices.now marks units in
    let answer = c.in_ok-too_large-in-None-2.field-0 in
    let read = c.in_ok-text-in-Some.ensures.read in
    let r = read.0 in
    let found = found_none saved_limit r c.in_ok-text-in-Some.field-0 c.in-None-2.is read.3 in
    saved_answers _ _ r read.1 named file read.2 some it answer (going_stands r found.0)
    (λ inputs gives.
    at_equal (IsEnd named inputs.saved it) _ Malformed _ _ c.in_ok-too_large-in-None-2.ensures.0
    c.in_ok-too_large-in-None-2.ensures.1
    (SavedTooLarge file some (past_limit saved_limit r inputs.saved found gives)))

-- no saved file is asked of where `alone` is called, and its other demands are those of the call of `end`
pub alone-requires : goal.alone-requires
alone-requires g c = record {
  none = sym c.saved.ensures ∙ ap (option_map (λ name. name.now)) c.in-None.is;
  named = c.requires.named;
  owned = c.requires.owned;
  elements = c.requires.elements;
  signs = c.requires.signs;
}
