use Rattle.std.proofs.Common.{◌≡◌, arith, ◌+◌, ◌-◌, ◌<◌, ◌≤◌, Bor, ℕ, List, [], ◌∷◌, ◌++◌, drop, length, refl, sym, ◌∙◌, ap, subst}
use Rattle.std.specs.Option.{option_map}
use Rattle.std.proofs.lemmas.List.{length-map}
use Rattle.std.proofs.lemmas.Result.{err_from_is_err_and}
use Rattle.cqual_tool.specs.declared.taking.Failure.TheVariants.{NoMemory}
use Rattle.cqual_tool.specs.Words.{names_in}
use Rattle.cqual_tool.specs.Outcome.{IsDecided, limit_in}
use Rattle.cqual_tool.specs.Preparing.{IsEarlier, IsOneMore}
use Rattle.cqual_tool.proofs.Joining.{at_number}
use Rattle.cqual_tool.proofs.Naming.{drop_from, limit_is, none_left, within}
use Rattle.cqual_tool.proofs.Stages.{at_sources, found_none, found_some, going_stands, source_joins, source_lacks, source_refused, source_stops, source_too_large, whole_stands}
use Rattle.cqual_tool.proofs.reading.+take_sources.Goals as goal

-- where no source is left, what is finished is the answer from the sources on
pub returns-in-None-clause-reads : goal.returns-in-None-clause-reads
returns-in-None-clause-reads g t c = λ before earlier.
    let named = names_in c.args.named.now in
    let none = sym c.source.ensures ∙ ap (option_map (λ name. name.now)) c.in-None.is in
    at_sources _ _ named c.args.lattices.now before c.args.earlier.prelude (c.args.index + 1) c.args.left []
    (drop c.args.index named.sources) c.finish.result (none_left named.sources c.args.index none)
    (c.finish.ensures.reads (c.args.index + 1) c.args.left before earlier)

-- where taking a source stops, by a failed read or want of memory, the sources end with that
pub returns-in_err-bytes-in-Some-clause-reads : goal.returns-in_err-bytes-in-Some-clause-reads
returns-in_err-bytes-in-Some-clause-reads g t c = λ before earlier.
    let named = names_in c.args.named.now in
    let file = c.in-Some.file.now in
    let some = sym c.source.ensures ∙ ap (option_map (λ name. name.now)) c.in-Some.is in
    let rest = drop (c.args.index + 1) named.sources in
    let there = drop_from named.sources c.args.index file some in
    let read = c.in_err-bytes-in-Some.ensures.read in
    let gives = err_from_is_err_and c.from_residual.result c.from_residual.ensures.1 in
    rw (gives.1, gives.2) (at_sources _ _ named c.args.lattices.now before c.args.earlier.prelude (c.args.index + 1)
    c.args.left (file ∷ rest) (drop c.args.index named.sources) _ there (source_stops _ _ read.0 read.1 named file
    read.2 c.args.lattices.now before c.args.earlier.prelude (c.args.index + 1) c.args.left rest c.min.result _ read.3))

-- where memory is wanting to read the tokens of a source, the sources end so behind its whole reading
pub returns-in_err-answer-in-Some-2-clause-reads : goal.returns-in_err-answer-in-Some-2-clause-reads
returns-in_err-answer-in-Some-2-clause-reads g t c = λ before earlier.
    let named = names_in c.args.named.now in
    let file = c.in-Some.file.now in
    let some = sym c.source.ensures ∙ ap (option_map (λ name. name.now)) c.in-Some.is in
    let rest = drop (c.args.index + 1) named.sources in
    let there = drop_from named.sources c.args.index file some in
    let read = c.in_ok-bytes-in-Some.ensures.read in
    let found = found_some c.min.result read.0 c.in_ok-bytes-in-Some.field-0 c.in-Some-2.bytes c.in-Some-2.is read.3 in
    let gives = err_from_is_err_and c.from_residual-in_err-answer-in-Some-2.result
    c.from_residual-in_err-answer-in-Some-2.ensures.1 in
    rw (gives.1, gives.2) (at_sources _ _ named c.args.lattices.now before c.args.earlier.prelude
    (c.args.index + 1) c.args.left (file ∷ rest) (drop c.args.index named.sources) _ there
    (source_lacks _ _ read.0 read.1 named file read.2 c.args.lattices.now before c.args.earlier.prelude
    (c.args.index + 1) c.args.left rest NoMemory refl (whole_stands read.0 found.0)))

-- the line that refuses a source within its limit is the answer from this source on
pub returns-in-Refused-clause-reads : goal.returns-in-Refused-clause-reads
returns-in-Refused-clause-reads g t c = λ before earlier.
    let named = names_in c.args.named.now in
    let lattices = c.args.lattices.now in
    let marks = c.args.earlier.prelude in
    let number = c.args.index + 1 in
    let left = c.args.left in
    let file = c.in-Some.file.now in
    let some = sym c.source.ensures ∙ ap (option_map (λ name. name.now)) c.in-Some.is in
    let rest = drop (c.args.index + 1) named.sources in
    let bytes = c.deref.result.now in
    let there = drop_from named.sources c.args.index file some in
    let read = c.in_ok-bytes-in-Some.ensures.read in
    let found = found_some c.min.result read.0 c.in_ok-bytes-in-Some.field-0 c.in-Some-2.bytes c.in-Some-2.is read.3 in
    let same : read.0.bytes ≡ bytes = found.1 ∙ sym c.deref.ensures.value in
    let within : length read.0.bytes ≤ limit_in left =
    subst (λ (n : ℕ). length read.0.bytes ≤ n) (limit_is left c.min.result c.min.ensures) found.2 in
    let one =
    at_number named.wide lattices number c.new-unit.result file bytes before marks c.args.earlier
    c.in_ok-answer-in-Some-2.field-0 c.new-unit.ensures earlier
    (c.in_ok-answer-in-Some-2.ensures lattices before c.requires.words) in
    let is = subst (IsOneMore named.wide lattices number file bytes before marks) c.in-Refused.is one in
    at_sources _ _ named lattices before marks number left (file ∷ rest) (drop c.args.index named.sources) _ there
    (source_refused _ _ read.0 read.1 named file read.2 lattices before marks number left rest c.in-Refused.answer bytes
    found.0 same within is.0 is.1)

-- the answer that refuses a source is malformed, and so decided
pub returns-in-Refused-clause-decided : goal.returns-in-Refused-clause-decided
returns-in-Refused-clause-decided g t c =
    let wide = c.args.named.now.wide in
    let lattices = c.args.lattices.now in
    let marks = c.args.earlier.prelude in
    let number = c.args.index + 1 in
    let before = c.requires.before.0 in
    let file = c.in-Some.file.now in
    let some = sym c.source.ensures ∙ ap (option_map (λ name. name.now)) c.in-Some.is in
    let bytes = c.deref.result.now in
    let one =
    at_number wide lattices number c.new-unit.result file bytes before marks c.args.earlier
    c.in_ok-answer-in-Some-2.field-0 c.new-unit.ensures c.requires.before.1
    (c.in_ok-answer-in-Some-2.ensures lattices before c.requires.words) in
    let is = subst (IsOneMore wide lattices number file bytes before marks) c.in-Refused.is one in
    subst IsDecided (sym is.0) tt

-- the sources behind a joined one are fewer, their index is within the count, and the joined units are earlier ones
pub take_sources-requires : goal.take_sources-requires
take_sources-requires g t c κs below =
    let wide = c.args.named.now.wide in
    let lattices = c.args.lattices.now in
    let marks = c.args.earlier.prelude in
    let number = c.args.index + 1 in
    let before = c.requires.before.0 in
    let file = c.in-Some.file.now in
    let some = sym c.source.ensures ∙ ap (option_map (λ name. name.now)) c.in-Some.is in
    let bytes = c.deref.result.now in
    let one =
    at_number wide lattices number c.new-unit.result file bytes before marks c.args.earlier
    c.in_ok-answer-in-Some-2.field-0 c.new-unit.ensures c.requires.before.1
    (c.in_ok-answer-in-Some-2.ensures lattices before c.requires.words) in
    let is = subst (IsOneMore wide lattices number file bytes before marks) c.in-Units.is one in
    let there = within (names_in c.args.named.now).sources c.args.index file some in
    let same = length-map c.args.named.now.sources.now (λ (name : Bor (List ℕ)). name.now) in
    let measure = c.decreases in (
      omega (arith, there, same, measure),
      (below, (c.requires.words, (c.requires.few, (omega (arith, there, same), (before ++ is.0 ∷ [], is.2))))),
    )

-- the answer from the next source on is that from this one on, where this one joins the units
pub returns-in-Some-2-clause-reads : goal.returns-in-Some-2-clause-reads
returns-in-Some-2-clause-reads g t c = λ before earlier.
    let named = names_in c.args.named.now in
    let lattices = c.args.lattices.now in
    let marks = c.args.earlier.prelude in
    let number = c.args.index + 1 in
    let left = c.args.left in
    let file = c.in-Some.file.now in
    let some = sym c.source.ensures ∙ ap (option_map (λ name. name.now)) c.in-Some.is in
    let rest = drop (c.args.index + 1) named.sources in
    let bytes = c.deref.result.now in
    let there = drop_from named.sources c.args.index file some in
    let read = c.in_ok-bytes-in-Some.ensures.read in
    let found = found_some c.min.result read.0 c.in_ok-bytes-in-Some.field-0 c.in-Some-2.bytes c.in-Some-2.is read.3 in
    let same : read.0.bytes ≡ c.in-Some-2.bytes.items = found.1 in
    let within : length read.0.bytes ≤ limit_in left =
    subst (λ (n : ℕ). length read.0.bytes ≤ n) (limit_is left c.min.result c.min.ensures) found.2 in
    let one =
    at_number named.wide lattices number c.new-unit.result file bytes before marks c.args.earlier
    c.in_ok-answer-in-Some-2.field-0 c.new-unit.ensures earlier
    (c.in_ok-answer-in-Some-2.ensures lattices before c.requires.words) in
    let is =
    subst (λ (b : List ℕ). IsOneMore named.wide lattices number file b before marks c.in_ok-answer-in-Some-2.field-0)
    c.deref.ensures.value one in
    let joins =
    subst (IsOneMore named.wide lattices number file c.in-Some-2.bytes.items before marks) c.in-Units.is is in
    let size = c.in-Some-2.bytes.ok.0 in
    let count = c.len.ensures in
    let less : left - c.len.result ≡ left - length c.in-Some-2.bytes.items = omega (arith, size, count) in
    at_sources _ _ named lattices before marks number left (file ∷ rest) (drop c.args.index named.sources) _ there
    (source_joins _ _ read.0 read.1 named file read.2 lattices before marks number left rest _ c.in-Units.earlier
    c.in-Some-2.bytes.items
    (left - c.len.result) found.0 same within less joins c.take_sources.result
    (c.take_sources.ensures.reads (before ++ joins.0 ∷ []) joins.2))

-- where memory is wanting for the line of a source that is too large, the sources end so behind its reading
pub returns-in_err-too_large-in-None-2-clause-reads : goal.returns-in_err-too_large-in-None-2-clause-reads
returns-in_err-too_large-in-None-2-clause-reads g t c = λ before earlier.
    let named = names_in c.args.named.now in
    let file = c.in-Some.file.now in
    let some = sym c.source.ensures ∙ ap (option_map (λ name. name.now)) c.in-Some.is in
    let rest = drop (c.args.index + 1) named.sources in
    let there = drop_from named.sources c.args.index file some in
    let read = c.in_ok-bytes-in-Some.ensures.read in
    let found = found_none c.min.result read.0 c.in_ok-bytes-in-Some.field-0 c.in-None-2.is read.3 in
    let gives = err_from_is_err_and c.from_residual-in_err-too_large-in-None-2.result
    c.from_residual-in_err-too_large-in-None-2.ensures.1 in
    rw (gives.1, gives.2) (at_sources _ _ named c.args.lattices.now before c.args.earlier.prelude
    (c.args.index + 1) c.args.left (file ∷ rest) (drop c.args.index named.sources) _ there
    (source_lacks _ _ read.0 read.1 named file read.2 c.args.lattices.now before c.args.earlier.prelude
    (c.args.index + 1) c.args.left rest NoMemory refl (going_stands read.0 found.0)))

-- the line of a source over its limit is the answer from this source on
pub returns-clause-reads : goal.returns-clause-reads
returns-clause-reads g t c = λ before earlier.
    let named = names_in c.args.named.now in
    let left = c.args.left in
    let file = c.in-Some.file.now in
    let some = sym c.source.ensures ∙ ap (option_map (λ name. name.now)) c.in-Some.is in
    let rest = drop (c.args.index + 1) named.sources in
    let there = drop_from named.sources c.args.index file some in
    let read = c.in_ok-bytes-in-Some.ensures.read in
    let found = found_none c.min.result read.0 c.in_ok-bytes-in-Some.field-0 c.in-None-2.is read.3 in
    let over : limit_in left < length read.0.bytes =
    subst (λ (n : ℕ). n < length read.0.bytes) (limit_is left c.min.result c.min.ensures) found.1 in
    at_sources _ _ named c.args.lattices.now before c.args.earlier.prelude (c.args.index + 1) left (file ∷ rest)
    (drop c.args.index named.sources) _ there (source_too_large _ _ read.0 read.1 named file read.2 c.args.lattices.now
    before c.args.earlier.prelude (c.args.index + 1) left rest c.in_ok-too_large-in-None-2.field-0
    (found.0, over) c.in_ok-too_large-in-None-2.ensures)
