use Rattle.std.proofs.Common.{arith, ◌≡◌, ◌≤◌, ℕ, List, [], ◌∷◌, length, refl, sym, ◌∙◌, ap, subst}
use Rattle.std.proofs.lemmas.Result.{err_from_is_err_and}
use Rattle.c_types.specs.Sources.{unit_of}
use Rattle.cq_prelude.specs.Preludes.{IsFaultOf, IsPrelude}
use Rattle.cqual_tool.specs.declared.status.Status.TheVariants.{Malformed}
use Rattle.cqual_tool.specs.declared.taking.Failure.TheVariants.{NoMemory}
use Rattle.cqual_tool.specs.Words.{names_in}
use Rattle.cqual_tool.specs.Preludes.{prelude_line}
use Rattle.cqual_tool.specs.Outcome.{OfUnits, OnePrelude, PreludeReads, PreludeFails, PreludeRefused, PreludeTooLarge, source_limit, total_limit}
use Rattle.cqual_tool.specs.Preparing.{IsEarlier}
use Rattle.cqual_tool.proofs.Joining.{prelude_alone}
use Rattle.cqual_tool.proofs.Outcomes.{at_equal}
use Rattle.cqual_tool.proofs.Readings.{past_limit, whole_is}
use Rattle.cqual_tool.proofs.Stages.{at_marks, found_none, found_some, going_stands, prelude_answers, prelude_goes, prelude_lacks, prelude_stops, whole_stands}
use Rattle.cqual_tool.proofs.reading.take_prelude.Goals as goal

-- the prelude is the one earlier unit of the sources, whose index 0 is within their count
pub take_sources-requires : goal.take_sources-requires
take_sources-requires g c =
    let unit = unit_of c.in-Ok.read.source in
    let parses = c.in-Ok.ensures.reads.parses in
    record {
      words = c.requires.words;
      few = c.requires.few;
      within = omega arith;
      before = (
        unit ∷ [],
        record { are = c.in_ok-earlier-in-Ok.ensures.units; may = prelude_alone unit parses.lexes.unit parses.formed },
      );
    }

-- where taking the prelude stops, by a failed read or want of memory, the call ends with that
pub returns-in_err-bytes-clause-reads : goal.returns-in_err-bytes-clause-reads
returns-in_err-bytes-clause-reads g c =
    let read = c.in_err-bytes.ensures.read in
    let gives = err_from_is_err_and c.from_residual.result c.from_residual.ensures.1 in
    rw (gives.1, gives.2)
    (prelude_stops _ _ read.0 read.1
    (names_in c.args.named.now) c.args.file.now read.2 c.requires.named c.args.lattices.now source_limit _ read.3)

-- where memory is wanting to put the prelude before the sources, the call ends so behind its whole reading
pub returns-in_err-earlier-in-Ok-clause-reads : goal.returns-in_err-earlier-in-Ok-clause-reads
returns-in_err-earlier-in-Ok-clause-reads g c =
    let read = c.in_ok-bytes.ensures.read in
    let found = found_some source_limit read.0 c.in_ok-bytes.field-0 c.in-Some.bytes c.in-Some.is read.3 in
    let gives =
    err_from_is_err_and c.from_residual-in_err-earlier-in-Ok.result c.from_residual-in_err-earlier-in-Ok.ensures.1 in
    rw (gives.1, gives.2)
    (prelude_lacks _ _ read.0 read.1 (names_in c.args.named.now) c.args.file.now read.2 c.requires.named
    c.args.lattices.now NoMemory refl (whole_stands read.0 found.0))

-- where memory is wanting for the line of a refused prelude, the call ends so behind its whole reading
pub returns-in_err-prelude_refused-in-Err-clause-reads : goal.returns-in_err-prelude_refused-in-Err-clause-reads
returns-in_err-prelude_refused-in-Err-clause-reads g c =
    let read = c.in_ok-bytes.ensures.read in
    let found = found_some source_limit read.0 c.in_ok-bytes.field-0 c.in-Some.bytes c.in-Some.is read.3 in
    let gives = err_from_is_err_and c.from_residual-in_err-prelude_refused-in-Err.result
    c.from_residual-in_err-prelude_refused-in-Err.ensures.1 in
    rw (gives.1, gives.2)
    (prelude_lacks _ _ read.0 read.1 (names_in c.args.named.now) c.args.file.now read.2 c.requires.named
    c.args.lattices.now NoMemory refl (whole_stands read.0 found.0))

-- where memory is wanting for the line of a prelude that is too large, the call ends so behind its reading
pub returns-in_err-too_large-in-None-clause-reads : goal.returns-in_err-too_large-in-None-clause-reads
returns-in_err-too_large-in-None-clause-reads g c =
    let read = c.in_ok-bytes.ensures.read in
    let found = found_none source_limit read.0 c.in_ok-bytes.field-0 c.in-None.is read.3 in
    let gives = err_from_is_err_and c.from_residual-in_err-too_large-in-None.result
    c.from_residual-in_err-too_large-in-None.ensures.1 in
    rw (gives.1, gives.2)
    (prelude_lacks _ _ read.0 read.1 (names_in c.args.named.now) c.args.file.now read.2 c.requires.named
    c.args.lattices.now NoMemory refl (going_stands read.0 found.0))

-- the line of a prelude over its limit is the answer behind the lattice file
pub returns-clause-reads : goal.returns-clause-reads
returns-clause-reads g c =
    let named = names_in c.args.named.now in
    let file = c.args.file.now in
    let read = c.in_ok-bytes.ensures.read in
    let found = found_none source_limit read.0 c.in_ok-bytes.field-0 c.in-None.is read.3 in
    prelude_answers _ _ read.0 read.1 named file read.2 c.requires.named c.args.lattices.now
    c.in_ok-too_large-in-None.field-0 (going_stands read.0 found.0)
    (λ inputs gives. at_equal (OfUnits named inputs c.args.lattices.now) _ Malformed _ _
    c.in_ok-too_large-in-None.ensures.0 c.in_ok-too_large-in-None.ensures.1
    (PreludeTooLarge file c.requires.named (past_limit source_limit read.0 inputs.prelude found gives)))

-- the line of a prelude that does not read is the answer behind the lattice file
pub returns-in-Some-clause-reads : goal.returns-in-Some-clause-reads
returns-in-Some-clause-reads g c =
    let named = names_in c.args.named.now in
    let file = c.args.file.now in
    let fault = c.in-Err.fault in
    let said = c.in_ok-prelude_refused-in-Err.ensures in
    let read = c.in_ok-bytes.ensures.read in
    let found = found_some source_limit read.0 c.in_ok-bytes.field-0 c.in-Some.bytes c.in-Some.is read.3 in
    let same : c.deref.result.now ≡ read.0.bytes = c.deref.ensures.value ∙ sym found.1 in
    let again : c.deref-in-Err.result.now ≡ read.0.bytes = c.deref-in-Err.ensures.value ∙ sym found.1 in
    prelude_answers _ _ read.0 read.1 named file read.2 c.requires.named c.args.lattices.now
    c.in_ok-prelude_refused-in-Err.field-0 (whole_stands read.0 found.0)
    (λ inputs gives.
    let content = sym (whole_is read.0 inputs.prelude found.0 gives) in
    let Short : List ℕ → Type 0 = λ b. length b ≤ source_limit in
    let fails : PreludeFails named.wide c.args.lattices.now inputs.prelude fault = record {
      within = subst Short content found.2;
      words = c.args.words.now;
      mean = c.requires.words;
      refused = subst (λ (bytes : List ℕ). IsFaultOf named.wide c.args.words.now bytes fault)
          (same ∙ content) c.in-Err.ensures.refused;
      reason = said.reason;
    } in
    at_equal (OfUnits named inputs c.args.lattices.now) _ Malformed _ _ said.line.0
    (said.line.1 ∙ ap (λ (bytes : List ℕ). prelude_line file bytes fault) (again ∙ content))
    (PreludeRefused file fault c.requires.named fails))

-- with a prelude that reads, the answer from the sources on is that behind the lattice file
pub returns-in-Ok-clause-reads : goal.returns-in-Ok-clause-reads
returns-in-Ok-clause-reads g c =
    let named = names_in c.args.named.now in
    let lattices = c.args.lattices.now in
    let file = c.args.file.now in
    let unit = unit_of c.in-Ok.read.source in
    let marks = c.in-Ok.read.prelude in
    let read = c.in_ok-bytes.ensures.read in
    let found = found_some source_limit read.0 c.in_ok-bytes.field-0 c.in-Some.bytes c.in-Some.is read.3 in
    let same : c.deref.result.now ≡ read.0.bytes = c.deref.ensures.value ∙ sym found.1 in
    let parses = c.in-Ok.ensures.reads.parses in
    let earlier : IsEarlier 1 (unit ∷ []) c.in_ok-earlier-in-Ok.earlier =
    record { are = c.in_ok-earlier-in-Ok.ensures.units; may = prelude_alone unit parses.lexes.unit parses.formed } in
    prelude_goes _ _ read.0 read.1 named file read.2 c.requires.named lattices _
    (unit ∷ []) marks found.0 c.requires.some
    (λ inputs here.
    let content = sym here in
    let Short : List ℕ → Type 0 = λ b. length b ≤ source_limit in
    let reads : PreludeReads named.wide lattices inputs.prelude unit marks = record {
      within = subst Short content found.2;
      words = c.args.words.now;
      mean = c.requires.words;
      is = subst (λ (bytes : List ℕ). IsPrelude named.wide c.args.words.now bytes unit marks)
          (same ∙ content) c.in-Ok.ensures.reads;
    } in
    OnePrelude file unit marks c.requires.named reads)
    c.take_sources.result
    (at_marks _ _ named lattices (unit ∷ []) _ marks 1 total_limit named.sources c.take_sources.result
    c.in_ok-earlier-in-Ok.ensures.prelude (c.take_sources.ensures.reads (unit ∷ []) earlier))
