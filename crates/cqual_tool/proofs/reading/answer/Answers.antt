use Rattle.std.proofs.Common.{◌≡◌, ◌≤◌, ℕ, List, length, refl, sym, ◌∙◌, subst}
use Rattle.std.proofs.lemmas.Result.{err_from_is_err_and}
use Rattle.lattice_file.specs.Faults.{Reads, IsFileFault}
use Rattle.cqual_tool.specs.declared.status.Status.TheVariants.{Malformed}
use Rattle.cqual_tool.specs.declared.taking.Failure.TheVariants.{NoMemory}
use Rattle.cqual_tool.specs.Words.{names_in}
use Rattle.cqual_tool.specs.Outcome.{LatticesFail, LatticesRead, OfFiles, LatticeRead, LatticeRefused, LatticeTooLarge, lattice_limit}
use Rattle.cqual_tool.proofs.Outcomes.{at_equal}
use Rattle.cqual_tool.proofs.Readings.{past_limit, whole_is}
use Rattle.cqual_tool.proofs.Stages.{found_none, found_some, going_stands, lattice_answers, lattice_goes, lattice_lacks, lattice_stops, whole_stands}
use Rattle.cqual_tool.proofs.reading.answer.Goals as goal

-- where taking the lattice file stops, by a failed read or want of memory, the call ends with that
pub returns-in_err-bytes-clause-reads : goal.returns-in_err-bytes-clause-reads
returns-in_err-bytes-clause-reads g c =
    let read = c.in_err-bytes.ensures.read in
    let gives = err_from_is_err_and c.from_residual.result c.from_residual.ensures.1 in
    rw (gives.1, gives.2) (lattice_stops _ _ read.0 read.1 (names_in c.args.named.now) read.2 lattice_limit _ read.3)

-- where memory is wanting for the line of a refused lattice file, the call ends so behind its whole reading
pub returns-in_err-lattice_refused-in-Err-clause-reads : goal.returns-in_err-lattice_refused-in-Err-clause-reads
returns-in_err-lattice_refused-in-Err-clause-reads g c =
    let read = c.in_ok-bytes.ensures.read in
    let found = found_some lattice_limit read.0 c.in_ok-bytes.field-0 c.in-Some.bytes c.in-Some.is read.3 in
    let gives = err_from_is_err_and c.from_residual-in_err-lattice_refused-in-Err.result
    c.from_residual-in_err-lattice_refused-in-Err.ensures.1 in
    rw (gives.1, gives.2)
    (lattice_lacks _ _ read.0 read.1 (names_in c.args.named.now) read.2 NoMemory refl (whole_stands read.0 found.0))

-- where memory is wanting for the line of a lattice file that is too large, the call ends so behind its reading
pub returns-in_err-too_large-in-None-clause-reads : goal.returns-in_err-too_large-in-None-clause-reads
returns-in_err-too_large-in-None-clause-reads g c =
    let read = c.in_ok-bytes.ensures.read in
    let found = found_none lattice_limit read.0 c.in_ok-bytes.field-0 c.in-None.is read.3 in
    let gives = err_from_is_err_and c.from_residual-in_err-too_large-in-None.result
    c.from_residual-in_err-too_large-in-None.ensures.1 in
    rw (gives.1, gives.2)
    (lattice_lacks _ _ read.0 read.1 (names_in c.args.named.now) read.2 NoMemory refl (going_stands read.0 found.0))

-- the line of a lattice file over its limit is the answer of all files
pub returns-clause-reads : goal.returns-clause-reads
returns-clause-reads g c =
    let named = names_in c.args.named.now in
    let read = c.in_ok-bytes.ensures.read in
    let found = found_none lattice_limit read.0 c.in_ok-bytes.field-0 c.in-None.is read.3 in
    lattice_answers _ _ read.0 read.1 named read.2 c.in_ok-too_large-in-None.field-0 (going_stands read.0 found.0)
    (λ inputs gives.
    at_equal
    (OfFiles named inputs) _ Malformed _ _ c.in_ok-too_large-in-None.ensures.0 c.in_ok-too_large-in-None.ensures.1
    (LatticeTooLarge (past_limit lattice_limit read.0 inputs.lattice found gives)))

-- the line of a lattice file that does not read is the answer of all files
pub returns-in-Some-clause-reads : goal.returns-in-Some-clause-reads
returns-in-Some-clause-reads g c =
    let named = names_in c.args.named.now in
    let fault = c.in-Err.fault in
    let said = c.in_ok-lattice_refused-in-Err.ensures in
    let read = c.in_ok-bytes.ensures.read in
    let found = found_some lattice_limit read.0 c.in_ok-bytes.field-0 c.in-Some.bytes c.in-Some.is read.3 in
    let same : c.deref.result.now ≡ read.0.bytes = c.deref.ensures.value ∙ sym found.1 in
    lattice_answers _ _ read.0 read.1 named read.2 c.in_ok-lattice_refused-in-Err.field-0 (whole_stands read.0 found.0)
    (λ inputs gives.
    let content = sym (whole_is read.0 inputs.lattice found.0 gives) in
    let Short : List ℕ → Type 0 = λ b. length b ≤ lattice_limit in
    let fails : LatticesFail named.wide inputs.lattice fault = record {
      within = subst Short content found.2;
      refused =
          subst (λ (bytes : List ℕ). IsFileFault named.wide bytes fault) (same ∙ content) c.in-Err.ensures.refused;
      reason = said.reason;
    } in
    at_equal (OfFiles named inputs) _ Malformed _ _ said.line.0 said.line.1 (LatticeRefused fault fails))

-- over lattices that were read, the answer behind the lattice file is that of all files
pub returns-in-Ok-clause-reads : goal.returns-in-Ok-clause-reads
returns-in-Ok-clause-reads g c =
    let named = names_in c.args.named.now in
    let lattices = c.in-Ok.lattices in
    let read = c.in_ok-bytes.ensures.read in
    let found = found_some lattice_limit read.0 c.in_ok-bytes.field-0 c.in-Some.bytes c.in-Some.is read.3 in
    let same : c.deref.result.now ≡ read.0.bytes = c.deref.ensures.value ∙ sym found.1 in
    let reads : LatticesRead named.wide read.0.bytes lattices = record {
      within = found.2;
      read = subst (λ (bytes : List ℕ). Reads named.wide bytes lattices) same c.in-Ok.ensures.read;
    } in
    lattice_goes _ _ read.0 read.1 named read.2 _ lattices found.0 reads (λ inputs status text here of. LatticeRead
    lattices status text (subst (λ (bytes : List ℕ). LatticesRead named.wide bytes lattices) (sym here) reads) of)
    c.take_units.result c.take_units.ensures.reads
