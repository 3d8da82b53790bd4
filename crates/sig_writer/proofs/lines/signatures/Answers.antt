use Rattle.std.proofs.Common.{◌+◌, map, drop}
use Rattle.std.proofs.lemmas.Result.{err_from_is_err_and}
use Rattle.sig_writer.specs.Signatures.{first_refusal, lines_of, refusal_of}
use Rattle.sig_writer.specs.Library.{external_by, externals_by}
use Rattle.sig_writer.proofs.LineLemmas.{fault_first}
use Rattle.sig_writer.proofs.Taking.{comes_next, first_next, known_next, line_next, no_refusal}
use Rattle.sig_writer.proofs.lines.signatures.Goals as goal

-- the line of one more function keeps the text the lines of the functions so far, of which none is refused
pub loop-at-preserved : goal.loop-at-preserved
loop-at-preserved c = λ it known.
    let lib = c.args.library.now in
    let lattice = c.args.known.now.lattice.now in
    let places = lib.functions.now in
    let i = c.loop-at.at-index in
    let p = c.at-item.result in
    let comes = comes_next places i p c.loop-at-test.true c.at-item.is in
    let line = c.in_ok-put_function.ensures.line it
    (known_next (external_by lib) places i p comes c.args.known.now it known) in
    let before = c.loop-at.invariant it known in (
      no_refusal (external_by lib) places i p comes it lattice
          (first_refusal it lattice (externals_by lib)) before.0 line.0,
      line_next (external_by lib) places i p comes it lattice
          (lines_of it lattice (externals_by lib)) c.loop-at.text.items
          c.put_function.new.out.items before.1 line.1,
    )

-- the fault of one function is that of the library, where none before it is refused
pub returns-in_err-put_function-clause-refused : goal.returns-in_err-put_function-clause-refused
returns-in_err-put_function-clause-refused c =
    let failed = err_from_is_err_and c.from_residual.result c.from_residual.ensures.1 in
    rw (failed.1, failed.2) (λ it known.
    let lib = c.args.library.now in
    let lattice = c.args.known.now.lattice.now in
    let places = lib.functions.now in
    let i = c.loop-at.at-index in
    let p = c.at-item.result in
    let comes = comes_next places i p c.loop-at-test.true c.at-item.is in
    fault_first c.in_err-put_function.field-0.0 (refusal_of it lattice (external_by lib p))
    (first_refusal it lattice (map (external_by lib) (drop (i + 1) places)))
    (first_refusal it lattice (externals_by lib))
    (c.in_err-put_function.ensures.refused it (known_next (external_by lib) places i p comes c.args.known.now it known))
    (first_next (external_by lib) places i p comes it lattice (first_refusal it lattice (externals_by lib))
    (c.loop-at.invariant it known).0))
