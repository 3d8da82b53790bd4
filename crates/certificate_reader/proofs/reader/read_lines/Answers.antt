use Rattle.std.proofs.Common.{arith}
use Rattle.std.proofs.lemmas.Result.{err_from_is_err_and}
use Rattle.certificate_reader.specs.Reader.{IsReadAs}
use Rattle.certificate_reader.proofs.HeldLemmas.{takes_here, fails_here, reads_whole, none_left, both_ok}
use Rattle.certificate_reader.proofs.reader.read_lines.Goals as goal

-- a line that fails behind such as were taken is the first fault of the text
pub returns-in_err-take_line-clause-fault : goal.returns-in_err-take_line-clause-fault
returns-in_err-take_line-clause-fault c =
    let sys = c.args.scene.now.graph.now in
    let alls = c.args.scene.now.alls.now in
    let p = err_from_is_err_and c.from_residual.result c.from_residual.ensures.1 in
    rw (p.1, p.2) (fails_here sys alls c.law.ensures.few c.requires.few c.args.bytes.now c.lines.reader c.lines.number
    c.lines.rest.now c.in-Some.behind.now c.in-Some.line _ c.lines.invariant.stands c.in-Some.ensures
    c.in_err-take_line.ensures.err)

-- a line that is taken leads to the state behind it, one line further
pub lines-preserved : goal.lines-preserved
lines-preserved c =
    let sys = c.args.scene.now.graph.now in
    let alls = c.args.scene.now.alls.now in
    record {
      stands = takes_here sys alls c.law.ensures.few c.requires.few c.args.bytes.now c.lines.reader c.take_line.new.self
          c.lines.number c.lines.rest.now c.in-Some.behind.now c.in-Some.line
          c.lines.invariant.stands c.in-Some.ensures c.in_ok-take_line.ensures.ok;
      few = omega (arith, c.in-Some.ensures.shorter, c.lines.invariant.few);
    }

-- where the last line was taken and all lattices have begun, the text is that of the certificates
pub returns-clause-reads : goal.returns-clause-reads
returns-clause-reads c =
    let sys = c.args.scene.now.graph.now in
    let alls = c.args.scene.now.alls.now in
    both_ok _ (λ parts. IsReadAs sys alls c.args.bytes.now parts.items) c.finish.result
    (λ parts ends closes. reads_whole sys alls c.law.ensures.few c.requires.few c.args.bytes.now c.lines.reader
    c.lines.number c.lines.rest.now parts.items c.lines.invariant.stands (none_left c.lines.rest.now c.is_empty.result
    c.if-not-is_empty.false c.is_empty.ensures) ends closes) c.finish.ensures.ends c.finish.ensures.parts
