use Rattle.std.proofs.Common.{◌∷◌, arith}
use Rattle.std.proofs.lemmas.Result.{err_from_is_err_and}
use Rattle.path_checker.specs.Lines.{lines_of}
use Rattle.path_checker.proofs.Reading.{Stands, stands_before, fails_here, takes_here}
use Rattle.path_checker.proofs.report.read_lines.Goals as goal

-- a line that fails behind such as were taken is the first fault of the report
pub returns-in_err-take_line-clause-fault : goal.returns-in_err-take_line-clause-fault
returns-in_err-take_line-clause-fault c =
    let here : Stands c.args.edges (lines_of c.args.bytes.now) c.lines.reader c.lines.number
    (c.line_kind.result ∷ lines_of c.in-Some.behind.now) =
    stands_before _ _ _ _ c.lines.rest.now c.in-Some.line.now c.in-Some.behind.now c.line_kind.result
    c.lines.invariant.stands c.in-Some.ensures.parts c.line_kind.ensures in
    let p = err_from_is_err_and c.from_residual.result c.from_residual.ensures.1 in
    rw (p.1, p.2) (fails_here _ _ _ _ _ _ _ here c.in_err-take_line.ensures.err)

-- a line that is taken leads to the state behind it, with one line fewer to read
pub lines-preserved : goal.lines-preserved
lines-preserved c =
    let here : Stands c.args.edges (lines_of c.args.bytes.now) c.lines.reader c.lines.number
    (c.line_kind.result ∷ lines_of c.in-Some.behind.now) =
    stands_before _ _ _ _ c.lines.rest.now c.in-Some.line.now c.in-Some.behind.now c.line_kind.result
    c.lines.invariant.stands c.in-Some.ensures.parts c.line_kind.ensures in
    record {
      stands = takes_here _ _ _ _ _ _ _ here c.in_ok-take_line.ensures.ok;
      few = omega (arith, c.in-Some.ensures.shorter);
    }
