use Rattle.std.proofs.Common.{arith}
use Rattle.std.proofs.lemmas.Result.{err_from_is_err_and}
use Rattle.lattice_file.specs.Reading.{standing_of}
use Rattle.lattice_file.proofs.FirstBad.{stands_next, gap_bad, end_bad, end_reads, fault_first}
use Rattle.lattice_file.proofs.reading.read_blocks.Goals as goal

pub returns-in-Err-clause-first : goal.returns-in-Err-clause-first
returns-in-Err-clause-first c =
    gap_bad c.args.wide c.args.bytes.now c.loop-start.at c.in-Err.place
    (standing_of c.loop-start.reader) c.loop-start.invariant c.in-Err.ensures.fails

-- where the reader stands outside at the end, the bytes are a text of the blocks that it has
pub returns-in-Some-clause-text : goal.returns-in-Some-clause-text
returns-in-Some-clause-text c =
    end_reads c.args.wide c.args.bytes.now c.loop-start.at c.in-Ok.start
    (standing_of c.loop-start.reader) c.in-Some.blocks.items c.loop-start.invariant c.in-Ok.ensures.later
    c.if-start-bytes.true c.in-Ok.ensures.gap c.in-Some.ensures.outside c.in-Some.ensures.blocks

pub returns-in-None-clause-first : goal.returns-in-None-clause-first
returns-in-None-clause-first c =
    end_bad c.args.wide c.args.bytes.now c.loop-start.at c.in-Ok.start (standing_of c.loop-start.reader)
    c.loop-start.invariant c.in-Ok.ensures.later c.if-start-bytes.true c.in-Ok.ensures.gap c.in-None.ensures.inside

-- a lexeme that fails is the first bad place of the text
pub returns-in_err-at-clause-first : goal.returns-in_err-at-clause-first
returns-in_err-at-clause-first c =
    let p = err_from_is_err_and c.from_residual.result c.from_residual.ensures.1 in
    rw (p.1, p.2)
    (fault_first c.args.wide c.args.bytes.now c.loop-start.at c.in-Ok.start c.loop-start.reader c.in_err-at.field-0.0
    c.loop-start.invariant c.in-Ok.ensures.later (omega (arith, c.in-Ok.ensures.within, c.if-start-bytes.false))
    c.in-Ok.ensures.gap c.in-Ok.ensures.stops c.in_err-at.ensures.fails)

-- behind a gap and a lexeme the reader stands at the next place
pub loop-start-preserved : goal.loop-start-preserved
loop-start-preserved c =
    stands_next c.args.wide c.args.bytes.now c.loop-start.at c.in-Ok.start c.in_ok-at.at
    (standing_of c.loop-start.reader) (standing_of c.take_lexeme.new.reader) c.loop-start.invariant
    c.in-Ok.ensures.later c.in_ok-at.ensures.later c.in_ok-at.ensures.within c.in-Ok.ensures.gap c.in_ok-at.ensures.goes
