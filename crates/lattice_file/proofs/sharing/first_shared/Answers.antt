use Rattle.std.proofs.Common.{arith}
use Rattle.lattice_file.proofs.ShareLemmas.{apart_on}
use Rattle.lattice_file.proofs.sharing.first_shared.Goals as goal

pub loop-at-preserved : goal.loop-at-preserved
loop-at-preserved c = apart_on c.args.all.now c.loop-at.at c.loop-at.invariant c.in_default.ensures

pub returns : goal.returns
returns c at elem name within shared =
    c.loop-at.invariant at elem name (omega (arith, within, c.loop-at-test.false, c.len-at-end.ensures.count)) shared
