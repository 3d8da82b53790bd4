use Rattle.std.proofs.Common.{◌≡◌, ◌-◌, arith}
use Rattle.std.proofs.lemmas.Nat.Bits.{ones_shr}
use Rattle.lattice_core.proofs.rows.all_below.Goals as goal

pub returns : goal.returns
returns c =
    let e : 64 - (64 - c.args.count) ≡ c.args.count = omega arith in
    rw e at (ones_shr 64 (64 - c.args.count) (omega arith))
