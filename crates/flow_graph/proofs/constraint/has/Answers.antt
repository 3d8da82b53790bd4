use Rattle.std.proofs.Common.{◌≡◌, ◌≤◌, true, false, arith}
use Rattle.std.specs.Int.{bit_at}
use Rattle.std.proofs.lemmas.Nat.Bits.{bit_at_above}
use Rattle.flow_graph.proofs.constraint.has.Goals as goal

-- a mask of 16 bits has no bit of a lattice from 16 on
pub returns-then-number-ge16 : goal.returns-then-number-ge16
returns-then-number-ge16 c =
    let past : 16 ≤ c.args.lattice = omega (arith, c.number.ensures, c.if-number-ge16.true) in
    let none : bit_at c.args.mask c.args.lattice ≡ 0 =
    bit_at_above c.args.mask 16 c.args.lattice c.ranges.mask.fits past in
    let no : bit_at c.args.mask c.args.lattice ≡ 1 → ⊥ = (λ one. omega (arith, none, one)) in
    (λ there. let is : false ≡ true = there in absurd cc, λ one. absurd (no one))
