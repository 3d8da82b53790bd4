use Rattle.std.proofs.Common.{◌≡◌, ℕ, ◌-◌, ◌^◌, ap, ◌∙◌, arith}
use Rattle.std.proofs.lemmas.Nat.Bits.{ones_shr}
use Rattle.lattice_core.specs.Order.{size}
use Rattle.certificate_reader.proofs.reader.all_of.Goals as goal

-- the ones below the size of a lattice are the set of all its elements
pub returns-clause-set : goal.returns-clause-set
returns-clause-set c =
    let order = c.args.lattice.now.order in
    let some : 64 - (64 - c.size.result) ≡ size order = omega (arith, c.size.ensures, c.law.ensures.few) in
    ones_shr 64 (64 - c.size.result) (omega arith) ∙ ap (λ (n : ℕ). 2 ^ n - 1) some
