use Rattle.std.proofs.Common.{◌≤◌, ◌<◌, ◌^◌, ℕ, sym, ◌∙◌, subst}
use Rattle.qual_base.proofs.Tests.{not_below}
use Rattle.closure_check.proofs.BitSets.{none_above}
use Rattle.closure_check.proofs.sets.has_elem.Goals as goal

-- a set has no element from 64 on
pub returns-else-number-lt64 : goal.returns-else-number-lt64
returns-else-number-lt64 c =
    let high : 64 ≤ c.args.elem = subst (λ (n : ℕ). 64 ≤ n) c.number.ensures c.if-number-lt64.false in
    let small : c.args.set < 2 ^ 64 = subst (λ (n : ℕ). n < 2 ^ 64) c.number-bits.ensures c.number-bits.type_inv in
    not_below c.number.result 64 c.if-number-lt64.false ∙ sym (none_above c.args.set c.args.elem small high)
