use Rattle.std.proofs.Common.{◌-◌, ◌/◌, ◌^◌, ℕ, ◌∙◌, ap}
use Rattle.closure_check.proofs.BitSets.{all_elements}
use Rattle.closure_check.proofs.part.elements.Goals as goal

-- the number of all elements has just the bits below the size of the lattice
pub returns : goal.returns
returns c = λ e.
    let is = c.new.ensures ∙ ap (λ (n : ℕ). (2 ^ 64 - 1) / 2 ^ (64 - n)) c.size.ensures in
    all_elements _ c.new.result c.law.ensures.few is e
