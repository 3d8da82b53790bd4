use Rattle.std.proofs.Common.{◌≡◌, ℕ, subst, sym, arith}
use Rattle.std.specs.Int.{bit_at}
use Rattle.std.proofs.lemmas.Nat.Bits.{bit_at_ones}
use Rattle.sig_writer.proofs.says.top.Goals as goal

-- each element is at or below the join of all
pub returns-clause-greatest : goal.returns-clause-greatest
returns-clause-greatest c = λ a lt.
    let few = c.law.ensures.few in
    c.join_of.ensures.upper a lt (subst (λ (set : ℕ). bit_at set a ≡ 1) (sym c.new.ensures)
    (bit_at_ones 64 a (omega (arith, lt, few))))
