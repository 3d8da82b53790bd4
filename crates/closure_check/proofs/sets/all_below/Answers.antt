use Rattle.std.proofs.Common.{◌≡◌, ◌<◌, ◌^◌, ℕ, false, true, refl, arith, inl, inr, sym, ◌∙◌, ap, subst, below_more}
use Rattle.std.specs.Int.{bit_at}
use Rattle.std.proofs.lemmas.Nat.Bits.{shr_and_one}
use Rattle.lattice_core.specs.Order.{leq}
use Rattle.std.proofs.lemmas.Bool.{cases_lt}
use Rattle.closure_check.proofs.BitSets.{bit_of, none_above}
use Rattle.closure_check.proofs.sets.all_below.Goals as goal
use Rattle.closure_check.proofs.sets.all_below.Goals.{else-bits-n-eq1-via-then-bits-n-eq1+else-not-is_at_or_below, else-bits-n-eq1-via-else-bits-n-eq1}

-- each element of a set is at or below the limit where those below 64 are, as it has no other
pub returns : goal.returns
returns c = (
  λ yes e is. elim (cases_lt e 64) [
    | inl low ↦ c.loop-n.invariant e (omega (arith, low, c.loop-n-test.false)) is
    | inr high ↦
        let wrong : true ≡ false = sym is
        ∙ none_above c.args.set e (subst (λ (n : ℕ). n < 2 ^ 64) c.number-bits.ensures c.number-bits.type_inv) high in
        absurd cc
  ],
  λ all. refl,
)

-- a bit that is not set, or that is of an element at or below the limit, joins those before it
pub loop-n-preserved : goal.loop-n-preserved
loop-n-preserved c = below_more _ _ c.loop-n.invariant (elim c.else-bits-n-eq1.branch [
  | else-bits-n-eq1-via-then-bits-n-eq1+else-not-is_at_or_below w ↦ λ is.
      subst (λ (e : ℕ). leq c.args.lattice.now.order e c.args.limit ≡ true) w.new.ensures
      (sym w.is_at_or_below.ensures ∙ w.if-not-is_at_or_below.false)
  | else-bits-n-eq1-via-else-bits-n-eq1 w ↦ λ is.
      absurd (w.if-bits-n-eq1.false (shr_and_one c.number-bits.result c.loop-n.n
      ∙ ap (λ (n : ℕ). bit_at n c.loop-n.n) c.number-bits.ensures ∙ bit_of c.args.set c.loop-n.n is))
])
