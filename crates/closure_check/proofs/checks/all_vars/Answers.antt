use Rattle.std.proofs.Common.{◌≡◌, ℕ, false, true, inl, inr, refl, sym, ◌∙◌, subst, arith, below_more}
use Rattle.std.proofs.lemmas.Bool.{cases_lt}
use Rattle.closure_check.specs.Checking.{AsksVar}
use Rattle.closure_check.proofs.BitSets.{none_past}
use Rattle.closure_check.proofs.checks.all_vars.Goals as goal

pub loop-n-preserved : goal.loop-n-preserved
loop-n-preserved c =
    below_more _ _ c.loop-n.invariant
    (subst (λ (v : ℕ). AsksVar c.args.given.now v) c.new.ensures (c.is_nested.ensures.0 c.if-not-is_nested.false))

-- when no variable is left, A2 asks nothing more: past the last one the sets are empty
pub returns : goal.returns
returns c = (
  λ yes v. elim (cases_lt v c.loop-n.n) [
    | inl low ↦ c.loop-n.invariant v low
    | inr high ↦
        let part = c.requires.part in
        let vars = c.vars-n-end.ensures.value in (
          λ e is. let wrong : true ≡ false = sym is ∙ none_past c.args.given.now.part.now.first.items v e
              (omega (arith, high, part.firsts.size_is, vars, c.loop-n-test.false)) in
              absurd cc,
          λ nobody e is.
              let wrong : true ≡ false = sym is ∙ none_past c.args.given.now.part.now.second.items v e
              (omega (arith, high, part.seconds.size_is, vars, c.loop-n-test.false)) in
              absurd cc,
        )
  ],
  λ all. refl,
)
