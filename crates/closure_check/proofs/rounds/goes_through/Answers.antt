use Rattle.std.proofs.Common.{◌≡◌, ℕ, false, true, inl, inr, refl, sym, ◌∙◌, subst, arith}
use Rattle.std.proofs.lemmas.Bool.{cases_lt}
use Rattle.std.proofs.lemmas.Option.{slice_get_within}
use Rattle.closure_check.specs.Checking.{GoesBack}
use Rattle.closure_check.proofs.rounds.goes_through.Goals as goal

-- one constraint of the span that does not go back denies that all do
pub returns-then-not-goes_back : goal.returns-then-not-goes_back
returns-then-not-goes_back c = (
  λ (no : false ≡ true). absurd cc,
  λ all.
      let here = c.new.ensures in
      let low = c.loop-n.auto.n in
      let high = c.loop-n-test.true in
      let end = c.min-end.ensures in
      sym c.if-not-goes_back.true
      ∙ c.goes_back.ensures.1 (all c.new.result (omega (arith, here, low), omega (arith, here, high, end))),
)

-- a constraint that goes back joins those of the span before it
pub loop-n-preserved : goal.loop-n-preserved
loop-n-preserved c = λ m from low. elim (cases_lt m c.loop-n.n) [
  | inl before ↦ c.loop-n.invariant m from before
  | inr last ↦
      let here = c.new.ensures in
      let same : c.new.result ≡ m = omega (arith, low, last, here) in
      let At : ℕ → Type 0 = λ k. GoesBack c.args.given.now c.args.going.now c.args.site c.args.inner k in
      subst At same (c.goes_back.ensures.0 c.if-not-goes_back.false)
]

-- all of the span go back when none is left, as none lies past the last constraint
pub returns : goal.returns
returns c = (
  λ yes m lies y pair v st.
      let inside = slice_get_within c.args.given.now.graph.now.constraints m st.constraint st.there in
      let past = c.loop-n-test.false in
      let end = c.min-end.ensures in
      let count = c.len.ensures.length in
      let high = lies.1 in
      c.loop-n.invariant m lies.0 (omega (arith, inside, past, end, count, high)) y pair v st,
  λ all. refl,
)
