use Rattle.std.proofs.Common.{◌≡◌, ℕ, false, true, refl, subst, arith, below_more}
use Rattle.std.proofs.lemmas.Option.{slice_get_within}
use Rattle.closure_check.specs.Checking.{AsksAt}
use Rattle.closure_check.proofs.links.all_links.Goals as goal

pub returns-then-not-is_met_at : goal.returns-then-not-is_met_at
returns-then-not-is_met_at c =
    (λ (no : false ≡ true). absurd cc, λ all. c.if-not-is_met_at.ensures.1 (all c.new.result))

pub loop-n-preserved : goal.loop-n-preserved
loop-n-preserved c =
    below_more _ _ c.loop-n.invariant (let At : ℕ → Type 0 = λ k. AsksAt c.args.given.now c.args.rule k in
    subst At c.new.ensures (c.if-not-is_met_at.ensures.0 refl))

-- all links are met just if the loop comes through all constraints
pub returns : goal.returns
returns c = (
  λ yes n link st. c.loop-n.invariant n
      (let inside = slice_get_within c.args.given.now.graph.now.constraints n st.constraint st.there in
      omega (arith, inside, c.loop-n-test.false, c.len-n-end.ensures.length)) link st,
  λ all. refl,
)
