use Rattle.std.proofs.Common.{◌≡◌, ℕ, false, true, refl, subst, arith, below_more}
use Rattle.std.proofs.lemmas.Option.{slice_get_within}
use Rattle.certificate_laws.specs.declared.rule.CertRule.{CertRule}
use Rattle.closure_check.specs.Checking.{AsksAt}
use Rattle.closure_check.proofs.links.all_met.Goals as goal

pub returns-then-not-are_met_at : goal.returns-then-not-are_met_at
returns-then-not-are_met_at c = λ (no : false ≡ true). absurd cc

pub loop-n-preserved : goal.loop-n-preserved
loop-n-preserved c = below_more _ _ c.loop-n.invariant
    (let At : ℕ → Type 0 = λ k. (rule : CertRule) → AsksAt c.args.given.now rule k in
    subst At c.new.ensures (c.if-not-are_met_at.ensures refl))

-- where the loop comes through, each link is met by every rule
pub returns : goal.returns
returns c = λ yes rule n link st. c.loop-n.invariant n
    (let inside = slice_get_within c.args.given.now.graph.now.constraints n st.constraint st.there in
    omega (arith, inside, c.loop-n-test.false, c.len-n-end.ensures.length)) rule link st
