use Rattle.std.proofs.Common.{◌≡◌, false, true, sym, ◌∙◌}
use Rattle.certificate_laws.specs.declared.rule.CertRule.TheVariants.{A1, A3, A4, A5, A6, A8, A9}
use Rattle.closure_check.proofs.Asked.{back_obeyed, bound_obeyed, by_both, by_links, by_pairs, by_vars, call_obeyed, const_obeyed, each_link, each_pair, flow_obeyed, pair_flow_obeyed, pair_obeyed, vars_by}
use Rattle.closure_check.proofs.checks.is_obeyed.Goals as goal

-- rule A1 is obeyed just if each constant is met
pub returns-in-A1 : goal.returns-in-A1
returns-in-A1 c = (
  λ yes. by_links c.args.given.now c.args.rule A1 c.in-A1.is (const_obeyed c.args.given.now)
      (c.links_met.ensures.0 yes),
  λ obeyed. c.links_met.ensures.1 (each_link c.args.given.now c.args.rule obeyed),
)

-- rule A3 is obeyed just if each `Le` is met
pub returns-in-A3 : goal.returns-in-A3
returns-in-A3 c = (
  λ yes. by_links c.args.given.now c.args.rule A3 c.in-A3.is (flow_obeyed c.args.given.now)
      (c.links_met-in-A3.ensures.0 yes),
  λ obeyed. c.links_met-in-A3.ensures.1 (each_link c.args.given.now c.args.rule obeyed),
)

-- rule A4 is obeyed just if each `Leave` is met
pub returns-in-A4 : goal.returns-in-A4
returns-in-A4 c = (
  λ yes. by_links c.args.given.now c.args.rule A4 c.in-A4.is (back_obeyed c.args.given.now)
      (c.links_met-in-A4.ensures.0 yes),
  λ obeyed. c.links_met-in-A4.ensures.1 (each_link c.args.given.now c.args.rule obeyed),
)

-- rule A5 is obeyed just if each `Enter` is met by its second sets and its pair
pub returns-in-A5 : goal.returns-in-A5
returns-in-A5 c = (
  λ yes. by_links c.args.given.now c.args.rule A5 c.in-A5.is (call_obeyed c.args.given.now)
      (c.links_met-in-A5.ensures.0 yes),
  λ obeyed. c.links_met-in-A5.ensures.1 (each_link c.args.given.now c.args.rule obeyed),
)

-- rule A9 is obeyed just if each bound is met
pub returns-in-A9 : goal.returns-in-A9
returns-in-A9 c = (
  λ yes. by_links c.args.given.now c.args.rule A9 c.in-A9.is (bound_obeyed c.args.given.now)
      (c.links_met-in-A9.ensures.0 yes),
  λ obeyed. c.links_met-in-A9.ensures.1 (each_link c.args.given.now c.args.rule obeyed),
)

-- rule A6 is obeyed just if each pair is met by each `Le` at its end
pub returns-in-A6 : goal.returns-in-A6
returns-in-A6 c = (
  λ yes. by_pairs c.args.given.now c.args.rule A6 c.in-A6.is (pair_flow_obeyed c.args.given.now)
      (c.all_pairs.ensures.0 yes),
  λ obeyed. c.all_pairs.ensures.1 (each_pair c.args.given.now c.args.rule obeyed),
)

-- rule A8 is obeyed just if of each pair the first one's second set is within that of the other
pub returns-in-A8 : goal.returns-in-A8
returns-in-A8 c = (
  λ yes. by_pairs c.args.given.now c.args.rule A8 c.in-A8.is (pair_obeyed c.args.given.now)
      (c.all_pairs-in-A8.ensures.0 yes),
  λ obeyed. c.all_pairs-in-A8.ensures.1 (each_pair c.args.given.now c.args.rule obeyed),
)

-- rule A2 is obeyed just if the sets of each variable are nested
pub returns-in-A2 : goal.returns-in-A2
returns-in-A2 c = (
  λ yes. by_vars c.args.given.now c.args.rule c.in-A2.is (c.all_vars.ensures.0 yes),
  λ obeyed. c.all_vars.ensures.1 (vars_by c.args.given.now c.args.rule c.in-A2.is obeyed),
)

-- rule A7, with each link met, is obeyed just if each pair is met
pub returns-then-links_met : goal.returns-then-links_met
returns-then-links_met c = (
  λ met. by_both c.args.given.now c.args.rule c.in-A7.is (c.links_met-in-A7.ensures.0 c.if-links_met.true)
      (c.all_pairs-then-links_met.ensures.0 met),
  λ obeyed. c.all_pairs-then-links_met.ensures.1 (each_pair c.args.given.now c.args.rule obeyed),
)

-- rule A7 is not obeyed where a link is not met
pub returns-else-links_met : goal.returns-else-links_met
returns-else-links_met c = (
  λ met. let wrong : false ≡ true = sym c.if-links_met.false ∙ met in absurd cc,
  λ obeyed. c.links_met-in-A7.ensures.1 (each_link c.args.given.now c.args.rule obeyed),
)
