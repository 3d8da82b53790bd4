use Rattle.std.proofs.Common.{◌≡◌, ℕ, inl, inr, length, refl, sym, ◌∙◌, ap, subst, arith, get_or-set_same, get_or-set_other, true, false, get_or, set, ◌≤◌}
use Rattle.std.proofs.lemmas.Bool.{cases_eq}
use Rattle.flow_graph.specs.declared.constraint.Link.TheVariants.{Enter}
use Rattle.flow_graph.specs.System.{Stands, vars_of_link}
use Rattle.match_summary.proofs.Followed.{one_link, stands_in}
use Rattle.match_summary.proofs.closure.mark.Goals as goal

-- the variable to which an `Enter` leads has a mark
pub index_mut-requires : goal.index_mut-requires
index_mut-requires c =
    let below : vars_of_link
    (Enter c.in-Some.call.site c.in-Some.call.from c.in-Some.call.to) ≤ length c.args.ends.now.items =
    c.requires.below c.args.at (Enter c.in-Some.call.site c.in-Some.call.from c.in-Some.call.to)
    (record {
      constraint = c.constraint-constraint.result;
      there = c.constraint-constraint.ensures.there;
      link_is = c.in-Some.ensures;
    }) in
    omega (arith, below, c.number.ensures, (c.args.ends.now.ok).0)

-- a mark that is new is that of the variable to which the `Enter` leads
pub returns-in-Some-clause-only : goal.returns-in-Some-clause-only
returns-in-Some-clause-only c = λ a is. elim (cases_eq c.number.result a) [
  | inl same ↦
      let st = stands_in c.args.graph.now c.args.lattice c.args.at c.constraint-constraint.result
      c.constraint-constraint.ensures.there
      (Enter c.in-Some.call.site c.in-Some.call.from c.in-Some.call.to) c.in-Some.ensures
      (c.if-not-is_in.ensures.0 refl) in
      inr (
        c.args.at,
        c.in-Some.call.site,
        c.in-Some.call.from,
        subst (λ (x : ℕ). Stands c.args.graph.now c.args.lattice c.args.at
            (Enter c.in-Some.call.site c.in-Some.call.from x)) (sym c.number.ensures ∙ same) st,
      )
  | inr other ↦
      inl (sym (get_or-set_other c.args.ends.now.items c.number.result a true false (λ e. other (sym e))) ∙ is)
]

-- the variable to which the `Enter` of this number leads is marked afterwards
pub returns-in-Some-clause-there : goal.returns-in-Some-clause-there
returns-in-Some-clause-there c = λ s u a st.
    let e = one_link c.args.graph.now c.args.lattice c.args.at c.constraint-constraint.result
    c.constraint-constraint.ensures.there
    (Enter c.in-Some.call.site c.in-Some.call.from c.in-Some.call.to) (Enter s u a) c.in-Some.ensures st in
    let to : c.in-Some.call.to ≡ a = cc in
    let at : a ≡ c.number.result = sym to ∙ sym c.number.ensures in
    let below : vars_of_link
    (Enter c.in-Some.call.site c.in-Some.call.from c.in-Some.call.to) ≤ length c.args.ends.now.items =
    c.requires.below c.args.at (Enter c.in-Some.call.site c.in-Some.call.from c.in-Some.call.to)
    (record {
      constraint = c.constraint-constraint.result;
      there = c.constraint-constraint.ensures.there;
      link_is = c.in-Some.ensures;
    }) in
    ap (λ k. get_or (set c.args.ends.now.items c.number.result true) k false) at ∙
    get_or-set_same c.args.ends.now.items c.number.result true false (omega (arith, below, c.number.ensures))
