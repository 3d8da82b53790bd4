use Rattle.std.proofs.Common.{◌≡◌, sym, ◌∙◌, ap, subst}
use Rattle.flow_graph.specs.declared.constraint.Constraint.{Constraint}
use Rattle.flow_graph.specs.declared.constraint.Link.{Link}
use Rattle.flow_graph.proofs.Links.{some_constraint}
use Rattle.closure_check.specs.Checking.{Asks}
use Rattle.closure_check.proofs.links.are_met_at.Goals as goal

-- a constraint of the lattice is met by every rule where its link is
pub returns : goal.returns
returns c = λ yes rule link st.
    let same : c.constraint-constraint.result ≡ st.constraint =
    some_constraint (sym c.constraint-constraint.ensures.there ∙ st.there) in
    subst (λ (l : Link). Asks c.args.given.now rule l) (ap (λ (k : Constraint). k.link) same ∙ st.link_is)
    (c.are_met.ensures yes rule)
