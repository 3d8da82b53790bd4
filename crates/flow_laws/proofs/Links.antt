-- One number has one constraint.
use Rattle.std.proofs.Common.{◌≡◌, ℕ, sym, ◌∙◌, ap, slice_get, Some}
use Rattle.flow_graph.specs.declared.constraint.Constraint.{Constraint}
use Rattle.flow_graph.specs.declared.constraint.Link.{Link}
use Rattle.flow_graph.specs.declared.constraint.Link.TheVariants.{Bound, Enter}
use Rattle.flow_graph.specs.System.{System, Has, Stands}
use Rattle.flow_graph.proofs.Links.{some_constraint}

pub has_of : (sys : System) (lattice n : ℕ) (link : Link) → Stands sys lattice n link → Has sys n link
has_of sys lattice n link s = record { constraint = s.constraint; there = s.there; link_is = s.link_is }

pub bound_var : {v x l k b d : ℕ} → Bound v l b ≡ Bound x k d → v ≡ x
bound_var e = cc

pub bound_elem : {v x l k b d : ℕ} → Bound v l b ≡ Bound x k d → b ≡ d
bound_elem e = cc

pub bound_lattice : {v x l k b d : ℕ} → Bound v l b ≡ Bound x k d → l ≡ k
bound_lattice e = cc

pub enter_site : {s t u x a b : ℕ} → Enter s u a ≡ Enter t x b → s ≡ t
enter_site e = cc

pub enter_outer : {s t u x a b : ℕ} → Enter s u a ≡ Enter t x b → u ≡ x
enter_outer e = cc

pub enter_inner : {s t u x a b : ℕ} → Enter s u a ≡ Enter t x b → a ≡ b
enter_inner e = cc

pub link_at : (sys : System) (lattice n : ℕ) (c : Constraint) (link : Link) → slice_get sys.constraints n ≡ Some c
    → Stands sys lattice n link → c.link ≡ link
link_at sys lattice n c link is st = ap (λ (c : Constraint). c.link) (some_constraint (sym is ∙ st.there)) ∙ st.link_is

-- a constraint of one number is one bound, with one variable and one element
pub one_bound : (sys : System) (lattice n v b x d : ℕ) → Stands sys lattice n (Bound v lattice b)
    → Stands sys lattice n (Bound x lattice d) → (v ≡ x) × (b ≡ d)
one_bound sys lattice n v b x d one other =
    let same : Bound v lattice b ≡ Bound x lattice d =
    sym one.link_is ∙ ap (λ (c : Constraint). c.link) (some_constraint (sym one.there ∙ other.there)) ∙ other.link_is in
    (bound_var same, bound_elem same)
