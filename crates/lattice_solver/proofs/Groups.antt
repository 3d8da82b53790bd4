-- Groups and the summaries that they rest on.
use Rattle.std.proofs.Common.{◌≡◌, ℕ, inl, inr, List, refl, subst}
use Rattle.qual_base.specs.declared.places.Owner.TheVariants.{Function}
use Rattle.flow_graph.specs.declared.constraint.Link.TheVariants.{Enter, Leave}
use Rattle.flow_graph.specs.System.{System, owner_of, Stands}
use Rattle.flow_graph.specs.Paths.{Matches, stay, longer, Part, flow, group, grouped, grouped_on}
use Rattle.match_summary.specs.declared.reason.Summary.{Summary}
use Rattle.match_summary.specs.Summary.{Leads, AreOfOne, IsInnerEnd, Summarises}
use Rattle.flow_graph.specs.declared.phase.Phase.{Phase}
use Rattle.flow_graph.specs.declared.phase.Phase.TheVariants.{First, Second}
use Rattle.lattice_solver.specs.Phases.{LeadsIn}

-- a matched path begins and ends in its function
matches_begin : (sys : System) (lattice f u v : ℕ) → Matches sys lattice f u v → owner_of sys u ≡ Function f
matches_begin sys lattice f u v (stay _ _ o) = o
matches_begin sys lattice f u v (longer _ _ x _ m p) = matches_begin sys lattice f u x m

part_end : (sys : System) (lattice f x v : ℕ) → Part sys lattice f x v → owner_of sys v ≡ Function f
part_end sys lattice f x v (flow _ _ _ n st o) = o
part_end sys lattice f x v (group _ _ a b _ s g n m st p st2 o) = o

matches_end : (sys : System) (lattice f u v : ℕ) → Matches sys lattice f u v → owner_of sys v ≡ Function f
matches_end sys lattice f u v (stay _ _ o) = o
matches_end sys lattice f u v (longer _ _ x _ m p) = part_end sys lattice f x v p

module _ (sys : System) (lattice : ℕ) (rows : List Summary) where
  -- what the summaries join is joined by a matched path
  pub leads_matches : (a b : ℕ) → Summarises sys lattice rows → Leads rows a b → AreOfOne sys a b
      → (g : ℕ) × Matches sys lattice g a b
  leads_matches a b whole (inl same) one = (one.0, subst (λ x. Matches sys lattice one.0 a x) same (stay one.0 a one.1))
  leads_matches a b whole (inr pair) one =
      let path = whole.sound a b pair in
      (path.0, longer path.0 a path.1 b path.2 path.3)

  -- and the other way round, from the inner end of an Enter
  pub matches_leads : (g a b : ℕ) → Summarises sys lattice rows → IsInnerEnd sys lattice a → Matches sys lattice g a b
      → Leads rows a b
  matches_leads g a b whole inner (stay _ _ o) = inl refl
  matches_leads g a b whole inner (longer _ _ x _ m p) = inr (whole.whole a b inner (g, x, m, p))

  pub matches_one : (g a b : ℕ) → Matches sys lattice g a b → AreOfOne sys a b
  matches_one g a b m = (g, matches_begin sys lattice g a b m, matches_end sys lattice g a b m)

  -- a group carries each phase on
  pub group_leads : (s u a b v n m : ℕ) → Summarises sys lattice rows → Stands sys lattice n (Enter s u a)
      → Stands sys lattice m (Leave s b v) → Leads rows a b → AreOfOne sys a b →
      (p : Phase) (e : ℕ) → LeadsIn sys lattice p e u → LeadsIn sys lattice p e v
  group_leads s u a b v n m whole enter leave leads one First e path =
      let inside = leads_matches a b whole leads one in
      grouped u a b v s inside.0 n m path enter inside.1 leave
  group_leads s u a b v n m whole enter leave leads one Second e path =
      let inside = leads_matches a b whole leads one in
      grouped_on u a b v s inside.0 n m path enter inside.1 leave
