-- No run of an accepted program has a violation.
use Rattle.std.proofs.Common.{◌≡◌, ℕ, true, length, max, arith, subst, sym, ap, ◌∙◌, inl, inr}
use Rattle.lattice_core.specs.Order.{Order, IsOrder, leq}
use Rattle.flow_graph.specs.declared.constraint.Link.TheVariants.{Bound}
use Rattle.flow_graph.specs.System.{System, Stands, owner_of}
use Rattle.flow_graph.specs.Unfolding.{Meets, Assignment}
use Rattle.qual_types.specs.Skel.{Skel, root}
use Rattle.run_laws.specs.Shapes.{Belongs}
use Rattle.run_laws.specs.Programs.{Program, IsSystemOf}
use Rattle.run_laws.specs.Runs.{Value, World, State, skel_at, Run, Exceeds, IsViolated}
use Rattle.run_laws.specs.Laws.{RunsAreSafe}
use Rattle.run_laws.proofs.Types.{top, AllBelow, below_one}
use Rattle.run_laws.proofs.Keeping.{FitsIn, AllFit, el, runs_keep, reached, met_in, reg_leads, belongs_root, top_read, top_kept, false_not}
use Rattle.run_laws.proofs.Depths.{depth_of, copy_of, all_fit}

abbrev frame_of : (sys : System) (lattice : ℕ) (order : Order) (p : Program) (w : World) (st : State)
    → IsViolated sys lattice order p w st → ℕ
frame_of sys lattice order p w st (inl v) = v.frame
frame_of sys lattice order p w st (inr v) = v.frame

module _ (sys : System) (lattice : ℕ) (order : Order) (depth : ℕ) (map : Assignment) (p : Program) (w : World)
    (ordered : IsOrder order) (meets : Meets sys lattice order depth map) (of : IsSystemOf sys lattice p) where
  abbrev els : ℕ → ℕ → ℕ
  els i v = el sys lattice order depth map p w ordered meets.rises of (w.frame i).sites v

  bound_holds : (i n e : ℕ) (s : Skel) → FitsIn sys depth w i → Belongs (owner_of sys) (w.frame i).owner s
      → Stands sys lattice n (Bound (root s) lattice e) → leq order (els i (root s)) e ≡ true
  bound_holds i n e s deep mine st =
      let met = met_in sys lattice order depth map p w ordered meets.rises of (w.frame i).owner (w.frame i).sites
      (root s) deep (belongs_root (owner_of sys) (w.frame i).owner s mine) in
      subst (λ q. leq order q e ≡ true) met.same (meets.bound n e (root s) met.there st met.copy)

  not_over : (x : Value) (q e : ℕ) → AllBelow order x.labels q → leq order q e ≡ true → Exceeds order x e → ⊥
  not_over x q e below up over =
      false_not (sym over.2 ∙ ordered.through over.0 q e (below_one order x.labels q over.0 below over.1) up)

  safe : (st : State) (run : Run sys lattice p w st) → AllFit sys lattice depth p w st run
      → (v : IsViolated sys lattice order p w st) → FitsIn sys depth w (frame_of sys lattice order p w st v) → ⊥
  safe st run fit (inl v) deep =
      let good = runs_keep sys lattice order depth map p w ordered meets.rises of st run fit in
      let s : Skel = skel_at p w v.frame v.reg in
      not_over (st.regs v.frame v.reg) (els v.frame (root s)) v.e
      (subst (λ q. AllBelow order (st.regs v.frame v.reg).labels q) (top_read (els v.frame) s)
      (good.regs v.frame v.reg).0)
      (bound_holds v.frame v.n v.e s deep (of.belongs (w.frame v.frame).owner v.reg) v.bound) v.over
  safe st run fit (inr v) deep =
      let good = runs_keep sys lattice order depth map p w ordered meets.rises of st run fit in
      let s : Skel = skel_at p w v.frame v.reg in
      let part = reached sys lattice order depth map p w ordered meets.rises of st (w.frame v.frame).owner
      (w.frame v.frame).sites (st.regs v.frame v.reg) s v.object v.offset v.part good
      (reg_leads sys lattice order depth map p w ordered meets.rises of (els v.frame) s (st.regs v.frame v.reg)
      (good.regs v.frame v.reg)) (of.belongs (w.frame v.frame).owner v.reg) v.there in
      not_over (st.cells v.object v.offset) (els v.frame (root v.part)) v.e
      (subst (λ q. AllBelow order (st.cells v.object v.offset).labels q)
      (ap (λ y. top y) part.same ∙ top_kept (els v.frame) v.part) (good.cells v.object v.offset).0)
      (bound_holds v.frame v.n v.e v.part deep part.belongs v.bound) v.over

-- no run of an accepted program comes to a state with a violation in the lattice
pub runs_are_safe : RunsAreSafe
runs_are_safe sys lattice order p w st ordered accepted of world run violated =
    let i = frame_of sys lattice order p w st violated in
    let depth : ℕ = max (length (w.frame i).sites) (depth_of sys lattice p w st run) in
    let found = accepted depth in
    safe sys lattice order depth found.0 p w ordered found.1 of st run
    (all_fit sys lattice p w world depth st run (omega arith)) violated
    (copy_of sys (w.frame i).owner (w.frame i).sites depth (world i) (omega arith))
