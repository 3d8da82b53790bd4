-- A run is finite, so some depth leaves room for the copies of all its calls.
use Rattle.std.proofs.Common.{ℕ, ◌≤◌, max, List, length, arith}
use Rattle.qual_base.specs.declared.places.Owner.{Owner}
use Rattle.qual_base.specs.declared.places.Owner.TheVariants.{Nobody, Function}
use Rattle.flow_graph.specs.System.{System}
use Rattle.flow_graph.specs.CallStrings.{IsCopy}
use Rattle.run_laws.specs.Programs.{Program}
use Rattle.run_laws.specs.Runs.{World, State, Run, begins, steps, marks, marks_cell, IsSomeCopy, IsWorld}
use Rattle.run_laws.proofs.Keeping.{other, AllFit}

module _ (sys : System) (lattice : ℕ) (p : Program) (w : World) where
  abbrev pub depth_of : (st : State) → Run sys lattice p w st → ℕ
  depth_of st (begins _ blank) = 0
  depth_of st (steps old _ i instr run among does) =
      max (length (w.frame i).sites) (max (length (w.frame (other p w old st i instr does)).sites) (depth_of old run))
  depth_of st (marks old _ i r n e run stands is) = max (length (w.frame i).sites) (depth_of old run)
  depth_of st (marks_cell old _ i r o k n e t run reaches stands is) = max (length (w.frame i).sites) (depth_of old run)

pub copy_of : (sys : System) (owner : Owner) (sites : List ℕ) (depth : ℕ) → IsSomeCopy sys owner sites
    → length sites ≤ depth → IsCopy sys depth owner sites
copy_of sys Nobody sites depth h fits = h
copy_of sys (Function f) sites depth h fits = (h, fits)

module _ (sys : System) (lattice : ℕ) (p : Program) (w : World) (world : IsWorld sys w) (depth : ℕ) where
  pub all_fit : (st : State) (run : Run sys lattice p w st) → depth_of sys lattice p w st run ≤ depth
      → AllFit sys lattice depth p w st run
  all_fit st (begins _ blank) h = tt
  all_fit st (steps old _ i instr run among does) h =
      let j = other p w old st i instr does in (
        copy_of sys (w.frame i).owner (w.frame i).sites depth (world i) (omega arith),
        copy_of sys (w.frame j).owner (w.frame j).sites depth (world j) (omega arith),
        all_fit old run (omega arith),
      )
  all_fit st (marks old _ i r n e run stands is) h =
      (copy_of sys (w.frame i).owner (w.frame i).sites depth (world i) (omega arith), all_fit old run (omega arith))
  all_fit st (marks_cell old _ i r o k n e t run reaches stands is) h =
      (copy_of sys (w.frame i).owner (w.frame i).sites depth (world i) (omega arith), all_fit old run (omega arith))
