use Rattle.std.proofs.Common.{ℕ, ◌+◌, subst}
use Rattle.annotate.specs.Solutions.{IsListedIn}
use Rattle.annotate.specs.Reports.{VarListings, NoLattice, NextLattice}
use Rattle.annotate.proofs.ReportLemmas.{adds_none, adds_both}
use Rattle.annotate.proofs.listing.list_var.Goals as goal

pub loop-n-init : goal.loop-n-init
loop-n-init c =
    adds_none c.args.list.now.items (VarListings c.args.scene.now.lattices.now c.args.graph.now c.args.var 0) NoLattice

-- what is listed of one lattice more comes behind that of those so far
pub loop-n-preserved : goal.loop-n-preserved
loop-n-preserved c =
    let lattices = c.args.scene.now.lattices.now in
    adds_both
    (VarListings lattices c.args.graph.now c.args.var (c.loop-n.n + 1)) c.loop-n.invariant c.in_ok-list_in.ensures
    (λ before here first next.
    let Of : ℕ → Type 0 = λ n. IsListedIn lattices c.args.graph.now n c.args.var here in
    let listed = subst Of c.new-number.ensures next in
    NextLattice c.loop-n.n listed.order before here listed.there first listed.is)

pub list_in-requires-clause-lattice : goal.list_in-requires-clause-lattice
list_in-requires-clause-lattice c =
    (c.requires.solutions.each c.new-number.result c.solved_of-solved.result.now c.solved_of-solved.ensures).lattice_is

pub list_in-requires-clause-kept : goal.list_in-requires-clause-kept
list_in-requires-clause-kept c =
    λ view there. c.requires.kept c.new-number.result view c.solved_of-solved.result.now there
    c.solved_of-solved.ensures
