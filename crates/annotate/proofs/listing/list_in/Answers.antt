use Rattle.std.proofs.Common.{◌∷◌, [], arith}
use Rattle.lattice_core.proofs.Orders.{order_there}
use Rattle.annotate.specs.Solutions.{IsListedIn}
use Rattle.annotate.proofs.ReportLemmas.{adds_none, not_listed, one_listed}
use Rattle.annotate.proofs.listing.list_in.Goals as goal

-- a variable whose least element is the bottom is not listed in the lattice
pub returns-then-eq : goal.returns-then-eq
returns-then-eq c =
    let lattices = c.args.scene.now.lattices.now in
    let view = c.get-lattice.result.now in
    adds_none c.args.list.now.items (IsListedIn lattices c.args.graph.now c.args.number c.args.var)
    (not_listed lattices c.args.graph.now c.args.number view.order
    (order_there lattices c.args.number view c.get-lattice.ensures) c.args.solver.now c.args.var c.value-elem.result
    c.bottom.result c.requires.lattice (c.requires.kept view c.get-lattice.ensures) c.law.ensures.lattice
    (c.bottom.ensures.element, c.bottom.ensures.least) c.value-elem.ensures (grind arith))

-- a variable whose least element is another than the bottom is listed with it
pub returns : goal.returns
returns c =
    let lattices = c.args.scene.now.lattices.now in
    let view = c.get-lattice.result.now in
    record {
      here = record { var = c.args.var; lattice = c.args.number; elem = c.value-elem.result } ∷ [];
      added = c.in_ok-push.ensures.items;
      is =
          one_listed lattices c.args.graph.now c.args.number view.order
          (order_there lattices c.args.number view c.get-lattice.ensures) c.args.solver.now c.args.var
          c.value-elem.result c.bottom.result c.requires.lattice
          (c.requires.kept view c.get-lattice.ensures) c.law.ensures.lattice
          (c.bottom.ensures.element, c.bottom.ensures.least) c.value-elem.ensures (λ same. grind arith);
    }
