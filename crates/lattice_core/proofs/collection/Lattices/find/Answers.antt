use Rattle.std.proofs.Common.{◌≡◌, sym, ◌∙◌}
use Rattle.lattice_core.proofs.NameLemmas.{found_at, passed_at}
use Rattle.lattice_core.proofs.collection.Lattices.find.Goals as goal

-- a word that a lattice has, and none before it, means that element
pub returns-in-Some : goal.returns-in-Some
returns-in-Some c =
    let items = c.deref-lattice-items.result.now in
    let same : items ≡ c.args.self.now = c.deref-lattice-items.ensures.value ∙ c.self.view_is in
    let found = found_at items c.loop-at.at c.lattice-item.result c.args.word.now c.in-Some.elem c.loop-at-test.true
    c.lattice-item.is (sym c.in-Some.ensures) c.loop-at.invariant in
    rw c.new.ensures (sym (rw same at found))

pub loop-at-preserved : goal.loop-at-preserved
loop-at-preserved c =
    passed_at c.deref-lattice-items.result.now c.loop-at.at c.lattice-item.result c.args.word.now c.loop-at-test.true
    c.lattice-item.is (sym c.in_default.ensures) c.loop-at.invariant
