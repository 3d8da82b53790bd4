use Rattle.std.proofs.Common.{◌≡◌, ◌<◌, ◌≤◌, length, arith, Some, slice_get}
use Rattle.lattice_core.specs.Entries.{name_at}
use Rattle.lattice_core.specs.Order.{size}
use Rattle.lattice_file.proofs.ShareLemmas.{shared_on, shared_within, apart_at, named_at}
use Rattle.lattice_file.proofs.sharing.shared_in.Goals as goal

-- an element whose name no earlier lattice has joins those before it
pub loop-elem-preserved : goal.loop-elem-preserved
loop-elem-preserved c =
    let lattice = c.get-lattice.result.now in
    let there : slice_get c.args.all.now c.args.at ≡ Some lattice = rw c.new.ensures at c.get-lattice.ensures in
    let named : name_at lattice.entries c.loop-elem.elem ≡ Some c.name_of-name.result.now =
    rw c.new-in-loop-elem.ensures at c.name_of-name.ensures in
    shared_on c.args.all.now c.args.at c.loop-elem.elem c.name_of-name.result.now lattice there named
    (apart_at c.args.all.now c.args.at c.name_of-name.result.now c.is_named_before.result c.if-is_named_before.false
    c.is_named_before.ensures) c.loop-elem.invariant

-- when no element is left, the lattice shares no name with an earlier one
pub returns : goal.returns
returns c elem name shared =
    let lattice = c.get-lattice.result.now in
    let there : slice_get c.args.all.now c.args.at ≡ Some lattice = rw c.new.ensures at c.get-lattice.ensures in
    let within : elem < length lattice.entries =
    shared_within c.args.all.now c.args.at elem name lattice there shared in
    let count : size lattice.order ≡ length lattice.entries = c.law.ensures.elements in
    let past : c.size-elem-end.result ≤ c.loop-elem.elem = c.loop-elem-test.false in
    let sized : c.size-elem-end.result ≡ size lattice.order = c.size-elem-end.ensures in
    let under : elem < c.loop-elem.elem = omega arith in
    c.loop-elem.invariant elem name under shared

-- the first element whose name an earlier lattice has is the first that is shared
pub returns-then-is_named_before : goal.returns-then-is_named_before
returns-then-is_named_before c =
    let lattice = c.get-lattice.result.now in
    let there : slice_get c.args.all.now c.args.at ≡ Some lattice = rw c.new.ensures at c.get-lattice.ensures in
    let named : name_at lattice.entries c.loop-elem.elem ≡ Some c.name_of-name.result.now =
    rw c.new-in-loop-elem.ensures at c.name_of-name.ensures in
    record {
      elem = c.loop-elem.elem;
      shared = record {
        lattice = lattice;
        there = there;
        named = named;
        before = named_at c.args.all.now c.args.at c.name_of-name.result.now c.is_named_before.result
            c.if-is_named_before.true c.is_named_before.ensures;
      };
      first = c.loop-elem.invariant;
    }
