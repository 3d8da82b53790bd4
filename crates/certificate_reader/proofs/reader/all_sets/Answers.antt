use Rattle.std.proofs.Common.{◌≡◌, ℕ, slice_get, Some, subst}
use Rattle.certificate_reader.proofs.OrderLemmas.{alls_more, small_more}
use Rattle.certificate_reader.proofs.reader.all_sets.Goals as goal

-- the set of one more lattice joins those before it
pub loop-at-preserved : goal.loop-at-preserved
loop-at-preserved c =
    let there : slice_get c.args.lattices.now c.loop-at.at ≡ Some c.get.result.now =
    subst (λ (k : ℕ). slice_get c.args.lattices.now k ≡ Some c.get.result.now) c.new.ensures c.get.ensures in
    record {
      sets =
          alls_more c.args.lattices.now c.loop-at.at c.get.result.now there c.loop-at.alls.items c.push.new.self.items
          c.all_of.result c.all_of.ensures.set c.in_ok-push.ensures.items c.loop-at.invariant.sets;
      small = small_more c.args.lattices.now c.loop-at.at c.get.result.now there c.loop-at.invariant.small
          c.all_of.ensures.small;
    }
