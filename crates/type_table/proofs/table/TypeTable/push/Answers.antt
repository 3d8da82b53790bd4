use Rattle.std.proofs.Common.{arith}
use Rattle.type_table.proofs.Pushing.{pushed_made}
use Rattle.type_table.proofs.table.TypeTable.push.Goals as goal

-- the table stays made right where a shape is pushed whose parts are in it, with its size
pub invariant_of-self-2 : goal.invariant_of-self-2
invariant_of-self-2 c = record {
  made = rw (c.in-Ok.ensures.items, c.self.view_is)
      (pushed_made c.args.self.now _ (rw c.self.view_is at c.self.invariant.made) c.requires c.size_of-size.ensures);
  few = omega arith;
  past = c.self.invariant.past;
}
