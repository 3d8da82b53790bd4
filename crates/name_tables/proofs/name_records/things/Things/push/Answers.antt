use Rattle.name_tables.proofs.NameRecords.Added.{thing_added}
use Rattle.name_tables.proofs.name_records.things.Things.push.Goals as goal

-- the newest thing of each name in the table stays that of the list where one is pushed
pub invariant_of-self-in-Ok-insert : goal.invariant_of-self-in-Ok-insert
invariant_of-self-in-Ok-insert c =
    thing_added c.push.new.self.items c.self.inside.all.items c.args.name c.args.at.now c.self.inside.newest
    c.insert.new.self c.in-Ok.ensures.items c.self.invariant c.in-Ok-insert.ensures.updates.0
