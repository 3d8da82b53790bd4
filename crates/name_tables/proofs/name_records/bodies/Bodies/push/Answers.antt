use Rattle.name_tables.proofs.NameRecords.Added.{body_added}
use Rattle.name_tables.proofs.name_records.bodies.Bodies.push.Goals as goal

-- the places of bodies in the table stay those of the list where one is pushed
pub invariant_of-self-in-Ok-insert : goal.invariant_of-self-in-Ok-insert
invariant_of-self-in-Ok-insert c =
    body_added c.push.new.self.items c.self.inside.all.items c.args.body.now c.self.inside.known c.insert.new.self tt
    c.in-Ok.ensures.items c.self.invariant c.in-Ok-insert.ensures.updates.0
