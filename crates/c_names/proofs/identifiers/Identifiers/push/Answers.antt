use Rattle.std.proofs.Common.{arith, ◌≡◌, length, None, ap, ◌∙◌}
use Rattle.c_names.specs.Identifiers.{number_in}
use Rattle.c_names.proofs.Numbering.{one_numbered}
use Rattle.c_names.proofs.identifiers.Identifiers.push.Goals as goal

-- the numbers stay those of the identifiers where a new one is pushed and its number put in the table
pub invariant_of-self-in-Ok-insert : goal.invariant_of-self-in-Ok-insert
invariant_of-self-in-Ok-insert c =
    let count = c.len-count.ensures in
    let size = c.self.inside.all.ok.0 in
    let numbered : c.len-count.result ≡ length c.self.inside.all.items = omega arith in
    one_numbered c.self.inside.all.items c.push.new.self.items
    (record { token = c.args.token; key = c.args.key; ty = None }) c.len-count.result c.self.inside.numbers
    c.insert.new.self c.self.invariant (ap (number_in c.args.key) c.self.view_is ∙ c.requires) c.in-Ok.ensures.items
    numbered c.in-Ok-insert.ensures.updates.0
