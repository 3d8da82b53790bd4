use Rattle.std.proofs.Common.{arith, ◌≤◌, ◌<◌, length, refl, ap, ◌∙◌}
use Rattle.name_rules.specs.Scopes.{changed_at}
use Rattle.name_tables.specs.NameRecords.Aggregates.{with_key}
use Rattle.name_tables.proofs.NameRecords.Changed.{changed, unchanged, past}
use Rattle.name_tables.proofs.name_records.aggregates.Aggregates.set_key.Goals as goal

-- a struct that is not there gets no key, and the structs stay as they are
pub returns-in_default : goal.returns-in_default
returns-in_default c =
    let all = c.self.inside.all in
    let change = with_key c.args.by_typedef c.args.name in
    let size = all.ok.0 in
    let beyond : length all.items ≤ c.number.result = let p = past c.number.result _ c.in_default.ensures.variant.1 in
    omega arith in
    unchanged all.items c.number.result change beyond
    ∙ ap (λ n. changed_at all.items n change) c.number.ensures
    ∙ ap (λ xs. changed_at xs c.args.number change) c.self.view_is

-- a struct that is there gets its key
pub returns : goal.returns
returns c =
    let all = c.self.inside.all in
    let change = with_key c.args.by_typedef c.args.name in
    let size = all.ok.0 in
    let there = c.in-Some.ensures.variant.0 refl in
    let within : c.number.result < length all.items = omega arith in
    changed all.items c.number.result c.in-Some.it.now c.set_key.new.self change within c.in-Some.ensures.value
    c.set_key.ensures
    ∙ ap (λ n. changed_at all.items n change) c.number.ensures
    ∙ ap (λ xs. changed_at xs c.args.number change) c.self.view_is
