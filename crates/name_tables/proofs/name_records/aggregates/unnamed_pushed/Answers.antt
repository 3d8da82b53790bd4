use Rattle.std.proofs.Common.{arith, ◌≤◌, ◌<◌, ◌++◌, length, refl, sym, ap, ◌∙◌}
use Rattle.std.proofs.lemmas.Result.{on_ok_weaker}
use Rattle.name_rules.specs.Scopes.{changed_at}
use Rattle.name_tables.specs.PlaceMap.Values.{or_else}
use Rattle.name_tables.specs.NameRecords.Aggregates.{with_body}
use Rattle.name_tables.specs.NameRecords.Bodies.{or_empty, with_unnamed, lying_in}
use Rattle.name_tables.specs.NameRecords.Found.{member_there, first_in, known_entry}
use Rattle.name_tables.proofs.NameRecords.Changed.{changed, unchanged, past}
use Rattle.name_tables.proofs.NameRecords.Members.{members_more}
use Rattle.name_tables.proofs.name_records.aggregates.unnamed_pushed.Goals as goal

-- an unnamed member of a struct that is not there is pushed to none
pub returns-in_default-clause-pushed : goal.returns-in_default-clause-pushed
returns-in_default-clause-pushed c =
    let all = c.args.all.now in
    let change = (with_body (with_unnamed c.args.at.now c.args.ty c.args.inner.now)) in
    let size = all.ok.0 in
    let beyond : length all.items ≤ c.number.result = let p = past c.number.result _ c.in_default.ensures.variant.1 in
    omega arith in
    unchanged all.items c.number.result change beyond
    ∙ ap (λ n. changed_at all.items n change) c.number.ensures

-- an unnamed member of a struct that is there is pushed to its body, with the members that lie in it
pub returns-clause-pushed : goal.returns-clause-pushed
returns-clause-pushed c =
    let all = c.args.all.now in
    let change = (with_body (with_unnamed c.args.at.now c.args.ty c.args.inner.now)) in
    let size = all.ok.0 in
    let there = c.in-Some.ensures.variant.0 refl in
    let within : c.number.result < length all.items = omega arith in
    on_ok_weaker c.add_inner.result (λ added.
    changed all.items c.number.result c.in-Some.it.now c.push_unnamed.new.self change within c.in-Some.ensures.value
    c.in_ok-push_unnamed.ensures
    ∙ ap (λ n. changed_at all.items n change) c.number.ensures) c.add_inner.ensures

-- the members that lie in an unnamed one are found by their names in the struct, where none were before
pub returns-clause-members : goal.returns-clause-members
returns-clause-members c =
    let all = c.args.all.now in
    let it = c.in-Some.it.now in
    let change = (with_unnamed c.args.at.now c.args.ty c.args.inner.now) in
    let size = all.ok.0 in
    let there_is = c.in-Some.ensures.variant.0 refl in
    let within : c.number.result < length all.items = omega arith in
    on_ok_weaker c.add_inner.result (λ added.
    members_more all.items _ c.number.result it change (lying_in c.count-own.result c.args.inner.now) c.args.members.now
    c.add_inner.new.self within c.in-Some.ensures.value
    (ap (λ own. (or_empty it.body).known ++ lying_in own c.args.inner.now) (sym c.count-own.ensures))
    c.requires
    (changed all.items c.number.result it c.push_unnamed.new.self (with_body change) within c.in-Some.ensures.value
    c.in_ok-push_unnamed.ensures)
    (λ p. added p ∙
    ap (λ n. or_else (member_there c.args.members.now.map p)
    (first_in (known_entry n) (lying_in c.count-own.result c.args.inner.now) p))
    (sym c.number.ensures))) c.add_inner.ensures
