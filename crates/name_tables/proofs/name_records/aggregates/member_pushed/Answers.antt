use Rattle.std.proofs.Common.{arith, ◌≤◌, ◌<◌, ◌∷◌, ◌++◌, [], ℕ, length, refl, sym, ap, ◌∙◌}
use Rattle.std.proofs.lemmas.Result.{on_ok_weaker}
use Rattle.name_rules.specs.Scopes.{changed_at}
use Rattle.name_tables.specs.PlaceMap.Values.{or_else, there}
use Rattle.name_tables.specs.declared.name_records.body.Known.{Known}
use Rattle.name_tables.specs.NameRecords.Aggregates.{with_body}
use Rattle.name_tables.specs.NameRecords.Bodies.{or_empty, with_member}
use Rattle.name_tables.specs.NameRecords.Found.{member_there}
use Rattle.name_tables.proofs.NameRecords.Changed.{changed, unchanged, past}
use Rattle.name_tables.proofs.NameRecords.Members.{member_more}
use Rattle.name_tables.proofs.name_records.aggregates.member_pushed.Goals as goal

-- a member of a struct that is not there is pushed to none
pub returns-in_default-clause-pushed : goal.returns-in_default-clause-pushed
returns-in_default-clause-pushed c =
    let all = c.args.all.now in
    let change = (with_body (with_member c.args.name c.args.at.now c.args.ty)) in
    let size = all.ok.0 in
    let beyond : length all.items ≤ c.number.result = let p = past c.number.result _ c.in_default.ensures.variant.1 in
    omega arith in
    unchanged all.items c.number.result change beyond
    ∙ ap (λ n. changed_at all.items n change) c.number.ensures

-- a member of a struct that is there is pushed to its body
pub returns-clause-pushed : goal.returns-clause-pushed
returns-clause-pushed c =
    let all = c.args.all.now in
    let change = (with_body (with_member c.args.name c.args.at.now c.args.ty)) in
    let size = all.ok.0 in
    let there = c.in-Some.ensures.variant.0 refl in
    let within : c.number.result < length all.items = omega arith in
    on_ok_weaker c.add.result (λ added.
    changed all.items c.number.result c.in-Some.it.now c.push_member.new.self change within c.in-Some.ensures.value
    c.in_ok-push_member.ensures
    ∙ ap (λ n. changed_at all.items n change) c.number.ensures) c.add.ensures

-- a member pushed to a struct is found by its name there, where none was before
pub returns-clause-members : goal.returns-clause-members
returns-clause-members c =
    let all = c.args.all.now in
    let it = c.in-Some.it.now in
    let change = (with_member c.args.name c.args.at.now c.args.ty) in
    let size = all.ok.0 in
    let there_is = c.in-Some.ensures.variant.0 refl in
    let within : c.number.result < length all.items = omega arith in
    let v : ℕ → Known = λ own. record { name = c.args.name; at = c.args.at.now; ty = c.args.ty; own = own } in
    on_ok_weaker c.add.result (λ added.
    member_more all.items _ c.number.result it change (v c.count-own.result) c.args.members.now c.add.new.self within
    c.in-Some.ensures.value
    (ap (λ own. (or_empty it.body).known ++ v own ∷ []) (sym c.count-own.ensures))
    c.requires
    (changed all.items c.number.result it c.push_member.new.self (with_body change) within c.in-Some.ensures.value
    c.in_ok-push_member.ensures)
    (λ p. added p ∙
    ap (λ n. or_else (member_there c.args.members.now.map p) (there (n, c.args.name) (v c.count-own.result) p))
    (sym c.number.ensures))) c.add.ensures
