use Rattle.std.proofs.Common.{◌≡◌, ℕ, suc, ◌+◌, arith, List, drop, Option, Some, sym, ◌∙◌, ap, if◌then◌else◌}
use Rattle.std.proofs.lemmas.List.{at_drop_all}
use Rattle.name_tables.specs.declared.name_records.aggregates.Aggregate.{Aggregate}
use Rattle.name_state.specs.declared.name_links.keys.Shared.{Shared}
use Rattle.name_state.specs.NameLinks.Tables.{keyed, with_unit, key_held, is_keyed_by, known_behind}
use Rattle.name_state.proofs.NameLinks.Lists.{next_dropped}
use Rattle.name_state.proofs.name_links.members.find_keys.Goals as goal

-- one struct more: what is known by its key counts it, and the structs left are still to come
pub loop-it-preserved : goal.loop-it-preserved
loop-it-preserved c = λ key.
    let it = c.it-item.result in
    let n = c.loop-it.number in
    let old = keyed c.loop-it.keys key in
    let rest = drop (c.loop-it.it-index + 1) c.args.all.now in
    let next : c.in_ok-number.number ≡ suc n = omega (arith, c.in_ok-number.ensures) in
    ap (λ (m : ℕ). known_behind key (keyed c.add_key.new.keys key) m rest) next
    ∙ ap (λ (o : Option Shared). known_behind key o (suc n) rest) (c.in_ok-add_key.ensures key)
    ∙ ap (λ (m : ℕ). known_behind key (if is_keyed_by key (key_held it) then Some (with_unit old m it.at.0) else old)
    (suc n) rest) c.new.ensures ∙ sym (next_dropped (λ (all : List Aggregate). known_behind key old n all)
    c.args.all.now c.loop-it.it-index it c.it-item.is (omega arith)) ∙ c.loop-it.invariant key

-- once no struct is left, what is known by each key is what all structs say of it
pub returns : goal.returns
returns c = λ key.
    sym (at_drop_all (λ (all : List Aggregate). known_behind key (keyed c.loop-it.keys key) c.loop-it.number all)
    c.args.all.now c.loop-it.it-index (omega arith)) ∙ c.loop-it.invariant key
