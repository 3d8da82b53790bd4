use Rattle.std.proofs.Common.{◌≡◌, ℕ, suc, ◌+◌, arith, List, drop, Option, sym, ◌∙◌, ap}
use Rattle.std.proofs.lemmas.List.{at_drop_all}
use Rattle.name_rules.specs.Spellings.{Place}
use Rattle.name_tables.specs.declared.name_records.aggregates.Aggregate.{Aggregate}
use Rattle.name_tables.specs.PlaceMap.Values.{or_else}
use Rattle.name_tables.proofs.PlaceMap.Adding.{or_none, or_assoc}
use Rattle.name_state.specs.NameLinks.Tables.{member_there, shared_by, known_in, own_members, key_members, first_own, first_among}
use Rattle.name_state.proofs.NameLinks.Lists.{next_dropped}
use Rattle.name_state.proofs.name_links.members.find_members.Goals as goal

-- one struct more: its members get their places by it and by the first struct of its key
pub loop-it-preserved : goal.loop-it-preserved
loop-it-preserved c =
    let it = c.it-item.result in
    let n = c.loop-it.number in
    let keys = c.args.keys.now in
    let shared = shared_by keys it in
    let known = known_in it.body in
    let rest = drop (c.loop-it.it-index + 1) c.args.all.now in
    let next : c.in_ok-number.number ≡ suc n = omega (arith, c.in_ok-number.ensures) in
    record {
      own = λ p.
          let old = member_there c.loop-it.members.own.map p in
          ap (λ (m : ℕ). or_else (member_there c.add_shared.new.self.own.map p) (first_own keys m rest p)) next
          ∙ ap (λ (o : Option Place). or_else o (first_own keys (suc n) rest p)) (c.in_ok-add_shared.ensures.own p)
          ∙ or_assoc old (own_members shared c.new.result known p) (first_own keys (suc n) rest p)
          ∙ ap (λ (m : ℕ). or_else old (or_else (own_members shared m known p) (first_own keys (suc n) rest p)))
          c.new.ensures ∙ sym (next_dropped (λ (all : List Aggregate). or_else old (first_own keys n all p))
          c.args.all.now c.loop-it.it-index it c.it-item.is (omega arith)) ∙ c.loop-it.invariant.own p;
      among = λ p.
          let old = member_there c.loop-it.members.among.map p in
          ap (λ (o : Option Place). or_else o (first_among keys rest p)) (c.in_ok-add_shared.ensures.among p)
          ∙ or_assoc old (key_members shared known p) (first_among keys rest p)
          ∙ sym (next_dropped (λ (all : List Aggregate). or_else old (first_among keys all p)) c.args.all.now
          c.loop-it.it-index it c.it-item.is (omega arith)) ∙ c.loop-it.invariant.among p;
    }

-- once no struct is left, each number of a struct and name have the first member of that name there
pub returns-clause-own : goal.returns-clause-own
returns-clause-own c = λ p.
    let found = member_there c.loop-it.members.own.map p in
    sym (or_none found) ∙ sym (at_drop_all (λ (all : List Aggregate). or_else found
    (first_own c.args.keys.now c.loop-it.number all p)) c.args.all.now c.loop-it.it-index (omega arith))
    ∙ c.loop-it.invariant.own p

-- once no struct is left, each first struct of a key and name have the first member of that name in structs of the key
pub returns-clause-among : goal.returns-clause-among
returns-clause-among c = λ p.
    let found = member_there c.loop-it.members.among.map p in
    sym (or_none found)
    ∙ sym (at_drop_all (λ (all : List Aggregate). or_else found (first_among c.args.keys.now all p)) c.args.all.now
    c.loop-it.it-index (omega arith))
    ∙ c.loop-it.invariant.among p
