use Rattle.std.proofs.Common.{List, Option, ◌∙◌, ap}
use Rattle.std.proofs.lemmas.Result.{on_ok_weaker}
use Rattle.name_rules.specs.Spellings.{Place}
use Rattle.name_rules.specs.Scopes.{Aggregate}
use Rattle.name_rules.specs.Linking.{member_link}
use Rattle.name_tables.specs.PlaceMap.Values.{value_at, or_else}
use Rattle.name_state.proofs.NameLinks.Found.{members_are}
use Rattle.name_state.proofs.name_links.members.link_members.Goals as goal

-- the links of members, with those before, are the ones that the rules give by structs of the same key
pub returns : goal.returns
returns c =
    on_ok_weaker c.link_all.result
    (λ linked. λ t p. linked p ∙ ap (λ (o : Option Place). or_else (value_at c.args.links.now p) o)
    (members_are t c.in_ok-keys.keys c.aggregates-all.result.now c.in_ok-keys.ensures c.in_ok-members.members.own.map
    c.in_ok-members.members.among.map c.in_ok-members.ensures.own c.in_ok-members.ensures.among p)
    ∙ ap (λ (them : List Aggregate). or_else (value_at c.args.links.now p) (member_link them them p))
    (c.aggregates-all.ensures t)) c.link_all.ensures
