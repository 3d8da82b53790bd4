use Rattle.std.proofs.Common.{Option, ◌∙◌, ap}
use Rattle.name_rules.specs.Spellings.{Place}
use Rattle.name_rules.specs.Declaring.{or_at}
use Rattle.name_rules.specs.Linking.{thing_link, member_link}
use Rattle.name_tables.specs.PlaceMap.Values.{or_else}
use Rattle.name_state.specs.UnitNames.Shown.{names_of}
use Rattle.name_state.proofs.NameLinks.Things.{first_place}
use Rattle.name_state.proofs.name_links.linking.links.Goals as goal

-- each place is linked as the rules say: by a thing, or else by a member, or else to itself
pub returns : goal.returns
returns c = λ t p.
    let s = names_of t c.args.names.now in
    let members = member_link s.aggregates s.aggregates p in
    ap (λ (o : Option Place). or_at o p)
    (c.in_ok-link_members.ensures t p ∙ ap (λ (o : Option Place). or_else o members) (c.in_ok-links.ensures t p)
    ∙ first_place (thing_link s.statics s.things s.things p) members)
