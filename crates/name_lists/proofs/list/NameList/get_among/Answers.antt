use Rattle.std.proofs.Common.{arith, length, ◌≡◌, ◌<◌, ◌≤◌, ◌-◌, ◌∙◌, sym}
use Rattle.name_lists.specs.Linked.{link_of}
use Rattle.name_lists.proofs.Linking.{among, not_among}
use Rattle.name_lists.proofs.list.NameList.get_among.Goals as goal

-- a name whose newest entry is among so many newest has its value among them
pub returns-then-link-saturating_sub : goal.returns-then-link-saturating_sub
returns-then-link-saturating_sub g c =
    let it = c.args.self.now in
    let link = c.link.ensures in
    let len = c.len.ensures in
    let less = c.saturating_sub.ensures in
    let test = c.if-link-saturating_sub.true in
    let over : length it - c.args.count < link_of it c.args.name = omega (arith, link, len, less, test) in
    c.get.ensures ∙ sym (among it c.args.count c.args.name over)

-- a name whose newest entry is not among so many newest has none among them
pub returns-else-link-saturating_sub : goal.returns-else-link-saturating_sub
returns-else-link-saturating_sub g c =
    let it = c.args.self.now in
    let link = c.link.ensures in
    let len = c.len.ensures in
    let less = c.saturating_sub.ensures in
    let test = c.if-link-saturating_sub.false in
    let under : link_of it c.args.name ≤ length it - c.args.count = omega (arith, link, len, less, test) in
    sym (not_among it c.args.count c.args.name under)
