use Rattle.std.proofs.Common.{sym, ◌∙◌}
use Rattle.name_lists.proofs.Linking.{there, not_there}
use Rattle.name_lists.proofs.list.NameList.get.Goals as goal

pub returns-then-link-eq0 : goal.returns-then-link-eq0
returns-then-link-eq0 g c =
    sym (not_there c.args.self.now c.args.name (sym c.link-link.ensures ∙ c.if-link-eq0.true))

-- the value of the entry that a name links to is that of its newest entry
pub returns : goal.returns
returns g c =
    c.value_at.ensures ∙ there c.self.inside.entries.items c.deref.result.now c.args.name c.link-link.result
    c.args.self.now c.self.view_is c.deref.ensures.value c.link-link.ensures c.if-link-eq0.false
