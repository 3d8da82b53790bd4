use Rattle.std.proofs.Common.{rules, ◌≡◌, ◌+◌, ◌∙◌, ap, ℕ, Some}
use Rattle.c_types.proofs.SourceSpelling.Keys.{put_text, none_of}
use Rattle.c_types.proofs.source_spelling.earlier.EarlierNames.add.Goals as goal

-- a spelling has the key it had, or else the count and the name, where it is the one that was added
pub returns-clause-keys : goal.returns-clause-keys
returns-clause-keys c =
    let number : c.new.result ≡ c.args.self.now.count + c.args.name = search rules in
    put_text c.in_ok-key.key (c.args.self.now.count + c.args.name) c.args.self.now.keys.entries
    c.insert.new.self.entries c.args.text.now c.in_ok-key.ensures.items
    (none_of _ c.contains_key.result c.contains_key.ensures c.if-contains_key.false)
    (c.in_ok-insert.ensures.updates.1 ∙ ap (λ (n : ℕ). Some n) number) c.in_ok-insert.ensures.updates.3
