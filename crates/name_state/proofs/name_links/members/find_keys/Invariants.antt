use Rattle.std.proofs.Common.{◌≡◌, drop, None}
use Rattle.name_rules.specs.Scopes.{StructKey}
use Rattle.name_state.specs.NameLinks.Tables.{keyed, known_behind}
use Rattle.name_state.proofs.name_links.members.find_keys.Given as goal

-- what is known by each key so far, with the structs left, is what all structs say of it
abbrev pub invariant-loop-it : goal.invariant-loop-it
invariant-loop-it l =
    (key : StructKey)
    → known_behind key (keyed l.keys key) l.number (drop l.it-index l.all) ≡ known_behind key None 0 l.all
