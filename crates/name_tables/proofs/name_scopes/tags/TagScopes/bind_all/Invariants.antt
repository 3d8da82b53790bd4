use Rattle.std.proofs.Common.{◌≡◌, ◌∷◌, ◌++◌, reverse, take}
use Rattle.tape_ops.specs.declared.specifier.TagKind.{TagKind}
use Rattle.name_lists.specs.Newest.{innermost, outer_scopes}
use Rattle.name_tables.specs.NameScopes.Tabled.{scopes_in, in_kind}
use Rattle.name_tables.proofs.name_scopes.tags.TagScopes.bind_all.Given as goal

-- of each kind the innermost scope has the tags so far, before those it had at first
abbrev pub invariant-loop-it : goal.invariant-loop-it
invariant-loop-it l = (kind : TagKind) → scopes_in l.self kind
    ≡ (in_kind kind (reverse (take l.it-index l.tags)) ++ innermost (scopes_in l.fn.self kind))
    ∷ outer_scopes (scopes_in l.fn.self kind)
