use Rattle.std.proofs.Common.{◌≡◌, length, [], ◌∷◌}
use Rattle.c_reading.specs.Reading.{run}
use Rattle.reader_base.specs.Lists.{known_names, name_turn}
use Rattle.reader_base.proofs.lists.more_names.Given as goal

-- the names so far, with those read from here on, are what the whole loop gives from its first
abbrev pub invariant-loop-known : goal.invariant-loop-known
invariant-loop-known l =
    run (name_turn l.any) (known_names l.known.items) l.cursor.scopes l.cursor.rest.now
    ≡ run (name_turn l.any) (known_names (l.fn.first ∷ [])) l.fn.cursor.scopes l.fn.cursor.rest.now

abbrev pub decreases-loop-known : goal.decreases-loop-known
decreases-loop-known l = length l.cursor.rest.now
