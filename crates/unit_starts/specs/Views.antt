-- What the parts of the program stand for, with the types of a table in place of their numbers.
use Rattle.std.specs.Prelude.{Bool, List, [], ◌∷◌, Option, None, Some, if◌then◌else◌}
use Rattle.c_words.specs.declared.kinds.Punct.{Punct}
use Rattle.c_words.specs.declared.kinds.Punct.TheVariants as signs
use Rattle.type_table.specs.declared.row.TypeRow.{TypeRow}
use Rattle.type_table.specs.Types.{CType, base}
use Rattle.type_table.specs.Rows.{type_of}
use Rattle.name_rules.specs.Spellings.{Place, Spelling}
use Rattle.name_rules.specs.Scopes.{Names}
use Rattle.name_rules.specs.Values.{Shape, Candidate, address, is_fresh_pick, pick_shape}
use Rattle.qual_types.specs.Skel.{within}
use Rattle.row_rules.specs.Starting as rules
use Rattle.unit_starts.specs.declared.start.Start.{Start}
use Rattle.unit_starts.specs.declared.start.Around.{Around}

-- where a skeleton begins, with its type in place of the type's number
abbrev pub start_in : List TypeRow → Start → rules.Start
start_in rows it =
    record {
      at = it.at;
      type = within it.outer (type_of rows it.ty);
      owner = it.owner;
      calls = it.calls;
    }

-- where a skeleton begins, where one does
abbrev pub starts_in : List TypeRow → Option Start → List rules.Start
starts_in rows None = []
starts_in rows (Some it) = start_in rows it ∷ []

-- what a fresh skeleton stands on, in a unit with these names
abbrev pub around_in : Spelling → Names → Around → rules.Around
around_in u s it =
    record { spelling = u; names = s; enclosing = it.enclosing; is_quiet = it.is_quiet; access = it.access }

-- a skeleton that is fresh at a place
abbrev pub fresh_at : Around → Place → CType → List rules.Start
fresh_at it at t =
    if it.is_quiet then []
    else record { at = at; type = t; owner = it.enclosing; calls = None } ∷ []

-- a skeleton that is fresh at a place, where its type is known
abbrev pub some_fresh_at : Around → Place → Option CType → List rules.Start
some_fresh_at it at None = []
some_fresh_at it at (Some t) = fresh_at it at t

-- what an operator before its operand begins at a place
abbrev pub prefix_at : Punct → Bool → Around → Place → Shape → List rules.Start
prefix_at signs.Ampersand carries it at e = rules.fresh_where carries (some_fresh_at it at (address e))
prefix_at sign carries it at e = rules.fresh_where (rules.is_fresh_prefix sign) (fresh_at it at (base []))

-- what a pick begins at a place
abbrev pub pick_at : List Candidate → Around → Place → List rules.Start
pick_at all it at = rules.fresh_where (is_fresh_pick all) (some_fresh_at it at (pick_shape all).type)
