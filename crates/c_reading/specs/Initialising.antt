-- Readers of initialisers (C99, 6.7.8), over readers of the parts inside.
use Rattle.std.specs.Prelude.{ℕ, ◌-◌, Bool, ◌&&◌, ◌||◌, [], Option, None, Some, if◌then◌else◌}
use Rattle.c_words.specs.declared.kinds.TokenKind.{TokenKind}
use Rattle.c_tree.specs.Tree.{Expr, Init, init_value, init_braced, InitList, init_list, Desigs, no_desigs, more_desigs, Desig, member_desig, index_desig, range_desig, old_desig}
use Rattle.c_units.specs.HeldScopes.{HeldScopes, is_wide, names_type}
use Rattle.c_reading.specs.declared.kinds.FaultKind.TheVariants.{Unexpected}
use Rattle.c_reading.specs.declared.kinds.Reach.TheVariants.{Assigned, Conditional}
use Rattle.c_reading.specs.Reading.{Reader, ◌>>=◌, ends, refuses, fits, kind_at, behind_first, take_one, token_at, repeated, listed, Next, one_more, list_end, CommaList}
use Rattle.c_reading.specs.Tokens.{is_open_brace, is_close_brace, is_close_bracket, is_colon, is_dots, is_equal, spelled_name, name_at}
use Rattle.c_reading.specs.Expressing.{begins_expr, begins_desig, is_dot}
use Rattle.c_reading.specs.Parts.{Inner, nothing, ListItem, desigs_from, init_items_from}

-- an initialiser begins
abbrev pub begins_init : HeldScopes → TokenKind → Bool
begins_init s kind = is_open_brace kind || begins_expr s kind

-- `=` behind designators
abbrev pub equal_behind : Desigs → Reader (Option ℕ)
equal_behind no_desigs s ts = ends None s ts
equal_behind (more_desigs d ds) s ts =
    token_at is_equal s ts >>= λ equal. ends (Some equal.tree) equal.scopes equal.rest

module _ (inner : Inner) where
  -- init = assign | InitList
  unfoldable pub init_with : ℕ → Reader Init
  init_with room s ts =
      if is_open_brace (kind_at ts)
      then (inner.init_list room s ts >>= λ list. ends (init_braced list.tree) list.scopes list.rest)
      else inner.expr Assigned nothing room s ts >>= λ e. ends (init_value e.tree) e.scopes e.rest

  -- Desig = . Name
  unfoldable pub member_desig_with : ℕ → Reader Desig
  member_desig_with room s ts = fits 2 room ts (do
    token ← take_one s ts
    name ← name_at token.scopes token.rest
    ends (member_desig token.tree name.tree) name.scopes name.rest)

  -- ... cond ], in wider C, behind the first value of a range
  unfoldable pub range_behind : ℕ → Expr → ℕ → Reader Desig
  range_behind opening first room s ts = do
    dots ← take_one s ts
    e ← inner.expr Conditional nothing (room - 2) dots.scopes dots.rest
    closing ← token_at is_close_bracket e.scopes e.rest
    ends (range_desig opening first dots.tree e.tree closing.tree) closing.scopes closing.rest

  -- Desig = [ cond ] or [ cond ... cond ], behind the first value
  unfoldable pub index_behind : ℕ → Expr → ℕ → Reader Desig
  index_behind opening e room s ts =
      if is_wide s && is_dots (kind_at ts) then range_behind opening e room s ts
      else token_at is_close_bracket s ts >>= λ closing.
      ends (index_desig opening e closing.tree) closing.scopes closing.rest

  -- Desig = [ cond ] or [ cond ... cond ], at the bracket
  unfoldable pub index_desig_with : ℕ → Reader Desig
  index_desig_with room s ts = fits 3 room ts (do
    opening ← take_one s ts
    e ← inner.expr Conditional nothing (room - 2) opening.scopes opening.rest
    index_behind opening.tree e.tree room e.scopes e.rest)

  -- one designator of an item
  unfoldable pub desig_with : ℕ → Reader Desig
  desig_with room s ts = if is_dot (kind_at ts) then member_desig_with room s ts else index_desig_with room s ts

  -- the initialiser of an item
  unfoldable pub init_here : ℕ → Reader Init
  init_here room s ts =
      if begins_init s (kind_at ts) then fits 2 room ts (init_with (room - 1) s ts) else refuses Unexpected ts

  -- OldDesig init, at the name
  unfoldable pub old_item : ℕ → Reader ListItem
  old_item room s ts = do
    name ← name_at s ts
    colon ← token_at is_colon name.scopes name.rest
    init ← init_here room colon.scopes colon.rest
    ends (record { desigs = more_desigs (old_desig name.tree colon.tree) no_desigs; equal = None; init = init.tree })
        init.scopes init.rest

  -- InitItem = [Desig+ =] init
  unfoldable pub plain_item : ℕ → Reader ListItem
  plain_item room s ts = do
    desigs ← repeated begins_desig (desig_with room) s ts
    equal ← equal_behind (desigs_from desigs.tree) desigs.scopes desigs.rest
    init ← init_here room equal.scopes equal.rest
    ends (record { desigs = desigs_from desigs.tree; equal = equal.tree; init = init.tree }) init.scopes init.rest

  -- in wider C by the token behind a name: a typedef name that is no designator is refused there
  unfoldable pub named_init_item : ℕ → ℕ → Reader ListItem
  named_init_item name room s ts = fits 2 room ts (
      if is_colon (kind_at (behind_first ts)) then old_item room s ts
      else if names_type s name then refuses Unexpected (behind_first ts)
      else plain_item room s ts)

  -- an item of a braced list, by whether it begins with a name
  abbrev pub init_item_by : Option ℕ → ℕ → Reader ListItem
  init_item_by None room s ts = plain_item room s ts
  init_item_by (Some name) room s ts = if is_wide s then named_init_item name room s ts else plain_item room s ts

  -- InitItem = [Desig+ =] init | OldDesig init
  unfoldable pub init_item_with : ℕ → Reader ListItem
  init_item_with room s ts = init_item_by (spelled_name (kind_at ts)) room s ts

  -- behind a comma, which may end the list
  unfoldable pub next_init_item : ℕ → ℕ → Reader (Next ListItem ℕ)
  next_init_item room token s ts =
      if is_close_brace (kind_at ts) then ends (list_end token) s ts
      else init_item_with room s ts >>= λ x. ends (one_more x.tree) x.scopes x.rest

  -- [InitItem (, InitItem)* [,]]
  unfoldable pub init_items_with : ℕ → Reader (CommaList ListItem ℕ)
  init_items_with room s ts =
      if is_close_brace (kind_at ts) then ends (record { items = []; ending = None }) s ts
      else listed (init_item_with room) (next_init_item room) s ts

  -- { [InitItem (, InitItem)* [,]] }, at the brace
  unfoldable pub braced_with : ℕ → Reader InitList
  braced_with room s ts = fits 1 room ts (do
    opening ← take_one s ts
    items ← init_items_with (room - 1) opening.scopes opening.rest
    closing ← token_at is_close_brace items.scopes items.rest
    ends (init_list opening.tree
        (init_items_from items.tree.items) items.tree.ending closing.tree) closing.scopes closing.rest)

  -- InitList = { [InitItem (, InitItem)* [,]] }
  unfoldable pub init_list_with : ℕ → Reader InitList
  init_list_with room s ts = if is_open_brace (kind_at ts) then braced_with room s ts else refuses Unexpected ts
