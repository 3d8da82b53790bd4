-- Statements without room, the items of a unit, the readers of all numbers, and units with more room.
use Rattle.std.proofs.Common.{ℕ, zero, suc, ◌+◌, ◌<◌, ◌≤◌, Bool, true, List, [], inr, Option, Some, None, refl, arith}
use Rattle.std.specs.Prelude.{◌-◌, not}
use Rattle.c_tree.specs.declared.lexeme.Lexeme.{Lexeme}
use Rattle.c_syntax.specs.declared.parts.Attr.{Attr}
use Rattle.c_tree.specs.Tree.{SpecWords, Declr}
use Rattle.c_tree.specs.Specifiers.{storage_words}
use Rattle.c_tree.specs.WellFormed.{has_auto, lists_identifiers}
use Rattle.c_tree.specs.Height.{specs_height, declr_height}
use Rattle.typedef_scope.specs.declared.kind.Kind.TheVariants.{Value}
use Rattle.c_units.specs.HeldScopes.{HeldScopes, HeldScope, reopen, release, enter, innermost, leave}
use Rattle.c_units.specs.Scoping.{has_typedef_word}
use Rattle.c_reading.specs.declared.kinds.Role.TheVariants.{Declaring}
use Rattle.c_reading.specs.declared.kinds.Mode.TheVariants.{Named}
use Rattle.c_reading.specs.declared.kinds.StmtStart.{StmtStart}
use Rattle.c_reading.specs.declared.kinds.StmtStart.TheVariants as starts
use Rattle.c_reading.specs.Reading.{kind_at}
use Rattle.c_reading.specs.Tokens.{is_open_brace, is_semicolon, is_asm, is_static_assert, is_end}
use Rattle.c_reading.specs.Parts.{Inner, never}
use Rattle.c_reading.specs.Specifying.{present}
use Rattle.c_reading.specs.Expressing.{begins_expr}
use Rattle.c_reading.specs.Stating.{stmt_start, bare_declaration, declr_behind, case_with, default_with, block_with, goto_with, jump_with, return_with, asm_with, attr_stmt_with, named_stmt, stmt_by, stmt_with}
use Rattle.c_reading.specs.Items.{goes_on_declared, function_with, attrs_behind, function_or_not, behind_function, behind_declr, first_declr, declared_item, asm_item_with, item_with, items_with, old_declaration, old_function_with}
use Rattle.c_reading.specs.Knot.{tied, knot}
use Rattle.room_laws.specs.Rooms.{More, InnerMore, number_of, MoreRoomIsMore}
use Rattle.room_laws.proofs.More.{more_same, more_bind, more_behind, more_fits, more_if, more_repeated}
use Rattle.room_laws.proofs.Exprs.{expr_more}
use Rattle.room_laws.proofs.Specs.{attrs_more, exts_more, specs_here_more, specs_two, specs_more}
use Rattle.room_laws.proofs.Declr.{declr_more, type_name_more}
use Rattle.room_laws.proofs.Stmts.{init_list_more, some_init_more, declr_behind_more, declrs_more, declaration_behind_more, block_body_more, block_more, stmt_by_more}

module _ (n : ℕ) (inner other : Inner) (m : InnerMore n inner other) where
  -- each statement asks for a level at its first token
  stmt_none : (wide : ℕ) (start : StmtStart) (s : HeldScopes) (ts : List Lexeme)
      → More (stmt_by inner start 0 s ts) (stmt_by other start wide s ts)
  unfolding stmt_by block_with case_with default_with named_stmt goto_with jump_with return_with asm_with attr_stmt_with
  stmt_none wide starts.Block s ts =
      more_bind _ _ _ _ (more_if (is_open_brace (kind_at ts)) _ _ _ _
      (more_fits 1 0 wide ts _ _ (omega arith) (λ fit. absurd (omega (arith, fit)))) (inr refl)) (λ b. refl)
  stmt_none wide starts.Semicolon s ts = more_fits 1 0 wide ts _ _ (omega arith) (λ fit. absurd (omega (arith, fit)))
  stmt_none wide starts.Attribute s ts = more_bind _ _ _ _ (attrs_more 0 wide (omega arith) s ts) (λ attrs. more_same _)
  stmt_none wide (starts.Name name) s ts = more_fits 2 0 wide ts _ _ (omega arith) (λ fit. absurd (omega (arith, fit)))
  stmt_none wide starts.Case s ts = more_fits 2 0 wide ts _ _ (omega arith) (λ fit. absurd (omega (arith, fit)))
  stmt_none wide starts.Default s ts = more_fits 2 0 wide ts _ _ (omega arith) (λ fit. absurd (omega (arith, fit)))
  stmt_none wide starts.If s ts = more_fits 2 0 wide ts _ _ (omega arith) (λ fit. absurd (omega (arith, fit)))
  stmt_none wide starts.Switch s ts = more_fits 2 0 wide ts _ _ (omega arith) (λ fit. absurd (omega (arith, fit)))
  stmt_none wide starts.While s ts = more_fits 2 0 wide ts _ _ (omega arith) (λ fit. absurd (omega (arith, fit)))
  stmt_none wide starts.Do s ts = more_fits 2 0 wide ts _ _ (omega arith) (λ fit. absurd (omega (arith, fit)))
  stmt_none wide starts.For s ts = more_fits 2 0 wide ts _ _ (omega arith) (λ fit. absurd (omega (arith, fit)))
  stmt_none wide starts.Goto s ts = more_fits 1 0 wide ts _ _ (omega arith) (λ fit. absurd (omega (arith, fit)))
  stmt_none wide starts.Continue s ts = more_fits 1 0 wide ts _ _ (omega arith) (λ fit. absurd (omega (arith, fit)))
  stmt_none wide starts.Break s ts = more_fits 1 0 wide ts _ _ (omega arith) (λ fit. absurd (omega (arith, fit)))
  stmt_none wide starts.Return s ts = more_fits 1 0 wide ts _ _ (omega arith) (λ fit. absurd (omega (arith, fit)))
  stmt_none wide starts.Asm s ts = more_fits 1 0 wide ts _ _ (omega arith) (λ fit. absurd (omega (arith, fit)))
  stmt_none wide starts.Value s ts =
      more_if (begins_expr s (kind_at ts)) _ _ _ _
      (more_fits 2 0 wide ts _ _ (omega arith) (λ fit. absurd (omega (arith, fit)))) (inr refl)

  stmt_more : (room wide : ℕ) → room < suc n → room ≤ wide → (s : HeldScopes) (ts : List Lexeme)
      → More (stmt_with inner room s ts) (stmt_with other wide s ts)
  unfolding stmt_with
  stmt_more zero wide less wider s ts = stmt_none wide (stmt_start (kind_at ts)) s ts
  stmt_more (suc room) wide less wider s ts =
      stmt_by_more n inner other m (suc room) wide less (omega arith) wider (stmt_start (kind_at ts)) s ts

  tied_more : InnerMore (suc n) (tied inner) (tied other)
  tied_more = record {
    exprs = λ reach begun room wide less wider s ts. expr_more n inner other m room wide less wider reach begun s ts;
    types = λ room wide less one wider s ts. type_name_more n inner other m room wide less one wider s ts;
    words = λ role words room wide less wider s ts. specs_more n inner other m room wide less wider role words s ts;
    declrs = λ mode wanted flag room wide less wider s ts.
        declr_more n inner other m flag room wide less wider mode wanted s ts;
    lists = λ room wide less wider s ts. init_list_more n inner other m room wide less wider s ts;
    blocks = λ room wide less wider s ts. block_more n inner other m room wide less wider s ts;
    stmts = stmt_more;
  }

  -- Items of a unit.

  module _ (room wide : ℕ) (less : room < suc n) (two : 2 ≤ room) (wider : room ≤ wide) where
    attrs_behind_more : (d : Declr) (attrs : List Attr) (s : HeldScopes) (ts : List Lexeme)
        → More (attrs_behind inner d attrs (room - 1) s ts) (attrs_behind other d attrs (wide - 1) s ts)
    unfolding attrs_behind
    attrs_behind_more d attrs s ts =
        more_bind _ _ _ _ (some_init_more n inner other m (room - 1) (wide - 1) (omega (arith, less))
        (omega (arith, two)) (omega (arith, wider)) s ts) (λ init. refl)

    function_or_not_more : (exts : List ℕ) (words : SpecWords) (d : Declr) (attrs : List Attr) (closed : HeldScope)
        (s : HeldScopes) (ts : List Lexeme) →
        More (function_or_not inner exts words d attrs closed room s ts)
        (function_or_not other exts words d attrs closed wide s ts)
    unfolding function_or_not function_with
    function_or_not_more exts words d attrs closed s ts =
        more_if (is_open_brace (kind_at ts)) _ _ _ _
        (more_bind _ _ _ _ (block_body_more n inner other m (room - 1) (wide - 1) (omega (arith, less))
        (omega (arith, two)) (omega (arith, wider)) (reopen closed s) ts) (λ body. refl))
        (more_if (goes_on_declared (kind_at ts)) _ _ _ _
        (more_fits (2 + declr_height d) room wide ts _ _ wider (λ fit. more_bind _ _ _ _ (declrs_more n inner other m
        room wide less two wider exts words Value _ _ s ts (attrs_behind_more d attrs s ts)) (λ d. refl))) (inr refl))

    declared_more : (exts : List ℕ) (words : SpecWords) (d : Declr) (s : HeldScopes) (ts : List Lexeme)
        → More (declr_behind inner [] d (room - 1) s ts) (declr_behind other [] d (wide - 1) s ts)
    declared_more exts words d s ts =
        declr_behind_more n inner other m (room - 1) (wide - 1) (omega (arith, less)) (omega (arith, two))
        (omega (arith, wider)) [] d s ts

    behind_declr_more : (exts : List ℕ) (words : SpecWords) (d : Declr) (closed : Option HeldScope) (s : HeldScopes)
        (ts : List Lexeme) →
        More (behind_declr inner exts words d closed room s ts) (behind_declr other exts words d closed wide s ts)
    unfolding behind_function
    behind_declr_more exts words d None s ts =
        more_bind _ _ _ _ (declrs_more n inner other m room wide less two wider exts words Value _ _ s ts
        (declared_more exts words d s ts)) (λ d. refl)
    behind_declr_more exts words d (Some closed) s ts =
        more_if (is_asm (kind_at ts)) _ _ _ _
        (more_fits (2 + declr_height d) room wide ts _ _ wider (λ fit. more_bind _ _ _ _ (declrs_more n inner other m
        room wide less two wider exts words Value _ _ s ts (declared_more exts words d s ts)) (λ d. refl)))
        (more_bind _ _ _ _ (attrs_more room wide wider s ts) (λ attrs.
        function_or_not_more exts words d attrs.tree closed attrs.scopes attrs.rest))

    -- declarations behind a list of identifiers
    old_declaration_more : (s : HeldScopes) (ts : List Lexeme)
        → More (old_declaration inner (room - 1) s ts) (old_declaration other (wide - 1) s ts)
    unfolding old_declaration
    old_declaration_more s ts =
        more_bind _ _ _ _ (exts_more (room - 1) (wide - 1) (omega (arith, wider)) s ts)
        (λ exts. more_behind _ _ _ _ (specs_here_more n inner other m (room - 1) (wide - 1) (omega (arith, less))
        (omega (arith, wider)) Declaring exts.scopes exts.rest) (λ words is. declaration_behind_more n inner other m
        (room - 1) (wide - 1) (omega (arith, less)) (specs_two n inner other m Declaring
        (room - 1) exts.scopes exts.rest words is) (omega (arith, wider)) exts.tree words.tree words.scopes words.rest))

    old_function_more : (exts : List ℕ) (words : SpecWords) (d : Declr) (s : HeldScopes) (ts : List Lexeme)
        → More (old_function_with inner exts words d room s ts) (old_function_with other exts words d wide s ts)
    unfolding old_function_with
    old_function_more exts words d s ts =
        more_bind _ _ _ _ (attrs_more room wide wider s ts)
        (λ attrs. more_bind _ _ _ _ (more_repeated (λ kind. not (is_open_brace kind)) (old_declaration inner (room - 1))
        (old_declaration other (wide - 1)) old_declaration_more (enter attrs.scopes) attrs.rest)
        (λ ds. more_bind _ _ _ _
        (block_body_more n inner other m (room - 1) (wide - 1) (omega (arith, less)) (omega (arith, two))
        (omega (arith, wider)) (reopen (innermost ds.scopes) (release Value (leave ds.scopes))) ds.rest)
        (λ body. refl)))

    first_declr_more : (exts : List ℕ) (words : SpecWords) (s : HeldScopes) (ts : List Lexeme)
        → More (first_declr inner exts words room s ts) (first_declr other exts words wide s ts)
    unfolding first_declr
    first_declr_more exts words s ts =
        more_bind _ _ _ _
        (m.declrs Named (Some Value) true (room - 2) (wide - 2) (omega (arith, less, two)) (omega (arith, wider)) s ts)
        (λ d. more_bind _ _ _ _ (more_same (present d.tree.declr d.scopes d.rest)) (λ known.
        more_if (lists_identifiers known.tree) _ _ _ _ (old_function_more exts words known.tree known.scopes known.rest)
        (behind_declr_more exts words known.tree d.tree.closed (release Value known.scopes) known.rest)))

  module _ (room wide : ℕ) (less : room < suc n) (wider : room ≤ wide) where
    declared_item_more : (s : HeldScopes) (ts : List Lexeme)
        → More (declared_item inner room s ts) (declared_item other wide s ts)
    unfolding declared_item bare_declaration
    declared_item_more s ts =
        more_bind _ _ _ _ (exts_more room wide wider s ts) (λ exts.
        more_behind _ _ _ _ (specs_here_more n inner other m room wide less wider Declaring exts.scopes exts.rest)
        (λ words is. let two = specs_two n inner other m Declaring room exts.scopes exts.rest words is in
        more_if (has_auto words.tree) _ _ _ _ (more_bind _ _ _ _ (declaration_behind_more n inner other m room wide less
        two wider exts.tree words.tree words.scopes words.rest) (λ d. refl))
        (more_if (is_semicolon (kind_at words.rest)) _ _ _ _ (more_bind _ _ _ _
        (more_fits (1 + specs_height words.tree) room wide words.rest _ _ wider (λ fit. more_same _)) (λ d. refl))
        (more_if (has_typedef_word (storage_words words.tree)) _ _ _ _ (more_bind _ _ _ _ (declaration_behind_more n
        inner other m room wide less two wider exts.tree words.tree words.scopes words.rest) (λ d. refl))
        (first_declr_more room wide less two wider exts.tree words.tree words.scopes words.rest)))))

    item_more : (s : HeldScopes) (ts : List Lexeme) → More (item_with inner room s ts) (item_with other wide s ts)
    unfolding item_with asm_item_with
    item_more s ts =
        more_if (is_semicolon (kind_at ts)) _ _ _ _ (more_fits 1 room wide ts _ _ wider (λ fit. more_same _))
        (more_if (is_asm (kind_at ts)) _ _ _ _ (more_fits 1 room wide ts _ _ wider (λ fit. more_same _))
        (more_if (is_static_assert (kind_at ts)) _ _ _ _ (more_fits 1 room wide ts _ _ wider (λ fit. more_same _))
        (declared_item_more s ts)))

    items_more : (s : HeldScopes) (ts : List Lexeme) → More (items_with inner room s ts) (items_with other wide s ts)
    unfolding items_with
    items_more s ts =
        more_repeated (λ kind. not (is_end kind)) (item_with inner room) (item_with other wide) item_more s ts

none_less : (room : ℕ) → room < 0 → ⊥
none_less room h = absurd (omega (arith, h))

none_numbered : (flag : Bool) (room : ℕ) → number_of flag room < 0 → ⊥
none_numbered flag room h = absurd (omega (arith, h))

-- of readers of number 0 nothing is owed
nothing_more : (other : Inner) → InnerMore 0 never other
nothing_more other = record {
  exprs = λ reach begun room wide less. absurd (none_less room less);
  types = λ room wide less. absurd (none_less room less);
  words = λ role words room wide less. absurd (none_less room less);
  declrs = λ mode wanted flag room wide less. absurd (none_numbered flag room less);
  lists = λ room wide less. absurd (none_less room less);
  blocks = λ room wide less. absurd (none_less room less);
  stmts = λ room wide less. absurd (none_less room less);
}

knot_more : (n d : ℕ) → n ≤ d → InnerMore (suc n) (knot n) (knot d)
unfolding knot
knot_more zero zero h = tied_more 0 never never (nothing_more never)
knot_more zero (suc d) h = tied_more 0 never (knot d) (nothing_more (knot d))
knot_more (suc n) zero h = absurd (omega (arith, h))
knot_more (suc n) (suc d) h = tied_more (suc n) (knot n) (knot d) (knot_more n d (omega (arith, h)))

-- the law: with more room a unit is read alike
pub more_room_is_more : MoreRoomIsMore
more_room_is_more room wide one wider dialect all =
    more_bind _ _ _ _ (items_more (suc room) (knot room) (knot wide) (knot_more room wide wider) (room - 1) (wide - 1)
    (omega arith) (omega (arith, wider)) _ all) (λ items. more_same _)
