-- Bounds of the readers of declarators.
use Rattle.std.proofs.Common.{◌≡◌, ℕ, suc, ◌+◌, ◌≤◌, Bool, true, false, if◌then◌else◌, List, [], length, Option, Some, None, refl, arith}
use Rattle.std.specs.Prelude.{◌*◌, ◌-◌, ◌&&◌, ◌||◌, is_some}
use Rattle.c_words.specs.declared.kinds.TokenKind.{TokenKind}
use Rattle.c_words.specs.declared.kinds.TokenKind.TheVariants as kinds
use Rattle.c_syntax.specs.declared.parts.Identifier.{Identifier}
use Rattle.c_tree.specs.declared.lexeme.Lexeme.{Lexeme}
use Rattle.c_syntax.specs.declared.parts.Attr.{Attr}
use Rattle.c_tree.specs.Tree.{Declr, some_declr, SpecWords, no_words, more_words, SomeDeclr, no_declr, no_size, some_size, size_value, size_star, Dots}
use Rattle.c_tree.specs.Height.{some_declr_height, attrs_height, declr_height, expr_height, pointer_words_height, some_size_height, specs_height}
use Rattle.typedef_scope.specs.declared.kind.Kind.{Kind}
use Rattle.typedef_scope.specs.declared.kind.Kind.TheVariants.{Value, Typedef, Constant}
use Rattle.c_units.specs.HeldScopes.{HeldScopes, release, is_wide}
use Rattle.c_units.specs.Scoping.{at_name}
use Rattle.c_reading.specs.declared.kinds.FaultKind.TheVariants.{Unexpected}
use Rattle.c_reading.specs.declared.kinds.Reach.TheVariants.{Assigned}
use Rattle.c_reading.specs.declared.kinds.Role.TheVariants.{Typed, Naming}
use Rattle.c_reading.specs.declared.kinds.Mode.{Mode}
use Rattle.c_reading.specs.declared.kinds.Mode.TheVariants.{Named, Abstract, Either}
use Rattle.c_reading.specs.Reading.{Read, ends, refuses, fits, kind_at, take_one, run, listed, one_more, list_end, IsNumbered, and_then}
use Rattle.c_reading.specs.Tokens.{is_open_paren, is_close_paren, is_open_bracket, is_close_bracket, is_star, is_dots, spelled_name, attrs_at, is_end}
use Rattle.c_reading.specs.Parts.{Inner, nothing, star, Declared, params_from, type_name_height}
use Rattle.c_reading.specs.Declaring.{identifiers_with, identifiers_of, list_behind, begins_identifiers, identifier_at, names_base, base_named, takes_name, is_bare, room_at, words_of_quals, words_of_attrs, are_none, opens_params, opens_declr, takes_attrs, absent, name_held, star_size, size_with, array_with, param_words, param_attrs, param_with, next_param, params_with, prototype_with, params_behind, suffix_turn, paren_with, named_paren, opened_by, opened_with, some_paren, name_or_none, core_with, direct_with, pointer_with, declr_with, type_name_with}
use Rattle.c_reading.proofs.Aims.{TokenLaws, Laws}
use Rattle.deep_places.proofs.Words.{b_names_list, bound_identifier, b_quals_at, b_array_words_at, b_attrs_at, b_pointer_words_at}
use Rattle.c_reading.proofs.DeclrFalls.{identifier_shrinks, next_param_falls, suffix_shrinks}
use Rattle.deep_places.proofs.Heights.{low_params, low_pointer, low_paren, low_array, low_params_of, low_quals, low_words_of_attrs, low_least_pointer}
use Rattle.deep_places.proofs.Specs.{b_specs_here, b_present}
use Rattle.deep_places.specs.Bounds.{BoundAt, StepAt, begun_levels, declared_height, param_item_height, InnerBounds}
use Rattle.deep_places.proofs.Bounding.{bound_ends, bound_weaker, bound_bind, bound_fits, bound_if, token_levels, no_levels, bound_take, bound_token, bound_run, next_height, list_height, bound_listed, known_of, known_by}

-- the room behind a declarator is no less than what it has before it
room_least : (flag : Bool) (room : ℕ) (d : Declared) (kind : TokenKind) → room ≤ room_at flag room d kind
room_least flag room d kind = by_more (flag && (is_some d.closed || (is_open_paren kind && is_bare d.declr)))
  where
    by_more : (b : Bool) → room ≤ (if b then suc room else room)
    by_more true = omega arith
    by_more false = omega arith

-- the end of a source is no name of a typedef
base_end : (s : HeldScopes) (mode : Mode) (wanted : Option Kind) → names_base s mode wanted kinds.End ≡ false
base_end s Named (Some Typedef) = by_width (is_wide s)
  where
    by_width : (b : Bool) → (b && false) ≡ false
    by_width true = refl
    by_width false = refl
base_end s Named (Some Value) = refl
base_end s Named (Some Constant) = refl
base_end s Named None = refl
base_end s Abstract wanted = refl
base_end s Either wanted = refl

module _ (all : List Lexeme) (numbered : IsNumbered all) (tokens : TokenLaws all) (n : ℕ) (inner : Inner)
    (laws : Laws all n inner)
    (good : InnerBounds inner) where
  pub b_absent : (room : ℕ) (a0 : Mode) (s : HeldScopes) (ts : List Lexeme)
      → BoundAt declared_height (0) room (0) ts (absent a0 s ts)
  b_absent room Named s ts =
      record { held = λ e. absurd cc }
  b_absent room Abstract s ts =
      bound_ends _ _ _ _ _ _ _ (omega arith)
  b_absent room Either s ts =
      bound_ends _ _ _ _ _ _ _ (omega arith)

  pub b_name_held : (name : ℕ) (room : ℕ) (a2 : Option HeldScopes) (s : HeldScopes) (ts : List Lexeme)
      → is_end (kind_at ts) ≡ false
      → BoundAt declared_height (0) room (0) ts (name_held name room a2 s ts)
  b_name_held name room None s ts known =
      record { held = λ e. absurd cc }
  b_name_held name room (Some held) s ts known =
      bound_fits _ _ _ _ _ _ _ _ (known) (λ less459. omega arith) (λ less459. bound_bind token_levels _ (0) _ _ _ _ _ _
      (bound_take _ _ _ _) (λ token b460 e461 l462. bound_ends _ _ _ _ _ _ _ (omega arith)))

  pub b_star_size : (room : ℕ) (s : HeldScopes) (ts : List Lexeme)
      → BoundAt some_size_height (2) room (12) ts (star_size inner room s ts)
  unfolding star_size
  b_star_size room s ts =
      bound_bind token_levels _ (0) _ _ _ _ _ _ (bound_take _ _ _ _) (λ token b463 e464 l465. bound_if _ _ _ _ _
      (is_close_bracket (kind_at token.rest)) (ends (some_size (size_star token.tree)) token.scopes token.rest)
      (and_then (inner.expr Assigned (star token.tree) (room - 1) token.scopes token.rest)
      (λ e. (ends (some_size (size_value e.tree)) e.scopes e.rest))) (λ is466. bound_ends _ _ _ _ _ _ _ (omega arith))
      (λ is466. bound_bind expr_height _ (1 + begun_levels (star token.tree)) _ _ _ _ _ _
      (bound_weaker _ (1 + begun_levels (star token.tree)) (room - 1) (10 + begun_levels (star token.tree)) _ _ _ _ _
      (omega arith) (omega arith) (good.expr Assigned (star token.tree) (room - 1) _ _))
      (λ e b467 e468 l469. bound_ends _ _ _ _ _ _ _ (omega arith))))

  pub b_size_with : (room : ℕ) (s : HeldScopes) (ts : List Lexeme)
      → BoundAt some_size_height (2) room (12) ts (size_with inner room s ts)
  unfolding size_with
  b_size_with room s ts =
      bound_if _ _ _ _ _ (is_close_bracket (kind_at ts)) (ends no_size s ts) (if is_star (kind_at ts)
      then (star_size inner room s ts) else (and_then (inner.expr Assigned nothing (room - 1) s ts)
      (λ e. (ends (some_size (size_value e.tree)) e.scopes e.rest)))) (λ is470. bound_ends _ _ _ _ _ _ _ (omega arith))
      (λ is470. bound_if _ _ _ _ _ (is_star (kind_at ts)) (star_size inner room s ts) (and_then
      (inner.expr Assigned nothing (room - 1) s ts) (λ e. (ends (some_size (size_value e.tree)) e.scopes e.rest)))
      (λ is471. bound_weaker _ (2) room (12) _ _ _ _ _ (omega arith) (omega arith) (b_star_size room _ _)) (λ is471.
      bound_bind expr_height _ (1 + begun_levels nothing) _ _ _ _ _ _ (bound_weaker _ (1 + begun_levels nothing)
      (room - 1) (10 + begun_levels nothing) _ _ _ _ _ (omega arith) (omega arith)
      (good.expr Assigned nothing (room - 1) _ _)) (λ e b472 e473 l474. bound_ends _ _ _ _ _ _ _ (omega arith))))

  pub b_array_with : (d : Declared) (room : ℕ) (s : HeldScopes) (ts : List Lexeme)
      → BoundAt declared_height (declared_height d)
      room (declared_height d + 10) ts (array_with inner d room s ts)
  unfolding array_with
  b_array_with d room s ts =
      bound_bind token_levels _ (0) _ _ _ _ _ _ (bound_take _ _ _ _) (λ opening b475 e476 l477. bound_bind no_levels _
      (0) _ _ _ _ _ _ (bound_weaker _ (0) room (0) _ _ _ _ _ (omega arith) (omega arith) (b_array_words_at room _ _))
      (λ words b478 e479 l480. bound_bind some_size_height _ (2) _ _ _ _ _ _ (bound_weaker _ (2) room (12) _ _ _ _ _
      (omega arith) (omega arith) (b_size_with room _ _)) (λ size b481 e482 l483. bound_bind token_levels _
      (0) _ _ _ _ _ _ (bound_token is_close_bracket _ _ _ _) (λ closing b484 e485 l486. bound_ends _ _ _ _ _ _ _
      (let f487 = low_array d.declr opening.tree words.tree size.tree closing.tree in omega arith)))))

  pub b_param_words : (a0 : SpecWords) (room : ℕ) (s : HeldScopes) (ts : List Lexeme)
      → BoundAt specs_height (specs_height a0) room
      (specs_height a0 + 12) ts (param_words inner a0 room s ts)
  b_param_words no_words room s ts =
      bound_weaker _ (1) room (12) _ _ _ _ _ (omega arith) (omega arith)
      (b_specs_here all numbered tokens n inner laws good Typed room _ _)
  b_param_words (more_words w ws) room s ts =
      bound_weaker _ (specs_height (more_words w ws)) (room - 1)
      (specs_height (more_words w ws) + 10) _ _ _ _ _ (omega arith)
      (omega arith) (good.specs Typed (more_words w ws) (room - 1) _ _)

  pub b_param_attrs : (d : SomeDeclr) (room : ℕ) (s : HeldScopes) (ts : List Lexeme)
      → BoundAt attrs_height (1) room (1) ts
      (param_attrs inner d room s ts)
  b_param_attrs d room s ts =
      bound_if _ _ _ _ _ (takes_attrs d) (attrs_at room s ts) (ends [] s ts) (λ is488. bound_weaker _ (1) room
      (1) _ _ _ _ _ (omega arith) (omega arith) (b_attrs_at room _ _)) (λ is488. bound_ends _ _ _ _ _ _ _ (omega arith))

  pub b_param_with : (known : SpecWords) (room : ℕ) (s : HeldScopes) (ts : List Lexeme)
      → BoundAt param_item_height (specs_height
      known + 2) room (specs_height known + 12) ts (param_with inner known room s ts)
  unfolding param_with
  b_param_with known room s ts =
      bound_bind specs_height _ (specs_height known) _ _ _ _ _ _ (bound_weaker _ (specs_height known) room
      (specs_height known + 12) _ _ _ _ _ (omega arith) (omega arith) (b_param_words known room s ts))
      (λ words b489 e490 l491. bound_bind declared_height _ (0) _ _ _ _ _ _ (bound_weaker _ (0) (room - 1)
      (10) _ _ _ _ _ (omega arith) (omega arith) (good.declr Either (Some Value) false (room - 1) _ _))
      (λ d b492 e493 l494. bound_bind attrs_height _ (1) _ _ _ _ _ _ (bound_weaker _ (1) room (1) _ _ _ _ _
      (omega arith) (omega arith) (b_param_attrs d.tree.declr room (release Value d.scopes) d.rest))
      (λ attrs b495 e496 l497. bound_ends _ _ _ _ _ _ _ (omega arith))))

  pub b_next_param : (room : ℕ) (comma : ℕ) (s : HeldScopes) (ts : List Lexeme)
      → BoundAt (next_height {E = Dots} param_item_height)
      (4) room (14) ts (next_param inner room comma s ts)
  unfolding next_param
  b_next_param room comma s ts =
      bound_bind no_levels _ (0) _ _ _ _ _ _
      (bound_weaker _ (0) room (0) _ _ _ _ _ (omega arith) (omega arith) (b_quals_at room _ _)) (λ quals b498 e499 l500.
      bound_if _ _ _ _ _ (is_dots (kind_at quals.rest)) (and_then (take_one quals.scopes quals.rest) (λ dots.
      (ends (list_end (record { comma = comma; quals = quals.tree; dots = dots.tree })) dots.scopes dots.rest)))
      (and_then (param_with inner (words_of_quals quals.tree) room quals.scopes quals.rest)
      (λ p. (ends (one_more p.tree) p.scopes p.rest))) (λ is501. bound_bind token_levels _ (0) _ _ _ _ _ _
      (bound_take _ _ _ _) (λ dots b502 e503 l504. bound_ends _ _ _ _ _ _ _ (omega arith))) (λ is501.
      let f505 = low_quals quals.tree in
      bound_bind param_item_height _ (specs_height (words_of_quals quals.tree) + 2) _ _ _ _ _ _ (bound_weaker _
      (specs_height (words_of_quals quals.tree) + 2) room (specs_height (words_of_quals quals.tree) + 12) _ _ _ _ _
      (omega arith) (omega arith) (b_param_with (words_of_quals quals.tree) room _ _))
      (λ p b506 e507 l508. bound_ends _ _ _ _ _ _ _ (omega arith))))

  pub b_params_with : (lead : List Attr) (room : ℕ) (s : HeldScopes) (ts : List Lexeme)
      → BoundAt (list_height {E = Dots}
      param_item_height) (4) room (14) ts (params_with inner lead room s ts)
  unfolding params_with
  b_params_with lead room s ts =
      bound_if _ _ _ _ _ (are_none lead && is_close_paren (kind_at ts))
      (ends (record { items = []; ending = None }) s ts) (listed (param_with inner (words_of_attrs lead) room)
      (next_param inner room) s ts) (λ is509. bound_ends _ _ _ _ _ _ _ (omega arith))
      (λ is509. let f510 = low_words_of_attrs lead in bound_weaker _ (4) room (14) _ _ _ _ _ (omega arith) (omega arith)
      (bound_listed (param_with inner (words_of_attrs lead) room) (next_param inner room) (param_item_height) (4) room
      (14) ((λ comma. next_param_falls all tokens n inner laws room comma)) (omega arith) s ts
      (bound_weaker _ (specs_height (words_of_attrs lead) + 2) room (specs_height (words_of_attrs lead) + 12) _ _ _ _ _
      (omega arith) (omega arith) (b_param_with (words_of_attrs lead) room _ _)) (λ comma s9 ts9.
      bound_weaker _ (4) room (14) _ _ _ _ _ (omega arith) (omega arith) (b_next_param room comma _ _))))

  pub b_prototype_with : (d : Declared) (opening : ℕ) (lead : List Attr) (room : ℕ) (s : HeldScopes) (ts : List Lexeme)
      → BoundAt declared_height (declared_height d) room (declared_height d + 15) ts
      (prototype_with inner d opening lead room s ts)
  unfolding prototype_with
  b_prototype_with d opening lead room s ts =
      bound_bind (list_height {E = Dots} param_item_height) _ (4) _ _ _ _ _ _
      (bound_weaker _ (4) (room - 1) (14) _ _ _ _ _ (omega arith) (omega arith) (b_params_with lead (room - 1) _ _))
      (λ ps b511 e512 l513. bound_bind token_levels _ (0) _ _ _ _ _ _ (bound_token is_close_paren _ _ _ _)
      (λ closing b514 e515 l516. bound_ends _ _ _ _ _ _ _ (let f517 = low_params ps.tree.items in
      let f518 = low_params_of d.declr opening (params_from ps.tree.items) ps.tree.ending closing.tree in omega arith)))

  pub b_identifiers_with : (d : Declr) (opening : ℕ) (room : ℕ) (s : HeldScopes) (ts : List Lexeme)
      → BoundAt declared_height
      (declr_height d) room (declr_height d + 15) ts (identifiers_with inner d opening s ts)
  unfolding identifiers_with
  b_identifiers_with d opening room s ts =
      bound_bind (no_levels {A = List Identifier}) _ (0) _ _ _ _ _ _
      (bound_weaker _ (0) room (0) _ _ _ _ _ (omega arith) (omega arith)
      (b_names_list identifier_at identifier_shrinks (λ room2 s2 ts2. bound_identifier room2 s2 ts2) room _ _))
      (λ names p302 q302 r302. bound_bind token_levels _ (0) _ _ _ _ _ _ (bound_token is_close_paren _ _ _ _)
      (λ closing p301 q301 r301. bound_ends _ _ _ _ _ _ _ (omega arith)))

  -- a list of identifiers behind a name, and else parameters
  b_identifiers_of : (o : SomeDeclr) (opening : ℕ) (room : ℕ) (s : HeldScopes) (ts : List Lexeme)
      (other : Read Declared) →
      BoundAt declared_height (some_declr_height o) room (some_declr_height o + 15) ts other →
      BoundAt declared_height (some_declr_height o) room (some_declr_height o + 15) ts
      (identifiers_of o (λ inside. identifiers_with inner inside opening s ts) other)
  b_identifiers_of no_declr opening room s ts other h = h
  b_identifiers_of (some_declr d) opening room s ts other h = b_identifiers_with d opening room s ts

  b_list_behind : (flag : Bool) (d : Declared) (opening : ℕ) (room : ℕ) (s : HeldScopes) (ts : List Lexeme) →
      BoundAt declared_height (declared_height d) room (declared_height d + 15) ts
      (list_behind inner flag d opening room s ts)
  b_list_behind true d opening room s ts =
      b_identifiers_of d.declr opening room s ts (prototype_with inner d opening [] room s ts)
      (b_prototype_with d opening [] room s ts)
  b_list_behind false d opening room s ts = b_prototype_with d opening [] room s ts

  pub b_params_behind : (flag : Bool) (d : Declared) (room : ℕ) (s : HeldScopes) (ts : List Lexeme)
      → BoundAt declared_height (declared_height d)
      room (declared_height d + 10) ts (params_behind inner flag d room s ts)
  b_params_behind flag d room s ts =
      bound_bind token_levels _ (0) _ _ _ _ _ _ (bound_take _ _ _ _) (λ opening b519 e520 l521. bound_weaker _
      (declared_height d) room (declared_height d + 15) _ _ _ _ _ (omega arith) (omega arith) (b_list_behind
      (flag && is_bare d.declr && begins_identifiers opening.scopes (kind_at opening.rest)) d opening.tree room _ _))

  suffix_step : (flag : Bool) (room : ℕ) (d : Declared) (s : HeldScopes) (ts : List Lexeme) (c : ℕ) → 0 ≤ c
      → declared_height d ≤ c
      → StepAt declared_height c room (c + 10) ts (suffix_turn inner flag room d s ts)
  suffix_step flag room d s ts c high low = by_bracket (is_open_bracket (kind_at ts)) refl
    where
      fitted : (read : Read Declared) → is_end (kind_at ts) ≡ false
          → BoundAt declared_height (declared_height d) (room_at flag room
          d (kind_at ts)) (declared_height d + 10) ts read →
          BoundAt declared_height c room (c + 10) ts
          (fits (suc (some_declr_height d.declr)) (room_at flag room d (kind_at ts)) ts read)
      fitted read known b =
          let least = room_least flag room d (kind_at ts) in
          bound_fits declared_height c room (c + 10) (suc (some_declr_height d.declr))
          (room_at flag room d (kind_at ts)) ts read known (λ less. omega arith)
          (λ enough. bound_weaker declared_height (declared_height d) (room_at flag room d (kind_at ts))
          (declared_height d + 10) c room (c + 10) ts read (omega arith) (omega arith) b)

      by_paren : (b : Bool) → is_open_paren (kind_at ts) ≡ b →
          StepAt declared_height c room (c + 10) ts (if b
          then Some (fits (suc (some_declr_height d.declr)) (room_at flag room d
          (kind_at ts)) ts (params_behind inner flag d (room_at flag room d (kind_at ts)) s ts)) else None)
      by_paren true is =
          fitted (params_behind inner flag d (room_at flag room d (kind_at ts)) s ts) (known_by is_open_paren refl
          (kind_at ts) is) (b_params_behind flag d (room_at flag room d (kind_at ts)) s ts)
      by_paren false is = tt

      by_bracket : (b : Bool) → is_open_bracket (kind_at ts) ≡ b →
          StepAt declared_height c room (c + 10) ts (if b
          then Some (fits (suc (some_declr_height d.declr)) (room_at flag room d
          (kind_at ts)) ts (array_with inner d (room_at flag room d (kind_at ts)) s ts))
          else if is_open_paren (kind_at ts)
          then Some (fits (suc (some_declr_height d.declr)) (room_at flag room d (kind_at ts)) ts
          (params_behind inner flag d (room_at flag room d (kind_at ts)) s ts)) else None)
      by_bracket true is =
          fitted (array_with inner d (room_at flag room d (kind_at ts)) s ts) (known_by is_open_bracket refl
          (kind_at ts) is) (b_array_with d (room_at flag room d (kind_at ts)) s ts)
      by_bracket false is = by_paren (is_open_paren (kind_at ts)) refl

  pub b_paren_with : (mode : Mode) (wanted : Option Kind) (flag : Bool) (opening : ℕ) (attrs : List Attr)
      (room : ℕ) (s :
      HeldScopes) (ts : List Lexeme) → BoundAt declared_height (attrs_height attrs) room (11) ts
      (paren_with inner mode wanted flag opening attrs room s ts)
  unfolding paren_with
  b_paren_with mode wanted flag opening attrs room s ts =
      bound_bind declared_height _ (0) _ _ _ _ _ _ (bound_weaker _ (0) (room - 1) (10) _ _ _ _ _ (omega arith)
      (omega arith) (good.declr mode wanted flag (room - 1) _ _))
      (λ d b522 e523 l524. bound_bind declr_height _ (some_declr_height d.tree.declr) _ _ _ _ _ _
      (bound_weaker _ (some_declr_height d.tree.declr) room (0) _ _ _ _ _ (omega arith) (omega arith)
      (b_present all numbered tokens n inner laws good room d.tree.declr d.scopes d.rest)) (λ known b525 e526 l527.
      bound_bind token_levels _ (0) _ _ _ _ _ _ (bound_token is_close_paren _ _ _ _) (λ closing b528 e529 l530.
      bound_ends _ _ _ _ _ _ _ (let f531 = low_paren opening attrs known.tree closing.tree in omega arith))))

  pub b_named_paren : (wanted : Option Kind) (flag : Bool) (room : ℕ) (s : HeldScopes) (ts : List Lexeme)
      → is_end (kind_at ts) ≡
      false → BoundAt declared_height (0) room (10) ts (named_paren inner wanted flag room s ts)
  unfolding named_paren
  b_named_paren wanted flag room s ts known =
      bound_fits _ _ _ _ _ _ _ _ (known) (λ less532. omega arith)
      (λ less532. bound_bind token_levels _ (0) _ _ _ _ _ _ (bound_take _ _ _ _) (λ opening b533 e534 l535.
      bound_bind attrs_height _ (1) _ _ _ _ _ _ (bound_weaker _ (1) room (1) _ _ _ _ _ (omega arith) (omega arith)
      (b_attrs_at room _ _)) (λ attrs b536 e537 l538. bound_weaker _ (attrs_height attrs.tree) room (11) _ _ _ _ _
      (omega arith) (omega arith) (b_paren_with Named wanted flag opening.tree attrs.tree room _ _))))

  pub b_opened_by : (mode : Mode) (wanted : Option Kind) (flag : Bool) (opening : ℕ) (attrs : List Attr) (room : ℕ)
      (s : HeldScopes)
      (ts : List Lexeme)
      → BoundAt declared_height (attrs_height attrs) room (15) ts (opened_by inner mode wanted flag opening attrs
      room s ts)
  unfolding opened_by
  b_opened_by mode wanted flag opening attrs room s ts =
      bound_if _ _ _ _ _ (opens_params attrs s (kind_at ts))
      (prototype_with inner (record { declr = no_declr; closed = None }) opening attrs room s ts) (if opens_declr mode
      (kind_at ts) then (paren_with inner mode wanted flag opening attrs room s ts) else (refuses Unexpected ts))
      (λ is539. bound_weaker _ (declared_height (record { declr = no_declr; closed = None })) room
      (declared_height (record { declr = no_declr; closed = None }) + 15) _ _ _ _ _ (omega arith) (omega arith)
      (b_prototype_with (record { declr = no_declr; closed = None }) opening attrs room _ _)) (λ is539.
      bound_if _ _ _ _ _ (opens_declr mode (kind_at ts)) (paren_with inner mode wanted flag opening attrs room s ts)
      (refuses Unexpected ts) (λ is540. bound_weaker _ (attrs_height attrs) room (11) _ _ _ _ _ (omega arith)
      (omega arith) (b_paren_with mode wanted flag opening attrs room _ _)) (λ is540. record { held = λ e. absurd cc }))

  pub b_opened_with : (mode : Mode) (wanted : Option Kind) (flag : Bool) (room : ℕ) (s : HeldScopes) (ts : List Lexeme)
      → is_end
      (kind_at ts) ≡ false → BoundAt declared_height (0) room (10) ts (opened_with inner mode wanted flag room s ts)
  unfolding opened_with
  b_opened_with mode wanted flag room s ts known =
      bound_fits _ _ _ _ _ _ _ _ (known) (λ less541. omega arith)
      (λ less541. bound_bind token_levels _ (0) _ _ _ _ _ _ (bound_take _ _ _ _) (λ opening b542 e543 l544.
      bound_bind attrs_height _ (1) _ _ _ _ _ _ (bound_weaker _ (1) room (1) _ _ _ _ _ (omega arith) (omega arith)
      (b_attrs_at room _ _)) (λ attrs b545 e546 l547. bound_weaker _ (attrs_height attrs.tree) room (15) _ _ _ _ _
      (omega arith) (omega arith) (b_opened_by mode wanted flag opening.tree attrs.tree room _ _))))

  pub b_some_paren : (a0 : Mode) (wanted : Option Kind) (flag : Bool) (room : ℕ) (s : HeldScopes) (ts : List Lexeme)
      → is_end
      (kind_at ts) ≡ false → BoundAt declared_height (0) room (10) ts (some_paren inner a0 wanted flag room s ts)
  b_some_paren Named wanted flag room s ts known =
      bound_weaker _ (0) room (10) _ _ _ _ _ (omega arith) (omega arith) (b_named_paren wanted flag room _ _ (known))
  b_some_paren Abstract wanted flag room s ts known =
      bound_weaker _ (0) room (10) _ _ _ _ _ (omega arith) (omega arith)
      (b_opened_with Abstract wanted flag room _ _ (known))
  b_some_paren Either wanted flag room s ts known =
      bound_weaker _ (0) room (10) _ _ _ _ _ (omega arith) (omega arith)
      (b_opened_with Either wanted flag room _ _ (known))

  pub b_name_or_none : (mode : Mode) (wanted : Option Kind) (a2 : Option ℕ) (room : ℕ) (s : HeldScopes)
      (ts : List Lexeme)
      → ((a2 ≡
      None → ⊥) → is_end (kind_at ts) ≡ false)
      → BoundAt declared_height (0) room (10) ts (name_or_none inner mode wanted a2 room s ts)
  b_name_or_none mode wanted None room s ts known =
      bound_weaker _ (0) room (0) _ _ _ _ _ (omega arith) (omega arith) (b_absent room mode s ts)
  b_name_or_none mode wanted (Some name) room s ts known =
      bound_if _ _ _ _ _ (takes_name mode) (name_held name room (at_name wanted name s) s ts) (absent mode s ts)
      (λ is548. bound_weaker _ (0) room (0) _ _ _ _ _ (omega arith) (omega arith)
      (b_name_held name room (at_name wanted name s) s ts (known (λ e9. absurd cc))))
      (λ is548. bound_weaker _ (0) room (0) _ _ _ _ _ (omega arith) (omega arith) (b_absent room mode s ts))

  pub b_base_named : (room : ℕ) (s : HeldScopes) (ts : List Lexeme) → is_end (kind_at ts) ≡ false
      → BoundAt declared_height (0) room (0) ts (base_named room s ts)
  b_base_named room s ts known =
      bound_fits _ _ _ _ _ _ _ _ (known) (λ less. omega arith) (λ less.
      bound_bind token_levels _ (0) _ _ _ _ _ _ (bound_take _ _ _ _)
      (λ token b1 e1 l1. bound_ends _ _ _ _ _ _ _ (omega arith)))

  pub b_core_with : (mode : Mode) (wanted : Option Kind) (flag : Bool) (room : ℕ) (s : HeldScopes) (ts : List Lexeme)
      → BoundAt
      declared_height (0) room (10) ts (core_with inner mode wanted flag room s ts)
  unfolding core_with
  b_core_with mode wanted flag room s ts =
      bound_if _ _ _ _ _ (is_open_paren (kind_at ts)) (some_paren inner mode wanted flag room s ts)
      (if names_base s mode wanted (kind_at ts) then base_named room s ts
      else name_or_none inner mode wanted (spelled_name (kind_at ts)) room s ts)
      (λ is549. bound_weaker _ (0) room (10) _ _ _ _ _ (omega arith) (omega arith)
      (b_some_paren mode wanted flag room s ts (known_by (λ kind9. is_open_paren kind9) refl (kind_at ts) is549)))
      (λ is549. bound_if _ _ _ _ _ (names_base s mode wanted (kind_at ts)) (base_named room s ts)
      (name_or_none inner mode wanted (spelled_name (kind_at ts)) room s ts)
      (λ is550. bound_weaker _ (0) room (0) _ _ _ _ _ (omega arith) (omega arith) (b_base_named room s ts
      (known_by (λ kind9. names_base s mode wanted kind9) (base_end s mode wanted) (kind_at ts) is550))) (λ is550.
      bound_weaker _ (0) room (10) _ _ _ _ _ (omega arith) (omega arith) (b_name_or_none mode wanted
      (spelled_name (kind_at ts)) room s ts (known_of spelled_name None refl (kind_at ts)))))

  pub b_direct_with : (mode : Mode) (wanted : Option Kind) (flag : Bool) (room : ℕ) (s : HeldScopes) (ts : List Lexeme)
      → BoundAt
      declared_height 0 room 10 ts (direct_with inner mode wanted flag room s ts)
  unfolding direct_with
  b_direct_with mode wanted flag room s ts =
      bound_bind declared_height declared_height 0 0 room 10 ts (core_with inner mode wanted flag room s ts)
      (λ core. run (suffix_turn inner flag room) core.tree core.scopes core.rest)
      (b_core_with mode wanted flag room s ts) (λ core b1 e1 l1. bound_weaker declared_height (8 * length b1 + 0) room
      (8 * length b1 + 0 + 10) (8 * length b1 + 0) room (8 * length b1 + 10) core.rest
      (run (suffix_turn inner flag room) core.tree core.scopes core.rest) (omega arith) (omega arith) (bound_run
      (suffix_turn inner flag room) (suffix_shrinks all tokens n inner laws flag room) declared_height room 10 0
      (suffix_step flag room) core.tree core.scopes core.rest (8 * length b1 + 0) (omega arith) l1))

  pub b_pointer_with : (mode : Mode) (wanted : Option Kind) (flag : Bool) (room : ℕ) (s : HeldScopes) (ts : List Lexeme)
      → is_end
      (kind_at ts) ≡ false → BoundAt declared_height (0) room (10) ts (pointer_with inner mode wanted flag room s ts)
  unfolding pointer_with
  b_pointer_with mode wanted flag room s ts known =
      bound_fits _ _ _ _ _ _ _ _ (known) (λ less550. let f551 = low_least_pointer mode in omega arith)
      (λ less550. bound_bind token_levels _ (0) _ _ _ _ _ _ (bound_take _ _ _ _) (λ token b552 e553 l554.
      bound_bind pointer_words_height _ (1) _ _ _ _ _ _
      (bound_weaker _ (1) room (1) _ _ _ _ _ (omega arith) (omega arith) (b_pointer_words_at room _ _))
      (λ words b555 e556 l557. bound_bind declared_height _ (0) _ _ _ _ _ _ (bound_weaker _ (0) (room - 1)
      (10) _ _ _ _ _ (omega arith) (omega arith) (good.declr mode wanted flag (room - 1) _ _)) (λ d b558 e559 l560.
      bound_ends _ _ _ _ _ _ _ (let f561 = low_pointer token.tree words.tree d.tree.declr in omega arith)))))

  pub b_declr_with : (mode : Mode) (wanted : Option Kind) (flag : Bool) (room : ℕ) (s : HeldScopes) (ts : List Lexeme)
      → BoundAt
      declared_height (0) room (10) ts (declr_with inner mode wanted flag room s ts)
  unfolding declr_with
  b_declr_with mode wanted flag room s ts =
      bound_if _ _ _ _ _ (is_star (kind_at ts)) (pointer_with inner mode wanted flag room s ts)
      (direct_with inner mode wanted flag room s ts)
      (λ is562. bound_weaker _ (0) room (10) _ _ _ _ _ (omega arith) (omega arith)
      (b_pointer_with mode wanted flag room _ _ (known_by (λ kind9. is_star kind9) refl (kind_at ts) is562))) (λ is562.
      bound_weaker _ (0) room (10) _ _ _ _ _ (omega arith) (omega arith) (b_direct_with mode wanted flag room _ _))

  pub b_type_name_with : (room : ℕ) (s : HeldScopes) (ts : List Lexeme)
      → BoundAt type_name_height (2) room (12) ts (type_name_with
      inner room s ts)
  unfolding type_name_with
  b_type_name_with room s ts =
      bound_bind specs_height _ (specs_height no_words) _ _ _ _ _ _ (bound_weaker _ (specs_height no_words) (room - 1)
      (specs_height no_words + 10) _ _ _ _ _ (omega arith) (omega arith) (good.specs Naming no_words (room - 1) _ _))
      (λ words b563 e564 l565. bound_bind declared_height _ (0) _ _ _ _ _ _ (bound_weaker _ (0) (room - 1)
      (10) _ _ _ _ _ (omega arith) (omega arith) (good.declr Abstract None false (room - 1) _ _))
      (λ d b566 e567 l568. bound_ends _ _ _ _ _ _ _ (omega arith)))
