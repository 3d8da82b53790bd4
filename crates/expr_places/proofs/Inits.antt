-- Initialisers, and lists of them in braces.
use Rattle.std.proofs.Common.{◌≡◌, ℕ, suc, ◌<◌, ◌≤◌, Bool, true, false, if◌then◌else◌, List, [], ◌∷◌, length, inl, inr, Option, Some, None, refl, sym, ◌∙◌, ap, arith}
use Rattle.std.specs.Prelude.{◌-◌, ◌&&◌, nat_le}
use Rattle.std.proofs.lemmas.Bool.{leb-true, leb-false, and_right}
use Rattle.qual_base.proofs.Tests.{and_second}
use Rattle.c_words.specs.declared.kinds.TokenKind.{TokenKind}
use Rattle.c_words.specs.declared.kinds.TokenKind.TheVariants as kinds
use Rattle.c_words.specs.declared.kinds.Punct.TheVariants as puncts
use Rattle.c_tree.specs.declared.lexeme.Lexeme.{Lexeme}
use Rattle.c_tree.specs.Tree.{Expr, Init, init_value, init_braced, InitList, init_list, Desigs, no_desigs, more_desigs, Desig, member_desig, index_desig, range_desig, old_desig}
use Rattle.c_syntax.specs.declared.parts.Identifier.{Identifier}
use Rattle.c_units.specs.HeldScopes.{HeldScopes, is_wide, names_type}
use Rattle.c_reading.specs.declared.kinds.FaultKind.{FaultKind}
use Rattle.c_reading.specs.declared.kinds.FaultKind.TheVariants.{Unexpected, TooDeep}
use Rattle.c_reading.specs.declared.kinds.Reach.TheVariants.{Assigned, Conditional}
use Rattle.c_reading.specs.Reading.{Reader, one_more, list_end, ends, refuses, fits, kind_at, behind_first, take_one, token_at, and_then, repeated, repeated_turn, listed, Found}
use Rattle.c_reading.specs.Tokens.{is_open_brace, is_close_brace, is_close_bracket, is_colon, is_dots, is_equal, is_end, spelled_name, identifier_of, name_at}
use Rattle.c_reading.specs.Parts.{Inner, nothing, ListItem, desigs_from, init_items_from}
use Rattle.c_reading.specs.Expressing.{begins_desig, is_dot}
use Rattle.c_reading.specs.Initialising.{begins_init, equal_behind, init_with, member_desig_with, range_behind, index_behind, index_desig_with, desig_with, init_here, old_item, plain_item, named_init_item, init_item_by, init_item_with, next_init_item, init_items_with, braced_with, init_list_with}
use Rattle.c_reading.proofs.Binding.{found, done, fits_is, fits_ok, if_ok, bind_ok}
use Rattle.c_reading.proofs.Forms.{Falls, Shrinks, shrinks_falls, name_falls}
use Rattle.c_reading.proofs.Loops.{run_is}
use Rattle.c_reading.proofs.Rows.{repeated_falls, row_turn_shrinks}
use Rattle.c_reading.proofs.Commas.{listed_shrinks}
use Rattle.c_reading.proofs.Shared.{init_shrinks}
use Rattle.c_reading.proofs.InitShown.{desig_shrinks, next_item_falls}
use Rattle.c_reading.proofs.Aims.{Laws}
use Rattle.c_reading.proofs.KnotLaws.{none_numbered, none_tokens}
use Rattle.reading_steps.specs.Steps.{first_kind, any, Good, Ready, Law}
use Rattle.reading_steps.specs.Stops.{is_number, stops_operand}
use Rattle.reading_steps.specs.InnerLaws.{InnerLaws, InitListPlaces}
use Rattle.reading_steps.proofs.Keeping.{kept_refl}
use Rattle.reading_steps.proofs.Steps.{behind, kind_same, refused_here, ends_good, ends_law, if_good, fits_good, ready_fits, ready_as, bind_good, bind_law, take_behind, good_as, good_before, ready_before, law_before, tail_good}
use Rattle.reading_steps.proofs.Lists.{repeated_law, listed_good}
use Rattle.reading_steps.proofs.Chains.{ends_falls, behind_falls, behind_shrinks, falls_shrinks, closed_falls, take_shrinks, token_shrinks, fits_not, good_choice, if_good_takes, token_then, closed_law}
use Rattle.token_places.proofs.Single.{open_brace_end, close_brace_end, close_bracket_end, colon_end, dots_end, name_end, equal_end, mapped_law, mapped_good, mapped_ready, name_law}
use Rattle.expr_places.proofs.Facts.{whole_operand, close_bracket_whole, close_brace_whole, close_brace_no_comma, close_bracket_no_dots, close_brace_no_colon, number_no_brace, number_begins_init, desig_no_end, dot_no_end}

-- what may stand behind designators or none of them
abbrev behind_desigs : TokenKind → Bool
behind_desigs kind = if is_equal kind then true else is_number kind

-- `=` and a number, which may stand behind designators, begin none
behind_no_desig : (kind : TokenKind) → behind_desigs kind ≡ true → begins_desig kind ≡ false
behind_no_desig (kinds.Punct puncts.Equal) h = refl
behind_no_desig kinds.Number h = refl
behind_no_desig kind h = absurd cc

number_behind : (kind : TokenKind) → is_number kind ≡ true → behind_desigs kind ≡ true
number_behind kinds.Number h = refl
number_behind kind h = absurd cc

close_brace_operand : (kind : TokenKind) → is_close_brace kind ≡ true → stops_operand kind ≡ true
close_brace_operand kind h = whole_operand kind (close_brace_whole kind h)

name_is : (kind : TokenKind) (name : ℕ) → spelled_name kind ≡ Some name → kind ≡ kinds.Name name
name_is (kinds.Name other) name h = cc
name_is kind name h = absurd cc

module _ (n : ℕ) (inner : Inner) (laws : Laws [] n inner) (places : InnerLaws n inner) where
  pub init_good : (room : ℕ) → room < n → (s : HeldScopes) (ts : List Lexeme)
      → Good true (init_with inner room) stops_operand s ts
  unfolding init_with
  init_good room less s ts =
      if_good_takes true (λ s. is_open_brace) (behind (inner.init_list room) (λ list. ends (init_braced list)))
      (behind (inner.expr Assigned nothing room) (λ e. ends (init_value e))) stops_operand s ts
      (λ is. mapped_good true (inner.init_list room) init_braced stops_operand s ts (good_before true
      (inner.init_list room) any stops_operand s ts (λ kind h. refl) (places.lists.good room less s ts)))
      (λ is. mapped_good true (inner.expr Assigned nothing room) init_value stops_operand s ts
      (places.exprs.good Assigned nothing room less s ts)) (init_shrinks [] n inner laws room)

  pub init_ready : (room : ℕ) → room < n → 1 ≤ room → (s : HeldScopes) (at : ℕ)
      → Ready true (init_with inner room) is_number stops_operand s at
  unfolding init_with
  init_ready room less one s at =
      ready_as true (behind (inner.expr Assigned nothing room) (λ e. ends (init_value e)))
      (init_with inner room) is_number stops_operand s at (λ k h. rw (number_no_brace (kind_at k) h) refl)
      (mapped_ready true (inner.expr Assigned nothing room) init_value is_number stops_operand s at
      (places.exprs.ready Assigned nothing room less one s at))

  -- Designators.

  member_good : (room : ℕ) (stops : TokenKind → Bool) (s : HeldScopes) (ts : List Lexeme) → is_end (kind_at ts) ≡ false
      → Good true (member_desig_with inner room) stops s ts
  unfolding member_desig_with
  member_good room stops s ts known =
      fits_good true 2 room
      (behind take_one (λ token. behind name_at (λ name. ends (member_desig token name)))) stops s ts
      (λ fit. take_behind true (λ token. behind name_at (λ name. ends (member_desig token name))) stops (λ token.
      mapped_law true name_at (member_desig token) any stops (name_law true any stops (λ name. refl))) s ts known)

  index_good : (room : ℕ) → room < suc n → (stops : TokenKind → Bool) (s : HeldScopes) (ts : List Lexeme)
      → is_end (kind_at ts) ≡ false → Good true (index_desig_with inner room) stops s ts
  unfolding index_desig_with index_behind range_behind and_then
  index_good room less stops s ts known =
      fits_good true 3 room (behind take_one indexed) stops s ts
      (λ fit. take_behind true indexed stops (indexed_law fit) s ts known)
    where
      indexed : ℕ → Reader Desig
      indexed opening = behind (inner.expr Conditional nothing (room - 2)) (λ e. index_behind inner opening e room)

      value_law : 3 ≤ room → Law true (inner.expr Conditional nothing (room - 2)) any is_close_bracket
      value_law fit = record {
        good = λ s ts. good_before true (inner.expr Conditional nothing (room - 2)) stops_operand is_close_bracket s ts
            (λ kind h. whole_operand kind (close_bracket_whole kind h))
            (places.exprs.good Conditional nothing (room - 2) (omega arith) s ts);
        ready = λ s at.
            ready_before true (inner.expr Conditional nothing (room - 2)) is_number any stops_operand is_close_bracket s
            at (λ kind h. whole_operand kind (close_bracket_whole kind h)) (λ kind h. refl)
            (places.exprs.ready Conditional nothing (room - 2) (omega arith)
            (let more : 0 < room - 2 = omega arith in more) s at);
      }

      one_rest : ℕ → Expr → Reader Desig
      one_rest opening e = behind (token_at is_close_bracket) (λ closing. ends (index_desig opening e closing))

      one_law : (opening : ℕ) (e : Expr) → Law true (one_rest opening e) is_close_bracket stops
      one_law opening e =
          token_then true is_close_bracket (kinds.Punct puncts.CloseBracket) is_close_bracket stops
          (λ closing. ends (index_desig opening e closing)) refl refl close_bracket_end
          (λ closing. ends_law true (index_desig opening e closing) any stops (λ kind h. refl))

      one_shrinks : (opening : ℕ) (e : Expr) → Shrinks (one_rest opening e)
      one_shrinks opening e =
          behind_shrinks (token_at is_close_bracket) (λ closing. ends (index_desig opening e closing))
          (token_shrinks is_close_bracket) (λ closing. ends_falls (index_desig opening e closing))

      -- behind the first value of a range and its dots
      range_rest : ℕ → Expr → ℕ → Reader Desig
      range_rest opening first dots =
          behind (inner.expr Conditional nothing (room - 2))
          (λ e. behind (token_at is_close_bracket) (λ closing. ends (range_desig opening first dots e closing)))

      range_law : 3 ≤ room → (opening : ℕ) (first : Expr) (dots : ℕ)
          → Law true (range_rest opening first dots) any stops
      range_law fit opening first dots =
          closed_law true (inner.expr Conditional nothing (room - 2)) is_close_bracket
          (kinds.Punct puncts.CloseBracket) any stops (λ e closing. ends (range_desig opening first dots e closing))
          (value_law fit) refl close_bracket_end
          (λ e closing. ends_law true (range_desig opening first dots e closing) any stops (λ kind h. refl))
          (λ e closing. ends_falls (range_desig opening first dots e closing))

      range_shrinks : (opening : ℕ) (first : Expr) → Shrinks (behind take_one (range_rest opening first))
      range_shrinks opening first =
          behind_shrinks take_one (range_rest opening first) take_shrinks
          (λ dots. closed_falls (inner.expr Conditional nothing (room - 2)) is_close_bracket
          (λ e closing. ends (range_desig opening first dots e closing))
          (shrinks_falls (inner.expr Conditional nothing (room - 2))
          (laws.exprs.shrinks Conditional nothing (room - 2)))
          (λ e closing. ends_falls (range_desig opening first dots e closing)))

      is_range : HeldScopes → TokenKind → Bool
      is_range s kind = is_wide s && is_dots kind

      rest_shrinks : (opening : ℕ) (e : Expr) → Shrinks (index_behind inner opening e room)
      rest_shrinks opening e s ts x eq =
          if_ok (is_range s (kind_at ts)) eq (λ is eq. range_shrinks opening e s ts x eq)
          (λ is eq. one_shrinks opening e s ts x eq)

      -- a bracket, or in wider C dots, another value and a bracket
      rest_law : 3 ≤ room → (opening : ℕ) (e : Expr)
          → Law true (index_behind inner opening e room) is_close_bracket stops
      rest_law fit opening e = record {
        good = λ s ts.
            if_good_takes true is_range (behind take_one (range_rest opening e)) (one_rest opening e) stops s ts
            (λ is. take_behind true (range_rest opening e) stops (range_law fit opening e) s ts
            (dots_end (kind_at ts) (and_second (is_wide s) (is_dots (kind_at ts)) is)))
            (λ is. (one_law opening e).good s ts) (rest_shrinks opening e);
        ready = λ s at.
            ready_as true (one_rest opening e) (index_behind inner opening e room) is_close_bracket stops s at
            (λ k h. rw (and_right (is_wide s) (is_dots (kind_at k)) (close_bracket_no_dots (kind_at k) h)) refl)
            ((one_law opening e).ready s at);
      }

      indexed_law : 3 ≤ room → (opening : ℕ) → Law true (indexed opening) any stops
      indexed_law fit opening =
          bind_law true (inner.expr Conditional nothing (room - 2))
          (λ e. index_behind inner opening e room) any is_close_bracket stops (value_law fit) (rest_law fit opening)
          (inl (λ e s ts y eq. rest_shrinks opening e s ts y eq))

  desig_good : (room : ℕ) → room < suc n → (stops : TokenKind → Bool) (s : HeldScopes) (ts : List Lexeme)
      → begins_desig (kind_at ts) ≡ true → Good true (desig_with inner room) stops s ts
  unfolding desig_with
  desig_good room less stops s ts begun =
      if_good_takes true (λ s. is_dot) (member_desig_with inner room) (index_desig_with inner room) stops s ts
      (λ is. member_good room stops s ts (dot_no_end (kind_at ts) is))
      (λ is. index_good room less stops s ts (desig_no_end (kind_at ts) begun))
      (desig_shrinks [] none_numbered none_tokens n inner laws room)

  equal_law : (ds : Desigs) → Law true (equal_behind ds) behind_desigs is_number
  equal_law no_desigs = ends_law true None behind_desigs is_number number_behind
  equal_law (more_desigs d ds) =
      token_then true is_equal (kinds.Punct puncts.Equal) behind_desigs is_number (λ equal. ends (Some equal)) refl refl
      equal_end (λ equal. ends_law true (Some equal) any is_number (λ kind h. refl))

  equal_falls : (ds : Desigs) → Falls (equal_behind ds)
  equal_falls no_desigs s ts x e = ends_falls None s ts x e
  equal_falls (more_desigs d ds) s ts x e =
      behind_falls (token_at is_equal) (λ equal. ends (Some equal))
      (shrinks_falls (token_at is_equal) (token_shrinks is_equal)) (λ equal. ends_falls (Some equal)) s ts x e

  -- The initialiser of an item.

  here_shrinks : (room : ℕ) → Shrinks (init_here inner room)
  unfolding init_here
  here_shrinks room s ts x e =
      if_ok (begins_init s (kind_at ts)) e
      (λ is e. init_shrinks [] n inner laws (room - 1) s ts x (fits_ok 2 room ts e).1) (λ is e. absurd cc)

  here_law : (room : ℕ) → room < suc n → 2 ≤ room → Law true (init_here inner room) is_number stops_operand
  unfolding init_here
  here_law room less two = record {
    good = λ s ts.
        if_good true begins_init (λ s ts. fits 2 room ts (init_with inner (room - 1) s ts))
        (λ s ts. refuses Unexpected ts) stops_operand s ts
        (λ is. fits_good true 2 room (init_with inner (room - 1)) stops_operand s ts
        (λ fit. init_good (room - 1) (omega arith) s ts))
        (λ is. refused_here true (λ s ts. refuses Unexpected ts) stops_operand s ts Unexpected (λ k e. refl))
        (λ is. inl (λ x e. init_shrinks [] n inner laws (room - 1) s ts x (fits_ok 2 room ts e).1))
        (λ is. inl (λ x e. absurd cc));
    ready = λ s at.
        ready_as true (λ s ts. fits 2 room ts (init_with inner (room - 1) s ts))
        (init_here inner room) is_number stops_operand s at (λ k h. rw (number_begins_init s (kind_at k) h) refl)
        (ready_fits true 2 room (init_with inner (room - 1)) is_number stops_operand s at two
        (init_ready (room - 1) (omega arith) (omega arith) s at));
  }

  -- An item: designators or none, and an initialiser.

  item_of : List Desig → Option ℕ → Init → ListItem
  item_of desigs equal init = record { desigs = desigs_from desigs; equal = equal; init = init }

  value_part : ℕ → List Desig → Option ℕ → Reader ListItem
  value_part room desigs equal = behind (init_here inner room) (λ init. ends (item_of desigs equal init))

  rest_part : ℕ → List Desig → Reader ListItem
  rest_part room desigs = behind (equal_behind (desigs_from desigs)) (value_part room desigs)

  value_shrinks : (room : ℕ) (desigs : List Desig) (equal : Option ℕ) → Shrinks (value_part room desigs equal)
  unfolding value_part
  value_shrinks room desigs equal =
      behind_shrinks (init_here inner room) (λ init. ends (item_of desigs equal init)) (here_shrinks room)
      (λ init. ends_falls (item_of desigs equal init))

  rest_shrinks : (room : ℕ) (desigs : List Desig) → Shrinks (rest_part room desigs)
  unfolding rest_part
  rest_shrinks room desigs =
      falls_shrinks (equal_behind (desigs_from desigs)) (value_part room desigs) (equal_falls (desigs_from desigs))
      (value_shrinks room desigs)

  plain_shrinks : (room : ℕ) → Shrinks (plain_item inner room)
  unfolding plain_item rest_part value_part item_of
  plain_shrinks room =
      falls_shrinks (repeated begins_desig (desig_with inner room)) (rest_part room) (repeated_falls begins_desig
      (desig_with inner room) (desig_shrinks [] none_numbered none_tokens n inner laws room)) (rest_shrinks room)

  rest_law : (room : ℕ) → room < suc n → 2 ≤ room → (desigs : List Desig)
      → Law true (rest_part room desigs) behind_desigs stops_operand
  unfolding rest_part value_part
  rest_law room less two desigs =
      bind_law true (equal_behind (desigs_from desigs)) (value_part room desigs) behind_desigs is_number stops_operand
      (equal_law (desigs_from desigs))
      (λ equal. mapped_law true (init_here inner room) (item_of desigs equal) is_number stops_operand
      (here_law room less two)) (inl (λ equal s ts y e. value_shrinks room desigs equal s ts y e))

  plain_high : (room : ℕ) → room < suc n → 2 ≤ room → (s : HeldScopes) (ts : List Lexeme)
      → Good true (plain_item inner room) stops_operand s ts
  unfolding plain_item rest_part value_part item_of
  plain_high room less two s ts =
      bind_good true (repeated begins_desig (desig_with inner room)) (rest_part room) behind_desigs stops_operand s ts
      (λ desigs scopes gives at. (rest_law room less two desigs).ready scopes at)
      ((repeated_law true begins_desig (desig_with inner room) (desig_shrinks
      [] none_numbered none_tokens n inner laws room) behind_desigs behind_desigs (λ kind h. h) behind_no_desig
      (λ s ts is. desig_good room less behind_desigs s ts is)).good s ts)
      (λ x is. (rest_law room less two x.tree).good x.scopes x.rest)
      (inl (λ x y is e. rest_shrinks room x.tree x.scopes x.rest y e))

  -- with room for no initialiser the first token is refused
  abbrev low_fault : HeldScopes → TokenKind → FaultKind
  low_fault s kind = if begins_desig kind then TooDeep else if begins_init s kind then TooDeep else Unexpected

  low_is : (room : ℕ) → room < 2 → (s : HeldScopes) (k : List Lexeme)
      → plain_item inner room s k ≡ refuses (low_fault s (kind_at k)) k
  unfolding plain_item repeated desig_with member_desig_with index_desig_with init_here and_then
  low_is room low s k = by_desig (begins_desig (kind_at k)) refl
    where
      by_dot : (b : Bool) → is_dot (kind_at k) ≡ b → desig_with inner room s k ≡ refuses TooDeep k
      by_dot true is = rw is (fits_not 2 room k _ low)
      by_dot false is = rw is (fits_not 3 room k _ (omega (arith, low)))

      by_init : (b : Bool) → begins_init s (kind_at k) ≡ b
          → init_here inner room s k ≡ refuses (if b then TooDeep else Unexpected) k
      by_init true is = rw is (fits_not 2 room k _ low)
      by_init false is = rw is refl

      by_desig : (b : Bool) → begins_desig (kind_at k) ≡ b
          → plain_item inner room s k ≡ refuses (low_fault s (kind_at k)) k
      by_desig true is = rw (
        run_is (repeated_turn begins_desig (desig_with inner room)) (row_turn_shrinks begins_desig
            (desig_with inner room) (desig_shrinks [] none_numbered none_tokens n inner laws room)) [] s k,
        is,
        by_dot (is_dot (kind_at k)) refl,
      ) refl
      by_desig false is = rw (
        run_is (repeated_turn begins_desig (desig_with inner room)) (row_turn_shrinks begins_desig
            (desig_with inner room) (desig_shrinks [] none_numbered none_tokens n inner laws room)) [] s k,
        is,
        by_init (begins_init s (kind_at k)) refl,
      ) refl

  plain_good : (room : ℕ) → room < suc n → (s : HeldScopes) (ts : List Lexeme)
      → Good true (plain_item inner room) stops_operand s ts
  plain_good room less s ts = by_room (nat_le 2 room) refl
    where
      by_room : (b : Bool) → nat_le 2 room ≡ b → Good true (plain_item inner room) stops_operand s ts
      by_room true is = plain_high room less (leb-true 2 room is) s ts
      by_room false is =
          refused_here true (plain_item inner room) stops_operand s ts (low_fault s (kind_at ts))
          (λ k e. low_is room (leb-false 2 room is) s k
          ∙ ap (λ (kind : TokenKind). refuses (low_fault s kind) k) (kind_same k ts e))

  -- An item that begins with a name: in wider C an old designator where a colon stands behind it.
  old_of : Identifier → ℕ → Init → ListItem
  old_of name colon init = record { desigs = more_desigs (old_desig name colon) no_desigs; equal = None; init = init }

  old_rest : ℕ → Identifier → Reader ListItem
  old_rest room name =
      behind (token_at is_colon) (λ colon. behind (init_here inner room) (λ init. ends (old_of name colon init)))

  old_rest_shrinks : (room : ℕ) (name : Identifier) → Shrinks (old_rest room name)
  unfolding old_rest
  old_rest_shrinks room name =
      behind_shrinks (token_at is_colon)
      (λ colon. behind (init_here inner room) (λ init. ends (old_of name colon init))) (token_shrinks is_colon)
      (λ colon. behind_falls (init_here inner room) (λ init. ends (old_of name colon init))
      (shrinks_falls (init_here inner room) (here_shrinks room)) (λ init. ends_falls (old_of name colon init)))

  old_law : (room : ℕ) → room < suc n → 2 ≤ room → (name : Identifier)
      → Law true (old_rest room name) is_colon stops_operand
  unfolding old_rest
  old_law room less two name =
      token_then true is_colon (kinds.Punct puncts.Colon) is_colon stops_operand
      (λ colon. behind (init_here inner room) (λ init. ends (old_of name colon init))) refl refl colon_end
      (λ colon. mapped_law true (init_here inner room) (old_of name colon) any stops_operand
      (law_before true (init_here inner room) is_number any stops_operand stops_operand (λ kind h. h) (λ kind h. refl)
      (here_law room less two)))

  old_shrinks : (room : ℕ) → Shrinks (old_item inner room)
  unfolding old_item old_rest old_of
  old_shrinks room s ts x e =
      let a = bind_ok e in
      let one = name_falls s ts a.0 a.1 in
      let rest = old_rest_shrinks room a.0.tree a.0.scopes a.0.rest x a.2 in
      omega (arith, one, rest)

  -- by the token behind the name
  abbrev chosen : ℕ → ℕ → Reader ListItem
  chosen name room s ts =
      if is_colon (kind_at (behind_first ts)) then old_item inner room s ts else if names_type s name
      then refuses Unexpected (behind_first ts) else plain_item inner room s ts

  chosen_shrinks : (name room : ℕ) → Shrinks (chosen name room)
  chosen_shrinks name room s ts x e =
      if_ok (is_colon (kind_at (behind_first ts))) e (λ is e. old_shrinks room s ts x e) (λ is e.
      if_ok (names_type s name) e (λ typed e. absurd cc) (λ typed e. plain_shrinks room s ts x e))

  item_shrinks : (room : ℕ) → Shrinks (init_item_with inner room)
  unfolding init_item_with named_init_item
  item_shrinks room s ts x e = by_name (spelled_name (kind_at ts)) e
    where
      by_name : (o : Option ℕ) → init_item_by inner o room s ts ≡ done x → length x.rest < length ts
      by_name None e = plain_shrinks room s ts x e
      by_name (Some name) e =
          if_ok (is_wide s) e (λ wide e. chosen_shrinks name room s ts x (fits_ok 2 room ts e).1)
          (λ wide e. plain_shrinks room s ts x e)

  module _ (name room : ℕ) (less : room < suc n) (two : 2 ≤ room) where
    named : ℕ → Lexeme
    named at = record { kind = kinds.Name name; at = at }

    choice : ℕ → Reader ListItem
    choice at s k = chosen name room s (named at ∷ k)

    old_is : (at : ℕ) (s : HeldScopes) (k : List Lexeme)
        → old_item inner room s (named at ∷ k) ≡ old_rest room (identifier_of at name) s k
    unfolding old_item old_rest old_of named and_then
    old_is at s k = refl

    -- a name that is no type's is a value
    plain_is : (at : ℕ) (s : HeldScopes) → names_type s name ≡ false
        → (y : Found ListItem)
        × (plain_item inner room s (named at ∷ record { kind = kinds.Punct puncts.Semicolon; at = 0 } ∷ []) ≡ done y)
    unfolding plain_item named repeated init_here init_with and_then item_of
    plain_is at s no_type =
        let v = places.exprs.named Assigned (room - 1) (omega arith) (omega arith) s name at no_type in
        let rest : List Lexeme = record { kind = kinds.Punct puncts.Semicolon; at = 0 } ∷ [] in (
          found (item_of [] None (init_value v.0)) s rest,
          rw (
            run_is (repeated_turn begins_desig (desig_with inner room)) (row_turn_shrinks begins_desig
                (desig_with inner room) (desig_shrinks [] none_numbered none_tokens n inner laws room)) [] s
                (named at ∷ rest),
            no_type,
            v.1 rest refl,
            fits_is 2 room (named at ∷ rest) (done (found (init_value v.0) s rest)) two,
          ) refl,
        )

    choice_law : (at : ℕ) → Law true (choice at) any is_close_brace
    unfolding choice
    choice_law at = record {
      good = λ s k.
          if_good true (λ s. is_colon) (λ s k. old_item inner room s (named at ∷ k)) other is_close_brace s k
          (λ is. good_as true (old_rest room (identifier_of at name)) (λ s k. old_item inner room s (named at ∷ k))
          is_close_brace s k (λ k e. old_is at s k) (inr (λ k e. old_is at s k))
          (good_before true (old_rest room (identifier_of at name)) stops_operand is_close_brace s k close_brace_operand
          ((old_law room less two (identifier_of at name)).good s k)))
          (λ is. by_type s k (names_type s name) refl)
          (λ is. inl (λ x e. old_rest_shrinks room (identifier_of at name) s k x (sym (old_is at s k) ∙ e)))
          (λ is. inr close_brace_no_colon);
      ready = λ s here.
          ready_before true (choice at) is_colon any stops_operand is_close_brace s here close_brace_operand
          (λ kind h. refl)
          (ready_as true (old_rest room (identifier_of at name)) (choice at) is_colon stops_operand s here
          (λ k h. rw h (old_is at s k)) ((old_law room less two (identifier_of at name)).ready s here));
    }
      where
        other : Reader ListItem
        other s k = if names_type s name then refuses Unexpected k else plain_item inner room s (named at ∷ k)

        by_type : (s : HeldScopes) (k : List Lexeme) (b : Bool) → names_type s name ≡ b
            → Good true other is_close_brace s k
        by_type s k true is = refused_here true other is_close_brace s k Unexpected (λ k e. rw is refl)
        by_type s k false is =
            let y = plain_is at s is in
            good_as true (λ s k. plain_item inner room s (named at ∷ k)) other is_close_brace s k (λ k e. rw is refl)
            (inr (λ k e. rw is refl))
            (tail_good true (plain_item inner room) is_close_brace s (named at) k
            (record { kind = kinds.Punct puncts.Semicolon; at = 0 } ∷ []) y.0 y.1
            (λ x e. plain_shrinks room s (named at ∷ k) x e)
            (good_before true (plain_item inner room) stops_operand is_close_brace s (named at ∷ k) close_brace_operand
            (plain_good room less s (named at ∷ k))))

  item_good : (room : ℕ) → room < suc n → (s : HeldScopes) (ts : List Lexeme)
      → Good true (init_item_with inner room) is_close_brace s ts
  unfolding init_item_with named_init_item choice named and_then
  item_good room less s ts = by_name (spelled_name (kind_at ts)) refl
    where
      plain : ((k : List Lexeme) → first_kind k ≡ first_kind ts
          → init_item_with inner room s k ≡ plain_item inner room s k)
          → Good true (init_item_with inner room) is_close_brace s ts
      plain same =
          good_choice true (plain_item inner room) (init_item_with inner room) is_close_brace s ts same
          (item_shrinks room)
          (good_before true (plain_item inner room) stops_operand is_close_brace s ts close_brace_operand
          (plain_good room less s ts))

      by_wide : (name : ℕ) → spelled_name (kind_at ts) ≡ Some name → (b : Bool) → is_wide s ≡ b
          → Good true (init_item_with inner room) is_close_brace s ts
      by_wide name is false off =
          plain (λ k e. ap (λ (o : Option ℕ). init_item_by inner o room s k) (ap spelled_name (kind_same k ts e) ∙ is)
          ∙ rw off refl)
      by_wide name is true on =
          good_choice true (λ s ts. fits 2 room ts (chosen name room s ts))
          (init_item_with inner room) is_close_brace s ts
          (λ k e. ap (λ (o : Option ℕ). init_item_by inner o room s k) (ap spelled_name (kind_same k ts e) ∙ is)
          ∙ rw on refl) (item_shrinks room)
          (fits_good true 2 room (chosen name room) is_close_brace s ts (λ fit.
          good_choice true (behind take_one (choice name room less fit)) (chosen name room) is_close_brace s ts
          (same fit) (chosen_shrinks name room)
          (take_behind true (choice name room less fit) is_close_brace (choice_law name room less fit) s ts
          (name_end (kind_at ts) name is))))
        where
          same : (fit : 2 ≤ room) → (k : List Lexeme) → first_kind k ≡ first_kind ts
              → chosen name room s k ≡ behind take_one (choice name room less fit) s k
          same fit [] e = let none : None ≡ Some name = ap spelled_name (kind_same [] ts e) ∙ is in absurd cc
          same fit (u ∷ us) e =
              let kind : u.kind ≡ kinds.Name name =
              name_is u.kind name (ap spelled_name (kind_same (u ∷ us) ts e) ∙ is) in
              ap (λ (kind : TokenKind). chosen name room s (record { kind = kind; at = u.at } ∷ us)) kind

      by_name : (o : Option ℕ) → spelled_name (kind_at ts) ≡ o
          → Good true (init_item_with inner room) is_close_brace s ts
      by_name None is =
          plain (λ k e. ap (λ (o : Option ℕ). init_item_by inner o room s k) (ap spelled_name (kind_same k ts e) ∙ is))
      by_name (Some name) is = by_wide name is (is_wide s) refl

  -- Lists in braces.

  next_law : (room : ℕ) → room < suc n → (token : ℕ) → Law true (next_init_item inner room token) any is_close_brace
  unfolding next_init_item
  next_law room less token = record {
    good = λ s ts.
        if_good true (λ s. is_close_brace) (ends (list_end token))
        (behind (init_item_with inner room) (λ x. ends (one_more x))) is_close_brace s ts
        (λ is. ends_good true (list_end token) is_close_brace s ts)
        (λ is. mapped_good true (init_item_with inner room) one_more is_close_brace s ts (item_good room less s ts))
        (λ is. inr (λ kind h. h)) (λ is. inl (λ x e. behind_shrinks (init_item_with inner room) (λ x. ends (one_more x))
        (item_shrinks room) (λ x. ends_falls (one_more x)) s ts x e));
    ready = λ s at. record {
      more = [];
      tree = list_end token;
      scopes = s;
      keeps = kept_refl true s;
      begins = λ k h. refl;
      reads = λ k h. rw h refl;
    };
  }

  items_law : (room : ℕ) → room < suc n → Law true (init_items_with inner room) any is_close_brace
  unfolding init_items_with
  items_law room less = record {
    good = λ s ts.
        if_good true (λ s. is_close_brace) (ends (record { items = []; ending = None }))
        (listed (init_item_with inner room) (next_init_item inner room)) is_close_brace s ts
        (λ is. ends_good true (record { items = []; ending = None }) is_close_brace s ts)
        (λ is. listed_good true (next_init_item inner room)
        (next_item_falls [] none_numbered none_tokens n inner laws room) is_close_brace is_close_brace
        (λ kind h. h) close_brace_no_comma (next_law room less)
        (init_item_with inner room) s ts (item_good room less s ts))
        (λ is. inr (λ kind h. h))
        (λ is. inl (λ x e. listed_shrinks (init_item_with inner room) (next_init_item inner room)
        (next_item_falls [] none_numbered none_tokens n inner laws room) (item_shrinks room) s ts x e));
    ready = λ s at. record {
      more = [];
      tree = record { items = []; ending = None };
      scopes = s;
      keeps = kept_refl true s;
      begins = λ k h. refl;
      reads = λ k h. rw h refl;
    };
  }

  braced_law : (room opening : ℕ) → room < suc n → 1 ≤ room →
      Law true (behind (init_items_with inner (room - 1)) (λ items. behind (token_at is_close_brace)
      (λ closing. ends (init_list opening (init_items_from items.items) items.ending closing)))) any any
  braced_law room opening less one =
      closed_law true (init_items_with inner (room - 1)) is_close_brace (kinds.Punct puncts.CloseBrace) any any
      (λ items closing. ends (init_list opening (init_items_from items.items) items.ending closing))
      (items_law (room - 1) (omega arith)) refl close_brace_end (λ items closing.
      ends_law true (init_list opening (init_items_from items.items) items.ending closing) any any (λ kind h. refl))
      (λ items closing. ends_falls (init_list opening (init_items_from items.items) items.ending closing))

  braced : ℕ → ℕ → Reader InitList
  braced room opening =
      behind (init_items_with inner (room - 1)) (λ items. behind (token_at is_close_brace) (λ closing.
      ends (init_list opening (init_items_from items.items) items.ending closing)))

  items_falls : (room : ℕ) → Falls (init_items_with inner room)
  unfolding init_items_with
  items_falls room s ts x e =
      if_ok (is_close_brace (kind_at ts)) e (λ is e. ends_falls (record { items = []; ending = None }) s ts x e)
      (λ is e. shrinks_falls (listed (init_item_with inner room) (next_init_item inner room))
      (listed_shrinks (init_item_with inner room) (next_init_item inner room)
      (next_item_falls [] none_numbered none_tokens n inner laws room) (item_shrinks room)) s ts x e)

  braced_shrinks : (room : ℕ) → Shrinks (braced_with inner room)
  unfolding braced_with braced
  braced_shrinks room s ts x e =
      behind_shrinks take_one (braced room) take_shrinks
      (λ opening. closed_falls (init_items_with inner (room - 1)) is_close_brace (λ items closing. ends
      (init_list opening (init_items_from items.items) items.ending closing)) (items_falls (room - 1))
      (λ items closing. ends_falls (init_list opening (init_items_from items.items) items.ending closing))) s ts x
      (fits_ok 1 room ts e).1

  list_good : (room : ℕ) → room < suc n → (s : HeldScopes) (ts : List Lexeme)
      → Good true (init_list_with inner room) any s ts
  unfolding init_list_with braced_with braced
  list_good room less s ts = by_brace (is_open_brace (kind_at ts)) refl
    where
      by_brace : (b : Bool) → is_open_brace (kind_at ts) ≡ b → Good true (init_list_with inner room) any s ts
      by_brace false is =
          refused_here true (init_list_with inner room) any s ts Unexpected (λ k e. rw (kind_same k ts e, is) refl)
      by_brace true is =
          good_as true (braced_with inner room) (init_list_with inner room) any s ts
          (λ k e. rw (kind_same k ts e, is) refl) (inl (λ x e. braced_shrinks room s ts x e))
          (fits_good true 1 room (behind take_one (braced room)) any s ts (λ fit. take_behind true (braced room) any
          (λ opening. braced_law room opening less fit) s ts (open_brace_end (kind_at ts) is)))

  list_ready : (room : ℕ) → room < suc n → 1 ≤ room → (s : HeldScopes) (at : ℕ)
      → Ready true (init_list_with inner room) is_open_brace any s at
  unfolding init_list_with braced_with init_items_with and_then
  list_ready room less one s at = record {
    more = kinds.Punct puncts.OpenBrace ∷ kinds.Punct puncts.CloseBrace ∷ [];
    tree = init_list at (init_items_from []) None (suc at);
    scopes = s;
    keeps = kept_refl true s;
    begins = λ k h. refl;
    reads = λ k h. fits_is 1 room (record { kind = kinds.Punct puncts.OpenBrace; at = at }
        ∷ record { kind = kinds.Punct puncts.CloseBrace; at = suc at } ∷ k) _ one;
  }

  pub init_list_places : InitListPlaces (suc n) (init_list_with inner)
  init_list_places = record { good = list_good; ready = list_ready }
