-- Bounds of the readers of specifiers.
use Rattle.std.proofs.Common.{◌≡◌, ℕ, ◌+◌, ◌≤◌, Bool, true, false, if◌then◌else◌, List, [], ◌∷◌, length, Option, Some, None, refl, arith}
use Rattle.std.specs.Prelude.{◌*◌, ◌-◌, max, not}
use Rattle.c_words.specs.declared.kinds.TokenKind.{TokenKind}
use Rattle.c_words.specs.declared.kinds.TokenKind.TheVariants as kinds
use Rattle.c_words.specs.declared.kinds.Keyword.{Keyword}
use Rattle.c_words.specs.declared.kinds.Keyword.TheVariants as keywords
use Rattle.c_tree.specs.declared.lexeme.Lexeme.{Lexeme}
use Rattle.c_syntax.specs.declared.parts.Identifier.{Identifier}
use Rattle.c_specs.specs.Mix.{goes_on, is_whole_mix, is_typed}
use Rattle.c_specs.specs.Reading.{pushed}
use Rattle.c_tree.specs.Tree.{SpecWords, no_words, no_body, member_semi, member_assert, no_value, some_value, no_enum_body, SomeDeclr, no_declr, some_declr}
use Rattle.c_tree.specs.Height.{specs_height, attrs_height, declr_height, expr_height, mem_declr_height, some_body_height, some_declr_height, some_enum_body_height, some_value_height, spec_word_height, struct_item_height}
use Rattle.typedef_scope.specs.declared.kind.Kind.{Kind}
use Rattle.typedef_scope.specs.declared.kind.Kind.TheVariants.{Constant}
use Rattle.c_units.specs.HeldScopes.{HeldScopes, innermost, may_declare, is_name}
use Rattle.c_reading.specs.declared.kinds.FaultKind.TheVariants.{Unexpected, Redeclared, BadMix}
use Rattle.c_reading.specs.declared.kinds.Reach.TheVariants.{Whole, Conditional}
use Rattle.c_reading.specs.declared.kinds.Role.{Role}
use Rattle.c_reading.specs.declared.kinds.Role.TheVariants.{Typed}
use Rattle.c_reading.specs.declared.kinds.Mode.TheVariants.{Named}
use Rattle.c_reading.specs.declared.kinds.SpecStart.{SpecStart}
use Rattle.c_reading.specs.declared.kinds.SpecStart.TheVariants as starts
use Rattle.c_reading.specs.Reading.{Read, ends, refuses, fits, kind_at, take_one, run, listed, one_more, list_end, IsNumbered, and_then}
use Rattle.c_reading.specs.Tokens.{is_open_paren, is_close_paren, is_semicolon, is_colon, is_equal, is_open_brace, is_close_brace, is_static_assert, assert_at, is_end, spelled_name, name_by, identifier_of}
use Rattle.c_reading.specs.Parts.{Inner, nothing, type_name_height}
use Rattle.c_reading.specs.Specifying.{start_at, begins_specs, begins_role, ends_before, typed_word_with, typeof_value_with, typeof_with, atomic_with, class_of_start, may_stand, least_of, without_body, present, specs_here, value_with, named_declr, width_with, field_with, mem_declr_with, first_member, next_member, mem_declrs_with, member_with, struct_item_with, members_with, body_with, struct_with, enumerator_behind, enumerator_named, enumerator_with, next_enumerator, enumerators_with, enum_body_with, enum_with, word_by, word_with, word_turn_by, word_turn, whole, specs_with}
use Rattle.c_syntax.specs.declared.parts.Assert.{Assert}
use Rattle.c_syntax.specs.declared.parts.Attr.{Attr}
use Rattle.c_reading.proofs.Aims.{TokenLaws, Laws}
use Rattle.deep_places.proofs.Words.{b_attr_at, b_align_at, b_assert_at, b_extensions_at, b_attrs_at}
use Rattle.c_reading.proofs.SpecsFalls.{next_member_falls, struct_item_shrinks, next_enumerator_falls, word_turn_shrinks}
use Rattle.c_reading.proofs.DeclrSoundParams.{specs_high}
use Rattle.deep_places.proofs.Heights.{low_mem_declrs, low_struct_items, low_enumerators, low_least, low_pushed}
use Rattle.deep_places.specs.Bounds.{BoundAt, StepAt, most_of, begun_levels, declared_height, member_height, enum_item_height, InnerBounds}
use Rattle.deep_places.proofs.Bounding.{bound_ends, bound_weaker, bound_bind, bound_fits, bound_if, token_levels, no_levels, bound_take, bound_token, bound_tag, bound_run, bound_repeated, bound_front, next_height, list_height, bound_listed, known_of, known_by, bound_without, bound_declared}

module _ (all : List Lexeme) (numbered : IsNumbered all) (tokens : TokenLaws all) (n : ℕ) (inner : Inner)
    (laws : Laws all n inner)
    (good : InnerBounds inner) where
  pub b_specs_here : (role : Role) (room : ℕ) (s : HeldScopes) (ts : List Lexeme)
      → BoundAt specs_height (1) room (12) ts (specs_here inner role room s ts)
  unfolding specs_here
  b_specs_here role room s ts =
      bound_if _ _ _ _ _ (begins_role role s (kind_at ts)) (fits 2 room ts (inner.specs role no_words (room - 1) s ts))
      (refuses Unexpected ts) (λ is288. bound_fits _ _ _ _ _ _ _ _
      (known_by (λ kind9. begins_role role s kind9) refl (kind_at ts) is288) (λ less289. omega arith)
      (λ less289. bound_weaker _ (specs_height no_words) (room - 1) (specs_height no_words + 10) _ _ _ _ _ (omega arith)
      (omega arith) (good.specs role no_words (room - 1) _ _))) (λ is288. record { held = λ e. absurd cc })

  pub b_value_with : (test : (TokenKind → Bool)) (room : ℕ) (s : HeldScopes) (ts : List Lexeme)
      → (test kinds.End ≡ false) → BoundAt
      some_value_height (1) room (10) ts (value_with inner test room s ts)
  unfolding value_with
  b_value_with test room s ts off =
      bound_if _ _ _ _ _ (test (kind_at ts)) (fits 2 room ts
      (and_then (take_one s ts) (λ token. (and_then (inner.expr Conditional nothing (room - 1) token.scopes token.rest)
      (λ e. (ends (some_value token.tree e.tree) e.scopes e.rest)))))) (ends no_value s ts)
      (λ is290. bound_fits _ _ _ _ _ _ _ _ (known_by (λ kind9. test kind9) off (kind_at ts) is290)
      (λ less291. omega arith) (λ less291. bound_bind token_levels _ (0) _ _ _ _ _ _ (bound_take _ _ _ _)
      (λ token b292 e293 l294. bound_bind expr_height _ (1 + begun_levels nothing) _ _ _ _ _ _ (bound_weaker _
      (1 + begun_levels nothing) (room - 1) (10 + begun_levels nothing) _ _ _ _ _ (omega arith) (omega arith)
      (good.expr Conditional nothing (room - 1) _ _)) (λ e b295 e296 l297. bound_ends _ _ _ _ _ _ _ (omega arith)))))
      (λ is290. bound_ends _ _ _ _ _ _ _ (omega arith))

  pub b_present : (room : ℕ) (a0 : SomeDeclr) (s : HeldScopes) (ts : List Lexeme)
      → BoundAt declr_height (some_declr_height a0) room
      (0) ts (present a0 s ts)
  b_present room no_declr s ts =
      record { held = λ e. absurd cc }
  b_present room (some_declr d) s ts =
      bound_ends _ _ _ _ _ _ _ (omega arith)

  pub b_named_declr : (wanted : Option Kind) (room : ℕ) (s : HeldScopes) (ts : List Lexeme)
      → BoundAt declr_height (0) room (10) ts
      (named_declr inner wanted room s ts)
  unfolding named_declr
  b_named_declr wanted room s ts =
      bound_bind declared_height _ (0) _ _ _ _ _ _
      (bound_weaker _ (0) room (10) _ _ _ _ _ (omega arith) (omega arith) (good.declr Named wanted false room _ _))
      (λ d b298 e299 l300. bound_weaker _ (some_declr_height d.tree.declr) room (0) _ _ _ _ _ (omega arith)
      (omega arith) (b_present room d.tree.declr d.scopes d.rest))

  pub b_width_with : (room : ℕ) (s : HeldScopes) (ts : List Lexeme) → is_end (kind_at ts) ≡ false
      → BoundAt mem_declr_height (2)
      room (12) ts (width_with inner room s ts)
  unfolding width_with
  b_width_with room s ts known =
      bound_fits _ _ _ _ _ _ _ _ (known) (λ less301. omega arith) (λ less301. bound_bind token_levels _ (0) _ _ _ _ _ _
      (bound_take _ _ _ _) (λ colon b302 e303 l304. bound_bind expr_height _ (1 + begun_levels nothing) _ _ _ _ _ _
      (bound_weaker _ (1 + begun_levels nothing) (room - 1) (10 + begun_levels nothing) _ _ _ _ _ (omega arith)
      (omega arith) (good.expr Conditional nothing (room - 1) _ _)) (λ e b305 e306 l307. bound_bind attrs_height _
      (1) _ _ _ _ _ _ (bound_weaker _ (1) room (1) _ _ _ _ _ (omega arith) (omega arith) (b_attrs_at room _ _))
      (λ attrs b308 e309 l310. bound_ends _ _ _ _ _ _ _ (omega arith)))))

  pub b_field_with : (room : ℕ) (s : HeldScopes) (ts : List Lexeme)
      → BoundAt mem_declr_height (2) room (12) ts (field_with inner room s ts)
  unfolding field_with
  b_field_with room s ts =
      bound_bind declr_height _ (0) _ _ _ _ _ _
      (bound_weaker _ (0) (room - 1) (10) _ _ _ _ _ (omega arith) (omega arith) (b_named_declr None (room - 1) _ _))
      (λ d b311 e312 l313. bound_bind some_value_height _ (1) _ _ _ _ _ _ (bound_weaker _ (1) room (10) _ _ _ _ _
      (omega arith) (omega arith) (b_value_with is_colon room _ _ refl)) (λ width b314 e315 l316.
      bound_bind attrs_height _ (1) _ _ _ _ _ _ (bound_weaker _ (1) room (1) _ _ _ _ _ (omega arith) (omega arith)
      (b_attrs_at room _ _)) (λ attrs b317 e318 l319. bound_ends _ _ _ _ _ _ _ (omega arith))))

  pub b_mem_declr_with : (room : ℕ) (s : HeldScopes) (ts : List Lexeme)
      → BoundAt mem_declr_height (2) room (12) ts (mem_declr_with
      inner room s ts)
  unfolding mem_declr_with
  b_mem_declr_with room s ts =
      bound_if _ _ _ _ _ (is_colon (kind_at ts)) (width_with inner room s ts) (field_with inner room s ts)
      (λ is320. bound_weaker _ (2) room (12) _ _ _ _ _ (omega arith) (omega arith)
      (b_width_with room _ _ (known_by (λ kind9. is_colon kind9) refl (kind_at ts) is320)))
      (λ is320. bound_weaker _ (2) room (12) _ _ _ _ _ (omega arith) (omega arith) (b_field_with room _ _))

  pub b_first_member : (room : ℕ) (s : HeldScopes) (ts : List Lexeme)
      → BoundAt member_height (2) room (12) ts (first_member inner
      room s ts)
  unfolding first_member
  b_first_member room s ts =
      bound_bind mem_declr_height _ (2) _ _ _ _ _ _ (bound_weaker _ (2) room (12) _ _ _ _ _ (omega arith) (omega arith)
      (b_mem_declr_with room _ _)) (λ d b321 e322 l323. bound_ends _ _ _ _ _ _ _ (omega arith))

  pub b_next_member : (room : ℕ) (comma : ℕ) (s : HeldScopes) (ts : List Lexeme)
      → BoundAt (next_height {E = ⊥} member_height) (2)
      room (12) ts (next_member inner room comma s ts)
  unfolding next_member
  b_next_member room comma s ts =
      bound_bind attrs_height _ (1) _ _ _ _ _ _
      (bound_weaker _ (1) room (1) _ _ _ _ _ (omega arith) (omega arith) (b_attrs_at room _ _)) (λ attrs b324 e325 l326.
      bound_bind mem_declr_height _ (2) _ _ _ _ _ _ (bound_weaker _ (2) room (12) _ _ _ _ _ (omega arith) (omega arith)
      (b_mem_declr_with room _ _)) (λ d b327 e328 l329. bound_ends _ _ _ _ _ _ _ (omega arith)))

  pub b_mem_declrs_with : (room : ℕ) (s : HeldScopes) (ts : List Lexeme)
      → BoundAt (most_of member_height) (2) room (12) ts
      (mem_declrs_with inner room s ts)
  unfolding mem_declrs_with
  b_mem_declrs_with room s ts =
      bound_if _ _ _ _ _ (is_semicolon (kind_at ts)) (ends [] s ts) (and_then
      (listed (first_member inner room) (next_member inner room) s ts) (λ ds. (ends ds.tree.items ds.scopes ds.rest)))
      (λ is330. bound_ends _ _ _ _ _ _ _ (omega arith))
      (λ is330. bound_bind (list_height {E = ⊥} (member_height)) _ (2) _ _ _ _ _ _ (bound_weaker _ (2) room
      (12) _ _ _ _ _ (omega arith) (omega arith) (bound_listed (first_member inner room) (next_member inner room)
      (member_height) (2) room (12) ((λ comma. next_member_falls all tokens n inner laws room comma)) (omega arith) s ts
      (bound_weaker _ (2) room (12) _ _ _ _ _ (omega arith) (omega arith) (b_first_member room _ _)) (λ comma s9 ts9.
      bound_weaker _ (2) room (12) _ _ _ _ _ (omega arith) (omega arith) (b_next_member room comma _ _))))
      (λ ds b331 e332 l333. bound_ends _ _ _ _ _ _ _ (omega arith)))

  pub b_member_with : (room : ℕ) (s : HeldScopes) (ts : List Lexeme)
      → BoundAt struct_item_height (3) room (13) ts (member_with
      inner room s ts)
  unfolding member_with
  b_member_with room s ts =
      bound_bind (λ (xs : List ℕ). length xs) _ (0) _ _ _ _ _ _ (bound_weaker _ (0) room (1) _ _ _ _ _ (omega arith)
      (omega arith) (b_extensions_at room _ _)) (λ exts b334 e335 l336. bound_bind specs_height _ (1) _ _ _ _ _ _
      (bound_weaker _ (1) room (12) _ _ _ _ _ (omega arith) (omega arith) (b_specs_here Typed room _ _))
      (λ words b337 e338 l339. bound_bind (most_of member_height) _ (2) _ _ _ _ _ _
      (bound_weaker _ (2) (room - 1) (12) _ _ _ _ _ (omega arith) (omega arith) (b_mem_declrs_with (room - 1) _ _))
      (λ ds b340 e341 l342. bound_bind token_levels _ (0) _ _ _ _ _ _ (bound_token is_semicolon _ _ _ _)
      (λ semi b343 e344 l345. bound_ends _ _ _ _ _ _ _ (let f346 = low_mem_declrs ds.tree in omega arith)))))

  pub b_struct_item_with : (room : ℕ) (s : HeldScopes) (ts : List Lexeme) → BoundAt struct_item_height (3) room (13) ts
      (struct_item_with inner room s ts)
  unfolding struct_item_with
  b_struct_item_with room s ts =
      bound_if _ _ _ _ _ (is_semicolon (kind_at ts))
      (fits 1 room ts (and_then (take_one s ts) (λ semi. (ends (member_semi (record {
        token = semi.tree;
      })) semi.scopes semi.rest)))) (if is_static_assert (kind_at ts)
      then (fits 1 room ts (and_then (assert_at s ts) (λ it. (ends (member_assert it.tree) it.scopes it.rest))))
      else (member_with inner room s ts))
      (λ is347. bound_fits _ _ _ _ _ _ _ _ (known_by (λ kind9. is_semicolon kind9) refl (kind_at ts) is347)
      (λ less348. omega arith) (λ less348. bound_bind token_levels _ (0) _ _ _ _ _ _ (bound_take _ _ _ _)
      (λ semi b349 e350 l351. bound_ends _ _ _ _ _ _ _ (omega arith))))
      (λ is347. bound_if _ _ _ _ _ (is_static_assert (kind_at ts))
      (fits 1 room ts (and_then (assert_at s ts) (λ it. (ends (member_assert it.tree) it.scopes it.rest))))
      (member_with inner room s ts) (λ is352. bound_fits _ _ _ _ _ _ _ _
      (known_by (λ kind9. is_static_assert kind9) refl (kind_at ts) is352) (λ less353. omega arith) (λ less353.
      bound_bind (no_levels {A = Assert}) _ (0) _ _ _ _ _ _ (bound_weaker _ (0) room (0) _ _ _ _ _ (omega arith)
      (omega arith) (b_assert_at room _ _)) (λ it b354 e355 l356. bound_ends _ _ _ _ _ _ _ (omega arith)))) (λ is352.
      bound_weaker _ (3) room (13) _ _ _ _ _ (omega arith) (omega arith) (b_member_with room _ _)))

  pub b_members_with : (room : ℕ) (s : HeldScopes) (ts : List Lexeme)
      → BoundAt some_body_height (0) room (10) ts (members_with
      inner room s ts)
  unfolding members_with
  b_members_with room s ts =
      bound_bind token_levels _ (0) _ _ _ _ _ _ (bound_take _ _ _ _) (λ opening b357 e358 l359. bound_bind
      (most_of struct_item_height) _ (3) _ _ _ _ _ _ (bound_weaker _ (3) (room - 1) (13) _ _ _ _ _ (omega arith)
      (omega arith) (bound_repeated (λ kind. not (is_close_brace kind)) (struct_item_with inner (room - 1))
      struct_item_height (3) (room - 1) (13) (struct_item_shrinks all tokens n inner laws (room - 1)) (omega arith)
      (λ s9 ts9 is9. b_struct_item_with (room - 1) _ _) opening.scopes opening.rest)) (λ items b360 e361 l362.
      bound_bind token_levels _ (0) _ _ _ _ _ _ (bound_token is_close_brace _ _ _ _) (λ closing b363 e364 l365.
      bound_ends _ _ _ _ _ _ _ (let f366 = low_struct_items items.tree in
      omega arith))))

  pub b_body_with : (tag : Option Identifier) (room : ℕ) (s : HeldScopes) (ts : List Lexeme)
      → BoundAt some_body_height (0) room
      (10) ts (body_with inner tag room s ts)
  unfolding body_with
  b_body_with tag room s ts =
      bound_if _ _ _ _ _ (is_open_brace (kind_at ts)) (members_with inner room s ts) (without_body tag no_body s ts)
      (λ is367. bound_weaker _ (0) room (10) _ _ _ _ _ (omega arith) (omega arith) (b_members_with room _ _))
      (λ is367. bound_without _ _ _ _ _ _ _ _ (omega arith))

  pub b_struct_with : (keyword : Keyword) (room : ℕ) (s : HeldScopes) (ts : List Lexeme)
      → BoundAt spec_word_height (0) room (10) ts
      (struct_with inner keyword room s ts)
  unfolding struct_with
  b_struct_with keyword room s ts =
      bound_bind token_levels _ (0) _ _ _ _ _ _ (bound_take _ _ _ _) (λ token b368 e369 l370. bound_bind attrs_height _
      (1) _ _ _ _ _ _ (bound_weaker _ (1) room (1) _ _ _ _ _ (omega arith) (omega arith) (b_attrs_at room _ _))
      (λ attrs b371 e372 l373. bound_bind no_levels _ (0) _ _ _ _ _ _ (bound_tag _ _ _ _) (λ tag b374 e375 l376.
      bound_bind some_body_height _ (0) _ _ _ _ _ _ (bound_weaker _ (0) room (10) _ _ _ _ _ (omega arith) (omega arith)
      (b_body_with tag.tree room _ _)) (λ body b377 e378 l379. bound_ends _ _ _ _ _ _ _ (omega arith)))))

  pub b_enumerator_behind : (name : Identifier) (room : ℕ) (s : HeldScopes) (ts : List Lexeme)
      → BoundAt enum_item_height (2) room
      (10) ts (enumerator_behind inner name room s ts)
  unfolding enumerator_behind
  b_enumerator_behind name room s ts =
      bound_bind attrs_height _ (1) _ _ _ _ _ _
      (bound_weaker _ (1) room (1) _ _ _ _ _ (omega arith) (omega arith) (b_attrs_at room _ _)) (λ attrs b380 e381 l382.
      bound_bind some_value_height _ (1) _ _ _ _ _ _ (bound_weaker _ (1) room (10) _ _ _ _ _ (omega arith) (omega arith)
      (b_value_with is_equal room _ _ refl)) (λ value b383 e384 l385. bound_declared _ _ _ _ _ _ _ (omega arith)))

  enumerator_named_bound : (name : Identifier) (room : ℕ) (t : Lexeme) (s : HeldScopes) (ts : List Lexeme)
      → is_end t.kind ≡ false →
      BoundAt enum_item_height 2 room 10 (t ∷ ts) (enumerator_named inner name room (t ∷ ts) s ts)
  unfolding enumerator_named
  enumerator_named_bound name room t s ts known =
      bound_if enum_item_height 2 room 10 (t ∷ ts) (may_declare (innermost s) name.name Constant)
      (if is_name (innermost s).held name.name then refuses Unexpected (t ∷ ts)
      else fits 1 room (t ∷ ts) (enumerator_behind inner name room s ts)) (refuses Redeclared (t ∷ ts))
      (λ may. bound_if enum_item_height 2 room 10 (t ∷ ts) (is_name (innermost s).held name.name)
      (refuses Unexpected (t ∷ ts)) (fits 1 room (t ∷ ts) (enumerator_behind inner name room s ts))
      (λ is. record { held = λ e. absurd cc }) (λ is. bound_fits enum_item_height 2 room 10 1 room (t ∷ ts)
      (enumerator_behind inner name room s ts) known (λ less. omega arith) (λ enough. bound_front enum_item_height 2
      room 10 t ts (enumerator_behind inner name room s ts) (b_enumerator_behind name room s ts))))
      (λ may. record { held = λ e. absurd cc })

  pub b_enumerator_with : (room : ℕ) (s : HeldScopes) (ts : List Lexeme)
      → BoundAt enum_item_height 2 room 10 ts (enumerator_with
      inner room s ts)
  unfolding enumerator_with and_then
  b_enumerator_with room s [] = record { held = λ e. absurd cc }
  b_enumerator_with room s (t ∷ ts) = by_name (spelled_name t.kind) (known_of spelled_name None refl t.kind)
    where
      by_name : (o : Option ℕ) → ((o ≡ None → ⊥) → is_end t.kind ≡ false)
          → BoundAt enum_item_height 2 room 10 (t ∷ ts) (and_then
          (name_by o t s ts) (λ name. enumerator_named inner name.tree room (t ∷ ts) name.scopes name.rest))
      by_name None known = record { held = λ e. absurd cc }
      by_name (Some name) known = enumerator_named_bound (identifier_of t.at name) room t s ts (known (λ e9. absurd cc))

  pub b_next_enumerator : (room : ℕ) (comma : ℕ) (s : HeldScopes) (ts : List Lexeme) → BoundAt (next_height {E = ℕ}
      enum_item_height) (2) room (10) ts (next_enumerator inner room comma s ts)
  unfolding next_enumerator
  b_next_enumerator room comma s ts =
      bound_if _ _ _ _ _ (is_close_brace (kind_at ts)) (ends (list_end comma) s ts)
      (and_then (enumerator_with inner room s ts) (λ x. (ends (one_more x.tree) x.scopes x.rest)))
      (λ is386. bound_ends _ _ _ _ _ _ _ (omega arith))
      (λ is386. bound_bind enum_item_height _ (2) _ _ _ _ _ _ (bound_weaker _ (2) room (10) _ _ _ _ _ (omega arith)
      (omega arith) (b_enumerator_with room _ _)) (λ x b387 e388 l389. bound_ends _ _ _ _ _ _ _ (omega arith)))

  pub b_enumerators_with : (room : ℕ) (s : HeldScopes) (ts : List Lexeme) → is_end (kind_at ts) ≡ false → BoundAt
      some_enum_body_height (0) room (10) ts (enumerators_with inner room s ts)
  unfolding enumerators_with
  b_enumerators_with room s ts known =
      bound_fits _ _ _ _ _ _ _ _ (known) (λ less390. omega arith) (λ less390. bound_bind token_levels _ (0) _ _ _ _ _ _
      (bound_take _ _ _ _) (λ opening b391 e392 l393. bound_bind (list_height {E = ℕ} (enum_item_height)) _
      (2) _ _ _ _ _ _ (bound_weaker _ (2) (room - 1) (10) _ _ _ _ _ (omega arith) (omega arith)
      (bound_listed (enumerator_with inner (room - 1)) (next_enumerator inner (room - 1)) (enum_item_height) (2)
      (room - 1) (10) ((λ comma. next_enumerator_falls all tokens n inner laws (room - 1) comma)) (omega arith)
      opening.scopes opening.rest (bound_weaker _ (2) (room - 1) (10) _ _ _ _ _ (omega arith) (omega arith)
      (b_enumerator_with (room - 1) _ _)) (λ comma s9 ts9. bound_weaker _ (2) (room - 1) (10) _ _ _ _ _ (omega arith)
      (omega arith) (b_next_enumerator (room - 1) comma _ _)))) (λ es b394 e395 l396. bound_bind token_levels _ (0) _ _
      _ _ _ _ (bound_token is_close_brace _ _ _ _) (λ closing b397 e398 l399. bound_ends _ _ _ _ _ _ _ (let f400 =
      low_enumerators es.tree.items in omega arith)))))

  pub b_enum_body_with : (tag : Option Identifier) (room : ℕ) (s : HeldScopes) (ts : List Lexeme)
      → BoundAt some_enum_body_height
      (0) room (10) ts (enum_body_with inner tag room s ts)
  unfolding enum_body_with
  b_enum_body_with tag room s ts =
      bound_if _ _ _ _ _ (is_open_brace (kind_at ts)) (enumerators_with inner room s ts)
      (without_body tag no_enum_body s ts) (λ is401. bound_weaker _ (0) room (10) _ _ _ _ _ (omega arith) (omega arith)
      (b_enumerators_with room _ _ (known_by (λ kind9. is_open_brace kind9) refl (kind_at ts) is401)))
      (λ is401. bound_without _ _ _ _ _ _ _ _ (omega arith))

  pub b_enum_with : (room : ℕ) (s : HeldScopes) (ts : List Lexeme)
      → BoundAt spec_word_height (0) room (10) ts (enum_with inner room s ts)
  unfolding enum_with
  b_enum_with room s ts =
      bound_bind token_levels _ (0) _ _ _ _ _ _ (bound_take _ _ _ _)
      (λ token b402 e403 l404. bound_bind attrs_height _ (1) _ _ _ _ _ _ (bound_weaker _ (1) room (1) _ _ _ _ _
      (omega arith) (omega arith) (b_attrs_at room _ _)) (λ attrs b405 e406 l407. bound_bind no_levels _ (0) _ _ _ _ _ _
      (bound_tag _ _ _ _) (λ tag b408 e409 l410. bound_bind some_enum_body_height _ (0) _ _ _ _ _ _
      (bound_weaker _ (0) room (10) _ _ _ _ _ (omega arith) (omega arith) (b_enum_body_with tag.tree room _ _))
      (λ body b411 e412 l413. bound_ends _ _ _ _ _ _ _ (omega arith)))))

  pub b_typed_word_with : (keyword : Keyword) (token opening : ℕ) (room : ℕ) (s : HeldScopes) (ts : List Lexeme)
      → BoundAt
      spec_word_height (3) room (13) ts (typed_word_with inner keyword token opening room s ts)
  unfolding typed_word_with
  b_typed_word_with keyword token opening room s ts =
      bound_bind type_name_height _ (2) _ _ _ _ _ _ (bound_weaker _ (2) (room - 1) (12) _ _ _ _ _ (omega arith)
      (omega arith) (good.type_name (room - 1) _ _)) (λ t p202 q202 r202. bound_bind token_levels _ (0) _ _ _ _ _ _
      (bound_token is_close_paren _ _ _ _) (λ closing p201 q201 r201. bound_ends _ _ _ _ _ _ _ (omega arith)))

  pub b_typeof_value_with : (token opening : ℕ) (room : ℕ) (s : HeldScopes) (ts : List Lexeme)
      → BoundAt spec_word_height (3) room
      (13) ts (typeof_value_with inner token opening room s ts)
  unfolding typeof_value_with
  b_typeof_value_with token opening room s ts =
      bound_bind expr_height _ (1 + begun_levels nothing) _ _ _ _ _ _ (bound_weaker _ (1 + begun_levels nothing)
      (room - 1) (10 + begun_levels nothing) _ _ _ _ _ (omega arith) (omega arith)
      (good.expr Whole nothing (room - 1) _ _)) (λ e p204 q204 r204. bound_bind token_levels _ (0) _ _ _ _ _ _
      (bound_token is_close_paren _ _ _ _) (λ closing p203 q203 r203. bound_ends _ _ _ _ _ _ _ (omega arith)))

  pub b_typeof_with : (room : ℕ) (s : HeldScopes) (ts : List Lexeme)
      → BoundAt spec_word_height (0) room (10) ts (typeof_with
      inner room s ts)
  unfolding typeof_with
  b_typeof_with room s ts =
      bound_bind token_levels _ (0) _ _ _ _ _ _ (bound_take _ _ _ _)
      (λ keyword p206 q206 r206. bound_bind token_levels _ (0) _ _ _ _ _ _ (bound_token is_open_paren _ _ _ _)
      (λ opening p205 q205 r205. bound_if _ _ _ _ _ (begins_specs opening.scopes (kind_at opening.rest))
      (typed_word_with inner keywords.Typeof keyword.tree opening.tree room opening.scopes opening.rest)
      (typeof_value_with inner keyword.tree opening.tree room opening.scopes opening.rest)
      (λ on. bound_weaker _ (3) room (13) _ _ _ _ _ (omega arith) (omega arith)
      (b_typed_word_with keywords.Typeof keyword.tree opening.tree room _ _)) (λ off. bound_weaker _ (3) room
      (13) _ _ _ _ _ (omega arith) (omega arith) (b_typeof_value_with keyword.tree opening.tree room _ _))))

  pub b_atomic_with : (room : ℕ) (s : HeldScopes) (ts : List Lexeme)
      → BoundAt spec_word_height (0) room (10) ts (atomic_with
      inner room s ts)
  unfolding atomic_with
  b_atomic_with room s ts =
      bound_bind token_levels _ (0) _ _ _ _ _ _ (bound_take _ _ _ _)
      (λ keyword p208 q208 r208. bound_bind token_levels _ (0) _ _ _ _ _ _ (bound_token is_open_paren _ _ _ _)
      (λ opening p207 q207 r207. bound_weaker _ (3) room (13) _ _ _ _ _ (omega arith) (omega arith)
      (b_typed_word_with keywords.AtomicType keyword.tree opening.tree room _ _)))

  pub b_word_by : (a0 : SpecStart) (room : ℕ) (s : HeldScopes) (ts : List Lexeme)
      → BoundAt spec_word_height (0) room (11) ts
      (word_by inner a0 room s ts)
  unfolding word_by
  b_word_by (starts.Storage keyword) room s ts =
      bound_bind token_levels _ (0) _ _ _ _ _ _ (bound_take _ _ _ _)
      (λ m414 b415 e416 l417. bound_ends _ _ _ _ _ _ _ (omega arith))
  b_word_by starts.Thread room s ts =
      bound_bind token_levels _ (0) _ _ _ _ _ _ (bound_take _ _ _ _)
      (λ m418 b419 e420 l421. bound_ends _ _ _ _ _ _ _ (omega arith))
  b_word_by starts.Inline room s ts =
      bound_bind token_levels _ (0) _ _ _ _ _ _ (bound_take _ _ _ _)
      (λ m422 b423 e424 l425. bound_ends _ _ _ _ _ _ _ (omega arith))
  b_word_by starts.Noreturn room s ts =
      bound_bind token_levels _ (0) _ _ _ _ _ _ (bound_take _ _ _ _)
      (λ m426 b427 e428 l429. bound_ends _ _ _ _ _ _ _ (omega arith))
  b_word_by (starts.Word keyword) room s ts =
      bound_bind token_levels _ (0) _ _ _ _ _ _ (bound_take _ _ _ _)
      (λ m430 b431 e432 l433. bound_ends _ _ _ _ _ _ _ (omega arith))
  b_word_by starts.Element room s ts =
      bound_bind token_levels _ (0) _ _ _ _ _ _ (bound_take _ _ _ _)
      (λ m434 b435 e436 l437. bound_ends _ _ _ _ _ _ _ (omega arith))
  b_word_by starts.Index room s ts =
      bound_bind token_levels _ (0) _ _ _ _ _ _ (bound_take _ _ _ _)
      (λ m438 b439 e440 l441. bound_ends _ _ _ _ _ _ _ (omega arith))
  b_word_by (starts.Basic keyword) room s ts =
      bound_bind token_levels _ (0) _ _ _ _ _ _ (bound_take _ _ _ _)
      (λ m442 b443 e444 l445. bound_ends _ _ _ _ _ _ _ (omega arith))
  b_word_by (starts.Struct keyword) room s ts =
      bound_weaker _ (0) (room - 1) (10) _ _ _ _ _ (omega arith) (omega arith) (b_struct_with keyword (room - 1) _ _)
  b_word_by starts.Enum room s ts =
      bound_weaker _ (0) (room - 1) (10) _ _ _ _ _ (omega arith) (omega arith) (b_enum_with (room - 1) _ _)
  b_word_by starts.Attribute room s ts =
      bound_bind (token_levels {A = Attr}) _ (0) _ _ _ _ _ _
      (bound_weaker _ (0) room (0) _ _ _ _ _ (omega arith) (omega arith)
      (b_attr_at room _ _)) (λ attr b446 e447 l448. bound_ends _ _ _ _ _ _ _ (omega arith))
  b_word_by (starts.Name name) room s ts =
      bound_bind token_levels _ (0) _ _ _ _ _ _ (bound_take _ _ _ _)
      (λ m449 b450 e451 l452. bound_ends _ _ _ _ _ _ _ (omega arith))
  b_word_by starts.Typeof room s ts =
      bound_weaker _ (0) (room - 1) (10) _ _ _ _ _ (omega arith) (omega arith) (b_typeof_with (room - 1) _ _)
  b_word_by starts.Atomic room s ts =
      bound_weaker _ (0) (room - 1) (10) _ _ _ _ _ (omega arith) (omega arith) (b_atomic_with (room - 1) _ _)
  b_word_by starts.Align room s ts =
      bound_bind (token_levels {A = Attr}) _ (0) _ _ _ _ _ _
      (bound_weaker _ (0) room (0) _ _ _ _ _ (omega arith) (omega arith)
      (b_align_at room _ _)) (λ attr b503 e504 l505. bound_ends _ _ _ _ _ _ _ (omega arith))
  b_word_by starts.Auto room s ts =
      bound_bind token_levels _ (0) _ _ _ _ _ _ (bound_take _ _ _ _)
      (λ m500 b501 e502 l503. bound_ends _ _ _ _ _ _ _ (omega arith))
  b_word_by starts.Nothing room s ts =
      record { held = λ e. absurd cc }

  pub b_word_with : (role : Role) (words : SpecWords) (start : SpecStart) (room : ℕ) (s : HeldScopes) (ts : List Lexeme)
      → is_end
      (kind_at ts) ≡ false
      → BoundAt spec_word_height (0) room (specs_height words + 10) ts (word_with inner role words start room s
      ts)
  unfolding word_with
  b_word_with role words start room s ts known =
      let g453 = specs_high words in
      bound_if _ _ _ _ _ (may_stand role start) (if goes_on words (class_of_start start) then (fits
      (max (least_of start) (specs_height words)) room ts (word_by inner start room s ts)) else (refuses BadMix ts))
      (refuses Unexpected ts) (λ is454. bound_if _ _ _ _ _ (goes_on words (class_of_start start))
      (fits (max (least_of start) (specs_height words)) room ts (word_by inner start room s ts)) (refuses BadMix ts)
      (λ is455. bound_fits _ _ _ _ _ _ _ _ (known) (λ less456. let f457 = low_least start in omega arith)
      (λ less456. bound_weaker _ (0) room (11) _ _ _ _ _ (omega arith) (omega arith) (b_word_by start room _ _)))
      (λ is455. record { held = λ e. absurd cc })) (λ is454. record {
        held = λ
            e. absurd cc;
      })

  word_step : (role : Role) (room : ℕ) (words : SpecWords) (s : HeldScopes) (ts : List Lexeme) (c : ℕ) → 1 ≤ c
      → specs_height words
      ≤ c → StepAt specs_height c room (c + 10) ts (word_turn inner role room words s ts)
  word_step role room words s ts c high low =
      by_start (start_at s (is_typed words) (kind_at ts)) (known_of (start_at s (is_typed
      words)) starts.Nothing refl (kind_at ts))
    where
      by_test : (start : SpecStart) (b : Bool) → is_end (kind_at ts) ≡ false →
          StepAt specs_height c room (c + 10) ts (if b
          then Some (and_then (word_with inner role words start room s ts) (λ word.
          ends (pushed words word.tree) word.scopes word.rest)) else None)
      by_test start false known = tt
      by_test start true known =
          bound_bind spec_word_height specs_height 0 c room (c + 10) ts (word_with inner role words start room s ts)
          (λ word. ends (pushed words word.tree) word.scopes word.rest)
          (bound_weaker spec_word_height 0 room (c + 10) 0 room (c + 10) ts (word_with inner role words start room s ts)
          (omega arith) (omega arith) (bound_weaker spec_word_height 0 room (specs_height words + 10) 0 room (c + 10) ts
          (word_with inner role words start room s ts) (omega arith) (omega arith)
          (b_word_with role words start room s ts known)))
          (λ word b1 e1 l1. bound_ends specs_height (8 * length b1 + c) room (8 * length b1 + (c + 10))
          (pushed words word.tree) word.scopes word.rest (let few = low_pushed words word.tree in omega arith))

      unless : (b : Bool) (r : Option (Read SpecWords)) → StepAt specs_height c room (c + 10) ts r
          → StepAt specs_height c room (c + 10) ts (if b then None else r)
      unless true r h = tt
      unless false r h = h

      by_start : (start : SpecStart) → ((start ≡ starts.Nothing → ⊥) → is_end (kind_at ts) ≡ false)
          → StepAt specs_height c room (c
          + 10) ts (word_turn_by inner role room start words s ts)
      by_start starts.Nothing known = unless (ends_before s words starts.Nothing) _ tt
      by_start (starts.Storage keyword) known =
          unless (ends_before s words (starts.Storage keyword)) _
          (by_test (starts.Storage keyword) true (known (λ e9. absurd cc)))
      by_start starts.Thread known =
          unless (ends_before s words starts.Thread) _ (by_test starts.Thread true (known (λ e9. absurd cc)))
      by_start starts.Inline known =
          unless (ends_before s words starts.Inline) _ (by_test starts.Inline true (known (λ e9. absurd cc)))
      by_start starts.Noreturn known =
          unless (ends_before s words starts.Noreturn) _ (by_test starts.Noreturn true (known (λ e9. absurd cc)))
      by_start (starts.Word keyword) known =
          unless (ends_before s words (starts.Word keyword)) _
          (by_test (starts.Word keyword) true (known (λ e9. absurd cc)))
      by_start starts.Element known =
          unless (ends_before s words starts.Element) _ (by_test starts.Element true (known (λ e9. absurd cc)))
      by_start starts.Index known =
          unless (ends_before s words starts.Index) _ (by_test starts.Index true (known (λ e9. absurd cc)))
      by_start (starts.Basic keyword) known =
          unless (ends_before s words (starts.Basic keyword)) _
          (by_test (starts.Basic keyword) true (known (λ e9. absurd cc)))
      by_start (starts.Struct keyword) known =
          unless (ends_before s words (starts.Struct keyword)) _
          (by_test (starts.Struct keyword) true (known (λ e9. absurd cc)))
      by_start starts.Enum known =
          unless (ends_before s words starts.Enum) _ (by_test starts.Enum true (known (λ e9. absurd cc)))
      by_start starts.Attribute known =
          unless (ends_before s words starts.Attribute) _ (by_test starts.Attribute true (known (λ e9. absurd cc)))
      by_start starts.Typeof known =
          unless (ends_before s words starts.Typeof) _ (by_test starts.Typeof true (known (λ e9. absurd cc)))
      by_start starts.Atomic known =
          unless (ends_before s words starts.Atomic) _ (by_test starts.Atomic true (known (λ e9. absurd cc)))
      by_start starts.Align known =
          unless (ends_before s words starts.Align) _ (by_test starts.Align true (known (λ e9. absurd cc)))
      by_start starts.Auto known =
          unless (ends_before s words starts.Auto) _ (by_test starts.Auto true (known (λ e9. absurd cc)))
      by_start (starts.Name name) known =
          unless (ends_before s words (starts.Name name)) _ (by_test (starts.Name name) true (known (λ e9. absurd cc)))

  pub b_whole : (room : ℕ) (words : SpecWords) (s : HeldScopes) (ts : List Lexeme)
      → BoundAt specs_height (specs_height words) room
      (0) ts (whole inner words s ts)
  b_whole room words s ts =
      bound_if _ _ _ _ _ (is_whole_mix words) (ends words s ts) (refuses Unexpected ts)
      (λ is458. bound_ends _ _ _ _ _ _ _ (omega arith)) (λ is458. record { held = λ e. absurd cc })

  pub b_specs_with : (role : Role) (words : SpecWords) (room : ℕ) (s : HeldScopes) (ts : List Lexeme)
      → BoundAt specs_height
      (specs_height words) room (specs_height words + 10) ts (specs_with inner role words room s ts)
  unfolding specs_with
  b_specs_with role words room s ts =
      let some = specs_high words in
      bound_bind specs_height specs_height (specs_height words) (specs_height words) room (specs_height words + 10) ts
      (run (word_turn inner role room) words s ts) (λ all. whole inner all.tree all.scopes all.rest) (bound_run
      (word_turn inner role room) (word_turn_shrinks all tokens n inner laws role room) specs_height room 10 1
      (word_step role room) words s ts (specs_height words) some (omega arith)) (λ x b1 e1 l1. bound_weaker specs_height
      (specs_height x.tree) room 0 (8 * length b1 + specs_height words) room (8 * length b1 + (specs_height words + 10))
      x.rest (whole inner x.tree x.scopes x.rest) l1 (omega arith) (b_whole room x.tree x.scopes x.rest))
