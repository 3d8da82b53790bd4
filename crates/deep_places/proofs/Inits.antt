-- Bounds of the readers of initialisers.
use Rattle.std.proofs.Common.{◌≡◌, ℕ, ◌+◌, Bool, true, false, if◌then◌else◌, List, [], Option, None, Some, refl, arith}
use Rattle.std.specs.Prelude.{◌-◌, max, ◌&&◌}
use Rattle.c_tree.specs.Tree.{Expr, index_desig, range_desig, old_desig, init_value, init_braced, Desigs, no_desigs, more_desigs}
use Rattle.c_units.specs.HeldScopes.{HeldScopes, is_wide, names_type}
use Rattle.c_reading.specs.declared.kinds.FaultKind.TheVariants.{Unexpected}
use Rattle.c_reading.specs.declared.kinds.Reach.TheVariants.{Assigned, Conditional}
use Rattle.c_reading.specs.Reading.{ends, refuses, fits, kind_at, behind_first, take_one, token_at, listed, one_more, list_end, IsNumbered, and_then}
use Rattle.c_reading.specs.Tokens.{is_colon, is_dots, spelled_name, is_open_brace, is_close_brace, is_close_bracket, is_equal, is_end}
use Rattle.c_reading.specs.Expressing.{begins_desig, is_dot}
use Rattle.c_reading.specs.Parts.{Inner, nothing, desigs_from}
use Rattle.c_reading.specs.Initialising.{range_behind, index_behind, old_item, plain_item, named_init_item, init_item_by, begins_init, equal_behind, init_with, member_desig_with, index_desig_with, desig_with, init_here, init_item_with, next_init_item, init_items_with, braced_with, init_list_with}
use Rattle.c_tree.specs.declared.lexeme.Lexeme.{Lexeme}
use Rattle.c_reading.proofs.Aims.{TokenLaws, Laws}
use Rattle.c_tree.specs.Height.{desig_height, expr_height, init_height, init_list_height}
use Rattle.c_reading.proofs.InitShown.{desig_shrinks, next_item_falls}
use Rattle.deep_places.proofs.Heights.{low_desigs, low_init_items}
use Rattle.deep_places.specs.Bounds.{BoundAt, most_of, begun_levels, list_item_height, InnerBounds}
use Rattle.deep_places.proofs.Bounding.{bound_ends, bound_weaker, bound_bind, bound_fits, bound_if, token_levels, no_levels, bound_take, bound_token, bound_name, bound_repeated, next_height, list_height, bound_listed, known_by, known_of}

module _ (all : List Lexeme) (numbered : IsNumbered all) (tokens : TokenLaws all) (n : ℕ) (inner : Inner)
    (laws : Laws all n inner)
    (good : InnerBounds inner) where
  pub b_equal_behind : (room : ℕ) (a0 : Desigs) (s : HeldScopes) (ts : List Lexeme)
      → BoundAt (no_levels {A = Option ℕ}) (0) room
      (0) ts (equal_behind a0 s ts)
  b_equal_behind room no_desigs s ts =
      bound_ends _ _ _ _ _ _ _ (omega arith)
  b_equal_behind room (more_desigs d ds) s ts =
      bound_bind token_levels _ (0) _ _ _ _ _ _ (bound_token is_equal _ _ _ _) (λ equal b230 e231 l232.
      bound_ends _ _ _ _ _ _ _
      (omega arith))

  pub b_init_with : (room : ℕ) (s : HeldScopes) (ts : List Lexeme)
      → BoundAt init_height (1) room (10) ts (init_with inner room s ts)
  unfolding init_with
  b_init_with room s ts =
      bound_if _ _ _ _ _ (is_open_brace (kind_at ts))
      (and_then (inner.init_list room s ts) (λ list. (ends (init_braced list.tree) list.scopes list.rest)))
      (and_then (inner.expr Assigned nothing room s ts) (λ e. (ends (init_value e.tree) e.scopes e.rest)))
      (λ is233. bound_bind init_list_height _ (1) _ _ _ _ _ _ (bound_weaker _ (1) room (10) _ _ _ _ _ (omega arith)
      (omega arith) (good.init_list room _ _)) (λ list b234 e235 l236. bound_ends _ _ _ _ _ _ _ (omega arith)))
      (λ is233. bound_bind expr_height _ (1 + begun_levels nothing) _ _ _ _ _ _
      (bound_weaker _ (1 + begun_levels nothing) room (10 + begun_levels nothing) _ _ _ _ _ (omega arith) (omega arith)
      (good.expr Assigned nothing room _ _)) (λ e b237 e238 l239. bound_ends _ _ _ _ _ _ _ (omega arith)))

  pub b_member_desig_with : (room : ℕ) (s : HeldScopes) (ts : List Lexeme) → is_end (kind_at ts) ≡ false
      → BoundAt desig_height (2)
      room (12) ts (member_desig_with inner room s ts)
  unfolding member_desig_with
  b_member_desig_with room s ts known =
      bound_fits _ _ _ _ _ _ _ _ (known) (λ less240. omega arith) (λ less240.
      bound_bind token_levels _ (0) _ _ _ _ _ _ (bound_take _ _ _ _) (λ token b241 e242 l243. bound_bind token_levels _
      (0) _ _ _ _ _ _ (bound_name _ _ _ _) (λ name b244 e245 l246. bound_ends _ _ _ _ _ _ _ (omega arith))))

  pub b_range_behind : (opening : ℕ) (first : Expr) (room : ℕ) (s : HeldScopes) (ts : List Lexeme)
      → BoundAt desig_height (max
      (expr_height first + 2) 3) room (12) ts (range_behind inner opening first room s ts)
  unfolding range_behind
  b_range_behind opening first room s ts =
      bound_bind token_levels _ (0) _ _ _ _ _ _ (bound_take _ _ _ _)
      (λ dots p403 q403 r403. bound_bind expr_height _ (1 + begun_levels nothing) _ _ _ _ _ _ (bound_weaker _
      (1 + begun_levels nothing) (room - 2) (10 + begun_levels nothing) _ _ _ _ _ (omega arith) (omega arith)
      (good.expr Conditional nothing (room - 2) _ _)) (λ e p402 q402 r402. bound_bind token_levels _ (0) _ _ _ _ _ _
      (bound_token is_close_bracket _ _ _ _) (λ closing p401 q401 r401. bound_ends _ _ _ _ _ _ _ (omega arith))))

  pub b_index_behind : (opening : ℕ) (first : Expr) (room : ℕ) (s : HeldScopes) (ts : List Lexeme)
      → BoundAt desig_height (max
      (expr_height first + 2) 3) room (12) ts (index_behind inner opening first room s ts)
  unfolding index_behind
  b_index_behind opening first room s ts =
      bound_if _ _ _ _ _ (is_wide s && is_dots (kind_at ts)) (range_behind inner opening first room s ts)
      (and_then (token_at is_close_bracket s ts)
      (λ closing. (ends (index_desig opening first closing.tree) closing.scopes closing.rest)))
      (λ on. b_range_behind opening first room s ts) (λ off. bound_bind token_levels _ (0) _ _ _ _ _ _
      (bound_token is_close_bracket _ _ _ _) (λ closing p404 q404 r404. bound_ends _ _ _ _ _ _ _ (omega arith)))

  pub b_index_desig_with : (room : ℕ) (s : HeldScopes) (ts : List Lexeme) → is_end (kind_at ts) ≡ false
      → BoundAt desig_height (2)
      room (12) ts (index_desig_with inner room s ts)
  unfolding index_desig_with
  b_index_desig_with room s ts known =
      bound_fits _ _ _ _ _ _ _ _ (known) (λ less247. omega arith) (λ less247.
      bound_bind token_levels _ (0) _ _ _ _ _ _ (bound_take _ _ _ _) (λ opening b248 e249 l250. bound_bind expr_height _
      (1 + begun_levels nothing) _ _ _ _ _ _ (bound_weaker _ (1 + begun_levels nothing) (room - 2)
      (10 + begun_levels nothing) _ _ _ _ _ (omega arith) (omega arith) (good.expr Conditional nothing (room - 2) _ _))
      (λ e b251 e252 l253. bound_weaker _ (max (expr_height e.tree + 2) 3) room (12) _ _ _ _ _ (omega arith)
      (omega arith) (b_index_behind opening.tree e.tree room e.scopes e.rest))))

  pub b_desig_with : (room : ℕ) (s : HeldScopes) (ts : List Lexeme) → is_end (kind_at ts) ≡ false
      → BoundAt desig_height (2) room
      (12) ts (desig_with inner room s ts)
  unfolding desig_with
  b_desig_with room s ts known =
      bound_if _ _ _ _ _ (is_dot (kind_at ts)) (member_desig_with inner room s ts)
      (index_desig_with inner room s ts) (λ is257.
      bound_weaker _ (2) room (12) _ _ _ _ _ (omega arith) (omega arith)
      (b_member_desig_with room _ _ (known_by (λ kind9.
      is_dot kind9) refl (kind_at ts) is257))) (λ is257.
      bound_weaker _ (2) room (12) _ _ _ _ _ (omega arith) (omega arith)
      (b_index_desig_with room _ _ (known)))

  pub b_init_here : (room : ℕ) (s : HeldScopes) (ts : List Lexeme)
      → BoundAt init_height (1) room (11) ts (init_here inner room s ts)
  unfolding init_here
  b_init_here room s ts =
      bound_if _ _ _ _ _ (begins_init s (kind_at ts)) (fits 2 room ts (init_with inner (room - 1) s ts))
      (refuses Unexpected ts)
      (λ is258. bound_fits _ _ _ _ _ _ _ _ (known_by (λ kind9. begins_init s kind9) refl (kind_at ts) is258)
      (λ less259. omega arith) (λ less259. bound_weaker _ (1) (room - 1) (10) _ _ _ _ _ (omega arith) (omega arith)
      (b_init_with (room - 1) _ _))) (λ is258. record { held = λ e. absurd cc })

  pub b_plain_item : (room : ℕ) (s : HeldScopes) (ts : List Lexeme)
      → BoundAt list_item_height (3) room (12) ts (plain_item
      inner room s ts)
  unfolding plain_item
  b_plain_item room s ts =
      bound_bind (most_of desig_height) _ (2) _ _ _ _ _ _
      (bound_weaker _ (2) room (12) _ _ _ _ _ (omega arith) (omega arith) (bound_repeated begins_desig
      (desig_with inner room) desig_height (2) room (12) (desig_shrinks all numbered tokens n inner laws room)
      (omega arith) (λ s9 ts9 is9. b_desig_with room _ _ (known_by begins_desig refl (kind_at ts9) is9)) s ts))
      (λ desigs b260 e261 l262. let f263 = low_desigs desigs.tree in
      bound_bind (no_levels {A = Option ℕ}) _ (0) _ _ _ _ _ _ (bound_weaker _ (0) room (0) _ _ _ _ _ (omega arith)
      (omega arith) (b_equal_behind room (desigs_from desigs.tree) desigs.scopes desigs.rest)) (λ equal b264 e265 l266.
      bound_bind init_height _ (1) _ _ _ _ _ _ (bound_weaker _ (1) room (11) _ _ _ _ _ (omega arith) (omega arith)
      (b_init_here room _ _)) (λ init b267 e268 l269. bound_ends _ _ _ _ _ _ _ (let
      f270 = low_desigs desigs.tree in omega arith))))

  pub b_old_item : (room : ℕ) (s : HeldScopes) (ts : List Lexeme)
      → BoundAt list_item_height (3) room (12) ts (old_item inner room
      s ts)
  unfolding old_item
  b_old_item room s ts =
      bound_bind token_levels _ (0) _ _ _ _ _ _ (bound_name _ _ _ _) (λ name p407 q407 r407.
      bound_bind token_levels _ (0) _ _ _ _ _ _ (bound_token is_colon _ _ _ _) (λ colon p406 q406 r406.
      bound_bind init_height _ (1) _ _ _ _ _ _ (bound_weaker _ (1) room (11) _ _ _ _ _ (omega arith) (omega arith)
      (b_init_here room _ _)) (λ init p405 q405 r405. bound_ends _ _ _ _ _ _ _ (omega arith))))

  pub b_named_init_item : (name : ℕ) (room : ℕ) (s : HeldScopes) (ts : List Lexeme) → is_end (kind_at ts) ≡ false
      → BoundAt
      list_item_height (3) room (12) ts (named_init_item inner name room s ts)
  unfolding named_init_item
  b_named_init_item name room s ts known =
      bound_fits _ _ _ _ _ _ _ _ (known) (λ less. omega arith) (λ less.
      bound_if _ _ _ _ _ (is_colon (kind_at (behind_first ts)))
      (old_item inner room s ts)
      (if names_type s name then refuses Unexpected (behind_first ts) else plain_item inner room s ts)
      (λ on. b_old_item room s ts) (λ off. bound_if _ _ _ _ _ (names_type s name) (refuses Unexpected (behind_first ts))
      (plain_item inner room s ts) (λ on. record { held = λ e. absurd cc }) (λ off2. b_plain_item room s ts)))

  b_init_item_by : (o : Option ℕ) (room : ℕ) (s : HeldScopes) (ts : List Lexeme)
      → ((o ≡ None → ⊥) → is_end (kind_at ts) ≡ false) →
      BoundAt list_item_height (3) room (12) ts (init_item_by inner o room s ts)
  b_init_item_by None room s ts known = b_plain_item room s ts
  b_init_item_by (Some name) room s ts known =
      bound_if _ _ _ _ _ (is_wide s) (named_init_item inner name room s ts) (plain_item inner room s ts)
      (λ on. b_named_init_item name room s ts (known (λ e9. absurd cc))) (λ off. b_plain_item room s ts)

  pub b_init_item_with : (room : ℕ) (s : HeldScopes) (ts : List Lexeme)
      → BoundAt list_item_height (3) room (12) ts (init_item_with inner room s ts)
  unfolding init_item_with
  b_init_item_with room s ts =
      b_init_item_by (spelled_name (kind_at ts)) room s ts (known_of spelled_name None refl (kind_at ts))

  pub b_next_init_item : (room : ℕ) (token : ℕ) (s : HeldScopes) (ts : List Lexeme)
      → BoundAt (next_height {E = ℕ} list_item_height)
      (3) room (12) ts (next_init_item inner room token s ts)
  unfolding next_init_item
  b_next_init_item room token s ts =
      bound_if _ _ _ _ _ (is_close_brace (kind_at ts)) (ends (list_end token) s ts)
      (and_then (init_item_with inner room s ts) (λ x. (ends (one_more x.tree) x.scopes x.rest)))
      (λ is271. bound_ends _ _ _ _ _ _ _ (omega arith))
      (λ is271. bound_bind list_item_height _ (3) _ _ _ _ _ _ (bound_weaker _ (3) room (12) _ _ _ _ _ (omega arith)
      (omega arith) (b_init_item_with room _ _)) (λ x b272 e273 l274. bound_ends _ _ _ _ _ _ _ (omega arith)))

  pub b_init_items_with : (room : ℕ) (s : HeldScopes) (ts : List Lexeme)
      → BoundAt (list_height {E = ℕ} list_item_height) (3) room
      (12) ts (init_items_with inner room s ts)
  unfolding init_items_with
  b_init_items_with room s ts =
      bound_if _ _ _ _ _ (is_close_brace (kind_at ts)) (ends (record { items = []; ending = None }) s ts)
      (listed (init_item_with inner room) (next_init_item inner room) s ts)
      (λ is275. bound_ends _ _ _ _ _ _ _ (omega arith)) (λ is275. bound_weaker _ (3) room (12) _ _ _ _ _ (omega arith)
      (omega arith) (bound_listed (init_item_with inner room) (next_init_item inner room) (list_item_height) (3) room
      (12) ((λ comma. next_item_falls all numbered tokens n inner laws room comma)) (omega arith) s ts
      (bound_weaker _ (3) room (12) _ _ _ _ _ (omega arith) (omega arith) (b_init_item_with room _ _)) (λ comma s9 ts9.
      bound_weaker _ (3) room (12) _ _ _ _ _ (omega arith) (omega arith) (b_next_init_item room comma _ _))))

  pub b_braced_with : (room : ℕ) (s : HeldScopes) (ts : List Lexeme) → is_end (kind_at ts) ≡ false
      → BoundAt init_list_height (1)
      room (10) ts (braced_with inner room s ts)
  unfolding braced_with
  b_braced_with room s ts known =
      bound_fits _ _ _ _ _ _ _ _ (known) (λ less276. omega arith)
      (λ less276. bound_bind token_levels _ (0) _ _ _ _ _ _ (bound_take _ _ _ _) (λ opening b277 e278 l279.
      bound_bind (list_height {E = ℕ} list_item_height) _ (3) _ _ _ _ _ _ (bound_weaker _ (3) (room - 1) (12) _ _ _ _ _
      (omega arith) (omega arith) (b_init_items_with (room - 1) _ _)) (λ items b280 e281 l282.
      bound_bind token_levels _ (0) _ _ _ _ _ _ (bound_token is_close_brace _ _ _ _) (λ closing b283 e284 l285.
      bound_ends _ _ _ _ _ _ _ (let f286 = low_init_items items.tree.items in omega arith)))))

  pub b_init_list_with : (room : ℕ) (s : HeldScopes) (ts : List Lexeme)
      → BoundAt init_list_height (1) room (10) ts (init_list_with
      inner room s ts)
  unfolding init_list_with
  b_init_list_with room s ts =
      bound_if _ _ _ _ _ (is_open_brace (kind_at ts)) (braced_with inner room s ts) (refuses Unexpected ts) (λ is287.
      bound_weaker _
      (1) room (10) _ _ _ _ _ (omega arith) (omega arith)
      (b_braced_with room _ _ (known_by (λ kind9. is_open_brace kind9) refl
      (kind_at ts) is287))) (λ is287. record { held = λ e. absurd cc })
