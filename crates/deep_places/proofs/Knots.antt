-- Where a unit is refused for its height, many tokens stand before: over the readers of every number.
use Rattle.std.proofs.Common.{◌≡◌, ℕ, zero, suc, ◌+◌, ◌≤◌, Bool, List, [], ◌∷◌, ◌++◌, length, slice_get, Some, Ok, Err, refl, ◌∙◌, ap, subst, arith}
use Rattle.std.specs.Prelude.{◌*◌, ◌-◌}
use Rattle.c_tree.specs.declared.lexeme.Lexeme.{Lexeme}
use Rattle.c_tree.specs.Unit.{Item, item_height}
use Rattle.c_specs.specs.Laws.{WholeAreMixes, MixesGoOn}
use Rattle.c_units.specs.HeldScopes.{file_scope}
use Rattle.c_reading.specs.declared.kinds.FaultKind.TheVariants.{TooDeep}
use Rattle.c_reading.specs.Parts.{Inner, never}
use Rattle.c_reading.specs.Reading.{IsNumbered, Refusal, Read, and_then, token_at}
use Rattle.c_reading.specs.Tokens.{is_end}
use Rattle.c_reading.specs.Items.{items_with}
use Rattle.c_reading.specs.Knot.{tied, knot, alone}
use Rattle.c_reading.proofs.Aims.{Laws}
use Rattle.c_reading.proofs.Never.{never_laws}
use Rattle.c_reading.proofs.KnotLaws.{knot_laws, none_numbered, none_tokens}
use Rattle.room_laws.specs.Rooms.{unit_of}
use Rattle.deep_places.specs.Bounds.{BoundAt, DeepAt, most_of, InnerBounds}
use Rattle.deep_places.proofs.Bounding.{bound_weaker, bound_bind, bound_token, token_levels}
use Rattle.deep_places.proofs.Exprs.{b_expr_with}
use Rattle.deep_places.proofs.Inits.{b_init_list_with}
use Rattle.deep_places.proofs.Specs.{b_specs_with}
use Rattle.deep_places.proofs.Declrs.{b_declr_with, b_type_name_with}
use Rattle.deep_places.proofs.Stmts.{b_block_with, b_stmt_with}
use Rattle.deep_places.proofs.Items.{b_items_with}

-- readers that refuse everything are bounded, as they never refuse for the height
never_bounds : InnerBounds never
never_bounds = record {
  expr = λ reach begun room s ts. record { held = λ e. absurd cc };
  type_name = λ room s ts. record { held = λ e. absurd cc };
  specs = λ role words room s ts. record { held = λ e. absurd cc };
  declr = λ mode wanted flag room s ts. record { held = λ e. absurd cc };
  init_list = λ room s ts. record { held = λ e. absurd cc };
  block = λ room s ts. record { held = λ e. absurd cc };
  stmt = λ room s ts. record { held = λ e. absurd cc };
}

-- readers made of bounded ones are bounded
tied_bounds : (n : ℕ) (inner : Inner) → Laws [] n inner → InnerBounds inner → InnerBounds (tied inner)
tied_bounds n inner laws good = record {
  expr = b_expr_with [] none_numbered none_tokens n inner laws good;
  type_name = b_type_name_with [] none_numbered none_tokens n inner laws good;
  specs = b_specs_with [] none_numbered none_tokens n inner laws good;
  declr = b_declr_with [] none_numbered none_tokens n inner laws good;
  init_list = b_init_list_with [] none_numbered none_tokens n inner laws good;
  block = b_block_with [] none_numbered none_tokens n inner laws good;
  stmt = b_stmt_with [] none_numbered none_tokens n inner laws good;
}

-- where a list goes on behind some tokens
get_behind : (b : List Lexeme) (t : Lexeme) (r : List Lexeme) → slice_get (b ++ t ∷ r) (length b) ≡ Some t
get_behind [] t r = refl
get_behind (x ∷ b) t r = get_behind b t r

alone_bound : (wide : Bool) (room d : ℕ) (items : List Item) (ts : List Lexeme)
    → BoundAt (λ (xs : List Item). 0) 0 room d ts (alone wide items ts)
alone_bound wide room d items [] = record { held = record { before = []; parts = refl; low = omega arith } }
alone_bound wide room d items (t ∷ ts) = record { held = λ e. absurd cc }

abbrev refused_by : Refusal → Read (List Item)
refused_by d = Err d

refusal_is : (d e : Refusal) → refused_by d ≡ refused_by e → d ≡ e
refusal_is d e is = cc

module _ (whole_are : WholeAreMixes) (goes : MixesGoOn) where
  pub knot_bounds : (n : ℕ) → InnerBounds (knot n)
  unfolding knot
  knot_bounds zero = tied_bounds 0 never (never_laws []) never_bounds
  knot_bounds (suc n) = tied_bounds (suc n) (knot n) (knot_laws whole_are goes n) (knot_bounds n)

  unit_bound : (wide : Bool) (room : ℕ) (all : List Lexeme)
      → BoundAt (λ (xs : List Item). 0) 8 room 21 all (unit_of room wide all)
  unit_bound wide room all =
      bound_bind (most_of item_height) (λ (xs : List Item). 0) 8 8 room 21 all
      (items_with (knot room) (room - 1) (file_scope wide) all) (λ items. and_then
      (token_at is_end items.scopes items.rest) (λ last. alone wide items.tree last.rest)) (bound_weaker
      (most_of item_height) 8 (room - 1) 20 8 room 21 all (items_with (knot room) (room - 1) (file_scope wide) all)
      (omega arith) (omega arith) (b_items_with [] none_numbered none_tokens (suc room) (knot room)
      (knot_laws whole_are goes room) (knot_bounds room) (room - 1) (file_scope wide) all)) (λ items b1 e1 l1.
      bound_bind token_levels (λ (xs : List Item). 0) 0 (8 * length b1 + 8) room (8 * length b1 + 21) items.rest
      (token_at is_end items.scopes items.rest) (λ last. alone wide items.tree last.rest)
      (bound_token is_end room (8 * length b1 + 21) items.scopes items.rest) (λ last b2 e2 l2. bound_weaker
      (λ (xs : List Item). 0) 0 room (8 * length b2 + (8 * length b1 + 21)) (8 * length b2 + (8 * length b1 + 8)) room
      (8 * length b2 + (8 * length b1 + 21)) last.rest (alone wide items.tree last.rest) (omega arith) (omega arith)
      (alone_bound wide room (8 * length b2 + (8 * length b1 + 21)) items.tree last.rest)))

  -- Where a unit is refused for its height, the room is few levels for the tokens before that one.
  pub few : (wide : Bool) (room : ℕ) (all : List Lexeme) → IsNumbered all → (at : ℕ)
      → unit_of room wide all ≡ Err (TooDeep, at) → room ≤ 8 * at + 21
  few wide room all numbered at e = by_result (unit_of room wide all) e (unit_bound wide room all)
    where
      by_deep : DeepAt all at room 21 → room ≤ 8 * at + 21
      by_deep h =
          let here : slice_get all (length h.before) ≡ Some h.first =
          ap (λ (k : List Lexeme). slice_get k (length h.before)) h.parts ∙ get_behind h.before h.first h.rest in
          let its = numbered (length h.before) h.first here in
          let place = h.place in
          let deep = h.deep in
          omega arith

      by_result : (r : Read (List Item)) → r ≡ Err (TooDeep, at) → BoundAt (λ (xs : List Item). 0) 8 room 21 all r
          → room ≤ 8 * at + 21
      by_result (Ok x) is b = absurd cc
      by_result (Err d) is b =
          let same = refusal_is d (TooDeep, at) is in
          by_deep (subst (λ (n : ℕ). DeepAt all n room 21) (ap (λ (x : Refusal). x.1) same)
          (b.held (ap (λ (x : Refusal). x.0) same)))
