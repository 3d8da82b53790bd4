-- Unary forms, and casts: what begins an operand.
use Rattle.std.proofs.Common.{◌≡◌, ℕ, suc, ◌<◌, ◌≤◌, Bool, true, false, if◌then◌else◌, List, [], ◌∷◌, inl, inr, refl, ◌∙◌, ap, arith}
use Rattle.std.specs.Prelude.{◌+◌, ◌-◌}
use Rattle.c_words.specs.declared.kinds.TokenKind.{TokenKind}
use Rattle.c_words.specs.declared.kinds.TokenKind.TheVariants as kinds
use Rattle.c_words.specs.declared.kinds.Punct.{Punct}
use Rattle.c_words.specs.declared.kinds.Punct.TheVariants as puncts
use Rattle.c_words.specs.declared.kinds.Keyword.{Keyword}
use Rattle.c_words.specs.declared.kinds.Keyword.TheVariants as keywords
use Rattle.c_tree.specs.declared.lexeme.Lexeme.{Lexeme}
use Rattle.c_syntax.specs.declared.parts.Word.{Word}
use Rattle.c_syntax.specs.declared.parts.Identifier.{Identifier}
use Rattle.c_tree.specs.Tree.{Expr, prefix, extension, sizeof_value, sizeof_type, va_arg, va_start, va_copy, offset, name_use, number_use, char_use, paren, Desig, member_desig, index_desig, complex_part, label_use, compat, choose, generic, Assoc, typed_assoc, default_assoc}
use Rattle.c_units.specs.HeldScopes.{HeldScopes, is_wide, names_type}
use Rattle.c_reading.specs.declared.kinds.FaultKind.TheVariants.{Unexpected}
use Rattle.c_reading.specs.declared.kinds.Reach.{Reach}
use Rattle.c_reading.specs.declared.kinds.Reach.TheVariants.{Whole, Assigned, Castable, Unary}
use Rattle.c_reading.specs.declared.kinds.Opening.{Opening}
use Rattle.c_reading.specs.declared.kinds.Opening.TheVariants as openings
use Rattle.c_reading.specs.declared.kinds.Role.TheVariants.{Naming}
use Rattle.c_reading.specs.Reading.{Found, Reader, one_more, ends, refuses, fits, kind_at, behind_first, take_one, token_at, and_then, repeated, listed, CommaList}
use Rattle.c_reading.specs.Tokens.{is_open_paren, is_close_paren, is_close_bracket, is_open_brace, is_colon, is_comma, is_default, is_end, name_at, word_of}
use Rattle.c_reading.specs.Specifying.{begins_specs, begins_role}
use Rattle.c_reading.specs.Parts.{Inner, nothing, TypeName, type_name_height, assocs_from, desigs_from}
use Rattle.c_reading.specs.Expressing.{opening_of, is_dot, begins_desig, postfixed, primary_with, compound_with, paren_with, opened_by, opened_with, prefix_with, extension_with, sizeof_value_with, sizeof_typed, sizeof_type_with, sizeof_behind, sizeof_with, va_arg_with, va_two_with, step_with, offset_with, part_with, label_use_with, compat_with, choose_with, default_assoc_with, typed_assoc_with, assoc_with, next_assoc, generic_with, name_with, unary_by, unary_with, cast_with}
use Rattle.c_reading.proofs.Binding.{found, done, fits_is, fits_ok, if_ok}
use Rattle.c_reading.proofs.Forms.{Falls, Shrinks, shrinks_falls, name_falls}
use Rattle.c_reading.proofs.Rows.{repeated_falls}
use Rattle.c_reading.proofs.Aims.{Laws}
use Rattle.c_reading.proofs.KnotLaws.{none_tokens}
use Rattle.c_reading.proofs.ExprFalls.{postfixed_falls, step_shrinks, assoc_shrinks, next_assoc_falls, unary_shrinks, cast_shrinks}
use Rattle.c_reading.proofs.Commas.{listed_shrinks}
use Rattle.reading_steps.specs.Steps.{first_kind, any, Good, Ready, Law}
use Rattle.reading_steps.specs.Stops.{is_number, is_int, stops_operand, stops_type}
use Rattle.reading_steps.specs.InnerLaws.{InnerLaws}
use Rattle.reading_steps.proofs.Keeping.{kept_refl}
use Rattle.reading_steps.proofs.Steps.{behind, kind_same, refused_here, ends_good, ends_law, good_as, if_good, fits_good, ready_fits, ready_take, ready_as, ready_bind, bind_law, take_behind, good_before, ready_before, law_before, tail_good}
use Rattle.reading_steps.proofs.Lists.{repeated_law, listed_law}
use Rattle.reading_steps.proofs.Chains.{ends_falls, behind_falls, behind_shrinks, closed_falls, closed_shrinks, take_shrinks, good_choice, if_good_takes, token_then, closed_law}
use Rattle.token_places.proofs.Single.{open_paren_end, close_paren_end, close_bracket_end, colon_end, comma_end, mapped_law, mapped_good, mapped_ready, name_law}
use Rattle.expr_places.proofs.Facts.{operand_no_paren, operand_no_brace, operand_no_specs, whole_operand, close_paren_whole, close_bracket_whole, close_paren_type, comma_type, comma_operand, colon_type, default_end, close_paren_no_comma, close_paren_no_desig, number_no_paren, opens, opening_no_end, desig_no_end, dot_no_end, is_tight, opens_tight, opening_tight, tight_stops}
use Rattle.expr_places.proofs.Operands.{expr_law, postfixed_ends, postfixed_law, primary_good, text_good, compound_shrinks, compound_good, opened_good}

open_paren_is : (kind : TokenKind) → is_open_paren kind ≡ true → kind ≡ kinds.Punct puncts.OpenParen
open_paren_is (kinds.Punct puncts.OpenParen) h = refl
open_paren_is kind h = absurd cc

-- a token of a kind, with its own number
token_is : (t : Lexeme) (kind : TokenKind) → t.kind ≡ kind → t ≡ record { kind = kind; at = t.at }
token_is t kind e = ap (λ (kind : TokenKind). record { kind = kind; at = t.at }) e

module _ (n : ℕ) (inner : Inner) (laws : Laws [] n inner) (places : InnerLaws n inner) where
  postfix_falls : (room : ℕ) (e : Expr) → Falls (postfixed inner room e)
  postfix_falls room e = postfixed_falls [] none_tokens n inner laws room e

  postfix_law : (room : ℕ) → room < suc n → (e : Expr) → Law true (postfixed inner room e) any stops_operand
  postfix_law room less e = postfixed_law n inner laws places room less e any (λ kind h. refl)

  -- the name of a type inside
  type_law : (room : ℕ) → room < suc n → 3 ≤ room → Law true (inner.type_name (room - 1)) any is_close_paren
  type_law room less three =
      law_before true (inner.type_name (room - 1)) is_int any stops_type is_close_paren close_paren_type
      (λ kind h. refl)
      (record {
        good = places.types.good (room - 1) (omega arith) (omega arith);
        ready = places.types.ready (room - 1) (omega arith) (omega arith);
      })

  prefix_good : (p : Punct) (reach : Reach) (room : ℕ) → room < suc n → is_tight reach ≡ true
      → (s : HeldScopes) (ts : List Lexeme) → is_end (kind_at ts) ≡ false
      → Good true (prefix_with inner p reach room) stops_operand s ts
  unfolding prefix_with
  prefix_good p reach room less tight s ts known =
      fits_good true 2 room (behind take_one
      (λ token. behind (inner.expr reach nothing (room - 1)) (λ e. ends (prefix token p e)))) stops_operand s ts
      (λ fit. take_behind true
      (λ token. behind (inner.expr reach nothing (room - 1)) (λ e. ends (prefix token p e))) stops_operand
      (λ token. mapped_law true (inner.expr reach nothing (room - 1)) (λ e. prefix token p e) any stops_operand
      (expr_law n inner laws places reach room less fit any stops_operand (λ kind h. refl)
      (tight_stops reach tight))) s ts known)

  extension_good : (room : ℕ) → room < suc n → (s : HeldScopes) (ts : List Lexeme) → is_end (kind_at ts) ≡ false
      → Good true (extension_with inner room) stops_operand s ts
  unfolding extension_with
  extension_good room less s ts known =
      fits_good true 2 room (behind take_one
      (λ token. behind (inner.expr Castable nothing (room - 1)) (λ e. ends (extension token e)))) stops_operand s ts
      (λ fit. take_behind true
      (λ token. behind (inner.expr Castable nothing (room - 1)) (λ e. ends (extension token e))) stops_operand
      (λ token. mapped_law true (inner.expr Castable nothing (room - 1)) (λ e. extension token e) any stops_operand
      (expr_law n inner laws places Castable room less fit any stops_operand (λ kind h. refl)
      (λ kind h. h))) s ts known)

  -- `sizeof`: behind the word a unary form, or a type's name in parentheses.

  value_good : (word : Word) (room : ℕ) → room < suc n → 2 ≤ room → (s : HeldScopes) (ts : List Lexeme)
      → Good true (sizeof_value_with inner word room) stops_operand s ts
  unfolding sizeof_value_with
  value_good word room less two s ts =
      mapped_good true (inner.expr Unary nothing (room - 1)) (sizeof_value word) stops_operand s ts
      (places.exprs.good Unary nothing (room - 1) (omega arith) s ts)

  value_shrinks : (word : Word) (room : ℕ) → Shrinks (sizeof_value_with inner word room)
  unfolding sizeof_value_with
  value_shrinks word room =
      behind_shrinks (inner.expr Unary nothing (room - 1)) (λ e. ends (sizeof_value word e))
      (laws.exprs.shrinks Unary nothing (room - 1)) (λ e. ends_falls (sizeof_value word e))

  value_ready : (word : Word) (room : ℕ) → room < suc n → 2 ≤ room → (s : HeldScopes) (at : ℕ)
      → Ready true (sizeof_value_with inner word room) is_number stops_operand s at
  unfolding sizeof_value_with
  value_ready word room less two s at =
      mapped_ready true (inner.expr Unary nothing (room - 1)) (sizeof_value word) is_number stops_operand s at
      (places.exprs.ready Unary nothing (room - 1) (omega arith) (let more : 0 < room - 1 = omega arith in more) s at)

  abbrev literal_behind : Word → ℕ → TypeName → ℕ → ℕ → Reader Expr
  literal_behind word opening t closing room =
      behind (compound_with inner opening t closing (room - 1)) (λ e. ends (sizeof_value word e))

  literal_shrinks : (word : Word) (opening : ℕ) (t : TypeName) (closing room : ℕ)
      → Shrinks (literal_behind word opening t closing room)
  literal_shrinks word opening t closing room =
      behind_shrinks (compound_with inner opening t closing (room - 1)) (λ e. ends (sizeof_value word e))
      (compound_shrinks n inner laws places opening t closing (room - 1)) (λ e. ends_falls (sizeof_value word e))

  typed_falls : (word : Word) (opening : ℕ) (t : TypeName) (closing room : ℕ)
      → Falls (sizeof_typed inner word opening t closing room)
  unfolding sizeof_typed
  typed_falls word opening t closing room s ts x e =
      if_ok (is_open_brace (kind_at ts)) e
      (λ is e. shrinks_falls (literal_behind word opening t closing room)
      (literal_shrinks word opening t closing room) s ts x (fits_ok (2 + type_name_height t) room ts e).1)
      (λ is e. ends_falls (sizeof_type word opening t.words t.declr closing) s ts x e)

  -- behind the parenthesis that closes the name nothing has to stand
  typed_law : (word : Word) (opening : ℕ) (t : TypeName) (closing room : ℕ) → room < suc n
      → Law true (sizeof_typed inner word opening t closing room) any stops_operand
  unfolding sizeof_typed
  typed_law word opening t closing room less = record {
    good = λ s ts.
        if_good true (λ s. is_open_brace)
        (λ s ts. fits (2 + type_name_height t) room ts (literal_behind word opening t closing room s ts))
        (ends (sizeof_type word opening t.words t.declr closing)) stops_operand s ts
        (λ is. fits_good true (2 + type_name_height t) room
        (literal_behind word opening t closing room) stops_operand s ts
        (λ fit. mapped_good true (compound_with inner opening t closing (room - 1)) (sizeof_value word) stops_operand s
        ts (compound_good n inner laws places opening t closing (room - 1) (omega arith) (two fit) s ts)))
        (λ is. ends_good true (sizeof_type word opening t.words t.declr closing) stops_operand s ts)
        (λ is. inl (λ x e. literal_shrinks word opening t closing room s ts x
        (fits_ok (2 + type_name_height t) room ts e).1)) (λ is. inr operand_no_brace);
    ready = λ s at. record {
      more = [];
      tree = sizeof_type word opening t.words t.declr closing;
      scopes = s;
      keeps = kept_refl true s;
      begins = λ k h. refl;
      reads = λ k h. rw (operand_no_brace (kind_at k) h) refl;
    };
  }
    where
      two : 2 + type_name_height t ≤ room → 2 ≤ room - 1
      two fit = omega (arith, fit)

  abbrev typed_or_value : Word → ℕ → Reader Expr
  typed_or_value word room s ts =
      if begins_specs s (kind_at (behind_first ts)) then sizeof_type_with inner word room s ts
      else sizeof_value_with inner word room s ts

  type_rest : (word : Word) (opening room : ℕ) → Reader Expr
  type_rest word opening room =
      behind (inner.type_name (room - 1))
      (λ t. behind (token_at is_close_paren) (λ closing. sizeof_typed inner word opening t closing room))

  rest_shrinks : (word : Word) (opening room : ℕ) → Shrinks (type_rest word opening room)
  unfolding type_rest
  rest_shrinks word opening room =
      closed_shrinks (inner.type_name (room - 1)) is_close_paren
      (λ t closing. sizeof_typed inner word opening t closing room) (laws.types.shrinks (room - 1))
      (λ t closing. typed_falls word opening t closing room)

  rest_good : (word : Word) (opening room : ℕ) → room < suc n → 3 ≤ room → (s : HeldScopes) (ts : List Lexeme)
      → Good true (type_rest word opening room) stops_operand s ts
  unfolding type_rest
  rest_good word opening room less three s ts =
      (closed_law true (inner.type_name (room - 1)) is_close_paren (kinds.Punct puncts.CloseParen) any stops_operand
      (λ t closing. sizeof_typed inner word opening t closing room) (type_law room less three) refl close_paren_end
      (λ t closing. typed_law word opening t closing room less)
      (λ t closing. typed_falls word opening t closing room)).good s ts

  type_or_value_shrinks : (word : Word) (room : ℕ) → Shrinks (typed_or_value word room)
  unfolding sizeof_type_with type_rest
  type_or_value_shrinks word room s ts x e =
      if_ok (begins_specs s (kind_at (behind_first ts))) e
      (λ is e. behind_shrinks take_one (λ opening. type_rest word opening room) take_shrinks
      (λ opening. shrinks_falls (type_rest word opening room) (rest_shrinks word opening room)) s ts x e)
      (λ is e. value_shrinks word room s ts x e)

  -- By the parenthesis and the token behind it: as a reader of the parenthesis, and then by the token there.
  type_or_value_good : (word : Word) (room : ℕ) → room < suc n → 3 ≤ room → (s : HeldScopes) (ts : List Lexeme)
      → is_open_paren (kind_at ts) ≡ true → Good true (typed_or_value word room) stops_operand s ts
  unfolding and_then sizeof_type_with type_rest sizeof_value_with
  type_or_value_good word room less three s ts is_paren =
      good_choice true (behind take_one choice) (typed_or_value word room) stops_operand s ts same
      (type_or_value_shrinks word room)
      (take_behind true choice stops_operand choice_law s ts (open_paren_end (kind_at ts) is_paren))
    where
      opening : ℕ → Lexeme
      opening at = record { kind = kinds.Punct puncts.OpenParen; at = at }

      choice : ℕ → Reader Expr
      choice at s k = typed_or_value word room s (opening at ∷ k)

      same : (k : List Lexeme) → first_kind k ≡ first_kind ts
          → typed_or_value word room s k ≡ behind take_one choice s k
      same [] e = absurd (no_paren ts e is_paren)
        where
          no_paren : (ts : List Lexeme) → first_kind [] ≡ first_kind ts → is_open_paren (kind_at ts) ≡ true → ⊥
          no_paren [] e h = absurd cc
          no_paren (t ∷ ts) e h = absurd cc
      same (u ∷ us) e =
          ap (λ (t : Lexeme). typed_or_value word room s (t ∷ us)) (token_is u (kinds.Punct puncts.OpenParen)
          (open_paren_is u.kind (ap is_open_paren (kind_same (u ∷ us) ts e) ∙ is_paren)))

      type_good : (at : ℕ) (s : HeldScopes) (k : List Lexeme)
          → Good true (λ s k. sizeof_type_with inner word room s (opening at ∷ k)) stops_operand s k
      type_good at s k = rest_good word at room less three s k

      goes : (at : ℕ) (s : HeldScopes) → (e : Expr) × ((k : List Lexeme) → stops_operand (kind_at k) ≡ true
          → sizeof_value_with inner word room s (opening at ∷ record { kind = kinds.Number; at = suc at }
          ∷ record { kind = kinds.Punct puncts.CloseParen; at = suc (suc at) } ∷ k)
          ≡ done (found (sizeof_value word e) s k))
      goes at s =
          let o = places.exprs.opens Unary (room - 1) (omega arith) (omega arith) s at (suc at) (suc (suc at)) in
          (o.0, λ k h. rw (o.1 k h) refl)

      semi : Lexeme
      semi = record { kind = kinds.Punct puncts.Semicolon; at = 0 }

      value_behind : (at : ℕ) (s : HeldScopes) (k : List Lexeme)
          → Good true (λ s k. sizeof_value_with inner word room s (opening at ∷ k)) stops_operand s k
      value_behind at s k =
          let g = goes at s in
          tail_good true (sizeof_value_with inner word room) stops_operand s (opening at) k
          (record { kind = kinds.Number; at = suc at }
          ∷ record { kind = kinds.Punct puncts.CloseParen; at = suc (suc at) } ∷ semi ∷ [])
          (found (sizeof_value word g.0) s (semi ∷ [])) (g.1 (semi ∷ []) refl)
          (λ x e. value_shrinks word room s (opening at ∷ k) x e)
          (value_good word room less (omega arith) s (opening at ∷ k))

      choice_law : (at : ℕ) → Law true (choice at) any stops_operand
      choice_law at = record {
        good = λ s k.
            if_good true begins_specs (λ s k. sizeof_type_with inner word room s (opening at ∷ k))
            (λ s k. sizeof_value_with inner word room s (opening at ∷ k)) stops_operand s k
            (λ is. type_good at s k) (λ is. value_behind at s k) (λ is. inl (λ x e. rest_shrinks word at room s k x e))
            (λ is. inr (operand_no_specs s));
        ready = λ s here. record {
          more = kinds.Number ∷ kinds.Punct puncts.CloseParen ∷ [];
          tree = sizeof_value word
              (places.exprs.opens Unary (room - 1) (omega arith) (omega arith) s at here (suc here)).0;
          scopes = s;
          keeps = kept_refl true s;
          begins = λ k h. refl;
          reads = λ k h.
              rw ((places.exprs.opens Unary (room - 1) (omega arith) (omega arith) s at here (suc here)).1 k h) refl;
        };
      }

  either_shrinks : (word : Word) (room : ℕ) → Shrinks (λ s ts. fits 3 room ts (typed_or_value word room s ts))
  either_shrinks word room s ts x e = type_or_value_shrinks word room s ts x (fits_ok 3 room ts e).1

  sizeof_behind_law : (word : Word) (room : ℕ) → room < suc n → 2 ≤ room
      → Law true (sizeof_behind inner word room) any stops_operand
  unfolding sizeof_behind
  sizeof_behind_law word room less two = record {
    good = λ s ts.
        if_good true (λ s. is_open_paren) (λ s ts. fits 3 room ts (typed_or_value word room s ts))
        (sizeof_value_with inner word room) stops_operand s ts
        (λ is. fits_good true 3 room (typed_or_value word room) stops_operand s ts
        (λ fit. type_or_value_good word room less fit s ts is)) (λ is. value_good word room less two s ts)
        (λ is. inl (λ x e. either_shrinks word room s ts x e)) (λ is. inr operand_no_paren);
    ready = λ s at.
        ready_before true (sizeof_behind inner word room) is_number any stops_operand stops_operand s at (λ kind h. h)
        (λ kind h. refl)
        (ready_as true (sizeof_value_with inner word room) (sizeof_behind inner word room) is_number stops_operand s at
        (λ k h. rw (number_no_paren (kind_at k) h) refl) (value_ready word room less two s at));
  }

  sizeof_good : (keyword : Keyword) (room : ℕ) → room < suc n → (s : HeldScopes) (ts : List Lexeme)
      → is_end (kind_at ts) ≡ false → Good true (sizeof_with inner keyword room) stops_operand s ts
  unfolding sizeof_with
  sizeof_good keyword room less s ts known =
      fits_good true 2 room
      (behind take_one (λ token. sizeof_behind inner (word_of keyword token) room)) stops_operand s ts
      (λ fit. take_behind true (λ token. sizeof_behind inner (word_of keyword token) room) stops_operand
      (λ token. sizeof_behind_law (word_of keyword token) room less fit) s ts known)

  -- Forms with a keyword and parts in parentheses.

  va_arg_good : (room : ℕ) → room < suc n → (s : HeldScopes) (ts : List Lexeme) → is_end (kind_at ts) ≡ false
      → Good true (va_arg_with inner room) stops_operand s ts
  unfolding va_arg_with
  va_arg_good room less s ts known =
      fits_good true 3 room (behind take_one all) stops_operand s ts
      (λ fit. take_behind true all stops_operand (all_law fit) s ts known)
    where
      last : ℕ → ℕ → Expr → ℕ → TypeName → ℕ → Reader Expr
      last keyword opening e separator t closing =
          postfixed inner room (va_arg keyword opening e separator t.words t.declr closing)

      type_part : ℕ → ℕ → Expr → ℕ → Reader Expr
      type_part keyword opening e separator =
          behind (inner.type_name (room - 1))
          (λ t. behind (token_at is_close_paren) (last keyword opening e separator t))

      all : ℕ → Reader Expr
      all keyword =
          behind (token_at is_open_paren) (λ opening. behind (inner.expr Assigned nothing (room - 1))
          (λ e. behind (token_at is_comma) (type_part keyword opening e)))

      all_law : 3 ≤ room → (keyword : ℕ) → Law true (all keyword) any stops_operand
      all_law fit keyword =
          token_then true is_open_paren (kinds.Punct puncts.OpenParen) any stops_operand
          (λ opening. behind (inner.expr Assigned nothing (room - 1))
          (λ e. behind (token_at is_comma) (type_part keyword opening e))) refl refl open_paren_end
          (λ opening. closed_law true (inner.expr Assigned nothing (room - 1)) is_comma
          (kinds.Punct puncts.Comma) any stops_operand (type_part keyword opening)
          (expr_law n inner laws places Assigned room less (omega arith) any is_comma
          (λ kind h. refl) comma_operand) refl comma_end
          (λ e separator. closed_law true (inner.type_name (room - 1)) is_close_paren (kinds.Punct puncts.CloseParen)
          any stops_operand (last keyword opening e separator) (type_law room less fit) refl close_paren_end
          (λ t closing. postfix_law room less (va_arg keyword opening e separator t.words t.declr closing))
          (λ t closing. postfix_falls room (va_arg keyword opening e separator t.words t.declr closing)))
          (λ e separator. closed_falls (inner.type_name (room - 1)) is_close_paren (last keyword opening e separator)
          (shrinks_falls (inner.type_name (room - 1)) (laws.types.shrinks (room - 1)))
          (λ t closing. postfix_falls room (va_arg keyword opening e separator t.words t.declr closing))))

  va_two_good : (make : ℕ → ℕ → Expr → ℕ → Expr → ℕ → Expr) (room : ℕ) → room < suc n
      → (s : HeldScopes) (ts : List Lexeme) → is_end (kind_at ts) ≡ false
      → Good true (va_two_with inner make room) stops_operand s ts
  unfolding va_two_with
  va_two_good make room less s ts known =
      fits_good true 2 room (behind take_one all) stops_operand s ts
      (λ fit. take_behind true all stops_operand (all_law fit) s ts known)
    where
      last : ℕ → ℕ → Expr → ℕ → Expr → ℕ → Reader Expr
      last keyword opening e separator e2 closing = postfixed inner room (make keyword opening e separator e2 closing)

      second : ℕ → ℕ → Expr → ℕ → Reader Expr
      second keyword opening e separator =
          behind (inner.expr Assigned nothing (room - 1))
          (λ e2. behind (token_at is_close_paren) (last keyword opening e separator e2))

      all : ℕ → Reader Expr
      all keyword =
          behind (token_at is_open_paren) (λ opening.
          behind (inner.expr Assigned nothing (room - 1)) (λ e. behind (token_at is_comma) (second keyword opening e)))

      all_law : 2 ≤ room → (keyword : ℕ) → Law true (all keyword) any stops_operand
      all_law fit keyword =
          token_then true is_open_paren (kinds.Punct puncts.OpenParen) any stops_operand
          (λ opening. behind (inner.expr Assigned nothing (room - 1))
          (λ e. behind (token_at is_comma) (second keyword opening e))) refl refl open_paren_end
          (λ opening. closed_law true (inner.expr Assigned nothing (room - 1)) is_comma
          (kinds.Punct puncts.Comma) any stops_operand (second keyword opening)
          (expr_law n inner laws places Assigned room less fit any is_comma
          (λ kind h. refl) comma_operand) refl comma_end
          (λ e separator. closed_law true (inner.expr Assigned nothing (room - 1)) is_close_paren
          (kinds.Punct puncts.CloseParen) any stops_operand (last keyword opening e separator)
          (expr_law n inner laws places Assigned room less fit any is_close_paren (λ kind h. refl)
          (λ kind h. whole_operand kind (close_paren_whole kind h))) refl close_paren_end
          (λ e2 closing. postfix_law room less (make keyword opening e separator e2 closing))
          (λ e2 closing. postfix_falls room (make keyword opening e separator e2 closing)))
          (λ e separator.
          closed_falls (inner.expr Assigned nothing (room - 1)) is_close_paren (last keyword opening e separator)
          (shrinks_falls (inner.expr Assigned nothing (room - 1)) (laws.exprs.shrinks Assigned nothing (room - 1)))
          (λ e2 closing. postfix_falls room (make keyword opening e separator e2 closing))))

  -- a step of an offset: a name behind a dot, or an index
  step_good : (room : ℕ) → room < suc n → 2 ≤ room → (s : HeldScopes) (ts : List Lexeme)
      → begins_desig (kind_at ts) ≡ true → Good true (step_with inner room) is_close_paren s ts
  unfolding step_with
  step_good room less two s ts begun =
      if_good_takes true (λ s. is_dot) (behind take_one dotted) (behind take_one indexed) is_close_paren s ts
      (λ is. take_behind true dotted is_close_paren dotted_law s ts (dot_no_end (kind_at ts) is))
      (λ is. take_behind true indexed is_close_paren indexed_law s ts (desig_no_end (kind_at ts) begun))
      (step_shrinks [] none_tokens n inner laws room)
    where
      dotted : ℕ → Reader Desig
      dotted token = behind name_at (λ name. ends (member_desig token name))

      dotted_law : (token : ℕ) → Law true (dotted token) any is_close_paren
      dotted_law token =
          mapped_law true name_at (member_desig token) any is_close_paren
          (name_law true any is_close_paren (λ name. refl))

      indexed : ℕ → Reader Desig
      indexed opening =
          behind (inner.expr Whole nothing (room - 1))
          (λ e. behind (token_at is_close_bracket) (λ closing. ends (index_desig opening e closing)))

      indexed_law : (opening : ℕ) → Law true (indexed opening) any is_close_paren
      indexed_law opening =
          closed_law true (inner.expr Whole nothing (room - 1)) is_close_bracket
          (kinds.Punct puncts.CloseBracket) any is_close_paren (λ e closing. ends (index_desig opening e closing))
          (expr_law n inner laws places Whole room less two any is_close_bracket
          (λ kind h. refl) close_bracket_whole) refl close_bracket_end
          (λ e closing. ends_law true (index_desig opening e closing) any is_close_paren (λ kind h. refl))
          (λ e closing. ends_falls (index_desig opening e closing))

  offset_good : (room : ℕ) → room < suc n → (s : HeldScopes) (ts : List Lexeme) → is_end (kind_at ts) ≡ false
      → Good true (offset_with inner room) stops_operand s ts
  unfolding offset_with
  offset_good room less s ts known =
      fits_good true 3 room (behind take_one all) stops_operand s ts
      (λ fit. take_behind true all stops_operand (all_law fit) s ts known)
    where
      last : ℕ → ℕ → TypeName → ℕ → Identifier → List Desig → ℕ → Reader Expr
      last keyword opening t separator name steps closing =
          postfixed inner room (offset keyword opening t.words t.declr separator name (desigs_from steps) closing)

      steps_part : ℕ → ℕ → TypeName → ℕ → Identifier → Reader Expr
      steps_part keyword opening t separator name =
          behind (repeated begins_desig (step_with inner room))
          (λ steps. behind (token_at is_close_paren) (last keyword opening t separator name steps))

      name_part : ℕ → ℕ → TypeName → ℕ → Reader Expr
      name_part keyword opening t separator = behind name_at (steps_part keyword opening t separator)

      all : ℕ → Reader Expr
      all keyword =
          behind (token_at is_open_paren) (λ opening.
          behind (inner.type_name (room - 1)) (λ t. behind (token_at is_comma) (name_part keyword opening t)))

      steps_law : 3 ≤ room → (keyword opening : ℕ) (t : TypeName) (separator : ℕ) (name : Identifier)
          → Law true (steps_part keyword opening t separator name) any stops_operand
      steps_law fit keyword opening t separator name =
          closed_law true (repeated begins_desig (step_with inner room)) is_close_paren
          (kinds.Punct puncts.CloseParen) any stops_operand (last keyword opening t separator name)
          (repeated_law true begins_desig (step_with inner room) (step_shrinks [] none_tokens n inner laws room) any
          is_close_paren (λ kind h. refl) close_paren_no_desig (λ s ts is. step_good room less (omega arith) s ts is))
          refl close_paren_end (λ steps closing. postfix_law room less
          (offset keyword opening t.words t.declr separator name (desigs_from steps) closing)) (λ steps closing.
          postfix_falls room (offset keyword opening t.words t.declr separator name (desigs_from steps) closing))

      steps_falls : (keyword opening : ℕ) (t : TypeName) (separator : ℕ) (name : Identifier)
          → Falls (steps_part keyword opening t separator name)
      steps_falls keyword opening t separator name =
          closed_falls (repeated begins_desig (step_with inner room)) is_close_paren
          (last keyword opening t separator name)
          (repeated_falls begins_desig (step_with inner room) (step_shrinks [] none_tokens n inner laws room))
          (λ steps closing.
          postfix_falls room (offset keyword opening t.words t.declr separator name (desigs_from steps) closing))

      all_law : 3 ≤ room → (keyword : ℕ) → Law true (all keyword) any stops_operand
      all_law fit keyword =
          token_then true is_open_paren (kinds.Punct puncts.OpenParen) any stops_operand
          (λ opening. behind (inner.type_name (room - 1))
          (λ t. behind (token_at is_comma) (name_part keyword opening t))) refl refl open_paren_end
          (λ opening. closed_law true (inner.type_name (room - 1)) is_comma (kinds.Punct puncts.Comma) any stops_operand
          (name_part keyword opening) (comma_law fit) refl comma_end
          (λ t separator. bind_law true name_at (steps_part keyword opening t separator) any any stops_operand
          (name_law true any any (λ name. refl)) (λ name. steps_law fit keyword opening t separator name)
          (inr (λ kind h. refl)))
          (λ t separator. behind_falls name_at (steps_part keyword opening t separator) (λ s ts x e. let one =
          name_falls s ts x e in omega (arith, one)) (λ name. steps_falls keyword opening t separator name)))
        where
          comma_law : 3 ≤ room → Law true (inner.type_name (room - 1)) any is_comma
          comma_law fit =
              law_before true (inner.type_name (room - 1)) is_int any stops_type is_comma comma_type (λ kind h. refl)
              (record {
                good = places.types.good (room - 1) (omega arith) (omega arith);
                ready = places.types.ready (room - 1) (omega arith) (omega arith);
              })

  -- the name of a type inside, before some of the tokens that end one
  type_before : (room : ℕ) → room < suc n → 3 ≤ room → (fewer : TokenKind → Bool)
      → ((kind : TokenKind) → fewer kind ≡ true → stops_type kind ≡ true)
      → Law true (inner.type_name (room - 1)) any fewer
  type_before room less three fewer h =
      law_before true (inner.type_name (room - 1)) is_int any stops_type fewer h (λ kind h. refl)
      (record {
        good = places.types.good (room - 1) (omega arith) (omega arith);
        ready = places.types.ready (room - 1) (omega arith) (omega arith);
      })

  part_good : (room : ℕ) → room < suc n → (s : HeldScopes) (ts : List Lexeme) → is_end (kind_at ts) ≡ false
      → Good true (part_with inner room) stops_operand s ts
  unfolding part_with
  part_good room less s ts known =
      fits_good true 2 room (behind take_one
      (λ token. behind (inner.expr Castable nothing (room - 1)) (λ e. ends (complex_part token e)))) stops_operand s ts
      (λ fit. take_behind true
      (λ token. behind (inner.expr Castable nothing (room - 1)) (λ e. ends (complex_part token e))) stops_operand
      (λ token. mapped_law true (inner.expr Castable nothing (room - 1)) (λ e. complex_part token e) any stops_operand
      (expr_law n inner laws places Castable room less fit any stops_operand (λ kind h. refl)
      (λ kind h. h))) s ts known)

  -- the address of a label: in wider C, a name behind the token
  label_good : (room : ℕ) (s : HeldScopes) (ts : List Lexeme) → is_end (kind_at ts) ≡ false
      → Good true (label_use_with inner room) stops_operand s ts
  unfolding label_use_with
  label_good room s ts known = by_wide (is_wide s) refl
    where
      named : ℕ → Reader Expr
      named token = behind name_at (λ name. ends (label_use token name))

      by_wide : (b : Bool) → is_wide s ≡ b → Good true (label_use_with inner room) stops_operand s ts
      by_wide false is = refused_here true (label_use_with inner room) stops_operand s ts Unexpected (λ k e. rw is refl)
      by_wide true is =
          good_as true (λ s ts. fits 1 room ts (behind take_one named s ts))
          (label_use_with inner room) stops_operand s ts (λ k e. rw is refl) (inr (λ k e. rw is refl))
          (fits_good true 1 room (behind take_one named) stops_operand s ts (λ fit. take_behind true named stops_operand
          (λ token. mapped_law true name_at (label_use token) any stops_operand
          (name_law true any stops_operand (λ name. refl))) s ts known))

  compat_good : (room : ℕ) → room < suc n → (s : HeldScopes) (ts : List Lexeme) → is_end (kind_at ts) ≡ false
      → Good true (compat_with inner room) stops_operand s ts
  unfolding compat_with
  compat_good room less s ts known =
      fits_good true 3 room (behind take_one all) stops_operand s ts
      (λ fit. take_behind true all stops_operand (all_law fit) s ts known)
    where
      last : ℕ → ℕ → TypeName → ℕ → TypeName → ℕ → Reader Expr
      last keyword opening t separator t2 closing =
          postfixed inner room (compat keyword opening t.words t.declr separator t2.words t2.declr closing)

      second : ℕ → ℕ → TypeName → ℕ → Reader Expr
      second keyword opening t separator =
          behind (inner.type_name (room - 1))
          (λ t2. behind (token_at is_close_paren) (last keyword opening t separator t2))

      all : ℕ → Reader Expr
      all keyword =
          behind (token_at is_open_paren)
          (λ opening. behind (inner.type_name (room - 1)) (λ t. behind (token_at is_comma) (second keyword opening t)))

      all_law : 3 ≤ room → (keyword : ℕ) → Law true (all keyword) any stops_operand
      all_law fit keyword =
          token_then true is_open_paren (kinds.Punct puncts.OpenParen) any stops_operand
          (λ opening. behind (inner.type_name (room - 1))
          (λ t. behind (token_at is_comma) (second keyword opening t))) refl refl open_paren_end
          (λ opening. closed_law true (inner.type_name (room - 1)) is_comma (kinds.Punct puncts.Comma) any stops_operand
          (second keyword opening) (type_before room less fit is_comma comma_type) refl comma_end
          (λ t separator. closed_law true (inner.type_name (room - 1)) is_close_paren (kinds.Punct puncts.CloseParen)
          any stops_operand (last keyword opening t separator) (type_law room less fit) refl close_paren_end
          (λ t2 closing. postfix_law room less
          (compat keyword opening t.words t.declr separator t2.words t2.declr closing)) (λ t2 closing.
          postfix_falls room (compat keyword opening t.words t.declr separator t2.words t2.declr closing)))
          (λ t separator. closed_falls (inner.type_name (room - 1)) is_close_paren (last keyword opening t separator)
          (shrinks_falls (inner.type_name (room - 1)) (laws.types.shrinks (room - 1)))
          (λ t2 closing.
          postfix_falls room (compat keyword opening t.words t.declr separator t2.words t2.declr closing))))

  choose_good : (room : ℕ) → room < suc n → (s : HeldScopes) (ts : List Lexeme) → is_end (kind_at ts) ≡ false
      → Good true (choose_with inner room) stops_operand s ts
  unfolding choose_with
  choose_good room less s ts known =
      fits_good true 2 room (behind take_one all) stops_operand s ts
      (λ fit. take_behind true all stops_operand (all_law fit) s ts known)
    where
      value : Reader Expr
      value = inner.expr Assigned nothing (room - 1)

      value_falls : Falls value
      value_falls = shrinks_falls value (laws.exprs.shrinks Assigned nothing (room - 1))

      before_comma : 2 ≤ room → Law true value any is_comma
      before_comma fit = expr_law n inner laws places Assigned room less fit any is_comma (λ kind h. refl) comma_operand

      last : ℕ → ℕ → Expr → ℕ → Expr → ℕ → Expr → ℕ → Reader Expr
      last keyword opening e separator e2 separator2 e3 closing =
          postfixed inner room (choose keyword opening e separator e2 separator2 e3 closing)

      third : ℕ → ℕ → Expr → ℕ → Expr → ℕ → Reader Expr
      third keyword opening e separator e2 separator2 =
          behind value (λ e3. behind (token_at is_close_paren) (last keyword opening e separator e2 separator2 e3))

      second : ℕ → ℕ → Expr → ℕ → Reader Expr
      second keyword opening e separator =
          behind value (λ e2. behind (token_at is_comma) (third keyword opening e separator e2))

      all : ℕ → Reader Expr
      all keyword =
          behind (token_at is_open_paren)
          (λ opening. behind value (λ e. behind (token_at is_comma) (second keyword opening e)))

      third_falls : (keyword opening : ℕ) (e : Expr) (separator : ℕ) (e2 : Expr) (separator2 : ℕ)
          → Falls (third keyword opening e separator e2 separator2)
      third_falls keyword opening e separator e2 separator2 =
          closed_falls value is_close_paren (last keyword opening e separator e2 separator2) value_falls
          (λ e3 closing. postfix_falls room (choose keyword opening e separator e2 separator2 e3 closing))

      all_law : 2 ≤ room → (keyword : ℕ) → Law true (all keyword) any stops_operand
      all_law fit keyword =
          token_then true is_open_paren (kinds.Punct puncts.OpenParen) any stops_operand (λ opening. behind value
          (λ e. behind (token_at is_comma) (second keyword opening e))) refl refl open_paren_end
          (λ opening. closed_law true value is_comma (kinds.Punct puncts.Comma) any stops_operand
          (second keyword opening) (before_comma fit) refl comma_end
          (λ e separator. closed_law true value is_comma (kinds.Punct puncts.Comma) any stops_operand
          (third keyword opening e separator) (before_comma fit) refl comma_end
          (λ e2 separator2. closed_law true value is_close_paren (kinds.Punct puncts.CloseParen) any stops_operand
          (last keyword opening e separator e2 separator2)
          (expr_law n inner laws places Assigned room less fit any is_close_paren (λ kind h. refl)
          (λ kind h. whole_operand kind (close_paren_whole kind h))) refl close_paren_end
          (λ e3 closing. postfix_law room less (choose keyword opening e separator e2 separator2 e3 closing))
          (λ e3 closing. postfix_falls room (choose keyword opening e separator e2 separator2 e3 closing)))
          (third_falls keyword opening e separator))
          (λ e separator. closed_falls value is_comma (third keyword opening e separator) value_falls
          (third_falls keyword opening e separator)))

  -- An association: `default` or a type's name, a colon and a value. `default : 0` is one.
  module _ (room : ℕ) (less : room < suc n) where
    default_rest : ℕ → Reader Assoc
    default_rest keyword =
        behind (token_at is_colon)
        (λ colon. behind (inner.expr Assigned nothing (room - 1)) (λ e. ends (default_assoc keyword colon e)))

    value_part : 2 ≤ room → {T : Type 0} (make : Expr → T)
        → Law true (behind (inner.expr Assigned nothing (room - 1)) (λ e. ends (make e))) any stops_operand
    value_part two make =
        mapped_law true (inner.expr Assigned nothing (room - 1)) make any stops_operand
        (expr_law n inner laws places Assigned room less two any stops_operand (λ kind h. refl) (λ kind h. h))

    default_law : 2 ≤ room → (keyword : ℕ) → Law true (default_rest keyword) any stops_operand
    unfolding default_rest
    default_law two keyword =
        token_then true is_colon (kinds.Punct puncts.Colon) any stops_operand (λ colon. behind
        (inner.expr Assigned nothing (room - 1)) (λ e. ends (default_assoc keyword colon e))) refl refl colon_end
        (λ colon. value_part two (default_assoc keyword colon))

    default_good : (s : HeldScopes) (ts : List Lexeme) → is_end (kind_at ts) ≡ false
        → Good true (default_assoc_with inner room) stops_operand s ts
    unfolding default_assoc_with default_rest
    default_good s ts known =
        fits_good true 2 room (behind take_one default_rest) stops_operand s ts
        (λ fit. take_behind true default_rest stops_operand (default_law fit) s ts known)

    default_ready : 2 ≤ room → (s : HeldScopes) (at : ℕ)
        → Ready true (default_assoc_with inner room) is_default stops_operand s at
    unfolding default_assoc_with default_rest
    default_ready two s at =
        ready_fits true 2 room (behind take_one default_rest) is_default stops_operand s at two
        (ready_bind true take_one default_rest is_default any stops_operand s at
        (ready_take true (kinds.Keyword keywords.Default) is_default any s at refl)
        (λ keyword scopes given at. (default_law two keyword).ready scopes at))

    typed_rest : TypeName → ℕ → Reader Assoc
    typed_rest t colon =
        behind (inner.expr Assigned nothing (room - 1)) (λ e. ends (typed_assoc t.words t.declr colon e))

    typed_good : (s : HeldScopes) (ts : List Lexeme) → Good true (typed_assoc_with inner room) stops_operand s ts
    unfolding typed_assoc_with typed_rest
    typed_good s ts =
        fits_good true 3 room
        (behind (inner.type_name (room - 1)) (λ t. behind (token_at is_colon) (typed_rest t))) stops_operand s ts
        (λ fit. (closed_law true (inner.type_name (room - 1)) is_colon (kinds.Punct puncts.Colon) any stops_operand
        typed_rest (type_before room less fit is_colon colon_type) refl colon_end
        (λ t colon. value_part (omega (arith, fit)) (typed_assoc t.words t.declr colon))
        (λ t colon.
        behind_falls (inner.expr Assigned nothing (room - 1)) (λ e. ends (typed_assoc t.words t.declr colon e))
        (shrinks_falls (inner.expr Assigned nothing (room - 1)) (laws.exprs.shrinks Assigned nothing (room - 1)))
        (λ e. ends_falls (typed_assoc t.words t.declr colon e)))).good s ts)

    abbrev typed_or_not : Reader Assoc
    typed_or_not s ts =
        if begins_role Naming s (kind_at ts) then typed_assoc_with inner room s ts else refuses Unexpected ts

    assoc_law : 2 ≤ room → Law true (assoc_with inner room) any stops_operand
    unfolding assoc_with
    assoc_law two = record {
      good = λ s ts.
          if_good_takes true (λ s. is_default) (default_assoc_with inner room) typed_or_not stops_operand s ts
          (λ is. default_good s ts (default_end (kind_at ts) is)) (λ is. other_good s ts is)
          (assoc_shrinks [] none_tokens n inner laws room);
      ready = λ s at.
          ready_before true (assoc_with inner room) is_default any stops_operand stops_operand s at (λ kind h. h)
          (λ kind h. refl)
          (ready_as true (default_assoc_with inner room) (assoc_with inner room) is_default stops_operand s at
          (λ k h. rw h refl) (default_ready two s at));
    }
      where
        other_good : (s : HeldScopes) (ts : List Lexeme) → is_default (kind_at ts) ≡ false
            → Good true typed_or_not stops_operand s ts
        other_good s ts off = by_type (begins_role Naming s (kind_at ts)) refl
          where
            by_type : (b : Bool) → begins_role Naming s (kind_at ts) ≡ b → Good true typed_or_not stops_operand s ts
            by_type false is =
                refused_here true typed_or_not stops_operand s ts Unexpected (λ k e. rw (kind_same k ts e, is) refl)
            by_type true is =
                good_as true (typed_assoc_with inner room) typed_or_not stops_operand s ts
                (λ k e. rw (kind_same k ts e, is) refl)
                (inl (λ x e. assoc_shrinks [] none_tokens n inner laws room s ts x (now x e))) (typed_good s ts)
              where
                now : (x : Found Assoc) → typed_assoc_with inner room s ts ≡ done x
                    → assoc_with inner room s ts ≡ done x
                now x e = rw (off, is) e

  assocs_law : (room : ℕ) → room < suc n → 2 ≤ room
      → Law true (listed (assoc_with inner room) (next_assoc inner room)) any is_close_paren
  unfolding next_assoc
  assocs_law room less two =
      listed_law true (next_assoc inner room) (next_assoc_falls [] none_tokens n inner laws room) stops_operand
      is_close_paren paren_operand close_paren_no_comma
      (λ comma. mapped_law true (assoc_with inner room) one_more any is_close_paren
      (law_before true (assoc_with inner room) any any stops_operand is_close_paren paren_operand (λ kind h. h)
      (assoc_law room less two)))
      (assoc_with inner room) any (assoc_law room less two)
    where
      paren_operand : (kind : TokenKind) → is_close_paren kind ≡ true → stops_operand kind ≡ true
      paren_operand kind h = whole_operand kind (close_paren_whole kind h)

  generic_good : (room : ℕ) → room < suc n → (s : HeldScopes) (ts : List Lexeme) → is_end (kind_at ts) ≡ false
      → Good true (generic_with inner room) stops_operand s ts
  unfolding generic_with
  generic_good room less s ts known =
      fits_good true 3 room (behind take_one all) stops_operand s ts
      (λ fit. take_behind true all stops_operand (all_law fit) s ts known)
    where
      list : Reader (CommaList Assoc ⊥)
      list = listed (assoc_with inner (room - 1)) (next_assoc inner (room - 1))

      last : ℕ → ℕ → Expr → CommaList Assoc ⊥ → ℕ → Reader Expr
      last keyword opening e xs closing =
          postfixed inner room (generic keyword opening e (assocs_from xs.items) closing)

      second : ℕ → ℕ → Expr → ℕ → Reader Expr
      second keyword opening e separator =
          behind list (λ xs. behind (token_at is_close_paren) (last keyword opening e xs))

      all : ℕ → Reader Expr
      all keyword =
          behind (token_at is_open_paren) (λ opening.
          behind (inner.expr Assigned nothing (room - 1)) (λ e. behind (token_at is_comma) (second keyword opening e)))

      list_shrinks : Shrinks list
      list_shrinks =
          listed_shrinks (assoc_with inner (room - 1)) (next_assoc inner (room - 1))
          (next_assoc_falls [] none_tokens n inner laws (room - 1))
          (assoc_shrinks [] none_tokens n inner laws (room - 1))

      all_law : 3 ≤ room → (keyword : ℕ) → Law true (all keyword) any stops_operand
      all_law fit keyword =
          token_then true is_open_paren (kinds.Punct puncts.OpenParen) any stops_operand
          (λ opening. behind (inner.expr Assigned nothing (room - 1))
          (λ e. behind (token_at is_comma) (second keyword opening e))) refl refl open_paren_end
          (λ opening. closed_law true (inner.expr Assigned nothing (room - 1)) is_comma
          (kinds.Punct puncts.Comma) any stops_operand (second keyword opening)
          (expr_law n inner laws places Assigned room less (omega arith) any is_comma
          (λ kind h. refl) comma_operand) refl comma_end
          (λ e separator.
          closed_law true list is_close_paren (kinds.Punct puncts.CloseParen) any stops_operand (last keyword opening e)
          (assocs_law (room - 1) (omega (arith, less)) (omega (arith, fit))) refl close_paren_end
          (λ xs closing. postfix_law room less (generic keyword opening e (assocs_from xs.items) closing))
          (λ xs closing. postfix_falls room (generic keyword opening e (assocs_from xs.items) closing)))
          (λ e separator. closed_falls list is_close_paren (last keyword opening e) (shrinks_falls list list_shrinks)
          (λ xs closing. postfix_falls room (generic keyword opening e (assocs_from xs.items) closing))))

  -- By what an operand begins with.

  name_good : (name room : ℕ) → room < suc n → (s : HeldScopes) (ts : List Lexeme) → is_end (kind_at ts) ≡ false
      → Good true (name_with inner name room) stops_operand s ts
  name_good name room less s ts known = by_type (names_type s name) refl
    where
      by_type : (b : Bool) → names_type s name ≡ b → Good true (name_with inner name room) stops_operand s ts
      by_type true is = refused_here true (name_with inner name room) stops_operand s ts Unexpected (λ k e. rw is refl)
      by_type false is =
          good_as true (primary_with inner (λ token. name_use token name) room)
          (name_with inner name room) stops_operand s ts (λ k e. rw is refl) (inr (λ k e. rw is refl))
          (primary_good n inner laws places (λ token. name_use token name) room less s ts known)

  unary_by_good : (o : Opening) (room : ℕ) → room < suc n → opens_tight o ≡ true → (s : HeldScopes) (ts : List Lexeme)
      → (opens o ≡ true → is_end (kind_at ts) ≡ false) → Good true (unary_by inner o room) stops_operand s ts
  unfolding unary_by
  unary_by_good (openings.Prefix p reach) room less tight s ts known =
      prefix_good p reach room less tight s ts (known refl)
  unary_by_good (openings.Sizeof keyword) room less tight s ts known = sizeof_good keyword room less s ts (known refl)
  unary_by_good openings.Extension room less tight s ts known = extension_good room less s ts (known refl)
  unary_by_good (openings.Name name) room less tight s ts known = name_good name room less s ts (known refl)
  unary_by_good openings.Number room less tight s ts known =
      primary_good n inner laws places number_use room less s ts (known refl)
  unary_by_good openings.Char room less tight s ts known =
      primary_good n inner laws places char_use room less s ts (known refl)
  unary_by_good openings.Text room less tight s ts known = text_good n inner laws places room less s ts (known refl)
  unary_by_good openings.Paren room less tight s ts known =
      opened_good n inner laws places false room less s ts (known refl)
  unary_by_good openings.VaArg room less tight s ts known = va_arg_good room less s ts (known refl)
  unary_by_good openings.VaStart room less tight s ts known = va_two_good va_start room less s ts (known refl)
  unary_by_good openings.VaCopy room less tight s ts known = va_two_good va_copy room less s ts (known refl)
  unary_by_good openings.Offset room less tight s ts known = offset_good room less s ts (known refl)
  unary_by_good openings.Part room less tight s ts known = part_good room less s ts (known refl)
  unary_by_good openings.Label room less tight s ts known = label_good room s ts (known refl)
  unary_by_good openings.Compat room less tight s ts known = compat_good room less s ts (known refl)
  unary_by_good openings.Choose room less tight s ts known = choose_good room less s ts (known refl)
  unary_by_good openings.Generic room less tight s ts known = generic_good room less s ts (known refl)
  unary_by_good openings.Nothing room less tight s ts known =
      refused_here true (unary_by inner openings.Nothing room) stops_operand s ts Unexpected (λ k e. refl)

  pub unary_good : (room : ℕ) → room < suc n → (s : HeldScopes) (ts : List Lexeme)
      → Good true (unary_with inner room) stops_operand s ts
  unfolding unary_with
  unary_good room less s ts =
      good_choice true (unary_by inner (opening_of (kind_at ts)) room) (unary_with inner room) stops_operand s ts
      (λ k e. ap (λ (kind : TokenKind). unary_by inner (opening_of kind) room s k) (kind_same k ts e))
      (unary_shrinks [] none_tokens n inner laws room)
      (unary_by_good (opening_of (kind_at ts)) room less (opening_tight (kind_at ts)) s ts
      (λ is. opening_no_end (kind_at ts) is))

  pub cast_law_good : (room : ℕ) → room < suc n → (s : HeldScopes) (ts : List Lexeme)
      → Good true (cast_with inner room) stops_operand s ts
  unfolding cast_with
  cast_law_good room less s ts =
      if_good_takes true (λ s. is_open_paren) (opened_with inner true room) (unary_with inner room) stops_operand s ts
      (λ is. opened_good n inner laws places true room less s ts (open_paren_end (kind_at ts) is))
      (λ is. unary_good room less s ts) (cast_shrinks [] none_tokens n inner laws room)

  -- A number, `( 0 )` and a name are operands.

  primary_is : (make : ℕ → Expr) (room : ℕ) → 1 ≤ room → (s : HeldScopes) (kind : TokenKind) (at : ℕ) (k : List Lexeme)
      → stops_operand (kind_at k) ≡ true →
      primary_with inner make room s (record { kind = kind; at = at } ∷ k) ≡ done (found (make at) s k)
  unfolding and_then
  primary_is make room one s kind at k h =
      fits_is 1 room (record { kind = kind; at = at } ∷ k) (postfixed inner room (make at) s k) one
      ∙ postfixed_ends n inner laws places room (make at) s k h

  pub number_unary : (room : ℕ) → 1 ≤ room → (s : HeldScopes) (at : ℕ) (k : List Lexeme)
      → stops_operand (kind_at k) ≡ true
      → unary_with inner room s (record { kind = kinds.Number; at = at } ∷ k) ≡ done (found (number_use at) s k)
  unfolding unary_with unary_by
  number_unary room one s at k h = primary_is number_use room one s kinds.Number at k h

  pub number_cast : (room : ℕ) → 1 ≤ room → (s : HeldScopes) (at : ℕ) (k : List Lexeme)
      → stops_operand (kind_at k) ≡ true
      → cast_with inner room s (record { kind = kinds.Number; at = at } ∷ k) ≡ done (found (number_use at) s k)
  unfolding cast_with
  number_cast room one s at k h = number_unary room one s at k h

  pub name_unary : (room : ℕ) → 1 ≤ room → (s : HeldScopes) (name at : ℕ) → names_type s name ≡ false
      → (k : List Lexeme) → stops_operand (kind_at k) ≡ true →
      unary_with inner room s (record { kind = kinds.Name name; at = at } ∷ k) ≡ done (found (name_use at name) s k)
  unfolding unary_with unary_by
  name_unary room one s name at no_type k h =
      rw no_type (primary_is (λ token. name_use token name) room one s (kinds.Name name) at k h)

  pub name_cast : (room : ℕ) → 1 ≤ room → (s : HeldScopes) (name at : ℕ) → names_type s name ≡ false → (k : List Lexeme)
      → stops_operand (kind_at k) ≡ true →
      cast_with inner room s (record { kind = kinds.Name name; at = at } ∷ k) ≡ done (found (name_use at name) s k)
  unfolding cast_with
  name_cast room one s name at no_type k h = name_unary room one s name at no_type k h

  paren_tokens : ℕ → ℕ → ℕ → List Lexeme → List Lexeme
  paren_tokens one two three k =
      record { kind = kinds.Punct puncts.OpenParen; at = one } ∷ record { kind = kinds.Number; at = two }
      ∷ record { kind = kinds.Punct puncts.CloseParen; at = three } ∷ k

  opened_is : (casts : Bool) (room : ℕ) → room < suc n → 2 ≤ room → (s : HeldScopes) (one two three : ℕ) →
      (e : Expr) × ((k : List Lexeme) → stops_operand (kind_at k) ≡ true
      → opened_with inner casts room s (paren_tokens one two three k) ≡ done (found e s k))
  unfolding opened_with opened_by paren_with and_then paren_tokens
  opened_is casts room less least s one two three =
      let o = places.exprs.number Whole nothing (room - 1) (omega arith) (omega arith) s two in (
        paren one o.0 three,
        (λ k h. fits_is 2 room (paren_tokens one two three k)
            (opened_by inner casts one room s (record { kind = kinds.Number; at = two }
            ∷ record { kind = kinds.Punct puncts.CloseParen; at = three } ∷ k)) least
            ∙ rw (o.1 (record { kind = kinds.Punct puncts.CloseParen; at = three } ∷ k) refl)
            (postfixed_ends n inner laws places room (paren one o.0 three) s k h)),
      )

  pub opens_unary : (room : ℕ) → room < suc n → 2 ≤ room → (s : HeldScopes) (one two three : ℕ)
      → (e : Expr) × ((k : List Lexeme) → stops_operand (kind_at k) ≡ true →
      unary_with inner room s (record { kind = kinds.Punct puncts.OpenParen; at = one }
      ∷ record { kind = kinds.Number; at = two } ∷ record { kind = kinds.Punct puncts.CloseParen; at = three } ∷ k)
      ≡ done (found e s k))
  unfolding unary_with unary_by paren_tokens
  opens_unary room less least s one two three = opened_is false room less least s one two three

  pub opens_cast : (room : ℕ) → room < suc n → 2 ≤ room → (s : HeldScopes) (one two three : ℕ)
      → (e : Expr) × ((k : List Lexeme) → stops_operand (kind_at k) ≡ true →
      cast_with inner room s (record { kind = kinds.Punct puncts.OpenParen; at = one }
      ∷ record { kind = kinds.Number; at = two } ∷ record { kind = kinds.Punct puncts.CloseParen; at = three } ∷ k)
      ≡ done (found e s k))
  unfolding cast_with paren_tokens
  opens_cast room less least s one two three = opened_is true room less least s one two three
