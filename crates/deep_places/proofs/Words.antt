-- Bounds of the readers of groups, attributes and rows of words.
use Rattle.std.proofs.Common.{◌≡◌, ℕ, ◌+◌, ◌≤◌, Bool, List, [], ◌∷◌, length, Option, Ok, Err, refl, ap, arith}
use Rattle.std.specs.Prelude.{◌*◌}
use Rattle.c_words.specs.declared.kinds.TokenKind.{TokenKind}
use Rattle.c_tree.specs.declared.lexeme.Lexeme.{Lexeme}
use Rattle.c_syntax.specs.declared.parts.Group.{Group}
use Rattle.c_syntax.specs.declared.parts.Attr.{Attr}
use Rattle.c_syntax.specs.declared.parts.Assert.{Assert}
use Rattle.c_syntax.specs.declared.parts.PointerWord.{PointerWord}
use Rattle.c_syntax.specs.declared.parts.PointerWord.TheVariants as pointer_words
use Rattle.c_reading.specs.declared.kinds.FaultKind.TheVariants.{Unexpected}
use Rattle.c_reading.specs.declared.kinds.Bracket.{Bracket}
use Rattle.c_reading.specs.declared.kinds.Bracket.TheVariants.{Paren}
use Rattle.c_reading.specs.declared.kinds.Inside.{Inside}
use Rattle.c_reading.specs.declared.kinds.Inside.TheVariants.{Opens, Closes, Plain, Stops}
use Rattle.c_syntax.specs.declared.parts.Identifier.{Identifier}
use Rattle.c_reading.specs.Declaring.{is_identifier, identifier_at, next_name, names_list}
use Rattle.c_reading.specs.Reading.{Next, Reader, Read, kind_at, ends, refuses, fits, take_one, token_at, run, repeated, Found, and_then}
use Rattle.c_units.specs.HeldScopes.{HeldScopes}
use Rattle.c_reading.specs.Tokens.{spelled_name, name_at, is_open_paren, is_semicolon, is_text, is_extension, is_attribute, is_static_assert, align_at, extensions_at, texts_at, qual_of, word_qual_of, made_at, is_made, quals_at, array_word_of, array_words_at, asm_word_of, asm_words_at, inside_of, is_same, bracket_by, bracket_step, bracket_turn_by, bracket_turn, group_at, attr_at, attrs_at, pointer_word_at, begins_pointer_word, pointer_words_at, assert_at, Opened}
use Rattle.c_tree.specs.Height.{attrs_height, pointer_words_height}
use Rattle.c_reading.proofs.Groups.{bracket_shrinks}
use Rattle.c_reading.proofs.Binding.{ok_is, bind_ok, fits_ok, take_falls, token_falls}
use Rattle.c_reading.proofs.Forms.{Falls, Shrinks, name_falls}
use Rattle.c_reading.proofs.Groups.{group_shrinks}
use Rattle.c_reading.proofs.TokenRows.{made_shrinks}
use Rattle.c_reading.proofs.TokensShown.{pointer_word_shrinks}
use Rattle.deep_places.specs.Bounds.{BoundAt, StepAt, most_of}
use Rattle.deep_places.proofs.Bounding.{bound_ends, bound_weaker, bound_bind, bound_fits, bound_if, token_levels, no_levels, bound_take, bound_token, bound_name, bound_listed, list_height, bound_run, bound_repeated, known_by, bound_count, bound_made}

-- Groups.

-- a turn of the loop over brackets has no height, and never refuses for the height
bracket_step_bound : (room : ℕ) (state : Opened) (s : HeldScopes) (ts : List Lexeme) (c : ℕ) → 0 ≤ c → 0 ≤ c
    → StepAt (λ (o :
    Opened). 0) c room (c + 0) ts (bracket_turn state s ts)
bracket_step_bound room state s ts c high low = by_brackets state.brackets
  where
    by_inside : (i : Inside) (b : Bracket) (bs : List Bracket) (t : Lexeme) (ts : List Lexeme)
        → BoundAt (λ (o : Opened). 0) c room
        (c + 0) (t ∷ ts) (bracket_by i b bs t s ts)
    by_inside (Opens other) b bs t ts = record { held = record { before = t ∷ []; parts = refl; low = omega arith } }
    by_inside (Closes other) b bs t ts =
        bound_if (λ (o : Opened). 0) c room (c + 0) (t ∷ ts) (is_same other b)
        (ends (record { brackets = bs; last = t.at }) s ts)
        (refuses Unexpected (t ∷ ts))
        (λ is. record { held = record { before = t ∷ []; parts = refl; low = omega arith } })
        (λ is. record { held = λ e. absurd cc })
    by_inside Plain b bs t ts = record { held = record { before = t ∷ []; parts = refl; low = omega arith } }
    by_inside Stops b bs t ts = record { held = λ e. absurd cc }

    by_tokens : (b : Bracket) (bs : List Bracket) (ts : List Lexeme)
        → BoundAt (λ (o : Opened). 0) c room (c + 0) ts (bracket_step b
        bs s ts)
    by_tokens b bs [] = record { held = λ e. absurd cc }
    by_tokens b bs (t ∷ ts) = by_inside (inside_of t.kind) b bs t ts

    by_brackets : (bs : List Bracket) → StepAt (λ (o : Opened). 0) c room (c + 0) ts (bracket_turn_by bs s ts)
    by_brackets [] = tt
    by_brackets (b ∷ bs) = by_tokens b bs ts

pub b_group_at : (room : ℕ) (s : HeldScopes) (ts : List Lexeme)
    → BoundAt (no_levels {A = Group}) 0 room 0 ts (group_at s ts)
unfolding group_at
b_group_at room s ts =
    bound_bind token_levels (no_levels {A = Group}) 0 0 room 0 ts (token_at is_open_paren s ts) (λ opening.
    and_then (run bracket_turn (record { brackets = Paren ∷ []; last = opening.tree }) opening.scopes opening.rest)
    (λ inside. ends (record {
      first = opening.tree;
      last = inside.tree.last;
    }) inside.scopes inside.rest)) (bound_token is_open_paren room 0 s ts) (λ opening b1 e1 l1. bound_bind
    (λ (o : Opened). 0) (no_levels {A = Group}) 0 (8 * length b1 + 0) room (8 * length b1 + 0) opening.rest
    (run bracket_turn (record { brackets = Paren ∷ []; last = opening.tree }) opening.scopes opening.rest)
    (λ inside. ends (record {
      first = opening.tree;
      last = inside.tree.last;
    }) inside.scopes inside.rest)
    (bound_weaker (λ (o : Opened). 0) 0 room (0 + 0) 0 room (8 * length b1 + 0) opening.rest (run bracket_turn (record {
      brackets =
          Paren ∷ [];
      last = opening.tree;
    }) opening.scopes opening.rest) (omega arith) (omega arith)
    (bound_run bracket_turn bracket_shrinks (λ (o : Opened). 0) room 0 0 (bracket_step_bound room) (record {
      brackets = Paren ∷ [];
      last = opening.tree;
    }) opening.scopes opening.rest 0 (omega arith) (omega arith))) (λ inside b2 e2 l2.
    bound_ends (no_levels {A = Group}) (8 * length b2 + (8 * length b1 + 0)) room (8 * length b2 + (8 * length b1 + 0))
    (record { first = opening.tree; last = inside.tree.last }) inside.scopes inside.rest (omega arith)))

pub b_attr_at : (room : ℕ) (s : HeldScopes) (ts : List Lexeme)
    → BoundAt (token_levels {A = Attr}) (0) room (0) ts (attr_at s ts)
unfolding attr_at
b_attr_at room s ts =
    bound_bind token_levels _ (0) _ _ _ _ _ _ (bound_token is_attribute _ _ _ _) (λ keyword b1 e2 l3.
    bound_bind (no_levels {A =
    Group}) _ (0) _ _ _ _ _ _ (bound_weaker _ (0) room (0) _ _ _ _ _ (omega arith) (omega arith) (b_group_at room _ _))
    (λ group b4 e5 l6. bound_ends _ _ _ _ _ _ _ (omega arith)))

pub b_align_at : (room : ℕ) (s : HeldScopes) (ts : List Lexeme)
    → BoundAt (token_levels {A = Attr}) (0) room (0) ts (align_at s ts)
unfolding align_at
b_align_at room s ts =
    bound_bind token_levels _ (0) _ _ _ _ _ _ (bound_take _ _ _ _) (λ keyword b1 e2 l3.
    bound_bind (no_levels {A = Group}) _ (0) _ _ _ _ _ _
    (bound_weaker _ (0) room (0) _ _ _ _ _ (omega arith) (omega arith) (b_group_at room _ _))
    (λ group b4 e5 l6. bound_ends _ _ _ _ _ _ _ (omega arith)))

pub b_assert_at : (room : ℕ) (s : HeldScopes) (ts : List Lexeme)
    → BoundAt (no_levels {A = Assert}) (0) room (0) ts (assert_at s ts)
unfolding assert_at
b_assert_at room s ts =
    bound_bind token_levels _ (0) _ _ _ _ _ _ (bound_token is_static_assert _ _ _ _) (λ keyword b7 e8 l9.
    bound_bind (no_levels {A =
    Group}) _ (0) _ _ _ _ _ _ (bound_weaker _ (0) room (0) _ _ _ _ _ (omega arith) (omega arith) (b_group_at room _ _))
    (λ group b10 e11 l12. bound_bind token_levels _ (0) _ _ _ _ _ _ (bound_token is_semicolon _ _ _ _)
    (λ semi b13 e14 l15. bound_ends _ _ _ _ _ _ _ (omega arith))))

-- a bound with the levels of a token holds without levels
fewer_levels : {A : Type 0} (room : ℕ) (ts : List Lexeme) (r : Read A) → BoundAt token_levels 0 room 0 ts r
    → BoundAt no_levels 0
    room 0 ts r
fewer_levels room ts (Ok x) b =
    record { held = record { before = b.held.before; parts = b.held.parts; low = omega arith } }
fewer_levels room ts (Err e) b = record { held = b.held }

-- Rows.

-- a row of tokens that each make something has no height, and is never refused for the height
made_row : {A : Type 0} (of : TokenKind → Option (ℕ → A)) (begins : TokenKind → Bool) (room : ℕ) (s : HeldScopes)
    (ts : List Lexeme)
    → BoundAt no_levels 0 room 0 ts (repeated begins (made_at of) s ts)
made_row {A} of begins room s ts =
    forget (repeated begins (made_at of) s ts) (bound_repeated begins (made_at of) no_levels 0 room 0
    (made_shrinks of) (omega arith) (λ s ts is. bound_made of room s ts) s ts)
  where
    forget : (r : Read (List A)) → BoundAt (most_of no_levels) 0 room 0 ts r → BoundAt no_levels 0 room 0 ts r
    forget (Ok x) b = record { held = record { before = b.held.before; parts = b.held.parts; low = omega arith } }
    forget (Err e) b = record { held = b.held }

pub b_quals_at : (room : ℕ) (s : HeldScopes) (ts : List Lexeme) → BoundAt no_levels 0 room 0 ts (quals_at s ts)
unfolding quals_at
b_quals_at room s ts = made_row word_qual_of (λ kind. is_made (word_qual_of kind)) room s ts

pub b_array_words_at : (room : ℕ) (s : HeldScopes) (ts : List Lexeme)
    → BoundAt no_levels 0 room 0 ts (array_words_at s ts)
unfolding array_words_at
b_array_words_at room s ts = made_row array_word_of (λ kind. is_made (array_word_of kind)) room s ts

pub b_asm_words_at : (room : ℕ) (s : HeldScopes) (ts : List Lexeme) → BoundAt no_levels 0 room 0 ts (asm_words_at s ts)
unfolding asm_words_at
b_asm_words_at room s ts = made_row asm_word_of (λ kind. is_made (asm_word_of kind)) room s ts

take_shrinks : Shrinks take_one
take_shrinks s ts x e = let one = take_falls s ts x e in omega arith

pub b_texts_at : (room : ℕ) (s : HeldScopes) (ts : List Lexeme) → BoundAt no_levels 0 room 0 ts (texts_at s ts)
unfolding texts_at
b_texts_at room s ts =
    forget (repeated is_text take_one s ts) (bound_count is_text take_one room 0 take_shrinks (λ s ts is.
    bound_take room 0 s ts) s ts)
  where
    forget : (r : Read (List ℕ)) → BoundAt (λ (xs : List ℕ). length xs) 0 room 0 ts r → BoundAt no_levels 0 room 0 ts r
    forget (Ok x) b = record { held = record { before = b.held.before; parts = b.held.parts; low = omega arith } }
    forget (Err e) b = record { held = b.held }

abbrev extension_reader : ℕ → Reader ℕ
extension_reader room s ts = fits 2 room ts (take_one s ts)

extension_shrinks : (room : ℕ) → Shrinks (extension_reader room)
extension_shrinks room s ts x e = take_shrinks s ts x (fits_ok 2 room ts e).1

pub b_extensions_at : (room : ℕ) (s : HeldScopes) (ts : List Lexeme) → BoundAt (λ (xs : List ℕ). length xs) 0 room 1 ts
    (extensions_at room s ts)
unfolding extensions_at
b_extensions_at room s ts =
    bound_count is_extension (extension_reader room) room 1 (extension_shrinks room)
    (λ s ts is.
    bound_fits token_levels 0 room 1 2 room ts (take_one s ts) (known_by is_extension refl (kind_at ts) is) (λ less.
    omega arith) (λ enough. bound_take room 1 s ts)) s ts

abbrev attr_reader : ℕ → Reader Attr
attr_reader room s ts = fits 2 room ts (attr_at s ts)

attr_shrinks : Shrinks attr_at
unfolding attr_at
attr_shrinks s ts x e =
    let a = bind_ok e in
    let g = bind_ok a.2 in
    let left : length g.0.rest ≡ length x.rest = ap (λ (y : Found Attr). length y.rest) (ok_is g.2) in
    omega (arith, token_falls is_attribute s ts a.0 a.1, group_shrinks a.0.scopes a.0.rest g.0 g.1, left)

attr_reader_shrinks : (room : ℕ) → Shrinks (attr_reader room)
attr_reader_shrinks room s ts x e = attr_shrinks s ts x (fits_ok 2 room ts e).1

pub attrs_low : (xs : List Attr) → attrs_height xs ≤ 1
attrs_low [] = omega arith
attrs_low (x ∷ xs) = omega arith

pub b_attrs_at : (room : ℕ) (s : HeldScopes) (ts : List Lexeme) → BoundAt attrs_height 1 room 1 ts (attrs_at room s ts)
unfolding attrs_at
b_attrs_at room s ts =
    forget (repeated is_attribute (attr_reader room) s ts)
    (bound_repeated is_attribute (attr_reader room) no_levels 0 room 1 (attr_reader_shrinks room) (omega arith)
    (λ s ts is. bound_fits no_levels 0 room 1 2 room ts (attr_at s ts) (known_by is_attribute refl (kind_at ts) is)
    (λ less. omega arith) (λ enough. bound_weaker no_levels 0 room 0 0 room 1 ts (attr_at s ts) (omega arith)
    (omega arith) (fewer_levels room ts (attr_at s ts) (b_attr_at room s ts)))) s ts)
  where
    forget : (r : Read (List Attr)) → BoundAt (most_of no_levels) 0 room 1 ts r → BoundAt attrs_height 1 room 1 ts r
    forget (Ok x) b = record {
      held = record {
        before = b.held.before;
        parts = b.held.parts;
        low = let few = attrs_low x.tree in
            omega arith;
      };
    }
    forget (Err e) b = record { held = b.held }

-- the words of a pointer are at most 1 high
pointer_words_low : (xs : List PointerWord) → pointer_words_height xs ≤ 1
pointer_words_low [] = omega arith
pointer_words_low (pointer_words.Qual q ∷ xs) = pointer_words_low xs
pointer_words_low (pointer_words.Attr a ∷ xs) = omega arith

pointer_word_bound : (room : ℕ) (s : HeldScopes) (ts : List Lexeme)
    → BoundAt no_levels 0 room 1 ts (pointer_word_at room s ts)
unfolding pointer_word_at
pointer_word_bound room s ts =
    bound_if no_levels 0 room 1 ts (is_attribute (kind_at ts))
    (fits 2 room ts (and_then (attr_at s ts) (λ attr. ends (pointer_words.Attr attr.tree) attr.scopes attr.rest)))
    (and_then (made_at qual_of s ts) (λ qual. ends (pointer_words.Qual qual.tree) qual.scopes qual.rest))
    (λ is. bound_fits no_levels 0 room 1 2 room ts (and_then (attr_at s ts)
    (λ attr. ends (pointer_words.Attr attr.tree) attr.scopes attr.rest)) (known_by is_attribute refl (kind_at ts) is)
    (λ less. omega arith) (λ enough. bound_bind no_levels (no_levels {A = PointerWord}) 0 0 room 1 ts (attr_at s ts)
    (λ attr. ends (pointer_words.Attr attr.tree) attr.scopes attr.rest) (bound_weaker no_levels 0 room 0 0 room 1 ts
    (attr_at s ts) (omega arith) (omega arith) (fewer_levels room ts (attr_at s ts) (b_attr_at room s ts)))
    (λ attr b1 e1 l1. bound_ends (no_levels {A = PointerWord}) (8 * length b1 + 0) room (8 * length b1 + 1)
    (pointer_words.Attr attr.tree) attr.scopes attr.rest (omega arith))))
    (λ is. bound_bind no_levels (no_levels {A = PointerWord}) 0 0 room 1 ts (made_at qual_of s ts)
    (λ qual. ends (pointer_words.Qual qual.tree) qual.scopes qual.rest) (bound_weaker no_levels 0 room 0 0 room 1 ts
    (made_at qual_of s ts) (omega arith) (omega arith) (bound_made qual_of room s ts)) (λ qual b1 e1 l1.
    bound_ends (no_levels {A = PointerWord}) (8 * length b1 + 0) room (8 * length b1 + 1)
    (pointer_words.Qual qual.tree) qual.scopes qual.rest (omega arith)))

pub b_pointer_words_at : (room : ℕ) (s : HeldScopes) (ts : List Lexeme)
    → BoundAt pointer_words_height 1 room 1 ts (pointer_words_at
    room s ts)
unfolding pointer_words_at
b_pointer_words_at room s ts =
    forget (repeated begins_pointer_word (pointer_word_at room) s ts)
    (bound_repeated begins_pointer_word (pointer_word_at room) no_levels 0 room 1 (pointer_word_shrinks [] room)
    (omega arith) (λ s ts is. pointer_word_bound room s ts) s ts)
  where
    forget : (r : Read (List PointerWord)) → BoundAt (most_of no_levels) 0 room 1 ts r
        → BoundAt pointer_words_height 1 room 1 ts r
    forget (Ok x) b = record {
      held = record {
        before = b.held.before;
        parts = b.held.parts;
        low = let few = pointer_words_low
            x.tree in omega arith;
      };
    }
    forget (Err e) b = record { held = b.held }

-- Lists of names.

-- the next name of a list leaves fewer tokens than it was given, or as many
next_falls : (name : Reader Identifier) → Shrinks name → (comma : ℕ) → Falls (next_name name comma)
next_falls name shrinks comma s ts x e =
    let a = bind_ok e in
    omega (arith, shrinks s ts a.0 a.1, ap (λ (x : Found (Next Identifier ⊥)). length x.rest) (ok_is a.2))

pub b_names_list : (name : Reader Identifier) → Shrinks name
    → ((room : ℕ) (s : HeldScopes) (ts : List Lexeme) → BoundAt token_levels 0 room 0 ts (name s ts)) →
    (room : ℕ) (s : HeldScopes) (ts : List Lexeme) → BoundAt no_levels 0 room 0 ts (names_list name s ts)
unfolding names_list
b_names_list name shrinks bound room s ts =
    bound_bind (list_height {E = ⊥} no_levels) _ (0) _ _ _ _ _ _
    (bound_listed name (next_name name) no_levels 0 room 0 (λ comma. next_falls name shrinks comma) (omega arith) s ts
    (fewer_levels room ts (name s ts) (bound room s ts))
    (λ comma s9 ts9. bound_bind token_levels _ (0) _ _ _ _ _ _ (bound room s9 ts9)
    (λ x b1 e1 l1. bound_ends _ _ _ _ _ _ _ (omega arith))))
    (λ xs b2 e2 l2. bound_ends _ _ _ _ _ _ _ (omega arith))

-- identifiers of a list, which are no names of typedefs
pub bound_identifier : (room : ℕ) (s : HeldScopes) (ts : List Lexeme)
    → BoundAt token_levels 0 room 0 ts (identifier_at s ts)
bound_identifier room s ts =
    bound_if token_levels 0 room 0 ts (is_identifier s (spelled_name (kind_at ts))) (name_at s ts)
    (refuses Unexpected ts) (λ is. bound_name room 0 s ts) (λ is. record { held = λ e. absurd cc })

pub name_shrinks : Shrinks name_at
name_shrinks s ts x e = let one = name_falls s ts x e in omega arith
