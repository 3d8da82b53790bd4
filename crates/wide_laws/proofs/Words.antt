-- Single tokens, rows of them and groups with more room.
use Rattle.std.proofs.Common.{◌≡◌, ℕ, ◌≤◌, Bool, true, false, if◌then◌else◌, List, [], ◌∷◌, Option, Some, None, inr}
use Rattle.c_words.specs.declared.kinds.TokenKind.{TokenKind}
use Rattle.c_tree.specs.declared.lexeme.Lexeme.{Lexeme}
use Rattle.c_units.specs.HeldScopes.{HeldScopes}
use Rattle.c_reading.specs.declared.kinds.FaultKind.TheVariants.{Unexpected}
use Rattle.c_reading.specs.declared.kinds.Inside.{Inside}
use Rattle.c_reading.specs.declared.kinds.Inside.TheVariants.{Opens, Closes, Plain, Stops}
use Rattle.c_reading.specs.declared.kinds.Bracket.{Bracket}
use Rattle.c_reading.specs.Reading.{Found, Read, and_then, ends, refuses, fits, kind_at, behind_first, take_one, token_at, run}
use Rattle.c_reading.specs.Tokens.{is_attribute, is_extension, is_text, is_static_assert, is_semicolon, is_open_paren, spelled_name, name_by, name_at, tag_by, tag_at, texts_at, extensions_at, made_by, made_at, qual_of, is_made, quals_at, array_word_of, array_words_at, asm_word_of, asm_words_at, inside_of, is_same, Opened, bracket_by, bracket_step, bracket_turn_by, bracket_turn, group_at, attr_at, attrs_at, pointer_word_at, begins_pointer_word, pointer_words_at, assert_at, word_qual_of, align_at}
use Rattle.wide_laws.specs.Wide.{Late, Both}
use Rattle.wide_laws.proofs.Both.{all_left, behind_left, late_bind, late_refused, late_if, late_take, late_repeated, both_same, both_then, both_fits, both_choice, both_run, BothTurn, both_repeated, ready, past_take}

-- a test of the next token is late
pub late_token : (test : TokenKind → Bool) (s : HeldScopes) (ts : List Lexeme) → Late ts (token_at test s ts)
late_token test s [] = inr (late_refused [])
late_token test s (t ∷ ts) =
    late_if (t ∷ ts) (test t.kind) _ _ (λ is. behind_left (t ∷ ts)) (λ is. inr (late_refused (t ∷ ts)))

-- a token that passes a test is taken
pub past_token : {A : Type 0} (test : TokenKind → Bool) (s : HeldScopes) (ts : List Lexeme) (f : Found ℕ → Read A)
    → test (kind_at ts) ≡ true → ((x : Found ℕ) → Late x.rest (f x))
    → Late (behind_first ts) (and_then (token_at test s ts) f)
unfolding and_then
past_token test s [] f is k = inr (late_refused [])
past_token {A} test s (t ∷ ts) f is k = by_test (test t.kind) is
  where
    by_test : (b : Bool) → b ≡ true → Late ts (and_then (if b then ends t.at s ts else refuses Unexpected (t ∷ ts)) f)
    by_test true h = k (record { tree = t.at; scopes = s; rest = ts })
    by_test false h = absurd cc

-- a name, read or refused, leaves or refuses one of the tokens given
pub late_name : (s : HeldScopes) (ts : List Lexeme) → Late ts (name_at s ts)
late_name s [] = inr (late_refused [])
late_name s (t ∷ ts) = by_name (spelled_name t.kind)
  where
    by_name : (o : Option ℕ) → Late (t ∷ ts) (name_by o t s ts)
    by_name None = inr (late_refused (t ∷ ts))
    by_name (Some name) = behind_left (t ∷ ts)

-- a tag, present, absent or refused, leaves or refuses one of the tokens given
pub late_tag : (s : HeldScopes) (ts : List Lexeme) → Late ts (tag_at s ts)
late_tag s [] = all_left []
late_tag s (t ∷ ts) = by_name (spelled_name t.kind)
  where
    by_name : (o : Option ℕ) → Late (t ∷ ts) (tag_by o t s ts)
    by_name None = all_left (t ∷ ts)
    by_name (Some name) = behind_left (t ∷ ts)

-- a token that makes something, read or refused, leaves or refuses one of the tokens given
late_made : {A : Type 0} (of : TokenKind → Option (ℕ → A)) (s : HeldScopes) (ts : List Lexeme)
    → Late ts (made_at of s ts)
late_made of s [] = inr (late_refused [])
late_made {A} of s (t ∷ ts) = by_made (of t.kind)
  where
    by_made : (o : Option (ℕ → A)) → Late (t ∷ ts) (made_by o t s ts)
    by_made None = inr (late_refused (t ∷ ts))
    by_made (Some make) = behind_left (t ∷ ts)

pub late_texts : (s : HeldScopes) (ts : List Lexeme) → Late ts (texts_at s ts)
unfolding texts_at
late_texts s ts = late_repeated is_text take_one late_take s ts

pub late_quals : (s : HeldScopes) (ts : List Lexeme) → Late ts (quals_at s ts)
unfolding quals_at
late_quals s ts =
    late_repeated (λ kind. is_made (word_qual_of kind)) (made_at word_qual_of) (late_made word_qual_of) s ts

pub late_array_words : (s : HeldScopes) (ts : List Lexeme) → Late ts (array_words_at s ts)
unfolding array_words_at
late_array_words s ts =
    late_repeated (λ kind. is_made (array_word_of kind)) (made_at array_word_of) (late_made array_word_of) s ts

pub late_asm_words : (s : HeldScopes) (ts : List Lexeme) → Late ts (asm_words_at s ts)
unfolding asm_words_at
late_asm_words s ts =
    late_repeated (λ kind. is_made (asm_word_of kind)) (made_at asm_word_of) (late_made asm_word_of) s ts

-- the loop over brackets, whether it ends or refuses, leaves or refuses one of the tokens given
late_brackets : (state : Opened) (s : HeldScopes) (ts : List Lexeme) → Late ts (run bracket_turn state s ts)
late_brackets state s ts =
    let both : Both ⊥ ⊥ ts (run bracket_turn state s ts) (run bracket_turn state s ts) =
    both_run bracket_turn bracket_turn turn state s ts in
    both.late
  where
    step : (b : Bracket) (bs : List Bracket) (s : HeldScopes) (ts : List Lexeme) → Late ts (bracket_step b bs s ts)
    step b bs s [] = inr (late_refused [])
    step b bs s (t ∷ ts) = by_inside (inside_of t.kind)
      where
        by_inside : (i : Inside) → Late (t ∷ ts) (bracket_by i b bs t s ts)
        by_inside (Opens other) = behind_left (t ∷ ts)
        by_inside (Closes other) =
            late_if (t ∷ ts) (is_same other b) _ _ (λ is. behind_left (t ∷ ts)) (λ is. inr (late_refused (t ∷ ts)))
        by_inside Plain = behind_left (t ∷ ts)
        by_inside Stops = inr (late_refused (t ∷ ts))

    turn : (state : Opened) (s : HeldScopes) (ts : List Lexeme)
        → BothTurn ⊥ ⊥ ts (bracket_turn state s ts) (bracket_turn state s ts)
    turn state s ts = by_brackets state.brackets
      where
        by_brackets : (bs : List Bracket) → BothTurn ⊥ ⊥ ts (bracket_turn_by bs s ts) (bracket_turn_by bs s ts)
        by_brackets [] = tt
        by_brackets (b ∷ bs) = both_same (bracket_step b bs s ts) (step b bs s ts)

pub late_group : (s : HeldScopes) (ts : List Lexeme) → Late ts (group_at s ts)
unfolding group_at
late_group s ts =
    late_bind ts _ _ (late_token is_open_paren s ts) (λ opening.
    late_bind opening.rest _ _ (late_brackets _ opening.scopes opening.rest) (λ inside. all_left inside.rest))

pub late_attr : (s : HeldScopes) (ts : List Lexeme) → Late ts (attr_at s ts)
unfolding attr_at
late_attr s ts =
    late_bind ts _ _ (late_token is_attribute s ts)
    (λ keyword. late_bind keyword.rest _ _ (late_group keyword.scopes keyword.rest) (λ group. all_left group.rest))

pub past_attr : (s : HeldScopes) (ts : List Lexeme) → is_attribute (kind_at ts) ≡ true
    → Late (behind_first ts) (attr_at s ts)
unfolding attr_at
past_attr s ts is =
    past_token is_attribute s ts _ is
    (λ keyword. late_bind keyword.rest _ _ (late_group keyword.scopes keyword.rest) (λ group. all_left group.rest))

pub late_align : (s : HeldScopes) (ts : List Lexeme) → Late ts (align_at s ts)
unfolding align_at
late_align s ts =
    late_bind ts _ _ (late_take s ts)
    (λ keyword. late_bind keyword.rest _ _ (late_group keyword.scopes keyword.rest) (λ group. all_left group.rest))

pub past_align : (s : HeldScopes) (ts : List Lexeme) → Late (behind_first ts) (align_at s ts)
unfolding align_at
past_align s ts =
    past_take s ts _
    (λ keyword. late_bind keyword.rest _ _ (late_group keyword.scopes keyword.rest) (λ group. all_left group.rest))

pub late_assert : (s : HeldScopes) (ts : List Lexeme) → Late ts (assert_at s ts)
unfolding assert_at
late_assert s ts =
    late_bind ts _ _ (late_token is_static_assert s ts)
    (λ keyword. late_bind keyword.rest _ _ (late_group keyword.scopes keyword.rest) (λ group.
    late_bind group.rest _ _ (late_token is_semicolon group.scopes group.rest) (λ semi. all_left semi.rest)))

pub past_assert : (s : HeldScopes) (ts : List Lexeme) → is_static_assert (kind_at ts) ≡ true
    → Late (behind_first ts) (assert_at s ts)
unfolding assert_at
past_assert s ts is =
    past_token is_static_assert s ts _ is
    (λ keyword. late_bind keyword.rest _ _ (late_group keyword.scopes keyword.rest) (λ group.
    late_bind group.rest _ _ (late_token is_semicolon group.scopes group.rest) (λ semi. all_left semi.rest)))

-- what a node of one level is made of an assertion
pub assert_both : {A S D : Type 0} (room wide : ℕ) (wider : room ≤ wide) (s : HeldScopes) (ts : List Lexeme)
    (f : Found _ → Read A)
    → is_static_assert (kind_at ts) ≡ true → ((x : Found _) → Late x.rest (f x)) →
    Both S D ts (fits 1 room ts (and_then (assert_at s ts) f)) (fits 1 wide ts (and_then (assert_at s ts) f))
assert_both room wide wider s ts f is k =
    both_fits 1 room wide ts _ _ wider (λ strict. late_bind (behind_first ts) _ _ (past_assert s ts is) k)
    (both_same _ (late_bind ts _ _ (late_assert s ts) k))

module _ {S D : Type 0} (room wide : ℕ) (wider : room ≤ wide) where
  pub attrs_both : (s : HeldScopes) (ts : List Lexeme) → Both S D ts (attrs_at room s ts) (attrs_at wide s ts)
  unfolding attrs_at
  attrs_both s ts =
      both_repeated is_attribute _ _
      (λ s ts is. both_fits 2 room wide ts _ _ wider (λ strict. past_attr s ts is) (both_same _ (late_attr s ts))) s ts

  pub exts_both : (s : HeldScopes) (ts : List Lexeme) → Both S D ts (extensions_at room s ts) (extensions_at wide s ts)
  unfolding extensions_at
  exts_both s ts =
      both_repeated is_extension _ _
      (λ s ts is. both_fits 2 room wide ts _ _ wider (λ strict. past_one s ts) (both_same _ (late_take s ts))) s ts
    where
      past_one : (s : HeldScopes) (ts : List Lexeme) → Late (behind_first ts) (take_one s ts)
      past_one s [] = inr (late_refused [])
      past_one s (t ∷ ts) = all_left ts

  pub pointer_words_both : (s : HeldScopes) (ts : List Lexeme)
      → Both S D ts (pointer_words_at room s ts) (pointer_words_at wide s ts)
  unfolding pointer_words_at pointer_word_at
  pointer_words_both s ts =
      both_repeated begins_pointer_word (pointer_word_at room) (pointer_word_at wide)
      (λ s ts begun. both_choice (is_attribute (kind_at ts)) _ _ _ _
      (λ is. both_fits 2 room wide ts _ _ wider (λ strict. late_bind (behind_first ts) _ _ (past_attr s ts is)
      (λ attr. all_left attr.rest)) (both_then _ _ _ (late_attr s ts) (λ attr. ready _)))
      (λ off. both_then _ _ _ (late_made qual_of s ts) (λ qual. ready _))) s ts
