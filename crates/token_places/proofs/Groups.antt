-- Groups in which brackets match, and what has one.
use Rattle.std.proofs.Common.{◌≡◌, ℕ, suc, Bool, true, false, List, [], ◌∷◌, ◌++◌, length, Some, None, ◌⊎◌, inl, inr, refl, sym, ◌∙◌, ap, arith}
use Rattle.c_words.specs.declared.kinds.TokenKind.{TokenKind}
use Rattle.c_words.specs.declared.kinds.TokenKind.TheVariants as kinds
use Rattle.c_words.specs.declared.kinds.Punct.{Punct}
use Rattle.c_words.specs.declared.kinds.Punct.TheVariants as puncts
use Rattle.c_words.specs.declared.kinds.Keyword.TheVariants as keywords
use Rattle.c_tree.specs.declared.lexeme.Lexeme.{Lexeme}
use Rattle.c_syntax.specs.declared.parts.Group.{Group}
use Rattle.c_units.specs.HeldScopes.{HeldScopes}
use Rattle.c_units.specs.Units.{numbered_from}
use Rattle.c_reading.specs.declared.kinds.FaultKind.TheVariants.{Unexpected}
use Rattle.c_reading.specs.declared.kinds.Bracket.{Bracket}
use Rattle.c_reading.specs.declared.kinds.Bracket.TheVariants.{Paren, Square, Brace}
use Rattle.c_reading.specs.declared.kinds.Inside.{Inside}
use Rattle.c_reading.specs.declared.kinds.Inside.TheVariants.{Opens, Closes, Plain, Stops}
use Rattle.c_reading.specs.Reading.{Found, Reader, ends, refuses, kind_at, token_at, run, and_then}
use Rattle.c_reading.specs.Tokens.{is_end, is_open_paren, is_attribute, is_static_assert, is_semicolon, inside_of, is_same, Opened, bracket_by, bracket_step, bracket_turn, bracket_turn_by, group_at, attr_at, align_at, assert_at}
use Rattle.c_reading.proofs.Binding.{done, ok_is}
use Rattle.c_reading.proofs.Loops.{run_is}
use Rattle.reading_steps.specs.Steps.{first_kind, any, Good, Ready, Law}
use Rattle.reading_steps.proofs.Keeping.{kept_refl}
use Rattle.reading_steps.proofs.Steps.{behind, refused_here, ends_good, ends_law, token_law, bind_law, take_behind, loop_law_good}
use Rattle.token_places.proofs.Single.{open_paren_end, attribute_end, static_assert_end, semicolon_end, one_good}
use Rattle.c_reading.proofs.Groups.{bracket_shrinks}

-- the punctuator that closes a bracket
abbrev pub closing_of : Bracket → Punct
closing_of Paren = puncts.CloseParen
closing_of Square = puncts.CloseBracket
closing_of Brace = puncts.CloseBrace

-- only the end stops a group
inside_end : (kind : TokenKind) (i : Inside) → inside_of kind ≡ i → (i ≡ Stops → ⊥) → is_end kind ≡ false
inside_end kinds.End i is h = absurd (h (sym is))
inside_end kind i is h = refl

abbrev state_of : List Bracket → ℕ → Opened
state_of bs last = record { brackets = bs; last = last }

module _ (keep : Bool) where
  -- a token inside brackets
  step_good : (b : Bracket) (bs : List Bracket) (s : HeldScopes) (ts : List Lexeme)
      → Good keep (bracket_step b bs) any s ts
  step_good b bs s [] = refused_here keep (bracket_step b bs) any s [] Unexpected is
    where
      is : (k : List Lexeme) → first_kind k ≡ None → bracket_step b bs s k ≡ refuses Unexpected k
      is [] e = refl
      is (t ∷ ts) e = absurd cc
  step_good b bs s (t ∷ ts) = by_inside (inside_of t.kind) refl
    where
      -- the same of each token of this kind
      refused : (i : Inside) → inside_of t.kind ≡ i
          → ((u : Lexeme) (us : List Lexeme) → bracket_by i b bs u s us ≡ refuses Unexpected (u ∷ us)) →
          (k : List Lexeme) → first_kind k ≡ Some t.kind → bracket_step b bs s k ≡ refuses Unexpected k
      refused i is all [] e = absurd cc
      refused i is all (u ∷ us) e =
          let same : u.kind ≡ t.kind = cc in
          ap (λ (i : Inside). bracket_by i b bs u s us) (ap inside_of same ∙ is) ∙ all u us

      taken : (i : Inside) → inside_of t.kind ≡ i → (i ≡ Stops → ⊥) → (state : Opened)
          → ((k : List Lexeme) → bracket_by i b bs t s k ≡ ends state s k)
          → Good keep (bracket_step b bs) any s (t ∷ ts)
      taken i is no_stop state all =
          one_good keep (bracket_step b bs) any s s t ts state (λ k. rw is (all k)) (inside_end t.kind i is no_stop)
          (kept_refl keep s)

      by_inside : (i : Inside) → inside_of t.kind ≡ i → Good keep (bracket_step b bs) any s (t ∷ ts)
      by_inside (Opens other) is = taken (Opens other) is (λ e. absurd cc) (state_of (other ∷ b ∷ bs) t.at) (λ k. refl)
      by_inside Plain is = taken Plain is (λ e. absurd cc) (state_of (b ∷ bs) t.at) (λ k. refl)
      by_inside Stops is =
          refused_here keep (bracket_step b bs) any s (t ∷ ts) Unexpected (refused Stops is (λ u us. refl))
      by_inside (Closes other) is = by_same (is_same other b) refl
        where
          by_same : (c : Bool) → is_same other b ≡ c → Good keep (bracket_step b bs) any s (t ∷ ts)
          by_same true same = taken (Closes other) is (λ e. absurd cc) (state_of bs t.at) (λ k. rw same refl)
          by_same false same =
              refused_here keep (bracket_step b bs) any s (t ∷ ts) Unexpected
              (refused (Closes other) is (λ u us. rw same refl))

  abbrev closed_group : ℕ → Opened → Reader Group
  closed_group first state = ends (record { first = first; last = state.last })

  -- what is open is closed, the innermost first
  closed_ready : (first : ℕ) (bs : List Bracket) (last : ℕ) (s : HeldScopes) (at : ℕ)
      → Ready keep (behind (run bracket_turn (state_of bs last)) (closed_group first)) any any s at
  unfolding and_then
  closed_ready first [] last s at = record {
    more = [];
    tree = record { first = first; last = last };
    scopes = s;
    keeps = kept_refl keep s;
    begins = λ k h. refl;
    reads = λ k h. rw (run_is bracket_turn bracket_shrinks (state_of [] last) s k) refl;
  }
  closed_ready first (b ∷ bs) last s at =
      let r = closed_ready first bs at s (suc at) in
      record {
        more = kinds.Punct (closing_of b) ∷ r.more;
        tree = r.tree;
        scopes = r.scopes;
        keeps = r.keeps;
        begins = λ k h. refl;
        reads = λ k h. closes b (numbered_from (suc at) r.more ++ k) ∙ r.reads k h;
      }
    where
      closes : (b : Bracket) (k : List Lexeme) → behind (run bracket_turn (state_of (b ∷ bs) last))
          (closed_group first) s (record { kind = kinds.Punct (closing_of b); at = at } ∷ k) ≡
          behind (run bracket_turn (state_of bs at)) (closed_group first) s k
      closes Paren k =
          rw (run_is bracket_turn bracket_shrinks (state_of (Paren ∷ bs) last) s
          (record { kind = kinds.Punct puncts.CloseParen; at = at } ∷ k)) refl
      closes Square k =
          rw (run_is bracket_turn bracket_shrinks (state_of (Square ∷ bs) last) s
          (record { kind = kinds.Punct puncts.CloseBracket; at = at } ∷ k)) refl
      closes Brace k =
          rw (run_is bracket_turn bracket_shrinks (state_of (Brace ∷ bs) last) s
          (record { kind = kinds.Punct puncts.CloseBrace; at = at } ∷ k)) refl

  closed_law : (first : ℕ) (state : Opened) → Law keep (behind (run bracket_turn state) (closed_group first)) any any
  closed_law first state = record {
    good = λ s ts.
        loop_law_good keep bracket_turn bracket_shrinks (closed_group first) (λ state s ts y e. let is =
        ap (λ (y : Found Group). length y.rest) (ok_is e) in omega (arith, is)) (λ state s. Unit {0}) any any
        (kinds.Punct puncts.Semicolon) refl (λ kind h. refl)
        (λ state s p at. closed_ready first state.brackets state.last s at)
        (λ state s ts p. step state.brackets state.last s ts) state s ts tt;
    ready = λ s at. closed_ready first state.brackets state.last s at;
  }
    where
      step : (bs : List Bracket) (last : ℕ) (s : HeldScopes) (ts : List Lexeme) →
          (((k : List Lexeme) → first_kind k ≡ first_kind ts ⊎ (any (kind_at k) ≡ true) → bracket_turn_by bs s k ≡ None)
          × Good keep (closed_group first (state_of bs last)) any s ts)
          ⊎ ((read : Reader Opened)
          × ((k : List Lexeme) → first_kind k ≡ first_kind ts → bracket_turn_by bs s k ≡ Some (read s k))
          × Good keep read any s ts × ((us : List Lexeme) (x : Found Opened) → read s us ≡ done x → Unit {0}))
      step [] last s ts = inl ((λ k h. refl), ends_good keep (record { first = first; last = last }) any s ts)
      step (b ∷ bs) last s ts = inr (bracket_step b bs, (λ k h. refl), step_good b bs s ts, (λ us x e. tt))

-- A group from a parenthesis to its own.
group_any : (keep : Bool) (front : TokenKind → Bool) → front (kinds.Punct puncts.OpenParen) ≡ true
    → Law keep group_at front any
unfolding group_at
group_any keep front opens =
    bind_law keep (token_at is_open_paren) (λ opening. behind (run bracket_turn (state_of (Paren ∷ []) opening))
    (λ state. ends (record { first = opening; last = state.last }))) front any any
    (token_law keep is_open_paren (kinds.Punct puncts.OpenParen) front open_paren_end refl opens)
    (λ opening. closed_law keep opening (state_of (Paren ∷ []) opening)) (inr (λ kind h. refl))

pub group_law : (keep : Bool) → Law keep group_at is_open_paren any
group_law keep = group_any keep is_open_paren refl

pub group_anywhere : (keep : Bool) → Law keep group_at any any
group_anywhere keep = group_any keep any refl

-- An attribute: its keyword and a group.
pub attr_law : (keep : Bool) → Law keep attr_at is_attribute any
unfolding attr_at
attr_law keep =
    bind_law keep (token_at is_attribute)
    (λ keyword. behind group_at (λ group. ends (record { keyword = keyword; group = group }))) is_attribute any any
    (token_law keep is_attribute (kinds.Keyword keywords.Attribute) is_attribute attribute_end refl refl)
    (λ keyword. bind_law keep group_at (λ group. ends (record { keyword = keyword; group = group })) any any any
    (group_anywhere keep)
    (λ group. ends_law keep (record { keyword = keyword; group = group }) any any (λ kind h. h)) (inr (λ kind h. h)))
    (inr (λ kind h. h))

-- An alignment, behind a keyword that is known to stand there: a group.
pub align_good : (keep : Bool) (s : HeldScopes) (ts : List Lexeme) → is_end (kind_at ts) ≡ false
    → Good keep align_at any s ts
unfolding align_at
align_good keep s ts known =
    take_behind keep (λ keyword. behind group_at (λ group. ends (record { keyword = keyword; group = group }))) any
    (λ keyword. bind_law keep group_at (λ group. ends (record { keyword = keyword; group = group })) any any any
    (group_anywhere keep) (λ group. ends_law keep (record { keyword = keyword; group = group }) any any (λ kind h. h))
    (inr (λ kind h. h))) s ts known

-- An assertion: its keyword, a group, a semicolon.
pub assert_law : (keep : Bool) → Law keep assert_at is_static_assert any
unfolding assert_at
assert_law keep =
    bind_law keep (token_at is_static_assert) (λ keyword. behind group_at (λ group. behind (token_at is_semicolon)
    (λ semi. ends (record { keyword = keyword; group = group; semi = semi })))) is_static_assert any any
    (token_law keep is_static_assert (kinds.Keyword keywords.StaticAssert) is_static_assert static_assert_end refl refl)
    (λ keyword. bind_law keep group_at (λ group. behind (token_at is_semicolon)
    (λ semi. ends (record { keyword = keyword; group = group; semi = semi }))) any any any (group_anywhere keep)
    (λ group. bind_law keep (token_at is_semicolon)
    (λ semi. ends (record { keyword = keyword; group = group; semi = semi })) any any any
    (token_law keep is_semicolon (kinds.Punct puncts.Semicolon) any semicolon_end refl refl)
    (λ semi. ends_law keep (record { keyword = keyword; group = group; semi = semi }) any any (λ kind h. h))
    (inr (λ kind h. h)))
    (inr (λ kind h. h)))
    (inr (λ kind h. h))
