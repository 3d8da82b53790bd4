-- Steps that stand behind each other often: a part and the token that closes it, a choice whose branches take tokens,
-- and what of these takes tokens.
use Rattle.std.proofs.Common.{◌≡◌, ℕ, ◌<◌, ◌≤◌, Bool, true, false, if◌then◌else◌, List, length, inl, inr, refl, ◌∙◌, ap, arith}
use Rattle.std.specs.Prelude.{nat_le}
use Rattle.std.proofs.lemmas.Bool.{leb-true}
use Rattle.c_words.specs.declared.kinds.TokenKind.{TokenKind}
use Rattle.c_tree.specs.declared.lexeme.Lexeme.{Lexeme}
use Rattle.c_units.specs.HeldScopes.{HeldScopes}
use Rattle.c_reading.specs.declared.kinds.FaultKind.TheVariants.{TooDeep}
use Rattle.c_reading.specs.Reading.{Found, Read, Reader, ends, refuses, fits, kind_at, take_one, token_at}
use Rattle.c_reading.specs.Tokens.{is_end}
use Rattle.c_reading.proofs.Binding.{ok_is, bind_ok, take_falls, token_falls}
use Rattle.c_reading.proofs.Forms.{Falls, Shrinks}
use Rattle.reading_steps.specs.Steps.{first_kind, any, Good, Law}
use Rattle.reading_steps.proofs.Steps.{behind, good_as, if_good, bind_law, token_law}

-- What takes tokens.

pub ends_falls : {A : Type 0} (a : A) → Falls (ends a)
ends_falls a s ts x e =
    let same : length ts ≡ length x.rest = ap (λ (x : Found _). length x.rest) (ok_is e) in
    omega (arith, same)

-- two readers, one behind the other, leave no more tokens than they were given where each does so
pub behind_falls : {A B : Type 0} (a : Reader A) (f : A → Reader B) → Falls a → ((x : A) → Falls (f x))
    → Falls (behind a f)
behind_falls a f falls rest s ts y e =
    let b = bind_ok e in
    let one : length b.0.rest ≤ length ts = falls s ts b.0 b.1 in
    let two : length y.rest ≤ length b.0.rest = rest b.0.tree b.0.scopes b.0.rest y b.2 in
    omega (arith, one, two)

-- two readers, one behind the other, take a token where the first does and the second adds none
pub behind_shrinks : {A B : Type 0} (a : Reader A) (f : A → Reader B) → Shrinks a → ((x : A) → Falls (f x))
    → Shrinks (behind a f)
behind_shrinks a f shrinks rest s ts y e =
    let b = bind_ok e in
    let one : length b.0.rest < length ts = shrinks s ts b.0 b.1 in
    let two : length y.rest ≤ length b.0.rest = rest b.0.tree b.0.scopes b.0.rest y b.2 in
    omega (arith, one, two)

-- two readers, one behind the other, take a token where the first adds none and the second takes one
pub falls_shrinks : {A B : Type 0} (a : Reader A) (f : A → Reader B) → Falls a → ((x : A) → Shrinks (f x))
    → Shrinks (behind a f)
falls_shrinks a f falls rest s ts y e =
    let b = bind_ok e in
    let one : length b.0.rest ≤ length ts = falls s ts b.0 b.1 in
    let two : length y.rest < length b.0.rest = rest b.0.tree b.0.scopes b.0.rest y b.2 in
    omega (arith, one, two)

-- a part, the token that closes it, and what stands behind that
pub closed_falls : {A B : Type 0} (a : Reader A) (test : TokenKind → Bool) (f : A → ℕ → Reader B) → Falls a
    → ((x : A) (closing : ℕ) → Falls (f x closing)) → Falls (behind a (λ x. behind (token_at test) (f x)))
closed_falls a test f falls rest =
    behind_falls a (λ x. behind (token_at test) (f x)) falls
    (λ x. behind_falls (token_at test) (f x)
    (λ s ts y e. let one = token_falls test s ts y e in omega (arith, one)) (rest x))

-- a reader behind which a token closes, and then another that adds none, takes a token where the first does
pub closed_shrinks : {A B : Type 0} (a : Reader A) (test : TokenKind → Bool) (f : A → ℕ → Reader B) → Shrinks a
    → ((x : A) (closing : ℕ) → Falls (f x closing)) → Shrinks (behind a (λ x. behind (token_at test) (f x)))
closed_shrinks a test f shrinks rest =
    behind_shrinks a (λ x. behind (token_at test) (f x)) shrinks
    (λ x. behind_falls (token_at test) (f x)
    (λ s ts y e. let one = token_falls test s ts y e in omega (arith, one)) (rest x))

pub take_shrinks : Shrinks take_one
take_shrinks s ts x e = let one = take_falls s ts x e in omega (arith, one)

pub token_shrinks : (test : TokenKind → Bool) → Shrinks (token_at test)
token_shrinks test s ts x e = let one = token_falls test s ts x e in omega (arith, one)

-- where there is no room, the first token is refused
pub fits_not : {A : Type 0} (least room : ℕ) (ts : List Lexeme) (read : Read A) → room < least
    → fits least room ts read ≡ refuses TooDeep ts
unfolding fits
fits_not {A} least room ts read h = by_room (nat_le least room) refl
  where
    by_room : (b : Bool) → nat_le least room ≡ b → (if b then read else refuses TooDeep ts) ≡ refuses TooDeep ts
    by_room false is = refl
    by_room true is = let low : least ≤ room = leb-true least room is in absurd (omega (arith, h, low))

module _ (keep : Bool) where
  -- one reader that another one is at tokens that begin so, where the other takes tokens
  pub good_choice : {A : Type 0} (read other : Reader A) (stops : TokenKind → Bool) (s : HeldScopes) (ts : List Lexeme)
      → ((k : List Lexeme) → first_kind k ≡ first_kind ts → other s k ≡ read s k) → Shrinks other →
      Good keep read stops s ts → Good keep other stops s ts
  good_choice read other stops s ts same shrinks g =
      good_as keep read other stops s ts same (inl (λ x e. shrinks s ts x (same ts refl ∙ e))) g

  -- by a test of the first token, where both branches take tokens
  pub if_good_takes : {A : Type 0} (test : HeldScopes → TokenKind → Bool) (one two : Reader A)
      (stops : TokenKind → Bool) (s : HeldScopes) (ts : List Lexeme) →
      (test s (kind_at ts) ≡ true → Good keep one stops s ts) → (test s (kind_at ts) ≡ false → Good keep two stops s ts)
      → Shrinks (λ s ts. if test s (kind_at ts) then one s ts else two s ts) →
      Good keep (λ s ts. if test s (kind_at ts) then one s ts else two s ts) stops s ts
  if_good_takes test one two stops s ts g h shrinks =
      if_good keep test one two stops s ts g h (λ is. inl (λ x e. shrinks s ts x (rw is e)))
      (λ is. inl (λ x e. shrinks s ts x (rw is e)))

  -- a token, and what stands behind it
  pub token_then : {B : Type 0} (test : TokenKind → Bool) (kind : TokenKind) (front stops : TokenKind → Bool)
      (f : ℕ → Reader B)
      → test kind ≡ true → front kind ≡ true →
      ((kind : TokenKind) → test kind ≡ true → is_end kind ≡ false) → ((x : ℕ) → Law keep (f x) any stops)
      → Law keep (behind (token_at test) f) front stops
  token_then test kind front stops f is begun no_end lf =
      bind_law keep (token_at test) f front any stops (token_law keep test kind front no_end is begun) lf
      (inr (λ kind h. refl))

  -- a part, the token that closes it, and what stands behind that
  pub closed_law : {A B : Type 0} (a : Reader A) (test : TokenKind → Bool) (kind : TokenKind)
      (front stops : TokenKind → Bool) (f : A → ℕ → Reader B)
      → Law keep a front test → test kind ≡ true →
      ((kind : TokenKind) → test kind ≡ true → is_end kind ≡ false)
      → ((x : A) (closing : ℕ) → Law keep (f x closing) any stops) → ((x : A) (closing : ℕ) → Falls (f x closing)) →
      Law keep (behind a (λ x. behind (token_at test) (f x))) front stops
  closed_law a test kind front stops f la is no_end lf falls =
      bind_law keep a (λ x. behind (token_at test) (f x)) front test stops la
      (λ x. token_then test kind test stops (f x) is is no_end (lf x))
      (inl (λ x s ts y e. behind_shrinks (token_at test) (f x) (token_shrinks test) (falls x) s ts y e))
