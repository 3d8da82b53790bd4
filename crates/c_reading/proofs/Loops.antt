-- What a loop keeps, and its one equation.
use Rattle.std.proofs.Common.{◌≡◌, ℕ, zero, suc, ◌<◌, List, length, Option, Some, None, Ok, Err, refl, sym, ◌∙◌, subst, arith}
use Rattle.c_tree.specs.declared.lexeme.Lexeme.{Lexeme}
use Rattle.c_units.specs.HeldScopes.{HeldScopes}
use Rattle.c_reading.specs.Reading.{Found, Read, Turn, turns, run, and_then, ends}
use Rattle.c_reading.proofs.Binding.{found, done, ok_is}

-- what one turn does
abbrev pub after : {S : Type 0} → Option (Read S) → S → HeldScopes → List Lexeme
    → (S → HeldScopes → List Lexeme → Read S) → Read S
after None a s ts next = ends a s ts
after (Some read) a s ts next = and_then read (λ x. next x.tree x.scopes x.rest)

module _ {S : Type 0} (turn : Turn S) where
  turns-suc : (n : ℕ) (a : S) (s : HeldScopes) (ts : List Lexeme)
      → turns turn (suc n) a s ts ≡ after (turn a s ts) a s ts (turns turn n)
  unfolding turns
  turns-suc n a s ts = by_turn (turn a s ts)
    where
      by_turn : (r : Option (Read S))
          → (elim r [ None ↦ ends a s ts | Some read ↦ and_then read (λ x. turns turn n x.tree x.scopes x.rest) ])
          ≡ after r a s ts (turns turn n)
      by_turn None = refl
      by_turn (Some read) = refl

  -- each turn takes a token
  abbrev pub TurnShrinks : Type 0
  TurnShrinks =
      (a : S) (s : HeldScopes) (ts : List Lexeme) (x : Found S) → turn a s ts ≡ Some (done x)
      → length x.rest < length ts

  turns-enough : TurnShrinks → (n m : ℕ) (a : S) (s : HeldScopes) (ts : List Lexeme) → length ts < n → length ts < m
      → turns turn n a s ts ≡ turns turn m a s ts
  unfolding and_then
  turns-enough shrinks zero m a s ts p q = absurd (omega arith)
  turns-enough shrinks (suc n) zero a s ts p q = absurd (omega arith)
  turns-enough shrinks (suc n) (suc m) a s ts p q =
      rw (turns-suc n a s ts, turns-suc m a s ts)
      (by_turn (λ a s ts. turns-enough shrinks n m a s ts) (turn a s ts) refl)
    where
      by_turn : ((a : S) (s : HeldScopes) (ts : List Lexeme) → length ts < n → length ts < m
          → turns turn n a s ts ≡ turns turn m a s ts) →
          (r : Option (Read S)) → turn a s ts ≡ r → after r a s ts (turns turn n) ≡ after r a s ts (turns turn m)
      by_turn again None is = refl
      by_turn again (Some (Err f)) is = refl
      by_turn again (Some (Ok x)) is =
          let less : length x.rest < length ts = shrinks a s ts x is in
          again x.tree x.scopes x.rest (omega arith) (omega arith)

  pub run_is : TurnShrinks → (a : S) (s : HeldScopes) (ts : List Lexeme)
      → run turn a s ts ≡ after (turn a s ts) a s ts (run turn)
  unfolding run and_then
  run_is shrinks a s ts = rw (turns-suc (length ts) a s ts) (by_turn (turn a s ts) refl)
    where
      by_turn : (r : Option (Read S)) → turn a s ts ≡ r
          → after r a s ts (turns turn (length ts)) ≡ after r a s ts (λ a s ts. turns turn (suc (length ts)) a s ts)
      by_turn None is = refl
      by_turn (Some (Err f)) is = refl
      by_turn (Some (Ok x)) is =
          let less : length x.rest < length ts = shrinks a s ts x is in
          turns-enough shrinks (length ts) (suc (length x.rest)) x.tree x.scopes x.rest (omega arith) (omega arith)

  -- what each turn keeps holds at the end
  turns-keep : (P : S → HeldScopes → List Lexeme → Type 0) →
      ((a : S) (s : HeldScopes) (ts : List Lexeme) (x : Found S) → P a s ts → turn a s ts ≡ Some (done x)
      → P x.tree x.scopes x.rest) →
      (n : ℕ) (a : S) (s : HeldScopes) (ts : List Lexeme) (y : Found S) → P a s ts → turns turn n a s ts ≡ done y
      → P y.tree y.scopes y.rest
  unfolding turns and_then
  turns-keep P keeps zero a s ts y p e = subst (λ (z : Found S). P z.tree z.scopes z.rest) (ok_is e) p
  turns-keep P keeps (suc n) a s ts y p e =
      by_turn (λ a s ts. turns-keep P keeps n a s ts y) (turn a s ts) refl (sym (turns-suc n a s ts) ∙ e)
    where
      by_turn : ((a : S) (s : HeldScopes) (ts : List Lexeme) → P a s ts → turns turn n a s ts ≡ done y
          → P y.tree y.scopes y.rest) →
          (r : Option (Read S)) → turn a s ts ≡ r → after r a s ts (turns turn n) ≡ done y → P y.tree y.scopes y.rest
      by_turn again None is e = subst (λ (z : Found S). P z.tree z.scopes z.rest) (ok_is e) p
      by_turn again (Some (Err f)) is e = absurd cc
      by_turn again (Some (Ok x)) is e = again x.tree x.scopes x.rest (keeps a s ts x p is) e

  pub run-keep : (P : S → HeldScopes → List Lexeme → Type 0) →
      ((a : S) (s : HeldScopes) (ts : List Lexeme) (x : Found S) → P a s ts → turn a s ts ≡ Some (done x)
      → P x.tree x.scopes x.rest) →
      (a : S) (s : HeldScopes) (ts : List Lexeme) (y : Found S) → P a s ts → run turn a s ts ≡ done y
      → P y.tree y.scopes y.rest
  unfolding run
  run-keep P keeps a s ts y p e = turns-keep P keeps (suc (length ts)) a s ts y p e

  -- where a loop ends, a turn reads nothing
  turns-stop : TurnShrinks → (n : ℕ) (a : S) (s : HeldScopes) (ts : List Lexeme) (y : Found S) → length ts < n
      → turns turn n a s ts ≡ done y → turn y.tree y.scopes y.rest ≡ None
  unfolding turns and_then
  turns-stop shrinks zero a s ts y less e = absurd (omega arith)
  turns-stop shrinks (suc n) a s ts y lower e =
      by_turn (λ a s ts. turns-stop shrinks n a s ts y) (turn a s ts) refl (sym (turns-suc n a s ts) ∙ e)
    where
      by_turn : ((a : S) (s : HeldScopes) (ts : List Lexeme) → length ts < n → turns turn n a s ts ≡ done y
          → turn y.tree y.scopes y.rest ≡ None) →
          (r : Option (Read S)) → turn a s ts ≡ r → after r a s ts (turns turn n) ≡ done y
          → turn y.tree y.scopes y.rest ≡ None
      by_turn again None is e = subst (λ (z : Found S). turn z.tree z.scopes z.rest ≡ None) (ok_is e) is
      by_turn again (Some (Err f)) is e = absurd cc
      by_turn again (Some (Ok x)) is e =
          let less : length x.rest < length ts = shrinks a s ts x is in
          again x.tree x.scopes x.rest (omega (arith, less, lower)) e

  pub run_stops : TurnShrinks → (a : S) (s : HeldScopes) (ts : List Lexeme) (y : Found S) → run turn a s ts ≡ done y
      → turn y.tree y.scopes y.rest ≡ None
  unfolding run
  run_stops shrinks a s ts y e = turns-stop shrinks (suc (length ts)) a s ts y (omega arith) e

  -- a turn that goes well, and the end of a loop
  pub run_on : TurnShrinks → (a : S) (s : HeldScopes) (ts : List Lexeme) (x : Found S) → turn a s ts ≡ Some (done x)
      → run turn a s ts ≡ run turn x.tree x.scopes x.rest
  unfolding and_then
  run_on shrinks a s ts x is = run_is shrinks a s ts ∙ rw is refl

  pub run_ends : TurnShrinks → (a : S) (s : HeldScopes) (ts : List Lexeme) → turn a s ts ≡ None
      → run turn a s ts ≡ done (found a s ts)
  run_ends shrinks a s ts is = run_is shrinks a s ts ∙ rw is refl
