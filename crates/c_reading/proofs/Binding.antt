-- What a reader that goes well did at each step.
use Rattle.std.proofs.Common.{◌≡◌, ℕ, suc, ◌<◌, ◌≤◌, Bool, true, false, if◌then◌else◌, List, [], ◌∷◌, length, Result, Ok, Err, refl, sym, ap, arith}
use Rattle.std.specs.Prelude.{nat_le}
use Rattle.std.proofs.lemmas.Bool.{leb-true, le-leb}
use Rattle.c_words.specs.declared.kinds.TokenKind.{TokenKind}
use Rattle.c_tree.specs.declared.lexeme.Lexeme.{Lexeme}
use Rattle.c_units.specs.HeldScopes.{HeldScopes}
use Rattle.c_reading.specs.declared.kinds.FaultKind.TheVariants.{Unexpected, TooDeep}
use Rattle.c_reading.specs.Reading.{Refusal, Found, Read, and_then, ends, fits, refuses, take_one, token_at}

-- what was read, of these scopes and tokens behind it
abbrev pub found : {A : Type 0} → A → HeldScopes → List Lexeme → Found A
found a s ts = record { tree = a; scopes = s; rest = ts }

abbrev pub done : {A : Type 0} → A → Result A Refusal
done x = Ok x

pub ok_is : {A : Type 0} {x y : A} → done x ≡ done y → x ≡ y
ok_is e = cc

-- the value of a step that did not fail
pub bind_ok : {A B : Type 0} {r : Result A Refusal} {f : A → Result B Refusal} {y : B} → and_then r f ≡ done y
    → (x : A) × (r ≡ done x) × (f x ≡ done y)
unfolding and_then
bind_ok {r = Ok x} {f = f} {y = y} e = (x, refl, e)
bind_ok {r = Err d} {f = f} {y = y} e = absurd cc

-- the same in a long chain of steps: what was read at each is a variable, so that terms stay short
pub bind_in : {A B P : Type 0} {r : Result A Refusal} {f : A → Result B Refusal} {y : B} → and_then r f ≡ done y
    → ((x : A) → r ≡ done x → f x ≡ done y → P) → P
bind_in e then_so = let b = bind_ok e in then_so b.0 b.1 b.2

-- a step that goes well goes on
pub bind_is : {A B : Type 0} {r : Result A Refusal} (f : A → Result B Refusal) {x : A} {y : Result B Refusal}
    → r ≡ done x → f x ≡ y → and_then r f ≡ y
unfolding and_then
bind_is f is e = rw is e

-- where there is room
pub fits_ok : {A : Type 0} (least room : ℕ) (ts : List Lexeme) {read : Read A} {x : Found A}
    → fits least room ts read ≡ done x → (least ≤ room) × (read ≡ done x)
unfolding fits
fits_ok least room ts {read = read} {x = x} e = by_room (nat_le least room) refl e
  where
    by_room : (b : Bool) → nat_le least room ≡ b → (if b then read else refuses TooDeep ts) ≡ done x
        → (least ≤ room) × (read ≡ done x)
    by_room true is e = (leb-true least room is, e)
    by_room false is e = absurd cc

pub fits_is : {A : Type 0} (least room : ℕ) (ts : List Lexeme) (read : Read A) → least ≤ room
    → fits least room ts read ≡ read
unfolding fits
fits_is least room ts read h = rw (le-leb least room h) refl

pub take_falls : (s : HeldScopes) (ts : List Lexeme) (x : Found ℕ) → take_one s ts ≡ done x
    → suc (length x.rest) ≡ length ts
take_falls s [] x e = absurd cc
take_falls s (t ∷ ts) x e = ap (λ (x : Found ℕ). suc (length x.rest)) (sym (ok_is e))

-- a reader of one token that passes a test leaves one token fewer
pub token_falls : (test : TokenKind → Bool) (s : HeldScopes) (ts : List Lexeme) (x : Found ℕ)
    → token_at test s ts ≡ done x → suc (length x.rest) ≡ length ts
token_falls test s [] x e = absurd cc
token_falls test s (t ∷ ts) x e = by_test (test t.kind) e
  where
    by_test : (b : Bool) → (if b then ends t.at s ts else refuses Unexpected (t ∷ ts)) ≡ done x
        → suc (length x.rest) ≡ length (t ∷ ts)
    by_test true e = ap (λ (x : Found ℕ). suc (length x.rest)) (sym (ok_is e))
    by_test false e = absurd cc

-- by a test
pub if_ok : {A P : Type 0} (b : Bool) {x y z : A} → (if b then x else y) ≡ z → (b ≡ true → x ≡ z → P)
    → (b ≡ false → y ≡ z → P) → P
if_ok true e yes_then no_then = yes_then refl e
if_ok false e yes_then no_then = no_then refl e

-- Long chains of steps, from the last step on: what is left at the end is less than before each step.
pub and_one : (a b c : ℕ) → a ≤ b → suc b ≡ c → a < c
and_one a b c h e = omega (arith, h, e)

pub and_fewer : (a b c : ℕ) → a ≤ b → b < c → a < c
and_fewer a b c h e = omega (arith, h, e)

pub then_one : (a b c : ℕ) → a < b → suc b ≡ c → a < c
then_one a b c h e = omega (arith, h, e)

pub then_fewer : (a b c : ℕ) → a < b → b < c → a < c
then_fewer a b c h e = omega (arith, h, e)

pub then_no_more : (a b c : ℕ) → a < b → b ≤ c → a < c
then_no_more a b c h e = omega (arith, h, e)
