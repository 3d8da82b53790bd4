-- Bounds of readers that are put together: one behind another, questions for room, loops, rows, lists with commas.
use Rattle.std.proofs.Common.{◌≡◌, ℕ, zero, suc, ◌+◌, ◌<◌, ◌≤◌, Bool, true, false, if◌then◌else◌, List, [], ◌∷◌, ◌++◌, length, Option, Some, None, Ok, Err, refl, sym, ◌∙◌, ap, subst, arith, append_assoc}
use Rattle.std.specs.Prelude.{◌*◌, ◌-◌, nat_le}
use Rattle.std.proofs.lemmas.Bool.{leb-true, leb-false}
use Rattle.c_words.specs.declared.kinds.TokenKind.{TokenKind}
use Rattle.c_words.specs.declared.kinds.TokenKind.TheVariants.{End}
use Rattle.c_reading.specs.Specifying.{without_body, declared}
use Rattle.c_tree.specs.declared.lexeme.Lexeme.{Lexeme}
use Rattle.c_syntax.specs.declared.parts.Identifier.{Identifier}
use Rattle.c_units.specs.HeldScopes.{HeldScopes}
use Rattle.c_reading.specs.declared.kinds.FaultKind.TheVariants.{Unexpected, TooDeep}
use Rattle.c_reading.specs.Reading.{Found, Read, Reader, Turn, and_then, ends, refuses, fits, number_at, kind_at, take_one, token_at, run, repeated, repeated_turn, listed, comma_turn, comma_turn_by, with_next, Next, one_more, list_end, CommaList, is_comma}
use Rattle.c_reading.specs.Tokens.{is_end, name_at, name_by, tag_at, tag_by, spelled_name, made_at, made_by}
use Rattle.c_reading.proofs.Binding.{done}
use Rattle.c_reading.proofs.Forms.{Falls, Shrinks}
use Rattle.c_reading.proofs.Loops.{TurnShrinks, run_is, after}
use Rattle.c_reading.proofs.Rows.{row_turn_shrinks}
use Rattle.c_reading.proofs.Commas.{comma_turn_shrinks}
use Rattle.deep_places.specs.Bounds.{DeepAt, BoundAt, StepAt, most_of}

pub length_both : (b c : List Lexeme) → length (b ++ c) ≡ length b + length c
length_both [] c = omega arith
length_both (t ∷ b) c = let rest = length_both b c in omega arith

-- nothing is taken
pub bound_ends : {A : Type 0} (height : A → ℕ) (c room d : ℕ) (a : A) (s : HeldScopes) (ts : List Lexeme) → height a ≤ c
    → BoundAt
    height c room d ts (ends a s ts)
bound_ends height c room d a s ts low = record { held = record { before = []; parts = refl; low = omega arith } }

-- bounds that are no better
pub bound_weaker : {A : Type 0} (height : A → ℕ) (c room d c2 room2 d2 : ℕ) (ts : List Lexeme) (r : Read A) → c ≤ c2
    → room2 + d ≤
    room + d2 → BoundAt height c room d ts r → BoundAt height c2 room2 d2 ts r
bound_weaker height c room d c2 room2 d2 ts (Ok x) more wide b =
    record { held = record { before = b.held.before; parts = b.held.parts; low = let l = b.held.low in omega arith } }
bound_weaker height c room d c2 room2 d2 ts (Err e) more wide b = record {
  held = λ is.
      let h = b.held is in
      record {
        before = h.before;
        first = h.first;
        rest = h.rest;
        parts = h.parts;
        place = h.place;
        deep = let l = h.deep in omega arith;
      };
}

-- one reader behind another
pub bound_bind : {A B : Type 0} (ha : A → ℕ) (height : B → ℕ) (ca c room d : ℕ) (ts : List Lexeme) (r : Read A)
    (f : Found A → Read
    B) → BoundAt ha ca room d ts r →
    ((x : Found A) (before : List Lexeme) → r ≡ done x → ha x.tree ≤ 8 * length before + ca
    → BoundAt height (8 * length before + c) room (8 * length before + d) x.rest (f x))
    → BoundAt height c room d ts (and_then r f)
unfolding and_then
bound_bind ha height ca c room d ts (Err e) f b next = record { held = b.held }
bound_bind {A} {B} ha height ca c room d ts (Ok x) f b next = by_next (f x) (next x b.held.before refl b.held.low)
  where
    by_next : (q : Read B) → BoundAt height (8 * length b.held.before + c) room (8 * length b.held.before + d) x.rest q
        → BoundAt
        height c room d ts q
    by_next (Ok y) h = record {
      held = record {
        before = b.held.before ++ h.held.before;
        parts = b.held.parts ∙ ap (λ (k : List Lexeme). b.held.before ++ k) h.held.parts
            ∙ sym (append_assoc b.held.before
            h.held.before y.rest);
        low = let l = h.held.low in let both = length_both b.held.before h.held.before in omega arith;
      };
    }
    by_next (Err e) h = record {
      held = λ is.
          let g = h.held is in
          record {
            before = b.held.before ++ g.before;
            first = g.first;
            rest = g.rest;
            parts = b.held.parts ∙ ap (λ (k : List Lexeme). b.held.before ++ k) g.parts
                ∙ sym (append_assoc b.held.before g.before
                (g.first ∷ g.rest));
            place = g.place;
            deep = let l = g.deep in let both = length_both b.held.before g.before in omega arith;
          };
    }

-- a question for room, at a token
pub bound_fits : {A : Type 0} (height : A → ℕ) (c room d least have : ℕ) (ts : List Lexeme) (r : Read A)
    → is_end (kind_at ts) ≡
    false → (have < least → room ≤ d) → (least ≤ have → BoundAt height c room d ts r) →
    BoundAt height c room d ts (fits least have ts r)
unfolding fits
bound_fits {A} height c room d least have ts r known deep g = by_room (nat_le least have) refl
  where
    refused : (ts : List Lexeme) → is_end (kind_at ts) ≡ false → have < least → DeepAt ts (number_at ts) room d
    refused [] known less = absurd cc
    refused (t ∷ ts) known less = record {
      before = [];
      first = t;
      rest = ts;
      parts = refl;
      place = refl;
      deep = let l = deep less
          in omega arith;
    }

    by_room : (b : Bool) → nat_le least have ≡ b → BoundAt height c room d ts (if b then r else refuses TooDeep ts)
    by_room true is = g (leb-true least have is)
    by_room false is = record { held = λ e. refused ts known (leb-false least have is) }

pub bound_if : {A : Type 0} (height : A → ℕ) (c room d : ℕ) (ts : List Lexeme) (b : Bool) (one two : Read A)
    → (b ≡ true → BoundAt
    height c room d ts one) → (b ≡ false → BoundAt height c room d ts two) →
    BoundAt height c room d ts (if b then one else two)
bound_if height c room d ts true one two g h = g refl
bound_if height c room d ts false one two g h = h refl

-- One token: at least eight levels of room.

abbrev pub token_levels : {A : Type 0} → A → ℕ
token_levels a = 8

abbrev pub no_levels : {A : Type 0} → A → ℕ
no_levels a = 0

pub bound_take : (room d : ℕ) (s : HeldScopes) (ts : List Lexeme) → BoundAt token_levels 0 room d ts (take_one s ts)
bound_take room d s [] = record { held = λ e. absurd cc }
bound_take room d s (t ∷ ts) = record { held = record { before = t ∷ []; parts = refl; low = omega arith } }

-- a token that passes a test is bounded by eight levels, and none is refused for the height
pub bound_token : (test : TokenKind → Bool) (room d : ℕ) (s : HeldScopes) (ts : List Lexeme)
    → BoundAt token_levels 0 room d ts
    (token_at test s ts)
bound_token test room d s [] = record { held = λ e. absurd cc }
bound_token test room d s (t ∷ ts) =
    bound_if token_levels 0 room d (t ∷ ts) (test t.kind) (ends t.at s ts) (refuses Unexpected (t ∷ ts)) (λ is. record {
      held =
          record { before = t ∷ []; parts = refl; low = omega arith };
    }) (λ is. record { held = λ e. absurd cc })

-- a name is bounded by eight levels, and none is refused for the height
pub bound_name : (room d : ℕ) (s : HeldScopes) (ts : List Lexeme) → BoundAt token_levels 0 room d ts (name_at s ts)
bound_name room d s [] = record { held = λ e. absurd cc }
bound_name room d s (t ∷ ts) = by_name (spelled_name t.kind)
  where
    by_name : (o : Option ℕ) → BoundAt token_levels 0 room d (t ∷ ts) (name_by o t s ts)
    by_name None = record { held = λ e. absurd cc }
    by_name (Some name) = record { held = record { before = t ∷ []; parts = refl; low = omega arith } }

-- a tag, which may be absent, has no height, and none is refused for the height
pub bound_tag : (room d : ℕ) (s : HeldScopes) (ts : List Lexeme) → BoundAt no_levels 0 room d ts (tag_at s ts)
bound_tag room d s [] = record { held = record { before = []; parts = refl; low = omega arith } }
bound_tag room d s (t ∷ ts) = by_name (spelled_name t.kind)
  where
    by_name : (o : Option ℕ) → BoundAt no_levels 0 room d (t ∷ ts) (tag_by o t s ts)
    by_name None = record { held = record { before = []; parts = refl; low = omega arith } }
    by_name (Some name) = record { held = record { before = t ∷ []; parts = refl; low = omega arith } }

-- Loops: a state that is low for what was taken before stays so.
module _ {S : Type 0} (turn : Turn S) (shrinks : TurnShrinks turn) (height : S → ℕ) (room more floor : ℕ)
    (step : (a : S) (s : HeldScopes) (ts : List Lexeme) (c : ℕ) → floor ≤ c → height a ≤ c
    → StepAt height c room (c + more) ts
    (turn a s ts)) where
  run_on : (n : ℕ) (a : S) (s : HeldScopes) (ts : List Lexeme) (c : ℕ) → length ts < n → floor ≤ c → height a ≤ c
      → BoundAt height c
      room (c + more) ts (run turn a s ts)
  run_on zero a s ts c less high low = absurd (omega (arith, less))
  run_on (suc n) a s ts c less high low =
      subst (BoundAt height c room (c + more) ts) (sym (run_is turn shrinks a s ts))
      (by_turn (λ a s ts c. run_on n a s ts c) (turn a s ts) refl (step a s ts c high low))
    where
      by_turn : ((a : S) (s : HeldScopes) (ts : List Lexeme) (c : ℕ) → length ts < n → floor ≤ c → height a ≤ c
          → BoundAt height c
          room (c + more) ts (run turn a s ts)) →
          (o : Option (Read S)) → turn a s ts ≡ o → StepAt height c room (c + more) ts o
          → BoundAt height c room (c + more) ts
          (after o a s ts (run turn))
      by_turn again None is h = bound_ends height c room (c + more) a s ts low
      by_turn again (Some read) is h =
          bound_bind height height c c room (c + more) ts read (λ x. run turn x.tree x.scopes x.rest) h
          (λ x before e l. let fewer : length x.rest < length ts = shrinks a s ts x (is ∙ ap Some e) in
          bound_weaker height (8 * length before + c) room (8 * length before + c + more) (8 * length before + c) room
          (8 * length before + (c + more)) x.rest (run turn x.tree x.scopes x.rest) (omega arith) (omega arith)
          (again x.tree x.scopes x.rest (8 * length before + c) (omega (arith, fewer, less)) (omega arith) l))

  pub bound_run : (a : S) (s : HeldScopes) (ts : List Lexeme) (c : ℕ) → floor ≤ c → height a ≤ c
      → BoundAt height c room (c + more)
      ts (run turn a s ts)
  bound_run a s ts c high low = run_on (suc (length ts)) a s ts c (omega arith) high low

-- Items one behind another.

most_push : {T : Type 0} (height : T → ℕ) (xs : List T) (x : T) (c : ℕ) → most_of height xs ≤ c → height x ≤ c
    → most_of height (xs
    ++ x ∷ []) ≤ c
most_push height [] x c h l = omega arith
most_push height (y ∷ xs) x c h l = let rest = most_push height xs x c (omega arith) l in omega arith

pub bound_repeated : {T : Type 0} (begins : TokenKind → Bool) (read : Reader T) (height : T → ℕ) (c room d : ℕ)
    → Shrinks read → c ≤ d →
    ((s : HeldScopes) (ts : List Lexeme) → begins (kind_at ts) ≡ true → BoundAt height c room d ts (read s ts))
    → (s : HeldScopes)
    (ts : List Lexeme) → BoundAt (most_of height) c room d ts (repeated begins read s ts)
unfolding repeated
bound_repeated {T} begins read height c room d shrinks less item s ts =
    bound_weaker (most_of height) c room (c + (d - c)) c room d ts (run (repeated_turn begins read) [] s ts)
    (omega arith) (omega arith)
    (bound_run (repeated_turn begins read) (row_turn_shrinks begins read shrinks) (most_of height) room
    (d - c) c step [] s ts c
    (omega arith) (omega arith))
  where
    step : (xs : List T) (s : HeldScopes) (ts : List Lexeme) (e : ℕ) → c ≤ e → most_of height xs ≤ e
        → StepAt (most_of height) e
        room (e + (d - c)) ts (repeated_turn begins read xs s ts)
    step xs s ts e high low = by_test (begins (kind_at ts)) refl
      where
        by_test : (b : Bool) → begins (kind_at ts) ≡ b
            → StepAt (most_of height) e room (e + (d - c)) ts (if b then Some (and_then
            (read s ts) (λ x. ends (xs ++ x.tree ∷ []) x.scopes x.rest)) else None)
        by_test false is = tt
        by_test true is =
            bound_bind height (most_of height) c e room (e + (d - c)) ts (read s ts)
            (λ x. ends (xs ++ x.tree ∷ []) x.scopes x.rest)
            (bound_weaker height c room d c room (e + (d - c)) ts (read s ts) (omega arith) (omega arith)
            (item s ts is))
            (λ x before is l.
            bound_ends (most_of height) (8 * length before + e) room (8 * length before + (e + (d - c))) (xs ++
            x.tree ∷ []) x.scopes x.rest
            (most_push height xs x.tree (8 * length before + e) (omega arith) (omega arith)))

-- Lists with commas.

-- with one token more before it
pub bound_front : {A : Type 0} (height : A → ℕ) (c room d : ℕ) (t : Lexeme) (ts : List Lexeme) (r : Read A)
    → BoundAt height c room
    d ts r → BoundAt height c room d (t ∷ ts) r
bound_front height c room d t ts (Ok x) b =
    record {
      held = record {
        before = t ∷ b.held.before;
        parts = ap (λ (k : List Lexeme). t ∷ k) b.held.parts;
        low = let l =
            b.held.low in omega arith;
      };
    }
bound_front height c room d t ts (Err e) b = record {
  held = λ is.
      let h = b.held is in
      record {
        before = t ∷ h.before;
        first = h.first;
        rest = h.rest;
        parts = ap (λ (k : List Lexeme). t ∷ k) h.parts;
        place =
            h.place;
        deep = let l = h.deep in omega arith;
      };
}

abbrev pub next_height : {T E : Type 0} → (T → ℕ) → Next T E → ℕ
next_height height (one_more x) = height x
next_height height (list_end e) = 0

abbrev pub list_height : {T E : Type 0} → (T → ℕ) → CommaList T E → ℕ
list_height height l = most_of height l.items

with_next_low : {T E : Type 0} (height : T → ℕ) (xs : List T) (y : Next T E) (c : ℕ) → most_of height xs ≤ c
    → next_height height y
    ≤ c → most_of height (with_next xs y).items ≤ c
with_next_low height xs (one_more x) c h l = most_push height xs x c h l
with_next_low height xs (list_end e) c h l = h

-- a list read on behind commas is bounded where its items so far and each next one are
pub bound_commas : {T E : Type 0} (next : ℕ → Reader (Next T E)) (height : T → ℕ) (c room d : ℕ)
    → ((comma : ℕ) → Falls (next
    comma)) → c ≤ d →
    ((comma : ℕ) (s : HeldScopes) (ts : List Lexeme) → BoundAt (next_height height) c room d ts (next comma s ts))
    → (l : CommaList T E) (s : HeldScopes) (ts : List Lexeme) (e : ℕ) → c ≤ e → most_of height l.items ≤ e →
    BoundAt (list_height height) e room (e + (d - c)) ts (run (comma_turn next) l s ts)
bound_commas {T} {E} next height c room d falls less item l s ts e high low =
    bound_run (comma_turn next) (comma_turn_shrinks (λ s ts. refuses Unexpected ts) next falls)
    (list_height height) room (d - c) c step l s ts e high low
  where
    one : (xs : List T) (comma : ℕ) (s : HeldScopes) (t : Lexeme) (ts : List Lexeme) (e : ℕ) → c ≤ e
        → most_of height xs ≤ e →
        BoundAt (list_height height) e room (e + (d - c)) (t ∷ ts)
        (and_then (next comma s ts) (λ x. ends (with_next xs x.tree) x.scopes x.rest))
    one xs comma s t ts e high low =
        bound_front (list_height height) e room (e + (d - c)) t ts
        (and_then (next comma s ts) (λ x. ends (with_next xs x.tree) x.scopes x.rest))
        (bound_bind (next_height height) (list_height height) c e room (e + (d - c)) ts (next comma s ts)
        (λ x. ends (with_next xs x.tree) x.scopes x.rest) (bound_weaker (next_height height) c room d c room
        (e + (d - c)) ts (next comma s ts) (omega arith) (omega arith) (item comma s ts)) (λ x before is l. bound_ends
        (list_height height) (8 * length before + e) room (8 * length before + (e + (d - c))) (with_next xs x.tree)
        x.scopes x.rest (with_next_low height xs x.tree (8 * length before + e) (omega arith) (omega arith))))

    step : (l : CommaList T E) (s : HeldScopes) (ts : List Lexeme) (e : ℕ) → c ≤ e → most_of height l.items ≤ e → StepAt
        (list_height height) e room (e + (d - c)) ts (comma_turn next l s ts)
    step l s ts e high low = by_ending l.ending ts
      where
        by_ending : (o : Option E) (ts : List Lexeme)
            → StepAt (list_height height) e room (e + (d - c)) ts (comma_turn_by next o
            l.items s ts)
        by_ending (Some x) ts = tt
        by_ending None [] = tt
        by_ending None (t ∷ ts) = by_comma (is_comma t.kind)
          where
            by_comma : (b : Bool)
                → StepAt (list_height height) e room (e + (d - c)) (t ∷ ts) (if b then Some (and_then (next t.at s
                ts) (λ x. ends (with_next l.items x.tree) x.scopes x.rest)) else None)
            by_comma false = tt
            by_comma true = one l.items t.at s t ts e high low

pub bound_listed : {T E : Type 0} (first : Reader T) (next : ℕ → Reader (Next T E)) (height : T → ℕ) (c room d : ℕ)
    → ((comma : ℕ) →
    Falls (next comma)) → c ≤ d → (s : HeldScopes) (ts : List Lexeme) → BoundAt height c room d ts (first s ts) →
    ((comma : ℕ) (s : HeldScopes) (ts : List Lexeme)
    → BoundAt (next_height height) c room d ts (next comma s ts)) → BoundAt
    (list_height height) c room d ts (listed first next s ts)
unfolding listed
bound_listed first next height c room d falls less s ts b item =
    bound_bind height (list_height height) c c room d ts (first s ts) (λ x. run (comma_turn next) (record {
      items = x.tree ∷ [];
      ending = None;
    }) x.scopes x.rest) b (λ x before is l. bound_weaker (list_height height) (8 * length before + c) room
    (8 * length before + c + (d - c)) (8 * length before + c) room (8 * length before + d) x.rest
    (run (comma_turn next) (record { items = x.tree ∷ []; ending = None }) x.scopes x.rest) (omega arith) (omega arith)
    (bound_commas next height c room d falls less item (record { items = x.tree ∷ []; ending = None }) x.scopes x.rest
    (8 * length before + c) (omega arith) (omega arith)))

-- A test that the end does not pass.

pub known_of : {A : Type 0} (f : TokenKind → A) (x : A) → f End ≡ x → (kind : TokenKind) → (f kind ≡ x → ⊥)
    → is_end kind ≡ false
known_of f x off End some = absurd (some off)
known_of f x off kind some = refl

pub known_by : (test : TokenKind → Bool) → test End ≡ false → (kind : TokenKind) → test kind ≡ true
    → is_end kind ≡ false
known_by test off kind is = known_of test false off kind (λ no. absurd cc)

-- items that take a token each
pub bound_count : {T : Type 0} (begins : TokenKind → Bool) (read : Reader T) (room d : ℕ) → Shrinks read →
    ((s : HeldScopes) (ts : List Lexeme) → begins (kind_at ts) ≡ true → BoundAt token_levels 0 room d ts (read s ts))
    → (s :
    HeldScopes) (ts : List Lexeme) → BoundAt (λ (xs : List T). length xs) 0 room d ts (repeated begins read s ts)
unfolding repeated
bound_count {T} begins read room d shrinks item s ts =
    bound_weaker (λ (xs : List T). length xs) 0 room (0 + d) 0 room d ts (run (repeated_turn begins read) [] s ts)
    (omega arith) (omega arith) (bound_run (repeated_turn begins read) (row_turn_shrinks begins read shrinks)
    (λ (xs : List T). length xs) room d 0 step [] s ts 0 (omega arith) (omega arith))
  where
    longer_by : (xs : List T) (x : T) → length (xs ++ x ∷ []) ≡ suc (length xs)
    longer_by [] x = refl
    longer_by (y ∷ xs) x = ap suc (longer_by xs x)

    step : (xs : List T) (s : HeldScopes) (ts : List Lexeme) (e : ℕ) → 0 ≤ e → length xs ≤ e
        → StepAt (λ (xs : List T). length xs) e
        room (e + d) ts (repeated_turn begins read xs s ts)
    step xs s ts e high low = by_test (begins (kind_at ts)) refl
      where
        by_test : (b : Bool) → begins (kind_at ts) ≡ b
            → StepAt (λ (xs : List T). length xs) e room (e + d) ts (if b then Some
            (and_then (read s ts) (λ x. ends (xs ++ x.tree ∷ []) x.scopes x.rest)) else None)
        by_test false is = tt
        by_test true is =
            bound_bind token_levels (λ (xs : List T). length xs) 0 e room (e + d) ts (read s ts)
            (λ x. ends (xs ++ x.tree ∷ []) x.scopes x.rest) (bound_weaker token_levels 0 room d 0 room (e + d) ts
            (read s ts) (omega arith) (omega arith) (item s ts is)) (λ x before is l.
            bound_ends (λ (xs : List T). length xs) (8 * length before + e) room (8 * length before + (e + d))
            (xs ++ x.tree ∷ []) x.scopes x.rest (let more = longer_by xs x.tree in omega arith))

pub bound_without : {A : Type 0} (height : A → ℕ) (c room d : ℕ) (tag : Option Identifier) (a : A)
    (s : HeldScopes) (ts : List
    Lexeme) → height a ≤ c → BoundAt height c room d ts (without_body tag a s ts)
bound_without height c room d None a s ts low = record { held = λ e. absurd cc }
bound_without height c room d (Some tag) a s ts low = bound_ends height c room d a s ts low

pub bound_declared : {A : Type 0} (height : A → ℕ) (c room d : ℕ) (a : A) (o : Option HeldScopes) (ts : List Lexeme)
    → height a ≤ c
    → BoundAt height c room d ts (declared a o ts)
bound_declared height c room d a None ts low = record { held = λ e. absurd cc }
bound_declared height c room d a (Some s) ts low = bound_ends height c room d a s ts low

-- rows of one token each are never too deep
pub bound_made : {A : Type 0} (of : TokenKind → Option (ℕ → A)) (room : ℕ) (s : HeldScopes) (ts : List Lexeme)
    → BoundAt no_levels 0
    room 0 ts (made_at of s ts)
bound_made of room s [] = record { held = λ e. absurd cc }
bound_made {A} of room s (t ∷ ts) = by_made (of t.kind)
  where
    by_made : (o : Option (ℕ → A)) → BoundAt no_levels 0 room 0 (t ∷ ts) (made_by o t s ts)
    by_made None = record { held = λ e. absurd cc }
    by_made (Some make) = record { held = record { before = t ∷ []; parts = refl; low = omega arith } }
