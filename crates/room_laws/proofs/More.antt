-- With more room a reader answers the same, and refuses the same but for the height: one lemma for each way to put
-- readers together.
use Rattle.std.proofs.Common.{◌≡◌, ℕ, zero, suc, ◌≤◌, Bool, true, false, if◌then◌else◌, List, [], ◌∷◌, ◌++◌, length, inl, inr, Option, Some, None, Result, Ok, Err, refl, sym, ◌∙◌, subst, arith}
use Rattle.std.specs.Prelude.{nat_le}
use Rattle.std.proofs.lemmas.Bool.{leb-true, le-leb}
use Rattle.c_words.specs.declared.kinds.TokenKind.{TokenKind}
use Rattle.c_tree.specs.declared.lexeme.Lexeme.{Lexeme}
use Rattle.c_units.specs.HeldScopes.{HeldScopes}
use Rattle.c_reading.specs.declared.kinds.FaultKind.TheVariants.{TooDeep}
use Rattle.c_reading.specs.Reading.{Refusal, Found, Read, Reader, Turn, and_then, ends, fits, refuses, kind_at, turns, run, repeated, repeated_turn, listed, comma_turn, comma_turn_by, with_next, Next, CommaList, is_comma}
use Rattle.c_reading.proofs.Binding.{done, bind_ok, fits_ok}
use Rattle.c_reading.proofs.Loops.{run_is}
use Rattle.c_reading.proofs.Forms.{Shrinks}
use Rattle.c_reading.proofs.Rows.{row_turn_shrinks}
use Rattle.room_laws.specs.Rooms.{More}

pub more_same : {A : Type 0} (r : Result A Refusal) → More r r
more_same (Ok x) = refl
more_same (Err e) = inr refl

pub more_bind : {A B : Type 0} (r q : Result A Refusal) (f g : A → Result B Refusal) → More r q
    → ((x : A) → More (f x) (g x)) → More (and_then r f) (and_then q g)
unfolding and_then
more_bind (Ok x) q f g h m = subst (λ (q : Result _ Refusal). More (f x) (and_then q g)) (sym h) (m x)
more_bind (Err e) q f g (inl deep) m = inl deep
more_bind (Err e) q f g (inr is) m = inr (rw is refl)

pub more_fits : {A : Type 0} (least room wide : ℕ) (ts : List Lexeme) (r q : Read A) → room ≤ wide
    → (least ≤ room → More r q) → More (fits least room ts r) (fits least wide ts q)
unfolding fits
more_fits {A} least room wide ts r q less m = by_room (nat_le least room) refl
  where
    by_room : (b : Bool) → nat_le least room ≡ b
        → More (if b then r else refuses TooDeep ts) (if nat_le least wide then q else refuses TooDeep ts)
    by_room true is =
        let low : least ≤ room = leb-true least room is in
        let lower : least ≤ wide = omega arith in
        subst (λ (b : Bool). More r (if b then q else refuses TooDeep ts)) (sym (le-leb least wide lower)) (m low)
    by_room false is = inl refl

pub more_if : {A : Type 0} (b : Bool) (x y u v : Read A) → More x u → More y v
    → More (if b then x else y) (if b then u else v)
more_if true x y u v h k = h
more_if false x y u v h k = k

-- by a test that each side may use
pub more_choice : {A : Type 0} (b : Bool) (x y u v : Read A) → (b ≡ true → More x u) → (b ≡ false → More y v)
    → More (if b then x else y) (if b then u else v)
more_choice true x y u v h k = h refl
more_choice false x y u v h k = k refl

-- a row whose first token begins an item was read, so there was room for one
pub first_fits : {T : Type 0} (begins : TokenKind → Bool) (least room : ℕ) (read : Reader T) → Shrinks read
    → (s : HeldScopes) (ts : List Lexeme) (x : Found (List T)) → begins (kind_at ts) ≡ true →
    repeated begins (λ s ts. fits least room ts (read s ts)) s ts ≡ Ok x → least ≤ room
unfolding repeated
first_fits {T} begins least room read shrinks s ts x begun e = (fits_ok least room ts (bind_ok (bind_ok on).1).1).0
  where
    item : Reader T
    item s ts = fits least room ts (read s ts)

    item_shrinks : Shrinks item
    item_shrinks s ts x e = shrinks s ts x (fits_ok least room ts e).1

    on : and_then (and_then (item s ts) (λ x. ends ([] ++ x.tree ∷ []) x.scopes x.rest))
        (λ x. run (repeated_turn begins item) x.tree x.scopes x.rest) ≡ done x
    on = rw begun at (sym (run_is (repeated_turn begins item) (row_turn_shrinks begins item item_shrinks) [] s ts) ∙ e)

-- turns of two loops that go on alike
abbrev pub MoreTurn : {S : Type 0} → Option (Read S) → Option (Read S) → Type 0
MoreTurn None None = Unit {0}
MoreTurn (Some r) (Some q) = More r q
MoreTurn _ _ = ⊥

more_turns : {S : Type 0} (turn other : Turn S)
    → ((a : S) (s : HeldScopes) (ts : List Lexeme) → MoreTurn (turn a s ts) (other a s ts))
    → (n : ℕ) (a : S) (s : HeldScopes) (ts : List Lexeme) →
    More (turns turn n a s ts) (turns other n a s ts)
unfolding turns
more_turns turn other m zero a s ts = refl
more_turns {S} turn other m (suc n) a s ts =
    by_turn (λ a s ts. more_turns turn other m n a s ts) (turn a s ts) (other a s ts) (m a s ts)
  where
    by_turn : ((a : S) (s : HeldScopes) (ts : List Lexeme) → More (turns turn n a s ts) (turns other n a s ts))
        → (r q : Option (Read S)) → MoreTurn r q →
        More (elim r [ None ↦ ends a s ts | Some read ↦ and_then read (λ x. turns turn n x.tree x.scopes x.rest) ])
        (elim q [ None ↦ ends a s ts | Some read ↦ and_then read (λ x. turns other n x.tree x.scopes x.rest) ])
    by_turn again None None h = refl
    by_turn again (Some r) (Some q) h =
        more_bind r q (λ x. turns turn n x.tree x.scopes x.rest) (λ x. turns other n x.tree x.scopes x.rest) h
        (λ x. again x.tree x.scopes x.rest)
    by_turn again None (Some q) h = absurd h
    by_turn again (Some r) None h = absurd h

pub more_run : {S : Type 0} (turn other : Turn S)
    → ((a : S) (s : HeldScopes) (ts : List Lexeme) → MoreTurn (turn a s ts) (other a s ts))
    → (a : S) (s : HeldScopes) (ts : List Lexeme) → More (run turn a s ts) (run other a s ts)
unfolding run
more_run turn other m a s ts = more_turns turn other m (suc (length ts)) a s ts

pub more_guarded : {S : Type 0} (b : Bool) (r q : Read S) → More r q
    → MoreTurn (if b then Some r else None) (if b then Some q else None)
more_guarded true r q h = h
more_guarded false r q h = tt

-- a test that ends a loop
pub more_unless : {S : Type 0} (b : Bool) (r q : Option (Read S)) → MoreTurn r q
    → MoreTurn (if b then None else r) (if b then None else q)
more_unless true r q h = tt
more_unless false r q h = h

pub more_repeated : {T : Type 0} (begins : TokenKind → Bool) (read other : Reader T)
    → ((s : HeldScopes) (ts : List Lexeme) → More (read s ts) (other s ts)) → (s : HeldScopes) (ts : List Lexeme) →
    More (repeated begins read s ts) (repeated begins other s ts)
unfolding repeated
more_repeated begins read other m s ts =
    more_run (repeated_turn begins read) (repeated_turn begins other) (λ xs s ts. more_guarded (begins (kind_at ts)) _ _
    (more_bind (read s ts) (other s ts) (λ x. ends (xs ++ x.tree ∷ []) x.scopes x.rest)
    (λ x. ends (xs ++ x.tree ∷ []) x.scopes x.rest) (m s ts) (λ x. refl))) [] s ts

-- lists with commas
pub more_listed : {T E : Type 0} (first other : Reader T) (next others : ℕ → Reader (Next T E))
    → (s : HeldScopes) (ts : List Lexeme) → More (first s ts) (other s ts) →
    ((x : Found T) → first s ts ≡ Ok x → (comma : ℕ) (s : HeldScopes) (ts : List Lexeme)
    → More (next comma s ts) (others comma s ts))
    → More (listed first next s ts) (listed other others s ts)
unfolding listed and_then
more_listed {T} {E} first other next others s ts m ms = by_first (first s ts) (other s ts) m refl
  where
    turn_more : ((comma : ℕ) (s : HeldScopes) (ts : List Lexeme) → More (next comma s ts) (others comma s ts))
        → (a : CommaList T E) (s : HeldScopes) (ts : List Lexeme)
        → MoreTurn (comma_turn next a s ts) (comma_turn others a s ts)
    turn_more ms a s ts = by_ending a.ending ts
      where
        by_ending : (o : Option E) (ts : List Lexeme)
            → MoreTurn (comma_turn_by next o a.items s ts) (comma_turn_by others o a.items s ts)
        by_ending (Some e) ts = tt
        by_ending None [] = tt
        by_ending None (t ∷ ts) =
            more_guarded (is_comma t.kind) _ _
            (more_bind (next t.at s ts) (others t.at s ts) (λ x. ends (with_next a.items x.tree) x.scopes x.rest)
            (λ x. ends (with_next a.items x.tree) x.scopes x.rest) (ms t.at s ts) (λ x. refl))

    by_first : (r q : Read T) → More r q → first s ts ≡ r →
        More (and_then r (λ x. run (comma_turn next) (record { items = x.tree ∷ []; ending = None }) x.scopes x.rest))
        (and_then q (λ x. run (comma_turn others) (record { items = x.tree ∷ []; ending = None }) x.scopes x.rest))
    by_first (Ok x) q h is =
        subst (λ (q : Read T). More
        (run (comma_turn next) (record { items = x.tree ∷ []; ending = None }) x.scopes x.rest) (and_then q
        (λ x. run (comma_turn others) (record { items = x.tree ∷ []; ending = None }) x.scopes x.rest))) (sym h)
        (more_run (comma_turn next) (comma_turn others) (turn_more (ms x is))
        (record { items = x.tree ∷ []; ending = None }) x.scopes x.rest)
    by_first (Err e) q (inl deep) is = inl deep
    by_first (Err e) q (inr same) is = inr (rw same refl)

-- behind a first part that answered
pub more_behind : {A B : Type 0} (r q : Result A Refusal) (f g : A → Result B Refusal) → More r q
    → ((x : A) → r ≡ Ok x → More (f x) (g x)) → More (and_then r f) (and_then q g)
unfolding and_then
more_behind (Ok x) q f g h m = subst (λ (q : Result _ Refusal). More (f x) (and_then q g)) (sym h) (m x refl)
more_behind (Err e) q f g (inl deep) m = inl deep
more_behind (Err e) q f g (inr is) m = inr (rw is refl)
