-- With more room a reader goes on where one with less is refused for the height: one lemma for each way to put readers
-- together.
use Rattle.std.proofs.Common.{◌≡◌, ℕ, zero, suc, ◌≤◌, Bool, true, false, if◌then◌else◌, List, [], ◌∷◌, ◌++◌, length, inl, inr, Option, Some, None, Ok, Err, refl, sym, ◌∙◌, ap, subst, arith}
use Rattle.std.specs.Prelude.{nat_le}
use Rattle.std.proofs.lemmas.Bool.{leb-true, le-leb}
use Rattle.c_words.specs.declared.kinds.TokenKind.{TokenKind}
use Rattle.c_tree.specs.declared.lexeme.Lexeme.{Lexeme}
use Rattle.c_units.specs.HeldScopes.{HeldScopes}
use Rattle.c_reading.specs.declared.kinds.FaultKind.{FaultKind}
use Rattle.c_reading.specs.declared.kinds.FaultKind.TheVariants.{TooDeep}
use Rattle.c_reading.specs.Reading.{Found, Read, Reader, Turn, and_then, ends, fits, refuses, kind_at, behind_first, number_at, take_one, turns, run, repeated, repeated_turn, listed, comma_turn, comma_turn_by, with_next, Next, CommaList, is_comma}
use Rattle.wide_laws.specs.Wide.{Leaves, IsAmong, Late, Passes, BothOf, Both, Ahead}

joined : (a b c : List Lexeme) → a ++ (b ++ c) ≡ (a ++ b) ++ c
joined [] b c = refl
joined (t ∷ a) b c = ap (λ (us : List Lexeme). t ∷ us) (joined a b c)

pub leaves_leaves : {ts us vs : List Lexeme} → Leaves ts us → Leaves us vs → Leaves ts vs
leaves_leaves {ts} {us} {vs} a b = (a.0 ++ b.0, a.1 ∙ ap (λ (us : List Lexeme). a.0 ++ us) b.1 ∙ joined a.0 b.0 vs)

pub all_left : (ts : List Lexeme) → Leaves ts ts
all_left ts = ([], refl)

-- behind the first token, or nothing behind none
pub behind_left : (ts : List Lexeme) → Leaves ts (behind_first ts)
behind_left [] = ([], refl)
behind_left (t ∷ ts) = (t ∷ [], refl)

-- an answer that is late among the rest of some tokens is late among all of them
pub late_down : {A : Type 0} {ts us : List Lexeme} → Leaves ts us → (q : Read A) → Late us q → Late ts q
late_down h (Ok y) l = leaves_leaves h l
late_down h (Err d) (inl deep) = inl deep
late_down h (Err d) (inr at) = inr (at.0, (leaves_leaves h at.1.0, at.1.1))

pub late_bind : {A B : Type 0} (ts : List Lexeme) (r : Read A) (f : Found A → Read B) → Late ts r
    → ((x : Found A) → Late x.rest (f x)) → Late ts (and_then r f)
unfolding and_then
late_bind ts (Ok x) f h k = late_down h (f x) (k x)
late_bind ts (Err (fault, at)) f h k = h

-- answers that agree, or of which the second goes on deeper, among the rest of some tokens do so among all of them
passes_down : {A : Type 0} {ts us : List Lexeme} → Leaves ts us → (r q : Read A) → Passes us r q → Passes ts r q
passes_down h (Ok x) q p = p
passes_down h (Err e) q (inl p) = inl p
passes_down h (Err e) q (inr p) = inr (record { at = p.at; left = leaves_leaves h p.left; is = p.is; late = p.late })

pub passes_same : {A : Type 0} (ts : List Lexeme) (r : Read A) → Passes ts r r
passes_same ts (Ok x) = refl
passes_same ts (Err e) = inl refl

-- a reader that has no room to look at
pub both_same : {A S D : Type 0} {ts : List Lexeme} (r : Read A) → Late ts r → Both S D ts r r
both_same {ts = ts} r h = record { late = h; pass = λ s d. passes_same ts r }

pub ready : {A S D : Type 0} (x : Found A) → Both S D x.rest (Ok x) (Ok x)
ready x = record { late = all_left x.rest; pass = λ s d. refl }

pub refused : {A S D : Type 0} (fault : FaultKind) (ts : List Lexeme)
    → BothOf A S D ts (Err (fault, number_at ts)) (Err (fault, number_at ts))
refused fault ts = record { late = inr (ts, (all_left ts, refl)); pass = λ s d. inl refl }

pub late_refused : (ts : List Lexeme) → IsAmong ts (number_at ts)
late_refused ts = (ts, (all_left ts, refl))

pub when : {A S D E : Type 0} {ts : List Lexeme} {r q : Read A} → (D → E) → Both S E ts r q → Both S D ts r q
when f h = record { late = h.late; pass = λ s d. h.pass s (f d) }

-- behind a first part that answered
pub both_behind : {A B S D : Type 0} {ts : List Lexeme} (r q : Read A) (f g : Found A → Read B) → Both S D ts r q
    → ((x : Found A) → Both S (D × (r ≡ Ok x)) x.rest (f x) (g x)) → Both S D ts (and_then r f) (and_then q g)
unfolding and_then
both_behind {A} {B} {S} {D} {ts} r q f g h k = record {
  late = late_bind ts q g h.late (λ x. (k x).late);
  pass = λ s d. by_narrow r q h.late (h.pass s d) (λ x is. (k x).pass s (d, is)) (λ x. (k x).late);
}
  where
    by_narrow : (r q : Read A) → Late ts q → Passes ts r q → ((x : Found A) → r ≡ Ok x → Passes x.rest (f x) (g x))
        → ((x : Found A) → Late x.rest (g x)) → Passes ts (and_then r f) (and_then q g)
    by_narrow (Ok x) q l is p k =
        let left : Leaves ts x.rest = subst (λ (q : Read A). Late ts q) is l in
        subst (λ (q : Read A). Passes ts (f x) (and_then q g)) (sym is) (passes_down left (f x) (g x) (p x refl))
    by_narrow (Err e) q l (inl same) p k = inl (rw same refl)
    by_narrow (Err e) q l (inr deep) p k = inr (record {
      at = deep.at;
      left = deep.left;
      is = deep.is;
      late = late_bind (behind_first deep.at) q g deep.late k;
    })

pub both_bind : {A B S D : Type 0} {ts : List Lexeme} (r q : Read A) (f g : Found A → Read B) → Both S D ts r q
    → ((x : Found A) → Both S D x.rest (f x) (g x)) → Both S D ts (and_then r f) (and_then q g)
both_bind r q f g h k = both_behind r q f g h (λ x. when (λ d. d.0) (k x))

-- behind a part that has no room to look at
pub both_then : {A B S D : Type 0} {ts : List Lexeme} (r : Read A) (f g : Found A → Read B) → Late ts r
    → ((x : Found A) → Both S D x.rest (f x) (g x)) → Both S D ts (and_then r f) (and_then r g)
both_then r f g h k = both_bind r r f g (both_same r h) k

pub late_fits : {A : Type 0} (least room : ℕ) (ts us : List Lexeme) (q : Read A) → Late us q
    → Late us (fits least room ts q)
unfolding fits
late_fits {A} least room ts us q h = by_room (nat_le least room)
  where
    by_room : (b : Bool) → Late us (if b then q else refuses TooDeep ts)
    by_room true = h
    by_room false = inl refl

-- a question, behind whose token the second goes on where it has room
pub both_fits_in : {A S D : Type 0} (least room wide : ℕ) (ts : List Lexeme) (r q : Read A) → room ≤ wide
    → (S → least ≤ wide → Late (behind_first ts) q) → Both S (least ≤ room) ts r q →
    Both S D ts (fits least room ts r) (fits least wide ts q)
unfolding fits
both_fits_in {A} {S} {D} least room wide ts r q less past h =
    record { late = late_fits least wide ts ts q h.late; pass = λ s d. by_room (nat_le least room) refl s }
  where
    by_wide : (b : Bool) → nat_le least wide ≡ b → S
        → Passes {A = A} ts (refuses TooDeep ts) (if b then q else refuses TooDeep ts)
    by_wide true is s = inr (record { at = ts; left = all_left ts; is = refl; late = past s (leb-true least wide is) })
    by_wide false is s = inl refl

    by_room : (b : Bool) → nat_le least room ≡ b → S
        → Passes ts (if b then r else refuses TooDeep ts) (if nat_le least wide then q else refuses TooDeep ts)
    by_room true is s =
        let low : least ≤ room = leb-true least room is in
        let lower : least ≤ wide = omega (arith, less, low) in
        subst (λ (b : Bool). Passes ts r (if b then q else refuses TooDeep ts)) (sym (le-leb least wide lower))
        (h.pass s low)
    by_room false is s = by_wide (nat_le least wide) refl s

pub both_fits : {A S D : Type 0} (least room wide : ℕ) (ts : List Lexeme) (r q : Read A) → room ≤ wide
    → (S → Late (behind_first ts) q) → Both S (least ≤ room) ts r q
    → Both S D ts (fits least room ts r) (fits least wide ts q)
both_fits least room wide ts r q less past h = both_fits_in least room wide ts r q less (λ s low. past s) h

pub late_take : (s : HeldScopes) (ts : List Lexeme) → Late ts (take_one s ts)
late_take s [] = inr (late_refused [])
late_take s (t ∷ ts) = behind_left (t ∷ ts)

-- a reader that takes the first token goes on behind it
pub past_take : {A : Type 0} (s : HeldScopes) (ts : List Lexeme) (f : Found ℕ → Read A)
    → ((x : Found ℕ) → Late x.rest (f x)) → Late (behind_first ts) (and_then (take_one s ts) f)
unfolding and_then
past_take s [] f k = inr (late_refused [])
past_take s (t ∷ ts) f k = k (record { tree = t.at; scopes = s; rest = ts })

-- a question at a token that is taken then
pub both_takes : {A S D : Type 0} (least room wide : ℕ) (s : HeldScopes) (ts : List Lexeme) (f g : Found ℕ → Read A)
    → room ≤ wide → ((x : Found ℕ) → Both S (least ≤ room) x.rest (f x) (g x)) →
    Ahead S D ts (fits least room ts (and_then (take_one s ts) f)) (fits least wide ts (and_then (take_one s ts) g))
both_takes {A} {S} {D} least room wide s ts f g less k =
    let past : Late (behind_first ts) (and_then (take_one s ts) g) = past_take s ts g (λ x. (k x).late) in
    record {
      past = late_fits least wide ts (behind_first ts) _ past;
      both = both_fits least room wide ts _ _ less (λ s. past) (both_then (take_one s ts) f g (late_take s ts) k);
    }

-- the same where nobody asks what the second does behind the token
pub both_asks : {A S D : Type 0} (least room wide : ℕ) (s : HeldScopes) (ts : List Lexeme) (f g : Found ℕ → Read A)
    → room ≤ wide → ((x : Found ℕ) → Both S (least ≤ room) x.rest (f x) (g x)) →
    Both S D ts (fits least room ts (and_then (take_one s ts) f)) (fits least wide ts (and_then (take_one s ts) g))
both_asks least room wide s ts f g less k = (both_takes least room wide s ts f g less k).both

-- a reader that takes the first token
pub ahead_take : {A S D : Type 0} (s : HeldScopes) (ts : List Lexeme) (f g : Found ℕ → Read A)
    → ((x : Found ℕ) → Both S D x.rest (f x) (g x))
    → Ahead S D ts (and_then (take_one s ts) f) (and_then (take_one s ts) g)
ahead_take s ts f g k =
    record { past = past_take s ts g (λ x. (k x).late); both = both_then (take_one s ts) f g (late_take s ts) k }

-- a question before a reader that goes on behind the first token, with something made of what that read
pub owned_asks : {A B S D : Type 0} (least room wide : ℕ) (ts : List Lexeme) (r q : Read A) (f : Found A → Read B)
    → room ≤ wide → Ahead S (least ≤ room) ts r q → ((x : Found A) → Late x.rest (f x)) →
    Both S D ts (fits least room ts (and_then r f)) (fits least wide ts (and_then q f))
owned_asks least room wide ts r q f less h k =
    both_fits least room wide ts _ _ less (λ s. late_bind (behind_first ts) q f h.past k)
    (both_bind r q f f h.both (λ x. both_same (f x) (k x)))

-- the token behind the first is refused
pub refused_behind : {A S D : Type 0} (fault : FaultKind) (ts : List Lexeme)
    → BothOf A S D ts (Err (fault, number_at (behind_first ts))) (Err (fault, number_at (behind_first ts)))
refused_behind fault ts = record { late = inr (behind_first ts, (behind_left ts, refl)); pass = λ s d. inl refl }

pub both_if : {A S D : Type 0} {ts : List Lexeme} (b : Bool) (x y u v : Read A) → Both S D ts x u → Both S D ts y v
    → Both S D ts (if b then x else y) (if b then u else v)
both_if true x y u v h k = h
both_if false x y u v h k = k

pub both_choice : {A S D : Type 0} {ts : List Lexeme} (b : Bool) (x y u v : Read A) → (b ≡ true → Both S D ts x u)
    → (b ≡ false → Both S D ts y v) → Both S D ts (if b then x else y) (if b then u else v)
both_choice true x y u v h k = h refl
both_choice false x y u v h k = k refl

pub late_if : {A : Type 0} (ts : List Lexeme) (b : Bool) (x y : Read A) → (b ≡ true → Late ts x)
    → (b ≡ false → Late ts y) → Late ts (if b then x else y)
late_if ts true x y h k = h refl
late_if ts false x y h k = k refl

-- turns of two loops that go on alike
abbrev pub BothTurn : {A : Type 0} → Type 0 → Type 0 → List Lexeme → Option (Read A) → Option (Read A) → Type 0
BothTurn S D ts None None = Unit {0}
BothTurn {A} S D ts (Some r) (Some q) = BothOf A S D ts r q
BothTurn S D ts _ _ = ⊥

pub both_turns : {A S D : Type 0} (turn other : Turn A)
    → ((a : A) (s : HeldScopes) (ts : List Lexeme) → BothTurn S D ts (turn a s ts) (other a s ts))
    → (n : ℕ) (a : A) (s : HeldScopes) (ts : List Lexeme) →
    Both S D ts (turns turn n a s ts) (turns other n a s ts)
unfolding turns
both_turns turn other m zero a s ts = ready _
both_turns {A} {S} {D} turn other m (suc n) a s ts =
    by_turn (λ a s ts. both_turns turn other m n a s ts) (turn a s ts) (other a s ts) (m a s ts)
  where
    by_turn : ((a : A) (s : HeldScopes) (ts : List Lexeme) → Both S D ts (turns turn n a s ts) (turns other n a s ts))
        → (r q : Option (Read A)) → BothTurn S D ts r q →
        Both S D ts
        (elim r [ None ↦ ends a s ts | Some read ↦ and_then read (λ x. turns turn n x.tree x.scopes x.rest) ])
        (elim q [ None ↦ ends a s ts | Some read ↦ and_then read (λ x. turns other n x.tree x.scopes x.rest) ])
    by_turn again None None h = ready _
    by_turn again (Some r) (Some q) h =
        both_bind r q (λ x. turns turn n x.tree x.scopes x.rest) (λ x. turns other n x.tree x.scopes x.rest) h
        (λ x. again x.tree x.scopes x.rest)
    by_turn again None (Some q) h = absurd h
    by_turn again (Some r) None h = absurd h

pub both_run : {A S D : Type 0} (turn other : Turn A)
    → ((a : A) (s : HeldScopes) (ts : List Lexeme) → BothTurn S D ts (turn a s ts) (other a s ts))
    → (a : A) (s : HeldScopes) (ts : List Lexeme) → Both S D ts (run turn a s ts) (run other a s ts)
unfolding run
both_run turn other m a s ts = both_turns turn other m (suc (length ts)) a s ts

pub both_guarded : {A S D : Type 0} {ts : List Lexeme} (b : Bool) (r q : Read A) → (b ≡ true → Both S D ts r q)
    → BothTurn S D ts (if b then Some r else None) (if b then Some q else None)
both_guarded true r q h = h refl
both_guarded false r q h = tt

-- a test that ends a loop
pub both_unless : {A : Type 0} (S D : Type 0) (ts : List Lexeme) (b : Bool) (r q : Option (Read A))
    → BothTurn S D ts r q → BothTurn S D ts (if b then None else r) (if b then None else q)
both_unless S D ts true r q h = tt
both_unless S D ts false r q h = h

pub both_repeated : {T S D : Type 0} (begins : TokenKind → Bool) (read other : Reader T)
    → ((s : HeldScopes) (ts : List Lexeme) → begins (kind_at ts) ≡ true → Both S D ts (read s ts) (other s ts))
    → (s : HeldScopes) (ts : List Lexeme) →
    Both S D ts (repeated begins read s ts) (repeated begins other s ts)
unfolding repeated
both_repeated begins read other m s ts =
    both_run (repeated_turn begins read) (repeated_turn begins other) (λ xs s ts. both_guarded (begins (kind_at ts)) _ _
    (λ is. both_bind (read s ts) (other s ts) (λ x. ends (xs ++ x.tree ∷ []) x.scopes x.rest)
    (λ x. ends (xs ++ x.tree ∷ []) x.scopes x.rest) (m s ts is) (λ x. ready _))) [] s ts

-- one reader alone, again and again
pub late_repeated : {T : Type 0} (begins : TokenKind → Bool) (read : Reader T)
    → ((s : HeldScopes) (ts : List Lexeme) → Late ts (read s ts)) → (s : HeldScopes) (ts : List Lexeme)
    → Late ts (repeated begins read s ts)
late_repeated {T} begins read m s ts =
    let both : Both ⊥ ⊥ ts (repeated begins read s ts) (repeated begins read s ts) =
    both_repeated begins read read (λ s ts is. both_same (read s ts) (m s ts)) s ts in
    both.late

-- behind a token, and so at it
pub higher : {A S D : Type 0} (t : Lexeme) (ts : List Lexeme) (r q : Read A) → Both S D ts r q → Both S D (t ∷ ts) r q
higher t ts r q h = record {
  late = late_down (behind_left (t ∷ ts)) q h.late;
  pass = λ s d. passes_down (behind_left (t ∷ ts)) r q (h.pass s d);
}

-- what stands behind commas
pub both_commas : {T E S F : Type 0} (next others : ℕ → Reader (Next T E))
    → ((comma : ℕ) (s : HeldScopes) (ts : List Lexeme) → Both S F ts (next comma s ts) (others comma s ts))
    → (a : CommaList T E) (s : HeldScopes) (ts : List Lexeme) →
    Both S F ts (run (comma_turn next) a s ts) (run (comma_turn others) a s ts)
both_commas {T} {E} {S} {F} next others ms a s ts = both_run (comma_turn next) (comma_turn others) turn_both a s ts
  where
    turn_both : (a : CommaList T E) (s : HeldScopes) (ts : List Lexeme)
        → BothTurn S F ts (comma_turn next a s ts) (comma_turn others a s ts)
    turn_both a s ts = by_ending a.ending ts
      where
        by_ending : (o : Option E) (ts : List Lexeme)
            → BothTurn S F ts (comma_turn_by next o a.items s ts) (comma_turn_by others o a.items s ts)
        by_ending (Some e) ts = tt
        by_ending None [] = tt
        by_ending None (t ∷ ts) =
            both_guarded (is_comma t.kind) _ _ (λ is. higher t ts _ _
            (both_bind (next t.at s ts) (others t.at s ts) (λ x. ends (with_next a.items x.tree) x.scopes x.rest)
            (λ x. ends (with_next a.items x.tree) x.scopes x.rest) (ms t.at s ts) (λ x. ready _)))

-- lists with commas
pub both_listed : {T E S D F : Type 0} (first other : Reader T) (next others : ℕ → Reader (Next T E))
    → (s : HeldScopes) (ts : List Lexeme) → Both S D ts (first s ts) (other s ts) →
    ((x : Found T) → D → first s ts ≡ Ok x → F)
    → ((comma : ℕ) (s : HeldScopes) (ts : List Lexeme) → Both S F ts (next comma s ts) (others comma s ts))
    → Both S D ts (listed first next s ts) (listed other others s ts)
unfolding listed
both_listed first other next others s ts m to ms =
    both_behind (first s ts) (other s ts) _ _ m (λ x. when (λ d. to x d.0 d.1)
    (both_commas next others ms (record { items = x.tree ∷ []; ending = None }) x.scopes x.rest))

-- a loop whose first turn goes on
pub past_run : {A : Type 0} (turn : Turn A)
    → ((a : A) (s : HeldScopes) (ts : List Lexeme) → BothTurn ⊥ ⊥ ts (turn a s ts) (turn a s ts))
    → (us : List Lexeme) (a : A) (s : HeldScopes) (ts : List Lexeme) (r : Read A) → turn a s ts ≡ Some r → Late us r →
    Late us (run turn a s ts)
unfolding run turns
past_run {A} turn m us a s ts r is h = by_turn (turn a s ts) is
  where
    some_is : (q : Read A) → Some q ≡ Some r → q ≡ r
    some_is q h = cc

    late_turns : (x : Found A) → Late x.rest (turns turn (length ts) x.tree x.scopes x.rest)
    late_turns x =
        let both : Both ⊥ ⊥ x.rest (turns turn (length ts) x.tree x.scopes x.rest)
        (turns turn (length ts) x.tree x.scopes x.rest) = both_turns turn turn m (length ts) x.tree x.scopes x.rest in
        both.late

    by_turn : (o : Option (Read A)) → o ≡ Some r
        → Late us
        (elim o [ None ↦ ends a s ts | Some read ↦ and_then read (λ x. turns turn (length ts) x.tree x.scopes x.rest) ])
    by_turn None none = absurd cc
    by_turn (Some q) same =
        late_bind us q _ (subst (λ (q : Read A). Late us q) (sym (some_is q same)) h) (λ x. late_turns x)

-- a loop without a turn
pub run_ends : {A : Type 0} (turn : Turn A) (a : A) (s : HeldScopes) (ts : List Lexeme) → turn a s ts ≡ None
    → run turn a s ts ≡ Ok (record { tree = a; scopes = s; rest = ts })
unfolding run turns
run_ends {A} turn a s ts is = by_turn (turn a s ts) is
  where
    by_turn : (o : Option (Read A)) → o ≡ None → ◌≡◌ {A = Read A}
        (elim o [ None ↦ ends a s ts | Some read ↦ and_then read (λ x. turns turn (length ts) x.tree x.scopes x.rest) ])
        (Ok (record { tree = a; scopes = s; rest = ts }))
    by_turn None none = refl
    by_turn (Some q) some = absurd cc
