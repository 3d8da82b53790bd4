-- The shape of what is shown of a reader: what it takes, spelled as its tree, and that it reads what spells a tree.
use Rattle.std.proofs.Common.{◌≡◌, ℕ, suc, ◌<◌, ◌≤◌, Bool, true, false, if◌then◌else◌, List, [], ◌∷◌, length, Option, Some, None, refl, sym, ◌∙◌, ap, subst, arith}
use Rattle.c_words.specs.declared.kinds.TokenKind.{TokenKind}
use Rattle.c_words.specs.declared.kinds.TokenKind.TheVariants as kinds
use Rattle.c_tree.specs.declared.lexeme.Lexeme.{Lexeme}
use Rattle.c_syntax.specs.declared.parts.Identifier.{Identifier}
use Rattle.c_tree.specs.Text.{plain_text, identifier_text, tag_text}
use Rattle.c_units.specs.HeldScopes.{HeldScopes}
use Rattle.c_units.specs.Scoping.{behind}
use Rattle.c_reading.specs.declared.kinds.FaultKind.TheVariants.{Unexpected}
use Rattle.c_reading.specs.Reading.{Found, Reader, ends, refuses, kind_at, take_one, token_at, IsTail}
use Rattle.c_reading.specs.Tokens.{name_at, name_by, tag_at, tag_by, spelled_name}
use Rattle.c_reading.proofs.Binding.{found, done, ok_is}
use Rattle.c_reading.proofs.Tails.{tail_of}

-- a kind of tree: its text, its rules, the scopes behind it, its height
pub record Form (T : Type 0) : Type 1 where
  pub text : T → List Lexeme → List Lexeme
  pub Fits : T → Type 0
  pub scopes : T → HeldScopes → Option HeldScopes
  pub height : T → ℕ

-- a reader leaves no more tokens than it was given, or fewer
abbrev pub Falls : {A : Type 0} → Reader A → Type 0
Falls {A} read = (s : HeldScopes) (ts : List Lexeme) (x : Found A) → read s ts ≡ done x → length x.rest ≤ length ts

abbrev pub Shrinks : {A : Type 0} → Reader A → Type 0
Shrinks {A} read = (s : HeldScopes) (ts : List Lexeme) (x : Found A) → read s ts ≡ done x → length x.rest < length ts

pub shrinks_falls : {A : Type 0} (read : Reader A) → Shrinks read → Falls read
shrinks_falls read shrinks s ts x e = let less : length x.rest < length ts = shrinks s ts x e in omega arith

-- the end of a chain of steps
pub at_end : {A : Type 0} (P : Found A → Type 0) {y x : Found A} → done y ≡ done x → P y → P x
at_end P e p = subst P (ok_is e) p

-- What was read is spelled so, obeys the rules, gives these scopes, has the room for its height, and leaves a tail of
-- all tokens.
pub record Takes (all : List Lexeme) {T : Type 0} (form : Form T) (room : ℕ) (s : HeldScopes) (ts : List Lexeme)
    (x : Found T) : Type 0 where
  pub spelled : ts ≡ form.text x.tree x.rest
  pub fits : form.Fits x.tree
  pub named : form.scopes x.tree s ≡ Some x.scopes
  pub low : form.height x.tree ≤ room
  pub left : IsTail all x.rest

abbrev pub IsSound : List Lexeme → {T : Type 0} → Form T → ℕ → Reader T → Type 0
IsSound all {T} form room read =
    (s : HeldScopes) (ts : List Lexeme) (x : Found T) → IsTail all ts → read s ts ≡ done x → Takes all form room s ts x

-- The text of what obeys the rules and has the room for its height, before a token that does not go on with it, is read
-- as this.
abbrev pub IsComplete : {T : Type 0} → Form T → (T → TokenKind → Bool) → ℕ → Reader T → Type 0
IsComplete {T} form ends room read =
    (e : T) (s s' : HeldScopes) (k : List Lexeme) → form.Fits e → form.scopes e s ≡ Some s' → form.height e ≤ room →
    ends e (kind_at k) ≡ true → read s (form.text e k) ≡ done (found e s' k)

-- whatever follows
abbrev pub always : {T : Type 0} → T → TokenKind → Bool
always e kind = true

-- what stands behind some scopes
pub behind_is : {r : Option HeldScopes} (f : HeldScopes → Option HeldScopes) {t u : HeldScopes} → r ≡ Some t
    → f t ≡ Some u → behind r f ≡ Some u
behind_is f is e = rw is e

pub behind_ok : (r : Option HeldScopes) (f : HeldScopes → Option HeldScopes) (u : HeldScopes) → behind r f ≡ Some u
    → (t : HeldScopes) × (r ≡ Some t) × (f t ≡ Some u)
behind_ok None f u e = absurd cc
behind_ok (Some t) f u e = (t, refl, e)

pub behind_same : (r : Option HeldScopes) (f g : HeldScopes → Option HeldScopes) → ((t : HeldScopes) → f t ≡ g t)
    → behind r f ≡ behind r g
behind_same None f g h = refl
behind_same (Some t) f g h = h t

-- one token that was taken, of this kind
pub record Took (all : List Lexeme) (kind : TokenKind) (s : HeldScopes) (ts : List Lexeme) (x : Found ℕ) : Type 0 where
  pub spelled : ts ≡ plain_text kind x.tree x.rest
  pub same : x.scopes ≡ s
  pub left : IsTail all x.rest

lexeme_is : (t : Lexeme) (kind : TokenKind) → t.kind ≡ kind → t ≡ record { kind = kind; at = t.at }
lexeme_is t kind e = ap (λ (kind : TokenKind). record { kind = kind; at = t.at }) e

module _ (all : List Lexeme) where
  took_first : (kind : TokenKind) (s : HeldScopes) (t : Lexeme) (ts : List Lexeme) → IsTail all (t ∷ ts) → t.kind ≡ kind
      → Took all kind s (t ∷ ts) (found t.at s ts)
  took_first kind s t ts tail is =
      record { spelled = ap (λ (t : Lexeme). t ∷ ts) (lexeme_is t kind is); same = refl; left = tail_of all t ts tail }

  -- the first token, whose kind is known
  pub took : (kind : TokenKind) (s : HeldScopes) (ts : List Lexeme) (x : Found ℕ) → IsTail all ts → kind_at ts ≡ kind
      → take_one s ts ≡ done x → Took all kind s ts x
  took kind s [] x tail is e = absurd cc
  took kind s (t ∷ ts) x tail is e = at_end (Took all kind s (t ∷ ts)) e (took_first kind s t ts tail is)

  -- the first token, which passed a test that one kind alone passes
  pub took_token : (test : TokenKind → Bool) (kind : TokenKind)
      → ((other : TokenKind) → test other ≡ true → other ≡ kind) →
      (s : HeldScopes) (ts : List Lexeme) (x : Found ℕ) → IsTail all ts → token_at test s ts ≡ done x
      → Took all kind s ts x
  took_token test kind only s [] x tail e = absurd cc
  took_token test kind only s (t ∷ ts) x tail e = by_test (test t.kind) refl e
    where
      by_test : (b : Bool) → test t.kind ≡ b → (if b then ends t.at s ts else refuses Unexpected (t ∷ ts)) ≡ done x
          → Took all kind s (t ∷ ts) x
      by_test true is e = at_end (Took all kind s (t ∷ ts)) e (took_first kind s t ts tail (only t.kind is))
      by_test false is e = absurd cc

  -- a name that was taken
  pub record TookName (s : HeldScopes) (ts : List Lexeme) (x : Found Identifier) : Type 0 where
    pub spelled : ts ≡ identifier_text x.tree x.rest
    pub same : x.scopes ≡ s
    pub left : IsTail all x.rest

  pub name_kind : (kind : TokenKind) (name : ℕ) → spelled_name kind ≡ Some name → kind ≡ kinds.Name name
  name_kind (kinds.Name n) name e = cc
  name_kind kind name e = absurd cc

  pub took_name : (s : HeldScopes) (ts : List Lexeme) (x : Found Identifier) → IsTail all ts → name_at s ts ≡ done x
      → TookName s ts x
  took_name s [] x tail e = absurd cc
  took_name s (t ∷ ts) x tail e = by_name (spelled_name t.kind) refl e
    where
      by_name : (o : Option ℕ) → spelled_name t.kind ≡ o → name_by o t s ts ≡ done x → TookName s (t ∷ ts) x
      by_name None is e = absurd cc
      by_name (Some n) is e =
          at_end (TookName s (t ∷ ts)) e (record {
            spelled = ap (λ (t : Lexeme). t ∷ ts) (lexeme_is t (kinds.Name n) (name_kind t.kind n is));
            same = refl;
            left = tail_of all t ts tail;
          })

  -- a tag, or none
  pub record TookTag (s : HeldScopes) (ts : List Lexeme) (x : Found (Option Identifier)) : Type 0 where
    pub spelled : ts ≡ tag_text x.tree x.rest
    pub same : x.scopes ≡ s
    pub left : IsTail all x.rest

  pub took_tag : (s : HeldScopes) (ts : List Lexeme) (x : Found (Option Identifier)) → IsTail all ts
      → tag_at s ts ≡ done x → TookTag s ts x
  took_tag s [] x tail e = at_end (TookTag s []) e (record { spelled = refl; same = refl; left = tail })
  took_tag s (t ∷ ts) x tail e = by_name (spelled_name t.kind) refl e
    where
      by_name : (o : Option ℕ) → spelled_name t.kind ≡ o → tag_by o t s ts ≡ done x → TookTag s (t ∷ ts) x
      by_name None is e = at_end (TookTag s (t ∷ ts)) e (record { spelled = refl; same = refl; left = tail })
      by_name (Some n) is e =
          at_end (TookTag s (t ∷ ts)) e (record {
            spelled = ap (λ (t : Lexeme). t ∷ ts) (lexeme_is t (kinds.Name n) (name_kind t.kind n is));
            same = refl;
            left = tail_of all t ts tail;
          })

-- a name that is read leaves one token fewer
pub name_falls : (s : HeldScopes) (ts : List Lexeme) (x : Found Identifier) → name_at s ts ≡ done x
    → suc (length x.rest) ≡ length ts
name_falls s [] x e = absurd cc
name_falls s (t ∷ ts) x e = by_name (spelled_name t.kind) e
  where
    by_name : (o : Option ℕ) → name_by o t s ts ≡ done x → suc (length x.rest) ≡ length (t ∷ ts)
    by_name None e = absurd cc
    by_name (Some n) e = ap (λ (x : Found Identifier). suc (length x.rest)) (sym (ok_is e))

-- a tag, read or absent, leaves no more tokens than were given
pub tag_falls : (s : HeldScopes) (ts : List Lexeme) (x : Found (Option Identifier)) → tag_at s ts ≡ done x
    → length x.rest ≤ length ts
tag_falls s [] x e = let is = ap (λ (x : Found (Option Identifier)). length x.rest) (ok_is e) in omega (arith, is)
tag_falls s (t ∷ ts) x e = by_name (spelled_name t.kind) e
  where
    by_name : (o : Option ℕ) → tag_by o t s ts ≡ done x → length x.rest ≤ length (t ∷ ts)
    by_name None e = let is = ap (λ (x : Found (Option Identifier)). length x.rest) (ok_is e) in omega (arith, is)
    by_name (Some n) e = let is = ap (λ (x : Found (Option Identifier)). length x.rest) (ok_is e) in omega (arith, is)

-- scopes through a part between two tokens
pub through : (f : HeldScopes → Option HeldScopes) {a b t u : HeldScopes} → a ≡ t → f a ≡ Some b → u ≡ b → f t ≡ Some u
through f p e q = rw (← p, q) e

-- what begins with a token that was taken
pub behind_token : (all : List Lexeme) {T : Type 0} (form : Form T) (room : ℕ) (kind : TokenKind) (s : HeldScopes)
    (ts : List Lexeme) (y : Found ℕ) (x : Found T)
    → Took all kind s ts y →
    Takes all form room y.scopes (plain_text kind y.tree y.rest) x → Takes all form room s ts x
behind_token all form room kind s ts y x o h = record {
  spelled = o.spelled ∙ h.spelled;
  fits = h.fits;
  named = subst (λ (s : HeldScopes). form.scopes x.tree s ≡ Some x.scopes) o.same h.named;
  low = h.low;
  left = h.left;
}
