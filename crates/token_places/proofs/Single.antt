-- Readers of one token: a name, a tag or none, a token as what it may be.
use Rattle.std.proofs.Common.{◌≡◌, ℕ, Bool, true, false, if◌then◌else◌, List, [], ◌∷◌, Option, Some, None, inr, refl, sym, ◌∙◌, ap, subst}
use Rattle.c_words.specs.declared.kinds.TokenKind.{TokenKind}
use Rattle.c_words.specs.declared.kinds.TokenKind.TheVariants as kinds
use Rattle.c_tree.specs.declared.lexeme.Lexeme.{Lexeme}
use Rattle.c_units.specs.HeldScopes.{HeldScopes}
use Rattle.c_reading.specs.declared.kinds.FaultKind.TheVariants.{Unexpected}
use Rattle.c_reading.specs.Reading.{Reader, ends, refuses, kind_at}
use Rattle.c_reading.specs.Tokens.{is_end, is_open_paren, is_close_paren, is_open_bracket, is_close_bracket, is_open_brace, is_close_brace, is_colon, is_dots, is_equal, is_semicolon, is_star, is_text, is_extension, is_attribute, is_asm, is_static_assert, is_while, is_else, is_comma, spelled_name, identifier_of, name_at, tag_at, made_at, is_made}
use Rattle.c_reading.proofs.Binding.{found}
use Rattle.reading_steps.specs.Keeping.{Kept}
use Rattle.reading_steps.specs.Steps.{first_kind, has_end, Answered, Outcome, Good, Ready, Law}
use Rattle.reading_steps.proofs.Keeping.{kept_refl}
use Rattle.reading_steps.proofs.Steps.{behind, kind_same, refused_here, ends_good, good_as, bind_good, ready_bind, ready_ends}

-- None of these tokens is the end.

pub open_paren_end : (kind : TokenKind) → is_open_paren kind ≡ true → is_end kind ≡ false
open_paren_end kinds.End h = absurd cc
open_paren_end kind h = refl

pub close_paren_end : (kind : TokenKind) → is_close_paren kind ≡ true → is_end kind ≡ false
close_paren_end kinds.End h = absurd cc
close_paren_end kind h = refl

pub open_bracket_end : (kind : TokenKind) → is_open_bracket kind ≡ true → is_end kind ≡ false
open_bracket_end kinds.End h = absurd cc
open_bracket_end kind h = refl

pub close_bracket_end : (kind : TokenKind) → is_close_bracket kind ≡ true → is_end kind ≡ false
close_bracket_end kinds.End h = absurd cc
close_bracket_end kind h = refl

pub open_brace_end : (kind : TokenKind) → is_open_brace kind ≡ true → is_end kind ≡ false
open_brace_end kinds.End h = absurd cc
open_brace_end kind h = refl

pub close_brace_end : (kind : TokenKind) → is_close_brace kind ≡ true → is_end kind ≡ false
close_brace_end kinds.End h = absurd cc
close_brace_end kind h = refl

pub colon_end : (kind : TokenKind) → is_colon kind ≡ true → is_end kind ≡ false
colon_end kinds.End h = absurd cc
colon_end kind h = refl

pub dots_end : (kind : TokenKind) → is_dots kind ≡ true → is_end kind ≡ false
dots_end kinds.End h = absurd cc
dots_end kind h = refl

pub equal_end : (kind : TokenKind) → is_equal kind ≡ true → is_end kind ≡ false
equal_end kinds.End h = absurd cc
equal_end kind h = refl

pub semicolon_end : (kind : TokenKind) → is_semicolon kind ≡ true → is_end kind ≡ false
semicolon_end kinds.End h = absurd cc
semicolon_end kind h = refl

pub star_end : (kind : TokenKind) → is_star kind ≡ true → is_end kind ≡ false
star_end kinds.End h = absurd cc
star_end kind h = refl

pub comma_end : (kind : TokenKind) → is_comma kind ≡ true → is_end kind ≡ false
comma_end kinds.End h = absurd cc
comma_end kind h = refl

pub text_end : (kind : TokenKind) → is_text kind ≡ true → is_end kind ≡ false
text_end kinds.End h = absurd cc
text_end kind h = refl

pub extension_end : (kind : TokenKind) → is_extension kind ≡ true → is_end kind ≡ false
extension_end kinds.End h = absurd cc
extension_end kind h = refl

pub attribute_end : (kind : TokenKind) → is_attribute kind ≡ true → is_end kind ≡ false
attribute_end kinds.End h = absurd cc
attribute_end kind h = refl

pub asm_end : (kind : TokenKind) → is_asm kind ≡ true → is_end kind ≡ false
asm_end kinds.End h = absurd cc
asm_end kind h = refl

pub static_assert_end : (kind : TokenKind) → is_static_assert kind ≡ true → is_end kind ≡ false
static_assert_end kinds.End h = absurd cc
static_assert_end kind h = refl

pub while_end : (kind : TokenKind) → is_while kind ≡ true → is_end kind ≡ false
while_end kinds.End h = absurd cc
while_end kind h = refl

pub else_end : (kind : TokenKind) → is_else kind ≡ true → is_end kind ≡ false
else_end kinds.End h = absurd cc
else_end kind h = refl

pub name_end : (kind : TokenKind) (name : ℕ) → spelled_name kind ≡ Some name → is_end kind ≡ false
name_end kinds.End name h = absurd cc
name_end kind name h = refl

module _ (keep : Bool) where
  -- One token is taken with this answer, whatever follows.
  pub one_good : {A : Type 0} (read : Reader A) (stops : TokenKind → Bool) (s u : HeldScopes) (t : Lexeme)
      (ts : List Lexeme) (a : A)
      → ((k : List Lexeme) → read s (t ∷ k) ≡ ends a u k) →
      is_end t.kind ≡ false → Kept keep s u → Good keep read stops s (t ∷ ts)
  one_good {A} read stops s u t ts a is known kept = subst (Outcome keep read stops s (t ∷ ts)) (sym (is ts)) answer
    where
      answer : Answered keep read stops s (t ∷ ts) (found a u ts)
      answer = record {
        before = t ∷ [];
        parts = refl;
        ending = λ e. subst (λ (b : Bool). (if b then true else has_end ts) ≡ true) known e;
        keeps = kept;
        same = λ k e. is k;
        ended = λ k e. is k;
      }

  -- Nothing is taken, before a token of this kind and before each with which the reader stops.
  pub none_good : {A : Type 0} (read : Reader A) (stops : TokenKind → Bool) (s : HeldScopes)
      (ts : List Lexeme) (a : A) →
      ((k : List Lexeme) → first_kind k ≡ first_kind ts → read s k ≡ ends a s k)
      → ((k : List Lexeme) → stops (kind_at k) ≡ true → read s k ≡ ends a s k) → Good keep read stops s ts
  none_good read stops s ts a same ended =
      good_as keep (ends a) read stops s ts same (inr ended) (ends_good keep a stops s ts)

  -- What was read is made something of.
  pub mapped_good : {A B : Type 0} (read : Reader A) (make : A → B) (stops : TokenKind → Bool) (s : HeldScopes)
      (ts : List Lexeme)
      → Good keep read stops s ts → Good keep (behind read (λ x. ends (make x))) stops s ts
  mapped_good read make stops s ts g =
      bind_good keep read (λ x. ends (make x)) stops stops s ts
      (λ tree scopes gives at. ready_ends keep (make tree) stops stops scopes at (λ kind h. h)) g
      (λ x e. ends_good keep (make x.tree) stops x.scopes x.rest) (inr (λ kind h. h))

  pub mapped_ready : {A B : Type 0} (read : Reader A) (make : A → B) (front stops : TokenKind → Bool)
      (s : HeldScopes) (at : ℕ)
      → Ready keep read front stops s at →
      Ready keep (behind read (λ x. ends (make x))) front stops s at
  mapped_ready read make front stops s at r =
      ready_bind keep read (λ x. ends (make x)) front stops stops s at r
      (λ tree scopes gives at. ready_ends keep (make tree) stops stops scopes at (λ kind h. h))

  pub mapped_law : {A B : Type 0} (read : Reader A) (make : A → B) (front stops : TokenKind → Bool)
      → Law keep read front stops → Law keep (behind read (λ x. ends (make x))) front stops
  mapped_law read make front stops l = record {
    good = λ s ts. mapped_good read make stops s ts (l.good s ts);
    ready = λ s at. mapped_ready read make front stops s at (l.ready s at);
  }

  -- A token as what it may be.
  pub made_good : {A : Type 0} (of : TokenKind → Option (ℕ → A)) (stops : TokenKind → Bool)
      → ((kind : TokenKind) → is_made (of kind) ≡ true → is_end kind ≡ false) → (s : HeldScopes) (ts : List Lexeme) →
      Good keep (made_at of) stops s ts
  made_good of stops no_end s [] = refused_here keep (made_at of) stops s [] Unexpected is
    where
      is : (k : List Lexeme) → first_kind k ≡ None → made_at of s k ≡ refuses Unexpected k
      is [] e = refl
      is (t ∷ ts) e = absurd cc
  made_good {A} of stops no_end s (t ∷ ts) = by_kind (of t.kind) refl
    where
      refused : of t.kind ≡ None → (k : List Lexeme) → first_kind k ≡ Some t.kind
          → made_at of s k ≡ refuses Unexpected k
      refused is [] e = absurd cc
      refused is (u ∷ us) e = let same : u.kind ≡ t.kind = cc in rw (same, is) refl

      by_kind : (o : Option (ℕ → A)) → of t.kind ≡ o → Good keep (made_at of) stops s (t ∷ ts)
      by_kind None is = refused_here keep (made_at of) stops s (t ∷ ts) Unexpected (refused is)
      by_kind (Some make) is =
          one_good (made_at of) stops s s t ts (make t.at) (λ k. rw is refl) (no_end t.kind (ap is_made is))
          (kept_refl keep s)

  -- A name, before whatever follows.
  pub name_good : (stops : TokenKind → Bool) (s : HeldScopes) (ts : List Lexeme) → Good keep name_at stops s ts
  name_good stops s [] = refused_here keep name_at stops s [] Unexpected is
    where
      is : (k : List Lexeme) → first_kind k ≡ None → name_at s k ≡ refuses Unexpected k
      is [] e = refl
      is (t ∷ ts) e = absurd cc
  name_good stops s (t ∷ ts) = by_kind (spelled_name t.kind) refl
    where
      refused : spelled_name t.kind ≡ None → (k : List Lexeme) → first_kind k ≡ Some t.kind
          → name_at s k ≡ refuses Unexpected k
      refused is [] e = absurd cc
      refused is (u ∷ us) e = let same : u.kind ≡ t.kind = cc in rw (same, is) refl

      by_kind : (o : Option ℕ) → spelled_name t.kind ≡ o → Good keep name_at stops s (t ∷ ts)
      by_kind None is = refused_here keep name_at stops s (t ∷ ts) Unexpected (refused is)
      by_kind (Some name) is =
          one_good name_at stops s s t ts (identifier_of t.at name) (λ k. rw is refl) (name_end t.kind name is)
          (kept_refl keep s)

  pub name_law : (front stops : TokenKind → Bool) → ((name : ℕ) → front (kinds.Name name) ≡ true)
      → Law keep name_at front stops
  name_law front stops named = record {
    good = λ s ts. name_good stops s ts;
    ready = λ s at. record {
      more = kinds.Name 0 ∷ [];
      tree = identifier_of at 0;
      scopes = s;
      keeps = kept_refl keep s;
      begins = λ k h. named 0;
      reads = λ k h. refl;
    };
  }

  -- A tag, or none.
  pub tag_none : (s : HeldScopes) (ts : List Lexeme) → spelled_name (kind_at ts) ≡ None → tag_at s ts ≡ ends None s ts
  tag_none s [] h = refl
  tag_none s (t ∷ ts) h = rw h refl

  pub tag_good : (stops : TokenKind → Bool) → ((kind : TokenKind) → stops kind ≡ true → spelled_name kind ≡ None)
      → (s : HeldScopes) (ts : List Lexeme) → Good keep tag_at stops s ts
  tag_good stops off s ts = by_kind ts (spelled_name (kind_at ts)) refl
    where
      by_kind : (ts : List Lexeme) (o : Option ℕ) → spelled_name (kind_at ts) ≡ o → Good keep tag_at stops s ts
      by_kind ts None is =
          none_good tag_at stops s ts None (λ k e. tag_none s k (ap spelled_name (kind_same k ts e) ∙ is))
          (λ k h. tag_none s k (off (kind_at k) h))
      by_kind [] (Some name) is = absurd cc
      by_kind (t ∷ ts) (Some name) is =
          one_good tag_at stops s s t ts (Some (identifier_of t.at name)) (λ k. rw is refl) (name_end t.kind name is)
          (kept_refl keep s)
