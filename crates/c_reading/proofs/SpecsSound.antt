-- What the reader of specifiers takes is spelled so and a mix.
use Rattle.std.proofs.Common.{◌≡◌, ℕ, ◌<◌, ◌≤◌, Bool, true, false, List, [], ◌∷◌, ◌++◌, Some, inl, inr, refl, sym, ◌∙◌, ap, subst, arith}
use Rattle.std.specs.Prelude.{◌+◌, ◌-◌, max, not, ◌&&◌, ◌||◌, ◌⊎◌, if◌then◌else◌, None, Option}
use Rattle.std.proofs.lemmas.List.Elements.{All-head}
use Rattle.c_words.specs.declared.kinds.TokenKind.{TokenKind}
use Rattle.c_words.specs.declared.kinds.TokenKind.TheVariants as kinds
use Rattle.c_words.specs.declared.kinds.Keyword.{Keyword}
use Rattle.c_words.specs.declared.kinds.Keyword.TheVariants as keywords
use Rattle.c_tree.specs.declared.lexeme.Lexeme.{Lexeme}
use Rattle.c_syntax.specs.declared.parts.Attr.{Attr}
use Rattle.c_syntax.specs.declared.parts.Qual.TheVariants as quals
use Rattle.c_specs.specs.declared.mix.Class.TheVariants as classes
use Rattle.c_specs.specs.Mix.{goes_on, is_whole_mix, is_typed}
use Rattle.c_specs.specs.Reading.{append_words, pushed}
use Rattle.c_specs.specs.Laws.{WholeAreMixes}
use Rattle.c_tree.specs.Tree.{SpecWords, no_words, more_words, SpecWord, storage, thread, inline_word, noreturn, qualifier, basic, struct_type, enum_type, typedef_name, attribute, typeof_value, typeof_type, align, auto_word}
use Rattle.c_tree.specs.Text.{plain_text, spec_words_text, spec_word_text}
use Rattle.c_tree.specs.Height.{specs_height, spec_word_height}
use Rattle.c_tree.specs.Groups.{IsGroup}
use Rattle.c_tree.specs.Specifiers.{storage_words}
use Rattle.c_tree.specs.WellFormed.{AreSpecWords, is_auto, has_auto, is_type_former, IsSpecWord, IsTypeWord, IsElement, IsElementKind, is_storage, is_qual, is_struct}
use Rattle.c_units.specs.HeldScopes.{HeldScopes, is_wide, names_type}
use Rattle.c_units.specs.Scoping.{has_typedef_word, where_true, spec_words_scopes, spec_word_scopes}
use Rattle.c_reading.specs.declared.kinds.Role.{Role}
use Rattle.c_reading.specs.declared.kinds.Role.TheVariants.{Declaring, Typed, Naming}
use Rattle.c_reading.specs.declared.kinds.SpecStart.{SpecStart}
use Rattle.c_reading.specs.declared.kinds.SpecStart.TheVariants as starts
use Rattle.c_reading.specs.Reading.{Found, Read, and_then, ends, kind_at, IsNumbered, IsTail}
use Rattle.c_reading.specs.Tokens.{word_of, is_base_word}
use Rattle.c_reading.specs.Parts.{Inner}
use Rattle.c_reading.specs.Specifying.{start_at, is_declaring, is_auto_start, is_start, ends_before, class_of_start, kind_start, may_stand, least_of, struct_with, enum_with, word_at, word_by, word_with, word_turn, word_turn_by, specs_with}
use Rattle.c_reading.proofs.Binding.{found, done, bind_ok}
use Rattle.c_reading.proofs.Loops.{run-keep, run_stops}
use Rattle.c_reading.proofs.Tails.{tail_of, element_is}
use Rattle.c_reading.proofs.Forms.{Takes, at_end, behind_is, behind_ok, took}
use Rattle.c_reading.proofs.SpecsFalls.{turn_parts, word_parts, word_turn_shrinks, whole_ok}
use Rattle.c_reading.proofs.SpecsSoundBodies.{word_form, struct_sound}
use Rattle.c_reading.proofs.SpecsSoundEnums.{enum_sound}
use Rattle.c_reading.proofs.SpecsSoundTypes.{typeof_sound, atomic_sound}
use Rattle.c_reading.proofs.Aims.{FitsRole, TakesWords, TokenLaws, Laws}

-- what the kind of a token says of the word that it begins
abbrev pub IsStart : HeldScopes → SpecStart → TokenKind → Type 0
IsStart s (starts.Storage keyword) kind = (kind ≡ kinds.Keyword keyword) × (is_storage keyword ≡ true)
IsStart s starts.Thread kind = kind ≡ kinds.Keyword keywords.Thread
IsStart s starts.Inline kind = kind ≡ kinds.Keyword keywords.Inline
IsStart s starts.Noreturn kind = kind ≡ kinds.Keyword keywords.Noreturn
IsStart s (starts.Word keyword) kind =
    (kind ≡ kinds.Keyword keyword) × (is_qual keyword ≡ true) × (not (is_type_former keyword) ≡ true)
IsStart s starts.Element kind = IsElementKind kind
IsStart s starts.Index kind = kind ≡ kinds.Index
IsStart s (starts.Basic keyword) kind = kind ≡ kinds.Keyword keyword
IsStart s (starts.Struct keyword) kind = (kind ≡ kinds.Keyword keyword) × (is_struct keyword ≡ true)
IsStart s starts.Enum kind = kind ≡ kinds.Keyword keywords.Enum
IsStart s starts.Attribute kind = Unit {0}
IsStart s (starts.Name name) kind = (kind ≡ kinds.Name name) × (names_type s name ≡ true)
IsStart s starts.Typeof kind = kind ≡ kinds.Keyword keywords.Typeof
IsStart s starts.Atomic kind = kind ≡ kinds.Keyword keywords.AtomicType
IsStart s starts.Align kind = kind ≡ kinds.Keyword keywords.Alignas
IsStart s starts.Auto kind = kind ≡ kinds.Keyword keywords.AutoType
IsStart s starts.Nothing kind = Unit {0}

-- the first token of a word is as the word that it is taken for says
start_is : (s : HeldScopes) (typed : Bool) (kind : TokenKind) → IsStart s (start_at s typed kind) kind
start_is s typed (kinds.Keyword keywords.Typedef) = (refl, refl)
start_is s typed (kinds.Keyword keywords.Extern) = (refl, refl)
start_is s typed (kinds.Keyword keywords.Static) = (refl, refl)
start_is s typed (kinds.Keyword keywords.Auto) = (refl, refl)
start_is s typed (kinds.Keyword keywords.Register) = (refl, refl)
start_is s typed (kinds.Keyword keywords.Thread) = refl
start_is s typed (kinds.Keyword keywords.Inline) = refl
start_is s typed (kinds.Keyword keywords.Noreturn) = refl
start_is s typed (kinds.Keyword keywords.Const) = (refl, refl, refl)
start_is s typed (kinds.Keyword keywords.Volatile) = (refl, refl, refl)
start_is s typed (kinds.Keyword keywords.Restrict) = (refl, refl, refl)
start_is s typed (kinds.Keyword keywords.Atomic) = (refl, refl, refl)
start_is s typed (kinds.Keyword keywords.Seg) = (refl, refl, refl)
start_is s typed (kinds.Keyword keywords.AtomicType) = refl
start_is s typed (kinds.Keyword keywords.Typeof) = refl
start_is s typed (kinds.Keyword keywords.Alignas) = refl
start_is s typed (kinds.Keyword keywords.AutoType) = refl
start_is s typed (kinds.Keyword keywords.AnyComplex) = refl
start_is s typed (kinds.Keyword keywords.Void) = refl
start_is s typed (kinds.Keyword keywords.Char) = refl
start_is s typed (kinds.Keyword keywords.Short) = refl
start_is s typed (kinds.Keyword keywords.Int) = refl
start_is s typed (kinds.Keyword keywords.Long) = refl
start_is s typed (kinds.Keyword keywords.Float) = refl
start_is s typed (kinds.Keyword keywords.Double) = refl
start_is s typed (kinds.Keyword keywords.Signed) = refl
start_is s typed (kinds.Keyword keywords.Unsigned) = refl
start_is s typed (kinds.Keyword keywords.Bool) = refl
start_is s typed (kinds.Keyword keywords.Complex) = refl
start_is s typed (kinds.Keyword keywords.BaseWord) = refl
start_is s typed (kinds.Keyword keywords.Int128) = refl
start_is s typed (kinds.Keyword keywords.Struct) = (refl, refl)
start_is s typed (kinds.Keyword keywords.Union) = (refl, refl)
start_is s typed (kinds.Keyword keywords.Enum) = refl
start_is s typed (kinds.Keyword keyword) = tt
start_is s typed (kinds.Qual lattice elem) = tt
start_is s typed kinds.Index = refl
start_is s typed (kinds.Name name) = by_name (names_type s name) (not typed) refl
  where
    by_name : (a b : Bool) → names_type s name ≡ a
        → IsStart s (if a && b then starts.Name name else starts.Nothing) (kinds.Name name)
    by_name false b is = tt
    by_name true false is = tt
    by_name true true is = (refl, is)
start_is s typed kind = tt

-- the least height of specifiers, by the first token of a word, is at least 1
least_one : (start : SpecStart) → 1 ≤ least_of start
least_one (starts.Storage keyword) = omega arith
least_one starts.Thread = omega arith
least_one starts.Inline = omega arith
least_one starts.Noreturn = omega arith
least_one (starts.Word keyword) = omega arith
least_one starts.Element = omega arith
least_one starts.Index = omega arith
least_one (starts.Basic keyword) = omega arith
least_one (starts.Struct keyword) = omega arith
least_one starts.Enum = omega arith
least_one starts.Attribute = omega arith
least_one (starts.Name name) = omega arith
least_one starts.Typeof = omega arith
least_one starts.Atomic = omega arith
least_one starts.Align = omega arith
least_one starts.Auto = omega arith
least_one starts.Nothing = omega arith

less_high : (room most : ℕ) → most ≤ room → 1 < most → 1 ≤ room - 1
less_high room most h more = omega (arith, h, more)

less_room : (room : ℕ) → 2 ≤ room → 1 ≤ room - 1
less_room room h = omega (arith, h)

least_left : (a b room : ℕ) → max a b ≤ room → a ≤ room
least_left a b room h = omega (arith, h)

least_right : (a b room : ℕ) → max a b ≤ room → b ≤ room
least_right a b room h = omega (arith, h)

one_more : (a room : ℕ) → 1 ≤ room → a ≤ room - 1 → a + 1 ≤ room
one_more a room one h = omega (arith, one, h)

one_least : (a room : ℕ) → 1 ≤ a → a ≤ room → 1 ≤ room
one_least a room h k = omega (arith, h, k)

-- what may stand in the name of a type is no `__auto_type`
type_word_plain : (w : SpecWord) → IsTypeWord w → is_auto w ≡ false
type_word_plain (auto_word token) h = absurd h
type_word_plain (storage word) h = refl
type_word_plain (thread keyword) h = refl
type_word_plain (inline_word keyword) h = refl
type_word_plain (noreturn keyword) h = refl
type_word_plain (qualifier qual) h = refl
type_word_plain (basic word) h = refl
type_word_plain (struct_type word attrs tag body) h = refl
type_word_plain (enum_type enum) h = refl
type_word_plain (typedef_name name) h = refl
type_word_plain (attribute attr) h = refl
type_word_plain (typeof_value keyword opening e closing) h = refl
type_word_plain (typeof_type word opening ws d closing) h = refl
type_word_plain (align attr) h = refl

typed_scopes : (s : HeldScopes) (name : ℕ) → names_type s name ≡ true → where_true (names_type s name) s ≡ Some s
typed_scopes s name is = rw is refl

-- one more word behind words

pub append_nothing : (ws : SpecWords) → append_words ws no_words ≡ ws
append_nothing no_words = refl
append_nothing (more_words w ws) = ap (more_words w) (append_nothing ws)

pub append_append : (a b c : SpecWords) → append_words (append_words a b) c ≡ append_words a (append_words b c)
append_append no_words b c = refl
append_append (more_words w ws) b c = ap (more_words w) (append_append ws b c)

-- words and one more are no higher than the room where the words and the new one fit it
pub pushed_height : (ws : SpecWords) (w : SpecWord) (room : ℕ) → specs_height ws ≤ room → spec_word_height w + 1 ≤ room
    → specs_height (pushed ws w) ≤ room
pushed_height no_words w room h one = omega (arith, h, one)
pushed_height (more_words v ws) w room h one =
    let rest : specs_height (pushed ws w) ≤ room = pushed_height ws w room (omega (arith, h)) one in
    omega (arith, h, rest)

-- words and one more give the scopes that the new one gives behind the words
pushed_scopes : (ws : SpecWords) (w : SpecWord) (s t u : HeldScopes) → spec_words_scopes ws s ≡ Some t
    → spec_word_scopes w t ≡ Some u → spec_words_scopes (pushed ws w) s ≡ Some u
pushed_scopes no_words w s t u h e =
    behind_is (spec_words_scopes no_words) (subst (λ (t : HeldScopes). spec_word_scopes w t ≡ Some u) (sym cc) e) refl
pushed_scopes (more_words v ws) w s t u h e =
    let b = behind_ok (spec_word_scopes v s) (spec_words_scopes ws) t h in
    behind_is (spec_words_scopes (pushed ws w)) b.1 (pushed_scopes ws w b.0 t u b.2 e)

module _ (all : List Lexeme) where
  pushed_text : (ws : SpecWords) (w : SpecWord) (k : List Lexeme)
      → spec_words_text all (pushed ws w) k ≡ spec_words_text all ws (spec_word_text all w k)
  pushed_text no_words w k = refl
  pushed_text (more_words v ws) w k = ap (spec_word_text all v) (pushed_text ws w k)

  none_fit : (role : Role) → FitsRole all role no_words
  none_fit Declaring = tt
  none_fit Typed = (tt, refl)
  none_fit Naming = tt

  pushed_words : (ws : SpecWords) (w : SpecWord) → AreSpecWords all ws → IsSpecWord all w
      → AreSpecWords all (pushed ws w)
  pushed_words no_words w h is = (is, tt)
  pushed_words (more_words v ws) w h is = (h.0, pushed_words ws w h.1 is)

  pushed_plain : (ws : SpecWords) (w : SpecWord) → has_auto ws ≡ false → is_auto w ≡ false
      → has_auto (pushed ws w) ≡ false
  pushed_plain no_words w h is = rw is refl
  pushed_plain (more_words v ws) w h is = by_word (is_auto v) refl h (λ h. pushed_plain ws w h is)
    where
      by_word : (b : Bool) → is_auto v ≡ b → (b || has_auto ws) ≡ false
          → (has_auto ws ≡ false → has_auto (pushed ws w) ≡ false) → (is_auto v || has_auto (pushed ws w)) ≡ false
      by_word true e h rest = absurd cc
      by_word false e h rest = rw e (rest h)

  pushed_fits : (role : Role) (ws : SpecWords) (w : SpecWord) → FitsRole all role ws → IsSpecWord all w
      → (role ≡ Naming → IsTypeWord w) → (role ≡ Typed → is_auto w ≡ false) →
      FitsRole all role (pushed ws w)
  pushed_fits Declaring ws w h is named plain = pushed_words ws w h is
  pushed_fits Typed ws w h is named plain = (pushed_words ws w h.0 is, pushed_plain ws w h.1 (plain refl))
  pushed_fits Naming no_words w h is named plain = (is, named refl, tt)
  pushed_fits Naming (more_words v ws) w h is named plain = (h.0, h.1, pushed_fits Naming ws w h.2 is named plain)

  module _ (numbered : IsNumbered all) (tokens : TokenLaws all) (n : ℕ) (inner : Inner) (laws : Laws all n inner) where
    -- a word that was read, which may stand in the name of a type where its beginning may
    record WordTakes (start : SpecStart) (room : ℕ) (s : HeldScopes) (ts : List Lexeme)
        (x : Found SpecWord) : Type 0 where
      pub takes : Takes all (word_form all) (room - 1) s ts x
      pub of_type : is_declaring start ≡ false → IsTypeWord x.tree
      pub plain : is_auto_start start ≡ false → is_auto x.tree ≡ false

    one_taken : (start : SpecStart) (make : ℕ → SpecWord) (kind : TokenKind) (room : ℕ) (s : HeldScopes)
        (ts : List Lexeme) (x : Found SpecWord)
        → IsTail all ts → kind_at ts ≡ kind →
        ((token : ℕ) (k : List Lexeme) → plain_text kind token k ≡ spec_word_text all (make token) k)
        → ((token : ℕ) → IsSpecWord all (make token)) → ((token : ℕ) → spec_word_scopes (make token) s ≡ Some s) →
        ((token : ℕ) → spec_word_height (make token) ≤ room - 1)
        → ((token : ℕ) → is_declaring start ≡ false → IsTypeWord (make token)) →
        ((token : ℕ) → is_auto_start start ≡ false → is_auto (make token) ≡ false) → word_at inner make s ts ≡ done x
        → WordTakes start room s ts x
    one_taken start make kind room s ts x tail is spells fits named low of_type plain e =
        let a = bind_ok e in
        let o = took all kind s ts a.0 tail is a.1 in
        at_end (WordTakes start room s ts) a.2 (record {
          takes = record {
            spelled = o.spelled ∙ spells a.0.tree a.0.rest;
            fits = fits a.0.tree;
            named = named a.0.tree ∙ ap Some (sym o.same);
            low = low a.0.tree;
            left = o.left;
          };
          of_type = of_type a.0.tree;
          plain = plain a.0.tree;
        })

    element_taken : (room : ℕ) (s : HeldScopes) (ts : List Lexeme) (x : Found SpecWord) → IsTail all ts
        → IsElementKind (kind_at ts) → word_at inner (λ token. qualifier (quals.Element token)) s ts ≡ done x →
        WordTakes starts.Element room s ts x
    element_taken room s [] x tail is e = absurd is
    element_taken room s (t ∷ ts) x tail is e =
        let a = bind_ok e in
        at_end (WordTakes starts.Element room s (t ∷ ts)) a.2 (at_end (λ (y : Found ℕ). WordTakes starts.Element room s
        (t ∷ ts) (found (qualifier (quals.Element y.tree)) y.scopes y.rest)) a.1 (record {
          takes = record {
            spelled = ap (λ (front : List Lexeme). front ++ ts) (sym (element_is all numbered t ts tail));
            fits = (subst IsElement (sym (element_is all numbered t ts tail)) is, refl);
            named = refl;
            low = omega arith;
            left = tail_of all t ts tail;
          };
          of_type = λ is. tt;
          plain = λ is. refl;
        }))

    struct_taken : (keyword : Keyword) (room : ℕ) (s : HeldScopes) (ts : List Lexeme) (x : Found SpecWord)
        → struct_with inner keyword room s ts ≡ done x → IsTypeWord x.tree
    unfolding struct_with
    struct_taken keyword room s ts x e =
        let a = bind_ok e in
        let b = bind_ok a.2 in
        let c = bind_ok b.2 in
        let d = bind_ok c.2 in
        at_end (λ (x : Found SpecWord). IsTypeWord x.tree) d.2 tt

    enum_taken : (room : ℕ) (s : HeldScopes) (ts : List Lexeme) (x : Found SpecWord)
        → enum_with inner room s ts ≡ done x → IsTypeWord x.tree
    unfolding enum_with
    enum_taken room s ts x e =
        let a = bind_ok e in
        let b = bind_ok a.2 in
        let c = bind_ok b.2 in
        let d = bind_ok c.2 in
        at_end (λ (x : Found SpecWord). IsTypeWord x.tree) d.2 tt

    word_taken : (start : SpecStart) (room : ℕ) (s : HeldScopes) (ts : List Lexeme) (x : Found SpecWord) → IsTail all ts
        → IsStart s start (kind_at ts) → least_of start ≤ room → word_by inner start room s ts ≡ done x →
        WordTakes start room s ts x
    unfolding word_by
    word_taken (starts.Storage keyword) room s ts x tail is least e =
        one_taken (starts.Storage keyword) (λ token. storage (word_of keyword token))
        (kinds.Keyword keyword) room s ts x tail is.0 (λ token k. refl) (λ token. is.1) (λ token. refl)
        (λ token. omega arith) (λ token e. absurd cc) (λ token e. refl) e
    word_taken starts.Thread room s ts x tail is least e =
        one_taken starts.Thread thread (kinds.Keyword keywords.Thread) room s ts x tail is (λ token k. refl)
        (λ token. tt) (λ token. refl) (λ token. omega arith) (λ token e. absurd cc) (λ token e. refl) e
    word_taken starts.Inline room s ts x tail is least e =
        one_taken starts.Inline inline_word (kinds.Keyword keywords.Inline) room s ts x tail is (λ token k. refl)
        (λ token. tt) (λ token. refl) (λ token. omega arith) (λ token e. absurd cc) (λ token e. refl) e
    word_taken starts.Noreturn room s ts x tail is least e =
        one_taken starts.Noreturn noreturn (kinds.Keyword keywords.Noreturn) room s ts x tail is (λ token k. refl)
        (λ token. tt) (λ token. refl) (λ token. omega arith) (λ token e. absurd cc) (λ token e. refl) e
    word_taken (starts.Word keyword) room s ts x tail is least e =
        one_taken (starts.Word keyword) (λ token. qualifier (quals.Word (word_of keyword token)))
        (kinds.Keyword keyword) room s ts x tail is.0 (λ token k. refl) (λ token. (is.1, is.2)) (λ token. refl)
        (λ token. omega arith) (λ token e. tt) (λ token e. refl) e
    word_taken starts.Element room s ts x tail is least e = element_taken room s ts x tail is e
    word_taken starts.Index room s ts x tail is least e =
        one_taken starts.Index (λ token. qualifier (quals.Index token)) kinds.Index room s ts x tail is
        (λ token k. refl) (λ token. (tt, refl)) (λ token. refl) (λ token. omega arith) (λ token e. tt)
        (λ token e. refl) e
    word_taken (starts.Basic keyword) room s ts x tail is least e =
        one_taken (starts.Basic keyword) (λ token. basic (word_of keyword token))
        (kinds.Keyword keyword) room s ts x tail is (λ token k. refl) (λ token. tt) (λ token. refl)
        (λ token. omega arith) (λ token e. tt) (λ token e. refl) e
    word_taken (starts.Struct keyword) room s ts x tail is least e = record {
      takes = struct_sound all numbered tokens n inner laws keyword (room - 1) s ts x tail is.1 is.0
          (less_room room least) e;
      of_type = λ is. struct_taken keyword (room - 1) s ts x e;
      plain = λ is. type_word_plain x.tree (struct_taken keyword (room - 1) s ts x e);
    }
    word_taken starts.Enum room s ts x tail is least e = record {
      takes = enum_sound all numbered tokens n inner laws (room - 1) s ts x tail is (less_room room least) e;
      of_type = λ is. enum_taken (room - 1) s ts x e;
      plain = λ is. type_word_plain x.tree (enum_taken (room - 1) s ts x e);
    }
    word_taken starts.Attribute room s ts x tail is least e =
        let a = bind_ok e in
        let i = tokens.attr_sound room s ts a.0 tail a.1 in
        at_end (WordTakes starts.Attribute room s ts) a.2 (record {
          takes = record {
            spelled = i.spelled;
            fits = All-head (λ (a : Attr). IsGroup all a.group) a.0.tree [] i.fits;
            named = i.named;
            low = less_room room least;
            left = i.left;
          };
          of_type = λ is. tt;
          plain = λ is. refl;
        })
    word_taken (starts.Name name) room s ts x tail is least e =
        one_taken (starts.Name name) (λ token. typedef_name (record { token = token; name = name }))
        (kinds.Name name) room s ts x tail is.0 (λ token k. refl) (λ token. tt) (λ token. typed_scopes s name is.1)
        (λ token. less_room room least) (λ token e. tt) (λ token e. refl) e
    word_taken starts.Typeof room s ts x tail is least e =
        let t = typeof_sound all numbered tokens n inner laws (room - 1) s ts x tail is
        (less_high room 3 least (omega arith)) e in
        record { takes = t.0; of_type = λ is. t.1; plain = λ is. type_word_plain x.tree t.1 }
    word_taken starts.Atomic room s ts x tail is least e =
        let t = atomic_sound all numbered tokens n inner laws (room - 1) s ts x tail is
        (less_high room 4 least (omega arith)) e in
        record { takes = t.0; of_type = λ is. t.1; plain = λ is. type_word_plain x.tree t.1 }
    word_taken starts.Align room s ts x tail is least e =
        let a = bind_ok e in
        let i = tokens.align_sound room s ts a.0 tail is a.1 in
        at_end (WordTakes starts.Align room s ts) a.2 (record {
          takes =
              record { spelled = i.spelled; fits = i.fits; named = i.named; low = less_room room least; left = i.left };
          of_type = λ e. absurd cc;
          plain = λ is. refl;
        })
    word_taken starts.Auto room s ts x tail is least e =
        one_taken starts.Auto auto_word (kinds.Keyword keywords.AutoType) room s ts x tail is (λ token k. refl)
        (λ token. tt) (λ token. refl) (λ token. less_room room least)
        (λ token e. absurd cc) (λ token e. absurd cc) e
    word_taken starts.Nothing room s ts x tail is least e = absurd cc

    -- what was read so far, behind the words that stood already
    record TakesRest (role : Role) (words : SpecWords) (room : ℕ) (s : HeldScopes) (ts : List Lexeme)
        (x : Found SpecWords) : Type 0 where
      pub rest : SpecWords
      pub words_are : x.tree ≡ append_words words rest
      pub spelled : ts ≡ spec_words_text all rest x.rest
      pub fits : FitsRole all role rest
      pub named : spec_words_scopes rest s ≡ Some x.scopes
      pub low : (rest ≡ no_words) ⊎ (specs_height x.tree ≤ room)
      pub left : IsTail all x.rest

    of_role : (role : Role) (start : SpecStart) → may_stand role start ≡ true → role ≡ Naming
        → is_declaring start ≡ false
    of_role Declaring start may is = absurd cc
    of_role Typed start may is = absurd cc
    of_role Naming start may is = no_is (is_declaring start) may
      where
        no_is : (b : Bool) → not b ≡ true → b ≡ false
        no_is true e = absurd cc
        no_is false e = refl

    of_typed : (role : Role) (start : SpecStart) → may_stand role start ≡ true → role ≡ Typed
        → is_auto_start start ≡ false
    of_typed Declaring start may is = absurd cc
    of_typed Naming start may is = absurd cc
    of_typed Typed start may is = no_is (is_auto_start start) may
      where
        no_is : (b : Bool) → not b ≡ true → b ≡ false
        no_is true e = absurd cc
        no_is false e = refl

    words_keep : (role : Role) (words : SpecWords) (room : ℕ) (s : HeldScopes) (ts : List Lexeme) (now : SpecWords)
        (t : HeldScopes) (k : List Lexeme) (x : Found SpecWords) →
        TakesRest role words room s ts (found now t k) → word_turn inner role room now t k ≡ Some (done x)
        → TakesRest role words room s ts x
    words_keep role words room s ts now t k x h e =
        let p = turn_parts all tokens n inner laws role room now t k x e in
        let w = word_parts all tokens n inner laws role now (start_at t (is_typed now) (kind_at k)) room t k p.1 p.2 in
        subst (TakesRest role words room s ts) p.3 (by_word (start_at t (is_typed now) (kind_at k)) p.1 w.0 w.2
        (word_taken (start_at t (is_typed now) (kind_at k)) room t k p.1 h.left (start_is t (is_typed now) (kind_at k))
        (least_left (least_of (start_at t (is_typed now) (kind_at k))) (specs_height now) room w.2) w.3))
      where
        by_word : (start : SpecStart) (y : Found SpecWord) → may_stand role start ≡ true
            → max (least_of start) (specs_height now) ≤ room → WordTakes start room t k y →
            TakesRest role words room s ts (found (pushed now y.tree) y.scopes y.rest)
        by_word start y may high w =
            let one : 1 ≤ room = one_least (least_of start) room (least_one start)
            (least_left (least_of start) (specs_height now) room high) in
            record {
              rest = pushed h.rest y.tree;
              words_are = ap (λ (ws : SpecWords). pushed ws y.tree) h.words_are
                  ∙ append_append words h.rest (more_words y.tree no_words);
              spelled =
                  h.spelled ∙ ap (spec_words_text all h.rest) w.takes.spelled ∙ sym (pushed_text h.rest y.tree y.rest);
              fits = pushed_fits role h.rest y.tree h.fits w.takes.fits (λ is. w.of_type (of_role role start may is))
                  (λ is. w.plain (of_typed role start may is));
              named = pushed_scopes h.rest y.tree s t y.scopes h.named w.takes.named;
              low = inr (pushed_height now y.tree room (least_right (least_of start) (specs_height now) room high)
                  (one_more (spec_word_height y.tree) room one w.takes.low));
              left = w.takes.left;
            }

    -- a turn that reads nothing at a base word ends before it
    base_stops : (role : Role) (room : ℕ) (words : SpecWords) (s : HeldScopes) (ts : List Lexeme)
        → word_turn inner role room words s ts ≡ None → is_base_word (kind_at ts) ≡ true →
        goes_on words (classes.Spells keywords.BaseWord) ≡ false
    base_stops role room words s ts e base = at_kind (kind_at ts) base e
      where
        last_of : (a b c d e : Bool) → a && b && c && d && not e ≡ true → e ≡ false
        last_of a b c d false h = refl
        last_of true true true true true h = absurd cc
        last_of false b c d true h = absurd cc
        last_of true false c d true h = absurd cc
        last_of true true false d true h = absurd cc
        last_of true true true false true h = absurd cc

        by_end : (b : Bool) → ends_before s words (starts.Basic keywords.BaseWord) ≡ b →
            (if b then None else Some (and_then (word_with inner role words (starts.Basic keywords.BaseWord) room s ts)
            (λ word. ends (pushed words word.tree) word.scopes word.rest))) ≡ None →
            goes_on words (classes.Spells keywords.BaseWord) ≡ false
        by_end true is e =
            last_of (is_wide s || has_auto words) true (has_typedef_word (storage_words words)) (is_whole_mix words)
            (goes_on words (classes.Spells keywords.BaseWord)) is
        by_end false is e = absurd cc

        at_kind : (kind : TokenKind) → is_base_word kind ≡ true
            → word_turn_by inner role room (start_at s (is_typed words) kind) words s ts ≡ None
            → goes_on words (classes.Spells keywords.BaseWord) ≡ false
        at_kind (kinds.Keyword keywords.BaseWord) base e =
            by_end (ends_before s words (starts.Basic keywords.BaseWord)) refl e
        at_kind kind base e = absurd cc

    pub specs_sound : WholeAreMixes
        → (role : Role) (words : SpecWords) (room : ℕ) (s : HeldScopes) (ts : List Lexeme) (x : Found SpecWords)
        → IsTail all ts → specs_with inner role words room s ts ≡ done x →
        TakesWords all role words room s ts x
    unfolding specs_with
    specs_sound whole_are role words room s ts x tail e =
        let a = bind_ok e in
        let w = whole_ok all tokens n inner laws a.0.tree a.0.scopes a.0.rest x a.2 in
        of_rest x (subst (TakesRest role words room s ts) w.1
        (run-keep (word_turn inner role room) (λ now t k. TakesRest role words room s ts (found now t k))
        (λ now t k x h e. words_keep role words room s ts now t k x h e) words s ts a.0
        (record {
          rest = no_words;
          words_are = sym (append_nothing words);
          spelled = refl;
          fits = none_fit role;
          named = refl;
          low = inl refl;
          left = tail;
        }) a.1))
        (subst (λ (x : Found SpecWords). is_whole_mix x.tree ≡ true) w.1 w.0)
        (subst (λ (x : Found SpecWords). word_turn inner role room x.tree x.scopes x.rest ≡ None) w.1
        (run_stops (word_turn inner role room)
        (word_turn_shrinks all tokens n inner laws role room) words s ts a.0 a.1))
      where
        of_rest : (y : Found SpecWords) → TakesRest role words room s ts y → is_whole_mix y.tree ≡ true
            → word_turn inner role room y.tree y.scopes y.rest ≡ None → TakesWords all role words room s ts y
        of_rest y t is stopped = record {
          rest = t.rest;
          words_are = t.words_are;
          mix = (whole_are y.tree).0 is;
          spelled = t.spelled;
          fits = t.fits;
          stops = base_stops role room y.tree y.scopes y.rest stopped;
          named = t.named;
          low = t.low;
          left = t.left;
        }
