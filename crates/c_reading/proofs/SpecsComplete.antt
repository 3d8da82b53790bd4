-- Specifiers are read from their text.
use Rattle.std.proofs.Common.{◌≡◌, ℕ, ◌<◌, ◌≤◌, Bool, true, false, List, [], ◌∷◌, ◌++◌, length, Option, Some, None, inl, inr, refl, sym, ◌∙◌, ap, subst, arith}
use Rattle.std.specs.Prelude.{◌+◌, ◌-◌, max, not, ◌&&◌, ◌||◌, ◌⊎◌, Any, IsPermutation, if◌then◌else◌}
use Rattle.qual_base.proofs.Tests.{and_second, and_first}
use Rattle.c_words.specs.declared.kinds.TokenKind.{TokenKind}
use Rattle.c_words.specs.declared.kinds.TokenKind.TheVariants as kinds
use Rattle.c_words.specs.declared.kinds.Keyword.{Keyword}
use Rattle.c_words.specs.declared.kinds.Keyword.TheVariants as keywords
use Rattle.c_tree.specs.declared.lexeme.Lexeme.{Lexeme}
use Rattle.c_syntax.specs.declared.parts.Qual.TheVariants as quals
use Rattle.c_specs.specs.declared.mix.Class.TheVariants as classes
use Rattle.c_specs.specs.Mix.{class_of, goes_on, is_whole_mix, is_typed, is_type_word}
use Rattle.c_specs.specs.Reading.{append_words, pushed}
use Rattle.c_specs.specs.Laws.{WholeAreMixes, MixesGoOn}
use Rattle.c_tree.specs.Tree.{SpecWords, no_words, more_words, SpecWord, storage, thread, inline_word, noreturn, qualifier, basic, struct_type, enum_type, enum_of, typedef_name, attribute, typeof_value, typeof_type, align, auto_word}
use Rattle.c_tree.specs.Text.{tokens_between, spec_words_text, spec_word_text}
use Rattle.c_tree.specs.Height.{expr_height, some_declr_height, specs_height, spec_word_height}
use Rattle.c_tree.specs.Specifiers.{storage_words, type_words, type_count, basic_types, IsOneType, IsMix}
use Rattle.c_tree.specs.WellFormed.{IsSpecWord, IsTypeWord, IsElementKind, is_auto, has_auto}
use Rattle.c_tree.proofs.NoType.{no_type_of_none}
use Rattle.c_units.specs.HeldScopes.{HeldScopes, is_wide, names_type}
use Rattle.c_units.specs.Scoping.{has_typedef_word, where_true, spec_words_scopes, spec_word_scopes}
use Rattle.c_reading.specs.declared.kinds.Role.{Role}
use Rattle.c_reading.specs.declared.kinds.Role.TheVariants.{Declaring, Typed, Naming}
use Rattle.c_reading.specs.declared.kinds.SpecStart.{SpecStart}
use Rattle.c_reading.specs.declared.kinds.SpecStart.TheVariants as starts
use Rattle.c_reading.specs.Reading.{kind_at, take_one, run, IsNumbered}
use Rattle.c_reading.specs.Tokens.{is_open_brace, is_base_word}
use Rattle.c_reading.specs.Parts.{Inner}
use Rattle.c_reading.specs.Specifying.{start_at, is_start, is_base_start, ends_before, class_of_start, may_stand, least_of, word_by, word_with, word_turn, word_turn_by, specs_with}
use Rattle.c_reading.proofs.Binding.{found, done, bind_is, fits_is}
use Rattle.c_reading.proofs.Loops.{run_on, run_ends}
use Rattle.c_reading.proofs.Tails.{element_spelled}
use Rattle.c_reading.proofs.Forms.{behind_ok}
use Rattle.c_reading.proofs.KindFacts.{typed_same, not_true}
use Rattle.c_reading.proofs.Firsts.{role_stands, role_word, role_words, start_of, former_start, starts_some, is_name, word_starts}
use Rattle.c_reading.proofs.SpecsFalls.{word_turn_shrinks}
use Rattle.c_reading.proofs.SpecsSound.{append_nothing, append_append}
use Rattle.c_reading.proofs.SpecsCompleteBodies.{expr_high, some_same, struct_complete}
use Rattle.c_reading.proofs.SpecsCompleteTypes.{typeof_complete, former_complete}
use Rattle.c_reading.proofs.SpecsCompleteEnums.{enum_complete}
use Rattle.c_reading.proofs.Aims.{ends_specs, EndsWords, FitsRole, TokenLaws, FirstLaws, Laws}
use Rattle.c_reading.proofs.DeclrSoundParams.{specs_high}

-- how many words of types stand among words
abbrev types_in : SpecWords → ℕ
types_in ws = length (type_words ws) + type_count ws

abbrev types_of : Bool → ℕ
types_of true = 1
types_of false = 0

-- one word more counts one more type where it is one
types_more : (w : SpecWord) (ws : SpecWords) → types_in (more_words w ws) ≡ types_of (is_type_word w) + types_in ws
types_more (basic w) ws = omega arith
types_more (struct_type a b c d) ws = omega arith
types_more (enum_type e) ws = omega arith
types_more (typedef_name name) ws = omega arith
types_more w ws = omega arith

-- words followed by others count the types of both
types_append : (ws more : SpecWords) → types_in (append_words ws more) ≡ types_in ws + types_in more
types_append no_words more = omega arith
types_append (more_words w ws) more =
    let one = types_more w (append_words ws more) in
    let other = types_more w ws in
    let again = types_append ws more in
    omega (arith, one, other, again)

-- words followed by others count at least as many types that are no basic words as the latter
count_append : (ws more : SpecWords) → type_count more ≤ type_count (append_words ws more)
count_append no_words more = omega arith
count_append (more_words (struct_type a b c d) ws) more = let again = count_append ws more in omega (arith, again)
count_append (more_words (enum_type e) ws) more = let again = count_append ws more in omega (arith, again)
count_append (more_words (typedef_name name) ws) more = let again = count_append ws more in omega (arith, again)
count_append (more_words (typeof_value a b e c) ws) more = let again = count_append ws more in omega (arith, again)
count_append (more_words (typeof_type a b ws2 d c) ws) more = let again = count_append ws more in omega (arith, again)
count_append (more_words (auto_word a) ws) more = let again = count_append ws more in omega (arith, again)
count_append (more_words w ws) more = count_append ws more

-- words among which a type stands count at least one
typed_is : (ws : SpecWords) → is_typed ws ≡ true → 1 ≤ types_in ws
typed_is no_words e = absurd cc
typed_is (more_words w ws) e = by_word (is_type_word w) (types_more w ws) (λ e. typed_is ws e) e
  where
    by_word : (b : Bool) → types_in (more_words w ws) ≡ types_of b + types_in ws
        → (is_typed ws ≡ true → 1 ≤ types_in ws) → (if b then true else is_typed ws) ≡ true
        → 1 ≤ types_in (more_words w ws)
    by_word true sum again e = omega (arith, sum)
    by_word false sum again e = let some = again e in omega (arith, sum, some)

-- words among which no type stands count none
untyped_is : (ws : SpecWords) → is_typed ws ≡ false → types_in ws ≡ 0
untyped_is no_words e = omega arith
untyped_is (more_words w ws) e = by_word (is_type_word w) (types_more w ws) (λ e. untyped_is ws e) e
  where
    by_word : (b : Bool) → types_in (more_words w ws) ≡ types_of b + types_in ws
        → (is_typed ws ≡ false → types_in ws ≡ 0) → (if b then true else is_typed ws) ≡ false
        → types_in (more_words w ws) ≡ 0
    by_word true sum again e = absurd cc
    by_word false sum again e = let none = again e in omega (arith, sum, none)

-- a typedef name stands where no type does
named_once : (words : SpecWords) (w : SpecWord) (rest : SpecWords) → IsMix (append_words words (more_words w rest))
    → is_name w ≡ true → is_typed words ≡ false
named_once words (typedef_name name) rest mix is = by_typed (is_typed words) refl mix.0
  where
    total : types_in (append_words words (more_words (typedef_name name) rest))
        ≡ types_in words + types_in (more_words (typedef_name name) rest)
    total = types_append words (more_words (typedef_name name) rest)

    some : type_count (more_words (typedef_name name) rest) ≤ type_count
        (append_words words (more_words (typedef_name name) rest))
    some = count_append words (more_words (typedef_name name) rest)

    by_typed : (b : Bool) → is_typed words ≡ b → IsOneType (append_words words (more_words (typedef_name name) rest))
        → b ≡ false
    by_typed false e one = refl
    by_typed true e (inl one) = absurd (omega (arith, some, one.0))
    by_typed true e (inr one) =
        let typed = typed_is words e in
        let none : length (type_words (append_words words (more_words (typedef_name name) rest))) ≡ 0 =
        ap (λ (ks : List Keyword). length ks) one.1 in
        absurd (omega (arith, total, some, one.0, none, typed))
named_once words w rest mix is = absurd cc

-- a type stands in a mix
mix_typed : (ws : SpecWords) → IsMix ws → is_typed ws ≡ true
mix_typed ws mix = by_typed (is_typed ws) refl mix.0
  where
    nothing : (ks : List Keyword) → length ks ≡ 0 → ks ≡ []
    nothing [] e = refl
    nothing (k ∷ ks) e = absurd (omega (arith, e))

    by_typed : (b : Bool) → is_typed ws ≡ b → IsOneType ws → b ≡ true
    by_typed true e one = refl
    by_typed false e (inl one) =
        let none = untyped_is ws e in
        let long : length (type_words ws) ≡ 0 = omega (arith, none) in
        absurd (no_type_of_none
        (subst (λ (ks : List Keyword). Any (IsPermutation ks) basic_types) (nothing (type_words ws) long) one.1))
    by_typed false e (inr one) = let none = untyped_is ws e in absurd (omega (arith, none, one.0))

where_same : (b : Bool) (s s' : HeldScopes) → where_true b s ≡ Some s' → s ≡ s'
where_same true s s' e = cc
where_same false s s' e = absurd cc

former_class : (keyword : Keyword) → class_of_start (former_start keyword) ≡ classes.Named
former_class keywords.AtomicType = refl
former_class keyword = refl

former_least : (keyword : Keyword) (h : ℕ) → 3 ≤ h → least_of (former_start keyword) ≤ h + 1
former_least keywords.AtomicType h more = omega (arith, more)
former_least keyword h more = omega (arith, more)

-- the class of a word is that which its first token tells
class_is : (w : SpecWord) → class_of_start (start_of w) ≡ class_of w
class_is (storage w) = refl
class_is (thread token) = refl
class_is (inline_word token) = refl
class_is (noreturn token) = refl
class_is (qualifier (quals.Word w)) = refl
class_is (qualifier (quals.Element token)) = refl
class_is (qualifier (quals.Index token)) = refl
class_is (basic w) = refl
class_is (struct_type w attrs tag body) = refl
class_is (enum_type e) = refl
class_is (typedef_name n) = refl
class_is (attribute a) = refl
class_is (typeof_value keyword opening e closing) = refl
class_is (typeof_type w opening ws d closing) = former_class w.keyword
class_is (align a) = refl
class_is (auto_word token) = refl

-- heights

-- the least height that a word's first token tells is at most one above the word's
least_high : (w : SpecWord) → least_of (start_of w) ≤ spec_word_height w + 1
least_high (storage w) = omega arith
least_high (thread token) = omega arith
least_high (inline_word token) = omega arith
least_high (noreturn token) = omega arith
least_high (qualifier (quals.Word w)) = omega arith
least_high (qualifier (quals.Element token)) = omega arith
least_high (qualifier (quals.Index token)) = omega arith
least_high (basic w) = omega arith
least_high (struct_type w attrs tag body) = omega arith
least_high (enum_type (enum_of keyword attrs tag body)) = omega arith
least_high (typedef_name n) = omega arith
least_high (attribute a) = omega arith
least_high (typeof_value keyword opening e closing) = let one : 1 ≤ expr_height e = expr_high e in omega (arith, one)
least_high (typeof_type w opening ws d closing) =
    let one : 1 ≤ specs_height ws = specs_high ws in
    former_least w.keyword (max (specs_height ws) (some_declr_height d) + 1 + 1) (omega (arith, one))
least_high (align a) = omega arith
least_high (auto_word token) = omega arith

-- words that fit a room with others behind them fit it alone
append_left : (a b : SpecWords) (room : ℕ) → specs_height (append_words a b) ≤ room → specs_height a ≤ room
append_left no_words b room h = let one : 1 ≤ specs_height b = specs_high b in omega (arith, h, one)
append_left (more_words w a) b room h =
    let rest : specs_height a ≤ room = append_left a b room (omega (arith, h)) in
    omega (arith, h, rest)

append_right : (a b : SpecWords) (room : ℕ) → specs_height (append_words a b) ≤ room → specs_height b ≤ room
append_right no_words b room h = h
append_right (more_words w a) b room h = append_right a b room (omega (arith, h))

first_low : (w h room : ℕ) → max (w + 1) h ≤ room → w + 1 ≤ room
first_low w h room a = omega (arith, a)

both_low : (least w h room : ℕ) → least ≤ w + 1 → w + 1 ≤ room → h ≤ room → max least h ≤ room
both_low least w h room a b c = omega (arith, a, b, c)

inside : (w room : ℕ) → w + 1 ≤ room → w ≤ room - 1
inside w room h = omega (arith, h)

inside_of_least : (w room n : ℕ) → w + 1 ≤ room → room ≤ n → room - 1 < n
inside_of_least w room n h k = omega (arith, h, k)

-- kinds

end_no_start : (s : HeldScopes) (kind : TokenKind) → ends_specs kind ≡ true → is_start (start_at s true kind) ≡ false
end_no_start s kind e =
    typed_same s kind ∙ not_true (and_first (not (is_start (start_at [] true kind))) (not (is_open_brace kind)) e)

end_no_brace : (kind : TokenKind) → ends_specs kind ≡ true → is_open_brace kind ≡ false
end_no_brace kind e = not_true (and_second (not (is_start (start_at [] true kind))) (not (is_open_brace kind)) e)

element_no_brace : (kind : TokenKind) → IsElementKind kind → is_open_brace kind ≡ false
element_no_brace (kinds.Qual lattice elem) h = refl
element_no_brace kind h = absurd h

module _ (all : List Lexeme) (numbered : IsNumbered all) (tokens : TokenLaws all) (firsts : FirstLaws all) (n : ℕ)
    (inner : Inner) (laws : Laws all n inner) where
  word_no_brace : (w : SpecWord) (k : List Lexeme) → IsSpecWord all w
      → is_open_brace (kind_at (spec_word_text all w k)) ≡ false
  word_no_brace (storage w) k fits = refl
  word_no_brace (thread token) k fits = refl
  word_no_brace (inline_word token) k fits = refl
  word_no_brace (noreturn token) k fits = refl
  word_no_brace (qualifier (quals.Word w)) k fits = refl
  word_no_brace (qualifier (quals.Element token)) k fits =
      let e = element_spelled all numbered token fits.0 in
      ap (λ (ts : List Lexeme). is_open_brace (kind_at (ts ++ k))) e.1 ∙ element_no_brace e.0.kind e.3
  word_no_brace (qualifier (quals.Index token)) k fits = refl
  word_no_brace (basic w) k fits = refl
  word_no_brace (struct_type w attrs tag body) k fits = refl
  word_no_brace (enum_type (enum_of keyword attrs tag body)) k fits = refl
  word_no_brace (typedef_name n) k fits = refl
  word_no_brace (attribute a) k fits = refl
  word_no_brace (typeof_value keyword opening e closing) k fits = refl
  word_no_brace (typeof_type w opening ws d closing) k fits = refl
  word_no_brace (align a) k fits = refl
  word_no_brace (auto_word token) k fits = refl

  no_brace_behind : (role : Role) (ws : SpecWords) (k : List Lexeme) → FitsRole all role ws
      → is_open_brace (kind_at k) ≡ false → is_open_brace (kind_at (spec_words_text all ws k)) ≡ false
  no_brace_behind role no_words k fits ended = ended
  no_brace_behind role (more_words w ws) k fits ended =
      word_no_brace w (spec_words_text all ws k) (role_word all role w ws fits)

  -- a word is read by what it begins with
  word_complete : (w : SpecWord) (room : ℕ) → room ≤ n → (s s' : HeldScopes) (k : List Lexeme) → IsSpecWord all w
      → spec_word_scopes w s ≡ Some s' → spec_word_height w + 1 ≤ room → is_open_brace (kind_at k) ≡ false →
      word_by inner (start_of w) room s (spec_word_text all w k) ≡ done (found w s' k)
  unfolding word_by
  word_complete (storage w) room less s s' k fits scopes low no_brace =
      bind_is _ refl (ap (λ (s : HeldScopes). done (found (storage w) s k)) (some_same scopes))
  word_complete (thread token) room less s s' k fits scopes low no_brace =
      bind_is _ refl (ap (λ (s : HeldScopes). done (found (thread token) s k)) (some_same scopes))
  word_complete (inline_word token) room less s s' k fits scopes low no_brace =
      bind_is _ refl (ap (λ (s : HeldScopes). done (found (inline_word token) s k)) (some_same scopes))
  word_complete (noreturn token) room less s s' k fits scopes low no_brace =
      bind_is _ refl (ap (λ (s : HeldScopes). done (found (noreturn token) s k)) (some_same scopes))
  word_complete (qualifier (quals.Word w)) room less s s' k fits scopes low no_brace =
      bind_is _ refl (ap (λ (s : HeldScopes). done (found (qualifier (quals.Word w)) s k)) (some_same scopes))
  word_complete (qualifier (quals.Element token)) room less s s' k fits scopes low no_brace =
      let e = element_spelled all numbered token fits.0 in
      let taken : take_one s (tokens_between all token token ++ k) ≡ done (found token s k) =
      ap (λ (ts : List Lexeme). take_one s (ts ++ k)) e.1 ∙ ap (λ (a : ℕ). done (found a s k)) e.2 in
      bind_is _ taken (ap (λ (s : HeldScopes). done (found (qualifier (quals.Element token)) s k)) (some_same scopes))
  word_complete (qualifier (quals.Index token)) room less s s' k fits scopes low no_brace =
      bind_is _ refl (ap (λ (s : HeldScopes). done (found (qualifier (quals.Index token)) s k)) (some_same scopes))
  word_complete (basic w) room less s s' k fits scopes low no_brace =
      bind_is _ refl (ap (λ (s : HeldScopes). done (found (basic w) s k)) (some_same scopes))
  word_complete (struct_type w attrs tag body) room less s s' k fits scopes low no_brace =
      struct_complete all numbered tokens firsts n inner laws w attrs tag body (room - 1) (inside_of_least
      (spec_word_height (struct_type w attrs tag body)) room n low less) s s' k fits.1 fits.2 fits.3 scopes
      (inside (spec_word_height (struct_type w attrs tag body)) room low) no_brace
  word_complete (enum_type (enum_of keyword attrs tag body)) room less s s' k fits scopes low no_brace =
      enum_complete all numbered tokens firsts n inner laws keyword attrs tag body (room - 1)
      (inside_of_least (spec_word_height (enum_type (enum_of keyword attrs tag body))) room n low less) s s' k fits.0
      fits.1 fits.2 scopes
      (inside (spec_word_height (enum_type (enum_of keyword attrs tag body))) room low) no_brace
  word_complete (typedef_name name) room less s s' k fits scopes low no_brace =
      bind_is _ refl
      (ap (λ (s : HeldScopes). done (found (typedef_name name) s k)) (where_same (names_type s name.name) s s' scopes))
  word_complete (attribute a) room less s s' k fits scopes low no_brace =
      bind_is _ (tokens.attr_complete a s k fits)
      (ap (λ (s : HeldScopes). done (found (attribute a) s k)) (some_same scopes))
  word_complete (typeof_value keyword opening e closing) room less s s' k fits scopes low no_brace =
      typeof_complete all firsts n inner laws keyword opening e closing (room - 1)
      (inside_of_least (expr_height e + 1) room n low less) s s' k fits scopes (inside (expr_height e + 1) room low)
  word_complete (typeof_type w opening ws d closing) room less s s' k fits scopes low no_brace =
      former_complete all firsts n inner laws w opening ws d closing room (inside_of_least
      (max (specs_height ws) (some_declr_height d) + 1 + 1) room n low less) s s' k fits.0 fits.1 fits.2 fits.3 scopes
      (inside (max (specs_height ws) (some_declr_height d) + 1 + 1) room low)
  word_complete (align a) room less s s' k fits scopes low no_brace =
      bind_is _ (tokens.align_complete room a s s' k fits scopes (omega arith) refl) refl
  word_complete (auto_word token) room less s s' k fits scopes low no_brace =
      bind_is _ refl (ap (λ (s : HeldScopes). done (found (auto_word token) s k)) (some_same scopes))

  -- a word that the others go on with does not end them
  goes_through : (s : HeldScopes) (words : SpecWords) (start : SpecStart) → goes_on words (class_of_start start) ≡ true
      → ends_before s words start ≡ false
  goes_through s words start on =
      all_false (is_wide s || has_auto words) (is_base_start start) (has_typedef_word (storage_words words))
      (is_whole_mix words) (goes_on words (class_of_start start)) on
    where
      all_false : (a b c d e : Bool) → e ≡ true → (a && b && c && d && not e) ≡ false
      all_false a b c d false is = absurd cc
      all_false false b c d true is = refl
      all_false true false c d true is = refl
      all_false true true false d true is = refl
      all_false true true true false true is = refl
      all_false true true true true true is = refl

  none_either : {A : Type 0} (b : Bool) (o : Option A) → (if b then o else o) ≡ o
  none_either true o = refl
  none_either false o = refl

  end_brace : (s : HeldScopes) (words : SpecWords) (kind : TokenKind) → EndsWords s words kind
      → is_open_brace kind ≡ false
  end_brace s words kind (inl ended) = end_no_brace kind ended
  end_brace s words kind (inr base) = base_no_brace kind base.0
    where
      base_no_brace : (kind : TokenKind) → is_base_word kind ≡ true → is_open_brace kind ≡ false
      base_no_brace (kinds.Keyword keywords.BaseWord) is = refl
      base_no_brace kind is = absurd cc

  module _ (goes : MixesGoOn) where
    -- behind other words
    word_is : (role : Role) (words : SpecWords) (w : SpecWord) (room : ℕ) → room ≤ n
        → (s s' : HeldScopes) (k : List Lexeme) → IsSpecWord all w → spec_word_scopes w s ≡ Some s'
        → spec_word_height w + 1 ≤ room →
        specs_height words ≤ room → is_open_brace (kind_at k) ≡ false → may_stand role (start_of w) ≡ true
        → goes_on words (class_of w) ≡ true →
        word_with inner role words (start_of w) room s (spec_word_text all w k) ≡ done (found w s' k)
    unfolding word_with
    word_is role words w room less s s' k fits scopes low high no_brace stand on =
        let on' : goes_on words (class_of_start (start_of w)) ≡ true = ap (goes_on words) (class_is w) ∙ on in
        rw (stand, on') (fits_is (max (least_of (start_of w)) (specs_height words)) room (spec_word_text all w k) _
        (both_low (least_of (start_of w)) (spec_word_height w) (specs_height words) room (least_high w) low high)
        ∙ word_complete w room less s s' k fits scopes low no_brace)

    turn_is : (role : Role) (words : SpecWords) (w : SpecWord) (room : ℕ) → room ≤ n
        → (s s' : HeldScopes) (k : List Lexeme) → IsSpecWord all w → spec_word_scopes w s ≡ Some s'
        → spec_word_height w + 1 ≤ room →
        specs_height words ≤ room → is_open_brace (kind_at k) ≡ false → may_stand role (start_of w) ≡ true
        → goes_on words (class_of w) ≡ true → (is_name w ≡ true → is_typed words ≡ false) →
        word_turn inner role room words s (spec_word_text all w k) ≡ Some (done (found (pushed words w) s' k))
    turn_is role words w room less s s' k fits scopes low high no_brace stand on free =
        let on' : goes_on words (class_of_start (start_of w)) ≡ true = ap (goes_on words) (class_is w) ∙ on in
        ap (λ (start : SpecStart). word_turn_by inner role room start words s (spec_word_text all w k))
        (word_starts all numbered goes s s' (is_typed words) words w k fits scopes on free) ∙
        rw (goes_through s words (start_of w) on', starts_some w)
        (ap Some (bind_is _ (word_is role words w room less s s' k fits scopes low high no_brace stand on) refl))

    turn_ends : (role : Role) (words : SpecWords) (room : ℕ) (s : HeldScopes) (k : List Lexeme) → IsMix words
        → EndsWords s words (kind_at k) → word_turn inner role room words s k ≡ None
    turn_ends role words room s k mix (inl ended) =
        let no_more : is_start (start_at s (is_typed words) (kind_at k)) ≡ false = ap
        (λ (b : Bool). is_start (start_at s b (kind_at k))) (mix_typed words mix) ∙ end_no_start s (kind_at k) ended in
        rw no_more (none_either (ends_before s words (start_at s (is_typed words) (kind_at k))) None)
    turn_ends role words room s k mix (inr base) = at_kind (kind_at k) base.0 base.1
      where
        at_kind : (kind : TokenKind) → is_base_word kind ≡ true
            → ends_before s words (starts.Basic keywords.BaseWord) ≡ true
            → word_turn_by inner role room (start_at s (is_typed words) kind) words s k ≡ None
        at_kind (kinds.Keyword keywords.BaseWord) is e = rw e refl
        at_kind kind is e = absurd cc

    words_complete : (role : Role) (words rest : SpecWords) (room : ℕ) → room ≤ n
        → (s s' : HeldScopes) (k : List Lexeme) → IsMix (append_words words rest) → FitsRole all role rest
        → spec_words_scopes rest s ≡ Some s' →
        (rest ≡ no_words) ⊎ (specs_height (append_words words rest) ≤ room)
        → EndsWords s' (append_words words rest) (kind_at k) →
        run (word_turn inner role room) words s (spec_words_text all rest k)
        ≡ done (found (append_words words rest) s' k)
    words_complete role words no_words room less s s' k mix fits scopes low ended =
        run_ends (word_turn inner role room) (word_turn_shrinks all tokens n inner laws role room) words s k
        (turn_ends role words room s k (subst IsMix (append_nothing words) mix)
        (subst (λ (ws : SpecWords). EndsWords s ws (kind_at k)) (append_nothing words) (subst
        (λ (t : HeldScopes). EndsWords t (append_words words no_words) (kind_at k)) (sym (some_same scopes)) ended))) ∙
        ap (λ (s : HeldScopes). done (found words s k)) (some_same scopes) ∙
        ap (λ (words : SpecWords). done (found words s' k)) (sym (append_nothing words))
    words_complete role words (more_words w rest) room less s s' k mix fits scopes low ended =
        let b = behind_ok (spec_word_scopes w s) (spec_words_scopes rest) s' scopes in
        let same : append_words (pushed words w) rest ≡ append_words words (more_words w rest) =
        append_append words (more_words w no_words) rest in
        let high : specs_height (append_words words (more_words w rest)) ≤ room = high_of low in
        run_on (word_turn inner role room) (word_turn_shrinks all tokens n inner laws role room) words s
        (spec_word_text all w (spec_words_text all rest k)) (found (pushed words w) b.0 (spec_words_text all rest k))
        (turn_is role words w room less s b.0 (spec_words_text all rest k) (role_word all role w rest fits) b.1
        (first_low (spec_word_height w) (specs_height rest) room (append_right words (more_words w rest) room high))
        (append_left words (more_words w rest) room high)
        (no_brace_behind role rest k (role_words all role w rest fits)
        (end_brace s' (append_words words (more_words w rest)) (kind_at k) ended)) (role_stands all role w rest fits)
        (goes words w rest mix) (named_once words w rest mix)) ∙
        words_complete role (pushed words w) rest room less b.0 s' k (subst IsMix (sym same) mix)
        (role_words all role w rest fits) b.2
        (inr (subst (λ (ws : SpecWords). specs_height ws ≤ room) (sym same) high))
        (subst (λ (ws : SpecWords). EndsWords s' ws (kind_at k)) (sym same) ended) ∙
        ap (λ (words : SpecWords). done (found words s' k)) same
      where
        high_of : (more_words w rest ≡ no_words) ⊎ (specs_height (append_words words (more_words w rest)) ≤ room)
            → specs_height (append_words words (more_words w rest)) ≤ room
        high_of (inl none) = absurd cc
        high_of (inr high) = high

    pub specs_complete : WholeAreMixes → (role : Role) (words rest : SpecWords) (room : ℕ) → room ≤ n
        → (s s' : HeldScopes) (k : List Lexeme) → IsMix (append_words words rest) → FitsRole all role rest →
        spec_words_scopes rest s ≡ Some s' → (rest ≡ no_words) ⊎ (specs_height (append_words words rest) ≤ room)
        → EndsWords s' (append_words words rest) (kind_at k) →
        specs_with inner role words room s (spec_words_text all rest k) ≡ done (found (append_words words rest) s' k)
    unfolding specs_with
    specs_complete whole_are role words rest room less s s' k mix fits scopes low ended =
        let whole : is_whole_mix (append_words words rest) ≡ true = (whole_are (append_words words rest)).1 mix in
        bind_is _ (words_complete role words rest room less s s' k mix fits scopes low ended) (rw whole refl)
