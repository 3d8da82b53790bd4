-- Gaps and tokens in turn lead from a place to one place, so that bytes spell at most one list of tokens.
use Rattle.std.proofs.Common.{◌≡◌, ℕ, ◌+◌, ◌<◌, Bool, true, false, ◌==◌, List, [], ◌∷◌, ◌++◌, length, take, drop, refl, sym, ◌∙◌, ap, subst, arith, Option, Some, None, IfOk, IfErr, Result, Ok, Err, inl, inr, ◌⊎◌, if◌then◌else◌}
use Rattle.std.proofs.lemmas.Bool.{both_ways, and_parts, cases_Bool, cases_order, eqb-true}
use Rattle.std.proofs.lemmas.List.{length-drop, take_all}
use Rattle.qual_base.specs.Words.{meaning_of}
use Rattle.c_lexer.specs.declared.gaps.Gap.{Gap}
use Rattle.c_lexer.specs.declared.kinds.Word.{Word}
use Rattle.c_lexer.specs.declared.kinds.Word.TheVariants.{Keyword as AsKeyword, Text as AsText}
use Rattle.c_words.specs.declared.kinds.Punct.{Punct}
use Rattle.c_words.specs.declared.kinds.TokenKind.{TokenKind}
use Rattle.c_words.specs.declared.kinds.TokenKind.TheVariants.{Name, Keyword, Number, Char, Text, Punct as Sign, Qual, Index, End}
use Rattle.c_lexer.specs.declared.token.Token.{Token}
use Rattle.c_lexer.specs.declared.places.Mark.{Mark}
use Rattle.c_lexer.specs.declared.lexing.LexFault.{LexFault}
use Rattle.c_lexer.specs.declared.lexing.LexFault.TheVariants.{BadByte, Unended, UnknownQualifier, NoMemory}
use Rattle.c_lexer.specs.Tokens.{Lexed, IsSpelled}
use Rattle.c_lexer.specs.Refusals.{IsRefusal, IsOnly}
use Rattle.c_lexer.specs.Words.{word_kind, sign_kind}
use Rattle.c_lexer.specs.Names.{name_number}
use Rattle.c_lexer.specs.Spelling.{is_letter, is_word, is_number, is_char, is_text, is_dollar, is_token, begins_with, IsLongestOf}
use Rattle.c_lexer.specs.Gaps.{IsGap, fresh_behind}
use Rattle.c_lexer.specs.Reading.{Meanings, Front, begin, is_index, IsKind, names_behind, MarksBehind, Skips, Takes, Reaches, IsStep, Spells, IsStuck, IsUnknown}
use Rattle.c_lexer.specs.Reading.Reaches.{begins, skips, takes}
use Rattle.c_lexer.proofs.QuoteLemmas.{wide_cases}
use Rattle.c_lexer.proofs.SignLemmas.{sign-letter, sign-quote, sign-double, sign-dollar}
use Rattle.c_lexer.proofs.TokenLemmas.{Opens, Others, opens_others, char_opens, text_opens, dollar_word, dollar_number, number_sign, letter_number}
use Rattle.c_lexer.proofs.TokenLemmas.Opens.{plain, wide as by_wide, utf}
use Rattle.c_lexer.proofs.StepLemmas.{token-some}
use Rattle.c_lexer.proofs.ReachLemmas.{reaches-kept, step-further}
use Rattle.c_lexer.proofs.UniqueLemmas.{gap-unique, gap-len, gap-no_token, marks-unique}

-- the kind of a token that bytes can be
abbrev word_is : Option Word → ℕ → TokenKind
word_is None number = Name number
word_is (Some (AsKeyword keyword)) number = Keyword keyword
word_is (Some AsText) number = Text

-- the kind of a `$` word, by whether it is an index word and by what it means
abbrev dollar_is : Bool → Option (ℕ × ℕ) → TokenKind
dollar_is true meaning = Index
dollar_is false None = End
dollar_is false (Some pair) = Qual pair.0 pair.1

abbrev sign_is : Option Punct → TokenKind
sign_is None = End
sign_is (Some sign) = Sign sign

-- the kind of the token that bytes are, by the first kind of spelling that fits
abbrev kind_is : ℕ → Bool → Meanings → List (List ℕ) → List ℕ → TokenKind
kind_is unit wide words names bytes =
    if is_word bytes then word_is (word_kind wide bytes) (name_number names bytes)
    else (if is_number bytes then Number else (if is_char bytes then Char else (if is_text bytes then Text
    else (if is_dollar bytes then dollar_is (is_index unit bytes) (meaning_of words bytes)
    else sign_is (sign_kind bytes)))))

-- a number is no word
number_word : (a : List ℕ) → is_number a ≡ true → is_word a ≡ false
number_word [] h = refl
number_word (c ∷ cs) h = by_test (cases_Bool (is_letter c))
  where
    by_test : (is_letter c ≡ true) ⊎ (is_letter c ≡ false) → is_word (c ∷ cs) ≡ false
    by_test (inl e) = absurd (both_ways _ (letter_number (c ∷ cs) e) h)
    by_test (inr e) = rw e refl

-- no character constant stands where a string literal opens
text_char : (a : List ℕ) → Opens 34 a → is_char a ≡ false
text_char [] (plain e) = absurd cc
text_char (c ∷ cs) (plain e) = let same : c ≡ 34 = eqb-true c 34 e in rw same refl
text_char [] (by_wide e f) = absurd cc
text_char (c ∷ []) (by_wide e f) = absurd cc
text_char (c ∷ d ∷ cs) (by_wide e f) = by_case (wide_cases c e) (eqb-true d 34 f)
  where
    by_case : ((c ≡ 76) ⊎ (c ≡ 117)) ⊎ (c ≡ 85) → d ≡ 34 → is_char (c ∷ d ∷ cs) ≡ false
    by_case (inl (inl g)) same = rw (g, same) refl
    by_case (inl (inr g)) same = rw (g, same) refl
    by_case (inr g) same = rw (g, same) refl
text_char [] (utf e f g) = absurd cc
text_char (c ∷ []) (utf e f g) = absurd cc
text_char (c ∷ d ∷ []) (utf e f g) = absurd cc
text_char (c ∷ d ∷ h ∷ cs) (utf e f g) =
    let first : c ≡ 117 = eqb-true c 117 e in let second : d ≡ 56 = eqb-true d 56 f in rw (first, second) refl

char_others : (a : List ℕ) → is_char a ≡ true → Others a
char_others a h = opens_others 39 refl refl refl sign-quote a (char_opens a h)

text_others : (a : List ℕ) → is_text a ≡ true → Others a
text_others a h = opens_others 34 refl refl refl sign-double a (text_opens a h)

dollar_begins : (a : List ℕ) → is_dollar a ≡ true → begins_with (λ c. c == 36) a ≡ true
dollar_begins [] h = absurd cc
dollar_begins (c ∷ cs) h = (and_parts (c == 36) _ h).0

dollar_char : (a : List ℕ) → begins_with (λ c. c == 36) a ≡ true → is_char a ≡ false
dollar_char [] h = absurd cc
dollar_char (c ∷ cs) h = let e : c ≡ 36 = eqb-true c 36 h in rw e refl

dollar_text : (a : List ℕ) → begins_with (λ c. c == 36) a ≡ true → is_text a ≡ false
dollar_text [] h = absurd cc
dollar_text (c ∷ cs) h = let e : c ≡ 36 = eqb-true c 36 h in rw e refl

-- a test that leaves no sign fails on a sign
sign_apart : (test : List ℕ → Bool) (a : List ℕ) (sign : Punct) → sign_kind a ≡ Some sign
    → (test a ≡ true → sign_kind a ≡ None) → test a ≡ false
sign_apart test a sign is none = by_test (cases_Bool (test a))
  where
    by_test : (test a ≡ true) ⊎ (test a ≡ false) → test a ≡ false
    by_test (inl e) = absurd (let h = sym is ∙ none e in cc)
    by_test (inr e) = e

word_begins : (a : List ℕ) → is_word a ≡ true → begins_with is_letter a ≡ true
word_begins [] h = absurd cc
word_begins (c ∷ cs) h = (and_parts (is_letter c) _ h).0

-- a number is no sign
number_none : (a : List ℕ) → is_number a ≡ true → sign_kind a ≡ None
number_none a h =
    let all : take (length a) a ≡ a = take_all (length a) a (omega arith) in
    let N : List ℕ → Type 0 = λ l. is_number l ≡ true in
    let K : List ℕ → Type 0 = λ l. sign_kind l ≡ None in
    subst K all (number_sign a (length a) (length a) (omega arith) (subst N (sym all) h))

-- a token's kind is the one that its bytes determine
is_kind-is : (unit : ℕ) (wide : Bool) (words : Meanings) (names : List (List ℕ)) (a : List ℕ) (kind : TokenKind)
    → IsKind unit wide words names a kind → kind_is unit wide words names a ≡ kind
is_kind-is unit wide words names a (Name id) h = rw (h.0, h.1) (ap Name (sym h.2))
is_kind-is unit wide words names a (Keyword keyword) h = rw (h.0, h.1) refl
is_kind-is unit wide words names a Number h = rw (number_word a h, h) refl
is_kind-is unit wide words names a Char h = let others = char_others a h in rw (others.word, others.number, h) refl
is_kind-is unit wide words names a Text (inl h) =
    let others = text_others a h in
    rw (others.word, others.number, text_char a (text_opens a h), h) refl
is_kind-is unit wide words names a Text (inr h) = rw (h.0, h.1) refl
is_kind-is unit wide words names a (Sign sign) h =
    rw (
      sign_apart is_word a sign h (λ e. sign-letter a (word_begins a e)),
      sign_apart is_number a sign h (number_none a),
      sign_apart is_char a sign h (λ e. (char_others a e).sign),
      sign_apart is_text a sign h (λ e. (text_others a e).sign),
      sign_apart is_dollar a sign h (λ e. sign-dollar a (dollar_begins a e)),
      h,
    ) refl
is_kind-is unit wide words names a (Qual lattice elem) h =
    let begins_so = dollar_begins a h.0 in
    rw (
      dollar_word a begins_so,
      dollar_number a begins_so,
      dollar_char a begins_so,
      dollar_text a begins_so,
      h.0,
      h.1,
      h.2,
    ) refl
is_kind-is unit wide words names a Index h =
    let begins_so = dollar_begins a h.0 in
    rw (dollar_word a begins_so, dollar_number a begins_so, dollar_char a begins_so, dollar_text a begins_so, h.0, h.1)
    refl
is_kind-is unit wide words names a End h = absurd h

-- a `$` word without a meaning that is no index word has no kind
unknown_kind : (unit : ℕ) (wide : Bool) (words : Meanings) (names : List (List ℕ)) (a : List ℕ) (kind : TokenKind)
    → is_dollar a ≡ true → is_index unit a ≡ false → meaning_of words a ≡ None → ¬ IsKind unit wide words names a kind
unknown_kind unit wide words names a kind dollar no_index none h =
    let begins_so = dollar_begins a dollar in
    let ends : kind_is unit wide words names a ≡ End = rw (
      dollar_word a begins_so,
      dollar_number a begins_so,
      dollar_char a begins_so,
      dollar_text a begins_so,
      dollar,
      no_index,
      none,
    ) refl in
    let P : TokenKind → Type 0 = λ k. IsKind unit wide words names a k in
    subst P (sym (is_kind-is unit wide words names a kind h) ∙ ends) h

-- the longest token in front has one length
longest_once : (bytes : List ℕ) (n k : ℕ) → IsLongestOf is_token bytes n → IsLongestOf is_token bytes k → n ≡ k
longest_once bytes n k h g = by_order (cases_order n k)
  where
    by_order : (n ≡ k) ⊎ ((n < k) ⊎ (k < n)) → n ≡ k
    by_order (inl e) = e
    by_order (inr (inl lt)) = absurd (both_ways _ (h.longest k lt g.inside) g.passes)
    by_order (inr (inr gt)) = absurd (both_ways _ (g.longest n gt h.inside) h.passes)

same_front : (a b : Front) → a.at ≡ b.at → a.fresh ≡ b.fresh → a.tokens ≡ b.tokens → a.names ≡ b.names
    → a.marks ≡ b.marks → a ≡ b
same_front a b at fresh tokens names marks =
    λ i. record { at = at i; fresh = fresh i; tokens = tokens i; names = names i; marks = marks i }

-- a gap leads from a place to one place
skips_once : (bytes : List ℕ) (old a b : Front) → Skips bytes old a → Skips bytes old b → a ≡ b
skips_once bytes old a b h g =
    let gap = gap-unique old.fresh (drop old.at bytes) h.gap g.gap h.n g.n h.stands g.stands in
    let P : Gap → Type 0 = λ gap. IsGap gap old.fresh (drop old.at bytes) h.n in
    let n = gap-len g.gap old.fresh (drop old.at bytes) h.n g.n (subst P gap h.stands) g.stands in
    let M : Gap → Type 0 = λ gap. MarksBehind bytes gap old.at h.n old.marks a.marks in
    let N : ℕ → Type 0 = λ n. MarksBehind bytes g.gap old.at n old.marks a.marks in
    same_front a b (h.at ∙ ap (λ n. old.at + n) n ∙ sym g.at) (h.fresh ∙ ap (λ gap. fresh_behind gap old.fresh) gap
    ∙ sym g.fresh) (h.tokens ∙ sym g.tokens) (h.names ∙ sym g.names)
    (marks-unique bytes g.gap old.at g.n old.marks a.marks b.marks (subst N n (subst M gap h.marks)) g.marks)

-- a token leads from a place to one place
takes_once : (unit : ℕ) (wide : Bool) (words : Meanings) (bytes : List ℕ) (old a b : Front)
    → Takes unit wide words bytes old a → Takes unit wide words bytes old b → a ≡ b
takes_once unit wide words bytes old a b h g =
    let n = longest_once (drop old.at bytes) h.n g.n h.longest g.longest in
    let spelled : take h.n (drop old.at bytes) ≡ take g.n (drop old.at bytes) =
    ap (λ n. take n (drop old.at bytes)) n in
    let K : List ℕ → Type 0 = λ l. IsKind unit wide words old.names l h.kind in
    let kind : h.kind ≡ g.kind =
    sym (is_kind-is unit wide words old.names (take g.n (drop old.at bytes)) h.kind (subst K spelled h.is_kind))
    ∙ is_kind-is unit wide words old.names (take g.n (drop old.at bytes)) g.kind g.is_kind in
    same_front a b (h.at ∙ ap (λ n. old.at + n) n ∙ sym g.at) (h.fresh ∙ sym g.fresh)
    (h.tokens ∙ (λ i. old.tokens ++ record { kind = kind i; start = old.at; end = old.at + n i } ∷ []) ∙ sym g.tokens)
    (h.names ∙ (λ i. names_behind old.names (spelled i) (kind i)) ∙ sym g.names) (h.marks ∙ sym g.marks)

-- a step, by a gap or a token, leads from a place to one place
step_once : (unit : ℕ) (wide : Bool) (words : Meanings) (bytes : List ℕ) (old a b : Front)
    → IsStep unit wide words bytes old a → IsStep unit wide words bytes old b → a ≡ b
step_once unit wide words bytes old a b (inl h) (inl g) = skips_once bytes old a b h g
step_once unit wide words bytes old a b (inl h) (inr g) =
    absurd (gap-no_token h.gap old.fresh (drop old.at bytes) h.n g.n h.stands g.no_comment g.longest.passes)
step_once unit wide words bytes old a b (inr h) (inl g) =
    absurd (gap-no_token g.gap old.fresh (drop old.at bytes) g.n h.n g.stands h.no_comment h.longest.passes)
step_once unit wide words bytes old a b (inr h) (inr g) = takes_once unit wide words bytes old a b h g

-- steps from one place to another
data Path (unit : ℕ) (wide : Bool) (words : Meanings) (bytes : List ℕ) (from : Front) : Front → Type 0 where
  here : Path unit wide words bytes from from
  on : (b c : Front) → Path unit wide words bytes from b → IsStep unit wide words bytes b c
      → Path unit wide words bytes from c

-- a place that is reached has a path from the beginning
path_from : (unit : ℕ) (wide : Bool) (words : Meanings) (bytes : List ℕ) (x : Front) → Reaches unit wide words bytes x
    → Path unit wide words bytes begin x
path_from unit wide words bytes x begins = here
path_from unit wide words bytes x (skips old new h s) = on old new (path_from unit wide words bytes old h) (inl s)
path_from unit wide words bytes x (takes old new h s) = on old new (path_from unit wide words bytes old h) (inr s)

-- a path is empty or begins with a step
record First (unit : ℕ) (wide : Bool) (words : Meanings) (bytes : List ℕ) (a c : Front) : Type 0 where
  next : Front
  step : IsStep unit wide words bytes a next
  rest : Path unit wide words bytes next c

-- a path is empty or has a first step
first_of : (unit : ℕ) (wide : Bool) (words : Meanings) (bytes : List ℕ) (a c : Front) → Path unit wide words bytes a c
    → (a ≡ c) ⊎ First unit wide words bytes a c
first_of unit wide words bytes a c here = inl refl
first_of unit wide words bytes a c (on b d path s) = by_case (first_of unit wide words bytes a b path)
  where
    by_case : (a ≡ b) ⊎ First unit wide words bytes a b → (a ≡ d) ⊎ First unit wide words bytes a d
    by_case (inl e) =
        let P : Front → Type 0 = λ f. IsStep unit wide words bytes f d in
        inr (record { next = d; step = subst P (sym e) s; rest = here })
    by_case (inr h) = inr (record { next = h.next; step = h.step; rest = on b d h.rest s })

-- of two places that steps lead to, one leads to the other
compare : (unit : ℕ) (wide : Bool) (words : Meanings) (bytes : List ℕ) (x y : Front)
    → Path unit wide words bytes begin x → Path unit wide words bytes begin y
    → Path unit wide words bytes x y ⊎ Path unit wide words bytes y x
compare unit wide words bytes x y to here = inr to
compare unit wide words bytes x y to (on b c path s) = by_case (compare unit wide words bytes x b to path)
  where
    by_first : (b ≡ x) ⊎ First unit wide words bytes b x
        → Path unit wide words bytes x c ⊎ Path unit wide words bytes c x
    by_first (inl e) = let P : Front → Type 0 = λ f. IsStep unit wide words bytes f c in inl (on x c here (subst P e s))
    by_first (inr h) =
        let P : Front → Type 0 = λ f. Path unit wide words bytes f x in
        inr (subst P (step_once unit wide words bytes b h.next c h.step s) h.rest)

    by_case : Path unit wide words bytes x b ⊎ Path unit wide words bytes b x
        → Path unit wide words bytes x c ⊎ Path unit wide words bytes c x
    by_case (inl before) = inl (on b c before s)
    by_case (inr behind) = by_first (first_of unit wide words bytes b x behind)

reaches_step : (unit : ℕ) (wide : Bool) (words : Meanings) (bytes : List ℕ) (a b : Front)
    → Reaches unit wide words bytes a → IsStep unit wide words bytes a b → Reaches unit wide words bytes b
reaches_step unit wide words bytes a b h (inl s) = skips a b h s
reaches_step unit wide words bytes a b h (inr s) = takes a b h s

-- a place that no step leaves
abbrev IsLast : ℕ → Bool → Meanings → List ℕ → Front → Type 0
IsLast unit wide words bytes a = (b : Front) → ¬ IsStep unit wide words bytes a b

-- no step leads on from the end of the bytes
end_last : (unit : ℕ) (wide : Bool) (words : Meanings) (bytes : List ℕ) (a : Front) → Reaches unit wide words bytes a
    → a.at ≡ length bytes → IsLast unit wide words bytes a
end_last unit wide words bytes a h whole b s =
    let further = step-further unit wide words bytes a b s in
    let inside = (reaches-kept unit wide words bytes b (reaches_step unit wide words bytes a b h s)).inside in
    absurd (omega arith)

stuck_last : (unit : ℕ) (wide : Bool) (words : Meanings) (bytes : List ℕ) (a : Front) → IsStuck bytes a
    → IsLast unit wide words bytes a
stuck_last unit wide words bytes a h b (inl s) = h.no_gap s.gap s.n s.stands
stuck_last unit wide words bytes a h b (inr s) =
    both_ways _ (h.no_token s.no_comment s.n s.longest.inside) s.longest.passes

-- no step leads on from an unknown `$` word
unknown_last : (unit : ℕ) (wide : Bool) (words : Meanings) (bytes : List ℕ) (a : Front) → IsUnknown unit words bytes a
    → IsLast unit wide words bytes a
unknown_last unit wide words bytes a h b (inl s) = h.no_gap s.gap s.n s.stands
unknown_last unit wide words bytes a h b (inr s) =
    let n = longest_once (drop a.at bytes) s.n h.n s.longest h.longest in
    let K : ℕ → Type 0 = λ n. IsKind unit wide words a.names (take n (drop a.at bytes)) s.kind in
    unknown_kind unit wide words a.names (take h.n (drop a.at bytes)) s.kind h.dollar h.no_index h.unknown
    (subst K n s.is_kind)

-- two places that no step leaves are one
pub last-once : (unit : ℕ) (wide : Bool) (words : Meanings) (bytes : List ℕ) (x y : Front)
    → Reaches unit wide words bytes x → Reaches unit wide words bytes y
    → ((b : Front) → ¬ IsStep unit wide words bytes x b) → ((b : Front) → ¬ IsStep unit wide words bytes y b) → x ≡ y
last-once unit wide words bytes x y h g last_x last_y = by_case
    (compare unit wide words bytes x y (path_from unit wide words bytes x h) (path_from unit wide words bytes y g))
  where
    from_x : (x ≡ y) ⊎ First unit wide words bytes x y → x ≡ y
    from_x (inl e) = e
    from_x (inr f) = absurd (last_x f.next f.step)

    from_y : (y ≡ x) ⊎ First unit wide words bytes y x → x ≡ y
    from_y (inl e) = sym e
    from_y (inr f) = absurd (last_y f.next f.step)

    by_case : Path unit wide words bytes x y ⊎ Path unit wide words bytes y x → x ≡ y
    by_case (inl p) = from_x (first_of unit wide words bytes x y p)
    by_case (inr p) = from_y (first_of unit wide words bytes y x p)

-- bytes spell one list of tokens and marks at most
pub spells-once : (unit : ℕ) (wide : Bool) (words : Meanings) (bytes : List ℕ) (tokens tokens' : List Token)
    (names names' : List (List ℕ)) (marks marks' : List Mark)
    → Spells unit wide words bytes tokens names marks → Spells unit wide words bytes tokens' names' marks'
    → (tokens ≡ tokens') × (marks ≡ marks')
spells-once unit wide words bytes tokens tokens' names names' marks marks' h g =
    let same = last-once unit wide words bytes h.front g.front h.reached g.reached
    (end_last unit wide words bytes h.front h.reached h.whole)
    (end_last unit wide words bytes g.front g.reached g.whole) in (
      h.tokens_are
          ∙ ap (λ (f : Front). f.tokens ++ record { kind = End; start = length bytes; end = length bytes } ∷ []) same
          ∙ sym g.tokens_are,
      h.marks_are ∙ ap (λ (f : Front). f.marks) same ∙ sym g.marks_are,
    )

-- bytes that are stuck at a place that is reached spell no tokens
pub stuck-never : (unit : ℕ) (wide : Bool) (words : Meanings) (bytes : List ℕ) (front : Front) (tokens : List Token)
    (names : List (List ℕ)) (marks : List Mark)
    → Reaches unit wide words bytes front → IsStuck bytes front → Spells unit wide words bytes tokens names marks → ⊥
stuck-never unit wide words bytes front tokens names marks reached stuck h =
    let same = last-once unit wide words bytes front h.front reached h.reached
    (stuck_last unit wide words bytes front stuck) (end_last unit wide words bytes h.front h.reached h.whole) in
    let inside = stuck.inside in let at = ap (λ (f : Front). f.at) same in let whole = h.whole in absurd (omega arith)

-- bytes with an unknown `$` word at a place that is reached spell no tokens
pub unknown-never : (unit : ℕ) (wide : Bool) (words : Meanings) (bytes : List ℕ) (front : Front) (tokens : List Token)
    (names : List (List ℕ)) (marks : List Mark)
    → Reaches unit wide words bytes front → IsUnknown unit words bytes front
    → Spells unit wide words bytes tokens names marks → ⊥
unknown-never unit wide words bytes front tokens names marks reached unknown h =
    let same = last-once unit wide words bytes front h.front reached h.reached
    (unknown_last unit wide words bytes front unknown) (end_last unit wide words bytes h.front h.reached h.whole) in
    let some = token-some (drop front.at bytes) unknown.n unknown.longest in
    let inside = unknown.longest.inside in
    let size = length-drop front.at bytes in
    let at = ap (λ (f : Front). f.at) same in let whole = h.whole in absurd (omega arith)

-- where bytes that spell tokens are refused, it is for want of memory
pub refused-once : (unit : ℕ) (wide : Bool) (words : Meanings) (bytes : List ℕ) (fault : LexFault)
    → IsRefusal unit wide words bytes fault → (tokens : List Token) (names : List (List ℕ)) (marks : List Mark)
    → Spells unit wide words bytes tokens names marks → fault ≡ NoMemory
refused-once unit wide words bytes (BadByte spot) h tokens names marks g =
    absurd (stuck-never unit wide words bytes h.0 tokens names marks h.1 h.2 g)
refused-once unit wide words bytes (Unended spot) h tokens names marks g =
    absurd (stuck-never unit wide words bytes h.0 tokens names marks h.1 h.2 g)
refused-once unit wide words bytes (UnknownQualifier spot) h tokens names marks g =
    absurd (unknown-never unit wide words bytes h.0 tokens names marks h.1 h.2 g)
refused-once unit wide words bytes NoMemory h tokens names marks g = refl

-- tokens that the bytes spell are those of any list that they spell
pub spelled-once : (unit : ℕ) (wide : Bool) (words : Meanings) (bytes : List ℕ) (lexed : Lexed) → lexed.unit ≡ unit
    → lexed.wide ≡ wide → lexed.bytes ≡ bytes → IsSpelled words lexed
    → (tokens : List Token) (names : List (List ℕ)) (marks : List Mark)
    → Spells unit wide words bytes tokens names marks →
    (lexed.tokens ≡ tokens) × (lexed.marks ≡ marks)
spelled-once unit wide words bytes lexed unit_is wide_is bytes_is h tokens names marks g =
    spells-once unit wide words bytes lexed.tokens tokens h.0 names lexed.marks marks
    (rw (unit_is, wide_is, bytes_is) at h.1) g

-- an answer that is spelled, or wants memory
pub answer-once : (unit : ℕ) (wide : Bool) (words : Meanings) (bytes : List ℕ) (text : ℕ × List ℕ)
    (answer : Result Lexed LexFault)
    → text ≡ (unit, bytes) → IfOk answer (λ lexed. lexed.unit ≡ text.0) → IfOk answer (λ lexed. lexed.wide ≡ wide)
    → IfOk answer (λ lexed. lexed.bytes ≡ text.1) →
    IfOk answer (λ lexed. IsSpelled words lexed) → IfErr answer (λ fault. fault ≡ NoMemory)
    → (tokens : List Token) (names : List (List ℕ)) (marks : List Mark)
    → Spells unit wide words bytes tokens names marks → IsOnly tokens marks answer
answer-once unit wide words bytes text (Ok lexed) is unit_is wide_is bytes_is spelled wants tokens names marks g =
    spelled-once unit wide words bytes lexed (unit_is ∙ ap (λ (t : ℕ × List ℕ). t.0) is) wide_is
    (bytes_is ∙ ap (λ (t : ℕ × List ℕ). t.1) is) spelled tokens names marks g
answer-once unit wide words bytes text (Err fault) is unit_is wide_is bytes_is spelled wants tokens names marks g =
    wants
