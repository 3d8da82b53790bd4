-- A word, a sign or a colour text at a place: how it is read, and where it fails.
use Rattle.std.proofs.Common.{◌≡◌, ℕ, zero, suc, ◌<◌, ◌≤◌, ◌+◌, ◌-◌, Bool, true, false, not, ◌||◌, nat_eq, List, [], ◌∷◌, ◌++◌, length, take, drop, get_or, refl, sym, ◌∙◌, ap, subst, arith, ◌⊎◌, inl, inr, Option, Some, None, append_assoc, drop-cons}
use Rattle.std.specs.Prelude.{is_some}
use Rattle.std.specs.List.{list_all, slice_range}
use Rattle.std.proofs.lemmas.Bool.{eqb-true}
use Rattle.std.proofs.lemmas.Grind.{common_steps}
use Rattle.std.proofs.lemmas.List.{take-append-drop, take_more}
use Rattle.std.proofs.lemmas.List.Folds.{list_all-append}
use Rattle.qual_base.proofs.Tests.{and_second, and_first}
use Rattle.lattice_file.specs.Text.{lengthens, ends_line, stands_in_words, stands_in_text}
use Rattle.lattice_file.specs.Steps.{Lexeme, WordLexeme, SignLexeme, TextLexeme, Spells, Standing, next, next_by_word, next_by_sign, next_by_text, only_if}
use Rattle.lattice_file.specs.Extents.{first, Resembles, IsFront, may_come, LexemeGoes, LexemeBegins, LexemeFails}
use Rattle.lattice_file.proofs.GapUnique.{head_same, tail_same, row_one}
use Rattle.lattice_file.proofs.LexemeUnique.{IsProper, InWord, AtSign, kind_of, word_kind, word_stop}
use Rattle.lattice_file.proofs.StepAble.{proper}
use Rattle.lattice_file.proofs.FirstBad.{slice_none, slice_join}

pub slice_prefix : (bytes : List ℕ) (at end k : ℕ) → at + k ≤ end → end ≤ length bytes
    → slice_range bytes at (at + k) ≡ take k (slice_range bytes at end)
slice_prefix bytes at end k le within = grind (arith, common_steps)

pub slice_count : (bytes : List ℕ) (at end : ℕ) → at ≤ end → end ≤ length bytes
    → length (slice_range bytes at end) ≡ end - at
slice_count bytes at end le within = grind (arith, common_steps)

pub slice_at : (bytes : List ℕ) (at end k : ℕ) → at + k < end → end ≤ length bytes
    → get_or (slice_range bytes at end) k 0 ≡ get_or bytes (at + k) 0
slice_at bytes at end k lt within = grind (arith, common_steps)

taken_count : (word : List ℕ) (k : ℕ) → k < length word → length (take (k + 1) word) ≡ k + 1
taken_count word k h = grind (arith, common_steps)

pub slice_one : (bytes : List ℕ) (at : ℕ) → at < length bytes → slice_range bytes at (at + 1) ≡ get_or bytes at 0 ∷ []
slice_one bytes at h = grind (arith, common_steps)

pub head_is : (bytes : List ℕ) (at : ℕ) → at < length bytes → first (drop at bytes) ≡ Some (get_or bytes at 0)
head_is bytes at h = ap first (drop-cons bytes at 0 h)

-- where bytes do not lengthen a word, others with the same first byte do not
lengthens_first : (a b : List ℕ) → first a ≡ first b → lengthens b ≡ false → lengthens a ≡ false
lengthens_first [] b e h = refl
lengthens_first (x ∷ a) [] e h = absurd cc
lengthens_first (x ∷ a) (y ∷ b) e h = subst (λ (z : ℕ). stands_in_words z ≡ false) (same x y e) h
  where
    same : (x y : ℕ) → Some x ≡ Some y → y ≡ x
    same x y e = cc

-- where bytes end a line, others with the same first byte do
pub line_first : (a b : List ℕ) → first a ≡ first b → ends_line b ≡ true → ends_line a ≡ true
line_first [] b e h = refl
line_first (x ∷ a) [] e h = absurd cc
line_first (x ∷ a) (y ∷ b) e h = subst (λ (z : ℕ). nat_eq z 10 ≡ true) (same x y e) h
  where
    same : (x y : ℕ) → Some x ≡ Some y → y ≡ x
    same x y e = cc

resembles_stops : (tail rest : List ℕ) → Resembles tail rest → lengthens rest ≡ false → lengthens tail ≡ false
resembles_stops tail rest (inl e) h = lengthens_first tail rest e h
resembles_stops tail rest (inr e) h = lengthens_first tail (10 ∷ []) e refl

-- a word that may come leads to some standing
some_of : (standing : Standing) (word : List ℕ) → may_come standing word ≡ true
    → (new : Standing) × (next standing (WordLexeme word) ≡ Some new)
some_of standing word h = by (next standing (WordLexeme word)) refl h
  where
    by : (o : Option Standing) → next standing (WordLexeme word) ≡ o → is_some o ≡ true
        → (new : Standing) × (next standing (WordLexeme word) ≡ Some new)
    by (Some new) e h = (new, e)
    by None e h = absurd cc

-- a word that leads on may come
comes : (standing new : Standing) (word : List ℕ) → next standing (WordLexeme word) ≡ Some new
    → may_come standing word ≡ true
comes standing new word e =
    let it : next_by_word standing.stage standing.given standing.draft word ≡ Some new = e in
    ap is_some it

-- bytes that begin with a row of word bytes are a word that begins so
pub record WordRead (lexeme : Lexeme) (front tail rest : List ℕ) : Type 0 where
  pub word : List ℕ
  pub is : lexeme ≡ WordLexeme word
  pub more : List ℕ
  pub longer : word ≡ front ++ more
  pub whole : front ++ tail ≡ word ++ rest
  pub ends : lengthens rest ≡ false

-- a word that is read where others of its bytes stand goes on at least as far as these
longer_word : (front tail word rest : List ℕ) → list_all stands_in_words front ≡ true → lengthens rest ≡ false
    → front ++ tail ≡ word ++ rest → (more : List ℕ) × (word ≡ front ++ more)
longer_word [] tail word rest h stops e = (word, refl)
longer_word (x ∷ front) tail [] rest h stops e =
    absurd (word_stop x (front ++ tail) (subst (λ (r : List ℕ). lengthens r ≡ false) (sym e) stops)
    (and_first (stands_in_words x) (list_all stands_in_words front) h))
longer_word (x ∷ front) tail (y ∷ word) rest h stops e =
    let on = longer_word front tail word rest (and_second (stands_in_words x) (list_all stands_in_words front) h) stops
    (tail_same x y (front ++ tail) (word ++ rest) e) in
    (on.0, same x y word (front ++ on.0) (head_same x y (front ++ tail) (word ++ rest) e) on.1)
  where
    same : (x y : ℕ) (t u : List ℕ) → x ≡ y → t ≡ u → y ∷ t ≡ x ∷ u
    same x y t u e f = cc

-- a lexeme that is read where a byte of words stands is a word, and goes on as far as such bytes do
word_read : (lexeme : Lexeme) (x : ℕ) (front tail rest : List ℕ) → IsProper lexeme
    → list_all stands_in_words (x ∷ front) ≡ true → Spells lexeme ((x ∷ front) ++ tail) rest
    → WordRead lexeme (x ∷ front) tail rest
word_read (WordLexeme word) x front tail rest p h s =
    let on = longer_word (x ∷ front) tail word rest h s.1 s.0 in
    record { word = word; is = refl; more = on.0; longer = on.1; whole = s.0; ends = s.1 }
word_read (SignLexeme sign) x front tail rest p h s =
    let k : InWord ≡ AtSign = sym (word_kind x (and_first (stands_in_words x) (list_all stands_in_words front) h))
    ∙ ap kind_of (head_same x sign (front ++ tail) rest s) ∙ p in
    absurd cc
word_read TextLexeme x front tail rest p h s =
    let k : InWord ≡ kind_of 34 = sym (word_kind x (and_first (stands_in_words x) (list_all stands_in_words front) h))
    ∙ ap kind_of (head_same x 34 (front ++ tail) (s.0 ++ 34 ∷ rest) s.1) in
    absurd cc

word_read_long : (lexeme : Lexeme) (front tail rest : List ℕ) → 0 < length front → IsProper lexeme
    → list_all stands_in_words front ≡ true → Spells lexeme (front ++ tail) rest → WordRead lexeme front tail rest
word_read_long lexeme [] tail rest long p h s = absurd (omega (arith, long))
word_read_long lexeme (x ∷ front) tail rest long p h s = word_read lexeme x front tail rest p h s

pub first_cons : (tail : List ℕ) (b : ℕ) → first tail ≡ Some b → (more : List ℕ) × (tail ≡ b ∷ more)
first_cons [] b e = absurd cc
first_cons (x ∷ tail) b e = (tail, cc)

-- the first bytes of a word stand in words where all of it do
all_taken : (word : List ℕ) (k : ℕ) → list_all stands_in_words word ≡ true
    → list_all stands_in_words (take k word) ≡ true
all_taken word k h =
    and_first (list_all stands_in_words (take k word)) (list_all stands_in_words (drop k word))
    (sym (list_all-append stands_in_words (take k word) (drop k word))
    ∙ ap (list_all stands_in_words) (take-append-drop k word) ∙ h)

-- a word that may come
pub word_goes : (old new : Standing) (bytes : List ℕ) (at end : ℕ) → lengthens (drop end bytes) ≡ false
    → next old (WordLexeme (slice_range bytes at end)) ≡ Some new → LexemeGoes old new bytes at end
word_goes old new bytes at end stops e = record {
  lexeme = WordLexeme (slice_range bytes at end);
  next_is = e;
  spells = λ tail likes. (refl, resembles_stops tail (drop end bytes) likes stops);
}

-- the front of a word for what may come is empty, or begins a lexeme that may come
word_begins : (old : Standing) (bytes : List ℕ) (at end front : ℕ) → at + front ≤ end → end ≤ length bytes
    → IsFront (may_come old) (slice_range bytes at end) front
    → (at + front ≡ at) ⊎ LexemeBegins old bytes at (at + front)
word_begins old bytes at end zero le within f = inl (omega arith)
word_begins old bytes at end (suc k) le within f = by f.begins
  where
    by : (suc k ≡ 0) ⊎ ((more : List ℕ) × (may_come old (take (suc k) (slice_range bytes at end) ++ more) ≡ true))
        → (at + suc k ≡ at) ⊎ LexemeBegins old bytes at (at + suc k)
    by (inl e) = absurd (omega (arith, e))
    by (inr (more, e)) =
        let new = some_of old (take (suc k) (slice_range bytes at end) ++ more) e in
        inr (record {
          longer = omega arith;
          lexeme = WordLexeme (take (suc k) (slice_range bytes at end) ++ more);
          new = new.0;
          next_is = new.1;
          more = more;
          spells = λ tail. (
            sym (append_assoc (slice_range bytes at (at + suc k)) more (10 ∷ tail))
                ∙ ap (λ (w : List ℕ). (w ++ more) ++ 10 ∷ tail) (slice_prefix bytes at end (suc k) le within),
            refl,
          );
        })

-- a word that fails at one of its bytes
pub word_fails_inside : (old : Standing) (bytes : List ℕ) (at end front : ℕ) → at < end → end ≤ length bytes
    → list_all stands_in_words (slice_range bytes at end) ≡ true →
    IsFront (may_come old) (slice_range bytes at end) front → front < length (slice_range bytes at end)
    → LexemeFails old bytes at (at + front)
word_fails_inside old bytes at end front less within all f short = record {
  later = omega arith;
  within = omega (arith, inside, within);
  begins = word_begins old bytes at end front (omega (arith, inside)) within f;
  fails = λ tail rest lexeme new here spells e.
      let b = get_or bytes (at + front) 0 in
      let more = first_cons tail b (here ∙ head_is bytes (at + front) (omega (arith, inside, within))) in
      let same : slice_range bytes at (at + front) ++ tail ≡ take (front + 1) (slice_range bytes at end) ++ more.0 =
      ap (λ (t : List ℕ). slice_range bytes at (at + front) ++ t) more.1
      ∙ ap (λ (w : List ℕ). w ++ b ∷ more.0) (slice_prefix bytes at end front (omega (arith, inside)) within)
      ∙ sym (append_assoc (take front (slice_range bytes at end)) (b ∷ []) more.0)
      ∙ ap (λ (w : List ℕ). w ++ more.0) (ap (λ (b : ℕ). take front (slice_range bytes at end) ++ b ∷ [])
      (sym (slice_at bytes at end front inside within)) ∙ sym (take_more (slice_range bytes at end) front 0 short)) in
      refuse more.0 rest lexeme new (subst (λ (w : List ℕ). Spells lexeme w rest) same spells) e;
}
  where
    inside : at + front < end
    inside = omega (arith, short, slice_count bytes at end (omega (arith, less)) within)

    refuse : (tail rest : List ℕ) (lexeme : Lexeme) (new : Standing)
        → Spells lexeme (take (front + 1) (slice_range bytes at end) ++ tail) rest → next old lexeme ≡ Some new → ⊥
    refuse tail rest lexeme new spells e =
        let taken : length (take (front + 1) (slice_range bytes at end)) ≡ front + 1 =
        taken_count (slice_range bytes at end) front short in
        let read = word_read_long lexeme (take (front + 1) (slice_range bytes at end)) tail rest (omega (arith, taken))
        (proper old lexeme new e) (all_taken (slice_range bytes at end) (front + 1) all) spells in
        let is : lexeme ≡ WordLexeme (take (front + 1) (slice_range bytes at end) ++ read.more) =
        read.is ∙ ap (λ (w : List ℕ). WordLexeme w) read.longer in
        f.ends short read.more (comes old new (take (front + 1) (slice_range bytes at end) ++ read.more)
        (subst (λ (x : Lexeme). next old x ≡ Some new) is e))

-- a word that may not end where it does
pub word_fails_behind : (old : Standing) (bytes : List ℕ) (at end front : ℕ) → at < end → end ≤ length bytes
    → list_all stands_in_words (slice_range bytes at end) ≡ true → lengthens (drop end bytes) ≡ false →
    IsFront (may_come old) (slice_range bytes at end) front → length (slice_range bytes at end) ≤ front
    → may_come old (slice_range bytes at end) ≡ false → LexemeFails old bytes at end
word_fails_behind old bytes at end front less within all stops f long refused = record {
  later = omega (arith, less);
  within = within;
  begins = subst (λ (p : ℕ). (p ≡ at) ⊎ LexemeBegins old bytes at p) whole
      (word_begins old bytes at end front (omega (arith, whole)) within f);
  fails = λ tail rest lexeme new here spells e.
      let word = slice_range bytes at end in
      let read =
      word_read_long lexeme word tail rest (omega (arith, less, count)) (proper old lexeme new e) all spells in
      let mine = subst IsProper read.is (proper old lexeme new e) in
      let same = row_one stands_in_words (λ bytes. lengthens bytes ≡ false) word_stop word read.word tail rest all
      mine.3 (lengthens_first tail (drop end bytes) here stops) read.ends read.whole in
      let is : lexeme ≡ WordLexeme word = read.is ∙ ap (λ (w : List ℕ). WordLexeme w) (sym same.0) in
      let clash : false ≡ true =
      sym refused ∙ comes old new word (subst (λ (x : Lexeme). next old x ≡ Some new) is e) in
      absurd cc;
}
  where
    count : length (slice_range bytes at end) ≡ end - at
    count = slice_count bytes at end (omega (arith, less)) within

    whole : at + front ≡ end
    whole = omega (arith, long, f.within, count, less)

-- a sign that may come
pub sign_goes : (old new : Standing) (bytes : List ℕ) (at : ℕ) → at < length bytes
    → next old (SignLexeme (get_or bytes at 0)) ≡ Some new → LexemeGoes old new bytes at (at + 1)
sign_goes old new bytes at within e = record {
  lexeme = SignLexeme (get_or bytes at 0);
  next_is = e;
  spells = λ tail likes. ap (λ (front : List ℕ). front ++ tail) (slice_one bytes at within);
}

-- a byte that begins nothing that may come
pub sign_fails : (old : Standing) (bytes : List ℕ) (at : ℕ) → at < length bytes
    → stands_in_words (get_or bytes at 0) ≡ false
    → next_by_sign old.stage old.given old.draft (get_or bytes at 0) ≡ None →
    (get_or bytes at 0 ≡ 34 → next_by_text old.stage old.given old.draft ≡ None) → LexemeFails old bytes at at
sign_fails old bytes at within no_word no_sign no_text = record {
  later = omega arith;
  within = omega (arith, within);
  begins = inl refl;
  fails = λ tail rest lexeme new here spells e.
      let more = first_cons tail (get_or bytes at 0) (here ∙ head_is bytes at within) in
      let same : slice_range bytes at at ++ tail ≡ get_or bytes at 0 ∷ more.0 =
      ap (λ (front : List ℕ). front ++ tail) (slice_none bytes at) ∙ more.1 in
      refuse more.0 rest lexeme new (proper old lexeme new e)
      (subst (λ (w : List ℕ). Spells lexeme w rest) same spells) e;
}
  where
    refuse : (tail rest : List ℕ) (lexeme : Lexeme) (new : Standing) → IsProper lexeme
        → Spells lexeme (get_or bytes at 0 ∷ tail) rest → next old lexeme ≡ Some new → ⊥
    refuse tail rest (WordLexeme word) new p s e =
        let all : list_all stands_in_words (p.0 ∷ p.1) ≡ true =
        subst (λ (w : List ℕ). list_all stands_in_words w ≡ true) p.2 p.3 in
        let head : get_or bytes at 0 ≡ p.0 =
        head_same (get_or bytes at 0) p.0 tail (p.1 ++ rest) (s.0 ∙ ap (λ (w : List ℕ). w ++ rest) p.2) in
        let yes : stands_in_words (get_or bytes at 0) ≡ true = subst (λ (b : ℕ). stands_in_words b ≡ true) (sym head)
        (and_first (stands_in_words p.0) (list_all stands_in_words p.1) all) in
        let clash : false ≡ true = sym no_word ∙ yes in absurd cc
    refuse tail rest (SignLexeme sign) new p s e =
        let same : sign ≡ get_or bytes at 0 = sym (head_same (get_or bytes at 0) sign tail rest s) in
        let none : None ≡ Some new =
        sym no_sign ∙ subst (λ (b : ℕ). next_by_sign old.stage old.given old.draft b ≡ Some new) same e in
        absurd cc
    refuse tail rest TextLexeme new p s e =
        let quote : get_or bytes at 0 ≡ 34 = head_same (get_or bytes at 0) 34 tail (s.0 ++ 34 ∷ rest) s.1 in
        let none : None ≡ Some new = sym (no_text quote) ∙ e in absurd cc

-- a colour text from its quote to the other
quoted : (bytes : List ℕ) (at end : ℕ) → at < end → end ≤ length bytes → get_or bytes at 0 ≡ 34
    → slice_range bytes at end ≡ 34 ∷ slice_range bytes (at + 1) end
quoted bytes at end less within quote =
    sym (slice_join bytes at (at + 1) end (omega arith) (omega (arith, less)) within)
    ∙ ap (λ (w : List ℕ). w ++ slice_range bytes (at + 1) end)
    (slice_one bytes at (omega (arith, less, within)) ∙ ap (λ (b : ℕ). b ∷ []) quote)

-- a range of one byte more has that byte behind it
slice_last : (bytes : List ℕ) (from end : ℕ) → from ≤ end → end < length bytes
    → slice_range bytes from (end + 1) ≡ slice_range bytes from end ++ get_or bytes end 0 ∷ []
slice_last bytes from end le within =
    sym (slice_join bytes from end (end + 1) le (omega arith) (omega (arith, within)))
    ∙ ap (λ (w : List ℕ). slice_range bytes from end ++ w) (slice_one bytes end within)

-- a quote, bytes that are no quote or line feed, and a quote are a colour text that goes on
pub text_goes : (old new : Standing) (bytes : List ℕ) (at end : ℕ) → at < end → end < length bytes
    → get_or bytes at 0 ≡ 34 → get_or bytes end 0 ≡ 34
    → list_all stands_in_text (slice_range bytes (at + 1) end) ≡ true →
    next old TextLexeme ≡ Some new → LexemeGoes old new bytes at (end + 1)
text_goes old new bytes at end less within open_quote close inside e = record {
  lexeme = TextLexeme;
  next_is = e;
  spells = λ tail likes. (slice_range bytes (at + 1) end, whole tail, inside);
}
  where
    whole : (tail : List ℕ) → slice_range bytes at (end + 1) ++ tail ≡ 34 ∷ slice_range bytes (at + 1) end ++ 34 ∷ tail
    whole tail =
        ap (λ (w : List ℕ). w ++ tail) (quoted bytes at (end + 1) (omega (arith, less))
        (omega (arith, within)) open_quote ∙ ap (λ (w : List ℕ). 34 ∷ w) (slice_last bytes (at + 1) end
        (omega (arith, less)) within ∙ ap (λ (b : ℕ). slice_range bytes (at + 1) end ++ b ∷ []) close))
        ∙ append_assoc (34 ∷ slice_range bytes (at + 1) end) (34 ∷ []) tail

abbrev IsTextStop : List ℕ → Type 0
IsTextStop bytes = (b : ℕ) (more : List ℕ) → bytes ≡ b ∷ more → stands_in_text b ≡ false

text_clash : (b : ℕ) (bytes : List ℕ) → IsTextStop (b ∷ bytes) → stands_in_text b ≡ true → ⊥
text_clash b bytes stop h = let clash : false ≡ true = sym (stop b bytes refl) ∙ h in absurd cc

-- bytes that end a line stop a colour text
line_stops_text : (bytes : List ℕ) → ends_line bytes ≡ true → IsTextStop bytes
line_stops_text [] h b more e = absurd cc
line_stops_text (x ∷ bytes) h b more e =
    let ten : 10 ≡ b = sym (eqb-true x 10 h) ∙ head_same x b bytes more e in
    subst (λ (c : ℕ). stands_in_text c ≡ false) ten refl

-- a colour text that comes to the end of its line fails there
pub text_fails : (old new : Standing) (bytes : List ℕ) (at end : ℕ) → at < end → end ≤ length bytes
    → get_or bytes at 0 ≡ 34 → ends_line (drop end bytes) ≡ true
    → list_all stands_in_text (slice_range bytes (at + 1) end) ≡ true →
    next old TextLexeme ≡ Some new → LexemeFails old bytes at end
text_fails old new bytes at end less within quote line inside e = record {
  later = omega (arith, less);
  within = within;
  begins = inr (record {
    longer = less;
    lexeme = TextLexeme;
    new = new;
    next_is = e;
    more = 34 ∷ [];
    spells = λ tail. (
      slice_range bytes (at + 1) end,
      ap (λ (w : List ℕ). w ++ (34 ∷ 10 ∷ tail)) (quoted bytes at end less within quote),
      inside,
    );
  });
  fails = λ tail rest lexeme then here spells f.
      let same : slice_range bytes at end ++ tail ≡ 34 ∷ (slice_range bytes (at + 1) end ++ tail) =
      ap (λ (w : List ℕ). w ++ tail) (quoted bytes at end less within quote) in
      refuse tail rest lexeme then (proper old lexeme then f) (line_first tail (drop end bytes) here line)
      (subst (λ (w : List ℕ). Spells lexeme w rest) same spells);
}
  where
    refuse : (tail rest : List ℕ) (lexeme : Lexeme) (then : Standing) → IsProper lexeme → ends_line tail ≡ true
        → Spells lexeme (34 ∷ (slice_range bytes (at + 1) end ++ tail)) rest → ⊥
    refuse tail rest (WordLexeme word) then p ends s =
        let all : list_all stands_in_words (p.0 ∷ p.1) ≡ true =
        subst (λ (w : List ℕ). list_all stands_in_words w ≡ true) p.2 p.3 in
        let head : 34 ≡ p.0 = head_same 34 p.0 (slice_range bytes (at + 1) end ++ tail) (p.1 ++ rest)
        (s.0 ∙ ap (λ (w : List ℕ). w ++ rest) p.2) in
        let yes : stands_in_words 34 ≡ true = subst (λ (b : ℕ). stands_in_words b ≡ true) (sym head)
        (and_first (stands_in_words p.0) (list_all stands_in_words p.1) all) in
        absurd cc
    refuse tail rest (SignLexeme sign) then p ends s =
        let head : 34 ≡ sign = head_same 34 sign (slice_range bytes (at + 1) end ++ tail) rest s in
        let k : kind_of 34 ≡ AtSign = subst (λ (b : ℕ). kind_of b ≡ AtSign) (sym head) p in absurd cc
    refuse tail rest TextLexeme then p ends s =
        let quote_stop : IsTextStop (34 ∷ rest) =
        λ b more e. subst (λ (c : ℕ). stands_in_text c ≡ false) (head_same 34 b rest more e) refl in
        let same = row_one stands_in_text IsTextStop text_clash (slice_range bytes (at + 1) end) s.0 tail
        (34 ∷ rest) inside s.2 (line_stops_text tail ends) quote_stop
        (tail_same 34 34 (slice_range bytes (at + 1) end ++ tail) (s.0 ++ 34 ∷ rest) s.1) in
        let clash : ends_line (34 ∷ rest) ≡ true = subst (λ (w : List ℕ). ends_line w ≡ true) same.1 ends in absurd cc

pub some_from : {A : Type 0} (o : Option A) → is_some o ≡ true → (x : A) × (o ≡ Some x)
some_from (Some x) h = (x, refl)
some_from None h = absurd cc

pub none_from : {A : Type 0} (o : Option A) → is_some o ≡ false → o ≡ None
none_from (Some x) h = absurd cc
none_from None h = refl

pub taken : {A : Type 0} (o : Option A) (b : Bool) (to : A) → b ≡ true → o ≡ only_if b to → o ≡ Some to
taken o true to e h = h
taken o false to e h = absurd cc

pub not_taken : {A : Type 0} (o : Option A) (b : Bool) (to : A) → b ≡ false → o ≡ only_if b to → o ≡ None
not_taken o true to e h = absurd cc
not_taken o false to e h = h

-- a word that begins with a byte of words and goes on until none lengthens it is not empty
pub word_longer : (bytes : List ℕ) (at end : ℕ) → at ≤ end → at < length bytes
    → stands_in_words (get_or bytes at 0) ≡ true → lengthens (drop end bytes) ≡ false → at < end
word_longer bytes at end le within word stops = by (end - at) (omega (arith, le))
  where
    same : at ≡ end → ⊥
    same e =
        let is : drop at bytes ≡ get_or bytes at 0 ∷ drop (suc at) bytes = drop-cons bytes at 0 within in
        let here : lengthens (drop at bytes) ≡ false =
        subst (λ (p : ℕ). lengthens (drop p bytes) ≡ false) (sym e) stops in
        let no : stands_in_words (get_or bytes at 0) ≡ false = subst (λ (w : List ℕ). lengthens w ≡ false) is here in
        let clash : false ≡ true = sym no ∙ word in absurd cc

    by : (n : ℕ) → end ≡ at + n → at < end
    by zero e = absurd (same (omega (arith, e)))
    by (suc n) e = omega (arith, e)

-- a byte that stops a colour text and is no quote ends its line
pub text_line : (bytes : List ℕ) (end : ℕ) → end < length bytes → (get_or bytes end 0 ≡ 34 → ⊥)
    → stands_in_text (get_or bytes end 0) ≡ false → ends_line (drop end bytes) ≡ true
text_line bytes end within quote stop =
    let is : drop end bytes ≡ get_or bytes end 0 ∷ drop (suc end) bytes = drop-cons bytes end 0 within in
    rw is (by (nat_eq (get_or bytes end 0) 34) (nat_eq (get_or bytes end 0) 10)
    (λ h. quote (eqb-true (get_or bytes end 0) 34 h)) stop)
  where
    by : (a b : Bool) → (a ≡ true → ⊥) → not (a || b) ≡ false → b ≡ true
    by true b other h = absurd (other refl)
    by false true other h = refl
    by false false other h = absurd cc
