-- Texts that begin with words, and lines made of these.
use Rattle.std.proofs.Common.{◌≡◌, ℕ, ◌+◌, ◌-◌, ◌*◌, ◌^◌, ◌<◌, ◌≤◌, ◌==◌, true, false, nat_lt, List, [], ◌∷◌, ◌++◌, length, take, drop, get_or, Option, Some, None, All, IfSome, refl, sym, ◌∙◌, ap, arith, ne_eqb, append_assoc}
use Rattle.std.proofs.lemmas.List.{take-append-drop, take_more, take_rest, length-append}
use Rattle.std.proofs.lemmas.List.Elements.{All-head, All-tail, All-append, All-cons, All-nil}
use Rattle.std.proofs.lemmas.List.Splits.{slice_split_at, slice_split-cons_no}
use Rattle.std.specs.List.{slice_split, onto_first}
use Rattle.std.specs.Char.{is_ascii_digit}
use Rattle.std.proofs.lemmas.Bool.{or_parts}
use Rattle.path_checker.specs.Lines.{number_behind, number_of}
use Rattle.certificate_reader.specs.declared.lines.Line.{Line}
use Rattle.certificate_reader.specs.declared.lines.Line.TheVariants.{Set, Pair}
use Rattle.certificate_reader.specs.Lines.{line_kind, words, by_letter, end_in, bits_of, set_kind, pair_kind}
use Rattle.certificate_reader.specs.Fronts.{BeginsWith, EndsAt, BeginsWords, BeginsLine}
use Rattle.path_checker.proofs.Lacking.{has, lacks_append, all_lack}
use Rattle.path_checker.proofs.Decimals.{append_behind}
use Rattle.certificate_reader.proofs.Bytes.{two_words, three_words, first_part, end_in-last}

-- a word of bytes from the digit 0 on has none below
bare_lacks : (c : ℕ) (xs : List ℕ) → c < 48 → All (λ b. 48 ≤ b) xs → has c xs ≡ false
bare_lacks c [] low bare = refl
bare_lacks c (x ∷ xs) low bare =
    let above : 48 ≤ x = All-head (λ b. 48 ≤ b) x xs bare in
    let other : (x == c) ≡ false = ne_eqb x c (λ same. omega (arith, above, low, same)) in
    rw other (bare_lacks c xs low (All-tail (λ b. 48 ≤ b) x xs bare))

-- one more digit
pub digit_more : (ds : List ℕ) (at n : ℕ) → at < length ds → number_behind 0 (take at ds) ≡ Some n
    → is_ascii_digit (get_or ds at 0) ≡ true →
    number_behind 0 (take (at + 1) ds) ≡ Some (10 * n + (get_or ds at 0 - 48))
digit_more ds at n within is digit =
    ap (number_behind 0) (take_more ds at 0 within) ∙ append_behind 0 n (take at ds) (get_or ds at 0) is digit

-- what is taken of a text is a numeral
pub numeral_taken : (text : List ℕ) (at n : ℕ) → number_behind 0 (take at text) ≡ Some n
    → All (λ b. 48 ≤ b) (take at text) →
    number_of (take at text) ≡ number_behind 0 (take at text)
    → BeginsWith (λ word. number_of word) text n (take (length text - at) (drop at text))
numeral_taken text at n is bare numeral = record {
  word = take at text;
  parts = sym (ap (λ (xs : List ℕ). take at text ++ xs) (take_rest text at) ∙ take-append-drop at text);
  read_is = numeral ∙ is;
  bare = bare;
}

-- a numeral and a letter are a name
pub name_taken : (text more rest : List ℕ) (n c end : ℕ) → BeginsWith (λ word. number_of word) text n more
    → more ≡ c ∷ rest → 48 ≤ c → by_letter (Some n) c ≡ Some end →
    BeginsWith (λ word. end_in word) text end rest
name_taken text more rest n c end it letter above is = record {
  word = it.word ++ c ∷ [];
  parts = it.parts ∙ ap (λ (xs : List ℕ). it.word ++ xs) letter ∙ sym (append_assoc it.word (c ∷ []) rest);
  read_is = end_in-last it.word c ∙ ap (λ (o : Option ℕ). by_letter o c) it.read_is ∙ is;
  bare = All-append (λ b. 48 ≤ b) it.word (c ∷ []) it.bare (All-cons (λ b. 48 ≤ b) c [] above (All-nil (λ b. 48 ≤ b)));
}

-- a word and the byte that ends it
pub ends : (read : List ℕ → Option ℕ) (end : ℕ) (text more rest : List ℕ) (n : ℕ) → BeginsWith read text n more
    → more ≡ end ∷ rest → EndsAt read end text n rest
ends read end text more rest n it is =
    record {
      word = it.word;
      parts = it.parts ∙ ap (λ (xs : List ℕ). it.word ++ xs) is;
      read_is = it.read_is;
      bare = it.bare;
    }

bits_fit : (n : ℕ) → n < 2 ^ 64 → bits_of (Some n) ≡ Some n
bits_fit n small = let yes : nat_lt n (2 ^ 64) ≡ true = grind (arith, small) in rw yes refl

module _ (text rest : List ℕ) where
  -- a name and two sets
  pub sets_front : (more last : List ℕ) (name first second : ℕ) → EndsAt (λ word. end_in word) 32 text name more
      → EndsAt (λ word. number_of word) 32 more first last →
      EndsAt (λ word. number_of word) 10 last second rest → first < 2 ^ 64 → second < 2 ^ 64
      → BeginsWords (λ words. set_kind words) text (Set name first second) rest
  sets_front more last name first second one two three low also =
      let a = one.word in
      let b = two.word in
      let c = three.word in
      let part = a ++ 32 ∷ (b ++ 32 ∷ c) in
      let whole : text ≡ part ++ 10 ∷ rest =
      one.parts ∙ ap (λ (xs : List ℕ). a ++ 32 ∷ xs)
      (two.parts ∙ ap (λ (xs : List ℕ). b ++ 32 ∷ xs) three.parts ∙ sym (append_assoc b (32 ∷ c) (10 ∷ rest)))
      ∙ sym (append_assoc a (32 ∷ (b ++ 32 ∷ c)) (10 ∷ rest)) in
      let bare : has 10 part ≡ false =
      lacks_append 10 a (32 ∷ (b ++ 32 ∷ c)) (bare_lacks 10 a (omega arith) one.bare)
      (lacks_append 10 b (32 ∷ c) (bare_lacks 10 b (omega arith) two.bare)
      (bare_lacks 10 c (omega arith) three.bare)) in
      record {
        part = part;
        cut = ap (slice_split (λ b. b == 10)) whole
            ∙ slice_split_at (λ b. b == 10) part 10 rest (all_lack 10 part bare) refl;
        kind_is = sym (ap set_kind (three_words a b c (bare_lacks 32 a (omega arith) one.bare)
            (bare_lacks 32 b (omega arith) two.bare) (bare_lacks 32 c (omega arith) three.bare))
            ∙ rw (one.read_is, two.read_is, three.read_is, bits_fit first low, bits_fit second also) refl);
      }

  -- two names
  pub pair_front : (more : List ℕ) (from to : ℕ) → EndsAt (λ word. end_in word) 32 text from more
      → EndsAt (λ word. end_in word) 10 more to rest →
      BeginsWords (λ words. pair_kind words) text (Pair from to) rest
  pair_front more from to one two =
      let a = one.word in
      let b = two.word in
      let part = a ++ 32 ∷ b in
      let whole : text ≡ part ++ 10 ∷ rest =
      one.parts ∙ ap (λ (xs : List ℕ). a ++ 32 ∷ xs) two.parts ∙ sym (append_assoc a (32 ∷ b) (10 ∷ rest)) in
      let bare : has 10 part ≡ false =
      lacks_append 10 a (32 ∷ b) (bare_lacks 10 a (omega arith) one.bare) (bare_lacks 10 b (omega arith) two.bare) in
      record {
        part = part;
        cut = ap (slice_split (λ b. b == 10)) whole
            ∙ slice_split_at (λ b. b == 10) part 10 rest (all_lack 10 part bare) refl;
        kind_is = sym (ap pair_kind (two_words a b (bare_lacks 32 a (omega arith) one.bare)
            (bare_lacks 32 b (omega arith) two.bare)) ∙ rw (one.read_is, two.read_is) refl);
      }

-- a word that lacks line feeds in front of a line
cut_behind : (word text part rest : List ℕ) → has 10 word ≡ false
    → slice_split (λ b. b == 10) text ≡ part ∷ slice_split (λ b. b == 10) rest →
    slice_split (λ b. b == 10) (word ++ text) ≡ (word ++ part) ∷ slice_split (λ b. b == 10) rest
cut_behind [] text part rest bare cut = cut
cut_behind (x ∷ xs) text part rest bare cut =
    let both = or_parts (x == 10) (has 10 xs) bare in
    slice_split-cons_no (λ b. b == 10) x (xs ++ text) both.0
    ∙ ap (onto_first x) (cut_behind xs text part rest both.1 cut)

-- what stands behind a line is shorter
cut_shorter : (text part rest : List ℕ) → slice_split (λ b. b == 10) text ≡ part ∷ slice_split (λ b. b == 10) rest
    → length rest < length text
cut_shorter text part rest cut =
    let long = length-append part (10 ∷ rest) in
    let same = ap (λ (xs : List ℕ). length xs) (first_part text part rest cut) in
    omega (arith, long, same)

-- a line behind its first word
pub line_begins : (word text more rest : List ℕ) (kind : Line) (kind_of : List (List ℕ) → Line) → text ≡ word ++ more
    → has 10 word ≡ false →
    ((x : List ℕ) → line_kind (word ++ x) ≡ kind_of (words x)) → BeginsWords kind_of more kind rest
    → BeginsLine text kind rest
line_begins word text more rest kind kind_of is bare reads it =
    let cut = ap (slice_split (λ b. b == 10)) is ∙ cut_behind word more it.part rest bare it.cut in
    record {
      part = word ++ it.part;
      cut = cut;
      kind_is = it.kind_is ∙ sym (reads it.part);
      shorter = cut_shorter text (word ++ it.part) rest cut;
    }

-- what is so of what is found, where something else is
pub if_some : {A : Type 0} (P Q : A → Type 0) (found : Option A) → ((x : A) → P x → Q x) → IfSome found P
    → IfSome found Q
if_some P Q (Some x) on is = on x is
if_some P Q None on is = tt
