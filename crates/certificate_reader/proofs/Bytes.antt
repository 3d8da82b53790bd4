-- The words and the lines of a text that are cut at a byte that they lack.
use Rattle.std.proofs.Common.{◌≡◌, ℕ, ◌-◌, ◌==◌, Bool, true, false, List, [], ◌∷◌, ◌++◌, length, take, drop, slice_index, Some, None, codes, refl, sym, ◌∙◌, ap, arith, cond, append_assoc, length-append, if◌then◌else◌}
use Rattle.std.proofs.lemmas.List.{take-append-drop}
use Rattle.std.proofs.lemmas.Slice.Eq.{bytes_eq-Decides}
use Rattle.std.proofs.lemmas.List.Splits.{slice_split_at, slice_split_none, join_with_byte-slice_split}
use Rattle.std.specs.List.{slice_split, join_with_byte}
use Rattle.std.specs.Str.{bytes_eq}
use Rattle.path_checker.specs.Lines.{number_of, behind}
use Rattle.path_checker.proofs.Lacking.{has, all_lack}
use Rattle.certificate_text.specs.Text.{line}
use Rattle.certificate_reader.specs.declared.lines.Line.TheVariants.{Other}
use Rattle.certificate_reader.specs.Lines.{by_letter, end_in, set_kind, pair_kind, line_kind, lines_in, lines_of, words}
use Rattle.certificate_reader.proofs.WordLemmas.{split_parts}

-- words that have no space, cut apart
pub two_words : (a b : List ℕ) → has 32 a ≡ false → has 32 b ≡ false → words (a ++ 32 ∷ b) ≡ a ∷ b ∷ []
two_words a b p q =
    slice_split_at (λ c. c == 32) a 32 b (all_lack 32 a p) refl
    ∙ ap (λ (ws : List (List ℕ)). a ∷ ws) (slice_split_none (λ c. c == 32) b (all_lack 32 b q))

-- three words with a blank between each two are those words
pub three_words : (a b c : List ℕ) → has 32 a ≡ false → has 32 b ≡ false → has 32 c ≡ false
    → words (a ++ 32 ∷ (b ++ 32 ∷ c)) ≡ a ∷ b ∷ c ∷ []
three_words a b c p q r =
    slice_split_at (λ d. d == 32) a 32 (b ++ 32 ∷ c) (all_lack 32 a p) refl
    ∙ ap (λ (ws : List (List ℕ)). a ∷ ws) (two_words b c q r)

-- and joined
pub joined : (bytes : List ℕ) (ws : List (List ℕ)) → words bytes ≡ ws → bytes ≡ join_with_byte 32 ws
joined bytes ws is = sym (join_with_byte-slice_split 32 bytes) ∙ ap (join_with_byte 32) is

-- a text whose first part ends before a line feed
pub first_part : (text part rest : List ℕ) → slice_split (λ b. b == 10) text ≡ part ∷ slice_split (λ b. b == 10) rest
    → text ≡ part ++ 10 ∷ rest
first_part text part rest is =
    let more = split_parts (λ b. b == 10) rest in
    sym (join_with_byte-slice_split 10 text) ∙ ap (join_with_byte 10) is
    ∙ ap (λ (ps : List (List ℕ)). join_with_byte 10 (part ∷ ps)) more.2
    ∙ ap (λ (ps : List (List ℕ)). part ++ 10 ∷ join_with_byte 10 ps) (sym more.2)
    ∙ ap (λ (bs : List ℕ). part ++ 10 ∷ bs) (join_with_byte-slice_split 10 rest)

two_parts : (x part : List ℕ) (parts : List (List ℕ))
    → lines_in (x ∷ part ∷ parts) ≡ line_kind x ∷ lines_in (part ∷ parts)
two_parts [] part parts = refl
two_parts (b ∷ bs) part parts = refl

-- a text whose first part is a line has it as its first
pub lines_of-parts : (text part rest : List ℕ)
    → slice_split (λ b. b == 10) text ≡ part ∷ slice_split (λ b. b == 10) rest
    → lines_of text ≡ line_kind part ∷ lines_of rest
lines_of-parts text part rest is =
    let more = split_parts (λ b. b == 10) rest in
    ap lines_in is ∙ ap (λ (ps : List (List ℕ)). lines_in (part ∷ ps)) more.2 ∙ two_parts part more.0 more.1
    ∙ ap (λ (ps : List (List ℕ)). line_kind part ∷ lines_in ps) (sym more.2)

-- the first line of a text is the text up to its line feed
pub line_first : (x rest : List ℕ) → has 10 x ≡ false → lines_of (line x ++ rest) ≡ line_kind x ∷ lines_of rest
line_first x rest free =
    ap lines_of (append_assoc x (10 ∷ []) rest)
    ∙ lines_of-parts (x ++ 10 ∷ rest) x rest (slice_split_at (λ b. b == 10) x 10 rest (all_lack 10 x free) refl)

-- what stands behind the last line feed is no line that fits
pub lines_of-whole : (text : List ℕ) → slice_split (λ b. b == 10) text ≡ text ∷ []
    → lines_of text ≡ (if bytes_eq text [] then [] else Other ∷ [])
lines_of-whole [] whole = refl
lines_of-whole (b ∷ text) whole = ap lines_in whole

-- the last byte and those before it
pub take_own : (xs ys : List ℕ) → take (length xs) (xs ++ ys) ≡ xs
take_own [] ys = refl
take_own (x ∷ xs) ys = ap (λ (zs : List ℕ). x ∷ zs) (take_own xs ys)

pub index_own : (xs : List ℕ) (c : ℕ) → slice_index (xs ++ c ∷ []) (length xs) ≡ c
index_own [] c = refl
index_own (x ∷ xs) c = index_own xs c

pub last_apart : (x : ℕ) (xs : List ℕ) → take (length xs) (x ∷ xs) ++ slice_index (x ∷ xs) (length xs) ∷ [] ≡ x ∷ xs
last_apart x [] = refl
last_apart x (y ∷ ys) = ap (λ (zs : List ℕ). x ∷ zs) (last_apart y ys)

-- a name says its end
pub end_in-last : (d : List ℕ) (c : ℕ) → end_in (d ++ c ∷ []) ≡ by_letter (number_of d) c
end_in-last d c =
    let long = length-append d (c ∷ []) in
    let last : length (d ++ c ∷ []) - 1 ≡ length d = omega (arith, long) in
    ap (λ (k : ℕ). by_letter (number_of (take k (d ++ c ∷ []))) (slice_index (d ++ c ∷ []) k)) last
    ∙ ap (λ (xs : List ℕ). by_letter (number_of xs) (slice_index (d ++ c ∷ []) (length d))) (take_own d (c ∷ []))
    ∙ ap (by_letter (number_of d)) (index_own d c)

-- what stands behind a word that a line begins with
behind_by : (word bytes rest : List ℕ) (b : Bool) → bytes_eq (take (length word) bytes) word ≡ b
    → cond b (Some (drop (length word) bytes)) None ≡ Some rest → bytes ≡ word ++ rest
behind_by word bytes rest true is h =
    let left : drop (length word) bytes ≡ rest = cc in
    sym (take-append-drop (length word) bytes)
    ∙ ap (λ (xs : List ℕ). xs ++ drop (length word) bytes) ((bytes_eq-Decides (take (length word) bytes) word).0 is)
    ∙ ap (λ (xs : List ℕ). word ++ xs) left
behind_by word bytes rest false is h = absurd cc

pub behind_is : (word bytes rest : List ℕ) → behind word bytes ≡ Some rest → bytes ≡ word ++ rest
unfolding behind
behind_is word bytes rest h = behind_by word bytes rest (bytes_eq (take (length word) bytes) word) refl h

-- lines by their first words
pub set_begins : (x : List ℕ) → line_kind (codes "  set " ++ x) ≡ set_kind (words x)
unfolding line_kind behind
set_begins x = refl

pub pair_begins : (x : List ℕ) → line_kind (codes "  pair " ++ x) ≡ pair_kind (words x)
unfolding line_kind behind
pair_begins x = refl
