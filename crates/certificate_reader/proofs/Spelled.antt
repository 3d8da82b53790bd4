-- The lines of the text of certificates, and the text of lines.
use Rattle.std.proofs.Common.{◌≡◌, ℕ, ◌+◌, ◌-◌, ◌*◌, ◌/◌, ◌%◌, ◌^◌, ◌<◌, ◌≤◌, ◌==◌, Bool, true, false, nat_lt, min, List, [], ◌∷◌, ◌++◌, length, take, slice_index, Option, Some, None, refl, sym, ◌∙◌, ap, subst, arith, cond, codes, decimal, append_assoc}
use Rattle.std.proofs.lemmas.Slice.Eq.{bytes_eq-Decides}
use Rattle.std.specs.Str.{bytes_eq}
use Rattle.std.specs.List.{join_with_byte}
use Rattle.path_checker.specs.Lines.{number_of, behind}
use Rattle.certificate_text.specs.declared.putting.SetLine.{SetLine}
use Rattle.certificate_text.specs.Text.{Written, letter, name_text, set_text, sets_text, pair_text, pairs_text, lattice_text, parts_text, text_of}
use Rattle.certificate_reader.specs.declared.lines.Line.{Line}
use Rattle.certificate_reader.specs.declared.lines.Line.TheVariants.{Certificate, Lattice, Set, Pair, Other}
use Rattle.certificate_reader.specs.Lines.{end_of, by_letter, end_in, bits_of, set_line, pair_line, lattice_line, set_kind, pair_kind, words, by_pair, by_set, by_lattice, line_kind, lines_of}
use Rattle.certificate_reader.specs.Grammar.{set_lines, pair_lines, part_lines, lines_of_parts}
use Rattle.path_checker.proofs.Lacking.{has, lacks_append, decimal_lacks}
use Rattle.path_checker.proofs.Decimals.{decimal_is_read}
use Rattle.certificate_reader.proofs.Bytes.{two_words, three_words, joined, line_first, last_apart, end_in-last, behind_is, set_begins, pair_begins}
use Rattle.certificate_reader.proofs.Decimals.{decimal_of}

-- names that lines say exactly
abbrev pub most_names : ℕ
most_names = 2 ^ 32 - 2

-- the bytes of lines
abbrev pub set_bytes : SetLine → List ℕ
set_bytes it = codes "  set " ++ name_text it.name ++ codes " " ++ decimal it.first ++ codes " " ++ decimal it.second

abbrev pub pair_bytes : ℕ × ℕ → List ℕ
pair_bytes pair = codes "  pair " ++ name_text pair.0 ++ codes " " ++ name_text pair.1

abbrev pub lattice_bytes : ℕ → List ℕ
lattice_bytes number = codes "lattice " ++ decimal number

-- words one behind the other, in either way of joining them
two_joined : (a b : List ℕ) → a ++ 32 ∷ [] ++ b ≡ a ++ 32 ∷ b
two_joined a b = append_assoc a (32 ∷ []) b

-- three words joined one by one are those words with blanks between
three_joined : (a b c : List ℕ) → a ++ 32 ∷ [] ++ b ++ 32 ∷ [] ++ c ≡ a ++ 32 ∷ (b ++ 32 ∷ c)
three_joined a b c =
    append_assoc (a ++ 32 ∷ [] ++ b) (32 ∷ []) c ∙ append_assoc (a ++ 32 ∷ []) b (32 ∷ c)
    ∙ append_assoc a (32 ∷ []) (b ++ 32 ∷ c)

-- lines by their first words
lattice_begins : (x : List ℕ) → line_kind (codes "lattice " ++ x) ≡ lattice_line (number_of x)
unfolding line_kind behind
lattice_begins x = refl

certificate_begins : line_kind (codes "certificate") ≡ Certificate
unfolding line_kind
certificate_begins = refl

-- the text of a name, its half and the letter of its remainder, is read as that name
name_by : (name : ℕ) (b : Bool) → (name % 2 == 0) ≡ b → name < most_names
    → end_in (decimal (name / 2) ++ cond b (codes "a") (codes "b")) ≡ Some name
name_by name true is small =
    let even : name % 2 ≡ 0 = grind (arith, is) in
    let same : 2 * min (name / 2) (2 ^ 31 - 1) + 0 ≡ name = omega (arith, even, small) in
    end_in-last (decimal (name / 2)) 97
    ∙ ap (λ (o : Option ℕ). by_letter o 97) (decimal_is_read (name / 2) (omega (arith, small))) ∙ ap Some same
name_by name false is small =
    let odd : name % 2 ≡ 1 = grind (arith, is) in
    let same : 2 * min (name / 2) (2 ^ 31 - 1) + 1 ≡ name = omega (arith, odd, small) in
    end_in-last (decimal (name / 2)) 98
    ∙ ap (λ (o : Option ℕ). by_letter o 98) (decimal_is_read (name / 2) (omega (arith, small))) ∙ ap Some same

name_is_read : (name : ℕ) → name < most_names → end_in (name_text name) ≡ Some name
name_is_read name small = name_by name (name % 2 == 0) refl small

-- the decimal digits of a set of 64 bits are read as it
bits_are_read : (set : ℕ) → set < 2 ^ 64 → bits_of (number_of (decimal set)) ≡ Some set
bits_are_read set small =
    let fits : nat_lt set (2 ^ 64) ≡ true = grind (arith, small) in
    ap bits_of (decimal_is_read set small) ∙ ap (λ (b : Bool). cond b (Some set) None) fits

letter_lacks : (c : ℕ) (b : Bool) → c < 48 → has c (cond b (codes "a") (codes "b")) ≡ false
letter_lacks c true low = grind (arith, low)
letter_lacks c false low = grind (arith, low)

-- a name has no byte below the digits
name_lacks : (c name : ℕ) → c < 48 → has c (name_text name) ≡ false
name_lacks c name low =
    lacks_append c (decimal (name / 2)) (letter name) (decimal_lacks c (name / 2) low)
    (letter_lacks c (name % 2 == 0) low)

-- the lines that are written are read
pub record IsSmall (it : SetLine) : Type 0 where
  pub name : it.name < most_names
  pub first : it.first < 2 ^ 64
  pub second : it.second < 2 ^ 64

-- the text of a set line with numbers that are small is that line
set_is : (it : SetLine) → IsSmall it → line_kind (set_bytes it) ≡ Set it.name it.first it.second
set_is it small =
    let name = name_text it.name in
    let first = decimal it.first in
    let second = decimal it.second in
    ap (λ (t : List ℕ). line_kind (codes "  set " ++ t)) (three_joined name first second)
    ∙ set_begins (name ++ 32 ∷ (first ++ 32 ∷ second))
    ∙ ap set_kind (three_words name first second (name_lacks 32 it.name (omega arith))
    (decimal_lacks 32 it.first (omega arith)) (decimal_lacks 32 it.second (omega arith)))
    ∙ ap (λ (o : Option ℕ). set_line o (bits_of (number_of first)) (bits_of (number_of second)))
    (name_is_read it.name small.name)
    ∙ ap (λ (o : Option ℕ). set_line (Some it.name) o (bits_of (number_of second))) (bits_are_read it.first small.first)
    ∙ ap (set_line (Some it.name) (Some it.first)) (bits_are_read it.second small.second)

-- the text of a pair line with names that are small is that line
pair_is : (pair : ℕ × ℕ) → pair.0 < most_names → pair.1 < most_names → line_kind (pair_bytes pair) ≡ Pair pair.0 pair.1
pair_is pair one other =
    let from = name_text pair.0 in
    let to = name_text pair.1 in
    ap (λ (t : List ℕ). line_kind (codes "  pair " ++ t)) (two_joined from to)
    ∙ pair_begins (from ++ 32 ∷ to)
    ∙ ap pair_kind (two_words from to (name_lacks 32 pair.0 (omega arith)) (name_lacks 32 pair.1 (omega arith)))
    ∙ ap (λ (o : Option ℕ). pair_line o (end_in to)) (name_is_read pair.0 one)
    ∙ ap (pair_line (Some pair.0)) (name_is_read pair.1 other)

-- the text of a lattice line with a number below 2^32 - 1 is that line
lattice_is : (number : ℕ) → number < 2 ^ 32 - 1 → line_kind (lattice_bytes number) ≡ Lattice number
lattice_is number small =
    let same : min number (2 ^ 32 - 1) ≡ number = omega (arith, small) in
    lattice_begins (decimal number) ∙ ap lattice_line (decimal_is_read number (omega (arith, small))) ∙ ap Lattice same

-- the text of a set line has no line feed
set_free : (it : SetLine) → has 10 (set_bytes it) ≡ false
set_free it =
    let name = name_text it.name in
    let first = decimal it.first in
    let second = decimal it.second in
    lacks_append 10 (codes "  set " ++ name ++ codes " " ++ first ++ codes " ") second
    (lacks_append 10 (codes "  set " ++ name ++ codes " " ++ first) (codes " ")
    (lacks_append 10 (codes "  set " ++ name ++ codes " ") first
    (lacks_append 10 (codes "  set " ++ name) (codes " ")
    (lacks_append 10 (codes "  set ") name refl (name_lacks 10 it.name (omega arith))) refl)
    (decimal_lacks 10 it.first (omega arith))) refl)
    (decimal_lacks 10 it.second (omega arith))

-- the text of a pair line has no line feed
pair_free : (pair : ℕ × ℕ) → has 10 (pair_bytes pair) ≡ false
pair_free pair =
    let from = name_text pair.0 in
    let to = name_text pair.1 in
    lacks_append 10 (codes "  pair " ++ from ++ codes " ") to
    (lacks_append 10 (codes "  pair " ++ from) (codes " ")
    (lacks_append 10 (codes "  pair ") from refl (name_lacks 10 pair.0 (omega arith))) refl)
    (name_lacks 10 pair.1 (omega arith))

lattice_free : (number : ℕ) → has 10 (lattice_bytes number) ≡ false
lattice_free number = lacks_append 10 (codes "lattice ") (decimal number) refl (decimal_lacks 10 number (omega arith))

-- all that is written of certificates is
abbrev pub AreSmallSets : List SetLine → Type 0
AreSmallSets [] = Unit {0}
AreSmallSets (it ∷ sets) = IsSmall it × AreSmallSets sets

abbrev pub AreSmallPairs : List (ℕ × ℕ) → Type 0
AreSmallPairs [] = Unit {0}
AreSmallPairs (pair ∷ pairs) = (pair.0 < most_names) × (pair.1 < most_names) × AreSmallPairs pairs

abbrev pub AreSmallParts : List Written → Type 0
AreSmallParts [] = Unit {0}
AreSmallParts (part ∷ parts) = AreSmallSets part.sets × AreSmallPairs part.pairs × AreSmallParts parts

-- the text of set lines in front of another is these lines and those of the other
sets_lines : (sets : List SetLine) (rest : List ℕ) → AreSmallSets sets
    → lines_of (sets_text sets ++ rest) ≡ set_lines sets (lines_of rest)
sets_lines [] rest small = refl
sets_lines (it ∷ sets) rest small =
    ap lines_of (append_assoc (set_text it) (sets_text sets) rest)
    ∙ line_first (set_bytes it) (sets_text sets ++ rest) (set_free it)
    ∙ ap (λ (kind : Line). kind ∷ lines_of (sets_text sets ++ rest)) (set_is it small.0)
    ∙ ap (λ (ls : List Line). Set it.name it.first it.second ∷ ls) (sets_lines sets rest small.1)

-- the text of pair lines in front of another is these lines and those of the other
pairs_lines : (pairs : List (ℕ × ℕ)) (rest : List ℕ) → AreSmallPairs pairs
    → lines_of (pairs_text pairs ++ rest) ≡ pair_lines pairs (lines_of rest)
pairs_lines [] rest small = refl
pairs_lines (pair ∷ pairs) rest small =
    ap lines_of (append_assoc (pair_text pair) (pairs_text pairs) rest)
    ∙ line_first (pair_bytes pair) (pairs_text pairs ++ rest) (pair_free pair)
    ∙ ap (λ (kind : Line). kind ∷ lines_of (pairs_text pairs ++ rest)) (pair_is pair small.0 small.1)
    ∙ ap (λ (ls : List Line). Pair pair.0 pair.1 ∷ ls) (pairs_lines pairs rest small.2)

four_parts : (a b c rest : List ℕ) → a ++ b ++ c ++ rest ≡ a ++ (b ++ (c ++ rest))
four_parts a b c rest = append_assoc (a ++ b) c rest ∙ append_assoc a b (c ++ rest)

-- the text of parts from a number on has the lines of those parts
parts_lines : (parts : List Written) (number : ℕ) → AreSmallParts parts → number + length parts ≤ 2 ^ 32 - 1
    → lines_of (parts_text number parts) ≡ part_lines number parts []
parts_lines [] number small few = refl
parts_lines (part ∷ parts) number small few =
    let sets = sets_text part.sets in
    let pairs = pairs_text part.pairs in
    let rest = parts_text (number + 1) parts in
    ap lines_of (four_parts (lattice_text number) sets pairs rest)
    ∙ line_first (lattice_bytes number) (sets ++ (pairs ++ rest)) (lattice_free number)
    ∙ ap (λ (kind : Line). kind ∷ lines_of (sets ++ (pairs ++ rest))) (lattice_is number (omega (arith, few)))
    ∙ ap (λ (ls : List Line). Lattice number ∷ ls)
    (sets_lines part.sets (pairs ++ rest) small.0
    ∙ ap (set_lines part.sets) (pairs_lines part.pairs rest small.1
    ∙ ap (pair_lines part.pairs) (parts_lines parts (number + 1) small.2 (omega (arith, few)))))

-- the text of a whole certificate has its lines, where its numbers are small
pub text_lines : (parts : List Written) → AreSmallParts parts → length parts < 2 ^ 32 - 1
    → lines_of (text_of parts) ≡ lines_of_parts parts
text_lines parts small few =
    line_first (codes "certificate") (parts_text 1 parts) refl
    ∙ ap (λ (kind : Line). kind ∷ lines_of (parts_text 1 parts)) certificate_begins
    ∙ ap (λ (ls : List Line). Certificate ∷ ls) (parts_lines parts 1 small (omega (arith, few)))

-- a line whose names and number are small is spelled in one way
abbrev pub IsSmallLine : Line → Type 0
IsSmallLine Certificate = Unit {0}
IsSmallLine (Lattice number) = number < 2 ^ 32 - 1
IsSmallLine (Set name first second) = name < most_names
IsSmallLine (Pair from to) = (from < most_names) × (to < most_names)
IsSmallLine Other = Unit {0}

-- bytes are the one text of a line, by its form
abbrev pub IsSpelled : Line → List ℕ → Type 0
IsSpelled Certificate bytes = bytes ≡ codes "certificate"
IsSpelled (Lattice number) bytes = bytes ≡ lattice_bytes number
IsSpelled (Set name first second) bytes = bytes ≡ set_bytes (record { name = name; first = first; second = second })
IsSpelled (Pair from to) bytes = bytes ≡ pair_bytes (from, to)
IsSpelled Other bytes = Unit {0}

abbrev Spells : Line → List ℕ → Type 0
Spells kind bytes = IsSmallLine kind → IsSpelled kind bytes

-- what stands behind a word
-- the number and the letter of a name
by_end : (digits : List ℕ) (second name : ℕ) (o : Option ℕ) → number_of digits ≡ o → end_of o second ≡ Some name
    → second ≤ 1 → name < most_names →
    (digits ≡ decimal (name / 2)) × (name % 2 ≡ second)
by_end digits second name (Some n) is h low small =
    let value : 2 * min n (2 ^ 31 - 1) + second ≡ name = cc in
    let half : n ≡ name / 2 = omega (arith, value, low, small) in
    (decimal_of digits (name / 2) (omega (arith, small)) (is ∙ ap Some half), omega (arith, value, low))
by_end digits second name None is h low small = absurd cc

letter_of : (name : ℕ) (b : Bool) → (name % 2 == 0) ≡ b → letter name ≡ cond b (codes "a") (codes "b")
letter_of name b is = ap (λ (c : Bool). cond c (codes "a") (codes "b")) is

-- digits and a letter that are read as a name are the text of that name
named : (digits : List ℕ) (c name : ℕ) (a b : Bool) → (c == 97) ≡ a → (c == 98) ≡ b →
    cond a (end_of (number_of digits) 0) (cond b (end_of (number_of digits) 1) None) ≡ Some name → name < most_names
    → digits ++ c ∷ [] ≡ name_text name
named digits c name true b is also h small =
    let it = by_end digits 0 name (number_of digits) refl h (omega arith) small in
    let last : c ≡ 97 = grind (arith, is) in
    let even : (name % 2 == 0) ≡ true = grind (arith, it.1) in
    ap (λ (xs : List ℕ). xs ++ c ∷ []) it.0 ∙ ap (λ (d : ℕ). decimal (name / 2) ++ d ∷ []) last
    ∙ ap (λ (xs : List ℕ). decimal (name / 2) ++ xs) (sym (letter_of name true even))
named digits c name false true is also h small =
    let it = by_end digits 1 name (number_of digits) refl h (omega arith) small in
    let last : c ≡ 98 = grind (arith, also) in
    let odd : (name % 2 == 0) ≡ false = grind (arith, it.1) in
    ap (λ (xs : List ℕ). xs ++ c ∷ []) it.0 ∙ ap (λ (d : ℕ). decimal (name / 2) ++ d ∷ []) last
    ∙ ap (λ (xs : List ℕ). decimal (name / 2) ++ xs) (sym (letter_of name false odd))
named digits c name false false is also h small = absurd cc

-- bytes that are read as a name are the text of that name
name_of_end : (bytes : List ℕ) (name : ℕ) → end_in bytes ≡ Some name → name < most_names → bytes ≡ name_text name
name_of_end [] name h small = absurd cc
name_of_end (x ∷ xs) name h small =
    let whole = last_apart x xs in
    let digits = take (length xs) (x ∷ xs) in
    let last = slice_index (x ∷ xs) (length xs) in
    let less : length (x ∷ xs) - 1 ≡ length xs = omega arith in
    let read : by_letter (number_of digits) last ≡ Some name =
    subst (λ (k : ℕ). by_letter (number_of (take k (x ∷ xs))) (slice_index (x ∷ xs) k) ≡ Some name) less h in
    sym whole ∙ named digits last name (last == 97) (last == 98) refl refl read small

-- a numeral below 2^64 that is read as a set is the set's decimal digits
bits_by : (bytes : List ℕ) (set n : ℕ) (b : Bool) → nat_lt n (2 ^ 64) ≡ b → number_of bytes ≡ Some n
    → cond b (Some n) None ≡ Some set → bytes ≡ decimal set
bits_by bytes set n true is read h =
    let fits : n < 2 ^ 64 = grind (arith, is) in
    let same : n ≡ set = cc in
    decimal_of bytes n fits read ∙ ap decimal same
bits_by bytes set n false is read h = absurd cc

bits_are : (bytes : List ℕ) (set : ℕ) (o : Option ℕ) → number_of bytes ≡ o → bits_of o ≡ Some set → bytes ≡ decimal set
bits_are bytes set (Some n) is h = bits_by bytes set n (nat_lt n (2 ^ 64)) refl is h
bits_are bytes set None is h = absurd cc

-- the parts of a line of sets, of a line of a pair and of a line of a lattice
by_sets : (bytes a b c : List ℕ) (name first second : Option ℕ) → bytes ≡ codes "  set " ++ (a ++ 32 ∷ (b ++ 32 ∷ c))
    → end_in a ≡ name → bits_of (number_of b) ≡ first →
    bits_of (number_of c) ≡ second → Spells (set_line name first second) bytes
by_sets bytes a b c (Some n) (Some f) (Some s) is name first second small =
    is ∙ ap (λ (t : List ℕ). codes "  set " ++ t)
    (ap (λ (x : List ℕ). x ++ 32 ∷ (b ++ 32 ∷ c)) (name_of_end a n name small)
    ∙ ap (λ (x : List ℕ). name_text n ++ 32 ∷ (x ++ 32 ∷ c)) (bits_are b f (number_of b) refl first)
    ∙ ap (λ (x : List ℕ). name_text n ++ 32 ∷ (decimal f ++ 32 ∷ x)) (bits_are c s (number_of c) refl second)
    ∙ sym (three_joined (name_text n) (decimal f) (decimal s)))
by_sets bytes a b c (Some n) (Some f) None is name first second small = tt
by_sets bytes a b c (Some n) None s is name first second small = tt
by_sets bytes a b c None f s is name first second small = tt

-- a line of `pair`, two words and a space is the text of the pair line that it is read as
by_pairs : (bytes a b : List ℕ) (from to : Option ℕ) → bytes ≡ codes "  pair " ++ (a ++ 32 ∷ b) → end_in a ≡ from
    → end_in b ≡ to → Spells (pair_line from to) bytes
by_pairs bytes a b (Some m) (Some n) is from to small =
    is ∙ ap (λ (t : List ℕ). codes "  pair " ++ t)
    (ap (λ (x : List ℕ). x ++ 32 ∷ b) (name_of_end a m from small.0)
    ∙ ap (λ (x : List ℕ). name_text m ++ 32 ∷ x) (name_of_end b n to small.1)
    ∙ sym (two_joined (name_text m) (name_text n)))
by_pairs bytes a b (Some m) None is from to small = tt
by_pairs bytes a b None n is from to small = tt

-- a line of `lattice` and a numeral is the text of the lattice line that it is read as
lattice_spells : (bytes numeral : List ℕ) (o : Option ℕ) → bytes ≡ codes "lattice " ++ numeral → number_of numeral ≡ o
    → Spells (lattice_line o) bytes
lattice_spells bytes numeral (Some n) is read small =
    let same : min n (2 ^ 32 - 1) ≡ n = omega (arith, small) in
    is ∙ ap (λ (t : List ℕ). codes "lattice " ++ t) (decimal_of numeral n (omega (arith, small)) read)
    ∙ ap (λ (m : ℕ). lattice_bytes m) (sym same)
lattice_spells bytes numeral None is read small = tt

-- a line of `set` and words is the text of the set line that it is read as
set_spells : (bytes rest : List ℕ) (ws : List (List ℕ)) → bytes ≡ codes "  set " ++ rest → rest ≡ join_with_byte 32 ws
    → Spells (set_kind ws) bytes
set_spells bytes rest [] is parts small = tt
set_spells bytes rest (a ∷ []) is parts small = tt
set_spells bytes rest (a ∷ b ∷ []) is parts small = tt
set_spells bytes rest (a ∷ b ∷ c ∷ []) is parts small =
    by_sets bytes a b c (end_in a) (bits_of (number_of b)) (bits_of (number_of c))
    (is ∙ ap (λ (t : List ℕ). codes "  set " ++ t) parts) refl refl refl small
set_spells bytes rest (a ∷ b ∷ c ∷ d ∷ more) is parts small = tt

-- a line of `pair` and words is the text of the pair line that it is read as
pair_spells : (bytes rest : List ℕ) (ws : List (List ℕ)) → bytes ≡ codes "  pair " ++ rest → rest ≡ join_with_byte 32 ws
    → Spells (pair_kind ws) bytes
pair_spells bytes rest [] is parts small = tt
pair_spells bytes rest (a ∷ []) is parts small = tt
pair_spells bytes rest (a ∷ b ∷ []) is parts small =
    by_pairs bytes a b (end_in a) (end_in b) (is ∙ ap (λ (t : List ℕ). codes "  pair " ++ t) parts) refl refl small
pair_spells bytes rest (a ∷ b ∷ c ∷ more) is parts small = tt

-- a line by its first word
pairs_spell : (bytes : List ℕ) (o : Option (List ℕ)) → behind (codes "  pair ") bytes ≡ o → Spells (by_pair o) bytes
pairs_spell bytes (Some rest) is small =
    pair_spells bytes rest (words rest) (behind_is (codes "  pair ") bytes rest is)
    (joined rest (words rest) refl) small
pairs_spell bytes None is small = tt

-- a line that begins as a set spells what behind its front is read as
sets_spell : (bytes : List ℕ) (o : Option (List ℕ)) → behind (codes "  set ") bytes ≡ o → Spells (by_set o bytes) bytes
sets_spell bytes (Some rest) is small =
    set_spells bytes rest (words rest) (behind_is (codes "  set ") bytes rest is) (joined rest (words rest) refl) small
sets_spell bytes None is small = pairs_spell bytes (behind (codes "  pair ") bytes) refl small

-- a line that begins as a lattice spells what behind its front is read as
lattices_spell : (bytes : List ℕ) (o : Option (List ℕ)) → behind (codes "lattice ") bytes ≡ o
    → Spells (by_lattice o bytes) bytes
lattices_spell bytes (Some numeral) is small =
    lattice_spells bytes numeral (number_of numeral) (behind_is (codes "lattice ") bytes numeral is) refl small
lattices_spell bytes None is small = sets_spell bytes (behind (codes "  set ") bytes) refl small

certificate_spells : (bytes : List ℕ) (b : Bool) → bytes_eq bytes (codes "certificate") ≡ b
    → Spells (cond b Certificate (by_lattice (behind (codes "lattice ") bytes) bytes)) bytes
certificate_spells bytes true is small = (bytes_eq-Decides bytes (codes "certificate")).0 is
certificate_spells bytes false is small = lattices_spell bytes (behind (codes "lattice ") bytes) refl small

pub spelled : (bytes : List ℕ) → IsSmallLine (line_kind bytes) → IsSpelled (line_kind bytes) bytes
unfolding line_kind
spelled bytes small = certificate_spells bytes (bytes_eq bytes (codes "certificate")) refl small
