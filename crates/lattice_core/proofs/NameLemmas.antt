-- The names of lattices, taken one by one.
use Rattle.std.proofs.Common.{◌≡◌, ℕ, ◌<◌, ◌+◌, zero, suc, Bool, true, false, List, [], ◌∷◌, ◌++◌, length, take, drop, get_or, Some, None, refl, sym, ◌∙◌, ap, arith, append_assoc, add-one, append-nil}
use Rattle.std.specs.Prelude.{option_map, if◌then◌else◌}
use Rattle.std.specs.List.{position_from}
use Rattle.std.specs.Option.{option_or}
use Rattle.std.specs.declared.option.Option.{Option}
use Rattle.std.specs.Str.{bytes_eq}
use Rattle.std.proofs.lemmas.Iterator.Adapters.{position_from-zero}
use Rattle.lattice_core.specs.declared.Entry.{Entry}
use Rattle.lattice_core.specs.View.{LatticeView}
use Rattle.lattice_core.specs.Entries.{number_of}
use Rattle.lattice_core.specs.Names.{entry_words, words_from, words_of}
use Rattle.qual_base.specs.Words.{meaning_of, MeansTheSame}

Pairs : Type 0
Pairs = List (List ℕ × (ℕ × ℕ))

chosen_or : (b : Bool) (x : ℕ × ℕ) (rest other : Option (ℕ × ℕ))
    → (if b then Some x else option_or rest other) ≡ option_or (if b then Some x else rest) other
chosen_or true x rest other = refl
chosen_or false x rest other = refl

-- the first list that has a meaning decides
pub meaning_of-append : (a b : List (List ℕ × (ℕ × ℕ))) (word : List ℕ)
    → meaning_of (a ++ b) word ≡ option_or (meaning_of a word) (meaning_of b word)
meaning_of-append [] b word = refl
meaning_of-append (pair ∷ a) b word =
    ap (λ (rest : Option (ℕ × ℕ)). if bytes_eq word pair.0 then Some pair.1 else rest) (meaning_of-append a b word)
    ∙ chosen_or (bytes_eq word pair.0) pair.1 (meaning_of a word) (meaning_of b word)

pub means_more : (a b c : List (List ℕ × (ℕ × ℕ))) → MeansTheSame a b → MeansTheSame (a ++ c) (b ++ c)
means_more a b c same word =
    meaning_of-append a c word ∙ ap (λ (m : Option (ℕ × ℕ)). option_or m (meaning_of c word)) (same word)
    ∙ sym (meaning_of-append b c word)

chosen_map : (b : Bool) (lattice n : ℕ) (rest : Option ℕ) →
    if◌then◌else◌ {A = Option (ℕ × ℕ)} b (Some (lattice, n)) (option_map (λ (k : ℕ). (lattice, k)) rest)
    ≡ option_map (λ (k : ℕ). (lattice, k)) (if b then Some n else rest)
chosen_map true lattice n rest = refl
chosen_map false lattice n rest = refl

-- a word means the lattice and the number of the first of its entries that has the name
entries_mean : (lattice n : ℕ) (entries : List Entry) (word : List ℕ) →
    meaning_of (entry_words lattice n entries) word
    ≡ option_map (λ (k : ℕ). (lattice, k)) (position_from (λ (entry : Entry). bytes_eq word entry.name) n entries)
entries_mean lattice n [] word = refl
entries_mean lattice n (entry ∷ entries) word =
    ap (λ (rest : Option (ℕ × ℕ)). if◌then◌else◌ {A = Option (ℕ × ℕ)} (bytes_eq word entry.name)
    (Some (lattice, n)) rest) (entries_mean lattice (suc n) entries word)
    ∙ chosen_map (bytes_eq word entry.name) lattice n
    (position_from (λ (e : Entry). bytes_eq word e.name) (suc n) entries)
    ∙ ap (λ (m : ℕ). option_map (λ (k : ℕ). (lattice, k)) (if bytes_eq word entry.name then Some n
    else position_from (λ (e : Entry). bytes_eq word e.name) m entries)) (omega arith)

-- what a word means by one lattice
pub lattice_means : (lattice : ℕ) (entries : List Entry) (word : List ℕ) →
    meaning_of (entry_words lattice 0 entries) word ≡ option_map (λ (k : ℕ). (lattice, k)) (number_of entries word)
lattice_means lattice entries word =
    entries_mean lattice 0 entries word ∙ ap (option_map (λ (k : ℕ). (lattice, k)))
    (sym (position_from-zero (λ (entry : Entry). bytes_eq word entry.name) entries))

-- one entry more
pub entry_words_more : (lattice n : ℕ) (entries : List Entry) (i : ℕ) (entry : Entry) → i < length entries
    → entry ≡ get_or entries i entry →
    entry_words lattice n (take (suc i) entries) ≡ entry_words lattice n (take i entries)
    ++ (entry.name, (lattice, n + i)) ∷ []
entry_words_more lattice n [] i entry h is = absurd (omega arith)
entry_words_more lattice n (e ∷ es) zero entry h is =
    let at : n + 0 ≡ n = omega arith in
    rw (at, is) refl
entry_words_more lattice n (e ∷ es) (suc i) entry h is =
    let at : suc n + i ≡ n + suc i = omega arith in
    ap (λ (rest : List (List ℕ × (ℕ × ℕ))). (e.name, (lattice, n)) ∷ rest)
    (rw at at (entry_words_more lattice (suc n) es i entry (omega arith) is))

-- the words of one more entry are those before it, and its name with its number
pub entry_words_on : (lattice : ℕ) (entries : List Entry) (i : ℕ) (entry : Entry) → i < length entries
    → entry ≡ get_or entries i entry →
    entry_words lattice 0 (take (i + 1) entries) ≡ entry_words lattice 0 (take i entries)
    ++ (entry.name, (lattice, i)) ∷ []
entry_words_on lattice entries i entry h is =
    let at : 0 + i ≡ i = omega arith in
    rw add-one (rw at at (entry_words_more lattice 0 entries i entry h is))

-- a pair more behind words
pub word_on : (lattice : ℕ) (entries : List Entry) (i : ℕ) (entry : Entry) (old now new : List (List ℕ × (ℕ × ℕ)))
    → i < length entries → entry ≡ get_or entries i entry →
    MeansTheSame now (old ++ entry_words lattice 0 (take i entries))
    → MeansTheSame new (now ++ (entry.name, (lattice, i)) ∷ []) →
    MeansTheSame new (old ++ entry_words lattice 0 (take (i + 1) entries))
word_on lattice entries i entry old now new h is before added word =
    let pair : List (List ℕ × (ℕ × ℕ)) = (entry.name, (lattice, i)) ∷ [] in
    added word ∙ means_more now (old ++ entry_words lattice 0 (take i entries)) pair before word
    ∙ ap (λ (all : List (List ℕ × (ℕ × ℕ))). meaning_of all word)
    (append_assoc old (entry_words lattice 0 (take i entries)) pair
    ∙ ap (λ (rest : List (List ℕ × (ℕ × ℕ))). old ++ rest) (sym (entry_words_on lattice entries i entry h is)))

-- one lattice more
pub words_from_more : (n : ℕ) (lattices : List LatticeView) (i : ℕ) (lattice : LatticeView) → i < length lattices
    → lattice ≡ get_or lattices i lattice →
    words_from n (take (suc i) lattices) ≡ words_from n (take i lattices) ++ entry_words (n + i) 0 lattice.entries
words_from_more n [] i lattice h is = absurd (omega arith)
words_from_more n (l ∷ ls) zero lattice h is =
    let at : n + 0 ≡ n = omega arith in
    rw (at, is) (append-nil (entry_words n 0 l.entries))
words_from_more n (l ∷ ls) (suc i) lattice h is =
    let at : suc n + i ≡ n + suc i = omega arith in
    ap (λ (rest : List (List ℕ × (ℕ × ℕ))). entry_words n 0 l.entries ++ rest)
    (rw at at (words_from_more (suc n) ls i lattice (omega arith) is))
    ∙ sym (append_assoc (entry_words n 0 l.entries) (words_from (suc n) (take i ls))
    (entry_words (n + suc i) 0 lattice.entries))

-- names that mean the words of the lattices before, with those of one more lattice, mean those up to it
pub lattice_on : (lattices : List LatticeView) (i : ℕ) (lattice : LatticeView) (now new : List (List ℕ × (ℕ × ℕ)))
    → i < length lattices → lattice ≡ get_or lattices i lattice →
    MeansTheSame now (words_of (take i lattices)) → MeansTheSame new (now ++ entry_words i 0 lattice.entries)
    → MeansTheSame new (words_of (take (i + 1) lattices))
lattice_on lattices i lattice now new h is before added word =
    let at : 0 + i ≡ i = omega arith in
    let more : words_of (take (suc i) lattices) ≡ words_of (take i lattices) ++ entry_words i 0 lattice.entries =
    rw at at (words_from_more 0 lattices i lattice h is) in
    added word ∙ means_more now (words_of (take i lattices)) (entry_words i 0 lattice.entries) before word
    ∙ ap (λ (all : List (List ℕ × (ℕ × ℕ))). meaning_of all word) (rw add-one (sym more))

-- what a word means by the lattices from number i on, the first of which counts as m
meaning_from : (m : ℕ) (lattices : List LatticeView) (i : ℕ) (lattice : LatticeView) (word : List ℕ)
    → i < length lattices → lattice ≡ get_or lattices i lattice →
    meaning_of (words_from m (drop i lattices)) word ≡
    option_or (option_map (λ (k : ℕ). (m, k)) (number_of lattice.entries word))
    (meaning_of (words_from (suc m) (drop (suc i) lattices)) word)
meaning_from m [] i lattice word h is = absurd (omega arith)
meaning_from m (l ∷ ls) zero lattice word h is =
    meaning_of-append (entry_words m 0 l.entries) (words_from (suc m) ls) word
    ∙ ap (λ (first : Option (ℕ × ℕ)). option_or first (meaning_of (words_from (suc m) ls) word))
    (lattice_means m l.entries word
    ∙ ap (λ (v : LatticeView). option_map (λ (k : ℕ). (m, k)) (number_of v.entries word)) (sym is))
meaning_from m (l ∷ ls) (suc i) lattice word h is = meaning_from m ls i lattice word (omega arith) is

-- a word that no earlier lattice has means the element of the first lattice that has it
pub found_at : (lattices : List LatticeView) (i : ℕ) (lattice : LatticeView) (word : List ℕ) (elem : ℕ)
    → i < length lattices → lattice ≡ get_or lattices i lattice →
    number_of lattice.entries word ≡ Some elem → meaning_of (words_of lattices) word
    ≡ meaning_of (words_from i (drop i lattices)) word → meaning_of (words_of lattices) word ≡ Some (i, elem)
found_at lattices i lattice word elem h is found so_far =
    so_far ∙ meaning_from i lattices i lattice word h is
    ∙ ap (λ (n : Option ℕ). option_or (option_map (λ (k : ℕ). (i, k)) n)
    (meaning_of (words_from (suc i) (drop (suc i) lattices)) word)) found

-- a word that a lattice does not have means what it means in those behind it
pub passed_at : (lattices : List LatticeView) (i : ℕ) (lattice : LatticeView) (word : List ℕ) → i < length lattices
    → lattice ≡ get_or lattices i lattice →
    number_of lattice.entries word ≡ None
    → meaning_of (words_of lattices) word ≡ meaning_of (words_from i (drop i lattices)) word →
    meaning_of (words_of lattices) word ≡ meaning_of (words_from (i + 1) (drop (i + 1) lattices)) word
passed_at lattices i lattice word h is none so_far =
    rw add-one (so_far ∙ meaning_from i lattices i lattice word h is
    ∙ ap (λ (n : Option ℕ). option_or (option_map (λ (k : ℕ). (i, k)) n)
    (meaning_of (words_from (suc i) (drop (suc i) lattices)) word)) none)
