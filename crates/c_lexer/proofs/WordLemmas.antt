-- A word is found among the words of its length.
use Rattle.std.proofs.Common.{◌≡◌, ℕ, zero, suc, ◌+◌, ◌<◌, ◌≤◌, nat_eq, arith, Bool, true, false, List, [], ◌∷◌, ◌++◌, length, map, slice_index_or, Option, Some, None, refl, sym, ◌∙◌, ap, if◌then◌else◌}
use Rattle.std.specs.Prelude.{bytes_eq}
use Rattle.std.proofs.lemmas.Slice.Eq.{bytes_eq-Decides}
use Rattle.qual_base.proofs.Tests.{and_second, and_first, eq_is}
use Rattle.c_lexer.specs.declared.kinds.Listed.{Listed}
use Rattle.c_lexer.specs.Lengths.{joined, have_length, by_length}
use Rattle.c_lexer.specs.Words.{kind_in}

-- a word is not a spelling of another length
differs : (word spelling : List ℕ) (n : ℕ) → length spelling ≡ n → (length word ≡ n → ⊥)
    → bytes_eq word spelling ≡ false
differs word spelling n has not_so = by_test (bytes_eq word spelling) refl
  where
    by_test : (b : Bool) → bytes_eq word spelling ≡ b → bytes_eq word spelling ≡ false
    by_test false is = is
    by_test true is =
        absurd (not_so (ap (λ (l : List ℕ). length l) ((bytes_eq-Decides word spelling).0 is) ∙ has))

-- a table of another length says nothing
passed : (n : ℕ) (table rest : List (List ℕ × Listed)) (word : List ℕ) → have_length n table ≡ true
    → (length word ≡ n → ⊥)
    → kind_in (table ++ rest) word ≡ kind_in rest word
passed n [] rest word are not_so = refl
passed n (entry ∷ entries) rest word are not_so =
    let e = eq_is (length entry.0) n (and_first (nat_eq (length entry.0) n) (have_length n entries) are) in
    ap (λ (b : Bool). if b then Some entry.1 else kind_in (entries ++ rest) word) (differs word entry.0 n e not_so)
    ∙ passed n entries rest word (and_second (nat_eq (length entry.0) n) (have_length n entries) are) not_so

-- nor do tables of longer words
longer : (n : ℕ) (tables : List (List (List ℕ × Listed))) (word : List ℕ) → by_length n tables ≡ true → length word < n
    → kind_in (joined tables) word ≡ None
longer n [] word are lt = refl
longer n (table ∷ tables) word are lt =
    passed n table (joined tables) word (and_first (have_length n table) (by_length (suc n) tables) are)
    (λ e. omega arith)
    ∙ longer (suc n) tables word (and_second (have_length n table) (by_length (suc n) tables) are) (omega arith)

-- the words behind a table where they say nothing
in_front : (table rest : List (List ℕ × Listed)) (word : List ℕ) → kind_in rest word ≡ None
    → kind_in (table ++ rest) word ≡ kind_in table word
in_front [] rest word none = none
in_front (entry ∷ entries) rest word none =
    ap (λ (o : Option Listed). if bytes_eq word entry.0 then Some entry.1 else o) (in_front entries rest word none)

-- the words of one length say what all do
pub of_length : {T : Type 0} (words : T → List (List ℕ × Listed)) (n k : ℕ) (tables : List T) (other : T)
    (word : List ℕ)
    → by_length n (map words tables) ≡ true → length word ≡ k + n → k < length tables
    → kind_in (words (slice_index_or tables k other)) word ≡ kind_in (joined (map words tables)) word
of_length words n k [] other word are is lt = absurd (omega arith)
of_length words n zero (table ∷ tables) other word are is lt =
    sym (in_front (words table) (joined (map words tables)) word
    (longer (suc n) (map words tables) word
    (and_second (have_length n (words table)) (by_length (suc n) (map words tables)) are) (omega arith)))
of_length words n (suc k) (table ∷ tables) other word are is lt =
    of_length words (suc n) k tables other word
    (and_second (have_length n (words table)) (by_length (suc n) (map words tables)) are) (omega arith) (omega arith)
    ∙ sym (passed n (words table) (joined (map words tables)) word
    (and_first (have_length n (words table)) (by_length (suc n) (map words tables)) are) (λ e. omega arith))

-- a word that is longer than all is none
pub past_all : {T : Type 0} (words : T → List (List ℕ × Listed)) (n : ℕ) (tables : List T) (word : List ℕ)
    → by_length n (map words tables) ≡ true → n + length tables ≤ length word
    → kind_in (joined (map words tables)) word ≡ None
past_all words n [] word are le = refl
past_all words n (table ∷ tables) word are le =
    passed n (words table) (joined (map words tables)) word
    (and_first (have_length n (words table)) (by_length (suc n) (map words tables)) are) (λ e. omega arith)
    ∙ past_all words (suc n) tables word
    (and_second (have_length n (words table)) (by_length (suc n) (map words tables)) are) (omega arith)
