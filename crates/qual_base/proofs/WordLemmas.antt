-- The entries of the map of words, and the pairs that clauses see of it.
use Rattle.std.proofs.Common.{◌≡◌, ℕ, Bool, true, false, List, [], ◌∷◌, ◌++◌, map, Some, None, refl, sym, ◌∙◌, ap, is_some, if◌then◌else◌}
use Rattle.std.specs.declared.option.Option.{Option}
use Rattle.std.specs.declared.alloc.Global.{Global}
use Rattle.std.specs.declared.vec.Vec.{Vec}
use Rattle.std.specs.Str.{bytes_eq}
use Rattle.std.specs.Map.{lookup}
use Rattle.std.proofs.lemmas.Slice.Eq.{bytes_eq-Decides}
use Rattle.indexmap.specs.IndexMap.{insert_entry}
use Rattle.qual_base.specs.Words.{meaning_of, with_pair, MeansTheSame}

abbrev pub Entry : Type 0
Entry = Vec ℕ Global × (ℕ × ℕ)

abbrev pub pair_of : Entry → List ℕ × (ℕ × ℕ)
pair_of entry = (entry.0.items, entry.1)

-- a look-up among the entries is the meaning among the pairs
pub looked_up : (entries : List Entry) (word : List ℕ) →
    lookup (λ k. bytes_eq word k.items) entries ≡ meaning_of (map pair_of entries) word
looked_up [] word = refl
looked_up (entry ∷ entries) word = rw (looked_up entries word) refl

-- an entry for a word without meaning goes behind
pub put_behind : (entries : List Entry) (key : Vec ℕ Global) (value : ℕ × ℕ) →
    meaning_of (map pair_of entries) key.items ≡ None →
    map pair_of (insert_entry (λ a b. bytes_eq a.items b.items) entries key value) ≡ map pair_of entries
    ++ (key.items, value) ∷ []
put_behind [] key value none = refl
put_behind (entry ∷ entries) key value none =
    chosen (bytes_eq key.items entry.0.items) entry.1 (meaning_of (map pair_of entries) key.items)
    ((entry.0, value) ∷ entries) (entry ∷ insert_entry (λ a b. bytes_eq a.items b.items) entries key value)
    (map pair_of (entry ∷ entries) ++ (key.items, value) ∷ [])
    (λ rest. ap (λ (pairs : List (List ℕ × (ℕ × ℕ))). pair_of entry ∷ pairs) (put_behind entries key value rest)) none
  where
    chosen : (b : Bool) (meaning : ℕ × ℕ) (rest : Option (ℕ × ℕ)) (here on : List Entry)
        (pairs : List (List ℕ × (ℕ × ℕ))) →
        (rest ≡ None → map pair_of on ≡ pairs) → (if b then Some meaning else rest) ≡ None
        → map pair_of (if b then here else on) ≡ pairs
    chosen true meaning rest here on pairs next none = cc
    chosen false meaning rest here on pairs next none = next none

-- pairs behind change no meaning that is there
pub stays : (pairs others : List (List ℕ × (ℕ × ℕ))) (word : List ℕ) →
    is_some (meaning_of pairs word) ≡ true → meaning_of (pairs ++ others) word ≡ meaning_of pairs word
stays [] others word some = cc
stays (pair ∷ pairs) others word some =
    chosen (bytes_eq word pair.0) pair.1 (meaning_of pairs word) (meaning_of (pairs ++ others) word)
    (stays pairs others word) some
  where
    chosen : (b : Bool) (meaning : ℕ × ℕ) (rest longer : Option (ℕ × ℕ)) → (is_some rest ≡ true → longer ≡ rest) →
        is_some (if b then Some meaning else rest) ≡ true
        → (if b then Some meaning else longer) ≡ (if b then Some meaning else rest)
    chosen true meaning rest longer next some = refl
    chosen false meaning rest longer next some = next some

-- a pair behind changes the meaning of its own word alone
pub apart : (pairs : List (List ℕ × (ℕ × ℕ))) (pair : List ℕ × (ℕ × ℕ)) (word : List ℕ) →
    bytes_eq word pair.0 ≡ false → meaning_of (pairs ++ pair ∷ []) word ≡ meaning_of pairs word
apart [] pair word other = rw other refl
apart (first ∷ pairs) pair word other = rw (apart pairs pair word other) refl

-- a pair for a word that has a meaning changes none
pub unchanged : (pairs : List (List ℕ × (ℕ × ℕ))) (pair : List ℕ × (ℕ × ℕ)) →
    is_some (meaning_of pairs pair.0) ≡ true → MeansTheSame pairs (pairs ++ pair ∷ [])
unchanged pairs pair some word = by_test (bytes_eq word pair.0) refl
  where
    by_test : (b : Bool) → bytes_eq word pair.0 ≡ b → meaning_of pairs word ≡ meaning_of (pairs ++ pair ∷ []) word
    by_test false other = sym (apart pairs pair word other)
    by_test true same =
        let e : word ≡ pair.0 = (bytes_eq-Decides word pair.0).0 same in sym (stays pairs (pair ∷ []) word (rw e some))

-- with no meaning for its word the pair goes behind, and changes the meaning as it does behind all
pub put_new : (entries after : List Entry) (pairs : List (List ℕ × (ℕ × ℕ))) (key : Vec ℕ Global) (word : List ℕ)
    (value : ℕ × ℕ) →
    map pair_of entries ≡ pairs → after ≡ insert_entry (λ a b. bytes_eq a.items b.items) entries key value
    → key.items ≡ word →
    is_some (meaning_of pairs word) ≡ false → map pair_of after ≡ pairs ++ (word, value) ∷ []
put_new entries after pairs key word value view put copied new =
    ap (map pair_of) put ∙ put_behind entries key value
    (none_of (meaning_of (map pair_of entries) key.items) (rw (view, copied) new)) ∙ rw (view, copied) refl
  where
    none_of : (meaning : Option (ℕ × ℕ)) → is_some meaning ≡ false → meaning ≡ None
    none_of None new = refl
    none_of (Some meaning) new = cc

-- whether the pair goes behind
pub with_known : (pairs : List (List ℕ × (ℕ × ℕ))) (pair : List ℕ × (ℕ × ℕ)) → is_some (meaning_of pairs pair.0) ≡ true
    → with_pair pairs pair ≡ pairs
with_known pairs pair known = rw known refl

pub with_new : (pairs : List (List ℕ × (ℕ × ℕ))) (pair : List ℕ × (ℕ × ℕ)) → is_some (meaning_of pairs pair.0) ≡ false
    → with_pair pairs pair ≡ pairs ++ pair ∷ []
with_new pairs pair new = rw new refl
