-- One more storage word.
use Rattle.std.proofs.Common.{arith, ◌≡◌, ℕ, ◌+◌, nat_eq, false, List, [], ◌∷◌, ◌++◌, Option, Some, None, MatchOption, refl, sym, ◌∙◌, ap, subst, if◌then◌else◌}
use Rattle.std.specs.Prelude.{Any, IsPermutation}
use Rattle.std.proofs.lemmas.List.Sorted.{sum_by-IsPermutation, IsPermutation-push_more, IsPermutation-insert}
use Rattle.c_words.specs.declared.kinds.Keyword.{Keyword}
use Rattle.c_words.specs.declared.kinds.Keyword.TheVariants as words
use Rattle.c_tree.specs.Specifiers.{storages}
use Rattle.c_specs.specs.declared.storage.Storage.{Storage}
use Rattle.c_specs.specs.declared.storage.Storage.TheVariants.{Nothing, Typedef, Extern, Static, Auto, Register, Thread, ThreadStatic, ThreadExtern}
use Rattle.c_specs.specs.Storage.{storing, stored, stored_words}
use Rattle.c_specs.proofs.Counting.{count, begins, not_begun, more_words_count}
use Rattle.c_specs.proofs.Codes.{storage_code}
use Rattle.c_specs.proofs.StorageTable.{word_of, room, Stored, stored_tells}

-- no storage words begin so
abbrev pub NoStorage : List Keyword → Type 0
NoStorage ks = (more : List Keyword) → Any (IsPermutation (ks ++ more)) storages → ⊥

abbrev pub Stores : List Keyword → Option Storage → Type 0
Stores ks o = MatchOption o (NoStorage ks) (λ s. IsPermutation ks (stored_words s))

-- a keyword counts as its storage word
alike : (k : Keyword) → storage_code k ≡ storage_code (word_of (storing k))
alike words.Typedef = refl
alike words.Extern = refl
alike words.Static = refl
alike words.Auto = refl
alike words.Register = refl
alike words.Thread = refl
alike _ = refl

-- no storage begins with words and one more that go in no set of storage words
none_right : (s w : Storage) (k : Keyword) (ks : List Keyword) → storage_code k ≡ storage_code (word_of w)
    → begins storage_code storages (stored_words s ++ word_of w ∷ []) ≡ false → IsPermutation ks (stored_words s)
    → NoStorage (ks ++ k ∷ [])
none_right s w k ks al none here more any =
    not_begun storage_code storages (stored_words s ++ word_of w ∷ []) ((ks ++ k ∷ []) ++ more) none (λ n.
    let all = more_words_count storage_code n (ks ++ k ∷ []) more in
    let whole = more_words_count storage_code n ks (k ∷ []) in
    let part = more_words_count storage_code n (stored_words s) (word_of w ∷ []) in
    let same = sum_by-IsPermutation (λ x. if nat_eq (storage_code x) n then 1 else 0) ks (stored_words s) here in
    let last : count storage_code n (k ∷ []) ≡ count storage_code n (word_of w ∷ []) =
    ap (λ (c : ℕ). 0 + (if nat_eq c n then 1 else 0)) al in
    omega arith) any

-- one more storage word
pub stored_right : (s w : Storage) (k : Keyword) (ks : List Keyword) → storage_code k ≡ storage_code (word_of w)
    → ((after : Storage) → stored s w ≡ Some after → word_of w ≡ k) → IsPermutation ks (stored_words s)
    → Stores (ks ++ k ∷ []) (stored s w)
stored_right s w k ks al same here = by_stored (stored s w) refl (stored_tells s w)
  where
    by_stored : (o : Option Storage) → stored s w ≡ o → Stored s w o → Stores (ks ++ k ∷ []) o
    by_stored None e none = none_right s w k ks al none here
    by_stored (Some after) e is = subst (λ x. IsPermutation (ks ++ x ∷ []) (stored_words after)) (same after e)
        (IsPermutation-push_more ks (stored_words s) (stored_words after) (word_of w) here (subst (λ l. IsPermutation
        (word_of w ∷ stored_words s) l) is (IsPermutation-insert (stored_words s) (room s w) (word_of w))))

-- a word that is none of storage goes with no storage words
nothing_stored : (s : Storage) → stored s Nothing ≡ None
nothing_stored Nothing = refl
nothing_stored Typedef = refl
nothing_stored Extern = refl
nothing_stored Static = refl
nothing_stored Auto = refl
nothing_stored Register = refl
nothing_stored Thread = refl
nothing_stored ThreadStatic = refl
nothing_stored ThreadExtern = refl

-- a keyword that storage goes on with is its own storage word
pub word_same : (s : Storage) (k : Keyword) (after : Storage) → stored s (storing k) ≡ Some after
    → word_of (storing k) ≡ k
word_same s words.Typedef after e = refl
word_same s words.Extern after e = refl
word_same s words.Static after e = refl
word_same s words.Auto after e = refl
word_same s words.Register after e = refl
word_same s words.Thread after e = refl
word_same s _ after e = absurd (let wrong : None ≡ Some after = sym (nothing_stored s) ∙ e in cc)

pub keyword_right : (s : Storage) (k : Keyword) (ks : List Keyword) → IsPermutation ks (stored_words s)
    → Stores (ks ++ k ∷ []) (stored s (storing k))
keyword_right s k ks here = stored_right s (storing k) k ks (alike k) (word_same s k) here

pub thread_right : (s : Storage) (ks : List Keyword) → IsPermutation ks (stored_words s)
    → Stores (ks ++ words.Thread ∷ []) (stored s Thread)
thread_right s ks here = stored_right s Thread words.Thread ks refl (λ after e. refl) here
