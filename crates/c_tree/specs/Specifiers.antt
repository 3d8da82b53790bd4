-- Which specifiers may stand together (C99, 6.7.1 and 6.7.2), in any order.
use Rattle.std.specs.Prelude.{◌≡◌, ℕ, ◌+◌, ◌⊎◌, Any, List, [], ◌∷◌, ◌++◌, map, IsPermutation}
use Rattle.c_words.specs.declared.kinds.Keyword.{Keyword}
use Rattle.c_words.specs.declared.kinds.Keyword.TheVariants.{AnyComplex, Auto, Char, Double, Extern, Float, Int, Long, Register, Short, Signed, Static, Typedef, Unsigned, Void, Bool, Complex, Thread, BaseWord, Int128}
use Rattle.c_tree.specs.Tree.{typeof_value, typeof_type, auto_word, SpecWords, no_words, more_words, storage, thread, basic, struct_type, enum_type, typedef_name}

-- the words of basic types
abbrev pub type_words : SpecWords → List Keyword
type_words no_words = []
type_words (more_words (basic w) ws) = w.keyword ∷ type_words ws
type_words (more_words _ ws) = type_words ws

-- how many structs, unions, enums, typedef names, types by `typeof` or `_Atomic`, and `__auto_type` there are
abbrev pub type_count : SpecWords → ℕ
type_count no_words = 0
type_count (more_words (struct_type a b c d) ws) = type_count ws + 1
type_count (more_words (enum_type e) ws) = type_count ws + 1
type_count (more_words (typedef_name n) ws) = type_count ws + 1
type_count (more_words (typeof_value a b e c) ws) = type_count ws + 1
type_count (more_words (typeof_type a b ws2 d c) ws) = type_count ws + 1
type_count (more_words (auto_word a) ws) = type_count ws + 1
type_count (more_words _ ws) = type_count ws

-- the storage words of specifiers, `_Thread_local` among them
abbrev pub storage_words : SpecWords → List Keyword
storage_words no_words = []
storage_words (more_words (storage w) ws) = w.keyword ∷ storage_words ws
storage_words (more_words (thread token) ws) = Thread ∷ storage_words ws
storage_words (more_words _ ws) = storage_words ws

-- a set of words alone, with `signed`, or with `unsigned`
abbrev pub with_signs : List Keyword → List (List Keyword)
with_signs ws = ws ∷ (Signed ∷ ws) ∷ (Unsigned ∷ ws) ∷ []

-- a set of words alone or with `_Complex`
abbrev pub with_complex : List Keyword → List (List Keyword)
with_complex ws = ws ∷ (Complex ∷ ws) ∷ []

-- in wider C `_Complex` goes with a base word, and with each set of `char`, `short`, `int`, `long`, `signed` and
-- `unsigned`
abbrev pub with_any : List Keyword → List Keyword
with_any ws = AnyComplex ∷ ws

-- the sets of words of the integer types of C99, `char` among them and `_Bool` not
abbrev pub integers : List (List Keyword)
integers =
    (Signed ∷ []) ∷ (Unsigned ∷ []) ∷ [] ++ with_signs (Char ∷ []) ++ with_signs (Int ∷ [])
    ++ with_signs (Short ∷ []) ++ with_signs (Short ∷ Int ∷ []) ++ with_signs (Long ∷ [])
    ++ with_signs (Long ∷ Int ∷ [])
    ++ with_signs (Long ∷ Long ∷ []) ++ with_signs (Long ∷ Long ∷ Int ∷ [])

-- the sets of words with `_Complex` that wider C takes
abbrev pub wide_complex : List (List Keyword)
wide_complex =
    map with_any ([] ∷ (BaseWord ∷ []) ∷ (Float ∷ []) ∷ (Double ∷ []) ∷ (Long ∷ Double ∷ []) ∷ [] ++ integers)

-- the sets of words of the basic types
abbrev pub basic_types : List (List Keyword)
basic_types =
    (Void ∷ []) ∷ (Bool ∷ []) ∷ (BaseWord ∷ []) ∷ (Signed ∷ []) ∷ (Unsigned ∷ []) ∷ (Complex ∷ []) ∷ []
    ++ with_signs (Char ∷ []) ++ with_signs (Int ∷ []) ++ with_signs (Int128 ∷ [])
    ++ with_signs (Short ∷ []) ++ with_signs (Short ∷ Int ∷ [])
    ++ with_signs (Long ∷ []) ++ with_signs (Long ∷ Int ∷ [])
    ++ with_signs (Long ∷ Long ∷ []) ++ with_signs (Long ∷ Long ∷ Int ∷ [])
    ++ with_complex (Float ∷ []) ++ with_complex (Double ∷ []) ++ with_complex (Long ∷ Double ∷ []) ++ wide_complex

-- one type: a basic one, or one of those that are types by themselves
abbrev pub IsOneType : SpecWords → Type 0
IsOneType ws =
    ((type_count ws ≡ 0) × Any (IsPermutation (type_words ws)) basic_types)
    ⊎ ((type_count ws ≡ 1) × (type_words ws ≡ []))

-- at most one storage word; `_Thread_local` may join `static` or `extern`
abbrev pub storages : List (List Keyword)
storages =
    [] ∷ (Typedef ∷ []) ∷ (Extern ∷ []) ∷ (Static ∷ []) ∷ (Auto ∷ []) ∷ (Register ∷ []) ∷ (Thread ∷ [])
    ∷ (Thread ∷ Static ∷ []) ∷ (Thread ∷ Extern ∷ []) ∷ []

-- specifiers that are one type and have storage words that may stand together
abbrev pub IsMix : SpecWords → Type 0
IsMix ws = IsOneType ws × Any (IsPermutation (storage_words ws)) storages
