-- One more word of a mix.
use Rattle.std.proofs.Common.{arith, ◌≡◌, ℕ, ◌+◌, ◌≤◌, List, [], ◌∷◌, ◌++◌, length, Option, Some, None, MatchOption, inl, inr, refl, sym, ◌∙◌, ap, subst}
use Rattle.std.specs.Prelude.{Any, IsPermutation}
use Rattle.std.proofs.lemmas.List.{append-nil}
use Rattle.std.proofs.lemmas.List.Sorted.{length_permutation}
use Rattle.c_words.specs.declared.kinds.Keyword.{Keyword}
use Rattle.c_words.specs.declared.kinds.Keyword.TheVariants as words
use Rattle.c_tree.specs.Tree.{SpecWords, no_words, more_words, SpecWord, storage, thread, inline_word, noreturn, qualifier, basic, struct_type, enum_type, typedef_name, attribute, typeof_value, typeof_type, align, auto_word}
use Rattle.c_tree.specs.Specifiers.{type_words, type_count, storage_words, storages}
use Rattle.c_specs.specs.declared.basic.Base.{Base}
use Rattle.c_specs.specs.declared.basic.Base.TheVariants as bases
use Rattle.c_specs.specs.declared.basic.Mark.{Mark}
use Rattle.c_specs.specs.declared.basic.Mark.TheVariants as marks
use Rattle.c_specs.specs.declared.mix.Types.{Types}
use Rattle.c_specs.specs.declared.mix.Types.TheVariants.{Words, Named}
use Rattle.c_specs.specs.declared.mix.Mix.{Mix}
use Rattle.c_specs.specs.declared.storage.Storage.{Storage}
use Rattle.c_specs.specs.declared.storage.Storage.TheVariants as stores
use Rattle.c_specs.specs.Basic.{part_of, base_words, words_of}
use Rattle.c_specs.specs.Storage.{storing, stored, stored_words}
use Rattle.c_specs.specs.Mix.{with_part, with_named, with_types, storage_put, with_word}
use Rattle.c_specs.specs.Reading.{append_words, pushed, Begins, IsTypeOf, TypesAre, AreRead}
use Rattle.c_specs.proofs.BasicSteps.{NoType, Steps, steps_right}
use Rattle.c_specs.proofs.StorageSteps.{NoStorage, Stores, keyword_right, thread_right}

-- the type words of specifiers and others are those of the first, then those of the others
pub types_append : (ws more : SpecWords) → type_words (append_words ws more) ≡ type_words ws ++ type_words more
types_append no_words more = refl
types_append (more_words (storage a) ws) more = types_append ws more
types_append (more_words (thread a) ws) more = types_append ws more
types_append (more_words (inline_word a) ws) more = types_append ws more
types_append (more_words (noreturn a) ws) more = types_append ws more
types_append (more_words (qualifier a) ws) more = types_append ws more
types_append (more_words (basic a) ws) more = ap (λ ks. a.keyword ∷ ks) (types_append ws more)
types_append (more_words (struct_type a b c d) ws) more = types_append ws more
types_append (more_words (enum_type a) ws) more = types_append ws more
types_append (more_words (typedef_name a) ws) more = types_append ws more
types_append (more_words (attribute a) ws) more = types_append ws more
types_append (more_words (typeof_value a b e c) ws) more = types_append ws more
types_append (more_words (typeof_type a b ws2 d c) ws) more = types_append ws more
types_append (more_words (align a) ws) more = types_append ws more
types_append (more_words (auto_word a) ws) more = types_append ws more

-- specifiers and others have as many types that are no basic words as both together
pub counts_append : (ws more : SpecWords) → type_count (append_words ws more) ≡ type_count ws + type_count more
counts_append no_words more = omega arith
counts_append (more_words (storage a) ws) more = counts_append ws more
counts_append (more_words (thread a) ws) more = counts_append ws more
counts_append (more_words (inline_word a) ws) more = counts_append ws more
counts_append (more_words (noreturn a) ws) more = counts_append ws more
counts_append (more_words (qualifier a) ws) more = counts_append ws more
counts_append (more_words (basic a) ws) more = counts_append ws more
counts_append (more_words (struct_type a b c d) ws) more = let e = counts_append ws more in omega arith
counts_append (more_words (enum_type a) ws) more = let e = counts_append ws more in omega arith
counts_append (more_words (typedef_name a) ws) more = let e = counts_append ws more in omega arith
counts_append (more_words (attribute a) ws) more = counts_append ws more
counts_append (more_words (typeof_value a b e c) ws) more = let e = counts_append ws more in omega arith
counts_append (more_words (typeof_type a b ws2 d c) ws) more = let e = counts_append ws more in omega arith
counts_append (more_words (align a) ws) more = counts_append ws more
counts_append (more_words (auto_word a) ws) more = let e = counts_append ws more in omega arith

-- the storage words of specifiers and others are those of the first, then those of the others
pub stores_append : (ws more : SpecWords)
    → storage_words (append_words ws more) ≡ storage_words ws ++ storage_words more
stores_append no_words more = refl
stores_append (more_words (storage a) ws) more = ap (λ ks. a.keyword ∷ ks) (stores_append ws more)
stores_append (more_words (thread a) ws) more = ap (λ ks. words.Thread ∷ ks) (stores_append ws more)
stores_append (more_words (inline_word a) ws) more = stores_append ws more
stores_append (more_words (noreturn a) ws) more = stores_append ws more
stores_append (more_words (qualifier a) ws) more = stores_append ws more
stores_append (more_words (basic a) ws) more = stores_append ws more
stores_append (more_words (struct_type a b c d) ws) more = stores_append ws more
stores_append (more_words (enum_type a) ws) more = stores_append ws more
stores_append (more_words (typedef_name a) ws) more = stores_append ws more
stores_append (more_words (attribute a) ws) more = stores_append ws more
stores_append (more_words (typeof_value a b e c) ws) more = stores_append ws more
stores_append (more_words (typeof_type a b ws2 d c) ws) more = stores_append ws more
stores_append (more_words (align a) ws) more = stores_append ws more
stores_append (more_words (auto_word a) ws) more = stores_append ws more

no_type_begins : (ws : SpecWords) → NoType (type_count ws) (type_words ws) → Begins ws → ⊥
no_type_begins ws none (more, mix) =
    none (type_count more) (type_words more)
    (subst (λ n. IsTypeOf n (type_words ws ++ type_words more)) (counts_append ws more)
    (subst (λ ks. IsTypeOf (type_count (append_words ws more)) ks) (types_append ws more) mix.0))

no_storage_begins : (ws : SpecWords) → NoStorage (storage_words ws) → Begins ws → ⊥
no_storage_begins ws none (more, mix) =
    none (storage_words more) (subst (λ ks. Any (IsPermutation ks) storages) (stores_append ws more) mix.1)

Right : SpecWords → Option Mix → Type 0
Right ws o = MatchOption o (Begins ws → ⊥) (λ m. AreRead m ws)

types_right : (mix : Mix) (ws : SpecWords) (o : Option Types) → Steps (type_count ws) (type_words ws) o
    → IsPermutation (storage_words ws) (stored_words mix.storage) → Right ws (with_types mix o)
unfolding Right
types_right mix ws None none here = no_type_begins ws none
types_right mix ws (Some t) is here = record { types = is; storing = here }

storage_right : (mix : Mix) (ws : SpecWords) (o : Option Storage) → Stores (storage_words ws) o
    → TypesAre mix.types (type_count ws) (type_words ws) → Right ws (storage_put mix o)
unfolding Right
storage_right mix ws None none here = no_storage_begins ws none
storage_right mix ws (Some s) is here = record { types = here; storing = is }

-- a named type and words of a basic type are no type
full : (n : ℕ) (ks : List Keyword) → 1 ≤ length ks → NoType (n + 1) ks
full n [] some m more h = absurd (omega arith)
full n (k ∷ ks) some m more h =
    elim h [ inl nought ↦ absurd (let e = nought.0 in omega arith) | inr last ↦ absurd (let e = last.1 in cc) ]

-- words that are those of a base, which has some, are at least one
pub many : (b : Base) (m : Mark) (ks : List Keyword) → 1 ≤ length (base_words b) → IsPermutation ks (words_of b m)
    → 1 ≤ length ks
many b marks.Unmarked ks some here = let e = length_permutation ks (base_words b) here in omega arith
many b marks.Signed ks some here = let e = length_permutation ks (words.Signed ∷ base_words b) here in omega arith
many b marks.Unsigned ks some here = let e = length_permutation ks (words.Unsigned ∷ base_words b) here in omega arith
many b marks.Complex ks some here = let e = length_permutation ks (words.Complex ∷ base_words b) here in omega arith
many b marks.AnyComplex ks some here =
    let e = length_permutation ks (words.AnyComplex ∷ base_words b) here in
    omega arith
many b marks.ComplexSigned ks some here =
    let e = length_permutation ks (words.AnyComplex ∷ words.Signed ∷ base_words b) here in
    omega arith
many b marks.ComplexUnsigned ks some here =
    let e = length_permutation ks (words.AnyComplex ∷ words.Unsigned ∷ base_words b) here in
    omega arith

empty : (ks : List Keyword) → IsPermutation ks [] → ks ≡ []
empty [] here = refl
empty (k ∷ ks) here = absurd (let e = length_permutation (k ∷ ks) [] here in omega arith)

-- a named type more gives a named type where no word of a type stood, and else no type begins so
named_right : (t : Types) (n : ℕ) (ks : List Keyword) → TypesAre t n ks → Steps (n + 1) ks (with_named t)
named_right Named n ks (one, none) = λ m more h.
    elim h [ inl nought ↦ absurd (let e = nought.0 in omega arith) | inr last ↦ absurd (let e = last.0 in omega arith) ]
named_right (Words bases.Nothing marks.Unmarked) n ks (is, fit, here) = (omega arith, empty ks here)
named_right (Words bases.Nothing marks.Signed) n ks (is, fit, here) =
    full n ks (let e = length_permutation ks (words.Signed ∷ []) here in omega arith)
named_right (Words bases.Nothing marks.Unsigned) n ks (is, fit, here) =
    full n ks (let e = length_permutation ks (words.Unsigned ∷ []) here in omega arith)
named_right (Words bases.Nothing marks.Complex) n ks (is, fit, here) =
    full n ks (let e = length_permutation ks (words.Complex ∷ []) here in omega arith)
named_right (Words bases.Nothing marks.AnyComplex) n ks (is, fit, here) =
    full n ks (let e = length_permutation ks (words.AnyComplex ∷ []) here in omega arith)
named_right (Words bases.Nothing marks.ComplexSigned) n ks (is, fit, here) =
    full n ks (let e = length_permutation ks (words.AnyComplex ∷ words.Signed ∷ []) here in omega arith)
named_right (Words bases.Nothing marks.ComplexUnsigned) n ks (is, fit, here) =
    full n ks (let e = length_permutation ks (words.AnyComplex ∷ words.Unsigned ∷ []) here in omega arith)
named_right (Words bases.Void m) n ks (is, fit, here) = full n ks (many bases.Void m ks (omega arith) here)
named_right (Words bases.Bool m) n ks (is, fit, here) = full n ks (many bases.Bool m ks (omega arith) here)
named_right (Words bases.Alone m) n ks (is, fit, here) = full n ks (many bases.Alone m ks (omega arith) here)
named_right (Words bases.Char m) n ks (is, fit, here) = full n ks (many bases.Char m ks (omega arith) here)
named_right (Words bases.Int m) n ks (is, fit, here) = full n ks (many bases.Int m ks (omega arith) here)
named_right (Words bases.Int128 m) n ks (is, fit, here) = full n ks (many bases.Int128 m ks (omega arith) here)
named_right (Words bases.Short m) n ks (is, fit, here) = full n ks (many bases.Short m ks (omega arith) here)
named_right (Words bases.ShortInt m) n ks (is, fit, here) = full n ks (many bases.ShortInt m ks (omega arith) here)
named_right (Words bases.Long m) n ks (is, fit, here) = full n ks (many bases.Long m ks (omega arith) here)
named_right (Words bases.LongInt m) n ks (is, fit, here) = full n ks (many bases.LongInt m ks (omega arith) here)
named_right (Words bases.LongLong m) n ks (is, fit, here) = full n ks (many bases.LongLong m ks (omega arith) here)
named_right (Words bases.LongLongInt m) n ks (is, fit, here) =
    full n ks (many bases.LongLongInt m ks (omega arith) here)
named_right (Words bases.Float m) n ks (is, fit, here) = full n ks (many bases.Float m ks (omega arith) here)
named_right (Words bases.Double m) n ks (is, fit, here) = full n ks (many bases.Double m ks (omega arith) here)
named_right (Words bases.LongDouble m) n ks (is, fit, here) = full n ks (many bases.LongDouble m ks (omega arith) here)

steps_as : (n n' : ℕ) (ks ks' : List Keyword) (o : Option Types) → n' ≡ n → ks' ≡ ks → Steps n ks o → Steps n' ks' o
steps_as n n' ks ks' o en ek steps = subst (λ x. Steps x ks' o) (sym en) (subst (λ x. Steps n x o) (sym ek) steps)

types_as : (t : Types) (n n' : ℕ) (ks ks' : List Keyword) → n' ≡ n → ks' ≡ ks → TypesAre t n ks → TypesAre t n' ks'
types_as t n n' ks ks' en ek are = subst (λ x. TypesAre t x ks') (sym en) (subst (λ x. TypesAre t n x) (sym ek) are)

same_count : (ws : SpecWords) (w : SpecWord) → type_count (more_words w no_words) ≡ 0
    → type_count (pushed ws w) ≡ type_count ws
same_count ws w none = let e = counts_append ws (more_words w no_words) in omega arith

one_count : (ws : SpecWords) (w : SpecWord) → type_count (more_words w no_words) ≡ 1
    → type_count (pushed ws w) ≡ type_count ws + 1
one_count ws w one = let e = counts_append ws (more_words w no_words) in omega arith

same_types : (ws : SpecWords) (w : SpecWord) → type_words (more_words w no_words) ≡ []
    → type_words (pushed ws w) ≡ type_words ws
same_types ws w none =
    types_append ws (more_words w no_words) ∙ ap (λ ks. type_words ws ++ ks) none ∙ append-nil (type_words ws)

same_stores : (ws : SpecWords) (w : SpecWord) → storage_words (more_words w no_words) ≡ []
    → storage_words (pushed ws w) ≡ storage_words ws
same_stores ws w none =
    stores_append ws (more_words w no_words) ∙ ap (λ ks. storage_words ws ++ ks) none ∙ append-nil (storage_words ws)

kept_stores : (mix : Mix) (ws : SpecWords) (w : SpecWord) → storage_words (more_words w no_words) ≡ [] → AreRead mix ws
    → IsPermutation (storage_words (pushed ws w)) (stored_words mix.storage)
kept_stores mix ws w none read =
    subst (λ ks. IsPermutation ks (stored_words mix.storage)) (sym (same_stores ws w none)) read.storing

kept_types : (mix : Mix) (ws : SpecWords) (w : SpecWord) → type_count (more_words w no_words) ≡ 0
    → type_words (more_words w no_words) ≡ [] → AreRead mix ws
    → TypesAre mix.types (type_count (pushed ws w)) (type_words (pushed ws w))
kept_types mix ws w nought none read =
    types_as mix.types _ _ _ _ (same_count ws w nought) (same_types ws w none) read.types

name_right : (mix : Mix) (ws : SpecWords) (w : SpecWord) → type_count (more_words w no_words) ≡ 1
    → type_words (more_words w no_words) ≡ [] → storage_words (more_words w no_words) ≡ [] → AreRead mix ws
    → Right (pushed ws w) (with_types mix (with_named mix.types))
name_right mix ws w one none least read = types_right mix (pushed ws w) (with_named mix.types)
    (steps_as _ _ _ _ (with_named mix.types) (one_count ws w one) (same_types ws w none)
    (named_right mix.types (type_count ws) (type_words ws) read.types)) (kept_stores mix ws w least read)

rest_right : (mix : Mix) (ws : SpecWords) (w : SpecWord) → type_count (more_words w no_words) ≡ 0
    → type_words (more_words w no_words) ≡ [] → storage_words (more_words w no_words) ≡ [] → AreRead mix ws
    → AreRead mix (pushed ws w)
rest_right mix ws w nought none least read =
    record { types = kept_types mix ws w nought none read; storing = kept_stores mix ws w least read }

-- one more word of a mix
pub with_right : (mix : Mix) (ws : SpecWords) (w : SpecWord) → AreRead mix ws
    → MatchOption (with_word mix w) (Begins (pushed ws w) → ⊥) (λ m. AreRead m (pushed ws w))
unfolding Right
with_right mix ws (storage a) read = storage_right mix (pushed ws (storage a)) (stored mix.storage (storing a.keyword))
    (subst (λ ks. Stores ks (stored mix.storage (storing a.keyword)))
    (sym (stores_append ws (more_words (storage a) no_words)))
    (keyword_right mix.storage a.keyword (storage_words ws) read.storing))
    (kept_types mix ws (storage a) refl refl read)
with_right mix ws (thread a) read = storage_right mix (pushed ws (thread a)) (stored mix.storage stores.Thread)
    (subst (λ ks. Stores ks (stored mix.storage stores.Thread))
    (sym (stores_append ws (more_words (thread a) no_words)))
    (thread_right mix.storage (storage_words ws) read.storing)) (kept_types mix ws (thread a) refl refl read)
with_right mix ws (basic a) read = types_right mix (pushed ws (basic a)) (with_part mix.types (part_of a.keyword))
    (steps_as _ _ _ _ (with_part mix.types (part_of a.keyword)) (same_count ws (basic a) refl) (types_append ws
    (more_words (basic a) no_words)) (steps_right mix.types a.keyword (type_count ws) (type_words ws) read.types))
    (kept_stores mix ws (basic a) refl read)
with_right mix ws (struct_type a b c d) read = name_right mix ws (struct_type a b c d) refl refl refl read
with_right mix ws (enum_type a) read = name_right mix ws (enum_type a) refl refl refl read
with_right mix ws (typedef_name a) read = name_right mix ws (typedef_name a) refl refl refl read
with_right mix ws (inline_word a) read = rest_right mix ws (inline_word a) refl refl refl read
with_right mix ws (noreturn a) read = rest_right mix ws (noreturn a) refl refl refl read
with_right mix ws (qualifier a) read = rest_right mix ws (qualifier a) refl refl refl read
with_right mix ws (attribute a) read = rest_right mix ws (attribute a) refl refl refl read
with_right mix ws (typeof_value a b e c) read = name_right mix ws (typeof_value a b e c) refl refl refl read
with_right mix ws (typeof_type a b ws2 d c) read = name_right mix ws (typeof_type a b ws2 d c) refl refl refl read
with_right mix ws (align a) read = rest_right mix ws (align a) refl refl refl read
with_right mix ws (auto_word a) read = name_right mix ws (auto_word a) refl refl refl read
