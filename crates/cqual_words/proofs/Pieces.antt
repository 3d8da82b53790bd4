-- Pieces, and the rows that clap's matches have of them.
use Rattle.std.proofs.Common.{arith, refl, sym, ap, ◌≡◌, ◌∙◌, ◌&&◌, ◌||◌, ◌++◌, ℕ, Bool, true, false, cond, List, [], ◌∷◌, Option}
use Rattle.std.proofs.Common.{Some, None, true≢false, append-nil, append_assoc, fold, is_some, option_map}
use Rattle.std.specs.Prelude.{option_and_then, slice_get, length, nat_le, suc}
use Rattle.std.specs.List.{list_all, list_any, find}
use Rattle.std.specs.Str.{bytes_eq}
use Rattle.std.proofs.lemmas.Bool.Decides.{nat_tests}
use Rattle.std.proofs.Math.Bool.{and-false}
use Rattle.std.proofs.lemmas.List.Sums.{fold-append}
use Rattle.std.proofs.lemmas.Option.{none-some, same_Some}
use Rattle.std.proofs.lemmas.Slice.Eq.{bytes_eq-Decides}
use Rattle.clap.specs.Walk.{Row, all_of, first_of, has_row, more_values, with_values}
use Rattle.clap.specs.declared.parser.matches.ValueSource.{ValueSource}
use Rattle.clap.specs.declared.parser.matches.ValueSource.TheVariants.{CommandLine}
use Rattle.clap.specs.declared.builder.value_parser.Reading.TheVariants.{AsWritten}
use Rattle.cqual_words.specs.Words.{Part, Piece, Text, Valued, Flagged, Lattice, Prelude, Report, Certificate, Name, Number}
use Rattle.cqual_words.specs.Words.{Annotation, Certification, Signing, Source, are_fit, has_meaning, is_part, most_of, name_of, part_of, parts, stands_among}
use Rattle.cqual_words.specs.Words.{task_in, task_of_parts, text_of, texts_of, value_among}
use Rattle.cqual_words.specs.Tool.{plain_texts}

-- ---- parts

-- the part of a name: each part is found by its own
abbrev pub first_named : Text → Option Part
first_named name = find (λ b. bytes_eq (name_of b) name) parts

-- each part is the first one with its name
pub found : (a : Part) → first_named (name_of a) ≡ Some a
found (Valued Lattice) = refl
found (Valued Prelude) = refl
found (Valued Report) = refl
found (Valued Certificate) = refl
found (Valued Name) = refl
found (Valued Number) = refl
found (Flagged Annotation) = refl
found (Flagged Certification) = refl
found (Flagged Signing) = refl
found Source = refl

-- so two parts of one name are the same
pub same_part : (a b : Part) → is_part a b ≡ true → a ≡ b
same_part a b h =
    same_Some a b (sym (found a) ∙ ap first_named ((bytes_eq-Decides (name_of a) (name_of b)).0 h) ∙ found b)

pub part_same : (a : Part) → is_part a a ≡ true
part_same a = (bytes_eq-Decides (name_of a) (name_of a)).1 refl

-- and a test that a part fails is not passed by all
pub fails : (test : Part → Bool) (a : Part) → test a ≡ false → list_all test parts ≡ false
fails test a h = among parts (found a)
  where
    among : (bs : List Part) → find (λ b. is_part b a) bs ≡ Some a → list_all test bs ≡ false
    among [] e = absurd (none-some a e)
    among (b ∷ bs) e = go (is_part b a) e (among bs)
      where
        go : (t : Bool) → cond t (Some b) (find (λ b. is_part b a) bs) ≡ Some a
            → (find (λ b. is_part b a) bs ≡ Some a → list_all test bs ≡ false) → (test b && list_all test bs) ≡ false
        go true e next = ap (λ t. t && list_all test bs) (ap test (same_Some b a e) ∙ h)
        go false e next = rw (next e) (and-false (test b))

-- an option or a flag: what may stand once
abbrev pub is_option : Part → Bool
is_option (Valued key) = true
is_option (Flagged flag) = true
is_option Source = false

-- an option or a flag stands once at the most
option_most : (a : Part) → is_option a ≡ true → most_of a ≡ 1
option_most (Valued key) h = refl
option_most (Flagged flag) h = refl
option_most Source h = absurd (true≢false (sym h))

-- ---- rows

-- a text joins the row of its part, or makes one at the end
abbrev pub with_piece : List Row → Piece → List Row
with_piece rows piece = with_values (name_of (part_of piece)) AsWritten CommandLine (text_of piece ∷ []) rows

abbrev pub rows_at : List Piece → List Row
rows_at pieces = fold with_piece [] pieces

pub rows_more : (ps : List Piece) (p : Piece) → rows_at (ps ++ p ∷ []) ≡ with_piece (rows_at ps) p
rows_more ps p = fold-append with_piece [] ps (p ∷ [])

abbrev pub is_id : Text → Row → Bool
is_id id r = bytes_eq r.id id

-- the texts of an id after one more
pub all_more : (id : Text) (s : ValueSource) (t : Text) (rows : List Row) → bytes_eq id id ≡ true
    → all_of id (with_values id AsWritten s (t ∷ []) rows) ≡ Some (plain_texts (all_of id rows) ++ t ∷ [])
all_more id s t [] same = rw same refl
all_more id s t (r ∷ rows) same = go (bytes_eq r.id id) refl (all_more id s t rows same)
  where
    go : (b : Bool) → bytes_eq r.id id ≡ b
        → all_of id (with_values id AsWritten s (t ∷ []) rows) ≡ Some (plain_texts (all_of id rows) ++ t ∷ [])
        → all_of id (cond b (more_values s (t ∷ []) r ++ rows) (r ∷ with_values id AsWritten s (t ∷ []) rows))
        ≡ Some (plain_texts (option_map (λ (x : Row). x.values) (cond b (Some r) (find (is_id id) rows))) ++ t ∷ [])
    go true e next = rw e refl
    go false e next = rw e next

-- and after one more of another id
pub all_other : (other id : Text) (s : ValueSource) (t : Text) (rows : List Row) → bytes_eq other id ≡ false
    → all_of id (with_values other AsWritten s (t ∷ []) rows) ≡ all_of id rows
all_other other id s t [] apart = rw apart refl
all_other other id s t (r ∷ rows) apart = go (bytes_eq r.id other) refl (all_other other id s t rows apart)
  where
    id_apart : bytes_eq r.id other ≡ true → bytes_eq r.id id ≡ false
    id_apart e = ap (λ x. bytes_eq x id) ((bytes_eq-Decides r.id other).0 e) ∙ apart

    past : (c : Bool) → all_of id (with_values other AsWritten s (t ∷ []) rows) ≡ all_of id rows
        → option_map (λ (x : Row). x.values)
        (cond c (Some r) (find (is_id id) (with_values other AsWritten s (t ∷ []) rows)))
        ≡ option_map (λ (x : Row). x.values) (cond c (Some r) (find (is_id id) rows))
    past true next = refl
    past false next = next

    go : (b : Bool) → bytes_eq r.id other ≡ b → all_of id (with_values other AsWritten s (t ∷ []) rows) ≡ all_of id rows
        → all_of id (cond b (more_values s (t ∷ []) r ++ rows) (r ∷ with_values other AsWritten s (t ∷ []) rows))
        ≡ all_of id (r ∷ rows)
    go true e next = rw (id_apart e) refl
    go false e next = past (bytes_eq r.id id) next

-- ---- texts of a part

-- the texts of a part in two lists of pieces are those in the first, then those in the second
pub texts_append : (a : Part) (ps qs : List Piece) → texts_of a (ps ++ qs) ≡ texts_of a ps ++ texts_of a qs
texts_append a [] qs = refl
texts_append a (p ∷ ps) qs = go (is_part (part_of p) a) (texts_append a ps qs)
  where
    go : (b : Bool) → texts_of a (ps ++ qs) ≡ texts_of a ps ++ texts_of a qs
        → cond b (text_of p ∷ texts_of a (ps ++ qs)) (texts_of a (ps ++ qs)) ≡ cond b (text_of p ∷ texts_of a ps)
        (texts_of a ps) ++ texts_of a qs
    go true e = ap (λ ts. text_of p ∷ ts) e
    go false e = e

pub texts_here : (p : Piece) (more : List Piece)
    → texts_of (part_of p) (p ∷ more) ≡ text_of p ∷ texts_of (part_of p) more
texts_here p more =
    ap (λ b. cond b (text_of p ∷ texts_of (part_of p) more) (texts_of (part_of p) more)) (part_same (part_of p))

-- the texts of an id, by those that were there before and those that come
abbrev pub joined : Option (List Text) → List Text → Option (List Text)
joined None [] = None
joined None (t ∷ ts) = Some (t ∷ ts)
joined (Some before) ts = Some (before ++ ts)

joined_none : (o : Option (List Text)) → o ≡ joined o []
joined_none None = refl
joined_none (Some before) = ap Some (sym (append-nil before))

joined_one : (o : Option (List Text)) (t : Text) (ts : List Text)
    → joined (Some (plain_texts o ++ t ∷ [])) ts ≡ joined o (t ∷ ts)
joined_one None t ts = refl
joined_one (Some before) t ts = ap Some (append_assoc before (t ∷ []) ts)

-- rows with pieces added have for each part the texts that were there and those of the pieces
texts_from : (a : Part) (ps : List Piece) (rows : List Row)
    → all_of (name_of a) (fold with_piece rows ps) ≡ joined (all_of (name_of a) rows) (texts_of a ps)
texts_from a [] rows = joined_none (all_of (name_of a) rows)
texts_from a (p ∷ ps) rows = texts_from a ps (with_piece rows p) ∙ go (is_part (part_of p) a) refl
  where
    same_texts : (is_part (part_of p) a) ≡ true
        → all_of (name_of a) (with_piece rows p) ≡ Some (plain_texts (all_of (name_of a) rows) ++ text_of p ∷ [])
    same_texts e = ap (λ id. all_of (name_of a) (with_values id AsWritten CommandLine (text_of p ∷ []) rows))
        ((bytes_eq-Decides (name_of (part_of p)) (name_of a)).0 e)
        ∙ all_more (name_of a) CommandLine (text_of p) rows (part_same a)

    go : (b : Bool) → (is_part (part_of p) a) ≡ b
        → joined (all_of (name_of a) (with_piece rows p)) (texts_of a ps)
        ≡ joined (all_of (name_of a) rows) (cond b (text_of p ∷ texts_of a ps) (texts_of a ps))
    go true e =
        ap (λ o. joined o (texts_of a ps)) (same_texts e)
        ∙ joined_one (all_of (name_of a) rows) (text_of p) (texts_of a ps)
    go false e = ap (λ o. joined o (texts_of a ps))
        (all_other (name_of (part_of p)) (name_of a) CommandLine (text_of p) rows e)

-- the row of a part has its texts
pub texts_are : (a : Part) (ps : List Piece) → all_of (name_of a) (rows_at ps) ≡ joined None (texts_of a ps)
texts_are a ps = texts_from a ps []

-- the rows of pieces have as sources the plain words among these
pub plain_are : (ps : List Piece) → plain_texts (all_of (name_of Source) (rows_at ps)) ≡ texts_of Source ps
plain_are ps = ap plain_texts (texts_are Source ps) ∙ go (texts_of Source ps)
  where
    go : (ts : List Text) → plain_texts (joined None ts) ≡ ts
    go [] = refl
    go (t ∷ ts) = refl

abbrev pub has_any : {X : Type 0} → List X → Bool
has_any xs = list_any (λ _. true) xs

-- an id has a row just if it has texts
pub some_row : (id : Text) (rows : List Row) → has_row id rows ≡ is_some (all_of id rows)
some_row id [] = refl
some_row id (r ∷ rows) = go (bytes_eq r.id id) (some_row id rows)
  where
    go : (b : Bool) → has_row id rows ≡ is_some (all_of id rows)
        → (b || has_row id rows) ≡ is_some (option_map (λ (x : Row). x.values) (cond b (Some r) (find (is_id id) rows)))
    go true e = refl
    go false e = e

-- the rows of pieces have a row of a part just if the pieces have a text of it
pub has_row_is : (a : Part) (ps : List Piece) → has_row (name_of a) (rows_at ps) ≡ has_any (texts_of a ps)
has_row_is a ps = some_row (name_of a) (rows_at ps) ∙ ap is_some (texts_are a ps) ∙ go (texts_of a ps)
  where
    go : (ts : List Text) → is_some (joined None ts) ≡ has_any ts
    go [] = refl
    go (t ∷ ts) = refl

-- the first text of an id, by all of them
abbrev pub first_in : Option (List Text) → Option Text
first_in o = option_and_then (λ ts. slice_get ts 0) o

-- the first value of an id is the first of all its texts
pub first_by : (id : Text) (rows : List Row) → first_of id rows ≡ first_in (all_of id rows)
first_by id rows = go (find (is_id id) rows)
  where
    go : (o : Option Row)
        → option_and_then (λ (r : Row). slice_get r.values 0) o ≡ first_in (option_map (λ (r : Row). r.values) o)
    go None = refl
    go (Some r) = refl

pub first_joined : (ts : List Text) → first_in (joined None ts) ≡ slice_get ts 0
first_joined [] = refl
first_joined (t ∷ ts) = refl

-- ---- pieces with no meaning

-- a part that may not have its texts leaves the whole with no meaning
part_none : (a : Part) (ps : List Piece) → are_fit a (texts_of a ps) ≡ false → task_in ps ≡ None
part_none a ps h = ap (λ b. cond b (task_of_parts (value_among ps) (stands_among ps) (texts_of Source ps)) None)
    (fails (λ b. are_fit b (texts_of b ps)) a h)

bad_among : (xs : List Text) (t : Text) (ys : List Text) → has_meaning t ≡ false
    → list_all has_meaning (xs ++ t ∷ ys) ≡ false
bad_among [] t ys h = rw h refl
bad_among (x ∷ xs) t ys h = rw (bad_among xs t ys h) (and-false (has_meaning x))

too_many : (n : ℕ) → nat_le (suc (suc n)) 1 ≡ false
too_many n = grind (arith, nat_tests)

-- a text behind some other is more than one
again_among : (xs : List Text) (t : Text) (ys : List Text) → has_any xs ≡ true
    → nat_le (length (xs ++ t ∷ ys)) 1 ≡ false
again_among [] t ys h = absurd (true≢false (sym h))
again_among (x ∷ []) t ys h = too_many (length ys)
again_among (x ∷ y ∷ xs) t ys h = too_many (length (xs ++ t ∷ ys))

texts_at : (ps : List Piece) (p : Piece) (more : List Piece)
    → texts_of (part_of p) (ps ++ p ∷ more) ≡ texts_of (part_of p) ps ++ text_of p ∷ texts_of (part_of p) more
texts_at ps p more =
    texts_append (part_of p) ps (p ∷ more) ∙ ap (λ ts. texts_of (part_of p) ps ++ ts) (texts_here p more)

-- so does a text with no meaning
pub spoilt : (ps : List Piece) (p : Piece) (more : List Piece) → has_meaning (text_of p) ≡ false
    → task_in (ps ++ p ∷ more) ≡ None
spoilt ps p more h = part_none (part_of p) (ps ++ p ∷ more) (ap (are_fit (part_of p)) (texts_at ps p more)
    ∙ rw (bad_among (texts_of (part_of p) ps) (text_of p) (texts_of (part_of p) more) h) refl)

-- and so does an option or a flag that stands again
pub twice : (ps : List Piece) (p : Piece) (more : List Piece) → is_option (part_of p) ≡ true
    → has_row (name_of (part_of p)) (rows_at ps) ≡ true → task_in (ps ++ p ∷ more) ≡ None
twice ps p more option h =
    let before = texts_of (part_of p) ps in
    let all = before ++ text_of p ∷ texts_of (part_of p) more in
    part_none (part_of p) (ps ++ p ∷ more) (ap (are_fit (part_of p)) (texts_at ps p more)
    ∙ ap (λ n. list_all has_meaning all && nat_le (length all) n) (option_most (part_of p) option)
    ∙ ap (λ b. list_all has_meaning all && b)
    (again_among before (text_of p) (texts_of (part_of p) more) (sym (has_row_is (part_of p) ps) ∙ h))
    ∙ and-false (list_all has_meaning all))
