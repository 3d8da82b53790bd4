-- The numbers of spellings, name by name and unit by unit.
use Rattle.std.proofs.Common.{arith, ◌≡◌, ℕ, zero, suc, ◌+◌, ◌<◌, Bool, true, false, List, [], ◌∷◌, ◌++◌, length, drop, slice_get, Option, Some, None, is_some, option_map, unwrap_or, refl, sym, ◌∙◌, ap, subst, if◌then◌else◌}
use Rattle.std.specs.Str.{bytes_eq}
use Rattle.std.specs.Map.{lookup, KeepsOthers}
use Rattle.std.proofs.lemmas.Slice.Eq.{bytes_eq-Decides}
use Rattle.std.specs.declared.alloc.Global.{Global}
use Rattle.std.specs.declared.vec.Vec.{Vec}
use Rattle.std.proofs.lemmas.Option.{same_Some}
use Rattle.c_words.specs.declared.kinds.TokenKind.{TokenKind}
use Rattle.c_lexer.specs.declared.token.Token.{Token}
use Rattle.c_lexer.specs.Tokens.{Lexed}
use Rattle.c_types.specs.SourceSpelling.Tokens.{name_of_kind, bytes_of, is_name, spelled_among, spelled, or_behind, name_among, key_or, key_among, key_of_some, key_behind}
use Rattle.c_types.specs.declared.source_spelling.earlier.EarlierNames.{EarlierNames}
use Rattle.c_types.specs.SourceSpelling.Keys.{key_at, past, name_of_token, text_of_token, key_spelled, count_of, AreNamesOf, key_by}

pub none_of : (o : Option ℕ) (has : Bool) → has ≡ is_some o → has ≡ false → o ≡ None
none_of None has is off = refl
none_of (Some n) has is off = let both : true ≡ false = sym is ∙ off in absurd cc

-- maps with texts as keys

abbrev Entries : Type 0
Entries = List (Vec ℕ Global × ℕ)

abbrev found : List ℕ → Entries → Option ℕ
found text entries = lookup (λ key. bytes_eq text key.items) entries

or_none : (o : Option ℕ) → o ≡ or_behind o None
or_none None = refl
or_none (Some n) = refl

eq_false : (a b : List ℕ) → bytes_eq a b ≡ false → (a ≡ b → ⊥)
eq_false a b off is = let both : true ≡ false = sym ((bytes_eq-Decides a b).1 is) ∙ off in cc

-- texts are unlike where one is like a third and the other is not
apart : (text t k : List ℕ) → bytes_eq text t ≡ false → bytes_eq text k ≡ true → bytes_eq t k ≡ false
apart text t k off on = by_test (bytes_eq t k) refl
  where
    by_test : (b : Bool) → bytes_eq t k ≡ b → b ≡ false
    by_test false is = refl
    by_test true is =
        absurd (eq_false text t off ((bytes_eq-Decides text k).0 on ∙ sym ((bytes_eq-Decides t k).0 is)))

same_test : (t a b : List ℕ) → bytes_eq t a ≡ true → bytes_eq t b ≡ bytes_eq a b
same_test t a b is = ap (λ (u : List ℕ). bytes_eq u b) ((bytes_eq-Decides t a).0 is)

kept : (key : Vec ℕ Global) (old new : Entries) (t : List ℕ)
    → KeepsOthers (λ a b. bytes_eq a.items b.items) (λ k. bytes_eq key.items k.items) old new
    → bytes_eq key.items t ≡ false → found t new ≡ found t old
unfolding KeepsOthers
kept key old new t others off =
    others (λ k. bytes_eq t k.items) (λ x y. same_test t x.items y.items) (λ k. apart key.items t k.items off)

-- a text that has no number has one
pub put_text : (key : Vec ℕ Global) (number : ℕ) (old new : Entries) (text : List ℕ) → key.items ≡ text
    → found text old ≡ None → lookup (λ k. bytes_eq key.items k.items) new ≡ Some number
    → KeepsOthers (λ a b. bytes_eq a.items b.items) (λ k. bytes_eq key.items k.items) old new
    → (t : List ℕ) → found t new ≡ or_behind (found t old) (if bytes_eq text t then Some number else None)
put_text key number old new text copied none here others t = by_test (bytes_eq text t) refl
  where
    by_test : (b : Bool) → bytes_eq text t ≡ b → found t new ≡ or_behind (found t old) (if b then Some number else None)
    by_test true is =
        let same = (bytes_eq-Decides text t).0 is in
        ap (λ (u : List ℕ). found u new) (sym same ∙ sym copied) ∙ here
        ∙ ap (λ (o : Option ℕ). or_behind o (Some number)) (sym none ∙ ap (λ (u : List ℕ). found u old) same)
    by_test false is =
        kept key old new t others (ap (λ (u : List ℕ). bytes_eq u t) copied ∙ is) ∙ or_none (found t old)

-- tokens

abbrev kind_of : Option Token → Option TokenKind
kind_of o = option_map (λ token. token.kind) o

if_none : {A : Type 0} (b : Bool) → None ≡ (let o : Option A = if b then None else None in o)
if_none true = refl
if_none false = refl

if_past : (b : Bool) (count name : ℕ)
    → (if b then Some (count + name) else None) ≡ past count (if b then Some name else None)
if_past true count name = refl
if_past false count name = refl

-- a token whose kind is a name has it as the name of its own spelling, past a count, and of no other
pub a_name : (lexed : Lexed) (o : Option Token) (kind : TokenKind) (bytes : List ℕ) (count name : ℕ)
    → kind_of o ≡ Some kind
    → option_map (bytes_of lexed) o ≡ Some bytes → name_of_kind kind ≡ Some name → (t : List ℕ)
    → (if bytes_eq bytes t then Some (count + name) else None) ≡ past count (name_of_token lexed o t)
a_name lexed None kind bytes count name is has named t = absurd cc
a_name lexed (Some token) kind bytes count name is has named t =
    if_past (bytes_eq bytes t) count name
    ∙ ap (λ (n : Option ℕ). past count (if bytes_eq bytes t then n else None))
    (sym named ∙ ap name_of_kind (sym (same_Some token.kind kind is)))
    ∙ ap (λ (bs : List ℕ). past count (if bytes_eq bs t then name_of_kind token.kind else None))
    (sym (same_Some (bytes_of lexed token) bytes has))

-- one token more
pub named_on : (lexed : Lexed) (tokens : List Token) (i : ℕ) (t : List ℕ) → i < length tokens
    → or_behind (name_of_token lexed (slice_get tokens i) t) (name_among lexed (drop (i + 1) tokens) t)
    ≡ name_among lexed (drop i tokens) t
named_on lexed [] i t lt = absurd (omega arith)
named_on lexed (token ∷ tokens) zero t lt = by_test (bytes_eq (bytes_of lexed token) t)
  where
    by_test : (b : Bool) → or_behind (if b then name_of_kind token.kind else None) (name_among lexed tokens t)
        ≡ (if b then or_behind (name_of_kind token.kind) (name_among lexed tokens t) else name_among lexed tokens t)
    by_test true = refl
    by_test false = refl
named_on lexed (token ∷ tokens) (suc i) t lt =
    let e : suc i + 1 ≡ suc (i + 1) = omega arith in rw e (named_on lexed tokens i t (omega arith))

-- the first of three names that is there, the latter two past one count, is the same either way it is grouped
pub or_twice : (a x y : Option ℕ) (count : ℕ)
    → or_behind (or_behind a (past count x)) (past count y) ≡ or_behind a (past count (or_behind x y))
or_twice None None y count = refl
or_twice None (Some n) y count = refl
or_twice (Some m) x y count = refl

-- keys

-- a token before the others: of a name it is the one that counts
pub texts_on : (it : EarlierNames) (lexed : Lexed) (tokens : List Token) (i name : ℕ) → i < length tokens
    → key_by it (key_by it name name (spelled_among lexed (drop (i + 1) tokens) name)) name
    (text_of_token lexed (slice_get tokens i) name)
    ≡ key_by it name name (spelled_among lexed (drop i tokens) name)
texts_on it lexed [] i name lt = absurd (omega arith)
texts_on it lexed (token ∷ tokens) zero name lt = by_test (is_name (name_of_kind token.kind) name)
  where
    by_test : (b : Bool) → key_by it (key_by it name name (spelled_among lexed tokens name)) name
        (if b then Some (bytes_of lexed token) else None)
        ≡ key_by it name name (if b then Some (bytes_of lexed token) else spelled_among lexed tokens name)
    by_test true = refl
    by_test false = refl
texts_on it lexed (token ∷ tokens) (suc i) name lt =
    let e : suc i + 1 ≡ suc (i + 1) = omega arith in rw e (texts_on it lexed tokens i name (omega arith))

-- one item more at the end changes no item that is got, where it is the default at its own position
got_more : (keys : List ℕ) (x i d : ℕ) → (i ≡ length keys → x ≡ d)
    → unwrap_or (slice_get (keys ++ x ∷ []) i) d ≡ unwrap_or (slice_get keys i) d
got_more [] x zero d h = h refl
got_more [] x (suc i) d h = refl
got_more (k ∷ keys) x zero d h = refl
got_more (k ∷ keys) x (suc i) d h = got_more keys x i d (λ e. h (ap suc e))

-- units

-- the key of a spelling among units, or else the name past all their tokens, is what the rules say of it
among_is : (units : List Lexed) (text : List ℕ) (name : ℕ)
    → key_or (count_of units + name) (key_spelled units text) ≡ key_among units text name
among_is [] text name = omega arith
among_is (first ∷ others) text name =
    by_case (name_among first first.tokens text) (key_spelled others text) (among_is others text name)
  where
    by_case : (o rest : Option ℕ) → key_or (count_of others + name) rest ≡ key_among others text name
        → key_or (length first.tokens + count_of others + name) (or_behind o (past (length first.tokens) rest))
        ≡ key_or (length first.tokens + key_among others text name) o
    by_case None None is =
        let e : length first.tokens + count_of others + name ≡ length first.tokens + (count_of others + name) =
        omega arith in
        e ∙ ap (λ (n : ℕ). length first.tokens + n) is
    by_case None (Some n) is = ap (λ (m : ℕ). length first.tokens + m) is
    by_case (Some n) rest is = refl

-- the key of a name of a unit behind others, by its spelling, is what the rules say of it, also behind none
behind_is : (units : List Lexed) (lexed : Lexed) (name : ℕ)
    → key_of_some units (spelled lexed name) name ≡ key_behind units lexed name
behind_is [] lexed name = by_case (spelled lexed name)
  where
    by_case : (o : Option (List ℕ)) → key_of_some [] o name ≡ name
    by_case None = refl
    by_case (Some text) = refl
behind_is (first ∷ others) lexed name = refl

-- the key that the names of units give a spelling, where there is one, is its key among the units
by_units : (units : List Lexed) (it : EarlierNames) → AreNamesOf units it → (o : Option (List ℕ)) (name : ℕ)
    → key_by it name name o ≡ key_of_some units o name
by_units units it are None name = refl
by_units units it are (Some text) name =
    ap (λ (n : ℕ). key_or (n + name) (key_at it text)) are.count
    ∙ ap (key_or (count_of units + name)) (are.keys text) ∙ among_is units text name

-- the keys of a unit behind others
pub keys_are : (units : List Lexed) (it : EarlierNames) (lexed : Lexed) (name : ℕ) → AreNamesOf units it
    → key_by it name name (spelled lexed name) ≡ key_behind units lexed name
keys_are units it lexed name are = by_units units it are (spelled lexed name) name ∙ behind_is units lexed name

no_tokens : (first : Lexed) (tokens : List Token) (text : List ℕ) (key : ℕ) → length tokens ≡ 0
    → key_or (length tokens + key) (name_among first tokens text) ≡ key
no_tokens first [] text key none = omega arith
no_tokens first (token ∷ tokens) text key none = absurd (omega arith)

-- among units without tokens each name is the key of its spelling
none_among : (units : List Lexed) (text : List ℕ) (name : ℕ) → count_of units ≡ 0 → key_among units text name ≡ name
none_among [] text name none = refl
none_among (first ∷ others) text name none =
    no_tokens first first.tokens text (key_among others text name) (omega arith)
    ∙ none_among others text name (omega arith)

-- behind no tokens each name has its own number
pub own_are : (units : List Lexed) (it : EarlierNames) (lexed : Lexed) (name : ℕ) → AreNamesOf units it → it.count ≡ 0
    → name ≡ key_behind units lexed name
own_are units it lexed name are none =
    sym (by_case (spelled lexed name)) ∙ behind_is units lexed name
  where
    by_case : (o : Option (List ℕ)) → key_of_some units o name ≡ name
    by_case None = refl
    by_case (Some text) = none_among units text name (sym are.count ∙ none)

past_none : (o : Option ℕ) → or_behind o None ≡ past 0 o
past_none None = refl
past_none (Some n) = let e : n ≡ 0 + n = omega arith in ap (λ (m : ℕ). Some m) e

past_twice : (a b : ℕ) (o : Option ℕ) → past a (past b o) ≡ past (a + b) o
past_twice a b None = refl
past_twice a b (Some n) = let e : a + (b + n) ≡ (a + b) + n = omega arith in ap (λ (m : ℕ). Some m) e

-- a spelling has its key among units and one more from the units, or else from the last, past their tokens
spelled_more : (units : List Lexed) (lexed : Lexed) (text : List ℕ) → key_spelled (units ++ lexed ∷ []) text
    ≡ or_behind (key_spelled units text) (past (count_of units) (name_among lexed lexed.tokens text))
spelled_more [] lexed text = past_none (name_among lexed lexed.tokens text)
spelled_more (first ∷ others) lexed text =
    ap (λ (o : Option ℕ). or_behind (name_among first first.tokens text) (past (length first.tokens) o))
    (spelled_more others lexed text)
    ∙ by_case (name_among first first.tokens text) (key_spelled others text)
  where
    by_case : (o rest : Option ℕ) → or_behind o (past (length first.tokens)
        (or_behind rest (past (count_of others) (name_among lexed lexed.tokens text))))
        ≡ or_behind (or_behind o (past (length first.tokens) rest))
        (past (length first.tokens + count_of others) (name_among lexed lexed.tokens text))
    by_case (Some n) rest = refl
    by_case None (Some n) = refl
    by_case None None = past_twice (length first.tokens) (count_of others) (name_among lexed lexed.tokens text)

-- units and one more have the tokens of the units and those of the one
count_more : (units : List Lexed) (lexed : Lexed)
    → count_of (units ++ lexed ∷ []) ≡ count_of units + length lexed.tokens
count_more [] lexed = omega arith
count_more (first ∷ others) lexed =
    let e = count_more others lexed in
    ap (λ (n : ℕ). length first.tokens + n) e
    ∙ (let same : length first.tokens + (count_of others + length lexed.tokens)
    ≡ (length first.tokens + count_of others) + length lexed.tokens = omega arith in same)

-- one unit more
pub unit_more : (units : List Lexed) (old new : EarlierNames) (lexed : Lexed) → AreNamesOf units old
    → ((t : List ℕ) → key_at new t ≡ or_behind (key_at old t) (past old.count (name_among lexed lexed.tokens t)))
    → new.count ≡ old.count + length lexed.tokens → AreNamesOf (units ++ lexed ∷ []) new
unit_more units old new lexed are keys count =
    record {
      keys = λ t.
          keys t
          ∙ ap (λ (n : ℕ). or_behind (key_at old t) (past n (name_among lexed lexed.tokens t))) are.count
          ∙ ap (λ (o : Option ℕ). or_behind o (past (count_of units) (name_among lexed lexed.tokens t))) (are.keys t)
          ∙ sym (spelled_more units lexed t);
      count = count ∙ ap (λ (n : ℕ). n + length lexed.tokens) are.count ∙ sym (count_more units lexed);
    }
