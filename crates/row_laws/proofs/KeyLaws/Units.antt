-- The keys of differently numbered tokens differ, and those of different units.
use Rattle.std.proofs.Common.{◌≡◌, ℕ, ◌+◌, ◌≤◌, Bool, true, false, ◌&&◌, List, [], ◌∷◌, ◌++◌, Option, None, Some, refl, ap, subst, arith, nat_eq}
use Rattle.std.proofs.lemmas.List.Elements.{All-head, All-tail}
use Rattle.std.proofs.lemmas.Bool.{eqb-true, eq-eqb}
use Rattle.std.specs.Prelude.{if◌then◌else◌}
use Rattle.tape_ops.specs.declared.op.Op.{Op}
use Rattle.tape_ops.specs.declared.op.Op.TheVariants as ops
use Rattle.tape_ops.specs.declared.expression.ExprOp.TheVariants as exprs
use Rattle.c_words.specs.declared.kinds.TokenKind.TheVariants as kinds
use Rattle.c_tree.specs.declared.lexeme.Lexeme.{Lexeme}
use Rattle.c_tape.specs.Tape.{tape_of}
use Rattle.name_rules.specs.Spellings.{Place, Spelling, place}
use Rattle.name_rules.specs.Scopes.{is_place}
use Rattle.type_rules.specs.Program.{Source}
use Rattle.row_rules.specs.Sites.{AreDifferent, has_place}
use Rattle.row_laws.specs.KeyLaws.Keys.{op_key, key_place, key_places}
use Rattle.row_laws.specs.KeyLaws.Differing.{has_number, AreNumbered, IsRead, has_unit, keys_among, KeysDiffer}
use Rattle.row_laws.specs.KeyLaws.Tokens.{op_token, added, counted, TokensAreOnce}
use Rattle.row_laws.proofs.KeyLaws.Counts.{numbered}
use Rattle.row_laws.proofs.KeyLaws.Trees.{items_cover}

both_false : (b c : Bool) → (if b then true else c) ≡ false → (b ≡ false) × (c ≡ false)
both_false true c h = absurd cc
both_false false c h = (refl, h)

-- numbers of tokens

none_added : (b : Bool) (m : ℕ) → b ≡ false → m ≡ 0 → (if b then 1 else 0) + m ≡ 0
none_added true m h e = absurd cc
none_added false m h e = omega (arith, e)

-- a number that no token has is counted 0 times
absent : (n : ℕ) (k : List Lexeme) → has_number n k ≡ false → numbered n k ≡ 0
absent n [] h = refl
absent n (it ∷ k) h =
    let parts = both_false (nat_eq it.at n) (has_number n k) h in none_added (nat_eq it.at n) (numbered n k) parts.0
    (absent n k parts.1)

one_at_most : (b : Bool) (m : ℕ) → (b ≡ true → m ≡ 0) → m ≤ 1 → (if b then 1 else 0) + m ≤ 1
one_at_most true m none h = let e = none refl in omega (arith, e)
one_at_most false m none h = omega (arith, h)

-- each number is counted at most once among tokens of different numbers
once : (n : ℕ) (all : List Lexeme) → AreNumbered all → numbered n all ≤ 1
once n [] h = omega arith
once n (it ∷ k) h =
    one_at_most (nat_eq it.at n) (numbered n k)
    (λ e. absent n k (subst (λ (at : ℕ). has_number at k ≡ false) (eqb-true it.at n e) h.0)) (once n k h.1)

-- keys are among the tokens of ops

abbrev counted_keys : ℕ → List Op → ℕ
counted_keys n [] = 0
counted_keys n (op ∷ tape) = added n (op_key op) + counted_keys n tape

-- an op counts a number no more often as its key than as its token
is_token : (n : ℕ) (op : Op) → added n (op_key op) ≤ added n (op_token op)
is_token n (ops.Expr (exprs.Name is_called token name)) = omega arith
is_token n (ops.Expr (exprs.Number token)) = omega arith
is_token n (ops.Expr (exprs.Char token)) = omega arith
is_token n (ops.Expr (exprs.Text token)) = omega arith
is_token n (ops.Expr (exprs.Paren token)) = omega arith
is_token n (ops.Expr (exprs.Ext token)) = omega arith
is_token n (ops.Expr (exprs.Comma token)) = omega arith
is_token n (ops.Expr (exprs.Assign sign token first last)) = omega arith
is_token n (ops.Expr (exprs.Cond has_middle token first last)) = omega arith
is_token n (ops.Expr (exprs.Binary sign token first last)) = omega arith
is_token n (ops.Expr (exprs.Prefix sign token last aims)) = omega arith
is_token n (ops.Expr (exprs.Post sign token first)) = omega arith
is_token n (ops.Expr (exprs.Index token first last aims)) = omega arith
is_token n (ops.Expr (exprs.Arg behind first last)) = omega arith
is_token n (ops.Expr (exprs.Call token count)) = omega arith
is_token n (ops.Expr (exprs.Arrow token first last aims)) = omega arith
is_token n (ops.Expr (exprs.Dot token member name)) = omega arith
is_token n (ops.Expr (exprs.Label token)) = omega arith
is_token n (ops.Form op) = omega arith
is_token n (ops.Init op) = omega arith
is_token n (ops.Spec op) = omega arith
is_token n (ops.Declr op) = omega arith
is_token n (ops.Stmt op) = omega arith

are_tokens : (n : ℕ) (tape : List Op) → counted_keys n tape ≤ counted n tape
are_tokens n [] = omega arith
are_tokens n (op ∷ tape) = let a = is_token n op in let b = are_tokens n tape in omega (arith, a, b)

-- keys of one unit

elsewhere : (b : Bool) (m : ℕ) → (if b then 1 else 0) + m ≡ 0 → (b ≡ false) × (m ≡ 0)
elsewhere true m h = absurd (omega (arith, h))
elsewhere false m h = (refl, omega (arith, h))

not_here : (a b c : Bool) → b ≡ false → c ≡ false → (if a && b then true else c) ≡ false
not_here true b c e h = rw e h
not_here false b c e h = h

-- a token that is the key of no op of a tape has its place not among those of the keys
no_place : (u : Spelling) (token : ℕ) (tape : List Op) → counted_keys token tape ≡ 0 →
    has_place (key_places u tape) (place u token) ≡ false
no_place u token [] h = refl
no_place u token (op ∷ tape) h = by_key (op_key op) h (no_place u token tape)
  where
    by_key : (key : Option ℕ) → added token key + counted_keys token tape ≡ 0 →
        (counted_keys token tape ≡ 0 → has_place (key_places u tape) (place u token) ≡ false) →
        has_place (key_place u key ++ key_places u tape) (place u token) ≡ false
    by_key None e rest = rest (omega (arith, e))
    by_key (Some other) e rest = let parts = elsewhere (nat_eq other token) (counted_keys token tape) e in
        not_here (nat_eq u.unit u.unit) (nat_eq other token) (has_place (key_places u tape) (place u token)) parts.0
        (rest parts.1)

no_more : (b : Bool) (m : ℕ) → b ≡ true → (if b then 1 else 0) + m ≤ 1 → m ≡ 0
no_more true m e h = omega (arith, h)
no_more false m e h = absurd cc

-- where each token is the key of one op of a tape at most, the places of the keys differ
keys_of_one : (u : Spelling) (tape : List Op) → ((n : ℕ) → counted_keys n tape ≤ 1) → AreDifferent (key_places u tape)
keys_of_one u [] h = tt
keys_of_one u (op ∷ tape) h = by_key (op_key op) h (keys_of_one u tape (λ n. (let e = h n in omega (arith, e))))
  where
    by_key : (key : Option ℕ) → ((n : ℕ) → added n key + counted_keys n tape ≤ 1) → AreDifferent (key_places u tape) →
        AreDifferent (key_place u key ++ key_places u tape)
    by_key None e rest = rest
    by_key (Some token) e rest = (
      no_place u token tape
          (no_more (nat_eq token token) (counted_keys token tape) (eq-eqb token token refl) (e token)),
      rest,
    )

-- keys of units

abbrev AreApart : List Place → List Place → Type 0
AreApart [] qs = Unit {0}
AreApart (p ∷ ps) qs = (has_place qs p ≡ false) × AreApart ps qs

-- a place that is in neither of two lists is not in both together
has_none : (p : Place) (ps qs : List Place) → has_place ps p ≡ false → has_place qs p ≡ false
    → has_place (ps ++ qs) p ≡ false
has_none p [] qs h i = i
has_none p (q ∷ ps) qs h i =
    let parts = both_false (is_place q p) (has_place ps p) h in rw parts.0 (has_none p ps qs parts.1 i)

differ : (ps qs : List Place) → AreDifferent ps → AreDifferent qs → AreApart ps qs → AreDifferent (ps ++ qs)
differ [] qs h i apart = i
differ (p ∷ ps) qs h i apart = (has_none p ps qs h.0 apart.0, differ ps qs h.1 i apart.1)

-- places of keys are apart from a list that has the place of no token of their unit
apart_from : (u : Spelling) (tape : List Op) (qs : List Place) → ((token : ℕ) → has_place qs (place u token) ≡ false) →
    AreApart (key_places u tape) qs
apart_from u [] qs h = tt
apart_from u (op ∷ tape) qs h = by_key (op_key op) (apart_from u tape qs h)
  where
    by_key : (key : Option ℕ) → AreApart (key_places u tape) qs → AreApart (key_place u key ++ key_places u tape) qs
    by_key None rest = rest
    by_key (Some token) rest = (h token, rest)

-- a place of another unit is not among those of the keys of a tape
other_unit : (u : Spelling) (tape : List Op) (p : Place) → nat_eq u.unit p.0 ≡ false
    → has_place (key_places u tape) p ≡ false
other_unit u [] p h = refl
other_unit u (op ∷ tape) p h = by_key (op_key op) (other_unit u tape p h)
  where
    by_key : (key : Option ℕ) → has_place (key_places u tape) p ≡ false →
        has_place (key_place u key ++ key_places u tape) p ≡ false
    by_key None rest = rest
    by_key (Some token) rest = rw h rest

-- a place of a unit that none of the sources is is not among the places of their keys
no_unit : (sources : List Source) (p : Place) → has_unit p.0 sources ≡ false → has_place (keys_among sources) p ≡ false
no_unit [] p h = refl
no_unit (it ∷ sources) p h =
    let parts = both_false (nat_eq it.spelling.unit p.0) (has_unit p.0 sources) h in
    has_none p (key_places it.spelling (tape_of it.items)) (keys_among sources)
    (other_unit it.spelling (tape_of it.items) p parts.0) (no_unit sources p parts.1)

-- each token of a source that was read is that of one op of its tape at most
pub tokens_are_once : TokensAreOnce
tokens_are_once it read n =
    let end : List Lexeme = record { kind = kinds.End; at = read.tokens.last } ∷ [] in
    let covers = (items_cover {n = n} read.all it.items read.rules.parts end).most in
    let total = ap (numbered n) read.tokens.spelled in
    let one = once n read.all read.numbers in
    omega (arith, covers, total, one)

keys_once : (it : Source) → IsRead it → (n : ℕ) → counted_keys n (tape_of it.items) ≤ 1
keys_once it read n =
    let a = are_tokens n (tape_of it.items) in let b = tokens_are_once it read n in omega (arith, a, b)

-- the places of all keys differ, where the tokens of each source and the units differ in number
pub keys_differ : KeysDiffer
keys_differ [] reads units = tt
keys_differ (it ∷ sources) reads units =
    differ (key_places it.spelling (tape_of it.items)) (keys_among sources)
    (keys_of_one it.spelling (tape_of it.items) (keys_once it (All-head IsRead it sources reads)))
    (keys_differ sources (All-tail IsRead it sources reads) units.1)
    (apart_from it.spelling (tape_of it.items) (keys_among sources)
    (λ token. no_unit sources (place it.spelling token) units.0))
