-- A unit among others, by its number, and that no two have one number.
use Rattle.std.proofs.Common.{◌≡◌, ◌<◌, ℕ, zero, suc, nat_eq, arith, Bool, true, false, List, [], ◌∷◌, ◌++◌, length, get_or, slice_get, refl, sym, ◌∙◌, ap, subst, if◌then◌else◌}
use Rattle.std.specs.List.{Contains}
use Rattle.std.proofs.lemmas.Bool.{eq-eqb, eqb-true}
use Rattle.c_lexer.specs.Tokens.{Lexed}
use Rattle.name_rules.specs.Spellings.{Place}
use Rattle.row_laws.specs.KeyLaws.Differing as sources
use Rattle.row_laws.specs.KeyLaws.Differing.{UnitsDiffer}
use Rattle.c_types.specs.Sources.{UnitRead, lexed_of, sources_behind, sources_in}
use Rattle.constraint_gen.specs.Listing.{is_name_token, is_name_at}
use Rattle.constraint_gen.specs.Marking.{has_unit, NumbersDiffer}

-- one of some units has its number
has_one : (units : List Lexed) (n : ℕ) (it : Lexed) → n < length units → get_or units n it ≡ it
    → has_unit units it.unit ≡ true
has_one [] n it lt is = absurd (omega arith)
has_one (lexed ∷ units) zero it lt is =
    ap (λ (b : Bool). if b then true else has_unit units it.unit)
    (eq-eqb lexed.unit it.unit (ap (λ (l : Lexed). l.unit) is))
has_one (lexed ∷ units) (suc n) it lt is = by_test (nat_eq lexed.unit it.unit) (has_one units n it (omega arith) is)
  where
    by_test : (b : Bool) → has_unit units it.unit ≡ true → (if b then true else has_unit units it.unit) ≡ true
    by_test true others = refl
    by_test false others = others

-- where no two have one number, it is the first of its number
first_named : (units : List Lexed) (n : ℕ) (it : Lexed) (p : Place) → n < length units → get_or units n it ≡ it
    → it.unit ≡ p.0 → NumbersDiffer units → is_name_at units p ≡ is_name_token (slice_get it.tokens p.1)
first_named [] n it p lt is here differ = absurd (omega arith)
first_named (lexed ∷ units) zero it p lt is here differ =
    ap (λ (b : Bool). if b then is_name_token (slice_get lexed.tokens p.1) else is_name_at units p)
    (eq-eqb lexed.unit p.0 (ap (λ (l : Lexed). l.unit) is ∙ here))
    ∙ ap (λ (l : Lexed). is_name_token (slice_get l.tokens p.1)) is
first_named (lexed ∷ units) (suc n) it p lt is here differ =
    by_test (nat_eq lexed.unit p.0) refl (first_named units n it p (omega arith) is here differ.1)
  where
    by_test : (b : Bool) → nat_eq lexed.unit p.0 ≡ b → is_name_at units p ≡ is_name_token (slice_get it.tokens p.1)
        → (if b then is_name_token (slice_get lexed.tokens p.1) else is_name_at units p)
        ≡ is_name_token (slice_get it.tokens p.1)
    by_test true e behind =
        let same : lexed.unit ≡ p.0 = eqb-true lexed.unit p.0 e in
        let unit : it.unit ≡ lexed.unit = here ∙ sym same in
        absurd (let no : true ≡ false =
        sym (has_one units n it (omega arith) is) ∙ ap (has_unit units) unit ∙ differ.0 in cc)
    by_test false e behind = behind

pub named_by_one : (units : List Lexed) (it : Lexed) (p : Place) → Contains units it → it.unit ≡ p.0
    → NumbersDiffer units
    → is_name_token (slice_get it.tokens p.1) ≡ is_name_at units p
named_by_one units it p one here differ = sym (first_named units one.0 it p one.1 one.2 here differ)

-- units and their tokens have the same numbers
same_units : (earlier : List Lexed) (all : List UnitRead) (n : ℕ)
    → sources.has_unit n (sources_behind earlier all) ≡ has_unit (lexed_of all) n
same_units earlier [] n = refl
same_units earlier (it ∷ all) n =
    ap (λ (b : Bool). if nat_eq it.lexed.unit n then true else b) (same_units (earlier ++ it.lexed ∷ []) all n)

-- where the sources of units differ in number, behind any tokens, the tokens of the units do
differ_behind : (earlier : List Lexed) (all : List UnitRead) → UnitsDiffer (sources_behind earlier all)
    → NumbersDiffer (lexed_of all)
differ_behind earlier [] differ = tt
differ_behind earlier (it ∷ all) differ = (
  sym (same_units (earlier ++ it.lexed ∷ []) all it.lexed.unit) ∙ differ.0,
  differ_behind (earlier ++ it.lexed ∷ []) all differ.1,
)

pub numbers_differ : (all : List UnitRead) (units : List Lexed) → units ≡ lexed_of all → UnitsDiffer (sources_in all)
    → NumbersDiffer units
numbers_differ all units is differ = subst NumbersDiffer (sym is) (differ_behind [] all differ)
