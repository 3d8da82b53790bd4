-- Lists of the same total weight, whatever each fault weighs, hold the same faults.
use Rattle.std.proofs.Common.{◌≡◌, ◌↔◌, ℕ, zero, suc, ◌+◌, ◌<◌, ◌≤◌, Bool, true, false, Contains, List, [], ◌∷◌, nat_eq, refl, sym, ◌∙◌, ap, arith}
use Rattle.std.proofs.lemmas.Bool.{eq-eqb, eqb-true}
use Rattle.std.specs.Prelude.{◌&&◌, if◌then◌else◌, length}
use Rattle.qual_base.proofs.Tests.{and_second, and_first}
use Rattle.name_rules.specs.Faults.{Rule, undeclared, not_pointer, not_function, no_member, argument_count, not_place, defined_twice, type_too_large, no_type, number, Fault}
use Rattle.resolve_laws.proofs.ShapeLaws.Goes.{total}

-- the rule that has a number; beyond the numbers that are given it is the last rule
rule_of : ℕ → Rule
rule_of zero = undeclared
rule_of (suc zero) = undeclared
rule_of (suc (suc zero)) = not_pointer
rule_of (suc (suc (suc zero))) = not_function
rule_of (suc (suc (suc (suc zero)))) = no_member
rule_of (suc (suc (suc (suc (suc zero))))) = argument_count
rule_of (suc (suc (suc (suc (suc (suc zero)))))) = not_place
rule_of (suc (suc (suc (suc (suc (suc (suc zero))))))) = defined_twice
rule_of (suc (suc (suc (suc (suc (suc (suc (suc zero)))))))) = type_too_large
rule_of (suc (suc (suc (suc (suc (suc (suc (suc (suc n))))))))) = no_type

rule_numbered : (r : Rule) → rule_of (number r) ≡ r
unfolding rule_of
rule_numbered undeclared = refl
rule_numbered not_pointer = refl
rule_numbered not_function = refl
rule_numbered no_member = refl
rule_numbered argument_count = refl
rule_numbered not_place = refl
rule_numbered defined_twice = refl
rule_numbered type_too_large = refl
rule_numbered no_type = refl

abbrev is_same : Fault → Fault → Bool
is_same f g = nat_eq f.at.0 g.at.0 && (nat_eq f.at.1 g.at.1 && nat_eq (number f.rule) (number g.rule))

same_itself : (f : Fault) → is_same f f ≡ true
same_itself f = rw (eq-eqb f.at.0 f.at.0 refl, eq-eqb f.at.1 f.at.1 refl, eq-eqb (number f.rule) (number f.rule) refl)
    refl

abbrev fault : ℕ → ℕ → Rule → Fault
fault unit token r = record { at = (unit, token); rule = r }

-- faults that pass the test for being the same are equal
same_is : (f g : Fault) → is_same f g ≡ true → f ≡ g
same_is f g e =
    let first : nat_eq f.at.0 g.at.0 ≡ true = and_first (nat_eq f.at.0 g.at.0) _ e in
    let others : (nat_eq f.at.1 g.at.1 && nat_eq (number f.rule) (number g.rule)) ≡ true =
    and_second (nat_eq f.at.0 g.at.0) _ e in
    let unit : f.at.0 ≡ g.at.0 = eqb-true f.at.0 g.at.0 first in
    let token : f.at.1 ≡ g.at.1 = eqb-true f.at.1 g.at.1 (and_first (nat_eq f.at.1 g.at.1) _ others) in
    let numbers : number f.rule ≡ number g.rule =
    eqb-true (number f.rule) (number g.rule) (and_second (nat_eq f.at.1 g.at.1) _ others) in
    let rule : f.rule ≡ g.rule = sym (rule_numbered f.rule) ∙ (ap rule_of numbers ∙ rule_numbered g.rule) in
    ap (λ (n : ℕ). fault n f.at.1 f.rule) unit ∙
    (ap (λ (n : ℕ). fault g.at.0 n f.rule) token ∙ ap (λ (r : Rule). fault g.at.0 g.at.1 r) rule)

-- a fault weighs one, and all others nothing
abbrev weight_of : Fault → Fault → ℕ
weight_of f g = if is_same f g then 1 else 0

-- a list that holds a fault has at least one by the weight that counts it
weighed : (f : Fault) (fs : List Fault) → Contains fs f → 1 ≤ total (weight_of f) fs
weighed f [] c = absurd (omega (arith, c.1))
weighed f (g ∷ fs) (zero, less, is) =
    let e : is_same f g ≡ true = ap (is_same f) is ∙ same_itself f in let one : weight_of f g ≡ 1 = rw e refl in
    omega arith
weighed f (g ∷ fs) (suc n, less, is) = let others : 1 ≤ total (weight_of f) fs = weighed f fs (n, omega arith, is) in
    omega arith

-- a list whose weight for a fault is at least one holds it first, or behind the first where the rest's weight tells so
first_or : (f g : Fault) (fs : List Fault) (b : Bool) → is_same f g ≡ b → 1 ≤ weight_of f g + total (weight_of f) fs →
    (1 ≤ total (weight_of f) fs → Contains fs f) → Contains (g ∷ fs) f
first_or f g fs true e h others = (0, omega arith, sym (same_is f g e))
first_or f g fs false e h others =
    let none : weight_of f g ≡ 0 = rw e refl in let c : Contains fs f = others (omega arith) in
    (suc c.0, (let less : c.0 < length fs = c.1 in omega arith), c.2)

held : (f : Fault) (fs : List Fault) → 1 ≤ total (weight_of f) fs → Contains fs f
held f [] h = absurd (omega arith)
held f (g ∷ fs) h = first_or f g fs (is_same f g) refl h (held f fs)

abbrev pub SameTotals : List Fault → List Fault → Type 0
SameTotals fs gs = (w : Fault → ℕ) → total w fs ≡ total w gs

-- lists of the same total by every weight hold the same faults
pub same_faults : (fs gs : List Fault) → SameTotals fs gs → (f : Fault) → Contains fs f ↔ Contains gs f
same_faults fs gs same f = (
  (λ c. let e = same (weight_of f) in let h = weighed f fs c in held f gs (omega arith)),
  (λ c. let e = same (weight_of f) in let h = weighed f gs c in held f fs (omega arith)),
)

-- there is none in the one where there is none in the other
pub no_faults : (fs gs : List Fault) → SameTotals fs gs → fs ≡ [] → gs ≡ []
no_faults fs [] same e = refl
no_faults fs (g ∷ gs) same e =
    let all = same (λ it. 1) in let none : total (λ it. 1) fs ≡ 0 = ap (total (λ it. 1)) e in absurd (omega arith)
