-- The earliest of some faults is the first of them.
use Rattle.std.proofs.Common.{◌≡◌, ℕ, ◌<◌, arith, nat_lt, nat_eq, Bool, true, false, ◌&&◌, ◌||◌, List, [], ◌∷◌, ◌++◌, Option, Some, None, ◌⊎◌, inl, inr, refl, sym, ◌∙◌, subst, append_assoc, append-nil, if◌then◌else◌}
use Rattle.std.specs.List.{Contains}
use Rattle.std.proofs.lemmas.Bool.{ltb-true, lt-ltb, eqb-true, eq-eqb, or_right, or_left, and_parts, or_cases, and_from}
use Rattle.std.proofs.lemmas.List.Elements.{Contains-push, Contains-push_cases, Contains-append_left}
use Rattle.name_rules.specs.Faults.{Fault, number, IsBefore, by_unit, by_token, by_rule, IsFirst}
use Rattle.unit_shapes.specs.Faults.{is_lower, is_before, earlier, keep, IsFirstOf}

pub keep_append : (best : Option Fault) (fs gs : List Fault) → keep best (fs ++ gs) ≡ keep (keep best fs) gs
keep_append best [] gs = refl
keep_append best (f ∷ fs) gs = keep_append (Some (earlier best f)) fs gs

abbrev Lower : ℕ → ℕ → ℕ → ℕ → ℕ → ℕ → Type 0
Lower a b c x y z = (a < x) ⊎ ((a ≡ x) × ((b < y) ⊎ ((b ≡ y) × (c < z))))

module _ (a b c x y z : ℕ) where
  lower_of : is_lower a b c x y z ≡ true → Lower a b c x y z
  lower_of is = elim (or_cases (nat_lt a x) (nat_eq a x && (nat_lt b y || (nat_eq b y && nat_lt c z))) is) [
    | inl lt ↦ inl (ltb-true a x lt)
    | inr h ↦
        let both = and_parts (nat_eq a x) (nat_lt b y || (nat_eq b y && nat_lt c z)) h in
        inr (
          eqb-true a x both.0,
          elim (or_cases (nat_lt b y) (nat_eq b y && nat_lt c z) both.1) [
            | inl lt ↦ inl (ltb-true b y lt)
            | inr h2 ↦
                let last = and_parts (nat_eq b y) (nat_lt c z) h2 in
                inr (eqb-true b y last.0, ltb-true c z last.1)
          ],
        )
  ]

  test_of : Lower a b c x y z → is_lower a b c x y z ≡ true
  test_of (inl lt) = or_left (nat_lt a x) (nat_eq a x && (nat_lt b y || (nat_eq b y && nat_lt c z))) (lt-ltb a x lt)
  test_of (inr (e, inl lt)) =
      or_right (nat_lt a x) (nat_eq a x && (nat_lt b y || (nat_eq b y && nat_lt c z)))
      (and_from (nat_eq a x) (nat_lt b y || (nat_eq b y && nat_lt c z)) (eq-eqb a x e)
      (or_left (nat_lt b y) (nat_eq b y && nat_lt c z) (lt-ltb b y lt)))
  test_of (inr (e, inr (d, lt))) =
      or_right (nat_lt a x) (nat_eq a x && (nat_lt b y || (nat_eq b y && nat_lt c z)))
      (and_from (nat_eq a x) (nat_lt b y || (nat_eq b y && nat_lt c z)) (eq-eqb a x e)
      (or_right (nat_lt b y) (nat_eq b y && nat_lt c z)
      (and_from (nat_eq b y) (nat_lt c z) (eq-eqb b y d) (lt-ltb c z lt))))

-- three numbers that come before three others, in order of the first that differs, come before all that those come
-- before
lower_twice : (a b c x y z k l m : ℕ) → Lower a b c x y z → Lower x y z k l m → Lower a b c k l m
lower_twice a b c x y z k l m (inl p) (inl q) = inl (omega arith)
lower_twice a b c x y z k l m (inl p) (inr (e, h)) = inl (omega arith)
lower_twice a b c x y z k l m (inr (e, h)) (inl q) = inl (omega arith)
lower_twice a b c x y z k l m (inr (e, inl p)) (inr (d, inl q)) = inr (e ∙ d, inl (omega arith))
lower_twice a b c x y z k l m (inr (e, inl p)) (inr (d, inr (i, q))) = inr (e ∙ d, inl (omega arith))
lower_twice a b c x y z k l m (inr (e, inr (h, p))) (inr (d, inl q)) = inr (e ∙ d, inl (omega arith))
lower_twice a b c x y z k l m (inr (e, inr (h, p))) (inr (d, inr (i, q))) = inr (e ∙ d, inr (h ∙ i, omega arith))

-- three numbers do not come before themselves
not_lower : (a b c : ℕ) → Lower a b c a b c → ⊥
not_lower a b c (inl p) = omega arith
not_lower a b c (inr (e, inl p)) = omega arith
not_lower a b c (inr (e, inr (d, p))) = omega arith

abbrev Comes : Fault → Fault → Type 0
Comes f g = Lower f.at.0 f.at.1 (number f.rule) g.at.0 g.at.1 (number g.rule)

-- a fault before another by the rules comes before it by unit, token and rule
comes : (f g : Fault) → IsBefore f g → Comes f g
comes f g (by_unit _ _ lt) = inl lt
comes _ _ (by_token u s t r q lt) = inr (refl, inl lt)
comes _ _ (by_rule p r q lt) = inr (refl, inr (refl, lt))

-- a fault that comes before another by unit, token and rule is before it by the rules
before : (f g : Fault) → Comes f g → IsBefore f g
before f g (inl lt) = by_unit f g lt
before f g (inr (e, inl lt)) =
    subst (λ (u : ℕ). IsBefore f (let h : Fault = record { at = (u, g.at.1); rule = g.rule } in h)) e
    (by_token f.at.0 f.at.1 g.at.1 f.rule g.rule lt)
before f g (inr (e, inr (d, lt))) =
    subst (λ (u : ℕ). IsBefore f (let h : Fault = record { at = (u, g.at.1); rule = g.rule } in h)) e
    (subst (λ (t : ℕ). IsBefore f (let h : Fault = record { at = (f.at.0, t); rule = g.rule } in h)) d
    (by_rule f.at f.rule g.rule lt))

none_in : (g : Fault) → Contains [] g → ⊥
none_in g (k, lt, is) = omega arith

-- one more fault
first_kept : (best : Option Fault) (ds : List Fault) (f : Fault) → IsFirstOf best ds
    → IsFirst (earlier best f) (ds ++ f ∷ [])
unfolding earlier
first_kept None ds f is = record {
  there = Contains-push ds f;
  first = λ g has earlier_is. elim (Contains-push_cases ds f g has) [
    | inl old ↦ none_in g (subst (λ (ds : List Fault). Contains ds g) is old)
    | inr same ↦
        not_lower f.at.0 f.at.1 (number f.rule)
        (comes f f (subst (λ (h : Fault). IsBefore h f) (sym same) earlier_is))
  ];
}
first_kept (Some b) ds f is = by_test (is_before f b) refl
  where
    by_test : (t : Bool) → is_before f b ≡ t → IsFirst (if t then f else b) (ds ++ f ∷ [])
    by_test true sooner = record {
      there = Contains-push ds f;
      first = λ g has earlier_is. elim (Contains-push_cases ds f g has) [
        | inl old ↦ is.first g old (before g b
            (lower_twice g.at.0 g.at.1 (number g.rule) f.at.0 f.at.1 (number f.rule) b.at.0 b.at.1 (number b.rule)
            (comes g f earlier_is) (lower_of f.at.0 f.at.1 (number f.rule) b.at.0 b.at.1 (number b.rule) sooner)))
        | inr same ↦
            not_lower f.at.0 f.at.1 (number f.rule)
            (comes f f (subst (λ (h : Fault). IsBefore h f) (sym same) earlier_is))
      ];
    }
    by_test false later = record {
      there = Contains-append_left ds (f ∷ []) b is.there;
      first = λ g has earlier_is. elim (Contains-push_cases ds f g has) [
        | inl old ↦ is.first g old earlier_is
        | inr same ↦ absurd
            (let sooner = test_of f.at.0 f.at.1 (number f.rule) b.at.0 b.at.1 (number b.rule)
            (comes f b (subst (λ (h : Fault). IsBefore h b) (sym same) earlier_is)) in
            let no : true ≡ false = sym sooner ∙ later in cc)
      ];
    }

-- the first of some faults and of some more
pub kept_on : (best : Option Fault) (ds fs : List Fault) → IsFirstOf best ds → IsFirstOf (keep best fs) (ds ++ fs)
kept_on best ds [] is = subst (IsFirstOf best) (sym (append-nil ds)) is
kept_on best ds (f ∷ fs) is =
    subst (IsFirstOf (keep (Some (earlier best f)) fs)) (append_assoc ds (f ∷ []) fs)
    (kept_on (Some (earlier best f)) (ds ++ f ∷ []) fs (first_kept best ds f is))

-- the earliest one is the first one
pub kept_first : (fs : List Fault) → IsFirstOf (keep None fs) fs
kept_first fs = kept_on None [] fs refl
