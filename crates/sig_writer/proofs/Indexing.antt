-- Index words say which nodes matched paths join: the numbers of a node are among those of another exactly where it is
-- that one or leads to it.
use Rattle.std.proofs.Common.{◌≡◌, ℕ, zero, suc, ◌+◌, nat_eq, Bool, true, false, not, ◌&&◌, ◌||◌, cond, List, [], ◌∷◌, slice_get, Some, refl, sym, ◌∙◌, ap, subst, arith, inl, inr}
use Rattle.std.specs.List.{list_any, Contains}
use Rattle.std.proofs.lemmas.Bool.{and_from, eq-eqb, eqb-true, ne_eqb, or_cases, or_left, or_right, not_from_false}
use Rattle.qual_base.proofs.Lists.{place_of}
use Rattle.qual_base.proofs.Tests.{some_number}
use Rattle.sig_writer.specs.Signatures.{Found, is_marked, marked, numbers_of, numbers_to}
use Rattle.sig_writer.specs.Parts.{are_among}
use Rattle.sig_writer.proofs.Elements.{all_of, any_of, first_or, here, in_filter, none, of_all, of_any, of_filter, of_place, there}

module _ (it : Found) where
  -- a node is another one, or a matched path leads from it there
  abbrev pub leads : ℕ → ℕ → Bool
  leads u v = nat_eq u v || it.joins u v

  -- a number is that of an element of a list that leads to a node
  abbrev IsNumberOf : ℕ → ℕ → ℕ → List ℕ → Type 0
  IsNumberOf v n k us = (i : ℕ) × (w : ℕ) × (k ≡ n + i) × (slice_get us i ≡ Some w) × (leads w v ≡ true)

  next_number : (v n k u : ℕ) (us : List ℕ) → IsNumberOf v (suc n) k us → IsNumberOf v n k (u ∷ us)
  next_number v n k u us on = (suc on.0, on.1, omega (arith, on.2), on.3, on.4)

  of_number : (v n k : ℕ) (us : List ℕ) → Contains (numbers_to it v n us) k → IsNumberOf v n k us
  of_number v n k [] h = absurd (none k h)
  of_number v n k (u ∷ us) h = by_test (λ more. next_number v n k u us (of_number v (suc n) k us more))
      (leads u v) refl h
    where
      by_test : (Contains (numbers_to it v (suc n) us) k → IsNumberOf v n k (u ∷ us)) → (b : Bool) → leads u v ≡ b →
          Contains (cond b (n ∷ numbers_to it v (suc n) us) (numbers_to it v (suc n) us)) k → IsNumberOf v n k (u ∷ us)
      by_test later false is h = later h
      by_test later true is h = elim (first_or (numbers_to it v (suc n) us) n k h) [
        | inl same ↦ (zero, u, omega (arith, same), refl, is)
        | inr more ↦ later more
      ]

  more_numbers : (v n u : ℕ) (us : List ℕ) (b : Bool) (k : ℕ) → Contains (numbers_to it v (suc n) us) k →
      Contains (cond b (n ∷ numbers_to it v (suc n) us) (numbers_to it v (suc n) us)) k
  more_numbers v n u us false k h = h
  more_numbers v n u us true k h = there (numbers_to it v (suc n) us) n k h

  in_numbers : (v n i w : ℕ) (us : List ℕ) → slice_get us i ≡ Some w → leads w v ≡ true →
      Contains (numbers_to it v n us) (n + i)
  in_numbers v n i w [] there_is is = absurd cc
  in_numbers v n zero w (u ∷ us) at is =
      let first : leads u v ≡ true = ap (λ x. leads x v) (some_number at) ∙ is in
      let more = numbers_to it v (suc n) us in
      subst (λ b. Contains (cond b (n ∷ more) more) (n + 0)) (sym first)
      (subst (λ k. Contains (n ∷ more) k) (omega arith) (here more n))
  in_numbers v n (suc i) w (u ∷ us) at is =
      more_numbers v n u us (leads u v) (n + suc i)
      (subst (λ k. Contains (numbers_to it v (suc n) us) k) (omega arith) (in_numbers v (suc n) i w us at is))

  self_leads : (v : ℕ) → leads v v ≡ true
  self_leads v = or_left (nat_eq v v) (it.joins v v) (eq-eqb v v refl)

  other_leads : (w v : ℕ) → it.joins w v ≡ true → leads w v ≡ true
  other_leads w v is = or_right (nat_eq w v) (it.joins w v) is

  module _ (nodes : List ℕ) where
    numbered : (v k : ℕ) → Contains (numbers_of it nodes v) k → (is_marked it nodes v ≡ true) ×
        Contains (numbers_to it v 1 (marked it nodes)) k
    numbered v k h = by_test (is_marked it nodes v) refl h
      where
        by_test : (b : Bool) → is_marked it nodes v ≡ b → Contains (cond b (numbers_to it v 1 (marked it nodes)) []) k →
            (is_marked it nodes v ≡ true) × Contains (numbers_to it v 1 (marked it nodes)) k
        by_test true is h = (is, h)
        by_test false is h = absurd (none k h)

    numbering : (v : ℕ) → is_marked it nodes v ≡ true → numbers_of it nodes v ≡ numbers_to it v 1 (marked it nodes)
    numbering v is = ap (λ b. cond b (numbers_to it v 1 (marked it nodes)) []) is

    -- a marked node has a number, which is that of no other
    pub own_number : (v : ℕ) → Contains nodes v → is_marked it nodes v ≡ true →
        (k : ℕ) × Contains (numbers_of it nodes v) k × ((u : ℕ) → Contains (numbers_of it nodes u) k → leads v u ≡ true)
    own_number v in_nodes is =
        let place = place_of (marked it nodes) v (in_filter (is_marked it nodes) nodes v in_nodes is) in (
          1 + place.0,
          subst (λ ks. Contains ks (1 + place.0)) (sym (numbering v is))
              (in_numbers v 1 place.0 v (marked it nodes) place.1 (self_leads v)),
          λ u has.
              let at = of_number u 1 (1 + place.0) (marked it nodes) (numbered u (1 + place.0) has).1 in
              let same : place.0 ≡ at.0 = omega (arith, at.2) in
              let there_too : slice_get (marked it nodes) place.0 ≡ Some at.1 =
              ap (λ i. slice_get (marked it nodes) i) same ∙ at.3 in
              ap (λ w. leads w u) (some_number (sym place.1 ∙ there_too)) ∙ at.4,
        )

    -- what has the numbers of a marked node is that node, or it leads there
    pub words_lead : (v u : ℕ) → Contains nodes v → is_marked it nodes v ≡ true →
        are_among (numbers_of it nodes v) (numbers_of it nodes u) ≡ true → leads v u ≡ true
    words_lead v u in_nodes is among =
        let own = own_number v in_nodes is in
        let found = any_of (nat_eq own.0) (numbers_of it nodes u)
        (all_of (λ n. list_any (nat_eq n) (numbers_of it nodes u)) (numbers_of it nodes v) among own.0 own.1) in
        own.2 u (subst (λ k. Contains (numbers_of it nodes u) k) (sym (eqb-true own.0 found.0 found.2)) found.1)

    pub has_numbers : (v k : ℕ) → Contains (numbers_of it nodes v) k → is_marked it nodes v ≡ true
    has_numbers v k h = (numbered v k h).0

    pub is_marked_by : (v u : ℕ) → Contains nodes u → (u ≡ v → ⊥) → (it.joins u v || it.joins v u) ≡ true →
        is_marked it nodes v ≡ true
    is_marked_by v u in_nodes other joins =
        of_any (λ x. not (nat_eq x v) && (it.joins x v || it.joins v x)) nodes u in_nodes
        (and_from (not (nat_eq u v)) (it.joins u v || it.joins v u)
        (not_from_false (nat_eq u v) (ne_eqb u v other)) joins)

    -- where a node leads to another one, that has its numbers
    pub leads_words : (v u : ℕ) → ((w : ℕ) → Contains nodes w → it.joins w v ≡ true → it.joins w u ≡ true) →
        Contains nodes v → Contains nodes u → (v ≡ u → ⊥) → it.joins v u ≡ true →
        are_among (numbers_of it nodes v) (numbers_of it nodes u) ≡ true
    leads_words v u through in_v in_u other joins =
        let marks : is_marked it nodes u ≡ true = is_marked_by u v in_v other
        (or_left (it.joins v u) (it.joins u v) joins) in
        of_all (λ n. list_any (nat_eq n) (numbers_of it nodes u)) (numbers_of it nodes v) (λ k has.
        let at = of_number v 1 k (marked it nodes) (numbered v k has).1 in
        let in_w = (of_filter (is_marked it nodes) nodes at.1 (of_place (marked it nodes) at.0 at.1 at.3)).0 in
        let on : leads at.1 u ≡ true = elim (or_cases (nat_eq at.1 v) (it.joins at.1 v) at.4) [
          | inl same ↦ other_leads at.1 u (ap (λ w. it.joins w u) (eqb-true at.1 v same) ∙ joins)
          | inr before ↦ other_leads at.1 u (through at.1 in_w before)
        ] in
        let number : Contains (numbers_to it u 1 (marked it nodes)) k =
        subst (λ n. Contains (numbers_to it u 1 (marked it nodes)) n) (sym at.2)
        (in_numbers u 1 at.0 at.1 (marked it nodes) at.3 on) in
        of_any (nat_eq k) (numbers_of it nodes u) k (subst (λ ks. Contains ks k) (sym (numbering u marks)) number)
        (eq-eqb k k refl))
