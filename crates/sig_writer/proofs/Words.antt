-- The constraints that words stand for, one by one.
use Rattle.std.proofs.Common.{◌≡◌, ℕ, nat_eq, Bool, true, false, not, ◌&&◌, cond, List, [], ◌∷◌, ◌++◌, None, Some, refl, sym, ◌∙◌, ap, subst, ◌⊎◌, inl, inr}
use Rattle.std.specs.List.{filter, flat_map, Contains}
use Rattle.std.proofs.lemmas.Bool.{and_from, and_parts, eqb-true, eqb-false, ne_eqb, not-true, not_from_false}
use Rattle.std.proofs.lemmas.List.Elements.{Contains-append_left, Contains-append_right, Contains-append_cases}
use Rattle.qual_base.proofs.Lists.{place_of}
use Rattle.flow_graph.specs.declared.constraint.Link.{Link}
use Rattle.flow_graph.specs.declared.constraint.Link.TheVariants.{Le, Const, Bound}
use Rattle.flow_graph.specs.declared.constraint.Constraint.{Constraint}
use Rattle.flow_graph.specs.System.{IsInLattice, Stands}
use Rattle.split_laws.specs.Splits.{Split, of_part}
use Rattle.sig_writer.specs.Signatures.{External, Found, nodes_of, numbers_of, says, unless}
use Rattle.sig_writer.specs.Parts.{are_among, bound_of, const_of, constraint_of, flows_of, words_at, words_for, words_part}
use Rattle.sig_writer.proofs.Elements.{first_or, here, in_filter, in_flat, in_map, none, of_filter, of_flat, of_map, of_place}

module _ (it : Found) where
  -- a constant or a bound is written of what is found, where it is not left out
  const_is : (v e other : ℕ) (link : Link) → Contains (const_of v (unless e other)) link → link ≡ Const 0 e v
  const_is v e other link h = by_test (nat_eq e other) h
    where
      by_test : (b : Bool) → Contains (const_of v (cond b None (Some e))) link → link ≡ Const 0 e v
      by_test true h = absurd (none link h)
      by_test false h = elim (first_or [] (Const 0 e v) link h) [
        | inl same ↦ sym same
        | inr more ↦ absurd (none link more)
      ]

  bound_is : (v e other : ℕ) (link : Link) → Contains (bound_of v (unless e other)) link → link ≡ Bound v 0 e
  bound_is v e other link h = by_test (nat_eq e other) h
    where
      by_test : (b : Bool) → Contains (bound_of v (cond b None (Some e))) link → link ≡ Bound v 0 e
      by_test true h = absurd (none link h)
      by_test false h = elim (first_or [] (Bound v 0 e) link h) [
        | inl same ↦ sym same
        | inr more ↦ absurd (none link more)
      ]

  has_const_word : (v e other : ℕ) → (e ≡ other) ⊎ Contains (const_of v (unless e other)) (Const 0 e v)
  has_const_word v e other = by_test (nat_eq e other) refl
    where
      by_test : (b : Bool) → nat_eq e other ≡ b → (e ≡ other) ⊎
          Contains (const_of v (cond b None (Some e))) (Const 0 e v)
      by_test true is = inl (eqb-true e other is)
      by_test false is = inr (here [] (Const 0 e v))

  has_bound_word : (v e other : ℕ) → (e ≡ other) ⊎ Contains (bound_of v (unless e other)) (Bound v 0 e)
  has_bound_word v e other = by_test (nat_eq e other) refl
    where
      by_test : (b : Bool) → nat_eq e other ≡ b → (e ≡ other) ⊎
          Contains (bound_of v (cond b None (Some e))) (Bound v 0 e)
      by_test true is = inl (eqb-true e other is)
      by_test false is = inr (here [] (Bound v 0 e))

  -- a flow leads to another node that has the numbers of the first one, which has some
  pub record IsFlowWord (nodes : List ℕ) (v : ℕ) (link : Link) : Type 0 where
    pub end : ℕ
    pub is : link ≡ Le v end
    pub is_node : Contains nodes end
    pub other : end ≡ v → ⊥
    pub number : ℕ
    pub has : Contains (numbers_of it nodes v) number
    pub among : are_among (numbers_of it nodes v) (numbers_of it nodes end) ≡ true

  flow_is : (nodes : List ℕ) (v : ℕ) (link : Link) → Contains (flows_of it nodes v (numbers_of it nodes v)) link →
      IsFlowWord nodes v link
  flow_is nodes v link h = by_numbers (numbers_of it nodes v) refl h
    where
      by_numbers : (ns : List ℕ) → numbers_of it nodes v ≡ ns → Contains (flows_of it nodes v ns) link →
          IsFlowWord nodes v link
      by_numbers [] is h = absurd (none link h)
      by_numbers (n ∷ ns) is h =
          let test : ℕ → Bool = λ u. not (nat_eq u v) && are_among (n ∷ ns) (numbers_of it nodes u) in
          let found = of_map (λ u. Le v u) (filter test nodes) link h in
          let kept = of_filter test nodes found.0 found.1 in
          let both = and_parts (not (nat_eq found.0 v)) (are_among (n ∷ ns) (numbers_of it nodes found.0)) kept.1 in
          record {
            end = found.0;
            is = sym found.2;
            is_node = kept.0;
            other = eqb-false found.0 v (not-true (nat_eq found.0 v) both.0);
            number = n;
            has = subst (λ ms. Contains ms n) (sym is) (here ns n);
            among = ap (λ ms. are_among ms (numbers_of it nodes found.0)) is ∙ both.1;
          }

  has_flow_word : (nodes : List ℕ) (v u k : ℕ) → Contains (numbers_of it nodes v) k → Contains nodes u → (u ≡ v → ⊥) →
      are_among (numbers_of it nodes v) (numbers_of it nodes u) ≡ true →
      Contains (flows_of it nodes v (numbers_of it nodes v)) (Le v u)
  has_flow_word nodes v u k has in_nodes other among = by_numbers (numbers_of it nodes v) has among
    where
      by_numbers : (ns : List ℕ) → Contains ns k → are_among ns (numbers_of it nodes u) ≡ true →
          Contains (flows_of it nodes v ns) (Le v u)
      by_numbers [] has among = absurd (none k has)
      by_numbers (n ∷ ns) has among =
          let test : ℕ → Bool = λ w. not (nat_eq w v) && are_among (n ∷ ns) (numbers_of it nodes w) in
          in_map (λ w. Le v w) (filter test nodes) u (in_filter test nodes u in_nodes
          (and_from (not (nat_eq u v)) (are_among (n ∷ ns) (numbers_of it nodes u))
          (not_from_false (nat_eq u v) (ne_eqb u v other)) among))

  -- each of the words of a node is one of these
  pub data IsWord (nodes : List ℕ) (v : ℕ) : Link → Type 0 where
    ByConst : IsWord nodes v (Const 0 (it.join v) v)
    ByBound : IsWord nodes v (Bound v 0 (it.meet v))
    ByFlow : (link : Link) → IsFlowWord nodes v link → IsWord nodes v link

  word_is : (nodes : List ℕ) (v : ℕ) (link : Link) → Contains (words_at it nodes v) link → IsWord nodes v link
  word_is nodes v link h =
      let consts = const_of v (says it nodes v).low in
      let bounds = bound_of v (says it nodes v).high in
      let flows = flows_of it nodes v (numbers_of it nodes v) in
      elim (Contains-append_cases (consts ++ bounds) flows link h) [
        | inr in_flows ↦ ByFlow link (flow_is nodes v link in_flows)
        | inl early ↦ elim (Contains-append_cases consts bounds link early) [
          | inl in_consts ↦ subst (λ l. IsWord nodes v l) (sym (const_is v (it.join v) it.least link in_consts)) ByConst
          | inr in_bounds ↦ subst (λ l. IsWord nodes v l)
              (sym (bound_is v (it.meet v) it.greatest link in_bounds)) ByBound
        ]
      ]

  pub has_const : (nodes : List ℕ) (v : ℕ) → (it.join v ≡ it.least) ⊎
      Contains (words_at it nodes v) (Const 0 (it.join v) v)
  has_const nodes v =
      let consts = const_of v (says it nodes v).low in
      let bounds = bound_of v (says it nodes v).high in
      let flows = flows_of it nodes v (numbers_of it nodes v) in
      let link = Const 0 (it.join v) v in
      elim (has_const_word v (it.join v) it.least) [
        | inl least ↦ inl least
        | inr has ↦ inr (Contains-append_left (consts ++ bounds) flows link
            (Contains-append_left consts bounds link has))
      ]

  pub has_bound : (nodes : List ℕ) (v : ℕ) → (it.meet v ≡ it.greatest) ⊎
      Contains (words_at it nodes v) (Bound v 0 (it.meet v))
  has_bound nodes v =
      let consts = const_of v (says it nodes v).low in
      let bounds = bound_of v (says it nodes v).high in
      let flows = flows_of it nodes v (numbers_of it nodes v) in
      let link = Bound v 0 (it.meet v) in
      elim (has_bound_word v (it.meet v) it.greatest) [
        | inl greatest ↦ inl greatest
        | inr has ↦ inr (Contains-append_left (consts ++ bounds) flows link
            (Contains-append_right consts bounds link has))
      ]

  pub has_flow : (nodes : List ℕ) (v u k : ℕ) → Contains (numbers_of it nodes v) k → Contains nodes u → (u ≡ v → ⊥) →
      are_among (numbers_of it nodes v) (numbers_of it nodes u) ≡ true → Contains (words_at it nodes v) (Le v u)
  has_flow nodes v u k has in_nodes other among =
      let consts = const_of v (says it nodes v).low in
      let bounds = bound_of v (says it nodes v).high in
      let flows = flows_of it nodes v (numbers_of it nodes v) in
      Contains-append_right (consts ++ bounds) flows (Le v u) (has_flow_word nodes v u k has in_nodes other among)

  -- a constraint of the words is a word of a node of one of the functions
  pub record IsWordIn (functions : List External) (link : Link) : Type 0 where
    pub function : External
    pub is_function : Contains functions function
    pub var : ℕ
    pub is_node : Contains (nodes_of function) var
    pub word : IsWord (nodes_of function) var link

  module _ (functions : List External) (s : Split) (words : s.words ≡ words_part it functions) where
    pub word_of : (n : ℕ) (link : Link) → Stands (of_part s s.words) 0 n link → IsWordIn functions link
    word_of n link st =
        let in_part = of_flat (words_for it) functions st.constraint
        (subst (λ cs. Contains cs st.constraint) words (of_place s.words n st.constraint st.there)) in
        let f = in_part.0 in
        let made = of_map (constraint_of f) (flat_map (words_at it (nodes_of f))
        (nodes_of f)) st.constraint in_part.2 in
        let at = of_flat (words_at it (nodes_of f)) (nodes_of f) made.0 made.1 in
        let same : made.0 ≡ link = ap (λ (c : Constraint). c.link) made.2 ∙ st.link_is in
        record {
          function = f;
          is_function = in_part.1;
          var = at.0;
          is_node = at.1;
          word = subst (λ l. IsWord (nodes_of f) at.0 l) same (word_is (nodes_of f) at.0 made.0 at.2);
        }

    pub stands_word : (f : External) (v : ℕ) (link : Link) → Contains functions f → Contains (nodes_of f) v →
        Contains (words_at it (nodes_of f) v) link → IsInLattice 0 link 1 → (n : ℕ) ×
        Stands (of_part s s.words) 0 n link
    stands_word f v link in_functions in_nodes has carried =
        let c : Constraint = constraint_of f link in
        let links = flat_map (words_at it (nodes_of f)) (nodes_of f) in
        let in_words : Contains (words_for it f) c =
        in_map (constraint_of f) links link (in_flat (words_at it (nodes_of f)) (nodes_of f) v link in_nodes has) in
        let in_part : Contains s.words c = subst (λ cs. Contains cs c) (sym words)
        (in_flat (words_for it) functions f c in_functions in_words) in
        let place = place_of s.words c in_part in
        (place.0, record { constraint = c; there = place.1; link_is = refl; carried = carried })
