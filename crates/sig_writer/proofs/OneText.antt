-- What is right of the nodes of a library is one, and so are its lines.
use Rattle.std.proofs.Common.{◌≡◌, ℕ, suc, nat_eq, Bool, not, ◌&&◌, ◌||◌, cond, List, [], ◌∷◌, ◌++◌, Option, None, Some, codes, refl, ◌∙◌, ap, subst, inl, inr}
use Rattle.std.specs.List.{flat_map, list_any, Contains}
use Rattle.qual_base.proofs.Tests.{same_test}
use Rattle.lattice_core.specs.Order.{Order, IsLattice}
use Rattle.lattice_core.specs.View.{LatticeView}
use Rattle.flow_graph.specs.System.{System}
use Rattle.qual_types.specs.Skel.{root}
use Rattle.annotate.specs.Texts.{line}
use Rattle.sig_writer.specs.Found.{IsFoundAt}
use Rattle.sig_writer.specs.Laws.{OneText}
use Rattle.sig_writer.specs.Signatures.{External, Found, NoPlace, NoWord, Says, declared_text, first_refusal, has_line, is_marked, is_unplaced, is_unsigned, lacks_words, line_of, lines_of, marked, nodes_of, numbers_of, numbers_to, or_refusal, refusal_of, says, says_nothing, unless, unplaced, words_in, words_of}
use Rattle.sig_writer.proofs.Elements.{first_or, here, in_flat, of_filter, same_any, same_filter, same_flat, there}
use Rattle.sig_writer.proofs.Texts.{root_is_node, same_declared, unplaced_is_node}

module _ (sys : System) (order : Order) (lat : IsLattice order) (vars : List ℕ) (one other : Found)
    (fits : IsFoundAt sys 0 order vars one) (suits : IsFoundAt sys 0 order vars other) where
  same_join : (v : ℕ) → Contains vars v → one.join v ≡ other.join v
  same_join v in_vars =
      let a = fits.join v in_vars in
      let b = suits.join v in_vars in
      lat.ordered.apart (one.join v) (other.join v) (a.least (other.join v) b.element b.upper)
      (b.least (one.join v) a.element a.upper)

  same_meet : (v : ℕ) → Contains vars v → one.meet v ≡ other.meet v
  same_meet v in_vars =
      let a = fits.meet v in_vars in
      let b = suits.meet v in_vars in
      lat.ordered.apart (one.meet v) (other.meet v) (b.greatest (one.meet v) a.element a.lower)
      (a.greatest (other.meet v) b.element b.lower)

  same_least : one.least ≡ other.least
  same_least = lat.ordered.apart one.least other.least (fits.least.1 other.least suits.least.0)
      (suits.least.1 one.least fits.least.0)

  same_greatest : one.greatest ≡ other.greatest
  same_greatest =
      lat.ordered.apart one.greatest other.greatest (suits.greatest.1 one.greatest fits.greatest.0)
      (fits.greatest.1 other.greatest suits.greatest.0)

  same_joins : (u v : ℕ) → Contains vars u → one.joins u v ≡ other.joins u v
  same_joins u v in_vars =
      let a = fits.joins u v in_vars in
      let b = suits.joins u v in_vars in
      same_test (one.joins u v) (other.joins u v) (λ is. b.1 (a.0 is)) (λ is. a.1 (b.0 is))

  -- ---- of the nodes of a function

  module _ (f : External) (within : (v : ℕ) → Contains (nodes_of f) v → Contains vars v) where
    abbrev own : List ℕ
    own = nodes_of f

    same_is_marked : (v : ℕ) → Contains own v → is_marked one own v ≡ is_marked other own v
    same_is_marked v in_own =
        same_any (λ u. not (nat_eq u v) && (one.joins u v || one.joins v u))
        (λ u. not (nat_eq u v) && (other.joins u v || other.joins v u)) own
        (λ u in_u.
        ap (λ b. not (nat_eq u v) && (b || one.joins v u)) (same_joins u v (within u in_u))
        ∙ ap (λ b. not (nat_eq u v) && (other.joins u v || b)) (same_joins v u (within v in_own)))

    same_marked : marked one own ≡ marked other own
    same_marked = same_filter (is_marked one own) (is_marked other own) own same_is_marked

    same_numbers_to : (v n : ℕ) (us : List ℕ) → ((u : ℕ) → Contains us u → Contains vars u) →
        numbers_to one v n us ≡ numbers_to other v n us
    same_numbers_to v n [] h = refl
    same_numbers_to v n (u ∷ us) h =
        ap (λ b. cond (nat_eq u v || b) (n ∷ numbers_to one v (suc n) us) (numbers_to one v (suc n) us))
        (same_joins u v (h u (here us u)))
        ∙ ap (λ ns. cond (nat_eq u v || other.joins u v) (n ∷ ns) ns)
        (same_numbers_to v (suc n) us (λ w in_us. h w (there us u w in_us)))

    same_numbers : (v : ℕ) → Contains own v → numbers_of one own v ≡ numbers_of other own v
    same_numbers v in_own =
        ap (λ b. cond b (numbers_to one v 1 (marked one own)) []) (same_is_marked v in_own)
        ∙ ap (λ us. cond (is_marked other own v) (numbers_to one v 1 us) []) same_marked
        ∙ ap (λ ns. cond (is_marked other own v) ns [])
        (same_numbers_to v 1 (marked other own) (λ u in_marked. within u
        (of_filter (is_marked other own) own u in_marked).0))

    same_says : (v : ℕ) → Contains own v → says one own v ≡ says other own v
    same_says v in_own =
        let by : List ℕ → Option ℕ → Option ℕ → Says =
        λ numbers low high. record { numbers = numbers; low = low; high = high } in
        let low : unless (one.join v) one.least ≡ unless (other.join v) other.least =
        ap (λ e. unless e one.least) (same_join v (within v in_own)) ∙ ap (λ e. unless (other.join v) e) same_least in
        let high : unless (one.meet v) one.greatest ≡ unless (other.meet v) other.greatest =
        ap (λ e. unless e one.greatest) (same_meet v (within v in_own))
        ∙ ap (λ e. unless (other.meet v) e) same_greatest in
        ap (λ ns. by ns (unless (one.join v) one.least) (unless (one.meet v) one.greatest)) (same_numbers v in_own)
        ∙ ap (λ e. by (numbers_of other own v) e (unless (one.meet v) one.greatest)) low
        ∙ ap (λ e. by (numbers_of other own v) (unless (other.join v) other.least) e) high

    same_any_says : (test : Says → Bool) (us : List ℕ) → ((v : ℕ) → Contains us v → Contains own v) →
        list_any (λ v. test (says one own v)) us ≡ list_any (λ v. test (says other own v)) us
    same_any_says test us h =
        same_any (λ v. test (says one own v)) (λ v. test (says other own v)) us
        (λ v in_us. ap test (same_says v (h v in_us)))

    same_line : (lattice : LatticeView) → line_of one lattice f ≡ line_of other lattice f
    same_line lattice =
        ap (λ b. cond b (line (declared_text (words_in one lattice f) f.skel f.name ++ codes ";")) [])
        (same_any_says (λ it. not (says_nothing it)) own (λ v in_own. in_own))
        ∙ ap (λ text. cond (has_line other f) (line (text ++ codes ";")) [])
        (same_declared (words_in one lattice f) (words_in other lattice f) f.skel f.name
        (λ v in_own. ap (λ it. words_of lattice it) (same_says v in_own)))

    is_own : (v : ℕ) → Contains (root f.skel ∷ unplaced f.skel) v → Contains own v
    is_own v h = elim (first_or (unplaced f.skel) (root f.skel) v h) [
      | inl same ↦ subst (λ u. Contains own u) same (root_is_node f.skel)
      | inr inner ↦ unplaced_is_node f.skel v inner
    ]

    same_refusal : (lattice : LatticeView) → refusal_of one lattice f ≡ refusal_of other lattice f
    same_refusal lattice =
        ap (λ b. cond b (Some (NoPlace f.place)) (cond (is_unsigned one lattice f) (Some (NoWord f.place)) None))
        (same_any_says (λ it. not (says_nothing it)) (root f.skel ∷ unplaced f.skel) is_own)
        ∙ ap (λ b. cond (is_unplaced other f) (Some (NoPlace f.place)) (cond b (Some (NoWord f.place)) None))
        (same_any_says (lacks_words lattice) own (λ v in_own. in_own))

  same_first : (lattice : LatticeView) (functions : List External) →
      ((f : External) → Contains functions f → (v : ℕ) → Contains (nodes_of f) v → Contains vars v) →
      first_refusal one lattice functions ≡ first_refusal other lattice functions
  same_first lattice [] h = refl
  same_first lattice (f ∷ functions) h =
      ap (λ r. or_refusal r (first_refusal one lattice functions)) (same_refusal f (h f (here functions f)) lattice)
      ∙ ap (λ r. or_refusal (refusal_of other lattice f) r)
      (same_first lattice functions (λ g in_more. h g (there functions f g in_more)))

  same_lines : (lattice : LatticeView) (functions : List External) →
      ((f : External) → Contains functions f → (v : ℕ) → Contains (nodes_of f) v → Contains vars v) →
      lines_of one lattice functions ≡ lines_of other lattice functions
  same_lines lattice functions h =
      same_flat (line_of one lattice) (line_of other lattice) functions
      (λ f in_functions. same_line f (h f in_functions) lattice)

-- what is right of the nodes of a library is one, and so are its lines and its first refusal
pub one_text : OneText
one_text sys lattice functions one other lat fits suits =
    let within : (f : External) → Contains functions f → (v : ℕ) → Contains (nodes_of f) v →
    Contains (flat_map nodes_of functions) v =
    λ f in_functions v in_nodes. in_flat nodes_of functions f v in_functions in_nodes in (
      same_first sys lattice.order lat (flat_map nodes_of functions) one other fits suits lattice functions within,
      same_lines sys lattice.order lat (flat_map nodes_of functions) one other fits suits lattice functions within,
    )
