-- What is picked of candidates whose skeletons are those of their types.
use Rattle.std.proofs.Common.{◌≡◌, ℕ, suc, Bool, true, false, List, [], ◌∷◌, ◌++◌, length, slice_get, unwrap_or, Option, None, Some, refl, sym, ap, subst, ◌∙◌, arith}
use Rattle.std.proofs.lemmas.Bool.{lt-ltb}
use Rattle.std.specs.Prelude.{◌&&◌, ◌||◌, not, nat_lt, is_some, if◌then◌else◌}
use Rattle.type_table.specs.Types.{CType}
use Rattle.qual_types.specs.Skel.{Skel}
use Rattle.name_rules.specs.Values.{Association, Candidate, Shape, candidates_of, all_candidates, first_ranked, has_of_type, have_types, higher_of, is_candidate, is_fresh_pick, left_of, no_zeros, or_all, pick_shape, picked_value, selected, selected_shape}
use Rattle.name_rules.specs.Values as shapes
use Rattle.row_rules.specs.Starting.{candidate_flags}
use Rattle.row_rules.specs.Vals.{Val, a_value, pick_of, value, value_of_left}
use Rattle.row_rules.specs.Vals as vals
use Rattle.missing_laws.proofs.Readings.{Agrees, Reads, as_value, value_reads}

pub more_than_one : (n : ℕ) → nat_lt 1 (suc (suc n)) ≡ true
more_than_one n = lt-ltb 1 (suc (suc n)) (omega arith)

one_left : (o : Option CType) → higher_of None o ≡ o
one_left None = refl
one_left (Some t) = refl

typed_then : (b : Bool) (o : Option CType) (t : CType) → (if b then o else None) ≡ Some t → o ≡ Some t
typed_then true o t e = e
typed_then false o t e = absurd cc

module _ {K : Type 0} where
  -- candidates and their shapes, one by one
  abbrev pub AreOf : List Candidate → (K → List vals.Candidate) → Type 0
  AreOf [] f = (k : K) → f k ≡ []
  AreOf (c ∷ cs) f = (v : K → Val) × (fs : K → List vals.Candidate)
      × (((k : K) → f k ≡ record { val = v k; is_zero = c.is_zero } ∷ fs k) × (Agrees c.shape v × AreOf cs fs))

  pub are_same : (cs : List Candidate) (f g : K → List vals.Candidate) → ((k : K) → f k ≡ g k) → AreOf cs g → AreOf cs f
  are_same [] f g e h = λ k. e k ∙ h k
  are_same (c ∷ cs) f g e h = (h.0, h.1, (λ k. e k ∙ h.2.0 k, h.2.1))

  zeros_of : (cs : List Candidate) (f : K → List vals.Candidate) → AreOf cs f
      → AreOf (no_zeros cs) (λ k. vals.no_zeros (f k))
  zeros_of [] f h = λ k. ap vals.no_zeros (h k)
  zeros_of (c ∷ cs) f h =
      are_same (if c.is_zero then no_zeros cs else c ∷ no_zeros cs) (λ k. vals.no_zeros (f k))
      (λ k. vals.no_zeros (record { val = h.0 k; is_zero = c.is_zero } ∷ h.1 k)) (λ k. ap vals.no_zeros (h.2.0 k))
      (by c.is_zero (zeros_of cs h.1 h.2.1.1))
    where
      by : (b : Bool) → AreOf (no_zeros cs) (λ k. vals.no_zeros (h.1 k)) →
          AreOf (if b then no_zeros cs else c ∷ no_zeros cs)
          (λ k. if b then vals.no_zeros (h.1 k)
          else record { val = h.0 k; is_zero = c.is_zero } ∷ vals.no_zeros (h.1 k))
      by true rest = rest
      by false rest = (h.0, (λ k. vals.no_zeros (h.1 k)), ((λ k. refl), (h.2.1.0, rest)))

  or_all_of : (xs ys : List Candidate) (f g : K → List vals.Candidate) → AreOf xs f → AreOf ys g →
      AreOf (or_all xs ys) (λ k. vals.or_all (f k) (g k))
  or_all_of [] ys f g h l = are_same ys (λ k. vals.or_all (f k) (g k)) g (λ k. ap (λ fs. vals.or_all fs (g k)) (h k)) l
  or_all_of (x ∷ xs) ys f g h l =
      are_same (x ∷ xs) (λ k. vals.or_all (f k) (g k)) f
      (λ k. ap (λ fs. vals.or_all fs (g k)) (h.2.0 k) ∙ sym (h.2.0 k)) h

  pub left_are : (cs : List Candidate) (f : K → List vals.Candidate) → AreOf cs f
      → AreOf (left_of cs) (λ k. vals.left_of (f k))
  left_are cs f h = or_all_of (no_zeros cs) cs (λ k. vals.no_zeros (f k)) f (zeros_of cs f h) h

  pub as_many : (cs : List Candidate) (f : K → List vals.Candidate) → AreOf cs f → (k : K) → length (f k) ≡ length cs
  as_many [] f h k = ap (λ (xs : List vals.Candidate). length xs) (h k)
  as_many (c ∷ cs) f h k = ap (λ (xs : List vals.Candidate). length xs) (h.2.0 k) ∙ ap suc (as_many cs h.1 h.2.1.1 k)

  -- the value of what is left
  left_reads : (left : List Candidate) (f : K → List vals.Candidate) (own : K → Skel) → AreOf left f →
      (nat_lt 1 (length left) ≡ true → Reads (first_ranked left) own) →
      Reads (first_ranked left) (λ k. value_of_left (own k) (f k))
  left_reads [] f own h fresh t e = absurd cc
  left_reads (c ∷ []) f own h fresh t e =
      let one = value_reads c.shape h.0 h.2.1.0 t (sym (one_left (shapes.value c.shape)) ∙ e) in (
        one.0,
        λ k. ap (value_of_left (own k))
            (h.2.0 k ∙ ap (λ fs. record { val = h.0 k; is_zero = c.is_zero } ∷ fs) (h.2.1.1 k)) ∙ one.1 k,
      )
  left_reads (c ∷ (d ∷ cs)) f own h fresh t e =
      let one = fresh (more_than_one (length cs)) t e in (
        one.0,
        λ k. ap (value_of_left (own k)) (h.2.0 k
            ∙ ap (λ fs. record { val = h.0 k; is_zero = c.is_zero } ∷ fs) (h.2.1.1.2.0 k)) ∙ one.1 k,
      )

  -- one candidate is picked, place and value, and of several the value of what is left
  pub pick_agrees : (cs : List Candidate) (f : K → List vals.Candidate) (own : K → Skel) → AreOf cs f →
      (is_fresh_pick cs ≡ true → Reads (pick_shape cs).type own) → Agrees (pick_shape cs) (λ k. pick_of (own k) (f k))
  pick_agrees [] f own h fresh t e = absurd cc
  pick_agrees (c ∷ []) f own h fresh t e =
      let one = h.2.1.0 t e in (
        one.0,
        λ k. ap (pick_of (own k)) (h.2.0 k ∙ ap (λ fs. record { val = h.0 k; is_zero = c.is_zero } ∷ fs) (h.2.1.1 k))
            ∙ one.1 k,
      )
  pick_agrees (c ∷ (d ∷ cs)) f own h fresh t e =
      let all : List Candidate = c ∷ (d ∷ cs) in
      let one = left_reads (left_of all) (λ k. vals.left_of (f k)) own (left_are all f h)
      (λ is u there. fresh is u (again (have_types all) (first_ranked (left_of all)) u t e there)) t
      (typed_then (have_types all) (first_ranked (left_of all)) t e) in (
        one.0,
        λ k. several (own k) (f k) (h.0 k) c.is_zero (h.2.1.1.0 k) d.is_zero (h.2.1.1.1 k)
            (h.2.0 k ∙ ap (λ fs. record { val = h.0 k; is_zero = c.is_zero } ∷ fs) (h.2.1.1.2.0 k))
            ∙ ap a_value (one.1 k),
      )
    where
      again : (b : Bool) (o : Option CType) (u t : CType) → (if b then o else None) ≡ Some t → o ≡ Some u →
          (if b then o else None) ≡ Some u
      again true o u t e there = there
      again false o u t e there = absurd cc

      several : (own : Skel) (fs : List vals.Candidate) (x : Val) (b : Bool) (y : Val) (b2 : Bool)
          (rest : List vals.Candidate) →
          fs ≡ record { val = x; is_zero = b } ∷ (record { val = y; is_zero = b2 } ∷ rest) →
          pick_of own fs ≡ a_value (value_of_left own (vals.left_of fs))
      several own fs x b y b2 rest e =
          ap (pick_of own) e ∙ ap (λ gs. a_value (value_of_left own (vals.left_of gs))) (sym e)

-- the candidates by flags
abbrev pub flagged : Bool → CType → List Association → List Candidate
flagged has t [] = []
flagged has t (it ∷ others) =
    if not has || is_candidate t it.type then it.candidate ∷ flagged has t others else flagged has t others

flagged_all : (t : CType) (all : List Association) → flagged false t all ≡ all_candidates all
flagged_all t [] = refl
flagged_all t (it ∷ others) = ap (λ cs. it.candidate ∷ cs) (flagged_all t others)

-- with some candidate of the type, the flagged associations are those of the type
flagged_some : (t : CType) (all : List Association) → flagged true t all ≡ candidates_of t all
flagged_some t [] = refl
flagged_some t (it ∷ others) = by (is_candidate t it.type) (flagged_some t others)
  where
    by : (b : Bool) → flagged true t others ≡ candidates_of t others →
        (if b then it.candidate ∷ flagged true t others else flagged true t others)
        ≡ (if b then it.candidate ∷ [] else []) ++ candidates_of t others
    by true e = ap (λ cs. it.candidate ∷ cs) e
    by false e = e

-- where no association is of a type, there are no candidates of it
none_of_type : (t : CType) (all : List Association) → has_of_type (Some t) all ≡ false → candidates_of t all ≡ []
none_of_type t [] e = refl
none_of_type t (it ∷ others) e = by (is_candidate t it.type) e (λ h. none_of_type t others h)
  where
    by : (b : Bool) → (b || has_of_type (Some t) others) ≡ false →
        (has_of_type (Some t) others ≡ false → candidates_of t others ≡ []) →
        ((if b then it.candidate ∷ [] else []) ++ candidates_of t others) ≡ []
    by true e rest = absurd cc
    by false e rest = rest e

-- where some association is of a type, its candidates are not replaced by others
some_of_type : (t : CType) (all : List Association) (xs : List Candidate) → has_of_type (Some t) all ≡ true →
    or_all (candidates_of t all) xs ≡ candidates_of t all
some_of_type t [] xs e = absurd cc
some_of_type t (it ∷ others) xs e = by (is_candidate t it.type) e (λ h. some_of_type t others xs h)
  where
    by : (b : Bool) → (b || has_of_type (Some t) others) ≡ true →
        (has_of_type (Some t) others ≡ true → or_all (candidates_of t others) xs ≡ candidates_of t others) →
        or_all ((if b then it.candidate ∷ [] else []) ++ candidates_of t others) xs
        ≡ (if b then it.candidate ∷ [] else []) ++ candidates_of t others
    by true e rest = refl
    by false e rest = rest e

-- the selected candidates are those that are flagged, by whether some association is of the type
pub selected_is : (t : CType) (all : List Association) → selected t all ≡ flagged (has_of_type (Some t) all) t all
selected_is t all = by (has_of_type (Some t) all) refl
  where
    by : (b : Bool) → has_of_type (Some t) all ≡ b → selected t all ≡ flagged b t all
    by true e = some_of_type t all (all_candidates all) e ∙ sym (flagged_some t all)
    by false e = ap (λ cs. or_all cs (all_candidates all)) (none_of_type t all e) ∙ sym (flagged_all t all)
