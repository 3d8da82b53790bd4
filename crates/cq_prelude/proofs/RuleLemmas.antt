-- The first token at which a rule fails.
use Rattle.std.proofs.Common.{◌≡◌, ℕ, ◌<◌, ◌≤◌, ◌⊎◌, Bool, true, false, ltb, List, [], ◌∷◌, length, Option, None, Some, zero, suc, refl, sym, ◌∙◌, subst, ⊎_elim, inl, inr, arith, Contains}
use Rattle.std.proofs.lemmas.Bool.{cases_Bool, cases_lt, ltb-true, ltb-false}
use Rattle.std.proofs.lemmas.Option.{slice_get_past}
use Rattle.c_lexer.specs.Tokens.{Lexed}
use Rattle.c_tree.specs.Unit.{Item}
use Rattle.index_words.specs.Marks.{IndexMark}
use Rattle.cq_prelude.specs.Least.{least_behind, least_with}
use Rattle.cq_prelude.specs.Marking.{AreFlags, AreMarkedTo, IsBad, IsFirstBad, IsRuleFault, first_fault, with_body}
use Rattle.cq_prelude.specs.Placing.{bodies, index_places}
use Rattle.cq_prelude.specs.Rules.{AreMarks, Fails, IsFirst, IsIndex, IsRight, NoneFails, Rule, bad_index, has_body}
use Rattle.cq_prelude.specs.declared.rules.RuleFault.TheVariants.{BadIndex, HasBody, NoMemory}
use Rattle.cq_prelude.specs.declared.rules.RuleFault.{RuleFault}

-- the least of tokens is one of them, and none is below it
pub record IsLeast (tokens : List ℕ) (found : ℕ) : Type 0 where
  pub one : Contains tokens found
  pub least : (other : ℕ) → Contains tokens other → found ≤ other

first_of : (token : ℕ) (tokens : List ℕ) → Contains (token ∷ tokens) token
first_of token tokens = (0, omega arith, refl)

behind : (token : ℕ) (tokens : List ℕ) (x : ℕ) → Contains tokens x → Contains (token ∷ tokens) x
behind token tokens x has = (suc has.0, omega (arith, has.1), has.2)

cases_of : (token : ℕ) (tokens : List ℕ) (x : ℕ) → Contains (token ∷ tokens) x → (token ≡ x) ⊎ Contains tokens x
cases_of token tokens x (zero, lt, is) = inl is
cases_of token tokens x (suc k, lt, is) = inr (k, omega arith, is)

-- the lesser of two tokens is one of them and above neither
lesser_is : (best token : ℕ) → (least_with (Some best) token ≤ best) × (least_with (Some best) token ≤ token)
    × ((least_with (Some best) token ≡ best) ⊎ (least_with (Some best) token ≡ token))
lesser_is best token = ⊎_elim
    (λ (lt : ltb best token ≡ true). rw lt (omega arith, omega (arith, ltb-true best token lt), inl refl))
    (λ (ge : ltb best token ≡ false). rw ge (omega (arith, ltb-false best token ge), omega arith, inr refl))
    (cases_Bool (ltb best token))

-- the least of tokens behind a first one is there and is one of them all, below the others
least_is : (best : ℕ) (tokens : List ℕ)
    → (found : ℕ) × (least_behind (Some best) tokens ≡ Some found) × IsLeast (best ∷ tokens) found
least_is best [] = (
  best,
  refl,
  record {
    one = first_of best [];
    least = λ other has. ⊎_elim (λ (is : best ≡ other). omega arith)
        (λ (none : Contains [] other). absurd (omega (arith, none.1))) (cases_of best [] other has);
  },
)
least_is best (token ∷ tokens) =
    let lesser = lesser_is best token in
    let next = least_is (least_with (Some best) token) tokens in (
      next.0,
      next.1,
      record {
        one = ⊎_elim
            (λ (is : least_with (Some best) token ≡ next.0). ⊎_elim (λ (first : least_with (Some best) token ≡ best).
            subst (Contains (best ∷ token ∷ tokens)) (sym first ∙ is) (first_of best (token ∷ tokens)))
            (λ (second : least_with (Some best) token ≡ token). subst (Contains (best ∷ token ∷ tokens))
            (sym second ∙ is) (behind best (token ∷ tokens) token (first_of token tokens))) lesser.2)
            (λ (has : Contains tokens next.0). behind best (token ∷ tokens) next.0 (behind token tokens next.0 has))
            (cases_of _ tokens next.0 next.2.one);
        least = λ other has. ⊎_elim
            (λ (is : best ≡ other). let le = next.2.least _ (first_of (least_with (Some best) token) tokens) in
            omega (arith, lesser.0))
            (λ (rest : Contains (token ∷ tokens) other). ⊎_elim
            (λ (is : token ≡ other). let le = next.2.least _ (first_of (least_with (Some best) token) tokens) in
            omega (arith, lesser.1))
            (λ (later : Contains tokens other). next.2.least other (behind _ tokens other later))
            (cases_of token tokens other rest))
            (cases_of best (token ∷ tokens) other has);
      },
    )

-- the token that is found as the least is one of the tokens, below the others
found_is : (tokens : List ℕ) (found : ℕ) → least_behind None tokens ≡ Some found → IsLeast tokens found
found_is [] found is = absurd (cc)
found_is (token ∷ tokens) found is =
    let h = least_is token tokens in
    let same : h.0 ≡ found = let e = h.1 in cc in
    subst (IsLeast (token ∷ tokens)) same h.2

none_is : (tokens : List ℕ) → least_behind None tokens ≡ None → tokens ≡ []
none_is [] is = refl
none_is (token ∷ tokens) is = let h = least_is token tokens in let e = h.1 in absurd (cc)

module _ (lexed : Lexed) (items : List Item) (flags : List Bool)
    (flagged : AreFlags (length lexed.tokens) (index_places items) flags) where
  is_there : (token : ℕ) → IsIndex lexed token → token < length lexed.tokens
  is_there token is =
      ⊎_elim (λ (lt : token < length lexed.tokens). lt)
      (λ (le : length lexed.tokens ≤ token). absurd (past token le is))
      (cases_lt token (length lexed.tokens)) where
        past : (token : ℕ) → length lexed.tokens ≤ token → IsIndex lexed token → ⊥
        past token le is = let none = slice_get_past lexed.tokens token le in let h = rw none at is in cc

  right_before : (end : ℕ) (marks : List IndexMark) → AreMarkedTo lexed flags end marks → (token : ℕ) → token < end
      → IsIndex lexed token →
      IsRight lexed items token
  right_before end marks h token lt is = record {
    set = _;
    placed = (flagged.tell token (is_there token is)).0 (h.placed token lt is);
    says = h.said token lt is;
  }

  all_right : (marks : List IndexMark) → AreMarkedTo lexed flags (length lexed.tokens) marks → (token : ℕ) →
      Fails lexed items bad_index token → ⊥
  all_right marks h token fails =
      fails.1 (right_before (length lexed.tokens) marks h token (is_there token fails.0) fails.0)

  bad_fails : (token : ℕ) → IsBad lexed flags token → Fails lexed items bad_index token
  bad_fails token bad = (
    bad.index,
    λ right. bad.wrong ((flagged.tell token (is_there token bad.index)).1 right.placed) right.set right.says,
  )

  none_below : (end : ℕ) (marks : List IndexMark) → AreMarkedTo lexed flags end marks → (token : ℕ)
      → Fails lexed items bad_index token →
      end ≤ token
  none_below end marks h token fails =
      ⊎_elim (λ (lt : token < end). absurd (fails.1 (right_before end marks h token lt fails.0)))
      (λ (le : end ≤ token). le) (cases_lt token end)

  pub none_fails : (body : Option ℕ) (marks : List IndexMark) → body ≡ least_behind None (bodies items) → body ≡ None →
      AreMarkedTo lexed flags (length lexed.tokens) marks → NoneFails lexed items
  none_fails body marks least none h has_body token fails = let empty = none_is (bodies items) (sym least ∙ none) in
      let has = subst (λ (tokens : List ℕ). Contains tokens token) empty fails in absurd (omega (arith, has.1))
  none_fails body marks least none h bad_index token fails = all_right marks h token fails

  pub are_marks : (marks : List IndexMark) → AreMarkedTo lexed flags (length lexed.tokens) marks → AreMarks lexed marks
  are_marks marks h = record { said = λ token is. h.said token (is_there token is) is; only = h.only }

  pub body_is_first : (body : Option ℕ) (opening : ℕ) (marks : List IndexMark)
      → body ≡ least_behind None (bodies items) →
      body ≡ Some opening → AreMarkedTo lexed flags (length lexed.tokens) marks →
      IsFirst lexed items has_body opening
  body_is_first body opening marks least some h = record {
    fails = (found_is (bodies items) opening (sym least ∙ some)).one;
    none_before = before;
  } where
    before : (other : Rule) (earlier : ℕ) → Fails lexed items other earlier → opening ≤ earlier
    before has_body earlier fails = (found_is (bodies items) opening (sym least ∙ some)).least earlier fails
    before bad_index earlier fails = absurd (all_right marks h earlier fails)

  first_is : (body : Option ℕ) (at : ℕ) (marks : List IndexMark) → body ≡ least_behind None (bodies items) →
      AreMarkedTo lexed flags at marks → IsBad lexed flags at → IsRuleFault lexed items (first_fault body at)
  first_is None at marks none h bad = record { fails = bad_fails at bad; none_before = before } where
    before : (other : Rule) (earlier : ℕ) → Fails lexed items other earlier → at ≤ earlier
    before has_body earlier fails = let empty = none_is (bodies items) (sym none) in
        let has = subst (λ (tokens : List ℕ). Contains tokens earlier) empty fails in absurd (omega (arith, has.1))
    before bad_index earlier fails = none_below at marks h earlier fails
  first_is (Some opening) at marks some h bad = ⊎_elim
      (λ (lt : ltb opening at ≡ true).
      rw lt (record {
        fails = (found_is (bodies items) opening (sym some)).one;
        none_before = before_body (ltb-true opening at lt);
      }))
      (λ (ge : ltb opening at ≡ false).
      rw ge (record { fails = bad_fails at bad; none_before = before_word (ltb-false opening at ge) }))
      (cases_Bool (ltb opening at)) where
        before_body : opening < at → (other : Rule) (earlier : ℕ) → Fails lexed items other earlier → opening ≤ earlier
        before_body lt has_body earlier fails = (found_is (bodies items) opening (sym some)).least earlier fails
        before_body lt bad_index earlier fails = let le = none_below at marks h earlier fails in omega arith

        before_word : at ≤ opening → (other : Rule) (earlier : ℕ) → Fails lexed items other earlier → at ≤ earlier
        before_word le has_body earlier fails =
            let least = (found_is (bodies items) opening (sym some)).least earlier fails in
            omega arith
        before_word le bad_index earlier fails = none_below at marks h earlier fails

  pub with_body_is : (body : Option ℕ) (fault : RuleFault) → body ≡ least_behind None (bodies items)
      → IsFirstBad lexed flags fault →
      IsRuleFault lexed items (with_body body fault)
  with_body_is body (HasBody token) least h = absurd h
  with_body_is body (BadIndex token) least h = first_is body token h.0 least h.1 h.2
  with_body_is body NoMemory least h = tt
