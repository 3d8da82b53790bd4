-- How far a word can be one that passes a test.
use Rattle.std.proofs.Common.{◌≡◌, ℕ, suc, ◌<◌, ◌≤◌, ◌+◌, ◌-◌, Bool, true, false, not, ◌&&◌, ◌||◌, nat_eq, List, [], ◌∷◌, ◌++◌, length, take, drop, get_or, refl, sym, ◌∙◌, ap, subst, arith, ◌⊎◌, inl, inr, Option, Some, None, append_assoc}
use Rattle.std.specs.Prelude.{is_some}
use Rattle.std.specs.List.{list_all}
use Rattle.std.specs.Str.{bytes_eq}
use Rattle.std.specs.Option.{option_or}
use Rattle.std.proofs.lemmas.Grind.{common_steps}
use Rattle.std.proofs.lemmas.List.{take-append-drop, take_more_same}
use Rattle.std.proofs.Math.Seq.{take-add}
use Rattle.std.proofs.lemmas.List.Folds.{list_all-append, list_all_more}
use Rattle.std.proofs.lemmas.Bool.{both_ways, or_right, or_left, or_cases}
use Rattle.qual_base.proofs.Tests.{and_second, and_first}
use Rattle.lattice_file.specs.declared.words.Attribute.{Attribute}
use Rattle.lattice_file.specs.declared.words.Given.{Given}
use Rattle.lattice_file.specs.declared.passing.BlockAttribute.{BlockAttribute}
use Rattle.lattice_file.specs.Text.{is_letter, is_name_byte, begins_with_dollar, attribute_word, has_attribute}
use Rattle.lattice_file.specs.Steps.{only_if, map_some, if_named, attribute_named, with_value, flow_named, with_flow, Standing, next_by_word}
use Rattle.lattice_file.specs.declared.blocks.Stage.{Stage}
use Rattle.lattice_file.specs.declared.blocks.Stage.TheVariants as stages
use Rattle.lattice_file.specs.Extents.{IsFront, may_come}
use Rattle.lattice_file.proofs.StepLeads.{At, word_is, is_word}

-- the front of a word for one test is that for another with the same results
pub front_as : (p q : List ℕ → Bool) (word : List ℕ) (count : ℕ) → ((w : List ℕ) → p w ≡ q w) → IsFront p word count
    → IsFront q word count
front_as p q word count same f = record {
  within = f.within;
  begins = by f.begins;
  ends = λ less more e. f.ends less more (same (take (count + 1) word ++ more) ∙ e);
}
  where
    by : (count ≡ 0) ⊎ ((more : List ℕ) × (p (take count word ++ more) ≡ true))
        → (count ≡ 0) ⊎ ((more : List ℕ) × (q (take count word ++ more) ≡ true))
    by (inl e) = inl e
    by (inr (more, e)) = inr (more, sym (same (take count word ++ more)) ∙ e)

-- a longer front of a word is a shorter one with the bytes between
take_longer : (word more : List ℕ) (n k : ℕ) → n ≤ k
    → take (k + 1) word ++ more ≡ take (n + 1) word ++ (take (k - n) (drop (n + 1) word) ++ more)
take_longer word more n k le =
    ap (λ (m : ℕ). take m word ++ more) (omega (arith, le)) ∙ ap (λ (w : List ℕ). w ++ more)
    (take-add (n + 1) (k - n) word) ∙ append_assoc (take (n + 1) word) (take (k - n) (drop (n + 1) word)) more

-- the front of a word for one of two tests is the longer of their fronts
pub front_or : (p q : List ℕ → Bool) (word : List ℕ) (n m k : ℕ) → n ≤ k → m ≤ k → (k ≡ n) ⊎ (k ≡ m) → IsFront p word n
    → IsFront q word m → IsFront (λ w. p w || q w) word k
front_or p q word n m k ln lm which f g = record {
  within = within which;
  begins = begins which;
  ends = λ less more e. ends less more (or_cases (p (take (k + 1) word ++ more)) (q (take (k + 1) word ++ more)) e);
}
  where
    within : (k ≡ n) ⊎ (k ≡ m) → k ≤ length word
    within (inl e) = omega (arith, e, f.within)
    within (inr e) = omega (arith, e, g.within)

    by_p : k ≡ n → (n ≡ 0) ⊎ ((more : List ℕ) × (p (take n word ++ more) ≡ true))
        → (k ≡ 0) ⊎ ((more : List ℕ) × ((p (take k word ++ more) || q (take k word ++ more)) ≡ true))
    by_p e (inl z) = inl (e ∙ z)
    by_p e (inr (more, h)) = inr (
      more,
      or_left (p (take k word ++ more)) (q (take k word ++ more))
          (subst (λ (c : ℕ). p (take c word ++ more) ≡ true) (sym e) h),
    )

    by_q : k ≡ m → (m ≡ 0) ⊎ ((more : List ℕ) × (q (take m word ++ more) ≡ true))
        → (k ≡ 0) ⊎ ((more : List ℕ) × ((p (take k word ++ more) || q (take k word ++ more)) ≡ true))
    by_q e (inl z) = inl (e ∙ z)
    by_q e (inr (more, h)) = inr (
      more,
      or_right (p (take k word ++ more)) (q (take k word ++ more))
          (subst (λ (c : ℕ). q (take c word ++ more) ≡ true) (sym e) h),
    )

    begins : (k ≡ n) ⊎ (k ≡ m)
        → (k ≡ 0) ⊎ ((more : List ℕ) × ((p (take k word ++ more) || q (take k word ++ more)) ≡ true))
    begins (inl e) = by_p e f.begins
    begins (inr e) = by_q e g.begins

    ends : k < length word → (more : List ℕ)
        → (p (take (k + 1) word ++ more) ≡ true) ⊎ (q (take (k + 1) word ++ more) ≡ true) → ⊥
    ends less more (inl e) =
        f.ends (omega (arith, ln, less)) (take (k - n) (drop (n + 1) word) ++ more)
        (subst (λ (w : List ℕ). p w ≡ true) (take_longer word more n k ln) e)
    ends less more (inr e) =
        g.ends (omega (arith, lm, less)) (take (k - m) (drop (m + 1) word) ++ more)
        (subst (λ (w : List ℕ). q w ≡ true) (take_longer word more m k lm) e)

-- the front that a word shares with another
pub front_shared : (word other : List ℕ) (at : ℕ) → at ≤ length word → at ≤ length other → take at word ≡ take at other
    → (at < length word → at < length other → get_or word at 0 ≡ get_or other at 0 → ⊥) →
    IsFront (λ w. bytes_eq w other) word at
front_shared word other at lw lo same differs = record {
  within = lw;
  begins = inr (
    drop at other,
    is_word (take at word ++ drop at other) other
        (ap (λ (front : List ℕ). front ++ drop at other) same ∙ take-append-drop at other),
  );
  ends = λ less more e.
      let is : take (at + 1) word ++ more ≡ other = word_is (take (at + 1) word ++ more) other e in
      differs less (longer less more is) (at_same less more ∙ ap (λ (w : List ℕ). get_or w at 0) is);
}
  where
    longer : at < length word → (more : List ℕ) → take (at + 1) word ++ more ≡ other → at < length other
    longer less more is = omega (arith, count less more, ap length is)
      where
        count : at < length word → (more : List ℕ) → at < length (take (at + 1) word ++ more)
        count less more = grind (arith, common_steps)

    at_same : at < length word → (more : List ℕ) → get_or word at 0 ≡ get_or (take (at + 1) word ++ more) at 0
    at_same less more = grind (arith, common_steps)

pub shared_on : (word other : List ℕ) (at : ℕ) → at < length word → at < length other → take at word ≡ take at other
    → get_or word at 0 ≡ get_or other at 0 → take (at + 1) word ≡ take (at + 1) other
shared_on word other at lw lo same e = take_more_same word other at 0 lw lo same e

-- a word whose second byte is no letter is no name with a dollar
not_letter : (x c : ℕ) (more : List ℕ) → is_letter c ≡ false → begins_with_dollar (x ∷ c ∷ more) ≡ false
not_letter x c more h = by (nat_eq x 36)
  where
    by : (b : Bool) → (b && is_letter c && list_all is_name_byte more) ≡ false
    by true = rw h refl
    by false = refl

pub dollar_alone : (x : ℕ) → nat_eq x 36 ≡ true → IsFront begins_with_dollar (x ∷ []) 1
dollar_alone x h =
    record { within = omega arith; begins = inr (97 ∷ [], rw h refl); ends = λ less more e. omega (arith, less) }

-- of `$` before no letter, `$` alone is the front
pub dollar_first : (x c : ℕ) (rest : List ℕ) → nat_eq x 36 ≡ true → is_letter c ≡ false
    → IsFront begins_with_dollar (x ∷ c ∷ rest) 1
dollar_first x c rest h l = record {
  within = omega arith;
  begins = inr (97 ∷ [], rw h refl);
  ends = λ less more e. both_ways (begins_with_dollar (x ∷ c ∷ more)) (not_letter x c more l) e;
}

-- `$` and a letter are a front of a name as far as letters, digits and `_` go
pub dollar_name : (x c : ℕ) (rest : List ℕ) (k : ℕ) → nat_eq x 36 ≡ true → is_letter c ≡ true → k ≤ length rest
    → list_all is_name_byte (take k rest) ≡ true →
    (k < length rest → is_name_byte (get_or rest k 0) ≡ false) → IsFront begins_with_dollar (x ∷ c ∷ rest) (k + 2)
dollar_name x c rest k h l within all stops = record {
  within = omega (arith, within);
  begins = inr (
    [],
    subst (λ (w : List ℕ). begins_with_dollar w ≡ true) (sym (front [] k))
        (named (take k rest ++ []) (all_ended (take k rest) all)),
  );
  ends = λ less more e.
      let longer : begins_with_dollar (x ∷ c ∷ (take (k + 1) rest ++ more)) ≡ true =
      subst (λ (w : List ℕ). begins_with_dollar w ≡ true)
      (ap (λ (n : ℕ). take n (x ∷ c ∷ rest) ++ more) (omega arith) ∙ front more (k + 1)) e in
      let names : list_all is_name_byte (take (k + 1) rest ++ more) ≡ true =
      and_second (nat_eq x 36 && is_letter c) (list_all is_name_byte (take (k + 1) rest ++ more)) longer in
      let mine : list_all is_name_byte (take (k + 1) rest) ≡ true =
      and_first (list_all is_name_byte (take (k + 1) rest)) (list_all is_name_byte more)
      (sym (list_all-append is_name_byte (take (k + 1) rest) more) ∙ names) in
      let short : k < length rest = omega (arith, less) in
      let last : is_name_byte (get_or rest k 0) ≡ true = and_second (list_all is_name_byte (take k rest))
      (is_name_byte (get_or rest k 0)) (sym (list_all_more is_name_byte rest k 0 short) ∙ mine) in
      both_ways (is_name_byte (get_or rest k 0)) (stops short) last;
}
  where
    front : (more : List ℕ) (k : ℕ) → take (k + 2) (x ∷ c ∷ rest) ++ more ≡ x ∷ c ∷ (take k rest ++ more)
    front more k = let two : k + 2 ≡ suc (suc k) = omega arith in rw two refl

    named : (more : List ℕ) → list_all is_name_byte more ≡ true → begins_with_dollar (x ∷ c ∷ more) ≡ true
    named more e = rw (h, l) e

    all_ended : (w : List ℕ) → list_all is_name_byte w ≡ true → list_all is_name_byte (w ++ []) ≡ true
    all_ended w e = rw (list_all-append is_name_byte w [], e) refl

-- tests that speak of the same words
only_some : {A : Type 0} (b : Bool) (to : A) → b ≡ is_some (only_if b to)
only_some true to = refl
only_some false to = refl

first_test : {A : Type 0} (one other : Option A) → (is_some one || is_some other) ≡ is_some (option_or one other)
first_test (Some x) other = refl
first_test None other = refl

map_test : {A B : Type 0} (f : A → B) (one : Option A) → is_some one ≡ is_some (map_some f one)
map_test f (Some x) = refl
map_test f None = refl

-- the front of a word that means one thing is that of being this word
pub front_only : {A : Type 0} (word other : List ℕ) (to : A) (count : ℕ) → IsFront (λ w. bytes_eq w other) word count
    → IsFront (λ w. is_some (only_if (bytes_eq w other) to)) word count
front_only word other to count f =
    front_as (λ w. bytes_eq w other) (λ w. is_some (only_if (bytes_eq w other) to)) word count
    (λ w. only_some (bytes_eq w other) to) f

-- the front of a word for the first of two values that is there is the longer of their fronts
pub front_either : {A : Type 0} (one other : List ℕ → Option A) (word : List ℕ) (n m k : ℕ) → n ≤ k → m ≤ k
    → (k ≡ n) ⊎ (k ≡ m) → IsFront (λ w. is_some (one w)) word n → IsFront (λ w. is_some (other w)) word m →
    IsFront (λ w. is_some (option_or (one w) (other w))) word k
front_either one other word n m k ln lm which f g =
    front_as (λ w. is_some (one w) || is_some (other w)) (λ w. is_some (option_or (one w) (other w))) word k
    (λ w. first_test (one w) (other w))
    (front_or (λ w. is_some (one w)) (λ w. is_some (other w)) word n m k ln lm which f g)

pub front_allowed : {A : Type 0} (test : List ℕ → Bool) (to : List ℕ → A) (word : List ℕ) (count : ℕ)
    → IsFront test word count → IsFront (λ w. is_some (only_if (test w) (to w))) word count
front_allowed test to word count f =
    front_as test (λ w. is_some (only_if (test w) (to w))) word count (λ w. only_some (test w) (to w)) f

-- the front of a word for an attribute's name is that for an attribute that is not given yet
pub front_free : (given : Given) (attribute : Attribute) (word : List ℕ) (count : ℕ)
    → has_attribute given attribute ≡ false → IsFront (λ w. bytes_eq w (attribute_word attribute)) word count →
    IsFront (λ w. is_some (if_named given w attribute)) word count
front_free given attribute word count free f =
    front_as (λ w. bytes_eq w (attribute_word attribute)) (λ w. is_some (if_named given w attribute)) word count
    (λ w. same (bytes_eq w (attribute_word attribute)) (has_attribute given attribute) free
    ∙ only_some (bytes_eq w (attribute_word attribute) && not (has_attribute given attribute)) attribute) f
  where
    same : (a b : Bool) → b ≡ false → a ≡ (a && not b)
    same true b e = rw e refl
    same false b e = refl

-- and at the stages of a reader
pub front_stage : (standing : Standing) (stage : Stage) (test : List ℕ → Bool) (word : List ℕ) (count : ℕ)
    → standing.stage ≡ stage →
    ((w : List ℕ) → test w ≡ is_some (next_by_word stage standing.given standing.draft w)) → IsFront test word count
    → IsFront (may_come standing) word count
front_stage standing stage test word count e same f =
    front_as test (may_come standing) word count
    (λ w. subst (λ (s : Stage). test w ≡ is_some (next_by_word s standing.given standing.draft w)) (sym e) (same w)) f

-- where an attribute may come, a front is one of a name of an attribute
pub front_attribute : (standing : Standing) (word : List ℕ) (count : ℕ) → standing.stage ≡ stages.Attribute
    → IsFront (λ w. is_some (attribute_named standing.given w)) word count → IsFront (may_come standing) word count
front_attribute standing word count e f =
    front_stage standing stages.Attribute (λ w. is_some (attribute_named standing.given w)) word count e (λ w. map_test
    (λ attribute. At (stages.Equals attribute) standing.given standing.draft) (attribute_named standing.given w)) f

-- where a value may come, a front is one of a value of this attribute
pub front_value : (standing : Standing) (attribute : Attribute) (word : List ℕ) (count : ℕ)
    → standing.stage ≡ stages.Value attribute
    → IsFront (λ w. is_some (with_value attribute standing.given w)) word count → IsFront (may_come standing) word count
front_value standing attribute word count e f =
    front_stage standing (stages.Value attribute) (λ w. is_some (with_value attribute standing.given w)) word count e
    (λ w. map_test (λ then. At stages.Attributed then standing.draft) (with_value attribute standing.given w)) f

-- where the attribute of a block may come, a front is one of such a name
pub front_flow_name : (standing : Standing) (word : List ℕ) (count : ℕ) → standing.stage ≡ stages.FlowName
    → IsFront (λ w. is_some (flow_named standing.draft.flows w)) word count → IsFront (may_come standing) word count
front_flow_name standing word count e f =
    front_stage standing stages.FlowName (λ w. is_some (flow_named standing.draft.flows w)) word count e (λ w. map_test
    (λ attribute. At (stages.FlowEquals attribute) standing.given standing.draft) (flow_named standing.draft.flows w)) f

-- at the value of a block's attribute, the front for its value is that for what may come
pub front_flow : (standing : Standing) (attribute : BlockAttribute) (word : List ℕ) (count : ℕ)
    → standing.stage ≡ stages.FlowValue attribute
    → IsFront (λ w. is_some (with_flow attribute standing.draft.flows w)) word count
    → IsFront (may_come standing) word count
front_flow standing attribute word count e f =
    front_stage standing (stages.FlowValue attribute)
    (λ w. is_some (with_flow attribute standing.draft.flows w)) word count e
    (λ w. map_test (λ flows. At stages.Flowed standing.given (record standing.draft { flows = flows }))
    (with_flow attribute standing.draft.flows w)) f
