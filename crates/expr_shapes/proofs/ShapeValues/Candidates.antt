-- What is kept of the candidates of a pick, with one more behind them, and what is read from it.
use Rattle.std.proofs.Common.{◌≡◌, ◌∙◌, sym, ap, refl, not, Bool, true, false, ◌&&◌, ◌||◌, if◌then◌else◌, List, [], ◌∷◌, ◌++◌, Option, None, is_some}
use Rattle.type_table.specs.declared.row.TypeRow.{TypeRow}
use Rattle.type_table.specs.Types.{CType}
use Rattle.name_rules.specs.Values.{value, Candidate, no_zeros, have_types, ranked, first_ranked, higher_of}
use Rattle.expr_shapes.specs.declared.shape_values.picks.Picked.{Picked}
use Rattle.expr_shapes.specs.ShapeValues.Views.{shape_in, some_value_type}
use Rattle.expr_shapes.specs.ShapeValues.Picks.{IsPicked, count_of, more_than, first_by, first_shape}

-- with one candidate more the count is one more than it was
pub one_more : (all : List Candidate) (c : Candidate) → count_of (all ++ c ∷ []) ≡ more_than (count_of all)
one_more [] c = refl
one_more (it ∷ []) c = refl
one_more (it ∷ other ∷ others) c = refl

-- with one candidate more the first stays, where there is one, or is this one
pub first_more : (all : List Candidate) (c : Candidate) →
    first_shape (all ++ c ∷ []) ≡ first_by (count_of all) (first_shape all) c.shape
first_more [] c = refl
first_more (it ∷ []) c = refl
first_more (it ∷ other ∷ others) c = refl

-- with one candidate more some value has no type where one had none, or the new one has none
pub types_more : (all : List Candidate) (c : Candidate) →
    not (have_types (all ++ c ∷ [])) ≡ (not (have_types all) || not (is_some (value c.shape)))
types_more [] c = by (is_some (value c.shape)) where
  by : (b : Bool) → not (b && true) ≡ not b
  by true = refl
  by false = refl
types_more (it ∷ others) c = by (types_more others c) (is_some (value it.shape)) where
  by : not (have_types (others ++ c ∷ [])) ≡ (not (have_types others) || not (is_some (value c.shape))) → (b : Bool) →
      not (b && have_types (others ++ c ∷ [])) ≡ (not (b && have_types others) || not (is_some (value c.shape)))
  by h true = h
  by h false = refl

pub ranked_more : (best : Option CType) (all : List Candidate) (c : Candidate) →
    ranked best (all ++ c ∷ []) ≡ higher_of (ranked best all) (value c.shape)
ranked_more best [] c = refl
ranked_more best (it ∷ others) c = ranked_more (higher_of best (value it.shape)) others c

-- with a zero more the candidates that are no zeros stay
pub zero_more : (all : List Candidate) (c : Candidate) → c.is_zero ≡ true → no_zeros (all ++ c ∷ []) ≡ no_zeros all
zero_more [] c e = rw e refl
zero_more (it ∷ others) c e = by (zero_more others c e) it.is_zero where
  by : no_zeros (others ++ c ∷ []) ≡ no_zeros others → (b : Bool) →
      (if b then no_zeros (others ++ c ∷ []) else it ∷ no_zeros (others ++ c ∷ [])) ≡
      (if b then no_zeros others else it ∷ no_zeros others)
  by h true = h
  by h false = ap (λ some. it ∷ some) h

-- with a candidate more that is no zero it stands behind the others that are none
pub other_more : (all : List Candidate) (c : Candidate) → c.is_zero ≡ false →
    no_zeros (all ++ c ∷ []) ≡ no_zeros all ++ c ∷ []
other_more [] c e = rw e refl
other_more (it ∷ others) c e = by (other_more others c e) it.is_zero where
  by : no_zeros (others ++ c ∷ []) ≡ no_zeros others ++ c ∷ [] → (b : Bool) →
      (if b then no_zeros (others ++ c ∷ []) else it ∷ no_zeros (others ++ c ∷ [])) ≡
      ((if b then no_zeros others else it ∷ no_zeros others) ++ c ∷ [])
  by h true = h
  by h false = ap (λ some. it ∷ some) h

-- what is kept, by that of what was kept and of one more
pub record IsAdded (rows : List TypeRow) (old : Picked) (c : Candidate) (new : Picked) : Type 0 where
  pub count : new.count ≡ more_than old.count
  pub first : shape_in rows new.first ≡ first_by old.count (shape_in rows old.first) c.shape
  pub unknown : new.is_unknown ≡ (old.is_unknown || not (is_some (value c.shape)))
  pub highest : some_value_type rows new.highest ≡ higher_of (some_value_type rows old.highest) (value c.shape)

-- a summary of candidates is right with a zero more, where that changes nothing of the others
pub zero_added : (rows : List TypeRow) (all : List Candidate) (c : Candidate) (old new : Picked)
    → IsPicked rows all old →
    IsAdded rows old c new → c.is_zero ≡ true → new.others ≡ old.others →
    new.highest_other ≡ old.highest_other → IsPicked rows (all ++ c ∷ []) new
zero_added rows all c old new h a zero others highest_other =
    record {
      count = a.count ∙ ap more_than h.count ∙ sym (one_more all c);
      others = others ∙ h.others ∙ ap count_of (sym (zero_more all c zero));
      first = a.first ∙ ap (λ n. first_by n (shape_in rows old.first) c.shape) h.count ∙
          ap (λ s. first_by (count_of all) s c.shape) h.first ∙ sym (first_more all c);
      unknown = a.unknown ∙ ap (λ b. b || not (is_some (value c.shape))) h.unknown ∙ sym (types_more all c);
      highest = a.highest ∙ ap (λ t. higher_of t (value c.shape)) h.highest ∙ sym (ranked_more None all c);
      highest_other =
          ap (some_value_type rows) highest_other ∙ h.highest_other ∙ ap first_ranked (sym (zero_more all c zero));
    }

-- a summary of candidates is right with one more that is no zero, where it counts among the others
pub other_added : (rows : List TypeRow) (all : List Candidate) (c : Candidate) (old new : Picked)
    → IsPicked rows all old →
    IsAdded rows old c new → c.is_zero ≡ false → new.others ≡ more_than old.others →
    some_value_type rows new.highest_other ≡ higher_of (some_value_type rows old.highest_other) (value c.shape) →
    IsPicked rows (all ++ c ∷ []) new
other_added rows all c old new h a other others highest_other =
    record {
      count = a.count ∙ ap more_than h.count ∙ sym (one_more all c);
      others =
          others ∙ ap more_than h.others ∙ sym (one_more (no_zeros all) c) ∙ ap count_of (sym (other_more all c other));
      first = a.first ∙ ap (λ n. first_by n (shape_in rows old.first) c.shape) h.count ∙
          ap (λ s. first_by (count_of all) s c.shape) h.first ∙ sym (first_more all c);
      unknown = a.unknown ∙ ap (λ b. b || not (is_some (value c.shape))) h.unknown ∙ sym (types_more all c);
      highest = a.highest ∙ ap (λ t. higher_of t (value c.shape)) h.highest ∙ sym (ranked_more None all c);
      highest_other = highest_other ∙ ap (λ t. higher_of t (value c.shape)) h.highest_other ∙
          sym (ranked_more None (no_zeros all) c) ∙ ap first_ranked (sym (other_more all c other));
    }
