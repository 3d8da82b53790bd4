-- What a list of identifiers and the declarations behind it say is at good places.
use Rattle.std.proofs.Common.{ℕ, zero, suc, Bool, true, false, List, [], ◌∷◌, ◌++◌, Option, None, Some}
use Rattle.std.specs.Prelude.{slice_get, if◌then◌else◌}
use Rattle.type_table.specs.Types.{CType}
use Rattle.name_rules.specs.Spellings.{Place, Spelling, place, Named}
use Rattle.name_rules.specs.Faults.{undeclared, defined_twice, fault_where}
use Rattle.name_rules.specs.Scopes.{Names, changed_at}
use Rattle.name_rules.specs.Identifiers.{OldParameter, Olds, has_identifier, number_of_identifier, identified, typed_first, is_typed, old_declared, old_declared_some, is_unknown, old_faults, type_or_base, old_types}
use Rattle.token_laws.proofs.Types.{Ok, SomeOk, ListOk, fault_ok, Sound, NamedAt}
use Rattle.token_laws.proofs.Names.{faults_there, declared_param_there}

module _ (S : Place → Type 0) (u : Spelling) where
  pub record OldOk (it : OldParameter) : Type 0 where
    pub at : S (place u it.token)
    pub type : SomeOk S it.type

  abbrev pub OldsOk : List OldParameter → Type 0
  OldsOk [] = Unit {0}
  OldsOk (it ∷ others) = OldOk it × OldsOk others

  pub record BothOk (it : Olds) : Type 0 where
    pub list : OldsOk it.list
    pub names : Sound S it.names

  olds_append : (xs ys : List OldParameter) → OldsOk xs → OldsOk ys → OldsOk (xs ++ ys)
  olds_append [] ys h i = i
  olds_append (x ∷ xs) ys h i = (h.0, olds_append xs ys h.1 i)

  pub identified_there : (token name : ℕ) (it : Olds) → S (place u token) → BothOk it
      → BothOk (identified u token name it)
  identified_there token name it is h = record {
    list = by (has_identifier (u.key name) it.list);
    names = faults_there (fault_where (has_identifier (u.key name) it.list) (place u token) defined_twice)
        (fault_ok S (has_identifier (u.key name) it.list) (place u token) defined_twice is) h.names;
  }
    where
      by : (b : Bool) → OldsOk (if b then it.list
          else it.list ++ record { token = token; key = u.key name; type = None } ∷ [])
      by true = h.list
      by false = olds_append it.list (record { token = token; key = u.key name; type = None } ∷ []) h.list
          (record { at = is; type = tt }, tt)

  typed_there : (t : CType) (it : OldParameter) → Ok S t → OldOk it → OldOk (typed_first t it)
  typed_there t it ok h = by it.token it.key it.type h
    where
      by : (token key : ℕ) (first : Option CType) → OldOk (record { token = token; key = key; type = first }) →
          OldOk (typed_first t (record { token = token; key = key; type = first }))
      by token key None h = record { at = h.at; type = ok }
      by token key (Some first) h = record { at = h.at; type = h.type }

  changed_there : (t : CType) (its : List OldParameter) (i : ℕ) → Ok S t → OldsOk its →
      OldsOk (changed_at its i (typed_first t))
  changed_there t [] i ok h = tt
  changed_there t (it ∷ its) zero ok h = (typed_there t it ok h.0, h.1)
  changed_there t (it ∷ its) (suc i) ok h = (h.0, changed_there t its i ok h.1)

  old_there : (own : Option Place) (it : Named) (t : CType) (i : Option ℕ) (olds : Olds) → S (place u it.token)
      → Ok S t →
      BothOk olds → BothOk (old_declared u own it t i olds)
  old_there own it t None olds is ok h = record {
    list = h.list;
    names = faults_there (fault_where true (place u it.token) undeclared) (is, tt) h.names;
  }
  old_there own it t (Some i) olds is ok h =
      let fails = is_typed (slice_get olds.list i) in
      record {
        list = changed_there t olds.list i ok h.list;
        names = declared_param_there u (Some it) i own t is ok
            (faults_there (fault_where fails (place u it.token) defined_twice)
            (fault_ok S fails (place u it.token) defined_twice is) h.names);
      }

  pub old_declared_there : (own : Option Place) (it : Option Named) (t : CType) (olds : Olds) → NamedAt S u it
      → Ok S t →
      BothOk olds → BothOk (old_declared_some u own it t olds)
  old_declared_there own None t olds is ok h = h
  old_declared_there own (Some it) t olds is ok h =
      old_there own it t (number_of_identifier (u.key it.name) olds.list) olds is ok h

  pub old_faults_there : (its : List OldParameter) {s : Names} → OldsOk its → Sound S s → Sound S (old_faults u its s)
  old_faults_there [] i h = h
  old_faults_there (it ∷ its) i h =
      old_faults_there its i.1 (faults_there (fault_where (is_unknown it.type) (place u it.token) undeclared)
      (fault_ok S (is_unknown it.type) (place u it.token) undeclared i.0.at) h)

  or_base_ok : (t : Option CType) → SomeOk S t → Ok S (type_or_base t)
  or_base_ok None h = tt
  or_base_ok (Some t) h = h

  pub old_types_there : (its : List OldParameter) → OldsOk its → ListOk S (old_types its)
  old_types_there [] h = tt
  old_types_there (it ∷ its) h = (or_base_ok it.type h.0.type, old_types_there its h.1)
