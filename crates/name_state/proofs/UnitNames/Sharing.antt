-- What sources see of the prelude.
use Rattle.std.proofs.Common.{arith, ◌≡◌, ℕ, zero, suc, ◌+◌, ◌<◌, nat_eq, Bool, List, [], ◌∷◌, ◌++◌, length, drop, reverse, map, slice_index_or, Option, Some, None, option_map, refl, sym, ◌∙◌, ap, append_assoc, append-nil, if◌then◌else◌}
use Rattle.std.proofs.lemmas.List.{reverse-append}
use Rattle.qual_base.proofs.Tests.{not_equal}
use Rattle.type_table.specs.Types.{CType}
use Rattle.name_rules.specs.Spellings.{Place}
use Rattle.name_rules.specs.Scopes as rules
use Rattle.name_rules.specs.Units as units
use Rattle.name_tables.specs.declared.name_scopes.meant.Meant.{Meant}
use Rattle.name_tables.specs.declared.name_scopes.meant.Meant.TheVariants as meants
use Rattle.name_tables.specs.NameScopes.Meanings.{OneScope, innermost, outer_scopes, no_scope}
use Rattle.name_tables.specs.declared.name_records.declarations.Declared.{Declared}
use Rattle.name_tables.specs.declared.name_records.declarations.Role.{Role}
use Rattle.name_tables.specs.declared.name_records.declarations.Role.TheVariants as roles
use Rattle.name_tables.specs.NameRecords.Records.{first_declared}
use Rattle.name_state.specs.UnitNames.Shared.{is_shared_role, is_shared, shared_name, shared}
use Rattle.name_state.specs.declared.unit_names.names.Names.{Names}
use Rattle.name_state.specs.UnitNames.Shown.{role_of, meaning_of, entry_of, declared_of, names_of}
use Rattle.name_state.proofs.UnitNames.Views.{first_is, innermost_is, outer_is}

-- what two lists of names in a row share is what the first shares, then what the second does
shared_more : (all : List Declared) (xs ys : List (ℕ × Meant)) → shared all (xs ++ ys) ≡ shared all xs ++ shared all ys
shared_more all [] ys = refl
shared_more all (x ∷ xs) ys =
    ap (λ (zs : List (ℕ × Place)). shared_name all x.0 x.1 ++ zs) (shared_more all xs ys)
    ∙ sym (append_assoc (shared_name all x.0 x.1) (shared all xs) (shared all ys))

-- one name more
pub shared_on : (all : List Declared) (names : List (ℕ × Meant)) (i : ℕ) (it : ℕ × Meant)
    (round after : List (ℕ × Place))
    → it ≡ slice_index_or names i it → i < length names → after ≡ shared_name all it.0 it.1 ++ round
    → shared all (reverse (drop (i + 1) names)) ++ after ≡ shared all (reverse (drop i names)) ++ round
shared_on all [] i it round after is lt made = absurd (omega arith)
shared_on all (x ∷ names) zero it round after is lt made =
    let front = shared all (reverse names) in
    let own = shared_name all x.0 x.1 in
    ap (λ (zs : List (ℕ × Place)). front ++ zs)
    (made ∙ ap (λ (y : ℕ × Meant). shared_name all y.0 y.1 ++ round) is)
    ∙ sym (append_assoc front own round)
    ∙ ap (λ (zs : List (ℕ × Place)). (front ++ zs) ++ round) (sym (append-nil own))
    ∙ ap (λ (zs : List (ℕ × Place)). zs ++ round) (sym (shared_more all (reverse names) (x ∷ [])))
    ∙ ap (λ (xs : List (ℕ × Meant)). shared all xs ++ round) (sym (reverse-append (x ∷ []) names))
shared_on all (x ∷ names) (suc i) it round after is lt made =
    let e : suc i + 1 ≡ suc (i + 1) = omega arith in rw e (shared_on all names i it round after is (omega arith) made)

module _ (t : ℕ → CType) where
  role_is : (d : rules.Declared) (r : Role) → units.is_shared (Some (record d { role = role_of r })) ≡ is_shared_role r
  role_is d roles.Typedef = refl
  role_is d roles.Object = refl
  role_is d roles.Function = refl
  role_is d (roles.Parameter i) = refl
  role_is d (roles.Field n i) = refl
  role_is d roles.Enumerator = refl

  thing_is_shared : (o : Option Declared) → units.is_shared (option_map (declared_of t) o) ≡ is_shared o
  thing_is_shared None = refl
  thing_is_shared (Some d) = role_is (declared_of t d) d.role

  name_is : (s : Names) (name : ℕ) (m : Meant)
      → units.shared_name (names_of t s) name (meaning_of t m) ≡ shared_name s.declared name m
  unfolding names_of
  name_is s name (meants.Type ty) = refl
  name_is s name (meants.Thing at) =
      ap (λ (b : Bool). if b then (name, at) ∷ [] else [])
      (ap units.is_shared (first_is t s.declared at) ∙ thing_is_shared (first_declared s.declared at))

  shared_is : (s : Names) (names : List (ℕ × Meant))
      → units.shared (names_of t s) (map (entry_of t) names) ≡ shared s.declared names
  shared_is s [] = refl
  shared_is s (it ∷ names) =
      ap (λ (zs : List (ℕ × Place)). zs ++ units.shared (names_of t s) (map (entry_of t) names)) (name_is s it.0 it.1)
      ∙ ap (λ (zs : List (ℕ × Place)). shared_name s.declared it.0 it.1 ++ zs) (shared_is s names)

  -- what sources see of the prelude, whose scope ends
  pub shared_is_round : (s : Names) (scopes : List OneScope) (round : List (ℕ × Place)) (names : List (ℕ × Meant))
      (file : OneScope)
      → scopes ≡ outer_scopes s.scopes → file ≡ innermost s.scopes → reverse names ≡ file.names
      → round ≡ shared s.declared (reverse names) ++ []
      → names_of t (record s { scopes = scopes; round = round })
      ≡ record (rules.leave (names_of t s))
      { round = units.shared (names_of t s) (rules.innermost (names_of t s).scopes).names }
  unfolding names_of
  shared_is_round s scopes round names file scopes_are file_is names_are round_is =
      let whole = append-nil (shared s.declared (reverse names))
      ∙ ap (shared s.declared) (names_are ∙ ap (λ (it : OneScope). it.names) file_is)
      ∙ sym (shared_is s (innermost s.scopes).names)
      ∙ ap (λ (it : rules.Scope). units.shared (names_of t s) it.names) (sym (innermost_is t s.scopes)) in
      ap (λ (ss : List OneScope). names_of t (record s { scopes = ss; round = round })) scopes_are
      ∙ ap (λ (ss : List rules.Scope). let r : rules.Names = record (names_of t s) { scopes = ss; round = round } in r)
      (sym (outer_is t s.scopes))
      ∙ ap (λ (r : List (ℕ × Place)). let n : rules.Names = record (rules.leave (names_of t s)) { round = r } in n)
      (round_is ∙ whole)

  -- the first source begins, with a file scope of its own
  pub first_begun : (unit : ℕ) (before s : Names) (scopes : List OneScope) → unit ≡ 1
      → names_of t s
      ≡ record (rules.leave (names_of t before))
      { round = units.shared (names_of t before) (rules.innermost (names_of t before).scopes).names }
      → scopes ≡ no_scope ∷ [] → names_of t (record s { scopes = scopes }) ≡ units.unit_begun unit (names_of t before)
  unfolding names_of
  first_begun unit before s scopes is_first is scopes_are =
      ap (λ (ss : List OneScope). names_of t (record s { scopes = ss })) scopes_are
      ∙ ap (λ (n : rules.Names). let r : rules.Names = record n { scopes = rules.no_scope ∷ [] } in r) is
      ∙ ap
      (λ (b : Bool). let r : rules.Names = record (names_of t before) {
        scopes = rules.no_scope ∷ [];
        round = if b then units.shared (names_of t before) (rules.innermost (names_of t before).scopes).names
            else before.round;
      } in r)
      (sym (ap (λ (n : ℕ). nat_eq n 1) is_first))

  -- another unit begins
  pub other_begun : (unit : ℕ) (before s : Names) (scopes : List OneScope) → (unit ≡ 1 → ⊥) → s ≡ before
      → scopes ≡ no_scope ∷ [] → names_of t (record s { scopes = scopes }) ≡ units.unit_begun unit (names_of t before)
  unfolding names_of
  other_begun unit before s scopes is_other is scopes_are =
      ap (λ (ss : List OneScope). names_of t (record s { scopes = ss })) scopes_are
      ∙ ap (λ (n : Names). names_of t (record n { scopes = no_scope ∷ [] })) is
      ∙ ap
      (λ (b : Bool). let r : rules.Names = record (names_of t before) {
        scopes = rules.no_scope ∷ [];
        round = if b then units.shared (names_of t before) (rules.innermost (names_of t before).scopes).names
            else before.round;
      } in r)
      (sym (not_equal unit 1 is_other))
