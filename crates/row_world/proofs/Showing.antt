-- What is known is what a world has.
use Rattle.std.proofs.Common.{◌≡◌, ℕ, Option, option_map, sym, ◌∙◌, ap}
use Rattle.type_table.specs.Types.{CType}
use Rattle.name_rules.specs.Spellings.{Place}
use Rattle.name_rules.specs.Scopes as rules
use Rattle.name_rules.specs.Uses.{use_at, type_named_at}
use Rattle.name_tables.specs.declared.name_records.declarations.Declared.{Declared}
use Rattle.name_tables.specs.declared.name_records.records.Use.{Use}
use Rattle.name_state.specs.UnitNames.Shown.{names_of, use_of, declared_of}
use Rattle.row_rules.specs.Worlds.{World, at, skeleton}
use Rattle.row_rules.specs.Vals.{own}
use Rattle.row_world.specs.declared.known.Known.{Known}
use Rattle.row_world.specs.Shown.{Shows, skel, type}

module _ (k : Known) (w : World) where
  pub own_is : (p : Place) (token n : ℕ) → p ≡ at w token → skel k n ≡ skeleton w p → skel k n ≡ own w token
  own_is p token n is found = found ∙ ap (skeleton w) is

  pub use_is : Shows k w → (p : Place) (token : ℕ) (u : Use) → p ≡ at w token
      → ((t : ℕ → CType) → use_of u ≡ use_at (names_of t k.names.now).uses p)
      → use_of u ≡ use_at w.names.uses (at w token)
  use_is s p token u is found = found (type k)
      ∙ ap (use_at (names_of (type k) k.names.now).uses) is
      ∙ ap (λ (n : rules.Names). use_at n.uses (at w token)) (sym s.names)

  pub type_is : Shows k w → (p : Place) (token : ℕ) (o : Option ℕ) → p ≡ at w token
      → ((t : ℕ → CType) → option_map t o ≡ type_named_at (names_of t k.names.now).type_names p)
      → option_map (type k) o ≡ type_named_at w.names.type_names (at w token)
  type_is s p token o is found = found (type k)
      ∙ ap (type_named_at (names_of (type k) k.names.now).type_names) is
      ∙ ap (λ (n : rules.Names). type_named_at n.type_names (at w token)) (sym s.names)

  pub declared_is : Shows k w → (p : Place) (o : Option Declared)
      → ((t : ℕ → CType) → option_map (declared_of t) o ≡ rules.declared_at (names_of t k.names.now).declared p)
      → option_map (declared_of (type k)) o ≡ rules.declared_at w.names.declared p
  declared_is s p o found = found (type k)
      ∙ ap (λ (n : rules.Names). rules.declared_at n.declared p) (sym s.names)

  pub declared_there : (p : Place) (token : ℕ) (o : Option Declared) → p ≡ at w token
      → option_map (declared_of (type k)) o ≡ rules.declared_at w.names.declared p
      → option_map (declared_of (type k)) o ≡ rules.declared_at w.names.declared (at w token)
  declared_there p token o is found = found ∙ ap (rules.declared_at w.names.declared) is
