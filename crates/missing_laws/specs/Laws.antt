-- Nothing that a unit's constraints look up is missing.
use Rattle.std.specs.Prelude.{◌≡◌, List, [], Option, Some}
use Rattle.c_tree.specs.Tree.{Expr}
use Rattle.c_tree.specs.Unit.{Item}
use Rattle.type_table.specs.Types.{CType}
use Rattle.name_rules.specs.Spellings.{Place}
use Rattle.type_rules.specs.Shapes.{shape_of}
use Rattle.type_rules.specs.Judging.{items_faults_of}
use Rattle.row_rules.specs.Worlds.{World, Numbered}
use Rattle.constraint_rules.specs.Starts.{expr_starts, items_starts}
use Rattle.constraint_rules.specs.Demands.{items_demand}
use Rattle.missing_laws.specs.Everywhere.{ExprHas, ItemsHave}
use Rattle.missing_laws.specs.Finding.{AreFound, FirstIsMet, HasItsSkeleton, HasType, IsSettled, LinksAreMet, MembersBegin, RoleHasSkeleton, TokenBegins, loud, more}
use Rattle.row_rules.specs.Annotations.{has_access}

-- The items of a unit in a world: names and types' names in them are known, their expressions have no faults, and what
-- they declare, what that is linked with and what is fresh in them begins where it is looked for.
pub record AreSettled (w : World) (items : List Item) : Type 0 where
  pub clean : items_faults_of w.spelling w.names items ≡ []
  pub settled : ItemsHave (IsSettled w) (TokenBegins w) (FirstIsMet w) (RoleHasSkeleton w) items
  pub starts : AreFound w (items_starts (has_access w.lattices) w.spelling w.names items)
  pub members : MembersBegin w
  pub links : LinksAreMet w

-- each expression has a type
abbrev pub ExpressionsHaveTypes : Type 0
ExpressionsHaveTypes =
    (w : World) (items : List Item) → AreSettled w items →
    ItemsHave (HasType w) (TokenBegins w) (FirstIsMet w) (RoleHasSkeleton w) items

-- an expression that has a type has a skeleton of it
abbrev pub TypedHaveSkeletons : Type 0
TypedHaveSkeletons =
    (w : World) (f : Option Place) (e : Expr) (t : CType) → MembersBegin w →
    ExprHas (IsSettled w) (TokenBegins w) (FirstIsMet w) (RoleHasSkeleton w) e → AreFound w (expr_starts (loud w f) e) →
    (shape_of w.spelling w.names e).type ≡ Some t → HasItsSkeleton w e t

-- the expression has a skeleton of its type
abbrev pub HasOne : World → Expr → Type 0
HasOne w e = (t : CType) × ((shape_of w.spelling w.names e).type ≡ Some t) × HasItsSkeleton w e t

-- each expression has a skeleton of its type
abbrev pub ExpressionsHaveSkeletons : Type 0
ExpressionsHaveSkeletons =
    (w : World) (items : List Item) → AreSettled w items →
    ItemsHave (HasOne w) (TokenBegins w) (FirstIsMet w) (RoleHasSkeleton w) items

-- Look-ups take the first that they find, so what stands behind all others is seen by those alone that find nothing.
abbrev pub NothingIsMissing : Type 0
NothingIsMissing =
    (w : World) (items : List Item) → AreSettled w items → (skeletons : List Numbered) (sites : List Place) →
    items_demand (more w skeletons sites) items ≡ items_demand w items
