-- The constraints that a row of the index lists.
use Rattle.std.proofs.Common.{◌≡◌, ℕ, ◌<◌, List, Option, length, get_or, sym, subst}
use Rattle.std.specs.List.{Contains}
use Rattle.flow_graph.specs.System.{System}
use Rattle.flow_graph.specs.declared.constraint.Link.{Link}
use Rattle.flow_graph.specs.Index.{AreThose, IsKeyed}

-- an item of a list of constraints by their key has the key
pub item_keyed : (sys : System) (key_of : Link → Option ℕ) (key : ℕ) (row items : List ℕ) (at item : ℕ)
    → AreThose (IsKeyed sys key_of key) row → items ≡ row → at < length items →
    item ≡ get_or items at item → IsKeyed sys key_of key item
item_keyed sys key_of key row items at item those same within is =
    those.only item (subst (λ xs. Contains xs item) same (at, within, sym is))

-- each constraint with the key is in the list
pub keyed_item : (sys : System) (key_of : Link → Option ℕ) (key : ℕ) (row items : List ℕ) (n : ℕ)
    → AreThose (IsKeyed sys key_of key) row → items ≡ row → IsKeyed sys key_of key n →
    Contains items n
keyed_item sys key_of key row items n those same has = subst (λ xs. Contains xs n) (sym same) (those.all n has)
