-- Sizes of types, and lists of rows one behind the other.
use Rattle.std.proofs.Common.{◌≡◌, ℕ, ◌<◌, ◌≤◌, List, [], ◌∷◌, ◌++◌, length, arith, append_assoc}
use Rattle.type_table.specs.Types.{CType, base, void, struct, pointer, function, size, sizes}
use Rattle.type_table.specs.Rows.{type_at, types_at, capped}
use Rattle.qual_types.specs.declared.row.VarRow.{VarRow}

-- each type has one variable at least
pub some_size : (t : CType) → 0 < size t
some_size (base ws) = omega arith
some_size (void ws) = omega arith
some_size (struct ws s) = omega arith
some_size (pointer ws t) = omega arith
some_size (function ws ps r e) = omega arith

-- types have at least the size of their count
pub as_many : (types : List CType) (ns : List ℕ) → length ns ≤ sizes (types_at types ns)
as_many types [] = omega arith
as_many types (n ∷ ns) =
    let one = some_size (type_at types n) in
    let rest = as_many types ns in
    omega (arith, one, rest)

pub rows_append : (xs ys zs : List VarRow) → (xs ++ ys) ++ zs ≡ xs ++ (ys ++ zs)
rows_append xs ys zs = append_assoc xs ys zs

pub capped_small : (n : ℕ) → n ≤ 16777216 → capped n ≡ n
capped_small n le = omega arith
