-- What calls for bytes and for room came to.
use Rattle.std.specs.Prelude.{ℕ, List, [], take, Ok, Err}
use Rattle.std.specs.declared.result.Result.{Result}

-- the bytes that a put took of a piece
abbrev pub taken : {E : Type 0} → Result ℕ E → List ℕ → List ℕ
taken (Ok n) piece = take n piece
taken (Err e) piece = []

-- how many calls failed in one
abbrev pub failures : {T E : Type 0} → Result T E → ℕ
failures (Ok x) = 0
failures (Err e) = 1
