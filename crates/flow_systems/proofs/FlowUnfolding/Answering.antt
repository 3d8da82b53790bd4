-- The answer of a test that is one of something else.
use Rattle.std.proofs.Common.{Bool, true, false, MatchBool}

pub answered : (b : Bool) (P Q R S : Type 0) → MatchBool b P Q → (P → R) → (Q → S) → MatchBool b R S
answered true P Q R S h one other = one h
answered false P Q R S h one other = other h
