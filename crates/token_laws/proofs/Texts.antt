-- What is known of the tokens of parts of tapes by those of their texts.
use Rattle.std.proofs.Common.{ℕ, List, [], ◌∷◌, ◌++◌}
use Rattle.tape_ops.specs.declared.op.Op.{Op}
use Rattle.c_tree.specs.declared.lexeme.Lexeme.{Lexeme}
use Rattle.token_laws.specs.Ops.{op_tokens}

module _ (P : ℕ → Type 0) where
  abbrev pub AllIn : List ℕ → Type 0
  AllIn [] = Unit {0}
  AllIn (n ∷ ns) = P n × AllIn ns

  -- of each token that the ops of a tape carry
  abbrev pub AllOps : List Op → Type 0
  AllOps [] = Unit {0}
  AllOps (op ∷ tape) = AllIn (op_tokens op) × AllOps tape

  -- of the number of each token
  abbrev pub AllAt : List Lexeme → Type 0
  AllAt [] = Unit {0}
  AllAt (it ∷ k) = P it.at × AllAt k

  pub ops_append : (xs ys : List Op) → AllOps xs → AllOps ys → AllOps (xs ++ ys)
  ops_append [] ys h i = i
  ops_append (op ∷ xs) ys h i = (h.0, ops_append xs ys h.1 i)

pub record Holds (P : ℕ → Type 0) (tape : List Op) : Type 0 where
  pub all : AllOps P tape

pub record Gone (P : ℕ → Type 0) (F : Type 0) (tape : List Op) (k : List Lexeme) : Type 0 where
  pub ops : Holds P tape
  pub facts : F
  pub rest : AllAt P k

-- Where it is so of each token of a text, it is of those that the ops of a tape carry and of those of `k`, and these
-- are facts.
pub record Covers (P : ℕ → Type 0) (F : Type 0) (tape : List Op) (text k : List Lexeme) : Type 0 where
  pub goes : AllAt P text → Gone P F tape k

module _ {P : ℕ → Type 0} where
  pub empty : Holds P []
  empty = record { all = tt }

  pub one : {op : Op} → AllIn P (op_tokens op) → Holds P (op ∷ [])
  one h = record { all = (h, tt) }

  pub both : {xs ys : List Op} → Holds P xs → Holds P ys → Holds P (xs ++ ys)
  both {xs} {ys} p q = record { all = ops_append P xs ys p.all q.all }

  pub nothing : {k : List Lexeme} → Covers P (Unit {0}) [] k k
  nothing = record { goes = λ h. record { ops = empty; facts = tt; rest = h } }

  pub so : {F G : Type 0} {xs : List Op} {t k : List Lexeme} → Covers P F xs t k → (F → G) → Covers P G xs t k
  so p f = record { goes = λ h. (let a = p.goes h in record { ops = a.ops; facts = f a.facts; rest = a.rest }) }

  pub done : {F : Type 0} {xs : List Op} {t k : List Lexeme} → Covers P F xs t k → Covers P (Unit {0}) xs t k
  done p = so p (λ f. tt)

  -- with the ops of no part
  pub none : {k : List Lexeme} → Covers P (Holds P []) [] k k
  none = so nothing (λ f. empty)

  pub join : {F G : Type 0} {xs ys : List Op} {t m k : List Lexeme} → Covers P F xs t m → Covers P G ys m k →
      Covers P (F × G) (xs ++ ys) t k
  join p q = record {
    goes = λ h. (let a = p.goes h in let b = q.goes a.rest in
        record { ops = both a.ops b.ops; facts = (a.facts, b.facts); rest = b.rest });
  }

  -- the first token, of which it is so
  pub head : {F : Type 0} {it : Lexeme} {xs : List Op} {t k : List Lexeme} → (P it.at → Covers P F xs t k) →
      Covers P F xs (it ∷ t) k
  head p = record { goes = λ h. (p h.0).goes h.1 }

  pub skip : {F : Type 0} {it : Lexeme} {xs : List Op} {t k : List Lexeme} → Covers P F xs t k
      → Covers P F xs (it ∷ t) k
  skip p = record { goes = λ h. p.goes h.1 }

  pub skips : {F : Type 0} (front : List Lexeme) {xs : List Op} {t k : List Lexeme} → Covers P F xs t k →
      Covers P F xs (front ++ t) k
  skips [] p = p
  skips (it ∷ front) p = skip (skips front p)

  -- what stands before it has no ops
  pub bind : {F G : Type 0} {xs : List Op} {t m k : List Lexeme} → Covers P F [] t m → (F → Covers P G xs m k) →
      Covers P G xs t k
  bind p f = record { goes = λ h. (let a = p.goes h in (f a.facts).goes a.rest) }

  -- what stands behind it has no ops
  pub trail : {F G : Type 0} {xs : List Op} {t m k : List Lexeme} → Covers P F xs t m → Covers P G [] m k →
      Covers P (F × G) xs t k
  trail p q = record {
    goes = λ h. (let a = p.goes h in let b = q.goes a.rest in
        record { ops = a.ops; facts = (a.facts, b.facts); rest = b.rest });
  }

  pub past : {F G : Type 0} {xs : List Op} {t m k : List Lexeme} → Covers P F xs t m → Covers P G [] m k
      → Covers P F xs t k
  past p q = so (trail p q) (λ f. f.0)

  -- a token behind it
  pub ended : {F : Type 0} {it : Lexeme} {xs : List Op} {t k : List Lexeme} → Covers P F xs t (it ∷ k) →
      Covers P (F × P it.at) xs t k
  ended p = record {
    goes = λ h. (let a = p.goes h in record { ops = a.ops; facts = (a.facts, a.rest.0); rest = a.rest.1 });
  }

  pub ends : {F : Type 0} {it : Lexeme} {xs : List Op} {t k : List Lexeme} → Covers P F xs t (it ∷ k)
      → Covers P F xs t k
  ends p = record { goes = λ h. (let a = p.goes h in record { ops = a.ops; facts = a.facts; rest = a.rest.1 }) }

  -- ops behind it and before it
  pub put : {F : Type 0} {xs ys : List Op} {t k : List Lexeme} → Covers P F xs t k → (F → Holds P ys) →
      Covers P F (xs ++ ys) t k
  put p f = record {
    goes = λ h. (let a = p.goes h in record { ops = both a.ops (f a.facts); facts = a.facts; rest = a.rest });
  }

  pub mute : {F : Type 0} {xs ys : List Op} {t k : List Lexeme} → Covers P F xs t k → Holds P ys
      → Covers P F (xs ++ ys) t k
  mute p o = put p (λ f. o)

  pub set : {F : Type 0} {xs ys : List Op} {t k : List Lexeme} → Holds P xs → Covers P F ys t k
      → Covers P F (xs ++ ys) t k
  set o p = record {
    goes = λ h. (let a = p.goes h in record { ops = both o a.ops; facts = a.facts; rest = a.rest });
  }

  -- the ops as a fact, and none
  pub as_fact : {F : Type 0} {xs : List Op} {t k : List Lexeme} → Covers P F xs t k → Covers P (F × Holds P xs) [] t k
  as_fact p = record {
    goes = λ h. (let a = p.goes h in record { ops = empty; facts = (a.facts, a.ops); rest = a.rest });
  }

  -- the token behind it is known by ops that cover the same
  pub known : {F G : Type 0} {it : Lexeme} {xs ys : List Op} {t k : List Lexeme} → Covers P G ys t (it ∷ k) →
      (P it.at → Covers P F xs t (it ∷ k)) → Covers P F xs t (it ∷ k)
  known p q = record { goes = λ h. (q (p.goes h).rest.0).goes h }
