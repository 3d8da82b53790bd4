-- How often a number is that of an op's key and of a token, and parts of tapes against their texts.
use Rattle.std.proofs.Common.{◌≡◌, ℕ, ◌+◌, ◌≤◌, List, [], ◌∷◌, ◌++◌, None, Some, ap, arith}
use Rattle.tape_ops.specs.declared.op.Op.{Op}
use Rattle.c_tree.specs.declared.lexeme.Lexeme.{Lexeme}
use Rattle.row_laws.specs.KeyLaws.Tokens.{op_token, added, counted}

-- how many tokens have this number
abbrev pub numbered : ℕ → List Lexeme → ℕ
numbered n [] = 0
numbered n (it ∷ k) = added n (Some it.at) + numbered n k

-- a number is the key of no more ops of a tape than there are tokens of it before `k`
pub record Covers (n : ℕ) (tape : List Op) (text k : List Lexeme) : Type 0 where
  pub most : counted n tape + numbered n k ≤ numbered n text

-- the same of two tapes that stand on one text
pub record CoversBoth (n : ℕ) (tape other : List Op) (text k : List Lexeme) : Type 0 where
  pub both : counted n tape + counted n other + numbered n k ≤ numbered n text

-- the same of a tape in which another one stands, whose tokens are not in the text
pub record CoversBut (n : ℕ) (other tape : List Op) (text k : List Lexeme) : Type 0 where
  pub most : counted n tape + numbered n k ≤ numbered n text + counted n other

-- no op has the number as its key
pub record IsMute (n : ℕ) (tape : List Op) : Type 0 where
  pub none : counted n tape ≡ 0

-- one op has a key, which is this token
pub record StandsAt (n : ℕ) (tape : List Op) (token : ℕ) : Type 0 where
  pub one : counted n tape ≡ added n (Some token)

pub counted_append : (n : ℕ) (xs ys : List Op) → counted n (xs ++ ys) ≡ counted n xs + counted n ys
counted_append n [] ys = omega arith
counted_append n (op ∷ xs) ys = let e = counted_append n xs ys in omega (arith, e)

module _ {n : ℕ} where
  pub empty : IsMute n []
  empty = record { none = omega arith }

  pub mute : {op : Op} → op_token op ≡ None → IsMute n (op ∷ [])
  mute e = record { none = ap (λ key. added n key + 0) e }

  pub mutes : {xs ys : List Op} → IsMute n xs → IsMute n ys → IsMute n (xs ++ ys)
  mutes {xs} {ys} p q =
      record { none = (let e = counted_append n xs ys in let a = p.none in let b = q.none in omega (arith, e, a, b)) }

  pub own : {op : Op} {token : ℕ} → op_token op ≡ Some token → StandsAt n (op ∷ []) token
  own {op} {token} e = record {
    one = (let one : counted n (op ∷ []) ≡ added n (Some token) + 0 = ap (λ key. added n key + 0) e in
        omega (arith, one));
  }

  pub nothing : {k : List Lexeme} → Covers n [] k k
  nothing = record { most = omega arith }

  pub join : {xs ys : List Op} {t m k : List Lexeme} → Covers n xs t m → Covers n ys m k → Covers n (xs ++ ys) t k
  join {xs} {ys} p q =
      record { most = (let e = counted_append n xs ys in let a = p.most in let b = q.most in omega (arith, e, a, b)) }

  -- a token of no op
  pub skip : {xs : List Op} {it : Lexeme} {t k : List Lexeme} → Covers n xs t k → Covers n xs (it ∷ t) k
  skip p = record { most = (let a = p.most in omega (arith, a)) }

  -- tokens of no op
  pub skips : (front : List Lexeme) {xs : List Op} {t k : List Lexeme} → Covers n xs t k → Covers n xs (front ++ t) k
  skips [] p = p
  skips (it ∷ front) p = skip (skips front p)

  -- ops without a key
  pub then_mute : {xs ys : List Op} {t k : List Lexeme} → Covers n xs t k → IsMute n ys → Covers n (xs ++ ys) t k
  then_mute {xs} {ys} p q =
      record { most = (let e = counted_append n xs ys in let a = p.most in let b = q.none in omega (arith, e, a, b)) }

  pub mute_then : {xs ys : List Op} {t k : List Lexeme} → IsMute n xs → Covers n ys t k → Covers n (xs ++ ys) t k
  mute_then {xs} {ys} p q =
      record { most = (let e = counted_append n xs ys in let a = q.most in let b = p.none in omega (arith, e, a, b)) }

  -- an op at the first token, behind what it stands on
  pub keyed : {it : Lexeme} {xs ys : List Op} {t k : List Lexeme} → Covers n xs t k → StandsAt n ys it.at →
      Covers n (xs ++ ys) (it ∷ t) k
  keyed {xs = xs} {ys = ys} p q =
      record { most = (let e = counted_append n xs ys in let a = p.most in let b = q.one in omega (arith, e, a, b)) }

  -- an op at the token behind its first operand
  pub between : {it : Lexeme} {xs ys zs ws : List Op} {t l m k : List Lexeme} → Covers n xs t (it ∷ l)
      → Covers n ys l m →
      Covers n zs m k → StandsAt n ws it.at → Covers n (xs ++ ys ++ zs ++ ws) t k
  between {xs = xs} {ys = ys} {zs = zs} {ws = ws} p q r s = record {
    most = (
        let u = counted_append n (xs ++ ys ++ zs) ws in let v = counted_append n (xs ++ ys) zs in
        let w = counted_append n xs ys in
        let a = p.most in let b = q.most in let c = r.most in let d = s.one in omega (arith, u, v, w, a, b, c, d));
  }

  -- an op at the token behind its operand
  pub behind : {it : Lexeme} {xs ws : List Op} {t l k : List Lexeme} → Covers n xs t (it ∷ l) → Covers n [] l k →
      StandsAt n ws it.at → Covers n (xs ++ ws) t k
  behind {xs = xs} {ws = ws} p q r = record {
    most = (let u = counted_append n xs ws in let a = p.most in let b = q.most in let c = r.one in
        omega (arith, u, a, b, c));
  }

  -- an op at the token between its operands
  pub amid : {it : Lexeme} {xs ys ws : List Op} {t l k : List Lexeme} → Covers n xs t (it ∷ l) → Covers n ys l k →
      StandsAt n ws it.at → Covers n (xs ++ ys ++ ws) t k
  amid {xs = xs} {ys = ys} {ws = ws} p q r = record {
    most = (let u = counted_append n (xs ++ ys) ws in let v = counted_append n xs ys in let a = p.most in
        let b = q.most in
        let c = r.one in omega (arith, u, v, a, b, c));
  }

  -- ops without a token over no text
  pub mute_only : {xs : List Op} {k : List Lexeme} → IsMute n xs → Covers n xs k k
  mute_only p = record { most = (let a = p.none in omega (arith, a)) }

  -- tokens of no op behind
  pub past : {xs : List Op} {t m k : List Lexeme} → Covers n xs t m → Covers n [] m k → Covers n xs t k
  past p q = record { most = (let a = p.most in let b = q.most in omega (arith, a, b)) }

  pub ends : {it : Lexeme} {xs : List Op} {t k : List Lexeme} → Covers n xs t (it ∷ k) → Covers n xs t k
  ends p = past p (skip nothing)

  pub text_only : {xs : List Op} {t k : List Lexeme} → Covers n xs t k → Covers n [] t k
  text_only p = record { most = (let a = p.most in omega (arith, a)) }

  -- two tapes over one text

  pub alone : {xs : List Op} {t k : List Lexeme} → Covers n xs t k → CoversBoth n xs [] t k
  alone p = record { both = (let a = p.most in omega (arith, a)) }

  pub first_of : {xs us : List Op} {t k : List Lexeme} → CoversBoth n xs us t k → Covers n xs t k
  first_of p = record { most = (let a = p.both in omega (arith, a)) }

  pub side_by_side : {xs us ys vs : List Op} {t m k : List Lexeme} → CoversBoth n xs us t m → CoversBoth n ys vs m k →
      CoversBoth n (xs ++ ys) (us ++ vs) t k
  side_by_side {xs} {us} {ys} {vs} p q = record {
    both = (let e = counted_append n xs ys in let f = counted_append n us vs in
        let a = p.both in let b = q.both in omega (arith, e, f, a, b));
  }

  -- the second tape is one op at the first token
  pub keyed_beside : {it : Lexeme} {xs us : List Op} {t k : List Lexeme} → Covers n xs t k → StandsAt n us it.at →
      CoversBoth n xs us (it ∷ t) k
  keyed_beside p q = record { both = (let a = p.most in let b = q.one in omega (arith, a, b)) }

  pub one_by_one : {xs us ms : List Op} {t k : List Lexeme} → CoversBoth n xs us t k → IsMute n ms
      → Covers n (xs ++ ms ++ us) t k
  one_by_one {xs} {us} {ms} p q = record {
    most = (let e = counted_append n (xs ++ ms) us in let f = counted_append n xs ms in
        let a = p.both in let b = q.none in omega (arith, e, f, a, b));
  }

  -- the ops of another tape stand on none of the tokens

  pub reached : (os : List Op) {xs : List Op} {t k : List Lexeme} → Covers n xs t k → CoversBut n os (xs ++ os) t k
  reached os {xs} p = record { most = (let e = counted_append n xs os in let a = p.most in omega (arith, e, a)) }

  pub unreached : {os xs : List Op} {t k : List Lexeme} → Covers n xs t k → CoversBut n os xs t k
  unreached p = record { most = (let a = p.most in omega (arith, a)) }

  pub but_mute : {os xs ys : List Op} {t k : List Lexeme} → CoversBut n os xs t k → IsMute n ys
      → CoversBut n os (xs ++ ys) t k
  but_mute {xs = xs} {ys = ys} p q =
      record { most = (let e = counted_append n xs ys in let a = p.most in let b = q.none in omega (arith, e, a, b)) }

  pub but_then : {os xs ys : List Op} {t m k : List Lexeme} → CoversBut n os xs t m → Covers n ys m k →
      CoversBut n os (xs ++ ys) t k
  but_then {xs = xs} {ys = ys} p q =
      record { most = (let e = counted_append n xs ys in let a = p.most in let b = q.most in omega (arith, e, a, b)) }

  pub then_but : {os xs ys : List Op} {t m k : List Lexeme} → Covers n xs t m → CoversBut n os ys m k →
      CoversBut n os (xs ++ ys) t k
  then_but {xs = xs} {ys = ys} p q =
      record { most = (let e = counted_append n xs ys in let a = p.most in let b = q.most in omega (arith, e, a, b)) }

  pub but_past : {os xs : List Op} {t m k : List Lexeme} → CoversBut n os xs t m → Covers n [] m k
      → CoversBut n os xs t k
  but_past p q = record { most = (let a = p.most in let b = q.most in omega (arith, a, b)) }

  pub but_before : {os xs : List Op} {t m k : List Lexeme} → Covers n [] t m → CoversBut n os xs m k
      → CoversBut n os xs t k
  but_before p q = record { most = (let a = p.most in let b = q.most in omega (arith, a, b)) }

  -- that tape stands behind
  pub paid : {os xs : List Op} {t m k : List Lexeme} → CoversBut n os xs t m → Covers n os m k → Covers n xs t k
  paid p q = record { most = (let a = p.most in let b = q.most in omega (arith, a, b)) }
