-- How long parts of tapes are against their texts.
use Rattle.std.proofs.Common.{ℕ, ◌+◌, ◌*◌, ◌≤◌, List, [], ◌∷◌, ◌++◌, length, length-append, arith}
use Rattle.tape_ops.specs.declared.op.Op.{Op}
use Rattle.c_tree.specs.declared.lexeme.Lexeme.{Lexeme}

-- a tape has at most two ops for each token of the text before `k`, `over` more and `spare` fewer
pub record Fits (over spare : ℕ) (tape : List Op) (text k : List Lexeme) : Type 0 where
  pub most : length tape + spare + 2 * length k ≤ 2 * length text + over

-- the same of two tapes together that stand on one text
pub record FitBoth (over spare : ℕ) (tape other : List Op) (text k : List Lexeme) : Type 0 where
  pub both : length tape + length other + spare + 2 * length k ≤ 2 * length text + over

pub nothing : {k : List Lexeme} → Fits 0 0 [] k k
nothing = record { most = omega arith }

-- ops whose tokens stand elsewhere
pub elsewhere : (tape : List Op) {k : List Lexeme} → Fits (length tape) 0 tape k k
elsewhere tape = record { most = omega arith }

-- an op without a token
pub one : {op : Op} {k : List Lexeme} → Fits 1 0 (op ∷ []) k k
one = record { most = omega arith }

module _ {m l n o : ℕ} where
  -- spare ops make up for those over
  pub so : {xs : List Op} {t k : List Lexeme} → Fits m l xs t k → o + m ≤ l + n → Fits n o xs t k
  so p h = record { most = (let a = p.most in omega (arith, a, h)) }

  pub join : {xs ys : List Op} {t u k : List Lexeme} → Fits m l xs t u → Fits n o ys u k →
      Fits (m + n) (l + o) (xs ++ ys) t k
  join {xs} {ys} p q =
      record { most = (let e = length-append xs ys in let a = p.most in let b = q.most in omega (arith, e, a, b)) }

  -- tokens of no op behind
  pub past : {xs : List Op} {t u k : List Lexeme} → Fits m l xs t u → Fits n o [] u k → Fits (m + n) (l + o) xs t k
  past p q = record { most = (let a = p.most in let b = q.most in omega (arith, a, b)) }

  -- two tapes over one text

  pub both_so : {xs us : List Op} {t k : List Lexeme} → FitBoth m l xs us t k → o + m ≤ l + n → FitBoth n o xs us t k
  both_so p h = record { both = (let a = p.both in omega (arith, a, h)) }

  -- the first tape is that of the front of the text, or the second is
  pub pair : {xs us : List Op} {t u k : List Lexeme} → Fits m l xs t u → Fits n o us u k
      → FitBoth (m + n) (l + o) xs us t k
  pair p q = record { both = (let a = p.most in let b = q.most in omega (arith, a, b)) }

  pub crossed : {xs us : List Op} {t u k : List Lexeme} → Fits m l us t u → Fits n o xs u k
      → FitBoth (m + n) (l + o) xs us t k
  crossed p q = record { both = (let a = p.most in let b = q.most in omega (arith, a, b)) }

  pub side_by_side : {xs us ys vs : List Op} {t u k : List Lexeme} → FitBoth m l xs us t u → FitBoth n o ys vs u k →
      FitBoth (m + n) (l + o) (xs ++ ys) (us ++ vs) t k
  side_by_side {xs} {us} {ys} {vs} p q = record {
    both = (let e = length-append xs ys in let f = length-append us vs in let a = p.both in let b = q.both in
        omega (arith, e, f, a, b));
  }

  -- the second tape has its parts in the other order
  pub inside_out : {xs us ys vs : List Op} {t u k : List Lexeme} → FitBoth m l xs us t u → FitBoth n o ys vs u k →
      FitBoth (m + n) (l + o) (xs ++ ys) (vs ++ us) t k
  inside_out {xs} {us} {ys} {vs} p q = record {
    both = (let e = length-append xs ys in let f = length-append vs us in let a = p.both in let b = q.both in
        omega (arith, e, f, a, b));
  }

  -- the front of the text has ops in the second tape alone
  pub before : {xs us vs : List Op} {t u k : List Lexeme} → Fits m l us t u → FitBoth n o xs vs u k →
      FitBoth (m + n) (l + o) xs (us ++ vs) t k
  before {us = us} {vs = vs} p q = record {
    both = (let e = length-append us vs in let a = p.most in let b = q.both in omega (arith, e, a, b));
  }

  pub both_past : {xs us : List Op} {t u k : List Lexeme} → FitBoth m l xs us t u → Fits n o [] u k →
      FitBoth (m + n) (l + o) xs us t k
  both_past p q = record { both = (let a = p.both in let b = q.most in omega (arith, a, b)) }

  -- the first tape goes on
  pub goes_on : {xs us ys : List Op} {t u k : List Lexeme} → FitBoth m l xs us t u → Fits n o ys u k →
      FitBoth (m + n) (l + o) (xs ++ ys) us t k
  goes_on {xs} {ys = ys} p q =
      record { both = (let e = length-append xs ys in let a = p.both in let b = q.most in omega (arith, e, a, b)) }

  -- the ops of the front of the text are in no tape here
  pub makes_room : {xs ys : List Op} {t u k : List Lexeme} → Fits m l xs t u → Fits n o ys u k →
      Fits (m + n) (length xs + l + o) ys t k
  makes_room p q = record { most = (let a = p.most in let b = q.most in omega (arith, a, b)) }

  -- behind what stands before them, one behind the other
  pub join_both : {xs ys vs : List Op} {t u k : List Lexeme} → Fits m l xs t u → FitBoth n o ys vs u k →
      Fits (m + n) (l + o) (xs ++ ys ++ vs) t k
  join_both {xs} {ys} {vs} p q = record {
    most = (let e = length-append (xs ++ ys) vs in let f = length-append xs ys in let a = p.most in let b = q.both in
        omega (arith, e, f, a, b));
  }

  -- the same with an op between them
  pub join_parted : {xs ys vs op : List Op} {t u k : List Lexeme} → Fits m l xs t u → FitBoth n o ys vs u k
      → Fits 1 0 op k k →
      Fits (1 + (m + n)) (l + o) (xs ++ ys ++ op ++ vs) t k
  join_parted {xs} {ys} {vs} {op} p q r = record {
    most = (let e = length-append (xs ++ ys ++ op) vs in let f = length-append (xs ++ ys) op in
        let g = length-append xs ys in let a = p.most in let b = q.both in let c = r.most in
        omega (arith, e, f, g, a, b, c));
  }

module _ {m l : ℕ} where
  -- a token of no op
  pub skip : {xs : List Op} {it : Lexeme} {t k : List Lexeme} → Fits m l xs t k → Fits m (2 + l) xs (it ∷ t) k
  skip p = record { most = (let a = p.most in omega (arith, a)) }

  pub ends : {it : Lexeme} {xs : List Op} {t k : List Lexeme} → Fits m l xs t (it ∷ k) → Fits m (2 + l) xs t k
  ends p = record { most = (let a = p.most in omega (arith, a)) }

  -- tokens of no op, not counted
  pub skips : (front : List Lexeme) {xs : List Op} {t k : List Lexeme} → Fits m l xs t k → Fits m l xs (front ++ t) k
  skips front {t = t} p = record { most = (let e = length-append front t in let a = p.most in omega (arith, e, a)) }

  pub text_only : {xs : List Op} {t k : List Lexeme} → Fits m l xs t k → Fits m l [] t k
  text_only p = record { most = (let a = p.most in omega (arith, a)) }

  pub both_skip : {xs us : List Op} {it : Lexeme} {t k : List Lexeme} → FitBoth m l xs us t k
      → FitBoth m (2 + l) xs us (it ∷ t) k
  both_skip p = record { both = (let a = p.both in omega (arith, a)) }

  pub first_of : {xs us : List Op} {t k : List Lexeme} → FitBoth m l xs us t k → Fits m l xs t k
  first_of p = record { most = (let a = p.both in omega (arith, a)) }

  pub first_only : {xs : List Op} {t k : List Lexeme} → Fits m l xs t k → FitBoth m l xs [] t k
  first_only p = record { both = (let a = p.most in omega (arith, a)) }

  pub second_only : {us : List Op} {t k : List Lexeme} → Fits m l us t k → FitBoth m l [] us t k
  second_only p = record { both = (let a = p.most in omega (arith, a)) }

  pub one_by_one : {xs us : List Op} {t k : List Lexeme} → FitBoth m l xs us t k → Fits m l (xs ++ us) t k
  one_by_one {xs} {us} p = record { most = (let e = length-append xs us in let a = p.both in omega (arith, e, a)) }

  -- the second tape with an op before it and one behind it
  pub listed : {xs us begin end : List Op} {t k : List Lexeme} → Fits 1 0 begin k k → FitBoth m l xs us t k
      → Fits 1 0 end k k →
      FitBoth (2 + m) l xs (begin ++ us ++ end) t k
  listed {us = us} {begin = begin} {end = end} p q r = record {
    both = (let e = length-append (begin ++ us) end in let f = length-append begin us in
        let a = p.most in let b = q.both in let c = r.most in omega (arith, e, f, a, b, c));
  }
