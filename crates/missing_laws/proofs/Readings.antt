-- What operators make of operands whose skeletons are those of their types.
use Rattle.std.proofs.Common.{◌≡◌, ℕ, ◌+◌, Bool, true, false, [], Option, None, Some, refl, ap, subst, ◌∙◌}
use Rattle.std.specs.Prelude.{◌&&◌, ◌||◌, not, if◌then◌else◌}
use Rattle.std.proofs.lemmas.Bool.{not-true, and_right}
use Rattle.c_words.specs.declared.kinds.Punct.{Punct}
use Rattle.type_table.specs.Types.{CType, base, void, struct, pointer, function}
use Rattle.qual_types.specs.Skel.{Skel, numbered, within}
use Rattle.name_rules.specs.Values.{is_base_value, is_no_pointer, is_vector_index, index_shape, Shape, read_from, some_read_from, is_pointer, is_additive, sum_type, binary_type, points_to_some, second_branch, branches_type, cond_type, target, some_target, index_type, some_result_type, result_type, address}
use Rattle.name_rules.specs.Values as shapes
use Rattle.name_rules.specs.Uses.{assigned_shape}
use Rattle.row_rules.specs.Starting.{is_fresh_sum, is_fresh_binary, is_some_pointer}
use Rattle.row_rules.specs.Vals.{index_of, Val, a_value, a_place, contents, result, is_ref, sum_of, binary_of, value}

-- whether an operand is a pointer

-- the skeleton of a type is a reference exactly where the type is a pointer
pub ref_where : (t : CType) (n : ℕ) → is_ref (numbered t n) ≡ is_pointer t
ref_where (base ws) n = refl
ref_where (void ws) n = refl
ref_where (struct ws s) n = refl
ref_where (pointer ws t) n = refl
ref_where (function ws ps r e) n = refl

pub chosen_where : (b c : Bool) (x y z : Skel) → b ≡ c → (if c then x else y) ≡ z → (if b then x else y) ≡ z
chosen_where b c x y z e h = rw e h

sum_where : (b c d e : Bool) (x y o z : Skel) → b ≡ c → d ≡ e → sum_of c e x y o ≡ z → sum_of b d x y o ≡ z
sum_where b c d e x y o z is it h = rw is rw it h

-- where one of two skeletons is a reference, they are not both none
one_is_ref : (x y : Skel) → is_ref (if is_ref x then x else y) ≡ true → (not (is_ref x) && not (is_ref y)) ≡ false
one_is_ref x y h = by (is_ref x) h
  where
    by : (b : Bool) → is_ref (if b then x else y) ≡ true → (not b && not (is_ref y)) ≡ false
    by true h = refl
    by false h = ap not h

-- where wider C has an index into a vector, neither operand of it is a reference
vector_where : (wide numbers last r r2 : Bool) → (wide && (numbers && last)) ≡ true → (numbers ≡ true → r ≡ false) →
    (last ≡ true → r2 ≡ false) → (wide && (not r && not r2)) ≡ true
vector_where true true true r r2 e g l = rw (g refl) rw (l refl) refl
vector_where true true false r r2 e g l = absurd cc
vector_where true false last r r2 e g l = absurd cc
vector_where false numbers last r r2 e g l = absurd cc

abbrev pub shape : Bool → Option CType → Shape
shape b o = record { is_place = b; type = o }

-- a skeleton in each of some worlds
module _ {K : Type 0} where
  -- it is that of this type, of one number in all worlds
  abbrev pub IsOf : CType → (K → Skel) → Type 0
  IsOf t x = (n : ℕ) × ((k : K) → x k ≡ numbered t n)

  -- it is that of the type, where there is one
  abbrev pub Reads : Option CType → (K → Skel) → Type 0
  Reads o x = (t : CType) → o ≡ Some t → IsOf t x

  -- an operand is of this type
  abbrev pub IsOperand : Shape → CType → (K → Val) → Type 0
  IsOperand s t v =
      (n : ℕ) × ((k : K) → v k ≡ record { is_place = s.is_place; skel = numbered (within s.is_place t) n })

  abbrev pub Agrees : Shape → (K → Val) → Type 0
  Agrees s v = (t : CType) → s.type ≡ Some t → IsOperand s t v

  pub as_value : (o : Option CType) (x : K → Skel) → Reads o x → Agrees (shapes.a_value o) (λ k. a_value (x k))
  as_value o x g t h = let one = g t h in (one.0, λ k. ap a_value (one.1 k))

  pub as_place : (o : Option CType) (x : K → Skel) → ((t : CType) → o ≡ Some t → IsOf (pointer [] t) x) →
      Agrees (shapes.a_place o) (λ k. a_place (x k))
  as_place o x g t h = let one = g t h in (one.0, λ k. ap a_place (one.1 k))

  same_type : (t u : CType) (x : K → Skel) → Some t ≡ Some u → IsOf t x → IsOf u x
  same_type t u x h one = let e : t ≡ u = cc in subst (λ (v : CType). IsOf v x) e one

  -- the value of a place

  read_place : (t : CType) (n : ℕ) (v : K → Val) → ((k : K) → v k ≡ a_place (numbered (pointer [] t) n)) →
      IsOf (read_from t) (λ k. value (v k))
  read_place (base ws) n v g = (n + 1, λ k. ap value (g k))
  read_place (void ws) n v g = (n + 1, λ k. ap value (g k))
  read_place (struct ws s) n v g = (n + 1, λ k. ap value (g k))
  read_place (pointer ws t) n v g = (n + 1, λ k. ap value (g k))
  read_place (function ws ps r e) n v g = (n, λ k. ap value (g k))

  pub value_reads : (s : Shape) (v : K → Val) → Agrees s v → Reads (shapes.value s) (λ k. value (v k))
  value_reads s v g = by s.is_place s.type g
    where
      by : (b : Bool) (o : Option CType) → Agrees (shape b o) v → Reads (shapes.value (shape b o)) (λ k. value (v k))
      by true None g t h = absurd cc
      by true (Some u) g t h =
          let one = g u refl in same_type (read_from u) t (λ k. value (v k)) h (read_place u one.0 v one.1)
      by false o g t h = let one = g t h in (one.0, λ k. ap value (one.1 k))

  -- what it refers to, and a function's result

  pub target_reads : (o : Option CType) (x : K → Skel) → Reads o x → (t : CType) → some_target o ≡ Some t →
      IsOf (pointer [] t) x
  target_reads None x g t h = absurd cc
  target_reads (Some (pointer ws u)) x g t h =
      let e : u ≡ t = cc in subst (λ (v : CType). IsOf (pointer [] v) x) e (g (pointer ws u) refl)
  target_reads (Some (base ws)) x g t h = absurd cc
  target_reads (Some (void ws)) x g t h = absurd cc
  target_reads (Some (struct ws s)) x g t h = absurd cc
  target_reads (Some (function ws ps r e)) x g t h = absurd cc

  pub contents_read : (o : Option CType) (x : K → Skel) → Reads o x → Reads (some_target o) (λ k. contents (x k))
  contents_read o x g t h = let one = target_reads o x g t h in (one.0 + 1, λ k. ap contents (one.1 k))

  outcome : (t : CType) (x : K → Skel) → IsOf t x → Reads (result_type t) (λ k. result (contents (x k)))
  outcome (pointer ws (function vs ps r e)) x one t h =
      same_type r t (λ k. result (contents (x k))) h (_, λ k. ap (λ s. result (contents s)) (one.1 k))
  outcome (pointer ws (pointer vs u)) x one t h = absurd cc
  outcome (pointer ws (base vs)) x one t h = absurd cc
  outcome (pointer ws (void vs)) x one t h = absurd cc
  outcome (pointer ws (struct vs s)) x one t h = absurd cc
  outcome (base ws) x one t h = absurd cc
  outcome (void ws) x one t h = absurd cc
  outcome (struct ws s) x one t h = absurd cc
  outcome (function ws ps r e) x one t h = absurd cc

  pub result_reads : (o : Option CType) (x : K → Skel) → Reads o x →
      Reads (some_result_type o) (λ k. result (contents (x k)))
  result_reads None x g t h = absurd cc
  result_reads (Some u) x g t h = outcome u x (g u refl) t h

  -- addresses and assignments

  pub address_reads : (s : Shape) (v : K → Val) → Agrees s v → Reads (address s) (λ k. (v k).skel)
  address_reads s v g = by s.is_place s.type g
    where
      by : (b : Bool) (o : Option CType) → Agrees (shape b o) v → Reads (address (shape b o)) (λ k. (v k).skel)
      by true None g t h = absurd cc
      by true (Some u) g t h = let one = g u refl in
          same_type (pointer [] u) t (λ k. (v k).skel) h (one.0, λ k. ap (λ (it : Val). it.skel) (one.1 k))
      by false o g t h = absurd cc

  pub assigned_agrees : (s : Shape) (v : K → Val) → Agrees s v →
      Agrees (assigned_shape s) (λ k. a_value (contents (v k).skel))
  assigned_agrees s v g = by s.is_place s.type g
    where
      by : (b : Bool) (o : Option CType) → Agrees (shape b o) v →
          Agrees (assigned_shape (shape b o)) (λ k. a_value (contents (v k).skel))
      by true o g t h =
          let one = g t h in (one.0 + 1, λ k. ap (λ (it : Val). a_value (contents it.skel)) (one.1 k))
      by false o g t h = absurd cc

  pub index_reads : (a b : Option CType) (x y : K → Skel) → Reads a x → Reads b y → (t : CType) →
      index_type a b ≡ Some t → IsOf (pointer [] t) (λ k. if is_ref (x k) then x k else y k)
  index_reads None b x y g l t h = absurd cc
  index_reads (Some u) b x y g l t h = by u (g u refl) h
    where
      at_left : (u : CType) (n : ℕ) (k : K) → x k ≡ numbered u n → is_ref (x k) ≡ is_pointer u
      at_left u n k e = ap is_ref e ∙ ref_where u n

      right : (u : CType) → IsOf u x → is_pointer u ≡ false → some_target b ≡ Some t →
          IsOf (pointer [] t) (λ k. if is_ref (x k) then x k else y k)
      right u one e h = let two = target_reads b y l t h in (
        two.0,
        λ k. chosen_where (is_ref (x k)) false (x k) (y k) (numbered (pointer [] t) two.0)
            (at_left u one.0 k (one.1 k) ∙ e) (two.1 k),
      )

      by : (u : CType) → IsOf u x → (if is_pointer u then target u else some_target b) ≡ Some t →
          IsOf (pointer [] t) (λ k. if is_ref (x k) then x k else y k)
      by (pointer ws u) one h = let e : u ≡ t = cc in
          subst (λ (v : CType). IsOf (pointer [] v) (λ k. if is_ref (x k) then x k else y k)) e (
            one.0,
            λ k. chosen_where (is_ref (x k)) true (x k) (y k) (numbered (pointer [] u) one.0)
                (at_left (pointer ws u) one.0 k (one.1 k)) (one.1 k),
          )
      by (base ws) one h = right (base ws) one refl h
      by (void ws) one h = right (void ws) one refl h
      by (struct ws s) one h = right (struct ws s) one refl h
      by (function ws ps r e) one h = right (function ws ps r e) one refl h

  -- an element of a vector is as the vector is, and else it is a place

  base_no_ref : (o : Option CType) (x : K → Skel) → Reads o x → is_base_value o ≡ true → (k : K) → is_ref (x k) ≡ false
  base_no_ref None x g e k = absurd cc
  base_no_ref (Some (base ws)) x g e k =
      let one = g (base ws) refl in ap is_ref (one.1 k) ∙ ref_where (base ws) one.0
  base_no_ref (Some (void ws)) x g e k = absurd cc
  base_no_ref (Some (struct ws n)) x g e k = absurd cc
  base_no_ref (Some (pointer ws t)) x g e k = absurd cc
  base_no_ref (Some (function ws ps r e2)) x g e k = absurd cc

  other_no_ref : (o : Option CType) (x : K → Skel) → Reads o x → is_no_pointer o ≡ true → (k : K) → is_ref (x k) ≡ false
  other_no_ref None x g e k = absurd cc
  other_no_ref (Some u) x g e k =
      let one = g u refl in ap is_ref (one.1 k) ∙ (ref_where u one.0 ∙ not-true (is_pointer u) e)

  pub index_agrees : (wide : Bool) (s s2 : Shape) (v v2 : K → Val) → Agrees s v → Agrees s2 v2 →
      Agrees (index_shape wide s s2) (λ k. index_of wide (v k) (v2 k))
  index_agrees wide s s2 v v2 g l = by (is_vector_index wide s s2) refl
    where
      is_vector : is_vector_index wide s s2 ≡ true → (k : K) →
          (wide && (not (is_ref (value (v k))) && not (is_ref (value (v2 k))))) ≡ true
      is_vector e k = vector_where wide (is_base_value (shapes.value s)) (is_no_pointer (shapes.value s2))
          (is_ref (value (v k))) (is_ref (value (v2 k))) e
          (λ b. base_no_ref (shapes.value s) (λ k. value (v k)) (value_reads s v g) b k)
          (λ b. other_no_ref (shapes.value s2) (λ k. value (v2 k)) (value_reads s2 v2 l) b k)

      place : (t : CType) (n : ℕ) (k : K) →
          (if is_ref (value (v k)) then value (v k) else value (v2 k)) ≡ numbered (pointer [] t) n →
          (wide && (not (is_ref (value (v k))) && not (is_ref (value (v2 k))))) ≡ false
      place t n k e =
          and_right wide _ (one_is_ref (value (v k)) (value (v2 k)) (ap is_ref e ∙ ref_where (pointer [] t) n))

      by : (b : Bool) → is_vector_index wide s s2 ≡ b →
          Agrees (if b then s else shapes.a_place (index_type (shapes.value s) (shapes.value s2)))
          (λ k. index_of wide (v k) (v2 k))
      by true e t h = let one = g t h in (
        one.0,
        λ k. ap (λ (b : Bool). if b then v k else a_place (if is_ref (value (v k)) then value (v k) else value (v2 k)))
            (is_vector e k) ∙ one.1 k,
      )
      by false e t h =
          let one = index_reads (shapes.value s) (shapes.value s2) (λ k. value (v k)) (λ k. value (v2 k))
          (value_reads s v g) (value_reads s2 v2 l) t h in (
            one.0,
            λ k.
                ap (λ (b : Bool). if b then v k
                else a_place (if is_ref (value (v k)) then value (v k) else value (v2 k)))
                (place t one.0 k (one.1 k)) ∙ ap a_place (one.1 k),
          )

  -- sums, other operators and conditions

  sum_reads : (a b : Option CType) (x y o : K → Skel) → Reads a x → Reads b y →
      (is_fresh_sum (is_some_pointer a) (is_some_pointer b) ≡ true → IsOf (base []) o) →
      Reads (sum_type a b) (λ k. sum_of (is_ref (x k)) (is_ref (y k)) (x k) (y k) (o k))
  sum_reads None b x y o g l f t h = absurd cc
  sum_reads (Some u) None x y o g l f t h = absurd cc
  sum_reads (Some u) (Some v) x y o g l f t h =
      by (is_pointer u) (is_pointer v) (λ k. ap is_ref (one.1 k) ∙ ref_where u one.0)
      (λ k. ap is_ref (two.1 k) ∙ ref_where v two.0) f h
    where
      one : IsOf u x
      one = g u refl

      two : IsOf v y
      two = l v refl

      summed : K → Skel
      summed k = sum_of (is_ref (x k)) (is_ref (y k)) (x k) (y k) (o k)

      by : (c d : Bool) → ((k : K) → is_ref (x k) ≡ c) → ((k : K) → is_ref (y k) ≡ d) →
          (is_fresh_sum c d ≡ true → IsOf (base []) o) →
          Some (if c then (if d then base [] else u) else if d then v else base []) ≡ Some t →
          IsOf t (λ k. sum_of (is_ref (x k)) (is_ref (y k)) (x k) (y k) (o k))
      by true true is it f h = let own = f refl in same_type (base []) t summed h (
        own.0,
        λ k.
            sum_where (is_ref (x k)) true (is_ref (y k)) true (x k) (y k) (o k) (numbered (base []) own.0) (is k) (it k)
            (own.1 k),
      )
      by true false is it f h = same_type u t summed h (
        one.0,
        λ k.
            sum_where (is_ref (x k)) true (is_ref (y k)) false (x k) (y k) (o k) (numbered u one.0) (is k)
            (it k) (one.1 k),
      )
      by false true is it f h = same_type v t summed h (
        two.0,
        λ k.
            sum_where (is_ref (x k)) false (is_ref (y k)) true (x k) (y k) (o k) (numbered v two.0) (is k)
            (it k) (two.1 k),
      )
      by false false is it f h = let own = f refl in same_type (base []) t summed h (
        own.0,
        λ k.
            sum_where (is_ref (x k)) false (is_ref (y k)) false (x k) (y k) (o k)
            (numbered (base []) own.0) (is k) (it k)
            (own.1 k),
      )

  pub binary_reads : (p : Punct) (a b : Option CType) (x y o : K → Skel) → Reads a x → Reads b y →
      (is_fresh_binary p (is_some_pointer a) (is_some_pointer b) ≡ true → IsOf (base []) o) →
      Reads (binary_type p a b) (λ k. binary_of p (x k) (y k) (o k))
  binary_reads p a b x y o g l f = by (is_additive p) f
    where
      by : (c : Bool) →
          ((not c || is_fresh_sum (is_some_pointer a) (is_some_pointer b)) ≡ true → IsOf (base []) o) →
          Reads (if c then sum_type a b else Some (base []))
          (λ k. if c then sum_of (is_ref (x k)) (is_ref (y k)) (x k) (y k) (o k) else o k)
      by true f t h = sum_reads a b x y o g l f t h
      by false f t h = same_type (base []) t o h (f refl)

  pub cond_reads : (first last : Bool) (a b : Option CType) (x y o : K → Skel) → Reads a x → Reads b y →
      ((not first && not last) ≡ true → Reads (cond_type first last a b) o) →
      Reads (cond_type first last a b) (λ k. if last then x k else if first then y k else o k)
  cond_reads true true a b x y o g l f = g
  cond_reads false true a b x y o g l f = g
  cond_reads true false a b x y o g l f = l
  cond_reads false false a b x y o g l f = f refl
