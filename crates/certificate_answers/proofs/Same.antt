-- Written certificates have one text.
use Rattle.std.proofs.Common.{◌≡◌, ℕ, zero, suc, ◌==◌, Bool, List, [], ◌∷◌, ◌++◌, length, map, slice_get, slice_index, Some, refl, sym, ◌∙◌, ap, arith, cond}
use Rattle.qual_base.proofs.Tests.{same_test}
use Rattle.lattice_core.specs.Order.{Order}
use Rattle.flow_graph.specs.System.{System}
use Rattle.certificate_laws.specs.Certificates.{IsWritten}
use Rattle.closure_check.specs.declared.part.Part.{Part}
use Rattle.closure_check.specs.Parts.{certificate_of, is_among}
use Rattle.certificate_text.specs.declared.putting.SetLine.{SetLine}
use Rattle.certificate_text.specs.Names.{Named, names_in}
use Rattle.certificate_text.specs.Text.{Written, set_of, sets_of, pair_of, pairs_with, pairs_of, written, text_of}
use Rattle.certificate_answers.specs.Laws.{OneCertificate}
use Rattle.certificate_answers.proofs.Sets.{same_set}

-- the line of a variable by its sets
abbrev line_of : ℕ → ℕ → ℕ → List SetLine
line_of name first second = cond (second == 0) [] (record { name = name; first = first; second = second } ∷ [])

-- lists that say the same have the same lines
module _ (one other : Part) (firsts : (v : ℕ) → slice_index one.first.items v ≡ slice_index other.first.items v)
    (seconds : (v : ℕ) → slice_index one.second.items v ≡ slice_index other.second.items v)
    (pairs : (u v : ℕ) → is_among one.pairs.items u v ≡ is_among other.pairs.items u v) where
  same_line : (x : Named) → set_of one x ≡ set_of other x
  same_line x =
      ap (λ (first : ℕ). line_of x.name first (slice_index one.second.items x.var)) (firsts x.var)
      ∙ ap (λ (second : ℕ). line_of x.name (slice_index other.first.items x.var) second) (seconds x.var)

  same_sets : (names : List Named) → sets_of one names ≡ sets_of other names
  same_sets [] = refl
  same_sets (x ∷ names) =
      ap (λ (ls : List SetLine). ls ++ sets_of one names) (same_line x)
      ∙ ap (λ (ls : List SetLine). set_of other x ++ ls) (same_sets names)

  same_pair : (x y : Named) → pair_of one.pairs.items x y ≡ pair_of other.pairs.items x y
  same_pair x y = ap (λ (b : Bool). cond b ((x.name, y.name) ∷ []) []) (pairs x.var y.var)

  same_with : (x : Named) (names : List Named)
      → pairs_with one.pairs.items x names ≡ pairs_with other.pairs.items x names
  same_with x [] = refl
  same_with x (y ∷ names) =
      ap (λ (ps : List (ℕ × ℕ)). ps ++ pairs_with one.pairs.items x names) (same_pair x y)
      ∙ ap (λ (ps : List (ℕ × ℕ)). pair_of other.pairs.items x y ++ ps) (same_with x names)

  same_pairs : (names others : List Named)
      → pairs_of one.pairs.items names others ≡ pairs_of other.pairs.items names others
  same_pairs [] others = refl
  same_pairs (x ∷ names) others =
      ap (λ (ps : List (ℕ × ℕ)). ps ++ pairs_of one.pairs.items names others) (same_with x others)
      ∙ ap (λ (ps : List (ℕ × ℕ)). pairs_with other.pairs.items x others ++ ps) (same_pairs names others)

  same_lines : (sys : System) → written sys one ≡ written sys other
  same_lines sys =
      let names = names_in sys in
      ap (λ (sets : List SetLine). record { sets = sets; pairs = pairs_of one.pairs.items names names })
      (same_sets names)
      ∙ ap (λ (ps : List (ℕ × ℕ)). record { sets = sets_of other names; pairs = ps }) (same_pairs names names)

module _ (sys : System) where
  -- two certificates that are written of a lattice
  same_written : (lattice : ℕ) (one other : Part) → IsWritten sys lattice (certificate_of one)
      → IsWritten sys lattice (certificate_of other) → written sys one ≡ written sys other
  same_written lattice one other a b =
      same_lines one other (λ v. same_set (slice_index one.first.items v) (slice_index other.first.items v)
      (λ e h. (b.first v e).1 ((a.first v e).0 h)) (λ e h. (a.first v e).1 ((b.first v e).0 h)))
      (λ v. same_set (slice_index one.second.items v) (slice_index other.second.items v)
      (λ e h. (b.second v e).1 ((a.second v e).0 h)) (λ e h. (a.second v e).1 ((b.second v e).0 h)))
      (λ u v. same_test (is_among one.pairs.items u v) (is_among other.pairs.items u v)
      (λ h. (b.paired u v).1 ((a.paired u v).0 h)) (λ h. (a.paired u v).1 ((b.paired u v).0 h))) sys

  -- and those of all lattices
  all_same : (ones others : List Part) → length ones ≡ length others →
      ((n : ℕ) (one other : Part) → slice_get ones n ≡ Some one → slice_get others n ≡ Some other
      → written sys one ≡ written sys other) →
      map (λ (part : Part). written sys part) ones ≡ map (λ (part : Part). written sys part) others
  all_same [] [] many each = refl
  all_same [] (q ∷ qs) many each = absurd (omega (arith, many))
  all_same (p ∷ ps) [] many each = absurd (omega (arith, many))
  all_same (p ∷ ps) (q ∷ qs) many each =
      let rest = all_same ps qs (omega (arith, many)) (λ n one other a b. each (suc n) one other a b) in
      ap (λ (w : Written). w ∷ map (λ (part : Part). written sys part) ps) (each 0 p q refl refl)
      ∙ ap (λ (ws : List Written). written sys q ∷ ws) rest

-- an order for each part
order_at : (orders : List Order) (parts : List Part) (n : ℕ) (part : Part) → length parts ≡ length orders
    → slice_get parts n ≡ Some part → (order : Order) × (slice_get orders n ≡ Some order)
order_at orders [] n part many there = absurd cc
order_at [] (p ∷ ps) n part many there = absurd (omega (arith, many))
order_at (o ∷ os) (p ∷ ps) zero part many there = (o, refl)
order_at (o ∷ os) (p ∷ ps) (suc n) part many there = order_at os ps n part (omega (arith, many)) there

-- two texts of certificates of one system are equal
pub one_certificate : OneCertificate
one_certificate sys orders text other a b =
    let same = all_same sys a.parts b.parts (a.written.as_many ∙ sym b.written.as_many)
    (λ n one two o p.
    let order = order_at orders a.parts n one a.written.as_many o in
    same_written sys n one two (a.written.each n order.0 one order.1 o).1 (b.written.each n order.0 two order.1 p).1) in
    a.spelled ∙ ap text_of same ∙ sym b.spelled
