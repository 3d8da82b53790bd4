-- From the answer for the blocks of a text to the answer for its bytes.
use Rattle.std.proofs.Common.{◌≡◌, ℕ, Bool, ◌<◌, ◌≤◌, ◌+◌, ◌-◌, zero, suc, List, ◌++◌, length, take, drop, refl, sym, subst, arith, Result}
use Rattle.std.proofs.lemmas.List.{take-append-drop}
use Rattle.lattice_core.specs.View.{LatticeView}
use Rattle.lattice_file.specs.Blocks.{BlockView}
use Rattle.lattice_file.specs.Text.{IsLatticeText}
use Rattle.lattice_file.specs.Begins.{BeginsText, IsFirstBad}
use Rattle.lattice_file.specs.Faults.{IsAnswerFor}
use Rattle.lattice_file.specs.declared.reading.LatticeFileFault.{LatticeFileFault}
use Rattle.lattice_file.proofs.OneReading.{one_reading}
use Rattle.lattice_file.proofs.FirstBad.{take_front}
use Rattle.std.specs.List.{slice_range}

pub answer_only : (wide : Bool) (bytes : List ℕ) (blocks other : List BlockView)
    (r : Result (List LatticeView) LatticeFileFault)
    → IsLatticeText wide blocks bytes → IsAnswerFor blocks r → IsLatticeText wide other bytes → IsAnswerFor other r
answer_only wide bytes blocks other r text h also =
    subst (λ (bs : List BlockView). IsAnswerFor bs r) (one_reading wide blocks other bytes text also) h

-- bytes with a first bad place are no text
pub bad_no_text : (wide : Bool) (bytes : List ℕ) (place : ℕ) (blocks : List BlockView) → IsFirstBad wide bytes place
    → IsLatticeText wide blocks bytes → ⊥
bad_no_text wide bytes place blocks bad text = by (length bytes - place) (omega (arith, bad.within))
  where
    by : (n : ℕ) → length bytes ≡ place + n → ⊥
    by zero e = bad.ends_behind (omega (arith, e)) blocks text
    by (suc n) e = bad.ends_in_bytes (omega (arith, e)) (record {
      more = drop (place + 1) bytes;
      blocks = blocks;
      text = subst (λ (bs : List ℕ). IsLatticeText wide blocks bs) (sym (take-append-drop (place + 1) bytes)) text;
    })

-- bytes that begin a text up to one place do so up to and with each byte before it
shorter : (wide : Bool) (bytes : List ℕ) (p q : ℕ) → p < q → q ≤ length bytes → BeginsText wide (take q bytes)
    → BeginsText wide (take (p + 1) bytes)
shorter wide bytes p q less within begins = record {
  more = slice_range bytes (p + 1) q ++ begins.more;
  blocks = begins.blocks;
  text = subst (λ (bs : List ℕ). IsLatticeText wide begins.blocks bs)
      (sym (take_front bytes begins.more (p + 1) q (omega (arith, less)) within)) begins.text;
}

-- the first bad place is one
pub one_place : (wide : Bool) (bytes : List ℕ) (p q : ℕ) → IsFirstBad wide bytes p → IsFirstBad wide bytes q → p ≡ q
one_place wide bytes p q one other = by (q - p) refl (p - q) refl
  where
    earlier : (p q : ℕ) → IsFirstBad wide bytes p → IsFirstBad wide bytes q → p < q → ⊥
    earlier p q one other less =
        one.ends_in_bytes (omega (arith, less, other.within)) (shorter wide bytes p q less other.within other.begins)

    by : (n : ℕ) → q - p ≡ n → (m : ℕ) → p - q ≡ m → p ≡ q
    by zero e zero f = omega (arith, e, f)
    by (suc n) e m f = absurd (earlier p q one other (omega (arith, e)))
    by zero e (suc m) f = absurd (earlier q p other one (omega (arith, f)))
